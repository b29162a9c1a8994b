use Rattle.std.proofs.Common.{ap, ◌∙◌}
use Rattle.rand_xoshiro.specs.SplitMix64.{mix_u64}
use Rattle.run_scripts.specs.Draws.{drawn_eviction, drawn_evictions}
use Rattle.run_scripts.proofs.DrawnEvictions.{words_from}
use Rattle.run_scripts.proofs.evictor.Evictor.new.Goals as goal

pub returns-clause-drawn : goal.returns-clause-drawn
unfolding drawn_evictions
returns-clause-drawn c n =
    let drawn = c.next_word-word.ensures ∙ ap mix_u64 c.seed_from_u64-words.ensures.same in
    ap (drawn_eviction c.args.log c.args.threads c.args.lines) (words_from c.args.seed c.next_word-word.result c.next_word-word.new.self drawn n)

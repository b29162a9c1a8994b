use Rattle.std.proofs.Common.{ap}
use Rattle.run_scripts.specs.Draws.{drawn_eviction}
use Rattle.run_scripts.proofs.DrawnEvictions.{words_after}
use Rattle.run_scripts.proofs.evictor.EvictorEvictions.advance.Goals as goal

pub returns : goal.returns
returns c n =
    let e = c.args.self.now in
    ap (drawn_eviction e.log e.threads e.lines)
    (words_after e.word e.words c.next_word-self.result c.next_word-self.new.self c.next_word-self.ensures n)

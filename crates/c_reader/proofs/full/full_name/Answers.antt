-- A word is what the table says, or a name.
use Rattle.std.proofs.Common.{sym, ◌∙◌}
use Rattle.std.specs.Prelude.{find}
use Rattle.c_tree.specs.LexicalScan.{more_reserved, same}
use Rattle.c_reader.proofs.Prefixes.{by_keyword, by_name}
use Rattle.c_reader.proofs.full.full_name.Goals as goal

pub returns-in-Some : goal.returns-in-Some
returns-in-Some c =
    let word = c.args.word.now in
    sym (by_keyword word (find (λ e. same e.0 word) more_reserved) c.in-Some.keyword (sym c.more_keyword.ensures ∙ c.in-Some.is))

pub returns-in-None : goal.returns-in-None
returns-in-None c =
    let word = c.args.word.now in
    sym (by_name word (find (λ e. same e.0 word) more_reserved) (sym c.more_keyword.ensures ∙ c.in-None.is))

use Rattle.std.proofs.Common.{◌∙◌, ap, sym}
use Rattle.std.proofs.lemmas.List.Folds.{length-prefix_len}
use Rattle.c_tree.specs.LexicalScan.{Blank}
use Rattle.c_reader.proofs.prefix.line_comment.Goals as goal

pub returns : goal.returns
returns c = ap Blank (c.length_of_line.ensures.value ∙ sym (length-prefix_len _ c.args.text.now))

use Rattle.std.proofs.Common.{◌≡◌, drop}
use Rattle.c_tree.specs.LexicalScan.{through_comment}
use Rattle.c_reader.proofs.Comments.{through_at}
use Rattle.c_reader.proofs.prefix.through_comment.Given as goal

abbrev pub invariant-loop-i : goal.invariant-loop-i
invariant-loop-i l = through_at l.i l.after_star (drop l.i l.text) ≡ through_comment l.text

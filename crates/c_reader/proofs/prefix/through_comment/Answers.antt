use Rattle.c_reader.proofs.Comments.{through_start}
use Rattle.c_reader.proofs.prefix.through_comment.Goals as goal

pub loop-i-init : goal.loop-i-init
loop-i-init c = through_start c.args.text.now

use Rattle.std.proofs.Common.{ap, ◌++◌, ◌∙◌}
use Rattle.std.proofs.lemmas.Result.{on_ok_weaker}
use Rattle.file_fields.specs.Numbers.{number}
use Rattle.crash_images.specs.Contents.{number_of, written_as}
use Rattle.crash_images.proofs.WrittenImages.{source_put}
use Rattle.crash_images.proofs.writing.put_source.Goals as goal

pub returns : goal.returns
returns c =
    let x = c.put.new.out.items in
    on_ok_weaker c.put-2.result (λ e.
    source_put (written_as c.args.log) c.args.out.now.items x c.put_number.new.out.items c.put_number-2.new.out.items c.put-2.new.out.items
    c.args.source.now c.in_ok-put.ensures
    (c.in_ok-put_number.ensures ∙ ap (λ n. x ++ number n) (c.number.ensures.is ∙ ap number_of c.written_as.ensures))
    c.in_ok-put_number-2.ensures e) c.put-2.ensures

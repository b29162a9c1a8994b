use Rattle.file_fields.specs.declared.error.ReadError.{ReadError}
use Rattle.file_fields.specs.Fields.{Magic, Version, Cut, Field, Rest}
use Rattle.file_fields.specs.links.ReaderResults.{Fails}
use Rattle.object_format.specs.Contents.{contents_of}
use Rattle.object_format.specs.ObjectDecoder.{read}
use Rattle.std.proofs.Common.{refl, subst}
use Rattle.ido_cli.specs.Answers.{of_object}
use Rattle.ido_cli.proofs.InputAnswers.{refuses}
use Rattle.ido_cli.proofs.list.list_answer.Goals as goal

pub returns-in_ok-output-in-Ok : goal.returns-in_ok-output-in-Ok
returns-in_ok-output-in-Ok c = of_object (contents_of c.in-Ok.object) c.in-Ok.ensures.exact refl c.in_ok-output-in-Ok.ensures

pub returns-in-Err-Magic : goal.returns-in-Err-Magic
returns-in-Err-Magic c =
    refuses c.args.input.now Magic c.refused_at_byte.result
    (subst (λ (e : ReadError). Fails e (read c.args.input.now)) c.in-Err-Magic.field-0-is c.in-Err-Magic.ensures.exact) c.refused_at_byte.ensures.status
    c.refused_at_byte.ensures.output

pub returns-in-Err-Version : goal.returns-in-Err-Version
returns-in-Err-Version c =
    refuses c.args.input.now Version c.refused_at_byte-in-Err-Version.result
    (subst (λ (e : ReadError). Fails e (read c.args.input.now)) c.in-Err-Version.field-0-is c.in-Err-Version.ensures.exact)
    c.refused_at_byte-in-Err-Version.ensures.status c.refused_at_byte-in-Err-Version.ensures.output

pub returns-in-Err-Cut : goal.returns-in-Err-Cut
returns-in-Err-Cut c =
    refuses c.args.input.now (Cut c.in-Err-Cut.place.0) c.refused_at_byte-in-Err-Cut.result
    (subst (λ (e : ReadError). Fails e (read c.args.input.now)) c.in-Err-Cut.field-0-is c.in-Err-Cut.ensures.exact) c.refused_at_byte-in-Err-Cut.ensures.status
    c.refused_at_byte-in-Err-Cut.ensures.output

pub returns-in-Err-Field : goal.returns-in-Err-Field
returns-in-Err-Field c =
    refuses c.args.input.now (Field c.in-Err-Field.place.0) c.refused_at_byte-in-Err-Field.result
    (subst (λ (e : ReadError). Fails e (read c.args.input.now)) c.in-Err-Field.field-0-is c.in-Err-Field.ensures.exact)
    c.refused_at_byte-in-Err-Field.ensures.status c.refused_at_byte-in-Err-Field.ensures.output

pub returns-in-Err-Rest : goal.returns-in-Err-Rest
returns-in-Err-Rest c =
    refuses c.args.input.now (Rest c.in-Err-Rest.place.0) c.refused_at_byte-in-Err-Rest.result
    (subst (λ (e : ReadError). Fails e (read c.args.input.now)) c.in-Err-Rest.field-0-is c.in-Err-Rest.ensures.exact)
    c.refused_at_byte-in-Err-Rest.ensures.status c.refused_at_byte-in-Err-Rest.ensures.output

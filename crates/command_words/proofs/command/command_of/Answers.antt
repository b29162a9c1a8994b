use Rattle.std.proofs.Common.{map, string_bytes, ◌∙◌}
use Rattle.std.proofs.lemmas.Result.{IfOk-weaker}
use Rattle.clap.specs.Matches.{found_of}
use Rattle.clap.specs.Walk.{rows_of}
use Rattle.clap.specs.Words.{app_of}
use Rattle.command_words.proofs.Commands.{refused, taken}
use Rattle.command_words.proofs.command.command_of.Goals as goal

pub returns-in-Some : goal.returns-in-Some
returns-in-Some c =
    let found = c.in-Some.ensures in
    IfOk-weaker c.command_by_name.result _ _
    (λ o is.
    taken (app_of c.in_ok-table.field-0) (map string_bytes c.args.words.now) c.in-Ok.matches c.in-Some.name.now (rows_of (found_of c.in-Some.own.now))
    o c.in_ok-table.ensures c.in-Ok.ensures.matches c.in-Ok.ensures.kinds found.name found.rows is) c.command_by_name.ensures

pub returns : goal.returns
returns c =
    refused (app_of c.in_ok-table.field-0) (map string_bytes c.args.words.now) c.in-Err.error c.in_ok-table.ensures
    (λ h. c.in_default.not-OutOfMemory (c.kind.ensures ∙ h)) c.in-Err.ensures.kinds

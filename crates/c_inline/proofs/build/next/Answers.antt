use Rattle.std.proofs.Common.{◌≡◌, ◌∙◌, length, get_or, Some, refl, ap, arith}
use Rattle.std.specs.Prelude.{slice_get}
use Rattle.std.proofs.lemmas.Option.{slice_get_read}
use Rattle.c_inline.proofs.InlinedStatements.{taken_some, taken_none}
use Rattle.c_inline.proofs.build.next.Goals as goal

pub returns-in_err-statement : goal.returns-in_err-statement
returns-in_err-statement c =
    let functions = c.args.bodies.functions.now in
    let begun = c.args.begun.now in
    let function = c.in_ok-function.function.now in
    let a = c.in_ok-function.ensures.lookup in
    let b = c.in_err-statement.ensures.lookup in
    let exists : slice_get functions begun.function ≡ Some function = slice_get_read functions (length functions) begun.function function refl a.3.0 a.1 in
    rw c.from_residual-in_err-statement.ensures (taken_none functions begun function exists (omega (arith, b.3, ap length c.deref.ensures.value)))

pub returns : goal.returns
returns c =
    let functions = c.args.bodies.functions.now in
    let begun = c.args.begun.now in
    let function = c.in_ok-function.function.now in
    let statement = c.in_ok-statement.statement.now in
    let a = c.in_ok-function.ensures.lookup in
    let b = c.in_ok-statement.ensures.lookup in
    let exists : slice_get functions begun.function ≡ Some function = slice_get_read functions (length functions) begun.function function refl a.3.0 a.1 in
    let is : statement ≡ get_or function.body.items begun.done statement = b.1 ∙ ap (λ xs. get_or xs begun.done statement) c.deref.ensures.value in
    taken_some functions begun function statement exists (omega (arith, b.3.0, ap length c.deref.ensures.value)) is

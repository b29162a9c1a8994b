use Rattle.std.proofs.Common.{◌≡◌, None, Some, Bool, true, false, not, cond, map, sym, ap, ◌∙◌}
use Rattle.std.specs.Option.{option_map}
use Rattle.c_tree.specs.Exprs.{LockName, lock_ref_of, placed_ref_of}
use Rattle.c_tree.specs.Programs.{Guard, variable_of}
use Rattle.c_tree.specs.LockNames.{Held, holds, number_in}
use Rattle.c_tree.specs.links.KnownNames.{names_of}
use Rattle.c_tree.specs.declared.rule.Rule.TheVariants as rule
use Rattle.c_tree.specs.LockDiscipline.{Fault, Use, Walked, Broken, name_under, guard_name, is_guarded}
use Rattle.lock_discipline.specs.links.Uses.{use_of}
use Rattle.lock_discipline.proofs.CheckerCorrectness.{none_or}
use Rattle.lock_discipline.proofs.uses.check_use.Goals as goal

pub returns-then-holds : goal.returns-then-holds
returns-then-holds c =
    let vs = map variable_of c.args.variables.now in
    let h : Held = c.args.held.now in
    let index = option_map placed_ref_of c.args.index in
    let u = use_of c.args.variable c.args.place index in
    let fault : Use → Fault = λ w. record { rule = rule.Unheld; place = w.place; lock = guard_name vs w } in
    let name : lock_ref_of c.name_under-lock.result ≡ guard_name vs u =
    c.name_under-lock.ensures ∙ ap (λ (g : Guard). name_under g index) c.variable_guard-guard.ensures in
    let is : is_guarded vs (names_of c.args.names.now) h u ≡ true =
    ap (λ (x : LockName). holds h (number_in (names_of c.args.names.now) x)) (sym name)
    ∙ (ap (holds h) (sym c.number_in.ensures) ∙ (sym c.holds.ensures ∙ c.if-holds.true)) in
    ap (λ (b : Bool). none_or (cond (not b) (Some u) None) fault h) is

pub returns-else-holds : goal.returns-else-holds
returns-else-holds c =
    let vs = map variable_of c.args.variables.now in
    let h : Held = c.args.held.now in
    let index = option_map placed_ref_of c.args.index in
    let u = use_of c.args.variable c.args.place index in
    let fault : Use → Fault = λ w. record { rule = rule.Unheld; place = w.place; lock = guard_name vs w } in
    let name : lock_ref_of c.name_under-lock.result ≡ guard_name vs u =
    c.name_under-lock.ensures ∙ ap (λ (g : Guard). name_under g index) c.variable_guard-guard.ensures in
    let is : is_guarded vs (names_of c.args.names.now) h u ≡ false =
    ap (λ (x : LockName). holds h (number_in (names_of c.args.names.now) x)) (sym name)
    ∙ (ap (holds h) (sym c.number_in.ensures) ∙ (sym c.holds.ensures ∙ c.if-holds.false)) in
    ap (λ (b : Bool). none_or (cond (not b) (Some u) None) fault h) is
    ∙ ap (λ (x : LockName). let w : Walked = Broken (record { rule = rule.Unheld; place = c.args.place; lock = x }) in w) (sym name)

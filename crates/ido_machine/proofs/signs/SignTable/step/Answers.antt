use Rattle.std.proofs.Common.{◌≡◌, Option, None, Some, refl, sym, ap, subst, ◌∙◌}
use Rattle.std.specs.Bool.{MatchBool}
use Rattle.rv64_isa.specs.declared.object.Slot.{Slot}
use Rattle.rv64_isa.specs.Rows.{row}
use Rattle.hart_core.specs.declared.local.LocalState.{LocalState}
use Rattle.hart_core.specs.LocalSteps.{continued, executed_locally, local_step}
use Rattle.ido_machine.specs.declared.signs.Entry.{Entry}
use Rattle.ido_machine.specs.declared.signs.SignTable.{SignTable}
use Rattle.ido_machine.specs.links.SignTables.{entry_at, placed_in, sign_of, slot_at}
use Rattle.ido_machine.proofs.SignTables.{own_stands}
use Rattle.ido_machine.proofs.signs.SignTable.step.Goals as goal

-- a local step is that of what stands at the pc
step_is : (table : SignTable) (s : LocalState) (at found : Option Entry) → at ≡ entry_at table s.pc → at ≡ found →
    local_step (placed_in table) s ≡ executed_locally (slot_at found) s
step_is table s at found is same = ap (λ (slot : Option Slot). executed_locally slot s) (own_stands table s.pc ∙ ap slot_at (sym is ∙ same))

pub returns-in-None-clause-none : goal.returns-in-None-clause-none
returns-in-None-clause-none c = (step_is c.args.self.now c.args.state.now c.entry_at.result None c.entry_at.ensures c.in-None.is, refl)

pub returns-in-NoRow-clause-none : goal.returns-in-NoRow-clause-none
returns-in-NoRow-clause-none c = (
  step_is c.args.self.now c.args.state.now c.entry_at.result (Some c.in-Some.field-0) c.entry_at.ensures c.in-Some.is
      ∙ ap (λ (slot : Slot). executed_locally (Some slot) c.args.state.now) c.in-NoRow.is,
  refl,
)

pub returns-then-step-clause-some : goal.returns-then-step-clause-some
returns-then-step-clause-some c =
    let s = c.args.state.now in
    let effect = row c.in-Row.instr s.registers s.pc in
    let went : continued effect ≡ Some c.step.new.state =
    subst (λ b. MatchBool b (continued effect ≡ Some c.step.new.state) ((continued effect ≡ None) × (c.step.new.state ≡ s))) c.if-step.true c.step.ensures in (
      sym (ap sign_of (sym c.entry_at.ensures ∙ c.in-Some.is)),
      step_is c.args.self.now s c.entry_at.result (Some c.in-Some.field-0) c.entry_at.ensures c.in-Some.is
          ∙ ap (λ (slot : Slot). executed_locally (Some slot) s) c.in-Row.is ∙ went,
    )

pub returns-else-step-clause-none : goal.returns-else-step-clause-none
returns-else-step-clause-none c =
    let s = c.args.state.now in
    let effect = row c.in-Row.instr s.registers s.pc in
    let stayed : (continued effect ≡ None) × (c.step.new.state ≡ s) =
    subst (λ b. MatchBool b (continued effect ≡ Some c.step.new.state) ((continued effect ≡ None) × (c.step.new.state ≡ s))) c.if-step.false c.step.ensures in (
      step_is c.args.self.now s c.entry_at.result (Some c.in-Some.field-0) c.entry_at.ensures c.in-Some.is
          ∙ ap (λ (slot : Slot). executed_locally (Some slot) s) c.in-Row.is ∙ stayed.0,
      stayed.1,
    )

use Rattle.std.proofs.Common.{◌≡◌, ◌∙◌, ap, sym, Some, None, slice_set, ℕ, List, length, Option, subst, refl, false, true, arith}
use Rattle.std.specs.Prelude.{ℤ, slice_get}
use Rattle.std.specs.Vec.{with_items}
use Rattle.std.specs.Option.{option_map}
use Rattle.std.proofs.lemmas.List.{with_items_is}
use Rattle.c_tree.specs.Source as m
use Rattle.c_tree.specs.Exprs.{expr_of, lvalue_of, lock_name_of}
use Rattle.c_tree.specs.Values.{value, lock_number}
use Rattle.ido_ints.specs.Operators.{is_zero}
use Rattle.ido_ints.specs.TypedNumbers.{Typed}
use Rattle.source_machine.specs.declared.answers.Stepped.TheVariants.{Did, Waits}
use Rattle.source_machine.specs.declared.thread.ThreadState.{ThreadState}
use Rattle.source_machine.specs.Assignments.{Evaluates, assigning, pending_of, thread_with}
use Rattle.source_machine.specs.links.SectionEnds.{ends}
use Rattle.source_machine.specs.links.Threads.{IsMade, hand, model_of, state_in}
use Rattle.source_machine.proofs.SectionEndCases.{ends_taken, counted_same}
use Rattle.source_machine.proofs.NodeSteps.{node_read, end_over, end_made, never_made, unlock_made, lock_made, lock_waits, fails_made, holds_made, assign_made}
use Rattle.source_machine.proofs.thread.ThreadState.step.Goals as goal
use Rattle.source_machine.proofs.thread.ThreadState.step.Goals.{then-is_zero, else-is_zero}

pub returns-then-self-clause-made : goal.returns-then-self-clause-made
returns-then-self-clause-made c =
    let g = node_read c.args.self.now.nodes.items _ c.args.self.now.at c.get.result c.in-Some-copied.node c.in-Some-copied.ensures c.get.ensures.lookup.0
    c.get.ensures.lookup.1 c.deref.ensures.value ∙ ap Some c.in-End.is in
    λ left threads l. end_over c.args.variables.now c.args.holders.now threads c.args.number c.args.self.now left c.in_default.is l g c.if-self.true

pub returns-else-self-clause-made : goal.returns-else-self-clause-made
returns-else-self-clause-made c =
    let g = node_read c.args.self.now.nodes.items _ c.args.self.now.at c.get.result c.in-Some-copied.node c.in-Some-copied.ensures c.get.ensures.lookup.0
    c.get.ensures.lookup.1 c.deref.ensures.value ∙ ap Some c.in-End.is in
    λ left threads l. end_made c.args.variables.now c.args.holders.now threads c.args.number c.args.self.now left c.in_default.is l g c.if-self.false

pub returns-in-Assign-clause-made : goal.returns-in-Assign-clause-made
returns-in-Assign-clause-made c =
    let g = node_read c.args.self.now.nodes.items _ c.args.self.now.at c.get.result c.in-Some-copied.node c.in-Some-copied.ensures c.get.ensures.lookup.0
    c.get.ensures.lookup.1 c.deref.ensures.value ∙ ap Some c.in-Assign.is in
    λ left threads l.
    let u : ThreadState = record c.args.self.now {
      locals =
          with_items c.args.self.now.locals c.assign.new.locals;
      pending =
          c.assign.new.pending;
    } in
    let before : List ℤ → Type 0 = λ ls. Evaluates (lvalue_of c.in-Assign.target.now) (expr_of c.in-Assign.value.now.expr) c.args.variables.now
    (assigning ls c.args.self.now.pending) (assigning c.assign.new.locals c.assign.new.pending) in
    let after : List ℤ → Type 0 = λ ls. thread_with (record { locals = ls; pending = option_map pending_of c.assign.new.pending }) left c.args.self.now.ended ≡
    m.evaluated (state_in c.args.variables.now c.args.holders.now threads) (model_of c.args.self.now left) (lvalue_of c.in-Assign.target.now)
    (expr_of c.in-Assign.value.now.expr) in
    let written : (with_items c.args.self.now.locals c.assign.new.locals).items ≡ c.assign.new.locals = with_items_is c.args.self.now.locals c.assign.new.locals
    (omega (arith, c.assign.auto.locals, ap length c.deref_mut.ensures.value, c.args.self.now.locals.ok.0)) in
    assign_made c.args.variables.now c.args.holders.now threads c.args.number c.args.self.now left c.in_default.is l c.in-Assign.target
    c.in-Assign.value c.in-Assign.next u g refl
    (subst after (sym written) (subst before c.deref_mut.ensures.value c.assign.ensures left c.args.self.now.ended c.args.holders.now threads))

pub returns-after-is_zero-clause-made : goal.returns-after-is_zero-clause-made
returns-after-is_zero-clause-made c =
    let g = node_read c.args.self.now.nodes.items _ c.args.self.now.at c.get.result c.in-Some-copied.node c.in-Some-copied.ensures c.get.ensures.lookup.0
    c.get.ensures.lookup.1 c.deref.ensures.value ∙ ap Some c.in-Test.is in
    λ left threads l.
    let P : ℕ → Type 0 = λ at. IsMade c.args.number (hand c.args.self.now c.args.variables.now c.args.holders.now)
    (hand (record c.args.self.now { at = at }) c.args.variables.now c.args.holders.now) Did threads left in
    let read : c.evaluate-condition.result ≡ value c.args.self.now.locals.items c.args.variables.now (expr_of c.in-Test.condition.now.expr) =
    c.evaluate-condition.ensures ∙ ap (λ (ls : List ℤ). value ls c.args.variables.now
    (expr_of c.in-Test.condition.now.expr)) c.deref-in-Test.ensures.value in
    elim c.if-is_zero.branch [
      | then-is_zero w ↦ subst P (sym w.self-is)
          (fails_made c.args.variables.now c.args.holders.now threads c.args.number c.args.self.now left c.in_default.is l c.in-Test.condition c.in-Test.holds
          c.in-Test.fails g (sym (w.if-is_zero.ensures ∙ ap (λ (v : Typed). is_zero v.number) read)))
      | else-is_zero w ↦ subst P (sym w.self-is)
          (holds_made c.args.variables.now c.args.holders.now threads c.args.number c.args.self.now left c.in_default.is l c.in-Test.condition c.in-Test.holds
          c.in-Test.fails g (sym (w.if-is_zero.ensures ∙ ap (λ (v : Typed). is_zero v.number) read)))
    ]

pub returns-then-take-clause-made : goal.returns-then-take-clause-made
returns-then-take-clause-made c =
    let g = node_read c.args.self.now.nodes.items _ c.args.self.now.at c.get.result c.in-Some-copied.node c.in-Some-copied.ensures c.get.ensures.lookup.0
    c.get.ensures.lookup.1 c.deref.ensures.value ∙ ap Some c.in-Lock.is in
    let h = c.if-take.ensures in
    λ left threads l.
    let P : List (Option ℕ) → Type 0 = λ hs. IsMade c.args.number (hand c.args.self.now c.args.variables.now c.args.holders.now)
    (hand (record c.args.self.now { at = c.in-Lock.next }) c.args.variables.now hs) Did threads left in
    let is : c.lock_number-lock.result ≡ lock_number c.args.self.now.locals.items (lock_name_of c.in-Lock.lock.now) =
    c.lock_number-lock.ensures ∙ ap (λ (ls : List ℤ). lock_number ls (lock_name_of c.in-Lock.lock.now)) c.deref-in-Lock.ensures.value in
    let Q : ℕ → Type 0 = λ k. P (slice_set c.args.holders.now k (Some c.args.number)) in
    subst P (sym h.taken) (subst Q (sym is) (lock_made c.args.variables.now c.args.holders.now threads c.args.number c.args.self.now left c.in_default.is l
    c.in-Lock.lock c.in-Lock.next g (subst (λ (k : ℕ). slice_get c.args.holders.now k ≡ Some None) is (h.free.0 refl))))

pub returns-then-take-clause-sections : goal.returns-then-take-clause-sections
returns-then-take-clause-sections c =
    let h = c.if-take.ensures in
    λ ended counted.
    let P : List (Option ℕ) → Type 0 = λ hs. (k : ℕ) → ends c.args.holders.now hs k ≡ 0 in
    counted_same c.args.sections.now ended _ (subst P (sym h.taken) (λ k. ends_taken c.args.holders.now c.lock_number-lock.result c.args.number k
    (h.free.0 refl))) counted

pub returns-else-take-clause-made : goal.returns-else-take-clause-made
returns-else-take-clause-made c =
    let g = node_read c.args.self.now.nodes.items _ c.args.self.now.at c.get.result c.in-Some-copied.node c.in-Some-copied.ensures c.get.ensures.lookup.0
    c.get.ensures.lookup.1 c.deref.ensures.value ∙ ap Some c.in-Lock.is in
    let h = c.if-take.ensures in
    λ left threads l.
    let P : List (Option ℕ) → Type 0 = λ hs. IsMade c.args.number (hand c.args.self.now c.args.variables.now c.args.holders.now)
    (hand c.args.self.now c.args.variables.now hs) (Waits c.lock_number-lock.result) threads left in
    let is : c.lock_number-lock.result ≡ lock_number c.args.self.now.locals.items (lock_name_of c.in-Lock.lock.now) =
    c.lock_number-lock.ensures ∙ ap (λ (ls : List ℤ). lock_number ls (lock_name_of c.in-Lock.lock.now)) c.deref-in-Lock.ensures.value in
    let Q : ℕ → Type 0 = λ k. IsMade c.args.number (hand c.args.self.now c.args.variables.now c.args.holders.now)
    (hand c.args.self.now c.args.variables.now c.args.holders.now) (Waits k) threads left in
    subst P (sym h.kept) (subst Q (sym is) (lock_waits c.args.variables.now c.args.holders.now threads c.args.number c.args.self.now left c.in_default.is l
    c.in-Lock.lock c.in-Lock.next g
    (λ e. let f : false ≡ true = h.free.1 (subst (λ (k : ℕ). slice_get c.args.holders.now k ≡ Some None) (sym is) e) in cc)))

pub returns-in-Unlock-clause-made : goal.returns-in-Unlock-clause-made
returns-in-Unlock-clause-made c =
    let g = node_read c.args.self.now.nodes.items _ c.args.self.now.at c.get.result c.in-Some-copied.node c.in-Some-copied.ensures c.get.ensures.lookup.0
    c.get.ensures.lookup.1 c.deref.ensures.value ∙ ap Some c.in-Unlock.is in
    λ left threads l.
    let P : List (Option ℕ) → Type 0 = λ hs. IsMade c.args.number (hand c.args.self.now c.args.variables.now c.args.holders.now)
    (hand (record c.args.self.now { at = c.in-Unlock.next }) c.args.variables.now hs) Did threads left in
    let is : c.lock_number-lock-in-Unlock.result ≡ lock_number c.args.self.now.locals.items (lock_name_of c.in-Unlock.lock.now) =
    c.lock_number-lock-in-Unlock.ensures ∙ ap (λ (ls : List ℤ). lock_number ls (lock_name_of c.in-Unlock.lock.now)) c.deref-in-Unlock.ensures.value in
    let Q : ℕ → Type 0 = λ k. P (slice_set c.args.holders.now k None) in
    subst P (sym c.release.ensures.holders) (subst Q (sym is)
    (unlock_made c.args.variables.now c.args.holders.now threads c.args.number c.args.self.now left c.in_default.is l c.in-Unlock.lock c.in-Unlock.next g))

pub returns-in-Never-clause-made : goal.returns-in-Never-clause-made
returns-in-Never-clause-made c =
    let g = node_read c.args.self.now.nodes.items _ c.args.self.now.at c.get.result c.in-Some-copied.node c.in-Some-copied.ensures c.get.ensures.lookup.0
    c.get.ensures.lookup.1 c.deref.ensures.value ∙ ap Some c.in-Never.is in
    λ left threads l. never_made c.args.variables.now c.args.holders.now threads c.args.number c.args.self.now left c.in_default.is l g

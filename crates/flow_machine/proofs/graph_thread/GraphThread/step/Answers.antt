use Rattle.std.proofs.Common.{◌≡◌, ◌∙◌, ap, sym, ℕ, List, Option, Some, None, slice_set, subst, refl, false, true}
use Rattle.std.specs.Prelude.{ℤ, slice_get}
use Rattle.c_tree.specs.Exprs.{lock_name_of}
use Rattle.c_tree.specs.Values.{lock_number}
use Rattle.source_machine.specs.links.SectionEnds.{ends}
use Rattle.source_machine.proofs.Public.{ends_taken, counted_same}
use Rattle.source_machine.specs.declared.answers.Stepped.TheVariants.{Did, Waits}
use Rattle.flow_graph.specs.Nodes.{graph_of, node_of, action_of}
use Rattle.flow_machine.specs.links.GraphThreads.{graph_thread_of}
use Rattle.flow_machine.specs.links.StepChanges.{hand, IsMade}
use Rattle.flow_machine.proofs.NodeSteps.{node_read, lock_made, lock_waits, unlock_made, end_made}
use Rattle.flow_machine.proofs.graph_thread.GraphThread.step.Goals as goal

pub returns-then-take-clause-sections : goal.returns-then-take-clause-sections
returns-then-take-clause-sections c =
    let h = c.if-take.ensures in
    λ ended counted.
    let P : List (Option ℕ) → Type 0 = λ hs. (k : ℕ) → ends c.args.holders.now hs k ≡ 0 in
    counted_same c.args.sections.now ended _ (subst P (sym h.taken) (λ k. ends_taken c.args.holders.now c.lock_number-lock.result c.args.number k
    (h.free.0 refl))) counted

pub returns-then-take-clause-made : goal.returns-then-take-clause-made
returns-then-take-clause-made c =
    let l = c.in-Some.ensures.lookup in
    let g = node_read c.args.graph.now.nodes.items c.deref.result.now c.args.self.now.at c.in-Some.node.now c.deref.ensures.value l.3.0 l.1 in
    let h = c.if-take.ensures in
    let before = hand (graph_thread_of c.args.self.now) c.args.variables.now c.args.holders.now in
    let is : c.lock_number-lock.result ≡ lock_number c.args.self.now.locals.items (lock_name_of c.in-Lock.lock.now) =
    c.lock_number-lock.ensures ∙ ap (λ (ls : List ℤ). lock_number ls (lock_name_of c.in-Lock.lock.now)) c.deref-in-Lock.ensures.value in
    λ graph_threads.
    let P : List (Option ℕ) → Type 0 =
    λ hs. IsMade (graph_of c.args.graph.now) c.args.number before (hand
    (record before.graph_thread { at = c.in-Lock.next }) c.args.variables.now hs) Did graph_threads in
    let Q : ℕ → Type 0 = λ k. P (slice_set c.args.holders.now k (Some c.args.number)) in
    subst P (sym h.taken) (subst Q (sym is)
    (lock_made (graph_of c.args.graph.now) c.args.number before graph_threads (node_of c.in-Some.node.now) g (lock_name_of c.in-Lock.lock.now) c.in-Lock.next
    (ap action_of c.in-Lock.is) (subst (λ (k : ℕ). slice_get c.args.holders.now k ≡ Some None) is (h.free.0 refl))))

pub returns-else-take-clause-made : goal.returns-else-take-clause-made
returns-else-take-clause-made c =
    let l = c.in-Some.ensures.lookup in
    let g = node_read c.args.graph.now.nodes.items c.deref.result.now c.args.self.now.at c.in-Some.node.now c.deref.ensures.value l.3.0 l.1 in
    let h = c.if-take.ensures in
    let before = hand (graph_thread_of c.args.self.now) c.args.variables.now c.args.holders.now in
    let is : c.lock_number-lock.result ≡ lock_number c.args.self.now.locals.items (lock_name_of c.in-Lock.lock.now) =
    c.lock_number-lock.ensures ∙ ap (λ (ls : List ℤ). lock_number ls (lock_name_of c.in-Lock.lock.now)) c.deref-in-Lock.ensures.value in
    λ graph_threads.
    let P : List (Option ℕ) → Type 0 =
    λ hs. IsMade (graph_of c.args.graph.now) c.args.number before (hand (graph_thread_of c.args.self.now) c.args.variables.now hs)
    (Waits c.lock_number-lock.result) graph_threads in
    let Q : ℕ → Type 0 = λ k. IsMade (graph_of c.args.graph.now) c.args.number before before (Waits k) graph_threads in
    subst P (sym h.kept) (subst Q (sym is)
    (lock_waits (graph_of c.args.graph.now) c.args.number before graph_threads (node_of c.in-Some.node.now) g (lock_name_of c.in-Lock.lock.now) c.in-Lock.next
    (ap action_of c.in-Lock.is)
    (λ e. let f : false ≡ true = h.free.1 (subst (λ (k : ℕ). slice_get c.args.holders.now k ≡ Some None) (sym is) e) in cc)))

pub returns-in-Unlock-clause-made : goal.returns-in-Unlock-clause-made
returns-in-Unlock-clause-made c =
    let l = c.in-Some.ensures.lookup in
    let g = node_read c.args.graph.now.nodes.items c.deref.result.now c.args.self.now.at c.in-Some.node.now c.deref.ensures.value l.3.0 l.1 in
    let before = hand (graph_thread_of c.args.self.now) c.args.variables.now c.args.holders.now in
    let is : c.lock_number-lock-in-Unlock.result ≡ lock_number c.args.self.now.locals.items (lock_name_of c.in-Unlock.lock.now) =
    c.lock_number-lock-in-Unlock.ensures ∙ ap (λ (ls : List ℤ). lock_number ls (lock_name_of c.in-Unlock.lock.now)) c.deref-in-Unlock.ensures.value in
    λ graph_threads.
    let P : List (Option ℕ) → Type 0 =
    λ hs. IsMade (graph_of c.args.graph.now) c.args.number before (hand
    (record before.graph_thread { at = c.in-Unlock.next }) c.args.variables.now hs) Did graph_threads in
    let Q : ℕ → Type 0 = λ k. P (slice_set c.args.holders.now k None) in
    subst P (sym c.release.ensures.holders) (subst Q (sym is)
    (unlock_made (graph_of c.args.graph.now) c.args.number before graph_threads (node_of c.in-Some.node.now) g (lock_name_of c.in-Unlock.lock.now)
    c.in-Unlock.next
    (ap action_of c.in-Unlock.is)))

pub returns-else-self-clause-made : goal.returns-else-self-clause-made
returns-else-self-clause-made c =
    let l = c.in-Some.ensures.lookup in
    let g = node_read c.args.graph.now.nodes.items c.deref.result.now c.args.self.now.at c.in-Some.node.now c.deref.ensures.value l.3.0 l.1 in
    let before = hand (graph_thread_of c.args.self.now) c.args.variables.now c.args.holders.now in
    λ graph_threads. end_made (graph_of c.args.graph.now) c.args.number before graph_threads (node_of c.in-Some.node.now) g
    (ap action_of c.in-End.is) c.if-self.false

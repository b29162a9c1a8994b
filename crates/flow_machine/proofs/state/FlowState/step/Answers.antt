use Rattle.std.proofs.Common.{◌≡◌, ℕ, ◌+◌, List, Option, ap, sym, subst, refl, arith, length}
use Rattle.std.specs.Vec.{with_items}
use Rattle.std.proofs.lemmas.List.{with_items_is}
use Rattle.std.proofs.lemmas.Option.{slice_get_read}
use Rattle.source_machine.specs.Sections.{AreCounted}
use Rattle.source_machine.specs.links.SectionEnds.{ends}
use Rattle.flow_graph.specs.Nodes.{graph_of}
use Rattle.flow_machine.specs.links.GraphThreads.{graph_thread_of}
use Rattle.flow_machine.specs.links.StepChanges.{hand, IsMade}
use Rattle.flow_machine.proofs.Runs.{after_any}
use Rattle.flow_machine.proofs.state.FlowState.step.Goals as goal

pub returns-clause-after : goal.returns-clause-after
returns-clause-after c = λ g s ended at.
    let before = c.args.self.now in
    let graph = graph_of before.graph.now in
    let old = hand (graph_thread_of c.index_mut-graph_thread.result.now) before.variables in
    let here = slice_get_read before.graph_threads.items _ c.args.thread c.index_mut-graph_thread.result.now refl
    (omega (arith, c.requires.exists)) c.index_mut-graph_thread.ensures.value in
    let held = c.deref_mut.ensures.value in
    let counted = c.deref_mut-2.ensures.value in
    let held' : (with_items before.holders c.step.new.holders).items ≡ c.step.new.holders =
    with_items_is before.holders c.step.new.holders (omega (arith, c.step.auto.holders, ap length held, before.holders.ok.0)) in
    let counted' : (with_items before.sections c.step.new.sections).items ≡ c.step.new.sections =
    with_items_is before.sections c.step.new.sections (omega (arith, c.step.auto.sections, ap length counted, before.sections.ok.0)) in
    after_any before _ c.args.thread c.step.result (record {
      old = c.index_mut-graph_thread.result.now;
      new = c.step.new.self;
      here = here;
      same = refl;
      set = refl;
      makes = λ graph_threads.
          let made = c.step.ensures.made graph_threads in
          let P : List (Option ℕ) → Type 0 =
          λ hs. IsMade graph c.args.thread (old hs) (hand (graph_thread_of c.step.new.self) c.step.new.variables c.step.new.holders) c.step.result
          graph_threads in
          let Q : List (Option ℕ) → Type 0 =
          λ hs. IsMade graph c.args.thread (old before.holders.items) (hand (graph_thread_of c.step.new.self) c.step.new.variables hs) c.step.result
          graph_threads in
          subst Q (sym held') (subst P held made);
      counts = λ e h.
          let A : List ℕ → Type 0 = λ ss. AreCounted ss e in
          let B : List ℕ → Type 0 = λ ss. AreCounted ss (λ k. e k + ends c.deref_mut.result.now c.step.new.holders k) in
          let C : List (Option ℕ) → Type 0 =
          λ hs. AreCounted (with_items before.sections c.step.new.sections).items (λ k. e k + ends hs c.step.new.holders k) in
          let D : List (Option ℕ) → Type 0 =
          λ hs. AreCounted (with_items before.sections c.step.new.sections).items (λ k. e k + ends before.holders.items hs k) in
          subst D (sym held') (subst C held (subst B (sym counted') (c.step.ensures.sections e (subst A (sym counted) h))));
    }) g s ended at

-- A boundary under way is one of a section: the record that it writes has a point, or the one before it has.
use Rattle.recovered_threads.specs.RecordDescriptions.{DescribesAs}
use Rattle.std.proofs.Common.{◌≡◌, ◌≢◌, ◌⊎◌, inl, inr, refl, ℕ, List, [], ◌∷◌, map, ap, sym, ◌∙◌, subst, true, false, arith, slice_get, Option, Some}
use Rattle.std.proofs.Common.{Bool, if◌then◌else◌}
use Rattle.std.proofs.lemmas.Bool.{eq-eqb, false_from_ne_true, true≢false}
use Rattle.std.proofs.lemmas.Option.{slice_get_within}
use Rattle.ido_base.specs.Locks.{holds_none}
use Rattle.boundary_code.specs.Boundaries.{is_empty}
use Rattle.c_tree.specs.Exprs.{LockName}
use Rattle.c_tree.specs.Values.{lock_number}
use Rattle.source_machine.specs.ElementLocks.{element_lock}
use Rattle.machine_model.specs.Machine.{World}
use Rattle.flow_graph.specs.IdempotentCuts.{IsChosen}
use Rattle.flow_graph.specs.Liveness.{NodeAt}
use Rattle.flow_graph.specs.Nodes.{Graph, Node}
use Rattle.flow_graph.specs.Lowering.{lowered}
use Rattle.flow_graph.proofs.Public.{found_in}
use Rattle.region_attempts.proofs.Public.{StoresHere, is_there}
use Rattle.thread_code.specs.Plans.{IsLogged, IsNodeOf, held_names_before}
use Rattle.thread_runs.specs.CodeFragments.{ExitPoint}
use Rattle.recovered_threads.specs.RecordDescriptions.{Code}
use Rattle.recovered_threads.proofs.Public.{holds_none_is, none_before}
use Rattle.crash_simulation.specs.AbstractRuns.{AbstractRun, kept_of, now_of}
use Rattle.crash_simulation.specs.Systems.{System, IsSystem, flat_of}
use Rattle.crash_simulation.specs.ThreadGhosts.{ExitInv, IsSectioned, ThreadGhost, ThreadInv}
use Rattle.crash_simulation.proofs.Public.{IsAtBoundary, as_source, at_gives, at_keeps, at_took, gave_held, now_between, now_orderly, owes_here, point_where}
use Rattle.crash_simulation.proofs.Public.{stored_here, took_holds, under_way}
use Rattle.compiler_correctness.proofs.Public.{logs_it}

module _ (y : System) (s : IsSystem y) (w : World) (b : AbstractRun y) (code : Code y.plan) (c : ThreadGhost) (t : ThreadInv y w b code c)
    (not_yet : c.committed ≡ false) where
  open code.thread use {number as n}
  open t use {graph_thread}

  -- a thread that holds a mutex now
  holds : (mutex : ℕ) → slice_get (now_of y b).holders mutex ≡ Some (Some n) → c.new.point ≢ 0
  holds mutex has =
      point_where code (now_of y b) false c.new (t.records.will_describe not_yet)
      (false_from_ne_true (holds_none (now_of y b).holders n) (λ none. holds_none_is n (now_of y b).holders mutex none has))

  module _ (own : IsNodeOf code.thread graph_thread.at) (node : Node) (at : NodeAt y.plan.graph graph_thread.at node) where
    -- it guards the element that it stores
    stores : StoresHere node.action → c.new.point ≢ 0
    stores here =
        let there : NodeAt (lowered (flat_of y)) graph_thread.at node = subst (λ (g : Graph). NodeAt g graph_thread.at node) s.plan.lowered at in
        let owes = owes_here (flat_of y) s.plan.formed (now_of y b) _ n (as_source y s b).now_matches graph_thread t.walks node there here in
        let o = now_orderly y s b in
        let stands = is_there (flat_of y) s.plan.formed n (now_of y b) o.source o.matches graph_thread node t.walks there in
        let guarded = (o.keeps.each n stands.thread stands.there).pending owes.0 (sym stands.match.pending ∙ owes.1) in
        let lock = element_lock (flat_of y).variables owes.0.variable owes.0.element in
        holds lock (ap (λ (hs : List (Option ℕ)). slice_get hs lock) o.matches.holders ∙ guarded)

    -- before a logged assignment names are held
    logs : IsLogged y.plan code.thread graph_thread.at → c.new.point ≢ 0
    logs logged =
        point_where code (now_of y b) false c.new (t.records.will_describe not_yet)
        (none_before y.plan (now_of y b) s.plan (now_orderly y s b) code.thread code.of graph_thread t.walks own
        ∙ some (held_names_before y.plan code.thread graph_thread.at) logged.holds)
      where
        some : (names : List LockName) → names ≢ [] → is_empty (map (lock_number graph_thread.locals) names) ≡ false
        some [] none = absurd (none refl)
        some (name ∷ names) held = refl

    chosen_here : IsChosen y.plan.graph y.plan.boundaries graph_thread.at → c.new.point ≢ 0
    chosen_here chosen = elim (s.plan.at_writes.before graph_thread.at chosen.stands) [
      | inl gives ↦ absurd (chosen.free gives)
      | inr (inl writes) ↦ stores (stored_here y s graph_thread.at node at chosen writes)
      | inr (inr logged) ↦ logs (logs_it y.plan s.plan code.thread code.of graph_thread.at own logged)
    ]

  chosen_stands : IsNodeOf code.thread graph_thread.at → IsChosen y.plan.graph y.plan.boundaries graph_thread.at → c.new.point ≢ 0
  chosen_stands own chosen =
      let inside = slice_get_within y.plan.boundaries.before graph_thread.at true chosen.stands in
      let there = found_in y.plan.graph.nodes graph_thread.at (omega (arith, inside, s.plan.at_writes.before_count)) in
      chosen_here own there.0 there.1 chosen

  by_exit : (exit : ExitPoint) → IsAtBoundary exit → IsNodeOf code.thread graph_thread.at → ExitInv y b.config n c graph_thread exit →
      (c.new.point ≢ 0) ⊎ (c.old.point ≢ 0)
  by_exit _ (at_keeps owed) own f = inl (chosen_stands own f.0)
  by_exit _ (at_took from) own f =
      let locked = f.before not_yet in
      inl (λ none. true≢false (sym (eq-eqb c.new.point 0 none) ∙ (sym (now_between y s w b code c t not_yet)
      ∙ took_holds y s w b code c t not_yet locked.0 locked.1)))
  by_exit _ (at_gives from mutex) own f =
      let kept : DescribesAs y.plan code (kept_of y b) c.late c.old =
      subst (λ (done : Bool). DescribesAs y.plan code (kept_of y b) c.late (if done then c.new else c.old)) not_yet t.records.describes in
      inr (point_where code (kept_of y b) c.late c.old kept (ap (λ (hs : List (Option ℕ)). holds_none hs n) (as_source y s b).kept_matches.holders
      ∙ gave_held y s w b code c t not_yet mutex (f.before not_yet)))

  pub sectioned : c.rest ≢ [] → IsSectioned c
  sectioned ahead =
      let u = under_way y w b code c t not_yet in
      elim (by_exit u.to u.exit u.on.fragment.own u.on.fits) [
        | inl new ↦ inl new
        | inr old ↦ inr (old, ahead)
      ]

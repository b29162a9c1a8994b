-- A hart at its node's code, where the node neither stores nor passes a mutex.
use Rattle.crash_simulation.proofs.Common.{◌≡◌, ℕ, List, sym, ◌∙◌, ap, arith, true, Option, Some, None, refl, [], length, slice_get, true≢false, Contains}
use Rattle.crash_simulation.proofs.Common.{nat_tests, none-some, Guards, element_lock, World, Seen, FlowState, effect_of, NodeAt, lowered, Node, Element}
use Rattle.crash_simulation.proofs.Common.{reads_of, store_ahead, WritesAt, IsInnerStep, now, attempt_of, begun, ConfigStep, steps_locally, memory_in, HasCome}
use Rattle.crash_simulation.proofs.Common.{stores_nothing, MarksPass, AbstractRun, kept_of, now_of, nothing, System, IsSystem, flat_of, places_of}
use Rattle.flow_graph.specs.Actions.{Effect}
use Rattle.crash_simulation.proofs.Common.{durable_there, comes_with, recorded_in, inl, inr, subst, Writes}
use Rattle.crash_simulation.proofs.CompletedEffects.{last_by, step_durable, stores_none}
use Rattle.crash_simulation.proofs.PendingFlushes.{ComesNow}
use Rattle.crash_simulation.proofs.NodeEffects.{is_quiet, source_steps, locks_none, unlocks_none, ahead_none}
use Rattle.crash_simulation.proofs.ConfigAfterBegin.{one_longer, attempted, alone_ahead, done_longer, wrote}
use Rattle.crash_simulation.proofs.GraphAfterBegin.{matches_now, follows_on, not_come}
use Rattle.crash_simulation.proofs.NodeEnvironments.{answered_here, answers_guarded, frame_answered, guards_here, reads, reads_own}
use Rattle.crash_simulation.proofs.NodeEnvironments.{node_loaded}
use Rattle.crash_simulation.proofs.OwnHartSteps.{view, StepOf, AtNode}
use Rattle.crash_simulation.proofs.MarksAtNodes.{IsUnlogged, IsUnseen, unseen, quiet_may, quiet_seen, quiet_free, Doing, MarkIn, AtMark, Passes, environment}
use Rattle.crash_simulation.proofs.MarksAtNodes.{in_graph, graph_step_is, at_some_mark}
use Rattle.crash_simulation.proofs.MarkSteps.{is_plain, plain_holders, flushed_on, flushed_passed, frames_passed, passed_frame, passed_record, passed_step}
use Rattle.crash_simulation.proofs.MarkSteps.{is_next, stays_all}
use Rattle.crash_simulation.proofs.StatesMatchSource.{resumed}
use Rattle.crash_simulation.proofs.Common.{◌∷◌, HasView, Home, InRegister, IsElsewhere, LockName, Step, held_names_before, home_of, in_frame, log_stays}
use Rattle.expr_code.specs.declared.home.Home.TheVariants.{InFrame}
use Rattle.flow_graph.specs.Actions as a
use Rattle.crash_simulation.proofs.FrameWords.{all_named, all_words}
use Rattle.crash_simulation.proofs.PointsInSections.{point_outside}
use Rattle.crash_simulation.proofs.ThreadViews.{describes_over, view_persists}
use Rattle.crash_simulation.proofs.ThreadViews.{none_clean}
use Rattle.crash_simulation.proofs.WriteBackSteps.{mark_step}
use Rattle.crash_simulation.proofs.MarkSteps as passing

quiet_plain : (e : Effect) → is_quiet e ≡ true → is_plain e ≡ true
quiet_plain e quiet = grind (arith, nat_tests)

-- what a node does that neither stores nor passes a mutex
pub record DoesQuietly (node : Node) (seen : Seen) : Type 0 where
  pub e : Effect
  pub does : effect_of node.action seen ≡ Some e
  pub quiet : is_quiet e ≡ true

module _ {y : System} {s : IsSystem y} {w : World} {h : ℕ} (site : AtNode y s w h) (node : Node)
    (at : NodeAt (lowered (flat_of y)) (view site.hart).graph_thread.at node) (quietly : DoesQuietly node (view site.hart).seen)
    (unlogged : IsUnlogged y.plan (view site.hart).code.thread (view site.hart).graph_thread.at quietly.e) where
  open view site.hart use {b, code, c, t, n, v, places, graph_thread, seen}
  open quietly use {e, does, quiet}
  open site.core.goes.goes use {going}

  abbrev doing : Doing site
  doing = record {
    node = node;
    at = at;
    effect = e;
    free = quiet_free e quiet;
    does = does;
    reads = reads site.hart (reads_of node.action seen);
  }

  pub mark : MarkIn site doing
  mark = at_some_mark site doing (reads_own site.hart (reads_of node.action seen))
      (λ none. (answered_here site.hart going node at, frame_answered site.hart (reads_of node.action seen) site.core.view site.core.frame graph_thread.at))
      (quiet_may y.plan code.thread places w.log (length w.harts) (environment site doing) graph_thread.at e quiet unlogged)

  abbrev at_mark : AtMark site
  at_mark = record { doing = doing; mark = mark }

  -- ---- The source

  inner : IsInnerStep (now b.config) n
  inner =
      let stepped = source_steps (in_graph site doing) _ (graph_step_is site doing) in
      record {
        next = stepped.0;
        is = stepped.1;
        locks_none = locks_none (in_graph site doing) e does quiet;
        unlocks_none = unlocks_none (in_graph site doing) e does quiet;
      }

  no_ahead : store_ahead (now b.config) n ≡ None
  no_ahead = ahead_none (in_graph site doing) e does quiet

  abbrev happened : ConfigStep b.config (begun b.config n b.config.memory (one_longer b.config n))
  happened = steps_locally n (one_longer b.config n) (record {
    going = site.core.goes.goes.going;
    step = inner;
    no_store = no_ahead;
    attempt = attempted b.config.attempts n _;
  })

  minded : HasCome (flat_of y) y.plan.boundaries (kept_of y b) b.config n → ⊥
  minded = not_come y s b n site.core.goes.goes.going t.walks at does (λ mutex next is. true≢false (sym quiet ∙ ap is_quiet is)) site.core.fresh

  -- the step writes nothing
  none_written : (u i : ℕ) → WritesAt b.config.kept n (attempt_of b.config n).done u i → ⊥
  none_written u i writes =
      let r = (resumed y s b).resumed in
      none-some writes.store (sym no_ahead ∙ (sym (alone_ahead (flat_of y) b.config r.invariant n site.core.goes.goes.going) ∙ writes.is))

  -- ---- The mark is passed

  module _ (p : Passes site at_mark) where
    nothing_seen : IsUnseen w.log n p.forward.effect p.later
    nothing_seen = unseen w.log n p.forward.effect p.later mark.effects (quiet_seen site at_mark quiet unlogged).0 p.effects_are

    elsewhere : IsElsewhere y.runs.program w all_words n n
    elsewhere = stores_nothing y.runs.program all_words w n n mark.at.on.hart p.forward.effect (is_next site at_mark p) nothing_seen.no_store

    -- a local that is stored outside sections: no record has a point
    point_none : passing.SetsLater site e → c.new.point ≡ 0
    point_none later = point_outside y s b code going graph_thread t.walks site.core.core.own c.late c.new
        (describes_over y b code c t.records site.core.goes.goes.committed) (none_held e later)
      where
        set_none : (home : Home) (held : List LockName) → passing.SetsIn home held → held ≡ []
        set_none (InRegister register) held later = absurd later
        set_none (InFrame word) [] later = refl
        set_none (InFrame word) (name ∷ held) later = absurd later

        none_held : (f : Effect) → passing.SetsLater site f → held_names_before y.plan code.thread graph_thread.at ≡ []
        none_held (a.Sets local number to) later =
            set_none (home_of code.thread.locals local) (held_names_before y.plan code.thread graph_thread.at) later
        none_held f later = absurd later

    abbrev passed : passing.Passing site
    passed = record {
      mark = at_mark;
      passes = p;
      plain = quiet_plain e quiet;
      cleans = [];
      later = nothing_seen.later_is;
      clean = none_clean;
      ends = λ ends. refl;
      sets_later = λ later. (refl, point_none later);
      frame = subst (HasView v n) (sym (quiet_seen site at_mark quiet unlogged).1)
          (view_persists w v n site.core.view (log_stays y.runs.program w (Step n) site.hart.stands.machine.sound) (stays_all site at_mark p elsewhere)
          site.core.frame);
      named = all_words;
      among = all_named w.log c.new t.log.log.follows.new_is;
      elsewhere = elsewhere;
      may = nothing p.forward.effect nothing_seen.no_store;
      no_point = nothing_seen.no_point;
      no_fence = nothing_seen.no_fence;
      memory = b.config.memory;
      memory_is =
          ap (memory_in (places_of y)) (ap (λ (z : World). z.words) p.forward.world ∙ nothing_seen.same _ p.forward.contents p.forward.changes)
          ∙ site.hart.stands.memory;
      happened = happened;
      leads = follows_on y s b _ happened refl;
      by_it = refl;
      none_kept = refl;
      minded = minded;
      is_step = refl;
    }

    abbrev next : AbstractRun y
    next = passing.next site passed

    guards : (one : Element) → Contains (reads_of node.action seen) one → Guards (flat_of y) (now next.config) n one.variable one.element
    guards one of =
        let old = guards_here site.hart going node at one of in
        let holders : (now next.config).holders ≡ (now b.config).holders =
        sym (matches_now y s next).holders ∙ ap (λ (z : FlowState). z.holders) (passing.state site passed)
        ∙ plain_holders (now_of y b) n graph_thread e (quiet_plain e quiet) ∙ (matches_now y s b).holders in
        ap (λ (hs : List (Option ℕ)). slice_get hs (element_lock (flat_of y).variables one.variable one.element)) holders ∙ old

    no_clean : ComesNow (passing.passage site passed)
    no_clean now line cleaned = absurd (none_written _ _ cleaned.stores)

    quiet_passes : StepOf site.hart n
    quiet_passes =
        passed_step site passed
        (answers_guarded site.hart (reads_of node.action seen) (now next.config) guards)
        (λ u i. flushed_passed site passed u i (none_written u i) (λ position since. since) no_clean)
        (λ word position is.
        let same : (view site.hart).c.last_stores word ≡ Some position =
        last_by y.runs.program w n word ((view site.hart).c.last_stores word) mark.at.on.hart p.forward.effect (is_next site at_mark p)
        (stores_none word p.forward.effect nothing_seen.no_store) ∙ is in
        elim (t.stored.last word position same) [
          | durable_there low ↦ durable_there (step_durable y.runs.program w n site.hart.stands.machine.sound word position low)
          | comes_with u i f at low ↦ comes_with u i (flushed_on site passed u i (λ position since. since) no_clean f) at low
          | recorded_in among low ↦ passed_record site passed word position among low
          | in_frame own framed at low ↦ passed_frame site passed own word position framed at low
        ])
        (node_loaded site.hart going node at next (passing.new site passed) (passing.goes_next site passed) (sym (done_longer b.config n)) (λ one r. r))
        (λ variable number byte writes of.
        elim (wrote b.config.kept n (attempt_of b.config n).done variable number
        (subst (λ (k : ℕ). Writes b.config.kept n k variable number) (done_longer b.config n) writes)) [
          | inl old ↦ inl old
          | inr at_once ↦ absurd (none_written variable number at_once)
        ])
        (frames_passed site passed (λ own framed. inl (stays_all site at_mark p elsewhere own framed)))

  pub quiet_step : MarksPass → StepOf site.hart n
  quiet_step marks = mark_step site at_mark marks quiet_passes

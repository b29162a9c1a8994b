-- What the next store of a hart is: one to a variable, one to its own frame, or the first effect of its boundary, which is under way or begins.
use Rattle.crash_simulation.proofs.Public.{past_mark, past_stores, past_word}
use Rattle.crash_simulation.specs.InstructionSteps.{AtPastNow}
use Rattle.std.proofs.Common.{Bool, false}
use Rattle.recovered_threads.specs.RecordDescriptions.{DescribesAs}
use Rattle.std.proofs.Common.{◌≡◌, ◌≢◌, ◌⊎◌, inl, inr, refl, ℕ, ℤ, ◌+◌, ◌*◌, ◌<◌, ◌≤◌, suc, List, [], ◌∷◌, ◌++◌, ap, sym, ◌∙◌, subst}
use Rattle.std.proofs.Common.{true, Some, is_some, option_map, slice_get, if◌then◌else◌}
use Rattle.std.proofs.lemmas.Bool.{true≢false}
use Rattle.std.proofs.lemmas.Option.{same_Some}
use Rattle.ido_base.specs.Layout.{line_bytes, variable_lines, variables_base}
use Rattle.c_tree.specs.Exprs.{LockName}
use Rattle.rv64_isa.specs.Rows.{Effect, Stores, Calls}
use Rattle.log_schemes.specs.declared.locals.Locals.TheVariants.{Frame}
use Rattle.log_schemes.specs.Layout.{frame_at}
use Rattle.log_schemes.specs.Schemes.{locals_of}
use Rattle.machine_model.specs.Machine.{Hart, World, resume_of}
use Rattle.machine_model.specs.Schedule.{effect_at, is_running}
use Rattle.hart_runs.proofs.Public.{same_there}
use Rattle.flow_graph.specs.Actions as a
use Rattle.flow_graph.specs.Actions.{GraphThread, Seen}
use Rattle.flow_graph.specs.IdempotentCuts.{IsChosen, IsStoreNode, IsUnlock, Writes as WritesLocation, stores, unlocks}
use Rattle.flow_graph.specs.Liveness.{NodeAt}
use Rattle.flow_graph.specs.Nodes.{Action, Graph, Lock, Node, Store, Unlock}
use Rattle.flow_graph.specs.Paths.{stored_element as stored_element_of, write_of}
use Rattle.flow_graph.proofs.Public.{good_after, writes_lie_at}
use Rattle.code_runs.specs.CodeTraces.{MarkedEnvironment}
use Rattle.code_runs.specs.ComputingRuns.{LocalConfig}
use Rattle.expr_code.specs.EvaluationCode.{home_of}
use Rattle.expr_code.specs.declared.home.Home.{Home}
use Rattle.expr_code.specs.declared.home.Home.TheVariants.{InFrame, InRegister}
use Rattle.log_states.specs.LogInvariant.{LogInv}
use Rattle.log_states.specs.Logs.{IsFrameWord, Record}
use Rattle.log_states.specs.Machines.{IsNext, config_of}
use Rattle.log_states.specs.Stages.{LogIs, fences_ahead, is_store}
use Rattle.log_states.proofs.Public.{address_of, boundaries_fence, one_effect}
use Rattle.thread_code.specs.NodeCodeEffects.{keeping}
use Rattle.thread_code.specs.Plans.{held_names_before}
use Rattle.thread_code.specs.RegistersAtNodes.{LogView}
use Rattle.thread_runs.specs.CodeFragments.{ExitPoint, Computes, IsMadeBy, AreSeen, effects_of, effects_set, on_machine, stage_after}
use Rattle.thread_runs.specs.Laws.{FragmentsGoOn, IsAtSomeMark, MarksPass, PassesMark}
use Rattle.recovered_threads.specs.RecordDescriptions.{ComesNext, Describes, NodePlace, ResumesAt, at_chosen, between, inside, past_lock, past_unlock}
use Rattle.recovery_semantics.specs.Attempts.{Writes}
use Rattle.recovery_semantics.specs.Configs.{attempt_of}
use Rattle.recovery_semantics.specs.Events.{steps_begun}
use Rattle.region_attempts.specs.GraphStates.{flow_solo}
use Rattle.crash_simulation.specs.AbstractRuns.{kept_of, now_of}
use Rattle.crash_simulation.specs.InstructionSteps as moving
use Rattle.crash_simulation.specs.InstructionSteps.{AtCoreNow, IsReadyToStep, OnFragmentNow, Site}
use Rattle.crash_simulation.specs.SimulationRelation.{AreHeld}
use Rattle.crash_simulation.specs.Systems.{System, IsSystem, flat_of}
use Rattle.crash_simulation.specs.ThreadGhosts.{IsElementAt, ReadsAt}
use Rattle.crash_simulation.proofs.Public.{AssignsLogged, AtNode, IsPlainSet, IsUnlogged, Made, MakesStore, as_source, at_store, bounds_first, by_node}
use Rattle.crash_simulation.proofs.Public.{cleans_first, follows, found, held_up_stores_none, in_variables, is_logged, is_quiet, kept_good}
use Rattle.crash_simulation.proofs.Public.{kind_is, log_first, logged_mark, logged_sees, logged_word, made_by, making_mark, no_effect, placed, quietly_mark}
use Rattle.crash_simulation.proofs.Public.{stored_element, storing_fragment, unlocking_mark, view}
use Rattle.resumption_facts.proofs.Calls.{calls_next, calls_now}

-- how many bytes an effect stores
abbrev pub bytes_stored : Effect → ℕ
bytes_stored (Stores address bytes value) = bytes
bytes_stored effect = 0

abbrev pub first_address : List Effect → ℕ
first_address [] = 0
first_address (effect ∷ effects) = address_of effect

abbrev first_bytes : List Effect → ℕ
first_bytes [] = 0
first_bytes (effect ∷ effects) = bytes_stored effect

module _ {y : System} {s : IsSystem y} {w : World} {h : ℕ} (site : Site y s w h) where
  open site use {stands}
  open view site use {b, code, c, t, n, places, graph_thread, seen}

  -- the boundary of which the store is the next effect: the one under way, or one that begins
  pub record IsInBoundary (store : Effect) : Type 0 where
    pub old : Record
    pub new : Record
    pub hart : Hart
    pub later : List Effect
    pub here : slice_get w.harts n ≡ Some hart
    pub log : LogIs w.log n old new (config_of w hart (store ∷ later))
    pub stage : ((c.rest ≡ store ∷ later) × (new ≡ c.new)) ⊎ (fences_ahead (store ∷ later) ≡ 2)

  -- at the code of a node that makes a store; where locals stand in the frame, no step of the attempt is begun there
  pub record IsAtStoreNode : Type 0 where
    pub stores : IsStoreNode y.plan.graph graph_thread.at
    pub fresh : locals_of y.plan.log ≡ Frame → steps_begun b.config n ≡ 0

  -- the store is to an element, and what the attempt's steps have read of that they had stored before
  pub record IsToElement (address bytes : ℕ) : Type 0 where
    pub variable : ℕ
    pub number : ℕ
    pub at : IsElementAt y variable number address bytes
    pub low : address < variables_base + line_bytes * variable_lines
    pub follows : (step : ℕ) → step ≤ (attempt_of b.config n).done → ReadsAt y b n step variable number → Writes b.config.kept n step variable number
    pub stands : IsAtStoreNode

  -- the store is to a word of the hart's own frame: between sections, or right where the hart's record resumes it
  pub record IsToFrame (address bytes : ℕ) : Type 0 where
    pub own : ℕ
    pub framed : IsFrameWord w.log own
    pub address_is : address ≡ frame_at w.log n own
    pub bytes_are : bytes ≡ 8
    pub over : c.rest ≡ []
    pub stands : c.late ≡ false → (c.new.point ≡ 0) ⊎ (t.log.hart.pc ≡ resume_of c.new.point)

  pub data IsStored (address bytes value : ℕ) : Type 0 where
    to_element : IsToElement address bytes → IsStored address bytes value
    to_frame : IsToFrame address bytes → IsStored address bytes value
    in_boundary : IsInBoundary (Stores address bytes value) → IsStored address bytes value

  module _ (hart : Hart) (address bytes value : ℕ) (next : IsNext y.runs.program w n hart (Stores address bytes value)) where
    abbrev store : Effect
    store = Stores address bytes value

    abbrev Stored : Type 0
    Stored = IsStored address bytes value

    -- the hart's next effect is no other one
    is_it : (other : Hart) (effect : Effect) → IsNext y.runs.program w n other effect → effect ≡ store
    is_it other effect is = one_effect y.runs.program w n other hart effect store is next

    not_it : (other : Hart) (effect : Effect) → IsNext y.runs.program w n other effect → is_store effect ≡ false → ⊥
    not_it other effect is none = true≢false (sym (ap is_store (is_it other effect is)) ∙ none)

    -- ---- In a fragment

    by_made : (later : List Effect) (effect : Effect) → effect ≡ store → Made c.cleans c.rest later effect → Stored
    by_made later effect is (no_effect none unfenced same) = absurd (true≢false (sym (ap is_store is) ∙ none))
    by_made later effect is (cleans_first at others clean cleans after) = absurd (true≢false (sym (ap is_store is) ∙ ap is_store clean))
    by_made later effect is (bounds_first none rest) =
        let first : c.rest ≡ store ∷ later = rest ∙ ap (λ (e : Effect). e ∷ later) is in
        in_boundary (record {
          old = c.old;
          new = c.new;
          hart = t.log.hart;
          later = later;
          here = t.log.here;
          log = subst (λ (es : List Effect). LogIs w.log n c.old c.new (config_of w t.log.hart es)) first t.log.log;
          stage = inl (first, refl);
        })

    in_fragment : FragmentsGoOn → (exit : ExitPoint) (left : ℕ) → OnFragmentNow site exit (suc left) → Stored
    in_fragment law exit left o =
        let there = o.fragment in
        elim (law y.plan code.thread places y.runs.program w n o.environment _ left _ stands.machine.sound there).0 [
          | inl goes ↦
              by_made goes.later goes.forward.effect
              (is_it there.on.hart goes.forward.effect (record { here = there.on.here; runs = ap is_running there.on.runs; is = goes.forward.effect_is }))
              (made_by c.cleans c.rest goes.later goes.forward.effect t.stored.cleans goes.effects_are)
          | inr held ↦
              absurd (not_it there.on.hart held.drains.effect
              (record { here = there.on.here; runs = ap is_running there.on.runs; is = held.drains.effect_is })
              (held_up_stores_none held.drains.effect there.on.hart.queue held.drains.held_up))
        ]

    -- ---- At a mark

    -- what is seen from the mark on begins with the store
    pub record IsFirst {z : MarkedEnvironment} {node : ℕ} {at : Seen} {old : LogView} {registers : List ℕ} {e : a.Effect}
        (m : IsAtSomeMark y.plan code.thread places (on_machine y.runs.program w n z) node at old registers e) : Type 0 where
      pub later : List Effect
      pub first : m.effects ≡ store ∷ later
      pub made : IsMadeBy y.plan code.thread places (stage_after y.plan code.thread places node at old registers e) e store
      pub passes : PassesMark y.plan code.thread places (on_machine y.runs.program w n z) e
          (stage_after y.plan code.thread places node at old registers e) m.steps m.effects m.at

    first_at : MarksPass → {z : MarkedEnvironment} {node : ℕ} {at : Seen} {old : LogView} {registers : List ℕ} {e : a.Effect} →
        (m : IsAtSomeMark y.plan code.thread places (on_machine y.runs.program w n z) node at old registers e) → IsFirst m
    first_at marks {z} {node} {at} {old} {registers} {e} m =
        let on = m.at.on in
        elim (marks y.plan code.thread places y.runs.program w n z e _ m.steps m.effects stands.machine.sound m.at) [
          | inl p ↦
              let is = is_it on.hart p.forward.effect (record { here = on.here; runs = ap is_running on.runs; is = p.forward.effect_is }) in
              record {
                later = p.later;
                first = p.effects_are ∙ ap (λ (f : Effect). effects_of f ++ p.later) is;
                made = subst (λ (f : Effect). IsMadeBy y.plan code.thread places (stage_after y.plan code.thread places node at old registers e) e f) is p.made;
                passes = p;
              }
          | inr stays ↦
              absurd (not_it on.hart stays.drains.effect
              (record { here = on.here; runs = ap is_running on.runs; is = stays.drains.effect_is })
              (held_up_stores_none stays.drains.effect on.hart.queue stays.drains.held_up))
        ]

    set_sees : (home : Home) (held : List LockName) (registers : List ℕ) → IsPlainSet home held →
        effects_set y.plan code.thread places home held registers ≡ []
    set_sees (InRegister register) held registers plain = refl
    set_sees (InFrame word) [] registers plain = refl
    set_sees (InFrame word) (name ∷ held) registers plain = absurd plain

    quiet_sees : (node : ℕ) (at : Seen) (old : LogView) (registers : List ℕ) (e : a.Effect) (effects : List Effect) → is_quiet e ≡ true →
        IsUnlogged y.plan code.thread node e → AreSeen y.plan code.thread places node at old registers e effects → effects ≡ []
    quiet_sees node at old registers (a.Sets local number to) effects quiet plain sees =
        sees ∙ set_sees (home_of code.thread.locals local) (held_names_before y.plan code.thread node) registers plain
    quiet_sees node at old registers (a.Owes owed to) effects quiet plain sees = sees
    quiet_sees node at old registers (a.Goes to) effects quiet plain sees = sees
    quiet_sees node at old registers a.Ends effects quiet plain sees = sees
    quiet_sees node at old registers (a.Makes made to) effects quiet plain sees = absurd (true≢false (sym quiet))
    quiet_sees node at old registers (a.Takes mutex to) effects quiet plain sees = absurd (true≢false (sym quiet))
    quiet_sees node at old registers (a.Gives mutex to) effects quiet plain sees = absurd (true≢false (sym quiet))

    none_first : (later effects : List Effect) → effects ≡ [] → effects ≡ store ∷ later → ⊥
    none_first later effects none some = let e : [] ≡ store ∷ later = sym none ∙ some in cc

    module _ (marks : MarksPass) (core : AtCoreNow site) where
      abbrev node : AtNode y s w h
      node = record { hart = site; core = core }

      by_quiet : (e : a.Effect) (does : a.effect_of (found node).0.action seen ≡ Some e) (quiet : is_quiet e ≡ true) →
          IsUnlogged y.plan code.thread graph_thread.at e → Stored
      by_quiet e does quiet plain =
          let m = quietly_mark node (found node).0 (found node).1 (record { e = e; does = does; quiet = quiet }) plain in
          let f = first_at marks m in
          absurd (none_first f.later m.effects (quiet_sees graph_thread.at seen core.view core.registers e m.effects quiet plain m.seen_are) f.first)

      -- a node with a boundary before it begins the attempt
      begins : IsChosen y.plan.graph y.plan.boundaries graph_thread.at → steps_begun b.config n ≡ 0
      begins chosen = core.goes.goes.going ∙ core.fresh chosen

      at_plan : NodeAt y.plan.graph graph_thread.at (found node).0
      at_plan = subst (λ (g : Graph). NodeAt g graph_thread.at (found node).0) (sym s.plan.lowered) (found node).1

      -- where the record resumes it, if that is told of a write
      resumed_at : (place : NodePlace) (address : ℕ) → ResumesAt y.plan code graph_thread.at place address →
          ComesNext y.plan graph_thread.at place c.new.written → is_some c.new.written ≡ true → address ≡ places.core graph_thread.at
      resumed_at _ _ (at_chosen chosen) comes told = refl
      resumed_at _ _ (past_lock from lock is own at locks) comes told = absurd (true≢false (sym told ∙ ap is_some comes))
      resumed_at _ _ (past_unlock from lock is own at gives holds) comes told = absurd (true≢false (sym told ∙ ap is_some comes))

      -- at a logged assignment its record, where that has a point, resumes the thread right there
      resumes_here : IsChosen y.plan.graph y.plan.boundaries graph_thread.at → Describes y.plan code (kept_of y b) c.new →
          (c.new.point ≡ 0) ⊎ (t.log.hart.pc ≡ resume_of c.new.point)
      resumes_here chosen (between none point) = inl point
      resumes_here chosen (inside some i) =
          let kept : slice_get (now_of y b).graph_threads n ≡ slice_get (kept_of y b).graph_threads n =
          (as_source y s b).alone n ∙ ap (λ (k : ℕ). slice_get (flow_solo (flat_of y) (kept_of y b) n k).graph_threads n) (begins chosen) in
          let same : i.graph_thread ≡ graph_thread =
          same_there (slice_get (kept_of y b).graph_threads n) i.graph_thread graph_thread i.there (sym kept ∙ t.walks) in
          let here : ResumesAt y.plan code graph_thread.at i.place (resume_of c.new.point) =
          subst (λ (x : GraphThread). ResumesAt y.plan code x.at i.place (resume_of c.new.point)) same i.resumes in
          let comes : ComesNext y.plan graph_thread.at i.place c.new.written =
          subst (λ (x : GraphThread). ComesNext y.plan x.at i.place c.new.written) same i.written in
          let pc : core.core.at.hart.pc ≡ places.core graph_thread.at = ap (λ (m : LocalConfig). m.pc) core.core.at.is in
          let own : t.log.hart ≡ core.core.at.hart =
          same_there (slice_get w.harts n) t.log.hart core.core.at.hart t.log.here core.core.at.here in
          inr (ap (λ (x : Hart). x.pc) own ∙ (pc ∙ sym (resumed_at i.place (resume_of c.new.point) here comes (core.told chosen))))

      by_logged : AssignsLogged node (found node).0 → Stored
      by_logged assigns =
          let m = logged_mark node (found node).0 (found node).1 assigns in
          let f = first_at marks m in
          let own = logged_word node (found node).0 (found node).1 assigns in
          let first = sym f.first ∙ logged_sees node (found node).0 (found node).1 assigns in
          let logged = is_logged node (found node).0 (found node).1 assigns in
          let chosen = (placed y s w h site.below stands.machine.log stands.machine.count).recorded graph_thread.at core.core.own logged in
          to_frame (record {
            own = own.word;
            framed = record { frame = own.framed; exists = own.exists };
            address_is = ap first_address first ∙ own.is;
            bytes_are = ap first_bytes first;
            over = core.goes.goes.rest;
            stands = λ on_time. resumes_here chosen (subst (λ (late : Bool). DescribesAs y.plan code (kept_of y b) late c.new) on_time
                (subst (λ (done : Bool). DescribesAs y.plan code (kept_of y b) c.late (if done then c.new else c.old)) core.goes.goes.committed
                t.records.describes));
          })

      -- where locals stand in the frame a boundary stands before a node that makes a store
      at_store_node : MakesStore (found node).0 graph_thread → IsAtStoreNode
      at_store_node makes = record {
        stores = stores (found node).0 makes.variable makes.kind makes.next at_plan makes.action;
        fresh = λ framed. begins (record { stands = s.plan.at_writes.stores framed graph_thread.at writes; free = free });
      }
        where
          writes : WritesLocation y.plan.graph graph_thread.at
          writes =
              let good = good_after (flat_of y) b.config.uncommitted s.plan.formed (kept_of y b) (kept_good y s b) in
              let writes = ap (λ (z : Action). write_of z seen) makes.action ∙ ap (option_map stored_element_of) makes.pending in
              let lies =
              writes_lie_at (flat_of y) s.plan.formed (now_of y b) good n code.of.text code.of.of_text graph_thread (found node).0
              (stored_element_of makes.store) t.walks (found node).1 writes in
              record { is = (found node).0; at = at_plan; written = lies.location; writes = lies.of }

          free : IsUnlock y.plan.graph graph_thread.at → ⊥
          free (unlocks is lock next there gives) =
              let same : is ≡ (found node).0 = same_Some is (found node).0 (sym there ∙ at_plan) in
              let both : Unlock lock next ≡ Store makes.variable makes.kind makes.next =
              sym gives ∙ (ap (λ (z : Node). z.action) same ∙ makes.action) in
              cc

      by_store : MakesStore (found node).0 graph_thread → Stored
      by_store makes =
          let m = making_mark node (found node).0 (found node).1 makes in
          let f = first_at marks m in
          let is = f.made _ (kind_is node (found node).0 (found node).1 makes) in
          let its = stored_element node (found node).0 (found node).1 makes f.passes in
          to_element (record {
            variable = makes.store.variable;
            number = makes.store.element;
            at = record {
              is = its.is;
              there = its.there;
              within = its.within;
              address_is = ap address_of is.is ∙ its.address_is;
              bytes_are = ap bytes_stored is.is ∙ its.bytes_are;
            };
            low = subst (λ (at : ℕ). at < variables_base + line_bytes * variable_lines) (sym (ap address_of is.is))
                (in_variables node (found node).0 (found node).1 makes);
            follows = follows node (found node).0 (found node).1 makes f.passes;
            stands = at_store_node makes;
          })

      in_new : (new : Record) (effects later : List Effect) → LogInv n c.new new w effects → fences_ahead effects ≡ 2 → effects ≡ store ∷ later → Stored
      in_new new effects later l two rest = in_boundary (record {
        old = c.new;
        new = new;
        hart = l.hart;
        later = later;
        here = l.here;
        log = subst (λ (es : List Effect). LogIs w.log n c.new new (config_of w l.hart es)) rest l.log;
        stage = inr (ap fences_ahead (sym rest) ∙ two);
      })

      by_unlock : (lock : LockName) (to : ℕ) → (found node).0.action ≡ Unlock lock to → Stored
      by_unlock lock to is =
          let m = unlocking_mark node (found node).0 (found node).1 (record { lock = lock; next_node = to; action = is }) in
          let f = first_at marks m in
          in_new _ _ f.later (log_first node (found node).0 (found node).1 (record { lock = lock; next_node = to; action = is }))
          (boundaries_fence (keeping y.plan code.thread places false graph_thread.locals to) core.view.side (places.after graph_thread.at) core.registers)
          (sym m.seen_are ∙ f.first)

      at_node : ((is : Node) (lock : LockName) (to : ℕ) → NodeAt y.plan.graph graph_thread.at is → is.action ≢ Lock lock to) → Stored
      at_node free = by_node node Stored free by_quiet by_logged by_store by_unlock

    -- ---- At the store of a local between sections

    by_local : (from local : ℕ) (number : ℤ) → OnFragmentNow site (Computes from local number) 0 → Stored
    by_local from local number o =
        let on = storing_fragment site from local number o in
        let at = at_store site from local number o in
        let own = (placed y s w h site.below stands.machine.log stands.machine.count).words local on.of_graph.word on.of_graph.home in
        let same : at.on.on.hart ≡ hart = same_there (slice_get w.harts n) at.on.on.hart hart at.on.on.here next.here in
        let is = at.first store (ap (effect_at y.runs.program n) same ∙ next.is) in
        to_frame (record {
          own = own.word;
          framed = record { frame = own.framed; exists = own.exists };
          address_is = ap address_of is ∙ own.is;
          bytes_are = ap bytes_stored is;
          over = o.fits.0.goes.rest;
          stands = λ on_time. inl o.fits.1;
        })

    -- once more the local of a logged assignment that its thread is past
    by_past : AtPastNow site → Stored
    by_past o =
        let m = past_mark site o in
        let own = past_word site o in
        let same : m.at.on.hart ≡ hart = same_there (slice_get w.harts n) m.at.on.hart hart m.at.on.here next.here in
        let is = past_stores site o store (m.at.made store (ap (effect_at y.runs.program n) same ∙ next.is)) in
        to_frame (record {
          own = own.word;
          framed = record { frame = own.framed; exists = own.exists };
          address_is = ap address_of is ∙ own.is;
          bytes_are = ap bytes_stored is;
          over = o.goes.goes.rest;
          stands = λ on_time. absurd (true≢false (sym o.late ∙ on_time));
        })

    -- ---- Wherever it is

    pub own_store : FragmentsGoOn → MarksPass → AreHeld w stands.ghosts (now_of y b) → IsReadyToStep site → Stored
    own_store law marks held (moving.on_fragment exit left o) = in_fragment law exit left o
    own_store law marks held (moving.stores_local (moving.outside from local number o)) = by_local from local number o
    own_store law marks held (moving.stores_local (moving.again o)) = by_past o
    own_store law marks held (moving.at_core core free) = at_node marks core free
    own_store law marks held (moving.calls exit o calling) =
        let at = calls_now site held exit o calling in
        absurd (not_it at.at.hart Calls (calls_next y.runs.program w n at.number at.at) refl)

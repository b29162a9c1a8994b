-- What a committed boundary's record describes, and what the others' go on to describe.
use Rattle.std.proofs.Common.{◌≡◌, ◌≢◌, inl, inr, ℕ, List, [], refl, ap, sym, ◌∙◌, subst, Some, true, false}
use Rattle.std.specs.Prelude.{slice_get, ℤ}
use Rattle.std.proofs.lemmas.Bool.{cases_Bool}
use Rattle.ido_base.specs.Locks.{holds_none}
use Rattle.c_tree.specs.LockNames.{Held}
use Rattle.source_machine.specs.Mutexes.{held_by}
use Rattle.flow_graph.specs.Nodes.{Action, Eval, Store, Test, Lock, Unlock, End}
use Rattle.flow_graph.specs.Actions.{GraphThread, FlowState, seen_by}
use Rattle.boundary_code.specs.Boundaries.{Boundary, is_empty}
use Rattle.boundary_code.proofs.Public.{some_there}
use Rattle.log_states.specs.Logs.{Record}
use Rattle.log_states.specs.Laws.{recorded_by}
use Rattle.log_states.proofs.Public.{point_says, points_end}
use Rattle.thread_code.specs.Plans.{Plan, IsPlan, held_names_before, locks_before, locks_held}
use Rattle.thread_code.specs.RegistersAtNodes.{IsPendingIn, Enters, LogView}
use Rattle.thread_code.proofs.Public.{named_some, ready_whatever}
use Rattle.recovered_threads.specs.RecordDescriptions.{AreCounted, Code, Describes, IsOrderly, MayGoOn, NodePlace, ResumesAt, between, inside}
use Rattle.recovered_threads.specs.RecordDescriptions.{the_core, the_entry, words_in}
use Rattle.recovered_threads.specs.Laws.{AssignsAlike, AtBoundary, CommitsDescribe, OthersDescribe}
use Rattle.recovered_threads.proofs.RecordedLocks.{none_before, none_where}
use Rattle.recovered_threads.proofs.Boundaries.{boundaries_recover, of_locks, of_registers, of_write, resumes_there}

module _ (p : Plan) (code : Code p) (kept : FlowState) (b : Boundary) (view : LogView) (resume : ℕ) (x : List ℕ) (framed : List ℕ) (plan : IsPlan p)
    (orderly : IsOrderly p kept) (k : AtBoundary p code kept b view resume x) (counted : AreCounted p code.thread k.graph_thread.at k.place framed) where
  abbrev frame : ℕ → ℕ
  frame = words_in p.log code.thread.number view

  abbrev new : Record
  new = recorded_by b framed frame view.side resume x

  locks_are : b.locks ≡ locks_before p code.thread k.graph_thread.locals k.graph_thread.at
  locks_are = of_locks p code k.graph_thread k.place b resume k.boundary

  -- the thread holds nothing exactly where the boundary has no locks
  holds : holds_none kept.holders code.thread.number ≡ is_empty b.locks
  holds = none_before p kept plan orderly code.thread code.of k.graph_thread k.there k.own ∙ ap is_empty (sym locks_are)

  describes : Describes p code kept new
  describes = elim (cases_Bool (is_empty b.locks)) [
    | inl none ↦ between (holds ∙ none) (points_end b framed frame view.side resume x none)
    | inr some ↦
        let locked : b.locks ≢ [] = some_there b.locks some in
        let says = point_says b framed frame view.side resume x (boundaries_recover p code kept b view resume x plan orderly k) locked in
        let names : held_names_before p code.thread k.graph_thread.at ≢ [] =
        named_some k.graph_thread.locals (held_names_before p code.thread k.graph_thread.at) (subst (λ (ls : List ℕ). ls ≢ []) locks_are locked) in
        inside (holds ∙ some) (record {
          graph_thread = k.graph_thread;
          there = k.there;
          goes_on = k.goes_on;
          own = k.own;
          point = says.0;
          place = k.place;
          resumes = subst (λ (a : ℕ). ResumesAt p code k.graph_thread.at k.place a) (sym says.2)
              (resumes_there p code k.graph_thread k.place b resume k.boundary names);
          locks = locks_are;
          live = of_registers p code k.graph_thread k.place b resume k.boundary;
          written = of_write p code k.graph_thread k.place b resume k.boundary;
          framed = counted;
          view = view;
          frame = λ word has. refl;
          owed = k.owed;
          may = k.may;
        })
  ]

pub commits_describe : CommitsDescribe
commits_describe p code kept b view resume x framed plan orderly k counted = describes p code kept b view resume x framed plan orderly k counted

-- ---- Others

-- what is pending is the thread's own
pending_on : (p : Plan) (kept after : FlowState) (graph_thread : GraphThread) (x : List ℕ) (a : Action) → IsPendingIn p a (seen_by kept graph_thread) x →
    IsPendingIn p a (seen_by after graph_thread) x
pending_on p kept after graph_thread x (Eval target value next) h = h
pending_on p kept after graph_thread x (Store variable kind next) h = h
pending_on p kept after graph_thread x (Test condition to other) h = h
pending_on p kept after graph_thread x (Lock lock next) h = h
pending_on p kept after graph_thread x (Unlock lock next) h = h
pending_on p kept after graph_thread x End h = h

enters_on : (p : Plan) (code : Code p) (kept after : FlowState) (graph_thread : GraphThread) (node : ℕ) (view : LogView) (x : List ℕ) →
    Enters p code.thread node (seen_by kept graph_thread) view x → Enters p code.thread node (seen_by after graph_thread) view x
enters_on p code kept after graph_thread node view x e = record {
  at_side = e.at_side;
  count = e.count;
  locals = e.locals;
  pending = λ is at. pending_on p kept after graph_thread x is.action (e.pending is at);
}

may_on : (p : Plan) (code : Code p) (kept after : FlowState) (graph_thread : GraphThread) (place : NodePlace) (view : LogView) (owed : ℤ) (x : List ℕ) →
    slice_get kept.graph_threads code.thread.number ≡ Some graph_thread → AssignsAlike p code.thread kept after →
    MayGoOn p code.thread graph_thread.at place (seen_by kept graph_thread) view owed x →
    MayGoOn p code.thread graph_thread.at place (seen_by after graph_thread) view owed x
may_on p code kept after graph_thread the_entry view owed x there alike may = enters_on p code kept after graph_thread graph_thread.at view x may
may_on p code kept after graph_thread the_core view owed x there alike may = (
  ready_whatever p code.thread graph_thread.at (seen_by kept graph_thread) after.variables view owed x may.0,
  λ is local number next at logged does. may.1 is local number next at logged (sym (alike graph_thread is there at logged) ∙ does),
)

holds_on : (n : ℕ) (kept after : FlowState) → held_by n after.holders ≡ held_by n kept.holders → holds_none after.holders n ≡ holds_none kept.holders n
holds_on n kept after same = none_where n after.holders ∙ (ap (λ (h : Held). is_empty (locks_held h)) same ∙ sym (none_where n kept.holders))

others_on_time : (p : Plan) (code : Code p) (kept after : FlowState) (r : Record) → Describes p code kept r →
    slice_get after.graph_threads code.thread.number ≡ slice_get kept.graph_threads code.thread.number →
    held_by code.thread.number after.holders ≡ held_by code.thread.number kept.holders → AssignsAlike p code.thread kept after → Describes p code after r
others_on_time p code kept after r (between none point) graph_threads held alike = between (holds_on code.thread.number kept after held ∙ none) point
others_on_time p code kept after r (inside some i) graph_threads held alike = inside (holds_on code.thread.number kept after held ∙ some) (record {
  graph_thread = i.graph_thread;
  there = graph_threads ∙ i.there;
  goes_on = i.goes_on;
  own = i.own;
  point = i.point;
  place = i.place;
  resumes = i.resumes;
  locks = i.locks;
  live = i.live;
  written = i.written;
  framed = i.framed;
  view = i.view;
  frame = i.frame;
  owed = i.owed;
  may = may_on p code kept after i.graph_thread i.place i.view i.owed r.registers i.there alike i.may;
})

pub others_describe : OthersDescribe
others_describe p code kept after false r describes graph_threads held alike = others_on_time p code kept after r describes graph_threads held alike
others_describe p code kept after true r past graph_threads held alike = record {
  holds = holds_on code.thread.number kept after held ∙ past.holds;
  graph_thread = past.graph_thread;
  there = graph_threads ∙ past.there;
  goes_on = past.goes_on;
  own = past.own;
  point = past.point;
  locks = past.locks;
  node = past.node;
  own_node = past.own_node;
  logged = past.logged;
  goes = past.goes;
  owed = past.owed;
  number = past.number;
  chosen = past.chosen;
  resumes = past.resumes;
  live = past.live;
  framed = past.framed;
  view = past.view;
  frame = past.frame;
  ready = ready_whatever p code.thread past.node (seen_by kept past.graph_thread) after.variables past.view past.owed r.registers past.ready;
}

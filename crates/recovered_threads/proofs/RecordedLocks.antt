-- The locks of a thread's record are those that it holds in the kept state.
use Rattle.std.proofs.Common.{◌≡◌, ◌≢◌, ◌↔◌, inl, inr, ℕ, zero, suc, ◌+◌, ◌-◌, ◌<◌, ◌^◌, ◌==◌, List, [], ◌∷◌, refl, ap, arith, sym, subst, ◌∙◌}
use Rattle.std.proofs.Common.{cond, Bool, true, false, Option, Some, None, is_none}
use Rattle.std.specs.Prelude.{Contains, map, slice_get, slice_index_or, ℤ}
use Rattle.std.proofs.lemmas.Bool.{true≢false, cond-false, eq-eqb, eqb-true, ne_eqb, or_left, or_right}
use Rattle.std.proofs.lemmas.Option.{none-some, same_Some, slice_get_within, get_or_from_slice_get}
use Rattle.ido_base.specs.Locks.{is_held_by, held_from, holds_none, has_lock}
use Rattle.c_tree.specs.Source as m
use Rattle.c_tree.specs.Exprs.{LockName}
use Rattle.c_tree.specs.LockNames.{Held, held_names, holds, lock_names}
use Rattle.c_tree.specs.Values.{lock_number}
use Rattle.source_machine.specs.Discipline.{HoldsNames, KeepsLeft}
use Rattle.source_machine.specs.Mutexes.{held_by}
use Rattle.source_machine.proofs.Public.{held_is_given}
use Rattle.lock_discipline.specs.HeldSetsByStep.{AreSetsOf, HeldBefore}
use Rattle.lock_discipline.proofs.Public.{set_left, thread_sets_are}
use Rattle.flow_graph.specs.declared.graph.Part.{Part}
use Rattle.flow_graph.specs.Nodes.{Graph}
use Rattle.flow_graph.specs.Lowering.{parts}
use Rattle.flow_graph.specs.Lockstep.{GraphThreadMatches}
use Rattle.flow_graph.specs.Actions.{GraphThread, FlowState}
use Rattle.flow_graph.proofs.Public.{found_in, lowered_threads}
use Rattle.boundary_code.specs.Boundaries.{is_empty}
use Rattle.boundary_code.proofs.Public.{none_there}
use Rattle.log_states.specs.Logs.{Record}
use Rattle.log_schemes.specs.SchemeFacts.{AreLoggable}
use Rattle.log_states.proofs.Public.{contains_cases, contains_none, locks_kept}
use Rattle.thread_code.specs.Plans.{Plan, Thread, IsThread, IsNodeOf, IsPlan, locks_held, locks_held_from, set_before, locks_before}
use Rattle.thread_code.proofs.Public.{has_held, names_are}
use Rattle.recovered_threads.specs.RecordDescriptions.{Describes, Code, IsOrderly, between, inside, locks_of}
use Rattle.recovered_threads.specs.Laws.{LocksAreHeld, PointsHaveLocks, RecordsAreApart}
use Rattle.recovered_threads.proofs.HeldNumbers.{held_numbers}
use Rattle.recovered_threads.proofs.NodesBeforeSteps.{left_at, standing_at}

-- ---- Sets and holders

pub held_is : (n : ℕ) (holder : Option ℕ) → is_held_by n holder ≡ true → holder ≡ Some n
held_is n None e = absurd (true≢false (sym e))
held_is n (Some g) e = ap (λ (k : ℕ). Some k) (sym (eqb-true n g e))

pub is_own : (n : ℕ) → is_held_by n (Some n) ≡ true
is_own n = let e : (n == n) ≡ true = grind arith in e

-- a set of held locks says who holds them
holds_is : (n : ℕ) (holders : List (Option ℕ)) (lock : ℕ) → (holds (held_by n holders) lock ≡ true) ↔ (slice_get holders lock ≡ Some (Some n))
holds_is n [] lock = (λ e. absurd (true≢false (sym e)), λ e. absurd (none-some (Some n) e))
holds_is n (o ∷ holders) zero =
    (λ e. ap (λ (x : Option ℕ). Some x) (held_is n o e), λ e. ap (λ (x : Option ℕ). is_held_by n x) (same_Some o (Some n) e) ∙ is_own n)
holds_is n (o ∷ holders) (suc lock) = holds_is n holders lock

locks_hold : (n : ℕ) (holders : List (Option ℕ)) (lock : ℕ) →
    (has_lock (locks_held (held_by n holders)) lock ≡ true) ↔ (slice_get holders lock ≡ Some (Some n))
locks_hold n holders lock =
    (λ e. (holds_is n holders lock).0 (sym (has_held (held_by n holders) lock) ∙ e), λ e. has_held (held_by n holders) lock ∙ (holds_is n holders lock).1 e)

-- there is none where a thread holds none
none_is : (at n : ℕ) (holders : List (Option ℕ)) → is_none (held_from at holders n) ≡ is_empty (locks_held_from at (held_by n holders))
none_is at n [] = refl
none_is at n (o ∷ holders) = by (is_held_by n o) (none_is (at + 1) n holders)
  where
    by : (b : Bool) → is_none (held_from (at + 1) holders n) ≡ is_empty (locks_held_from (at + 1) (held_by n holders)) →
        is_none (cond b (Some at) (held_from (at + 1) holders n))
        ≡ is_empty (cond b (at ∷ locks_held_from (at + 1) (held_by n holders)) (locks_held_from (at + 1) (held_by n holders)))
    by true h = refl
    by false h = h

pub none_where : (n : ℕ) (holders : List (Option ℕ)) → holds_none holders n ≡ is_empty (locks_held (held_by n holders))
none_where n holders = none_is 0 n holders

no_locks_where : (n : ℕ) (holders : List (Option ℕ)) → holds_none holders n ≡ true → locks_held (held_by n holders) ≡ []
no_locks_where n holders none = none_there (locks_held (held_by n holders)) (sym (none_where n holders) ∙ none)

-- who holds none holds this one neither
pub holds_none_is : (n : ℕ) (holders : List (Option ℕ)) (lock : ℕ) → holds_none holders n ≡ true → slice_get holders lock ≡ Some (Some n) → ⊥
holds_none_is n holders lock none there =
    true≢false (sym ((locks_hold n holders lock).1 there) ∙ ap (λ (locks : List ℕ). has_lock locks lock) (no_locks_where n holders none))

-- two lists of the same locks are both empty, or neither
same_emptiness : (xs ys : List ℕ) → ((lock : ℕ) → has_lock xs lock ≡ true → has_lock ys lock ≡ true) →
    ((lock : ℕ) → has_lock ys lock ≡ true → has_lock xs lock ≡ true) → is_empty xs ≡ is_empty ys
same_emptiness [] [] there back = refl
same_emptiness [] (y ∷ ys) there back = absurd (true≢false (sym (back y (or_left (y == y) (has_lock ys y) (eq-eqb y y refl)))))
same_emptiness (x ∷ xs) [] there back = absurd (true≢false (sym (there x (or_left (x == x) (has_lock xs x) (eq-eqb x x refl)))))
same_emptiness (x ∷ xs) (y ∷ ys) there back = refl

-- a test finds what the list has
pub has_there : (xs : List ℕ) (lock : ℕ) → Contains xs lock → has_lock xs lock ≡ true
has_there [] lock c = absurd (contains_none lock c)
has_there (x ∷ xs) lock c = elim (contains_cases x xs lock c) [
  | inl is ↦ or_left (x == lock) (has_lock xs lock) (eq-eqb x lock (sym is))
  | inr more ↦ or_right (x == lock) (has_lock xs lock) (has_there xs lock more)
]

-- ---- The set before a node

module _ (p : Plan) (kept : FlowState) (plan : IsPlan p) (orderly : IsOrderly p kept) (t : Thread) (is : IsThread p t) (graph_thread : GraphThread)
    (there : slice_get kept.graph_threads t.number ≡ Some graph_thread) (own : IsNodeOf t graph_thread.at) where
  found : (thread : m.Thread) × (slice_get orderly.source.threads t.number ≡ Some thread)
  found =
      found_in orderly.source.threads t.number (let l = slice_get_within kept.graph_threads t.number graph_thread there in
      omega (arith, l, orderly.matches.count))

  sets : (table : List Held) × (slice_get p.held t.number ≡ Some table)
  sets = found_in p.held t.number (let l = slice_get_within p.flat.threads t.number is.text is.of_text in omega (arith, l, plan.held.each_thread))

  part_is : slice_get (parts p.flat.threads 0) t.number ≡ Some t.part
  part_is = ap (λ (ps : List Part). slice_get ps t.number) (sym (ap (λ (g : Graph). g.threads) plan.lowered ∙ lowered_threads p.flat)) ∙ is.nodes

  -- from that set what the thread has left keeps the discipline
  keeps_left : KeepsLeft p.flat (lock_names p.flat is.text) (set_before p t graph_thread.at) found.0.left
  keeps_left =
      let n = t.number in
      let step = graph_thread.at - t.part.first in
      let matches : GraphThreadMatches p.flat graph_thread found.0 = orderly.matches.each n graph_thread found.0 there found.1 in
      let stands = sym (standing_at p.flat n t.part is.text graph_thread.at part_is is.of_text own.from_first own.below_end) ∙ matches.stands in
      let left = left_at is.text step _ stands in
      let of : AreSetsOf p.flat is.text sets.0 = plan.held.sets n is.text sets.0 is.of_text sets.1 in
      let own_set = set_left p.flat is.text step found.0.left of.disciplined left in
      let before : HeldBefore p.flat is.text step own_set.0 = ((thread_sets_are p.flat is.text of.disciplined).exactly step own_set.0).0 own_set.1 in
      let there_is : slice_get sets.0 step ≡ Some own_set.0 = (of.exactly step own_set.0).1 before in
      let same : set_before p t graph_thread.at ≡ own_set.0 =
      ap (λ (table : List Held). slice_index_or table step []) (get_or_from_slice_get p.held n sets.0 [] sets.1)
      ∙ get_or_from_slice_get sets.0 step own_set.0 [] there_is in
      subst (λ (h : Held). KeepsLeft p.flat (lock_names p.flat is.text) h found.0.left) (sym same) own_set.2

  -- it holds exactly the locks of the names in it
  pub holds_names : HoldsNames (lock_names p.flat is.text) (set_before p t graph_thread.at) graph_thread.locals kept.holders t.number
  holds_names =
      let n = t.number in
      let names = lock_names p.flat is.text in
      let set = set_before p t graph_thread.at in
      let matches : GraphThreadMatches p.flat graph_thread found.0 = orderly.matches.each n graph_thread found.0 there found.1 in
      let given = held_is_given p.flat orderly.source n is.text found.0 set orderly.keeps is.of_text found.1 keeps_left in
      subst (λ (ls : List ℤ). HoldsNames names set ls kept.holders n) (sym matches.locals)
      (subst (λ (hs : List (Option ℕ)). HoldsNames names set found.0.locals hs n) (sym orderly.matches.holders) given)

  abbrev own_locks : List ℕ
  own_locks = locks_before p t graph_thread.locals graph_thread.at

  -- the numbers of these names, by its locals, are the locks that it holds: so with keys or without
  pub numbers_are_held : (lock : ℕ) → (has_lock own_locks lock ≡ true) ↔ (slice_get kept.holders lock ≡ Some (Some t.number))
  numbers_are_held lock =
      let set = set_before p t graph_thread.at in
      let ls = graph_thread.locals in
      subst (λ (ns : List LockName). (has_lock (map (lock_number ls) (held_names ns set)) lock ≡ true) ↔ (slice_get kept.holders lock ≡ Some (Some t.number)))
      (sym (names_are p t is)) (held_numbers ls (lock_names p.flat is.text) set kept.holders t.number holds_names lock)

  -- there is none exactly where it holds none
  pub none_before : holds_none kept.holders t.number ≡ is_empty own_locks
  none_before =
      let n = t.number in
      none_where n kept.holders
      ∙ same_emptiness (locks_held (held_by n kept.holders)) own_locks (λ lock e. (numbers_are_held lock).1 ((locks_hold n kept.holders lock).0 e))
      (λ lock e. (locks_hold n kept.holders lock).1 ((numbers_are_held lock).0 e))

  -- each of them exists
  locks_fit : (lock : ℕ) → Contains own_locks lock → lock < 2 ^ 64
  locks_fit lock c =
      let held = (numbers_are_held lock).0 (has_there own_locks lock c) in
      omega (arith, slice_get_within kept.holders lock (Some t.number) held, orderly.locks, plan.formed.shared.mutexes)

  -- a log can hold the locks before the node
  pub are_loggable : AreLoggable p.log own_locks
  are_loggable = (locks_kept p.log).room own_locks (plan.room t graph_thread.locals graph_thread.at) locks_fit

-- ---- Records

pub between_locks : (r : Record) → r.point ≡ 0 → locks_of r ≡ []
between_locks r none = ap (λ (point : ℕ). cond (point == 0) [] r.locks) none

pub inside_locks : (r : Record) → r.point ≢ 0 → locks_of r ≡ r.locks
inside_locks r some = cond-false (r.point == 0) [] r.locks (ne_eqb r.point 0 some)

-- the record of a thread that stands in a section has the locks that it holds there
held_inside : (p : Plan) (code : Code p) (kept : FlowState) (r : Record) → IsPlan p → IsOrderly p kept → (graph_thread : GraphThread) →
    slice_get kept.graph_threads code.thread.number ≡ Some graph_thread → IsNodeOf code.thread graph_thread.at → r.point ≢ 0 →
    r.locks ≡ locks_before p code.thread graph_thread.locals graph_thread.at →
    (lock : ℕ) → (has_lock (locks_of r) lock ≡ true) ↔ (slice_get kept.holders lock ≡ Some (Some code.thread.number))
held_inside p code kept r plan orderly graph_thread there own point locks lock =
    let same : locks_of r ≡ locks_before p code.thread graph_thread.locals graph_thread.at = inside_locks r point ∙ locks in
    let held = numbers_are_held p kept plan orderly code.thread code.of graph_thread there own lock in
    (λ e. held.0 (sym (ap (λ (ls : List ℕ). has_lock ls lock) same) ∙ e), λ g. ap (λ (ls : List ℕ). has_lock ls lock) same ∙ held.1 g)

-- and some
some_inside : (p : Plan) (code : Code p) (kept : FlowState) (r : Record) → IsPlan p → IsOrderly p kept → (graph_thread : GraphThread) →
    slice_get kept.graph_threads code.thread.number ≡ Some graph_thread → IsNodeOf code.thread graph_thread.at → r.point ≢ 0 →
    r.locks ≡ locks_before p code.thread graph_thread.locals graph_thread.at → holds_none kept.holders code.thread.number ≡ false → locks_of r ≡ [] → ⊥
some_inside p code kept r plan orderly graph_thread there own point locks some none =
    let is : locks_before p code.thread graph_thread.locals graph_thread.at ≡ [] = sym (inside_locks r point ∙ locks) ∙ none in
    let empty = none_before p kept plan orderly code.thread code.of graph_thread there own ∙ ap is_empty is in
    true≢false (sym empty ∙ some)

held_on_time : (p : Plan) (code : Code p) (kept : FlowState) (r : Record) → IsPlan p → IsOrderly p kept → Describes p code kept r →
    (lock : ℕ) → (has_lock (locks_of r) lock ≡ true) ↔ (slice_get kept.holders lock ≡ Some (Some code.thread.number))
held_on_time p code kept r plan orderly (between none point) lock = (
  λ e. absurd (true≢false (sym e ∙ ap (λ (locks : List ℕ). has_lock locks lock) (between_locks r point))),
  λ g. absurd (holds_none_is code.thread.number kept.holders lock none g),
)
held_on_time p code kept r plan orderly (inside some i) lock = held_inside p code kept r plan orderly i.graph_thread i.there i.own i.point i.locks lock

pub locks_are_held : LocksAreHeld
locks_are_held p code kept false r plan orderly describes lock = held_on_time p code kept r plan orderly describes lock
locks_are_held p code kept true r plan orderly past lock =
    held_inside p code kept r plan orderly past.graph_thread past.there past.own past.point past.locks lock

pub records_are_apart : RecordsAreApart
records_are_apart p codes kept lates records plan orderly describe g h lock gb hb eg eh =
    let one = (locks_are_held p (codes.each g gb) kept (lates g) (records g) plan orderly (describe g gb) lock).0 eg in
    let other = (locks_are_held p (codes.each h hb) kept (lates h) (records h) plan orderly (describe h hb) lock).0 eh in
    let same = same_Some (codes.each g gb).thread.number (codes.each h hb).thread.number (same_Some _ _ (sym one ∙ other)) in
    sym (codes.number g gb) ∙ (same ∙ codes.number h hb)

some_on_time : (p : Plan) (code : Code p) (kept : FlowState) (r : Record) → IsPlan p → IsOrderly p kept → Describes p code kept r →
    (locks_of r ≡ []) ↔ (r.point ≡ 0)
some_on_time p code kept r plan orderly (between none point) = (λ e. point, λ e. between_locks r point)
some_on_time p code kept r plan orderly (inside some i) =
    (λ e. absurd (some_inside p code kept r plan orderly i.graph_thread i.there i.own i.point i.locks some e), λ e. absurd (i.point e))

pub points_have_locks : PointsHaveLocks
points_have_locks p code kept false r plan orderly describes = some_on_time p code kept r plan orderly describes
points_have_locks p code kept true r plan orderly past =
    (λ e. absurd (some_inside p code kept r plan orderly past.graph_thread past.there past.own past.point past.locks past.holds e), λ e. absurd (past.point e))

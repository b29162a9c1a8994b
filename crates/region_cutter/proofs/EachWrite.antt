-- Boundaries before each write: how they are added, that regions may be run again between them, and of which tables they are made.
use Rattle.std.proofs.Common.{◌≡◌, ◌≢◌, ◌⊎◌, ◌↔◌, inl, inr, ℕ, zero, suc, ◌+◌, ◌-◌, ◌<◌, ◌≤◌, ◌^◌, Bool, true, false, List, [], ◌∷◌, length, set, map}
use Rattle.std.proofs.Common.{Some, refl, ap, sym, subst, not, nat_eq, ◌∙◌, arith, length-set}
use Rattle.std.specs.Prelude.{slice_get, slice_index_or, IsTrue}
use Rattle.std.proofs.lemmas.Option.{slice_get_within, get_or_from_slice_get}
use Rattle.std.proofs.lemmas.Bool.{cases_eq}
use Rattle.std.proofs.lemmas.List.{length-map}
use Rattle.ido_base.specs.declared.place.Place.{Place}
use Rattle.ido_ints.specs.declared.kinds.Kind.{Kind}
use Rattle.c_tree.specs.Exprs.{Lvalue, ToLocal, ToVariable, ToElement, Placed, LockName}
use Rattle.c_tree.specs.LockNames.{Held, count_held, held_names}
use Rattle.flow_graph.specs.declared.graph.Part.{Part}
use Rattle.flow_graph.specs.Nodes.{Action, Eval, Store, Test, Lock, Unlock, End, Node, Graph}
use Rattle.flow_graph.specs.Liveness.{NodeAt}
use Rattle.flow_graph.proofs.Public.{found_in}
use Rattle.flow_graph.specs.IdempotentCuts.{Boundaries, IsLock, HasBefore, Writes, IsIdempotent, AreCuts, locks}
use Rattle.region_cutter.specs.EachWrite.{AssignsLocked, gives, writes, assigns, AreAtEachWrite, AreSetsOfThreads}
use Rattle.region_cutter.specs.links.BoundaryTrials as t
use Rattle.region_cutter.specs.links.AddedBoundaries.{is_local_target, assigns_local, AssignsIn, AreAdded}
use Rattle.region_cutter.proofs.Lists.{get_set_same, get_set_other, asked, answered, some_same}
use Rattle.region_cutter.proofs.BoundariesEverywhere.{entered, locked, places_everywhere}

-- ---- Added, node by node and thread by thread

-- the thread's node below that number assigns a local while a lock is held
pub record AssignsBelow (g : Graph) (table : List (List Held)) (thread number node : ℕ) : Type 0 where
  pub is : AssignsIn g table thread node
  pub below : node < number

-- a node of one of the first so many threads does
pub record AssignsInBelow (g : Graph) (table : List (List Held)) (threads node : ℕ) : Type 0 where
  pub is : AssignsLocked g table node
  pub below : is.before.thread < threads

pub none_added : (Such : ℕ → Type 0) (old : List Bool) → ((node : ℕ) → ¬ (Such node)) → AreAdded Such old old
none_added Such old none = record { count = refl; each = λ n. (λ has. inl has, λ either. elim either [ inl has ↦ has | inr such ↦ absurd (none n such) ]) }

-- added before nodes that are the same
pub added_as : (Such Alike : ℕ → Type 0) (old new : List Bool) → ((node : ℕ) → Such node ↔ Alike node) → AreAdded Such old new → AreAdded Alike old new
added_as Such Alike old new same a = record {
  count = a.count;
  each = λ n. (
    λ has. elim ((a.each n).0 has) [ inl was ↦ inl was | inr such ↦ inr ((same n).0 such) ],
    λ either. elim either [ inl was ↦ (a.each n).1 (inl was) | inr alike ↦ (a.each n).1 (inr ((same n).1 alike)) ],
  );
}

-- added first before such nodes, then before others
pub added_both : (First Then : ℕ → Type 0) (old mid new : List Bool) → AreAdded First old mid → AreAdded Then mid new →
    AreAdded (λ n. First n ⊎ Then n) old new
added_both First Then old mid new a b = record {
  count = b.count ∙ a.count;
  each = λ n. (
    λ has. elim ((b.each n).0 has) [
      | inl was ↦ elim ((a.each n).0 was) [ inl older ↦ inl older | inr first ↦ inr (inl first) ]
      | inr then ↦ inr (inr then)
    ],
    λ either. elim either [
      | inl older ↦ (b.each n).1 (inl ((a.each n).1 (inl older)))
      | inr such ↦ elim such [ inl first ↦ (b.each n).1 (inl ((a.each n).1 (inr first))) | inr then ↦ (b.each n).1 (inr then) ]
    ],
  );
}

-- one that stands now
pub added_one : (old : List Bool) (number : ℕ) → number < length old → AreAdded (λ n. n ≡ number) old (set old number true)
added_one old number lt = record {
  count = simp length-set;
  each = λ n. elim (cases_eq n number) [
    | inl same ↦ (
      λ has. inr same,
      λ either. subst (λ (m : ℕ). slice_get (set old number true) m ≡ Some true) (sym same) (get_set_same old number true lt),
    )
    | inr other ↦ (
      λ has. inl (sym (get_set_other old number n true other) ∙ has),
      λ either. elim either [ inl was ↦ get_set_other old number n true other ∙ was | inr same ↦ absurd (other same) ],
    )
  ];
}

module _ (g : Graph) (table : List (List Held)) where
  below_next : (thread number : ℕ) → AssignsIn g table thread number → (n : ℕ) →
      (AssignsBelow g table thread number n ⊎ (n ≡ number)) ↔ AssignsBelow g table thread (number + 1) n
  below_next thread number does n = (
    λ either. elim either [
      | inl b ↦ record { is = b.is; below = (let lt = b.below in omega (arith, lt)) }
      | inr same ↦ record { is = subst (λ (m : ℕ). AssignsIn g table thread m) (sym same) does; below = omega (arith, same) }
    ],
    λ b. elim (cases_eq n number) [
      | inl same ↦ inr same
      | inr other ↦ inl (record { is = b.is; below = (let lt = b.below in omega (arith, lt, other)) })
    ],
  )

  pub added_more : (thread number : ℕ) (old now : List Bool) → number < length now → AssignsIn g table thread number →
      AreAdded (AssignsBelow g table thread number) old now → AreAdded (AssignsBelow g table thread (number + 1)) old (set now number true)
  added_more thread number old now lt does a =
      added_as (λ n. AssignsBelow g table thread number n ⊎ (n ≡ number)) (AssignsBelow g table thread (number + 1)) old (set now number true)
      (below_next thread number does)
      (added_both (AssignsBelow g table thread number) (λ n. n ≡ number) old now (set now number true) a (added_one now number lt))

  pub added_past : (thread number : ℕ) (old now : List Bool) → ¬ (AssignsIn g table thread number) →
      AreAdded (AssignsBelow g table thread number) old now → AreAdded (AssignsBelow g table thread (number + 1)) old now
  added_past thread number old now free a =
      added_as (AssignsBelow g table thread number) (AssignsBelow g table thread (number + 1)) old now
      (λ n. (
        λ b. record { is = b.is; below = (let lt = b.below in omega (arith, lt)) },
        λ b. record {
          is = b.is;
          below = elim (cases_eq n number) [
            | inl same ↦ absurd (free (subst (λ (m : ℕ). AssignsIn g table thread m) same b.is))
            | inr other ↦ (let lt = b.below in omega (arith, lt, other))
          ];
        },
      )) a

  pub added_thread : (thread : ℕ) (old now new : List Bool) → AreAdded (AssignsInBelow g table thread) old now →
      AreAdded (AssignsIn g table thread) now new → AreAdded (AssignsInBelow g table (thread + 1)) old new
  added_thread thread old now new a b =
      added_as (λ n. AssignsInBelow g table thread n ⊎ AssignsIn g table thread n) (AssignsInBelow g table (thread + 1)) old new
      (λ n. (
        λ either. elim either [
          | inl w ↦ record { is = w.is; below = (let lt = w.below in omega (arith, lt)) }
          | inr w ↦ record { is = w.assigns; below = (let own = w.own in omega (arith, own)) }
        ],
        λ w. elim (cases_eq w.is.before.thread thread) [
          | inl same ↦ inr (record { assigns = w.is; own = same })
          | inr other ↦ inl (record { is = w.is; below = (let lt = w.below in omega (arith, lt, other)) })
        ],
      ))
      (added_both (AssignsInBelow g table thread) (AssignsIn g table thread) old now new a b)

  -- ---- Whether a node assigns while a lock is held

  -- nodes of a thread lie in its part
  pub own_number : AreSetsOfThreads g table → (thread node : ℕ) (part : Part) → slice_get g.threads thread ≡ Some part → AssignsIn g table thread node →
      (part.first ≤ node) × (node < part.end)
  own_number are thread node part own a =
      let at = a.assigns.before.at in
      let own' : slice_get g.threads thread ≡ Some at.part = subst (λ (k : ℕ). slice_get g.threads k ≡ Some at.part) a.own at.own in
      let same : at.part ≡ part = some_same at.part part (sym own' ∙ own) in
      let has = are.sets thread part own in
      let row : slice_get table thread ≡ Some at.sets = subst (λ (k : ℕ). slice_get table k ≡ Some at.sets) a.own at.row in
      let sets : at.sets ≡ has.sets = some_same at.sets has.sets (sym row ∙ has.row) in
      let first = ap (λ (p : Part). p.first) same in
      let within = slice_get_within at.sets a.assigns.before.step a.assigns.before.held at.before in
      let count = ap (λ (s : List Held). length s) sets in (
        omega (arith, at.is, first),
        omega (arith, at.is, first, within, count, has.each),
      )

  to_local : (target : Lvalue) → is_local_target target ≡ true → (p : Place) × (local : ℕ) × (k : Kind) × (target ≡ ToLocal p local k)
  to_local (ToLocal p local k) e = (p, local, k, refl)
  to_local (ToVariable p variable k) e = absurd (cc)
  to_local (ToElement p variable k index) e = absurd (cc)

  evaluates : (a : Action) → assigns_local a ≡ true →
      (p : Place) × (local : ℕ) × (k : Kind) × (value : Placed) × (next : ℕ) × (a ≡ Eval (ToLocal p local k) value next)
  evaluates (Eval target value next) e =
      let l = to_local target e in (l.0, l.1, l.2, value, next, ap (λ (z : Lvalue). Eval z value next) l.3)
  evaluates (Store variable kind next) e = absurd (cc)
  evaluates (Test condition holds fails) e = absurd (cc)
  evaluates (Lock lock next) e = absurd (cc)
  evaluates (Unlock lock next) e = absurd (cc)
  evaluates End e = absurd (cc)

  -- the set that the table has before the thread's node
  abbrev pub set_at : (thread node : ℕ) (part : Part) → Held
  set_at thread node part = slice_index_or (slice_index_or table thread []) (node - part.first) []

  pub does_assign : AreSetsOfThreads g table → (thread node : ℕ) (part : Part) (x : Node) → slice_get g.threads thread ≡ Some part → part.first ≤ node →
      node < part.end → NodeAt g node x → assigns_local x.action ≡ true → count_held (set_at thread node part) ≢ 0 → AssignsIn g table thread node
  does_assign are thread node part x own from below at does some =
      let has = are.sets thread part own in
      let e = evaluates x.action does in
      let step = node - part.first in
      let one = found_in has.sets step (let each = has.each in omega (arith, each, from, below)) in
      let rows : slice_index_or table thread [] ≡ has.sets = get_or_from_slice_get table thread has.sets [] has.row in
      let set' : set_at thread node part ≡ one.0 =
      ap (λ (s : List Held). slice_index_or s step []) rows ∙ get_or_from_slice_get has.sets step one.0 [] one.1 in
      record {
        assigns = record {
          is = x;
          at = at;
          place = e.0;
          local = e.1;
          kind = e.2;
          value = e.3;
          next = e.4;
          assigns = e.5;
          before = record {
            thread = thread;
            step = step;
            held = one.0;
            at = record { part = part; own = own; is = omega (arith, from); sets = has.sets; row = has.row; before = one.1 };
          };
          locked = subst (λ (h : Held). count_held h ≢ 0) set' some;
        };
        own = refl;
      }

  pub assigned : (thread node : ℕ) (part : Part) (x : Node) → slice_get g.threads thread ≡ Some part → NodeAt g node x → AssignsIn g table thread node →
      (assigns_local x.action ≡ true) × (count_held (set_at thread node part) ≢ 0)
  assigned thread node part x own at a =
      let w = a.assigns in
      let same : w.is ≡ x = some_same w.is x (sym w.at ∙ at) in
      let act : x.action ≡ Eval (ToLocal w.place w.local w.kind) w.value w.next = ap (λ (z : Node). z.action) (sym same) ∙ w.assigns in
      let h = w.before.at in
      let own' : slice_get g.threads thread ≡ Some h.part = subst (λ (k : ℕ). slice_get g.threads k ≡ Some h.part) a.own h.own in
      let same' : h.part ≡ part = some_same h.part part (sym own' ∙ own) in
      let row : slice_get table thread ≡ Some h.sets = subst (λ (k : ℕ). slice_get table k ≡ Some h.sets) a.own h.row in
      let rows : slice_index_or table thread [] ≡ h.sets = get_or_from_slice_get table thread h.sets [] row in
      let first = ap (λ (p : Part). p.first) same' in
      let step : node - part.first ≡ w.before.step = omega (arith, h.is, first) in
      let set' : set_at thread node part ≡ w.before.held =
      ap (λ (s : List Held). slice_index_or s (node - part.first) []) rows
      ∙ ap (λ (k : ℕ). slice_index_or h.sets k []) step
      ∙ get_or_from_slice_get h.sets w.before.step w.before.held [] h.before in (
        ap assigns_local act,
        subst (λ (z : Held). count_held z ≢ 0) (sym set') w.locked,
      )

  -- the table reaches it
  pub has_row : AreSetsOfThreads g table → (thread : ℕ) (part : Part) → slice_get g.threads thread ≡ Some part → thread < length table
  has_row are thread part own = slice_get_within table thread (are.sets thread part own).sets (are.sets thread part own).row

  pub has_step : AreSetsOfThreads g table → (thread node : ℕ) (part : Part) → slice_get g.threads thread ≡ Some part → part.first ≤ node → node < part.end →
      node - part.first < length (slice_index_or table thread [])
  has_step are thread node part own from below =
      let has = are.sets thread part own in
      let rows : slice_index_or table thread [] ≡ has.sets = get_or_from_slice_get table thread has.sets [] has.row in
      omega (arith, from, below, has.each, ap (λ (s : List Held). length s) rows)

  pub few_steps : AreSetsOfThreads g table → (thread node : ℕ) (part : Part) → slice_get g.threads thread ≡ Some part → part.first ≤ node → node < part.end →
      node - part.first < 2 ^ 32
  few_steps are thread node part own from below = let has = are.sets thread part own in omega (arith, from, below, has.each, has.few)

  some_count : (n : ℕ) → IsTrue (not (nat_eq n 0)) ↔ (n ≢ 0)
  some_count zero = (λ h. absurd (cc), λ ne. absurd (ne refl))
  some_count (suc n) = (λ h e. cc, λ ne. grind arith)

  -- a node that assigns a local does so while a lock is held where the count isn't 0
  pub decided : AreSetsOfThreads g table → (thread node : ℕ) (part : Part) (x : Node) (count : ℕ) → slice_get g.threads thread ≡ Some part →
      part.first ≤ node → node < part.end → NodeAt g node x → assigns_local x.action ≡ true → count ≡ count_held (set_at thread node part) →
      IsTrue (not (nat_eq count 0)) ↔ AssignsIn g table thread node
  decided are thread node part x count own from below at does is = (
    λ h. does_assign are thread node part x own from below at does (subst (λ (n : ℕ). n ≢ 0) is ((some_count count).0 h)),
    λ a. (some_count count).1 (subst (λ (n : ℕ). n ≢ 0) (sym is) (assigned thread node part x own at a).1),
  )

  -- ---- All of them

  -- all of a thread's nodes
  pub added_all : AreSetsOfThreads g table → (thread number : ℕ) (part : Part) → slice_get g.threads thread ≡ Some part → part.end ≤ number →
      (old new : List Bool) → AreAdded (AssignsBelow g table thread number) old new → AreAdded (AssignsIn g table thread) old new
  added_all are thread number part own past old new a =
      added_as (AssignsBelow g table thread number) (AssignsIn g table thread) old new
      (λ n. (λ b. b.is, λ w. record { is = w; below = (let lt = (own_number are thread n part own w).1 in omega (arith, lt, past)) })) a

  -- all threads
  pub added_threads : (threads : ℕ) → length g.threads ≤ threads → (old new : List Bool) → AreAdded (AssignsInBelow g table threads) old new →
      AreAdded (AssignsLocked g table) old new
  added_threads threads past old new a =
      added_as (AssignsInBelow g table threads) (AssignsLocked g table) old new
      (λ n. (
        λ b. b.is,
        λ w. record {
          is = w;
          below = (let lt = slice_get_within g.threads w.before.thread w.before.at.part w.before.at.own in omega (arith, lt, past));
        },
      )) a

-- ---- Boundaries before each write

-- no path comes to a node that writes
pub each_idempotent : (g : Graph) (b : Boundaries) → ((node : ℕ) → Writes g node → HasBefore b node) → IsIdempotent g b
each_idempotent g b stands from path begins inside i zero read written lt reads w over = absurd (omega (arith, lt))
each_idempotent g b stands from path begins inside i (suc j) read written lt reads w over =
    absurd (entered g b (from ∷ path) inside j w.node w.there (stands w.node (record { is = w.is; at = w.at; written = written; writes = w.writes })))

pub at_each_write : (g : Graph) (table : List (List Held)) (b : Boundaries) → AreAtEachWrite g table b → AreCuts g b
at_each_write g table b are = record {
  past_locks = λ n lock. record { locks = lock; stands = (are.after n).1 lock };
  before_unlocks = λ n unlock. (are.before n).1 (gives unlock);
  idempotent = each_idempotent g b (λ n w. (are.before n).1 (writes w));
}

takes_lock : (g : Graph) (n : ℕ) → IsLock g n → (x : Node) × NodeAt g n x × (t.takes x ≡ true)
takes_lock g n (locks x lock next at is) = (x, at, ap t.locks is)

pub with_assignments : (g : Graph) (table : List (List Held)) (old new : Boundaries) → t.AreEverywhere g old → new.after_lock ≡ old.after_lock →
    AreAdded (AssignsLocked g table) old.before new.before → AreAtEachWrite g table new
with_assignments g table old new every same a =
    let places = places_everywhere g old every in
    let after : new.after_lock ≡ map t.takes g.nodes = same ∙ every.after in
    record {
      before = λ n. (
        λ has. elim ((a.each n).0 has) [
          | inl was ↦ elim (places.places n was) [ inl unlock ↦ gives unlock | inr w ↦ writes w ]
          | inr does ↦ assigns does
        ],
        λ is. elim is [
          | gives unlock ↦ (a.each n).1 (inl (places.stands n (inl unlock)))
          | writes w ↦ (a.each n).1 (inl (places.stands n (inr w)))
          | assigns does ↦ (a.each n).1 (inr does)
        ],
      );
      after = λ n. (
        λ has.
            let k = asked t.takes g.nodes n (subst (λ (bs : List Bool). slice_get bs n ≡ Some true) after has) in
            locked g n k.is k.is.action k.at refl k.yes,
        λ lock.
            let k = takes_lock g n lock in
            subst (λ (bs : List Bool). slice_get bs n ≡ Some true) (sym after) (answered t.takes g.nodes n k.0 k.1 k.2),
      );
      before_count = a.count ∙ places.long;
      after_count = ap length after ∙ simp length-map;
    }

-- ---- Where the thread holds some of its names

counted : (names : List LockName) (h : Held) → count_held h ≡ 0 → held_names names h ≡ []
counted [] h none = refl
counted (x ∷ names) [] none = refl
counted (x ∷ names) (true ∷ h) none = absurd (omega (arith, none))
counted (x ∷ names) (false ∷ h) none = counted names h none

-- a boundary stands before the thread's node, if it assigns a local while one of these names is held
pub assigned_stands : (g : Graph) (table : List (List Held)) (b : Boundaries) → AreSetsOfThreads g table → AreAtEachWrite g table b →
    (thread node : ℕ) (part : Part) (x : Node) (place : Place) (local : ℕ) (kind : Kind) (value : Placed) (next : ℕ) →
    slice_get g.threads thread ≡ Some part → part.first ≤ node → node < part.end → NodeAt g node x → x.action ≡ Eval (ToLocal place local kind) value next →
    (names : List LockName) → held_names names (set_at g table thread node part) ≢ [] → HasBefore b node
assigned_stands g table b sets are thread node part x place local kind value next own from below at act names some =
    (are.before node).1
    (assigns (does_assign g table sets thread node part x own from below at (ap assigns_local act)
    (λ none. some (counted names (set_at g table thread node part) none))).assigns)

-- Worked rows: intervals of locals, registers that clash, and a node that too many intervals hold.
use Rattle.std.proofs.Common.{◌≡◌, ◌≢◌, ◌⊎◌, inl, inr, ℕ, zero, suc, ◌+◌, ◌<◌, ◌≤◌, List, [], ◌∷◌, Some}
use Rattle.std.proofs.Common.{None, length, refl, sym, ap, ◌∙◌, subst, slice_get, get_or, Contains, arith}
use Rattle.std.proofs.lemmas.Option.{same_Some, slice_get-get_or}
use Rattle.ido_base.specs.declared.place.Place.{Place}
use Rattle.flow_graph.specs.declared.graph.Part.{Part}
use Rattle.flow_graph.specs.Nodes.{Node, Graph, Lock, End, successors}
use Rattle.flow_graph.specs.Liveness.{NodeAt, IsLive, is_read, is_read_later, IsAssigned, Touches, Spans}
use Rattle.flow_graph.specs.Liveness.{AreSpanning, IsFirstCrowded, Colouring, Clash, IsFirstClash}

abbrev at : ℕ → Place
at place = record { 0 = place }

abbrev part : (end locals : ℕ) → Part
part end locals = record { first = 0; end = end; locals = locals }

-- a node that assigns a local, and one that reads some and is the thread's last
abbrev assigning : (local next : ℕ) → Node
assigning local next =
    record { place = at 0; action = Lock (record { mutex = 0; key = None }) next; uses = []; assigns = Some local; reads = []; writes = None }

abbrev reading : List ℕ → Node
reading uses = record { place = at 5; action = End; uses = uses; assigns = None; reads = []; writes = None }

-- ---- Two locals: both are read at node 2, and the second one is assigned at node 1

abbrev two : Graph
two = record { nodes = assigning 0 1 ∷ assigning 1 2 ∷ reading (0 ∷ 1 ∷ []) ∷ []; threads = part 3 2 ∷ [] }

abbrev one_register : Colouring
one_register = (0 ∷ 0 ∷ []) ∷ []

live_at_second : IsLive two 0 1
live_at_second = is_read_later _ refl (λ e. absurd (omega (arith, same_Some 1 0 e))) (0, omega arith, refl) (is_read _ refl (0, omega arith, refl))

first_at_second : Spans two (part 3 2) 0 1
first_at_second =
    let touched : Touches two (part 3 2) 0 1 = record { from_first = omega arith; below_end = omega arith; is = inl live_at_second } in
    record { low = 1; high = 1; from_low = omega arith; to_high = omega arith; at_low = touched; at_high = touched }

second_at_second : Spans two (part 3 2) 1 1
second_at_second =
    let touched : Touches two (part 3 2) 1 1 =
    record { from_first = omega arith; below_end = omega arith; is = inr (record { is = assigning 1 2; at = refl; assigns = refl }) } in
    record { low = 1; high = 1; from_low = omega arith; to_high = omega arith; at_low = touched; at_high = touched }

clash : Clash two one_register 1 0 1
clash = record {
  thread = 0;
  part = part 3 2;
  own = refl;
  registers = 0 ∷ 0 ∷ [];
  register = 0;
  of_thread = refl;
  of_first = refl;
  of_second = refl;
  different = omega arith;
  first = first_at_second;
  second = second_at_second;
}

-- ---- At the first node no other local than the first one is

dead_at_last : (local : ℕ) → 1 < local → IsLive two local 2 → ⊥
dead_at_last local h (is_read x here c) =
    let same : x ≡ reading (0 ∷ 1 ∷ []) = same_Some _ _ (sym here) in
    in_two c.0 (omega (arith, c.1, ap (λ (y : Node). length y.uses) same)) (ap (λ (y : Node). get_or y.uses c.0 local) (sym same) ∙ c.2)
  where
    in_two : (k : ℕ) → k < 2 → get_or (0 ∷ 1 ∷ []) k local ≡ local → ⊥
    in_two zero k e = absurd (omega (arith, e))
    in_two (suc zero) k e = absurd (omega (arith, e))
    in_two (suc (suc n)) k e = absurd (omega arith)
dead_at_last local h (is_read_later x here differs c later) =
    let same : x ≡ reading (0 ∷ 1 ∷ []) = same_Some _ _ (sym here) in
    absurd (omega (arith, c.1, ap (λ (y : Node). length (successors y.action)) same))

-- what is live at a node that reads none and has one successor is live there, and not assigned
live_after : (local node assigned next : ℕ) → NodeAt two node (assigning assigned next) → IsLive two local node → (assigned ≢ local) × IsLive two local next
live_after local node assigned next there (is_read x here c) =
    let same : x ≡ assigning assigned next = same_Some _ _ (sym here ∙ there) in
    absurd (omega (arith, c.1, ap (λ (y : Node). length y.uses) same))
live_after local node assigned next there (is_read_later {m = m} x here differs c later) =
    let same : x ≡ assigning assigned next = same_Some _ _ (sym here ∙ there) in
    let at_first : c.0 ≡ 0 = omega (arith, c.1, ap (λ (y : Node). length (successors y.action)) same) in
    let is : next ≡ m = ap (λ k. get_or (next ∷ []) k m) (sym at_first) ∙ ap (λ (y : Node). get_or (successors y.action) c.0 m) (sym same) ∙ c.2 in
    (λ e. differs (ap (λ (y : Node). y.assigns) same ∙ ap Some e), subst (λ k. IsLive two local k) (sym is) later)

untouched_at_first : (local : ℕ) → 0 < local → Touches two (part 3 2) local 0 → ⊥
untouched_at_first local h touched = by touched.is
  where
    by : IsLive two local 0 ⊎ IsAssigned two local 0 → ⊥
    by (inl live) =
        let second = live_after local 0 0 1 refl live in
        let third = live_after local 1 1 2 refl second.1 in
        dead_at_last local (omega (arith, third.0)) third.1
    by (inr assigned) =
        let same : assigned.is ≡ assigning 0 1 = same_Some _ _ (sym assigned.at) in
        absurd (omega (arith, same_Some 0 local (sym (ap (λ (y : Node). y.assigns) same) ∙ assigned.assigns)))

-- the first clash, where both locals have one register
first_clash : IsFirstClash two one_register 1 0 1
first_clash = record { is = clash; first = later; least = λ c d x. omega arith; second = λ d x. omega (arith, x.different) }
  where
    own_part : (thread : ℕ) (x : Part) → slice_get two.threads thread ≡ Some x → x ≡ part 3 2
    own_part zero x e = same_Some _ _ (sym e)
    own_part (suc n) x e = absurd (cc e)

    later : (other c d : ℕ) → Clash two one_register other c d → 1 ≤ other
    later zero c d x =
        let low : x.second.low ≡ 0 = omega (arith, x.second.from_low) in
        let touched : Touches two (part 3 2) d 0 =
        subst (λ p. Touches two p d 0) (own_part x.thread x.part x.own) (subst (λ n. Touches two x.part d n) low x.second.at_low) in
        absurd (untouched_at_first d (omega (arith, x.different)) touched)
    later (suc n) c d x = omega arith

-- ---- Nineteen locals that one node reads

-- consecutive numbers, `count` of them from `first` on
abbrev numbers : (count first : ℕ) → List ℕ
numbers zero first = []
numbers (suc n) first = first ∷ numbers n (suc first)

count_of : (n first : ℕ) → length (numbers n first) ≡ n
count_of zero first = refl
count_of (suc n) first = ap suc (count_of n (suc first))

number_at : (n first k : ℕ) → k < n → slice_get (numbers n first) k ≡ Some (first + k)
number_at zero first k h = absurd (omega arith)
number_at (suc n) first zero h = ap Some (omega arith)
number_at (suc n) first (suc k) h = number_at n (suc first) k (omega arith) ∙ ap Some (omega arith)

-- of a list that is cut off there is none
number_below : (n first k number : ℕ) → slice_get (numbers n first) k ≡ Some number → (k < n) × (number ≡ first + k)
number_below zero first k number h = absurd (cc h)
number_below (suc n) first zero number h = let e : first ≡ number = same_Some _ _ h in (omega arith, omega (arith, e))
number_below (suc n) first (suc k) number h = let r = number_below n (suc first) k number h in (omega (arith, r.0), omega (arith, r.1))

abbrev crowd : Graph
crowd = record { nodes = reading (numbers 19 0) ∷ []; threads = part 1 19 ∷ [] }

one_of_them : (local : ℕ) → local < 19 → Contains (numbers 19 0) local
one_of_them local h =
    (local, omega arith, same_Some _ _ (sym (slice_get-get_or (numbers 19 0) local local (omega arith)) ∙ number_at 19 0 local h ∙ ap Some (omega arith)))

held : (local : ℕ) → local < 19 → Spans crowd (part 1 19) local 0
held local h =
    let touched : Touches crowd (part 1 19) local 0 =
    record { from_first = omega arith; below_end = omega arith; is = inl (is_read _ refl (one_of_them local h)) } in
    record { low = 0; high = 0; from_low = omega arith; to_high = omega arith; at_low = touched; at_high = touched }

spanning : AreSpanning crowd (part 1 19) 0 19
spanning = record {
  locals = numbers 19 0;
  each = λ local. (
    λ c.
        let is = number_below 19 0 c.0 local (slice_get-get_or (numbers 19 0) c.0 local c.1 ∙ ap Some c.2) in
        let below : local < 19 = omega (arith, is.0, is.1) in (below, held local below),
    λ h. one_of_them local h.0,
  );
  once = λ i j local a b. omega (arith, (number_below 19 0 i local a).1, (number_below 19 0 j local b).1);
  count = refl;
}

crowded : IsFirstCrowded crowd (at 5) 19
crowded = record {
  part = part 1 19;
  node = 0;
  is = reading (numbers 19 0);
  own = (0, omega arith, refl);
  at = refl;
  there = refl;
  spanning = spanning;
  crowded = omega arith;
  first = λ other earlier fewer h own others. absurd (omega (arith, h));
}

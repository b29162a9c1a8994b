-- Places where a thread may be resumed, in their order, are the addresses of its code where it may be.
use Rattle.std.proofs.Common.{◌≡◌, ◌≢◌, ⊎_elim, refl, ℕ, zero, suc, ◌+◌, ◌*◌, ◌-◌, ◌<◌, ◌≤◌, List, [], ◌∷◌, map, ◌∙◌, ap, sym, subst, arith}
use Rattle.c_tree.specs.Exprs.{LockName}
use Rattle.std.proofs.Common.{Some, None, Bool, true, false}
use Rattle.std.proofs.Common.{Option, ◌++◌}
use Rattle.std.specs.Prelude.{slice_index, Contains}
use Rattle.std.proofs.lemmas.List.Elements.{Contains-append_left, Contains-append_right, Contains-push_cases}
use Rattle.std.specs.List.Sorted.{IsStrictlyIncreasing}
use Rattle.std.proofs.lemmas.Bool.{cases_lt}
use Rattle.std.proofs.lemmas.Option.{same_Some}
use Rattle.flow_graph.specs.Nodes.{Action, Eval, Store, Test, Lock, Unlock, End, Node}
use Rattle.flow_graph.specs.IdempotentCuts.{IsChosen}
use Rattle.flow_graph.specs.Liveness.{NodeAt}
use Rattle.code_runs.specs.CodeTraces.{Program}
use Rattle.thread_code.specs.Plans.{Plan, IsPlan, Thread, IsThread, IsNodeOf, held_names_before, set_before, names_in}
use Rattle.thread_code.specs.NodeCodeEffects.{Places}
use Rattle.thread_code.specs.Programs.{IsThreadCode, IsCallWithin, IsResumeAddress}
use Rattle.thread_code.specs.Programs as places
use Rattle.thread_code.proofs.Public.{nothing_held, nothing_named}
use Rattle.rv64_codegen.proofs.Public.{set_long}
use Rattle.c_tree.specs.LockNames.{count_held}
use Rattle.flat_compile.proofs.HeldNumbers.{count_none, none_counted}
use Rattle.flat_compile.proofs.Systems.{node_there}
use Rattle.rv64_codegen.proofs.Public as sound
use Rattle.rv64_codegen.proofs.Public.{sound_node}
use Rattle.flat_compile.specs.ResumePlaces.{Spot, Before, After, node_in, address_in, goes_on_at, IsSpot, at_chosen, past_lock, past_unlock}
use Rattle.flat_compile.specs.declared.resumes.Stand.{Stand}
use Rattle.flat_compile.specs.links.ResumePlacesByNode.{rank, stand_in, stands_at, Ascends, AreSpotsBelow, AreStandsBelow, IsPastCall, IsBefore}

-- ---- A rising list is known by its members

ascends_rest : (x : ℕ) (xs : List ℕ) → IsStrictlyIncreasing (x ∷ xs) → IsStrictlyIncreasing xs
ascends_rest x xs h k below =
    let same : suc k + 1 ≡ suc (k + 1) = omega arith in
    subst (λ (n : ℕ). slice_index (x ∷ xs) (suc k) < slice_index (x ∷ xs) n) same (h (suc k) (omega (arith, below)))

pub ascends : (low : ℕ) (xs : List ℕ) → IsStrictlyIncreasing xs → ((x : ℕ) (rest : List ℕ) → xs ≡ x ∷ rest → low ≤ x) → Ascends low xs
ascends low [] h from = tt
ascends low (x ∷ []) h from = (from x [] refl, tt)
ascends low (x ∷ y ∷ ys) h from =
    let up : x < y = h 0 (omega arith) in (
      from x (y ∷ ys) refl,
      ascends (suc x) (y ∷ ys) (ascends_rest x (y ∷ ys) h)
          (λ z rest same. let is : y ≡ z = cc in omega (arith, up, is)),
    )

at_least : (low : ℕ) (xs : List ℕ) (x : ℕ) → Ascends low xs → Contains xs x → low ≤ x
at_least low [] x h c = absurd (omega (arith, c.1))
at_least low (y ∷ xs) x h (zero, below, is) = let same : y ≡ x = is in omega (arith, h.0, same)
at_least low (y ∷ xs) x h (suc k, below, is) =
    let rest = at_least (suc y) xs x h.1 (k, omega (arith, below), is) in omega (arith, rest, h.0)

pub head : {X : Type 0} (x : X) (xs : List X) → Contains (x ∷ xs) x
head x xs = (0, omega arith, refl)

pub tail : {X : Type 0} (x : X) (xs : List X) (y : X) → Contains xs y → Contains (x ∷ xs) y
tail x xs y (k, below, is) = (suc k, omega (arith, below), is)

not_first : (x : ℕ) (xs : List ℕ) (y : ℕ) → x < y → Contains (x ∷ xs) y → Contains xs y
not_first x xs y up (zero, below, is) = let same : x ≡ y = is in absurd (omega (arith, up, same))
not_first x xs y up (suc k, below, is) = (k, omega (arith, below), is)

pub same_members : (low : ℕ) (xs ys : List ℕ) → Ascends low xs → Ascends low ys → ((x : ℕ) → Contains xs x → Contains ys x) →
    ((x : ℕ) → Contains ys x → Contains xs x) → xs ≡ ys
same_members low [] [] h k to back = refl
same_members low [] (y ∷ ys) h k to back = absurd (let c = (back y (head y ys)).1 in omega (arith, c))
same_members low (x ∷ xs) [] h k to back = absurd (let c = (to x (head x xs)).1 in omega (arith, c))
same_members low (x ∷ xs) (y ∷ ys) h k to back =
    let down : y ≤ x = at_least y (y ∷ ys) x (omega arith, k.1) (to x (head x xs)) in
    let up : x ≤ y = at_least x (x ∷ xs) y (omega arith, h.1) (back y (head y ys)) in
    let same : x ≡ y = omega (arith, down, up) in
    let later : Ascends (suc x) ys = subst (λ (n : ℕ). Ascends (suc n) ys) (sym same) k.1 in
    let rest : xs ≡ ys = same_members (suc x) xs ys h.1 later
    (λ z c. not_first y ys z (let l = at_least (suc x) xs z h.1 c in omega (arith, l, same)) (to z (tail x xs z c)))
    (λ z c. not_first x xs z (let l = at_least (suc x) ys z later c in omega (arith, l)) (back z (tail y ys z c))) in
    ap (λ (n : ℕ). n ∷ xs) same ∙ ap (λ (zs : List ℕ). y ∷ zs) rest

-- ---- Addresses of places

-- where the thread may be resumed
module _ (p : Plan) (t : Thread) (c : Places) where
  pub resumed : (s : Spot) → IsSpot p t s → IsResumeAddress p t c (address_in c s)
  resumed s (at_chosen node own chosen) = places.at_chosen node own chosen
  resumed s (past_lock node lock next is own at does) = places.past_lock node lock next is own at does
  resumed s (past_unlock node lock next is own at does some) = places.past_unlock node lock next is own at does some

  spot_of : (x : ℕ) → IsResumeAddress p t c x → (s : Spot) × IsSpot p t s × (address_in c s ≡ x)
  spot_of x (places.at_chosen node own chosen) = (Before node, at_chosen node own chosen, refl)
  spot_of x (places.past_lock node lock next is own at does) = (After node next, past_lock node lock next is own at does, refl)
  spot_of x (places.past_unlock node lock next is own at does some) = (After node next, past_unlock node lock next is own at does some, refl)

module _ (p : Plan) (plan : IsPlan p) (t : Thread) where
  abbrev AreSpots : List Spot → Type 0
  AreSpots [] = Unit {0}
  AreSpots (s ∷ spots) = IsSpot p t s × AreSpots spots

  pub own_of : (s : Spot) → IsSpot p t s → IsNodeOf t (node_in s)
  own_of s (at_chosen node own chosen) = own
  own_of s (past_lock node lock next is own at does) = own
  own_of s (past_unlock node lock next is own at does some) = own

  chosen_at : (m : ℕ) → IsSpot p t (Before m) → IsChosen p.graph p.boundaries m
  chosen_at m (at_chosen node own chosen) = chosen

  module _ (th : IsThread p t) (program : Program) (code : IsThreadCode p t program)
      (spaced : (node : ℕ) → IsNodeOf t node → IsChosen p.graph p.boundaries node → code.places.entry node < code.places.core node) where
    abbrev c : Places
    c = code.places

    within : (node : ℕ) → IsNodeOf t node → (c.entry node ≤ c.core node) × (c.core node + 4 ≤ c.entry (node + 1))
    within node own =
        let is = node_there p plan t th node own in
        let w = (code.code node is.0 own is.1).within in
        (omega (arith, w.core.is), omega (arith, w.after_core.is))

    up : (n d : ℕ) → t.part.first ≤ n → n + d ≤ t.part.end → c.entry n ≤ c.entry (n + d)
    up n zero from to = let same : n + 0 ≡ n = omega arith in omega (arith, ap c.entry same)
    up n (suc d) from to =
        let rest = up n d from (omega (arith, to)) in
        let step = code.follows (n + d) (record { from_first = omega (arith, from); below_end = omega (arith, to) }) in
        let same : n + suc d ≡ n + d + 1 = omega arith in
        omega (arith, rest, step, ap c.entry same)

    rising : (n m : ℕ) → t.part.first ≤ n → n ≤ m → m ≤ t.part.end → c.entry n ≤ c.entry m
    rising n m from low to =
        let same : n + (m - n) ≡ m = omega (arith, low) in
        omega (arith, up n (m - n) from (omega (arith, low, to)), ap c.entry same)

    called : (node : ℕ) (a b : Action) → a ≡ b → IsCallWithin c a node → IsCallWithin c b node
    called node a b same h = subst (λ (x : Action). IsCallWithin c x node) same h

    after_within : (node next : ℕ) → IsSpot p t (After node next) → (c.core node + 4 ≤ c.after node) × (c.after node ≤ c.entry (node + 1))
    after_within node next (past_lock n lock to is own at does) =
        let w = called node is.action (Lock lock next) does (code.code node is own at).within.call in
        (omega (arith, w.0.is, w.1.is), omega (arith, w.2.is))
    after_within node next (past_unlock n lock to is own at does some) =
        let w = called node is.action (Unlock lock next) does (code.code node is own at).within.call in
        (omega (arith, w.0.is, w.1.is), omega (arith, w.2.is))

    far : (n m : ℕ) → n + 1 < m → IsNodeOf t n → IsNodeOf t m → c.entry (n + 1) + 4 ≤ c.entry m
    far n m below a b =
        let w = within (n + 1) (record { from_first = omega (arith, a.from_first); below_end = omega (arith, below, b.below_end) }) in
        let r = rising (n + 1 + 1) m (omega (arith, a.from_first)) (omega (arith, below)) (omega (arith, b.below_end)) in
        omega (arith, w.0, w.1, r)

    pub rises : (a b : Spot) → IsSpot p t a → IsSpot p t b → rank a < rank b → address_in c a < address_in c b
    rises (Before n) (Before m) a b h =
        let o = own_of (Before n) a in
        let u = own_of (Before m) b in
        omega (arith, (within n o).1, rising (n + 1) m (omega (arith, o.from_first)) (omega (arith, h)) (omega (arith, u.below_end)), (within m u).0)
    rises (Before n) (After m y) a b h = ⊎_elim
        (λ l.
        let o = own_of (Before n) a in
        let u = own_of (After m y) b in
        omega (
          arith,
          (within n o).1,
          rising (n + 1) m (omega (arith, o.from_first)) (omega (arith, l)) (omega (arith, u.below_end)),
          (within m u).0,
          (after_within m y b).0,
        ))
        (λ g. let same : n ≡ m = omega (arith, g, h) in omega (arith, ap c.core same, (after_within m y b).0))
        (cases_lt n m)
    rises (After n x) (After m y) a b h =
        let o = own_of (After n x) a in
        let u = own_of (After m y) b in
        omega (
          arith,
          (after_within n x a).1,
          rising (n + 1) m (omega (arith, o.from_first)) (omega (arith, h)) (omega (arith, u.below_end)),
          (within m u).0,
          (after_within m y b).0,
        )
    rises (After n x) (Before m) a b h =
        let o = own_of (After n x) a in
        let u = own_of (Before m) b in
        ⊎_elim (λ l. omega (arith, (after_within n x a).1, far n m l o u, (within m u).0))
        (λ g.
        let same : n + 1 ≡ m = omega (arith, g, h) in
        omega (arith, (after_within n x a).1, ap c.entry same, spaced m u (chosen_at m b)))
        (cases_lt (n + 1) m)

    ascending : (low : ℕ) (a : Spot) (rest : List Spot) → low ≤ address_in c a → IsSpot p t a → AreSpots rest →
        Ascends (suc (rank a)) (map rank rest) → Ascends low (map (address_in c) (a ∷ rest))
    ascending low a [] l is are h = (l, tt)
    ascending low a (b ∷ rest) l is are h =
        let next = rises a b is are.0 (omega (arith, h.0)) in
        (l, ascending (suc (address_in c a)) b rest (omega (arith, next)) are.0 are.1 h.1)

    ascending_all : (spots : List Spot) → AreSpots spots → Ascends 0 (map rank spots) → Ascends 0 (map (address_in c) spots)
    ascending_all [] are h = tt
    ascending_all (a ∷ rest) are h = ascending 0 a rest (omega arith) are.0 are.1 h.1

    are_spots : (spots : List Spot) → ((s : Spot) → Contains spots s → IsSpot p t s) → AreSpots spots
    are_spots [] h = tt
    are_spots (s ∷ spots) h = (h s (head s spots), are_spots spots (λ z k. h z (tail s spots z k)))

    -- ---- The places found are the thread's

    found : (spots : List Spot) (x : ℕ) → Contains (map (address_in c) spots) x → (s : Spot) × Contains spots s × (address_in c s ≡ x)
    found [] x k = absurd (omega (arith, k.1))
    found (s ∷ spots) x (zero, below, is) = (s, head s spots, is)
    found (s ∷ spots) x (suc j, below, is) =
        let r = found spots x (j, omega (arith, below), is) in
        (r.0, tail s spots r.0 r.1, r.2)

    mapped : (spots : List Spot) (s : Spot) → Contains spots s → Contains (map (address_in c) spots) (address_in c s)
    mapped [] s k = absurd (omega (arith, k.1))
    mapped (z ∷ spots) s (zero, below, is) = (0, omega arith, ap (address_in c) is)
    mapped (z ∷ spots) s (suc j, below, is) =
        let r = mapped spots s (j, omega (arith, below), is) in
        tail (address_in c z) (map (address_in c) spots) (address_in c s) r

    low_rank : (s : Spot) (to : ℕ) → node_in s < to → rank s < 2 * to
    low_rank (Before node) to h = omega (arith, h)
    low_rank (After node next) to h = omega (arith, h)

    pub order : (spots : List Spot) → AreSpotsBelow p t (2 * t.part.end) spots → map (address_in c) spots ≡ program.resumes
    order spots are = same_members 0 (map (address_in c) spots) program.resumes
        (ascending_all spots (are_spots spots (λ s k. (are.each s k).0)) are.ascend)
        (ascends 0 program.resumes code.ascending (λ x rest e. omega arith))
        (λ x k.
        let s = found spots x k in
        subst (λ (n : ℕ). Contains program.resumes n) s.2 ((code.resumes (address_in c s.0)).1 (resumed p t c s.0 (are.each s.0 s.1).0)))
        (λ x k.
        let s = spot_of p t c x ((code.resumes x).0 k) in
        subst (λ (n : ℕ). Contains (map (address_in c) spots) n) s.2
        (mapped spots s.0 (are.all s.0 s.1 (low_rank s.0 t.part.end (own_of s.0 s.1).below_end))))

-- ---- Places of a node

-- the action takes a mutex or gives one back
abbrev pub calls : Action → Bool
calls (Eval target value next) = false
calls (Store variable kind next) = false
calls (Test condition holds fails) = false
calls (Lock lock next) = true
calls (Unlock lock next) = true
calls End = false

module _ (p : Plan) (t : Thread) (node : ℕ) (is : Node) (own : IsNodeOf t node) (at : NodeAt p.graph node is) where
  pub locks : (lock : LockName) (next : ℕ) → is.action ≡ Lock lock next → IsPastCall p t node (Some next)
  locks lock next does to = (
    λ e. let same : next ≡ to = cc in
        subst (λ (n : ℕ). IsSpot p t (After node n)) same (past_lock node lock next is own at does),
    λ s. ap (λ (n : ℕ). Some n) (only s),
  )
    where
      only : IsSpot p t (After node to) → next ≡ to
      only (past_lock n other to x o h e) =
          let same : is ≡ x = same_Some is x (sym at ∙ h) in
          let both : Lock lock next ≡ Lock other to = sym does ∙ ap (λ (z : Node). z.action) same ∙ e in cc
      only (past_unlock n other to x o h e some) =
          let same : is ≡ x = same_Some is x (sym at ∙ h) in
          let both : Lock lock next ≡ Unlock other to = sym does ∙ ap (λ (z : Node). z.action) same ∙ e in cc

  pub unlocks : (lock : LockName) (next : ℕ) → is.action ≡ Unlock lock next → held_names_before p t next ≢ [] → IsPastCall p t node (Some next)
  unlocks lock next does some to = (
    λ e. let same : next ≡ to = cc in
        subst (λ (n : ℕ). IsSpot p t (After node n)) same (past_unlock node lock next is own at does some),
    λ s. ap (λ (n : ℕ). Some n) (only s),
  )
    where
      only : IsSpot p t (After node to) → next ≡ to
      only (past_lock n other to x o h e) =
          let same : is ≡ x = same_Some is x (sym at ∙ h) in
          let both : Unlock lock next ≡ Lock other to = sym does ∙ ap (λ (z : Node). z.action) same ∙ e in cc
      only (past_unlock n other to x o h e some) =
          let same : is ≡ x = same_Some is x (sym at ∙ h) in
          let both : Unlock lock next ≡ Unlock other to = sym does ∙ ap (λ (z : Node). z.action) same ∙ e in cc

  pub frees : (lock : LockName) (next : ℕ) → is.action ≡ Unlock lock next → held_names_before p t next ≡ [] → IsPastCall p t node None
  frees lock next does none to = (λ e. cc, λ s. absurd (never s))
    where
      never : IsSpot p t (After node to) → ⊥
      never (past_lock n other to x o h e) =
          let same : is ≡ x = same_Some is x (sym at ∙ h) in
          let both : Unlock lock next ≡ Lock other to = sym does ∙ ap (λ (z : Node). z.action) same ∙ e in cc
      never (past_unlock n other to x o h e some) =
          let same : is ≡ x = same_Some is x (sym at ∙ h) in
          let both : Unlock lock next ≡ Unlock other to = sym does ∙ ap (λ (z : Node). z.action) same ∙ e in
          let one : next ≡ to = cc in
          some (ap (λ (n : ℕ). held_names_before p t n) (sym one) ∙ none)

  pub passes : calls is.action ≡ false → IsPastCall p t node None
  passes none to = (λ e. cc, λ s. absurd (never s))
    where
      never : IsSpot p t (After node to) → ⊥
      never (past_lock n other to x o h e) =
          let same : is ≡ x = same_Some is x (sym at ∙ h) in
          let no : true ≡ false = sym (ap calls (ap (λ (z : Node). z.action) same ∙ e)) ∙ none in cc
      never (past_unlock n other to x o h e some) =
          let same : is ≡ x = same_Some is x (sym at ∙ h) in
          let no : true ≡ false = sym (ap calls (ap (λ (z : Node). z.action) same ∙ e)) ∙ none in cc

-- ---- One place more

module _ (p : Plan) (t : Thread) where
  climb : (low : ℕ) (spots : List Spot) (s : Spot) → Ascends low (map rank spots) → ((z : Spot) → Contains spots z → rank z < rank s) → low ≤ rank s →
      Ascends low (map rank (spots ++ s ∷ []))
  climb low [] s h below l = (l, tt)
  climb low (z ∷ spots) s h below l =
      let up = below z (head z spots) in
      (h.0, climb (suc (rank z)) spots s h.1 (λ w k. below w (tail z spots w k)) (omega (arith, up)))

  goes : (spots : List Spot) (s : Spot) → map stand_in (spots ++ s ∷ []) ≡ map stand_in spots ++ stand_in s ∷ []
  goes [] s = refl
  goes (z ∷ spots) s = ap (λ (ns : List Stand). stand_in z ∷ ns) (goes spots s)

  none_more : (bound : ℕ) (stands : List Stand) → AreStandsBelow p t bound stands → ((s : Spot) → IsSpot p t s → rank s ≡ bound → ⊥) →
      AreStandsBelow p t (suc bound) stands
  none_more bound stands h none = record {
    spots = h.spots;
    are = record {
      each = λ s k. (let e = h.are.each s k in (e.0, omega (arith, e.1)));
      all = λ s is below. ⊎_elim (λ l. h.are.all s is l) (λ g. absurd (none s is (omega (arith, g, below)))) (cases_lt (rank s) bound);
      ascend = h.are.ascend;
    };
    goes_on = h.goes_on;
  }

  one_more : (bound : ℕ) (stands : List Stand) (s : Spot) → AreStandsBelow p t bound stands → IsSpot p t s → rank s ≡ bound →
      ((z : Spot) → IsSpot p t z → rank z ≡ bound → s ≡ z) → AreStandsBelow p t (suc bound) (stands ++ stand_in s ∷ [])
  one_more bound stands s h is at only = record {
    spots = h.spots ++ s ∷ [];
    are = record {
      each = λ z k. ⊎_elim (λ l. (let e = h.are.each z l in (e.0, omega (arith, e.1))))
          (λ e. (subst (λ (y : Spot). IsSpot p t y) e is, omega (arith, ap rank e, at)))
          (Contains-push_cases h.spots s z k);
      all = λ z there below. ⊎_elim (λ l. Contains-append_left h.spots (s ∷ []) z (h.are.all z there l))
          (λ g. Contains-append_right h.spots (s ∷ []) z (subst (λ (y : Spot). Contains (s ∷ []) y) (only z there (omega (arith, g, below))) (head s [])))
          (cases_lt (rank z) bound);
      ascend = climb 0 h.spots s h.are.ascend (λ z k. let e = (h.are.each z k).1 in omega (arith, e, at)) (omega arith);
    };
    goes_on = goes h.spots s ∙ ap (λ (ns : List Stand). ns ++ stand_in s ∷ []) h.goes_on;
  }

  -- a place of even rank is before a node, one of odd rank after it
  even : (s : Spot) (node : ℕ) → rank s ≡ 2 * node → s ≡ Before node
  even (Before n) node e = let same : n ≡ node = omega (arith, e) in ap (λ (k : ℕ). Before k) same
  even (After n next) node e = absurd (omega (arith, e))

  odd : (s : Spot) (node : ℕ) → rank s ≡ 2 * node + 1 → (next : ℕ) × (s ≡ After node next)
  odd (Before n) node e = absurd (omega (arith, e))
  odd (After n next) node e = let same : n ≡ node = omega (arith, e) in (next, ap (λ (k : ℕ). After k next) same)

  append_nil : (ns : List Stand) → ns ++ [] ≡ ns
  append_nil [] = refl
  append_nil (n ∷ ns) = ap (λ (z : List Stand). n ∷ z) (append_nil ns)

  pub before_more : (node : ℕ) (stands : List Stand) (o : Option ℕ) → AreStandsBelow p t (2 * node) stands → IsBefore p t node o →
      AreStandsBelow p t (2 * node + 1) (stands ++ stands_at true o)
  before_more node stands None h b =
      let same : suc (2 * node) ≡ 2 * node + 1 = omega arith in
      subst (λ (k : ℕ). AreStandsBelow p t k (stands ++ [])) same
      (subst (λ (ns : List Stand). AreStandsBelow p t (suc (2 * node)) ns) (sym (append_nil stands))
      (none_more (2 * node) stands h (λ s is e. let no : None ≡ Some node = (b node).1 (refl, subst (λ (z : Spot). IsSpot p t z) (even s node e) is) in cc)))
  before_more node stands (Some n) h b =
      let same : suc (2 * node) ≡ 2 * node + 1 = omega arith in
      let is = (b n).0 refl in
      subst (λ (k : ℕ). AreStandsBelow p t k (stands ++ stand_in (Before n) ∷ [])) same
      (subst (λ (k : ℕ). AreStandsBelow p t (suc (2 * node)) (stands ++ stand_in (Before k) ∷ [])) (sym is.0)
      (one_more (2 * node) stands (Before node) h is.1 refl (λ z there e. sym (even z node e))))

  pub after_more : (node : ℕ) (stands : List Stand) (o : Option ℕ) → AreStandsBelow p t (2 * node + 1) stands → IsPastCall p t node o →
      AreStandsBelow p t (2 * (node + 1)) (stands ++ stands_at false o)
  after_more node stands None h b =
      let same : suc (2 * node + 1) ≡ 2 * (node + 1) = omega arith in
      subst (λ (k : ℕ). AreStandsBelow p t k (stands ++ [])) same
      (subst (λ (ns : List Stand). AreStandsBelow p t (suc (2 * node + 1)) ns) (sym (append_nil stands))
      (none_more (2 * node + 1) stands h (λ s is e.
      let w = odd s node e in
      let no : None ≡ Some w.0 = (b w.0).1 (subst (λ (z : Spot). IsSpot p t z) w.1 is) in cc)))
  after_more node stands (Some n) h b =
      let same : suc (2 * node + 1) ≡ 2 * (node + 1) = omega arith in
      subst (λ (k : ℕ). AreStandsBelow p t k (stands ++ stand_in (After node n) ∷ [])) same
      (one_more (2 * node + 1) stands (After node n) h ((b n).0 refl) refl (λ z there e.
      let w = odd z node e in
      let both : Some n ≡ Some w.0 = (b w.0).1 (subst (λ (y : Spot). IsSpot p t y) w.1 there) in
      let one : n ≡ w.0 = cc in ap (λ (k : ℕ). After node k) one ∙ sym w.1))

  from_first : (s : Spot) → IsSpot p t s → t.part.first ≤ node_in s
  from_first s (at_chosen node own chosen) = own.from_first
  from_first s (past_lock node lock next is own at does) = own.from_first
  from_first s (past_unlock node lock next is own at does some) = own.from_first

  -- before the thread's first node there is none
  pub begun : AreStandsBelow p t (2 * t.part.first) []
  begun = record {
    spots = [];
    are = record {
      each = λ s k. absurd (omega (arith, k.1));
      all = λ s is below. absurd (no s is below);
      ascend = tt;
    };
    goes_on = refl;
  }
    where
      no : (s : Spot) → IsSpot p t s → rank s < 2 * t.part.first → ⊥
      no (Before n) is below = let o = from_first (Before n) is in omega (arith, o, below)
      no (After n next) is below = let o = from_first (After n next) is in omega (arith, o, below)

  abbrev pub IsFormedIn : IsPlan p → IsThread p t → Action → Type 0
  IsFormedIn plan th a = sound.IsFormed p.flat th.text.locals t.part.first t.part.end plan.formed.shared.variables a

  pub formed_as : (plan : IsPlan p) (th : IsThread p t) (a b : Action) → a ≡ b → IsFormedIn plan th a → IsFormedIn plan th b
  formed_as plan th a b same h = subst (λ (x : Action). IsFormedIn plan th x) same h

  -- a place is where the thread goes on at one of its nodes
  pub goes_on_own : IsPlan p → IsThread p t → (s : Spot) → IsSpot p t s → IsNodeOf t (goes_on_at s)
  goes_on_own plan th s (at_chosen node own chosen) = own
  goes_on_own plan th s (past_lock node lock next is own at does) =
      let f = formed_as plan th is.action (Lock lock next) does (sound_node p plan t th node is own at).formed in
      record { from_first = f.1.0; below_end = f.1.1 }
  goes_on_own plan th s (past_unlock node lock next is own at does some) =
      let f = formed_as plan th is.action (Unlock lock next) does (sound_node p plan t th node is own at).formed in
      record { from_first = f.1.0; below_end = f.1.1 }

  pub chosen_before : (node : ℕ) → IsNodeOf t node → IsChosen p.graph p.boundaries node → IsBefore p t node (Some node)
  chosen_before node own chosen n =
      (λ e. let same : node ≡ n = cc in (sym same, at_chosen node own chosen), λ w. ap (λ (k : ℕ). Some k) (sym w.0))

  pub unlock_own : IsPlan p → IsThread p t → (node : ℕ) (lock : LockName) (next : ℕ) (is : Node) → IsNodeOf t node → NodeAt p.graph node is →
      is.action ≡ Unlock lock next →
      IsNodeOf t next
  unlock_own plan th node lock next is own at does =
      let f = formed_as plan th is.action (Unlock lock next) does (sound_node p plan t th node is own at).formed in
      record { from_first = f.1.0; below_end = f.1.1 }

  -- a name is held before a node exactly where some are counted
  pub names_none : (plan : IsPlan p) (th : IsThread p t) (node : ℕ) → IsNodeOf t node → count_held (set_before p t node) ≡ 0 → held_names_before p t node ≡ []
  names_none plan th node own none = nothing_named 0 (names_in p t) (set_before p t node) (none_counted 0 (set_before p t node) none)

  pub none_held : (plan : IsPlan p) (th : IsThread p t) (node : ℕ) → IsNodeOf t node → held_names_before p t node ≡ [] → count_held (set_before p t node) ≡ 0
  none_held plan th node own none =
      count_none 0 (set_before p t node) (nothing_held 0 (names_in p t) (set_before p t node) (set_long p plan t th node own) none)

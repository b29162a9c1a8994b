-- What the flow computes is what the discipline says.
use Rattle.std.proofs.Common.{◌≡◌, ◌⊎◌, inl, inr, ℕ, zero, suc, ◌+◌, List, [], ◌∷◌, ◌++◌, length, replicate, slice_get}
use Rattle.std.proofs.Common.{Some, refl, sym, ap, ap₂, ◌∙◌, subst, arith, length-append, zero-add, suc-add, add-zero}
use Rattle.std.proofs.lemmas.List.{length-replicate}
use Rattle.ido_base.specs.declared.place.Place.{Place}
use Rattle.c_tree.specs.Exprs as e
use Rattle.c_tree.specs.Programs.{Variable}
use Rattle.c_tree.specs.Flats as f
use Rattle.c_tree.specs.LockNames.{Held, none_held, lock_names}
use Rattle.c_tree.specs.LockDiscipline.{Keeps, KeepAll, KeepArms, assign, choose, repeat}
use Rattle.c_tree.specs.LockDiscipline.{again, lock, unlock, no_more, then, no_more_arms, arm, IsDisciplined}
use Rattle.lock_discipline.specs.HeldSetsByStep.{assign_steps, steps, steps_of_all, steps_of_arms, HeldIn, HeldInAll, HeldInArms, evaluate}
use Rattle.lock_discipline.specs.HeldSetsByStep.{store_variable, store_element, in_arms, in_otherwise, test_first, in_while, in_do, test_last, take}
use Rattle.lock_discipline.specs.HeldSetsByStep.{give, in_first, in_rest, test_arm, in_arm, in_other_arms, HeldBefore, in_body, at_end, AreSetsOf}
use Rattle.lock_discipline.specs.links.Flow.{held_after, held_after_all, sets_in, sets_in_all, sets_in_arms, thread_sets}

-- ---- A set for each step

module _ (names : List e.LockName) where
  mutual
    length-sets_in : (s : f.Statement) (h : Held) → length (sets_in names h s) ≡ steps s
    length-sets_in (f.Assign place target value) h = length-replicate (assign_steps target) h
    length-sets_in (f.If place arms otherwise) h = length-append (sets_in_arms names h arms) (sets_in_all names h otherwise)
        ∙ ap₂ ◌+◌ (length-sets_in_arms arms h) (length-sets_in_all otherwise h)
    length-sets_in (f.While place condition body) h = ap suc (length-sets_in_all body h)
    length-sets_in (f.Do place body condition) h =
        length-append (sets_in_all names h body) (held_after_all names h body ∷ []) ∙ ap (λ n. n + 1) (length-sets_in_all body h)
    length-sets_in (f.Lock place name) h = refl
    length-sets_in (f.Unlock place name) h = refl

    length-sets_in_all : (ss : f.Statements) (h : Held) → length (sets_in_all names h ss) ≡ steps_of_all ss
    length-sets_in_all f.no_statement h = refl
    length-sets_in_all (f.statement_and x rest) h = length-append (sets_in names h x) (sets_in_all names (held_after names h x) rest)
        ∙ ap₂ ◌+◌ (length-sets_in x h) (length-sets_in_all rest (held_after names h x))

    length-sets_in_arms : (arms : f.Arms) (h : Held) → length (sets_in_arms names h arms) ≡ steps_of_arms arms
    length-sets_in_arms f.no_arm h = refl
    length-sets_in_arms (f.arm_and condition body rest) h =
        ap suc (length-append (sets_in_all names h body) (sets_in_arms names h rest) ∙ ap₂ ◌+◌ (length-sets_in_all body h) (length-sets_in_arms rest h))

-- ---- The set at a place of two lists

at_left : {X : Type 0} (xs ys : List X) (n : ℕ) (k : X) → slice_get xs n ≡ Some k → slice_get (xs ++ ys) n ≡ Some k
at_left [] ys n k p = absurd (cc)
at_left (x ∷ xs) ys zero k p = p
at_left (x ∷ xs) ys (suc n) k p = at_left xs ys n k p

at_after : {X : Type 0} (xs ys : List X) (n : ℕ) → slice_get (xs ++ ys) (length xs + n) ≡ slice_get ys n
at_after [] ys n = ap (slice_get ys) (zero-add n)
at_after (x ∷ xs) ys n = ap (slice_get (x ∷ xs ++ ys)) (suc-add (length xs) n) ∙ at_after xs ys n

at_right : {X : Type 0} (xs ys : List X) (m n : ℕ) → length xs ≡ m → slice_get (xs ++ ys) (m + n) ≡ slice_get ys n
at_right xs ys m n l = ap (λ (i : ℕ). slice_get (xs ++ ys) (i + n)) (sym l) ∙ at_after xs ys n

at_either : {X : Type 0} (xs ys : List X) (n : ℕ) (k : X) → slice_get (xs ++ ys) n ≡ Some k → (slice_get xs n ≡ Some k)
    ⊎ ((m : ℕ) × (n ≡ length xs + m) × (slice_get ys m ≡ Some k))
at_either [] ys n k p = inr (n, omega arith, p)
at_either (x ∷ xs) ys zero k p = inl p
at_either (x ∷ xs) ys (suc n) k p = elim (at_either xs ys n k p) [
  | inl q ↦ inl q
  | inr q ↦ inr (q.0, omega (arith, q.1), q.2)
]

same_some : {X : Type 0} (x y : X) → Some x ≡ Some y → x ≡ y
same_some x y p = cc

module _ (vs : List Variable) (names : List e.LockName) where
  -- ---- After a part that keeps the discipline

  mutual
    pub boundary_after_is : {h after : Held} {s : f.Statement} → Keeps vs names h s after → held_after names h s ≡ after
    boundary_after_is (assign place target value g free) = refl
    boundary_after_is (choose place arms otherwise p q) = after_all_is q
    boundary_after_is (repeat place condition body g p) = refl
    boundary_after_is (again place body condition p g) = refl
    boundary_after_is (lock place name free) = refl
    boundary_after_is (unlock place name held) = refl

    pub after_all_is : {h after : Held} {ss : f.Statements} → KeepAll vs names h ss after → held_after_all names h ss ≡ after
    after_all_is no_more = refl
    after_all_is (then x rest p q) = ap (λ k. held_after_all names k rest) (boundary_after_is p) ∙ after_all_is q

  -- ---- A set before a step is the one at its place

  first_step : (target : e.Lvalue) (h : Held) → slice_get (replicate (assign_steps target) h) 0 ≡ Some h
  first_step (e.ToLocal place local kind) h = refl
  first_step (e.ToVariable name variable kind) h = refl
  first_step (e.ToElement name variable kind index) h = refl

  mutual
    held_at : {h k : Held} {s : f.Statement} {n : ℕ} → HeldIn vs names h s n k → slice_get (sets_in names h s) n ≡ Some k
    held_at (evaluate {h = h} place target value) = first_step target h
    held_at (store_variable place name variable kind value) = refl
    held_at (store_element place name variable kind index value) = refl
    held_at (in_arms {h = h} {k = k} {n = n} place arms otherwise p) = at_left (sets_in_arms names h arms) (sets_in_all names h otherwise) n k (held_at_arms p)
    held_at (in_otherwise {h = h} {k = k} {n = n} place arms otherwise p) =
        at_right (sets_in_arms names h arms) (sets_in_all names h otherwise) (steps_of_arms arms) n (length-sets_in_arms names arms h) ∙ held_at_all p
    held_at (test_first place condition body) = refl
    held_at (in_while place condition body p) = held_at_all p
    held_at (in_do {h = h} {k = k} {n = n} place body condition p) = at_left (sets_in_all names h body) (held_after_all names h body ∷ []) n k (held_at_all p)
    held_at (test_last {h = h} place body condition p) =
        ap (slice_get (sets_in_all names h body ++ held_after_all names h body ∷ [])) (sym (add-zero (steps_of_all body)))
        ∙ at_right (sets_in_all names h body) (held_after_all names h body ∷ []) (steps_of_all body) 0 (length-sets_in_all names body h)
        ∙ ap Some (after_all_is p)
    held_at (take place mutex) = refl
    held_at (give place mutex) = refl

    held_at_all : {h k : Held} {ss : f.Statements} {n : ℕ} → HeldInAll vs names h ss n k → slice_get (sets_in_all names h ss) n ≡ Some k
    held_at_all (in_first {h = h} {k = k} {n = n} x rest p) = at_left (sets_in names h x) (sets_in_all names (held_after names h x) rest) n k (held_at p)
    held_at_all (in_rest {h = h} {n = n} x rest p q) =
        at_right (sets_in names h x) (sets_in_all names (held_after names h x) rest) (steps x) n (length-sets_in names x h)
        ∙ ap (λ (b : Held). slice_get (sets_in_all names b rest) n) (boundary_after_is p) ∙ held_at_all q

    held_at_arms : {h k : Held} {arms : f.Arms} {n : ℕ} → HeldInArms vs names h arms n k → slice_get (sets_in_arms names h arms) n ≡ Some k
    held_at_arms (test_arm condition body rest) = refl
    held_at_arms (in_arm {h = h} {k = k} {n = n} condition body rest p) = at_left (sets_in_all names h body) (sets_in_arms names h rest) n k (held_at_all p)
    held_at_arms (in_other_arms {h = h} {n = n} condition body rest p) =
        at_right (sets_in_all names h body) (sets_in_arms names h rest) (steps_of_all body) n (length-sets_in_all names body h) ∙ held_at_arms p

  -- ---- The set at a step's place is held before it

  at_assign : (place : Place) (target : e.Lvalue) (value : e.Placed) (h : Held) (n : ℕ) (k : Held) → slice_get (replicate (assign_steps target) h) n ≡ Some k →
      HeldIn vs names h (f.Assign place target value) n k
  at_assign place (e.ToLocal name local kind) value h zero k p =
      subst (λ x. HeldIn vs names h (f.Assign place (e.ToLocal name local kind) value) 0 x) (same_some h k p)
      (evaluate place _ value)
  at_assign place (e.ToLocal name local kind) value h (suc n) k p = absurd (cc)
  at_assign place (e.ToVariable name variable kind) value h zero k p =
      subst (λ x. HeldIn vs names h (f.Assign place (e.ToVariable name variable kind) value) 0 x)
      (same_some h k p) (evaluate place _ value)
  at_assign place (e.ToVariable name variable kind) value h (suc zero) k p =
      subst (λ x. HeldIn vs names h (f.Assign place (e.ToVariable name variable kind) value) 1 x) (same_some h k p)
      (store_variable place name variable kind value)
  at_assign place (e.ToVariable name variable kind) value h (suc (suc n)) k p = absurd (cc)
  at_assign place (e.ToElement name variable kind index) value h zero k p =
      subst (λ x. HeldIn vs names h (f.Assign place (e.ToElement name variable kind index) value) 0 x) (same_some h k p) (evaluate place _ value)
  at_assign place (e.ToElement name variable kind index) value h (suc zero) k p =
      subst (λ x. HeldIn vs names h (f.Assign place (e.ToElement name variable kind index) value) 1 x) (same_some h k p)
      (store_element place name variable kind index value)
  at_assign place (e.ToElement name variable kind index) value h (suc (suc n)) k p = absurd (cc)

  -- the one set of a list
  at_single : {X : Type 0} (x k : X) (n : ℕ) → slice_get (x ∷ []) n ≡ Some k → (n ≡ 0) × (x ≡ k)
  at_single x k zero p = (refl, same_some x k p)
  at_single x k (suc n) p = absurd (cc)

  mutual
    at_held : {h after : Held} {s : f.Statement} → Keeps vs names h s after → (n : ℕ) (k : Held) → slice_get (sets_in names h s) n ≡ Some k →
        HeldIn vs names h s n k
    at_held (assign {h = h} place target value g free) n k e = at_assign place target value h n k e
    at_held (choose {h = h} place arms otherwise p q) n k e = elim (at_either (sets_in_arms names h arms) (sets_in_all names h otherwise) n k e) [
      | inl here ↦ in_arms place arms otherwise (at_held_arms p n k here)
      | inr there ↦ subst (λ i. HeldIn vs names h (f.If place arms otherwise) i k)
          (ap (λ m. m + there.0) (sym (length-sets_in_arms names arms h)) ∙ sym there.1)
          (in_otherwise place arms otherwise (at_held_all q there.0 k there.2))
    ]
    at_held (repeat {h = h} place condition body g p) zero k e = subst (λ x. HeldIn vs names h (f.While place condition body) 0 x) (same_some h k e)
        (test_first place condition body)
    at_held (repeat {h = h} place condition body g p) (suc n) k e = in_while place condition body (at_held_all p n k e)
    at_held (again {h = h} place body condition p g) n k e = elim (at_either (sets_in_all names h body) (held_after_all names h body ∷ []) n k e) [
      | inl here ↦ in_do place body condition (at_held_all p n k here)
      | inr there ↦
          let one = at_single (held_after_all names h body) k there.0 there.2 in
          let place_of : steps_of_all body ≡ n = omega (arith, one.0, there.1, length-sets_in_all names body h) in
          subst (λ i. HeldIn vs names h (f.Do place body condition) i k) place_of
          (test_last place body condition (subst (λ x. KeepAll vs names h body x) (sym (after_all_is p) ∙ one.1) p))
    ]
    at_held (lock {h = h} place name free) n k e =
        let one = at_single h k n e in
        subst (λ x. HeldIn vs names h (f.Lock place name) n x) one.1 (subst (λ i. HeldIn vs names h (f.Lock place name) i h) (sym one.0) (take place name))
    at_held (unlock {h = h} place name held) n k e =
        let one = at_single h k n e in
        subst (λ x. HeldIn vs names h (f.Unlock place name) n x) one.1 (subst (λ i. HeldIn vs names h (f.Unlock place name) i h) (sym one.0) (give place name))

    at_held_all : {h after : Held} {ss : f.Statements} → KeepAll vs names h ss after → (n : ℕ) (k : Held) → slice_get (sets_in_all names h ss) n ≡ Some k →
        HeldInAll vs names h ss n k
    at_held_all no_more n k e = absurd (cc)
    at_held_all (then {h = h} {between = between} x rest p q) n k e =
        elim (at_either (sets_in names h x) (sets_in_all names (held_after names h x) rest) n k e) [
          | inl here ↦ in_first x rest (at_held p n k here)
          | inr there ↦
              let later = subst (λ b. slice_get (sets_in_all names b rest) there.0 ≡ Some k) (boundary_after_is p) there.2 in
              subst (λ i. HeldInAll vs names h (f.statement_and x rest) i k) (ap (λ m. m + there.0) (sym (length-sets_in names x h)) ∙ sym there.1)
              (in_rest x rest p (at_held_all q there.0 k later))
        ]

    at_held_arms : {h after : Held} {arms : f.Arms} → KeepArms vs names h arms after → (n : ℕ) (k : Held) → slice_get (sets_in_arms names h arms) n ≡ Some k →
        HeldInArms vs names h arms n k
    at_held_arms no_more_arms n k e = absurd (cc)
    at_held_arms (arm {h = h} condition body rest g p q) zero k e = subst (λ x. HeldInArms vs names h (f.arm_and condition body rest) 0 x) (same_some h k e)
        (test_arm condition body rest)
    at_held_arms (arm {h = h} condition body rest g p q) (suc n) k e = elim (at_either (sets_in_all names h body) (sets_in_arms names h rest) n k e) [
      | inl here ↦ in_arm condition body rest (at_held_all p n k here)
      | inr there ↦ subst (λ i. HeldInArms vs names h (f.arm_and condition body rest) (suc i) k)
          (ap (λ m. m + there.0) (sym (length-sets_in_all names body h)) ∙ sym there.1) (in_other_arms condition body rest (at_held_arms q there.0 k there.2))
    ]

-- ---- Threads

last_of_body : (x : f.Flat) (t : f.Thread) → IsDisciplined x t → (n : ℕ) (k : Held) → n ≡ steps_of_all t.body →
    held_after_all (lock_names x t) (none_held (length (lock_names x t))) t.body ≡ k → HeldBefore x t n k
last_of_body x t p n k i e =
    subst (λ j. HeldBefore x t j k) (sym i) (at_end (subst (λ h. KeepAll x.variables (lock_names x t) (none_held (length (lock_names x t))) t.body h)
    (sym (after_all_is x.variables (lock_names x t) p) ∙ e) p))

pub held_before : (x : f.Flat) (t : f.Thread) → IsDisciplined x t → (n : ℕ) (k : Held) → slice_get (thread_sets (lock_names x t) t) n ≡ Some k →
    HeldBefore x t n k
held_before x t p n k e =
    let first = none_held (length (lock_names x t)) in
    let sets = sets_in_all (lock_names x t) first t.body in
    let last = held_after_all (lock_names x t) first t.body in
    elim (at_either sets (last ∷ []) n k e) [
      | inl here ↦ in_body (at_held_all x.variables (lock_names x t) p n k here)
      | inr there ↦
          let one = at_single x.variables (lock_names x t) last k there.0 there.2 in
          last_of_body x t p n k (omega (arith, one.0, there.1, length-sets_in_all (lock_names x t) t.body first)) one.1
    ]

pub before_held : (x : f.Flat) (t : f.Thread) {n : ℕ} {k : Held} → HeldBefore x t n k → slice_get (thread_sets (lock_names x t) t) n ≡ Some k
before_held x t (in_body {k = k} {n = n} p) = at_left (sets_in_all (lock_names x t) (none_held (length (lock_names x t))) t.body)
    (held_after_all (lock_names x t) (none_held (length (lock_names x t))) t.body ∷ []) n k (held_at_all x.variables (lock_names x t) p)
before_held x t (at_end p) =
    let first = none_held (length (lock_names x t)) in
    let sets = sets_in_all (lock_names x t) first t.body in
    let last = held_after_all (lock_names x t) first t.body in
    ap (slice_get (sets ++ last ∷ [])) (sym (add-zero (steps_of_all t.body)))
    ∙ at_right sets (last ∷ []) (steps_of_all t.body) 0 (length-sets_in_all (lock_names x t) t.body first)
    ∙ ap Some (after_all_is x.variables (lock_names x t) p)

pub thread_sets_are : (x : f.Flat) (t : f.Thread) → IsDisciplined x t → AreSetsOf x t (thread_sets (lock_names x t) t)
thread_sets_are x t p =
    let first = none_held (length (lock_names x t)) in
    let sets = sets_in_all (lock_names x t) first t.body in
    let last = held_after_all (lock_names x t) first t.body in
    record {
      disciplined = p;
      each_step = length-append sets (last ∷ []) ∙ ap (λ (n : ℕ). n + 1) (length-sets_in_all (lock_names x t) t.body first);
      exactly = λ n k. (held_before x t p n k, λ h. before_held x t h);
    }

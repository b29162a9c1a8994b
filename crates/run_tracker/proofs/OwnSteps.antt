-- The pending steps of one hart, what becomes of them, and how many there are.
use Rattle.std.proofs.Common.{◌≡◌, ◌≢◌, ◌⊎◌, ℕ, zero, suc, ◌+◌, ◌<◌, ◌≤◌, List, [], ◌∷◌, ◌++◌, length, map, filter, replicate, Option, Some, None}
use Rattle.std.proofs.Common.{Bool, true, false, not, nat_le, ◌==◌, ◌&&◌, refl, ap, ap₂, sym}
use Rattle.std.proofs.Common.{subst, ◌∙◌, arith, inl, inr, append-nil, append_assoc, length-append}
use Rattle.std.specs.Prelude.{is_none, if◌then◌else◌}
use Rattle.std.proofs.lemmas.Bool.{and_parts, cases_eq, cases_lt, eq-eqb, eqb-true, le-leb, leb-true, ne_eqb, true≢false}
use Rattle.std.proofs.lemmas.List.{length-replicate, map-append, replicate-append-replicate}
use Rattle.std.proofs.lemmas.List.Elements.{filter-append}
use Rattle.machine_model.specs.Schedule.{PendingStep, then_stored, is_up_to, is_durable}
use Rattle.machine_model.proofs.Public.{length_parts}
use Rattle.run_tracker.specs.links.AccountRepresentation.{Bound, HartSteps, AllBindSome, bound_steps, durable_steps, each_step, own_steps, step_at, total}
use Rattle.run_tracker.proofs.BoundSteps.{later, later_yes, later_no, durable_yes, durable_no, total-cons}

-- ---- Lists by tests

pub filter_yes : {A : Type 0} (p : A → Bool) (x : A) (xs : List A) → p x ≡ true → filter p (x ∷ xs) ≡ x ∷ filter p xs
filter_yes p x xs e = ap (λ (b : Bool). if b then x ∷ filter p xs else filter p xs) e

pub filter_no : {A : Type 0} (p : A → Bool) (x : A) (xs : List A) → p x ≡ false → filter p (x ∷ xs) ≡ filter p xs
filter_no p x xs e = ap (λ (b : Bool). if b then x ∷ filter p xs else filter p xs) e

-- two tests one after the other, in either order
pub filter_both : {A : Type 0} (p q : A → Bool) (xs : List A) → filter p (filter q xs) ≡ filter q (filter p xs)
filter_both p q [] = refl
filter_both {A} p q (x ∷ xs) = by (p x) (q x) refl refl (filter_both p q xs)
  where
    by : (a b : Bool) → p x ≡ a → q x ≡ b → filter p (filter q xs) ≡ filter q (filter p xs) → filter p (filter q (x ∷ xs)) ≡ filter q (filter p (x ∷ xs))
    by true true one other e =
        ap (filter p) (filter_yes q x xs other) ∙ filter_yes p x (filter q xs) one ∙ ap (λ (ys : List A). x ∷ ys) e
        ∙ sym (ap (filter q) (filter_yes p x xs one) ∙ filter_yes q x (filter p xs) other)
    by true false one other e =
        ap (filter p) (filter_no q x xs other) ∙ e ∙ sym (ap (filter q) (filter_yes p x xs one) ∙ filter_no q x (filter p xs) other)
    by false true one other e =
        ap (filter p) (filter_yes q x xs other) ∙ filter_no p x (filter q xs) one ∙ e ∙ sym (ap (filter q) (filter_no p x xs one))
    by false false one other e = ap (filter p) (filter_no q x xs other) ∙ e ∙ sym (ap (filter q) (filter_no p x xs one))

-- where a test takes all that another one takes, it doesn't matter before it
pub filter_within : {A : Type 0} (p q : A → Bool) → ((x : A) → q x ≡ true → p x ≡ true) → (xs : List A) → filter q (filter p xs) ≡ filter q xs
filter_within p q all [] = refl
filter_within {A} p q all (x ∷ xs) = by (p x) (q x) refl refl (filter_within p q all xs)
  where
    by : (a b : Bool) → p x ≡ a → q x ≡ b → filter q (filter p xs) ≡ filter q xs → filter q (filter p (x ∷ xs)) ≡ filter q (x ∷ xs)
    by true true one other e =
        ap (filter q) (filter_yes p x xs one) ∙ filter_yes q x (filter p xs) other ∙ ap (λ (ys : List A). x ∷ ys) e ∙ sym (filter_yes q x xs other)
    by true false one other e = ap (filter q) (filter_yes p x xs one) ∙ filter_no q x (filter p xs) other ∙ e ∙ sym (filter_no q x xs other)
    by false true one other e = absurd (true≢false (sym (all x other) ∙ one))
    by false false one other e = ap (filter q) (filter_no p x xs one) ∙ e ∙ sym (filter_no q x xs other)

many_yes : {A : Type 0} (p : A → Bool) (n : ℕ) (x : A) → p x ≡ true → filter p (replicate n x) ≡ replicate n x
many_yes p zero x e = refl
many_yes {A} p (suc n) x e = filter_yes p x (replicate n x) e ∙ ap (λ (ys : List A). x ∷ ys) (many_yes p n x e)

many_no : {A : Type 0} (p : A → Bool) (n : ℕ) (x : A) → p x ≡ false → filter p (replicate n x) ≡ []
many_no p zero x e = refl
many_no p (suc n) x e = filter_no p x (replicate n x) e ∙ many_no p n x e

many_mapped : {A B : Type 0} (f : A → B) (n : ℕ) (x : A) → map f (replicate n x) ≡ replicate n (f x)
many_mapped f zero x = refl
many_mapped {A} {B} f (suc n) x = ap (λ (ys : List B). f x ∷ ys) (many_mapped f n x)

pub fewer : {A : Type 0} (p : A → Bool) (xs : List A) → length (filter p xs) ≤ length xs
fewer p xs = omega (arith, length_parts p xs)

-- ---- One hart's steps among others

abbrev pub of_hart : (h : ℕ) → PendingStep → Bool
of_hart h step = step.hart == h

abbrev pub left : (h durable : ℕ) → PendingStep → Bool
left h durable step = not (is_durable h durable step)

-- what is so of hart h's steps then, where other harts' are as they were, is so of each hart's
pub each_own : (P : ℕ → List PendingStep → Type 0) (h : ℕ) (xs ys : List PendingStep) → P h (own_steps h ys) →
    ((g : ℕ) → g ≢ h → own_steps g ys ≡ own_steps g xs) → ((g : ℕ) → P g (own_steps g xs)) → (g : ℕ) → P g (own_steps g ys)
each_own P h xs ys here same all g = by (cases_eq g h)
  where
    by : (g ≡ h) ⊎ (g ≡ h → ⊥) → P g (own_steps g ys)
    by (inl is) = subst (λ (k : ℕ). P k (own_steps k ys)) (sym is) here
    by (inr other) = subst (P g) (sym (same g other)) (all g)

-- one step more
pub own_push : (h : ℕ) (stored : Option ℕ) (xs : List PendingStep) → own_steps h (xs ++ step_at h stored ∷ []) ≡ own_steps h xs ++ step_at h stored ∷ []
own_push h stored xs =
    filter-append (of_hart h) xs (step_at h stored ∷ [])
    ∙ ap (λ (ys : List PendingStep). own_steps h xs ++ ys) (filter_yes (of_hart h) (step_at h stored) [] (eq-eqb h h refl))

pub other_push : (h g : ℕ) (stored : Option ℕ) (xs : List PendingStep) → g ≢ h → own_steps g (xs ++ step_at h stored ∷ []) ≡ own_steps g xs
other_push h g stored xs other =
    filter-append (of_hart g) xs (step_at h stored ∷ [])
    ∙ ap (λ (ys : List PendingStep). own_steps g xs ++ ys) (filter_no (of_hart g) (step_at h stored) [] (ne_eqb h g (λ e. other (sym e))))
    ∙ append-nil (own_steps g xs)

-- a step of the hart that stores its point
abbrev pub fill : (position : ℕ) → Option ℕ → Option ℕ
fill position None = Some position
fill position (Some earlier) = Some earlier

abbrev pub filled : (position : ℕ) → PendingStep → PendingStep
filled position step = record step { stored = fill position step.stored }

then_filled : (h position : ℕ) (step : PendingStep) → (step.hart == h) ≡ true → then_stored h position step ≡ filled position step
then_filled h position step own = by step.stored refl
  where
    test : Bool → PendingStep
    test b = if b then record step { stored = Some position } else step

    by : (stored : Option ℕ) → step.stored ≡ stored → test ((step.hart == h) && is_none step.stored) ≡ filled position step
    by None is =
        let yes : ((step.hart == h) && is_none step.stored) ≡ true = λ i. own i && is_none (is i) in
        ap test yes ∙ ap (λ (o : Option ℕ). let s : PendingStep = record step { stored = fill position o } in s) (sym is)
    by (Some q) is =
        let no : ((step.hart == h) && is_none step.stored) ≡ false = λ i. own i && is_none (is i) in
        ap test no ∙ ap (λ (o : Option ℕ). let s : PendingStep = record step { stored = o } in s) (is ∙ ap (fill position) (sym is))

then_same : (h position : ℕ) (step : PendingStep) → (step.hart == h) ≡ false → then_stored h position step ≡ step
then_same h position step other = ap (λ (b : Bool). if b && is_none step.stored then record step { stored = Some position } else step) other

then_hart : (h position : ℕ) (step : PendingStep) → (then_stored h position step).hart ≡ step.hart
then_hart h position step = by ((step.hart == h) && is_none step.stored)
  where
    by : (b : Bool) → (if b then record step { stored = Some position } else step).hart ≡ step.hart
    by true = refl
    by false = refl

pub own_stored : (h position : ℕ) (xs : List PendingStep) → own_steps h (map (then_stored h position) xs) ≡ map (filled position) (own_steps h xs)
own_stored h position [] = refl
own_stored h position (x ∷ xs) = by (x.hart == h) refl (own_stored h position xs)
  where
    rest : List PendingStep
    rest = map (then_stored h position) xs

    by : (own : Bool) → (x.hart == h) ≡ own → own_steps h rest ≡ map (filled position) (own_steps h xs) →
        own_steps h (then_stored h position x ∷ rest) ≡ map (filled position) (own_steps h (x ∷ xs))
    by true own e =
        ap (λ (y : PendingStep). own_steps h (y ∷ rest)) (then_filled h position x own) ∙ filter_yes (of_hart h) (filled position x) rest own
        ∙ ap (λ (ys : List PendingStep). filled position x ∷ ys) e ∙ sym (ap (map (filled position)) (filter_yes (of_hart h) x xs own))
    by false own e =
        ap (λ (y : PendingStep). own_steps h (y ∷ rest)) (then_same h position x own) ∙ filter_no (of_hart h) x rest own
        ∙ e ∙ sym (ap (map (filled position)) (filter_no (of_hart h) x xs own))

pub other_stored : (h g position : ℕ) (xs : List PendingStep) → g ≢ h → own_steps g (map (then_stored h position) xs) ≡ own_steps g xs
other_stored h g position [] other = refl
other_stored h g position (x ∷ xs) other = by (x.hart == g) refl (other_stored h g position xs other)
  where
    rest : List PendingStep
    rest = map (then_stored h position) xs

    by : (own : Bool) → (x.hart == g) ≡ own → own_steps g rest ≡ own_steps g xs → own_steps g (then_stored h position x ∷ rest) ≡ own_steps g (x ∷ xs)
    by true own e =
        let apart : (x.hart == h) ≡ false = ne_eqb x.hart h (λ same. other (sym (eqb-true x.hart g own) ∙ same)) in
        ap (λ (y : PendingStep). own_steps g (y ∷ rest)) (then_same h position x apart) ∙ filter_yes (of_hart g) x rest own
        ∙ ap (λ (ys : List PendingStep). x ∷ ys) e ∙ sym (filter_yes (of_hart g) x xs own)
    by false own e =
        filter_no (of_hart g) (then_stored h position x) rest (ap (λ (k : ℕ). k == g) (then_hart h position x) ∙ own)
        ∙ e ∙ sym (filter_no (of_hart g) x xs own)

-- what is durable of hart h is among its own, and nothing of others is
pub own_durable : (h durable : ℕ) (xs : List PendingStep) → filter (is_durable h durable) (own_steps h xs) ≡ filter (is_durable h durable) xs
own_durable h durable xs =
    filter_within (of_hart h) (is_durable h durable) (λ step is. (and_parts (step.hart == h) (is_up_to durable step.stored) is).0) xs

pub own_left : (h durable : ℕ) (xs : List PendingStep) → own_steps h (filter (left h durable) xs) ≡ filter (left h durable) (own_steps h xs)
own_left h durable xs = filter_both (of_hart h) (left h durable) xs

pub other_left : (h g durable : ℕ) (xs : List PendingStep) → g ≢ h → own_steps g (filter (left h durable) xs) ≡ own_steps g xs
other_left h g durable xs other =
    filter_within (left h durable) (of_hart g) (λ step own. ap (λ (b : Bool). not (b && is_up_to durable step.stored))
    (ne_eqb step.hart h (λ same. other (sym (eqb-true step.hart g own) ∙ same)))) xs

-- ---- By the counts of an account

bound_more : (h : ℕ) (bs cs : List Bound) → bound_steps h (bs ++ cs) ≡ bound_steps h bs ++ bound_steps h cs
bound_more h [] cs = refl
bound_more h (b ∷ bs) cs =
    ap (λ (ys : List PendingStep). replicate b.steps (step_at h (Some b.position)) ++ ys) (bound_more h bs cs)
    ∙ sym (append_assoc (replicate b.steps (step_at h (Some b.position))) (bound_steps h bs) (bound_steps h cs))

pub each_begun : (h n : ℕ) (x : HartSteps) → each_step h x ++ replicate n (step_at h None) ≡ each_step h (record x { free = x.free + n })
each_begun h n x =
    append_assoc (bound_steps h x.bound) (replicate x.free (step_at h None)) (replicate n (step_at h None))
    ∙ ap (λ (ys : List PendingStep). bound_steps h x.bound ++ ys) (replicate-append-replicate x.free n (step_at h None))

bound_filled : (h position : ℕ) (bs : List Bound) → map (filled position) (bound_steps h bs) ≡ bound_steps h bs
bound_filled h position [] = refl
bound_filled h position (b ∷ bs) =
    map-append (filled position) (replicate b.steps (step_at h (Some b.position))) (bound_steps h bs)
    ∙ ap₂ (λ (ys zs : List PendingStep). ys ++ zs) (many_mapped (filled position) b.steps (step_at h (Some b.position))) (bound_filled h position bs)

each_filled : (h position : ℕ) (x : HartSteps) →
    map (filled position) (each_step h x) ≡ bound_steps h x.bound ++ replicate x.free (step_at h (Some position))
each_filled h position x =
    map-append (filled position) (bound_steps h x.bound) (replicate x.free (step_at h None))
    ∙ ap₂ (λ (ys zs : List PendingStep). ys ++ zs) (bound_filled h position x.bound) (many_mapped (filled position) x.free (step_at h None))

pub each_stored : (h position : ℕ) (x : HartSteps) →
    map (filled position) (each_step h x) ≡ each_step h (record { bound = x.bound ++ record { position = position; steps = x.free } ∷ []; free = 0 })
each_stored h position x =
    let b : Bound = record { position = position; steps = x.free } in
    let many : List PendingStep = replicate x.free (step_at h (Some position)) in
    each_filled h position x
    ∙ sym (append-nil (bound_steps h (x.bound ++ b ∷ [])) ∙ bound_more h x.bound (b ∷ [])
    ∙ ap (λ (ys : List PendingStep). bound_steps h x.bound ++ ys) (append-nil many))

pub each_unstored : (h position : ℕ) (x : HartSteps) → x.free ≡ 0 → map (filled position) (each_step h x) ≡ each_step h x
each_unstored h position x none =
    each_filled h position x
    ∙ ap (λ (n : ℕ). bound_steps h x.bound ++ replicate n (step_at h (Some position))) none
    ∙ sym (ap (λ (n : ℕ). bound_steps h x.bound ++ replicate n (step_at h None)) none)

-- a bound step is durable where its position is, and a free one never
bound_is : (h durable position : ℕ) → is_durable h durable (step_at h (Some position)) ≡ nat_le position durable
bound_is h durable position = ap (λ (b : Bool). b && nat_le position durable) (eq-eqb h h refl)

free_is : (h durable : ℕ) → is_durable h durable (step_at h None) ≡ false
free_is h durable = ap (λ (b : Bool). b && false) (eq-eqb h h refl)

above_not : (p d : ℕ) → d < p → nat_le p d ≡ false
above_not p d above = by_test (nat_le p d) refl
  where
    by_test : (t : Bool) → nat_le p d ≡ t → nat_le p d ≡ false
    by_test true e = absurd (omega (arith, leb-true p d e))
    by_test false e = e

module _ (h d : ℕ) where
  bound_left : (bs : List Bound) → filter (left h d) (bound_steps h bs) ≡ bound_steps h (later d bs)
  bound_left [] = refl
  bound_left (b ∷ bs) =
      let one : PendingStep = step_at h (Some b.position) in
      let parts = filter-append (left h d) (replicate b.steps one) (bound_steps h bs) in
      elim (cases_lt d b.position) [
        | inl above ↦
            parts
            ∙ ap₂ (λ (ys zs : List PendingStep). ys ++ zs)
            (many_yes (left h d) b.steps one (ap not (bound_is h d b.position ∙ above_not b.position d above))) (bound_left bs)
            ∙ sym (ap (bound_steps h) (later_yes d b bs above))
        | inr below ↦
            parts
            ∙ ap₂ (λ (ys zs : List PendingStep). ys ++ zs)
            (many_no (left h d) b.steps one (ap not (bound_is h d b.position ∙ le-leb b.position d below))) (bound_left bs)
            ∙ sym (ap (bound_steps h) (later_no d b bs below))
      ]

  pub each_left : (x : HartSteps) → filter (left h d) (each_step h x) ≡ each_step h (record x { bound = later d x.bound })
  each_left x =
      filter-append (left h d) (bound_steps h x.bound) (replicate x.free (step_at h None))
      ∙ ap₂ (λ (ys zs : List PendingStep). ys ++ zs) (bound_left x.bound) (many_yes (left h d) x.free (step_at h None) (ap not (free_is h d)))

  bound_count : (bs : List Bound) → length (filter (is_durable h d) (bound_steps h bs)) ≡ durable_steps d bs
  bound_count [] = refl
  bound_count (b ∷ bs) =
      let one : PendingStep = step_at h (Some b.position) in
      let test = is_durable h d in
      let parts = ap length (filter-append test (replicate b.steps one) (bound_steps h bs)) in
      let sum = length-append (filter test (replicate b.steps one)) (filter test (bound_steps h bs)) in
      let rest = bound_count bs in
      elim (cases_lt d b.position) [
        | inl above ↦
            let none = ap length (many_no test b.steps one (bound_is h d b.position ∙ above_not b.position d above)) in
            omega (arith, parts, sum, rest, none, durable_no d b bs above)
        | inr below ↦
            let all = ap length (many_yes test b.steps one (bound_is h d b.position ∙ le-leb b.position d below)) in
            omega (arith, parts, sum, rest, all, length-replicate b.steps one, durable_yes d b bs below)
      ]

  pub each_count : (x : HartSteps) → length (filter (is_durable h d) (each_step h x)) ≡ durable_steps d x.bound
  each_count x =
      let test = is_durable h d in
      let parts = ap length (filter-append test (bound_steps h x.bound) (replicate x.free (step_at h None))) in
      let sum = length-append (filter test (bound_steps h x.bound)) (filter test (replicate x.free (step_at h None))) in
      let none = ap length (many_no test x.free (step_at h None) (free_is h d)) in
      omega (arith, parts, sum, none, bound_count x.bound)

bound_total : (h : ℕ) (bs : List Bound) → length (bound_steps h bs) ≡ total bs
bound_total h [] = refl
bound_total h (b ∷ bs) =
    let one : PendingStep = step_at h (Some b.position) in
    omega (arith, length-append (replicate b.steps one) (bound_steps h bs), length-replicate b.steps one, bound_total h bs, total-cons b bs)

pub each_total : (h : ℕ) (x : HartSteps) → length (each_step h x) ≡ total x.bound + x.free
each_total h x =
    omega (
      arith,
      length-append (bound_steps h x.bound) (replicate x.free (step_at h None)),
      bound_total h x.bound,
      length-replicate x.free (step_at h None),
    )

-- ---- Stores to which steps are bound

pub some_later : (d : ℕ) (bs : List Bound) → AllBindSome bs → AllBindSome (later d bs)
some_later d [] some = tt
some_later d (b ∷ bs) some = elim (cases_lt d b.position) [
  | inl above ↦ subst AllBindSome (sym (later_yes d b bs above)) (some.0, some_later d bs some.1)
  | inr below ↦ subst AllBindSome (sym (later_no d b bs below)) (some_later d bs some.1)
]

pub some_push : (bs : List Bound) (b : Bound) → AllBindSome bs → 0 < b.steps → AllBindSome (bs ++ b ∷ [])
some_push [] b some one = (one, tt)
some_push (c ∷ cs) b some one = (some.0, some_push cs b some.1 one)

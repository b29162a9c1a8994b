-- The account where one hart's steps change.
use Rattle.std.proofs.Common.{◌≡◌, ◌≢◌, ◌⊎◌, ℕ, zero, suc, ◌<◌, ◌≤◌, List, [], ◌∷◌, ◌++◌, length, map, filter, drop, slice_index_or}
use Rattle.std.proofs.Common.{slice_set, get_or, replicate, Bool, true, false, ◌==◌, if◌then◌else◌, refl, ap, sym, subst}
use Rattle.std.proofs.Common.{◌∙◌, arith, inl, inr, length-set, length-append, get_or-set_same, get_or-set_other, append-nil, append_assoc, flat_map}
use Rattle.std.proofs.lemmas.Bool.{cases_eq, eq-eqb, eqb-true}
use Rattle.std.proofs.lemmas.List.{drop-append-le}
use Rattle.log_schemes.specs.declared.log.Log.{Log}
use Rattle.ido_base.specs.Words.{Word, word_at}
use Rattle.machine_model.specs.Schedule.{Steps, harts_of, is_durable, with_kept, with_stored}
use Rattle.machine_model.proofs.Public.{kept_harts}
use Rattle.run_tracker.specs.declared.account.PointStore.{PointStore}
use Rattle.run_tracker.specs.declared.account.OpenSteps.{OpenSteps}
use Rattle.run_tracker.specs.declared.account.Account.{Account}
use Rattle.run_tracker.specs.links.AccountRepresentation.{AccountInv, AllBindSome, Bound, HartSteps, all_kept, bound_at, bound_in, bound_of, durable_steps}
use Rattle.run_tracker.specs.links.AccountRepresentation.{each_step, nothing_open, open_at, own_steps, point_word, steps_of}
use Rattle.run_tracker.proofs.BoundSteps.{later}
use Rattle.run_tracker.proofs.OwnSteps.{each_count, each_left, each_stored, each_unstored, filled, left, other_left, other_stored, own_durable, own_left}
use Rattle.run_tracker.proofs.OwnSteps.{own_stored, some_later, some_push}

-- ---- What is bound to stores

pub bound_in-append : (xs ys : List PointStore) (h : ℕ) → bound_in (xs ++ ys) h ≡ bound_in xs h ++ bound_in ys h
bound_in-append [] ys h = refl
bound_in-append (x ∷ xs) ys h = by_test (x.hart == h) (bound_in-append xs ys h)
  where
    by_test : (t : Bool) → bound_in (xs ++ ys) h ≡ bound_in xs h ++ bound_in ys h →
        (if t then bound_of x ∷ bound_in (xs ++ ys) h else bound_in (xs ++ ys) h) ≡ (if t then bound_of x ∷ bound_in xs h else bound_in xs h) ++ bound_in ys h
    by_test true e = ap (λ (bs : List Bound). bound_of x ∷ bs) e
    by_test false e = e

pub bound_yes : (x : PointStore) (xs : List PointStore) (h : ℕ) → x.hart ≡ h → bound_in (x ∷ xs) h ≡ bound_of x ∷ bound_in xs h
bound_yes x xs h e = rw (eq-eqb x.hart h e) refl

pub bound_no : (x : PointStore) (xs : List PointStore) (h : ℕ) → x.hart ≢ h → bound_in (x ∷ xs) h ≡ bound_in xs h
bound_no x xs h ne = rw (differs (x.hart == h) refl) refl
  where
    differs : (t : Bool) → (x.hart == h) ≡ t → (x.hart == h) ≡ false
    differs true e = absurd (ne (eqb-true x.hart h e))
    differs false e = e

-- one store more
pub bound_push : (stores : List PointStore) (x : PointStore) (first h : ℕ) → first ≤ length stores →
    bound_in (drop first (stores ++ x ∷ [])) h ≡ bound_in (drop first stores) h ++ bound_in (x ∷ []) h
bound_push stores x first h within =
    ap (λ (xs : List PointStore). bound_in xs h) (drop-append-le first stores (x ∷ []) within) ∙ bound_in-append (drop first stores) (x ∷ []) h

-- ---- Steps where those of one hart change

-- the account stands where the hart's steps are those of its part, and all others have stayed
pub updated : (before after : Account) (s t : Steps) (h : ℕ) (part : OpenSteps)
    → AccountInv before s → h < length before.harts.items
    → all_kept t ≡ after.kept.items → after.harts.items ≡ slice_set before.harts.items h part
    → own_steps h t.pending ≡ each_step h (steps_of after.stores.items h part) → AllBindSome (bound_in (drop part.first after.stores.items) h)
    → part.first ≤ length after.stores.items → length before.stores.items ≤ length after.stores.items
    → ((g : ℕ) → g ≢ h → own_steps g t.pending ≡ own_steps g s.pending)
    → ((g : ℕ) → g ≢ h → g < length before.harts.items → steps_of after.stores.items g (open_at before g) ≡ steps_of before.stores.items g (open_at before g))
    → AccountInv after t
updated before after s t h part stands within kept parts is some first grown others_own others = record {
  kept = kept;
  each = λ g below. each_is g below (cases_eq g h);
  some = λ g below. some_is g below (cases_eq g h);
  within = λ g below. within_is g below (cases_eq g h);
}
  where
    as_before : (g : ℕ) → g < length after.harts.items → g < length before.harts.items
    as_before g below = omega (arith, below, ap length parts, length-set before.harts.items h part)

    part_here : open_at after h ≡ part
    part_here = ap (λ (xs : List OpenSteps). slice_index_or xs h nothing_open) parts ∙ get_or-set_same before.harts.items h part nothing_open within

    part_there : (g : ℕ) → g ≢ h → open_at after g ≡ open_at before g
    part_there g ne = ap (λ (xs : List OpenSteps). slice_index_or xs g nothing_open) parts ∙ get_or-set_other before.harts.items h g part nothing_open ne

    each_is : (g : ℕ) → g < length after.harts.items → (g ≡ h) ⊎ (g ≡ h → ⊥) →
        own_steps g t.pending ≡ each_step g (steps_of after.stores.items g (open_at after g))
    each_is g below (inl same) =
        let here : own_steps h t.pending ≡ each_step h (steps_of after.stores.items h (open_at after h)) =
        is ∙ ap (λ (o : OpenSteps). each_step h (steps_of after.stores.items h o)) (sym part_here) in
        let P : ℕ → Type 0 = λ k. own_steps k t.pending ≡ each_step k (steps_of after.stores.items k (open_at after k)) in
        subst P (sym same) here
    each_is g below (inr ne) =
        others_own g ne ∙ stands.each g (as_before g below)
        ∙ ap (each_step g) (sym (others g ne (as_before g below)) ∙ ap (steps_of after.stores.items g) (sym (part_there g ne)))

    some_is : (g : ℕ) → g < length after.harts.items → (g ≡ h) ⊎ (g ≡ h → ⊥) → AllBindSome (bound_at after g)
    some_is g below (inl same) =
        subst (λ (k : ℕ). AllBindSome (bound_at after k)) (sym same)
        (subst (λ (o : OpenSteps). AllBindSome (bound_in (drop o.first after.stores.items) h)) (sym part_here) some)
    some_is g below (inr ne) =
        subst (λ (o : OpenSteps). AllBindSome (bound_in (drop o.first after.stores.items) g)) (sym (part_there g ne))
        (subst (λ (x : HartSteps). AllBindSome x.bound) (sym (others g ne (as_before g below))) (stands.some g (as_before g below)))

    within_is : (g : ℕ) → g < length after.harts.items → (g ≡ h) ⊎ (g ≡ h → ⊥) → (open_at after g).first ≤ length after.stores.items
    within_is g below (inl same) =
        let P : ℕ → Type 0 = λ k. (open_at after k).first ≤ length after.stores.items in
        subst P (sym same) (rw part_here first)
    within_is g below (inr ne) = rw (part_there g ne) (omega (arith, stands.within g (as_before g below), grown))

-- ---- What the account does

-- the hart's steps that are free are bound to a store
pub bound-stands : (before after : Account) (s : Steps) (h position free first : ℕ) → AccountInv before s → h < length before.harts.items
    → open_at before h ≡ record { free = free; first = first } → 0 < free
    → after.kept.items ≡ before.kept.items → after.stores.items ≡ before.stores.items ++ record { hart = h; position = position; steps = free } ∷ []
    → after.harts.items ≡ slice_set before.harts.items h (record { free = 0; first = first })
    → AccountInv after (with_stored h position s)
bound-stands before after s h position free first stands within was some_free kept stores parts =
    updated before after s (with_stored h position s) h (record { free = 0; first = first })
    stands within (stands.kept ∙ sym kept) parts is some first_within grown (λ g ne. other_stored h g position s.pending ne) others
  where
    store : PointStore
    store = record { hart = h; position = position; steps = free }

    had_bound : List Bound
    had_bound = bound_in (drop first before.stores.items) h

    had : own_steps h s.pending ≡ each_step h (record { bound = had_bound; free = free })
    had = stands.each h within ∙ ap (λ (o : OpenSteps). each_step h (steps_of before.stores.items h o)) was

    first_before : first ≤ length before.stores.items
    first_before = subst (λ (o : OpenSteps). o.first ≤ length before.stores.items) was (stands.within h within)

    grown : length before.stores.items ≤ length after.stores.items
    grown = omega (arith, ap length stores, length-append before.stores.items (store ∷ []))

    first_within : first ≤ length after.stores.items
    first_within = omega (arith, first_before, grown)

    new_bound : bound_in (drop first after.stores.items) h ≡ had_bound ++ bound_of store ∷ []
    new_bound =
        ap (λ (xs : List PointStore). bound_in (drop first xs) h) stores ∙ bound_push before.stores.items store first h first_before
        ∙ ap (λ (bs : List Bound). had_bound ++ bs) (bound_yes store [] h refl)

    is : own_steps h (with_stored h position s).pending ≡ each_step h (steps_of after.stores.items h (record { free = 0; first = first }))
    is =
        own_stored h position s.pending ∙ ap (map (filled position)) had ∙ each_stored h position (record { bound = had_bound; free = free })
        ∙ ap (λ (bs : List Bound). each_step h (record { bound = bs; free = 0 })) (sym new_bound)

    some : AllBindSome (bound_in (drop first after.stores.items) h)
    some =
        subst AllBindSome (sym new_bound) (some_push had_bound (bound_of store)
        (subst (λ (o : OpenSteps). AllBindSome (bound_in (drop o.first before.stores.items) h)) was (stands.some h within)) some_free)

    others : (g : ℕ) → g ≢ h → g < length before.harts.items →
        steps_of after.stores.items g (open_at before g) ≡ steps_of before.stores.items g (open_at before g)
    others g ne below =
        let same : bound_in (drop (open_at before g).first after.stores.items) g ≡ bound_in (drop (open_at before g).first before.stores.items) g =
        ap (λ (xs : List PointStore). bound_in (drop (open_at before g).first xs) g) stores
        ∙ bound_push before.stores.items store (open_at before g).first g (stands.within g below)
        ∙ ap (λ (bs : List Bound). bound_in (drop (open_at before g).first before.stores.items) g ++ bs) (bound_no store [] g (λ e. ne (sym e)))
        ∙ append-nil (bound_in (drop (open_at before g).first before.stores.items) g) in
        ap (λ (bs : List Bound). record { bound = bs; free = (open_at before g).free }) same

-- where none are free a store binds none
pub unbound-stands : (account : Account) (s : Steps) (h position : ℕ) → AccountInv account s → h < length account.harts.items → (open_at account h).free ≡ 0 →
    AccountInv account (with_stored h position s)
unbound-stands account s h position stands within none = record {
  kept = stands.kept;
  each = λ g below. by g below (cases_eq g h);
  some = stands.some;
  within = stands.within;
}
  where
    by : (g : ℕ) → g < length account.harts.items → (g ≡ h) ⊎ (g ≡ h → ⊥) →
        own_steps g (with_stored h position s).pending ≡ each_step g (steps_of account.stores.items g (open_at account g))
    by g below (inl same) =
        let P : ℕ → Type 0 = λ k. own_steps k (with_stored h position s).pending ≡ each_step k (steps_of account.stores.items k (open_at account k)) in
        let x : HartSteps = steps_of account.stores.items h (open_at account h) in
        subst P (sym same) (own_stored h position s.pending ∙ ap (map (filled position)) (stands.each h within) ∙ each_unstored h position x none)
    by g below (inr ne) = other_stored h g position s.pending ne ∙ stands.each g below

-- the durable ones among them are kept
pub kept-stands : (before after : Account) (log : Log) (words : List Word) (s : Steps) (h durable free first was_first count : ℕ) → AccountInv before s →
    h < length before.harts.items
    → durable ≡ (word_at words (point_word log h)).durable
    → open_at before h ≡ record { free = free; first = was_first }
    → after.kept.items ≡ before.kept.items ++ replicate count h → after.stores.items ≡ before.stores.items
    → after.harts.items ≡ slice_set before.harts.items h (record { free = free; first = first })
    → count ≡ durable_steps durable (bound_in (drop was_first before.stores.items) h)
    → bound_in (drop first before.stores.items) h ≡ later durable (bound_in (drop was_first before.stores.items) h) → first ≤ length before.stores.items
    → AccountInv after (with_kept log words h s)
kept-stands before after log words s h durable free first was_first count stands within durable_is was kept stores parts counted rest first_within =
    updated before after s (with_kept log words h s) h (record { free = free; first = first })
    stands within kept_is parts is some (subst (λ (xs : List PointStore). first ≤ length xs) (sym stores) first_within) (omega (arith, ap length stores))
    (λ g ne. other_left h g d s.pending ne) others
  where
    d : ℕ
    d = (word_at words (point_word log h)).durable

    had_bound : List Bound
    had_bound = bound_in (drop was_first before.stores.items) h

    x : HartSteps
    x = record { bound = had_bound; free = free }

    had : own_steps h s.pending ≡ each_step h x
    had = stands.each h within ∙ ap (λ (o : OpenSteps). each_step h (steps_of before.stores.items h o)) was

    count_is : length (filter (is_durable h d) s.pending) ≡ count
    count_is =
        ap length (sym (own_durable h d s.pending) ∙ ap (filter (is_durable h d)) had) ∙ each_count h d x
        ∙ ap (λ (k : ℕ). durable_steps k had_bound) (sym durable_is) ∙ sym counted

    earlier : List ℕ
    earlier = flat_map (λ steps. steps) s.earlier

    kept_is : earlier ++ (s.kept ++ harts_of (filter (is_durable h d) s.pending)) ≡ after.kept.items
    kept_is =
        ap (λ (us : List ℕ). earlier ++ (s.kept ++ us)) (kept_harts h d s.pending ∙ ap (λ (n : ℕ). replicate n h) count_is)
        ∙ sym (append_assoc earlier s.kept (replicate count h))
        ∙ ap (λ (ks : List ℕ). ks ++ replicate count h) stands.kept ∙ sym kept

    rest_is : later d had_bound ≡ bound_in (drop first after.stores.items) h
    rest_is =
        ap (λ (k : ℕ). later k had_bound) (sym durable_is) ∙ sym rest ∙ sym (ap (λ (xs : List PointStore). bound_in (drop first xs) h) stores)

    is : own_steps h (with_kept log words h s).pending ≡ each_step h (steps_of after.stores.items h (record { free = free; first = first }))
    is =
        own_left h d s.pending ∙ ap (filter (left h d)) had ∙ each_left h d x
        ∙ ap (λ (bs : List Bound). each_step h (record { bound = bs; free = free })) rest_is

    some : AllBindSome (bound_in (drop first after.stores.items) h)
    some =
        subst AllBindSome rest_is (some_later d had_bound
        (subst (λ (o : OpenSteps). AllBindSome (bound_in (drop o.first before.stores.items) h)) was (stands.some h within)))

    others : (g : ℕ) → g ≢ h → g < length before.harts.items →
        steps_of after.stores.items g (open_at before g) ≡ steps_of before.stores.items g (open_at before g)
    others g ne below = ap (λ (xs : List PointStore). steps_of xs g (open_at before g)) stores

-- one of the places of a list is what is found there, whatever stands elsewhere
pub found : {X : Type 0} (xs : List X) (i : ℕ) (d e : X) → i < length xs → get_or xs i d ≡ get_or xs i e
found [] i d e within = absurd (omega arith)
found (x ∷ xs) zero d e within = refl
found (x ∷ xs) (suc i) d e within = found xs i d e (omega arith)

-- What is gathered of a run for its report: threads, ended sections, and the elements of each variable.
use Rattle.std.proofs.Common.{◌≡◌, refl, ℕ, zero, suc, ◌+◌, ◌-◌, ◌^◌, ◌<◌, ◌≤◌, min, List, [], ◌∷◌, ◌++◌, length, map, take, drop, sym, ◌∙◌}
use Rattle.std.proofs.Common.{ap, ap₂, Bool, true, false, Option, Some, None, ℤ, arith, flat_map, filter, not, ◌&&◌, append_assoc, ⊎_elim}
use Rattle.std.specs.Prelude.{if◌then◌else◌, sum_by}
use Rattle.std.proofs.lemmas.Bool.{cases_lt}
use Rattle.std.proofs.lemmas.List.{append-nil, drop_all, length-map, take_all}
use Rattle.std.proofs.lemmas.List.Sums.{sum_by-cons}
use Rattle.log_schemes.specs.Schemes.{numbers_from}
use Rattle.c_tree.specs.Flats as f
use Rattle.c_tree.specs.Programs as p
use Rattle.c_tree.specs.Source as m
use Rattle.c_tree.specs.Source.{source_step}
use Rattle.source_machine.specs.Lives.{LifeSizesStay, after_lives, ended_lives, ends_life, restart}
use Rattle.run_scripts.specs.Reports as r
use Rattle.ido_cli.specs.Runs.{counted, named, run_state, taken, unsettled_threads, variable_with}

-- ---- Ended sections

abbrev ended_by : m.State → List ℕ → (thread : ℕ) → Option m.State → ℕ
ended_by s ts thread o = elim o [
  | None ↦ 0
  | Some next ↦ m.ends_section s next thread + m.ended_from next ts thread
]

at_most_one : (b : Bool) → (let n : ℕ = if b then 1 else 0 in n ≤ 1)
at_most_one true = omega arith
at_most_one false = omega arith

few_by : (s : m.State) (ts : List ℕ) (thread : ℕ) (o : Option m.State) → ((next : m.State) → m.ended_from next ts thread ≤ length ts) →
    ended_by s ts thread o ≤ suc (length ts)
few_by s ts thread None more = omega arith
few_by s ts thread (Some next) more =
    let one = at_most_one (not (m.is_between s thread) && m.is_between next thread) in
    let rest = more next in
    omega (arith, one, rest)

ended_few : (s : m.State) (ts : List ℕ) (thread : ℕ) → m.ended_from s ts thread ≤ length ts
ended_few s [] thread = omega arith
ended_few s (t ∷ ts) thread = few_by s ts thread (source_step s t) (λ next. ended_few next ts thread)

-- over all lives no more than there are steps
ended_few_lives : (x : f.Flat) (s : m.State) (lives : List (List ℕ)) (thread : ℕ) → ended_lives x s lives thread ≤ sum_by length lives
ended_few_lives x s [] thread = omega arith
ended_few_lives x s (life ∷ []) thread = let few = ended_few s life thread in let sum = sum_by-cons length life [] in omega (arith, few, sum)
ended_few_lives x s (life ∷ next ∷ rest) thread =
    by (ends_life s life) (ended_few_lives x (restart x (m.after_from s life)) (next ∷ rest) thread)
  where
    t : m.State
    t = restart x (m.after_from s life)

    by : (b : Bool) → ended_lives x t (next ∷ rest) thread ≤ sum_by length (next ∷ rest) →
        m.ended_from s life thread + (if b then ended_lives x t (next ∷ rest) thread else 0) ≤ sum_by length (life ∷ next ∷ rest)
    by true more =
        let few = ended_few s life thread in
        let sum = sum_by-cons length life (next ∷ rest) in
        omega (arith, few, more, sum)
    by false more =
        let few = ended_few s life thread in
        let sum = sum_by-cons length life (next ∷ rest) in
        omega (arith, few, sum)

pub counted_is : (ended : ℕ → ℕ) (at n : ℕ) → ((t : ℕ) → ended t ≤ 2 ^ 64 - 1) →
    map (λ t. min (ended t) (2 ^ 64 - 1)) (numbers_from at n) ≡ map ended (numbers_from at n)
counted_is ended at zero few = refl
counted_is ended at (suc n) few = let one : min (ended at) (2 ^ 64 - 1) ≡ ended at = let h = few at in omega (arith, h) in
    ap₂ (λ (x : ℕ) (xs : List ℕ). x ∷ xs) one (counted_is ended (at + 1) n few)

-- ---- Going through numbers

numbers_more : (k n : ℕ) → k < n → numbers_from k (n - k) ≡ k ∷ numbers_from (k + 1) (n - (k + 1))
numbers_more k n h = ap (numbers_from k) (let e : n - k ≡ suc (n - (k + 1)) = omega (arith, h) in e)

numbers_end : (k n : ℕ) → n ≤ k → numbers_from k (n - k) ≡ []
numbers_end k n h = ap (numbers_from k) (let e : n - k ≡ 0 = omega (arith, h) in e)

pub chosen : (p : ℕ → Bool) (k : ℕ) (ks : List ℕ) → p k ≡ true → filter p (k ∷ ks) ≡ k ∷ filter p ks
chosen p k ks e = rw (filter, e) refl

pub left_out : (p : ℕ → Bool) (k : ℕ) (ks : List ℕ) → p k ≡ false → filter p (k ∷ ks) ≡ filter p ks
left_out p k ks e = rw (filter, e) refl

pub filter_pushed : (p : ℕ → Bool) (xs ys new : List ℕ) (n k : ℕ) → k < n → p k ≡ true → new ≡ xs ++ k ∷ [] → xs ++ filter p (numbers_from k (n - k)) ≡ ys →
    new ++ filter p (numbers_from (k + 1) (n - (k + 1))) ≡ ys
filter_pushed p xs ys new n k h e is so_far =
    let rest = filter p (numbers_from (k + 1) (n - (k + 1))) in
    ap (λ zs. zs ++ rest) is ∙ append_assoc xs (k ∷ []) rest
    ∙ ap (λ zs. xs ++ zs) (sym (chosen p k (numbers_from (k + 1) (n - (k + 1))) e) ∙ ap (filter p) (sym (numbers_more k n h))) ∙ so_far

pub filter_passed : (p : ℕ → Bool) (xs ys new : List ℕ) (n k : ℕ) → k < n → p k ≡ false → new ≡ xs → xs ++ filter p (numbers_from k (n - k)) ≡ ys →
    new ++ filter p (numbers_from (k + 1) (n - (k + 1))) ≡ ys
filter_passed p xs ys new n k h e is so_far =
    ap (λ zs. zs ++ filter p (numbers_from (k + 1) (n - (k + 1)))) is
    ∙ ap (λ zs. xs ++ zs) (sym (left_out p k (numbers_from (k + 1) (n - (k + 1))) e) ∙ ap (filter p) (sym (numbers_more k n h))) ∙ so_far

pub filter_whole : (p : ℕ → Bool) (xs ys : List ℕ) (n k : ℕ) → n ≤ k → xs ++ filter p (numbers_from k (n - k)) ≡ ys → xs ≡ ys
filter_whole p xs ys n k h so_far = sym (append-nil xs) ∙ ap (λ zs. xs ++ filter p zs) (sym (numbers_end k n h)) ∙ so_far

pub map_pushed : (g : ℕ → ℕ) (xs ys new : List ℕ) (n k x : ℕ) → k < n → x ≡ g k → new ≡ xs ++ x ∷ [] → xs ++ map g (numbers_from k (n - k)) ≡ ys →
    new ++ map g (numbers_from (k + 1) (n - (k + 1))) ≡ ys
map_pushed g xs ys new n k x h e is so_far =
    let rest = map g (numbers_from (k + 1) (n - (k + 1))) in
    ap (λ zs. zs ++ rest) is ∙ append_assoc xs (x ∷ []) rest
    ∙ ap (λ zs. xs ++ zs) (ap (λ z. z ∷ rest) e ∙ ap (map g) (sym (numbers_more k n h))) ∙ so_far

-- where functions agree on numbers, so do their values at these
pub same_map : (f g : ℕ → ℕ) (at n : ℕ) → ((k : ℕ) → at ≤ k → k < at + n → f k ≡ g k) → map f (numbers_from at n) ≡ map g (numbers_from at n)
same_map f g at zero same = refl
same_map f g at (suc n) same =
    ap₂ (λ (x : ℕ) (xs : List ℕ). x ∷ xs) (same at (omega arith) (omega arith))
    (same_map f g (at + 1) n (λ k from below. same k (omega (arith, from)) (omega (arith, below))))

-- ---- Elements, one variable after the other

pub take_min : (n : ℕ) (xs : List ℤ) → take (min n (length xs)) xs ≡ take n xs
take_min n xs = ⊎_elim
    (λ l. ap (λ k. take k xs) (let e : min n (length xs) ≡ n = omega (arith, l) in e))
    (λ l. ap (λ k. take k xs) (let e : min n (length xs) ≡ length xs = omega (arith, l) in e) ∙ take_all (length xs) xs (omega arith)
    ∙ sym (take_all n xs (omega (arith, l))))
    (cases_lt n (length xs))

pub drop_min : (n : ℕ) (xs : List ℤ) → drop (min n (length xs)) xs ≡ drop n xs
drop_min n xs = ⊎_elim
    (λ l. ap (λ k. drop k xs) (let e : min n (length xs) ≡ n = omega (arith, l) in e))
    (λ l. ap (λ k. drop k xs) (let e : min n (length xs) ≡ length xs = omega (arith, l) in e) ∙ drop_all (length xs) xs (omega arith)
    ∙ sym (drop_all n xs (omega (arith, l))))
    (cases_lt n (length xs))

take_prefix : (xs ys : List ℤ) (n : ℕ) → length xs ≡ n → take n (xs ++ ys) ≡ xs
take_prefix [] ys zero e = refl
take_prefix [] ys (suc n) e = absurd (omega (arith, e))
take_prefix (x ∷ xs) ys zero e = absurd (omega (arith, e))
take_prefix (x ∷ xs) ys (suc n) e = ap (λ (zs : List ℤ). x ∷ zs) (take_prefix xs ys n (omega (arith, e)))

drop_prefix : (xs ys : List ℤ) (n : ℕ) → length xs ≡ n → drop n (xs ++ ys) ≡ ys
drop_prefix [] ys zero e = refl
drop_prefix [] ys (suc n) e = absurd (omega (arith, e))
drop_prefix (x ∷ xs) ys zero e = absurd (omega (arith, e))
drop_prefix (x ∷ xs) ys (suc n) e = drop_prefix xs ys n (omega (arith, e))

head_same : (a b : ℕ) (xs ys : List ℕ) → a ∷ xs ≡ b ∷ ys → a ≡ b
head_same a b xs ys h = cc

tail_same : (a b : ℕ) (xs ys : List ℕ) → a ∷ xs ≡ b ∷ ys → xs ≡ ys
tail_same a b xs ys h = cc

taken_is : (vs : List p.Variable) (numbers : List (List ℤ)) → map length numbers ≡ map (λ (v : p.Variable). length v.initial) vs →
    taken vs (flat_map (λ ns. ns) numbers) ≡ named vs numbers
taken_is [] numbers e = refl
taken_is (v ∷ vs) [] e = absurd (cc e)
taken_is (v ∷ vs) (ns ∷ numbers) e =
    let one = head_same _ _ _ _ e in
    ap₂ (λ (x : List ℤ) (xs : List r.Variable). variable_with v x ∷ xs)
    (take_prefix ns (flat_map (λ (ms : List ℤ). ms) numbers) (length v.initial) one)
    (ap (taken vs) (drop_prefix ns (flat_map (λ (ms : List ℤ). ms) numbers) (length v.initial) one) ∙ taken_is vs numbers (tail_same _ _ _ _ e))

-- ---- The state that is reported

pub ended_is : LifeSizesStay → (x : f.Flat) (lives : List (List ℕ)) → sum_by length lives ≤ 2 ^ 64 - 1 →
    counted (λ t. 0 + ended_lives x (m.start x) lives t) (length (after_lives x (m.start x) lives).threads)
    ≡ map (ended_lives x (m.start x) lives) (numbers_from 0 (length x.threads))
ended_is stay x lives short =
    let threads = (stay x (m.start x) lives (length-map x.threads m.thread_start)).0 in
    ap (counted (λ t. 0 + ended_lives x (m.start x) lives t)) threads ∙ plain_from 0 (length x.threads)
    ∙ counted_is (λ t. ended_lives x (m.start x) lives t) 0 (length x.threads)
    (λ t. let h = ended_few_lives x (m.start x) lives t in omega (arith, h, short))
  where
    plain_from : (at n : ℕ) → map (λ t. min (0 + ended_lives x (m.start x) lives t) (2 ^ 64 - 1)) (numbers_from at n)
        ≡ map (λ t. min (ended_lives x (m.start x) lives t) (2 ^ 64 - 1)) (numbers_from at n)
    plain_from at zero = refl
    plain_from at (suc n) =
        let one : min (0 + ended_lives x (m.start x) lives at) (2 ^ 64 - 1) ≡ min (ended_lives x (m.start x) lives at) (2 ^ 64 - 1) =
        ap (λ (k : ℕ). min k (2 ^ 64 - 1)) (let e : 0 + ended_lives x (m.start x) lives at ≡ ended_lives x (m.start x) lives at = omega arith in e) in
        ap₂ (λ (y : ℕ) (ys : List ℕ). y ∷ ys) one (plain_from (at + 1) n)

pub reported_is : LifeSizesStay → (x : f.Flat) (lives : List (List ℕ)) (unsettled ended : List ℕ) (variables : List r.Variable) →
    unsettled ≡ unsettled_threads (after_lives x (m.start x) lives) →
    variables ≡ taken x.variables (flat_map (λ ns. ns) (after_lives x (m.start x) lives).variables) →
    ended ≡ counted (λ t. 0 + ended_lives x (m.start x) lives t) (length (after_lives x (m.start x) lives).threads) →
    sum_by length lives ≤ 2 ^ 64 - 1 →
    (let s : r.ReportedState = record { unsettled = unsettled; variables = variables; ended = ended; schedules = lives } in s) ≡ run_state x lives
unfolding run_state
reported_is stay x lives unsettled ended variables u v e short =
    let after = after_lives x (m.start x) lives in
    let same = stay x (m.start x) lives (length-map x.threads m.thread_start) in
    let starts : map length (m.start x).variables ≡ map (λ (y : p.Variable). length y.initial) x.variables = map-map x.variables in
    let variables_are = v ∙ taken_is x.variables after.variables (same.1 ∙ starts) in
    let ended_are = e ∙ ended_is stay x lives short in
    ap₂ (λ (us : List ℕ) (vs : List r.Variable). let s : r.ReportedState =
    record { unsettled = us; variables = vs; ended = ended; schedules = lives } in
    s) u variables_are
    ∙ ap (λ (es : List ℕ). let s : r.ReportedState =
    record { unsettled = unsettled_threads after; variables = named x.variables after.variables; ended = es; schedules = lives } in s) ended_are
  where
    map-map : (vs : List p.Variable) → map length (map (λ (y : p.Variable). y.initial) vs) ≡ map (λ (y : p.Variable). length y.initial) vs
    map-map [] = refl
    map-map (y ∷ ys) = ap (λ (ns : List ℕ). length y.initial ∷ ns) (map-map ys)

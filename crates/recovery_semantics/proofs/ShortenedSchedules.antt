-- Schedules without a thread's first steps, and those of one thread alone.
use Rattle.std.proofs.Common.{◌≡◌, ◌≢◌, refl, ℕ, zero, suc, ◌==◌, List, [], ◌∷◌, ◌++◌, replicate, sym, ◌∙◌, ap, arith, Bool, if◌then◌else◌}
use Rattle.c_tree.specs.Source as m
use Rattle.source_machine.specs.StepExchanges.{steps_of, without_first, without, TransfersLock}
use Rattle.recovery_semantics.proofs.Schedules.{equal_is, unequal_of}

abbrev count_by : Bool → ℕ → ℕ
count_by b n = if b then suc n else n

-- ---- The thread's own

fewer_by : (t : ℕ) (b : Bool) (u : ℕ) (us : List ℕ) (n : ℕ) → (u == t) ≡ b → steps_of t (u ∷ us) ≡ suc n →
    (steps_of t us ≡ suc n → steps_of t (without_first t us) ≡ n) → steps_of t (without_first t (u ∷ us)) ≡ n
fewer_by t b u us n h5 h6 h7 = grind (arith)

one_fewer : (t : ℕ) (us : List ℕ) (n : ℕ) → steps_of t us ≡ suc n → steps_of t (without_first t us) ≡ n
one_fewer t [] n c = cc
one_fewer t (u ∷ us) n c = fewer_by t (u == t) u us n refl c (one_fewer t us n)

pub none_left : (t n : ℕ) (us : List ℕ) → steps_of t us ≡ n → steps_of t (without n t us) ≡ 0
none_left t zero us c = c
none_left t (suc n) us c = none_left t n (without_first t us) (one_fewer t us n c)

-- ---- Another thread's

others_by : (t k : ℕ) (b : Bool) (u : ℕ) (us : List ℕ) → k ≢ t → (u == t) ≡ b → steps_of k (without_first t us) ≡ steps_of k us →
    steps_of k (without_first t (u ∷ us)) ≡ steps_of k (u ∷ us)
others_by t k b u us h5 h6 h7 = grind (arith, equal_is, unequal_of)

others_first : (t k : ℕ) (us : List ℕ) → k ≢ t → steps_of k (without_first t us) ≡ steps_of k us
others_first t k [] n = refl
others_first t k (u ∷ us) n = others_by t k (u == t) u us n refl (others_first t k us n)

pub others_left : (t k n : ℕ) (us : List ℕ) → k ≢ t → steps_of k (without n t us) ≡ steps_of k us
others_left t k zero us n = refl
others_left t k (suc c) us n = others_left t k c (without_first t us) n ∙ others_first t k us n

pub none_of_other : (t k n : ℕ) → k ≢ t → steps_of k (replicate n t) ≡ 0
none_of_other t k zero n = refl
none_of_other t k (suc c) n = ap (λ (b : Bool). count_by b (steps_of k (replicate c t))) (unequal_of t k (λ e. n (sym e))) ∙ none_of_other t k c n

-- ---- One thread alone

assoc : (xs ys zs : List ℕ) → (xs ++ ys) ++ zs ≡ xs ++ (ys ++ zs)
assoc [] ys zs = refl
assoc (x ∷ xs) ys zs = ap (λ (ks : List ℕ). x ∷ ks) (assoc xs ys zs)

in_alone : (n t : ℕ) (before : List ℕ) (u : ℕ) (rest : List ℕ) → replicate n t ≡ before ++ u ∷ rest → u ≡ t
in_alone zero t [] u rest e = cc
in_alone zero t (v ∷ before) u rest e = cc
in_alone (suc n) t [] u rest e = cc
in_alone (suc n) t (v ∷ before) u rest e = let more : replicate n t ≡ before ++ u ∷ rest = cc in in_alone n t before u rest more

pub alone_no_hands : (s : m.State) (n t : ℕ) → ¬ (TransfersLock s (replicate n t))
alone_no_hands s n t c = grind (arith, assoc, in_alone)

-- a thread's last step, counted with those before it
pub last_first : (n t : ℕ) (us : List ℕ) → replicate n t ++ t ∷ us ≡ replicate (suc n) t ++ us
last_first zero t us = refl
last_first (suc n) t us = ap (λ (ks : List ℕ). t ∷ ks) (last_first n t us)

pub more_empty : (us : List ℕ) → us ++ [] ≡ us
more_empty [] = refl
more_empty (u ∷ us) = ap (λ (ks : List ℕ). u ∷ ks) (more_empty us)

pub join : (before between more : List ℕ) (giver taker : ℕ) → before ++ (giver ∷ between ++ taker ∷ more) ≡ (before ++ giver ∷ between) ++ taker ∷ more
join before between more giver taker = sym (assoc before (giver ∷ between) (taker ∷ more))

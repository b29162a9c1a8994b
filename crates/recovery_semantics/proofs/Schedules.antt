-- Schedules with one step more, and what an attempt says of its thread.
use Rattle.std.proofs.Common.{◌≡◌, ◌≢◌, ◌⊎◌, ℕ, suc, ◌≤◌, ◌==◌, List, [], ◌∷◌, ◌++◌, sym, ap, subst, arith, Bool, true, false, Some, slice_get, if◌then◌else◌}
use Rattle.std.proofs.lemmas.Bool.Decides.{nat_tests}
use Rattle.c_tree.specs.Flats as f
use Rattle.c_tree.specs.Source as m
use Rattle.c_tree.specs.Source.{source_step}
use Rattle.source_machine.specs.StepExchanges.{steps_of, IsSameTo}
use Rattle.source_machine.proofs.Public.{after_by, runs_by, after_appended, runs_appended, solo as solo_law}
use Rattle.recovery_semantics.specs.ElementHistories.{Memory}
use Rattle.recovery_semantics.specs.Attempts.{Attempt, attempt_at, solo, IsInner, PassesMutex}
use Rattle.recovery_semantics.specs.Configs.{Config, now, attempt_of, IsTried, Invariant}
use Rattle.recovery_semantics.specs.Events.{IsGoing}

pub equal_is : (u t : ℕ) → (u == t) ≡ true → u ≡ t
equal_is u t h = grind (arith, nat_tests, h)

pub equal_self : (t : ℕ) → (t == t) ≡ true
equal_self t = grind (arith, nat_tests)

pub unequal_of : (u t : ℕ) → u ≢ t → (u == t) ≡ false
unequal_of u t n = grind (arith, nat_tests, n)

abbrev count_by : Bool → ℕ → ℕ
count_by b n = if b then suc n else n

pub counted_own : (t : ℕ) (us : List ℕ) → steps_of t (us ++ t ∷ []) ≡ suc (steps_of t us)
counted_own t [] = ap (λ (b : Bool). count_by b 0) (equal_self t)
counted_own t (u ∷ us) = first (u == t) (steps_of t (us ++ t ∷ [])) (steps_of t us) (counted_own t us)
  where
    first : (b : Bool) (k n : ℕ) → k ≡ suc n → count_by b k ≡ suc (count_by b n)
    first true k n e = ap suc e
    first false k n e = e

pub counted_other : (t u : ℕ) (us : List ℕ) → t ≢ u → steps_of u (us ++ t ∷ []) ≡ steps_of u us
counted_other t u [] n = ap (λ (b : Bool). count_by b 0) (unequal_of t u n)
counted_other t u (w ∷ us) n = ap (λ (c : ℕ). count_by (w == u) c) (counted_other t u us n)

-- ---- One step more

pub runs_more : (s next : m.State) (us : List ℕ) (t : ℕ) → m.runs_from s us ≡ true → source_step (m.after_from s us) t ≡ Some next →
    m.runs_from s (us ++ t ∷ []) ≡ true
runs_more s next us t runs h = grind (arith, runs_appended, runs_by)

pub after_more : (s next : m.State) (us : List ℕ) (t : ℕ) → m.runs_from s us ≡ true → source_step (m.after_from s us) t ≡ Some next →
    m.after_from s (us ++ t ∷ []) ≡ next
after_more s next us t runs h = grind (arith, after_appended, after_by)

-- ---- What an attempt says

pub same_back : (x : f.Flat) (a b : m.State) (t : ℕ) → ((v : ℕ) → slice_get a.holders v ≡ Some (Some t) → slice_get b.holders v ≡ Some (Some t)) →
    ((v : ℕ) → slice_get b.holders v ≡ Some (Some t) → slice_get a.holders v ≡ Some (Some t)) → IsSameTo x a b t → IsSameTo x b a t
same_back x a b t to_b to_a i = record { own = sym i.own; held = sym i.held; guarded = λ v e g. sym (i.guarded v e (to_a _ g)) }

abbrev pub BegunBy : m.State → List ℕ → (thread : ℕ) → Attempt → Type 0
BegunBy kept pending t a = (steps_of t pending ≡ a.done) ⊎ ((steps_of t pending ≡ suc a.done) × ((mutex : ℕ) × PassesMutex (solo kept t a.done) t mutex))

pub tried_of : (next : Config) (u : ℕ) (b : Attempt) → attempt_of next u ≡ b → b.done ≤ b.longest → IsInner next.kept u b.longest →
    BegunBy next.kept next.uncommitted u b → IsTried next u
tried_of next u b h3 h4 h5 h6 = grind (arith)

-- as many steps of a thread with the same attempt
pub tried_same : (old : Config) (pending : List ℕ) (memory : Memory) (attempts : List Attempt) (u : ℕ) → attempt_at attempts u ≡ attempt_of old u →
    steps_of u pending ≡ steps_of u old.uncommitted → IsTried old u →
    IsTried (record { kept = old.kept; uncommitted = pending; memory = memory; attempts = attempts }) u
tried_same old pending memory attempts u e count i = grind (arith, tried_of)

-- a thread that goes on is what its inner steps alone give
pub alone : (x : f.Flat) (old : Config) (t : ℕ) → Invariant x old → IsGoing old t → IsSameTo x (now old) (solo old.kept t (attempt_of old t).done) t
alone x old t i going =
    let s = solo_law x old.kept old.uncommitted t i.keeps i.runs i.hands in
    subst (λ (n : ℕ). IsSameTo x (now old) (solo old.kept t n) t) going s.same

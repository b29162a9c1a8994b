-- A thread's last step in a schedule, where that unlocks a mutex.
use Rattle.std.proofs.Common.{◌≡◌, refl, ℕ, zero, suc, ◌==◌, List, [], ◌∷◌, ◌++◌, replicate, append_assoc, sym, ◌∙◌, ap, subst, arith, Bool, true, false, Some}
use Rattle.std.specs.Prelude.{if◌then◌else◌}
use Rattle.c_tree.specs.Source as m
use Rattle.source_machine.specs.Mutexes.{unlocks}
use Rattle.source_machine.specs.StepExchanges.{steps_of, TransfersLock}
use Rattle.source_machine.proofs.Public.{goes_on, unlocks_same, solo as solo_law}
use Rattle.recovery_semantics.specs.Attempts.{solo}
use Rattle.recovery_semantics.specs.Configs.{attempt_of}
use Rattle.recovery_semantics.specs.Laws.{LastUnlocks, UnlockedIsLast}
use Rattle.recovery_semantics.proofs.Schedules.{equal_is}
use Rattle.recovery_semantics.proofs.ShortenedSchedules.{last_first, more_empty}
use Rattle.recovery_semantics.proofs.CommitsKeepInvariant.{prefix_runs}
use Rattle.recovery_semantics.proofs.UncommittedReleases.{prefix_hands}

abbrev count_by : Bool → ℕ → ℕ
count_by b n = if b then suc n else n

-- ---- Counts

none_both : (t : ℕ) (us vs : List ℕ) → steps_of t us ≡ 0 → steps_of t vs ≡ 0 → steps_of t (us ++ vs) ≡ 0
none_both t [] vs none also = also
none_both t (u ∷ us) vs none also = by (u == t) (steps_of t us) (steps_of t (us ++ vs)) none (λ e. none_both t us vs e also)
  where
    by : (b : Bool) (k n : ℕ) → count_by b k ≡ 0 → (k ≡ 0 → n ≡ 0) → count_by b n ≡ 0
    by true k n e more = cc
    by false k n e more = more e

-- ---- The last of some steps

record Last (t : ℕ) (us : List ℕ) (n : ℕ) : Type 0 where
  before : List ℕ
  after : List ℕ
  parts : us ≡ before ++ t ∷ after
  count : steps_of t before ≡ n
  none_after : steps_of t after ≡ 0

last_by : (t : ℕ) (b : Bool) (k u : ℕ) (us : List ℕ) (n : ℕ) → (u == t) ≡ b → steps_of t us ≡ k → count_by b k ≡ suc n →
    ((j : ℕ) → steps_of t us ≡ suc j → Last t us j) → Last t (u ∷ us) n
last_by t true zero u us n same rest count more = record {
  before = [];
  after = us;
  parts = ap (λ (j : ℕ). j ∷ us) (equal_is u t same);
  count = omega (arith, count);
  none_after = rest;
}
last_by t true (suc k) u us n same rest count more =
    let r = more k rest in
    let more_than : suc k ≡ n = omega (arith, count) in
    record {
      before = u ∷ r.before;
      after = r.after;
      parts = ap (λ (ks : List ℕ). u ∷ ks) r.parts;
      count = ap (λ (b : Bool). count_by b (steps_of t r.before)) same ∙ (ap suc r.count ∙ more_than);
      none_after = r.none_after;
    }
last_by t false k u us n same rest count more =
    let r = more n (rest ∙ count) in
    record {
      before = u ∷ r.before;
      after = r.after;
      parts = ap (λ (ks : List ℕ). u ∷ ks) r.parts;
      count = ap (λ (b : Bool). count_by b (steps_of t r.before)) same ∙ r.count;
      none_after = r.none_after;
    }

last_of : (t : ℕ) (us : List ℕ) (n : ℕ) → steps_of t us ≡ suc n → Last t us n
last_of t [] n e = cc
last_of t (u ∷ us) n e = last_by t (u == t) (steps_of t us) u us n refl refl e (λ j. last_of t us j)

-- ---- Longer schedules

-- where others step after it
pub last_stays : (s : m.State) (us vs : List ℕ) (t mutex : ℕ) → steps_of t vs ≡ 0 → LastUnlocks s us t mutex → LastUnlocks s (us ++ vs) t mutex
last_stays s us vs t mutex h5 h6 = grind (arith, append_assoc, none_both)

-- after those that lead to its state
pub last_after : (s : m.State) (us vs : List ℕ) (t mutex : ℕ) → m.runs_from s us ≡ true → LastUnlocks (m.after_from s us) vs t mutex →
    LastUnlocks s (us ++ vs) t mutex
last_after s us vs t mutex runs l = record {
  before = us ++ l.before;
  after = l.after;
  parts = ap (λ (ks : List ℕ). us ++ ks) l.parts ∙ sym (append_assoc us l.before (t ∷ l.after));
  none_after = l.none_after;
  unlocks_it = ap (λ (z : m.State). unlocks z t) (goes_on s us l.before runs).after ∙ l.unlocks_it;
}

-- where the schedule ends with it
pub last_now : (s : m.State) (us : List ℕ) (t mutex : ℕ) → unlocks (m.after_from s us) t ≡ Some mutex → LastUnlocks s (us ++ t ∷ []) t mutex
last_now s us t mutex h = record { before = us; after = []; parts = refl; none_after = refl; unlocks_it = h }

-- of a thread alone
pub last_alone : (s : m.State) (t n mutex : ℕ) → unlocks (solo s t n) t ≡ Some mutex → LastUnlocks s (replicate (suc n) t) t mutex
last_alone s t n mutex h = grind (arith, last_first, more_empty, replicate, last_now)

-- ---- The law

pub unlocked_is_last : UnlockedIsLast
unlocked_is_last x old t mutex i h =
    let l = last_of t old.uncommitted (attempt_of old t).done h.begun in
    let runs = prefix_runs old.kept l.before (t ∷ l.after) (ap (m.runs_from old.kept) (sym l.parts) ∙ i.runs) in
    let hands = prefix_hands old.kept l.before (t ∷ l.after) (subst (λ (us : List ℕ). ¬ (TransfersLock old.kept us)) l.parts i.hands) in
    let alone = (solo_law x old.kept l.before t i.keeps runs hands).same in
    record {
      before = l.before;
      after = l.after;
      parts = l.parts;
      none_after = l.none_after;
      unlocks_it = unlocks_same (solo old.kept t (steps_of t l.before)) (m.after_from old.kept l.before) t alone.own
          ∙ (ap (λ (n : ℕ). unlocks (solo old.kept t n) t) l.count ∙ h.unlocks_it);
    }

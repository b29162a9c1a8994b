-- Where an execution begins, memory that persists, a crash: the invariant holds.
use Rattle.std.proofs.Common.{length, ℤ, ◌≡◌, inl, refl, ℕ, zero, suc, ◌<◌, List, [], ◌∷◌, ◌++◌, map, sym, ◌∙◌, ap, subst, arith, pos, slice_index_or}
use Rattle.c_tree.specs.Flats as f
use Rattle.c_tree.specs.Source as m
use Rattle.source_machine.specs.StepExchanges.{TransfersLock}
use Rattle.recovery_semantics.specs.ElementHistories.{History, Memory, IsStable, ArePersisted, history_of, durable_number, live_number, history_at, number_at}
use Rattle.recovery_semantics.specs.ElementHistories.{after_crash, crashed}
use Rattle.recovery_semantics.specs.Attempts.{Attempt, no_attempt, Writes}
use Rattle.recovery_semantics.specs.Configs.{Config, IsTried, IsNeverWritten, IsNotOverrun, Invariant}
use Rattle.recovery_semantics.specs.Events.{IsAgain}
use Rattle.recovery_semantics.specs.Executions.{first_config}
use Rattle.recovery_semantics.specs.Laws.{StartMeets, CrashedAreStable, FreshAreStable}
use Rattle.recovery_semantics.proofs.StableHistories.{stable_of, stable_persisted, live_persisted, stable_crashed, live_stable, durable_stable, crashed_at}
use Rattle.recovery_semantics.proofs.StableHistories.{first_at, index_map, sizes_mapped}
use Rattle.recovery_semantics.proofs.Schedules.{tried_of, tried_same}

no_hands : (s : m.State) → ¬ (TransfersLock s [])
no_hands s c = empty (c.before ++ c.giver ∷ c.between) c.taker c.rest c.is
  where
    empty : (ys : List ℕ) (t : ℕ) (rest : List ℕ) → [] ≡ ys ++ t ∷ rest → ⊥
    empty [] t rest e = cc
    empty (y ∷ ys) t rest e = cc

-- ---- Where an execution begins

pub none_yet : {X : Type 0} (xs : List X) (k : ℕ) → slice_index_or (map (λ (t : X). no_attempt) xs) k no_attempt ≡ no_attempt
none_yet [] k = refl
none_yet (x ∷ xs) zero = refl
none_yet (x ∷ xs) (suc k) = none_yet xs k

pub fresh_are_stable : FreshAreStable
fresh_are_stable s = record {
  size = sizes_mapped history_of s.variables;
  each = λ v e. subst (λ y. IsStable y (number_at s v e)) (sym (first_at s v e)) (stable_of (number_at s v e));
}

-- the durable numbers of the memory
durable_at : (memory : Memory) (v e : ℕ) →
    slice_index_or (slice_index_or (map (map durable_number) memory) v []) e (pos 0) ≡ durable_number (history_at memory v e)
durable_at memory v e =
    ap (λ (ns : List ℤ). slice_index_or ns e (pos 0)) (index_map (map durable_number) memory v [])
    ∙ index_map durable_number (slice_index_or memory v []) e (history_of (pos 0))

pub crashed_are_stable : CrashedAreStable
crashed_are_stable s memory same = record {
  size = sizes_mapped after_crash memory ∙ (sym (sizes_mapped durable_number memory) ∙ ap (λ (ns : List (List ℤ)). map length ns) (sym same));
  each = λ v e.
      let number : number_at s v e ≡ durable_number (history_at memory v e) =
      ap (λ (ns : List (List ℤ)). slice_index_or (slice_index_or ns v []) e (pos 0)) same ∙ durable_at memory v e in
      subst (λ (h : History). IsStable h (number_at s v e)) (sym (crashed_at memory v e))
      (subst (λ (n : ℤ). IsStable (after_crash (history_at memory v e)) n) (sym number) (stable_of (durable_number (history_at memory v e))));
}

pub start_meets : StartMeets
start_meets x from memory keeps stable =
    let first = first_config x from memory in
    record {
      keeps = keeps;
      runs = refl;
      hands = no_hands from;
      tried = λ u. tried_of first u no_attempt (none_yet x.threads u) (omega arith) (λ k l. absurd (omega (arith, l))) (inl refl);
      size = stable.size;
      there = λ v e. (stable.each v e).there;
      durable = λ v e h. stable.each v e;
      live = λ v e h. live_stable (history_at memory v e) (number_at from v e) (stable.each v e);
    }

-- ---- Memory persists

pub persists_keeps : (x : f.Flat) (old : Config) (memory : Memory) → Invariant x old → ArePersisted old.memory memory →
    Invariant x (record { kept = old.kept; uncommitted = old.uncommitted; memory = memory; attempts = old.attempts })
persists_keeps x old memory i r = record {
  keeps = i.keeps;
  runs = i.runs;
  hands = i.hands;
  tried = λ u. tried_same old old.uncommitted memory old.attempts u refl refl (i.tried u);
  size = r.size ∙ i.size;
  there = λ v e. subst (λ (l : List ℤ). (history_at memory v e).durable < length l) (sym (r.each v e).values) ((r.each v e).within (i.there v e));
  durable = λ v e h. stable_persisted (history_at old.memory v e) (history_at memory v e) (number_at old.kept v e) (r.each v e) (i.durable v e h);
  live = λ v e h. live_persisted (history_at old.memory v e) (history_at memory v e) (r.each v e) ∙ i.live v e h;
}

-- ---- A crash

module _ (x : f.Flat) (old : Config) (attempts : List Attempt) (i : Invariant x old) (again : IsAgain old.attempts attempts) where
  abbrev next : Config
  next = record { kept = old.kept; uncommitted = []; memory = crashed old.memory; attempts = attempts }

  tried : (u : ℕ) → IsTried next u
  tried u = grind (arith)

  untouched : (v e : ℕ) → IsNeverWritten next v e → IsNeverWritten old v e
  untouched v e h u w = h u (subst (λ (n : ℕ). Writes old.kept u n v e) (sym (again.longest u)) w)

  -- what an attempt has written the next may come to again
  caught_up : (v e : ℕ) → IsNotOverrun next v e → IsNeverWritten old v e
  caught_up v e h2 = grind (arith)

  pub crash_keeps : Invariant x next
  crash_keeps = record {
    keeps = i.keeps;
    runs = refl;
    hands = no_hands old.kept;
    tried = tried;
    size = sizes_mapped after_crash old.memory ∙ i.size;
    there = λ v e. subst (λ (y : History). y.durable < length y.values) (sym (crashed_at old.memory v e)) (omega arith);
    durable = λ v e h. subst (λ y. IsStable y (number_at old.kept v e)) (sym (crashed_at old.memory v e))
        (stable_crashed (history_at old.memory v e) (number_at old.kept v e) (i.durable v e (untouched v e h)));
    live = λ v e h. ap live_number (crashed_at old.memory v e)
        ∙ durable_stable (history_at old.memory v e) (number_at old.kept v e) (i.durable v e (caught_up v e h));
  }

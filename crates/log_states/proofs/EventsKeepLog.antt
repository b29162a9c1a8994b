-- Every event keeps a log on its way, and between boundaries its record.
use Rattle.std.proofs.lemmas.Bool.{cases_eq}
use Rattle.std.proofs.Common.{◌≡◌, inl, inr, ℕ, ◌/◌, List, [], ◌∷◌, ◌++◌, length, refl, sym, ◌∙◌, subst}
use Rattle.log_schemes.specs.declared.log.Log.{Log}
use Rattle.ido_base.specs.Words.{Word, Entry, word_at, drained, stored}
use Rattle.ido_base.specs.Growth.{AreChanged, ArePersisted, IsPersisted, AreEntries, PersistsThrough}
use Rattle.ido_base.specs.Layout.{byte_number}
use Rattle.ido_base.proofs.Public.{entries_stay, reach_stays, stores_change, write_backs_raise, changed_by_persisted, persisted_refl}
use Rattle.boundary_code.specs.Boundaries.{commit_effects}
use Rattle.log_states.specs.Logs.{Record, AreNamed, IsRecord, IsWord, HasLog, IsUnstored, IsRecorded, log_word}
use Rattle.log_states.specs.Stages.{frame_cleans}
use Rattle.log_states.specs.Stages.{LogConfig, stores_of, cleans_of, Stored, Cleaned, Fenced, Drained, Elsewhere, Stage, Writing, Written, Pointed, PointQueued}
use Rattle.log_states.specs.Stages.{Over, LogIs}
use Rattle.log_states.specs.Laws.{Keeps, Rests, StaysRecorded, BoundaryEnds, StoresElsewhere}
use Rattle.log_states.proofs.Heads.{not_done}
use Rattle.log_states.proofs.KeptRecords.{nothing_is_record}
use Rattle.log_states.proofs.Words.{any_stored, word_beside}
use Rattle.log_states.proofs.UnstoredLogStays.{log_stays, recorded_stays, stage_stays}
use Rattle.log_states.proofs.BoundaryStores.{own_store}
use Rattle.log_states.proofs.BoundaryCleansAndFences.{own_clean, own_fence}

-- ---- What is queued

pub more_entries : (words : List Word) (queue more : List Entry) → AreEntries words queue → AreEntries words more → AreEntries words (queue ++ more)
more_entries words [] more h g = g
more_entries words (e ∷ es) more h g = (h.0, more_entries words es more h.1 g)

-- a move that leaves the log unstored
pub record IsQuiet (log : Log) (thread : ℕ) (named : List ℕ) (m n : LogConfig) : Type 0 where
  pub size : length n.words ≡ length m.words
  pub unstored : IsUnstored log thread named m.words n.words
  pub reach : (j position : ℕ) → PersistsThrough m.words m.queue j position → PersistsThrough n.words n.queue j position
  pub entries : AreEntries n.words n.queue
  pub rest : n.rest ≡ m.rest

pub drained_quiet : (log : Log) (thread : ℕ) (named : List ℕ) (m n : LogConfig) (entry : Entry) → AreEntries m.words m.queue → n.rest ≡ m.rest →
    n.words ≡ drained m.words entry →
    m.queue ≡ entry ∷ n.queue → IsQuiet log thread named m n
drained_quiet log thread named m n entry entries rest words queue =
    let all : AreEntries m.words (entry ∷ n.queue) = subst (λ (q : List Entry). AreEntries m.words q) queue entries in
    let persisted : ArePersisted m.words n.words = subst (λ (ws : List Word). ArePersisted m.words ws) (sym words) (write_backs_raise m.words entry all.0) in
    record {
      size = persisted.size;
      unstored = λ i below. inl (persisted.each (log_word log thread i));
      reach = λ j position h. subst (λ (ws : List Word). PersistsThrough ws n.queue j position) (sym words)
          (subst (λ (q : List Entry). PersistsThrough m.words q j position) queue h);
      entries = entries_stay m.words n.words n.queue (changed_by_persisted m.words n.words persisted) all.1;
      rest = rest;
    }

pub elsewhere_quiet : (log : Log) (thread : ℕ) (named : List ℕ) (m n : LogConfig) (more : List Entry) → AreEntries m.words m.queue → n.rest ≡ m.rest →
    AreChanged m.words n.words →
    IsUnstored log thread named m.words n.words →
    n.queue ≡ m.queue ++ more → AreEntries n.words more → IsQuiet log thread named m n
elsewhere_quiet log thread named m n more entries rest changed unstored queue added = record {
  size = changed.size;
  unstored = unstored;
  reach =
      λ j position h. subst (λ (q : List Entry). PersistsThrough n.words q j position) (sym queue)
      (reach_stays m.words n.words m.queue more j position changed h);
  entries = subst (λ (q : List Entry). AreEntries n.words q) (sym queue)
      (more_entries n.words m.queue more (entries_stay m.words n.words m.queue changed entries) added);
  rest = rest;
}

-- ---- At each moment of a boundary

quiet_keeps : (log : Log) (thread : ℕ) (named : List ℕ) (old new : Record) (m n : LogConfig) → AreNamed named old → AreNamed named new →
    LogIs log thread old new m → IsQuiet log thread named m n → LogIs log thread old new n
quiet_keeps log thread named old new m n names also l q = record {
  follows = l.follows;
  log = log_stays log thread named m.words n.words q.size q.unstored l.log;
  queue = q.entries;
  stage = stage_stays log thread named m n q.size q.unstored q.reach q.rest old new l.follows names also l.stage;
}

pub keeps : Keeps
keeps log thread named old new m n names also l (Stored address value does words queue) =
    let changed : AreChanged m.words n.words = subst (λ (ws : List Word). AreChanged m.words ws) (sym words)
    (stores_change m.words (byte_number address) 8 value) in
    let own = own_store l n address value does words queue l.stage in
    record {
      follows = l.follows;
      log = own.0;
      queue = subst (λ (q : List Entry). AreEntries n.words q) (sym queue) (entries_stay m.words n.words m.queue changed l.queue);
      stage = own.1;
    }
keeps log thread named old new m n names also l (Cleaned address does words queue) =
    let own = own_clean l n address does words queue l.stage in
    record { follows = l.follows; log = subst (HasLog log thread) (sym words) l.log; queue = own.0; stage = own.1 }
keeps log thread named old new m n names also l (Fenced does words before after) = record {
  follows = l.follows;
  log = subst (HasLog log thread) (sym words) l.log;
  queue = subst (λ (q : List Entry). AreEntries n.words q) (sym after) tt;
  stage = own_fence l n does words before l.stage;
}
keeps log thread named old new m n names also l (Drained entry rest words queue) =
    quiet_keeps log thread named old new m n names also l (drained_quiet log thread named m n entry l.queue rest words queue)
keeps log thread named old new m n names also l (Elsewhere more rest changed unstored queue added) = quiet_keeps log thread named old new m n names also l
    (elsewhere_quiet log thread named m n more l.queue rest changed unstored queue added)

-- ---- Between boundaries

pub rests : Rests
rests log thread r m done has entries is h = record {
  follows = record {
    old_is = nothing_is_record log;
    new_is = is;
    apart = λ some other same. absurd (some refl);
  };
  log = has;
  queue = entries;
  stage = Over done h;
}

pub something_left : (log : Log) (thread : ℕ) (new : Record) (slots lines framing : List ℕ) →
    [] ≡ stores_of log thread new slots ++ cleans_of log thread new lines ++ frame_cleans log thread framing ++ commit_effects log thread new.point → ⊥
something_left log thread new [] [] [] e = not_done _ _ e
something_left log thread new [] [] (line ∷ framing) e = not_done _ _ e
something_left log thread new [] (line ∷ lines) framing e = not_done _ _ e
something_left log thread new (slot ∷ slots) lines framing e = not_done _ _ e

pub ends : BoundaryEnds
ends log thread old new m l done = end l.stage
  where
    end : Stage log thread old new m → IsRecorded log thread new m.words
    end (Writing slots lines framing w h) = absurd (something_left log thread new slots lines framing (sym done ∙ w.rest))
    end (Written rest h bank frame) = absurd (not_done _ _ (sym done ∙ rest))
    end (Pointed rest h) = absurd (not_done _ _ (sym done ∙ rest))
    end (PointQueued rest h r) = absurd (not_done _ _ (sym done ∙ rest))
    end (Over rest h) = h

quiet_recorded : (log : Log) (thread : ℕ) (named : List ℕ) (r : Record) (m n : LogConfig) → AreNamed named r → IsRecord log r → HasLog log thread m.words →
    IsRecorded log thread r m.words →
    IsQuiet log thread named m n →
    HasLog log thread n.words × AreEntries n.words n.queue × IsRecorded log thread r n.words
quiet_recorded log thread named r m n names is has h q = (
  log_stays log thread named m.words n.words q.size q.unstored has,
  q.entries,
  recorded_stays log thread named m.words n.words q.size q.unstored r is names h,
)

pub stays_recorded : StaysRecorded
stays_recorded log thread named r m n names is done has entries h (Stored address value does words queue) = absurd (not_done _ _ (sym done ∙ does))
stays_recorded log thread named r m n names is done has entries h (Cleaned address does words queue) = absurd (not_done _ _ (sym done ∙ does))
stays_recorded log thread named r m n names is done has entries h (Fenced does words before after) = absurd (not_done _ _ (sym done ∙ does))
stays_recorded log thread named r m n names is done has entries h (Drained entry rest words queue) = quiet_recorded log thread named r m n names is has h
    (drained_quiet log thread named m n entry entries rest words queue)
stays_recorded log thread named r m n names is done has entries h (Elsewhere more rest changed unstored queue added) =
    quiet_recorded log thread named r m n names is has h (elsewhere_quiet log thread named m n more entries rest changed unstored queue added)

pub stores_elsewhere : StoresElsewhere
stores_elsewhere log thread named number count value words beside i below = elim (cases_eq (log_word log thread i) (number / 8)) [
  | inl here ↦
      let frame = beside i below (sym here) in
      inr (
        frame.0,
        λ is. subst (λ (j : ℕ). IsWord (word_at (stored words number count value) j)) (sym here)
            (any_stored words number count value frame.1 frame.2 (subst (λ (j : ℕ). IsWord (word_at words j)) here is)),
      )
  | inr other ↦ inl (subst (λ (w : Word). IsPersisted (word_at words (log_word log thread i)) w)
      (sym (word_beside words number count value (log_word log thread i) other)) (persisted_refl (word_at words (log_word log thread i))))
]

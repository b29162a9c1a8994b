-- The facts of a log, by name.
use Rattle.std.proofs.Common.{◌≡◌, ◌≢◌, inl, inr, ℕ, ◌/◌, List, [], ◌∷◌, ap, arith, sym, ◌∙◌}
use Rattle.std.specs.List.{Contains}
use Rattle.log_schemes.specs.declared.log.Log.{Log}
use Rattle.ido_base.specs.Layout.{byte_number, word_number}
use Rattle.machine_model.specs.Machine.{bank_of}
use Rattle.log_states.specs.Logs.{Record, slots_of, bank_word, point_in, HasBank, HasFrame, IsRecorded}
use Rattle.log_states.specs.Stages.{LogConfig, IsWriting, Stage, Writing, Written, Pointed, PointQueued, Over, left_by_crash}
use Rattle.log_states.specs.LogFacts.{PointsFindBank, IsNamed, BankKept, LocksAreLeft, LogFacts}
use Rattle.log_schemes.proofs.Public.{contains_first}
use Rattle.log_states.proofs.Heads.{no_head, not_done, same_address, same_value}
use Rattle.log_states.proofs.Numbers.{same_bank, slot_not_point}
use Rattle.log_states.proofs.Words.{durable_is}
use Rattle.log_states.proofs.UnstoredLogStays.{bank_below, has_point, slot_in_bank}
use Rattle.log_states.proofs.BoundaryCommits.{point_is, committed_after_fence, left}
use Rattle.log_states.proofs.RecoveredRecords.{left_is_record, left_locks, record_is_resumed, crashes_resume}

-- ---- Bank before point

points_find_bank : PointsFindBank
points_find_bank log thread old new m point later l does = by l.stage
  where
    none_first : (slots lines framing : List ℕ) → IsWriting log thread new slots lines framing m → ⊥
    none_first [] [] [] w = no_head _ _ _ _ (sym does ∙ w.rest) (omega arith)
    none_first [] [] (line ∷ framing) w = no_head _ _ _ _ (sym does ∙ w.rest) (omega arith)
    none_first [] (line ∷ lines) framing w = no_head _ _ _ _ (sym does ∙ w.rest) (omega arith)
    none_first (slot ∷ slots) lines framing w =
        slot_not_point log thread (bank_of new.point) slot (sym (ap word_number (same_address _ _ _ _ (sym does ∙ w.rest))))

    by : Stage log thread old new m → (point ≡ new.point) × HasBank log thread new m.words × HasFrame log thread new m.words
    by (Writing slots lines framing w h) = absurd (none_first slots lines framing w)
    by (Written rest h bank frame) = (same_value _ _ _ _ (sym does ∙ rest), bank, frame)
    by (Pointed rest h) = absurd (no_head _ _ _ _ (sym does ∙ rest) (omega arith))
    by (PointQueued rest h r) = absurd (no_head _ _ _ _ (sym does ∙ rest) (omega arith))
    by (Over rest h) = absurd (not_done _ _ (sym rest ∙ does))

-- ---- Bank kept

-- both points of a recorded log are the record's
named_is : (log : Log) (thread : ℕ) (r : Record) (m : LogConfig) (point : ℕ) → IsRecorded log thread r m.words → IsNamed log m thread point → point ≡ r.point
named_is log thread r m point h (inl live) = live ∙ h.point.live
named_is log thread r m point h (inr durable) = durable ∙ durable_is (point_in log m.words thread) r.point h.point

bank_kept : BankKept
bank_kept log thread old new m address bytes value later l does point named some slot inside = by l.stage
  where
    writes : (slots lines framing : List ℕ) → IsWriting log thread new slots lines framing m → IsRecorded log thread old m.words →
        byte_number address / 8 ≢ bank_word log thread (bank_of point) slot
    writes [] [] [] w h same = no_head _ _ _ _ (sym does ∙ w.rest) (omega arith)
    writes [] [] (line ∷ framing) w h same = no_head _ _ _ _ (sym does ∙ w.rest) (omega arith)
    writes [] (line ∷ lines) framing w h same = no_head _ _ _ _ (sym does ∙ w.rest) (omega arith)
    writes (first ∷ slots) lines framing w h same =
        let c : Contains (slots_of log new) first = w.own first (contains_first first slots) in
        let is : point ≡ old.point = named_is log thread old m point h named in
        let at : byte_number address / 8 ≡ bank_word log thread (bank_of new.point) first =
        ap (λ (a : ℕ). byte_number a / 8) (same_address _ _ _ _ (sym does ∙ w.rest)) in
        let bank : bank_of point ≡ bank_of new.point =
        same_bank log thread (bank_of point) (bank_of new.point) slot first (bank_below point) (bank_below new.point) inside
        (slot_in_bank log new first l.follows.new_is c) (sym same ∙ at) in
        l.follows.apart (λ none. some (is ∙ none)) (has_point log new first c) (ap bank_of (sym is) ∙ bank)

    by : Stage log thread old new m → byte_number address / 8 ≢ bank_word log thread (bank_of point) slot
    by (Writing slots lines framing w h) = writes slots lines framing w h
    by (Written rest h bank frame) = λ same.
        slot_not_point log thread (bank_of point) slot (sym same ∙ ap (λ (a : ℕ). byte_number a / 8) (same_address _ _ _ _ (sym does ∙ rest)))
    by (Pointed rest h) = absurd (no_head _ _ _ _ (sym does ∙ rest) (omega arith))
    by (PointQueued rest h r) = absurd (no_head _ _ _ _ (sym does ∙ rest) (omega arith))
    by (Over rest h) = absurd (not_done _ _ (sym rest ∙ does))

-- ---- Record follows locks

locks_are_left : LocksAreLeft
locks_are_left log thread old new m l =
    left_locks log thread (left_by_crash log thread old new m) m.words (left_is_record log thread old new m l.follows) (left log thread old new m l.log l.stage)

-- ---- All of them

pub log_facts : LogFacts
log_facts = record {
  bank_before_point = record { bank = points_find_bank; fenced = committed_after_fence };
  bank_kept = bank_kept;
  registers_resumed = record { between = record_is_resumed; crashed = crashes_resume };
  record_follows_locks = record { point = point_is; locks = locks_are_left };
}

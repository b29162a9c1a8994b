-- When a boundary is committed, and what a crash leaves.
use Rattle.std.proofs.Common.{◌≡◌, inl, inr, ℕ, ◌+◌, ◌%◌, ◌^◌, ◌<◌, List, [], ◌∷◌, ◌++◌, length, map, refl, ap, arith, sym, ◌∙◌, subst, get_or, Bool, true}
use Rattle.std.proofs.Common.{false}
use Rattle.std.specs.Prelude.{not, ◌&&◌, ◌==◌}
use Rattle.std.specs.List.{list_any}
use Rattle.std.proofs.lemmas.Bool.{lt-leb, le-leb}
use Rattle.std.proofs.lemmas.Bool.{cond_both, cases_lt, eqb-true, eq-eqb, ne_eqb, and_parts, and_left, or_right, or_parts, not-true, cond-true, cond-false}
use Rattle.std.proofs.lemmas.Bool.{true≢false}
use Rattle.std.proofs.lemmas.List.{get_or-map, get_or_past, length-map}
use Rattle.log_schemes.specs.declared.log.Log.{Log}
use Rattle.ido_base.specs.Words.{Word, word_of, word_at, last_position, durable_value, after_crash, crashed}
use Rattle.ido_base.specs.Growth.{IsPersisted}
use Rattle.ido_base.specs.Layout.{word_number}
use Rattle.log_schemes.specs.Layout.{point_at}
use Rattle.ido_base.proofs.Public.{same_last}
use Rattle.rv64_isa.specs.Rows.{Effect, Stores, Cleans, Fences}
use Rattle.machine_model.specs.Machine.{bank_of, durable_point}
use Rattle.machine_model.specs.Schedule.{is_point_store}
use Rattle.boundary_code.specs.Boundaries.{Boundary, bank_effects, commit_effects, boundary_effects, is_empty, other_side}
use Rattle.log_states.specs.Logs.{Record, value_of, bank_word, log_word, point_in, slot_in, IsWord, HasLog, IsDurable, HasBank, IsRecorded}
use Rattle.log_states.specs.Stages.{LogConfig, Stored, Cleaned, Fenced, Drained, Elsewhere, stores_of, cleans_of, IsPointed, Stage, Writing, Written, Pointed}
use Rattle.log_states.specs.Logs.{HasFrame, frame_in, frame_word}
use Rattle.log_states.specs.Stages.{frame_cleans, PointQueued, Over, is_store, is_committed, left_by_crash, fences_ahead}
use Rattle.log_states.specs.Laws.{PointStoreIsLast, PositionStays, CommittedWhere}
use Rattle.log_states.specs.Laws.{PointIs, StaysCommitted, EndsCommitted, BeginsUncommitted, CommittedAfterFence, CrashesLeave, CrashesKeep}
use Rattle.log_states.proofs.Heads.{no_head, not_done, same_address, same_rest}
use Rattle.log_states.proofs.Numbers.{slot_not_point}
use Rattle.log_states.proofs.Words.{durable_is, crashed_durable, crashed_word}
use Rattle.log_states.proofs.UnstoredLogStays.{of_point, point_persisted}
use Rattle.log_states.proofs.EventsKeepLog.{IsQuiet, drained_quiet, elsewhere_quiet, ends}

-- ---- Whether the point has been stored

commit_stores : (log : Log) (thread point : ℕ) (prefix : List Effect) → list_any is_store (prefix ++ commit_effects log thread point) ≡ true
commit_stores log thread point [] = refl
commit_stores log thread point (e ∷ es) = or_right (is_store e) (list_any is_store (es ++ commit_effects log thread point)) (commit_stores log thread point es)

writing_stores : (log : Log) (thread : ℕ) (new : Record) (slots lines framing : List ℕ) →
    list_any is_store
    (stores_of log thread new slots ++ cleans_of log thread new lines ++ frame_cleans log thread framing ++ commit_effects log thread new.point)
    ≡ true
writing_stores log thread new [] lines framing = commit_stores log thread new.point (cleans_of log thread new lines ++ frame_cleans log thread framing)
writing_stores log thread new (slot ∷ slots) lines framing = refl

-- where a store is still to be made, nothing is committed
uncommitted : (log : Log) (thread : ℕ) (m : LogConfig) → list_any is_store m.rest ≡ true → is_committed log thread m ≡ false
uncommitted log thread m e =
    and_left (not (list_any is_store m.rest)) ((point_in log m.words thread).durable == last_position (point_in log m.words thread)) (ap not e)

-- where none is, the durable position decides
committed_where : (log : Log) (thread : ℕ) (m : LogConfig) → list_any is_store m.rest ≡ false →
    is_committed log thread m ≡ ((point_in log m.words thread).durable == last_position (point_in log m.words thread))
committed_where log thread m e = ap (λ (b : Bool). not b && ((point_in log m.words thread).durable == last_position (point_in log m.words thread))) e

-- ---- What a crash leaves

crashed_at : (words : List Word) (j : ℕ) → word_at (crashed words) j ≡ after_crash (word_at words j)
crashed_at words j = elim (cases_lt j (length words)) [
  | inl inside ↦ get_or-map after_crash words j (word_of 0) (word_of 0) inside
  | inr past ↦ get_or_past (map after_crash words) j (word_of 0) (omega (arith, past, length-map words after_crash))
      ∙ ap after_crash (sym (get_or_past words j (word_of 0) past))
]

pub crashed_is : (words : List Word) (j value : ℕ) → durable_value (word_at words j) ≡ value → IsDurable (word_at (crashed words) j) value
crashed_is words j value e = subst (λ (w : Word). IsDurable w value) (sym (crashed_at words j))
    (subst (λ (n : ℕ). IsDurable (after_crash (word_at words j)) n) e (crashed_durable (word_at words j)))

crashed_bank : (log : Log) (thread : ℕ) (r : Record) (words : List Word) → HasBank log thread r words → HasBank log thread r (crashed words)
crashed_bank log thread r words bank slot c = crashed_is words (bank_word log thread (bank_of r.point) slot) (value_of log r slot)
    (durable_is (slot_in log words thread r slot) (value_of log r slot) (bank slot c))

crashed_frame : (log : Log) (thread : ℕ) (r : Record) (words : List Word) → HasFrame log thread r words → HasFrame log thread r (crashed words)
crashed_frame log thread r words frame word c = crashed_is words (frame_word log thread word) (r.frame word)
    (durable_is (frame_in log words thread word) (r.frame word) (frame word c))

crashed_log : (log : Log) (thread : ℕ) (words : List Word) → HasLog log thread words → HasLog log thread (crashed words)
crashed_log log thread words has = record {
  exists = omega (arith, has.exists, length-map words after_crash);
  each = λ i below. subst (λ (w : Word). IsWord w) (sym (crashed_at words (log_word log thread i)))
      (crashed_word (word_at words (log_word log thread i)) (has.each i below));
}

crashed_record : (log : Log) (thread : ℕ) (r : Record) (words : List Word) → durable_point log words thread ≡ r.point → HasBank log thread r words →
    HasFrame log thread r words → IsRecorded log thread r (crashed words)
crashed_record log thread r words point bank frame = record {
  point = crashed_is words
      (word_number (point_at log thread)) r.point point;
  bank = crashed_bank log thread r words bank;
  frame = crashed_frame log thread r words frame;
}

pub crashes_keep : CrashesKeep
crashes_keep log thread r words has h =
    (crashed_record log thread r words (durable_is (point_in log words thread) r.point h.point) h.bank h.frame, crashed_log log thread words has)

-- ---- At each stage

-- the durable point and its bank, in durable memory
pub record IsLeft (log : Log) (thread : ℕ) (r : Record) (words : List Word) : Type 0 where
  pub point : durable_point log words thread ≡ r.point
  pub bank : HasBank log thread r words
  pub frame : HasFrame log thread r words

pub left_recorded : (log : Log) (thread : ℕ) (r : Record) (words : List Word) → IsRecorded log thread r words → IsLeft log thread r words
left_recorded log thread r words h = record { point = durable_is (point_in log words thread) r.point h.point; bank = h.bank; frame = h.frame }

module _ (log : Log) (thread : ℕ) (old new : Record) (m : LogConfig) (has : HasLog log thread m.words) where
  is_point : IsWord (point_in log m.words thread)
  is_point = of_point log thread (λ j. IsWord (word_at m.words j)) has.each

  left_old : list_any is_store m.rest ≡ true → IsRecorded log thread old m.words → IsLeft log thread (left_by_crash log thread old new m) m.words
  left_old e h = subst (λ (r : Record). IsLeft log thread r m.words) (sym (cond-false (is_committed log thread m) new old (uncommitted log thread m e)))
      (left_recorded log thread old m.words h)

  left_pointed : list_any is_store m.rest ≡ false → IsPointed log thread old new m.words → IsLeft log thread (left_by_crash log thread old new m) m.words
  left_pointed e h = elim (cases_lt (point_in log m.words thread).durable (last_position (point_in log m.words thread))) [
    | inl before ↦
        subst (λ (r : Record). IsLeft log thread r m.words)
        (sym (cond-false (is_committed log thread m) new old (committed_where log thread m e
        ∙ ne_eqb (point_in log m.words thread).durable (last_position (point_in log m.words thread)) (λ same. omega (arith, before, same)))))
        (record { point = h.before (point_in log m.words thread).durable (omega arith) before; bank = h.old_bank; frame = h.old_frame })
    | inr reached ↦
        let same : (point_in log m.words thread).durable ≡ last_position (point_in log m.words thread) = omega (arith, reached, is_point.durable) in
        subst (λ (r : Record). IsLeft log thread r m.words) (sym (cond-true (is_committed log thread m) new old
        (committed_where log thread m e ∙ eq-eqb (point_in log m.words thread).durable (last_position (point_in log m.words thread)) same)))
        (record { point = ap (λ (p : ℕ). get_or (point_in log m.words thread).values p 0) same ∙ h.last; bank = h.new_bank; frame = h.new_frame })
  ]

  left_over : m.rest ≡ [] → IsRecorded log thread new m.words → IsLeft log thread (left_by_crash log thread old new m) m.words
  left_over e h = subst (λ (r : Record). IsLeft log thread r m.words)
      (sym (cond-true (is_committed log thread m) new old (committed_where log thread m (ap (list_any is_store) e)
      ∙ eq-eqb (point_in log m.words thread).durable (last_position (point_in log m.words thread)) h.point.durable)))
      (left_recorded log thread new m.words h)

  pub left : Stage log thread old new m → IsLeft log thread (left_by_crash log thread old new m) m.words
  left (Writing slots lines framing w h) = left_old (ap (list_any is_store) w.rest ∙ writing_stores log thread new slots lines framing) h
  left (Written rest h bank frame) = left_old (ap (list_any is_store) rest) h
  left (Pointed rest h) = left_pointed (ap (list_any is_store) rest) h
  left (PointQueued rest h r) = left_pointed (ap (list_any is_store) rest) h
  left (Over rest h) = left_over rest h

pub point_is : PointIs
point_is log thread old new m l = (left log thread old new m l.log l.stage).point

pub crashes_leave : CrashesLeave
crashes_leave log thread old new m l =
    let is = left log thread old new m l.log l.stage in
    (crashed_record log thread (left_by_crash log thread old new m) m.words is.point is.bank is.frame, crashed_log log thread m.words l.log)

-- ---- Commitment stays

pub ends_committed : EndsCommitted
ends_committed log thread old new m l done =
    committed_where log thread m (ap (list_any is_store) done) ∙ eq-eqb (point_in log m.words thread).durable (last_position (point_in log m.words thread))
    (ends log thread old new m l done).point.durable

committed_parts : (log : Log) (thread : ℕ) (m : LogConfig) → is_committed log thread m ≡ true →
    (list_any is_store m.rest ≡ false) × ((point_in log m.words thread).durable ≡ last_position (point_in log m.words thread))
committed_parts log thread m e =
    let both = and_parts (not (list_any is_store m.rest)) ((point_in log m.words thread).durable == last_position (point_in log m.words thread)) e in
    (not-true (list_any is_store m.rest) both.0, eqb-true (point_in log m.words thread).durable (last_position (point_in log m.words thread)) both.1)

committed_from : (log : Log) (thread : ℕ) (m : LogConfig) → list_any is_store m.rest ≡ false →
    (point_in log m.words thread).durable ≡ last_position (point_in log m.words thread) → is_committed log thread m ≡ true
committed_from log thread m e same =
    committed_where log thread m e ∙ eq-eqb (point_in log m.words thread).durable (last_position (point_in log m.words thread)) same

-- the effect that is made was no store
passed_committed : (log : Log) (thread : ℕ) (m n : LogConfig) (e : Effect) → is_store e ≡ false → m.rest ≡ e ∷ n.rest → n.words ≡ m.words →
    is_committed log thread m ≡ true → is_committed log thread n ≡ true
passed_committed log thread m n e other does words committed =
    let parts = committed_parts log thread m committed in
    let after : list_any is_store n.rest ≡ false = (or_parts (is_store e) (list_any is_store n.rest) (ap (list_any is_store) (sym does) ∙ parts.0)).1 in
    committed_from log thread n after
    (subst (λ (ws : List Word). (point_in log ws thread).durable ≡ last_position (point_in log ws thread)) (sym words) parts.1)

quiet_committed : (log : Log) (thread : ℕ) (named : List ℕ) (m n : LogConfig) → HasLog log thread m.words → IsQuiet log thread named m n →
    is_committed log thread m ≡ true →
    is_committed log thread n ≡ true
quiet_committed log thread named m n has q committed =
    let parts = committed_parts log thread m committed in
    let persisted : IsPersisted (point_in log m.words thread) (point_in log n.words thread) =
    point_persisted log thread named m.words n.words q.size q.unstored in
    let same : last_position (point_in log n.words thread) ≡ last_position (point_in log m.words thread) =
    same_last (point_in log m.words thread) (point_in log n.words thread) persisted in
    committed_from log thread n (ap (list_any is_store) q.rest ∙ parts.0)
    (omega (arith, parts.1, same, persisted.no_lower, persisted.no_higher (omega (arith, parts.1))))

pub stays_committed : StaysCommitted
stays_committed log thread named old new m n l (Stored address value does words queue) committed =
    absurd (true≢false (sym (ap (list_any is_store) does) ∙ (committed_parts log thread m committed).0))
stays_committed log thread named old new m n l (Cleaned address does words queue) committed =
    passed_committed log thread m n (Cleans address) refl does words committed
stays_committed log thread named old new m n l (Fenced does words before after) committed = passed_committed log thread m n Fences refl does words committed
stays_committed log thread named old new m n l (Drained entry rest words queue) committed =
    quiet_committed log thread named m n l.log (drained_quiet log thread named m n entry l.queue rest words queue) committed
stays_committed log thread named old new m n l (Elsewhere more rest changed unstored queue added) committed =
    quiet_committed log thread named m n l.log (elsewhere_quiet log thread named m n more l.queue rest changed unstored queue added) committed

-- ---- Where a boundary begins, and after its first fence

pub boundary_stores : (b : Boundary) (side resume : ℕ) (x : List ℕ) → list_any is_store (boundary_effects b side resume x) ≡ true
boundary_stores b side resume x = cond_both (is_empty b.locks) (commit_effects b.log b.thread 0)
    (bank_effects b (other_side side) x ++ commit_effects b.log b.thread ((resume + other_side side) % 2 ^ 64)) (λ es. list_any is_store es ≡ true)
    (λ _. refl) (λ _. commit_stores b.log b.thread ((resume + other_side side) % 2 ^ 64) (bank_effects b (other_side side) x))

pub begins_uncommitted : BeginsUncommitted
begins_uncommitted b side resume x words queue = uncommitted b.log b.thread
    (record { words = words; queue = queue; rest = boundary_effects b side resume x }) (boundary_stores b side resume x)

pub committed_after_fence : CommittedAfterFence
committed_after_fence log thread old new m l committed = by l.stage
  where
    none_left : list_any is_store m.rest ≡ true → ⊥
    none_left e = true≢false (sym e ∙ (committed_parts log thread m committed).0)

    by : Stage log thread old new m → fences_ahead m.rest < 2
    by (Writing slots lines framing w h) = absurd (none_left (ap (list_any is_store) w.rest ∙ writing_stores log thread new slots lines framing))
    by (Written rest h bank frame) = absurd (none_left (ap (list_any is_store) rest))
    by (Pointed rest h) = omega (arith, ap fences_ahead rest)
    by (PointQueued rest h r) = omega (arith, ap fences_ahead rest)
    by (Over rest h) = omega (arith, ap fences_ahead rest)

-- ---- The store of the point

pub point_store_is_last : PointStoreIsLast
point_store_is_last log thread old new m address bytes value later l does = by l.stage
  where
    writes : (slots lines framing : List ℕ) →
        m.rest ≡ stores_of log thread new slots ++ cleans_of log thread new lines ++ frame_cleans log thread framing ++ commit_effects log thread new.point →
        is_point_store log thread (Stores address bytes value) ≡ not (list_any is_store later)
    writes [] [] [] rest = absurd (no_head _ _ _ _ (sym does ∙ rest) (omega arith))
    writes [] [] (line ∷ framing) rest = absurd (no_head _ _ _ _ (sym does ∙ rest) (omega arith))
    writes [] (line ∷ lines) framing rest = absurd (no_head _ _ _ _ (sym does ∙ rest) (omega arith))
    writes (slot ∷ slots) lines framing rest =
        let e = sym does ∙ rest in
        let place : word_number address ≡ bank_word log thread (bank_of new.point) slot = ap word_number (same_address _ _ _ _ e) in
        ne_eqb (word_number address) (word_number (point_at log thread)) (λ same. slot_not_point log thread (bank_of new.point) slot (sym place ∙ same)) ∙
        sym (ap (λ (es : List Effect). not (list_any is_store es)) (same_rest _ _ _ _ e) ∙ ap not (writing_stores log thread new slots lines framing))

    by : Stage log thread old new m → is_point_store log thread (Stores address bytes value) ≡ not (list_any is_store later)
    by (Writing slots lines framing w h) = writes slots lines framing w.rest
    by (Written rest h bank frame) =
        let e = sym does ∙ rest in
        eq-eqb (word_number address) (word_number (point_at log thread)) (ap word_number (same_address _ _ _ _ e)) ∙
        sym (ap (λ (es : List Effect). not (list_any is_store es)) (same_rest _ _ _ _ e))
    by (Pointed rest h) = absurd (no_head _ _ _ _ (sym does ∙ rest) (omega arith))
    by (PointQueued rest h r) = absurd (no_head _ _ _ _ (sym does ∙ rest) (omega arith))
    by (Over rest h) = absurd (not_done _ _ (sym rest ∙ does))

quiet_position : (log : Log) (thread : ℕ) (named : List ℕ) (m n : LogConfig) → IsQuiet log thread named m n →
    last_position (point_in log n.words thread) ≡ last_position (point_in log m.words thread)
quiet_position log thread named m n q =
    same_last (point_in log m.words thread) (point_in log n.words thread)
    (point_persisted log thread named m.words n.words q.size q.unstored)

pub position_stays : PositionStays
position_stays log thread named old new m n l (Stored address value does words queue) none = absurd (true≢false (sym (ap (list_any is_store) does) ∙ none))
position_stays log thread named old new m n l (Cleaned address does words queue) none = ap (λ (ws : List Word). last_position (point_in log ws thread)) words
position_stays log thread named old new m n l (Fenced does words before after) none = ap (λ (ws : List Word). last_position (point_in log ws thread)) words
position_stays log thread named old new m n l (Drained entry rest words queue) none =
    quiet_position log thread named m n (drained_quiet log thread named m n entry l.queue rest words queue)
position_stays log thread named old new m n l (Elsewhere more rest changed unstored queue added) none =
    quiet_position log thread named m n (elsewhere_quiet log thread named m n more l.queue rest changed unstored queue added)

pub committed_where_durable : CommittedWhere
committed_where_durable log thread old new m l none =
    let last = last_position (point_in log m.words thread) in
    let durable = (point_in log m.words thread).durable in
    committed_where log thread m none ∙ elim (cases_lt durable last) [
      | inl before ↦ ne_eqb durable last (λ same. omega (arith, before, same)) ∙ sym (lt-leb last durable before)
      | inr reached ↦ eq-eqb durable last (omega (arith, reached, (is_point log thread old new m l.log).durable)) ∙ sym (le-leb last durable reached)
    ]

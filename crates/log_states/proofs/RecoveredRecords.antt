-- What recovery reads of a record, and that a start has none.
use Rattle.std.proofs.Common.{◌≡◌, ◌≢◌, inl, inr, ℕ, zero, suc, ◌-◌, ◌*◌, ◌≤◌, List, [], ◌∷◌, length, map, replicate, drop, refl, ap, arith, sym}
use Rattle.std.proofs.Common.{◌∙◌, subst, get_or, cond, eqb}
use Rattle.std.specs.List.{Contains}
use Rattle.std.proofs.lemmas.Bool.{cases_eq, cases_lt, cond_both, cond-true, cond-false, eq-eqb, ne_eqb}
use Rattle.std.proofs.lemmas.List.{get_or-map, get_or-append_right, get_or_past, length-map}
use Rattle.std.proofs.lemmas.List.Elements.{Contains-append_left, Contains-append_right}
use Rattle.log_schemes.specs.declared.log.Log.{Log}
use Rattle.ido_base.specs.Words.{Word, word_of, word_at, crashed}
use Rattle.ido_base.specs.Layout.{word_number, words_of_bytes}
use Rattle.log_schemes.specs.Layout.{log_lines, log_words, slot_at, point_at, initial_words}
use Rattle.rv64_isa.specs.Rows.{read}
use Rattle.machine_model.specs.Machine.{durable_point, durable_at, bank_of, record_of, recorded, resumed_registers, start_of}
use Rattle.machine_model.proofs.Public.{starts_simulate}
use Rattle.boundary_code.specs.Boundaries.{pairs_kept, slots_kept, IsOnSide}
use Rattle.log_schemes.specs.SchemeFacts.{HasEach}
use Rattle.log_schemes.specs.Schemes.{kept_locks, register_slot, told}
use Rattle.boundary_code.proofs.Public.{fresh_on_side}
use Rattle.log_states.specs.Logs.{Record, value_of, IsRecord, log_word, IsWord, IsDurable}
use Rattle.log_states.specs.BanksRead.{HasKept, HasTold}
use Rattle.log_states.specs.Stages.{LogConfig, MayOverwrite, is_committed, left_by_crash}
use Rattle.log_states.specs.Laws.{RecordIsResumed, CrashesResume, StartsEmpty}
use Rattle.log_states.proofs.Lists.{slots_in, slot_listed}
use Rattle.log_schemes.proofs.Public.{contains_none}
use Rattle.log_states.proofs.KeptRecords.{banks_read, pair_value, nothing_is_record, register_value, slot_there}
use Rattle.log_states.proofs.Numbers.{word_of_point, rows_within}
use Rattle.log_states.proofs.BoundaryCommits.{IsLeft, left_recorded, crashes_leave}
use Rattle.log_states.proofs.Words.{durable_is}

-- ---- Recovery

module _ (log : Log) (thread : ℕ) (r : Record) (words : List Word) (is : IsRecord log r) (h : IsLeft log thread r words) where
  -- a slot of the point's bank
  kept : (slot : ℕ) → r.point ≢ 0 → Contains (slots_kept log r.locks r.written r.live) slot → recorded log words thread slot ≡ value_of log r slot
  kept slot some c =
      ap (λ (n : ℕ). durable_at words (slot_at log thread (bank_of n) slot)) h.point
      ∙ durable_is (word_at words (word_number (slot_at log thread (bank_of r.point) slot))) (value_of log r slot)
      (h.bank slot (subst (λ (slots : List ℕ). Contains slots slot)
      (sym (cond-false (eqb r.point 0) [] (slots_kept log r.locks r.written r.live) (ne_eqb r.point 0 some))) c))

  has_pairs : r.point ≢ 0 → HasEach (recorded log words thread) (pairs_kept log r.locks r.written)
  has_pairs some one c =
      kept one.0 some (Contains-append_left (slots_in (pairs_kept log r.locks r.written)) (map (register_slot log) r.live) one.0
      (slot_listed (pairs_kept log r.locks r.written) one c))
      ∙ pair_value log r is.locks is.live is.for_write one c

  has_kept : r.point ≢ 0 → HasKept log words thread r.locks
  has_kept some one c = has_pairs some one (Contains-append_left (kept_locks log r.locks) (told log r.written) one c)

  has_told : r.point ≢ 0 → HasTold log words thread r.written
  has_told some one c = has_pairs some one (Contains-append_right (kept_locks log r.locks) (told log r.written) one c)

  pub left_locks : record_of log words thread ≡ cond (eqb r.point 0) [] r.locks
  left_locks = elim (cases_eq r.point 0) [
    | inl none ↦ cond-true (eqb (durable_point log words thread) 0) [] _ (eq-eqb (durable_point log words thread) 0 (h.point ∙ none))
        ∙ sym (cond-true (eqb r.point 0) [] r.locks (eq-eqb r.point 0 none))
    | inr some ↦ (banks_read log).locks words thread r.locks is.locks (λ none. some (sym h.point ∙ none)) (has_kept some)
        ∙ sym (cond-false (eqb r.point 0) [] r.locks (ne_eqb r.point 0 some))
  ]

  register : r.point ≢ 0 → (slot : ℕ) → Contains r.live slot → read (resumed_registers log words thread) slot ≡ read r.registers slot
  register some slot c =
      let keepable = is.live slot c in
      (banks_read log).registers words thread slot keepable
      ∙ kept (register_slot log slot) some (Contains-append_right (slots_in (pairs_kept log r.locks r.written)) (map (register_slot log) r.live)
      (register_slot log slot)
      (slot_there log r.live slot c))
      ∙ register_value log r is.locks is.live is.for_write slot c

pub record_is_resumed : RecordIsResumed
record_is_resumed log thread r words is h =
    let left : IsLeft log thread r words = left_recorded log thread r words h in
    record {
      point = left.point;
      live_point = h.point.live;
      locks = left_locks log thread r words is left;
      kept = has_kept log thread r words is left;
      told = has_told log thread r words is left;
      registers = λ some slot c. register log thread r words is left some slot c;
      side = record {
        registers = subst (λ (point : ℕ). IsOnSide log (bank_of point) (resumed_registers log words thread)) left.point ((banks_read log).side words thread);
        is = λ some. refl;
      };
      frame = h.frame;
    }

-- what a crash leaves is a record
pub left_is_record : (log : Log) (thread : ℕ) (old new : Record) (m : LogConfig) → MayOverwrite log old new → IsRecord log (left_by_crash log thread old new m)
left_is_record log thread old new m f = cond_both (is_committed log thread m) new old (IsRecord log) (λ _. f.new_is) (λ _. f.old_is)

pub crashes_resume : CrashesResume
crashes_resume log thread old new m l =
    record_is_resumed log thread (left_by_crash log thread old new m) (crashed m.words) (left_is_record log thread old new m l.follows)
    (crashes_leave log thread old new m l).0

-- ---- The start

length-words : (bytes : List ℕ) (count : ℕ) → length (words_of_bytes bytes count) ≡ count
length-words bytes zero = refl
length-words bytes (suc count) = let more = length-words (drop 8 bytes) count in omega (arith, more)

zeros : (count i : ℕ) → ◌≡◌ {A = ℕ} (get_or (replicate count 0) i 0) 0
zeros zero i = refl
zeros (suc count) zero = refl
zeros (suc count) (suc i) = zeros count i

log_zero : (log : Log) (threads : ℕ) (bytes : List ℕ) (i : ℕ) → 8192 ≤ i → get_or (initial_words log threads bytes) i 0 ≡ 0
unfolding initial_words
log_zero log threads bytes i above =
    get_or-append_right (words_of_bytes bytes 8192) (replicate (log_words log * threads) 0) 8192 i 0 (length-words bytes 8192) above
    ∙ zeros (log_words log * threads) (i - 8192)

word_zero : (log : Log) (threads : ℕ) (bytes : List ℕ) (i : ℕ) → 8192 ≤ i → word_at (map word_of (initial_words log threads bytes)) i ≡ word_of 0
word_zero log threads bytes i above = elim (cases_lt i (length (initial_words log threads bytes))) [
  | inl inside ↦ get_or-map word_of (initial_words log threads bytes) i 0 (word_of 0) inside ∙ ap word_of (log_zero log threads bytes i above)
  | inr past ↦ get_or_past (map word_of (initial_words log threads bytes)) i (word_of 0)
      (omega (arith, past, length-map (initial_words log threads bytes) word_of))
]

zero_word : IsWord (word_of 0)
zero_word = record { durable = omega arith; values = λ p. omega (arith, at_most p) }
  where
    at_most : (p : ℕ) → ◌≡◌ {A = ℕ} (get_or (0 ∷ []) p 0) 0
    at_most zero = refl
    at_most (suc p) = refl

pub starts_empty : StartsEmpty
unfolding start_of
starts_empty log program locks thread initial inside =
    let s = starts_simulate log program locks initial in (
      nothing_is_record log,
      record {
        exists = omega (arith, s.0.size, ap (λ (count : ℕ). log_lines log * count) s.1, rows_within (log_lines log) thread (length program) inside);
        each = λ i below. subst (λ (w : Word). IsWord w) (sym (word_zero log (length program) initial (log_word log thread i)
            (omega (arith, word_of_point log thread)))) zero_word;
      },
      record {
        point = subst (λ (w : Word). IsDurable w 0) (sym (word_zero log (length program) initial (word_number (point_at log thread))
            (omega (arith, word_of_point log thread)))) (record { durable = refl; live = refl });
        bank = λ slot c. absurd (contains_none slot c);
        frame = λ word c. absurd (contains_none word c);
      },
      record { registers = fresh_on_side log; is = λ some. absurd (some refl) },
    )

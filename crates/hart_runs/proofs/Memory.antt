-- What memory goes on to give: bytes beside a store, and words that are persisted.
use Rattle.std.proofs.Common.{◌≡◌, ◌⊎◌, inl, inr, ℕ, ◌+◌, ◌-◌, ◌*◌, ◌/◌, ◌%◌, ◌≤◌, List, [], ◌∷◌, ◌++◌, length}
use Rattle.std.proofs.Common.{refl, ap, arith, sym, ◌∙◌, subst, cond, get_or, Bool, true, false, ⊎_elim}
use Rattle.std.specs.Prelude.{nat_lt, nat_le, ◌&&◌}
use Rattle.std.proofs.lemmas.Bool.{cases_lt, cases_eq, and_parts, or_cases, ltb-true, ltb-false, leb-true, eqb-true}
use Rattle.std.proofs.lemmas.List.{set_past}
use Rattle.std.proofs.Math.ListN.{length-append, length-set}
use Rattle.log_schemes.specs.declared.log.Log.{Log}
use Rattle.machine_events.specs.declared.event.Event.TheVariants.{Step, Evict}
use Rattle.ido_base.specs.Words.{Word, Entry, word_at, live_value, last_position, with_value, with_part, part, loaded, stored}
use Rattle.ido_base.specs.Layout.{line_bytes, aligned, byte_number, variables_base, logs_base}
use Rattle.log_schemes.specs.Layout.{log_lines, in_range, word_count}
use Rattle.ido_base.specs.Growth.{IsPersisted, ArePersisted, AreEntries}
use Rattle.ido_base.proofs.Public.{word_same, word_other, same_last, are_persisted_refl, write_backs_raise, evictions_raise, part_above, part_below}
use Rattle.rv64_isa.specs.declared.object.Slot.{Slot}
use Rattle.rv64_isa.specs.Rows.{Effect, Continues, Loads, Stores, Cleans, Fences, Calls}
use Rattle.machine_model.specs.Machine.{World, happens, after_event}
use Rattle.machine_model.specs.Frames.{IsWellFormedWorld}
use Rattle.code_runs.specs.CodeTraces.{MarkedEnvironment}
use Rattle.hart_runs.specs.HartsOnRuns.{is_access, is_width, LoadGives, Agrees, may_go, OnRun}
use Rattle.hart_runs.specs.RunSteps.{Contents, Changes, GoesForward, Drains}
use Rattle.hart_runs.specs.Laws.{IsApart, StoresApart}
use Rattle.hart_runs.proofs.RunStepEffects.{may_next}

-- ---- Words

live_appended : (word : Word) (value : ℕ) → live_value (with_value word value) ≡ value
live_appended word value =
    let last : last_position (with_value word value) ≡ length word.values =
    (let n : length (word.values ++ value ∷ []) ≡ length word.values + 1 = length-append word.values (value ∷ []) in omega (arith, n)) in
    ap (λ (i : ℕ). get_or (word.values ++ value ∷ []) i 0) last ∙ at_end word.values
  where
    at_end : (xs : List ℕ) → get_or (xs ++ value ∷ []) (length xs) 0 ≡ value
    at_end [] = refl
    at_end (x ∷ xs) = at_end xs

live_persisted : (old new : Word) → IsPersisted old new → live_value new ≡ live_value old
live_persisted old new r =
    let same : last_position new ≡ last_position old = same_last old new r in
    ap (λ (i : ℕ). get_or new.values i 0) same ∙ ap (λ (xs : List ℕ). get_or xs (last_position old) 0) r.values

persisted_loads : (old new : List Word) (number count : ℕ) → ArePersisted old new → loaded new number count ≡ loaded old number count
persisted_loads old new number count r = ap (λ (v : ℕ). part v (number % 8) count)
    (live_persisted (word_at old (number / 8)) (word_at new (number / 8)) (r.each (number / 8)))

-- a store leaves what other bytes hold
beside : (words : List Word) (n bytes value k count : ℕ) → (k + count ≤ n) ⊎ (n + bytes ≤ k) → n % 8 + bytes ≤ 8 → k % 8 + count ≤ 8 →
    loaded (stored words n bytes value) k count ≡ loaded words k count
beside words n bytes value k count apart whole in_one = elim (cases_eq (k / 8) (n / 8)) [
  | inl same ↦ elim (cases_lt (n / 8) (length words)) [
    | inl there ↦
        let new : ℕ = with_part (live_value (word_at words (n / 8))) (n % 8) bytes value in
        let word : live_value (word_at (stored words n bytes value) (n / 8)) ≡ new =
        ap (λ (u : Word). live_value u) (word_same words (n / 8) (with_value (word_at words (n / 8)) new) there) ∙ live_appended (word_at words (n / 8)) new in
        ap (λ (i : ℕ). part (live_value (word_at (stored words n bytes value) i)) (k % 8) count) same
        ∙ (ap (λ (v : ℕ). part v (k % 8) count) word
        ∙ (parts (live_value (word_at words (n / 8))) same
        ∙ ap (λ (i : ℕ). part (live_value (word_at words i)) (k % 8) count) (sym same)))
    | inr past ↦ ap (λ (ws : List Word). loaded ws k count)
        (set_past words (n / 8) (with_value (word_at words (n / 8)) (with_part (live_value (word_at words (n / 8))) (n % 8) bytes value)) past)
  ]
  | inr other ↦
      ap (λ (u : Word). part (live_value u) (k % 8) count)
      (word_other words (n / 8) (k / 8) (with_value (word_at words (n / 8)) (with_part (live_value (word_at words (n / 8))) (n % 8) bytes value)) other)
]
  where
    parts : (v : ℕ) → k / 8 ≡ n / 8 → part (with_part v (n % 8) bytes value) (k % 8) count ≡ part v (k % 8) count
    parts v same = ⊎_elim
        (λ l. part_below v (n % 8) bytes value (k % 8) count (omega (arith, same, l)))
        (λ g. part_above v (n % 8) bytes value (k % 8) count (omega (arith, same, g)))
        apart

-- ---- Addresses

in_variables : (address bytes top : ℕ) → (nat_le variables_base address && nat_le (address + bytes) top) ≡ true →
    (variables_base ≤ address) × (address + bytes ≤ top)
in_variables address bytes top e = let h = and_parts _ _ e in (leb-true _ _ h.0, leb-true _ _ h.1)

in_logs : (address bytes top : ℕ) → (nat_le logs_base address && nat_le (address + bytes) top) ≡ true → (logs_base ≤ address) × (address + bytes ≤ top)
in_logs address bytes top e = let h = and_parts _ _ e in (leb-true _ _ h.0, leb-true _ _ h.1)

-- among the variables' bytes, or after them among those of logs
IsNumbered : Log → (threads address bytes number : ℕ) → Type 0
IsNumbered log threads address bytes number =
    ((address + bytes ≤ variables_base + 65536) × (number + variables_base ≡ address)) ⊎
    ((logs_base ≤ address) × (number + logs_base ≡ address + 65536) × (address + bytes ≤ logs_base + line_bytes * log_lines log * threads))

numbered : (log : Log) (threads address bytes : ℕ) → in_range log threads address bytes ≡ true → IsNumbered log threads address bytes (byte_number address)
unfolding IsNumbered
numbered log threads address bytes inside = by_half (nat_lt address logs_base) refl (or_cases _ _ inside)
  where
    by_half : (b : Bool) → nat_lt address logs_base ≡ b
        → ((nat_le variables_base address && nat_le (address + bytes) (variables_base + 65536)) ≡ true) ⊎
        ((nat_le logs_base address && nat_le (address + bytes) (logs_base + line_bytes * log_lines log * threads)) ≡ true)
        → IsNumbered log threads address bytes (byte_number address)
    by_half true e (inl h) =
        let r = in_variables address bytes (variables_base + 65536) h in
        let n : byte_number address ≡ address - variables_base = ap (λ b. cond b (address - variables_base) (65536 + (address - logs_base))) e in
        inl (r.1, omega (arith, n, r.0))
    by_half true e (inr h) = absurd (omega (arith, (in_logs address bytes (logs_base + line_bytes * log_lines log * threads) h).0, ltb-true _ _ e))
    by_half false e (inl h) = absurd (omega (arith, (in_variables address bytes (variables_base + 65536) h).1, ltb-false _ _ e))
    by_half false e (inr h) =
        let r = in_logs address bytes (logs_base + line_bytes * log_lines log * threads) h in
        let n : byte_number address ≡ 65536 + (address - logs_base) = ap (λ b. cond b (address - variables_base) (65536 + (address - logs_base))) e in
        inr (r.0, omega (arith, n, r.0), r.1)

numbers_apart : (log : Log) (threads a b c d n k : ℕ) → IsNumbered log threads a b n → IsNumbered log threads c d k → a + b ≤ c → n + b ≤ k
unfolding IsNumbered
numbers_apart log threads a b c d n k (inl p) (inl q) l = omega (arith, p.1, q.1, l)
numbers_apart log threads a b c d n k (inl p) (inr q) l = omega (arith, p.0, p.1, q.0, q.1)
numbers_apart log threads a b c d n k (inr p) (inl q) l = omega (arith, p.0, p.1, q.0, q.1, l)
numbers_apart log threads a b c d n k (inr p) (inr q) l = omega (arith, p.1, q.1, l)

-- an aligned access lies in one word
aligned_within : (log : Log) (threads address bytes number : ℕ) → IsNumbered log threads address bytes number → is_width bytes ≡ true →
    aligned address bytes ≡ true →
    number % 8 + bytes ≤ 8
unfolding IsNumbered
aligned_within log threads address bytes number p width is_aligned = ⊎_elim
    (λ h. ⊎_elim (λ e. of (λ (b : ℕ). within b) 1 (eqb-true _ _ e) (within_one number)) (λ e. by_two (eqb-true _ _ e)) (or_cases _ _ h))
    (λ h. ⊎_elim (λ e. by_four (eqb-true _ _ e)) (λ e. by_eight (eqb-true _ _ e)) (or_cases _ _ h))
    (or_cases _ _ width)
  where
    within : ℕ → Type 0
    within b = number % 8 + b ≤ 8

    of : (P : ℕ → Type 0) (b : ℕ) → bytes ≡ b → P b → P bytes
    of P b e h = subst (λ (x : ℕ). P x) (sym e) h

    within_one : (n : ℕ) → n % 8 + 1 ≤ 8
    within_one n = omega arith

    rest : (b : ℕ) → bytes ≡ b → address % b ≡ 0
    rest b e = ap (λ (x : ℕ). address % x) (sym e) ∙ eqb-true _ _ is_aligned

    -- a base is a whole number of words
    number_rest : (number % 8 ≡ address % 8)
    number_rest = ⊎_elim (λ q. (let e = q.1 in omega (arith, e))) (λ q. (let e = q.1 in omega (arith, e))) p

    by_two : bytes ≡ 2 → number % 8 + bytes ≤ 8
    by_two e = let r : address % 2 ≡ 0 = rest 2 e in omega (arith, r, e, number_rest)

    by_four : bytes ≡ 4 → number % 8 + bytes ≤ 8
    by_four e = let r : address % 4 ≡ 0 = rest 4 e in omega (arith, r, e, number_rest)

    by_eight : bytes ≡ 8 → number % 8 + bytes ≤ 8
    by_eight e = let r : address % 8 ≡ 0 = rest 8 e in omega (arith, r, e, number_rest)

-- an access: its place, and that it lies in one word
record IsPlaced (log : Log) (threads address bytes : ℕ) : Type 0 where
  at : IsNumbered log threads address bytes (byte_number address)
  whole : byte_number address % 8 + bytes ≤ 8

placed : (log : Log) (threads address bytes : ℕ) → is_access log threads address bytes ≡ true → IsPlaced log threads address bytes
placed log threads address bytes h =
    let p = and_parts (is_width bytes) _ h in
    let q = and_parts (in_range log threads address bytes) _ p.1 in
    let n : IsNumbered log threads address bytes (byte_number address) = numbered log threads address bytes q.0 in
    record { at = n; whole = aligned_within log threads address bytes (byte_number address) n p.0 q.1 }

-- the line of an address is there
pub line_there : (log : Log) (threads address : ℕ) → in_range log threads address 1 ≡ true → 8 * (byte_number address / 64) + 8 ≤ word_count log threads
unfolding IsNumbered
line_there log threads address inside = ⊎_elim
    (λ p. (let low = p.0 in let is = p.1 in omega (arith, low, is)))
    (λ p. (let high = p.2 in let is = p.1 in omega (arith, high, is)))
    (numbered log threads address 1 inside)

-- ---- Agreement

pub persisted_agrees : (program : List (List Slot)) (w v : World) (h : ℕ) (s : MarkedEnvironment) → length v.harts ≡ length w.harts → v.log ≡ w.log →
    ArePersisted w.words v.words →
    Agrees program w h s → Agrees program v h s
persisted_agrees program w v h s count logs r a = record {
  fetches = a.fetches;
  loads = λ address bytes value e.
      let g : LoadGives w address bytes value = a.loads address bytes value e in
      record {
        may = subst (λ (log : Log). is_access log (length v.harts) address bytes ≡ true) (sym logs)
            (subst (λ (n : ℕ). is_access w.log n address bytes ≡ true) (sym count) g.may);
        is = persisted_loads w.words v.words (byte_number address) bytes r ∙ g.is;
      };
}

pub beside_agrees : (program : List (List Slot)) (w v : World) (h : ℕ) (s : MarkedEnvironment) (address bytes value : ℕ) →
    length v.harts ≡ length w.harts → v.log ≡ w.log →
    v.words ≡ stored w.words (byte_number address) bytes value → is_access w.log (length w.harts) address bytes ≡ true → IsApart s address bytes →
    Agrees program w h s → Agrees program v h s
beside_agrees program w v h s address bytes value count logs words may apart a = record {
  fetches = a.fetches;
  loads = λ at size found e.
      let g : LoadGives w at size found = a.loads at size found e in
      let there : IsPlaced w.log (length w.harts) address bytes = placed w.log (length w.harts) address bytes may in
      let here : IsPlaced w.log (length w.harts) at size = placed w.log (length w.harts) at size g.may in
      let numbers : (byte_number at + size ≤ byte_number address) ⊎ (byte_number address + bytes ≤ byte_number at) = ⊎_elim
      (λ l. inl (numbers_apart w.log (length w.harts) at size address bytes (byte_number at) (byte_number address) here.at there.at l))
      (λ l. inr (numbers_apart w.log (length w.harts) address bytes at size (byte_number address) (byte_number at) there.at here.at l))
      (apart at size found e) in
      record {
        may = subst (λ (log : Log). is_access log (length v.harts) at size ≡ true) (sym logs)
            (subst (λ (n : ℕ). is_access w.log n at size ≡ true) (sym count) g.may);
        is = ap (λ (ws : List Word). loaded ws (byte_number at) size) words
            ∙ (beside w.words (byte_number address) bytes value (byte_number at) size numbers there.whole here.whole ∙ g.is);
      };
}

module _ (program : List (List Slot)) (w : World) (h : ℕ) (run : OnRun w h) where
  -- words that are the same are persisted
  same_persisted : (v : World) → v.words ≡ w.words → ArePersisted w.words v.words
  same_persisted v e = subst (λ (ws : List Word). ArePersisted w.words ws) (sym e) (are_persisted_refl w.words)

  by_effect : (v : World) (k : ℕ) (z : MarkedEnvironment) (e : Effect) (c : Contents) → length v.harts ≡ length w.harts → v.log ≡ w.log → v.words ≡ c.words →
      Changes (record { words = w.words; queue = run.on.hart.queue }) e c → may_go w.log (length w.harts) e ≡ true → StoresApart z e → Agrees program w k z →
      Agrees program v k z
  by_effect v k z (Continues registers pc) c count logs is changes may apart a =
      persisted_agrees program w v k z count logs (same_persisted v (is ∙ ap (λ (x : Contents). x.words) changes)) a
  by_effect v k z (Loads address bytes signed register) c count logs is changes may apart a =
      persisted_agrees program w v k z count logs (same_persisted v (is ∙ ap (λ (x : Contents). x.words) changes)) a
  by_effect v k z (Stores address bytes value) c count logs is changes may apart a =
      beside_agrees program w v k z address bytes value count logs (is ∙ ap (λ (x : Contents). x.words) changes) may apart a
  by_effect v k z (Cleans address) c count logs is changes may apart a =
      persisted_agrees program w v k z count logs (same_persisted v (is ∙ ap (λ (x : Contents). x.words) changes.1)) a
  by_effect v k z Fences c count logs is changes may apart a =
      persisted_agrees program w v k z count logs (same_persisted v (is ∙ ap (λ (x : Contents). x.words) changes.1)) a
  by_effect v k z Calls c count logs is changes may apart a = absurd changes

  pub forward_agrees : (f : GoesForward program w h run) → (k : ℕ) (z : MarkedEnvironment) → StoresApart z f.effect → Agrees program w k z →
      Agrees program (after_event program w (Step h)) k z
  forward_agrees f k z apart a =
      let count : length (after_event program w (Step h)).harts ≡ length w.harts = ap (λ (v : World). length v.harts) f.world ∙ length-set w.harts h _ in
      by_effect (after_event program w (Step h)) k z f.effect f.contents count (ap (λ (v : World). v.log) f.world)
      (ap (λ (v : World). v.words) f.world) f.changes
      (may_next program w h run f) apart a

  pub drains_agree : IsWellFormedWorld w → Drains program w h run → (k : ℕ) (z : MarkedEnvironment) → Agrees program w k z →
      Agrees program (after_event program w (Step h)) k z
  drains_agree sound d k z a =
      let entries : AreEntries w.words (d.entry ∷ d.rest) =
      subst (λ (q : List Entry). AreEntries w.words q) d.queue_is (sound.queues h run.on.hart run.on.here) in
      let count : length (after_event program w (Step h)).harts ≡ length w.harts = ap (λ (v : World). length v.harts) d.world ∙ length-set w.harts h _ in
      persisted_agrees program w (after_event program w (Step h)) k z count (ap (λ (v : World). v.log) d.world)
      (subst (λ (v : World). ArePersisted w.words v.words) (sym d.world) (write_backs_raise w.words d.entry entries.0)) a

pub evictions_agree : (program : List (List Slot)) (w : World) (line mask k : ℕ) (z : MarkedEnvironment) → Agrees program w k z →
    Agrees program (after_event program w (Evict line mask)) k z
unfolding happens
evictions_agree program w line mask k z a =
    persisted_agrees program w (after_event program w (Evict line mask)) k z refl refl (evictions_raise w.words line mask) a

-- Drawn runs, draw by draw: their events exist.
use Rattle.std.proofs.Common.{◌≡◌, ℕ, suc, ◌+◌, ◌-◌, ◌*◌, ◌/◌, ◌%◌, ◌^◌, ◌<◌, ◌≤◌, List, [], ◌∷◌, ◌++◌, length, Bool, true, false, ◌==◌}
use Rattle.std.proofs.Common.{refl, sym, ap, ◌∙◌, arith, append_assoc, count_by, drop, get_or, replicate, nat_lt, cond}
use Rattle.std.specs.Prelude.{All, if◌then◌else◌}
use Rattle.std.proofs.lemmas.List.{at_drop_more}
use Rattle.std.proofs.lemmas.List.Elements.{All-append, All-cons, All-nil, All-replicate}
use Rattle.std.proofs.lemmas.List.Sums.{sum_by-cons}
use Rattle.std.proofs.lemmas.Bool.{eqb-true, eqb-false}
use Rattle.std.proofs.lemmas.Bool.Decides.{nat_tests}
use Rattle.std.proofs.lemmas.Nat.{mod_below}
use Rattle.rand_core.specs.Steps.{first_words}
use Rattle.rand_xoshiro.specs.SplitMix64.{mix_u64}
use Rattle.machine_events.specs.declared.event.Event.{Event}
use Rattle.machine_events.specs.declared.event.Event.TheVariants.{Step, Evict, Crash}
use Rattle.machine_events.specs.Cores.{IsValid}
use Rattle.log_schemes.specs.Layout.{line_count, log_lines}
use Rattle.log_schemes.specs.declared.log.Log.{Log}
use Rattle.log_schemes.specs.declared.size.LogSize.{LogSize}
use Rattle.log_schemes.specs.declared.size.LogSize.TheVariants.{Lines16, Lines32}
use Rattle.log_schemes.specs.Schemes.{lines_of, size_of}
use Rattle.run_scripts.specs.Draws.{crashes_at, drawn_event, drawn_line, drawn_mask, drawn_run, drawn_words, events_from}
use Rattle.run_scripts.specs.Scripts.{IsEviction}

-- ---- Crash words

is_false : (b : Bool) → (b ≡ true → ⊥) → b ≡ false
is_false true h = absurd (h refl)
is_false false h = refl

abbrev one_if : Bool → ℕ
one_if b = cond b 1 0

-- a crash word that isn't this number
pub not_met : (crashes : List ℕ) (i k all : ℕ) → i < length crashes → (get_or crashes i 0 ≡ k → ⊥) → count_by (λ c. c == k) (drop i crashes) ≡ all →
    count_by (λ c. c == k) (drop (i + 1) crashes) ≡ all
not_met crashes i k all within differs so_far =
    let first : (get_or crashes i 0 == k) ≡ false = is_false (get_or crashes i 0 == k) (λ e. differs (eqb-true (get_or crashes i 0) k e)) in
    let none : one_if (get_or crashes i 0 == k) ≡ 0 = ap one_if first in
    let counted = sum_by-cons (λ c. one_if (c == k)) (get_or crashes i 0) (drop (i + 1) crashes) in
    omega (arith, at_drop_more (λ cs. count_by (λ c. c == k) cs) crashes i 0 within, counted, none, so_far)

-- ---- Lines

some_lines : (log : Log) (threads : ℕ) → 0 < threads → 0 < log_lines log * threads
some_lines log threads some = by (size_of log)
  where
    by : (size : LogSize) → 0 < lines_of size * threads
    by Lines16 = omega (arith, some)
    by Lines32 = omega (arith, some)

-- what is drawn of so many lines of the logs, and of those of the variables
abbrev drawn_of : (logs lines k : ℕ) → ℕ
drawn_of logs lines k = if nat_lt k lines then k else 1024 + (k - lines)

among_lines : (logs lines word : ℕ) → 0 < logs → lines ≤ 1024 → drawn_of logs lines (word / 2 ^ 8 % (lines + logs)) < 1024 + logs
among_lines logs lines word some within =
    by (word / 2 ^ 8 % (lines + logs)) (mod_below (word / 2 ^ 8) (lines + logs) (omega (arith, some)))
    (nat_lt (word / 2 ^ 8 % (lines + logs)) lines) refl
  where
    by : (k : ℕ) → k < lines + logs → (b : Bool) → nat_lt k lines ≡ b → cond b k (1024 + (k - lines)) < 1024 + logs
    by k below true e = let own : k < lines = grind (arith, nat_tests) in omega (arith, own, within)
    by k below false e = let past : lines ≤ k = grind (arith, nat_tests) in omega (arith, past, below)

-- ---- Draw by draw

module _ (crashes : List ℕ) (log : Log) (threads lines : ℕ) where
  pub one_draw : (draws turns state : ℕ) → draws < turns → events_from crashes log threads lines draws (first_words mix_u64 (turns - draws) state)
      ≡ crashes_at crashes draws ++
      drawn_event log threads lines (mix_u64 state).0 ∷ events_from crashes log threads lines (draws + 1)
      (first_words mix_u64 (turns - (draws + 1)) (mix_u64 state).1)
  unfolding events_from first_words
  one_draw draws turns state more =
      let left : turns - draws ≡ suc (turns - (draws + 1)) = omega (arith, more) in
      ap (λ n. events_from crashes log threads lines draws (first_words mix_u64 n state)) left

  pub no_draw : (draws turns state : ℕ) → turns ≤ draws →
      events_from crashes log threads lines draws (first_words mix_u64 (turns - draws) state) ≡ crashes_at crashes draws
  unfolding events_from first_words
  no_draw draws turns state none =
      let left : turns - draws ≡ 0 = omega (arith, none) in
      ap (λ n. events_from crashes log threads lines draws (first_words mix_u64 n state)) left

  -- one draw more
  pub drawn_on : (draws turns state word after : ℕ) (all now due new : List Event) → draws < turns → (word, after) ≡ mix_u64 state →
      due ≡ now ++ crashes_at crashes draws → new ≡ due ++ drawn_event log threads lines word ∷ [] →
      all ≡ now ++ events_from crashes log threads lines draws (first_words mix_u64 (turns - draws) state) →
      all ≡ new ++ events_from crashes log threads lines (draws + 1) (first_words mix_u64 (turns - (draws + 1)) after)
  drawn_on draws turns state word after all now due new more drawn due_is new_is so_far =
      let rest : ℕ → List Event = λ s. events_from crashes log threads lines (draws + 1) (first_words mix_u64 (turns - (draws + 1)) s) in
      let here = crashes_at crashes draws in
      let event = drawn_event log threads lines word in
      so_far ∙ ap (λ es. now ++ es) (one_draw draws turns state more)
      ∙ ap (λ (p : ℕ × ℕ). now ++ (here ++ drawn_event log threads lines p.0 ∷ rest p.1)) (sym drawn)
      ∙ sym (append_assoc now here (event ∷ rest after)) ∙ ap (λ es. es ++ event ∷ rest after) (sym due_is)
      ∙ sym (append_assoc due (event ∷ []) (rest after)) ∙ ap (λ es. es ++ rest after) (sym new_is)

  -- no draw more
  pub drawn_out : (draws turns state count : ℕ) (all now new : List Event) → turns ≤ draws → draws ≤ turns → count ≡ count_by (λ c. c == turns) crashes →
      new ≡ now ++ replicate count Crash → all ≡ now ++ events_from crashes log threads lines draws (first_words mix_u64 (turns - draws) state) → new ≡ all
  drawn_out draws turns state count all now new past within count_is new_is so_far =
      let last : draws ≡ turns = omega (arith, past, within) in
      new_is ∙ ap (λ n. now ++ replicate n Crash) count_is ∙ ap (λ n. now ++ crashes_at crashes n) (sym last)
      ∙ ap (λ es. now ++ es) (sym (no_draw draws turns state past)) ∙ sym so_far

  pub some_threads : (seed turns : ℕ) → 0 < threads →
      events_from crashes log threads lines 0 (drawn_words seed turns) ≡ drawn_run seed turns crashes log threads lines
  unfolding drawn_run
  some_threads seed turns some = by (threads == 0) refl
    where
      by : (b : Bool) → (threads == 0) ≡ b → events_from crashes log threads lines 0 (drawn_words seed turns)
          ≡ cond b [] (events_from crashes log threads lines 0 (drawn_words seed turns))
      by true e = absurd (omega (arith, eqb-true threads 0 e, some))
      by false e = refl

  -- ---- Their events exist

  module _ (some : 0 < threads) (few : threads ≤ 8) (within : lines ≤ 1024) where
    line_exists : (word : ℕ) → drawn_line log threads lines word < line_count log threads
    line_exists word = among_lines (log_lines log * threads) lines word (some_lines log threads some) within

    event_valid : (word : ℕ) → IsValid threads (IsEviction log threads) (drawn_event log threads lines word)
    unfolding drawn_event
    event_valid word = by (word % 16 == 15)
      where
        mask_fits : drawn_mask word ≤ 255
        mask_fits = omega (arith, mod_below (word / 2 ^ 40) 256 (omega arith))

        by : (b : Bool) → IsValid threads (IsEviction log threads)
            (cond b (Evict (drawn_line log threads lines word) (drawn_mask word)) (Step (word / 2 ^ 8 % threads)))
        by true = (line_exists word, mask_fits)
        by false = mod_below (word / 2 ^ 8) threads some

    crashes_valid : (draws : ℕ) → All (IsValid threads (IsEviction log threads)) (crashes_at crashes draws)
    crashes_valid draws = All-replicate (IsValid threads (IsEviction log threads)) (count_by (λ c. c == draws) crashes) Crash tt

    events_valid : (draws : ℕ) (words : List ℕ) → All (IsValid threads (IsEviction log threads)) (events_from crashes log threads lines draws words)
    unfolding events_from
    events_valid draws [] = crashes_valid draws
    events_valid draws (w ∷ ws) =
        All-append (IsValid threads (IsEviction log threads)) (crashes_at crashes draws)
        (drawn_event log threads lines w ∷ events_from crashes log threads lines (draws + 1) ws) (crashes_valid draws)
        (All-cons (IsValid threads (IsEviction log threads)) (drawn_event log threads lines w) (events_from crashes log threads lines (draws + 1) ws)
        (event_valid w)
        (events_valid (draws + 1) ws))

-- ---- Whole runs

module _ (seed turns : ℕ) (crashes : List ℕ) (log : Log) (threads lines : ℕ) where
  pub run_valid : threads ≤ 8 → lines ≤ 1024 → All (IsValid threads (IsEviction log threads)) (drawn_run seed turns crashes log threads lines)
  unfolding drawn_run
  run_valid few within = by (threads == 0) refl
    where
      by : (b : Bool) → (threads == 0) ≡ b → All (IsValid threads (IsEviction log threads))
          (cond b [] (events_from crashes log threads lines 0 (drawn_words seed turns)))
      by true e = All-nil (IsValid threads (IsEviction log threads))
      by false e =
          let none : threads ≡ 0 → ⊥ = eqb-false threads 0 e in
          let some : 0 < threads = omega (arith, none) in
          events_valid crashes log threads lines some few within 0 (drawn_words seed turns)

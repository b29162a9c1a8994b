-- A machine that begins with words of variables and with logs without a word: every hart is settled.
use Rattle.std.proofs.Common.{◌≡◌, Bool, ℕ, zero, suc, ◌+◌, ◌-◌, ◌*◌, ◌<◌, ◌≤◌, List, [], ◌∷◌, ◌++◌, length, map, replicate, take, get_or, refl, ap, ap₂}
use Rattle.std.proofs.Common.{◌∙◌, arith, true, false, not, Option, Some, None, zero-add}
use Rattle.std.specs.Prelude.{◌==◌, ◌&&◌, is_none}
use Rattle.log_schemes.specs.declared.log.Log.{Log}
use Rattle.ido_base.specs.Layout.{spread_words, word_number}
use Rattle.log_schemes.specs.Layout.{log_words, point_at}
use Rattle.ido_base.specs.Locks.{held_from, holds_none}
use Rattle.ido_base.specs.Words.{Word, durable_value, live_value, word_at, word_of}
use Rattle.rv64_isa.specs.declared.object.Slot.{Slot}
use Rattle.machine_model.specs.Machine.{Hart, World, after_crash_of, durable_point, fresh_hart, has_stopped, is_settled_hart, phase_after_crash}
use Rattle.run_tracker.specs.ObjectLives.{is_stopped}
use Rattle.crash_simulation.proofs.Public.{row_of}
use Rattle.log_states.proofs.Public.{word_of_point}
use Rattle.image_runs.proofs.Public.{word_there, words_are}
use Rattle.ido_cli.specs.Reports.{unsettled_harts}
use Rattle.ido_cli.proofs.SettledReports.{none_chosen}

-- ---- Numbers in lists

zero_at : (n i : ℕ) → ◌≡◌ {A = ℕ} (get_or (replicate n 0) i 0) 0
zero_at zero i = refl
zero_at (suc n) zero = refl
zero_at (suc n) (suc i) = zero_at n i

zeros_at : (m n i : ℕ) → ◌≡◌ {A = ℕ} (get_or (replicate m 0 ++ replicate n 0) i 0) 0
zeros_at zero n i = zero_at n i
zeros_at (suc m) n zero = refl
zeros_at (suc m) n (suc i) = zeros_at m n i

zeros_after : (xs : List ℕ) (m n i : ℕ) → length xs ≤ i → get_or (xs ++ replicate m 0 ++ replicate n 0) i 0 ≡ 0
zeros_after [] m n i past = zeros_at m n i
zeros_after (x ∷ xs) m n zero past = absurd (omega (arith, past))
zeros_after (x ∷ xs) m n (suc i) past = zeros_after xs m n i (omega (arith, past))

first_of : (xs ys zs : List ℕ) (i : ℕ) → i < length xs → get_or (xs ++ ys ++ zs) i 0 ≡ get_or xs i 0
first_of [] ys zs i below = absurd (omega (arith, below))
first_of (x ∷ xs) ys zs zero below = refl
first_of (x ∷ xs) ys zs (suc i) below = first_of xs ys zs i (omega (arith, below))

value_of : (n i : ℕ) (ws : List Word) → i < n → get_or (take n (map durable_value ws)) i 0 ≡ durable_value (word_at ws i)
value_of zero i ws below = absurd (omega (arith, below))
value_of (suc n) i [] below = refl
value_of (suc n) zero (w ∷ ws) below = refl
value_of (suc n) (suc i) (w ∷ ws) below = value_of n i ws (omega (arith, below))

-- ---- Locks that nobody holds

none_held : (n at h : ℕ) → held_from at (replicate n None) h ≡ None
none_held zero at h = refl
none_held (suc n) at h = none_held n (at + 1) h

-- ---- The machine

-- the hart that is found has stopped
abbrev stopped_in : Option Hart → Bool
stopped_in found = elim found [
  | Some it ↦ has_stopped it.phase
  | None ↦ false
]

module _ (variables : List ℕ) (count : ℕ) (few : length variables ≤ 8192) where
  abbrev words : List ℕ
  words = spread_words (length variables) (variables ++ replicate count 0)

  -- a word past the variables is 0
  past_is : (i : ℕ) → length variables ≤ i → word_at (map word_of words) i ≡ word_of 0
  past_is i past =
      word_there words i
      ∙ ap word_of (ap (λ (ws : List ℕ). get_or ws i 0) (words_are variables (replicate count 0) few)
      ∙ zeros_after variables (8192 - length variables) count i past)

  own_is : (i : ℕ) → i < length variables → word_at (map word_of words) i ≡ word_of (get_or variables i 0)
  own_is i below =
      word_there words i
      ∙ ap word_of (ap (λ (ws : List ℕ). get_or ws i 0) (words_are variables (replicate count 0) few)
      ∙ first_of variables (replicate (8192 - length variables) 0) (replicate count 0) i below)

  beyond : (number rest : ℕ) → number ≡ 8192 + rest → length variables ≤ number
  beyond number rest is = omega (arith, few, is)

  pub point_is : (log : Log) (h : ℕ) → word_at (map word_of words) (word_number (point_at log h)) ≡ word_of 0
  point_is log h = past_is (word_number (point_at log h)) (beyond (word_number (point_at log h)) (log_words log * h) (word_of_point log h))

  module _ (log : Log) (program : List (List Slot)) (locks : ℕ) where
    abbrev begun : World
    begun = after_crash_of log program locks words

    hart_settled : (h : ℕ) → is_settled_hart begun h ≡ true
    unfolding after_crash_of
    hart_settled h =
        let free : holds_none (replicate locks None) h ≡ true = ap is_none (none_held locks 0 h) in
        ap₂ (λ (a b : Bool). a && b) free
        (ap₂ (λ (v w : Word). (durable_value v == 0) && (live_value w == 0)) (point_is log h) (point_is log h))

    pub all_settled : unsettled_harts begun ≡ []
    all_settled = none_chosen (λ h. not (is_settled_hart begun h)) 0 (length begun.harts) (λ h. ap not (hart_settled h))

    -- no hart has a point, so each is done
    pub all_stopped : (h : ℕ) → h < length program → is_stopped begun h ≡ true
    unfolding after_crash_of
    all_stopped h below =
        let hart : ℕ → Hart = λ (thread : ℕ). fresh_hart program (phase_after_crash (durable_point log (map word_of words) thread)) thread in
        let none : durable_point log (map word_of words) h ≡ 0 = ap durable_value (point_is log h) in
        ap stopped_in (row_of hart 0 (length program) h below ∙ ap (λ (k : ℕ). Some (hart k)) (zero-add h))
        ∙ ap (λ (point : ℕ). has_stopped (phase_after_crash point)) none

    -- where the variables are what is durable in other words
    pub own_stays : (ws : List Word) (n : ℕ) → variables ≡ take n (map durable_value ws) → length variables ≡ n → (i : ℕ) → i < n →
        durable_value (word_at begun.words i) ≡ durable_value (word_at ws i)
    unfolding after_crash_of
    own_stays ws n is long i below =
        ap durable_value (own_is i (omega (arith, long, below))) ∙ ap (λ (vs : List ℕ). get_or vs i 0) is ∙ value_of n i ws below

-- The words of an image's logs, where its machine has them.
use Rattle.std.proofs.Common.{◌≡◌, refl, ℕ, zero, suc, ◌+◌, ◌-◌, ◌/◌, ◌<◌, ◌≤◌, List, [], ◌∷◌, ◌++◌, length, map, replicate, get_or, ap, ap₂, sym, ◌∙◌, subst}
use Rattle.std.proofs.Common.{arith, cond, ◌^◌}
use Rattle.std.specs.Prelude.{slice_index}
use Rattle.std.specs.List.{AllByRecursion}
use Rattle.std.proofs.Math.Seq.{take-append_seam, drop-append_seam}
use Rattle.std.proofs.lemmas.Bool.{le-ltb}
use Rattle.std.proofs.lemmas.List.{length-append, length-replicate, get_or-append_right}
use Rattle.ido_base.specs.Words.{word_of, word_at, durable_value}
use Rattle.ido_base.specs.Layout.{variables_base, logs_base, word_number, spread_words}
use Rattle.file_fields.specs.Numbers.{IsWord}
use Rattle.machine_model.specs.Machine.{durable_at}
use Rattle.log_states.specs.Logs as logs
use Rattle.image_checks.specs.Logs.{logged}

pub word_there : (ws : List ℕ) (k : ℕ) → word_at (map word_of ws) k ≡ word_of (get_or ws k 0)
word_there [] k = refl
word_there (w ∷ ws) zero = refl
word_there (w ∷ ws) (suc k) = word_there ws k

pub word_fits : (v : ℕ) → v < 2 ^ 64 → logs.IsWord (word_of v)
word_fits v h = record { durable = omega arith; values = one }
  where
    one : (p : ℕ) → slice_index (v ∷ []) p < 2 ^ 64
    one zero = h
    one (suc p) = omega arith

fits_at : (ws : List ℕ) (k : ℕ) → AllByRecursion IsWord ws → get_or ws k 0 < 2 ^ 64
fits_at [] k h = omega arith
fits_at (w ∷ ws) zero h = h.0
fits_at (w ∷ ws) (suc k) h = fits_at ws k h.1

zeros_fit : (n k : ℕ) → get_or (replicate n 0) k 0 < 2 ^ 64
zeros_fit zero k = omega arith
zeros_fit (suc n) zero = omega arith
zeros_fit (suc n) (suc k) = zeros_fit n k

both_fit : (us vs : List ℕ) → ((k : ℕ) → get_or us k 0 < 2 ^ 64) → ((k : ℕ) → get_or vs k 0 < 2 ^ 64) → (k : ℕ) → get_or (us ++ vs) k 0 < 2 ^ 64
both_fit [] vs a b k = b k
both_fit (u ∷ us) vs a b zero = a 0
both_fit (u ∷ us) vs a b (suc k) = both_fit us vs (λ j. a (suc j)) b k

module _ (variables logs : List ℕ) (few : length variables ≤ 8192) where
  abbrev pub words : List ℕ
  words = spread_words (length variables) (variables ++ logs)

  abbrev zeros : List ℕ
  zeros = replicate (8192 - length variables) 0

  pub words_are : words ≡ variables ++ zeros ++ logs
  unfolding spread_words
  words_are = ap₂ (λ (us vs : List ℕ). us ++ zeros ++ vs) (take-append_seam variables logs) (drop-append_seam variables logs)

  prefix : length (variables ++ zeros) ≡ 8192
  prefix =
      let both = length-append variables zeros in
      let none : length zeros ≡ 8192 - length variables = length-replicate (8192 - length variables) 0 in
      omega (arith, both, none, few)

  pub size : length words ≡ 8192 + length logs
  size = ap (λ (ws : List ℕ). length ws) words_are ∙ (length-append (variables ++ zeros) logs ∙ ap (λ (n : ℕ). n + length logs) prefix)

  pub bits : AllByRecursion IsWord variables → AllByRecursion IsWord logs → (k : ℕ) → slice_index words k < 2 ^ 64
  bits own log k =
      subst (λ (ws : List ℕ). get_or ws k 0 < 2 ^ 64) (sym words_are)
      (both_fit (variables ++ zeros) logs (both_fit variables zeros (λ j. fits_at variables j own) (zeros_fit (8192 - length variables)))
      (λ j. fits_at logs j log) k)

  log_there : (i : ℕ) → get_or words (8192 + i) 0 ≡ get_or logs i 0
  log_there i =
      let at : 8192 + i - 8192 ≡ i = omega arith in
      ap (λ (ws : List ℕ). get_or ws (8192 + i) 0) words_are
      ∙ (get_or-append_right (variables ++ zeros) logs 8192 (8192 + i) 0 prefix (omega arith) ∙ ap (λ (k : ℕ). get_or logs k 0) at)

  pub logged_there : (address : ℕ) → logs_base ≤ address → durable_at (map word_of words) address ≡ logged logs address
  logged_there address above =
      let i : ℕ = (address - logs_base) / 8 in
      let number : word_number address ≡ 8192 + i =
      ap (λ b. cond b (address - variables_base) (65536 + (address - logs_base)) / 8) (le-ltb address logs_base above) ∙ omega arith in
      ap (λ (k : ℕ). durable_value (word_at (map word_of words) k)) number
      ∙ (ap durable_value (word_there words (8192 + i)) ∙ log_there i)

-- One word of a log: what a store of all its bytes makes of it, and what it is once it is persisted.
use Rattle.std.proofs.Common.{◌≡◌, ◌≢◌, inl, inr, ℕ, zero, suc, ◌+◌, ◌-◌, ◌/◌, ◌%◌, ◌^◌, ◌<◌, ◌≤◌, List, [], ◌∷◌, length, refl, ap, arith, sym, ◌∙◌, subst}
use Rattle.std.proofs.Common.{get_or}
use Rattle.std.proofs.lemmas.Bool.{cases_lt}
use Rattle.std.proofs.lemmas.List.{get_or_append_left, get_or-append_right, get_or_past}
use Rattle.std.proofs.Math.ListN.{length-append}
use Rattle.ido_base.specs.Words.{Word, word_of, word_at, last_position, live_value, durable_value, with_value, part, with_part, stored, after_crash}
use Rattle.ido_base.specs.Growth.{IsPersisted}
use Rattle.ido_base.proofs.Public.{same_last, stores_change, word_same, word_other}
use Rattle.log_states.specs.Logs.{IsWord, IsDurable}
use Rattle.log_states.specs.Laws.{DurableIsStable}

-- ---- Persisted words

pub persisted_live : (u v : Word) → IsPersisted u v → live_value v ≡ live_value u
persisted_live u v r = ap (λ (xs : List ℕ). get_or xs (length xs - 1) 0) r.values

pub persisted_at : (u v : Word) → IsPersisted u v → (p : ℕ) → get_or v.values p 0 ≡ get_or u.values p 0
persisted_at u v r p = ap (λ (xs : List ℕ). get_or xs p 0) r.values

pub persisted_word : (u v : Word) → IsPersisted u v → IsWord u → IsWord v
persisted_word u v r w = record {
  durable = omega (arith, same_last u v r, r.no_higher w.durable);
  values = λ p. omega (arith, persisted_at u v r p, w.values p);
}

pub persisted_durable : (u v : Word) (value : ℕ) → IsPersisted u v → IsDurable u value → IsDurable v value
persisted_durable u v value r d = record {
  durable = omega (arith, same_last u v r, d.durable, r.no_lower, r.no_higher (omega (arith, d.durable)));
  live = persisted_live u v r ∙ d.live;
}

-- ---- Words stored to whole

pub whole : (value new : ℕ) → value < 2 ^ 64 → new < 2 ^ 64 → with_part value 0 8 new ≡ new
whole value new below fits = omega (arith, below, fits)

pub word_stored : (words : List Word) (number new : ℕ) → number % 8 ≡ 0 → number / 8 < length words → IsWord (word_at words (number / 8)) → new < 2 ^ 64 →
    word_at (stored words number 8 new) (number / 8) ≡ with_value (word_at words (number / 8)) new
word_stored words number new aligned inside is fits =
    let w = word_at words (number / 8) in
    let e : with_part (live_value w) (number % 8) 8 new ≡ new = ap (λ (n : ℕ). with_part (live_value w) n 8 new) aligned
    ∙ whole (live_value w) new (is.values (last_position w)) fits in
    word_same words (number / 8) (with_value w (with_part (live_value w) (number % 8) 8 new)) inside ∙ ap (λ (n : ℕ). with_value w n) e

pub word_beside : (words : List Word) (number count new j : ℕ) → j ≢ number / 8 → word_at (stored words number count new) j ≡ word_at words j
word_beside words number count new j ne = word_other words (number / 8) j
    (with_value (word_at words (number / 8)) (with_part (live_value (word_at words (number / 8))) (number % 8) count new)) ne

pub stored_length : (w : Word) (new : ℕ) → length (with_value w new).values ≡ length w.values + 1
stored_length w new = length-append w.values (new ∷ [])

pub stored_last : (w : Word) (new : ℕ) → last_position (with_value w new) ≡ length w.values
stored_last w new = omega (arith, stored_length w new)

pub stored_before : (w : Word) (new p : ℕ) → p < length w.values → get_or (with_value w new).values p 0 ≡ get_or w.values p 0
stored_before w new p below = get_or_append_left w.values (new ∷ []) 0 p below

pub stored_after : (w : Word) (new p : ℕ) → length w.values ≤ p → get_or (with_value w new).values p 0 ≡ get_or (new ∷ []) (p - length w.values) 0
stored_after w new p above = get_or-append_right w.values (new ∷ []) (length w.values) p 0 refl above

pub stored_live : (w : Word) (new : ℕ) → live_value (with_value w new) ≡ new
stored_live w new =
    let none : length w.values - length w.values ≡ 0 = omega arith in
    ap (λ (p : ℕ). get_or (with_value w new).values p 0) (stored_last w new) ∙ stored_after w new (length w.values) (omega arith)
    ∙ ap (λ (k : ℕ). get_or (new ∷ []) k 0) none

one_below : (new k : ℕ) → new < 2 ^ 64 → get_or (new ∷ []) k 0 < 2 ^ 64
one_below new zero fits = fits
one_below new (suc k) fits = omega arith

pub stored_word : (w : Word) (new : ℕ) → IsWord w → new < 2 ^ 64 → IsWord (with_value w new)
stored_word w new is fits = record {
  durable = omega (arith, is.durable, stored_last w new);
  values = λ p. elim (cases_lt p (length w.values)) [
    | inl before ↦ omega (arith, stored_before w new p before, is.values p)
    | inr after ↦ omega (arith, stored_after w new p after, one_below new (p - length w.values) fits)
  ];
}

whole_below : (value new : ℕ) → value < 2 ^ 64 → with_part value 0 8 new < 2 ^ 64
whole_below value new below = omega (arith, below)

-- a store of a whole word, whatever is stored
pub any_stored : (words : List Word) (number count new : ℕ) → number % 8 ≡ 0 → count ≡ 8 → IsWord (word_at words (number / 8)) →
    IsWord (word_at (stored words number count new) (number / 8))
any_stored words number count new aligned eight is =
    let w = word_at words (number / 8) in
    let value : ℕ = with_part (live_value w) (number % 8) count new in
    elim (cases_lt (number / 8) (length words)) [
      | inl inside ↦
          let e : value ≡ with_part (live_value w) 0 8 new =
          ap (λ (n : ℕ). with_part (live_value w) n count new) aligned ∙ ap (λ (n : ℕ). with_part (live_value w) 0 n new) eight in
          let fits : value < 2 ^ 64 = subst (λ (n : ℕ). n < 2 ^ 64) (sym e) (whole_below (live_value w) new (is.values (last_position w))) in
          subst (λ (v : Word). IsWord v) (sym (word_same words (number / 8) (with_value w value) inside)) (stored_word w value is fits)
      | inr past ↦
          let size = (stores_change words number count new).size in
          subst (λ (v : Word). IsWord v)
          (get_or_past words (number / 8) (word_of 0) past
          ∙ sym (get_or_past (stored words number count new) (number / 8) (word_of 0) (omega (arith, past, size)))) is
    ]

-- ---- Crashes

pub durable_is : (w : Word) (value : ℕ) → IsDurable w value → durable_value w ≡ value
durable_is w value d = ap (λ (p : ℕ). get_or w.values p 0) d.durable ∙ d.live

pub crashed_durable : (w : Word) → IsDurable (after_crash w) (durable_value w)
crashed_durable w = record { durable = refl; live = refl }

pub crashed_word : (w : Word) → IsWord w → IsWord (after_crash w)
crashed_word w is = record { durable = omega arith; values = λ p. one_below (durable_value w) p (is.values w.durable) }

-- ---- What is durable is stable

pub durable_is_stable : DurableIsStable
durable_is_stable w value fits d p from below =
    let last : p ≡ last_position w = omega (arith, from, below, d.durable) in
    ap (λ (k : ℕ). part (get_or w.values k 0) 0 8) last ∙ ap (λ (n : ℕ). part n 0 8) d.live ∙ whole_part value fits
  where
    whole_part : (n : ℕ) → n < 2 ^ 64 → part n 0 8 ≡ n
    whole_part n small = omega (arith, small)

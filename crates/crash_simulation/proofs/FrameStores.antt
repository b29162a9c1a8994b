-- A store of a whole word of a thread's frame: what it leaves in that word, and in the others.
use Rattle.crash_simulation.proofs.Common.{◌≡◌, ◌≢◌, ℕ, List, [], ◌∷◌, ◌++◌, sym, ◌∙◌, ap, arith, subst, refl, ◌-◌, ◌*◌, ◌/◌, ◌%◌, ◌^◌, ◌<◌, length, inl, inr}
use Rattle.crash_simulation.proofs.Common.{length-append, Word, byte_number, frame_at, Log, World, HasView, IsFrameWord, LogView, frame_in, frame_word}
use Rattle.crash_simulation.proofs.Common.{live_value, with_word, word_at, word_beside, same_or_other, cond-true, cond-false, eq-eqb, ne_eqb, word_number}
use Rattle.std.specs.Prelude.{slice_index}
use Rattle.ido_base.specs.Growth.{IsPersisted}
use Rattle.ido_base.specs.Words.{part, stored, with_part, with_value}
use Rattle.ido_base.proofs.Public.{part_own, persisted_refl, word_same}
use Rattle.log_states.specs.Logs.{HasLog}
use Rattle.log_schemes.specs.SchemeFacts.{frame_index}
use Rattle.log_states.proofs.Public.{frame_in_log, frame_inside, word_of_point}
use Rattle.crash_simulation.proofs.NodeEnvironments.{part_whole, whole_frame}

last_of : (xs : List ℕ) (x : ℕ) → slice_index (xs ++ x ∷ []) (length xs) ≡ x
last_of [] x = refl
last_of (y ∷ xs) x = last_of xs x

live_with : (w : Word) (x : ℕ) → live_value (with_value w x) ≡ x
live_with w x =
    let place : length (w.values ++ x ∷ []) - 1 ≡ length w.values = omega (arith, length-append w.values (x ∷ [])) in
    ap (slice_index (w.values ++ x ∷ [])) place ∙ last_of w.values x

-- a word of the frame is in memory
frame_exists : (log : Log) (n own : ℕ) (words : List Word) → HasLog log n words → IsFrameWord log own → frame_word log n own < length words
frame_exists log n own words has is =
    omega (arith, has.exists, frame_in_log log n own, frame_inside log own is, word_of_point log n)

-- thread n stores the value into a word of its frame, from the one machine to the other
pub record StoresInFrame (w v : World) (n : ℕ) : Type 0 where
  pub own : ℕ
  pub is : IsFrameWord w.log own
  pub value : ℕ
  pub small : value < 2 ^ 64
  pub words : v.words ≡ stored w.words (byte_number (frame_at w.log n own)) 8 value
  pub log : v.log ≡ w.log
  pub before : HasLog w.log n w.words
  pub after : HasLog w.log n v.words

module _ {w v : World} {n : ℕ} (st : StoresInFrame w v n) where
  open st use {own, is, value}

  abbrev number : ℕ
  number = byte_number (frame_at w.log n own)

  abbrev old : ℕ
  old = live_value (word_at w.words (number / 8))

  there : word_at v.words (number / 8) ≡ with_value (word_at w.words (number / 8)) (with_part old (number % 8) 8 value)
  there = ap (λ (ws : List Word). word_at ws (number / 8)) st.words
      ∙ word_same w.words (number / 8) (with_value (word_at w.words (number / 8)) (with_part old (number % 8) 8 value))
      (frame_exists w.log n own w.words st.before is)

  -- it has the value then
  pub value_there : live_value (frame_in w.log v.words n own) ≡ value
  value_there =
      let live : live_value (frame_in w.log v.words n own) ≡ with_part old 0 8 value =
      ap live_value there ∙ (live_with (word_at w.words (number / 8)) (with_part old (number % 8) 8 value)
      ∙ ap (λ (k : ℕ). with_part old k 8 value) (whole_frame w.log n own)) in
      let fits : live_value (frame_in w.log v.words n own) < 2 ^ 64 =
      subst (λ (j : ℕ). live_value (word_at v.words j) < 2 ^ 64) (sym (frame_in_log w.log n own))
      ((st.after.each (frame_index own) (frame_inside w.log own is)).values _) in
      sym (part_whole _ fits) ∙ (ap (λ (x : ℕ). part x 0 8) live ∙ (part_own old 0 8 value ∙ small_is))
    where
      small_is : value % 2 ^ (8 * 8) ≡ value
      small_is = omega (arith, st.small)

  -- the others are as they were
  apart_there : (other : ℕ) → other ≢ own → frame_word w.log n other ≢ number / 8
  apart_there other apart e = apart (omega (arith, e, frame_in_log w.log n other, frame_in_log w.log n own))

  pub others_there : (other : ℕ) → other ≢ own → frame_in w.log v.words n other ≡ frame_in w.log w.words n other
  others_there other apart = ap (λ (ws : List Word). word_at ws (frame_word w.log n other)) st.words
      ∙ word_beside w.words number 8 value (frame_word w.log n other) (apart_there other apart)

  pub others_persist : (other : ℕ) → other ≢ own → IsPersisted (frame_in w.log w.words n other) (frame_in w.log v.words n other)
  others_persist other apart =
      subst (λ (x : Word). IsPersisted (frame_in w.log w.words n other) x) (sym (others_there other apart)) (persisted_refl _)

  -- the thread's log is seen with it
  pub view_stored : (view : LogView) → HasView w n view → HasView v n (with_word view (frame_at w.log n own) value)
  view_stored view has other framed =
      subst (λ (l : Log). IsFrameWord l other → live_value (frame_in l v.words n other)
      ≡ (with_word view (frame_at w.log n own) value).frame (frame_at l n other)) (sym st.log) by framed
    where
      by : IsFrameWord w.log other → live_value (frame_in w.log v.words n other) ≡ (with_word view (frame_at w.log n own) value).frame (frame_at w.log n other)
      by here = elim (same_or_other other own) [
        | inl same ↦
            subst (λ (k : ℕ). live_value (frame_in w.log v.words n k) ≡ (with_word view (frame_at w.log n own) value).frame (frame_at w.log n k)) (sym same)
            (value_there ∙ sym (cond-true _ value (view.frame (frame_at w.log n own)) (eq-eqb (frame_at w.log n own) (frame_at w.log n own) refl)))
        | inr apart ↦
            ap live_value (others_there other apart) ∙ (has other here
            ∙ sym (cond-false _ value (view.frame (frame_at w.log n other)) (ne_eqb (frame_at w.log n other) (frame_at w.log n own)
            (λ e. apart_there other apart (ap word_number e)))))
      ]

-- In a section the words of a thread's frame are on their way to be durable, whatever happens.
use Rattle.crash_simulation.proofs.Common.{◌≡◌, ℕ, List, sym, arith, subst, ◌++◌, ◌<◌, ◌≤◌, ◌/◌, ◌⊎◌, inl, inr, false, Contains, PersistsThrough}
use Rattle.crash_simulation.proofs.Common.{last_position, Log, Hart, World, Effect, Cleans, frame_at, fences_ahead, Code, AbstractRun, System, ThreadGhost}
use Rattle.crash_simulation.proofs.Common.{IsFrameWord, frame_in, frame_word, IsFrameComing, IsFrameFlushed, frame_ahead, frame_reached}
use Rattle.ido_base.specs.Growth.{IsPersisted}
use Rattle.ido_base.proofs.Public.{same_last}

-- what becomes of the frame of thread n from the one machine to the other, where it has these effects ahead and its hart that queue
module _ (w v : World) (n : ℕ) (old after : Hart) (ahead later : List Effect) where
  -- its words keep their values
  abbrev pub FrameStays : Type 0
  FrameStays = (word : ℕ) → IsFrameWord w.log word → IsPersisted (frame_in w.log w.words n word) (frame_in w.log v.words n word)

  -- all words of a line of it are queued as they were
  abbrev pub IsLineQueued : (other : ℕ) → Type 0
  IsLineQueued other = (word : ℕ) → IsFrameWord w.log word → other / 8 ≡ word / 8 →
      PersistsThrough v.words after.queue (frame_word w.log n word) (last_position (frame_in w.log w.words n word))

  -- a clean of it that was ahead is so still, or has been made
  abbrev pub CleansStay : Type 0
  CleansStay = (other : ℕ) → Contains ahead (Cleans (frame_at w.log n other)) → Contains later (Cleans (frame_at w.log n other)) ⊎ IsLineQueued other

module _ (y : System) (w v : World) (b next : AbstractRun y) (code : Code y.plan) (c new : ThreadGhost) (old after : Hart) where
  open code.thread use {number as n}

  -- a word that was on its way is so still
  pub frame_still : v.log ≡ w.log → FrameStays w v n old after (c.cleans ++ c.rest) (new.cleans ++ new.rest) →
      ((j position : ℕ) → PersistsThrough w.words old.queue j position → PersistsThrough v.words after.queue j position) →
      CleansStay w v n old after (c.cleans ++ c.rest) (new.cleans ++ new.rest) → (word : ℕ) → IsFrameWord v.log word →
      (new.committed ≡ false → fences_ahead new.rest < 2 → last_position (frame_in v.log v.words n word) ≤ (frame_in v.log v.words n word).durable) →
      IsFrameFlushed y w b code c old word → IsFrameFlushed y v next code new after word
  frame_still log stays reach cleans word framed fenced f = record { comes = by f.comes; fenced = fenced }
    where
      is : IsFrameWord w.log word
      is = subst (λ (l : Log). IsFrameWord l word) log framed

      reached : PersistsThrough v.words after.queue (frame_word w.log n word) (last_position (frame_in w.log w.words n word)) →
          IsFrameComing y v next code new after word
      reached r =
          frame_reached (subst (λ (l : Log). PersistsThrough v.words after.queue (frame_word l n word) (last_position (frame_in l v.words n word))) (sym log)
          (subst (λ (position : ℕ). PersistsThrough v.words after.queue (frame_word w.log n word) position) (sym (same_last _ _ (stays word is))) r))

      by : IsFrameComing y w b code c old word → IsFrameComing y v next code new after word
      by (frame_reached r) = reached (reach (frame_word w.log n word) (last_position (frame_in w.log w.words n word)) r)
      by (frame_ahead other has line) = elim (cleans other has) [
        | inl still ↦ frame_ahead other (subst (λ (l : Log). Contains (new.cleans ++ new.rest) (Cleans (frame_at l n other))) (sym log) still) line
        | inr queued ↦ reached (queued word is line)
      ]

  -- one that was durable is so still
  pub durable_still : v.log ≡ w.log → FrameStays w v n old after (c.cleans ++ c.rest) (new.cleans ++ new.rest) → (word : ℕ) → IsFrameWord v.log word →
      last_position (frame_in w.log w.words n word) ≤ (frame_in w.log w.words n word).durable →
      last_position (frame_in v.log v.words n word) ≤ (frame_in v.log v.words n word).durable
  durable_still log stays word framed low =
      let is : IsFrameWord w.log word = subst (λ (l : Log). IsFrameWord l word) log framed in
      let p = stays word is in
      let same = same_last _ _ p in
      subst (λ (l : Log). last_position (frame_in l v.words n word) ≤ (frame_in l v.words n word).durable) (sym log) (omega (arith, low, same, p.no_lower))

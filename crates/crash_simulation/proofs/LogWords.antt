-- Words of a thread's log: where a record has them durably.
use Rattle.crash_simulation.proofs.Common.{◌≡◌, ℕ, List, [], ◌∷◌, ◌++◌, sym, ◌∙◌, ap, subst, Bool, true, false, refl, true≢false, not}
use Rattle.crash_simulation.proofs.Common.{list_any, and_parts, eqb-true, Word, last_position, word_at, word_number, point_at, Log, Effect, Stores}
use Rattle.crash_simulation.proofs.Common.{Record, LogConfig, LogIs, is_store, is_committed, point_in, address_of, contains_first, or_right}
use Rattle.boundary_code.specs.Boundaries.{commit_effects}
use Rattle.machine_model.specs.Machine.{bank_of}
use Rattle.log_states.specs.Logs.{IsRecorded, HasBank, bank_word}
use Rattle.log_states.specs.Stages.{IsWriting, Stage, Writing, Written, Pointed, PointQueued, Over, cleans_of, frame_cleans, stores_of}
use Rattle.crash_simulation.specs.ThreadGhosts.{IsWordOf, of_point, of_slot}

-- all that is stored into the word is durable
abbrev pub IsSettledWord : List Word → (word : ℕ) → Type 0
IsSettledWord words word = (word_at words word).durable ≡ last_position (word_at words word)

module _ (log : Log) (thread : ℕ) where
  -- a bank and a point that are durable are all words of their record
  all_settled : (r : Record) (words : List Word) → (point_in log words thread).durable ≡ last_position (point_in log words thread) →
      HasBank log thread r words →
      (word : ℕ) → IsWordOf log thread r word → IsSettledWord words word
  all_settled r words point bank word (of_point same) = subst (IsSettledWord words) (sym same) point
  all_settled r words point bank word (of_slot slot among same) = subst (IsSettledWord words) (sym same) (bank slot among).durable

  -- those of a record that the log has
  pub recorded_settled : (r : Record) (words : List Word) → IsRecorded log thread r words → (word : ℕ) → IsWordOf log thread r word → IsSettledWord words word
  recorded_settled r words is = all_settled r words is.point.durable is.bank

  -- a boundary that has effects ahead up to its point's store stores
  stores_point_later : (effects : List Effect) (point : ℕ) → list_any is_store (effects ++ commit_effects log thread point) ≡ true
  stores_point_later [] point = refl
  stores_point_later (effect ∷ effects) point = or_right (is_store effect) _ (stores_point_later effects point)

  module _ (old new : Record) (m : LogConfig) (l : LogIs log thread old new m) where
    -- those of a boundary that is committed
    pub committed_settled : is_committed log thread m ≡ true → (word : ℕ) → IsWordOf log thread new word → IsSettledWord m.words word
    committed_settled committed word among =
        let parts = and_parts (not (list_any is_store m.rest)) _ committed in
        by parts.0 (eqb-true _ _ parts.1) l.stage
      where
        by : not (list_any is_store m.rest) ≡ true → IsSettledWord m.words (word_number (point_at log thread)) → Stage log thread old new m →
            IsSettledWord m.words word
        by stored point (Writing slots lines framing w h) =
            absurd (true≢false (sym stored ∙ ap (λ (es : List Effect). not (list_any is_store es)) w.rest
            ∙ ap not (stores_point_later (stores_of log thread new slots ++ cleans_of log thread new lines ++ frame_cleans log thread framing) new.point)))
        by stored point (Written rest h bank frame) = absurd (true≢false (sym stored ∙ ap (λ (es : List Effect). not (list_any is_store es)) rest))
        by stored point (Pointed rest h) = all_settled new m.words point h.new_bank word among
        by stored point (PointQueued rest h r) = all_settled new m.words point h.new_bank word among
        by stored point (Over rest h) = recorded_settled new m.words h word among

    module _ (address bytes value : ℕ) (later : List Effect) (does : m.rest ≡ Stores address bytes value ∷ later) where
      abbrev first_of : List Effect → ℕ
      first_of [] = 0
      first_of (effect ∷ effects) = address_of effect

      abbrev first_stores : List Effect → Bool
      first_stores [] = false
      first_stores (effect ∷ effects) = is_store effect

      at_slots : (slots lines framing : List ℕ) → IsWriting log thread new slots lines framing m → IsWordOf log thread new (word_number address)
      at_slots [] [] [] w = absurd (true≢false (ap first_stores (sym does ∙ w.rest)))
      at_slots [] [] (line ∷ framing) w = absurd (true≢false (ap first_stores (sym does ∙ w.rest)))
      at_slots [] (line ∷ lines) framing w = absurd (true≢false (ap first_stores (sym does ∙ w.rest)))
      at_slots (slot ∷ slots) lines framing w =
          of_slot slot (w.own slot (contains_first slot slots)) (ap (λ (es : List Effect). word_number (first_of es)) (sym does ∙ w.rest))

      -- what it stores next it stores for its record
      pub stored_for : Stage log thread old new m → IsWordOf log thread new (word_number address)
      stored_for (Writing slots lines framing w h) = at_slots slots lines framing w
      stored_for (Written rest h bank frame) = of_point (ap (λ (es : List Effect). word_number (first_of es)) (sym does ∙ rest))
      stored_for (Pointed rest h) = absurd (true≢false (ap first_stores (sym does ∙ rest)))
      stored_for (PointQueued rest h r) = absurd (true≢false (ap first_stores (sym does ∙ rest)))
      stored_for (Over rest h) = absurd (true≢false (ap first_stores (sym does ∙ rest)))

      -- where that is its point, its bank is durable, and so is the point before it
      pub point_settled : word_number address ≡ word_number (point_at log thread) →
          ((slot : ℕ) → word_number address ≡ bank_word log thread (bank_of new.point) slot → ⊥) →
          (word : ℕ) → IsWordOf log thread new word → IsSettledWord m.words word
      point_settled there apart word among = by l.stage
        where
          writes : (slots lines framing : List ℕ) → IsWriting log thread new slots lines framing m → ⊥
          writes [] [] [] w = true≢false (ap first_stores (sym does ∙ w.rest))
          writes [] [] (line ∷ framing) w = true≢false (ap first_stores (sym does ∙ w.rest))
          writes [] (line ∷ lines) framing w = true≢false (ap first_stores (sym does ∙ w.rest))
          writes (slot ∷ slots) lines framing w = apart slot (ap (λ (es : List Effect). word_number (first_of es)) (sym does ∙ w.rest))

          by : Stage log thread old new m → IsSettledWord m.words word
          by (Writing slots lines framing w h) = absurd (writes slots lines framing w)
          by (Written rest h bank frame) = all_settled new m.words h.point.durable bank word among
          by (Pointed rest h) = absurd (true≢false (ap first_stores (sym does ∙ rest)))
          by (PointQueued rest h r) = absurd (true≢false (ap first_stores (sym does ∙ rest)))
          by (Over rest h) = absurd (true≢false (ap first_stores (sym does ∙ rest)))

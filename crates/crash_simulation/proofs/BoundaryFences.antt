-- What is finished of a boundary's fences, and what is ahead.
use Rattle.crash_simulation.proofs.Common.{◌≡◌, ℕ, List, [], ◌∷◌, Bool, true, false, not, ap, sym, arith, refl, list_any, if◌then◌else◌, true≢false}
use Rattle.crash_simulation.proofs.Common.{Effect, Continues, Loads, Stores, Cleans, Fences, Calls, is_store, fences_ahead}
use Rattle.crash_simulation.proofs.Common.{is_fence, AreFencesCounted, fences_due}

module _ (k : ℕ) where
  -- nothing is counted, and the same is ahead
  pub same_fences : (finished stored : Bool) (rest : List Effect) → finished ≡ false → stored ≡ false → AreFencesCounted k finished stored rest rest
  same_fences true stored rest unfinished unstored = absurd (true≢false unfinished)
  same_fences false true rest unfinished unstored = absurd (true≢false unstored)
  same_fences false false rest unfinished unstored = omega arith

  -- a boundary begins
  pub begins_fences : (finished stored : Bool) (effects : List Effect) → finished ≡ false → stored ≡ false → fences_ahead effects ≡ k →
      list_any is_store effects ≡ true → AreFencesCounted k finished stored [] effects
  begins_fences true stored effects unfinished unstored all some = absurd (true≢false unfinished)
  begins_fences false true effects unfinished unstored all some = absurd (true≢false unstored)
  begins_fences false false effects unfinished unstored all some =
      let due : fences_due k effects ≡ k = ap (λ (b : Bool). if b then k else 0) some in
      omega (arith, all, due)

  -- one after the other
  pub joined_fences : (finished stored : Bool) (old by new : List Effect) → AreFencesCounted k false false old by → AreFencesCounted k finished stored by new →
      AreFencesCounted k finished stored old new
  joined_fences finished stored old by new first later = omega (arith, first, later)

  -- an effect of the boundary that isn't its point's store
  plain_fences : (finished stored : Bool) (rest later : List Effect) → finished ≡ false → stored ≡ false → fences_ahead rest ≡ fences_ahead later →
      list_any is_store rest ≡ list_any is_store later → AreFencesCounted k finished stored rest later
  plain_fences true stored rest later unfinished unstored ahead same = absurd (true≢false unfinished)
  plain_fences false true rest later unfinished unstored ahead same = absurd (true≢false unstored)
  plain_fences false false rest later unfinished unstored ahead same =
      let due : fences_due k rest ≡ fences_due k later = ap (λ (b : Bool). if b then k else 0) same in
      omega (arith, ahead, due)

  stores_fences : (address bytes value : ℕ) (finished stored : Bool) (later : List Effect) → finished ≡ false → (any : Bool) → list_any is_store later ≡ any →
      stored ≡ not any → AreFencesCounted k finished stored (Stores address bytes value ∷ later) later
  stores_fences address bytes value true stored later unfinished any is last = absurd (true≢false unfinished)
  stores_fences address bytes value false true later unfinished true is last = absurd (true≢false last)
  stores_fences address bytes value false false later unfinished false is last = absurd (true≢false (sym last))
  stores_fences address bytes value false false later unfinished true is last =
      let due : fences_due k later ≡ k = ap (λ (b : Bool). if b then k else 0) is in
      omega (arith, due)
  stores_fences address bytes value false true later unfinished false is last =
      let due : fences_due k later ≡ 0 = ap (λ (b : Bool). if b then k else 0) is in
      omega (arith, due)

  passes_fence : (finished stored : Bool) (later : List Effect) → finished ≡ true → stored ≡ false → AreFencesCounted k finished stored (Fences ∷ later) later
  passes_fence false stored later finishes unstored = absurd (true≢false (sym finishes))
  passes_fence true true later finishes unstored = absurd (true≢false unstored)
  passes_fence true false later finishes unstored = omega arith

  -- the next effect of the boundary: its last store is its point's
  pub next_fences : (finished stored : Bool) (effect : Effect) (later : List Effect) → finished ≡ is_fence effect →
      (is_store effect ≡ true → stored ≡ not (list_any is_store later)) → (is_store effect ≡ false → stored ≡ false) →
      AreFencesCounted k finished stored (effect ∷ later) later
  next_fences finished stored (Continues registers pc) later finishes last none =
      plain_fences finished stored (Continues registers pc ∷ later) later finishes (none refl) (omega arith) refl
  next_fences finished stored (Loads address bytes signed register) later finishes last none =
      plain_fences finished stored (Loads address bytes signed register ∷ later) later finishes (none refl) (omega arith) refl
  next_fences finished stored (Stores address bytes value) later finishes last none =
      stores_fences address bytes value finished stored later finishes (list_any is_store later) refl (last refl)
  next_fences finished stored (Cleans address) later finishes last none =
      plain_fences finished stored (Cleans address ∷ later) later finishes (none refl) (omega arith) refl
  next_fences finished stored Fences later finishes last none = passes_fence finished stored later finishes (none refl)
  next_fences finished stored Calls later finishes last none =
      plain_fences finished stored (Calls ∷ later) later finishes (none refl) (omega arith) refl

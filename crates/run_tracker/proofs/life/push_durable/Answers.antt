use Rattle.std.proofs.Common.{◌≡◌, ℕ, ◌+◌, ◌*◌, ◌/◌, ◌%◌, ◌∷◌, ◌++◌, List, [], ap, sym, ◌∙◌, arith}
use Rattle.std.proofs.lemmas.List.{append_assoc}
use Rattle.ido_base.specs.Words.{word_at, durable_value}
use Rattle.run_tracker.proofs.DurableWords.{durable_from, durable_next}
use Rattle.run_tracker.proofs.life.push_durable.Goals as goal

pub loop-at-preserved : goal.loop-at-preserved
loop-at-preserved c =
    let at = c.loop-at.at in
    let from = c.args.from in
    let before = c.args.words.now.items in
    record {
      items = λ w stands.
          let place : 8 * ((from + at) / 8) + (from + at) % 8 ≡ from + at = omega arith in
          let value : c.durable_word.result ≡ durable_value (word_at w.words (from + at)) =
          c.durable_word.ensures w stands ∙ ap (λ (i : ℕ). durable_value (word_at w.words i)) place in
          c.push_reserved.ensures.items ∙ ap (λ (xs : List ℕ). xs ++ c.durable_word.result ∷ []) (c.loop-at.invariant.items w stands)
          ∙ append_assoc before (durable_from w.words from at) (c.durable_word.result ∷ [])
          ∙ ap (λ (x : ℕ). before ++ (durable_from w.words from at ++ x ∷ [])) value
          ∙ ap (λ (xs : List ℕ). before ++ xs) (sym (durable_next w.words from at));
      len = omega (arith, c.push_reserved.ensures.len, c.loop-at.invariant.len);
      capacity = omega (arith, c.push_reserved.ensures.capacity, c.loop-at.invariant.capacity);
    }

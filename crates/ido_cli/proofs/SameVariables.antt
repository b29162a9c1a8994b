-- Words with the same durable values have the same variables.
use Rattle.std.proofs.Common.{◌≡◌, ℕ, suc, ◌+◌, ◌*◌, ◌/◌, ◌%◌, ◌<◌, ◌≤◌, List, [], ◌∷◌, Some, refl, ap, ap₂, subst, arith, ℤ}
use Rattle.std.specs.Prelude.{slice_get}
use Rattle.ido_base.specs.Layout.{byte_number, end_from, variable_at}
use Rattle.ido_base.specs.Words.{Word, durable_value, word_at}
use Rattle.ido_ints.specs.declared.kinds.Kind.{Kind}
use Rattle.ido_ints.specs.Kinds.{bytes_of}
use Rattle.c_tree.specs.Programs.{Variable}
use Rattle.c_tree.specs.WellFormed.{elements_in}
use Rattle.memory_layout.specs.Variables.{HaveRoom}
use Rattle.recovery_semantics.specs.Elements.{number_in}
use Rattle.variable_words.specs.Variables.{durable_variables, number_of_byte, variables_from}
use Rattle.variable_words.proofs.Public.{next_element, number_is, shapes, some_bytes, within_end}
use Rattle.ido_cli.proofs.DurableNumbers.{same_from}

module _ (words other : List Word) (n : ℕ) (same : (i : ℕ) → i < n → durable_value (word_at words i) ≡ durable_value (word_at other i)) (vs : List Variable)
    (room : HaveRoom (shapes vs)) (fits : end_from 0 (shapes vs) ≤ 8 * n) where
  same_number : (kind : Kind) (byte : ℕ) → byte < 8 * n → number_of_byte durable_value words kind byte ≡ number_of_byte durable_value other kind byte
  same_number kind byte below = ap (number_in kind (byte % 8)) (same (byte / 8) (omega (arith, below)))

  within : (k e : ℕ) (v : Variable) → slice_get vs k ≡ Some v → e < elements_in v.length → byte_number (variable_at (shapes vs) k e) < 8 * n
  within k e v there below =
      omega (
        arith,
        number_is vs k e v room there (omega (arith, below)),
        within_end 0 vs k v there,
        next_element (bytes_of v.kind) e (elements_in v.length) below,
        some_bytes v.kind,
        fits,
      )

  -- the rest of them from a number on
  same_rest : (k : ℕ) (rest : List Variable) → ((j : ℕ) (v : Variable) → slice_get rest j ≡ Some v → slice_get vs (k + j) ≡ Some v) →
      variables_from durable_value words (shapes vs) k rest ≡ variables_from durable_value other (shapes vs) k rest
  same_rest k [] there = refl
  same_rest k (v ∷ rest) there =
      let first : k + 0 ≡ k = omega arith in
      let here : slice_get vs k ≡ Some v = subst (λ (m : ℕ). slice_get vs m ≡ Some v) first (there 0 v refl) in
      ap₂ (λ (x : List ℤ) (xs : List (List ℤ)). x ∷ xs)
      (same_from _ _ 0 (elements_in v.length)
      (λ e below. same_number v.kind (byte_number (variable_at (shapes vs) k e)) (within k e v here (omega (arith, below)))))
      (same_rest (k + 1) rest (λ j x at.
      let next : k + suc j ≡ k + 1 + j = omega arith in
      subst (λ (m : ℕ). slice_get vs m ≡ Some x) next (there (suc j) x at)))

  pub same_variables : durable_variables words vs ≡ durable_variables other vs
  unfolding durable_variables
  same_variables =
      same_rest 0 vs (λ j v at.
      let first : j ≡ 0 + j = omega arith in
      subst (λ (m : ℕ). slice_get vs m ≡ Some v) first at)

-- References in the words of an image's variables are those in the words that its machine has.
use Rattle.std.proofs.Common.{◌≡◌, refl, ℕ, zero, suc, ◌+◌, ◌-◌, ◌/◌, ◌%◌, ◌<◌, ◌≤◌, List, []}
use Rattle.std.proofs.Common.{◌∷◌, ◌++◌, length, map, replicate, get_or, ap, ap₂, sym, ◌∙◌, subst}
use Rattle.std.proofs.Common.{arith, Some}
use Rattle.std.specs.Prelude.{slice_get, ℤ}
use Rattle.ido_base.specs.declared.location.Shape.{Shape}
use Rattle.ido_base.specs.Layout.{byte_number, variable_at}
use Rattle.ido_base.specs.Words.{Word, word_of, word_at, durable_value}
use Rattle.ido_ints.specs.declared.kinds.Kind.{Kind}
use Rattle.c_tree.specs.Flats.{Flat}
use Rattle.c_tree.specs.Programs.{Variable}
use Rattle.c_tree.specs.References.{variable_refers}
use Rattle.c_tree.specs.Values.{element_number}
use Rattle.c_tree.specs.WellFormed.{elements_in}
use Rattle.c_ranges.specs.RunInvariants.{RefersSo}
use Rattle.memory_layout.specs.Variables.{HaveRoom}
use Rattle.recovery_semantics.specs.Elements.{number_in}
use Rattle.log_schemes.specs.Schemes.{numbers_from}
use Rattle.variable_words.specs.Variables.{durable_variables, number_of_byte, variables_from}
use Rattle.variable_words.proofs.Public.{element_whole, number_is, shapes, some_bytes}
use Rattle.image_checks.specs.VariableReferences.{AreReferences}
use Rattle.image_runs.proofs.SpreadWords as spread
use Rattle.image_runs.proofs.SpreadWords.{word_there}

-- ---- Words that are the same as far as variables may stand

module _ (few all : List Word) (each : (k : ℕ) → k < 8192 → durable_value (word_at few k) ≡ durable_value (word_at all k)) where
  byte_same : (kind : Kind) (number : ℕ) → number < 65536 → number_of_byte durable_value few kind number ≡ number_of_byte durable_value all kind number
  byte_same kind number low = ap (number_in kind (number % 8)) (each (number / 8) (omega (arith, low)))

  rows_same : (f g : ℕ → ℤ) (from count : ℕ) → ((i : ℕ) → from ≤ i → i < from + count → f i ≡ g i) →
      map f (numbers_from from count) ≡ map g (numbers_from from count)
  rows_same f g from zero same = refl
  rows_same f g from (suc count) same =
      ap₂ (λ (z : ℤ) (zs : List ℤ). z ∷ zs) (same from (omega arith) (omega arith))
      (rows_same f g (from + 1) count (λ i above below. same i (omega (arith, above)) (omega (arith, below))))

  from_same : (ss : List Shape) (number : ℕ) (vs : List Variable) →
      ((j i : ℕ) (v : Variable) → slice_get vs j ≡ Some v → i < elements_in v.length → byte_number (variable_at ss (number + j) i) < 65536) →
      variables_from durable_value few ss number vs ≡ variables_from durable_value all ss number vs
  from_same ss number [] low = refl
  from_same ss number (v ∷ vs) low =
      let first : number + 0 ≡ number = omega arith in
      ap₂ (λ (ns : List ℤ) (rest : List (List ℤ)). ns ∷ rest)
      (rows_same (λ (i : ℕ). number_of_byte durable_value few v.kind (byte_number (variable_at ss number i)))
      (λ (i : ℕ). number_of_byte durable_value all v.kind (byte_number (variable_at ss number i))) 0 (elements_in v.length)
      (λ i above below.
      byte_same v.kind (byte_number (variable_at ss number i))
      (subst (λ (k : ℕ). byte_number (variable_at ss k i) < 65536) first (low 0 i v refl (omega (arith, below))))))
      (from_same ss (number + 1) vs (λ j i u there below.
      let next : number + suc j ≡ number + 1 + j = omega arith in
      subst (λ (k : ℕ). byte_number (variable_at ss k i) < 65536) next (low (suc j) i u there below)))

  in_words : (vs : List Variable) → HaveRoom (shapes vs) → (j i : ℕ) (v : Variable) → slice_get vs j ≡ Some v → i < elements_in v.length →
      byte_number (variable_at (shapes vs) (0 + j) i) < 65536
  in_words vs room j i v there below =
      let same : j ≡ 0 + j = omega arith in
      let at = number_is vs j i v room there (omega (arith, below)) in
      let ends = (element_whole vs j i v room there below).ends in
      let some = some_bytes v.kind in
      subst (λ (k : ℕ). byte_number (variable_at (shapes vs) k i) < 65536) same (omega (arith, at, ends, some))

  durable_same : (vs : List Variable) → HaveRoom (shapes vs) → durable_variables few vs ≡ durable_variables all vs
  unfolding durable_variables
  durable_same vs room = from_same (shapes vs) 0 vs (in_words vs room)

-- ---- Words of variables with zeros after them

padded : (us : List ℕ) (n : ℕ) (rest : List ℕ) (k : ℕ) → k < length us + n → get_or (us ++ replicate n 0 ++ rest) k 0 ≡ get_or us k 0
padded [] zero rest k low = absurd (let z : ⊥ = omega (arith, low) in z)
padded [] (suc n) rest zero low = refl
padded [] (suc n) rest (suc k) low = padded [] n rest k (omega (arith, low))
padded (u ∷ us) n rest zero low = refl
padded (u ∷ us) n rest (suc k) low = padded us n rest k (omega (arith, low))

module _ (variables logs : List ℕ) (few : length variables ≤ 8192) where
  value_there : (k : ℕ) → k < 8192 → get_or (spread.words variables logs few) k 0 ≡ get_or variables k 0
  value_there k low =
      ap (λ (ws : List ℕ). get_or ws k 0) (spread.words_are variables logs few)
      ∙ padded variables (8192 - length variables) logs k (omega (arith, few, low))

  pub spread_references : (flat : Flat) → HaveRoom (shapes flat.variables) → AreReferences flat variables → AreReferences flat (spread.words variables logs few)
  spread_references flat room right variable element =
      let words : List ℕ = spread.words variables logs few in
      let same : durable_variables (map word_of variables) flat.variables ≡ durable_variables (map word_of words) flat.variables =
      durable_same (map word_of variables) (map word_of words)
      (λ k low.
      ap durable_value (word_there variables k) ∙ (sym (value_there k low) ∙ sym (ap durable_value (word_there words k)))) flat.variables room in
      subst (λ (ns : List (List ℤ)). RefersSo flat.variables (variable_refers flat.variables variable) (element_number ns variable element)) same
      (right variable element)

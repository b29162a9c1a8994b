-- What the definitions of the rules compute of the trees of generated sources, by the mutex of their first section: however their numbers are read and
-- wherever they stand.
use Rattle.std.proofs.Common.{◌≡◌, ℕ, ◌<◌, [], None, true, false, refl}
use Rattle.std.specs.Prelude.{nat_le}
use Rattle.std.specs.List.{list_all}
use Rattle.ido_ints.specs.Reduction as reduction
use Rattle.c_tree.specs.declared.language.Language.TheVariants.{Full}
use Rattle.c_tree.specs.Elaboration.{typed_program}
use Rattle.c_tree.specs.Flats.{Flat}
use Rattle.c_tree.specs.HoldPrices.{price_fault}
use Rattle.c_tree.specs.Inlining.{flat_form}
use Rattle.c_tree.specs.LockDiscipline.{lock_fault}
use Rattle.c_tree.specs.NullReferences.{program_nulls}
use Rattle.c_tree.specs.Programs as p
use Rattle.c_tree.specs.Ranges.{program_indexes, index_fits}
use Rattle.c_tree.specs.Temporaries.{temporaries_fault}
use Rattle.c_tree.specs.TextReadings.{nests_high}
use Rattle.c_tree.specs.TypeRules.{type_faults}
use Rattle.flow_graph.specs.declared.graph.Part.{Part}
use Rattle.flow_graph.specs.Lowering.{lowered}
use Rattle.lock_order.specs.LockOrder.{order_fault}
use Rattle.generated_programs.proofs.Cases.{below_four}
use Rattle.generated_programs.proofs.Trees.{Reading, items, source_tokens}

module _ (r : Reading) where
  abbrev pub program_of : ℕ → p.Program
  program_of first = typed_program (items first r)

  abbrev pub flat : ℕ → Flat
  flat first = flat_form (program_of first)

  pub low : (first : ℕ) → nests_high (source_tokens first r) ≡ false
  unfolding nests_high
  low first = refl

  pub faultless : (first : ℕ) → first < 4 → type_faults Full (items first r) ≡ []
  unfolding type_faults
  faultless = below_four (λ first. type_faults Full (items first r) ≡ []) refl refl refl refl

  abbrev pub HasFitting : ℕ → Type 0
  HasFitting first = list_all (index_fits (program_of first).variables (program_of first).mutexes) (program_indexes (program_of first)) ≡ true

  pub all_fit : (first : ℕ) → first < 4 → HasFitting first
  unfolding typed_program reduction.from_least_on
  all_fit = below_four HasFitting refl refl refl refl

  pub never_null : (first : ℕ) → first < 4 → program_nulls (program_of first) ≡ []
  unfolding typed_program reduction.from_least_on
  never_null = below_four (λ first. program_nulls (program_of first) ≡ []) refl refl refl refl

  pub no_functions : (first : ℕ) → (program_of first).functions ≡ []
  unfolding typed_program reduction.from_least_on
  no_functions first = refl

  pub short : (first : ℕ) → first < 4 → price_fault Full (flat first) ≡ None
  unfolding typed_program flat_form price_fault reduction.from_least_on
  short = below_four (λ first. price_fault Full (flat first) ≡ None) refl refl refl refl

  pub disciplined : (first : ℕ) → first < 4 → lock_fault Full (flat first) ≡ None
  unfolding typed_program flat_form lock_fault reduction.from_least_on
  disciplined = below_four (λ first. lock_fault Full (flat first) ≡ None) refl refl refl refl

  pub shallow : (first : ℕ) → first < 4 → temporaries_fault (flat first) ≡ None
  unfolding typed_program flat_form temporaries_fault reduction.from_least_on
  shallow = below_four (λ first. temporaries_fault (flat first) ≡ None) refl refl refl refl

  pub roomy : (first : ℕ) → first < 4 → list_all (λ (x : Part). nat_le x.locals 1) (lowered (flat first)).threads ≡ true
  unfolding typed_program flat_form lowered reduction.from_least_on
  roomy = below_four (λ first. list_all (λ (x : Part). nat_le x.locals 1) (lowered (flat first)).threads ≡ true) refl refl refl refl

  pub in_order : (first : ℕ) → first < 4 → order_fault (flat first) ≡ None
  unfolding typed_program flat_form order_fault reduction.from_least_on
  in_order = below_four (λ first. order_fault (flat first) ≡ None) refl refl refl refl

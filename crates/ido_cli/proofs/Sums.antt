-- Sums of what is reported of a machine.
use Rattle.std.proofs.Common.{◌≡◌, refl, ℕ, zero, suc, ◌+◌, ◌*◌, ◌<◌, ◌≤◌, List, [], ◌∷◌, length, map, sym, ap, ◌∙◌, arith, length-append, ℤ}
use Rattle.std.proofs.lemmas.Int.{ints}
use Rattle.std.specs.Prelude.{All, Option, Some, None, flat_map, pos, negsuc}
use Rattle.std.specs.Option.{option_to_list}
use Rattle.std.proofs.lemmas.List.{length-map}
use Rattle.std.proofs.lemmas.List.Elements.{All-append}
use Rattle.ido_base.specs.Words.{Word, durable_value}
use Rattle.ido_base.specs.declared.location.Shape.{Shape}
use Rattle.ido_base.specs.declared.limits.TheConstants.{MOST_THREADS}
use Rattle.ido_base.specs.Layout.{aligned_up, byte_number, end_from, variable_at}
use Rattle.ido_ints.specs.declared.kinds.Kind.{Kind}
use Rattle.ido_ints.specs.Kinds.{bytes_of}
use Rattle.ido_ints.proofs.Public.{Holds-Bounded, Holds-reduced}
use Rattle.c_tree.specs.Flats as f
use Rattle.c_tree.specs.Programs as p
use Rattle.c_tree.specs.Source as m
use Rattle.c_tree.specs.WellFormed.{elements_in, shape_of}
use Rattle.machine_model.specs.Machine.{World}
use Rattle.log_schemes.specs.Schemes.{numbers_from}
use Rattle.memory_layout.specs.Variables.{HaveRoom}
use Rattle.recovery_semantics.specs.Elements.{number_in}
use Rattle.variable_words.specs.Variables.{durable_variables, number_of_byte, variables_from}
use Rattle.variable_words.proofs.Public.{by_size}
use Rattle.run_scripts.specs.Reports as r
use Rattle.run_scripts.specs.Reports.{numbers_in, report, reported}
use Rattle.ido_cli.specs.Loads.{IsSummary, settled_summary, summary_by}
use Rattle.ido_cli.specs.Reports.{machine_state}
use Rattle.ido_cli.specs.Runs.{named, status_by}
use Rattle.ido_cli.specs.links.LegRuns.{IsSmall, IsSummable}
use Rattle.source_machine.specs.Lives.{ended_lives}

-- ---- How great a number is

small_number : (kind : Kind) (byte value : ℕ) → IsSmall (number_in kind byte value)
small_number kind byte value =
    let b = Holds-Bounded kind (number_in kind byte value) (Holds-reduced kind _) in
    (omega (arith, ints, b.at_least), omega (arith, ints, b.below))

none_small : All IsSmall []
none_small k d below = absurd (omega (arith, below))

one_small : (z : ℤ) → IsSmall z → All IsSmall (z ∷ [])
one_small z small zero d below = small
one_small z small (suc k) d below = absurd (omega (arith, below))

-- ---- What counts of numbers of a variable that refers to that array, or to none

small_one : (refers : Option ℕ) (z : ℤ) → IsSmall z → All IsSmall (option_to_list (reported refers z))
small_one None z small = one_small z small
small_one (Some array) (pos zero) small = none_small
small_one (Some array) (pos (suc n)) small = one_small (pos n) (omega (arith, ints, small.0), omega (arith, ints, small.1))
small_one (Some array) (negsuc n) small = none_small

few_one : (refers : Option ℕ) (z : ℤ) → length (option_to_list (reported refers z)) ≤ 1
few_one None z = omega arith
few_one (Some array) (pos zero) = omega arith
few_one (Some array) (pos (suc n)) = omega arith
few_one (Some array) (negsuc n) = omega arith

abbrev counting : (refers : Option ℕ) → List ℤ → List ℤ
counting refers zs = flat_map option_to_list (map (reported refers) zs)

all_small : (refers : Option ℕ) (g : ℕ → ℤ) → ((n : ℕ) → IsSmall (g n)) → (from count : ℕ) → All IsSmall (counting refers (map g (numbers_from from count)))
all_small refers g each from zero = none_small
all_small refers g each from (suc count) =
    All-append IsSmall (option_to_list (reported refers (g from))) (counting refers (map g (numbers_from (from + 1) count)))
    (small_one refers (g from) (each from)) (all_small refers g each (from + 1) count)

few_counting : (refers : Option ℕ) (g : ℕ → ℤ) (from count : ℕ) → length (counting refers (map g (numbers_from from count))) ≤ count
few_counting refers g from zero = omega arith
few_counting refers g from (suc count) =
    let one = option_to_list (reported refers (g from)) in
    let rest = counting refers (map g (numbers_from (from + 1) count)) in
    omega (arith, length-append one rest, few_one refers (g from), few_counting refers g (from + 1) count)

numbers_count : (from count : ℕ) → length (numbers_from from count) ≡ count
numbers_count from zero = refl
numbers_count from (suc count) = ap suc (numbers_count (from + 1) count)

-- ---- The numbers of all variables

abbrev elements : List r.Variable → List ℤ
elements vs = flat_map numbers_in vs

module _ (words : List Word) (ss : List Shape) where
  abbrev number_at : ℕ → p.Variable → (element : ℕ) → ℤ
  number_at number v element = number_of_byte durable_value words v.kind (byte_number (variable_at ss number element))

  abbrev own : ℕ → p.Variable → List ℤ
  own number v = counting v.refers (map (number_at number v) (numbers_from 0 (elements_in v.length)))

  small_from : (number : ℕ) (vs : List p.Variable) → All IsSmall (elements (named vs (variables_from durable_value words ss number vs)))
  small_from number [] = none_small
  small_from number (v ∷ vs) =
      All-append IsSmall (own number v) _
      (all_small v.refers (number_at number v) (λ element. small_number v.kind _ _) 0 (elements_in v.length))
      (small_from (number + 1) vs)

  few_from : (number n : ℕ) (vs : List p.Variable) →
      n + length (elements (named vs (variables_from durable_value words ss number vs))) ≤ end_from n (map shape_of vs)
  few_from number n [] = omega arith
  few_from number n (v ∷ vs) =
      let rest = elements (named vs (variables_from durable_value words ss (number + 1) vs)) in
      let here = length-append (own number v) rest in
      let count = few_counting v.refers (number_at number v) 0 (elements_in v.length) in
      let fits = by_size (λ b. n + elements_in v.length ≤ aligned_up n b + b * elements_in v.length) (omega arith) (omega arith) (omega arith)
      (omega arith) v.kind in
      let after = few_from (number + 1) (aligned_up n (bytes_of v.kind) + bytes_of v.kind * elements_in v.length) vs in
      omega (arith, here, count, fits, after)

-- ---- The state of a machine

pub summable : (x : f.Flat) (w : World) (kept : List (List ℕ)) → length x.threads ≤ MOST_THREADS → HaveRoom (map shape_of x.variables) →
    IsSummable (machine_state x w kept)
unfolding machine_state durable_variables
summable x w kept threads room = record {
  threads =
      omega (arith, length-map (numbers_from 0 (length x.threads)) (ended_lives x (m.start x) kept), numbers_count 0 (length x.threads), threads);
  few = let all = few_from w.words (map shape_of x.variables) 0 0 x.variables in omega (arith, all, room);
  small = small_from w.words (map shape_of x.variables) 0 x.variables;
}

-- ---- What is said

pub said_unsettled : (s : r.ReportedState) (output : List ℕ) → 0 < length s.unsettled → output ≡ report s → IsSummary s 3 output
unfolding report
said_unsettled s output some is = by s.unsettled refl some
  where
    by : (us : List ℕ) → s.unsettled ≡ us → 0 < length us → IsSummary s 3 output
    by [] e none = absurd (omega (arith, none))
    by (u ∷ us) e one = record {
      status_is = sym (ap (λ (xs : List ℕ). status_by xs) e);
      output_is = is ∙ ap (λ (xs : List ℕ). r.report_by xs s) e ∙ sym (ap (λ (xs : List ℕ). summary_by xs s) e);
    }

pub said_settled : (s : r.ReportedState) (output : List ℕ) → s.unsettled ≡ [] → output ≡ settled_summary s → IsSummary s 0 output
said_settled s output none is = record {
  status_is = sym (ap (λ (xs : List ℕ). status_by xs) none);
  output_is = is ∙ sym (ap (λ (xs : List ℕ). summary_by xs s) none);
}

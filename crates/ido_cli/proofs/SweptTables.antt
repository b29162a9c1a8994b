-- The table of outcomes, run after run.
use Rattle.std.proofs.Common.{◌≡◌, refl, ℕ, zero, suc, ◌+◌, ◌-◌, ◌<◌, ◌≤◌, List, [], ◌∷◌, ◌++◌, length, take, drop, replicate, sym, ap, ◌∙◌, subst, arith}
use Rattle.std.proofs.Common.{Option, Some, Bool, true, false, get_or, ap₂}
use Rattle.std.specs.Prelude.{◌≢◌, ◌==◌, nat_eq, not, option_map, slice_get}
use Rattle.std.specs.Cmp.Lexicographic.{pointwise}
use Rattle.std.proofs.lemmas.List.{replicate_more, take_all, take_more}
use Rattle.std.proofs.lemmas.Option.{get_or_from_slice_get, slice_get-map, slice_get_within}
use Rattle.std.proofs.lemmas.Slice.Eq.{bytes_eq-Decides}
use Rattle.std.proofs.lemmas.Grind.{common_steps}
use Rattle.hart_driver.specs.declared.sweep.Outcome.{Outcome}
use Rattle.ido_cli.specs.Runs.{status_by}
use Rattle.ido_cli.specs.Sweeps.{IsTable, longest_run, reports_of, run_text, status_of}

-- ---- A run at the front

dropped_reports : (n : ℕ) (os : List Outcome) → reports_of (drop n os) ≡ drop n (reports_of os)
dropped_reports zero os = refl
dropped_reports (suc n) [] = refl
dropped_reports (suc n) (o ∷ os) = dropped_reports n os

at_front : (n : ℕ) (rs : List (List ℕ)) → slice_get (drop n rs) 0 ≡ slice_get rs n
at_front zero rs = refl
at_front (suc n) [] = refl
at_front (suc n) (r ∷ rs) = at_front n rs

parted : (n : ℕ) (rs : List (List ℕ)) → take n rs ++ drop n rs ≡ rs
parted n rs = grind (arith, common_steps)

pub run_before : (first more : ℕ) (o : Outcome) (after left : List Outcome) (text : List ℕ) → take more (reports_of after) ≡ replicate more o.report →
    slice_get (reports_of after) more ≢ Some o.report → left ≡ drop more after → IsTable (first + more + 1) (reports_of left) text →
    IsTable first (reports_of (o ∷ after)) (run_text first (first + more) o.report ++ text)
run_before first more o after left text same other left_is rest =
    let back : reports_of left ≡ drop more (reports_of after) = ap reports_of left_is ∙ dropped_reports more after in
    let one : more + 1 ≡ suc more = omega arith in
    let whole : replicate (more + 1) o.report ++ drop more (reports_of after) ≡ reports_of (o ∷ after) =
    ap (λ (n : ℕ). replicate n o.report ++ drop more (reports_of after)) one
    ∙ ap (λ (rs : List (List ℕ)). o.report ∷ (rs ++ drop more (reports_of after))) (sym same)
    ∙ ap (λ (rs : List (List ℕ)). o.report ∷ rs) (parted more (reports_of after)) in
    subst (λ (rs : List (List ℕ)). IsTable first rs (run_text first (first + more) o.report ++ text)) whole
    (longest_run first more o.report (drop more (reports_of after)) text (λ there. other (sym (at_front more (reports_of after)) ∙ there))
    (subst (λ (rs : List (List ℕ)). IsTable (first + more + 1) rs text) back rest))

-- ---- Statuses

-- whether a status is 0 tells it, where it is that of a report
pub told_again : (unsettled : List ℕ) (status : ℕ) (settled : Bool) → status ≡ status_by unsettled → settled ≡ (status == 0) → status ≡ status_of settled
told_again [] status settled is same = is ∙ ap status_of (sym (same ∙ ap (λ (n : ℕ). n == 0) is))
told_again (h ∷ hs) status settled is same = is ∙ ap status_of (sym (same ∙ ap (λ (n : ℕ). n == 0) is))

-- ---- Lists

pub nothing : (os : List Outcome) → length os < 1 → os ≡ []
nothing [] few = refl
nothing (o ∷ os) few = absurd (omega arith)

pub first_and_rest : (os : List Outcome) (d : Outcome) → 1 ≤ length os → os ≡ get_or os 0 d ∷ take (length os - 1) (drop 1 os)
first_and_rest [] d some = absurd (omega arith)
first_and_rest (o ∷ os) d some = ap (λ (xs : List Outcome). o ∷ xs) (sym (take_all (length (o ∷ os) - 1) os (omega arith)))

-- ---- Equal reports

pub same_report : (a b : List ℕ) → false ≡ not (pointwise nat_eq a b) → a ≡ b
same_report a b e = (bytes_eq-Decides a b).0 (not_false (pointwise nat_eq a b) e)
  where
    not_false : (t : Bool) → false ≡ not t → t ≡ true
    not_false true e = refl
    not_false false e = cc e

pub other_report : (a b : List ℕ) → true ≡ not (pointwise nat_eq a b) → a ≡ b → ⊥
other_report a b e same = not_both (pointwise nat_eq a b) ((bytes_eq-Decides a b).1 same) e
  where
    not_both : (t : Bool) → t ≡ true → true ≡ not t → ⊥
    not_both true is e = cc e
    not_both false is e = cc is

module _ (os : List Outcome) (i : ℕ) (o : Outcome) (there : slice_get os i ≡ Some o) where
  report_at : slice_get (reports_of os) i ≡ Some o.report
  report_at = slice_get-map (λ (x : Outcome). x.report) os i ∙ ap (λ (x : Option Outcome). option_map (λ (y : Outcome). y.report) x) there

  pub stops_at : (report : List ℕ) → (o.report ≡ report → ⊥) → slice_get (reports_of os) i ≢ Some report
  stops_at report other is = let both : Some o.report ≡ Some report = sym report_at ∙ is in other cc

  pub one_more_report : (report : List ℕ) → o.report ≡ report → take i (reports_of os) ≡ replicate i report →
      take (i + 1) (reports_of os) ≡ replicate (i + 1) report
  one_more_report report same front =
      let within = slice_get_within (reports_of os) i o.report report_at in
      take_more (reports_of os) i report within
      ∙ ap₂ (λ (xs : List (List ℕ)) (x : List ℕ). xs ++ x ∷ []) front (get_or_from_slice_get (reports_of os) i o.report report report_at ∙ same)
      ∙ replicate_more i report

-- Passes over the paths spread the marks.
use Rattle.std.proofs.Common.{◌≡◌, ◌⊎◌, inl, inr, ℕ, ◌+◌, ◌<◌, ◌≤◌, Bool, true, false, List, length, take, drop, ◌++◌, refl, ap, sym, subst, ◌∙◌, arith}
use Rattle.std.proofs.lemmas.Option.{slice_get_within}
use Rattle.std.proofs.Math.Seq.{take-append_seam}
use Rattle.std.proofs.lemmas.List.{get_or_past}
use Rattle.flow_graph.proofs.Public.{same_or_other, below_or_past}
use Rattle.region_checker.specs.declared.paths.Path.{Path}
use Rattle.region_checker.specs.links.MarkPropagation.{IsMarked, unmarked, PathLeads, Arrives, starts, goes_on, AreSpread, IsBeyond, Marks, IsMarkPass}

false_true : false ≡ true → ⊥
false_true e = cc

pub marked_within : (marks : List Bool) (n : ℕ) → IsMarked marks n → n < length marks
marked_within marks n m = elim (below_or_past n (length marks)) [
  | inl lt ↦ lt
  | inr past ↦ absurd (false_true (sym (get_or_past marks n false past) ∙ m))
]

at_most : (at : ℕ → Type 0) (before after : List Bool) (grows : Bool) → Marks at before after grows → unmarked after ≤ unmarked before
at_most at before after true m = omega (arith, m.fewer refl)
at_most at before after false m = omega (arith, ap unmarked (m.same refl))

-- ---- A pass

pub pass_none : (paths : List Path) (stops marks : List Bool) → IsMarkPass paths stops 0 marks marks false
pass_none paths stops marks = record {
  long = refl;
  keeps = λ n m. m;
  sound = λ start h. h;
  same = λ _. refl;
  closed = λ _ from to lt. absurd (omega (arith, lt));
  fewer = λ e. cc;
}

pass_most : (paths : List Path) (stops : List Bool) (until : ℕ) (before after : List Bool) (grows : Bool) → IsMarkPass paths stops until before after grows →
    unmarked after ≤ unmarked before
pass_most paths stops until before after true p = omega (arith, p.fewer refl)
pass_most paths stops until before after false p = omega (arith, ap unmarked (p.same refl))

pub pass_step : (paths : List Path) (stops : List Bool) (n : ℕ) (before now after : List Bool) (grows step grown : Bool) →
    IsMarkPass paths stops n before now grows → Marks (IsBeyond paths stops now n) now after step →
    (grown ≡ false → (grows ≡ false) × (step ≡ false)) → (grown ≡ true → (grows ≡ true) ⊎ (step ≡ true)) → IsMarkPass paths stops (n + 1) before after grown
pass_step paths stops n before now after grows step grown p m neither either = record {
  long = m.long ∙ p.long;
  keeps = λ k h. (m.has k).1 (inl (p.keeps k h));
  sound = λ start h k marked. elim ((m.has k).0 marked) [
    | inl old ↦ p.sound start h k old
    | inr new ↦ goes_on n k new.1.leads new.1.free (p.sound start h n new.1.marked)
  ];
  same = λ no. m.same (neither no).1 ∙ p.same (neither no).0;
  closed = λ no from to lt marked stays leads within.
      let still : after ≡ now = m.same (neither no).1 in
      let marked_now : IsMarked now from = subst (λ (ms : List Bool). IsMarked ms from) still marked in
      let within_now : to < length now = omega (arith, within, m.long) in
      elim (same_or_other from n) [
        | inl e ↦ (m.has to).1 (inr (
          within_now,
          subst (λ (k : ℕ). IsBeyond paths stops now k to) e (record { marked = marked_now; free = stays; leads = leads }),
        ))
        | inr other ↦ (m.has to).1 (inl (p.closed (neither no).0 from to (omega (arith, lt)) marked_now stays leads within_now))
      ];
  fewer = λ t. elim (either t) [
    | inl g ↦ omega (arith, p.fewer g, at_most (IsBeyond paths stops now n) now after step m)
    | inr g ↦ omega (arith, m.fewer g, pass_most paths stops n before now grows p)
  ];
}

pub pass_grown : (paths : List Path) (stops : List Bool) (n : ℕ) (before now after : List Bool) (grows step : Bool) →
    IsMarkPass paths stops n before now grows →
    Marks (IsBeyond paths stops now n) now after step → step ≡ true → IsMarkPass paths stops (n + 1) before after true
pass_grown paths stops n before now after grows step p m is = pass_step paths stops n before now after grows step true p m (λ off. cc) (λ _. inr is)

pub pass_kept : (paths : List Path) (stops : List Bool) (n : ℕ) (before now after : List Bool) (grows step : Bool) → IsMarkPass paths stops n before now grows →
    Marks (IsBeyond paths stops now n) now after step → step ≡ false → IsMarkPass paths stops (n + 1) before after grows
pass_kept paths stops n before now after grows step p m is = pass_step paths stops n before now after grows step grows p m (λ off. (off, is)) (λ t. inl t)

-- a list of as many elements, written over another
pub written : (count : ℕ) (xs ys : List Bool) → length xs ≡ count → take count (xs ++ drop (length xs) ys) ≡ xs
written count xs ys e = ap (λ (n : ℕ). take n (xs ++ drop (length xs) ys)) (sym e) ∙ take-append_seam xs (drop (length xs) ys)

-- ---- Passes, one after another

pub record Reached (paths : List Path) (stops start marks : List Bool) : Type 0 where
  pub long : length marks ≡ length start
  pub sound : (n : ℕ) → IsMarked marks n → Arrives (PathLeads paths) (IsMarked start) (IsMarked stops) n
  pub keeps : (n : ℕ) → IsMarked start n → IsMarked marks n

pub reached_first : (paths : List Path) (stops start : List Bool) → Reached paths stops start start
reached_first paths stops start = record { long = refl; sound = λ n m. starts n m; keeps = λ n m. m }

pub reached_more : (paths : List Path) (stops start before after : List Bool) (until : ℕ) (grows : Bool) → Reached paths stops start before →
    IsMarkPass paths stops until before after grows → Reached paths stops start after
reached_more paths stops start before after until grows r p = record {
  long = p.long ∙ r.long;
  sound = p.sound start r.sound;
  keeps = λ n m. p.keeps n (r.keeps n m);
}

complete : (paths : List Path) (stops start marks : List Bool) → length marks ≡ length paths → Reached paths stops start marks →
    ((from to : ℕ) → from < length paths → IsMarked marks from → ¬ (IsMarked stops from) → PathLeads paths from to → to < length marks → IsMarked marks to) →
    (n : ℕ) → n < length marks → Arrives (PathLeads paths) (IsMarked start) (IsMarked stops) n → IsMarked marks n
complete paths stops start marks long r closed n lt (starts k s) = r.keeps k s
complete paths stops start marks long r closed n lt (goes_on from k leads free a) =
    let here = slice_get_within paths from leads.path leads.at in
    closed from k here (complete paths stops start marks long r closed from (omega (arith, here, long)) a) free leads lt

pub reached_all : (paths : List Path) (stops start before after : List Bool) (grows : Bool) → length paths ≡ length start → grows ≡ false →
    Reached paths stops start before →
    IsMarkPass paths stops (length paths) before after grows → AreSpread paths stops start after
reached_all paths stops start before after grows count off r p n =
    let now = reached_more paths stops start before after (length paths) grows r p in (
      λ m. (omega (arith, marked_within after n m, now.long), now.sound n m),
      λ d. complete paths stops start after (now.long ∙ sym count) now (p.closed off) n (omega (arith, d.0, now.long)) d.1,
    )

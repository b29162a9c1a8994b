-- Trials keep what boundaries have to keep, and a pass that takes none away leaves none that could be.
use Rattle.std.proofs.Common.{◌≡◌, ◌↔◌, inl, inr, ℕ, ◌+◌, ◌<◌, ◌≤◌, Bool, true, false, length, get_or, refl, ap, sym, subst, ◌∙◌, arith, length-set}
use Rattle.std.specs.Prelude.{IsTrue}
use Rattle.std.proofs.lemmas.List.Sums.{sum_by-set}
use Rattle.std.proofs.lemmas.Option.{slice_get_within, get_or_from_slice_get}
use Rattle.std.proofs.lemmas.Bool.{cases_eq}
use Rattle.flow_graph.specs.Nodes.{Graph}
use Rattle.flow_graph.specs.IdempotentCuts.{Boundaries, IsChosen, IsIdempotent, IsMinimal, IsUnlock, HasBefore, without}
use Rattle.region_cutter.specs.links.BoundaryTrials.{AreKept, IsTried, IsTrialPass, weight, standing}
use Rattle.region_cutter.proofs.Lists.{get_set_other, had}

-- ---- A trial

pub tried : (g : Graph) (old new : Boundaries) (node : ℕ) (taken : Bool) → (IsTrue taken ↔ IsIdempotent g (without old node)) →
    (taken ≡ true → new ≡ without old node) → (taken ≡ false → new ≡ old) →
    IsTried g old new node taken
tried g old new node true k gone same = record {
  gone = gone;
  idempotent = λ t. subst (λ (b : Boundaries). IsIdempotent g b) (sym (gone t)) (k.0 refl);
  same = λ t. absurd (cc);
  needed = λ t. absurd (cc);
}
tried g old new node false k gone same =
    record { gone = λ t. absurd (cc); idempotent = λ t. absurd (cc); same = same; needed = λ t h. let e : false ≡ true = k.1 h in cc }

-- ---- What is kept

kept_without : (g : Graph) (b : Boundaries) (node : ℕ) → AreKept g b → IsChosen g b node → IsIdempotent g (without b node) → AreKept g (without b node)
kept_without g b node k chosen h = record {
  cuts = record {
    past_locks = λ n lock. let at = k.cuts.past_locks n lock in record { locks = at.locks; stands = at.stands };
    before_unlocks = λ n unlock.
        get_set_other b.before node n false (λ e. chosen.free (subst (λ (m : ℕ). IsUnlock g m) e unlock)) ∙ k.cuts.before_unlocks n unlock;
    idempotent = h;
  };
  places = record {
    after = k.places.after;
    before = λ n has. k.places.before n (had b.before node n has);
    before_count = length-set b.before node false ∙ k.places.before_count;
    after_count = k.places.after_count;
  };
}

falls : (b : Boundaries) (node : ℕ) → HasBefore b node → standing (without b node) < standing b
falls b node has =
    let a = sum_by-set weight b.before node false false (slice_get_within b.before node true has) in
    let one : weight (get_or b.before node false) ≡ 1 = ap weight (get_or_from_slice_get b.before node true false has) in
    omega (arith, a, one)

-- ---- A pass

pub pass_first : (g : Graph) (b : Boundaries) → AreKept g b → IsTrialPass g b b 0 false
pass_first g b k = record { kept = k; less = λ n h. h; fewer = λ t. absurd (cc); same = λ t. refl; needed = λ t node lt. absurd (omega arith) }

at_most : (g : Graph) (old new : Boundaries) (number : ℕ) (taken : Bool) → IsTrialPass g old new number taken → standing new ≤ standing old
at_most g old new number true p = omega (arith, p.fewer refl)
at_most g old new number false p = omega (arith, ap standing (p.same refl))

below_or_at : (g : Graph) (b : Boundaries) (number node : ℕ) → node < number + 1 → (node < number → ¬ (IsIdempotent g (without b node))) →
    (node ≡ number → ¬ (IsIdempotent g (without b node))) →
    ¬ (IsIdempotent g (without b node))
below_or_at g b number node lt below at = elim (cases_eq node number) [
  | inl e ↦ at e
  | inr ne ↦ below (omega arith)
]

pub pass_over : (g : Graph) (old new : Boundaries) (number : ℕ) (taken : Bool) → IsTrialPass g old new number taken → ¬ (IsChosen g new number) →
    IsTrialPass g old new (number + 1) taken
pass_over g old new number taken p free = record {
  kept = p.kept;
  less = p.less;
  fewer = p.fewer;
  same = p.same;
  needed = λ t node lt chosen. below_or_at g new number node lt (λ less. p.needed t node less chosen)
      (λ e. absurd (free (subst (λ (m : ℕ). IsChosen g new m) e chosen)));
}

pub pass_gone : (g : Graph) (old new next : Boundaries) (number : ℕ) (taken : Bool) → IsTrialPass g old new number taken → IsChosen g new number →
    IsTried g new next number true →
    IsTrialPass g old next (number + 1) true
pass_gone g old new next number taken p chosen tried =
    let e = tried.gone refl in
    let less : standing next < standing new = subst (λ (b : Boundaries). standing b < standing new) (sym e) (falls new number chosen.stands) in
    let most = at_most g old new number taken p in record {
      kept = subst (λ (b : Boundaries). AreKept g b) (sym e)
          (kept_without g new number p.kept chosen (subst (λ (b : Boundaries). IsIdempotent g b) e (tried.idempotent refl)));
      less = λ n h. p.less n (had new.before number n (subst (λ (b : Boundaries). HasBefore b n) e h));
      fewer = λ t. omega (arith, less, most);
      same = λ t. absurd (cc);
      needed = λ t. absurd (cc);
    }

needed_same : (g : Graph) (old new : Boundaries) (number : ℕ) (taken : Bool) → IsTrialPass g old new number taken → IsChosen g new number →
    ¬ (IsIdempotent g (without new number)) → IsTrialPass g old new (number + 1) taken
needed_same g old new number taken p chosen h = record {
  kept = p.kept;
  less = p.less;
  fewer = p.fewer;
  same = p.same;
  needed = λ t node lt chosen'. below_or_at g new number node lt (λ less. p.needed t node less chosen')
      (λ e. subst (λ (m : ℕ). ¬ (IsIdempotent g (without new m))) (sym e) h);
}

pub pass_kept : (g : Graph) (old new next : Boundaries) (number : ℕ) (taken : Bool) → IsTrialPass g old new number taken → IsChosen g new number →
    IsTried g new next number false →
    IsTrialPass g old next (number + 1) taken
pass_kept g old new next number taken p chosen tried =
    subst (λ (b : Boundaries). IsTrialPass g old b (number + 1) taken) (sym (tried.same refl)) (needed_same g old new number taken p chosen (tried.needed refl))

-- a pass over all nodes that took none away
pub pass_minimal : (g : Graph) (old new : Boundaries) (number : ℕ) (taken : Bool) → length g.nodes ≡ number → taken ≡ false →
    IsTrialPass g old new number taken → IsMinimal g new
pass_minimal g old new number taken all none p node chosen =
    p.needed none node (omega (arith, slice_get_within new.before node true chosen.stands, p.kept.places.before_count)) chosen

-- Where no call leads back, calls are no deeper than there are functions.
use Rattle.std.proofs.Common.{◌≡◌, ℕ, zero, suc, ◌+◌, ◌<◌, ◌≤◌, List, [], ◌∷◌, length, eqb, Some, sym, ◌∙◌, subst, arith, ⊎_elim}
use Rattle.std.specs.Prelude.{Contains, slice_get}
use Rattle.std.specs.List.{IsDistinct}
use Rattle.std.proofs.lemmas.Bool.{cases_lt}
use Rattle.std.proofs.lemmas.Map.Steps.{length-le_from_distinct_below}
use Rattle.std.proofs.lemmas.Map.Keys.{IsDistinct-cons}
use Rattle.std.proofs.lemmas.Option.{slice_get_within}
use Rattle.c_tree.specs.Programs as p
use Rattle.c_tree.specs.Inlining as i
use Rattle.c_tree.specs.AcceptedTexts.{HasNoBack}
use Rattle.c_inline.specs.links.KnownWeights.{Low}
use Rattle.c_inline.proofs.Cycle.{leads_on, found_in, any_below, first_or, only, IsDistinct-nil}
use Rattle.c_inline.proofs.WeightsByDepth.{stable_bodies, bodies_past, fixed_bodies}

module _ (fs : List p.Function) (none : (c : i.Call) → ¬ (i.LeadsBack fs c)) where
  -- functions that lead to this one are all different, so there are no more than functions
  low_past : (d g : ℕ) (path : List ℕ) → IsDistinct eqb (g ∷ path) → ((h : ℕ) → Contains (g ∷ path) h → h < length fs) →
      ((h : ℕ) → Contains (g ∷ path) h → i.CallsReach fs g h) →
      length fs < length (g ∷ path) + d → Low fs d g
  low_past zero g path distinct below lead long =
      absurd (let m = length-le_from_distinct_below (g ∷ path) (length fs) distinct (any_below (length fs) (g ∷ path) below) in omega (arith, m))
  low_past (suc d) g path distinct below lead long = λ c k l.
      ⊎_elim
      (λ m. absurd (none c (record { caller = g; made = k; back = lead c.function m })))
      (λ all. low_past d c.function (g ∷ path) (IsDistinct-cons eqb c.function (g ∷ path) all distinct)
      (λ h m. first_or c.function (g ∷ path) h m (λ (x : ℕ). x < length fs) l below)
      (λ h m. first_or c.function (g ∷ path) h m (i.CallsReach fs c.function) i.there (λ j n. leads_on fs g j c k (lead j n)))
      (omega arith))
      (found_in c.function (g ∷ path))

  pub low_all : (g : ℕ) → g < length fs → Low fs (length fs) g
  low_all g l =
      low_past (length fs) g [] (IsDistinct-cons eqb g [] tt IsDistinct-nil)
      (λ h k. subst (λ (x : ℕ). x < length fs) (only g h k) l)
      (λ h k. subst (λ (x : ℕ). i.CallsReach fs g x) (only g h k) i.there)
      (omega arith)

pub deeper : (x : p.Program) (deep function : ℕ) (ks : i.Locals) → HasNoBack x → length x.functions ≤ deep →
    i.bodies_of x.functions deep function ks ≡ i.bodies_of x.functions (length x.functions) function ks
deeper x deep g ks none le =
    let fs = x.functions in
    ⊎_elim
    (λ l. stable_bodies fs (length fs) deep g ks le (low_all fs none g l))
    (λ past. bodies_past fs deep g ks past ∙ sym (bodies_past fs (length fs) g ks past))
    (cases_lt g (length fs))

pub whole_bodies : (x : p.Program) (function : ℕ) (g : p.Function) (ks : i.Locals) → HasNoBack x → slice_get x.functions function ≡ Some g →
    i.bodies_of x.functions (length x.functions) function ks ≡ i.statements x.functions (i.bodies_of x.functions (length x.functions)) (length ks.kinds)
    (i.joined ks (i.locals g.locals g.refers)) g.body
whole_bodies x function g ks none is =
    let fs = x.functions in
    fixed_bodies fs (length fs) function ks g (omega arith) (low_all fs none function (slice_get_within fs function g is)) is

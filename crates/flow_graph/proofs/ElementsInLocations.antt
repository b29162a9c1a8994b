-- What the expressions of a well formed flat form name lies in the locations that are said to be read.
use Rattle.std.proofs.Common.{◌≡◌, ◌⊎◌, inl, inr, ⊎_elim, ◌≤◌, refl, ℕ, zero, suc, List, [], ◌∷◌, ◌++◌, subst, arith, Option, Some, true}
use Rattle.std.specs.Prelude.{slice_get, ℤ, pos, negsuc, ◌≤ℤ◌, unsigned_abs, Contains}
use Rattle.std.specs.List.{AllZip}
use Rattle.std.proofs.lemmas.Int.{ints}
use Rattle.std.proofs.lemmas.List.Elements.{Contains-append_left, Contains-append_right, Contains-append_cases}
use Rattle.ido_base.specs.declared.place.Place.{Place}
use Rattle.ido_base.specs.declared.location.Location.{Location}
use Rattle.ido_base.specs.declared.limits.TheConstants.{MOST_ELEMENTS}
use Rattle.ido_ints.specs.declared.kinds.Kind.{Kind}
use Rattle.ido_ints.specs.Kinds.{Holds}
use Rattle.c_tree.specs.Exprs as e
use Rattle.c_tree.specs.Programs.{Variable}
use Rattle.c_tree.specs.Source.{Pending}
use Rattle.c_tree.specs.Values.{value, element_at}
use Rattle.c_tree.specs.Ranges.{elements_of}
use Rattle.c_tree.specs.WellFormed.{elements_in, IsDeclared, IsExpr, Fits, IndexFits, IsTarget, TargetFits}
use Rattle.c_ranges.specs.Laws.{AreFollowed, IsTargetFollowed}
use Rattle.c_ranges.specs.RunInvariants.{AreNumbersOf}
use Rattle.c_ranges.proofs.Public.{foreseen, fits_element, all_held, elements_is}
use Rattle.flow_graph.specs.Lowering.{Table, element_number, elements, scalar, expr_reads, target_reads}
use Rattle.flow_graph.specs.Actions.{Seen}
use Rattle.flow_graph.specs.HeldKeys.{names_in}
use Rattle.flow_graph.specs.Paths.{Element, element, expr_elements, target_elements, Naming, Lies, LiesInOne}
use Rattle.flow_graph.proofs.HeldKeys.{key_names}

-- ---- Ends of ranges

low_le : (lo z : ℤ) → pos 0 ≤ℤ z → lo ≤ℤ z → element_number lo ≤ unsigned_abs z
low_le (pos n) (pos m) h k = let below : n ≤ m = omega (arith, ints) in omega arith
low_le (pos n) (negsuc m) h k = absurd (omega (arith, ints))
low_le (negsuc n) z h k = omega arith

le_high : (hi z : ℤ) → pos 0 ≤ℤ z → z ≤ℤ hi → unsigned_abs z ≤ MOST_ELEMENTS → unsigned_abs z ≤ element_number hi
le_high (pos n) (pos m) h k l = let below : m ≤ n = omega (arith, ints) in omega arith
le_high (pos n) (negsuc m) h k l = absurd (omega (arith, ints))
le_high (negsuc n) (pos m) h k l = absurd (omega (arith, ints))
le_high (negsuc n) (negsuc m) h k l = absurd (omega (arith, ints))

-- ---- One of a list

pub contains_none : {X : Type 0} (x : X) → Contains [] x → ⊥
contains_none x c = omega (arith, c.1)

contains_cons : {X : Type 0} (x y : X) (ys : List X) → Contains (y ∷ ys) x → (y ≡ x) ⊎ Contains ys x
contains_cons x y ys (zero, h, is) = inl is
contains_cons x y ys (suc k, h, is) = inr (k, omega arith, is)

contains_head : {X : Type 0} (x : X) (xs : List X) → Contains (x ∷ xs) x
contains_head x xs = (0, omega arith, refl)

contains_tail : {X : Type 0} (x y : X) (ys : List X) → Contains ys x → Contains (y ∷ ys) x
contains_tail x y ys (k, h, is) = (suc k, omega arith, is)

one_head : (naming : Naming) (l : Location) (ls : List Location) (one : Element) → Lies naming l one → LiesInOne naming (l ∷ ls) one
one_head naming l ls one h = record { location = l; of = contains_head l ls; lies = h }

one_tail : (naming : Naming) (l : Location) (ls : List Location) (one : Element) → LiesInOne naming ls one → LiesInOne naming (l ∷ ls) one
one_tail naming l ls one h = record { location = h.location; of = contains_tail h.location l ls h.of; lies = h.lies }

one_left : (naming : Naming) (ls ms : List Location) (one : Element) → LiesInOne naming ls one → LiesInOne naming (ls ++ ms) one
one_left naming ls ms one h = record { location = h.location; of = Contains-append_left ls ms h.location h.of; lies = h.lies }

one_right : (naming : Naming) (ls ms : List Location) (one : Element) → LiesInOne naming ms one → LiesInOne naming (ls ++ ms) one
one_right naming ls ms one h = record { location = h.location; of = Contains-append_right ls ms h.location h.of; lies = h.lies }

pub one_of_both : (naming : Naming) (es fs : List Element) (ls ms : List Location) (one : Element) → (Contains es one → LiesInOne naming ls one) →
    (Contains fs one →
    LiesInOne naming ms one) →
    Contains (es ++ fs) one → LiesInOne naming (ls ++ ms) one
one_of_both naming es fs ls ms one h k c =
    ⊎_elim (λ l. one_left naming ls ms one (h l)) (λ r. one_right naming ls ms one (k r)) (Contains-append_cases es fs one c)

pub lies_scalar : (naming : Naming) (variable : ℕ) → Lies naming (scalar variable) (element variable 0)
lies_scalar naming variable = record {
  within = record { variable = refl; from_lo = omega arith; to_hi = omega arith };
  by_key = λ key h. cc;
}

-- ---- Expressions

module _ (vs : List Variable) (ks : List Kind) (ls : List ℤ) (ns : List (List ℤ)) (locals : AllZip Holds ks ls) (variables : AllZip AreNumbersOf vs ns)
    (bounded : (variable : ℕ) (it : Variable) → slice_get vs variable ≡ Some it → elements_in it.length ≤ MOST_ELEMENTS) (names : List e.LockName) where
  abbrev table : Table
  table = record { variables = vs; names = names }

  -- what the names name
  abbrev naming : Naming
  naming = names_in vs names ls

  abbrev at_index : Place → e.Expr → e.Placed
  at_index place index = record { place = place; expr = index }

  abbrev seen : Option Pending → Seen
  seen p = record { locals = ls; pending = p; variables = ns }

  pub lies_element : (variable : ℕ) (kind : Kind) (place : Place) (index : e.Expr) → IsDeclared vs variable kind true → IsExpr vs ks index →
      IndexFits vs variable place index → AreFollowed ls index →
      Lies naming (elements table variable (at_index place index)) (element variable (element_at (value ls ns index)))
  lies_element variable kind place index d w fit g =
      let held = all_held vs ks ls ns locals variables index w g in
      let range = (foreseen ls ns index held).within in
      let named = fits_element (elements_of vs variable) index fit ls ns held in
      let count : elements_of vs variable ≡ elements_in d.it.length = elements_is vs variable d.it d.found d.array in
      let most = bounded variable d.it d.found in
      record {
        within = record {
          variable = refl;
          from_lo = low_le _ _ named.from_zero range.from_low;
          to_hi = le_high _ _ named.from_zero range.to_high (omega (arith, named.below, count, most));
        };
        by_key = λ key h. key_names vs names ls ns variable (at_index place index) key h;
      }

  pub lies_expr : (x : e.Expr) (p : Option Pending) (one : Element) → IsExpr vs ks x → Fits vs x → AreFollowed ls x →
      Contains (expr_elements x (seen p)) one → LiesInOne naming (expr_reads table x) one
  lies_expr (e.Constant v) p one w fit g c = absurd (contains_none one c)
  lies_expr (e.Local local kind) p one w fit g c = absurd (contains_none one c)
  lies_expr (e.Variable place variable kind) p one w fit g c = ⊎_elim
      (λ is. let P : Element → Type 0 = λ z. Lies naming (scalar variable) z in
      one_head naming (scalar variable) [] one (subst P is (lies_scalar naming variable)))
      (λ none. absurd (contains_none one none))
      (contains_cons one (element variable 0) [] c)
  lies_expr (e.Element place variable kind index_place index) p one w fit g c = ⊎_elim
      (λ is.
      let P : Element → Type 0 = λ z. Lies naming (elements table variable (at_index index_place index)) z in
      one_head naming (elements table variable (at_index index_place index)) (expr_reads table index) one
      (subst P is (lies_element variable kind index_place index w.0 w.1 fit.0 g)))
      (λ more. one_tail naming (elements table variable (at_index index_place index)) (expr_reads table index) one (lies_expr index p one w.1 fit.1 g more))
      (contains_cons one (element variable (element_at (value ls ns index))) (expr_elements index (seen p)) c)
  lies_expr (e.Address variable index_place index) p one w fit g c = lies_expr index p one w.1 fit.1 g c
  lies_expr (e.Referent place last local) p one w fit g c = absurd (contains_none one c)
  lies_expr (e.Unary operator operand) p one w fit g c = lies_expr operand p one w fit g c
  lies_expr (e.Cast kind operand) p one w fit g c = lies_expr operand p one w fit g c
  lies_expr (e.Converted kind operand) p one w fit g c = lies_expr operand p one w fit g c
  lies_expr (e.Binary operator left right) p one w fit g c =
      one_of_both naming (expr_elements left (seen p)) (expr_elements right (seen p)) (expr_reads table left) (expr_reads table right) one
      (lies_expr left p one w.0 fit.0 g.0) (lies_expr right p one w.1 fit.1 g.1) c
  lies_expr (e.Conditional kind condition chosen otherwise) p one w fit g c =
      one_of_both naming (expr_elements condition (seen p) ++ expr_elements chosen (seen p)) (expr_elements otherwise (seen p))
      (expr_reads table condition ++ expr_reads table chosen) (expr_reads table otherwise) one
      (one_of_both naming (expr_elements condition (seen p)) (expr_elements chosen (seen p)) (expr_reads table condition) (expr_reads table chosen) one
      (lies_expr condition p one w.0 fit.0 g.0) (lies_expr chosen p one w.1 fit.1 g.1))
      (lies_expr otherwise p one w.2 fit.2 g.2) c

  pub lies_target : (target : e.Lvalue) (p : Option Pending) (one : Element) → IsTarget vs ks target → TargetFits vs target → IsTargetFollowed ls target →
      Contains (target_elements target (seen p)) one → LiesInOne naming (target_reads table target) one
  lies_target (e.ToLocal place local kind) p one w fit g c = absurd (contains_none one c)
  lies_target (e.ToVariable place variable kind) p one w fit g c = absurd (contains_none one c)
  lies_target (e.ToElement place variable kind index) p one w fit g c = lies_expr index.expr p one w.1 fit.1 g c

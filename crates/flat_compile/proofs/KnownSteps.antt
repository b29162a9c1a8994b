-- The known locals of steps, one vector after another and arm after arm.
use Rattle.std.proofs.Common.{◌≡◌, refl, ap, ap₂, ◌∙◌, ℕ, ◌+◌, ◌<◌, Bool, false, List, [], ◌∷◌, ◌++◌, length, drop, get_or, Vec}
use Rattle.std.specs.Global.{Global}
use Rattle.c_tree.specs.Exprs.{placed_of}
use Rattle.c_tree.specs.NullReferences.{flat_known_in}
use Rattle.c_tree.specs.Flats.{statements_of, arms_list_of}
use Rattle.c_tree.specs.declared.flat.Arm.{Arm}
use Rattle.c_tree.specs.declared.flat.Statement.{Statement}
use Rattle.c_ranges.proofs.Public.{both_added, next_left, passed}
use Rattle.c_ranges.specs.KnownAtSteps.{knowns_in_all, knowns_in_arms}
use Rattle.flat_compile.specs.links.KnownLists.{known_lists}

-- a vector more
pub lists_more : (steps : List (Vec ℕ Global)) (known : Vec ℕ Global) → known_lists (steps ++ known ∷ []) ≡ known_lists steps ++ known.items ∷ []
lists_more [] known = refl
lists_more (x ∷ steps) known = ap (λ (xs : List (List ℕ)). x.items ∷ xs) (lists_more steps known)

-- ---- Arms

module _ (known : List ℕ) (first : Bool) (xs : List Arm) (i : ℕ) (x : Arm) (low : i < length xs) (is : x ≡ get_or xs i x) where
  abbrev block : List ℕ → List Statement → List (List ℕ)
  block inner body = knowns_in_all inner (statements_of body)

  abbrev inside : List Statement → List ℕ
  inside body = flat_known_in known first (placed_of x.condition) (statements_of body)

  pub arm_added : (before between after all : List (List ℕ)) (inner given : List ℕ) (one two : List Statement) → between ≡ before ++ known ∷ [] →
      inner ≡ inside one → one ≡ x.body.items → given ≡ inner → two ≡ x.body.items → after ≡ between ++ block given two →
      before ++ knowns_in_arms known first (arms_list_of (drop i xs)) ≡ all → after ++ knowns_in_arms known false (arms_list_of (drop (i + 1) xs)) ≡ all
  arm_added before between after all inner given one two p q r g s t invariant =
      let body : block given two ≡ block (inside x.body.items) x.body.items = ap₂ block (g ∙ q ∙ ap inside r) s in
      let here : List (List ℕ) = known ∷ block (inside x.body.items) x.body.items in
      let added : after ≡ before ++ here =
      both_added before between after (known ∷ []) (block (inside x.body.items) x.body.items) p (t ∙ ap (λ (ys : List (List ℕ)). between ++ ys) body) in
      passed before after here (knowns_in_arms known false (arms_list_of (drop (i + 1) xs))) (knowns_in_arms known first (arms_list_of (drop i xs))) all added
      (ap (λ (ys : List Arm). knowns_in_arms known first (arms_list_of ys)) (next_left xs i x low is)) invariant

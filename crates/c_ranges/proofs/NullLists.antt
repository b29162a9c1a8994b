-- What is added to a list, part after part.
use Rattle.std.proofs.Common.{◌≡◌, sym, ap, ap₂, ◌∙◌, ℕ, ◌+◌, ◌<◌, Bool, false, List, [], ◌∷◌, ◌++◌, length, drop, get_or}
use Rattle.std.proofs.lemmas.List.{append-nil, append_assoc, drop_more}
use Rattle.ido_base.specs.declared.place.Place.{Place}
use Rattle.c_tree.specs.Exprs.{placed_of}
use Rattle.c_tree.specs.NullReferences.{known_in, placed_nulls, statements_nulls, arms_nulls}
use Rattle.c_tree.specs.Programs.{statements_of, arms_list_of}
use Rattle.c_tree.specs.declared.program.Arm.{Arm}
use Rattle.c_tree.specs.declared.program.Statement.{Statement}

pub next_left : {A : Type 0} (xs : List A) (i : ℕ) (x : A) → i < length xs → x ≡ get_or xs i x → drop i xs ≡ x ∷ drop (i + 1) xs
next_left {A} xs i x low is = drop_more xs i x low ∙ ap (λ (y : A). y ∷ drop (i + 1) xs) (sym is)

-- one part and then another
pub both_added : {B : Type 0} (old between after first second : List B) → between ≡ old ++ first → after ≡ between ++ second → after ≡ old ++ (first ++ second)
both_added {B} old between after first second p q = q ∙ ap (λ (ys : List B). ys ++ second) p ∙ append_assoc old first second

-- the same, where the second part isn't added yet
pub both_parts : {B : Type 0} (old between first second whole : List B) → between ≡ old ++ first → first ++ second ≡ whole → between ++ second ≡ old ++ whole
both_parts {B} old between first second whole p q =
    ap (λ (ys : List B). ys ++ second) p ∙ append_assoc old first second ∙ ap (λ (ys : List B). old ++ ys) q

-- what is here is added, and the rest is left
pub passed : {B : Type 0} (before after here rest left all : List B) → after ≡ before ++ here → left ≡ here ++ rest → before ++ left ≡ all → after ++ rest ≡ all
passed {B} before after here rest left all p more is =
    ap (λ (ys : List B). ys ++ rest) p ∙ append_assoc before here rest ∙ ap (λ (ys : List B). before ++ ys) (sym more) ∙ is

-- nothing is left
pub none_left : {B : Type 0} (before left all : List B) → left ≡ [] → before ++ left ≡ all → before ≡ all
none_left {B} before left all none is = sym (append-nil before) ∙ ap (λ (ys : List B). before ++ ys) (sym none) ∙ is

-- ---- Arms

module _ (known : List ℕ) (first : Bool) (xs : List Arm) (i : ℕ) (x : Arm) (low : i < length xs) (is : x ≡ get_or xs i x) where
  abbrev condition_nulls : List Place
  condition_nulls = placed_nulls known (placed_of x.condition)

  abbrev block_nulls : List ℕ → List Statement → List Place
  block_nulls inner body = statements_nulls inner (statements_of body)

  abbrev inside : List Statement → List ℕ
  inside body = known_in known first (placed_of x.condition) (statements_of body)

  pub arm_added : (before between after all : List Place) (inner given : List ℕ) (one two : List Statement) → between ≡ before ++ condition_nulls →
      inner ≡ inside one → one ≡ x.body.items → given ≡ inner → two ≡ x.body.items → after ≡ between ++ block_nulls given two →
      before ++ arms_nulls known first (arms_list_of (drop i xs)) ≡ all → after ++ arms_nulls known false (arms_list_of (drop (i + 1) xs)) ≡ all
  arm_added before between after all inner given one two p q r g s t invariant =
      let body : block_nulls given two ≡ block_nulls (inside x.body.items) x.body.items = ap₂ block_nulls (g ∙ q ∙ ap inside r) s in
      let here = condition_nulls ++ block_nulls (inside x.body.items) x.body.items in
      let added : after ≡ before ++ here =
      both_added before between after condition_nulls (block_nulls (inside x.body.items) x.body.items) p (t ∙ ap (λ (ys : List Place). between ++ ys) body) in
      passed before after here (arms_nulls known false (arms_list_of (drop (i + 1) xs))) (arms_nulls known first (arms_list_of (drop i xs))) all added
      (ap (λ (ys : List Arm). arms_nulls known first (arms_list_of ys)) (next_left xs i x low is)) invariant

-- Rows of locals: the last one stands first among those that are known. Names found in tables of places.
use Rattle.std.proofs.Common.{◌≡◌, ◌<◌, ◌≤◌, ℕ, suc, List, [], ◌∷◌, ◌++◌, Bool, true, false, cond, ◌||◌, Option, Some, None, is_some, map, reverse, take, drop}
use Rattle.std.proofs.Common.{length, get_or, nat_lt, nat_le, find, refl, sym, ap, subst, ◌∙◌, ⊎_elim, true≢false, unwrap_or, zero, Vec, Global, arith}
use Rattle.std.specs.List.{list_any}
use Rattle.std.specs.Map.{lookup, IsKeyTest, AreApart, KeepsOthers}
use Rattle.std.specs.Option.{option_map, option_flatten, option_or}
use Rattle.std.specs.Cmp.{both_ways}
use Rattle.std.specs.Cmp.Lexicographic.{bytes_decides, nat_list_eq_equiv}
use Rattle.std.proofs.lemmas.Bool.{cases_Bool, cond-true, cond-false, lt-ltb, ltb-true, le-ltb, le-leb, lt-leb}
use Rattle.std.proofs.lemmas.List.{reverse-append, reverse-reverse, drop-append-le, map-append, length-map, length-reverse}
use Rattle.std.proofs.lemmas.List.{get_or_append_left, take-append-drop, length-append, length-take-le}
use Rattle.std.proofs.lemmas.List.Folds.{list_any-append}
use Rattle.std.proofs.Math.Seq.{get_or-append_seam}
use Rattle.indexmap.specs.IndexMap.{IndexMap, get_by, UpdatesBy}
use Rattle.ido_ints.specs.declared.kinds.Kind.{Kind}
use Rattle.c_tree.specs.Names.{same_name}
use Rattle.c_tree.specs.Names as n
use Rattle.c_typer.specs.links.Declarations.{names_declared}
use Rattle.c_typer.specs.links.Locals.{names_in, hidden_in}
use Rattle.c_typer.specs.links.Places.{place_of, first_place, last_place, places_before}
use Rattle.c_typer.specs.links.Scopes.{array_of, global_of, local_of, name_in, known_of, own_of, names_before}
use Rattle.c_typer.specs.declared.globals.Declared.{Declared}
use Rattle.c_typer.specs.declared.names.Places.{Places}
use Rattle.c_typer.specs.declared.scope.Local.{Local}

-- what a scope represents that has these locals and this mark, and of all locals so far these kinds, and these arrays to which they refer
abbrev pub scope_made : List Local → ℕ → List Kind → List (Option ℕ) → n.Scope
scope_made xs mark ks rs = record { known = known_of xs; own = own_of (drop mark xs); kinds = ks; refers = rs }

pub known_push : (xs : List Local) (x : Local) → known_of (xs ++ x ∷ []) ≡ local_of x ∷ known_of xs
known_push xs x = ap (map local_of) (reverse-append xs (x ∷ []))

pub own_push : (xs : List Local) (x : Local) → own_of (xs ++ x ∷ []) ≡ name_in x ∷ own_of xs
own_push xs x = ap (map name_in) (reverse-append xs (x ∷ []))

pub own_drop : (mark : ℕ) (xs : List Local) (x : Local) → mark ≤ length xs → own_of (drop mark (xs ++ x ∷ [])) ≡ name_in x ∷ own_of (drop mark xs)
own_drop mark xs x within = ap own_of (drop-append-le mark xs (x ∷ []) within) ∙ own_push (drop mark xs) x

-- ---- Tables of places

other_entries : {K X : Type 0} (eq : K → K → Bool) (test : K → Bool) (old new : List (K × X)) → KeepsOthers eq test old new → (other : K → Bool)
    → IsKeyTest eq other → AreApart test other → lookup other new ≡ lookup other old
unfolding KeepsOthers
other_entries eq test old new h = h

apart : (xs ys zs : List ℕ) → same_name xs ys ≡ false → same_name xs zs ≡ true → same_name ys zs ≡ false
apart xs ys zs other same = nat_list_eq_equiv.symm ys zs ∙ sym (nat_list_eq_equiv.congr xs zs ys same) ∙ other

-- what a change at one name leaves at any
pub updated : {S : Type 0} (m m' : IndexMap (Vec ℕ Global) (Option ℕ) S) (name : List ℕ) (w : Option ℕ)
    → UpdatesBy (λ (x y : Vec ℕ Global). same_name x.items y.items) (λ (x : Vec ℕ Global). same_name name x.items) m m' (Some w) → (other : List ℕ)
    → option_flatten (get_by (λ (x : Vec ℕ Global). same_name other x.items) m')
    ≡ cond (same_name name other) w (option_flatten (get_by (λ (x : Vec ℕ Global). same_name other x.items) m))
updated m m' name w h other =
    ⊎_elim
    (λ same. subst (λ (q : List ℕ). option_flatten (get_by (λ (x : Vec ℕ Global). same_name q x.items) m') ≡ w) ((bytes_decides name other).0 same)
    (ap option_flatten h.1) ∙ sym (cond-true (same_name name other) w _ same))
    (λ differs. ap option_flatten (other_entries _ _ _ _ h.3 (λ (x : Vec ℕ Global). same_name other x.items)
    (λ x y. nat_list_eq_equiv.congr other x.items y.items) (λ x. apart name other x.items differs)) ∙ sym (cond-false (same_name name other) w _ differs))
    (cases_Bool (same_name name other))

-- a name that had no place is put at one
pub put_at_first : (f : List ℕ → Option ℕ) (name other : List ℕ) (place : ℕ) → f name ≡ None
    → cond (same_name name other) (Some place) (f other) ≡ option_or (f other) (cond (same_name name other) (Some place) None)
put_at_first f name other place none = by (same_name name other) (λ same. ap f (sym ((bytes_decides name other).0 same)) ∙ none)
  where
    by : (b : Bool) → (b ≡ true → f other ≡ None) → cond b (Some place) (f other) ≡ option_or (f other) (cond b (Some place) None)
    by true h = sym (ap (λ (o : Option ℕ). option_or o (Some place)) (h refl))
    by false h = same (f other)
      where
        same : (o : Option ℕ) → o ≡ option_or o None
        same None = refl
        same (Some x) = refl

-- ---- First places

abbrev text_of : Declared → List ℕ
text_of x = x.name.text.items

first_after : (name x : List ℕ) (xs : List (List ℕ)) → first_place name (xs ++ x ∷ [])
    ≡ option_or (first_place name xs) (cond (same_name x name) (Some (length xs)) None)
first_after name x [] = refl
first_after name x (y ∷ ys) =
    ap (λ (o : Option ℕ). cond (same_name y name) (Some 0) (option_map suc o)) (first_after name x ys)
    ∙ by (same_name y name) (same_name x name) (first_place name ys)
  where
    by : (a b : Bool) (o : Option ℕ) → cond a (Some 0) (option_map suc (option_or o (cond b (Some (length ys)) None)))
        ≡ option_or (cond a (Some 0) (option_map suc o)) (cond b (Some (suc (length ys))) None)
    by true b o = refl
    by false b (Some i) = refl
    by false true None = refl
    by false false None = refl

pub first_push : (name : List ℕ) (xs : List Declared) (x : Declared)
    → first_place name (names_declared (xs ++ x ∷ [])) ≡ option_or (first_place name (names_declared xs))
    (cond (same_name x.name.text.items name) (Some (length xs)) None)
first_push name xs x =
    ap (first_place name) (map-append text_of xs (x ∷ []))
    ∙ first_after name (text_of x) (names_declared xs)
    ∙ ap (λ (i : ℕ). option_or (first_place name (names_declared xs)) (cond (same_name (text_of x) name) (Some i) None)) (length-map xs text_of)

pub first_within : (name : List ℕ) (xs : List Declared) (i : ℕ) → first_place name (names_declared xs) ≡ Some i → i < length xs
first_within name [] i h = absurd (true≢false (sym (ap is_some h)))
first_within name (x ∷ xs) i h = by (same_name (text_of x) name) (first_place name (names_declared xs)) (first_within name xs) h
  where
    by : (b : Bool) (o : Option ℕ) → ((j : ℕ) → o ≡ Some j → j < length xs) → cond b (Some 0) (option_map suc o) ≡ Some i → i < suc (length xs)
    by true o rest e = let at : 0 ≡ i = ap (λ (p : Option ℕ). unwrap_or p 0) e in omega arith
    by false None rest e = absurd (true≢false (sym (ap is_some e)))
    by false (Some j) rest e = let at : suc j ≡ i = ap (λ (p : Option ℕ). unwrap_or p 0) e in let within = rest j refl in omega arith

pub first_found : (name : List ℕ) (xs : List Declared) (d : Declared)
    → option_map (λ (i : ℕ). global_of (get_or xs i d)) (first_place name (names_declared xs))
    ≡ find (λ (g : n.Global). same_name g.name.text name) (map global_of xs)
first_found name [] d = refl
first_found name (x ∷ xs) d = by (same_name x.name.text.items name) (first_place name (names_declared xs)) (first_found name xs d)
  where
    by : (b : Bool) (o : Option ℕ) → option_map (λ (i : ℕ). global_of (get_or xs i d)) o
        ≡ find (λ (g : n.Global). same_name g.name.text name) (map global_of xs)
        → option_map (λ (i : ℕ). global_of (get_or (x ∷ xs) i d)) (cond b (Some 0) (option_map suc o))
        ≡ cond b (Some (global_of x)) (find (λ (g : n.Global). same_name g.name.text name) (map global_of xs))
    by true o h = refl
    by false None h = h
    by false (Some i) h = h

-- a name with no first place is declared nowhere
pub first_missing : (name : List ℕ) (xs : List Declared) → first_place name (names_declared xs) ≡ None
    → None ≡ find (λ (g : n.Global). same_name g.name.text name) (map global_of xs)
first_missing name [] h = refl
first_missing name (x ∷ xs) h = sym (ap (option_map (λ (i : ℕ). global_of (get_or (x ∷ xs) i x))) h) ∙ first_found name (x ∷ xs) x

-- whether a place is below a number
abbrev pub is_below : ℕ → Option ℕ → Bool
is_below number None = false
is_below number (Some i) = nat_lt i number

any_before : (q : List ℕ → Bool) (x : Declared) (xs : List Declared)
    → list_any q (names_before (x ∷ xs)) ≡ (list_any q (names_before xs) || (q x.name.text.items || false))
any_before q x xs =
    ap (λ (ys : List Declared). list_any q (map text_of ys)) (reverse-append (x ∷ []) xs)
    ∙ ap (list_any q) (map-append text_of (reverse xs) (x ∷ []))
    ∙ list_any-append q (names_before xs) (text_of x ∷ [])

pub first_before : (name : List ℕ) (number : ℕ) (xs : List Declared)
    → list_any (same_name name) (names_before (take number xs)) ≡ is_below number (first_place name (names_declared xs))
first_before name zero xs = none (first_place name (names_declared xs))
  where
    none : (o : Option ℕ) → false ≡ is_below 0 o
    none None = refl
    none (Some i) = sym (le-ltb i 0 (omega arith))
first_before name (suc k) [] = refl
first_before name (suc k) (x ∷ xs) =
    any_before (same_name name) x (take k xs)
    ∙ (λ i. first_before name k xs i || (nat_list_eq_equiv.symm name (text_of x) i || false))
    ∙ by (same_name (text_of x) name) (first_place name (names_declared xs))
  where
    by : (b : Bool) (o : Option ℕ) → (is_below k o || (b || false)) ≡ is_below (suc k) (cond b (Some 0) (option_map suc o))
    by true o = either (is_below k o) ∙ sym (lt-ltb 0 (suc k) (omega arith))
      where
        either : (a : Bool) → (a || true) ≡ true
        either true = refl
        either false = refl
    by false None = refl
    by false (Some i) = either (nat_lt i k) ∙ both_ways (nat_lt i k) (nat_lt (suc i) (suc k))
        (λ h. lt-ltb (suc i) (suc k) (let below = ltb-true i k h in omega arith)) (λ h. lt-ltb i k (let below = ltb-true (suc i) (suc k) h in omega arith))
      where
        either : (a : Bool) → (a || false) ≡ a
        either true = refl
        either false = refl

pub first_more : (old new : Places) (xs ys : List Declared) (x : Declared) (place : ℕ)
    → ((name : List ℕ) → place_of old name ≡ first_place name (names_declared xs))
    → ((name : List ℕ) → place_of new name ≡ option_or (place_of old name) (cond (same_name x.name.text.items name) (Some place) None)) → place ≡ length xs
    → ys ≡ xs ++ x ∷ []
    → (name : List ℕ) → place_of new name ≡ first_place name (names_declared ys)
first_more old new xs ys x place placed put at_end more name =
    put name
    ∙ (λ i. option_or (placed name i) (cond (same_name x.name.text.items name) (Some (at_end i)) None))
    ∙ sym (first_push name xs x)
    ∙ sym (ap (λ (zs : List Declared). first_place name (names_declared zs)) more)

-- ---- Last places

last_within : (name : List ℕ) (xs : List (List ℕ)) (i : ℕ) → last_place name xs ≡ Some i → i < length xs
last_within name [] i h = absurd (true≢false (sym (ap is_some h)))
last_within name (x ∷ xs) i h = by (same_name x name) (last_within name xs i) h
  where
    by : (b : Bool) → (last_place name xs ≡ Some i → i < length xs) → cond b (Some (length xs)) (last_place name xs) ≡ Some i → i < suc (length xs)
    by true rest e = let at : length xs ≡ i = ap (λ (p : Option ℕ). unwrap_or p 0) e in omega arith
    by false rest e = let within = rest e in omega arith

pub last_push : (name : List ℕ) (xs : List Local) (x : Local)
    → last_place name (names_in (xs ++ x ∷ [])) ≡ cond (same_name x.name.items name) (Some (length xs)) (last_place name (names_in xs))
last_push name xs x =
    ap (last_place name) (own_push xs x)
    ∙ ap (λ (i : ℕ). cond (same_name x.name.items name) (Some i) (last_place name (names_in xs))) (length-map (reverse xs) name_in ∙ length-reverse xs)

-- the row of places grows with the row of locals
pub before_push : (xs : List Local) (x : Local) → places_before (names_in (xs ++ x ∷ [])) ≡ last_place x.name.items (names_in xs) ∷ places_before (names_in xs)
before_push xs x = ap places_before (own_push xs x)

pub hidden_push : (xs : List Local) (x : Local) → hidden_in (xs ++ x ∷ []) ≡ x.hidden ∷ hidden_in xs
hidden_push xs x = ap (map (λ (y : Local). y.hidden)) (reverse-append xs (x ∷ []))

-- the innermost local is forgotten, and its name has again the place that it hid
pub put_back_last : (name other : List ℕ) (hidden : Option ℕ) (place : ℕ) (xs : List (List ℕ)) → hidden ≡ last_place name xs
    → cond (same_name name other) hidden (cond (same_name name other) (Some place) (last_place other xs)) ≡ last_place other xs
put_back_last name other hidden place xs h = by (same_name name other) (λ same. h ∙ ap (λ (q : List ℕ). last_place q xs) ((bytes_decides name other).0 same))
  where
    by : (b : Bool) → (b ≡ true → hidden ≡ last_place other xs) → cond b hidden (cond b (Some place) (last_place other xs)) ≡ last_place other xs
    by true e = e refl
    by false e = refl

pub last_found : (name : List ℕ) (xs : List Local) (d : Local)
    → option_map (λ (i : ℕ). local_of (get_or xs i d)) (last_place name (names_in xs)) ≡ find (λ (x : n.Local). same_name x.name name) (known_of xs)
last_found name xs d = subst (λ (zs : List Local). option_map (λ (i : ℕ). local_of (get_or zs i d)) (last_place name (names_in xs))
    ≡ find (λ (x : n.Local). same_name x.name name) (known_of xs)) (reverse-reverse xs) (turned (reverse xs))
  where
    turned : (ys : List Local) → option_map (λ (i : ℕ). local_of (get_or (reverse ys) i d)) (last_place name (map name_in ys))
        ≡ find (λ (x : n.Local). same_name x.name name) (map local_of ys)
    turned [] = refl
    turned (y ∷ ys) = by (same_name y.name.items name) (last_place name (map name_in ys)) refl (turned ys)
      where
        here : local_of (get_or (reverse (y ∷ ys)) (length (map name_in ys)) d) ≡ local_of y
        here =
            ap (λ (zs : List Local). local_of (get_or zs (length (map name_in ys)) d)) (reverse-append (y ∷ []) ys)
            ∙ ap (λ (i : ℕ). local_of (get_or (reverse ys ++ y ∷ []) i d)) (length-map ys name_in ∙ sym (length-reverse ys))
            ∙ ap local_of (get_or-append_seam (reverse ys) y [] d)

        further : (i : ℕ) → i < length ys → local_of (get_or (reverse (y ∷ ys)) i d) ≡ local_of (get_or (reverse ys) i d)
        further i below =
            ap (λ (zs : List Local). local_of (get_or zs i d)) (reverse-append (y ∷ []) ys)
            ∙ ap local_of (get_or_append_left (reverse ys) (y ∷ []) d i (let same = length-reverse ys in omega arith))

        by : (b : Bool) (o : Option ℕ) → last_place name (map name_in ys) ≡ o
            → option_map (λ (i : ℕ). local_of (get_or (reverse ys) i d)) o ≡ find (λ (x : n.Local). same_name x.name name) (map local_of ys)
            → option_map (λ (i : ℕ). local_of (get_or (reverse (y ∷ ys)) i d)) (cond b (Some (length (map name_in ys))) o)
            ≡ cond b (Some (local_of y)) (find (λ (x : n.Local). same_name x.name name) (map local_of ys))
        by true o e rest = ap Some here
        by false None e rest = rest
        by false (Some i) e rest = ap Some (further i (subst (λ (m : ℕ). i < m) (length-map ys name_in) (last_within name (map name_in ys) i e))) ∙ rest

-- a name with no last place is found nowhere
pub last_missing : (name : List ℕ) (xs : List Local) → last_place name (names_in xs) ≡ None → None ≡ find (λ (x : n.Local). same_name x.name name) (known_of xs)
last_missing name [] h = refl
last_missing name (x ∷ xs) h = sym (ap (option_map (λ (i : ℕ). local_of (get_or (x ∷ xs) i x))) h) ∙ last_found name (x ∷ xs) x

-- whether a place is at a mark or after it
abbrev pub is_after : ℕ → Option ℕ → Bool
is_after mark None = false
is_after mark (Some i) = nat_le mark i

after : (name : List ℕ) (xs ys : List (List ℕ)) → list_any (same_name name) xs ≡ is_after (length ys) (last_place name (xs ++ ys))
after name [] ys = none (last_place name ys) (last_within name ys)
  where
    none : (o : Option ℕ) → ((i : ℕ) → o ≡ Some i → i < length ys) → false ≡ is_after (length ys) o
    none None h = refl
    none (Some i) h = sym (lt-leb (length ys) i (h i refl))
after name (x ∷ xs) ys =
    (λ i. nat_list_eq_equiv.symm name x i || after name xs ys i)
    ∙ by (same_name x name) (last_place name (xs ++ ys))
  where
    by : (b : Bool) (o : Option ℕ) → (b || is_after (length ys) o) ≡ is_after (length ys) (cond b (Some (length (xs ++ ys))) o)
    by true o = sym (le-leb (length ys) (length (xs ++ ys)) (let long = length-append xs ys in omega arith))
    by false o = refl

pub last_after : (name : List ℕ) (mark : ℕ) (xs : List Local) → mark ≤ length xs
    → list_any (same_name name) (own_of (drop mark xs)) ≡ is_after mark (last_place name (names_in xs))
last_after name mark xs within =
    after name (own_of (drop mark xs)) (own_of (take mark xs))
    ∙ ap (λ (i : ℕ). is_after i (last_place name (own_of (drop mark xs) ++ own_of (take mark xs))))
    (length-map (reverse (take mark xs)) name_in ∙ length-reverse (take mark xs) ∙ length-take-le mark xs within)
    ∙ ap (λ (ys : List (List ℕ)). is_after mark (last_place name ys)) both
  where
    both : own_of (drop mark xs) ++ own_of (take mark xs) ≡ own_of xs
    both =
        sym (map-append name_in (reverse (drop mark xs)) (reverse (take mark xs)))
        ∙ ap (map name_in) (sym (reverse-append (take mark xs) (drop mark xs)))
        ∙ ap own_of (take-append-drop mark xs)

-- ---- Tables of the innermost locals

abbrev pub ArePlaced : Places → List Local → Type 0
ArePlaced places xs = (name : List ℕ) → place_of places name ≡ last_place name (names_in xs)

abbrev pub AreHidden : List Local → Type 0
AreHidden xs = hidden_in xs ≡ places_before (names_in xs)

pub placed_within : (places : Places) (xs : List Local) → ArePlaced places xs → (name : List ℕ) (i : ℕ) → place_of places name ≡ Some i → i < length xs
placed_within places xs placed name i h =
    subst (λ (m : ℕ). i < m) (length-map (reverse xs) name_in ∙ length-reverse xs) (last_within name (names_in xs) i (sym (placed name) ∙ h))

pub placed_push : (old new : Places) (xs ys : List Local) (x : Local) (key : List ℕ) (place : ℕ) → ArePlaced old xs
    → ((name : List ℕ) → place_of new name ≡ cond (same_name key name) (Some place) (place_of old name)) → key ≡ x.name.items → place ≡ length xs
    → ys ≡ xs ++ x ∷ []
    → ArePlaced new ys
placed_push old new xs ys x key place placed put at_key at_end more name =
    put name
    ∙ (λ i. cond (same_name (at_key i) name) (Some (at_end i)) (placed name i))
    ∙ sym (last_push name xs x)
    ∙ sym (ap (λ (zs : List Local). last_place name (names_in zs)) more)

pub hidden_grow : (xs ys : List Local) (x : Local) → AreHidden xs → x.hidden ≡ last_place x.name.items (names_in xs) → ys ≡ xs ++ x ∷ [] → AreHidden ys
hidden_grow xs ys x hidden own more =
    ap hidden_in more
    ∙ hidden_push xs x
    ∙ (λ i. own i ∷ hidden i)
    ∙ sym (before_push xs x)
    ∙ sym (ap (λ (zs : List Local). places_before (names_in zs)) more)

-- the hidden place of the last local, and those of the others
hidden_apart : (xs ys : List Local) (x : Local) → AreHidden ys → ys ≡ xs ++ x ∷ []
    → x.hidden ∷ hidden_in xs ≡ last_place x.name.items (names_in xs) ∷ places_before (names_in xs)
hidden_apart xs ys x hidden more =
    sym (ap hidden_in more ∙ hidden_push xs x)
    ∙ hidden
    ∙ ap (λ (zs : List Local). places_before (names_in zs)) more
    ∙ before_push xs x

pub hidden_shrink : (xs ys : List Local) (x : Local) → AreHidden ys → ys ≡ xs ++ x ∷ [] → AreHidden xs
hidden_shrink xs ys x hidden more = ap (drop 1) (hidden_apart xs ys x hidden more)

pub placed_pop : (old new : Places) (xs ys : List Local) (x : Local) (key : List ℕ) → ArePlaced old ys → AreHidden ys
    → ((name : List ℕ) → place_of new name ≡ cond (same_name key name) x.hidden (place_of old name)) → key ≡ x.name.items → ys ≡ xs ++ x ∷ []
    → ArePlaced new xs
placed_pop old new xs ys x key placed hidden put at_key more name =
    put name
    ∙ (λ i. cond (same_name (at_key i) name) x.hidden ((placed name ∙ ap (λ (zs : List Local). last_place name (names_in zs)) more ∙ last_push name xs x) i))
    ∙ put_back_last x.name.items name x.hidden (length xs) (names_in xs) (ap head (hidden_apart xs ys x hidden more))
  where
    head : List (Option ℕ) → Option ℕ
    head [] = None
    head (o ∷ os) = o

pub last_is_placed : (places : Places) (xs ys : List Local) (x : Local) (key : List ℕ) → ArePlaced places ys → key ≡ x.name.items → ys ≡ xs ++ x ∷ []
    → is_some (place_of places key) ≡ true
last_is_placed places xs ys x key placed at_key more =
    ap (λ (q : List ℕ). is_some (place_of places q)) at_key
    ∙ ap is_some (placed x.name.items ∙ ap (λ (zs : List Local). last_place x.name.items (names_in zs)) more ∙ last_push x.name.items xs x)
    ∙ ap (λ (b : Bool). is_some (cond b (Some (length xs)) (last_place x.name.items (names_in xs)))) (nat_list_eq_equiv.refl x.name.items)

-- the number of an array
abbrev pub number_in : Option n.Array → Option ℕ
number_in o = option_map (λ (a : n.Array). a.number) o

pub declares : (xs : List Local) (mark : ℕ) (kinds : List Kind) (referring : List (Option ℕ)) (x : Local) (ys : List Local) (ks : List Kind)
    (rs : List (Option ℕ)) (name : List ℕ) (kind : Kind) (refers : Option n.Array) → mark ≤ length xs → x.name.items ≡ name → x.number ≡ length kinds →
    x.kind ≡ kind → option_map array_of x.refers ≡ refers → ys ≡ xs ++ x ∷ [] → ks ≡ kinds ++ kind ∷ [] → rs ≡ referring ++ number_in refers ∷ [] →
    scope_made ys mark ks rs ≡ n.declared_as (scope_made xs mark kinds referring) name kind refers
declares xs mark kinds referring x ys ks rs name kind refers within text number at_kind at_array more more_kinds more_refers =
    (λ i. scope_made (more i) mark (more_kinds i) (more_refers i))
    ∙ (λ i. record {
      known = known_push xs x i;
      own = own_drop mark xs x within i;
      kinds = kinds ++ kind ∷ [];
      refers = referring ++ number_in refers ∷ [];
    })
    ∙ (λ i. record {
      known = record { name = text i; number = number i; kind = at_kind i; refers = at_array i } ∷ known_of xs;
      own = text i ∷ own_of (drop mark xs);
      kinds = kinds ++ kind ∷ [];
      refers = referring ++ number_in refers ∷ [];
    })

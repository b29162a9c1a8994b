-- Pieces one after another.
use Rattle.std.proofs.Common.{◌≡◌, ℕ, zero, suc, ◌+◌, ◌<◌, List, [], ◌∷◌, ◌++◌, length, map, refl, ap, sym, ◌∙◌, arith, subst, Bool, true, false}
use Rattle.std.proofs.Common.{Some, ◌==◌, ◌||◌, if◌then◌else◌}
use Rattle.std.specs.Prelude.{slice_get}
use Rattle.std.specs.List.{list_any, concat}
use Rattle.std.proofs.lemmas.List.{length-append, append-nil}
use Rattle.std.proofs.lemmas.Bool.Decides.{nat_tests}
use Rattle.rv64_isa.specs.declared.object.CodeItem.{CodeItem}
use Rattle.rv64_isa.specs.declared.object.CodeItem.TheVariants.{Here}
use Rattle.rv64_link.specs.LabelledCode.{label_position, stands_here, is_mark, is_resume, positions_from}
use Rattle.node_code.specs.Sites.{mark_waits, Linking, IsPart}
use Rattle.node_code.specs.JoinedPieces.{joined, AreClosed, AreJoined, Places, IsPieceAt}
use Rattle.node_code.proofs.ItemAddresses.{part_left, part_right, waits_left, waits_right, positions_append, map_append}
use Rattle.node_code.proofs.LinkedPartRuns.{stays_at}

abbrev pub here : ℕ → CodeItem
here n = Here (record { 0 = n })

-- the position of the label of each piece, and of the end
pub place : (k : ℕ) → List (List CodeItem) → (i : ℕ) → ℕ
place k [] i = k
place k (piece ∷ pieces) zero = k
place k (piece ∷ pieces) (suc i) = place (k + suc (length piece)) pieces i

some_none : {A : Type 0} (i : ℕ) (x : A) → slice_get {X = A} [] i ≡ Some x → ⊥
some_none zero x e = cc e
some_none (suc i) x e = cc e

some_is : {A : Type 0} (x y : A) → Some x ≡ Some y → x ≡ y
some_is x y e = cc e

pub place_next : (k : ℕ) (pieces : List (List CodeItem)) (i : ℕ) (piece : List CodeItem) → slice_get pieces i ≡ Some piece →
    place k pieces (suc i) ≡ place k pieces i + suc (length piece)
unfolding place
place_next k [] i piece e = absurd (some_none i piece e)
place_next k (p ∷ []) zero piece e = ap (λ (xs : List CodeItem). k + suc (length xs)) (some_is p piece e)
place_next k (p ∷ q ∷ ps) zero piece e = ap (λ (xs : List CodeItem). k + suc (length xs)) (some_is p piece e)
place_next k (p ∷ ps) (suc i) piece e = place_next (k + suc (length p)) ps i piece e

place_moves : (k m : ℕ) (pieces : List (List CodeItem)) (i : ℕ) → place (k + m) pieces i ≡ k + place m pieces i
unfolding place
place_moves k m [] i = refl
place_moves k m (p ∷ ps) zero = refl
place_moves k m (p ∷ ps) (suc i) =
    let e : k + m + suc (length p) ≡ k + (m + suc (length p)) = omega arith in
    ap (λ (n : ℕ). place n ps i) e ∙ place_moves k (m + suc (length p)) ps i

pub place_first : (k : ℕ) (pieces : List (List CodeItem)) → place k pieces 0 ≡ k
unfolding place
place_first k [] = refl
place_first k (p ∷ ps) = refl

pub place_end : (k first : ℕ) (pieces : List (List CodeItem)) → place k pieces (length pieces) ≡ k + length (joined first pieces)
unfolding place
place_end k first [] = omega arith
place_end k first (p ∷ ps) =
    let e : place (k + suc (length p)) ps (length ps) ≡ k + suc (length p) + length (joined (first + 1) ps) = place_end (k + suc (length p)) (first + 1) ps in
    let f : length (joined first (p ∷ ps)) ≡ suc (length p) + length (joined (first + 1) ps) = length-append (here first ∷ p) (joined (first + 1) ps) in
    omega (arith, e, f)

-- a piece with its label
pub record Found (all : List CodeItem) (position label : ℕ) (piece : List CodeItem) : Type 0 where
  pub part : IsPart all position (here label ∷ piece)
  pub closed : mark_waits false part.before ≡ false

found_by : (all : List CodeItem) (position position' label label' : ℕ) (piece piece' : List CodeItem) → position ≡ position' → label ≡ label' →
    piece ≡ piece' → Found all position label piece → Found all position' label' piece'
found_by all position position' label label' piece piece' e f g h =
    subst (λ (n : ℕ). Found all n label' piece') e (subst (λ (n : ℕ). Found all position n piece') f
    (subst (λ (xs : List CodeItem). Found all position label xs) g h))

pub find : (all : List CodeItem) (k first : ℕ) (pieces : List (List CodeItem)) → AreClosed pieces → (p : IsPart all k (joined first pieces)) →
    mark_waits false p.before ≡ false →
    (i : ℕ) (piece : List CodeItem) → slice_get pieces i ≡ Some piece → Found all (place k pieces i) (first + i) piece
unfolding place
find all k first [] closed p w i piece e = absurd (some_none i piece e)
find all k first (q ∷ qs) closed p w zero piece e =
    let f : first ≡ first + 0 = omega arith in
    found_by all k k first (first + 0) q piece refl f (some_is q piece e) (record
    { part = part_left all k (here first ∷ q) (joined (first + 1) qs) p; closed = waits_left all k (here first ∷ q) (joined (first + 1) qs) p ∙ w })
find all k first (q ∷ qs) closed p w (suc i) piece e =
    let f : first + 1 + i ≡ first + suc i = omega arith in
    found_by all _ _ (first + 1 + i) (first + suc i) piece piece refl f refl
    (find all (k + suc (length q)) (first + 1) qs closed.1 (part_right all k (here first ∷ q) (joined (first + 1) qs) p)
    (waits_right all k (here first ∷ q) (joined (first + 1) qs) p ∙ ap (λ (v : Bool). mark_waits v (here first ∷ q)) w ∙ closed.0.waits) i piece e)

-- ---- Labels

label_past : (label : ℕ) (xs ys : List CodeItem) → list_any (stands_here label) xs ≡ false →
    label_position label (xs ++ ys) ≡ length xs + label_position label ys
label_past label [] ys e = omega arith
label_past label (x ∷ xs) ys e = by (stands_here label x) (label_past label xs ys) e
  where
    by : (b : Bool) → (list_any (stands_here label) xs ≡ false → label_position label (xs ++ ys) ≡ length xs + label_position label ys) →
        (b || list_any (stands_here label) xs) ≡ false → (if b then 0 else 1 + label_position label (xs ++ ys)) ≡ length (x ∷ xs) + label_position label ys
    by true past e = cc
    by false past e = let f : label_position label (xs ++ ys) ≡ length xs + label_position label ys = past e in omega (arith, f)

same_test : (a b : ℕ) → a ≡ b → (a == b) ≡ true
same_test a b e = grind (arith, nat_tests)

other_test : (a b : ℕ) → b < a → (a == b) ≡ false
other_test a b h = grind (arith, nat_tests)

pub label_at : (first : ℕ) (pieces : List (List CodeItem)) → AreClosed pieces → (i : ℕ) → i < length pieces →
    label_position (first + i) (joined first pieces) ≡ place 0 pieces i
unfolding place
label_at first [] closed i h = absurd (omega (arith, h))
label_at first (q ∷ qs) closed zero h =
    ap (λ (b : Bool). if b then 0 else 1 + label_position (first + 0) (q ++ joined (first + 1) qs)) (same_test (first + 0) first (omega arith))
label_at first (q ∷ qs) closed (suc i) h =
    let label : ℕ = first + suc i in
    let past : label_position label (q ++ joined (first + 1) qs) ≡ length q + label_position label (joined (first + 1) qs) = label_past label q
    (joined (first + 1) qs) (closed.0.labels label) in
    let same : label ≡ first + 1 + i = omega arith in
    let rest : label_position label (joined (first + 1) qs) ≡ place 0 qs i =
    ap (λ (n : ℕ). label_position n (joined (first + 1) qs)) same ∙ label_at (first + 1) qs closed.1 i (omega (arith, h)) in
    let e : suc (length q) + 0 ≡ 0 + suc (length q) = omega arith in
    let moves : place (0 + suc (length q)) qs i ≡ suc (length q) + place 0 qs i = ap (λ (n : ℕ). place n qs i) (sym e) ∙ place_moves (suc (length q)) 0 qs i in
    ap (λ (b : Bool). if b then 0 else 1 + label_position label (q ++ joined (first + 1) qs)) (other_test label first (omega arith)) ∙
    omega (arith, past, rest, moves)

-- ---- Marks

-- of each piece the addresses of its items that pass a test
pub lists : (at : ℕ → ℕ) → (CodeItem → Bool) → (k : ℕ) → List (List CodeItem) → List (List ℕ)
lists at test k [] = []
lists at test k (piece ∷ pieces) = map at (positions_from (k + 1) test piece) ∷ lists at test (k + suc (length piece)) pieces

pub lists_count : (at : ℕ → ℕ) (test : CodeItem → Bool) (k : ℕ) (pieces : List (List CodeItem)) → length (lists at test k pieces) ≡ length pieces
unfolding lists
lists_count at test k [] = refl
lists_count at test k (p ∷ ps) = ap suc (lists_count at test (k + suc (length p)) ps)

pub lists_at : (at : ℕ → ℕ) (test : CodeItem → Bool) (k : ℕ) (pieces : List (List CodeItem)) (i : ℕ) (piece : List CodeItem) → slice_get pieces i ≡ Some piece →
    slice_get (lists at test k pieces) i ≡ Some (map at (positions_from (place k pieces i + 1) test piece))
unfolding place lists
lists_at at test k [] i piece e = absurd (some_none i piece e)
lists_at at test k (p ∷ ps) zero piece e = ap (λ (xs : List CodeItem). Some (map at (positions_from (k + 1) test xs))) (some_is p piece e)
lists_at at test k (p ∷ ps) (suc i) piece e = lists_at at test (k + suc (length p)) ps i piece e

pub lists_are : (at : ℕ → ℕ) (test : CodeItem → Bool) → ((label : ℕ) → test (here label) ≡ false) → (k first : ℕ) (pieces : List (List CodeItem)) →
    map at (positions_from k test (joined first pieces)) ≡ concat (lists at test k pieces)
unfolding lists
lists_are at test none k first [] = refl
lists_are at test none k first (p ∷ ps) =
    ap (λ (ns : List ℕ). map at ns) (positions_append k test (here first ∷ p) (joined (first + 1) ps)) ∙
    map_append at (positions_from k test (here first ∷ p)) (positions_from (k + suc (length p)) test (joined (first + 1) ps)) ∙
    ap (λ (b : Bool). map at (if b then k ∷ positions_from (k + 1) test p else positions_from (k + 1) test p) ++ map at
    (positions_from (k + suc (length p)) test (joined (first + 1) ps))) (none first) ∙
    ap (λ (ns : List ℕ). map at (positions_from (k + 1) test p) ++ ns) (lists_are at test none (k + suc (length p)) (first + 1) ps)

-- ---- Together

module _ (pieces : List (List CodeItem)) (closed : AreClosed pieces) (n : Linking (joined 0 pieces)) where
  abbrev all : List CodeItem
  all = joined 0 pieces

  abbrev at : ℕ → ℕ
  at = n.linked.address_of

  places : Places
  places = record { entry = λ i. at (place 0 pieces i); marks = lists at is_mark 0 pieces; resumes = lists at is_resume 0 pieces }

  whole : IsPart all 0 (joined 0 pieces)
  whole = record { before = []; after = []; split = sym (append-nil (joined 0 pieces)); at = refl }

  found : (i : ℕ) (piece : List CodeItem) → slice_get pieces i ≡ Some piece → Found all (place 0 pieces i) (0 + i) piece
  unfolding whole
  found i piece e = find all 0 0 pieces closed whole refl i piece e

  stand_at : (i : ℕ) (piece : List CodeItem) → slice_get pieces i ≡ Some piece → IsPieceAt pieces n places i piece
  unfolding places
  stand_at i piece e =
      let f : Found all (place 0 pieces i) (0 + i) piece = found i piece e in
      record {
        site = record {
          items = all;
          position = place 0 pieces i + 1;
          linking = n;
          is_part = part_right all (place 0 pieces i) (here (0 + i) ∷ []) piece f.part;
          closed = waits_right all (place 0 pieces i) (here (0 + i) ∷ []) piece f.part ∙ ap (λ (w : Bool). mark_waits w (here (0 + i) ∷ [])) f.closed;
        };
        program = refl;
        environment = refl;
        begin = stays_at all n (place 0 pieces i) (here (0 + i)) piece f.part refl;
        end =
            let next : place 0 pieces (suc i) ≡ place 0 pieces i + suc (length piece) = place_next 0 pieces i piece e in
            let same : i + 1 ≡ suc i = omega arith in
            let all_of : place 0 pieces (i + 1) ≡ place 0 pieces i + 1 + length piece = ap (λ (m : ℕ). place 0 pieces m) same ∙ omega (arith, next) in
            ap at (sym all_of);
        labels = λ l h.
            let same : l ≡ 0 + l = omega arith in
            ap at (ap (λ (m : ℕ). label_position m all) same ∙ label_at 0 pieces closed l h);
        marks = lists_at at is_mark 0 pieces i piece e;
        resumes = lists_at at is_resume 0 pieces i piece e;
      }

  pub joined_stand : AreJoined pieces n
  unfolding places
  joined_stand = record {
    places = places;
    begins = ap at (place_first 0 pieces) ∙ n.linked.begins;
    ends =
        let e : 0 + length (joined 0 pieces) ≡ length (joined 0 pieces) = omega arith in
        ap at (place_end 0 0 pieces ∙ e) ∙ n.linked.ends;
    at = stand_at;
    nodes = n.linked.nodes_are ∙ lists_are at is_mark (λ label. refl) 0 0 pieces;
    resumed = n.linked.resumes_are ∙ lists_are at is_resume (λ label. refl) 0 0 pieces;
    marks_count = lists_count at is_mark 0 pieces;
    resumes_count = lists_count at is_resume 0 pieces;
  }

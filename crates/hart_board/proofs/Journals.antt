-- A journal with a turn more.
use Rattle.std.proofs.Common.{◌≡◌, ◌≢◌, ◌⊎◌, ℕ, zero, suc, ◌+◌, ◌<◌, ◌≤◌, List, [], ◌∷◌, ◌++◌, length, Bool, true}
use Rattle.std.proofs.Common.{false, sym, refl, ap, ◌∙◌, subst, inl, inr, ⊎_elim, arith, eqb, eq-eqb, ne_eqb}
use Rattle.std.specs.Prelude.{All}
use Rattle.std.proofs.lemmas.List.Elements.{All-head, All-tail}
use Rattle.std.proofs.lemmas.List.{append-nil}
use mathlib.Core.List.{IsPrefix, append_assoc}
use Rattle.hart_board.specs.declared.journal.Entry.{Entry}
use Rattle.hart_board.specs.Journals.{Play, entries_by, IsTurn, IsLegal}

-- where a list with an element more is cut, the cut is after it or before it
pub cut_more : {A : Type 0} (xs before after : List A) (e x : A) → xs ++ e ∷ [] ≡ before ++ x ∷ after →
    ((xs ≡ before) × (e ≡ x)) ⊎ ((rest : List A) × (xs ≡ before ++ x ∷ rest))
cut_more [] [] after e x q = inl (refl, cc q)
cut_more [] (b ∷ []) after e x q = absurd (cc q)
cut_more [] (b ∷ (d ∷ ds)) after e x q = absurd (cc q)
cut_more (y ∷ ys) [] after e x q = inr (ys, cc q)
cut_more (y ∷ ys) (b ∷ bs) after e x q = let same : y ≡ b = cc q in let rest : ys ++ e ∷ [] ≡ bs ++ x ∷ after = cc q in
    ⊎_elim (λ (t : (ys ≡ bs) × (e ≡ x)). inl (cc (same, t.0), t.1)) (λ (t : (rest : _) × (ys ≡ bs ++ x ∷ rest)). inr (t.0, cc (same, t.1)))
    (cut_more ys bs after e x rest)

pub legal_more : (c : Play) (most ceiling : ℕ) (journal : List Entry) (e : Entry) → IsLegal c most ceiling journal → IsTurn c most ceiling journal e →
    IsLegal c most ceiling (journal ++ e ∷ [])
legal_more c most ceiling journal e legal turn before x after q =
    ⊎_elim (λ (t : (journal ≡ before) × (e ≡ x)). subst (λ (z : List Entry × Entry). IsTurn c most ceiling z.0 z.1) (λ i. (t.0 i, t.1 i)) turn)
    (λ (t : (rest : List Entry) × (journal ≡ before ++ x ∷ rest)). legal before x t.0 t.1) (cut_more journal before after e x q)

-- a turn of another seat is none of one's own
pub entries_else : (n : ℕ) (journal : List Entry) (e : Entry) → e.seat ≢ n → entries_by n (journal ++ e ∷ []) ≡ entries_by n journal
entries_else n [] e other = simp (ne_eqb e.seat n other) refl
entries_else n (x ∷ xs) e other = let rest = entries_else n xs e other in (λ i. Rattle.std.proofs.Common.cond (eqb x.seat n) (x ∷ rest i) (rest i))

pub entries-append : (n : ℕ) (xs ys : List Entry) → entries_by n (xs ++ ys) ≡ entries_by n xs ++ entries_by n ys
entries-append n [] ys = refl
entries-append n (x ∷ xs) ys = let rest = entries-append n xs ys in branch (eqb x.seat n) x (entries_by n (xs ++ ys)) (entries_by n xs) (entries_by n ys) rest
  where
    branch : (b : Bool) (x : Entry) (all front back : List Entry) → all ≡ front ++ back
        → Rattle.std.proofs.Common.cond b (x ∷ all) all ≡ Rattle.std.proofs.Common.cond b (x ∷ front) front ++ back
    branch true x all front back e = ap (λ (z : List Entry). x ∷ z) e
    branch false x all front back e = e

pub nothing_more : (xs ys : List Entry) → xs ++ ys ≡ xs → ys ≡ []
nothing_more [] ys e = e
nothing_more (x ∷ xs) ys e = nothing_more xs ys (cc e)

nothing_at_all : (xs ys : List Entry) → xs ++ ys ≡ [] → xs ≡ []
nothing_at_all [] ys e = refl
nothing_at_all (x ∷ xs) ys e = absurd (cc e)

-- what lies between two lists with the same turns of a seat has these too
pub entries_between : (n : ℕ) (xs ys zs : List Entry) → IsPrefix xs ys → IsPrefix ys zs → entries_by n zs ≡ entries_by n xs → entries_by n zs ≡ entries_by n ys
entries_between n xs ys zs p q same =
    let a : entries_by n ys ≡ entries_by n xs ++ entries_by n p.0 = ap (entries_by n) (sym p.1) ∙ entries-append n xs p.0 in
    let b : entries_by n zs ≡ entries_by n ys ++ entries_by n q.0 = ap (entries_by n) (sym q.1) ∙ entries-append n ys q.0 in
    let c : entries_by n xs ++ (entries_by n p.0 ++ entries_by n q.0) ≡ entries_by n xs =
    sym (append_assoc (entries_by n xs) (entries_by n p.0) (entries_by n q.0)) ∙ (ap (λ (z : List Entry). z ++ entries_by n q.0) (sym a) ∙ (sym b ∙ same)) in
    let d : entries_by n p.0 ≡ [] =
    nothing_at_all (entries_by n p.0) (entries_by n q.0) (nothing_more (entries_by n xs) (entries_by n p.0 ++ entries_by n q.0) c) in
    same ∙ sym (a ∙ (ap (λ (z : List Entry). entries_by n xs ++ z) d ∙ append-nil (entries_by n xs)))

-- where each seat's turns are among those that were seen, these are all
pub all_seen : (seats : ℕ) (seen journal : List Entry) → IsPrefix seen journal → All (λ e. e.seat < seats) journal →
    ((n : ℕ) → n < seats → entries_by n journal ≡ entries_by n seen) → seen ≡ journal
all_seen seats seen journal p each own = rest_empty p.0 p.1
  where
    rest_empty : (rest : List Entry) → seen ++ rest ≡ journal → seen ≡ journal
    rest_empty [] e = sym (append-nil seen) ∙ e
    rest_empty (x ∷ xs) e =
        let inside : x.seat < seats =
        All-head (λ (z : Entry). z.seat < seats) x xs (All-append-right seen (x ∷ xs) (subst (All (λ (z : Entry). z.seat < seats)) (sym e) each)) in
        let all : entries_by x.seat seen ++ entries_by x.seat (x ∷ xs) ≡ entries_by x.seat seen =
        sym (entries-append x.seat seen (x ∷ xs)) ∙ (ap (entries_by x.seat) e ∙ own x.seat inside) in
        let none : entries_by x.seat (x ∷ xs) ≡ [] = nothing_more (entries_by x.seat seen) (entries_by x.seat (x ∷ xs)) all in
        let one : entries_by x.seat (x ∷ xs) ≡ x ∷ entries_by x.seat xs = simp (eq-eqb x.seat x.seat refl) refl in
        absurd (cc (none, one))
      where
        All-append-right : (ps bs : List Entry) → All (λ (z : Entry). z.seat < seats) (ps ++ bs) → All (λ (z : Entry). z.seat < seats) bs
        All-append-right [] bs h = h
        All-append-right (a ∷ ps) bs h = All-append-right ps bs (All-tail (λ (z : Entry). z.seat < seats) a (ps ++ bs) h)

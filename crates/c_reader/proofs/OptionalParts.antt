-- Parts that may be absent, and parts with commas between them, keep their languages.
use Rattle.std.proofs.Common.{◌≡◌, ℕ, zero, suc, ◌≤◌, List, [], ◌∷◌, ◌++◌, Option, Some, None, Bool, true}
use Rattle.std.proofs.Common.{false, sym, refl, ap, ◌∙◌, subst, inl, inr, append_assoc, ◌-◌, arith}
use Rattle.std.specs.Prelude.{◌⊎◌}
use Rattle.c_tree.specs.Tokens.{Token, Lexeme, Punctuator}
use Rattle.c_tree.specs.declared.token.Punctuator.TheVariants as p
use Rattle.c_tree.specs.Languages.{maybe, more_of, some_of}
use Rattle.c_reader.specs.links.ParserFunctions.{Parser, head_of, head_is, is_mark, parse_maybe, parse_unless, parse_more_of, parse_some_of}
use Rattle.c_reader.proofs.CorrectParsers.{Spelling, Good, ◌▷◌, ◌▹◌, just, Anything, good_give, good_to, good_map}
use Rattle.c_reader.proofs.CorrectParsers.{good_where, good_then, good_then_less, good_less, good_small}
use Rattle.c_reader.proofs.Tokens.{marked, good_mark, marked-strict}

-- each list of the language begins with a token that passes the test, or with one that fails it
abbrev pub Starts : {A : Type 0} → (Option Lexeme → Bool) → Bool → Spelling A → Type 0
Starts {A = A} test answer L = (x : A) (us rest : List Token) → L x us → test (head_of (us ++ rest)) ≡ answer

-- where a part is read if the next token passes a test: what follows must fail it too
abbrev pub Unless : (Lexeme → Bool) → (Option Lexeme → Type 0) → Option Lexeme → Type 0
Unless test F h = F h × (head_is test h ≡ false)

pub good_maybe : {A : Type 0} {b : ℕ} {L : Spelling A} {F : Option Lexeme → Type 0} {P P' : Parser A} (test : Lexeme → Bool) →
    Good b L L F P P' → Starts (head_is test) true L → Good b (maybe L) (maybe L) (Unless test F) (parse_maybe test P) (parse_maybe test P')
good_maybe {A = A} {b = b} {L = L} {F = F} {P = P} {P' = P'} test g starts =
    good_where (head_is test)
    (good_to {U' = maybe L} {K' = L ▹ Some} (good_map Some g) (λ y us u. subst (λ y. maybe L y us) u.2 u.1) (λ y us u. u) (λ h f. f.0))
    (good_to {U' = maybe L} {K' = just None} (good_give None) (λ y us u. subst (λ y. maybe L y us) u.0 u.1) (λ y us u. u) (λ h f. tt))
    out
  where
    out : (x : Option A) (us rest : List Token) → maybe L x us → Unless test F (head_of rest)
        → ((L ▹ Some) x us × (head_is test (head_of (us ++ rest)) ≡ true)) ⊎ (just None x us × (head_is test (head_of (us ++ rest)) ≡ false))
    out None us rest u f = inr ((refl, u), rw u f.1)
    out (Some x) us rest u f = inl ((x, u, refl), starts x us rest u)

-- where a part is read unless the next token passes a test: what follows must pass it
abbrev pub Where : (Lexeme → Bool) → (Option Lexeme → Type 0) → Option Lexeme → Type 0
Where test F h = F h × (head_is test h ≡ true)

pub good_unless : {A : Type 0} {b : ℕ} {L : Spelling A} {F : Option Lexeme → Type 0} {P P' : Parser A} (test : Lexeme → Bool) →
    Good b L L F P P' → Starts (head_is test) false L → Good b (maybe L) (maybe L) (Where test F) (parse_unless test P) (parse_unless test P')
good_unless {A = A} {b = b} {L = L} {F = F} {P = P} {P' = P'} test g starts =
    good_where (head_is test)
    (good_to {U' = maybe L} {K' = just None} (good_give None) (λ y us u. subst (λ y. maybe L y us) u.0 u.1) (λ y us u. u) (λ h f. tt))
    (good_to {U' = maybe L} {K' = L ▹ Some} (good_map Some g) (λ y us u. subst (λ y. maybe L y us) u.2 u.1) (λ y us u. u) (λ h f. f.0))
    out
  where
    out : (x : Option A) (us rest : List Token) → maybe L x us → Where test F (head_of rest)
        → (just None x us × (head_is test (head_of (us ++ rest)) ≡ true)) ⊎ ((L ▹ Some) x us × (head_is test (head_of (us ++ rest)) ≡ false))
    out None us rest u f = inl ((refl, u), rw u f.1)
    out (Some x) us rest u f = inr ((x, u, refl), starts x us rest u)

-- ---- Parts with commas between them

abbrev Comma : {A : Type 0} → Spelling A → Spelling (List A)
Comma L = marked p.Comma ▷ (λ c. L ▷ (λ x. more_of L ▹ (λ xs. x ∷ xs)))

comma_up : {A : Type 0} (L : Spelling A) (ys : List A) (us : List Token) → Comma L ys us → more_of L ys us
comma_up L ys us (c, us₁, us₂, e, l, (x, us₃, us₄, e', h, (xs, m, q))) =
    subst (λ ys. more_of L ys us) q (us₁ ++ us₃, us₄, e ∙ ap (λ l. us₁ ++ l) e' ∙ sym (append_assoc us₁ us₃ us₄), (us₁, us₃, refl, (c, l), h), m)

comma_down : {A : Type 0} (L : Spelling A) (x : A) (xs : List A) (us : List Token) → more_of L (x ∷ xs) us → Comma L (x ∷ xs) us
comma_down L x xs us (us₁, us₂, e, (us₃, us₄, e', (c, l), h), m) =
    (c, us₃, us₄ ++ us₂, e ∙ ap (λ l. l ++ us₂) e' ∙ append_assoc us₃ us₄ us₂, l, (x, us₄, us₂, refl, h, (xs, m, refl)))

-- after a part stands a comma, or what follows
more_ends : {A : Type 0} (L : Spelling A) (F : Option Lexeme → Type 0) → F (Some (Punctuator p.Comma)) → (xs : List A) (us rest : List Token) → more_of L xs us
    → Unless (is_mark p.Comma) F (head_of rest) → F (head_of (us ++ rest))
more_ends L F comma [] us rest u f = rw u f.0
more_ends L F comma (x ∷ xs) us rest (us₁, us₂, e, (us₃, us₄, e', (c, l), h), m) f = rw (e, e', l) comma

more_step : {A : Type 0} {b c : ℕ} {L : Spelling A} {F : Option Lexeme → Type 0} {P P' : Parser A} → b ≤ suc c → c ≤ b → F (Some (Punctuator p.Comma))
    → Good b L L F P P' → (fuel fuel' : ℕ) →
    Good c (more_of L) (more_of L) (Unless (is_mark p.Comma) F) (parse_more_of fuel P) (parse_more_of fuel' P') →
    Good b (more_of L) (more_of L) (Unless (is_mark p.Comma) F) (parse_more_of (suc fuel) P) (parse_more_of (suc fuel') P')
more_step {A = A} {L = L} {F = F} bc cb comma g fuel fuel' h =
    good_where {K₁ = Comma L} {K₂ = just []} (head_is (is_mark p.Comma))
    (good_to {U = Comma L} {K = Comma L} {F = Unless (is_mark p.Comma) F}
    (good_then_less {M = λ c. L ▷ (λ x. more_of L ▹ (λ xs. x ∷ xs))} {F = Anything} {G = Unless (is_mark p.Comma) F} bc (marked-strict p.Comma)
    (good_mark p.Comma)
    (λ c. good_then {M = λ x. more_of L ▹ (λ xs. x ∷ xs)} {F = F} {G = Unless (is_mark p.Comma) F} (good_less g cb) (λ x. good_map (λ xs. x ∷ xs) h)
    (λ x ys us rest (xs, m, q) f. more_ends L F comma xs us rest m f))
    (λ c y us rest m f. tt))
    (comma_up L) (λ y us u. u) (λ h f. f))
    (good_to {U' = more_of L} {K' = just []} (good_give []) (λ ys us u. subst (λ ys. more_of L ys us) u.0 u.1) (λ y us u. u) (λ h f. tt))
    out
  where
    out : (ys : List A) (us rest : List Token) → more_of L ys us → Unless (is_mark p.Comma) F (head_of rest) →
        (Comma L ys us × (head_is (is_mark p.Comma) (head_of (us ++ rest)) ≡ true))
        ⊎ (just [] ys us × (head_is (is_mark p.Comma) (head_of (us ++ rest)) ≡ false))
    out [] us rest u f = inr ((refl, u), rw u f.1)
    out (x ∷ xs) us rest (us₁, us₂, e, (us₃, us₄, e', (c, l), h), m) f =
        inl (comma_down L x xs us (us₁, us₂, e, (us₃, us₄, e', (c, l), h), m), rw (e, e', l) refl)

pub good_more_of : {A : Type 0} {L : Spelling A} {F : Option Lexeme → Type 0} {P P' : Parser A} → F (Some (Punctuator p.Comma)) → (fuel fuel' b : ℕ) → b ≤ fuel
    → b ≤ fuel' → Good b L L F P P' → Good 0 L L F P P →
    Good b (more_of L) (more_of L) (Unless (is_mark p.Comma) F) (parse_more_of fuel P) (parse_more_of fuel' P')
good_more_of comma zero fuel' b h h' g g₀ = good_small h (λ ts. ([], refl, [], [], refl))
good_more_of comma (suc fuel) zero b h h' g g₀ =
    good_small h' (more_step {b = 0} {c = 0} (omega arith) (omega arith) comma g₀ fuel fuel
    (good_more_of comma fuel fuel 0 (omega arith) (omega arith) g₀ g₀)).sure
good_more_of comma (suc fuel) (suc fuel') b h h' g g₀ =
    more_step {b = b} {c = b - 1} (omega arith) (omega arith) comma g fuel fuel'
    (good_more_of comma fuel fuel' (b - 1) (omega (arith, h)) (omega (arith, h')) (good_less g (omega arith)) g₀)

pub good_some_of : {A : Type 0} {L : Spelling A} {F : Option Lexeme → Type 0} {P P' : Parser A} → F (Some (Punctuator p.Comma)) → (fuel fuel' b : ℕ) → b ≤ fuel
    → b ≤ fuel' → Good b L L F P P' → Good 0 L L F P P →
    Good b (some_of L) (some_of L) (Unless (is_mark p.Comma) F) (parse_some_of fuel P) (parse_some_of fuel' P')
good_some_of {A = A} {L = L} {F = F} comma fuel fuel' b h h' g g₀ =
    good_to {U = L ▷ (λ x. more_of L ▹ (λ xs. x ∷ xs))} {K = L ▷ (λ x. more_of L ▹ (λ xs. x ∷ xs))} {F = Unless (is_mark p.Comma) F}
    (good_then {M = λ x. more_of L ▹ (λ xs. x ∷ xs)} {F = F} {G = Unless (is_mark p.Comma) F} g
    (λ x. good_map (λ xs. x ∷ xs) (good_more_of comma fuel fuel' b h h' g g₀))
    (λ x ys us rest (xs, m, q) f. more_ends L F comma xs us rest m f))
    (λ ys us (x, us₁, us₂, e, l, (xs, m, q)). subst (λ ys. some_of L ys us) q (us₁, us₂, e, l, m)) down (λ h f. f)
  where
    down : (ys : List A) (us : List Token) → some_of L ys us → (L ▷ (λ x. more_of L ▹ (λ xs. x ∷ xs))) ys us
    down [] us u = absurd u
    down (x ∷ xs) us (us₁, us₂, e, l, m) = (x, us₁, us₂, e, l, (xs, m, refl))

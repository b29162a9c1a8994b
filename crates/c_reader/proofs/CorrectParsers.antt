-- What a parser owes to the language that it reads, and how the ways to join parsers keep it.
use Rattle.std.proofs.Common.{◌≡◌, ℕ, suc, ◌+◌, ◌<◌, ◌≤◌, List, [], ◌∷◌, ◌++◌, length, Option, Some, None, Bool, true, false}
use Rattle.std.proofs.Common.{sym, refl, ap, ◌∙◌, inl, inr, append_assoc, length-append, arith, le_trans, le_refl}
use Rattle.std.specs.Prelude.{◌⊎◌}
use Rattle.c_tree.specs.Tokens.{Token, Lexeme}
use Rattle.c_reader.specs.links.ParserFunctions.{Parsed, Read, Wrong, Parser, give, wrong, follow, ◌>>=◌, head_of, by_head, taking, where_head}

-- ---- Which tokens spell which tree

abbrev pub Spelling : Type 0 → Type 1
Spelling A = A → List Token → Type 0

-- one and then another, which may depend on the tree of the first
infixr 6 ◌▷◌
abbrev pub ◌▷◌ : {A B : Type 0} → Spelling A → (A → Spelling B) → Spelling B
(L ▷ M) y ts = (x : _) × (us : List Token) × (vs : List Token) × (ts ≡ us ++ vs) × L x us × M x y vs

-- the trees that a function makes of others
infixr 6 ◌▹◌
abbrev pub ◌▹◌ : {A B : Type 0} → Spelling A → (A → B) → Spelling B
(L ▹ f) y ts = (x : _) × L x ts × (f x ≡ y)

-- nothing is read, for one tree
abbrev pub just : {A : Type 0} → A → Spelling A
just x y ts = (x ≡ y) × (ts ≡ [])

abbrev pub nothing : {A : Type 0} → Spelling A
nothing x ts = ⊥

-- one token, in which the function finds the tree
abbrev pub found_in : {A : Type 0} → (Token → Option A) → Spelling A
found_in f x ts = (t : Token) × (ts ≡ t ∷ []) × (f t ≡ Some x)

-- ---- What a parser owes

-- an answer: what was read belongs to the language; what stands before a wrong token begins something that does
abbrev pub Meets : {A : Type 0} → Spelling A → List Token → Parsed A → Type 0
Meets L ts (Read x rest) = (us : List Token) × (ts ≡ us ++ rest) × L x us
Meets L ts (Wrong rest) = (us : List Token) × (ts ≡ us ++ rest) × (more : List Token) × (x : _) × L x (us ++ more)

-- two answers where the tokens after t differ: the first went past t, or both stopped at one place before it
abbrev pub ParseLockstep : {A : Type 0} → Token → (w w' : List Token) → (r r' : Parsed A) → Type 0
ParseLockstep t w w' (Read x rest) r' = (length rest ≤ length w) ⊎ ((v : List Token) × (rest ≡ v ++ t ∷ w) × (r' ≡ Read x (v ++ t ∷ w')))
ParseLockstep t w w' (Wrong rest) r' = (length rest ≤ length w) ⊎ ((v : List Token) × (rest ≡ v ++ t ∷ w) × (r' ≡ Wrong (v ++ t ∷ w')))

-- Up to so many tokens, a parser answers in U, it reads all of K where the next token may follow, and another one answers in lockstep.
pub record Good {A : Type 0} (b : ℕ) (U K : Spelling A) (F : Option Lexeme → Type 0) (P P' : Parser A) : Type 0 where
  pub sure : (ts : List Token) → Meets U ts (P ts)
  pub lockstep : (us : List Token) (t : Token) (w w' : List Token) → length us < b → ParseLockstep t w w' (P (us ++ t ∷ w)) (P' (us ++ t ∷ w'))
  pub whole : (x : A) (us rest : List Token) → K x us → length us < b → F (head_of rest) → P (us ++ rest) ≡ Read x rest

-- anything may follow
abbrev pub Anything : Option Lexeme → Type 0
Anything h = Unit {0}

-- ---- Small facts

pub shorter : (us v rest : List Token) (t : Token) (w : List Token) (first : List Token) → us ++ t ∷ w ≡ first ++ rest → rest ≡ v ++ t ∷ w
    → length us ≡ length first + length v
shorter us v rest t w first e e' =
    let a : length us + length (t ∷ w) ≡ length first + (length v + length (t ∷ w)) =
    sym (length-append us (t ∷ w)) ∙ ap length e ∙ length-append first rest ∙ ap (λ r. length first + length r) e'
    ∙ ap (λ n. length first + n) (length-append v (t ∷ w)) in
    omega (arith, a)

pub rest_within : (ts us rest : List Token) (n : ℕ) → ts ≡ us ++ rest → length ts ≤ n → length rest ≤ n
rest_within ts us rest n e h = let a : length ts ≡ length us + length rest = ap length e ∙ length-append us rest in omega (arith, a, h)

-- an answer whose tokens went past t is in lockstep with any
pub past : {A : Type 0} (L : Spelling A) (ts : List Token) (t : Token) (w w' : List Token) (r r' : Parsed A) → Meets L ts r → length ts ≤ length w
    → ParseLockstep t w w' r r'
past L ts t w w' (Read x rest) r' m h = inl (rest_within ts m.0 rest (length w) m.1 h)
past L ts t w w' (Wrong rest) r' m h = inl (rest_within ts m.0 rest (length w) m.1 h)

-- ---- Ways to join

pub good_give : {A : Type 0} {b : ℕ} (x : A) → Good b (just x) (just x) Anything (give x) (give x)
good_give x = record {
  sure = λ ts. ([], refl, (refl, refl));
  lockstep = λ us t w w' h. inr (us, refl, refl);
  whole = λ y us rest k h f. rw (k.1, ← k.0) refl;
}

pub good_wrong : {A : Type 0} {b : ℕ} {U : Spelling A} {F : Option Lexeme → Type 0} (x : A) (ts : List Token) → U x ts → Good b U nothing F wrong wrong
good_wrong x more u = record {
  sure = λ ts. ([], refl, more, x, u);
  lockstep = λ us t w w' h. inr (us, refl, refl);
  whole = λ y us rest k h f. absurd k;
}

-- a token of its own: what is found in it
taking_sure : {A : Type 0} (f : Token → Option A) (t₀ : Token) (x₀ : A) → f t₀ ≡ Some x₀ → (ts : List Token) → Meets (found_in f) ts (taking f ts)
taking_sure {A = A} f t₀ x₀ e [] = ([], refl, t₀ ∷ [], x₀, (t₀, refl, e))
taking_sure {A = A} f t₀ x₀ e (t ∷ ts) = go (f t) refl
  where
    go : (o : Option A) → f t ≡ o → Meets (found_in f) (t ∷ ts) (elim o [ Some x ↦ Read x ts | None ↦ Wrong (t ∷ ts) ])
    go (Some x) h = (t ∷ [], refl, (t, refl, h))
    go None h = ([], refl, t₀ ∷ [], x₀, (t₀, refl, e))

taking_lockstep : {A : Type 0} (f : Token → Option A) (us : List Token) (t : Token) (w w' : List Token)
    → ParseLockstep t w w' (taking f (us ++ t ∷ w)) (taking f (us ++ t ∷ w'))
taking_lockstep {A = A} f [] t w w' = go (f t)
  where
    go : (o : Option A) → ParseLockstep t w w' (elim o [ Some x ↦ Read x w | None ↦ Wrong (t ∷ w) ]) (elim o [ Some x ↦ Read x w' | None ↦ Wrong (t ∷ w') ])
    go (Some x) = inl (le_refl (length w))
    go None = inr ([], refl, refl)
taking_lockstep {A = A} f (u ∷ us) t w w' = go (f u)
  where
    go : (o : Option A) → ParseLockstep t w w' (elim o [ Some x ↦ Read x (us ++ t ∷ w) | None ↦ Wrong (u ∷ us ++ t ∷ w) ])
        (elim o [ Some x ↦ Read x (us ++ t ∷ w') | None ↦ Wrong (u ∷ us ++ t ∷ w') ])
    go (Some x) = inr (us, refl, refl)
    go None = inr (u ∷ us, refl, refl)

taking_whole : {A : Type 0} (f : Token → Option A) (x : A) (us rest : List Token) → found_in f x us → taking f (us ++ rest) ≡ Read x rest
taking_whole f x us rest (t, e, h) = rw e (rw h refl)

pub good_taking : {A : Type 0} {b : ℕ} (f : Token → Option A) (t₀ : Token) (x₀ : A) → f t₀ ≡ Some x₀
    → Good b (found_in f) (found_in f) Anything (taking f) (taking f)
good_taking f t₀ x₀ e = record {
  sure = taking_sure f t₀ x₀ e;
  lockstep = λ us t w w' h. taking_lockstep f us t w w';
  whole = λ x us rest k h g. taking_whole f x us rest k;
}

pub good_to : {A : Type 0} {b : ℕ} {U K U' K' : Spelling A} {F F' : Option Lexeme → Type 0} {P P' : Parser A} →
    Good b U K F P P' → ((x : A) (us : List Token) → U x us → U' x us) → ((x : A) (us : List Token) → K' x us → K x us) → ((h : Option Lexeme) → F' h → F h)
    → Good b U' K' F' P P'
good_to {A = A} {U = U} {U' = U'} {P = P} g up down over = record {
  sure = λ ts. go ts (P ts) (g.sure ts);
  lockstep = g.lockstep;
  whole = λ x us rest k h f. g.whole x us rest (down x us k) h (over (head_of rest) f);
}
  where
    go : (ts : List Token) (r : Parsed A) → Meets U ts r → Meets U' ts r
    go ts (Read x rest) (us, e, u) = (us, e, up x us u)
    go ts (Wrong rest) (us, e, more, x, u) = (us, e, more, x, up x (us ++ more) u)

pub good_less : {A : Type 0} {b c : ℕ} {U K : Spelling A} {F : Option Lexeme → Type 0} {P P' : Parser A} → Good b U K F P P' → c ≤ b → Good c U K F P P'
good_less g h = record {
  sure = g.sure;
  lockstep = λ us t w w' e. g.lockstep us t w w' (le_trans e h);
  whole = λ x us rest k e f. g.whole x us rest k (le_trans e h) f;
}

pub good_map : {A B : Type 0} {b : ℕ} {U K : Spelling A} {F : Option Lexeme → Type 0} {P P' : Parser A} (f : A → B) → Good b U K F P P'
    → Good b (U ▹ f) (K ▹ f) F (P >>= λ x. give (f x)) (P' >>= λ x. give (f x))
good_map {A = A} {B = B} {U = U} {P = P} {P' = P'} f g = record {
  sure = λ ts. go ts (P ts) (g.sure ts);
  lockstep = λ us t w w' h. go' t w w' (P (us ++ t ∷ w)) (P' (us ++ t ∷ w')) (g.lockstep us t w w' h);
  whole = λ y us rest k h e. rw (g.whole k.0 us rest k.1 h e) (rw k.2 refl);
}
  where
    go : (ts : List Token) (r : Parsed A) → Meets U ts r → Meets (U ▹ f) ts (follow r (λ x. give (f x)))
    go ts (Read x rest) (us, e, u) = (us, e, (x, u, refl))
    go ts (Wrong rest) (us, e, more, x, u) = (us, e, more, f x, (x, u, refl))

    go' : (t : Token) (w w' : List Token) (r r' : Parsed A) → ParseLockstep t w w' r r' →
        ParseLockstep t w w' (follow r (λ x. give (f x))) (follow r' (λ x. give (f x)))
    go' t w w' (Read x rest) r' (inl h) = inl h
    go' t w w' (Read x rest) r' (inr (v, e, e')) = inr (v, e, rw e' refl)
    go' t w w' (Wrong rest) r' (inl h) = inl h
    go' t w w' (Wrong rest) r' (inr (v, e, e')) = inr (v, e, rw e' refl)

-- each list of the language has a token
abbrev pub Strict : {A : Type 0} → Spelling A → Type 0
Strict {A = A} L = (x : A) (us : List Token) → L x us → 0 < length us

then_sure : {A B : Type 0} (L : Spelling A) (M : A → Spelling B) (Q : A → Parser B) → ((x : A) (ts : List Token) → Meets (M x) ts (Q x ts)) →
    (ts : List Token) (r : Parsed A) → Meets L ts r → Meets (L ▷ M) ts (follow r Q)
then_sure {A = A} {B = B} L M Q s ts (Read x rest) (us, e, u) = go (Q x rest) (s x rest)
  where
    go : (r : Parsed B) → Meets (M x) rest r → Meets (L ▷ M) ts r
    go (Read y rest') (vs, e', m) = (us ++ vs, e ∙ ap (λ l. us ++ l) e' ∙ sym (append_assoc us vs rest'), (x, us, vs, refl, u, m))
    go (Wrong rest') (vs, e', more, y, m) =
        (us ++ vs, e ∙ ap (λ l. us ++ l) e' ∙ sym (append_assoc us vs rest'), more, y, (x, us, vs ++ more, append_assoc us vs more, u, m))
then_sure {A = A} {B = B} L M Q s ts (Wrong rest) (us, e, more, x, u) = go (Q x []) (s x [])
  where
    go : (r : Parsed B) → Meets (M x) [] r → Meets (L ▷ M) ts (Wrong rest)
    go (Read y rest') (vs, e', m) = (us, e, more ++ vs, y, (x, us ++ more, vs, sym (append_assoc us more vs), u, m))
    go (Wrong rest') (vs, e', more', y, m) = (us, e, more ++ (vs ++ more'), y, (x, us ++ more, vs ++ more', sym (append_assoc us more (vs ++ more')), u, m))

then_lockstep : {A B : Type 0} (L : Spelling A) (M : A → Spelling B) (Q Q' : A → Parser B) (us : List Token) (t : Token) (w w' : List Token) →
    ((x : A) (ts : List Token) → Meets (M x) ts (Q x ts)) →
    ((x : A) (prefix v : List Token) → L x prefix → length us ≡ length prefix + length v → ParseLockstep t w w' (Q x (v ++ t ∷ w)) (Q' x (v ++ t ∷ w'))) →
    (r r' : Parsed A) → Meets L (us ++ t ∷ w) r → ParseLockstep t w w' r r' → ParseLockstep t w w' (follow r Q) (follow r' Q')
then_lockstep L M Q Q' us t w w' s a (Read x rest) r' m (inl h) = past (M x) rest t w w' (Q x rest) (follow r' Q') (s x rest) h
then_lockstep L M Q Q' us t w w' s a (Read x rest) r' (prefix, e₀, u) (inr (v, e, e')) = rw (e, e') (a x prefix v u (shorter us v rest t w prefix e₀ e))
then_lockstep L M Q Q' us t w w' s a (Wrong rest) r' m (inl h) = inl h
then_lockstep L M Q Q' us t w w' s a (Wrong rest) r' m (inr (v, e, e')) = inr (v, e, rw e' refl)

pub good_then : {A B : Type 0} {b : ℕ} {L : Spelling A} {M : A → Spelling B} {F G : Option Lexeme → Type 0} {P P' : Parser A} {Q Q' : A → Parser B} →
    Good b L L F P P' → ((x : A) → Good b (M x) (M x) G (Q x) (Q' x)) →
    ((x : A) (y : B) (us rest : List Token) → M x y us → G (head_of rest) → F (head_of (us ++ rest))) →
    Good b (L ▷ M) (L ▷ M) G (P >>= Q) (P' >>= Q')
good_then {A = A} {B = B} {b = b} {L = L} {M = M} {P = P} {P' = P'} {Q = Q} {Q' = Q'} g h after = record {
  sure = λ ts. then_sure L M Q (λ x. (h x).sure) ts (P ts) (g.sure ts);
  lockstep =
      λ us t w w' e. then_lockstep L M Q Q' us t w w' (λ x. (h x).sure) (λ x prefix v u n. (h x).lockstep v t w w' (omega (arith, e, n))) (P (us ++ t ∷ w))
      (P' (us ++ t ∷ w')) (g.sure (us ++ t ∷ w)) (g.lockstep us t w w' e);
  whole = λ y ts rest k n f. let (x, us, vs, e, l, m) = k in
      let a : length ts ≡ length us + length vs = ap length e ∙ length-append us vs in
      let e₁ : ts ++ rest ≡ us ++ (vs ++ rest) = ap (λ l. l ++ rest) e ∙ append_assoc us vs rest in
      rw e₁ (rw (g.whole x us (vs ++ rest) l (omega (arith, a, n)) (after x y vs rest m f)) ((h x).whole y vs rest m (omega (arith, a, n)) f));
}

-- a parser after one that reads a token at least: it is asked about fewer tokens
pub good_then_less : {A B : Type 0} {b c : ℕ} {L : Spelling A} {M : A → Spelling B} {F G : Option Lexeme → Type 0} {P P' : Parser A} {Q Q' : A → Parser B} →
    b ≤ suc c → Strict L → Good b L L F P P' → ((x : A) → Good c (M x) (M x) G (Q x) (Q' x)) →
    ((x : A) (y : B) (us rest : List Token) → M x y us → G (head_of rest) → F (head_of (us ++ rest))) →
    Good b (L ▷ M) (L ▷ M) G (P >>= Q) (P' >>= Q')
good_then_less {A = A} {B = B} {b = b} {L = L} {M = M} {P = P} {P' = P'} {Q = Q} {Q' = Q'} bc strict g h after = record {
  sure = λ ts. then_sure L M Q (λ x. (h x).sure) ts (P ts) (g.sure ts);
  lockstep = λ us t w w' e. then_lockstep L M Q Q' us t w w' (λ x. (h x).sure)
      (λ x prefix v u n. let s : 0 < length prefix = strict x prefix u in (h x).lockstep v t w w' (omega (arith, e, n, s, bc))) (P (us ++ t ∷ w))
      (P' (us ++ t ∷ w'))
      (g.sure (us ++ t ∷ w)) (g.lockstep us t w w' e);
  whole = λ y ts rest k n f. let (x, us, vs, e, l, m) = k in
      let a : length ts ≡ length us + length vs = ap length e ∙ length-append us vs in
      let s : 0 < length us = strict x us l in
      let e₁ : ts ++ rest ≡ us ++ (vs ++ rest) = ap (λ l. l ++ rest) e ∙ append_assoc us vs rest in
      rw e₁ (rw (g.whole x us (vs ++ rest) l (omega (arith, a, n)) (after x y vs rest m f)) ((h x).whole y vs rest m (omega (arith, a, n, s, bc)) f));
}

-- no list is asked about: only the answers count
pub good_small : {A : Type 0} {b : ℕ} {U K : Spelling A} {F : Option Lexeme → Type 0} {P P' : Parser A} → b ≤ 0 → ((ts : List Token) → Meets U ts (P ts))
    → Good b U K F P P'
good_small h s = record {
  sure = s;
  lockstep = λ us t w w' n. let z : ⊥ = omega (arith, h, n) in absurd z;
  whole = λ x us rest k n f. let z : ⊥ = omega (arith, h, n) in absurd z;
}

-- by the next token: each branch answers in U
pub good_head : {A : Type 0} {b : ℕ} {U : Spelling A} {K : Option Lexeme → Spelling A} {F : Option Lexeme → Type 0} {f f' : Option Lexeme → Parser A} →
    ((h : Option Lexeme) → Good b U (K h) F (f h) (f' h)) →
    ((x : A) (us rest : List Token) → U x us → F (head_of rest) → K (head_of (us ++ rest)) x us) →
    Good b U U F (by_head f) (by_head f')
good_head {A = A} {b = b} {f = f} {f' = f'} g out = record {
  sure = λ ts. (g (head_of ts)).sure ts;
  lockstep = go;
  whole = λ x us rest u n e. (g (head_of (us ++ rest))).whole x us rest (out x us rest u e) n e;
}
  where
    go : (us : List Token) (t : Token) (w w' : List Token) → length us < b → ParseLockstep t w w' (by_head f (us ++ t ∷ w)) (by_head f' (us ++ t ∷ w'))
    go [] t w w' n = (g (Some t.lexeme)).lockstep [] t w w' n
    go (u ∷ us) t w w' n = (g (Some u.lexeme)).lockstep (u ∷ us) t w w' n

-- by a test of the next token
pub good_where : {A : Type 0} {b : ℕ} {U K₁ K₂ : Spelling A} {F : Option Lexeme → Type 0} {P P' Q Q' : Parser A} (test : Option Lexeme → Bool) →
    Good b U K₁ F P P' → Good b U K₂ F Q Q' →
    ((x : A) (us rest : List Token) → U x us → F (head_of rest)
    → (K₁ x us × (test (head_of (us ++ rest)) ≡ true)) ⊎ (K₂ x us × (test (head_of (us ++ rest)) ≡ false))) →
    Good b U U F (where_head test P Q) (where_head test P' Q')
good_where {A = A} {b = b} {U = U} {K₁ = K₁} {K₂ = K₂} {F = F} {P = P} {P' = P'} {Q = Q} {Q' = Q'} test g h out = record {
  sure = λ ts. on (λ r. Meets U ts r) (test (head_of ts)) (P ts) (Q ts) (g.sure ts) (h.sure ts);
  lockstep = go;
  whole = λ x us rest u n e. two x us rest n e (out x us rest u e);
}
  where
    on : (S : Parsed A → Type 0) (t : Bool) (r s : Parsed A) → S r → S s → S (elim t [ true ↦ r | false ↦ s ])
    on S true r s a c = a
    on S false r s a c = c

    on2 : (S : Parsed A → Parsed A → Type 0) (t : Bool) (r r' s s' : Parsed A) → S r r' → S s s'
        → S (elim t [ true ↦ r | false ↦ s ]) (elim t [ true ↦ r' | false ↦ s' ])
    on2 S true r r' s s' a c = a
    on2 S false r r' s s' a c = c

    go : (us : List Token) (t : Token) (w w' : List Token) → length us < b
        → ParseLockstep t w w' (where_head test P Q (us ++ t ∷ w)) (where_head test P' Q' (us ++ t ∷ w'))
    go [] t w w' n =
        on2 (ParseLockstep t w w') (test (Some t.lexeme)) (P (t ∷ w)) (P' (t ∷ w')) (Q (t ∷ w)) (Q' (t ∷ w')) (g.lockstep [] t w w' n) (h.lockstep [] t w w' n)
    go (u ∷ us) t w w' n =
        on2 (ParseLockstep t w w') (test (Some u.lexeme)) (P (u ∷ us ++ t ∷ w)) (P' (u ∷ us ++ t ∷ w')) (Q (u ∷ us ++ t ∷ w)) (Q' (u ∷ us ++ t ∷ w'))
        (g.lockstep (u ∷ us) t w w' n) (h.lockstep (u ∷ us) t w w' n)

    two : (x : A) (us rest : List Token) → length us < b → F (head_of rest)
        → (K₁ x us × (test (head_of (us ++ rest)) ≡ true)) ⊎ (K₂ x us × (test (head_of (us ++ rest)) ≡ false)) → where_head test P Q (us ++ rest) ≡ Read x rest
    two x us rest n e (inl (k, c)) = rw (c, where_head) (g.whole x us rest k n e)
    two x us rest n e (inr (k, c)) = rw (c, where_head) (h.whole x us rest k n e)

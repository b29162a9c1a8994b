-- Lists that stand one after another in one list: reads, writes, and one more list.
use Rattle.std.proofs.Common.{◌≡◌, refl, ℕ, zero, suc, ◌+◌, ◌-◌, ◌<◌, ◌≤◌, List, [], ◌∷◌, ◌++◌, length, take, drop, sym, ◌∙◌, ap}
use Rattle.std.proofs.Common.{ap₂, subst, arith, Bool, true, false, cond, Some, None, slice_index_or, slice_set, nat_lt, get_or, set}
use Rattle.std.specs.Prelude.{ℤ, pos, flat_map, slice_get, map}
use Rattle.std.proofs.lemmas.Bool.Decides.{nat_tests}
use Rattle.std.proofs.lemmas.List.{length-take, length-drop, take_all, take-append-drop, take-append-le, drop-append-le, get_or-take, get_or-drop}
use Rattle.std.proofs.lemmas.List.{take-set-le, drop-set-lt, drop-set-add, get_or_past, set_past, set-get_or, take_more, map-append, length-append}
use Rattle.c_tree.specs.Values.{element_number}
use Rattle.source_machine.specs.declared.variables.Span.{Span}
use Rattle.source_machine.specs.links.Spans.{parts, AreConsecutive, place_in}

pub no_less : (ss : List Span) (from end : ℕ) → AreConsecutive from ss end → from ≤ end
no_less [] from end c = omega arith
no_less (s ∷ ss) from end c = omega (arith, no_less ss (from + s.length) end c.1)

none_of : (xs : List ℤ) → length xs ≡ 0 → xs ≡ []
none_of [] e = refl
none_of (x ∷ xs) e = absurd (omega arith)

pub joined : (ss : List Span) (from end : ℕ) (xs : List ℤ) → AreConsecutive from ss end → from + length xs ≡ end →
    flat_map (λ (ys : List ℤ). ys) (parts ss xs) ≡ xs
joined [] from end xs c e = sym (none_of xs (omega arith))
joined (s ∷ ss) from end xs c e =
    let below = no_less ss (from + s.length) end c.1 in
    ap (λ (ys : List ℤ). take s.length xs ++ ys) (joined ss (from + s.length) end (drop s.length xs) c.1 (omega (arith, length-drop s.length xs)))
    ∙ take-append-drop s.length xs

pub one_more : (ss : List Span) (from end : ℕ) (s : Span) → AreConsecutive from ss end → s.start ≡ end → AreConsecutive from (ss ++ s ∷ []) (end + s.length)
one_more [] from end s c e = (e ∙ sym c, ap (λ n. n + s.length) c)
one_more (x ∷ ss) from end s c e = (c.0, one_more ss (from + x.length) end s c.1 e)

pub parts_more : (ss : List Span) (from end : ℕ) (s : Span) (xs ys : List ℤ) → AreConsecutive from ss end → from + length xs ≡ end → s.length ≡ length ys →
    parts (ss ++ s ∷ []) (xs ++ ys) ≡ parts ss xs ++ ys ∷ []
parts_more [] from end s xs ys c e l =
    let nothing = none_of xs (omega arith) in
    rw nothing (ap (λ (zs : List ℤ). zs ∷ []) (take_all s.length ys (omega arith)))
parts_more (x ∷ ss) from end s xs ys c e l =
    let below = no_less ss (from + x.length) end c.1 in
    let fits : x.length ≤ length xs = omega arith in
    ap₂ (λ (zs : List ℤ) (zss : List (List ℤ)). zs ∷ zss) (take-append-le x.length xs ys fits)
    (ap (parts (ss ++ s ∷ [])) (drop-append-le x.length xs ys fits) ∙ parts_more ss (from + x.length) end s (drop x.length xs) ys c.1
    (omega (arith, length-drop x.length xs)) l)

-- ---- Places

pub chosen : (b : Bool) (x p : ℕ) → cond b (Some x) None ≡ Some p → (b ≡ true) × (x ≡ p)
chosen true x p h = (refl, cc)
chosen false x p h = cc

pub placed : (ss : List Span) (v e from end p : ℕ) → AreConsecutive from ss end → place_in ss v e ≡ Some p → (from ≤ p) × (p < end)
placed [] v e from end p c h = cc
placed (s ∷ ss) zero e from end p c h =
    let t = chosen (nat_lt e s.length) (s.start + e) p h in
    let below = no_less ss (from + s.length) end c.1 in
    let within : e < s.length = grind (arith, nat_tests, t.0) in
    (omega (arith, c.0, t.1), omega (arith, c.0, t.1))
placed (s ∷ ss) (suc v) e from end p c h =
    let i = placed ss v e (from + s.length) end p c.1 h in (omega arith, i.1)

pub read : (ss : List Span) (v e from end p q : ℕ) (xs : List ℤ) → AreConsecutive from ss end → place_in ss v e ≡ Some p → p ≡ from + q →
    slice_index_or xs q (pos 0) ≡ element_number (parts ss xs) v e
read [] v e from end p q xs c h is = cc
read (s ∷ ss) zero e from end p q xs c h is =
    let t = chosen (nat_lt e s.length) (s.start + e) p h in
    let within : e < s.length = grind (arith, nat_tests, t.0) in
    let same : q ≡ e = omega (arith, c.0, t.1) in
    rw same (sym (get_or-take s.length xs e (pos 0) within))
read (s ∷ ss) (suc v) e from end p q xs c h is =
    let i = placed ss v e (from + s.length) end p c.1 h in
    let more : q ≡ s.length + (q - s.length) = omega (arith, i.0) in
    ap (λ (n : ℕ). get_or xs n (pos 0)) more ∙ (sym (get_or-drop s.length xs (q - s.length) (pos 0))
    ∙ read ss v e (from + s.length) end p (q - s.length) (drop s.length xs) c.1 h (omega arith))

take_written : (n e : ℕ) (xs : List ℤ) (x : ℤ) → take n (set xs e x) ≡ set (take n xs) e x
take_written zero e xs x = refl
take_written (suc n) e [] x = refl
take_written (suc n) zero (y ∷ xs) x = refl
take_written (suc n) (suc e) (y ∷ xs) x = ap (λ (zs : List ℤ). y ∷ zs) (take_written n e xs x)

pub written : (ss : List Span) (v e from end p q : ℕ) (xs : List ℤ) (x : ℤ) → AreConsecutive from ss end → place_in ss v e ≡ Some p → p ≡ from + q →
    parts ss (slice_set xs q x) ≡ slice_set (parts ss xs) v (slice_set (slice_index_or (parts ss xs) v []) e x)
written [] v e from end p q xs x c h is = cc
written (s ∷ ss) zero e from end p q xs x c h is =
    let t = chosen (nat_lt e s.length) (s.start + e) p h in
    let within : e < s.length = grind (arith, nat_tests, t.0) in
    let same : q ≡ e = omega (arith, c.0, t.1) in
    rw same (ap₂ (λ (zs : List ℤ) (zss : List (List ℤ)). zs ∷ zss) (take_written s.length e xs x) (ap (parts ss) (drop-set-lt s.length xs e x within)))
written (s ∷ ss) (suc v) e from end p q xs x c h is =
    let i = placed ss v e (from + s.length) end p c.1 h in
    let more : q ≡ s.length + (q - s.length) = omega (arith, i.0) in
    ap (λ (n : ℕ). parts (s ∷ ss) (set xs n x)) more ∙
    ap₂ (λ (zs : List ℤ) (zss : List (List ℤ)). zs ∷ zss) (take-set-le s.length xs (s.length + (q - s.length)) x (omega arith))
    (ap (parts ss) (drop-set-add s.length xs (q - s.length) x) ∙ written ss v e (from + s.length) end p (q - s.length) (drop s.length xs) x c.1 h (omega arith))

-- ---- Where there is no such element

beyond : (b : Bool) (x : ℕ) → cond b (Some x) None ≡ None → b ≡ false
beyond true x h = cc
beyond false x h = refl

pub short : (ss : List Span) (v e : ℕ) (xs : List ℤ) → place_in ss v e ≡ None → length (slice_index_or (parts ss xs) v []) ≤ e
short [] v e xs h = omega arith
short (s ∷ ss) zero e xs h =
    let past = beyond (nat_lt e s.length) (s.start + e) h in
    let far : s.length ≤ e = grind (arith, nat_tests, past) in
    omega (arith, length-take s.length xs)
short (s ∷ ss) (suc v) e xs h = short ss v e (drop s.length xs) h

pub unread : (ss : List Span) (v e : ℕ) (xs : List ℤ) → place_in ss v e ≡ None → pos 0 ≡ element_number (parts ss xs) v e
unread ss v e xs h = sym (get_or_past (slice_index_or (parts ss xs) v []) e (pos 0) (short ss v e xs h))

pub unwritten : (ss : List Span) (v e : ℕ) (xs : List ℤ) (x : ℤ) → place_in ss v e ≡ None →
    parts ss xs ≡ slice_set (parts ss xs) v (slice_set (slice_index_or (parts ss xs) v []) e x)
unwritten ss v e xs x h = sym (ap (set (parts ss xs) v) (set_past (slice_index_or (parts ss xs) v []) e x (short ss v e xs h)) ∙ set-get_or (parts ss xs) v [])

-- ---- What the code reads

pub span_within : (ss : List Span) (v : ℕ) (s : Span) (from end : ℕ) → AreConsecutive from ss end → slice_get ss v ≡ Some s → s.start + s.length ≤ end
span_within [] v s from end c h = cc
span_within (x ∷ ss) zero s from end c h =
    let below = no_less ss (from + x.length) end c.1 in
    let same : x ≡ s = cc in
    let P : Span → Type 0 = λ y. y.start + y.length ≤ end in subst P same (omega (arith, c.0))
span_within (x ∷ ss) (suc v) s from end c h = span_within ss v s (from + x.length) end c.1 h

pub place_found : (ss : List Span) (v e : ℕ) (s : Span) → slice_get ss v ≡ Some s → e < s.length → Some (s.start + e) ≡ place_in ss v e
place_found ss v e s h l =
    let test : nat_lt e s.length ≡ true = grind (arith, nat_tests) in
    rw (place_in, h, test) refl

pub place_past : (ss : List Span) (v e : ℕ) (s : Span) → slice_get ss v ≡ Some s → s.length ≤ e → None ≡ place_in ss v e
place_past ss v e s h l =
    let test : nat_lt e s.length ≡ false = grind (arith, nat_tests) in
    rw (place_in, h, test) refl

pub get_read : (ss : List Span) (xs : List ℤ) (v e p : ℕ) → AreConsecutive 0 ss (length xs) → Some p ≡ place_in ss v e →
    slice_index_or xs p (pos 0) ≡ element_number (parts ss xs) v e
get_read ss xs v e p c h = read ss v e 0 (length xs) p p xs c (sym h) (omega arith)

pub set_read : (ss : List Span) (xs : List ℤ) (v e p : ℕ) (x : ℤ) → AreConsecutive 0 ss (length xs) → Some p ≡ place_in ss v e →
    parts ss (slice_set xs p x) ≡ slice_set (parts ss xs) v (slice_set (slice_index_or (parts ss xs) v []) e x)
set_read ss xs v e p x c h = written ss v e 0 (length xs) p p xs x c (sym h) (omega arith)

-- ---- One more variable

pub map_more : {X Y : Type 0} (f : X → Y) (xs : List X) (i : ℕ) (x : X) → i < length xs → x ≡ get_or xs i x →
    map f (take (i + 1) xs) ≡ map f (take i xs) ++ f x ∷ []
map_more f xs i x l is = ap (map f) (take_more xs i x l) ∙ (map-append f (take i xs) (get_or xs i x ∷ []) ∙ ap (λ y. map f (take i xs) ++ f y ∷ []) (sym is))

pub grown : (spans spans' : List Span) (elements elements' ys shown : List ℤ) (done done' : List (List ℤ)) (s : Span) →
    AreConsecutive 0 spans (length elements) → parts spans elements ≡ done →
    spans' ≡ spans ++ s ∷ [] → elements' ≡ elements ++ shown → shown ≡ ys → s.start ≡ length elements → s.length ≡ length ys → done' ≡ done ++ ys ∷ [] →
    (AreConsecutive 0 spans' (length elements')) × (parts spans' elements' ≡ done')
grown spans spans' elements elements' ys shown done done' s c p j i d start size more =
    let long : length elements' ≡ length elements + s.length = ap length i
    ∙ (length-append elements shown ∙ ap (λ n. length elements + n) (ap length d ∙ sym size)) in
    let spread : parts spans' elements' ≡ parts (spans ++ s ∷ []) (elements ++ ys) = ap₂ parts j (i ∙ ap (λ zs. elements ++ zs) d) in (
      rw (j, long) (one_more spans 0 (length elements) s c start),
      spread ∙ (parts_more spans 0 (length elements) s elements ys c (omega arith) size ∙ (ap (λ zss. zss ++ ys ∷ []) p ∙ sym more)),
    )

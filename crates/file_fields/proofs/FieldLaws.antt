-- A field that is read is the field that was written, and what was written is read again.
use Rattle.std.proofs.Common.{◌≡◌, ℕ, zero, suc, ◌+◌, ◌-◌, ◌^◌, ◌<◌, ◌≤◌, Bool, true, false, cond, ltb, List, [], ◌∷◌, ◌++◌, ◌&&◌}
use Rattle.std.proofs.Common.{length, get_or, take, drop, Result, Ok, Err, refl, sym, ap, subst, ◌∙◌, append_assoc, arith, inl, inr}
use Rattle.std.specs.Prelude.{nat_le, nat_eq, ◌==◌}
use Rattle.std.specs.List.{flat_map, AllByRecursion}
use Rattle.std.specs.Cmp.Lexicographic.{pointwise}
use Rattle.std.specs.Int.{w32, w64, from_le_bytes, to_le_bytes}
use Rattle.std.proofs.lemmas.Bool.{cases_lt, ltb-false, le-ltb, eqb-true, eq-eqb}
use Rattle.std.proofs.lemmas.List.{take_at, drop_at, take-append-drop, length-append, length-take, get_or-drop, get_or-take, get_or_past}
use Rattle.std.proofs.lemmas.List.Concat.{flat_map-cons}
use Rattle.std.proofs.lemmas.Nat.{le_bytes_4, le_bytes_8, from_le_bytes-to_le_bytes_4, from_le_bytes-to_le_bytes_8}
use Rattle.file_fields.specs.Numbers.{number, word, IsNumber, IsWord}
use Rattle.file_fields.specs.Fields.{Fault, Magic, Version, Cut, Field, Reads, ◌>>=◌, bytes_at, number_at, word_at}
use Rattle.file_fields.specs.Fields.{kept, number_within, repeated, magic_at, version_at}

abbrev pub IsBytes : List ℕ → Type 0
IsBytes bytes = (i : ℕ) → get_or bytes i 0 < 256

IsBytes-drop : (n : ℕ) (bytes : List ℕ) → IsBytes bytes → IsBytes (drop n bytes)
IsBytes-drop n bytes h i = rw get_or-drop (h (n + i))

IsBytes-take : (n : ℕ) (bytes : List ℕ) → IsBytes bytes → IsBytes (take n bytes)
IsBytes-take n bytes h i =
    elim (cases_lt i n) [
      | inl lt ↦ rw (get_or-take n bytes i 0 lt) (h i)
      | inr le ↦ rw (get_or_past (take n bytes) i 0 (omega (arith, length-take n bytes))) (omega arith)
    ]

-- the value of a step that did not fail
pub bind_ok : {A B : Type 0} (r : Result A Fault) (f : A → Result B Fault) (y : B) → (r >>= f) ≡ Ok y → (x : A) × (r ≡ Ok x) × (f x ≡ Ok y)
bind_ok (Ok x) f y e = (x, refl, e)
bind_ok (Err d) f y e = absurd cc

-- tests that did not fail
guard_ok : {A : Type 0} (b : Bool) (d : Fault) (x y : A) → cond b (Err d) (Ok x) ≡ Ok y → (b ≡ false) × (x ≡ y)
guard_ok true d x y e = absurd cc
guard_ok false d x y e = (refl, cc)

pub test_ok : {A : Type 0} (b : Bool) (d : Fault) (x y : A) → cond b (Ok x) (Err d) ≡ Ok y → (b ≡ true) × (x ≡ y)
test_ok true d x y e = (refl, cc)
test_ok false d x y e = absurd cc

abbrev done : {A : Type 0} → A → Result A Fault
done x = Ok x

pub ok_is : {A : Type 0} (x y : A) → done x ≡ done y → x ≡ y
ok_is x y e = cc

-- what a reader took from the front
pub record Takes (bytes text rest : List ℕ) : Type 0 where
  pub parts : bytes ≡ text ++ rest
  pub rest_fits : IsBytes rest

pub then : (a x b y c : List ℕ) → Takes a x b → Takes b y c → Takes a (x ++ y) c
then a x b y c p q = record { parts = p.parts ∙ ap (λ t. x ++ t) q.parts ∙ sym (append_assoc x y c); rest_fits = q.rest_fits }

-- ---- Bytes, numbers and words

pub bytes_take : (total count : ℕ) (bytes : List ℕ) (x : List ℕ × List ℕ) → IsBytes bytes → bytes_at total count bytes ≡ Ok x →
    Takes bytes x.0 x.1 × (length x.0 ≡ count) × IsBytes x.0
bytes_take total count bytes x fits e =
    let g = guard_ok (ltb (length bytes) count) (Cut total) (take count bytes, drop count bytes) x e in
    let long : count ≤ length bytes = ltb-false _ _ g.0 in
    let made : List ℕ × List ℕ = (take count bytes, drop count bytes) in
    subst (λ (y : List ℕ × List ℕ). Takes bytes y.0 y.1 × (length y.0 ≡ count) × IsBytes y.0) g.1 (
      record { parts = sym (take-append-drop count bytes); rest_fits = IsBytes-drop count bytes fits },
      omega (arith, length-take count bytes),
      IsBytes-take count bytes fits,
    )

pub bytes_again : (total count : ℕ) (text rest : List ℕ) → length text ≡ count → bytes_at total count (text ++ rest) ≡ Ok (text, rest)
bytes_again total count text rest e =
    let long : ltb (length (text ++ rest)) count ≡ false = le-ltb _ _ (omega (arith, length-append text rest, e)) in
    rw (long, take_at text rest count e, drop_at text rest count e) refl

pub number_takes : (total : ℕ) (bytes : List ℕ) (x : ℕ × List ℕ) → IsBytes bytes → number_at total bytes ≡ Ok x → Takes bytes (number x.0) x.1 × IsNumber x.0
unfolding number_at
number_takes total bytes x fits e =
    let b = bind_ok (bytes_at total 4 bytes) (λ field. Ok (from_le_bytes w32 field.0, field.1)) x e in
    let t = bytes_take total 4 bytes b.0 fits b.1 in
    let below : from_le_bytes w32 b.0.0 < 2 ^ 32 = omega (arith, t.2 0, t.2 1, t.2 2, t.2 3) in
    let back : to_le_bytes w32 (from_le_bytes w32 b.0.0) ≡ b.0.0 = le_bytes_4 b.0.0 _ t.1 t.2 refl in
    subst (λ (y : ℕ × List ℕ). Takes bytes (number y.0) y.1 × IsNumber y.0) (ok_is (from_le_bytes w32 b.0.0, b.0.1) x b.2) (rw back t.0, below)

pub number_again : (total n : ℕ) (rest : List ℕ) → IsNumber n → number_at total (number n ++ rest) ≡ Ok (n, rest)
unfolding number_at
number_again total n rest lt = rw (bytes_again total 4 (number n) rest refl) (ap (λ m. Ok (m, rest)) (from_le_bytes-to_le_bytes_4 n lt))

pub word_takes : (total : ℕ) (bytes : List ℕ) (x : ℕ × List ℕ) → IsBytes bytes → word_at total bytes ≡ Ok x → Takes bytes (word x.0) x.1 × IsWord x.0
unfolding word_at
word_takes total bytes x fits e =
    let b = bind_ok (bytes_at total 8 bytes) (λ field. Ok (from_le_bytes w64 field.0, field.1)) x e in
    let t = bytes_take total 8 bytes b.0 fits b.1 in
    let below : from_le_bytes w64 b.0.0 < 2 ^ 64 = omega (arith, t.2 0, t.2 1, t.2 2, t.2 3, t.2 4, t.2 5, t.2 6, t.2 7) in
    let back : to_le_bytes w64 (from_le_bytes w64 b.0.0) ≡ b.0.0 = le_bytes_8 b.0.0 _ t.1 t.2 refl in
    subst (λ (y : ℕ × List ℕ). Takes bytes (word y.0) y.1 × IsWord y.0) (ok_is (from_le_bytes w64 b.0.0, b.0.1) x b.2) (rw back t.0, below)

pub word_again : (total n : ℕ) (rest : List ℕ) → IsWord n → word_at total (word n ++ rest) ≡ Ok (n, rest)
unfolding word_at
word_again total n rest lt = rw (bytes_again total 8 (word n) rest refl) (ap (λ m. Ok (m, rest)) (from_le_bytes-to_le_bytes_8 n lt))

-- ---- Numbers between limits

pub and_parts : (a b : Bool) → (a && b) ≡ true → (a ≡ true) × (b ≡ true)
and_parts true b e = (refl, e)
and_parts false b e = absurd cc

pub kept_ok : {A : Type 0} (total : ℕ) (good : Bool) (bytes : List ℕ) (x y : A) → kept total good bytes x ≡ Ok y → (good ≡ true) × (x ≡ y)
kept_ok total good bytes x y e = test_ok good (Field (total - length bytes)) x y e

pub le_of : (a b : ℕ) → nat_le a b ≡ true → a ≤ b
le_of a b e = grind (arith, e)

pub of_le : (a b : ℕ) → a ≤ b → nat_le a b ≡ true
of_le a b h = grind (arith, h)

pub within_takes : (total least most : ℕ) (bytes : List ℕ) (x : ℕ × List ℕ) → IsBytes bytes → number_within total least most bytes ≡ Ok x →
    Takes bytes (number x.0) x.1 × (least ≤ x.0) × (x.0 ≤ most)
unfolding number_within
within_takes total least most bytes x fits e =
    let b = bind_ok (number_at total bytes) (λ n. kept total (nat_le least n.0 && nat_le n.0 most) bytes n) x e in
    let t = number_takes total bytes b.0 fits b.1 in
    let k = kept_ok total (nat_le least b.0.0 && nat_le b.0.0 most) bytes b.0 x b.2 in
    let both = and_parts (nat_le least b.0.0) (nat_le b.0.0 most) k.0 in
    subst (λ (y : ℕ × List ℕ). Takes bytes (number y.0) y.1 × (least ≤ y.0) × (y.0 ≤ most)) k.1 (t.0, le_of least b.0.0 both.0, le_of b.0.0 most both.1)

pub within_again : (total least most n : ℕ) (rest : List ℕ) → least ≤ n → n ≤ most → n < 2 ^ 32 →
    number_within total least most (number n ++ rest) ≡ Ok (n, rest)
unfolding number_within
within_again total least most n rest low high lt = rw (number_again total n rest lt, of_le least n low, of_le n most high) refl

-- ---- Fields that are repeated

pub repeated_take : {A : Type 0} (text : A → List ℕ) (Good : A → Type 0) (read : List ℕ → Reads A)
    → ((bytes : List ℕ) (x : A × List ℕ) → IsBytes bytes → read bytes ≡ Ok x → Takes bytes (text x.0) x.1 × Good x.0)
    → (n : ℕ) (bytes : List ℕ) (x : List A × List ℕ) → IsBytes bytes → repeated read n bytes ≡ Ok x →
    Takes bytes (flat_map text x.0) x.1 × (length x.0 ≡ n) × AllByRecursion Good x.0
unfolding repeated
repeated_take {A} text Good read one zero bytes x fits e =
    subst (λ (y : List A × List ℕ). Takes bytes (flat_map text y.0) y.1 × (length y.0 ≡ 0) × AllByRecursion Good y.0) (ok_is ([], bytes) x e)
    (record { parts = refl; rest_fits = fits }, refl, tt)
repeated_take {A} text Good read one (suc n) bytes x fits e =
    let a = bind_ok (read bytes) (λ first. repeated read n first.1 >>= λ others. Ok (first.0 ∷ others.0, others.1)) x e in
    let b = bind_ok (repeated read n a.0.1) (λ others. Ok (a.0.0 ∷ others.0, others.1)) x a.2 in
    let first = one bytes a.0 fits a.1 in
    let second = repeated_take text Good read one n a.0.1 b.0 first.0.rest_fits b.1 in
    let both = then bytes (text a.0.0) a.0.1 (flat_map text b.0.0) b.0.1 first.0 second.0 in
    let made : List A × List ℕ = (a.0.0 ∷ b.0.0, b.0.1) in
    subst (λ (y : List A × List ℕ). Takes bytes (flat_map text y.0) y.1 × (length y.0 ≡ suc n) × AllByRecursion Good y.0) (ok_is made x b.2)
    (rw flat_map-cons both, ap suc second.1, (first.1, second.2))

pub repeated_again : {A : Type 0} (text : A → List ℕ) (Good : A → Type 0) (read : List ℕ → Reads A)
    → ((x : A) (rest : List ℕ) → Good x → read (text x ++ rest) ≡ Ok (x, rest))
    → (xs : List A) (rest : List ℕ) → AllByRecursion Good xs → repeated read (length xs) (flat_map text xs ++ rest) ≡ Ok (xs, rest)
unfolding repeated
repeated_again text Good read one [] rest good = refl
repeated_again text Good read one (x ∷ xs) rest good =
    let regrouped : flat_map text (x ∷ xs) ++ rest ≡ text x ++ (flat_map text xs ++ rest) =
    ap (λ t. t ++ rest) (flat_map-cons text x xs) ∙ append_assoc (text x) (flat_map text xs) rest in
    ap (repeated read (suc (length xs))) regrouped ∙ rw (one x (flat_map text xs ++ rest) good.0, repeated_again text Good read one xs rest good.1) refl

-- ---- What stands first

pointwise_is : (xs ys : List ℕ) → pointwise nat_eq xs ys ≡ true → xs ≡ ys
pointwise_is [] [] e = refl
pointwise_is [] (y ∷ ys) e = absurd cc
pointwise_is (x ∷ xs) [] e = absurd cc
pointwise_is (x ∷ xs) (y ∷ ys) e =
    let both = and_parts (x == y) (pointwise nat_eq xs ys) e in
    rw (eqb-true x y both.0, pointwise_is xs ys both.1) refl

pointwise_itself : (xs : List ℕ) → pointwise nat_eq xs xs ≡ true
pointwise_itself [] = refl
pointwise_itself (x ∷ xs) = rw (eq-eqb x x refl, pointwise_itself xs) refl

pub magic_takes : (total : ℕ) (magic bytes rest : List ℕ) → IsBytes bytes → magic_at total magic bytes ≡ Ok rest → Takes bytes magic rest
unfolding magic_at
magic_takes total magic bytes rest fits e =
    let b = bind_ok (bytes_at total (length magic) bytes) (λ field. cond (pointwise nat_eq field.0 magic) (Ok field.1) (Err Magic)) rest e in
    let t = bytes_take total (length magic) bytes b.0 fits b.1 in
    let g = test_ok (pointwise nat_eq b.0.0 magic) Magic b.0.1 rest b.2 in
    subst (λ text. Takes bytes text rest) (pointwise_is b.0.0 magic g.0) (subst (λ y. Takes bytes b.0.0 y) g.1 t.0)

pub magic_again : (total : ℕ) (magic rest : List ℕ) → magic_at total magic (magic ++ rest) ≡ Ok rest
unfolding magic_at
magic_again total magic rest = rw (bytes_again total (length magic) magic rest refl, pointwise_itself magic) refl

pub version_takes : (total version : ℕ) (bytes rest : List ℕ) → IsBytes bytes → version_at total version bytes ≡ Ok rest → Takes bytes (number version) rest
unfolding version_at
version_takes total version bytes rest fits e =
    let b = bind_ok (number_at total bytes) (λ n. cond (n.0 == version) (Ok n.1) (Err Version)) rest e in
    let t = number_takes total bytes b.0 fits b.1 in
    let g = test_ok (b.0.0 == version) Version b.0.1 rest b.2 in
    subst (λ n. Takes bytes (number n) rest) (eqb-true b.0.0 version g.0) (subst (λ y. Takes bytes (number b.0.0) y) g.1 t.0)

pub version_again : (total version : ℕ) (rest : List ℕ) → IsNumber version → version_at total version (number version ++ rest) ≡ Ok rest
unfolding version_at
version_again total version rest lt = rw (number_again total version rest lt, eq-eqb version version refl) refl

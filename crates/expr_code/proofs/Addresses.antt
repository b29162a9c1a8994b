-- Addresses of elements, in two parts.
use Rattle.std.proofs.Common.{◌≡◌, ℕ, zero, suc, ◌+◌, ◌-◌, ◌*◌, ◌/◌, ◌%◌, ◌^◌, ◌<◌, ◌≤◌, inl, inr, List, [], ◌∷◌, length, take, get_or, refl, ap, sym, ◌∙◌}
use Rattle.std.proofs.Common.{arith, subst, Bool, true, false, ◌==◌, lit≤}
use Rattle.std.proofs.lemmas.List.{length-map}
use Rattle.std.specs.Prelude.{◌||◌, ℤ, pos, negsuc, map, slice_get, Option, Some, None, nat_le, if◌then◌else◌}
use Rattle.std.proofs.lemmas.Bool.Decides.{nat_tests}
use Rattle.std.proofs.lemmas.Grind.{common_steps}
use Rattle.std.proofs.lemmas.Option.{gets}
use Rattle.std.proofs.lemmas.Int.{ints}
use Rattle.std.proofs.Math.Nat.{mod-eq_of_lt}
use Rattle.ido_base.specs.declared.location.Shape.{Shape}
use Rattle.ido_base.specs.Layout.{end_from, aligned_up, variables_base}
use Rattle.ido_ints.specs.declared.kinds.Kind.{Kind}
use Rattle.ido_ints.specs.declared.kinds.Kind.TheVariants.{Char, UnsignedChar, SignedChar, Short, UnsignedShort, Int, UnsignedInt, Long, UnsignedLong}
use Rattle.ido_ints.specs.Kinds.{Holds, bytes_of, bits_of}
use Rattle.ido_ints.specs.Reduction.{residue, register_of}
use Rattle.std.specs.Option.{option_map}
use Rattle.std.proofs.lemmas.Option.{slice_get-map, slice_get_within, get_or_from_slice_get}
use Rattle.ido_ints.proofs.Public.{reduced_held, residue_below}
use Rattle.c_tree.specs.Programs as p
use Rattle.c_tree.specs.WellFormed.{shape_of, IsDeclared}
use Rattle.rv64_isa.specs.Rows.{displaced, upper, load_bytes, load_signed, load_result}
use Rattle.rv64_isa.specs.Arithmetic.{sign_extended}
use Rattle.memory_layout.specs.Variables.{are_sizes}
use Rattle.memory_layout.proofs.Public.{none, end_within, address, aligned_small}
use Rattle.operator_code.proofs.Public.{Signed12, signed12, residue_pos, residue_negsuc, word_of_residue}
use Rattle.expr_code.specs.EvaluationCode.{Source, place_of}
use Rattle.expr_code.specs.links.ElementLoads.{loaded_by, upper_part}

-- ---- The register form of what is loaded

pub load_width : (k : Kind) → load_bytes (loaded_by k) ≡ bytes_of k
load_width Char = refl
load_width UnsignedChar = refl
load_width SignedChar = refl
load_width Short = refl
load_width UnsignedShort = refl
load_width Int = refl
load_width UnsignedInt = refl
load_width Long = refl
load_width UnsignedLong = refl

extend_small : (w m : ℕ) → m < 2 ^ (w - 1) → sign_extended w 64 m ≡ m
extend_small w m h = let t : nat_le (2 ^ (w - 1)) m ≡ false = grind (arith, nat_tests) in rw t refl

extend_high : (w m : ℕ) → 2 ^ (w - 1) ≤ m → sign_extended w 64 m ≡ m + (2 ^ 64 - 2 ^ w)
extend_high w m h = let t : nat_le (2 ^ (w - 1)) m ≡ true = grind (arith, nat_tests) in rw t refl

unsigned : (w n : ℕ) → n < 2 ^ w → 2 ^ w ≤ 2 ^ 64 → residue w (pos n) ≡ residue 64 (pos n)
unsigned w n h l = residue_pos w n h ∙ sym (residue_pos 64 n (omega arith))

signed_pos : (w n : ℕ) → n < 2 ^ (w - 1) → 2 ^ w ≡ 2 ^ (w - 1) + 2 ^ (w - 1) → 2 ^ w ≤ 2 ^ 64 → sign_extended w 64 (residue w (pos n)) ≡ residue 64 (pos n)
signed_pos w n h d l = ap (λ (m : ℕ). sign_extended w 64 m) (residue_pos w n (omega arith)) ∙ extend_small w n h ∙ sym (residue_pos 64 n (omega arith))

signed_neg : (w n : ℕ) → suc n ≤ 2 ^ (w - 1) → 2 ^ w ≡ 2 ^ (w - 1) + 2 ^ (w - 1) → 2 ^ w ≤ 2 ^ 64 →
    sign_extended w 64 (residue w (negsuc n)) ≡ residue 64 (negsuc n)
signed_neg w n h d l =
    let e : 2 ^ w - suc n + (2 ^ 64 - 2 ^ w) ≡ 2 ^ 64 - suc n = omega arith in
    ap (λ (m : ℕ). sign_extended w 64 m) (residue_negsuc w n (omega arith)) ∙ extend_high w (2 ^ w - suc n) (omega arith) ∙ e ∙
    sym (residue_negsuc 64 n (omega arith))

word_loaded : (k : Kind) (z : ℤ) → bits_of k ≡ 32 → Holds k z → sign_extended 32 64 (residue 32 z) ≡ register_of k z
word_loaded k z b h =
    let below : residue 32 z < 2 ^ 32 = residue_below 32 z in
    ap (λ (m : ℕ). sign_extended 32 64 m) (sym (mod-eq_of_lt below)) ∙ word_of_residue k b z ∙ ap (register_of k) (reduced_held k z h)

extend_whole : (m : ℕ) → sign_extended 64 64 m ≡ m
extend_whole m = by (nat_le (2 ^ 63) m)
  where
    by : (b : Bool) → (if b then m + (2 ^ 64 - 2 ^ 64) else m) ≡ m
    by true = omega arith
    by false = refl

pub loaded_form : (k : Kind) (z : ℤ) → Holds k z → load_result (load_bytes (loaded_by k)) (load_signed (loaded_by k)) (residue (bits_of k) z) ≡ register_of k z
loaded_form Char (pos n) h = unsigned 8 n (omega (arith, ints, h.to_greatest)) (lit≤ tt)
loaded_form Char (negsuc n) h = absurd (omega (arith, ints, h.from_least))
loaded_form UnsignedChar (pos n) h = unsigned 8 n (omega (arith, ints, h.to_greatest)) (lit≤ tt)
loaded_form UnsignedChar (negsuc n) h = absurd (omega (arith, ints, h.from_least))
loaded_form SignedChar (pos n) h = signed_pos 8 n (omega (arith, ints, h.to_greatest)) refl (lit≤ tt)
loaded_form SignedChar (negsuc n) h = signed_neg 8 n (omega (arith, ints, h.from_least)) refl (lit≤ tt)
loaded_form Short (pos n) h = signed_pos 16 n (omega (arith, ints, h.to_greatest)) refl (lit≤ tt)
loaded_form Short (negsuc n) h = signed_neg 16 n (omega (arith, ints, h.from_least)) refl (lit≤ tt)
loaded_form UnsignedShort (pos n) h = unsigned 16 n (omega (arith, ints, h.to_greatest)) (lit≤ tt)
loaded_form UnsignedShort (negsuc n) h = absurd (omega (arith, ints, h.from_least))
loaded_form Int z h = word_loaded Int z refl h
loaded_form UnsignedInt z h = word_loaded UnsignedInt z refl h
loaded_form Long z h = extend_whole (residue 64 z)
loaded_form UnsignedLong z h = extend_whole (residue 64 z)

-- ---- The register form of an index

pub index_form : (k : Kind) (n : ℕ) → n < 2 ^ 31 → register_of k (pos n) ≡ n
index_form Char n h = residue_pos 64 n (omega arith)
index_form UnsignedChar n h = residue_pos 64 n (omega arith)
index_form SignedChar n h = residue_pos 64 n (omega arith)
index_form Short n h = residue_pos 64 n (omega arith)
index_form UnsignedShort n h = residue_pos 64 n (omega arith)
index_form Int n h = residue_pos 64 n (omega arith)
index_form UnsignedInt n h =
    ap (residue 64) (reduced_held Int (pos n) (record { from_least = omega (arith, ints); to_greatest = omega (arith, ints) })) ∙ residue_pos 64 n (omega arith)
index_form Long n h = residue_pos 64 n (omega arith)
index_form UnsignedLong n h = residue_pos 64 n (omega arith)

-- ---- The two parts of an address

pub upper_is : (a : ℕ) → a + 2048 < 2 ^ 31 → upper ((a + 2048) % 2 ^ 32 / 4096) ≡ upper_part a
upper_is a h =
    let m : (a + 2048) % 2 ^ 32 ≡ a + 2048 = mod-eq_of_lt (omega arith) in
    let l : upper_part a < 2 ^ (32 - 1) = omega arith in
    ap (λ (n : ℕ). sign_extended 32 64 (n / 4096 * 4096)) m ∙ extend_small 32 (upper_part a) l

pub parts_meet : (a b : ℕ) → a + 2048 < 2 ^ 31 → b < 2 ^ 36 → displaced (upper_part a + b) 12 (a % 4096) ≡ a + b
parts_meet a b h l = by (signed12 (a % 4096))
  where
    by : Signed12 (a % 4096) → displaced (upper_part a + b) 12 (a % 4096) ≡ a + b
    by (inl s) =
        let low = s.0 in
        let e : upper_part a + b + a % 4096 ≡ a + b = omega arith in
        ap (λ (m : ℕ). (upper_part a + b + m) % 2 ^ 64) s.1 ∙ ap (λ (m : ℕ). m % 2 ^ 64) e ∙ mod-eq_of_lt (omega arith)
    by (inr s) =
        let high = s.0 in
        let e : upper_part a + b + (a % 4096 + (2 ^ 64 - 2 ^ 12)) ≡ a + b + 2 ^ 64 = omega arith in
        let f : (a + b + 2 ^ 64) % 2 ^ 64 ≡ a + b = omega arith in
        ap (λ (m : ℕ). (upper_part a + b + m) % 2 ^ 64) s.1 ∙ ap (λ (m : ℕ). m % 2 ^ 64) e ∙ f

-- ---- Where elements are

size_test : (k : Kind) → (bytes_of k == 1 || bytes_of k == 2 || bytes_of k == 4 || bytes_of k == 8) ≡ true
size_test Char = refl
size_test UnsignedChar = refl
size_test SignedChar = refl
size_test Short = refl
size_test UnsignedShort = refl
size_test Int = refl
size_test UnsignedInt = refl
size_test Long = refl
size_test UnsignedLong = refl

sizes : (vs : List p.Variable) → are_sizes (map shape_of vs) ≡ true
sizes [] = refl
sizes (v ∷ vs) = rw (size_test v.kind) (sizes vs)

take_twice : (n : ℕ) (ss : List Shape) → take n (take n ss) ≡ take n ss
take_twice zero ss = refl
take_twice (suc n) [] = refl
take_twice (suc n) (s ∷ ss) = ap (λ (rest : List Shape). s ∷ rest) (take_twice n ss)

-- an element's address from the first one's, which is near the base
pub record IsNear (s : Source) (variable : ℕ) (k : Kind) : Type 0 where
  pub some : variable < length s.variables
  pub element : (i : ℕ) → place_of s variable i ≡ place_of s variable 0 + bytes_of k * i
  pub near : place_of s variable 0 + 2048 < 2 ^ 30

pub bytes_small : (k : Kind) → bytes_of k ≤ 8
bytes_small Char = lit≤ tt
bytes_small UnsignedChar = lit≤ tt
bytes_small SignedChar = lit≤ tt
bytes_small Short = lit≤ tt
bytes_small UnsignedShort = lit≤ tt
bytes_small Int = lit≤ tt
bytes_small UnsignedInt = lit≤ tt
bytes_small Long = lit≤ tt
bytes_small UnsignedLong = lit≤ tt

pub near_at : (s : Source) (variable : ℕ) (k : Kind) → end_from 0 (map shape_of s.variables) ≤ 65536 → variable < length s.variables →
    (get_or (map shape_of s.variables) variable none).bytes ≡ bytes_of k → IsNear s variable k
near_at s variable k ends l b =
    let ss = map shape_of s.variables in
    let within : variable < length ss = omega (arith, length-map s.variables shape_of) in
    let end = end_from 0 (take variable ss) in
    let up = aligned_up end (bytes_of k) in
    let at : (i : ℕ) → variables_base + up + bytes_of k * i ≡ place_of s variable i =
    λ i. address ss variable i end (bytes_of k) up within refl (sym b) refl in
    let small_end : end ≤ 65536 = subst (λ (xs : List Shape). end_from 0 xs ≤ 65536) (take_twice variable ss)
    (end_within ss variable variable (sizes s.variables) ends) in
    let small_up : up ≤ 65544 = aligned_small end (bytes_of k) up small_end (bytes_small k) refl in
    let first = at 0 in
    record {
      some = l;
      element = λ i. let e = at i in omega (arith, first);
      near = omega (arith, first, small_up);
    }

pub near_declared : (s : Source) (variable : ℕ) (k : Kind) (array : Bool) → end_from 0 (map shape_of s.variables) ≤ 65536 →
    IsDeclared s.variables variable k array → IsNear s variable k
near_declared s variable k array ends d =
    let l : variable < length s.variables = slice_get_within s.variables variable d.it d.found in
    let f : slice_get (map shape_of s.variables) variable ≡ Some (shape_of d.it) =
    slice_get-map shape_of s.variables variable ∙ ap (option_map shape_of) d.found in
    near_at s variable k ends l (ap (λ (x : Shape). x.bytes) (get_or_from_slice_get (map shape_of s.variables) variable (shape_of d.it) none f) ∙
    ap bytes_of d.kind)

-- a variable of any kind
pub near_some : (s : Source) (variable : ℕ) → end_from 0 (map shape_of s.variables) ≤ 65536 → variable < length s.variables → (k : Kind) × IsNear s variable k
near_some s variable ends l = by (slice_get s.variables variable) refl
  where
    by : (o : Option p.Variable) → slice_get s.variables variable ≡ o → (k : Kind) × IsNear s variable k
    by None e = absurd (let z : ⊥ = grind (arith, common_steps, gets) in z)
    by (Some it) e =
        let f : slice_get (map shape_of s.variables) variable ≡ Some (shape_of it) =
        slice_get-map shape_of s.variables variable ∙ ap (option_map shape_of) e in (
          it.kind,
          near_at s variable it.kind ends l
              (ap (λ (x : Shape). x.bytes) (get_or_from_slice_get (map shape_of s.variables) variable (shape_of it) none f)),
        )

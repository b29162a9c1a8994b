-- Registers that keep what they hold.
use Rattle.std.proofs.Common.{◌≡◌, ℕ, zero, suc, ◌<◌, List, refl, ap, ◌∙◌, arith, Bool, true, false, ◌==◌, lit<, sym}
use Rattle.std.specs.Prelude.{not, ◌&&◌, ◌||◌, slice_set, Option}
use Rattle.std.proofs.lemmas.Option.{slice_get_within}
use Rattle.c_tree.specs.Exprs as e
use Rattle.c_tree.specs.WellFormed.{IsExpr}
use Rattle.rv64_isa.specs.Rows.{read}
use Rattle.memory_layout.specs.Roles.{is_temporary, is_local}
use Rattle.operator_code.specs.ComputingCode.{AreRegisters}
use Rattle.operator_code.proofs.Public.{equal_by, read_other, length-changed}
use Rattle.expr_code.specs.EvaluationCode.{Homes, Source, Suits, HoldsLocals, home_of, is_home, HomeCarries}
use Rattle.expr_code.specs.links.OperandCode.{temporary, is_held, is_free}
use Rattle.expr_code.specs.declared.home.Home.{Home}
use Rattle.expr_code.specs.declared.home.Home.TheVariants.{InRegister, InFrame}
use Rattle.ido_ints.specs.declared.kinds.Kind.TheVariants.{UnsignedLong}
use Rattle.ido_ints.specs.Kinds.{Holds}
use Rattle.ido_ints.specs.TypedNumbers.{Typed}

pub or_left : (a b : Bool) → (a || b) ≡ false → a ≡ false
or_left true b h = h
or_left false b h = refl

pub or_right : (a b : Bool) → (a || b) ≡ false → b ≡ false
or_right true b h = absurd (let z : ⊥ = cc in z)
or_right false b h = h

-- what may not be written where fewer are held may not be where more are
pub kept_later : (held n : ℕ) → is_free held n ≡ false → is_free (suc held) n ≡ false
kept_later held n h = by (is_temporary n) (is_held held n) (n == temporary held) h
  where
    by : (t k o : Bool) → (t && not k) ≡ false → (t && not (o || k)) ≡ false
    by false k o e = refl
    by true true true e = refl
    by true true false e = refl
    by true false o e = absurd (let z : ⊥ = cc in z)

local_is_none : (n : ℕ) → is_local n ≡ true → is_temporary n ≡ false
local_is_none n h =
    let five : (n == 5) ≡ false = other n 5 refl h in
    let six : (n == 6) ≡ false = other n 6 refl h in
    let seven : (n == 7) ≡ false = other n 7 refl h in
    let thirty : (n == 30) ≡ false = other n 30 refl h in
    let last : (n == 31) ≡ false = other n 31 refl h in
    rw (five, six, seven, thirty, last) refl
  where
    other : (n t : ℕ) → is_local t ≡ false → is_local n ≡ true → (n == t) ≡ false
    other n t not_it it = by (n == t) refl
      where
        by : (b : Bool) → (n == t) ≡ b → (n == t) ≡ false
        by false e = e
        by true e = let same : is_local n ≡ is_local t = ap is_local (equal_by n t e) in absurd (let z : ⊥ = cc (same, it, not_it) in z)

pub local_kept : (held n : ℕ) → is_local n ≡ true → is_free held n ≡ false
local_kept held n h = rw (local_is_none n h) refl

-- the next temporary is free, and held from then on
pub own_is_free : (held : ℕ) → held < 4 → is_free held (temporary held) ≡ true
own_is_free zero h = refl
own_is_free (suc zero) h = refl
own_is_free (suc (suc zero)) h = refl
own_is_free (suc (suc (suc zero))) h = refl
own_is_free (suc (suc (suc (suc held)))) h = absurd (let z : ⊥ = omega arith in z)

pub own_kept : (held : ℕ) → held < 4 → is_free (suc held) (temporary held) ≡ false
own_kept zero h = refl
own_kept (suc zero) h = refl
own_kept (suc (suc zero)) h = refl
own_kept (suc (suc (suc zero))) h = refl
own_kept (suc (suc (suc (suc held)))) h = absurd (let z : ⊥ = omega arith in z)

pub temporary_some : (held : ℕ) → 0 < temporary held
temporary_some zero = lit< tt
temporary_some (suc zero) = lit< tt
temporary_some (suc (suc zero)) = lit< tt
temporary_some (suc (suc (suc held))) = lit< tt

pub temporary_small : (held : ℕ) → temporary held < 32
temporary_small zero = lit< tt
temporary_small (suc zero) = lit< tt
temporary_small (suc (suc zero)) = lit< tt
temporary_small (suc (suc (suc held))) = lit< tt

pub spare_is_free : (held : ℕ) → is_free held 31 ≡ true
spare_is_free held = rw (never held) refl
  where
    never : (k : ℕ) → is_held k 31 ≡ false
    never zero = refl
    never (suc zero) = refl
    never (suc (suc zero)) = refl
    never (suc (suc (suc zero))) = refl
    never (suc (suc (suc (suc k)))) = never (suc (suc (suc k)))

-- what is not to be written isn't a register that may be
pub is_member : (w : ℕ → Bool) (rd n : ℕ) → w rd ≡ true → w n ≡ false → (n == rd || w n) ≡ false
is_member w rd n free h = by (n == rd) refl
  where
    by : (b : Bool) → (n == rd) ≡ b → (n == rd || w n) ≡ false
    by false e = rw e h
    by true e = let same : w n ≡ w rd = ap w (equal_by n rd e) in absurd (let z : ⊥ = cc (same, free, h) in z)

pub with_own : (held n : ℕ) → held < 4 → is_free held n ≡ false → (n == temporary held || is_free held n) ≡ false
with_own held n l h = is_member (is_free held) (temporary held) n (own_is_free held l) h

-- ---- Homes of locals

pub same_register : (a b : ℕ) → InRegister a ≡ InRegister b → a ≡ b
same_register a b same = cc

-- what stands in a home stands there still where the home's register is as it was
pub still_there : (l : (address bytes : ℕ) → Option ℕ) (x y : List ℕ) (home : Home) (v : Typed) → ((register : ℕ) → home ≡ InRegister register → read y register ≡ read x register) →
    HomeCarries l x home v → HomeCarries l y home v
still_there l x y (InRegister register) v same c = record { held = c.held; form = same register refl ∙ c.form }
still_there l x y (InFrame address) v same c = c

-- what stands in a home is held by its kind
pub held_there : (l : (address bytes : ℕ) → Option ℕ) (x : List ℕ) (home : Home) (v : Typed) → HomeCarries l x home v → Holds v.kind v.number
held_there l x (InRegister register) v c = c.held
held_there l x (InFrame address) v c = c.held

pub locals_kept : (h : Homes) (s : Source) (loads : (address bytes : ℕ) → Option ℕ) (x y : List ℕ) (t : e.Expr) → Suits h s → IsExpr s.variables s.kinds t →
    ((n : ℕ) → is_local n ≡ true → read y n ≡ read x n) → HoldsLocals h s loads x t → HoldsLocals h s loads y t
locals_kept h s loads x y (e.Constant value) suits f same l = tt
locals_kept h s loads x y (e.Local local k) suits f same l =
    still_there loads x y (home_of h.locals local) _
    (λ register is. same register (sym (ap is_home is) ∙ suits.local local (slice_get_within s.kinds local k f))) l
locals_kept h s loads x y (e.Variable place variable k) suits f same l = tt
locals_kept h s loads x y (e.Element place variable k index_place index) suits f same l = locals_kept h s loads x y index suits f.1 same l
locals_kept h s loads x y (e.Address variable index_place index) suits f same l = locals_kept h s loads x y index suits f.1 same l
locals_kept h s loads x y (e.Referent place last local) suits f same l =
    still_there loads x y (home_of h.locals local) _
    (λ register is. same register (sym (ap is_home is) ∙ suits.local local (slice_get_within s.kinds local UnsignedLong f))) l
locals_kept h s loads x y (e.Unary op t) suits f same l = locals_kept h s loads x y t suits f same l
locals_kept h s loads x y (e.Cast k t) suits f same l = locals_kept h s loads x y t suits f same l
locals_kept h s loads x y (e.Converted k t) suits f same l = locals_kept h s loads x y t suits f same l
locals_kept h s loads x y (e.Binary op t u) suits f same l =
    (locals_kept h s loads x y t suits f.0 same l.0, locals_kept h s loads x y u suits f.1 same l.1)
locals_kept h s loads x y (e.Conditional k t u v) suits f same l =
    (locals_kept h s loads x y t suits f.0 same l.0, locals_kept h s loads x y u suits f.1 same l.1, locals_kept h s loads x y v suits f.2 same l.2)

pub registers_after_write : (x : List ℕ) (rd v : ℕ) → 0 < rd → AreRegisters x → AreRegisters (slice_set x rd v)
registers_after_write x rd v some a = record {
  count = length-changed x rd v a.count;
  zero_is = read_other x rd 0 v (other rd some) ∙ a.zero_is;
}
  where
    other : (n : ℕ) → 0 < n → (0 == n) ≡ false
    other n h = by (0 == n) refl
      where
        by : (b : Bool) → (0 == n) ≡ b → (0 == n) ≡ false
        by false e = e
        by true e = let same : 0 ≡ n = equal_by 0 n e in absurd (let z : ⊥ = omega arith in z)

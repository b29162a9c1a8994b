-- Locals that stand in words of a thread's log: where loads give their numbers, the log has them.
use Rattle.std.proofs.Common.{◌≡◌, ℕ, zero, suc, ◌<◌, List, [], ◌∷◌, length, map, refl, ap, arith, Option, None, Some}
use Rattle.ido_ints.specs.TypedNumbers.{Typed, register_form_of}
use Rattle.log_schemes.specs.declared.log.Log.{Log}
use Rattle.log_schemes.specs.declared.locals.Locals.{Locals}
use Rattle.log_schemes.specs.declared.locals.Locals.TheVariants.{Frame}
use Rattle.log_schemes.specs.Schemes.{locals_of}
use Rattle.log_schemes.specs.Layout.{frame_at}
use Rattle.expr_code.specs.EvaluationCode.{HomeCarries, home_of}
use Rattle.expr_code.specs.declared.home.Home.{Home}
use Rattle.expr_code.specs.declared.home.Home.TheVariants.{InRegister, InFrame}
use Rattle.thread_code.specs.Plans.{home_at, home_of_colour}
use Rattle.thread_code.specs.RegistersAtNodes.{LogView, frame_loads}

-- ---- What loads give, as a log

pub or_zero : Option ℕ → ℕ
or_zero (Some number) = number
or_zero None = 0

abbrev pub view_of : (side : ℕ) → ((address bytes : ℕ) → Option ℕ) → LogView
view_of side loads = record { side = side; frame = λ address. or_zero (loads address 8) }

-- what a word of it has is what loads of it give
pub word_is : (side : ℕ) (loads : (address bytes : ℕ) → Option ℕ) (address number : ℕ) → loads address 8 ≡ Some number →
    (view_of side loads).frame address ≡ number
unfolding or_zero
word_is side loads address number is = ap or_zero is

pub at_home : (side : ℕ) (loads : (address bytes : ℕ) → Option ℕ) (x : List ℕ) (home : Home) (v : Typed) → HomeCarries loads x home v →
    HomeCarries (frame_loads (view_of side loads)) x home v
at_home side loads x (InRegister register) v carries = carries
at_home side loads x (InFrame address) v framed = record {
  held = framed.held;
  answer = ap (λ (n : ℕ). Some n) (word_is side loads address (register_form_of v) framed.answer);
}

-- ---- Homes

no_word : (register address : ℕ) → InRegister register ≡ InFrame address → ⊥
no_word register address same = cc

pub same_word : (one other : ℕ) → InFrame one ≡ InFrame other → one ≡ other
same_word one other same = cc

-- a local in a word is one of those that have homes
pub in_word : (homes : List Home) (local word : ℕ) → home_of homes local ≡ InFrame word → local < length homes
in_word [] local word is = absurd (no_word 0 word is)
in_word (home ∷ homes) zero word is = omega arith
in_word (home ∷ homes) (suc local) word is = let rest = in_word homes local word is in omega (arith, rest)

-- where locals stand in the log each has a word there
pub framed_home : (log : Log) (thread : ℕ) → locals_of log ≡ Frame → (colours : List ℕ) (local : ℕ) → local < length colours →
    (word : ℕ) × (home_of (map (home_of_colour log thread) colours) local ≡ InFrame word)
framed_home log thread framed [] local below = absurd (omega (arith, below))
framed_home log thread framed (colour ∷ colours) zero below =
    (frame_at log thread colour, ap (λ (k : Locals). home_at k log thread colour) framed)
framed_home log thread framed (colour ∷ colours) (suc local) below =
    framed_home log thread framed colours local (omega (arith, below))

-- Where locals stand in registers, a log can keep these; where they stand in the frame, none does.
use Rattle.std.proofs.Common.{◌≡◌, ℕ, zero, suc, ◌<◌, List, [], ◌∷◌, length, refl, ap, arith, sym, ◌∙◌, subst, Bool, true, false, Some}
use Rattle.std.specs.Prelude.{slice_get, slice_index}
use Rattle.std.specs.List.{list_all}
use Rattle.std.proofs.lemmas.Bool.{and_parts, true≢false}
use Rattle.ido_ints.specs.declared.kinds.Kind.{Kind}
use Rattle.log_schemes.specs.declared.locals.Locals.{Locals}
use Rattle.log_schemes.specs.declared.locals.Locals.TheVariants.{Registers, Frame}
use Rattle.log_schemes.specs.declared.log.Log.{Log}
use Rattle.log_schemes.specs.Schemes.{locals_of, may_keep_at}
use Rattle.memory_layout.specs.declared.roles.TheConstants.{LOCALS}
use Rattle.memory_layout.specs.Roles.{is_kept, pending_address, pending_value}
use Rattle.log_states.specs.Logs.{IsKeepable}
use Rattle.log_states.proofs.Public.{kept_are_keepable}
use Rattle.thread_code.specs.Plans.{Plan, Thread, IsThread, IsPlan, home_at}
use Rattle.flat_compile.proofs.Public.{coloured, few_colours, home_is}
use Rattle.image_checks.proofs.Public.{word_of}
use Rattle.expr_code.specs.declared.home.Home.{Home}
use Rattle.expr_code.specs.declared.home.Home.TheVariants.{InFrame, InRegister}
use Rattle.expr_code.specs.EvaluationCode.{home_of}
use Rattle.expr_code.proofs.Public.{same_register}

-- ---- Registers that have a slot

one_kept : (xs : List ℕ) (at : ℕ) → list_all is_kept xs ≡ true → at < length xs → is_kept (slice_index xs at) ≡ true
one_kept [] at h below = absurd (let z : ⊥ = omega (arith, below) in z)
one_kept (x ∷ xs) zero h below = (and_parts (is_kept x) (list_all is_kept xs) h).0
one_kept (x ∷ xs) (suc at) h below = one_kept xs at (and_parts (is_kept x) (list_all is_kept xs) h).1 (omega (arith, below))

-- each log keeps those of a pending write
address_kept : (ls : Locals) → may_keep_at ls pending_address ≡ true
address_kept Registers = refl
address_kept Frame = refl

value_kept : (ls : Locals) → may_keep_at ls pending_value ≡ true
value_kept Registers = refl
value_kept Frame = refl

pub address_keepable : (log : Log) → IsKeepable log pending_address
address_keepable log = kept_are_keepable log pending_address (address_kept (locals_of log))

pub value_keepable : (log : Log) → IsKeepable log pending_value
value_keepable log = kept_are_keepable log pending_value (value_kept (locals_of log))

-- and that of each colour
pub colour_keepable : (log : Log) → locals_of log ≡ Registers → (colour : ℕ) → colour < 18 → IsKeepable log (slice_index LOCALS colour)
colour_keepable log registers colour few =
    let register = slice_index LOCALS colour in
    kept_are_keepable log register (ap (λ (ls : Locals). may_keep_at ls register) registers ∙ one_kept LOCALS colour refl few)

-- ---- The frame

abbrev in_frame : Home → Bool
in_frame (InRegister register) = false
in_frame (InFrame address) = true

module _ (p : Plan) (plan : IsPlan p) (t : Thread) (is : IsThread p t) (frame : locals_of p.log ≡ Frame) where
  -- none stands in a register
  pub no_register : (local : ℕ) (k : Kind) (register : ℕ) → slice_get t.kinds local ≡ Some k → home_of t.locals local ≡ InRegister register → ⊥
  no_register local k register there at = true≢false (sym (ap in_frame (sym at ∙ (word_of p plan t is frame local k there).1)))

-- ---- A plan

-- a log keeps the registers in which locals stand
pub local_keepable : (p : Plan) (plan : IsPlan p) (t : Thread) (is : IsThread p t) (local : ℕ) (k : Kind) (register : ℕ) → slice_get t.kinds local ≡ Some k →
    home_of t.locals local ≡ InRegister register → IsKeepable p.log register
local_keepable p plan t is local k register there at = by (locals_of p.log) refl
  where
    by : (ls : Locals) → locals_of p.log ≡ ls → IsKeepable p.log register
    by Registers e =
        let colour = coloured p plan t is local k there in
        let home : home_of t.locals local ≡ InRegister (slice_index LOCALS colour.0) =
        home_is p plan t is local colour.0 colour.1 ∙ ap (λ (ls : Locals). home_at ls p.log t.number colour.0) e in
        subst (IsKeepable p.log) (sym (same_register register (slice_index LOCALS colour.0) (sym at ∙ home)))
        (colour_keepable p.log e colour.0 (few_colours p plan t is local colour.0 colour.1))
    by Frame e = absurd (no_register p plan t is e local k register there at)

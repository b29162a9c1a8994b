-- Where a thread's locals stand, by their colours.
use Rattle.std.proofs.Common.{◌≡◌, ℕ, zero, suc, ◌+◌, ◌*◌, ◌<◌, List, [], ◌∷◌, map, refl, ap, arith, sym, ◌∙◌, subst, Bool, true, false, Some}
use Rattle.std.specs.Prelude.{slice_get, Contains}
use Rattle.std.proofs.lemmas.Bool.{true≢false}
use Rattle.std.proofs.lemmas.Option.{none-some, same_Some}
use Rattle.log_schemes.specs.declared.addresses.TheConstants.{FRAME}
use Rattle.log_schemes.specs.declared.locals.Locals.{Locals}
use Rattle.log_schemes.specs.declared.locals.Locals.TheVariants.{Registers, Frame}
use Rattle.log_schemes.specs.declared.log.Log.{Log}
use Rattle.log_schemes.specs.Layout.{frame_at, log_of}
use Rattle.log_schemes.specs.Schemes.{locals_of}
use Rattle.ido_base.specs.declared.limits.TheConstants.{LOCAL_REGISTERS}
use Rattle.expr_code.specs.EvaluationCode.{home_of}
use Rattle.expr_code.specs.declared.home.Home.{Home}
use Rattle.expr_code.specs.declared.home.Home.TheVariants.{InRegister, InFrame}
use Rattle.log_states.proofs.Public.{contains_first, contains_later}
use Rattle.thread_code.specs.Plans.{Plan, Thread, IsThread, IsPlan, home_at, home_of_colour}

-- what stands in a list is contained in it
pub contained_at : (xs : List ℕ) (k y : ℕ) → slice_get xs k ≡ Some y → Contains xs y
contained_at [] k y g = absurd (none-some y g)
contained_at (x ∷ xs) zero y g = subst (λ (z : ℕ). Contains (x ∷ xs) z) (same_Some x y g) (contains_first x xs)
contained_at (x ∷ xs) (suc k) y g = contains_later x xs y (contained_at xs k y g)

-- ---- Homes

abbrev is_frame : Home → Bool
is_frame (InRegister register) = false
is_frame (InFrame address) = true

abbrev address_in : Home → ℕ
address_in (InRegister register) = 0
address_in (InFrame address) = address

-- a home in the frame is the word of a colour
in_frame : (log : Log) (thread : ℕ) (l : Locals) (colour address : ℕ) → home_at l log thread colour ≡ InFrame address →
    (l ≡ Frame) × (frame_at log thread colour ≡ address)
in_frame log thread Registers colour address h = absurd (true≢false (sym (ap is_frame h)))
in_frame log thread Frame colour address h = (refl, ap address_in h)

-- where locals stand in the frame no home is a register
pub no_register : (log : Log) (thread colour register : ℕ) → home_at Frame log thread colour ≡ InRegister register → ⊥
no_register log thread colour register h = true≢false (ap is_frame h)

-- the colour of a local that stands in the frame
frame_found : (f : ℕ → Home) (colours : List ℕ) (local address : ℕ) → home_of (map f colours) local ≡ InFrame address →
    (colour : ℕ) × (slice_get colours local ≡ Some colour) × (f colour ≡ InFrame address)
frame_found f [] local address h = absurd (true≢false (sym (ap is_frame h)))
frame_found f (c ∷ cs) zero address h = (c, refl, h)
frame_found f (c ∷ cs) (suc local) address h = frame_found f cs local address h

-- the home of a local of that colour
home_there : (f : ℕ → Home) (colours : List ℕ) (local colour : ℕ) → slice_get colours local ≡ Some colour → home_of (map f colours) local ≡ f colour
home_there f [] local colour g = absurd (none-some colour g)
home_there f (c ∷ cs) zero colour g = ap f (same_Some c colour g)
home_there f (c ∷ cs) (suc local) colour g = home_there f cs local colour g

-- words of a frame have addresses of their own
same_word : (base one other : ℕ) → base + 8 * one ≡ base + 8 * other → one ≡ other
same_word base one other e = omega (arith, e)

module _ (p : Plan) (plan : IsPlan p) (t : Thread) (is : IsThread p t) where
  pub home_at_colour : (local colour : ℕ) → slice_get is.colours local ≡ Some colour → home_of t.locals local ≡ home_of_colour p.log t.number colour
  home_at_colour local colour there =
      ap (λ (hs : List Home). home_of hs local) is.locals ∙ home_there (home_of_colour p.log t.number) is.colours local colour there

  -- a local that stands in this word of the frame has its number as colour
  pub record HasWord (local word : ℕ) : Type 0 where
    pub frame : locals_of p.log ≡ Frame
    pub there : slice_get is.colours local ≡ Some word
    pub exists : word < LOCAL_REGISTERS

  -- one that stands at an address stands in the word there
  pub stands_in_word : (local address : ℕ) → home_of t.locals local ≡ InFrame address →
      (word : ℕ) × (address ≡ frame_at p.log t.number word) × HasWord local word
  stands_in_word local address home =
      let found = frame_found (home_of_colour p.log t.number) is.colours local address (ap (λ (hs : List Home). home_of hs local) (sym is.locals) ∙ home) in
      let stands = in_frame p.log t.number (locals_of p.log) found.0 address found.2 in (
        found.0,
        sym stands.1,
        record {
          frame = stands.0;
          there = found.1;
          exists = plan.registers.exist t.number found.0 is.colours is.of_colours (contained_at is.colours local found.0 found.1);
        },
      )

  pub has_word : (local word : ℕ) → home_of t.locals local ≡ InFrame (frame_at p.log t.number word) → HasWord local word
  has_word local word home =
      let stands = stands_in_word local (frame_at p.log t.number word) home in
      subst (λ (n : ℕ). HasWord local n) (same_word (log_of p.log t.number + FRAME) stands.0 word (sym stands.1)) stands.2

-- Functions that are reached, and the first call that leads back among some.
use Rattle.std.specs.Prelude.{◌≡◌, ◌⊎◌, ℕ, ◌<◌, ◌≤◌, List, [], ◌∷◌, ◌++◌, Bool, true, false, Option, Some, None, MatchOption, Contains, slice_get, slice_set}
use Rattle.ido_base.specs.declared.place.Place.{Place}
use Rattle.c_tree.specs.Inlining.{Call}
use Rattle.c_inline.specs.links.Calls.{calls_at, CallsLead, LeadsBack}

-- a function that exists is reached and waits, if it was not reached before
abbrev pub IsReachedFunction : List Bool → List ℕ → (function : ℕ) → List Bool → List ℕ → Type 0
IsReachedFunction reached waiting function reached' waiting' =
    ((slice_get reached function ≡ Some false) × (reached' ≡ slice_set reached function true) × (waiting' ≡ waiting ++ function ∷ []))
    ⊎ ((slice_get reached function ≡ Some false → ⊥) × (reached' ≡ reached) × (waiting' ≡ waiting))

-- the place is that of a call that leads back, and such a call is not before it
pub record IsNoLater (cs : List (List Call)) (Among : (caller : ℕ) → Call → Type 0) (place : Place) : Type 0 where
  pub call : Call
  pub stands : call.place ≡ place
  pub back : LeadsBack cs call
  pub first : (g : ℕ) (c : Call) → Among g c → CallsLead cs g c.function → place.0 ≤ c.place.0

-- where there is none, no call among these leads back
abbrev pub IsFirstAmong : List (List Call) → (Among : (caller : ℕ) → Call → Type 0) → Option Place → Type 0
IsFirstAmong cs Among best = MatchOption best ((g : ℕ) (c : Call) → Among g c → CallsLead cs g c.function → ⊥) (IsNoLater cs Among)

-- among the calls in the functions below a number
abbrev pub IsBackBelow : List (List Call) → (number : ℕ) → Option Place → Type 0
IsBackBelow cs number best = IsFirstAmong cs (λ g c. (g < number) × Contains (calls_at cs g) c) best

-- among the calls in the functions below a number, and the first ones in the function of that number
abbrev pub IsBackAmong : List (List Call) → (number : ℕ) → List Call → Option Place → Type 0
IsBackAmong cs number first best = IsFirstAmong cs (λ g c. ((g < number) × Contains (calls_at cs g) c) ⊎ ((g ≡ number) × Contains first c)) best

-- a place comes before one, if there is one
abbrev pub IsBefore : Place → Option Place → Type 0
IsBefore place None = Unit {0}
IsBefore place (Some best) = place.0 < best.0

abbrev pub IsNotAfter : Option Place → Place → Type 0
IsNotAfter None place = ⊥
IsNotAfter (Some best) place = best.0 ≤ place.0

-- the call's place where it leads back and comes before the best one, else the best one
abbrev pub IsBetter : List (List Call) → (number : ℕ) → Call → (best better : Option Place) → Type 0
IsBetter cs number call best better =
    ((better ≡ Some call.place) × CallsLead cs number call.function × IsBefore call.place best)
    ⊎ ((better ≡ best) × (CallsLead cs number call.function → IsNotAfter best call.place))

-- What a text comes to is at most one thing.
use Rattle.std.specs.Prelude.{◌≡◌, ℕ, List}
use Rattle.log_schemes.specs.declared.log.Log.{Log}
use Rattle.ido_base.specs.declared.place.Place.{Place}
use Rattle.c_tree.specs.Flats.{Flat}
use Rattle.c_tree.specs.declared.rule.Rule.{Rule}
use Rattle.ido_compile.specs.LoggedTexts.{IsAcceptedAs, IsRefusedAs}

-- an accepted text has one flat form, for whichever logs it is accepted, and in whichever language it is read for these
abbrev pub OneFlat : Type 0
OneFlat = (log other : Log) (text : List ℕ) (x y : Flat) → IsAcceptedAs log text x → IsAcceptedAs other text y → x ≡ y

-- a text that is refused for a log is so by one rule, at one place
abbrev pub OneFault : Type 0
OneFault = (log : Log) (text : List ℕ) (found other : Rule) (place elsewhere : Place) →
    IsRefusedAs log text found place → IsRefusedAs log text other elsewhere → (found ≡ other) × (place ≡ elsewhere)

-- no text is both accepted and refused for a log
abbrev pub NotBoth : Type 0
NotBoth = (log : Log) (text : List ℕ) (x : Flat) (found : Rule) (place : Place) → IsAcceptedAs log text x → ¬ (IsRefusedAs log text found place)

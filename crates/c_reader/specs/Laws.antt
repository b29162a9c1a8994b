-- What a text is read as is at most one thing, and no deep one.
use Rattle.std.specs.Prelude.{◌≡◌, ℕ, ◌+◌, List}
use Rattle.ido_base.specs.declared.place.Place.{Place}
use Rattle.ido_base.specs.declared.limits.TheConstants.{MOST_NESTING}
use Rattle.c_tree.specs.declared.language.Language.{Language}
use Rattle.c_tree.specs.TextReadings.{IsRead, IsRefused}
use Rattle.c_tree.specs.Trees.{Item}
use Rattle.c_tree.specs.declared.rule.Rule.{Rule}
use Rattle.c_reader.specs.Depths.{IsShallow}

-- a text has one tree at most
abbrev pub OneTree : Type 0
OneTree = (l : Language) (text : List ℕ) (xs ys : List Item) → IsRead l text xs → IsRead l text ys → xs ≡ ys

-- a text is refused by one rule at one place at most
abbrev pub OneRefusal : Type 0
OneRefusal = (l : Language) (text : List ℕ) (found other : Rule) (place elsewhere : Place) → IsRefused l text found place → IsRefused l text other elsewhere
    → (found ≡ other) × (place ≡ elsewhere)

-- a text that is refused has no tree
abbrev pub NotBoth : Type 0
NotBoth = (l : Language) (text : List ℕ) (xs : List Item) (found : Rule) (place : Place) → IsRead l text xs → ¬ (IsRefused l text found place)

-- the blocks of a tree that is read are at most 128 deep, and its expressions at most 129 high
abbrev pub TreesAreShallow : Type 0
TreesAreShallow = (l : Language) (text : List ℕ) (xs : List Item) → IsRead l text xs → IsShallow MOST_NESTING (MOST_NESTING + 1) xs

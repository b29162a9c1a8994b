-- What is answered for a program.
use Rattle.std.specs.Prelude.{◌≡◌, Some, None, Result, Ok, Err}
use Rattle.c_tree.specs.Programs.{Program}
use Rattle.c_tree.specs.Inlining.{IsFirstBack, flat_form}
use Rattle.c_tree.specs.AcceptedTexts.{HasNoBack}
use Rattle.c_tree.specs.Flats.{flat_of}
use Rattle.c_tree.specs.declared.language.Language.{Language}
use Rattle.c_tree.specs.HoldPrices.{price_fault}
use Rattle.c_tree.specs.declared.flat.Flat.{Flat}
use Rattle.c_inline.specs.declared.inline.InlineError.{InlineError}
use Rattle.c_inline.specs.declared.inline.InlineError.TheVariants as e

-- the flat form, where no call leads back and no thread costs too much; else the first of these faults
abbrev pub IsInlining : Language → Program → Result Flat InlineError → Type 0
IsInlining l x (Ok flat) = HasNoBack x × (price_fault l (flat_form x) ≡ None) × (flat_of flat ≡ flat_form x)
IsInlining l x (Err (e.Recursion place)) = IsFirstBack x.functions place
IsInlining l x (Err (e.Code place)) = HasNoBack x × (price_fault l (flat_form x) ≡ Some place)
IsInlining l x (Err e.Memory) = Unit {0}

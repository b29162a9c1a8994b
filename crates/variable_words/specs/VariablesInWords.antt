-- The variables of a program in the words of a machine.
use Rattle.std.specs.Prelude.{◌≡◌, ℕ, ◌+◌, ◌*◌, ◌<◌, ◌≤◌, List, [], ◌∷◌, length, map, slice_get, slice_index, Some, true}
use Rattle.log_schemes.specs.declared.log.Log.{Log}
use Rattle.ido_base.specs.declared.location.Shape.{Shape}
use Rattle.machine_events.specs.declared.event.Event.TheVariants.{Crash}
use Rattle.ido_base.specs.Words.{Word, word_at, durable_value}
use Rattle.ido_base.specs.Layout.{variable_at, variable_lines, byte_number, aligned, end_from, spread_words}
use Rattle.log_schemes.specs.Layout.{in_range}
use Rattle.ido_ints.specs.Kinds.{bytes_of}
use Rattle.c_tree.specs.Programs.{Variable}
use Rattle.c_tree.specs.Flats as f
use Rattle.c_tree.specs.WellFormed.{shape_of, elements_in, IsWellFormed, initial_numbers}
use Rattle.c_tree.specs.Source.{start}
use Rattle.memory_layout.specs.Variables.{HaveRoom, AreCounted, AreInitial}
use Rattle.rv64_isa.specs.declared.object.Slot.{Slot}
use Rattle.machine_model.specs.Machine.{World, start_of, after_crash_of, after_event}
use Rattle.recovery_semantics.specs.ElementHistories.{memory_of, crashed}
use Rattle.recovery_semantics.specs.VariableSpots.{Spot, memory_in, IsAtSpot, AreSpotsApart}

-- each stands from its first element's byte on; the shapes are those of all variables, and these are the variables from the number on
abbrev pub spots_from : List Shape → (number : ℕ) → List Variable → List Spot
spots_from shapes number [] = []
spots_from shapes number (v ∷ vs) =
    record { kind = v.kind; start = byte_number (variable_at shapes number 0); elements = elements_in v.length } ∷ spots_from shapes (number + 1) vs

abbrev pub spots_of : List Variable → List Spot
spots_of vs = spots_from (map shape_of vs) 0 vs

-- they all fit, and have a number for each element
pub record ArePlaced (vs : List Variable) : Type 0 where
  pub room : HaveRoom (map shape_of vs)
  pub counted : AreCounted (map shape_of vs) (map initial_numbers vs)

-- an access to an element at its address may be made, and is at its spot
pub record IsAccess (log : Log) (vs : List Variable) (threads variable element : ℕ) (is : Variable) : Type 0 where
  pub inside : in_range log threads (variable_at (map shape_of vs) variable element) (bytes_of is.kind) ≡ true
  pub is_aligned : aligned (variable_at (map shape_of vs) variable element) (bytes_of is.kind) ≡ true
  pub at : IsAtSpot (spots_of vs) variable element is.kind (byte_number (variable_at (map shape_of vs) variable element))

-- ---- Laws

-- a well-formed program's variables have a place, and a number for each element
abbrev pub WellFormedArePlaced : Type 0
WellFormedArePlaced = (x : f.Flat) → IsWellFormed x → ArePlaced x.variables

-- variables stand apart in the words of variables
abbrev pub VariablesApart : Type 0
VariablesApart = (vs : List Variable) (words : ℕ) → HaveRoom (map shape_of vs) → 8 * variable_lines ≤ words → AreSpotsApart (spots_of vs) words

-- each element can be accessed at its address
abbrev pub AddressesReach : Type 0
AddressesReach =
    (log : Log) (vs : List Variable) (threads variable element : ℕ) (is : Variable) → HaveRoom (map shape_of vs) → slice_get vs variable ≡ Some is →
    element < elements_in is.length → IsAccess log vs threads variable element is

-- memory begins with the source's initial numbers
abbrev pub StartsHold : Type 0
StartsHold = (log : Log) (x : f.Flat) (program : List (List Slot)) (locks : ℕ) (bytes : List ℕ) → IsWellFormed x →
    AreInitial (map shape_of x.variables) (map initial_numbers x.variables) bytes →
    memory_in (spots_of x.variables) (start_of log program locks bytes).words ≡ memory_of (start x)

-- a crash of the machine is one of memory
abbrev pub CrashesHold : Type 0
CrashesHold = (spots : List Spot) (program : List (List Slot)) (w : World) →
    memory_in spots (after_event program w Crash).words ≡ crashed (memory_in spots w.words)

-- where a machine begins with an image of the words that a crash has left of the variables, memory is as the crash left it: the image has so many
-- words that all variables are in them
abbrev pub ImagesHold : Type 0
ImagesHold =
    (log : Log) (vs : List Variable) (program : List (List Slot)) (locks variable_words : ℕ) (words : List Word) (image : List ℕ) → HaveRoom (map shape_of vs) →
    end_from 0 (map shape_of vs) ≤ 8 * variable_words → variable_words ≤ length image →
    ((word : ℕ) → word < variable_words → slice_index image word ≡ durable_value (word_at words word)) →
    memory_in (spots_of vs) (after_crash_of log program locks (spread_words variable_words image)).words ≡ crashed (memory_in (spots_of vs) words)

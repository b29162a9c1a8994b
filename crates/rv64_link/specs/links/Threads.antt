-- The items and the words of threads.
use Rattle.std.specs.Prelude.{ℕ, List, map}
use Rattle.std.specs.Global.{Vec}
use Rattle.rv64_isa.specs.Programs.{slot_of}
use Rattle.rv64_isa.specs.declared.object.CodeItem.{CodeItem}
use Rattle.rv64_isa.specs.declared.object.Slot.{Slot}

abbrev pub items_in : Vec CodeItem → List CodeItem
items_in v = v.items

abbrev pub slots_in : Vec ℕ → List Slot
slots_in v = map slot_of v.items

-- The code of an object as a machine runs it.
use Rattle.std.specs.Prelude.{List, map}
use Rattle.rv64_isa.specs.declared.object.Slot.{Slot}
use Rattle.rv64_isa.specs.Programs.{slot_of}
use Rattle.machine_model.specs.declared.object.Object.{Object}

abbrev pub program_of : Object → List (List Slot)
program_of object = map (λ code. map slot_of code.items) object.code.items

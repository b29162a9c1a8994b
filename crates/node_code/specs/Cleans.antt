-- Which items of pieces clean lines.
use Rattle.std.specs.Prelude.{◌≡◌, ℕ, List, [], ◌∷◌, sum_by, Bool, if◌then◌else◌}
use Rattle.ido_ints.specs.declared.kinds.Kind.{Kind}
use Rattle.ido_ints.specs.Kinds.{bytes_of}
use Rattle.rv64_isa.specs.declared.instr.Instr.TheVariants.{Store, CboClean}
use Rattle.rv64_isa.specs.declared.instr.StoreKind.{StoreKind}
use Rattle.rv64_isa.specs.declared.object.CodeItem.{CodeItem}
use Rattle.rv64_isa.specs.declared.object.CodeItem.TheVariants.{Instruction, MarkNext}
use Rattle.rv64_isa.specs.Rows.{store_bytes}
use Rattle.memory_layout.specs.Roles.{pending_address, pending_value}

-- 1 for an item that cleans a line, 0 for any other
abbrev pub cleans_of : CodeItem → ℕ
cleans_of (Instruction (CboClean rs1)) = 1
cleans_of _ = 0

-- how many of the items clean a line
abbrev pub cleans_in : List CodeItem → ℕ
cleans_in items = sum_by cleans_of items

-- the mark, the store of what is pending, and at once the clean of its line or nothing
pub record IsStoreThenClean (kind : Kind) (cleans : Bool) (items : List CodeItem) : Type 0 where
  pub width : StoreKind
  pub width_is : store_bytes width ≡ bytes_of kind
  pub items_are : items ≡ MarkNext ∷ Instruction (Store width pending_value pending_address 0) ∷
      (if cleans then Instruction (CboClean pending_address) ∷ [] else [])

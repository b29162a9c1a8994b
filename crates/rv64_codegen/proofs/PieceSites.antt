-- Where the piece of a node stands in a thread's linked code, whatever its runs meet.
use Rattle.std.proofs.Common.{◌≡◌, ℕ, ◌+◌, ◌-◌, ◌*◌, ◌/◌, ◌^◌, ◌<◌, List, length, Option, Some, None, Bool, false, refl, ap, ◌∙◌, arith}
use Rattle.std.specs.Prelude.{slice_get}
use Rattle.rv64_isa.specs.declared.instr.Instr.{Instr}
use Rattle.rv64_isa.specs.declared.object.CodeItem.{CodeItem}
use Rattle.rv64_isa.specs.declared.object.Slot.{Slot}
use Rattle.rv64_isa.specs.declared.object.Slot.TheVariants.{Row, NoRow}
use Rattle.rv64_link.specs.LabelledCode.{label_position}
use Rattle.rv64_link.specs.LinkedCode.{IsLinked}
use Rattle.code_runs.specs.CodeTraces.{Program, MarkedEnvironment, Meets}
use Rattle.node_code.specs.Sites.{IsPart, Linking, Site, mark_waits}
use Rattle.thread_code.specs.Plans.{Thread, IsNodeOf}
use Rattle.thread_code.specs.NodeCodeEffects.{Places}

-- items of a thread, linked
pub record IsLinkedIn (program : Program) (items : List CodeItem) : Type 0 where
  pub linked : IsLinked program.start items program.code program.nodes program.resumes
  pub room : program.start + 4 * length program.code < 2 ^ 64

-- what its runs meet, in an environment
abbrev pub linking_in : (program : Program) → (items : List CodeItem) → IsLinkedIn program items → (s : MarkedEnvironment) → Meets program s → Linking items
linking_in program items n s meets = record { program = program; linked = n.linked; room = n.room; environment = s; meets = meets }

-- a part of the items where no mark waits for its first instruction, in any environment
pub record Spot (items : List CodeItem) (part : List CodeItem) : Type 0 where
  pub position : ℕ
  pub is_part : IsPart items position part
  pub closed : mark_waits false is_part.before ≡ false

abbrev pub spot_site : {program : Program} → {items : List CodeItem} → (n : IsLinkedIn program items) → (part : List CodeItem) → Spot items part →
    (s : MarkedEnvironment) → Meets program s → Site part
spot_site {program} {items} n part spot s meets = record {
  items = items;
  position = spot.position;
  linking = linking_in program items n s meets;
  is_part = spot.is_part;
  closed = spot.closed;
}

-- a node's piece stands among the items: it begins at the node's entry, ends at the next one's, and labels of the thread's nodes lead to
-- their entries
pub record IsSited (t : Thread) (program : Program) (items : List CodeItem) (n : IsLinkedIn program items) (entry : ℕ → ℕ) (node : ℕ)
    (piece : List CodeItem) : Type 0 where
  pub position : ℕ
  pub is_part : IsPart items position piece
  pub closed : mark_waits false is_part.before ≡ false
  pub begin : n.linked.address_of position ≡ entry node
  pub end : n.linked.address_of (position + length piece) ≡ entry (node + 1)
  pub labels : (j : ℕ) → IsNodeOf t j → n.linked.address_of (label_position (j - t.part.first) items) ≡ entry j

abbrev pub site_in : (t : Thread) → (program : Program) → (items : List CodeItem) → (n : IsLinkedIn program items) → (entry : ℕ → ℕ) → (node : ℕ) →
    (piece : List CodeItem) → IsSited t program items n entry node piece → (s : MarkedEnvironment) → Meets program s → Site piece
site_in t program items n entry node piece sited s meets = record {
  items = items;
  position = sited.position;
  linking = linking_in program items n s meets;
  is_part = sited.is_part;
  closed = sited.closed;
}

-- addresses within a node's code, where it has them: of what it does, of its call, where it is gone on with after that, and of a store that is no mark
pub record Spots : Type 0 where
  pub core : ℕ
  pub call : ℕ
  pub after : ℕ
  pub store : ℕ

-- the thread's places have these at the node
pub record AgreesAt (places : Places) (program : Program) (live kept : ℕ → List ℕ) (cleaned : ℕ → Bool) (node : ℕ) (spots : Spots) : Type 0 where
  pub of_program : places.program ≡ program
  pub core : places.core node ≡ spots.core
  pub call : places.call node ≡ spots.call
  pub after : places.after node ≡ spots.after
  pub store : places.store node ≡ spots.store
  pub words : places.entry (node + 1) ≡ places.entry node + 4 * places.words node
  pub live_are : (other : ℕ) → places.live other ≡ live other
  pub kept_are : (other : ℕ) → places.kept other ≡ kept other
  pub cleans : places.cleans node ≡ cleaned node

-- ---- An environment of a program, in which no load is answered

abbrev row_in : Option Slot → Option Instr
row_in None = None
row_in (Some (Row instr)) = Some instr
row_in (Some (NoRow word)) = None

abbrev pub bare : Program → MarkedEnvironment
bare program = record {
  around = record { fetch = λ address. row_in (slice_get program.code ((address - program.start) / 4)); loads = λ address bytes. None };
  marks = program.nodes;
}

pub bare_meets : (program : Program) → Meets program (bare program)
bare_meets program = record {
  fetches = λ address instr st.
      let i : ℕ = st.0 in
      let is : address ≡ program.start + 4 * i = st.1 in
      let at : (address - program.start) / 4 ≡ i = omega (arith, is) in
      ap (λ (k : ℕ). row_in (slice_get program.code k)) at ∙ ap row_in st.2;
  marks = refl;
}

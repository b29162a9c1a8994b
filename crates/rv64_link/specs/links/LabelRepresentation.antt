-- What the code has of labels.
use Rattle.std.specs.Prelude.{◌≡◌, ℕ, List, get_or}
use Rattle.rv64_isa.specs.declared.object.CodeItem.{CodeItem}
use Rattle.rv64_link.specs.LabelledCode.{label_position}
use Rattle.rv64_link.specs.declared.labels.Labels.{Labels}

-- the positions of labels are those of the items
abbrev pub LabelsStand : Labels → List CodeItem → Type 0
LabelsStand labels items = (label : ℕ) → get_or labels.positions.items label labels.end ≡ label_position label items

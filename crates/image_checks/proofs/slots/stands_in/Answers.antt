use Rattle.std.proofs.Common.{◌≡◌, Some, length, refl, ◌∙◌}
use Rattle.std.specs.Prelude.{slice_get}
use Rattle.std.proofs.lemmas.Option.{slice_get_read}
use Rattle.image_checks.proofs.Elements.{not_above, below, none_there}
use Rattle.image_checks.proofs.slots.stands_in.Goals as goal

pub returns-then-element-from : goal.returns-then-element-from
returns-then-element-from c =
    let xs = c.args.variables.now in
    let read = c.in-Some.ensures.lookup in
    let there : slice_get xs c.args.location.variable ≡ Some c.in-Some.variable.now =
    slice_get_read xs (length xs) c.args.location.variable c.in-Some.variable.now refl read.3.0 read.1 in
    not_above xs c.args.location c.args.address c.requires there c.from-first.ensures (c.from-bytes.ensures ∙ c.bytes.ensures)
    c.in-Some-element_at.element c.from.result c.from-then-element-from.result c.in-Some-element_at.ensures.is c.from.ensures c.from-then-element-from.ensures
    c.if-element-from.true

pub returns-else-element-from : goal.returns-else-element-from
returns-else-element-from c =
    let xs = c.args.variables.now in
    let read = c.in-Some.ensures.lookup in
    let there : slice_get xs c.args.location.variable ≡ Some c.in-Some.variable.now =
    slice_get_read xs (length xs) c.args.location.variable c.in-Some.variable.now refl read.3.0 read.1 in
    below xs c.args.location c.args.address c.requires there c.from-first.ensures (c.from-bytes.ensures ∙ c.bytes.ensures)
    c.in-Some-element_at.element c.from.result c.in-Some-element_at.ensures.is c.from.ensures c.if-element-from.false

pub returns-in-None : goal.returns-in-None
returns-in-None c =
    let xs = c.args.variables.now in
    let read = c.in-Some.ensures.lookup in
    let there : slice_get xs c.args.location.variable ≡ Some c.in-Some.variable.now =
    slice_get_read xs (length xs) c.args.location.variable c.in-Some.variable.now refl read.3.0 read.1 in
    none_there xs c.args.location c.args.address c.requires there c.from-first.ensures (c.from-bytes.ensures ∙ c.bytes.ensures) (c.in-None.ensures.none refl)

use Rattle.std.proofs.Common.{◌-◌, ◌<◌, ℕ, List, arith, inr, length, map, subst, sym}
use Rattle.c_tree.specs.Flats.{flat_of}
use Rattle.c_tree.specs.Programs.{variable_of}
use Rattle.c_tree.specs.WellFormed.{shape_of}
use Rattle.c_tree.specs.declared.program.Variable as declared
use Rattle.memory_layout.specs.Variables.{AreAddresses}
use Rattle.variable_words.proofs.Public.{length-variables}
use Rattle.image_checks.specs.declared.error.ImageError.TheVariants as e
use Rattle.image_checks.specs.VariableReferences.{IsReferenceFault}
use Rattle.image_checks.specs.links.ElementNumbers.{IsFirstWrongIn, IsVariableRight}
use Rattle.image_checks.proofs.ElementNumbers.{all_variables, first_is, one_variable, own_right, own_wrong, there_is, variable_fits}
use Rattle.image_checks.proofs.references.check_references.Goals as goal

pub first_wrong-requires : goal.first_wrong-requires
first_wrong-requires c =
    let addresses = c.in_ok-addresses.addresses.items in
    variable_fits c.args.flat.now.variables.items addresses c.loop-index.index c.index.result.now c.index-in-loop-index.result.now
    (subst (λ (vs : List declared.Variable). AreAddresses (map shape_of (map variable_of vs)) addresses) c.deref.ensures.value c.in_ok-addresses.ensures)
    (omega (arith, c.loop-index-test.true, c.len-index-end.ensures, c.args.flat.now.variables.ok.0)) c.index-in-loop-index.ensures c.index.ensures c.requires

pub returns-in-Some : goal.returns-in-Some
returns-in-Some c =
    let flat = flat_of c.args.flat.now in
    let words = c.args.words.now in
    let xs = c.args.flat.now.variables.items in
    let addresses = c.in_ok-addresses.addresses.items in
    let i = c.loop-index.index in
    let x = c.index-in-loop-index.result.now in
    let are = subst (λ (vs : List declared.Variable). AreAddresses (map shape_of (map variable_of vs)) addresses) c.deref.ensures.value
    c.in_ok-addresses.ensures in
    let below : i < length xs = omega (arith, c.loop-index-test.true, c.len-index-end.ensures, c.args.flat.now.variables.ok.0) in
    let there = there_is xs addresses i c.index.result.now x are below c.index-in-loop-index.ensures c.index.ensures in
    let at = first_is xs addresses i c.index.result.now x are below c.index-in-loop-index.ensures c.index.ensures in
    inr (subst (λ (v : ℕ). IsReferenceFault flat words (e.Reference v c.in-Some.element)) (sym c.in_ok-variable.ensures)
    (own_wrong flat words c.requires i (c.index.result.now - 0x1000_0000) (variable_of x) there at c.in-Some.element
    (subst (λ (vs : List declared.Variable). IsFirstWrongIn (map variable_of vs) words (variable_of x) (c.index.result.now - 0x1000_0000) c.in-Some.element)
    c.deref-in-loop-index.ensures.value c.in-Some.ensures)
    c.loop-index.invariant))

pub loop-index-preserved : goal.loop-index-preserved
loop-index-preserved c =
    let flat = flat_of c.args.flat.now in
    let words = c.args.words.now in
    let xs = c.args.flat.now.variables.items in
    let addresses = c.in_ok-addresses.addresses.items in
    let i = c.loop-index.index in
    let x = c.index-in-loop-index.result.now in
    let are = subst (λ (vs : List declared.Variable). AreAddresses (map shape_of (map variable_of vs)) addresses) c.deref.ensures.value
    c.in_ok-addresses.ensures in
    let below : i < length xs = omega (arith, c.loop-index-test.true, c.len-index-end.ensures, c.args.flat.now.variables.ok.0) in
    let there = there_is xs addresses i c.index.result.now x are below c.index-in-loop-index.ensures c.index.ensures in
    let at = first_is xs addresses i c.index.result.now x are below c.index-in-loop-index.ensures c.index.ensures in
    one_variable flat words i c.loop-index.invariant
    (own_right flat words c.requires i (c.index.result.now - 0x1000_0000) (variable_of x) there at
    (subst (λ (vs : List declared.Variable). IsVariableRight (map variable_of vs) words (variable_of x) (c.index.result.now - 0x1000_0000))
    c.deref-in-loop-index.ensures.value c.in_default.ensures))

pub returns : goal.returns
returns c =
    all_variables (flat_of c.args.flat.now) c.args.words.now c.loop-index.index
    (omega (arith, c.loop-index-test.false, c.len-index-end.ensures, c.args.flat.now.variables.ok.0, length-variables c.args.flat.now.variables.items))
    c.loop-index.invariant

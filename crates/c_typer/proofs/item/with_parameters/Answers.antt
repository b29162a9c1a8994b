use Rattle.std.proofs.Common.{◌≡◌, ◌+◌, List, ◌∷◌, ◌++◌, Option, drop, map, arith, sym, ap, ap₂, ◌∙◌}
use Rattle.std.proofs.lemmas.List.{at_drop_more}
use Rattle.ido_ints.specs.declared.kinds.Kind.{Kind}
use Rattle.c_tree.specs.LexicalScan.{Fault}
use Rattle.c_tree.specs.Names as n
use Rattle.c_tree.specs.Trees as t
use Rattle.c_tree.specs.TypeRules as rules
use Rattle.c_tree.specs.Elaboration as typing
use Rattle.c_tree.specs.Views as v
use Rattle.c_tree.specs.declared.tree.Parameter.{Parameter}
use Rattle.c_typer.specs.links.FirstFaults.{first_of, noted}
use Rattle.c_typer.specs.links.Scopes.{globals_of, scope_of}
use Rattle.c_typer.proofs.FirstFaultLaws.{noted_append}
use Rattle.c_typer.proofs.RowSteps.{noted_both}
use Rattle.c_typer.proofs.item.with_parameters.Goals as goal

pub loop-parameter-preserved : goal.loop-parameter-preserved
loop-parameter-preserved c =
    let l = c.args.globals.now.language in
    let gs = globals_of c.args.globals.now in
    let s = scope_of c.loop-parameter.scope in
    let i = c.loop-parameter.parameter-index in
    let xs = c.args.parameters.now in
    let x = c.parameter-item.result in
    let y = v.parameter_of x in
    let more = map v.parameter_of (drop (i + 1) xs) in
    let split : map v.parameter_of (drop i xs) ≡ y ∷ more
    = at_drop_more (map v.parameter_of) xs i x (omega arith) ∙ ap (λ (z : Parameter). v.parameter_of z ∷ more) (sym c.parameter-item.is) in
    let next = n.declared gs s y.name.text y.type_name in
    let scope = c.in_ok-declare.ensures.declared
    ∙ ap₂ (λ (k : Kind) (a : Option n.Array). n.declared_as s y.name.text k a) c.kind.ensures c.referred-refers.ensures in
    let first = first_of c.loop-parameter.faults in
    let last = first_of c.note_type_name.new.faults in
    let twice = rules.twice s.own y.name in
    let typed = rules.type_name_faults l gs s y.type_name in
    let both = noted_both first (first_of c.note_twice.new.faults) last twice typed c.note_twice.ensures c.note_type_name.ensures in record {
      made = ap (λ (z : n.Scope). typing.with_parameters gs z more) scope
          ∙ ap (λ (ps : List t.Parameter). typing.with_parameters gs s ps) (sym split)
          ∙ c.loop-parameter.invariant.made;
      noted = ap (λ (z : n.Scope). noted last (rules.parameters_faults l gs z more)) scope
          ∙ ap (λ (f : Option Fault). noted f (rules.parameters_faults l gs next more)) both
          ∙ sym (noted_append first (twice ++ typed) (rules.parameters_faults l gs next more))
          ∙ ap (λ (ps : List t.Parameter). noted first (rules.parameters_faults l gs s ps)) (sym split)
          ∙ c.loop-parameter.invariant.noted;
    }

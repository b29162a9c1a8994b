-- A target's own index, and those in it.
use Rattle.std.proofs.Common.{sym, ◌∙◌, ap, rules}
use Rattle.c_tree.specs.Exprs.{lvalue_of}
use Rattle.c_tree.specs.Programs.{program_of}
use Rattle.c_tree.specs.Ranges.{OfVariable, target_indexes}
use Rattle.c_tree.specs.declared.expr.Lvalue.{Lvalue}
use Rattle.c_ranges.specs.links.FirstUnfitIndex.{first_fault}
use Rattle.c_ranges.proofs.Faults.{index_of, headed}
use Rattle.c_ranges.proofs.indexes.of_target.Goals as goal

pub returns-in-Local : goal.returns-in-Local
unfolding first_fault
returns-in-Local c = search rules

pub returns-in-Local-2 : goal.returns-in-Local-2
unfolding first_fault
returns-in-Local-2 c = search rules

pub returns-in-Element : goal.returns-in-Element
returns-in-Element c =
    let z = program_of c.args.program.now in
    let w = c.in-Element in
    headed z _ _ _ (index_of (OfVariable w.variable) w.index.place _) _ _ c.earlier.ensures c.elements.ensures c.of_index.ensures c.of_placed.ensures
    ∙ ap (λ (x : Lvalue). first_fault z (target_indexes (lvalue_of x))) (sym w.is)

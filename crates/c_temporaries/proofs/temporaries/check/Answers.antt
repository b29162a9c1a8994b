use Rattle.std.proofs.Common.{ap, sym, ◌∙◌, map, List}
use Rattle.c_tree.specs.Flats.{flat_of, thread_of}
use Rattle.c_tree.specs.declared.flat.Thread.{Thread}
use Rattle.c_temporaries.specs.links.FirstDeepExpression.{first_deep, threads_exprs}
use Rattle.c_temporaries.proofs.FirstDeepExpressionLaws.{of_flat}
use Rattle.c_temporaries.proofs.temporaries.check.Goals as goal

pub returns-in-None : goal.returns-in-None
returns-in-None c =
    sym (c.in-None.ensures ∙ ap (λ (xs : List Thread). first_deep (threads_exprs (map thread_of xs))) c.deref.ensures.value ∙ of_flat (flat_of c.args.flat.now))

pub returns-in-Some : goal.returns-in-Some
returns-in-Some c =
    sym (c.in-Some.ensures ∙ ap (λ (xs : List Thread). first_deep (threads_exprs (map thread_of xs))) c.deref.ensures.value ∙ of_flat (flat_of c.args.flat.now))

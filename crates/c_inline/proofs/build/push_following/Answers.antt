use Rattle.std.proofs.Common.{◌∙◌, Option, sym, ap}
use Rattle.c_tree.specs.Flats as f
use Rattle.c_tree.specs.Inlining as i
use Rattle.c_tree.specs.declared.flat.Statement as flat
use Rattle.c_inline.specs.links.InlinedBodies.{following_of}
use Rattle.c_inline.proofs.InlinedStatements.{and_none, following_pushed}
use Rattle.c_inline.proofs.build.push_following.Goals as goal

pub returns-in_ok-push : goal.returns-in_ok-push
returns-in_ok-push c =
    let old = c.args.made.now.items in
    ap f.statements_of c.in_ok-push.ensures.items ∙ following_pushed old c.in-Some.following
    ∙ ap (λ (o : Option flat.Statement). i.statements_and (f.statements_of old) (following_of o)) (sym c.in-Some.is)

pub returns-in_default : goal.returns-in_default
returns-in_default c =
    let old = c.args.made.now.items in
    sym (and_none (f.statements_of old))
    ∙ ap (λ (o : Option flat.Statement). i.statements_and (f.statements_of old) (following_of o)) (sym c.in_default.is)

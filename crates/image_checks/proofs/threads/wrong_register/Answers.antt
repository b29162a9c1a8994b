use Rattle.std.proofs.Common.{List, arith, get_or, map, refl, subst, sym}
use Rattle.c_tree.specs.Programs.{variable_of}
use Rattle.c_tree.specs.declared.program.Variable as declared
use Rattle.image_checks.specs.Checks.{IsLocalWord}
use Rattle.c_tree.specs.Flats.{flat_of}
use Rattle.image_checks.specs.Logs.{logs_of}
use Rattle.image_checks.proofs.Banks.{first_wrong, more_right, none}
use Rattle.image_checks.proofs.threads.wrong_register.Goals as goal

pub returns-then-not-is_local_word : goal.returns-then-not-is_local_word
returns-then-not-is_local_word c =
    first_wrong (flat_of c.args.flat.now) (logs_of c.args.log c.args.logs.now) c.args.thread c.args.bank c.args.live.now c.loop-local.local-index
    c.loop-local-test.true c.home_in.ensures c.loop-local.invariant c.home_number.result c.home_number.ensures
    (λ h. cc (c.if-not-is_local_word.ensures.1
    (subst (λ (vs : List declared.Variable). IsLocalWord (map variable_of vs) (get_or c.args.live.now c.loop-local.local-index none) c.home_in.result)
    (sym c.deref.ensures.value) h)))

pub loop-local-preserved : goal.loop-local-preserved
loop-local-preserved c =
    more_right (flat_of c.args.flat.now) (logs_of c.args.log c.args.logs.now) c.args.thread c.args.bank c.args.live.now c.loop-local.local-index
    c.loop-local-test.true c.home_in.ensures c.loop-local.invariant
    (subst (λ (vs : List declared.Variable). IsLocalWord (map variable_of vs) (get_or c.args.live.now c.loop-local.local-index none) c.home_in.result)
    c.deref.ensures.value (c.if-not-is_local_word.ensures.0 refl))

pub returns : goal.returns
returns c = λ k d l. c.loop-local.invariant k d (omega arith)

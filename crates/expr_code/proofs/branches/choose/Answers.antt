use Rattle.std.proofs.Common.{◌≡◌, ◌++◌, ◌∷◌, [], sym, subst, List, length}
use Rattle.rv64_isa.specs.declared.instr.Instr.{Instr}
use Rattle.expr_code.specs.links.OperandCode.{IsChoice}
use Rattle.expr_code.proofs.ForwardBranches.{choice}
use Rattle.expr_code.proofs.PureCode.{choice_among, skips_none}
use Rattle.expr_code.proofs.branches.choose.Goals as goal

pub returns-clause-code : goal.returns-clause-code
returns-clause-code c = λ h k held rd tests makes others.
    let e : c.append-3.new.code.items ≡ (((c.args.code.items ++ c.in_ok-guard.guard.items) ++ c.args.chosen.now) ++ c.jump-past.result ∷ []) ++
    c.args.otherwise.now =
    cc (c.in_ok-append.ensures, c.in_ok-append-2.ensures, c.in_ok-push.ensures.items, c.in_ok-append-3.ensures, c.deref.ensures.value) in
    subst (λ (code : List Instr). IsChoice h k held rd code) (sym e)
    (choice h k held rd c.args.test c.args.code.items c.in_ok-guard.guard.items c.args.chosen.now c.jump-past.result c.args.otherwise.now
    c.in_ok-guard.ensures.code c.jump-past.ensures tests makes others)

pub returns-clause-pure : goal.returns-clause-pure
returns-clause-pure c =
    let e : c.append-3.new.code.items ≡ (((c.args.code.items ++ c.in_ok-guard.guard.items) ++ c.args.chosen.now) ++ c.jump-past.result ∷ []) ++
    c.args.otherwise.now =
    cc (c.in_ok-append.ensures, c.in_ok-append-2.ensures, c.in_ok-push.ensures.items, c.in_ok-append-3.ensures, c.deref.ensures.value) in
    choice_among c.args.code.items c.in_ok-guard.guard.items c.args.chosen.now c.args.otherwise.now _ c.jump-past.result e c.in_ok-guard.ensures.pure
    (skips_none (length c.args.otherwise.now) c.jump-past.result c.requires.otherwise c.jump-past.ensures)

use Rattle.std.proofs.Common.{arith, List, sym, subst}
use Rattle.std.proofs.lemmas.Result.{on_ok_weaker}
use Rattle.c_tree.specs.Exprs as e
use Rattle.c_tree.specs.Exprs.{lock_name_of, lock_ref_of}
use Rattle.rv64_isa.specs.declared.instr.Instr.{Instr}
use Rattle.flow_graph.specs.Nodes.{Unlock}
use Rattle.expr_code.specs.EvaluationCode.{homes_of}
use Rattle.rv64_codegen.specs.links.Numbers.{IsCallCode, IsReady}
use Rattle.rv64_codegen.proofs.AppendedParts.{unlock_done}
use Rattle.rv64_codegen.proofs.HeldCodes.{call_quiet_by, call_words_by}
use Rattle.rv64_codegen.proofs.NodePieces.{cheap_at, formed_at}
use Rattle.rv64_codegen.proofs.actions.push_giving.Goals as goal
use Rattle.rv64_codegen.proofs.actions.push_giving.Goals.{After-deref}

pub call_code_of-requires : goal.call_code_of-requires
call_code_of-requires c =
    subst (λ (x : e.LockName). IsReady (homes_of c.args.thread.now.frame) x) (sym c.as_ref.ensures)
    (formed_at c.args.thread.now c.args.node (Unlock (lock_name_of c.args.lock.now) c.args.next) c.requires).0

made : (c : After-deref) → IsCallCode (homes_of c.args.thread.now.frame) (lock_name_of c.args.lock.now) c.deref.result.now
made c =
    subst (λ (x : e.LockName). IsCallCode (homes_of c.args.thread.now.frame) x c.deref.result.now) c.as_ref.ensures
    (subst (λ (is : List Instr). IsCallCode (homes_of c.args.thread.now.frame) (lock_ref_of c.as_ref.result) is) (sym c.deref.ensures.value)
    c.in_ok-number.ensures)

pub push_held_unlock-requires-clause-own : goal.push_held_unlock-requires-clause-own
push_held_unlock-requires-clause-own c = (formed_at c.args.thread.now c.args.node (Unlock (lock_name_of c.args.lock.now) c.args.next) c.requires).1

pub push_held_unlock-requires-clause-some : goal.push_held_unlock-requires-clause-some
push_held_unlock-requires-clause-some c =
    (call_words_by (homes_of c.args.thread.now.frame) (lock_name_of c.args.lock.now).mutex (lock_name_of c.args.lock.now).key c.deref.result.now
    (made (goal.at.push_held_unlock-requires-clause-some c).After-deref)).0

pub push_held_unlock-requires-clause-quiet_number : goal.push_held_unlock-requires-clause-quiet_number
push_held_unlock-requires-clause-quiet_number c =
    call_quiet_by (homes_of c.args.thread.now.frame) (lock_name_of c.args.lock.now).mutex (lock_name_of c.args.lock.now).key c.deref.result.now
    (made (goal.at.push_held_unlock-requires-clause-quiet_number c).After-deref)

pub push_held_unlock-requires-clause-short : goal.push_held_unlock-requires-clause-short
push_held_unlock-requires-clause-short c =
    let lock = lock_name_of c.args.lock.now in
    let few = (call_words_by (homes_of c.args.thread.now.frame) lock.mutex lock.key c.deref.result.now
    (made (goal.at.push_held_unlock-requires-clause-short c).After-deref)).1 in
    omega (arith, few, cheap_at c.args.thread.now c.args.node (Unlock lock c.args.next) c.requires)

pub push_fragment-requires : goal.push_fragment-requires
push_fragment-requires c = (formed_at c.args.thread.now c.args.node (Unlock (lock_name_of c.args.lock.now) c.args.next) c.requires).1

pub returns : goal.returns
returns c =
    let next = (formed_at c.args.thread.now c.args.node (Unlock (lock_name_of c.args.lock.now) c.args.next) c.requires).1 in
    let held = c.in_ok-push_held_unlock.ensures in
    on_ok_weaker c.push_fragment.result
    (λ fragment. unlock_done c.args.thread.now c.args.node (lock_name_of c.args.lock.now) c.args.next held.0 c.deref.result.now _ _ _
    (made (goal.at.returns c).After-deref) c.requires next held.1 held.2 fragment) c.push_fragment.ensures

use Rattle.std.proofs.Common.{Option, Some, subst, sym}
use Rattle.std.specs.Option.{option_map}
use Rattle.std.specs.Prelude.{IfOk, Vec}
use Rattle.std.specs.Global.{Global}
use Rattle.c_tree.specs.Exprs.{placed_ref_of}
use Rattle.c_tree.specs.declared.expr.PlacedRef.{PlacedRef}
use Rattle.rv64_isa.specs.declared.instr.Instr.{Instr}
use Rattle.expr_code.specs.EvaluationCode.{homes_of}
use Rattle.rv64_codegen.specs.links.Numbers.{IsKeyReady, IsCallBy}
use Rattle.rv64_codegen.proofs.numbers.call_code_of.Goals as goal
use Rattle.rv64_codegen.proofs.numbers.call_code_of.Goals.{In-Some}

-- what is known of the key
ready : (c : In-Some) → IsKeyReady (homes_of c.args.frame.now) (option_map placed_ref_of (Some c.in-Some.key))
ready c = subst (λ (o : Option PlacedRef). IsKeyReady (homes_of c.args.frame.now) (option_map placed_ref_of o)) c.in-Some.is c.requires.1

pub keyed_call-requires-clause-home : goal.keyed_call-requires-clause-home
keyed_call-requires-clause-home c = (ready (goal.at.keyed_call-requires-clause-home c).In-Some).0

pub keyed_call-requires-clause-need : goal.keyed_call-requires-clause-need
keyed_call-requires-clause-need c = (ready (goal.at.keyed_call-requires-clause-need c).In-Some).1

pub keyed_call-requires-clause-price : goal.keyed_call-requires-clause-price
keyed_call-requires-clause-price c = (ready (goal.at.keyed_call-requires-clause-price c).In-Some).2

pub keyed_call-requires-clause-first : goal.keyed_call-requires-clause-first
keyed_call-requires-clause-first c = c.requires.0

pub plain_call-requires : goal.plain_call-requires
plain_call-requires c = c.requires.0

pub returns-in-None : goal.returns-in-None
returns-in-None c =
    subst (λ (o : Option PlacedRef).
    IfOk c.plain_call.result (λ (code : Vec Instr Global). IsCallBy (homes_of c.args.frame.now) c.args.lock.mutex (option_map placed_ref_of o) code.items))
    (sym c.in-None.is) c.plain_call.ensures

pub returns-in-Some : goal.returns-in-Some
returns-in-Some c =
    subst (λ (o : Option PlacedRef).
    IfOk c.keyed_call.result (λ (code : Vec Instr Global). IsCallBy (homes_of c.args.frame.now) c.args.lock.mutex (option_map placed_ref_of o) code.items))
    (sym c.in-Some.is) c.keyed_call.ensures

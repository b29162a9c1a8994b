use Rattle.std.proofs.Common.{Option, Some, subst, sym}
use Rattle.std.specs.Option.{option_map}
use Rattle.std.specs.Prelude.{IfOk, Vec}
use Rattle.std.specs.Global.{Global}
use Rattle.c_tree.specs.Exprs.{placed_ref_of}
use Rattle.c_tree.specs.declared.expr.PlacedRef.{PlacedRef}
use Rattle.rv64_isa.specs.declared.instr.Instr.{Instr}
use Rattle.expr_code.specs.EvaluationCode.{homes_of}
use Rattle.rv64_codegen.specs.links.Numbers.{IsKeyReady, IsNumberBy}
use Rattle.rv64_codegen.proofs.numbers.number_code_of.Goals as goal
use Rattle.rv64_codegen.proofs.numbers.number_code_of.Goals.{In-Some}

-- what is known of the key
ready : (c : In-Some) → IsKeyReady (homes_of c.args.frame.now) (option_map placed_ref_of (Some c.in-Some.key))
ready c = subst (λ (o : Option PlacedRef). IsKeyReady (homes_of c.args.frame.now) (option_map placed_ref_of o)) c.in-Some.is c.requires.1

pub keyed_number-requires-clause-home : goal.keyed_number-requires-clause-home
keyed_number-requires-clause-home c = (ready (goal.at.keyed_number-requires-clause-home c).In-Some).0

pub keyed_number-requires-clause-need : goal.keyed_number-requires-clause-need
keyed_number-requires-clause-need c = (ready (goal.at.keyed_number-requires-clause-need c).In-Some).1

pub keyed_number-requires-clause-price : goal.keyed_number-requires-clause-price
keyed_number-requires-clause-price c = (ready (goal.at.keyed_number-requires-clause-price c).In-Some).2

pub keyed_number-requires-clause-first : goal.keyed_number-requires-clause-first
keyed_number-requires-clause-first c = c.requires.0

pub plain_number-requires : goal.plain_number-requires
plain_number-requires c = c.requires.0

pub returns-in-None : goal.returns-in-None
returns-in-None c =
    subst (λ (o : Option PlacedRef).
    IfOk c.plain_number.result (λ (code : Vec Instr Global).
    IsNumberBy (homes_of c.args.frame.now) c.args.log.now c.args.lock.mutex (option_map placed_ref_of o) code.items))
    (sym c.in-None.is) c.plain_number.ensures

pub returns-in-Some : goal.returns-in-Some
returns-in-Some c =
    subst (λ (o : Option PlacedRef).
    IfOk c.keyed_number.result (λ (code : Vec Instr Global).
    IsNumberBy (homes_of c.args.frame.now) c.args.log.now c.args.lock.mutex (option_map placed_ref_of o) code.items))
    (sym c.in-Some.is) c.keyed_number.ensures

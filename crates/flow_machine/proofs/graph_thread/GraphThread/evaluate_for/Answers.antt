use Rattle.std.proofs.Common.{◌≡◌, ap, sym, ℕ, List, [], length, Option, subst, false, arith}
use Rattle.std.specs.Prelude.{ℤ}
use Rattle.std.specs.Option.{option_map}
use Rattle.std.specs.Vec.{with_items}
use Rattle.std.proofs.lemmas.List.{with_items_is}
use Rattle.c_tree.specs.Exprs.{expr_of, lvalue_of, placed_of}
use Rattle.source_machine.specs.Assignments.{Evaluates, assigning, pending_of, thread_with}
use Rattle.flow_graph.specs.Nodes.{Eval}
use Rattle.flow_graph.specs.Actions.{GraphThread, effect_of, effect_step, seen_by, with_graph_thread}
use Rattle.flow_machine.specs.links.GraphThreads.{graph_thread_of}
use Rattle.flow_machine.specs.links.StepChanges.{DoesEval, hand, state_in}
use Rattle.flow_machine.proofs.NodeSteps.{eval_made}
use Rattle.flow_machine.proofs.graph_thread.GraphThread.evaluate_for.Goals as goal

pub returns : goal.returns
returns c = λ number holders graph_threads.
    let self = c.args.self.now in
    let before : List ℤ → Type 0 = λ ls. Evaluates (lvalue_of c.args.target.now) (expr_of c.args.value.now.expr) c.args.variables.now
    (assigning ls self.pending) (assigning c.assign.new.locals c.assign.new.pending) in
    let after : List ℤ → Type 0 = λ ls. DoesEval (Eval (lvalue_of c.args.target.now) (placed_of c.args.value.now) c.args.next) (graph_thread_of self)
    (record { at = c.args.next; locals = ls; pending = option_map pending_of c.assign.new.pending; ended = self.ended }) c.args.variables.now in
    let written : (with_items self.locals c.assign.new.locals).items ≡ c.assign.new.locals = with_items_is self.locals c.assign.new.locals
    (omega (arith, c.assign.auto.locals, ap length c.deref_mut.ensures.value, self.locals.ok.0)) in
    subst after (sym written) (λ n hs ws. eval_made (lvalue_of c.args.target.now) (placed_of c.args.value.now) c.args.next n
    (hand (graph_thread_of self) c.args.variables.now hs) ws (thread_with (assigning c.assign.new.locals c.assign.new.pending) [] self.ended)
    (subst before c.deref_mut.ensures.value c.assign.ensures [] self.ended hs [])) number holders graph_threads

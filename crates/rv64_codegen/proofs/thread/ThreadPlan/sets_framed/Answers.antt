use Rattle.std.proofs.Common.{◌∙◌, ap, subst, sym}
use Rattle.flow_graph.specs.declared.graph.Action.{Action as DeclaredAction}
use Rattle.flow_graph.specs.Nodes.{action_of}
use Rattle.expr_code.specs.EvaluationCode.{homes_of}
use Rattle.rv64_codegen.specs.links.Threads.{IsTargetHome, sets_framed}
use Rattle.rv64_codegen.proofs.thread.ThreadPlan.sets_framed.Goals as goal

pub is_framed-requires : goal.is_framed-requires
is_framed-requires c = subst (λ (a : DeclaredAction). IsTargetHome (homes_of c.args.self.now.frame) (action_of a)) c.in-Eval.is c.requires

pub returns-in-Eval : goal.returns-in-Eval
returns-in-Eval c =
    c.is_framed.ensures ∙ ap (λ (a : DeclaredAction). sets_framed c.args.self.now.frame.locals.now (action_of a)) (sym c.in-Eval.is)

use Rattle.std.proofs.Common.{◌≡◌, ◌<◌, ◌≤◌, ◌^◌, ℕ, List, ap₂, arith, length, subst, sym}
use Rattle.std.specs.List.{AllByRecursion, AllZip}
use Rattle.log_schemes.specs.Layout.{log_of}
use Rattle.log_schemes.specs.declared.keeping.Keeping.{Keeping}
use Rattle.c_tree.specs.Exprs as e
use Rattle.c_tree.specs.links.KnownNames.{names_of}
use Rattle.rv64_isa.specs.declared.instr.Instr.{Instr}
use Rattle.c_tree.specs.LockNames.{Held, held_names}
use Rattle.operator_code.specs.StraightLineCode.{IsConstant}
use Rattle.expr_code.specs.EvaluationCode.{homes_of}
use Rattle.boundary_code.specs.Boundaries.{lists_of}
use Rattle.boundary_code.proofs.Public.{log_low}
use Rattle.thread_code.specs.Plans.{held_names_before}
use Rattle.rv64_codegen.specs.links.Numbers.{AreCodesAs, IsNumberCode, IsReady}
use Rattle.rv64_codegen.specs.links.Threads.{plan_in, thread_of}
use Rattle.rv64_codegen.proofs.PlannedNodes.{held_there, held_sets, thread_below}
use Rattle.rv64_codegen.proofs.NodePieces.{label_at}
use Rattle.rv64_codegen.proofs.thread.ThreadPlan.listed.Goals as goal

pub overflow_cast-step : goal.overflow_cast-step
overflow_cast-step c = omega (arith, label_at c.args.self.now c.args.node c.requires.own)

pub before-held-requires-clause-thread : goal.before-held-requires-clause-thread
before-held-requires-clause-thread c =
    let x = c.args.self.now in
    let o = c.requires.own.open_is in
    held_there (plan_in x) o.plan (thread_of x) o.thread

pub before-held-requires-clause-step : goal.before-held-requires-clause-step
before-held-requires-clause-step c =
    let x = c.args.self.now in
    let o = c.requires.own.open_is in
    omega (arith, held_sets (plan_in x) o.plan (thread_of x) o.thread c.args.node c.requires.own.own)

pub held_numbers-requires : goal.held_numbers-requires
held_numbers-requires c =
    let x = c.args.self.now in
    let o = c.requires.own.open_is in
    subst (λ (ns : List e.LockName). AllByRecursion (IsReady (homes_of x.frame)) ns) (sym o.names) o.ready

pub returns : goal.returns
returns c =
    let x = c.args.self.now in
    let o = c.requires.own.open_is in
    let p = plan_in x in
    let t = thread_of x in
    let log : List Instr = c.deref.result.now in
    let constant : IsConstant 31 (log_of p.log x.number) c.in_ok-log.log.items =
    subst (λ (n : ℕ). IsConstant 31 n c.in_ok-log.log.items) c.log_of.ensures c.in_ok-log.ensures.code in
    let is_log : IsConstant 31 (log_of p.log x.number) log =
    subst (λ (is : List Instr). IsConstant 31 (log_of p.log x.number) is) (sym c.deref.ensures.value) constant in
    let low : log_of p.log x.number < 2 ^ 31 = log_low p.log x.number (thread_below p o.plan t o.thread) in
    let short : length log ≤ 2 =
    subst (λ (is : List Instr). length is ≤ 2) (sym c.deref.ensures.value)
    (c.in_ok-log.ensures.two (subst (λ (n : ℕ). n < 2 ^ 31) (sym c.log_of.ensures) low)) in
    let codes : List (List Instr) = lists_of c.in_ok-codes.codes.items in
    let names : held_names (names_of x.names.now) c.before-held.result.now ≡ held_names_before p t c.args.node =
    ap₂ (λ (ns : List e.LockName) (set : Held). held_names ns set) o.names c.before-held.ensures.is in
    let are : AllZip (IsNumberCode (homes_of x.frame) log) (held_names_before p t c.args.node) codes =
    subst (λ (ns : List e.LockName). AllZip (IsNumberCode (homes_of x.frame) log) ns codes) names c.in_ok-codes.ensures in
    subst (λ (k : Keeping). AreCodesAs k p.log (homes_of x.frame) x.number (held_names_before p t c.args.node) codes) (sym c.requires.keeping)
    (log, is_log, short, are)

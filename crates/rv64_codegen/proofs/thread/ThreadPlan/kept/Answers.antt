use Rattle.std.proofs.Common.{◌≤◌, ℕ, List, [], length, refl, subst, sym}
use Rattle.std.specs.List.{AllByRecursion}
use Rattle.rv64_isa.specs.declared.instr.Instr.{Instr}
use Rattle.boundary_code.specs.Boundaries.{lists_of, words_beside}
use Rattle.expr_code.specs.EvaluationCode.{Homes}
use Rattle.node_code.specs.BoundaryCode.{IsQuiet}
use Rattle.node_code.specs.Numbers.{LeaveLocks}
use Rattle.thread_code.specs.Plans.{Plan, Thread, held_names_before, homes, locks_before}
use Rattle.rv64_codegen.specs.ThreadPieces.{boundary_words}
use Rattle.rv64_codegen.specs.links.Numbers.{AreNumberCodes}
use Rattle.rv64_codegen.specs.links.Threads.{plan_in, thread_of}
use Rattle.rv64_codegen.proofs.HeldCodes.{few_codes, few_words, leave_them, quiet_codes}
use Rattle.rv64_codegen.proofs.thread.ThreadPlan.kept.Goals as goal

pub returns : goal.returns
returns c =
    let x = c.args.self.now in
    let own = c.requires.own in
    let o = own.open_is in
    let p : Plan = plan_in x in
    let t : Thread = thread_of x in
    let node : ℕ = c.args.node in
    let codes : List (List Instr) = lists_of c.args.numbers.now in
    let are : AreNumberCodes p.log (homes p t) x.number (held_names_before p t node) codes =
    subst (λ (h : Homes). AreNumberCodes p.log h x.number (held_names_before p t node) codes) o.homes c.requires.numbers in
    let same = sym c.locks.ensures.codes_are in
    record {
      log_is = refl;
      thread_is = refl;
      live_is = refl;
      written_is = refl;
      keeping = c.locks.ensures.keeping;
      locks_are = c.locks.ensures.held;
      leave = λ locals around registers may.
          subst (λ (cs : List (List Instr)). LeaveLocks p.log x.number (locks_before p t locals node) cs around registers) same
          (leave_them p t o.plan o.thread o.formed node own.own codes are locals around registers may);
      few = subst (λ (cs : List (List Instr)). words_beside p.log cs ≤ boundary_words p.log (held_names_before p t node)) same
          (few_words p t o.plan o.thread o.formed node own.own codes are);
      room = subst (λ (cs : List (List Instr)). length cs ≤ 16) same
          (few_codes p t o.plan o.thread o.formed node own.own codes are (o.plan.room t [] node));
      quiet = subst (λ (cs : List (List Instr)). AllByRecursion IsQuiet cs) same (quiet_codes p t o.plan o.thread o.formed node own.own codes are);
    }

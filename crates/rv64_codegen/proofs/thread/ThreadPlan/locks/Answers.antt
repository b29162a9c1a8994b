use Rattle.std.proofs.Common.{◌≡◌, ◌∙◌, ℕ, List, ap, refl, subst, sym}
use Rattle.ido_base.specs.Locks.{locks_in}
use Rattle.log_schemes.specs.declared.keeping.Keeping.TheVariants.{Listed, Masked}
use Rattle.log_schemes.specs.Schemes.{keeping_of}
use Rattle.rv64_isa.specs.declared.instr.Instr.{Instr}
use Rattle.boundary_code.specs.Boundaries.{lists_of}
use Rattle.node_code.proofs.Public.{lists_long}
use Rattle.expr_code.specs.EvaluationCode.{Homes}
use Rattle.thread_code.specs.Plans.{Plan, Thread, held_names_before, homes, set_before}
use Rattle.thread_code.proofs.Public.{mask_has_held}
use Rattle.rv64_codegen.specs.links.Numbers.{AreNumberCodes}
use Rattle.rv64_codegen.specs.links.Threads.{IsOwn, AreNumbersOf, plan_in, thread_of}
use Rattle.rv64_codegen.specs.declared.thread.ThreadPlan as opened
use Rattle.rv64_codegen.proofs.HeldCodes.{listed_many, masked_none}
use Rattle.rv64_codegen.proofs.PlannedNodes.{few_held, numbers_plain}
use Rattle.rv64_codegen.proofs.thread.ThreadPlan.locks.Goals as goal

-- with the homes by which the thread is planned
planned : (x : opened.ThreadPlan) (node : ℕ) (own : IsOwn x node) (codes : List (List Instr)) → AreNumbersOf x node codes →
    AreNumberCodes (plan_in x).log (homes (plan_in x) (thread_of x)) x.number (held_names_before (plan_in x) (thread_of x) node) codes
planned x node own codes are =
    subst (λ (h : Homes). AreNumberCodes (plan_in x).log h x.number (held_names_before (plan_in x) (thread_of x) node) codes) own.open_is.homes are

pub mask-requires-clause-keeping : goal.mask-requires-clause-keeping
mask-requires-clause-keeping c = sym c.keeping.ensures ∙ c.in-Masked.is

pub returns-in-Masked : goal.returns-in-Masked
returns-in-Masked c =
    let x = c.args.self.now in
    let own = c.requires.own in
    let o = own.open_is in
    let p : Plan = plan_in x in
    let t : Thread = thread_of x in
    let node : ℕ = c.args.node in
    let codes : List (List Instr) = lists_of c.args.numbers.now in
    let masks : keeping_of p.log ≡ Masked = sym c.keeping.ensures ∙ c.in-Masked.is in
    record {
      keeping = masks;
      held = λ locals. sym (ap locks_in c.mask.ensures ∙ mask_has_held (set_before p t node) (few_held p o.plan t o.thread masks node own.own)
          ∙ numbers_plain p o.plan t o.thread masks locals node own.own);
      codes_are = sym (masked_none p t o.plan o.thread o.formed node own.own codes masks (planned x node own codes c.requires.numbers));
    }

pub returns-in-Listed : goal.returns-in-Listed
returns-in-Listed c =
    let x = c.args.self.now in
    let own = c.requires.own in
    let o = own.open_is in
    let codes : List (List Instr) = lists_of c.args.numbers.now in
    let lists : keeping_of (plan_in x).log ≡ Listed = sym c.keeping.ensures ∙ c.in-Listed.is in
    record {
      keeping = lists;
      held = λ locals. listed_many (plan_in x) (thread_of x) o.plan o.thread o.formed c.args.node own.own codes lists
          (planned x c.args.node own codes c.requires.numbers) locals ∙ lists_long c.args.numbers.now;
      codes_are = refl;
    }

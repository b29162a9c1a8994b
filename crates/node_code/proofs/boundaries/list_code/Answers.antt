use Rattle.std.proofs.Common.{◌≡◌, ◌≤◌, ◌+◌, List, ap, arith, length, subst, sym}
use Rattle.std.specs.Prelude.{ℤ}
use Rattle.std.specs.List.{AllByRecursion}
use Rattle.log_schemes.specs.declared.keeping.Keeping.{Keeping}
use Rattle.log_schemes.specs.declared.keeping.Keeping.TheVariants.{Listed}
use Rattle.log_schemes.specs.Schemes.{keeping_of}
use Rattle.rv64_isa.specs.declared.instr.Instr.{Instr}
use Rattle.boundary_code.specs.Boundaries.{IsBoundaryCode, fixed_words, lists_of, number_words, words_beside, words_for}
use Rattle.node_code.specs.BoundaryCode.{IsQuiet}
use Rattle.node_code.specs.declared.kept.KeptLocks.{KeptLocks}
use Rattle.node_code.specs.Pieces.{MayKeep, boundary_of, codes_of, keeping_for}
use Rattle.node_code.specs.links.BoundaryCode.{IsCodeOf}
use Rattle.node_code.proofs.CodeLists.{lists_long, same_number}
use Rattle.node_code.proofs.boundaries.list_code.Goals as goal

pub returns : goal.returns
returns c = λ locks may.
    let k = c.args.kept.now in
    let codes : List (List Instr) = lists_of c.args.numbers.now in
    let lists : keeping_of k.log ≡ Listed = subst (λ (kept : KeptLocks). keeping_of k.log ≡ keeping_for kept) c.requires.locks c.requires.keeping in
    let many : length locks ≡ length c.args.numbers.now = subst (λ (kept : KeptLocks). MayKeep kept locks) c.requires.locks may in
    let words : fixed_words k.log + number_words codes ≡ words_beside k.log codes =
    ap (λ (keeping : Keeping). fixed_words k.log + words_for keeping codes) (sym lists) in
    let short = c.in_ok-code.ensures.short in
    subst (λ (kept : KeptLocks). IsCodeOf (boundary_of k locks c.args.resume) (codes_of kept) c.in_ok-code.code.items) (sym c.requires.locks)
    (record {
      short = omega (arith, short, words);
      is = subst (λ (z : ℤ). IsBoundaryCode (record {
        log = k.log;
        thread = k.thread;
        locks = locks;
        live = k.live.now;
        resume = z;
        written = k.written.bytes;
        opens = k.written.opens;
      }) codes c.in_ok-code.code.items) (same_number _ c.args.resume c.distance.ensures c.requires.near) (c.in_ok-code.ensures.code locks many);
      quiet = subst (λ (kept : KeptLocks). AllByRecursion IsQuiet (codes_of kept)) c.requires.locks c.requires.quiet;
    })

pub boundary_list-requires-clause-keeping : goal.boundary_list-requires-clause-keeping
boundary_list-requires-clause-keeping c =
    subst (λ (kept : KeptLocks). keeping_of c.args.kept.now.log ≡ keeping_for kept) c.requires.locks c.requires.keeping

pub boundary_list-requires-clause-locks : goal.boundary_list-requires-clause-locks
boundary_list-requires-clause-locks c =
    let long = lists_long c.args.numbers.now in
    let few = subst (λ (kept : KeptLocks). length (codes_of kept) ≤ 16) c.requires.locks c.requires.room in
    omega (arith, long, few)

use Rattle.std.proofs.Common.{◌≡◌, ◌+◌, List, ℕ, [], ap, arith, subst, sym}
use Rattle.std.specs.Prelude.{ℤ, pos}
use Rattle.ido_base.specs.Locks.{locks_in}
use Rattle.log_schemes.specs.declared.keeping.Keeping.{Keeping}
use Rattle.log_schemes.specs.declared.keeping.Keeping.TheVariants.{Masked}
use Rattle.log_schemes.specs.Schemes.{keeping_of}
use Rattle.boundary_code.specs.Boundaries.{IsBoundaryCode, fixed_words, words_beside, words_for}
use Rattle.node_code.specs.declared.kept.KeptLocks.{KeptLocks}
use Rattle.node_code.specs.Pieces.{MayKeep, boundary_of, codes_of, keeping_for}
use Rattle.node_code.specs.links.BoundaryCode.{IsCodeOf}
use Rattle.node_code.proofs.CodeLists.{same_number}
use Rattle.node_code.proofs.boundaries.mask_code.Goals as goal

pub returns : goal.returns
returns c = λ locks may.
    let k = c.args.kept.now in
    let mask : ℕ = c.args.mask in
    let masks : keeping_of k.log ≡ Masked = subst (λ (kept : KeptLocks). keeping_of k.log ≡ keeping_for kept) c.requires.locks c.requires.keeping in
    let are : locks ≡ locks_in mask = subst (λ (kept : KeptLocks). MayKeep kept locks) c.requires.locks may in
    let words : fixed_words k.log + 0 ≡ words_beside k.log [] = ap (λ (keeping : Keeping). fixed_words k.log + words_for keeping []) (sym masks) in
    let short = c.in_ok-code.ensures.short in
    subst (λ (kept : KeptLocks). IsCodeOf (boundary_of k locks c.args.resume) (codes_of kept) c.in_ok-code.code.items) (sym c.requires.locks)
    (subst (λ (ls : List ℕ). IsCodeOf (record {
      log = k.log;
      thread = k.thread;
      locks = ls;
      live = k.live.now;
      resume = pos c.args.resume;
      written = k.written.bytes;
      opens = k.written.opens;
    }) [] c.in_ok-code.code.items) (sym are)
    (record {
      short = omega (arith, short, words);
      is = subst (λ (z : ℤ). IsBoundaryCode (record {
        log = k.log;
        thread = k.thread;
        locks = locks_in mask;
        live = k.live.now;
        resume = z;
        written = k.written.bytes;
        opens = k.written.opens;
      }) [] c.in_ok-code.code.items) (same_number _ c.args.resume c.distance.ensures c.requires.near) c.in_ok-code.ensures.code;
      quiet = tt;
    }))

pub boundary-requires-clause-keeping : goal.boundary-requires-clause-keeping
boundary-requires-clause-keeping c =
    subst (λ (kept : KeptLocks). keeping_of c.args.kept.now.log ≡ keeping_for kept) c.requires.locks c.requires.keeping

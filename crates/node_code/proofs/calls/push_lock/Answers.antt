use Rattle.std.proofs.Common.{List, refl, subst, sym}
use Rattle.std.proofs.lemmas.Result.{on_ok_weaker}
use Rattle.rv64_isa.specs.declared.instr.Instr.{Instr}
use Rattle.node_code.specs.Pieces.{boundary_of, codes_of}
use Rattle.node_code.specs.links.BoundaryCode.{IsCodeFor}
use Rattle.node_code.proofs.CallPieces.{is_lock}
use Rattle.node_code.proofs.calls.push_lock.Goals as goal

pub returns : goal.returns
returns c =
    let k = c.args.kept.now in
    let is : IsCodeFor k 0 c.deref.result.now = subst (λ (is : List Instr). IsCodeFor k 0 is) (sym c.deref.ensures.value) c.in_ok-boundary.ensures in
    on_ok_weaker c.append_lock.result (λ e. record {
      piece = _;
      appended = e;
      is = λ locks lock may.
          is_lock (boundary_of k locks 0) (codes_of k.locks) c.args.numbering.now c.deref.result.now lock c.requires.some c.requires.quiet_number refl
          (is locks may);
    }) c.append_lock.ensures

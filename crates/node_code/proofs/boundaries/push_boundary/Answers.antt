use Rattle.std.proofs.Common.{List, refl, subst, sym}
use Rattle.std.proofs.lemmas.Result.{on_ok_weaker}
use Rattle.rv64_isa.specs.declared.instr.Instr.{Instr}
use Rattle.node_code.specs.Pieces.{boundary_of, codes_of}
use Rattle.node_code.specs.links.BoundaryCode.{IsCodeFor}
use Rattle.node_code.proofs.BoundaryLegs.{is_boundary}
use Rattle.node_code.proofs.boundaries.push_boundary.Goals as goal

pub returns : goal.returns
returns c =
    let k = c.args.kept.now in
    let is : IsCodeFor k 0 c.deref.result.now = subst (λ (is : List Instr). IsCodeFor k 0 is) (sym c.deref.ensures.value) c.in_ok-code.ensures in
    on_ok_weaker c.append_boundary.result (λ e. record {
      piece = _;
      appended = e;
      is = λ locks may. is_boundary (boundary_of k locks 0) (codes_of k.locks) c.deref.result.now refl (is locks may);
    }) c.append_boundary.ensures

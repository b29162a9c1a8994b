use Rattle.std.proofs.Common.{◌≤◌, ◌+◌, ℕ, Bool, List, length, refl, subst, sym}
use Rattle.std.proofs.lemmas.Result.{on_ok_weaker}
use Rattle.rv64_isa.specs.declared.instr.Instr.{Instr}
use Rattle.node_code.specs.Numbers.{AsksNumber}
use Rattle.node_code.specs.Pieces.{IsUnlockPiece, KeepsFrom, boundary_of, codes_of, giving_bytes, kept_words}
use Rattle.node_code.specs.links.BoundaryCode.{IsCodeFor}
use Rattle.node_code.specs.links.ItemLists.{unlock_items}
use Rattle.node_code.proofs.CallPieces.{is_unlock}
use Rattle.node_code.proofs.calls.push_unlock.Goals as goal

pub returns : goal.returns
returns c =
    let k = c.args.kept.now in
    let numbering : List Instr = c.args.numbering.now in
    let bytes : ℕ = giving_bytes numbering in
    let made : IsCodeFor k c.giving_bytes-bytes.result c.deref.result.now =
    subst (λ (is : List Instr). IsCodeFor k c.giving_bytes-bytes.result is) (sym c.deref.ensures.value) c.in_ok-boundary.ensures in
    let is : IsCodeFor k bytes c.deref.result.now = subst (λ (n : ℕ). IsCodeFor k n c.deref.result.now) c.giving_bytes-bytes.ensures made in
    on_ok_weaker c.append_unlock.result (λ e. record {
      piece = unlock_items numbering c.is_none.result c.deref.result.now;
      appended = e;
      is = λ locks lock may.
          subst (λ (last : Bool).
          IsUnlockPiece (boundary_of k locks bytes) (λ around x. AsksNumber around x lock numbering) (KeepsFrom k locks) (kept_words k + length numbering) lock
          (unlock_items numbering last c.deref.result.now))
          (sym (c.is_none.ensures locks may))
          (is_unlock (boundary_of k locks bytes) (codes_of k.locks) numbering c.deref.result.now lock c.requires.some c.requires.quiet_number refl
          (is locks may));
    }) c.append_unlock.ensures

pub boundary_code-requires-clause-near : goal.boundary_code-requires-clause-near
boundary_code-requires-clause-near c = subst (λ (n : ℕ). n ≤ 262144) (sym c.giving_bytes-bytes.ensures) c.requires.short

-- Code of a boundary is a run, straight or in parts, and its items are a piece.
use Rattle.std.proofs.Common.{◌≡◌, ℕ, ◌+◌, ◌^◌, ◌<◌, ◌≤◌, List, [], ◌∷◌, ◌++◌, length, map, ap, sym, ◌∙◌, arith, subst, Bool, false}
use Rattle.std.specs.Prelude.{sum_by, pos}
use Rattle.rv64_isa.specs.declared.instr.Instr.{Instr}
use Rattle.rv64_isa.specs.declared.object.CodeItem.{CodeItem}
use Rattle.rv64_isa.specs.declared.object.CodeItem.TheVariants.{ResumeNext}
use Rattle.rv64_link.specs.LabelledCode.{most_words_of}
use Rattle.boundary_code.specs.Boundaries.{Boundary, IsOnSide, words_beside}
use Rattle.boundary_code.specs.links.BoundaryParts.{DoesBoundary, in_parts, resume_address, undivided}
use Rattle.boundary_code.proofs.Public.{code_does}
use Rattle.code_runs.specs.CodeTraces.{GoesThrough}
use Rattle.node_code.specs.Numbers.{LeaveLocks}
use Rattle.node_code.specs.Pieces.{LeavesRegisters, boundary_observations, IsBoundaryPiece, words_in}
use Rattle.node_code.specs.Sites.{Linking, IsPart, mark_waits, begin_of, end_of}
use Rattle.node_code.specs.links.BoundaryCode.{IsCodeOf}
use Rattle.node_code.specs.links.ItemLists.{plain, boundary_items}
use Rattle.node_code.proofs.Fences.{boundary_items_fences}
use Rattle.node_code.proofs.PieceCleans.{boundary_cleans}
use Rattle.node_code.proofs.ItemAddresses.{part_left, waits_left}
use Rattle.node_code.proofs.Words.{exact_words}
use Rattle.node_code.proofs.LinkedPartRuns.{waiting, has_room}
use Rattle.node_code.proofs.LegComposition.{fragment, more_room}
use Rattle.node_code.proofs.BoundaryPieces.{boundary_leg, resumed_at, resume_stays, boundary_marks, boundary_resumes, boundary_words, boundary_exact}
use Rattle.node_code.proofs.BoundaryPieces.{boundary_waits_on, boundary_labels}
use Rattle.node_code.proofs.DividedBoundaries.{parts_leg}

module _ (all : List CodeItem) (n : Linking all) where
  abbrev at : ℕ → ℕ
  at = n.linked.address_of

  -- from registers with which the codes leave the locks' numbers the code of the boundary is run, after the mark that waits for it
  does_leg : (k : ℕ) (b : Boundary) (codes : List (List Instr)) (code : List Instr) (p : IsPart all k (plain code)) (x : List ℕ) (side to : ℕ) (w : Bool) →
      mark_waits false p.before ≡ w → DoesBoundary b codes code → LeaveLocks b.log b.thread b.locks codes n.environment.around x → IsOnSide b.log side x →
      resume_address b code (at k) ≡ to →
      GoesThrough n.environment (fragment x (at k) (at (k + length (plain code))) (length code)) (waiting w ++ boundary_observations b side to x)
      (LeavesRegisters b side x)
  does_leg k b codes code p x side to w waits (undivided h) leave on e = boundary_leg all n k b code p x side to w waits h on e
  does_leg k b codes code p x side to w waits (in_parts h) leave on e = parts_leg b x all n codes code h leave k p side to w waits on e

  pub code_leg : (k : ℕ) (b : Boundary) (codes : List (List Instr)) (code : List Instr) (p : IsPart all k (plain code)) (x : List ℕ) (side to : ℕ) (w : Bool) →
      mark_waits false p.before ≡ w → IsCodeOf b codes code → LeaveLocks b.log b.thread b.locks codes n.environment.around x → IsOnSide b.log side x →
      resume_address b code (at k) ≡ to →
      GoesThrough n.environment (fragment x (at k) (at (k + length (plain code))) (length code)) (waiting w ++ boundary_observations b side to x)
      (LeavesRegisters b side x)
  code_leg k b codes code p x side to w waits h leave on e = does_leg k b codes code p x side to w waits (code_does b codes code h.is) leave on e

  pub boundary_items_leg : (k : ℕ) (b : Boundary) (codes : List (List Instr)) (code : List Instr) (p : IsPart all k (boundary_items code)) (x : List ℕ)
      (side : ℕ) → mark_waits false p.before ≡ false → IsCodeOf b codes code → b.resume ≡ pos 0 →
      LeaveLocks b.log b.thread b.locks codes n.environment.around x → IsOnSide b.log side x →
      GoesThrough n.environment (fragment x (at k) (at (k + length (boundary_items code))) (length code))
      (boundary_observations b side (at (k + length (boundary_items code))) x)
      (LeavesRegisters b side x)
  boundary_items_leg k b codes code p x side closed h e leave a =
      let q : IsPart all k (plain code) = part_left all k (plain code) (ResumeNext ∷ []) p in
      let stays : at (k + length (boundary_items code)) ≡ at (k + length (plain code)) = resume_stays all n k code p in
      let low : at (k + length (plain code)) < 2 ^ 64 = has_room all n k (plain code) q in
      let resume : resume_address b code (at k) ≡ at (k + length (boundary_items code)) =
      resumed_at all n k b 0 code q e (omega arith) ∙ omega arith in
      let leg : GoesThrough n.environment (fragment x (at k) (at (k + length (plain code))) (length code))
      (boundary_observations b side (at (k + length (boundary_items code))) x) (LeavesRegisters b side x) =
      code_leg k b codes code q x side (at (k + length (boundary_items code))) false (waits_left all k (plain code) (ResumeNext ∷ []) p ∙ closed) h leave a
      resume in
      subst (λ (m : ℕ). GoesThrough n.environment (fragment x (at k) m (length code)) (boundary_observations b side (at (k + length (boundary_items code))) x)
      (LeavesRegisters b side x))
      (sym stays) leg

pub is_boundary : (b : Boundary) (codes : List (List Instr)) (code : List Instr) → b.resume ≡ pos 0 → IsCodeOf b codes code →
    IsBoundaryPiece b (LeaveLocks b.log b.thread b.locks codes) (words_beside b.log codes) (boundary_items code)
is_boundary b codes code e h = record {
  closed = record { waits = boundary_waits_on code; labels = λ label. boundary_labels label code };
  few =
      let z : sum_by most_words_of (boundary_items code) ≡ length code = boundary_words code in
      let l : length code ≤ length b.live + words_beside b.log codes = h.short in
      omega arith;
  fences = boundary_items_fences b codes code h;
  cleans = boundary_cleans b codes code h;
  at = λ at. record {
    keeps = λ x side leave a.
        more_room at.linking.environment x (begin_of (boundary_items code) at) (end_of (boundary_items code) at) (length code)
        (words_in (boundary_items code) at)
        (boundary_observations b side (end_of (boundary_items code) at) x) (LeavesRegisters b side x)
        (let z : words_in (boundary_items code) at ≡ length code = exact_words (boundary_items code) at (boundary_exact code) ∙ boundary_words code in
        omega (arith, z))
        (boundary_items_leg at.items at.linking at.position b codes code at.is_part x side at.closed h e leave a);
    marks = ap (λ (ns : List ℕ). map at.linking.linked.address_of ns) (boundary_marks at.items at.linking at.position code);
    resumes =
        ap (λ (ns : List ℕ). map at.linking.linked.address_of ns) (boundary_resumes at.items at.linking at.position code) ∙
        ap (λ (m : ℕ). m ∷ []) (sym (resume_stays at.items at.linking at.position code at.is_part));
  };
}

-- What stands before the core of a node: the boundary, and before it what a logged assignment computes.
use Rattle.std.proofs.Common.{◌≡◌, ℕ, ◌+◌, ◌*◌, ◌≤◌, List, [], ◌∷◌, ◌++◌, append_assoc, length, map, refl, ap, arith, sym, ◌∙◌, subst, Bool, false}
use Rattle.std.specs.Prelude.{sum_by}
use Rattle.std.proofs.lemmas.List.{length-append}
use Rattle.std.proofs.lemmas.List.Sums.{sum_by-append}
use Rattle.rv64_isa.specs.declared.object.CodeItem.{CodeItem}
use Rattle.rv64_isa.specs.declared.object.CodeItem.TheVariants.{Instruction}
use Rattle.rv64_link.specs.LabelledCode.{most_words_of, fences_in, is_mark, is_resume, positions_from}
use Rattle.boundary_code.specs.Boundaries.{Boundary}
use Rattle.flow_graph.specs.Nodes.{Action}
use Rattle.code_runs.specs.CodeTraces.{MarkedEnvironment, Meets, Program}
use Rattle.node_code.specs.BoundaryCode.{CleansInBoundary}
use Rattle.node_code.specs.Cleans.{cleans_in}
use Rattle.node_code.specs.Sites.{IsPart, Site, mark_waits}
use Rattle.node_code.specs.Pieces.{IsClosed, words_in}
use Rattle.node_code.proofs.Public.{cleans_append, fences_append, map_append, part_left, part_right, positions_append, waits_left, waits_right, words_are}
use Rattle.thread_code.specs.Plans.{Plan, Thread}
use Rattle.rv64_codegen.specs.ThreadPieces.{Choices, IsComputedBefore, IsGuard, boundary_before, computed, nothing}
use Rattle.rv64_codegen.proofs.PieceParts.{computing_closed}
use Rattle.rv64_codegen.proofs.PieceSites.{IsLinkedIn, Spot, bare, bare_meets, spot_site}

module _ (p : Plan) (t : Thread) (c : Choices) (node : ℕ) (a : Action) where
  computing_fences : (piece : List CodeItem) → IsComputedBefore p t c node a piece → fences_in piece ≡ 0
  computing_fences piece (nothing none empty) = ap fences_in empty
  computing_fences piece (computed logged place local kind value next same prep) = prep.fences

  computing_cleans : (piece : List CodeItem) → IsComputedBefore p t c node a piece → cleans_in piece ≡ 0
  computing_cleans piece (nothing none empty) = ap cleans_in empty
  computing_cleans piece (computed logged place local kind value next same prep) = prep.cleans

  module _ (piece : List CodeItem) (g : IsGuard p t c node a piece) where
    pub guard_fences : fences_in piece ≡ 2
    guard_fences =
        let whole : fences_in piece ≡ fences_in (g.computing ++ g.keeping) = ap fences_in g.split in
        let sum = fences_append g.computing g.keeping in
        let first = computing_fences g.computing g.computes in
        let two = (g.keeps []).fences in
        omega (arith, whole, sum, first, two)

    pub guard_cleans : CleansInBoundary (boundary_before p t c a [] node) piece
    guard_cleans =
        let b = (g.keeps []).cleans in
        let none = computing_cleans g.computing g.computes in
        let first = b.none_before in
        record {
          before = g.computing ++ b.before;
          codes = b.codes;
          code = b.code;
          after = b.after;
          split = g.split ∙ ap (λ (xs : List CodeItem). g.computing ++ xs) b.split
              ∙ sym (append_assoc g.computing b.before (map Instruction b.code ++ b.after));
          is_code = b.is_code;
          quiet = b.quiet;
          none_before = omega (arith, none, first, cleans_append g.computing b.before);
          none_after = b.none_after;
        }

    module _ {program : Program} {items : List CodeItem} (n : IsLinkedIn program items) (spot : Spot items piece) where
      abbrev to : ℕ → ℕ
      to k = n.linked.address_of k

      -- where the boundary begins
      abbrev pub keeps_at : ℕ
      keeps_at = spot.position + length g.computing

      abbrev parted : IsPart items spot.position (g.computing ++ g.keeping)
      parted = record {
        before = spot.is_part.before;
        after = spot.is_part.after;
        split = spot.is_part.split ∙ ap (λ (own : List CodeItem). spot.is_part.before ++ (own ++ spot.is_part.after)) g.split;
        at = spot.is_part.at;
      }

      abbrev pub computing_spot : Spot items g.computing
      computing_spot = record {
        position = spot.position;
        is_part = part_left items spot.position g.computing g.keeping parted;
        closed = waits_left items spot.position g.computing g.keeping parted ∙ spot.closed;
      }

      abbrev pub keeping_spot : Spot items g.keeping
      keeping_spot = record {
        position = keeps_at;
        is_part = part_right items spot.position g.computing g.keeping parted;
        closed = waits_right items spot.position g.computing g.keeping parted
            ∙ (ap (λ (w : Bool). mark_waits w g.computing) spot.closed ∙ (computing_closed p t c node a g.computing g.computes).waits);
      }

      abbrev computing_bare : Site g.computing
      computing_bare = spot_site n g.computing computing_spot (bare program) (bare_meets program)

      abbrev keeping_bare : Site g.keeping
      keeping_bare = spot_site n g.keeping keeping_spot (bare program) (bare_meets program)

      pub keeping_ends : to (keeps_at + length g.keeping) ≡ to (spot.position + length piece)
      keeping_ends =
          let whole : length piece ≡ length (g.computing ++ g.keeping) = ap (λ (xs : List CodeItem). length xs) g.split in
          let sum = length-append g.computing g.keeping in
          let same : keeps_at + length g.keeping ≡ spot.position + length piece = omega (arith, whole, sum) in
          ap to same

      -- the words of both are those of the whole
      pub guard_words : words_in g.computing computing_bare + words_in g.keeping keeping_bare
          ≡ words_in piece (spot_site n piece spot (bare program) (bare_meets program))
      guard_words =
          let a1 : to keeps_at ≡ to spot.position + 4 * words_in g.computing computing_bare = words_are g.computing computing_bare in
          let a2 : to (keeps_at + length g.keeping) ≡ to keeps_at + 4 * words_in g.keeping keeping_bare = words_are g.keeping keeping_bare in
          let a3 : to (spot.position + length piece) ≡ to spot.position + 4 * words_in piece (spot_site n piece spot (bare program) (bare_meets program)) =
          words_are piece (spot_site n piece spot (bare program) (bare_meets program)) in
          omega (arith, a1, a2, a3, keeping_ends)

      abbrev positions : (CodeItem → Bool) → ℕ → List CodeItem → List ℕ
      positions test k part = map to (positions_from k test part)

      both_positions : (test : CodeItem → Bool) → positions test spot.position piece ≡ positions test spot.position g.computing ++ positions test keeps_at
          g.keeping
      both_positions test =
          ap (λ (xs : List CodeItem). positions test spot.position xs) g.split
          ∙ (ap (λ (ns : List ℕ). map to ns) (positions_append spot.position test g.computing g.keeping)
          ∙ map_append to (positions_from spot.position test g.computing) (positions_from keeps_at test g.keeping))

      computing_marks : IsComputedBefore p t c node a g.computing → positions is_mark spot.position g.computing ≡ []
      computing_marks (nothing none empty) = ap (λ (xs : List CodeItem). positions is_mark spot.position xs) empty
      computing_marks (computed logged place local kind value next same prep) = (prep.at computing_bare).marks

      computing_resumes : IsComputedBefore p t c node a g.computing → positions is_resume spot.position g.computing ≡ []
      computing_resumes (nothing none empty) = ap (λ (xs : List CodeItem). positions is_resume spot.position xs) empty
      computing_resumes (computed logged place local kind value next same prep) = (prep.at computing_bare).resumes

      -- it has no mark, and the thread may be resumed at its end
      pub guard_marks : positions is_mark spot.position piece ≡ []
      guard_marks =
          both_positions is_mark
          ∙ (ap (λ (ns : List ℕ). ns ++ positions is_mark keeps_at g.keeping) (computing_marks g.computes) ∙ ((g.keeps []).at keeping_bare).marks)

      pub guard_resumes : positions is_resume spot.position piece ≡ to (spot.position + length piece) ∷ []
      guard_resumes =
          both_positions is_resume
          ∙ (ap (λ (ns : List ℕ). ns ++ positions is_resume keeps_at g.keeping) (computing_resumes g.computes)
          ∙ (((g.keeps []).at keeping_bare).resumes ∙ ap (λ (m : ℕ). m ∷ []) keeping_ends))

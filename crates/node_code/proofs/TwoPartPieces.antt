-- A piece of two.
use Rattle.std.proofs.Common.{◌≡◌, ℕ, ◌+◌, List, ◌++◌, length, map, refl, ap, ◌∙◌, arith, Bool, false}
use Rattle.std.proofs.lemmas.List.{length-append}
use Rattle.rv64_isa.specs.declared.object.CodeItem.{CodeItem}
use Rattle.rv64_link.specs.LabelledCode.{is_mark, is_resume, positions_from}
use Rattle.node_code.specs.Sites.{Site, mark_waits}
use Rattle.node_code.specs.Pieces.{IsClosed}
use Rattle.node_code.specs.JoinedPieces.{Halves}
use Rattle.node_code.proofs.ItemAddresses.{part_left, part_right, waits_left, waits_right, waits_append, labels_append, positions_append, map_append}

pub pieces_close : (a b : List CodeItem) → IsClosed a → IsClosed b → IsClosed (a ++ b)
pieces_close a b f g = record {
  waits = waits_append false a b ∙ ap (λ (w : Bool). mark_waits w b) f.waits ∙ g.waits;
  labels = λ label. labels_append label a b (f.labels label) (g.labels label);
}

pub halves_stand : (a b : List CodeItem) → IsClosed a → (at : Site (a ++ b)) → Halves a b at
halves_stand a b closed at =
    let to : ℕ → ℕ = at.linking.linked.address_of in
    record {
      left = record {
        items = at.items;
        position = at.position;
        linking = at.linking;
        is_part = part_left at.items at.position a b at.is_part;
        closed = waits_left at.items at.position a b at.is_part ∙ at.closed;
      };
      right = record {
        items = at.items;
        position = at.position + length a;
        linking = at.linking;
        is_part = part_right at.items at.position a b at.is_part;
        closed = waits_right at.items at.position a b at.is_part ∙ ap (λ (w : Bool). mark_waits w a) at.closed ∙ closed.waits;
      };
      left_program = refl;
      right_program = refl;
      left_environment = refl;
      right_environment = refl;
      begin = refl;
      between = refl;
      end = let e : at.position + length a + length b ≡ at.position + length (a ++ b) = omega (arith, length-append a b) in ap to e;
      left_labels = λ label. refl;
      right_labels = λ label. refl;
      marks =
          ap (λ (ns : List ℕ). map at.linking.linked.address_of ns) (positions_append at.position is_mark a b) ∙
          map_append at.linking.linked.address_of (positions_from at.position is_mark a) (positions_from (at.position + length a) is_mark b);
      resumes =
          ap (λ (ns : List ℕ). map at.linking.linked.address_of ns) (positions_append at.position is_resume a b) ∙
          map_append at.linking.linked.address_of (positions_from at.position is_resume a) (positions_from (at.position + length a) is_resume b);
    }

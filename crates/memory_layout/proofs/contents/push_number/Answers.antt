use Rattle.std.proofs.Common.{◌≡◌, ◌++◌, ◌∙◌, ap, List, ℕ, ℤ, take}
use Rattle.std.specs.Int.{w128, to_le_bytes, cast_unsigned}
use Rattle.std.proofs.lemmas.Int.{to_z-of_z}
use Rattle.memory_layout.proofs.Filling.{low_bytes}
use Rattle.memory_layout.proofs.contents.push_number.Goals as goal

pub returns : goal.returns
returns c =
    let pushed = c.in_ok-extend_from_slice.ensures.items in
    let all : c.to_le_bytes-all.result ≡ to_le_bytes w128 (cast_unsigned w128 c.args.number) =
    c.to_le_bytes-all.ensures ∙ ap (λ (z : ℤ). to_le_bytes w128 (cast_unsigned w128 z)) (to_z-of_z w128 c.args.number c.ranges.number) in
    pushed ∙ ap (λ (bs : List ℕ). c.args.bytes.now.items ++ bs) (ap (take c.args.count) all ∙ low_bytes c.args.count c.args.number c.requires c.ranges.number)

-- A word more.
use Rattle.std.proofs.Common.{◌≡◌, ℕ, List, [], ◌∷◌, ◌++◌, map, ap, ◌∙◌}
use Rattle.std.proofs.lemmas.List.{map_push}
use Rattle.rv64_isa.specs.Formats.{IsInstruction, word_of}
use Rattle.rv64_isa.specs.Programs.{slot_of}
use Rattle.rv64_isa.specs.declared.instr.Instr.{Instr}
use Rattle.rv64_isa.specs.declared.object.Slot.TheVariants.{Row}
use Rattle.rv64_isa.proofs.Public.{slot_of-word_of}

pub one_more : (instr : Instr) (word : ℕ) (before after : List ℕ) → IsInstruction instr → word ≡ word_of instr → after ≡ before ++ word ∷ [] →
    map slot_of after ≡ map slot_of before ++ Row instr ∷ []
one_more instr word before after good is more =
    ap (map slot_of) more ∙ map_push slot_of before word ∙ ap (λ s. map slot_of before ++ s ∷ []) (ap slot_of is ∙ slot_of-word_of instr good)

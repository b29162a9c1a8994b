-- A word has an instruction exactly where an instruction has the word.
use Rattle.std.proofs.Common.{◌≡◌, ℕ, ◌^◌, ◌<◌, Option, Some, IfSome, refl, sym, ◌∙◌, ap, subst}
use Rattle.rv64_isa.specs.declared.instr.Instr.{Instr}
use Rattle.rv64_isa.specs.declared.object.Slot.TheVariants.{Row}
use Rattle.rv64_isa.specs.Programs.{slot_of}
use Rattle.rv64_isa.specs.Formats.{IsInstruction, word_of, decoded}
pub use Rattle.rv64_isa.proofs.EncodeThenDecode.{decoded-word_of}
pub use Rattle.rv64_isa.proofs.DecodeThenEncode.{decoded-found}

pub found_at : (w : ℕ) (r : Option Instr) → w < 2 ^ 32 → r ≡ decoded w → IfSome r (λ i. IsInstruction i × (word_of i ≡ w))
found_at w r h e =
    let P : Option Instr → Type 0 = λ r. IfSome r (λ i. IsInstruction i × (word_of i ≡ w)) in
    subst P (sym e) (decoded-found w h)

pub complete_at : (w : ℕ) (r : Option Instr) → r ≡ decoded w → (i : Instr) → IsInstruction i → word_of i ≡ w → r ≡ Some i
complete_at w r e i h k = e ∙ ap decoded (sym k) ∙ decoded-word_of i h

-- the slot of an instruction's word has the instruction
pub slot_of-word_of : (i : Instr) → IsInstruction i → slot_of (word_of i) ≡ Row i
slot_of-word_of i h = rw (decoded-word_of i h, slot_of) refl

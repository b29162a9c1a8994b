-- The one instruction of an operator, and the test of a comparison, by the kind in which they are computed.
use Rattle.std.specs.Prelude.{ℕ, Bool, true, false, ◌==◌, if◌then◌else◌, Option, Some, None}
use Rattle.ido_ints.specs.declared.kinds.Kind.{Kind}
use Rattle.ido_ints.specs.declared.kinds.Kind.TheVariants.{Char, UnsignedChar, SignedChar, Short, UnsignedShort, Int, UnsignedInt, Long, UnsignedLong}
use Rattle.ido_ints.specs.declared.operators.Binary.{Binary}
use Rattle.ido_ints.specs.declared.operators.Binary.TheVariants.{Mul, Div, Rem, Add, Sub, ShiftLeft, ShiftRight, Less, Greater, LessEqual, GreaterEqual}
use Rattle.ido_ints.specs.declared.operators.Binary.TheVariants.{Equal, NotEqual, And, Xor, Or}
use Rattle.ido_ints.specs.Kinds.{bits_of, is_signed}
use Rattle.rv64_isa.specs.declared.instr.Operation as Codes
use Rattle.rv64_isa.specs.declared.instr.Operation.{Operation}
use Rattle.rv64_isa.specs.declared.instr.Condition.{Condition}
use Rattle.rv64_isa.specs.declared.instr.Condition.TheVariants.{Beq, Bne, Blt, Bge, Bltu, Bgeu}
use Rattle.operator_code.specs.declared.branches.Test.{Test}

abbrev pub by_width : Kind → (double word : Operation) → Operation
by_width k double word = if bits_of k == 64 then double else word

abbrev pub by_sign : Kind → (signed unsigned : Operation) → Operation
by_sign k signed unsigned = if is_signed k then signed else unsigned

abbrev pub instruction_of : Binary → Kind → Option Operation
instruction_of Add k = Some (by_width k Codes.TheVariants.Add Codes.TheVariants.Addw)
instruction_of Sub k = Some (by_width k Codes.TheVariants.Sub Codes.TheVariants.Subw)
instruction_of Mul k = Some (by_width k Codes.TheVariants.Mul Codes.TheVariants.Mulw)
instruction_of Div k = Some (by_width k (by_sign k Codes.TheVariants.Div Codes.TheVariants.Divu) (by_sign k Codes.TheVariants.Divw Codes.TheVariants.Divuw))
instruction_of Rem k = Some (by_width k (by_sign k Codes.TheVariants.Rem Codes.TheVariants.Remu) (by_sign k Codes.TheVariants.Remw Codes.TheVariants.Remuw))
instruction_of ShiftLeft k = Some (by_width k Codes.TheVariants.Sll Codes.TheVariants.Sllw)
instruction_of ShiftRight k = Some
    (by_width k (by_sign k Codes.TheVariants.Sra Codes.TheVariants.Srl) (by_sign k Codes.TheVariants.Sraw Codes.TheVariants.Srlw))
instruction_of And k = Some Codes.TheVariants.And
instruction_of Xor k = Some Codes.TheVariants.Xor
instruction_of Or k = Some Codes.TheVariants.Or
instruction_of operator k = None

abbrev pub below : Kind → Condition
below k = if is_signed k then Blt else Bltu

abbrev pub not_below : Kind → Condition
not_below k = if is_signed k then Bge else Bgeu

abbrev pub made : Condition → (rs1 rs2 : ℕ) → Test
made condition rs1 rs2 = record { condition = condition; rs1 = rs1; rs2 = rs2 }

abbrev pub test_of : Binary → Kind → (rs1 rs2 : ℕ) → Option Test
test_of Less k r s = Some (made (below k) r s)
test_of Greater k r s = Some (made (below k) s r)
test_of LessEqual k r s = Some (made (not_below k) s r)
test_of GreaterEqual k r s = Some (made (not_below k) r s)
test_of Equal k r s = Some (made Beq r s)
test_of NotEqual k r s = Some (made Bne r s)
test_of operator k r s = None

-- whether each number's register form is that of its conversion
abbrev pub keeps : (from to : Kind) → Bool
keeps Char Char = true
keeps UnsignedChar Char = true
keeps from Char = false
keeps Char UnsignedChar = true
keeps UnsignedChar UnsignedChar = true
keeps from UnsignedChar = false
keeps SignedChar SignedChar = true
keeps from SignedChar = false
keeps Char Short = true
keeps UnsignedChar Short = true
keeps SignedChar Short = true
keeps Short Short = true
keeps from Short = false
keeps Char UnsignedShort = true
keeps UnsignedChar UnsignedShort = true
keeps UnsignedShort UnsignedShort = true
keeps from UnsignedShort = false
keeps Long Int = false
keeps UnsignedLong Int = false
keeps from Int = true
keeps Long UnsignedInt = false
keeps UnsignedLong UnsignedInt = false
keeps from UnsignedInt = true
keeps UnsignedInt Long = false
keeps from Long = true
keeps UnsignedInt UnsignedLong = false
keeps from UnsignedLong = true

-- The six fields of a word: what they are of a word in the format R, and that they make up the word.
use Rattle.std.proofs.Common.{◌≡◌, ℕ, ◌^◌, ◌<◌, arith}
use Rattle.rv64_isa.specs.Formats.{bits_of, format_r}

pub record AreFields (opcode rd funct3 rs1 rs2 funct7 : ℕ) : Type 0 where
  pub opcode_fits : opcode < 2 ^ 7
  pub rd_fits : rd < 2 ^ 5
  pub funct3_fits : funct3 < 2 ^ 3
  pub rs1_fits : rs1 < 2 ^ 5
  pub rs2_fits : rs2 < 2 ^ 5
  pub funct7_fits : funct7 < 2 ^ 7

pub format_r-opcode : (o d f a b s : ℕ) → AreFields o d f a b s → bits_of (format_r o f s d a b) 0 7 ≡ o
format_r-opcode o d f a b s h = omega arith

pub format_r-rd : (o d f a b s : ℕ) → AreFields o d f a b s → bits_of (format_r o f s d a b) 7 5 ≡ d
format_r-rd o d f a b s h = omega arith

pub format_r-funct3 : (o d f a b s : ℕ) → AreFields o d f a b s → bits_of (format_r o f s d a b) 12 3 ≡ f
format_r-funct3 o d f a b s h = omega arith

pub format_r-rs1 : (o d f a b s : ℕ) → AreFields o d f a b s → bits_of (format_r o f s d a b) 15 5 ≡ a
format_r-rs1 o d f a b s h = omega arith

pub format_r-rs2 : (o d f a b s : ℕ) → AreFields o d f a b s → bits_of (format_r o f s d a b) 20 5 ≡ b
format_r-rs2 o d f a b s h = omega arith

pub format_r-funct7 : (o d f a b s : ℕ) → AreFields o d f a b s → bits_of (format_r o f s d a b) 25 7 ≡ s
format_r-funct7 o d f a b s h = omega arith

pub are_fields-bits : (w : ℕ) → w < 2 ^ 32 → AreFields (bits_of w 0 7) (bits_of w 7 5) (bits_of w 12 3) (bits_of w 15 5) (bits_of w 20 5) (bits_of w 25 7)
are_fields-bits w h = record {
  opcode_fits = omega arith;
  rd_fits = omega arith;
  funct3_fits = omega arith;
  rs1_fits = omega arith;
  rs2_fits = omega arith;
  funct7_fits = omega arith;
}

pub format_r-bits : (w : ℕ) → w < 2 ^ 32 → format_r (bits_of w 0 7) (bits_of w 12 3) (bits_of w 25 7) (bits_of w 7 5) (bits_of w 15 5) (bits_of w 20 5) ≡ w
format_r-bits w h = omega arith

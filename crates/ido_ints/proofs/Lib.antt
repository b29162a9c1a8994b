pub mod Public
mod Congruence
mod ExactArithmetic
mod LiteralKinds
mod LowBits
mod Promotion
mod ReductionLaws
mod RegisterBits
mod RegisterValues
mod Registers
mod Results
mod Rows

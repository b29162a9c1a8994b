pub mod OperandCode
pub mod ForwardJumps
pub mod ElementLoads

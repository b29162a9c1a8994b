pub mod Public
mod RunComposition
mod PreservedRegisters
mod ValueKinds
mod CodeComposition
mod ForwardBranches
mod OperationCode
mod ConditionalCode
mod Addresses
mod ElementLoadCode
mod TemporaryNeeds
mod Words
mod WholeExpressionCode
mod PureCode
mod Homes

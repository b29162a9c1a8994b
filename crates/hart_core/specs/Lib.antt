pub mod Effects
pub mod LocalSteps
pub mod Objects
pub mod StepsOnParts
pub mod links

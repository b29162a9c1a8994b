pub mod Plans
pub mod RegistersAtNodes
pub mod NodeCodeEffects
pub mod Programs
pub mod Laws

pub mod CodeFragments
pub mod Laws

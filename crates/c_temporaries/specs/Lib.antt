pub mod links

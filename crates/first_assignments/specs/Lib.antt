pub mod FirstAssignments

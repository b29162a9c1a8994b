pub mod Points
pub mod BanksBeforePoints
pub mod BanksKept
pub mod RegistersResumed
pub mod StoresFollowReads
pub mod RecordsFollowLocks

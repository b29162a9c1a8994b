pub mod Errors
pub mod PrefixBeforeFault
pub mod Holders
pub mod LocationElements
pub mod ElementNumbers
pub mod BankFaults

pub mod ReaderResults

pub mod Public
mod Worked
mod Digits
mod Tables
mod EncodeThenDecode
mod DecodeThenEncode
mod Words

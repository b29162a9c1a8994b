-- What crates above may use of this crate's proofs, passed on from one place. Declares nothing.
pub use Rattle.file_fields.proofs.FieldLaws.{IsBytes, Takes, bind_ok, bytes_again, bytes_take, kept_ok, magic_again, magic_takes, number_again, number_takes}
pub use Rattle.file_fields.proofs.FieldLaws.{ok_is, repeated_again, repeated_take, test_ok, then, version_again, version_takes, within_again, within_takes}
pub use Rattle.file_fields.proofs.FieldLaws.{word_again, word_takes}

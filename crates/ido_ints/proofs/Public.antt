-- What crates above may use of this crate's proofs, passed on from one place. Declares nothing.
pub use Rattle.ido_ints.proofs.Congruence.{Same, Same-add, Same-factor, Same-mod, Same-neg, Same_refl, Same_sym, Same_trans, rem_euclid-mod}
pub use Rattle.ido_ints.proofs.ExactArithmetic.{Bounded-fits, right_exact}
pub use Rattle.ido_ints.proofs.LiteralKinds.{literal_kind_of-Holds}
pub use Rattle.ido_ints.proofs.LowBits.{reduced-residue}
pub use Rattle.ido_ints.proofs.Promotion.{Holds-promoted, each_promoted, promoted-common_of, reduced-promoted}
pub use Rattle.ido_ints.proofs.ReductionLaws.{Bounded, Holds-Bounded, Holds-reduced, Holds-zero, Same-modulus, Same-reduced, reduced-is, reduced-neg}
pub use Rattle.ido_ints.proofs.ReductionLaws.{reduced-same, reduced_held}
pub use Rattle.ido_ints.proofs.RegisterBits.{Bitwise, Bitwise-and, Bitwise-or, Bitwise-xor, register-bitwise_32, register-bitwise_64}
pub use Rattle.ido_ints.proofs.RegisterValues.{places-register, register-lt, register-mod}
pub use Rattle.ido_ints.proofs.Registers.{reduced-register, register-64, register-Same, register-add_32, register-add_64, register-mul_32, register-mul_64}
pub use Rattle.ido_ints.proofs.Registers.{register-reduced_32, register-reduced_64, register-scale_32, register-scale_64, register-sub_32, register-sub_64}
pub use Rattle.ido_ints.proofs.Registers.{register_below, register_injective, residue-Same, residue-is, residue-same, residue_below, sign_extended-is}
pub use Rattle.ido_ints.proofs.Results.{Holds-binary_number, Holds-truth, Holds-unary_number}

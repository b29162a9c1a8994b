-- The numbers of slots of registers and of listed locks.
use Rattle.std.proofs.Common.{◌≡◌, ℕ, ◌+◌, ◌*◌, ◌<◌, ◌≤◌, arith, refl, sym, subst}
use Rattle.log_schemes.specs.declared.keeping.Keeping.TheVariants.{Listed}
use Rattle.log_schemes.specs.declared.log.Log.{Log}
use Rattle.log_schemes.specs.declared.log.Log.TheVariants.{V1, V2, Justdo}
use Rattle.log_schemes.specs.declared.log.TheConstants.{FIRST_LOCK_SLOT, MOST_LISTED}
use Rattle.log_schemes.specs.Schemes.{bank_slots, keeping_of, lock_slot, register_slot, size_of}
use Rattle.log_schemes.proofs.Facts.{scheme, size_holds}

-- a bank has a slot for each register
pub register_exists : (log : Log) (register : ℕ) → register < 32 → register_slot log register < bank_slots log
register_exists V1 register below = omega (arith, below)
register_exists V2 register below = omega (arith, below)
register_exists Justdo register below = omega arith

pub register_few : (log : Log) (register : ℕ) → register < 32 → register_slot log register < 48
register_few log register below = let exists = register_exists log register below in let few = (size_holds (size_of log)).few_in_bank in omega (arith, exists, few)

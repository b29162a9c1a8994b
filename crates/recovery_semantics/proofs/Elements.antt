-- Elements in words change as their words do.
use Rattle.std.proofs.Common.{◌≡◌, ℕ, ◌-◌, ◌%◌, List, map, sym, ◌∙◌, ap, arith, ℤ, slice_index_or, slice_index, pos}
use Rattle.std.proofs.lemmas.List.{length-map, map-append}
use Rattle.std.proofs.Math.Nat.{zero-div, zero-mod}
use Rattle.ido_ints.specs.declared.kinds.Kind.{Kind}
use Rattle.ido_ints.specs.Kinds.{bytes_of, modulus_of}
use Rattle.ido_ints.specs.Reduction.{reduced, register_of}
use Rattle.ido_ints.proofs.Public.{Same-mod, reduced-same, reduced_held, reduced-register}
use Rattle.ido_base.specs.Words.{Word, with_part, live_value, with_value}
use Rattle.ido_base.proofs.Public.{part_own, part_above, part_below}
use Rattle.recovery_semantics.specs.ElementHistories.{with_number, history_of}
use Rattle.recovery_semantics.specs.Elements.{number_in, element_in, LiveIn, DurableIn, PersistedIn, CrashedIn, StoredIn, BesideIn}
use Rattle.recovery_semantics.proofs.StableHistories.{index_map}

-- a value that isn't there has 0
number_none : (kind : Kind) (byte : ℕ) → number_in kind byte 0 ≡ pos 0
number_none kind byte = grind (arith, reduced_held, zero-div, zero-mod)

number_at_position : (kind : Kind) (byte p : ℕ) (values : List ℕ) →
    number_in kind byte (slice_index values p) ≡ slice_index_or (map (number_in kind byte) values) p (pos 0)
number_at_position kind byte p values =
    sym (ap (λ (d : ℤ). slice_index_or (map (number_in kind byte) values) p d) (sym (number_none kind byte)) ∙ index_map (number_in kind byte) values p 0)

pub live_in : LiveIn
live_in kind byte word = grind (arith, length-map, map, number_at_position)

pub durable_in : DurableIn
durable_in kind byte word = number_at_position kind byte word.durable word.values

pub persisted_in : PersistedIn
persisted_in = grind (arith, length-map, map)

pub crashed_in : CrashedIn
crashed_in kind byte word = ap history_of (durable_in kind byte word)

appended_in : (kind : Kind) (byte : ℕ) (word : Word) (value : ℕ) (number : ℤ) → number_in kind byte value ≡ number →
    element_in kind byte (with_value word value) ≡ with_number (element_in kind byte word) number
appended_in kind byte word value number h5 = grind (arith, map, map-append)

pub stored_in : StoredIn
stored_in kind byte word number holds =
    let own = part_own (live_value word) byte (bytes_of kind) (register_of kind number) in
    appended_in kind byte word (with_part (live_value word) byte (bytes_of kind) (register_of kind number)) number
    (ap (λ (n : ℕ). reduced kind (pos n)) own
    ∙ (reduced-same kind (pos (register_of kind number % modulus_of kind)) (pos (register_of kind number))
    (Same-mod (register_of kind number) (modulus_of kind))
    ∙ reduced-register kind number holds))

pub beside_in : BesideIn
beside_in kind byte word at count value apart = grind (arith, part_above, part_below, appended_in, live_in)

use Rattle.std.proofs.Common.{◌≡◌, ℕ, ◌<◌, length, slice_get, take, Some}
use Rattle.std.specs.List.{list_any}
use Rattle.rv64_isa.specs.Programs.{slot_of}
use Rattle.ido_machine.specs.links.SignTables.{is_fence_slot, is_store_slot, is_plain, is_word_at, sign_in, slot_in}
use Rattle.ido_machine.proofs.signs.SignTable.of.Given as goal

abbrev pub invariant-loop-address : goal.invariant-loop-address
invariant-loop-address l = record {
  size : length l.entries.items ≡ length l.words;
  slots : (k : ℕ) (word : ℕ) → slice_get l.words k ≡ Some word → slot_in l.entries.items k ≡ slot_of word;
  marks : (k : ℕ) → k < length l.words → (sign_in l.entries.items k).mark ≡ list_any (is_word_at l.start k) (take l.address-index l.addresses);
  fences : (k : ℕ) (word : ℕ) → slice_get l.words k ≡ Some word → (sign_in l.entries.items k).fence ≡ is_fence_slot (slot_of word);
  plains : (k : ℕ) → (sign_in l.entries.items k).plain ≡ is_plain (sign_in l.entries.items k);
  stores : (k : ℕ) (word : ℕ) → slice_get l.words k ≡ Some word → (sign_in l.entries.items k).store ≡ is_store_slot (slot_of word);
}

use Rattle.std.proofs.Common.{◌≡◌, ℕ, zero, suc, List, [], ◌∷◌, map, length, take, get_or, slice_get, Some, refl, ap, sym, subst, ◌∙◌, arith}
use Rattle.std.proofs.lemmas.List.{length-map, get_or-map, take_all}
use Rattle.std.specs.List.{list_any}
use Rattle.rv64_isa.specs.declared.object.Slot.{Slot}
use Rattle.rv64_isa.specs.Programs.{slot_of}
use Rattle.ido_machine.proofs.Lists.{get_map, get_some}
use Rattle.ido_machine.specs.declared.signs.Entry.{Entry}
use Rattle.ido_machine.specs.links.SignTables.{is_fence_slot, is_plain, is_store_slot, is_word_at, no_entry, plain_entry, sign_in, slot_in, slots_in}
use Rattle.ido_machine.proofs.SignTables.{in_length}
use Rattle.ido_machine.proofs.signs.SignTable.of.Goals as goal

get_found : {X : Type 0} (xs : List X) (k : ℕ) (x : X) → slice_get xs k ≡ Some x → get_or xs k x ≡ x
get_found [] k x e = refl
get_found (y ∷ ys) zero x e = cc
get_found (y ∷ ys) (suc k) x e = get_found ys k x e

mapped_plains : (words : List ℕ) (k : ℕ) → (sign_in (map plain_entry words) k).plain ≡ is_plain (sign_in (map plain_entry words) k)
mapped_plains [] k = refl
mapped_plains (word ∷ words) zero = refl
mapped_plains (word ∷ words) (suc k) = mapped_plains words k

same_slots : (entries : List Entry) (words : List ℕ) → length entries ≡ length words →
    ((k : ℕ) (word : ℕ) → slice_get words k ≡ Some word → slot_in entries k ≡ slot_of word) → slots_in entries ≡ map slot_of words
same_slots [] [] same each = refl
same_slots [] (word ∷ words) same each = cc
same_slots (entry ∷ entries) [] same each = cc
same_slots (entry ∷ entries) (word ∷ words) same each =
    let first : entry.slot ≡ slot_of word = each 0 word refl in
    let rest : slots_in entries ≡ map slot_of words = same_slots entries words (omega (arith, same)) (λ k x there. each (suc k) x there) in
    ap (λ (slot : Slot). slot ∷ slots_in entries) first ∙ ap (λ (slots : List Slot). slot_of word ∷ slots) rest

pub loop-address-init : goal.loop-address-init
loop-address-init c =
    let words = c.args.words.now in
    let plain = c.in_ok-entries.ensures in
    record {
      size = ap length plain ∙ length-map words plain_entry;
      slots = λ k word found. ap (λ (xs : List Entry). slot_in xs k) plain ∙ ap (λ (x : Entry). x.slot) (get_map plain_entry words k word no_entry found);
      marks =
          λ k below. ap (λ (xs : List Entry). (sign_in xs k).mark) plain ∙ ap (λ (x : Entry). x.sign.mark) (get_or-map plain_entry words k 0 no_entry below);
      fences =
          λ k word found. ap (λ (xs : List Entry). (sign_in xs k).fence) plain
          ∙ ap (λ (x : Entry). x.sign.fence) (get_map plain_entry words k word no_entry found);
      plains = λ k. subst (λ (xs : List Entry). (sign_in xs k).plain ≡ is_plain (sign_in xs k)) (sym plain) (mapped_plains words k);
      stores =
          λ k word found. ap (λ (xs : List Entry). (sign_in xs k).store) plain
          ∙ ap (λ (x : Entry). x.sign.store) (get_map plain_entry words k word no_entry found);
    }

pub returns : goal.returns
returns c =
    let words = c.args.words.now in
    let addresses = c.args.addresses.now in
    let inv = c.loop-address.invariant in
    let all : take c.loop-address.address-index addresses ≡ addresses = take_all c.loop-address.address-index addresses c.loop-address-test.false in
    let long : length (map slot_of words) ≡ length words = length-map words slot_of in
    let word_of : (k : ℕ) (slot : Slot) → slice_get (map slot_of words) k ≡ Some slot → (word : ℕ) × (slice_get words k ≡ Some word) × (slot_of word ≡ slot) =
    λ k slot found.
    let some = get_some words k (omega (arith, in_length (map slot_of words) k slot found, long)) in
    (some.0, some.1, sym (get_map slot_of words k some.0 slot some.1) ∙ get_found (map slot_of words) k slot found) in
    record {
      starts = refl;
      plains = inv.plains;
      slots = same_slots c.loop-address.entries.items words inv.size inv.slots;
      marks = λ k below. inv.marks k (omega (arith, below, long)) ∙ ap (list_any (is_word_at c.args.start k)) all;
      fences = λ k slot found.
          let word = word_of k slot found in
          inv.fences k word.0 word.1 ∙ ap is_fence_slot word.2;
      stores = λ k slot found.
          let word = word_of k slot found in
          inv.stores k word.0 word.1 ∙ ap is_store_slot word.2;
    }

-- What a table says of the code words of a thread.
use Rattle.std.proofs.Common.{◌≡◌, ◌⊎◌, ℕ, zero, suc, ◌-◌, ◌/◌, ◌%◌, ◌<◌, ◌≤◌, List, [], ◌∷◌, length, slice_get, Option, Some, None}
use Rattle.std.proofs.Common.{Bool, true, false, nat_le, ◌==◌, ◌&&◌, if◌then◌else◌, refl, ap, sym, subst, ◌∙◌, arith, inl, inr}
use Rattle.std.specs.List.{list_any}
use Rattle.std.proofs.lemmas.Bool.{cases_eq, eq-eqb, eqb-true, le-leb, leb-true, and_parts}
use Rattle.rv64_isa.specs.declared.object.Slot.{Slot}
use Rattle.hart_core.specs.LocalSteps.{PlacedCode, fetched_in}
use Rattle.ido_machine.specs.declared.signs.Entry.{Entry}
use Rattle.ido_machine.specs.declared.signs.Sign.{Sign}
use Rattle.ido_machine.specs.declared.signs.SignTable.{SignTable}
use Rattle.ido_machine.specs.links.SignTables.{entry_at, is_fence_slot, is_plain, is_store_slot, is_word_at, placed_in, sign_at, sign_in, sign_of}
use Rattle.ido_machine.specs.links.SignTables.{slot_at, slots_in, IsTableOf}

-- an address is that of a word of the code, where it is that word's
pub same_word : (start pc m : ℕ) → start ≤ pc → pc % 4 ≡ 0 → is_word_at start ((pc - start) / 4) m ≡ (m == pc)
same_word start pc m from whole = by_place (cases_eq m pc)
  where
    yes : is_word_at start ((pc - start) / 4) pc ≡ true
    yes = rw (le-leb start pc from, eq-eqb (pc % 4) 0 whole, eq-eqb ((pc - start) / 4) ((pc - start) / 4) refl) refl

    no : (t : Bool) → is_word_at start ((pc - start) / 4) m ≡ t → (m ≡ pc → ⊥) → is_word_at start ((pc - start) / 4) m ≡ false
    no false e ne = e
    no true e ne =
        let first = and_parts (nat_le start m && (m % 4 == 0)) ((m - start) / 4 == (pc - start) / 4) e in
        let second = and_parts (nat_le start m) (m % 4 == 0) first.0 in
        let above : start ≤ m = leb-true start m second.0 in
        let zero : m % 4 ≡ 0 = eqb-true (m % 4) 0 second.1 in
        let word : (m - start) / 4 ≡ (pc - start) / 4 = eqb-true ((m - start) / 4) ((pc - start) / 4) first.1 in
        absurd (ne (omega arith))

    differs : (t : Bool) → (m == pc) ≡ t → (m ≡ pc → ⊥) → (m == pc) ≡ false
    differs true e ne = absurd (ne (eqb-true m pc e))
    differs false e ne = e

    by_place : (m ≡ pc) ⊎ (m ≡ pc → ⊥) → is_word_at start ((pc - start) / 4) m ≡ (m == pc)
    by_place (inl same) =
        let P : ℕ → Type 0 = λ k. is_word_at start ((pc - start) / 4) k ≡ (k == pc) in
        subst P (sym same) (yes ∙ sym (eq-eqb pc pc refl))
    by_place (inr ne) = no (is_word_at start ((pc - start) / 4) m) refl ne ∙ sym (differs (m == pc) refl ne)

pub any_same : (p q : ℕ → Bool) (xs : List ℕ) → ((x : ℕ) → p x ≡ q x) → list_any p xs ≡ list_any q xs
any_same p q [] e = refl
any_same p q (x ∷ xs) e = rw (e x, any_same p q xs e) refl

pub in_length : {X : Type 0} (xs : List X) (k : ℕ) (x : X) → slice_get xs k ≡ Some x → k < length xs
in_length [] k x e = cc
in_length (y ∷ ys) zero x e = omega arith
in_length (y ∷ ys) (suc k) x e = let rest = in_length ys k x e in omega arith

-- a word of a table whose first word has this address
pub entry_at-is : (start : ℕ) (table : SignTable) (pc : ℕ) → table.start ≡ start →
    entry_at table pc ≡ (if nat_le start pc && (pc % 4 == 0) then slice_get table.entries.items ((pc - start) / 4) else None)
entry_at-is start table pc starts =
    ap (λ (s : ℕ). if nat_le s pc && (pc % 4 == 0) then slice_get table.entries.items ((pc - s) / 4) else None) starts

sign_found : (entries : List Entry) (k : ℕ) → sign_of (slice_get entries k) ≡ sign_in entries k
sign_found [] k = refl
sign_found (entry ∷ entries) zero = refl
sign_found (entry ∷ entries) (suc k) = sign_found entries k

slots_found : (entries : List Entry) (k : ℕ) → slice_get (slots_in entries) k ≡ slot_at (slice_get entries k)
slots_found [] k = refl
slots_found (entry ∷ entries) zero = refl
slots_found (entry ∷ entries) (suc k) = slots_found entries k

-- what a table has at a pc stands in its code
pub own_stands : (table : SignTable) (pc : ℕ) → fetched_in (placed_in table) pc ≡ slot_at (entry_at table pc)
own_stands table pc = by_test (nat_le table.start pc && (pc % 4 == 0))
  where
    by_test : (b : Bool) → (if b then slice_get (slots_in table.entries.items) ((pc - table.start) / 4) else None)
        ≡ slot_at (if b then slice_get table.entries.items ((pc - table.start) / 4) else None)
    by_test false = refl
    by_test true = slots_found table.entries.items ((pc - table.start) / 4)

module _ (table : SignTable) (start : ℕ) (code : List Slot) (addresses : List ℕ) (is : IsTableOf table start code addresses) where
  pub placed_is : let placed : PlacedCode = record { slots = code; start = start } in placed_in table ≡ placed
  placed_is =
      let at : List Slot → ℕ → PlacedCode = λ slots first. record { slots = slots; start = first } in
      ap (λ (slots : List Slot). at slots table.start) is.slots ∙ ap (at code) is.starts

  -- it is the table of its own code
  pub own_table : IsTableOf table table.start (slots_in table.entries.items) addresses
  own_table =
      subst (λ (slots : List Slot). IsTableOf table table.start slots addresses) (sym is.slots)
      (subst (λ (first : ℕ). IsTableOf table first code addresses) (sym is.starts) is)

  pub entry_stands : (pc : ℕ) → let placed : PlacedCode = record { slots = code; start = start } in fetched_in placed pc ≡ slot_at (entry_at table pc)
  entry_stands pc = ap (λ (placed : PlacedCode). fetched_in placed pc) (sym placed_is) ∙ own_stands table pc

-- where a word of the code stands
module _ (code : PlacedCode) (pc : ℕ) (slot : Slot) (there : fetched_in code pc ≡ Some slot) where
  pub word_place : (code.start ≤ pc) × (pc % 4 ≡ 0) × (slice_get code.slots ((pc - code.start) / 4) ≡ Some slot)
  word_place = by_test (nat_le code.start pc && (pc % 4 == 0)) refl
    where
      fetched_if : (t : Bool) → (nat_le code.start pc && (pc % 4 == 0)) ≡ t →
          fetched_in code pc ≡ (if t then slice_get code.slots ((pc - code.start) / 4) else None)
      fetched_if t e = ap (λ (b : Bool). if b then slice_get code.slots ((pc - code.start) / 4) else None) e

      by_test : (t : Bool) → (nat_le code.start pc && (pc % 4 == 0)) ≡ t →
          (code.start ≤ pc) × (pc % 4 ≡ 0) × (slice_get code.slots ((pc - code.start) / 4) ≡ Some slot)
      by_test false e =
          let none : fetched_in code pc ≡ None = fetched_if false e in
          cc
      by_test true e =
          let parts = and_parts (nat_le code.start pc) (pc % 4 == 0) e in
          (leb-true code.start pc parts.0, eqb-true (pc % 4) 0 parts.1, sym (fetched_if true e) ∙ there)

  module _ (table : SignTable) (addresses : List ℕ) (is : IsTableOf table code.start code.slots addresses) where
    within : (nat_le code.start pc && (pc % 4 == 0)) ≡ true
    within = rw (le-leb code.start pc word_place.0, eq-eqb (pc % 4) 0 word_place.1) refl

    -- the sign of the word
    sign_is : sign_at table pc ≡ sign_in table.entries.items ((pc - code.start) / 4)
    sign_is =
        ap sign_of (entry_at-is code.start table pc is.starts)
        ∙ ap (λ (b : Bool). sign_of (if b then slice_get table.entries.items ((pc - code.start) / 4) else None)) within
        ∙ sign_found table.entries.items ((pc - code.start) / 4)

    pub word_mark : (sign_at table pc).mark ≡ list_any (λ m. m == pc) addresses
    word_mark =
        ap (λ (x : Sign). x.mark) sign_is ∙ is.marks _ (in_length code.slots _ slot word_place.2)
        ∙ any_same (is_word_at code.start ((pc - code.start) / 4)) (λ m. m == pc) addresses
        (λ m. same_word code.start pc m word_place.0 word_place.1)

    pub word_fence : (sign_at table pc).fence ≡ is_fence_slot slot
    word_fence = ap (λ (x : Sign). x.fence) sign_is ∙ is.fences _ slot word_place.2

    pub word_store : (sign_at table pc).store ≡ is_store_slot slot
    word_store = ap (λ (x : Sign). x.store) sign_is ∙ is.stores _ slot word_place.2

    pub word_plain : (sign_at table pc).plain ≡ is_plain (sign_at table pc)
    word_plain = subst (λ (x : Sign). x.plain ≡ is_plain x) (sym sign_is) (is.plains ((pc - code.start) / 4))

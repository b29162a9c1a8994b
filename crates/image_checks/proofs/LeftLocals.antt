-- What a bank has of live locals whose registers it keeps, and what keys name by them.
use Rattle.std.proofs.Common.{◌≡◌, ◌≢◌, inl, inr, refl, ℕ, ◌≤◌, sym, ap, ◌∙◌, subst, arith, cond, Option, Some, None, Bool, true, false}
use Rattle.std.proofs.Common.{List, [], ◌∷◌, ℤ}
use Rattle.std.specs.Prelude.{◌==◌, ◌&&◌, Contains, find, is_some, pos, slice_get}
use Rattle.std.proofs.lemmas.Bool.{eq-eqb, true≢false}
use Rattle.ido_ints.specs.declared.kinds.Kind.{Kind}
use Rattle.ido_ints.specs.declared.kinds.Kind.TheVariants.{UnsignedLong}
use Rattle.ido_ints.specs.Kinds.{Holds}
use Rattle.ido_ints.specs.Reduction.{register_of}
use Rattle.c_tree.specs.Exprs.{LockName, Placed}
use Rattle.c_tree.specs.Programs.{Guard, Variable}
use Rattle.c_tree.specs.LockDiscipline.{variable_guard}
use Rattle.c_tree.specs.Ranges.{elements_of}
use Rattle.c_tree.specs.References.{IsLocalReferring}
use Rattle.c_tree.specs.Values.{key_element, lock_number}
use Rattle.c_ranges.specs.RunInvariants.{RefersSo}
use Rattle.flow_graph.specs.HeldKeys.{is_key_of, named_by, names_in}
use Rattle.log_states.proofs.Public.{contains_cases, contains_none}
use Rattle.flat_compile.specs.declared.resumes.LiveLocal.{LiveLocal}
use Rattle.image_checks.specs.Checks.{IsReferenceWord, IsUnnull}
use Rattle.image_checks.proofs.ReferenceWords.{word_is, word_of_reference}

-- ---- Words of references

pub reference_word : (vs : List Variable) (refers : Option ℕ) (k : Kind) (z : ℤ) (word : ℕ) → IsLocalReferring k refers → RefersSo vs refers z →
    word ≡ register_of k z → IsReferenceWord vs refers word
reference_word vs None k z word long right is = tt
reference_word vs (Some array) k z word long right is =
    let own : word ≡ register_of UnsignedLong z = is ∙ ap (λ (j : Kind). register_of j z) long in
    subst (λ (n : ℕ). n ≤ elements_of vs array) (sym own) (word_of_reference (elements_of vs array) z right)

some_word : (z : ℤ) (word : ℕ) → Holds UnsignedLong z → word ≡ register_of UnsignedLong z → z ≢ pos 0 → word ≢ 0
some_word z word held is some none = some (sym (word_is z held) ∙ ap pos (sym is ∙ none))

some_of : (vs : List Variable) (refers : Option ℕ) (k : Kind) (z : ℤ) (word : ℕ) → IsLocalReferring k refers → RefersSo vs refers z →
    word ≡ register_of k z → is_some refers ≡ true → ((array : ℕ) → refers ≡ Some array → z ≢ pos 0) → word ≢ 0
some_of vs None k z word long right is refer some = absurd (true≢false (sym refer))
some_of vs (Some array) k z word long right is refer some =
    some_word z word right.held (is ∙ ap (λ (j : Kind). register_of j z) long) (some array refl)

pub unnull_word : (vs : List Variable) (known : Bool) (refers : Option ℕ) (k : Kind) (z : ℤ) (word : ℕ) → IsLocalReferring k refers → RefersSo vs refers z →
    word ≡ register_of k z → (known ≡ true → (is_some refers ≡ true) × ((array : ℕ) → refers ≡ Some array → z ≢ pos 0)) → IsUnnull known word
unnull_word vs false refers k z word long right is some = tt
unnull_word vs true refers k z word long right is some = let so = some refl in some_of vs refers k z word long right is so.0 so.1

-- ---- Live locals

-- a live local is found by its number
pub found_some : (live : List LiveLocal) (l : LiveLocal) → Contains live l →
    (it : LiveLocal) × (find (λ (z : LiveLocal). z.local == l.local) live ≡ Some it)
found_some [] l c = absurd (contains_none l c)
found_some (x ∷ live) l c = by (x.local == l.local) refl (found_some live l)
  where
    by : (b : Bool) → (x.local == l.local) ≡ b →
        (Contains live l → (it : LiveLocal) × (find (λ (z : LiveLocal). z.local == l.local) live ≡ Some it)) →
        (it : LiveLocal) × (cond b (Some x) (find (λ (z : LiveLocal). z.local == l.local) live) ≡ Some it)
    by true is rest = (x, refl)
    by false is rest = elim (contains_cases x live l c) [
      | inl same ↦ absurd (true≢false (sym (eq-eqb x.local l.local (ap (λ (z : LiveLocal). z.local) (sym same))) ∙ is))
      | inr more ↦ rest more
    ]

-- ---- What keys name

module _ (vs : List Variable) (ls js : List ℤ) where
  named_at : (guard : Guard) (mutex : ℕ) (key : Option Placed) →
      lock_number ls (record { mutex = mutex; key = key }) ≡ lock_number js (record { mutex = mutex; key = key }) →
      named_by guard true ls (Some (record { mutex = mutex; key = key })) ≡ named_by guard true js (Some (record { mutex = mutex; key = key }))
  named_at guard mutex None same = refl
  named_at guard mutex (Some key) same =
      let own : key_element ls key ≡ key_element js key = omega (arith, same) in
      ap (λ (n : ℕ). cond (true && is_key_of guard (record { mutex = mutex; key = Some key })) (Some n) None) own

  -- where a name has one lock by both, it names one element
  pub named_same : (names : List LockName) (variable key : ℕ) →
      ((x : LockName) → slice_get names key ≡ Some x → lock_number ls x ≡ lock_number js x) →
      names_in vs names ls variable key ≡ names_in vs names js variable key
  named_same names variable key same = by (slice_get names key) same
    where
      by : (o : Option LockName) → ((x : LockName) → o ≡ Some x → lock_number ls x ≡ lock_number js x) →
          named_by (variable_guard vs variable) true ls o ≡ named_by (variable_guard vs variable) true js o
      by None same = refl
      by (Some x) same = named_at (variable_guard vs variable) x.mutex x.key (same x refl)

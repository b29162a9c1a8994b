-- What a bank keeps of locks, by how it keeps them.
use Rattle.std.proofs.Common.{◌≡◌, ◌≢◌, inl, inr, ℕ, zero, suc, ◌+◌, ◌^◌, ◌<◌, ◌≤◌, List, [], ◌∷◌, map, length, take, refl, ap, arith, sym, ◌∙◌, subst}
use Rattle.std.proofs.Common.{get_or}
use Rattle.std.specs.List.{Contains}
use Rattle.ido_base.specs.Locks.{locks_in, mask_with}
use Rattle.ido_base.proofs.Public.{no_locks}
use Rattle.log_schemes.specs.declared.keeping.Keeping.{Keeping}
use Rattle.log_schemes.specs.declared.keeping.Keeping.TheVariants.{Masked, Listed}
use Rattle.log_schemes.specs.declared.log.Log.{Log}
use Rattle.log_schemes.specs.declared.log.TheConstants.{MOST_LISTED}
use Rattle.log_schemes.specs.Schemes.{HasRoom, bank_slots, keeping_of, kept_as, listed_from, lock_slot, numbers_from, read_as}
use Rattle.log_schemes.specs.Schemes.{size_of}
use Rattle.log_schemes.specs.SchemeFacts.{AllLocksAreKept, AreListed, CanKeep, HasEach, IsKept}
use Rattle.log_schemes.proofs.Contents.{contains_none, contains_first, contains_later, contains_cases}
use Rattle.log_schemes.proofs.Facts.{scheme, size_holds}

-- ---- Lists of locks

-- a pair of those that list the locks from this index on
pub record IsListed (log : Log) (index : ℕ) (locks : List ℕ) (kept : ℕ × ℕ) : Type 0 where
  pub place : ℕ
  pub below : place < length locks
  pub slot_is : kept.0 ≡ lock_slot log (index + place)
  pub value_is : get_or locks place 0 ≡ kept.1
  pub lock : Contains locks kept.1

pub is_listed : (log : Log) (index : ℕ) (locks : List ℕ) (kept : ℕ × ℕ) → Contains (listed_from log index locks) kept → IsListed log index locks kept
is_listed log index [] kept c = absurd (contains_none kept c)
is_listed log index (lock ∷ locks) kept c = elim (contains_cases (lock_slot log index, lock) (listed_from log (index + 1) locks) kept c) [
  | inl is ↦ subst (IsListed log index (lock ∷ locks)) (sym is) (record {
    place = 0;
    below = omega arith;
    slot_is = ap (λ (n : ℕ). lock_slot log n) (let e : index ≡ index + 0 = omega arith in e);
    value_is = refl;
    lock = contains_first lock locks;
  })
  | inr more ↦
      let rest = is_listed log (index + 1) locks kept more in
      let below = rest.below in
      let next : index + 1 + rest.place ≡ index + suc rest.place = omega arith in
      record {
        place = suc rest.place;
        below = omega (arith, below);
        slot_is = rest.slot_is ∙ ap (λ (n : ℕ). lock_slot log n) next;
        value_is = rest.value_is;
        lock = contains_later lock locks kept.1 rest.lock;
      }
]

-- as many as these locks, of those that slots have
listed_read : (log : Log) (slots : ℕ → ℕ) (index count : ℕ) (locks : List ℕ) → length locks ≤ count → HasEach slots (listed_from log index locks) →
    take (length locks) (map (λ i. slots (lock_slot log i)) (numbers_from index count)) ≡ locks
listed_read log slots index count [] few has = refl
listed_read log slots index zero (lock ∷ locks) few has = absurd (omega (arith, few))
listed_read log slots index (suc count) (lock ∷ locks) few has =
    ap (λ (n : ℕ). n ∷ take (length locks) (map (λ i. slots (lock_slot log i)) (numbers_from (index + 1) count)))
    (has (lock_slot log index, lock) (contains_first (lock_slot log index, lock) (listed_from log (index + 1) locks)))
    ∙ ap (λ (rest : List ℕ). lock ∷ rest) (listed_read log slots (index + 1) count locks (omega (arith, few))
    (λ kept c. has kept (contains_later (lock_slot log index, lock) (listed_from log (index + 1) locks) kept c)))

-- ---- By how a bank keeps them

module _ (log : Log) where
  -- slot 0 is of a bank, and no register's
  first_kept : (value : ℕ) → value < 2 ^ 64 → IsKept log (0, value)
  first_kept value small = record {
    slot = let some = (size_holds (size_of log)).some in omega (arith, some);
    value = small;
    apart = λ register e same. let own = ((scheme log).apart.register register e).some in omega (arith, same, own);
  }

  listed_kept : (locks : List ℕ) (kept : ℕ × ℕ) → keeping_of log ≡ Listed → AreListed locks → IsListed log 0 locks kept → IsKept log kept
  listed_kept locks kept is are one =
      let few = are.few in
      let below = one.below in
      let low : 0 + one.place < MOST_LISTED = omega (arith, few, below) in
      record {
        slot = subst (λ (n : ℕ). n < bank_slots log) (sym one.slot_is) ((scheme log).apart.lock (0 + one.place) is low).exists;
        value = are.fit kept.1 one.lock;
        apart = λ register e same. (scheme log).apart.lock_register (0 + one.place) register is low e (sym one.slot_is ∙ same);
      }

  kept_each : (k : Keeping) → keeping_of log ≡ k → (locks : List ℕ) (kept : ℕ × ℕ) → CanKeep k locks → Contains (kept_as k log locks) kept → IsKept log kept
  kept_each Masked is locks kept can c = elim (contains_cases (0, mask_with locks) [] kept c) [
    | inl e ↦ subst (IsKept log) (sym e) (first_kept (mask_with locks) can.fits)
    | inr none ↦ absurd (contains_none kept none)
  ]
  kept_each Listed is locks kept can c = elim (contains_cases (0, length locks) (listed_from log 0 locks) kept c) [
    | inl e ↦ let few = can.few in subst (IsKept log) (sym e) (first_kept (length locks) (omega (arith, few)))
    | inr more ↦ listed_kept locks kept is can (is_listed log 0 locks kept more)
  ]

  -- no listed lock has slot 0
  not_first : (locks : List ℕ) (kept : ℕ × ℕ) → keeping_of log ≡ Listed → AreListed locks → IsListed log 0 locks kept → kept.0 ≢ 0
  not_first locks kept is are one none =
      let few = are.few in
      let below = one.below in
      let own = ((scheme log).apart.lock (0 + one.place) is (omega (arith, few, below))).some in
      let same : lock_slot log (0 + one.place) ≡ 0 = sym one.slot_is ∙ none in
      omega (arith, own, same)

  listed_alone : (locks : List ℕ) (one other : ℕ × ℕ) → keeping_of log ≡ Listed → AreListed locks → IsListed log 0 locks one → IsListed log 0 locks other →
      one.0 ≡ other.0 → one.1 ≡ other.1
  listed_alone locks one other is are a b same =
      let few = are.few in
      let below = a.below in
      let beneath = b.below in
      let places : 0 + a.place ≡ 0 + b.place = (scheme log).apart.lock_apart (0 + a.place) (0 + b.place) is (omega (arith, few, below)) (omega
      (arith, few, beneath)) (sym a.slot_is ∙ (same ∙ b.slot_is)) in
      let own : a.place ≡ b.place = omega (arith, places) in
      sym a.value_is ∙ (ap (λ (n : ℕ). get_or locks n 0) own ∙ b.value_is)

  kept_alone : (k : Keeping) → keeping_of log ≡ k → (locks : List ℕ) (one other : ℕ × ℕ) → CanKeep k locks → Contains (kept_as k log locks) one →
      Contains (kept_as k log locks) other → one.0 ≡ other.0 → one.1 ≡ other.1
  kept_alone Masked is locks one other can c d same = elim (contains_cases (0, mask_with locks) [] one c) [
    | inr none ↦ absurd (contains_none one none)
    | inl e ↦ elim (contains_cases (0, mask_with locks) [] other d) [
      | inr none ↦ absurd (contains_none other none)
      | inl f ↦ ap (λ (p : ℕ × ℕ). p.1) e ∙ sym (ap (λ (p : ℕ × ℕ). p.1) f)
    ]
  ]
  kept_alone Listed is locks one other can c d same = elim (contains_cases (0, length locks) (listed_from log 0 locks) one c) [
    | inl e ↦ elim (contains_cases (0, length locks) (listed_from log 0 locks) other d) [
      | inl f ↦ ap (λ (p : ℕ × ℕ). p.1) e ∙ sym (ap (λ (p : ℕ × ℕ). p.1) f)
      | inr f ↦ absurd (not_first locks other is can (is_listed log 0 locks other f) (sym same ∙ ap (λ (p : ℕ × ℕ). p.0) e))
    ]
    | inr e ↦ elim (contains_cases (0, length locks) (listed_from log 0 locks) other d) [
      | inl f ↦ absurd (not_first locks one is can (is_listed log 0 locks one e) (same ∙ ap (λ (p : ℕ × ℕ). p.0) f))
      | inr f ↦ listed_alone locks one other is can (is_listed log 0 locks one e) (is_listed log 0 locks other f) same
    ]
  ]

  kept_read : (k : Keeping) (locks : List ℕ) (slots : ℕ → ℕ) → CanKeep k locks → HasEach slots (kept_as k log locks) → read_as k log slots ≡ locks
  kept_read Masked locks slots can has =
      ap locks_in (has (0, mask_with locks) (contains_first (0, mask_with locks) [])) ∙ can.read_back
  kept_read Listed locks slots can has =
      ap (λ (n : ℕ). take n (map (λ i. slots (lock_slot log i)) (numbers_from 0 MOST_LISTED)))
      (has (0, length locks) (contains_first (0, length locks) (listed_from log 0 locks)))
      ∙ listed_read log slots 0 MOST_LISTED locks can.few
      (λ kept c. has kept (contains_later (0, length locks) (listed_from log 0 locks) kept c))

none_can : (k : Keeping) → CanKeep k []
none_can Masked = record { fits = omega arith; read_back = no_locks }
none_can Listed = record { few = omega arith; fit = λ lock c. absurd (contains_none lock c) }

room_can : (k : Keeping) (locks : List ℕ) → HasRoom k locks → ((lock : ℕ) → Contains locks lock → lock < 2 ^ 64) → CanKeep k locks
room_can Masked locks room fit = room
room_can Listed locks room fit = record { few = room; fit = fit }

pub locks_kept : AllLocksAreKept
locks_kept log = record {
  none = none_can (keeping_of log);
  room = room_can (keeping_of log);
  each = λ locks kept can c. kept_each log (keeping_of log) refl locks kept can c;
  alone = λ locks one other can c d same. kept_alone log (keeping_of log) refl locks one other can c d same;
  read = λ locks slots can has. kept_read log (keeping_of log) locks slots can has;
}

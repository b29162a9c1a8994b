-- What a bank keeps of a record, each slot with the one value, and what the machine reads of it.
use Rattle.std.proofs.Common.{◌≡◌, ◌≢◌, ◌⊎◌, inl, inr, ℕ, ◌+◌, ◌*◌, ◌^◌, ◌<◌, List, [], ◌∷◌, map, refl, ap, arith, sym, ◌∙◌, subst, true}
use Rattle.std.proofs.Common.{cond, Bool, false, length, Option, None, Some, ◌≤◌}
use Rattle.std.specs.Prelude.{◌==◌}
use Rattle.std.specs.List.{Contains}
use Rattle.std.proofs.lemmas.Bool.{cases_eq, cond-true, cond-false, eq-eqb, ne_eqb}
use Rattle.std.proofs.lemmas.List.Elements.{Contains-append_cases, Contains-append_left, Contains-append_right}
use Rattle.log_schemes.specs.declared.log.Log.{Log}
use Rattle.log_schemes.specs.Layout.{bank_bytes}
use Rattle.log_schemes.specs.declared.addresses.TheConstants.{WRITE_ADDRESS_SLOT, WRITE_BYTES_SLOT, WRITE_VALUE_SLOT}
use Rattle.log_schemes.specs.declared.keeping.Keeping.{Keeping}
use Rattle.log_schemes.specs.declared.keeping.Keeping.TheVariants.{Masked, Listed}
use Rattle.log_schemes.specs.declared.locals.Locals.{Locals}
use Rattle.log_schemes.specs.declared.locals.Locals.TheVariants.{Registers, Frame}
use Rattle.log_schemes.specs.SchemeFacts.{AreLoggable, CanKeep}
use Rattle.log_schemes.specs.Schemes.{keeping_of, keeps_register, kept_as, kept_locks, listed_from, locals_of, locks_read, register_slot, told, told_at}
use Rattle.log_schemes.proofs.Public.{contains_none, contains_first, contains_later, contains_cases, is_listed, locks_kept, scheme}
use Rattle.ido_base.specs.Locks.{mask_with}
use Rattle.boundary_code.specs.Boundaries.{pairs_kept}
use Rattle.ido_base.specs.Words.{Word}
use Rattle.rv64_isa.specs.Rows.{read}
use Rattle.machine_model.specs.Machine.{bank_of, durable_point, recorded}
use Rattle.machine_model.proofs.Public.{resumed_count, resumed_read}
use Rattle.log_states.specs.Logs.{Record, nothing_recorded, kept_in, kept_of, value_of, IsRecord, IsTellable, KeepsForWrite}
use Rattle.log_states.specs.BanksRead.{AllBanksAreRead}

-- ---- Pairs of a slot and a value

-- where a slot has one value, it is that of each pair that has the slot
found : (kept : List (ℕ × ℕ)) (one : ℕ × ℕ) → Contains kept one → ((other : ℕ × ℕ) → Contains kept other → other.0 ≡ one.0 → other.1 ≡ one.1) →
    kept_in kept one.0 ≡ one.1
found [] one c alone = absurd (contains_none one c)
found (first ∷ kept) one c alone =
    let rest : Contains kept one → kept_in kept one.0 ≡ one.1 = λ more. found kept one more
    (λ next d same. alone next (contains_later first kept next d) same) in
    elim (cases_eq one.0 first.0) [
      | inl same ↦ cond-true (one.0 == first.0) first.1 (kept_in kept one.0) (eq-eqb one.0 first.0 same)
          ∙ alone first (contains_first first kept) (sym same)
      | inr other ↦ cond-false (one.0 == first.0) first.1 (kept_in kept one.0) (ne_eqb one.0 first.0 other) ∙ elim (contains_cases first kept one c) [
        | inl is ↦ absurd (other (ap (λ (p : ℕ × ℕ). p.0) is))
        | inr more ↦ rest more
      ]
    ]

-- a register with its slot
pub record HasRegister (log : Log) (live : List ℕ) (slot : ℕ) : Type 0 where
  pub register : ℕ
  pub own : Contains live register
  pub is : slot ≡ register_slot log register

pub has_register : (log : Log) (live : List ℕ) (slot : ℕ) → Contains (map (register_slot log) live) slot → HasRegister log live slot
has_register log [] slot c = absurd (contains_none slot c)
has_register log (first ∷ live) slot c = elim (contains_cases (register_slot log first) (map (register_slot log) live) slot c) [
  | inl is ↦ record { register = first; own = contains_first first live; is = is }
  | inr more ↦ let h = has_register log live slot more in record { register = h.register; own = contains_later first live h.register h.own; is = h.is }
]

pub slot_there : (log : Log) (live : List ℕ) (register : ℕ) → Contains live register → Contains (map (register_slot log) live) (register_slot log register)
slot_there log [] register c = absurd (contains_none register c)
slot_there log (first ∷ live) register c = elim (contains_cases first live register c) [
  | inl is ↦ subst (λ (r : ℕ). Contains (map (register_slot log) (first ∷ live)) (register_slot log r)) (sym is)
      (contains_first (register_slot log first) (map (register_slot log) live))
  | inr more ↦ contains_later (register_slot log first) (map (register_slot log) live) (register_slot log register) (slot_there log live register more)
]

module _ (log : Log) (r : Record) where
  abbrev pair_of : (register : ℕ) → ℕ × ℕ
  pair_of register = (register_slot log register, read r.registers register)

  -- a pair is that of a register
  record IsPairOf (live : List ℕ) (one : ℕ × ℕ) : Type 0 where
    register : ℕ
    own : Contains live register
    is : one ≡ pair_of register

  is_pair : (live : List ℕ) (one : ℕ × ℕ) → Contains (map pair_of live) one → IsPairOf live one
  is_pair [] one c = absurd (contains_none one c)
  is_pair (first ∷ live) one c = elim (contains_cases (pair_of first) (map pair_of live) one c) [
    | inl is ↦ record { register = first; own = contains_first first live; is = is }
    | inr more ↦ let h = is_pair live one more in record { register = h.register; own = contains_later first live h.register h.own; is = h.is }
  ]

  pair_there : (live : List ℕ) (register : ℕ) → Contains live register → Contains (map pair_of live) (pair_of register)
  pair_there [] register c = absurd (contains_none register c)
  pair_there (first ∷ live) register c = elim (contains_cases first live register c) [
    | inl is ↦ subst (λ (n : ℕ). Contains (map pair_of (first ∷ live)) (pair_of n)) (sym is) (contains_first (pair_of first) (map pair_of live))
    | inr more ↦ contains_later (pair_of first) (map pair_of live) (pair_of register) (pair_there live register more)
  ]

  -- a pair keeps locks, is told of a write, or keeps a register
  data IsOf (one : ℕ × ℕ) : Type 0 where
    OfLocks : Contains (kept_locks log r.locks) one → IsOf one
    OfWrite : Contains (told log r.written) one → IsOf one
    OfRegister : IsPairOf r.live one → IsOf one

  is_of : (one : ℕ × ℕ) → Contains (kept_of log r) one → IsOf one
  is_of one c = elim (Contains-append_cases (pairs_kept log r.locks r.written) (map pair_of r.live) one c) [
    | inl pair ↦ elim (Contains-append_cases (kept_locks log r.locks) (told log r.written) one pair) [
      | inl lock ↦ OfLocks lock
      | inr write ↦ OfWrite write
    ]
    | inr register ↦ OfRegister (is_pair r.live one register)
  ]

  module _ (locks_are : AreLoggable log r.locks) (live_are : (register : ℕ) → Contains r.live register → keeps_register log register ≡ true)
      (for_write : KeepsForWrite log r.written r.live) where
    lock_not_register : (lock held : ℕ × ℕ) → Contains (kept_locks log r.locks) lock → IsPairOf r.live held → lock.0 ≢ held.0
    lock_not_register lock held a p e =
        ((locks_kept log).each r.locks lock locks_are a).apart p.register (live_are p.register p.own) (e ∙ ap (λ (q : ℕ × ℕ). q.0) p.is)

    lock_not_told : (lock write : ℕ × ℕ) → Contains (kept_locks log r.locks) lock → Contains (told log r.written) write → lock.0 ≢ write.0
    lock_not_told lock write a d same = by (keeping_of log) refl locks_are a
      where
        by : (keeping : Keeping) → keeping_of log ≡ keeping → CanKeep keeping r.locks → Contains (kept_as keeping log r.locks) lock → ⊥
        by Masked e can c = elim (contains_cases (0, mask_with r.locks) [] lock c) [
          | inl is ↦ let some = ((scheme log).told.own r.written write d).some in omega (arith, some, same, ap (λ (q : ℕ × ℕ). q.0) is)
          | inr none ↦ contains_none lock none
        ]
        by Listed e can c = elim (contains_cases (0, length r.locks) (listed_from log 0 r.locks) lock c) [
          | inl is ↦ let some = ((scheme log).told.own r.written write d).some in omega (arith, some, same, ap (λ (q : ℕ × ℕ). q.0) is)
          | inr more ↦
              let l = is_listed log 0 r.locks lock more in
              let few = can.few in
              let below = l.below in
              (scheme log).told.lock r.written write (0 + l.place) d e (omega (arith, few, below)) (sym same ∙ l.slot_is)
        ]

    told_not_register : (write held : ℕ × ℕ) → Contains (told log r.written) write → IsPairOf r.live held → write.0 ≢ held.0
    told_not_register write held d p e = by r.written refl
      where
        none_told : (locals : Locals) → locals_of log ≡ locals → r.written ≡ None → Contains (told_at locals None) write → ⊥
        none_told Registers at none c = contains_none write c
        none_told Frame at none c = contains_none p.register (subst (λ (live : List ℕ). Contains live p.register) (for_write at none) p.own)

        by : (written : Option ℕ) → r.written ≡ written → ⊥
        by None is = none_told (locals_of log) refl is (subst (λ (o : Option ℕ). Contains (told log o) write) is d)
        by (Some bytes) is =
            (scheme log).told.register bytes p.register write (subst (λ (o : Option ℕ). Contains (told log o) write) is d) (live_are p.register p.own)
            (e ∙ ap (λ (q : ℕ × ℕ). q.0) p.is)

    alone : (one other : ℕ × ℕ) → Contains (kept_of log r) one → Contains (kept_of log r) other → other.0 ≡ one.0 → other.1 ≡ one.1
    alone one other c d same = by (is_of one c) (is_of other d)
      where
        by : IsOf one → IsOf other → other.1 ≡ one.1
        by (OfLocks a) (OfLocks b) = (locks_kept log).alone r.locks other one locks_are b a same
        by (OfLocks a) (OfWrite b) = absurd (lock_not_told one other a b (sym same))
        by (OfLocks a) (OfRegister q) = absurd (lock_not_register one other a q (sym same))
        by (OfWrite a) (OfLocks b) = absurd (lock_not_told other one b a same)
        by (OfWrite a) (OfWrite b) = (scheme log).told.alone r.written other one b a same
        by (OfWrite a) (OfRegister q) = absurd (told_not_register one other a q (sym same))
        by (OfRegister p) (OfLocks b) = absurd (lock_not_register other one b p same)
        by (OfRegister p) (OfWrite b) = absurd (told_not_register other one b p same)
        by (OfRegister p) (OfRegister q) =
            let slots : register_slot log q.register ≡ register_slot log p.register =
            sym (ap (λ (z : ℕ × ℕ). z.0) q.is) ∙ (same ∙ ap (λ (z : ℕ × ℕ). z.0) p.is) in
            let registers : q.register ≡ p.register =
            (scheme log).apart.register_apart q.register p.register (live_are q.register q.own) (live_are p.register p.own) slots in
            ap (λ (z : ℕ × ℕ). z.1) q.is ∙ (ap (λ (n : ℕ). read r.registers n) registers ∙ sym (ap (λ (z : ℕ × ℕ). z.1) p.is))

    pub pair_value : (one : ℕ × ℕ) → Contains (pairs_kept log r.locks r.written) one → value_of log r one.0 ≡ one.1
    pair_value one c =
        let there = Contains-append_left (pairs_kept log r.locks r.written) (map pair_of r.live) one c in
        found (kept_of log r) one there (λ other d same. alone one other there d same)

    pub lock_value : (one : ℕ × ℕ) → Contains (kept_locks log r.locks) one → value_of log r one.0 ≡ one.1
    lock_value one c = pair_value one (Contains-append_left (kept_locks log r.locks) (told log r.written) one c)

    pub register_value : (register : ℕ) → Contains r.live register → value_of log r (register_slot log register) ≡ read r.registers register
    register_value register c =
        let there = Contains-append_right (pairs_kept log r.locks r.written) (map pair_of r.live) (pair_of register) (pair_there r.live register c) in
        found (kept_of log r) (pair_of register) there (λ other d same. alone (pair_of register) other there d same)

-- ---- What the machine reads

pub banks_read : AllBanksAreRead
banks_read log = record {
  locks = λ words thread locks are some has.
      cond-false (durable_point log words thread == 0) [] (locks_read log (recorded log words thread)) (ne_eqb (durable_point log words thread) 0 some)
      ∙ (locks_kept log).read locks (recorded log words thread) are has;
  registers = λ words thread register keeps.
      let own = (scheme log).apart.registers register keeps in
      let offset : ℕ = bank_bytes log * bank_of (durable_point log words thread) in
      let kept : ℕ = recorded log words thread (register_slot log register) in
      resumed_read log words thread register own.1
      ∙ (cond-false (register == 3) offset (cond (keeps_register log register) kept 0) (ne_eqb register 3 own.2)
      ∙ cond-true (keeps_register log register) kept 0 keeps);
  side = λ words thread.
      let offset : ℕ = bank_bytes log * bank_of (durable_point log words thread) in
      record {
        count = resumed_count log words thread;
        zero_is = resumed_read log words thread 0 (omega arith)
            ∙ none_kept log words thread;
        offset = resumed_read log words thread 3 (omega arith);
        exists = omega arith;
      };
}
  where
    none_kept : (log : Log) (words : List Word) (thread : ℕ) →
        cond (keeps_register log 0) (recorded log words thread (register_slot log 0)) 0 ≡ 0
    none_kept log words thread = elim (cases_kept (keeps_register log 0) refl) [
      | inl kept ↦ absurd (let own = ((scheme log).apart.registers 0 kept).0 in omega (arith, own))
      | inr none ↦ cond-false (keeps_register log 0) (recorded log words thread (register_slot log 0)) 0 none
    ]
      where
        cases_kept : (b : Bool) → keeps_register log 0 ≡ b → (keeps_register log 0 ≡ true) ⊎ (keeps_register log 0 ≡ false)
        cases_kept true e = inl e
        cases_kept false e = inr e

-- a small number of bytes can be told
none_some : (bytes : ℕ) → None ≡ Some bytes → ⊥
none_some bytes e = subst is_none e tt
  where
    is_none : Option ℕ → Type 0
    is_none None = Unit {0}
    is_none (Some b) = ⊥

told_fits : (locals : Locals) (written : Option ℕ) → ((bytes : ℕ) → written ≡ Some bytes → bytes ≤ 8) → (pair : ℕ × ℕ) →
    Contains (told_at locals written) pair → pair.1 < 2 ^ 64
told_fits Registers written small pair c = absurd (contains_none pair c)
told_fits Frame None small pair c = elim (contains_cases (WRITE_ADDRESS_SLOT, 0) ((WRITE_VALUE_SLOT, 0) ∷ (WRITE_BYTES_SLOT, 0) ∷ []) pair c) [
  | inl is ↦ omega (arith, ap (λ (q : ℕ × ℕ). q.1) is)
  | inr more ↦ elim (contains_cases (WRITE_VALUE_SLOT, 0) ((WRITE_BYTES_SLOT, 0) ∷ []) pair more) [
    | inl is ↦ omega (arith, ap (λ (q : ℕ × ℕ). q.1) is)
    | inr rest ↦ elim (contains_cases (WRITE_BYTES_SLOT, 0) [] pair rest) [
      | inl is ↦ omega (arith, ap (λ (q : ℕ × ℕ). q.1) is)
      | inr none ↦ absurd (contains_none pair none)
    ]
  ]
]
told_fits Frame (Some bytes) small pair c = elim (contains_cases (WRITE_BYTES_SLOT, bytes) [] pair c) [
  | inl is ↦ let few = small bytes refl in omega (arith, few, ap (λ (q : ℕ × ℕ). q.1) is)
  | inr none ↦ absurd (contains_none pair none)
]

pub is_tellable : (log : Log) (written : Option ℕ) → ((bytes : ℕ) → written ≡ Some bytes → bytes ≤ 8) → IsTellable log written
is_tellable log written small pair c = told_fits (locals_of log) written small pair c

-- each log can hold that nothing is recorded
pub nothing_is_record : (log : Log) → IsRecord log nothing_recorded
nothing_is_record log = record {
  point = omega arith;
  locks = (locks_kept log).none;
  live = λ slot c. absurd (contains_none slot c);
  registers = λ slot c. absurd (contains_none slot c);
  told = is_tellable log None (λ bytes e. absurd (none_some bytes e));
  for_write = λ _ _. refl;
  framed = λ word c. absurd (contains_none word c);
  frame = λ word c. absurd (contains_none word c);
}

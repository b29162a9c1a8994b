-- What each scheme owes, by its cases.
use Rattle.std.proofs.Common.{◌≡◌, ◌≢◌, ◌⊎◌, inl, inr, ℕ, ◌%◌, ◌<◌, [], ◌∷◌, Option, None, Some, ap, sym, ◌∙◌, refl, arith, true, lit<, lit≤}
use Rattle.std.proofs.lemmas.Bool.Decides.{nat_tests}
use Rattle.memory_layout.specs.Roles.{bank_offset, is_kept}
use Rattle.std.specs.List.{Contains}
use Rattle.log_schemes.specs.declared.log.Log.{Log}
use Rattle.log_schemes.specs.declared.log.Log.TheVariants.{V1, V2, Justdo}
use Rattle.log_schemes.specs.declared.size.LogSize.TheVariants.{Lines16, Lines32}
use Rattle.log_schemes.specs.Schemes.{every_register, is_pending, told}
use Rattle.log_schemes.specs.SchemeFacts.{BanksStand, FrameStands, SchemesOwe, SizesHold, ToldIsApart}
use Rattle.log_schemes.proofs.Contents.{contains_none, contains_cases}

pub size_holds : SizesHold
size_holds Lines16 = record {
  lines = lit< tt;
  few = lit≤ tt;
  few_in_bank = lit≤ tt;
  some = lit≤ tt;
  whole = refl;
  before = lit≤ tt;
  room = lit≤ tt;
  near = lit≤ tt;
  bits = refl;
}
size_holds Lines32 = record {
  lines = lit< tt;
  few = lit≤ tt;
  few_in_bank = lit≤ tt;
  some = lit≤ tt;
  whole = refl;
  before = lit≤ tt;
  room = lit≤ tt;
  near = lit≤ tt;
  bits = refl;
}

-- ---- Where slots stand

banks_stand : (log : Log) → BanksStand log
banks_stand V1 = record {
  lines = omega arith;
  address = λ thread bank slot. omega arith;
  begins = λ bank. omega arith;
  inside = λ bank slot two below. omega arith;
  apart = λ one other slot beside two also below beneath same. omega arith;
}
banks_stand V2 = record {
  lines = omega arith;
  address = λ thread bank slot. omega arith;
  begins = λ bank. omega arith;
  inside = λ bank slot two below. omega arith;
  apart = λ one other slot beside two also below beneath same. omega arith;
}
banks_stand Justdo = record {
  lines = omega arith;
  address = λ thread bank slot. omega arith;
  begins = λ bank. omega arith;
  inside = λ bank slot two below. omega arith;
  apart = λ one other slot beside two also below beneath same. omega arith;
}

frame_stands : (log : Log) → FrameStands log
frame_stands V1 = record {
  address = λ thread word. omega arith;
  inside = λ word is below. absurd (let z : ⊥ = cc in z);
  apart = λ word bank slot is below two beneath same. absurd (let z : ⊥ = cc in z);
}
frame_stands V2 = record {
  address = λ thread word. omega arith;
  inside = λ word is below. absurd (let z : ⊥ = cc in z);
  apart = λ word bank slot is below two beneath same. absurd (let z : ⊥ = cc in z);
}
frame_stands Justdo = record {
  address = λ thread word. omega arith;
  inside = λ word is below. omega (arith, below);
  apart = λ word bank slot is below two beneath same. omega (arith, below, two, beneath, same);
}

-- ---- Slots of registers and locks

pub is_every : (register : ℕ) → every_register register ≡ true → (0 < register) × (register < 32) × (register ≢ bank_offset)
is_every register e = (grind (arith, nat_tests), grind (arith, nat_tests), grind (arith, nat_tests))

every_kept : (register : ℕ) → is_kept register ≡ true → every_register register ≡ true
every_kept register kept = grind (arith, nat_tests)

-- the slot of x28 is 1, that of x29 is 2
pub is_one_pending : (register : ℕ) → is_pending register ≡ true → (register ≡ 28) ⊎ (register ≡ 29)
is_one_pending register e = grind (arith, nat_tests)

none_told : (log : Log) → ((written : Option ℕ) (pair : ℕ × ℕ) → Contains (told log written) pair → ⊥) → ToldIsApart log
none_told log none = record {
  own = λ written pair c. absurd (none written pair c);
  alone = λ written one other c d same. absurd (none written one c);
  lock = λ written pair index c is below same. none written pair c;
  register = λ bytes register pair c e same. none (Some bytes) pair c;
}

-- where each write has a record
told_below : (written : Option ℕ) (pair : ℕ × ℕ) → Contains (told Justdo written) pair → (0 < pair.0) × (pair.0 < 4)
told_below None pair c = elim (contains_cases (1, 0) ((2, 0) ∷ (3, 0) ∷ []) pair c) [
  | inl e ↦ let is : pair.0 ≡ 1 = ap (λ (p : ℕ × ℕ). p.0) e in (omega (arith, is), omega (arith, is))
  | inr more ↦ elim (contains_cases (2, 0) ((3, 0) ∷ []) pair more) [
    | inl e ↦ let is : pair.0 ≡ 2 = ap (λ (p : ℕ × ℕ). p.0) e in (omega (arith, is), omega (arith, is))
    | inr last ↦ elim (contains_cases (3, 0) [] pair last) [
      | inl e ↦ let is : pair.0 ≡ 3 = ap (λ (p : ℕ × ℕ). p.0) e in (omega (arith, is), omega (arith, is))
      | inr none ↦ absurd (contains_none pair none)
    ]
  ]
]
told_below (Some bytes) pair c = elim (contains_cases (3, bytes) [] pair c) [
  | inl e ↦ let is : pair.0 ≡ 3 = ap (λ (p : ℕ × ℕ). p.0) e in (omega (arith, is), omega (arith, is))
  | inr none ↦ absurd (contains_none pair none)
]

-- where none comes, each value is 0
told_zero : (pair : ℕ × ℕ) → Contains (told Justdo None) pair → pair.1 ≡ 0
told_zero pair c = elim (contains_cases (1, 0) ((2, 0) ∷ (3, 0) ∷ []) pair c) [
  | inl e ↦ ap (λ (p : ℕ × ℕ). p.1) e
  | inr more ↦ elim (contains_cases (2, 0) ((3, 0) ∷ []) pair more) [
    | inl e ↦ ap (λ (p : ℕ × ℕ). p.1) e
    | inr last ↦ elim (contains_cases (3, 0) [] pair last) [
      | inl e ↦ ap (λ (p : ℕ × ℕ). p.1) e
      | inr none ↦ absurd (contains_none pair none)
    ]
  ]
]

told_bytes : (bytes : ℕ) (pair : ℕ × ℕ) → Contains (told Justdo (Some bytes)) pair → pair ≡ (3, bytes)
told_bytes bytes pair c = elim (contains_cases (3, bytes) [] pair c) [
  | inl e ↦ e
  | inr none ↦ absurd (contains_none pair none)
]

told_alone : (written : Option ℕ) (one other : ℕ × ℕ) → Contains (told Justdo written) one → Contains (told Justdo written) other → one.1 ≡ other.1
told_alone None one other c d = told_zero one c ∙ sym (told_zero other d)
told_alone (Some bytes) one other c d = ap (λ (p : ℕ × ℕ). p.1) (told_bytes bytes one c) ∙ sym (ap (λ (p : ℕ × ℕ). p.1) (told_bytes bytes other d))

told_apart : (log : Log) → ToldIsApart log
told_apart V1 = none_told V1 (λ written pair c. contains_none pair c)
told_apart V2 = none_told V2 (λ written pair c. contains_none pair c)
told_apart Justdo = record {
  own = λ written pair c. let low = told_below written pair c in let below = low.1 in record { some = low.0; exists = omega (arith, below) };
  alone = λ written one other c d same. told_alone written one other c d;
  lock = λ written pair index c is below same. let low = (told_below written pair c).1 in omega (arith, low, same);
  register = λ bytes register pair c e same.
      let three : pair.0 ≡ 3 = ap (λ (p : ℕ × ℕ). p.0) (told_bytes bytes pair c) in
      elim (is_one_pending register e) [
        | inl is ↦ omega (arith, three, same, is)
        | inr is ↦ omega (arith, three, same, is)
      ];
}

pending_kept : (register : ℕ) → is_pending register ≡ true → (0 < register) × (register < 32) × (register ≢ bank_offset)
pending_kept register e = elim (is_one_pending register e) [
  | inl is ↦ (omega (arith, is), omega (arith, is), λ same. omega (arith, is, same))
  | inr is ↦ (omega (arith, is), omega (arith, is), λ same. omega (arith, is, same))
]

pending_slot : (register : ℕ) → is_pending register ≡ true → (0 < register % 27) × (register % 27 < 3)
pending_slot register e = elim (is_one_pending register e) [
  | inl is ↦ (omega (arith, is), omega (arith, is))
  | inr is ↦ (omega (arith, is), omega (arith, is))
]

pending_alone : (one other : ℕ) → is_pending one ≡ true → is_pending other ≡ true → one % 27 ≡ other % 27 → one ≡ other
pending_alone one other e f same = elim (is_one_pending one e) [
  | inl is ↦ elim (is_one_pending other f) [
    | inl at ↦ omega (arith, is, at)
    | inr at ↦ absurd (omega (arith, is, at, same))
  ]
  | inr is ↦ elim (is_one_pending other f) [
    | inl at ↦ absurd (omega (arith, is, at, same))
    | inr at ↦ omega (arith, is, at)
  ]
]

pub scheme : SchemesOwe
scheme V1 = record {
  frame = frame_stands V1;
  told = told_apart V1;
  stands = banks_stand V1;
  apart = record {
    registers = is_every;
    kept = every_kept;
    register = λ register e. let below = (is_every register e).1 in let some = (is_every register e).0 in record { some = some; exists = omega (arith, below) };
    register_apart = λ one other e f same. same;
    lock = λ index is below. absurd (let z : ⊥ = cc in z);
    lock_apart = λ one other is below beneath same. absurd (let z : ⊥ = cc in z);
    lock_register = λ index register is below e. absurd (let z : ⊥ = cc in z);
  };
}
scheme Justdo = record {
  frame = frame_stands Justdo;
  told = told_apart Justdo;
  stands = banks_stand Justdo;
  apart = record {
    registers = pending_kept;
    kept = λ register e. e;
    register = λ register e. let at = pending_slot register e in let below = at.1 in record { some = at.0; exists = omega (arith, below) };
    register_apart = pending_alone;
    lock = λ index is below. record { some = omega arith; exists = omega (arith, below) };
    lock_apart = λ one other is below beneath same. omega (arith, same);
    lock_register = λ index register is below e same. let under = (pending_slot register e).1 in omega (arith, same, under);
  };
}
scheme V2 = record {
  frame = frame_stands V2;
  told = told_apart V2;
  stands = banks_stand V2;
  apart = record {
    registers = is_every;
    kept = every_kept;
    register = λ register e. let below = (is_every register e).1 in let some = (is_every register e).0 in record { some = some; exists = omega (arith, below) };
    register_apart = λ one other e f same. same;
    lock = λ index is below. record { some = omega arith; exists = omega (arith, below) };
    lock_apart = λ one other is below beneath same. omega (arith, same);
    lock_register = λ index register is below e same. let under = (is_every register e).1 in omega (arith, same, under);
  };
}

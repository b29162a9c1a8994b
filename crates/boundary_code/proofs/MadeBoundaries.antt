-- Code that is made as a boundary wants it is its code.
use Rattle.std.proofs.Common.{◌≡◌, ℕ, ◌+◌, ◌<◌, ◌≤◌, List, [], ◌∷◌, ◌++◌, length, map, refl, ap, sym, ◌∙◌, Bool, true, false, if◌then◌else◌}
use Rattle.std.specs.Prelude.{ℤ, pos, negsuc, ◌≤ℤ◌, Option, Some}
use Rattle.std.proofs.lemmas.List.{map-append}
use Rattle.std.specs.List.{list_all}
use Rattle.std.proofs.lemmas.Bool.{true≢false}
use Rattle.ido_base.specs.declared.limits.TheConstants.{MOST_THREADS}
use Rattle.log_schemes.specs.Layout.{log_of}
use Rattle.log_schemes.specs.declared.log.Log.{Log}
use Rattle.log_schemes.specs.declared.keeping.Keeping.{Keeping}
use Rattle.log_schemes.specs.declared.keeping.Keeping.TheVariants.{Masked, Listed}
use Rattle.log_schemes.specs.Schemes.{keeping_of, kept_as, kept_locks, listed_from, lock_slot, may_keep, numbers_from, register_slot, told}
use Rattle.rv64_isa.specs.declared.instr.Instr.{Instr}
use Rattle.rv64_isa.specs.Signed.{twos_complement}
use Rattle.operator_code.specs.StraightLineCode.{IsConstant}
use Rattle.boundary_code.specs.Boundaries.{Boundary, IsBoundaryCode, boundary_list, first_kept, is_empty, keep_locks}
use Rattle.boundary_code.specs.Boundaries.{listed_locks, slots_kept}
use Rattle.boundary_code.specs.links.InstructionLists.{Beside, bank_list, beside_of, last_list}

-- the same list by other names of its parts
renamed : (log : Log) (a a' f f' o o' : List Instr) (s s' : Beside) (r r' : ℤ) → a' ≡ a → f' ≡ f → o' ≡ o → s' ≡ s → r' ≡ r →
    bank_list log a' f' o' s' (twos_complement 32 r') ≡ bank_list log a f o s (twos_complement 32 r)
renamed log a a' f f' o o' s s' r r' ea ef eo es er =
    ap (λ (is : List Instr). bank_list log is f' o' s' (twos_complement 32 r')) ea
    ∙ ap (λ (is : List Instr). bank_list log a is o' s' (twos_complement 32 r')) ef
    ∙ ap (λ (is : List Instr). bank_list log a f is s' (twos_complement 32 r')) eo
    ∙ ap (λ (beside : Beside). bank_list log a f o beside (twos_complement 32 r')) es
    ∙ ap (λ (z : ℤ). bank_list log a f o s (twos_complement 32 z)) er

-- ---- The slots of locks

-- what a bank keeps of locks: slot 0, and the slots of those that are listed
pub kept_parts : (k : Keeping) (log : Log) (locks : List ℕ) → kept_as k log locks ≡ (0, first_kept k locks) ∷ listed_from log 0 (listed_locks k locks)
kept_parts Masked log locks = refl
kept_parts Listed log locks = refl

slots_listed : (log : Log) (index : ℕ) (locks : List ℕ) →
    map (λ (one : ℕ × ℕ). one.0) (listed_from log index locks) ≡ map (lock_slot log) (numbers_from index (length locks))
slots_listed log index [] = refl
slots_listed log index (lock ∷ locks) = ap (λ (ns : List ℕ). lock_slot log index ∷ ns) (slots_listed log (index + 1) locks)

pub slots_are : (log : Log) (locks : List ℕ) (written : Option ℕ) (live : List ℕ) (count : ℕ) → count ≡ length (listed_locks (keeping_of log) locks) →
    ((0 ∷ map (lock_slot log) (numbers_from 0 count)) ++ map (λ (one : ℕ × ℕ). one.0) (told log written)) ++ map (register_slot log) live
    ≡ slots_kept log locks written live
slots_are log locks written live count many =
    let telling : List ℕ = map (λ (one : ℕ × ℕ). one.0) (told log written) in
    ap (λ (n : ℕ). ((0 ∷ map (lock_slot log) (numbers_from 0 n)) ++ telling) ++ map (register_slot log) live) many
    ∙ ap (λ (ns : List ℕ). ((0 ∷ ns) ++ telling) ++ map (register_slot log) live) (sym (slots_listed log 0 (listed_locks (keeping_of log) locks)))
    ∙ ap (λ (ks : List (ℕ × ℕ)). (map (λ (one : ℕ × ℕ). one.0) ks ++ telling) ++ map (register_slot log) live)
    (sym (kept_parts (keeping_of log) log locks))
    ∙ ap (λ (ns : List ℕ). ns ++ map (register_slot log) live)
    (sym (map-append (λ (one : ℕ × ℕ). one.0) (kept_locks log locks) (told log written)))

-- ---- Boundaries

-- the list of instructions, by whether a lock is held
pub with_none : (b : Boundary) (address first : List Instr) (codes : List (List Instr)) → is_empty b.locks ≡ true →
    boundary_list b address first codes ≡ last_list address
with_none b address first codes none =
    let others : List Instr = keep_locks b.log 0 codes in
    ap (λ (z : Bool). if z then last_list address
    else bank_list b.log address first others (beside_of b) (twos_complement 32 b.resume)) none

pub with_some : (b : Boundary) (address first : List Instr) (codes : List (List Instr)) → is_empty b.locks ≡ false →
    boundary_list b address first codes ≡
    bank_list b.log address first (keep_locks b.log 0 codes) (beside_of b) (twos_complement 32 b.resume)
with_some b address first codes some =
    let others : List Instr = keep_locks b.log 0 codes in
    ap (λ (z : Bool). if z then last_list address
    else bank_list b.log address first others (beside_of b) (twos_complement 32 b.resume)) some

-- what is known of one where it is made
pub record Parts (b : Boundary) (codes : List (List Instr)) (address : List Instr) : Type 0 where
  pub is_log : IsConstant 31 (log_of b.log b.thread) address
  pub many : length codes ≡ length (listed_locks (keeping_of b.log) b.locks)
  pub few : length codes ≤ 16
  pub thread_is : b.thread < MOST_THREADS
  pub live_are : list_all (may_keep b.log) b.live ≡ true
  pub bytes : (bytes : ℕ) → b.written ≡ Some bytes → bytes ≤ 8
  pub low : negsuc 262143 ≤ℤ b.resume
  pub high : b.resume ≤ℤ pos 262144

pub bank_made : (b : Boundary) (codes : List (List Instr)) (address first a f o : List Instr) (s : Beside) (r : ℤ) (code : List Instr) →
    Parts b codes address → is_empty b.locks ≡ false → IsConstant 7 (first_kept (keeping_of b.log) b.locks) first → a ≡ address → f ≡ first →
    o ≡ keep_locks b.log 0 codes → s ≡ beside_of b → r ≡ b.resume → code ≡ bank_list b.log a f o s (twos_complement 32 r) →
    IsBoundaryCode b codes code
bank_made b codes address first a f o s r code p some constant ea ef eo es er e = record {
  address = address;
  first = first;
  is = e
      ∙ renamed b.log address a first f (keep_locks b.log 0 codes) o (beside_of b) s b.resume r ea ef eo es er
      ∙ sym (with_some b address first codes some);
  is_log = p.is_log;
  is_first = λ _. constant;
  many = p.many;
  few = p.few;
  thread_is = p.thread_is;
  live_are = p.live_are;
  bytes = p.bytes;
  low = p.low;
  high = p.high;
}

pub last_made : (b : Boundary) (codes : List (List Instr)) (address a code : List Instr) → Parts b codes address → is_empty b.locks ≡ true → a ≡ address →
    code ≡ last_list a → IsBoundaryCode b codes code
last_made b codes address a code p none ea e = record {
  address = address;
  first = [];
  is = e ∙ ap (λ (is : List Instr). last_list is) ea ∙ sym (with_none b address [] codes none);
  is_log = p.is_log;
  is_first = λ some. absurd (true≢false (sym none ∙ some));
  many = p.many;
  few = p.few;
  thread_is = p.thread_is;
  live_are = p.live_are;
  bytes = p.bytes;
  low = p.low;
  high = p.high;
}

-- What pieces of a thread's code do, wherever they stand in its linked code.
use Rattle.std.specs.Prelude.{◌≡◌, ◌≢◌, ℕ, ◌+◌, ◌-◌, ◌*◌, ◌/◌, ◌^◌, ◌<◌, ◌≤◌, List, [], ◌∷◌, ◌++◌, length, map, sum_by, Bool, false, if◌then◌else◌, pos}
use Rattle.std.specs.List.{list_any}
use Rattle.log_schemes.specs.declared.keeping.Keeping.{Keeping}
use Rattle.log_schemes.specs.declared.keeping.Keeping.TheVariants.{Masked, Listed}
use Rattle.ido_base.specs.Locks.{locks_in}
use Rattle.ido_ints.specs.declared.kinds.Kind.{Kind}
use Rattle.ido_ints.specs.Kinds.{bytes_of}
use Rattle.rv64_isa.specs.declared.instr.Instr.{Instr}
use Rattle.rv64_isa.specs.declared.instr.Instr.TheVariants.{Ecall, Store}
use Rattle.rv64_isa.specs.declared.instr.StoreKind.TheVariants.{Sd}
use Rattle.rv64_isa.specs.declared.object.CodeItem.{CodeItem}
use Rattle.rv64_isa.specs.declared.object.CodeItem.TheVariants.{Instruction}
use Rattle.rv64_isa.specs.Rows.{Stores, Cleans, row, read}
use Rattle.rv64_link.specs.LabelledCode.{most_words_of, stands_here, is_mark, is_resume, positions_from, fences_in}
use Rattle.rv64_link.specs.LinkedCode.{IsInstructionAt}
use Rattle.memory_layout.specs.Roles as roles
use Rattle.memory_layout.specs.Roles.{is_temporary}
use Rattle.boundary_code.specs.Boundaries.{Boundary, IsOnSide, boundary_effects, side_after, is_empty, lists_of, words_beside}
use Rattle.operator_code.specs.declared.branches.Test.{Test}
use Rattle.operator_code.specs.ComputingCode.{AreRegisters, passes}
use Rattle.code_runs.specs.ComputingRuns as r
use Rattle.code_runs.specs.ComputingRuns.{Environment, config}
use Rattle.code_runs.specs.CodeTraces.{Observation, Mark, Does, GoesThrough, seen_effects, marked}
use Rattle.node_code.specs.declared.kept.Kept as kept
use Rattle.node_code.specs.declared.kept.KeptLocks.{KeptLocks}
use Rattle.node_code.specs.declared.kept.KeptLocks.TheVariants.{Mask, Numbers}
use Rattle.node_code.specs.Cleans.{cleans_in, IsStoreThenClean}
use Rattle.node_code.specs.BoundaryCode.{CleansInBoundary}
use Rattle.node_code.specs.Numbers.{AsksNumber, LeaveLocks}
use Rattle.node_code.specs.Sites.{Site, mark_waits, begin_of, end_of, label_of}

-- the items are what was there, and a piece after that
pub record Appends (old new : List CodeItem) (Is : List CodeItem → Type 0) : Type 0 where
  pub piece : List CodeItem
  pub appended : new ≡ old ++ piece
  pub is : Is piece

-- no label stands in a piece, and no mark waits after it
pub record IsClosed (piece : List CodeItem) : Type 0 where
  pub waits : mark_waits false piece ≡ false
  pub labels : (label : ℕ) → list_any (stands_here label) piece ≡ false

-- the addresses of its marks, and where it may be resumed
abbrev pub marks_in : (piece : List CodeItem) → Site piece → List ℕ
marks_in piece at = map at.linking.linked.address_of (positions_from at.position is_mark piece)

abbrev pub resumes_in : (piece : List CodeItem) → Site piece → List ℕ
resumes_in piece at = map at.linking.linked.address_of (positions_from at.position is_resume piece)

-- how many words its code has
abbrev pub words_in : (piece : List CodeItem) → Site piece → ℕ
words_in piece at = (end_of piece at - begin_of piece at) / 4

-- from registers at an address the piece's code leads to an address, in no more steps than it has words
abbrev pub PieceLeads : {piece : List CodeItem} → Site piece → (x : List ℕ) → (from to : ℕ) → List Observation → (has : List ℕ → Type 0) → Type 0
PieceLeads {piece} at x from to observations has =
    GoesThrough at.linking.environment (record { registers = x; from = from; to = to; most = words_in piece at }) observations has

-- ---- Stores

-- the store, and the clean of its line where it stands there
abbrev pub store_observations : (address bytes value : ℕ) → (cleans : Bool) → List Observation
store_observations address bytes value cleans = Mark ∷ Does (Stores address bytes value) ∷ (if cleans then Does (Cleans address) ∷ [] else [])

-- the pending store is made, by the first instruction
pub record Makes (kind : Kind) (cleans : Bool) (piece : List CodeItem) (at : Site piece) : Type 0 where
  pub makes : (x : List ℕ) → AreRegisters x → read x roles.pending_address < 2 ^ 64 →
      PieceLeads at x (begin_of piece at) (end_of piece at) (store_observations (read x roles.pending_address) (bytes_of kind) (read x roles.pending_value)
      cleans) (λ y. y ≡ x)
  pub instr : Instr
  pub stands : IsInstructionAt at.linking.program.start at.linking.program.code (begin_of piece at) instr
  pub first : (x : List ℕ) → read x roles.pending_address < 2 ^ 64 →
      row instr x (begin_of piece at) ≡ Stores (read x roles.pending_address) (bytes_of kind) (read x roles.pending_value)
  pub marks : marks_in piece at ≡ begin_of piece at ∷ []
  pub resumes : resumes_in piece at ≡ []

pub record IsStorePiece (kind : Kind) (cleans : Bool) (piece : List CodeItem) : Type 0 where
  pub closed : IsClosed piece
  pub few : sum_by most_words_of piece ≤ 2
  pub fences : fences_in piece ≡ 0
  pub code : IsStoreThenClean kind cleans piece
  pub at : (at : Site piece) → Makes kind cleans piece at

-- ---- Boundaries

-- how a log must keep locks for such ones
abbrev pub keeping_for : KeptLocks → Keeping
keeping_for (Mask mask) = Masked
keeping_for (Numbers numbers) = Listed

-- of each lock that is held after the boundary the code of its number, where the log lists locks
abbrev pub codes_of : KeptLocks → List (List Instr)
codes_of (Mask mask) = []
codes_of (Numbers numbers) = lists_of numbers.now

-- the locks that a boundary keeps: those of the mask, or one for each code
abbrev pub MayKeep : KeptLocks → (locks : List ℕ) → Type 0
MayKeep (Mask mask) locks = locks ≡ locks_in mask
MayKeep (Numbers numbers) locks = length locks ≡ length numbers.now

-- the boundary that keeps these locks, and resumes so many bytes after its end
abbrev pub boundary_of : kept.Kept → (locks : List ℕ) → (resume : ℕ) → Boundary
boundary_of k locks resume = record {
  log = k.log;
  thread = k.thread;
  locks = locks;
  live = k.live.now;
  resume = pos resume;
  written = k.written.bytes;
  opens = k.written.opens;
}

-- registers with which its codes leave the numbers of these locks
abbrev pub KeepsFrom : kept.Kept → (locks : List ℕ) → (around : Environment) → (x : List ℕ) → Type 0
KeepsFrom k locks around x = LeaveLocks k.log k.thread locks (codes_of k.locks) around x

-- how many words it has at most, beside one for each live register
abbrev pub kept_words : kept.Kept → ℕ
kept_words k = words_beside k.log (codes_of k.locks)

abbrev pub boundary_observations : Boundary → (side resume : ℕ) → (x : List ℕ) → List Observation
boundary_observations b side resume x = seen_effects (boundary_effects b side resume x)

-- registers y after a boundary at which they were x: only x3 and the temporaries may differ
pub record LeavesRegisters (b : Boundary) (side : ℕ) (x y : List ℕ) : Type 0 where
  pub at_side : IsOnSide b.log (side_after b side) y
  pub others : (r : ℕ) → is_temporary r ≡ false → r ≢ roles.bank_offset → read y r ≡ read x r

-- from registers that have the property the point gets the address of the piece's end, from where the thread may be resumed
pub record Keeps (b : Boundary) (from : Environment → List ℕ → Type 0) (piece : List CodeItem) (at : Site piece) : Type 0 where
  pub keeps : (x : List ℕ) (side : ℕ) → from at.linking.environment.around x → IsOnSide b.log side x →
      PieceLeads at x (begin_of piece at) (end_of piece at) (boundary_observations b side (end_of piece at) x) (LeavesRegisters b side x)
  pub marks : marks_in piece at ≡ []
  pub resumes : resumes_in piece at ≡ end_of piece at ∷ []

-- so many words it has at most, beside one for each live register
pub record IsBoundaryPiece (b : Boundary) (from : Environment → List ℕ → Type 0) (words : ℕ) (piece : List CodeItem) : Type 0 where
  pub closed : IsClosed piece
  pub few : sum_by most_words_of piece ≤ length b.live + words
  pub fences : fences_in piece ≡ 2
  pub cleans : CleansInBoundary b piece
  pub at : (at : Site piece) → Keeps b from piece at

-- whatever locks are kept, it is the boundary that keeps them
abbrev pub IsBoundaryOf : kept.Kept → (piece : List CodeItem) → Type 0
IsBoundaryOf k piece =
    (locks : List ℕ) → MayKeep k.locks locks → IsBoundaryPiece (boundary_of k locks 0) (KeepsFrom k locks) (kept_words k) piece

-- ---- Calls

-- the numbers of calls: one takes a mutex, one gives it back, one ends the thread
abbrev pub takes : ℕ
takes = 1

abbrev pub gives : ℕ
gives = 2

abbrev pub ends : ℕ
ends = 3

-- registers y, in which two of x and temporaries are changed, ask for the call of the lock
pub record Asks (number lock : ℕ) (x y : List ℕ) : Type 0 where
  pub are : AreRegisters y
  pub call : read y roles.call ≡ number
  pub lock_is : read y roles.lock ≡ lock
  pub others : (r : ℕ) → is_temporary r ≡ false → r ≢ roles.lock → r ≢ roles.call → read y r ≡ read x r

-- the call is the mark; after it stands a boundary. Registers with which the call is asked for have the one property, those after it the other
pub record Locks (b : Boundary) (asking from : Environment → List ℕ → Type 0) (lock : ℕ) (piece : List CodeItem) (at : Site piece) : Type 0 where
  pub call : ℕ
  -- it takes three words, with those that set its registers
  pub calling : 3 ≤ words_in piece at
  pub asks : (x : List ℕ) → asking at.linking.environment.around x → AreRegisters x → PieceLeads at x (begin_of piece at) call [] (Asks takes lock x)
  pub stands : IsInstructionAt at.linking.program.start at.linking.program.code call Ecall
  pub keeps : (x : List ℕ) (side : ℕ) → from at.linking.environment.around x → IsOnSide b.log side x →
      PieceLeads at x (call + 4) (end_of piece at) (boundary_observations b side (end_of piece at) x) (LeavesRegisters b side x)
  pub marks : marks_in piece at ≡ call ∷ []
  pub resumes : resumes_in piece at ≡ end_of piece at ∷ []

pub record IsLockPiece (b : Boundary) (asking from : Environment → List ℕ → Type 0) (words lock : ℕ) (piece : List CodeItem) : Type 0 where
  pub closed : IsClosed piece
  pub few : sum_by most_words_of piece ≤ length b.live + words + 2
  pub fences : fences_in piece ≡ 2
  pub cleans : CleansInBoundary b piece
  pub at : (at : Site piece) → Locks b asking from lock piece at

-- whatever locks are kept and whatever lock the code asks for
abbrev pub IsLockOf : kept.Kept → (numbering : List Instr) → (piece : List CodeItem) → Type 0
IsLockOf k numbering piece =
    (locks : List ℕ) (lock : ℕ) → MayKeep k.locks locks →
    IsLockPiece (boundary_of k locks 0) (λ around x. AsksNumber around x lock numbering) (KeepsFrom k locks) (kept_words k + length numbering) lock piece

-- first the mark and a boundary, then the call, which is no mark; the point gets the address after the call, where the thread may be resumed if it still
-- holds a lock
pub record Unlocks (b : Boundary) (asking from : Environment → List ℕ → Type 0) (lock : ℕ) (piece : List CodeItem) (at : Site piece) : Type 0 where
  pub call : ℕ
  -- it takes three words, with those that set its registers
  pub calling : 3 ≤ words_in piece at
  pub asks : (x : List ℕ) (side : ℕ) → asking at.linking.environment.around x → from at.linking.environment.around x → IsOnSide b.log side x →
      PieceLeads at x (begin_of piece at) call (Mark ∷ boundary_observations b side (end_of piece at) x)
      (λ y. (z : List ℕ) × LeavesRegisters b side x z × Asks gives lock z y)
  pub stands : IsInstructionAt at.linking.program.start at.linking.program.code call Ecall
  pub after : end_of piece at ≡ call + 4
  pub plain : marked at.linking.program.nodes call ≡ []
  pub marks : marks_in piece at ≡ begin_of piece at ∷ []
  pub resumes : resumes_in piece at ≡ (if is_empty b.locks then [] else end_of piece at ∷ [])

pub record IsUnlockPiece (b : Boundary) (asking from : Environment → List ℕ → Type 0) (words lock : ℕ) (piece : List CodeItem) : Type 0 where
  pub closed : IsClosed piece
  pub few : sum_by most_words_of piece ≤ length b.live + words + 2
  pub fences : fences_in piece ≡ 2
  pub cleans : CleansInBoundary b piece
  pub at : (at : Site piece) → Unlocks b asking from lock piece at

-- how many bytes lie between the boundary of an unlock and the end of its call, where this code leaves the lock's number
abbrev pub giving_bytes : (numbering : List Instr) → ℕ
giving_bytes numbering = 4 * length numbering + 8

abbrev pub IsUnlockOf : kept.Kept → (numbering : List Instr) → (piece : List CodeItem) → Type 0
IsUnlockOf k numbering piece =
    (locks : List ℕ) (lock : ℕ) → MayKeep k.locks locks →
    IsUnlockPiece (boundary_of k locks (giving_bytes numbering)) (λ around x. AsksNumber around x lock numbering) (KeepsFrom k locks) (kept_words k + length
    numbering) lock
    piece

pub record IsEndPiece (piece : List CodeItem) (at : Site piece) : Type 0 where
  pub call : ℕ
  pub asks : (x : List ℕ) → AreRegisters x → PieceLeads at x (begin_of piece at) call (Mark ∷ []) (λ y. read y roles.call ≡ ends)
  pub stands : IsInstructionAt at.linking.program.start at.linking.program.code call Ecall
  pub after : end_of piece at ≡ call + 4
  pub plain : marked at.linking.program.nodes call ≡ []
  pub marks : marks_in piece at ≡ begin_of piece at ∷ []
  pub resumes : resumes_in piece at ≡ []

pub record IsEnd (piece : List CodeItem) : Type 0 where
  pub closed : IsClosed piece
  pub few : sum_by most_words_of piece ≤ 2
  pub fences : fences_in piece ≡ 0
  pub cleans : cleans_in piece ≡ 0
  pub at : (at : Site piece) → IsEndPiece piece at

-- ---- Evaluation

-- the code stands at the address, and a run of it to its end, by at most one step a word, leads from the one registers to the other
pub record Computed (around : Environment) (code : List Instr) (address : ℕ) (x y : List ℕ) : Type 0 where
  pub run : r.RunsTo around (config x address) (config y (address + 4 * length code))
  pub short : run.steps ≤ length code

-- the mark, and code that only computes: where that leads to its end, the piece does
pub record Computes (code : List Instr) (piece : List CodeItem) (at : Site piece) : Type 0 where
  pub stands : r.HasCodeAt at.linking.environment.around (begin_of piece at) code
  pub room : begin_of piece at + 4 * length code < 2 ^ 64
  pub computes : (x y : List ℕ) → Computed at.linking.environment.around code (begin_of piece at) x y →
      PieceLeads at x (begin_of piece at) (end_of piece at) (Mark ∷ []) (λ z. z ≡ y)
  pub marks : marks_in piece at ≡ begin_of piece at ∷ []
  pub resumes : resumes_in piece at ≡ []

pub record IsComputing (code : List Instr) (piece : List CodeItem) : Type 0 where
  pub closed : IsClosed piece
  pub few : sum_by most_words_of piece ≤ length code + 1
  pub fences : fences_in piece ≡ fences_in (map Instruction code)
  pub cleans : cleans_in piece ≡ cleans_in (map Instruction code)
  pub at : (at : Site piece) → Computes code piece at

-- code that only computes, without a mark
pub record ComputesOn (code : List Instr) (piece : List CodeItem) (at : Site piece) : Type 0 where
  pub stands : r.HasCodeAt at.linking.environment.around (begin_of piece at) code
  pub room : begin_of piece at + 4 * length code < 2 ^ 64
  pub computes : (x y : List ℕ) → Computed at.linking.environment.around code (begin_of piece at) x y →
      PieceLeads at x (begin_of piece at) (end_of piece at) [] (λ z. z ≡ y)
  pub marks : marks_in piece at ≡ []
  pub resumes : resumes_in piece at ≡ []

pub record IsUnmarked (code : List Instr) (piece : List CodeItem) : Type 0 where
  pub closed : IsClosed piece
  pub few : sum_by most_words_of piece ≤ length code
  pub fences : fences_in piece ≡ fences_in (map Instruction code)
  pub cleans : cleans_in piece ≡ cleans_in (map Instruction code)
  pub at : (at : Site piece) → ComputesOn code piece at

-- the mark, code that only computes, and the store of eight bytes that is pending then, which is no mark, and whose line isn't cleaned
pub record ComputesThenStores (code : List Instr) (piece : List CodeItem) (at : Site piece) : Type 0 where
  pub store : ℕ
  pub has_code : r.HasCodeAt at.linking.environment.around (begin_of piece at) code
  pub room : begin_of piece at + 4 * length code < 2 ^ 64
  pub computes : (x y : List ℕ) → Computed at.linking.environment.around code (begin_of piece at) x y →
      PieceLeads at x (begin_of piece at) store (Mark ∷ []) (λ z. z ≡ y)
  pub stands : IsInstructionAt at.linking.program.start at.linking.program.code store (Store Sd roles.pending_value roles.pending_address 0)
  pub does : (x : List ℕ) → read x roles.pending_address < 2 ^ 64 →
      row (Store Sd roles.pending_value roles.pending_address 0) x store ≡ Stores (read x roles.pending_address) 8 (read x roles.pending_value)
  pub stores : (x : List ℕ) → read x roles.pending_address < 2 ^ 64 →
      PieceLeads at x store (end_of piece at) (Does (Stores (read x roles.pending_address) 8 (read x roles.pending_value)) ∷ []) (λ y. y ≡ x)
  pub after : end_of piece at ≡ store + 4
  pub plain : marked at.linking.program.nodes store ≡ []
  pub marks : marks_in piece at ≡ begin_of piece at ∷ []
  pub resumes : resumes_in piece at ≡ []

pub record IsPlainWrite (code : List Instr) (piece : List CodeItem) : Type 0 where
  pub closed : IsClosed piece
  pub few : sum_by most_words_of piece ≤ length code + 2
  pub fences : fences_in piece ≡ fences_in (map Instruction code)
  pub cleans : cleans_in piece ≡ cleans_in (map Instruction code)
  pub at : (at : Site piece) → ComputesThenStores code piece at

-- the mark, code that only computes, and a branch to the label, which is taken where the test is passed after the code
pub record Chooses (code : List Instr) (test : Test) (label : ℕ) (piece : List CodeItem) (at : Site piece) : Type 0 where
  pub stands : r.HasCodeAt at.linking.environment.around (begin_of piece at) code
  pub room : begin_of piece at + 4 * length code < 2 ^ 64
  pub chooses : (x y : List ℕ) → Computed at.linking.environment.around code (begin_of piece at) x y →
      PieceLeads at x (begin_of piece at) (if passes test y then label_of piece at label else end_of piece at) (Mark ∷ []) (λ z. z ≡ y)
  pub marks : marks_in piece at ≡ begin_of piece at ∷ []
  pub resumes : resumes_in piece at ≡ []

pub record IsChoice (code : List Instr) (test : Test) (label : ℕ) (piece : List CodeItem) : Type 0 where
  pub closed : IsClosed piece
  pub few : sum_by most_words_of piece ≤ length code + 2
  pub fences : fences_in piece ≡ fences_in (map Instruction code)
  pub cleans : cleans_in piece ≡ cleans_in (map Instruction code)
  pub at : (at : Site piece) → Chooses code test label piece at

-- ---- Jumps

-- registers stay as they are, and nothing is seen
pub record Jumps (label : ℕ) (piece : List CodeItem) (at : Site piece) : Type 0 where
  pub jumps : (x : List ℕ) → PieceLeads at x (begin_of piece at) (label_of piece at label) [] (λ y. y ≡ x)
  pub marks : marks_in piece at ≡ []
  pub resumes : resumes_in piece at ≡ []

pub record IsJump (label : ℕ) (piece : List CodeItem) : Type 0 where
  pub closed : IsClosed piece
  pub few : sum_by most_words_of piece ≤ 1
  pub fences : fences_in piece ≡ 0
  pub cleans : cleans_in piece ≡ 0
  pub at : (at : Site piece) → Jumps label piece at

-- to the label where the test is passed, else to the piece's end
pub record Branches (test : Test) (label : ℕ) (piece : List CodeItem) (at : Site piece) : Type 0 where
  pub branches : (x : List ℕ) → PieceLeads at x (begin_of piece at) (if passes test x then label_of piece at label else end_of piece at) [] (λ y. y ≡ x)
  pub marks : marks_in piece at ≡ []
  pub resumes : resumes_in piece at ≡ []

pub record IsBranch (test : Test) (label : ℕ) (piece : List CodeItem) : Type 0 where
  pub closed : IsClosed piece
  pub few : sum_by most_words_of piece ≤ 2
  pub fences : fences_in piece ≡ 0
  pub cleans : cleans_in piece ≡ 0
  pub at : (at : Site piece) → Branches test label piece at

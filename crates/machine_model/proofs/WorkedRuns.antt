-- Worked rows: whole runs of code as a compiler may emit it, with evictions, crashes and recovery.
use Rattle.std.proofs.Common.{◌≡◌, ℕ, zero, suc, ◌+◌, ◌-◌, ◌*◌, List, [], ◌∷◌, ◌++◌, length, map, refl, Bool, true, false, cond, take, drop, replicate}
use Rattle.machine_events.specs.declared.event.Event.{Event}
use Rattle.log_schemes.specs.declared.log.Log.TheVariants.{V1}
use Rattle.machine_events.specs.declared.event.Event.TheVariants.{Step, Evict, Crash, Start}
use Rattle.machine_events.specs.declared.event.Reply.TheVariants.{Barrier, Still}
use Rattle.ido_base.specs.Words.{word_at, durable_value, live_value}
use Rattle.ido_base.specs.Layout.{spread_words}
use Rattle.log_schemes.specs.Layout.{initial_words}
use Rattle.ido_base.specs.Locks.{locks_in}
use Rattle.rv64_isa.specs.declared.instr.Instr.{Instr}
use Rattle.rv64_isa.specs.declared.instr.Instr.TheVariants.{Lui, Auipc, Load, Store, OpImmediate, ShiftImmediate, Op, CboClean, Fence, Ecall}
use Rattle.rv64_isa.specs.declared.instr.Operation.TheVariants.{Add}
use Rattle.rv64_isa.specs.declared.instr.ImmediateOperation.TheVariants.{Addi, Xori}
use Rattle.rv64_isa.specs.declared.instr.ShiftOperation.TheVariants.{Slli, Srli}
use Rattle.rv64_isa.specs.declared.instr.LoadKind.TheVariants.{Ld}
use Rattle.rv64_isa.specs.declared.instr.StoreKind.TheVariants.{Sd}
use Rattle.rv64_isa.specs.declared.object.Slot.{Slot}
use Rattle.rv64_isa.specs.declared.object.Slot.TheVariants.{Row}
use Rattle.rv64_isa.specs.Arithmetic.{result_of}
use Rattle.rv64_isa.specs.Rows.{row}
use Rattle.machine_model.specs.Machine.{World, is_settled, can_start, start_of, after_event, after_events, reply_to, happens, after_crash_of, resumed_registers}
use Rattle.machine_model.specs.Schedule.{Steps, schedules, steps_after, first_steps, only_life, stores_point, finishes_fence, released_count}

-- ---- The code of the nodes

move : (r number : ℕ) → Instr
move r number = OpImmediate Addi r 0 number

-- x31 := the thread's log
log : (thread : ℕ) → List Instr
unfolding move
log thread = Lui 31 0x2_0000 ∷ move 30 thread ∷ ShiftImmediate Slli 30 30 10 ∷ Op Add 31 31 30 ∷ []

point : (register : ℕ) → List Instr
point register = Store Sd register 31 0 ∷ CboClean 31 ∷ Fence ∷ []

-- the other bank is stored and durable, and then the point
boundary : (thread mask : ℕ) → (slots cleans : List Instr) → (resume : ℕ) → List Instr
unfolding move log point
boundary thread mask slots cleans resume =
    OpImmediate Xori 3 3 256 ∷ log thread ++ Op Add 30 31 3 ∷ move 7 mask ∷ Store Sd 7 30 64 ∷ slots
    ++ OpImmediate Addi 7 30 64 ∷ CboClean 7 ∷ cleans ++ Fence ∷ Auipc 30 0 ∷ OpImmediate Addi 30 30 (28 + resume) ∷ ShiftImmediate Srli 7 3 8 ∷
    Op Add 30 30 7 ∷ point 30

acquire : (thread lock mask : ℕ) → List Instr
unfolding move boundary
acquire thread lock mask = move 10 lock ∷ move 17 1 ∷ Ecall ∷ boundary thread mask [] [] 0

-- the variable at so many bytes plus the number becomes the pending store
add : (at number : ℕ) → List Instr
unfolding move
add at number = Lui 5 0x1_0000 ∷ Load Ld 5 5 at ∷ move 6 number ∷ Op Add 29 5 6 ∷ Lui 28 0x1_0000 ∷ OpImmediate Addi 28 28 at ∷ []

store : (thread mask : ℕ) → List Instr
unfolding boundary
store thread mask =
    boundary thread mask (Store Sd 28 30 288 ∷ Store Sd 29 30 296 ∷ []) (OpImmediate Addi 7 30 256 ∷ CboClean 7 ∷ []) 0
    ++ Store Sd 29 28 0 ∷ CboClean 28 ∷ []

-- a release after which others are held
release : (thread lock mask : ℕ) → List Instr
unfolding move boundary
release thread lock mask = boundary thread mask [] [] 12 ++ move 10 lock ∷ move 17 2 ∷ Ecall ∷ []

last_release : (thread lock : ℕ) → List Instr
unfolding move log point
last_release thread lock = log thread ++ Fence ∷ point 0 ++ move 10 lock ∷ move 17 2 ∷ Ecall ∷ []

end : List Instr
unfolding move
end = move 17 3 ∷ Ecall ∷ []

-- ---- A node's code, and how far after its first instruction its mark is

record Node : Type 0 where
  code : List Instr
  mark : ℕ

node_acquire : (thread lock mask : ℕ) → Node
node_acquire thread lock mask = record { code = acquire thread lock mask; mark = 2 }

node_store : (thread mask : ℕ) → Node
node_store thread mask = record { code = store thread mask; mark = length (store thread mask) - 2 }

node : List Instr → Node
node code = record { code = code; mark = 0 }

-- lock m; x = x + n; unlock m
one_section : (thread number : ℕ) → List Node
unfolding node node_acquire node_store
one_section thread number = node_acquire thread 0 1 ∷ node (add 0 number) ∷ node_store thread 1 ∷ node (last_release thread 0) ∷ node end ∷ []

-- lock m; x = x + 1; lock n; unlock m; y = y + 1; unlock n
two_locks : List Node
unfolding node node_acquire node_store
two_locks =
    node_acquire 0 0 1 ∷ node (add 0 1) ∷ node_store 0 1 ∷ node_acquire 0 1 3 ∷ node (release 0 0 2)
    ∷ node (add 8 1) ∷ node_store 0 2 ∷ node (last_release 0 1) ∷ node end ∷ []

code_of : List Node → List Slot
code_of [] = []
code_of (n ∷ ns) = map Row n.code ++ code_of ns

marks_of : (address : ℕ) → List Node → List ℕ
marks_of address [] = []
marks_of address (n ∷ ns) = (address + 4 * n.mark) ∷ marks_of (address + 4 * length n.code) ns

programs : List (List Node) → List (List Slot)
unfolding code_of
programs threads = map code_of threads

marks_from : (address : ℕ) → List (List Node) → List (List ℕ)
unfolding marks_of code_of
marks_from address [] = []
marks_from address (ns ∷ more) = marks_of address ns ∷ marks_from (address + 4 * length (code_of ns)) more

-- ---- Runs

-- a world, and the steps begun and kept
record Run : Type 0 where
  world : World
  steps : Steps

module _ (program : List (List Slot)) (marks : List (List ℕ)) where
  make : Event → Run → Run
  make event r = record { world = after_event program r.world event; steps = steps_after marks program r.world event r.steps }

  many : (count : ℕ) → Event → Run → Run
  unfolding make
  many zero event r = r
  many (suc count) event r = many count event (make event r)

  -- steps of a hart up to the one that stores its point, or finishes a fence
  to_point : (most h : ℕ) → Run → Run
  unfolding make
  to_point zero h r = r
  to_point (suc most) h r = cond (stores_point program r.world (Step h) h) (make (Step h) r) (to_point most h (make (Step h) r))

-- what is told of a run: the first two variables as they are durable, the kept schedule, and whether all is settled
record Told : Type 0 where
  x : ℕ
  y : ℕ
  kept : List ℕ
  settled : Bool

told : Run → Told
told r = record {
  x = durable_value (word_at r.world.words 0);
  y = durable_value (word_at r.world.words 1);
  kept = r.steps.kept;
  settled = is_settled r.world;
}

p1 : List (List Slot)
p1 = programs (one_section 0 1 ∷ [])

p1_marks : List (List ℕ)
p1_marks = marks_from 0x1_0000 (one_section 0 1 ∷ [])

p1_start : Run
p1_start = record { world = start_of V1 p1 1 (5 ∷ []); steps = first_steps (only_life []) }

words_of_code : map length p1 ≡ 64 ∷ []
unfolding p1 programs one_section node node_acquire node_store code_of acquire add store last_release end boundary log point move
words_of_code = refl

run_whole : told (many p1 p1_marks 80 (Step 0) p1_start) ≡ record { x = 6; y = 0; kept = 0 ∷ 0 ∷ 0 ∷ 0 ∷ []; settled = true }
unfolding told many make p1_start p1_marks p1 programs marks_from marks_of one_section node node_acquire node_store code_of acquire add store last_release end
    boundary log point move start_of initial_words happens row result_of steps_after
run_whole = refl

-- what is told of several lives: the first variable as it is durable and as it is live, their kept schedules, and whether another may begin
record ToldLives : Type 0 where
  x : ℕ
  now : ℕ
  lives : List (List ℕ)
  may : Bool

told_lives : Run → ToldLives
told_lives r = record {
  x = durable_value (word_at r.world.words 0);
  now = live_value (word_at r.world.words 0);
  lives = schedules r.steps;
  may = can_start r.world;
}

-- a life, and another one
two_lives : told_lives (many p1 p1_marks 80 (Step 0) (make p1 p1_marks Start (many p1 p1_marks 80 (Step 0) p1_start)))
    ≡ record { x = 7; now = 7; lives = (0 ∷ 0 ∷ 0 ∷ 0 ∷ []) ∷ (0 ∷ 0 ∷ 0 ∷ 0 ∷ []) ∷ []; may = true }
unfolding told_lives many make p1_start p1_marks p1 programs marks_from marks_of one_section node node_acquire node_store code_of acquire add store
    last_release end boundary log point move start_of initial_words happens row result_of steps_after
two_lives = refl

-- a life that a crash has ended, one in which a crash comes before any point, and another one
lives_after_crashes :
    told_lives (many p1 p1_marks 80 (Step 0) (make p1 p1_marks Start (make p1 p1_marks Crash (to_point p1 p1_marks 100 0 (make p1 p1_marks Start
    (many p1 p1_marks 80 (Step 0) (make p1 p1_marks Crash (make p1 p1_marks (Evict 1024 1) (to_point p1 p1_marks 100 0 p1_start)))))))))
    ≡ record { x = 7; now = 7; lives = (0 ∷ 0 ∷ 0 ∷ 0 ∷ []) ∷ [] ∷ (0 ∷ 0 ∷ 0 ∷ 0 ∷ []) ∷ []; may = true }
unfolding told_lives to_point many make p1_start p1_marks p1 programs marks_from marks_of one_section node node_acquire node_store code_of acquire add store
    release last_release end boundary log point move start_of after_crash_of resumed_registers locks_in initial_words spread_words happens row
    result_of steps_after
lives_after_crashes = refl

-- in the middle of a life a start changes nothing
none_begins : reply_to p1 (make p1 p1_marks (Step 0) p1_start).world Start ≡ Still
unfolding make p1_start p1_marks p1 programs marks_from marks_of one_section node node_acquire node_store code_of acquire add store last_release end
    boundary log point move start_of initial_words happens row result_of steps_after
none_begins = refl

-- up to the first point's store, and a crash: the point was lost
point_lost : told (make p1 p1_marks Crash (to_point p1 p1_marks 100 0 p1_start)) ≡ record { x = 5; y = 0; kept = []; settled = true }
unfolding told to_point make p1_start p1_marks p1 programs marks_from marks_of one_section node node_acquire node_store code_of acquire add store release
    last_release end boundary log point move start_of after_crash_of resumed_registers locks_in initial_words spread_words happens row result_of steps_after
point_lost = refl

-- up to the first point's store, an eviction of the point's word, and a crash: the point was kept
point_evicted : told (many p1 p1_marks 80 (Step 0) (make p1 p1_marks Crash (make p1 p1_marks (Evict 1024 1) (to_point p1 p1_marks 100 0 p1_start))))
    ≡ record { x = 6; y = 0; kept = 0 ∷ 0 ∷ 0 ∷ 0 ∷ []; settled = true }
unfolding told to_point many make p1_start p1_marks p1 programs marks_from marks_of one_section node node_acquire node_store code_of acquire add store release
    last_release end boundary log point move start_of after_crash_of resumed_registers locks_in initial_words spread_words happens row result_of steps_after
point_evicted = refl

-- up to the last point's store: x is durable, its point isn't given up
three_points : Run
three_points = to_point p1 p1_marks 100 0 (to_point p1 p1_marks 100 0 (to_point p1 p1_marks 100 0 p1_start))

store_again : told (many p1 p1_marks 80 (Step 0) (make p1 p1_marks Crash three_points)) ≡ record { x = 6; y = 0; kept = 0 ∷ 0 ∷ 0 ∷ 0 ∷ []; settled = true }
unfolding three_points told to_point many make p1_start p1_marks p1 programs marks_from marks_of one_section node node_acquire node_store code_of acquire add
    store release last_release end boundary log point move start_of after_crash_of resumed_registers locks_in initial_words spread_words happens row
    result_of steps_after
store_again = refl

-- crashes in each phase of recovery, and after it
crash_after : (count steps : ℕ) → Run → Run
unfolding make many
crash_after zero steps r = r
crash_after (suc count) steps r = crash_after count (steps + 1) (many p1 p1_marks steps (Step 0) (make p1 p1_marks Crash r))

crashes_in_recovery : told (many p1 p1_marks 80 (Step 0) (crash_after 12 1 three_points)) ≡ record { x = 6; y = 0; kept = 0 ∷ 0 ∷ 0 ∷ 0 ∷ []; settled = true }
unfolding crash_after three_points told to_point many make p1_start p1_marks p1 programs marks_from marks_of one_section node node_acquire node_store code_of
    acquire add store release last_release end boundary log point move start_of after_crash_of resumed_registers locks_in
    initial_words spread_words happens row result_of steps_after
crashes_in_recovery = refl

-- ---- Two harts

-- steps of a hart up to the one that finishes so many fences
to_fences : List (List Slot) → List (List ℕ) → (most fences h : ℕ) → Run → Run
unfolding make
to_fences program marks zero fences h r = r
to_fences program marks (suc most) zero h r = r
to_fences program marks (suc most) (suc fences) h r =
    to_fences program marks most (cond (finishes_fence program r.world (Step h) h) fences (suc fences)) h (make program marks (Step h) r)

pair : List (List Slot)
pair = programs (one_section 0 1 ∷ one_section 1 10 ∷ [])

pair_marks : List (List ℕ)
pair_marks = marks_from 0x1_0000 (one_section 0 1 ∷ one_section 1 10 ∷ [])

-- the second hart waits for the lock, and is done at once after the crash
second_waits : told (many pair pair_marks 80 (Step 0) (many pair pair_marks 8 (Step 1) (make pair pair_marks Crash (many pair pair_marks 5 (Step 1)
    (to_fences pair pair_marks 100 2 0 (record { world = start_of V1 pair 1 (5 ∷ []); steps = first_steps (only_life []) }))))))
    ≡ record { x = 6; y = 0; kept = 0 ∷ 0 ∷ 0 ∷ 0 ∷ []; settled = true }
unfolding told to_fences many make pair_marks pair programs marks_from marks_of one_section node node_acquire node_store code_of acquire add store release
    last_release end boundary log point move start_of after_crash_of resumed_registers locks_in initial_words spread_words happens row result_of steps_after
second_waits = refl

-- all six fences of the section are finished and its ECALL isn't reached: the lock is still held, and a crash loses nothing
six_fences : Run
six_fences = to_fences p1 p1_marks 100 6 0 p1_start

still_held : told six_fences ≡ record { x = 6; y = 0; kept = 0 ∷ 0 ∷ 0 ∷ 0 ∷ []; settled = false }
unfolding six_fences told to_fences make p1_start p1_marks p1 programs marks_from marks_of one_section node node_acquire node_store code_of acquire add store
    release last_release end boundary log point move start_of initial_words happens row result_of steps_after
still_held = refl

released_durably : told (make p1 p1_marks Crash six_fences) ≡ record { x = 6; y = 0; kept = 0 ∷ 0 ∷ 0 ∷ 0 ∷ []; settled = true }
unfolding six_fences told to_fences make p1_start p1_marks p1 programs marks_from marks_of one_section node node_acquire node_store code_of acquire add store
    release last_release end boundary log point move start_of after_crash_of resumed_registers locks_in initial_words spread_words happens row
    result_of steps_after
released_durably = refl

overlap : List (List Slot)
overlap = programs (two_locks ∷ one_section 1 9 ∷ [])

overlap_marks : List (List ℕ)
overlap_marks = marks_from 0x1_0000 (two_locks ∷ one_section 1 9 ∷ [])

overlap_start : Run
overlap_start = record { world = start_of V1 overlap 2 (1 ∷ 0 ∷ 0 ∷ 0 ∷ 0 ∷ 0 ∷ 0 ∷ 0 ∷ 2 ∷ []); steps = first_steps (only_life []) }

-- the first lock is given up durably, and not by its ECALL: the second hart waits for it until the crash
given_up : told (many overlap overlap_marks 80 (Step 0)
    (make overlap overlap_marks Crash (many overlap overlap_marks 5 (Step 1) (to_fences overlap overlap_marks 300 8 0 overlap_start))))
    ≡ record { x = 2; y = 3; kept = 0 ∷ 0 ∷ 0 ∷ 0 ∷ 0 ∷ 0 ∷ 0 ∷ 0 ∷ []; settled = true }
unfolding overlap_start told to_fences many make overlap_marks overlap programs marks_from marks_of one_section two_locks node node_acquire node_store code_of
    acquire add store release last_release end boundary log point move start_of after_crash_of resumed_registers locks_in
    initial_words spread_words happens row result_of steps_after
given_up = refl

-- both harts resume, after the one that is ready has waited for the other
both_taken : Run
both_taken =
    many overlap overlap_marks 3 (Step 1)
    (make overlap overlap_marks Crash (to_fences overlap overlap_marks 100 2 1 (to_fences overlap overlap_marks 300 9 0 overlap_start)))

waits_for_the_other : reply_to overlap both_taken.world (Step 1) ≡ Barrier 0
unfolding both_taken overlap_start to_fences many make overlap_marks overlap programs marks_from marks_of one_section two_locks node node_acquire node_store
    code_of acquire add store release last_release end boundary log point move start_of after_crash_of resumed_registers locks_in initial_words
    spread_words happens row
    result_of steps_after
waits_for_the_other = refl

both_resume : told (many overlap overlap_marks 100 (Step 1) (many overlap overlap_marks 80 (Step 0) both_taken))
    ≡ record { x = 11; y = 3; kept = 0 ∷ 0 ∷ 0 ∷ 0 ∷ 0 ∷ 1 ∷ 0 ∷ 0 ∷ 0 ∷ 1 ∷ 1 ∷ 1 ∷ []; settled = true }
unfolding told both_taken overlap_start to_fences many make overlap_marks overlap programs marks_from marks_of one_section two_locks node node_acquire
    node_store code_of acquire add store release last_release end boundary log point move start_of after_crash_of resumed_registers locks_in
    initial_words spread_words happens row
    result_of steps_after
both_resume = refl

-- ---- A run that begins after a crash, and releases

-- the words of the variables and of the log that the evicted point left
left_words : List ℕ
left_words =
    let w = (make p1 p1_marks (Evict 1024 1) (to_point p1 p1_marks 100 0 p1_start)).world in
    take 8 (map durable_value w.words) ++ take 128 (drop 8192 (map durable_value w.words))

from_words : World
from_words = after_events p1 (after_crash_of V1 p1 1 (spread_words 8 left_words)) (replicate 80 (Step 0))

resumed_from_words : live_value (word_at from_words.words 0) ≡ 6
unfolding from_words left_words to_point make p1_start p1_marks p1 programs marks_from marks_of one_section node node_acquire node_store code_of acquire add
    store release last_release end boundary log point move start_of after_crash_of resumed_registers locks_in initial_words spread_words happens row
    result_of steps_after
resumed_from_words = refl

released_once : released_count p1 p1_start.world (replicate 80 (Step 0)) 0 ≡ 1
unfolding p1_start p1 programs one_section node node_acquire node_store code_of acquire add store release last_release end boundary log point move start_of
    initial_words happens row result_of
released_once = refl

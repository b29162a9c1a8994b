-- Worked rows: records, what harts hold of them, and a crash right at the start.
use Rattle.std.proofs.Common.{◌≡◌, ◌≢◌, ◌+◌, ℕ, zero, suc, List, [], ◌∷◌, length, refl, arith, sym, cond, Bool, true, false, Option, Some, None}
use Rattle.std.proofs.lemmas.Bool.{true≢false}
use Rattle.std.proofs.lemmas.Option.{none-some, same_Some}
use Rattle.log_schemes.specs.declared.log.Log.TheVariants.{Justdo, V1}
use Rattle.log_schemes.specs.declared.log.Log.{Log}
use Rattle.machine_events.specs.declared.event.Event.TheVariants.{Crash}
use Rattle.source_machine.specs.Mutexes.{held_by}
use Rattle.rv64_isa.specs.declared.object.Slot.{Slot}
use Rattle.machine_model.specs.declared.phase.Phase.TheVariants.{Take, Resume, Done}
use Rattle.machine_model.specs.Machine.{World, resume_of, start_of, after_event}
use Rattle.machine_model.proofs.Public.{starts_simulate}
use Rattle.log_states.specs.Logs.{Record, nothing_recorded, side_of}
use Rattle.log_states.specs.Stages.{is_committed}
use Rattle.log_states.specs.Machines.{config_of}
use Rattle.log_states.proofs.Public.{starts_standing}
use Rattle.thread_code.specs.Plans.{locks_held}
use Rattle.thread_code.specs.RegistersAtNodes.{LogView}
use Rattle.recovered_threads.specs.RecordDescriptions.{locks_of, words_in}
use Rattle.recovered_threads.specs.RecoveryStates.{AreGathering, Gathers, HoldsAll, HoldsOnly, view_resumed}
use Rattle.recovered_threads.proofs.RecoveryAfterCrash.{crashes_gather}

-- a point in the second side, with locks 0 and 2
abbrev two_locks : Record
two_locks = record { point = 4097; locks = 0 ∷ 2 ∷ []; live = 8 ∷ []; registers = []; written = None; framed = []; frame = λ word. 0 }

locks_two : locks_of two_locks ≡ 0 ∷ 2 ∷ []
locks_two = refl

locks_none : locks_of nothing_recorded ≡ []
locks_none = refl

-- what is left of a record without a point has no locks
locks_old : locks_of (record two_locks { point = 0 }) ≡ []
locks_old = refl

side_two : side_of two_locks ≡ 1
side_two = refl

resumes_two : resume_of two_locks.point ≡ 4096
resumes_two = refl

-- where a thread of that record is resumed, its log is on the record's side, and its frame is as it was
abbrev view_before : LogView
view_before = record { side = 0; frame = λ address. address }

view_two : view_resumed two_locks view_before ≡ record { side = 1; frame = λ address. address }
view_two = refl

-- word 2 of the frame of thread 1 stands 528 bytes after the log's point, and another word elsewhere
word_two : words_in Justdo 1 view_before 2 ≡ 0x2000_0000 + 2048 + 528
word_two = refl

not_word_three : words_in Justdo 1 view_before 3 ≢ 0x2000_0000 + 2048 + 528
not_word_three e = omega (arith, e)

-- what a thread holds
holds_two : locks_held (held_by 3 (Some 3 ∷ Some 1 ∷ Some 3 ∷ None ∷ [])) ≡ 0 ∷ 2 ∷ []
holds_two = refl

abbrev with_holders : List (Option ℕ) → World
with_holders holders = record { log = V1; words = []; harts = []; holders = holders; recovering = true }

-- hart 0 holds both locks, and another hart the one between them
has_both : HoldsAll (with_holders (Some 0 ∷ Some 1 ∷ Some 0 ∷ [])) 0 two_locks
has_both zero holder there has = sym (same_Some (Some 0) holder there)
has_both (suc zero) holder there has = absurd (true≢false (sym has))
has_both (suc (suc zero)) holder there has = sym (same_Some (Some 0) holder there)
has_both (suc (suc (suc lock))) holder there has = absurd (none-some holder there)

-- not all where one is free or another's, and not only these where it holds a third
lacks_one : ¬ (HoldsAll (with_holders (Some 0 ∷ None ∷ None ∷ [])) 0 two_locks)
lacks_one all = none-some 0 (all 2 None refl refl)

others_one : ¬ (HoldsAll (with_holders (Some 0 ∷ None ∷ Some 1 ∷ [])) 0 two_locks)
others_one all = (let z : 1 ≡ 0 = same_Some 1 0 (all 2 (Some 1) refl refl) in omega (arith, z))

has_third : ¬ (HoldsOnly (with_holders (Some 0 ∷ Some 0 ∷ Some 0 ∷ [])) 0 two_locks)
has_third only = true≢false (sym (only 1 refl))

-- a hart with a point isn't done, and one without doesn't take
not_done : ¬ (Gathers (with_holders []) 0 two_locks Done)
not_done none = omega (arith, none)

not_taking : ¬ (Gathers (with_holders []) 0 nothing_recorded Take)
not_taking some = some refl

-- nobody goes on while locks are gathered
none_resumes : ¬ (Gathers (with_holders []) 0 two_locks Resume)
none_resumes going = going

same_both : {A : Type 0} (b : Bool) (x : A) → x ≡ cond b x x
same_both true x = refl
same_both false x = refl

-- a crash right at the start leaves harts that are done
crash_at_start : (log : Log) (program : List (List Slot)) (locks : ℕ) (initial : List ℕ) →
    AreGathering (after_event program (start_of log program locks initial) Crash) (λ n. nothing_recorded)
crash_at_start log program locks initial =
    let w : World = start_of log program locks initial in
    let count : length w.harts ≡ length program = (starts_simulate log program locks initial).1 in
    crashes_gather program w (λ n. nothing_recorded) (λ n. nothing_recorded) (λ n. nothing_recorded) (λ n. []) (sym count)
    (λ h below. starts_standing log program locks h initial (omega (arith, below, count)))
    (λ h below. same_both (is_committed w.log h (config_of w (starts_standing log program locks h initial (omega (arith, below, count))).hart []))
    nothing_recorded)

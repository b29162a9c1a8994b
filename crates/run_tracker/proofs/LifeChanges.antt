-- The fields of a life that events change, and that the life stands with these fields after more events.
use Rattle.std.proofs.Common.{◌≡◌, ℕ, ◌+◌, ◌≤◌, List, ◌++◌, length, ap, sym, subst, ◌∙◌, arith, inl, inr, Bool, length-append}
use Rattle.std.specs.Prelude.{Vec}
use Rattle.std.specs.Global.{Global}
use Rattle.std.specs.Vec.{vec_capacity, vec_len}
use Rattle.log_schemes.specs.declared.log.Log.{Log}
use Rattle.machine_events.specs.declared.event.Event.{Event}
use Rattle.machine_events.specs.declared.event.Event.TheVariants.{Step, Evict, Crash, Start}
use Rattle.machine_events.specs.Cores.{IsValid, IsValidNow, point_stores, finished_fences}
use Rattle.rv64_isa.specs.declared.object.Slot.{Slot}
use Rattle.machine_model.specs.Executables.{node_marks}
use Rattle.machine_model.specs.Frames.{IsWellFormedWorld}
use Rattle.machine_model.specs.Machine.{World, IsEviction, IsValidAt, can_start}
use Rattle.machine_model.specs.Schedule.{Steps}
use Rattle.ido_machine.specs.declared.machine.Machine.{Machine}
use Rattle.ido_machine.specs.Machines.{RepresentsMachine, log_by, program_in, events_of}
use Rattle.run_tracker.specs.declared.account.Account.{Account}
use Rattle.run_tracker.specs.declared.counts.Counts.{Counts}
use Rattle.run_tracker.specs.declared.life.Life.TheInside.{Inside}
use Rattle.run_tracker.specs.declared.sections.Sections.{Sections}
use Rattle.run_tracker.specs.links.Journals.{Recorded}
use Rattle.run_tracker.specs.links.LifeParts.{IsAmong}
use Rattle.run_tracker.specs.links.AccountRepresentation.{AccountInv, AreOpen, AreOrdered, ends_from, weight}
use Rattle.run_tracker.specs.links.SectionRepresentation.{AreSections}
use Rattle.ido_machine.specs.links.SignTables.{AreTables}
use Rattle.run_tracker.specs.ObjectLives.{Course, IsValidIn, world_of, steps_in, living, opening_of, sections_since}
use Rattle.run_tracker.specs.links.EarlierLives.{lives_in}
use Rattle.run_tracker.specs.links.LifeRepresentation.{course_of, executable_by, kept_first, opening_by, AreCounts, LifeInv}

-- what events change of a life
pub record Parts : Type 0 where
  pub machine : Machine
  pub account : Account
  pub ends : Vec ℕ Global
  pub journal : Recorded
  pub counts : Counts
  pub sections : Sections

abbrev pub with_parts : Inside → Parts → Inside
with_parts life parts = record life {
  machine = parts.machine;
  account = parts.account;
  ends = parts.ends;
  journal = parts.journal;
  counts = parts.counts;
  sections = parts.sections;
}

-- the course of a life with events more
abbrev pub course_with : Inside → List Event → Course
course_with life more = record (course_of life) { journal = life.journal.events ++ more }

-- the program and the log stay, the journal has these events more, and there was room for them
pub record Grows (life : Inside) (more : List Event) (parts : Parts) : Type 0 where
  pub program : program_in parts.machine ≡ program_in life.machine
  pub log : log_by parts.machine ≡ log_by life.machine
  pub events : events_of parts.machine ≡ events_of life.machine + length more
  pub journal : parts.journal ≡ record life.journal { events = life.journal.events ++ more }
  pub room : length life.journal.events + length more ≤ life.cap
  pub harts : length parts.account.harts.items ≡ length life.account.harts.items
  pub kept_room : vec_capacity parts.account.kept ≡ vec_capacity life.account.kept
  pub stores_room : vec_capacity parts.account.stores ≡ vec_capacity life.account.stores
  pub stores : vec_len parts.account.stores ≤ vec_len life.account.stores + length more
  pub ends_room : vec_capacity parts.ends ≡ vec_capacity life.ends
  pub few_ends : vec_len parts.ends ≤ vec_len life.ends + length more

-- machine, account, counts and sections are those at this world and these steps
pub record AreAt (life : Inside) (more : List Event) (parts : Parts) (w : World) (s : Steps) : Type 0 where
  pub machine : RepresentsMachine parts.machine w
  pub sound : IsWellFormedWorld w
  pub account : AccountInv parts.account s
  pub ends : parts.ends.items ≡ ends_from 0 s.earlier
  pub ordered : AreOrdered w.log w.words s
  pub are_open : AreOpen (length (program_in life.machine)) w.log w.words s
  pub light : weight s ≤ weight (steps_in (course_of life)) + length more
  pub points : AreCounts parts.counts.points.items (length (program_in life.machine))
      (point_stores living (opening_of (course_of life)) (course_with life more).journal)
  pub fences : AreCounts parts.counts.fences.items (length (program_in life.machine))
      (finished_fences living (opening_of (course_of life)) (course_with life more).journal)
  pub sections : AreSections parts.sections (length (program_in life.machine)) w (sections_since (course_with life more))

-- an event that may be asked is one of the harts
pub is_among : (log : Log) (harts : ℕ) (may : Bool) (event : Event) → IsValidNow harts (IsEviction log harts) may event → IsAmong log harts event
is_among log harts may event (inl any) = by event any
  where
    by : (x : Event) → IsValid harts (IsEviction log harts) x → IsAmong log harts x
    by (Step h) valid = valid
    by (Evict line mask) valid = valid
    by Crash valid = tt
    by Start valid = tt
is_among log harts may event (inr starts) = subst (IsAmong log harts) (sym starts.0) tt

module _ (life : Inside) (stands : LifeInv life) where
  pub hart_count : length (world_of (course_of life)).harts ≡ length (program_in life.machine)
  hart_count = omega (arith, stands.machine.standing.count, life.machine.sized, life.machine.harts.ok.0)

  -- an event that may be asked of it may be asked of its machine
  pub valid_at : (event : Event) → IsValidIn (course_of life) event → IsValidAt (world_of (course_of life)) event
  valid_at event valid =
      let w : World = world_of (course_of life) in
      subst (λ (l : Log). IsValidNow (length w.harts) (IsEviction l (length w.harts)) (can_start w) event) (sym stands.machine.log)
      (subst (λ (n : ℕ). IsValidNow n (IsEviction (log_by life.machine) n) (can_start w) event) (sym hart_count) valid)

  module _ (more : List Event) (parts : Parts) (grown : Grows life more parts) where
    course_is : course_of (with_parts life parts) ≡ course_with life more
    course_is =
        let at : List (List Slot) → Log → List Event → Course = λ p l j. record {
          runs = executable_by l p life;
          kept_before = lives_in life.earlier.items life.before.items;
          ended_before = life.ended_before.items;
          opening = opening_by l p life.mutexes life.initial.items life.left;
          journal = j;
          cap = life.cap;
        } in
        ap (λ (p : List (List Slot)). at p (log_by parts.machine) parts.journal.events) grown.program
        ∙ (ap (λ (l : Log). at (program_in life.machine) l parts.journal.events) grown.log
        ∙ ap (λ (j : Recorded). at (program_in life.machine) (log_by life.machine) j.events) grown.journal)

    longer : length parts.journal.events ≡ length life.journal.events + length more
    longer = ap (λ (j : Recorded). length j.events) grown.journal ∙ length-append life.journal.events more

    -- what is so of the course with the events is so of the new one
    moved : (P : Course → Type 0) → P (course_with life more) → P (course_of (with_parts life parts))
    moved P h = subst P (sym course_is) h

    pub lasts : AreAt life more parts (world_of (course_with life more)) (steps_in (course_with life more)) → LifeInv (with_parts life parts)
    lasts at = record {
      machine = moved (λ (x : Course). RepresentsMachine parts.machine (world_of x)) at.machine;
      sound = moved (λ (x : Course). IsWellFormedWorld (world_of x)) at.sound;
      events = omega (arith, grown.events, stands.events, longer);
      tables = subst (λ (p : List (List Slot)). AreTables life.tables.items p (node_marks life.marks.threads.items)) (sym grown.program) stands.tables;
      marked = stands.marked ∙ ap length (sym grown.program);
      account = moved (λ (x : Course). AccountInv parts.account (steps_in x)) at.account;
      harts = grown.harts ∙ stands.harts ∙ ap length (sym grown.program);
      ordered = moved (λ (x : Course). AreOrdered (world_of x).log (world_of x).words (steps_in x)) at.ordered;
      are_open = moved (λ (x : Course). AreOpen (length x.runs.program) (world_of x).log (world_of x).words (steps_in x)) at.are_open;
      light = moved (λ (x : Course). weight (steps_in x) ≤ kept_first life + length parts.journal.events)
          (omega (arith, at.light, stands.light, longer));
      points = moved (λ (x : Course). AreCounts parts.counts.points.items (length x.runs.program) (point_stores living (opening_of x) x.journal)) at.points;
      fences = moved (λ (x : Course). AreCounts parts.counts.fences.items (length x.runs.program) (finished_fences living (opening_of x) x.journal)) at.fences;
      sections = moved (λ (x : Course). AreSections parts.sections (length x.runs.program) (world_of x) (sections_since x)) at.sections;
      few_ended = stands.few_ended;
      within = omega (arith, grown.room, longer);
      few = stands.few;
      bytes = stands.bytes;
      journal_room = omega (arith, ap (λ (j : Recorded). j.room) grown.journal, stands.journal_room);
      kept_room = omega (arith, grown.kept_room, stands.kept_room);
      stores_room = omega (arith, grown.stores_room, stands.stores_room);
      stores = omega (arith, grown.stores, stands.stores, longer);
      ends = moved (λ (x : Course). parts.ends.items ≡ ends_from 0 (steps_in x).earlier) at.ends;
      ends_room = omega (arith, grown.ends_room, stands.ends_room);
      few_ends = omega (arith, grown.few_ends, stands.few_ends, longer);
    }

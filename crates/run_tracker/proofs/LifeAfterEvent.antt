-- A life stands after an event.
use Rattle.std.proofs.Common.{◌≡◌, ℕ, ◌+◌, ◌<◌, ◌≤◌, ◌^◌, List, [], ◌∷◌, ◌++◌, length}
use Rattle.std.proofs.Common.{slice_index, Bool, cond, ap, sym, subst, ◌∙◌, arith}
use Rattle.machine_events.specs.declared.event.Event.{Event}
use Rattle.machine_events.specs.Cores.{point_stores, finished_fences}
use Rattle.rv64_isa.specs.declared.object.Slot.{Slot}
use Rattle.machine_model.specs.Executables.{node_marks}
use Rattle.machine_model.proofs.Public.{queues_stand}
use Rattle.machine_model.specs.Machine.{World, after_event}
use Rattle.machine_model.specs.Schedule.{Steps, steps_after, stores_point, finishes_fence}
use Rattle.ido_machine.specs.Machines.{RepresentsMachine, program_in}
use Rattle.run_tracker.specs.declared.life.Life.TheInside.{Inside}
use Rattle.run_tracker.specs.links.AccountRepresentation.{AccountInv, ends_then}
use Rattle.run_tracker.specs.links.SectionRepresentation.{AreSections, section_at}
use Rattle.run_tracker.specs.ObjectLives.{IsValidIn, world_of, steps_in, living, opening_of, sections_since, ends_at_point}
use Rattle.run_tracker.specs.links.LifeParts.{AreCounted, HaveCounted, HasCounts, is_start}
use Rattle.run_tracker.specs.links.LifeRepresentation.{course_of, AreCounts, LifeInv}
use Rattle.run_tracker.proofs.Events.{after_more, along_more, points_more, fences_more, sections_more, weight-after, ordered-after}
use Rattle.run_tracker.proofs.EventCounts.{passed-few}
use Rattle.run_tracker.proofs.LivesEnd.{ends_grow}
use Rattle.run_tracker.proofs.LifeChanges.{AreAt, Grows, Parts, course_with, hart_count, lasts, valid_at, with_parts}
use Rattle.run_tracker.proofs.StepsStayOpen.{open-after}

-- a valid event of a life has made these parts, at the world and the steps after it
pub record IsMade (life : Inside) (event : Event) (parts : Parts) : Type 0 where
  pub valid : IsValidIn (course_of life) event
  pub grown : Grows life (event ∷ []) parts
  pub world : RepresentsMachine parts.machine (after_event (program_in life.machine) (world_of (course_of life)) event)
  pub steps : AccountInv parts.account
      (steps_after (node_marks life.marks.threads.items) (program_in life.machine) (world_of (course_of life)) event (steps_in (course_of life)))
  pub ends : parts.ends.items ≡ ends_then (is_start event) life.ends.items (length life.account.kept.items)
  pub counted : HaveCounted life.counts parts.counts (program_in life.machine) (world_of (course_of life)) event
  pub sectioned : AreSections parts.sections (length (program_in life.machine)) (after_event (program_in life.machine) (world_of (course_of life)) event)
      (λ h. sections_since (course_of life) h + cond (ends_at_point (program_in life.machine) (world_of (course_of life)) event h) 1 0)

module _ (life : Inside) (stands : LifeInv life) where
  few_counts : (counts : List ℕ) (done : ℕ → ℕ) → AreCounts counts (length (program_in life.machine)) done → ((h : ℕ) → done h ≤ length life.journal.events) →
      (h : ℕ) → h < length (program_in life.machine) → slice_index counts h < 2 ^ 63
  few_counts counts done are few h below = omega (arith, are.1 h below, few h, stands.within, stands.few)

  pub has_counts : HasCounts life.counts (length (program_in life.machine))
  has_counts = record {
    points = stands.points.0;
    fences = stands.fences.0;
    few_points = few_counts life.counts.points.items (point_stores living (opening_of (course_of life)) life.journal.events) stands.points
        (λ h. passed-few living (λ m. living.stores_point m h) (opening_of (course_of life)) life.journal.events);
    few_fences = few_counts life.counts.fences.items (finished_fences living (opening_of (course_of life)) life.journal.events) stands.fences
        (λ h. passed-few living (λ m. living.finishes_fence m h) (opening_of (course_of life)) life.journal.events);
  }

  -- no more sections have ended than there were events
  pub few_sections : (h : ℕ) → h < length life.sections.harts.items → (section_at life.sections h).ended < 2 ^ 63
  few_sections h below =
      let few = passed-few living (λ m event. ends_at_point m.runs.program m.world event h) (opening_of (course_of life)) life.journal.events in
      omega (arith, stands.sections.counted h (omega (arith, below, stands.sections.size)), few, stands.within, stands.few)

  module _ (event : Event) (parts : Parts) (made : IsMade life event parts) where
    abbrev program : List (List Slot)
    program = program_in life.machine

    abbrev marks : List (List ℕ)
    marks = node_marks life.marks.threads.items

    abbrev before : World
    before = world_of (course_of life)

    abbrev s : Steps
    s = steps_in (course_of life)

    counts_are : (old new : List ℕ) (done now : ℕ → ℕ) (does : ℕ → Bool) → AreCounts old (length program) done → AreCounted old new does →
        ((h : ℕ) → now h ≡ done h + cond (does h) 1 0) → AreCounts new (length program) now
    counts_are old new done now does are grown more =
        (grown.size ∙ are.0, λ h below. grown.each h (omega (arith, below, are.0)) ∙ ap (λ (n : ℕ). n + cond (does h) 1 0) (are.1 h below) ∙ sym (more h))

    are_at : AreAt life (event ∷ []) parts (after_event program before event) (steps_after marks program before event s)
    are_at =
        let opening = opening_of (course_of life) in
        let journal = life.journal.events in
        record {
          machine = made.world;
          sound = (queues_stand program before event (sym (hart_count life stands)) stands.sound).0;
          account = made.steps;
          ends = made.ends ∙ (ap (λ (places : List ℕ). ends_then (is_start event) places (length life.account.kept.items)) stands.ends
              ∙ ends_grow marks program before event s (length life.account.kept.items) (ap length stands.account.kept)
              (valid_at life stands event made.valid));
          ordered = ordered-after marks program before event s stands.sound stands.ordered;
          are_open = open-after marks program before event s stands.sound stands.are_open;
          light = omega (arith, weight-after marks program before event s);
          points = counts_are life.counts.points.items parts.counts.points.items (point_stores living opening journal)
              (point_stores living opening (journal ++ event ∷ [])) (λ h. stores_point program before event h) stands.points made.counted.points
              (λ h. points_more opening journal event h);
          fences = counts_are life.counts.fences.items parts.counts.fences.items (finished_fences living opening journal)
              (finished_fences living opening (journal ++ event ∷ [])) (λ h. finishes_fence program before event h) stands.fences made.counted.fences
              (λ h. fences_more opening journal event h);
          sections = record {
            size = made.sectioned.size;
            position = made.sectioned.position;
            point = made.sectioned.point;
            counted = λ h below. made.sectioned.counted h below ∙ sym (sections_more opening journal event h);
          };
        }

    pub lasts_event : LifeInv (with_parts life parts)
    lasts_event =
        let world_is = after_more program (course_of life).opening life.journal.events event in
        let steps_are : steps_in (course_with life (event ∷ [])) ≡ steps_after marks program before event s =
        along_more marks program (course_of life).opening life.journal.events event _ in
        lasts life stands (event ∷ []) parts made.grown
        (subst (λ (w : World). AreAt life (event ∷ []) parts w (steps_in (course_with life (event ∷ [])))) (sym world_is)
        (subst (AreAt life (event ∷ []) parts (after_event program before event)) (sym steps_are) are_at))

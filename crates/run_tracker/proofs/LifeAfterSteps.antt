-- A life stands after the steps that it adopts.
use Rattle.std.proofs.Common.{◌≡◌, ℕ, ◌<◌, ◌≤◌, List, [], length, replicate}
use Rattle.std.proofs.Common.{slice_get, slice_index_or, Some, ap, sym, subst, ◌∙◌, arith}
use Rattle.std.specs.Prelude.{Vec}
use Rattle.std.specs.Global.{Global}
use Rattle.std.proofs.lemmas.List.{length-replicate}
use Rattle.machine_events.specs.declared.event.Event.{Event}
use Rattle.machine_events.specs.declared.event.Event.TheVariants.{Step}
use Rattle.machine_events.specs.Cores.{point_stores, finished_fences}
use Rattle.machine_model.specs.declared.phase.Phase.TheVariants.{Run}
use Rattle.machine_model.specs.Executables.{node_marks}
use Rattle.machine_model.specs.Frames.{IsWellFormedWorld}
use Rattle.machine_model.specs.Machine.{Hart, World, with_hart}
use Rattle.machine_model.specs.Schedule.{Steps}
use Rattle.hart_core.specs.declared.local.LocalState.{LocalState}
use Rattle.hart_core.specs.LocalSteps.{placed_code, local_run}
use Rattle.ido_machine.specs.Harts.{local_state_of, with_local_state}
use Rattle.ido_machine.specs.Machines.{RepresentsMachine, program_in}
use Rattle.run_tracker.specs.declared.counts.Counts.{Counts}
use Rattle.run_tracker.specs.declared.life.Life.TheInside.{Inside}
use Rattle.run_tracker.specs.declared.sections.Sections.{Sections}
use Rattle.run_tracker.specs.links.AccountRepresentation.{AccountInv, ends_from}
use Rattle.run_tracker.specs.links.SectionRepresentation.{AreSections}
use Rattle.run_tracker.specs.links.LocalRepresentation.{marks_passed, with_more_begun}
use Rattle.run_tracker.specs.ObjectLives.{sections_since, living, opening_of, steps_in, world_of}
use Rattle.run_tracker.specs.links.LifeRepresentation.{course_of, AreCounts, LifeInv}
use Rattle.run_tracker.proofs.LifeChanges.{AreAt, Grows, Parts, course_with, hart_count, lasts, with_parts}
use Rattle.run_tracker.proofs.LocalRuns.{HasRunLocally, has_run_locally}
use Rattle.run_tracker.proofs.MoreBegun.{earlier-more, open-more, ordered-more, weight-more}

-- so many local instructions of a hart of a life: its registers and pc after them, and how many of them have passed a mark
pub record LocalSteps (life : Inside) : Type 0 where
  pub h : ℕ
  pub hart : Hart
  pub made : ℕ
  pub last : LocalState
  pub passed : ℕ
  pub exists : h < length (program_in life.machine)
  pub there : slice_get (world_of (course_of life)).harts h ≡ Some hart
  pub running : 0 < made → hart.phase ≡ Run
  pub run : local_run (placed_code (program_in life.machine) h) (local_state_of hart) made ≡ Some last
  pub passed_is : passed ≡ marks_passed (slice_index_or (node_marks life.marks.threads.items) h []) (placed_code (program_in life.machine) h)
      (local_state_of hart) made
  pub few : passed ≤ made

-- their events
abbrev pub events_in : {life : Inside} → LocalSteps life → List Event
events_in steps = replicate steps.made (Step steps.h)

-- a life with these parts has adopted them; neither points nor fences are counted in them, and no section ends
pub record AreAdopted (life : Inside) (steps : LocalSteps life) (parts : Parts) : Type 0 where
  pub grown : Grows life (events_in steps) parts
  pub world : RepresentsMachine parts.machine (with_hart (world_of (course_of life)) steps.h (with_local_state steps.hart steps.last))
  pub account : AccountInv parts.account (with_more_begun steps.h steps.passed (steps_in (course_of life)))
  pub ends : parts.ends ≡ life.ends
  pub counts : parts.counts ≡ life.counts
  pub sections : parts.sections ≡ life.sections

module _ (life : Inside) (stands : LifeInv life) (steps : LocalSteps life) (parts : Parts) (adopted : AreAdopted life steps parts) where
  abbrev before : World
  before = world_of (course_of life)

  abbrev s : Steps
  s = steps_in (course_of life)

  abbrev harts : ℕ
  harts = length (program_in life.machine)

  ahead : HasRunLocally (course_of life) steps.h steps.hart steps.made steps.last
  ahead =
      has_run_locally (course_of life) steps.h steps.hart steps.there stands.are_open stands.sound (sym (hart_count life stands)) steps.made steps.last
      steps.running steps.run

  same_counts : (counts : List ℕ) (done now : ℕ → ℕ) → AreCounts counts harts done → ((g : ℕ) → now g ≡ done g) → AreCounts counts harts now
  same_counts counts done now are none = (are.0, λ g below. are.1 g below ∙ sym (none g))

  are_at : AreAt life (events_in steps) parts (with_hart before steps.h (with_local_state steps.hart steps.last)) (with_more_begun steps.h steps.passed s)
  are_at =
      let opening = opening_of (course_of life) in
      let journal = (course_with life (events_in steps)).journal in
      record {
        machine = adopted.world;
        sound = subst IsWellFormedWorld ahead.world ahead.sound;
        account = adopted.account;
        ends = ap (λ (v : Vec ℕ Global). v.items) adopted.ends ∙ (stands.ends
            ∙ ap (ends_from 0) (sym (earlier-more steps.h steps.passed s)));
        ordered = ordered-more before.log before.words steps.h steps.passed s stands.ordered;
        are_open = open-more harts before.log before.words steps.h steps.passed s stands.are_open;
        light = omega (
          arith,
          weight-more steps.h steps.passed s,
          steps.few,
          length-replicate steps.made (Step steps.h),
        );
        points = subst (λ (c : Counts). AreCounts c.points.items harts (point_stores living opening journal)) (sym adopted.counts)
            (same_counts life.counts.points.items (point_stores living opening life.journal.events) (point_stores living opening journal) stands.points
            ahead.points);
        fences = subst (λ (c : Counts). AreCounts c.fences.items harts (finished_fences living opening journal)) (sym adopted.counts)
            (same_counts life.counts.fences.items (finished_fences living opening life.journal.events) (finished_fences living opening journal) stands.fences
            ahead.fences);
        sections = subst (λ (x : Sections). AreSections x harts (with_hart before steps.h (with_local_state steps.hart steps.last))
            (sections_since (course_with life (events_in steps)))) (sym adopted.sections)
            (record {
              size = stands.sections.size;
              position = stands.sections.position;
              point = stands.sections.point;
              counted = λ g below. stands.sections.counted g below ∙ sym (ahead.sections g);
            });
      }

  pub lasts_steps : LifeInv (with_parts life parts)
  lasts_steps =
      let steps_are : steps_in (course_with life (events_in steps)) ≡ with_more_begun steps.h steps.passed s =
      ahead.steps ∙ ap (λ (k : ℕ). with_more_begun steps.h k s) (sym steps.passed_is) in
      lasts life stands (events_in steps) parts adopted.grown
      (subst (λ (w : World). AreAt life (events_in steps) parts w (steps_in (course_with life (events_in steps)))) (sym ahead.world)
      (subst (AreAt life (events_in steps) parts (with_hart before steps.h (with_local_state steps.hart steps.last))) (sym steps_are) are_at))

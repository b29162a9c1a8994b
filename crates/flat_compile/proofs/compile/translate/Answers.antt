-- The cuts of its graph make a plan of what was found out of a flat form, and what is emitted for that and linked is the form's translation.
use Rattle.std.proofs.Common.{refl}
use Rattle.flat_compile.proofs.Plans.{LinkedPlan, at_records, is_translated, marked, plan_at, plan_is, resumable}
use Rattle.flat_compile.proofs.compile.translate.Goals as goal
use Rattle.flat_compile.proofs.compile.translate.Goals.{After-marks-1}

pub emit-requires-clause-plan : goal.emit-requires-clause-plan
emit-requires-clause-plan c =
    plan_is c.walk_is_discipline.ensures c.args.log c.args.analysis.now c.in_ok-cuts.cuts c.requires.analysis c.requires.assigned_first
    c.in_ok-cuts.ensures.cuts
    (at_records c.args.log c.args.analysis.now c.in_ok-cuts.cuts c.requires.analysis c.in_ok-cuts.ensures.placed c.in_ok-cuts.ensures.at_writes)

pub emit-requires-clause-shallow : goal.emit-requires-clause-shallow
emit-requires-clause-shallow c = c.requires.analysis.accepted.shallow

linked : (c : After-marks-1) →
    LinkedPlan (plan_at c.args.log c.args.analysis.now c.in_ok-cuts.cuts) c.in_ok-object.object c.in_ok-object.marks c.in_ok-cuts.cuts
linked c = record {
  plan = plan_is c.walk_is_discipline.ensures c.args.log c.args.analysis.now c.in_ok-cuts.cuts c.requires.analysis c.requires.assigned_first
      c.in_ok-cuts.ensures.cuts
      (at_records c.args.log c.args.analysis.now c.in_ok-cuts.cuts c.requires.analysis c.in_ok-cuts.ensures.placed c.in_ok-cuts.ensures.at_writes);
  at = refl;
  placed = c.in_ok-cuts.ensures.placed;
  code = c.in_ok-code.code;
  is = record {
    is = c.in_ok-code.ensures.code;
    cleans = c.in_ok-code.ensures.cleans;
    few_threads = c.in_ok-code.ensures.threads;
    few = c.in_ok-code.ensures.few;
    initial = c.in_ok-code.ensures.initial;
    mutexes = c.in_ok-code.ensures.mutexes;
    log = c.in_ok-code.ensures.log;
  };
  linked = c.in_ok-object.ensures.linked;
  initial = c.in_ok-object.ensures.initial;
  mutexes = c.in_ok-object.ensures.mutexes;
  log = c.in_ok-object.ensures.log;
}

pub returns-clause-translated : goal.returns-clause-translated
returns-clause-translated c = is_translated (linked (goal.at.returns-clause-translated c).After-marks-1)

pub resume_table-requires-clause-plan : goal.resume_table-requires-clause-plan
resume_table-requires-clause-plan c =
    plan_is c.walk_is_discipline.ensures c.args.log c.args.analysis.now c.in_ok-cuts.cuts c.requires.analysis c.requires.assigned_first
    c.in_ok-cuts.ensures.cuts
    (at_records c.args.log c.args.analysis.now c.in_ok-cuts.cuts c.requires.analysis c.in_ok-cuts.ensures.placed c.in_ok-cuts.ensures.at_writes)

pub resume_table-requires-clause-marked : goal.resume_table-requires-clause-marked
resume_table-requires-clause-marked c = marked (linked c)

pub returns-clause-resumes : goal.returns-clause-resumes
returns-clause-resumes c =
    resumable (linked (goal.at.returns-clause-resumes c).After-marks-1) c.in_ok-resumes.resumes.items c.in_ok-resumes.ensures

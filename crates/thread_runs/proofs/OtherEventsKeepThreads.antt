-- What others do leaves a thread where it is; and where no thread is stuck.
use Rattle.std.proofs.Common.{◌≡◌, suc, [], ◌∷◌, sym, subst, Some}
use Rattle.rv64_isa.specs.Rows.{Effect}
use Rattle.machine_model.specs.Machine.{Hart}
use Rattle.machine_model.specs.Schedule.{effect_at}
use Rattle.code_runs.specs.ComputingRuns.{config}
use Rattle.code_runs.specs.CodeTraces.{Mark, marked, seen_effects}
use Rattle.hart_runs.specs.Calls.{on_run}
use Rattle.hart_runs.specs.Laws.{NoneIsStuck}
use Rattle.hart_runs.proofs.Public.{others_keep_runs}
use Rattle.thread_runs.specs.CodeFragments.{end_of, IsMadeBy}
use Rattle.thread_runs.specs.Laws.{run_of, run_at, OthersKeepFragments, OthersKeepMarks, FragmentsAreWell, MarksAreWell}

pub others_keep_fragments : OthersKeepFragments
others_keep_fragments p t c program w h s stage steps effects event sound other fragment agrees =
    let k = others_keep_runs program w h event sound other s steps (seen_effects effects)
    (config fragment.registers (end_of p t c stage.exit stage.node)) fragment.on in
    record {
      meets = fragment.meets;
      agrees = agrees;
      apart = fragment.apart;
      own = fragment.own;
      of_graph = fragment.of_graph;
      registers = fragment.registers;
      on = k.on;
      has = fragment.has;
    }

pub others_keep_marks : OthersKeepMarks
others_keep_marks p t c program w h s e stage steps effects event sound other at agrees =
    let k = others_keep_runs program w h event sound other s (suc steps) (Mark ∷ seen_effects effects)
    (config at.registers (end_of p t c stage.exit stage.node)) at.on in
    record {
      meets = at.meets;
      agrees = agrees;
      apart = at.apart;
      own = at.own;
      of_graph = at.of_graph;
      registers = at.registers;
      on = k.on;
      has = at.has;
      mark = subst (λ (x : Hart). marked s.marks x.pc ≡ Mark ∷ []) (sym k.same) at.mark;
      made = subst (λ (x : Hart). (effect : Effect) → effect_at program h x ≡ Some effect → IsMadeBy p t c stage e effect) (sym k.same) at.made;
    }

pub fragments_are_well : NoneIsStuck → FragmentsAreWell
fragments_are_well none p t c program w h s stage steps effects fragment cause =
    none program w h (on_run (run_of p t c fragment) fragment.agrees) cause

pub marks_are_well : NoneIsStuck → MarksAreWell
marks_are_well none p t c program w h s e stage steps effects at cause =
    none program w h (on_run (run_at p t c at) at.agrees) cause

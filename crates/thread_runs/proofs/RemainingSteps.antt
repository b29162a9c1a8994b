-- How many steps are left.
use Rattle.std.proofs.Common.{◌≡◌, ℕ, zero, suc, ◌+◌, ◌≤◌, List, ◌∷◌, ◌++◌, length, ap, arith, ◌∙◌}
use Rattle.ido_base.specs.Words.{Entry}
use Rattle.rv64_isa.specs.declared.object.Slot.{Slot}
use Rattle.rv64_isa.specs.Rows.{Effect, Continues, Loads, Stores, Cleans, Fences, Calls, row}
use Rattle.machine_model.specs.Machine.{Hart, World}
use Rattle.code_runs.specs.ComputingRuns.{LocalConfig, config}
use Rattle.code_runs.specs.CodeTraces.{MarkedEnvironment, Observation, Mark, Trace, outside, marked, seen_effects}
use Rattle.hart_runs.specs.HartsOnRuns.{OnRun}
use Rattle.hart_runs.specs.RunSteps.{GoesForward, Drains, cleans_in, steps_left}
use Rattle.hart_runs.proofs.Public.{cleans_of_both, cleans_of_mark, queue_grows}
use Rattle.thread_runs.specs.CodeFragments.{end_of}
use Rattle.thread_runs.specs.Laws.{FragmentsAreBounded, MarksAreBounded}

-- ---- Each step takes one

module _ (program : List (List Slot)) (w : World) (h : ℕ) (run : OnRun w h) where
  pub forward_less : (f : GoesForward program w h run) →
      suc (steps_left run.steps f.later f.on.hart.queue) ≡ steps_left (suc run.steps) run.seen run.on.hart.queue
  forward_less f =
      let queue : length f.on.hart.queue ≡ length f.contents.queue = ap (λ (x : Hart). length x.queue) f.same in
      let grows : length f.contents.queue ≡ length run.on.hart.queue + cleans_in (outside f.effect) = queue_grows f.effect _ f.contents f.changes in
      let both : cleans_in run.seen ≡ cleans_in (marked run.environment.marks run.on.hart.pc ++ outside f.effect) + cleans_in f.later =
      ap cleans_in f.seen_is ∙ cleans_of_both (marked run.environment.marks run.on.hart.pc ++ outside f.effect) f.later in
      let first : cleans_in (marked run.environment.marks run.on.hart.pc ++ outside f.effect) ≡
      cleans_in (marked run.environment.marks run.on.hart.pc) + cleans_in (outside f.effect) =
      cleans_of_both (marked run.environment.marks run.on.hart.pc) (outside f.effect) in
      let none : cleans_in (marked run.environment.marks run.on.hart.pc) ≡ 0 = cleans_of_mark run.environment.marks run.on.hart.pc in
      omega (arith, queue, grows, both, first, none)

  pub drains_less : (d : Drains program w h run) →
      suc (steps_left (suc run.steps) run.seen d.on.hart.queue) ≡ steps_left (suc run.steps) run.seen run.on.hart.queue
  drains_less d =
      let queue : length d.on.hart.queue ≡ length d.rest = ap (λ (x : Hart). length x.queue) d.same in
      let whole : length run.on.hart.queue ≡ suc (length d.rest) = ap (λ (q : List Entry). length q) d.queue_is in
      omega (arith, queue, whole)

-- ---- How many there are

-- an instruction cleans one line at most
cleans_once : (e : Effect) → cleans_in (outside e) ≤ 1
cleans_once (Continues registers pc) = omega arith
cleans_once (Loads address bytes signed register) = omega arith
cleans_once (Stores address bytes value) = omega arith
cleans_once (Cleans address) = omega arith
cleans_once Fences = omega arith
cleans_once Calls = omega arith

pub cleans_on : (s : MarkedEnvironment) (n : ℕ) (m to : LocalConfig) (seen : List Observation) → Trace s n m seen to → cleans_in seen ≤ n
cleans_on s zero m to seen w = let e : cleans_in seen ≡ 0 = ap cleans_in w.1 in omega (arith, e)
cleans_on s (suc n) m to seen w =
    let e : Effect = row w.3.instr m.registers m.pc in
    let all : cleans_in seen ≡ cleans_in w.1 + cleans_in w.2 = ap cleans_in w.5 ∙ cleans_of_both w.1 w.2 in
    let first : cleans_in w.1 ≡ cleans_in (marked s.marks m.pc) + cleans_in (outside e) =
    ap cleans_in w.3.sees ∙ cleans_of_both (marked s.marks m.pc) (outside e) in
    let none : cleans_in (marked s.marks m.pc) ≡ 0 = cleans_of_mark s.marks m.pc in
    let once : cleans_in (outside e) ≤ 1 = cleans_once e in
    let more : cleans_in w.2 ≤ n = cleans_on s n w.0 to w.2 w.4 in
    omega (arith, all, first, none, once, more)

pub fragments_are_bounded : FragmentsAreBounded
fragments_are_bounded p t c program w h s stage steps effects short fragment =
    let cleans : cleans_in (seen_effects effects) ≤ steps =
    cleans_on s steps (config fragment.on.hart.registers fragment.on.hart.pc) (config fragment.registers (end_of p t c stage.exit stage.node))
    (seen_effects effects) fragment.on.walks in
    let queue : length fragment.on.hart.queue ≤ 16 = short h fragment.on.hart fragment.on.here in
    omega (arith, cleans, queue)

pub marks_are_bounded : MarksAreBounded
marks_are_bounded p t c program w h s e stage steps effects short at =
    let cleans : cleans_in (Mark ∷ seen_effects effects) ≤ suc steps =
    cleans_on s (suc steps) (config at.on.hart.registers at.on.hart.pc) (config at.registers (end_of p t c stage.exit stage.node)) (Mark ∷ seen_effects effects)
    at.on.walks in
    let queue : length at.on.hart.queue ≤ 16 = short h at.on.hart at.on.here in
    omega (arith, cleans, queue)

use Rattle.std.proofs.Common.{◌≡◌, ◌∙◌, ap, length, arith, List, ◌∷◌, [], replicate, ℕ, ◌+◌, ◌<◌, get_or, map}
use Rattle.std.specs.Prelude.{Option, None}
use Rattle.std.proofs.lemmas.List.{length-append}
use Rattle.c_tree.specs.Programs.{variable_of}
use Rattle.c_tree.specs.declared.program.Variable.{Variable}
use Rattle.c_tree.specs.declared.flat.Thread.{Thread}
use Rattle.source_machine.proofs.StartStates.{one_started, starts, starts_run}
use Rattle.source_machine.proofs.state.SourceState.start.Goals as goal

pub invariant_of-result : goal.invariant_of-result
invariant_of-result c = record {
  counted = omega (
    arith,
    c.in_ok-sections.ensures.len,
    c.loop-thread.invariant.count,
    c.loop-thread.threads.ok.0,
    c.loop-thread-test.false,
    c.loop-thread.auto.thread-index-end,
    c.deref-thread-items.ensures.len,
  );
  empty = c.none.ensures;
}

pub returns-clause-run : goal.returns-clause-run
returns-clause-run c =
    let flat = c.args.flat.now in
    let mutexes : c.len.result ≡ length flat.mutexes.items = omega (arith, c.len.ensures, flat.mutexes.ok.0) in
    let size : length c.loop-thread.threads.items ≡ length flat.threads.items =
    omega (
      arith,
      c.loop-thread.invariant.count,
      c.loop-thread-test.false,
      c.loop-thread.auto.thread-index-end,
      ap length c.deref-thread-items.ensures.value,
    ) in
    let none : Option ℕ = None in
    starts_run _ flat (c.in_ok-holders.ensures ∙ ap (λ n. replicate n none) mutexes) size c.loop-thread.invariant.started

pub returns-clause-stands : goal.returns-clause-stands
returns-clause-stands c =
    let flat = c.args.flat.now in
    let variables = c.in_ok-variables.ensures ∙ ap (λ (xs : List Variable). map (λ (v : Variable). (variable_of v).initial) xs) c.deref.ensures.value in
    let mutexes : c.len.result ≡ length flat.mutexes.items = omega (arith, c.len.ensures, flat.mutexes.ok.0) in
    let threads : c.len-2.result ≡ length flat.threads.items = omega (arith, c.len-2.ensures, flat.threads.ok.0) in
    let size : length c.loop-thread.threads.items ≡ length flat.threads.items =
    omega (
      arith,
      c.loop-thread.invariant.count,
      c.loop-thread-test.false,
      c.loop-thread.auto.thread-index-end,
      ap length c.deref-thread-items.ensures.value,
    ) in
    let none : Option ℕ = None in
    let zero : ℕ = 0 in
    starts _ flat variables
    (c.in_ok-holders.ensures ∙ ap (λ n. replicate n none) mutexes) size
    (c.in_ok-sections.ensures.items_if_clones_equal (λ y e. e) ∙ ap (λ n. replicate n zero) threads)
    c.loop-thread.invariant.started

pub loop-thread-preserved : goal.loop-thread-preserved
loop-thread-preserved c =
    let e = c.in_ok-push.ensures.items in
    let flat = c.args.flat.now in
    let size : length c.push.new.self.items ≡ c.loop-thread.thread-index + 1 =
    omega (arith, ap length e, length-append c.loop-thread.threads.items (c.in_ok-start.field-0 ∷ []), c.loop-thread.invariant.count) in
    let shown = c.deref-thread-items.ensures.value in
    let within : c.loop-thread.thread-index < length flat.threads.items = omega (arith, c.loop-thread-test.true, ap length shown) in
    let is = c.thread-item.is ∙ ap (λ (xs : List Thread). get_or xs c.loop-thread.thread-index c.thread-item.result) shown in
    record {
      count = size;
      started = one_started c.loop-thread.threads.items c.push.new.self.items flat.threads.items c.loop-thread.thread-index c.in_ok-start.field-0
          c.thread-item.result c.loop-thread.invariant.count e within is (c.in_ok-start.ensures.started, c.in_ok-start.ensures.code)
          c.loop-thread.invariant.started;
    }

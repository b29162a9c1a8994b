use Rattle.std.proofs.Common.{◌≡◌, arith, length}
use Rattle.c_tree.specs.declared.program.Variable.{Variable}
use Rattle.source_machine.proofs.ConsecutiveLists.{map_more, grown}
use Rattle.source_machine.proofs.variables.Variables.new.Goals as goal

pub loop-variable-preserved : goal.loop-variable-preserved
loop-variable-preserved c =
    let item = c.variable-item.result in
    let start : c.len.result ≡ length c.loop-variable.elements.items = omega (arith, c.len.ensures, c.loop-variable.elements.ok.0) in
    let size : c.len-in-loop-variable.result ≡ length item.initial.items = omega (arith, c.len-in-loop-variable.ensures, item.initial.ok.0) in
    let more = map_more (λ (x : Variable). x.initial.items) c.args.variables.now c.loop-variable.variable-index item c.loop-variable-test.true
    c.variable-item.is in
    let g = grown _ _ _ _ item.initial.items _ _ _ (record {
      start = c.len.result;
      length =
          c.len-in-loop-variable.result;
    }) c.loop-variable.invariant.consecutive c.loop-variable.invariant.parts c.in_ok-push.ensures.items
    c.in_ok-extend_from_slice.ensures.items c.deref.ensures.value start size more in
    record { consecutive = g.0; parts = g.1 }

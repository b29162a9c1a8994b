use Rattle.std.proofs.Common.{◌≡◌, ◌++◌, ◌-◌, map}
use Rattle.c_tree.specs.Programs.{variable_of}
use Rattle.c_tree.specs.WellFormed.{elements_in}
use Rattle.log_schemes.specs.Schemes.{numbers_from}
use Rattle.run_tracker.specs.ObjectLives.{world_of}
use Rattle.ido_cli.specs.Reports.{durable_elements}
use Rattle.ido_cli.proofs.DurableNumbers.{element_number}
use Rattle.ido_cli.proofs.durable.durable_elements.Given as goal

abbrev pub invariant-loop-element : goal.invariant-loop-element
invariant-loop-element l = record {
  end : l.element-end ≡ elements_in l.declared.length;
  so_far : l.numbers.items ++
      map (element_number (world_of l.life).words l.declared.kind l.first) (numbers_from l.element (elements_in l.declared.length - l.element)) ≡
      durable_elements (world_of l.life).words (variable_of l.declared) l.first;
}

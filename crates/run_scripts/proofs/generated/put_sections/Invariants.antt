use Rattle.std.proofs.Common.{◌≡◌, ◌++◌, drop, flat_map}
use Rattle.run_scripts.specs.GeneratedSources.{addend_of, four, mutex_of, section_line}
use Rattle.run_scripts.proofs.generated.put_sections.Given as goal

abbrev pub invariant-loop-statement : goal.invariant-loop-statement
invariant-loop-statement l =
    l.text.items ++ flat_map (λ j. section_line (mutex_of l.seed l.thread j) (addend_of l.seed l.thread j)) (drop l.statement four)
    ≡ l.initial.text.items ++ flat_map (λ j. section_line (mutex_of l.seed l.thread j) (addend_of l.seed l.thread j)) four

use Rattle.std.proofs.Common.{◌≡◌, ◌-◌, ◌/◌, ◌==◌, ◌++◌, filter}
use Rattle.std.specs.List.{list_any}
use Rattle.log_schemes.specs.Schemes.{lines_in_bank, numbers_from, size_of}
use Rattle.boundary_code.specs.Boundaries.{lines_in_use}
use Rattle.boundary_code.specs.Boundaries.{clean_lines}
use Rattle.boundary_code.proofs.code.emit_cleans.Given as goal

abbrev pub invariant-loop-line : goal.invariant-loop-line
invariant-loop-line l =
    l.code.items ++ clean_lines (filter (λ line. list_any (λ slot. slot / 8 == line) l.slots)
    (numbers_from l.line (lines_in_bank (size_of l.fn.log) - l.line))) ≡
    l.initial.code.items ++ clean_lines (lines_in_use l.fn.log l.slots)

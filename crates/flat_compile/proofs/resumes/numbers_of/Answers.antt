use Rattle.std.proofs.Common.{◌<◌, length, ap, arith}
use Rattle.std.proofs.lemmas.List.{drop_all}
use Rattle.thread_code.specs.Plans.{locks_held_from}
use Rattle.flat_compile.proofs.HeldNumbers.{next_number}
use Rattle.c_ranges.proofs.Public.{none_left, passed}
use Rattle.flat_compile.proofs.resumes.numbers_of.Goals as goal

pub loop-number-preserved : goal.loop-number-preserved
loop-number-preserved c =
    let held = c.args.held.now in
    let at = c.loop-number.number in
    let within : at < length held = omega arith in
    passed _ _ _ _ _ _ c.in_ok-push_held.ensures (next_number held at _ within) c.loop-number.invariant

pub returns : goal.returns
returns c =
    let held = c.args.held.now in
    let at = c.loop-number.number in
    none_left _ _ _ (ap (locks_held_from at) (drop_all at held (omega arith))) c.loop-number.invariant

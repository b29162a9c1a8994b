-- Worked rows: where a thread breaks the lock discipline.
use Rattle.std.proofs.Common.{◌≡◌, ℕ, List, Option, Some, None, refl}
use Rattle.ido_ints.specs.Reduction as reduction
use Rattle.c_tree.specs.declared.language.Language.TheVariants.{Plain}
use Rattle.c_tree.specs.declared.rule.Rule as r
use Rattle.c_tree.specs.declared.rule.Rule.TheVariants as rule
use Rattle.c_tree.specs.Trees as t
use Rattle.c_tree.specs.Elaboration.{typed_program}
use Rattle.c_tree.specs.Inlining.{flat_form}
use Rattle.c_tree.specs.LockDiscipline.{Fault, lock_fault}
use Rattle.c_tree.proofs.Samples.{at, operators, calls, unheld, unheld_element, again, not_held, join, least_join, loop_join, end_held}

abbrev fault_of : List t.Item → Option Fault
fault_of xs = lock_fault Plain (flat_form (typed_program xs))

abbrev fault : r.Rule → ℕ → ℕ → Option Fault
fault found place mutex = Some (record { rule = found; place = at place; lock = record { mutex = mutex; key = None } })

disciplined : fault_of operators ≡ None
unfolding typed_program flat_form lock_fault reduction.from_least_on
disciplined = refl

disciplined_calls : fault_of calls ≡ None
unfolding typed_program flat_form lock_fault reduction.from_least_on
disciplined_calls = refl

writes_unheld : fault_of unheld ≡ fault rule.Unheld 42 0
unfolding typed_program flat_form lock_fault reduction.from_least_on
writes_unheld = refl

-- the value comes before the target
reads_unheld : fault_of unheld_element ≡ fault rule.Unheld 78 0
unfolding typed_program flat_form lock_fault reduction.from_least_on
reads_unheld = refl

locks_again : fault_of again ≡ fault rule.Again 29 0
unfolding typed_program flat_form lock_fault reduction.from_least_on
locks_again = refl

unlocks_again : fault_of not_held ≡ fault rule.NotHeld 40 0
unfolding typed_program flat_form lock_fault reduction.from_least_on
unlocks_again = refl

joins : fault_of join ≡ fault rule.Join 20 0
unfolding typed_program flat_form lock_fault reduction.from_least_on
joins = refl

-- of the mutexes that are held at the end of some arms and not of all, the least: all hold the first one
joins_at_least : fault_of least_join ≡ fault rule.Join 47 1
unfolding typed_program flat_form lock_fault reduction.from_least_on
joins_at_least = refl

loops : fault_of loop_join ≡ fault rule.Join 20 0
unfolding typed_program flat_form lock_fault reduction.from_least_on
loops = refl

ends_held : fault_of end_held ≡ fault rule.EndHeld 29 0
unfolding typed_program flat_form lock_fault reduction.from_least_on
ends_held = refl

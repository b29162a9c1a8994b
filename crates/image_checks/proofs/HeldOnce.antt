-- A thread holds each lock once: no two of the names that it holds in a kept state have one lock.
use Rattle.std.proofs.Common.{◌≡◌, ◌-◌, List, [], ap, arith, sym, subst, ◌∙◌, Some}
use Rattle.std.specs.Prelude.{slice_get, slice_index_or, ℤ}
use Rattle.std.proofs.lemmas.Option.{slice_get_within, get_or_from_slice_get}
use Rattle.c_tree.specs.Exprs.{LockName}
use Rattle.c_tree.specs.LockNames.{Held, lock_names}
use Rattle.c_tree.specs.Source as m
use Rattle.source_machine.specs.Discipline.{HoldsNames, KeepsLeft}
use Rattle.source_machine.proofs.Public.{held_is_given}
use Rattle.lock_discipline.specs.HeldSetsByStep.{AreSetsOf, HeldBefore}
use Rattle.lock_discipline.proofs.Public.{set_left, thread_sets_are}
use Rattle.flow_graph.specs.Lockstep.{GraphThreadMatches}
use Rattle.flow_graph.specs.Actions.{GraphThread, FlowState}
use Rattle.flow_graph.proofs.Public.{found_in}
use Rattle.thread_code.specs.Plans.{Plan, Thread, IsThread, IsNodeOf, IsPlan, set_before, locks_before}
use Rattle.recovered_threads.specs.RecordDescriptions.{IsOrderly}
use Rattle.recovered_threads.proofs.Public.{left_at, standing_at}
use Rattle.image_checks.specs.Logs.{AreOnce}
use Rattle.image_checks.proofs.HeldNumbers.{AreApart, locks_are, once_by}
use Rattle.image_checks.proofs.HeldSets.{part_is}

module _ (p : Plan) (kept : FlowState) (plan : IsPlan p) (orderly : IsOrderly p kept) (t : Thread) (is : IsThread p t) (graph_thread : GraphThread)
    (there : slice_get kept.graph_threads t.number ≡ Some graph_thread) (own : IsNodeOf t graph_thread.at) where
  abbrev names : List LockName
  names = lock_names p.flat is.text

  abbrev set : Held
  set = set_before p t graph_thread.at

  -- the thread of the source
  found : (thread : m.Thread) × (slice_get orderly.source.threads t.number ≡ Some thread)
  found =
      found_in orderly.source.threads t.number (let l = slice_get_within kept.graph_threads t.number graph_thread there in
      omega (arith, l, orderly.matches.count))

  matches : GraphThreadMatches p.flat graph_thread found.0
  matches = orderly.matches.each t.number graph_thread found.0 there found.1

  sets : (table : List Held) × (slice_get p.held t.number ≡ Some table)
  sets = found_in p.held t.number (let l = slice_get_within p.flat.threads t.number is.text is.of_text in omega (arith, l, plan.held.each_thread))

  -- from that set what it has left keeps the discipline
  keeps_left : KeepsLeft p.flat names set found.0.left
  keeps_left =
      let step = graph_thread.at - t.part.first in
      let stands = sym (standing_at p.flat t.number t.part is.text graph_thread.at (part_is p plan t is) is.of_text own.from_first own.below_end)
      ∙ matches.stands in
      let left = left_at is.text step _ stands in
      let of : AreSetsOf p.flat is.text sets.0 = plan.held.sets t.number is.text sets.0 is.of_text sets.1 in
      let own_set = set_left p.flat is.text step found.0.left of.disciplined left in
      let before : HeldBefore p.flat is.text step own_set.0 = ((thread_sets_are p.flat is.text of.disciplined).exactly step own_set.0).0 own_set.1 in
      let there_is : slice_get sets.0 step ≡ Some own_set.0 = (of.exactly step own_set.0).1 before in
      let same : set ≡ own_set.0 =
      ap (λ (table : List Held). slice_index_or table step []) (get_or_from_slice_get p.held t.number sets.0 [] sets.1)
      ∙ get_or_from_slice_get sets.0 step own_set.0 [] there_is in
      subst (λ (h : Held). KeepsLeft p.flat names h found.0.left) (sym same) own_set.2

  apart : AreApart graph_thread.locals names set
  apart =
      let given : HoldsNames names set found.0.locals orderly.source.holders t.number =
      held_is_given p.flat orderly.source t.number is.text found.0 set orderly.keeps is.of_text found.1 keeps_left in
      subst (λ (ls : List ℤ). AreApart ls names set) (sym matches.locals) given.apart

  pub held_once : AreOnce (locks_before p t graph_thread.locals graph_thread.at)
  held_once = subst AreOnce (sym (locks_are p plan t is graph_thread.locals graph_thread.at)) (once_by graph_thread.locals names set apart)

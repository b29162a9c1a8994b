use Rattle.std.proofs.Common.{◌≡◌, ◌-◌, ◌<◌, ℕ, List, length, drop, take, Some, ap, sym, subst, ◌∙◌, arith}
use Rattle.std.specs.Prelude.{slice_get, slice_index_or}
use Rattle.machine_model.specs.Schedule.{schedules}
use Rattle.run_tracker.specs.ObjectLives.{Course, steps_in}
use Rattle.run_tracker.specs.links.AccountRepresentation.{life_place}
use Rattle.run_tracker.specs.links.LifeRepresentation.{course_of}
use Rattle.run_tracker.proofs.LivesEnd.{life_there, lives_counted}
use Rattle.run_tracker.proofs.life.Life.schedule.Goals as goal

pub begins_at-from-requires : goal.begins_at-from-requires
begins_at-from-requires c =
    let life = c.self.inside in
    omega (
      arith,
      c.requires,
      ap (λ (x : Course). length (schedules (steps_in x))) c.self.view_is,
      ap length c.deref.ensures.value,
      lives_counted (steps_in (course_of life)) life.ends.items c.self.invariant.ends,
    )

pub steps_between-requires-clause-order : goal.steps_between-requires-clause-order
steps_between-requires-clause-order c =
    let life = c.self.inside in
    let stands = c.self.invariant in
    let s = steps_in (course_of life) in
    let kept : List ℕ = life.account.kept.items in
    let size : c.len.result ≡ length kept = omega (arith, c.len.ensures, life.account.kept.ok.0) in
    let from_is : c.begins_at-from.result ≡ life_place 0 life.ends.items c.args.life =
    c.begins_at-from.ensures ∙ ap (λ (ns : List ℕ). life_place 0 ns c.args.life) c.deref.ensures.value in
    let to_is : c.ends_at-to.result ≡ slice_index_or life.ends.items c.args.life (length kept) =
    c.ends_at-to.ensures ∙ (ap (λ (ns : List ℕ). slice_index_or ns c.args.life c.len.result) c.deref-2.ensures.value
    ∙ ap (slice_index_or life.ends.items c.args.life) size) in
    let there = life_there s kept life.ends.items c.args.life c.begins_at-from.result c.ends_at-to.result stands.account.kept stands.ends
    (subst (λ (x : Course). c.args.life < length (schedules (steps_in x))) (sym c.self.view_is) c.requires) from_is to_is in
    there.0

pub steps_between-requires-clause-within : goal.steps_between-requires-clause-within
steps_between-requires-clause-within c =
    let life = c.self.inside in
    let stands = c.self.invariant in
    let s = steps_in (course_of life) in
    let kept : List ℕ = life.account.kept.items in
    let size : c.len.result ≡ length kept = omega (arith, c.len.ensures, life.account.kept.ok.0) in
    let from_is : c.begins_at-from.result ≡ life_place 0 life.ends.items c.args.life =
    c.begins_at-from.ensures ∙ ap (λ (ns : List ℕ). life_place 0 ns c.args.life) c.deref.ensures.value in
    let to_is : c.ends_at-to.result ≡ slice_index_or life.ends.items c.args.life (length kept) =
    c.ends_at-to.ensures ∙ (ap (λ (ns : List ℕ). slice_index_or ns c.args.life c.len.result) c.deref-2.ensures.value
    ∙ ap (slice_index_or life.ends.items c.args.life) size) in
    let there = life_there s kept life.ends.items c.args.life c.begins_at-from.result c.ends_at-to.result stands.account.kept stands.ends
    (subst (λ (x : Course). c.args.life < length (schedules (steps_in x))) (sym c.self.view_is) c.requires) from_is to_is in
    omega (arith, there.1, ap length c.deref-3.ensures.value)

pub returns : goal.returns
returns c =
    let life = c.self.inside in
    let stands = c.self.invariant in
    let s = steps_in (course_of life) in
    let kept : List ℕ = life.account.kept.items in
    let size : c.len.result ≡ length kept = omega (arith, c.len.ensures, life.account.kept.ok.0) in
    let from_is : c.begins_at-from.result ≡ life_place 0 life.ends.items c.args.life =
    c.begins_at-from.ensures ∙ ap (λ (ns : List ℕ). life_place 0 ns c.args.life) c.deref.ensures.value in
    let to_is : c.ends_at-to.result ≡ slice_index_or life.ends.items c.args.life (length kept) =
    c.ends_at-to.ensures ∙ (ap (λ (ns : List ℕ). slice_index_or ns c.args.life c.len.result) c.deref-2.ensures.value
    ∙ ap (slice_index_or life.ends.items c.args.life) size) in
    let there = life_there s kept life.ends.items c.args.life c.begins_at-from.result c.ends_at-to.result stands.account.kept stands.ends
    (subst (λ (x : Course). c.args.life < length (schedules (steps_in x))) (sym c.self.view_is) c.requires) from_is to_is in
    let steps : c.steps_between.result.now ≡ take (c.ends_at-to.result - c.begins_at-from.result) (drop c.begins_at-from.result kept) =
    c.steps_between.ensures
    ∙ ap (λ (xs : List ℕ). take (c.ends_at-to.result - c.begins_at-from.result) (drop c.begins_at-from.result xs)) c.deref-3.ensures.value in
    subst (λ (x : Course). slice_get (schedules (steps_in x)) c.args.life ≡ Some c.steps_between.result.now) c.self.view_is (there.2 ∙ ap Some (sym steps))

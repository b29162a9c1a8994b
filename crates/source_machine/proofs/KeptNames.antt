-- A step that locks and unlocks nothing leaves the set of its thread, and the locks of the set's names.
use Rattle.std.proofs.Common.{◌≡◌, refl, ℕ, sym, ◌∙◌, ap, subst, length, Option, Some, None}
use Rattle.std.specs.Prelude.{slice_get}
use Rattle.std.proofs.lemmas.Option.{slice_get_within}
use Rattle.c_tree.specs.Flats as f
use Rattle.c_tree.specs.Source as m
use Rattle.c_tree.specs.LockNames.{Held, none_held, lock_names}
use Rattle.source_machine.specs.Mutexes.{lock_ahead, unlock_ahead}
use Rattle.source_machine.specs.Discipline.{KeepsLeft, HaveOneLock, LeavesNames}
use Rattle.source_machine.proofs.Emission.{set_same}
use Rattle.source_machine.proofs.StepChanges.{some_is, Passed, ChangesMutex, takes, gives, locks_found, unlocks_found}
use Rattle.source_machine.proofs.Discipline.{stepped}
use Rattle.source_machine.proofs.HeldBeforeContinuations.{set_is_one}

-- a step that isn't at a lock or an unlock passes no mutex
none_passed : (s : m.State) (t : ℕ) (thread : m.Thread) (o : Option Passed) → ((p : Passed) → o ≡ Some p → ChangesMutex s t thread p) →
    lock_ahead thread ≡ None → unlock_ahead thread ≡ None → o ≡ None
none_passed s t thread None passes a b = refl
none_passed s t thread (Some p) passes a b = elim (passes p refl) [
  | takes is free to ↦ let no : None ≡ Some p.mutex = sym a ∙ is in cc
  | gives is own to ↦ let no : None ≡ Some p.mutex = sym b ∙ is in cc
]

pub leaves_names : LeavesNames
leaves_names x s next number text before after h keeps step locks_none unlocks_none its here there left =
    let p = stepped x s next number keeps step in
    let c = p.does.change in
    let none = none_passed s number p.thread c.passed p.does.passes (sym (locks_found s number p.thread p.there) ∙ locks_none)
    (sym (unlocks_found s number p.thread p.there) ∙ unlocks_none) in
    let from : p.thread ≡ before = some_is p.thread before (sym p.there ∙ here) in
    let made : slice_get next.threads number ≡ Some c.thread =
    ap (λ (z : m.State). slice_get z.threads number) p.is
    ∙ set_same s.threads number c.thread (slice_get_within s.threads number p.thread p.there) in
    let to : c.thread ≡ after = some_is c.thread after (sym made ∙ there) in
    let old : p.before.text ≡ text = some_is p.before.text text (sym p.before.its ∙ its) in
    let new : p.does.keeps.text ≡ text = some_is p.does.keeps.text text (sym p.does.keeps.its ∙ its) in
    let mine : KeepsLeft x (lock_names x text) p.before.set before.left =
    subst (λ (y : f.Thread). KeepsLeft x (lock_names x y) p.before.set before.left) old
    (subst (λ (y : m.Thread). KeepsLeft x (lock_names x p.before.text) p.before.set y.left) from p.before.left) in
    let one : p.before.set ≡ h =
    set_is_one x.variables (lock_names x text) before.left p.before.set h (none_held (length (lock_names x text))) mine left in (
      subst (λ (y : Held). KeepsLeft x (lock_names x text) y after.left) (p.does.same_set none ∙ one)
          (subst (λ (y : f.Thread). KeepsLeft x (lock_names x y) p.does.keeps.set after.left) new
          (subst (λ (y : m.Thread). KeepsLeft x (lock_names x p.does.keeps.text) p.does.keeps.set y.left) to p.does.keeps.left)),
      subst (λ (y : Held). HaveOneLock (lock_names x text) y before.locals after.locals) one
          (subst (λ (y : f.Thread). HaveOneLock (lock_names x y) p.before.set before.locals after.locals) old
          (subst (λ (y : m.Thread). HaveOneLock (lock_names x p.before.text) p.before.set y.locals after.locals) from
          (subst (λ (y : m.Thread). HaveOneLock (lock_names x p.before.text) p.before.set p.thread.locals y.locals) to (p.does.same_locks none)))),
    )

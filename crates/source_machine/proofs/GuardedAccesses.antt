-- What a step writes and reads.
use Rattle.std.proofs.Common.{◌≡◌, ◌⊎◌, inl, inr, refl, ℕ, sym, ◌∙◌, ap, subst, Option, Some, None, slice_set, ⊎_elim}
use Rattle.std.specs.Prelude.{slice_get}
use Rattle.std.proofs.lemmas.Bool.{cases_eq}
use Rattle.std.proofs.lemmas.Option.{slice_get_within}
use Rattle.c_tree.specs.Flats as f
use Rattle.c_tree.specs.Source as m
use Rattle.c_tree.specs.Source.{source_step}
use Rattle.source_machine.specs.ElementLocks.{found_number}
use Rattle.source_machine.specs.Discipline.{Guards, WritesGuarded, LeavesOthers, LeavesHeld, LooksSame, ChangesLockstep, ReadsGuarded}
use Rattle.source_machine.proofs.Emission.{set_same, set_other}
use Rattle.source_machine.proofs.StateRuns.{step_found}
use Rattle.source_machine.proofs.StepChanges.{some_is, Passed, with_passed, changed, ChangesMutex, takes, gives, store_other, store_same, locks_found}
use Rattle.source_machine.proofs.Discipline.{stepped, apart}

pub writes_guarded : WritesGuarded
writes_guarded x s next t v e keeps h n =
    let p = stepped x s next t keeps h in
    ap (λ (z : m.State). found_number z.variables v e) p.is ∙ store_other p.does.change.store s.variables v e
    (λ q g a b. n (subst (λ (w : ℕ). Guards x s t w e) (sym a) (subst (λ (d : ℕ). Guards x s t q.variable d) (sym b) (p.does.owned q g))))

pub leaves_others : LeavesOthers
leaves_others x s next t u v e keeps h n g = writes_guarded x s next t v e keeps h (λ k. n (some_is u t (some_is (Some u) (Some t) (sym g ∙ k))))

pub leaves_held : LeavesHeld
leaves_held x s next t u keeps h n = apart x s next t u (stepped x s next t keeps h) n

-- each mutex changes in the same way
lockstep : (x : f.Flat) (s other : m.State) (t : ℕ) (thread : m.Thread) (o : Option Passed) → slice_get s.threads t ≡ Some thread →
    ((p : Passed) → o ≡ Some p → ChangesMutex s t thread p) → LooksSame x s other t → (k : ℕ) →
    let left : Type 0 = (slice_get (with_passed o s.holders) k ≡ slice_get s.holders k) ×
    (slice_get (with_passed o other.holders) k ≡ slice_get other.holders k) in
    let right : Type 0 = (slice_get other.holders k ≡ slice_get s.holders k) ×
    (slice_get (with_passed o other.holders) k ≡ slice_get (with_passed o s.holders) k) in
    left ⊎ right
lockstep x s other t thread None there passes l k = inl (refl, refl)
lockstep x s other t thread (Some p) there passes l k = ⊎_elim
    (λ e. subst (λ (j : ℕ).
    let left : Type 0 = (slice_get (slice_set s.holders p.mutex p.holder) j ≡ slice_get s.holders j) ×
    (slice_get (slice_set other.holders p.mutex p.holder) j ≡ slice_get other.holders j) in
    let right : Type 0 = (slice_get other.holders j ≡ slice_get s.holders j) ×
    (slice_get (slice_set other.holders p.mutex p.holder) j ≡ slice_get (slice_set s.holders p.mutex p.holder) j) in
    left ⊎ right) (sym e) (inr (at_it (passes p refl))))
    (λ n. inl (set_other s.holders p.mutex k p.holder n, set_other other.holders p.mutex k p.holder n))
    (cases_eq k p.mutex)
  where
    -- the mutex that is passed
    both : (o : Option ℕ) → slice_get s.holders p.mutex ≡ Some o → slice_get other.holders p.mutex ≡ slice_get s.holders p.mutex →
        (slice_get other.holders p.mutex ≡ slice_get s.holders p.mutex) ×
        (slice_get (slice_set other.holders p.mutex p.holder) p.mutex ≡ slice_get (slice_set s.holders p.mutex p.holder) p.mutex)
    both o g e = (
      e,
      set_same other.holders p.mutex p.holder (slice_get_within other.holders p.mutex o (e ∙ g))
          ∙ sym (set_same s.holders p.mutex p.holder (slice_get_within s.holders p.mutex o g)),
    )

    at_it : ChangesMutex s t thread p → (slice_get other.holders p.mutex ≡ slice_get s.holders p.mutex) ×
        (slice_get (slice_set other.holders p.mutex p.holder) p.mutex ≡ slice_get (slice_set s.holders p.mutex p.holder) p.mutex)
    at_it (takes a free to) = both None free (l.ahead p.mutex (locks_found s t thread there ∙ a))
    at_it (gives a own to) = both (Some t) own (l.held p.mutex own)

pub reads_guarded : ReadsGuarded
reads_guarded x s next other t keeps h l =
    let p = stepped x s next t keeps h in
    let c = p.does.change in
    let there : slice_get other.threads t ≡ Some p.thread = l.own ∙ p.there in
    let one : slice_get (slice_set other.threads t c.thread) t ≡ Some c.thread =
    set_same other.threads t c.thread (slice_get_within other.threads t p.thread there) in
    let two : slice_get (slice_set s.threads t c.thread) t ≡ Some c.thread = set_same s.threads t c.thread (slice_get_within s.threads t p.thread p.there) in
    record {
      after = changed other t c;
      is = step_found other t p.thread there ∙ p.does.same other l;
      own = one ∙ (sym two ∙ ap (λ (z : m.State). slice_get z.threads t) (sym p.is));
      holders = λ k. subst (λ (z : m.State). ChangesLockstep s z other (changed other t c) k) (sym p.is)
          (lockstep x s other t p.thread c.passed p.there p.does.passes l k);
      guarded = λ v e g. store_same c.store s.variables other.variables v e (l.guarded v e g)
          ∙ ap (λ (z : m.State). found_number z.variables v e) (sym p.is);
    }

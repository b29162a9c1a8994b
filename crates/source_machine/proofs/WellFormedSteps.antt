-- The answers of steps in a state of a well formed flat form.
use Rattle.std.proofs.Common.{◌≡◌, refl, sym, ◌∙◌, ap, subst, ⊎_elim, ℕ, List, Option, Some, None}
use Rattle.std.specs.Prelude.{slice_get, ℤ}
use Rattle.c_tree.specs.Flats as f
use Rattle.c_tree.specs.Source as m
use Rattle.c_ranges.specs.RunInvariants.{IsStateOf, IsOver, IsAtHeldLock}
use Rattle.c_ranges.proofs.Public.{stops}
use Rattle.source_machine.specs.Runs.{stepped_of}
use Rattle.source_machine.specs.Mutexes.{first_lock, lock_ahead}
use Rattle.source_machine.specs.Answers.{answer_of}
use Rattle.source_machine.specs.declared.answers.Stepped.{Stepped}
use Rattle.source_machine.specs.declared.answers.Stepped.TheVariants.{Did, Waits, Ended}

-- the mutex at whose lock the thread stands, by what is pending and left
abbrev ahead_by : (locals : List ℤ) → Option m.Pending → List f.Statement → Option ℕ
ahead_by ls o left = elim o [
  | Some p ↦ None
  | None ↦ first_lock ls left
]

abbrev answer_by : m.Thread → Option ℕ → Stepped
answer_by it o = elim o [
  | Some mutex ↦ Waits mutex
  | None ↦ Ended
]

over_ahead : (it : m.Thread) → IsOver it → lock_ahead it ≡ None
over_ahead it h = λ i. ahead_by it.locals (h.idle i) (h.done i)

stands_ahead : (s : m.State) (t : ℕ) (it : m.Thread) (mutex : ℕ) → IsAtHeldLock s t it mutex → lock_ahead it ≡ Some mutex
stands_ahead s t it mutex h = (λ i. ahead_by it.locals (h.next.idle i) (h.next.first i)) ∙ ap Some h.number

module _ (x : f.Flat) (s : m.State) (t : ℕ) (it : m.Thread) (is : IsStateOf x s) (found : slice_get s.threads t ≡ Some it) where
  abbrev stepped_by : Option m.Thread → Stepped
  stepped_by o = elim o [
    | Some thread ↦ answer_of thread (m.source_step s t)
    | None ↦ Ended
  ]

  answered : stepped_of s t ≡ answer_of it (m.source_step s t)
  answered = ap stepped_by found

  -- an answer that isn't `Did` comes where there is no step
  stopped : (o : Option m.State) → m.source_step s t ≡ o → (a : Stepped) → stepped_of s t ≡ a → (a ≡ Did → ⊥) →
      (m.source_step s t ≡ None) × (answer_by it (lock_ahead it) ≡ a)
  stopped None e a h n = (e, sym (answered ∙ ap (answer_of it) e) ∙ h)
  stopped (Some next) e a h n = absurd (n (sym h ∙ (answered ∙ ap (answer_of it) e)))

  pub ended_over : stepped_of s t ≡ Ended → IsOver it
  ended_over h =
      let r = stopped (m.source_step s t) refl Ended h (λ e. cc) in
      ⊎_elim (λ over. over)
      (λ stands. let held : answer_by it (lock_ahead it) ≡ Waits stands.0 = ap (answer_by it) (stands_ahead s t it stands.0 stands.1) in cc)
      (stops x s t it is found r.0)

  pub waits_held : (mutex : ℕ) → stepped_of s t ≡ Waits mutex → IsAtHeldLock s t it mutex
  waits_held mutex h =
      let r = stopped (m.source_step s t) refl (Waits mutex) h (λ e. cc) in
      ⊎_elim
      (λ over. let ended : answer_by it (lock_ahead it) ≡ Ended = ap (answer_by it) (over_ahead it over) in cc)
      (λ stands.
      let held : answer_by it (lock_ahead it) ≡ Waits stands.0 = ap (answer_by it) (stands_ahead s t it stands.0 stands.1) in
      let same : stands.0 ≡ mutex = cc in
      subst (λ (k : ℕ). IsAtHeldLock s t it k) same stands.1)
      (stops x s t it is found r.0)

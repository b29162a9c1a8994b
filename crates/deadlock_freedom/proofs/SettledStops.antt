-- Where each hart has ended or is done with its recovery, each stands between sections: it holds nothing and has no point.
use Rattle.std.proofs.Common.{◌≡◌, ◌⊎◌, inl, inr, refl, ℕ, zero, suc, ◌+◌, ◌≤◌, List, [], ◌∷◌, length, ap, sym, ◌∙◌, arith, Bool, true}
use Rattle.std.proofs.Common.{false, Option, Some, None}
use Rattle.std.specs.Prelude.{slice_get, is_none, ◌==◌, ◌&&◌}
use Rattle.std.proofs.lemmas.Bool.{cond_both, eqb-true}
use Rattle.std.proofs.lemmas.Option.{slice_get_cases}
use Rattle.machine_events.specs.declared.event.Event.{Event}
use Rattle.ido_base.specs.Locks.{held_from, holds_none, is_held_by}
use Rattle.log_schemes.specs.Layout.{point_at}
use Rattle.machine_model.specs.declared.phase.Phase.TheVariants.{Done, Ended}
use Rattle.machine_model.specs.Machine.{Hart, World, are_settled, durable_point, has_stopped, is_settled, is_settled_hart, live_at}
use Rattle.compiler_correctness.specs.Translations.{Translation, world}
use Rattle.compiler_correctness.specs.Compilation.{AreWhole}
use Rattle.deadlock_freedom.specs.Deadlocks.{HaveStopped}
use Rattle.deadlock_freedom.proofs.HartReplies.{HasNotStopped}
use Rattle.deadlock_freedom.proofs.Holders.{HoldersGoOn, holders_go_on}

held_is : (h : ℕ) (o : Option ℕ) → is_held_by h o ≡ true → o ≡ Some h
held_is h None e = absurd (let no : false ≡ true = e in cc)
held_is h (Some g) e = ap (λ (n : ℕ). Some n) (sym (eqb-true h g e))

-- one that no lock has as its holder holds none
none_held : (at : ℕ) (holders : List (Option ℕ)) (h : ℕ) → ((lock : ℕ) → slice_get holders lock ≡ Some (Some h) → ⊥) → is_none (held_from at holders h) ≡ true
none_held at [] h free = refl
none_held at (o ∷ os) h free =
    cond_both (is_held_by h o) (Some at) (held_from (at + 1) os h) (λ (x : Option ℕ). is_none x ≡ true)
    (λ own. absurd (free zero (ap (λ (x : Option ℕ). Some x) (held_is h o own))))
    (λ _. none_held (at + 1) os h (λ lock e. free (suc lock) e))

stopped_is : (hart : Hart) → (hart.phase ≡ Ended) ⊎ (hart.phase ≡ Done) → has_stopped hart.phase ≡ true
stopped_is hart (inl ended) = ap has_stopped ended
stopped_is hart (inr done) = ap has_stopped done

stopped_not_on : (hart : Hart) → (hart.phase ≡ Ended) ⊎ (hart.phase ≡ Done) → HasNotStopped hart → ⊥
stopped_not_on hart (inl ended) on = on.not_ended ended
stopped_not_on hart (inr done) on = on.not_done done

module _ (c : Translation) (events : List Event) (whole : AreWhole c events) (stopped : HaveStopped (world c events)) where
  abbrev w : World
  w = world c events

  goes_on : HoldersGoOn w
  goes_on = holders_go_on c.runs.log c.runs.program c.runs.mutexes c.runs.initial events

  hart_settled : (h : ℕ) (hart : Hart) → slice_get w.harts h ≡ Some hart → is_settled_hart w h ≡ true
  hart_settled h hart here =
      let outside = stopped_is hart (stopped h hart here) in
      let live = (whole h hart here).no_live_point (inl outside) in
      let durable = (whole h hart here).no_durable_point (inl outside) in
      let free : holds_none w.holders h ≡ true = none_held 0 w.holders h (λ lock held.
      (let o = goes_on.each lock h held in
      let found : Some o.0 ≡ Some hart = sym o.1 ∙ here in
      let same : o.0 ≡ hart = cc in
      stopped_not_on o.0 (stopped h o.0 o.1) o.2)) in
      ap (λ (b : Bool). b && ((durable_point w.log w.words h == 0) && (live_at w.words (point_at w.log h) == 0))) free
      ∙ (ap (λ (n : ℕ). (n == 0) && (live_at w.words (point_at w.log h) == 0)) durable ∙ ap (λ (n : ℕ). n == 0) live)

  each_settled : (count : ℕ) → count ≤ length w.harts → are_settled w count ≡ true
  each_settled zero within = refl
  each_settled (suc h) within = elim ((slice_get_cases w.harts h).1) [
    | inl found ↦
        ap (λ (b : Bool). b && is_settled_hart w h) (each_settled h (omega (arith, within))) ∙ hart_settled h found.0 found.2
    | inr missing ↦ let none = missing.0 in absurd (omega (arith, within, none))
  ]

  pub settled : is_settled w ≡ true
  settled = each_settled (length w.harts) (omega arith)

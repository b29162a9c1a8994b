-- The live point of a log on its way from the one record to the other.
use Rattle.std.proofs.Common.{◌≡◌, ◌⊎◌, inl, inr, ℕ, ap, sym, ◌∙◌, false}
use Rattle.std.proofs.lemmas.Bool.{cases_Bool, cond-true}
use Rattle.log_schemes.specs.declared.log.Log.{Log}
use Rattle.log_schemes.specs.Layout.{point_at}
use Rattle.machine_model.specs.Machine.{durable_point, live_at}
use Rattle.log_states.specs.Logs.{Record, point_in, IsRecorded}
use Rattle.log_states.specs.Stages.{LogConfig, LogIs, Stage, Writing, Written, Pointed, PointQueued, Over, is_committed}
use Rattle.log_states.specs.Laws.{LivePointIs}
use Rattle.log_states.proofs.FactsByName.{log_facts}
use Rattle.log_states.proofs.Words.{durable_is}

module _ (log : Log) (thread : ℕ) (old new : Record) (m : LogConfig) (l : LogIs log thread old new m) where
  Is : Type 0
  Is = (live_at m.words (point_at log thread) ≡ new.point) ⊎ ((live_at m.words (point_at log thread) ≡ old.point) × (is_committed log thread m ≡ false))

  from_old : IsRecorded log thread old m.words → Is
  unfolding Is
  from_old h = elim (cases_Bool (is_committed log thread m)) [
    | inl committed ↦
        let durable : durable_point log m.words thread ≡ old.point = durable_is (point_in log m.words thread) old.point h.point in
        let new_is : durable_point log m.words thread ≡ new.point =
        log_facts.record_follows_locks.point log thread old new m l ∙ ap (λ (r : Record). r.point) (cond-true (is_committed log thread m) new old committed) in
        inl (h.point.live ∙ (sym durable ∙ new_is))
    | inr not_yet ↦ inr (h.point.live, not_yet)
  ]

  by_stage : Stage log thread old new m → Is
  unfolding Is
  by_stage (Writing slots lines framing writing h) = from_old h
  by_stage (Written rest h bank frame) = from_old h
  by_stage (Pointed rest h) = inl h.last
  by_stage (PointQueued rest h r) = inl h.last
  by_stage (Over rest h) = inl h.point.live

pub live_is : LivePointIs
unfolding Is
live_is log thread old new m l = by_stage log thread old new m l l.stage

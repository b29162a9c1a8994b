-- What a turn has to do with steps that were run ahead.
use Rattle.std.proofs.Common.{◌≡◌, ℕ, ◌-◌, ◌≤◌, List, min, subst, Bool, Option, Some, None, ap, ◌∙◌, inl, inr, ⊎_elim, arith}
use Rattle.machine_events.specs.declared.event.Event.{Event}
use Rattle.hart_board.specs.declared.core_turn.Ahead.{Ahead}
use Rattle.hart_board.specs.declared.core_turn.Made.{Made}
use Rattle.hart_board.specs.declared.core_turn.Quota.{Quota}
use Rattle.hart_board.specs.declared.seat.Seat.{Seat}
use Rattle.hart_board.specs.CoreTurns.{Adopts, HasComeTo, RunsOn, count_made}
use Rattle.hart_board.specs.Seats.{RanAhead, TookAhead, TryAhead, answer_of, quota_of, turn_limit}

module _ {C L : Type 0} (history : C → List Event) (is_at_beginning : C → ℕ → L → Type 0) (core : C) (q : Quota) (most : ℕ) where
  -- where a turn of no event adopts, there is nothing to adopt
  pub adopts_nothing : (ahead : Option (Ahead L)) (count : ℕ) → Adopts history is_at_beginning core q most ahead 0 →
      Adopts history is_at_beginning core q most ahead count
  adopts_nothing None count h = tt
  adopts_nothing (Some a) count h = λ at fits. let n = h at fits in let some = fits.some in omega (arith, n, some)

  pub adopts_more : (ahead : Option (Ahead L)) (count more : ℕ) → count ≤ more → Adopts history is_at_beginning core q most ahead count →
      Adopts history is_at_beginning core q most ahead more
  adopts_more None count more less h = tt
  adopts_more (Some a) count more less h = λ at fits. let n = h at fits in omega (arith, n, less)

-- from the same beginning twice some steps more
pub runs_on : {C L : Type 0} (is_at_beginning : C → ℕ → L → Type 0) (limit : ℕ) (x y z : Option (Ahead L)) → RunsOn is_at_beginning limit x y →
    RunsOn is_at_beginning limit y z → RunsOn is_at_beginning limit x z
runs_on is_at_beginning limit None None None f g = tt
runs_on is_at_beginning limit None None (Some c) f g = g
runs_on is_at_beginning limit None (Some b) z f g = absurd f
runs_on is_at_beginning limit (Some a) None z f g = absurd f
runs_on is_at_beginning limit (Some a) (Some b) None f g = g
runs_on {L = L} is_at_beginning limit (Some a) (Some b) (Some c) f g = (
  λ core seat. (λ h. (f.0 core seat).0 ((g.0 core seat).0 h), λ h. (g.0 core seat).1 ((f.0 core seat).1 h)),
  (let n = f.1 in let m = g.1 in omega (arith, n, m)),
  ⊎_elim
      (λ (same : c ≡ b). ⊎_elim (λ (e : b ≡ a). inl (same ∙ e))
      (λ (few : b.steps ≤ limit). inr (let n = ap (λ (w : Ahead L). w.steps) same in omega (arith, n, few))) f.2)
      (λ (few : c.steps ≤ limit). inr few) g.2,
)

-- what has run on from what had run on before
pub ran_after : {C L : Type 0} (history : C → List Event) (is_at_beginning : C → ℕ → L → Type 0) (goes_ahead : L → Bool) (most : ℕ) (old mid : Seat C L)
    (ahead : Option (Ahead L)) → RunsOn is_at_beginning (turn_limit most old) old.local mid.local → quota_of mid ≡ quota_of old →
    RanAhead history is_at_beginning goes_ahead most mid ahead → RanAhead history is_at_beginning goes_ahead most old ahead
ran_after history is_at_beginning goes_ahead most old mid ahead on same r = record {
  on = runs_on is_at_beginning (turn_limit most old) old.local mid.local ahead on
      (subst (λ (q : Quota). RunsOn is_at_beginning (min most (q.turns - q.made)) mid.local ahead) same r.on);
  far = subst (λ (q : Quota). HasComeTo goes_ahead (min most (q.turns - q.made)) ahead) same r.far;
}

-- what is answered tells so
pub try_ahead : {C L : Type 0} (history : C → List Event) (is_at_beginning : C → ℕ → L → Type 0) (goes_ahead : L → Bool)
    (is_play : List Event → C → Type 0) (most : ℕ) (result : Option Made) (s t : Seat C L) →
    TookAhead history is_at_beginning goes_ahead is_play most (count_made result) s t →
    TryAhead history is_at_beginning goes_ahead is_play most (answer_of result) s t
try_ahead history is_at_beginning goes_ahead is_play most None s t h = h
try_ahead history is_at_beginning goes_ahead is_play most (Some made) s t h = h

-- a turn that is taken after waiting
pub took_after : {C L : Type 0} (history : C → List Event) (is_at_beginning : C → ℕ → L → Type 0) (goes_ahead : L → Bool)
    (is_play : List Event → C → Type 0) (most count : ℕ) (old mid new : Seat C L) → RunsOn is_at_beginning (turn_limit most old) old.local mid.local →
    quota_of mid ≡ quota_of old → TookAhead history is_at_beginning goes_ahead is_play most count mid new →
    TookAhead history is_at_beginning goes_ahead is_play most count old new
took_after history is_at_beginning goes_ahead is_play most count old mid new on same t = record {
  before = t.before;
  last = t.last;
  seen_is = t.seen_is;
  core = t.core;
  plays = t.plays;
  ahead = t.ahead;
  ran = ran_after history is_at_beginning goes_ahead most old mid t.ahead on same t.ran;
  adopts = subst (λ (q : Quota). Adopts history is_at_beginning t.core q most t.ahead count) same t.adopts;
  again = t.again;
}

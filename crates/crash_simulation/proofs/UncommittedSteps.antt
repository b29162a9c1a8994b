-- What happens and keeps no step leads on, with the same kept state.
use Rattle.crash_simulation.proofs.Common.{◌≡◌, ℕ, List, ◌∙◌, ap, subst, [], ◌++◌, append-nil, Config, ConfigStep, kept_steps, Execution, then, RespectsAll}
use Rattle.crash_simulation.proofs.Common.{RespectsBoundaries, AbstractRun, kept_of, System, flat_of}

module _ (y : System) (b : AbstractRun y) where
  pub leads_on : (next : Config) (h : ConfigStep b.config next) → kept_steps h ≡ [] → RespectsBoundaries (flat_of y) y.plan.boundaries (kept_of y b) h →
      (l : Execution (flat_of y) b.origin.source next b.schedule) × RespectsAll (flat_of y) y.plan.boundaries b.origin l
  leads_on next h none minded =
      subst (λ (s : List ℕ). (l : Execution (flat_of y) b.origin.source next s) × RespectsAll (flat_of y) y.plan.boundaries b.origin l)
      (ap (λ (k : List ℕ). b.schedule ++ k) none ∙ append-nil b.schedule) (then b.execution h, (b.respects, minded))

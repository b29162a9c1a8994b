-- Every event keeps the invariant.
use Rattle.c_tree.specs.Flats as f
use Rattle.recovery_semantics.specs.Configs.{Config, Invariant}
use Rattle.recovery_semantics.specs.Events.{ConfigStep, steps_locally, stores, synchronises, persists, commits, crashes}
use Rattle.recovery_semantics.specs.Laws.{EventsKeep}
use Rattle.recovery_semantics.proofs.StepsKeepInvariant.{goes_on_keeps, stores_keeps, passes_keeps}
use Rattle.recovery_semantics.proofs.CrashesKeepInvariant.{persists_keeps, crash_keeps}
use Rattle.recovery_semantics.proofs.CommitsKeepInvariant.{settles_keeps}

kept_by : (x : f.Flat) (m : Config) (next : Config) → Invariant x m → ConfigStep m next → Invariant x next
kept_by x m _ i (steps_locally t attempts e) = goes_on_keeps x m t attempts i e
kept_by x m _ i (stores t memory attempts e) = stores_keeps x m t memory attempts i e
kept_by x m _ i (synchronises t e) = passes_keeps x m t i e
kept_by x m _ i (persists memory e) = persists_keeps x m memory i e
kept_by x m _ i (commits t attempts e) = settles_keeps x m t i attempts e
kept_by x m _ i (crashes attempts e) = crash_keeps x m attempts i e

pub events_keep : EventsKeep
events_keep x m next i h = kept_by x m next i h

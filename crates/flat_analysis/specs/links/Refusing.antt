-- The refusal that each check of a flat form comes to.
use Rattle.std.specs.Prelude.{◌≡◌, ℕ, Some}
use Rattle.ido_base.specs.declared.place.Place.{Place}
use Rattle.c_tree.specs.declared.refusal.SourceError.{SourceError}
use Rattle.c_tree.specs.declared.refusal.SourceError.TheVariants as source
use Rattle.c_tree.specs.declared.rule.Rule.{Rule}
use Rattle.c_tree.specs.declared.rule.Rule.TheVariants as rule
use Rattle.c_tree.specs.Flats.{Flat}
use Rattle.c_tree.specs.Temporaries.{temporaries_fault}
use Rattle.flow_graph.specs.Nodes.{Graph}
use Rattle.flow_graph.specs.Liveness.{IsFirstCrowded}
use Rattle.lock_discipline.specs.declared.error.LockError as lock
use Rattle.lock_discipline.specs.declared.error.LockError.TheVariants as lock_error

abbrev pub refusal_by : Rule → Place → SourceError
refusal_by found place = source.Refused (record { rule = found; place = place })

abbrev pub of_lock : lock.LockError → SourceError
of_lock (lock_error.Unheld place name) = refusal_by rule.Unheld place
of_lock (lock_error.Again place name) = refusal_by rule.Again place
of_lock (lock_error.NotHeld place name) = refusal_by rule.NotHeld place
of_lock (lock_error.Join place name) = refusal_by rule.Join place
of_lock (lock_error.EndHeld place name) = refusal_by rule.EndHeld place
of_lock (lock_error.Frozen place name) = refusal_by rule.Frozen place
of_lock (lock_error.Held place name) = refusal_by rule.Held place
of_lock lock_error.Memory = source.Memory

-- registers don't suffice for the locals of the graph
abbrev pub IsLocalsRefusal : Graph → SourceError → Type 0
IsLocalsRefusal g (source.Refused x) = (x.rule ≡ rule.Locals) × ((wanted : ℕ) × IsFirstCrowded g x.place wanted)
IsLocalsRefusal g source.Memory = Unit {0}

-- temporaries don't suffice for an expression of the form
abbrev pub IsTemporariesRefusal : Flat → SourceError → Type 0
IsTemporariesRefusal flat (source.Refused x) = (x.rule ≡ rule.Temporaries) × (temporaries_fault flat ≡ Some x.place)
IsTemporariesRefusal flat source.Memory = Unit {0}

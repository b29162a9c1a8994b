-- Flat forms that can be compiled, and the one rule and place by which any other is refused.
use Rattle.std.specs.Prelude.{◌≡◌, ℕ, Some, None}
use Rattle.ido_base.specs.declared.place.Place.{Place}
use Rattle.c_tree.specs.declared.language.Language.{Language}
use Rattle.c_tree.specs.declared.language.Language.TheVariants.{Plain}
use Rattle.c_tree.specs.declared.refusal.SourceError.{SourceError}
use Rattle.c_tree.specs.declared.refusal.SourceError.TheVariants.{Refused, Memory}
use Rattle.c_tree.specs.declared.rule.Rule.{Rule}
use Rattle.c_tree.specs.declared.rule.Rule.TheVariants as rule
use Rattle.c_tree.specs.Flats.{Flat}
use Rattle.c_tree.specs.WellFormed.{ArePlain, IsWellFormed}
use Rattle.lock_discipline.specs.NamedForms.{HasNames}
use Rattle.c_tree.specs.LockDiscipline.{Fault, lock_fault}
use Rattle.c_tree.specs.HoldPrices.{price_fault}
use Rattle.c_tree.specs.Temporaries.{temporaries_fault}
use Rattle.flow_graph.specs.Lowering.{lowered}
use Rattle.flow_graph.specs.Liveness.{HasRoom, IsFirstCrowded}

-- no check of the language refuses it
pub record IsAcceptedForm (l : Language) (flat : Flat) : Type 0 where
  pub formed : IsWellFormed flat
  -- where the language has no arrays of mutexes none is in one
  pub plain : l ≡ Plain → ArePlain flat.mutexes
  -- each thread has few names of locks
  pub named : HasNames flat
  pub disciplined : lock_fault l flat ≡ None
  pub priced : price_fault l flat ≡ None
  pub room : HasRoom (lowered flat)
  pub shallow : temporaries_fault flat ≡ None

-- the form is refused by the rule at the place: the first check that fails says which
pub data IsRefusedForm (l : Language) (flat : Flat) (found : Rule) (place : Place) : Type 0 where
  undisciplined : (x : Fault) → lock_fault l flat ≡ Some x → found ≡ x.rule → place ≡ x.place → IsRefusedForm l flat found place
  crowded : (wanted : ℕ) → lock_fault l flat ≡ None → IsFirstCrowded (lowered flat) place wanted → found ≡ rule.Locals →
      IsRefusedForm l flat found place
  too_deep : lock_fault l flat ≡ None → HasRoom (lowered flat) → temporaries_fault flat ≡ Some place → found ≡ rule.Temporaries →
      IsRefusedForm l flat found place

-- want of memory may come at any time
abbrev pub IsFormRefusal : Language → Flat → SourceError → Type 0
IsFormRefusal l flat (Refused x) = IsRefusedForm l flat x.rule x.place
IsFormRefusal l flat Memory = Unit {0}

-- Which texts are compiled for a log, and the one rule and place by which any other is refused. Each log has its language, in which texts are read, and by
-- whose prices and lock rules they are checked: where threads list the locks that they hold, few may be held, and each costs something at every node.
use Rattle.std.specs.Prelude.{◌≡◌, ℕ, List, Some, None}
use Rattle.log_schemes.specs.declared.log.Log.{Log}
use Rattle.ido_base.specs.declared.place.Place.{Place}
use Rattle.c_tree.specs.declared.rule.Rule.{Rule}
use Rattle.c_tree.specs.declared.rule.Rule.TheVariants as rule
use Rattle.c_tree.specs.AcceptedTexts.{HasNoBack, IsFlattened, IsRanged, IsTyped}
use Rattle.c_tree.specs.Flats.{Flat}
use Rattle.c_tree.specs.HoldPrices.{price_fault}
use Rattle.c_tree.specs.Inlining.{IsFirstBack, flat_form}
use Rattle.c_tree.specs.LockDiscipline.{Fault, lock_fault}
use Rattle.c_tree.specs.NullReferences.{IsFirstOutside}
use Rattle.c_tree.specs.Programs.{Program}
use Rattle.c_tree.specs.Temporaries.{temporaries_fault}
use Rattle.c_tree.specs.TextReadings.{IsRead, IsRefused}
use Rattle.c_tree.specs.Trees.{Item}
use Rattle.c_tree.specs.TypeRules.{IsFirst, type_faults}
use Rattle.flow_graph.specs.Liveness.{HasRoom, IsFirstCrowded}
use Rattle.flow_graph.specs.Lowering.{lowered}
use Rattle.thread_code.specs.Plans.{language_of}

-- the text has this flat form, whose threads don't cost too much
abbrev pub IsFlattenedAs : Log → (text : List ℕ) → Flat → Type 0
IsFlattenedAs log text flat = IsFlattened (language_of log) text flat

module _ (log : Log) (text : List ℕ) where
  -- the text is accepted, and has this flat form
  pub record IsAcceptedAs (flat : Flat) : Type 0 where
    pub form : IsFlattenedAs log text flat
    pub disciplined : lock_fault (language_of log) flat ≡ None
    pub room : HasRoom (lowered flat)
    pub shallow : temporaries_fault flat ≡ None

  -- the text is refused by the rule at the place: the first check that fails says which
  pub data IsRefusedAs (found : Rule) (place : Place) : Type 0 where
    unread : IsRefused (language_of log) text found place → IsRefusedAs found place
    mistyped : (items : List Item) → IsRead (language_of log) text items →
        IsFirst (type_faults (language_of log) items) (record { rule = found; place = place }) → IsRefusedAs found place
    outside : (x : Program) → IsTyped (language_of log) text x → IsFirstOutside x found place → IsRefusedAs found place
    leads_back : (x : Program) → IsRanged (language_of log) text x → IsFirstBack x.functions place → found ≡ rule.Recursion → IsRefusedAs found place
    too_long : (x : Program) → IsRanged (language_of log) text x → HasNoBack x → price_fault (language_of log) (flat_form x) ≡ Some place →
        found ≡ rule.Code → IsRefusedAs found place
    undisciplined : (flat : Flat) (x : Fault) → IsFlattenedAs log text flat → lock_fault (language_of log) flat ≡ Some x → found ≡ x.rule →
        place ≡ x.place → IsRefusedAs found place
    crowded : (flat : Flat) (wanted : ℕ) → IsFlattenedAs log text flat → lock_fault (language_of log) flat ≡ None →
        IsFirstCrowded (lowered flat) place wanted → found ≡ rule.Locals → IsRefusedAs found place
    too_deep : (flat : Flat) → IsFlattenedAs log text flat → lock_fault (language_of log) flat ≡ None → HasRoom (lowered flat) →
        temporaries_fault flat ≡ Some place → found ≡ rule.Temporaries → IsRefusedAs found place

-- A flat form is refused by the first of its checks that fails.
use Rattle.std.proofs.Common.{◌≡◌, refl, sym, subst, IsErrAnd}
use Rattle.std.specs.Prelude.{Result, Ok, Err, None, Some, IfSome, IfErr}
use Rattle.c_tree.specs.Exprs.{lock_ref_of}
use Rattle.c_tree.specs.Flats.{Flat}
use Rattle.c_tree.specs.LockDiscipline.{lock_fault}
use Rattle.c_tree.specs.declared.language.Language.{Language}
use Rattle.c_tree.specs.declared.refusal.SourceError.{SourceError}
use Rattle.c_tree.specs.declared.refusal.SourceError.TheVariants as source
use Rattle.c_tree.specs.declared.rule.Rule.TheVariants as rule
use Rattle.flow_graph.specs.Liveness.{HasRoom, IsFirstCrowded}
use Rattle.flow_graph.specs.Lowering.{lowered}
use Rattle.flow_graph.specs.Nodes.{Graph}
use Rattle.lock_discipline.specs.Faults.{fault_of}
use Rattle.lock_discipline.specs.declared.error.LockError as lock
use Rattle.lock_discipline.specs.declared.error.LockError.TheVariants as lock_error
use Rattle.flat_analysis.specs.CompilableForms.{IsFormRefusal, undisciplined, crowded, too_deep}
use Rattle.flat_analysis.specs.links.Refusing.{IsLocalsRefusal, IsTemporariesRefusal, of_lock}

pub same_error : {X : Type 0} (Holds : SourceError → Type 0) (x : SourceError) (r : Result X SourceError) →
    IsErrAnd r (λ e. e ≡ x) → Holds x → IfErr r Holds
same_error Holds x (Ok y) h is = absurd h
same_error Holds x (Err e) h is = subst Holds (sym h) is

pub by_locks : (l : Language) (flat : Flat) (e : lock.LockError) → IfSome (fault_of e) (λ x. lock_fault l flat ≡ Some x) → IsFormRefusal l flat (of_lock e)
by_locks l flat (lock_error.Unheld place name) h = undisciplined (record { rule = rule.Unheld; place = place; lock = lock_ref_of name }) h refl refl
by_locks l flat (lock_error.Again place name) h = undisciplined (record { rule = rule.Again; place = place; lock = lock_ref_of name }) h refl refl
by_locks l flat (lock_error.NotHeld place name) h = undisciplined (record { rule = rule.NotHeld; place = place; lock = lock_ref_of name }) h refl refl
by_locks l flat (lock_error.Join place name) h = undisciplined (record { rule = rule.Join; place = place; lock = lock_ref_of name }) h refl refl
by_locks l flat (lock_error.EndHeld place name) h = undisciplined (record { rule = rule.EndHeld; place = place; lock = lock_ref_of name }) h refl refl
by_locks l flat (lock_error.Frozen place name) h = undisciplined (record { rule = rule.Frozen; place = place; lock = lock_ref_of name }) h refl refl
by_locks l flat (lock_error.Held place name) h = undisciplined (record { rule = rule.Held; place = place; lock = lock_ref_of name }) h refl refl
by_locks l flat lock_error.Memory h = tt

-- once the locks are checked
module _ (l : Language) (flat : Flat) (locks : lock_fault l flat ≡ None) where
  pub by_locals : (g : Graph) (e : SourceError) → g ≡ lowered flat → IsLocalsRefusal g e → IsFormRefusal l flat e
  by_locals g (source.Refused x) is (found, (wanted, h)) = crowded wanted locks (subst (λ (y : Graph). IsFirstCrowded y x.place wanted) is h) found
  by_locals g source.Memory is h = tt

  pub by_temporaries : (e : SourceError) → HasRoom (lowered flat) → IsTemporariesRefusal flat e → IsFormRefusal l flat e
  by_temporaries (source.Refused x) room (found, h) = too_deep locks room h found
  by_temporaries source.Memory room h = tt

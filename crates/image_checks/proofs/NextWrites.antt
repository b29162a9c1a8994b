-- What is written next where a thread is resumed, by other spellings.
use Rattle.std.proofs.Common.{◌≡◌, ℕ, List, Option, ℤ}
use Rattle.std.specs.Prelude.{IfSome}
use Rattle.ido_base.specs.declared.location.Location.{Location}
use Rattle.c_tree.specs.Exprs.{LockName}
use Rattle.c_tree.specs.Programs.{Variable}
use Rattle.c_tree.specs.References.{variable_refers}
use Rattle.flow_graph.specs.HeldKeys.{names_in}
use Rattle.image_checks.specs.Checks.{IsElementOf, IsReferenceWord}

pub same_address : (pending : Option Location) (vs us : List Variable) (ns ms : List LockName) (ls js : List ℤ) (a b : ℕ) → vs ≡ us → ns ≡ ms → ls ≡ js →
    a ≡ b → IfSome pending (λ (l : Location). IsElementOf vs (names_in vs ns ls) l a) →
    IfSome pending (λ (l : Location). IsElementOf us (names_in us ms js) l b)
same_address pending vs us ns ms ls js a b p q r s h =
    coe 0 1 (i. IfSome pending (λ (l : Location). IsElementOf (p i) (names_in (p i) (q i) (r i)) l (s i))) h

pub same_value : (pending : Option Location) (vs us : List Variable) (a b : ℕ) → vs ≡ us → a ≡ b →
    IfSome pending (λ (l : Location). IsReferenceWord vs (variable_refers vs l.variable) a) →
    IfSome pending (λ (l : Location). IsReferenceWord us (variable_refers us l.variable) b)
same_value pending vs us a b p q h = coe 0 1 (i. IfSome pending (λ (l : Location). IsReferenceWord (p i) (variable_refers (p i) l.variable) (q i))) h

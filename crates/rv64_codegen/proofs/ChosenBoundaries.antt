-- Whether a boundary stands before a node by choice.
use Rattle.std.proofs.Common.{◌≡◌, refl, ℕ, ◌<◌, List, length, ◌∙◌, ap, sym, get_or, Some, Bool, true, false, not}
use Rattle.std.specs.Prelude.{slice_get, IsTrue}
use Rattle.std.proofs.lemmas.Option.{slice_get-get_or}
use Rattle.flow_graph.specs.Nodes.{Action, Eval, Store, Test, Lock, Unlock, End, Node, Graph}
use Rattle.flow_graph.specs.IdempotentCuts.{Boundaries, IsUnlock, unlocks, HasBefore, IsChosen}
use Rattle.flow_graph.specs.Liveness.{NodeAt}
use Rattle.rv64_codegen.specs.links.Threads.{gives}

-- what was read is there
pub read_get : {X : Type 0} (xs : List X) (k : ℕ) (x : X) → k < length xs → x ≡ get_or xs k x → slice_get xs k ≡ Some x
read_get xs k x h e = slice_get-get_or xs k x h ∙ ap (λ z. Some z) (sym e)

module _ (g : Graph) (b : Boundaries) (node : ℕ) where
  giving : (is : Node) → NodeAt g node is → IsUnlock g node → gives is.action ≡ true
  giving is at u = elim u [
    | unlocks x lock next there does ↦
        let same : x ≡ is = (let both : Some x ≡ Some is = sym there ∙ at in cc) in
        ap (λ (z : Node). gives z.action) (sym same) ∙ ap gives does
  ]

  unlocking : (is : Node) (a : Action) → NodeAt g node is → is.action ≡ a → gives a ≡ true → IsUnlock g node
  unlocking is (Eval target value next) at e h = cc
  unlocking is (Store variable kind next) at e h = cc
  unlocking is (Test condition holds fails) at e h = cc
  unlocking is (Lock lock next) at e h = cc
  unlocking is (Unlock lock next) at e h = unlocks is lock next at e
  unlocking is End at e h = cc

  answered : (answer : Bool) → HasBefore b node → (IsUnlock g node → answer ≡ true) → (answer ≡ true → IsUnlock g node) →
      (IsTrue (not answer) → IsChosen g b node) × (IsChosen g b node → IsTrue (not answer))
  answered true stands is back = (λ h. cc, λ c. absurd (c.free (back refl)))
  answered false stands is back = (λ _. record { stands = stands; free = λ u. let z : false ≡ true = is u in cc }, λ c. refl)

  pub chosen_then : (is : Node) (answer : Bool) → HasBefore b node → NodeAt g node is → answer ≡ gives is.action →
      (IsTrue (not answer) → IsChosen g b node) × (IsChosen g b node → IsTrue (not answer))
  chosen_then is answer stands at e =
      answered answer stands (λ u. e ∙ giving is at u) (λ h. unlocking is is.action at refl (sym e ∙ h))

  pub chosen_else : (flag : Bool) → slice_get b.before node ≡ Some flag → flag ≡ false →
      (IsTrue flag → IsChosen g b node) × (IsChosen g b node → IsTrue flag)
  chosen_else flag at none =
      (λ h. absurd (let z : true ≡ false = sym h ∙ none in cc), λ c. let both : Some flag ≡ Some true = sym at ∙ c.stands in let z : flag ≡ true = cc in z)

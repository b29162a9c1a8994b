-- Boundaries wherever they may stand: no path comes to a node that writes.
use Rattle.std.proofs.Common.{◌≡◌, ◌⊎◌, inl, inr, ℕ, zero, suc, ◌||◌, Bool, true, false, List, ◌∷◌, length, Option, Some, None, refl, ap, sym, subst}
use Rattle.std.proofs.Common.{◌∙◌}
use Rattle.std.specs.Prelude.{slice_get, is_some}
use Rattle.std.proofs.lemmas.List.{length-map}
use Rattle.ido_base.specs.declared.location.Location.{Location}
use Rattle.flow_graph.specs.Nodes.{Action, Eval, Store, Test, Lock, Unlock, End, Node, Graph}
use Rattle.flow_graph.specs.Liveness.{NodeAt}
use Rattle.flow_graph.specs.IdempotentCuts.{Boundaries, IsInside, stays, goes_on, IsLock, locks}
use Rattle.flow_graph.specs.IdempotentCuts.{IsUnlock, unlocks, HasBefore, Writes}
use Rattle.region_cutter.specs.links.BoundaryTrials as t
use Rattle.region_cutter.proofs.Lists.{asked, answered}

-- ---- Locks and unlocks

pub locked : (g : Graph) (n : ℕ) (x : Node) (a : Action) → NodeAt g n x → x.action ≡ a → t.locks a ≡ true → IsLock g n
locked g n x (Eval target value next) at is e = absurd (cc)
locked g n x (Store variable kind next) at is e = absurd (cc)
locked g n x (Test condition holds fails) at is e = absurd (cc)
locked g n x (Lock lock next) at is e = locks x lock next at is
locked g n x (Unlock lock next) at is e = absurd (cc)
locked g n x End at is e = absurd (cc)

pub unlocked : (g : Graph) (n : ℕ) (x : Node) (a : Action) → NodeAt g n x → x.action ≡ a → t.unlocks a ≡ true → IsUnlock g n
unlocked g n x (Eval target value next) at is e = absurd (cc)
unlocked g n x (Store variable kind next) at is e = absurd (cc)
unlocked g n x (Test condition holds fails) at is e = absurd (cc)
unlocked g n x (Lock lock next) at is e = absurd (cc)
unlocked g n x (Unlock lock next) at is e = unlocks x lock next at is
unlocked g n x End at is e = absurd (cc)

-- ---- No path comes to a node that has a boundary before it

pub entered : (g : Graph) (b : Boundaries) (path : List ℕ) → IsInside g b path → (j node : ℕ) → slice_get path (suc j) ≡ Some node → ¬ (HasBefore b node)
entered g b path (stays from) j node at has = absurd (cc)
entered g b path (goes_on from to rest edge free inside) zero node at has =
    let same : node ≡ to = cc in
    free (inr (subst (λ (k : ℕ). HasBefore b k) same has))
entered g b path (goes_on from to rest edge free inside) (suc j) node at has = entered g b (to ∷ rest) inside j node at has

-- ---- Where boundaries may stand

or_left : (a b : Bool) → a ≡ true → (a || b) ≡ true
or_left true b e = refl
or_left false b e = absurd (cc)

or_right : (a b : Bool) → b ≡ true → (a || b) ≡ true
or_right true b e = refl
or_right false b e = e

or_either : (a b : Bool) → (a || b) ≡ true → (a ≡ true) ⊎ (b ≡ true)
or_either true b e = inl refl
or_either false b e = inr e

is_there : (o : Option Location) → is_some o ≡ true → (x : Location) × (o ≡ Some x)
is_there None e = absurd (cc)
is_there (Some x) e = (x, refl)

-- where boundaries stand
pub record ArePlaces (g : Graph) (b : Boundaries) : Type 0 where
  pub long : length b.before ≡ length g.nodes
  pub places : (n : ℕ) → HasBefore b n → IsUnlock g n ⊎ Writes g n
  pub stands : (n : ℕ) → IsUnlock g n ⊎ Writes g n → HasBefore b n

pub places_everywhere : (g : Graph) (b : Boundaries) → t.AreEverywhere g b → ArePlaces g b
places_everywhere g b e =
    let stands = λ (n : ℕ) (x : Node) (at : NodeAt g n x) (may : t.may_stand x ≡ true). subst (λ (bs : List Bool). slice_get bs n ≡ Some true)
    (sym e.before) (answered t.may_stand g.nodes n x at may) in
    let before : (n : ℕ) → IsUnlock g n → HasBefore b n = λ n unlock. elim unlock [
      | unlocks x lock next at is ↦ stands n x at (or_left (t.unlocks x.action) (is_some x.writes) (ap t.unlocks is))
    ] in
    record {
      long = ap length e.before ∙ simp length-map;
      places = λ n has.
          let k = asked t.may_stand g.nodes n (subst (λ (bs : List Bool). slice_get bs n ≡ Some true) e.before has) in
          elim (or_either (t.unlocks k.is.action) (is_some k.is.writes) k.yes) [
            | inl unlock ↦ inl (unlocked g n k.is k.is.action k.at refl unlock)
            | inr some ↦ (let w = is_there k.is.writes some in inr (record { is = k.is; at = k.at; written = w.0; writes = w.1 }))
          ];
      stands = λ n either. elim either [
        | inl unlock ↦ before n unlock
        | inr w ↦ stands n w.is w.at (or_right (t.unlocks w.is.action) (is_some w.is.writes) (ap is_some w.writes))
      ];
    }

pub not_unlocked : (g : Graph) (n : ℕ) (x : Node) → NodeAt g n x → t.unlocks x.action ≡ false → ¬ (IsUnlock g n)
not_unlocked g n x at e unlock = elim unlock [
  | unlocks y lock next at' is ↦ (
      let some : Some x ≡ Some y = sym at ∙ at' in
      let same : x ≡ y = cc in
      let yes : t.unlocks x.action ≡ true = ap (λ (z : Node). t.unlocks z.action) same ∙ ap t.unlocks is in
      cc)
]

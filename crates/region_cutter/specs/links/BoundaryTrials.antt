-- Boundaries on their way to those that are left: where they stand first, and what a trial and a pass of trials take away.
use Rattle.std.specs.Prelude.{◌≡◌, ◌<◌, ◌||◌, ℕ, map, sum_by, Bool, true, false, is_some}
use Rattle.flow_graph.specs.Nodes.{Action, Eval, Store, Test, Lock, Unlock, End, Node, Graph}
use Rattle.flow_graph.specs.IdempotentCuts.{Boundaries, AreCuts, HasBefore, IsChosen, IsIdempotent, without, AreAtWrites}

-- ---- Where they stand first

abbrev pub locks : Action → Bool
locks (Eval target value next) = false
locks (Store variable kind next) = false
locks (Test condition holds fails) = false
locks (Lock lock next) = true
locks (Unlock lock next) = false
locks End = false

abbrev pub unlocks : Action → Bool
unlocks (Eval target value next) = false
unlocks (Store variable kind next) = false
unlocks (Test condition holds fails) = false
unlocks (Lock lock next) = false
unlocks (Unlock lock next) = true
unlocks End = false

-- a node that takes a mutex has a boundary after it
abbrev pub takes : Node → Bool
takes x = locks x.action

-- a boundary may stand before the node
abbrev pub may_stand : Node → Bool
may_stand x = unlocks x.action || is_some x.writes

-- a boundary stands wherever one may
pub record AreEverywhere (g : Graph) (b : Boundaries) : Type 0 where
  pub before : b.before ≡ map may_stand g.nodes
  pub after : b.after_lock ≡ map takes g.nodes

-- ---- What is taken away

-- what is kept all along
pub record AreKept (g : Graph) (b : Boundaries) : Type 0 where
  pub cuts : AreCuts g b
  pub places : AreAtWrites g b

-- the boundary before the node was taken away where regions can be run again without it, and else kept
pub record IsTried (g : Graph) (old new : Boundaries) (node : ℕ) (taken : Bool) : Type 0 where
  pub gone : taken ≡ true → new ≡ without old node
  pub idempotent : taken ≡ true → IsIdempotent g new
  pub same : taken ≡ false → new ≡ old
  pub needed : taken ≡ false → ¬ (IsIdempotent g (without old node))

abbrev pub weight : Bool → ℕ
weight true = 1
weight false = 0

-- how many boundaries stand before nodes
abbrev pub standing : Boundaries → ℕ
standing b = sum_by weight b.before

-- a pass over the nodes below this one has taken some away and put none anywhere, or taken none away, and then each of these is needed
pub record IsTrialPass (g : Graph) (old new : Boundaries) (number : ℕ) (taken : Bool) : Type 0 where
  pub kept : AreKept g new
  pub less : (node : ℕ) → HasBefore new node → HasBefore old node
  pub fewer : taken ≡ true → standing new < standing old
  pub same : taken ≡ false → new ≡ old
  pub needed : taken ≡ false → (node : ℕ) → node < number → IsChosen g new node → ¬ (IsIdempotent g (without new node))

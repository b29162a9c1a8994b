-- Searches: which nodes a search has come to, and whether steps lead to an end.
use Rattle.std.specs.Prelude.{◌≡◌, ◌⊎◌, ◌<◌, ◌≤◌, ◌+◌, ◌*◌, ℕ, List, length, Bool, Contains, slice_get, Some, true, count_by, not}

-- steps lead from the node to an end
pub data ReachesEnd (Step : ℕ → ℕ → Type 0) (End : ℕ → Type 0) : (node : ℕ) → Type 0 where
  there : (node : ℕ) → End node → ReachesEnd Step End node
  goes_on : (node to : ℕ) → Step node to → ReachesEnd Step End to → ReachesEnd Step End node

abbrev pub IsSeen : List Bool → (node : ℕ) → Type 0
IsSeen seen node = slice_get seen node ≡ Some true

-- what is left of a search: a node that it hasn't come to counts twice, and one from which it has to go on once
abbrev pub left : List Bool → List ℕ → ℕ
left seen waiting = 2 * count_by not seen + length waiting

-- the search has come to these nodes too, and goes on from those of them that are new
pub record IsSearchStep (to : ℕ → Type 0) (seen : List Bool) (waiting : List ℕ) (seen' : List Bool) (waiting' : List ℕ) : Type 0 where
  pub long : length seen' ≡ length seen
  pub new : (node : ℕ) → Contains waiting' node → Contains waiting node ⊎ ((node < length seen) × to node)
  pub waits : (node : ℕ) → Contains waiting node → Contains waiting' node
  pub kept : (node : ℕ) → IsSeen seen node → IsSeen seen' node
  pub known : (node : ℕ) → IsSeen seen' node → IsSeen seen node ⊎ Contains waiting' node
  pub all : (node : ℕ) → to node → node < length seen → IsSeen seen' node
  pub less : left seen' waiting' ≤ left seen waiting

-- what the search has come to waits, or is no end and was followed
pub record Followed (Step : ℕ → ℕ → Type 0) (End : ℕ → Type 0) (seen : List Bool) (node : ℕ) : Type 0 where
  pub no_end : ¬ (End node)
  pub followed : (to : ℕ) → Step node to → to < length seen → IsSeen seen to

-- a search from the start's nodes for what follows if steps lead from one of them to an end
pub record Searched (Step : ℕ → ℕ → Type 0) (End Start : ℕ → Type 0) (found : Type 0) (seen : List Bool) (waiting : List ℕ) : Type 0 where
  pub led : (node : ℕ) → Contains waiting node → (node < length seen) × (ReachesEnd Step End node → found)
  pub state : (node : ℕ) → IsSeen seen node → Contains waiting node ⊎ Followed Step End seen node
  pub begun : (node : ℕ) → Start node → node < length seen → IsSeen seen node

-- The locals that are known not to be null before each step of a thread, in the order of its text.
use Rattle.std.specs.Prelude.{ℕ, List, [], ◌∷◌, ◌++◌, Bool, true, false}
use Rattle.c_tree.specs.Exprs as e
use Rattle.c_tree.specs.Flats as f
use Rattle.c_tree.specs.NullReferences.{flat_known_in}

-- an assignment of a variable has a second step, the store
abbrev pub assign_knowns : (known : List ℕ) → e.Lvalue → List (List ℕ)
assign_knowns known (e.ToLocal place local kind) = known ∷ []
assign_knowns known (e.ToVariable place variable kind) = known ∷ known ∷ []
assign_knowns known (e.ToElement place variable kind index) = known ∷ known ∷ []

-- of a part before which these are known
abbrev mutual
  pub knowns : (known : List ℕ) → f.Statement → List (List ℕ)
  knowns known (f.Assign place target value) = assign_knowns known target
  knowns known (f.If place arms otherwise) = knowns_in_arms known true arms ++ knowns_in_all known otherwise
  knowns known (f.While place condition body) = known ∷ knowns_in_all known body
  knowns known (f.Do place body condition) = knowns_in_all known body ++ known ∷ []
  knowns known (f.Lock place lock) = known ∷ []
  knowns known (f.Unlock place lock) = known ∷ []

  pub knowns_in_all : (known : List ℕ) → f.Statements → List (List ℕ)
  knowns_in_all known f.no_statement = []
  knowns_in_all known (f.statement_and x rest) = knowns known x ++ knowns_in_all known rest

  -- whether they begin with the first arm of their `if`; the test of an arm is in no block of it
  pub knowns_in_arms : (known : List ℕ) → (first : Bool) → f.Arms → List (List ℕ)
  knowns_in_arms known first f.no_arm = []
  knowns_in_arms known first (f.arm_and condition body rest) =
      known ∷ knowns_in_all (flat_known_in known first condition body) body ++ knowns_in_arms known false rest

-- nothing is known at its end
abbrev pub thread_knowns : f.Thread → List (List ℕ)
thread_knowns t = knowns_in_all [] t.body ++ [] ∷ []

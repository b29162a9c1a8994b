-- Nothing is known not to be null at a thread's first node.
use Rattle.std.proofs.Common.{◌≡◌, refl, ℕ, zero, suc, ◌-◌, List, [], ◌∷◌, ◌++◌, map, sym, ◌∙◌, ap, arith, Bool, true, Some}
use Rattle.std.specs.Prelude.{slice_get, slice_index_or}
use Rattle.std.proofs.lemmas.Bool.{true≢false}
use Rattle.std.proofs.lemmas.Option.{none-some, same_Some}
use Rattle.c_tree.specs.Exprs as e
use Rattle.c_tree.specs.Flats as f
use Rattle.c_tree.specs.NullReferences.{is_among}
use Rattle.c_ranges.specs.KnownAtSteps.{assign_knowns, knowns, knowns_in_all, knowns_in_arms, thread_knowns}
use Rattle.flow_graph.specs.declared.graph.Part.{Part}
use Rattle.flow_graph.specs.Lowering.{lowered}
use Rattle.flow_graph.specs.Actions.{GraphThread, graph_thread_start, graph_start}
use Rattle.region_attempts.specs.KnownReferences.{KnownAreUnnull, known_at}

-- ---- The first of a part's

-- if there is one
abbrev pub IsFirst : (known : List ℕ) → List (List ℕ) → Type 0
IsFirst known [] = Unit {0}
IsFirst known (first ∷ rest) = first ≡ known

first_of : (known : List ℕ) (xs ys : List (List ℕ)) → IsFirst known xs → IsFirst known ys → IsFirst known (xs ++ ys)
first_of known [] ys h k = k
first_of known (x ∷ xs) ys h k = h

assign_first : (known : List ℕ) (target : e.Lvalue) → IsFirst known (assign_knowns known target)
assign_first known (e.ToLocal place local kind) = refl
assign_first known (e.ToVariable place variable kind) = refl
assign_first known (e.ToElement place variable kind index) = refl

pub arms_first : (known : List ℕ) (first : Bool) (arms : f.Arms) → IsFirst known (knowns_in_arms known first arms)
arms_first known first f.no_arm = tt
arms_first known first (f.arm_and condition body rest) = refl

mutual
  first_in : (known : List ℕ) (y : f.Statement) → IsFirst known (knowns known y)
  first_in known (f.Assign place target value) = assign_first known target
  first_in known (f.If place arms otherwise) =
      first_of known (knowns_in_arms known true arms) (knowns_in_all known otherwise) (arms_first known true arms) (first_in_all known otherwise)
  first_in known (f.While place condition body) = refl
  first_in known (f.Do place body condition) = first_of known (knowns_in_all known body) (known ∷ []) (first_in_all known body) refl
  first_in known (f.Lock place lock) = refl
  first_in known (f.Unlock place lock) = refl

  pub first_in_all : (known : List ℕ) (ys : f.Statements) → IsFirst known (knowns_in_all known ys)
  first_in_all known f.no_statement = tt
  first_in_all known (f.statement_and y rest) = first_of known (knowns known y) (knowns_in_all known rest) (first_in known y) (first_in_all known rest)

none_first : (xs : List (List ℕ)) → IsFirst [] xs → slice_index_or xs 0 [] ≡ []
none_first [] h = refl
none_first (x ∷ xs) h = h

-- ---- A thread's start

begun : (ps : List Part) (k : ℕ) (p : Part) (graph_thread : GraphThread) → slice_get ps k ≡ Some p →
    slice_get (map graph_thread_start ps) k ≡ Some graph_thread → graph_thread ≡ graph_thread_start p
begun [] k p graph_thread g h = absurd (none-some p g)
begun (q ∷ ps) zero p graph_thread g h = sym (same_Some (graph_thread_start q) graph_thread h) ∙ ap graph_thread_start (same_Some q p g)
begun (q ∷ ps) (suc k) p graph_thread g h = begun ps k p graph_thread g h

pub none_known : (text : f.Thread) (first node : ℕ) → node ≡ first → known_at text first node ≡ []
none_known text first node is =
    let at_first : node - first ≡ 0 = omega (arith, is) in
    ap (λ (k : ℕ). slice_index_or (thread_knowns text) k []) at_first
    ∙ none_first (thread_knowns text) (first_of [] (knowns_in_all [] text.body) ([] ∷ []) (first_in_all [] text.body) refl)

pub start_known : (x : f.Flat) → KnownAreUnnull x (graph_start (lowered x) x)
start_known x thread text part graph_thread its own there local array refers among =
    let is = begun (lowered x).threads thread part graph_thread own there in
    let none = none_known text part.first graph_thread.at (ap (λ (w : GraphThread). w.at) is) in
    absurd (true≢false (sym among ∙ ap (λ (known : List ℕ). is_among known local) none))

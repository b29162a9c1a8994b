-- What the definitions of nodes' lines compute.
use Rattle.std.specs.Prelude.{◌≡◌, ℕ, [], ◌∷◌, None, true, false, refl, codes}
use Rattle.c_tree.specs.Exprs.{LockName}
use Rattle.std.specs.Fmt.{digits}
use Rattle.ido_ints.specs.declared.kinds.Kind.TheVariants.{Int}
use Rattle.c_tree.specs.Flats.{Thread, no_statement}
use Rattle.flow_graph.specs.IdempotentCuts.{Boundaries}
use Rattle.flow_graph.specs.Nodes.{Action, Store, Lock, Unlock, End, Node, Graph}
use Rattle.region_cutter.specs.declared.straight.Stretch.{Stretch}
use Rattle.ido_cli.specs.Regions.{Straight, least_line, node_line, regions, thread_line}

abbrev node : (place : ℕ) → Action → Node
node place action = record { place = record { 0 = place }; action = action; uses = []; assigns = None; reads = []; writes = None }

abbrev m : LockName
m = record { mutex = 0; key = None }

abbrev graph : Graph
graph = record {
  nodes = node 0 (Lock m 1) ∷ node 3 (Store 0 Int 2) ∷ node 5 (Unlock m 3) ∷ node 7 End ∷ [];
  threads = record { first = 0; end = 4; locals = 0 } ∷ [];
}

abbrev cuts : Boundaries
cuts = record { before = false ∷ true ∷ true ∷ false ∷ []; after_lock = true ∷ false ∷ false ∷ false ∷ [] }

abbrev one : Thread
one = record { name = record { text = codes "t"; place = record { 0 = 0 } }; locals = []; refers = []; body = no_statement; closing = record { 0 = 7 } }

-- no stretch is told
abbrev none : Straight
none = record { stretches = []; held = [] }

-- the boundary before an unlock isn't marked
lines_of_nodes : regions (codes "lo\nx;u;}") graph cuts none (one ∷ []) ≡ codes "thread t\n0 lock 1:1\n1 store 2:1 cut\n2 unlock 2:3\n3 end 2:5\n"
unfolding regions node_line thread_line digits
lines_of_nodes = refl

-- ---- Straight code

abbrev longer : Graph
longer = record {
  nodes = node 0 (Lock m 1) ∷ node 3 (Store 0 Int 2) ∷ node 5 (Store 0 Int 3) ∷ node 7 (Unlock m 4) ∷ node 9 End ∷ [];
  threads = record { first = 0; end = 5; locals = 0 } ∷ [];
}

abbrev more_cuts : Boundaries
more_cuts = record {
  before = false ∷ true ∷ true ∷ true ∷ false ∷ [];
  after_lock = true ∷ false ∷ false ∷ false ∷ false ∷ [];
}

abbrev stretch : (first past : ℕ) → Stretch
stretch first past = record { first = first; past = past }

-- the mutex is held before the stores and the unlock
abbrev two : Straight
two = record {
  stretches = stretch 1 3 ∷ stretch 4 5 ∷ [];
  held = ((false ∷ []) ∷ (true ∷ []) ∷ (true ∷ []) ∷ (true ∷ []) ∷ (false ∷ []) ∷ []) ∷ [];
}

-- a boundary before the first node isn't counted, nor one past the last; and no stretch is told where no mutex is held
lines_of_stretches : regions (codes "lo;x;x;u;}") longer more_cuts two (one ∷ [])
    ≡ codes "thread t\n0 lock 1:1\n1 store 1:4 cut\n2 store 1:6 cut\n3 unlock 1:8\n4 end 1:10\nleast 1 3 1\n"
unfolding regions node_line thread_line least_line digits
lines_of_stretches = refl

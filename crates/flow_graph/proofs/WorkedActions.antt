-- Worked rows: steps of threads through a graph.
use Rattle.std.proofs.Common.{◌≡◌, ℕ, [], ◌∷◌, Some, None, true, false, refl, List, map}
use Rattle.std.specs.Prelude.{pos, codes}
use Rattle.ido_base.specs.declared.place.Place.{Place}
use Rattle.ido_ints.specs.declared.kinds.Kind.TheVariants as kind
use Rattle.ido_ints.specs.declared.operators.Binary.TheVariants as b
use Rattle.ido_ints.specs.TypedNumbers.{typed}
use Rattle.ido_ints.specs.Reduction.{residue, from_least_on}
use Rattle.c_tree.specs.Exprs as e
use Rattle.c_tree.specs.Programs.{By}
use Rattle.c_tree.specs.Flats as f
use Rattle.flow_graph.specs.Nodes.{Eval, Store, Test, Lock, Unlock}
use Rattle.flow_graph.specs.Lowering.{lowered, lock_node}
use Rattle.flow_graph.specs.Actions.{Sets, Owes, Goes, Takes, Gives, Seen, effect_of, FlowState}
use Rattle.flow_graph.specs.Actions.{graph_start, graph_step, graph_after, graph_runs, graph_ended, seen_by}
use Rattle.flow_graph.specs.Paths.{Visit, element, reads_of, write_of, solo_path}

abbrev at : ℕ → Place
at place = record { 0 = place }

abbrev placed : e.Expr → e.Placed
placed x = record { place = at 0; expr = x }

abbrev int : ℕ → e.Expr
int n = e.Constant (typed kind.Int (pos n))

-- ---- Effects

-- two locals, no store pending, and one variable of two elements
abbrev seen : Seen
seen = record { locals = pos 3 ∷ pos 0 ∷ []; pending = None; variables = (pos 7 ∷ pos 8 ∷ []) ∷ [] }

-- what is kept in a local is converted to its kind
sets : effect_of (Eval (e.ToLocal (at 0) 1 kind.UnsignedInt) (placed (e.Binary b.Sub (e.Local 1 kind.Int) (int 1))) 5) seen ≡ Some (Sets 1 (pos 4294967295) 5)
unfolding residue from_least_on
sets = refl

-- the index is evaluated with the value
owes : effect_of (Eval (e.ToElement (at 0) 0 kind.Int (placed (int 1))) (placed (e.Local 0 kind.Int)) 6) seen ≡
    Some (Owes (record { variable = 0; element = 1; number = pos 3 }) 6)
unfolding residue from_least_on
owes = refl

-- no store is pending
no_store : effect_of (Store 0 kind.Int 7) seen ≡ None
no_store = refl

fails : effect_of (Test (placed (e.Local 1 kind.Int)) 8 9) seen ≡ Some (Goes 9)
fails = refl

-- the lock of a name is that of its mutex and of its key's number, over the locals alone
abbrev named : e.LockName
named = record { mutex = 4; key = Some (placed (e.Local 0 kind.Int)) }

takes : effect_of (Lock named 8) seen ≡ Some (Takes 7 8)
takes = refl

gives : effect_of (Unlock named 8) seen ≡ Some (Gives 7 8)
gives = refl

-- without key it is the mutex
takes_plain : effect_of (Lock (record { mutex = 4; key = None }) 8) seen ≡ Some (Takes 4 8)
takes_plain = refl

-- its node reads the locals of the key
reads_key : (lock_node (at 0) (Lock named 8) named).uses ≡ 0 ∷ []
reads_key = refl

-- ---- A run

-- `mutex m; persistent(m) long x = 5; thread t { lock(m); x = 6; unlock(m); }`
abbrev section : f.Flat
section = record {
  mutexes = record { name = record { text = codes "m"; place = at 6 }; length = None } ∷ [];
  variables = record {
    name = record { text = codes "x"; place = at 28 };
    guard = By 0;
    kind = kind.Long;
    refers = None;
    length = None;
    initial = pos 5 ∷ [];
  } ∷ [];
  threads = record {
    name = record { text = codes "t"; place = at 42 };
    locals = [];
    refers = [];
    body = f.statement_and (f.Lock (at 46) (record { mutex = 0; key = None }))
        (f.statement_and (f.Assign (at 55) (e.ToVariable (at 55) 0 kind.Long) (placed (e.Converted kind.Long (int 6))))
        (f.statement_and (f.Unlock (at 66) (record { mutex = 0; key = None })) f.no_statement));
    closing = at 77;
  } ∷ [];
}

abbrev start : FlowState
start = graph_start (lowered section) section

-- the value is evaluated by the second step and stored by the third
evaluated : graph_after (lowered section) start (0 ∷ 0 ∷ []) ≡ record {
  variables = (pos 5 ∷ []) ∷ [];
  holders = Some 0 ∷ [];
  graph_threads = record { at = 2; locals = []; pending = Some (record { variable = 0; element = 0; number = pos 6 }); ended = false } ∷ [];
}
unfolding lowered graph_step residue from_least_on
evaluated = refl

whole : graph_after (lowered section) start (0 ∷ 0 ∷ 0 ∷ 0 ∷ 0 ∷ []) ≡ record {
  variables = (pos 6 ∷ []) ∷ [];
  holders = None ∷ [];
  graph_threads = record { at = 4; locals = []; pending = None; ended = true } ∷ [];
}
unfolding lowered graph_step residue from_least_on
whole = refl

-- five steps, and no sixth
runs : graph_runs (lowered section) start (0 ∷ 0 ∷ 0 ∷ 0 ∷ 0 ∷ []) ≡ true
unfolding lowered graph_step residue from_least_on
runs = refl

no_sixth : graph_runs (lowered section) start (0 ∷ 0 ∷ 0 ∷ 0 ∷ 0 ∷ 0 ∷ []) ≡ false
unfolding lowered graph_step residue from_least_on
no_sixth = refl

one_section : graph_ended (lowered section) start (0 ∷ 0 ∷ 0 ∷ 0 ∷ 0 ∷ []) 0 ≡ 1
unfolding lowered graph_step residue from_least_on
one_section = refl

-- ---- The thread's own path

abbrev path : List Visit
path = solo_path (lowered section) start 0 9

-- five nodes, and no more
path_nodes : map (λ (v : Visit). v.graph_thread.at) path ≡ 0 ∷ 1 ∷ 2 ∷ 3 ∷ 4 ∷ []
unfolding lowered graph_step residue from_least_on
path_nodes = refl

-- the third writes the element
written : map (λ (v : Visit). write_of (Store 0 kind.Long 3) (seen_by v.before v.graph_thread)) path ≡ None ∷ None ∷ Some (element 0 0) ∷ None ∷ None ∷ []
unfolding lowered graph_step residue from_least_on
written = refl

-- both parts of a choice are read
read : reads_of (Test (placed (e.Conditional kind.Int (e.Variable (at 0) 0 kind.Int) (e.Element (at 0) 1 kind.Int (at 0) (int 3)) (e.Variable
    (at 0) 2 kind.Int))) 0 0) seen ≡
    element 0 0 ∷ element 1 3 ∷ element 2 0 ∷ []
read = refl

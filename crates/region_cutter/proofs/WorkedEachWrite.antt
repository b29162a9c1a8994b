-- Worked rows: before which nodes a boundary stands where a section logs each of its writes by itself.
use Rattle.std.proofs.Common.{◌≡◌, ℕ, zero, suc, true, false, List, [], ◌∷◌, Some, None, refl, ap, ◌∙◌}
use Rattle.std.specs.Prelude.{slice_get, pos}
use Rattle.ido_base.specs.declared.place.Place.{Place}
use Rattle.ido_ints.specs.declared.kinds.Kind.TheVariants as kind
use Rattle.ido_ints.specs.TypedNumbers.{typed}
use Rattle.c_tree.specs.Exprs as e
use Rattle.c_tree.specs.LockNames.{Held}
use Rattle.flow_graph.specs.declared.graph.Part.{Part}
use Rattle.flow_graph.specs.Nodes.{Node, Graph, Lock, Unlock, End}
use Rattle.flow_graph.specs.Lowering.{Table, eval_node, lock_node, plain_node, scalar, store_node}
use Rattle.flow_graph.specs.IdempotentCuts.{unlocks}
use Rattle.region_cutter.specs.EachWrite.{NeedsBoundary, gives, writes, assigns}
use Rattle.region_cutter.proofs.Edges.{same_node}
use Rattle.region_cutter.proofs.EachWrite.{assigned}

abbrev here : Place
here = record { 0 = 0 }

abbrev mutex : e.LockName
mutex = record { mutex = 0; key = None }

abbrev one : e.Placed
one = record { place = here; expr = e.Constant (typed kind.Int (pos 1)) }

abbrev no_table : Table
no_table = record { variables = []; names = [] }

-- a local takes 1
abbrev sets_local : (next : ℕ) → Node
sets_local next = eval_node no_table here (e.ToLocal here 0 kind.Int) one next

-- lock; a local, a value to be stored, its store; unlock; the local; the end
abbrev section : Graph
section = record {
  nodes = lock_node here (Lock mutex 1) mutex ∷ sets_local 2 ∷ eval_node no_table here (e.ToVariable here 0 kind.Int) one 3 ∷
      store_node here 0 kind.Int (scalar 0) 4 ∷ lock_node here (Unlock mutex 5) mutex ∷ sets_local 6 ∷ plain_node here End ∷ [];
  threads = record { first = 0; end = 7; locals = 1 } ∷ [];
}

abbrev free : Held
free = false ∷ []

abbrev held : Held
held = true ∷ []

abbrev sets : List (List Held)
sets = (free ∷ held ∷ held ∷ held ∷ held ∷ free ∷ free ∷ []) ∷ []

-- before the local in the section one stands
local_in_section : NeedsBoundary section sets 1
local_in_section = assigns (record {
  is = sets_local 2;
  at = refl;
  place = here;
  local = 0;
  kind = kind.Int;
  value = one;
  next = 2;
  assigns = refl;
  before = record {
    thread = 0;
    step = 1;
    held = held;
    at = record { part = record { first = 0; end = 7; locals = 1 }; own = refl; is = refl; sets = _; row = refl; before = refl };
  };
  locked = λ none. cc;
})

-- before the store and the unlock, too
store_in_section : NeedsBoundary section sets 3
store_in_section = writes (record { is = _; at = refl; written = scalar 0; writes = refl })

end_of_section : NeedsBoundary section sets 4
end_of_section = gives (unlocks _ mutex 5 refl refl)

only_thread : (k : ℕ) (p : Part) → slice_get section.threads k ≡ Some p → k ≡ 0
only_thread zero p own = refl
only_thread (suc k) p own = absurd (cc)

-- none stands before the evaluation of what is stored
none_at_value : ¬ (NeedsBoundary section sets 2)
none_at_value (gives (unlocks x name next at is)) =
    let act = ap (λ (y : Node). y.action) (same_node section 2 _ x refl at) ∙ is in cc
none_at_value (writes w) = let none = ap (λ (y : Node). y.writes) (same_node section 2 _ w.is refl w.at) ∙ w.writes in cc
none_at_value (assigns a) =
    (let other = (assigned section sets 0 2 _ _ refl refl (record { assigns = a; own = only_thread a.before.thread a.before.at.part a.before.at.own })).0 in cc)

-- nor before a local that is assigned outside sections
none_past_section : ¬ (NeedsBoundary section sets 5)
none_past_section (gives (unlocks x name next at is)) =
    let act = ap (λ (y : Node). y.action) (same_node section 5 _ x refl at) ∙ is in cc
none_past_section (writes w) = let none = ap (λ (y : Node). y.writes) (same_node section 5 _ w.is refl w.at) ∙ w.writes in cc
none_past_section (assigns a) =
    (assigned section sets 0 5 _ _ refl refl (record { assigns = a; own = only_thread a.before.thread a.before.at.part a.before.at.own })).1 refl

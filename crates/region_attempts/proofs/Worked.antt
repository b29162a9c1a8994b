-- Worked rows: `mutex m; persistent(m) int x; thread t { lock(m); x = x + 1; unlock(m); }`, whose region after the lock ends before the store.
use Rattle.std.proofs.Common.{◌≡◌, refl, ℕ, List, [], ◌∷◌, sym, ◌∙◌, subst, arith, Some, None, true, false}
use Rattle.std.specs.Prelude.{pos, codes}
use Rattle.ido_base.specs.declared.place.Place.{Place}
use Rattle.ido_ints.specs.declared.kinds.Kind.TheVariants as kind
use Rattle.ido_ints.specs.declared.operators.Binary.TheVariants as binary
use Rattle.ido_ints.specs.TypedNumbers.{typed}
use Rattle.ido_ints.specs.Reduction.{residue, from_least_on}
use Rattle.c_tree.specs.Exprs as e
use Rattle.c_tree.specs.Programs.{By}
use Rattle.c_tree.specs.Flats as f
use Rattle.c_tree.specs.Source.{start, after_from}
use Rattle.flow_graph.specs.Lowering.{lowered}
use Rattle.flow_graph.specs.Actions.{FlowState, graph_start, graph_step, graph_after}
use Rattle.flow_graph.specs.IdempotentCuts.{Boundaries, locks, unlocks, past_lock}
use Rattle.flow_graph.specs.Paths.{element}
use Rattle.recovery_semantics.specs.ElementHistories.{memory_of}
use Rattle.recovery_semantics.specs.Configs.{Config}
use Rattle.region_attempts.specs.GraphStates.{node_of, node_after}
use Rattle.region_attempts.specs.AttemptsInRegion.{Resumes, begins, past_unlock, StaysInside, HasCome}
use Rattle.region_attempts.specs.Laws.{ReadsHere, ReadAfter}

abbrev at : ℕ → Place
at place = record { 0 = place }

abbrev sum : e.Placed
sum = record { place = at 55; expr = e.Binary binary.Add (e.Variable (at 55) 0 kind.Int) (e.Constant (typed kind.Int (pos 1))) }

abbrev x : f.Flat
x = record {
  mutexes = record { name = record { text = codes "m"; place = at 6 }; length = None } ∷ [];
  variables = record {
    name = record { text = codes "x"; place = at 26 };
    guard = By 0;
    kind = kind.Int;
    refers = None;
    length = None;
    initial = pos 0 ∷ [];
  } ∷ [];
  threads = record {
    name = record { text = codes "t"; place = at 36 };
    locals = [];
    refers = [];
    body = f.statement_and (f.Lock (at 40) (record { mutex = 0; key = None })) (f.statement_and (f.Assign (at 51) (e.ToVariable (at 51) 0 kind.Int) sum)
        (f.statement_and (f.Unlock (at 62) (record { mutex = 0; key = None })) f.no_statement));
    closing = at 73;
  } ∷ [];
}

-- after the lock 0, before the store 2 and before the unlock 3
abbrev b : Boundaries
b = record {
  before = false ∷ false ∷ true ∷ true ∷ false ∷ [];
  after_lock = true ∷ false ∷ false ∷ false ∷ false ∷ [];
}

-- the lock is kept, and the thread has tried so many steps
abbrev tried : (pending : List ℕ) → (done longest : ℕ) → Config
tried pending done longest = record {
  kept = after_from (start x) (0 ∷ []);
  uncommitted = pending;
  memory = memory_of (start x);
  attempts = record { done = done; longest = longest } ∷ [];
}

abbrev kept : FlowState
kept = graph_after (lowered x) (graph_start (lowered x) x) (0 ∷ [])

-- ---- Where it stands

evaluates_next : node_of kept 0 ≡ Some 1
unfolding lowered graph_step
evaluates_next = refl

stores_next : node_after x kept 0 1 ≡ Some 2
unfolding lowered graph_step residue from_least_on
stores_next = refl

unlocks_next : node_after x kept 0 2 ≡ Some 3
unfolding lowered graph_step residue from_least_on
unlocks_next = refl

-- a region begins after the lock
resumes : Resumes (lowered x) b 1
unfolding lowered
resumes = begins (past_lock 0 (record { locks = locks _ _ 1 refl refl; stands = refl }) (record { is = _; at = refl; goes = (0, omega arith, refl) }))

-- after the unlock the thread can be resumed
resumes_again : Resumes (lowered x) b 4
unfolding lowered
resumes_again = past_unlock 3 (unlocks _ _ 4 refl refl) (record { is = _; at = refl; goes = (0, omega arith, refl) })

-- ---- What it reads

reads_here : ReadsHere x kept (tried [] 0 0) 0 (element 0 0)
unfolding lowered graph_step
reads_here = record { going = refl; graph_thread = _; found = refl; node = _; at = refl; reads = (0, omega arith, refl) }

-- the element is read by the step that is made
read_after : ReadAfter x kept (tried (0 ∷ []) 1 1) 0 0 (element 0 0)
unfolding lowered graph_step
read_after = record {
  going = refl;
  within = omega arith;
  read = record { graph_thread = _; found = refl; node = _; at = refl; reads = (0, omega arith, refl) };
}

-- ---- How far an attempt goes

-- after the evaluation it has come to the boundary before the store
has_come : HasCome x b kept (tried (0 ∷ []) 1 1) 0
unfolding lowered graph_step residue from_least_on
has_come = record { node = 2; steps = omega arith; at = refl; stands = refl }

stays_inside : StaysInside x b kept (tried (0 ∷ []) 1 1) 0
stays_inside = record {
  resumes = λ mutex node held there. from_there node (sym there ∙ evaluates_next);
  inside = λ steps node low below there before. absurd (omega (arith, low, below));
}
  where
    same_number : (node : ℕ) → Some 1 ≡ Some node → 1 ≡ node
    same_number node h = cc

    from_there : (node : ℕ) → Some node ≡ Some 1 → Resumes (lowered x) b node
    from_there node h = subst (λ (n : ℕ). Resumes (lowered x) b n) (same_number node (sym h)) resumes

-- no attempt that stays inside goes on to store
not_over : (pending : List ℕ) (done : ℕ) → StaysInside x b kept (tried pending done 2) 0 → ⊥
not_over pending done stays = stays.inside 1 2 (omega arith) (omega arith) stores_next refl

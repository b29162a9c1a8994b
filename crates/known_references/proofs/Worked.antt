-- Worked rows: in `if (p != null) { *p = 0; }`, the first statement of a thread with one reference, `p` is known at the assignment, and not at the test.
use Rattle.std.proofs.Common.{◌≡◌, refl, sym, ℕ, [], ◌∷◌, Some, None, false}
use Rattle.std.specs.Prelude.{codes, pos}
use Rattle.std.proofs.lemmas.Bool.{true≢false}
use Rattle.ido_base.specs.declared.place.Place.{Place}
use Rattle.ido_ints.specs.declared.kinds.Kind.TheVariants as kind
use Rattle.ido_ints.specs.declared.operators.Binary.TheVariants.{NotEqual}
use Rattle.ido_ints.specs.TypedNumbers.{typed}
use Rattle.c_tree.specs.Exprs as e
use Rattle.c_tree.specs.Flats as f
use Rattle.flow_graph.specs.Lowering.{lowered}
use Rattle.flow_graph.specs.Actions.{GraphThread, FlowState}
use Rattle.region_attempts.specs.KnownReferences.{AreUnnull, KnownAreUnnull, known_at}

abbrev at : ℕ → Place
at place = record { 0 = place }

abbrev clear : f.Statement
clear =
    f.Assign (at 2) (e.ToElement (at 2) 0 kind.Long (record { place = at 2; expr = e.Referent (at 2) 3 0 }))
    (record { place = at 3; expr = e.Constant (typed kind.Long (pos 0)) })

abbrev says_so : e.Placed
says_so = record { place = at 1; expr = e.Binary NotEqual (e.Local 0 kind.UnsignedLong) (e.Constant (typed kind.UnsignedLong (pos 0))) }

abbrev text : f.Thread
text = record {
  name = record { text = codes "t"; place = at 0 };
  locals = kind.UnsignedLong ∷ [];
  refers = Some 0 ∷ [];
  body = f.statement_and (f.If (at 1) (f.arm_and says_so (f.statement_and clear f.no_statement) f.no_arm) f.no_statement) f.no_statement;
  closing = at 4;
}

-- the thread's first node has the number 5
known_in_block : known_at text 5 6 ≡ 0 ∷ []
known_in_block = refl

none_at_test : known_at text 5 5 ≡ []
none_at_test = refl

none_at_end : known_at text 5 8 ≡ []
none_at_end = refl

null_inside : ¬ (AreUnnull text.refers (known_at text 5 6) (pos 0 ∷ []))
null_inside h = h 0 0 refl refl refl

null_at_test : AreUnnull text.refers (known_at text 5 5) (pos 0 ∷ [])
null_at_test local array refers among = absurd (true≢false (sym among))

-- ---- A state

abbrev x : f.Flat
x = record { mutexes = []; variables = []; threads = text ∷ [] }

-- at that node, with null
abbrev thread_at : (node : ℕ) → GraphThread
thread_at node = record { at = node; locals = pos 0 ∷ []; pending = None; ended = false }

abbrev standing : (node : ℕ) → FlowState
standing node = record { variables = []; holders = []; graph_threads = thread_at node ∷ [] }

null_in_block : ¬ (KnownAreUnnull x (standing 1))
unfolding lowered
null_in_block h = h 0 text (record { first = 0; end = 4; locals = 1 }) (thread_at 1) refl refl refl 0 0 refl refl refl

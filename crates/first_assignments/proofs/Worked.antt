-- A worked row: a form whose thread reads a local before it assigns it is that of no text.
use Rattle.std.proofs.Common.{refl, ℕ, List, [], ◌∷◌, None, arith}
use Rattle.std.specs.Prelude.{codes}
use Rattle.ido_base.specs.declared.place.Place.{Place}
use Rattle.ido_ints.specs.declared.kinds.Kind.TheVariants.{Int}
use Rattle.c_tree.specs.declared.language.Language.{Language}
use Rattle.c_tree.specs.AcceptedTexts.{IsFlattened}
use Rattle.c_tree.specs.Exprs as e
use Rattle.c_tree.specs.Flats as f
use Rattle.flow_graph.specs.Liveness.{IsLive, is_read}
use Rattle.flow_graph.specs.Lowering.{lowered}
use Rattle.first_assignments.specs.FirstAssignments.{FlattenedAssignFirst}

abbrev at : ℕ → Place
at place = record { 0 = place }

-- `thread t { a = a; }`, of a local
abbrev reading : f.Flat
reading = record {
  mutexes = [];
  variables = [];
  threads = record {
    name = record { text = codes "t"; place = at 7 };
    locals = Int ∷ [];
    refers = None ∷ [];
    body = f.statement_and (f.Assign (at 11) (e.ToLocal (at 11) 0 Int) (record { place = at 15; expr = e.Local 0 Int })) f.no_statement;
    closing = at 18;
  } ∷ [];
}

live_first : IsLive (lowered reading) 0 0
unfolding lowered
live_first = is_read _ refl (0, omega arith, refl)

of_no_text : FlattenedAssignFirst → (l : Language) (text : List ℕ) → IsFlattened l text reading → ⊥
unfolding lowered
of_no_text law l text h = law l text reading h 0 _ refl 0 live_first

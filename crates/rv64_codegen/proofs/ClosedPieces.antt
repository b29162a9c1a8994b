-- The parts of a node's piece are closed, so the piece is.
use Rattle.std.proofs.Common.{inl, inr, ◌≡◌, ℕ, suc, ◌+◌, ◌<◌, List, [], ◌∷◌, ◌++◌, length, refl, sym, subst, Some}
use Rattle.std.specs.Prelude.{slice_get}
use Rattle.std.proofs.lemmas.Bool.{cases_eq}
use Rattle.std.proofs.lemmas.Option.{slice_get_within}
use Rattle.c_tree.specs.Exprs as e
use Rattle.rv64_isa.specs.declared.object.CodeItem.{CodeItem}
use Rattle.flow_graph.specs.Nodes.{Action, Eval, Store, Test, Lock, Unlock, End, Node}
use Rattle.flow_graph.specs.Liveness.{NodeAt}
use Rattle.node_code.specs.Pieces.{IsClosed}
use Rattle.node_code.specs.JoinedPieces.{AreClosed}
use Rattle.node_code.proofs.Public.{pieces_close}
use Rattle.thread_code.specs.Plans.{Plan, Thread}
use Rattle.rv64_codegen.specs.ThreadPieces.{Choices, GoesTo, IsChoosing, turned, straight, IsDoing, IsNodePiece, ArePieces}
use Rattle.rv64_codegen.proofs.PieceParts.{guarded_closed, does_closed}

closed_as : (piece : List CodeItem) → piece ≡ [] → IsClosed piece
closed_as piece none = subst (λ (xs : List CodeItem). IsClosed xs) (sym none) (record { waits = refl; labels = λ label. refl })

module _ (p : Plan) (t : Thread) (c : Choices) where
  goes_closed : (node next : ℕ) (piece : List CodeItem) → GoesTo p t c node next piece → IsClosed piece
  goes_closed node next piece g = elim (cases_eq next (node + 1)) [
    | inl follows ↦ closed_as piece (g.follows follows)
    | inr jumps ↦ (g.jumps jumps).closed
  ]

  choosing_closed : (node : ℕ) (condition : e.Placed) (holds fails : ℕ) (does goes : List CodeItem) → IsChoosing p t c node condition holds fails does goes →
      IsClosed goes
  choosing_closed node condition holds fails does goes (turned follows test none) = closed_as goes none
  choosing_closed node condition holds fails does goes (straight test goes_on) = goes_closed node fails goes goes_on

  last_closed : (node : ℕ) (action : Action) (does goes : List CodeItem) → IsDoing p t c node action does goes → IsClosed goes
  last_closed node (Eval target value next) does goes d = goes_closed node next goes d.1
  last_closed node (Store variable kind next) does goes d = goes_closed node next goes d.1
  last_closed node (Test condition holds fails) does goes d = choosing_closed node condition holds fails does goes d
  last_closed node (Lock lock next) does goes d = goes_closed node next goes d.1
  last_closed node (Unlock lock next) does goes d = goes_closed node next goes d.1
  last_closed node End does goes d = closed_as goes d.1

  piece_closed : (node : ℕ) (is : Node) (piece : List CodeItem) → NodeAt p.graph node is → IsNodePiece p t c node is piece → IsClosed piece
  piece_closed node is piece found x =
      subst (λ (xs : List CodeItem). IsClosed xs) (sym x.split)
      (pieces_close x.before (x.does ++ x.goes) (guarded_closed p t c node is x.before found x.guarded)
      (pieces_close x.does x.goes (does_closed p t c node is.action x.does x.goes x.doing) (last_closed node is.action x.does x.goes x.doing)))

-- pieces that are closed one by one
all_closed : (pieces : List (List CodeItem)) → ((i : ℕ) (piece : List CodeItem) → slice_get pieces i ≡ Some piece → IsClosed piece) → AreClosed pieces
all_closed [] h = tt
all_closed (piece ∷ pieces) h = (h 0 piece refl, all_closed pieces (λ i other there. h (suc i) other there))

-- the pieces of a thread whose nodes are in the graph are closed
pub thread_closed : (p : Plan) (t : Thread) (c : Choices) (pieces : List (List CodeItem)) → ArePieces p t c pieces →
    ((i : ℕ) → i < length pieces → (is : Node) × NodeAt p.graph (t.part.first + i) is) → AreClosed pieces
thread_closed p t c pieces are nodes =
    all_closed pieces (λ i piece there.
    let node = nodes i (slice_get_within pieces i piece there) in
    piece_closed p t c (t.part.first + i) node.0 piece node.1 (are.each i piece node.0 there node.1))

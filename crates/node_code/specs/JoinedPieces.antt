-- Pieces one after another, each after its label: the code of a thread.
use Rattle.std.specs.Prelude.{◌≡◌, ℕ, ◌+◌, ◌*◌, ◌<◌, List, [], ◌∷◌, ◌++◌, length, slice_get, Some}
use Rattle.std.specs.List.{concat}
use Rattle.rv64_isa.specs.declared.object.CodeItem.{CodeItem}
use Rattle.rv64_isa.specs.declared.object.CodeItem.TheVariants.{Here}
use Rattle.node_code.specs.Sites.{Linking, Site, begin_of, end_of, label_of}
use Rattle.node_code.specs.Pieces.{IsClosed, marks_in, resumes_in}

-- the pieces, labelled by their numbers
abbrev pub joined : (first : ℕ) → List (List CodeItem) → List CodeItem
joined first [] = []
joined first (piece ∷ pieces) = (Here (record { 0 = first }) ∷ piece) ++ joined (first + 1) pieces

-- addresses of the pieces, and of the end; their marks, and where they may be resumed
pub record Places : Type 0 where
  pub entry : ℕ → ℕ
  pub marks : List (List ℕ)
  pub resumes : List (List ℕ)

-- a piece of a thread's code, where it stands: it ends where the next one begins, and labels lead to where the pieces begin
pub record IsPieceAt (pieces : List (List CodeItem)) (n : Linking (joined 0 pieces)) (p : Places) (i : ℕ) (piece : List CodeItem) : Type 0 where
  pub site : Site piece
  pub program : site.linking.program ≡ n.program
  pub environment : site.linking.environment ≡ n.environment
  pub begin : begin_of piece site ≡ p.entry i
  pub end : end_of piece site ≡ p.entry (i + 1)
  pub labels : (j : ℕ) → j < length pieces → label_of piece site j ≡ p.entry j
  pub marks : slice_get p.marks i ≡ Some (marks_in piece site)
  pub resumes : slice_get p.resumes i ≡ Some (resumes_in piece site)

pub record AreJoined (pieces : List (List CodeItem)) (n : Linking (joined 0 pieces)) : Type 0 where
  pub places : Places
  pub begins : places.entry 0 ≡ n.program.start
  pub ends : places.entry (length pieces) ≡ n.program.start + 4 * length n.program.code
  pub at : (i : ℕ) (piece : List CodeItem) → slice_get pieces i ≡ Some piece → IsPieceAt pieces n places i piece
  pub nodes : n.program.nodes ≡ concat places.marks
  pub resumed : n.program.resumes ≡ concat places.resumes
  pub marks_count : length places.marks ≡ length pieces
  pub resumes_count : length places.resumes ≡ length pieces

abbrev pub AreClosed : List (List CodeItem) → Type 0
AreClosed [] = Unit {0}
AreClosed (piece ∷ pieces) = IsClosed piece × AreClosed pieces

-- ---- Law

-- pieces that are closed stand one after another wherever they are linked
abbrev pub PiecesStand : Type 0
PiecesStand = (pieces : List (List CodeItem)) → AreClosed pieces → (n : Linking (joined 0 pieces)) → AreJoined pieces n

-- ---- A piece of two

-- where a piece of two stands, both do, the second after the first
pub record Halves (a b : List CodeItem) (at : Site (a ++ b)) : Type 0 where
  pub left : Site a
  pub right : Site b
  pub left_program : left.linking.program ≡ at.linking.program
  pub right_program : right.linking.program ≡ at.linking.program
  pub left_environment : left.linking.environment ≡ at.linking.environment
  pub right_environment : right.linking.environment ≡ at.linking.environment
  pub begin : begin_of a left ≡ begin_of (a ++ b) at
  pub between : end_of a left ≡ begin_of b right
  pub end : end_of b right ≡ end_of (a ++ b) at
  pub left_labels : (label : ℕ) → label_of a left label ≡ label_of (a ++ b) at label
  pub right_labels : (label : ℕ) → label_of b right label ≡ label_of (a ++ b) at label
  pub marks : marks_in (a ++ b) at ≡ marks_in a left ++ marks_in b right
  pub resumes : resumes_in (a ++ b) at ≡ resumes_in a left ++ resumes_in b right

-- two pieces that are closed are a piece that is
abbrev pub PiecesClose : Type 0
PiecesClose = (a b : List CodeItem) → IsClosed a → IsClosed b → IsClosed (a ++ b)

abbrev pub HalvesStand : Type 0
HalvesStand = (a b : List CodeItem) → IsClosed a → (at : Site (a ++ b)) → Halves a b at

-- The pieces of a text that stand between gaps, as words between blanks and lines between line ends.
use Rattle.std.specs.Prelude.{ℕ, ◌+◌, List, [], ◌∷◌, Bool, true, false, ◌==◌, ◌&&◌, ◌||◌, if◌then◌else◌}
use Rattle.ido_base.specs.Places.{line_feed}

-- a piece and where its first byte stands
pub record Piece : Type 0 where
  pub place : ℕ
  pub bytes : List ℕ

-- an LF, or a CR with an LF after it
abbrev pub begins_line_end : List ℕ → Bool
begins_line_end [] = true
begins_line_end (c ∷ []) = c == line_feed
begins_line_end (c ∷ d ∷ cs) = c == line_feed || (c == 13 && d == line_feed)

-- a space, an LF, or a CR with an LF after it
abbrev pub begins_gap : List ℕ → Bool
begins_gap [] = true
begins_gap (c ∷ []) = c == 32 || c == line_feed
begins_gap (c ∷ d ∷ cs) = c == 32 || c == line_feed || (c == 13 && d == line_feed)

-- a byte before pieces: it begins one of its own where a gap follows it
abbrev pub with_byte : (place byte : ℕ) → (gap_follows : Bool) → List Piece → List Piece
with_byte place c true ps = record { place = place; bytes = c ∷ [] } ∷ ps
with_byte place c false [] = record { place = place; bytes = c ∷ [] } ∷ []
with_byte place c false (p ∷ ps) = record { place = place; bytes = c ∷ p.bytes } ∷ ps

-- the pieces of a text that stands at a place, where this says whether a gap begins the rest of it
abbrev pub pieces_at : (gap : List ℕ → Bool) → (place : ℕ) → List ℕ → List Piece
pieces_at gap place [] = []
pieces_at gap place (c ∷ cs) = if gap (c ∷ cs) then pieces_at gap (place + 1) cs else with_byte place c (gap cs) (pieces_at gap (place + 1) cs)

-- the words of a text, between spaces and line ends
abbrev pub words_at : (place : ℕ) → List ℕ → List Piece
words_at place text = pieces_at begins_gap place text

-- the lines of a text that aren't empty
abbrev pub lines_at : (place : ℕ) → List ℕ → List Piece
lines_at place text = pieces_at begins_line_end place text

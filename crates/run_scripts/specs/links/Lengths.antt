-- How far gaps and pieces reach.
use Rattle.std.specs.Prelude.{ℕ, ◌+◌, List, [], ◌∷◌, Bool, if◌then◌else◌}
use Rattle.run_scripts.specs.Pieces.{begins_gap, begins_line_end}
use Rattle.run_scripts.specs.declared.piece.Gap.{Gap}
use Rattle.run_scripts.specs.declared.piece.Gap.TheVariants.{Blank, LineEnd}

-- a gap of the kind begins the text
abbrev pub is_gap : Gap → List ℕ → Bool
is_gap Blank text = begins_gap text
is_gap LineEnd text = begins_line_end text

-- bytes before the first that begins no gap
abbrev pub gap_length : (gap : List ℕ → Bool) → List ℕ → ℕ
gap_length gap [] = 0
gap_length gap (c ∷ cs) = if gap (c ∷ cs) then 1 + gap_length gap cs else 0

-- bytes before the first gap
abbrev pub piece_length : (gap : List ℕ → Bool) → List ℕ → ℕ
piece_length gap [] = 0
piece_length gap (c ∷ cs) = if gap (c ∷ cs) then 0 else 1 + piece_length gap cs

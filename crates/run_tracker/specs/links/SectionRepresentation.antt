-- What the sections of harts represent.
use Rattle.std.specs.Prelude.{◌≡◌, ℕ, ◌+◌, ◌<◌, length, slice_index_or, not, ◌&&◌, ◌==◌, if◌then◌else◌}
use Rattle.ido_base.specs.Words.{word_at}
use Rattle.machine_model.specs.Machine.{World, durable_point}
use Rattle.machine_model.specs.Schedule.{Steps}
use Rattle.run_tracker.specs.links.AccountRepresentation.{IsNoneDurable, point_word}
use Rattle.run_tracker.specs.declared.sections.HartSections.{HartSections}
use Rattle.run_tracker.specs.declared.sections.Sections.{Sections}

abbrev pub outside : HartSections
outside = record { position = 0; point = 0; ended = 0 }

abbrev pub section_at : Sections → (h : ℕ) → HartSections
section_at sections h = slice_index_or sections.harts.items h outside

-- the hart, whose durable point is this one now, at this position
abbrev pub seen_at : (position point : ℕ) → HartSections → HartSections
seen_at position point hart = record {
  position = position;
  point = point;
  ended = hart.ended + (if not (hart.point == 0) && (point == 0) then 1 else 0);
}

-- the same, where the position is another one than before
abbrev pub looked_at : (position point : ℕ) → HartSections → HartSections
looked_at position point hart = if hart.position == position then hart else seen_at position point hart

-- of each of so many harts up to where the word of its point is durable
abbrev pub AreSeen : Sections → (harts : ℕ) → World → Type 0
AreSeen sections harts w = (h : ℕ) → h < harts → (section_at sections h).position ≡ (word_at w.words (point_word w.log h)).durable

-- of each of so many harts no pending steps are bound up to there
abbrev pub AreAbove : Sections → (harts : ℕ) → Steps → Type 0
AreAbove sections harts s = (h : ℕ) → h < harts → IsNoneDurable h (section_at sections h).position s.pending

-- of each of so many harts its durable point and where that stands, and how many sections of its thread have ended
pub record AreSections (sections : Sections) (harts : ℕ) (w : World) (ended : ℕ → ℕ) : Type 0 where
  pub size : length sections.harts.items ≡ harts
  pub position : AreSeen sections harts w
  pub point : (h : ℕ) → h < harts → (section_at sections h).point ≡ durable_point w.log w.words h
  pub counted : (h : ℕ) → h < harts → (section_at sections h).ended ≡ ended h

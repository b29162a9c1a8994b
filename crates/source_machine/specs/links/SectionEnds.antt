-- Where sections end.
use Rattle.std.specs.Prelude.{ℕ, List, Option, not, ◌&&◌, ◌==◌, if◌then◌else◌}
use Rattle.ido_base.specs.Locks.{holds_none}

-- a section of the thread ends between these holders
abbrev pub ends : (before after : List (Option ℕ)) → (thread : ℕ) → ℕ
ends before after thread = if not (holds_none before thread) && holds_none after thread then 1 else 0

-- 1 for the one thread
abbrev pub is_one : (one thread : ℕ) → ℕ
is_one one thread = if one == thread then 1 else 0

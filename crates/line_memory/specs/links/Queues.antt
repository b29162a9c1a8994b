-- What the snapshots of a queue represent.
use Rattle.std.specs.Prelude.{◌≡◌, ℕ, ◌+◌, ◌*◌, ◌%◌, ◌<◌, ◌≤◌, List, [], length, replicate, slice_index_or}
use Rattle.ido_base.specs.Words.{Word, Entry}
use Rattle.line_memory.specs.links.Cells.{Remembers, versions_in}
use Rattle.line_memory.specs.declared.queue.Snapshot.{Snapshot}
use Rattle.line_memory.specs.declared.queue.Queue.{Queue}

-- how many entries a queue has
abbrev pub queue_length : Queue → ℕ
queue_length queue = queue.count

abbrev pub no_snapshot : Snapshot
no_snapshot = record { line = 0; words = replicate 8 (record { value = 0; version = 0 }) }

-- the snapshot of that number, the oldest first
abbrev pub queued : Queue → ℕ → Snapshot
queued queue i = slice_index_or queue.ring ((queue.head + i) % 16) no_snapshot

abbrev pub no_entry : Entry
no_entry = record { line = 0; positions = [] }

abbrev pub entry_at : List Entry → ℕ → Entry
entry_at entries i = slice_index_or entries i no_entry

-- the snapshot is of the entry's line, and keeps of each of its words the entry's position and the value there
pub record RepresentsSnapshot (snapshot : Snapshot) (entry : Entry) (words : List Word) : Type 0 where
  pub line : entry.line ≡ snapshot.line
  pub exists : 8 * snapshot.line + 8 ≤ length words
  pub positions : entry.positions ≡ versions_in snapshot.words
  pub kept : Remembers snapshot.words (8 * snapshot.line) words

-- as many snapshots as entries, and each represents its entry
pub record RepresentsQueue (queue : Queue) (entries : List Entry) (words : List Word) : Type 0 where
  pub size : length entries ≡ queue_length queue
  pub each : (i : ℕ) → i < queue_length queue → RepresentsSnapshot (queued queue i) (entry_at entries i) words

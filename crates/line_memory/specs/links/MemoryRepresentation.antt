-- What a memory represents.
use Rattle.std.specs.Prelude.{◌≡◌, ℕ, ◌<◌, List, length}
use Rattle.log_schemes.specs.declared.log.Log.{Log}
use Rattle.ido_base.specs.Words.{Word, word_at}
use Rattle.log_schemes.specs.Layout.{word_count}
use Rattle.line_memory.specs.links.Cells.{CellsStand}
use Rattle.line_memory.specs.ChangedWords.{HasChanged}
use Rattle.line_memory.specs.declared.memory.LineMemory.{LineMemory}

-- how its threads log
abbrev pub log_in : LineMemory → Log
log_in memory = memory.log

-- for how many threads there are logs
abbrev pub threads_of : LineMemory → ℕ
threads_of memory = memory.threads

-- how many threads have logs, and how these log
pub record Logs : Type 0 where
  pub log : Log
  pub threads : ℕ

abbrev pub logs_of : LineMemory → Logs
logs_of memory = record { log = log_in memory; threads = threads_of memory }

-- how many stores there were since the start or the last crash
abbrev pub stores_of : LineMemory → ℕ
stores_of memory = memory.stores

-- the memory has the words of so many threads, each of its cells represents its word, and it knows which words have changed
pub record Represents (memory : LineMemory) (words : List Word) : Type 0 where
  pub size : length words ≡ word_count (log_in memory) (threads_of memory)
  pub cells : CellsStand memory.cells.items words (stores_of memory)
  pub changes : (i : ℕ) → 1 < length (word_at words i).values → HasChanged memory.changes i

-- Bytes read in their order, as an object, with the first fault and its place. `total` is how many bytes there are in all.
use Rattle.std.specs.Prelude.{ℕ, ◌%◌, List, length, Result, Ok, Err, is_some, ◌==◌, if◌then◌else◌}
use Rattle.ido_base.specs.declared.limits.TheConstants.{MOST_THREADS, MOST_VARIABLE_BYTES, MOST_CODE_WORDS}
use Rattle.log_schemes.specs.declared.log.Log.{Log}
use Rattle.log_schemes.specs.declared.log.Log.TheVariants.{V1, V2, Justdo}
use Rattle.rv64_isa.specs.Formats.{decoded}
use Rattle.file_fields.specs.Fields.{Fault, Reads, Version, ◌>>=◌, bytes_at, number_at, kept, number_within, repeated, magic_at, ended}
use Rattle.object_format.specs.Contents.{Contents, least_words, word_bytes}
use Rattle.log_schemes.specs.Schemes.{most_locks}
use Rattle.object_format.specs.ObjectEncoder.{magic}

-- the log of a version
unfoldable pub log_at : (total : ℕ) → List ℕ → Reads Log
log_at total bytes = do
  n ← number_at total bytes
  if n.0 == 1 then Ok (V1, n.1) else if n.0 == 2 then Ok (V2, n.1) else if n.0 == 3 then Ok (Justdo, n.1) else Err Version

-- how many initial bytes there are, and these
unfoldable pub initial_at : (total : ℕ) → List ℕ → Reads (List ℕ)
initial_at total bytes = do
  n ← number_within total 0 MOST_VARIABLE_BYTES bytes
  n ← kept total (n.0 % word_bytes == 0) bytes n
  bytes_at total n.0 n.1

unfoldable pub word_at : (total : ℕ) → List ℕ → Reads ℕ
word_at total bytes = do
  n ← number_at total bytes
  kept total (is_some (decoded n.0)) bytes n

unfoldable pub thread_at : (total : ℕ) → List ℕ → Reads (List ℕ)
thread_at total bytes = do
  n ← number_within total least_words MOST_CODE_WORDS bytes
  repeated (word_at total) n.0 n.1

-- what stands before the code
pub record Head : Type 0 where
  pub log : Log
  pub threads : ℕ
  pub mutexes : ℕ
  pub initial : List ℕ

unfoldable pub head_at : (total : ℕ) → List ℕ → Reads Head
head_at total bytes = do
  after_magic ← magic_at total magic bytes
  log ← log_at total after_magic
  threads ← number_within total 0 MOST_THREADS log.1
  mutexes ← number_within total 0 (most_locks log.0) threads.1
  initial ← initial_at total mutexes.1
  Ok (record { log = log.0; threads = threads.0; mutexes = mutexes.0; initial = initial.0 }, initial.1)

-- the object that the bytes spell, all of them, or their first fault
unfoldable pub read : List ℕ → Result Contents Fault
read bytes = do
  head ← head_at (length bytes) bytes
  code ← repeated (thread_at (length bytes)) head.0.threads head.1
  ended (length bytes) code.1 (record { log = head.0.log; code = code.0; initial = head.0.initial; mutexes = head.0.mutexes })

-- Bytes read in their order, as an image, with the first fault and its place. `total` is how many bytes there are in all.
use Rattle.std.specs.Prelude.{◌≡◌, ◌==◌, ◌&&◌, ℕ, ◌*◌, ◌/◌, List, length, if◌then◌else◌, nat_le, Result, Ok, Err}
use Rattle.ido_base.specs.declared.limits.TheConstants.{MOST_SOURCE_BYTES}
use Rattle.file_fields.specs.Fields.{Fault, Version, Reads, ◌>>=◌, bytes_at, number_at, word_at, number_within, repeated, magic_at, version_at, ended}
use Rattle.run_scripts.specs.Runs.{Run}
use Rattle.crash_images.specs.Contents.{Contents, State, number_of, word_bytes, words_of}
use Rattle.crash_images.specs.ImageEncoder.{magic}
use Rattle.crash_images.specs.declared.version.TheConstants.{MOST_LIVES}
use Rattle.crash_images.specs.declared.version.ImageVersion.{ImageVersion}
use Rattle.crash_images.specs.declared.version.ImageVersion.TheVariants.{First, Second, Third, Fourth}

-- ---- The version

-- the version of this number, where it isn't after the newest
abbrev pub known : (newest : ImageVersion) → (number : ℕ) → Result ImageVersion Fault
known newest n =
    if n == 1 then Ok First else if (n == 2) && nat_le 2 (number_of newest) then Ok Second
    else if (n == 3) && nat_le 3 (number_of newest) then Ok Third else if (n == 4) && nat_le 4 (number_of newest) then Ok Fourth else Err Version

-- the version of the bytes
unfoldable pub version_in : (newest : ImageVersion) → List ℕ → Result ImageVersion Fault
version_in newest bytes = do
  after_magic ← magic_at (length bytes) magic bytes
  n ← number_at (length bytes) after_magic
  known newest n.0

-- ---- Up to the end of the source

-- the source, and the bytes after it; one that is too long is the fault even where its bytes are missing
unfoldable pub source_at : ImageVersion → List ℕ → Reads (List ℕ)
source_at version bytes = do
  after_magic ← magic_at (length bytes) magic bytes
  after_version ← version_at (length bytes) (number_of version) after_magic
  size ← number_within (length bytes) 0 MOST_SOURCE_BYTES after_version
  bytes_at (length bytes) size.0 size.1

-- ---- After the source

-- how many bytes the variables take: so many
unfoldable pub size_at : (total size : ℕ) → List ℕ → Result (List ℕ) Fault
size_at total size bytes = do
  found ← number_within total size size bytes
  Ok found.1

unfoldable pub run_at : (total : ℕ) → List ℕ → Reads Run
run_at total bytes = do
  thread ← number_at total bytes
  steps ← number_at total thread.1
  Ok (record { thread = thread.0; steps = steps.0 }, steps.1)

-- the runs of a life
unfoldable pub life_at : (total : ℕ) → List ℕ → Reads (List Run)
life_at total bytes = do
  count ← number_at total bytes
  repeated (run_at total) count.0 count.1

-- how many lives there are: that there is none is the fault of its field
abbrev pub count_at : ImageVersion → (total : ℕ) → List ℕ → Reads ℕ
count_at First total bytes = Ok (1, bytes)
count_at Second total bytes = Ok (1, bytes)
count_at Third total bytes = number_within total 1 MOST_LIVES bytes
count_at Fourth total bytes = number_within total 1 MOST_LIVES bytes

-- the lives, after which nothing stands
unfoldable pub lives_at : ImageVersion → (total : ℕ) → List ℕ → Result (List (List Run)) Fault
lives_at version total bytes = do
  count ← count_at version total bytes
  lives ← repeated (life_at total) count.0 count.1
  ended total lives.1 lives.0

-- the words of the variables, which take so many bytes, and the bytes after them
unfoldable pub variables_at : (total size : ℕ) → List ℕ → Reads (List ℕ)
variables_at total size bytes = do
  after_size ← size_at total size bytes
  repeated (word_at total) (size / word_bytes) after_size

-- the state with these words of variables, of a source with so many threads
unfoldable pub logs_at : ImageVersion → (total threads : ℕ) → (variables : List ℕ) → List ℕ → Result State Fault
logs_at version total threads variables bytes = do
  logs ← repeated (word_at total) (words_of version * threads) bytes
  lives ← lives_at version total logs.1
  Ok (record { variables = variables; logs = logs.0; lives = lives })

-- of a source whose variables take so many bytes, and which has so many threads
unfoldable pub state_at : ImageVersion → (total size threads : ℕ) → List ℕ → Result State Fault
state_at version total size threads bytes = do
  variables ← variables_at total size bytes
  logs_at version total threads variables.0 variables.1

-- ---- Whole images

-- the image of that version that the bytes spell, all of them, or their first fault
unfoldable pub image_at : ImageVersion → (size threads : ℕ) → List ℕ → Result Contents Fault
image_at version size threads bytes = do
  source ← source_at version bytes
  state ← state_at version (length bytes) size threads source.1
  Ok (record { source = source.0; state = state })

-- the bytes are read as these contents, of a source with so many bytes of variables, and with as many threads as there are logs
abbrev pub IsReadAs : ImageVersion → Contents → (bytes : List ℕ) → Type 0
IsReadAs version o bytes = (threads : ℕ) → length o.state.logs ≡ words_of version * threads →
    image_at version (word_bytes * length o.state.variables) threads bytes ≡ Ok o

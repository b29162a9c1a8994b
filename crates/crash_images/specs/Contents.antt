-- What an image holds, without where it lies in memory, and its limits.
use Rattle.std.specs.Prelude.{◌≡◌, ℕ, ◌*◌, ◌≤◌, List, length, map}
use Rattle.std.specs.List.{AllByRecursion}
use Rattle.ido_base.specs.declared.limits.TheConstants.{MOST_THREADS, WORD_BYTES}
use Rattle.log_schemes.specs.declared.log.Log.{Log}
use Rattle.log_schemes.specs.declared.log.Log.TheVariants.{V1, V2, Justdo}
use Rattle.log_schemes.specs.Layout as layout
use Rattle.file_fields.specs.Numbers.{IsNumber, IsWord}
use Rattle.run_scripts.specs.Runs.{Run, runs_of}
use Rattle.crash_images.specs.declared.version.ImageVersion.{ImageVersion}
use Rattle.crash_images.specs.declared.version.ImageVersion.TheVariants.{First, Second, Third, Fourth}

-- what a crash leaves of a run of a source
pub record State : Type 0 where
  -- the durable words of the variables
  pub variables : List ℕ
  -- the durable words of the logs, of thread 0 first
  pub logs : List ℕ
  -- the schedule of each life so far, of the first life first
  pub lives : List (List Run)

pub record Contents : Type 0 where
  -- the bytes of the source
  pub source : List ℕ
  pub state : State

-- after lives of these steps, of the thread whose number each is
abbrev pub contents : (source variables logs : List ℕ) → (schedules : List (List ℕ)) → Contents
contents source variables logs schedules =
    record { source = source; state = record { variables = variables; logs = logs; lives = map runs_of schedules } }

-- ---- Versions

-- the number that stands in the file
abbrev pub number_of : ImageVersion → ℕ
number_of First = 1
number_of Second = 2
number_of Third = 3
number_of Fourth = 4

abbrev pub log_of : ImageVersion → Log
log_of First = V1
log_of Second = V2
log_of Third = V2
log_of Fourth = Justdo

-- the version in which images of a log are written
abbrev pub written_as : Log → ImageVersion
written_as V1 = First
written_as V2 = Third
written_as Justdo = Fourth

-- four bytes tell how many lives there are, at least one
abbrev pub AreCounted : (lives : ℕ) → Type 0
AreCounted lives = (1 ≤ lives) × IsNumber lives

-- so many lives are told
abbrev pub Tells : ImageVersion → (lives : ℕ) → Type 0
Tells First lives = lives ≡ 1
Tells Second lives = lives ≡ 1
Tells Third lives = AreCounted lives
Tells Fourth lives = AreCounted lives

-- ---- Limits

-- words of logs
abbrev pub most_logs : Log → ℕ
most_logs log = layout.log_words log * MOST_THREADS

abbrev pub word_bytes : ℕ
word_bytes = WORD_BYTES

-- words of the first log of a thread
abbrev pub log_words : ℕ
log_words = layout.log_words V1

-- words of the log of a thread
abbrev pub words_of : ImageVersion → ℕ
words_of version = layout.log_words (log_of version)

-- four bytes tell the thread, and how many steps it took
abbrev pub IsRun : Run → Type 0
IsRun r = IsNumber r.thread × IsNumber r.steps

-- four bytes tell how many runs a life has
abbrev pub IsLife : List Run → Type 0
IsLife runs = IsNumber (length runs) × AllByRecursion IsRun runs

-- words of variables that take so many bytes
pub record AreVariables (size : ℕ) (variables : List ℕ) : Type 0 where
  pub count : word_bytes * length variables ≡ size
  pub words : AllByRecursion IsWord variables

-- of a source whose variables take so many bytes, and which has so many threads
pub record IsState (version : ImageVersion) (size threads : ℕ) (s : State) : Type 0 where
  pub variables : word_bytes * length s.variables ≡ size
  pub logs : length s.logs ≡ words_of version * threads
  pub lives : Tells version (length s.lives)
  pub variable_words : AllByRecursion IsWord s.variables
  pub log_words : AllByRecursion IsWord s.logs
  pub fields : AllByRecursion IsLife s.lives

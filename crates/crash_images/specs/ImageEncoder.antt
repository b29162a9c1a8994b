-- An image as bytes.
use Rattle.std.specs.Prelude.{ℕ, ◌*◌, List, [], ◌++◌, length, codes, flat_map}
use Rattle.file_fields.specs.Numbers.{number, word}
use Rattle.run_scripts.specs.Runs.{Run}
use Rattle.crash_images.specs.Contents.{Contents, State, number_of, word_bytes}
use Rattle.crash_images.specs.declared.version.ImageVersion.{ImageVersion}
use Rattle.crash_images.specs.declared.version.ImageVersion.TheVariants.{First, Second, Third, Fourth}

-- what stands first
abbrev pub magic : List ℕ
magic = codes "IDO-IMG\n"

-- the thread, and how many steps it took
abbrev pub run_text : Run → List ℕ
run_text r = number r.thread ++ number r.steps

-- how many runs, and these
abbrev pub runs_text : List Run → List ℕ
runs_text runs = number (length runs) ++ flat_map run_text runs

-- how many lives, where there may be more than one
abbrev pub count_text : ImageVersion → (lives : ℕ) → List ℕ
count_text First lives = []
count_text Second lives = []
count_text Third lives = number lives
count_text Fourth lives = number lives

-- the runs of each life
abbrev pub lives_text : ImageVersion → List (List Run) → List ℕ
lives_text version lives = count_text version (length lives) ++ flat_map runs_text lives

-- what stands first, and the source after its number of bytes
abbrev pub source_text : ImageVersion → (source : List ℕ) → List ℕ
source_text version source = magic ++ number (number_of version) ++ number (length source) ++ source

-- the number of bytes of the variables, and their words
abbrev pub variables_text : (variables : List ℕ) → List ℕ
variables_text variables = number (word_bytes * length variables) ++ flat_map word variables

-- what follows the variables: the words of the logs, and the lives
abbrev pub logs_text : ImageVersion → State → List ℕ
logs_text version s = flat_map word s.logs ++ lives_text version s.lives

-- the number of bytes of the variables, their words, and the words of the logs
abbrev pub memory_text : (variables logs : List ℕ) → List ℕ
memory_text variables logs = number (word_bytes * length variables) ++ flat_map word variables ++ flat_map word logs

abbrev pub state_text : ImageVersion → State → List ℕ
state_text version s = memory_text s.variables s.logs ++ lives_text version s.lives

abbrev pub spelling : ImageVersion → Contents → List ℕ
spelling version o = source_text version o.source ++ state_text version o.state

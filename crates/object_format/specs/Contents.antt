-- What an object holds, without where it lies in memory, and its limits.
use Rattle.std.specs.Prelude.{◌≡◌, ℕ, ◌%◌, ◌^◌, ◌<◌, ◌≤◌, List, length, map, IsTrue, is_some}
use Rattle.std.specs.List.{AllByRecursion}
use Rattle.std.specs.Global.{Vec}
use Rattle.ido_base.specs.declared.limits.TheConstants.{MOST_THREADS, MOST_VARIABLE_BYTES, MOST_CODE_WORDS, WORD_BYTES}
use Rattle.log_schemes.specs.declared.log.Log.{Log}
use Rattle.log_schemes.specs.declared.log.Log.TheVariants.{V1, V2, Justdo}
use Rattle.log_schemes.specs.Schemes.{most_locks}
use Rattle.rv64_isa.specs.Formats.{decoded}
use Rattle.machine_model.specs.declared.object.Object.{Object}

pub record Contents : Type 0 where
  -- how its threads log
  pub log : Log
  -- the code words of each thread
  pub code : List (List ℕ)
  -- the initial bytes of the variables
  pub initial : List ℕ
  -- how many mutexes there are
  pub mutexes : ℕ

abbrev pub items_of : Vec ℕ → List ℕ
items_of v = v.items

abbrev pub contents_of : Object → Contents
contents_of object = record { log = object.log; code = map items_of object.code.items; initial = object.initial.items; mutexes = object.mutexes }

-- the version of objects whose threads log so
abbrev pub version_of : Log → ℕ
version_of V1 = 1
version_of V2 = 2
version_of Justdo = 3

-- ---- Limits

-- initial bytes are whole words
abbrev pub word_bytes : ℕ
word_bytes = WORD_BYTES

abbrev pub least_words : ℕ
least_words = 1

-- a word of 32 bits that an instruction has
abbrev pub IsInstructionWord : (word : ℕ) → Type 0
IsInstructionWord word = (word < 2 ^ 32) × IsTrue (is_some (decoded word))

pub record IsThreadCode (words : List ℕ) : Type 0 where
  pub some : least_words ≤ length words
  pub few : length words ≤ MOST_CODE_WORDS
  pub instructions : AllByRecursion IsInstructionWord words

pub record IsWithinLimits (o : Contents) : Type 0 where
  pub threads : length o.code ≤ MOST_THREADS
  pub mutexes : o.mutexes ≤ most_locks o.log
  pub initial : length o.initial ≤ MOST_VARIABLE_BYTES
  pub whole : length o.initial % word_bytes ≡ 0
  pub code : AllByRecursion IsThreadCode o.code

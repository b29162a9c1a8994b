-- An object as bytes.
use Rattle.std.specs.Prelude.{ℕ, ◌<◌, ◌^◌, List, ◌++◌, length, codes, flat_map}
use Rattle.std.specs.List.{AllByRecursion}
use Rattle.file_fields.specs.Numbers.{number}
use Rattle.object_format.specs.Contents.{Contents, version_of}

-- what stands first
abbrev pub magic : List ℕ
magic = codes "IDO-OBJ\n"

-- how many, and the words
abbrev pub thread_text : (words : List ℕ) → List ℕ
thread_text words = number (length words) ++ flat_map number words

abbrev pub spelling : Contents → List ℕ
spelling o =
    magic ++ number (version_of o.log) ++ number (length o.code) ++ number o.mutexes ++ number (length o.initial) ++ o.initial
    ++ flat_map thread_text o.code

-- four bytes tell each length
pub record HasLengths (o : Contents) : Type 0 where
  pub threads : length o.code < 2 ^ 32
  pub initial : length o.initial < 2 ^ 32
  pub words : AllByRecursion (λ words. length words < 2 ^ 32) o.code

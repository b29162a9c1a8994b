-- The words of the command line: which command they name, as `clap` takes them.
use Rattle.std.specs.Prelude.{ℕ, ◌^◌, ◌-◌, List, [], ◌∷◌, length, true, false, not, Option, Some, None, Bool, option_and_then, option_map, unwrap_or, codes}
use Rattle.std.specs.Prelude.{nat_eq, nat_lt, if◌then◌else◌}
use Rattle.std.specs.Cmp.Lexicographic.{pointwise}
use Rattle.std.specs.Str.Parse.{digits_value, without_leading_plus}
use Rattle.clap.specs.Words.{App, Row, Rule, Shape, all_of, fault_of, first_of, new_rule, one_of, subcommand_of, with_subcommand}
use Rattle.clap.specs.Simple.{new_shape}
use Rattle.clap.specs.ValueTests.{is_unsigned_in}
use Rattle.clap.specs.Walk.{is_empty}
use Rattle.clap.specs.declared.builder.action.ArgAction.TheVariants.{Append, SetTrue}
use Rattle.clap.specs.declared.builder.value_parser.ValueParser as p
use Rattle.clap.specs.declared.builder.value_parser.ValueParser.TheVariants as parser
use Rattle.command_words.specs.declared.command.Command as c
use Rattle.command_words.specs.declared.command.Command.TheVariants as command
use Rattle.command_words.specs.declared.scheme.SchemeName.{SchemeName}
use Rattle.command_words.specs.declared.scheme.SchemeName.TheVariants.{Ido, Justdo}

-- ---- What `clap` takes

-- turns that `recover`, `upgrade`, `seeded` and `live` take at most
abbrev pub most_turns : ℕ
most_turns = 1000000

-- rounds that `make` takes at most
abbrev pub most_rounds : ℕ
most_rounds = 10000

-- rounds that `load` takes at most
abbrev pub most_loaded_rounds : ℕ
most_loaded_rounds = 100

-- a crash word at most, and how many of them at most
abbrev pub most_crash : ℕ
most_crash = 4000000

abbrev pub most_crashes : ℕ
most_crashes = 1000

-- a word of its own that is required, and is a number that this parser takes
abbrev pub number_rule : (name : List ℕ) → p.ValueParser → Rule
number_rule name parser = record (new_rule name) { required = true; parser = Some parser }

abbrev pub turns_rule : Rule
turns_rule = number_rule (codes "TURNS") (parser.Unsigned 0 most_turns)

-- any number of words, each a number
abbrev pub crash_rule : Rule
crash_rule = record (new_rule (codes "CRASH")) { action = Some Append; parser = Some (parser.Unsigned 0 most_crash) }

-- `--evict`, and a number after it
abbrev pub evict_rule : Rule
evict_rule = record (new_rule (codes "evict")) { long = Some (codes "evict"); parser = Some (parser.Unsigned 0 (2 ^ 64 - 1)) }

-- `--scheme`, and a word after it
abbrev pub scheme_rule : Rule
scheme_rule = record (new_rule (codes "scheme")) { long = Some (codes "scheme") }

-- the name with two hyphens before it, and nothing after it
abbrev pub flag_rule : (name : List ℕ) → Rule
flag_rule name = record (new_rule name) { long = Some name; action = Some SetTrue }

-- a command that takes this alone
abbrev pub one_shape : (name : List ℕ) → Rule → Shape
one_shape name rule = record (new_shape name) { rules = rule ∷ [] }

-- a command that takes a flag
abbrev pub flag_shape : (name flag : List ℕ) → Shape
flag_shape name flag = one_shape name (flag_rule flag)

abbrev pub regions_shape : Shape
regions_shape = flag_shape (codes "regions") (codes "least")

-- a command that takes a scheme
abbrev pub scheme_shape : (name : List ℕ) → Shape
scheme_shape name = one_shape name scheme_rule

abbrev pub play_shape : Shape
play_shape = record (new_shape (codes "play")) { rules = flag_rule (codes "fences") ∷ scheme_rule ∷ [] }

-- a command that takes a number of turns
abbrev pub turns_shape : (name : List ℕ) → Shape
turns_shape name = one_shape name turns_rule

abbrev pub make_shape : Shape
make_shape = record (new_shape (codes "make")) {
  rules = number_rule (codes "N") (parser.Unsigned 1 most_rounds) ∷ number_rule (codes "SEED") (parser.Unsigned 0 (2 ^ 32 - 1)) ∷ [];
}

abbrev pub seeded_shape : Shape
seeded_shape = record (new_shape (codes "seeded")) {
  rules = number_rule (codes "SEED") (parser.Unsigned 0 (2 ^ 64 - 1)) ∷ turns_rule ∷ crash_rule ∷ flag_rule (codes "journal") ∷ scheme_rule ∷ [];
}

abbrev pub live_shape : Shape
live_shape = record (new_shape (codes "live")) {
  rules = turns_rule ∷ crash_rule ∷ evict_rule ∷ flag_rule (codes "journal") ∷ scheme_rule ∷ [];
}

abbrev pub load_shape : Shape
load_shape = record (new_shape (codes "load")) {
  rules = number_rule (codes "N") (parser.Unsigned 1 most_loaded_rounds) ∷ number_rule (codes "SEED") (parser.Unsigned 0 (2 ^ 32 - 1)) ∷ scheme_rule ∷ [];
}

-- one of the commands is required; `list`, `source` and `order` take no word of their own
abbrev pub table : App
table =
    let top = record (new_shape (codes "ido")) { subcommand_required = true } in
    let one = with_subcommand (record { top = top; subs = [] }) (scheme_shape (codes "compile")) in
    let two = with_subcommand (with_subcommand one (new_shape (codes "list"))) regions_shape in
    let three = with_subcommand (with_subcommand two play_shape) (new_shape (codes "source")) in
    let order = with_subcommand (with_subcommand three (scheme_shape (codes "image"))) (new_shape (codes "order")) in
    let four = with_subcommand (with_subcommand order (turns_shape (codes "recover"))) (turns_shape (codes "upgrade")) in
    let five = with_subcommand (with_subcommand four make_shape) seeded_shape in
    with_subcommand (with_subcommand (with_subcommand five live_shape) load_shape) (scheme_shape (codes "sweep"))

-- ---- Which command is named

abbrev pub is_named : (name : List ℕ) → List ℕ → Bool
is_named name word = pointwise nat_eq word name

-- the number of so many bits that a text is read as: decimal digits, with a `+` before them or not
abbrev pub number_of : (bits : ℕ) → (text : List ℕ) → Option ℕ
number_of bits text = if is_unsigned_in 0 (2 ^ bits - 1) text then Some (digits_value 10 (without_leading_plus text)) else None

-- that of the word of a name
abbrev pub number_in : (bits : ℕ) → (name : List ℕ) → List Row → Option ℕ
number_in bits name rows = option_and_then (number_of bits) (one_of name rows)

-- the flag of a name is set
abbrev pub is_true : Option (List ℕ) → Bool
is_true None = false
is_true (Some text) = is_named (codes "true") text

abbrev pub is_set : (name : List ℕ) → List Row → Bool
is_set name rows = is_true (one_of name rows)

-- the numbers of texts, where each is one
abbrev pub numbers_of : List (List ℕ) → Option (List ℕ)
numbers_of [] = Some []
numbers_of (t ∷ ts) = option_and_then (λ n. option_map (λ ns. n ∷ ns) (numbers_of ts)) (number_of 64 t)

-- crash words, of which there are at most so many
abbrev pub crashes_of : List (List ℕ) → Option (List ℕ)
crashes_of texts = if nat_lt most_crashes (length texts) then None else numbers_of texts

abbrev pub crashes_in : List Row → Option (List ℕ)
crashes_in rows = crashes_of (unwrap_or (all_of (codes "CRASH") rows) [])

-- the scheme of a name
abbrev pub scheme_named : (name : List ℕ) → Option SchemeName
scheme_named name = if is_named (codes "ido") name then Some Ido else if is_named (codes "justdo") name then Some Justdo else None

-- that of the word after `--scheme`, and without that option `ido`
abbrev pub scheme_asked : (word : Option (List ℕ)) → Option SchemeName
scheme_asked None = Some Ido
scheme_asked (Some name) = scheme_named name

abbrev pub scheme_in : List Row → Option SchemeName
scheme_in rows = scheme_asked (first_of (codes "scheme") rows)

abbrev pub compile_in : List Row → Option c.Command
compile_in rows = option_map (λ scheme. command.Compile scheme) (scheme_in rows)

abbrev pub image_in : List Row → Option c.Command
image_in rows = option_map (λ scheme. command.Image scheme) (scheme_in rows)

abbrev pub sweep_in : List Row → Option c.Command
sweep_in rows = option_map (λ scheme. command.Sweep scheme) (scheme_in rows)

abbrev pub regions_in : List Row → c.Command
regions_in rows = command.Regions (is_set (codes "least") rows)

abbrev pub play_in : List Row → Option c.Command
play_in rows = option_map (λ scheme. command.Play (is_set (codes "fences") rows) scheme) (scheme_in rows)

abbrev pub recover_in : List Row → Option c.Command
recover_in rows = option_map (λ turns. command.Recover turns) (number_in 32 (codes "TURNS") rows)

abbrev pub upgrade_in : List Row → Option c.Command
upgrade_in rows = option_map (λ turns. command.Upgrade turns) (number_in 32 (codes "TURNS") rows)

abbrev pub make_in : List Row → Option c.Command
make_in rows =
    option_and_then (λ rounds. option_map (λ seed. command.Make rounds seed) (number_in 32 (codes "SEED") rows)) (number_in 32 (codes "N") rows)

abbrev pub seeded_in : List Row → Option c.Command
seeded_in rows =
    option_and_then (λ seed. option_and_then (λ turns. option_and_then (λ scheme. option_map (λ crashes.
    command.Seeded seed turns crashes (is_set (codes "journal") rows) scheme) (crashes_in rows)) (scheme_in rows))
    (number_in 32 (codes "TURNS") rows)) (number_in 64 (codes "SEED") rows)

abbrev pub live_in : List Row → Option c.Command
live_in rows =
    option_and_then (λ turns. option_and_then (λ scheme. option_map (λ crashes.
    command.Live turns crashes (number_in 64 (codes "evict") rows) (is_set (codes "journal") rows) scheme) (crashes_in rows)) (scheme_in rows))
    (number_in 32 (codes "TURNS") rows)

abbrev pub load_in : List Row → Option c.Command
load_in rows =
    option_and_then (λ rounds. option_and_then (λ seed. option_map (λ scheme. command.Load rounds seed scheme) (scheme_in rows))
    (number_in 32 (codes "SEED") rows)) (number_in 32 (codes "N") rows)

-- the command of a name, by what its own words are
abbrev pub command_by_name : (name : List ℕ) → List Row → Option c.Command
command_by_name name rows =
    if is_named (codes "compile") name then compile_in rows
    else if is_named (codes "list") name then Some command.List
    else if is_named (codes "regions") name then Some (regions_in rows)
    else if is_named (codes "play") name then play_in rows
    else if is_named (codes "source") name then Some command.Source
    else if is_named (codes "image") name then image_in rows
    else if is_named (codes "order") name then Some command.Order
    else if is_named (codes "recover") name then recover_in rows
    else if is_named (codes "upgrade") name then upgrade_in rows
    else if is_named (codes "make") name then make_in rows
    else if is_named (codes "seeded") name then seeded_in rows
    else if is_named (codes "live") name then live_in rows
    else if is_named (codes "load") name then load_in rows
    else if is_named (codes "sweep") name then sweep_in rows
    else None

-- the command that the words name, the program's name first; none where `clap` finds a fault in them, or answers by its help
unfoldable pub command_of : List (List ℕ) → Option c.Command
command_of words = if is_empty (fault_of table words) then option_and_then (λ p. command_by_name p.0 p.1) (subcommand_of table words) else None

-- ---- What is read

-- the command reads its input
abbrev pub reads_input : c.Command → Bool
reads_input (command.Make rounds seed) = false
reads_input (command.Load rounds seed scheme) = false
reads_input _ = true

-- nothing is read: the words aren't taken, or they name a command that reads no input
abbrev pub is_unread : Option c.Command → Bool
is_unread None = true
is_unread (Some command) = not (reads_input command)

-- ---- What runs on threads

-- harts, or runs, have threads of their own for the command
abbrev pub needs_threads : c.Command → Bool
needs_threads (command.Live turns crashes evict journal scheme) = true
needs_threads (command.Recover turns) = true
needs_threads (command.Upgrade turns) = true
needs_threads (command.Load rounds seed scheme) = true
needs_threads (command.Sweep scheme) = true
needs_threads _ = false

-- the words are taken, and name such a command
abbrev pub is_threaded : Option c.Command → Bool
is_threaded None = false
is_threaded (Some command) = needs_threads command

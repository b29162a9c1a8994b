-- Where points stand.
use Rattle.std.proofs.Common.{◌≡◌, ℕ, suc, ◌≤◌, ◌+◌, ◌-◌, ◌*◌, ◌/◌, Bool, true, false, nat_lt, if◌then◌else◌, refl, ap, ◌∙◌, arith, ◌<◌, length, sym, subst}
use Rattle.std.proofs.lemmas.Bool.{ltb-true}
use Rattle.log_schemes.specs.Schemes.{size_of}
use Rattle.log_schemes.proofs.Public.{size_holds}
use Rattle.log_schemes.specs.declared.log.Log.{Log}
use Rattle.ido_base.specs.Layout.{logs_base, variables_base, byte_number}
use Rattle.log_schemes.specs.Layout.{point_at, log_lines, line_count, word_count}
use Rattle.machine_model.specs.Machine.{World}
use Rattle.ido_machine.specs.declared.machine.Machine.{Machine}
use Rattle.ido_machine.specs.Machines.{RepresentsMachine, program_in, log_by}
use Rattle.run_tracker.specs.links.AccountRepresentation.{point_word}

-- the word of a hart's point is the first one of its log's line
pub point_place : (log : Log) (h : ℕ) → point_word log h ≡ 8 * (1024 + log_lines log * h) + 0
point_place log h = by_test (nat_lt (point_at log h) logs_base) refl
  where
    number_is : (b : Bool) → nat_lt (point_at log h) logs_base ≡ b →
        byte_number (point_at log h) ≡ (if b then point_at log h - variables_base else 64 * 1024 + (point_at log h - logs_base))
    number_is b e = ap (λ (c : Bool). if c then point_at log h - variables_base else 64 * 1024 + (point_at log h - logs_base)) e

    by_test : (b : Bool) → nat_lt (point_at log h) logs_base ≡ b → point_word log h ≡ 8 * (1024 + log_lines log * h) + 0
    by_test true e = let below = ltb-true (point_at log h) logs_base e in absurd (omega (arith, below))
    by_test false e = let is = number_is false e in ap (λ (n : ℕ). n / 8) is ∙ omega arith

-- a log has a line
some_lines : (log : Log) → 0 < log_lines log
some_lines log = (size_holds (size_of log)).lines

-- rows of one length end where the next begins
rows_end : (lines few more : ℕ) → lines * few + lines ≤ lines * (few + 1 + more)
rows_end lines few more = omega arith

-- it exists, in all lines and in all words
pub line_exists : (log : Log) (h threads : ℕ) → h < threads → 1024 + log_lines log * h < line_count log threads
line_exists log h threads below =
    let is : h + 1 + (threads - suc h) ≡ threads = omega (arith, below) in
    omega (arith, some_lines log, rows_end (log_lines log) h (threads - suc h), ap (λ (n : ℕ). log_lines log * n) is)

word_exists : (log : Log) (h threads : ℕ) → h < threads → point_word log h < word_count log threads
word_exists log h threads below = let exists = line_exists log h threads below in let place = point_place log h in omega (arith, exists, place)

pub point_exists : (machine : Machine) (w : World) (h : ℕ) → RepresentsMachine machine w → h < length (program_in machine) → point_word w.log h < length w.words
point_exists machine w h stands below =
    let size : word_count w.log (length (program_in machine)) ≡ length w.words =
    sym (stands.words.size ∙ ap (word_count (log_by machine)) machine.logged ∙ ap (λ (l : Log). word_count l (length (program_in machine))) (sym stands.log)) in
    subst (λ (n : ℕ). point_word w.log h < n) size (word_exists w.log h (length (program_in machine)) below)

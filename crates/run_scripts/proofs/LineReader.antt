-- Lines of a script, read from left to right.
use Rattle.std.proofs.Common.{◌≡◌, ℕ, ◌+◌, ◌<◌, List, [], ◌∷◌, length, drop, get_or}
use Rattle.std.proofs.Common.{◌++◌, Result, Ok, Err, refl, sym, ◌∙◌, ap, arith, append_assoc}
use Rattle.std.specs.Prelude.{◌==◌, if◌then◌else◌, IfOk, IfErr, IsErrAnd}
use Rattle.std.proofs.lemmas.List.{at_drop_more}
use Rattle.std.specs.List.{prefix_len}
use Rattle.log_schemes.specs.declared.log.Log.{Log}
use Rattle.run_scripts.specs.Schedules.{is_digit}
use Rattle.run_scripts.specs.Scripts.{Rule, LineRead, Says, Fails, BadWord, Line, Read, Lines, Refused, before_lines}
use Rattle.run_scripts.specs.Scripts.{with_line, lines_of, number_then, argument_then, end_then, line_of}
use Rattle.run_scripts.specs.declared.script.Command.{Command}
use Rattle.run_scripts.specs.links.ScriptViews.{after_lines, fault_of, IsLineRead}
use Rattle.run_scripts.specs.declared.script.ScriptFault.{ScriptFault}
use Rattle.run_scripts.specs.Pieces.{lines_at}

pub end_fails : (line : List ℕ) (place at : ℕ) (command : Command) → at < length line → end_then place (drop at line) command ≡ Fails (BadWord place)
end_fails line place at command within = at_drop_more (λ bytes. end_then place bytes command) line at 0 within

pub argument_number : (rule : Rule) (line : List ℕ) (place at : ℕ) (after : ℕ → ℕ → List ℕ → LineRead) → at < length line → get_or line at 0 ≡ 32
    → argument_then rule (place + at) (drop at line) after ≡ number_then rule (place + (at + 1)) (drop (at + 1) line) after
argument_number rule line place at after within space =
    at_drop_more (λ bytes. argument_then rule (place + at) bytes after) line at 0 within
    ∙ ap (λ c. if c == 32 then number_then rule (place + at + 1) (drop (at + 1) line) after else Fails (BadWord (place + at))) space
    ∙ ap (λ p. number_then rule p (drop (at + 1) line) after) (let e : place + at + 1 ≡ place + (at + 1) = omega arith in e)

-- no digit stands there
pub no_number : (rule : Rule) (text : List ℕ) (place : ℕ) (after : ℕ → ℕ → List ℕ → LineRead) → prefix_len is_digit text ≡ 0 →
    number_then rule place text after ≡ Fails (BadWord place)
no_number rule text place after none = rw none refl

-- what holds of every rest of a number holds of what stands before a space and the number
pub after_space : {A E : Type 0} (r : Result A E) (P Q : A → Type 0) → ((x : A) → P x → Q x) → IfOk r P → IfOk r Q
after_space (Ok x) P Q f h = f x h
after_space (Err e) P Q f h = h

pub after_space_err : {A E : Type 0} (r : Result A E) (P Q : E → Type 0) → ((x : E) → P x → Q x) → IfErr r P → IfErr r Q
after_space_err (Ok x) P Q f h = h
after_space_err (Err e) P Q f h = f e h

-- ---- Line by line

after_line : (done : List Line) (line : Line) (r : Read) → after_lines done (before_lines line r) ≡ after_lines (done ++ line ∷ []) r
after_line done line (Lines lines) = ap Lines (sym (append_assoc done (line ∷ []) lines))
after_line done line (Refused fault) = refl

pub after_no_line : (r : Read) → after_lines [] r ≡ r
after_no_line (Lines lines) = refl
after_no_line (Refused fault) = refl

pub script_goes_on : (log : Log) (harts : ℕ) (text bytes : List ℕ) (done new : List Line) (whole : Read) (place middle next : ℕ) (command : Command)
    → whole ≡ after_lines done (lines_of log harts (lines_at place (drop place text)))
    → lines_at place (drop place text) ≡ record { place = place; bytes = bytes } ∷ lines_at middle (drop middle text)
    → line_of log harts place bytes ≡ Says command
    → lines_at middle (drop middle text) ≡ lines_at next (drop next text)
    → new ≡ done ++ record { place = place; command = command } ∷ []
    → whole ≡ after_lines new (lines_of log harts (lines_at next (drop next text)))
script_goes_on log harts text bytes done new whole place middle next command reached piece says after added =
    let line : Line = record { place = place; command = command } in
    reached ∙ ap (λ ps. after_lines done (lines_of log harts ps)) piece
    ∙ ap (λ r. after_lines done (with_line place r (lines_of log harts (lines_at middle (drop middle text))))) says
    ∙ after_line done line (lines_of log harts (lines_at middle (drop middle text)))
    ∙ ap (λ ps. after_lines (done ++ line ∷ []) (lines_of log harts ps)) after
    ∙ ap (λ ls. after_lines ls (lines_of log harts (lines_at next (drop next text)))) (sym added)

-- ---- The letter of a line

-- a line that fails is a fault that is handed on
pub failed : (read : LineRead) (fault : ScriptFault) (r : Result Command ScriptFault) → IsErrAnd r (λ e. e ≡ fault) → read ≡ Fails (fault_of fault) →
    IsLineRead read r
failed read fault (Ok x) h e = absurd h
failed read fault (Err f) h e = e ∙ ap (λ x. Fails (fault_of x)) (sym h)

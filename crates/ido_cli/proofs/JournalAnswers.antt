-- What `play` answers to a journal.
use Rattle.std.proofs.Common.{◌≡◌, ℕ, suc, ◌<◌, ◌≤◌, List, [], ◌∷◌, ◌++◌, length, map, Bool, true, false, codes, flat_map}
use Rattle.std.proofs.Common.{Some, None, refl, sym, ap, subst, ◌∙◌, ◌==◌, if◌then◌else◌, arith, append_assoc}
use Rattle.std.proofs.lemmas.Bool.{eqb-true}
use Rattle.std.proofs.lemmas.List.{length-map}
use Rattle.std.specs.Prelude.{◌-◌, slice_index}
use Rattle.machine_events.specs.declared.event.Event.{Event}
use Rattle.ido_base.specs.declared.limits.TheConstants.{MOST_EVENTS}
use Rattle.ido_base.specs.Places.{line_feed}
use Rattle.c_tree.specs.Flats as f
use Rattle.rv64_isa.specs.Programs.{slot_of}
use Rattle.ido_compile.specs.LoggedTexts.{IsAcceptedAs}
use Rattle.log_schemes.specs.declared.log.Log.{Log}
use Rattle.compiler_correctness.specs.Translations.{Translation}
use Rattle.ido_compile.proofs.Public.{few_accepted}
use Rattle.ido_compile.specs.Verdicts.{OneFlat, NotBoth}
use Rattle.run_scripts.specs.Journals.{command_text, commands_of, ends_line, journal_text}
use Rattle.run_scripts.specs.Laws.{ArePlayedBack, IsPlayedBack}
use Rattle.run_scripts.specs.Plays.{MayStart, PlayFault, play_fault, script_events}
use Rattle.run_scripts.specs.Reports.{line}
use Rattle.run_scripts.specs.Scripts as scripts
use Rattle.run_tracker.specs.ObjectLives.{living}
use Rattle.ido_cli.specs.Answers.{ScriptedAnswer, unplayed, no_script, of_script}
use Rattle.ido_cli.specs.Inputs.{rest_from, rest_of, source_from, source_of}
use Rattle.ido_cli.specs.Laws.{IsAlone, JournalsArePlayed, in_lines}
use Rattle.ido_cli.specs.Plays.{IsRunBy, IsTranslationOf, ScriptAnswer, beginning, events_by, faulty, ran}
use Rattle.ido_cli.proofs.EndedTexts.{accepted_ended}
use Rattle.ido_cli.proofs.JournalInputs.{Ends, split_at}
use Rattle.ido_cli.proofs.PlayedRuns.{as_many_threads}

ends : (source : List ℕ) → ends_line source ≡ true → Ends source
ends [] e = cc e
ends (c ∷ []) e = eqb-true c line_feed e
ends (c ∷ d ∷ ds) e =
    let n : length (c ∷ d ∷ ds) - 1 ≡ suc (length (d ∷ ds) - 1) = omega arith in
    let more : slice_index (c ∷ d ∷ ds) (length (c ∷ d ∷ ds) - 1) ≡ slice_index (d ∷ ds) (length (d ∷ ds) - 1) = ap (slice_index (c ∷ d ∷ ds)) n in
    ends (d ∷ ds) (sym (ap (λ (b : ℕ). b == line_feed) more) ∙ e)

abbrev script_of : List Event → List ℕ
script_of events = flat_map command_text (commands_of events)

text_is : (source : List ℕ) (events : List Event) → journal_text source events ≡ in_lines source ++ (line (codes "%%") ++ script_of events)
unfolding journal_text
text_is source events = append_assoc (in_lines source) (line (codes "%%")) (script_of events)

ends_more : (source : List ℕ) → Ends (source ++ 10 ∷ [])
ends_more [] = refl
ends_more (c ∷ []) = refl
ends_more (c ∷ d ∷ ds) = ends_more (d ∷ ds)

lines_end : (source : List ℕ) → Ends (in_lines source)
lines_end source =
    let by : (b : Bool) → ends_line source ≡ b → Ends (if b then source else line source) =
    λ b. elim b as (λ b. ends_line source ≡ b → Ends (if b then source else line source)) [
      | true ↦ λ e. ends source e
      | false ↦ λ e. ends_more source
    ] in
    by (ends_line source) refl

-- an accepted source is so with an LF at its end
accepted_lines : (log : Log) (source : List ℕ) (flat : f.Flat) → IsAcceptedAs log source flat → IsAcceptedAs log (in_lines source) flat
accepted_lines log source flat accepted =
    let by : (b : Bool) → IsAcceptedAs log (if b then source else line source) flat =
    λ b. elim b as (λ b. IsAcceptedAs log (if b then source else line source) flat) [
      | true ↦ accepted
      | false ↦ accepted_ended log source flat accepted
    ] in
    by (ends_line source)

module _ (source : List ℕ) (events : List Event) (alone : IsAlone source) where
  parts : (source_of (journal_text source events) ≡ in_lines source) × (rest_of (journal_text source events) ≡ script_of events)
  unfolding source_of rest_of
  parts =
      let text = text_is source events in
      let both = split_at (script_of events) true (in_lines source) (lines_end source) alone in
      (ap (source_from true) text ∙ both.0, ap (rest_from true) text ∙ both.1)

threads_are : (log : Log) (flat : f.Flat) (c : Translation) → IsTranslationOf log flat c → length c.runs.program ≡ length flat.threads
threads_are log flat c made =
    ap (λ (z : Translation). length z.runs.program) made.is ∙ length-map made.object.code.items (λ code. map slot_of code.items)
    ∙ as_many_threads flat made.object made.marks made.cuts made.translated

-- an input whose source is accepted, and whose script has these lines
module _ (log : Log) (one_flat : OneFlat) (not_both : NotBoth) (input : List ℕ) (flat : f.Flat)
    (accepted : IsAcceptedAs log (source_of input) flat) (lines : List scripts.Line)
    (read_is : scripts.read log (length flat.threads) (rest_of input) ≡ scripts.Lines lines) where
  same_flat : (other : f.Flat) → IsAcceptedAs log (source_of input) other → other ≡ flat
  same_flat other is = one_flat log log (source_of input) other flat is accepted

  reading : (other : f.Flat) → IsAcceptedAs log (source_of input) other →
      scripts.read log (length other.threads) (rest_of input) ≡ scripts.Lines lines
  reading other is = ap (λ (z : f.Flat). scripts.read log (length z.threads) (rest_of input)) (same_flat other is) ∙ read_is

  same_lines : (other : f.Flat) → IsAcceptedAs log (source_of input) other → (found : List scripts.Line) →
      scripts.read log (length other.threads) (rest_of input) ≡ scripts.Lines found → found ≡ lines
  same_lines other is found read = equal found lines (sym read ∙ reading other is)
    where
      equal : (xs ys : List scripts.Line) → scripts.Lines xs ≡ scripts.Lines ys → xs ≡ ys
      equal xs ys e = cc e

  none_refused : (other : f.Flat) → IsAcceptedAs log (source_of input) other → (x : scripts.Fault) →
      scripts.read log (length other.threads) (rest_of input) ≡ scripts.Refused x → ⊥
  none_refused other is x read = apart x lines (sym read ∙ reading other is)
    where
      apart : (x : scripts.Fault) (xs : List scripts.Line) → scripts.Refused x ≡ scripts.Lines xs → ⊥
      apart x xs e = cc e

  module _ (Says : Translation → List Event → (status : ℕ) → (output : List ℕ) → Type 0) where
    -- what is answered is of this script, and of a translation of this form
    record IsOfScript (status : ℕ) (output : List ℕ) : Type 0 where
      translation : Translation
      made : IsTranslationOf log flat translation
      begins : ℕ
      says : ScriptAnswer translation (Says translation) (record { lines = lines; input = input; begins = begins }) status output

    of_script_at : (other : f.Flat) → other ≡ flat → (found : List scripts.Line) → found ≡ lines → (c : Translation) → IsTranslationOf log other c →
        (begins status : ℕ) (output : List ℕ) →
        ScriptAnswer c (Says c) (record { lines = found; input = input; begins = begins }) status output → IsOfScript status output
    of_script_at other same found equal c made begins status output answer = record {
      translation = c;
      made = subst (λ (z : f.Flat). IsTranslationOf log z c) same made;
      begins = begins;
      says =
          subst (λ (ls : List scripts.Line). ScriptAnswer c (Says c) (record { lines = ls; input = input; begins = begins }) status output) equal
          answer;
    }

    is_of_script : (status : ℕ) (output : List ℕ) → ScriptedAnswer log Says input status output → IsOfScript status output
    is_of_script status output (unplayed found place is told) = absurd (not_both log (source_of input) flat found place accepted is)
    is_of_script status output (no_script other is x read told) = absurd (none_refused other is x read)
    is_of_script status output (of_script other is found read c made answer) =
        of_script_at other (same_flat other is) found (same_lines other is found read) c made _ status output answer

module _ (log : Log) (flat : f.Flat) (events : List Event) (played : IsPlayedBack living log (length flat.threads) events)
    (few : length events ≤ MOST_EVENTS) (c : Translation) (made : IsTranslationOf log flat c) (may : MayStart living (beginning c) events) where
  events_are : events_by c played.lines ≡ events
  events_are = ap (λ n. script_events living n (beginning c) played.lines) (threads_are log flat c made) ∙ played.events_are (beginning c) may

  none_found : (fault : PlayFault) → play_fault living (length c.runs.program) (beginning c) MOST_EVENTS played.lines ≡ Some fault → ⊥
  none_found fault at =
      apart fault (sym (played.faultless (beginning c) may MOST_EVENTS few)
      ∙ ap (λ n. play_fault living n (beginning c) MOST_EVENTS played.lines) (sym (threads_are log flat c made)) ∙ at)
    where
      apart : (x : PlayFault) → None ≡ Some x → ⊥
      apart x e = cc e

  run_is : (input : List ℕ) (begins status : ℕ) (output : List ℕ) →
      ScriptAnswer c (IsRunBy c) (record { lines = played.lines; input = input; begins = begins }) status output → IsRunBy c events status output
  run_is input begins status output (faulty fault at refused) = absurd (none_found fault at)
  run_is input begins status output (ran none fits said) = subst (λ (es : List Event). IsRunBy c es status output) events_are said

pub journals_are_played : OneFlat → NotBoth → ArePlayedBack living → JournalsArePlayed
journals_are_played one_flat not_both back log source events flat status output alone accepted few valid may answer =
    let limit : length events < 4294967296 = omega (arith, few) in
    let played = back log (length flat.threads) events (few_accepted log source flat accepted) limit valid in
    let both = parts source events alone in
    let input = journal_text source events in
    let accepted_in : IsAcceptedAs log (source_of input) flat = subst (λ (text : List ℕ). IsAcceptedAs log text flat) (sym both.0)
    (accepted_lines log source flat accepted) in
    let read_is : scripts.read log (length flat.threads) (rest_of input) ≡ scripts.Lines played.lines =
    ap (scripts.read log (length flat.threads)) both.1 ∙ played.read_is in
    let it = is_of_script log one_flat not_both input flat accepted_in played.lines read_is IsRunBy status output answer in
    let starts = may it.translation it.made in
    (it.translation, it.made, run_is log flat events played few it.translation it.made starts input it.begins status output it.says)

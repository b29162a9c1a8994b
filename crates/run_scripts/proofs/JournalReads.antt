-- A journal that is read back: its lines, and that they make its events.
use Rattle.std.proofs.Common.{◌≡◌, ℕ, suc, ◌+◌, ◌-◌, ◌*◌, ◌^◌, ◌<◌, ◌≤◌, List, [], ◌∷◌, ◌++◌, length}
use Rattle.std.proofs.Common.{take, drop, flat_map, replicate, Bool, true, false, ◌==◌}
use Rattle.std.proofs.Common.{Option, Some, None, refl, sym, subst, ap, ◌∙◌, arith, append_assoc, inl, inr, length-append, add-one, codes}
use Rattle.std.proofs.Common.{if◌then◌else◌}
use Rattle.std.specs.Prelude.{not}
use Rattle.std.proofs.lemmas.Bool.{eqb-true, lt-ltb, le-leb, le-ltb, ne_eqb}
use Rattle.std.proofs.lemmas.Fmt.{decimal_is_IsNumeral}
use Rattle.std.proofs.lemmas.List.{append-nil}
use Rattle.std.proofs.lemmas.List.Elements.{recursion_from_All}
use Rattle.std.proofs.lemmas.List.Concat.{flat_map-cons}
use Rattle.std.proofs.lemmas.Str.Parse.{digit_from_value}
use Rattle.std.proofs.Math.Seq.{drop-append_seam, take-append_seam}
use Rattle.std.specs.Fmt.{decimal}
use Rattle.std.specs.List.{AllByRecursion, prefix_len}
use Rattle.std.specs.Str.Parse.{AllDigits, digits_value}
use Rattle.machine_events.specs.declared.event.Event.{Event}
use Rattle.machine_events.specs.declared.event.Event.TheVariants as events
use Rattle.machine_events.specs.Cores.{Behaviour, IsValid, IsValidNow, played}
use Rattle.ido_base.specs.declared.limits.TheConstants.{MOST_THREADS}
use Rattle.log_schemes.specs.declared.log.Log.{Log}
use Rattle.log_schemes.specs.declared.size.LogSize.{LogSize}
use Rattle.log_schemes.specs.declared.size.LogSize.TheVariants.{Lines16, Lines32}
use Rattle.log_schemes.specs.Schemes as schemes
use Rattle.log_schemes.specs.Layout.{line_count}
use Rattle.run_scripts.specs.declared.script.Command.{Command}
use Rattle.run_scripts.specs.declared.script.Command.TheVariants.{Steps, Point, Fence, Enabled, Evict, Crash, Start}
use Rattle.run_scripts.specs.Journals.{command_text, commands_of, with_step}
use Rattle.run_scripts.specs.Laws.{ArePlayedBack}
use Rattle.run_scripts.specs.Pieces.{begins_line_end, lines_at, with_byte}
use Rattle.run_scripts.specs.Plays.{PlayFault, TooMany, BadStart, PastFew, MayStart, is_refused, line_events, play_fault, script_events}
use Rattle.run_scripts.specs.Reports.{line}
use Rattle.run_scripts.specs.Schedules.{is_digit}
use Rattle.run_scripts.specs.Scripts.{Fault, BadWord, IsEviction, Line, LineRead, Fails, Lines, Rule, Says, any_number, argument_then}
use Rattle.run_scripts.specs.Scripts.{before_lines, end_then, hart_number, line_number, line_of, lines_of, mask_number, number_then, read, with_line}

-- the lines of commands that are written one after another from a place on
abbrev pub placed : (place : ℕ) → List Command → List Line
placed place [] = []
placed place (c ∷ cs) = record { place = place; command = c } ∷ placed (place + length (command_text c)) cs

-- ---- The events of the lines

-- it is a line of a journal of so many harts, which makes at most so many events
abbrev pub Fits : Log → (harts most : ℕ) → Command → Type 0
Fits log harts most (Steps hart count) = (hart < harts) × (count ≤ most)
Fits log harts most (Point hart) = ⊥
Fits log harts most (Fence hart) = ⊥
Fits log harts most (Enabled count) = ⊥
Fits log harts most (Evict evicted mask) = IsEviction log harts evicted mask
Fits log harts most Crash = Unit {0}
Fits log harts most Start = Unit {0}

abbrev made : List Command → List Event
made [] = []
made (Steps hart count ∷ cs) = replicate count (events.Step hart) ++ made cs
made (Point hart ∷ cs) = made cs
made (Fence hart ∷ cs) = made cs
made (Enabled count ∷ cs) = made cs
made (Evict evicted mask ∷ cs) = events.Evict evicted mask ∷ made cs
made (Crash ∷ cs) = events.Crash ∷ made cs
made (Start ∷ cs) = events.Start ∷ made cs

made-with_step : (hart : ℕ) (cs : List Command) → made (with_step hart cs) ≡ events.Step hart ∷ made cs
made-with_step hart [] = refl
made-with_step hart (Point other ∷ cs) = refl
made-with_step hart (Fence other ∷ cs) = refl
made-with_step hart (Enabled count ∷ cs) = refl
made-with_step hart (Evict evicted mask ∷ cs) = refl
made-with_step hart (Crash ∷ cs) = refl
made-with_step hart (Start ∷ cs) = refl
made-with_step hart (Steps other count ∷ cs) = by (other == hart) refl
  where
    by : (b : Bool) → (other == hart) ≡ b → made (if b then Steps hart (count + 1) ∷ cs else Steps hart 1 ∷ Steps other count ∷ cs)
        ≡ events.Step hart ∷ (replicate count (events.Step other) ++ made cs)
    by true e =
        ap (λ n. replicate n (events.Step hart) ++ made cs) (add-one count)
        ∙ ap (λ h. events.Step hart ∷ (replicate count (events.Step h) ++ made cs)) (sym (eqb-true other hart e))
    by false e = refl

made-commands_of : (es : List Event) → made (commands_of es) ≡ es
made-commands_of [] = refl
made-commands_of (events.Step hart ∷ es) = made-with_step hart (commands_of es) ∙ ap (λ xs. events.Step hart ∷ xs) (made-commands_of es)
made-commands_of (events.Evict evicted mask ∷ es) = ap (λ xs. events.Evict evicted mask ∷ xs) (made-commands_of es)
made-commands_of (events.Crash ∷ es) = ap (λ xs. events.Crash ∷ xs) (made-commands_of es)
made-commands_of (events.Start ∷ es) = ap (λ xs. events.Start ∷ xs) (made-commands_of es)

module _ {M : Type 0} (b : Behaviour M) (log : Log) (harts most : ℕ) where
  -- of events after events
  starts_after : (m : M) (es more : List Event) → MayStart b m (es ++ more) → MayStart b (played b m es) more
  starts_after m [] more may = may
  starts_after m (e ∷ es) more may = starts_after (b.next m e) es more may.1

  script_made : (m : M) (place : ℕ) (cs : List Command) → AllByRecursion (Fits log harts most) cs → MayStart b m (made cs) →
      script_events b harts m (placed place cs) ≡ made cs
  script_made m place [] fit may = refl
  script_made m place (Steps hart count ∷ cs) fit may =
      ap (λ xs. replicate count (events.Step hart) ++ xs)
      (script_made (played b m (replicate count (events.Step hart))) (place + length (command_text (Steps hart count))) cs fit.1
      (starts_after m (replicate count (events.Step hart)) (made cs) may))
  script_made m place (Point hart ∷ cs) fit may = absurd fit.0
  script_made m place (Fence hart ∷ cs) fit may = absurd fit.0
  script_made m place (Enabled count ∷ cs) fit may = absurd fit.0
  script_made m place (Evict evicted mask ∷ cs) fit may =
      ap (λ xs. events.Evict evicted mask ∷ xs)
      (script_made (b.next m (events.Evict evicted mask)) (place + length (command_text (Evict evicted mask))) cs fit.1 may.1)
  script_made m place (Crash ∷ cs) fit may =
      ap (λ xs. events.Crash ∷ xs) (script_made (b.next m events.Crash) (place + length (command_text Crash)) cs fit.1 may.1)
  script_made m place (Start ∷ cs) fit may =
      ap (λ t. if not t then [] else events.Start ∷ script_events b harts (b.next m events.Start) (placed (place + length (command_text Start)) cs))
      (may.0 refl)
      ∙ ap (λ xs. events.Start ∷ xs) (script_made (b.next m events.Start) (place + length (command_text Start)) cs fit.1 may.1)

  -- a line that isn't refused, and for whose events there is room, is no fault
  goes : (m : M) (line : Line) (lines : List Line) (room : ℕ) → is_refused b m line.command ≡ false → length (line_events b harts m line.command) ≤ room →
      play_fault b harts m room (line ∷ lines)
      ≡ play_fault b harts (played b m (line_events b harts m line.command)) (room - length (line_events b harts m line.command)) lines
  goes m line lines room free fits =
      let within = le-ltb room (length (line_events b harts m line.command)) fits in
      ap (λ t. by t (is_refused b m line.command) t) within ∙ ap (λ t. by false t false) free
    where
      by : (past refused over : Bool) → Option PlayFault
      by past refused over =
          if past then Some (TooMany line.place) else if refused then Some (BadStart line.place) else if over then Some (PastFew line.place)
          else play_fault b harts (played b m (line_events b harts m line.command)) (room - length (line_events b harts m line.command)) lines

  faultless : (m : M) (place : ℕ) (cs : List Command) (room : ℕ) → AllByRecursion (Fits log harts most) cs → MayStart b m (made cs) → length (made cs) ≤ room →
      play_fault b harts m room (placed place cs) ≡ None
  faultless m place [] room fit may fits = refl
  faultless m place (Steps hart count ∷ cs) room fit may fits =
      let es = replicate count (events.Step hart) in
      let after = place + length (command_text (Steps hart count)) in
      let sum = length-append es (made cs) in
      goes m (record { place = place; command = Steps hart count }) (placed after cs) room refl (omega (arith, sum, fits))
      ∙ faultless (played b m es) after cs (room - length es) fit.1 (starts_after m es (made cs) may) (omega (arith, sum, fits))
  faultless m place (Point hart ∷ cs) room fit may fits = absurd fit.0
  faultless m place (Fence hart ∷ cs) room fit may fits = absurd fit.0
  faultless m place (Enabled count ∷ cs) room fit may fits = absurd fit.0
  faultless m place (Evict evicted mask ∷ cs) room fit may fits =
      let after = place + length (command_text (Evict evicted mask)) in
      goes m (record { place = place; command = Evict evicted mask }) (placed after cs) room refl (omega (arith, fits))
      ∙ faultless (b.next m (events.Evict evicted mask)) after cs (room - 1) fit.1 may.1 (omega (arith, fits))
  faultless m place (Crash ∷ cs) room fit may fits =
      let after = place + length (command_text Crash) in
      goes m (record { place = place; command = Crash }) (placed after cs) room refl (omega (arith, fits))
      ∙ faultless (b.next m events.Crash) after cs (room - 1) fit.1 may.1 (omega (arith, fits))
  faultless m place (Start ∷ cs) room fit may fits =
      let after = place + length (command_text Start) in
      goes m (record { place = place; command = Start }) (placed after cs) room (ap not (may.0 refl)) (omega (arith, fits))
      ∙ faultless (b.next m events.Start) after cs (room - 1) fit.1 may.1 (omega (arith, fits))

module _ (log : Log) (harts : ℕ) where
  fits_more : (most more : ℕ) → most ≤ more → (c : Command) → Fits log harts most c → Fits log harts more c
  fits_more most more h (Steps hart count) fit = (fit.0, let few = fit.1 in omega (arith, few, h))
  fits_more most more h (Point hart) fit = fit
  fits_more most more h (Fence hart) fit = fit
  fits_more most more h (Enabled count) fit = fit
  fits_more most more h (Evict evicted mask) fit = fit
  fits_more most more h Crash fit = fit
  fits_more most more h Start fit = fit

  all_fit_more : (most more : ℕ) → most ≤ more → (cs : List Command) → AllByRecursion (Fits log harts most) cs → AllByRecursion (Fits log harts more) cs
  all_fit_more most more h [] fit = tt
  all_fit_more most more h (c ∷ cs) fit = (fits_more most more h c fit.0, all_fit_more most more h cs fit.1)

  with_step_fits : (most hart : ℕ) → hart < harts → (cs : List Command) → AllByRecursion (Fits log harts most) cs →
      AllByRecursion (Fits log harts (suc most)) (with_step hart cs)
  with_step_fits most hart below [] fit = ((below, omega arith), tt)
  with_step_fits most hart below (Point other ∷ cs) fit = absurd fit.0
  with_step_fits most hart below (Fence other ∷ cs) fit = absurd fit.0
  with_step_fits most hart below (Enabled count ∷ cs) fit = absurd fit.0
  with_step_fits most hart below (Evict evicted mask ∷ cs) fit = ((below, omega arith), (fit.0, all_fit_more most (suc most) (omega arith) cs fit.1))
  with_step_fits most hart below (Crash ∷ cs) fit = ((below, omega arith), (tt, all_fit_more most (suc most) (omega arith) cs fit.1))
  with_step_fits most hart below (Start ∷ cs) fit = ((below, omega arith), (tt, all_fit_more most (suc most) (omega arith) cs fit.1))
  with_step_fits most hart below (Steps other count ∷ cs) fit = by (other == hart)
    where
      few : count ≤ most
      few = fit.0.1

      rest : AllByRecursion (Fits log harts (suc most)) cs
      rest = all_fit_more most (suc most) (omega arith) cs fit.1

      by : (b : Bool) → AllByRecursion (Fits log harts (suc most)) (if b then Steps hart (count + 1) ∷ cs else Steps hart 1 ∷ Steps other count ∷ cs)
      by true = ((below, omega (arith, few)), rest)
      by false = ((below, omega arith), ((fit.0.0, omega (arith, few)), rest))

  -- what may be asked where another life may begin, and is no start, may be asked at any time
  at_any_time : (e : Event) → IsValidNow harts (IsEviction log harts) true e → (e ≡ events.Start → ⊥) → IsValid harts (IsEviction log harts) e
  at_any_time e (inl valid) other = valid
  at_any_time e (inr start) other = absurd (other start.0)

  pub journal_fits : (es : List Event) → AllByRecursion (IsValidNow harts (IsEviction log harts) true) es →
      AllByRecursion (Fits log harts (length es)) (commands_of es)
  journal_fits [] valid = tt
  journal_fits (events.Step hart ∷ es) valid =
      with_step_fits (length es) hart (at_any_time (events.Step hart) valid.0 (λ e. cc e)) (commands_of es) (journal_fits es valid.1)
  journal_fits (events.Evict evicted mask ∷ es) valid = (
    at_any_time (events.Evict evicted mask) valid.0 (λ e. cc e),
    all_fit_more (length es) (suc (length es)) (omega arith) (commands_of es) (journal_fits es valid.1),
  )
  journal_fits (events.Crash ∷ es) valid = (tt, all_fit_more (length es) (suc (length es)) (omega arith) (commands_of es) (journal_fits es valid.1))
  journal_fits (events.Start ∷ es) valid = (tt, all_fit_more (length es) (suc (length es)) (omega arith) (commands_of es) (journal_fits es valid.1))

-- ---- Lines, byte by byte

-- the byte ends no line
abbrev Plain : ℕ → Type 0
Plain c = ((c == 10) ≡ false) × ((c == 13) ≡ false)

within_line : (c : ℕ) → Plain c → (cs : List ℕ) → begins_line_end (c ∷ cs) ≡ false
within_line c plain [] = plain.0
within_line c plain (d ∷ ds) = rw (plain.0, plain.1) refl

line_ends : (cs : List ℕ) → begins_line_end (10 ∷ cs) ≡ true
line_ends [] = refl
line_ends (d ∷ ds) = refl

at_end : (place c : ℕ) (cs : List ℕ) → begins_line_end (c ∷ cs) ≡ true → lines_at place (c ∷ cs) ≡ lines_at (place + 1) cs
at_end place c cs e = rw e refl

at_byte : (place c : ℕ) (cs : List ℕ) → begins_line_end (c ∷ cs) ≡ false →
    lines_at place (c ∷ cs) ≡ with_byte place c (begins_line_end cs) (lines_at (place + 1) cs)
at_byte place c cs e = rw e refl

-- a line that isn't empty comes first, and then the lines after it
first_line : (place c : ℕ) (cs rest : List ℕ) (after : ℕ) → place + length (c ∷ cs) + 1 ≡ after → AllByRecursion Plain (c ∷ cs) →
    lines_at place ((c ∷ cs) ++ 10 ∷ rest) ≡ record { place = place; bytes = c ∷ cs } ∷ lines_at after rest
first_line place c [] rest after is plain =
    let next : place + 1 + 1 ≡ after = omega (arith, is) in
    at_byte place c (10 ∷ rest) (within_line c plain.0 (10 ∷ rest))
    ∙ ap (λ b. with_byte place c b (lines_at (place + 1) (10 ∷ rest))) (line_ends rest)
    ∙ ap (λ ps. record { place = place; bytes = c ∷ [] } ∷ ps) (at_end (place + 1) 10 rest (line_ends rest) ∙ ap (λ n. lines_at n rest) next)
first_line place c (d ∷ ds) rest after is plain =
    let next : place + 1 + length (d ∷ ds) + 1 ≡ after = omega (arith, is) in
    at_byte place c (d ∷ (ds ++ 10 ∷ rest)) (within_line c plain.0 (d ∷ (ds ++ 10 ∷ rest)))
    ∙ ap (λ b. with_byte place c b (lines_at (place + 1) (d ∷ (ds ++ 10 ∷ rest)))) (within_line d plain.1.0 (ds ++ 10 ∷ rest))
    ∙ ap (with_byte place c false) (first_line (place + 1) d ds rest after next plain.1)

-- ---- Numbers

is_digit_of : (c : ℕ) → 48 ≤ c → c ≤ 57 → is_digit c ≡ true
is_digit_of c low high = rw (is_digit, lt-ltb 47 c (omega (arith, low)), lt-ltb c 58 (omega (arith, high))) refl

plain_digits : (ds : List ℕ) → AllDigits 10 ds → AllByRecursion Plain ds
plain_digits [] digits = tt
plain_digits (c ∷ cs) digits =
    let is = digit_from_value c digits.0 in let low : 48 ≤ c = is.0 in
    ((ne_eqb c 10 (λ e. omega (arith, e, low)), ne_eqb c 13 (λ e. omega (arith, e, low))), plain_digits cs digits.1)

-- what stands here begins with no digit
abbrev EndsNumber : List ℕ → Type 0
EndsNumber [] = Unit {0}
EndsNumber (c ∷ cs) = is_digit c ≡ false

digits_first : (ds rest : List ℕ) → AllDigits 10 ds → EndsNumber rest → prefix_len is_digit (ds ++ rest) ≡ length ds
digits_first [] [] digits ends = refl
digits_first [] (c ∷ cs) digits ends = rw ends refl
digits_first (c ∷ cs) rest digits ends =
    let is = digit_from_value c digits.0 in
    let more = digits_first cs rest digits.1 ends in rw (is_digit_of c is.0 is.1) (omega (arith, more))

abbrev chosen : (place : ℕ) → Bool → Option Fault → LineRead → LineRead
chosen place none refused goes = if none then Fails (BadWord place) else elim refused [ Some fault ↦ Fails fault | None ↦ goes ]

-- a number that is written out is read, where the rule has nothing against it
number_read : (rule : Rule) (place n : ℕ) (rest : List ℕ) (after : (number place : ℕ) → List ℕ → LineRead) → n < 2 ^ 64 → rule place n ≡ None →
    EndsNumber rest → number_then rule place (decimal n ++ rest) after ≡ after n (place + length (decimal n)) rest
number_read rule place n rest after small free ends =
    let numeral = decimal_is_IsNumeral n small in
    let text = decimal n ++ rest in
    let size : prefix_len is_digit text ≡ length (decimal n) = digits_first (decimal n) rest numeral.0.1 ends in
    let value : digits_value 10 (take (prefix_len is_digit text) text) ≡ n =
    ap (λ k. digits_value 10 (take k text)) size ∙ ap (digits_value 10) (take-append_seam (decimal n) rest) ∙ numeral.1 in
    let left : drop (prefix_len is_digit text) text ≡ rest = ap (λ k. drop k text) size ∙ drop-append_seam (decimal n) rest in
    let some : 0 < length (decimal n) = numeral.0.0 in
    let none : (prefix_len is_digit text == 0) ≡ false = ne_eqb (prefix_len is_digit text) 0 (λ e. omega (arith, e, size, some)) in
    let allowed : rule place (digits_value 10 (take (prefix_len is_digit text) text)) ≡ None = ap (rule place) value ∙ free in
    λ i. chosen place (none i) (allowed i) (after (value i) (place + size i) (left i))

-- ---- Whole lines

-- a line as it is written, without its end
abbrev body : Command → List ℕ
body (Steps hart count) = codes "s " ++ decimal hart ++ codes " " ++ decimal count
body (Point hart) = codes "b " ++ decimal hart
body (Fence hart) = codes "f " ++ decimal hart
body (Enabled count) = codes "g " ++ decimal count
body (Evict evicted mask) = codes "e " ++ decimal evicted ++ codes " " ++ decimal mask
body Crash = codes "c"
body Start = codes "r"

line_text : (c : Command) → command_text c ≡ line (body c)
unfolding command_text
line_text (Steps hart count) = refl
line_text (Point hart) = refl
line_text (Fence hart) = refl
line_text (Enabled count) = refl
line_text (Evict evicted mask) = refl
line_text Crash = refl
line_text Start = refl

-- two numbers, with a space between them
two_numbers : (a b : ℕ) → decimal a ++ codes " " ++ decimal b ≡ decimal a ++ 32 ∷ (decimal b ++ [])
two_numbers a b = append_assoc (decimal a) (codes " ") (decimal b) ∙ ap (λ xs. decimal a ++ 32 ∷ xs) (sym (append-nil (decimal b)))

lines_few : (log : Log) (harts : ℕ) → harts ≤ MOST_THREADS → line_count log harts ≤ 2048
lines_few log harts machine = by (schemes.size_of log)
  where
    by : (size : LogSize) → 1024 + schemes.lines_of size * harts ≤ 2048
    by Lines16 = omega (arith, machine)
    by Lines32 = omega (arith, machine)

under : (n lines : ℕ) → n < lines → lines ≤ 2048 → n < 4294967296
under n lines below most = omega (arith, below, most)

module _ (log : Log) (harts most : ℕ) (machine : harts ≤ MOST_THREADS) (few : most < 4294967296) where
  hart_allowed : (place hart : ℕ) → hart < harts → hart_number harts place hart ≡ None
  hart_allowed place hart below = rw (lt-ltb hart 4294967296 (omega (arith, below, machine)), lt-ltb hart harts below) refl

  count_allowed : (place count : ℕ) → count ≤ most → any_number place count ≡ None
  count_allowed place count within = rw (lt-ltb count 4294967296 (omega (arith, within, few))) refl

  line_small : (evicted : ℕ) → evicted < line_count log harts → evicted < 4294967296
  line_small evicted below = under evicted (line_count log harts) below (lines_few log harts machine)

  line_allowed : (place evicted : ℕ) → evicted < line_count log harts → line_number log harts place evicted ≡ None
  line_allowed place evicted below = rw (lt-ltb evicted 4294967296 (line_small evicted below), lt-ltb evicted (line_count log harts) below) refl

  mask_allowed : (place mask : ℕ) → mask ≤ 255 → mask_number place mask ≡ None
  mask_allowed place mask within = rw (le-leb mask 255 within) refl

  -- each line is read as what it was written for
  line_read : (place : ℕ) (c : Command) → Fits log harts most c → line_of log harts place (body c) ≡ Says c
  line_read place (Steps hart count) fit =
      let below : hart < harts = fit.0 in let within : count ≤ most = fit.1 in
      let ends : (h c : ℕ) (q : ℕ) → List ℕ → LineRead = λ h c q end. end_then q end (Steps h c) in
      let more : (h p : ℕ) → List ℕ → LineRead = λ h p after. argument_then any_number p after (ends h) in
      ap (λ xs. number_then (hart_number harts) (place + 1 + 1) xs more) (two_numbers hart count)
      ∙ number_read (hart_number harts) (place + 1 + 1) hart (32 ∷ (decimal count ++ [])) more (omega (arith, below, machine))
      (hart_allowed (place + 1 + 1) hart below) refl
      ∙ number_read any_number (place + 1 + 1 + length (decimal hart) + 1) count [] (ends hart) (omega (arith, within, few))
      (count_allowed (place + 1 + 1 + length (decimal hart) + 1) count within) tt
  line_read place (Point hart) fit = absurd fit
  line_read place (Fence hart) fit = absurd fit
  line_read place (Enabled count) fit = absurd fit
  line_read place (Evict evicted mask) fit =
      let below : evicted < line_count log harts = fit.0 in let within : mask ≤ 255 = fit.1 in
      let small : evicted < 4294967296 = line_small evicted below in
      let ends : (l m : ℕ) (q : ℕ) → List ℕ → LineRead = λ l m q end. end_then q end (Evict l m) in
      let more : (l p : ℕ) → List ℕ → LineRead = λ l p after. argument_then mask_number p after (ends l) in
      ap (λ xs. number_then (line_number log harts) (place + 1 + 1) xs more) (two_numbers evicted mask)
      ∙ number_read (line_number log harts) (place + 1 + 1) evicted (32 ∷ (decimal mask ++ [])) more (omega (arith, small))
      (line_allowed (place + 1 + 1) evicted below) refl
      ∙ number_read mask_number (place + 1 + 1 + length (decimal evicted) + 1) mask [] (ends evicted) (omega (arith, within))
      (mask_allowed (place + 1 + 1 + length (decimal evicted) + 1) mask within) tt
  line_read place Crash fit = refl
  line_read place Start fit = refl

  plain_both : (xs ys : List ℕ) → AllByRecursion Plain xs → AllByRecursion Plain ys → AllByRecursion Plain (xs ++ ys)
  plain_both [] ys left right = right
  plain_both (x ∷ xs) ys left right = (left.0, plain_both xs ys left.1 right)

  plain_numbers : (a b : ℕ) → a < 2 ^ 64 → b < 2 ^ 64 → AllByRecursion Plain (decimal a ++ codes " " ++ decimal b)
  plain_numbers a b small less =
      plain_both (decimal a ++ codes " ") (decimal b)
      (plain_both (decimal a) (codes " ") (plain_digits (decimal a) (decimal_is_IsNumeral a small).0.1) ((refl, refl), tt))
      (plain_digits (decimal b) (decimal_is_IsNumeral b less).0.1)

  -- a line that is written comes first, and then what is written after it
  line_first : (place : ℕ) (c : Command) (first : ℕ) (tail rest : List ℕ) → body c ≡ first ∷ tail → AllByRecursion Plain (first ∷ tail) →
      Fits log harts most c →
      lines_of log harts (lines_at place (command_text c ++ rest))
      ≡ before_lines (record { place = place; command = c }) (lines_of log harts (lines_at (place + length (command_text c)) rest))
  line_first place c first tail rest is plain fit =
      let text : command_text c ≡ line (first ∷ tail) = line_text c ∙ ap line is in
      let size = ap length text ∙ length-append (first ∷ tail) (10 ∷ []) in
      let after : place + length (first ∷ tail) + 1 ≡ place + length (command_text c) = omega (arith, size) in
      let says : line_of log harts place (first ∷ tail) ≡ Says c = ap (line_of log harts place) (sym is) ∙ line_read place c fit in
      ap (λ xs. lines_of log harts (lines_at place xs)) (ap (λ xs. xs ++ rest) text ∙ append_assoc (first ∷ tail) (10 ∷ []) rest)
      ∙ ap (lines_of log harts) (first_line place first tail rest (place + length (command_text c)) after plain)
      ∙ ap (λ r. with_line place r (lines_of log harts (lines_at (place + length (command_text c)) rest))) says

  lines_read : (place : ℕ) (cs : List Command) → AllByRecursion (Fits log harts most) cs →
      lines_of log harts (lines_at place (flat_map command_text cs)) ≡ Lines (placed place cs)
  lines_read place [] fit = refl
  lines_read place (c ∷ cs) fit =
      ap (λ xs. lines_of log harts (lines_at place xs)) (flat_map-cons command_text c cs) ∙ by c fit.0
      ∙ ap (before_lines (record { place = place; command = c })) (lines_read (place + length (command_text c)) cs fit.1)
    where
      by : (d : Command) → Fits log harts most d → lines_of log harts (lines_at place (command_text d ++ flat_map command_text cs))
          ≡ before_lines (record { place = place; command = d }) (lines_of log harts (lines_at (place + length (command_text d)) (flat_map command_text cs)))
      by (Steps hart count) f =
          let below : hart < harts = f.0 in let within : count ≤ most = f.1 in
          line_first place (Steps hart count) 115 (32 ∷ (decimal hart ++ codes " " ++ decimal count)) (flat_map command_text cs) refl
          ((refl, refl), ((refl, refl), plain_numbers hart count (omega (arith, below, machine)) (omega (arith, within, few)))) f
      by (Point hart) f = absurd f
      by (Fence hart) f = absurd f
      by (Enabled count) f = absurd f
      by (Evict evicted mask) f =
          let small : evicted < 4294967296 = line_small evicted f.0 in let within : mask ≤ 255 = f.1 in
          line_first place (Evict evicted mask) 101 (32 ∷ (decimal evicted ++ codes " " ++ decimal mask)) (flat_map command_text cs) refl
          ((refl, refl), ((refl, refl), plain_numbers evicted mask (omega (arith, small)) (omega (arith, within)))) f
      by Crash f = line_first place Crash 99 [] (flat_map command_text cs) refl ((refl, refl), tt) f
      by Start f = line_first place Start 114 [] (flat_map command_text cs) refl ((refl, refl), tt) f

-- ---- Whole journals

-- the lines that make events are read as such, and make these events at each core
pub journal_plays : {M : Type 0} (b : Behaviour M) → ArePlayedBack b
unfolding read
journal_plays b log harts es machine few valid =
    let fit = journal_fits log harts es (recursion_from_All (IsValidNow harts (IsEviction log harts) true) es valid) in record {
      lines = placed 0 (commands_of es);
      read_is = lines_read log harts (length es) machine few 0 (commands_of es) fit;
      events_are = λ m may.
          script_made b log harts (length es) m 0 (commands_of es) fit (subst (MayStart b m) (sym (made-commands_of es)) may) ∙ made-commands_of es;
      faultless = λ m may room fits.
          let same = ap length (made-commands_of es) in
          faultless b log harts (length es) m 0 (commands_of es) room fit (subst (MayStart b m) (sym (made-commands_of es)) may) (omega (arith, same, fits));
    }

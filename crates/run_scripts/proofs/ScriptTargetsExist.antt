-- What a script that is read asks for exists.
use Rattle.std.proofs.Common.{◌≡◌, ℕ, ◌+◌, ◌<◌, ◌≤◌, List, [], ◌∷◌, All, map, Bool, true, false, nat_lt, nat_le, Option, Some, None, refl, subst}
use Rattle.std.specs.Prelude.{◌==◌, if◌then◌else◌}
use Rattle.std.specs.List.{AllByRecursion, prefix_len}
use Rattle.std.proofs.lemmas.Bool.{ltb-true, leb-true}
use Rattle.log_schemes.specs.declared.log.Log.{Log}
use Rattle.log_schemes.specs.Layout.{line_count}
use Rattle.run_scripts.specs.Pieces.{Piece, lines_at}
use Rattle.run_scripts.specs.Schedules.{is_digit, number_limit}
use Rattle.run_scripts.specs.Scripts.{Fault, LineRead, Says, Fails, Rule, any_number, hart_number, line_number, mask_number}
use Rattle.run_scripts.specs.Scripts.{number_then, argument_then, end_then, steps_line, enabled_line, evict_line, line_of, Line, Read}
use Rattle.run_scripts.specs.Scripts.{Lines, Refused, before_lines, with_line, lines_of, read, IsDoable, IsEviction}
use Rattle.run_scripts.specs.declared.script.Command.{Command}
use Rattle.run_scripts.specs.declared.script.Line as declared
use Rattle.run_scripts.specs.links.ScriptViews.{line_of as shown}
use Rattle.std.proofs.lemmas.List.Elements.{All-from_recursion}
use Rattle.run_scripts.specs.declared.script.Command.TheVariants.{Steps, Point, Fence, Enabled, Evict, Crash, Start}

-- ---- Numbers that aren't refused

kept : (b : Bool) (x : Option Fault) (f : Fault) → (if b then x else Some f) ≡ None → (b ≡ true) × (x ≡ None)
kept true x f e = (refl, e)
kept false x f e = cc

hart_fits : (harts place n : ℕ) → hart_number harts place n ≡ None → n < harts
hart_fits harts place n e =
    let inner = kept (nat_lt n number_limit) _ _ e in
    ltb-true n harts (kept (nat_lt n harts) _ _ inner.1).0

line_fits : (log : Log) (harts place n : ℕ) → line_number log harts place n ≡ None → n < line_count log harts
line_fits log harts place n e =
    let inner = kept (nat_lt n number_limit) _ _ e in
    ltb-true n (line_count log harts) (kept (nat_lt n (line_count log harts)) _ _ inner.1).0

mask_fits : (place n : ℕ) → mask_number place n ≡ None → n ≤ 255
mask_fits place n e = leb-true n 255 (kept (nat_le n 255) _ _ e).0

-- ---- A number that is read

-- the rule didn't refuse it, and what comes after it says the command
record Taken (rule : Rule) (after : (number place : ℕ) → List ℕ → LineRead) (x : Command) : Type 0 where
  place : ℕ
  number : ℕ
  next : ℕ
  rest : List ℕ
  fits : rule place number ≡ None
  says : after number next rest ≡ Says x

chosen : (b : Bool) (f : Fault) (o : Option Fault) (y : LineRead) (x : Command) → (if b then Fails f else elim o [ Some g ↦ Fails g | None ↦ y ]) ≡ Says x →
    (o ≡ None) × (y ≡ Says x)
chosen true f o y x e = cc
chosen false f (Some g) y x e = cc
chosen false f None y x e = (refl, e)

number_taken : (rule : Rule) (place : ℕ) (bytes : List ℕ) (after : (number place : ℕ) → List ℕ → LineRead) (x : Command) →
    number_then rule place bytes after ≡ Says x → Taken rule after x
number_taken rule place bytes after x e =
    let both = chosen (prefix_len is_digit bytes == 0) _ _ _ x e in
    record { place = place; number = _; next = _; rest = _; fits = both.0; says = both.1 }

spaced : (b : Bool) (y : LineRead) (f : Fault) (x : Command) → (if b then y else Fails f) ≡ Says x → y ≡ Says x
spaced true y f x e = e
spaced false y f x e = cc

argument_taken : (rule : Rule) (place : ℕ) (bytes : List ℕ) (after : (number place : ℕ) → List ℕ → LineRead) (x : Command) →
    argument_then rule place bytes after ≡ Says x → Taken rule after x
argument_taken rule place [] after x e = cc
argument_taken rule place (c ∷ cs) after x e = number_taken rule (place + 1) cs after x (spaced (c == 32) _ _ x e)

ended : (place : ℕ) (bytes : List ℕ) (y x : Command) → end_then place bytes y ≡ Says x → y ≡ x
ended place [] y x e = said y x e
  where
    said : (y x : Command) → Says y ≡ Says x → y ≡ x
    said y x e = cc
ended place (c ∷ cs) y x e = cc

-- ---- A line that is read

module _ (log : Log) (harts : ℕ) where
  Doable : Command → Type 0
  Doable = IsDoable harts (IsEviction log harts)

  one_line : (make : ℕ → Command) (place : ℕ) (bytes : List ℕ) (x : Command) → ((n : ℕ) → n < harts → IsDoable harts (IsEviction log harts) (make n)) →
      argument_then (hart_number harts) place bytes (λ hart p after. end_then p after (make hart)) ≡ Says x → IsDoable harts (IsEviction log harts) x
  one_line make place bytes x given e =
      let hart = argument_taken (hart_number harts) place bytes (λ hart p after. end_then p after (make hart)) x e in
      subst (IsDoable harts (IsEviction log harts)) (ended hart.next hart.rest (make hart.number) x hart.says)
      (given hart.number (hart_fits harts hart.place hart.number hart.fits))

  steps_doable : (place : ℕ) (bytes : List ℕ) (x : Command) → steps_line harts place bytes ≡ Says x → IsDoable harts (IsEviction log harts) x
  steps_doable place bytes x e =
      let hart = argument_taken (hart_number harts) place bytes
      (λ hart p after. argument_then any_number p after (λ count q end. end_then q end (Steps hart count))) x e in
      let count = argument_taken any_number hart.next hart.rest (λ count q end. end_then q end (Steps hart.number count)) x hart.says in
      subst (IsDoable harts (IsEviction log harts)) (ended count.next count.rest (Steps hart.number count.number) x count.says)
      (hart_fits harts hart.place hart.number hart.fits)

  enabled_doable : (place : ℕ) (bytes : List ℕ) (x : Command) → enabled_line place bytes ≡ Says x → IsDoable harts (IsEviction log harts) x
  enabled_doable place bytes x e =
      let count = argument_taken any_number place bytes (λ count p after. end_then p after (Enabled count)) x e in
      subst (IsDoable harts (IsEviction log harts)) (ended count.next count.rest (Enabled count.number) x count.says) tt

  evict_doable : (place : ℕ) (bytes : List ℕ) (x : Command) → evict_line log harts place bytes ≡ Says x → IsDoable harts (IsEviction log harts) x
  evict_doable place bytes x e =
      let line = argument_taken (line_number log harts) place bytes
      (λ line p after. argument_then mask_number p after (λ mask q end. end_then q end (Evict line mask))) x e in
      let mask = argument_taken mask_number line.next line.rest (λ mask q end. end_then q end (Evict line.number mask)) x line.says in
      subst (IsDoable harts (IsEviction log harts)) (ended mask.next mask.rest (Evict line.number mask.number) x mask.says)
      (line_fits log harts line.place line.number line.fits, mask_fits mask.place mask.number mask.fits)

  either : (b : Bool) (y z : LineRead) (x : Command) → (y ≡ Says x → IsDoable harts (IsEviction log harts) x) →
      (z ≡ Says x → IsDoable harts (IsEviction log harts) x) →
      (if b then y else z) ≡ Says x → IsDoable harts (IsEviction log harts) x
  either true y z x one other e = one e
  either false y z x one other e = other e

  line_doable : (place : ℕ) (bytes : List ℕ) (x : Command) → line_of log harts place bytes ≡ Says x → IsDoable harts (IsEviction log harts) x
  line_doable place [] x e = cc
  line_doable place (c ∷ cs) x e =
      either (c == 115) _ _ x (steps_doable (place + 1) cs x)
      (either (c == 98) _ _ x (one_line Point (place + 1) cs x (λ n h. h))
      (either (c == 102) _ _ x (one_line Fence (place + 1) cs x (λ n h. h))
      (either (c == 103) _ _ x (enabled_doable (place + 1) cs x)
      (either (c == 101) _ _ x (evict_doable (place + 1) cs x)
      (either (c == 99) _ _ x (λ s. subst (IsDoable harts (IsEviction log harts)) (ended (place + 1) cs Crash x s) tt)
      (either (c == 114) _ _ x (λ s. subst (IsDoable harts (IsEviction log harts)) (ended (place + 1) cs Start x s) tt) (λ s. cc))))))) e

  -- ---- All lines

  line_first : (line : Line) (got : Read) (xs : List Line) → before_lines line got ≡ Lines xs → (ls : List Line) × (got ≡ Lines ls) × (line ∷ ls ≡ xs)
  line_first line (Lines ls) xs e = (ls, refl, inner (line ∷ ls) xs e)
    where
      inner : (a b : List Line) → Lines a ≡ Lines b → a ≡ b
      inner a b h = cc
  line_first line (Refused f) xs e = cc

  said_first : (place : ℕ) (said : LineRead) (got : Read) (xs : List Line) → with_line place said got ≡ Lines xs →
      (command : Command) × (said ≡ Says command) × (before_lines (record { place = place; command = command }) got ≡ Lines xs)
  said_first place (Says command) got xs e = (command, refl, e)
  said_first place (Fails f) got xs e = cc

  pub lines_doable : (ps : List Piece) (xs : List Line) → lines_of log harts ps ≡ Lines xs →
      AllByRecursion (λ (l : Line). IsDoable harts (IsEviction log harts) l.command) xs
  lines_doable [] [] e = tt
  lines_doable [] (x ∷ xs) e = cc
  lines_doable (p ∷ ps) xs e =
      let said = said_first p.place (line_of log harts p.place p.bytes) (lines_of log harts ps) xs e in
      let first = line_first (record { place = p.place; command = said.0 }) (lines_of log harts ps) xs said.2 in
      subst (AllByRecursion (λ (l : Line). IsDoable harts (IsEviction log harts) l.command)) first.2
      (line_doable p.place p.bytes said.0 said.1, lines_doable ps first.0 first.1)

shown_doable : (P : Command → Type 0) (items : List declared.Line) → AllByRecursion (λ (l : Line). P l.command) (map shown items) →
    AllByRecursion (λ (l : declared.Line). P l.command) items
shown_doable P [] h = tt
shown_doable P (x ∷ xs) h = (h.0, shown_doable P xs h.1)

pub script_doable : (log : Log) (harts : ℕ) (text : List ℕ) (items : List declared.Line) → read log harts text ≡ Lines (map shown items) →
    All (λ (l : declared.Line). IsDoable harts (IsEviction log harts) l.command) items
unfolding read
script_doable log harts text items e =
    All-from_recursion (λ (l : declared.Line). IsDoable harts (IsEviction log harts) l.command) items
    (shown_doable (IsDoable harts (IsEviction log harts)) items (lines_doable log harts (lines_at 0 text) (map shown items) e))

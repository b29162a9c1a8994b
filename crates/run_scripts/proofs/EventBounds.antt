-- How many events lines make at most, and that a script's faults are the same above that.
use Rattle.std.proofs.Common.{◌≡◌, ℕ, zero, suc, ◌+◌, ◌-◌, ◌<◌, ◌≤◌, List, [], ◌∷◌, ◌++◌, length, map, min, nat_lt, take, get_or}
use Rattle.std.proofs.Common.{Bool, true, false, if◌then◌else◌, Option, Some, None, refl, sym, arith, ap, ◌∙◌, length-append}
use Rattle.std.proofs.lemmas.Bool.{le-ltb, ltb-false, ltb-true}
use Rattle.std.proofs.lemmas.List.{length-replicate, map-append, take_more}
use Rattle.machine_events.specs.declared.event.Event.{Event}
use Rattle.machine_events.specs.declared.event.Event.TheVariants.{Step}
use Rattle.machine_events.specs.Cores.{Behaviour, played, least_enabled}
use Rattle.ido_base.specs.declared.limits.TheConstants.{MOST_STEPS_TO}
use Rattle.run_scripts.specs.Bounds.{line_bound, lines_bound}
use Rattle.run_scripts.specs.declared.script.Command.{Command}
use Rattle.run_scripts.specs.declared.script.Command.TheVariants.{Steps, Point, Fence, Enabled, Evict, Crash, Start}
use Rattle.run_scripts.specs.Plays.{PlayFault, TooMany, BadStart, PastFew, steps_until, enabled_steps, is_refused, line_events}
use Rattle.run_scripts.specs.Plays.{play_fault, script_events}
use Rattle.run_scripts.specs.Scripts.{Line}
use Rattle.run_scripts.specs.declared.script.Line as declared
use Rattle.run_scripts.specs.links.ScriptViews.{line_of}

module _ {M : Type 0} (b : Behaviour M) where
  until_few : (test : M → Event → Bool) (hart most : ℕ) (m : M) → length (steps_until b test hart most m) ≤ most
  unfolding steps_until
  until_few test hart zero m = omega arith
  until_few test hart (suc most) m = by_tests (until_few test hart most (b.next m (Step hart))) (b.is_stopped m hart) (test m (Step hart))
    where
      by_tests : length (steps_until b test hart most (b.next m (Step hart))) ≤ most → (stopped reached : Bool) →
          length (if stopped then [] else if reached then Step hart ∷ [] else Step hart ∷ steps_until b test hart most (b.next m (Step hart))) ≤ suc most
      by_tests few true reached = omega arith
      by_tests few false true = omega arith
      by_tests few false false = omega (arith, few)

  enabled_few : (harts most : ℕ) (m : M) → length (enabled_steps b harts most m) ≤ most
  unfolding enabled_steps
  enabled_few harts zero m = omega arith
  enabled_few harts (suc most) m = by_hart (λ hart. enabled_few harts most (b.next m (Step hart))) (least_enabled b m harts)
    where
      by_hart : ((hart : ℕ) → length (enabled_steps b harts most (b.next m (Step hart))) ≤ most) → (least : Option ℕ) →
          length {A = Event} (elim least [ None ↦ [] | Some hart ↦ Step hart ∷ enabled_steps b harts most (b.next m (Step hart)) ]) ≤ suc most
      by_hart more None = omega arith
      by_hart more (Some hart) = let few = more hart in omega (arith, few)

  line_few : (harts : ℕ) (m : M) (command : Command) → length (line_events b harts m command) ≤ line_bound command
  line_few harts m (Steps hart count) = let few = length-replicate count (Step hart) in omega (arith, few)
  line_few harts m (Point hart) = until_few (λ n. b.stores_point n hart) hart MOST_STEPS_TO m
  line_few harts m (Fence hart) = until_few (λ n. b.finishes_fence n hart) hart MOST_STEPS_TO m
  line_few harts m (Enabled count) = enabled_few harts count m
  line_few harts m (Evict line mask) = omega arith
  line_few harts m Crash = omega arith
  line_few harts m Start = omega arith

  pub events_few : (harts : ℕ) (m : M) (lines : List Line) → length (script_events b harts m lines) ≤ lines_bound lines
  events_few harts m [] = omega arith
  events_few harts m (line ∷ lines) = by_start (is_refused b m line.command) (events_few harts (played b m es) lines)
    where
      es : List Event
      es = line_events b harts m line.command

      rest : List Event
      rest = script_events b harts (played b m es) lines

      by_start : (refused : Bool) → length rest ≤ lines_bound lines →
          length (if refused then [] else es ++ rest) ≤ line_bound line.command + lines_bound lines
      by_start true more = omega arith
      by_start false more =
          let here = line_few harts m line.command in
          let sum = length-append es rest in
          omega (arith, here, more, sum)

  -- a room that is as much as lines make at most finds what any greater one does
  same_fault : (harts : ℕ) (m : M) (room other : ℕ) (lines : List Line) → lines_bound lines ≤ room → lines_bound lines ≤ other →
      play_fault b harts m room lines ≡ play_fault b harts m other lines
  same_fault harts m room other [] fits also = refl
  same_fault harts m room other (line ∷ lines) fits also =
      let n = length es in
      let here = line_few harts m line.command in
      let under : n ≤ room = omega (arith, here, fits) in
      let below : n ≤ other = omega (arith, here, also) in
      ap (λ t. fault_by t t (after room)) (le-ltb room n under)
      ∙ ap (fault_by false false) (same_fault harts (played b m es) (room - n) (other - n) lines (omega (arith, here, fits)) (omega (arith, here, also)))
      ∙ sym (ap (λ t. fault_by t t (after other)) (le-ltb other n below))
    where
      es : List Event
      es = line_events b harts m line.command

      after : ℕ → Option PlayFault
      after n = play_fault b harts (played b m es) (n - length es) lines

      fault_by : (past over : Bool) → Option PlayFault → Option PlayFault
      fault_by past over more =
          if past then Some (TooMany line.place) else if is_refused b m line.command then Some (BadStart line.place)
          else if over then Some (PastFew line.place) else more

  -- so does one that is as much as that or a limit, whichever is less
  pub fault_by_bound : (harts : ℕ) (m : M) (room limit : ℕ) (lines : List Line) → room ≡ min limit (lines_bound lines) →
      play_fault b harts m room lines ≡ play_fault b harts m limit lines
  fault_by_bound harts m room limit lines is = by (nat_lt limit (lines_bound lines)) refl
    where
      by : (past : Bool) → nat_lt limit (lines_bound lines) ≡ past → play_fault b harts m room lines ≡ play_fault b harts m limit lines
      by true e =
          let over = ltb-true limit (lines_bound lines) e in
          let same : room ≡ limit = omega (arith, is, over) in
          ap (λ n. play_fault b harts m n lines) same
      by false e =
          let under = ltb-false limit (lines_bound lines) e in
          same_fault harts m room limit lines (omega (arith, is, under)) under

-- lines up to one, and that one
taken_more : (items : List declared.Line) (i : ℕ) (d : declared.Line) → i < length items →
    map line_of (take (i + 1) items) ≡ map line_of (take i items) ++ line_of (get_or items i d) ∷ []
taken_more items i d within = ap (map line_of) (take_more items i d within) ∙ map-append line_of (take i items) (get_or items i d ∷ [])

bound_snoc : (lines : List Line) (line : Line) → lines_bound (lines ++ line ∷ []) ≡ lines_bound lines + line_bound line.command
bound_snoc [] line = omega arith
bound_snoc (l ∷ ls) line = let more = bound_snoc ls line in omega (arith, more)

-- of lines up to one, and that one
pub bound_more : (items : List declared.Line) (i : ℕ) (d : declared.Line) → i < length items →
    lines_bound (map line_of (take (i + 1) items)) ≡ lines_bound (map line_of (take i items)) + line_bound (line_of (get_or items i d)).command
bound_more items i d within = ap lines_bound (taken_more items i d within) ∙ bound_snoc (map line_of (take i items)) (line_of (get_or items i d))

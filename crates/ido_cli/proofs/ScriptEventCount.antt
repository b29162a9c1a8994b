-- How many events the lines of a script make.
use Rattle.std.proofs.Common.{◌≡◌, refl, ℕ, ◌-◌, ◌≤◌, List, [], ◌∷◌, ◌++◌, length}
use Rattle.std.proofs.Common.{Bool, true, false, Option, Some, None, arith, length-append, nat_lt}
use Rattle.std.specs.Prelude.{if◌then◌else◌}
use Rattle.std.proofs.lemmas.Bool.{ltb-false}
use Rattle.machine_events.specs.Cores.{Behaviour, played}
use Rattle.machine_events.specs.declared.event.Event.{Event}
use Rattle.run_scripts.specs.Plays.{PlayFault, TooMany, BadStart, PastFew, fault_within, is_refused, line_events, script_events}
use Rattle.run_scripts.specs.Scripts.{Line}

-- ---- How many events there are

-- where no fault is found, there is room for all
pub events_fit : {M : Type 0} (b : Behaviour M) (harts : ℕ) (m : M) (room few : ℕ) (lines : List Line) → fault_within b harts m room few lines ≡ None →
    length (script_events b harts m lines) ≤ room
events_fit b harts m room few [] none = omega arith
events_fit {M = M} b harts m room few (line ∷ lines) none =
    by (nat_lt room (length own)) refl (is_refused b m line.command) (nat_lt few (length own)) none
    (λ found. events_fit b harts next (room - length own) (few - length own) lines found)
  where
    own : List Event
    own = line_events b harts m line.command

    next : M
    next = played b m own

    rest : Option PlayFault
    rest = fault_within b harts next (room - length own) (few - length own) lines

    by : (past : Bool) → nat_lt room (length own) ≡ past → (refused over : Bool) →
        (if past then Some (TooMany line.place) else if refused then Some (BadStart line.place) else if over then Some (PastFew line.place) else rest) ≡ None →
        (rest ≡ None → length (script_events b harts next lines) ≤ room - length own) →
        length (if refused then [] else own ++ script_events b harts next lines) ≤ room
    by true e refused over found more = cc
    by false e true over found more = omega arith
    by false e false true found more = cc
    by false e false false found more =
        let within : length own ≤ room = ltb-false room (length own) e in
        let others = more found in
        omega (arith, within, others, length-append own (script_events b harts next lines))

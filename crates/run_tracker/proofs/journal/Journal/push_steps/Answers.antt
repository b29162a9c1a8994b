use Rattle.std.proofs.Common.{◌≡◌, ℕ, ◌+◌, ◌++◌, List, flat_map, replicate, sym, ap, subst, ◌∙◌}
use Rattle.std.proofs.lemmas.List.{append_assoc, replicate-append-replicate}
use Rattle.std.specs.Vec.{vec_capacity}
use Rattle.machine_events.specs.declared.event.Event.{Event}
use Rattle.machine_events.specs.declared.event.Event.TheVariants.{Step}
use Rattle.run_tracker.specs.links.Journals.{Recorded, events_in, recorded}
use Rattle.run_tracker.proofs.journal.Journal.push_steps.Goals as goal

pub returns-then-self-count : goal.returns-then-self-count
returns-then-self-count c =
    let journal = c.self.inside in
    let count = c.args.count in
    let before : List Event = flat_map events_in journal.entries.items in
    let run : ℕ → List Event = λ n. replicate n (Step journal.hart) in
    let made : List Event → Recorded = λ events. record { events = events; room = vec_capacity journal.entries } in
    subst (λ (x : Recorded). recorded (record journal { steps = journal.steps + count })
    ≡ record { events = x.events ++ replicate count (Step c.args.hart); room = x.room }) c.self.view_is
    (ap (λ (events : List Event). made (before ++ events)) (sym (replicate-append-replicate journal.steps count (Step journal.hart)))
    ∙ ap made (sym (append_assoc before (run journal.steps) (run count)))
    ∙ ap (λ (h : ℕ). made ((before ++ run journal.steps) ++ replicate count (Step h))) (sym c.if-hart-self.true))

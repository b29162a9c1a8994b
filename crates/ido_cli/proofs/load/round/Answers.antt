use Rattle.std.proofs.Common.{◌≡◌, ℕ, ◌⊎◌, ◌<◌, ◌≤◌, ◌+◌, true, false, [], length, refl, ap, sym, ◌∙◌, ◌∷◌, ◌-◌, subst, arith, inl, inr, rules, length-append}
use Rattle.std.proofs.lemmas.Bool.{ltb-false, ltb-true}
use Rattle.machine_events.specs.declared.event.Event.TheVariants.{Step}
use Rattle.run_tracker.specs.ObjectLives.{Course, LifeConfig, opening_of, with_event}
use Rattle.ido_cli.specs.ThreadedRuns.{is_stopped_after}
use Rattle.ido_cli.specs.links.LegRuns.{IsQuiet, LeadsTo, quiet, stopped}
use Rattle.ido_cli.proofs.RoundRuns.{ends_quiet, goes_more, leads_none, leads_round, past_leads, past_quiet, step_leads, step_more, stopped_is}
use Rattle.ido_cli.proofs.load.round.Goals.{then-events-lt-MOST_LEG_EVENTS+then-not-stopped, else-events-lt-MOST_LEG_EVENTS}
use Rattle.ido_cli.proofs.load.round.Goals.{else-events-lt-MOST_LEG_EVENTS-via-then-events-lt-MOST_LEG_EVENTS+else-not-stopped}
use Rattle.ido_cli.proofs.load.round.Goals.{else-events-lt-MOST_LEG_EVENTS-via-else-events-lt-MOST_LEG_EVENTS}
use Rattle.ido_cli.proofs.load.round.Goals as goal

pub loop-hart-init : goal.loop-hart-init
loop-hart-init c = record {
  opening = refl;
  room = refl;
  end = c.harts-hart-end.ensures;
  leads = leads_none (opening_of c.args.life.now) 0 c.args.life.now.journal;
  quiet = quiet refl (stopped (λ h below. absurd (omega (arith, below))));
}

pub event-requires-clause-valid : goal.event-requires-clause-valid
event-requires-clause-valid c =
    let inv = c.loop-hart.invariant in
    inl (omega (arith, c.loop-hart-test.true, inv.end, ap (λ (m : LifeConfig). length m.runs.program) inv.opening))

pub loop-hart-preserved : goal.loop-hart-preserved
loop-hart-preserved c =
    let old = c.args.life.now in
    let life = c.loop-hart.life in
    let k = c.loop-hart.hart in
    let inv = c.loop-hart.invariant in
    let m = opening_of old in
    let now = c.if-events-lt-MOST_LEG_EVENTS.life in
    let within : k < length old.runs.program = omega (arith, c.loop-hart-test.true, inv.end) in
    elim c.if-events-lt-MOST_LEG_EVENTS.branch [
      | then-events-lt-MOST_LEG_EVENTS+then-not-stopped w ↦
          let is : now ≡ with_event life (Step k) = w.life-is ∙ w.event.ensures.life in
          let few : length life.journal < 3999000 = omega (arith, w.if-events-lt-MOST_LEG_EVENTS, c.events.ensures) in
          let no : w.stopped.result ≡ false = search (rules, w.if-not-stopped) in
          let goes : is_stopped_after m life.journal k ≡ false = stopped_is life m k inv.opening ∙ sym w.stopped.ensures ∙ no in
          let long = ap (λ (x : Course). length x.journal) is ∙ length-append life.journal (Step k ∷ []) in
          let cap = ap (λ (x : Course). x.cap) is in
          record {
            opening = ap opening_of is ∙ inv.opening;
            room = omega (arith, long, cap, few, inv.room, c.requires);
            end = inv.end;
            leads = subst (λ (x : Course). LeadsTo m 0 old.journal (k + 1) x.journal) (sym is)
                (step_leads m old.journal life.journal k inv.leads inv.quiet within goes few);
            quiet = subst (λ (x : Course). IsQuiet m old.journal (k + 1) x.journal) (sym is) (step_more m old.journal life.journal k inv.leads inv.quiet few);
          }
      | else-events-lt-MOST_LEG_EVENTS w ↦
          let stop : (3999000 ≤ length life.journal) ⊎ (is_stopped_after m life.journal k ≡ true) =
          elim w.else-events-lt-MOST_LEG_EVENTS.branch [
            | else-events-lt-MOST_LEG_EVENTS-via-then-events-lt-MOST_LEG_EVENTS+else-not-stopped v ↦
                let yes : v.stopped.result ≡ true = search (rules, v.if-not-stopped) in
                inr (stopped_is life m k inv.opening ∙ sym v.stopped.ensures ∙ yes)
            | else-events-lt-MOST_LEG_EVENTS-via-else-events-lt-MOST_LEG_EVENTS v ↦ inl (omega (arith, v.if-events-lt-MOST_LEG_EVENTS, c.events.ensures))
          ] in
          record {
            opening = ap opening_of w.life-is ∙ inv.opening;
            room = ap (λ (x : Course). length x.journal + (x.cap - length x.journal)) w.life-is ∙ inv.room;
            end = inv.end;
            leads = subst (λ (x : Course). LeadsTo m 0 old.journal (k + 1) x.journal) (sym w.life-is)
                (past_leads m old.journal life.journal k inv.leads inv.quiet within stop);
            quiet = subst (λ (x : Course). IsQuiet m old.journal (k + 1) x.journal) (sym w.life-is)
                (past_quiet m old.journal life.journal k inv.leads inv.quiet stop);
          }
    ]

pub returns-clause-leads : goal.returns-clause-leads
returns-clause-leads c =
    let old = c.args.life.now in
    let inv = c.loop-hart.invariant in
    let all : c.loop-hart.hart ≡ length old.runs.program = omega (arith, c.loop-hart-test.false, inv.end, c.loop-hart.auto.hart-end) in
    leads_round (opening_of old) 0 old.journal c.loop-hart.life.journal
    (subst (λ (k : ℕ). LeadsTo (opening_of old) 0 old.journal k c.loop-hart.life.journal) all inv.leads)

pub returns-clause-ends : goal.returns-clause-ends
returns-clause-ends c = λ none.
    let old = c.args.life.now in
    let inv = c.loop-hart.invariant in
    let all : c.loop-hart.hart ≡ length old.runs.program = omega (arith, c.loop-hart-test.false, inv.end, c.loop-hart.auto.hart-end) in
    ends_quiet (opening_of old) old.journal c.loop-hart.life.journal
    (subst (λ (k : ℕ). IsQuiet (opening_of old) old.journal k c.loop-hart.life.journal) all inv.quiet)
    (omega (arith, ltb-false c.events-before.result c.events-2.result none, c.events-before.ensures, c.events-2.ensures))

pub returns-clause-goes_on : goal.returns-clause-goes_on
returns-clause-goes_on c = λ some.
    let old = c.args.life.now in
    let inv = c.loop-hart.invariant in
    goes_more (opening_of old) old.journal c.loop-hart.life.journal c.loop-hart.hart inv.quiet
    (omega (arith, ltb-true c.events-before.result c.events-2.result some, c.events-before.ensures, c.events-2.ensures))

use Rattle.std.proofs.Common.{◌+◌, ℕ, refl, subst}
use Rattle.ido_cli.proofs.LegRuns.{IsLifeDriven, all_run, begins_between, between_more}
use Rattle.ido_cli.proofs.live.run_legs.Goals as goal

pub loop-word-init : goal.loop-word-init
loop-word-init g c = begins_between c.args.turns c.args.crashes.now c.args.run c.args.run refl c.requires.begins c.requires.can

pub loop-word-preserved : goal.loop-word-preserved
loop-word-preserved g c =
    let now = c.loop-word in
    between_more c.args.turns c.args.crashes.now c.args.run now.word-index now.most now.run now.invariant c.requires.can c.loop-word-test.true c.in_ok-run.run'
    c.in_ok-run.ensures (now.most + 1) refl

pub returns : goal.returns
returns g c =
    let now = c.loop-word in
    let left = c.in_ok-driven.driven in
    all_run c.args.turns c.args.crashes.now c.args.run now.word-index now.most now.run now.invariant c.requires.can c.loop-word-test.false left.core
    left.stops.items left.evict
    (subst (λ (t : ℕ). IsLifeDriven now.run.life t now.most now.run.evict left.core left.stops.items left.evict) c.from.ensures c.in_ok-driven.ensures)

use Rattle.std.proofs.Common.{◌≡◌, ℕ, ◌-◌, min, [], ◌++◌, ◌∙◌, ap, subst, arith}
use Rattle.machine_events.specs.Cores.{played}
use Rattle.run_scripts.specs.Rounds.{AreAllStopped, AreWholeRounds, IsOneGoing, all_stopped, none_left, round_of}
use Rattle.run_scripts.proofs.RoundsMade.{has_rounds, leads_more}
use Rattle.run_scripts.proofs.rounds.make_rounds.Goals as goal

pub loop-left-preserved : goal.loop-left-preserved
loop-left-preserved g c =
    let b = g.C.Core.behaviour in
    let harts = g.C.Core.hart_count c.args.core.now in
    let opening = g.C.Core.opening c.args.core.now in
    let before = g.C.Core.history c.args.core.now in
    let now = g.C.Core.history c.loop-left.core in
    let new = g.C.Core.history c.step_each.new.core in
    let left = c.loop-left.left in
    let inv = c.loop-left.invariant in
    let going : IsOneGoing b harts (played b opening now) =
    subst (λ (n : ℕ). IsOneGoing b n (played b opening now)) inv.1
    (subst (λ m. IsOneGoing b (g.C.Core.hart_count c.loop-left.core) (played b m now)) inv.0 c.if-not-all_stopped.ensures) in
    let count : c.min-count.result ≡ min left harts = c.min-count.ensures ∙ ap (min left) (c.from.ensures ∙ c.harts.ensures ∙ inv.1) in
    let many : c.from-left.result ≡ min left harts = c.from-left.ensures ∙ count in
    let made : new ≡ now ++ round_of (min left harts) = c.step_each.ensures.history ∙ ap (λ (n : ℕ). now ++ round_of n) count in (
      c.step_each.ensures.opening ∙ inv.0,
      c.step_each.ensures.harts ∙ inv.1,
      omega (arith, c.step_each.ensures.room, inv.2, c.from-left.ensures),
      leads_more b harts c.args.most opening before left (left - c.from-left.result) now new inv.3 (omega (arith, c.loop-left-test.true)) going made
          (ap (λ (n : ℕ). left - n) many),
    )

pub returns-else-not-all_stopped-clause-rounds : goal.returns-else-not-all_stopped-clause-rounds
returns-else-not-all_stopped-clause-rounds g c =
    let b = g.C.Core.behaviour in
    let harts = g.C.Core.hart_count c.args.core.now in
    let opening = g.C.Core.opening c.args.core.now in
    let before = g.C.Core.history c.args.core.now in
    let now = g.C.Core.history c.loop-left.core in
    let left = c.loop-left.left in
    let inv = c.loop-left.invariant in
    let stopped : AreAllStopped b harts (played b opening now) =
    subst (λ (n : ℕ). AreAllStopped b n (played b opening now)) inv.1
    (subst (λ m. AreAllStopped b (g.C.Core.hart_count c.loop-left.core) (played b m now)) inv.0 c.if-not-all_stopped.ensures) in
    has_rounds b harts c.args.most opening before left now inv.3 (all_stopped left (played b opening now) stopped)

pub returns-after-loop-left-clause-rounds : goal.returns-after-loop-left-clause-rounds
returns-after-loop-left-clause-rounds g c =
    let b = g.C.Core.behaviour in
    let harts = g.C.Core.hart_count c.args.core.now in
    let opening = g.C.Core.opening c.args.core.now in
    let before = g.C.Core.history c.args.core.now in
    let now = g.C.Core.history c.loop-left.core in
    let left = c.loop-left.left in
    let inv = c.loop-left.invariant in
    let none : 0 ≡ left = omega (arith, c.loop-left-test.false) in
    has_rounds b harts c.args.most opening before left now inv.3
    (subst (λ (n : ℕ). AreWholeRounds b harts n (played b opening now) []) none (none_left (played b opening now)))

use Rattle.std.proofs.Common.{arith, rules, sym, subst, get_or, None, List, Option, ℕ}
use Rattle.hart_board.specs.declared.core_turn.Ahead.{Ahead}
use Rattle.hart_board.specs.CoreTurns.{RunsIn}
use Rattle.hart_board.proofs.Dealing.{grows}
use Rattle.hart_board.proofs.opening.all_ahead.Goals as goal

pub loop-number-init : goal.loop-number-init
loop-number-init g c = record { all = λ n below. absurd (omega (arith, below)); count = search rules; room = search rules }

pub loop-number-preserved : goal.loop-number-preserved
loop-number-preserved g c = let i = c.loop-number.invariant in let runs : ℕ → Option (Ahead g.row.C-Local.Denot) → Type 0 =
    RunsIn g.C.Core.opening g.C.Core.hart_count g.C.Core.is_local g.C.Core.ahead_by c.args.core.now in record {
      all = λ n below.
          subst (λ (xs : List (Option (Ahead g.row.C-Local.Denot))). runs n (get_or xs n None)) (sym c.push_reserved.ensures.items)
          (grows runs None c.loop-number.all.items c.in_ok-ahead.ahead (λ m inside. i.all m (let k = i.count in omega (arith, inside, k)))
          (subst (λ (m : ℕ). runs m c.in_ok-ahead.ahead) (sym i.count) c.in_ok-ahead.ensures) n (let k = i.count in omega (arith, below, k)));
      count = search rules;
      room = search rules;
    }

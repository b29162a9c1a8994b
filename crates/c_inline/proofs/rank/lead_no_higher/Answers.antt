use Rattle.std.proofs.Common.{◌≡◌, ℕ, ◌<◌, ◌≤◌, List, Option, get_or, arith}
use Rattle.c_inline.specs.declared.calls.Call.{Call}
use Rattle.c_inline.specs.links.Calls.{call_of}
use Rattle.c_inline.specs.links.CallRanks.{rank_at}
use Rattle.c_inline.proofs.CallLists.{all_calls, some_call}
use Rattle.c_inline.proofs.rank.lead_no_higher.Goals as goal

higher : (ranks : List (Option ℕ)) (rank found : ℕ) (call : Call) → rank < found → found ≡ rank_at ranks call.function → rank < rank_at ranks call.function
higher ranks rank found call h e = omega (arith, h, e)

pub returns-then-rank_of-rank : goal.returns-then-rank_of-rank
returns-then-rank_of-rank c =
    let call : Call = get_or c.args.calls.now c.loop-call.call-index (record { place = record { 0 = 0 }; function = _ }) in (
      call_of call,
      some_call c.args.calls.now c.loop-call.call-index _ c.loop-call-test.true,
      higher c.args.ranks.now c.args.rank c.rank_of.result call c.if-rank_of-rank.true c.rank_of.ensures,
    )

pub returns : goal.returns
returns c = all_calls (λ (g : ℕ). rank_at c.args.ranks.now g ≤ c.args.rank) c.args.calls.now (λ k d l. c.loop-call.invariant k d (omega arith))

use Rattle.std.proofs.Common.{◌≡◌, ℕ, ◌+◌, ◌*◌, ◌<◌, ◌≤◌, length, get_or, false, Some}
use Rattle.std.specs.Prelude.{slice_get}
use Rattle.c_inline.specs.declared.calls.Call.{Call}
use Rattle.c_inline.specs.links.Calls.{lists_of, CallsLead}
use Rattle.c_inline.proofs.CallReachability.{Searched, unreached}
use Rattle.c_inline.proofs.recursion.leads.Given as goal

abbrev pub invariant-loop-function : goal.invariant-loop-function
invariant-loop-function l = Searched (lists_of l.calls) l.to l.from (λ g. ⊥) l.reached.items l.waiting.items
    × (slice_get l.reached.items l.from ≡ Some false → ⊥)

abbrev pub decreases-loop-function : goal.decreases-loop-function
decreases-loop-function l = 2 * unreached l.reached.items + length l.waiting.items

abbrev pub invariant-loop-call : goal.invariant-loop-call
invariant-loop-call l =
    Searched (lists_of l.calls) l.to l.from (λ g. g ≡ l.function) l.reached.items l.waiting.items
    × (2 * unreached l.reached.items + length l.waiting.items ≤ 2 * unreached l.initial.reached.items + length l.initial.waiting.items)
    × CallsLead (lists_of l.calls) l.function l.from
    × ((l.function ≡ l.to) → ⊥)
    × (slice_get l.reached.items l.from ≡ Some false → ⊥)
    × ((k : ℕ) (d : Call) → k < l.call-index → slice_get l.reached.items (get_or l.call-items k d).function ≡ Some false → ⊥)

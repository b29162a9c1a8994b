-- Lists of calls, as the code has them.
use Rattle.std.specs.Prelude.{◌≡◌, ℕ, ◌≤◌, List, [], map, Contains, slice_get, Some, None, Vec}
use Rattle.std.specs.Global.{Global}
use Rattle.ido_base.specs.declared.place.Place.{Place}
use Rattle.c_tree.specs.Inlining as i
use Rattle.c_tree.specs.Programs as p
use Rattle.c_inline.specs.declared.calls.Call.{Call}

abbrev pub call_of : Call → i.Call
call_of x = record { place = x.place; function = x.function }

abbrev pub calls_of : List Call → List i.Call
calls_of xs = map call_of xs

abbrev pub lists_of : List (Vec Call Global) → List (List i.Call)
lists_of xs = map (λ (v : Vec Call Global). calls_of v.items) xs

abbrev pub function_calls : p.Function → List i.Call
function_calls x = i.statements_calls x.body

-- ---- Calls that lead back, where each function's calls are listed

abbrev pub calls_at : List (List i.Call) → (function : ℕ) → List i.Call
calls_at cs function = elim (slice_get cs function) [ Some x ↦ x | None ↦ [] ]

-- calls lead from the one function to the other, or they are one
pub data CallsLead (cs : List (List i.Call)) (to : ℕ) : (from : ℕ) → Type 0 where
  there : CallsLead cs to to
  by_call : (from : ℕ) (c : i.Call) → Contains (calls_at cs from) c → CallsLead cs to c.function → CallsLead cs to from

-- a call in a function of one from which calls lead to it
pub record LeadsBack (cs : List (List i.Call)) (c : i.Call) : Type 0 where
  pub caller : ℕ
  pub made : Contains (calls_at cs caller) c
  pub back : CallsLead cs caller c.function

pub record IsFirstBack (cs : List (List i.Call)) (place : Place) : Type 0 where
  pub call : i.Call
  pub stands : call.place ≡ place
  pub back : LeadsBack cs call
  pub first : (c : i.Call) → LeadsBack cs c → place.0 ≤ c.place.0

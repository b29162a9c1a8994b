-- What is known of what functions weigh.
use Rattle.std.specs.Prelude.{◌≡◌, ℕ, zero, suc, ◌-◌, ◌^◌, ◌<◌, List, length, Option, Some, None, is_some, Contains, count_by, slice_get, min}
use Rattle.c_tree.specs.Programs as p
use Rattle.c_tree.specs.Inlining.{Call, calls_in}
use Rattle.c_inline.specs.declared.weight.Weights.{Weights}
use Rattle.c_inline.specs.links.Weights.{function_weight}

-- calls from the function lead no deeper
abbrev pub Low : List p.Function → (deep : ℕ) → (function : ℕ) → Type 0
Low fs zero function = ⊥
Low fs (suc deep) function = (c : Call) → Contains (calls_in fs function) c → c.function < length fs → Low fs deep c.function

-- the function exists, and is not known
abbrev pub IsUnknown : List (Option ℕ) → (function : ℕ) → Type 0
IsUnknown known function = slice_get known function ≡ Some None

-- how many are known
abbrev pub found : List (Option ℕ) → ℕ
found known = count_by is_some known

-- what is known is right
pub record AreRight (w : Weights) (fs : List p.Function) (known : List (Option ℕ)) : Type 0 where
  pub covers : length known ≡ length fs
  pub low : (function weight : ℕ) → slice_get known function ≡ Some (Some weight) → Low fs (found known) function
  pub right : (function weight : ℕ) → slice_get known function ≡ Some (Some weight) → weight ≡ min (function_weight w 0 fs (length fs) function) (2 ^ 64 - 1)

-- the function calls one whose weight is not known
abbrev pub CallsUnknown : List p.Function → List (Option ℕ) → (function : ℕ) → Type 0
CallsUnknown fs known function = (c : Call) × Contains (calls_in fs function) c × IsUnknown known c.function

-- each function that is not known calls one that is not
abbrev pub IsClosed : List p.Function → List (Option ℕ) → Type 0
IsClosed fs known = (function : ℕ) → IsUnknown known function → CallsUnknown fs known function

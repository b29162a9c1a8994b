-- The flat form of what has been begun, and how long it takes.
use Rattle.std.specs.Prelude.{◌≡◌, ℕ, ◌+◌, ◌<◌, List, [], ◌∷◌, ◌++◌, length, map, drop, Option, Some, None, slice_get}
use Rattle.c_tree.specs.Programs as p
use Rattle.c_tree.specs.Flats as f
use Rattle.c_tree.specs.Inlining as i
use Rattle.c_tree.specs.declared.program.Function.{Function}
use Rattle.c_tree.specs.declared.program.Statement.{Statement}
use Rattle.c_tree.specs.declared.flat.Statement as flat
use Rattle.c_inline.specs.declared.build.Begun.{Begun}
use Rattle.c_inline.specs.declared.build.Locals.{Locals}
use Rattle.c_inline.specs.links.Weights as v
use Rattle.c_inline.specs.links.Weights.{size}
use Rattle.c_inline.specs.links.KnownWeights.{AreRight}

-- no call leads back, and what functions make is known
pub record AreSized (fs : List p.Function) (sizes : List (Option ℕ)) : Type 0 where
  pub right : AreRight size fs sizes
  pub known : (function : ℕ) → function < length fs → (weight : ℕ) × (slice_get sizes function ≡ Some (Some weight))

-- bodies with all that they call
abbrev pub whole : List p.Function → i.Bodies
whole fs = i.bodies_of fs (length fs)

-- ---- What is made

abbrev pub locals_of : Locals → i.Locals
locals_of x = i.locals x.kinds.items x.refers.items

abbrev pub after : f.Statements → i.Made f.Statements → i.Made f.Statements
after made more = record { made = i.statements_and made more.made; locals = more.locals }

abbrev pub following_of : Option flat.Statement → f.Statements
following_of (Some x) = i.one (f.statement_of x)
following_of None = f.no_statement

abbrev pub body_of : List Function → (function : ℕ) → List Statement
body_of functions function = elim (slice_get functions function) [ Some x ↦ x.body.items | None ↦ [] ]

-- the statements of a body that are still to be done
abbrev pub rest_of : List Function → Begun → List Statement
rest_of functions b = drop b.done (body_of functions b.function)

-- what is made of the rest of a begun body, and of what stands after the body
abbrev pub begun_made : List Function → Begun → i.Locals → i.Made f.Statements
begun_made functions b ks =
    let m = i.statements (map p.function_of functions) (whole (map p.function_of functions)) b.by ks (p.statements_of (rest_of functions b)) in
    record { made = i.statements_and m.made (following_of b.following); locals = m.locals }

abbrev pub begun_if_any : List Function → Option Begun → i.Locals → i.Made f.Statements
begun_if_any functions (Some b) ks = begun_made functions b ks
begun_if_any functions None ks = record { made = f.no_statement; locals = ks }

-- what is made first, and then what is made with the locals that it leaves
abbrev pub in_turn : i.Made f.Statements → (i.Locals → i.Made f.Statements) → i.Made f.Statements
in_turn s K = let r = K s.locals in record { made = i.statements_and s.made r.made; locals = r.locals }

-- bodies that have been begun, the last one first
abbrev pub all_made : List Function → List Begun → i.Locals → i.Made f.Statements
all_made functions [] ks = record { made = f.no_statement; locals = ks }
all_made functions (b ∷ bs) ks = in_turn (all_made functions bs ks) (begun_made functions b)

abbrev pub and_any : List Begun → Option Begun → List Begun
and_any bs (Some b) = bs ++ b ∷ []
and_any bs None = bs

-- a statement is taken from those of a body that are still to be done
abbrev pub IsTaken : List Function → Begun → Option Statement → Begun → Type 0
IsTaken functions b None b' = (rest_of functions b ≡ []) × (b' ≡ b)
IsTaken functions b (Some x) b' = (rest_of functions b ≡ x ∷ rest_of functions b') × (b'.by ≡ b.by) × (b'.following ≡ b.following)

-- ---- How long it takes

abbrev pub function_work : List p.Function → (function : ℕ) → ℕ
function_work fs = v.function_weight size 2 fs (length fs)

abbrev pub statements_work : List p.Function → p.Statements → ℕ
statements_work fs xs = v.statements_weight size 2 fs (function_work fs) xs

abbrev pub begun_work : List Function → Begun → ℕ
begun_work functions b = 1 + statements_work (map p.function_of functions) (p.statements_of (rest_of functions b))

abbrev pub work_if_any : List Function → Option Begun → ℕ
work_if_any functions (Some b) = begun_work functions b
work_if_any functions None = 0

abbrev pub all_work : List Function → List Begun → ℕ
all_work functions [] = 0
all_work functions (b ∷ bs) = begun_work functions b + all_work functions bs

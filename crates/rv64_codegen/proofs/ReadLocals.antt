-- Locals that expressions read.
use Rattle.std.proofs.Common.{◌≡◌, ℕ, ◌<◌, List, [], ◌∷◌, ◌++◌, length, refl, arith, Option, Some}
use Rattle.std.specs.Prelude.{slice_get, Contains}
use Rattle.std.proofs.lemmas.Option.{slice_get_within}
use Rattle.std.proofs.lemmas.List.Elements.{Contains-append_left, Contains-append_right}
use Rattle.ido_ints.specs.declared.kinds.Kind.{Kind}
use Rattle.ido_ints.specs.declared.kinds.Kind.TheVariants.{UnsignedLong}
use Rattle.c_tree.specs.Exprs as e
use Rattle.c_tree.specs.LockDiscipline.{expr_locals}
use Rattle.c_tree.specs.Programs as p
use Rattle.c_tree.specs.WellFormed.{IsExpr, IsTarget}
use Rattle.flow_graph.specs.Nodes.{Node, Graph}
use Rattle.flow_graph.specs.Liveness.{NodeAt, is_read}
use Rattle.expr_code.specs.EvaluationCode.{Homes, Source, AreAtHome, HoldsLocals}
use Rattle.rv64_codegen.specs.Evaluations.{IsAtHome}
use Rattle.rv64_codegen.specs.Locals.{HoldsEach, HoldsLive, HasHomes}

only : (local : ℕ) → Contains (local ∷ []) local
only local = (0, omega arith, refl)

pub left_held : (h : Homes) (s : Source) (l : (address bytes : ℕ) → Option ℕ) (x : List ℕ) (a b : List ℕ) → HoldsEach h s l x (a ++ b) → HoldsEach h s l x a
left_held h s l x a b held local k c f = held local k (Contains-append_left a b local c) f

pub right_held : (h : Homes) (s : Source) (l : (address bytes : ℕ) → Option ℕ) (x : List ℕ) (a b : List ℕ) → HoldsEach h s l x (a ++ b) → HoldsEach h s l x b
right_held h s l x a b held local k c f = held local k (Contains-append_right a b local c) f

pub reads_are_held : (h : Homes) (s : Source) (l : (address bytes : ℕ) → Option ℕ) (x : List ℕ) (t : e.Expr) → IsExpr s.variables s.kinds t →
    HoldsEach h s l x (expr_locals t) → HoldsLocals h s l x t
reads_are_held h s l x (e.Constant value) f held = tt
reads_are_held h s l x (e.Local local k) f held = held local k (only local) f
reads_are_held h s l x (e.Variable place variable k) f held = tt
reads_are_held h s l x (e.Element place variable k index_place index) f held = reads_are_held h s l x index f.1 held
reads_are_held h s l x (e.Address variable index_place index) f held = reads_are_held h s l x index f.1 held
reads_are_held h s l x (e.Referent place last local) f held = held local UnsignedLong (only local) f
reads_are_held h s l x (e.Unary operator t) f held = reads_are_held h s l x t f held
reads_are_held h s l x (e.Cast k t) f held = reads_are_held h s l x t f held
reads_are_held h s l x (e.Converted k t) f held = reads_are_held h s l x t f held
reads_are_held h s l x (e.Binary operator t u) f held = (
  reads_are_held h s l x t f.0 (left_held h s l x (expr_locals t) (expr_locals u) held),
  reads_are_held h s l x u f.1 (right_held h s l x (expr_locals t) (expr_locals u) held),
)
reads_are_held h s l x (e.Conditional k t u v) f held =
    let first : HoldsEach h s l x (expr_locals t ++ expr_locals u) = left_held h s l x (expr_locals t ++ expr_locals u) (expr_locals v) held in (
      reads_are_held h s l x t f.0 (left_held h s l x (expr_locals t) (expr_locals u) first),
      reads_are_held h s l x u f.1 (right_held h s l x (expr_locals t) (expr_locals u) first),
      reads_are_held h s l x v f.2 (right_held h s l x (expr_locals t ++ expr_locals u) (expr_locals v) held),
    )

pub live_is_enough : (g : Graph) (node : ℕ) (is : Node) (h : Homes) (s : Source) (l : (address bytes : ℕ) → Option ℕ) (x : List ℕ) →
    NodeAt g node is → HoldsLive g node h s l x →
    HoldsEach h s l x is.uses
live_is_enough g node is h s l x at live local k c f = live local k (is_read is at c) f

-- ---- Homes

variable_at_home : (vs : List p.Variable) (ks : List Kind) (h : Homes) (variable : ℕ) (it : p.Variable) → HasHomes vs ks h → slice_get vs variable ≡ Some it →
    variable < length h.addresses
variable_at_home vs ks h variable it homes f =
    let here : variable < length vs = slice_get_within vs variable it f in
    let count : length h.addresses ≡ length vs = homes.variables in
    omega arith

local_in_range : (vs : List p.Variable) (ks : List Kind) (h : Homes) (local : ℕ) (k : Kind) → HasHomes vs ks h → slice_get ks local ≡ Some k →
    local < length h.locals
local_in_range vs ks h local k homes f =
    let here : local < length ks = slice_get_within ks local k f in
    let count : length h.locals ≡ length ks = homes.locals in
    omega arith

pub formed_is_at_home : (vs : List p.Variable) (ks : List Kind) (h : Homes) (t : e.Expr) → HasHomes vs ks h → IsExpr vs ks t → AreAtHome h t
formed_is_at_home vs ks h (e.Constant value) homes f = tt
formed_is_at_home vs ks h (e.Local local k) homes f = (local_in_range vs ks h local k homes f, homes.home local (slice_get_within ks local k f))
formed_is_at_home vs ks h (e.Variable place variable k) homes f = variable_at_home vs ks h variable f.it homes f.found
formed_is_at_home vs ks h (e.Element place variable k index_place index) homes f =
    (variable_at_home vs ks h variable f.0.it homes f.0.found, formed_is_at_home vs ks h index homes f.1)
formed_is_at_home vs ks h (e.Address variable index_place index) homes f = formed_is_at_home vs ks h index homes f.1
formed_is_at_home vs ks h (e.Referent place last local) homes f =
    (local_in_range vs ks h local UnsignedLong homes f, homes.home local (slice_get_within ks local UnsignedLong f))
formed_is_at_home vs ks h (e.Unary operator t) homes f = formed_is_at_home vs ks h t homes f
formed_is_at_home vs ks h (e.Cast k t) homes f = formed_is_at_home vs ks h t homes f
formed_is_at_home vs ks h (e.Converted k t) homes f = formed_is_at_home vs ks h t homes f
formed_is_at_home vs ks h (e.Binary operator t u) homes f = (formed_is_at_home vs ks h t homes f.0, formed_is_at_home vs ks h u homes f.1)
formed_is_at_home vs ks h (e.Conditional k t u v) homes f =
    (formed_is_at_home vs ks h t homes f.0, formed_is_at_home vs ks h u homes f.1, formed_is_at_home vs ks h v homes f.2)

pub target_is_at_home : (vs : List p.Variable) (ks : List Kind) (h : Homes) (t : e.Lvalue) → HasHomes vs ks h → IsTarget vs ks t → IsAtHome h t
target_is_at_home vs ks h (e.ToLocal place local k) homes f = (local_in_range vs ks h local k homes f, homes.home local (slice_get_within ks local k f))
target_is_at_home vs ks h (e.ToVariable place variable k) homes f = variable_at_home vs ks h variable f.it homes f.found
target_is_at_home vs ks h (e.ToElement place variable k index) homes f =
    (variable_at_home vs ks h variable f.0.it homes f.0.found, formed_is_at_home vs ks h index.expr homes f.1)

-- Loads of the elements that a node reads are answered.
use Rattle.crash_simulation.proofs.Common.{◌≡◌, ℕ, List, ◌∷◌, sym, arith, subst, true, false, Option, Some, None, refl, suc, ◌<◌, [], ◌++◌, Bool, zero, ◌==◌}
use Rattle.crash_simulation.proofs.Common.{slice_get, ◌&&◌, nat_lt, is_some, map, ℤ, ⊎_elim, Contains, AllZip, ◌||◌, and_parts, or_cases, or_right, nat_tests}
use Rattle.crash_simulation.proofs.Common.{Contains-append_left, Contains-append_right, variable_at, bytes_of, Holds, Kind, Variable, elements_of, value}
use Rattle.crash_simulation.proofs.Common.{element_at, shape_of, elements_in, IsDeclared, IsExpr, Fits, IsTarget, TargetFits, IsFlatStatement, IsFlatPlaced}
use Rattle.crash_simulation.proofs.Common.{IsThreadOf, AreNumbersOf, zip_found, fits_element, Pair, all_held, elements_is, Seen, FlowState, seen_by, Standing}
use Rattle.crash_simulation.proofs.Common.{free, threads_standings, Action, Eval, Test, Element, expr_elements, target_elements, reads_of, Good, ActionLeads}
use Rattle.crash_simulation.proofs.Common.{chooses, repeats, IsThere, Source, IsLoaded, AreLoaded, IsAnsweredIn, IsAnswered}
use Rattle.std.proofs.Common.{ap}
use Rattle.std.specs.List.{AllByRecursion}
use Rattle.c_ranges.specs.Laws.{AreFollowed, IsTargetFollowed}
use Rattle.c_ranges.specs.RunInvariants.{step_exprs}
use Rattle.c_ranges.proofs.Public.{assign_followed, references_hold}
use Rattle.flow_graph.specs.Paths.{element}
use Rattle.c_tree.specs.Exprs as e
use Rattle.c_tree.specs.Flats as f
use Rattle.c_tree.specs.Source as m
use Rattle.crash_simulation.proofs.NodeEffects.{IsAtNode}
use Rattle.crash_simulation.proofs.NodeEffects as nodes

-- ---- Accesses to elements

-- the access is one to the element, with all of its bytes
abbrev pub reads_one : List Variable → Element → (address bytes : ℕ) → Option Variable → Bool
reads_one vs one address bytes None = false
reads_one vs one address bytes (Some it) =
    nat_lt one.element (elements_in it.length) && ((variable_at (map shape_of vs) one.variable one.element == address) && (bytes_of it.kind == bytes))

-- the access is one to an element of the list, with all of its bytes
abbrev pub reads_all : List Variable → List Element → (address bytes : ℕ) → Bool
reads_all vs [] address bytes = false
reads_all vs (one ∷ more) address bytes = reads_one vs one address bytes (slice_get vs one.variable) || reads_all vs more address bytes

-- the access is to that element
pub record IsRead (vs : List Variable) (one : Element) (address bytes : ℕ) : Type 0 where
  pub it : Variable
  pub found : slice_get vs one.variable ≡ Some it
  pub within : one.element < elements_in it.length
  pub address_is : address ≡ variable_at (map shape_of vs) one.variable one.element
  pub bytes_are : bytes ≡ bytes_of it.kind

read_first : (vs : List Variable) (one : Element) (address bytes : ℕ) (o : Option Variable) → slice_get vs one.variable ≡ o →
    reads_one vs one address bytes o ≡ true → IsRead vs one address bytes
read_first vs one address bytes o found h = grind (arith, and_parts, map, nat_tests)

pub is_read : (vs : List Variable) (ones : List Element) (address bytes : ℕ) → reads_all vs ones address bytes ≡ true →
    (one : Element) × Contains ones one × IsRead vs one address bytes
is_read vs [] address bytes h = cc
is_read vs (one ∷ more) address bytes h = ⊎_elim
    (λ a. (one, (0, omega arith, refl), read_first vs one address bytes (slice_get vs one.variable) refl a))
    (λ b. let r = is_read vs more address bytes b in (r.0, (suc r.1.0, omega (arith, r.1.1), r.1.2), r.2))
    (or_cases (reads_one vs one address bytes (slice_get vs one.variable)) (reads_all vs more address bytes) h)

reads_head : (vs : List Variable) (one : Element) (more : List Element) (it : Variable) (o : Option Variable) → o ≡ Some it →
    one.element < elements_in it.length →
    (reads_one vs one (variable_at (map shape_of vs) one.variable one.element) (bytes_of it.kind) o ||
    reads_all vs more (variable_at (map shape_of vs) one.variable one.element) (bytes_of it.kind)) ≡ true
reads_head vs one more it o found below = grind (arith, nat_tests)

pub reads_there : (vs : List Variable) (ones : List Element) (one : Element) (it : Variable) → Contains ones one → slice_get vs one.variable ≡ Some it →
    one.element < elements_in it.length → reads_all vs ones (variable_at (map shape_of vs) one.variable one.element) (bytes_of it.kind) ≡ true
reads_there vs [] one it (k, l, is) found below = absurd (omega (arith, l))
reads_there vs (first ∷ more) one it (zero, l, is) found below =
    subst (λ (z : Element). reads_all vs (z ∷ more) (variable_at (map shape_of vs) one.variable one.element) (bytes_of it.kind) ≡ true) (sym is)
    (reads_head vs one more it (slice_get vs one.variable) found below)
reads_there vs (first ∷ more) one it (suc k, l, is) found below =
    or_right (reads_one vs first (variable_at (map shape_of vs) one.variable one.element) (bytes_of it.kind) (slice_get vs first.variable)) _
    (reads_there vs more one it (k, omega (arith, l), is) found below)

-- ---- What expressions read

scalar_one : (o : Option ℕ) → is_some o ≡ false → 0 < elements_in o
scalar_one o h = grind (arith, nat_tests)

-- a load of the element, which is there, is answered
abbrev pub Loaded : Source → (loads : (address bytes : ℕ) → Option ℕ) → Element → Type 0
Loaded s loads one = (it : Variable) → slice_get s.variables one.variable ≡ Some it → one.element < elements_in it.length →
    IsLoaded s loads it.kind one.variable one.element

module _ (vs : List Variable) (ks kinds : List Kind) (ls : List ℤ) (p : Option m.Pending) (ns : List (List ℤ)) (locals : AllZip Holds ks ls)
    (variables : AllZip AreNumbersOf vs ns) (loads : (address bytes : ℕ) → Option ℕ) where
  abbrev seen : Seen
  seen = record { locals = ls; pending = p; variables = ns }

  abbrev source : Source
  source = record { variables = vs; kinds = kinds; locals = ls; numbers = ns }

  loaded_declared : (variable number : ℕ) (kind : Kind) (array : Bool) (d : IsDeclared vs variable kind array) → number < elements_in d.it.length →
      Loaded source loads (element variable number) → IsLoaded source loads kind variable number
  loaded_declared variable number kind array d below all = grind (arith, nat_tests)

  pub loaded_expr : (x : e.Expr) → IsExpr vs ks x → Fits vs x → AreFollowed ls x →
      ((one : Element) → Contains (expr_elements x seen) one → Loaded source loads one) → AreLoaded source loads x
  loaded_expr (e.Constant value) w fit g all = tt
  loaded_expr (e.Local local kind) w fit g all = tt
  loaded_expr (e.Variable place variable kind) w fit g all =
      loaded_declared variable 0 kind false w (scalar_one w.it.length w.array) (all (element variable 0) (0, omega arith, refl))
  loaded_expr (e.Element place variable kind index_place index) w fit g all =
      let named = fits_element (elements_of vs variable) index fit.0 ls ns
      (all_held vs ks ls ns locals variables index w.1 g) in (
        loaded_declared variable (element_at (value ls ns index)) kind true w.0 (omega (arith, named.below, elements_is vs variable w.0.it w.0.found w.0.array))
            (all (element variable (element_at (value ls ns index))) (0, omega arith, refl)),
        loaded_expr index w.1 fit.1 g (λ one c. all one (suc c.0, omega (arith, c.1), c.2)),
      )
  loaded_expr (e.Address variable index_place index) w fit g all = loaded_expr index w.1 fit.1 g all
  loaded_expr (e.Referent place last local) w fit g all = g
  loaded_expr (e.Unary operator operand) w fit g all = loaded_expr operand w fit g all
  loaded_expr (e.Cast kind operand) w fit g all = loaded_expr operand w fit g all
  loaded_expr (e.Converted kind operand) w fit g all = loaded_expr operand w fit g all
  loaded_expr (e.Binary operator left right) w fit g all = (
    loaded_expr left w.0 fit.0 g.0 (λ one c. all one (Contains-append_left (expr_elements left seen) (expr_elements right seen) one c)),
    loaded_expr right w.1 fit.1 g.1 (λ one c. all one (Contains-append_right (expr_elements left seen) (expr_elements right seen) one c)),
  )
  loaded_expr (e.Conditional kind condition chosen otherwise) w fit g all =
      let prefix : List Element = expr_elements condition seen ++ expr_elements chosen seen in (
        loaded_expr condition w.0 fit.0 g.0 (λ one c. all one (Contains-append_left prefix (expr_elements otherwise seen) one
            (Contains-append_left (expr_elements condition seen) (expr_elements chosen seen) one c))),
        loaded_expr chosen w.1 fit.1 g.1 (λ one c. all one (Contains-append_left prefix (expr_elements otherwise seen) one
            (Contains-append_right (expr_elements condition seen) (expr_elements chosen seen) one c))),
        loaded_expr otherwise w.2 fit.2 g.2 (λ one c. all one (Contains-append_right prefix (expr_elements otherwise seen) one c)),
      )

-- ---- What nodes read

module _ {x : f.Flat} {s : FlowState} {t : ℕ} (good : Good x s) (i : IsAtNode x s good.source t) (kinds : List Kind)
    (loads : (address bytes : ℕ) → Option ℕ) where
  open i use {graph_thread, node}

  abbrev there : IsThere x good.source t graph_thread node
  there = nodes.there i

  own : Pair (λ (u : f.Thread) (own : m.Thread). IsThreadOf x u.locals own) x.threads t there.thread
  own = zip_found (λ (u : f.Thread) (own : m.Thread). IsThreadOf x u.locals own) x.threads good.source.threads t there.thread good.formed.threads there.there

  open own.it use {locals as ks}

  abbrev all : List Standing
  all = threads_standings x.threads

  abbrev standing : Standing
  standing = record { left = there.thread.left; owes = is_some there.thread.pending }

  left_formed : (y : f.Statement) (rest : List f.Statement) → standing ≡ free (y ∷ rest) → IsFlatStatement x ks y
  left_formed y rest is = grind (arith, nat_tests)

  test_formed : (condition : e.Placed) (holds fails : ℕ) → ActionLeads all (Test condition holds fails) standing → IsFlatPlaced x ks condition
  test_formed condition holds fails d = elim d [
    | chooses place body arms otherwise rest is a b ↦ (left_formed (f.If place (f.arm_and condition body arms) otherwise) rest is).1.0
    | repeats place body rest is a b ↦ (left_formed (f.While place condition body) rest is).0
  ]

  -- what its step follows refers to elements
  followed : (y : f.Statement) (rest : List f.Statement) → standing ≡ free (y ∷ rest) →
      AllByRecursion (λ (z : e.Placed). AreFollowed graph_thread.locals z.expr) (step_exprs y)
  followed y rest is =
      let left : there.thread.left ≡ y ∷ rest = ap (λ (z : Standing). z.left) is in
      subst (λ (ls : List ℤ). AllByRecursion (λ (z : e.Placed). AreFollowed ls z.expr) (step_exprs y)) (sym there.match.locals)
      (references_hold x good.source t there.thread y rest good.formed there.there left)

  test_followed : (condition : e.Placed) (holds fails : ℕ) → ActionLeads all (Test condition holds fails) standing →
      AreFollowed graph_thread.locals condition.expr
  test_followed condition holds fails d = elim d [
    | chooses place body arms otherwise rest is a b ↦ (followed (f.If place (f.arm_and condition body arms) otherwise) rest is).0
    | repeats place body rest is a b ↦ (followed (f.While place condition body) rest is).0
  ]

  locals_held : AllZip Holds ks graph_thread.locals
  locals_held = let P : List ℤ → Type 0 = λ ls. AllZip Holds ks ls in subst P (sym there.match.locals) own.related.locals

  variables_held : AllZip AreNumbersOf x.variables s.variables
  variables_held = let P : List (List ℤ) → Type 0 = λ ns. AllZip AreNumbersOf x.variables ns in subst P (sym good.matches.variables) good.formed.variables

  abbrev pub here : Source
  here = record { variables = x.variables; kinds = kinds; locals = graph_thread.locals; numbers = s.variables }

  expr_here : (y : e.Placed) → IsFlatPlaced x ks y → AreFollowed graph_thread.locals y.expr →
      ((one : Element) → Contains (expr_elements y.expr (seen_by s graph_thread)) one → Loaded here loads one) → AreLoaded here loads y.expr
  expr_here y formed g each =
      loaded_expr x.variables ks kinds graph_thread.locals graph_thread.pending s.variables locals_held variables_held loads y.expr formed.0 formed.1 g each

  target_here : (target : e.Lvalue) → IsTarget x.variables ks target → TargetFits x.variables target → IsTargetFollowed graph_thread.locals target →
      ((one : Element) → Contains (target_elements target (seen_by s graph_thread)) one → Loaded here loads one) → IsAnsweredIn here loads target
  target_here (e.ToLocal place local kind) formed fits g each = tt
  target_here (e.ToVariable place variable kind) formed fits g each = tt
  target_here (e.ToElement place variable kind index) formed fits g each = expr_here index (formed.1, fits.1) g each

  answered_by : (a : Action) → ActionLeads all a standing → ((one : Element) → Contains (reads_of a (seen_by s graph_thread)) one → Loaded here loads one) →
      IsAnswered here loads a
  answered_by (Eval target value next) d each =
      let formed = left_formed (f.Assign d.place target value) d.rest d.is in
      let follows = assign_followed graph_thread.locals target value (followed (f.Assign d.place target value) d.rest d.is) in
      let first : List Element = target_elements target (seen_by s graph_thread) in
      let second : List Element = expr_elements value.expr (seen_by s graph_thread) in (
        target_here target formed.0.0 formed.0.1 follows.0 (λ one c. each one (Contains-append_left first second one c)),
        expr_here value formed.1 follows.1 (λ one c. each one (Contains-append_right first second one c)),
      )
  answered_by (Test condition holds fails) d each = expr_here condition (test_formed condition holds fails d) (test_followed condition holds fails d) each
  answered_by a d each = tt

  -- loads of what the node reads are
  pub answered : ((one : Element) → Contains (reads_of node.action (seen_by s graph_thread)) one → Loaded here loads one) → IsAnswered here loads node.action
  answered each = answered_by node.action there.does each

-- A flat form none of whose expressions needs too many temporaries has a graph of which none does.
use Rattle.std.proofs.Common.{◌≡◌, refl, ℕ, suc, ◌+◌, ◌≤◌, arith, List, [], ◌∷◌, ◌++◌, Bool, true, false, cond, Option, Some, None, ap, sym, ◌∙◌}
use Rattle.std.specs.Prelude.{slice_get, find, flat_map, nat_lt}
use Rattle.std.specs.List.{AllByRecursion}
use Rattle.std.specs.Option.{option_map}
use Rattle.ido_base.specs.declared.place.Place.{Place}
use Rattle.ido_base.specs.declared.limits.TheConstants.{MOST_TEMPORARIES}
use Rattle.c_tree.specs.Exprs as e
use Rattle.c_tree.specs.Flats as f
use Rattle.c_tree.specs.Prices.{need_of}
use Rattle.c_tree.specs.Temporaries.{assign_exprs, statement_exprs, statements_exprs, arms_exprs, temporaries_fault}
use Rattle.flow_graph.specs.Nodes.{Node, End}
use Rattle.flow_graph.specs.Lowering.{table_of, Table, assign_nodes, count, statements_count, arms_count}
use Rattle.flow_graph.specs.Lowering.{thread_count, entry, statement_nodes, statements_nodes}
use Rattle.flow_graph.specs.Lowering.{arms_nodes, thread_nodes, threads_nodes, plain_node, test_node}
use Rattle.flow_graph.proofs.Public.{all_at}
use Rattle.thread_code.specs.Plans.{Plan, IsPlan}
use Rattle.rv64_codegen.specs.Evaluations.{NeedFew}
use Rattle.rv64_codegen.specs.links.Threads.{action_exprs, AllNeedFew}
use Rattle.rv64_codegen.proofs.PlannedNodes.{nodes_are}

-- ---- Expressions

abbrev is_needy : e.Placed → Bool
is_needy x = nat_lt MOST_TEMPORARIES (need_of x.expr)

not_less : (a b : ℕ) → nat_lt a b ≡ false → b ≤ a
not_less a b h = grind arith

-- none of the expressions needs too many temporaries
abbrev pub Quiet : List e.Placed → Type 0
Quiet xs = find is_needy xs ≡ None

none_either : {X : Type 0} (b : Bool) (x : X) (o : Option X) → cond b (Some x) o ≡ None → (b ≡ false) × (o ≡ None)
none_either true x o h = cc
none_either false x o h = (refl, h)

none_mapped : {X Y : Type 0} (g : X → Y) (o : Option X) → option_map g o ≡ None → o ≡ None
none_mapped g None h = refl
none_mapped g (Some x) h = cc

quiet_more : (x : e.Placed) (xs : List e.Placed) → is_needy x ≡ false → Quiet xs → Quiet (x ∷ xs)
quiet_more x xs one rest = ap (λ (b : Bool). cond b (Some x) (find is_needy xs)) one ∙ rest

pub quiet_both : (xs ys : List e.Placed) → Quiet (xs ++ ys) → Quiet xs × Quiet ys
quiet_both [] ys h = (refl, h)
quiet_both (x ∷ xs) ys h =
    let one = none_either (is_needy x) x (find is_needy (xs ++ ys)) h in
    let rest = quiet_both xs ys one.1 in
    (quiet_more x xs one.0 rest.0, rest.1)

pub quiet_head : (x : e.Placed) (xs : List e.Placed) → Quiet (x ∷ xs) → Quiet (x ∷ []) × Quiet xs
quiet_head x xs h =
    let one = none_either (is_needy x) x (find is_needy xs) h in
    (quiet_more x [] one.0 refl, one.1)

-- ---- Nodes

abbrev IsQuiet : Node → Type 0
IsQuiet n = Quiet (action_exprs n.action)

abbrev AllQuiet : List Node → Type 0
AllQuiet ns = AllByRecursion IsQuiet ns

joined : (ns ms : List Node) → AllQuiet ns → AllQuiet ms → AllQuiet (ns ++ ms)
joined [] ms h k = k
joined (n ∷ ns) ms h k = (h.0, joined ns ms h.1 k)

quiet_assign : (table : Table) (target : e.Lvalue) (place : Place) (value : e.Placed) (first next : ℕ) → Quiet (assign_exprs target value) →
    AllQuiet (assign_nodes table place target value first next)
quiet_assign table (e.ToLocal name local kind) place value first next h = (h, tt)
quiet_assign table (e.ToVariable name variable kind) place value first next h = (h, (refl, tt))
quiet_assign table (e.ToElement name variable kind index) place value first next h = (h, (refl, tt))

mutual
  quiet_statement : (table : Table) (x : f.Statement) (first next : ℕ) → Quiet (statement_exprs x) → AllQuiet (statement_nodes table x first next)
  quiet_statement table (f.Assign place target value) first next h = quiet_assign table target place value first next h
  quiet_statement table (f.If place arms otherwise) first next h =
      let last = entry (statements_count otherwise) (first + arms_count arms) next in
      let both = quiet_both (arms_exprs arms) (statements_exprs otherwise) h in
      joined (arms_nodes table arms place last first next) (statements_nodes table otherwise (first + arms_count arms) next)
      (quiet_arms table arms place last first next both.0) (quiet_statements table otherwise (first + arms_count arms) next both.1)
  quiet_statement table (f.While place condition body) first next h =
      let both = quiet_head condition (statements_exprs body) h in
      (both.0, quiet_statements table body (suc first) first both.1)
  quiet_statement table (f.Do place body condition) first next h =
      let both = quiet_both (statements_exprs body) (condition ∷ []) h in
      joined (statements_nodes table body first (first + statements_count body)) (test_node table place condition first next ∷ [])
      (quiet_statements table body first (first + statements_count body) both.0) (both.1, tt)
  quiet_statement table (f.Lock place name) first next h = (h, tt)
  quiet_statement table (f.Unlock place name) first next h = (h, tt)

  quiet_statements : (table : Table) (xs : f.Statements) (first next : ℕ) → Quiet (statements_exprs xs) → AllQuiet (statements_nodes table xs first next)
  quiet_statements table f.no_statement first next h = tt
  quiet_statements table (f.statement_and x rest) first next h =
      let after = entry (statements_count rest) (first + count x) next in
      let both = quiet_both (statement_exprs x) (statements_exprs rest) h in
      joined (statement_nodes table x first after) (statements_nodes table rest (first + count x) next)
      (quiet_statement table x first after both.0) (quiet_statements table rest (first + count x) next both.1)

  quiet_arms : (table : Table) (arms : f.Arms) (place : Place) (last first next : ℕ) → Quiet (arms_exprs arms) →
      AllQuiet (arms_nodes table arms place last first next)
  quiet_arms table f.no_arm place last first next h = tt
  quiet_arms table (f.arm_and condition body rest) place last first next h =
      let after = suc first + statements_count body in
      let both = quiet_both (condition ∷ statements_exprs body) (arms_exprs rest) h in
      let own = quiet_head condition (statements_exprs body) both.0 in (
        own.0,
        joined (statements_nodes table body (suc first) next) (arms_nodes table rest place last after next) (quiet_statements table body (suc first) next own.1)
            (quiet_arms table rest place last after next both.1),
      )

abbrev pub body_exprs : f.Thread → List e.Placed
body_exprs t = statements_exprs t.body

quiet_threads : (x : f.Flat) (ts : List f.Thread) (first : ℕ) → Quiet (flat_map body_exprs ts) → AllQuiet (threads_nodes x ts first)
quiet_threads x [] first h = tt
quiet_threads x (t ∷ ts) first h =
    let both = quiet_both (body_exprs t) (flat_map body_exprs ts) h in
    let end = first + statements_count t.body in
    joined (thread_nodes (table_of x t) t first) (threads_nodes x ts (first + thread_count t))
    (joined (statements_nodes (table_of x t) t.body first end) (plain_node t.closing End ∷ [])
    (quiet_statements (table_of x t) t.body first end both.0) (refl, tt))
    (quiet_threads x ts (first + thread_count t) both.1)

pub all_quiet : (x : f.Flat) → temporaries_fault x ≡ None → Quiet (flat_map body_exprs x.threads)
unfolding temporaries_fault
all_quiet x h = none_mapped (λ (y : e.Placed). y.place) (find is_needy (flat_map body_exprs x.threads)) h

pub few_of : (xs : List e.Placed) → Quiet xs → NeedFew xs
few_of [] h = tt
few_of (x ∷ xs) h =
    let one = none_either (is_needy x) x (find is_needy xs) h in
    (not_less MOST_TEMPORARIES (need_of x.expr) one.0, few_of xs one.1)

-- no expression of a plan's flat form needs too many temporaries, so none of its graph's does
pub few_needed : (p : Plan) → IsPlan p → temporaries_fault p.flat ≡ None → AllNeedFew p.graph
few_needed p plan h node is at =
    let there : slice_get (threads_nodes p.flat p.flat.threads 0) node ≡ Some is = ap (λ (ns : List Node). slice_get ns node) (sym (nodes_are p plan)) ∙ at in
    few_of (action_exprs is.action)
    (all_at IsQuiet (threads_nodes p.flat p.flat.threads 0) node is (quiet_threads p.flat p.flat.threads 0 (all_quiet p.flat h)) there)

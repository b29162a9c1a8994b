-- There are as many nodes as are counted.
use Rattle.std.proofs.Common.{◌≡◌, refl, ℕ, suc, ◌+◌, [], ◌∷◌, length, ◌∙◌, ap, ap₂, arith, length-append}
use Rattle.ido_base.specs.declared.place.Place.{Place}
use Rattle.c_tree.specs.Exprs as e
use Rattle.c_tree.specs.Flats as f
use Rattle.flow_graph.specs.Nodes.{End}
use Rattle.flow_graph.specs.Lowering.{Table, test_node, plain_node, assign_nodes, assign_count, count, statements_count, arms_count}
use Rattle.flow_graph.specs.Lowering.{thread_count, entry, statement_nodes, statements_nodes, arms_nodes, thread_nodes}

length-assign_nodes : (table : Table) (target : e.Lvalue) (place : Place) (value : e.Placed) (first next : ℕ) →
    length (assign_nodes table place target value first next) ≡ assign_count target
length-assign_nodes table (e.ToLocal name local kind) place value first next = refl
length-assign_nodes table (e.ToVariable name variable kind) place value first next = refl
length-assign_nodes table (e.ToElement name variable kind index) place value first next = refl

mutual
  pub length-statement_nodes : (table : Table) (x : f.Statement) (first next : ℕ) → length (statement_nodes table x first next) ≡ count x
  length-statement_nodes table (f.Assign place target value) first next = length-assign_nodes table target place value first next
  length-statement_nodes table (f.If place arms otherwise) first next =
      let last = entry (statements_count otherwise) (first + arms_count arms) next in
      length-append (arms_nodes table arms place last first next) (statements_nodes table otherwise (first + arms_count arms) next)
      ∙ ap₂ ◌+◌ (length-arms_nodes table arms place last first next) (length-statements_nodes table otherwise (first + arms_count arms) next)
  length-statement_nodes table (f.While place condition body) first next = ap suc (length-statements_nodes table body (suc first) first)
  length-statement_nodes table (f.Do place body condition) first next =
      omega (
        arith,
        length-append (statements_nodes table body first (first + statements_count body))
            (test_node table place condition first next ∷ []),
        length-statements_nodes table body first (first + statements_count body),
      )
  length-statement_nodes table (f.Lock place name) first next = refl
  length-statement_nodes table (f.Unlock place name) first next = refl

  pub length-statements_nodes : (table : Table) (xs : f.Statements) (first next : ℕ) → length (statements_nodes table xs first next) ≡ statements_count xs
  length-statements_nodes table f.no_statement first next = refl
  length-statements_nodes table (f.statement_and x rest) first next =
      let after = entry (statements_count rest) (first + count x) next in
      length-append (statement_nodes table x first after) (statements_nodes table rest (first + count x) next)
      ∙ ap₂ ◌+◌ (length-statement_nodes table x first after) (length-statements_nodes table rest (first + count x) next)

  pub length-arms_nodes : (table : Table) (xs : f.Arms) (place : Place) (last first next : ℕ) →
      length (arms_nodes table xs place last first next) ≡ arms_count xs
  length-arms_nodes table f.no_arm place last first next = refl
  length-arms_nodes table (f.arm_and condition body rest) place last first next =
      let after = suc first + statements_count body in
      ap suc (length-append (statements_nodes table body (suc first) next) (arms_nodes table rest place last after next)
      ∙ ap₂ ◌+◌ (length-statements_nodes table body (suc first) next) (length-arms_nodes table rest place last after next))

pub length-thread_nodes : (table : Table) (t : f.Thread) (first : ℕ) → length (thread_nodes table t first) ≡ thread_count t
length-thread_nodes table t first =
    let end = first + statements_count t.body in
    omega (arith, length-append (statements_nodes table t.body first end) (plain_node t.closing End ∷ []), length-statements_nodes table t.body first end)

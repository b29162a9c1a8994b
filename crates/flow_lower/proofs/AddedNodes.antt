-- Nodes as they are added: their numbers, and what of a list is still to be added.
use Rattle.std.proofs.Common.{◌≡◌, ◌<◌, ◌≤◌, ℕ, zero, suc, ◌+◌, List, [], ◌∷◌, ◌++◌, length, map, drop, get_or}
use Rattle.std.proofs.Common.{refl, sym, ap, ap₂, ◌∙◌, subst, arith, append_assoc, append-nil, length-append}
use Rattle.std.proofs.lemmas.List.{at_drop_more, at_drop_all, map-append, length-map}
use Rattle.ido_base.specs.declared.place.Place.{Place}
use Rattle.c_tree.specs.Exprs as e
use Rattle.c_tree.specs.Flats as f
use Rattle.c_tree.specs.declared.flat.Statement as s
use Rattle.c_tree.specs.declared.flat.Arm as arm
use Rattle.flow_graph.specs.declared.graph.Node as code
use Rattle.flow_graph.specs.Nodes.{End, Node, Graph, node_of}
use Rattle.c_tree.specs.declared.flat.Thread as thread
use Rattle.flow_graph.specs.declared.graph.Part.{Part}
use Rattle.flow_graph.specs.Lowering.{Table, table_of, plain_node, thread_count, thread_nodes, threads_nodes, part, parts, test_node, assign_nodes}
use Rattle.flow_graph.specs.Lowering.{assign_count, count, statements_count, arms_count, entry, statement_nodes, statements_nodes, arms_nodes}
use Rattle.flow_graph.proofs.Public.{length-statement_nodes, length-statements_nodes, length-arms_nodes, length-thread_nodes}
use Rattle.flow_lower.specs.links.Growth.{Adds}

-- ---- Nodes after nodes

pub length_after : (old new : List code.Node) (added : List Node) → Adds old new added → length new ≡ length old + length added
length_after old new added h =
    sym (length-map new node_of) ∙ ap length h ∙ length-append (map node_of old) added ∙ ap (λ (n : ℕ). n + length added) (length-map old node_of)

pub all_long : (old mid : List code.Node) (table : Table) (ys : f.Statements) (next : ℕ) →
    Adds old mid (statements_nodes table ys (length old) next) → length mid ≡ length old + statements_count ys
all_long old mid table ys next h =
    length_after old mid _ h ∙ ap (λ (n : ℕ). length old + n) (length-statements_nodes table ys (length old) next)

pub joined : (old mid new : List code.Node) (one two : List Node) → Adds old mid one → Adds mid new two → Adds old new (one ++ two)
joined old mid new one two h k = k ∙ ap (λ (ns : List Node). ns ++ two) h ∙ append_assoc (map node_of old) one two

pub pushed : (old new : List code.Node) (n : code.Node) (m : Node) → new ≡ old ++ n ∷ [] → node_of n ≡ m → Adds old new (m ∷ [])
pushed old new n m h k = ap (map node_of) h ∙ map-append node_of old (n ∷ []) ∙ ap (λ (x : Node). map node_of old ++ x ∷ []) k

pub length_pushed : (old new : List code.Node) (n : code.Node) → new ≡ old ++ n ∷ [] → length new ≡ suc (length old)
length_pushed old new n h = omega (arith, ap length h, length-append old (n ∷ []))

-- the arms of an `if`, and then its last part
pub adds_if : (table : Table) (old mid new : List code.Node) (place : Place) (arms : f.Arms) (otherwise : f.Statements) (last next : ℕ) →
    last ≡ entry (statements_count otherwise) (length old + arms_count arms) next →
    Adds old mid (arms_nodes table arms place last (length old) next) → Adds mid new (statements_nodes table otherwise (length mid) next) →
    Adds old new (statement_nodes table (f.If place arms otherwise) (length old) next)
adds_if table old mid new place arms otherwise last next e h k =
    let long : length mid ≡ length old + arms_count arms =
    length_after old mid _ h ∙ ap (λ (n : ℕ). length old + n) (length-arms_nodes table arms place last (length old) next) in
    let P : ℕ → Type 0 = λ l. Adds old mid (arms_nodes table arms place l (length old) next) in
    let Q : ℕ → Type 0 = λ n. Adds mid new (statements_nodes table otherwise n next) in
    joined old mid new _ _ (subst P e h) (subst Q long k)

-- ---- What is still to be added

-- nodes stand after the old ones, and those that are left make all; so many are left, up to the end
pub record AreNodesAdded (old now : List code.Node) (all left : ℕ → List Node) (end count : ℕ) : Type 0 where
  pub nodes : map node_of now ++ left (length now) ≡ map node_of old ++ all (length old)
  pub stop : end ≡ length now + count

abbrev pub StatementsLeft : (table : Table) (old now : List code.Node) → (next end : ℕ) → (all left : f.Statements) → Type 0
StatementsLeft table old now next end all left =
    AreNodesAdded old now (λ n. statements_nodes table all n next) (λ n. statements_nodes table left n next) end (statements_count left)

-- where a condition, the part after the arms and the statement's place are
pub record Ways : Type 0 where
  pub place : Place
  pub last : ℕ
  pub next : ℕ

abbrev pub ArmsLeft : (table : Table) (old now : List code.Node) → Ways → (end : ℕ) → (all left : f.Arms) → Type 0
ArmsLeft table old now w end all left =
    AreNodesAdded old now (λ n. arms_nodes table all w.place w.last n w.next) (λ n. arms_nodes table left w.place w.last n w.next) end (arms_count left)

statements_more : (table : Table) (old now new : List code.Node) (all : f.Statements) (x : f.Statement) (rest : f.Statements) (next end following at : ℕ) →
    StatementsLeft table old now next end all (f.statement_and x rest) →
    following ≡ length now + count x → ((n : ℕ) → end ≡ following + n → at ≡ entry n following next) → Adds now new (statement_nodes table x (length now) at) →
    StatementsLeft table old new next end all rest
statements_more table old now new all x rest next end following at l b e added =
    let long : length new ≡ length now + count x =
    length_after now new _ added ∙ ap (λ (n : ℕ). length now + n) (length-statement_nodes table x (length now) at) in
    let stop : end ≡ following + statements_count rest = omega (arith, l.stop, b) in
    let here : at ≡ entry (statements_count rest) (length now + count x) next =
    e (statements_count rest) stop ∙ ap (λ (n : ℕ). entry (statements_count rest) n next) b in
    record {
      nodes = ap₂ (λ (ns : List Node) (n : ℕ). ns ++ statements_nodes table rest n next) added long
          ∙ ap (λ (a : ℕ). (map node_of now ++ statement_nodes table x (length now) a) ++ statements_nodes table rest (length now + count x) next) here
          ∙ append_assoc (map node_of now) _ _ ∙ l.nodes;
      stop = omega (arith, l.stop, long);
    }

pub next_statement : (table : Table) (old now new : List code.Node) (xs : List s.Statement) (i : ℕ) (x : s.Statement) (next end following at : ℕ) →
    i < length xs →
    x ≡ get_or xs i x →
    StatementsLeft table old now next end (f.statements_of xs) (f.statements_of (drop i xs)) → following ≡ length now + count (f.statement_of x) →
    ((n : ℕ) → end ≡ following + n → at ≡ entry n following next) →
    Adds now new (statement_nodes table (f.statement_of x) (length now) at) →
    StatementsLeft table old new next end (f.statements_of xs) (f.statements_of (drop (i + 1) xs))
next_statement table old now new xs i x next end following at lt is left b e added =
    let rest = f.statements_of (drop (i + 1) xs) in
    let same : f.statements_of (drop i xs) ≡ f.statement_and (f.statement_of x) rest =
    at_drop_more f.statements_of xs i x lt ∙ ap (λ (y : s.Statement). f.statement_and (f.statement_of y) rest) (sym is) in
    let P : f.Statements → Type 0 = λ ys. StatementsLeft table old now next end (f.statements_of xs) ys in
    statements_more table old now new (f.statements_of xs) (f.statement_of x) rest next end following at (subst P same left) b e added

pub no_statement_left : (table : Table) (old now : List code.Node) (xs : List s.Statement) (i next end : ℕ) → length xs ≤ i →
    StatementsLeft table old now next end (f.statements_of xs) (f.statements_of (drop i xs)) →
    Adds old now (statements_nodes table (f.statements_of xs) (length old) next)
no_statement_left table old now xs i next end le l =
    sym (append-nil (map node_of now)) ∙ ap (λ (ys : f.Statements). map node_of now ++ statements_nodes table ys (length now) next)
    (sym (at_drop_all f.statements_of xs i le)) ∙ l.nodes

-- an arm: its condition, and then its body
pub record IsArm (table : Table) (now mid : List code.Node) (w : Ways) (condition : e.Placed) (body : f.Statements) (end : ℕ) : Type 0 where
  pub inside : ℕ
  pub following : ℕ
  pub holds : ℕ
  pub fails : ℕ
  pub node : code.Node
  pub first : inside ≡ length now + 1
  pub then : following ≡ inside + statements_count body
  pub to_body : (n : ℕ) → following ≡ inside + n → holds ≡ entry n inside w.next
  pub to_rest : (n : ℕ) → end ≡ following + n → fails ≡ entry n following w.last
  pub added : mid ≡ now ++ node ∷ []
  pub tests : node_of node ≡ test_node table w.place condition holds fails

arms_more : (table : Table) (old now mid new : List code.Node) (w : Ways) (all : f.Arms) (condition : e.Placed) (body : f.Statements)
    (rest : f.Arms) (end : ℕ) →
    ArmsLeft table old now w end all (f.arm_and condition body rest) →
    IsArm table now mid w condition body end → Adds mid new (statements_nodes table body (length mid) w.next) → ArmsLeft table old new w end all rest
arms_more table old now mid new w all condition body rest end l a k =
    let one : length mid ≡ suc (length now) = length_pushed now mid a.node a.added in
    let inner : a.inside ≡ suc (length now) = omega (arith, a.first) in
    let outer : a.following ≡ suc (length now) + statements_count body = omega (arith, a.then, inner) in
    let holds : a.holds ≡ entry (statements_count body) (suc (length now)) w.next =
    a.to_body (statements_count body) a.then ∙ ap (λ (n : ℕ). entry (statements_count body) n w.next) inner in
    let stop : end ≡ a.following + arms_count rest = omega (arith, l.stop, outer) in
    let fails : a.fails ≡ entry (arms_count rest) (suc (length now) + statements_count body) w.last =
    a.to_rest (arms_count rest) stop ∙ ap (λ (n : ℕ). entry (arms_count rest) n w.last) outer in
    let test = test_node table w.place condition (entry (statements_count body) (suc (length now)) w.next)
    (entry (arms_count rest) (suc (length now) + statements_count body) w.last) in
    let tested : Adds now mid (test ∷ []) =
    pushed now mid a.node test a.added (a.tests ∙ ap₂ (λ (h f : ℕ). test_node table w.place condition h f) holds fails) in
    let Q : ℕ → Type 0 = λ n. Adds mid new (statements_nodes table body n w.next) in
    let both : Adds now new (test ∷ statements_nodes table body (suc (length now)) w.next) = joined now mid new (test ∷ []) _ tested (subst Q one k) in
    let long : length new ≡ suc (length now) + statements_count body =
    omega (arith, length_after now new _ both, length-statements_nodes table body (suc (length now)) w.next) in
    record {
      nodes = ap₂ (λ (ns : List Node) (n : ℕ). ns ++ arms_nodes table rest w.place w.last n w.next) both long ∙ append_assoc (map node_of now) _ _ ∙ l.nodes;
      stop = omega (arith, l.stop, long);
    }

pub next_arm : (table : Table) (old now mid new : List code.Node) (w : Ways) (xs : List arm.Arm) (i : ℕ) (x : arm.Arm) (body : List s.Statement) (end : ℕ) →
    i < length xs →
    x ≡ get_or xs i x → body ≡ x.body.items →
    ArmsLeft table old now w end (f.arms_list_of xs) (f.arms_list_of (drop i xs)) →
    IsArm table now mid w (e.placed_of x.condition) (f.statements_of x.body.items) end →
    Adds mid new (statements_nodes table (f.statements_of body) (length mid) w.next) →
    ArmsLeft table old new w end (f.arms_list_of xs) (f.arms_list_of (drop (i + 1) xs))
next_arm table old now mid new w xs i x body end lt is inside left a k =
    let rest = f.arms_list_of (drop (i + 1) xs) in
    let same : f.arms_list_of (drop i xs) ≡ f.arm_and (e.placed_of x.condition) (f.statements_of x.body.items) rest =
    at_drop_more f.arms_list_of xs i x lt ∙ ap (λ (y : arm.Arm). f.arm_and (e.placed_of y.condition) (f.statements_of y.body.items) rest) (sym is) in
    let P : f.Arms → Type 0 = λ ys. ArmsLeft table old now w end (f.arms_list_of xs) ys in
    let Q : List s.Statement → Type 0 = λ ys. Adds mid new (statements_nodes table (f.statements_of ys) (length mid) w.next) in
    arms_more table old now mid new w (f.arms_list_of xs) (e.placed_of x.condition) (f.statements_of x.body.items) rest end (subst P same left) a
    (subst Q inside k)

pub no_arm_left : (table : Table) (old now : List code.Node) (w : Ways) (xs : List arm.Arm) (i end : ℕ) → length xs ≤ i →
    ArmsLeft table old now w end (f.arms_list_of xs) (f.arms_list_of (drop i xs)) →
    Adds old now (arms_nodes table (f.arms_list_of xs) w.place w.last (length old) w.next)
no_arm_left table old now w xs i end le l =
    sym (append-nil (map node_of now)) ∙ ap (λ (ys : f.Arms). map node_of now ++ arms_nodes table ys w.place w.last (length now) w.next)
    (sym (at_drop_all f.arms_list_of xs i le)) ∙ l.nodes

-- ---- Threads

abbrev part_from : (first end locals : ℕ) → Part
part_from first end locals = record { first = first; end = end; locals = locals }

pub part_is : (t : f.Thread) (at first end locals : ℕ) → first ≡ at → end ≡ at + thread_count t → locals ≡ length t.locals →
    part_from first end locals ≡ part t at
part_is t at first end locals a b c =
    ap (λ (n : ℕ). part_from n end locals) a ∙ ap (λ (n : ℕ). part_from at n locals) b ∙ ap (part_from at (at + thread_count t)) c

abbrev pub graph_from : List Node → List Part → Graph
graph_from nodes threads = record { nodes = nodes; threads = threads }

-- the nodes and parts so far, and those of the threads that are left, make all
pub record ThreadsLeft (x : f.Flat) (now : List code.Node) (done : List Part) (all left : List f.Thread) : Type 0 where
  pub nodes : map node_of now ++ threads_nodes x left (length now) ≡ threads_nodes x all 0
  pub parts : done ++ parts left (length now) ≡ parts all 0

threads_more : (x : f.Flat) (now new : List code.Node) (done more : List Part) (all : List f.Thread) (t : f.Thread) (rest : List f.Thread) (p : Part) →
    ThreadsLeft x now done all (t ∷ rest) → Adds now new (thread_nodes (table_of x t) t (length now)) →
    p ≡ part t (length now) → more ≡ done ++ p ∷ [] → ThreadsLeft x new more all rest
threads_more x now new done more all t rest p l h is k =
    let long : length new ≡ length now + thread_count t =
    length_after now new _ h ∙ ap (λ (n : ℕ). length now + n) (length-thread_nodes (table_of x t) t (length now)) in
    record {
      nodes = ap₂ (λ (ns : List Node) (n : ℕ). ns ++ threads_nodes x rest n) h long ∙ append_assoc (map node_of now) _ _ ∙ l.nodes;
      parts = ap₂ (λ (ps : List Part) (n : ℕ). ps ++ parts rest n) (k ∙ ap (λ (q : Part). done ++ q ∷ []) is) long ∙ append_assoc done _ _ ∙ l.parts;
    }

pub next_thread : (flat : f.Flat) (now new : List code.Node) (done more : List Part) (xs : List thread.Thread) (i : ℕ) (x : thread.Thread) (p : Part) →
    i < length xs →
    x ≡ get_or xs i x →
    ThreadsLeft flat now done (map f.thread_of xs) (map f.thread_of (drop i xs)) →
    Adds now new (thread_nodes (table_of flat (f.thread_of x)) (f.thread_of x) (length now)) →
    p ≡ part (f.thread_of x) (length now) → more ≡ done ++ p ∷ [] →
    ThreadsLeft flat new more (map f.thread_of xs) (map f.thread_of (drop (i + 1) xs))
next_thread flat now new done more xs i x p lt is l h e k =
    let rest = map f.thread_of (drop (i + 1) xs) in
    let same : map f.thread_of (drop i xs) ≡ f.thread_of x ∷ rest =
    at_drop_more (map f.thread_of) xs i x lt ∙ ap (λ (y : thread.Thread). f.thread_of y ∷ rest) (sym is) in
    let P : List f.Thread → Type 0 = λ ys. ThreadsLeft flat now done (map f.thread_of xs) ys in
    threads_more flat now new done more (map f.thread_of xs) (f.thread_of x) rest p (subst P same l) h e k

pub no_thread_left : (flat : f.Flat) (now : List code.Node) (done : List Part) (xs : List thread.Thread) (i : ℕ) → length xs ≤ i →
    ThreadsLeft flat now done (map f.thread_of xs) (map f.thread_of (drop i xs)) →
    (map node_of now ≡ threads_nodes flat (map f.thread_of xs) 0) × (done ≡ parts (map f.thread_of xs) 0)
no_thread_left flat now done xs i le l =
    let none : map f.thread_of (drop i xs) ≡ [] = at_drop_all (map f.thread_of) xs i le in (
      sym (append-nil (map node_of now)) ∙ ap (λ (ys : List f.Thread). map node_of now ++ threads_nodes flat ys (length now)) (sym none) ∙ l.nodes,
      sym (append-nil done) ∙ ap (λ (ys : List f.Thread). done ++ parts ys (length now)) (sym none) ∙ l.parts,
    )

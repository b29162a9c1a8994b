-- What is emitted for a thread is its code.
use Rattle.std.proofs.Common.{inl, inr, ◌≡◌, ℕ, zero, suc, ◌+◌, ◌-◌, ◌*◌, ◌/◌, ◌<◌, ◌≤◌, List, [], ◌∷◌, ◌++◌, length, map, refl, ap, sym, ◌∙◌}
use Rattle.std.proofs.Common.{arith, subst}
use Rattle.std.proofs.Common.{Bool, true, false, Some}
use Rattle.std.specs.Prelude.{slice_get, sum_by, Contains, if◌then◌else◌, ◌⊎◌}
use Rattle.std.specs.List.{concat}
use Rattle.std.specs.List.Sorted.{IsStrictlyIncreasing}
use Rattle.std.proofs.lemmas.Bool.{cases_lt}
use Rattle.std.proofs.lemmas.List.{length-append}
use Rattle.std.proofs.lemmas.List.Elements.{Contains-append_left, Contains-append_right, Contains-append_cases}
use Rattle.std.proofs.lemmas.Option.{none-some, same_Some, slice_get_within, slice_get_cases}
use Rattle.c_tree.specs.Flats as f
use Rattle.c_tree.specs.Prices.{node_price}
use Rattle.rv64_isa.specs.declared.object.CodeItem.{CodeItem}
use Rattle.rv64_link.specs.LabelledCode.{most_words_of, is_mark, is_resume, positions_from}
use Rattle.boundary_code.specs.Boundaries.{is_empty}
use Rattle.boundary_code.proofs.Public.{not_empty, some_there}
use Rattle.code_runs.specs.CodeTraces.{Program}
use Rattle.flow_graph.specs.declared.graph.Part.{Part}
use Rattle.flow_graph.specs.Nodes.{Action, Eval, Store, Test, Lock, Unlock, End, Node, Graph}
use Rattle.flow_graph.specs.IdempotentCuts.{IsChosen}
use Rattle.flow_graph.specs.Liveness.{NodeAt}
use Rattle.flow_graph.specs.Lowering.{table_of, lowered, parts, part, thread_count, thread_nodes, threads_nodes}
use Rattle.flow_graph.proofs.Public.{length-thread_nodes}
use Rattle.node_code.specs.JoinedPieces.{joined, AreClosed}
use Rattle.thread_code.specs.Plans.{Plan, IsPlan, Thread, IsThread, IsNodeOf, held_names_before, locks_before, hold_words}
use Rattle.thread_code.proofs.Public.{named_some, numbers_some}
use Rattle.thread_code.specs.NodeCodeEffects.{Places}
use Rattle.thread_code.specs.Programs.{action_nodes, mark_of, IsOn, IsNodeCode, IsResumeAddress, at_chosen, past_lock, past_unlock, names_kept}
use Rattle.rv64_codegen.specs.ThreadPieces.{Choices, AreChoices, IsNodePiece, ArePieces, IsCodeOfThread, IsSpacedCode, EmittedIsCode}
use Rattle.rv64_codegen.proofs.JoinedAddresses.{AreOnes, joined_ones, IsIn, in_one, in_joined, Ascends, joined_ascend, ascending}
use Rattle.rv64_codegen.proofs.Addresses.{contains_one, lies_on}
use Rattle.rv64_codegen.proofs.PieceSites.{IsLinkedIn, IsSited, Spots, AgreesAt}
use Rattle.rv64_codegen.proofs.PieceParts.{PlacedNode, chosen_or_not, spots_in}
use Rattle.rv64_codegen.proofs.ClosedPieces.{thread_closed}
use Rattle.rv64_codegen.proofs.PieceSplits.{sited_as}
use Rattle.rv64_codegen.proofs.NodeCode.{node_code}
use Rattle.rv64_codegen.proofs.PiecePlaces as placed
use Rattle.rv64_codegen.proofs.PiecePlaces.{part_lies, linked_lies, Stood}
use Rattle.rv64_codegen.proofs.Marks as own
use Rattle.rv64_codegen.proofs.Marks.{ResumesAre, resumes_after}

-- ---- A thread's nodes are in the graph

parts_inside : (x : f.Flat) (ts : List f.Thread) (first number : ℕ) (own : Part) → slice_get (parts ts first) number ≡ Some own →
    own.end ≤ first + length (threads_nodes x ts first)
parts_inside x [] first number own g = absurd (none-some own g)
parts_inside x (t ∷ ts) first zero own g =
    let end : first + thread_count t ≡ own.end = ap (λ (y : Part). y.end) (same_Some (part t first) own g) in
    let back : List Node = threads_nodes x ts (first + thread_count t) in
    let whole : length (thread_nodes (table_of x t) t first ++ back) ≡ length (thread_nodes (table_of x t) t first) + length back =
    length-append (thread_nodes (table_of x t) t first) back in
    let many : length (thread_nodes (table_of x t) t first) ≡ thread_count t = length-thread_nodes (table_of x t) t first in
    omega (arith, end, whole, many)
parts_inside x (t ∷ ts) first (suc number) own g =
    let back : List Node = threads_nodes x ts (first + thread_count t) in
    let later : own.end ≤ first + thread_count t + length back = parts_inside x ts (first + thread_count t) number own g in
    let whole : length (thread_nodes (table_of x t) t first ++ back) ≡ length (thread_nodes (table_of x t) t first) + length back =
    length-append (thread_nodes (table_of x t) t first) back in
    let many : length (thread_nodes (table_of x t) t first) ≡ thread_count t = length-thread_nodes (table_of x t) t first in
    omega (arith, later, whole, many)

thread_inside : (x : f.Flat) (number : ℕ) (own : Part) → slice_get (lowered x).threads number ≡ Some own → own.end ≤ length (lowered x).nodes
unfolding lowered
thread_inside x number own g =
    let inside : own.end ≤ 0 + length (threads_nodes x x.threads 0) = parts_inside x x.threads 0 number own g in
    omega (arith, inside)

pub node_there : (p : Plan) → IsPlan p → (t : Thread) → IsThread p t → (i : ℕ) → i < t.part.end - t.part.first →
    (is : Node) × NodeAt p.graph (t.part.first + i) is
node_there p plan t thread i below =
    let inside : t.part.end ≤ length p.graph.nodes =
    subst (λ (g : Graph). slice_get g.threads t.number ≡ Some t.part → t.part.end ≤ length g.nodes) (sym plan.lowered) (thread_inside p.flat t.number t.part)
    thread.nodes in
    elim (slice_get_cases p.graph.nodes (t.part.first + i)).1 [
      | inl there ↦ (there.0, there.2)
      | inr past ↦ absurd (omega (arith, inside, below, past.0))
    ]

-- ---- The thread

-- the pieces of a plan's thread, linked one after another
pub record LinkedPieces (p : Plan) (t : Thread) : Type 0 where
  pub plan : IsPlan p
  pub thread : IsThread p t
  pub c : Choices
  pub choices : AreChoices p t c
  pub pieces : List (List CodeItem)
  pub are : ArePieces p t c pieces
  pub program : Program
  pub n : IsLinkedIn program (joined 0 pieces)

module _ (p : Plan) (t : Thread) (linked : LinkedPieces p t) where
  open linked use {plan, thread, c, choices, pieces, are, program, n}

  nodes : (i : ℕ) → i < length pieces → (is : Node) × NodeAt p.graph (t.part.first + i) is
  nodes i below = let count : length pieces ≡ t.part.end - t.part.first = are.count in node_there p plan t thread i (omega (arith, count, below))

  closed : AreClosed pieces
  closed = thread_closed p t c pieces are nodes

  abbrev at : ℕ → ℕ
  at = n.linked.address_of

  abbrev entry : ℕ → ℕ
  entry = placed.entry t program pieces closed n

  -- a node of the thread, with its piece where it stands
  record Here (i : ℕ) : Type 0 where
    piece : List CodeItem
    is : Node
    there : slice_get pieces i ≡ Some piece
    found : NodeAt p.graph (t.part.first + i) is
    of : IsNodePiece p t c (t.part.first + i) is piece
    stood : Stood t program pieces closed n i piece

  here : (i : ℕ) → i < length pieces → Here i
  here i below = elim (slice_get_cases pieces i).1 [
    | inl there ↦
        let node = nodes i below in
        record {
          piece = there.0;
          is = node.0;
          there = there.2;
          found = node.1;
          of = are.each i there.0 node.0 there.2 node.1;
          stood = placed.stood t program pieces closed n are.count i there.0 there.2;
        }
    | inr past ↦ absurd (omega (arith, below, past.0))
  ]

  -- the parts of its piece
  abbrev parted : {i : ℕ} → (a : Here i) → IsSited t program (joined 0 pieces) n entry (t.part.first + i) (a.of.before ++ (a.of.does ++ a.of.goes))
  parted {i} a =
      sited_as t program (joined 0 pieces) n entry (t.part.first + i) a.piece (a.of.before ++ (a.of.does ++ a.of.goes)) a.of.split a.stood.sited

  abbrev placed_node : {i : ℕ} → Here i → PlacedNode p t c entry
  placed_node {i} a = record {
    program = program;
    items = joined 0 pieces;
    n = n;
    node = t.part.first + i;
    is = a.is;
    at = a.found;
    before = a.of.before;
    does = a.of.does;
    goes = a.of.goes;
    guarded = a.of.guarded;
    doing = a.of.doing;
    sited = parted a;
  }

  abbrev spots_at : {i : ℕ} → Here i → Spots
  spots_at a = spots_in (placed_node a)

  abbrev spots_by : (i : ℕ) → (i < length pieces) ⊎ (length pieces ≤ i) → Spots
  spots_by i (inl below) = spots_at (here i below)
  spots_by i (inr past) = record { core = 0; call = 0; after = 0; store = 0 }

  spots : ℕ → Spots
  spots node = spots_by (node - t.part.first) (cases_lt (node - t.part.first) (length pieces))

  abbrev places : Places
  places = record {
    program = program;
    entry = entry;
    core = λ node. (spots node).core;
    words = λ node. (entry (node + 1) - entry node) / 4;
    call = λ node. (spots node).call;
    after = λ node. (spots node).after;
    live = c.live;
    kept = c.kept;
    store = λ node. (spots node).store;
    cleans = c.cleans;
  }

  -- ---- Places agree

  spots_are : (i : ℕ) → i < length pieces → (a : Here i) × (spots (t.part.first + i) ≡ spots_at a)
  unfolding spots
  spots_are i below =
      let back : i ≡ t.part.first + i - t.part.first = omega arith in
      subst (λ (j : ℕ). (d : (j < length pieces) ⊎ (length pieces ≤ j)) → (a : Here i) × (spots_by j d ≡ spots_at a)) back by
      (cases_lt (t.part.first + i - t.part.first) (length pieces))
    where
      by : (d : (i < length pieces) ⊎ (length pieces ≤ i)) → (a : Here i) × (spots_by i d ≡ spots_at a)
      by (inl inside) = (here i inside, refl)
      by (inr past) = absurd (omega (arith, below, past))

  words_are : (i : ℕ) → Here i → entry (t.part.first + i + 1) ≡ entry (t.part.first + i) + 4 * places.words (t.part.first + i)
  words_are i a =
      let s = a.stood.sited in
      let on : IsOn (at s.position) (at (s.position + length a.piece)) =
      lies_on at s.position a.piece (part_lies at (joined 0 pieces) (linked_lies program (joined 0 pieces) n) s.position a.piece s.is_part) in
      let is : at (s.position + length a.piece) ≡ at s.position + 4 * on.words = on.is in
      let begin : at s.position ≡ entry (t.part.first + i) = s.begin in
      let end : at (s.position + length a.piece) ≡ entry (t.part.first + i + 1) = s.end in
      let grown : entry (t.part.first + i + 1) ≡ entry (t.part.first + i) + 4 * on.words = omega (arith, is, begin, end) in
      let words : places.words (t.part.first + i) ≡ on.words = omega (arith, grown) in
      omega (arith, grown, words)

  -- a node of the thread, at whose places all is as said
  record Node_at (i : ℕ) : Type 0 where
    a : Here i
    agrees : AgreesAt places program c.live c.kept c.cleans (t.part.first + i) (spots_at a)

  node_at : (i : ℕ) → i < length pieces → Node_at i
  node_at i below =
      let s = spots_are i below in
      record {
        a = s.0;
        agrees = record {
          of_program = refl;
          core = ap (λ (z : Spots). z.core) s.1;
          call = ap (λ (z : Spots). z.call) s.1;
          after = ap (λ (z : Spots). z.after) s.1;
          store = ap (λ (z : Spots). z.store) s.1;
          words = words_are i s.0;
          live_are = λ other. refl;
          kept_are = λ other. refl;
          cleans = refl;
        };
      }

  abbrev marked : {i : ℕ} → Here i → List CodeItem → List ℕ
  marked a items = map at (positions_from a.stood.sited.position is_mark items)

  abbrev resumed_in : {i : ℕ} → Here i → List CodeItem → List ℕ
  resumed_in a items = map at (positions_from a.stood.sited.position is_resume items)

  abbrev resumes_of : {i : ℕ} → Here i → List ℕ
  resumes_of a = resumed_in a a.piece

  marks_of : (i : ℕ) (m : Node_at i) → marked m.a m.a.piece ≡ mark_of places m.a.is.action (t.part.first + i) ∷ []
  marks_of i m =
      ap (λ (xs : List CodeItem). marked m.a xs) m.a.of.split ∙ own.marks_are places (placed_node m.a) m.agrees

  resumes_are : (i : ℕ) (m : Node_at i) → ResumesAre p t places m.a.is.action (t.part.first + i) (resumes_of m.a)
  resumes_are i m =
      subst (λ (xs : List CodeItem). ResumesAre p t places m.a.is.action (t.part.first + i) (resumed_in m.a xs)) (sym m.a.of.split)
      (own.resumes_are places (placed_node m.a) m.agrees)

  resumes_ascend : (i : ℕ) (m : Node_at i) → Ascends (entry (t.part.first + i)) (entry (t.part.first + i + 1)) (resumes_of m.a)
  resumes_ascend i m =
      subst (λ (xs : List CodeItem). Ascends (entry (t.part.first + i)) (entry (t.part.first + i + 1)) (resumed_in m.a xs)) (sym m.a.of.split)
      (own.resumes_ascend places (placed_node m.a) m.agrees)

  own_node : (i : ℕ) → i < length pieces → IsNodeOf t (t.part.first + i)
  own_node i below =
      let count : length pieces ≡ t.part.end - t.part.first = are.count in
      record { from_first = omega arith; below_end = omega (arith, count, below) }

  code_at : (i : ℕ) → i < length pieces → (m : Node_at i) → IsNodeCode p t places (t.part.first + i) m.a.is
  code_at i below m =
      node_code places (placed_node m.a)
      (record { plan = plan; of = thread; choices = choices; own = own_node i below; agrees = m.agrees })
      (subst (λ (xs : List CodeItem). sum_by most_words_of xs
      ≤ node_price (action_nodes m.a.is.action) + hold_words p.log (names_kept p t m.a.is.action (t.part.first + i))) m.a.of.split m.a.of.price)
      (own.is_within places (placed_node m.a) m.agrees)

  same_node : (i : ℕ) (m : Node_at i) (is : Node) → NodeAt p.graph (t.part.first + i) is → m.a.is ≡ is
  same_node i m is found = same_Some m.a.is is (sym m.a.found ∙ found)

  -- ---- A node's number among the thread's

  record Numbered (node : ℕ) : Type 0 where
    number : ℕ
    below : number < length pieces
    is : t.part.first + number ≡ node

  numbered : (node : ℕ) → IsNodeOf t node → Numbered node
  numbered node of =
      let from : t.part.first ≤ node = of.from_first in
      let below : node < t.part.end = of.below_end in
      let count : length pieces ≡ t.part.end - t.part.first = are.count in
      record { number = node - t.part.first; below = omega (arith, from, below, count); is = omega (arith, from) }

  follows : (node : ℕ) → IsNodeOf t node → entry (node + 1) ≡ entry node + 4 * places.words node
  follows node of =
      let k = numbered node of in
      subst (λ (m : ℕ). entry (m + 1) ≡ entry m + 4 * places.words m) k.is (words_are k.number (here k.number k.below))

  code : (node : ℕ) (is : Node) → IsNodeOf t node → NodeAt p.graph node is → IsNodeCode p t places node is
  code node is of found =
      let k = numbered node of in
      let m = node_at k.number k.below in
      let found_there : NodeAt p.graph (t.part.first + k.number) is = ap (λ (j : ℕ). slice_get p.graph.nodes j) k.is ∙ found in
      subst (λ (j : ℕ). IsNodeCode p t places j is) k.is
      (subst (λ (y : Node). IsNodeCode p t places (t.part.first + k.number) y) (same_node k.number m is found_there) (code_at k.number k.below m))

  -- ---- Marks

  abbrev marks : List (List ℕ)
  marks = placed.marks t program pieces closed n

  mark_there : (i : ℕ) (m : Node_at i) → slice_get marks i ≡ Some (mark_of places m.a.is.action (t.part.first + i) ∷ [])
  mark_there i m = placed.marks_at t program pieces closed n i m.a.piece m.a.stood m.a.there ∙ ap (λ (ns : List ℕ). Some ns) (marks_of i m)

  ones : AreOnes marks
  ones = joined_ones marks (λ i below.
      let count : length marks ≡ length pieces = placed.marks_count t program pieces closed n in
      let m = node_at i (omega (arith, count, below)) in
      (mark_of places m.a.is.action (t.part.first + i), mark_there i m))

  marks_are : (i : ℕ) (is : Node) → IsNodeOf t (t.part.first + i) → NodeAt p.graph (t.part.first + i) is →
      slice_get program.nodes i ≡ Some (mark_of places is.action (t.part.first + i))
  marks_are i is of found =
      let end : t.part.first + i < t.part.end = of.below_end in
      let count : length pieces ≡ t.part.end - t.part.first = are.count in
      let m = node_at i (omega (arith, end, count)) in
      ap (λ (ns : List ℕ). slice_get ns i) (placed.nodes_are t program pieces closed n) ∙
      ones.each i (mark_of places m.a.is.action (t.part.first + i)) (mark_there i m) ∙
      ap (λ (y : Node). Some (mark_of places y.action (t.part.first + i))) (same_node i m is found)

  marks_count : length program.nodes ≡ t.part.end - t.part.first
  marks_count =
      ap (λ (ns : List ℕ). length ns) (placed.nodes_are t program pieces closed n) ∙ ones.count ∙ placed.marks_count t program pieces closed n ∙ are.count

  -- ---- Where the thread may be resumed

  abbrev resumes : List (List ℕ)
  resumes = placed.resumes t program pieces closed n

  resumes_there : (i : ℕ) (m : Node_at i) → slice_get resumes i ≡ Some (resumes_of m.a)
  resumes_there i m = placed.resumes_at t program pieces closed n i m.a.piece m.a.stood m.a.there

  contained : (i : ℕ) (m : Node_at i) (a : ℕ) → Contains (resumes_of m.a) a → Contains program.resumes a
  contained i m a has =
      subst (λ (ns : List ℕ). Contains ns a) (sym (placed.resumes_are t program pieces closed n))
      (in_joined resumes i (resumes_of m.a) a (resumes_there i m) has)

  after_resumed : (node : ℕ) (is : Node) (a : ℕ) → IsNodeOf t node → NodeAt p.graph node is → (action : Action) → is.action ≡ action →
      Contains (resumes_after p t places action node) a → IsResumeAddress p t places a
  after_resumed node is a of found (Eval target value next) same has = absurd (let l : has.0 < 0 = has.1 in omega (arith, l))
  after_resumed node is a of found (Store variable kind next) same has = absurd (let l : has.0 < 0 = has.1 in omega (arith, l))
  after_resumed node is a of found (Test condition holds fails) same has = absurd (let l : has.0 < 0 = has.1 in omega (arith, l))
  after_resumed node is a of found (Lock lock next) same has =
      subst (λ (b : ℕ). IsResumeAddress p t places b) (contains_one (places.after node) a has) (past_lock node lock next is of found same)
  after_resumed node is a of found (Unlock lock next) same has = by (is_empty (locks_before p t [] next)) refl has
    where
      by : (none : Bool) → (is_empty (locks_before p t [] next)) ≡ none → Contains (if none then [] else places.after node ∷ []) a →
          IsResumeAddress p t places a
      by true e has = absurd (let l : has.0 < 0 = has.1 in omega (arith, l))
      by false e has =
          subst (λ (b : ℕ). IsResumeAddress p t places b) (contains_one (places.after node) a has)
          (past_unlock node lock next is of found same (named_some [] (held_names_before p t next) (some_there (locks_before p t [] next) e)))
  after_resumed node is a of found End same has = absurd (let l : has.0 < 0 = has.1 in omega (arith, l))

  resumed_first : (i : ℕ) → i < length pieces → (m : Node_at i) (a : ℕ) (r : ResumesAre p t places m.a.is.action (t.part.first + i) (resumes_of m.a)) →
      Contains r.first a → IsResumeAddress p t places a
  resumed_first i below m a r has = elim (chosen_or_not p.graph p.boundaries (t.part.first + i) m.a.is m.a.found) [
    | inl chosen ↦
        let one : Contains (places.core (t.part.first + i) ∷ []) a = subst (λ (ns : List ℕ). Contains ns a) (r.chosen chosen) has in
        subst (λ (b : ℕ). IsResumeAddress p t places b) (contains_one (places.core (t.part.first + i)) a one)
        (at_chosen (t.part.first + i) (own_node i below) chosen)
    | inr not ↦
        let none : Contains [] a = subst (λ (ns : List ℕ). Contains ns a) (r.plain not) has in
        absurd (let l : none.0 < 0 = none.1 in omega (arith, l))
  ]

  resumed_at : (i : ℕ) → i < length pieces → (m : Node_at i) (a : ℕ) (r : ResumesAre p t places m.a.is.action (t.part.first + i) (resumes_of m.a)) →
      Contains (r.first ++ resumes_after p t places m.a.is.action (t.part.first + i)) a → IsResumeAddress p t places a
  resumed_at i below m a r has = elim (Contains-append_cases r.first (resumes_after p t places m.a.is.action (t.part.first + i)) a has) [
    | inl first ↦ resumed_first i below m a r first
    | inr last ↦ after_resumed (t.part.first + i) m.a.is a (own_node i below) m.a.found m.a.is.action refl last
  ]

  resumed_by : (i : ℕ) (l : List ℕ) (a : ℕ) → slice_get resumes i ≡ Some l → Contains l a → i < length pieces → Node_at i → IsResumeAddress p t places a
  resumed_by i l a here has below m =
      let list : l ≡ resumes_of m.a = same_Some l (resumes_of m.a) (sym here ∙ resumes_there i m) in
      resumed_at i below m a (resumes_are i m) (subst (λ (ns : List ℕ). Contains ns a) (list ∙ (resumes_are i m).split) has)

  resumed : (a : ℕ) → Contains program.resumes a → IsResumeAddress p t places a
  resumed a c =
      let r : IsIn resumes a = in_one resumes a (subst (λ (ns : List ℕ). Contains ns a) (placed.resumes_are t program pieces closed n) c) in
      let inside : r.number < length resumes = slice_get_within resumes r.number r.list r.there in
      let count : length resumes ≡ length pieces = placed.resumes_count t program pieces closed n in
      let below : r.number < length pieces = omega (arith, inside, count) in
      resumed_by r.number r.list a r.there r.has below (node_at r.number below)

  one_of : (b : ℕ) (ns : List ℕ) → ns ≡ b ∷ [] → Contains ns b
  one_of b ns e = subst (λ (ms : List ℕ). Contains ms b) (sym e) (0, omega arith, refl)

  core_there : (i : ℕ) (m : Node_at i) → IsChosen p.graph p.boundaries (t.part.first + i) → Contains program.resumes (places.core (t.part.first + i))
  core_there i m chosen =
      let r : ResumesAre p t places m.a.is.action (t.part.first + i) (resumes_of m.a) = resumes_are i m in
      let b : ℕ = places.core (t.part.first + i) in
      contained i m b (subst (λ (ns : List ℕ). Contains ns b) (sym r.split)
      (Contains-append_left r.first (resumes_after p t places m.a.is.action (t.part.first + i)) b (one_of b r.first (r.chosen chosen))))

  after_there : (i : ℕ) (m : Node_at i) → resumes_after p t places m.a.is.action (t.part.first + i) ≡ places.after (t.part.first + i) ∷ [] →
      Contains program.resumes (places.after (t.part.first + i))
  after_there i m e =
      let r : ResumesAre p t places m.a.is.action (t.part.first + i) (resumes_of m.a) = resumes_are i m in
      let b : ℕ = places.after (t.part.first + i) in
      let after : List ℕ = resumes_after p t places m.a.is.action (t.part.first + i) in
      contained i m b (subst (λ (ns : List ℕ). Contains ns b) (sym r.split) (Contains-append_right r.first after b (one_of b after e)))

  there : (a : ℕ) → IsResumeAddress p t places a → Contains program.resumes a
  there a (at_chosen node of chosen) =
      let k = numbered node of in
      subst (λ (j : ℕ). IsChosen p.graph p.boundaries j → Contains program.resumes (places.core j)) k.is (core_there k.number (node_at k.number k.below)) chosen
  there a (past_lock node lock next is of found action) =
      let k = numbered node of in
      let m = node_at k.number k.below in
      let found_there : NodeAt p.graph (t.part.first + k.number) is = ap (λ (j : ℕ). slice_get p.graph.nodes j) k.is ∙ found in
      let same : m.a.is.action ≡ Lock lock next = ap (λ (y : Node). y.action) (same_node k.number m is found_there) ∙ action in
      subst (λ (j : ℕ). Contains program.resumes (places.after j)) k.is
      (after_there k.number m (ap (λ (z : Action). resumes_after p t places z (t.part.first + k.number)) same))
  there a (past_unlock node lock next is of found action holds) =
      let k = numbered node of in
      let m = node_at k.number k.below in
      let found_there : NodeAt p.graph (t.part.first + k.number) is = ap (λ (j : ℕ). slice_get p.graph.nodes j) k.is ∙ found in
      let same : m.a.is.action ≡ Unlock lock next = ap (λ (y : Node). y.action) (same_node k.number m is found_there) ∙ action in
      let b : ℕ = places.after (t.part.first + k.number) in
      subst (λ (j : ℕ). Contains program.resumes (places.after j)) k.is
      (after_there k.number m (ap (λ (z : Action). resumes_after p t places z (t.part.first + k.number)) same ∙
      ap (λ (none : Bool). if none then [] else b ∷ []) (not_empty (locks_before p t [] next) (numbers_some [] (held_names_before p t next) holds))))

  ascend : IsStrictlyIncreasing program.resumes
  ascend =
      let place : ℕ → ℕ = λ i. entry (t.part.first + i) in
      subst (λ (ns : List ℕ). IsStrictlyIncreasing ns) (sym (placed.resumes_are t program pieces closed n))
      (ascending (place 0) (place (length resumes)) (concat resumes) (joined_ascend resumes place each))
    where
      each : (i : ℕ) (l : List ℕ) → slice_get resumes i ≡ Some l → Ascends (entry (t.part.first + i)) (entry (t.part.first + suc i)) l
      each i l e =
          let inside : i < length resumes = slice_get_within resumes i l e in
          let count : length resumes ≡ length pieces = placed.resumes_count t program pieces closed n in
          let m = node_at i (omega (arith, inside, count)) in
          let list : resumes_of m.a ≡ l = same_Some (resumes_of m.a) l (sym (resumes_there i m) ∙ e) in
          let next : t.part.first + i + 1 ≡ t.part.first + suc i = omega arith in
          subst (λ (j : ℕ). Ascends (entry (t.part.first + i)) (entry j) l) next
          (subst (λ (ns : List ℕ). Ascends (entry (t.part.first + i)) (entry (t.part.first + i + 1)) ns) list (resumes_ascend i m))

  -- ---- Together

  spaced : (node : ℕ) → IsNodeOf t node → IsChosen p.graph p.boundaries node → places.entry node < places.core node
  spaced node of chosen =
      let k = numbered node of in
      subst (λ (j : ℕ). IsChosen p.graph p.boundaries j → places.entry j < places.core j) k.is (grows k.number (node_at k.number k.below)) chosen
    where
      grows : (i : ℕ) → Node_at i → IsChosen p.graph p.boundaries (t.part.first + i) → places.entry (t.part.first + i) < places.core (t.part.first + i)
      grows i m = own.chosen_grows places (placed_node m.a) m.agrees

  pub is_spaced_code : IsSpacedCode p t program
  is_spaced_code = record {
    is = record {
      places = places;
      of_program = refl;
      begins = placed.entry_first t program pieces closed n;
      ends = placed.entry_end t program pieces closed n are.count;
      follows = follows;
      code = code;
      live = choices.live_are;
      kept = choices.kept_are;
      marks = marks_are;
      marks_count = marks_count;
      resumes = λ a. (resumed a, there a);
      ascending = ascend;
    };
    spaced = spaced;
  }

pub emitted_is_code : EmittedIsCode
emitted_is_code p plan t items thread e =
    subst (λ (is : List CodeItem). IsCodeOfThread p t is) (sym e.joined_are)
    (λ program linked room. is_spaced_code p t (record {
      plan = plan;
      thread = thread;
      c = e.choices;
      choices = e.are;
      pieces = e.pieces;
      are = e.of_nodes;
      program = program;
      n = record { linked = linked; room = room };
    }))

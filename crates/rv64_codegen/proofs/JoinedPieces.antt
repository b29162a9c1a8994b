-- Pieces of nodes, one after another, and the threads that they make up.
use Rattle.std.proofs.Common.{◌≡◌, ◌⊎◌, inl, inr, ⊎_elim, refl, ℕ, zero, suc, ◌+◌, ◌-◌, ◌<◌, ◌≤◌, List, [], ◌∷◌, ◌++◌, append_assoc, length, ◌∙◌, ap, ap₂}
use Rattle.std.proofs.Common.{sym, subst, arith, Some}
use Rattle.std.specs.Prelude.{slice_get, slice_index_or, map, sum_by, Vec}
use Rattle.std.specs.Global.{Global}
use Rattle.std.proofs.lemmas.List.{length-append, length-map}
use Rattle.std.proofs.lemmas.List.Sums.{sum_by-append, sum_by-cons}
use Rattle.std.proofs.lemmas.Option.{slice_get_within, slice_get-get_or}
use Rattle.ido_base.specs.declared.limits.TheConstants.{MOST_CODE_WORDS}
use Rattle.rv64_isa.specs.declared.object.Label.{Label}
use Rattle.rv64_isa.specs.declared.object.CodeItem.{CodeItem}
use Rattle.rv64_isa.specs.declared.object.CodeItem.TheVariants.{Here}
use Rattle.rv64_link.specs.LabelledCode.{most_words_of}
use Rattle.flow_graph.specs.Nodes.{Node, Graph}
use Rattle.flow_graph.specs.Liveness.{NodeAt}
use Rattle.flow_graph.specs.Lowering.{table_of, thread_nodes}
use Rattle.flow_graph.proofs.Public.{length-thread_nodes}
use Rattle.node_code.specs.Pieces.{Appends}
use Rattle.node_code.specs.JoinedPieces.{joined}
use Rattle.thread_code.specs.Plans.{Plan, Thread, IsPlan, IsNodeOf}
use Rattle.rv64_codegen.specs.declared.thread.ThreadPlan as opened
use Rattle.rv64_codegen.specs.ThreadPieces.{IsNodePiece, IsEmitted}
use Rattle.rv64_codegen.specs.links.Threads.{IsOpen, DoesAction, DoesAt, IsPiece, plan_in, thread_of, choices_of}
use Rattle.rv64_codegen.specs.links.Emission.{IsEmittedThread, IsEmittedOf, AreEmittedTo, AreEmitted}
use Rattle.rv64_codegen.proofs.Homes.{one_thread}
use Rattle.rv64_codegen.proofs.HoldSums.{cost_of, costs, thread_costs}
use Rattle.rv64_codegen.proofs.PlannedNodes.{cheap_whole, end_is, node_exists, node_in}
use Rattle.rv64_codegen.proofs.NodePieces.{are_choices}

-- ---- Answers

one_node : (g : Graph) (node : ℕ) (a b : Node) → NodeAt g node a → NodeAt g node b → a ≡ b
one_node g node a b h k = let both : Some a ≡ Some b = sym h ∙ k in cc

-- what is said of the node that was found is said of each that is there
pub at_node : (x : opened.ThreadPlan) (node : ℕ) (found : Node) (old new : List CodeItem) → NodeAt (plan_in x).graph node found →
    Appends old new (DoesAction x node found.action) → Appends old new (DoesAt x node)
at_node x node found old new at m = record {
  piece = m.piece;
  appended = m.appended;
  is = λ is there. subst (λ (z : Node). DoesAction x node z.action m.piece) (one_node (plan_in x).graph node found is at there) m.is;
}

-- ---- Lists

pub get_cases : {X : Type 0} (xs : List X) (y : X) (i : ℕ) (z : X) → slice_get (xs ++ y ∷ []) i ≡ Some z →
    (slice_get xs i ≡ Some z) ⊎ ((i ≡ length xs) × (y ≡ z))
get_cases [] y zero z g = inr (refl, let same : y ≡ z = cc in same)
get_cases [] y (suc i) z g = cc
get_cases (x ∷ xs) y zero z g = inl g
get_cases (x ∷ xs) y (suc i) z g = ⊎_elim (λ l. inl l) (λ r. inr (ap suc r.0, r.1)) (get_cases xs y i z g)

abbrev label_made : ℕ → Label
label_made k = record { 0 = k }

append_nil : (xs : List CodeItem) → xs ++ [] ≡ xs
append_nil [] = refl
append_nil (y ∷ ys) = ap (λ (zs : List CodeItem). y ∷ zs) (append_nil ys)

joined_more : (n : ℕ) (pieces : List (List CodeItem)) (piece : List CodeItem) (label : Label) → label.0 ≡ n + length pieces →
    joined n (pieces ++ piece ∷ []) ≡ (joined n pieces ++ Here label ∷ []) ++ piece
joined_more n [] piece label e =
    let here : n ≡ label.0 = omega (arith, e) in
    ap₂ (λ (k : ℕ) (xs : List CodeItem). Here (label_made k) ∷ xs) here (append_nil piece)
joined_more n (q ∷ pieces) piece label e =
    let first : List CodeItem = Here (record { 0 = n }) ∷ q in
    ap (λ (xs : List CodeItem). first ++ xs) (joined_more (n + 1) pieces piece label (omega (arith, e)))
    ∙ sym (append_assoc first (joined (n + 1) pieces ++ Here label ∷ []) piece)
    ∙ ap (λ (xs : List CodeItem). xs ++ piece) (sym (append_assoc first (joined (n + 1) pieces) (Here label ∷ [])))

-- the pieces of nodes from the one on
words_joined : (p : Plan) (t : Thread) (n : ℕ) (pieces : List (List CodeItem)) (ns : List Node) (first : ℕ) → length pieces ≡ length ns →
    ((i node : ℕ) (piece : List CodeItem) (is : Node) → node ≡ first + i → slice_get pieces i ≡ Some piece → slice_get ns i ≡ Some is →
    sum_by most_words_of piece ≤ cost_of p t p.log is node) → sum_by most_words_of (joined n pieces) ≤ costs p t p.log ns first
words_joined p t n [] ns first e h = omega arith
words_joined p t n (q ∷ pieces) [] first e h = absurd (omega (arith, e))
words_joined p t n (q ∷ pieces) (m ∷ ns) first e h =
    omega (
      arith,
      sum_by-append most_words_of (Here (record { 0 = n }) ∷ q) (joined (n + 1) pieces),
      sum_by-cons most_words_of (Here (record { 0 = n })) q,
      h 0 first q m (omega arith) refl refl,
      words_joined p t (n + 1) pieces ns (suc first) (omega (arith, e)) (λ i node piece is at g k. h (suc i) node piece is (omega (arith, at)) g k),
    )

-- ---- A thread

-- the pieces of its nodes up to one
pub record Begun (x : opened.ThreadPlan) (node : ℕ) (items : List CodeItem) : Type 0 where
  pub pieces : List (List CodeItem)
  pub long : length pieces ≡ node - x.part.first
  pub each : (i : ℕ) (piece : List CodeItem) → slice_get pieces i ≡ Some piece → IsPiece x (x.part.first + i) piece
  pub joined_are : items ≡ joined 0 pieces

pub begun_more : (x : opened.ThreadPlan) (node : ℕ) (old mid new : List CodeItem) (label : Label) → x.part.first ≤ node → label.0 ≡ node - x.part.first →
    Begun x node old → mid ≡ old ++ Here label ∷ [] → Appends mid new (IsPiece x node) → Begun x (node + 1) new
begun_more x node old mid new label from label_is b here a = record {
  pieces = b.pieces ++ a.piece ∷ [];
  long = omega (arith, length-append b.pieces (a.piece ∷ []), b.long, from);
  each = λ i piece g. ⊎_elim (λ l. b.each i piece l)
      (λ r.
      let e : node ≡ x.part.first + i = omega (arith, r.0, b.long, from) in
      let there : IsPiece x (x.part.first + i) a.piece = subst (λ (n : ℕ). IsPiece x n a.piece) e a.is in
      subst (λ (q : List CodeItem). IsPiece x (x.part.first + i) q) r.1 there)
      (get_cases b.pieces a.piece i piece g);
  joined_are = a.appended ∙ ap (λ (xs : List CodeItem). xs ++ a.piece) (here ∙ ap (λ (xs : List CodeItem). xs ++ Here label ∷ []) b.joined_are)
      ∙ sym (joined_more 0 b.pieces a.piece label (omega (arith, label_is, b.long)));
}

pub thread_emitted : (x : opened.ThreadPlan) (items : List CodeItem) → IsOpen x → Begun x x.part.end items → IsEmittedThread x items
thread_emitted x items o b =
    let p = plan_in x in
    let t = thread_of x in
    let ns = thread_nodes (table_of p.flat o.thread.text) o.thread.text t.part.first in
    record {
      emitted = record {
        choices = choices_of x;
        are = are_choices x o;
        pieces = b.pieces;
        of_nodes = record { count = b.long; each = λ i piece is g at. b.each i piece g is at };
        joined_are = b.joined_are;
      };
      words = omega (
        arith,
        ap (λ (xs : List CodeItem). sum_by most_words_of xs) b.joined_are,
        words_joined p t 0 b.pieces ns t.part.first
            (omega (arith, b.long, end_is p o.plan t o.thread, length-thread_nodes (table_of p.flat o.thread.text) o.thread.text t.part.first))
            (λ i node piece is at g k.
            let below : i < length b.pieces = slice_get_within b.pieces i piece g in
            let own : IsNodeOf t (t.part.first + i) = record { from_first = omega arith; below_end = omega (arith, below, b.long) } in
            let there = node_exists p o.plan t o.thread (t.part.first + i) own in
            let e : t.part.first + i - t.part.first ≡ i = omega arith in
            let other : slice_get ns i ≡ Some there.0 = ap (slice_get ns) (sym e) ∙ node_in p o.plan t o.thread (t.part.first + i) there.0 own there.1 in
            let same : there.0 ≡ is = (let both : Some there.0 ≡ Some is = sym other ∙ k in cc) in
            let piece_of : IsNodePiece p t (choices_of x) (t.part.first + i) there.0 piece = b.each i piece g there.0 there.1 in
            subst (λ (m : ℕ). sum_by most_words_of piece ≤ cost_of p t p.log is m) (sym at)
            (subst (λ (z : Node). sum_by most_words_of piece ≤ cost_of p t p.log z (t.part.first + i)) same piece_of.price)),
        thread_costs p t o.plan o.thread,
        cheap_whole p o.plan t o.thread,
      );
    }

-- ---- Threads

pub of_thread : (x : opened.ThreadPlan) (number : ℕ) (items : List CodeItem) → x.number ≡ number → IsOpen x → IsEmittedThread x items →
    IsEmittedOf (plan_in x) number items
of_thread x number items e o is = record {
  each = λ t th same. subst (λ (u : Thread). IsEmitted (plan_in x) u items)
      (one_thread (plan_in x) (thread_of x) t o.thread th (omega (arith, e, same))) is.emitted;
  words = is.words;
}

pub emitted_more : (p : Plan) (count : ℕ) (threads : List (Vec CodeItem Global)) (items : Vec CodeItem Global) → AreEmittedTo p count threads →
    IsEmittedOf p count items.items → AreEmittedTo p (count + 1) (threads ++ items ∷ [])
emitted_more p count threads items are is = record {
  long = omega (arith, length-append threads (items ∷ []), are.long);
  each = λ number other h. ⊎_elim (λ l. are.each number other l)
      (λ r.
      let e : count ≡ number = omega (arith, r.0, are.long) in
      subst (λ (v : Vec CodeItem Global). IsEmittedOf p number v.items) r.1 (subst (λ (n : ℕ). IsEmittedOf p n items.items) e is))
      (get_cases threads items number other h);
}

module _ (p : Plan) (plan : IsPlan p) where
  items_at : (threads : List (Vec CodeItem Global)) (k : ℕ) (items : List CodeItem) →
      slice_get (map (λ (v : Vec CodeItem Global). v.items) threads) k ≡ Some items →
      (v : Vec CodeItem Global) × (slice_get threads k ≡ Some v) × (v.items ≡ items)
  items_at [] k items g = cc
  items_at (v ∷ vs) zero items g = (v, refl, let same : v.items ≡ items = cc in same)
  items_at (v ∷ vs) (suc k) items g = items_at vs k items g

  pub are_emitted : (threads : List (Vec CodeItem Global)) → AreEmittedTo p (length p.graph.threads) threads →
      AreEmitted p (map (λ (v : Vec CodeItem Global). v.items) threads)
  are_emitted threads are = record {
    count = omega (arith, length-map threads (λ (v : Vec CodeItem Global). v.items), are.long);
    each = λ t items th g.
        let w = items_at threads t.number items g in
        subst (λ (xs : List CodeItem). IsEmitted p t xs) w.2 ((are.each t.number w.0 w.1).each t th refl);
  }

  pub few_words : (threads : List (Vec CodeItem Global)) (count k : ℕ) (d : Vec CodeItem Global) → AreEmittedTo p count threads → k < length threads →
      sum_by most_words_of (slice_index_or threads k d).items ≤ MOST_CODE_WORDS
  few_words threads count k d are below = (are.each k (slice_index_or threads k d) (slice_get-get_or threads k d below)).words

-- Lines of nodes, as they are added; the nodes of threads, and the boundaries among them.
use Rattle.std.proofs.Common.{◌≡◌, refl, ℕ, zero, suc, ◌+◌, ◌-◌, ◌<◌, ◌≤◌, List, [], ◌∷◌, ◌++◌, length, map, drop}
use Rattle.std.proofs.Common.{get_or, sym, ◌∙◌, ap, ap₂, Option, Some, arith, append_assoc, length-append}
use Rattle.std.specs.Prelude.{slice_get, option_map}
use Rattle.std.proofs.lemmas.List.{append-nil, drop_more, drop_all, length-map}
use Rattle.std.proofs.lemmas.Option.{none-some, same_Some, slice_get_read, slice_get-map}
use Rattle.c_tree.specs.Flats as f
use Rattle.c_tree.specs.declared.flat.Flat as flat
use Rattle.c_tree.specs.declared.flat.Thread as thread
use Rattle.machine_model.specs.declared.object.Object.{Object}
use Rattle.rv64_isa.specs.declared.object.Marks.{Marks}
use Rattle.flow_graph.specs.declared.cuts.Cuts.{Cuts}
use Rattle.flow_graph.specs.declared.graph.Graph as code
use Rattle.flow_graph.specs.declared.graph.Node as node
use Rattle.flow_graph.specs.declared.graph.Part.{Part}
use Rattle.flow_graph.specs.IdempotentCuts.{Boundaries}
use Rattle.flow_graph.specs.Lowering.{table_of, lowered, part, parts, thread_count, thread_nodes, threads_nodes}
use Rattle.flow_graph.specs.Nodes.{Graph, Node, graph_of, node_of}
use Rattle.flow_graph.proofs.Public.{length-thread_nodes, lowered_threads}
use Rattle.flat_compile.specs.TranslatedForms.{IsTranslatedAs, command_log}
use Rattle.ido_cli.specs.Regions.{Straight, is_chosen, least_lines, line_at, lines_from, node_line, node_lines, regions_of, thread_line}

regroup : (a b c d e : List ℕ) → a ++ b ++ c ++ d ++ e ≡ a ++ (b ++ c ++ d ++ e)
regroup a b c d e = simp append_assoc

-- ---- The lines of a thread's nodes

module _ (text : List ℕ) (g : Graph) (b : Boundaries) where
  lines_more : (number end : ℕ) (x : Node) → number < end → slice_get g.nodes number ≡ Some x →
      lines_from text g b number (end - number) ≡ node_line text number x (is_chosen b number x) ++ lines_from text g b (number + 1) (end - (number + 1))
  lines_more number end x below at =
      ap (lines_from text g b number) (let e : end - number ≡ suc (end - (number + 1)) = omega (arith, below) in e)
      ∙ ap (λ (o : Option Node). line_at text b number o ++ lines_from text g b (number + 1) (end - (number + 1))) at

  pub line_added : (number end : ℕ) (x : Node) (out new whole : List ℕ) → number < end → slice_get g.nodes number ≡ Some x →
      new ≡ out ++ node_line text number x (is_chosen b number x) → out ++ lines_from text g b number (end - number) ≡ whole →
      new ++ lines_from text g b (number + 1) (end - (number + 1)) ≡ whole
  line_added number end x out new whole below at is so_far =
      let rest = lines_from text g b (number + 1) (end - (number + 1)) in
      ap (λ (zs : List ℕ). zs ++ rest) is ∙ append_assoc out (node_line text number x (is_chosen b number x)) rest
      ∙ ap (λ (zs : List ℕ). out ++ zs) (sym (lines_more number end x below at)) ∙ so_far

  pub lines_whole : (number end : ℕ) (out whole : List ℕ) → end ≤ number → out ++ lines_from text g b number (end - number) ≡ whole → out ≡ whole
  lines_whole number end out whole past so_far =
      sym (append-nil out) ∙ ap (λ (n : ℕ). out ++ lines_from text g b number n) (let e : 0 ≡ end - number = omega (arith, past) in e) ∙ so_far

  -- ---- The lines of threads

  module _ (x : Straight) where
    abbrev left_of : List thread.Thread → List Part → (k : ℕ) → List ℕ
    left_of threads ps k = regions_of text g b x k (map f.thread_of (drop k threads)) (drop k ps)

    pub thread_added : (threads : List thread.Thread) (ps : List Part) (k : ℕ) (t : thread.Thread) (p : Part) (out titled listed new whole : List ℕ) →
        k < length threads → k < length ps → t ≡ get_or threads k t → p ≡ get_or ps k p → titled ≡ out ++ thread_line (f.thread_of t) →
        listed ≡ titled ++ node_lines text g b p → new ≡ listed ++ least_lines b x.held k p x.stretches → out ++ left_of threads ps k ≡ whole →
        new ++ left_of threads ps (k + 1) ≡ whole
    thread_added threads ps k t p out titled listed new whole below within thread_is part_is title_is nodes_are stretches_are so_far =
        let rest = left_of threads ps (k + 1) in
        let one : drop k threads ≡ t ∷ drop (k + 1) threads =
        drop_more threads k t below ∙ ap (λ (z : thread.Thread). z ∷ drop (k + 1) threads) (sym thread_is) in
        let two : drop k ps ≡ p ∷ drop (k + 1) ps = drop_more ps k p within ∙ ap (λ (z : Part). z ∷ drop (k + 1) ps) (sym part_is) in
        let title = thread_line (f.thread_of t) in
        let own = node_lines text g b p in
        let least = least_lines b x.held k p x.stretches in
        let both : left_of threads ps k ≡ title ++ own ++ least ++ rest =
        ap₂ (λ (xs : List thread.Thread) (ys : List Part). regions_of text g b x k (map f.thread_of xs) ys) one two in
        let made : new ≡ out ++ title ++ own ++ least =
        stretches_are ∙ ap (λ (zs : List ℕ). zs ++ least) (nodes_are ∙ ap (λ (zs : List ℕ). zs ++ own) title_is) in
        ap (λ (zs : List ℕ). zs ++ rest) made ∙ regroup out title own least rest ∙ ap (λ (zs : List ℕ). out ++ zs) (sym both) ∙ so_far

    none_left : (ts : List f.Thread) (k : ℕ) (ps : List Part) → ps ≡ [] → regions_of text g b x k ts ps ≡ []
    none_left [] k ps none = refl
    none_left (t ∷ ts) k ps none = ap (regions_of text g b x k (t ∷ ts)) none

    pub left_whole : (threads : List thread.Thread) (ps : List Part) (k : ℕ) (out whole : List ℕ) → length ps ≤ k → out ++ left_of threads ps k ≡ whole →
        out ≡ whole
    left_whole threads ps k out whole all so_far =
        sym (append-nil out) ∙ ap (λ (zs : List ℕ). out ++ zs) (sym (none_left (map f.thread_of (drop k threads)) k (drop k ps) (drop_all k ps all)))
        ∙ so_far

-- ---- As many threads as parts

pub parts_many : (ts : List f.Thread) (first : ℕ) → length (parts ts first) ≡ length ts
parts_many [] first = refl
parts_many (t ∷ ts) first = ap suc (parts_many ts (first + thread_count t))

pub threads_many : (x : flat.Flat) (g : code.Graph) → graph_of g ≡ lowered (f.flat_of x) → length g.threads.items ≡ length x.threads.items
threads_many x g is =
    ap (λ (y : Graph). length y.threads) is ∙ ap length (lowered_threads (f.flat_of x)) ∙ parts_many (map f.thread_of x.threads.items) 0
    ∙ length-map x.threads.items f.thread_of

-- ---- A thread's nodes are in the graph

parts_inside : (x : f.Flat) (ts : List f.Thread) (first number : ℕ) (own : Part) → slice_get (parts ts first) number ≡ Some own →
    own.end ≤ first + length (threads_nodes x ts first)
parts_inside x [] first number own g = absurd (none-some own g)
parts_inside x (t ∷ ts) first zero own g =
    let end : first + thread_count t ≡ own.end = ap (λ (y : Part). y.end) (same_Some (part t first) own g) in
    let back : List Node = threads_nodes x ts (first + thread_count t) in
    let whole : length (thread_nodes (table_of x t) t first ++ back) ≡ length (thread_nodes (table_of x t) t first) + length back =
    length-append (thread_nodes (table_of x t) t first) back in
    let many : length (thread_nodes (table_of x t) t first) ≡ thread_count t = length-thread_nodes (table_of x t) t first in
    omega (arith, end, whole, many)
parts_inside x (t ∷ ts) first (suc number) own g =
    let back : List Node = threads_nodes x ts (first + thread_count t) in
    let later : own.end ≤ first + thread_count t + length back = parts_inside x ts (first + thread_count t) number own g in
    let whole : length (thread_nodes (table_of x t) t first ++ back) ≡ length (thread_nodes (table_of x t) t first) + length back =
    length-append (thread_nodes (table_of x t) t first) back in
    let many : length (thread_nodes (table_of x t) t first) ≡ thread_count t = length-thread_nodes (table_of x t) t first in
    omega (arith, later, whole, many)

thread_inside : (x : f.Flat) (number : ℕ) (own : Part) → slice_get (lowered x).threads number ≡ Some own → own.end ≤ length (lowered x).nodes
unfolding lowered
thread_inside x number own g =
    let inside : own.end ≤ 0 + length (threads_nodes x x.threads 0) = parts_inside x x.threads 0 number own g in
    omega (arith, inside)

pub part_inside : (x : f.Flat) (g : code.Graph) (k : ℕ) (own : Part) → graph_of g ≡ lowered x → k < length g.threads.items →
    own ≡ get_or g.threads.items k own →
    own.end ≤ length g.nodes.items
part_inside x g k own is below at =
    let there : slice_get (graph_of g).threads k ≡ Some own = slice_get_read g.threads.items (length g.threads.items) k own refl below at in
    let inside : own.end ≤ length (lowered x).nodes = thread_inside x k own (sym (ap (λ (y : Graph). slice_get y.threads k) is) ∙ there) in
    omega (arith, inside, ap (λ (y : Graph). length y.nodes) is, length-map g.nodes.items node_of)

-- ---- Of each node it is said whether a boundary stands before it

pub cuts_long : (x : f.Flat) (object : Object) (marks : Marks) (cuts : Cuts) → IsTranslatedAs command_log x object marks cuts →
    length cuts.before.items ≡ length (lowered x).nodes
cuts_long x object marks cuts t =
    sym (ap (λ (b : Boundaries). length b.before) t.at_cuts) ∙ t.is.plan.at_writes.before_count
    ∙ ap (λ (y : Graph). length y.nodes) (t.is.plan.lowered ∙ ap lowered t.of_flat)

-- the node that is read
pub node_at : (g : code.Graph) (number : ℕ) (x : node.Node) → number < length g.nodes.items → x ≡ get_or g.nodes.items number x →
    slice_get (graph_of g).nodes number ≡ Some (node_of x)
node_at g number x below is =
    slice_get-map node_of g.nodes.items number ∙ ap (option_map node_of) (slice_get_read g.nodes.items (length g.nodes.items) number x refl below is)

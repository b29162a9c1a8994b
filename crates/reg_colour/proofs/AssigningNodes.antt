-- Which node assigns a local.
use Rattle.std.proofs.Common.{◌≡◌, ◌∙◌, ℕ, ◌<◌, ◌≤◌, ◌==◌, false, length, get_or, map, slice_get, Some, None, IsTrue, refl, ap, arith}
use Rattle.std.specs.Cmp.{unsigned_Decides}
use Rattle.std.specs.Option.{option_map}
use Rattle.std.proofs.lemmas.List.{length-map}
use Rattle.std.proofs.lemmas.Option.{slice_get-map, slice_get_read, slice_get_within}
use Rattle.flow_graph.specs.declared.graph.Node as node
use Rattle.flow_graph.specs.declared.graph.Graph as graph
use Rattle.flow_graph.specs.Nodes.{Node, node_of, graph_of}
use Rattle.flow_graph.specs.Liveness.{NodeAt, IsAssigned}

pub node_at : (g : graph.Graph) (n : ℕ) (x : node.Node) → n < length g.nodes.items → x ≡ get_or g.nodes.items n x → NodeAt (graph_of g) n (node_of x)
node_at g n x lt e = slice_get-map node_of g.nodes.items n ∙ ap (option_map node_of) (slice_get_read g.nodes.items (length g.nodes.items) n x refl lt e)

assigns_as : (g : graph.Graph) (n local : ℕ) (x : node.Node) → NodeAt (graph_of g) n (node_of x) → IsAssigned (graph_of g) local n → x.assigns ≡ Some local
assigns_as g n local x there k =
    let here : slice_get (map node_of g.nodes.items) n ≡ Some k.is = k.at in
    let same : node_of x ≡ k.is = cc in
    ap (λ (y : Node). y.assigns) same ∙ k.assigns

pub assigned : (g : graph.Graph) (n local a : ℕ) (x : node.Node) → n < length g.nodes.items → x ≡ get_or g.nodes.items n x → x.assigns ≡ Some a →
    (IsTrue (a == local) → IsAssigned (graph_of g) local n) × (IsAssigned (graph_of g) local n → IsTrue (a == local))
assigned g n local a x lt e is =
    let there : NodeAt (graph_of g) n (node_of x) = node_at g n x lt e in (
      λ t. record { is = node_of x; at = there; assigns = is ∙ ap (λ (y : ℕ). Some y) ((unsigned_Decides a local).0 t) },
      λ k. (let h : x.assigns ≡ Some local = assigns_as g n local x there k in (unsigned_Decides a local).1 cc),
    )

pub assigns_none : (g : graph.Graph) (n local : ℕ) (x : node.Node) → n < length g.nodes.items → x ≡ get_or g.nodes.items n x → x.assigns ≡ None →
    (IsTrue false → IsAssigned (graph_of g) local n) × (IsAssigned (graph_of g) local n → IsTrue false)
assigns_none g n local x lt e is = (
  λ t. absurd (let no : IsTrue false = t in cc),
  λ k. absurd (let h : x.assigns ≡ Some local = assigns_as g n local x (node_at g n x lt e) k in cc),
)

within : (g : graph.Graph) (n local : ℕ) → IsAssigned (graph_of g) local n → n < length g.nodes.items
within g n local k =
    let lt : n < length (map node_of g.nodes.items) = slice_get_within (map node_of g.nodes.items) n k.is k.at in
    omega (arith, lt, length-map g.nodes.items node_of)

pub no_node : (g : graph.Graph) (n local : ℕ) → length g.nodes.items ≤ n →
    (IsTrue false → IsAssigned (graph_of g) local n) × (IsAssigned (graph_of g) local n → IsTrue false)
no_node g n local le = (
  λ t. absurd (let no : IsTrue false = t in cc),
  λ k. absurd (let lt : n < length g.nodes.items = within g n local k in omega (arith, lt, le)),
)

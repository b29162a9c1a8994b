-- Single elements that nodes write exist.
use Rattle.std.proofs.Common.{◌≡◌, ◌↔◌, ℕ, zero, suc, ◌<◌, ◌≤◌, Bool, List, [], ◌∷◌, length, map, Some, ap, sym, subst, ◌∙◌, arith}
use Rattle.std.specs.Prelude.{slice_get, IsTrue}
use Rattle.std.specs.Option.{option_map}
use Rattle.std.proofs.lemmas.Option.{slice_get_within, slice_get-map}
use Rattle.ido_base.specs.declared.location.Shape.{Shape}
use Rattle.memory_layout.specs.Variables.{elements_of}
use Rattle.flow_graph.specs.declared.graph.Node as code
use Rattle.flow_graph.specs.Nodes.{Node, Graph, node_of}
use Rattle.region_cutter.specs.Places.{WritesAnElement, WriteElements}
use Rattle.region_cutter.proofs.Lines.{code_node}

pub length_there : (shapes : List Shape) (variable : ℕ) (shape : Shape) → slice_get shapes variable ≡ Some shape → elements_of shapes variable ≡ shape.length
length_there [] v shape at = absurd (cc)
length_there (s ∷ shapes) zero shape at = let same : s ≡ shape = cc in ap (λ (x : Shape). x.length) same
length_there (s ∷ shapes) (suc v) shape at = length_there shapes v shape at

abbrev pub HasElement : List Shape → (variable element : ℕ) → Type 0
HasElement shapes variable element = (variable < length shapes) × (element < elements_of shapes variable)

pub element_some : (shapes : List Shape) (variable element : ℕ) (shape : Shape) (answer : Bool) → slice_get shapes variable ≡ Some shape →
    (IsTrue answer ↔ (element < shape.length)) → IsTrue answer ↔ HasElement shapes variable element
element_some shapes variable element shape answer at k =
    let e = length_there shapes variable shape at in (
      λ h. (slice_get_within shapes variable shape at, (let l = k.0 h in omega (arith, l, e))),
      λ d. k.1 (let l = d.1 in omega (arith, l, e)),
    )

pub all_elements : (nodes : List code.Node) (g : Graph) (shapes : List Shape) (n : ℕ) → g.nodes ≡ map node_of nodes → length nodes ≤ n →
    ((k : ℕ) (x : code.Node) → k < n → slice_get nodes k ≡ Some x → WritesAnElement shapes (node_of x)) →
    WriteElements g shapes
all_elements nodes g shapes n is all each = record {
  each = λ k x at.
      let y = code_node nodes k x (ap (λ (xs : List Node). slice_get xs k) (sym is) ∙ at) in
      let lt = slice_get_within nodes k y.0 y.1 in
      subst (λ (z : Node). WritesAnElement shapes z) y.2 (each k y.0 (omega (arith, lt, all)) y.1);
}

pub no_element : (nodes : List code.Node) (g : Graph) (shapes : List Shape) (n : ℕ) (x : code.Node) → g.nodes ≡ map node_of nodes → slice_get nodes n ≡
    Some x → ¬ (WritesAnElement shapes (node_of x)) → ¬ (WriteElements g shapes)
no_element nodes g shapes n x is at no' a =
    no' (a.each n (node_of x) (ap (λ (xs : List Node). slice_get xs n) is ∙ slice_get-map node_of nodes n ∙ ap (option_map node_of) at))

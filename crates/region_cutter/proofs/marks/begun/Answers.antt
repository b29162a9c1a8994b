use Rattle.std.proofs.Common.{inl, inr, ◌∙◌, ◌≡◌, ◌⊎◌, ◌+◌, ◌<◌, ◌≤◌, ℕ, Bool, List, Some, [], length, get_or, replicate, false, refl, sym, subst, ap, arith}
use Rattle.std.specs.Prelude.{slice_get}
use Rattle.std.proofs.lemmas.Option.{slice_get_read}
use Rattle.std.proofs.lemmas.List.{length-map, length-replicate}
use Rattle.flow_graph.specs.declared.graph.Node as code
use Rattle.flow_graph.specs.Nodes.{graph_of, node_of}
use Rattle.region_cutter.specs.links.GraphSearch.{IsSearchStep}
use Rattle.region_cutter.specs.links.NodeMarks.{AreBegun, IsAfterLock, IsAfterLockBelow}
use Rattle.region_cutter.proofs.TrialParts.{locks_none, locks_next}
use Rattle.region_cutter.proofs.GraphSearchComplete.{follows_none, follows_as, follows_both, none_seen, none_waits}
use Rattle.region_cutter.proofs.marks.begun.Goals as goal

at_hand : (nodes items : List code.Node) (i : ℕ) (x : code.Node) → items ≡ nodes → i < length items → x ≡ get_or items i x → slice_get nodes i ≡ Some x
at_hand nodes items i x same lt is = subst (λ (xs : List code.Node). slice_get xs i ≡ Some x) same (slice_get_read items (length items) i x refl lt is)

pub loop-number-init : goal.loop-number-init
loop-number-init c =
    let g = graph_of c.args.graph.now in
    let seen0 = replicate (length c.args.graph.now.nodes.items) false in
    let s = c.in_ok-search.search in
    let count : c.len.result ≡ length c.args.graph.now.nodes.items = omega (arith, c.len.ensures, c.args.graph.now.nodes.ok.0) in
    let none = follows_none (IsAfterLockBelow g 0) seen0 [] (λ n below lt. absurd (locks_none g n below)) in
    let long : s.seen.items ≡ seen0 = subst (λ (k : ℕ). s.seen.items ≡ replicate k false) count c.in_ok-search.ensures.seen in
    subst (λ (w : List ℕ). IsSearchStep (IsAfterLockBelow g 0) seen0 [] s.seen.items w) (sym c.in_ok-search.ensures.waiting)
    (subst (λ (v : List Bool). IsSearchStep (IsAfterLockBelow g 0) seen0 [] v []) (sym long) none)

pub come_after_lock-requires : goal.come_after_lock-requires
come_after_lock-requires c =
    at_hand c.args.graph.now.nodes.items c.deref-node-items.result.now c.loop-number.number c.node-item.result c.deref-node-items.ensures.value
    c.loop-number-test.true c.node-item.is

pub loop-number-preserved : goal.loop-number-preserved
loop-number-preserved c =
    let g = graph_of c.args.graph.now in
    let n = c.loop-number.number in
    let seen0 = replicate (length c.args.graph.now.nodes.items) false in
    let s = c.loop-number.search in
    let s' = c.come_after_lock.new.search in
    follows_as (λ m. IsAfterLockBelow g n m ⊎ IsAfterLock g n m) (IsAfterLockBelow g (n + 1)) seen0 [] s'.seen.items s'.waiting.items (locks_next g n)
    (follows_both (IsAfterLockBelow g n)
    (IsAfterLock g n) seen0 [] s.seen.items s.waiting.items s'.seen.items s'.waiting.items c.loop-number.invariant c.in_ok-come_after_lock.ensures)

pub returns : goal.returns
returns c =
    let g = graph_of c.args.graph.now in
    let nodes = c.args.graph.now.nodes.items in
    let s = c.loop-number.search in
    let most : c.loop-number.number ≤ length c.deref-node-items.result.now = c.loop-number.auto.number-end in
    let least : length c.deref-node-items.result.now ≤ c.loop-number.number = c.loop-number-test.false in
    let all : c.loop-number.number ≡ length nodes = omega (arith, ap length c.deref-node-items.ensures.value) in
    let count : length nodes ≡ length g.nodes = sym (length-map nodes node_of) in
    let f = subst (λ (k : ℕ). IsSearchStep (IsAfterLockBelow g k) (replicate (length nodes) false) [] s.seen.items s.waiting.items)
    (all ∙ count) c.loop-number.invariant in
    let zero' = length-replicate (length nodes) false in
    let done : AreBegun g s.seen.items = record {
      long = f.long ∙ zero' ∙ count;
      each = λ n lt. (
        λ seen. elim (f.known n seen) [
          | inl none ↦ absurd (none_seen (length nodes) n none)
          | inr k ↦ elim (f.new n k) [ inl none ↦ absurd (none_waits [] n refl none) | inr new ↦ new.1 ]
        ],
        λ d. f.all n d (omega (arith, lt, zero', count)),
      );
    } in
    done

use Rattle.std.proofs.Common.{◌≡◌, ◌+◌, ◌<◌, Bool, true, false, Vec, Global, Some, length, get_or, map, sym, subst, refl, ap, ◌∙◌, arith, rules}
use Rattle.std.specs.Prelude.{slice_get}
use Rattle.std.proofs.lemmas.List.{length-map}
use Rattle.std.proofs.lemmas.Option.{slice_get_read, slice_get-map, get_or_from_slice_get}
use Rattle.std.specs.Option.{option_map}
use Rattle.flow_graph.specs.declared.cuts.Cuts.{Cuts}
use Rattle.flow_graph.specs.Nodes.{graph_of, node_of}
use Rattle.flow_graph.specs.Liveness.{NodeAt}
use Rattle.flow_graph.specs.IdempotentCuts.{IsChosen, HasBefore, boundaries_of}
use Rattle.region_cutter.specs.links.BoundaryTrials.{IsTried, IsTrialPass, unlocks}
use Rattle.region_cutter.specs.links.CoveredReads.{AreCovered}
use Rattle.region_cutter.proofs.BoundariesEverywhere.{unlocked, not_unlocked}
use Rattle.region_cutter.proofs.TrialPasses.{pass_first, pass_over, pass_gone, pass_kept}
use Rattle.region_cutter.proofs.trying.take_away.Goals as goal
use Rattle.region_cutter.proofs.trying.take_away.Goals.{Joined-index, then-index+then-not-unlocks+in_ok-try_without+then-branch}
use Rattle.region_cutter.proofs.trying.take_away.Goals.{then-index+then-not-unlocks+in_ok-try_without+else-branch, else-index}
use Rattle.region_cutter.proofs.trying.take_away.Goals.{else-index-via-then-index+else-not-unlocks, else-index-via-else-index}

-- the node in hand
at_hand : (c : Joined-index) → NodeAt (graph_of c.args.graph.now) c.loop-number.number (node_of c.node-item.result)
at_hand c =
    let nodes = c.args.graph.now.nodes.items in
    let i = c.loop-number.number in
    let lt : i < length nodes = search rules in
    let at : slice_get nodes i ≡ Some c.node-item.result = slice_get_read nodes (length nodes) i c.node-item.result refl lt (search rules) in
    slice_get-map node_of nodes i ∙ ap (option_map node_of) at

stands : (c : Joined-index) → c.index.result.now ≡ true → HasBefore (boundaries_of c.loop-number.cuts) c.loop-number.number
stands c is =
    let bs = c.loop-number.cuts.before.items in
    let i = c.loop-number.number in
    let nodes = c.args.graph.now.nodes.items in
    let count : length bs ≡ length (map node_of nodes) = c.loop-number.invariant.pass.kept.places.before_count in
    let same : length (map node_of nodes) ≡ length nodes = simp length-map in
    let below : i < length nodes = search rules in
    let lt : i < length bs = omega arith in
    slice_get_read bs (length bs) i true refl lt (let P : Bool → Type 0 = λ b. b ≡ get_or bs i b in subst P is c.index.ensures)

pub loop-number-init : goal.loop-number-init
loop-number-init c =
    record { pass = pass_first (graph_of c.args.graph.now) (boundaries_of c.args.cuts.now) c.requires.kept; covered = c.requires.covered }

pub loop-number-preserved : goal.loop-number-preserved
loop-number-preserved c =
    let g = graph_of c.args.graph.now in
    let old = boundaries_of c.args.cuts.now in
    let now = boundaries_of c.loop-number.cuts in
    let i = c.loop-number.number in
    let any = c.loop-number.any in
    let over = λ (free : ¬ (IsChosen g now i)). pass_over g old now i any c.loop-number.invariant.pass free in
    let chosen = λ (is : c.index.result.now ≡ true) (no : unlocks (node_of c.node-item.result).action ≡ false).
    let k : IsChosen g now i = record { stands = stands c is; free = not_unlocked g i (node_of c.node-item.result) (at_hand c) no } in k in
    let both_from = λ (x : Cuts) (v : Vec (Vec Bool Global) Global) (is : c.if-index.cuts ≡ x) (same : c.if-index.covered ≡ v)
    (p : IsTrialPass g old (boundaries_of x) (i + 1) c.if-index.any) (k : AreCovered g (boundaries_of x) v.items).
    let r : record {
      pass : IsTrialPass g old (boundaries_of c.if-index.cuts) (i + 1) c.if-index.any;
      covered : AreCovered g (boundaries_of c.if-index.cuts) c.if-index.covered.items;
    } = record {
      pass = subst (λ (y : Cuts). IsTrialPass g old (boundaries_of y) (i + 1) c.if-index.any) (sym is) p;
      covered = subst (λ (y : Cuts). AreCovered g (boundaries_of y) c.if-index.covered.items) (sym is)
          (subst (λ (u : Vec (Vec Bool Global) Global). AreCovered g (boundaries_of x) u.items) (sym same) k);
    } in r in
    elim c.if-index.branch [
      | then-index+then-not-unlocks+in_ok-try_without+then-branch w ↦ (
          let next = boundaries_of w.try_without.new.cuts in
          let tried : IsTried g now next i w.in_ok-try_without.field-0 = w.in_ok-try_without.ensures.tried in
          let gone : IsTried g now next i true = subst (λ (b : Bool). IsTried g now next i b) w.if-branch.true tried in
          let no : unlocks (node_of c.node-item.result).action ≡ false = cc (w.unlocks.ensures, w.if-not-unlocks.true) in
          both_from w.try_without.new.cuts w.try_without.new.covered w.cuts-is w.covered-is
          (subst (λ (b : Bool). IsTrialPass g old next (i + 1) b) (sym w.any-is)
          (pass_gone g old now next i any c.loop-number.invariant.pass (chosen w.if-index.true no) gone)) w.in_ok-try_without.ensures.covered)
      | then-index+then-not-unlocks+in_ok-try_without+else-branch w ↦ (
          let next = boundaries_of w.try_without.new.cuts in
          let tried : IsTried g now next i w.in_ok-try_without.field-0 = w.in_ok-try_without.ensures.tried in
          let kept : IsTried g now next i false = subst (λ (b : Bool). IsTried g now next i b) w.if-branch.false tried in
          let no : unlocks (node_of c.node-item.result).action ≡ false = cc (w.unlocks.ensures, w.if-not-unlocks.true) in
          both_from w.try_without.new.cuts w.try_without.new.covered w.cuts-is w.covered-is
          (subst (λ (b : Bool). IsTrialPass g old next (i + 1) b) (sym w.any-is)
          (pass_kept g old now next i any c.loop-number.invariant.pass (chosen w.if-index.true no) kept)) w.in_ok-try_without.ensures.covered)
      | else-index w ↦ (
          let free : ¬ (IsChosen g now i) = elim w.else-index.branch [
            | else-index-via-then-index+else-not-unlocks v ↦ (λ k.
                let yes : unlocks (node_of c.node-item.result).action ≡ true = cc (v.unlocks.ensures, v.if-not-unlocks.false) in
                k.free (unlocked g i (node_of c.node-item.result) (node_of c.node-item.result).action (at_hand c) refl yes))
            | else-index-via-else-index v ↦ (λ k.
                let read = get_or_from_slice_get now.before i true c.index.result.now k.stands in
                let is = c.index.ensures in
                let no = v.if-index.false in
                cc)
          ] in
          both_from c.loop-number.cuts c.loop-number.covered w.cuts-is w.covered-is
          (subst (λ (b : Bool). IsTrialPass g old now (i + 1) b) (sym w.any-is) (over free)) c.loop-number.invariant.covered)
    ]

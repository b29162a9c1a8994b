use Rattle.std.proofs.Common.{◌≡◌, ◌↔◌, Bool, false, List, length, take, drop, ◌++◌, replicate, subst, ap, ◌∙◌, arith}
use Rattle.std.specs.Prelude.{IsTrue, Some}
use Rattle.std.proofs.lemmas.List.{length-replicate}
use Rattle.flow_graph.specs.Nodes.{graph_of}
use Rattle.region_checker.specs.declared.paths.Path.{Path}
use Rattle.region_checker.specs.links.MarkPropagation.{AreSpread, Marks}
use Rattle.region_checker.specs.links.ConflictSearch.{IsPastMarked, LeadsToStore}
use Rattle.region_checker.proofs.PropagationPasses.{written}
use Rattle.region_checker.proofs.FoundConflicts.{spread_along, one_marked, follows_is}
use Rattle.region_checker.proofs.conflicts.follows.Goals as goal

pub returns : goal.returns
returns c b r =
    let g = c.args.graph.now in
    let k = length g.nodes.items in
    let paths = c.args.regions.now.paths.items in
    let begins = c.args.regions.now.begins.items in
    let none = replicate {A = Bool} k false in
    let read = c.args.read in
    let store = c.args.store in
    let marks = c.mark.new.marks in
    let after = c.spread-followed.result.items in
    let m : Marks (λ n. Some read ≡ Some n) none marks c.mark.result =
    subst (λ (ms : List Bool). Marks (λ n. Some read ≡ Some n) ms marks c.mark.result) (c.deref_mut.ensures.value ∙ c.in_ok-marks.ensures) c.mark.ensures in
    let count : length marks ≡ k = m.long ∙ length-replicate {A = Bool} k false in
    let held = c.in_ok-marks.marks in
    let size : length marks ≡ held.len = omega (arith, c.mark.auto.marks, c.deref_mut.ensures.len, ap length c.deref_mut.ensures.value, held.ok.0) in
    let start = written held.len marks held.items size in
    let s : AreSpread paths none marks after =
    spread_along paths c.deref.result.now none c.deref-2.result.now marks (take held.len (marks ++ drop (length marks) held.items)) after c.deref.ensures.value
    (c.deref-2.ensures.value ∙ c.in_ok-stops.ensures) start c.spread-followed.ensures.spread in
    let long : length after ≡ length marks = c.spread-followed.ensures.long ∙ ap length start in
    let both : IsPastMarked paths after store ↔ LeadsToStore (graph_of g) b (λ n. n ≡ read) store =
    follows_is g b read store paths begins marks after r count (one_marked k read marks c.mark.result c.requires.exists m) long s in
    let found : IsTrue c.is_after.result ↔ IsPastMarked paths after store =
    subst (λ (ws : List Path). IsTrue c.is_after.result ↔ IsPastMarked ws after store) c.deref-3.ensures.value
    (subst (λ (ms : List Bool). IsTrue c.is_after.result ↔ IsPastMarked c.deref-3.result.now ms store) c.deref-4.ensures.value c.is_after.ensures) in
    (λ t. both.0 (found.0 t), λ f. found.1 (both.1 f))

use Rattle.std.proofs.Common.{ℕ, Option, Some, sym, subst}
use Rattle.flow_graph.specs.Nodes.{graph_of}
use Rattle.flow_graph.specs.IdempotentCuts.{boundaries_of}
use Rattle.region_checker.specs.declared.checking.Conflict as found
use Rattle.region_checker.specs.links.ConflictSearch.{IsLeastOf, IsHitSome, IsFirstFound}
use Rattle.region_checker.proofs.FoundConflicts.{no_hit, first_found}
use Rattle.region_checker.proofs.checking.first_conflict.Goals as goal

pub returns : goal.returns
returns c =
    let g = graph_of c.args.graph.now in
    let b = boundaries_of c.args.cuts.now in
    no_hit g b (subst (λ (o : Option ℕ). IsLeastOf (IsHitSome g b) o) c.in-None.is (c.in_ok-store.ensures b c.in_ok-regions.ensures.are))

pub returns-in-Some : goal.returns-in-Some
returns-in-Some c =
    let g = graph_of c.args.graph.now in
    let b = boundaries_of c.args.cuts.now in
    let least : IsLeastOf (IsHitSome g b) (Some c.in-Some.store) =
    subst (λ (o : Option ℕ). IsLeastOf (IsHitSome g b) o) c.in-Some.is (c.in_ok-store.ensures b c.in_ok-regions.ensures.are) in
    subst (λ (o : Option found.Conflict). IsFirstFound g b o) (sym c.with_read.ensures)
    (first_found g b c.in-Some.store c.in_ok-read-in-Some.read least (c.in_ok-read-in-Some.ensures b c.in_ok-regions.ensures.are))

use Rattle.std.proofs.Common.{◌≡◌, ◌↔◌, Bool, true, false, List, set, refl, ap, sym, subst, arith}
use Rattle.std.specs.Prelude.{IsTrue}
use Rattle.std.proofs.lemmas.Option.{slice_get_within}
use Rattle.flow_graph.specs.Nodes.{graph_of}
use Rattle.flow_graph.specs.IdempotentCuts.{Boundaries, IsIdempotent, boundaries_of, without}
use Rattle.region_cutter.proofs.Lists.{set_back}
use Rattle.region_cutter.proofs.TrialPasses.{tried}
use Rattle.region_cutter.proofs.CoveredReads.{covered_without}
use Rattle.region_cutter.specs.links.CoveredReads.{AreCovered}
use Rattle.region_cutter.proofs.trying.try_without.Goals as goal

pub is_idempotent_without-requires-clause-locks : goal.is_idempotent_without-requires-clause-locks
is_idempotent_without-requires-clause-locks c = λ n lock. let h = c.requires.locks n lock in record { locks = h.locks; stands = h.stands }

pub index_mut-requires-then-not-taken : goal.index_mut-requires-then-not-taken
index_mut-requires-then-not-taken c =
    omega (arith, slice_get_within c.args.cuts.now.before.items c.args.node true c.requires.stands, c.args.cuts.now.before.ok.0)

pub returns-then-not-taken-clause-tried : goal.returns-then-not-taken-clause-tried
returns-then-not-taken-clause-tried c =
    let g = graph_of c.args.graph.now in
    let old = boundaries_of c.args.cuts.now in
    let node = c.args.node in
    let k : IsTrue c.in_ok-taken.taken ↔ IsIdempotent g (without old node) = c.in_ok-taken.ensures.known old refl c.requires.stands c.requires.idempotent in
    tried g old (record { before = set (set old.before node false) node true; after_lock = old.after_lock }) node c.in_ok-taken.taken k
    (λ t. absurd (let f : c.in_ok-taken.taken ≡ false = c.if-not-taken.true in cc))
    (λ t. ap (λ (xs : List Bool). let b : Boundaries = record { before = xs; after_lock = old.after_lock } in b) (set_back old.before node c.requires.stands))

pub returns-else-not-taken-clause-tried : goal.returns-else-not-taken-clause-tried
returns-else-not-taken-clause-tried c =
    let g = graph_of c.args.graph.now in
    let old = boundaries_of c.args.cuts.now in
    let node = c.args.node in
    let k : IsTrue c.in_ok-taken.taken ↔ IsIdempotent g (without old node) = c.in_ok-taken.ensures.known old refl c.requires.stands c.requires.idempotent in
    tried g old (without old node) node c.in_ok-taken.taken k (λ t. refl) (λ t. absurd (let f : c.in_ok-taken.taken ≡ true = c.if-not-taken.false in cc))

pub is_idempotent_without-requires-clause-covered : goal.is_idempotent_without-requires-clause-covered
is_idempotent_without-requires-clause-covered c =
    covered_without (graph_of c.args.graph.now) (boundaries_of c.args.cuts.now) c.args.node c.args.covered.now.items c.requires.stands c.requires.covered

pub returns-then-not-taken-clause-covered : goal.returns-then-not-taken-clause-covered
returns-then-not-taken-clause-covered c =
    let g = graph_of c.args.graph.now in
    let old = boundaries_of c.args.cuts.now in
    let back = ap (λ (xs : List Bool). let b : Boundaries = record { before = xs; after_lock = old.after_lock } in b)
    (set_back old.before c.args.node c.requires.stands) in
    subst (λ (b : Boundaries). AreCovered g b c.is_idempotent_without.new.covered.items) (sym back)
    (c.in_ok-taken.ensures.covered.with_it old c.if-not-taken.true refl c.requires.stands c.requires.covered)

pub returns-else-not-taken-clause-covered : goal.returns-else-not-taken-clause-covered
returns-else-not-taken-clause-covered c = c.in_ok-taken.ensures.covered.without_it c.if-not-taken.false

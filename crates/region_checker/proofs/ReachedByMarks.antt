-- Where one arrives, by marks and by the graph.
use Rattle.std.proofs.Common.{◌≡◌, ◌↔◌, ℕ, ◌<◌, Bool, List, length, refl, ◌∙◌, arith}
use Rattle.std.proofs.lemmas.Option.{slice_get_within}
use Rattle.flow_graph.specs.Nodes.{Graph}
use Rattle.flow_graph.specs.IdempotentCuts.{Boundaries}
use Rattle.region_checker.specs.declared.paths.Path.{Path}
use Rattle.region_checker.specs.links.MarkPropagation.{IsMarked, PathLeads, IsInnerEdge, ArePaths, Arrives, starts, goes_on, AreSpread}
use Rattle.region_checker.specs.links.ConflictSearch.{AreArrived}

-- the start from which one arrives
pub record Origin (leads : ℕ → ℕ → Type 0) (start stop : ℕ → Type 0) (node : ℕ) : Type 0 where
  pub first : ℕ
  pub is : start first
  pub comes : Arrives leads (λ n. n ≡ first) stop node

pub origin : (leads : ℕ → ℕ → Type 0) (start stop : ℕ → Type 0) (n : ℕ) → Arrives leads start stop n → Origin leads start stop n
origin leads start stop n (starts k s) = record { first = k; is = s; comes = starts k refl }
origin leads start stop n (goes_on from k goes free a) =
    let o = origin leads start stop from a in
    record { first = o.first; is = o.is; comes = goes_on from k goes free o.comes }

-- a node that is arrived at from some starts is so from more starts
pub from_more : (leads : ℕ → ℕ → Type 0) (start more stop : ℕ → Type 0) → ((n : ℕ) → start n → more n) → (n : ℕ) → Arrives leads start stop n →
    Arrives leads more stop n
from_more leads start more stop up n (starts k s) = starts k (up k s)
from_more leads start more stop up n (goes_on from k goes free a) = goes_on from k goes free (from_more leads start more stop up from a)

-- marks that are spread, by the graph
pub record MarksPaths (g : Graph) (b : Boundaries) (paths : List Path) (start stop : ℕ → Type 0) (before stops : List Bool) : Type 0 where
  pub lead : ArePaths g b paths
  pub count : length before ≡ length g.nodes
  pub begins : (n : ℕ) → IsMarked before n ↔ ((n < length g.nodes) × start n)
  pub ends : (n : ℕ) → n < length g.nodes → IsMarked stops n ↔ stop n

within : (g : Graph) (b : Boundaries) (from to : ℕ) → IsInnerEdge g b from to → from < length g.nodes
within g b from to goes = slice_get_within g.nodes from goes.edge.is goes.edge.at

to_graph : (g : Graph) (b : Boundaries) (paths : List Path) (start stop : ℕ → Type 0) (before stops : List Bool) →
    MarksPaths g b paths start stop before stops →
    (n : ℕ) → Arrives (PathLeads paths) (IsMarked before) (IsMarked stops) n → Arrives (IsInnerEdge g b) start stop n
to_graph g b paths start stop before stops f n (starts k s) = starts k ((f.begins k).0 s).1
to_graph g b paths start stop before stops f n (goes_on from k goes free a) =
    let on = (f.lead.each from k).0 goes in
    goes_on from k on (λ s. free ((f.ends from (within g b from k on)).1 s)) (to_graph g b paths start stop before stops f from a)

from_graph : (g : Graph) (b : Boundaries) (paths : List Path) (start stop : ℕ → Type 0) (before stops : List Bool) →
    MarksPaths g b paths start stop before stops →
    (n : ℕ) → n < length g.nodes → Arrives (IsInnerEdge g b) start stop n → Arrives (PathLeads paths) (IsMarked before) (IsMarked stops) n
from_graph g b paths start stop before stops f n lt (starts k s) = starts k ((f.begins k).1 (lt, s))
from_graph g b paths start stop before stops f n lt (goes_on from k goes free a) =
    let here = within g b from k goes in
    goes_on from k ((f.lead.each from k).1 goes) (λ m. free ((f.ends from here).0 m)) (from_graph g b paths start stop before stops f from here a)

pub arrived : (g : Graph) (b : Boundaries) (paths : List Path) (start stop : ℕ → Type 0) (before stops after : List Bool) →
    MarksPaths g b paths start stop before stops →
    length after ≡ length before → AreSpread paths stops before after → AreArrived g b start stop after
arrived g b paths start stop before stops after f long spread = record {
  count = long ∙ f.count;
  each = λ n. (
    λ m. let d = (spread n).0 m in (omega (arith, d.0, f.count), to_graph g b paths start stop before stops f n d.1),
    λ d. (spread n).1 (omega (arith, d.0, f.count), from_graph g b paths start stop before stops f n d.0 d.1),
  );
}

-- Worked rows: stores whose own clean may be left out, and stores whose clean may not.
use Rattle.std.proofs.Common.{◌≡◌, inl, inr, ℕ, ◌/◌, Bool, true, false, List, [], ◌∷◌, Some, None, refl, ap, sym, subst, ◌∙◌, arith}
use Rattle.std.specs.Prelude.{slice_get, pos}
use Rattle.ido_base.specs.declared.place.Place.{Place}
use Rattle.ido_base.specs.declared.location.Location.{Location}
use Rattle.ido_base.specs.declared.location.Shape.{Shape}
use Rattle.ido_base.specs.Layout.{line_bytes, variable_at}
use Rattle.ido_ints.specs.declared.kinds.Kind.TheVariants as kind
use Rattle.ido_ints.specs.TypedNumbers.{typed}
use Rattle.c_tree.specs.Exprs as e
use Rattle.flow_graph.specs.Nodes.{Node, Graph, Lock, Unlock, End}
use Rattle.flow_graph.specs.Lowering.{Table, plain_node, store_node, test_node}
use Rattle.flow_graph.specs.Liveness.{NodeAt}
use Rattle.flow_graph.specs.IdempotentCuts.{Boundaries, IsEdge, IsBoundary, IsLock, locks}
use Rattle.flow_graph.specs.OmittedCleans.{StoresInLine, ReachesUncleaned, at_boundary, goes_on, IsCleanedLater}
use Rattle.region_cutter.proofs.Edges.{edge_from, edge_to, same_node}

abbrev no_table : Table
no_table = record { variables = []; names = [] }

abbrev here : Place
here = record { 0 = 0 }

abbrev elements : (lo hi : ℕ) → Location
elements lo hi = record { variable = 0; lo = lo; hi = hi; key = None }

abbrev stores : Location → (next : ℕ) → Node
stores written next = store_node here 0 kind.Long written next

abbrev mutex : e.LockName
mutex = record { mutex = 0; key = None }

abbrev lock : Node
lock = plain_node here (Lock mutex 1)

abbrev unlock : (next : ℕ) → Node
unlock next = plain_node here (Unlock mutex next)

abbrev end : Node
end = plain_node here End

-- an array of 16 elements of 8 bytes: elements 0 to 7 are in one line, and 8 to 15 in the next one
abbrev shapes : List Shape
shapes = record { bytes = 8; length = 16 } ∷ []

-- boundaries after the lock at node 0 and before others
abbrev between : List Bool → Boundaries
between before = record { before = before; after_lock = true ∷ [] }

-- ---- What is said of nodes that store

next_is : (g : Graph) (n to next : ℕ) (written : Location) → NodeAt g n (stores written next) → IsEdge g n to → next ≡ to
next_is g n to next written at edge = elim (edge_from g n to (stores written next) at edge) [
  | inl goes ↦ (let is : Some next ≡ Some to = goes in let same : next ≡ to = cc in same)
  | inr goes ↦ absurd (let is : None ≡ Some to = goes in cc)
]

line_is : (g : Graph) (n next line : ℕ) (written : Location) → NodeAt g n (stores written next) → StoresInLine g shapes line n →
    variable_at shapes written.variable written.lo / line_bytes ≡ line
line_is g n next line written at s =
    let same : stores written next ≡ s.is = same_node g n (stores written next) s.is at s.at in
    let both : Some written ≡ Some s.written = ap (λ (x : Node). x.writes) same ∙ s.writes in
    let one : written ≡ s.written = cc in
    ap (λ (l : Location). variable_at shapes l.variable l.lo / line_bytes) one ∙ s.in_line

no_lock : (g : Graph) (n next : ℕ) (written : Location) → NodeAt g n (stores written next) → IsLock g n → ⊥
no_lock g n next written at (locks x name after at' is) =
    let same : stores written next ≡ x = same_node g n (stores written next) x at at' in
    let action = ap (λ (y : Node). y.action) same ∙ is in
    cc

no_boundary : (g : Graph) (b : Boundaries) (n to next : ℕ) (written : Location) → NodeAt g n (stores written next) → slice_get b.before to ≡ Some false →
    ¬ (IsBoundary g b n to)
no_boundary g b n to next written at free (inl after) = no_lock g n next written at after.locks
no_boundary g b n to next written at free (inr has) = (let both : Some false ≡ Some true = sym free ∙ has in cc)

-- where the next node stores into the line, nothing is left uncleaned
cleaned_next : (g : Graph) (b : Boundaries) (n next line : ℕ) (written : Location) → NodeAt g n (stores written next) → slice_get b.before next ≡
    Some false → StoresInLine g shapes line next → ¬ (ReachesUncleaned g b shapes line n)
cleaned_next g b n next line written at free s (at_boundary _ to edge over) =
    let to_next = next_is g n to next written at edge in
    no_boundary g b n to next written at (subst (λ (m : ℕ). slice_get b.before m ≡ Some false) to_next free) over
cleaned_next g b n next line written at free s (goes_on _ to edge inside past rest) =
    past (subst (λ (m : ℕ). StoresInLine g shapes line m) (next_is g n to next written at edge) s)

-- ---- Two stores in a section

abbrev section : (one other : Location) → Graph
section one other = record { nodes = lock ∷ stores one 2 ∷ stores other 3 ∷ unlock 4 ∷ end ∷ []; threads = [] }

abbrev unlocking : Boundaries
unlocking = between (false ∷ false ∷ false ∷ true ∷ false ∷ [])

-- of elements 0 and 7: the first may be left uncleaned
first_of_one_line : IsCleanedLater (section (elements 0 0) (elements 7 7)) unlocking shapes 1
first_of_one_line = record {
  line = 4194304;
  stores = record { is = _; at = refl; written = elements 0 0; writes = refl; single = refl; in_line = refl };
  later = cleaned_next (section (elements 0 0) (elements 7 7)) unlocking 1 2 4194304 (elements 0 0) refl refl
      (record { is = _; at = refl; written = elements 7 7; writes = refl; single = refl; in_line = refl });
}

-- the second may not
second_of_one_line : ¬ (IsCleanedLater (section (elements 0 0) (elements 7 7)) unlocking shapes 2)
second_of_one_line c = c.later (at_boundary 2 3 (edge_to (section (elements 0 0) (elements 7 7)) 2 3 (stores (elements 7 7) 3) refl (inl refl)) (inr refl))

-- of elements 7 and 8: neither
first_of_two_lines : ¬ (IsCleanedLater (section (elements 7 7) (elements 8 8)) unlocking shapes 1)
first_of_two_lines c =
    let g = section (elements 7 7) (elements 8 8) in
    let one : 4194304 ≡ c.line = line_is g 1 2 c.line (elements 7 7) refl c.stores in
    let past : ¬ (StoresInLine g shapes c.line 2) =
    λ s. (let other : 4194305 ≡ c.line = line_is g 2 3 c.line (elements 8 8) refl s in absurd (omega (arith, one, other))) in
    c.later (goes_on 1 2 (edge_to g 1 2 (stores (elements 7 7) 2) refl (inl refl)) (no_boundary g unlocking 1 2 2 (elements 7 7) refl refl) past
    (at_boundary 2 3 (edge_to g 2 3 (stores (elements 8 8) 3) refl (inl refl)) (inr refl)))

-- with a boundary between two stores into one line: neither
first_before_boundary : ¬ (IsCleanedLater (section (elements 0 0) (elements 7 7)) (between (false ∷ false ∷ true ∷ true ∷ false ∷ [])) shapes 1)
first_before_boundary c = c.later (at_boundary 1 2 (edge_to (section (elements 0 0) (elements 7 7)) 1 2 (stores (elements 0 0) 2) refl (inl refl)) (inr refl))

-- an element that isn't known has no line
first_unknown : ¬ (IsCleanedLater (section (elements 0 7) (elements 0 0)) unlocking shapes 1)
first_unknown c =
    let g = section (elements 0 7) (elements 0 0) in
    let same : stores (elements 0 7) 2 ≡ c.stores.is = same_node g 1 (stores (elements 0 7) 2) c.stores.is refl c.stores.at in
    let both : Some (elements 0 7) ≡ Some c.stores.written = ap (λ (x : Node). x.writes) same ∙ c.stores.writes in
    let one : elements 0 7 ≡ c.stores.written = cc in
    let single : 0 ≡ 7 = ap (λ (l : Location). l.lo) one ∙ c.stores.single ∙ sym (ap (λ (l : Location). l.hi) one) in
    absurd (omega (arith, single))

-- ---- A store, and another one that is made only where a condition holds

abbrev condition : e.Placed
condition = record { place = here; expr = e.Constant (typed kind.Int (pos 1)) }

abbrev choice : Graph
choice = record { nodes = lock ∷ stores (elements 0 0) 2 ∷ test_node no_table here condition 3 4 ∷ stores (elements 7 7) 4 ∷ unlock 5 ∷ end ∷ []; threads = [] }

abbrev choosing : Boundaries
choosing = between (false ∷ false ∷ false ∷ false ∷ true ∷ false ∷ [])

-- on the other path the line is left uncleaned
first_of_a_choice : ¬ (IsCleanedLater choice choosing shapes 1)
first_of_a_choice c =
    let no_store : ¬ (StoresInLine choice shapes c.line 2) = λ s.
    (let same : test_node no_table here condition 3 4 ≡ s.is = same_node choice 2 (test_node no_table here condition 3 4) s.is refl s.at in
    let both : None ≡ Some s.written =
    ap (λ (x : Node). x.writes) same ∙ s.writes in cc) in
    c.later (goes_on 1 2 (edge_to choice 1 2 (stores (elements 0 0) 2) refl (inl refl)) (no_boundary choice choosing 1 2 2 (elements 0 0) refl refl) no_store
    (at_boundary 2 4 (edge_to choice 2 4 (test_node no_table here condition 3 4) refl (inr refl)) (inr refl)))

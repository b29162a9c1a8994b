-- Worked rows: graphs of flat forms, and what is live in one.
use Rattle.std.proofs.Common.{◌≡◌, ◌⊎◌, inl, inr, ℕ, List, [], ◌∷◌, map, Some, None, length, refl, ap, ◌∙◌, arith}
use Rattle.std.specs.Prelude.{pos, codes}
use Rattle.ido_base.specs.declared.place.Place.{Place}
use Rattle.ido_base.specs.declared.location.Location.{Location}
use Rattle.ido_ints.specs.declared.kinds.Kind.TheVariants as kind
use Rattle.ido_ints.specs.declared.operators.Binary.TheVariants as b
use Rattle.ido_ints.specs.TypedNumbers.{typed}
use Rattle.ido_ints.specs.Reduction as reduction
use Rattle.c_tree.specs.Trees as t
use Rattle.c_tree.specs.Exprs as e
use Rattle.c_tree.specs.Flats as f
use Rattle.flow_graph.specs.Nodes.{Node, Graph, successors}
use Rattle.flow_graph.specs.Lowering.{lowered}
use Rattle.flow_graph.specs.Liveness.{NodeAt, IsLive, is_read, is_read_later}

abbrev at : ℕ → Place
at place = record { 0 = place }

abbrev name : List ℕ → ℕ → t.Name
name text place = record { text = text; place = at place }

abbrev int : ℕ → e.Expr
int n = e.Constant (typed kind.Int (pos n))

abbrev placed : ℕ → e.Expr → e.Placed
placed place x = record { place = at place; expr = x }

abbrev all_of : List f.Statement → f.Statements
all_of [] = f.no_statement
all_of (x ∷ xs) = f.statement_and x (all_of xs)

abbrev edges : Graph → List (List ℕ)
edges g = map (λ (x : Node). successors x.action) g.nodes

abbrev places : Graph → List Place
places g = map (λ (x : Node). x.place) g.nodes

-- ---- A loop

-- `thread t { for (int i = 0; i < 2; i++) { } }`
abbrev counting : f.Flat
counting = record {
  mutexes = [];
  variables = [];
  threads = record {
    name = name (codes "t") 7;
    locals = kind.Int ∷ [];
    refers = None ∷ [];
    body = all_of (
        f.Assign (at 11) (e.ToLocal (at 16) 0 kind.Int) (placed 24 (int 0)) ∷
        f.While (at 11) (placed 27 (e.Binary b.Less (e.Local 0 kind.Int) (int 2)))
        (all_of (f.Assign (at 11) (e.ToLocal (at 34) 0 kind.Int) (placed 34 (e.Binary b.Add (e.Local 0 kind.Int) (int 1))) ∷ [])) ∷ []);
    closing = at 43;
  } ∷ [];
}

counting_edges : edges (lowered counting) ≡ (1 ∷ []) ∷ (2 ∷ 3 ∷ []) ∷ (1 ∷ []) ∷ [] ∷ []
unfolding lowered
counting_edges = refl

-- the parts of a `for` have its place
counting_places : places (lowered counting) ≡ at 11 ∷ at 11 ∷ at 11 ∷ at 43 ∷ []
unfolding lowered
counting_places = refl

counting_uses : map (λ (x : Node). x.uses) (lowered counting).nodes ≡ [] ∷ (0 ∷ []) ∷ (0 ∷ []) ∷ [] ∷ []
unfolding lowered
counting_uses = refl

counting_assigns : map (λ (x : Node). x.assigns) (lowered counting).nodes ≡ Some 0 ∷ None ∷ Some 0 ∷ None ∷ []
unfolding lowered
counting_assigns = refl

-- ---- What is live in it: the local at the entries of the test and of the loop's last part, and nowhere else

live_at_test : IsLive (lowered counting) 0 1
unfolding lowered
live_at_test = is_read _ refl (0, omega arith, refl)

live_in_loop : IsLive (lowered counting) 0 2
unfolding lowered
live_in_loop = is_read _ refl (0, omega arith, refl)

-- nothing is live at a node that doesn't read it and that assigns it, or that has no successor
not_live : (g : Graph) (local n : ℕ) (x : Node) → NodeAt g n x → x.uses ≡ [] → (x.assigns ≡ Some local) ⊎ (successors x.action ≡ []) → IsLive g local n → ⊥
not_live g local n x there none stops (is_read y here c) =
    let same : y ≡ x = cc in
    absurd (omega (arith, c.1, ap (λ (z : Node). length z.uses) same, ap length none))
not_live g local n x there none stops (is_read_later y here differs c later) =
    let same : y ≡ x = cc in
    elim stops [
      | inl s ↦ differs (ap (λ (z : Node). z.assigns) same ∙ s)
      | inr s ↦ absurd (omega (arith, c.1, ap (λ (z : Node). length (successors z.action)) same, ap length s))
    ]

dead_before : IsLive (lowered counting) 0 0 → ⊥
unfolding lowered
dead_before = not_live (lowered counting) 0 0 _ refl refl (inl refl)

dead_after : IsLive (lowered counting) 0 3 → ⊥
unfolding lowered
dead_after = not_live (lowered counting) 0 3 _ refl refl (inr refl)

-- ---- A section

abbrev scalar : ℕ → Location
scalar variable = record { variable = variable; lo = 0; hi = 0; key = None }

abbrev x : ℕ → e.Expr
x place = e.Variable (at place) 0 kind.Long

abbrev one_thread : List f.Statement → ℕ → f.Flat
one_thread body closing = record {
  mutexes = record { name = name (codes "m") 6; length = None } ∷ [];
  variables = [];
  threads = record { name = name (codes "t") 39; locals = kind.Long ∷ []; refers = None ∷ []; body = all_of body; closing = at closing } ∷ [];
}

-- `mutex m; persistent(m) long x = 5; thread t { lock(m); x = x + 1; unlock(m); }`
abbrev section : f.Flat
section = one_thread (
    f.Lock (at 46) (record { mutex = 0; key = None }) ∷
    f.Assign (at 55) (e.ToVariable (at 55) 0 kind.Long) (placed 59 (e.Binary b.Add (x 59) (e.Converted kind.Long (int 1)))) ∷
    f.Unlock (at 66) (record { mutex = 0; key = None }) ∷ []) 77

section_edges : edges (lowered section) ≡ (1 ∷ []) ∷ (2 ∷ []) ∷ (3 ∷ []) ∷ (4 ∷ []) ∷ [] ∷ []
unfolding lowered
section_edges = refl

section_places : places (lowered section) ≡ at 46 ∷ at 55 ∷ at 55 ∷ at 66 ∷ at 77 ∷ []
unfolding lowered
section_places = refl

-- the value is evaluated at one node, and stored at the next
section_reads : map (λ (y : Node). y.reads) (lowered section).nodes ≡ [] ∷ (scalar 0 ∷ []) ∷ [] ∷ [] ∷ [] ∷ []
unfolding lowered
section_reads = refl

section_writes : map (λ (y : Node). y.writes) (lowered section).nodes ≡ None ∷ None ∷ Some (scalar 0) ∷ None ∷ None ∷ []
unfolding lowered
section_writes = refl

-- ---- Choices, loops without a body, and a second thread

-- `if (1) { lock(m); } else if (2) { } else { unlock(m); } do { } while (3); while (4) { }`
abbrev choices : List f.Statement
choices =
    f.If (at 10) (f.arm_and (placed 14 (int 1)) (all_of (f.Lock (at 19) (record { mutex = 0; key = None }) ∷ []))
    (f.arm_and (placed 40 (int 2)) f.no_statement f.no_arm))
    (all_of (f.Unlock (at 54) (record { mutex = 0; key = None }) ∷ [])) ∷
    f.Do (at 67) f.no_statement (placed 80 (int 3)) ∷
    f.While (at 84) (placed 91 (int 4)) f.no_statement ∷ []

abbrev thread : f.Thread
thread = record { name = name (codes "t") 7; locals = []; refers = []; body = all_of choices; closing = at 98 }

abbrev two_threads : f.Flat
two_threads = record { mutexes = record { name = name (codes "m") 6; length = None } ∷ []; variables = []; threads = thread ∷ thread ∷ [] }

-- a condition without a part of its own has the next node on both paths; the numbers of the second thread go on from the first's
choices_edges : edges (lowered two_threads) ≡
    (1 ∷ 2 ∷ []) ∷ (4 ∷ []) ∷ (4 ∷ 3 ∷ []) ∷ (4 ∷ []) ∷ (4 ∷ 5 ∷ []) ∷ (5 ∷ 6 ∷ []) ∷ [] ∷
    (8 ∷ 9 ∷ []) ∷ (11 ∷ []) ∷ (11 ∷ 10 ∷ []) ∷ (11 ∷ []) ∷ (11 ∷ 12 ∷ []) ∷ (12 ∷ 13 ∷ []) ∷ [] ∷ []
unfolding lowered
choices_edges = refl

-- the conditions of an `if` have its place
choices_places : places (lowered (record two_threads { threads = thread ∷ [] })) ≡ at 10 ∷ at 19 ∷ at 10 ∷ at 54 ∷ at 67 ∷ at 84 ∷ at 98 ∷ []
unfolding lowered
choices_places = refl

-- ---- Elements

abbrev elements : ℕ → ℕ → Location
elements lo hi = record { variable = 1; lo = lo; hi = hi; key = None }

-- `a[i & 7] = a[3] + i;`, where a is the second variable
abbrev array : f.Flat
array = one_thread (
    f.Assign (at 10) (e.ToElement (at 10) 1 kind.Long (placed 12 (e.Binary b.And (e.Local 0 kind.Long) (e.Converted kind.Long (int 7)))))
    (placed 21 (e.Binary b.Add (e.Element (at 21) 1 kind.Long (at 23) (int 3)) (e.Local 0 kind.Long))) ∷ []) 30

array_reads : map (λ (y : Node). y.reads) (lowered array).nodes ≡ (elements 3 3 ∷ []) ∷ [] ∷ [] ∷ []
unfolding lowered reduction.from_least_on
array_reads = refl

array_writes : map (λ (y : Node). y.writes) (lowered array).nodes ≡ None ∷ Some (elements 0 7) ∷ None ∷ []
unfolding lowered reduction.from_least_on
array_writes = refl

array_uses : map (λ (y : Node). y.uses) (lowered array).nodes ≡ (0 ∷ 0 ∷ []) ∷ [] ∷ [] ∷ []
unfolding lowered
array_uses = refl

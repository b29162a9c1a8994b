-- At an assignment of a local that is logged each local of a held key is counted on: it is another one, and live after it.
use Rattle.std.proofs.Common.{◌≡◌, refl, ℕ, zero, suc, ◌+◌, ◌-◌, ◌==◌, Bool, true, false, cond, List, [], ◌∷◌, ◌++◌, length, Option, Some, None, find}
use Rattle.std.proofs.Common.{ap, arith, sym, subst, ◌∙◌}
use Rattle.std.specs.Prelude.{slice_get, Contains}
use Rattle.std.specs.List.{list_any}
use Rattle.std.proofs.lemmas.Bool.{or_parts, true≢false}
use Rattle.std.proofs.lemmas.Bool.Decides.{nat_tests}
use Rattle.std.proofs.lemmas.Option.{none-some, same_Some, slice_get_within}
use Rattle.ido_base.specs.declared.place.Place.{Place}
use Rattle.c_tree.specs.Exprs as e
use Rattle.c_tree.specs.Flats as f
use Rattle.c_tree.specs.Programs.{Variable}
use Rattle.c_tree.specs.LockNames.{Held, held_names, holds, lock_names, none_held}
use Rattle.c_tree.specs.LockDiscipline.{key_locals, freezing, IsFree, Keeps, KeepAll, KeepArms, assign, choose, repeat, again, lock, unlock}
use Rattle.c_tree.specs.LockDiscipline.{no_more, then, no_more_arms, arm, IsDisciplined}
use Rattle.lock_discipline.specs.links.Flow.{held_after, held_after_all, sets_in, sets_in_all, sets_in_arms, thread_sets}
use Rattle.lock_discipline.proofs.Public.{boundary_after_is}
use Rattle.flow_graph.specs.Liveness.{IsLive}
use Rattle.flow_graph.specs.Lowering.{table_of, count, statements_count, arms_count, entry}
use Rattle.flow_graph.specs.Lowering.{statement_nodes, statements_nodes, arms_nodes, thread_nodes, plain_node, test_node}
use Rattle.flow_graph.specs.Nodes.{Action, Eval, Store, Test, Lock, Unlock, End, Node, successors}
use Rattle.flow_graph.proofs.Public.{length-arms_nodes, length-statement_nodes, length-statements_nodes, length-thread_nodes}
use Rattle.rv64_codegen.proofs.Public.{end_is, node_in}
use Rattle.thread_code.specs.Plans.{Plan, Thread, IsPlan, IsThread, IsNodeOf, IsLogged, names_in, set_before}
use Rattle.thread_code.specs.RegistersAtNodes.{IsLiveBeside}
use Rattle.thread_code.proofs.Public.{names_are}
use Rattle.image_checks.proofs.GuardedStores.{AreAllPaired, Guarded, as_many, guarded, guarded_all, guarded_arms, guarded_thread, is_before, joined, own}
use Rattle.image_checks.proofs.GuardedStores.{paired_at}

-- ---- A held key doesn't read what is assigned

none_of : {X : Type 0} (test : Bool) (x : X) (o : Option X) → cond test (Some x) o ≡ None → (test ≡ false) × (o ≡ None)
none_of true x o f = absurd (none-some x (sym f))
none_of false x o f = (refl, f)

-- what no held name passes, none of a number that is held does
unpassed : (p : e.LockName → Bool) (names : List e.LockName) (h : Held) (k : ℕ) (x : e.LockName) → find p (held_names names h) ≡ None →
    slice_get names k ≡ Some x → holds h k ≡ true → p x ≡ false
unpassed p [] h k x f g t = absurd (none-some x g)
unpassed p (y ∷ ys) [] k x f g t = absurd (true≢false (sym t))
unpassed p (y ∷ ys) (true ∷ h) zero x f g t = ap p (sym (same_Some y x g)) ∙ (none_of (p y) y (find p (held_names ys h)) f).0
unpassed p (y ∷ ys) (false ∷ h) zero x f g t = absurd (true≢false (sym t))
unpassed p (y ∷ ys) (true ∷ h) (suc k) x f g t = unpassed p ys h k x (none_of (p y) y (find p (held_names ys h)) f).1 g t
unpassed p (y ∷ ys) (false ∷ h) (suc k) x f g t = unpassed p ys h k x f g t

not_any : (local : ℕ) (ls : List ℕ) → list_any (λ (other : ℕ). other == local) ls ≡ false → Contains ls local → ⊥
not_any local [] f (k, low, is) = absurd (omega (arith, low))
not_any local (l ∷ ls) f (zero, low, is) =
    let off = (or_parts (l == local) (list_any (λ (other : ℕ). other == local) ls) f).0 in
    grind (arith, nat_tests, off, is)
not_any local (l ∷ ls) f (suc k, low, is) =
    not_any local ls (or_parts (l == local) (list_any (λ (other : ℕ). other == local) ls) f).1 (k, omega (arith, low), is)

not_assigned : (names : List e.LockName) (h : Held) (assigned k : ℕ) (x : e.LockName) → freezing names h assigned ≡ None → slice_get names k ≡ Some x →
    holds h k ≡ true → Contains (key_locals x) assigned → ⊥
not_assigned names h assigned k x free there held reads =
    not_any assigned (key_locals x)
    (unpassed (λ (y : e.LockName). list_any (λ (other : ℕ). other == assigned) (key_locals y)) names h k x free there held) reads

-- ---- What is so of the set before each node, after an assignment of a local is so of the node where it goes on

module _ (vs : List Variable) (names : List e.LockName) (P : Held → (node : ℕ) → Type 0) where
  -- of the nodes from this one on, and the sets before them
  abbrev IsSoFrom : List Held → (first : ℕ) → Type 0
  IsSoFrom [] first = Unit {0}
  IsSoFrom (h ∷ hs) first = P h first × IsSoFrom hs (suc first)

  parted : (hs ks : List Held) (first size : ℕ) → length hs ≡ size → IsSoFrom (hs ++ ks) first → IsSoFrom hs first × IsSoFrom ks (first + size)
  parted [] ks first size is b =
      let same : first ≡ first + size = omega (arith, is) in
      (tt, subst (λ (n : ℕ). IsSoFrom ks n) same b)
  parted (h ∷ hs) ks first size is b =
      let rest = parted hs ks (suc first) (length hs) refl b.1 in
      let same : suc first + length hs ≡ first + size = omega (arith, is) in
      ((b.0, rest.0), subst (λ (n : ℕ). IsSoFrom ks n) same rest.1)

  so_from : (hs : List Held) (first : ℕ) → ((k : ℕ) (h : Held) → slice_get hs k ≡ Some h → P h (first + k)) → IsSoFrom hs first
  so_from [] first each = tt
  so_from (h ∷ hs) first each = (
    subst (P h) (let same : first + 0 ≡ first = omega arith in same) (each 0 h refl),
    so_from hs (suc first) (λ k z at. subst (P z) (let same : first + suc k ≡ suc first + k = omega arith in same) (each (suc k) z at)),
  )

  entry_both : (h : Held) (a b first next : ℕ) → P h (entry a first (entry b (first + a) next)) → P h (entry (a + b) first next)
  entry_both h zero b first next is =
      let same : first + 0 ≡ first = omega arith in
      let none : b ≡ 0 + b = omega arith in
      subst (λ (n : ℕ). P h (entry n first next)) none (subst (λ (n : ℕ). P h (entry b n next)) same is)
  entry_both h (suc a) b first next is =
      let more : suc (a + b) ≡ suc a + b = omega arith in
      subst (λ (n : ℕ). P h (entry n first next)) more is

  entry_into : (h : Held) (a first : ℕ) → P h (entry a first (first + a)) → P h first
  entry_into h zero first is = subst (P h) (let same : first + 0 ≡ first = omega arith in same) is
  entry_into h (suc a) first is = is

  -- no held key reads the local that is assigned, and it is so of the same set where it goes on
  abbrev IsAssignedBeside : Held → e.Lvalue → (next : ℕ) → Type 0
  IsAssignedBeside h (e.ToLocal place local kind) next = (freezing names h local ≡ None) × P h next
  IsAssignedBeside h (e.ToVariable place variable kind) next = Unit {0}
  IsAssignedBeside h (e.ToElement place variable kind index) next = Unit {0}

  abbrev DoesBeside : Held → Action → Type 0
  DoesBeside h (Eval target value next) = IsAssignedBeside h target next
  DoesBeside h (Store variable kind next) = Unit {0}
  DoesBeside h (Test condition holds fails) = Unit {0}
  DoesBeside h (Lock name next) = Unit {0}
  DoesBeside h (Unlock name next) = Unit {0}
  DoesBeside h End = Unit {0}

  abbrev IsBeside : Held → Node → Type 0
  IsBeside h x = DoesBeside h x.action

  -- it is so of the set before a part at the node where the part begins
  abbrev OfOne : Held → f.Statement → (first next : ℕ) → Type 0
  OfOne h s first next = P h (entry (count s) first next) × AreAllPaired IsBeside (sets_in names h s) (statement_nodes (own vs names) s first next)

  abbrev OfAll : Held → f.Statements → (first next : ℕ) → Type 0
  OfAll h ss first next =
      P h (entry (statements_count ss) first next) × AreAllPaired IsBeside (sets_in_all names h ss) (statements_nodes (own vs names) ss first next)

  abbrev OfArms : Held → f.Arms → Place → (last first next : ℕ) → Type 0
  OfArms h arms place last first next =
      P h (entry (arms_count arms) first last) × AreAllPaired IsBeside (sets_in_arms names h arms) (arms_nodes (own vs names) arms place last first next)

  of_assign : (place : Place) (target : e.Lvalue) (value : e.Placed) (h : Held) (first next : ℕ) → IsFree names h target →
      IsSoFrom (sets_in names h (f.Assign place target value)) first → P h next → OfOne h (f.Assign place target value) first next
  of_assign place (e.ToLocal name local kind) value h first next free b after = (b.0, ((free, after), tt))
  of_assign place (e.ToVariable name variable kind) value h first next free b after = (b.0, (tt, (tt, tt)))
  of_assign place (e.ToElement name variable kind index) value h first next free b after = (b.0, (tt, (tt, tt)))

  -- as many sets as nodes
  sets_one : {h after : Held} {s : f.Statement} → Keeps vs names h s after → length (sets_in names h s) ≡ count s
  sets_one {h = h} {s = s} q =
      as_many (Guarded vs names) (sets_in names h s) (statement_nodes (own vs names) s 0 0) (guarded vs names q 0 0)
      ∙ length-statement_nodes (own vs names) s 0 0

  sets_all : {h after : Held} {ss : f.Statements} → KeepAll vs names h ss after → length (sets_in_all names h ss) ≡ statements_count ss
  sets_all {h = h} {ss = ss} q =
      as_many (Guarded vs names) (sets_in_all names h ss) (statements_nodes (own vs names) ss 0 0) (guarded_all vs names q 0 0)
      ∙ length-statements_nodes (own vs names) ss 0 0

  sets_arms : (place : Place) {h after : Held} {arms : f.Arms} → KeepArms vs names h arms after → length (sets_in_arms names h arms) ≡ arms_count arms
  sets_arms place {h = h} {arms = arms} q =
      as_many (Guarded vs names) (sets_in_arms names h arms) (arms_nodes (own vs names) arms place 0 0 0) (guarded_arms vs names q place 0 0 0)
      ∙ length-arms_nodes (own vs names) arms place 0 0 0

  mutual
    of_one : {h after : Held} {s : f.Statement} → Keeps vs names h s after → (first next : ℕ) → IsSoFrom (sets_in names h s) first → P after next →
        OfOne h s first next
    of_one (assign {h = h} place target value used free) first next b after = of_assign place target value h first next free b after
    of_one (choose {h = h} place arms otherwise q r) first next b after =
        let further : ℕ = first + arms_count arms in
        let last : ℕ = entry (statements_count otherwise) further next in
        let parts = parted (sets_in_arms names h arms) (sets_in_all names h otherwise) first (arms_count arms) (sets_arms place q) b in
        let other : OfAll h otherwise further next = of_all r further next parts.1 after in
        let each : OfArms h arms place last first next = of_arms q place last first next parts.0 other.0 after in (
          entry_both h (arms_count arms) (statements_count otherwise) first next each.0,
          joined IsBeside (sets_in_arms names h arms) (sets_in_all names h otherwise) (arms_nodes (own vs names) arms place last first next)
              (statements_nodes (own vs names) otherwise further next) each.1 other.1,
        )
    of_one (repeat {h = h} place condition body used q) first next b after =
        let each : OfAll h body (suc first) first = of_all q (suc first) first b.1 b.0 in
        (b.0, (tt, each.1))
    of_one (again {h = h} place body condition q used) first next b after =
        let further : ℕ = first + statements_count body in
        let parts = parted (sets_in_all names h body) (held_after_all names h body ∷ []) first (statements_count body) (sets_all q) b in
        let same : held_after_all names h body ≡ h = boundary_after_is vs names (choose place f.no_arm body no_more_arms q) in
        let test : P h further = subst (λ (k : Held). P k further) same parts.1.0 in
        let each : OfAll h body first further = of_all q first further parts.0 test in (
          entry_into h (statements_count body) first each.0,
          joined IsBeside (sets_in_all names h body) (held_after_all names h body ∷ []) (statements_nodes (own vs names) body first further)
              (test_node (own vs names) place condition first next ∷ []) each.1 (tt, tt),
        )
    of_one (lock place name free) first next b after = (b.0, (tt, tt))
    of_one (unlock place name held) first next b after = (b.0, (tt, tt))

    of_all : {h after : Held} {ss : f.Statements} → KeepAll vs names h ss after → (first next : ℕ) → IsSoFrom (sets_in_all names h ss) first →
        P after next → OfAll h ss first next
    of_all no_more first next b after = (after, tt)
    of_all (then {h = h} {between = between} s rest q r) first next b after =
        let further : ℕ = first + count s in
        let last : ℕ = entry (statements_count rest) further next in
        let tail : List Node = statements_nodes (own vs names) rest further next in
        let same : held_after names h s ≡ between = boundary_after_is vs names q in
        let parts = parted (sets_in names h s) (sets_in_all names (held_after names h s) rest) first (count s) (sets_one q) b in
        let other : OfAll between rest further next =
        of_all r further next (subst (λ (k : Held). IsSoFrom (sets_in_all names k rest) further) same parts.1) after in
        let one : OfOne h s first last = of_one q first last parts.0 other.0 in (
          entry_both h (count s) (statements_count rest) first next one.0,
          joined IsBeside (sets_in names h s) (sets_in_all names (held_after names h s) rest) (statement_nodes (own vs names) s first last) tail one.1
              (subst (λ (k : Held). AreAllPaired IsBeside (sets_in_all names k rest) tail) (sym same) other.1),
        )

    of_arms : {h after : Held} {arms : f.Arms} → KeepArms vs names h arms after → (place : Place) (last first next : ℕ) →
        IsSoFrom (sets_in_arms names h arms) first → P h last → P after next → OfArms h arms place last first next
    of_arms no_more_arms place last first next b otherwise after = (otherwise, tt)
    of_arms (arm {h = h} condition body rest used q r) place last first next b otherwise after =
        let further : ℕ = suc first + statements_count body in
        let parts = parted (sets_in_all names h body) (sets_in_arms names h rest) (suc first) (statements_count body) (sets_all q) b.1 in
        let each : OfAll h body (suc first) next = of_all q (suc first) next parts.0 after in
        let others : OfArms h rest place last further next = of_arms r place last further next parts.1 otherwise after in (
          b.0,
          (
            tt,
            joined IsBeside (sets_in_all names h body) (sets_in_arms names h rest) (statements_nodes (own vs names) body (suc first) next)
                (arms_nodes (own vs names) rest place last further next) each.1 others.1,
          ),
        )

module _ (x : f.Flat) (t : f.Thread) (P : Held → (node : ℕ) → Type 0) where
  abbrev text_names : List e.LockName
  text_names = lock_names x t

  of_thread : (first : ℕ) → IsDisciplined x t → IsSoFrom x.variables text_names P (thread_sets text_names t) first →
      AreAllPaired (IsBeside x.variables text_names P) (thread_sets text_names t) (thread_nodes (table_of x t) t first)
  of_thread first keeps b =
      let start = none_held (length text_names) in
      let end : ℕ = first + statements_count t.body in
      let parts = parted x.variables text_names P (sets_in_all text_names start t.body) (held_after_all text_names start t.body ∷ []) first
      (statements_count t.body) (sets_all x.variables text_names P keeps) b in
      let same : held_after_all text_names start t.body ≡ start =
      boundary_after_is x.variables text_names (choose t.closing f.no_arm t.body no_more_arms keeps) in
      let all = of_all x.variables text_names P keeps first end parts.0 (subst (λ (h : Held). P h end) same parts.1.0) in
      joined (IsBeside x.variables text_names P) (sets_in_all text_names start t.body) (held_after_all text_names start t.body ∷ [])
      (statements_nodes (table_of x t) t.body first end) (plain_node t.closing End ∷ []) all.1 (tt, tt)

-- ---- At a logged assignment of a plan's thread

module _ (p : Plan) (plan : IsPlan p) (t : Thread) (of : IsThread p t) (node : ℕ) (own_node : IsNodeOf t node) (logged : IsLogged p t node) (k : ℕ)
    (x : e.LockName) (there : slice_get (names_in p t) k ≡ Some x) (local : ℕ) (reads : Contains (key_locals x) local) where
  abbrev names : List e.LockName
  names = lock_names p.flat of.text

  -- where the key is held its local is live
  abbrev LiveIf : Held → (node : ℕ) → Type 0
  LiveIf h n = holds h k ≡ true → IsLive p.graph local n

  keeps : IsDisciplined p.flat of.text
  keeps = (is_before p plan t of node own_node).disciplined

  each_live : (step : ℕ) (h : Held) → slice_get (thread_sets names of.text) step ≡ Some h → LiveIf h (t.part.first + step)
  each_live step h at held =
      let long = as_many (Guarded p.flat.variables names) (thread_sets names of.text) (thread_nodes (table_of p.flat of.text) of.text t.part.first)
      (guarded_thread p.flat of.text t.part.first keeps) ∙ length-thread_nodes (table_of p.flat of.text) of.text t.part.first in
      let within = slice_get_within (thread_sets names of.text) step h at in
      let n : ℕ = t.part.first + step in
      let own_next : IsNodeOf t n = record { from_first = omega arith; below_end = omega (arith, long, within, end_is p plan t of) } in
      let same_step : t.part.first + step - t.part.first ≡ step = omega arith in
      let set : set_before p t n ≡ h =
      same_Some (set_before p t n) h
      (sym (is_before p plan t of n own_next).there ∙ (ap (λ (i : ℕ). slice_get (thread_sets names of.text) i) same_step ∙ at)) in
      plan.keys_live t of n own_next k local x there (ap (λ (z : Held). holds z k) set ∙ held) reads

  beside : IsBeside p.flat.variables names LiveIf (set_before p t node) logged.assigns.is
  beside =
      paired_at (IsBeside p.flat.variables names LiveIf) (thread_sets names of.text) (thread_nodes (table_of p.flat of.text) of.text t.part.first)
      (node - t.part.first) (set_before p t node) logged.assigns.is
      (of_thread p.flat of.text LiveIf t.part.first keeps
      (so_from p.flat.variables names LiveIf (thread_sets names of.text) t.part.first each_live))
      (is_before p plan t of node own_node).there (node_in p plan t of node logged.assigns.is own_node logged.assigns.at)

  is_beside : holds (set_before p t node) k ≡ true → IsLiveBeside p node logged.local local
  is_beside held =
      let a = logged.assigns in
      let does : (freezing names (set_before p t node) logged.local ≡ None) × LiveIf (set_before p t node) a.next =
      subst (DoesBeside p.flat.variables names LiveIf (set_before p t node)) a.action beside in
      let own_name : slice_get names k ≡ Some x = ap (λ (ns : List e.LockName). slice_get ns k) (sym (names_are p t of)) ∙ there in
      record {
        next = a.next;
        goes = record {
          is = a.is;
          at = a.at;
          goes = subst (λ (action : Action). Contains (successors action) a.next) (sym a.action) (0, omega arith, refl);
        };
        live = does.1 held;
        other = λ same.
            not_assigned names (set_before p t node) logged.local k x does.0 own_name held (subst (Contains (key_locals x)) same reads);
      }

-- each local of a held key is counted on at the core of a logged assignment
pub counted_beside : (p : Plan) (plan : IsPlan p) (t : Thread) (of : IsThread p t) (node : ℕ) → IsNodeOf t node → (logged : IsLogged p t node) →
    (k : ℕ) (x : e.LockName) → slice_get (names_in p t) k ≡ Some x → holds (set_before p t node) k ≡ true → (local : ℕ) →
    Contains (key_locals x) local → IsLiveBeside p node logged.local local
counted_beside p plan t of node own_node logged k x there held local reads = is_beside p plan t of node own_node logged k x there local reads held

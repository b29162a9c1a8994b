-- What a thread's next step says of the node at which it stands.
use Rattle.std.proofs.Common.{◌≡◌, refl, ℕ, zero, suc, List, [], ◌∷◌, ◌++◌, sym, ◌∙◌, ap, subst, arith, Option, Some, None, Bool, true, false, ⊎_elim}
use Rattle.c_tree.specs.Values.{lock_number}
use Rattle.std.specs.Prelude.{is_some, Contains, ℤ}
use Rattle.std.specs.Option.{option_map}
use Rattle.std.proofs.lemmas.List.Elements.{Contains-append_cases}
use Rattle.ido_base.specs.declared.location.Location.{Location}
use Rattle.ido_ints.specs.declared.kinds.Kind.{Kind}
use Rattle.c_tree.specs.Exprs as e
use Rattle.c_tree.specs.Programs.{Variable}
use Rattle.c_tree.specs.Flats as f
use Rattle.c_tree.specs.Source as m
use Rattle.c_tree.specs.Source.{Pending}
use Rattle.c_tree.specs.LockNames.{Held}
use Rattle.c_tree.specs.LockDiscipline.{Use, expr_uses, target_uses, is_guarded, AreGuarded}
use Rattle.c_tree.proofs.Public.{index_element}
use Rattle.source_machine.specs.Mutexes.{first_lock, first_unlock, locks, unlocks}
use Rattle.source_machine.proofs.Public.{guarded_first, guarded_rest, guarded_left, guarded_right, locks_found, unlocks_found}
use Rattle.flow_graph.specs.Nodes.{Action, Eval, Store, Test, Lock, Unlock, End, Node}
use Rattle.flow_graph.specs.Actions.{Seen, GraphThread, Effect, Makes, Takes, Gives, Ends, effect_of}
use Rattle.flow_graph.specs.Lockstep.{Standing, threads_standings}
use Rattle.flow_graph.specs.Paths.{Element, element, expr_elements, target_elements, reads_of, stored_element, write_of}
use Rattle.flow_graph.proofs.Public.{ActionLeads, chooses, repeats, ShapedAs, contains_none}
use Rattle.region_attempts.proofs.StepBisimulation.{action_uses, IsThere}

-- ---- What is read is guarded

module _ (vs : List Variable) (names : List e.LockName) (h : Held) (seen : Seen) (one : Element) where
  -- the element is that of a use whose guard is in the set
  pub record IsHeld : Type 0 where
    pub used : Use
    pub held : is_guarded vs names h used ≡ true
    pub is : element used.variable (index_element seen.locals seen.variables used.index) ≡ one

  of_either : (es fs : List Element) → (Contains es one → IsHeld) → (Contains fs one → IsHeld) → Contains (es ++ fs) one → IsHeld
  of_either es fs l r c = ⊎_elim l r (Contains-append_cases es fs one c)

  of_first : (u : Use) (es : List Element) → is_guarded vs names h u ≡ true → (Contains es one → IsHeld) →
      Contains (element u.variable (index_element seen.locals seen.variables u.index) ∷ es) one → IsHeld
  of_first u es g more (zero, l, is) = record { used = u; held = g; is = is }
  of_first u es g more (suc k, l, is) = more (k, omega arith, is)

  expr_held : (x : e.Expr) → AreGuarded vs names h (expr_uses x) → Contains (expr_elements x seen) one → IsHeld
  expr_held (e.Constant value) g c = absurd (contains_none one c)
  expr_held (e.Local local kind) g c = absurd (contains_none one c)
  expr_held (e.Variable place v kind) g c =
      let u : Use = record { variable = v; place = place; index = None } in
      of_first u [] (guarded_first vs names h u [] g) (λ d. absurd (contains_none one d)) c
  expr_held (e.Element place v kind index_place index) g c =
      let u : Use = record { variable = v; place = place; index = Some (record { place = index_place; expr = index }) } in
      of_first u (expr_elements index seen) (guarded_first vs names h u (expr_uses index) g)
      (λ d. expr_held index (guarded_rest vs names h u (expr_uses index) g) d) c
  expr_held (e.Address v index_place index) g c = expr_held index g c
  expr_held (e.Referent place last local) g c = absurd (contains_none one c)
  expr_held (e.Unary operator operand) g c = expr_held operand g c
  expr_held (e.Cast kind operand) g c = expr_held operand g c
  expr_held (e.Converted kind operand) g c = expr_held operand g c
  expr_held (e.Binary operator left right) g c =
      of_either (expr_elements left seen) (expr_elements right seen)
      (λ d. expr_held left (guarded_left vs names h (expr_uses left) (expr_uses right) g) d)
      (λ d. expr_held right (guarded_right vs names h (expr_uses left) (expr_uses right) g) d) c
  expr_held (e.Conditional kind condition chosen otherwise) g c =
      let first = guarded_left vs names h (expr_uses condition ++ expr_uses chosen) (expr_uses otherwise) g in
      of_either (expr_elements condition seen ++ expr_elements chosen seen) (expr_elements otherwise seen)
      (of_either (expr_elements condition seen) (expr_elements chosen seen)
      (λ d. expr_held condition (guarded_left vs names h (expr_uses condition) (expr_uses chosen) first) d)
      (λ d. expr_held chosen (guarded_right vs names h (expr_uses condition) (expr_uses chosen) first) d))
      (λ d. expr_held otherwise (guarded_right vs names h (expr_uses condition ++ expr_uses chosen) (expr_uses otherwise) g) d) c

  target_held : (target : e.Lvalue) → AreGuarded vs names h (target_uses target) → Contains (target_elements target seen) one → IsHeld
  target_held (e.ToLocal place local kind) g c = absurd (contains_none one c)
  target_held (e.ToVariable place v kind) g c = absurd (contains_none one c)
  target_held (e.ToElement place v kind index) g c = expr_held index.expr (guarded_rest vs names h _ (expr_uses index.expr) g) c

  -- what a node reads are elements of uses whose guards are in the set
  pub read_held : (a : Action) → AreGuarded vs names h (action_uses a) → Contains (reads_of a seen) one → IsHeld
  read_held (Eval target value next) g c =
      of_either (target_elements target seen) (expr_elements value.expr seen)
      (λ d. target_held target (guarded_right vs names h (expr_uses value.expr) (target_uses target) g) d)
      (λ d. expr_held value.expr (guarded_left vs names h (expr_uses value.expr) (target_uses target) g) d) c
  read_held (Store variable kind next) g c = absurd (contains_none one c)
  read_held (Test condition holds fails) g c = expr_held condition.expr g c
  read_held (Lock lock next) g c = absurd (contains_none one c)
  read_held (Unlock lock next) g c = absurd (contains_none one c)
  read_held End g c = absurd (contains_none one c)

-- ---- Stores

pub record StoresHere (a : Action) : Type 0 where
  pub variable : ℕ
  pub kind : Kind
  pub next : ℕ
  pub is : a ≡ Store variable kind next

not_owing : (left more : List f.Statement) → (let s : Standing = record { left = left; owes = true } in
    let t : Standing = record { left = more; owes = false } in s ≡ t) → ⊥
not_owing left more h = let b : true ≡ false = ap (λ (s : Standing). s.owes) h in cc

owing_by : (all : List Standing) (a : Action) (left : List f.Statement) → ActionLeads all a (record { left = left; owes = true }) → StoresHere a
owing_by all (Eval target value next) left d = absurd (not_owing left _ d.is)
owing_by all (Store variable kind next) left d = record { variable = variable; kind = kind; next = next; is = refl }
owing_by all (Test condition holds fails) left d = elim d [
  | chooses place body arms otherwise rest is a b ↦ absurd (not_owing left _ is)
  | repeats place body rest is a b ↦ absurd (not_owing left _ is)
]
owing_by all (Lock lock next) left d = absurd (not_owing left _ d.is)
owing_by all (Unlock lock next) left d = absurd (not_owing left _ d.is)
owing_by all End left d = absurd (not_owing left _ d)

-- a store is pending at a node that stores
pub owing_at : (all : List Standing) (a : Action) (left : List f.Statement) (p : Option Pending) (store : Pending) → p ≡ Some store →
    ActionLeads all a (record { left = left; owes = is_some p }) → StoresHere a
owing_at all a left p store is d =
    owing_by all a left (subst (λ (b : Bool). ActionLeads all a (record { left = left; owes = b })) (ap is_some is) d)

owes_by : (all : List Standing) (a : Action) (left : List f.Statement) (p : Option Pending) → StoresHere a →
    ActionLeads all a (record { left = left; owes = is_some p }) → (store : Pending) × (p ≡ Some store)
owes_by all a left None s d =
    let stores = subst (λ (z : Action). ActionLeads all z (record { left = left; owes = false })) s.is d in
    let b : false ≡ true = ap (λ (z : Standing). z.owes) stores.is in cc
owes_by all a left (Some store) s d = (store, refl)

-- at a node that stores a store is pending
pub owes_at : (all : List Standing) (a : Action) (left : List f.Statement) (p : Option Pending) → StoresHere a →
    ActionLeads all a (record { left = left; owes = is_some p }) → (store : Pending) × (p ≡ Some store)
owes_at all a left p s d = owes_by all a left p s d

-- a node that writes stores
pub writing_stores : (ns : List Node) (node : Node) (a : Action) (l : Location) → ShapedAs ns node a → node.writes ≡ Some l → StoresHere a
writing_stores ns node (Eval target value next) l shape h = let none = shape.1.writes in cc
writing_stores ns node (Store variable kind next) l shape h = record { variable = variable; kind = kind; next = next; is = refl }
writing_stores ns node (Test condition holds fails) l shape h = let none = shape.1.writes in cc
writing_stores ns node (Lock lock next) l shape h = let none = shape.1 in cc
writing_stores ns node (Unlock lock next) l shape h = let none = shape.1 in cc
writing_stores ns node End l shape h = let none = shape.1 in cc

pub written_of : (a : Action) (seen : Seen) (store : Pending) → StoresHere a → seen.pending ≡ Some store → write_of a seen ≡ Some (stored_element store)
written_of a seen store s h = ap (λ (z : Action). write_of z seen) s.is ∙ ap (option_map stored_element) h

pub reads_nothing : (a : Action) (seen : Seen) (one : Element) → StoresHere a → Contains (reads_of a seen) one → ⊥
reads_nothing a seen one s c = contains_none one (subst (λ (z : Action). Contains (reads_of z seen) one) s.is c)

-- ---- Mutexes

abbrev lock_by : (locals : List ℤ) → Option Pending → List f.Statement → Option ℕ
lock_by ls p left = elim p [
  | Some store ↦ None
  | None ↦ first_lock ls left
]

abbrev unlock_by : (locals : List ℤ) → Option Pending → List f.Statement → Option ℕ
unlock_by ls p left = elim p [
  | Some store ↦ None
  | None ↦ first_unlock ls left
]

-- what is left begins with another statement
no_lock : (ls : List ℤ) (left more : List f.Statement) (mutex : ℕ) → left ≡ more → first_lock ls more ≡ None → first_lock ls left ≡ Some mutex → ⊥
no_lock ls left more mutex is none h = let same = ap (first_lock ls) is in cc

no_unlock : (ls : List ℤ) (left more : List f.Statement) (mutex : ℕ) → left ≡ more → first_unlock ls more ≡ None → first_unlock ls left ≡ Some mutex → ⊥
no_unlock ls left more mutex is none h = let same = ap (first_unlock ls) is in cc

abbrev left_of : Standing → List f.Statement
left_of s = s.left

none_left : (ls : List ℤ) (store : Pending) (mutex : ℕ) (p : Option Pending) (left : List f.Statement) → p ≡ Some store → lock_by ls p left ≡ Some mutex → ⊥
none_left ls store mutex p left is h = let none = ap (λ (o : Option Pending). lock_by ls o left) is in cc

locking_by : (ls : List ℤ) (all : List Standing) (a : Action) (left : List f.Statement) (mutex : ℕ) → ActionLeads all a (record { left = left; owes = false }) →
    first_lock ls left ≡ Some mutex → (lock : e.LockName) × (next : ℕ) × (a ≡ Lock lock next)
locking_by ls all (Eval target value next) left mutex d h = absurd (no_lock ls left _ mutex (ap left_of d.is) refl h)
locking_by ls all (Store variable kind next) left mutex d h = let b : false ≡ true = ap (λ (z : Standing). z.owes) d.is in cc
locking_by ls all (Test condition holds fails) left mutex d h = elim d [
  | chooses place body arms otherwise rest is a b ↦ absurd (no_lock ls left _ mutex (ap left_of is) refl h)
  | repeats place body rest is a b ↦ absurd (no_lock ls left _ mutex (ap left_of is) refl h)
]
locking_by ls all (Lock lock next) left mutex d h = (lock, next, refl)
locking_by ls all (Unlock lock next) left mutex d h = absurd (no_lock ls left _ mutex (ap left_of d.is) refl h)
locking_by ls all End left mutex d h = absurd (no_lock ls left [] mutex (ap left_of d) refl h)

unlocking_by : (ls : List ℤ) (all : List Standing) (a : Action) (left : List f.Statement) (mutex : ℕ) →
    ActionLeads all a (record { left = left; owes = false }) →
    first_unlock ls left ≡ Some mutex → (lock : e.LockName) × (next : ℕ) × (a ≡ Unlock lock next)
unlocking_by ls all (Eval target value next) left mutex d h = absurd (no_unlock ls left _ mutex (ap left_of d.is) refl h)
unlocking_by ls all (Store variable kind next) left mutex d h = let b : false ≡ true = ap (λ (z : Standing). z.owes) d.is in cc
unlocking_by ls all (Test condition holds fails) left mutex d h = elim d [
  | chooses place body arms otherwise rest is a b ↦ absurd (no_unlock ls left _ mutex (ap left_of is) refl h)
  | repeats place body rest is a b ↦ absurd (no_unlock ls left _ mutex (ap left_of is) refl h)
]
unlocking_by ls all (Lock lock next) left mutex d h = absurd (no_unlock ls left _ mutex (ap left_of d.is) refl h)
unlocking_by ls all (Unlock lock next) left mutex d h = (lock, next, refl)
unlocking_by ls all End left mutex d h = absurd (no_unlock ls left [] mutex (ap left_of d) refl h)

locking_if : (ls : List ℤ) (all : List Standing) (a : Action) (left : List f.Statement) (mutex : ℕ) (p : Option Pending) →
    ActionLeads all a (record { left = left; owes = is_some p }) → lock_by ls p left ≡ Some mutex →
    (lock : e.LockName) × (next : ℕ) × (a ≡ Lock lock next)
locking_if ls all a left mutex None d h = locking_by ls all a left mutex d h
locking_if ls all a left mutex (Some store) d h = cc

unlocking_if : (ls : List ℤ) (all : List Standing) (a : Action) (left : List f.Statement) (mutex : ℕ) (p : Option Pending) →
    ActionLeads all a (record { left = left; owes = is_some p }) → unlock_by ls p left ≡ Some mutex →
    (lock : e.LockName) × (next : ℕ) × (a ≡ Unlock lock next)
unlocking_if ls all a left mutex None d h = unlocking_by ls all a left mutex d h
unlocking_if ls all a left mutex (Some store) d h = cc

locks_if : (ls : List ℤ) (all : List Standing) (left : List f.Statement) (lock : e.LockName) (next : ℕ) (p : Option Pending) →
    ActionLeads all (Lock lock next) (record { left = left; owes = is_some p }) → lock_by ls p left ≡ Some (lock_number ls lock)
locks_if ls all left lock next None d = ap (first_lock ls) (ap left_of d.is)
locks_if ls all left lock next (Some store) d = let b : true ≡ false = ap (λ (z : Standing). z.owes) d.is in cc

module _ (x : f.Flat) (s : m.State) (t : ℕ) (graph_thread : GraphThread) (node : Node) (th : IsThere x s t graph_thread node) where
  -- a thread that locks next stands at a node that locks
  pub locking_at : (mutex : ℕ) → locks s t ≡ Some mutex → (lock : e.LockName) × (next : ℕ) × (node.action ≡ Lock lock next)
  locking_at mutex h = locking_if th.thread.locals (threads_standings x.threads) node.action th.thread.left mutex th.thread.pending th.does
      (sym (locks_found s t th.thread th.there) ∙ h)

  pub unlocking_at : (mutex : ℕ) → unlocks s t ≡ Some mutex → (lock : e.LockName) × (next : ℕ) × (node.action ≡ Unlock lock next)
  unlocking_at mutex h = unlocking_if th.thread.locals (threads_standings x.threads) node.action th.thread.left mutex th.thread.pending th.does
      (sym (unlocks_found s t th.thread th.there) ∙ h)

  -- at a node that locks the thread locks next
  pub locks_at : (lock : e.LockName) (next : ℕ) → node.action ≡ Lock lock next → locks s t ≡ Some (lock_number th.thread.locals lock)
  locks_at lock next is = locks_found s t th.thread th.there
      ∙ locks_if th.thread.locals (threads_standings x.threads) th.thread.left lock next th.thread.pending
      (subst (λ (a : Action). ActionLeads (threads_standings x.threads) a (record { left = th.thread.left; owes = is_some th.thread.pending })) is th.does)

-- ---- The end

ends_by : (next : ℕ) (o : Option Pending) → (let step : Option Effect = elim o [ Some store ↦ Some (Makes store next) | None ↦ None ] in step ≡ Some Ends) → ⊥
ends_by next None h = cc
ends_by next (Some p) h = cc

-- a node that ends does nothing else
pub ends_only : (a : Action) (seen later : Seen) (effect : Effect) → effect_of a seen ≡ Some Ends → effect_of a later ≡ Some effect → effect ≡ Ends
ends_only (Eval (e.ToLocal place local kind) value next) seen later effect h k = cc
ends_only (Eval (e.ToVariable place variable kind) value next) seen later effect h k = cc
ends_only (Eval (e.ToElement place variable kind index) value next) seen later effect h k = cc
ends_only (Store variable kind next) seen later effect h k = absurd (ends_by next seen.pending h)
ends_only (Test condition holds fails) seen later effect h k = cc
ends_only (Lock lock next) seen later effect h k = cc
ends_only (Unlock lock next) seen later effect h k = cc
ends_only End seen later effect h k = cc

-- a node that stores, locks or unlocks doesn't end
pub store_goes_on : (a : Action) (seen : Seen) → StoresHere a → effect_of a seen ≡ Some Ends → ⊥
store_goes_on a seen s h = ends_by s.next seen.pending (ap (λ (z : Action). effect_of z seen) (sym s.is) ∙ h)

pub lock_goes_on : (a : Action) (lock : e.LockName) (next : ℕ) (seen : Seen) → a ≡ Lock lock next → effect_of a seen ≡ Some Ends → ⊥
lock_goes_on a lock next seen is h =
    let takes : Some (Takes (lock_number seen.locals lock) next) ≡ Some Ends = ap (λ (z : Action). effect_of z seen) (sym is) ∙ h in cc

pub unlock_goes_on : (a : Action) (lock : e.LockName) (next : ℕ) (seen : Seen) → a ≡ Unlock lock next → effect_of a seen ≡ Some Ends → ⊥
unlock_goes_on a lock next seen is h =
    let gives : Some (Gives (lock_number seen.locals lock) next) ≡ Some Ends = ap (λ (z : Action). effect_of z seen) (sym is) ∙ h in cc

-- What a node's effect says of its action, and where its mark is.
use Rattle.std.proofs.Common.{◌≡◌, ℕ, zero, suc, ◌+◌, ◌-◌, ◌≤◌, List, [], ◌∷◌, refl, ap, arith, sym, ◌∙◌, subst, cond, Bool, true, false, Option, Some}
use Rattle.c_tree.specs.Values.{lock_number}
use Rattle.std.proofs.Common.{None, eq-eqb, ◌==◌}
use Rattle.std.specs.Prelude.{slice_get, Contains, ◌||◌, ℤ}
use Rattle.std.specs.List.{list_any}
use Rattle.ido_ints.specs.Operators.{is_zero}
use Rattle.c_tree.specs.Exprs as e
use Rattle.c_tree.specs.Exprs.{ToLocal, ToVariable, ToElement, LockName}
use Rattle.ido_base.specs.declared.place.Place.{Place}
use Rattle.ido_ints.specs.declared.kinds.Kind.{Kind}
use Rattle.c_tree.specs.Source.{Pending}
use Rattle.flow_graph.specs.Nodes.{Action, Eval, Store, Test, Lock, Unlock, End, Node, successors}
use Rattle.flow_graph.specs.Actions as a
use Rattle.flow_graph.specs.Actions.{Seen, effect_of}
use Rattle.flow_graph.specs.Liveness.{NodeAt}
use Rattle.code_runs.specs.CodeTraces.{Program, MarkedEnvironment, Meets, Mark, marked}
use Rattle.hart_runs.proofs.Public.{none_some, some_same}
use Rattle.thread_code.specs.Plans.{Assigns, Plan, Thread, IsNodeOf}
use Rattle.thread_code.specs.NodeCodeEffects.{Places}
use Rattle.thread_code.specs.Programs.{IsThreadCode, mark_of}
use Rattle.thread_runs.proofs.FragmentStarts.{contains_first}

-- ---- The next node

abbrev pub next_by : a.Effect → Option ℕ
next_by (a.Sets local number next) = Some next
next_by (a.Owes store next) = Some next
next_by (a.Makes store next) = Some next
next_by (a.Goes next) = Some next
next_by (a.Takes mutex next) = Some next
next_by (a.Gives mutex next) = Some next
next_by a.Ends = None

abbrev next_in : Option a.Effect → Option ℕ
next_in None = None
next_in (Some e) = next_by e

same_next : (n next : ℕ) (o : Option a.Effect) → Some n ≡ next_in o → (e : a.Effect) → o ≡ Some e → next_by e ≡ Some next → n ≡ next
same_next n next o is e eq by = some_same n next (is ∙ (ap next_in eq ∙ by))

one_next : (n next : ℕ) → n ≡ next → Contains (n ∷ []) next
one_next n next e = subst (λ (x : ℕ). Contains (x ∷ []) next) (sym e) (contains_first next [])

contains_second : (x y : ℕ) → Contains (y ∷ x ∷ []) x
contains_second x y = (suc zero, omega arith, refl)

pub next_follows : (action : Action) (seen : Seen) (e : a.Effect) (next : ℕ) → effect_of action seen ≡ Some e → next_by e ≡ Some next →
    Contains (successors action) next
next_follows (Eval (ToLocal place local kind) x n) seen e next eq by = one_next n next (same_next n next _ refl e eq by)
next_follows (Eval (ToVariable place variable kind) x n) seen e next eq by = one_next n next (same_next n next _ refl e eq by)
next_follows (Eval (ToElement place variable kind index) x n) seen e next eq by = one_next n next (same_next n next _ refl e eq by)
next_follows (Store variable kind n) seen e next eq by = pending seen.pending eq
  where
    pending : (o : Option Pending) → (elim o [
      | Some store ↦ Some (a.Makes store n)
      | None ↦ None
    ]) ≡ Some e → Contains (n ∷ []) next
    pending (Some store) k = one_next n next (same_next n next (Some (a.Makes store n)) refl e k by)
    pending None k = absurd (none_some e k)
next_follows (Test condition holds fails) seen e next eq by = either (is_zero (a.number_in seen condition.expr)) eq
  where
    either : (b : Bool) → Some (a.Goes (cond b fails holds)) ≡ Some e → Contains (holds ∷ fails ∷ []) next
    either true k = subst (λ (x : ℕ). Contains (holds ∷ x ∷ []) next) (sym (same_next fails next (Some (a.Goes fails)) refl e k by))
        (contains_second next holds)
    either false k = subst (λ (x : ℕ). Contains (x ∷ fails ∷ []) next) (sym (same_next holds next (Some (a.Goes holds)) refl e k by))
        (contains_first next (fails ∷ []))
next_follows (Lock lock n) seen e next eq by = one_next n next (same_next n next _ refl e eq by)
next_follows (Unlock lock n) seen e next eq by = one_next n next (same_next n next _ refl e eq by)
next_follows End seen e next eq by = absurd (none_some next (ap next_in eq ∙ by))

-- ---- The action by its effect

-- what a call of the effect is about
data Call : Type 0 where
  no_call : Call
  takes : (mutex next : ℕ) → Call
  gives : (mutex next : ℕ) → Call
  ends : Call

abbrev call_by : a.Effect → Call
call_by (a.Sets local number next) = no_call
call_by (a.Owes store next) = no_call
call_by (a.Makes store next) = no_call
call_by (a.Goes next) = no_call
call_by (a.Takes mutex next) = takes mutex next
call_by (a.Gives mutex next) = gives mutex next
call_by a.Ends = ends

abbrev call_in : Option a.Effect → Call
call_in None = no_call
call_in (Some e) = call_by e

abbrev call_of : (locals : List ℤ) → Action → Call
call_of ls (Eval target value next) = no_call
call_of ls (Store variable kind next) = no_call
call_of ls (Test condition holds fails) = no_call
call_of ls (Lock lock next) = takes (lock_number ls lock) next
call_of ls (Unlock lock next) = gives (lock_number ls lock) next
call_of ls End = ends

-- an action calls as its effect does
calls_lockstep : (action : Action) (seen : Seen) → call_in (effect_of action seen) ≡ call_of seen.locals action
calls_lockstep (Eval (ToLocal place local kind) x n) seen = refl
calls_lockstep (Eval (ToVariable place variable kind) x n) seen = refl
calls_lockstep (Eval (ToElement place variable kind index) x n) seen = refl
calls_lockstep (Store variable kind n) seen = pending seen.pending
  where
    pending : (o : Option Pending) → call_in (elim o [
      | Some store ↦ Some (a.Makes store n)
      | None ↦ None
    ]) ≡ no_call
    pending (Some store) = refl
    pending None = refl
calls_lockstep (Test condition holds fails) seen = refl
calls_lockstep (Lock lock n) seen = refl
calls_lockstep (Unlock lock n) seen = refl
calls_lockstep End seen = refl

call_is : (action : Action) (seen : Seen) (e : a.Effect) → effect_of action seen ≡ Some e → call_of seen.locals action ≡ call_by e
call_is action seen e eq = sym (calls_lockstep action seen) ∙ ap call_in eq

abbrev mutex_in : Call → ℕ
mutex_in no_call = 0
mutex_in (takes mutex next) = mutex
mutex_in (gives mutex next) = mutex
mutex_in ends = 0

abbrev after_in : Call → ℕ
after_in no_call = 0
after_in (takes mutex next) = next
after_in (gives mutex next) = next
after_in ends = 0

abbrev number_in : Call → ℕ
number_in no_call = 0
number_in (takes mutex next) = 1
number_in (gives mutex next) = 2
number_in ends = 3

lock_by : (ls : List ℤ) (action : Action) (mutex next : ℕ) → call_of ls action ≡ takes mutex next →
    (lock : LockName) × (action ≡ Lock lock next) × (lock_number ls lock ≡ mutex)
lock_by ls (Eval target value n) mutex next e = absurd (let k : 0 ≡ 1 = ap number_in e in omega (arith, k))
lock_by ls (Store variable kind n) mutex next e = absurd (let k : 0 ≡ 1 = ap number_in e in omega (arith, k))
lock_by ls (Test condition holds fails) mutex next e = absurd (let k : 0 ≡ 1 = ap number_in e in omega (arith, k))
lock_by ls (Lock lock n) mutex next e = (lock, ap (λ (x : ℕ). Lock lock x) (ap after_in e), ap mutex_in e)
lock_by ls (Unlock lock n) mutex next e = absurd (let k : 2 ≡ 1 = ap number_in e in omega (arith, k))
lock_by ls End mutex next e = absurd (let k : 3 ≡ 1 = ap number_in e in omega (arith, k))

unlock_by : (ls : List ℤ) (action : Action) (mutex next : ℕ) → call_of ls action ≡ gives mutex next →
    (lock : LockName) × (action ≡ Unlock lock next) × (lock_number ls lock ≡ mutex)
unlock_by ls (Eval target value n) mutex next e = absurd (let k : 0 ≡ 2 = ap number_in e in omega (arith, k))
unlock_by ls (Store variable kind n) mutex next e = absurd (let k : 0 ≡ 2 = ap number_in e in omega (arith, k))
unlock_by ls (Test condition holds fails) mutex next e = absurd (let k : 0 ≡ 2 = ap number_in e in omega (arith, k))
unlock_by ls (Lock lock n) mutex next e = absurd (let k : 1 ≡ 2 = ap number_in e in omega (arith, k))
unlock_by ls (Unlock lock n) mutex next e = (lock, ap (λ (x : ℕ). Unlock lock x) (ap after_in e), ap mutex_in e)
unlock_by ls End mutex next e = absurd (let k : 3 ≡ 2 = ap number_in e in omega (arith, k))

end_by : (ls : List ℤ) (action : Action) → call_of ls action ≡ ends → action ≡ End
end_by ls (Eval target value n) e = absurd (let k : 0 ≡ 3 = ap number_in e in omega (arith, k))
end_by ls (Store variable kind n) e = absurd (let k : 0 ≡ 3 = ap number_in e in omega (arith, k))
end_by ls (Test condition holds fails) e = absurd (let k : 0 ≡ 3 = ap number_in e in omega (arith, k))
end_by ls (Lock lock n) e = absurd (let k : 1 ≡ 3 = ap number_in e in omega (arith, k))
end_by ls (Unlock lock n) e = absurd (let k : 2 ≡ 3 = ap number_in e in omega (arith, k))
end_by ls End e = refl

pub takes_lock : (action : Action) (seen : Seen) (mutex next : ℕ) → effect_of action seen ≡ Some (a.Takes mutex next) →
    (lock : LockName) × (action ≡ Lock lock next) × (lock_number seen.locals lock ≡ mutex)
takes_lock action seen mutex next eq = lock_by seen.locals action mutex next (call_is action seen (a.Takes mutex next) eq)

pub gives_unlock : (action : Action) (seen : Seen) (mutex next : ℕ) → effect_of action seen ≡ Some (a.Gives mutex next) →
    (lock : LockName) × (action ≡ Unlock lock next) × (lock_number seen.locals lock ≡ mutex)
gives_unlock action seen mutex next eq = unlock_by seen.locals action mutex next (call_is action seen (a.Gives mutex next) eq)

pub ends_end : (action : Action) (seen : Seen) → effect_of action seen ≡ Some a.Ends → action ≡ End
ends_end action seen eq = end_by seen.locals action (call_is action seen a.Ends eq)

-- ---- Assignments

-- an action that sets a local is an assignment of it
record SetsLocal (action : Action) (local next : ℕ) : Type 0 where
  place : Place
  kind : Kind
  assigned : e.Placed
  is : action ≡ Eval (ToLocal place local kind) assigned next

sets_local : (action : Action) (seen : Seen) (local : ℕ) (number : ℤ) (next : ℕ) → effect_of action seen ≡ Some (a.Sets local number next) →
    SetsLocal action local next
sets_local (Eval (ToLocal place own kind) x n) seen local number next eq =
    let of_local : own ≡ local = cc in
    let goes : n ≡ next = cc in
    record {
      place = place;
      kind = kind;
      assigned = x;
      is = ap (λ (i : ℕ). Eval (ToLocal place i kind) x n) of_local ∙ ap (λ (i : ℕ). Eval (ToLocal place local kind) x i) goes;
    }
sets_local (Eval (ToVariable place variable kind) x n) seen local number next eq = absurd (let z : ⊥ = cc in z)
sets_local (Eval (ToElement place variable kind index) x n) seen local number next eq = absurd (let z : ⊥ = cc in z)
sets_local (Store variable kind n) seen local number next eq = absurd (pending seen.pending eq)
  where
    pending : (o : Option Pending) → (elim o [
      | Some store ↦ Some (a.Makes store n)
      | None ↦ None
    ]) ≡ Some (a.Sets local number next) → ⊥
    pending (Some store) k = cc
    pending None k = cc
sets_local (Test condition holds fails) seen local number next eq = absurd (let z : ⊥ = cc in z)
sets_local (Lock lock n) seen local number next eq = absurd (let z : ⊥ = cc in z)
sets_local (Unlock lock n) seen local number next eq = absurd (let z : ⊥ = cc in z)
sets_local End seen local number next eq = absurd (let z : ⊥ = cc in z)

pub assigns_local : (p : Plan) (node : ℕ) (is : Node) (seen : Seen) (local : ℕ) (number : ℤ) (next : ℕ) → NodeAt p.graph node is →
    effect_of is.action seen ≡ Some (a.Sets local number next) → (assigns : Assigns p node local) × (assigns.next ≡ next)
assigns_local p node is seen local number next found eq =
    let sets = sets_local is.action seen local number next eq in
    (record { is = is; at = found; place = sets.place; kind = sets.kind; assigned = sets.assigned; next = next; action = sets.is }, refl)

-- ---- Marks

abbrev pub is_taking : a.Effect → Bool
is_taking (a.Sets local number next) = false
is_taking (a.Owes store next) = false
is_taking (a.Makes store next) = false
is_taking (a.Goes next) = false
is_taking (a.Takes mutex next) = true
is_taking (a.Gives mutex next) = false
is_taking a.Ends = false

abbrev takes_in : Option a.Effect → Bool
takes_in None = false
takes_in (Some e) = is_taking e

-- the mark of a node that takes no mutex is where its code begins
core_mark : (c : Places) (action : Action) (seen : Seen) (node : ℕ) (e : a.Effect) → effect_of action seen ≡ Some e → is_taking e ≡ false →
    mark_of c action node ≡ c.core node
core_mark c (Eval target value next) seen node e eq n = refl
core_mark c (Store variable kind next) seen node e eq n = refl
core_mark c (Test condition holds fails) seen node e eq n = refl
core_mark c (Lock lock next) seen node e eq n = absurd (let k : true ≡ false = ap takes_in eq ∙ n in let z : ⊥ = cc in z)
core_mark c (Unlock lock next) seen node e eq n = refl
core_mark c End seen node e eq n = refl

pub any_at : (marks : List ℕ) (i x : ℕ) → slice_get marks i ≡ Some x → list_any (λ mark. mark == x) marks ≡ true
any_at [] i x e = absurd (none_some x e)
any_at (m ∷ ms) zero x e = ap (λ (b : Bool). b || list_any (λ mark. mark == x) ms) (eq-eqb m x (some_same m x e))
any_at (m ∷ ms) (suc i) x e = either (m == x) (list_any (λ mark. mark == x) ms) (any_at ms i x e)
  where
    either : (a b : Bool) → b ≡ true → (a || b) ≡ true
    either true b k = refl
    either false b k = k

module _ (p : Plan) (t : Thread) (own : Program) (code : IsThreadCode p t own) (s : MarkedEnvironment) (meets : Meets code.places.program s) where
  marks_are : s.marks ≡ own.nodes
  marks_are = meets.marks ∙ ap (λ (x : Program). x.nodes) code.of_program

  -- a node's mark is one of the environment's
  pub mark_there : (node : ℕ) (is : Node) → IsNodeOf t node → NodeAt p.graph node is →
      list_any (λ mark. mark == mark_of code.places is.action node) s.marks ≡ true
  mark_there node is of found =
      let first : t.part.first ≤ node = of.from_first in
      let i : t.part.first + (node - t.part.first) ≡ node = omega (arith, first) in
      let there : slice_get own.nodes (node - t.part.first) ≡ Some (mark_of code.places is.action (t.part.first + (node - t.part.first))) =
      code.marks (node - t.part.first) is (subst (λ (n : ℕ). IsNodeOf t n) (sym i) of) (subst (λ (n : ℕ). NodeAt p.graph n is) (sym i) found) in
      let here : slice_get own.nodes (node - t.part.first) ≡ Some (mark_of code.places is.action node) =
      there ∙ ap (λ (n : ℕ). Some (mark_of code.places is.action n)) i in
      ap (λ (ms : List ℕ). list_any (λ mark. mark == mark_of code.places is.action node) ms) marks_are
      ∙ any_at own.nodes (node - t.part.first) (mark_of code.places is.action node) here

  pub core_marked : (node : ℕ) (is : Node) (seen : Seen) (e : a.Effect) → IsNodeOf t node → NodeAt p.graph node is → effect_of is.action seen ≡ Some e →
      is_taking e ≡ false → marked s.marks (code.places.core node) ≡ Mark ∷ []
  core_marked node is seen e of found eq n =
      let any : list_any (λ mark. mark == code.places.core node) s.marks ≡ true =
      subst (λ (x : ℕ). list_any (λ mark. mark == x) s.marks ≡ true) (core_mark code.places is.action seen node e eq n) (mark_there node is of found) in
      ap (λ (b : Bool). cond b (Mark ∷ []) []) any

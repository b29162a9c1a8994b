-- Registers at a node, and others that hold what a boundary keeps.
use Rattle.std.proofs.Common.{◌≡◌, refl, ap, sym, subst, ◌∙◌, ℕ, ◌%◌, ◌<◌, List}
use Rattle.std.specs.Prelude.{Contains, Option, Some, ℤ, ◌*◌, ◌^◌}
use Rattle.ido_ints.specs.declared.kinds.Kind.{Kind}
use Rattle.ido_ints.specs.Kinds.{bytes_of}
use Rattle.rv64_isa.specs.Rows.{read}
use Rattle.memory_layout.specs.Roles.{pending_address, pending_value}
use Rattle.flow_graph.specs.Nodes.{Action, Eval, Store, Test, Lock, Unlock, End, Node}
use Rattle.flow_graph.specs.Actions.{Seen}
use Rattle.flow_graph.specs.IdempotentCuts.{IsStoreNode, stores}
use Rattle.flow_graph.specs.Liveness.{NodeAt}
use Rattle.thread_code.specs.Plans.{Plan, Thread, IsKept, IsLogged, of_local, of_address, of_value, of_entry, of_word, of_number}
use Rattle.thread_code.specs.RegistersAtNodes.{Enters, HasLowBytes, HasPending, IsFrameOn, IsFrameOnAtCore, IsPendingIn, IsReady}
use Rattle.thread_code.specs.RegistersAtNodes.{LogView, MayAssign, by_assignment, by_entry, frame_loads, to_assign, to_enter}
use Rattle.thread_code.specs.Laws.{EntersAgain, IsReadyAgain, ReadyWhatever}
use Rattle.ido_ints.specs.TypedNumbers.{Typed}
use Rattle.boundary_code.specs.Boundaries.{IsOnSide}
use Rattle.expr_code.specs.EvaluationCode.{HomeCarries, home_of}
use Rattle.expr_code.specs.declared.home.Home.{Home}
use Rattle.expr_code.specs.declared.home.Home.TheVariants.{InRegister, InFrame}

low_bytes_on : (x y : List ℕ) (r : ℕ) (k : Kind) (number : ℤ) → read y r ≡ read x r → HasLowBytes x r k number → HasLowBytes y r k number
low_bytes_on x y r k number same h = record {
  held = h.held;
  below = subst (λ (v : ℕ). v < 2 ^ 64) (sym same) h.below;
  low = ap (λ (v : ℕ). v % 2 ^ (8 * bytes_of k)) same ∙ h.low;
}

-- what stands in a home stands there in another view, too, where its register or its word is as it was
carries_on : (view other : LogView) (x y : List ℕ) (home : Home) (v : Typed) →
    ((register : ℕ) → home ≡ InRegister register → read y register ≡ read x register) →
    ((word : ℕ) → home ≡ InFrame word → other.frame word ≡ view.frame word) → HomeCarries (frame_loads view) x home v → HomeCarries (frame_loads other) y home v
carries_on view other x y (InRegister register) v same on c = record { held = c.held; form = same register refl ∙ c.form }
carries_on view other x y (InFrame word) v same on c = record { held = c.held; answer = ap (λ (n : ℕ). Some n) (on word refl) ∙ c.answer }

module _ (p : Plan) (t : Thread) (node : ℕ) (seen : Seen) (view other : LogView) (x y : List ℕ) where
  module _ (same : (register : ℕ) → IsKept p t node register → read y register ≡ read x register) where
    pending_again : (is : Node) → NodeAt p.graph node is → (a : Action) → is.action ≡ a → IsPendingIn p a seen x → IsPendingIn p a seen y
    pending_again is at (Eval target value next) e h = tt
    pending_again is at (Store variable kind next) e h = λ store s.
        let old : HasPending p store variable kind x = h store s in
        let here : IsStoreNode p.graph node = stores is variable kind next at e in
        record {
          variable_is = old.variable_is;
          address = same pending_address (of_address here) ∙ old.address;
          below = old.below;
          value = low_bytes_on x y pending_value kind store.number (same pending_value (of_value here)) old.value;
        }
    pending_again is at (Test condition holds fails) e h = tt
    pending_again is at (Lock lock next) e h = tt
    pending_again is at (Unlock lock next) e h = tt
    pending_again is at End e h = tt

    entered : Enters p t node seen view x → IsOnSide p.log other.side y → IsFrameOn p t node view other → Enters p t node seen other y
    entered h at on = record {
      at_side = at;
      count = h.count;
      locals = λ local k g l. carries_on view other x y (home_of t.locals local) _
          (λ register is. same register (of_local local k register g l is)) (λ word is. on local word l is) (h.locals local k g l);
      pending = λ is a. pending_again is a is.action refl (h.pending is a);
    }

  -- where the number is computed
  assigned : (logged : IsLogged p t node) (owed : ℤ) → read y pending_address ≡ read x pending_address → read y pending_value ≡ read x pending_value →
      MayAssign p t node logged.local owed seen view x → IsOnSide p.log other.side y → IsFrameOnAtCore p t node view other →
      MayAssign p t node logged.local owed seen other y
  assigned logged owed address value h at on = record {
    at_side = at;
    count = h.count;
    locals = λ local word k g beside is.
        let c = h.locals local word k g beside is in
        record { held = c.held; answer = ap (λ (n : ℕ). Some n) (on local word (by_assignment local logged beside) is) ∙ c.answer };
    assigned = record {
      word = h.assigned.word;
      home = h.assigned.home;
      address = address ∙ h.assigned.address;
      below = h.assigned.below;
      carries = λ k g.
          let c = h.assigned.carries k g in
          record { held = c.held; form = value ∙ c.form };
    };
  }

pub enters_again : EntersAgain
enters_again p t node seen view other x y live kept h at on same =
    entered p t node seen view other x y (λ register k. same register ((kept register).1 k)) h at on

pub ready_again : IsReadyAgain
ready_again p t node seen view other owed x y kept are (to_enter none h) at on same =
    to_enter none (entered p t node seen view other x y (λ register k. same register ((are register).1 (of_entry register k))) h at
    (λ local word l is. on local word (by_entry local none l) is))
ready_again p t node seen view other owed x y kept are (to_assign logged h) at on same =
    to_assign logged (assigned p t node seen view other x y logged owed (same pending_address ((are pending_address).1 (of_word logged)))
    (same pending_value ((are pending_value).1 (of_number logged))) h at on)

-- what is pending before a store is in registers, whatever variables have
pending_whatever : (p : Plan) (a : Action) (seen : Seen) (variables : List (List ℤ)) (registers : List ℕ) → IsPendingIn p a seen registers →
    IsPendingIn p a (record seen { variables = variables }) registers
pending_whatever p (Eval target value next) seen variables registers h = tt
pending_whatever p (Store variable kind next) seen variables registers h = h
pending_whatever p (Test condition holds fails) seen variables registers h = tt
pending_whatever p (Lock lock next) seen variables registers h = tt
pending_whatever p (Unlock lock next) seen variables registers h = tt
pending_whatever p End seen variables registers h = tt

pub ready_whatever : ReadyWhatever
ready_whatever p t node seen variables view owed registers (to_enter none h) = to_enter none (record {
  at_side = h.at_side;
  count = h.count;
  locals = h.locals;
  pending = λ is at. pending_whatever p is.action seen variables registers (h.pending is at);
})
ready_whatever p t node seen variables view owed registers (to_assign logged h) = to_assign logged (record {
  at_side = h.at_side;
  count = h.count;
  locals = h.locals;
  assigned = h.assigned;
})

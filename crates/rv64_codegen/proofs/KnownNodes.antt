-- What is known of a node of a plan's thread, and whether it is a logged assignment.
use Rattle.std.proofs.Common.{◌≡◌, ◌≢◌, ℕ, ◌<◌, List, length, ap, sym, ◌∙◌, subst, Bool, true, false, Some}
use Rattle.std.specs.Prelude.{slice_get}
use Rattle.std.proofs.lemmas.Option.{same_Some}
use Rattle.ido_base.specs.declared.place.Place.{Place}
use Rattle.ido_ints.specs.declared.kinds.Kind.{Kind}
use Rattle.c_tree.specs.Exprs as e
use Rattle.flow_graph.specs.Nodes.{Action, Eval, Store, Test, Lock, Unlock, End, Node, Graph}
use Rattle.flow_graph.specs.Liveness.{NodeAt}
use Rattle.expr_code.specs.EvaluationCode.{home_of}
use Rattle.expr_code.specs.declared.home.Home.TheVariants.{InFrame}
use Rattle.thread_code.specs.Plans.{Assigns, IsLogged, IsNodeOf, IsPlan, IsThread, Plan, Thread}
use Rattle.flow_graph.specs.Actions.{Seen}
use Rattle.thread_code.specs.RegistersAtNodes.{IsPendingIn}
use Rattle.std.proofs.lemmas.Bool.{true≢false}
use Rattle.rv64_codegen.proofs.LocalRegisters.{framed, word_of}
use Rattle.rv64_codegen.proofs.Nodes.{Known, node_known}

-- the local that an action assigns, or any
abbrev local_of : Action → ℕ
local_of (Eval (e.ToLocal place local kind) value next) = local
local_of _ = 0

abbrev pub sets_local : Action → Bool
sets_local (Eval (e.ToLocal place local kind) value next) = true
sets_local (Eval (e.ToVariable place variable kind) value next) = false
sets_local (Eval (e.ToElement place variable kind index) value next) = false
sets_local (Store variable kind next) = false
sets_local (Test condition holds fails) = false
sets_local (Lock lock next) = false
sets_local (Unlock lock next) = false
sets_local End = false

-- before an assignment of a local no store is pending
pub nothing_pending : (p : Plan) (a : Action) (seen : Seen) (x : List ℕ) → sets_local a ≡ true → IsPendingIn p a seen x
nothing_pending p (Eval target value next) seen x on = tt
nothing_pending p (Store variable kind next) seen x on = absurd (true≢false (sym on))
nothing_pending p (Test condition holds fails) seen x on = tt
nothing_pending p (Lock lock next) seen x on = tt
nothing_pending p (Unlock lock next) seen x on = tt
nothing_pending p End seen x on = tt

module _ (p : Plan) (t : Thread) (plan : IsPlan p) (of : IsThread p t) where
  -- what is known of a node of the thread
  pub known_of : (node : ℕ) (is : Node) → IsNodeOf t node → NodeAt p.graph node is →
      Known p.flat t.kinds t.part.first t.part.end p.graph.nodes is is.action
  known_of node is own at =
      subst (λ (ks : List Kind). Known p.flat ks t.part.first t.part.end p.graph.nodes is is.action) (sym of.kinds)
      (subst (λ (g : Graph). Known p.flat of.text.locals t.part.first t.part.end g.nodes is is.action) (sym plan.lowered)
      (node_known p.flat plan.formed t.number t.part of.text (subst (λ (g : Graph). slice_get g.threads t.number ≡ Some t.part) plan.lowered of.nodes)
      of.of_text node is (subst (λ (g : Graph). NodeAt g node is) plan.lowered at) own.from_first own.below_end))

  module _ (node : ℕ) (is : Node) (at : NodeAt p.graph node is) where
    -- a node that assigns a local does that
    pub assigns_here : (local : ℕ) (it : Assigns p node local) → is.action ≡ Eval (e.ToLocal it.place local it.kind) it.assigned it.next
    assigns_here local it = ap (λ (n : Node). n.action) (same_Some is it.is (sym at ∙ it.at)) ∙ it.action

    pub assigned_sets : (local : ℕ) → Assigns p node local → sets_local is.action ≡ true
    assigned_sets local it = ap sets_local (assigns_here local it)

    pub logged_sets : IsLogged p t node → sets_local is.action ≡ true
    logged_sets logged = assigned_sets logged.local logged.assigns

    -- a logged assignment is one of the local that it assigns
    pub logged_local : (logged : IsLogged p t node) (place : Place) (local : ℕ) (kind : Kind) (value : e.Placed) (next : ℕ) →
        is.action ≡ Eval (e.ToLocal place local kind) value next → logged.local ≡ local
    logged_local logged place local kind value next same = ap local_of (sym (assigns_here logged.local logged.assigns) ∙ same)

    -- whose home is a word of the frame
    pub logged_home : (logged : IsLogged p t node) (local : ℕ) → local < length t.kinds → home_of t.locals local ≡ InFrame (word_of p t plan of local)
    logged_home logged local below = framed p t plan of logged.frame local below

    pub not_logged : sets_local is.action ≡ false → IsLogged p t node → ⊥
    not_logged off logged = true≢false (sym (logged_sets logged) ∙ off)

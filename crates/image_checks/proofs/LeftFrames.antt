-- What stands in the frame of a thread's log, and what a bank is told of a write.
use Rattle.std.proofs.Common.{◌≡◌, ℕ, List, [], ◌∷◌, ap, sym, ◌∙◌, Option, None, Some}
use Rattle.std.specs.Prelude.{slice_get, Contains}
use Rattle.std.proofs.lemmas.Option.{same_Some}
use Rattle.ido_ints.specs.declared.kinds.Kind.{Kind}
use Rattle.ido_ints.specs.Kinds.{bytes_of}
use Rattle.c_tree.specs.Programs.{Variable}
use Rattle.image_checks.specs.Checks.{element_bytes}
use Rattle.log_schemes.specs.declared.locals.Locals.{Locals}
use Rattle.log_schemes.specs.declared.locals.Locals.TheVariants.{Registers, Frame}
use Rattle.log_schemes.specs.Layout.{frame_at}
use Rattle.log_schemes.specs.Schemes.{locals_of}
use Rattle.expr_code.specs.EvaluationCode.{home_of}
use Rattle.expr_code.specs.declared.home.Home.{Home}
use Rattle.expr_code.specs.declared.home.Home.TheVariants.{InFrame, InRegister}
use Rattle.flow_graph.specs.Nodes.{Node}
use Rattle.log_states.proofs.Public.{contains_first, contains_later}
use Rattle.recovered_threads.proofs.Public.{assigned_is}
use Rattle.thread_code.specs.Plans.{Assigns, IsPlan, IsThread, Plan, Thread, home_at}
use Rattle.flat_compile.proofs.Public.{coloured, home_is}
use Rattle.image_checks.specs.Logs.{HavePairs}

pub each_pair : (slot : ℕ → ℕ) (pairs : List (ℕ × ℕ)) → ((one : ℕ × ℕ) → Contains pairs one → slot one.0 ≡ one.1) → HavePairs slot pairs
each_pair slot [] each = tt
each_pair slot (one ∷ pairs) each =
    (each one (contains_first one pairs), each_pair slot pairs (λ other c. each other (contains_later one pairs other c)))

pub no_frame : (ls : Locals) → ls ≡ Registers → ls ≡ Frame → ⊥
no_frame Registers one other = cc
no_frame Frame one other = cc

module _ (p : Plan) (plan : IsPlan p) where
  -- no node assigns two locals
  pub one_assigned : (node one other : ℕ) → Assigns p node one → Assigns p node other → one ≡ other
  one_assigned node one other a b =
      let same : a.is ≡ b.is = same_Some a.is b.is (sym a.at ∙ b.at) in
      same_Some one other (sym (assigned_is p plan node a.is a.at a.place one a.kind a.assigned a.next a.action)
      ∙ (ap (λ (n : Node). n.assigns) same ∙ assigned_is p plan node b.is b.at b.place other b.kind b.assigned b.next b.action))

  -- where locals stand in the frame, each has a word
  pub word_of : (t : Thread) (th : IsThread p t) → locals_of p.log ≡ Frame → (local : ℕ) (k : Kind) → slice_get t.kinds local ≡ Some k →
      (address : ℕ) × (home_of t.locals local ≡ InFrame address)
  word_of t th frame local k kind =
      let colour = coloured p plan t th local k kind in (
        frame_at p.log t.number colour.0,
        home_is p plan t th local colour.0 colour.1 ∙ ap (λ (ls : Locals). home_at ls p.log t.number colour.0) frame,
      )

-- how many bytes an element of a variable has that is there
pub bytes_of_element : (vs : List Variable) (variable : ℕ) (it : Variable) → slice_get vs variable ≡ Some it → element_bytes vs variable ≡ bytes_of it.kind
bytes_of_element vs variable it there = ap (λ (o : Option Variable). bytes_there o) there
  where
    bytes_there : Option Variable → ℕ
    bytes_there (Some v) = bytes_of v.kind
    bytes_there None = 0

-- a home in the frame is that of one address
address_in : Home → ℕ
address_in (InRegister register) = register
address_in (InFrame address) = address

pub same_word : {a b : ℕ} → InFrame a ≡ InFrame b → a ≡ b
unfolding address_in
same_word e = ap address_in e

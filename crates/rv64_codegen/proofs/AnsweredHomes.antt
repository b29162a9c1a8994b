-- A local that is in its home is found there by loads that are answered.
use Rattle.std.proofs.Common.{◌≡◌, refl, ℕ, List, ◌∙◌, Option, Some}
use Rattle.std.specs.Prelude.{slice_index_or, pos}
use Rattle.ido_ints.specs.declared.kinds.Kind.{Kind}
use Rattle.ido_ints.specs.TypedNumbers.{Typed, typed}
use Rattle.expr_code.specs.EvaluationCode.{HomeCarries, home_of}
use Rattle.expr_code.specs.declared.home.Home.{Home}
use Rattle.expr_code.specs.declared.home.Home.TheVariants.{InRegister, InFrame}
use Rattle.flow_graph.specs.Actions.{Seen}
use Rattle.flow_graph.specs.Liveness.{IsLive}
use Rattle.thread_code.specs.Plans.{Plan, Thread}
use Rattle.thread_code.specs.RegistersAtNodes.{IsAtHome, IsFrameAnswered, LogView, frame_loads}

answered_in : (view : LogView) (loads : (address bytes : ℕ) → Option ℕ) (x : List ℕ) (home : Home) (v : Typed) →
    ((word : ℕ) → home ≡ InFrame word → loads word 8 ≡ Some (view.frame word)) → HomeCarries (frame_loads view) x home v → HomeCarries loads x home v
answered_in view loads x (InRegister register) v answers c = c
answered_in view loads x (InFrame word) v answers c = record { held = c.held; answer = answers word refl ∙ c.answer }

pub answered_home : (p : Plan) (t : Thread) (seen : Seen) (view : LogView) (loads : (address bytes : ℕ) → Option ℕ) (node local : ℕ) (k : Kind) (x : List ℕ) →
    IsFrameAnswered p t view node loads → IsLive p.graph local node → IsAtHome p t seen view x local k →
    HomeCarries loads x (home_of t.locals local) (typed k (slice_index_or seen.locals local (pos 0)))
answered_home p t seen view loads node local k x frame live at =
    answered_in view loads x (home_of t.locals local) (typed k (slice_index_or seen.locals local (pos 0))) (λ word is. frame local word live is) at

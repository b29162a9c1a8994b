-- A hart at its node's code is at the node's mark.
use Rattle.crash_simulation.proofs.Common.{◌≡◌, ◌≢◌, ℕ, List, sym, ◌∙◌, arith, subst, true, false, Some, refl, ◌+◌, [], ◌++◌, length, Bool, slice_get, ◌≤◌}
use Rattle.crash_simulation.proofs.Common.{◌*◌, nat_tests, Log, World, Effect, is_point_store, effect_of, graph_step, NodeAt, lowered, Node, Graph, End, now}
use Rattle.crash_simulation.proofs.Common.{MarkedEnvironment, seen_effects, is_store, cleans_in, Contents, Changes, Places, keeping, Plan, IsNodeOf, Thread}
use Rattle.crash_simulation.proofs.Common.{IsAnswered, source_of, on_machine, Stage, effects_of, ReadsOwn, stage_after, MayDo, AreSeen, IsAtSomeMark}
use Rattle.crash_simulation.proofs.Common.{Performing, PassesMark, Stays, left_of, few_cleans, nodes_begin, next_by, next_follows, marks_are_bounded}
use Rattle.crash_simulation.proofs.Common.{same_there, now_of, entry_ahead, most_ahead, beyond, System, IsSystem, flat_of, is_fence, ℤ, ◌∷◌, ap, Home}
use Rattle.crash_simulation.proofs.Common.{InRegister, IsFrameAnswered, IsLogged, LockName, LogView, Seen, home_of, held_names_before}
use Rattle.expr_code.specs.declared.home.Home.TheVariants.{InFrame}
use Rattle.thread_runs.specs.CodeFragments.{MayBeSet, effects_set, exit_set, view_set}
use Rattle.flow_graph.specs.Actions as a
use Rattle.crash_simulation.proofs.GraphAfterBegin.{takes_none, after_effect, done_is, matches_now}
use Rattle.crash_simulation.proofs.LoadFreeEnvironment.{placed, meets_with}
use Rattle.crash_simulation.proofs.NodeEnvironments.{environment_with, agrees_here}
use Rattle.crash_simulation.proofs.NodeEffects.{is_quiet, IsAtNode, step_is}
use Rattle.crash_simulation.proofs.StepsAfterMarks.{fits_by, most_is, alone_fits}
use Rattle.crash_simulation.proofs.OwnHartSteps.{view, AtNode}

-- ---- Quiet effects

-- a local in this home takes a number by no store at the mark, where these locks are held
abbrev pub IsPlainSet : Home → (held : List LockName) → Type 0
IsPlainSet (InRegister register) held = Unit {0}
IsPlainSet (InFrame word) [] = Unit {0}
IsPlainSet (InFrame word) (name ∷ held) = ⊥

-- the effect is no logged assignment
abbrev pub IsUnlogged : Plan → Thread → (node : ℕ) → a.Effect → Type 0
IsUnlogged p t node (a.Sets local number next) = IsPlainSet (home_of t.locals local) (held_names_before p t node)
IsUnlogged p t node e = Unit {0}

set_may : (home : Home) (held : List LockName) (p : Plan) (t : Thread) (c : Places) (s : MarkedEnvironment) → IsPlainSet home held → MayBeSet p t c home held s
set_may (InRegister register) held p t c s plain = tt
set_may (InFrame word) [] p t c s plain = tt
set_may (InFrame word) (name ∷ held) p t c s plain = absurd plain

pub quiet_may : (p : Plan) (t : Thread) (c : Places) (log : Log) (threads : ℕ) (s : MarkedEnvironment) (node : ℕ) (e : a.Effect) → is_quiet e ≡ true →
    IsUnlogged p t node e → MayDo p t c log threads s node e
quiet_may p t c log threads s node (a.Sets local number next) quiet plain = set_may (home_of t.locals local) (held_names_before p t node) p t c s plain
quiet_may p t c log threads s node (a.Owes store next) quiet plain = tt
quiet_may p t c log threads s node (a.Makes store next) quiet plain = cc
quiet_may p t c log threads s node (a.Goes next) quiet plain = tt
quiet_may p t c log threads s node (a.Takes mutex next) quiet plain = tt
quiet_may p t c log threads s node (a.Gives mutex next) quiet plain = tt
quiet_may p t c log threads s node a.Ends quiet plain = tt

-- then nothing is seen of it, and the thread's log is as it was
record IsPlainStage (p : Plan) (t : Thread) (c : Places) (home : Home) (held : List LockName) (registers : List ℕ) (view : LogView) : Type 0 where
  none : effects_set p t c home held registers ≡ []
  same : view_set p t c home held registers view ≡ view

set_stage : (home : Home) (held : List LockName) (p : Plan) (t : Thread) (c : Places) (registers : List ℕ) (view : LogView) → IsPlainSet home held →
    IsPlainStage p t c home held registers view
set_stage (InRegister register) held p t c registers _ plain = record { none = refl; same = refl }
set_stage (InFrame word) [] p t c registers _ plain = record { none = refl; same = refl }
set_stage (InFrame word) (name ∷ held) p t c registers _ plain = absurd plain

quiet_stage : (p : Plan) (t : Thread) (c : Places) (node : ℕ) (seen : Seen) (view : LogView) (registers : List ℕ) (e : a.Effect) (effects : List Effect) →
    is_quiet e ≡ true → IsUnlogged p t node e → AreSeen p t c node seen view registers e effects →
    (effects ≡ []) × ((stage_after p t c node seen view registers e).view ≡ view)
quiet_stage p t c node seen view registers (a.Sets local number next) effects quiet plain are =
    let s = set_stage (home_of t.locals local) (held_names_before p t node) p t c registers view plain in (are ∙ s.none, s.same)
quiet_stage p t c node seen view registers (a.Owes store next) effects quiet plain are = (are, refl)
quiet_stage p t c node seen view registers (a.Makes store next) effects quiet plain are = cc
quiet_stage p t c node seen view registers (a.Goes next) effects quiet plain are = (are, refl)
quiet_stage p t c node seen view registers (a.Takes mutex next) effects quiet plain are = (are, refl)
quiet_stage p t c node seen view registers (a.Gives mutex next) effects quiet plain are = cc
quiet_stage p t c node seen view registers a.Ends effects quiet plain are = (are, refl)

pub quiet_free : (e : a.Effect) → is_quiet e ≡ true → takes_none e ≡ true
quiet_free e quiet = grind (arith, nat_tests)

-- ---- Instructions of which nothing is seen

pub record IsUnseen (log : Log) (n : ℕ) (effect : Effect) (later : List Effect) : Type 0 where
  pub later_is : later ≡ []
  pub no_store : is_store effect ≡ false
  pub no_point : is_point_store log n effect ≡ false
  pub no_fence : is_fence effect ≡ false
  pub same : (old new : Contents) → Changes old effect new → new.words ≡ old.words

pub unseen : (log : Log) (n : ℕ) (effect : Effect) (later effects : List Effect) → effects ≡ [] → effects ≡ effects_of effect ++ later →
    IsUnseen log n effect later
unseen log n effect later effects none is = grind (arith)

-- ---- The mark

module _ {y : System} {s : IsSystem y} {w : World} {h : ℕ} (site : AtNode y s w h) where
  open view site.hart use {b, code, t, n, places, graph_thread, seen}
  open site.core use {view as old, registers}
  open site.hart.stands.machine use {short}

  -- what the thread does at its node, and which loads are answered for that
  pub record Doing : Type 0 where
    pub node : Node
    pub at : NodeAt (lowered (flat_of y)) graph_thread.at node
    pub effect : a.Effect
    pub free : takes_none effect ≡ true
    pub does : effect_of node.action seen ≡ Some effect
    pub reads : ℕ → ℕ → Bool

  module _ (d : Doing) where
    open d use {node, effect, reads}

    abbrev pub environment : MarkedEnvironment
    environment = environment_with site.hart reads

    abbrev pub stage_then : Stage
    stage_then = stage_after y.plan code.thread places graph_thread.at seen old registers effect

    abbrev pub MarkIn : Type 0
    MarkIn = IsAtSomeMark y.plan code.thread places (on_machine y.runs.program w n environment) graph_thread.at seen old registers effect

    abbrev pub in_graph : IsAtNode (flat_of y) (now_of y b) (now b.config) n
    in_graph = record { formed = s.plan.formed; matches = matches_now y s b; graph_thread = graph_thread; found = t.walks; node = node; at = d.at }

    pub at_plan : NodeAt y.plan.graph graph_thread.at node
    at_plan = subst (λ (g : Graph). NodeAt g graph_thread.at node) (sym s.plan.lowered) d.at

    pub graph_step_is : graph_step (lowered (flat_of y)) (now_of y b) n ≡ Some (after_effect (now_of y b) n graph_thread effect)
    graph_step_is = step_is in_graph effect d.does ∙ done_is (now_of y b) n graph_thread effect d.free site.core.goes.execution

    pub at_some_mark : ReadsOwn w.log n environment →
        (¬ (IsLogged y.plan code.thread graph_thread.at) → IsAnswered (source_of y.plan code.thread seen) environment.around.loads node.action ×
        IsFrameAnswered y.plan code.thread old graph_thread.at environment.around.loads) →
        MayDo y.plan code.thread places w.log (length w.harts) environment graph_thread.at effect → MarkIn
    at_some_mark reading answered may =
        by effect d.free (nodes_begin y.plan code.thread y.runs.program code.program code.is w n environment graph_thread.at seen old site.core.owed registers
        node effect
        (placed y s w h site.hart.below site.hart.stands.machine.log site.hart.stands.machine.count) (meets_with y code (s.own h site.hart.below) w reads)
        (agrees_here site.hart reads) reading at_plan d.does
        (λ logged local number next does. site.core.owes.number node local number next at_plan logged does) answered may site.core.core)
      where
        by : (e : a.Effect) → takes_none e ≡ true →
            Performing y.plan code.thread places (on_machine y.runs.program w n environment) graph_thread.at seen old registers e →
            IsAtSomeMark y.plan code.thread places (on_machine y.runs.program w n environment) graph_thread.at seen old registers e
        by (a.Takes mutex next) free m = cc
        by e free m = m

  -- a hart at the mark of its node
  pub record AtMark : Type 0 where
    pub doing : Doing
    pub mark : MarkIn doing

  module _ (m : AtMark) where
    open m.doing use {effect}

    abbrev stage : Stage
    stage = stage_then m.doing

    -- its step passes the mark, or writes an entry back
    abbrev pub Passes : Type 0
    Passes = PassesMark y.plan code.thread places (on_machine y.runs.program w n (environment m.doing)) effect stage m.mark.steps m.mark.effects m.mark.at

    abbrev pub WritesBack : Type 0
    WritesBack = Stays y.plan code.thread places (on_machine y.runs.program w n (environment m.doing)) effect stage m.mark.steps m.mark.effects m.mark.at

    pub old_hart : m.mark.at.on.hart ≡ t.log.hart
    old_hart = same_there (slice_get w.harts n) m.mark.at.on.hart t.log.hart m.mark.at.on.here t.log.here

    -- of a quiet one that is no logged assignment nothing is seen, and the thread's log is as it was
    pub quiet_seen : is_quiet effect ≡ true → IsUnlogged y.plan code.thread graph_thread.at effect → (m.mark.effects ≡ []) × (stage.view ≡ old)
    quiet_seen quiet plain =
        quiet_stage y.plan code.thread places graph_thread.at seen old registers effect m.mark.effects quiet plain m.mark.seen_are

    -- ---- After it

    module _ (p : Passes) where
      abbrev left : ℕ
      left = left_of y.plan code.thread places p.on

      abbrev words : ℕ
      words = places.words graph_thread.at

      abbrev L : ℕ
      L = length code.program.code

      few : left ≤ 2 * words + 15
      few =
          let bounded = marks_are_bounded y.plan code.thread places y.runs.program w n (environment m.doing) effect stage m.mark.steps m.mark.effects
          short m.mark.at in
          omega (arith, p.less, m.mark.short, bounded)

      cleaned : (most : ℕ) → cleans_in (seen_effects m.mark.effects) ≤ most → left ≤ words + 15 + most
      cleaned most cleans =
          let queue : length m.mark.at.on.hart.queue ≤ 16 = short n m.mark.at.on.hart m.mark.at.on.here in
          omega (arith, p.less, m.mark.short, cleans, queue)

      -- of a local that takes a number outside sections nothing is seen, and it is stored later in the same code
      set_soon : (home : Home) (held : List LockName) (local : ℕ) (number : ℤ) (next : ℕ) → 2 * words + entry_ahead y.plan places next + 4 ≤ 2 * L →
          m.mark.effects ≡ effects_set y.plan code.thread places home held registers →
          left + beyond y.plan places (exit_set y.plan code.thread places home held graph_thread.at local number) next ≤ 2 * L + 17
      set_soon (InRegister register) held local number next fit are = omega (arith, fit, few)
      set_soon (InFrame word) [] local number next fit are =
          let none : cleans_in (seen_effects m.mark.effects) ≡ 0 = ap (λ (es : List Effect). cleans_in (seen_effects es)) are in
          omega (arith, fit, cleaned 0 (omega (arith, none)))
      set_soon (InFrame word) (name ∷ held) local number next fit are = omega (arith, fit, few)

      -- what is left of the fragment and what is ahead after it fit into the code
      soon_by : (e : a.Effect) → words ≤ L → IsNodeOf code.thread (stage_after y.plan code.thread places graph_thread.at seen old registers e).node →
          ((next : ℕ) → IsNodeOf code.thread next → next_by e ≡ Some next → 2 * words + entry_ahead y.plan places next + 4 ≤ 2 * L) →
          AreSeen y.plan code.thread places graph_thread.at seen old registers e m.mark.effects →
          left + beyond y.plan places (stage_after y.plan code.thread places graph_thread.at seen old registers e).exit
          (stage_after y.plan code.thread places graph_thread.at seen old registers e).node ≤ 2 * L + 17
      soon_by (a.Sets local number next) whole own fit are =
          set_soon (home_of code.thread.locals local) (held_names_before y.plan code.thread graph_thread.at) local number next (fit next own refl) are
      soon_by (a.Owes store next) whole own fit are = omega (arith, fit next own refl, few)
      soon_by (a.Makes store next) whole own fit are = omega (arith, fit next own refl, few)
      soon_by (a.Goes next) whole own fit are = omega (arith, fit next own refl, few)
      soon_by (a.Takes mutex next) whole own fit are = omega (arith, few, whole)
      soon_by (a.Gives mutex next) whole own fit are = omega (
        arith,
        fit next own refl,
        few,
        cleaned 7 (subst (λ (es : List Effect). cleans_in (seen_effects es) ≤ 7)
            (sym are) (few_cleans (keeping y.plan code.thread places false seen.locals next) old.side (places.after graph_thread.at) registers)),
      )
      soon_by a.Ends whole own fit are = omega (arith, few, whole)

      not_end : (next : ℕ) → next_by effect ≡ Some next → m.doing.node.action ≢ End
      not_end next by same = grind (arith, nat_tests)

      pub passed_soon : left + beyond y.plan places stage.exit stage.node ≤ most_ahead y n
      passed_soon =
          let own = site.core.core.own in
          let all = soon_by effect (alone_fits y.plan code.thread code.program code.is s.plan code.of graph_thread.at own) p.on.own
          (λ next next_of by. fits_by y s h site.hart.below graph_thread.at m.doing.node own (at_plan m.doing) next next_of
          (next_follows m.doing.node.action seen effect next m.doing.does by) (not_end next by)) m.mark.seen_are in
          omega (arith, all, most_is y s h site.hart.below)

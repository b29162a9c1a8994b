-- A hart at its node's code, where the node assigns a local in a section and locals stand in the frame: its mark stores the word.
use Rattle.crash_simulation.proofs.Common.{◌≡◌, ℕ, ℤ, List, [], ◌∷◌, sym, ◌∙◌, ap, subst, refl, true, false, Some, None, ◌<◌, ◌^◌, length, inl, inr, Contains}
use Rattle.crash_simulation.proofs.Common.{none-some, cond-true, eq-eqb, same_or_other, LockName, World, Effect, Stores, Cleans, Step, Log, NodeAt, lowered}
use Rattle.crash_simulation.proofs.Common.{Node, effect_of, store_ahead, WritesAt, IsInnerStep, now, attempt_of, begun, ConfigStep, steps_locally, memory_in}
use Rattle.crash_simulation.proofs.Common.{HasCome, MarkedEnvironment, IsNext, IsLogEffect, StoresWord, MarksPass, AbstractRun, kept_of, now_of, System}
use Rattle.crash_simulation.proofs.Common.{IsSystem, flat_of, places_of, IsLogged, IsFrameWord, IsOwnWord, IsElsewhere, IsOnItsWay, frame_at, frame_word}
use Rattle.crash_simulation.proofs.Common.{framed_of, home_of, held_names_before, log_stays, read, is_clean, with_word, MayDo, HasView, is_point_store}
use Rattle.crash_simulation.proofs.Common.{assigned_is_apart, cond_both, contains_none, contains_first, durable_there, comes_with, recorded_in, in_frame}
use Rattle.crash_simulation.proofs.Common.{ne_eqb, to_assign, to_enter, IsReady}
use Rattle.expr_code.specs.declared.home.Home.TheVariants.{InFrame}
use Rattle.memory_layout.specs.Roles.{pending_value}
use Rattle.log_schemes.specs.SchemeFacts.{frame_index}
use Rattle.log_states.specs.Logs.{HasLog}
use Rattle.log_states.proofs.Public.{frame_inside, frame_not_point, scheme, stores_to_frame}
use Rattle.thread_runs.specs.CodeFragments.{IsSetBy, MayBeSet, effects_of, effects_set, exit_set, view_set}
use Rattle.thread_runs.proofs.Public.{assigns_local}
use Rattle.flow_graph.specs.Actions as a
use Rattle.crash_simulation.proofs.Common.{◌++◌, ◌==◌, Changes, Contents, Record, contains_cases, is_fence}
use Rattle.log_schemes.specs.declared.locals.Locals.TheVariants.{Frame}
use Rattle.log_schemes.specs.Schemes.{locals_of}
use Rattle.crash_simulation.proofs.Boundaries.{assigned_small}
use Rattle.crash_simulation.proofs.CompletedEffects.{last_store_is, step_durable}
use Rattle.crash_simulation.proofs.ConfigAfterBegin.{one_longer, attempted, alone_ahead, done_longer, wrote}
use Rattle.crash_simulation.proofs.Common.{Writes}
use Rattle.crash_simulation.proofs.FragmentSteps.{log_may, log_memory}
use Rattle.crash_simulation.proofs.FrameStores.{StoresInFrame, others_persist, view_stored}
use Rattle.crash_simulation.proofs.GraphAfterBegin.{follows_on, not_come}
use Rattle.crash_simulation.proofs.LoadFreeEnvironment.{bare_answers, bare_loaded, bare_reads}
use Rattle.crash_simulation.proofs.MarksAtNodes.{AtMark, Doing, MarkIn, Passes, at_plan, at_some_mark, environment, graph_step_is, in_graph, stage_then}
use Rattle.crash_simulation.proofs.MarkSteps.{flushed_on, flushed_passed, frames_passed, is_next, passed_frame, passed_record, passed_step}
use Rattle.crash_simulation.proofs.MarkSteps as passing
use Rattle.crash_simulation.proofs.NodeEffects.{source_steps, locks_none, unlocks_none, ahead_none}
use Rattle.crash_simulation.proofs.NodeEnvironments.{placed_here}
use Rattle.crash_simulation.proofs.OwnHartSteps.{view, StepOf, AtNode, log_going}
use Rattle.crash_simulation.proofs.PendingFlushes.{ComesNow}
use Rattle.crash_simulation.proofs.StatesMatchSource.{now_good, resumed}
use Rattle.crash_simulation.proofs.StoreNodeSteps.{same_tail}
use Rattle.crash_simulation.proofs.WriteBackSteps.{mark_step}

-- the node assigns a local whose home is in the frame, where locks are held
pub record AssignsLogged {y : System} {s : IsSystem y} {w : World} {h : ℕ} (site : AtNode y s w h) (node : Node) : Type 0 where
  pub local : ℕ
  pub number : ℤ
  pub next_node : ℕ
  pub does : effect_of node.action (view site.hart).seen ≡ Some (a.Sets local number next_node)
  pub word : ℕ
  pub home : home_of (view site.hart).code.thread.locals local ≡ InFrame word
  pub name : LockName
  pub held : List LockName
  pub holds : held_names_before y.plan (view site.hart).code.thread (view site.hart).graph_thread.at ≡ name ∷ held

pub framed_in : (r : Record) (word : ℕ) → Contains (framed_of r) word → Contains r.framed word
framed_in r word has = cond_both (r.point == 0) [] r.framed (λ words. Contains words word → Contains r.framed word) (λ none c. absurd (contains_none word c))
    (λ some c. c) has

module _ {y : System} {s : IsSystem y} {w : World} {h : ℕ} (site : AtNode y s w h) (node : Node)
    (at : NodeAt (lowered (flat_of y)) (view site.hart).graph_thread.at node) (sets : AssignsLogged site node) where
  open view site.hart use {b, code, c, t, n, v, places, graph_thread, seen}
  open sets use {does, word}
  open site.core use {view as old, registers}
  open site.hart.stands.machine use {log as logs, sound}

  abbrev e : a.Effect
  e = a.Sets sets.local sets.number sets.next_node

  abbrev doing : Doing site
  doing = record { node = node; at = at; effect = e; free = refl; does = does; reads = λ address bytes. false }

  abbrev here : MarkedEnvironment
  here = environment site doing

  pub own_word : IsOwnWord w.log n word
  own_word = (placed_here site.hart).words sets.local word sets.home

  abbrev own : ℕ
  own = own_word.word

  framed : IsFrameWord w.log own
  framed = record { frame = own_word.framed; exists = own_word.exists }

  abbrev address : ℕ
  address = frame_at w.log n own

  pub logged : IsLogged y.plan code.thread graph_thread.at
  logged = record {
    local = sets.local;
    assigns = (assigns_local y.plan graph_thread.at node seen sets.local sets.number sets.next_node (at_plan site doing) does).0;
    frame = subst (λ (l : Log). locals_of l ≡ Frame) (sym logs) own_word.framed;
    holds = λ none. (let z = sym sets.holds ∙ none in cc);
  }

  may_do : MayDo y.plan code.thread places w.log (length w.harts) here graph_thread.at e
  may_do = coe 0 1 (i. MayBeSet y.plan code.thread places ((sym sets.home) i) ((sym sets.holds) i) here)
      (λ place count value found. absurd (none-some value found))

  pub mark : MarkIn site doing
  mark = at_some_mark site doing (bare_reads y s w h site.hart.below) (λ none. absurd (none logged)) may_do

  abbrev at_mark : AtMark site
  at_mark = record { doing = doing; mark = mark }

  -- ---- The source

  inner : IsInnerStep (now b.config) n
  inner =
      let stepped = source_steps (in_graph site doing) _ (graph_step_is site doing) in
      record {
        next = stepped.0;
        is = stepped.1;
        locks_none = locks_none (in_graph site doing) e does refl;
        unlocks_none = unlocks_none (in_graph site doing) e does refl;
      }

  no_ahead : store_ahead (now b.config) n ≡ None
  no_ahead = ahead_none (in_graph site doing) e does refl

  abbrev happened : ConfigStep b.config (begun b.config n b.config.memory (one_longer b.config n))
  happened = steps_locally n (one_longer b.config n) (record {
    going = site.core.goes.goes.going;
    step = inner;
    no_store = no_ahead;
    attempt = attempted b.config.attempts n _;
  })

  minded : HasCome (flat_of y) y.plan.boundaries (kept_of y b) b.config n → ⊥
  minded = not_come y s b n site.core.goes.goes.going t.walks at does (λ mutex next is. cc) site.core.fresh

  none_written : (u i : ℕ) → WritesAt b.config.kept n (attempt_of b.config n).done u i → ⊥
  none_written u i writes =
      let r = (resumed y s b).resumed in
      none-some writes.store (sym no_ahead ∙ (sym (alone_ahead (flat_of y) b.config r.invariant n site.core.goes.goes.going) ∙ writes.is))

  -- ---- The mark is passed

  abbrev value : ℕ
  value = read registers pending_value

  abbrev cleans : List Effect
  cleans = Cleans address ∷ []

  pub seen_is : mark.effects ≡ Stores word 8 value ∷ Cleans word ∷ []
  seen_is = coe 0 1 (i. mark.effects ≡ effects_set y.plan code.thread places (sets.home i) (sets.holds i) registers) mark.seen_are

  stage_view : (stage_then site doing).view ≡ with_word old word value
  stage_view = coe 0 1 (i. (stage_then site doing).view ≡ view_set y.plan code.thread places (sets.home i) (sets.holds i) registers old) refl

  -- 64 bits
  small : value < 2 ^ 64
  small = by site.core.core.ready
    where
      by : IsReady y.plan code.thread graph_thread.at seen old site.core.owed registers → value < 2 ^ 64
      by (to_enter none enters) = absurd (none logged)
      by (to_assign other may) =
          (assigned_small y.plan code s.plan (now_of y b) (now_good y s b) graph_thread t.walks old site.core.owed registers other may.assigned).1

  -- its record doesn't name the word
  unnamed : Contains (framed_of c.new) own → ⊥
  unfolding logged
  unnamed has =
      assigned_is_apart y.plan code.thread graph_thread.at own s.plan code.of site.core.core.own logged
      (sets.home ∙ ap (λ (k : ℕ). InFrame k) (own_word.is ∙ ap (λ (l : Log). frame_at l n own) (sym logs)))
      ((site.core.owes.beside logged own).0 (framed_in c.new own has))

  module _ (p : Passes site at_mark) where
    made : p.forward.effect ≡ Stores word 8 value
    made =
        let set : p.forward.effect ≡ Stores word 8 ((with_word old word value).frame word) =
        coe 0 1 (i. IsSetBy y.plan code.thread places (sets.home i) (exit_set y.plan code.thread places (sets.home i) (sets.holds i) graph_thread.at sets.local
        sets.number) (view_set y.plan code.thread places (sets.home i) (sets.holds i) registers old) p.forward.effect) p.made in
        set ∙ ap (Stores word 8) (cond-true (word == word) value (old.frame word) (eq-eqb word word refl))

    effect_is : p.forward.effect ≡ Stores address 8 value
    effect_is = made ∙ ap (λ (k : ℕ). Stores k 8 value) own_word.is

    later_is : p.later ≡ cleans
    later_is = same_tail (Stores word 8 value) (Stores word 8 value) (Cleans word ∷ []) p.later
        (sym seen_is ∙ (p.effects_are ∙ ap (λ (x : Effect). effects_of x ++ p.later) made))
        ∙ ap (λ (k : ℕ). Cleans k ∷ []) own_word.is

    in_own_log : IsLogEffect w.log n p.forward.effect
    in_own_log = StoresWord (frame_index own) value (frame_inside w.log own framed)
        (effect_is ∙ ap (λ (k : ℕ). Stores k 8 value) ((scheme w.log).frame.address n own))

    next_is : IsNext y.runs.program w n mark.at.on.hart (Stores address 8 value)
    next_is = subst (IsNext y.runs.program w n mark.at.on.hart) effect_is (is_next site at_mark p)

    elsewhere : IsElsewhere y.runs.program w (framed_of c.new) n n
    elsewhere = stores_to_frame y.runs.program (framed_of c.new) w n mark.at.on.hart own value next_is framed unnamed

    same_log : v.log ≡ w.log
    same_log = log_stays y.runs.program w (Step n) sound

    after_log : HasLog w.log n v.words
    after_log = subst (λ (l : Log). HasLog l n v.words) same_log
        (log_going site (framed_of c.new) (λ k has. has) elsewhere p.on.on.hart p.on.on.here).log.log

    abbrev stored : StoresInFrame w v n
    stored = record {
      own = own;
      is = framed;
      value = value;
      small = small;
      words = ap (λ (z : World). z.words) p.forward.world ∙ ap (λ (x : Contents). x.words) (subst (λ (x : Effect). Changes
          (record { words = w.words; queue = mark.at.on.hart.queue }) x p.forward.contents) effect_is p.forward.changes);
      log = same_log;
      before = t.log.log.log;
      after = after_log;
    }

    no_end : e ≡ a.Ends → cleans ≡ []
    no_end is = cc

    abbrev passed : passing.Passing site
    passed = record {
      mark = at_mark;
      passes = p;
      plain = refl;
      cleans = cleans;
      later = later_is;
      clean = only_clean;
      ends = no_end;
      sets_later = λ later. absurd (coe 0 1 (i. passing.SetsIn (sets.home i) (sets.holds i)) later);
      frame = subst (HasView v n) (sym (stage_view ∙ ap (λ (k : ℕ). with_word old k value) own_word.is)) (view_stored stored old site.core.frame);
      named = framed_of c.new;
      among = λ k has. has;
      elsewhere = elsewhere;
      may = log_may y b w n logs p.forward.effect in_own_log;
      no_point = ap (is_point_store w.log n) effect_is ∙ ne_eqb _ _ (frame_not_point w.log n own);
      no_fence = ap is_fence effect_is;
      memory = b.config.memory;
      memory_is = ap (λ (z : World). memory_in (places_of y) z.words) p.forward.world
          ∙ (log_memory y s w n p.forward.effect mark.at.on.hart.queue p.forward.contents p.forward.changes in_own_log ∙ site.hart.stands.memory);
      happened = happened;
      leads = follows_on y s b _ happened refl;
      by_it = refl;
      none_kept = refl;
      minded = minded;
      is_step = refl;
    }
      where
        only_clean : (one : Effect) → Contains cleans one → is_clean one ≡ true
        only_clean one has = elim (contains_cases (Cleans address) [] one has) [
          | inl same ↦ ap is_clean same
          | inr none ↦ absurd (contains_none one none)
        ]

    abbrev next : AbstractRun y
    next = passing.next site passed

    no_clean : ComesNow (passing.passage site passed)
    no_clean now line cleaned = absurd (none_written _ _ cleaned.stores)

    last : (k position : ℕ) → (passing.new site passed).last_stores k ≡ Some position →
        IsOnItsWay y v next code (passing.new site passed) p.on.on.hart k position
    last k position is = elim (last_store_is y.runs.program w n k (c.last_stores k) mark.at.on.hart address 8 value position next_is is) [
      | inl was ↦ elim (t.stored.last k position was) [
        | durable_there low ↦ durable_there (step_durable y.runs.program w n sound k position low)
        | comes_with u i f at_word low ↦ comes_with u i (flushed_on site passed u i (λ place since. since) no_clean f) at_word low
        | recorded_in among low ↦ passed_record site passed k position among low
        | in_frame other is_frame at_word low ↦ passed_frame site passed other k position is_frame at_word low
      ]
      | inr own_store ↦ in_frame own (subst (λ (l : Log). IsFrameWord l own) (sym same_log) framed)
          (ap (λ (l : Log). frame_word l n own) same_log ∙ sym own_store.0) own_store.1
    ]

    logged_passes : StepOf site.hart n
    logged_passes =
        passed_step site passed (bare_answers y s w h site.hart.below (now next.config))
        (λ u i. flushed_passed site passed u i (none_written u i) (λ position since. since) no_clean) last
        (bare_loaded y s w h site.hart.below next (passing.new site passed))
        (λ variable number byte writes of.
        elim (wrote b.config.kept n (attempt_of b.config n).done variable number
        (subst (λ (k : ℕ). Writes b.config.kept n k variable number) (done_longer b.config n) writes)) [
          | inl old ↦ inl old
          | inr at_once ↦ absurd (none_written variable number at_once)
        ])
        (frames_passed site passed (λ other is. elim (same_or_other other own) [
          | inl same ↦ inr (subst (λ (k : ℕ). Contains cleans (Cleans (frame_at w.log n k))) (sym same) (contains_first (Cleans address) []))
          | inr apart ↦ inl (others_persist stored other apart)
        ]))

  pub logged_step : MarksPass → StepOf site.hart n
  logged_step marks = mark_step site at_mark marks logged_passes

-- Views of a thread: its log, what that says, how far the thread is, and what it has stored; and by what they are kept.
use Rattle.crash_simulation.proofs.Common.{is_some}
use Rattle.crash_simulation.specs.ThreadGhosts.{IsUntold}
use Rattle.crash_simulation.proofs.Common.{◌≡◌, ℕ, List, sym, ◌∙◌, ap, arith, subst, true, false, Option, Some, None, [], Bool, slice_get, true≢false}
use Rattle.crash_simulation.proofs.Common.{Contains, cond-true, cond-false, none-some, Step, Log, IsWellFormedWorld, Hart, World, happens, after_event}
use Rattle.crash_simulation.proofs.Common.{Outcome, moved, Effect, Slot, log_stays, get-set_same, GraphThread, contains_none, Config, attempt_of, steps_begun}
use Rattle.crash_simulation.proofs.Common.{HasUnlocked, HasLocked, LogInv, Record, config_of, MovesTo, is_committed, Moves, LogIs, stays_committed, is_clean}
use Rattle.crash_simulation.proofs.Common.{ExitPoint, Arrives, Gives, Ends, Keeps, Asks, Took, Code, Describes, DescribesAs, same_there, AbstractRun, kept_of}
use Rattle.crash_simulation.proofs.Common.{now_of}
use Rattle.crash_simulation.proofs.Common.{System, Rests, ThreadGhost, GoesClean, IsBounded, ExitInv, HasStored, IsInAttempt, HasRecords, Computes, HasView}
use Rattle.crash_simulation.proofs.Common.{IsFrameFlushed, IsFrameWord, IsOnItsWay, IsSectioned, LogView, frame_in, live_value, words_in, ℤ, AssignsAlike}
use Rattle.crash_simulation.proofs.Common.{ExitOwes, FlowState, IsOwedAt, seen_by, the_core}
use Rattle.ido_base.specs.Growth.{IsPersisted}
use Rattle.recovered_threads.specs.RecordDescriptions as described
use Rattle.crash_simulation.proofs.FrameWords.{all_words, frame_persists, keeps_all, same_live}

-- ---- Its frame

-- a view of it stays where its words keep their values
pub view_persists : (w v : World) (thread : ℕ) (view : LogView) → v.log ≡ w.log →
    ((own : ℕ) → IsFrameWord w.log own → IsPersisted (frame_in w.log w.words thread own) (frame_in w.log v.words thread own)) → HasView w thread view →
    HasView v thread view
view_persists w v thread view log persists has own is =
    subst (λ (l : Log). IsFrameWord l own → live_value (frame_in l v.words thread own) ≡ words_in l thread view own) (sym log)
    (λ framed. same_live _ _ (persists own framed) ∙ has own framed) is

-- ---- Its log

-- of the hart that is found
abbrev pub log_at : {thread : ℕ} {old new : Record} {u : World} {rest : List Effect} → LogInv thread old new u rest → (hart : Hart) →
    slice_get u.harts thread ≡ Some hart → LogInv thread old new u rest
log_at {thread} {old} {new} {u} {rest} log hart there = record {
  hart = hart;
  here = there;
  log = subst (λ (x : Hart). LogIs u.log thread old new (config_of u x rest)) (same_there (slice_get u.harts thread) log.hart hart log.here there) log.log;
}

-- a move of it, of the harts that are found
abbrev pub moves_at : {thread : ℕ} {w v : World} {hart : Hart} {rest later : List Effect} → MovesTo thread all_words w hart rest v later → (old new : Hart) →
    hart ≡ old →
    slice_get v.harts thread ≡ Some new → MovesTo thread all_words w old rest v later
moves_at {thread} {w} {v} {hart} {rest} {later} m old new same there = record {
  next = new;
  there = there;
  log = m.log;
  moves = subst (λ (x : Hart). Moves w.log thread all_words (config_of w x rest) (config_of v new later)) same
      (subst (λ (x : Hart). Moves w.log thread all_words (config_of w hart rest) (config_of v x later))
      (same_there (slice_get v.harts thread) m.next new m.there there)
      m.moves);
}

module _ {thread : ℕ} {old new : Record} {w v : World} {rest later : List Effect} (log : LogInv thread old new w rest)
    (m : MovesTo thread all_words w log.hart rest v later) where
  abbrev pub log_moved : LogInv thread old new v later
  log_moved = record {
    hart = m.next;
    here = m.there;
    log = subst (λ (l : Log). LogIs l thread old new (config_of v m.next later)) (sym m.log)
        (keeps_all w.log thread old new (config_of w log.hart rest) (config_of v m.next later) log.log m.moves);
  }

  -- what is committed before it is so after it
  pub committed_on : is_committed w.log thread (config_of w log.hart rest) ≡ true → is_committed v.log thread (config_of v m.next later) ≡ true
  committed_on is = ap (λ (l : Log). is_committed l thread (config_of v m.next later)) m.log
      ∙ stays_committed w.log thread all_words old new (config_of w log.hart rest) (config_of v m.next later) log.log m.moves is

  -- the words of its frame keep their values
  pub frame_stays : (own : ℕ) → IsFrameWord w.log own → IsPersisted (frame_in w.log w.words thread own) (frame_in w.log v.words thread own)
  frame_stays own = frame_persists w.log thread old new (config_of w log.hart rest) (config_of v m.next later) log.log m.moves own

  abbrev pub view_stays : (view : LogView) → HasView w thread view → HasView v thread view
  view_stays view has = view_persists w v thread view m.log frame_stays has

-- ---- Its hart, where that moves alone: memory is as it was

pub record IsQuiet (w v : World) (h : ℕ) (old new : Hart) : Type 0 where
  pub words : v.words ≡ w.words
  pub log : v.log ≡ w.log
  pub here : slice_get v.harts h ≡ Some new
  pub queue : new.queue ≡ old.queue

pub moves_alone : (program : List (List Slot)) (w u : World) (h : ℕ) (old new : Hart) → IsWellFormedWorld w → slice_get w.harts h ≡ Some old →
    happens program w (Step h) ≡ moved u h new → u.words ≡ w.words → u.harts ≡ w.harts → new.queue ≡ old.queue →
    IsQuiet w (after_event program w (Step h)) h old new
moves_alone program w u h old new sound here does words harts queue = record {
  words = ap (λ (o : Outcome). o.0.words) does ∙ words;
  log = log_stays program w (Step h) sound;
  here = ap (λ (o : Outcome). slice_get o.0.harts h) does ∙ get-set_same u.harts h new old (ap (λ (hs : List Hart). slice_get hs h) harts ∙ here);
  queue = queue;
}

-- ---- What its log says

-- its ghost state, where a boundary begins that leads to the record
abbrev pub begins_with : ThreadGhost → Record → (rest : List Effect) → (giving : Option ℕ) → (before_mark : ℕ) → ThreadGhost
begins_with c r rest giving before_mark = record {
  old = c.new;
  new = r;
  rest = rest;
  committed = false;
  cleans = [];
  giving = giving;
  before_mark = before_mark;
  late = c.late;
  last_stores = c.last_stores;
  first_accesses = c.first_accesses;
}

module _ (y : System) (b : AbstractRun y) (code : Code y.plan) (c : ThreadGhost) {sooner : Bool} where
  -- where no boundary is under way, and nothing is to be given back
  pub records_over : c.committed ≡ true → c.giving ≡ None → sooner ≡ true → DescribesAs y.plan code (kept_of y b) c.late c.new → HasRecords y b code c sooner
  records_over h0 h1 h2 h3 = grind (arith, cond-true, none-some, true≢false)

  -- where one is
  pub records_begin : c.committed ≡ false → DescribesAs y.plan code (kept_of y b) c.late c.old →
      Describes y.plan code (now_of y b) c.new → HasRecords y b code c sooner
  records_begin h0 h1 h2 = grind (arith, cond-false, true≢false)

  -- the record of a boundary that is taken as committed
  pub describes_over : HasRecords y b code c sooner → c.committed ≡ true → DescribesAs y.plan code (kept_of y b) c.late c.new
  describes_over records over = subst (DescribesAs y.plan code (kept_of y b) c.late) (cond-true c.committed c.new c.old over) records.describes

-- ---- How far it is

-- it has begun what it had, and no more is ahead
pub record IsStill (m next : Config) (thread : ℕ) (c new : ThreadGhost) : Type 0 where
  pub begun : steps_begun next thread ≡ steps_begun m thread
  pub done : (attempt_of next thread).done ≡ (attempt_of m thread).done
  pub locked : (mutex : ℕ) → HasLocked m thread mutex → HasLocked next thread mutex
  pub unlocked : (mutex : ℕ) → HasUnlocked m thread mutex → HasUnlocked next thread mutex
  pub rest : c.rest ≡ [] → new.rest ≡ []
  pub cleans : c.cleans ≡ [] → new.cleans ≡ []
  pub giving : new.giving ≡ c.giving
  pub committed : new.committed ≡ c.committed
  pub record_is : new.new ≡ c.new
  pub old_is : new.old ≡ c.old
  pub late_is : new.late ≡ c.late

module _ (y : System) {m next : Config} {thread : ℕ} {c new : ThreadGhost} (still : IsStill m next thread c new) where
  pub goes_on : IsInAttempt y m thread c → IsInAttempt y next thread new
  goes_on h0 = grind arith

  pub clean_on : (ended : Bool) (graph_thread : GraphThread) → GoesClean y m thread c ended graph_thread → GoesClean y next thread new ended graph_thread
  clean_on ended graph_thread g = record { goes = goes_on g.goes; cleans = still.cleans g.cleans; execution = g.execution }

  bounded_on : (graph_thread : GraphThread) (giving : Option ℕ) (write_comes : Bool) (Before After : Type 0) → (Before → After) →
      IsBounded y m thread c graph_thread giving write_comes Before → IsBounded y next thread new graph_thread giving write_comes After
  bounded_on graph_thread giving write_comes Before After on f = record {
    execution = f.execution;
    cleans = still.cleans f.cleans;
    gives = still.giving ∙ f.gives;
    written = ap (λ (r : Record). is_some r.written) still.record_is ∙ f.written;
    before = λ un. on (f.before (sym still.committed ∙ un));
    after = λ over. still.begun ∙ f.after (sym still.committed ∙ over);
  }

  untold_on : IsUntold y m thread c c.new → IsUntold y next thread new new.new
  untold_on f on_time none = ap (λ (r : Record). is_some r.written) still.record_is ∙ f (sym still.late_is ∙ on_time) (sym still.begun ∙ none)

  untold_old : IsUntold y m thread c c.old → IsUntold y next thread new new.old
  untold_old f on_time none = ap (λ (r : Record). is_some r.written) still.old_is ∙ f (sym still.late_is ∙ on_time) (sym still.begun ∙ none)

  pub exit_on : (graph_thread : GraphThread) (exit : ExitPoint) → ExitInv y m thread c graph_thread exit → ExitInv y next thread new graph_thread exit
  exit_on graph_thread Arrives f = (goes_on f.0, f.1, untold_on f.2)
  exit_on graph_thread (Keeps owed) f = (f.0, still.begun ∙ (f.1 ∙ sym still.done), bounded_on graph_thread _ _ _ _ untold_old f.2)
  exit_on graph_thread (Computes from local number) f = (clean_on false graph_thread f.0, ap (λ (r : Record). r.point) still.record_is ∙ f.1, untold_on f.2)
  exit_on graph_thread (Asks mutex at) f = (clean_on false graph_thread f.0, untold_on f.1)
  exit_on graph_thread (Took from) f = bounded_on graph_thread _ _ _ _ (λ l. (l.0, still.locked l.0 l.1)) f
  exit_on graph_thread (Gives from mutex) f = bounded_on graph_thread _ _ _ _ (still.unlocked mutex) f
  exit_on graph_thread Ends f = clean_on true graph_thread f

  pub rests_on : new.before_mark ≡ c.before_mark → Rests y m thread c → Rests y next thread new
  rests_on h0 h1 = grind arith

-- ---- What it owes

-- in a state in which a logged assignment at which it stands does the same
pub owed_on : (y : System) (code : Code y.plan) (c new : ThreadGhost) (K L : FlowState) (graph_thread : GraphThread) (owed : ℤ) →
    slice_get K.graph_threads code.thread.number ≡ Some graph_thread → AssignsAlike y.plan code.thread K L → new.new ≡ c.new →
    IsOwedAt y code c graph_thread.at (seen_by K graph_thread) owed → IsOwedAt y code new graph_thread.at (seen_by L graph_thread) owed
owed_on y code c new K L graph_thread owed walks alike same o = record {
  number = λ is local number next at logged does. o.number is local number next at logged (sym (alike graph_thread is walks at logged) ∙ does);
  beside = λ logged.
      subst (λ (r : Record). described.AreCounted y.plan code.thread graph_thread.at the_core r.framed) (sym same) (o.beside logged);
}

pub owes_on : (y : System) (code : Code y.plan) (c new : ThreadGhost) (K L : FlowState) (graph_thread : GraphThread) (exit : ExitPoint) →
    slice_get K.graph_threads code.thread.number ≡ Some graph_thread → AssignsAlike y.plan code.thread K L → new.new ≡ c.new →
    ExitOwes y code c graph_thread.at (seen_by K graph_thread) exit → ExitOwes y code new graph_thread.at (seen_by L graph_thread) exit
owes_on y code c new K L graph_thread (Keeps owed) walks alike same o = owed_on y code c new K L graph_thread owed walks alike same o
owes_on y code c new K L graph_thread exit walks alike same o = tt

-- ---- What it has stored

pub none_clean : (effect : Effect) → Contains [] effect → is_clean effect ≡ true
none_clean effect has = absurd (contains_none effect has)

-- nothing that isn't durable, where its attempt has made no step
pub none_stored : (y : System) (w : World) (b : AbstractRun y) (code : Code y.plan) (c : ThreadGhost) (hart : Hart) →
    (attempt_of b.config code.thread.number).done ≡ 0 → ((effect : Effect) → Contains c.cleans effect → is_clean effect ≡ true) →
    ((word position : ℕ) → c.last_stores word ≡ Some position → IsOnItsWay y w b code c hart word position) →
    (IsSectioned c → (word : ℕ) → IsFrameWord w.log word → IsFrameFlushed y w b code c hart word) → HasStored y w b code c hart
none_stored y w b code c hart none clean last frame = record {
  cleans = clean;
  flushed = λ v e writes. absurd (omega (arith, writes.within, none));
  last = last;
  frame = frame;
}

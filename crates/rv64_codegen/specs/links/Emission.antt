-- The code of some threads.
use Rattle.std.specs.Prelude.{◌≡◌, ℕ, ◌≤◌, List, [], length, map, slice_get, slice_index_or, sum_by, Some, Vec}
use Rattle.std.specs.Global.{Global}
use Rattle.ido_base.specs.declared.limits.TheConstants.{MOST_CODE_WORDS}
use Rattle.c_tree.specs.Exprs.{LockName}
use Rattle.c_tree.specs.Flats as f
use Rattle.c_tree.specs.LockNames.{lock_names}
use Rattle.rv64_isa.specs.declared.object.CodeItem.{CodeItem}
use Rattle.rv64_link.specs.LabelledCode.{most_words_of}
use Rattle.flow_graph.specs.declared.graph.Part.{Part}
use Rattle.thread_code.specs.Plans.{Plan, Thread, IsThread, home_of_colour}
use Rattle.rv64_codegen.specs.declared.thread.ThreadPlan as opened
use Rattle.rv64_codegen.specs.ThreadPieces.{IsEmitted}
use Rattle.rv64_codegen.specs.links.LiveRegisters.{AreLists}
use Rattle.rv64_codegen.specs.links.Threads.{plan_in, thread_of}
use Rattle.expr_code.specs.declared.home.Home.{Home}

-- ---- A thread

pub record IsEmittedThread (x : opened.ThreadPlan) (items : List CodeItem) : Type 0 where
  pub emitted : IsEmitted (plan_in x) (thread_of x) items
  pub words : sum_by most_words_of items ≤ MOST_CODE_WORDS

-- the thread of that number
pub record IsEmittedOf (p : Plan) (number : ℕ) (items : List CodeItem) : Type 0 where
  pub each : (t : Thread) → IsThread p t → t.number ≡ number → IsEmitted p t items
  pub words : sum_by most_words_of items ≤ MOST_CODE_WORDS

-- the thread's locals stand there, and these registers are live at its nodes
abbrev pub AreHomesOf : Plan → (number : ℕ) → List Home → Type 0
AreHomesOf p number homes = (colours : List ℕ) → slice_get p.colours number ≡ Some colours → homes ≡ map (home_of_colour p.log number) colours

abbrev pub AreListsOf : Plan → (number : ℕ) → List Home → List (Vec ℕ Global) → Type 0
AreListsOf p number homes lists = (part : Part) → slice_get p.graph.threads number ≡ Some part →
    AreLists p.graph homes p.live part.first part.end lists

-- these are the names of the thread's locks
abbrev pub AreNamesOf : Plan → (number : ℕ) → List LockName → Type 0
AreNamesOf p number names = names ≡ slice_index_or (map (λ (text : f.Thread). lock_names p.flat text) p.flat.threads) number []

-- the first `count` threads are emitted
pub record AreEmittedTo (p : Plan) (count : ℕ) (threads : List (Vec CodeItem Global)) : Type 0 where
  pub long : length threads ≡ count
  pub each : (number : ℕ) (items : Vec CodeItem Global) → slice_get threads number ≡ Some items → IsEmittedOf p number items.items

-- all threads are made of the pieces of their nodes
pub record AreEmitted (p : Plan) (threads : List (List CodeItem)) : Type 0 where
  pub count : length threads ≡ length p.graph.threads
  pub each : (t : Thread) (items : List CodeItem) → IsThread p t → slice_get threads t.number ≡ Some items → IsEmitted p t items

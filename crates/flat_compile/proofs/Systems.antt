-- The code of a plan's threads, linked, is a system.
use Rattle.std.proofs.Common.{◌≡◌, refl, ℕ, zero, suc, ◌+◌, ◌*◌, ◌^◌, ◌<◌, ◌≤◌, List, []}
use Rattle.std.proofs.Common.{◌∷◌, ◌++◌, length, length-append, map, true, false, Some, ap, sym, subst, ◌∙◌, arith}
use Rattle.std.specs.Prelude.{slice_get, slice_index_or, All}
use Rattle.std.proofs.lemmas.Option.{none-some, same_Some, get_or_from_slice_get}
use Rattle.ido_base.specs.declared.limits.TheConstants.{MOST_THREADS}
use Rattle.c_tree.specs.Flats as f
use Rattle.c_tree.specs.WellFormed.{shape_of, initial_numbers}
use Rattle.c_tree.specs.LockDiscipline.{IsDisciplined}
use Rattle.rv64_isa.specs.declared.object.CodeItem.{CodeItem}
use Rattle.machine_model.specs.declared.object.Object.{Object}
use Rattle.rv64_isa.specs.declared.object.Marks.{Marks}
use Rattle.rv64_isa.specs.Programs.{code_base}
use Rattle.machine_model.specs.Objects.{program_of}
use Rattle.machine_model.specs.Executables.{Executable, executable_of}
use Rattle.rv64_link.specs.LinkedCode.{AreLinked}
use Rattle.memory_layout.specs.Variables.{AreInitial}
use Rattle.flow_graph.specs.declared.graph.Part.{Part}
use Rattle.flow_graph.specs.Nodes.{Graph, Node}
use Rattle.flow_graph.specs.Lowering.{table_of, part, parts, thread_count, thread_nodes, threads_nodes}
use Rattle.flow_graph.specs.Liveness.{NodeAt}
use Rattle.flow_graph.specs.OmittedCleans.{IsCleanedLater}
use Rattle.flow_graph.proofs.Public.{found_in, lowered_nodes, lowered_threads, length-thread_nodes}
use Rattle.hart_runs.specs.Laws.{program_at}
use Rattle.code_runs.specs.CodeTraces.{Program}
use Rattle.thread_code.specs.Plans.{Plan, IsPlan, Thread, IsThread, IsNodeOf, home_of_colour}
use Rattle.recovered_threads.specs.RecordDescriptions.{Codes}
use Rattle.rv64_codegen.specs.ThreadPieces.{IsCode, IsSpacedCode}
use Rattle.crash_simulation.specs.Systems.{System, IsSystem}
use Rattle.flat_compile.proofs.LinkedThreads.{AllFew, LinkedAt, linked_at, linked_count}
use Rattle.flat_compile.specs.ResumePlaces.{AreSpaced}
use Rattle.flat_compile.proofs.CleanFlags.{recleaned, recleaned_later, recleaned_spaced}
use Rattle.flat_compile.proofs.OmittedCleanList.{LeftOut, left_out}

parts_count : (ts : List f.Thread) (first : ℕ) → length (parts ts first) ≡ length ts
parts_count [] first = refl
parts_count (t ∷ ts) first = ap suc (parts_count ts (first + thread_count t))

-- ---- Threads of a plan

module _ (p : Plan) (plan : IsPlan p) (n : ℕ) (below : n < length p.graph.threads) where
  as_many : length p.graph.threads ≡ length p.flat.threads
  as_many = ap length (ap (λ (g : Graph). g.threads) plan.lowered ∙ lowered_threads p.flat) ∙ parts_count p.flat.threads 0

  found_part : (part : Part) × (slice_get p.graph.threads n ≡ Some part)
  found_part = found_in p.graph.threads n below

  found_text : (text : f.Thread) × (slice_get p.flat.threads n ≡ Some text)
  found_text = found_in p.flat.threads n (omega (arith, below, as_many))

  found_colours : (colours : List ℕ) × (slice_get p.colours n ≡ Some colours)
  found_colours = found_in p.colours n (omega (arith, below, plan.registers.threads))

  abbrev thread_at : Thread
  thread_at = record {
    number = n;
    part = found_part.0;
    kinds = found_text.0.locals;
    locals = map (home_of_colour p.log n) found_colours.0;
  }

  is_thread : IsThread p thread_at
  is_thread = record {
    nodes = found_part.1;
    text = found_text.0;
    of_text = found_text.1;
    kinds = refl;
    colours = found_colours.0;
    of_colours = found_colours.1;
    locals = refl;
  }

-- a node of a thread is in the graph
parts_inside : (x : f.Flat) (ts : List f.Thread) (first number : ℕ) (own : Part) → slice_get (parts ts first) number ≡ Some own →
    own.end ≤ first + length (threads_nodes x ts first)
parts_inside x [] first number own g = absurd (none-some own g)
parts_inside x (t ∷ ts) first zero own g =
    let end : first + thread_count t ≡ own.end = ap (λ (y : Part). y.end) (same_Some (part t first) own g) in
    let back : List Node = threads_nodes x ts (first + thread_count t) in
    let whole : length (thread_nodes (table_of x t) t first ++ back) ≡ length (thread_nodes (table_of x t) t first) + length back =
    length-append (thread_nodes (table_of x t) t first) back in
    omega (arith, end, whole, length-thread_nodes (table_of x t) t first)
parts_inside x (t ∷ ts) first (suc number) own g =
    let back : List Node = threads_nodes x ts (first + thread_count t) in
    let later : own.end ≤ first + thread_count t + length back = parts_inside x ts (first + thread_count t) number own g in
    let whole : length (thread_nodes (table_of x t) t first ++ back) ≡ length (thread_nodes (table_of x t) t first) + length back =
    length-append (thread_nodes (table_of x t) t first) back in
    omega (arith, later, whole, length-thread_nodes (table_of x t) t first)

pub node_there : (p : Plan) → IsPlan p → (t : Thread) → IsThread p t → (node : ℕ) → IsNodeOf t node → (is : Node) × NodeAt p.graph node is
node_there p plan t of node own =
    let long : length p.graph.nodes ≡ length (threads_nodes p.flat p.flat.threads 0) =
    ap length (ap (λ (g : Graph). g.nodes) plan.lowered ∙ lowered_nodes p.flat) in
    let threads : parts p.flat.threads 0 ≡ p.graph.threads = sym (ap (λ (g : Graph). g.threads) plan.lowered ∙ lowered_threads p.flat) in
    let inside : t.part.end ≤ 0 + length (threads_nodes p.flat p.flat.threads 0) =
    parts_inside p.flat p.flat.threads 0 t.number t.part (ap (λ (qs : List Part). slice_get qs t.number) threads ∙ of.nodes) in
    let below = own.below_end in
    found_in p.graph.nodes node (omega (arith, below, inside, long))

-- each thread of it keeps the lock discipline
disciplined_by : (p : Plan) → IsPlan p → All (IsDisciplined p.flat) p.flat.threads
disciplined_by p plan k d below =
    let there = found_in p.flat.threads k below in
    let sets = found_in p.held k (omega (arith, below, plan.held.each_thread)) in
    subst (λ (t : f.Thread). IsDisciplined p.flat t) (sym (get_or_from_slice_get p.flat.threads k there.0 d there.1))
    (plan.held.sets k there.0 sets.0 there.1 sets.1).disciplined

-- ---- Linked code of a plan

-- an object that the code of a plan's threads is linked to, with its marks
pub record LinkedCode (p : Plan) : Type 0 where
  pub threads : List (List CodeItem)
  pub object : Object
  pub marks : Marks
  pub coded : IsCode p threads
  pub few : AllFew threads
  pub few_threads : length threads ≤ MOST_THREADS
  pub linked : AreLinked code_base threads (program_of object) marks.threads.items
  pub begins : AreInitial (map shape_of p.flat.variables) (map initial_numbers p.flat.variables) object.initial.items
  pub mutexes : object.mutexes ≡ length p.flat.mutexes
  pub logs : p.log ≡ object.log

module _ {p : Plan} (plan : IsPlan p) (code : LinkedCode p) where
  open code use {threads, object, marks, coded, few, few_threads, linked}

  abbrev runs : Executable
  runs = executable_of object marks

  abbrev thread_program : (n : ℕ) → Program
  thread_program n = program_at runs.program n (slice_index_or runs.marks n []) (slice_index_or runs.resumes n [])

  items_at : (n : ℕ) → n < length p.graph.threads → (items : List CodeItem) × (slice_get threads n ≡ Some items)
  items_at n below = found_in threads n (let count = coded.count in omega (arith, below, count))

  linked_there : (n : ℕ) (below : n < length p.graph.threads) → LinkedAt code_base runs.program marks.threads.items n (items_at n below).0
  linked_there n below = linked_at code_base threads runs.program marks.threads.items linked few n (items_at n below).0 (items_at n below).1

  room : (n : ℕ) → n < length p.graph.threads → (thread_program n).start + 4 * length (thread_program n).code < 2 ^ 64
  room n below =
      let within = (linked_there n below).within in
      let count = coded.count in
      omega (arith, within, below, count, few_threads)

  first_code : (n : ℕ) (below : n < length p.graph.threads) → IsSpacedCode p (thread_at p plan n below) (thread_program n)
  first_code n below =
      let t = thread_at p plan n below in
      let items = items_at n below in
      coded.each t items.0 (is_thread p plan n below) items.1 (thread_program n) (linked_there n below).linked (room n below)

  pub codes : Codes p
  codes = record {
    each = λ n below. record {
      thread = thread_at p plan n below;
      of = is_thread p plan n below;
      program = thread_program n;
      is = recleaned p (thread_at p plan n below) (thread_program n) (first_code n below).is;
    };
    number = λ n below. refl;
  }

  spaced : AreSpaced p codes
  unfolding codes
  spaced n below = recleaned_spaced p (thread_at p plan n below) (thread_program n) (first_code n below).is (first_code n below).spaced

  abbrev pub out : LeftOut p plan codes
  out = left_out p plan codes

  abbrev pub system : System
  system = record {
    plan = p;
    runs = runs;
    left_out = out.list;
  }

  cleans : (n : ℕ) (below : n < length p.graph.threads) (node : ℕ) → IsNodeOf (thread_at p plan n below) node →
      (codes.each n below).is.places.cleans node ≡ false → slice_get out.list node ≡ Some true
  unfolding codes
  cleans n below node own h =
      let t = thread_at p plan n below in
      let is = node_there p plan t (is_thread p plan n below) node own in
      (out.each node).1 (recleaned_later p t (thread_program n) (first_code n below).is node is.0 own is.1 h)

  pub system_is : IsSystem system
  unfolding codes
  system_is = record {
    plan = plan;
    disciplined = disciplined_by p plan;
    count = linked_count code_base threads runs.program marks.threads.items linked ∙ coded.count;
    codes = codes;
    own = λ n below. record { program = refl; room = room n below; cleans = cleans n below };
    initial = code.begins;
    log = code.logs;
    mutexes = code.mutexes;
    left_out = λ node e.
        subst (λ (g : Graph). IsCleanedLater g p.boundaries (map shape_of p.flat.variables) node) plan.lowered ((out.each node).0 e);
  }

  pub codes_spaced : AreSpaced p system_is.codes
  unfolding system_is
  codes_spaced = spaced

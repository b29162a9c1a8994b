-- What a plan says of all its threads and variables.
use Rattle.std.proofs.Common.{◌≡◌, refl, ℕ, suc, ◌+◌, ◌<◌, ◌≤◌, List, [], ◌∷◌, length, ◌∙◌, ap, sym, subst, arith, Some, None, get_or}
use Rattle.std.specs.Prelude.{slice_get, map, Vec}
use Rattle.std.specs.Global.{Global}
use Rattle.std.specs.List.{AllByRecursion}
use Rattle.std.specs.Option.{option_map}
use Rattle.std.proofs.lemmas.Option.{slice_get_within, slice_get-map}
use Rattle.ido_base.specs.declared.limits.TheConstants.{MOST_THREADS}
use Rattle.c_tree.specs.Flats as f
use Rattle.c_tree.specs.Programs as p
use Rattle.c_tree.specs.WellFormed.{shape_of, IsVariable, initial_numbers}
use Rattle.c_tree.specs.Temporaries.{temporaries_fault}
use Rattle.c_tree.specs.links.KnownNames.{names_of}
use Rattle.expr_code.specs.EvaluationCode.{Homes, homes_of}
use Rattle.flow_graph.specs.declared.graph.Part.{Part}
use Rattle.flow_graph.specs.Nodes.{Node}
use Rattle.flow_graph.specs.Lowering.{thread_count, threads_nodes, parts}
use Rattle.flow_graph.proofs.Public.{found_in}
use Rattle.region_cutter.specs.Places.{WriteElements}
use Rattle.memory_layout.specs.Variables.{AreAddresses, AreCounted, HaveRoom}
use Rattle.thread_code.specs.Plans.{Plan, Thread, IsPlan, IsThread, home_of_colour, homes, names_in}
use Rattle.rv64_codegen.specs.declared.thread.ThreadPlan as opened
use Rattle.rv64_codegen.specs.links.Emission.{AreHomesOf, AreListsOf, AreNamesOf}
use Rattle.rv64_codegen.specs.links.Numbers.{IsReady}
use Rattle.rv64_codegen.specs.links.Threads.{AreCleaned, IsOpen, plan_in, kinds_in, thread_of}
use Rattle.rv64_codegen.proofs.NeededTemporaries.{few_needed}
use Rattle.rv64_codegen.proofs.TextNames.{names_formed, names_ready}
use Rattle.rv64_codegen.proofs.ChosenBoundaries.{read_get}
use Rattle.rv64_codegen.proofs.Homes.{addresses_are, kinds_there}
use Rattle.rv64_codegen.proofs.PlannedNodes.{nodes_are, threads_are, sound_node, first_below, end_within}
use Rattle.rv64_codegen.proofs.LoweredNodes.{thread_of_node}
use Rattle.expr_code.specs.declared.home.Home.{Home}

-- ---- Variables

counted : (mutexes : List p.Mutex) (vs : List p.Variable) → AllByRecursion (IsVariable mutexes) vs → AreCounted (map shape_of vs) (map initial_numbers vs)
counted mutexes [] h = tt
counted mutexes (v ∷ vs) h = (h.0.count, counted mutexes vs h.1)

pub all_counted : (q : Plan) → IsPlan q → AreCounted (map shape_of q.flat.variables) (map initial_numbers q.flat.variables)
all_counted q plan = counted q.flat.mutexes q.flat.variables plan.formed.shared.variables

pub have_room : (q : Plan) → IsPlan q → HaveRoom (map shape_of q.flat.variables)
have_room q plan = plan.formed.shared.bytes

-- ---- Threads

length-parts : (ts : List f.Thread) (first : ℕ) → length (parts ts first) ≡ length ts
length-parts [] first = refl
length-parts (t ∷ ts) first = ap suc (length-parts ts (first + thread_count t))

module _ (q : Plan) (plan : IsPlan q) where
  pub as_many : length q.graph.threads ≡ length q.flat.threads
  as_many = ap (λ (xs : List Part). length xs) (threads_are q plan) ∙ length-parts q.flat.threads 0

  pub few_threads : length q.graph.threads ≤ MOST_THREADS
  few_threads = omega (arith, as_many, plan.formed.shared.threads)

  abbrev made : ℕ → Part → List Home → Thread
  made number here locals = record { number = number; part = here; kinds = kinds_in q number; locals = locals }

  -- the thread of a number
  pub is_thread : (number : ℕ) (here : Part) (locals : List Home) → slice_get q.graph.threads number ≡ Some here → AreHomesOf q number locals →
      IsThread q (made number here locals)
  is_thread number here locals at are =
      let below = slice_get_within q.graph.threads number here at in
      let text = found_in q.flat.threads number (omega (arith, below, as_many)) in
      let colours = found_in q.colours number (omega (arith, below, plan.registers.threads)) in
      record {
        nodes = at;
        text = text.0;
        of_text = text.1;
        kinds = kinds_there q.flat.threads number text.0 text.1;
        colours = colours.0;
        of_colours = colours.1;
        locals = are colours.0 colours.1;
      }

  of_number : (number : ℕ) (here : Part) → slice_get q.graph.threads number ≡ Some here → (t : Thread) × IsThread q t × (t.part ≡ here)
  of_number number here at =
      let colours = found_in q.colours number (omega (arith, slice_get_within q.graph.threads number here at, plan.registers.threads)) in
      let locals : List Home = map (home_of_colour q.log number) colours.0 in (
        made number here locals,
        is_thread number here locals at (λ others g.
            let same : colours.0 ≡ others = (let both : Some colours.0 ≡ Some others = sym colours.1 ∙ g in cc) in
            ap (λ (cs : List ℕ). map (home_of_colour q.log number) cs) same),
        refl,
      )

  pub part_order : (number : ℕ) (here : Part) → slice_get q.graph.threads number ≡ Some here → here.first ≤ here.end
  part_order number here at =
      let w = of_number number here at in
      let P : Part → Type 0 = λ z. z.first ≤ z.end in
      subst P w.2 (let less = first_below q plan w.0 w.1 in omega (arith, less))

  pub part_end : (number : ℕ) (here : Part) → slice_get q.graph.threads number ≡ Some here → here.end ≤ length q.graph.nodes
  part_end number here at =
      let w = of_number number here at in
      let P : Part → Type 0 = λ z. z.end ≤ length q.graph.nodes in
      subst P w.2 (end_within q plan w.0 w.1)

  -- each single element that a node writes exists
  pub writes_exist : WriteElements q.graph (map shape_of q.flat.variables)
  writes_exist = record {
    each = λ node is at.
        let there : slice_get (threads_nodes q.flat q.flat.threads 0) node ≡ Some is =
        ap (λ (ns : List Node). slice_get ns node) (sym (nodes_are q plan)) ∙ at in
        let w = thread_of_node q.flat q.flat.threads 0 node is there in
        let own : slice_get q.graph.threads w.0 ≡ Some w.1 = ap (λ (xs : List Part). slice_get xs w.0) (threads_are q plan) ∙ w.2.is in
        let t = of_number w.0 w.1 own in
        let first : t.0.part.first ≡ w.1.first = ap (λ (z : Part). z.first) t.2 in
        let end : t.0.part.end ≡ w.1.end = ap (λ (z : Part). z.end) t.2 in
        (sound_node q plan t.0 t.1 node is
        (record { from_first = omega (arith, w.2.from_first, first); below_end = omega (arith, w.2.below_end, end) }) at).writes;
  }

-- ---- A thread whose code is made

abbrev homes_made : List ℕ → List Home → Homes
homes_made addresses locals = record { addresses = addresses; locals = locals }

pub is_open : (x : opened.ThreadPlan) → IsPlan (plan_in x) → temporaries_fault (plan_in x).flat ≡ None →
    AreAddresses (map shape_of (plan_in x).flat.variables) x.frame.addresses.now →
    AreCleaned (plan_in x) x.later.now →
    slice_get (plan_in x).graph.threads x.number ≡ Some x.part → AreHomesOf (plan_in x) x.number x.frame.locals.now →
    AreListsOf (plan_in x) x.number x.frame.locals.now x.live.now → AreNamesOf (plan_in x) x.number (names_of x.names.now) → IsOpen x
is_open x plan shallow addresses later at locals lists names =
    let thread = is_thread (plan_in x) plan x.number x.part x.frame.locals.now at locals in
    let same : homes_of x.frame ≡ homes (plan_in x) (thread_of x) =
    ap (λ (places : List ℕ). homes_made places x.frame.locals.now) (addresses_are (plan_in x).flat.variables x.frame.addresses.now addresses) in
    record {
      plan = plan;
      few = few_needed (plan_in x) plan shallow;
      thread = thread;
      homes = same;
      names = names;
      formed = names_formed (plan_in x) plan (thread_of x) thread shallow;
      ready = subst (λ (h : Homes). AllByRecursion (IsReady h) (names_in (plan_in x) (thread_of x))) (sym same)
          (names_ready (plan_in x) plan (thread_of x) thread shallow);
      lists = lists x.part at;
      later = later;
    }

-- ---- Registers

pub colours_at : (vs : List (Vec ℕ Global)) (k : ℕ) (v : Vec ℕ Global) → k < length vs → v ≡ get_or vs k v →
    slice_get (map (λ (u : Vec ℕ Global). u.items) vs) k ≡ Some v.items
colours_at vs k v h e = slice_get-map (λ (u : Vec ℕ Global). u.items) vs k ∙ ap (option_map (λ (u : Vec ℕ Global). u.items)) (read_get vs k v h e)

-- What a plan says of a thread's nodes.
use Rattle.std.proofs.Common.{◌≡◌, ◌⊎◌, inl, inr, ⊎_elim, refl, ℕ, zero, suc, ◌+◌, ◌-◌, ◌*◌, ◌<◌, ◌≤◌, List, [], ◌∷◌, length, ◌∙◌, ap, ap₂, sym, subst, arith}
use Rattle.std.proofs.Common.{Option, Some}
use Rattle.std.proofs.Common.{None, Bool, true, false, cond}
use Rattle.std.specs.Prelude.{slice_get, slice_index_or, nat_lt, find, ℤ}
use Rattle.std.specs.Option.{option_map}
use Rattle.std.proofs.lemmas.Option.{slice_get_within, get_or_from_slice_get}
use Rattle.std.proofs.lemmas.List.Sums.{sum_by-cons}
use Rattle.ido_base.specs.declared.location.Location.{Location}
use Rattle.log_schemes.specs.declared.keeping.Keeping.TheVariants.{Masked}
use Rattle.log_schemes.specs.declared.locals.Locals.TheVariants.{Registers, Frame}
use Rattle.log_schemes.specs.Schemes.{keeping_of, locals_of}
use Rattle.ido_base.specs.declared.limits.TheConstants.{MOST_PRICE, MOST_THREADS}
use Rattle.c_tree.specs.Exprs as e
use Rattle.c_tree.specs.Flats as f
use Rattle.c_tree.specs.LockNames.{Held}
use Rattle.c_tree.specs.Prices.{node_price, thread_price}
use Rattle.c_tree.specs.declared.language.Language.{Language}
use Rattle.c_tree.specs.declared.language.Language.TheVariants.{Plain, Full}
use Rattle.c_tree.specs.HoldPrices.{full_price, price_fault}
use Rattle.c_tree.specs.WellFormed.{AreFlatStatements}
use Rattle.lock_discipline.specs.HeldSetsByStep.{assign_steps, steps, steps_of_all, steps_of_arms, thread_steps}
use Rattle.lock_discipline.proofs.Public.{held_length}
use Rattle.c_tree.specs.Exprs.{LockName}
use Rattle.c_tree.proofs.Public.{length-plain_names, names_are_plain}
use Rattle.flow_graph.specs.declared.graph.Part.{Part}
use Rattle.flow_graph.specs.Nodes.{Action, Eval, Store, Test, Lock, Unlock, End, Node, Graph}
use Rattle.flow_graph.specs.IdempotentCuts.{IsChosen, Writes}
use Rattle.flow_graph.specs.Liveness.{NodeAt}
use Rattle.flow_graph.specs.Lowering.{table_of, assign_count, count, statements_count, arms_count, thread_count, thread_nodes, threads_nodes, part, parts}
use Rattle.flow_graph.proofs.Public.{length-thread_nodes, all_at, found_in, lowered_nodes, lowered_threads, ShapedAs, node_shaped}
use Rattle.thread_code.specs.Plans.{Assigns, Plan, Thread, IsPlan, IsThread, IsNodeOf, language_of, locks_before, locks_held, names_in, set_before}
use Rattle.thread_code.proofs.Public.{names_are, plain_before}
use Rattle.thread_code.specs.Programs.{action_nodes}
use Rattle.rv64_codegen.proofs.LoweredNodes.{price_of, prices, price_thread, IsLoweredNode, sound_thread, sound_at, part_is, node_of_thread}

-- ---- As many steps as nodes

assign_lockstep : (target : e.Lvalue) → assign_steps target ≡ assign_count target
assign_lockstep (e.ToLocal place local kind) = refl
assign_lockstep (e.ToVariable place variable kind) = refl
assign_lockstep (e.ToElement place variable kind index) = refl

mutual
  steps_lockstep : (y : f.Statement) → steps y ≡ count y
  steps_lockstep (f.Assign place target value) = assign_lockstep target
  steps_lockstep (f.If place arms otherwise) = ap₂ ◌+◌ (arms_lockstep arms) (all_lockstep otherwise)
  steps_lockstep (f.While place condition body) = ap suc (all_lockstep body)
  steps_lockstep (f.Do place body condition) = omega (arith, all_lockstep body)
  steps_lockstep (f.Lock place name) = refl
  steps_lockstep (f.Unlock place name) = refl

  all_lockstep : (ys : f.Statements) → steps_of_all ys ≡ statements_count ys
  all_lockstep f.no_statement = refl
  all_lockstep (f.statement_and y rest) = ap₂ ◌+◌ (steps_lockstep y) (all_lockstep rest)

  arms_lockstep : (arms : f.Arms) → steps_of_arms arms ≡ arms_count arms
  arms_lockstep f.no_arm = refl
  arms_lockstep (f.arm_and condition body rest) = ap suc (ap₂ ◌+◌ (all_lockstep body) (arms_lockstep rest))

thread_lockstep : (t : f.Thread) → thread_steps t ≡ thread_count t
thread_lockstep t = omega (arith, all_lockstep t.body)

-- ---- Prices

pub prices_at : (ns : List Node) (k : ℕ) (n : Node) → slice_get ns k ≡ Some n → price_of n ≤ prices ns
prices_at [] k n g = cc
prices_at (m ∷ ns) zero n g = let same : m ≡ n = cc in
    let P : Node → Type 0 = λ z. price_of z ≤ prices (m ∷ ns) in subst P same (omega (arith, sum_by-cons price_of m ns))
prices_at (m ∷ ns) (suc k) n g = omega (arith, sum_by-cons price_of m ns, prices_at ns k n g)

prices_many : (ns : List Node) → 96 * length ns ≤ prices ns
prices_many [] = omega arith
prices_many (n ∷ ns) = omega (arith, sum_by-cons price_of n ns, prices_many ns)

none_mapped : {X Y : Type 0} (g : X → Y) (o : Option X) → option_map g o ≡ None → o ≡ None
none_mapped g None h = refl
none_mapped g (Some x) h = cc

none_chosen : {X : Type 0} (b : Bool) (y : X) (o : Option X) → cond b (Some y) o ≡ None → (b ≡ false) × (o ≡ None)
none_chosen true y o h = cc
none_chosen false y o h = (refl, h)

none_found : {X : Type 0} (test : X → Bool) (xs : List X) (k : ℕ) (x : X) → find test xs ≡ None → slice_get xs k ≡ Some x → test x ≡ false
none_found test [] k x h g = cc
none_found test (y ∷ xs) zero x h g =
    let same : y ≡ x = cc in
    subst (λ z. test z ≡ false) same (none_chosen (test y) y (find test xs) h).0
none_found test (y ∷ xs) (suc k) x h g = none_found test xs k x (none_chosen (test y) y (find test xs) h).1 g

thread_cheap : (l : Language) (x : f.Flat) (k : ℕ) (t : f.Thread) → price_fault l x ≡ None → slice_get x.threads k ≡ Some t →
    nat_lt MOST_PRICE (full_price l x t) ≡ false
unfolding price_fault
thread_cheap l x k t h g = none_found (λ (u : f.Thread). nat_lt MOST_PRICE (full_price l x u)) x.threads k t
    (none_mapped (λ (u : f.Thread). u.name.place) (find (λ (u : f.Thread). nat_lt MOST_PRICE (full_price l x u)) x.threads) h) g

no_less : (l : Language) (x : f.Flat) (t : f.Thread) → thread_price t ≤ full_price l x t
no_less Plain x t = omega arith
no_less Full x t = omega arith

not_above : (n m : ℕ) → nat_lt n m ≡ false → m ≤ n
not_above n m h = grind arith

-- ---- The graph

module _ (p : Plan) (plan : IsPlan p) where
  pub nodes_are : p.graph.nodes ≡ threads_nodes p.flat p.flat.threads 0
  nodes_are = ap (λ (g : Graph). g.nodes) plan.lowered ∙ lowered_nodes p.flat

  pub threads_are : p.graph.threads ≡ parts p.flat.threads 0
  threads_are = ap (λ (g : Graph). g.threads) plan.lowered ∙ lowered_threads p.flat

  node_there : (node : ℕ) (is : Node) → NodeAt p.graph node is → slice_get (threads_nodes p.flat p.flat.threads 0) node ≡ Some is
  node_there node is at = ap (λ (ns : List Node). slice_get ns node) (sym nodes_are) ∙ at

  part_there : (number : ℕ) (q : Part) → slice_get p.graph.threads number ≡ Some q → slice_get (parts p.flat.threads 0) number ≡ Some q
  part_there number q at = ap (λ (qs : List Part). slice_get qs number) (sym threads_are) ∙ at

  -- ---- Boundaries that are chosen

  abbrev pub IsStoring : Action → Type 0
  IsStoring (Eval target value next) = ⊥
  IsStoring (Store variable kind next) = Unit {0}
  IsStoring (Test condition holds fails) = ⊥
  IsStoring (Lock lock next) = ⊥
  IsStoring (Unlock lock next) = ⊥
  IsStoring End = ⊥

  silent : (n : Node) (l : Location) → n.writes ≡ None → n.writes ≡ Some l → ⊥
  silent n l none some = let both : None ≡ Some l = sym none ∙ some in cc

  writes_by : (all : List Node) (n : Node) (a : Action) (l : Location) → ShapedAs all n a → n.writes ≡ Some l → IsStoring a
  writes_by all n (Eval target value next) l shape is = silent n l shape.1.writes is
  writes_by all n (Store variable kind next) l shape is = tt
  writes_by all n (Test condition holds fails) l shape is = silent n l shape.1.writes is
  writes_by all n (Lock lock next) l shape is = silent n l shape.1 is
  writes_by all n (Unlock lock next) l shape is = silent n l shape.1 is
  writes_by all n End l shape is = silent n l shape.1 is

  writes_here : (node : ℕ) (is : Node) → NodeAt p.graph node is → Writes p.graph node → IsStoring is.action
  writes_here node is at w =
      let same : w.is ≡ is = let there = w.at in cc in
      let P : Node → Type 0 = λ z. IsStoring z.action in
      subst P same (writes_by (threads_nodes p.flat p.flat.threads 0) w.is w.is.action w.written
      (node_shaped p.flat node w.is (node_there node w.is w.at)) w.writes)

  -- a node before which a boundary stands by choice makes a store or, where locals stand in the frame, assigns one
  pub chosen_writes : (node : ℕ) (is : Node) → NodeAt p.graph node is → IsChosen p.graph p.boundaries node →
      IsStoring is.action ⊎ ((locals_of p.log ≡ Frame) × ((local : ℕ) × Assigns p node local))
  chosen_writes node is at c =
      ⊎_elim (λ u. absurd (c.free u)) (λ rest.
      ⊎_elim (λ w. inl (writes_here node is at w)) (λ a. inr (a.logged.frame, (a.logged.local, a.logged.assigns))) rest) (plan.at_writes.before node c.stands)

  -- where locals stand in registers it makes a store
  pub chosen_stores : locals_of p.log ≡ Registers → (node : ℕ) (is : Node) → NodeAt p.graph node is → IsChosen p.graph p.boundaries node → IsStoring is.action
  chosen_stores registers node is at c =
      ⊎_elim (λ s. s) (λ f. absurd (let both : Registers ≡ Frame = sym registers ∙ f.0 in let z : ⊥ = cc in z)) (chosen_writes node is at c)

  -- ---- Nodes of a thread

  module _ (t : Thread) (th : IsThread p t) where
    own_part : slice_get (parts p.flat.threads 0) t.number ≡ Some t.part
    own_part = part_there t.number t.part th.nodes

    part_here : t.part ≡ part th.text t.part.first
    part_here = part_is p.flat.threads 0 t.number th.text t.part th.of_text own_part

    pub end_is : t.part.end ≡ t.part.first + thread_count th.text
    end_is = ap (λ (q : Part). q.end) part_here

    pub locals_are : t.part.locals ≡ length th.text.locals
    locals_are = ap (λ (q : Part). q.locals) part_here

    pub node_in : (node : ℕ) (is : Node) → IsNodeOf t node → NodeAt p.graph node is →
        slice_get (thread_nodes (table_of p.flat th.text) th.text t.part.first) (node - t.part.first) ≡ Some is
    node_in node is own at =
        sym (node_of_thread p.flat p.flat.threads 0 t.number th.text t.part (node - t.part.first) node th.of_text own_part
        (omega (arith, own.from_first, own.below_end, end_is)) (omega (arith, own.from_first))) ∙ node_there node is at

    pub node_exists : (node : ℕ) → IsNodeOf t node → (is : Node) × NodeAt p.graph node is
    node_exists node own =
        let i = node - t.part.first in
        let short : i < length (thread_nodes (table_of p.flat th.text) th.text t.part.first) =
        omega (arith, own.from_first, own.below_end, end_is, length-thread_nodes (table_of p.flat th.text) th.text t.part.first) in
        let there = found_in (thread_nodes (table_of p.flat th.text) th.text t.part.first) i short in (
          there.0,
          ap (λ (ns : List Node). slice_get ns node) nodes_are
              ∙ node_of_thread p.flat p.flat.threads 0 t.number th.text t.part i node th.of_text own_part
              (omega (arith, own.from_first, own.below_end, end_is)) (omega (arith, own.from_first)) ∙ there.1,
        )

    pub end_within : t.part.end ≤ length p.graph.nodes
    end_within =
        let last = t.part.end - 1 in
        let own : IsNodeOf t last = record { from_first = omega (arith, end_is); below_end = omega (arith, end_is) } in
        let there = node_exists last own in
        omega (arith, slice_get_within p.graph.nodes last there.0 there.1, end_is)

    pub first_below : t.part.first < t.part.end
    first_below = omega (arith, end_is)

    pub sound_node : (node : ℕ) (is : Node) → IsNodeOf t node → NodeAt p.graph node is →
        IsLoweredNode p.flat th.text.locals t.part.first t.part.end plan.formed.shared.variables is
    sound_node node is own at =
        sound_at p.flat th.text.locals t.part.first t.part.end plan.formed.shared.variables (thread_nodes (table_of p.flat th.text) th.text t.part.first)
        (node - t.part.first) is
        (sound_thread p.flat th.text.locals t.part.first t.part.end plan.formed.shared.variables (table_of p.flat th.text) th.text t.part.first
        (all_at (λ (u : f.Thread). AreFlatStatements p.flat u.locals u.body) p.flat.threads t.number th.text plan.formed.threads th.of_text)
        (omega arith) (omega (arith, end_is))) (node_in node is own at)

    -- ---- Prices

    -- with what is held, where the log lists locks
    pub cheap_whole : full_price (language_of p.log) p.flat th.text ≤ MOST_PRICE
    cheap_whole =
        not_above MOST_PRICE (full_price (language_of p.log) p.flat th.text)
        (thread_cheap (language_of p.log) p.flat t.number th.text plan.priced th.of_text)

    pub cheap_text : thread_price th.text ≤ MOST_PRICE
    cheap_text = omega (arith, cheap_whole, no_less (language_of p.log) p.flat th.text)

    cheap : prices (thread_nodes (table_of p.flat th.text) th.text t.part.first) ≤ MOST_PRICE
    cheap = omega (arith, price_thread (table_of p.flat th.text) th.text t.part.first, cheap_text)

    pub cheap_node : (node : ℕ) (is : Node) → IsNodeOf t node → NodeAt p.graph node is → node_price (action_nodes is.action) ≤ MOST_PRICE
    cheap_node node is own at =
        omega (arith, cheap, prices_at (thread_nodes (table_of p.flat th.text) th.text t.part.first) (node - t.part.first) is (node_in node is own at))

    pub few_nodes : t.part.end ≤ t.part.first + 682
    few_nodes =
        omega (
          arith,
          cheap,
          prices_many (thread_nodes (table_of p.flat th.text) th.text t.part.first),
          length-thread_nodes (table_of p.flat th.text) th.text t.part.first,
          end_is,
        )

    -- ---- The thread

    pub number_below : t.number < length p.flat.threads
    number_below = slice_get_within p.flat.threads t.number th.text th.of_text

    pub thread_below : t.number < MOST_THREADS
    thread_below = omega (arith, number_below, plan.formed.shared.threads)

    pub held_there : t.number < length p.held
    held_there = omega (arith, number_below, plan.held.each_thread)

    pub held_sets : (node : ℕ) → IsNodeOf t node → node - t.part.first < length (slice_index_or p.held t.number [])
    held_sets node own =
        let there = found_in p.held t.number held_there in
        let sets = plan.held.sets t.number th.text there.0 th.of_text there.1 in
        let is : slice_index_or p.held t.number [] ≡ there.0 = or_there p.held t.number there.0 there.1 in
        omega (arith, ap (λ (s : List Held). length s) is, sets.each_step, thread_lockstep th.text, end_is, own.from_first, own.below_end)
      where
        or_there : (xs : List (List Held)) (k : ℕ) (y : List Held) → slice_get xs k ≡ Some y → slice_index_or xs k [] ≡ y
        or_there [] k y g = cc
        or_there (x ∷ xs) zero y g = cc
        or_there (x ∷ xs) (suc k) y g = or_there xs k y g

    -- a set is as long as the thread's names
    pub set_long : (node : ℕ) → IsNodeOf t node → length (set_before p t node) ≡ length (names_in p t)
    set_long node own =
        let step = node - t.part.first in
        let there = found_in p.held t.number held_there in
        let sets = plan.held.sets t.number th.text there.0 th.of_text there.1 in
        let is : slice_index_or p.held t.number [] ≡ there.0 = get_or_from_slice_get p.held t.number there.0 [] there.1 in
        let inside : step < length there.0 = subst (λ (s : List Held). step < length s) is (held_sets node own) in
        let one = found_in there.0 step inside in
        let set : set_before p t node ≡ one.0 =
        ap (λ (s : List Held). slice_index_or s step []) is ∙ get_or_from_slice_get there.0 step one.0 [] one.1 in
        let long : length one.0 ≡ length (names_in p t) = held_length p.flat th.text step one.0 ((sets.exactly step one.0).0 one.1)
        ∙ ap (λ (ns : List LockName). length ns) (sym (names_are p t th)) in
        ap (λ (h : Held). length h) set ∙ long

    module _ (masks : keeping_of p.log ≡ Masked) where
      -- where threads log with masks a set has a name for each mutex
      plain_long : (node : ℕ) → IsNodeOf t node → length (set_before p t node) ≡ length p.flat.mutexes
      plain_long node own =
          set_long node own ∙ (ap (λ (ns : List LockName). length ns) (names_are p t th ∙ names_are_plain p.flat th.text (plan.plain masks).single)
          ∙ length-plain_names (length p.flat.mutexes))

      -- there no set has more mutexes than a mask has bits
      pub few_held : (node : ℕ) → IsNodeOf t node → length (set_before p t node) ≤ 64
      few_held node own = omega (arith, plain_long node own, (plan.plain masks).few)

      -- there the numbers of the held names are those of their mutexes, whatever numbers locals have
      pub numbers_plain : (locals : List ℤ) (node : ℕ) → IsNodeOf t node → locks_held (set_before p t node) ≡ locks_before p t locals node
      numbers_plain locals node own = plain_before p t th (plan.plain masks).single locals node (plain_long node own)

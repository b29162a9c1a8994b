-- Of each node whether its clean may be left out: there is a list that says so, where threads have their code.
use Rattle.std.proofs.Common.{◌≡◌, ◌↔◌, ◌⊎◌, inl, inr, refl, ℕ, zero, suc, ◌+◌, ◌<◌, ◌≤◌, List, []}
use Rattle.std.proofs.Common.{◌∷◌, ◌++◌, length, map, Bool, true, false, Some, None, ap, sym, subst, ◌∙◌, arith, length-append}
use Rattle.std.specs.Prelude.{slice_get}
use Rattle.std.proofs.lemmas.Bool.{cases_lt, cases_Bool, true≢false}
use Rattle.std.proofs.lemmas.Option.{none-some, same_Some, slice_get_within}
use Rattle.c_tree.specs.Flats as f
use Rattle.c_tree.specs.WellFormed.{shape_of}
use Rattle.flow_graph.specs.declared.graph.Part.{Part}
use Rattle.flow_graph.specs.Nodes.{Action, Eval, Store, Test, Lock, Unlock, End, Node, Graph}
use Rattle.flow_graph.specs.OmittedCleans.{IsCleanedLater}
use Rattle.flow_graph.specs.Liveness.{NodeAt}
use Rattle.flow_graph.specs.Lowering.{table_of, thread_count, thread_nodes, threads_nodes, part, parts}
use Rattle.flow_graph.proofs.Public.{length-thread_nodes, get_cases, lowered_nodes, lowered_threads, ShapedAs, node_shaped}
use Rattle.thread_code.specs.Plans.{Plan, IsPlan, Thread, IsNodeOf}
use Rattle.thread_code.specs.NodeCodeEffects.{Places}
use Rattle.thread_code.specs.Programs.{IsCleaning}
use Rattle.recovered_threads.specs.RecordDescriptions.{Codes}

-- ---- Lists of answers

-- for so many numbers, from a number on, which of them have the property
record Answers (P : ℕ → Type 0) (count : ℕ) : Type 0 where
  list : List Bool
  each : (n : ℕ) → n < count → (slice_get list n ≡ Some true) ↔ P n
  past : (n : ℕ) → slice_get list n ≡ Some true → n < count

bool_of : {A : Type 0} → A ⊎ (A → ⊥) → (b : Bool) × ((b ≡ true) ↔ A)
bool_of (inl a) = (true, ((λ e. a), (λ a. refl)))
bool_of (inr none) = (false, ((λ e. cc), (λ a. absurd (none a))))

no_answers : (P : ℕ → Type 0) → Answers P 0
no_answers P = record { list = []; each = λ n below. absurd (omega (arith, below)); past = λ n e. absurd (none-some true e) }

one_more : (P : ℕ → Type 0) (count : ℕ) → P 0 ⊎ (P 0 → ⊥) → Answers (λ (n : ℕ). P (suc n)) count → Answers P (suc count)
one_more P count decided rest = record { list = first.0 ∷ rest.list; each = each; past = past }
  where
    first : (b : Bool) × ((b ≡ true) ↔ P 0)
    first = bool_of decided

    each : (n : ℕ) → n < suc count → (slice_get (first.0 ∷ rest.list) n ≡ Some true) ↔ P n
    each zero below = (λ e. first.1.0 (same_Some first.0 true e), λ a. ap (λ (b : Bool). Some b) (first.1.1 a))
    each (suc n) below = rest.each n (omega (arith, below))

    past : (n : ℕ) → slice_get (first.0 ∷ rest.list) n ≡ Some true → n < suc count
    past zero e = omega arith
    past (suc n) e = let b = rest.past n e in omega (arith, b)

answers : (P : ℕ → Type 0) (count : ℕ) → ((n : ℕ) → n < count → P n ⊎ (P n → ⊥)) → Answers P count
answers P zero decide = no_answers P
answers P (suc count) decide =
    one_more P count (decide 0 (omega arith)) (answers (λ (n : ℕ). P (suc n)) count (λ n below. decide (suc n) (omega (arith, below))))

-- ---- Each node is one of a thread's

record Owner (ts : List f.Thread) (first node : ℕ) : Type 0 where
  number : ℕ
  own : Part
  there : slice_get (parts ts first) number ≡ Some own
  from_first : own.first ≤ node
  below_end : node < own.end

owner : (x : f.Flat) (ts : List f.Thread) (first node : ℕ) → first ≤ node → node < first + length (threads_nodes x ts first) → Owner ts first node
owner x [] first node from below = absurd (omega (arith, from, below))
owner x (t ∷ ts) first node from below = elim (cases_lt node (first + thread_count t)) [
  | inl here ↦ record { number = 0; own = part t first; there = refl; from_first = from; below_end = here }
  | inr past ↦
      let after : List Node = threads_nodes x ts (first + thread_count t) in
      let whole : length (thread_nodes (table_of x t) t first ++ after) ≡ length (thread_nodes (table_of x t) t first) + length after =
      length-append (thread_nodes (table_of x t) t first) after in
      let later = owner x ts (first + thread_count t) node past (omega (arith, below, whole, length-thread_nodes (table_of x t) t first)) in
      record { number = suc later.number; own = later.own; there = later.there; from_first = later.from_first; below_end = later.below_end }
]

-- ---- A plan whose threads have their code

module _ (p : Plan) (plan : IsPlan p) (codes : Codes p) where
  abbrev Later : ℕ → Type 0
  Later node = IsCleanedLater p.graph p.boundaries (map shape_of p.flat.variables) node

  shaped : (node : ℕ) (is : Node) → NodeAt p.graph node is → ShapedAs (threads_nodes p.flat p.flat.threads 0) is is.action
  shaped node is at =
      node_shaped p.flat node is (ap (λ (ns : List Node). slice_get ns node)
      (sym (ap (λ (g : Graph). g.nodes) plan.lowered ∙ lowered_nodes p.flat)) ∙ at)

  silent : (node : ℕ) (is : Node) → NodeAt p.graph node is → is.writes ≡ None → Later node → ⊥
  silent node is at none later =
      let same : later.stores.is ≡ is = same_Some later.stores.is is (sym later.stores.at ∙ at) in
      none-some later.stores.written (sym none ∙ ap (λ (n : Node). n.writes) (sym same) ∙ later.stores.writes)

  decide_by : (node : ℕ) (is : Node) (at : NodeAt p.graph node is) (t : Thread) (c : Places) (action : Action) →
      ShapedAs (threads_nodes p.flat p.flat.threads 0) is action → IsCleaning p t c action node → Later node ⊎ (Later node → ⊥)
  decide_by node is at t c (Eval target value next) shape cleans = inr (silent node is at shape.1.writes)
  decide_by node is at t c (Store variable kind next) shape cleans = elim (cases_Bool (c.cleans node)) [
    | inl cleaned ↦ inr (λ later. true≢false (sym cleaned ∙ cleans.1 later))
    | inr uncleaned ↦ inl (cleans.0 uncleaned)
  ]
  decide_by node is at t c (Test condition holds fails) shape cleans = inr (silent node is at shape.1.writes)
  decide_by node is at t c (Lock lock next) shape cleans = inr (silent node is at shape.1)
  decide_by node is at t c (Unlock lock next) shape cleans = inr (silent node is at shape.1)
  decide_by node is at t c End shape cleans = inr (silent node is at shape.1)

  decide_own : (node n : ℕ) (own : Part) (is : Node) → NodeAt p.graph node is → slice_get p.graph.threads n ≡ Some own → own.first ≤ node → node < own.end →
      Later node ⊎ (Later node → ⊥)
  decide_own node n own is at there from below =
      let inside = slice_get_within p.graph.threads n own there in
      let code = codes.each n inside in
      let same : code.thread.part ≡ own =
      same_Some code.thread.part own
      (sym (ap (slice_get p.graph.threads) (sym (codes.number n inside)) ∙ code.of.nodes) ∙ there) in
      let mine : IsNodeOf code.thread node =
      record {
        from_first = subst (λ (q : Part). q.first ≤ node) (sym same) from;
        below_end = subst (λ (q : Part). node < q.end) (sym same) below;
      } in
      decide_by node is at code.thread code.is.places is.action (shaped node is at) (code.is.code node is mine at).cleans

  decide : (node : ℕ) → node < length p.graph.nodes → Later node ⊎ (Later node → ⊥)
  decide node below = elim (get_cases p.graph.nodes node) [
    | inl none ↦ inr (λ later. none-some later.stores.is (sym none ∙ later.stores.at))
    | inr found ↦
        let nodes : p.graph.nodes ≡ threads_nodes p.flat p.flat.threads 0 = ap (λ (g : Graph). g.nodes) plan.lowered ∙ lowered_nodes p.flat in
        let threads : p.graph.threads ≡ parts p.flat.threads 0 = ap (λ (g : Graph). g.threads) plan.lowered ∙ lowered_threads p.flat in
        let long : length p.graph.nodes ≡ length (threads_nodes p.flat p.flat.threads 0) = ap length nodes in
        let o = owner p.flat p.flat.threads 0 node (omega arith) (omega (arith, below, long)) in
        decide_own node o.number o.own found.0 found.1 (ap (λ (qs : List Part). slice_get qs o.number) threads ∙ o.there) o.from_first o.below_end
  ]

  all_answers : Answers Later (length p.graph.nodes)
  all_answers = answers Later (length p.graph.nodes) decide

  -- of each node whether it is a store that is cleaned later
  pub record LeftOut : Type 0 where
    pub list : List Bool
    pub each : (node : ℕ) → (slice_get list node ≡ Some true) ↔ Later node

  pub left_out : LeftOut
  left_out = record {
    list = all_answers.list;
    each = λ node. (
      λ e. (all_answers.each node (all_answers.past node e)).0 e,
      λ later.
          let inside = slice_get_within p.graph.nodes node later.stores.is later.stores.at in
          (all_answers.each node inside).1 later,
    );
  }

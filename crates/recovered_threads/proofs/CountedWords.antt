-- The words of its frame on which a thread counts at a node.
use Rattle.std.proofs.Common.{◌≡◌, ◌≢◌, ◌⊎◌, ◌↔◌, inl, inr, ℕ, zero, suc, ◌+◌, ◌/◌, ◌%◌, ◌<◌, ◌==◌, ◌&&◌, not, List, [], ◌∷◌, refl, ap}
use Rattle.std.proofs.Common.{arith, sym, ◌∙◌, subst, cond, Bool, true, false, Some}
use Rattle.std.specs.Prelude.{slice_get, slice_index, slice_index_or, Contains}
use Rattle.std.specs.Int.{bit_at}
use Rattle.std.proofs.lemmas.Bool.{true≢false, and_parts, eq-eqb, eqb-true, ne_eqb}
use Rattle.std.proofs.lemmas.Option.{none-some, same_Some}
use Rattle.c_tree.specs.Exprs as e
use Rattle.c_tree.specs.Exprs.{LockName}
use Rattle.expr_code.specs.EvaluationCode.{home_of}
use Rattle.expr_code.specs.declared.home.Home.TheVariants.{InFrame}
use Rattle.log_schemes.specs.declared.locals.Locals.{Locals}
use Rattle.log_schemes.specs.declared.locals.Locals.TheVariants.{Registers, Frame}
use Rattle.log_schemes.specs.Layout.{frame_at}
use Rattle.log_schemes.specs.Schemes.{locals_of}
use Rattle.flow_graph.specs.Nodes.{Action, Eval, Store, Test, Lock, Unlock, End, Node, successors}
use Rattle.flow_graph.specs.IdempotentCuts.{IsEdge}
use Rattle.flow_graph.specs.Liveness.{IsAssigned, IsLive, NodeAt, Spans, is_read_later}
use Rattle.flow_graph.specs.LocalSets.{Has}
use Rattle.flow_graph.proofs.Public.{get_cases}
use Rattle.log_states.proofs.Public.{contains_cases, contains_first, contains_later, contains_none}
use Rattle.thread_code.specs.Plans.{Assigns, Plan, Thread, IsLogged, IsThread, IsNodeOf, IsPlan, held_names_before, home_at}
use Rattle.thread_code.specs.RegistersAtNodes.{IsCountedOn, by_assignment, by_entry}
use Rattle.recovered_threads.specs.RecordDescriptions.{AreCounted, CountsOn, IsCountedWord, NodePlace, the_core, the_entry}
use Rattle.recovered_threads.specs.Laws.{AssignedIsApart, WordsAreListed, WordsExist}
use Rattle.recovered_threads.proofs.HomesByColour.{HasWord, has_word, home_at_colour}
use Rattle.recovered_threads.proofs.LivenessAtUnlocks.{assigned_is}

-- ---- The colours of some locals

-- of those locals that are counted, where the first is local `at`
abbrev words_from : (counts : ℕ → Bool) (at : ℕ) (colours : List ℕ) → List ℕ
words_from counts at [] = []
words_from counts at (c ∷ cs) = cond (counts at) (c ∷ words_from counts (suc at) cs) (words_from counts (suc at) cs)

record IsListed (counts : ℕ → Bool) (at : ℕ) (colours : List ℕ) (word : ℕ) : Type 0 where
  number : ℕ
  counted : counts (at + number) ≡ true
  there : slice_get colours number ≡ Some word

-- one that is listed later
later : (counts : ℕ → Bool) (at c : ℕ) (cs : List ℕ) (word : ℕ) → IsListed counts (suc at) cs word → IsListed counts at (c ∷ cs) word
later counts at c cs word i = record {
  number = suc i.number;
  counted = let e : at + suc i.number ≡ suc at + i.number = omega arith in ap counts e ∙ i.counted;
  there = i.there;
}

found : (counts : ℕ → Bool) (at : ℕ) (colours : List ℕ) (word : ℕ) → Contains (words_from counts at colours) word → IsListed counts at colours word
found counts at [] word h = absurd (contains_none word h)
found counts at (c ∷ cs) word h = by (counts at) refl h (λ inside. later counts at c cs word (found counts (suc at) cs word inside))
  where
    by : (b : Bool) → counts at ≡ b → Contains (cond b (c ∷ words_from counts (suc at) cs) (words_from counts (suc at) cs)) word →
        (Contains (words_from counts (suc at) cs) word → IsListed counts at (c ∷ cs) word) → IsListed counts at (c ∷ cs) word
    by true e inside more = elim (contains_cases c (words_from counts (suc at) cs) word inside) [
      | inl is ↦ record { number = 0; counted = (let z : at + 0 ≡ at = omega arith in ap counts z ∙ e); there = ap (λ (n : ℕ). Some n) (sym is) }
      | inr rest ↦ more rest
    ]
    by false e inside more = more inside

listed : (counts : ℕ → Bool) (at : ℕ) (colours : List ℕ) (number word : ℕ) → counts (at + number) ≡ true → slice_get colours number ≡ Some word →
    Contains (words_from counts at colours) word
listed counts at [] number word counted there = absurd (none-some word there)
listed counts at (c ∷ cs) zero word counted there =
    let e : at + 0 ≡ at = omega arith in
    let more = words_from counts (suc at) cs in
    subst (λ (b : Bool). Contains (cond b (c ∷ more) more) word) (sym (ap counts (sym e) ∙ counted))
    (subst (λ (n : ℕ). Contains (c ∷ more) n) (same_Some c word there) (contains_first c more))
listed counts at (c ∷ cs) (suc number) word counted there =
    by (counts at) (listed counts (suc at) cs number word (let e : suc at + number ≡ at + suc number = omega arith in ap counts e ∙ counted) there)
  where
    by : (b : Bool) → Contains (words_from counts (suc at) cs) word →
        Contains (cond b (c ∷ words_from counts (suc at) cs) (words_from counts (suc at) cs)) word
    by true rest = contains_later c (words_from counts (suc at) cs) word rest
    by false rest = rest

registers_no_frame : (l : Locals) → l ≡ Registers → l ≡ Frame → ⊥
registers_no_frame Registers e f = cc
registers_no_frame Frame e f = cc

module _ (p : Plan) (plan : IsPlan p) (t : Thread) (is : IsThread p t) (node : ℕ) (place : NodePlace) (counts : ℕ → Bool)
    (decides : (local : ℕ) → (counts local ≡ true) ↔ CountsOn p t node place local) where
  words_by : (l : Locals) → locals_of p.log ≡ l → (words : List ℕ) × AreCounted p t node place words
  words_by Registers none = (
    [],
    λ word. (
      λ c. absurd (contains_none word c),
      λ i. absurd (registers_no_frame (locals_of p.log) none (has_word p plan t is i.local word i.home).frame),
    ),
  )
  words_by Frame all = (words_from counts 0 is.colours, λ word. (there word, back word))
    where
      there : (word : ℕ) → Contains (words_from counts 0 is.colours) word → IsCountedWord p t node place word
      there word c =
          let i = found counts 0 is.colours word c in
          record {
            local = i.number;
            counted = (decides i.number).0 (let e : 0 + i.number ≡ i.number = omega arith in ap counts (sym e) ∙ i.counted);
            home = home_at_colour p plan t is i.number word i.there ∙ ap (λ (l : Locals). home_at l p.log t.number word) all;
          }

      back : (word : ℕ) → IsCountedWord p t node place word → Contains (words_from counts 0 is.colours) word
      back word i =
          let e : 0 + i.local ≡ i.local = omega arith in
          listed counts 0 is.colours i.local word (ap counts e ∙ (decides i.local).1 i.counted) (has_word p plan t is i.local word i.home).there

-- ---- Live locals, and logged assignments

module _ (p : Plan) (plan : IsPlan p) where
  abbrev is_live : (node local : ℕ) → Bool
  is_live node local = bit_at (slice_index (slice_index_or p.live node []) (local / 64)) (local % 64) == 1

  live_decided : (node local : ℕ) → (is_live node local ≡ true) ↔ IsLive p.graph local node
  unfolding Has
  live_decided node local = (
    λ e. (plan.live.each node local).0 (eqb-true (bit_at (slice_index (slice_index_or p.live node []) (local / 64)) (local % 64)) 1 e),
    λ live. eq-eqb (bit_at (slice_index (slice_index_or p.live node []) (local / 64)) (local % 64)) 1 ((plan.live.each node local).1 live),
  )

  -- no node assigns two locals
  same_assigned : (node one other : ℕ) → Assigns p node one → Assigns p node other → one ≡ other
  same_assigned node one other a b =
      let same : a.is ≡ b.is = same_Some a.is b.is (sym a.at ∙ b.at) in
      same_Some one other (sym (assigned_is p plan node a.is a.at a.place one a.kind a.assigned a.next a.action)
      ∙ (ap (λ (n : Node). n.assigns) same ∙ assigned_is p plan node b.is b.at b.place other b.kind b.assigned b.next b.action))

  module _ (t : Thread) (node : ℕ) where
    same_action : (is : Node) → NodeAt p.graph node is → {a : Action} → is.action ≡ a → (l : IsLogged p t node) →
        a ≡ Eval (e.ToLocal l.assigns.place l.local l.assigns.kind) l.assigns.assigned l.assigns.next
    same_action is at does l =
        sym does ∙ (ap (λ (n : Node). n.action) (same_Some is l.assigns.is (sym at ∙ l.assigns.at)) ∙ l.assigns.action)

    by_target : (is : Node) → NodeAt p.graph node is → locals_of p.log ≡ Frame → held_names_before p t node ≢ [] → (a : Action) → is.action ≡ a →
        IsLogged p t node ⊎ (¬ (IsLogged p t node))
    by_target is at frame holds (Eval (e.ToLocal place local kind) value next) does = inl (record {
      local = local;
      assigns = record { is = is; at = at; place = place; kind = kind; assigned = value; next = next; action = does };
      frame = frame;
      holds = holds;
    })
    by_target is at frame holds (Eval (e.ToVariable place variable kind) value next) does = inr (λ l. (let z = same_action is at does l in cc))
    by_target is at frame holds (Eval (e.ToElement place variable kind index) value next) does = inr (λ l. (let z = same_action is at does l in cc))
    by_target is at frame holds (Store variable kind next) does = inr (λ l. (let z = same_action is at does l in cc))
    by_target is at frame holds (Test condition to other) does = inr (λ l. (let z = same_action is at does l in cc))
    by_target is at frame holds (Lock lock next) does = inr (λ l. (let z = same_action is at does l in cc))
    by_target is at frame holds (Unlock lock next) does = inr (λ l. (let z = same_action is at does l in cc))
    by_target is at frame holds End does = inr (λ l. (let z = same_action is at does l in cc))

    by_names : locals_of p.log ≡ Frame → (names : List LockName) → held_names_before p t node ≡ names → IsLogged p t node ⊎ (¬ (IsLogged p t node))
    by_names frame [] none = inr (λ l. l.holds none)
    by_names frame (x ∷ names) some = elim (get_cases p.graph.nodes node) [
      | inl none ↦ inr (λ l. none-some l.assigns.is (sym none ∙ l.assigns.at))
      | inr found ↦ by_target found.0 found.1 frame (λ none. (let z : [] ≡ x ∷ names = sym none ∙ some in cc)) found.0.action refl
    ]

    by_locals : (l : Locals) → locals_of p.log ≡ l → IsLogged p t node ⊎ (¬ (IsLogged p t node))
    by_locals Registers none = inr (λ l. registers_no_frame (locals_of p.log) none l.frame)
    by_locals Frame all = by_names all (held_names_before p t node) refl

    pub logged_or_not : IsLogged p t node ⊎ (¬ (IsLogged p t node))
    logged_or_not = by_locals (locals_of p.log) refl

    -- ---- What is counted on at a core

    module _ (logged : IsLogged p t node) where
      abbrev counts_beside : ℕ → Bool
      counts_beside local = is_live logged.assigns.next local && not (local == logged.local)

      -- the assignment leads to one node
      next_is : (next : ℕ) → IsEdge p.graph node next → next ≡ logged.assigns.next
      next_is next edge =
          let same : edge.is ≡ logged.assigns.is = same_Some edge.is logged.assigns.is (sym edge.at ∙ logged.assigns.at) in
          let there : Contains (logged.assigns.next ∷ []) next =
          subst (λ (a : Action). Contains (successors a) next) (ap (λ (n : Node). n.action) same ∙ logged.assigns.action) edge.goes in
          elim (contains_cases logged.assigns.next [] next there) [ inl is ↦ is | inr none ↦ absurd (contains_none next none) ]

      beside_decided : (local : ℕ) → (counts_beside local ≡ true) ↔ IsCountedOn p t node local
      beside_decided local = (there, back)
        where
          there : counts_beside local ≡ true → IsCountedOn p t node local
          there e =
              let both = and_parts (is_live logged.assigns.next local) (not (local == logged.local)) e in
              by_assignment local logged (record {
                next = logged.assigns.next;
                goes = record {
                  is = logged.assigns.is;
                  at = logged.assigns.at;
                  goes = subst (λ (a : Action). Contains (successors a) logged.assigns.next) (sym logged.assigns.action)
                      (contains_first logged.assigns.next []);
                };
                live = (live_decided logged.assigns.next local).0 both.0;
                other = λ same. true≢false (sym both.1 ∙ ap not (eq-eqb local logged.local same));
              })

          back : IsCountedOn p t node local → counts_beside local ≡ true
          back (by_entry _ none live) = absurd (none logged)
          back (by_assignment _ other beside) =
              let same : other.local ≡ logged.local = same_assigned node other.local logged.local other.assigns logged.assigns in
              let live : is_live logged.assigns.next local ≡ true =
              (live_decided logged.assigns.next local).1 (subst (λ (n : ℕ). IsLive p.graph local n) (next_is beside.next beside.goes) beside.live) in
              let apart : (local == logged.local) ≡ false = ne_eqb local logged.local (λ is. beside.other (is ∙ sym same)) in
              ap (λ (b : Bool). b && not (local == logged.local)) live ∙ ap not apart

    entry_decided : ¬ (IsLogged p t node) → (local : ℕ) → (is_live node local ≡ true) ↔ IsCountedOn p t node local
    entry_decided none local = (λ e. by_entry local none ((live_decided node local).0 e), back)
      where
        back : IsCountedOn p t node local → is_live node local ≡ true
        back (by_entry _ free live) = (live_decided node local).1 live
        back (by_assignment _ logged beside) = absurd (none logged)

-- ---- The laws

pub words_are_listed : WordsAreListed
words_are_listed p t node the_entry plan is = words_by p plan t is node the_entry (is_live p plan node) (live_decided p plan node) (locals_of p.log) refl
words_are_listed p t node the_core plan is = elim (logged_or_not p plan t node) [
  | inl logged ↦ words_by p plan t is node the_core (counts_beside p plan t node logged) (beside_decided p plan t node logged) (locals_of p.log) refl
  | inr none ↦ words_by p plan t is node the_core (is_live p plan node) (entry_decided p plan t node none) (locals_of p.log) refl
]

pub words_exist : WordsExist
words_exist p t node place word plan is counted =
    let has = has_word p plan t is counted.local word counted.home in
    record { frame = has.frame; exists = has.exists }

-- two locals of which each is live at the node or assigned there have words of their own
either_less : (a b : ℕ) → a ≢ b → (a < b) ⊎ (b < a)
either_less a b other = grind (arith, other)

module _ (p : Plan) (plan : IsPlan p) (t : Thread) (is : IsThread p t) (node : ℕ) (own : IsNodeOf t node) where
  spans_here : (local : ℕ) → IsLive p.graph local node ⊎ IsAssigned p.graph local node → Spans p.graph t.part local node
  spans_here local touched = record {
    low = node;
    high = node;
    from_low = omega arith;
    to_high = omega arith;
    at_low = record { from_first = own.from_first; below_end = own.below_end; is = touched };
    at_high = record { from_first = own.from_first; below_end = own.below_end; is = touched };
  }

  clash : (one other word : ℕ) → one < other → HasWord p plan t is one word → HasWord p plan t is other word →
      IsLive p.graph one node ⊎ IsAssigned p.graph one node → IsLive p.graph other node ⊎ IsAssigned p.graph other node → ⊥
  clash one other word less first second touched also = plan.apart node one other (record {
    thread = t.number;
    part = t.part;
    own = is.nodes;
    registers = is.colours;
    register = word;
    of_thread = is.of_colours;
    of_first = first.there;
    of_second = second.there;
    different = less;
    first = spans_here one touched;
    second = spans_here other also;
  })

  apart : (one other word : ℕ) → one ≢ other → HasWord p plan t is one word → HasWord p plan t is other word →
      IsLive p.graph one node ⊎ IsAssigned p.graph one node → IsLive p.graph other node ⊎ IsAssigned p.graph other node → ⊥
  apart one other word differ first second touched also = elim (either_less one other differ) [
    | inl less ↦ clash one other word less first second touched also
    | inr less ↦ clash other one word less second first also touched
  ]

  module _ (logged : IsLogged p t node) (word : ℕ) (home : home_of t.locals logged.local ≡ InFrame (frame_at p.log t.number word)) where
    assigned_here : (is : Node) → NodeAt p.graph node is → is.assigns ≡ Some logged.local
    assigned_here other at =
        let a = logged.assigns in
        ap (λ (n : Node). n.assigns) (same_Some other a.is (sym at ∙ a.at))
        ∙ assigned_is p plan node a.is a.at a.place logged.local a.kind a.assigned a.next a.action

    uncounted : (local : ℕ) → home_of t.locals local ≡ InFrame (frame_at p.log t.number word) → IsCountedOn p t node local → ⊥
    uncounted local there (by_entry _ none live) = none logged
    uncounted local there (by_assignment _ other beside) =
        let same : other.local ≡ logged.local = same_assigned p plan node other.local logged.local other.assigns logged.assigns in
        let differs : local ≢ logged.local = λ e. beside.other (e ∙ sym same) in
        let edge = beside.goes in
        let live : IsLive p.graph local node =
        is_read_later edge.is edge.at (λ e. differs (same_Some local logged.local (sym e ∙ assigned_here edge.is edge.at))) edge.goes beside.live in
        apart local logged.local word differs (has_word p plan t is local word there) (has_word p plan t is logged.local word home) (inl live)
        (inr (record { is = logged.assigns.is; at = logged.assigns.at; assigns = assigned_here logged.assigns.is logged.assigns.at }))

pub assigned_is_apart : AssignedIsApart
assigned_is_apart p t node word plan is own logged home counted = uncounted p plan t is node own logged word home counted.local counted.home counted.counted

-- What a thread's keys name along an attempt: the keys of what it reads and of what it has stored are held, and each that is held names one element.
use Rattle.std.proofs.Common.{◌≡◌, ◌<◌, ◌≤◌, refl, ℕ, zero, suc, List, [], ◌∷◌, ◌++◌, replicate, sym, ◌∙◌, ap, subst, arith, Option, Some, None}
use Rattle.std.proofs.Common.{true, false, ⊎_elim}
use Rattle.std.specs.Prelude.{slice_get, is_some, Contains, ℤ}
use Rattle.std.proofs.lemmas.List.Elements.{Contains-append_cases}
use Rattle.std.proofs.lemmas.Option.{same_Some}
use Rattle.ido_base.specs.declared.place.Place.{Place}
use Rattle.ido_base.specs.declared.location.Location.{Location}
use Rattle.c_tree.specs.Exprs as e
use Rattle.c_tree.specs.Programs.{Variable}
use Rattle.c_tree.specs.Flats as f
use Rattle.c_tree.specs.Source as m
use Rattle.c_tree.specs.Source.{Pending}
use Rattle.c_tree.specs.LockNames.{Held, holds, lock_names}
use Rattle.c_tree.specs.LockDiscipline.{Use, expr_uses, target_uses, is_guarded, AreGuarded}
use Rattle.source_machine.specs.Discipline.{HaveOneLock, KeepsLeft, ThreadKeeps}
use Rattle.source_machine.proofs.Public.{guarded_first, guarded_left, guarded_rest, guarded_right, leaves_names, run_keeps}
use Rattle.flow_graph.specs.HeldKeys.{names_by, names_in}
use Rattle.flow_graph.specs.Nodes.{Action, Eval, Store, Test, Lock, Unlock, End, Node}
use Rattle.flow_graph.specs.Lowering.{Table, elements, scalar, expr_reads, target_reads, lowered, table_of, threads_nodes}
use Rattle.flow_graph.specs.Liveness.{NodeAt}
use Rattle.flow_graph.specs.Actions.{Seen, GraphThread, FlowState, Effect, Makes, effect_of, seen_by}
use Rattle.flow_graph.specs.Lockstep.{Standing, free, IsOwnNode, threads_standings}
use Rattle.flow_graph.specs.Paths.{Element, reads_of, Naming, naming_of, AreApart, Lies}
use Rattle.flow_graph.proofs.Public.{ActionLeads, chooses, repeats, ShapedBy, after_is, contains_none, effects_same, good_after, held_keys_stay}
use Rattle.flow_graph.proofs.Public.{held_names_it, key_held, keys_apart, moved, nodes_at, own_shaped}
use Rattle.recovery_semantics.specs.Attempts.{solo}
use Rattle.recovery_semantics.specs.Configs.{attempt_of}
use Rattle.recovery_semantics.proofs.Public.{last_step, none_some}
use Rattle.region_attempts.specs.GraphStates.{flow_solo}
use Rattle.region_attempts.proofs.StepBisimulation.{action_uses, guarded_by, IsThere}
use Rattle.region_attempts.proofs.GraphConfigs.{GraphConfig}
use Rattle.region_attempts.proofs.GraphRuns.{inner_runs}
use Rattle.region_attempts.proofs.Nodes.{StoresHere, owes_at}
use Rattle.region_attempts.proofs.Region.{made_there, own, there_at}

-- ---- Keys of what is guarded

-- the location has the key, and the set is what guards the uses
module _ (vs : List Variable) (names : List e.LockName) (h : Held) (l : Location) (key : ℕ) (keyed : l.key ≡ Some key) where
  abbrev table : Table
  table = record { variables = vs; names = names }

  abbrev IsHeld : Type 0
  IsHeld = holds h key ≡ true

  element_held : (variable : ℕ) (place : Place) (index : e.Placed) → elements table variable index ≡ l →
      is_guarded vs names h (record { variable = variable; place = place; index = Some index }) ≡ true → IsHeld
  element_held variable place index same g = key_held vs names h variable place index key (ap (λ (z : Location). z.key) same ∙ keyed) g

  scalar_keyless : (variable : ℕ) → scalar variable ≡ l → ⊥
  scalar_keyless variable same = none_some key (ap (λ (z : Location). z.key) same ∙ keyed)

  of_either : (ls ms : List Location) → (Contains ls l → IsHeld) → (Contains ms l → IsHeld) → Contains (ls ++ ms) l → IsHeld
  of_either ls ms left right c = ⊎_elim left right (Contains-append_cases ls ms l c)

  of_first : (first : Location) (rest : List Location) → (first ≡ l → IsHeld) → (Contains rest l → IsHeld) → Contains (first ∷ rest) l → IsHeld
  of_first first rest here more (zero, low, is) = here is
  of_first first rest here more (suc k, low, is) = more (k, omega arith, is)

  expr_key : (x : e.Expr) → AreGuarded vs names h (expr_uses x) → Contains (expr_reads table x) l → IsHeld
  expr_key (e.Constant value) g c = absurd (contains_none l c)
  expr_key (e.Local local kind) g c = absurd (contains_none l c)
  expr_key (e.Variable place v kind) g c =
      of_first (scalar v) [] (λ same. absurd (scalar_keyless v same)) (λ d. absurd (contains_none l d)) c
  expr_key (e.Element place v kind index_place index) g c =
      let placed : e.Placed = record { place = index_place; expr = index } in
      let u : Use = record { variable = v; place = place; index = Some placed } in
      of_first (elements table v placed) (expr_reads table index)
      (λ same. element_held v place placed same (guarded_first vs names h u (expr_uses index) g))
      (λ d. expr_key index (guarded_rest vs names h u (expr_uses index) g) d) c
  expr_key (e.Address v index_place index) g c = expr_key index g c
  expr_key (e.Referent place last local) g c = absurd (contains_none l c)
  expr_key (e.Unary operator operand) g c = expr_key operand g c
  expr_key (e.Cast kind operand) g c = expr_key operand g c
  expr_key (e.Converted kind operand) g c = expr_key operand g c
  expr_key (e.Binary operator left right) g c =
      of_either (expr_reads table left) (expr_reads table right)
      (λ d. expr_key left (guarded_left vs names h (expr_uses left) (expr_uses right) g) d)
      (λ d. expr_key right (guarded_right vs names h (expr_uses left) (expr_uses right) g) d) c
  expr_key (e.Conditional kind condition chosen otherwise) g c =
      let first = guarded_left vs names h (expr_uses condition ++ expr_uses chosen) (expr_uses otherwise) g in
      of_either (expr_reads table condition ++ expr_reads table chosen) (expr_reads table otherwise)
      (of_either (expr_reads table condition) (expr_reads table chosen)
      (λ d. expr_key condition (guarded_left vs names h (expr_uses condition) (expr_uses chosen) first) d)
      (λ d. expr_key chosen (guarded_right vs names h (expr_uses condition) (expr_uses chosen) first) d))
      (λ d. expr_key otherwise (guarded_right vs names h (expr_uses condition ++ expr_uses chosen) (expr_uses otherwise) g) d) c

  target_key : (target : e.Lvalue) → AreGuarded vs names h (target_uses target) → Contains (target_reads table target) l → IsHeld
  target_key (e.ToLocal place local kind) g c = absurd (contains_none l c)
  target_key (e.ToVariable place v kind) g c = absurd (contains_none l c)
  target_key (e.ToElement place v kind index) g c = expr_key index.expr (guarded_rest vs names h _ (expr_uses index.expr) g) c

  -- at a node that reads something, the keys of its locations are held
  read_key : (all : List Node) (node : Node) (a : Action) (seen : Seen) (one : Element) → AreGuarded vs names h (action_uses a) →
      ShapedBy table all node a → Contains (reads_of a seen) one → Contains node.reads l → IsHeld
  read_key all node (Eval target value next) seen one g shape c d =
      of_either (target_reads table target) (expr_reads table value.expr)
      (λ i. target_key target (guarded_right vs names h (expr_uses value.expr) (target_uses target) g) i)
      (λ i. expr_key value.expr (guarded_left vs names h (expr_uses value.expr) (target_uses target) g) i)
      (subst (λ (ls : List Location). Contains ls l) shape.reads d)
  read_key all node (Store variable kind next) seen one g shape c d = absurd (contains_none one c)
  read_key all node (Test condition holds fails) seen one g shape c d =
      expr_key condition.expr g (subst (λ (ls : List Location). Contains ls l) shape.reads d)
  read_key all node (Lock lock next) seen one g shape c d = absurd (contains_none one c)
  read_key all node (Unlock lock next) seen one g shape c d = absurd (contains_none one c)
  read_key all node End seen one g shape c d = absurd (contains_none one c)

  -- ---- The store that an evaluation leaves pending

  module _ (all : List Node) (w : GraphThread) where
    -- after the effect, where a store is pending, the key of the location that is written next is held
    abbrev Owing : Effect → Type 0
    Owing effect = (q : Pending) (after : Node) → (moved w effect).pending ≡ Some q → slice_get all (moved w effect).at ≡ Some after →
        after.writes ≡ Some l → IsHeld

    not_owing : (q : Pending) (s : Standing) (rest : List f.Statement) → (s.owes ≡ false → w.pending ≡ None) → s ≡ free rest → w.pending ≡ Some q → ⊥
    not_owing q s rest idle is h = none_some q (sym (idle (ap (λ (z : Standing). z.owes) is)) ∙ h)

    -- one node writes one location
    one_location : (next : ℕ) (location : Location) (node after : Node) → slice_get all next ≡ Some node → node.writes ≡ Some location →
        slice_get all next ≡ Some after → after.writes ≡ Some l → location ≡ l
    one_location next location node after at writes at_too writes_too =
        same_Some location l (sym writes ∙ (ap (λ (z : Node). z.writes) (same_Some node after (sym at ∙ at_too)) ∙ writes_too))

    makes_key : (next : ℕ) (effect : Effect) (o : Option Pending) →
        (let step : Option Effect = elim o [ Some store ↦ Some (Makes store next) | None ↦ None ] in step ≡ Some effect) → Owing effect
    makes_key next effect None h = cc
    makes_key next effect (Some store) h = subst Owing (sym (effects_same (Makes store next) effect h)) (λ q after p at writes. cc)

    owed_key : (standings : List Standing) (s : Standing) (node : Node) (a : Action) (seen : Seen) (effect : Effect) → ActionLeads standings a s →
        (s.owes ≡ false → w.pending ≡ None) → AreGuarded vs names h (action_uses a) → ShapedBy table all node a → effect_of a seen ≡ Some effect → Owing effect
    owed_key standings s node (Eval (e.ToLocal place local kind) value next) seen effect d idle g shape is =
        subst Owing (sym (effects_same _ effect is)) (λ q after p at writes. absurd (not_owing q s _ idle d.is p))
    owed_key standings s node (Eval (e.ToVariable place v kind) value next) seen effect d idle g shape is =
        subst Owing (sym (effects_same _ effect is)) (λ q after p at writes.
        absurd (scalar_keyless v (one_location next (scalar v) shape.owed.node after shape.owed.at shape.owed.writes at writes)))
    owed_key standings s node (Eval (e.ToElement place v kind index) value next) seen effect d idle g shape is =
        subst Owing (sym (effects_same _ effect is)) (λ q after p at writes.
        let same = one_location next (elements table v index) shape.owed.node after shape.owed.at shape.owed.writes at writes in
        element_held v place index same (guarded_first vs names h (record { variable = v; place = place; index = Some index }) (expr_uses index.expr)
        (guarded_right vs names h (expr_uses value.expr) (target_uses (e.ToElement place v kind index)) g)))
    owed_key standings s node (Store variable kind next) seen effect d idle g shape is = makes_key next effect seen.pending is
    owed_key standings s node (Test condition holds fails) seen effect d idle g shape is =
        subst Owing (sym (effects_same _ effect is)) (λ q after p at writes. elim d [
          | chooses place body arms otherwise rest is' a b ↦ absurd (not_owing q s _ idle is' p)
          | repeats place body rest is' a b ↦ absurd (not_owing q s _ idle is' p)
        ])
    owed_key standings s node (Lock lock next) seen effect d idle g shape is =
        subst Owing (sym (effects_same _ effect is)) (λ q after p at writes. absurd (not_owing q s _ idle d.is p))
    owed_key standings s node (Unlock lock next) seen effect d idle g shape is =
        subst Owing (sym (effects_same _ effect is)) (λ q after p at writes. absurd (not_owing q s _ idle d.is p))
    owed_key standings s node End seen effect d idle g shape is =
        subst Owing (sym (effects_same _ effect is)) (λ q after p at writes. absurd (not_owing q s _ idle d p))

-- ---- Along an attempt

-- the thread's text in the form, and what its keys name where the attempts begin
module _ (x : f.Flat) (c : GraphConfig x) (t : ℕ) (thread : m.Thread) (there : slice_get c.config.kept.threads t ≡ Some thread) where
  abbrev pub keeps : ThreadKeeps x t c.config.kept.holders thread
  keeps = c.invariant.keeps.each t thread there

  abbrev names : List e.LockName
  names = lock_names x keeps.text

  abbrev set : Held
  set = keeps.set

  abbrev longest : ℕ
  longest = (attempt_of c.config t).longest

  -- by those that it holds
  abbrev pub naming : Naming
  naming = names_by x.variables names set thread.locals

  pub naming_apart : AreApart naming
  naming_apart = keys_apart x.variables names set thread.locals keeps.held.apart

  same_thread : (own_thread : m.Thread) → slice_get c.config.kept.threads t ≡ Some own_thread → thread ≡ own_thread
  same_thread own_thread found = let h = there in cc

  -- what is left keeps the discipline from one set, whose names have one lock each
  kept_along : (k : ℕ) → k ≤ longest → (now : m.Thread) → slice_get (solo c.config.kept t k).threads t ≡ Some now →
      KeepsLeft x names set now.left × HaveOneLock names set thread.locals now.locals
  kept_along zero l now found =
      let P : m.Thread → Type 0 = λ z. KeepsLeft x names set z.left × HaveOneLock names set thread.locals z.locals in
      subst P (same_thread now found) (keeps.left, λ k y g held. refl)
  kept_along (suc k) l now found =
      let low : k < longest = omega (arith, l) in
      let th = there_at x c t k low in
      let tried = c.invariant.tried t in
      let step = tried.inner k low in
      let last = last_step c.config.kept t k (inner_runs (suc k) longest c.config.kept t tried.inner l) in
      let before = kept_along k (omega (arith, l)) th.thread th.there in
      let after = leaves_names x (solo c.config.kept t k) last.next t keeps.text th.thread now set
      (run_keeps x c.config.kept (replicate k t) c.invariant.keeps) last.is step.locks_none step.unlocks_none keeps.its th.there
      (ap (λ (z : m.State). slice_get z.threads t) (sym last.after) ∙ found) before.0 in
      (after.0, λ n y g held. after.1 n y g held ∙ before.1 n y g held)

  -- the thread, after so many steps at a node
  module _ (k : ℕ) (l : k ≤ longest) (graph_thread : GraphThread) (node : Node) (th : IsThere x (solo c.config.kept t k) t graph_thread node) where
    -- a held key names there what it names where the attempts begin
    pub named_along : (one : Element) (key : ℕ) → holds set key ≡ true → naming_of x keeps.text graph_thread.locals one.variable key ≡ Some one.element →
        naming one.variable key ≡ Some one.element
    named_along one key held h =
        let along = (kept_along k l th.thread th.there).1 in
        let by_source : names_in x.variables names th.thread.locals one.variable key ≡ Some one.element =
        ap (λ (ls : List ℤ). names_in x.variables names ls one.variable key) (sym th.match.locals) ∙ h in
        sym (held_keys_stay x.variables names set th.thread.locals thread.locals one.variable key along)
        ∙ (held_names_it x.variables names set th.thread.locals one.variable key held ∙ by_source)

    pub lies_along : (location : Location) (one : Element) → ((key : ℕ) → location.key ≡ Some key → holds set key ≡ true) →
        Lies (naming_of x keeps.text graph_thread.locals) location one → Lies naming location one
    lies_along location one held h = record { within = h.within; by_key = λ key is. named_along one key (held key is) (h.by_key key is) }

    guarded_along : AreGuarded x.variables names set (action_uses node.action)
    guarded_along = guarded_by x names (threads_standings x.threads) set _ node.action th.thread.left (is_some th.thread.pending) th.does
        (kept_along k l th.thread th.there).0

    module _ (own_node : IsOwnNode x t graph_thread.at) (at : NodeAt (lowered x) graph_thread.at node) where
      shape : ShapedBy (table_of x keeps.text) (threads_nodes x x.threads 0) node node.action
      shape = own_shaped x t graph_thread.at keeps.text node keeps.its own_node (nodes_at x graph_thread.at node at)

      -- the keys of what it reads are held
      pub read_keys_held : (seen : Seen) (one : Element) → Contains (reads_of node.action seen) one → (location : Location) → Contains node.reads location →
          (key : ℕ) → location.key ≡ Some key → holds set key ≡ true
      read_keys_held seen one reads location of key keyed =
          read_key x.variables names set location key keyed (threads_nodes x x.threads 0) node node.action seen one guarded_along shape reads of

  -- after a step the key of the location that it stores to is held
  pub store_key_held : (k : ℕ) (l : k < longest) → 0 < k → StoresHere (made_there x c t k l).node.action → (location : Location) →
      (made_there x c t k l).node.writes ≡ Some location → (key : ℕ) → location.key ≡ Some key → holds set key ≡ true
  store_key_held zero l low stores location writes key keyed = absurd (omega (arith, low))
  store_key_held (suc k) l low stores location writes key keyed =
      let below : k < longest = omega (arith, l) in
      let a = made_there x c t k below in
      let d = made_there x c t (suc k) l in
      let th = there_at x c t k below in
      let later = there_at x c t (suc k) l in
      let good = good_after x (replicate k t) c.formed c.flow c.good in
      let found : slice_get (own x c t k below).next.graph_threads t ≡ Some d.graph_thread =
      ap (λ (s : FlowState). slice_get s.graph_threads t) (sym (own x c t k below).after) ∙ d.found in
      let is = after_is (lowered x) (flow_solo x c.flow t k) (own x c t k below).next t a d.graph_thread found in
      let owed = owes_at (threads_standings x.threads) d.node.action later.thread.left later.thread.pending stores later.does in
      let pending : d.graph_thread.pending ≡ Some owed.0 = later.match.pending ∙ owed.1 in
      owed_key x.variables names set location key keyed (threads_nodes x x.threads 0) a.graph_thread (threads_standings x.threads)
      (record { left = th.thread.left; owes = is_some th.thread.pending }) a.node a.node.action (seen_by (flow_solo x c.flow t k) a.graph_thread) a.effect
      th.does (λ idle. th.match.pending ∙ none_of th.thread.pending idle)
      (guarded_along k (omega (arith, below)) a.graph_thread a.node th)
      (shape k (omega (arith, below)) a.graph_thread a.node th (good.own t a.graph_thread a.found) a.at) a.does
      owed.0 d.node (ap (λ (z : GraphThread). z.pending) (sym is) ∙ pending)
      (ap (λ (z : GraphThread). slice_get (threads_nodes x x.threads 0) z.at) (sym is) ∙ nodes_at x d.graph_thread.at d.node d.at) writes
    where
      none_of : (o : Option Pending) → is_some o ≡ false → o ≡ None
      none_of None h = refl
      none_of (Some q) h = cc

-- A local that what is left of a thread assigns before it reads it isn't live where the thread stands.
use Rattle.std.proofs.Common.{◌≡◌, ◌≢◌, ◌⊎◌, refl, sym, ◌∙◌, ap, subst, ℕ, zero, suc, ◌+◌, List, [], ◌∷◌, ◌++◌}
use Rattle.std.proofs.Common.{Bool, true, false, eqb, Option, Some, None, inl, inr, ⊎_elim, append_assoc, append-nil}
use Rattle.std.specs.Prelude.{slice_get, Contains}
use Rattle.std.specs.List.{AllByRecursion}
use Rattle.std.specs.Option.{option_map}
use Rattle.std.proofs.lemmas.Bool.{true≢false, eqb-true, eq-eqb}
use Rattle.std.proofs.lemmas.List.Elements.{Contains-append_cases, Contains-push_cases}
use Rattle.std.proofs.lemmas.Option.{none-some, same_Some, slice_get-map}
use Rattle.c_tree.specs.Exprs as e
use Rattle.c_tree.specs.Flats as f
use Rattle.c_tree.specs.LockDiscipline.{expr_locals, key_locals}
use Rattle.c_tree.specs.Source as m
use Rattle.c_tree.specs.Source.{opened, opened_all}
use Rattle.c_tree.specs.WellFormed.{IsWellFormed}
use Rattle.flow_graph.specs.declared.graph.Part.{Part}
use Rattle.flow_graph.specs.Actions.{graph_thread_start}
use Rattle.flow_graph.specs.Liveness.{IsLive, AreAssignedFirst, NodeAt, is_read, is_read_later}
use Rattle.flow_graph.specs.Lockstep.{Standing, free, threads_standings}
use Rattle.flow_graph.specs.Lowering.{lowered, parts, thread_count, threads_nodes, target_local, target_locals}
use Rattle.flow_graph.specs.Nodes.{Action, Eval, Store, Test, Lock, Unlock, End, Node, successors}
use Rattle.flow_graph.proofs.Public.{ActionLeads, AreThreads, At, all_at, begins_lockstep, chooses, contains_none, lowered_threads, node_at, nodes_at, repeats}
use Rattle.first_assignments.proofs.FirstReads.{ReadsNone, TargetReadsNone, KeyReadsNone, Takes, FlatAssigns, FlatReadsLater, FlatReadLater, LeftReadsLater}
use Rattle.first_assignments.proofs.NodeNames.{IsNamed, reads_of, takes_of, named_threads}

only : (y x : ℕ) → Contains (y ∷ []) x → y ≡ x
only y x c = ⊎_elim (λ none. absurd (contains_none x none)) (λ is. is) (Contains-push_cases [] y x c)

module _ (told : ℕ → Bool) (local : ℕ) (own : told local ≡ true) where
  -- ---- What is read

  unread_here : (y : ℕ) → told y ≡ false → Contains (y ∷ []) local → ⊥
  unread_here y h c = true≢false (sym own ∙ ap told (sym (only y local c)) ∙ h)

  unread_both : (xs ys : List ℕ) → (Contains xs local → ⊥) → (Contains ys local → ⊥) → Contains (xs ++ ys) local → ⊥
  unread_both xs ys h k c = ⊎_elim h k (Contains-append_cases xs ys local c)

  unread : (x : e.Expr) → ReadsNone told x → Contains (expr_locals x) local → ⊥
  unread (e.Constant value) h c = contains_none local c
  unread (e.Local other kind) h c = unread_here other h c
  unread (e.Variable place variable kind) h c = contains_none local c
  unread (e.Element place variable kind index_place index) h c = unread index h c
  unread (e.Address variable index_place index) h c = unread index h c
  unread (e.Referent place last other) h c = unread_here other h c
  unread (e.Unary operator operand) h c = unread operand h c
  unread (e.Cast kind operand) h c = unread operand h c
  unread (e.Converted kind operand) h c = unread operand h c
  unread (e.Binary operator left right) h c = unread_both (expr_locals left) (expr_locals right) (unread left h.0) (unread right h.1) c
  unread (e.Conditional kind condition chosen otherwise) h c =
      unread_both (expr_locals condition ++ expr_locals chosen) (expr_locals otherwise)
      (unread_both (expr_locals condition) (expr_locals chosen) (unread condition h.0) (unread chosen h.1)) (unread otherwise h.2) c

  unread_target : (x : e.Lvalue) → TargetReadsNone told x → Contains (target_locals x) local → ⊥
  unread_target (e.ToLocal place other kind) h c = contains_none local c
  unread_target (e.ToVariable place variable kind) h c = contains_none local c
  unread_target (e.ToElement place variable kind index) h c = unread index.expr h c

  unread_key : (mutex : ℕ) (key : Option e.Placed) → KeyReadsNone told key → Contains (key_locals (record { mutex = mutex; key = key })) local → ⊥
  unread_key mutex None h c = contains_none local c
  unread_key mutex (Some key) h c = unread key.expr h c

-- ---- What is left

module _ (told : ℕ → Bool) where
  mutual
    opened_later : (x : f.Statement) (rest : List f.Statement) → FlatReadsLater told x → FlatAssigns told x ⊎ LeftReadsLater told rest →
        LeftReadsLater told (opened x ++ rest)
    opened_later (f.Assign place target value) rest h k = (h, k)
    opened_later (f.If place arms otherwise) rest h k = (h, k)
    opened_later (f.While place condition body) rest h k = (h, k)
    opened_later (f.Do place body condition) rest h k =
        let again : f.Statement = f.While place condition body in
        subst (LeftReadsLater told) (sym (append_assoc (opened_all body) (again ∷ []) rest))
        (opened_all_later body (again ∷ rest) h.0 ((h.1, h.0), k))
    opened_later (f.Lock place lock) rest h k = (h, k)
    opened_later (f.Unlock place lock) rest h k = (h, k)

    opened_all_later : (xs : f.Statements) (rest : List f.Statement) → FlatReadLater told xs → LeftReadsLater told rest →
        LeftReadsLater told (opened_all xs ++ rest)
    opened_all_later f.no_statement rest h k = k
    opened_all_later (f.statement_and x xs) rest h k =
        subst (LeftReadsLater told) (sym (append_assoc (opened x) (opened_all xs) rest))
        (opened_later x (opened_all xs ++ rest) h.0 (⊎_elim (λ a. inl a) (λ r. inr (opened_all_later xs rest r k)) h.1))

  begun_later : (xs : f.Statements) → FlatReadLater told xs → LeftReadsLater told (opened_all xs)
  begun_later xs h = subst (LeftReadsLater told) (append-nil (opened_all xs)) (opened_all_later xs [] h tt)

-- ---- Along paths

module _ (x : f.Flat) (formed : AreThreads x x.threads) (told : ℕ → Bool) (local : ℕ) (own : told local ≡ true)
    (one : (other : ℕ) → told other ≡ true → other ≡ local) where
  abbrev all : List Standing
  all = threads_standings x.threads

  -- where the node stands, the local is assigned before it is read
  record Stands (node : ℕ) : Type 0 where
    standing : Standing
    at : At all node standing
    later : LeftReadsLater told standing.left

  stands : (node : ℕ) (standing : Standing) → At all node standing → LeftReadsLater told standing.left → Stands node
  stands node standing at later = record { standing = standing; at = at; later = later }

  left_is : (s : Standing) (left : List f.Statement) → s ≡ free left → LeftReadsLater told s.left → LeftReadsLater told left
  left_is s left h later = subst (LeftReadsLater told) (ap (λ (z : Standing). z.left) h) later

  unused : (a : Action) (s : Standing) → ActionLeads all a s → LeftReadsLater told s.left → Contains (reads_of a) local → ⊥
  unused (Eval target value next) s d later c =
      let here = left_is s (f.Assign d.place target value ∷ d.rest) d.is later in
      unread_both told local own (target_locals target) (expr_locals value.expr) (unread_target told local own target here.0.0)
      (unread told local own value.expr here.0.1) c
  unused (Store variable kind next) s d later c = contains_none local c
  unused (Test condition holds fails) s (chooses place body arms otherwise rest is h k) later c =
      let here = left_is s (f.If place (f.arm_and condition body arms) otherwise ∷ rest) is later in
      unread told local own condition.expr here.0.0.0 c
  unused (Test condition holds fails) s (repeats place body rest is h k) later c =
      let here = left_is s (f.While place condition body ∷ rest) is later in
      unread told local own condition.expr here.0.0 c
  unused (Lock lock next) s d later c =
      let here = left_is s (f.Lock d.place lock ∷ d.rest) d.is later in
      unread_key told local own lock.mutex lock.key here.0 c
  unused (Unlock lock next) s d later c =
      let here = left_is s (f.Unlock d.place lock ∷ d.rest) d.is later in
      unread_key told local own lock.mutex lock.key here.0 c
  unused End s d later c = contains_none local c

  -- one that assigns nothing else leaves the rest
  untaken : (target : e.Lvalue) → (target_local target ≡ Some local → ⊥) → Takes told target → ⊥
  untaken (e.ToLocal place other kind) h k = h (ap (λ (z : ℕ). Some z) (one other k))
  untaken (e.ToVariable place variable kind) h k = k
  untaken (e.ToElement place variable kind index) h k = k

  after_eval : (target : e.Lvalue) (value : e.Placed) (next : ℕ) (s : Standing) → ActionLeads all (Eval target value next) s →
      LeftReadsLater told s.left → (target_local target ≡ Some local → ⊥) → Stands next
  after_eval (e.ToLocal place other kind) value next s d later free_of =
      let target = e.ToLocal place other kind in
      let here = left_is s (f.Assign d.place target value ∷ d.rest) d.is later in
      stands next (free d.rest) d.follows (⊎_elim (λ a. absurd (untaken target free_of a)) (λ r. r) here.1)
  after_eval (e.ToVariable place variable kind) value next s d later free_of =
      let here = left_is s (f.Assign d.place (e.ToVariable place variable kind) value ∷ d.rest) d.is later in
      stands next _ d.follows (⊎_elim (λ a. absurd a) (λ r. r) here.1)
  after_eval (e.ToElement place variable kind index) value next s d later free_of =
      let here = left_is s (f.Assign d.place (e.ToElement place variable kind index) value ∷ d.rest) d.is later in
      stands next _ d.follows (⊎_elim (λ a. absurd a) (λ r. r) here.1)

  goes_to : (next node : ℕ) → Contains (next ∷ []) node → Stands next → Stands node
  goes_to next node c h = subst (λ (z : ℕ). Stands z) (only next node c) h

  two : (holds fails node : ℕ) → Contains (holds ∷ fails ∷ []) node → Stands holds → Stands fails → Stands node
  two holds fails node c h k =
      ⊎_elim (λ a. goes_to holds node a h) (λ a. goes_to fails node a k) (Contains-append_cases (holds ∷ []) (fails ∷ []) node c)

  goes_on : (a : Action) (s : Standing) → ActionLeads all a s → LeftReadsLater told s.left → (takes_of a ≡ Some local → ⊥) → (node : ℕ) →
      Contains (successors a) node → Stands node
  goes_on (Eval target value next) s d later free_of node c = goes_to next node c (after_eval target value next s d later free_of)
  goes_on (Store variable kind next) s d later free_of node c =
      goes_to next node c (stands next (free d.rest) d.follows (subst (LeftReadsLater told) (ap (λ (z : Standing). z.left) d.is) later))
  goes_on (Test condition holds fails) s (chooses place body f.no_arm otherwise rest is h k) later free_of node c =
      let here = left_is s (f.If place (f.arm_and condition body f.no_arm) otherwise ∷ rest) is later in
      let last : LeftReadsLater told rest = ⊎_elim (λ a. absurd a) (λ r. r) here.1 in
      two holds fails node c
      (stands holds (free (opened_all body ++ rest)) h (opened_all_later told body rest here.0.0.1 last))
      (stands fails (free (opened_all otherwise ++ rest)) k (opened_all_later told otherwise rest here.0.1 last))
  goes_on (Test condition holds fails) s (chooses place body (f.arm_and other inner more) otherwise rest is h k) later free_of node c =
      let here = left_is s (f.If place (f.arm_and condition body (f.arm_and other inner more)) otherwise ∷ rest) is later in
      let last : LeftReadsLater told rest = ⊎_elim (λ a. absurd a) (λ r. r) here.1 in
      two holds fails node c
      (stands holds (free (opened_all body ++ rest)) h (opened_all_later told body rest here.0.0.1 last))
      (stands fails (free (f.If place (f.arm_and other inner more) otherwise ∷ rest)) k ((here.0.0.2, here.0.1), inr last))
  goes_on (Test condition holds fails) s (repeats place body rest is h k) later free_of node c =
      let here = left_is s (f.While place condition body ∷ rest) is later in
      let last : LeftReadsLater told rest = ⊎_elim (λ a. absurd a) (λ r. r) here.1 in
      two holds fails node c
      (stands holds (free (opened_all body ++ (f.While place condition body ∷ rest))) h
      (opened_all_later told body (f.While place condition body ∷ rest) here.0.1 here))
      (stands fails (free rest) k last)
  goes_on (Lock lock next) s d later free_of node c =
      let here = left_is s (f.Lock d.place lock ∷ d.rest) d.is later in
      goes_to next node c (stands next (free d.rest) d.follows (⊎_elim (λ a. absurd a) (λ r. r) here.1))
  goes_on (Unlock lock next) s d later free_of node c =
      let here = left_is s (f.Unlock d.place lock ∷ d.rest) d.is later in
      goes_to next node c (stands next (free d.rest) d.follows (⊎_elim (λ a. absurd a) (λ r. r) here.1))
  goes_on End s d later free_of node c = absurd (contains_none node c)

  -- the node that is there does what stands there, and names what it does
  record Does (node : ℕ) (y : Node) (s : Standing) : Type 0 where
    leads : ActionLeads all y.action s
    named : IsNamed y

  does : (node : ℕ) (y : Node) (s : Standing) → NodeAt (lowered x) node y → At all node s → Does node y s
  does node y s at stand =
      let nodes = threads_nodes x x.threads 0 in
      let here = nodes_at x node y at in
      let found = node_at x node s formed stand in
      let same : found.0 ≡ y = same_Some found.0 y (sym found.1 ∙ here) in record {
        leads = subst (λ (z : Node). ActionLeads all z.action s) same found.2;
        named = all_at IsNamed nodes node y (named_threads x x.threads 0) here;
      }

  never_live : (node : ℕ) → Stands node → IsLive (lowered x) local node → ⊥
  never_live node h (is_read y at uses) =
      let d = does node y h.standing at h.at in
      unused y.action h.standing d.leads h.later (subst (λ (ls : List ℕ). Contains ls local) d.named.uses uses)
  never_live node h (is_read_later {m = next} y at other goes live) =
      let d = does node y h.standing at h.at in
      never_live next (goes_on y.action h.standing d.leads h.later (λ takes. other (d.named.assigns ∙ takes)) next goes) live

-- ---- Threads

part_thread : (ts : List f.Thread) (first thread : ℕ) (own : Part) → slice_get (parts ts first) thread ≡ Some own →
    (t : f.Thread) × (slice_get ts thread ≡ Some t)
part_thread [] first thread own h = absurd (none-some own h)
part_thread (t ∷ ts) first zero own h = (t, refl)
part_thread (t ∷ ts) first (suc thread) own h = part_thread ts (first + thread_count t) thread own h

-- what is left where a thread begins is its whole body
begins_at : (x : f.Flat) → IsWellFormed x → (thread : ℕ) (own : Part) (t : f.Thread) → slice_get (lowered x).threads thread ≡ Some own →
    slice_get x.threads thread ≡ Some t → At (threads_standings x.threads) own.first (free (opened_all t.body))
begins_at x formed thread own t h k =
    let here = slice_get-map graph_thread_start (lowered x).threads thread ∙ ap (option_map graph_thread_start) h in
    let there = slice_get-map m.thread_start x.threads thread ∙ ap (option_map m.thread_start) k in
    ((begins_lockstep x formed).each thread (graph_thread_start own) (m.thread_start t) here there).stands

-- the one local
abbrev pub alone : (local : ℕ) → (other : ℕ) → Bool
alone local other = eqb other local

pub assigned_first : (x : f.Flat) → IsWellFormed x →
    ((told : ℕ → Bool) → AllByRecursion (λ (t : f.Thread). FlatReadLater told t.body) x.threads) → AreAssignedFirst (lowered x)
assigned_first x formed later = λ thread own h local live.
    let told = alone local in
    let there = part_thread x.threads 0 thread own (ap (λ (ps : List Part). slice_get ps thread) (sym (lowered_threads x)) ∙ h) in
    let t = there.0 in
    let body = all_at (λ (z : f.Thread). FlatReadLater told z.body) x.threads thread t (later told) there.1 in
    never_live x formed.threads told local (eq-eqb local local refl) (λ other k. eqb-true other local k) own.first
    (stands x formed.threads told local (eq-eqb local local refl) (λ other k. eqb-true other local k) own.first
    (free (opened_all t.body)) (begins_at x formed thread own t h there.1) (begun_later told t.body body)) live

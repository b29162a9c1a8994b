-- What is left to do at each node of a well formed flat form's graph is what the node does, and then what is left after it.
use Rattle.std.proofs.Common.{◌≡◌, ◌<◌, refl, ℕ, zero, suc, ◌+◌, List, [], ◌∷◌, ◌++◌, length, sym, ◌∙◌}
use Rattle.std.proofs.Common.{ap, ap₂, subst, arith, Some, append_assoc, append-nil, length-append}
use Rattle.std.specs.Prelude.{slice_get}
use Rattle.std.specs.List.{AllZip, AllByRecursion}
use Rattle.ido_base.specs.declared.place.Place.{Place}
use Rattle.ido_ints.specs.declared.kinds.Kind.{Kind}
use Rattle.c_tree.specs.Exprs as e
use Rattle.c_tree.specs.Flats as f
use Rattle.c_tree.specs.Source.{opened, opened_all}
use Rattle.c_tree.specs.WellFormed.{HasArm, IsFlatStatement, AreFlatStatements, AreFlatArms}
use Rattle.flow_graph.specs.declared.graph.Part.{Part}
use Rattle.flow_graph.specs.Nodes.{Action, Eval, Store, Test, Lock, Unlock, End, Node}
use Rattle.flow_graph.specs.Lowering.{Table, table_of, assign_nodes, assign_count, count, statements_count, arms_count, thread_count, entry}
use Rattle.flow_graph.specs.Lowering.{statement_nodes, statements_nodes, arms_nodes, thread_nodes, threads_nodes, part, parts}
use Rattle.flow_graph.specs.Lockstep.{Standing, free, owing, assign_standings, standings, all_standings, arms_standings, thread_standings, threads_standings}

-- ---- Lists

get_prefix : {X : Type 0} (xs ys : List X) (k : ℕ) (x : X) → slice_get xs k ≡ Some x → slice_get (xs ++ ys) k ≡ Some x
get_prefix [] ys k x h = cc
get_prefix (y ∷ xs) ys zero x h = h
get_prefix (y ∷ xs) ys (suc k) x h = get_prefix xs ys k x h

get_suffix : {X : Type 0} (xs ys : List X) (k : ℕ) (x : X) → slice_get ys k ≡ Some x → slice_get (xs ++ ys) (length xs + k) ≡ Some x
get_suffix [] ys k x h = let e : 0 + k ≡ k = omega arith in ap (slice_get ys) e ∙ h
get_suffix (y ∷ xs) ys k x h =
    let e : suc (length xs) + k ≡ suc (length xs + k) = omega arith in
    ap (slice_get (y ∷ (xs ++ ys))) e ∙ get_suffix xs ys k x h

-- ---- At nodes

abbrev pub At : List Standing → (node : ℕ) → Standing → Type 0
At all node s = slice_get all node ≡ Some s

at_same : (all : List Standing) (n m : ℕ) (s : Standing) → n ≡ m → At all n s → At all m s
at_same all n m s h a = ap (slice_get all) (sym h) ∙ a

at_as : (all : List Standing) (n : ℕ) (l m : List f.Statement) → l ≡ m → At all n (free l) → At all n (free m)
at_as all n l m h a = a ∙ ap (λ (k : List f.Statement). Some (free k)) h

-- the list stands in the other, from that place on
record Has (all : List Standing) (first : ℕ) (xs : List Standing) : Type 0 where
  each : (k : ℕ) (s : Standing) → slice_get xs k ≡ Some s → At all (first + k) s

has_prefix : (all : List Standing) (first : ℕ) (xs ys : List Standing) → Has all first (xs ++ ys) → Has all first xs
has_prefix all first xs ys h = record { each = λ k s g. h.each k s (get_prefix xs ys k s g) }

has_suffix : (all : List Standing) (first n : ℕ) (xs ys : List Standing) → length xs ≡ n → Has all first (xs ++ ys) → Has all (first + n) ys
has_suffix all first n xs ys e h = record {
  each = λ k s g. at_same all (first + (length xs + k)) (first + n + k) s (omega (arith, e)) (h.each (length xs + k) s (get_suffix xs ys k s g));
}

has_tail : (all : List Standing) (first : ℕ) (x : Standing) (xs : List Standing) → Has all first (x ∷ xs) → Has all (suc first) xs
has_tail all first x xs h = record { each = λ k s g. at_same all (first + suc k) (suc first + k) s (omega arith) (h.each (suc k) s g) }

has_head : (all : List Standing) (first : ℕ) (x : Standing) (xs : List Standing) → Has all first (x ∷ xs) → At all first x
has_head all first x xs h = at_same all (first + 0) first x (omega arith) (h.each 0 x refl)

has_itself : (all : List Standing) → Has all 0 all
has_itself all = record { each = λ k s g. at_same all k (0 + k) s (omega arith) g }

-- ---- What is left at a node

-- after an evaluation for a target
abbrev pub after_eval : e.Lvalue → List f.Statement → Standing
after_eval (e.ToLocal place local kind) rest = free rest
after_eval (e.ToVariable place variable kind) rest = owing rest
after_eval (e.ToElement place variable kind index) rest = owing rest

-- what an `if` leaves after the arms whose conditions don't hold
abbrev pub after_arms : Place → f.Arms → (otherwise : f.Statements) → List f.Statement
after_arms place f.no_arm otherwise = opened_all otherwise
after_arms place (f.arm_and condition body rest) otherwise = f.If place (f.arm_and condition body rest) otherwise ∷ []

pub record Assigns (all : List Standing) (target : e.Lvalue) (value : e.Placed) (next : ℕ) (s : Standing) : Type 0 where
  pub place : Place
  pub rest : List f.Statement
  pub is : s ≡ free (f.Assign place target value ∷ rest)
  pub follows : At all next (after_eval target rest)

pub record Stores (all : List Standing) (next : ℕ) (s : Standing) : Type 0 where
  pub rest : List f.Statement
  pub is : s ≡ owing rest
  pub follows : At all next (free rest)

pub data Tests (all : List Standing) (condition : e.Placed) (holds fails : ℕ) (s : Standing) : Type 0 where
  chooses : (place : Place) (body : f.Statements) (arms : f.Arms) (otherwise : f.Statements) (rest : List f.Statement) →
      s ≡ free (f.If place (f.arm_and condition body arms) otherwise ∷ rest) →
      At all holds (free (opened_all body ++ rest)) → At all fails (free (after_arms place arms otherwise ++ rest)) → Tests all condition holds fails s
  repeats : (place : Place) (body : f.Statements) (rest : List f.Statement) →
      s ≡ free (f.While place condition body ∷ rest) →
      At all holds (free (opened_all body ++ (f.While place condition body ∷ rest))) → At all fails (free rest) → Tests all condition holds fails s

pub record Locks (all : List Standing) (lock : e.LockName) (next : ℕ) (s : Standing) : Type 0 where
  pub place : Place
  pub rest : List f.Statement
  pub is : s ≡ free (f.Lock place lock ∷ rest)
  pub follows : At all next (free rest)

pub record Unlocks (all : List Standing) (lock : e.LockName) (next : ℕ) (s : Standing) : Type 0 where
  pub place : Place
  pub rest : List f.Statement
  pub is : s ≡ free (f.Unlock place lock ∷ rest)
  pub follows : At all next (free rest)

abbrev pub ActionLeads : List Standing → Action → Standing → Type 0
ActionLeads all (Eval target value next) s = Assigns all target value next s
ActionLeads all (Store variable kind next) s = Stores all next s
ActionLeads all (Test condition holds fails) s = Tests all condition holds fails s
ActionLeads all (Lock lock next) s = Locks all lock next s
ActionLeads all (Unlock lock next) s = Unlocks all lock next s
ActionLeads all End s = s ≡ free []

abbrev pub Agree : List Standing → List Node → List Standing → Type 0
Agree all nodes ss = AllZip (λ (n : Node) (s : Standing). ActionLeads all n.action s) nodes ss

agree_append : (all : List Standing) (ns ms : List Node) (ss rs : List Standing) → Agree all ns ss → Agree all ms rs → Agree all (ns ++ ms) (ss ++ rs)
agree_append all [] ms [] rs h k = k
agree_append all [] ms (s ∷ ss) rs h k = absurd h
agree_append all (n ∷ ns) ms [] rs h k = absurd h
agree_append all (n ∷ ns) ms (s ∷ ss) rs h k = (h.0, agree_append all ns ms ss rs h.1 k)

-- ---- As many as there are nodes

length-assign_standings : (target : e.Lvalue) (place : Place) (value : e.Placed) (rest : List f.Statement) →
    length (assign_standings place target value rest) ≡ assign_count target
length-assign_standings (e.ToLocal name local kind) place value rest = refl
length-assign_standings (e.ToVariable name variable kind) place value rest = refl
length-assign_standings (e.ToElement name variable kind index) place value rest = refl

mutual
  length-standings : (x : f.Statement) (rest : List f.Statement) → length (standings x rest) ≡ count x
  length-standings (f.Assign place target value) rest = length-assign_standings target place value rest
  length-standings (f.If place arms otherwise) rest =
      length-append (arms_standings arms place otherwise rest) (all_standings otherwise rest)
      ∙ ap₂ ◌+◌ (length-arms_standings arms place otherwise rest) (length-all_standings otherwise rest)
  length-standings (f.While place condition body) rest = ap suc (length-all_standings body (f.While place condition body ∷ rest))
  length-standings (f.Do place body condition) rest =
      omega (
        arith,
        length-append (all_standings body (f.While place condition body ∷ rest)) (free
            (f.While place condition body ∷ rest) ∷ []),
        length-all_standings body (f.While place condition body ∷ rest),
      )
  length-standings (f.Lock place name) rest = refl
  length-standings (f.Unlock place name) rest = refl

  length-all_standings : (xs : f.Statements) (rest : List f.Statement) → length (all_standings xs rest) ≡ statements_count xs
  length-all_standings f.no_statement rest = refl
  length-all_standings (f.statement_and x more) rest =
      length-append (standings x (opened_all more ++ rest)) (all_standings more rest)
      ∙ ap₂ ◌+◌ (length-standings x (opened_all more ++ rest)) (length-all_standings more rest)

  length-arms_standings : (xs : f.Arms) (place : Place) (otherwise : f.Statements) (rest : List f.Statement) →
      length (arms_standings xs place otherwise rest) ≡ arms_count xs
  length-arms_standings f.no_arm place otherwise rest = refl
  length-arms_standings (f.arm_and condition body arms) place otherwise rest =
      ap suc (length-append (all_standings body rest) (arms_standings arms place otherwise rest)
      ∙ ap₂ ◌+◌ (length-all_standings body rest) (length-arms_standings arms place otherwise rest))

-- ---- Entries

entry_some : (n first next : ℕ) → 0 < n → entry n first next ≡ first
entry_some zero first next h = absurd (omega arith)
entry_some (suc n) first next h = refl

entry_end : (n first : ℕ) → entry n first (first + n) ≡ first
entry_end zero first = omega arith
entry_end (suc n) first = refl

assign_some : (target : e.Lvalue) → 0 < assign_count target
assign_some (e.ToLocal place local kind) = omega arith
assign_some (e.ToVariable place variable kind) = omega arith
assign_some (e.ToElement place variable kind index) = omega arith

arms_some : (arms : f.Arms) → HasArm arms → 0 < arms_count arms
arms_some f.no_arm h = absurd h
arms_some (f.arm_and condition body arms) h = omega arith

module _ (x : f.Flat) (ks : List Kind) (all : List Standing) where
  count_some : (y : f.Statement) → IsFlatStatement x ks y → 0 < count y
  count_some (f.Assign place target value) h = assign_some target
  count_some (f.If place arms otherwise) h = omega (arith, arms_some arms h.0)
  count_some (f.While place condition body) h = omega arith
  count_some (f.Do place body condition) h = omega arith
  count_some (f.Lock place name) h = omega arith
  count_some (f.Unlock place name) h = omega arith

  enters_assign : (target : e.Lvalue) (place : Place) (value : e.Placed) (first : ℕ) (rest : List f.Statement) →
      Has all first (assign_standings place target value rest) → At all first (free (f.Assign place target value ∷ rest))
  enters_assign (e.ToLocal name local kind) place value first rest h = has_head all first _ _ h
  enters_assign (e.ToVariable name variable kind) place value first rest h = has_head all first _ _ h
  enters_assign (e.ToElement name variable kind index) place value first rest h = has_head all first _ _ h

  enters_arms : (arms : f.Arms) (place : Place) (otherwise : f.Statements) (first last : ℕ) (rest : List f.Statement) →
      Has all first (arms_standings arms place otherwise rest) → At all last (free (opened_all otherwise ++ rest)) →
      At all (entry (arms_count arms) first last) (free (after_arms place arms otherwise ++ rest))
  enters_arms f.no_arm place otherwise first last rest h a = a
  enters_arms (f.arm_and condition body arms) place otherwise first last rest h a = has_head all first _ _ h

  enters_if : (arms : f.Arms) (place : Place) (otherwise : f.Statements) (first : ℕ) (rest : List f.Statement) → HasArm arms →
      Has all first (arms_standings arms place otherwise rest) → At all first (free (f.If place arms otherwise ∷ rest))
  enters_if f.no_arm place otherwise first rest some h = absurd some
  enters_if (f.arm_and condition body arms) place otherwise first rest some h = has_head all first _ _ h

  mutual
    enters : (y : f.Statement) (first : ℕ) (rest : List f.Statement) → IsFlatStatement x ks y → Has all first (standings y rest) →
        At all first (free (opened y ++ rest))
    enters (f.Assign place target value) first rest w h = enters_assign target place value first rest h
    enters (f.If place arms otherwise) first rest w h = enters_if arms place otherwise first rest w.0 (has_prefix all first _ _ h)
    enters (f.While place condition body) first rest w h = has_head all first _ _ h
    enters (f.Do place body condition) first rest w h =
        let again : List f.Statement = f.While place condition body ∷ rest in
        let last : At all (first + statements_count body) (free again) =
        has_head all (first + statements_count body) _ [] (has_suffix all first (statements_count body) (all_standings body again) (free again ∷ [])
        (length-all_standings body again) h) in
        at_as all first (opened_all body ++ again) ((opened_all body ++ (f.While place condition body ∷ [])) ++ rest)
        (sym (append_assoc (opened_all body) (f.While place condition body ∷ []) rest))
        (at_same all _ first _ (entry_end (statements_count body) first)
        (enters_all body first (first + statements_count body) again w.0 (has_prefix all first (all_standings body again) (free again ∷ []) h) last))
    enters (f.Lock place name) first rest w h = has_head all first _ _ h
    enters (f.Unlock place name) first rest w h = has_head all first _ _ h

    enters_all : (ys : f.Statements) (first next : ℕ) (rest : List f.Statement) → AreFlatStatements x ks ys → Has all first (all_standings ys rest) →
        At all next (free rest) → At all (entry (statements_count ys) first next) (free (opened_all ys ++ rest))
    enters_all f.no_statement first next rest w h a = a
    enters_all (f.statement_and y more) first next rest w h a =
        let later : List f.Statement = opened_all more ++ rest in
        at_as all _ (opened y ++ later) ((opened y ++ opened_all more) ++ rest) (sym (append_assoc (opened y) (opened_all more) rest))
        (at_same all first _ _ (sym (entry_some (count y + statements_count more) first next (omega (arith, count_some y w.0))))
        (enters y first later w.0 (has_prefix all first (standings y later) (all_standings more rest) h)))

  -- ---- Nodes

  agree_assign : (table : Table) (target : e.Lvalue) (place : Place) (value : e.Placed) (first next : ℕ) (rest : List f.Statement) →
      Has all first (assign_standings place target value rest) → At all next (free rest) →
      Agree all (assign_nodes table place target value first next) (assign_standings place target value rest)
  agree_assign table (e.ToLocal name local kind) place value first next rest h a = (record { place = place; rest = rest; is = refl; follows = a }, tt)
  agree_assign table (e.ToVariable name variable kind) place value first next rest h a = (
    record { place = place; rest = rest; is = refl; follows = has_head all (suc first) _ _ (has_tail all first _ _ h) },
    (record { rest = rest; is = refl; follows = a }, tt),
  )
  agree_assign table (e.ToElement name variable kind index) place value first next rest h a = (
    record { place = place; rest = rest; is = refl; follows = has_head all (suc first) _ _ (has_tail all first _ _ h) },
    (record { rest = rest; is = refl; follows = a }, tt),
  )

  mutual
    agree : (table : Table) (y : f.Statement) (first next : ℕ) (rest : List f.Statement) → IsFlatStatement x ks y → Has all first (standings y rest) →
        At all next (free rest) →
        Agree all (statement_nodes table y first next) (standings y rest)
    agree table (f.Assign place target value) first next rest w h a = agree_assign table target place value first next rest h a
    agree table (f.If place arms otherwise) first next rest w h a =
        let after = has_suffix all first (arms_count arms) (arms_standings arms place otherwise rest) (all_standings otherwise rest)
        (length-arms_standings arms place otherwise rest) h in
        let last = enters_all otherwise (first + arms_count arms) next rest w.2 after a in
        agree_append all _ _ _ _
        (agree_arms table arms place otherwise _ first next rest w.1 (has_prefix all first _ _ h) last a)
        (agree_all table otherwise (first + arms_count arms) next rest w.2 after a)
    agree table (f.While place condition body) first next rest w h a =
        let again : List f.Statement = f.While place condition body ∷ rest in
        let here = has_head all first _ _ h in
        let inner = has_tail all first _ _ h in
        (repeats place body rest refl (enters_all body (suc first) first again w.1 inner here) a, agree_all table body (suc first) first again w.1 inner here)
    agree table (f.Do place body condition) first next rest w h a =
        let again : List f.Statement = f.While place condition body ∷ rest in
        let test = first + statements_count body in
        let inner = has_prefix all first (all_standings body again) (free again ∷ []) h in
        let there = has_head all test _ [] (has_suffix all first (statements_count body) (all_standings body again) (free again ∷ [])
        (length-all_standings body again) h) in
        agree_append all _ _ _ _ (agree_all table body first test again w.0 inner there) (
          repeats place body rest refl (at_same all _ first _ (entry_end (statements_count body) first)
              (enters_all body first test again w.0 inner there)) a,
          tt,
        )
    agree table (f.Lock place name) first next rest w h a = (record { place = place; rest = rest; is = refl; follows = a }, tt)
    agree table (f.Unlock place name) first next rest w h a = (record { place = place; rest = rest; is = refl; follows = a }, tt)

    agree_all : (table : Table) (ys : f.Statements) (first next : ℕ) (rest : List f.Statement) → AreFlatStatements x ks ys →
        Has all first (all_standings ys rest) →
        At all next (free rest) → Agree all (statements_nodes table ys first next) (all_standings ys rest)
    agree_all table f.no_statement first next rest w h a = tt
    agree_all table (f.statement_and y more) first next rest w h a =
        let later : List f.Statement = opened_all more ++ rest in
        let after = has_suffix all first (count y) (standings y later) (all_standings more rest) (length-standings y later) h in
        agree_append all _ _ _ _
        (agree table y first (entry (statements_count more) (first + count y) next) later w.0
        (has_prefix all first (standings y later) (all_standings more rest) h)
        (enters_all more (first + count y) next rest w.1 after a))
        (agree_all table more (first + count y) next rest w.1 after a)

    agree_arms : (table : Table) (arms : f.Arms) (place : Place) (otherwise : f.Statements) (last first next : ℕ) (rest : List f.Statement) →
        AreFlatArms x ks arms →
        Has all first (arms_standings arms place otherwise rest) → At all last (free (opened_all otherwise ++ rest)) → At all next (free rest) →
        Agree all (arms_nodes table arms place last first next) (arms_standings arms place otherwise rest)
    agree_arms table f.no_arm place otherwise last first next rest w h l a = tt
    agree_arms table (f.arm_and condition body arms) place otherwise last first next rest w h l a =
        let inner = has_tail all first _ _ h in
        let prefix = has_prefix all (suc first) (all_standings body rest) (arms_standings arms place otherwise rest) inner in
        let after = has_suffix all (suc first) (statements_count body) (all_standings body rest) (arms_standings arms place otherwise rest)
        (length-all_standings body rest) inner in
        let more = suc first + statements_count body in (
          chooses place body arms otherwise rest refl (enters_all body (suc first) next rest w.1 prefix a)
              (enters_arms arms place otherwise more last rest after l),
          agree_append all _ _ _ _ (agree_all table body (suc first) next rest w.1 prefix a)
              (agree_arms table arms place otherwise last more next rest w.2 after l a),
        )

  agree_thread : (table : Table) (t : f.Thread) (first : ℕ) → AreFlatStatements x ks t.body → Has all first (thread_standings t) →
      Agree all (thread_nodes table t first) (thread_standings t)
  agree_thread table t first w h =
      let end = first + statements_count t.body in
      let there = has_head all end _ [] (has_suffix all first (statements_count t.body) (all_standings t.body []) (free [] ∷ [])
      (length-all_standings t.body []) h) in
      agree_append all _ _ _ _ (agree_all table t.body first end [] w (has_prefix all first _ _ h) there) (refl, tt)

-- ---- The whole graph

abbrev pub AreThreads : f.Flat → List f.Thread → Type 0
AreThreads x ts = AllByRecursion (λ (t : f.Thread). AreFlatStatements x t.locals t.body) ts

length-thread_standings : (t : f.Thread) → length (thread_standings t) ≡ thread_count t
length-thread_standings t = omega (arith, length-append (all_standings t.body []) (free [] ∷ []), length-all_standings t.body [])

agree_threads : (x : f.Flat) (all : List Standing) (ts : List f.Thread) (first : ℕ) → AreThreads x ts → Has all first (threads_standings ts) →
    Agree all (threads_nodes x ts first) (threads_standings ts)
agree_threads x all [] first w h = tt
agree_threads x all (t ∷ ts) first w h =
    agree_append all _ _ _ _ (agree_thread x t.locals all (table_of x t) t first w.0 (has_prefix all first _ _ h))
    (agree_threads x all ts (first + thread_count t) w.1 (has_suffix all first (thread_count t) (thread_standings t) (threads_standings ts)
    (length-thread_standings t) h))

pub agrees : (x : f.Flat) → AreThreads x x.threads → Agree (threads_standings x.threads) (threads_nodes x x.threads 0) (threads_standings x.threads)
agrees x w = agree_threads x (threads_standings x.threads) x.threads 0 w (has_itself (threads_standings x.threads))

begun_at : (n first : ℕ) (all : List Standing) (s : Standing) → At all (entry n first (first + n)) s → At all first s
begun_at n first all s a = at_same all _ first s (entry_end n first) a

-- each thread begins with its whole body
begin_threads : (x : f.Flat) (all : List Standing) (ts : List f.Thread) (first k : ℕ) (p : Part) (t : f.Thread) → AreThreads x ts →
    Has all first (threads_standings ts) →
    slice_get (parts ts first) k ≡ Some p → slice_get ts k ≡ Some t → At all p.first (free (opened_all t.body))
begin_threads x all [] first k p t w h g i = cc
begin_threads x all (u ∷ us) first zero p t w h g i =
    let same : u ≡ t = cc in
    let here : part u first ≡ p = cc in
    let end = first + statements_count u.body in
    let own = has_prefix all first (thread_standings u) (threads_standings us) h in
    let there = has_head all end _ [] (has_suffix all first (statements_count u.body) (all_standings u.body []) (free [] ∷ [])
    (length-all_standings u.body []) own) in
    let begun : At all first (free (opened_all u.body ++ [])) =
    begun_at (statements_count u.body) first all _
    (enters_all x u.locals all u.body first end [] w.0 (has_prefix all first (all_standings u.body []) (free [] ∷ []) own) there) in
    let whole : At all first (free (opened_all u.body)) = at_as all first _ (opened_all u.body) (append-nil (opened_all u.body)) begun in
    let P : f.Thread → Type 0 = λ v. At all first (free (opened_all v.body)) in
    at_same all first p.first _ (ap (λ (q : Part). q.first) here) (subst P same whole)
begin_threads x all (u ∷ us) first (suc k) p t w h g i =
    begin_threads x all us (first + thread_count u) k p t w.1
    (has_suffix all first (thread_count u) (thread_standings u) (threads_standings us) (length-thread_standings u) h) g i

pub begins : (x : f.Flat) (k : ℕ) (p : Part) (t : f.Thread) → AreThreads x x.threads → slice_get (parts x.threads 0) k ≡ Some p →
    slice_get x.threads k ≡ Some t →
    At (threads_standings x.threads) p.first (free (opened_all t.body))
begins x k p t w g i =
    begin_threads x (threads_standings x.threads) x.threads 0 k p t w (has_itself (threads_standings x.threads)) g i

-- ---- One node

agree_at : (all : List Standing) (ns : List Node) (ss : List Standing) (k : ℕ) (s : Standing) → Agree all ns ss → slice_get ss k ≡ Some s →
    (n : Node) × (slice_get ns k ≡ Some n) × ActionLeads all n.action s
agree_at all [] [] k s h g = cc
agree_at all [] (r ∷ ss) k s h g = absurd h
agree_at all (n ∷ ns) [] k s h g = absurd h
agree_at all (n ∷ ns) (r ∷ ss) zero s h g =
    let same : r ≡ s = cc in
    let P : Standing → Type 0 = λ z. ActionLeads all n.action z in
    (n, refl, subst P same h.0)
agree_at all (n ∷ ns) (r ∷ ss) (suc k) s h g = agree_at all ns ss k s h.1 g

-- where something stands, a node does it
pub node_at : (x : f.Flat) (k : ℕ) (s : Standing) → AreThreads x x.threads → At (threads_standings x.threads) k s →
    (n : Node) × (slice_get (threads_nodes x x.threads 0) k ≡ Some n) × ActionLeads (threads_standings x.threads) n.action s
node_at x k s w a = agree_at (threads_standings x.threads) (threads_nodes x x.threads 0) (threads_standings x.threads) k s (agrees x w) a

-- Logged assignments, as code finds them.
use Rattle.std.proofs.Common.{◌≡◌, ◌≢◌, ◌⊎◌, ◌↔◌, inl, inr, ℕ, zero, suc, ◌<◌, ◌≤◌, List, [], ◌∷◌, length, refl, ap, ap₂, arith, sym, ◌∙◌, subst}
use Rattle.std.proofs.Common.{Bool, true, false, not, Option, Some, None, ◌==◌, ◌&&◌, if◌then◌else◌}
use Rattle.std.specs.Prelude.{slice_get, Contains}
use Rattle.std.specs.List.{list_all}
use Rattle.std.proofs.lemmas.Bool.{and_parts, eqb-true, eq-eqb, ne_eqb, true≢false}
use Rattle.std.proofs.lemmas.Option.{same_Some, slice_get_within}
use Rattle.log_schemes.specs.declared.locals.Locals.{Locals}
use Rattle.log_schemes.specs.declared.locals.Locals.TheVariants.{Registers, Frame}
use Rattle.log_schemes.specs.Schemes.{is_pending, locals_of, may_keep, may_keep_at}
use Rattle.ido_ints.specs.declared.kinds.Kind.{Kind}
use Rattle.ido_base.specs.declared.place.Place.{Place}
use Rattle.c_tree.specs.Exprs as e
use Rattle.c_tree.specs.LockNames.{Held, count_held, held_names}
use Rattle.memory_layout.specs.Roles.{pending_address, pending_value}
use Rattle.expr_code.specs.EvaluationCode.{home_of}
use Rattle.expr_code.specs.declared.home.Home.{Home}
use Rattle.expr_code.specs.declared.home.Home.TheVariants.{InRegister, InFrame}
use Rattle.flow_graph.specs.Nodes.{Action, Eval, Store, Test, Lock, Unlock, End, Node}
use Rattle.flow_graph.specs.IdempotentCuts.{IsStoreNode, stores}
use Rattle.flow_graph.specs.Liveness.{NodeAt}
use Rattle.thread_code.specs.Plans.{AreKeptBefore, Assigns, IsKept, IsKeptBefore, IsLogged, IsNodeOf, Plan, Thread, held_names_before, names_in, set_before}
use Rattle.thread_code.specs.Plans.{of_address, of_entry, of_local, of_number, of_value, of_word}
use Rattle.rv64_codegen.specs.declared.thread.ThreadPlan as opened
use Rattle.rv64_codegen.specs.links.Threads.{IsOpen, choices_of, is_framed, is_logged, is_word, opens_at, plan_in, sets_framed, sets_framed_in, thread_of}
use Rattle.rv64_codegen.proofs.KnownNodes.{known_of, logged_home, logged_sets, not_logged, sets_local}
use Rattle.rv64_codegen.proofs.Nodes.{Known}
use Rattle.rv64_codegen.proofs.LocalRegisters.{framed, of_frame}
use Rattle.rv64_codegen.proofs.PlannedNodes.{set_long}

-- so many names are held as are said to be
held_many : (names : List e.LockName) (set : Held) → length set ≡ length names → length (held_names names set) ≡ count_held set
held_many [] [] same = refl
held_many [] (b ∷ set) same = absurd (omega (arith, same))
held_many (x ∷ names) [] same = absurd (omega (arith, same))
held_many (x ∷ names) (true ∷ set) same = ap suc (held_many names set (omega (arith, same)))
held_many (x ∷ names) (false ∷ set) same = held_many names set (omega (arith, same))

none_long : (names : List e.LockName) → (length names == 0) ≡ false → names ≢ []
none_long [] off same = true≢false off
none_long (x ∷ names) off same = let z : ⊥ = cc in z

some_long : (names : List e.LockName) → names ≢ [] → (length names == 0) ≡ false
some_long [] some = absurd (some refl)
some_long (x ∷ names) some = ne_eqb (length (x ∷ names)) 0 (λ same. let z : ⊥ = omega (arith, same) in z)

not_true : (b : Bool) → not b ≡ true → b ≡ false
not_true true h = absurd (true≢false (sym h))
not_true false h = refl

record Word (homes : List Home) (local : ℕ) : Type 0 where
  address : ℕ
  is : home_of homes local ≡ InFrame address

word_there : (homes : List Home) (local : ℕ) → is_word (home_of homes local) ≡ true → Word homes local
word_there homes local h = by (home_of homes local) refl h
  where
    by : (home : Home) → home_of homes local ≡ home → is_word home ≡ true → Word homes local
    by (InRegister register) is off = absurd (true≢false (sym off))
    by (InFrame address) is on = record { address = address; is = is }

module _ (x : opened.ThreadPlan) (o : IsOpen x) (node : ℕ) (own : IsNodeOf (thread_of x) node) where
  abbrev p : Plan
  p = plan_in x

  abbrev t : Thread
  t = thread_of x

  -- whether no lock is held there, by how many are
  pub none_held : (opens_at x node) ≡ (count_held (set_before p t node) == 0)
  none_held = ap (λ (n : ℕ). n == 0) (held_many (names_in p t) (set_before p t node) (set_long p o.plan t o.thread node own))

  module _ (is : Node) (at : NodeAt p.graph node is) where
    abbrev homes : List Home
    homes = x.frame.locals.now

    found : (opens : Bool) → (sets_framed_in homes (slice_get p.graph.nodes node) && not opens) ≡ (sets_framed homes is.action && not opens)
    found opens = ap (λ (n : Option Node). sets_framed_in homes n && not opens) at

    pub logged_by : (b : Bool) → b ≡ sets_framed homes is.action → (b && not (opens_at x node)) ≡ is_logged x node
    logged_by b same = ap (λ (z : Bool). z && not (opens_at x node)) same ∙ sym (found (opens_at x node))

    framed_sets : (a : Action) → is.action ≡ a → sets_framed homes a ≡ true → held_names_before p t node ≢ [] →
        Known p.flat t.kinds t.part.first t.part.end p.graph.nodes is a → IsLogged p t node
    framed_sets (Eval (e.ToLocal place local kind) value next) same on holds known =
        let w = word_there homes local on in
        let below : local < length t.kinds = slice_get_within t.kinds local kind known.target_is.0 in
        record {
          local = local;
          assigns = record { is = is; at = at; place = place; kind = kind; assigned = value; next = next; action = same };
          frame = of_frame p t o.plan o.thread local w.address below w.is;
          holds = holds;
        }
    framed_sets (Eval (e.ToVariable place variable kind) value next) same on holds known = absurd (true≢false (sym on))
    framed_sets (Eval (e.ToElement place variable kind index) value next) same on holds known = absurd (true≢false (sym on))
    framed_sets (Store variable kind next) same on holds known = absurd (true≢false (sym on))
    framed_sets (Test condition holding fails) same on holds known = absurd (true≢false (sym on))
    framed_sets (Lock lock next) same on holds known = absurd (true≢false (sym on))
    framed_sets (Unlock lock next) same on holds known = absurd (true≢false (sym on))
    framed_sets End same on holds known = absurd (true≢false (sym on))

    pub logged_then : is_logged x node ≡ true → IsLogged p t node
    logged_then h =
        let both = and_parts (sets_framed homes is.action) (not (opens_at x node)) (sym (found (opens_at x node)) ∙ h) in
        framed_sets is.action refl both.0 (none_long (held_names_before p t node) (not_true (opens_at x node) both.1))
        (known_of p t o.plan o.thread node is own at)

    sets_by : (a : Action) → is.action ≡ a → sets_local a ≡ true → Known p.flat t.kinds t.part.first t.part.end p.graph.nodes is a → IsLogged p t node →
        sets_framed homes a ≡ true
    sets_by (Eval (e.ToLocal place local kind) value next) same on known logged =
        ap is_word (logged_home p t o.plan o.thread node is at logged local (slice_get_within t.kinds local kind known.target_is.0))
    sets_by (Eval (e.ToVariable place variable kind) value next) same on known logged = absurd (true≢false (sym on))
    sets_by (Eval (e.ToElement place variable kind index) value next) same on known logged = absurd (true≢false (sym on))
    sets_by (Store variable kind next) same on known logged = absurd (true≢false (sym on))
    sets_by (Test condition holding fails) same on known logged = absurd (true≢false (sym on))
    sets_by (Lock lock next) same on known logged = absurd (true≢false (sym on))
    sets_by (Unlock lock next) same on known logged = absurd (true≢false (sym on))
    sets_by End same on known logged = absurd (true≢false (sym on))

    pub then_logged : IsLogged p t node → is_logged x node ≡ true
    then_logged logged =
        found (opens_at x node)
        ∙ ap₂ (λ (a b : Bool). a && not b)
        (sets_by is.action refl (logged_sets p t o.plan o.thread node is at logged) (known_of p t o.plan o.thread node is own at) logged)
        (some_long (held_names_before p t node) logged.holds)

    pub logged_else : is_logged x node ≡ false → IsLogged p t node → ⊥
    logged_else off logged = true≢false (sym (then_logged logged) ∙ off)

    -- ---- What a boundary before it keeps

    abbrev two : List ℕ
    two = pending_address ∷ pending_value ∷ []

    in_two : (r : ℕ) → Contains two r → (r ≡ pending_address) ⊎ (r ≡ pending_value)
    in_two r (zero, h, e) = inl (sym e)
    in_two r (suc zero, h, e) = inr (sym e)
    in_two r (suc (suc k), h, e) = absurd (omega (arith, h))

    two_are : IsLogged p t node → AreKeptBefore p t node two
    two_are logged r = (λ c. by (in_two r c), back r)
      where
        by : (r ≡ pending_address) ⊎ (r ≡ pending_value) → IsKeptBefore p t node r
        by (inl same) = subst (IsKeptBefore p t node) (sym same) (of_word logged)
        by (inr same) = subst (IsKeptBefore p t node) (sym same) (of_number logged)

        no_store : IsStoreNode p.graph node → ⊥
        no_store (stores n variable kind next there does) =
            let same : n ≡ is = same_Some n is (sym there ∙ at) in
            let action : sets_local is.action ≡ false = ap (λ (m : Node). sets_local m.action) (sym same) ∙ ap sets_local does in
            not_logged p t o.plan o.thread node is at action logged

        entered : (r' : ℕ) → IsKept p t node r' → Contains two r'
        entered r' (of_local local k register g live there) =
            let home = logged_home p t o.plan o.thread node is at logged local (slice_get_within t.kinds local k g) in
            absurd (let z : ⊥ = cc in z)
        entered r' (of_address s) = absurd (no_store s)
        entered r' (of_value s) = absurd (no_store s)

        back : (r' : ℕ) → IsKeptBefore p t node r' → Contains two r'
        back r' (of_entry register k) = entered register k
        back r' (of_word it) = (0, omega arith, refl)
        back r' (of_number it) = (1, omega arith, refl)

    plain_are : (IsLogged p t node → ⊥) → (live : List ℕ) → ((r : ℕ) → Contains live r ↔ IsKept p t node r) → AreKeptBefore p t node live
    plain_are none live are r = (λ c. of_entry r ((are r).0 c), back r)
      where
        back : (r' : ℕ) → IsKeptBefore p t node r' → Contains live r'
        back r' (of_entry register k) = (are register).1 k
        back r' (of_word it) = absurd (none it)
        back r' (of_number it) = absurd (none it)

    pub kept_before : ((r : ℕ) → Contains ((choices_of x).live node) r ↔ IsKept p t node r) → AreKeptBefore p t node ((choices_of x).kept node)
    kept_before are = by (is_logged x node) refl
      where
        by : (b : Bool) → is_logged x node ≡ b → AreKeptBefore p t node ((choices_of x).kept node)
        by true on = subst (λ (b : Bool). AreKeptBefore p t node (if b then two else (choices_of x).live node)) (sym on) (two_are (logged_then on))
        by false off =
            subst (λ (b : Bool). AreKeptBefore p t node (if b then two else (choices_of x).live node)) (sym off)
            (plain_are (logged_else off) ((choices_of x).live node) are)

    pub keepable_before : list_all (may_keep p.log) ((choices_of x).live node) ≡ true → list_all (may_keep p.log) ((choices_of x).kept node) ≡ true
    keepable_before live = by (is_logged x node) refl
      where
        by : (b : Bool) → is_logged x node ≡ b → list_all (may_keep p.log) ((choices_of x).kept node) ≡ true
        by true on =
            ap (λ (b : Bool). list_all (may_keep p.log) (if b then two else (choices_of x).live node)) on
            ∙ ap (λ (l : Locals). list_all (may_keep_at l) two) (logged_then on).frame
        by false off = ap (λ (b : Bool). list_all (may_keep p.log) (if b then two else (choices_of x).live node)) off ∙ live

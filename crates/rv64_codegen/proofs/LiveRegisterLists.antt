-- Registers that are live at nodes.
use Rattle.std.proofs.Common.{◌≡◌, ◌⊎◌, inl, inr, ⊎_elim, refl, ℕ, zero, suc, ◌+◌, ◌<◌, ◌≤◌, List, [], ◌∷◌, ◌++◌, length, ◌∙◌, ap, ap₂, sym, subst, arith}
use Rattle.std.proofs.Common.{Some, Bool, true, false, ◌&&◌, ◌||◌, ◌==◌}
use Rattle.std.specs.Prelude.{slice_get, slice_index, Contains, Vec, IfOk, Ok, Err}
use Rattle.std.specs.declared.result.Result.{Result}
use Rattle.std.specs.Global.{Global}
use Rattle.std.specs.List.{list_all}
use Rattle.std.proofs.lemmas.Bool.{cases_lt}
use Rattle.std.proofs.lemmas.List.{length-append, get_or-map}
use Rattle.std.proofs.lemmas.List.Folds.{list_all-append}
use Rattle.std.proofs.lemmas.List.Elements.{Contains-append_left, Contains-append_right, Contains-append_cases}
use Rattle.std.proofs.lemmas.Option.{slice_get_within, slice_get-get_or}
use Rattle.ido_ints.specs.declared.kinds.Kind.{Kind}
use Rattle.memory_layout.specs.declared.roles.TheConstants.{LOCALS}
use Rattle.memory_layout.specs.Roles.{is_kept, is_local, pending_address, pending_value}
use Rattle.flow_graph.specs.Nodes.{Action, Eval, Store, Test, Lock, Unlock, End, Node, Graph}
use Rattle.flow_graph.specs.IdempotentCuts.{IsStoreNode, stores}
use Rattle.flow_graph.specs.Liveness.{NodeAt}
use Rattle.flow_graph.specs.LocalSets.{HasAt}
use Rattle.flow_graph.proofs.Public.{found_in}
use Rattle.thread_code.specs.Plans.{Plan, Thread, IsPlan, IsThread, IsKept, of_local, of_address, of_value, AreKept, home_at, home_of_colour}
use Rattle.log_schemes.specs.declared.log.Log.{Log}
use Rattle.log_schemes.specs.declared.locals.Locals.{Locals}
use Rattle.log_schemes.specs.declared.locals.Locals.TheVariants.{Registers, Frame}
use Rattle.log_schemes.specs.Schemes.{is_pending, locals_of, may_keep, may_keep_at}
use Rattle.rv64_codegen.proofs.LocalRegisters.{framed}
use Rattle.rv64_codegen.specs.links.LiveRegisters.{HasLive, IsLiveAmong, AreLiveLocals, is_store, AreWithPending, AreLiveRegisters, IsLiveRegister, AreLists}
use Rattle.rv64_codegen.proofs.Homes.{homes_long, colours_long}
use Rattle.expr_code.specs.declared.home.Home.{Home}
use Rattle.expr_code.specs.declared.home.Home.TheVariants.{InRegister, InFrame}
use Rattle.expr_code.specs.EvaluationCode.{home_of}
use Rattle.expr_code.proofs.Public.{same_register}

pub ok_weaker : {X E : Type 0} (r : Result X E) (P Q : X → Type 0) → ((x : X) → P x → Q x) → IfOk r P → IfOk r Q
ok_weaker (Ok x) P Q f h = f x h
ok_weaker (Err error) P Q f h = h

only_contained : (x y : ℕ) → Contains (y ∷ []) x → y ≡ x
only_contained x y (zero, h, is) = is
only_contained x y (suc k, h, is) = absurd (omega (arith, h))

contained_only : (x : ℕ) → Contains (x ∷ []) x
contained_only x = (0, omega arith, refl)

-- ---- Whether a live local has the home

abbrev pub NoneBefore : (homes : List Home) → (sets : List (List ℕ)) → (node : ℕ) → (home : Home) → (count : ℕ) → Type 0
NoneBefore homes sets node home count = (local : ℕ) → local < count → slice_get homes local ≡ Some home → HasAt sets node local → ⊥

-- ---- All of them

kept_local : (register : ℕ) → is_local register ≡ true → is_kept register ≡ true
kept_local register h = ap (λ (b : Bool). b || register == 28 || register == 29) h

all_more : (xs : List ℕ) (x : ℕ) → list_all is_kept xs ≡ true → is_kept x ≡ true → list_all is_kept (xs ++ x ∷ []) ≡ true
all_more xs x h k = list_all-append is_kept xs (x ∷ []) ∙ ap₂ ◌&&◌ h (ap (λ (b : Bool). b && true) k)

module _ (homes : List Home) (sets : List (List ℕ)) (node : ℕ) where
  wider : (count register : ℕ) → IsLiveAmong homes sets node count register → IsLiveAmong homes sets node (count + 1) register
  wider count register w = record { number = w.number; below = omega (arith, w.below); is = w.is; live = w.live }

  pub live_more : (count : ℕ) (found : List ℕ) (register : ℕ) → register ≡ slice_index LOCALS count → is_local register ≡ true →
      HasLive homes sets node (InRegister register) → AreLiveLocals homes sets node count found →
      AreLiveLocals homes sets node (count + 1) (found ++ register ∷ [])
  live_more count found register is local has are = record {
    few = omega (arith, are.few, length-append found (register ∷ []));
    kept = all_more found register are.kept (kept_local register local);
    each = λ other. (
      λ c. ⊎_elim (λ l. wider count other ((are.each other).0 l))
          (λ r. let same : register ≡ other = only_contained other register r in
          subst (IsLiveAmong homes sets node (count + 1)) same
          (record { number = count; below = omega arith; is = sym is; live = has }))
          (Contains-append_cases found (register ∷ []) other c),
      λ w. ⊎_elim
          (λ l. Contains-append_left found (register ∷ []) other
          ((are.each other).1 (record { number = w.number; below = l; is = w.is; live = w.live })))
          (λ l.
          let e : w.number ≡ count = omega (arith, l, w.below) in
          let same : register ≡ other = is ∙ ap (slice_index LOCALS) (sym e) ∙ w.is in
          Contains-append_right found (register ∷ []) other (subst (λ (z : ℕ). Contains (register ∷ []) z) same (contained_only register)))
          (cases_lt w.number count),
    );
  }

  pub live_same : (count : ℕ) (found : List ℕ) (register : ℕ) → register ≡ slice_index LOCALS count → (HasLive homes sets node (InRegister register) → ⊥) →
      AreLiveLocals homes sets node count found → AreLiveLocals homes sets node (count + 1) found
  live_same count found register is none are = record {
    few = omega (arith, are.few);
    kept = are.kept;
    each = λ other. (
      λ c. wider count other ((are.each other).0 c),
      λ w. ⊎_elim
          (λ l. (are.each other).1 (record { number = w.number; below = l; is = w.is; live = w.live }))
          (λ l.
          let e : w.number ≡ count = omega (arith, l, w.below) in
          let same : other ≡ register = sym w.is ∙ ap (slice_index LOCALS) e ∙ sym is in
          absurd (none (subst (λ (r : ℕ). HasLive homes sets node (InRegister r)) same w.live)))
          (cases_lt w.number count),
    );
  }

-- ---- With those of a store

module _ (g : Graph) (homes : List Home) (sets : List (List ℕ)) (node : ℕ) (is : Node) (at : NodeAt g node is) (found : List ℕ)
    (are : AreLiveLocals homes sets node 18 found) where
  abbrev two : List ℕ
  two = pending_address ∷ pending_value ∷ []

  two_contained : (x : ℕ) → Contains two x → (x ≡ pending_address) ⊎ (x ≡ pending_value)
  two_contained x (zero, h, e) = inl (sym e)
  two_contained x (suc zero, h, e) = inr (sym e)
  two_contained x (suc (suc k), h, e) = absurd (omega (arith, h))

  contained_two : (x : ℕ) → (x ≡ pending_address) ⊎ (x ≡ pending_value) → Contains two x
  contained_two x (inl e) = (0, omega arith, sym e)
  contained_two x (inr e) = (1, omega arith, sym e)

  not_store : (a : Action) → is.action ≡ a → is_store a ≡ false → IsStoreNode g node → ⊥
  not_store a e plain s = elim s [
    | stores x variable kind next there does ↦
        let same : x ≡ is = (let both : Some x ≡ Some is = sym there ∙ at in cc) in
        let action : Store variable kind next ≡ a = sym does ∙ ap (λ (z : Node). z.action) same ∙ e in
        let stored : true ≡ is_store a = ap is_store action in
        absurd (let z : true ≡ false = stored ∙ plain in cc)
  ]

  unpending : (IsStoreNode g node → ⊥) → AreLiveRegisters g homes sets node found
  unpending none = record {
    few = omega (arith, are.few);
    kept = are.kept;
    each = λ r. (
      λ c. inl ((are.each r).0 c),
      λ w. ⊎_elim (λ l. (are.each r).1 l) (λ s. absurd (none s.0)) w,
    );
  }

  pending : IsStoreNode g node → AreLiveRegisters g homes sets node (found ++ two)
  pending store = record {
    few = omega (arith, are.few, length-append found two);
    kept = list_all-append is_kept found two ∙ ap (λ (b : Bool). b && true) are.kept;
    each = λ r. (
      λ c. ⊎_elim (λ l. inl ((are.each r).0 l)) (λ l. inr (store, two_contained r l)) (Contains-append_cases found two r c),
      λ w. ⊎_elim (λ l. Contains-append_left found two r ((are.each r).1 l)) (λ s. Contains-append_right found two r (contained_two r s.1)) w,
    );
  }

  pub with_pending_live : (all : List ℕ) (a : Action) → is.action ≡ a → AreWithPending found (is_store a) all → AreLiveRegisters g homes sets node all
  with_pending_live all (Eval target value next) e w = subst (AreLiveRegisters g homes sets node) (sym w) (unpending (not_store _ e refl))
  with_pending_live all (Store variable kind next) e w =
      subst (AreLiveRegisters g homes sets node) (sym w) (pending (stores is variable kind next at e))
  with_pending_live all (Test condition holds fails) e w = subst (AreLiveRegisters g homes sets node) (sym w) (unpending (not_store _ e refl))
  with_pending_live all (Lock lock next) e w = subst (AreLiveRegisters g homes sets node) (sym w) (unpending (not_store _ e refl))
  with_pending_live all (Unlock lock next) e w = subst (AreLiveRegisters g homes sets node) (sym w) (unpending (not_store _ e refl))
  with_pending_live all End e w = subst (AreLiveRegisters g homes sets node) (sym w) (unpending (not_store _ e refl))

-- ---- Lists

get_cases : {X : Type 0} (xs : List X) (y : X) (i : ℕ) (z : X) → slice_get (xs ++ y ∷ []) i ≡ Some z →
    (slice_get xs i ≡ Some z) ⊎ ((i ≡ length xs) × (y ≡ z))
get_cases [] y zero z g = inr (refl, let same : y ≡ z = cc in same)
get_cases [] y (suc i) z g = cc
get_cases (x ∷ xs) y zero z g = inl g
get_cases (x ∷ xs) y (suc i) z g = ⊎_elim (λ l. inl l) (λ r. inr (ap suc r.0, r.1)) (get_cases xs y i z g)

pub lists_more : (g : Graph) (homes : List Home) (sets : List (List ℕ)) (first node : ℕ) (lists : List (Vec ℕ Global)) (list : Vec ℕ Global) →
    first ≤ node → AreLists g homes sets first node lists → AreLiveRegisters g homes sets node list.items →
    AreLists g homes sets first (node + 1) (lists ++ list ∷ [])
lists_more g homes sets first node lists list from are live = record {
  count = omega (arith, length-append lists (list ∷ []), are.count, from);
  each = λ i other h. ⊎_elim (λ l. are.each i other l)
      (λ r.
      let e : node ≡ first + i = omega (arith, r.0, are.count, from) in
      let there : AreLiveRegisters g homes sets (first + i) list.items = subst (λ (n : ℕ). AreLiveRegisters g homes sets n list.items) e live in
      subst (λ (v : Vec ℕ Global). AreLiveRegisters g homes sets (first + i) v.items) r.1 there)
      (get_cases lists list i other h);
}

-- ---- The registers found are those that a boundary keeps

home_there : (hs : List Home) (k : ℕ) (h : Home) → slice_get hs k ≡ Some h → home_of hs k ≡ h
home_there [] k h g = cc
home_there (y ∷ hs) zero h g = cc
home_there (y ∷ hs) (suc k) h g = home_there hs k h g

contained_index : (xs : List ℕ) (k : ℕ) → k < length xs → Contains xs (slice_index xs k)
contained_index [] k h = absurd (omega (arith, h))
contained_index (y ∷ xs) zero h = (0, omega arith, refl)
contained_index (y ∷ xs) (suc k) h = let c = contained_index xs k (omega (arith, h)) in (suc c.0, omega (arith, c.1), c.2)

register_by : (l : Locals) (log : Log) (thread colour register : ℕ) → home_at l log thread colour ≡ InRegister register →
    slice_index LOCALS colour ≡ register
register_by Registers log thread colour register is = same_register _ _ is
register_by Frame log thread colour register is = absurd (let z : ⊥ = cc in z)

all_by : (test : ℕ → Bool) (xs : List ℕ) → ((x : ℕ) → Contains xs x → test x ≡ true) → list_all test xs ≡ true
all_by test [] each = refl
all_by test (x ∷ xs) each =
    ap₂ (λ (a b : Bool). a && b) (each x (0, omega arith, refl)) (all_by test xs (λ y c. each y (suc c.0, omega (arith, c.1), c.2)))

none_among : (xs : List ℕ) → ((x : ℕ) → Contains xs x → ⊥) → length xs ≡ 0
none_among [] none = refl
none_among (x ∷ xs) none = absurd (none x (0, omega arith, refl))

module _ (p : Plan) (plan : IsPlan p) (t : Thread) (th : IsThread p t) (node : ℕ) (found : List ℕ)
    (are : AreLiveRegisters p.graph t.locals p.live node found) where
  kept_among : (r : ℕ) → HasLive t.locals p.live node (InRegister r) → IsKept p t node r
  kept_among r h =
      let below : h.local < length t.kinds =
      omega (arith, slice_get_within t.locals h.local (InRegister r) h.has, homes_long p plan t th, ap (λ (ks : List Kind). length ks) th.kinds) in
      let kind = found_in t.kinds h.local below in
      of_local h.local kind.0 r kind.1 ((plan.live.each node h.local).0 h.live) (home_there t.locals h.local (InRegister r) h.has)

  kept_live : (r : ℕ) → IsLiveRegister p.graph t.locals p.live node r → IsKept p t node r
  kept_live r w = ⊎_elim (λ l. kept_among r l.live)
      (λ s. ⊎_elim (λ e. subst (IsKept p t node) (sym e) (of_address s.0)) (λ e. subst (IsKept p t node) (sym e) (of_value s.0)) s.1) w

  live_local : (local : ℕ) (k : Kind) (register : ℕ) → slice_get t.kinds local ≡ Some k → HasAt p.live node local →
      home_of t.locals local ≡ InRegister register → IsLiveRegister p.graph t.locals p.live node register
  live_local local k register g h there =
      let below : local < length th.text.locals = omega (arith, slice_get_within t.kinds local k g, ap (λ (ks : List Kind). length ks) th.kinds) in
      let short : local < length th.colours = omega (arith, below, colours_long p plan t th) in
      inl (record {
        number = slice_index th.colours local;
        below = plan.registers.exist t.number (slice_index th.colours local) th.colours th.of_colours (contained_index th.colours local short);
        is = register_by (locals_of p.log) p.log t.number (slice_index th.colours local) register
            (sym (ap (λ (hs : List Home). home_of hs local) th.locals ∙ get_or-map (home_of_colour p.log t.number) th.colours local 0 (InRegister 0) short)
            ∙ there);
        live = record {
          local = local;
          has = slice_get-get_or t.locals local (InRegister 0) (omega (arith, below, homes_long p plan t th)) ∙ ap Some there;
          live = h;
        };
      })

  live_kept : (r : ℕ) → IsKept p t node r → IsLiveRegister p.graph t.locals p.live node r
  live_kept r (of_local local k register g live there) = live_local local k register g ((plan.live.each node local).1 live) there
  live_kept r (of_address s) = inr (s, inl refl)
  live_kept r (of_value s) = inr (s, inr refl)

  pub are_kept : AreKept p t node found
  are_kept r = (λ c. kept_live r ((are.each r).0 c), λ w. (are.each r).1 (live_kept r w))

  -- where locals stand in the frame none is in a register
  none_in_frame : locals_of p.log ≡ Frame → (r : ℕ) → IsLiveAmong t.locals p.live node 18 r → ⊥
  none_in_frame frame r l =
      let has = l.live.has in
      let below : l.live.local < length t.kinds =
      omega (arith, slice_get_within t.locals l.live.local (InRegister r) has, homes_long p plan t th, ap (λ (ks : List Kind). length ks) th.kinds) in
      let in_register : home_of t.locals l.live.local ≡ InRegister r = home_there t.locals l.live.local (InRegister r) has in
      let in_frame = framed p t plan th frame l.live.local below in
      let z : ⊥ = cc in z

  pending_only : locals_of p.log ≡ Frame → (r : ℕ) → IsLiveRegister p.graph t.locals p.live node r → is_pending r ≡ true
  pending_only frame r w = ⊎_elim (λ l. absurd (none_in_frame frame r l))
      (λ s. ⊎_elim (λ e. ap is_pending e) (λ e. ap is_pending e) s.1) w

  -- a boundary may keep them
  pub are_keepable : list_all (may_keep p.log) found ≡ true
  are_keepable = by (locals_of p.log) refl
    where
      by : (l : Locals) → locals_of p.log ≡ l → list_all (may_keep p.log) found ≡ true
      by Registers is = ap (λ (m : Locals). list_all (may_keep_at m) found) is ∙ are.kept
      by Frame is = ap (λ (m : Locals). list_all (may_keep_at m) found) is ∙ all_by is_pending found (λ r c. pending_only is r ((are.each r).0 c))

  -- there are none but before a store, where locals stand in the frame
  pub none_live : locals_of p.log ≡ Frame → (IsStoreNode p.graph node → ⊥) → length found ≡ 0
  none_live frame free = none_among found (λ r c. ⊎_elim (λ l. none_in_frame frame r l) (λ s. free s.0) ((are.each r).0 c))

-- What registers hold after a node represents what the thread sees at the next one.
use Rattle.std.proofs.Common.{◌≡◌, ◌≢◌, ◌⊎◌, inl, inr, ℕ, ◌<◌, List, length, ap, arith, sym, ◌∙◌, subst, refl, Bool, true, false, if◌then◌else◌, Option, Some}
use Rattle.std.proofs.Common.{None}
use Rattle.std.specs.Prelude.{slice_get, slice_set, slice_index_or, Contains, ℤ, pos, ◌*◌, ◌%◌, ◌^◌}
use Rattle.std.proofs.lemmas.Bool.{eq-eqb, ne_eqb, true≢false}
use Rattle.std.proofs.lemmas.List.{length-set, get_or-set_same, get_or-set_other}
use Rattle.std.proofs.lemmas.Option.{none-some, same_Some, slice_get_within}
use Rattle.ido_ints.specs.declared.kinds.Kind.{Kind}
use Rattle.ido_ints.specs.Kinds.{bytes_of}
use Rattle.ido_ints.specs.TypedNumbers.{Typed, typed}
use Rattle.ido_ints.proofs.Public.{register_below}
use Rattle.c_tree.specs.Source.{Pending}
use Rattle.rv64_isa.specs.Rows.{read}
use Rattle.memory_layout.specs.Roles.{is_local, pending_address, pending_value}
use Rattle.boundary_code.specs.Boundaries.{IsOnSide}
use Rattle.operator_code.specs.ComputingCode.{Carries}
use Rattle.flow_graph.specs.Nodes.{Action, Eval, Store, Test, Lock, Unlock, End, Node, Graph, successors}
use Rattle.flow_graph.specs.Actions.{Seen}
use Rattle.flow_graph.specs.Lowering.{lowered}
use Rattle.flow_graph.specs.Liveness.{NodeAt, IsLive, is_read_later, Spans}
use Rattle.thread_code.specs.Plans.{Plan, Thread, IsThread, IsPlan, IsNodeOf}
use Rattle.thread_code.specs.RegistersAtNodes.{Enters, HasLowBytes, HasPending, IsFrameAnswered, IsPendingIn, LogView, MayAssign, frame_loads, with_word}
use Rattle.rv64_codegen.proofs.Nodes.{StoresThere}
use Rattle.rv64_codegen.proofs.StoresAfterEvaluations.{owes, is_store, no_store_after}
use Rattle.rv64_codegen.proofs.LocalRegisters.{framed, home_local, homes_differ, of_frame, word_below, word_of}
use Rattle.expr_code.specs.declared.home.Home.{Home}
use Rattle.expr_code.specs.declared.home.Home.TheVariants.{InRegister, InFrame}
use Rattle.expr_code.specs.EvaluationCode.{home_of, is_home, HomeCarries}

-- a value has its bytes in a register where it has its form there
pub low_bytes : (x : List ℕ) (r : ℕ) (k : Kind) (number : ℤ) → Carries x r (typed k number) → HasLowBytes x r k number
low_bytes x r k number c = record {
  held = c.held;
  below = subst (λ (v : ℕ). v < 2 ^ 64) (sym c.form) (register_below k number);
  low = ap (λ (v : ℕ). v % 2 ^ (8 * bytes_of k)) c.form;
}

none_pending : (p : Plan) (a : Action) (seen : Seen) (x : List ℕ) → is_store a ≡ false → IsPendingIn p a seen x
none_pending p (Eval target value next) seen x other = tt
none_pending p (Store variable kind next) seen x other = absurd (true≢false other)
none_pending p (Test condition holds fails) seen x other = tt
none_pending p (Lock lock next) seen x other = tt
none_pending p (Unlock lock next) seen x other = tt
none_pending p End seen x other = tt

same_or_other : (m n : ℕ) → (m ≡ n) ⊎ (m ≢ n)
same_or_other m n = grind arith

-- what stands in a home stands there in another view of the log, too, where its register or its word is as it was
carries_on : (view other : LogView) (x y : List ℕ) (home : Home) (v : Typed) → ((register : ℕ) → home ≡ InRegister register →
    read y register ≡ read x register) →
    ((word : ℕ) → home ≡ InFrame word → other.frame word ≡ view.frame word) → HomeCarries (frame_loads view) x home v → HomeCarries (frame_loads other) y home v
carries_on view other x y (InRegister register) v same on c = record { held = c.held; form = same register refl ∙ c.form }
carries_on view other x y (InFrame word) v same on c = record { held = c.held; answer = ap (λ (n : ℕ). Some n) (on word refl) ∙ c.answer }

-- a word of the frame after a store
word_same : (view : LogView) (word number : ℕ) → (with_word view word number).frame word ≡ number
word_same view word number = ap (λ (b : Bool). if b then number else view.frame word) (eq-eqb word word refl)

word_other : (view : LogView) (word number other : ℕ) → other ≢ word → (with_word view word number).frame other ≡ view.frame other
word_other view word number other apart = ap (λ (b : Bool). if b then number else view.frame other) (ne_eqb other word apart)

module _ (p : Plan) (t : Thread) (plan : IsPlan p) (of : IsThread p t) (node next : ℕ) (is : Node) (at : NodeAt p.graph node is)
    (goes : Contains (successors is.action) next) where
  no_store : owes is.action ≡ false → (m : Node) → NodeAt p.graph next m → is_store m.action ≡ false
  no_store free m there =
      let to : (k : ℕ) (n : Node) → NodeAt p.graph k n → NodeAt (lowered p.flat) k n = λ k n h. subst (λ (g : Graph). NodeAt g k n) plan.lowered h in
      no_store_after p.flat plan.formed node next is m (to node is at) (to next m there) free goes

  -- what is live after a node and not assigned is live before it
  live_before : (local : ℕ) → is.assigns ≢ Some local → IsLive p.graph local next → IsLive p.graph local node
  live_before local other live = is_read_later is at other goes live

  none_assigned : (local : ℕ) → is.assigns ≡ None → is.assigns ≢ Some local
  none_assigned local none e = none-some local (sym none ∙ e)

  module _ (seen : Seen) (view : LogView) (x : List ℕ) (enters : Enters p t node seen view x) where
    held_on : is.assigns ≡ None → (ls : List ℤ) → ls ≡ seen.locals → (other : LogView) (y : List ℕ) → ((word : ℕ) → other.frame word ≡ view.frame word) →
        ((r : ℕ) → is_local r ≡ true → read y r ≡ read x r) → (local : ℕ) (k : Kind) → slice_get t.kinds local ≡ Some k → IsLive p.graph local next →
        HomeCarries (frame_loads other) y (home_of t.locals local) (typed k (slice_index_or ls local (pos 0)))
    held_on none ls same other y on kept local k g live =
        subst (λ (zs : List ℤ). HomeCarries (frame_loads other) y (home_of t.locals local) (typed k (slice_index_or zs local (pos 0)))) (sym same)
        (carries_on view other x y (home_of t.locals local) (typed k (slice_index_or seen.locals local (pos 0)))
        (λ r there. kept r (sym (ap is_home there) ∙ home_local p t plan of local (slice_get_within t.kinds local k g))) (λ word is. on word)
        (enters.locals local k g (live_before local (none_assigned local none) live)))

    -- where nothing is assigned, and no store is pending after the node
    pub enters_on : (later : Seen) (other : LogView) (y : List ℕ) → is.assigns ≡ None → owes is.action ≡ false → later.locals ≡ seen.locals →
        IsOnSide p.log other.side y → ((word : ℕ) → other.frame word ≡ view.frame word) → ((r : ℕ) → is_local r ≡ true → read y r ≡ read x r) →
        Enters p t next later other y
    enters_on later other y none free same on_side on kept = record {
      at_side = on_side;
      count = ap length same ∙ enters.count;
      locals = held_on none later.locals same other y on kept;
      pending = λ m there. none_pending p m.action later y (no_store free m there);
    }

    -- where a store is pending after it
    pub enters_owing : (later : Seen) (y : List ℕ) (store : Pending) (variable : ℕ) (kind : Kind) → is.assigns ≡ None → later.locals ≡ seen.locals →
        later.pending ≡ Some store → IsOnSide p.log view.side y → ((r : ℕ) → is_local r ≡ true → read y r ≡ read x r) →
        StoresThere p.graph.nodes next variable kind → HasPending p store variable kind y → Enters p t next later view y
    enters_owing later y store variable kind none same owing on_side kept stores has = record {
      at_side = on_side;
      count = ap length same ∙ enters.count;
      locals = held_on none later.locals same view y (λ word. refl) kept;
      pending = λ m there.
          let is_there : stores.node ≡ m = same_Some stores.node m (sym stores.at ∙ there) in
          subst (λ (n : Node). IsPendingIn p n.action later y) is_there
          (subst (λ (a : Action). IsPendingIn p a later y) (sym stores.stores)
          (λ other e. subst (λ (s : Pending). HasPending p s variable kind y) (same_Some store other (sym owing ∙ e)) has));
    }

    -- loads of the frame that are answered at the node are at the next one
    pub answered_on : is.assigns ≡ None → (loads : (address bytes : ℕ) → Option ℕ) → IsFrameAnswered p t view node loads → IsFrameAnswered p t view next loads
    answered_on none loads frame local word live home = frame local word (live_before local (none_assigned local none) live) home

  -- ---- Where a local is assigned

  module _ (own : IsNodeOf t node) (local : ℕ) (kind : Kind) (there : slice_get t.kinds local ≡ Some kind) (assigns : is.assigns ≡ Some local) where
    inside : local < length t.kinds
    inside = slice_get_within t.kinds local kind there

    assigned : Spans p.graph t.part local node
    assigned = record {
      low = node;
      high = node;
      from_low = omega arith;
      to_high = omega arith;
      at_low = record { from_first = own.from_first; below_end = own.below_end; is = inr (record { is = is; at = at; assigns = assigns }) };
      at_high = record { from_first = own.from_first; below_end = own.below_end; is = inr (record { is = is; at = at; assigns = assigns }) };
    }

    alive : (l : ℕ) → IsLive p.graph l node → Spans p.graph t.part l node
    alive l live = record {
      low = node;
      high = node;
      from_low = omega arith;
      to_high = omega arith;
      at_low = record { from_first = own.from_first; below_end = own.below_end; is = inl live };
      at_high = record { from_first = own.from_first; below_end = own.below_end; is = inl live };
    }

    not_it : (l : ℕ) → l ≢ local → is.assigns ≢ Some l
    not_it l other e = other (sym (same_Some local l (sym assigns ∙ e)))

    -- another local that is live after the node has another home
    apart : (l : ℕ) (k : Kind) → slice_get t.kinds l ≡ Some k → l ≢ local → IsLive p.graph l next → home_of t.locals l ≢ home_of t.locals local
    apart l k g other live =
        homes_differ p t plan of l local node (slice_get_within t.kinds l k g) inside other (alive l (live_before l (not_it l other) live)) assigned

    module _ (seen : Seen) (number : ℤ) where
      abbrev later : List ℤ
      later = slice_set seen.locals local number

      -- of each local that is live after the node its number, where this is so of the one that is assigned, and of the others
      numbers : (P : (l : ℕ) → Kind → ℤ → Type 0) → local < length seen.locals → P local kind number →
          ((l : ℕ) (k : Kind) → slice_get t.kinds l ≡ Some k → l ≢ local → P l k (slice_index_or seen.locals l (pos 0))) →
          (l : ℕ) (k : Kind) → slice_get t.kinds l ≡ Some k → P l k (slice_index_or later l (pos 0))
      numbers P below one others l k g = by (same_or_other l local)
        where
          by : (l ≡ local) ⊎ (l ≢ local) → P l k (slice_index_or later l (pos 0))
          by (inl same) =
              let kinds : kind ≡ k = same_Some kind k (sym there ∙ subst (λ (m : ℕ). slice_get t.kinds m ≡ Some k) same g) in
              let value : slice_index_or later local (pos 0) ≡ number = get_or-set_same seen.locals local number (pos 0) below in
              subst (λ (m : ℕ). P m k (slice_index_or later m (pos 0))) (sym same)
              (subst (λ (z : ℤ). P local k z) (sym value) (subst (λ (j : Kind). P local j number) kinds one))
          by (inr other) =
              let value : slice_index_or later l (pos 0) ≡ slice_index_or seen.locals l (pos 0) = get_or-set_other seen.locals local l number (pos 0) other in
              subst (λ (z : ℤ). P l k z) (sym value) (others l k g other)

      -- ---- In a register

      module _ (view : LogView) (x y : List ℕ) (enters : Enters p t node seen view x)
          (kept : (r : ℕ) → is_local r ≡ true → InRegister r ≢ home_of t.locals local → read y r ≡ read x r) (register : ℕ)
          (home : home_of t.locals local ≡ InRegister register) (has : Carries y register (typed kind number)) where
        abbrev AtHome : (l : ℕ) → Kind → ℤ → Type 0
        AtHome l k z = IsLive p.graph l next → HomeCarries (frame_loads view) y (home_of t.locals l) (typed k z)

        each : (l : ℕ) (k : Kind) → slice_get t.kinds l ≡ Some k → AtHome l k (slice_index_or later l (pos 0))
        each =
            numbers AtHome (omega (arith, inside, enters.count))
            (λ live. subst (λ (h : Home). HomeCarries (frame_loads view) y h (typed kind number)) (sym home) has)
            (λ l k g other live.
            carries_on view view x y (home_of t.locals l) (typed k (slice_index_or seen.locals l (pos 0)))
            (λ r there. kept r (sym (ap is_home there) ∙ home_local p t plan of l (slice_get_within t.kinds l k g))
            (λ same. apart l k g other live (there ∙ same))) (λ word is. refl)
            (enters.locals l k g (live_before l (not_it l other) live)))

        pub enters_set : owes is.action ≡ false → IsOnSide p.log view.side y → Enters p t next (record seen { locals = later }) view y
        enters_set free on_side = record {
          at_side = on_side;
          count = length-set seen.locals local number ∙ enters.count;
          locals = each;
          pending = λ m at_next. none_pending p m.action (record seen { locals = later }) y (no_store free m at_next);
        }

      -- ---- In the frame

      -- the number is computed, and its word's address
      pub may_assign : (view : LogView) (x y : List ℕ) → Enters p t node seen view x → IsOnSide p.log view.side y → (word : ℕ) →
          home_of t.locals local ≡ InFrame word → read y pending_address ≡ word → Carries y pending_value (typed kind number) →
          MayAssign p t node local number seen view y
      may_assign view x y enters on_side word home address carries = record {
        at_side = on_side;
        count = enters.count;
        locals = λ l w k g beside stands.
            let same : beside.goes.is ≡ is = same_Some beside.goes.is is (sym beside.goes.at ∙ at) in
            let onward : Contains (successors is.action) beside.next = subst (λ (n : Node). Contains (successors n.action) beside.next) same beside.goes.goes in
            subst (λ (h : Home). HomeCarries (frame_loads view) x h (typed k (slice_index_or seen.locals l (pos 0)))) stands
            (enters.locals l k g (is_read_later is at (not_it l beside.other) onward beside.live));
        assigned = record {
          word = word;
          home = home;
          address = address;
          below = word_below p t plan of local word inside home;
          carries = λ k g. subst (λ (j : Kind). Carries y pending_value (typed j number)) (same_Some kind k (sym there ∙ g)) carries;
        };
      }

      -- and stored there
      module _ (view : LogView) (y : List ℕ) (may : MayAssign p t node local number seen view y) where
        abbrev word : ℕ
        word = may.assigned.word

        abbrev stored : ℕ
        stored = read y pending_value

        abbrev InWord : (l : ℕ) → Kind → ℤ → Type 0
        InWord l k z = IsLive p.graph l next → HomeCarries (frame_loads (with_word view word stored)) y (home_of t.locals l) (typed k z)

        it_is : InWord local kind number
        it_is live =
            let c = may.assigned.carries kind there in
            subst (λ (h : Home). HomeCarries (frame_loads (with_word view word stored)) y h (typed kind number)) (sym may.assigned.home)
            (record { held = c.held; answer = ap (λ (n : ℕ). Some n) (word_same view word stored ∙ c.form) })

        others_are : (l : ℕ) (k : Kind) → slice_get t.kinds l ≡ Some k → l ≢ local → InWord l k (slice_index_or seen.locals l (pos 0))
        others_are l k g other live =
            let below = slice_get_within t.kinds l k g in
            let home = framed p t plan of (of_frame p t plan of local word inside may.assigned.home) l below in
            let w : ℕ = word_of p t plan of l in
            let differ : w ≢ word = λ same. apart l k g other live (home ∙ ap InFrame same ∙ sym may.assigned.home) in
            let c = may.locals l w k g (record { next = next; goes = record { is = is; at = at; goes = goes }; live = live; other = other }) home in
            subst (λ (h : Home). HomeCarries (frame_loads (with_word view word stored)) y h (typed k (slice_index_or seen.locals l (pos 0)))) (sym home)
            (record { held = c.held; answer = ap (λ (n : ℕ). Some n) (word_other view word stored w differ) ∙ c.answer })

        pub enters_stored : owes is.action ≡ false → Enters p t next (record seen { locals = later }) (with_word view word stored) y
        enters_stored free = record {
          at_side = may.at_side;
          count = length-set seen.locals local number ∙ may.count;
          locals = numbers InWord (omega (arith, inside, may.count)) it_is others_are;
          pending = λ m at_next. none_pending p m.action (record seen { locals = later }) y (no_store free m at_next);
        }

-- A thread whose attempt goes on holds a mutex exactly where the record of its last boundary has a point.
use Rattle.crash_simulation.proofs.Common.{◌≡◌, ◌≢◌, ℕ, List, sym, ◌∙◌, ap, arith, Bool, true, false, Option, Some, inl, inr, ⊎_elim, slice_get, true≢false}
use Rattle.crash_simulation.proofs.Common.{holds_none, cases_Bool, FlowState, Plan, Code, Record, Describes, DescribesAs, between, inside, AbstractRun, kept_of}
use Rattle.crash_simulation.proofs.Common.{now_of}
use Rattle.crash_simulation.proofs.Common.{System, IsSystem, flat_of, IsGoing, held_now, held_before, holds_none_is, [], ◌∷◌, refl, GraphThread, IsNodeOf}
use Rattle.crash_simulation.proofs.Common.{LockName, held_names_before, is_empty, lock_number, map}
use Rattle.recovered_threads.proofs.Public.{none_before, none_if}
use Rattle.crash_simulation.proofs.StatesMatchSource.{kept_matches, now_orderly, resumed}
use Rattle.crash_simulation.proofs.GraphAfterBegin.{matches_now}

-- ---- What a record says of what its thread holds

point_now : {p : Plan} {code : Code p} {state : FlowState} {r : Record} → Describes p code state r → holds_none state.holders code.thread.number ≡ false →
    r.point ≢ 0
point_now (between none point) some = absurd (true≢false (sym none ∙ some))
point_now (inside some i) some' = i.point

pub point_where : {p : Plan} (code : Code p) (state : FlowState) (late : Bool) (r : Record) → DescribesAs p code state late r →
    holds_none state.holders code.thread.number ≡ false → r.point ≢ 0
point_where code state false r describes some = point_now describes some
point_where code state true r past some = past.point

pub holds_where : {p : Plan} {code : Code p} {state : FlowState} {r : Record} → Describes p code state r → r.point ≢ 0 →
    holds_none state.holders code.thread.number ≡ false
holds_where (between none point) some = absurd (some point)
holds_where (inside held i) some = held

none_now : {p : Plan} {code : Code p} {state : FlowState} {r : Record} → Describes p code state r → holds_none state.holders code.thread.number ≡ true →
    r.point ≡ 0
none_now (between free point) none = point
none_now (inside some i) none = absurd (true≢false (sym none ∙ some))

-- of one that holds nothing
pub point_free : {p : Plan} (code : Code p) (state : FlowState) (late : Bool) (r : Record) → DescribesAs p code state late r →
    holds_none state.holders code.thread.number ≡ true → r.point ≡ 0
point_free code state false r describes none = none_now describes none
point_free code state true r past none = absurd (true≢false (sym none ∙ past.holds))

-- ---- What a thread holds since its attempt began

module _ (y : System) (s : IsSystem y) (b : AbstractRun y) (code : Code y.plan) (going : IsGoing b.config code.thread.number) where
  open code.thread use {number as n}

  in_kept : (lock : ℕ) → slice_get (now_of y b).holders lock ≡ Some (Some n) → slice_get (kept_of y b).holders lock ≡ Some (Some n)
  in_kept lock has =
      let now_holders = (matches_now y s b).holders in
      ⊎_elim (λ kept. ap (λ (hs : List (Option ℕ)). slice_get hs lock) (kept_matches y s b).holders ∙ kept)
      (λ l. absurd (omega (arith, l.begun, going)))
      (held_now (flat_of y) b.config n lock (resumed y s b).resumed.invariant
      (ap (λ (hs : List (Option ℕ)). slice_get hs lock) (sym now_holders) ∙ has))

  -- where it holds none in what is kept it holds none now
  pub held_in_kept : holds_none (now_of y b).holders n ≡ false → holds_none (kept_of y b).holders n ≡ false
  held_in_kept some = elim (cases_Bool (holds_none (kept_of y b).holders n)) [
    | inl none ↦
        absurd (true≢false (sym (none_if 0 n (now_of y b).holders (λ lock has. holds_none_is n (kept_of y b).holders lock none (in_kept lock has))) ∙ some))
    | inr kept ↦ kept
  ]

  -- where it holds none now it held none
  none_in_kept : holds_none (now_of y b).holders n ≡ true → holds_none (kept_of y b).holders n ≡ true
  none_in_kept none = none_if 0 n (kept_of y b).holders (λ lock has.
      let source = ap (λ (hs : List (Option ℕ)). slice_get hs lock) (sym (kept_matches y s b).holders) ∙ has in
      ⊎_elim (λ still. holds_none_is n (now_of y b).holders lock none (ap (λ (hs : List (Option ℕ)). slice_get hs lock) (matches_now y s b).holders ∙ still))
      (λ u. omega (arith, u.begun, going)) (held_before (flat_of y) b.config n lock (resumed y s b).resumed.invariant source))

  -- where no name is held before its node, a record that describes what is kept has no point
  pub point_outside : (graph_thread : GraphThread) → slice_get (now_of y b).graph_threads n ≡ Some graph_thread → IsNodeOf code.thread graph_thread.at →
      (late : Bool) (old : Record) → DescribesAs y.plan code (kept_of y b) late old → held_names_before y.plan code.thread graph_thread.at ≡ [] →
      old.point ≡ 0
  point_outside graph_thread walks own late old describes free =
      let none : holds_none (now_of y b).holders n ≡ true =
      none_before y.plan (now_of y b) s.plan (now_orderly y s b) code.thread code.of graph_thread walks own
      ∙ ap (λ (names : List LockName). is_empty (map (lock_number graph_thread.locals) names)) free in
      point_free code (kept_of y b) late old describes (none_in_kept none)

  -- and where one is, it has one
  pub point_held : (graph_thread : GraphThread) → slice_get (now_of y b).graph_threads n ≡ Some graph_thread → IsNodeOf code.thread graph_thread.at →
      (late : Bool) (old : Record) → DescribesAs y.plan code (kept_of y b) late old → held_names_before y.plan code.thread graph_thread.at ≢ [] →
      old.point ≢ 0
  point_held graph_thread walks own late old describes some =
      let now_some : holds_none (now_of y b).holders n ≡ false =
      none_before y.plan (now_of y b) s.plan (now_orderly y s b) code.thread code.of graph_thread walks own
      ∙ numbered (held_names_before y.plan code.thread graph_thread.at) some in
      point_where code (kept_of y b) late old describes (held_in_kept now_some)
    where
      numbered : (names : List LockName) → names ≢ [] → is_empty (map (lock_number graph_thread.locals) names) ≡ false
      numbered [] some = absurd (some refl)
      numbered (name ∷ names) some = refl

  -- a record that describes what it is now has a point only if the one has that describes what is kept
  pub point_before : (late : Bool) (old : Record) {new : Record} → DescribesAs y.plan code (kept_of y b) late old → Describes y.plan code (now_of y b) new →
      new.point ≢ 0 → old.point ≢ 0
  point_before late old kept describes some = point_where code (kept_of y b) late old kept (held_in_kept (holds_where describes some))

-- Once no hart takes locks any more, all are held as in the kept state; and when all are free.
use Rattle.std.proofs.Common.{◌≡◌, ◌↔◌, ℕ, suc, ◌+◌, ◌<◌, List, [], ◌∷◌, length, refl, ap, ap₂, arith, sym, ◌∙◌, subst, cond, Bool, true, false, Option}
use Rattle.std.proofs.Common.{Some, None, is_none}
use Rattle.std.specs.Prelude.{slice_get}
use Rattle.std.proofs.lemmas.Bool.{true≢false}
use Rattle.std.proofs.lemmas.Option.{none-some, slice_get_within}
use Rattle.ido_base.specs.Locks.{is_held_by, held_from, holds_none, has_lock}
use Rattle.machine_model.specs.declared.phase.Phase.{Phase}
use Rattle.machine_model.specs.declared.phase.Phase.TheVariants.{Take, Wait, Resume, Run, Done, Ended}
use Rattle.machine_model.specs.Machine.{Hart, World, durable_point}
use Rattle.flow_graph.specs.Actions.{FlowState}
use Rattle.flow_graph.proofs.Public.{found_in}
use Rattle.log_states.specs.Logs.{Record}
use Rattle.hart_runs.specs.Calls.{IsInPhase}
use Rattle.thread_code.specs.Plans.{Plan, IsPlan}
use Rattle.recovered_threads.specs.RecordDescriptions.{Code, Codes, IsOrderly, Describes, DescribesAs, between, inside, AllDescribe, locks_of}
use Rattle.recovered_threads.specs.RecoveryStates.{Gathers, AreGathering}
use Rattle.recovered_threads.specs.Laws.{GatheredAreKept, ReadyAsKept, PointsSettle}
use Rattle.recovered_threads.proofs.ChangedWorlds.{same_there}
use Rattle.recovered_threads.proofs.RecordedLocks.{locks_are_held, between_locks, held_is, holds_none_is}

-- ---- Who holds what

same_lists : {A : Type 0} (xs ys : List A) → length xs ≡ length ys →
    ((k : ℕ) (x y : A) → slice_get xs k ≡ Some x → slice_get ys k ≡ Some y → x ≡ y) → xs ≡ ys
same_lists [] [] count same = refl
same_lists [] (y ∷ ys) count same = absurd (let z : ⊥ = omega (arith, count) in z)
same_lists (x ∷ xs) [] count same = absurd (let z : ⊥ = omega (arith, count) in z)
same_lists (x ∷ xs) (y ∷ ys) count same = ap₂ ◌∷◌ (same 0 x y refl refl) (same_lists xs ys (omega (arith, count)) (λ k a b. same (suc k) a b))

module _ {p : Plan} (codes : Codes p) {kept : FlowState} {w : World} (lates : ℕ → Bool) {records : ℕ → Record} (plan : IsPlan p) (orderly : IsOrderly p kept)
    (describe : AllDescribe p codes kept lates records) (gathering : AreGathering w records) (none : (g : ℕ) → ¬ (IsInPhase w g Take))
    (count : length w.harts ≡ length p.graph.threads) where
  -- a thread's locks are those of its record
  held : (n : ℕ) (below : n < length p.graph.threads) (lock : ℕ) →
      (has_lock (locks_of (records n)) lock ≡ true) ↔ (slice_get kept.holders lock ≡ Some (Some n))
  held n below lock =
      let is = locks_are_held p (codes.each n below) kept (lates n) (records n) plan orderly (describe n below) lock in
      subst (λ (k : ℕ). (has_lock (locks_of (records n)) lock ≡ true) ↔ (slice_get kept.holders lock ≡ Some (Some k))) (codes.number n below) is

  -- a lock of a thread's record isn't free: the thread's hart has it
  not_free : (n lock : ℕ) (hart : Hart) → slice_get w.harts n ≡ Some hart → has_lock (locks_of (records n)) lock ≡ true →
      slice_get w.holders lock ≡ Some None → (phase : Phase) → hart.phase ≡ phase → Gathers w n (records n) phase → ⊥
  not_free n lock hart here has there Take is g = none n (record { hart = hart; here = here; phase_is = is })
  not_free n lock hart here has there Wait is g = none-some n (g.1 lock None there has)
  not_free n lock hart here has there Resume is g = g
  not_free n lock hart here has there Run is g = g
  not_free n lock hart here has there Done is g =
      true≢false (sym has ∙ ap (λ (locks : List ℕ). has_lock locks lock) (between_locks (records n) g))
  not_free n lock hart here has there Ended is g = g

  same_holder : (lock : ℕ) (x y : Option ℕ) → slice_get w.holders lock ≡ Some x → slice_get kept.holders lock ≡ Some y → x ≡ y
  same_holder lock None None here there = refl
  same_holder lock None (Some n) here there =
      let below = orderly.holders lock n there in
      let found = found_in w.harts n (omega (arith, below, count)) in
      absurd (not_free n lock found.0 found.1 ((held n below lock).1 there) here found.0.phase refl (gathering.each n found.0 found.1))
  same_holder lock (Some h) y here there =
      let own = gathering.held lock h here in
      same_there (slice_get kept.holders lock) (Some h) y ((held h (omega (arith, own.exists, count)) lock).0 own.has) there

pub gathered_are_kept : GatheredAreKept
gathered_are_kept p codes kept w lates records plan orderly describe gathering none harts locks =
    same_lists w.holders kept.holders locks (same_holder codes lates plan orderly describe gathering none harts)

pub ready_as_kept : ReadyAsKept
ready_as_kept p code kept w late r plan orderly describes ready count lock = (
  λ held. of.0 (ready.only lock held),
  λ there.
      let found = found_in w.holders lock (let below = slice_get_within kept.holders lock (Some code.thread.number) there in omega (arith, below, count)) in
      found.1 ∙ ap (λ (x : Option ℕ). Some x) (ready.all lock found.0 found.1 (of.1 there)),
)
  where
    of : (has_lock (locks_of r) lock ≡ true) ↔ (slice_get kept.holders lock ≡ Some (Some code.thread.number))
    of = locks_are_held p code kept late r plan orderly describes lock

-- ---- All free

pub none_if : (at n : ℕ) (holders : List (Option ℕ)) → ((lock : ℕ) → slice_get holders lock ≡ Some (Some n) → ⊥) → is_none (held_from at holders n) ≡ true
none_if at n [] free = refl
none_if at n (o ∷ holders) free = by (is_held_by n o) refl (none_if (at + 1) n holders (λ lock. free (suc lock)))
  where
    by : (b : Bool) → is_held_by n o ≡ b → is_none (held_from (at + 1) holders n) ≡ true → is_none (cond b (Some at) (held_from (at + 1) holders n)) ≡ true
    by true e h = absurd (free 0 (ap (λ (x : Option ℕ). Some x) (held_is n o e)))
    by false e h = h

-- a point is 0 exactly where its thread holds nothing
point_on_time : (p : Plan) (code : Code p) (kept : FlowState) (r : Record) → Describes p code kept r →
    (r.point ≡ 0) ↔ (holds_none kept.holders code.thread.number ≡ true)
point_on_time p code kept r (between none point) = (λ e. none, λ e. point)
point_on_time p code kept r (inside some i) = (λ e. absurd (i.point e), λ e. absurd (true≢false (sym e ∙ some)))

point_holds : (p : Plan) (code : Code p) (kept : FlowState) (late : Bool) (r : Record) → DescribesAs p code kept late r →
    (r.point ≡ 0) ↔ (holds_none kept.holders code.thread.number ≡ true)
point_holds p code kept false r describes = point_on_time p code kept r describes
point_holds p code kept true r past = (λ e. absurd (past.point e), λ e. absurd (true≢false (sym e ∙ past.holds)))

pub points_settle : PointsSettle
points_settle log p codes kept lates records words orderly describe points = (free, settled)
  where
    of : (n : ℕ) (below : n < length p.graph.threads) → ((records n).point ≡ 0) ↔ (holds_none kept.holders n ≡ true)
    of n below =
        subst (λ (k : ℕ). ((records n).point ≡ 0) ↔ (holds_none kept.holders k ≡ true)) (codes.number n below)
        (point_holds p (codes.each n below) kept (lates n) (records n) (describe n below))

    free : ((n : ℕ) → n < length p.graph.threads → durable_point log words n ≡ 0) → (lock : ℕ) (holder : Option ℕ) → slice_get kept.holders lock ≡ Some holder →
        holder ≡ None
    free zeros lock None there = refl
    free zeros lock (Some n) there =
        let below = orderly.holders lock n there in
        absurd (holds_none_is n kept.holders lock ((of n below).0 (sym (points n below) ∙ zeros n below)) there)

    settled : ((lock : ℕ) (holder : Option ℕ) → slice_get kept.holders lock ≡ Some holder → holder ≡ None) → (n : ℕ) → n < length p.graph.threads →
        durable_point log words n ≡ 0
    settled none n below =
        points n below ∙ (of n below).1 (none_if 0 n kept.holders (λ lock there. none-some n (sym (none lock (Some n) there))))

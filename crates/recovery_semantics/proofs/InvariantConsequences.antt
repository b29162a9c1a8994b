-- What the invariant says of reads, of durable memory and of the schedule.
use Rattle.std.proofs.Common.{false, true, Bool, Option, zero, ◌+◌, ◌≡◌, refl, ℕ, suc, List, [], ◌∷◌, length, map, replicate, sym, ◌∙◌, ap, subst, arith, Some}
use Rattle.std.proofs.Common.{ℤ, ⊎_elim, slice_get, is_none, if◌then◌else◌, slice_index_or, pos}
use Rattle.std.proofs.lemmas.Bool.{cases_eq}
use Rattle.ido_base.specs.Locks.{is_held_by, held_from}
use Rattle.c_tree.specs.Source as m
use Rattle.source_machine.specs.ElementLocks.{element_lock}
use Rattle.source_machine.specs.Discipline.{Guards}
use Rattle.source_machine.proofs.Public.{goes_on, ended_appended, some_is, solo as solo_law}
use Rattle.recovery_semantics.specs.ElementHistories.{IsSince, IsStable, History, history_of, durable_number, history_at, number_at}
use Rattle.recovery_semantics.specs.Attempts.{IsOverrun}
use Rattle.recovery_semantics.specs.Configs.{IsNotOverrun, now, attempt_of}
use Rattle.recovery_semantics.specs.Events.{steps_begun}
use Rattle.recovery_semantics.specs.Laws.{StoredIsSince, SinceStays, SinceIsPersisted, SinceSettles, WritersGuard, WritersApart, BetweenIsKept, BetweenIsStable}
use Rattle.recovery_semantics.specs.Laws.{GoesAlone, SettlesAsItIs, PathsStay, ReadsAreRight, DurableIsKept, ScheduleGrows, SectionsStay, NowStays}
use Rattle.recovery_semantics.proofs.StableHistories.{since_own, since_again, since_persisted, stable_since, durable_stable}
use Rattle.recovery_semantics.proofs.Paths.{writes_more, held_same, writer_guards}
use Rattle.recovery_semantics.proofs.Schedules.{alone, equal_self}
use Rattle.recovery_semantics.proofs.CommitsKeepInvariant.{path, first_runs, rest_after, rest_ended, same_other}

-- ---- Reads

pub reads_are_right : ReadsAreRight
reads_are_right x old t v e i guards rewritten =
    let own = solo_law x old.kept old.uncommitted t i.keeps i.runs i.hands in
    let kept = m.after_from old.kept (replicate (steps_begun old t) t) in
    let lock : ℕ = element_lock x.variables v e in
    let mine : Guards x kept t v e = held_same t (now old).holders kept.holders lock own.same.held guards in
    i.live v e (λ u w. ⊎_elim
    (λ same.
    let ahead : IsOverrun old.kept t (attempt_of old t) v e = subst (λ (k : ℕ). IsOverrun old.kept k (attempt_of old k) v e) same w in
    ahead.unwritten (rewritten ahead.later ahead.not_done ahead.within ahead.at))
    (λ n.
    let before : Guards x old.kept u v e = writer_guards x u (attempt_of old u).longest old.kept v e i.keeps (i.tried u).inner
    (record { before = w.later; within = w.within; at = w.at }) in
    let theirs : Guards x kept u v e = held_same u old.kept.holders kept.holders lock (sym (same_other x old t i u n).held) before in
    n (some_is u t (some_is (Some u) (Some t) (sym theirs ∙ mine))))
    (cases_eq u t))

-- ---- Durable memory

numbers_same : (hs : List History) (ns : List ℤ) → length hs ≡ length ns →
    ((e : ℕ) → durable_number (slice_index_or hs e (history_of (pos 0))) ≡ slice_index_or ns e (pos 0)) → map durable_number hs ≡ ns
numbers_same [] [] l same = refl
numbers_same [] (n ∷ ns) l same = absurd (omega (arith, l))
numbers_same (h ∷ hs) [] l same = absurd (omega (arith, l))
numbers_same (h ∷ hs) (n ∷ ns) l same = λ i. same 0 i ∷ numbers_same hs ns (omega (arith, l)) (λ e. same (suc e)) i

variables_same : (hss : List (List History)) (nss : List (List ℤ)) → map length hss ≡ map length nss →
    ((v e : ℕ) → durable_number (slice_index_or (slice_index_or hss v []) e (history_of (pos 0))) ≡ slice_index_or (slice_index_or nss v []) e (pos 0)) →
    map (map durable_number) hss ≡ nss
variables_same [] [] l same = refl
variables_same [] (ns ∷ nss) l same = cc
variables_same (hs ∷ hss) [] l same = cc
variables_same (hs ∷ hss) (ns ∷ nss) l same =
    let one : length hs ≡ length ns = cc in
    let more : map length hss ≡ map length nss = cc in
    λ i. numbers_same hs ns one (same 0) i ∷ variables_same hss nss more (λ v. same (suc v)) i

pub durable_is_kept : DurableIsKept
durable_is_kept x old i none = variables_same old.memory old.kept.variables i.size (λ v e.
    durable_stable (history_at old.memory v e) (number_at old.kept v e) (i.durable v e (λ u. none u v e)))

-- ---- The schedule

pub schedule_grows : ScheduleGrows
schedule_grows x from old t attempts schedule i settled kept =
    let first = replicate (steps_begun old t) t in
    let on = goes_on from schedule first kept.runs in
    record {
      runs = on.runs ∙ (ap (λ (z : m.State). m.runs_from z first) kept.is ∙ first_runs x old t i);
      is = on.after ∙ ap (λ (z : m.State). m.after_from z first) kept.is;
    }

pub sections_stay : SectionsStay
sections_stay s schedule more t = grind (arith, ended_appended)

pub now_stays : NowStays
now_stays x old t attempts i settled = record { is = rest_after x old t i; ended = rest_ended x old t i }

-- ---- Writers

pub writers_guard : WritersGuard
writers_guard x old t v e i w = writer_guards x t (attempt_of old t).longest old.kept v e i.keeps (i.tried t).inner w

pub writers_apart : WritersApart
writers_apart x old one other v e i n w w' =
    let mine = writers_guard x old one v e i w in
    let theirs = writers_guard x old other v e i w' in
    n (some_is other one (some_is (Some other) (Some one) (sym theirs ∙ mine)))

-- a thread that holds none holds none of them
none_from : (hs : List (Option ℕ)) (at t k : ℕ) → is_none (held_from at hs t) ≡ true → slice_get hs k ≡ Some (Some t) → ⊥
none_from [] at t k none h = cc
none_from (o ∷ hs) at t zero none h =
    let is : is_held_by t o ≡ true = ap (is_held_by t) (some_is o (Some t) h) ∙ equal_self t in
    let off : false ≡ true = ap (λ (b : Bool). is_none (if b then Some at else held_from (at + 1) hs t)) (sym is) ∙ none in
    cc
none_from (o ∷ hs) at t (suc k) none h = by (is_held_by t o) none (λ g. none_from hs (at + 1) t k g h)
  where
    by : (b : Bool) → is_none (if b then Some at else held_from (at + 1) hs t) ≡ true → (is_none (held_from (at + 1) hs t) ≡ true → ⊥) → ⊥
    by true g more = cc
    by false g more = more g

pub between_is_kept : BetweenIsKept
between_is_kept x old i between = durable_is_kept x old i (λ u v e w.
    none_from old.kept.holders 0 u (element_lock x.variables v e) (between u) (writers_guard x old u v e i w))

pub between_is_stable : BetweenIsStable
between_is_stable x old i between = record {
  size = i.size;
  each = λ v e. i.durable v e (λ u w. none_from old.kept.holders 0 u (element_lock x.variables v e) (between u) (writers_guard x old u v e i w));
}

-- ---- Paths

pub goes_alone : GoesAlone
goes_alone x old t i going = alone x old t i going

pub settles_as_it_is : SettlesAsItIs
settles_as_it_is x old t attempts i settled = (solo_law x old.kept old.uncommitted t i.keeps i.runs i.hands).same

pub paths_stay : PathsStay
paths_stay x old t attempts u k i settled n l = path x old t i u k n l

-- ---- Stores

pub stored_is_since : StoredIsSince
stored_is_since old new i j n s = subst (λ (h : History). IsSince h (length (history_at old i j).values)) (sym s.own) (since_own (history_at old i j) n)

pub since_stays : SinceStays
since_stays old new i j n s v e q other since = ⊎_elim
    (λ is. subst (λ (h : History). IsSince h q) (sym is) since)
    (λ is. subst (λ (h : History). IsSince h q) (sym is) (since_again (history_at old v e) q since))
    (s.others v e other)

pub since_is_persisted : SinceIsPersisted
since_is_persisted old new v e q r since = since_persisted (history_at old v e) (history_at new v e) q (r.each v e) since

pub since_settles : SinceSettles
since_settles x old t v e q i w since low =
    let caught_up : IsNotOverrun old v e = λ u h. ⊎_elim
    (λ same.
    let ahead : IsOverrun old.kept t (attempt_of old t) v e = subst (λ (k : ℕ). IsOverrun old.kept k (attempt_of old k) v e) same h in
    ahead.unwritten w)
    (λ n. writers_apart x old t u v e i n (writes_more old.kept t (attempt_of old t).done (attempt_of old t).longest v e (i.tried t).within w)
    (record { before = h.later; within = h.within; at = h.at }))
    (cases_eq u t) in
    subst (λ (n : ℤ). IsStable (history_at old.memory v e) n) (i.live v e caught_up)
    (stable_since (history_at old.memory v e) q since low (i.there v e))

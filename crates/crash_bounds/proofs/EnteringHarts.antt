-- How many of its steps a hart is from having entered recovery, and that each event leaves it no more, and a round one less.
use Rattle.std.proofs.Common.{◌≡◌, ◌≢◌, inl, inr, refl, ℕ, zero, suc, ◌+◌, ◌*◌, ◌/◌, ◌%◌, ◌<◌, ◌≤◌, List, [], ◌∷◌, length, map, set}
use Rattle.std.proofs.Common.{ap, sym, ◌∙◌, subst, arith, cond, Bool, true, false, Option, Some, None}
use Rattle.std.specs.Prelude.{slice_get, ◌==◌}
use Rattle.std.proofs.lemmas.Bool.{cases_eq}
use Rattle.std.proofs.Math.ListN.{length-set}
use Rattle.machine_events.specs.declared.event.Event.{Event}
use Rattle.machine_events.specs.declared.event.Event.TheVariants.{Step, Evict, Crash, Start}
use Rattle.machine_events.specs.declared.event.Reply.TheVariants.{Moved, Waits, Still}
use Rattle.machine_events.specs.Cores.{is_idle}
use Rattle.ido_base.specs.Words.{Word, word_of, word_at, last_position, written_back, evicted_from, evicted}
use Rattle.rv64_isa.specs.declared.object.Slot.{Slot}
use Rattle.machine_model.specs.declared.phase.Phase.{Phase}
use Rattle.machine_model.specs.declared.phase.Phase.TheVariants.{Take, Wait, Resume, Run, Done, Ended}
use Rattle.machine_model.specs.Machine.{Hart, World, Outcome, with_hart, record_of, is_taking, happens, stepped, after_event, reply_to}
use Rattle.machine_model.specs.Machine.{started_anew}
use Rattle.machine_model.proofs.Public.{get-set_same, get-set_other, after_start, anew_found, anew_length}
use Rattle.eviction_laws.specs.Evictions.{is_entering}
use Rattle.eviction_laws.proofs.Public.{GoesAlike, alike_refl, step_alike}
use Rattle.hart_runs.specs.Calls.{IsInPhase, TakesLocks, AwaitsOthers}
use Rattle.hart_runs.proofs.Public.{takes_step, waits_step, resumes_step, stopped_stay}
use Rattle.compiler_correctness.specs.Translations.{HaveNoCrash}
use Rattle.crash_bounds.proofs.CountedLocks.{count_missing, count_stays, count_less}

-- ---- How far a hart is

-- how many of its steps a hart in that phase needs at most, where it waits for no other and so many locks are missing
abbrev pub left : (missing : ℕ) → Phase → ℕ
left missing Take = suc (suc (suc missing))
left missing Wait = 2
left missing Resume = 1
left missing Run = 0
left missing Done = 0
left missing Ended = 0

abbrev pub missing_of : World → (h : ℕ) → ℕ
missing_of w h = count_missing w.holders (record_of w.log w.words h) h

-- the hart of that number, where there is one, needs so many at most
abbrev pub IsWithin : World → (h most : ℕ) → Type 0
IsWithin w h most = (hart : Hart) → slice_get w.harts h ≡ Some hart → left (missing_of w h) hart.phase ≤ most

left_apart : (n m : ℕ) (phase : Phase) → is_taking phase ≡ false → left n phase ≡ left m phase
left_apart n m Take e = absurd (let never : true ≡ false = e in cc)
left_apart n m Wait e = refl
left_apart n m Resume e = refl
left_apart n m Run e = refl
left_apart n m Done e = refl
left_apart n m Ended e = refl

pub left_most : (n : ℕ) (phase : Phase) → left n phase ≤ n + 3
left_most n Take = omega arith
left_most n Wait = omega arith
left_most n Resume = omega arith
left_most n Run = omega arith
left_most n Done = omega arith
left_most n Ended = omega arith

pub left_none : (n : ℕ) (phase : Phase) → left n phase ≤ 0 → is_entering phase ≡ false
left_none n Take e = absurd (omega (arith, e))
left_none n Wait e = absurd (omega (arith, e))
left_none n Resume e = absurd (omega (arith, e))
left_none n Run e = refl
left_none n Done e = refl
left_none n Ended e = refl

pub taking_enters : (phase : Phase) → is_entering phase ≡ false → is_taking phase ≡ false
taking_enters Take e = absurd (let never : true ≡ false = e in cc)
taking_enters Wait e = refl
taking_enters Resume e = refl
taking_enters Run e = refl
taking_enters Done e = refl
taking_enters Ended e = refl

pub left_out : (n : ℕ) (phase : Phase) → is_entering phase ≡ false → left n phase ≡ 0
left_out n Take e = absurd (let never : true ≡ false = e in cc)
left_out n Wait e = absurd (let never : true ≡ false = e in cc)
left_out n Resume e = absurd (let never : true ≡ false = e in cc)
left_out n Run e = refl
left_out n Done e = refl
left_out n Ended e = refl

-- ---- Worlds after a crash

-- no word has been stored to since the crash
pub record IsFresh (words : List Word) : Type 0 where
  pub values : List ℕ
  pub is : words ≡ map word_of values

abbrev pub is_gathering : Phase → Bool
is_gathering Take = true
is_gathering Wait = true
is_gathering Resume = false
is_gathering Run = false
is_gathering Done = true
is_gathering Ended = false

abbrev pub AllPass : (Phase → Bool) → (wanted : Bool) → World → Type 0
AllPass test wanted w = (h : ℕ) (hart : Hart) → slice_get w.harts h ≡ Some hart → test hart.phase ≡ wanted

-- harts take their locks, and memory stays as the crash left it; or none takes any
pub data IsEntering (w : World) : Type 0 where
  taking : IsFresh w.words → AllPass is_gathering true w → IsEntering w
  none_takes : AllPass is_taking false w → IsEntering w

fresh_words : (values : List ℕ) (at : ℕ) →
    set (map word_of values) at (written_back (word_at (map word_of values) at) (last_position (word_at (map word_of values) at))) ≡ map word_of values
fresh_words [] at = refl
fresh_words (value ∷ values) zero = refl
fresh_words (value ∷ values) (suc at) = ap (λ (words : List Word). word_of value ∷ words) (fresh_words values at)

fresh_chosen : (chosen : Bool) (values : List ℕ) (at : ℕ) →
    cond chosen (set (map word_of values) at (written_back (word_at (map word_of values) at) (last_position (word_at (map word_of values) at))))
    (map word_of values) ≡ map word_of values
fresh_chosen true values at = fresh_words values at
fresh_chosen false values at = refl

fresh_from : (count : ℕ) (values : List ℕ) (at mask : ℕ) → evicted_from (map word_of values) at mask count ≡ map word_of values
fresh_from zero values at mask = refl
fresh_from (suc count) values at mask =
    ap (λ (words : List Word). evicted_from words (at + 1) (mask / 2) count) (fresh_chosen (mask % 2 == 1) values at)
    ∙ fresh_from count values (at + 1) (mask / 2)

fresh_stays : (words : List Word) (line mask : ℕ) → IsFresh words → evicted words line mask ≡ words
fresh_stays words line mask fresh =
    ap (λ (ws : List Word). evicted ws line mask) fresh.is ∙ fresh_from 8 fresh.values (8 * line) mask ∙ sym fresh.is

-- ---- What an event leaves

pub record Lowers (w v : World) : Type 0 where
  pub entering : IsEntering v
  pub lowers : (h most : ℕ) → IsWithin w h most → IsWithin v h most
  pub count : length v.harts ≡ length w.harts

-- of a step of hart g: where no hart needs more than so many and one, that hart needs so many at most; and where the step is no wait, so it is if only that
-- hart needs no more
pub record Goes (w : World) (o : Outcome) (g : ℕ) : Type 0 where
  pub is : Lowers w o.0
  pub own : (most : ℕ) → ((h : ℕ) → IsWithin w h (suc most)) → IsWithin o.0 g most
  pub alone : is_idle o.1 ≡ false → (most : ℕ) → IsWithin w g (suc most) → IsWithin o.0 g most

pub stays_lowered : (w : World) → IsEntering w → Lowers w w
stays_lowered w entering = record { entering = entering; lowers = λ h most within. within; count = refl }

pub lowers_on : (u v w : World) → Lowers u v → Lowers v w → Lowers u w
lowers_on u v w a b = record {
  entering = b.entering;
  lowers = λ h most within. b.lowers h most (a.lowers h most within);
  count = b.count ∙ a.count;
}

all_set : (test : Phase → Bool) (wanted : Bool) (w : World) (g : ℕ) (hart after : Hart) → slice_get w.harts g ≡ Some hart → test after.phase ≡ wanted →
    AllPass test wanted w → AllPass test wanted (with_hart w g after)
all_set test wanted w g hart after here passes all h other there = elim (cases_eq h g) [
  | inl is ↦
      let same : Some after ≡ Some other =
      sym (get-set_same w.harts g after hart here) ∙ (ap (slice_get (set w.harts g after)) (sym is) ∙ there) in
      let equal : after ≡ other = cc in
      ap (λ (x : Hart). test x.phase) (sym equal) ∙ passes
  | inr ne ↦ all h other (sym (get-set_other w.harts g h after ne) ∙ there)
]

-- a hart goes on to another phase, with other holders
module _ (w : World) (g : ℕ) (hart : Hart) (here : slice_get w.harts g ≡ Some hart) (holders : List (Option ℕ)) (after : Hart)
    (others : (h : ℕ) → h ≢ g → count_missing holders (record_of w.log w.words h) h ≡ missing_of w h)
    (less : left (count_missing holders (record_of w.log w.words g) g) after.phase < left (missing_of w g) hart.phase) where
  v : World
  v = with_hart (record w { holders = holders }) g after

  own_within : (most : ℕ) → left (count_missing holders (record_of w.log w.words g) g) after.phase ≤ most → IsWithin v g most
  unfolding v
  own_within most bound other there =
      let same : Some after ≡ Some other = sym (get-set_same w.harts g after hart here) ∙ there in
      let equal : after ≡ other = cc in
      subst (λ (x : Hart). left (count_missing holders (record_of w.log w.words g) g) x.phase ≤ most) equal bound

  other_within : (h most : ℕ) → h ≢ g → IsWithin w h most → IsWithin v h most
  unfolding v
  other_within h most ne within other there =
      subst (λ (n : ℕ). left n other.phase ≤ most) (sym (others h ne)) (within other (sym (get-set_other w.harts g h after ne) ∙ there))

  goes_by : IsEntering v → Goes w (v, Moved) g
  unfolding v
  goes_by entering = record {
    is = record {
      entering = entering;
      lowers = λ h most within. elim (cases_eq h g) [
        | inl is ↦ subst (λ (k : ℕ). IsWithin w k most → IsWithin v k most) (sym is)
            (λ own. own_within most (let bound = own hart here in omega (arith, bound, less))) within
        | inr ne ↦ other_within h most ne within
      ];
      count = count_is;
    };
    own = λ most within. own_within most (let bound = within g hart here in omega (arith, bound, less));
    alone = λ busy most within. own_within most (let bound = within hart here in omega (arith, bound, less));
  }
    where
      count_is : length v.harts ≡ length w.harts
      count_is = length-set w.harts g after

-- ---- A step

-- a hart that takes locks goes on by each of its steps
abbrev pub TakesMove : List (List Slot) → World → Type 0
TakesMove program w = (h : ℕ) (hart : Hart) → slice_get w.harts h ≡ Some hart → hart.phase ≡ Take → reply_to program w (Step h) ≡ Moved

module _ (program : List (List Slot)) (w : World) (entering : IsEntering w) (moves : TakesMove program w) (g : ℕ) where
  module _ (hart : Hart) (here : slice_get w.harts g ≡ Some hart) where
    abbrev in_phase : (phase : Phase) → hart.phase ≡ phase → IsInPhase w g phase
    in_phase phase is = record { hart = hart; here = here; phase_is = is }

    -- where a hart takes locks, all gather theirs
    record Taking : Type 0 where
      fresh : IsFresh w.words
      all : AllPass is_gathering true w

    is_taking_still : IsEntering w → hart.phase ≡ Take → Taking
    is_taking_still (taking fresh all) is = record { fresh = fresh; all = all }
    is_taking_still (none_takes all) is = absurd (let never : true ≡ false = sym (ap is_taking is) ∙ all g hart here in cc)

    -- where a hart is resumed or goes on, none takes locks
    none_still : IsEntering w → (phase : Phase) → hart.phase ≡ phase → is_gathering phase ≡ false → AllPass is_taking false w
    none_still (taking fresh all) phase is e = absurd (let never : true ≡ false = sym (all g hart here) ∙ (ap is_gathering is ∙ e) in cc)
    none_still (none_takes all) phase is e = all

    module _ (is : hart.phase ≡ Take) where
      still : Taking
      still = is_taking_still entering is

      abbrev in_take : IsInPhase w g Take
      in_take = in_phase Take is

      left_is : left (missing_of w g) hart.phase ≡ suc (suc (suc (missing_of w g)))
      left_is = ap (left (missing_of w g)) is

      take_by : TakesLocks program w g hart → Goes w (happens program w (Step g)) g
      unfolding v
      take_by (TakesLocks.has_all all does) =
          let less : left (missing_of w g) Wait < left (missing_of w g) hart.phase = omega (arith, left_is) in
          subst (λ (o : Outcome). Goes w o g) (sym does)
          (goes_by w g hart here w.holders (record hart { phase = Wait }) (λ h ne. refl) less
          (taking still.fresh (all_set is_gathering true w g hart (record hart { phase = Wait }) here refl still.all)))
      take_by (TakesLocks.takes_one lock r does) =
          let fewer = count_less w.holders lock r.there g (record_of w.log w.words g) r.among in
          let after_is = ap (left (count_missing (set w.holders lock (Some g)) (record_of w.log w.words g) g)) is in
          let less : left (count_missing (set w.holders lock (Some g)) (record_of w.log w.words g) g) hart.phase < left (missing_of w g) hart.phase =
          omega (arith, left_is, after_is, fewer) in
          subst (λ (o : Outcome). Goes w o g) (sym does)
          (goes_by w g hart here (set w.holders lock (Some g)) hart
          (λ h ne. count_stays w.holders lock r.there g h (λ e. ne (sym e)) (record_of w.log w.words h)) less
          (taking still.fresh (all_set is_gathering true w g hart hart here (still.all g hart here) still.all)))
      take_by (TakesLocks.is_kept_from lock other r ne does) =
          let waits : Waits lock other ≡ Moved = sym (ap (λ (o : Outcome). o.1) does) ∙ moves g hart here is in
          absurd (cc)

    module _ (is : hart.phase ≡ Wait) where
      abbrev in_wait : IsInPhase w g Wait
      in_wait = in_phase Wait is

      waiting_is : left (missing_of w g) hart.phase ≡ 2
      waiting_is = ap (left (missing_of w g)) is

      not_taking : (phase : Phase) → (phase ≡ Take → ⊥) → is_taking phase ≡ false
      not_taking Take never = absurd (never refl)
      not_taking Wait never = refl
      not_taking Resume never = refl
      not_taking Run never = refl
      not_taking Done never = refl
      not_taking Ended never = refl

      wait_by : AwaitsOthers program w g hart → Goes w (happens program w (Step g)) g
      unfolding v
      wait_by (AwaitsOthers.all_have none does) =
          let less : left (missing_of w g) Resume < left (missing_of w g) hart.phase = omega (arith, waiting_is) in
          let all : AllPass is_taking false w = λ h other there.
          not_taking other.phase (λ takes. none h (record { hart = other; here = there; phase_is = takes })) in
          subst (λ (o : Outcome). Goes w o g) (sym does)
          (goes_by w g hart here w.holders (record hart { phase = Resume }) (λ h ne. refl) less
          (none_takes (all_set is_taking false w g hart (record hart { phase = Resume }) here refl all)))
      wait_by (AwaitsOthers.one_takes other i does) =
          subst (λ (o : Outcome). Goes w o g) (sym does) (record {
            is = stays_lowered w entering;
            own = λ most within one there.
                let takes = ap (left (missing_of w other)) i.phase_is in
                let bound = within other i.hart i.here in
                let same : Some hart ≡ Some one = sym here ∙ there in
                let equal : hart ≡ one = cc in
                subst (λ (x : Hart). left (missing_of w g) x.phase ≤ most) equal (omega (arith, takes, bound, waiting_is));
            alone = λ busy. absurd (let never : true ≡ false = busy in cc);
          })

    resume_by : hart.phase ≡ Resume → Goes w (happens program w (Step g)) g
    unfolding v
    resume_by is =
        let i : IsInPhase w g Resume = in_phase Resume is in
        let r = resumes_step program w g i in
        let all : AllPass is_taking false w = none_still entering Resume is refl in
        let before = ap (left (missing_of w g)) is in
        let after = ap (left (missing_of w g)) r.runs in
        let less : left (missing_of w g) r.after.phase < left (missing_of w g) hart.phase = omega (arith, before, after) in
        subst (λ (o : Outcome). Goes w o g) (sym r.does)
        (goes_by w g hart here w.holders r.after (λ h ne. refl) less
        (none_takes (all_set is_taking false w g hart r.after here (ap is_taking r.runs) all)))

    -- nothing changes, and the hart has nothing to do
    idle : happens program w (Step g) ≡ (w, Still) → left (missing_of w g) hart.phase ≡ 0 → Goes w (happens program w (Step g)) g
    idle same none = subst (λ (o : Outcome). Goes w o g) (sym same) (record {
      is = stays_lowered w entering;
      own = λ most within one there.
          let found : Some hart ≡ Some one = sym here ∙ there in
          let equal : hart ≡ one = cc in
          subst (λ (x : Hart). left (missing_of w g) x.phase ≤ most) equal (omega (arith, none));
      alone = λ busy. absurd (let never : true ≡ false = busy in cc);
    })

    run_by : hart.phase ≡ Run → Goes w (happens program w (Step g)) g
    run_by is =
        let u = after_event program w (Step g) in
        let all : AllPass is_taking false w = none_still entering Run is refl in
        let out : (x : Hart) → slice_get w.harts g ≡ Some x → is_entering x.phase ≡ false = λ x there.
        (let found : Some hart ≡ Some x = sym here ∙ there in
        let equal : hart ≡ x = cc in
        ap (λ (y : Hart). is_entering y.phase) (sym equal) ∙ ap is_entering is) in
        let alike : GoesAlike w g (happens program w (Step g)) (happens program w (Step g)) = step_alike program w w g out (alike_refl w) in
        let own_zero : (most : ℕ) → IsWithin u g most = λ most x there.
        (let zero_left = left_out (missing_of u g) x.phase (alike.out x there) in omega (arith, zero_left)) in
        let others_same : (h most : ℕ) → h ≢ g → IsWithin w h most → IsWithin u h most = λ h most ne within x there.
        (let was = sym (alike.others h ne) ∙ there in
        let bound = within x was in
        let same = left_apart (missing_of u h) (missing_of w h) x.phase (all h x was) in
        omega (arith, bound, same)) in
        record {
          is = record {
            entering = none_takes (λ h x there. elim (cases_eq h g) [
              | inl e ↦ taking_enters x.phase (alike.out x (ap (slice_get u.harts) (sym e) ∙ there))
              | inr ne ↦ all h x (sym (alike.others h ne) ∙ there)
            ]);
            lowers = λ h most within. elim (cases_eq h g) [
              | inl e ↦ subst (λ (k : ℕ). IsWithin u k most) (sym e) (own_zero most)
              | inr ne ↦ others_same h most ne within
            ];
            count = alike.count;
          };
          own = λ most within. own_zero most;
          alone = λ busy most within. own_zero most;
        }

    by_phase : (phase : Phase) → hart.phase ≡ phase → Goes w (happens program w (Step g)) g
    by_phase Take is = take_by is (takes_step program w g (in_take is))
    by_phase Wait is = wait_by is (waits_step program w g (in_wait is))
    by_phase Resume is = resume_by is
    by_phase Run is = run_by is
    by_phase Done is = idle (stopped_stay program w g Done (inl refl) (in_phase Done is)) (ap (left (missing_of w g)) is)
    by_phase Ended is = idle (stopped_stay program w g Ended (inr refl) (in_phase Ended is)) (ap (left (missing_of w g)) is)

  nobody : slice_get w.harts g ≡ None → happens program w (Step g) ≡ (w, Still)
  unfolding happens
  nobody e = ap (stepped program w g) e

  step_by : (found : Option Hart) → slice_get w.harts g ≡ found → Goes w (happens program w (Step g)) g
  step_by None e = subst (λ (o : Outcome). Goes w o g) (sym (nobody e)) (record {
    is = stays_lowered w entering;
    own = λ most within one there. absurd (let never : None ≡ Some one = sym e ∙ there in cc);
    alone = λ busy. absurd (let never : true ≡ false = busy in cc);
  })
  step_by (Some hart) e = by_phase hart e hart.phase refl

  pub step_goes : Goes w (happens program w (Step g)) g
  step_goes = step_by (slice_get w.harts g) refl

-- ---- Any event but a crash

evict_lowers : (program : List (List Slot)) (w : World) (line mask : ℕ) → IsEntering w → Lowers w (after_event program w (Evict line mask))
unfolding happens
evict_lowers program w line mask (taking fresh all) =
    subst (λ (ws : List Word). Lowers w (record w { words = ws })) (sym (fresh_stays w.words line mask fresh)) (stays_lowered w (taking fresh all))
evict_lowers program w line mask (none_takes all) = record {
  entering = none_takes all;
  lowers = λ h most within hart there.
      let bound = within hart there in
      let v = record w { words = evicted w.words line mask } in
      let same = left_apart (missing_of v h) (missing_of w h) hart.phase (all h hart there) in
      omega (arith, bound, same);
  count = refl;
}

start_lowers : (program : List (List Slot)) (w : World) → IsEntering w → Lowers w (after_event program w Start)
start_lowers program w entering = after_start program w (λ (x : World). Lowers w x) (record {
  entering = none_takes (λ h hart there. let was = anew_found program 0 w.harts h hart there in ap (λ (x : Hart). is_taking x.phase) was.is);
  lowers = λ h most within hart there.
      let was = anew_found program 0 w.harts h hart there in
      let runs = ap (λ (x : Hart). left (missing_of (started_anew program w) h) x.phase) was.is in
      omega (arith, runs);
  count = anew_length program 0 w.harts;
}) (stays_lowered w entering)

pub event_lowers : (program : List (List Slot)) (w : World) (event : Event) → HaveNoCrash (event ∷ []) → TakesMove program w → IsEntering w →
    Lowers w (after_event program w event)
event_lowers program w (Step g) none moves entering = (step_goes program w entering moves g).is
event_lowers program w (Evict line mask) none moves entering = evict_lowers program w line mask entering
event_lowers program w Crash none moves entering = absurd none
event_lowers program w Start none moves entering = start_lowers program w entering

-- A step of a whole state, and runs of it.
use Rattle.std.proofs.Common.{◌≡◌, refl, ℕ, zero, suc, ◌+◌, ◌<◌, ◌≤◌, List, [], ◌∷◌, ◌++◌, length, take, drop, get_or, sym, ◌∙◌}
use Rattle.std.proofs.Common.{ap, subst, Bool, true, false, Option, Some, None, slice_set, min, ◌^◌, ◌-◌, arith, add-zero, ⊎_elim}
use Rattle.std.specs.Prelude.{slice_get, Ok, Err}
use Rattle.std.proofs.lemmas.Bool.{cases_eq}
use Rattle.std.proofs.lemmas.Option.{slice_get_within, slice_get_past}
use Rattle.std.proofs.lemmas.List.{length-set, take-append-drop, drop_more, take_more, take_all}
use Rattle.c_tree.specs.Flats as f
use Rattle.c_tree.specs.Source as m
use Rattle.c_tree.specs.Source.{source_step}
use Rattle.source_machine.specs.declared.answers.Stepped.{Stepped}
use Rattle.source_machine.specs.declared.answers.Stepped.TheVariants.{Did, Waits, Ended}
use Rattle.source_machine.specs.declared.answers.RefusedKind.{RefusedKind}
use Rattle.source_machine.specs.declared.answers.RefusedKind.TheVariants as kind
use Rattle.source_machine.specs.declared.answers.Refused.{Refused}
use Rattle.source_machine.specs.declared.thread.ThreadState.{ThreadState}
use Rattle.source_machine.specs.declared.state.SourceState.{SourceState}
use Rattle.source_machine.specs.Sections.{AreCounted}
use Rattle.source_machine.specs.links.SectionEnds.{ends}
use Rattle.source_machine.specs.Answers.{answer_of}
use Rattle.source_machine.specs.links.Threads.{HasStatementsLeft, model_of, state_in, reached, hand, IsMade}
use Rattle.source_machine.specs.Mutexes.{lock_ahead}
use Rattle.source_machine.specs.Runs.{stepped_of, IsAfter, refusal_of, Ran}
use Rattle.source_machine.specs.links.States.{RepresentsThread, RepresentsState}
use Rattle.source_machine.proofs.Emission.{set_same, set_other}
use Rattle.source_machine.proofs.SectionEndCases.{ends_same, counted_as}

-- ---- Lists

found_in : {X : Type 0} (xs : List X) (k : ℕ) → k < length xs → (x : X) × (slice_get xs k ≡ Some x)
found_in [] k h = absurd (omega arith)
found_in (x ∷ xs) zero h = (x, refl)
found_in (x ∷ xs) (suc k) h = found_in xs k (omega arith)

set_again : {X : Type 0} (xs : List X) (k : ℕ) (x : X) → slice_get xs k ≡ Some x → slice_set xs k x ≡ xs
set_again [] k x h = refl
set_again (y ∷ xs) zero x h = let is : x ≡ y = cc in ap (λ z. z ∷ xs) is
set_again (y ∷ xs) (suc k) x h = ap (λ zs. y ∷ zs) (set_again xs k x h)

-- ---- A step

abbrev step_by : m.State → ℕ → Option m.Thread → Option m.State
step_by s t o = elim o [
  | Some thread ↦ m.thread_step s t thread
  | None ↦ None
]

pub step_found : (s : m.State) (t : ℕ) (thread : m.Thread) → slice_get s.threads t ≡ Some thread → source_step s t ≡ m.thread_step s t thread
unfolding source_step
step_found s t thread h = ap (step_by s t) h

pub step_missing : (s : m.State) (t : ℕ) → slice_get s.threads t ≡ None → source_step s t ≡ None
unfolding source_step
step_missing s t h = ap (step_by s t) h

abbrev one_by : m.State → Option m.State → m.State
one_by s o = elim o [
  | None ↦ s
  | Some next ↦ next
]

one_reached : (s : m.State) (o : Option m.State) → one_by s o ≡ reached o s
one_reached s None = refl
one_reached s (Some next) = refl

abbrev ended_by : m.State → (thread : ℕ) → Option m.State → ℕ
ended_by s k o = elim o [
  | None ↦ 0
  | Some next ↦ m.ends_section s next k + 0
]

ended_one : (s : m.State) (k : ℕ) (o : Option m.State) → ended_by s k o ≡ ends s.holders (reached o s).holders k
ended_one s k None = sym (ends_same s.holders s.holders k refl)
ended_one s k (Some next) = add-zero (m.ends_section s next k)

abbrev answer_by : m.State → ℕ → Option m.Thread → Stepped
answer_by s t o = elim o [
  | Some thread ↦ answer_of thread (source_step s t)
  | None ↦ Ended
]

-- the thread of that number is replaced by one that has made the step, and the sections that it ends are counted
pub record ReplacesThread (before after : SourceState) (n : ℕ) (answer : Stepped) : Type 0 where
  pub old : ThreadState
  pub new : ThreadState
  pub here : slice_get before.threads.items n ≡ Some old
  pub set : after.threads.items ≡ slice_set before.threads.items n new
  pub makes : (left : List f.Statement) (threads : List m.Thread) → HasStatementsLeft old left →
      IsMade n (hand old before.variables before.holders.items) (hand new after.variables after.holders.items) answer threads left
  pub counts : (ended : ℕ → ℕ) → AreCounted before.sections.items ended →
      AreCounted after.sections.items (λ k. ended k + ends before.holders.items after.holders.items k)

module _ (before after : SourceState) (s : m.State) (ended : ℕ → ℕ) (n : ℕ) (answer : Stepped) (st : RepresentsState before s ended)
    (step : ReplacesThread before after n answer) where
  open step use {old as it, new as it', here, set, makes, counts}

  within : n < length before.threads.items
  within = slice_get_within before.threads.items n it here

  model_found : (x : m.Thread) × (slice_get s.threads n ≡ Some x)
  model_found = found_in s.threads n (omega (arith, st.count, within))

  pub after_step : IsAfter after answer s ended n
  after_step =
      let found = model_found.1 in
      let ts = st.each n it model_found.0 here found in
      let M : m.Thread = model_of it ts.left in
      let S : m.State = state_in before.variables before.holders.items s.threads in
      let made = makes ts.left s.threads ts.code in
      let o : Option m.State = m.thread_step S n M in
      let same_state : s ≡ S = λ i. record { variables = st.variables i; holders = st.holders i; threads = s.threads } in
      let stepping : source_step s n ≡ o = step_found s n model_found.0 found ∙ (λ i. m.thread_step (same_state i) n (ts.is i)) in
      let kept : S ≡ m.with_thread S n M = λ i. state_in before.variables before.holders.items (sym (set_again s.threads n M (found ∙ ap Some ts.is)) i) in
      let target : m.State = state_in after.variables after.holders.items (slice_set s.threads n (model_of it' made.left_after)) in
      let arrives : reached (source_step s n) s ≡ target = (λ i. reached (stepping i) ((same_state ∙ kept) i)) ∙ made.state in
      let arrived : m.after_from s (n ∷ []) ≡ target = one_reached s (source_step s n) ∙ arrives in
      let f : ℕ → ℕ = λ k. m.ended_from s (n ∷ []) k in
      let ending : (k : ℕ) → ends before.holders.items after.holders.items k ≡ f k =
      λ k. sym (ended_one s k (source_step s n) ∙ (λ i. ends (st.holders i) ((arrives i).holders) k)) in
      let P : m.State → Type 0 = λ z. RepresentsState after z (λ k. ended k + f k) in
      record {
        answered = made.answered ∙ sym (ap (answer_by s n) found ∙ (λ i. answer_of (ts.is i) (stepping i)));
        stands = subst P (sym arrived) (record {
          variables = refl;
          holders = refl;
          count = length-set s.threads n _ ∙ (st.count ∙ sym (ap length set ∙ length-set before.threads.items n it'));
          each = λ k thread mo g h. ⊎_elim
              (λ same.
              let g' : slice_get (slice_set before.threads.items n it') n ≡ Some thread = ap (slice_get (slice_set before.threads.items n it')) (sym same)
              ∙ (ap (λ ts. slice_get ts k) (sym set) ∙ g) in
              let h' : slice_get (slice_set s.threads n (model_of it' made.left_after)) n ≡ Some mo =
              ap (slice_get (slice_set s.threads n (model_of it' made.left_after))) (sym same) ∙ h in
              let is_it : it' ≡ thread = let there = set_same before.threads.items n it' within in cc in
              let is_model : model_of it' made.left_after ≡ mo = let there =
              set_same s.threads n (model_of it' made.left_after) (slice_get_within s.threads n model_found.0 found) in cc in
              let Q : ThreadState → Type 0 = λ x. RepresentsThread x mo in
              subst Q is_it (record { left = made.left_after; code = made.code; is = sym is_model }))
              (λ other.
              st.each k thread mo (sym (ap (λ ts. slice_get ts k) set ∙ set_other before.threads.items n k it' other) ∙ g)
              (sym (set_other s.threads n k (model_of it' made.left_after) other) ∙ h))
              (cases_eq k n);
          sections = counted_as after.sections.items ended (ends before.holders.items after.holders.items) f ending (counts ended st.sections);
        });
      }

-- ---- Runs

abbrev pub runs_by : List ℕ → Option m.State → Bool
runs_by ts o = elim o [
  | None ↦ false
  | Some next ↦ m.runs_from next ts
]

abbrev pub after_by : List ℕ → m.State → Option m.State → m.State
after_by ts s o = elim o [
  | None ↦ s
  | Some next ↦ m.after_from next ts
]

abbrev pub ends_by : List ℕ → m.State → (thread : ℕ) → Option m.State → ℕ
ends_by ts s k o = elim o [
  | None ↦ 0
  | Some next ↦ m.ends_section s next k + m.ended_from next ts k
]

-- where the first part can be stepped whole, the rest goes on after it
pub record StepsWhole (s : m.State) (xs ys : List ℕ) : Type 0 where
  pub after : m.after_from s (xs ++ ys) ≡ m.after_from (m.after_from s xs) ys
  pub runs : m.runs_from s (xs ++ ys) ≡ m.runs_from (m.after_from s xs) ys
  pub ended : (k : ℕ) → m.ended_from s (xs ++ ys) k ≡ m.ended_from s xs k + m.ended_from (m.after_from s xs) ys k

go_by : (s : m.State) (xs ys : List ℕ) (o : Option m.State) → ((next : m.State) → m.runs_from next xs ≡ true → StepsWhole next xs ys) → runs_by xs o ≡ true →
    (after_by (xs ++ ys) s o ≡ m.after_from (after_by xs s o) ys) × (runs_by (xs ++ ys) o ≡ m.runs_from (after_by xs s o) ys) ×
    ((k : ℕ) → ends_by (xs ++ ys) s k o ≡ ends_by xs s k o + m.ended_from (after_by xs s o) ys k)
go_by s xs ys None more h = cc
go_by s xs ys (Some next) more h =
    let g = more next h in
    (g.after, g.runs, λ k. omega (arith, g.ended k))

pub goes_on : (s : m.State) (xs ys : List ℕ) → m.runs_from s xs ≡ true → StepsWhole s xs ys
goes_on s [] ys h = record { after = refl; runs = refl; ended = λ k. omega arith }
goes_on s (x ∷ xs) ys h =
    let g = go_by s xs ys (source_step s x) (λ next e. goes_on next xs ys e) h in
    record { after = g.0; runs = g.1; ended = g.2 }

pub stands_as : (now : SourceState) (s : m.State) (f g : ℕ → ℕ) → ((k : ℕ) → f k ≡ g k) → RepresentsState now s f → RepresentsState now s g
stands_as now s f g z st = record {
  variables = st.variables;
  holders = st.holders;
  count = st.count;
  each = st.each;
  sections = λ k l. st.sections k l ∙ ap (λ n. min n (2 ^ 64 - 1)) (z k);
}

-- all steps were made so far
pub record Going (now : SourceState) (s : m.State) (ended : ℕ → ℕ) (done : List ℕ) : Type 0 where
  pub runs : m.runs_from s done ≡ true
  pub stands : RepresentsState now (m.after_from s done) (λ k. ended k + m.ended_from s done k)

-- ---- A step that is made

not_did : (o : Option ℕ) → (let a : Stepped = elim o [ Some mutex ↦ Waits mutex | None ↦ Ended ] in Did ≡ a) → ⊥
not_did (Some mutex) h = cc
not_did None h = cc

did_by : (th : Option m.Thread) (o : Option m.State) → (let a : Stepped = elim th [ Some thread ↦ answer_of thread o | None ↦ Ended ] in Did ≡ a) →
    runs_by [] o ≡ true
did_by None o h = cc
did_by (Some thread) None h = absurd (not_did (lock_ahead thread) h)
did_by (Some thread) (Some next) h = refl

pub did_more : (now next : SourceState) (s : m.State) (ended : ℕ → ℕ) (done : List ℕ) (t : ℕ) → Going now s ended done →
    IsAfter next Did (m.after_from s done) (λ k. ended k + m.ended_from s done k) t → Going next s ended (done ++ t ∷ [])
did_more now next s ended done t g a =
    let on = goes_on s done (t ∷ []) g.runs in
    let runs = did_by (slice_get (m.after_from s done).threads t) (source_step (m.after_from s done) t) a.answered in
    let P : m.State → Type 0 = λ z. RepresentsState next z (λ k. ended k + m.ended_from s (done ++ t ∷ []) k) in
    record {
      runs = on.runs ∙ runs;
      stands = subst P (sym on.after) (stands_as next _ _ (λ k. ended k + m.ended_from s (done ++ t ∷ []) k) (λ k. omega (arith, on.ended k)) a.stands);
    }

-- ---- A step that can't be made

abbrev reason_by : Option ℕ → RefusedKind
reason_by o = elim o [
  | Some mutex ↦ kind.Waits
  | None ↦ kind.Ended
]

abbrev locked_by : Option ℕ → Stepped
locked_by o = elim o [
  | Some mutex ↦ Waits mutex
  | None ↦ Ended
]

waits_by : (thread : m.Thread) (l : Option ℕ) (mutex : ℕ) (o : Option m.State) → lock_ahead thread ≡ l → Waits mutex ≡ answer_of thread o →
    (o ≡ None) × (kind.Waits ≡ reason_by l)
waits_by thread l mutex (Some next) e h = cc
waits_by thread (Some x) mutex None e h = (refl, refl)
waits_by thread None mutex None e h = let there : answer_of thread None ≡ Ended = ap locked_by e in cc

ended_by_answer : (thread : m.Thread) (l : Option ℕ) (o : Option m.State) → lock_ahead thread ≡ l → Ended ≡ answer_of thread o →
    (o ≡ None) × (kind.Ended ≡ reason_by l)
ended_by_answer thread l (Some next) e h = cc
ended_by_answer thread (Some x) None e h = let there : answer_of thread None ≡ Waits x = ap locked_by e in cc
ended_by_answer thread None None e h = (refl, refl)

abbrev refusal_by : Option m.Thread → RefusedKind
refusal_by o = elim o [
  | None ↦ kind.UnknownThread
  | Some thread ↦ reason_by (lock_ahead thread)
]

-- the step can't be made, for that reason
pub record Stuck (s : m.State) (t : ℕ) (why : RefusedKind) : Type 0 where
  pub none : source_step s t ≡ None
  pub reason : why ≡ refusal_of s t

module _ (now : SourceState) (s : m.State) (ended : ℕ → ℕ) (t : ℕ) (st : RepresentsState now s ended) where
  pub unknown : length now.threads.items ≤ t → Stuck s t kind.UnknownThread
  unknown h =
      let missing = slice_get_past s.threads t (omega (arith, st.count)) in
      record { none = step_missing s t missing; reason = sym (ap refusal_by missing) }

  pub waits_stuck : (mutex : ℕ) → t < length now.threads.items → Waits mutex ≡ stepped_of s t → Stuck s t kind.Waits
  waits_stuck mutex h a =
      let x = found_in s.threads t (omega (arith, st.count)) in
      let r = waits_by x.0 (lock_ahead x.0) mutex (source_step s t) refl (a ∙ ap (answer_by s t) x.1) in
      record { none = r.0; reason = r.1 ∙ sym (ap refusal_by x.1) }

  pub ended_stuck : t < length now.threads.items → Ended ≡ stepped_of s t → Stuck s t kind.Ended
  ended_stuck h a =
      let x = found_in s.threads t (omega (arith, st.count)) in
      let r = ended_by_answer x.0 (lock_ahead x.0) (source_step s t) refl (a ∙ ap (answer_by s t) x.1) in
      record { none = r.0; reason = r.1 ∙ sym (ap refusal_by x.1) }

-- ---- The whole run

pub ran_all : (now : SourceState) (s : m.State) (ended : ℕ → ℕ) (schedule : List ℕ) → Going now s ended schedule → Ran now (Ok tt) s ended schedule
ran_all now s ended schedule g = record { stands = g.stands; ok = sym g.runs; refused = tt }

pub ran_refused : (now : SourceState) (s : m.State) (ended : ℕ → ℕ) (schedule before : List ℕ) (t : ℕ) (later : List ℕ) (e : Refused) →
    schedule ≡ before ++ t ∷ later → m.runs_from s before ≡ true →
    Stuck (m.after_from s before) t e.kind → e.step ≡ length before + 1 → RepresentsState now (m.after_from s before) (λ k. ended k + m.ended_from s before k) →
    Ran now (Err e) s ended schedule
ran_refused now s ended schedule before t later e is runs stuck step st =
    let on = goes_on s before (t ∷ later) runs in
    let s' = m.after_from s before in
    let stays : m.after_from s schedule ≡ s' = ap (m.after_from s) is ∙ (on.after ∙ ap (after_by later s') stuck.none) in
    let stops : m.runs_from s schedule ≡ false = ap (m.runs_from s) is ∙ (on.runs ∙ ap (runs_by later) stuck.none) in
    let counts : (k : ℕ) → ended k + m.ended_from s before k ≡ ended k + m.ended_from s schedule k = λ k.
    let none_more : m.ended_from s' (t ∷ later) k ≡ 0 = ap (ends_by later s' k) stuck.none in
    omega (arith, on.ended k, ap (λ (ts : List ℕ). m.ended_from s ts k) is, none_more) in
    let P : m.State → Type 0 = λ z. RepresentsState now z (λ k. ended k + m.ended_from s schedule k) in
    record {
      stands = subst P (sym stays) (stands_as now s' _ (λ k. ended k + m.ended_from s schedule k) counts st);
      ok = sym stops;
      refused = record { before = before; thread = t; after = later; is = is; runs = runs; none = stuck.none; step = step; reason = stuck.reason };
    }

-- the whole run, up to a step that isn't made
pub ran_stuck : (now next : SourceState) (s : m.State) (ended : ℕ → ℕ) (schedule before : List ℕ) (t : ℕ) (later : List ℕ) (e : Refused) (answer : Stepped) →
    schedule ≡ before ++ t ∷ later → Going now s ended before →
    Stuck (m.after_from s before) t e.kind → e.step ≡ length before + 1 →
    IsAfter next answer (m.after_from s before) (λ k. ended k + m.ended_from s before k) t → Ran next (Err e) s ended schedule
ran_stuck now next s ended schedule before t later e answer is g stuck step a =
    let s' = m.after_from s before in
    let stays : m.after_from s' (t ∷ []) ≡ s' = ap (after_by [] s') stuck.none in
    let none_more : (k : ℕ) → m.ended_from s' (t ∷ []) k ≡ 0 = λ k. ap (ends_by [] s' k) stuck.none in
    let P : m.State → Type 0 = λ z. RepresentsState next z (λ k. ended k + m.ended_from s before k) in
    ran_refused next s ended schedule before t later e is g.runs stuck step
    (subst P stays (stands_as next _ _ (λ k. ended k + m.ended_from s before k) (λ k. omega (arith, none_more k)) a.stands))

-- ---- Places in a schedule

pub split_at : (xs : List ℕ) (i : ℕ) → i < length xs → xs ≡ take i xs ++ get_or xs i 0 ∷ drop (i + 1) xs
split_at xs i h = sym (take-append-drop i xs) ∙ ap (λ ys. take i xs ++ ys) (drop_more xs i 0 h)

pub one_more : (now : SourceState) (s : m.State) (ended : ℕ → ℕ) (xs : List ℕ) (i : ℕ) → i < length xs → Going now s ended (take i xs ++ get_or xs i 0 ∷ []) →
    Going now s ended (take (i + 1) xs)
one_more now s ended xs i h g =
    let P : List ℕ → Type 0 = λ ys. Going now s ended ys in
    subst P (sym (take_more xs i 0 h)) g

pub whole : (now : SourceState) (s : m.State) (ended : ℕ → ℕ) (xs : List ℕ) (i : ℕ) → length xs ≤ i → Going now s ended (take i xs) → Going now s ended xs
whole now s ended xs i h g =
    let P : List ℕ → Type 0 = λ ys. Going now s ended ys in
    subst P (take_all i xs h) g

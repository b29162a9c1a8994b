-- Where a machine is settled, its report is that of the source's own run of its kept schedules.
use Rattle.std.proofs.Common.{◌≡◌, ◌⊎◌, inl, inr, refl, ℕ, zero, suc, ◌+◌, ◌<◌, ◌≤◌, List, [], ◌∷◌, length}
use Rattle.std.proofs.Common.{map, filter, not, Bool, true, false, sym, ap, ap₂, ◌∙◌, subst, ℤ, arith}
use Rattle.std.proofs.lemmas.Bool.{and_parts, cases_lt}
use Rattle.machine_events.specs.declared.event.Event.{Event}
use Rattle.c_tree.specs.Flats as f
use Rattle.c_tree.specs.Source as m
use Rattle.machine_model.specs.Machine.{World}
use Rattle.log_schemes.specs.Schemes.{numbers_from}
use Rattle.machine_model.specs.Schedule.{schedules}
use Rattle.machine_model.specs.Machine.{is_settled, is_settled_hart, are_settled}
use Rattle.source_machine.specs.Lives.{after_lives, ended_lives}
use Rattle.variable_words.specs.Variables.{durable_variables}
use Rattle.compiler_correctness.specs.Translations.{Translation, world, steps, source}
use Rattle.compiler_correctness.specs.Compilations.{IsCompilation}
use Rattle.run_scripts.specs.Reports as r
use Rattle.run_scripts.specs.Reports.{report}
use Rattle.ido_cli.specs.Plays.{IsRunBy, IsSourceRun}
use Rattle.ido_cli.specs.Reports.{machine_state, unsettled_harts}
use Rattle.ido_cli.specs.Runs.{IsReport, named, run_state, status_by, unsettled_threads}
use Rattle.ido_cli.proofs.GatheredReports.{chosen, left_out}
use Rattle.ido_cli.proofs.LivesKept.{lives_kept}

-- ---- Harts and threads between sections

pub none_chosen : (p : ℕ → Bool) (k n : ℕ) → ((t : ℕ) → p t ≡ false) → filter p (numbers_from k n) ≡ []
none_chosen p k zero h = refl
none_chosen p k (suc n) h = left_out p k (numbers_from (k + 1) n) (h k) ∙ none_chosen p (k + 1) n h

pub all_between : (s : m.State) → ((thread : ℕ) → m.is_between s thread ≡ true) → unsettled_threads s ≡ []
all_between s h = none_chosen (λ t. not (m.is_between s t)) 0 (length s.threads) (λ t. ap not (h t))

none_of : (p : ℕ → Bool) (k n h : ℕ) → filter p (numbers_from k n) ≡ [] → k ≤ h → h < k + n → p h ≡ false
none_of p k zero h none from below = absurd (omega (arith, from, below))
none_of p k (suc n) h none from below = by (p k) refl (λ rest more. none_of p (k + 1) n h rest more (omega (arith, below)))
  where
    later : p k ≡ false → (filter p (numbers_from (k + 1) n) ≡ [] → k + 1 ≤ h → p h ≡ false) → (k < h) ⊎ (h ≤ k) → p h ≡ false
    later e after (inl more) = after (sym (left_out p k (numbers_from (k + 1) n) e) ∙ none) (omega (arith, more))
    later e after (inr back) = let same : k ≡ h = omega (arith, from, back) in subst (λ (i : ℕ). p i ≡ false) same e

    by : (b : Bool) → p k ≡ b → (filter p (numbers_from (k + 1) n) ≡ [] → k + 1 ≤ h → p h ≡ false) → p h ≡ false
    by true e after = let both : k ∷ filter p (numbers_from (k + 1) n) ≡ [] = sym (chosen p k (numbers_from (k + 1) n) e) ∙ none in absurd (cc both)
    by false e after = later e after (cases_lt k h)

not_false : (b : Bool) → not b ≡ false → b ≡ true
not_false true e = refl
not_false false e = absurd (cc e)

settled_below : (w : World) (n : ℕ) → ((h : ℕ) → h < n → is_settled_hart w h ≡ true) → are_settled w n ≡ true
settled_below w zero each = refl
settled_below w (suc n) each = rw (settled_below w n (λ h below. each h (omega (arith, below))), each n (omega arith)) refl

pub settled_by_none : (w : World) → unsettled_harts w ≡ [] → is_settled w ≡ true
settled_by_none w none =
    settled_below w (length w.harts) (λ h below.
    not_false (is_settled_hart w h) (none_of (λ g. not (is_settled_hart w g)) 0 (length w.harts) h none (omega arith) (omega (arith, below))))

pub none_by_status : (unsettled : List ℕ) (status : ℕ) → status ≡ status_by unsettled → status ≡ 0 → unsettled ≡ []
none_by_status [] status e settled = refl
none_by_status (h ∷ hs) status e settled = absurd (omega (arith, e, settled))

-- where all are settled, none isn't
none_below : (p : ℕ → Bool) (k n : ℕ) → ((h : ℕ) → k ≤ h → h < k + n → p h ≡ false) → filter p (numbers_from k n) ≡ []
none_below p k zero each = refl
none_below p k (suc n) each =
    left_out p k (numbers_from (k + 1) n) (each k (omega arith) (omega arith))
    ∙ none_below p (k + 1) n (λ h from below. each h (omega (arith, from)) (omega (arith, below)))

each_settled : (w : World) (n h : ℕ) → are_settled w n ≡ true → h < n → is_settled_hart w h ≡ true
each_settled w zero h all below = absurd (omega (arith, below))
each_settled w (suc n) h all below =
    let parts = and_parts (are_settled w n) (is_settled_hart w n) all in
    elim (cases_lt h n) [
      | inl less ↦ each_settled w n h parts.0 less
      | inr not ↦ let last : n ≡ h = omega (arith, below, not) in subst (λ (k : ℕ). is_settled_hart w k ≡ true) last parts.1
    ]

pub none_by_settled : (w : World) → is_settled w ≡ true → unsettled_harts w ≡ []
none_by_settled w all =
    none_below (λ h. not (is_settled_hart w h)) 0 (length w.harts) (λ h from below. ap not (each_settled w (length w.harts) h all (omega (arith, below))))

-- ---- The report

pub same_state : (x : f.Flat) (w : World) (kept : List (List ℕ)) → unsettled_harts w ≡ [] → unsettled_threads (after_lives x (m.start x) kept) ≡ []
    → durable_variables w.words x.variables ≡ (after_lives x (m.start x) kept).variables → machine_state x w kept ≡ run_state x kept
unfolding machine_state run_state
same_state x w kept none between same =
    ap₂ (λ (us : List ℕ) (numbers : List (List ℤ)). let s : r.ReportedState =
    record {
      unsettled = us;
      variables = named x.variables numbers;
      ended = map (ended_lives x (m.start x) kept) (numbers_from 0 (length x.threads));
      schedules = kept;
    } in s)
    (none ∙ sym between) same

pub settled_run : (c : Translation) → IsCompilation c → (events : List Event) (status : ℕ) (output : List ℕ) →
    IsReport (machine_state c.flat (world c events) (schedules (steps c events))) status output → status ≡ 0 →
    IsSourceRun c.flat (schedules (steps c events)) output
unfolding machine_state
settled_run c is events status output told done =
    let k = is.settled events in
    let w = world c events in
    let none : unsettled_harts w ≡ [] = none_by_status (unsettled_harts w) status told.status_is done in
    let settled = settled_by_none w none in
    let between = k.between settled in
    record {
      runs = k.runs;
      between = between;
      output_is =
          told.output_is ∙ ap report
          (same_state c.flat w (schedules (steps c events)) none (all_between (source c (schedules (steps c events))) between) (k.variables settled));
    }

-- all that is said of a run, of a translation and whatever events
pub run_of : (c : Translation) → IsCompilation c → (events : List Event) (status : ℕ) (output : List ℕ) →
    IsReport (machine_state c.flat (world c events) (schedules (steps c events))) status output → IsRunBy c events status output
run_of c is events status output told = record {
  reported = told;
  runs = (is.settled events).runs;
  settled = settled_run c is events status output told;
  sections = lives_kept c is.sections events;
}

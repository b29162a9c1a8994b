-- Where runs begin in their schedule, and which step is the first at fault.
use Rattle.std.proofs.Common.{◌≡◌, ◌≢◌, ⊎_elim, ℕ, ◌+◌, ◌-◌, ◌<◌, ◌≤◌, List, [], ◌∷◌, ◌++◌, length, get_or, take, drop, replicate}
use Rattle.std.proofs.Common.{slice_get, Option, Some, None, true, false, refl, sym, ap, subst, ◌∙◌, append_assoc, length-append, arith}
use Rattle.std.proofs.lemmas.Bool.{cases_eq, cases_lt, cases_order}
use Rattle.std.proofs.lemmas.List.{append-nil, take_all, take_more, take-take, take_at, take-append-le, take-append-drop}
use Rattle.std.proofs.lemmas.List.{length-replicate, replicate-append-replicate, get_or_at, get_or_append_left, flat_map_more}
use Rattle.std.proofs.lemmas.List.Concat.{flat_map-append}
use Rattle.std.proofs.lemmas.Option.{none-some, same_Some, slice_get_within, slice_get-get_or, get_or_from_slice_get}
use Rattle.ido_base.specs.declared.limits.TheConstants.{MOST_STEPS}
use Rattle.c_tree.specs.Source as m
use Rattle.run_scripts.specs.Runs.{Run, schedule_of, AreMerged}
use Rattle.source_machine.specs.declared.answers.Refused.{Refused}
use Rattle.source_machine.specs.Runs.{IsRefusedSchedule}
use Rattle.source_machine.proofs.Public.{goes_on, runs_by, split_at}
use Rattle.image_checks.specs.Schedules.{IsFormed, IsSchedule, IsMalformed, empty, again, late, IsAtFault, malformed, refused, IsScheduleFault}
use Rattle.image_checks.specs.links.PrefixBeforeFault.{IsCut, IsPrefix, Follows}

-- ---- Where runs begin

abbrev steps_of : Run → List ℕ
steps_of r = replicate r.steps r.thread

pub parts : (runs : List Run) (k : ℕ) → schedule_of runs ≡ schedule_of (take k runs) ++ schedule_of (drop k runs)
parts runs k = ap schedule_of (sym (take-append-drop k runs)) ∙ flat_map-append steps_of (take k runs) (drop k runs)

pub after_run : (runs : List Run) (k : ℕ) (run : Run) → slice_get runs k ≡ Some run →
    schedule_of (take (k + 1) runs) ≡ schedule_of (take k runs) ++ replicate run.steps run.thread
after_run runs k run h =
    let within : k < length runs = slice_get_within runs k run h in
    let more : take (k + 1) runs ≡ take k runs ++ run ∷ [] =
    take_more runs k run within ∙ ap (λ (r : Run). take k runs ++ r ∷ []) (get_or_from_slice_get runs k run run h) in
    ap schedule_of more ∙ sym (flat_map_more steps_of [] (take k runs) run)

begins_later : (runs : List Run) (j k : ℕ) → j ≤ k → length (schedule_of (take j runs)) ≤ length (schedule_of (take k runs))
begins_later runs j k h =
    omega (
      arith,
      ap length (parts (take k runs) j),
      length-append (schedule_of (take j (take k runs))) (schedule_of (drop j (take k runs))),
      ap (λ (rs : List Run). length (schedule_of rs)) (take-take j k runs h),
    )

regrouped : (a b c d : List ℕ) → (a ++ (b ++ c)) ++ d ≡ (a ++ b) ++ (c ++ d)
regrouped a b c d = simp append_assoc

-- ---- Faults of form

-- the first so many runs are merged
pub record AreMergedBelow (runs : List Run) (i : ℕ) : Type 0 where
  pub steps : (k : ℕ) (run : Run) → k < i → slice_get runs k ≡ Some run → run.steps ≢ 0
  pub threads : (k : ℕ) (run next : Run) → k + 1 < i → slice_get runs k ≡ Some run → slice_get runs (k + 1) ≡ Some next →
      run.thread ≢ next.thread

none_malformed : (done : ℕ) (runs : List Run) (i step : ℕ) → AreMergedBelow runs i → step ≤ done + length (schedule_of (take i runs)) →
    step ≤ MOST_STEPS → ¬ (IsMalformed done runs step)
none_malformed done runs i step good within few (empty k run h z e) =
    ⊎_elim (λ lt. good.steps k run lt h z) (λ le. absurd (omega (arith, begins_later runs i k le))) (cases_lt k i)
none_malformed done runs i step good within few (again k run next h n same e) =
    ⊎_elim (λ lt. good.threads k run next lt h n same) (λ le. absurd (omega (arith, begins_later runs i (k + 1) le))) (cases_lt (k + 1) i)
none_malformed done runs i step good within few (late past le) = absurd (omega arith)

merged_below : (runs : List Run) (i : ℕ) → AreMerged runs → AreMergedBelow runs i
merged_below runs i m = record { steps = λ k run lt h. m.steps k run h; threads = λ k run next lt h n. m.threads k run next h n }

none_whole : (done : ℕ) (runs : List Run) (step : ℕ) → AreMerged runs → done + length (schedule_of runs) ≤ MOST_STEPS → ¬ (IsMalformed done runs step)
none_whole done runs step good few (late past le) = absurd (omega arith)
none_whole done runs step good few (empty k run h z e) = good.steps k run h z
none_whole done runs step good few (again k run next h n same e) = good.threads k run next h n same

-- the first so many runs have no fault of form and tell the steps, and the last of them is of that thread
pub record IsSoFar (done : ℕ) (runs : List Run) (i : ℕ) (steps : List ℕ) (last : Option ℕ) : Type 0 where
  pub is : steps ≡ schedule_of (take i runs)
  pub few : done + length steps ≤ MOST_STEPS
  pub merged : AreMergedBelow runs i
  pub last_is : (k : ℕ) (run : Run) → k + 1 ≡ i → slice_get runs k ≡ Some run → last ≡ Some run.thread
  pub none : i ≡ 0 → last ≡ None

module _ (done : ℕ) (runs : List Run) (i : ℕ) (steps : List ℕ) (last : Option ℕ) (run : Run) (so : IsSoFar done runs i steps last)
    (here : slice_get runs i ≡ Some run) where
  is_here : (k : ℕ) (other : Run) → k ≡ i → slice_get runs k ≡ Some other → other ≡ run
  is_here k other e h = same_Some other run (sym h ∙ ap (slice_get runs) e ∙ here)

  merged_more : Follows last run → AreMergedBelow runs (i + 1)
  merged_more ok = record {
    steps = λ k r lt h.
        ⊎_elim (λ at z. ok.steps (ap (λ (q : Run). q.steps) (sym (is_here k r at h)) ∙ z)) (λ ne. so.merged.steps k r (omega arith) h) (cases_eq k i);
    threads = λ k r next lt h n.
        ⊎_elim (λ at same. ok.thread (so.last_is k r at h ∙ ap Some (same ∙ ap (λ (q : Run). q.thread) (is_here (k + 1) next at n))))
        (λ ne. so.merged.threads k r next (omega arith) h n) (cases_eq (k + 1) i);
  }

  -- the steps up to this run, and its own
  through : schedule_of (take (i + 1) runs) ≡ steps ++ replicate run.steps run.thread
  through = after_run runs i run here ∙ ap (λ (ts : List ℕ). ts ++ replicate run.steps run.thread) (sym so.is)

  through_long : length (schedule_of (take (i + 1) runs)) ≡ length steps + run.steps
  through_long = omega (arith, ap length through, length-append steps (replicate run.steps run.thread), length-replicate run.steps run.thread)

  pub goes_so : (new : List ℕ) (count : ℕ) → Follows last run → count ≡ run.steps → done + length steps + count ≤ MOST_STEPS →
      new ≡ steps ++ replicate count run.thread → IsSoFar done runs (i + 1) new (Some run.thread)
  goes_so new count ok all room e = record {
    is = e ∙ ap (λ (n : ℕ). steps ++ replicate n run.thread) all ∙ sym through;
    few = omega (arith, ap length e, length-append steps (replicate count run.thread), length-replicate count run.thread);
    merged = merged_more ok;
    last_is = λ k r e h. ap (λ (q : Run). Some q.thread) (sym (is_here k r (omega arith) h));
    none = λ e. absurd (omega arith);
  }

  not_following : ¬ (Follows last run) → IsMalformed done runs (done + length steps + 1)
  not_following bad =
      let begins : done + length steps + 1 ≡ done + length (schedule_of (take i runs)) + 1 = omega (arith, ap length so.is) in
      ⊎_elim (λ z. empty i run here z begins) (λ some. by_last some last refl) (cases_eq run.steps 0)
    where
      same_thread : (t : ℕ) → last ≡ Some t → t ≡ run.thread → IsMalformed done runs (done + length steps + 1)
      same_thread t is same =
          let after_one : ¬ (i ≡ 0) = λ z. none-some t (sym (so.none z) ∙ is) in
          let k : ℕ = i - 1 in
          let next : k + 1 ≡ i = omega (arith, after_one) in
          let before : Run = get_or runs k run in
          let there : slice_get runs k ≡ Some before = slice_get-get_or runs k run (omega (arith, slice_get_within runs i run here)) in
          let lockstep : before.thread ≡ run.thread = same_Some before.thread run.thread (sym (so.last_is k before next there) ∙ is ∙ ap Some same) in
          again k before run there (ap (slice_get runs) next ∙ here) lockstep
          (ap (λ (n : ℕ). done + n + 1) (ap length so.is) ∙ ap (λ (n : ℕ). done + length (schedule_of (take n runs)) + 1) (sym next))

      by_last : run.steps ≢ 0 → (o : Option ℕ) → last ≡ o → IsMalformed done runs (done + length steps + 1)
      by_last some None is = absurd (bad (record { steps = some; thread = λ e. none-some run.thread (sym is ∙ e) }))
      by_last some (Some t) is =
          ⊎_elim (same_thread t is) (λ ne. absurd (bad (record { steps = some; thread = λ e. ne (same_Some t run.thread (sym is ∙ e)) })))
          (cases_eq t run.thread)

  pub stops_so : ¬ (Follows last run) → IsCut done runs steps (done + length steps + 1)
  stops_so bad = record {
    after = schedule_of (drop i runs);
    is = parts runs i ∙ ap (λ (ts : List ℕ). ts ++ schedule_of (drop i runs)) (sym so.is);
    count = refl;
    malformed = not_following bad;
    first = λ earlier lt. none_malformed done runs i earlier so.merged (omega (arith, ap length so.is)) (omega (arith, so.few));
  }

  pub fills_so : (new : List ℕ) (room : ℕ) → Follows last run → room ≡ MOST_STEPS - (done + length steps) → room < run.steps →
      new ≡ steps ++ replicate room run.thread → IsCut done runs new (MOST_STEPS + 1)
  fills_so new room ok is_room more e =
      let prefix : List ℕ = replicate room run.thread in
      let suffix : List ℕ = replicate (run.steps - room) run.thread in
      let after : List ℕ = schedule_of (drop (i + 1) runs) in
      let both : run.steps ≡ room + (run.steps - room) = omega arith in
      let own : replicate run.steps run.thread ≡ prefix ++ suffix =
      ap (λ (n : ℕ). replicate n run.thread) both ∙ sym (replicate-append-replicate room (run.steps - room) run.thread) in
      let new_long : done + length new ≡ MOST_STEPS =
      omega (arith, ap length e, length-append steps prefix, length-replicate room run.thread, so.few) in
      let all_long : length (schedule_of runs) ≡ length (schedule_of (take (i + 1) runs)) + length after =
      omega (arith, ap length (parts runs (i + 1)), length-append (schedule_of (take (i + 1) runs)) after) in
      record {
        after = suffix ++ after;
        is = parts runs (i + 1) ∙ ap (λ (ts : List ℕ). ts ++ after) (through ∙ ap (λ (ts : List ℕ). steps ++ ts) own)
            ∙ regrouped steps prefix suffix after ∙ ap (λ (ts : List ℕ). ts ++ (suffix ++ after)) (sym e);
        count = omega arith;
        malformed = late (omega arith) (omega (arith, through_long, so.few));
        first = λ earlier lt. none_malformed done runs (i + 1) earlier (merged_more ok) (omega (arith, through_long, so.few)) (omega arith);
      }

pub ends_so : (done : ℕ) (runs : List Run) (i : ℕ) (steps : List ℕ) (last : Option ℕ) → length runs ≤ i → IsSoFar done runs i steps last →
    IsFormed done runs steps
ends_so done runs i steps last past so = record {
  is = so.is ∙ ap schedule_of (take_all i runs past);
  merged = record {
    steps = λ k run h. so.merged.steps k run (omega (arith, slice_get_within runs k run h)) h;
    threads = λ k run next h n. so.merged.threads k run next (omega (arith, slice_get_within runs (k + 1) next n)) h n;
  };
  few = so.few;
}

-- ---- Refusals of the source

-- all these steps can be made, so the step that can't be is after them
made_before : (s : m.State) (done after : List ℕ) (stop : Refused) → m.runs_from s done ≡ true → IsRefusedSchedule stop s (done ++ after) →
    length done < stop.step
made_before s done after stop made r = ⊎_elim (λ lt. absurd (not_within lt)) (λ le. omega (arith, r.step)) (cases_lt (length r.before) (length done))
  where
    n : ℕ
    n = length r.before

    rest : List ℕ
    rest = drop (n + 1) done

    not_within : n < length done → ⊥
    not_within lt =
        let prefix : take n done ≡ r.before =
        sym (take-append-le n done after (omega arith)) ∙ ap (take n) r.is ∙ take_at r.before (r.thread ∷ r.after) n refl in
        let there : get_or done n 0 ≡ r.thread =
        sym (get_or_append_left done after 0 n lt) ∙ ap (λ (ts : List ℕ). get_or ts n 0) r.is ∙ get_or_at r.before r.thread r.after 0 n refl in
        let split : done ≡ r.before ++ r.thread ∷ rest =
        split_at done n lt ∙ ap (λ (ts : List ℕ). ts ++ get_or done n 0 ∷ rest) prefix ∙ ap (λ (t : ℕ). r.before ++ t ∷ rest) there in
        let stuck : m.runs_from s done ≡ false =
        ap (m.runs_from s) split ∙ (goes_on s r.before (r.thread ∷ rest) r.runs).runs ∙ ap (runs_by rest) r.none in
        cc

split_after : (done after before : List ℕ) (t : ℕ) (rest : List ℕ) → done ≡ before ++ t ∷ rest → done ++ after ≡ before ++ t ∷ (rest ++ after)
split_after done after before t rest e = ap (λ (ts : List ℕ). ts ++ after) e ∙ append_assoc before (t ∷ rest) after

-- a prefix is refused as the whole is
refused_after : (s : m.State) (done after : List ℕ) (stop : Refused) → IsRefusedSchedule stop s done → IsRefusedSchedule stop s (done ++ after)
refused_after s done after stop r = record {
  before = r.before;
  thread = r.thread;
  after = r.after ++ after;
  is = split_after done after r.before r.thread r.after r.is;
  runs = r.runs;
  none = r.none;
  step = r.step;
  reason = r.reason;
}

refused_within : (s : m.State) (done : List ℕ) (stop : Refused) → IsRefusedSchedule stop s done → stop.step ≤ length done
refused_within s done stop r = omega (arith, r.step, ap length r.is, length-append r.before (r.thread ∷ r.after))

-- ---- The first step at fault

-- steps of runs, of which none has a fault of form
record IsBeginning (done : ℕ) (runs : List Run) (steps : List ℕ) : Type 0 where
  after : List ℕ
  is : schedule_of runs ≡ steps ++ after
  none : (step : ℕ) → step ≤ done + length steps → ¬ (IsMalformed done runs step)

prefix_begins : (done : ℕ) (runs : List Run) (steps : List ℕ) (fault : Option ℕ) → IsPrefix done runs steps fault → IsBeginning done runs steps
prefix_begins done runs steps None w = record {
  after = [];
  is = sym w.is ∙ sym (append-nil steps);
  none = λ step le. none_whole done runs step w.merged (omega (arith, w.few, ap length w.is));
}
prefix_begins done runs steps (Some n) c = record { after = c.after; is = c.is; none = λ step le. c.first step (omega (arith, c.count)) }

module _ (s : m.State) (done : ℕ) (runs : List Run) (steps : List ℕ) where
  pub source_fault : (fault : Option ℕ) (stop : Refused) → IsPrefix done runs steps fault → IsRefusedSchedule stop s steps →
      IsScheduleFault s done runs (done + stop.step)
  source_fault fault stop prefix r = record { is = refused stop whole refl; first = none }
    where
      begins : IsBeginning done runs steps
      begins = prefix_begins done runs steps fault prefix

      whole : IsRefusedSchedule stop s (schedule_of runs)
      whole = subst (IsRefusedSchedule stop s) (sym begins.is) (refused_after s steps begins.after stop r)

      none : (earlier : ℕ) → earlier < done + stop.step → ¬ (IsAtFault s done runs earlier)
      none earlier lt (malformed f) = begins.none earlier (omega (arith, refused_within s steps stop r)) f
      none earlier lt (refused other t e) =
          let rest : List ℕ = r.thread ∷ (r.after ++ begins.after) in
          let split : schedule_of runs ≡ r.before ++ rest = begins.is ∙ split_after steps begins.after r.before r.thread r.after r.is in
          let later = made_before s r.before rest other r.runs (subst (IsRefusedSchedule other s) split t) in
          absurd (omega (arith, r.step, e, later))

  pub form_fault : (fault : ℕ) → IsCut done runs steps fault → m.runs_from s steps ≡ true → IsScheduleFault s done runs fault
  form_fault fault c made = record { is = malformed c.malformed; first = none }
    where
      none : (earlier : ℕ) → earlier < fault → ¬ (IsAtFault s done runs earlier)
      none earlier lt (malformed f) = c.first earlier lt f
      none earlier lt (refused stop r e) =
          let later = made_before s steps c.after stop made (subst (IsRefusedSchedule stop s) c.is r) in
          absurd (omega (arith, c.count, e, later))

  pub schedule_faultless : IsSchedule s done runs steps → (step : ℕ) → ¬ (IsAtFault s done runs step)
  schedule_faultless sound step (malformed f) =
      none_whole done runs step sound.formed.merged (omega (arith, sound.formed.few, ap length sound.formed.is)) f
  schedule_faultless sound step (refused stop r e) =
      let r' : IsRefusedSchedule stop s steps = subst (IsRefusedSchedule stop s) (sym sound.formed.is) r in
      let later = made_before s steps [] stop sound.made (subst (IsRefusedSchedule stop s) (sym (append-nil steps)) r') in
      absurd (omega (arith, refused_within s steps stop r', later))

  -- the same steps, as the runs tell them
  pub as_told : IsSchedule s done runs steps → IsSchedule s done runs (schedule_of runs)
  as_told sound = subst (IsSchedule s done runs) sound.formed.is sound

pub one_fault : (s : m.State) (done : ℕ) (runs : List Run) (step other : ℕ) → IsScheduleFault s done runs step → IsScheduleFault s done runs other →
    step ≡ other
one_fault s done runs step other x y =
    ⊎_elim (λ e. e) (⊎_elim (λ lt. absurd (y.first step lt x.is)) (λ gt. absurd (x.first other gt y.is))) (cases_order step other)

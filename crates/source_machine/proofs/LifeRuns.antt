-- Lives that a state in the code goes through, one after another.
use Rattle.std.proofs.Common.{◌≡◌, refl, ℕ, ◌+◌, List, [], ◌∷◌, ◌++◌, length, sym, ◌∙◌, ap, subst, arith, append_assoc, true, false, ◌&&◌}
use Rattle.std.specs.Prelude.{Ok, Err, if◌then◌else◌, sum_by}
use Rattle.std.proofs.lemmas.List.Sums.{sum_by-append, sum_by-cons, sum_by_push}
use Rattle.c_tree.specs.Flats as f
use Rattle.c_tree.specs.Source as m
use Rattle.source_machine.specs.declared.answers.RefusedKind.TheVariants as kind
use Rattle.source_machine.specs.declared.answers.Refused.{Refused}
use Rattle.source_machine.specs.declared.state.SourceState.{SourceState}
use Rattle.source_machine.specs.Lives.{after_lives, are_between, begun_after, end_lives, ended_lives, ends_life, restart}
use Rattle.source_machine.specs.LifeRuns.{IsLifeStop, RanLives, at_step, inside}
use Rattle.source_machine.specs.Runs.{IsRefusedSchedule, Ran}
use Rattle.source_machine.specs.links.LifeRuns.{HasLived}
use Rattle.source_machine.specs.links.States.{RepresentsState}
use Rattle.source_machine.proofs.AppendedLives.{after_life, ended_life, runs_life}
use Rattle.source_machine.proofs.LifeStops.{begun_more, ends_more, not_run, none_runs, stop_here}
use Rattle.source_machine.proofs.StateRuns.{stands_as}
use Rattle.source_machine.proofs.StepsKeepOthers.{sizes_stay}
use Rattle.source_machine.proofs.UniqueRefusals.{not_whole}

module _ (x : f.Flat) (s : m.State) (ended : ℕ → ℕ) where
  -- ---- The first life

  pub first_lived : (now : SourceState) (life : List ℕ) → m.runs_from s life ≡ true →
      RepresentsState now (m.after_from s life) (λ k. ended k + m.ended_from s life k) → HasLived x now s ended [] life
  first_lived now life runs st = record {
    ends = refl;
    runs = runs;
    stands = stands_as now (m.after_from s life) _ (λ k. ended k + (0 + m.ended_from s life k)) (λ k. omega arith) st;
  }

  -- where one of its steps can't be made
  pub first_stopped : (now : SourceState) (life : List ℕ) (after : List (List ℕ)) (e : Refused) → Ran now (Err e) s ended life →
      RanLives x now (Err e) s ended (life ∷ after)
  first_stopped now life after e ran =
      let none = ap (λ t. t && are_between (m.after_from s life) (length s.threads)) (not_whole s life e ran.refused) in
      let here = stop_here x s [] life after refl none in
      let stop : IsLifeStop s 0 life after e = at_step e ran.refused refl (let n : e.step ≡ 0 + e.step = omega arith in n) in
      record {
        stands = subst (λ (t : m.State). RepresentsState now t (λ k. ended k + ended_lives x s (life ∷ after) k)) (sym here.state)
            (stands_as now (m.after_from s life) _ (λ k. ended k + ended_lives x s (life ∷ after) k)
            (λ k. let n = here.ended k in omega (arith, n)) ran.stands);
        ok = sym (not_run x stop);
        refused = record { before = []; life = life; after = after; is = refl; ends = refl; stops = stop };
      }

  -- ---- All lives

  -- where there are no others
  pub all_lived : (now : SourceState) (before : List (List ℕ)) (life : List ℕ) → HasLived x now s ended before life →
      RanLives x now (Ok tt) s ended (before ++ life ∷ [])
  all_lived now before life h =
      let t = begun_after x s before in
      let after : after_lives x s (before ++ life ∷ []) ≡ m.after_from t life =
      after_life x s before life ∙ ap (λ b. if b then m.after_from t life else after_lives x s before) h.ends in
      let counts : (k : ℕ) → ended k + (ended_lives x s before k + m.ended_from t life k) ≡ ended k + ended_lives x s (before ++ life ∷ []) k = λ k.
      ap (λ n. ended k + n)
      (sym (ended_life x s before life k ∙ ap (λ b. ended_lives x s before k + (if b then m.ended_from t life k else 0)) h.ends)) in
      record {
        stands = subst (λ (z : m.State). RepresentsState now z (λ k. ended k + ended_lives x s (before ++ life ∷ []) k)) (sym after)
            (stands_as now (m.after_from t life) _ (λ k. ended k + ended_lives x s (before ++ life ∷ []) k) counts h.stands);
        ok = sym (runs_life x s before life ∙ ap (λ b. b && m.runs_from t life) h.ends ∙ h.runs);
        refused = tt;
      }

  pub no_lives : (now : SourceState) → RepresentsState now s ended → RanLives x now (Ok tt) s ended []
  no_lives now st = record { stands = stands_as now s ended (λ k. ended k + 0) (λ k. omega arith) st; ok = refl; refused = tt }

  -- ---- The next life

  module _ (old : SourceState) (before : List (List ℕ)) (life : List ℕ) (h : HasLived x old s ended before life) where
    abbrev begun : m.State
    begun = begun_after x s before

    abbrev last : m.State
    last = m.after_from begun life

    abbrev so_many : ℕ → ℕ
    so_many k = ended k + (ended_lives x s before k + m.ended_from begun life k)

    as_many : length last.threads ≡ length begun.threads
    as_many = (sizes_stay begun life).0

    -- a thread stands inside a section
    module _ (done : ℕ) (count : done ≡ sum_by length before + length life) (schedule : List ℕ) (after : List (List ℕ))
        (stands_in : are_between last (length last.threads) ≡ false) where
      not_between : are_between last (length begun.threads) ≡ false
      not_between = ap (are_between last) (sym as_many) ∙ stands_in

      pub stopped_inside : RanLives x old (Err (record { kind = kind.Inside; step = done + 1 })) s ended ((before ++ life ∷ []) ++ schedule ∷ after)
      stopped_inside =
          let e : Refused = record { kind = kind.Inside; step = done + 1 } in
          let none = ap (λ t. t && are_between last (length begun.threads)) h.runs ∙ not_between in
          let here = stop_here x s before life (schedule ∷ after) h.ends none in
          let stop : IsLifeStop begun (sum_by length before) life (schedule ∷ after) e =
          inside schedule after refl h.runs not_between refl (let n : done + 1 ≡ sum_by length before + length life + 1 = omega (arith, count) in n) in
          let ran : RanLives x old (Err e) s ended (before ++ life ∷ schedule ∷ after) = record {
            stands = subst (λ (t : m.State). RepresentsState old t (λ k. ended k + ended_lives x s (before ++ life ∷ schedule ∷ after) k)) (sym here.state)
                (stands_as old last so_many (λ k. ended k + ended_lives x s (before ++ life ∷ schedule ∷ after) k)
                (λ k. ap (λ n. ended k + n) (sym (here.ended k))) h.stands);
            ok = sym (none_runs x s before life (schedule ∷ after) (not_run x stop));
            refused = record { before = before; life = life; after = schedule ∷ after; is = refl; ends = h.ends; stops = stop };
          } in
          subst (λ (ls : List (List ℕ)). RanLives x old (Err e) s ended ls) (sym (append_assoc before (life ∷ []) (schedule ∷ after))) ran

    -- another one begins
    module _ (between : are_between last (length last.threads) ≡ true) where
      ends : ends_life begun life ≡ true
      ends = ap (λ t. t && are_between last (length begun.threads)) h.runs ∙ ap (are_between last) (sym as_many) ∙ between

      all_end : end_lives x s (before ++ life ∷ []) ≡ true
      all_end = ends_more x s before life h.ends ends

      same : restart x last ≡ begun_after x s (before ++ life ∷ [])
      same = sym (begun_more x s before life)

      before_it : (k : ℕ) → ended_lives x s (before ++ life ∷ []) k ≡ ended_lives x s before k + m.ended_from begun life k
      before_it k =
          ended_life x s before life k ∙ ap (λ b. ended_lives x s before k + (if b then m.ended_from begun life k else 0)) h.ends

      module _ (next : SourceState) (schedule : List ℕ) where
        counts : (k : ℕ) → so_many k + m.ended_from (restart x last) schedule k
            ≡ ended k + (ended_lives x s (before ++ life ∷ []) k + m.ended_from (begun_after x s (before ++ life ∷ [])) schedule k)
        counts k =
            let moved = ap (λ (t : m.State). m.ended_from t schedule k) same in
            omega (arith, before_it k, moved)

        stands_then : RepresentsState next (m.after_from (restart x last) schedule) (λ k. so_many k + m.ended_from (restart x last) schedule k) →
            RepresentsState next (m.after_from (begun_after x s (before ++ life ∷ [])) schedule)
            (λ k. ended k + (ended_lives x s (before ++ life ∷ []) k + m.ended_from (begun_after x s (before ++ life ∷ [])) schedule k))
        stands_then st =
            subst (λ (t : m.State). RepresentsState next (m.after_from t schedule)
            (λ k. ended k + (ended_lives x s (before ++ life ∷ []) k + m.ended_from (begun_after x s (before ++ life ∷ [])) schedule k))) same
            (stands_as next (m.after_from (restart x last) schedule) _
            (λ k. ended k + (ended_lives x s (before ++ life ∷ []) k + m.ended_from (begun_after x s (before ++ life ∷ [])) schedule k)) counts st)

        pub lived_next : Ran next (Ok tt) (restart x last) so_many schedule → HasLived x next s ended (before ++ life ∷ []) schedule
        lived_next ran = record {
          ends = all_end;
          runs = ap (λ (t : m.State). m.runs_from t schedule) (sym same) ∙ sym ran.ok;
          stands = stands_then ran.stands;
        }

        pub stopped_next : (done : ℕ) → done ≡ sum_by length before + length life → (after : List (List ℕ)) (e : Refused) →
            Ran next (Err e) (restart x last) so_many schedule →
            RanLives x next (Err (record { kind = e.kind; step = done + e.step })) s ended ((before ++ life ∷ []) ++ schedule ∷ after)
        stopped_next done count after e ran =
            let front = before ++ life ∷ [] in
            let t = begun_after x s front in
            let told : Refused = record { kind = e.kind; step = done + e.step } in
            let is = subst (λ (z : m.State). IsRefusedSchedule e z schedule) same ran.refused in
            let none = ap (λ b. b && are_between (m.after_from t schedule) (length t.threads)) (not_whole t schedule e is) in
            let here = stop_here x s front schedule after all_end none in
            let so_far = sum_by_push length before life in
            let stop : IsLifeStop t (sum_by length front) schedule after told =
            at_step e is refl (let n : done + e.step ≡ sum_by length front + e.step = omega (arith, count, so_far) in n) in
            record {
              stands = subst (λ (z : m.State). RepresentsState next z (λ k. ended k + ended_lives x s (front ++ schedule ∷ after) k)) (sym here.state)
                  (stands_as next (m.after_from t schedule) _ (λ k. ended k + ended_lives x s (front ++ schedule ∷ after) k)
                  (λ k. ap (λ n. ended k + n) (sym (here.ended k))) (stands_then ran.stands));
              ok = sym (none_runs x s front schedule after (not_run x stop));
              refused = record { before = front; life = schedule; after = after; is = refl; ends = all_end; stops = stop };
            }

-- ---- Others, one after another

-- of lives after one, those so far have been gone through
pub record HasGone (x : f.Flat) (now : SourceState) (s : m.State) (ended : ℕ → ℕ) (before : List (List ℕ)) (life : List ℕ) (others : List (List ℕ)) :
    Type 0 where
  pub front : List (List ℕ)
  pub last : List ℕ
  pub is : before ++ life ∷ others ≡ front ++ last ∷ []
  pub lived : HasLived x now s ended front last

pub none_gone : (x : f.Flat) (now : SourceState) (s : m.State) (ended : ℕ → ℕ) (before : List (List ℕ)) (life : List ℕ) → HasLived x now s ended before life →
    HasGone x now s ended before life []
none_gone x now s ended before life h = record { front = before; last = life; is = refl; lived = h }

module _ {x : f.Flat} {now : SourceState} {s : m.State} {ended : ℕ → ℕ} {before : List (List ℕ)} {life : List ℕ} {others : List (List ℕ)}
    (g : HasGone x now s ended before life others) where
  -- with one more
  pub one_gone : (next : SourceState) (schedule : List ℕ) (more : List (List ℕ)) → more ≡ others ++ schedule ∷ [] →
      HasLived x next s ended (g.front ++ g.last ∷ []) schedule → HasGone x next s ended before life more
  one_gone next schedule more added lived = record {
    front = g.front ++ g.last ∷ [];
    last = schedule;
    is = ap (λ ls. before ++ life ∷ ls) added ∙ sym (append_assoc before (life ∷ others) (schedule ∷ []))
        ∙ ap (λ ls. ls ++ schedule ∷ []) g.is;
    lived = lived;
  }

  -- so many steps were made
  pub steps_gone : sum_by length g.front + length g.last ≡ sum_by length before + length life + sum_by length others
  steps_gone =
      let one = sum_by_push length g.front g.last in
      let all = ap (sum_by length) g.is in
      let parts = sum_by-append length before (life ∷ others) in
      let first = sum_by-cons length life others in
      omega (arith, one, all, parts, first)

  -- where one more stops them
  pub rest_stopped : (next : SourceState) (e : Refused) (schedule : List ℕ) (after whole : List (List ℕ)) → whole ≡ others ++ schedule ∷ after →
      RanLives x next (Err e) s ended ((g.front ++ g.last ∷ []) ++ schedule ∷ after) → RanLives x next (Err e) s ended (before ++ life ∷ whole)
  rest_stopped next e schedule after whole is ran =
      let same : (g.front ++ g.last ∷ []) ++ schedule ∷ after ≡ before ++ life ∷ whole =
      ap (λ ls. ls ++ schedule ∷ after) (sym g.is) ∙ append_assoc before (life ∷ others) (schedule ∷ after) ∙ ap (λ ls. before ++ life ∷ ls) (sym is) in
      subst (λ (ls : List (List ℕ)). RanLives x next (Err e) s ended ls) same ran

  -- where they were all
  pub all_gone : RanLives x now (Ok tt) s ended (before ++ life ∷ others)
  all_gone = subst (λ (ls : List (List ℕ)). RanLives x now (Ok tt) s ended ls) (sym g.is) (all_lived x s ended now g.front g.last g.lived)

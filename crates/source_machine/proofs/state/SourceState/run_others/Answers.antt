use Rattle.std.proofs.Common.{Vec, ◌≡◌, ◌+◌, ◌<◌, ◌≤◌, ◌++◌, ◌∷◌, [], ◌∙◌, ℕ, List, refl, sym, ap, subst, arith, length, map, take, drop, get_or}
use Rattle.std.specs.Prelude.{sum_by}
use Rattle.std.specs.Global.{Global}
use Rattle.std.proofs.lemmas.List.{at_drop_more, map-append, map_more, take-append-drop, take_all}
use Rattle.std.proofs.lemmas.List.Sums.{sum_by-append, sum_by-cons, sum_by_push}
use Rattle.source_machine.specs.links.LifeRuns.{schedule_of}
use Rattle.source_machine.proofs.LifeRuns.{HasGone, all_gone, none_gone, one_gone, rest_stopped, steps_gone}
use Rattle.source_machine.proofs.state.SourceState.run_others.Goals as goal

pub loop-i-init : goal.loop-i-init
loop-i-init c = record {
  gone = λ x s ended before life run lived. none_gone x c.args.self.now s ended before life lived;
  steps = omega arith;
  end = refl;
  run = λ x run. run;
  threads = refl;
}

module _ (others : List (Vec ℕ Global)) (i : ℕ) (v : Vec ℕ Global) (steps : List ℕ) (within : i < length others) (is : v ≡ get_or others i v)
    (same : steps ≡ v.items) where
  -- the next of the others
  next_is : map schedule_of (take (i + 1) others) ≡ map schedule_of (take i others) ++ steps ∷ []
  next_is =
      map_more schedule_of others i v within
      ∙ ap (λ (ts : List ℕ). map schedule_of (take i others) ++ ts ∷ []) (ap schedule_of (sym is) ∙ sym same)

  all_are : map schedule_of others ≡ map schedule_of (take i others) ++ steps ∷ map schedule_of (drop (i + 1) others)
  all_are =
      ap (map schedule_of) (sym (take-append-drop i others)) ∙ map-append schedule_of (take i others) (drop i others)
      ∙ ap (λ (ls : List (List ℕ)). map schedule_of (take i others) ++ ls) (at_drop_more (map schedule_of) others i v within)
      ∙ ap (λ (ts : List ℕ). map schedule_of (take i others) ++ ts ∷ map schedule_of (drop (i + 1) others)) (ap schedule_of (sym is) ∙ sym same)

  -- there is room for its steps
  room : sum_by length (map schedule_of (take i others)) + length steps ≤ sum_by length (map schedule_of others)
  room =
      let all = ap (sum_by length) all_are in
      let parts = sum_by-append length (map schedule_of (take i others)) (steps ∷ map schedule_of (drop (i + 1) others)) in
      let one = sum_by-cons length steps (map schedule_of (drop (i + 1) others)) in
      omega (arith, all, parts, one)

pub run_next-requires : goal.run_next-requires
run_next-requires c =
    let inv = c.loop-i.invariant in
    let fits = room c.args.others.now c.loop-i.i c.index-others-i.result c.deref.result.now (omega (arith, c.loop-i-test.true, inv.end)) c.index-others-i.is
    c.deref.ensures.value in
    omega (arith, fits, inv.steps, c.requires)

pub overflow_add-steps : goal.overflow_add-steps
overflow_add-steps c =
    let inv = c.loop-i.invariant in
    let v = c.index-others-i.result in
    let fits = room c.args.others.now c.loop-i.i v c.deref.result.now (omega (arith, c.loop-i-test.true, inv.end)) c.index-others-i.is c.deref.ensures.value in
    omega (arith, fits, inv.steps, c.requires, c.len.ensures, ap length c.deref.ensures.value, v.ok.0)

pub loop-i-preserved : goal.loop-i-preserved
loop-i-preserved c =
    let others = c.args.others.now in
    let i = c.loop-i.i in
    let inv = c.loop-i.invariant in
    let v = c.index-others-i.result in
    let more = next_is others i v c.deref.result.now (omega (arith, c.loop-i-test.true, inv.end)) c.index-others-i.is c.deref.ensures.value in
    record {
      gone = λ x s ended before life run lived.
          let g = inv.gone x s ended before life run lived in
          one_gone g c.run_next.new.self c.deref.result.now (map schedule_of (take (i + 1) others)) more
          (c.in_default.ensures.lived x s ended g.front g.last (inv.run x run) g.lived);
      steps =
          let sum = ap (sum_by length) more in
          let one = sum_by_push length (map schedule_of (take i others)) c.deref.result.now in
          omega (arith, inv.steps, sum, one, c.len.ensures, ap length c.deref.ensures.value, v.ok.0);
      end = inv.end;
      run = λ x run. c.run_next.ensures.run x (inv.run x run);
      threads = c.run_next.ensures.threads ∙ inv.threads;
    }

pub returns-in-Err-clause-ran : goal.returns-in-Err-clause-ran
returns-in-Err-clause-ran c = λ x s ended before life run lived count.
    let others = c.args.others.now in
    let i = c.loop-i.i in
    let inv = c.loop-i.invariant in
    let g = inv.gone x s ended before life run lived in
    let steps = steps_gone g in
    let within : i < length others = omega (arith, c.loop-i-test.true, inv.end) in
    rest_stopped g c.run_next.new.self c.in-Err.refused c.deref.result.now (map schedule_of (drop (i + 1) others)) (map schedule_of others)
    (all_are others i c.index-others-i.result c.deref.result.now within c.index-others-i.is c.deref.ensures.value)
    (c.in-Err.ensures.stopped x s ended g.front g.last (map schedule_of (drop (i + 1) others)) (inv.run x run) g.lived
    (omega (arith, steps, inv.steps, count)))

pub returns-clause-ran : goal.returns-clause-ran
returns-clause-ran c = λ x s ended before life run lived count.
    let others = c.args.others.now in
    let i = c.loop-i.i in
    let inv = c.loop-i.invariant in
    let whole = ap (map schedule_of) (take_all i others (omega (arith, c.loop-i-test.false, inv.end))) in
    all_gone (subst (λ (ls : List (List ℕ)). HasGone x c.loop-i.self s ended before life ls) whole (inv.gone x s ended before life run lived))

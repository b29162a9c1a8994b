-- Lives up to where they stop: where that is, what they have come to by then, and their sizes.
use Rattle.std.proofs.Common.{◌≡◌, refl, ℕ, ◌+◌, List, [], ◌∷◌, ◌++◌, length, map, sym, ◌∙◌, ap, ap₂, subst, arith, Bool, true, false, ◌&&◌}
use Rattle.std.specs.Prelude.{if◌then◌else◌, sum_by}
use Rattle.std.proofs.lemmas.Bool.{and_parts}
use Rattle.std.proofs.lemmas.List.{length-map}
use Rattle.c_tree.specs.Flats as f
use Rattle.c_tree.specs.Source as m
use Rattle.c_tree.specs.Source.{State, after_from, ended_from, runs_from}
use Rattle.source_machine.specs.declared.answers.RefusedKind.{RefusedKind}
use Rattle.source_machine.specs.declared.answers.RefusedKind.TheVariants as kind
use Rattle.source_machine.specs.declared.answers.Refused.{Refused}
use Rattle.source_machine.specs.Lives.{after_lives, are_between, begun_after, end_lives, ended_lives, ends_life, restart, runs_lives}
use Rattle.source_machine.specs.Lives.{LifeSizesStay}
use Rattle.source_machine.specs.LifeRuns.{IsLifeStop, LivesNotWhole, OneLifeStop, at_step, inside}
use Rattle.source_machine.proofs.StepsKeepOthers.{sizes_stay}
use Rattle.source_machine.proofs.UniqueRefusals.{not_whole, one_stop}

-- ---- A life, and others after it

module _ (x : f.Flat) where
  -- the state in which the life after one begins
  abbrev next_of : State → (life : List ℕ) → State
  next_of s life = restart x (after_from s life)

  -- where a life ends and others come after it, these go on
  after_ended : (s : State) (life : List ℕ) (before : List (List ℕ)) (last : List ℕ) (after : List (List ℕ)) → ends_life s life ≡ true →
      after_lives x s (life ∷ (before ++ last ∷ after)) ≡ after_lives x (next_of s life) (before ++ last ∷ after)
  after_ended s life [] last after e = ap (λ t. if t then after_lives x (next_of s life) (last ∷ after) else after_from s life) e
  after_ended s life (b ∷ bs) last after e =
      ap (λ t. if t then after_lives x (next_of s life) (b ∷ (bs ++ last ∷ after)) else after_from s life) e

  runs_others : (s : State) (life : List ℕ) (before : List (List ℕ)) (last : List ℕ) (after : List (List ℕ)) →
      runs_lives x s (life ∷ (before ++ last ∷ after)) ≡ (ends_life s life && runs_lives x (next_of s life) (before ++ last ∷ after))
  runs_others s life [] last after = refl
  runs_others s life (b ∷ bs) last after = refl

  ended_others : (s : State) (life : List ℕ) (before : List (List ℕ)) (last : List ℕ) (after : List (List ℕ)) (k : ℕ) → ends_life s life ≡ true →
      ended_lives x s (life ∷ (before ++ last ∷ after)) k ≡ ended_from s life k + ended_lives x (next_of s life) (before ++ last ∷ after) k
  ended_others s life [] last after k e = ap (λ t. ended_from s life k + (if t then ended_lives x (next_of s life) (last ∷ after) k else 0)) e
  ended_others s life (b ∷ bs) last after k e =
      ap (λ t. ended_from s life k + (if t then ended_lives x (next_of s life) (b ∷ (bs ++ last ∷ after)) k else 0)) e

  ended_more : (s : State) (life : List ℕ) (before : List (List ℕ)) (k : ℕ) → ends_life s life ≡ true →
      ended_lives x s (life ∷ before) k ≡ ended_from s life k + ended_lives x (next_of s life) before k
  ended_more s life [] k e = omega arith
  ended_more s life (b ∷ bs) k e = ap (λ t. ended_from s life k + (if t then ended_lives x (next_of s life) (b ∷ bs) k else 0)) e

  -- ---- One life more

  pub ends_more : (s : State) (before : List (List ℕ)) (life : List ℕ) → end_lives x s before ≡ true → ends_life (begun_after x s before) life ≡ true →
      end_lives x s (before ++ life ∷ []) ≡ true
  ends_more s [] life ends e = ap (λ t. t && true) e
  ends_more s (b ∷ bs) life ends e =
      let parts = and_parts (ends_life s b) (end_lives x (next_of s b) bs) ends in
      ap₂ (λ (t u : Bool). t && u) parts.0 (ends_more (next_of s b) bs life parts.1 e)

  pub begun_more : (s : State) (before : List (List ℕ)) (life : List ℕ) →
      begun_after x s (before ++ life ∷ []) ≡ restart x (after_from (begun_after x s before) life)
  begun_more s [] life = refl
  begun_more s (b ∷ bs) life = begun_more (next_of s b) bs life

  -- ---- Where lives stop

  -- what they come to where the lives before one end, and that one doesn't, or is the last
  pub record StopHere (s : State) (before : List (List ℕ)) (life : List ℕ) (after : List (List ℕ)) : Type 0 where
    pub state : after_lives x s (before ++ life ∷ after) ≡ after_from (begun_after x s before) life
    pub ended : (k : ℕ) → ended_lives x s (before ++ life ∷ after) k ≡ ended_lives x s before k + ended_from (begun_after x s before) life k

  stops_at : (s : State) (life : List ℕ) (after : List (List ℕ)) → ends_life s life ≡ false → StopHere s [] life after
  stops_at s life [] e = record { state = refl; ended = λ k. omega arith }
  stops_at s life (a ∷ more) e = record {
    state = ap (λ t. if t then after_lives x (next_of s life) (a ∷ more) else after_from s life) e;
    ended = λ k.
        let none = ap (λ t. ended_from s life k + (if t then ended_lives x (next_of s life) (a ∷ more) k else 0)) e in
        omega (arith, none);
  }

  pub stop_here : (s : State) (before : List (List ℕ)) (life : List ℕ) (after : List (List ℕ)) → end_lives x s before ≡ true →
      ends_life (begun_after x s before) life ≡ false → StopHere s before life after
  stop_here s [] life after ends e = stops_at s life after e
  stop_here s (b ∷ bs) life after ends e =
      let parts = and_parts (ends_life s b) (end_lives x (next_of s b) bs) ends in
      let rest = stop_here (next_of s b) bs life after parts.1 e in
      record {
        state = after_ended s b bs life after parts.0 ∙ rest.state;
        ended = λ k. omega (arith, ended_others s b bs life after k parts.0, ended_more s b bs k parts.0, rest.ended k);
      }

  pub none_runs : (s : State) (before : List (List ℕ)) (life : List ℕ) (after : List (List ℕ)) →
      runs_lives x (begun_after x s before) (life ∷ after) ≡ false → runs_lives x s (before ++ life ∷ after) ≡ false
  none_runs s [] life after e = e
  none_runs s (b ∷ bs) life after e =
      runs_others s b bs life after ∙ ap (λ t. ends_life s b && t) (none_runs (next_of s b) bs life after e) ∙ never (ends_life s b)
    where
      never : (t : Bool) → (t && false) ≡ false
      never true = refl
      never false = refl

-- ---- A life that stops them doesn't end

module _ {s : State} {done : ℕ} {life : List ℕ} {after : List (List ℕ)} {r : Refused} where
  pub not_ending : IsLifeStop s done life after r → ends_life s life ≡ false
  not_ending (at_step stop is kind step) = ap (λ t. t && are_between (after_from s life) (length s.threads)) (not_whole s life stop is)
  not_ending (inside next more others runs between kind step) = ap₂ (λ (t u : Bool). t && u) runs between

  pub not_run : (x : f.Flat) → IsLifeStop s done life after r → runs_lives x s (life ∷ after) ≡ false
  not_run x (at_step stop is kind step) = by after
    where
      by : (after : List (List ℕ)) → runs_lives x s (life ∷ after) ≡ false
      by [] = not_whole s life stop is
      by (a ∷ more) =
          ap (λ t. (t && are_between (after_from s life) (length s.threads)) && runs_lives x (restart x (after_from s life)) (a ∷ more))
          (not_whole s life stop is)
  not_run x (inside next more others runs between kind step) =
      ap (λ ls. runs_lives x s (life ∷ ls)) others
      ∙ ap (λ t. t && runs_lives x (restart x (after_from s life)) (next ∷ more)) (ap₂ (λ (t u : Bool). t && u) runs between)

pub lives_not_whole : LivesNotWhole
lives_not_whole x s lives r stop =
    ap (runs_lives x s) stop.is ∙ none_runs x s stop.before stop.life stop.after (not_run x stop.stops)

-- ---- They stop once

true_false : (t : Bool) → t ≡ true → t ≡ false → ⊥
true_false true e f = cc
true_false false e f = cc

one_place : (x : f.Flat) (s : State) (before : List (List ℕ)) (life : List ℕ) (after other : List (List ℕ)) (that : List ℕ) (past : List (List ℕ)) →
    before ++ life ∷ after ≡ other ++ that ∷ past → end_lives x s before ≡ true → end_lives x s other ≡ true →
    ends_life (begun_after x s before) life ≡ false → ends_life (begun_after x s other) that ≡ false → (before ≡ other) × (life ≡ that) × (after ≡ past)
one_place x s [] life after [] that past e ends also stops too =
    let first : life ≡ that = cc in
    let rest : after ≡ past = cc in
    (refl, first, rest)
one_place x s [] life after (o ∷ os) that past e ends also stops too =
    let first : life ≡ o = cc in
    let parts = and_parts (ends_life s o) (end_lives x (restart x (after_from s o)) os) also in
    absurd (true_false (ends_life s life) (ap (ends_life s) first ∙ parts.0) stops)
one_place x s (b ∷ bs) life after [] that past e ends also stops too =
    let first : b ≡ that = cc in
    let parts = and_parts (ends_life s b) (end_lives x (restart x (after_from s b)) bs) ends in
    absurd (true_false (ends_life s b) parts.0 (ap (ends_life s) first ∙ too))
one_place x s (b ∷ bs) life after (o ∷ os) that past e ends also stops too =
    let first : b ≡ o = cc in
    let rest : bs ++ life ∷ after ≡ os ++ that ∷ past = cc in
    let one = and_parts (ends_life s b) (end_lives x (restart x (after_from s b)) bs) ends in
    let two = and_parts (ends_life s o) (end_lives x (restart x (after_from s o)) os) also in
    let same : restart x (after_from s o) ≡ restart x (after_from s b) = ap (λ l. restart x (after_from s l)) (sym first) in
    let both = one_place x (restart x (after_from s b)) bs life after os that past rest one.1
    (subst (λ (t : State). end_lives x t os ≡ true) same two.1) stops
    (subst (λ (t : State). ends_life (begun_after x t os) that ≡ false) same too) in
    (ap₂ (λ (l : List ℕ) (ls : List (List ℕ)). l ∷ ls) first both.0, both.1, both.2)

abbrev make : ℕ → RefusedKind → Refused
make step kind = record { step = step; kind = kind }

equal : (r q : Refused) → r.kind ≡ q.kind → r.step ≡ q.step → r ≡ q
equal r q kinds steps = ap₂ make steps kinds

one_reason : {s : State} {done : ℕ} {life : List ℕ} {after : List (List ℕ)} (r q : Refused) → IsLifeStop s done life after r → IsLifeStop s done life after q →
    r ≡ q
one_reason {s} {done} {life} r q (at_step stop is kind step) (at_step other also kind' step') =
    let same = one_stop s life stop other is also in
    equal r q (kind ∙ ap (λ (z : Refused). z.kind) same ∙ sym kind') (step ∙ ap (λ (z : Refused). done + z.step) same ∙ sym step')
one_reason {s} {done} {life} r q (at_step stop is kind step) (inside next more others runs between kind' step') =
    absurd (true_false (runs_from s life) runs (not_whole s life stop is))
one_reason {s} {done} {life} r q (inside next more others runs between kind step) (at_step stop is kind' step') =
    absurd (true_false (runs_from s life) runs (not_whole s life stop is))
one_reason {s} {done} {life} r q (inside next more others runs between kind step) (inside next' more' others' runs' between' kind' step') =
    equal r q (kind ∙ sym kind') (step ∙ sym step')

pub one_life_stop : OneLifeStop
one_life_stop x s lives r q stop other =
    let place = one_place x s stop.before stop.life stop.after other.before other.life other.after (sym stop.is ∙ other.is) stop.ends other.ends
    (not_ending stop.stops) (not_ending other.stops) in
    let moved = subst (λ (l : List ℕ). IsLifeStop (begun_after x s stop.before) (sum_by length stop.before) l other.after q) (sym place.1)
    (subst (λ (bs : List (List ℕ)). IsLifeStop (begun_after x s bs) (sum_by length bs) other.life other.after q) (sym place.0) other.stops) in
    one_reason r q stop.stops
    (subst (λ (ls : List (List ℕ)). IsLifeStop (begun_after x s stop.before) (sum_by length stop.before) stop.life ls q) (sym place.2) moved)

-- ---- Sizes

pub life_sizes_stay : LifeSizesStay
life_sizes_stay x s [] many = (many, refl)
life_sizes_stay x s (life ∷ []) many = let same = sizes_stay s life in (same.0 ∙ many, same.1)
life_sizes_stay x s (life ∷ next ∷ rest) many =
    by (ends_life s life) (life_sizes_stay x (restart x (after_from s life)) (next ∷ rest) (length-map x.threads m.thread_start))
  where
    t : State
    t = restart x (after_from s life)

    by : (b : Bool) → (length (after_lives x t (next ∷ rest)).threads ≡ length x.threads)
        × (map length (after_lives x t (next ∷ rest)).variables ≡ map length t.variables) →
        let after = if b then after_lives x t (next ∷ rest) else after_from s life in
        (length after.threads ≡ length x.threads) × (map length after.variables ≡ map length s.variables)
    by true more = (more.0, more.1 ∙ (sizes_stay s life).1)
    by false more = let same = sizes_stay s life in (same.0 ∙ many, same.1)

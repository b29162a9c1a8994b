-- The steps that are kept when a life begins, and where the lives before it end.
use Rattle.std.proofs.Common.{◌≡◌, ℕ, ◌+◌, ◌<◌, ◌≤◌, List, [], ◌∷◌, ◌++◌, length, get_or, map, take, drop, ap, sym, ◌∙◌, arith, length-append}
use Rattle.std.specs.Prelude.{Vec}
use Rattle.std.specs.Global.{Global}
use Rattle.std.proofs.lemmas.List.{map-append, map_more, take-append-drop}
use Rattle.std.proofs.lemmas.List.Concat.{flat_map-append}
use Rattle.machine_model.specs.Schedule.{first_steps, only_life}
use Rattle.run_tracker.specs.declared.account.Account.{Account}
use Rattle.run_tracker.specs.links.AccountRepresentation.{AccountInv, ends_from}
use Rattle.run_tracker.specs.links.EarlierLives.{kept_count, lives_in, schedule_in, steps_together}
use Rattle.run_tracker.proofs.LivesEnd.{ends_more, together_more}

-- ---- One life more

module _ (lives : List (Vec ℕ Global)) (i : ℕ) (v : Vec ℕ Global) (within : i < length lives) (is : v ≡ get_or lives i v) where
  abbrev before : List (List ℕ)
  before = map schedule_in (take i lives)

  taken_more : map schedule_in (take (i + 1) lives) ≡ before ++ v.items ∷ []
  taken_more = map_more schedule_in lives i v within ∙ ap (λ (w : Vec ℕ Global). before ++ schedule_in w ∷ []) (sym is)

  pub steps_more : length (steps_together (map schedule_in (take (i + 1) lives))) ≡ length (steps_together before) + length v.items
  steps_more =
      omega (
        arith,
        ap (λ (all : List (List ℕ)). length (steps_together all)) taken_more,
        ap length (together_more before v.items),
        length-append (steps_together before) v.items,
      )

  pub steps_within : length (steps_together before) + length v.items ≤ length (steps_together (map schedule_in lives))
  steps_within =
      let one : List (List ℕ) = map schedule_in (take (i + 1) lives) in
      let rest : List (List ℕ) = map schedule_in (drop (i + 1) lives) in
      let parts : map schedule_in lives ≡ one ++ rest =
      ap (map schedule_in) (sym (take-append-drop (i + 1) lives)) ∙ map-append schedule_in (take (i + 1) lives) (drop (i + 1) lives) in
      omega (
        arith,
        steps_more,
        ap (λ (all : List (List ℕ)). length (steps_together all)) parts,
        ap length (flat_map-append (λ (steps : List ℕ). steps) one rest),
        length-append (steps_together one) (steps_together rest),
      )

  pub one_end_more : (ends new : List ℕ) (end : ℕ) → ends ≡ ends_from 0 before → end ≡ length (steps_together before) + length v.items →
      new ≡ ends ++ end ∷ [] → new ≡ ends_from 0 (map schedule_in (take (i + 1) lives))
  one_end_more ends new end was end_is pushed =
      let there : end ≡ 0 + length (steps_together before ++ v.items) = omega (arith, end_is, length-append (steps_together before) v.items) in
      pushed ∙ ap (λ (ns : List ℕ). ns ++ end ∷ []) was ∙ ap (λ (n : ℕ). ends_from 0 before ++ n ∷ []) there ∙ sym (ends_more 0 before v.items)
      ∙ ap (ends_from 0) (sym taken_more)

-- ---- The account

-- it has the steps of the lives before, and after them those of the life that goes on
module _ (earlier : List (Vec ℕ Global)) (schedule first all given : List ℕ) (first_is : first ≡ steps_together (map schedule_in earlier))
    (all_is : all ≡ first ++ schedule) (given_is : given ≡ all) where
  pub given_count : length given ≡ kept_count earlier schedule
  given_count = omega (arith, ap length given_is, ap length all_is, length-append first schedule, ap length first_is)

  pub is_accounted : (harts : ℕ) (account : Account) → AccountInv account (first_steps (only_life given)) →
      AccountInv account (first_steps (lives_in earlier schedule))
  is_accounted harts account a = record {
    kept = sym (given_is ∙ all_is ∙ ap (λ (steps : List ℕ). steps ++ schedule) first_is) ∙ a.kept;
    each = a.each;
    some = a.some;
    within = a.within;
  }

-- Accounts over lives: where the life that goes on begins, after those that have ended.
use Rattle.std.proofs.Common.{◌≡◌, refl, ℕ, zero, suc, List, [], ◌∷◌, ◌++◌, ap, ap₂, sym, ◌∙◌, Bool, true, false, ◌&&◌, append-nil, append_assoc}
use Rattle.c_tree.specs.Flats as f
use Rattle.c_tree.specs.Source.{State, after_from, is_between, start}
use Rattle.source_machine.specs.Lives.{are_between, begun_after, end_lives, ends_life, restart}
use Rattle.machine_model.specs.Machine.{World}
use Rattle.machine_model.specs.Schedule.{Steps}
use Rattle.crash_simulation.specs.Systems.{System, IsSystem, flat_of}
use Rattle.crash_simulation.specs.AccountRelation.{Beginning, SimulatesLives, beginning_after, first_beginning, next_beginning}

-- ---- Lives one after another

and_yes : (b : Bool) → (b && true) ≡ b
and_yes true = refl
and_yes false = refl

and_both : (a b c : Bool) → (a && (b && c)) ≡ ((a && b) && c)
and_both true b c = refl
and_both false b c = refl

pub all_between : (s : State) (count : ℕ) → ((thread : ℕ) → is_between s thread ≡ true) → are_between s count ≡ true
all_between s zero each = refl
all_between s (suc n) each = ap₂ (λ (a b : Bool). a && b) (all_between s n each) (each n)

ends_more : (x : f.Flat) (s : State) (lives : List (List ℕ)) (last : List ℕ) →
    end_lives x s (lives ++ last ∷ []) ≡ (end_lives x s lives && ends_life (begun_after x s lives) last)
ends_more x s [] last = and_yes (ends_life s last)
ends_more x s (schedule ∷ rest) last =
    let t : State = restart x (after_from s schedule) in
    ap (λ (b : Bool). ends_life s schedule && b) (ends_more x t rest last)
    ∙ and_both (ends_life s schedule) (end_lives x t rest) (ends_life (begun_after x t rest) last)

pub one_more_ends : (x : f.Flat) (s : State) (lives : List (List ℕ)) (last : List ℕ) → end_lives x s lives ≡ true →
    ends_life (begun_after x s lives) last ≡ true → end_lives x s (lives ++ last ∷ []) ≡ true
one_more_ends x s lives last all one = ends_more x s lives last ∙ ap₂ (λ (a b : Bool). a && b) all one

-- ---- Beginnings

module _ (y : System) where
  pub from_after : (g : Beginning) (lives : List (List ℕ)) → (beginning_after y g lives).from ≡ begun_after (flat_of y) g.from lives
  from_after g [] = refl
  from_after g (schedule ∷ rest) = from_after (next_beginning y g schedule) rest

  pub earlier_after : (g : Beginning) (lives : List (List ℕ)) → g.kept ≡ [] → (beginning_after y g lives).earlier ≡ g.earlier ++ lives
  earlier_after g [] none = sym (append-nil g.earlier)
  earlier_after g (schedule ∷ rest) none =
      earlier_after (next_beginning y g schedule) rest refl
      ∙ (ap (λ (kept : List ℕ). (g.earlier ++ (kept ++ schedule) ∷ []) ++ rest) none ∙ append_assoc g.earlier (schedule ∷ []) rest)

  pub kept_after : (g : Beginning) (lives : List (List ℕ)) → g.kept ≡ [] → (beginning_after y g lives).kept ≡ []
  kept_after g [] none = none
  kept_after g (schedule ∷ rest) none = kept_after (next_beginning y g schedule) rest refl

  pub one_more : (g : Beginning) (lives : List (List ℕ)) (last : List ℕ) →
      beginning_after y g (lives ++ last ∷ []) ≡ next_beginning y (beginning_after y g lives) last
  one_more g [] last = refl
  one_more g (schedule ∷ rest) last = one_more (next_beginning y g schedule) rest last

-- ---- The account by the kept schedules of all lives, where the first one began at the source's start

module _ (y : System) (s : IsSystem y) (w : World) (steps : Steps) {r : ℕ → ℕ} (z : SimulatesLives y s (first_beginning y) w steps r) where
  open z.is.stands use {abstract as b}

  abbrev x : f.Flat
  x = flat_of y

  pub lives_are : steps.earlier ≡ z.lives
  lives_are = z.is.counted.earlier ∙ earlier_after y (first_beginning y) z.lives refl

  -- each life before has ended
  pub all_ended : end_lives x (start x) steps.earlier ≡ true
  all_ended = ap (end_lives x (start x)) lives_are ∙ z.ended

  -- the abstract run begins where this life does
  pub begins_at : b.origin.source ≡ begun_after x (start x) steps.earlier
  begins_at = z.is.counted.begins ∙ (from_after y (first_beginning y) z.lives ∙ ap (begun_after x (start x)) (sym lives_are))

  pub schedule_is : steps.kept ≡ b.schedule
  schedule_is = z.is.counted.kept ∙ ap (λ (kept : List ℕ). kept ++ b.schedule) (kept_after y (first_beginning y) z.lives refl)

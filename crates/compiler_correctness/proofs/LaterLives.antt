-- The source over lives, by the abstract run of the one that goes on.
use Rattle.std.proofs.Common.{◌≡◌, refl, ℕ, List, [], ◌∷◌, ◌++◌, ap, ap₂, sym, ◌∙◌, Bool, true, ◌&&◌, append_assoc}
use Rattle.std.specs.Prelude.{if◌then◌else◌}
use Rattle.c_tree.specs.Source.{State, after_from, runs_from}
use Rattle.source_machine.specs.Lives.{after_lives, begun_after, runs_lives}
use Rattle.source_machine.proofs.Public.{after_life, runs_life}
use Rattle.machine_model.specs.Machine.{World}
use Rattle.machine_model.specs.Schedule.{LifeSchedules, Steps}
use Rattle.crash_simulation.specs.Systems.{System, IsSystem, flat_of}
use Rattle.crash_simulation.specs.AccountRelation.{Beginning, SimulatesLives, beginning_after, first_beginning, next_beginning}
use Rattle.crash_simulation.proofs.Public.{begins_at, earlier_after, from_after, kept_after, lives_are}
use Rattle.compiler_correctness.specs.Translations.{IsRunnable, source, source_at}
use Rattle.compiler_correctness.specs.WordRuns.{behind}
use Rattle.compiler_correctness.specs.Laws.{translation_of}

-- ---- Lives since an account began

module _ (y : System) (s : IsSystem y) {first : Beginning} (w : World) (account : Steps) {r : ℕ → ℕ} (z : SimulatesLives y s first w account r) where
  begun_is : begun_after (flat_of y) first.from z.lives ≡ z.is.stands.abstract.origin.source
  begun_is = sym (z.is.counted.begins ∙ from_after y first z.lives)

  -- after the life that goes on by such steps
  pub after_since : (last : List ℕ) → after_lives (flat_of y) first.from (z.lives ++ last ∷ []) ≡ after_from z.is.stands.abstract.origin.source last
  after_since last =
      after_life (flat_of y) first.from z.lives last
      ∙ (ap (λ (ended : Bool). if ended then after_from (begun_after (flat_of y) first.from z.lives) last
      else after_lives (flat_of y) first.from z.lives) z.ended
      ∙ ap (λ (from : State). after_from from last) begun_is)

  pub runs_since : (last : List ℕ) → runs_from z.is.stands.abstract.origin.source last ≡ true →
      runs_lives (flat_of y) first.from (z.lives ++ last ∷ []) ≡ true
  runs_since last runs =
      runs_life (flat_of y) first.from z.lives last
      ∙ ap₂ (λ (ended stepped : Bool). ended && stepped) z.ended (ap (λ (from : State). runs_from from last) begun_is ∙ runs)

-- the account's schedules are those behind the ones that were kept before
pub behind_is : (y : System) (g : Beginning) (lives : List (List ℕ)) (schedule : List ℕ) →
    (let z : LifeSchedules = record { earlier = (beginning_after y g lives).earlier; schedule = (beginning_after y g lives).kept ++ schedule } in z)
    ≡ behind (record { earlier = g.earlier; schedule = g.kept }) lives schedule
behind_is y g [] schedule = refl
behind_is y g (one ∷ rest) schedule =
    let next : Beginning = next_beginning y g one in
    let earlier : (beginning_after y next rest).earlier ≡ g.earlier ++ (g.kept ++ one) ∷ rest =
    earlier_after y next rest refl ∙ append_assoc g.earlier ((g.kept ++ one) ∷ []) rest in
    let kept : (beginning_after y next rest).kept ++ schedule ≡ schedule = ap (λ (ks : List ℕ). ks ++ schedule) (kept_after y next rest refl) in
    λ i. record { earlier = earlier i; schedule = kept i }

-- ---- Lives since the source's start

module _ (y : System) (s : IsSystem y) (w : World) (account : Steps) {r : ℕ → ℕ} (z : SimulatesLives y s (first_beginning y) w account r) where
  pub source_is : (last : List ℕ) → source (translation_of y) (account.earlier ++ last ∷ []) ≡ after_from z.is.stands.abstract.origin.source last
  source_is last =
      ap (λ (lives : List (List ℕ)). source (translation_of y) (lives ++ last ∷ [])) (lives_are y s w account z) ∙ after_since y s w account z last

  pub runnable : (last : List ℕ) → runs_from z.is.stands.abstract.origin.source last ≡ true → IsRunnable (translation_of y) (account.earlier ++ last ∷ [])
  runnable last runs =
      ap (λ (lives : List (List ℕ)). runs_lives (flat_of y) (first_beginning y).from (lives ++ last ∷ [])) (lives_are y s w account z)
      ∙ runs_since y s w account z last runs

  pub begun_state : source_at (translation_of y) account.earlier ≡ z.is.stands.abstract.origin.source
  begun_state = sym (begins_at y s w account z)

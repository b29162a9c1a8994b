-- What is read again as some contents is read as equal ones, and the schedule of one life.
use Rattle.std.proofs.Common.{◌≡◌, ◌≤◌, ◌∷◌, [], ℕ, List, length, length-append, map, subst, sym, ◌∙◌, ap, arith}
use Rattle.std.specs.Prelude.{Vec, sum_by}
use Rattle.std.specs.Global.{Global}
use Rattle.std.proofs.lemmas.List.{length-map}
use Rattle.std.proofs.lemmas.List.Sums.{sum_by-cons}
use Rattle.machine_model.specs.Schedule.{Steps, schedules}
use Rattle.run_scripts.specs.links.ReportViews.{steps_of}
use Rattle.crash_images.specs.Contents.{Contents, contents}
use Rattle.crash_images.specs.ImageDecoder.{IsReadAs}
use Rattle.crash_images.specs.declared.version.ImageVersion.{ImageVersion}

pub read_as_same : (version : ImageVersion) (source variables logs : List ℕ) (schedules : List (List ℕ)) (bytes vs ls : List ℕ) (ks : List (List ℕ)) →
    IsReadAs version (contents source variables logs schedules) bytes → variables ≡ vs → logs ≡ ls → schedules ≡ ks →
    IsReadAs version (contents source vs ls ks) bytes
read_as_same version source variables logs schedules bytes vs ls ks read a b c =
    subst (λ (o : Contents). IsReadAs version o bytes)
    (ap (λ (x : List ℕ). contents source x logs schedules) a ∙ ap (λ (x : List ℕ). contents source vs x schedules) b ∙ ap (contents source vs ls) c) read

module _ (schedules : List (Vec ℕ Global)) (schedule : List ℕ) (is : map steps_of schedules ≡ schedule ∷ []) where
  pub one_schedule : length schedules ≡ 1
  one_schedule = sym (length-map schedules steps_of) ∙ ap length is

  pub as_many_steps : sum_by length (map steps_of schedules) ≡ length schedule
  as_many_steps = omega (arith, ap (sum_by length) is, sum_by-cons length schedule [])

-- the schedules of all lives
module _ (kept : List (Vec ℕ Global)) (s : Steps) (is : map steps_of kept ≡ schedules s) where
  pub as_many_lives : length kept ≡ length (schedules s)
  as_many_lives = sym (length-map kept steps_of) ∙ ap length is

  pub some_life : 1 ≤ length kept
  some_life = omega (arith, as_many_lives, length-append s.earlier (s.kept ∷ []))

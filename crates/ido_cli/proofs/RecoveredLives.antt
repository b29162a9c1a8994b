-- What is said of a life that went on from an image's file.
use Rattle.std.proofs.Common.{◌≡◌, ℕ, List, [], length, ap, subst, ◌∙◌, arith, None}
use Rattle.c_tree.specs.Flats.{flat_of}
use Rattle.machine_model.specs.Machine.{World, after_events}
use Rattle.machine_model.specs.Schedule.{Steps, first_steps, schedules, steps_along}
use Rattle.machine_model.proofs.Public.{along_earlier}
use Rattle.compiler_correctness.specs.Compilations.{IsCompilation}
use Rattle.compiler_correctness.specs.Images.{Image, first_from, image_in, steps_from, world_from}
use Rattle.compiler_correctness.specs.Laws.{ImagesAreCrashes}
use Rattle.compiler_correctness.specs.Translations.{Translation}
use Rattle.flat_compile.specs.TranslatedForms.{IsTranslatedAs}
use Rattle.ido_compile.specs.declared.compiler.Compiled.{Compiled}
use Rattle.ido_compile.specs.CompileAnswers.{translation_in}
use Rattle.run_tracker.specs.ObjectLives.{Course, LifeConfig, steps_in, world_of}
use Rattle.ido_cli.specs.Recoveries.{IsRecovery, recovering}
use Rattle.ido_cli.specs.Reports.{machine_state}
use Rattle.ido_cli.specs.Runs.{IsReport}
use Rattle.ido_cli.specs.ThreadedRuns.{leg_after}
use Rattle.ido_cli.specs.Upgrades.{IsUpgrade, IsUpgradeSaid}
use Rattle.ido_cli.specs.links.RecoveredLives.{CanRenew, HasRecovered}
use Rattle.ido_cli.proofs.LegEvents.{leg_startless}
use Rattle.ido_cli.proofs.RecoveredRuns.{after_crash}

module _ (c : Translation) (file : Image) (turns : ℕ) (life : Course) (r : HasRecovered c file turns life) where
  life_world : world_of life ≡ world_from c (image_in c file) life.journal
  life_world = ap (λ (m : LifeConfig). after_events m.runs.program m.world life.journal) r.opens

  life_steps : steps_in life ≡ steps_from c (image_in c file) life.journal
  life_steps =
      ap (λ (m : LifeConfig). steps_along m.runs.marks m.runs.program m.world life.journal (first_steps m.kept_before)) r.opens

  -- by its report
  pub recovery : ImagesAreCrashes → IsCompilation c → (status : ℕ) (output : List ℕ) →
      IsReport (machine_state c.flat (world_of life) (schedules (steps_in life))) status output → IsRecovery c file turns status output
  recovery crashes compilation status output told =
      let of_world = subst (λ (w : World). IsReport (machine_state c.flat w (schedules (steps_in life))) status output) life_world told in
      let reported = subst (λ (s : Steps). IsReport (machine_state c.flat (world_from c (image_in c file) life.journal) (schedules s)) status output)
      life_steps of_world in
      record {
        journal = life.journal;
        leg = r.leg;
        reported = reported;
        goes_on = after_crash crashes c compilation file life.journal status output reported;
      }

  -- as an image of the newest version, or why there is none
  pub upgrade : ImagesAreCrashes → IsCompilation c → (source : List ℕ) (status : ℕ) (output : List ℕ) →
      IsUpgradeSaid source c (world_of life) (schedules (steps_in life)) status output → IsUpgrade source c file turns status output
  upgrade crashes compilation source status output told = record {
    journal = life.journal;
    leg = r.leg;
    said =
        subst (λ (s : Steps). IsUpgradeSaid source c (world_from c (image_in c file) life.journal) (schedules s) status output) life_steps
        (subst (λ (w : World). IsUpgradeSaid source c w (schedules (steps_in life)) status output) life_world told);
    goes_on = λ before left found report reported. after_crash crashes c compilation file life.journal found report reported before left;
  }

  -- in the first life of a file no other life begins
  pub still_alone : file.kept.earlier ≡ [] → (steps_in life).earlier ≡ []
  still_alone alone =
      ap (λ (s : Steps). s.earlier) life_steps
      ∙ along_earlier c.runs.marks c.runs.program life.journal (first_from c (image_in c file)) (first_steps file.kept)
      (leg_startless (leg_after (recovering c file) turns None [] None) life.journal r.leg.each)
      ∙ alone

-- an image of the newest version may be made of it
pub can_renew : (x : Compiled) (file : Image) (turns : ℕ) (life : Course) → HasRecovered (translation_in x) file turns life →
    IsTranslatedAs x.translated.object.log (flat_of x.flat) x.translated.object x.translated.marks x.translated.cuts → file.kept.earlier ≡ [] →
    CanRenew x life
can_renew x file turns life r translated alone = record {
  translated = translated;
  runs = ap (λ (m : LifeConfig). m.runs) r.opens;
  sound = r.sound;
  harts = r.harts;
  alone = still_alone (translation_in x) file turns life r alone;
  steps = omega (arith, r.steps);
}

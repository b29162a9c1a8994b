use Rattle.std.proofs.Common.{refl, subst, sym}
use Rattle.log_schemes.specs.declared.log.Log.{Log}
use Rattle.c_tree.specs.Flats.{flat_of}
use Rattle.flat_compile.specs.TranslatedForms.{IsTranslatedAs}
use Rattle.run_tracker.specs.ObjectLives.{life_from}
use Rattle.ido_cli.specs.links.PlayedLives.{HasPlayed}
use Rattle.ido_cli.proofs.PlayedRuns as played
use Rattle.ido_cli.proofs.RecoveredRuns as recovered
use Rattle.ido_cli.proofs.laws.lives_are_compiled.Goals as goal

pub returns-clause-starts : goal.returns-clause-starts
returns-clause-starts c log text x cap life is begins =
    let flat = flat_of x.flat in
    let y = x.translated in
    let all : HasPlayed y.object y.marks life life.journal = record { begins = begins; journal = refl } in
    record {
      compilation = is.compilation;
      world_is = played.same_world flat y.object y.marks y.cuts life life.journal all;
      steps_are = played.same_steps flat y.object y.marks y.cuts life life.journal all;
    }

pub returns-clause-files : goal.returns-clause-files
returns-clause-files c log text x file ended cap life is begins =
    let flat = flat_of x.flat in
    let y = x.translated in
    let begun = life_from y.object y.marks file.words file.kept ended cap in
    let own : IsTranslatedAs y.object.log flat y.object y.marks y.cuts =
    subst (λ (l : Log). IsTranslatedAs l flat y.object y.marks y.cuts) (sym is.translated.log) is.translated in
    record {
      compilation = is.compilation;
      world_is = recovered.same_world flat y.object y.marks y.cuts own file ended cap begun refl life begins c.files_begin.ensures;
      steps_are = recovered.same_steps flat y.object y.marks y.cuts own file ended cap begun refl life begins c.files_begin.ensures;
    }

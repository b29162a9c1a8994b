use Rattle.ido_compile.proofs.Translations.{are_compilations}
use Rattle.ido_compile.proofs.laws.translations_are_compilations.Goals as goal

pub returns : goal.returns
returns c = are_compilations c.systems_are_compilations.ensures

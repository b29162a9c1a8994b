-- How the threads of programs log that a command compiles by a scheme.
use Rattle.log_schemes.specs.declared.log.Log.{Log}
use Rattle.log_schemes.specs.declared.log.Log.TheVariants as log
use Rattle.command_words.specs.declared.scheme.SchemeName.{SchemeName}
use Rattle.command_words.specs.declared.scheme.SchemeName.TheVariants as scheme

abbrev pub log_by : SchemeName → Log
log_by scheme.Ido = log.V2
log_by scheme.Justdo = log.Justdo

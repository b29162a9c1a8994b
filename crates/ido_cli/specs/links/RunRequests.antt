-- What is asked of the run of a script, and of a source alone.
use Rattle.std.specs.Prelude.{ℕ, List}
use Rattle.log_schemes.specs.declared.log.Log.{Log}
use Rattle.crash_images.specs.Contents.{AreCounted, Tells, written_as}
use Rattle.machine_events.specs.declared.event.Event.{Event}
use Rattle.compiler_correctness.specs.Translations.{Translation}
use Rattle.command_words.specs.declared.command.Command.{Command}
use Rattle.command_words.specs.declared.scheme.SchemeName.{SchemeName}
use Rattle.command_words.specs.declared.command.Command.TheVariants as command
use Rattle.ido_cli.specs.declared.answer.Product.{Product}
use Rattle.ido_cli.specs.declared.answer.Product.TheVariants as product
use Rattle.ido_cli.specs.declared.play.Asked.{Asked}
use Rattle.ido_cli.specs.declared.play.Asked.TheVariants as asked
use Rattle.ido_cli.specs.Images.{IsImageAfter}
use Rattle.ido_cli.specs.Plays.{IsPlayed}

-- the command that asks for it by a scheme
abbrev pub command_asking : Asked → SchemeName → Command
command_asking (asked.Report fences) scheme = command.Play fences scheme
command_asking asked.Image scheme = command.Image scheme

-- images that are written for this log tell as many lives as there are
abbrev pub TellsLives : Log → Type 0
TellsLives log = (lives : ℕ) → AreCounted lives → Tells (written_as log) lives

-- what is to be said of a translation of a source and events
abbrev pub Says : Asked → (source : List ℕ) → Translation → List Event → (status : ℕ) → (output : List ℕ) → Type 0
Says (asked.Report fences) source c events status output = IsPlayed fences c events status output
Says asked.Image source c events status output = IsImageAfter source c events status output

-- the command that makes it
abbrev pub command_making : Product → Command
command_making (product.Object scheme) = command.Compile scheme
command_making (product.Regions least) = command.Regions least
command_making product.Order = command.Order

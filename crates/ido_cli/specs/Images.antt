-- What a crash after a script would leave, as the bytes of an image.
use Rattle.std.specs.Prelude.{◌≡◌, ℕ, List}
use Rattle.machine_events.specs.declared.event.Event.{Event}
use Rattle.compiler_correctness.specs.Translations.{Translation}
use Rattle.crash_images.specs.ImageDecoder.{IsReadAs}
use Rattle.crash_images.specs.ImageEncoder.{spelling}
use Rattle.crash_images.specs.Contents.{written_as}
use Rattle.image_checks.specs.RunImages.{left_by, file_contents}

-- status 0, and the bytes of the file that a crash after the events would leave
pub record IsImageAfter (source : List ℕ) (c : Translation) (events : List Event) (status : ℕ) (output : List ℕ) : Type 0 where
  pub status_is : status ≡ 0
  pub output_is : output ≡ spelling (written_as c.runs.log) (file_contents source c (left_by c events))
  -- they are read as what they spell
  pub read_as : IsReadAs (written_as c.runs.log) (file_contents source c (left_by c events)) output

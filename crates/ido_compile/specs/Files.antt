-- A machine that begins with an image file.
use Rattle.std.specs.Prelude.{◌≡◌, List}
use Rattle.machine_events.specs.declared.event.Event.{Event}
use Rattle.c_tree.specs.Flats.{Flat}
use Rattle.machine_model.specs.declared.object.Object.{Object}
use Rattle.rv64_isa.specs.declared.object.Marks.{Marks}
use Rattle.machine_model.specs.Machine.{machine_from}
use Rattle.flow_graph.specs.declared.cuts.Cuts.{Cuts}
use Rattle.compiler_correctness.specs.Images.{Image, image_in, world_from}
use Rattle.compiler_correctness.specs.Translations.{translation_to}

-- the machine of an object that begins with a file's words is the one of the image that stands in it
abbrev pub FilesBegin : Type 0
FilesBegin = (flat : Flat) (object : Object) (marks : Marks) (cuts : Cuts) (file : Image) (events : List Event) →
    machine_from object file.words events ≡ world_from (translation_to flat object marks cuts) (image_in (translation_to flat object marks cuts) file) events

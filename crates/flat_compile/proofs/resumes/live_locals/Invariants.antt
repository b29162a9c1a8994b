use Rattle.std.proofs.Common.{[]}
use Rattle.std.specs.Prelude.{slice_index_or}
use Rattle.c_tree.specs.Flats.{thread_of}
use Rattle.flat_compile.specs.links.KnownLists.{known_lists}
use Rattle.flat_compile.specs.links.ResumePlacesByNode.{AreLiveBelow}
use Rattle.flat_compile.proofs.resumes.live_locals.Given as goal

abbrev pub invariant-loop-colour : goal.invariant-loop-colour
invariant-loop-colour l =
    AreLiveBelow l.colours (thread_of l.text) (slice_index_or (known_lists l.knowns) l.step []) l.live l.counted l.colour l.found.items

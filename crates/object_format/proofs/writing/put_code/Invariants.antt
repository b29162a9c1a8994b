use Rattle.std.proofs.Common.{◌≡◌, ◌++◌, take, map}
use Rattle.std.specs.List.{flat_map}
use Rattle.object_format.specs.Contents.{items_of}
use Rattle.object_format.specs.ObjectEncoder.{thread_text}
use Rattle.object_format.proofs.writing.put_code.Given as goal

abbrev pub invariant-loop-words : goal.invariant-loop-words
invariant-loop-words l = l.out.items ≡ l.fn.out.items ++ flat_map thread_text (map items_of (take l.words-index l.code))

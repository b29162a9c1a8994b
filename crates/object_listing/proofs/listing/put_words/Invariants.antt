use Rattle.std.proofs.Common.{◌≡◌, ◌+◌, ◌*◌, ◌++◌, drop}
use Rattle.object_listing.specs.ObjectListing.{word_lines}
use Rattle.object_listing.proofs.listing.put_words.Given as goal

abbrev pub invariant-loop-word : goal.invariant-loop-word
invariant-loop-word l = record {
  told : l.out.items ++ word_lines l.at (drop l.word-index l.words) ≡ l.fn.out.items ++ word_lines l.address l.words;
  place : l.at ≡ l.address + 4 * l.word-index;
}

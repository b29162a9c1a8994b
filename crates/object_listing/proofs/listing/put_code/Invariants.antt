use Rattle.std.proofs.Common.{◌≡◌, ◌+◌, ◌*◌, ◌≤◌, ◌++◌, drop, map}
use Rattle.ido_base.specs.declared.limits.TheConstants.{CODE_BASE, MOST_CODE_WORDS}
use Rattle.object_format.specs.Contents.{items_of}
use Rattle.object_listing.specs.ObjectListing.{thread_lines, listing}
use Rattle.object_listing.proofs.listing.put_code.Given as goal

abbrev pub invariant-loop-words : goal.invariant-loop-words
invariant-loop-words l = record {
  told : l.out.items ++ thread_lines l.thread l.address (map items_of (drop l.words-index l.code)) ≡ l.fn.out.items ++ listing (map items_of l.code);
  thread : l.thread ≡ l.words-index;
  place : l.address ≤ CODE_BASE + 4 * MOST_CODE_WORDS * l.words-index;
}

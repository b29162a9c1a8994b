-- Four bytes tell each length of an object that a machine takes.
use Rattle.std.proofs.Common.{ℕ, ◌^◌, ◌<◌, ◌≤◌, List, [], ◌∷◌, length, map, arith}
use Rattle.std.specs.Global.{Vec}
use Rattle.std.specs.List.{AllByRecursion}
use Rattle.std.proofs.lemmas.List.{length-map}
use Rattle.std.proofs.lemmas.List.Elements.{recursion_from_All}
use Rattle.ido_base.specs.declared.limits.TheConstants.{MOST_CODE_WORDS}
use Rattle.machine_model.specs.declared.object.Object.{Object}
use Rattle.hart_core.specs.Objects.{IsWithinLimits}
use Rattle.object_format.specs.Contents.{contents_of, items_of}
use Rattle.object_format.specs.ObjectEncoder.{HasLengths}

short_words : (code : List (Vec ℕ)) → AllByRecursion (λ words. length words.items ≤ MOST_CODE_WORDS) code →
    AllByRecursion (λ words. length words < 2 ^ 32) (map items_of code)
short_words [] few = tt
short_words (words ∷ code) few = (let h = few.0 in omega (arith, h), short_words code few.1)

pub four_bytes_tell : (object : Object) → IsWithinLimits object → HasLengths (contents_of object)
four_bytes_tell object within = record {
  threads = omega (arith, within.threads, length-map object.code.items items_of);
  initial = omega (arith, within.bytes);
  words = short_words object.code.items (recursion_from_All (λ (words : Vec ℕ). length words.items ≤ MOST_CODE_WORDS) object.code.items within.few_words);
}

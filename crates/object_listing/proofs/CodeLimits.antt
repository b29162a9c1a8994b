-- What the limits of an object say of its code, thread by thread.
use Rattle.std.proofs.Common.{ℕ, ◌≤◌, List, [], ◌∷◌, length, map, All, subst}
use Rattle.std.specs.Global.{Vec}
use Rattle.std.specs.List.{AllByRecursion}
use Rattle.std.proofs.lemmas.List.{length-map}
use Rattle.std.proofs.lemmas.List.Elements.{All-from_recursion}
use Rattle.ido_base.specs.declared.limits.TheConstants.{MOST_THREADS, MOST_CODE_WORDS}
use Rattle.machine_model.specs.declared.object.Object.{Object}
use Rattle.object_format.specs.Contents.{IsThreadCode, IsWithinLimits, contents_of, items_of}

few_by_recursion : (code : List (Vec ℕ)) → AllByRecursion IsThreadCode (map items_of code) → AllByRecursion (λ words. length words.items ≤ MOST_CODE_WORDS) code
few_by_recursion [] good = tt
few_by_recursion (words ∷ code) good = (good.0.few, few_by_recursion code good.1)

pub few_words : (object : Object) → IsWithinLimits (contents_of object) → All (λ words. length words.items ≤ MOST_CODE_WORDS) object.code.items
few_words object good = All-from_recursion (λ words. length words.items ≤ MOST_CODE_WORDS) object.code.items (few_by_recursion object.code.items good.code)

pub few_threads : (object : Object) → IsWithinLimits (contents_of object) → length object.code.items ≤ MOST_THREADS
few_threads object good = subst (λ n. n ≤ MOST_THREADS) (length-map object.code.items items_of) good.threads

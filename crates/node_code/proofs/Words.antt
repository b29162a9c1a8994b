-- How many words the code of a part has.
use Rattle.std.proofs.Common.{◌≡◌, ℕ, ◌+◌, ◌*◌, ◌≤◌, List, [], ◌∷◌, ◌++◌, length, refl, ap, ◌∙◌, arith}
use Rattle.std.specs.Prelude.{sum_by}
use Rattle.std.proofs.lemmas.List.Sums.{sum_by-cons}
use Rattle.rv64_isa.specs.declared.instr.Instr.{Instr}
use Rattle.rv64_isa.specs.declared.object.CodeItem.{CodeItem}
use Rattle.rv64_link.specs.LabelledCode.{least_words_of, most_words_of}
use Rattle.node_code.specs.Sites.{Linking, IsPart, Site, begin_of, end_of}
use Rattle.node_code.specs.Pieces.{words_in}
use Rattle.node_code.specs.links.ItemLists.{plain}
use Rattle.node_code.proofs.ItemAddresses.{Lies, lay_of}

-- how many words lie from the one position on up to the other, between the least and the most that the items take
pub record Counts (at : ℕ → ℕ) (k : ℕ) (items : List CodeItem) : Type 0 where
  pub words : ℕ
  pub ends : at (k + length items) ≡ at k + 4 * words
  pub least : sum_by least_words_of items ≤ words
  pub most : words ≤ sum_by most_words_of items

pub counts : (at : ℕ → ℕ) (k : ℕ) (items : List CodeItem) → Lies at k items → Counts at k items
counts at k [] h = record { words = 0; ends = (let e : k + 0 ≡ k = omega arith in ap at e ∙ omega arith); least = omega arith; most = omega arith }
counts at k (x ∷ xs) h =
    let later : Counts at (k + 1) xs = counts at (k + 1) xs h.1 in
    let e : k + length (x ∷ xs) ≡ k + 1 + length xs = omega arith in
    let here : at (k + 1) ≡ at k + 4 * h.0.words = h.0.to_is in
    let ends : at (k + 1 + length xs) ≡ at (k + 1) + 4 * later.words = later.ends in
    let low : least_words_of x ≤ h.0.words = h.0.least in
    let high : h.0.words ≤ most_words_of x = h.0.most in
    let lower : sum_by least_words_of xs ≤ later.words = later.least in
    let higher : later.words ≤ sum_by most_words_of xs = later.most in
    record {
      words = h.0.words + later.words;
      ends = ap at e ∙ omega (arith, here, ends);
      least = omega (arith, low, lower, sum_by-cons least_words_of x xs);
      most = omega (arith, high, higher, sum_by-cons most_words_of x xs);
    }

-- ---- Items that take one number of words

abbrev pub AreExact : List CodeItem → Type 0
AreExact [] = Unit {0}
AreExact (x ∷ xs) = (least_words_of x ≡ most_words_of x) × AreExact xs

pub exact_plain : (code : List Instr) → AreExact (plain code)
exact_plain [] = tt
exact_plain (i ∷ is) = (refl, exact_plain is)

pub exact_append : (xs ys : List CodeItem) → AreExact xs → AreExact ys → AreExact (xs ++ ys)
exact_append [] ys h g = g
exact_append (x ∷ xs) ys h g = (h.0, exact_append xs ys h.1 g)

exact_same : (items : List CodeItem) → AreExact items → sum_by least_words_of items ≡ sum_by most_words_of items
exact_same [] h = refl
exact_same (x ∷ xs) h =
    let e : sum_by least_words_of xs ≡ sum_by most_words_of xs = exact_same xs h.1 in
    let f : least_words_of x ≡ most_words_of x = h.0 in
    omega (arith, e, f, sum_by-cons least_words_of x xs, sum_by-cons most_words_of x xs)

pub exact_end : (all : List CodeItem) (n : Linking all) (k : ℕ) (part : List CodeItem) → IsPart all k part → AreExact part →
    n.linked.address_of (k + length part) ≡ n.linked.address_of k + 4 * sum_by most_words_of part
exact_end all n k part p h =
    let c : Counts n.linked.address_of k part = counts n.linked.address_of k part (lay_of all k part n p).own in
    let ends : n.linked.address_of (k + length part) ≡ n.linked.address_of k + 4 * c.words = c.ends in
    let least : sum_by least_words_of part ≤ c.words = c.least in
    let most : c.words ≤ sum_by most_words_of part = c.most in
    omega (arith, ends, least, most, exact_same part h)

-- ---- Parts

pub words_are : (part : List CodeItem) (site : Site part) → end_of part site ≡ begin_of part site + 4 * words_in part site
words_are part site =
    let c : Counts site.linking.linked.address_of site.position part =
    counts site.linking.linked.address_of site.position part (lay_of site.items site.position part site.linking site.is_part).own in
    let ends : end_of part site ≡ begin_of part site + 4 * c.words = c.ends in
    omega (arith, ends)

pub words_are_few : (part : List CodeItem) (site : Site part) → words_in part site ≤ sum_by most_words_of part
words_are_few part site =
    let c : Counts site.linking.linked.address_of site.position part =
    counts site.linking.linked.address_of site.position part (lay_of site.items site.position part site.linking site.is_part).own in
    let ends : end_of part site ≡ begin_of part site + 4 * c.words = c.ends in
    let most : c.words ≤ sum_by most_words_of part = c.most in
    omega (arith, ends, most)

pub exact_words : (part : List CodeItem) (site : Site part) → AreExact part → words_in part site ≡ sum_by most_words_of part
exact_words part site h =
    let e : end_of part site ≡ begin_of part site + 4 * sum_by most_words_of part = exact_end site.items site.linking site.position part site.is_part h in
    omega (arith, e)

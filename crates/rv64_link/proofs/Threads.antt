-- The code of a thread, and of thread after thread.
use Rattle.std.proofs.Common.{◌≡◌, ℕ, ◌+◌, ◌*◌, ◌^◌, ◌<◌, ◌≤◌, List, [], ◌∷◌, ◌++◌, get_or, take, length, map, sym, ap, subst, ◌∙◌, arith}
use Rattle.std.specs.Prelude.{sum_by}
use Rattle.std.specs.Global.{Vec}
use Rattle.rv64_link.specs.links.Threads.{items_in, slots_in}
use Rattle.std.proofs.lemmas.List.{length-map, map_more, map_push}
use Rattle.std.proofs.lemmas.List.Sums.{sum_by-append, sum_by-cons}
use Rattle.ido_base.specs.declared.limits.TheConstants.{MOST_CODE_WORDS}
use Rattle.rv64_isa.specs.Programs.{code_base, slot_of}
use Rattle.rv64_isa.specs.declared.object.CodeItem.{CodeItem}
use Rattle.rv64_isa.specs.declared.object.Slot.{Slot}
use Rattle.rv64_isa.specs.declared.object.ThreadMarks.{ThreadMarks}
use Rattle.rv64_link.specs.LabelledCode.{is_mark, is_resume, most_words_of, positions_from}
use Rattle.rv64_link.specs.LinkedCode.{AreLinked, IsLinked}
use Rattle.rv64_link.specs.links.Layout.{number_at, numbers, slots}
use Rattle.rv64_link.proofs.Lockstep.{linked}
use Rattle.rv64_link.proofs.Places.{number_bounded, number_last}

abbrev addresses : (n positions : List ℕ) → List ℕ
addresses n positions = map (λ p. code_base + 4 * number_at n p) positions

pub is_linked : (all : List CodeItem) (first : ℕ) (n words nodes resumes : List ℕ) → sum_by most_words_of all ≤ MOST_CODE_WORDS → first ≤ 2 ^ 19 →
    n ≡ numbers all first 0 all → map slot_of words ≡ slots all n 0 all
    → nodes ≡ map (λ p. code_base + 4 * number_at n p) (positions_from 0 is_mark all) →
    resumes ≡ map (λ p. code_base + 4 * number_at n p) (positions_from 0 is_resume all)
    → IsLinked (code_base + 4 * first) all (map slot_of words) nodes resumes
is_linked all first n words nodes resumes few low numbered coded marked resumed =
    let P : List Slot → Type 0 = λ code. IsLinked (code_base + 4 * first) all code nodes resumes in
    subst P (sym (coded ∙ ap (λ m. slots all m 0 all) numbered))
    (linked all first few low nodes resumes (marked ∙ ap (λ m. addresses m (positions_from 0 is_mark all)) numbered)
    (resumed ∙ ap (λ m. addresses m (positions_from 0 is_resume all)) numbered))

pub is_few : (all : List CodeItem) (first : ℕ) (n words : List ℕ) → sum_by most_words_of all ≤ MOST_CODE_WORDS → n ≡ numbers all first 0 all →
    map slot_of words ≡ slots all n 0 all → length words ≤ MOST_CODE_WORDS
is_few all first n words few numbered coded =
    let last = number_last all n first 0 all in
    let bound = number_bounded all first 0 all (length all) (omega arith) in
    let count : length words ≡ length (slots all n 0 all) = sym (length-map words slot_of) ∙ ap length coded in
    omega (arith, last, bound, count, few)

-- ---- Thread after thread

pub one_more : (start : ℕ) (threads : List (List CodeItem)) (program : List (List Slot)) (marks : List ThreadMarks) (items : List CodeItem) (code : List Slot)
    (m : ThreadMarks)
    → AreLinked start threads program marks → IsLinked (start + 4 * sum_by length program) items code m.nodes.items m.resumes.items →
    AreLinked start (threads ++ items ∷ []) (program ++ code ∷ []) (marks ++ m ∷ [])
one_more start [] [] [] items code m before one = (subst (λ a. IsLinked a items code m.nodes.items m.resumes.items) (omega arith) one, tt)
one_more start (x ∷ xs) (y ∷ ys) (z ∷ zs) items code m before one =
    let sum : sum_by length (y ∷ ys) ≡ length y + sum_by length ys = sum_by-cons length y ys in
    let moved : start + 4 * sum_by length (y ∷ ys) ≡ start + 4 * length y + 4 * sum_by length ys = omega (arith, sum) in
    (before.0, one_more (start + 4 * length y) xs ys zs items code m before.1 (subst (λ a. IsLinked a items code m.nodes.items m.resumes.items) moved one))
one_more start [] [] (z ∷ zs) items code m before one = absurd before
one_more start [] (y ∷ ys) [] items code m before one = absurd before
one_more start [] (y ∷ ys) (z ∷ zs) items code m before one = absurd before
one_more start (x ∷ xs) [] [] items code m before one = absurd before
one_more start (x ∷ xs) [] (z ∷ zs) items code m before one = absurd before
one_more start (x ∷ xs) (y ∷ ys) [] items code m before one = absurd before

pub linked_more : (threads : List (Vec CodeItem)) (i first : ℕ) (code new_code : List (Vec ℕ)) (marks new_marks : List ThreadMarks) (d items : Vec CodeItem)
    (words : Vec ℕ) (m : ThreadMarks) (seen : List CodeItem)
    → i < length threads → items ≡ get_or threads i d → seen ≡ items.items → new_code ≡ code ++ words ∷ [] → new_marks ≡ marks ++ m ∷ []
    → AreLinked code_base (map items_in (take i threads)) (map slots_in code) marks → first ≡ sum_by length (map slots_in code)
    → IsLinked (code_base + 4 * first) seen (map slot_of words.items) m.nodes.items m.resumes.items
    → AreLinked code_base (map items_in (take (i + 1) threads)) (map slots_in new_code) new_marks
linked_more threads i first code new_code marks new_marks d items words m seen within item observation coded marked before count one =
    let all : map items_in (take (i + 1) threads) ≡ map items_in (take i threads) ++ items_in items ∷ [] =
    map_more items_in threads i d within ∙ ap (λ v. map items_in (take i threads) ++ items_in v ∷ []) (sym item) in
    let program : map slots_in new_code ≡ map slots_in code ++ slots_in words ∷ [] = ap (map slots_in) coded ∙ map_push slots_in code words in
    let here : IsLinked (code_base + 4 * sum_by length (map slots_in code)) items.items (slots_in words) m.nodes.items m.resumes.items =
    subst (λ n. IsLinked (code_base + 4 * n) items.items (slots_in words) m.nodes.items m.resumes.items) count
    (subst (λ v. IsLinked (code_base + 4 * first) v (slots_in words) m.nodes.items m.resumes.items) observation one) in
    rw (all, program, marked) (one_more code_base (map items_in (take i threads)) (map slots_in code) marks (items_in items) (slots_in words) m before here)

pub count_more : (code new_code : List (Vec ℕ)) (words : Vec ℕ) (first : ℕ) → new_code ≡ code ++ words ∷ [] → first ≡ sum_by length (map slots_in code) →
    first + length words.items ≡ sum_by length (map slots_in new_code)
count_more code new_code words first coded count =
    let program : map slots_in new_code ≡ map slots_in code ++ slots_in words ∷ [] = ap (map slots_in) coded ∙ map_push slots_in code words in
    let sum = sum_by-append length (map slots_in code) (slots_in words ∷ []) in
    let last = sum_by-cons length (slots_in words) [] in
    let size = length-map words.items slot_of in
    rw program (omega (arith, sum, last, size, count))

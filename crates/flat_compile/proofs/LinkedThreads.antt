-- The linked code of each thread.
use Rattle.std.proofs.Common.{◌≡◌, refl, ℕ, zero, suc, ◌+◌, ◌*◌, ◌≤◌, List, [], ◌∷◌, length, take, Some, ap, subst, arith}
use Rattle.std.specs.Prelude.{slice_get, slice_index_or, sum_by}
use Rattle.std.proofs.lemmas.Option.{none-some, same_Some}
use Rattle.std.proofs.lemmas.List.Sums.{sum_by-cons}
use Rattle.ido_base.specs.declared.limits.TheConstants.{MOST_CODE_WORDS}
use Rattle.rv64_isa.specs.declared.object.CodeItem.{CodeItem}
use Rattle.rv64_isa.specs.declared.object.Slot.{Slot}
use Rattle.rv64_isa.specs.declared.object.ThreadMarks.{ThreadMarks}
use Rattle.rv64_link.specs.LabelledCode.{most_words_of}
use Rattle.rv64_link.specs.LinkedCode.{IsLinked, AreLinked}
use Rattle.machine_model.specs.Executables.{node_marks, resume_marks}

-- ---- How many words

-- where each item takes so many bytes at most, all together do
ends_within : (items : List CodeItem) (at : ℕ → ℕ) →
    ((p : ℕ) (item : CodeItem) → slice_get items p ≡ Some item → at (p + 1) ≤ at p + 4 * most_words_of item) →
    at (length items) ≤ at 0 + 4 * sum_by most_words_of items
ends_within [] at h = omega arith
ends_within (item ∷ items) at h =
    let shifted : ℕ → ℕ = λ p. at (p + 1) in
    let same : (p : ℕ) → at (p + 1 + 1) ≡ at (suc p + 1) = λ p. ap at (omega arith) in
    let rest : at (length items + 1) ≤ at (0 + 1) + 4 * sum_by most_words_of items =
    ends_within items shifted (λ p one there. omega (arith, same p, h (suc p) one there, ap at (let e : p + 1 ≡ suc p = omega arith in e))) in
    let end : at (suc (length items)) ≡ at (length items + 1) = ap at (omega arith) in
    omega (arith, rest, end, h 0 item refl, sum_by-cons most_words_of item items)

pub few_words : (start : ℕ) (items : List CodeItem) (code : List Slot) (nodes resumes : List ℕ) → IsLinked start items code nodes resumes →
    length code ≤ sum_by most_words_of items
few_words start items code nodes resumes l =
    let within : l.address_of (length items) ≤ l.address_of 0 + 4 * sum_by most_words_of items =
    ends_within items l.address_of (λ p item there. let r = l.room p item there in omega (arith, r.to_is, r.most)) in
    omega (arith, within, l.begins, l.ends)

-- ---- Thread after thread

pub linked_count : (start : ℕ) (threads : List (List CodeItem)) (program : List (List Slot)) (marks : List ThreadMarks) →
    AreLinked start threads program marks → length program ≡ length threads
linked_count start [] [] [] l = refl
linked_count start [] [] (m ∷ marks) l = absurd l
linked_count start [] (code ∷ program) marks l = absurd l
linked_count start (items ∷ threads) [] marks l = absurd l
linked_count start (items ∷ threads) (code ∷ program) [] l = absurd l
linked_count start (items ∷ threads) (code ∷ program) (m ∷ marks) l = ap suc (linked_count (start + 4 * length code) threads program marks l.1)

pub marked_count : (start : ℕ) (threads : List (List CodeItem)) (program : List (List Slot)) (marks : List ThreadMarks) →
    AreLinked start threads program marks → length marks ≡ length threads
marked_count start [] [] [] l = refl
marked_count start [] [] (m ∷ marks) l = absurd l
marked_count start [] (code ∷ program) marks l = absurd l
marked_count start (items ∷ threads) [] marks l = absurd l
marked_count start (items ∷ threads) (code ∷ program) [] l = absurd l
marked_count start (items ∷ threads) (code ∷ program) (m ∷ marks) l = ap suc (marked_count (start + 4 * length code) threads program marks l.1)

-- no thread has more words than that
abbrev pub AllFew : List (List CodeItem) → Type 0
AllFew threads = (n : ℕ) (items : List CodeItem) → slice_get threads n ≡ Some items → sum_by most_words_of items ≤ MOST_CODE_WORDS

-- where the code of a thread begins
abbrev start_at : ℕ → List (List Slot) → (n : ℕ) → ℕ
start_at start program n = start + 4 * sum_by length (take n program)

pub record LinkedAt (start : ℕ) (program : List (List Slot)) (marks : List ThreadMarks) (n : ℕ) (items : List CodeItem) : Type 0 where
  pub linked : IsLinked (start_at start program n) items (slice_index_or program n []) (slice_index_or (node_marks marks) n [])
      (slice_index_or (resume_marks marks) n [])
  pub within : start_at start program n + 4 * length (slice_index_or program n []) ≤ start + 4 * (MOST_CODE_WORDS * (n + 1))

pub linked_at : (start : ℕ) (threads : List (List CodeItem)) (program : List (List Slot)) (marks : List ThreadMarks) →
    AreLinked start threads program marks → AllFew threads → (n : ℕ) (items : List CodeItem) → slice_get threads n ≡ Some items →
    LinkedAt start program marks n items
linked_at start [] program marks l few n items there = absurd (none-some items there)
linked_at start (first ∷ threads) [] marks l few n items there = absurd l
linked_at start (first ∷ threads) (code ∷ program) [] l few n items there = absurd l
linked_at start (first ∷ threads) (code ∷ program) (m ∷ marks) l few zero items there =
    let here : first ≡ items = same_Some first items there in
    let at : start ≡ start + 0 = omega arith in
    record {
      linked = subst (λ (s : ℕ). IsLinked s items code m.nodes.items m.resumes.items) at
          (subst (λ (is : List CodeItem). IsLinked start is code m.nodes.items m.resumes.items) here l.0);
      within = omega (arith, few_words start first code m.nodes.items m.resumes.items l.0, few 0 first refl);
    }
linked_at start (first ∷ threads) (code ∷ program) (m ∷ marks) l few (suc n) items there =
    let later = linked_at (start + 4 * length code) threads program marks l.1 (λ k is at. few (suc k) is at) n items there in
    let sums : sum_by length (code ∷ take n program) ≡ length code + sum_by length (take n program) = sum_by-cons length code (take n program) in
    let at : start_at (start + 4 * length code) program n ≡ start_at start (code ∷ program) (suc n) = omega (arith, sums) in
    let within = later.within in
    record {
      linked = subst (λ (s : ℕ). IsLinked s items (slice_index_or program n []) (slice_index_or (node_marks marks) n [])
          (slice_index_or (resume_marks marks) n [])) at later.linked;
      within = omega (arith, at, within, few_words start first code m.nodes.items m.resumes.items l.0, few 0 first refl);
    }

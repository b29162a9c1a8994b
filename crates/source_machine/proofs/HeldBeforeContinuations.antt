-- What is left to do tells what is held before it.
use Rattle.std.proofs.Common.{◌≡◌, refl, ℕ, zero, suc, List, [], ◌∷◌, length, sym, ◌∙◌, ap, subst, Bool, true, false, Some, slice_set}
use Rattle.std.specs.Prelude.{slice_get}
use Rattle.std.proofs.lemmas.List.{length-replicate}
use Rattle.std.proofs.lemmas.Option.{get_or_from_slice_get}
use Rattle.c_tree.specs.Exprs.{LockName}
use Rattle.c_tree.specs.Programs.{Variable}
use Rattle.c_tree.specs.Flats as f
use Rattle.c_tree.specs.Source as m
use Rattle.c_tree.specs.LockDiscipline as l
use Rattle.c_tree.specs.LockNames.{Held, holds, none_held, lock_names, number_in, plain_names}
use Rattle.c_tree.specs.LockDiscipline.{Keeps, KeepAll}
use Rattle.c_tree.proofs.Public.{length-plain_names, names_are_plain}
use Rattle.source_machine.specs.Mutexes.{held_by}
use Rattle.source_machine.specs.Discipline.{KeepList, KeepsLeft, HoldsNames, ThreadKeeps, HeldIsGiven, PlainIsGiven, SetIsOne}
use Rattle.source_machine.proofs.HeldNames.{keep_list_length, plain_holds_are}

-- ---- The set before statements, from the one after them

module _ (names : List LockName) where
  abbrev mutual
    before : Held → f.Statement → Held
    before h (f.Assign place target value) = h
    before h (f.If place arms otherwise) = before_all h otherwise
    before h (f.While place condition body) = h
    before h (f.Do place body condition) = h
    before h (f.Lock place name) = slice_set h (number_in names name) false
    before h (f.Unlock place name) = slice_set h (number_in names name) true

    before_all : Held → f.Statements → Held
    before_all h f.no_statement = h
    before_all h (f.statement_and x rest) = before (before_all h rest) x

  abbrev before_list : Held → List f.Statement → Held
  before_list h [] = h
  before_list h (x ∷ rest) = before (before_list h rest) x

set_back : (h : Held) (name : ℕ) (b c : Bool) → holds h name ≡ c → slice_set (slice_set h name b) name c ≡ h
set_back [] name b c e = refl
set_back (x ∷ h) zero b c e = ap (λ (y : Bool). y ∷ h) (sym e)
set_back (x ∷ h) (suc name) b c e = ap (λ (k : Held). x ∷ k) (set_back h name b c e)

module _ (vs : List Variable) (names : List LockName) where
  mutual
    goes_back : {h after : Held} {s : f.Statement} → Keeps vs names h s after → before names after s ≡ h
    goes_back (l.assign place target value g free) = refl
    goes_back (l.choose place arms otherwise p q) = go_back q
    goes_back (l.repeat place condition body g p) = refl
    goes_back (l.again place body condition p g) = refl
    goes_back (l.lock {h = h} place name free) = set_back h (number_in names name) true false (get_or_from_slice_get h (number_in names name) false false free)
    goes_back (l.unlock {h = h} place name held) = set_back h (number_in names name) false true held

    go_back : {h after : Held} {ss : f.Statements} → KeepAll vs names h ss after → before_all names after ss ≡ h
    go_back l.no_more = refl
    go_back (l.then x rest p q) = ap (λ (k : Held). before names k x) (go_back q) ∙ goes_back p

  list_back : (left : List f.Statement) (h after : Held) → KeepList vs names h left after → before_list names after left ≡ h
  list_back [] h after k = sym k
  list_back (x ∷ rest) h after k = ap (λ (y : Held). before names y x) (list_back rest k.0 after k.2) ∙ goes_back k.1

pub set_is_one : SetIsOne
set_is_one vs names left h other after k l = sym (list_back vs names left h after k) ∙ list_back vs names left other after l

-- the thread of that number in the form is the one of which the state says that it keeps the discipline
text_is : (x : f.Flat) (s : m.State) (number : ℕ) (text : f.Thread) (thread : m.Thread) → slice_get x.threads number ≡ Some text →
    (k : ThreadKeeps x number s.holders thread) → k.text ≡ text
text_is x s number text thread g k = let both : Some k.text ≡ Some text = sym k.its ∙ g in cc

pub held_is_given : HeldIsGiven
held_is_given x s number text thread h keeps its there k =
    let own = keeps.each number thread there in
    let P : f.Thread → Type 0 = λ t. KeepsLeft x (lock_names x t) own.set thread.left × HoldsNames (lock_names x t) own.set thread.locals s.holders number in
    let both : P text = subst P (text_is x s number text thread its own) (own.left, own.held) in
    let names = lock_names x text in
    let one : own.set ≡ h = set_is_one x.variables names thread.left own.set h (none_held (length names)) both.0 k in
    subst (λ (y : Held). HoldsNames names y thread.locals s.holders number) one both.1

pub plain_is_given : PlainIsGiven
plain_is_given x s number text thread h single keeps its there =
    let own = keeps.each number thread there in
    let count = length x.mutexes in
    let plain : lock_names x text ≡ plain_names count = names_are_plain x text single in
    let says : (k : Held) → KeepsLeft x (lock_names x text) k thread.left → k ≡ held_by number s.holders = λ k kept.
    let long : length k ≡ count = keep_list_length x.variables (lock_names x text) thread.left k _ kept
    ∙ (length-replicate (length (lock_names x text)) false ∙ (ap length plain ∙ length-plain_names count)) in
    plain_holds_are count k thread.locals s.holders number long keeps.locks
    (subst (λ (ns : List LockName). HoldsNames ns k thread.locals s.holders number) plain (held_is_given x s number text thread k keeps its there kept)) in
    let mine : KeepsLeft x (lock_names x text) own.set thread.left = subst (λ (t : f.Thread). KeepsLeft x (lock_names x t) own.set thread.left)
    (text_is x s number text thread its own) own.left in (
      (λ k. says h k),
      (λ e. subst (λ (y : Held). KeepsLeft x (lock_names x text) y thread.left) (says own.set mine ∙ sym e) mine),
    )

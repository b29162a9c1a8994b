-- The trees of generated sources. Places are numbers of bytes after that of the part.
use Rattle.std.proofs.Common.{ℕ, ◌+◌, ◌%◌, List, [], ◌∷◌, ◌++◌, Some, None, false}
use Rattle.ido_base.specs.declared.place.Place.{Place}
use Rattle.ido_ints.specs.declared.kinds.Kind.TheVariants as kind
use Rattle.ido_ints.specs.declared.operators.Binary.TheVariants as b
use Rattle.ido_ints.specs.TypedNumbers.{Typed}
use Rattle.c_tree.specs.Tokens.{Token}
use Rattle.c_tree.specs.Trees as t
use Rattle.generated_programs.proofs.Tokens.{mutex_name, array_name, thread_name, index_name, int}
use Rattle.generated_programs.proofs.Tokens.{mutex_tokens, variable_tokens, head_tokens, opening_tokens, section_tokens, closing_tokens}

abbrev pub at : ℕ → Place
at place = record { 0 = place }

abbrev pub name : List ℕ → ℕ → t.Name
name text place = record { text = text; place = at place }

abbrev pub mutex_tree : (base number : ℕ) → t.Item
mutex_tree base n = t.MutexItem (name (mutex_name n) (base + 6)) None

abbrev pub variable_tree : (base number : ℕ) → t.Item
variable_tree base n = t.PersistentItem (record {
  guard = record { mutex = name (mutex_name n) (base + 11); each = false };
  type_name = t.OfKind kind.Long;
  name = name (array_name n) (base + 20);
  length = Some (record { place = at (base + 23); value = int 16 });
  initialiser = None;
})

-- `i & 15`
abbrev pub element_tree : (base : ℕ) → t.Expression
element_tree base = t.Binary b.And (t.Named (name index_name (base + 17))) (t.Number (at (base + 21)) (int 15))

abbrev pub lock_tree : (base mutex : ℕ) → t.Statement
lock_tree base mutex = t.Lock (at (base + 4)) (name (mutex_name mutex) (base + 9)) None

abbrev pub update_tree : (base mutex : ℕ) (addend : Typed) → t.Statement
update_tree base mutex addend = t.Assign (record {
  place = at (base + 14);
  target = t.Target (name (array_name mutex) (base + 14)) (Some (element_tree base));
  change = t.Update b.Add (t.Number (at (base + 28)) addend);
})

abbrev pub unlock_tree : (base mutex : ℕ) → t.Statement
unlock_tree base mutex = t.Unlock (at (base + 31)) (name (mutex_name mutex) (base + 38)) None

-- a section, and what comes after it
abbrev pub section_tree : (base mutex : ℕ) (addend : Typed) → t.Statements → t.Statements
section_tree base mutex addend rest =
    t.statement_and (lock_tree base mutex) (t.statement_and (update_tree base mutex addend) (t.statement_and (unlock_tree base mutex) rest))

-- the sections of a round, where the opening part of the loop ends with the place before `;`
abbrev pub round_tree : (opening : ℕ) (mutex : ℕ → ℕ) (addend : ℕ → Typed) → t.Statements
round_tree opening mutex addend =
    section_tree (opening + 9) (mutex 0) (addend 0) (section_tree (opening + 52) (mutex 1) (addend 1) (section_tree (opening + 95) (mutex 2) (addend 2)
    (section_tree (opening + 138) (mutex 3) (addend 3) t.no_statement)))

abbrev pub first_tree : (base : ℕ) → t.First
first_tree base = t.Declared (record {
  place = at (base + 19);
  type_name = t.OfKind kind.Int;
  name = name index_name (base + 23);
  initial = t.Value (t.Number (at (base + 27)) (int 0));
})

abbrev pub test_tree : (base : ℕ) (rounds : Typed) → t.Expression
test_tree base rounds = t.Binary b.Less (t.Named (name index_name (base + 30))) (t.Number (at (base + 34)) rounds)

abbrev pub last_tree : (opening : ℕ) → t.Assignment
last_tree opening = record { place = at (opening + 2); target = t.Target (name index_name (opening + 2)) None; change = t.Increment }

abbrev pub loop_tree : (base opening : ℕ) (rounds : Typed) (mutex : ℕ → ℕ) (addend : ℕ → Typed) → t.Statement
loop_tree base opening rounds mutex addend =
    t.For (at (base + 14)) (first_tree base) (Some (test_tree base rounds)) (Some (last_tree opening))
    (t.Braced (at (opening + 7)) (round_tree opening mutex addend) (at (opening + 181 + 2)))

abbrev pub thread_tree : (number base opening : ℕ) (rounds : Typed) (mutex : ℕ → ℕ) (addend : ℕ → Typed) → t.Item
thread_tree n base opening rounds mutex addend = t.ThreadItem (record {
  name = name (thread_name n) (base + 7);
  block = t.Braced (at (base + 10)) (t.statement_and (loop_tree base opening rounds mutex addend) t.no_statement) (at (opening + 181 + 4));
})

abbrev pub round_tokens : (opening : ℕ) (mutex : ℕ → ℕ) (addend : ℕ → Typed) (after : List Token) → List Token
round_tokens opening mutex addend after =
    section_tokens (opening + 9) (mutex 0) (addend 0) ++ (section_tokens (opening + 52) (mutex 1) (addend 1) ++
    (section_tokens (opening + 95) (mutex 2) (addend 2) ++ (section_tokens (opening + 138) (mutex 3) (addend 3) ++ after)))

abbrev pub thread_tokens : (number base opening : ℕ) (rounds : Typed) (mutex : ℕ → ℕ) (addend : ℕ → Typed) → List Token
thread_tokens n base opening rounds mutex addend =
    head_tokens base n rounds ++ (opening_tokens opening ++ round_tokens opening mutex addend (closing_tokens (opening + 181)))

-- the mutexes of a thread's sections, by that of the first section of all
abbrev pub mutex_in : (first thread section : ℕ) → ℕ
mutex_in first thread section = (first + thread + section) % 4

-- ---- Whole sources

-- how the numbers of a source are read, and where its threads stand
pub record Reading : Type 0 where
  pub rounds : Typed
  -- what the sections of a thread add
  pub addend : (thread section : ℕ) → Typed
  -- where a thread begins, and where the number of its rounds ends
  pub base : (thread : ℕ) → ℕ
  pub opening : (thread : ℕ) → ℕ

module _ (first : ℕ) (r : Reading) where
  abbrev pub thread_by : (thread : ℕ) → t.Item
  thread_by n = thread_tree n (r.base n) (r.opening n) r.rounds (mutex_in first n) (r.addend n)

  abbrev pub items : List t.Item
  items =
      mutex_tree 0 0 ∷ mutex_tree 10 1 ∷ mutex_tree 20 2 ∷ mutex_tree 30 3 ∷
      variable_tree 40 0 ∷ variable_tree 68 1 ∷ variable_tree 96 2 ∷ variable_tree 124 3 ∷
      thread_by 0 ∷ thread_by 1 ∷ thread_by 2 ∷ thread_by 3 ∷ []

  abbrev pub tokens_by : (thread : ℕ) → List Token
  tokens_by n = thread_tokens n (r.base n) (r.opening n) r.rounds (mutex_in first n) (r.addend n)

  abbrev pub source_tokens : List Token
  source_tokens =
      mutex_tokens 0 0 ++ (mutex_tokens 10 1 ++ (mutex_tokens 20 2 ++ (mutex_tokens 30 3 ++
      (variable_tokens 40 0 ++ (variable_tokens 68 1 ++ (variable_tokens 96 2 ++ (variable_tokens 124 3 ++
      (tokens_by 0 ++ (tokens_by 1 ++ (tokens_by 2 ++ (tokens_by 3 ++ [])))))))))))

-- Worked rows: typed programs, flat forms, and runs of them step by step.
use Rattle.std.proofs.Common.{◌≡◌, ℕ, List, [], ◌∷◌, map, replicate, None, true, false, refl}
use Rattle.std.specs.Prelude.{pos, negsuc, ℤ, codes}
use Rattle.ido_ints.specs.declared.kinds.Kind.TheVariants as kind
use Rattle.ido_ints.specs.declared.operators.Unary.TheVariants as u
use Rattle.ido_ints.specs.declared.operators.Binary.TheVariants as b
use Rattle.ido_ints.specs.TypedNumbers.{typed}
use Rattle.ido_ints.specs.Reduction as reduction
use Rattle.c_tree.specs.Trees as t
use Rattle.c_tree.specs.Exprs as e
use Rattle.c_tree.specs.Programs as p
use Rattle.c_tree.specs.Flats as f
use Rattle.c_tree.specs.Elaboration.{typed_program}
use Rattle.c_tree.specs.Inlining.{flat_form}
use Rattle.c_tree.specs.Source.{State, start, source_step, after_from, runs_from, ended_from}
use Rattle.c_tree.proofs.Samples.{at, int, name, operators, bytes, two_threads, calls, loops}

abbrev placed : ℕ → e.Expr → e.Placed
placed place x = record { place = at place; expr = x }

abbrev variable : List ℕ → ℕ → ℤ → p.Variable
variable text place initial = record { name = name text place; guard = p.By 0; kind = kind.Int; refers = None; length = None; initial = initial ∷ [] }

-- the variable of this number, where its name stands
abbrev read : ℕ → ℕ → e.Expr
read place number = e.Variable (at place) number kind.Int

abbrev store : ℕ → ℕ → e.Placed → p.Statement
store place number value = p.Assign (at place) (e.ToVariable (at place) number kind.Int) value

abbrev all_of : List p.Statement → p.Statements
all_of [] = p.no_statement
all_of (x ∷ xs) = p.statement_and x (all_of xs)

operators_typed : typed_program operators ≡ record {
  mutexes = record { name = name (codes "m") 6; length = None } ∷ [];
  variables =
      variable (codes "a") 27 (pos 2147483647) ∷ variable (codes "b") 61 (pos 7) ∷ variable (codes "c") 86 (pos 0) ∷
      variable (codes "d") 107 (pos 0) ∷ variable (codes "z") 128 (pos 0) ∷ variable (codes "e") 149 (pos 1) ∷ [];
  functions = [];
  threads = record {
    name = name (codes "t") 163;
    locals = [];
    refers = [];
    body = all_of (
        p.Lock (at 167) (record { mutex = 0; key = None }) ∷
        store 176 0 (placed 180 (e.Binary b.Add (read 180 0) (e.Constant (int 1)))) ∷
        store 187 2 (placed 191 (e.Binary b.Div (read 191 1) (read 195 4))) ∷
        store 198 3 (placed 202 (e.Binary b.Rem (read 202 1) (read 206 4))) ∷
        store 209 1 (placed 213 (e.Binary b.Div (read 213 0) (e.Binary b.Sub (read 218 4) (e.Constant (int 1))))) ∷
        store 226 5 (placed 230 (e.Binary b.Less (e.Unary u.Minus (e.Constant (int 1))) (e.Constant (typed kind.UnsignedInt (pos 1))))) ∷
        p.Unlock (at 239) (record { mutex = 0; key = None }) ∷ []);
    closing = at 250;
  } ∷ [];
}
unfolding typed_program reduction.from_least_on
operators_typed = refl

-- ---- Flat forms

abbrev flat_store : ℕ → ℕ → e.Placed → f.Statement
flat_store place number value = f.Assign (at place) (e.ToVariable (at place) number kind.Int) value

abbrev flat_all_of : List f.Statement → f.Statements
flat_all_of [] = f.no_statement
flat_all_of (x ∷ xs) = f.statement_and x (flat_all_of xs)

operators_flat : (flat_form (typed_program operators)).threads ≡ record {
  name = name (codes "t") 163;
  locals = [];
  refers = [];
  body = flat_all_of (
      f.Lock (at 167) (record { mutex = 0; key = None }) ∷
      flat_store 176 0 (placed 180 (e.Binary b.Add (read 180 0) (e.Constant (int 1)))) ∷
      flat_store 187 2 (placed 191 (e.Binary b.Div (read 191 1) (read 195 4))) ∷
      flat_store 198 3 (placed 202 (e.Binary b.Rem (read 202 1) (read 206 4))) ∷
      flat_store 209 1 (placed 213 (e.Binary b.Div (read 213 0) (e.Binary b.Sub (read 218 4) (e.Constant (int 1))))) ∷
      flat_store 226 5 (placed 230 (e.Binary b.Less (e.Unary u.Minus (e.Constant (int 1))) (e.Constant (typed kind.UnsignedInt (pos 1))))) ∷
      f.Unlock (at 239) (record { mutex = 0; key = None }) ∷ []);
  closing = at 250;
} ∷ []
unfolding typed_program flat_form reduction.from_least_on
operators_flat = refl

-- ---- Runs

abbrev started : List t.Item → State
started xs = start (flat_form (typed_program xs))

operators_run : (after_from (started operators) (replicate 12 0)).variables ≡
    (negsuc 2147483647 ∷ []) ∷ (negsuc 2147483647 ∷ []) ∷ (negsuc 0 ∷ []) ∷ (pos 7 ∷ []) ∷ (pos 0 ∷ []) ∷ (pos 0 ∷ []) ∷ []
unfolding typed_program flat_form source_step reduction.from_least_on reduction.residue
operators_run = refl

operators_sections : ended_from (started operators) (replicate 12 0) 0 ≡ 1
unfolding typed_program flat_form source_step reduction.from_least_on reduction.residue
operators_sections = refl

-- the end is the thirteenth step, and the last
operators_ends : runs_from (started operators) (replicate 13 0) ≡ true
unfolding typed_program flat_form source_step reduction.from_least_on reduction.residue
operators_ends = refl

operators_ended : runs_from (started operators) (replicate 14 0) ≡ false
unfolding typed_program flat_form source_step reduction.from_least_on reduction.residue
operators_ended = refl

bytes_run : (after_from (started bytes) (replicate 6 0)).variables ≡
    (pos 1 ∷ pos 0 ∷ pos 44 ∷ pos 0 ∷ pos 0 ∷ pos 0 ∷ pos 0 ∷ pos 0 ∷ []) ∷ []
unfolding typed_program flat_form source_step reduction.from_least_on reduction.residue
bytes_run = refl

-- ---- Waiting

-- a mutex that is held can't be taken, and can be once it is free
waits : runs_from (started two_threads) (0 ∷ 1 ∷ []) ≡ false
unfolding typed_program flat_form source_step reduction.from_least_on reduction.residue
waits = refl

waits_no_more : runs_from (started two_threads) (0 ∷ 0 ∷ 1 ∷ 0 ∷ 1 ∷ 1 ∷ []) ≡ true
unfolding typed_program flat_form source_step reduction.from_least_on reduction.residue
waits_no_more = refl

sections_of_both : map (ended_from (started two_threads) (0 ∷ 0 ∷ 1 ∷ 0 ∷ 1 ∷ 1 ∷ [])) (0 ∷ 1 ∷ []) ≡ 1 ∷ 1 ∷ []
unfolding typed_program flat_form source_step reduction.from_least_on reduction.residue
sections_of_both = refl

-- ---- Loops and calls

-- the first part; twice a test, a lock, a parameter, a body, a result and its store, an unlock and the last part; a test that
-- fails; the test of the `do`; the end
calls_ends : runs_from (started calls) (replicate 20 0) ≡ true
unfolding typed_program flat_form source_step reduction.from_least_on reduction.residue
calls_ends = refl

calls_ended : runs_from (started calls) (replicate 21 0) ≡ false
unfolding typed_program flat_form source_step reduction.from_least_on reduction.residue
calls_ended = refl

calls_run : (after_from (started calls) (replicate 20 0)).variables ≡ (pos 2 ∷ []) ∷ []
unfolding typed_program flat_form source_step reduction.from_least_on reduction.residue
calls_run = refl

-- the store is a step of its own, after that of the value
calls_pending : (after_from (started calls) (replicate 14 0)).variables ≡ (pos 0 ∷ []) ∷ []
unfolding typed_program flat_form source_step reduction.from_least_on reduction.residue
calls_pending = refl

calls_stored : (after_from (started calls) (replicate 15 0)).variables ≡ (pos 2 ∷ []) ∷ []
unfolding typed_program flat_form source_step reduction.from_least_on reduction.residue
calls_stored = refl

-- the local; three times its change and the test of the `do`; the lock; two tests; two assignments with their stores; the unlock; the end
loops_end : runs_from (started loops) (replicate 16 0) ≡ true
unfolding typed_program flat_form source_step reduction.from_least_on reduction.residue
loops_end = refl

loops_ended : runs_from (started loops) (replicate 17 0) ≡ false
unfolding typed_program flat_form source_step reduction.from_least_on reduction.residue
loops_ended = refl

loops_run : (after_from (started loops) (replicate 14 0)).variables ≡ (pos 3 ∷ []) ∷ (negsuc 0 ∷ []) ∷ []
unfolding typed_program flat_form source_step reduction.from_least_on reduction.residue
loops_run = refl

-- Banks of logs.
use Rattle.std.proofs.Common.{◌≡◌, inr, ℕ, ◌+◌, ◌<◌, sym, subst, arith, List, ◌∷◌, ◌++◌, length, take, drop, get_or, None, false, Result, Ok, Err}
use Rattle.std.specs.Prelude.{MatchResult}
use Rattle.std.proofs.lemmas.Grind.{common_steps}
use Rattle.std.proofs.lemmas.List.{get_or_default}
use borrow.Author.Count.{below_more}
use Rattle.ido_ints.specs.declared.kinds.Kind.TheVariants.{Char}
use Rattle.c_tree.specs.Flats.{Flat}
use Rattle.flat_compile.specs.declared.resumes.LiveLocal.{LiveLocal}
use Rattle.flat_compile.specs.declared.resumes.Resume.{Resume}
use Rattle.image_checks.specs.declared.error.ImageError.{ImageError}
use Rattle.log_schemes.specs.Schemes.{locals_of}
use Rattle.image_checks.specs.Checks.{AreLocalsFirst, HasLocal, HasLocals, HasLocks, HasWrite, IsBankFault, IsFaultBeside, IsRightBefore, home_number}
use Rattle.image_checks.specs.Checks.{IsFirstWrong, IsLocalWord, IsRight, IsRightBeside}
use Rattle.image_checks.specs.Checks.{other_number, other_address, other_value, beside}
use Rattle.image_checks.specs.Logs.{Logs, home_in}
use Rattle.image_checks.specs.links.BankFaults.{IsLocalFault, IsWriteFault, number, address, value}

-- ---- The first of some that is wrong

-- what is read beyond the last
abbrev pub none : LiveLocal
none = record { colour = 0; local = 0; kind = Char; refers = None; known = false }

parted : (live : List LiveLocal) (i : ℕ) (d : LiveLocal) → i < length live → live ≡ take i live ++ get_or live i d ∷ drop (i + 1) live
parted live i d within = grind (arith, common_steps)

in_prefix : (live : List LiveLocal) (n k : ℕ) (d : LiveLocal) → k < length (take n live) → get_or (take n live) k d ≡ get_or live k d
in_prefix live n k d within = grind (arith, common_steps)

in_prefix_below : (live : List LiveLocal) (n k : ℕ) → k < length (take n live) → k < n
in_prefix_below live n k within = grind (arith, common_steps)

module _ (flat : Flat) (logs : Logs) (thread bank : ℕ) (live : List LiveLocal) (i : ℕ) {word : ℕ} (within : i < length live)
    (word_is : word ≡ home_in logs thread bank (get_or live i none).colour)
    (before : (k : ℕ) (e : LiveLocal) → k < i → HasLocal flat logs thread bank (get_or live k e)) where
  pub first_wrong : (register : ℕ) → register ≡ home_number (locals_of logs.log) (get_or live i none).colour →
      ¬ (IsLocalWord flat.variables (get_or live i none) word) → IsFirstWrong flat logs thread bank live register
  first_wrong register is wrong = record {
    before = take i live;
    local = get_or live i none;
    after = drop (i + 1) live;
    parts = parted live i none within;
    right = λ k e l. subst (HasLocal flat logs thread bank) (sym (in_prefix live i k e l)) (before k e (in_prefix_below live i k l));
    wrong = λ h. wrong (subst (IsLocalWord flat.variables (get_or live i none)) (sym word_is) h);
    register_is = is;
  }

  pub more_right : IsLocalWord flat.variables (get_or live i none) word → (k : ℕ) (e : LiveLocal) → k < i + 1 → HasLocal flat logs thread bank (get_or live k e)
  more_right right k e l =
      below_more (λ (n : ℕ). (e : LiveLocal) → HasLocal flat logs thread bank (get_or live n e)) i (λ n m x. before n x m)
      (λ x. subst (HasLocal flat logs thread bank) (get_or_default live i none x within)
      (subst (IsLocalWord flat.variables (get_or live i none)) word_is right)) k l e

-- ---- Faults of a part of a bank

module _ (flat : Flat) (logs : Logs) (thread bank : ℕ) (r : Resume) where
  -- a fault of locals, where what is looked at before them is right
  pub of_locals : (x : ImageError) → IsRightBefore flat logs thread bank r → IsLocalFault flat logs thread bank r.live.items x →
      IsFaultBeside flat logs thread bank r x
  of_locals x before (number register f) = other_number register before f

  -- and one of what is written next
  pub of_write : (x : ImageError) → (AreLocalsFirst (locals_of logs.log) → HasLocals flat logs thread bank r.live.items) →
      IsWriteFault flat logs thread bank r x → IsFaultBeside flat logs thread bank r x
  of_write x before (address wrong) = other_address before wrong
  of_write x before (value stands wrong) = other_value before stands wrong

  -- the answer of the one, after the other
  pub write_answer : (answer : Result (Unit {0}) ImageError) → HasLocals flat logs thread bank r.live.items →
      MatchResult answer (λ _. HasWrite flat logs thread bank r) (IsWriteFault flat logs thread bank r) →
      MatchResult answer (λ _. IsRightBeside flat logs thread bank r) (IsFaultBeside flat logs thread bank r)
  write_answer (Ok _) locals write = record { locals = locals; write = write }
  write_answer (Err x) locals fault = of_write x (λ _. locals) fault

  pub locals_answer : (answer : Result (Unit {0}) ImageError) → HasWrite flat logs thread bank r →
      MatchResult answer (λ _. HasLocals flat logs thread bank r.live.items) (IsLocalFault flat logs thread bank r.live.items) →
      MatchResult answer (λ _. IsRightBeside flat logs thread bank r) (IsFaultBeside flat logs thread bank r)
  locals_answer (Ok _) write locals = record { locals = locals; write = write }
  locals_answer (Err x) write fault = of_locals x (inr write) fault

  -- where locks are right, and nothing beside them is wrong
  pub masked_answer : (answer : Result (Unit {0}) ImageError) → HasLocks flat logs thread bank r →
      MatchResult answer (λ _. IsRightBeside flat logs thread bank r) (IsFaultBeside flat logs thread bank r) →
      MatchResult answer (λ _. IsRight flat logs thread bank r) (IsBankFault flat logs thread bank r)
  masked_answer (Ok _) locks right = record { locks = locks; locals = right.locals; write = right.write }
  masked_answer (Err x) locks fault = beside x (λ _. locks) fault

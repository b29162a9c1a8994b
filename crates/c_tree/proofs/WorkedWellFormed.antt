-- Worked rows: a flat form that is well formed, and one that isn't; names of locks that are, and that aren't.
use Rattle.std.proofs.Common.{◌≡◌, ◌==◌, ℕ, List, [], ◌∷◌, ◌++◌, Some, None, true, is_some, refl, ap, ◌∙◌, arith}
use Rattle.std.proofs.lemmas.Bool.{true≢false}
use Rattle.std.proofs.lemmas.Option.{same_Some}
use Rattle.ido_ints.specs.declared.kinds.Kind.TheVariants.{Int, Long}
use Rattle.ido_ints.specs.Kinds.{Holds}
use Rattle.ido_ints.specs.Reduction as reduction
use Rattle.ido_ints.specs.TypedNumbers.{typed}
use Rattle.ido_ints.proofs.Public.{Holds-zero}
use Rattle.std.specs.Prelude.{pos}
use Rattle.c_tree.specs.Inlining.{flat_form}
use Rattle.c_tree.specs.Elaboration.{typed_program}
use Rattle.c_tree.specs.Exprs as e
use Rattle.c_tree.specs.Programs.{Mutex, Variable, By, Each}
use Rattle.c_tree.specs.WellFormed.{IsArrayAt, IsFlatLockName, IsGuard, IsWellFormed}
use Rattle.c_tree.proofs.Samples.{at, name, index_of_nine, index_masked}

zero : Holds Long (pos 0)
zero = Holds-zero Long

-- an index that is masked names an element
masked_formed : IsWellFormed (flat_form (typed_program index_masked))
unfolding flat_form typed_program reduction.from_least_on
masked_formed = record {
  shared = record {
    mutexes = omega arith;
    threads = omega arith;
    variables = (
      record {
        guarded = record { it = _; found = refl; single = refl };
        not_empty = omega arith;
        not_too_long = omega arith;
        count = refl;
        held =
            (zero, (zero, (zero, (zero, (zero, (zero, (zero, (zero, tt))))))));
      },
      tt,
    );
    bytes = omega arith;
  };
  threads = (
    (
      ((refl, tt), (tt, tt)),
      (
        record { it = _; found = refl; single = refl },
        (
          (((record { it = _; found = refl; kind = refl; array = refl }, (refl, tt)), (refl, (tt, tt))), (tt, tt)),
          (record { it = _; found = refl; single = refl }, tt),
        ),
      ),
    ),
    tt,
  );
  referring = record {
    variables = ((tt, tt), tt);
    threads = (record { locals = (tt, tt); refer = (tt, tt); body = ((tt, tt, tt), (tt, (((tt, tt), tt, tt), (tt, tt)))); never_null = refl }, tt);
  };
}

-- of an array of four mutexes a key is one of their numbers, and reads locals alone
abbrev four : Mutex
four = record { name = name [] 1; length = Some 4 }

abbrev array : List Mutex
array = four ∷ four ∷ four ∷ four ∷ []

abbrev keyed : e.Expr → e.LockName
keyed key = record { mutex = 0; key = Some (record { place = at 1; expr = key }) }

abbrev number : ℕ → e.Expr
number n = e.Constant (typed Int (pos n))

last_key : IsFlatLockName array [] (keyed (number 3))
last_key = record { array = record { it = four; found = refl; array = refl; whole = refl }; reads = tt; follows = tt; fits = refl }

no_such_key : ¬ (IsFlatLockName array [] (keyed (number 4)))
no_such_key k = let fits = k.fits in cc

key_of_a_variable : ¬ (IsFlatLockName array [] (keyed (e.Variable (at 1) 0 Int)))
key_of_a_variable k = let found = k.reads.found in cc

key_that_follows : ¬ (IsFlatLockName array [] (keyed (e.Referent (at 1) 3 0)))
key_that_follows k = let refers = k.follows.refers in cc

-- an array is named by its first mutex, all of it, and no two as one
abbrev other : Mutex
other = record { name = name [] 2; length = Some 4 }

first_of_two : IsArrayAt (array ++ (other ∷ other ∷ other ∷ other ∷ [])) 0
first_of_two = record { it = four; found = refl; array = refl; whole = refl }

middle_of_one : ¬ (IsArrayAt (array ++ (other ∷ other ∷ other ∷ other ∷ [])) 1)
middle_of_one a =
    let whole : four ∷ four ∷ four ∷ other ∷ [] ≡ a.it ∷ a.it ∷ a.it ∷ a.it ∷ [] = a.whole in
    let same : four ≡ other = cc in
    true≢false (ap (λ (m : Mutex). m.name.place.0 == 1) same)

cut_short : ¬ (IsArrayAt (four ∷ four ∷ four ∷ []) 0)
cut_short a = let whole : four ∷ four ∷ four ∷ [] ≡ a.it ∷ a.it ∷ a.it ∷ a.it ∷ [] = a.whole in cc

-- a mutex of an array has no name without a key, and one that is in none has no name with one
key_wanted : ¬ (IsFlatLockName array [] (record { mutex = 0; key = None }))
key_wanted k =
    let same : four ≡ k.it = same_Some four k.it k.found in
    let none : four.length ≡ None = ap (λ (m : Mutex). m.length) same ∙ k.single in
    cc

abbrev alone : Mutex
alone = record { name = name [] 1; length = None }

its_name : IsFlatLockName (alone ∷ []) [] (record { mutex = 0; key = None })
its_name = record { it = alone; found = refl; single = refl }

no_such_mutex : ¬ (IsFlatLockName (alone ∷ []) [] (record { mutex = 1; key = None }))
no_such_mutex k = let found = k.found in cc

no_key_there : ¬ (IsFlatLockName (alone ∷ []) [] (keyed (number 0)))
no_key_there k =
    let same : alone ≡ k.array.it = same_Some alone k.array.it k.array.found in
    let some : is_some alone.length ≡ true = ap (λ (m : Mutex). is_some m.length) same ∙ k.array.array in
    cc

-- an array of mutexes guards a variable that has as many elements, and no mutex of an array guards one
abbrev elements : ℕ → Variable
elements n = record {
  name = name [] 1;
  kind = Int;
  refers = None;
  length = Some n;
  guard = Each 0;
  initial = [];
}

each_guarded : IsGuard array (elements 4)
each_guarded = (record { it = four; found = refl; array = refl; whole = refl }, refl)

other_length : ¬ (IsGuard array (elements 3))
other_length g = let long = g.1 in cc

one_of_an_array : ¬ (IsGuard array (record (elements 4) { guard = By 0 }))
one_of_an_array g =
    let same : four ≡ g.it = same_Some four g.it g.found in
    let none : four.length ≡ None = ap (λ (m : Mutex). m.length) same ∙ g.single in
    cc

-- one that can be 9 names none of 8
nine_unformed : ¬ (IsWellFormed (flat_form (typed_program index_of_nine)))
unfolding flat_form typed_program reduction.from_least_on
nine_unformed w = let fits = w.threads.0.1.1.0.0.1.0 in cc

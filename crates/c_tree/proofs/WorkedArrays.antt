-- Worked rows: an array of mutexes, each of which guards an element, and what breaks the rules of its name and its length.
use Rattle.std.proofs.Common.{◌≡◌, ℕ, [], ◌∷◌, map, replicate, Option, Some, None, Bool, true, false, refl, arith}
use Rattle.std.specs.Prelude.{pos, codes}
use Rattle.std.specs.List.{AllByRecursion}
use Rattle.ido_ints.specs.declared.kinds.Kind.TheVariants as kind
use Rattle.ido_ints.specs.declared.operators.Binary.TheVariants as b
use Rattle.ido_ints.specs.Kinds.{Holds}
use Rattle.ido_ints.specs.Reduction as reduction
use Rattle.ido_ints.proofs.Public.{Holds-zero}
use Rattle.c_tree.specs.declared.language.Language.TheVariants.{Plain, Full}
use Rattle.c_tree.specs.declared.rule.Rule as r
use Rattle.c_tree.specs.declared.rule.Rule.TheVariants as rule
use Rattle.c_tree.specs.LexicalScan as scan
use Rattle.c_tree.specs.Trees as t
use Rattle.c_tree.specs.Exprs as e
use Rattle.c_tree.specs.Flats as f
use Rattle.c_tree.specs.Elaboration.{typed_program}
use Rattle.c_tree.specs.Inlining.{flat_form}
use Rattle.c_tree.specs.TypeRules.{type_faults}
use Rattle.c_tree.specs.LockNames.{lock_names}
use Rattle.c_tree.specs.HoldPrices.{full_price}
use Rattle.c_tree.specs.References.{AreFlatStatementsReferring}
use Rattle.c_tree.specs.WellFormed.{AreShared, AreFlatStatements, IsFlatLockName, IsSingle, IsWellFormed}
use Rattle.c_tree.specs.Source.{start, source_step, after_from, ended_from}
use Rattle.c_tree.proofs.Samples.{at, int, name, length_at, thread, block, buckets}

-- ---- Buckets

abbrev flat : f.Flat
flat = flat_form (typed_program buckets)

-- the key `i & 3`, where it stands first
abbrev masked : e.LockName
masked = record { mutex = 0; key = Some (record { place = at 87; expr = e.Binary b.And (e.Local 0 kind.Int) (e.Constant (int 3)) }) }

buckets_typed : type_faults Full buckets ≡ []
unfolding type_faults
buckets_typed = refl

-- four locks, and one name of them
buckets_names : map (lock_names flat) flat.threads ≡ (masked ∷ []) ∷ []
unfolding typed_program flat_form reduction.from_least_on
buckets_names = refl

-- each round takes the mutex of another element
buckets_run : (after_from (start flat) (replicate 24 0)).variables ≡ (pos 0 ∷ pos 1 ∷ pos 2 ∷ pos 3 ∷ []) ∷ []
unfolding typed_program flat_form source_step reduction.from_least_on reduction.residue
buckets_run = refl

-- in the second round it is lock 1
buckets_holders : (after_from (start flat) (replicate 9 0)).holders ≡ None ∷ Some 0 ∷ None ∷ None ∷ []
unfolding typed_program flat_form source_step reduction.from_least_on reduction.residue
buckets_holders = refl

buckets_sections : ended_from (start flat) (replicate 24 0) 0 ≡ 4
unfolding typed_program flat_form source_step reduction.from_least_on reduction.residue
buckets_sections = refl

-- eight nodes, 16 for each of 22 nodes of expressions, and 56 at each of the four nodes before or after which the lock is held
buckets_price : map (full_price Full flat) flat.threads ≡ 1344 ∷ []
unfolding typed_program flat_form reduction.from_least_on
buckets_price = refl

-- without what is held
buckets_plain : map (full_price Plain flat) flat.threads ≡ 1120 ∷ []
unfolding typed_program flat_form reduction.from_least_on
buckets_plain = refl

-- ---- What well formed says of buckets

zero : Holds kind.Long (pos 0)
zero = Holds-zero kind.Long

-- four elements, each under its own mutex
buckets_shared : AreShared flat.mutexes 1 flat.variables
unfolding flat_form typed_program reduction.from_least_on
buckets_shared = record {
  mutexes = omega arith;
  threads = omega arith;
  variables = (
    record {
      guarded = (record { it = _; found = refl; array = refl; whole = refl }, refl);
      not_empty = omega arith;
      not_too_long = omega arith;
      count = refl;
      held = (zero, (zero, (zero, (zero, tt))));
    },
    tt,
  );
  bytes = omega arith;
}

-- the key of the lock and of the unlock
masked_name : IsFlatLockName flat.mutexes (kind.Int ∷ []) masked
unfolding flat_form typed_program reduction.from_least_on
masked_name = record { array = record { it = _; found = refl; array = refl; whole = refl }; reads = (refl, tt); follows = (tt, tt); fits = refl }

-- its statements, with the key at the lock and at the unlock
buckets_threads : AllByRecursion (λ (u : f.Thread). AreFlatStatements flat u.locals u.body) flat.threads
unfolding flat_form typed_program reduction.from_least_on
buckets_threads =
    let key : IsFlatLockName flat.mutexes (kind.Int ∷ []) masked = masked_name in (
      (
        ((refl, tt), (tt, tt)),
        (
          (
            ((refl, tt), (tt, tt)),
            (
              key,
              (
                (
                  ((record { it = _; found = refl; kind = refl; array = refl }, (refl, tt)), (refl, (tt, tt))),
                  (((record { it = _; found = refl; kind = refl; array = refl }, (refl, tt)), refl), ((refl, (tt, tt)), tt)),
                ),
                (key, (((refl, tt), ((refl, tt), (tt, tt))), tt)),
              ),
            ),
          ),
          tt,
        ),
      ),
      tt,
    )

-- its one thread refers to nothing
buckets_refer : AllByRecursion (λ (u : f.Thread). AreFlatStatementsReferring flat u.refers u.body) flat.threads
unfolding flat_form typed_program reduction.from_least_on
buckets_refer = (
  ((tt, tt, tt), (((tt, tt), (tt, (((tt, tt), ((tt, tt), tt), tt), (tt, ((tt, (tt, tt), tt), tt))))), tt)),
  tt,
)

buckets_formed : IsWellFormed flat
unfolding flat_form typed_program reduction.from_least_on
buckets_formed = record {
  shared = buckets_shared;
  threads = buckets_threads;
  referring = record {
    variables = ((tt, tt), tt);
    threads = (record { locals = (tt, tt); refer = (tt, tt); body = buckets_refer.0; never_null = refl }, tt);
  };
}

-- its mutexes are in an array
buckets_keyed : ¬ (AllByRecursion IsSingle flat.mutexes)
unfolding flat_form typed_program reduction.from_least_on
buckets_keyed all = let single = all.0 in cc

-- ---- Names and lengths

abbrev at_rule : r.Rule → ℕ → scan.Fault
at_rule found place = record { rule = found; place = at place }

-- `mutex m[..];` or `mutex m;`, with the length at place 8
abbrev mutex : Option ℕ → t.Item
mutex count = t.MutexItem (name (codes "m") 6) (elim count [ None ↦ None | Some n ↦ Some (length_at 8 (int n)) ])

-- a variable at place 30 with its length at place 40, guarded by what stands at place 20
abbrev guarded : (each : Bool) → Option ℕ → t.Item
guarded each count = t.PersistentItem (record {
  guard = record { mutex = name (codes "m") 20; each = each };
  type_name = t.OfKind kind.Long;
  name = name (codes "a") 30;
  length = elim count [ None ↦ None | Some n ↦ Some (length_at 40 (int n)) ];
  initialiser = None;
})

abbrev locking : Option t.Expression → t.Item
locking key = thread (name (codes "t") 50) (block 52 (t.Lock (at 53) (name (codes "m") 58) key ∷ []) 70)

-- an array has brackets or a key everywhere, a mutex nowhere
needs_brackets : type_faults Full (mutex (Some 4) ∷ guarded false (Some 4) ∷ []) ≡ at_rule rule.WrongSort 20 ∷ []
unfolding type_faults
needs_brackets = refl

has_no_brackets : type_faults Full (mutex None ∷ guarded true (Some 4) ∷ []) ≡ at_rule rule.WrongSort 20 ∷ []
unfolding type_faults
has_no_brackets = refl

needs_a_key : type_faults Full (mutex (Some 4) ∷ locking None ∷ []) ≡ at_rule rule.WrongSort 58 ∷ []
unfolding type_faults
needs_a_key = refl

has_no_key : type_faults Full (mutex None ∷ locking (Some (t.Number (at 60) (int 0))) ∷ []) ≡ at_rule rule.WrongSort 58 ∷ []
unfolding type_faults
has_no_key = refl

-- each mutex guards one element of an array that is as long
scalar_of_each : type_faults Full (mutex (Some 4) ∷ guarded true None ∷ []) ≡ at_rule rule.WrongSort 30 ∷ []
unfolding type_faults
scalar_of_each = refl

other_length : type_faults Full (mutex (Some 4) ∷ guarded true (Some 5) ∷ []) ≡ at_rule rule.Count 40 ∷ []
unfolding type_faults
other_length = refl

as_long : type_faults Full (mutex (Some 4) ∷ guarded true (Some 4) ∷ []) ≡ []
unfolding type_faults
as_long = refl

-- a key reads locals alone
reads_a_variable : type_faults Full (mutex (Some 4) ∷ guarded true (Some 4) ∷ locking (Some (t.Element (name (codes "a") 60) (t.Number (at 62) (int 0)))) ∷ [])
    ≡
    at_rule rule.WrongSort 60 ∷ []
unfolding type_faults
reads_a_variable = refl

-- ---- How many

no_mutex : type_faults Full (mutex (Some 0) ∷ []) ≡ at_rule rule.Length 8 ∷ []
unfolding type_faults
no_mutex = refl

most : type_faults Full (mutex (Some 1024) ∷ []) ≡ []
unfolding type_faults
most = refl

one_too_many : type_faults Full (mutex (Some 1024) ∷ t.MutexItem (name (codes "n") 20) None ∷ []) ≡ at_rule rule.Mutexes 20 ∷ []
unfolding type_faults
one_too_many = refl

-- a refused length counts, too
counts_refused : type_faults Full (mutex (Some 4097) ∷ []) ≡ at_rule rule.Mutexes 6 ∷ at_rule rule.Length 8 ∷ []
unfolding type_faults
counts_refused = refl

-- by the other language one is too many much earlier
plain_most : type_faults Plain (mutex (Some 64) ∷ []) ≡ []
unfolding type_faults
plain_most = refl

plain_too_many : type_faults Plain (mutex (Some 64) ∷ t.MutexItem (name (codes "n") 20) None ∷ []) ≡ at_rule rule.Mutexes 20 ∷ []
unfolding type_faults
plain_too_many = refl

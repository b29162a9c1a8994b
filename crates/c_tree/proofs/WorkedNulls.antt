-- Worked rows: where references may be null, and a run that follows one.
use Rattle.std.proofs.Common.{◌≡◌, ◌∙◌, ap, ℕ, List, [], ◌∷◌, map, replicate, Some, None, true, is_some, refl, sym, subst, arith}
use Rattle.std.proofs.lemmas.Option.{none-some, same_Some}
use Rattle.std.specs.Prelude.{pos, codes, flat_map}
use Rattle.ido_base.specs.declared.place.Place.{Place}
use Rattle.ido_ints.specs.declared.kinds.Kind.{Kind}
use Rattle.ido_ints.specs.declared.kinds.Kind.TheVariants as kind
use Rattle.ido_ints.specs.declared.operators.Binary.TheVariants as b
use Rattle.ido_ints.specs.Reduction as reduction
use Rattle.ido_ints.specs.TypedNumbers.{typed}
use Rattle.ido_ints.proofs.Public.{Holds-reduced, Holds-zero}
use Rattle.c_tree.specs.declared.language.Language.TheVariants.{Full}
use Rattle.c_tree.specs.Elaboration.{typed_program}
use Rattle.c_tree.specs.Exprs as e
use Rattle.c_tree.specs.Programs as p
use Rattle.c_tree.specs.Flats as f
use Rattle.c_tree.specs.References.{RefersUpTo, IsReferred, IsFlatReferring, RefersTo}
use Rattle.c_tree.specs.Inlining.{flat_form}
use Rattle.c_tree.specs.Ranges.{elements_of}
use Rattle.c_tree.specs.LockDiscipline.{lock_fault}
use Rattle.c_tree.specs.NullReferences.{program_nulls, flat_statements_nulls}
use Rattle.c_tree.specs.WellFormed.{IsExpr, IsWellFormed}
use Rattle.c_tree.specs.Source.{start, source_step, after_from, ended_from}
use Rattle.c_tree.proofs.Samples.{at, int, name, references, null_followed}

abbrev placed : ℕ → e.Expr → e.Placed
placed place x = record { place = at place; expr = x }

abbrev null : e.Expr
null = e.Constant (typed kind.UnsignedLong (pos 0))

abbrev reference : e.Expr
reference = e.Local 0 kind.UnsignedLong

abbrev lock : e.LockName
lock = record { mutex = 0; key = None }

abbrev all_of : List p.Statement → p.Statements
all_of [] = p.no_statement
all_of (x ∷ xs) = p.statement_and x (all_of xs)

abbrev cell : p.Variable
cell = record { name = name (codes "h") 74; guard = p.By 0; kind = kind.UnsignedLong; refers = Some 0; length = None; initial = pos 0 ∷ [] }

-- `mutex m; persistent(m) long a[4] = {10, 20, 30, 40}; persistent(m) ref(a) h; thread t { .. }` with one local, which refers to `a`
abbrev program : List p.Statement → p.Program
program body = record {
  mutexes = record { name = name (codes "m") 6; length = None } ∷ [];
  variables =
      record {
        name = name (codes "a") 28;
        guard = p.By 0;
        kind = kind.Long;
        refers = None;
        length = Some 4;
        initial = pos 10 ∷ pos 20 ∷ pos 30 ∷ pos 40 ∷ [];
      } ∷
      cell ∷ [];
  functions = [];
  threads = record { name = name (codes "t") 84; locals = kind.UnsignedLong ∷ []; refers = Some 0 ∷ []; body = all_of body; closing = at 165 } ∷ [];
}

abbrev nulls_of : List p.Statement → List ℕ
nulls_of body = map (λ (x : Place). x.0) (program_nulls (program body))

abbrev set : e.Expr → p.Statement
set x = p.Assign (at 97) (e.ToLocal (at 97) 0 kind.UnsignedLong) (placed 108 x)

-- `*p`
abbrev through : ℕ → e.Expr
through place = e.Element (at place) 0 kind.Long (at place) (e.Referent (at place) 3 0)

-- `*p = *p + 1;`
abbrev change : p.Statement
change =
    p.Assign (at 132) (e.ToElement (at 132) 0 kind.Long (placed 132 (e.Referent (at 132) 3 0)))
    (placed 137 (e.Binary b.Add (through 137) (e.Constant (int 1))))

abbrev if_so : e.Expr → List p.Statement → List p.Statement → p.Statement
if_so condition body otherwise = p.If (at 115) (p.arm_and (placed 119 condition) (all_of body) p.no_arm) (all_of otherwise)

abbrev not_null : e.Expr
not_null = e.Binary b.NotEqual reference null

abbrev keep : p.Statement
keep = p.Assign (at 147) (e.ToVariable (at 147) 1 kind.UnsignedLong) (placed 151 reference)

-- `lock(m); ref(a) p = &a[2]; if (p != null) { *p = *p + 1; } h = p; unlock(m);`
abbrev whole : List p.Statement
whole =
    p.Lock (at 88) lock ∷ set (e.Address 0 (at 111) (e.Constant (int 2))) ∷ if_so not_null (change ∷ []) [] ∷ keep ∷ p.Unlock (at 154) lock ∷ []

whole_run : (after_from (start (flat_form (program whole))) (replicate 8 0)).variables ≡ (pos 10 ∷ pos 20 ∷ pos 31 ∷ pos 40 ∷ []) ∷ (pos 3 ∷ []) ∷ []
unfolding flat_form source_step reduction.from_least_on reduction.residue
whole_run = refl

whole_ends : ended_from (start (flat_form (program whole))) (replicate 8 0) 0 ≡ 1
unfolding flat_form source_step reduction.from_least_on reduction.residue
whole_ends = refl

whole_disciplined : lock_fault Full (flat_form (program whole)) ≡ None
unfolding flat_form lock_fault reduction.from_least_on
whole_disciplined = refl

never_null : nulls_of whole ≡ []
never_null = refl

-- the text becomes this program
whole_read : typed_program references ≡ program whole
unfolding typed_program reduction.from_least_on
whole_read = refl

read_null : map (λ (x : Place). x.0) (program_nulls (typed_program null_followed)) ≡ 71 ∷ []
unfolding typed_program reduction.from_least_on
read_null = refl

-- in the flat form, too
flat_null : flat_map (λ (x : f.Thread). map (λ (y : Place). y.0) (flat_statements_nulls [] x.body)) (flat_form (typed_program null_followed)).threads ≡ 71 ∷ []
unfolding flat_form typed_program reduction.from_least_on
flat_null = refl

flat_never_null : flat_map (λ (x : f.Thread). flat_statements_nulls [] x.body) (flat_form (typed_program references)).threads ≡ []
unfolding flat_form typed_program reduction.from_least_on
flat_never_null = refl

-- every reference is to the array that it is said to refer to
a_referred : IsReferred (program whole).variables 0
a_referred = record { it = _; found = refl; array = refl; mutex = 0; guard = refl }

followed : RefersUpTo (program whole).variables (Some 0 ∷ []) 3 0
followed = record { variable = 0; refers = refl; length = refl }

whole_refers : IsFlatReferring (flat_form (program whole))
unfolding flat_form
whole_refers = record {
  variables = ((tt, tt), ((a_referred, (refl, (refl, tt))), tt));
  threads = (
    record {
      locals = (refl, tt);
      refer = (a_referred, tt);
      body = (
        tt,
        (
          (tt, tt, refl),
          (
            ((((tt, tt), ((followed, (followed, tt), tt), tt), tt)), tt),
            ((tt, tt, refl), (tt, tt)),
          ),
        ),
      );
      never_null = refl;
    },
    tt,
  );
}

-- a local that refers to nothing, and the last element of another array
refers_nowhere : ¬ (RefersUpTo (program whole).variables (None ∷ []) 3 0)
refers_nowhere h = none-some h.variable (same_Some None (Some h.variable) h.refers)

other_last : ¬ (RefersUpTo (program whole).variables (Some 0 ∷ []) 2 0)
other_last h =
    let own : 0 ≡ h.variable = same_Some 0 h.variable (same_Some (Some 0) (Some h.variable) h.refers) in
    let long : 4 ≡ 3 = subst (λ (k : ℕ). elements_of (program whole).variables k ≡ 3) (sym own) h.length in
    absurd (omega (arith, long))

-- null is given to a reference, and one to an element of its array; a number and one to another array aren't
abbrev To : (array : ℕ) → e.Expr → Type 0
To array x = RefersTo (program whole).variables (Some 0 ∷ []) array x

null_given : To 0 (e.Constant (typed kind.UnsignedLong (pos 0)))
null_given = refl

element_given : To 0 (e.Address 0 (at 1) (e.Constant (int 2)))
element_given = refl

other_given : ¬ (To 1 (e.Address 0 (at 1) (e.Constant (int 2))))
other_given h = cc

number_given : ¬ (To 0 (e.Constant (int 1)))
number_given h = cc

-- one is to an element of a guarded array, and what is followed is an `unsigned long`
abbrev Formed : List Kind → e.Expr → Type 0
Formed ks x = IsExpr (program whole).variables ks x

address_formed : Formed [] (e.Address 0 (at 1) (e.Constant (int 2)))
address_formed = (a_referred, tt)

address_unformed : ¬ (Formed [] (e.Address 1 (at 1) (e.Constant (int 0))))
address_unformed h =
    let same : cell ≡ h.0.it = same_Some cell h.0.it h.0.found in
    let some : is_some cell.length ≡ true = ap (λ (v : p.Variable). is_some v.length) same ∙ h.0.array in
    cc

through_formed : Formed (kind.UnsignedLong ∷ []) (through 137)
through_formed = (record { it = _; found = refl; kind = refl; array = refl }, refl)

through_unformed : ¬ (Formed (kind.Long ∷ []) (through 137))
through_unformed h = let kinds : Some kind.Long ≡ Some kind.UnsignedLong = h.1 in cc

-- a form with references is well formed
whole_formed : IsWellFormed (flat_form (program whole))
unfolding flat_form reduction.from_least_on
whole_formed = record {
  shared = record {
    mutexes = omega arith;
    threads = omega arith;
    variables = (
      record {
        guarded = record { it = _; found = refl; single = refl };
        not_empty = omega arith;
        not_too_long = omega arith;
        count = refl;
        held = (
          Holds-reduced kind.Long (pos 10),
          (Holds-reduced kind.Long (pos 20), (Holds-reduced kind.Long (pos 30), (Holds-reduced kind.Long (pos 40), tt))),
        );
      },
      (
        record {
          guarded = record { it = _; found = refl; single = refl };
          not_empty = omega arith;
          not_too_long = omega arith;
          count = refl;
          held = (Holds-zero kind.UnsignedLong, tt);
        },
        tt,
      ),
    );
    bytes = omega arith;
  };
  threads = (
    (
      record { it = _; found = refl; single = refl },
      (
        ((refl, tt), ((a_referred, tt), (refl, tt))),
        (
          (
            tt,
            (
              ((refl, tt), (tt, tt)),
              (
                (
                  ((record { it = _; found = refl; kind = refl; array = refl }, refl), (refl, tt)),
                  (((record { it = _; found = refl; kind = refl; array = refl }, refl), tt), ((refl, tt), tt)),
                ),
                tt,
              ),
              tt,
            ),
            tt,
          ),
          (
            ((record { it = _; found = refl; kind = refl; array = refl }, tt), (refl, tt)),
            (record { it = _; found = refl; single = refl }, tt),
          ),
        ),
      ),
    ),
    tt,
  );
  referring = whole_refers;
}

-- `null != p` says it, too
other_way : nulls_of (if_so (e.Binary b.NotEqual null reference) (change ∷ []) [] ∷ []) ≡ []
other_way = refl

-- outside of such a block, in the target and in the value
outside : nulls_of (change ∷ []) ≡ 132 ∷ 137 ∷ []
outside = refl

-- in the part after `else`
otherwise : nulls_of (if_so not_null [] (change ∷ []) ∷ []) ≡ 132 ∷ 137 ∷ []
otherwise = refl

-- in the block of an `else if`
else_if : nulls_of (p.If (at 100) (p.arm_and (placed 104 null) p.no_statement (p.arm_and (placed 119 not_null) (all_of (change ∷ [])) p.no_arm))
    p.no_statement ∷ []) ≡ 132 ∷ 137 ∷ []
else_if = refl

-- `p == null`, and `p != null && 1`, say nothing
other_condition : nulls_of (if_so (e.Binary b.Equal reference null) (change ∷ []) [] ∷ []) ≡ 132 ∷ 137 ∷ []
other_condition = refl

more_condition : nulls_of (if_so (e.Binary b.LogicalAnd not_null (e.Constant (int 1))) (change ∷ []) [] ∷ []) ≡ 132 ∷ 137 ∷ []
more_condition = refl

-- a block that assigns the reference anywhere, also after it
assigned_later : nulls_of (if_so not_null (change ∷ set null ∷ []) [] ∷ []) ≡ 132 ∷ 137 ∷ []
assigned_later = refl

-- one that does, in a block inside, within one that doesn't by itself
assigned_inside : nulls_of (if_so not_null (change ∷ if_so not_null (set null ∷ []) [] ∷ []) [] ∷ []) ≡ 132 ∷ 137 ∷ []
assigned_inside = refl

-- a block inside one that assigns it says it again
said_again : nulls_of (if_so not_null (if_so not_null (change ∷ []) [] ∷ set null ∷ []) [] ∷ []) ≡ []
said_again = refl

-- `mutex m; persistent(m) long a[4]; thread t { ref(a) p = null; lock(m); *p = 1; unlock(m); }`
unsaid : nulls_of (set null ∷ p.Lock (at 62) lock ∷
    p.Assign (at 71) (e.ToElement (at 71) 0 kind.Long (placed 71 (e.Referent (at 71) 3 0))) (placed 76 (e.Constant (int 1))) ∷
    p.Unlock (at 79) lock ∷ []) ≡ 71 ∷ []
unsaid = refl

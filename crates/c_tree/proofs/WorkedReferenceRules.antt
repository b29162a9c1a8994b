-- Worked rows: rules of names and kinds of references.
use Rattle.std.proofs.Common.{◌≡◌, ℕ, List, [], ◌∷◌, Some, None, true, refl}
use Rattle.std.specs.Prelude.{codes}
use Rattle.ido_ints.specs.declared.kinds.Kind.TheVariants as kind
use Rattle.ido_ints.specs.declared.operators.Unary.TheVariants as u
use Rattle.ido_ints.specs.declared.operators.Binary.TheVariants as b
use Rattle.c_tree.specs.declared.language.Language.TheVariants.{Full}
use Rattle.c_tree.specs.declared.rule.Rule as r
use Rattle.c_tree.specs.declared.rule.Rule.TheVariants as rule
use Rattle.c_tree.specs.LexicalScan.{Fault}
use Rattle.c_tree.specs.Trees as t
use Rattle.c_tree.specs.TypeRules.{type_faults}
use Rattle.c_tree.proofs.Samples.{at, int, name, block, scalar, element, assignment, length_at, persistent, thread, signed, through, ref_to, ref_declaration}
use Rattle.c_tree.proofs.Samples.{ref_variable}

abbrev at_rule : r.Rule → ℕ → Fault
at_rule found place = record { rule = found; place = at place }

abbrev a : ℕ → t.Name
a place = name (codes "a") place

abbrev p : ℕ → t.Name
p place = name (codes "p") place

abbrev x : ℕ → t.Name
x place = name (codes "x") place

abbrev one : ℕ → t.Expression
one place = t.Number (at place) (int 1)

-- `mutex m; mutex k[2]; persistent(m) long a[4]; persistent(m) long b[4]; persistent(k[]) long c[2]; persistent(m) long x; persistent(m) ref(a) h;` and more,
-- and
-- a thread that begins with `ref(a) p;`
abbrev program : List t.Item → List t.Statement → List t.Item
program more inside =
    t.MutexItem (name (codes "m") 6) None ∷
    t.MutexItem (name (codes "k") 15) (Some (length_at 17 (int 2))) ∷
    persistent (name (codes "m") 32) kind.Long (a 40) (Some (length_at 42 (int 4))) None ∷
    persistent (name (codes "m") 57) kind.Long (name (codes "b") 65) (Some (length_at 67 (int 4))) None ∷
    t.PersistentItem (record {
      guard = record { mutex = name (codes "k") 82; each = true };
      type_name = t.OfKind kind.Long;
      name = name (codes "c") 92;
      length = Some (length_at 94 (int 2));
      initialiser = None;
    }) ∷
    persistent (name (codes "m") 109) kind.Long (x 117) None None ∷
    ref_variable (name (codes "m") 131) (ref_to (codes "a") 138) (name (codes "h") 141) None None ∷
    thread (name (codes "t") 200) (block 202 (t.Declare (ref_declaration 204 (ref_to (codes "a") 208) (p 211) t.Absent) ∷ inside) 300) ∷ more

abbrev faults : List t.Statement → List Fault
faults inside = type_faults Full (program [] inside)

abbrev set : t.Lvalue → t.Expression → t.Statement
set target value = t.Assign (assignment 220 target (t.Set value))

-- an address, a reference in parentheses, an element of an array of references, null
right : faults (set (scalar (p 220)) (t.Address (at 224) (a 225) (one 227)) ∷
    set (scalar (p 230)) (t.Parenthesised (at 234) (t.Named (name (codes "h") 235))) ∷ set (scalar (p 240)) (t.Null (at 244)) ∷
    set (through 250 (p 251)) (t.Binary b.Add (t.Referent (at 254) (p 255)) (one 258)) ∷ []) ≡ []
unfolding type_faults
right = refl

-- a reference to an element of another array, a number
other_array : faults (set (scalar (p 220)) (t.Address (at 224) (name (codes "b") 225) (one 227)) ∷ []) ≡ at_rule rule.WrongSort 220 ∷ []
unfolding type_faults
other_array = refl

number : faults (set (scalar (p 220)) (one 224) ∷ []) ≡ at_rule rule.WrongSort 220 ∷ []
unfolding type_faults
number = refl

-- a reference as a number: at the name, `&`, `null`
added : faults (set (scalar (x 220)) (t.Binary b.Add (t.Named (p 224)) (one 228)) ∷ []) ≡ at_rule rule.WrongSort 224 ∷ []
unfolding type_faults
added = refl

address_given : faults (set (scalar (x 220)) (t.Address (at 224) (a 225) (one 227)) ∷ []) ≡ at_rule rule.WrongSort 224 ∷ []
unfolding type_faults
address_given = refl

null_given : faults (set (scalar (x 220)) (t.Null (at 224)) ∷ []) ≡ at_rule rule.WrongSort 224 ∷ []
unfolding type_faults
null_given = refl

indexed : faults (set (element (a 220) (t.Named (p 222))) (one 227) ∷ []) ≡ at_rule rule.WrongSort 222 ∷ []
unfolding type_faults
indexed = refl

negated : faults (set (scalar (x 220)) (t.Unary (at 224) u.Minus (t.Named (p 225))) ∷ []) ≡ at_rule rule.WrongSort 225 ∷ []
unfolding type_faults
negated = refl

condition : faults (t.While (at 220) (t.Named (p 227)) (block 230 [] 231) ∷ []) ≡ at_rule rule.WrongSort 227 ∷ []
unfolding type_faults
condition = refl

counted_up : faults (t.Assign (assignment 220 (scalar (p 220)) t.Increment) ∷ []) ≡ at_rule rule.WrongSort 220 ∷ []
unfolding type_faults
counted_up = refl

-- compared with null, with a reference to the same array, with a number, with one to another array
compared : faults (set (scalar (x 220)) (t.Binary b.Equal (t.Named (p 224)) (t.Null (at 229))) ∷
    set (scalar (x 240)) (t.Binary b.NotEqual (t.Named (p 244)) (t.Named (name (codes "h") 249))) ∷ []) ≡ []
unfolding type_faults
compared = refl

compared_with_number : faults (set (scalar (x 220)) (t.Binary b.Equal (t.Named (p 224)) (one 229)) ∷ []) ≡ at_rule rule.WrongSort 224 ∷ []
unfolding type_faults
compared_with_number = refl

compared_with_other : faults (set (scalar (x 220)) (t.Binary b.Equal (t.Named (p 224)) (t.Address (at 229) (name (codes "b") 230) (one 232))) ∷ []) ≡
    at_rule rule.WrongSort 224 ∷ at_rule rule.WrongSort 229 ∷ []
unfolding type_faults
compared_with_other = refl

less : faults (set (scalar (x 220)) (t.Binary b.Less (t.Named (p 224)) (t.Null (at 229))) ∷ []) ≡ at_rule rule.WrongSort 224 ∷ at_rule rule.WrongSort 229 ∷ []
unfolding type_faults
less = refl

-- only a local that is a reference is followed
number_followed : faults (set (through 220 (x 221)) (one 225) ∷ []) ≡ at_rule rule.WrongSort 221 ∷ []
unfolding type_faults
number_followed = refl

variable_followed : faults (set (scalar (x 220)) (t.Referent (at 224) (name (codes "h") 225)) ∷ []) ≡ at_rule rule.WrongSort 225 ∷ []
unfolding type_faults
variable_followed = refl

-- a key takes no address, and follows no reference; whether a local is null it may ask
key_takes_address : faults (t.Lock (at 220) (name (codes "k") 225) (Some (t.Binary b.Equal (t.Named (p 227)) (t.Address (at 232) (a 233) (one 235)))) ∷ []) ≡
    at_rule rule.WrongSort 233 ∷ []
unfolding type_faults
key_takes_address = refl

key_follows : faults (t.Lock (at 220) (name (codes "k") 225) (Some (t.Referent (at 227) (p 228))) ∷ []) ≡ at_rule rule.WrongSort 227 ∷ []
unfolding type_faults
key_follows = refl

key_asks : faults (t.Lock (at 220) (name (codes "k") 225) (Some (t.Binary b.Equal (t.Named (p 227)) (t.Null (at 232)))) ∷ []) ≡ []
unfolding type_faults
key_asks = refl

-- references to elements of what is no array, of an array whose elements have mutexes of their own, of what isn't known
to_scalar : faults (t.Declare (ref_declaration 220 (ref_to (codes "x") 224) (name (codes "q") 227) t.Absent) ∷ []) ≡ at_rule rule.WrongSort 224 ∷ []
unfolding type_faults
to_scalar = refl

to_each : faults (t.Declare (ref_declaration 220 (ref_to (codes "c") 224) (name (codes "q") 227) t.Absent) ∷ []) ≡ at_rule rule.WrongSort 224 ∷ []
unfolding type_faults
to_each = refl

to_unknown : faults (t.Declare (ref_declaration 220 (ref_to (codes "u") 224) (name (codes "q") 227) t.Absent) ∷ []) ≡ at_rule rule.Unknown 224 ∷ []
unfolding type_faults
to_unknown = refl

-- a local hides an array
to_local : faults (t.Declare (ref_declaration 220 (t.OfKind kind.Int) (a 224) t.Absent) ∷
    t.Declare (ref_declaration 230 (ref_to (codes "a") 234) (name (codes "q") 237) t.Absent) ∷ []) ≡ at_rule rule.WrongSort 234 ∷ []
unfolding type_faults
to_local = refl

-- references begin as null, without initialiser
initialised : type_faults Full (program (
    ref_variable (name (codes "m") 320) (ref_to (codes "a") 327) (name (codes "g") 330) None (Some (t.Single (signed 334 true (int 1)))) ∷
    ref_variable (name (codes "m") 350) (ref_to (codes "a") 357) (name (codes "e") 360) (Some (length_at 362 (int 2))) (Some (t.InBraces (at 367) [])) ∷ []) [])
    ≡
    at_rule rule.WrongSort 334 ∷ at_rule rule.WrongSort 367 ∷ []
unfolding type_faults
initialised = refl

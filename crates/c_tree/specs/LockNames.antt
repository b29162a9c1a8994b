-- The names by which a thread takes locks, each with a number, and sets of them.
use Rattle.std.specs.Prelude.{ℕ, zero, suc, List, [], ◌∷◌, ◌++◌, filter, replicate, slice_index_or, Option, Some, None, Bool, true, false}
use Rattle.std.specs.Prelude.{◌&&◌, ◌==◌, if◌then◌else◌}
use Rattle.std.specs.List.{list_any}
use Rattle.std.specs.Ordering.{int_eq}
use Rattle.ido_ints.specs.declared.kinds.Kind as k
use Rattle.ido_ints.specs.declared.kinds.Kind.TheVariants as kind
use Rattle.ido_ints.specs.declared.operators.Unary as un
use Rattle.ido_ints.specs.declared.operators.Unary.TheVariants as u
use Rattle.ido_ints.specs.declared.operators.Binary as bin
use Rattle.ido_ints.specs.declared.operators.Binary.TheVariants as b
use Rattle.ido_ints.specs.TypedNumbers.{Typed}
use Rattle.c_tree.specs.Exprs as e
use Rattle.c_tree.specs.Programs.{Mutex}
use Rattle.c_tree.specs.Flats as f

-- ---- One typed tree over the same locals: keys read no variables

abbrev pub kind_number : k.Kind → ℕ
kind_number kind.Char = 0
kind_number kind.UnsignedChar = 1
kind_number kind.SignedChar = 2
kind_number kind.Short = 3
kind_number kind.UnsignedShort = 4
kind_number kind.Int = 5
kind_number kind.UnsignedInt = 6
kind_number kind.Long = 7
kind_number kind.UnsignedLong = 8

abbrev pub unary_number : un.Unary → ℕ
unary_number u.Plus = 0
unary_number u.Minus = 1
unary_number u.Complement = 2
unary_number u.Not = 3

abbrev pub binary_number : bin.Binary → ℕ
binary_number b.LogicalOr = 0
binary_number b.LogicalAnd = 1
binary_number b.Or = 2
binary_number b.Xor = 3
binary_number b.And = 4
binary_number b.Equal = 5
binary_number b.NotEqual = 6
binary_number b.Less = 7
binary_number b.Greater = 8
binary_number b.LessEqual = 9
binary_number b.GreaterEqual = 10
binary_number b.ShiftLeft = 11
binary_number b.ShiftRight = 12
binary_number b.Add = 13
binary_number b.Sub = 14
binary_number b.Mul = 15
binary_number b.Div = 16
binary_number b.Rem = 17

abbrev pub same_kind : k.Kind → k.Kind → Bool
same_kind j k = kind_number j == kind_number k

abbrev pub same_typed : Typed → Typed → Bool
same_typed x y = same_kind x.kind y.kind && int_eq x.number y.number

abbrev pub same_expr : e.Expr → e.Expr → Bool
same_expr (e.Constant x) other = elim other [ e.Constant y ↦ same_typed x y | _ ↦ false ]
same_expr (e.Local local k) other = elim other [ e.Local number j ↦ (local == number) && same_kind k j | _ ↦ false ]
same_expr (e.Variable place variable k) other = false
same_expr (e.Element place variable k index_place index) other = false
same_expr (e.Address variable index_place x) other = elim other [ e.Address number at y ↦ (variable == number) && same_expr x y | _ ↦ false ]
same_expr (e.Referent place last local) other = elim other [ e.Referent at end number ↦ (last == end) && (local == number) | _ ↦ false ]
same_expr (e.Unary operator x) other = elim other [ e.Unary o y ↦ (unary_number operator == unary_number o) && same_expr x y | _ ↦ false ]
same_expr (e.Cast k x) other = elim other [ e.Cast j y ↦ same_kind k j && same_expr x y | _ ↦ false ]
same_expr (e.Converted k x) other = elim other [ e.Converted j y ↦ same_kind k j && same_expr x y | _ ↦ false ]
same_expr (e.Binary operator x y) other = elim other [
  | e.Binary o v w ↦ (binary_number operator == binary_number o) && (same_expr x v && same_expr y w)
  | _ ↦ false
]
same_expr (e.Conditional k x y z) other = elim other [
  | e.Conditional j u v w ↦ same_kind k j && (same_expr x u && (same_expr y v && same_expr z w))
  | _ ↦ false
]

abbrev pub same_key : Option e.Placed → Option e.Placed → Bool
same_key None None = true
same_key None (Some y) = false
same_key (Some x) None = false
same_key (Some x) (Some y) = same_expr x.expr y.expr

-- two spellings of one name, wherever they stand
abbrev pub same_lock : e.LockName → e.LockName → Bool
same_lock x y = (x.mutex == y.mutex) && same_key x.key y.key

-- ---- The names of a thread

-- the names that statements lock, in the order of the text
abbrev mutual
  pub locks_in : f.Statement → List e.LockName
  locks_in (f.Assign place target value) = []
  locks_in (f.If place arms otherwise) = locks_in_arms arms ++ locks_in_all otherwise
  locks_in (f.While place condition body) = locks_in_all body
  locks_in (f.Do place body condition) = locks_in_all body
  locks_in (f.Lock place lock) = lock ∷ []
  locks_in (f.Unlock place lock) = []

  pub locks_in_all : f.Statements → List e.LockName
  locks_in_all f.no_statement = []
  locks_in_all (f.statement_and x rest) = locks_in x ++ locks_in_all rest

  pub locks_in_arms : f.Arms → List e.LockName
  locks_in_arms f.no_arm = []
  locks_in_arms (f.arm_and condition body rest) = locks_in_all body ++ locks_in_arms rest

-- each name once, where it stands first
abbrev pub once : (before : List e.LockName) → List e.LockName → List e.LockName
once before [] = []
once before (x ∷ xs) = if list_any (same_lock x) before then once before xs else x ∷ once (x ∷ before) xs

-- by the numbers of their mutexes, from that one on: each mutex that is in no array, and of an array those that are in the list, in its order
abbrev pub names_from : (number : ℕ) → List Mutex → List e.LockName → List e.LockName
names_from n [] xs = []
names_from n (m ∷ ms) xs = elim m.length [
  | None ↦ record { mutex = n; key = None } ∷ names_from (suc n) ms xs
  | Some count ↦ filter (λ (x : e.LockName). x.mutex == n) xs ++ names_from (suc n) ms xs
]

-- the names of a thread's locks
abbrev pub lock_names : f.Flat → f.Thread → List e.LockName
lock_names x t = names_from 0 x.mutexes (once [] (locks_in_all t.body))

-- the number of a name; past all of them where it isn't there
abbrev pub number_in : List e.LockName → e.LockName → ℕ
number_in [] x = 0
number_in (y ∷ ys) x = if same_lock x y then 0 else suc (number_in ys x)

-- ---- Sets

-- of each name whether its lock is held
abbrev pub Held : Type 0
Held = List Bool

abbrev pub holds : Held → (name : ℕ) → Bool
holds h name = slice_index_or h name false

abbrev pub none_held : (names : ℕ) → Held
none_held names = replicate names false

abbrev pub count_held : Held → ℕ
count_held [] = 0
count_held (held ∷ h) = if held then suc (count_held h) else count_held h

-- the names that are held
abbrev pub held_names : List e.LockName → Held → List e.LockName
held_names [] h = []
held_names (x ∷ xs) [] = []
held_names (x ∷ xs) (held ∷ h) = if held then x ∷ held_names xs h else held_names xs h

-- ---- Where no mutex is in an array

-- the names of so many mutexes, from that number on
abbrev pub plain_from : (number count : ℕ) → List e.LockName
plain_from n zero = []
plain_from n (suc count) = record { mutex = n; key = None } ∷ plain_from (suc n) count

-- the names of all of so many mutexes
abbrev pub plain_names : (count : ℕ) → List e.LockName
plain_names count = plain_from 0 count

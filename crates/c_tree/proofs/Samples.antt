-- Texts as trees, for worked rows. A number before a part is its place.
use Rattle.std.proofs.Common.{ℕ, List, [], ◌∷◌, Option, Some, None, Bool, true, false}
use Rattle.std.specs.Prelude.{pos, codes}
use Rattle.std.specs.Option.{option_map}
use Rattle.ido_base.specs.declared.place.Place.{Place}
use Rattle.ido_ints.specs.declared.kinds.Kind.{Kind}
use Rattle.ido_ints.specs.declared.kinds.Kind.TheVariants as kind
use Rattle.ido_ints.specs.declared.operators.Unary.TheVariants as u
use Rattle.ido_ints.specs.declared.operators.Binary.TheVariants as b
use Rattle.ido_ints.specs.TypedNumbers.{Typed, typed}
use Rattle.c_tree.specs.Trees as t

abbrev pub at : ℕ → Place
at place = record { 0 = place }

abbrev pub int : ℕ → Typed
int n = typed kind.Int (pos n)

abbrev pub name : List ℕ → ℕ → t.Name
name text place = record { text = text; place = at place }

abbrev pub all_of : List t.Statement → t.Statements
all_of [] = t.no_statement
all_of (x ∷ xs) = t.statement_and x (all_of xs)

abbrev pub block : ℕ → List t.Statement → ℕ → t.Block
block opening xs closing = t.Braced (at opening) (all_of xs) (at closing)

abbrev pub scalar : t.Name → t.Lvalue
scalar x = t.Target x None

abbrev pub element : t.Name → t.Expression → t.Lvalue
element x index = t.Target x (Some index)

abbrev pub assignment : ℕ → t.Lvalue → t.Change → t.Assignment
assignment place target change = record { place = at place; target = target; change = change }

abbrev pub call : t.Name → List t.Expression → t.Call
call x arguments = record { function = x; arguments = arguments }

abbrev pub declaration : ℕ → Kind → t.Name → t.Initial → t.Declaration
declaration place kind x initial = record { place = at place; type_name = t.OfKind kind; name = x; initial = initial }

abbrev pub signed : ℕ → Bool → Typed → t.Signed
signed place negative value = record { place = at place; negative = negative; value = value }

abbrev pub length_at : ℕ → Typed → t.Length
length_at place value = record { place = at place; value = value }

abbrev pub persistent : t.Name → Kind → t.Name → Option t.Length → Option t.Initialiser → t.Item
persistent guard kind x length initialiser =
    t.PersistentItem
    (record { guard = record { mutex = guard; each = false }; type_name = t.OfKind kind; name = x; length = length; initialiser = initialiser })

abbrev pub thread : t.Name → t.Block → t.Item
thread x inside = t.ThreadItem (record { name = x; block = inside })

abbrev pub parameter : Kind → t.Name → t.Parameter
parameter kind x = record { type_name = t.OfKind kind; name = x }

abbrev pub return_at : ℕ → Option t.Expression → t.Return
return_at place value = record { place = at place; value = value }

abbrev pub function : Option Kind → t.Name → List t.Parameter → ℕ → List t.Statement → Option t.Return → ℕ → t.Item
function kind x parameters opening inside returned closing =
    t.FunctionItem (record {
      type_name = option_map t.OfKind kind;
      name = x;
      parameters = parameters;
      body = record { opening = at opening; statements = all_of inside; returned = returned; closing = at closing };
    })

-- `mutex m; persistent(m) int a = 2147483647; persistent(m) int b = 7; persistent(m) int c; persistent(m) int d; persistent(m) int z; persistent(m) int e = 1;
-- thread t { lock(m); a = a + 1; c = b / z; d = b % z; b = a / (z - 1); e = -1 < 1u; unlock(m); }`
abbrev pub operators : List t.Item
operators =
    t.MutexItem (name (codes "m") 6) None ∷
    persistent (name (codes "m") 20) kind.Int (name (codes "a") 27) None (Some (t.Single (signed 31 false (int 2147483647)))) ∷
    persistent (name (codes "m") 54) kind.Int (name (codes "b") 61) None (Some (t.Single (signed 65 false (int 7)))) ∷
    persistent (name (codes "m") 79) kind.Int (name (codes "c") 86) None None ∷
    persistent (name (codes "m") 100) kind.Int (name (codes "d") 107) None None ∷
    persistent (name (codes "m") 121) kind.Int (name (codes "z") 128) None None ∷
    persistent (name (codes "m") 142) kind.Int (name (codes "e") 149) None (Some (t.Single (signed 153 false (int 1)))) ∷
    thread (name (codes "t") 163) (block 165 (t.Lock (at 167) (name (codes "m") 172) None ∷
    t.Assign (assignment 176 (scalar (name (codes "a") 176)) (t.Set (t.Binary b.Add (t.Named (name (codes "a") 180)) (t.Number (at 184) (int 1))))) ∷
    t.Assign (assignment 187 (scalar (name (codes "c") 187)) (t.Set (t.Binary b.Div (t.Named (name (codes "b") 191)) (t.Named (name (codes "z") 195))))) ∷
    t.Assign (assignment 198 (scalar (name (codes "d") 198)) (t.Set (t.Binary b.Rem (t.Named (name (codes "b") 202)) (t.Named (name (codes "z") 206))))) ∷
    t.Assign (assignment 209 (scalar (name (codes "b") 209))
    (t.Set (t.Binary b.Div (t.Named (name (codes "a") 213))
    (t.Parenthesised (at 217) (t.Binary b.Sub (t.Named (name (codes "z") 218)) (t.Number (at 222) (int 1))))))) ∷
    t.Assign (assignment 226 (scalar (name (codes "e") 226))
    (t.Set (t.Binary b.Less (t.Unary (at 230) u.Minus (t.Number (at 231) (int 1))) (t.Number (at 235) (typed kind.UnsignedInt (pos 1)))))) ∷
    t.Unlock (at 239) (name (codes "m") 246) None ∷ []) 250) ∷
    []

-- `mutex m; persistent(m) unsigned char a[8] = {1, 2, 3}; thread t { lock(m); a[1] = a[0] + 255; a[2] = 300; unlock(m); }`
abbrev pub bytes : List t.Item
bytes =
    t.MutexItem (name (codes "m") 6) None ∷
    persistent (name (codes "m") 20) kind.UnsignedChar (name (codes "a") 37) (Some (length_at 39 (int 8)))
    (Some (t.InBraces (at 44) (signed 45 false (int 1) ∷ signed 48 false (int 2) ∷ signed 51 false (int 3) ∷ []))) ∷
    thread (name (codes "t") 62) (block 64 (t.Lock (at 66) (name (codes "m") 71) None ∷
    t.Assign (assignment 75 (element (name (codes "a") 75) (t.Number (at 77) (int 1)))
    (t.Set (t.Binary b.Add (t.Element (name (codes "a") 82) (t.Number (at 84) (int 0))) (t.Number (at 89) (int 255))))) ∷
    t.Assign (assignment 94 (element (name (codes "a") 94) (t.Number (at 96) (int 2))) (t.Set (t.Number (at 101) (int 300)))) ∷
    t.Unlock (at 106) (name (codes "m") 113) None ∷ []) 117) ∷
    []

-- `mutex m; thread t { lock(m); unlock(m); } thread u { lock(m); unlock(m); }`
abbrev pub two_threads : List t.Item
two_threads =
    t.MutexItem (name (codes "m") 6) None ∷
    thread (name (codes "t") 16) (block 18 (t.Lock (at 20) (name (codes "m") 25) None ∷ t.Unlock (at 29) (name (codes "m") 36) None ∷ []) 40) ∷
    thread (name (codes "u") 49) (block 51 (t.Lock (at 53) (name (codes "m") 58) None ∷ t.Unlock (at 62) (name (codes "m") 69) None ∷ []) 73) ∷
    []

-- `mutex m; persistent(m) long x; int twice(int v) { int w = v + v; return w; }
-- thread t { for (int i = 0; i < 2; i++) { lock(m); x = twice(i); unlock(m); } do { } while (0); }`
abbrev pub calls : List t.Item
calls =
    t.MutexItem (name (codes "m") 6) None ∷
    persistent (name (codes "m") 20) kind.Long (name (codes "x") 28) None None ∷
    function (Some kind.Int) (name (codes "twice") 35) (parameter kind.Int (name (codes "v") 45) ∷ []) 48
    (t.Declare (declaration 50 kind.Int (name (codes "w") 54) (t.Value (t.Binary b.Add (t.Named (name (codes "v") 58)) (t.Named (name (codes "v") 62))))) ∷ [])
    (Some (return_at 65 (Some (t.Named (name (codes "w") 72))))) 75 ∷
    thread (name (codes "t") 84) (block 86 (t.For (at 88) (t.Declared (declaration 93 kind.Int (name (codes "i") 97) (t.Value (t.Number (at 101) (int 0)))))
    (Some (t.Binary b.Less (t.Named (name (codes "i") 104)) (t.Number (at 108) (int 2)))) (Some (assignment 111 (scalar (name (codes "i") 111)) t.Increment))
    (block 116 (t.Lock (at 118) (name (codes "m") 123) None ∷
    t.AssignResult (scalar (name (codes "x") 127)) (call (name (codes "twice") 131) (t.Named (name (codes "i") 137) ∷ [])) ∷
    t.Unlock (at 141) (name (codes "m") 148) None ∷ []) 152) ∷
    t.Do (at 154) (block 157 [] 159) (t.Number (at 168) (int 0)) ∷ []) 172) ∷
    []

-- `int one() { int k = 1; return k; } thread t { int a = one(); int b = one(); }`
abbrev pub fresh : List t.Item
fresh =
    function (Some kind.Int) (name (codes "one") 4) [] 10 (t.Declare (declaration 12 kind.Int (name (codes "k") 16) (t.Value (t.Number (at 20) (int 1)))) ∷ [])
    (Some (return_at 23 (Some (t.Named (name (codes "k") 30))))) 33 ∷
    thread (name (codes "t") 42) (block 44 (t.Declare (declaration 46 kind.Int (name (codes "a") 50) (t.Result (call (name (codes "one") 54) []))) ∷
    t.Declare (declaration 61 kind.Int (name (codes "b") 65) (t.Result (call (name (codes "one") 69) []))) ∷ []) 76) ∷
    []

-- `void f() { if (1) { g(); } } void g() { f(); } void h() { f(); }`
abbrev pub recursive : List t.Item
recursive =
    function None (name (codes "f") 5) [] 9 (t.If (at 11) (t.arm_and (t.Number (at 15) (int 1))
    (block 18 (t.CallOnly (call (name (codes "g") 20) []) ∷ []) 25) t.no_arm) t.Nothing ∷ []) None 27 ∷
    function None (name (codes "g") 34) [] 38 (t.CallOnly (call (name (codes "f") 40) []) ∷ []) None 45 ∷
    function None (name (codes "h") 52) [] 56 (t.CallOnly (call (name (codes "f") 58) []) ∷ []) None 63 ∷
    []

-- `thread t { int a = 1; { long a = a; a++; } a += 2u; for (int a = 0; ; ) { } }`
abbrev pub scopes : List t.Item
scopes =
    thread (name (codes "t") 7) (block 9 (t.Declare (declaration 11 kind.Int (name (codes "a") 15) (t.Value (t.Number (at 19) (int 1)))) ∷
    t.BlockOf (block 22 (t.Declare (declaration 24 kind.Long (name (codes "a") 29) (t.Value (t.Named (name (codes "a") 33)))) ∷
    t.Assign (assignment 36 (scalar (name (codes "a") 36)) t.Increment) ∷ []) 41) ∷
    t.Assign (assignment 43 (scalar (name (codes "a") 43)) (t.Update b.Add (t.Number (at 48) (typed kind.UnsignedInt (pos 2))))) ∷
    t.For (at 52) (t.Declared (declaration 57 kind.Int (name (codes "a") 61) (t.Value (t.Number (at 65) (int 0))))) None None (block 72 [] 74) ∷ []) 76) ∷
    []

-- `mutex m; persistent(m) int x; persistent(m) int y;
-- thread t { int i = 0; do { i++; } while (i < 3); lock(m); if (i == 1) { x = 1; } else if (i == 3) { x = i; y--; } else { x = 2; } unlock(m); }`
abbrev pub loops : List t.Item
loops =
    t.MutexItem (name (codes "m") 6) None ∷
    persistent (name (codes "m") 20) kind.Int (name (codes "x") 27) None None ∷
    persistent (name (codes "m") 41) kind.Int (name (codes "y") 48) None None ∷
    thread (name (codes "t") 58) (block 60 (t.Declare (declaration 62 kind.Int (name (codes "i") 66) (t.Value (t.Number (at 70) (int 0)))) ∷
    t.Do (at 73) (block 76 (t.Assign (assignment 78 (scalar (name (codes "i") 78)) t.Increment) ∷ []) 83)
    (t.Binary b.Less (t.Named (name (codes "i") 92)) (t.Number (at 96) (int 3))) ∷
    t.Lock (at 100) (name (codes "m") 105) None ∷
    t.If (at 109) (t.arm_and (t.Binary b.Equal (t.Named (name (codes "i") 113)) (t.Number (at 118) (int 1)))
    (block 121 (t.Assign (assignment 123 (scalar (name (codes "x") 123)) (t.Set (t.Number (at 127) (int 1)))) ∷ []) 130)
    (t.arm_and (t.Binary b.Equal (t.Named (name (codes "i") 141)) (t.Number (at 146) (int 3)))
    (block 149 (t.Assign (assignment 151 (scalar (name (codes "x") 151)) (t.Set (t.Named (name (codes "i") 155)))) ∷
    t.Assign (assignment 158 (scalar (name (codes "y") 158)) t.Decrement) ∷ []) 163) t.no_arm))
    (t.Else (block 170 (t.Assign (assignment 172 (scalar (name (codes "x") 172)) (t.Set (t.Number (at 176) (int 2)))) ∷ []) 179)) ∷
    t.Unlock (at 181) (name (codes "m") 188) None ∷ []) 192) ∷
    []

-- `mutex m; persistent(m) long x; thread t { x = 1; }`
abbrev pub unheld : List t.Item
unheld =
    t.MutexItem (name (codes "m") 6) None ∷
    persistent (name (codes "m") 20) kind.Long (name (codes "x") 28) None None ∷
    thread (name (codes "t") 38) (block 40 (t.Assign (assignment 42 (scalar (name (codes "x") 42)) (t.Set (t.Number (at 46) (int 1)))) ∷ []) 49) ∷
    []

-- `mutex m; persistent(m) long a[2]; persistent(m) long b; thread t { a[b & 1] = a[0]; }`
abbrev pub unheld_element : List t.Item
unheld_element =
    t.MutexItem (name (codes "m") 6) None ∷
    persistent (name (codes "m") 20) kind.Long (name (codes "a") 28) (Some (length_at 30 (int 2))) None ∷
    persistent (name (codes "m") 45) kind.Long (name (codes "b") 53) None None ∷
    thread (name (codes "t") 63) (block 65 (t.Assign (assignment 67
    (element (name (codes "a") 67) (t.Binary b.And (t.Named (name (codes "b") 69)) (t.Number (at 73) (int 1))))
    (t.Set (t.Element (name (codes "a") 78) (t.Number (at 80) (int 0))))) ∷ []) 84) ∷
    []

-- `mutex m; thread t { lock(m); lock(m); }`
abbrev pub again : List t.Item
again =
    t.MutexItem (name (codes "m") 6) None ∷
    thread (name (codes "t") 16) (block 18 (t.Lock (at 20) (name (codes "m") 25) None ∷ t.Lock (at 29) (name (codes "m") 34) None ∷ []) 38) ∷
    []

-- `mutex m; thread t { lock(m); unlock(m); unlock(m); }`
abbrev pub not_held : List t.Item
not_held =
    t.MutexItem (name (codes "m") 6) None ∷
    thread (name (codes "t") 16) (block 18 (t.Lock (at 20) (name (codes "m") 25) None ∷
    t.Unlock (at 29) (name (codes "m") 36) None ∷
    t.Unlock (at 40) (name (codes "m") 47) None ∷ []) 51) ∷
    []

-- `mutex m; thread t { if (1) { lock(m); } }`
abbrev pub join : List t.Item
join =
    t.MutexItem (name (codes "m") 6) None ∷
    thread (name (codes "t") 16) (block 18 (t.If (at 20) (t.arm_and (t.Number (at 24) (int 1))
    (block 27 (t.Lock (at 29) (name (codes "m") 34) None ∷ []) 38) t.no_arm) t.Nothing ∷ []) 40) ∷
    []

-- `mutex k; mutex m; mutex n; thread t { lock(k); if (1) { lock(n); } else if (2) { lock(m); } else { } }`
abbrev pub least_join : List t.Item
least_join =
    t.MutexItem (name (codes "k") 6) None ∷
    t.MutexItem (name (codes "m") 15) None ∷
    t.MutexItem (name (codes "n") 24) None ∷
    thread (name (codes "t") 34) (block 36 (t.Lock (at 38) (name (codes "k") 43) None ∷
    t.If (at 47) (t.arm_and (t.Number (at 51) (int 1)) (block 54 (t.Lock (at 56) (name (codes "n") 61) None ∷ []) 65)
    (t.arm_and (t.Number (at 76) (int 2)) (block 79 (t.Lock (at 81) (name (codes "m") 86) None ∷ []) 90) t.no_arm)) (t.Else (block 97 [] 99)) ∷ []) 101) ∷
    []

-- `mutex m; thread t { while (1) { lock(m); } }`
abbrev pub loop_join : List t.Item
loop_join =
    t.MutexItem (name (codes "m") 6) None ∷
    thread (name (codes "t") 16)
    (block 18 (t.While (at 20) (t.Number (at 27) (int 1)) (block 30 (t.Lock (at 32) (name (codes "m") 37) None ∷ []) 41) ∷ []) 43) ∷
    []

-- `mutex m; thread t { lock(m); }`
abbrev pub end_held : List t.Item
end_held =
    t.MutexItem (name (codes "m") 6) None ∷
    thread (name (codes "t") 16) (block 18 (t.Lock (at 20) (name (codes "m") 25) None ∷ []) 29) ∷
    []

-- `mutex m; persistent(m) long a[8]; thread t { long i = 9; lock(m); a[i] = 1; unlock(m); }`
abbrev pub index_of_nine : List t.Item
index_of_nine =
    t.MutexItem (name (codes "m") 6) None ∷
    persistent (name (codes "m") 20) kind.Long (name (codes "a") 28) (Some (length_at 30 (int 8))) None ∷
    thread (name (codes "t") 41) (block 43 (t.Declare (declaration 45 kind.Long (name (codes "i") 50) (t.Value (t.Number (at 54) (int 9)))) ∷
    t.Lock (at 57) (name (codes "m") 62) None ∷
    t.Assign (assignment 66 (element (name (codes "a") 66) (t.Named (name (codes "i") 68))) (t.Set (t.Number (at 73) (int 1)))) ∷
    t.Unlock (at 76) (name (codes "m") 83) None ∷ []) 87) ∷
    []

-- `mutex m; persistent(m) long a[8]; thread t { long i = 9; lock(m); a[i % 8u] = 1; unlock(m); }`
abbrev pub index_modulo_int : List t.Item
index_modulo_int =
    t.MutexItem (name (codes "m") 6) None ∷
    persistent (name (codes "m") 20) kind.Long (name (codes "a") 28) (Some (length_at 30 (int 8))) None ∷
    thread (name (codes "t") 41) (block 43 (t.Declare (declaration 45 kind.Long (name (codes "i") 50) (t.Value (t.Number (at 54) (int 9)))) ∷
    t.Lock (at 57) (name (codes "m") 62) None ∷
    t.Assign (assignment 66 (element (name (codes "a") 66) (t.Binary b.Rem (t.Named (name (codes "i") 68)) (t.Number (at 72) (typed kind.UnsignedInt (pos 8)))))
    (t.Set (t.Number (at 78) (int 1)))) ∷
    t.Unlock (at 81) (name (codes "m") 88) None ∷ []) 92) ∷
    []

-- `mutex m; persistent(m) long a[8]; thread t { long i = 9; lock(m); a[i & 7] = 1; unlock(m); }`
abbrev pub index_masked : List t.Item
index_masked =
    t.MutexItem (name (codes "m") 6) None ∷
    persistent (name (codes "m") 20) kind.Long (name (codes "a") 28) (Some (length_at 30 (int 8))) None ∷
    thread (name (codes "t") 41) (block 43 (t.Declare (declaration 45 kind.Long (name (codes "i") 50) (t.Value (t.Number (at 54) (int 9)))) ∷
    t.Lock (at 57) (name (codes "m") 62) None ∷
    t.Assign (assignment 66 (element (name (codes "a") 66) (t.Binary b.And (t.Named (name (codes "i") 68)) (t.Number (at 72) (int 7))))
    (t.Set (t.Number (at 77) (int 1)))) ∷
    t.Unlock (at 80) (name (codes "m") 87) None ∷ []) 91) ∷
    []

-- `mutex m; persistent(m) long a[8]; thread t { long i = 9; lock(m); a[i % 8ul] = 1; unlock(m); }`
abbrev pub index_modulo_long : List t.Item
index_modulo_long =
    t.MutexItem (name (codes "m") 6) None ∷
    persistent (name (codes "m") 20) kind.Long (name (codes "a") 28) (Some (length_at 30 (int 8))) None ∷
    thread (name (codes "t") 41) (block 43 (t.Declare (declaration 45 kind.Long (name (codes "i") 50) (t.Value (t.Number (at 54) (int 9)))) ∷
    t.Lock (at 57) (name (codes "m") 62) None ∷
    t.Assign (assignment 66 (element (name (codes "a") 66) (t.Binary b.Rem (t.Named (name (codes "i") 68))
    (t.Number (at 72) (typed kind.UnsignedLong (pos 8))))) (t.Set (t.Number (at 79) (int 1)))) ∷
    t.Unlock (at 82) (name (codes "m") 89) None ∷ []) 93) ∷
    []

-- `mutex m; persistent(m) long a[4097];`
abbrev pub too_long : List t.Item
too_long =
    t.MutexItem (name (codes "m") 6) None ∷
    persistent (name (codes "m") 20) kind.Long (name (codes "a") 28) (Some (length_at 30 (int 4097))) None ∷
    []

-- `mutex m; thread t { y = 1; }`
abbrev pub unknown : List t.Item
unknown =
    t.MutexItem (name (codes "m") 6) None ∷
    thread (name (codes "t") 16) (block 18 (t.Assign (assignment 20 (scalar (name (codes "y") 20)) (t.Set (t.Number (at 24) (int 1)))) ∷ []) 27) ∷
    []

-- `mutex m; long m(int a, int a) { int a; return 1; }`
abbrev pub declared_twice : List t.Item
declared_twice =
    t.MutexItem (name (codes "m") 6) None ∷
    function (Some kind.Long) (name (codes "m") 14) (parameter kind.Int (name (codes "a") 20) ∷ parameter kind.Int (name (codes "a") 27) ∷ []) 30
    (t.Declare (declaration 32 kind.Int (name (codes "a") 36) t.Absent) ∷ []) (Some (return_at 39 (Some (t.Number (at 46) (int 1))))) 49 ∷
    []

-- `mutex m; persistent(m) int x = {1}; persistent(m) int a[2] = 1; void f() { } long g() { return 1; }
-- thread t { x[0] = 1; a = 1; m = 1; lock(x); x = f(); g(); t(); }`
abbrev pub wrong_sorts : List t.Item
wrong_sorts =
    t.MutexItem (name (codes "m") 6) None ∷
    persistent (name (codes "m") 20) kind.Int (name (codes "x") 27) None (Some (t.InBraces (at 31) (signed 32 false (int 1) ∷ []))) ∷
    persistent (name (codes "m") 47) kind.Int (name (codes "a") 54) (Some (length_at 56 (int 2))) (Some (t.Single (signed 61 false (int 1)))) ∷
    function None (name (codes "f") 69) [] 73 [] None 75 ∷
    function (Some kind.Long) (name (codes "g") 82) [] 86 [] (Some (return_at 88 (Some (t.Number (at 95) (int 1))))) 98 ∷
    thread (name (codes "t") 107) (block 109 (t.Assign (assignment 111 (element (name (codes "x") 111) (t.Number (at 113) (int 0)))
    (t.Set (t.Number (at 118) (int 1)))) ∷
    t.Assign (assignment 121 (scalar (name (codes "a") 121)) (t.Set (t.Number (at 125) (int 1)))) ∷
    t.Assign (assignment 128 (scalar (name (codes "m") 128)) (t.Set (t.Number (at 132) (int 1)))) ∷
    t.Lock (at 135) (name (codes "x") 140) None ∷
    t.AssignResult (scalar (name (codes "x") 144)) (call (name (codes "f") 148) []) ∷
    t.CallOnly (call (name (codes "g") 153) []) ∷
    t.CallOnly (call (name (codes "t") 158) []) ∷ []) 163) ∷
    []

-- `mutex m; persistent(m) int x = {1, 2}; persistent(m) int a[2] = {1, 2, 3}; void f(int v) { } thread t { f(); f(1, 2); f(1); }`
abbrev pub wrong_counts : List t.Item
wrong_counts =
    t.MutexItem (name (codes "m") 6) None ∷
    persistent (name (codes "m") 20) kind.Int (name (codes "x") 27) None (Some (t.InBraces (at 31) (signed 32 false (int 1) ∷ signed 35 false (int 2) ∷ []))) ∷
    persistent (name (codes "m") 50) kind.Int (name (codes "a") 57) (Some (length_at 59 (int 2)))
    (Some (t.InBraces (at 64) (signed 65 false (int 1) ∷ signed 68 false (int 2) ∷ signed 71 false (int 3) ∷ []))) ∷
    function None (name (codes "f") 80) (parameter kind.Int (name (codes "v") 86) ∷ []) 89 [] None 91 ∷
    thread (name (codes "t") 100) (block 102 (t.CallOnly (call (name (codes "f") 104) []) ∷
    t.CallOnly (call (name (codes "f") 109) (t.Number (at 111) (int 1) ∷
    t.Number (at 114) (int 2) ∷ [])) ∷
    t.CallOnly (call (name (codes "f") 118) (t.Number (at 120) (int 1) ∷ [])) ∷ []) 124) ∷
    []

-- `int f() { } void g() { return 1; } int h() { return; } void k() { return; }`
abbrev pub wrong_returns : List t.Item
wrong_returns =
    function (Some kind.Int) (name (codes "f") 4) [] 8 [] None 10 ∷
    function None (name (codes "g") 17) [] 21 [] (Some (return_at 23 (Some (t.Number (at 30) (int 1))))) 33 ∷
    function (Some kind.Int) (name (codes "h") 39) [] 43 [] (Some (return_at 45 None)) 53 ∷
    function None (name (codes "k") 60) [] 64 [] (Some (return_at 66 None)) 74 ∷
    []

-- ---- Arrays of mutexes

-- the place of `i`, of the operator's right operand, and that number
abbrev pub masked : ℕ → ℕ → ℕ → t.Expression
masked place right n = t.Binary b.And (t.Named (name (codes "i") place)) (t.Number (at right) (int n))

-- `mutex m[4]; persistent(m[]) long a[4]; thread t { for (int i = 0; i < 4; i++) { lock(m[i & 3]); a[i & 3] = a[i & 3] + i; unlock(m[i & 3]); } }`
abbrev pub buckets : List t.Item
buckets =
    t.MutexItem (name (codes "m") 6) (Some (length_at 8 (int 4))) ∷
    t.PersistentItem (record {
      guard = record { mutex = name (codes "m") 23; each = true };
      type_name = t.OfKind kind.Long;
      name = name (codes "a") 33;
      length = Some (length_at 35 (int 4));
      initialiser = None;
    }) ∷
    thread (name (codes "t") 46) (block 48 (
    t.For (at 50) (t.Declared (declaration 55 kind.Int (name (codes "i") 59) (t.Value (t.Number (at 63) (int 0)))))
    (Some (t.Binary b.Less (t.Named (name (codes "i") 66)) (t.Number (at 70) (int 4))))
    (Some (assignment 73 (scalar (name (codes "i") 73)) t.Increment)) (block 78 (
    t.Lock (at 80) (name (codes "m") 85) (Some (masked 87 91 3)) ∷
    t.Assign (assignment 96 (element (name (codes "a") 96) (masked 98 102 3))
    (t.Set (t.Binary b.Add (t.Element (name (codes "a") 107) (masked 109 113 3)) (t.Named (name (codes "i") 118))))) ∷
    t.Unlock (at 121) (name (codes "m") 128) (Some (masked 130 134 3)) ∷ []) 139) ∷ []) 141) ∷ []

-- ---- References

-- `ref(a)`, where `a` stands at that place
abbrev pub ref_to : List ℕ → ℕ → t.TypeName
ref_to text place = t.RefTo (name text place)

abbrev pub ref_declaration : ℕ → t.TypeName → t.Name → t.Initial → t.Declaration
ref_declaration place type_name x initial = record { place = at place; type_name = type_name; name = x; initial = initial }

abbrev pub through : ℕ → t.Name → t.Lvalue
through place x = t.Followed (at place) x

abbrev pub ref_variable : t.Name → t.TypeName → t.Name → Option t.Length → Option t.Initialiser → t.Item
ref_variable guard type_name x length initialiser =
    t.PersistentItem (record { guard = record { mutex = guard; each = false }; type_name = type_name; name = x; length = length; initialiser = initialiser })

-- `mutex m; persistent(m) long a[4] = {10, 20, 30, 40}; persistent(m) ref(a) h;
-- thread t { lock(m); ref(a) p = &a[2]; if (p != null) { *p = *p + 1; } h = p; unlock(m); }`
abbrev pub references : List t.Item
references =
    t.MutexItem (name (codes "m") 6) None ∷
    persistent (name (codes "m") 20) kind.Long (name (codes "a") 28) (Some (length_at 30 (int 4)))
    (Some (t.InBraces (at 35) (signed 36 false (int 10) ∷ signed 40 false (int 20) ∷ signed 44 false (int 30) ∷ signed 48 false (int 40) ∷ []))) ∷
    ref_variable (name (codes "m") 64) (ref_to (codes "a") 71) (name (codes "h") 74) None None ∷
    thread (name (codes "t") 84) (block 86 (t.Lock (at 88) (name (codes "m") 93) None ∷
    t.Declare (ref_declaration 97 (ref_to (codes "a") 101) (name (codes "p") 104)
    (t.Value (t.Address (at 108) (name (codes "a") 109) (t.Number (at 111) (int 2))))) ∷
    t.If (at 115) (t.arm_and (t.Binary b.NotEqual (t.Named (name (codes "p") 119)) (t.Null (at 124)))
    (block 130 (t.Assign (assignment 132 (through 132 (name (codes "p") 133))
    (t.Set (t.Binary b.Add (t.Referent (at 137) (name (codes "p") 138)) (t.Number (at 142) (int 1))))) ∷ []) 145) t.no_arm) t.Nothing ∷
    t.Assign (assignment 147 (scalar (name (codes "h") 147)) (t.Set (t.Named (name (codes "p") 151)))) ∷
    t.Unlock (at 154) (name (codes "m") 161) None ∷ []) 165) ∷
    []

-- `mutex m; persistent(m) long a[4]; thread t { ref(a) p = null; lock(m); *p = 1; unlock(m); }`
abbrev pub null_followed : List t.Item
null_followed =
    t.MutexItem (name (codes "m") 6) None ∷
    persistent (name (codes "m") 20) kind.Long (name (codes "a") 28) (Some (length_at 30 (int 4))) None ∷
    thread (name (codes "t") 41) (block 43 (t.Declare (ref_declaration 45 (ref_to (codes "a") 49) (name (codes "p") 52) (t.Value (t.Null (at 56)))) ∷
    t.Lock (at 62) (name (codes "m") 67) None ∷
    t.Assign (assignment 71 (through 71 (name (codes "p") 72)) (t.Set (t.Number (at 76) (int 1)))) ∷
    t.Unlock (at 79) (name (codes "m") 86) None ∷ []) 90) ∷
    []

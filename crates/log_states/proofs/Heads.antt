-- The head of what a boundary has still to do.
use Rattle.std.proofs.Common.{◌≡◌, ◌≢◌, ℕ, List, [], ◌∷◌, length, ap, arith}
use Rattle.rv64_isa.specs.Rows.{Effect, Continues, Loads, Stores, Cleans, Fences, Calls}

abbrev pub head : List Effect → Effect
head [] = Calls
head (e ∷ es) = e

abbrev pub tail : List Effect → List Effect
tail [] = []
tail (e ∷ es) = es

abbrev pub kind : Effect → ℕ
kind (Continues registers pc) = 0
kind (Loads address bytes signed register) = 1
kind (Stores address bytes value) = 2
kind (Cleans address) = 3
kind Fences = 4
kind Calls = 5

abbrev pub address_of : Effect → ℕ
address_of (Continues registers pc) = 0
address_of (Loads address bytes signed register) = address
address_of (Stores address bytes value) = address
address_of (Cleans address) = address
address_of Fences = 0
address_of Calls = 0

abbrev pub bytes_of : Effect → ℕ
bytes_of (Continues registers pc) = 0
bytes_of (Loads address bytes signed register) = bytes
bytes_of (Stores address bytes value) = bytes
bytes_of (Cleans address) = 0
bytes_of Fences = 0
bytes_of Calls = 0

abbrev pub stored_by : Effect → ℕ
stored_by (Continues registers pc) = 0
stored_by (Loads address bytes signed register) = 0
stored_by (Stores address bytes value) = value
stored_by (Cleans address) = 0
stored_by Fences = 0
stored_by Calls = 0

pub no_head : (e f : Effect) (es fs : List Effect) → e ∷ es ≡ f ∷ fs → kind e ≢ kind f → ⊥
no_head e f es fs same ne = ne (ap (λ l. kind (head l)) same)

pub not_done : (e : Effect) (es : List Effect) → [] ≡ e ∷ es → ⊥
not_done e es same = omega (arith, ap (λ (l : List Effect). length l) same)

pub same_address : (e f : Effect) (es fs : List Effect) → e ∷ es ≡ f ∷ fs → address_of e ≡ address_of f
same_address e f es fs same = ap (λ l. address_of (head l)) same

pub same_value : (e f : Effect) (es fs : List Effect) → e ∷ es ≡ f ∷ fs → stored_by e ≡ stored_by f
same_value e f es fs same = ap (λ l. stored_by (head l)) same

pub same_rest : (e f : Effect) (es fs : List Effect) → e ∷ es ≡ f ∷ fs → es ≡ fs
same_rest e f es fs same = ap tail same

-- Numbers out of durable words, element by element and variable by variable.
use Rattle.std.proofs.Common.{◌≡◌, refl, ℕ, zero, suc, ◌+◌, ◌-◌, ◌*◌, ◌/◌, ◌%◌, ◌<◌, ◌≤◌, sym, ◌∙◌, ap, ap₂, arith, Some, ℤ}
use Rattle.std.proofs.Common.{List, [], ◌∷◌, ◌++◌, length, map, drop, get_or, append_assoc}
use Rattle.std.specs.Prelude.{slice_get, slice_index}
use Rattle.std.proofs.lemmas.List.{append-nil, at_drop_more, drop_all, map-append}
use Rattle.std.proofs.lemmas.Option.{slice_get_read}
use Rattle.ido_base.specs.declared.limits.TheConstants.{MOST_VARIABLE_BYTES}
use Rattle.ido_base.specs.declared.location.Shape.{Shape}
use Rattle.ido_base.specs.Words.{Word, durable_value, word_at}
use Rattle.ido_base.specs.Layout.{byte_number, start_from, variable_at, variables_base}
use Rattle.ido_ints.specs.declared.kinds.Kind.{Kind}
use Rattle.ido_ints.specs.Kinds.{bytes_of}
use Rattle.c_tree.specs.declared.program.Variable as declared
use Rattle.c_tree.specs.Programs as p
use Rattle.c_tree.specs.Programs.{variable_of}
use Rattle.c_tree.specs.WellFormed.{elements_in}
use Rattle.log_schemes.specs.Schemes.{numbers_from}
use Rattle.memory_layout.specs.Variables.{AreAddresses, HaveRoom}
use Rattle.variable_words.proofs.Public.{shapes, address_is, length-variables, length-shapes, variable_at_index, number_is, within_end}
use Rattle.variable_words.specs.Variables.{durable_variables, number_of_byte, variables_from}
use Rattle.run_scripts.specs.Reports as r
use Rattle.run_scripts.specs.declared.report.Variable as found
use Rattle.run_scripts.specs.links.ReportViews as views
use Rattle.ido_cli.specs.Runs.{named, variable_with}
use Rattle.ido_cli.specs.Reports.{durable_elements}

-- ---- A number

-- the word that has a byte, by its line
pub word_of_byte : (words : List Word) (byte : ℕ) → word_at words (byte / 8) ≡ word_at words (8 * (byte / 64) + byte % 64 / 8)
word_of_byte words byte = let same : byte / 8 ≡ 8 * (byte / 64) + byte % 64 / 8 = omega arith in ap (word_at words) same

-- ---- Elements

-- the number of an element of a variable that begins at this byte
abbrev pub element_number : List Word → Kind → (first : ℕ) → (element : ℕ) → ℤ
element_number words kind first element = number_of_byte durable_value words kind (first + bytes_of kind * element)

numbers_more : (k n : ℕ) → k < n → numbers_from k (n - k) ≡ k ∷ numbers_from (k + 1) (n - (k + 1))
numbers_more k n h = ap (numbers_from k) (let e : n - k ≡ suc (n - (k + 1)) = omega (arith, h) in e)

-- what a map over numbers has given so far, with what it will give
pub elements_more : (g : ℕ → ℤ) (xs ys new : List ℤ) (n k : ℕ) (x : ℤ) → k < n → x ≡ g k → new ≡ xs ++ x ∷ [] →
    xs ++ map g (numbers_from k (n - k)) ≡ ys → new ++ map g (numbers_from (k + 1) (n - (k + 1))) ≡ ys
elements_more g xs ys new n k x h e is so_far =
    let rest = map g (numbers_from (k + 1) (n - (k + 1))) in
    ap (λ (zs : List ℤ). zs ++ rest) is ∙ append_assoc xs (x ∷ []) rest
    ∙ ap (λ (zs : List ℤ). xs ++ zs) (ap (λ (z : ℤ). z ∷ rest) e ∙ ap (map g) (sym (numbers_more k n h))) ∙ so_far

pub same_from : (f g : ℕ → ℤ) (from count : ℕ) → ((e : ℕ) → e < from + count → f e ≡ g e) → map f (numbers_from from count) ≡ map g (numbers_from from count)
same_from f g from zero same = refl
same_from f g from (suc count) same =
    ap₂ (λ (x : ℤ) (xs : List ℤ). x ∷ xs) (same from (omega arith)) (same_from f g (from + 1) count (λ e l. same e (omega (arith, l))))

-- ---- Variables

-- where a variable begins, as a byte of the variables
first_is : (vs : List p.Variable) (v : ℕ) (is : p.Variable) (address : ℕ) → slice_get vs v ≡ Some is → address ≡ variable_at (shapes vs) v 0 →
    address - variables_base ≡ start_from 0 (shapes vs) v
first_is vs v is address there at =
    let a = address_is vs v 0 is there in
    omega (arith, a, at)

there_is : (xs : List declared.Variable) (i : ℕ) (x : declared.Variable) → i < length xs → x ≡ get_or xs i x →
    slice_get (map variable_of xs) i ≡ Some (variable_of x)
there_is xs i x l is =
    let vs = map variable_of xs in
    slice_get_read vs (length vs) i (variable_of x) refl (omega (arith, l, length-variables xs)) (variable_at_index xs i x l is)

address_at : (xs : List declared.Variable) (addresses : List ℕ) (i address : ℕ) → AreAddresses (shapes (map variable_of xs)) addresses → i < length xs →
    address ≡ slice_index addresses i → address ≡ variable_at (shapes (map variable_of xs)) i 0
address_at xs addresses i address are l is = is ∙ are.each i (omega (arith, l, length-shapes xs))

pub variable_fits : (xs : List declared.Variable) (addresses : List ℕ) (i address : ℕ) (x : declared.Variable) →
    HaveRoom (shapes (map variable_of xs)) → AreAddresses (shapes (map variable_of xs)) addresses → i < length xs → x ≡ get_or xs i x →
    address ≡ slice_index addresses i →
    address - variables_base + bytes_of x.kind * elements_in x.length ≤ MOST_VARIABLE_BYTES
variable_fits xs addresses i address x room are l is at =
    let vs = map variable_of xs in
    let there = there_is xs i x l is in
    let first = first_is vs i (variable_of x) address there (address_at xs addresses i address are l at) in
    omega (arith, first, room, within_end 0 vs i (variable_of x) there)

-- the elements of the variable of that number, each at its own address
abbrev elements_at : List Word → List Shape → ℕ → p.Variable → List ℤ
elements_at words ss v is =
    map (λ e. number_of_byte durable_value words is.kind (byte_number (variable_at ss v e))) (numbers_from 0 (elements_in is.length))

same_elements : (words : List Word) (vs : List p.Variable) (v : ℕ) (is : p.Variable) (address : ℕ) → HaveRoom (shapes vs) → slice_get vs v ≡ Some is →
    address ≡ variable_at (shapes vs) v 0 → elements_at words (shapes vs) v is ≡ durable_elements words is (address - variables_base)
same_elements words vs v is address room there at =
    let first = first_is vs v is address there at in
    same_from _ _ 0 (elements_in is.length) (λ e l.
    let place = number_is vs v e is room there (omega (arith, l)) in
    let same : byte_number (variable_at (shapes vs) v e) ≡ address - variables_base + bytes_of is.kind * e = omega (arith, place, first) in
    ap (number_of_byte durable_value words is.kind) same)

-- the variables from one on, with the numbers that a crash would leave
abbrev pub named_from : List Word → List declared.Variable → ℕ → List r.Variable
named_from words xs i =
    let vs = map variable_of (drop i xs) in
    named vs (variables_from durable_value words (shapes (map variable_of xs)) i vs)

named_more : (words : List Word) (xs : List declared.Variable) (i : ℕ) (x : declared.Variable) → i < length xs → x ≡ get_or xs i x →
    named_from words xs i ≡ variable_with (variable_of x) (elements_at words (shapes (map variable_of xs)) i (variable_of x)) ∷ named_from words xs (i + 1)
named_more words xs i x l is =
    let ss = shapes (map variable_of xs) in
    let F : List declared.Variable → List r.Variable =
    λ us. named (map variable_of us) (variables_from durable_value words ss i (map variable_of us)) in
    at_drop_more F xs i x l ∙ ap (λ (y : declared.Variable). F (y ∷ drop (i + 1) xs)) (sym is)

pub named_start : (words : List Word) (xs : List declared.Variable) →
    named_from words xs 0 ≡ named (map variable_of xs) (durable_variables words (map variable_of xs))
unfolding durable_variables
named_start words xs = refl

-- what was gathered so far, with what will be, is all
abbrev pub IsSoFar : List Word → List declared.Variable → ℕ → List found.Variable → Type 0
IsSoFar words xs i us =
    map views.variable_of us ++ named_from words xs i ≡ named (map variable_of xs) (durable_variables words (map variable_of xs))

pub variables_more : (words : List Word) (xs : List declared.Variable) (addresses : List ℕ) (i address : ℕ) (x : declared.Variable)
    (u : found.Variable) (us new : List found.Variable) →
    HaveRoom (shapes (map variable_of xs)) → AreAddresses (shapes (map variable_of xs)) addresses → i < length xs → x ≡ get_or xs i x →
    address ≡ slice_index addresses i →
    views.variable_of u ≡ variable_with (variable_of x) (durable_elements words (variable_of x) (address - variables_base)) →
    new ≡ us ++ u ∷ [] → IsSoFar words xs i us → IsSoFar words xs (i + 1) new
variables_more words xs addresses i address x u us new room are l is at u_is new_is so_far =
    let vs = map variable_of xs in
    let rest = named_from words xs (i + 1) in
    let there = there_is xs i x l is in
    let elements = same_elements words vs i (variable_of x) address room there (address_at xs addresses i address are l at) in
    let here : variable_with (variable_of x) (elements_at words (shapes vs) i (variable_of x)) ≡ views.variable_of u =
    ap (variable_with (variable_of x)) elements ∙ sym u_is in
    ap (λ (ws : List found.Variable). map views.variable_of ws ++ rest) new_is
    ∙ ap (λ (ws : List r.Variable). ws ++ rest) (map-append views.variable_of us (u ∷ []))
    ∙ append_assoc (map views.variable_of us) (views.variable_of u ∷ []) rest
    ∙ ap (λ (ws : List r.Variable). map views.variable_of us ++ ws)
    (ap (λ (w : r.Variable). w ∷ rest) (sym here) ∙ sym (named_more words xs i x l is))
    ∙ so_far

pub variables_whole : (words : List Word) (xs : List declared.Variable) (i : ℕ) (us : List found.Variable) → length xs ≤ i → IsSoFar words xs i us →
    map views.variable_of us ≡ named (map variable_of xs) (durable_variables words (map variable_of xs))
variables_whole words xs i us past so_far =
    let ss = shapes (map variable_of xs) in
    let F : List declared.Variable → List r.Variable =
    λ ws. named (map variable_of ws) (variables_from durable_value words ss i (map variable_of ws)) in
    sym (append-nil (map views.variable_of us))
    ∙ ap (λ (ws : List r.Variable). map views.variable_of us ++ ws) (sym (ap F (drop_all i xs past)))
    ∙ so_far

-- Reading so many one after the other, as a loop does.
use Rattle.std.proofs.Common.{◌≡◌, ℕ, suc, ◌-◌, ◌+◌, ◌≤◌, ◌<◌, List, [], ◌∷◌, ◌++◌, Result, Ok, Err, refl, sym, ap, ◌∙◌, append_assoc, arith}
use Rattle.std.proofs.lemmas.List.{append-nil}
use Rattle.file_fields.specs.declared.error.ReadError.{ReadError}
use Rattle.file_fields.specs.declared.error.ReadError.TheVariants as e
use Rattle.file_fields.specs.Fields.{Fault, Reads, ◌>>=◌, repeated}
use Rattle.file_fields.specs.links.ReaderResults.{Fails}

-- what was read before, and what is still read
abbrev pub with_prefix : {A : Type 0} → List A → Reads (List A) → Reads (List A)
with_prefix prefix read = read >>= λ x. Ok (prefix ++ x.0, x.1)

regroup : {A : Type 0} (prefix : List A) (x : A) (read : Reads (List A)) →
    with_prefix prefix (read >>= λ y. Ok (x ∷ y.0, y.1)) ≡ with_prefix (prefix ++ x ∷ []) read
regroup prefix x (Ok y) = ap (λ xs. Ok (xs, y.1)) (sym (append_assoc prefix (x ∷ []) y.0))
regroup prefix x (Err f) = refl

-- an error of one reading is that of another, if the faults are
pub fails_through : {A B : Type 0} (x : ReadError) (inner : Result A Fault) (outer : Result B Fault) → ((f : Fault) → inner ≡ Err f → outer ≡ Err f) →
    Fails x inner → Fails x outer
fails_through e.Magic inner outer through fails = through _ fails
fails_through e.Version inner outer through fails = through _ fails
fails_through (e.Cut place) inner outer through fails = through _ fails
fails_through (e.Field place) inner outer through fails = through _ fails
fails_through (e.Rest place) inner outer through fails = through _ fails
fails_through e.Memory inner outer through fails = tt

pub goes_on : {A : Type 0} (read : List ℕ → Reads A) (prefix : List A) (count i : ℕ) (bytes : List ℕ) (x : A) (after : List ℕ) (whole : Reads (List A)) →
    i < count → read bytes ≡ Ok (x, after)
    → with_prefix prefix (repeated read (count - i) bytes) ≡ whole → with_prefix (prefix ++ x ∷ []) (repeated read (count - (i + 1)) after) ≡ whole
unfolding repeated
goes_on read prefix count i bytes x after whole lt h so_far =
    let k : count - i ≡ suc (count - (i + 1)) = omega arith in
    let one : with_prefix prefix (repeated read (count - i) bytes) ≡ with_prefix (prefix ++ x ∷ []) (repeated read (count - (i + 1)) after) =
    rw (k, h) (regroup prefix x (repeated read (count - (i + 1)) after)) in
    sym one ∙ so_far

pub ends : {A : Type 0} (read : List ℕ → Reads A) (x : ReadError) (prefix : List A) (count i : ℕ) (bytes : List ℕ) (whole : Reads (List A)) → i < count →
    Fails x (read bytes)
    → with_prefix prefix (repeated read (count - i) bytes) ≡ whole → Fails x whole
unfolding repeated
ends read x prefix count i bytes whole lt fails so_far =
    let k : count - i ≡ suc (count - (i + 1)) = omega arith in
    fails_through x (read bytes) whole (λ f h. sym so_far ∙ (rw (k, h) refl)) fails

pub is_done : {A : Type 0} (read : List ℕ → Reads A) (prefix : List A) (count i : ℕ) (bytes : List ℕ) (whole : Reads (List A)) → count ≤ i →
    with_prefix prefix (repeated read (count - i) bytes) ≡ whole → whole ≡ Ok (prefix, bytes)
unfolding repeated
is_done read prefix count i bytes whole le so_far =
    let k : count - i ≡ 0 = omega arith in
    let one : with_prefix prefix (repeated read (count - i) bytes) ≡ Ok (prefix, bytes) = rw k (ap (λ xs. Ok (xs, bytes)) (append-nil prefix)) in
    sym so_far ∙ one

-- What several writes add, one after the other.
use Rattle.std.proofs.Common.{ℕ, ◌+◌, ◌-◌, List, ◌++◌, length, take, drop, None, Some, sym, ap, subst, ◌∙◌, append_assoc}
use Rattle.std.proofs.Math.Seq.{take-add}
use Rattle.std.proofs.lemmas.List.{take_rest}
use Rattle.std.specs.declared.option.Option.{Option}
use Rattle.ido_outside.specs.Sink.{Adds}

-- first some bytes were added, and then more
pub Adds-trans : (a b c : Option (List ℕ)) (first second : List ℕ)
    → Adds a b first → Adds b c second → Adds a c (first ++ second)
Adds-trans None None None first second p q = tt
Adds-trans None None (Some z) first second p q = absurd q
Adds-trans None (Some y) c first second p q = absurd p
Adds-trans (Some x) b None first second p q = tt
Adds-trans (Some x) None (Some z) first second p q = absurd q
Adds-trans (Some x) (Some y) (Some z) first second p q =
    q ∙ ap (λ l. l ++ second) p ∙ append_assoc x first second

-- a prefix of the bytes was added, and then a prefix of the rest
pub Adds-more : (a b c : Option (List ℕ)) (bytes : List ℕ) (done count : ℕ)
    → Adds a b (take done bytes) → Adds b c (take count (take (length bytes - done) (drop done bytes)))
    → Adds a c (take (done + count) bytes)
Adds-more a b c bytes done count p q =
    let rest = take_rest bytes done in
    let more : Adds b c (take count (drop done bytes)) = subst (λ (l : List ℕ). Adds b c (take count l)) rest q in
    subst (Adds a c) (sym (take-add done count bytes))
    (Adds-trans a b c (take done bytes) (take count (drop done bytes)) p more)

-- What the text of a plan's thread says of its locals.
use Rattle.std.proofs.Common.{◌≡◌, refl, ℕ, zero, suc, ◌-◌, List, [], ◌∷◌, ap, subst, Some}
use Rattle.std.specs.Prelude.{slice_get, slice_index_or}
use Rattle.std.specs.List.{AllZip}
use Rattle.std.proofs.lemmas.Option.{none-some, same_Some}
use Rattle.c_tree.specs.Flats as f
use Rattle.c_ranges.specs.KnownAtSteps.{thread_knowns}
use Rattle.region_attempts.specs.KnownReferences.{known_at}
use Rattle.known_references.proofs.Public.{found_or}
use Rattle.thread_code.specs.Plans.{Plan, Thread, IsThread}
use Rattle.flat_compile.specs.ResumePlaces.{knowns_before, refers_in}

-- of two lists, one against the other
pub zip_there : {A B : Type 0} (R : A → B → Type 0) (xs : List A) (ys : List B) (k : ℕ) (x : A) → AllZip R xs ys → slice_get xs k ≡ Some x →
    (y : B) × (slice_get ys k ≡ Some y) × R x y
zip_there R [] ys k x z e = absurd (none-some x e)
zip_there R (a ∷ xs) [] k x z e = absurd z
zip_there {A} R (a ∷ xs) (b ∷ ys) zero x z e = (b, refl, subst (λ (w : A). R w b) (same_Some a x e) z.0)
zip_there R (a ∷ xs) (b ∷ ys) (suc k) x z e = zip_there R xs ys k x z.1 e

-- what they refer to
pub refers_are : (p : Plan) (t : Thread) (of : IsThread p t) → refers_in p t ≡ of.text.refers
refers_are p t of = found_or (λ (text : f.Thread). text.refers) p.flat.threads t.number [] of.text of.of_text

-- those known not to be null before a node
pub knowns_are : (p : Plan) (t : Thread) (of : IsThread p t) (node : ℕ) → knowns_before p t node ≡ known_at of.text t.part.first node
knowns_are p t of node =
    ap (λ (knowns : List (List ℕ)). slice_index_or knowns (node - t.part.first) []) (found_or thread_knowns p.flat.threads t.number [] of.text of.of_text)

-- Steps that are bound to positions, and how many of them are durable.
use Rattle.std.proofs.Common.{◌≡◌, ℕ, ◌+◌, ◌<◌, ◌≤◌, List, [], ◌∷◌, filter, Bool, true}
use Rattle.std.proofs.Common.{false, nat_lt, nat_le, if◌then◌else◌, refl, ap, ◌∙◌, arith, inl, inr}
use Rattle.std.proofs.lemmas.Bool.{ltb-true, lt-ltb, le-leb, leb-true, cases_lt}
use Rattle.std.proofs.lemmas.List.Sums.{sum_by-cons}
use Rattle.run_tracker.specs.links.AccountRepresentation.{AllFrom, Bound, durable_steps, total}

-- ---- Those bound to later positions than the durable one

abbrev pub later : (durable : ℕ) → List Bound → List Bound
later durable bs = filter (λ b. nat_lt durable b.position) bs

-- of one more at the front
pub later_yes : (d : ℕ) (b : Bound) (bs : List Bound) → d < b.position → later d (b ∷ bs) ≡ b ∷ later d bs
later_yes d b bs above = rw (lt-ltb d b.position above) refl

pub later_no : (d : ℕ) (b : Bound) (bs : List Bound) → b.position ≤ d → later d (b ∷ bs) ≡ later d bs
later_no d b bs below = rw (not_above d b.position below) refl
  where
    not_above : (d p : ℕ) → p ≤ d → nat_lt d p ≡ false
    not_above d p below = by_test (nat_lt d p) refl
      where
        by_test : (t : Bool) → nat_lt d p ≡ t → nat_lt d p ≡ false
        by_test true e = absurd (omega (arith, ltb-true d p e))
        by_test false e = e

pub durable_yes : (d : ℕ) (b : Bound) (bs : List Bound) → b.position ≤ d → durable_steps d (b ∷ bs) ≡ b.steps + durable_steps d bs
durable_yes d b bs below = sum_by-cons (λ b. if nat_le b.position d then b.steps else 0) b bs ∙ rw (le-leb b.position d below) refl

pub durable_no : (d : ℕ) (b : Bound) (bs : List Bound) → d < b.position → durable_steps d (b ∷ bs) ≡ durable_steps d bs
durable_no d b bs above = sum_by-cons (λ b. if nat_le b.position d then b.steps else 0) b bs ∙ rw (not_below b.position d above) (omega arith)
  where
    not_below : (p d : ℕ) → d < p → nat_le p d ≡ false
    not_below p d above = by_test (nat_le p d) refl
      where
        by_test : (t : Bool) → nat_le p d ≡ t → nat_le p d ≡ false
        by_test true e = absurd (omega (arith, leb-true p d e))
        by_test false e = e

pub total-cons : (b : Bound) (bs : List Bound) → total (b ∷ bs) ≡ b.steps + total bs
total-cons b bs = sum_by-cons (λ b. b.steps) b bs

-- each is durable or later
pub total_split : (d : ℕ) (bs : List Bound) → durable_steps d bs + total (later d bs) ≡ total bs
total_split d [] = refl
total_split d (b ∷ bs) = elim (cases_lt d b.position) [
  | inl above ↦ rw (durable_no d b bs above, later_yes d b bs above, total-cons b (later d bs), total-cons b bs) (omega (arith, total_split d bs))
  | inr below ↦ rw (durable_yes d b bs below, later_no d b bs below, total-cons b bs) (omega (arith, total_split d bs))
]

-- in order, none is durable after one that isn't
pub none_durable : (d p : ℕ) (bs : List Bound) → d < p → AllFrom p bs → durable_steps d bs ≡ 0
none_durable d p [] less h = refl
none_durable d p (b ∷ bs) less h = durable_no d b bs (omega (arith, h.0)) ∙ none_durable d p bs less h.1

pub all_later : (d p : ℕ) (bs : List Bound) → d < p → AllFrom p bs → later d bs ≡ bs
all_later d p [] less h = refl
all_later d p (b ∷ bs) less h = later_yes d b bs (omega (arith, h.0)) ∙ ap (λ (cs : List Bound). b ∷ cs) (all_later d p bs less h.1)

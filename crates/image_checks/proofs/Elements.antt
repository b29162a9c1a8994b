-- Addresses of elements.
use Rattle.std.proofs.Common.{◌≡◌, ℕ, ◌+◌, ◌*◌, ◌/◌, ◌<◌, ◌≤◌, List, length, map, Some, sym, ap, ◌∙◌, subst, arith, false, IsTrue}
use Rattle.std.specs.Prelude.{slice_get, slice_index, nat_le}
use Rattle.std.proofs.lemmas.Bool.{leb-true, le-leb}
use Rattle.std.proofs.lemmas.List.{length-map}
use Rattle.std.proofs.lemmas.Option.{same_Some, slice_get-map, slice_get_within}
use Rattle.std.proofs.Math.Nat.{mul-div_cancel_left}
use Rattle.std.specs.Option.{option_map}
use Rattle.ido_base.specs.declared.location.Location.{Location}
use Rattle.ido_base.specs.Layout.{variable_at}
use Rattle.ido_ints.specs.Kinds.{bytes_of}
use Rattle.c_tree.specs.declared.program.Variable as declared
use Rattle.c_tree.specs.Programs.{Variable, variable_of}
use Rattle.c_tree.specs.WellFormed.{shape_of}
use Rattle.memory_layout.specs.Variables.{AreAddresses}
use Rattle.variable_words.proofs.Public.{shapes, some_bytes, address_is}
use Rattle.flow_graph.specs.Paths.{Naming}
use Rattle.image_checks.specs.Checks.{IsElementOf}
use Rattle.image_checks.specs.links.LocationElements.{IsElementIn, IsNumberedIn}

mul_once : (b m n : ℕ) → 0 < b → b * m ≡ b * n → m ≡ n
mul_once b m n some e = sym (mul-div_cancel_left m some) ∙ ap (λ (x : ℕ). x / b) e ∙ mul-div_cancel_left n some

-- of a location in this variable, whose first element stands there
module _ (xs : List declared.Variable) {addresses : List ℕ} (location : Location) (address : ℕ) {first bytes : ℕ} {x : declared.Variable}
    (are : AreAddresses (shapes (map variable_of xs)) addresses) (there : slice_get xs location.variable ≡ Some x)
    (first_is : first ≡ slice_index addresses location.variable) (bytes_is : bytes ≡ bytes_of x.kind) where
  abbrev vs : List Variable
  vs = map variable_of xs

  abbrev IsIn : Type 0
  IsIn = IsElementIn vs location address

  found_there : slice_get vs location.variable ≡ Some (variable_of x)
  found_there = slice_get-map variable_of xs location.variable ∙ ap (option_map variable_of) there

  within : location.variable < length vs
  within = slice_get_within vs location.variable (variable_of x) found_there

  element_is : (e : ℕ) → variable_at (shapes vs) location.variable e ≡ first + bytes * e
  element_is e =
      let at = address_is vs location.variable e (variable_of x) found_there in
      let begin = address_is vs location.variable 0 (variable_of x) found_there in
      let each = are.each location.variable (omega (arith, within, length-map vs shape_of)) in
      let same : bytes_of x.kind * e ≡ bytes * e = ap (λ (n : ℕ). n * e) (sym bytes_is) in
      omega (arith, at, begin, each, first_is, same)

  told : (element : ℕ) → address ≡ first + bytes * element → location.lo ≤ element → element ≤ location.hi → IsIn
  told element at from to = record { there = within; element = element; from = from; to = to; is = at ∙ sym (element_is element) }

  same_element : (element : ℕ) → address ≡ first + bytes * element → (f : IsIn) → f.element ≡ element
  same_element element at f =
      let some : 0 < bytes = subst (λ (n : ℕ). 0 < n) (sym bytes_is) (some_bytes x.kind) in
      let other : address ≡ first + bytes * f.element = f.is ∙ element_is f.element in
      mul_once bytes f.element element some (omega (arith, at, other))

  -- the element at the address isn't in front of the location's
  pub not_above : (element low high : ℕ) → address ≡ first + bytes * element → low ≡ location.lo → high ≡ location.hi → low ≤ element →
      (IsTrue (nat_le element high) → IsIn) × (IsIn → IsTrue (nat_le element high))
  not_above element low high at low_is high_is from = (
    λ h. told element at (omega (arith, low_is, from)) (omega (arith, high_is, leb-true element high h)),
    λ f. le-leb element high (omega (arith, high_is, f.to, same_element element at f)),
  )

  -- the element at the address stands before the location's
  pub below : (element low : ℕ) → address ≡ first + bytes * element → low ≡ location.lo → element < low →
      (IsTrue (nat_le low element) → IsIn) × (IsIn → IsTrue (nat_le low element))
  below element low at low_is less = (
    λ h. absurd (omega (arith, less, leb-true low element h)),
    λ f. absurd (omega (arith, less, low_is, f.from, same_element element at f)),
  )

  -- no element stands at the address
  pub none_there : ((element : ℕ) → ¬ (address ≡ first + bytes * element)) → (IsTrue false → IsIn) × (IsIn → IsTrue false)
  none_there none = (λ h. cc h, λ f. absurd (none f.element (f.is ∙ element_is f.element)))

-- the element of that number alone, which is one of the location's range
module _ (vs : List Variable) (location one : Location) (number address : ℕ) (variable : one.variable ≡ location.variable) (lo : one.lo ≡ number)
    (hi : one.hi ≡ number) (low : location.lo ≤ number) (high : number ≤ location.hi) where
  pub only_one : (IsElementIn vs one address → IsNumberedIn vs location number address) × (IsNumberedIn vs location number address → IsElementIn vs one address)
  only_one = (
    λ h. record {
      it = record {
        there = subst (λ (v : ℕ). v < length vs) variable h.there;
        element = h.element;
        from = omega (arith, h.from, lo, low);
        to = omega (arith, h.to, hi, high);
        is = h.is ∙ ap (λ (v : ℕ). variable_at (map shape_of vs) v h.element) variable;
      };
      numbered = omega (arith, h.from, h.to, lo, hi);
    },
    λ h. record {
      there = subst (λ (v : ℕ). v < length vs) (sym variable) h.it.there;
      element = h.it.element;
      from = omega (arith, h.numbered, lo);
      to = omega (arith, h.numbered, hi);
      is = h.it.is ∙ ap (λ (v : ℕ). variable_at (map shape_of vs) v h.it.element) (sym variable);
    },
  )

-- the element that a key names
module _ (vs : List Variable) (names : Naming) (location : Location) (address key number : ℕ) (keyed : location.key ≡ Some key)
    (named : names location.variable key ≡ Some number) where
  pub by_its_key : (IsNumberedIn vs location number address → IsElementOf vs names location address)
      × (IsElementOf vs names location address → IsNumberedIn vs location number address)
  by_its_key = (
    λ h. record {
      there = h.it.there;
      element = h.it.element;
      from = h.it.from;
      to = h.it.to;
      by_key = λ k is.
          ap (names location.variable) (sym (same_Some key k (sym keyed ∙ is))) ∙ (named ∙ ap (λ (n : ℕ). Some n) (sym h.numbered));
      is = h.it.is;
    },
    λ h. record {
      it = record { there = h.there; element = h.element; from = h.from; to = h.to; is = h.is };
      numbered = same_Some h.element number (sym (h.by_key key keyed) ∙ named);
    },
  )

-- A source that ends with an LF and has no line `%%`, with that line and more after it: the input is split there.
use Rattle.std.proofs.Common.{◌≡◌, ℕ, List, [], ◌∷◌, ◌++◌, Bool, true, false, Option, Some, None, codes}
use Rattle.std.proofs.Common.{refl, sym, ap, subst, ◌∙◌, ◌==◌, if◌then◌else◌}
use Rattle.std.specs.Prelude.{nat_eq, drop, ◌&&◌}
use Rattle.std.specs.Cmp.Lexicographic.{pointwise}
use Rattle.std.specs.List.{starts_with}
use Rattle.ido_base.specs.Places.{line_feed}
use Rattle.run_scripts.specs.Reports.{line}
use Rattle.ido_cli.specs.Inputs.{after_mark, after_mark_at, last_mark, mark, mark_with_return, rest_from, source_from}

-- ---- A mark that begins in a text ends in it, where an LF is its last byte

module _ (x y : List ℕ) where
  -- which of three tests holds, if one does
  abbrev chosen : (first second third : Bool) → Option (List ℕ)
  chosen first second third = if first then Some x else if second then Some y else if third then Some [] else None

none_chosen : (x y x' y' : List ℕ) (first second third : Bool) → chosen x y first second third ≡ None → chosen x' y' first second third ≡ None
none_chosen x y x' y' true second third e = absurd (cc e)
none_chosen x y x' y' false true third e = absurd (cc e)
none_chosen x y x' y' false false true e = absurd (cc e)
none_chosen x y x' y' false false false e = refl

none_of_two : (x y : List ℕ) (b d : Bool) → chosen x y (b && false) (b && false) (d && false) ≡ None
none_of_two x y true true = refl
none_of_two x y true false = refl
none_of_two x y false true = refl
none_of_two x y false false = refl

-- the first test may hold, the others don't
none_of_three : (x y x' y' : List ℕ) (first second third b d c e : Bool) → chosen x y first second third ≡ None →
    chosen x' y' first (b && (d && false)) (c && (e && false)) ≡ None
none_of_three x y x' y' true second third b d c e none = absurd (cc none)
none_of_three x y x' y' false second third true true true true none = refl
none_of_three x y x' y' false second third true true true false none = refl
none_of_three x y x' y' false second third true true false e none = refl
none_of_three x y x' y' false second third true false true true none = refl
none_of_three x y x' y' false second third true false true false none = refl
none_of_three x y x' y' false second third true false false e none = refl
none_of_three x y x' y' false second third false d true true none = refl
none_of_three x y x' y' false second third false d true false none = refl
none_of_three x y x' y' false second third false d false e none = refl

-- the last byte is an LF
abbrev pub Ends : List ℕ → Type 0
Ends [] = ⊥
Ends (c ∷ []) = c ≡ 10
Ends (c ∷ d ∷ ds) = Ends (d ∷ ds)

mark_within : (c : ℕ) (cs more : List ℕ) → Ends (c ∷ cs) → after_mark (c ∷ cs) ≡ None → after_mark ((c ∷ cs) ++ more) ≡ None
unfolding after_mark
mark_within c [] more ends none = subst (λ (b : ℕ). after_mark (b ∷ more) ≡ None) (sym ends) refl
mark_within c (d ∷ []) more ends none =
    subst (λ (b : ℕ). after_mark (c ∷ b ∷ more) ≡ None) (sym ends)
    (none_of_two (drop 3 (c ∷ 10 ∷ more)) (drop 4 (c ∷ 10 ∷ more)) (nat_eq 37 c) (nat_eq c 37))
mark_within c (d ∷ e ∷ []) more ends none =
    subst (λ (b : ℕ). after_mark (c ∷ d ∷ b ∷ more) ≡ None) (sym ends)
    (none_of_three (drop 3 (c ∷ d ∷ 10 ∷ [])) (drop 4 (c ∷ d ∷ 10 ∷ [])) (drop 3 (c ∷ d ∷ 10 ∷ more)) (drop 4 (c ∷ d ∷ 10 ∷ more))
    (starts_with nat_eq (c ∷ d ∷ 10 ∷ []) mark) (starts_with nat_eq (c ∷ d ∷ 10 ∷ []) mark_with_return) (pointwise nat_eq (c ∷ d ∷ 10 ∷ []) last_mark)
    (nat_eq 37 c) (nat_eq 37 d) (nat_eq c 37) (nat_eq d 37)
    (subst (λ (b : ℕ). after_mark (c ∷ d ∷ b ∷ []) ≡ None) ends none))
mark_within c (d ∷ e ∷ f ∷ fs) more ends none =
    none_chosen (drop 3 (c ∷ d ∷ e ∷ f ∷ fs)) (drop 4 (c ∷ d ∷ e ∷ f ∷ fs)) (drop 3 (c ∷ d ∷ e ∷ f ∷ fs ++ more)) (drop 4 (c ∷ d ∷ e ∷ f ∷ fs ++ more))
    (starts_with nat_eq (c ∷ d ∷ e ∷ f ∷ fs) mark) (starts_with nat_eq (c ∷ d ∷ e ∷ f ∷ fs) mark_with_return)
    (pointwise nat_eq (c ∷ d ∷ e ∷ f ∷ fs) last_mark) none

-- ---- The split

none_there : (o : Option (List ℕ)) (c : ℕ) (cs after : List ℕ) → elim o [ Some rest ↦ [] | None ↦ c ∷ after ] ≡ c ∷ cs → (o ≡ None) × (after ≡ cs)
none_there (Some rest) c cs after e = cc
none_there None c cs after e = (refl, tail_is e)
  where
    tail_is : c ∷ after ≡ c ∷ cs → after ≡ cs
    tail_is e = cc

module _ (rest : List ℕ) where
  at_mark : after_mark (line (codes "%%") ++ rest) ≡ Some rest
  unfolding after_mark
  at_mark = refl

  none_at : (begins : Bool) (c : ℕ) (cs : List ℕ) → Ends (c ∷ cs) → after_mark_at begins (c ∷ cs) ≡ None →
      after_mark_at begins ((c ∷ cs) ++ (line (codes "%%") ++ rest)) ≡ None
  none_at true c cs ends none = mark_within c cs (line (codes "%%") ++ rest) ends none
  none_at false c cs ends none = refl

  -- both parts, where no line `%%` stands in the text
  pub split_at : (begins : Bool) (text : List ℕ) → Ends text → source_from begins text ≡ text →
      (source_from begins (text ++ (line (codes "%%") ++ rest)) ≡ text) × (rest_from begins (text ++ (line (codes "%%") ++ rest)) ≡ rest)
  split_at begins [] ends whole = absurd ends
  split_at begins (c ∷ []) ends whole =
      let here = none_there (after_mark_at begins (c ∷ [])) c [] (source_from (c == line_feed) []) whole in
      let none = none_at begins c [] ends here.0 in
      let feed : (c == line_feed) ≡ true = ap (λ (b : ℕ). b == line_feed) ends in (
        rw (source_from, none) (ap (λ (b : Bool). c ∷ source_from b (line (codes "%%") ++ rest)) feed ∙ ap (λ (o : Option (List ℕ)). c ∷ source_by o) at_mark),
        rw (rest_from, none) (ap (λ (b : Bool). rest_from b (line (codes "%%") ++ rest)) feed ∙ ap (λ (o : Option (List ℕ)). rest_by o) at_mark),
      )
    where
      after : List ℕ
      after = codes "%\n" ++ rest

      source_by : Option (List ℕ) → List ℕ
      source_by o = elim o [ Some it ↦ [] | None ↦ 37 ∷ source_from (37 == line_feed) after ]

      rest_by : Option (List ℕ) → List ℕ
      rest_by o = elim o [ Some it ↦ it | None ↦ rest_from (37 == line_feed) after ]
  split_at begins (c ∷ d ∷ ds) ends whole =
      let here = none_there (after_mark_at begins (c ∷ d ∷ ds)) c (d ∷ ds) (source_from (c == line_feed) (d ∷ ds)) whole in
      let none = none_at begins c (d ∷ ds) ends here.0 in
      let more = split_at (c == line_feed) (d ∷ ds) ends here.1 in
      (rw (source_from, none) (ap (λ (xs : List ℕ). c ∷ xs) more.0), rw (rest_from, none) more.1)

-- There is no least hart that can step exactly where none can.
use Rattle.std.proofs.Common.{◌≡◌, ◌<◌, inl, inr, refl, ℕ, zero, suc, ap, sym, ◌∙◌, cond, Bool, true, false, Option, Some, None, arith}
use Rattle.std.specs.Prelude.{not}
use Rattle.std.proofs.lemmas.Bool.{cases_eq}
use Rattle.machine_events.specs.Cores.{Behaviour, is_enabled, least_enabled}
use Rattle.machine_events.proofs.Public.{least_enabled-next}

module _ {M : Type 0} (b : Behaviour M) (m : M) where
  abbrev least_or : (hart : ℕ) → Option ℕ → Option ℕ
  least_or hart found = elim found [
    | Some least ↦ Some least
    | None ↦ cond (is_enabled b m hart) (Some hart) None
  ]

  none_enabled : (hart : ℕ) (e : Bool) → is_enabled b m hart ≡ e → cond (is_enabled b m hart) (Some hart) None ≡ None → is_enabled b m hart ≡ false
  none_enabled hart true is none = absurd (let no : Some hart ≡ None = sym (ap (λ (x : Bool). let o : Option ℕ = cond x (Some hart) None in o) is) ∙ none in cc)
  none_enabled hart false is none = is

  waits_by : (harts : ℕ) (o : Option ℕ) → least_enabled b m harts ≡ o → least_enabled b m (suc harts) ≡ None → (h : ℕ) → h < suc harts →
      (least_enabled b m harts ≡ None → h < harts → is_enabled b m h ≡ false) → is_enabled b m h ≡ false
  waits_by harts (Some least) is none h below others = absurd (let off : Some least ≡ None = sym (ap (least_or harts) is) ∙ none in cc)
  waits_by harts None is none h below others = elim (cases_eq h harts) [
    | inl same ↦
        let last : is_enabled b m harts ≡ false = none_enabled harts (is_enabled b m harts) refl (sym (ap (least_or harts) is) ∙ none) in
        ap (is_enabled b m) same ∙ last
    | inr ne ↦ others is (omega (arith, below, ne))
  ]

  pub each_waits : (harts : ℕ) → least_enabled b m harts ≡ None → (h : ℕ) → h < harts → is_enabled b m h ≡ false
  each_waits zero none h below = absurd (omega (arith, below))
  each_waits (suc harts) none h below = waits_by harts (least_enabled b m harts) refl none h below (λ found lower. each_waits harts found h lower)

  pub none_least : (harts : ℕ) → ((h : ℕ) → is_enabled b m h ≡ false) → least_enabled b m harts ≡ None
  none_least zero each = refl
  none_least (suc harts) each = least_enabled-next b m harts false (none_least harts each) (each harts)

-- it idles that isn't enabled
pub not_false : (x : Bool) → not x ≡ false → x ≡ true
not_false true e = refl
not_false false e = absurd (let no : true ≡ false = e in cc)

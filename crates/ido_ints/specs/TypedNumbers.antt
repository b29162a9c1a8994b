-- A number with its kind, as clauses see a value, and conversion.
use Rattle.std.specs.Prelude.{ℤ, ℕ}
use Rattle.ido_ints.specs.declared.kinds.Kind.{Kind}
use Rattle.ido_ints.specs.Reduction.{reduced, register_of}

pub record Typed : Type 0 where
  pub kind : Kind
  pub number : ℤ

abbrev pub typed : Kind → ℤ → Typed
typed k z = record { kind = k; number = z }

-- z reduced into the kind k
abbrev pub typed_reduced : Kind → ℤ → Typed
typed_reduced k z = typed k (reduced k z)

-- conversion to a kind (C11 6.3.1.3)
abbrev pub converted : Typed → Kind → Typed
converted v to = typed_reduced to v.number

abbrev pub register_form_of : Typed → ℕ
register_form_of v = register_of v.kind v.number

-- The number of an element from its reference.
use Rattle.std.proofs.Common.{rules, ◌≡◌, ◌∙◌, ap}
use Rattle.std.specs.Prelude.{slice_index_or, pos}
use Rattle.ido_ints.specs.declared.kinds.Kind.TheVariants.{UnsignedLong}
use Rattle.ido_ints.specs.declared.operators.Binary.TheVariants.{Sub}
use Rattle.ido_ints.specs.Operators.{binary_of}
use Rattle.ido_ints.specs.Reduction.{residue}
use Rattle.ido_ints.specs.TypedNumbers.{Typed, typed}
use Rattle.source_machine.proofs.evaluation.referent.Goals as goal

pub returns-clause-bits : goal.returns-clause-bits
returns-clause-bits c =
    let own : c.new-reference.result ≡ typed UnsignedLong (slice_index_or c.args.locals.now c.args.local (pos 0)) = search rules in
    let same = c.binary.ensures ∙ (λ i. binary_of Sub (own i) (c.new-one.ensures i)) in
    c.of.ensures.bits ∙ ap (λ (r : Typed). residue 64 r.number) same

-- Words of conversions that stand in one another.
use Rattle.std.proofs.Common.{◌≡◌, ◌+◌, ◌*◌, ◌^◌, ◌<◌, ◌≤◌, ◌⊎◌, inl, inr, refl, arith, lit<, lit≤}
use Rattle.std.proofs.lemmas.Bool.{cases_lt}
use Rattle.std.proofs.Math.Nat.{pow-le-pow_right}
use Rattle.ido_ints.specs.declared.kinds.Kind.{Kind}
use Rattle.ido_ints.specs.declared.kinds.Kind.TheVariants.{Char, UnsignedChar, SignedChar, Short, UnsignedShort, Int, UnsignedInt, Long, UnsignedLong}
use Rattle.ido_ints.specs.Kinds.{bytes_of, bits_of, rank_of}

twice : (k : Kind) → 2 * bytes_of k ≡ 2 ^ rank_of k
twice Char = refl
twice UnsignedChar = refl
twice SignedChar = refl
twice Short = refl
twice UnsignedShort = refl
twice Int = refl
twice UnsignedInt = refl
twice Long = refl
twice UnsignedLong = refl

-- a wider kind has a greater rank
pub wider_rank : (j k : Kind) → bits_of j < bits_of k → rank_of j + 1 ≤ rank_of k
wider_rank j k l = by (cases_lt (rank_of j) (rank_of k))
  where
    by : (rank_of j < rank_of k) ⊎ (rank_of k ≤ rank_of j) → rank_of j + 1 ≤ rank_of k
    by (inl less) = omega arith
    by (inr more) =
        let powers = pow-le-pow_right {n = 2} (lit< tt) {i = rank_of k} {j = rank_of j} more in
        let first = twice j in
        let second = twice k in
        absurd (omega arith)

pub some_rank : (k : Kind) → 1 ≤ rank_of k
some_rank Char = lit≤ tt
some_rank UnsignedChar = lit≤ tt
some_rank SignedChar = lit≤ tt
some_rank Short = lit≤ tt
some_rank UnsignedShort = lit≤ tt
some_rank Int = lit≤ tt
some_rank UnsignedInt = lit≤ tt
some_rank Long = lit≤ tt
some_rank UnsignedLong = lit≤ tt

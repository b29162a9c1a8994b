-- What was taken from a source, in several reads.
use Rattle.std.proofs.Common.{◌≡◌, ℕ, ◌+◌, ◌-◌, ◌≤◌, ◌<◌, List, [], ◌++◌, length, None, Some, IfSome, IfErr}
use Rattle.std.proofs.Common.{IsErrOf, Result, ap, arith, length-append}
use Rattle.std.specs.declared.option.Option.{Option}
use Rattle.std.specs.Io.KnownBytes.{Consumes, IsAtEnd}
use Rattle.std.proofs.KnownBytes.{Consumes-nil, Consumes-trans, Consumes-whole}
use Rattle.std.proofs.lemmas.Result.{IfErr-at_err}
use Rattle.ido_outside.specs.declared.faults.InFault.{InFault}
use Rattle.ido_outside.specs.declared.faults.InFault.TheVariants.{Failed, TooLong, Memory}
use Rattle.ido_outside.specs.Source.{TakesExactly, TakenAtFault}
use Rattle.ido_outside.specs.links.GatheredBytes.{Gathers}

-- where n + 1 bytes were taken, more than n were left
pub TakesExactly-longer : (n : ℕ) (a b : Option (List ℕ))
    → TakesExactly (n + 1) a b → IfSome a (λ left. n < length left)
TakesExactly-longer n None b t = tt
TakesExactly-longer n (Some x) None t = absurd t.1
TakesExactly-longer n (Some x) (Some y) t =
    omega (arith, ap length t.1, length-append t.0 y, t.2)

-- what was taken before a fault, after some bytes that were taken before
pub TakenAtFault-after : (room rest : ℕ) (a b c : Option (List ℕ)) (first : List ℕ) (fault : InFault)
    → Consumes a b first → length first + rest ≡ room → TakenAtFault rest b c fault
    → TakenAtFault room a c fault
TakenAtFault-after room rest a b c first TooLong p e t =
    (first ++ t.0, Consumes-trans a b c first t.0 p t.1, omega (arith, length-append first t.0, t.2, e))
TakenAtFault-after room rest a b c first Failed p e t =
    (first ++ t.0, Consumes-trans a b c first t.0 p t.1, omega (arith, length-append first t.0, t.2, e))
TakenAtFault-after room rest a b c first Memory p e t =
    (first ++ t.0, Consumes-trans a b c first t.0 p t.1, omega (arith, length-append first t.0, t.2, e))

-- what was taken before a fault, after the bytes that follow `before`
pub TakenAtFault-gathered : (limit had has : ℕ) (a b c : Option (List ℕ)) (before after : List ℕ) (fault : InFault)
    → had ≡ length before → has ≡ length after → has ≤ limit
    → Gathers a b before after → TakenAtFault (limit - has) b c fault
    → TakenAtFault (limit - had) a c fault
TakenAtFault-gathered limit had has a b c before after fault e f le p t =
    TakenAtFault-after (limit - had) (limit - has) a b c p.0 fault p.1
    (omega (arith, ap length p.2, length-append before p.0, e, f, le)) t

-- with no bytes held, the room is the limit
pub TakenAtFault-from_none : (limit had : ℕ) (a b : Option (List ℕ)) (fault : InFault)
    → had ≡ 0 → TakenAtFault (limit - had) a b fault → TakenAtFault limit a b fault
TakenAtFault-from_none limit had a b fault e t =
    TakenAtFault-after limit (limit - had) a a b [] fault (Consumes-nil a) (omega (arith, e)) t

-- where the input is too long, more than the limit was left
pub TakenAtFault-too_long : {T : Type 0} (limit : ℕ) (a b : Option (List ℕ)) (r : Result T InFault)
    → IfErr r (TakenAtFault limit a b) → IsErrOf r TooLong → IfSome a (λ left. limit < length left)
TakenAtFault-too_long limit a b r t e =
    TakesExactly-longer limit a b (IfErr-at_err (TakenAtFault limit a b) e t)

-- what was gathered to the end is all that was left
pub Gathers-all : (a b : Option (List ℕ)) (bytes : List ℕ)
    → Gathers a b [] bytes → IsAtEnd b → IfSome a (λ left. bytes ≡ left)
Gathers-all a b bytes p end = Consumes-whole a b p.0 (λ left. bytes ≡ left) p.1 end p.2

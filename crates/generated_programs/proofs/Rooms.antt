-- Threads with one local have registers for it.
use Rattle.std.proofs.Common.{◌≡◌, ℕ, zero, suc, ◌<◌, ◌≤◌, Bool, true, List, [], ◌∷◌, length, refl, ap, subst, arith, le_of_suc-le-suc, Some, lit<, lit≤}
use Rattle.std.specs.Prelude.{Contains, slice_get, nat_le}
use Rattle.std.specs.List.{list_all}
use Rattle.std.proofs.lemmas.Bool.{and_parts, leb-true}
use Rattle.flow_graph.specs.declared.graph.Part.{Part}
use Rattle.flow_graph.specs.Liveness.{HasRoom}
use Rattle.flow_graph.specs.Nodes.{Graph}

-- what all elements pass each passes
pub each_passes : {X : Type 0} (p : X → Bool) (xs : List X) (x : X) → list_all p xs ≡ true → Contains xs x → p x ≡ true
each_passes p [] x all (k, h, e) = absurd (omega (arith, h))
each_passes p (y ∷ ys) x all (zero, h, e) = subst (λ z. p z ≡ true) e (and_parts (p y) (list_all p ys) all).0
each_passes p (y ∷ ys) x all (suc k, h, e) = each_passes p ys x (and_parts (p y) (list_all p ys) all).1 (k, le_of_suc-le-suc h, e)

differ : (i j : ℕ) → i ≡ j → i < j → ⊥
differ i j same less = omega arith

-- of numbers below 1 that differ there is one at most
few_locals : (n : ℕ) (ls : List ℕ) → n ≤ 1 → ((l : ℕ) → Contains ls l → l < n)
    → ((i j l : ℕ) → slice_get ls i ≡ Some l → slice_get ls j ≡ Some l → i ≡ j) → length ls ≤ 1
few_locals n [] one below once = lit≤ _
few_locals n (a ∷ []) one below once = lit≤ _
few_locals n (a ∷ b ∷ ls) one below once =
    let first : a < n = below a (0, omega arith, refl) in
    let second : b < n = below b (1, omega arith, refl) in
    let same : b ≡ a = omega arith in
    absurd (differ 0 1 (once 0 1 a refl (ap Some same)) (lit< _))

pub has_room : (g : Graph) → list_all (λ (x : Part). nat_le x.locals 1) g.threads ≡ true → HasRoom g
has_room g all part node wanted own s =
    let one : part.locals ≤ 1 = leb-true part.locals 1 (each_passes (λ (x : Part). nat_le x.locals 1) g.threads part all own) in
    let few : length s.locals ≤ 1 = few_locals part.locals s.locals one (λ l c. ((s.each l).0 c).0) s.once in
    omega (arith, s.count)

-- The numbers of the names that are held, one after the other, and how many they are.
use Rattle.std.proofs.Common.{◌≡◌, ℕ, suc, ◌+◌, ◌<◌, [], ◌∷◌, ◌++◌, length, drop, get_or, refl, ap, ◌∙◌, arith, cond, Bool, true, false}
use Rattle.std.proofs.lemmas.List.{drop_more}
use Rattle.c_tree.specs.LockNames.{Held, count_held}
use Rattle.thread_code.specs.Plans.{locks_held_from}

-- the next name, and those after it
pub next_number : (held : Held) (at : ℕ) (d : Bool) → at < length held →
    locks_held_from at (drop at held) ≡ cond (get_or held at d) (at ∷ []) [] ++ locks_held_from (at + 1) (drop (at + 1) held)
next_number held at d within = ap (locks_held_from at) (drop_more held at d within) ∙ first (get_or held at d)
  where
    first : (b : Bool) → locks_held_from at (b ∷ drop (at + 1) held) ≡ cond b (at ∷ []) [] ++ locks_held_from (at + 1) (drop (at + 1) held)
    first true = refl
    first false = refl

-- ---- None

pub none_counted : (at : ℕ) (held : Held) → count_held held ≡ 0 → locks_held_from at held ≡ []
none_counted at [] none = refl
none_counted at (true ∷ held) none = let some : suc (count_held held) ≡ 0 = none in absurd (omega (arith, some))
none_counted at (false ∷ held) none = none_counted (at + 1) held none

pub count_none : (at : ℕ) (held : Held) → locks_held_from at held ≡ [] → count_held held ≡ 0
count_none at [] none = refl
count_none at (true ∷ held) none = cc
count_none at (false ∷ held) none = count_none (at + 1) held none

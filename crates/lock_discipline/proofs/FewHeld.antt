-- Sets of which none holds too many.
use Rattle.std.proofs.Common.{◌≡◌, ◌≤◌, ℕ, zero, suc, Bool, true, false, cond, List, [], ◌∷◌, ◌++◌}
use Rattle.std.proofs.Common.{replicate, set, slice_get, Some, refl, subst, arith, tests, rules}
use Rattle.c_tree.specs.declared.language.Language.{Language}
use Rattle.c_tree.specs.declared.language.Language.TheVariants.{Plain, Full}
use Rattle.c_tree.specs.Exprs as e
use Rattle.c_tree.specs.Flats as f
use Rattle.c_tree.specs.LockNames.{Held, none_held, count_held}
use Rattle.c_tree.specs.LockDiscipline.{are_too_many}
use Rattle.lock_discipline.specs.links.Flow.{held_after, held_after_all, sets_in, sets_in_all, sets_in_arms}

-- ---- How many

count_none : (n : ℕ) → count_held (none_held n) ≡ 0
count_none zero = refl
count_none (suc n) = count_none n

one_less : (b : Bool) (m n : ℕ) → m ≤ n → m ≤ cond b (suc n) n
one_less true m n h = omega (arith, h)
one_less false m n h = h

more_on_both : (b : Bool) (m n : ℕ) → m ≤ n → cond b (suc m) m ≤ cond b (suc n) n
more_on_both true m n h = omega (arith, h)
more_on_both false m n h = h

count_given : (h : Held) (n : ℕ) → count_held (set h n false) ≤ count_held h
count_given [] n = omega arith
count_given (b ∷ h) zero = one_less b (count_held h) (count_held h) (omega arith)
count_given (b ∷ h) (suc n) = more_on_both b (count_held (set h n false)) (count_held h) (count_given h n)

module _ (language : Language) where
  abbrev pub Few : Held → Type 0
  Few h = are_too_many language h ≡ false

  abbrev pub AllFew : List Held → Type 0
  AllFew [] = Unit {0}
  AllFew (h ∷ hs) = Few h × AllFew hs

  pub few_append : (hs ks : List Held) → AllFew hs → AllFew ks → AllFew (hs ++ ks)
  few_append [] ks p q = q
  few_append (h ∷ hs) ks p q = (p.0, few_append hs ks p.1 q)

  pub few_left : (hs ks : List Held) → AllFew (hs ++ ks) → AllFew hs
  few_left [] ks p = tt
  few_left (h ∷ hs) ks p = (p.0, few_left hs ks p.1)

  pub few_right : (hs ks : List Held) → AllFew (hs ++ ks) → AllFew ks
  few_right [] ks p = p
  few_right (h ∷ hs) ks p = few_right hs ks p.1

  pub few_copies : (n : ℕ) (h : Held) → Few h → AllFew (replicate n h)
  few_copies zero h few = tt
  few_copies (suc n) h few = (few, few_copies n h few)

  pub few_at : (hs : List Held) (n : ℕ) (h : Held) → AllFew hs → slice_get hs n ≡ Some h → Few h
  few_at [] n h p is = absurd (cc)
  few_at (k ∷ hs) zero h p is = let same : k ≡ h = cc in subst Few same p.0
  few_at (k ∷ hs) (suc n) h p is = few_at hs n h p.1 is

  pub few_each : (hs : List Held) → ((n : ℕ) (h : Held) → slice_get hs n ≡ Some h → Few h) → AllFew hs
  few_each [] each = tt
  few_each (h ∷ hs) each = (each 0 h refl, few_each hs (λ n k is. each (suc n) k is))

  -- the sets before the first step of a part are those before its end, where it has no step
  module _ (names : List e.LockName) where
    mutual
      few_first_in : (x : f.Statement) (h : Held) → AllFew (sets_in names h x) → Few (held_after names h x) → Few h
      few_first_in (f.Assign place target value) h fs few = few
      few_first_in (f.If place arms otherwise) h fs few =
          few_first otherwise h (few_right (sets_in_arms names h arms) (sets_in_all names h otherwise) fs) few
      few_first_in (f.While place condition body) h fs few = few
      few_first_in (f.Do place body condition) h fs few = few
      few_first_in (f.Lock place name) h fs few = fs.0
      few_first_in (f.Unlock place name) h fs few = fs.0

      pub few_first : (xs : f.Statements) (h : Held) → AllFew (sets_in_all names h xs) → Few (held_after_all names h xs) → Few h
      few_first f.no_statement h fs few = few
      few_first (f.statement_and x rest) h fs few =
          few_first_in x h (few_left (sets_in names h x) (sets_in_all names (held_after names h x) rest) fs)
          (few_first rest (held_after names h x) (few_right (sets_in names h x) (sets_in_all names (held_after names h x) rest) fs) few)

pub few_none : (language : Language) (n : ℕ) → Few language (none_held n)
few_none Plain n = refl
few_none Full n = rw (count_none n) refl

pub few_given : (language : Language) (h : Held) (n : ℕ) → Few language h → Few language (set h n false)
few_given Plain h n few = refl
few_given Full h n few = let fewer = count_given h n in grind (arith, tests, rules)

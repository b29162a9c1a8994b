-- From the set before a step, what is left to do keeps the discipline.
use Rattle.std.proofs.Common.{◌≡◌, refl, ℕ, zero, suc, List, [], ◌∷◌, ◌++◌, sym, ◌∙◌, subst, Some, length}
use Rattle.std.specs.Prelude.{slice_get}
use Rattle.ido_base.specs.declared.place.Place.{Place}
use Rattle.c_tree.specs.Exprs as e
use Rattle.c_tree.specs.Programs.{Variable}
use Rattle.c_tree.specs.Flats as f
use Rattle.c_tree.specs.Source.{opened_all}
use Rattle.c_tree.specs.LockDiscipline as l
use Rattle.c_tree.specs.LockNames.{Held, none_held, lock_names}
use Rattle.c_tree.specs.LockDiscipline.{Keeps, KeepAll, KeepArms, AreGuarded, IsFree, assign_uses, IsDisciplined}
use Rattle.source_machine.specs.Discipline.{KeepList}
use Rattle.source_machine.proofs.Public.{keep_append, keep_opened_all, plain_is_given}
use Rattle.lock_discipline.specs.links.Flow.{held_after, held_after_all, sets_in, sets_in_all, sets_in_arms, thread_sets}
use Rattle.lock_discipline.specs.HeldSetsByStep.{HeldBefore}
use Rattle.source_machine.specs.Mutexes.{held_by}
use Rattle.lock_discipline.specs.StepContinuations.{assign_lefts, lefts_in, lefts_in_all, lefts_in_arms, thread_lefts, HeldIsHeld}
use Rattle.lock_discipline.proofs.Flows.{boundary_after_is, after_all_is, thread_sets_are}

module _ (vs : List Variable) (names : List e.LockName) (none : Held) where
  -- set by set, what is left keeps the discipline
  abbrev AllKeep : List Held → List (List f.Statement) → Type 0
  AllKeep [] [] = Unit {0}
  AllKeep [] (left ∷ lefts) = ⊥
  AllKeep (h ∷ hs) [] = ⊥
  AllKeep (h ∷ hs) (left ∷ lefts) = KeepList vs names h left none × AllKeep hs lefts

  all_append : (hs ks : List Held) (ls ms : List (List f.Statement)) → AllKeep hs ls → AllKeep ks ms → AllKeep (hs ++ ks) (ls ++ ms)
  all_append [] ks [] ms a b = b
  all_append [] ks (left ∷ ls) ms a b = absurd a
  all_append (h ∷ hs) ks [] ms a b = absurd a
  all_append (h ∷ hs) ks (left ∷ ls) ms a b = (a.0, all_append hs ks ls ms a.1 b)

  all_found : (hs : List Held) (ls : List (List f.Statement)) (n : ℕ) (left : List f.Statement) → AllKeep hs ls → slice_get ls n ≡ Some left →
      (h : Held) × (slice_get hs n ≡ Some h) × KeepList vs names h left none
  all_found [] [] n left a e = cc
  all_found [] (m ∷ ls) n left a e = absurd a
  all_found (h ∷ hs) [] n left a e = absurd a
  all_found (h ∷ hs) (m ∷ ls) zero left a e =
      let is : m ≡ left = cc in
      (h, refl, subst (λ (y : List f.Statement). KeepList vs names h y none) is a.0)
  all_found (h ∷ hs) (m ∷ ls) (suc n) left a e = all_found hs ls n left a.1 e

  assign_keeps : (place : Place) (target : e.Lvalue) (value : e.Placed) (h : Held) (rest : List f.Statement) →
      AreGuarded vs names h (assign_uses target value) → IsFree names h target →
      KeepList vs names h rest none → AllKeep (sets_in names h (f.Assign place target value)) (assign_lefts place target value rest)
  assign_keeps place (e.ToLocal name local kind) value h rest g free k = ((h, l.assign place (e.ToLocal name local kind) value g free, k), tt)
  assign_keeps place (e.ToVariable name variable kind) value h rest g free k = ((h, l.assign place (e.ToVariable name variable kind) value g free, k), (k, tt))
  assign_keeps place (e.ToElement name variable kind index) value h rest g free k =
      ((h, l.assign place (e.ToElement name variable kind index) value g free, k), (k, tt))

  mutual
    keep_in : {h after : Held} {s : f.Statement} → Keeps vs names h s after → (rest : List f.Statement) → KeepList vs names after rest none →
        AllKeep (sets_in names h s) (lefts_in s rest)
    keep_in (l.assign {h = h} place target value g free) rest k = assign_keeps place target value h rest g free k
    keep_in (l.choose {h = h} {after = after} place arms otherwise p q) rest k =
        all_append (sets_in_arms names h arms) (sets_in_all names h otherwise) (lefts_in_arms place otherwise arms rest) (lefts_in_all otherwise rest)
        (keep_in_arms p place otherwise q rest k) (keep_in_all q rest k)
    keep_in (l.repeat {h = h} place condition body g p) rest k =
        let again : KeepList vs names h (f.While place condition body ∷ rest) none = (h, l.repeat place condition body g p, k) in
        (again, keep_in_all p (f.While place condition body ∷ rest) again)
    keep_in (l.again {h = h} place body condition p g) rest k =
        let again : KeepList vs names h (f.While place condition body ∷ rest) none = (h, l.repeat place condition body g p, k) in
        all_append (sets_in_all names h body) (held_after_all names h body ∷ []) (lefts_in_all body (f.While place condition body ∷ rest))
        ((f.While place condition body ∷ rest) ∷ [])
        (keep_in_all p (f.While place condition body ∷ rest) again)
        (subst (λ (b : Held). KeepList vs names b (f.While place condition body ∷ rest) none) (sym (after_all_is vs names p)) again, tt)
    keep_in (l.lock {h = h} place name free) rest k = ((_, l.lock place name free, k), tt)
    keep_in (l.unlock {h = h} place name held) rest k = ((_, l.unlock place name held, k), tt)

    keep_in_all : {h after : Held} {ss : f.Statements} → KeepAll vs names h ss after → (rest : List f.Statement) → KeepList vs names after rest none →
        AllKeep (sets_in_all names h ss) (lefts_in_all ss rest)
    keep_in_all l.no_more rest k = tt
    keep_in_all (l.then {h = h} {between = between} {after = after} x more p q) rest k =
        all_append (sets_in names h x) (sets_in_all names (held_after names h x) more) (lefts_in x (opened_all more ++ rest)) (lefts_in_all more rest)
        (keep_in p (opened_all more ++ rest) (keep_append vs names (opened_all more) rest between after none (keep_opened_all vs names q) k))
        (subst (λ (b : Held). AllKeep (sets_in_all names b more) (lefts_in_all more rest)) (sym (boundary_after_is vs names p)) (keep_in_all q rest k))

    keep_in_arms : {h after : Held} {arms : f.Arms} → KeepArms vs names h arms after → (place : Place) (otherwise : f.Statements) →
        KeepAll vs names h otherwise after →
        (rest : List f.Statement) → KeepList vs names after rest none → AllKeep (sets_in_arms names h arms) (lefts_in_arms place otherwise arms rest)
    keep_in_arms l.no_more_arms place otherwise q rest k = tt
    keep_in_arms (l.arm {h = h} {after = after} condition body more g p r) place otherwise q rest k = (
      (after, l.choose place (f.arm_and condition body more) otherwise (l.arm condition body more g p r) q, k),
      all_append (sets_in_all names h body) (sets_in_arms names h more) (lefts_in_all body rest) (lefts_in_arms place otherwise more rest)
          (keep_in_all p rest k) (keep_in_arms r place otherwise q rest k),
    )

-- before each step of a thread there is a set from which what is left keeps the discipline
pub set_left : (x : f.Flat) (t : f.Thread) (step : ℕ) (left : List f.Statement) → IsDisciplined x t → slice_get (thread_lefts t) step ≡ Some left →
    (h : Held) × (slice_get (thread_sets (lock_names x t) t) step ≡ Some h) × KeepList x.variables (lock_names x t) h left (none_held (length (lock_names x t)))
set_left x t step left keep here =
    let none = none_held (length (lock_names x t)) in
    let last : KeepList x.variables (lock_names x t) (held_after_all (lock_names x t) none t.body) [] none = after_all_is x.variables (lock_names x t) keep in
    let all = all_append x.variables (lock_names x t) none (sets_in_all (lock_names x t) none t.body) (held_after_all (lock_names x t) none t.body ∷ [])
    (lefts_in_all t.body []) ([] ∷ [])
    (keep_in_all x.variables (lock_names x t) none keep [] refl) (last, tt) in
    all_found x.variables (lock_names x t) none (thread_sets (lock_names x t) t) (thread_lefts t) step left all here

pub held_is_held : HeldIsHeld
held_is_held x s number step t thread h single keep keeps its there here =
    let found = set_left x t step thread.left keep here in
    let exact = (thread_sets_are x t keep).exactly in
    let is : found.0 ≡ held_by number s.holders = (plain_is_given x s number t thread found.0 single keeps its there).0 found.2 in (
      (λ b. let same : h ≡ found.0 = one h found.0 ((exact step h).1 b) found.1 in same ∙ is),
      (λ e. subst (λ (k : Held). HeldBefore x t step k) (is ∙ sym e) ((exact step found.0).0 found.1)),
    )
  where
    one : (a b : Held) → slice_get (thread_sets (lock_names x t) t) step ≡ Some a → slice_get (thread_sets (lock_names x t) t) step ≡ Some b → a ≡ b
    one a b p q = let both : Some a ≡ Some b = sym p ∙ q in cc

-- The two parts that have a thread each.
use Rattle.std.proofs.Common.{◌≡◌, ℕ, suc, ◌<◌, List, [], ◌∷◌, ◌++◌, length, get_or, refl, arith, ap, ◌∙◌, subst}
use Rattle.hart_board.specs.declared.board.Board.{Board}
use Rattle.hart_board.specs.declared.core_turn.Ahead.{Ahead}
use Rattle.machine_events.specs.declared.event.Event.{Event}
use Rattle.std.specs.Prelude.{Option}
use Rattle.hart_driver.specs.declared.running.Part.{Part}
use Rattle.hart_driver.specs.links.Parts.{HasRun, HaveRun, IsEvictor, IsHarts}
use Rattle.hart_driver.specs.declared.running.Part.TheVariants.{Evictor, Harts}

-- two lists with one element more have the same last one
pub last_same : {A : Type 0} (xs ys : List A) (a b : A) → xs ++ a ∷ [] ≡ ys ++ b ∷ [] → (a ≡ b) × (xs ≡ ys)
last_same [] [] a b e = (cc e, refl)
last_same [] (y ∷ ys) a b e = absurd (let n : [] ≡ ys ++ b ∷ [] = cc e in more ys b n)
  where
    more : {A : Type 0} (ys : List A) (b : A) → [] ≡ ys ++ b ∷ [] → ⊥
    more [] b e = cc e
    more (y ∷ ys) b e = cc e
last_same (x ∷ xs) [] a b e = absurd (let n : xs ++ a ∷ [] ≡ [] = cc e in more xs a n)
  where
    more : {A : Type 0} (ys : List A) (b : A) → ys ++ b ∷ [] ≡ [] → ⊥
    more [] b e = cc e
    more (y ∷ ys) b e = cc e
last_same (x ∷ xs) (y ∷ ys) a b e = let h : x ≡ y = cc e in let rest = last_same xs ys a b (cc e) in (rest.0, cc (h, rest.1))

-- two elements that were put into an empty list
pub pushed_both : {A : Type 0} (xs ys zs : List A) (a b : A) → xs ≡ [] → ys ≡ xs ++ a ∷ [] → zs ≡ ys ++ b ∷ [] → zs ≡ a ∷ (b ∷ [])
pushed_both xs ys zs a b none one two = two ∙ ap (λ (z : List _). z ++ b ∷ []) (one ∙ ap (λ (z : List _). z ++ a ∷ []) none)

module _ {C L V : Type 0} (history : C → List Event) (space : C → ℕ) (runs : C → ℕ → Option (Ahead L) → Type 0) (coming : V → ℕ → ℕ × ℕ)
    (board : Board C L) where
  -- parts that have run place by place
  pub all_run : (xs ys : List (Part C L V)) → length ys ≡ length xs →
      ((i : ℕ) (d : Part C L V) → i < length xs → HasRun history space runs coming board (get_or xs i d) (get_or ys i d)) →
      HaveRun history space runs coming board xs ys
  all_run [] [] size each = tt
  all_run [] (y ∷ ys) size each = absurd (omega (arith, size))
  all_run (x ∷ xs) [] size each = absurd (omega (arith, size))
  all_run (x ∷ xs) (y ∷ ys) size each = (
    each 0 x (omega arith),
    all_run xs ys (omega (arith, size)) (λ i d inside. each (suc i) d (omega (arith, inside))),
  )

  -- both have run
  pub both_run : (first second : Part C L V) (xs new : List (Part C L V)) → xs ≡ first ∷ (second ∷ []) → HaveRun history space runs coming board xs new →
      (p : Part C L V) × (q : Part C L V) × (new ≡ (p ∷ []) ++ q ∷ []) × HasRun history space runs coming board first p
      × HasRun history space runs coming board second q
  both_run first second xs new are ran = by new (subst (λ (z : List (Part C L V)). HaveRun history space runs coming board z new) are ran)
    where
      by : (new : List (Part C L V)) → HaveRun history space runs coming board (first ∷ (second ∷ [])) new →
          (p : Part C L V) × (q : Part C L V) × (new ≡ (p ∷ []) ++ q ∷ []) × HasRun history space runs coming board first p
          × HasRun history space runs coming board second q
      by [] ran = absurd ran
      by (p ∷ []) ran = absurd ran.1
      by (p ∷ (q ∷ [])) ran = (p, q, refl, ran.0, ran.1.0)
      by (p ∷ (q ∷ (r ∷ rs))) ran = absurd ran.1.1

  pub still_evictor : (p q : Part C L V) → IsEvictor p → HasRun history space runs coming board p q → IsEvictor q
  still_evictor (Evictor s v) (Evictor t w) is ran = tt
  still_evictor (Evictor s v) (Harts ys) is ran = absurd ran
  still_evictor (Harts xs) q is ran = absurd is

  pub still_harts : (p q : Part C L V) → IsHarts p → HasRun history space runs coming board p q → IsHarts q
  still_harts (Harts xs) (Harts ys) is ran = tt
  still_harts (Harts xs) (Evictor t w) is ran = absurd ran
  still_harts (Evictor s v) q is ran = absurd is

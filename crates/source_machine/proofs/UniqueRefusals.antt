-- A schedule is stepped whole, or it is refused at one step for one reason.
use Rattle.std.proofs.Common.{◌≡◌, refl, ℕ, ◌+◌, List, [], ◌∷◌, ◌++◌, length, sym, ◌∙◌, ap, ap₂, subst, true, false, Option, Some, None}
use Rattle.c_tree.specs.Source as m
use Rattle.c_tree.specs.Source.{source_step}
use Rattle.source_machine.specs.declared.answers.RefusedKind.{RefusedKind}
use Rattle.source_machine.specs.declared.answers.Refused.{Refused}
use Rattle.source_machine.specs.Runs.{IsRefusedSchedule, refusal_of}
use Rattle.source_machine.proofs.StateRuns.{after_by, goes_on, runs_by}

-- where a schedule is stepped whole, its first step is made
stepped : (s : m.State) (x : ℕ) (xs : List ℕ) → m.runs_from s (x ∷ xs) ≡ true → (next : m.State) × (source_step s x ≡ Some next) × (m.runs_from next xs ≡ true)
stepped s x xs h = go (source_step s x) refl h
  where
    go : (o : Option m.State) → source_step s x ≡ o → runs_by xs o ≡ true → (next : m.State) × (source_step s x ≡ Some next) × (m.runs_from next xs ≡ true)
    go None e k = absurd (cc k)
    go (Some next) e k = (next, e, k)

not_made : (s next : m.State) (t : ℕ) → source_step s t ≡ None → source_step s t ≡ Some next → ⊥
not_made s next t e f = let both : None ≡ Some next = sym e ∙ f in cc both

-- where two prefixes of a schedule are stepped whole and no step after them can be made, they are one
one_prefix : (s : m.State) (xs : List ℕ) (t : ℕ) (more ys : List ℕ) (u : ℕ) (past : List ℕ) → xs ++ t ∷ more ≡ ys ++ u ∷ past → m.runs_from s xs ≡ true →
    m.runs_from s ys ≡ true
    → source_step (m.after_from s xs) t ≡ None → source_step (m.after_from s ys) u ≡ None → (xs ≡ ys) × (t ≡ u)
one_prefix s [] t more [] u past e h k n o = let same : t ≡ u = cc in (refl, same)
one_prefix s [] t more (y ∷ ys) u past e h k n o =
    let first : t ≡ y = cc in
    let made = stepped s y ys k in
    absurd (not_made s made.0 y (subst (λ z. source_step s z ≡ None) first n) made.1)
one_prefix s (x ∷ xs) t more [] u past e h k n o =
    let first : x ≡ u = cc in
    let made = stepped s x xs h in
    absurd (not_made s made.0 x (subst (λ z. source_step s z ≡ None) (sym first) o) made.1)
one_prefix s (x ∷ xs) t more (y ∷ ys) u past e h k n o =
    let first : x ≡ y = cc in
    let rest : xs ++ t ∷ more ≡ ys ++ u ∷ past = cc in
    let (next, made, runs) = stepped s x xs h in
    let goes : (zs : List ℕ) → m.after_from s (x ∷ zs) ≡ m.after_from next zs = λ zs. ap (after_by zs s) made in
    let k' : m.runs_from s (x ∷ ys) ≡ true = subst (λ z. m.runs_from s (z ∷ ys) ≡ true) (sym first) k in
    let o' : source_step (m.after_from s (x ∷ ys)) u ≡ None = subst (λ z. source_step (m.after_from s (z ∷ ys)) u ≡ None) (sym first) o in
    let both = one_prefix next xs t more ys u past rest runs (sym (ap (runs_by ys) made) ∙ k')
    (subst (λ z. source_step z t ≡ None) (goes xs) n)
    (subst (λ z. source_step z u ≡ None) (goes ys) o') in
    (ap₂ (λ z zs. z ∷ zs) first both.0, both.1)

pub one_stop : (s : m.State) (schedule : List ℕ) (x y : Refused) → IsRefusedSchedule x s schedule → IsRefusedSchedule y s schedule → x ≡ y
one_stop s schedule x y r q =
    let both = one_prefix s r.before r.thread r.after q.before q.thread q.after (sym r.is ∙ q.is) r.runs q.runs r.none q.none in
    let steps : x.step ≡ y.step = r.step ∙ ap (λ ts. length ts + 1) both.0 ∙ sym q.step in
    let kinds : x.kind ≡ y.kind = r.reason ∙ ap₂ (λ ts t. refusal_of (m.after_from s ts) t) both.0 both.1 ∙ sym q.reason in
    refused steps kinds
  where
    make : ℕ → RefusedKind → Refused
    make step kind = record { step = step; kind = kind }

    refused : x.step ≡ y.step → x.kind ≡ y.kind → x ≡ y
    refused steps kinds = ap₂ make steps kinds

pub not_whole : (s : m.State) (schedule : List ℕ) (x : Refused) → IsRefusedSchedule x s schedule → m.runs_from s schedule ≡ false
not_whole s schedule x r = ap (m.runs_from s) r.is ∙ ((goes_on s r.before (r.thread ∷ r.after) r.runs).runs ∙ ap (runs_by r.after) r.none)

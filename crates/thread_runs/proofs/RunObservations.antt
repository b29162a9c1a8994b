-- What is seen of a run on which no mark is ahead, and of one that begins with a mark.
use Rattle.std.proofs.Common.{◌≡◌, ℕ, zero, suc, List, [], ◌∷◌, ◌++◌, refl, ap, sym, ◌∙◌, cond, Bool, true, false, ◌==◌}
use Rattle.std.specs.List.{list_any}
use Rattle.rv64_isa.specs.Rows.{Effect, Continues, Loads, Stores, Cleans, Fences, Calls}
use Rattle.machine_model.specs.Schedule.{is_mark}
use Rattle.code_runs.specs.ComputingRuns.{LocalConfig}
use Rattle.code_runs.specs.CodeTraces.{MarkedEnvironment, Observation, GoesThrough, Fragment, Mark, Does, Trace, outside, marked, seen_effects}
use Rattle.hart_runs.specs.Laws.{StoresApart}
use Rattle.thread_runs.specs.CodeFragments.{AreEffectsApart, effects_of}
use Rattle.thread_runs.specs.Laws.{AreMarksOf}

-- ---- Lists of observations

abbrev head_or : Observation → List Observation → Observation
head_or d [] = d
head_or d (x ∷ xs) = x

abbrev tail_of : List Observation → List Observation
tail_of [] = []
tail_of (x ∷ xs) = xs

abbrev is_mark_observation : Observation → Bool
is_mark_observation Mark = true
is_mark_observation (Does e) = false

abbrev effect_or : Effect → Observation → Effect
effect_or d Mark = d
effect_or d (Does e) = e

false_true : false ≡ true → ⊥
false_true e = cc

-- no effect is a mark
pub no_mark_first : (effects : List Effect) (later : List Observation) → seen_effects effects ≡ Mark ∷ later → ⊥
no_mark_first [] later e = cc
no_mark_first (x ∷ xs) later e = false_true (ap (λ (l : List Observation). is_mark_observation (head_or (Does x) l)) e)

-- what is ahead after an effect
pub record Ahead (effects : List Effect) (effect : Effect) (later : List Observation) : Type 0 where
  pub rest : List Effect
  pub rest_is : later ≡ seen_effects rest
  pub effects_are : effects ≡ effects_of effect ++ rest

first_does : (effects : List Effect) (effect : Effect) (later : List Observation) → seen_effects effects ≡ Does effect ∷ later →
    effects_of effect ≡ effect ∷ [] →
    Ahead effects effect later
first_does [] effect later e m = absurd (let z : ⊥ = cc in z)
first_does (x ∷ xs) effect later e m =
    let same : x ≡ effect = ap (λ (l : List Observation). effect_or x (head_or (Does x) l)) e in
    record {
      rest = xs;
      rest_is = sym (ap tail_of e);
      effects_are = ap (λ (y : Effect). y ∷ xs) same ∙ sym (ap (λ (l : List Effect). l ++ xs) m);
    }

ahead_by : (effects : List Effect) (effect : Effect) (later : List Observation) → seen_effects effects ≡ outside effect ++ later → Ahead effects effect later
ahead_by effects (Continues registers pc) later e = record { rest = effects; rest_is = sym e; effects_are = refl }
ahead_by effects (Loads address bytes signed register) later e = record { rest = effects; rest_is = sym e; effects_are = refl }
ahead_by effects (Stores address bytes value) later e = first_does effects (Stores address bytes value) later e refl
ahead_by effects (Cleans address) later e = first_does effects (Cleans address) later e refl
ahead_by effects Fences later e = first_does effects Fences later e refl
ahead_by effects Calls later e = record { rest = effects; rest_is = sym e; effects_are = refl }

-- ---- Runs on which no mark is ahead

unmarked_by : (b : Bool) (effects : List Effect) (effect : Effect) (later : List Observation) →
    seen_effects effects ≡ (cond b (Mark ∷ []) [] ++ outside effect) ++ later → (b ≡ false) × Ahead effects effect later
unmarked_by true effects effect later e = absurd (no_mark_first effects (outside effect ++ later) e)
unmarked_by false effects effect later e = (refl, ahead_by effects effect later e)

pub unmarked_ahead : (marks : List ℕ) (pc : ℕ) (effects : List Effect) (effect : Effect) (later : List Observation) →
    seen_effects effects ≡ (marked marks pc ++ outside effect) ++ later → (list_any (λ mark. mark == pc) marks ≡ false) × Ahead effects effect later
unmarked_ahead marks pc effects effect later e = unmarked_by (list_any (λ mark. mark == pc) marks) effects effect later e

-- ---- Runs that begin with a mark

marked_by : (b : Bool) → cond b (Mark ∷ []) [] ≡ Mark ∷ [] → b ≡ true
marked_by true e = refl
marked_by false e = cc

pub marked_is : (marks : List ℕ) (pc : ℕ) → marked marks pc ≡ Mark ∷ [] → list_any (λ mark. mark == pc) marks ≡ true
marked_is marks pc e = marked_by (list_any (λ mark. mark == pc) marks) e

none_by : (b : Bool) → cond b (Mark ∷ []) [] ≡ [] → b ≡ false
none_by true e = absurd (let z : ⊥ = cc in z)
none_by false e = refl

pub none_marked : (marks : List ℕ) (pc : ℕ) → marked marks pc ≡ [] → list_any (λ mark. mark == pc) marks ≡ false
none_marked marks pc e = none_by (list_any (λ mark. mark == pc) marks) e

pub marked_ahead : (marks : List ℕ) (pc : ℕ) (effects : List Effect) (effect : Effect) (later : List Observation) → marked marks pc ≡ Mark ∷ [] →
    Mark ∷ seen_effects effects ≡ (marked marks pc ++ outside effect) ++ later → Ahead effects effect later
marked_ahead marks pc effects effect later m e =
    let all : Mark ∷ seen_effects effects ≡ ((Mark ∷ []) ++ outside effect) ++ later = e ∙ ap (λ (l : List Observation). (l ++ outside effect) ++ later) m in
    ahead_by effects effect later (ap tail_of all)

-- ---- Marks of the machine

pub mark_of_machine : (marks : List (List ℕ)) (h : ℕ) (s : MarkedEnvironment) (pc : ℕ) (b : Bool) → AreMarksOf marks h s →
    list_any (λ mark. mark == pc) s.marks ≡ b →
    is_mark marks h pc ≡ b
mark_of_machine marks h s pc b same e = ap (λ (ms : List ℕ). list_any (λ mark. mark == pc) ms) same ∙ e

-- ---- Bytes apart

pub apart_first : (s : MarkedEnvironment) (effect : Effect) (rest : List Effect) → AreEffectsApart s (effects_of effect ++ rest) →
    StoresApart s effect × AreEffectsApart s rest
apart_first s (Continues registers pc) rest h = (tt, h)
apart_first s (Loads address bytes signed register) rest h = (tt, h)
apart_first s (Stores address bytes value) rest h = (h.0, h.1)
apart_first s (Cleans address) rest h = (tt, h.1)
apart_first s Fences rest h = (tt, h.1)
apart_first s Calls rest h = (tt, h)

-- ---- Runs

-- a run of which something is seen has instructions
pub some_steps : (s : MarkedEnvironment) (n : ℕ) (m to : LocalConfig) (first : Observation) (later : List Observation) → Trace s n m (first ∷ later) to →
    (k : ℕ) × (n ≡ suc k)
some_steps s zero m to first later w = absurd (let e : first ∷ later ≡ [] = w.1 in let z : ⊥ = cc in z)
some_steps s (suc k) m to first later w = (k, refl)

-- what registers have at a fragment's end may be said in other words
pub goes_with : {s : MarkedEnvironment} {fragment : Fragment} {seen : List Observation} {has other : List ℕ → Type 0} → ((x : List ℕ) → has x → other x) →
    GoesThrough s fragment seen has → GoesThrough s fragment seen other
goes_with say goes = record { registers = goes.registers; steps = goes.steps; walks = goes.walks; short = goes.short; are = say goes.registers goes.are }

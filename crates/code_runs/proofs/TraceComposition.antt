-- Runs put together, those that only compute, and those of straight code.
use Rattle.std.proofs.Common.{◌≡◌, ℕ, zero, suc, ◌+◌, ◌*◌, ◌^◌, ◌<◌, ◌≤◌, List, [], ◌∷◌, ◌++◌, length, refl, ap, sym, ◌∙◌, arith, subst, Bool}
use Rattle.std.proofs.Common.{true, false, Option, Some, None, zero-add, ◌==◌}
use Rattle.std.specs.Prelude.{if◌then◌else◌}
use Rattle.std.specs.Option.{option_map}
use Rattle.std.proofs.Math.Nat.{mod-eq_of_lt}
use Rattle.rv64_isa.specs.declared.instr.Instr.{Instr}
use Rattle.rv64_isa.specs.Rows.{Effect, Continues, Loads, Stores, Cleans, Fences, Calls, row, next, written, load_result}
use Rattle.operator_code.specs.StraightLineCode.{seen, left_by, effects, registers_after}
use Rattle.operator_code.proofs.Public.{equal_by}
use Rattle.code_runs.specs.ComputingRuns as r
use Rattle.code_runs.specs.CodeTraces.{Answers, MarkedEnvironment, Observation, Does, outside, marked, passed, IsTraceStep, Trace, seen_effects}
use Rattle.code_runs.specs.CodeTraces.{AreMemory, AreUnmarked}

-- ---- Runs one after another

append_assoc : (es fs gs : List Observation) → (es ++ fs) ++ gs ≡ es ++ (fs ++ gs)
append_assoc [] fs gs = refl
append_assoc (e ∷ es) fs gs = ap (λ (x : List Observation). e ∷ x) (append_assoc es fs gs)

append_none : (es : List Observation) → es ++ [] ≡ es
append_none [] = refl
append_none (e ∷ es) = ap (λ (x : List Observation). e ∷ x) (append_none es)

pub along : (s : MarkedEnvironment) (n k : ℕ) (m by to : r.LocalConfig) (es fs : List Observation) → Trace s n m es by → Trace s k by fs to →
    Trace s (n + k) m (es ++ fs) to
along s zero k m by to es fs w v =
    subst (λ (x : List Observation). Trace s (0 + k) m (x ++ fs) to) (sym w.1)
    (subst (λ (x : r.LocalConfig). Trace s (0 + k) x fs to) (sym w.0) (subst (λ (x : ℕ). Trace s x by fs to) (sym (zero-add k)) v))
along s (suc n) k m by to es fs w v =
    let e : suc (n + k) ≡ suc n + k = omega arith in
    let split : es ++ fs ≡ w.1 ++ (w.2 ++ fs) = ap (λ (x : List Observation). x ++ fs) w.5 ∙ append_assoc w.1 w.2 fs in
    subst (λ (x : ℕ). Trace s x m (es ++ fs) to) e (w.0, w.1, w.2 ++ fs, w.3, along s n k w.0 by to w.2 fs w.4 v, split)

pub one : (s : MarkedEnvironment) (m to : r.LocalConfig) (observations : List Observation) → IsTraceStep s m observations to → Trace s 1 m observations to
one s m to observations p = (to, observations, [], p, (refl, refl), sym (append_none observations))

-- ---- Runs that only compute

silent : (s : MarkedEnvironment) (m to : r.LocalConfig) (e : Effect) → r.after s.around m e ≡ Some to → (passed s.around m e ≡ Some to) × (outside e ≡ [])
silent s m to (Continues registers pc) h = (h, refl)
silent s m to (Loads address bytes signed register) h = (h, refl)
silent s m to (Stores address bytes value) h = cc
silent s m to (Cleans address) h = cc
silent s m to Fences h = cc
silent s m to Calls h = cc

-- a step that only computes is one of a run; nothing is seen but the mark at its instruction, if one stands there
pub step_passes : (s : MarkedEnvironment) (m to : r.LocalConfig) → r.StepsTo s.around m to → IsTraceStep s m (marked s.marks m.pc) to
step_passes s m to h =
    let q : (passed s.around m (row h.instr m.registers m.pc) ≡ Some to) × (outside (row h.instr m.registers m.pc) ≡ []) = silent s m to
    (row h.instr m.registers m.pc) h.does in
    record {
      instr = h.instr;
      stands = h.stands;
      does = q.0;
      sees = sym (append_none (marked s.marks m.pc)) ∙ ap (λ (x : List Observation). marked s.marks m.pc ++ x) (sym q.1);
    }

-- where no mark stands from an address up to another, nothing is seen of steps between them
pub silent_walk : (s : MarkedEnvironment) (n : ℕ) (m to : r.LocalConfig) → ((pc : ℕ) → m.pc ≤ pc → pc < to.pc → marked s.marks pc ≡ []) →
    r.LeadsIn s.around n m to →
    (m.pc ≤ to.pc) × Trace s n m [] to
silent_walk s zero m to unmarked h = (let e : m.pc ≡ to.pc = ap (λ (x : r.LocalConfig). x.pc) h in omega arith, (h, refl))
silent_walk s (suc n) m to unmarked h =
    let forward : m.pc < h.0.pc = h.1.forward in
    let later : (h.0.pc ≤ to.pc) × Trace s n h.0 [] to = silent_walk s n h.0 to (λ pc low high. unmarked pc (omega arith) high) h.2 in
    let none : marked s.marks m.pc ≡ [] = unmarked m.pc (omega arith) (omega arith) in
    (omega arith, (h.0, [], [], subst (λ (x : List Observation). IsTraceStep s m x h.0) none (step_passes s m h.0 h.1), later.1, refl))

-- ---- Straight code

memory_left : (es fs : List Effect) → AreMemory (es ++ fs) → AreMemory es
memory_left [] fs h = tt
memory_left (e ∷ es) fs h = (h.0, memory_left es fs h.1)

memory_right : (es fs : List Effect) → AreMemory (es ++ fs) → AreMemory fs
memory_right [] fs h = h
memory_right (e ∷ es) fs h = memory_right es fs h.1

seen_of_both : (es fs : List Effect) → seen_effects (es ++ fs) ≡ seen_effects es ++ seen_effects fs
seen_of_both [] fs = refl
seen_of_both (e ∷ es) fs = ap (λ (x : List Observation). Does e ∷ x) (seen_of_both es fs)

next_is : (pc : ℕ) → pc + 4 < 2 ^ 64 → next pc ≡ pc + 4
next_is pc l = mod-eq_of_lt l

-- what is seen of an effect from outside the registers, where it goes to memory or on
effect_passes : (s : r.Environment) (x : List ℕ) (pc : ℕ) (e : Effect) → pc + 4 < 2 ^ 64 → AreMemory (seen pc e) →
    (passed s (r.config x pc) e ≡ Some (r.config (left_by x e) (pc + 4))) × (outside e ≡ seen_effects (seen pc e))
effect_passes s x pc (Continues registers to) l h = by (to == next pc) refl
  where
    by : (b : Bool) → (to == next pc) ≡ b →
        (passed s (r.config x pc) (Continues registers to) ≡ Some (r.config registers (pc + 4))) × ([] ≡ seen_effects (seen pc (Continues registers to)))
    by true t =
        let here : to ≡ pc + 4 = equal_by to (next pc) t ∙ next_is pc l in
        (ap (λ (n : ℕ). Some (r.config registers n)) here, ap (λ (b : Bool). seen_effects (if b then [] else Continues registers to ∷ [])) (sym t))
    by false t = let none : AreMemory (if false then [] else Continues registers to ∷ []) = rw t at h in let no : false ≡ true = none.0 in cc
effect_passes s x pc (Loads address bytes signed register) l h = let no : false ≡ true = h.0 in cc
effect_passes s x pc (Stores address bytes value) l h = (ap (λ (n : ℕ). Some (r.config x n)) (next_is pc l), refl)
effect_passes s x pc (Cleans address) l h = (ap (λ (n : ℕ). Some (r.config x n)) (next_is pc l), refl)
effect_passes s x pc Fences l h = (ap (λ (n : ℕ). Some (r.config x n)) (next_is pc l), refl)
effect_passes s x pc Calls l h = let no : false ≡ true = h.0 in cc

straight_one : (s : MarkedEnvironment) (i : Instr) (x : List ℕ) (pc : ℕ) → s.around.fetch pc ≡ Some i → pc + 4 < 2 ^ 64 → AreMemory (seen pc (row i x pc)) →
    IsTraceStep s (r.config x pc) (marked s.marks pc ++ seen_effects (seen pc (row i x pc))) (r.config (left_by x (row i x pc)) (pc + 4))
straight_one s i x pc f l h =
    let q : (passed s.around (r.config x pc) (row i x pc) ≡ Some (r.config (left_by x (row i x pc)) (pc + 4))) ×
    (outside (row i x pc) ≡ seen_effects (seen pc (row i x pc))) =
    effect_passes s.around x pc (row i x pc) l h in
    record { instr = i; stands = f; does = q.0; sees = ap (λ (y : List Observation). marked s.marks pc ++ y) (sym q.1) }

-- straight code that goes to memory and on is a run: its effects are seen, and no mark where none stands
pub straight_walk : (s : MarkedEnvironment) (code : List Instr) (x : List ℕ) (pc : ℕ) → r.HasCodeAt s.around pc code → pc + 4 * length code < 2 ^ 64 →
    AreMemory (effects code x pc) → AreUnmarked s pc (length code) →
    Trace s (length code) (r.config x pc) (seen_effects (effects code x pc)) (r.config (registers_after code x pc) (pc + 4 * length code))
straight_walk s [] x pc h l m u = (let e : pc ≡ pc + 4 * 0 = omega arith in ap (λ (n : ℕ). r.config x n) e, refl)
straight_walk s (i ∷ is) x pc h l m u =
    let e : Effect = row i x pc in
    let later : List Effect = effects is (left_by x e) (pc + 4) in
    let first : IsTraceStep s (r.config x pc) (marked s.marks pc ++ seen_effects (seen pc e)) (r.config (left_by x e) (pc + 4)) =
    straight_one s i x pc h.0 (omega arith) (memory_left (seen pc e) later m) in
    let bare : IsTraceStep s (r.config x pc) (seen_effects (seen pc e)) (r.config (left_by x e) (pc + 4)) =
    subst (λ (y : List Observation). IsTraceStep s (r.config x pc) (y ++ seen_effects (seen pc e)) (r.config (left_by x e) (pc + 4))) u.0 first in
    let more : Trace s (length is) (r.config (left_by x e) (pc + 4)) (seen_effects later)
    (r.config (registers_after is (left_by x e) (pc + 4)) (pc + 4 + 4 * length is)) =
    straight_walk s is (left_by x e) (pc + 4) h.1 (omega arith) (memory_right (seen pc e) later m) u.1 in
    let z : pc + 4 + 4 * length is ≡ pc + 4 * length (i ∷ is) = omega arith in (
      r.config (left_by x e) (pc + 4),
      seen_effects (seen pc e),
      seen_effects later,
      bare,
      subst (λ (n : ℕ). Trace s (length is) (r.config (left_by x e) (pc + 4)) (seen_effects later) (r.config (registers_after is (left_by x e) (pc + 4)) n))
          z more,
      seen_of_both (seen pc e) later,
    )

-- the mark at the first instruction is seen, and nothing else but its effects
pub straight_from : (s : MarkedEnvironment) (i : Instr) (is : List Instr) (x : List ℕ) (pc : ℕ) → r.HasCodeAt s.around pc (i ∷ is) →
    pc + 4 * length (i ∷ is) < 2 ^ 64 →
    AreMemory (effects (i ∷ is) x pc) → AreUnmarked s (pc + 4) (length is) →
    Trace s (length (i ∷ is)) (r.config x pc) (marked s.marks pc ++ seen_effects (effects (i ∷ is) x pc))
    (r.config (registers_after (i ∷ is) x pc) (pc + 4 * length (i ∷ is)))
straight_from s i is x pc h l m u =
    let e : Effect = row i x pc in
    let later : List Effect = effects is (left_by x e) (pc + 4) in
    let first : IsTraceStep s (r.config x pc) (marked s.marks pc ++ seen_effects (seen pc e)) (r.config (left_by x e) (pc + 4)) =
    straight_one s i x pc h.0 (omega arith) (memory_left (seen pc e) later m) in
    let more : Trace s (length is) (r.config (left_by x e) (pc + 4)) (seen_effects later)
    (r.config (registers_after is (left_by x e) (pc + 4)) (pc + 4 + 4 * length is)) =
    straight_walk s is (left_by x e) (pc + 4) h.1 (omega arith) (memory_right (seen pc e) later m) u in
    let z : pc + 4 + 4 * length is ≡ pc + 4 * length (i ∷ is) = omega arith in (
      r.config (left_by x e) (pc + 4),
      marked s.marks pc ++ seen_effects (seen pc e),
      seen_effects later,
      first,
      subst (λ (n : ℕ). Trace s (length is) (r.config (left_by x e) (pc + 4)) (seen_effects later) (r.config (registers_after is (left_by x e) (pc + 4)) n))
          z more,
      ap (λ (y : List Observation). marked s.marks pc ++ y) (seen_of_both (seen pc e) later) ∙
          sym (append_assoc (marked s.marks pc) (seen_effects (seen pc e)) (seen_effects later)),
    )

pub silent_from : (s : MarkedEnvironment) (n : ℕ) (m to : r.LocalConfig) → ((pc : ℕ) → m.pc < pc → pc < to.pc → marked s.marks pc ≡ []) →
    r.LeadsIn s.around (suc n) m to →
    Trace s (suc n) m (marked s.marks m.pc) to
silent_from s n m to unmarked h =
    let forward : m.pc < h.0.pc = h.1.forward in
    let later : (h.0.pc ≤ to.pc) × Trace s n h.0 [] to = silent_walk s n h.0 to (λ pc low high. unmarked pc (omega arith) high) h.2 in
    (h.0, marked s.marks m.pc, [], step_passes s m h.0 h.1, later.1, sym (append_none (marked s.marks m.pc)))

-- ---- Other loads

load_answers : (s z : MarkedEnvironment) → Answers s z → (m to : r.LocalConfig) (address bytes register : ℕ) (signed : Bool) (o : Option ℕ) →
    s.around.loads address bytes ≡ o →
    option_map (λ (value : ℕ). r.config (written m.registers register (load_result bytes signed value)) (next m.pc)) o ≡ Some to →
    option_map (λ (value : ℕ). r.config (written m.registers register (load_result bytes signed value)) (next m.pc)) (z.around.loads address bytes) ≡ Some to
load_answers s z a m to address bytes register signed None e h = cc
load_answers s z a m to address bytes register signed (Some value) e h =
    ap (λ (o : Option ℕ). option_map (λ (value : ℕ). r.config (written m.registers register (load_result bytes signed value)) (next m.pc)) o)
    (a.loads address bytes value e) ∙ h

passed_answers : (s z : MarkedEnvironment) → Answers s z → (m to : r.LocalConfig) (e : Effect) → passed s.around m e ≡ Some to → passed z.around m e ≡ Some to
passed_answers s z a m to (Continues registers pc) h = h
passed_answers s z a m to (Loads address bytes signed register) h = load_answers s z a m to address bytes register signed (s.around.loads address bytes) refl h
passed_answers s z a m to (Stores address bytes value) h = h
passed_answers s z a m to (Cleans address) h = h
passed_answers s z a m to Fences h = h
passed_answers s z a m to Calls h = h

pub passes_answers : (s z : MarkedEnvironment) → Answers s z → (m to : r.LocalConfig) (observations : List Observation) → IsTraceStep s m observations to →
    IsTraceStep z m observations to
passes_answers s z a m to observations p = record {
  instr = p.instr;
  stands = a.fetches m.pc ∙ p.stands;
  does = passed_answers s z a m to (row p.instr m.registers m.pc) p.does;
  sees = p.sees ∙ ap (λ (x : List ℕ). marked x m.pc ++ outside (row p.instr m.registers m.pc)) (sym a.marks);
}

-- a run is one wherever its loads are answered with the same values
pub walk_answers : (s z : MarkedEnvironment) → Answers s z → (n : ℕ) (m to : r.LocalConfig) (observations : List Observation) → Trace s n m observations to →
    Trace z n m observations to
walk_answers s z a zero m to observations w = w
walk_answers s z a (suc n) m to observations w = (w.0, w.1, w.2, passes_answers s z a m w.0 w.1 w.3, walk_answers s z a n w.0 to w.2 w.4, w.5)

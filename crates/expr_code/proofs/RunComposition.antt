-- Runs put together from their parts.
use Rattle.std.proofs.Common.{◌≡◌, ℕ, zero, suc, ◌+◌, ◌*◌, ◌^◌, ◌<◌, ◌≤◌, List, [], ◌∷◌, ◌++◌, length, refl, ap, sym, ◌∙◌, arith, subst, Bool, true, false}
use Rattle.std.proofs.Common.{Option, Some, zero-add, ◌==◌}
use Rattle.std.specs.Prelude.{slice_set}
use Rattle.std.specs.Option.{option_map}
use Rattle.std.proofs.Math.Nat.{mod-eq_of_lt}
use Rattle.rv64_isa.specs.declared.instr.Instr.{Instr}
use Rattle.rv64_isa.specs.Rows.{Effect, Continues, Loads, Stores, Cleans, Fences, Calls, row, next, written, load_result}
use Rattle.operator_code.specs.StraightLineCode.{seen, left_by, effects, registers_after}
use Rattle.operator_code.specs.ComputingCode.{Computes}
use Rattle.operator_code.proofs.Public.{equal_by}
use Rattle.code_runs.specs.ComputingRuns.{Environment, LocalConfig, config, after, LeadsIn, HasCodeAt}
use Rattle.expr_code.specs.links.ForwardJumps.{LeadsBy}

leads_in-then : (s : Environment) (a b : ℕ) (m n o : LocalConfig) → LeadsIn s a m n → LeadsIn s b n o → LeadsIn s (a + b) m o
leads_in-then s zero b m n o e h = subst (λ (k : ℕ). LeadsIn s k m o) (sym (zero-add b)) (subst (λ (q : LocalConfig). LeadsIn s b q o) (sym e) h)
leads_in-then s (suc a) b m n o g h =
    let e : suc (a + b) ≡ suc a + b = omega arith in
    subst (λ (k : ℕ). LeadsIn s k m o) e (g.0, g.1, leads_in-then s a b g.0 n o g.2 h)

pub leads_then : (s : Environment) (m n o : LocalConfig) (a b : ℕ) → LeadsBy s m n a → LeadsBy s n o b → LeadsBy s m o (a + b)
leads_then s m n o a b g h = record {
  leads = record { steps = g.leads.steps + h.leads.steps; leads = leads_in-then s g.leads.steps h.leads.steps m n o g.leads.leads h.leads.leads };
  short = let first = g.short in let second = h.short in omega arith;
}

pub stay : (s : Environment) (m : LocalConfig) → LeadsBy s m m 0
stay s m = record { leads = record { steps = 0; leads = refl }; short = omega arith }

pub arrive : (s : Environment) (m : LocalConfig) (x : List ℕ) (a b most : ℕ) → a ≡ b → LeadsBy s m (config x a) most → LeadsBy s m (config x b) most
arrive s m x a b most e h = subst (λ (n : ℕ). LeadsBy s m (config x n) most) e h

pub within : (s : Environment) (m n : LocalConfig) (a b : ℕ) → a ≤ b → LeadsBy s m n a → LeadsBy s m n b
within s m n a b l h = record { leads = h.leads; short = let few = h.short in omega arith }

-- ---- One instruction

pub goes : (s : Environment) (i : Instr) (x y : List ℕ) (pc to : ℕ) → s.fetch pc ≡ Some i → row i x pc ≡ Continues y to → pc < to →
    LeadsBy s (config x pc) (config y to) 1
goes s i x y pc to f e l = record {
  leads = record {
    steps = 1;
    leads = (config y to, record { instr = i; stands = f; does = ap (λ (g : Effect). after s (config x pc) g) e; forward = l }, refl);
  };
  short = omega arith;
}

pub next_is : (pc : ℕ) → pc + 4 < 2 ^ 64 → next pc ≡ pc + 4
next_is pc l = mod-eq_of_lt l

pub loads : (s : Environment) (i : Instr) (x : List ℕ) (pc address bytes rd v : ℕ) (signed : Bool) → s.fetch pc ≡ Some i →
    row i x pc ≡ Loads address bytes signed rd → s.loads address bytes ≡ Some v → pc + 4 < 2 ^ 64 →
    LeadsBy s (config x pc) (config (written x rd (load_result bytes signed v)) (pc + 4)) 1
loads s i x pc address bytes rd v signed f e g l =
    let does : after s (config x pc) (row i x pc) ≡ Some (config (written x rd (load_result bytes signed v)) (pc + 4)) =
    ap (λ (h : Effect). after s (config x pc) h) e ∙
    ap (λ (o : Option ℕ). option_map (λ (value : ℕ). config (written x rd (load_result bytes signed value)) (next pc)) o) g ∙
    ap (λ (n : ℕ). Some (config (written x rd (load_result bytes signed v)) n)) (next_is pc l) in
    record {
      leads = record {
        steps = 1;
        leads = (config (written x rd (load_result bytes signed v)) (pc + 4), record { instr = i; stands = f; does = does; forward = omega arith }, refl);
      };
      short = omega arith;
    }

-- ---- Code in its place

pub stands_left : (s : Environment) (pc : ℕ) (a b : List Instr) → HasCodeAt s pc (a ++ b) → HasCodeAt s pc a
stands_left s pc [] b h = tt
stands_left s pc (i ∷ a) b h = (h.0, stands_left s (pc + 4) a b h.1)

pub stands_right : (s : Environment) (pc : ℕ) (a b : List Instr) → HasCodeAt s pc (a ++ b) → HasCodeAt s (pc + 4 * length a) b
stands_right s pc [] b h = let e : pc ≡ pc + 4 * 0 = omega arith in subst (λ (n : ℕ). HasCodeAt s n b) e h
stands_right s pc (i ∷ a) b h =
    let e : pc + 4 + 4 * length a ≡ pc + 4 * length (i ∷ a) = omega arith in
    subst (λ (n : ℕ). HasCodeAt s n b) e (stands_right s (pc + 4) a b h.1)

-- ---- Straight-line code

prefix_empty : (a b : List Effect) → a ++ b ≡ [] → a ≡ []
prefix_empty [] b e = refl
prefix_empty (f ∷ a) b e = cc

goes_on : (pc : ℕ) (y : List ℕ) (to : ℕ) → seen pc (Continues y to) ≡ [] → to ≡ next pc
goes_on pc y to e = by (to == next pc) refl
  where
    by : (b : Bool) → (to == next pc) ≡ b → to ≡ next pc
    by true t = equal_by to (next pc) t
    by false t = let h = rw t at e in cc

-- the first instruction of code with no effect goes on to the second
straight_first : (s : Environment) (i : Instr) (is : List Instr) (x : List ℕ) (pc : ℕ) →
    ((y : List ℕ) → effects is y (pc + 4) ≡ [] →
    LeadsBy s (config y (pc + 4)) (config (registers_after is y (pc + 4)) (pc + 4 + 4 * length is)) (length is)) →
    effects (i ∷ is) x pc ≡ [] → s.fetch pc ≡ Some i → pc + 4 * length (i ∷ is) < 2 ^ 64 →
    LeadsBy s (config x pc) (config (registers_after (i ∷ is) x pc) (pc + 4 * length (i ∷ is))) (length (i ∷ is))
straight_first s i is x pc rest_leads e h l = by (row i x pc) refl
  where
    seen_one : (f : Effect) → row i x pc ≡ f → seen pc f ≡ f ∷ [] → ⊥
    seen_one f w o =
        let z : seen pc f ++ effects is (left_by x f) (pc + 4) ≡ [] = ap (λ (g : Effect). seen pc g ++ effects is (left_by x g) (pc + 4)) (sym w) ∙ e in
        let none : seen pc f ≡ [] = prefix_empty (seen pc f) (effects is (left_by x f) (pc + 4)) z in
        cc (none, o)

    by : (f : Effect) → row i x pc ≡ f →
        LeadsBy s (config x pc) (config (registers_after (i ∷ is) x pc) (pc + 4 * length (i ∷ is))) (length (i ∷ is))
    by (Continues y to) w =
        let seen_none : seen pc (Continues y to) ++ effects is y (pc + 4) ≡ [] =
        ap (λ (f : Effect). seen pc f ++ effects is (left_by x f) (pc + 4)) (sym w) ∙ e in
        let none : seen pc (Continues y to) ≡ [] = prefix_empty (seen pc (Continues y to)) (effects is y (pc + 4)) seen_none in
        let small : pc + 4 < 2 ^ 64 = omega arith in
        let here : to ≡ pc + 4 = goes_on pc y to none ∙ next_is pc small in
        let rest : effects is y (pc + 4) ≡ [] = ap (λ (fs : List Effect). fs ++ effects is y (pc + 4)) (sym none) ∙ seen_none in
        let more = rest_leads y rest in
        let first = goes s i x y pc (pc + 4) h (w ∙ ap (λ (n : ℕ). Continues y n) here) (omega arith) in
        let end = config (registers_after is y (pc + 4)) (pc + 4 + 4 * length is) in
        let whole = within s (config x pc) end (1 + length is) (length (i ∷ is)) (omega arith)
        (leads_then s (config x pc) (config y (pc + 4)) end 1 (length is) first more) in
        let z : pc + 4 + 4 * length is ≡ pc + 4 * length (i ∷ is) = omega arith in
        subst (λ (q : List ℕ). LeadsBy s (config x pc) (config q (pc + 4 * length (i ∷ is))) (length (i ∷ is)))
        (ap (λ (f : Effect). registers_after is (left_by x f) (pc + 4)) (sym w))
        (arrive s (config x pc) (registers_after is y (pc + 4)) (pc + 4 + 4 * length is) (pc + 4 * length (i ∷ is)) (length (i ∷ is)) z whole)
    by (Loads address bytes signed register) w = absurd (seen_one (Loads address bytes signed register) w refl)
    by (Stores address bytes v) w = absurd (seen_one (Stores address bytes v) w refl)
    by (Cleans address) w = absurd (seen_one (Cleans address) w refl)
    by Fences w = absurd (seen_one Fences w refl)
    by Calls w = absurd (seen_one Calls w refl)

pub straight : (s : Environment) (code : List Instr) (x : List ℕ) (pc : ℕ) → effects code x pc ≡ [] → HasCodeAt s pc code → pc + 4 * length code < 2 ^ 64 →
    LeadsBy s (config x pc) (config (registers_after code x pc) (pc + 4 * length code)) (length code)
straight s [] x pc e h l = let z : pc ≡ pc + 4 * 0 = omega arith in arrive s (config x pc) x pc (pc + 4 * 0) 0 z (stay s (config x pc))
straight s (i ∷ is) x pc e h l =
    let room : pc + 4 + 4 * length is < 2 ^ 64 = omega arith in
    straight_first s i is x pc (λ y none. straight s is y (pc + 4) none h.1 room) e h.0 l

pub computes : (s : Environment) (code : List Instr) (x : List ℕ) (pc rd v : ℕ) → Computes code x rd v → HasCodeAt s pc code → pc + 4 * length code < 2 ^ 64 →
    LeadsBy s (config x pc) (config (slice_set x rd v) (pc + 4 * length code)) (length code)
computes s code x pc rd v c h l =
    subst (λ (y : List ℕ). LeadsBy s (config x pc) (config y (pc + 4 * length code)) (length code)) (c.changes pc) (straight s code x pc (c.unseen pc) h l)

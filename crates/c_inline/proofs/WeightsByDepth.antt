-- Calls that lead no deeper than so far: what is found so deep is found at every greater depth.
use Rattle.std.proofs.Common.{◌≡◌, ℕ, zero, suc, ◌≤◌, List, [], length, Option, Some, None, refl, sym, ap, ◌∙◌, subst, arith, ⊎_elim}
use Rattle.std.specs.Prelude.{Contains, slice_get}
use Rattle.std.proofs.lemmas.Bool.{cases_lt}
use Rattle.std.proofs.lemmas.Option.{slice_get_past}
use Rattle.c_tree.specs.Programs as p
use Rattle.c_tree.specs.Flats as f
use Rattle.c_tree.specs.Inlining as i
use Rattle.c_inline.specs.declared.weight.Weights.{Weights}
use Rattle.c_inline.specs.links.Weights as v
use Rattle.c_inline.specs.links.KnownWeights.{Low}
use Rattle.c_inline.proofs.CallCongruence.{same_weight, same_statements}

module _ (fs : List p.Function) where
  pub low_more : (d e g : ℕ) → d ≤ e → Low fs d g → Low fs e g
  low_more zero e g le h = absurd h
  low_more (suc d) zero g le h = absurd (omega arith)
  low_more (suc d) (suc e) g le h = λ c k l. low_more d e c.function (omega arith) (h c k l)

  pub calls_of_some : (g : ℕ) (x : p.Function) → slice_get fs g ≡ Some x → i.calls_in fs g ≡ i.statements_calls x.body
  calls_of_some g x e = ap (λ (o : Option p.Function). elim o as (λ _. List i.Call) [ Some y ↦ i.statements_calls y.body | None ↦ [] ]) e

  -- ---- Weights
  module _ (w : Weights) (call : ℕ) where
    pub weight_past : (d g : ℕ) → length fs ≤ g → v.function_weight w call fs d g ≡ 0
    weight_past zero g le = refl
    weight_past (suc d) g le =
        ap (λ (o : Option p.Function). elim o as (λ _. ℕ) [ Some x ↦ v.statements_weight w call fs (v.function_weight w call fs d) x.body | None ↦ 0 ])
        (slice_get_past fs g le)

    pub stable_weight : (d e g : ℕ) → d ≤ e → Low fs d g → v.function_weight w call fs e g ≡ v.function_weight w call fs d g
    stable_weight zero e g le h = absurd h
    stable_weight (suc d) zero g le h = absurd (omega arith)
    stable_weight (suc d) (suc e) g le h = at (slice_get fs g) refl (λ j l. stable_weight d e j (omega arith) l)
      where
        at : (o : Option p.Function) → slice_get fs g ≡ o → ((j : ℕ) → Low fs d j → v.function_weight w call fs e j ≡ v.function_weight w call fs d j) →
            ◌≡◌ {A = ℕ} (elim o [ Some x ↦ v.statements_weight w call fs (v.function_weight w call fs e) x.body | None ↦ 0 ])
            (elim o [ Some x ↦ v.statements_weight w call fs (v.function_weight w call fs d) x.body | None ↦ 0 ])
        at (Some x) k less = same_weight w call fs (v.function_weight w call fs e) (v.function_weight w call fs d) x.body
            (λ c m. ⊎_elim (λ l. less c.function (h c (subst (λ xs. Contains xs c) (sym (calls_of_some g x k)) m) l))
            (λ past. weight_past e c.function past ∙ sym (weight_past d c.function past)) (cases_lt c.function (length fs)))
        at None k less = refl

    -- a function weighs what its body does, with functions that weigh what they do
    pub fixed_weight : (d g : ℕ) (x : p.Function) → d ≤ length fs → Low fs d g → slice_get fs g ≡ Some x →
        v.function_weight w call fs (length fs) g ≡ v.statements_weight w call fs (v.function_weight w call fs (length fs)) x.body
    fixed_weight d g x le h k =
        stable_weight d (length fs) g le h ∙ sym (stable_weight d (suc (length fs)) g (omega arith) h)
        ∙ ap (λ (o : Option p.Function). elim o as (λ _. ℕ) [
          | Some y ↦ v.statements_weight w call fs (v.function_weight w call fs (length fs)) y.body
          | None ↦ 0
        ]) k

  -- ---- Bodies
  pub bodies_past : (d g : ℕ) (ks : i.Locals) → length fs ≤ g → i.bodies_of fs d g ks ≡ record { made = f.no_statement; locals = ks }
  bodies_past zero g ks le = refl
  bodies_past (suc d) g ks le =
      ap (λ (o : Option p.Function). elim o as (λ _. i.Made f.Statements) [
        | Some x ↦ i.statements fs (i.bodies_of fs d) (length ks.kinds) (i.joined ks (i.locals x.locals x.refers)) x.body
        | None ↦ record { made = f.no_statement; locals = ks }
      ]) (slice_get_past fs g le)

  pub stable_bodies : (d e g : ℕ) (ks : i.Locals) → d ≤ e → Low fs d g → i.bodies_of fs e g ks ≡ i.bodies_of fs d g ks
  stable_bodies zero e g ks le h = absurd h
  stable_bodies (suc d) zero g ks le h = absurd (omega arith)
  stable_bodies (suc d) (suc e) g ks le h = at (slice_get fs g) refl (λ j js l. stable_bodies d e j js (omega arith) l)
    where
      at : (o : Option p.Function) → slice_get fs g ≡ o → ((j : ℕ) (js : i.Locals) → Low fs d j → i.bodies_of fs e j js ≡ i.bodies_of fs d j js) →
          ◌≡◌ {A = i.Made f.Statements}
          (elim o [
            | Some x ↦ i.statements fs (i.bodies_of fs e) (length ks.kinds) (i.joined ks (i.locals x.locals x.refers)) x.body
            | None ↦ record { made = f.no_statement; locals = ks }
          ])
          (elim o [
            | Some x ↦ i.statements fs (i.bodies_of fs d) (length ks.kinds) (i.joined ks (i.locals x.locals x.refers)) x.body
            | None ↦ record { made = f.no_statement; locals = ks }
          ])
      at (Some x) k less = same_statements fs (i.bodies_of fs e) (i.bodies_of fs d) (length ks.kinds) (i.joined ks (i.locals x.locals x.refers)) x.body
          (λ c js m. ⊎_elim (λ l. less c.function js (h c (subst (λ xs. Contains xs c) (sym (calls_of_some g x k)) m) l))
          (λ past. bodies_past e c.function js past ∙ sym (bodies_past d c.function js past)) (cases_lt c.function (length fs)))
      at None k less = refl

  -- a body is that of the function, with the calls in it replaced by bodies
  pub fixed_bodies : (d g : ℕ) (ks : i.Locals) (x : p.Function) → d ≤ length fs → Low fs d g → slice_get fs g ≡ Some x →
      i.bodies_of fs (length fs) g ks ≡ i.statements fs (i.bodies_of fs (length fs)) (length ks.kinds) (i.joined ks (i.locals x.locals x.refers)) x.body
  fixed_bodies d g ks x le h k =
      stable_bodies d (length fs) g ks le h ∙ sym (stable_bodies d (suc (length fs)) g ks (omega arith) h)
      ∙ ap (λ (o : Option p.Function). elim o as (λ _. i.Made f.Statements) [
        | Some y ↦ i.statements fs (i.bodies_of fs (length fs)) (length ks.kinds) (i.joined ks (i.locals y.locals y.refers)) y.body
        | None ↦ record { made = f.no_statement; locals = ks }
      ]) k

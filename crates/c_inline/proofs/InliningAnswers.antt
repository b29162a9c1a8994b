-- Whether calls lead back, by the lists of calls and by the functions.
use Rattle.std.proofs.Common.{◌≡◌, ℕ, List, map, Option, Vec, Global, refl, sym, ap, ◌∙◌, subst, arith}
use Rattle.std.specs.Prelude.{Contains}
use Rattle.ido_base.specs.declared.place.Place.{Place}
use Rattle.c_tree.specs.Programs as p
use Rattle.c_tree.specs.Inlining as i
use Rattle.c_inline.specs.declared.calls.Call.{Call}
use Rattle.c_inline.specs.links.Calls as c
use Rattle.c_inline.specs.links.Calls.{calls_at, lists_of, function_calls}
use Rattle.c_inline.specs.links.Weights as v
use Rattle.c_inline.specs.links.KnownWeights.{AreRight, IsUnknown, IsClosed}
use Rattle.c_inline.specs.links.InlinedBodies.{AreSized}
use Rattle.c_inline.proofs.CallLists.{calls_at_function}
use Rattle.c_inline.proofs.WeightUpdates.{known_cases}
use Rattle.c_inline.proofs.Cycle.{call_back}

module _ (cs : List (Vec Call Global)) (fs : List p.Function) (lists : lists_of cs ≡ map function_calls fs) where
  calls_same : (g : ℕ) → calls_at (lists_of cs) g ≡ i.calls_in fs g
  calls_same g = ap (λ (l : List (List i.Call)). calls_at l g) lists ∙ calls_at_function fs g

  leads_in : (to from : ℕ) → c.CallsLead (lists_of cs) to from → i.CallsReach fs to from
  leads_in to from c.there = i.there
  leads_in to from (c.by_call _ x k rest) = i.by_call from x (subst (λ (l : List i.Call). Contains l x) (calls_same from) k) (leads_in to x.function rest)

  leads_listed : (to from : ℕ) → i.CallsReach fs to from → c.CallsLead (lists_of cs) to from
  leads_listed to from i.there = c.there
  leads_listed to from (i.by_call _ x k rest) =
      c.by_call from x (subst (λ (l : List i.Call). Contains l x) (sym (calls_same from)) k) (leads_listed to x.function rest)

  back_in : (x : i.Call) → c.LeadsBack (lists_of cs) x → i.LeadsBack fs x
  back_in x b =
      record { caller = b.caller; made = subst (λ (l : List i.Call). Contains l x) (calls_same b.caller) b.made; back = leads_in b.caller x.function b.back }

  back_listed : (x : i.Call) → i.LeadsBack fs x → c.LeadsBack (lists_of cs) x
  back_listed x b = record {
    caller = b.caller;
    made = subst (λ (l : List i.Call). Contains l x) (sym (calls_same b.caller)) b.made;
    back = leads_listed b.caller x.function b.back;
  }

  pub none_back : ((x : i.Call) → c.LeadsBack (lists_of cs) x → ⊥) → (x : i.Call) → i.LeadsBack fs x → ⊥
  none_back h x b = h x (back_listed x b)

  pub first_back_is : (place : Place) → c.IsFirstBack (lists_of cs) place → i.IsFirstBack fs place
  first_back_is place h = record { call = h.call; stands = h.stands; back = back_in h.call h.back; first = λ x b. h.first x (back_listed x b) }

module _ (fs : List p.Function) (known : List (Option ℕ)) (closed : IsClosed fs known) (ends : (x : i.Call) → i.LeadsBack fs x → ⊥) where
  pub none_unknown : (g : ℕ) → IsUnknown known g → ⊥
  none_unknown g u = let r = call_back fs known closed g u in ends r.0 r.1

  pub are_sized : AreRight v.size fs known → AreSized fs known
  are_sized is_right = record { right = is_right; known = λ g l. known_cases known g (omega (arith, l, is_right.covers)) (none_unknown g) }

-- ---- What is answered

pub flat_is : (x : p.Program) → i.flat_form x ≡ record { mutexes = x.mutexes; variables = x.variables; threads = map (i.flat_thread x.functions) x.threads }
unfolding i.flat_form
flat_is x = refl

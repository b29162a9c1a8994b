-- The first thread that costs too much, thread after thread.
use Rattle.std.proofs.Common.{◌≡◌, ◌<◌, ◌≤◌, ◌+◌, ℕ, List, ◌∷◌, Some, Bool, true, false}
use Rattle.std.proofs.Common.{cond, drop, get_or, length, map, refl, sym, ap, ◌∙◌, subst, arith}
use Rattle.std.specs.Prelude.{Result, Ok, Err, IsErrAnd, find, nat_lt}
use Rattle.std.specs.Option.{option_map}
use Rattle.std.proofs.lemmas.Bool.{lt-ltb, le-ltb}
use Rattle.std.proofs.lemmas.List.{drop_more}
use Rattle.ido_base.specs.declared.limits.TheConstants.{MOST_PRICE}
use Rattle.c_tree.specs.declared.language.Language.{Language}
use Rattle.c_tree.specs.declared.language.Language.TheVariants.{Plain, Full}
use Rattle.c_tree.specs.declared.program.Thread.{Thread}
use Rattle.c_tree.specs.Programs as p
use Rattle.c_tree.specs.Programs.{thread_of}
use Rattle.c_tree.specs.Flats as f
use Rattle.c_tree.specs.Inlining as i
use Rattle.c_tree.specs.Prices.{thread_price}
use Rattle.c_tree.specs.AcceptedTexts.{HasNoBack}
use Rattle.c_tree.specs.HoldPrices.{full_price, price_fault}
use Rattle.c_inline.specs.declared.inline.InlineError.{InlineError}
use Rattle.c_inline.specs.declared.inline.InlineError.TheVariants as e
use Rattle.c_inline.specs.Inline.{IsInlining}
use Rattle.c_inline.specs.links.Faults.{IsDear, IsThreadFault, fault_among, form_with}

-- what `?` hands on
pub told_error : {X : Type 0} (Meets : Result X InlineError → Type 0) (x : InlineError) (r : Result X InlineError) → IsErrAnd r (λ y. y ≡ x) → Meets (Err x) →
    Meets r
told_error Meets x (Ok y) h is = absurd h
told_error Meets x (Err y) h is = subst (λ (z : InlineError). Meets (Err z)) (sym h) is

-- what is held is paid beside the steps
pub full_no_less : (l : Language) (x : f.Flat) (t : f.Thread) → thread_price t ≤ full_price l x t
full_no_less Plain x t = omega arith
full_no_less Full x t = omega arith

module _ (l : Language) (ms : List p.Mutex) (fs : List p.Function) where
  abbrev is_dear : f.Thread → Bool
  is_dear t = nat_lt MOST_PRICE (full_price l (form_with ms) t)

  fault_if : (b : Bool) (t : p.Thread) (rest : List p.Thread) → is_dear (i.flat_thread fs t) ≡ b →
      fault_among l ms fs (t ∷ rest) ≡ cond b (Some t.name.place) (fault_among l ms fs rest)
  fault_if true t rest h =
      ap (λ (b : Bool). option_map (λ (y : f.Thread). y.name.place) (cond b (Some (i.flat_thread fs t)) (find is_dear (map (i.flat_thread fs) rest)))) h
  fault_if false t rest h =
      ap (λ (b : Bool). option_map (λ (y : f.Thread). y.name.place) (cond b (Some (i.flat_thread fs t)) (find is_dear (map (i.flat_thread fs) rest)))) h

  module _ (xs : List Thread) (k : ℕ) (x : Thread) (low : k < length xs) (is : x ≡ get_or xs k x) where
    from_here : drop k xs ≡ x ∷ drop (k + 1) xs
    from_here = drop_more xs k x low ∙ ap (λ (y : Thread). y ∷ drop (k + 1) xs) (sym is)

    pub fault_here : MOST_PRICE < full_price l (form_with ms) (i.flat_thread fs (thread_of x)) →
        fault_among l ms fs (map thread_of (drop k xs)) ≡ Some x.name.place
    fault_here dear =
        ap (λ (ys : List Thread). fault_among l ms fs (map thread_of ys)) from_here
        ∙ fault_if true (thread_of x) (map thread_of (drop (k + 1) xs)) (lt-ltb _ _ dear)

    pub fault_later : full_price l (form_with ms) (i.flat_thread fs (thread_of x)) ≤ MOST_PRICE →
        fault_among l ms fs (map thread_of (drop k xs)) ≡ fault_among l ms fs (map thread_of (drop (k + 1) xs))
    fault_later cheap =
        ap (λ (ys : List Thread). fault_among l ms fs (map thread_of ys)) from_here
        ∙ fault_if false (thread_of x) (map thread_of (drop (k + 1) xs)) (le-ltb _ _ cheap)

    pub fault_told : (found : InlineError) → IsDear l ms (i.flat_thread fs (thread_of x)) found →
        fault_among l ms fs (map thread_of (drop k xs)) ≡ fault_among l ms fs (map thread_of xs) → IsThreadFault l ms fs (map thread_of xs) found
    fault_told (e.Code place) dear same = sym same ∙ (fault_here dear.1 ∙ ap Some (sym dear.0))
    fault_told (e.Recursion place) dear same = dear
    fault_told e.Memory dear same = tt

-- of a form's parts prices ask for its mutexes alone
pub fault_is : (l : Language) (x : p.Program) → price_fault l (i.flat_form x) ≡ fault_among l x.mutexes x.functions x.threads
unfolding price_fault i.flat_form
fault_is Plain x = refl
fault_is Full x = refl

pub form_refused : (l : Language) (x : p.Program) (found : InlineError) → HasNoBack x → IsThreadFault l x.mutexes x.functions x.threads found →
    IsInlining l x (Err found)
form_refused l x (e.Code place) ends fault = (ends, fault_is l x ∙ fault)
form_refused l x (e.Recursion place) ends fault = absurd fault
form_refused l x e.Memory ends fault = tt

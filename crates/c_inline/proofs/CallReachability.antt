-- Functions that are reached from one, and those that wait for their calls to be followed.
use Rattle.std.proofs.Common.{◌≡◌, ◌⊎◌, ℕ, zero, suc, ◌+◌, ◌*◌, ◌<◌, ◌≤◌, List, [], ◌∷◌, ◌++◌, length, get_or, set, replicate}
use Rattle.std.proofs.Common.{Bool, true, false, cond, not, Option, Some, None, refl, sym, ap, ◌∙◌, subst, arith, inl, inr, ⊎_elim}
use Rattle.std.specs.Prelude.{Contains, slice_get, count_by}
use Rattle.std.proofs.lemmas.Bool.{cases_lt, cases_eq, false≢true}
use Rattle.std.proofs.lemmas.List.{length-set, length_push}
use Rattle.std.proofs.lemmas.List.Elements.{Contains-push, Contains-push_cases, Contains-append_left}
use Rattle.std.proofs.lemmas.List.Sums.{sum_by-set}
use Rattle.std.proofs.lemmas.Option.{slice_get_past, slice_get_within, get_or_from_slice_get, same_Some, none-some}
use Rattle.c_tree.specs.Inlining.{Call}
use Rattle.c_inline.specs.links.Calls.{calls_at, CallsLead}
use Rattle.c_inline.specs.links.ReachedFunctions.{IsReachedFunction}
use Rattle.c_inline.proofs.WeightUpdates.{get_set_same, get_set_other}

-- how many are not reached
abbrev pub unreached : List Bool → ℕ
unreached reached = count_by not reached

-- function g is not the one that is looked for, and all that it calls is reached
abbrev pub Done : List (List Call) → (to : ℕ) → List Bool → (g : ℕ) → Type 0
Done cs to reached g = (g ≡ to → ⊥) × ((c : Call) → Contains (calls_at cs g) c → slice_get reached c.function ≡ Some false → ⊥)

-- what is reached waits, is at hand, or is done
pub record Searched (cs : List (List Call)) (to from : ℕ) (at_hand : ℕ → Type 0) (reached : List Bool) (waiting : List ℕ) : Type 0 where
  pub covers : length reached ≡ length cs
  pub led : (g : ℕ) → Contains waiting g → (g < length cs) × CallsLead cs g from
  pub state : (g : ℕ) → slice_get reached g ≡ Some true → Contains waiting g ⊎ (at_hand g ⊎ Done cs to reached g)

pub leads_on : (cs : List (List Call)) (to from : ℕ) (c : Call) → Contains (calls_at cs to) c → CallsLead cs to from → CallsLead cs c.function from
leads_on cs to from c k CallsLead.there = CallsLead.by_call from c k CallsLead.there
leads_on cs to from c k (CallsLead.by_call _ d m rest) = CallsLead.by_call _ d m (leads_on cs to d.function c k rest)

pub no_calls_past : (cs : List (List Call)) (g : ℕ) → length cs ≤ g → calls_at cs g ≡ []
no_calls_past cs g le = ap (λ (o : Option (List Call)). elim o as (λ _. List Call) [ Some x ↦ x | None ↦ [] ]) (slice_get_past cs g le)

pub caller_within : (cs : List (List Call)) (g : ℕ) (c : Call) → Contains (calls_at cs g) c → g < length cs
caller_within cs g c k =
    ⊎_elim (λ l. l) (λ le. absurd (let e : length (calls_at cs g) ≡ 0 = ap length (no_calls_past cs g le) in omega (arith, k.1))) (cases_lt g (length cs))

leads_within : (cs : List (List Call)) (to g : ℕ) → to < length cs → CallsLead cs to g → g < length cs
leads_within cs to g l CallsLead.there = l
leads_within cs to g l (CallsLead.by_call _ c k rest) = caller_within cs g c k

reached_or_not : (reached : List Bool) (g : ℕ) → g < length reached → (slice_get reached g ≡ Some false → ⊥) → slice_get reached g ≡ Some true
reached_or_not [] g l not_false = absurd (omega arith)
reached_or_not (true ∷ xs) zero l not_false = refl
reached_or_not (false ∷ xs) zero l not_false = absurd (not_false refl)
reached_or_not (x ∷ xs) (suc g) l not_false = reached_or_not xs g (omega arith) not_false

-- nothing waits: calls do not lead there
pub not_led : (cs : List (List Call)) (to : ℕ) (reached : List Bool) → to < length cs → length reached ≡ length cs →
    ((g : ℕ) → slice_get reached g ≡ Some true → Done cs to reached g) →
    (g : ℕ) → slice_get reached g ≡ Some true → CallsLead cs to g → ⊥
not_led cs to reached l covers done g r CallsLead.there = (done to r).0 refl
not_led cs to reached l covers done g r (CallsLead.by_call _ c k rest) =
    not_led cs to reached l covers done c.function
    (reached_or_not reached c.function (omega (arith, covers, leads_within cs to c.function l rest)) ((done g r).1 c k)) rest

true_false : (x : Bool) → Some x ≡ Some true → Some x ≡ Some false → ⊥
true_false x a b = false≢true (sym (same_Some x false b) ∙ same_Some x true a)

some_true_false : (o : Option Bool) → o ≡ Some true → o ≡ Some false → ⊥
some_true_false o a b = false≢true (same_Some false true (sym b ∙ a))

module _ (cs : List (List Call)) (to from : ℕ) (at_hand : ℕ → Type 0) (reached : List Bool) (waiting : List ℕ) (h : ℕ) (reached' : List Bool)
    (waiting' : List ℕ) where
  -- a function is reached
  pub searched_reached : Searched cs to from at_hand reached waiting → (h < length cs → CallsLead cs h from) →
      IsReachedFunction reached waiting h reached' waiting' →
      Searched cs to from at_hand reached' waiting'
  searched_reached s led (inl (was_not, r, w)) =
      let within = slice_get_within reached h false was_not in
      let same : slice_get reached' h ≡ Some true = ap (λ (x : List Bool). slice_get x h) r ∙ get_set_same reached h true within in
      let other : (g : ℕ) → (g ≡ h → ⊥) → slice_get reached' g ≡ slice_get reached g =
      λ g ne. ap (λ (x : List Bool). slice_get x g) r ∙ get_set_other reached h g true ne in
      let kept : (g : ℕ) → slice_get reached' g ≡ Some false → slice_get reached g ≡ Some false =
      λ g e. ⊎_elim (λ is. absurd (some_true_false (slice_get reached' g) (ap (slice_get reached') is ∙ same) e)) (λ ne. sym (other g ne) ∙ e) (cases_eq g h) in
      record {
        covers = ap length r ∙ length-set reached h true ∙ s.covers;
        led =
            λ g k. ⊎_elim (s.led g) (λ is.
            subst (λ (x : ℕ). (x < length cs) × CallsLead cs x from) is (let l : h < length cs = omega (arith, within, s.covers) in (l, led l)))
            (Contains-push_cases waiting h g (subst (λ (x : List ℕ). Contains x g) w k));
        state = λ g e. ⊎_elim
            (λ is. inl (subst (λ (x : List ℕ). Contains x g) (sym w) (subst (λ (x : ℕ). Contains (waiting ++ h ∷ []) x) (sym is) (Contains-push waiting h))))
            (λ ne. ⊎_elim
            (λ k. inl (subst (λ (x : List ℕ). Contains x g) (sym w) (Contains-append_left waiting (h ∷ []) g k)))
            (λ rest. inr (⊎_elim inl (λ done. inr (done.0, λ c k m. done.1 c k (kept c.function m))) rest))
            (s.state g (sym (other g ne) ∙ e)))
            (cases_eq g h);
      }
  searched_reached s led (inr (other, r, w)) =
      subst (λ (x : List Bool). Searched cs to from at_hand x waiting') (sym r) (subst (λ (x : List ℕ). Searched cs to from at_hand reached x) (sym w) s)

  -- what was reached stays so where one more function is reached
  pub still_reached : IsReachedFunction reached waiting h reached' waiting' → (g : ℕ) → (slice_get reached g ≡ Some false → ⊥) →
      slice_get reached' g ≡ Some false → ⊥
  still_reached (inl (was_not, r, w)) g was e =
      ⊎_elim (λ is. some_true_false (slice_get reached' g)
      (ap (slice_get reached') is ∙ ap (λ (x : List Bool). slice_get x h) r ∙ get_set_same reached h true (slice_get_within reached h false was_not)) e)
      (λ ne. was (sym (get_set_other reached h g true ne) ∙ sym (ap (λ (x : List Bool). slice_get x g) r) ∙ e)) (cases_eq g h)
  still_reached (inr (other, r, w)) g was e = was (sym (ap (λ (x : List Bool). slice_get x g) r) ∙ e)

  pub now_reached : IsReachedFunction reached waiting h reached' waiting' → slice_get reached' h ≡ Some false → ⊥
  now_reached (inl (was_not, r, w)) e =
      some_true_false (slice_get reached' h)
      (ap (λ (x : List Bool). slice_get x h) r ∙ get_set_same reached h true (slice_get_within reached h false was_not)) e
  now_reached (inr (other, r, w)) e = other (sym (ap (λ (x : List Bool). slice_get x h) r) ∙ e)

  -- of what is left, a function that is reached counts twice, and one that waits once
  pub less_left : IsReachedFunction reached waiting h reached' waiting' → 2 * unreached reached' + length waiting' ≤ 2 * unreached reached + length waiting
  less_left (inl (was_not, r, w)) =
      let one : Bool → ℕ = λ x. cond (not x) 1 0 in
      let a = sum_by-set one reached h true false (slice_get_within reached h false was_not) in
      let b : one (get_or reached h false) ≡ 1 = ap one (get_or_from_slice_get reached h false false was_not) in
      let c : unreached reached' ≡ unreached (set reached h true) = ap unreached r in
      let d : length waiting' ≡ length waiting + 1 = ap length w ∙ length_push waiting h in
      omega (arith, a, b, c, d)
  less_left (inr (other, r, w)) = omega (arith, ap unreached r, ap length w)

module _ (cs : List (List Call)) (to from : ℕ) (reached : List Bool) where
  -- at first nothing is reached
  pub searched_none : length reached ≡ length cs → ((g : ℕ) → slice_get reached g ≡ Some true → ⊥) → Searched cs to from (λ g. ⊥) reached []
  searched_none covers none = record {
    covers = covers;
    led = λ g k. absurd (omega (arith, k.1));
    state = λ g e. absurd (none g e);
  }

  -- one that waits is taken
  pub searched_taken : (waiting rest : List ℕ) (f : ℕ) → waiting ≡ rest ++ f ∷ [] → Searched cs to from (λ g. ⊥) reached waiting →
      Searched cs to from (λ g. g ≡ f) reached rest
  searched_taken waiting rest f e s = record {
    covers = s.covers;
    led = λ g k. s.led g (subst (λ (x : List ℕ). Contains x g) (sym e) (Contains-append_left rest (f ∷ []) g k));
    state = λ g r. ⊎_elim
        (λ k. ⊎_elim inl (λ is. inr (inl (sym is))) (Contains-push_cases rest f g (subst (λ (x : List ℕ). Contains x g) e k)))
        (λ other. inr (⊎_elim (λ no_one. absurd no_one) inr other))
        (s.state g r);
  }

  -- once the function at hand is done, the search goes on with none at hand
  pub searched_done : (rest : List ℕ) (f : ℕ) → Done cs to reached f → Searched cs to from (λ g. g ≡ f) reached rest → Searched cs to from (λ g. ⊥) reached rest
  searched_done rest f done s = record {
    covers = s.covers;
    led = s.led;
    state = λ g r. ⊎_elim inl (λ other. inr (inr (⊎_elim (λ is. subst (λ (x : ℕ). Done cs to reached x) (sym is) done) (λ d. d) other))) (s.state g r);
  }

  -- nothing waits
  pub searched_all : (waiting : List ℕ) → waiting ≡ [] → to < length cs → (slice_get reached from ≡ Some false → ⊥) →
      Searched cs to from (λ g. ⊥) reached waiting → CallsLead cs to from → ⊥
  searched_all waiting e l begun s =
      λ leads. not_led cs to reached l s.covers
      (λ g r. ⊎_elim (λ k. absurd (omega (arith, k.1, ap length e))) (λ other. ⊎_elim (λ no_one. absurd no_one) (λ d. d) other) (s.state g r))
      from (reached_or_not reached from (omega (arith, s.covers, leads_within cs to from l leads)) begun) leads

pub none_reached : (n g : ℕ) → slice_get (replicate n false) g ≡ Some true → ⊥
none_reached zero g e = none-some true e
none_reached (suc n) zero e = false≢true (same_Some false true e)
none_reached (suc n) (suc g) e = none_reached n g e

-- A search that has gone on from all that it came to has found each end to which steps lead.
use Rattle.std.proofs.Common.{◌≡◌, ◌⊎◌, ◌↔◌, inl, inr, ℕ, zero, suc, ◌<◌, Bool, true, false, not, cond, List, [], ◌∷◌, ◌++◌, length, get_or, set, replicate}
use Rattle.std.proofs.Common.{Some, refl, ap, sym, subst, ◌∙◌, arith, length-set}
use Rattle.std.specs.Prelude.{Contains, slice_get}
use Rattle.std.proofs.lemmas.Bool.{cases_eq}
use Rattle.std.proofs.lemmas.List.{length-replicate, length_push}
use Rattle.std.proofs.lemmas.List.Elements.{Contains-push, Contains-push_cases, Contains-append_left}
use Rattle.std.proofs.lemmas.List.Sums.{sum_by-set}
use Rattle.std.proofs.lemmas.Option.{slice_get_within, get_or_from_slice_get}
use Rattle.region_cutter.specs.links.GraphSearch.{ReachesEnd, there, goes_on, IsSeen, IsSearchStep, Followed, Searched}
use Rattle.region_cutter.proofs.Lists.{get_set_same, get_set_other}

-- ---- What is seen

pub none_seen : (n node : ℕ) → IsSeen (replicate n false) node → ⊥
none_seen zero node e = cc
none_seen (suc n) zero e = cc
none_seen (suc n) (suc node) e = none_seen n node e

pub all_seen : (n node : ℕ) → node < n → IsSeen (replicate n true) node
all_seen zero node lt = absurd (omega (arith, lt))
all_seen (suc n) zero lt = refl
all_seen (suc n) (suc node) lt = all_seen n node (omega (arith, lt))

pub none_waits : (waiting : List ℕ) (node : ℕ) → waiting ≡ [] → Contains waiting node → ⊥
none_waits waiting node e k = omega (arith, k.1, ap length e)

-- ---- Nodes to come to

pub follows_none : (to : ℕ → Type 0) (seen : List Bool) (waiting : List ℕ) → ((node : ℕ) → to node → node < length seen → IsSeen seen node) →
    IsSearchStep to seen waiting seen waiting
follows_none to seen waiting all =
    record { long = refl; new = λ n k. inl k; waits = λ n k. k; kept = λ n s. s; known = λ n s. inl s; all = all; less = omega arith }

pub follows_new : (seen : List Bool) (waiting : List ℕ) (number : ℕ) → slice_get seen number ≡ Some false →
    IsSearchStep (λ node. number ≡ node) seen waiting (set seen number true) (waiting ++ number ∷ [])
follows_new seen waiting number was =
    let within = slice_get_within seen number false was in
    let same : IsSeen (set seen number true) number = get_set_same seen number true within in record {
      long = length-set seen number true;
      new = λ n k. elim (Contains-push_cases waiting number n k) [ inl old ↦ inl old | inr is ↦ inr (subst (λ (m : ℕ). m < length seen) is within, is) ];
      waits = λ n k. Contains-append_left waiting (number ∷ []) n k;
      kept = λ n s. elim (cases_eq n number) [
        | inl is ↦ subst (λ (m : ℕ). IsSeen (set seen number true) m) (sym is) same
        | inr other ↦ get_set_other seen number n true other ∙ s
      ];
      known = λ n s. elim (cases_eq n number) [
        | inl is ↦ inr (subst (λ (m : ℕ). Contains (waiting ++ number ∷ []) m) (sym is) (Contains-push waiting number))
        | inr other ↦ inl (sym (get_set_other seen number n true other) ∙ s)
      ];
      all = λ n is lt. subst (λ (m : ℕ). IsSeen (set seen number true) m) is same;
      less =
          let one : Bool → ℕ = λ x. cond (not x) 1 0 in
          let a = sum_by-set one seen number true false within in
          let b : one (get_or seen number false) ≡ 1 = ap one (get_or_from_slice_get seen number false false was) in
          omega (arith, a, b, length_push waiting number);
    }

pub follows_as : (to other : ℕ → Type 0) (seen : List Bool) (waiting : List ℕ) (seen' : List Bool) (waiting' : List ℕ) → ((node : ℕ) → to node ↔ other node) →
    IsSearchStep to seen waiting seen' waiting' → IsSearchStep other seen waiting seen' waiting'
follows_as to other seen waiting seen' waiting' same f = record {
  long = f.long;
  new = λ n k. elim (f.new n k) [ inl old ↦ inl old | inr h ↦ inr (h.0, (same n).0 h.1) ];
  waits = f.waits;
  kept = f.kept;
  known = f.known;
  all = λ n t lt. f.all n ((same n).1 t) lt;
  less = f.less;
}

pub follows_both : (to other : ℕ → Type 0) (s : List Bool) (w : List ℕ) (s' : List Bool) (w' : List ℕ) (s'' : List Bool) (w'' : List ℕ) →
    IsSearchStep to s w s' w' → IsSearchStep other s' w' s'' w'' →
    IsSearchStep (λ node. to node ⊎ other node) s w s'' w''
follows_both to other s w s' w' s'' w'' f h = record {
  long = h.long ∙ f.long;
  new = λ n k. elim (h.new n k) [
    | inl old ↦ elim (f.new n old) [ inl older ↦ inl older | inr k' ↦ inr (k'.0, inl k'.1) ]
    | inr k' ↦ inr (omega (arith, k'.0, f.long), inr k'.1)
  ];
  waits = λ n k. h.waits n (f.waits n k);
  kept = λ n s. h.kept n (f.kept n s);
  known = λ n s. elim (h.known n s) [
    | inl before ↦ elim (f.known n before) [ inl first ↦ inl first | inr waits ↦ inr (h.waits n waits) ]
    | inr waits ↦ inr waits
  ];
  all = λ n t lt. elim t [ inl one ↦ h.kept n (f.all n one lt) | inr two ↦ h.all n two (omega (arith, f.long)) ];
  less = omega (arith, f.less, h.less);
}

-- ---- A search

module _ (Step : ℕ → ℕ → Type 0) (End Start : ℕ → Type 0) (found : Type 0) where
  pub searched_first : (to : ℕ → Type 0) (size : ℕ) (seen : List Bool) (waiting : List ℕ) → IsSearchStep to (replicate size false) [] seen waiting →
      ((node : ℕ) → to node → ReachesEnd Step End node → found) →
      ((node : ℕ) → Start node → node < size → to node) → Searched Step End Start found seen waiting
  searched_first to size seen waiting f leads starts = record {
    led = λ n k. elim (f.new n k) [
      | inl none ↦ absurd (none_waits [] n refl none)
      | inr h ↦ (omega (arith, h.0, f.long), λ comes. leads n h.1 comes)
    ];
    state = λ n s. elim (f.known n s) [ inl none ↦ absurd (none_seen size n none) | inr waits ↦ inl waits ];
    begun = λ n start lt.
        let all = length-replicate size false in
        f.all n (starts n start (omega (arith, f.long, all))) (omega (arith, f.long));
  }

  pub searched_step : (s : List Bool) (w rest : List ℕ) (s' : List Bool) (w' : List ℕ) (node : ℕ) → w ≡ rest ++ node ∷ [] →
      Searched Step End Start found s w → ¬ (End node) →
      IsSearchStep (λ to. Step node to) s rest s' w' → Searched Step End Start found s' w'
  searched_step s w rest s' w' node e h free f =
      let hand = h.led node (subst (λ (x : List ℕ). Contains x node) (sym e) (Contains-push rest node)) in record {
        led = λ n k. elim (f.new n k) [
          | inl old ↦ (
              let l = h.led n (subst (λ (x : List ℕ). Contains x n) (sym e) (Contains-append_left rest (node ∷ []) n old)) in
              (omega (arith, l.0, f.long), l.1))
          | inr new ↦ (omega (arith, new.0, f.long), λ comes. hand.1 (goes_on node n new.1 comes))
        ];
        state = λ n seen. elim (f.known n seen) [
          | inr waits ↦ inl waits
          | inl old ↦ elim (h.state n old) [
            | inr done ↦ inr (record { no_end = done.no_end; followed = λ to step lt. f.kept to (done.followed to step (omega (arith, f.long))) })
            | inl waited ↦ elim (Contains-push_cases rest node n (subst (λ (x : List ℕ). Contains x n) e waited)) [
              | inl still ↦ inl (f.waits n still)
              | inr is ↦ inr (subst (λ (m : ℕ). Followed Step End s' m) is
                  (record { no_end = free; followed = λ to step lt. f.all to step (omega (arith, f.long)) }))
            ]
          ]
        ];
        begun = λ n start lt. f.kept n (h.begun n start (omega (arith, f.long)));
      }

  -- an end that the search has come to
  pub searched_found : (s : List Bool) (w rest : List ℕ) (node : ℕ) → w ≡ rest ++ node ∷ [] → Searched Step End Start found s w → End node → found
  searched_found s w rest node e h end = (h.led node (subst (λ (x : List ℕ). Contains x node) (sym e) (Contains-push rest node))).1 (there node end)

  -- nothing waits
  not_come : (s : List Bool) → ((node : ℕ) → ReachesEnd Step End node → node < length s) →
      ((node : ℕ) → IsSeen s node → Followed Step End s node) → (node : ℕ) →
      IsSeen s node → ReachesEnd Step End node → ⊥
  not_come s within done node seen (there _ end) = (done node seen).no_end end
  not_come s within done node seen (goes_on _ to step rest) = not_come s within done to ((done node seen).followed to step (within to rest)) rest

  pub all_followed : (s : List Bool) (w : List ℕ) → w ≡ [] → Searched Step End Start found s w → (node : ℕ) → IsSeen s node → Followed Step End s node
  all_followed s w e h n seen = elim (h.state n seen) [ inl waits ↦ absurd (none_waits w n e waits) | inr done ↦ done ]

  pub searched_none : (s : List Bool) (w : List ℕ) → w ≡ [] → ((node : ℕ) → ReachesEnd Step End node → node < length s) → Searched Step End Start found s w →
      (from : ℕ) → Start from → ¬ (ReachesEnd Step End from)
  searched_none s w e within h from start comes = not_come s within (all_followed s w e h) from (h.begun from start (within from comes)) comes

  -- where steps lead to nodes that exist
  come_nowhere : (s : List Bool) → ((node to : ℕ) → Step node to → to < length s) → ((node : ℕ) → IsSeen s node → Followed Step End s node) → (node : ℕ) →
      IsSeen s node → ReachesEnd Step End node → ⊥
  come_nowhere s within done node seen (there _ end) = (done node seen).no_end end
  come_nowhere s within done node seen (goes_on _ to step rest) =
      come_nowhere s within done to ((done node seen).followed to step (within node to step)) rest

  pub searched_nowhere : (s : List Bool) (w : List ℕ) → w ≡ [] → ((node to : ℕ) → Step node to → to < length s) → Searched Step End Start found s w →
      (from : ℕ) → Start from → from < length s → ¬ (ReachesEnd Step End from)
  searched_nowhere s w e within h from start lt comes = come_nowhere s within (all_followed s w e h) from (h.begun from start lt) comes

-- The kept state and the state now match ones of the source, in which mutexes are held by threads.
use Rattle.crash_simulation.proofs.Common.{◌≡◌, ℕ, List, ◌∷◌, sym, ◌∙◌, ap, arith, subst, true, Option, Some, None, refl, suc, ◌+◌, [], length, zero, replicate}
use Rattle.crash_simulation.proofs.Common.{slice_get, slice_index_or, AllZip, is_none, length-map, none-some, same_Some, held_from, IsThreadOf, FlowState}
use Rattle.crash_simulation.proofs.Common.{graph_step, graph_after, graph_thread_start, AreCuts, Matches, lowered, Graph, Good, begins_lockstep, good_after}
use Rattle.crash_simulation.proofs.Common.{StaysResumed, MatchesSource, Origin, graph_stands, executions_stay, kept_good as kept_good_of, Plan, IsPlan}
use Rattle.crash_simulation.proofs.Common.{IsOrderly, steps_orderly, AbstractRun, kept_of, now_of, System, IsSystem, flat_of}
use Rattle.c_tree.specs.Flats as f
use Rattle.c_tree.specs.Source as m

-- ---- Schedules lead from an orderly state to one

orderly_by : (p : Plan) (s : FlowState) (t : ℕ) (ts : List ℕ) (o : Option FlowState) → IsPlan p → IsOrderly p s → graph_step p.graph s t ≡ o →
    ((next : FlowState) → IsOrderly p next → IsOrderly p (graph_after p.graph next ts)) →
    IsOrderly p (elim o [ None ↦ s | Some next ↦ graph_after p.graph next ts ])
orderly_by p s t ts o h5 h6 h7 h8 = grind (arith, steps_orderly)

pub after_orderly : (p : Plan) → IsPlan p → (schedule : List ℕ) (s : FlowState) → IsOrderly p s → IsOrderly p (graph_after p.graph s schedule)
after_orderly p plan [] s is = is
after_orderly p plan (t ∷ ts) s is = orderly_by p s t ts (graph_step p.graph s t) plan is refl (after_orderly p plan ts)

-- ---- An execution begins with one

zip_length : {A B : Type 0} (R : A → B → Type 0) (xs : List A) (ys : List B) → AllZip R xs ys → length ys ≡ length xs
zip_length R [] [] h = refl
zip_length R [] (y ∷ ys) h = absurd h
zip_length R (x ∷ xs) [] h = absurd h
zip_length R (x ∷ xs) (y ∷ ys) h = ap suc (zip_length R xs ys h.1)

pub begins_orderly : (p : Plan) → IsPlan p → (o : Origin p.flat) → IsOrderly p o.flow
begins_orderly p plan o =
    let all : length o.source.threads ≡ length p.graph.threads =
    zip_length (λ (t : f.Thread) (thread : m.Thread). IsThreadOf p.flat t.locals thread) p.flat.threads o.source.threads o.formed.threads
    ∙ sym (sym (length-map (lowered p.flat).threads graph_thread_start) ∙ (begins_lockstep p.flat plan.formed).count ∙ length-map p.flat.threads m.thread_start)
    ∙ ap (λ (graph : Graph). length graph.threads) (sym plan.lowered) in
    record {
      source = o.source;
      matches = o.matches;
      keeps = o.keeps;
      count = o.matches.count ∙ all;
      locks = ap (λ (hs : List (Option ℕ)). length hs) o.matches.holders ∙ o.formed.holders;
      holders = λ lock n held.
          let below = o.holders lock n (ap (λ (hs : List (Option ℕ)). slice_get hs lock) (sym o.matches.holders) ∙ held) in omega (arith, below, all);
    }

-- ---- Of locks that are all free none is held

pub free_holds_none : (n at : ℕ) (holders : List (Option ℕ)) → ((lock : ℕ) (holder : Option ℕ) → slice_get holders lock ≡ Some holder → holder ≡ None) →
    is_none (held_from at holders n) ≡ true
free_holds_none n at [] free = refl
free_holds_none n at (None ∷ holders) free = free_holds_none n (at + 1) holders (λ lock holder there. free (suc lock) holder there)
free_holds_none n at (Some holder ∷ holders) free = absurd (none-some holder (sym (free 0 (Some holder) refl)))

-- a list of one thing has that alone
pub is_repeated : {A : Type 0} (count i : ℕ) (a x : A) → slice_get (replicate count a) i ≡ Some x → x ≡ a
is_repeated zero i a x h = absurd (none-some x h)
is_repeated (suc count) zero a x h = sym (same_Some a x h)
is_repeated (suc count) (suc i) a x h = is_repeated count i a x h

pub repeated_or : {A : Type 0} (count i : ℕ) (a : A) → slice_index_or (replicate count a) i a ≡ a
repeated_or zero i a = refl
repeated_or (suc count) zero a = refl
repeated_or (suc count) (suc i) a = repeated_or count i a

pub none_holds : (locks lock n : ℕ) → slice_get (replicate locks (let none : Option ℕ = None in none)) lock ≡ Some (Some n) → ⊥
none_holds locks lock n h = let e : Some n ≡ None = is_repeated locks lock None (Some n) h in cc

module _ (y : System) (s : IsSystem y) (b : AbstractRun y) where
  pub cuts : AreCuts (lowered (flat_of y)) y.plan.boundaries
  cuts = subst (λ (graph : Graph). AreCuts graph y.plan.boundaries) s.plan.lowered s.plan.cuts

  pub resumed : StaysResumed (flat_of y) y.plan.boundaries b.origin b.config b.schedule
  resumed = executions_stay (flat_of y) y.plan.boundaries b.origin b.config b.schedule s.plan.formed cuts b.execution b.respects

  pub as_source : MatchesSource (flat_of y) b.config (kept_of y b)
  as_source = graph_stands (flat_of y) b.origin b.config b.schedule s.plan.formed resumed.resumed.invariant resumed.resumed.kept

  pub kept_matches : Matches (flat_of y) (kept_of y b) b.config.kept
  kept_matches = as_source.kept_matches

  -- ---- The kept state and the state now

  pub orderly : IsOrderly y.plan (kept_of y b)
  orderly =
      subst (λ (graph : Graph). IsOrderly y.plan (graph_after graph b.origin.flow b.schedule)) s.plan.lowered
      (after_orderly y.plan s.plan b.schedule b.origin.flow (begins_orderly y.plan s.plan b.origin))

  pub now_orderly : IsOrderly y.plan (now_of y b)
  now_orderly =
      subst (λ (graph : Graph). IsOrderly y.plan (graph_after graph (kept_of y b) b.config.uncommitted)) s.plan.lowered
      (after_orderly y.plan s.plan b.config.uncommitted (kept_of y b) orderly)

  -- what is pending in the kept state lies where it should
  pub kept_good : Good (flat_of y) (kept_of y b)
  kept_good = kept_good_of (flat_of y) s.plan.formed b.origin b.schedule

  pub now_good : Good (flat_of y) (now_of y b)
  now_good = good_after (flat_of y) b.config.uncommitted s.plan.formed (kept_of y b) kept_good

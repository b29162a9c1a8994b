use Rattle.std.proofs.Common.{◌≡◌, ℕ, ◌<◌, Bool, false, Some, List, length, ⊎_elim, get_or, sym, ap, refl, ◌∙◌, subst, arith, Vec, Global}
use Rattle.std.specs.Prelude.{Contains, slice_get}
use Rattle.std.proofs.lemmas.List.{length-map, length-replicate, get_or_default, nil_from_length}
use Rattle.std.proofs.lemmas.Bool.{cases_lt}
use Rattle.std.proofs.lemmas.List.Elements.{Contains-push}
use Rattle.std.proofs.lemmas.Option.{slice_get_read}
use Rattle.c_tree.specs.Inlining as i
use Rattle.c_inline.specs.declared.calls.Call.{Call}
use Rattle.c_inline.specs.links.Calls.{CallsLead, call_of, calls_of, calls_at, lists_of}
use Rattle.c_inline.proofs.CallLists.{calls_at_of, all_calls, some_call}
use Rattle.c_inline.proofs.CallReachability.{Searched, none_reached, searched_none, searched_reached, searched_taken}
use Rattle.c_inline.proofs.CallReachability.{searched_done, searched_all, now_reached, still_reached, less_left, leads_on}
use Rattle.c_inline.proofs.recursion.leads.Goals as goal
use Rattle.c_inline.proofs.recursion.leads.Goals.{In-Some, After-deref-call-items}

lists_length : (cs : List (Vec Call Global)) → length (lists_of cs) ≡ length cs
lists_length cs = length-map cs (λ (v : Vec Call Global). calls_of v.items)

pub loop-function-init : goal.loop-function-init
loop-function-init c =
    let cs = lists_of c.args.calls.now in
    let r = c.in_ok-reached.ensures.items_if_clones_equal (λ y e. e) in
    let r0 = c.in_ok-reached.reached.items in
    let w0 = c.new-waiting.result.items in
    let s0 = searched_none cs c.args.to c.args.from r0 (ap length r ∙ length-replicate (length c.args.calls.now) false ∙ sym (lists_length c.args.calls.now))
    (λ g e. none_reached (length c.args.calls.now) g (sym (ap (λ (x : List Bool). slice_get x g) r) ∙ e)) in (
      searched_reached cs c.args.to c.args.from (λ g. ⊥) r0 w0 c.args.from c.reach.new.reached.items c.reach.new.waiting.items
          (subst (λ (x : List ℕ). Searched cs c.args.to c.args.from (λ g. ⊥) r0 x) (sym c.new-waiting.ensures.items) s0) (λ _. CallsLead.there)
          c.in_ok-reach.ensures,
      now_reached cs c.args.to c.args.from (λ g. ⊥) r0 w0 c.args.from c.reach.new.reached.items c.reach.new.waiting.items c.in_ok-reach.ensures,
    )

popped : (c : In-Some) → (c.in-Some.function < length (lists_of c.args.calls.now)) × CallsLead (lists_of c.args.calls.now) c.in-Some.function c.args.from
popped c =
    c.loop-function.invariant.0.led c.in-Some.function
    (subst (λ (x : List ℕ). Contains x c.in-Some.function) (sym c.in-Some.ensures.items) (Contains-push c.pop.new.self.items c.in-Some.function))

pub returns-then-function-to : goal.returns-then-function-to
returns-then-function-to c =
    subst (λ (x : ℕ). CallsLead (lists_of c.args.calls.now) x c.args.from) c.if-function-to.true (popped (goal.at.returns-then-function-to c).In-Some).1

pub bounds-calls-function : goal.bounds-calls-function
bounds-calls-function c = omega (arith, (popped (goal.at.bounds-calls-function c).In-Some).0, lists_length c.args.calls.now)

pub loop-call-init : goal.loop-call-init
loop-call-init c = (
  searched_taken (lists_of c.args.calls.now) c.args.to c.args.from c.loop-function.reached.items c.loop-function.waiting.items c.pop.new.self.items
      c.in-Some.function c.in-Some.ensures.items c.loop-function.invariant.0,
  omega arith,
  (popped (goal.at.loop-call-init c).In-Some).1,
  c.if-function-to.false,
  c.loop-function.invariant.1,
  λ k d l. absurd (omega arith),
)

-- the calls that are followed
followed : (c : After-deref-call-items) → calls_at (lists_of c.args.calls.now) c.in-Some.function ≡ calls_of c.deref-call-items.result.now
followed c =
    let l = popped (goal.at.loop-call-init c).In-Some in
    calls_at_of c.args.calls.now c.in-Some.function c.index-calls-function.result
    (slice_get_read c.args.calls.now (length c.args.calls.now) c.in-Some.function c.index-calls-function.result refl
    (omega (arith, l.0, lists_length c.args.calls.now)) c.index-calls-function.is)
    ∙ ap calls_of (sym c.deref-call-items.ensures.value)

pub loop-function-preserved : goal.loop-function-preserved
loop-function-preserved c =
    let cs = lists_of c.args.calls.now in
    let reached = c.loop-call.reached.items in
    let calls = c.deref-call-items.result.now in
    let e = followed (goal.at.loop-function-preserved c).After-deref-call-items in (
      searched_done cs c.args.to c.args.from reached c.loop-call.waiting.items c.in-Some.function (
        c.loop-call.invariant.3,
        λ x k. all_calls (λ (g : ℕ). slice_get reached g ≡ Some false → ⊥) calls (λ j d l. c.loop-call.invariant.5 j d (omega arith)) x
            (subst (λ (l : List i.Call). Contains l x) e k),
      )
          c.loop-call.invariant.0,
      c.loop-call.invariant.4,
    )

pub loop-call-preserved : goal.loop-call-preserved
loop-call-preserved c =
    let cs = lists_of c.args.calls.now in
    let r0 = c.loop-call.reached.items in
    let w0 = c.loop-call.waiting.items in
    let r1 = c.reach-in-loop-call.new.reached.items in
    let w1 = c.reach-in-loop-call.new.waiting.items in
    let calls = c.deref-call-items.result.now in
    let f = c.in-Some.function in
    let hand : ℕ → Type 0 = λ g. g ≡ f in
    let n = c.loop-call.call-index in
    let within : n < length calls = c.loop-call-test.true in
    let call : Call = get_or calls n (record { place = record { 0 = 0 }; function = 0 }) in
    let e = followed (goal.at.loop-call-preserved c).After-deref-call-items in
    let made : Contains (calls_at cs f) (call_of call) = subst (λ (l : List i.Call). Contains l (call_of call)) (sym e) (some_call calls n _ within) in (
      searched_reached cs c.args.to c.args.from hand r0 w0 call.function r1 w1 c.loop-call.invariant.0
          (λ _. leads_on cs f c.args.from (call_of call) made c.loop-call.invariant.2) c.in_ok-reach-2.ensures,
      omega (arith, c.loop-call.invariant.1, less_left cs c.args.to c.args.from hand r0 w0 call.function r1 w1 c.in_ok-reach-2.ensures),
      c.loop-call.invariant.2,
      c.loop-call.invariant.3,
      still_reached cs c.args.to c.args.from hand r0 w0 call.function r1 w1 c.in_ok-reach-2.ensures c.args.from c.loop-call.invariant.4,
      λ k d l was. ⊎_elim
          (λ lt. still_reached cs c.args.to c.args.from hand r0 w0 call.function r1 w1 c.in_ok-reach-2.ensures (get_or calls k d).function
          (c.loop-call.invariant.5 k d lt) was)
          (λ ge. let is : k ≡ n = omega arith in
          let q : (get_or calls k d).function ≡ call.function =
          ap (λ (j : ℕ). (get_or calls j d).function) is ∙ ap (λ (x : Call). x.function) (get_or_default calls n d _ within) in
          now_reached cs c.args.to c.args.from hand r0 w0 call.function r1 w1 c.in_ok-reach-2.ensures (subst (λ (j : ℕ). slice_get r1 j ≡ Some false) q was))
          (cases_lt k n),
    )

pub returns : goal.returns
returns c =
    searched_all (lists_of c.args.calls.now) c.args.to c.args.from c.loop-function.reached.items c.loop-function.waiting.items
    (nil_from_length c.loop-function.waiting.items (omega (arith, c.in_default.ensures.cases.0, c.loop-function.waiting.ok.0)))
    (omega (arith, c.requires, lists_length c.args.calls.now)) c.loop-function.invariant.1 c.loop-function.invariant.0

use Rattle.std.proofs.Common.{◌≡◌, ℕ, ◌-◌, ◌^◌, List, Option, Some, length, map, min, refl, sym, ap, ◌∙◌, subst, arith}
use Rattle.std.specs.Prelude.{Contains, slice_get}
use Rattle.std.specs.Option.{option_map}
use Rattle.std.proofs.lemmas.List.{length-map}
use Rattle.std.proofs.lemmas.Option.{slice_get_read, slice_get-map}
use Rattle.c_tree.specs.Programs.{function_of, statements_of}
use Rattle.c_tree.specs.Inlining as i
use Rattle.c_tree.specs.declared.program.Function.{Function}
use Rattle.c_tree.specs.declared.program.Statement.{Statement}
use Rattle.c_inline.specs.links.Weights.{known_weight, statements_weight}
use Rattle.c_inline.specs.links.KnownWeights.{IsUnknown}
use Rattle.c_inline.proofs.CallLists.{listed}
use Rattle.c_inline.proofs.Passes.{unknown_is_none}
use Rattle.c_inline.proofs.WeightUpdates.{are_right_now, found_now, unknown_from}
use Rattle.c_inline.proofs.weigh.weigh_function.Goals as goal
use Rattle.c_inline.proofs.weigh.weigh_function.Goals.{After-statements_weight-weight}

pub returns-then-is_some-clause-found : goal.returns-then-is_some-clause-found
returns-then-is_some-clause-found c =
    (refl, λ u. absurd (unknown_is_none c.args.known.now.items c.args.number c.index.result.now c.index.ensures (sym c.is_some.ensures ∙ c.if-is_some.true) u))

pub returns-then-not-is_ready-clause-found : goal.returns-then-not-is_ready-clause-found
returns-then-not-is_ready-clause-found c =
    let fs = map function_of c.args.functions.now in
    let r = c.if-not-is_ready.ensures in
    let e = listed c.args.calls.now fs c.args.number c.index-calls-number.result c.deref-2.result.now c.requires.calls
    (omega (arith, length-map c.args.functions.now function_of)) c.index-calls-number.is c.deref-2.ensures.value in
    (refl, λ u. (r.0, subst (λ (l : List i.Call). Contains l r.0) e r.1, subst (λ (k : List (Option ℕ)). IsUnknown k r.0.function) c.deref.ensures.value r.2))

exists : (c : After-statements_weight-weight) →
    slice_get (map function_of c.args.functions.now) c.args.number ≡ Some (function_of c.index-functions-number.result)
exists c =
    slice_get-map function_of c.args.functions.now c.args.number
    ∙ ap (option_map function_of)
    (slice_get_read c.args.functions.now (length c.args.functions.now) c.args.number c.index-functions-number.result refl c.requires.exists
    c.index-functions-number.is)

unknown : (c : After-statements_weight-weight) → IsUnknown c.args.known.now.items c.args.number
unknown c =
    unknown_from c.args.known.now.items c.args.number c.index.result.now
    (omega (arith, c.requires.exists, c.requires.right.covers, length-map c.args.functions.now function_of)) c.index.ensures
    (sym c.is_some.ensures ∙ c.if-is_some.false)

ready : (c : After-statements_weight-weight) → (x : i.Call) → Contains (i.calls_in (map function_of c.args.functions.now) c.args.number) x →
    IsUnknown c.args.known.now.items x.function → ⊥
ready c x k u =
    let fs = map function_of c.args.functions.now in
    let e = listed c.args.calls.now fs c.args.number c.index-calls-number.result c.deref-2.result.now c.requires.calls
    (omega (arith, length-map c.args.functions.now function_of)) c.index-calls-number.is c.deref-2.ensures.value in
    c.if-not-is_ready.ensures x (subst (λ (l : List i.Call). Contains l x) (sym e) k)
    (subst (λ (l : List (Option ℕ)). IsUnknown l x.function) (sym c.deref.ensures.value) u)

weighs : (c : After-statements_weight-weight) →
    c.statements_weight-weight.result ≡ min
    (statements_weight c.args.weights 0 (map function_of c.args.functions.now) (known_weight c.args.known.now.items)
    (statements_of c.index-functions-number.result.body.items)) (2 ^ 64 - 1)
weighs c =
    let fs = map function_of c.args.functions.now in
    c.statements_weight-weight.ensures
    ∙ ap (λ (k : List (Option ℕ)). min (statements_weight c.args.weights 0 fs (known_weight k) (statements_of c.deref-4.result.now)) (2 ^ 64 - 1))
    c.deref-3.ensures.value
    ∙ ap (λ (xs : List Statement). min (statements_weight c.args.weights 0 fs (known_weight c.args.known.now.items) (statements_of xs)) (2 ^ 64 - 1))
    (c.deref-4.ensures.value ∙ ap (λ (x : Function). x.body.items) (sym c.index-functions-number.is))

pub returns-clause-right : goal.returns-clause-right
returns-clause-right c =
    let d = (goal.at.returns-clause-right c).After-statements_weight-weight in
    are_right_now c.args.weights (map function_of c.args.functions.now) c.args.known.now.items c.requires.right c.args.number
    (function_of c.index-functions-number.result) c.statements_weight-weight.result (exists d) (unknown d) (ready d) (weighs d)

pub returns-clause-found : goal.returns-clause-found
returns-clause-found c =
    let d = (goal.at.returns-clause-found c).After-statements_weight-weight in
    found_now c.args.weights (map function_of c.args.functions.now) c.args.known.now.items c.requires.right c.args.number
    (function_of c.index-functions-number.result) c.statements_weight-weight.result (exists d) (unknown d) (ready d) (weighs d)

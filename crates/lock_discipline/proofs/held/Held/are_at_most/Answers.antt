use Rattle.std.proofs.Common.{◌≡◌, ◌∙◌, ℕ, ◌≤◌, List, [], get_or, length, map, Vec, ap, arith, refl, subst, sym}
use Rattle.std.specs.Global.{Global}
use Rattle.std.proofs.lemmas.List.{length-map}
use borrow.Author.Count.{below_more}
use Rattle.c_tree.specs.LockNames.{Held, count_held}
use Rattle.lock_discipline.specs.declared.set.NameSet.{NameSet}
use Rattle.lock_discipline.proofs.SmallSets.{row_there, all_threads_small}
use Rattle.lock_discipline.proofs.held.Held.are_at_most.Goals as goal

abbrev row_of : Vec NameSet Global → List Held
row_of row = row.items

pub loop-sets-preserved : goal.loop-sets-preserved
loop-sets-preserved c =
    let table = c.args.self.now in
    let i = c.loop-sets.sets-index in
    let rows = c.deref-sets-items.result.now in
    let viewed : map row_of rows ≡ table = ap (λ (vs : List (Vec NameSet Global)). map row_of vs) c.deref-sets-items.ensures.value ∙ c.self.view_is in
    let row : get_or table i [] ≡ c.sets-item.result.items =
    sym (ap (λ (t : List (List Held)). get_or t i []) viewed) ∙ row_there rows i c.sets-item.result c.loop-sets-test.true c.sets-item.is in
    below_more (λ (thread : ℕ). (step : ℕ) → count_held (get_or (get_or table thread []) step []) ≤ c.args.most) i c.loop-sets.invariant
    (λ step. subst (λ (sets : List Held). count_held (get_or sets step []) ≤ c.args.most) (c.deref.ensures.value ∙ sym row)
    (c.are_small.ensures.0 c.if-not-are_small.false step))

pub returns-then-not-are_small : goal.returns-then-not-are_small
returns-then-not-are_small c =
    let table = c.args.self.now in
    let i = c.loop-sets.sets-index in
    let rows = c.deref-sets-items.result.now in
    let viewed : map row_of rows ≡ table = ap (λ (vs : List (Vec NameSet Global)). map row_of vs) c.deref-sets-items.ensures.value ∙ c.self.view_is in
    let row : get_or table i [] ≡ c.sets-item.result.items =
    sym (ap (λ (t : List (List Held)). get_or t i []) viewed) ∙ row_there rows i c.sets-item.result c.loop-sets-test.true c.sets-item.is in (
      λ no. cc,
      λ all. sym c.if-not-are_small.true ∙ c.are_small.ensures.1 (λ step.
          subst (λ (sets : List Held). count_held (get_or sets step []) ≤ c.args.most) (row ∙ sym c.deref.ensures.value) (all i step)),
    )

pub returns : goal.returns
returns c =
    let rows = c.deref-sets-items.result.now in
    let viewed : map row_of rows ≡ c.args.self.now =
    ap (λ (vs : List (Vec NameSet Global)). map row_of vs) c.deref-sets-items.ensures.value ∙ c.self.view_is in
    let long : length c.args.self.now ≡ length rows = sym (ap (λ (t : List (List Held)). length t) viewed) ∙ length-map rows row_of in (
      λ _. all_threads_small c.args.self.now c.args.most (λ thread below. c.loop-sets.invariant thread (omega (arith, below, long, c.loop-sets-test.false))),
      λ _. refl,
    )

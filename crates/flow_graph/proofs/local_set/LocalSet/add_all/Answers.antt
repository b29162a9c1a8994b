use Rattle.std.proofs.Common.{◌≡◌, ◌<◌, ◌≤◌, ◌⊎◌, ◌↔◌, ℕ, List, length, get_or, ◌^◌, refl, ap, subst, ◌∙◌, arith}
use Rattle.std.proofs.lemmas.List.{get_or_default}
use Rattle.flow_graph.specs.LocalSets.{Has}
use Rattle.flow_graph.specs.declared.local_set.LocalSet.TheInside.{Inside}
use Rattle.flow_graph.proofs.Words.{joined_all, joins_write, joins_kept}
use Rattle.flow_graph.proofs.local_set.LocalSet.add_all.Goals as goal
use Rattle.flow_graph.proofs.local_set.LocalSet.add_all.Goals.{then-joined-word, else-joined-word}

pub loop-i-preserved : goal.loop-i-preserved
loop-i-preserved c =
    let old = c.self.inside.words.items in
    let now = c.loop-i.self-inside.words.items in
    let added = c.deref-added-items.result.now in
    let i = c.loop-i.i in
    let word = c.index-word.result.now in
    let own : old ≡ c.args.self.now = c.self.view_is in
    let others : added ≡ c.args.other.now = c.deref-added-items.ensures.value ∙ c.other.view_is in
    let there : i < length added = omega (arith, c.loop-i-test.true) in
    let here : i < length now = omega (arith, there, c.loop-i.invariant.long, c.requires, ap length own, ap length others) in
    let is : word ≡ get_or now i 0 = c.index-word.ensures ∙ get_or_default now i word 0 here in
    let small : word < 2 ^ 64 = omega arith in
    elim c.if-joined-word.branch [
      | then-joined-word w ↦ rw w.grows-is
          (joins_write old added now c.if-joined-word.self-inside.words.items i word (get_or added i 0) c.loop-i.grows c.loop-i.invariant here
          (ap (λ (s : Inside). s.words.items) w.self-inside-is) is refl w.if-joined-word.true small)
      | else-joined-word w ↦ rw w.grows-is
          (joins_kept old added now c.if-joined-word.self-inside.words.items i word (get_or added i 0) c.loop-i.grows c.loop-i.invariant
          (ap (λ (s : Inside). s.words.items) w.self-inside-is) is refl w.if-joined-word.false)
    ]

pub returns-clause-has : goal.returns-clause-has
returns-clause-has c local =
    let old = c.self.inside.words.items in
    let now = c.loop-i.self-inside.words.items in
    let added = c.deref-added-items.result.now in
    let own : old ≡ c.args.self.now = c.self.view_is in
    let others : added ≡ c.args.other.now = c.deref-added-items.ensures.value ∙ c.other.view_is in
    let past : length added ≤ c.loop-i.i = omega (arith, c.loop-i-test.false) in
    let h : Has now local ↔ (Has old local ⊎ Has added local) =
    joined_all old added now c.loop-i.i c.loop-i.grows c.loop-i.invariant (omega (arith, past, c.requires, ap length own, ap length others)) past local in
    subst (λ (xs : List ℕ). Has now local ↔ (Has xs local ⊎ Has c.args.other.now local)) own
    (subst (λ (ys : List ℕ). Has now local ↔ (Has old local ⊎ Has ys local)) others h)

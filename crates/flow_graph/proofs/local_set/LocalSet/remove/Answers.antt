use Rattle.std.proofs.Common.{◌≡◌, ◌≢◌, ◌↔◌, ◌/◌, ◌<◌, ◌≤◌, ℕ, List, length, get_or, set, ap, sym, subst, ◌∙◌, arith}
use Rattle.std.proofs.lemmas.List.{get_or_default}
use Rattle.flow_graph.specs.LocalSets.{Has}
use Rattle.flow_graph.proofs.Words.{without_bit, removed, nothing_removed}
use Rattle.flow_graph.proofs.local_set.LocalSet.remove.Goals as goal

pub returns-then-word_of-len-clause-has : goal.returns-then-word_of-len-clause-has
returns-then-word_of-len-clause-has c other =
    let words = c.self.inside.words.items in
    let local = c.args.local in
    let old = c.index_mut.result.now in
    let at = c.word_of-then-word_of-len.ensures in
    let view : words ≡ c.args.self.now = c.self.view_is in
    let lt : local / 64 < length words = omega (arith, c.if-word_of-len.true, c.word_of.ensures, c.len.ensures, c.self.inside.words.ok.0) in
    let word : old ≡ get_or words (local / 64) 0 =
    c.index_mut.ensures.value ∙ ap (λ (k : ℕ). get_or words k old) at ∙ get_or_default words (local / 64) old 0 lt in
    let P : ℕ → ℕ → List ℕ → Type 0 = λ k w now. Has (set words k (without_bit w local)) other ↔ (Has now other × (other ≢ local)) in
    let h : P (local / 64) (get_or words (local / 64) 0) words = removed words local other lt in
    subst (λ (k : ℕ). P k old c.args.self.now) (sym at)
    (subst (λ (w : ℕ). P (local / 64) w c.args.self.now) (sym word) (subst (λ (now : List ℕ). P (local / 64) (get_or words (local / 64) 0) now) view h))

pub returns-else-word_of-len-clause-has : goal.returns-else-word_of-len-clause-has
returns-else-word_of-len-clause-has c other =
    let view : c.self.inside.words.items ≡ c.args.self.now = c.self.view_is in
    let past : length c.args.self.now ≤ c.args.local / 64 =
    omega (arith, c.if-word_of-len.false, c.word_of.ensures, c.len.ensures, c.self.inside.words.ok.0, ap length view) in
    nothing_removed c.args.self.now c.args.local other past

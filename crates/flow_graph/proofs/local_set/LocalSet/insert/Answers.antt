use Rattle.std.proofs.Common.{◌≡◌, ◌⊎◌, ◌↔◌, ◌/◌, ◌<◌, ℕ, List, length, get_or, set, ap, sym, subst, ◌∙◌, arith}
use Rattle.std.proofs.lemmas.List.{get_or_default}
use Rattle.flow_graph.specs.LocalSets.{Has}
use Rattle.flow_graph.proofs.Words.{with_bit, inserted}
use Rattle.flow_graph.proofs.local_set.LocalSet.insert.Goals as goal

pub returns-clause-has : goal.returns-clause-has
returns-clause-has c other =
    let words = c.self.inside.words.items in
    let local = c.args.local in
    let old = c.index_mut.result.now in
    let view : words ≡ c.args.self.now = c.self.view_is in
    let lt : local / 64 < length words = omega (arith, c.requires, ap length view) in
    let word : old ≡ get_or words (local / 64) 0 =
    c.index_mut.ensures.value ∙ ap (λ (k : ℕ). get_or words k old) c.word_of.ensures ∙ get_or_default words (local / 64) old 0 lt in
    let P : ℕ → ℕ → List ℕ → Type 0 = λ k w now. Has (set words k (with_bit w local)) other ↔ (Has now other ⊎ (other ≡ local)) in
    let h : P (local / 64) (get_or words (local / 64) 0) words = inserted words local other lt in
    subst (λ (k : ℕ). P k old c.args.self.now) (sym c.word_of.ensures)
    (subst (λ (w : ℕ). P (local / 64) w c.args.self.now) (sym word) (subst (λ (now : List ℕ). P (local / 64) (get_or words (local / 64) 0) now) view h))

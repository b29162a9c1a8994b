use Rattle.std.proofs.Common.{◌≡◌, ◌/◌, ◌<◌, ◌≤◌, ℕ, List, length, get_or, ap, ap₂, ◌∙◌, arith}
use Rattle.std.proofs.lemmas.List.{get_or_default}
use Rattle.flow_graph.proofs.Words.{tested, none_past}
use Rattle.flow_graph.proofs.local_set.LocalSet.contains.Goals as goal

pub returns-in-Some : goal.returns-in-Some
returns-in-Some c =
    let words = c.args.self.now in
    let word = c.in-Some.word.now in
    let found = c.in-Some.ensures.lookup in
    let same : c.deref.result.now ≡ words = c.deref.ensures.value ∙ c.self.view_is in
    let lt : c.args.local / 64 < length words = omega (arith, found.3.0, c.word_of.ensures, ap length same) in
    tested words c.args.local word (found.1 ∙ ap₂ (λ (ws : List ℕ) (k : ℕ). get_or ws k word) same c.word_of.ensures
    ∙ get_or_default words (c.args.local / 64) word 0 lt)

pub returns-in-None : goal.returns-in-None
returns-in-None c =
    let words = c.args.self.now in
    let same : c.deref.result.now ≡ words = c.deref.ensures.value ∙ c.self.view_is in
    let past : length words ≤ c.args.local / 64 = omega (arith, c.in-None.ensures.lookup.3, c.word_of.ensures, ap length same) in
    (λ no. cc, λ h. absurd (none_past words c.args.local past h))

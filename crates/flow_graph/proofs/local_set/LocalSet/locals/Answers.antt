use Rattle.std.proofs.Common.{◌≡◌, ◌+◌, ℕ, List, [], ◌∷◌, ◌++◌, true, false, length, ap, sym, subst, ◌∙◌, arith}
use Rattle.flow_graph.proofs.Words.{Lists, lists_more, lists_same, lists_all}
use Rattle.flow_graph.proofs.local_set.LocalSet.locals.Goals as goal
use Rattle.flow_graph.proofs.local_set.LocalSet.locals.Goals.{then-contains+in_ok-push, else-contains}

pub loop-number-preserved : goal.loop-number-preserved
loop-number-preserved c =
    let words = c.args.self.now in
    let items = c.loop-number.locals.items in
    let number = c.loop-number.number in
    elim c.if-contains.branch [
      | then-contains+in_ok-push w ↦ (
          let more : Lists words (items ++ number ∷ []) (number + 1) =
          lists_more words items number c.loop-number.invariant (c.contains.ensures.0 w.if-contains.true) in
          rw w.locals-is (subst (λ (xs : List ℕ). Lists words xs (number + 1)) (sym w.in_ok-push.ensures.items) more))
      | else-contains w ↦ rw w.locals-is
          (lists_same words items number c.loop-number.invariant (λ h. let both : true ≡ false = sym (c.contains.ensures.1 h) ∙ w.if-contains.false in
          absurd (cc)))
    ]

pub returns-clause-each : goal.returns-clause-each
returns-clause-each c =
    let view : c.self.inside.words.items ≡ c.args.self.now = c.self.view_is in
    lists_all c.args.self.now c.loop-number.locals.items c.loop-number.number c.loop-number.invariant
    (omega (arith, c.loop-number-test.false, c.loop-number.auto.number-end, c.len-number-end.ensures, c.self.inside.words.ok.0, ap length view))

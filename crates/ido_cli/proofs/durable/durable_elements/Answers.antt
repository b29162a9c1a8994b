use Rattle.std.proofs.Common.{◌+◌, ◌*◌, ◌++◌, ◌∷◌, [], ◌∙◌, ap, arith, rules, ℕ, ℤ}
use Rattle.std.specs.Prelude.{FitsSigned}
use Rattle.std.specs.Int.{w128}
use Rattle.std.proofs.lemmas.Int.{to_z-of_z}
use Rattle.ido_base.specs.Words.{durable_value}
use Rattle.c_tree.specs.Programs.{variable_of}
use Rattle.c_tree.specs.WellFormed.{elements_in}
use Rattle.run_tracker.specs.ObjectLives.{world_of}
use Rattle.variable_words.specs.Variables.{number_of_byte}
use Rattle.ido_cli.specs.Reports.{durable_elements}
use Rattle.ido_cli.proofs.DurableNumbers.{element_number, elements_more}
use Rattle.ido_cli.proofs.durable.durable_elements.Goals as goal

pub loop-element-preserved : goal.loop-element-preserved
loop-element-preserved c =
    let words = (world_of c.args.life.now).words in
    let x = c.args.declared.now in
    let k = c.loop-element.element in
    let fits : FitsSigned w128 c.durable_number.result = search rules in
    let number = to_z-of_z w128 c.durable_number.result fits in
    record {
      end = c.loop-element.invariant.end;
      so_far =
          elements_more (element_number words x.kind c.args.first) c.loop-element.numbers.items (durable_elements words (variable_of x) c.args.first)
          c.push.new.self.items (elements_in x.length) k c.durable_number.result (omega (arith, c.loop-element-test.true, c.loop-element.invariant.end))
          (c.durable_number.ensures ∙ ap (λ (n : ℕ). number_of_byte durable_value words x.kind (c.args.first + n * k)) c.bytes-size.ensures)
          (c.in_ok-push.ensures.items ∙ ap (λ (z : ℤ). c.loop-element.numbers.items ++ z ∷ []) number) c.loop-element.invariant.so_far;
    }

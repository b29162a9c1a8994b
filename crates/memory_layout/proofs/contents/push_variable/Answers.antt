use Rattle.std.proofs.Common.{◌≡◌, ◌-◌, ◌++◌, ◌∙◌, ap, rules, ℕ, ℤ, List, length, take, get_or, replicate, vec_len}
use Rattle.std.specs.Prelude.{pos}
use Rattle.std.specs.Int.{w128, next_multiple_of}
use Rattle.std.specs.Int.RustNames.{FitsSigned}
use Rattle.std.proofs.lemmas.Int.{to_z-of_z}
use Rattle.std.proofs.lemmas.List.{take_all, get_or_default}
use Rattle.memory_layout.specs.links.Bytes.{numbers_bytes}
use Rattle.memory_layout.proofs.VariableEnds.{size_bounds}
use Rattle.memory_layout.proofs.Laying.{multiple_is}
use Rattle.memory_layout.proofs.Filling.{bytes_in, numbers-none, numbers-more, variable_pushed}
use Rattle.memory_layout.proofs.contents.push_variable.Goals as goal

pub loop-number-init : goal.loop-number-init
loop-number-init c = numbers-none c.args.shape.bytes c.resize.new.self.items

pub loop-number-preserved : goal.loop-number-preserved
loop-number-preserved c =
    let zs = c.args.numbers.now in
    let i = c.loop-number.number-index in
    let z : ℤ = get_or zs i (pos 0) in
    let fits : FitsSigned w128 z = search rules in
    let pushed : c.push_number.new.bytes.items ≡ c.loop-number.bytes.items ++ bytes_in c.args.shape.bytes z =
    c.in_ok-push_number.ensures ∙ ap (λ (y : ℤ). c.loop-number.bytes.items ++ bytes_in c.args.shape.bytes y) (to_z-of_z w128 z fits) in
    numbers-more c.args.shape.bytes zs i z c.resize.new.self.items c.loop-number.bytes.items c.push_number.new.bytes.items c.loop-number-test.true
    (get_or_default zs i (pos 0) z c.loop-number-test.true) c.loop-number.invariant pushed

pub returns : goal.returns
returns c =
    let zs = c.args.numbers.now in
    let s = c.args.shape in
    let all : take c.loop-number.number-index zs ≡ zs = take_all c.loop-number.number-index zs c.loop-number-test.false in
    let long : vec_len c.args.bytes.now ≡ length c.args.bytes.now.items = c.args.bytes.now.ok.0 in
    let first = c.next_multiple_of-first.ensures.value ∙ ap (λ (n : ℕ). next_multiple_of n s.bytes) (c.len.ensures ∙ long)
    ∙ multiple_is s.bytes (length c.args.bytes.now.items) c.requires in
    let new : c.loop-number.bytes.items ≡ c.resize.new.self.items ++ numbers_bytes s.bytes zs =
    c.loop-number.invariant ∙ ap (λ (ys : List ℤ). c.resize.new.self.items ++ numbers_bytes s.bytes ys) all in
    variable_pushed c.args.bytes.now.items c.resize.new.self.items c.loop-number.bytes.items s zs c.next_multiple_of-first.result
    (size_bounds s.bytes c.requires) first
    (c.in_ok-resize.ensures.items
    ∙ ap (λ (n : ℕ). take c.next_multiple_of-first.result c.args.bytes.now.items ++ replicate (c.next_multiple_of-first.result - n) 0) long)
    new

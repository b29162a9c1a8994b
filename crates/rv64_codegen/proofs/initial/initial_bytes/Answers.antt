use Rattle.std.proofs.Common.{◌≡◌, ◌-◌, ◌++◌, ◌∙◌, ap, arith, ℕ, List, ℤ, length, map, take, replicate, vec_len}
use Rattle.std.specs.Int.{next_multiple_of}
use Rattle.std.proofs.lemmas.List.{take_all}
use Rattle.ido_base.specs.declared.location.Shape.{Shape}
use Rattle.c_tree.specs.Programs.{variable_of}
use Rattle.c_tree.specs.WellFormed.{shape_of, initial_numbers}
use Rattle.memory_layout.specs.links.Bytes.{bytes_from, variable_bytes}
use Rattle.memory_layout.proofs.Public.{bytes-none, bytes-more, filled}
use Rattle.rv64_codegen.proofs.Shaped.{shaped, long_shapes, long_numbers, shape_at, numbers_at}
use Rattle.rv64_codegen.proofs.initial.initial_bytes.Goals as goal

pub loop-variable-init : goal.loop-variable-init
loop-variable-init c = c.new-bytes.ensures.items ∙ bytes-none (take 0 (map initial_numbers (map variable_of c.args.variables.now)))

pub loop-variable-preserved : goal.loop-variable-preserved
loop-variable-preserved c =
    let xs = c.args.variables.now in
    let x = c.variable-item.result in
    let i = c.loop-variable.variable-index in
    let pushed : c.push_variable.new.bytes.items ≡ c.loop-variable.bytes.items
    ++ variable_bytes (length c.loop-variable.bytes.items) (shape_of (variable_of x)) (initial_numbers (variable_of x)) =
    c.in_ok-push_variable.ensures ∙ (λ j. c.loop-variable.bytes.items
    ++ variable_bytes (length c.loop-variable.bytes.items) (c.shape.ensures j) (c.deref.ensures.value j)) in
    bytes-more (map shape_of (map variable_of xs)) (map initial_numbers (map variable_of xs)) i (shape_of (variable_of x)) (initial_numbers (variable_of x))
    c.loop-variable.bytes.items c.push_variable.new.bytes.items (shaped (map variable_of xs)) c.requires
    (omega (arith, c.loop-variable-test.true, long_shapes xs)) (shape_at xs i x c.loop-variable-test.true c.variable-item.is)
    (numbers_at xs i x c.loop-variable-test.true c.variable-item.is) c.loop-variable.invariant pushed

pub returns : goal.returns
returns c =
    let vs = map variable_of c.args.variables.now in
    let ss : List Shape = map shape_of vs in
    let zss : List (List ℤ) = map initial_numbers vs in
    let i = c.loop-variable.variable-index in
    let all : take i ss ≡ ss = take_all i ss (omega (arith, c.loop-variable-test.false, long_shapes c.args.variables.now)) in
    let all' : take i zss ≡ zss = take_all i zss (omega (arith, c.loop-variable-test.false, long_numbers c.args.variables.now)) in
    let before : c.loop-variable.bytes.items ≡ bytes_from 0 ss zss = c.loop-variable.invariant ∙ (λ j. bytes_from 0 (all j) (all' j)) in
    let long : vec_len c.loop-variable.bytes ≡ length c.loop-variable.bytes.items = c.loop-variable.bytes.ok.0 in
    let end : c.next_multiple_of-end.result ≡ next_multiple_of (length c.loop-variable.bytes.items) 8 =
    c.next_multiple_of-end.ensures.value ∙ ap (λ (n : ℕ). next_multiple_of n 8) (c.len.ensures ∙ long) in
    filled ss zss c.loop-variable.bytes.items c.resize.new.self.items c.next_multiple_of-end.result (shaped vs) c.requires before end
    (c.in_ok-resize.ensures.items
    ∙ ap (λ (n : ℕ). take c.next_multiple_of-end.result c.loop-variable.bytes.items ++ replicate (c.next_multiple_of-end.result - n) 0) long)

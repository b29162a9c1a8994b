use Rattle.std.proofs.Common.{◌≡◌, ◌+◌, ◌/◌, ◌%◌, ◌^◌, ◌++◌, ◌∷◌, [], ◌∙◌, sym, subst, List, refl}
use Rattle.rv64_isa.specs.declared.instr.Instr.{Instr}
use Rattle.ido_ints.specs.Kinds.{bytes_of}
use Rattle.rv64_isa.specs.declared.instr.Instr.TheVariants.{Lui, ShiftImmediate, Op}
use Rattle.rv64_isa.specs.declared.instr.Operation.TheVariants.{Add}
use Rattle.rv64_isa.specs.declared.instr.ShiftOperation.TheVariants.{Slli}
use Rattle.expr_code.specs.EvaluationCode.{EvaluatesTo}
use Rattle.expr_code.specs.links.OperandCode.{temporary, is_free}
use Rattle.expr_code.specs.links.ElementLoads.{places_of, HasUpper}
use Rattle.expr_code.proofs.ElementLoadCode.{scaled_upper, plain_upper}
use Rattle.expr_code.proofs.PureCode.{none_more}
use Rattle.expr_code.proofs.elements.element_upper.Goals as goal

pub returns-then-count-eq0-clause-code : goal.returns-then-count-eq0-clause-code
returns-then-count-eq0-clause-code c = λ h x low operand.
    let seen : c.push-then-count-eq0.new.self.items ≡
    (c.args.index.code.items ++ Lui 31 ((c.args.address + 2048) % 2 ^ 32 / 4096) ∷ []) ++ Op Add 31 31 c.args.index.register ∷ [] =
    cc (c.in_ok-push.ensures.items, c.in_ok-push-2.ensures.items, c.upper.ensures, c.add.ensures) in
    subst (λ (code : List Instr). EvaluatesTo h x code (is_free c.args.held) (HasUpper c.args.address (bytes_of c.args.kind))) (sym seen)
    (plain_upper c.args.kind c.args.held c.args.index.register c.args.address c.args.index.code.items
    (sym c.scale-count.ensures.value ∙ c.if-count-eq0.true) h x low operand)

pub returns-clause-code : goal.returns-clause-code
returns-clause-code c = λ h x low operand.
    let seen : c.push-3.new.self.items ≡
    ((c.args.index.code.items ++ Lui 31 ((c.args.address + 2048) % 2 ^ 32 / 4096) ∷ []) ++
    ShiftImmediate Slli (temporary c.args.held) c.args.index.register (places_of c.args.kind) ∷ []) ++ Op Add 31 31 (temporary c.args.held) ∷ [] =
    cc (
      c.in_ok-push.ensures.items,
      c.in_ok-push-3.ensures.items,
      c.in_ok-push-4.ensures.items,
      c.upper.ensures,
      c.shift.ensures,
      c.add-2.ensures,
      c.temporary-bytes.ensures.value,
      c.scale-count.ensures.value,
    ) in
    subst (λ (code : List Instr). EvaluatesTo h x code (is_free c.args.held) (HasUpper c.args.address (bytes_of c.args.kind))) (sym seen)
    (scaled_upper c.args.kind c.args.held c.args.index.register c.args.address c.args.index.code.items c.requires h x low operand)

pub returns-then-count-eq0-clause-pure : goal.returns-then-count-eq0-clause-pure
returns-then-count-eq0-clause-pure c =
    let seen : c.push-then-count-eq0.new.self.items ≡
    (c.args.index.code.items ++ Lui 31 ((c.args.address + 2048) % 2 ^ 32 / 4096) ∷ []) ++ Op Add 31 31 c.args.index.register ∷ [] =
    cc (c.in_ok-push.ensures.items, c.in_ok-push-2.ensures.items, c.upper.ensures, c.add.ensures) in
    none_more (c.args.index.code.items ++ Lui 31 ((c.args.address + 2048) % 2 ^ 32 / 4096) ∷ []) (Op Add 31 31 c.args.index.register ∷ []) _ seen refl ∙
    none_more c.args.index.code.items (Lui 31 ((c.args.address + 2048) % 2 ^ 32 / 4096) ∷ []) _ refl refl

pub returns-clause-pure : goal.returns-clause-pure
returns-clause-pure c =
    let seen : c.push-3.new.self.items ≡
    ((c.args.index.code.items ++ Lui 31 ((c.args.address + 2048) % 2 ^ 32 / 4096) ∷ []) ++
    ShiftImmediate Slli (temporary c.args.held) c.args.index.register (places_of c.args.kind) ∷ []) ++ Op Add 31 31 (temporary c.args.held) ∷ [] =
    cc (
      c.in_ok-push.ensures.items,
      c.in_ok-push-3.ensures.items,
      c.in_ok-push-4.ensures.items,
      c.upper.ensures,
      c.shift.ensures,
      c.add-2.ensures,
      c.temporary-bytes.ensures.value,
      c.scale-count.ensures.value,
    ) in
    let first : List Instr = Lui 31 ((c.args.address + 2048) % 2 ^ 32 / 4096) ∷ [] in
    let second : List Instr = ShiftImmediate Slli (temporary c.args.held) c.args.index.register (places_of c.args.kind) ∷ [] in
    let third : List Instr = Op Add 31 31 (temporary c.args.held) ∷ [] in
    let old : List Instr = c.args.index.code.items in
    none_more ((old ++ first) ++ second) third c.push-3.new.self.items seen refl ∙
    none_more (old ++ first) second ((old ++ first) ++ second) refl refl ∙
    none_more old first (old ++ first) refl refl

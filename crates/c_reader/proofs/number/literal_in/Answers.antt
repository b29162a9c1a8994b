use Rattle.std.proofs.Common.{◌≡◌, drop, Some, ◌∙◌, sym, ap}
use Rattle.std.specs.Str.Parse.{digits_value}
use Rattle.ido_ints.specs.Literals.{literal_kind_of, literal_of}
use Rattle.c_tree.specs.LexicalScan.{suffix_of}
use Rattle.c_reader.proofs.Numbers.{literal_of_kind, literal_in-suffix}
use Rattle.c_reader.proofs.number.literal_in.Goals as goal

pub returns : goal.returns
returns c =
    let base = c.args.base in
    let suffix = c.in_ok-suffix.suffix in
    let kind : literal_kind_of base suffix c.in_ok-number.number ≡ Some c.in_ok-kind.kind = ap (literal_kind_of base suffix) (sym c.from.ensures)
    ∙ sym c.in_ok-kind.ensures in
    let after : suffix_of (drop c.digit_prefix.result c.args.bytes.now) ≡ Some suffix = ap suffix_of (sym c.split_at.ensures.back)
    ∙ sym c.in_ok-suffix.ensures in
    literal_of_kind base suffix c.in_ok-number.number c.in_ok-kind.kind kind
    ∙ ap (literal_of base suffix) (c.in_ok-number.ensures.value ∙ ap (digits_value c.args.radix) c.split_at.ensures.front)
    ∙ literal_in-suffix base c.args.radix c.args.bytes.now c.digit_prefix.result suffix c.digit_prefix.ensures.value after

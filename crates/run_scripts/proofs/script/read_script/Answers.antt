use Rattle.std.proofs.lemmas.Grind.{common_steps}
use Rattle.std.proofs.Common.{◌≡◌, ◌+◌, length, map, drop, sym, ◌∙◌, ap, arith}
use Rattle.run_scripts.specs.Pieces.{lines_at}
use Rattle.run_scripts.specs.Scripts.{read, lines_of, Lines}
use Rattle.run_scripts.proofs.ScriptTargetsExist.{script_doable}
use Rattle.run_scripts.specs.links.ScriptViews.{line_of, after_lines}
use Rattle.run_scripts.proofs.LineReader.{after_no_line, script_goes_on}
use Rattle.run_scripts.proofs.script.read_script.Goals as goal

pub loop-at-init : goal.loop-at-init
unfolding read
loop-at-init c =
    let lines = lines_of c.args.log c.args.harts (lines_at c.next_piece-at.result (drop c.next_piece-at.result c.args.text.now)) in (
      ap (lines_of c.args.log c.args.harts) c.next_piece-at.ensures.pieces ∙ sym (after_no_line lines)
          ∙ sym (ap (λ ls. after_lines (map line_of ls) lines) c.new-lines.ensures.items),
      c.next_piece-at.ensures.bound,
      c.next_piece-at.ensures.piece,
    )

pub loop-at-preserved : goal.loop-at-preserved
loop-at-preserved c =
    let text = c.args.text.now in
    let at = c.loop-at.at in
    let bytes = c.piece_at-line.result.now in
    let next = c.next_piece-at-in-loop-at in (
      script_goes_on c.args.log c.args.harts text bytes (map line_of c.loop-at.lines.items) (map line_of c.push_line.new.lines.items)
          (read c.args.log c.args.harts text) at (at + length bytes) next.result c.in_ok-command.command
          c.loop-at.invariant.0 c.piece_at-line.ensures.piece c.in_ok-command.ensures next.ensures.pieces c.in_ok-push_line.ensures,
      next.ensures.bound,
      next.ensures.piece,
    )

pub returns-clause-doable : goal.returns-clause-doable
returns-clause-doable c =
    let whole : read c.args.log c.args.harts c.args.text.now ≡ Lines (map line_of c.loop-at.lines.items) = grind (arith, common_steps) in
    script_doable c.args.log c.args.harts c.args.text.now c.loop-at.lines.items whole

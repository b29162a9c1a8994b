use Rattle.std.proofs.Common.{◌≡◌, ◌<◌, ◌+◌, ◌-◌, ◌++◌, ◌∷◌, ◌/◌, ◌==◌, ℕ, suc, List, Bool, true, false, filter, refl, ap, ◌∙◌, append_assoc, arith}
use Rattle.std.proofs.Common.{if◌then◌else◌}
use Rattle.std.specs.List.{list_any}
use Rattle.log_schemes.specs.Schemes.{lines_in_bank, numbers_from, size_of}
use Rattle.rv64_isa.specs.declared.instr.Instr.{Instr}
use Rattle.boundary_code.specs.Boundaries.{clean_lines}
use Rattle.boundary_code.specs.links.InstructionLists.{clean_where}
use Rattle.boundary_code.proofs.code.emit_cleans.Goals as goal

-- one line more, in use or not
next : (test : ℕ → Bool) (old new : List Instr) (line lines : ℕ) → line < lines → new ≡ old ++ clean_where (test line) line →
    new ++ clean_lines (filter test (numbers_from (line + 1) (lines - (line + 1)))) ≡ old ++ clean_lines (filter test (numbers_from line (lines - line)))
next test old new line lines below is =
    let left : suc (lines - (line + 1)) ≡ lines - line = omega (arith, below) in
    let rest : List ℕ = filter test (numbers_from (line + 1) (lines - (line + 1))) in
    ap (λ (is : List Instr). is ++ clean_lines rest) is
    ∙ (append_assoc old (clean_where (test line) line) (clean_lines rest)
    ∙ (ap (λ (is : List Instr). old ++ is) (by (test line) rest) ∙ ap (λ (n : ℕ). old ++ clean_lines (filter test (numbers_from line n))) left))
  where
    by : (used : Bool) (rest : List ℕ) → clean_where used line ++ clean_lines rest ≡ clean_lines (if used then line ∷ rest else rest)
    by true rest = refl
    by false rest = refl

pub loop-line-preserved : goal.loop-line-preserved
loop-line-preserved c =
    let lines : ℕ = lines_in_bank (size_of c.args.log) in
    let ends : c.bank_lines-line-end.result ≡ lines = c.bank_lines-line-end.ensures.is ∙ ap lines_in_bank c.size.ensures in
    let below : c.loop-line.line < c.bank_lines-line-end.result = c.loop-line-test.true in
    next (λ line. list_any (λ slot. slot / 8 == line) c.args.slots.now) c.loop-line.code.items c.emit_clean.new.code.items c.loop-line.line lines
    (omega (arith, ends, below)) c.in_ok-emit_clean.ensures
    ∙ c.loop-line.invariant

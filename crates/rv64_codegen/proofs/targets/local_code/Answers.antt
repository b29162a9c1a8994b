use Rattle.std.proofs.Common.{List, ℕ, ◌≡◌, ◌<◌, ◌∙◌, ◌++◌, ap, length, sym, get_or, subst}
use Rattle.std.proofs.lemmas.Option.{slice_get-get_or, same_Some}
use Rattle.rv64_isa.specs.declared.instr.Instr.{Instr}
use Rattle.operator_code.specs.StraightLineCode.{IsConstant}
use Rattle.c_tree.specs.Exprs.{expr_of}
use Rattle.expr_code.specs.declared.home.Home.{Home}
use Rattle.expr_code.specs.declared.home.Home.TheVariants.{InRegister}
use Rattle.expr_code.specs.EvaluationCode.{home_of, homes_of}
use Rattle.rv64_codegen.proofs.Results.{framed_selected, local_selected}
use Rattle.rv64_codegen.proofs.targets.local_code.Goals as goal

read : (hs : List Home) (local : ℕ) (any home : Home) → local < length hs → get_or hs local any ≡ home → home_of hs local ≡ home
read hs local any home inside is =
    same_Some (home_of hs local) (get_or hs local any) (sym (slice_get-get_or hs local (InRegister 0) inside) ∙ slice_get-get_or hs local any inside) ∙ is

pub returns-in_ok-code-in-InRegister : goal.returns-in_ok-code-in-InRegister
returns-in_ok-code-in-InRegister c =
    local_selected (homes_of c.args.frame.now) c.args.place c.args.local c.in-InRegister.register c.args.kind
    (expr_of c.args.value.now.expr) c.in_ok-code-in-InRegister.code.items (read c.args.frame.now.locals.now c.args.local _ _ c.requires.local
    c.in-InRegister.is)
    c.in_ok-code-in-InRegister.ensures.short c.in_ok-code-in-InRegister.ensures.pure c.in_ok-code-in-InRegister.ensures.code

pub returns-in_ok-whole-in-InFrame : goal.returns-in_ok-whole-in-InFrame
returns-in_ok-whole-in-InFrame c =
    framed_selected (homes_of c.args.frame.now) c.args.place c.args.local c.in-InFrame.address c.args.kind (expr_of c.args.value.now.expr)
    c.in_ok-first-in-InFrame.first.items c.in_ok-second-in-InFrame.second.items c.in_ok-whole-in-InFrame.whole.items
    (c.in_ok-whole-in-InFrame.ensures ∙ ap (λ (is : List Instr). c.in_ok-first-in-InFrame.first.items ++ is) c.deref.ensures.value)
    (read c.args.frame.now.locals.now c.args.local _ _ c.requires.local c.in-InFrame.is)
    (subst (λ (n : ℕ). IsConstant 28 n c.in_ok-first-in-InFrame.first.items) c.from.ensures c.in_ok-first-in-InFrame.ensures.code)
    c.in_ok-first-in-InFrame.ensures.short c.in_ok-second-in-InFrame.ensures.short c.in_ok-second-in-InFrame.ensures.pure c.in_ok-second-in-InFrame.ensures.code

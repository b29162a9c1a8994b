use Rattle.std.proofs.Common.{◌≡◌, ◌<◌, ◌+◌, ◌++◌, ◌∷◌, ℕ, zero, suc, List, [], Bool, length, ap, arith, cond, drop, get_or, subst, sym, ◌∙◌}
use Rattle.std.specs.Prelude.{Vec}
use Rattle.std.specs.Global.{Global}
use Rattle.std.specs.List.{AllByRecursion, AllZip}
use Rattle.std.proofs.lemmas.List.{append-nil, drop_all, length-map}
use Rattle.c_tree.specs.Exprs as e
use Rattle.c_tree.specs.Exprs.{lock_ref_of}
use Rattle.c_tree.specs.LockNames.{Held, held_names, holds}
use Rattle.c_tree.specs.declared.expr.LockRef.{LockRef}
use Rattle.c_tree.specs.links.KnownNames.{names_of}
use Rattle.lock_discipline.proofs.Public.{next_held, ref_at}
use Rattle.rv64_isa.specs.declared.instr.Instr.{Instr}
use Rattle.expr_code.specs.EvaluationCode.{homes_of}
use Rattle.boundary_code.specs.Boundaries.{lists_of}
use Rattle.rv64_codegen.specs.links.Numbers.{IsNumberCode, IsReady}
use Rattle.rv64_codegen.proofs.HeldCodes.{numbered_more}
use Rattle.rv64_codegen.proofs.numbers.held_numbers.Goals as goal

next_at : (names : List LockRef) (held : Held) (i : ℕ) (name : LockRef) → i < length names → name ≡ get_or names i name →
    held_names (drop i (names_of names)) (drop i held)
    ≡ cond (holds held i) (lock_ref_of name ∷ held_names (drop (i + 1) (names_of names)) (drop (i + 1) held))
    (held_names (drop (i + 1) (names_of names)) (drop (i + 1) held))
next_at names held i name below is =
    let after : suc i ≡ i + 1 = omega arith in
    next_held (names_of names) held i (lock_ref_of name) (ref_at names i name below is)
    ∙ ap (λ (n : ℕ). let rest = held_names (drop n (names_of names)) (drop n held) in cond (holds held i) (lock_ref_of name ∷ rest) rest) after

ready_at : (P : e.LockName → Type 0) (names : List LockRef) (i : ℕ) (name : LockRef) → AllByRecursion P (names_of names) → i < length names →
    name ≡ get_or names i name → P (lock_ref_of name)
ready_at P [] i name all below is = absurd (omega (arith, below))
ready_at P (first ∷ names) zero name all below is = subst (λ (one : LockRef). P (lock_ref_of one)) (sym is) all.0
ready_at P (first ∷ names) (suc i) name all below is = ready_at P names i name all.1 (omega (arith, below)) is

pub push_number-requires : goal.push_number-requires
push_number-requires c =
    let within : c.loop-number.number < length c.args.names.now = omega arith in
    ready_at (IsReady (homes_of c.args.frame.now)) c.args.names.now c.loop-number.number c.index-names-number.result c.requires within c.index-names-number.is

pub loop-number-init : goal.loop-number-init
loop-number-init c = λ later are.
    subst (λ (codes : List (Vec Instr Global)).
    AllZip (IsNumberCode (homes_of c.args.frame.now) c.args.log.now) (held_names (names_of c.args.names.now) c.args.held.now) (lists_of codes ++ later))
    (sym c.new-codes.ensures.items) are

pub loop-number-preserved : goal.loop-number-preserved
loop-number-preserved c =
    let h = homes_of c.args.frame.now in
    let log : List Instr = c.args.log.now in
    let names : List LockRef = c.args.names.now in
    let held : Held = c.args.held.now in
    let i : ℕ = c.loop-number.number in
    let name : LockRef = c.index-names-number.result in
    let within : i < length names = omega arith in
    let whole : List e.LockName = held_names (names_of names) held in
    let left : List e.LockName = held_names (drop (i + 1) (names_of names)) (drop (i + 1) held) in
    let here : held_names (drop i (names_of names)) (drop i held) ≡ cond c.is_held-is_held.result (lock_ref_of name ∷ left) left =
    next_at names held i name within c.index-names-number.is ∙ ap (λ (b : Bool). cond b (lock_ref_of name ∷ left) left) (sym c.is_held-is_held.ensures) in
    numbered_more h log (lock_ref_of name) c.is_held-is_held.result (lists_of c.loop-number.codes.items) (lists_of c.push_number.new.codes.items) left whole
    (λ later are. c.loop-number.invariant later
    (subst (λ (ns : List e.LockName). AllZip (IsNumberCode h log) ns later) (sym here) are))
    c.in_ok-push_number.ensures

pub returns : goal.returns
returns c =
    let h = homes_of c.args.frame.now in
    let log : List Instr = c.args.log.now in
    let names : List e.LockName = names_of c.args.names.now in
    let i : ℕ = c.loop-number.number in
    let whole : List e.LockName = held_names names c.args.held.now in
    let none : drop i names ≡ [] = drop_all i names (omega (arith, length-map c.args.names.now lock_ref_of)) in
    let end : AllZip (IsNumberCode h log) (held_names (drop i names) (drop i c.args.held.now)) [] =
    subst (λ (xs : List e.LockName). AllZip (IsNumberCode h log) (held_names xs (drop i c.args.held.now)) []) (sym none) tt in
    subst (λ (cs : List (List Instr)). AllZip (IsNumberCode h log) whole cs) (append-nil (lists_of c.loop-number.codes.items)) (c.loop-number.invariant [] end)

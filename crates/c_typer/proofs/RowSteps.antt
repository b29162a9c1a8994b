-- One step of a row: what is made of the rest, and what is broken in it, after one part more.
use Rattle.std.proofs.Common.{◌≡◌, ◌+◌, ◌<◌, ℕ, List, [], ◌∷◌, ◌++◌, Option, None, length, drop, get_or, map, flat_map, subst, refl, sym, ap, ap₂, ◌∙◌}
use Rattle.std.proofs.lemmas.List.{at_drop_more}
use Rattle.ido_base.specs.declared.limits.TheConstants.{MOST_THREADS}
use Rattle.c_tree.specs.declared.language.Language.{Language}
use Rattle.c_tree.specs.Exprs.{placed_of}
use Rattle.c_tree.specs.Names as n
use Rattle.c_tree.specs.Programs as p
use Rattle.c_tree.specs.LexicalScan.{Fault}
use Rattle.c_tree.specs.Trees as t
use Rattle.c_tree.specs.TypeRules as rules
use Rattle.c_tree.specs.TypeRules.{type_faults}
use Rattle.c_tree.specs.Elaboration as typing
use Rattle.c_tree.specs.Elaboration.{statements_and, typed_program}
use Rattle.c_tree.specs.Views as v
use Rattle.c_tree.specs.declared.program.Arm as arm
use Rattle.c_tree.specs.declared.rule.Rule.TheVariants as rule
use Rattle.c_tree.specs.declared.tree.Arm as tree_arm
use Rattle.c_tree.specs.declared.tree.Item.{Item}
use Rattle.c_tree.specs.declared.tree.Statement.{Statement}
use Rattle.c_typer.specs.links.FirstFaults.{noted}
use Rattle.c_typer.proofs.FirstFaultLaws.{noted_append}
use Rattle.c_typer.specs.links.JoinedPrograms.{and_item, joined}
use Rattle.c_typer.proofs.ItemRows.{joined_item}
use Rattle.c_typer.proofs.Rows.{and_both, arms_and, push_arm}

-- ---- Faults

pub noted_both : (first second third : Option Fault) (xs ys : List Fault) → second ≡ noted first xs → third ≡ noted second ys → third ≡ noted first (xs ++ ys)
noted_both first second third xs ys h k = k ∙ ap (λ (f : Option Fault). noted f ys) h ∙ sym (noted_append first xs ys)

-- ---- Statements

pub rest_is : (xs : List Statement) (i : ℕ) (x : Statement) → i < length xs → x ≡ get_or xs i x
    → v.statements_of (drop i xs) ≡ t.statement_and (v.statement_of x) (v.statements_of (drop (i + 1) xs))
rest_is xs i x below is =
    at_drop_more v.statements_of xs i x below ∙ ap (λ (y : Statement). t.statement_and (v.statement_of y) (v.statements_of (drop (i + 1) xs))) (sym is)

pub made_step : (gs : List n.Global) (before after : p.Statements) (s s' : n.Scope) (x : t.Statement) (rest all : t.Statements) (whole : p.Statements)
    → all ≡ t.statement_and x rest
    → after ≡ statements_and before (typing.statement gs s x).made → s' ≡ (typing.statement gs s x).scope
    → statements_and before (typing.statements gs s all).made ≡ whole → statements_and after (typing.statements gs s' rest).made ≡ whole
made_step gs before after s s' x rest all whole split made scope h =
    ap₂ (λ (m : p.Statements) (z : n.Scope). statements_and m (typing.statements gs z rest).made) made scope
    ∙ and_both before (typing.statement gs s x).made (typing.statements gs (typing.statement gs s x).scope rest).made
    ∙ ap (λ (ys : t.Statements). statements_and before (typing.statements gs s ys).made) (sym split)
    ∙ h

pub noted_step : (l : Language) (gs : List n.Global) (before after : Option Fault) (s s' : n.Scope) (x : t.Statement) (rest all : t.Statements)
    (whole : Option Fault)
    → all ≡ t.statement_and x rest
    → after ≡ noted before (rules.statement_faults l gs s x) → s' ≡ (typing.statement gs s x).scope
    → noted before (rules.statements_faults l gs s all) ≡ whole → noted after (rules.statements_faults l gs s' rest) ≡ whole
noted_step l gs before after s s' x rest all whole split found scope h =
    ap₂ (λ (f : Option Fault) (z : n.Scope). noted f (rules.statements_faults l gs z rest)) found scope
    ∙ sym (noted_append before (rules.statement_faults l gs s x) (rules.statements_faults l gs (typing.statement gs s x).scope rest))
    ∙ ap (λ (ys : t.Statements). noted before (rules.statements_faults l gs s ys)) (sym split)
    ∙ h

pub scope_step : (gs : List n.Global) (s s' : n.Scope) (x : t.Statement) (rest all : t.Statements) (whole : n.Scope) → all ≡ t.statement_and x rest
    → s' ≡ (typing.statement gs s x).scope → (typing.statements gs s all).scope ≡ whole → (typing.statements gs s' rest).scope ≡ whole
scope_step gs s s' x rest all whole split scope h =
    ap (λ (z : n.Scope). (typing.statements gs z rest).scope) scope ∙ ap (λ (ys : t.Statements). (typing.statements gs s ys).scope) (sym split) ∙ h

-- ---- Arms

pub arms_rest_is : (xs : List tree_arm.Arm) (i : ℕ) (x : tree_arm.Arm) → i < length xs → x ≡ get_or xs i x
    → v.arms_list_of (drop i xs) ≡ t.arm_and (v.expression_of x.condition) (v.block_of x.block) (v.arms_list_of (drop (i + 1) xs))
arms_rest_is xs i x below is =
    at_drop_more v.arms_list_of xs i x below ∙ ap (λ (y : tree_arm.Arm). t.arm_and (v.expression_of y.condition) (v.block_of y.block)
    (v.arms_list_of (drop (i + 1) xs))) (sym is)

pub arms_made_step : (gs : List n.Global) (before after : List arm.Arm) (a : arm.Arm) (s s' : n.Scope) (x : t.Expression) (body : t.Block) (rest all : t.Arms)
    (whole : p.Arms)
    → all ≡ t.arm_and x body rest → after ≡ before ++ a ∷ [] → placed_of a.condition ≡ typing.placed gs s x
    → p.statements_of a.body.items ≡ (typing.inside gs s body).made
    → s' ≡ (typing.inside gs s body).scope
    → arms_and (p.arms_list_of before) (typing.arms_of gs s all).made ≡ whole → arms_and (p.arms_list_of after) (typing.arms_of gs s' rest).made ≡ whole
arms_made_step gs before after a s s' x body rest all whole split more condition inside scope h =
    ap (λ (ys : List arm.Arm). arms_and (p.arms_list_of ys) (typing.arms_of gs s' rest).made) more
    ∙ push_arm before a (typing.arms_of gs s' rest).made
    ∙ (λ i. arms_and (p.arms_list_of before) (p.arm_and (condition i) (inside i) (typing.arms_of gs (scope i) rest).made))
    ∙ ap (λ (ys : t.Arms). arms_and (p.arms_list_of before) (typing.arms_of gs s ys).made) (sym split)
    ∙ h

pub arms_noted_step : (l : Language) (gs : List n.Global) (before between after : Option Fault) (s s' : n.Scope) (x : t.Expression) (body : t.Block)
    (rest all : t.Arms)
    (whole : Option Fault)
    → all ≡ t.arm_and x body rest → between ≡ noted before (rules.numeric_faults l gs s x) → after ≡ noted between (rules.block_faults l gs s body)
    → s' ≡ (typing.inside gs s body).scope
    → noted before (rules.arms_faults l gs s all) ≡ whole → noted after (rules.arms_faults l gs s' rest) ≡ whole
arms_noted_step l gs before between after s s' x body rest all whole split condition inside scope h =
    ap (λ (z : n.Scope). noted after (rules.arms_faults l gs z rest)) scope
    ∙ noted_both before after (noted after (rules.arms_faults l gs (typing.inside gs s body).scope rest))
    (rules.numeric_faults l gs s x ++ rules.block_faults l gs s body)
    (rules.arms_faults l gs (typing.inside gs s body).scope rest)
    (noted_both before between after (rules.numeric_faults l gs s x) (rules.block_faults l gs s body) condition inside) refl
    ∙ ap (λ (ys : t.Arms). noted before (rules.arms_faults l gs s ys)) (sym split)
    ∙ h

pub arms_scope_step : (gs : List n.Global) (s s' : n.Scope) (x : t.Expression) (body : t.Block) (rest all : t.Arms) (whole : n.Scope)
    → all ≡ t.arm_and x body rest
    → s' ≡ (typing.inside gs s body).scope → (typing.arms_of gs s all).scope ≡ whole → (typing.arms_of gs s' rest).scope ≡ whole
arms_scope_step gs s s' x body rest all whole split scope h =
    ap (λ (z : n.Scope). (typing.arms_of gs z rest).scope) scope ∙ ap (λ (ys : t.Arms). (typing.arms_of gs s ys).scope) (sym split) ∙ h

-- ---- Items

pub items_rest_is : (xs ys : List Item) (i : ℕ) (x : Item) → ys ≡ xs → i < length ys → x ≡ get_or ys i x
    → map v.item_of (drop i xs) ≡ v.item_of x ∷ map v.item_of (drop (i + 1) xs)
items_rest_is xs ys i x same below is =
    subst (λ (zs : List Item). map v.item_of (drop i zs) ≡ v.item_of x ∷ map v.item_of (drop (i + 1) zs)) same
    (at_drop_more (map v.item_of) ys i x below ∙ ap (λ (y : Item). v.item_of y ∷ map v.item_of (drop (i + 1) ys)) (sym is))

pub items_made_step : (gs : List n.Global) (before after : p.Program) (x : t.Item) (rest all : List t.Item) (whole : p.Program) → all ≡ x ∷ rest
    → after ≡ and_item gs before x
    → joined before (typing.program_from gs all) ≡ whole → joined after (typing.program_from gs rest) ≡ whole
items_made_step gs before after x rest all whole split made h =
    ap (λ (q : p.Program). joined q (typing.program_from gs rest)) made
    ∙ joined_item gs before x (typing.program_from gs rest)
    ∙ ap (λ (ys : List t.Item). joined before (typing.program_from gs ys)) (sym split)
    ∙ h

pub items_noted_step : (l : Language) (gs : List n.Global) (before after : Option Fault) (x : t.Item) (rest all : List t.Item) (whole : Option Fault) →
    all ≡ x ∷ rest
    → after ≡ noted before (rules.item_faults l gs x)
    → noted before (flat_map (rules.item_faults l gs) all) ≡ whole → noted after (flat_map (rules.item_faults l gs) rest) ≡ whole
items_noted_step l gs before after x rest all whole split found h =
    ap (λ (f : Option Fault). noted f (flat_map (rules.item_faults l gs) rest)) found
    ∙ sym (noted_append before (rules.item_faults l gs x) (flat_map (rules.item_faults l gs) rest))
    ∙ ap (λ (ys : List t.Item). noted before (flat_map (rules.item_faults l gs) ys)) (sym split)
    ∙ h

-- ---- The whole text

pub all_noted : (l : Language) (xs : List t.Item) (gs : List n.Global) (begin twice threads mutexes bytes all : Option Fault) →
    gs ≡ n.globals_of xs → begin ≡ None
    → twice ≡ noted begin (rules.twice_from [] gs)
    → threads ≡ noted twice (rules.past rule.Threads MOST_THREADS (rules.thread_names xs))
    → mutexes ≡ noted threads (rules.too_many_mutexes (rules.most_mutexes l) 0 xs)
    → bytes ≡ noted mutexes (rules.too_many_bytes 0 xs)
    → all ≡ noted bytes (flat_map (rules.item_faults l gs) xs) → all ≡ noted None (type_faults l xs)
unfolding type_faults
all_noted l xs gs begin twice threads mutexes bytes all known none first second third fourth fifth =
    let a = rules.twice_from [] (n.globals_of xs) in
    let b = rules.past rule.Threads MOST_THREADS (rules.thread_names xs) in
    let d = rules.too_many_mutexes (rules.most_mutexes l) 0 xs in
    let e = rules.too_many_bytes 0 xs in
    let f = flat_map (rules.item_faults l (n.globals_of xs)) xs in
    let first_is = first ∙ ap₂ (λ (o : Option Fault) (ys : List n.Global). noted o (rules.twice_from [] ys)) none known in
    let last_is = fifth ∙ ap (λ (ys : List n.Global). noted bytes (flat_map (rules.item_faults l ys) xs)) known in
    noted_both None bytes all (a ++ b ++ d ++ e) f
    (noted_both None mutexes bytes (a ++ b ++ d) e (noted_both None threads mutexes (a ++ b) d (noted_both None twice threads a b first_is second) third)
    fourth)
    last_is

pub program_is : (xs : List t.Item) (gs : List n.Global) → gs ≡ n.globals_of xs → typing.program_from gs xs ≡ typed_program xs
unfolding typed_program
program_is xs gs known = ap (λ (ys : List n.Global). typing.program_from ys xs) known

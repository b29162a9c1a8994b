-- Rows of items.
use Rattle.std.proofs.Common.{◌≡◌, ℕ, suc, ◌-◌, ◌<◌, List, [], ◌∷◌, ◌++◌, refl, ap, ◌∙◌, append_assoc, append-nil, arith}
use Rattle.c_tree.specs.Names as n
use Rattle.c_tree.specs.Programs as p
use Rattle.c_tree.specs.Trees as t
use Rattle.c_tree.specs.TypeRules as rules
use Rattle.c_tree.specs.Elaboration as made
use Rattle.c_tree.specs.Elaboration.{with_item}
use Rattle.c_tree.specs.declared.rule.Rule.{Rule}
use Rattle.c_typer.specs.links.JoinedPrograms.{and_item, joined, nothing}

-- ---- Programs

abbrev program : List p.Mutex → List p.Variable → List p.Function → List p.Thread → p.Program
program ms vs fs ts = record { mutexes = ms; variables = vs; functions = fs; threads = ts }

-- one item more after those that were made, or before those that follow
pub joined_item : (gs : List n.Global) (q : p.Program) (x : t.Item) (r : p.Program) → joined (and_item gs q x) r ≡ joined q (with_item gs x r)
joined_item gs q x r = joined_both q (with_item gs x nothing) r ∙ ap (joined q) (before x)
  where
    joined_both : (a b c : p.Program) → joined (joined a b) c ≡ joined a (joined b c)
    joined_both a b c =
        ap (λ (ms : List p.Mutex). program ms ((a.variables ++ b.variables) ++ c.variables) ((a.functions ++ b.functions) ++ c.functions)
        ((a.threads ++ b.threads) ++ c.threads))
        (append_assoc a.mutexes b.mutexes c.mutexes)
        ∙ ap (λ (vs : List p.Variable). program (a.mutexes ++ (b.mutexes ++ c.mutexes)) vs ((a.functions ++ b.functions) ++ c.functions)
        ((a.threads ++ b.threads) ++ c.threads))
        (append_assoc a.variables b.variables c.variables)
        ∙ ap (λ (fs : List p.Function). program (a.mutexes ++ (b.mutexes ++ c.mutexes)) (a.variables ++ (b.variables ++ c.variables)) fs
        ((a.threads ++ b.threads) ++ c.threads))
        (append_assoc a.functions b.functions c.functions)
        ∙ ap (program (a.mutexes ++ (b.mutexes ++ c.mutexes)) (a.variables ++ (b.variables ++ c.variables)) (a.functions ++ (b.functions ++ c.functions)))
        (append_assoc a.threads b.threads c.threads)

    before : (x : t.Item) → joined (with_item gs x nothing) r ≡ with_item gs x r
    before (t.MutexItem y count) =
        ap (λ (ms : List p.Mutex). program (ms ++ r.mutexes) r.variables r.functions r.threads) (append-nil (made.mutexes gs y count))
    before (t.PersistentItem y) = refl
    before (t.ThreadItem y) = refl
    before (t.FunctionItem y) = refl

pub joined_nothing : (q : p.Program) → joined q nothing ≡ q
joined_nothing q =
    ap (λ (ms : List p.Mutex). program ms (q.variables ++ []) (q.functions ++ []) (q.threads ++ [])) (append-nil q.mutexes)
    ∙ ap (λ (vs : List p.Variable). program q.mutexes vs (q.functions ++ []) (q.threads ++ [])) (append-nil q.variables)
    ∙ ap (λ (fs : List p.Function). program q.mutexes q.variables fs (q.threads ++ [])) (append-nil q.functions)
    ∙ ap (program q.mutexes q.variables q.functions) (append-nil q.threads)

-- ---- Names past the most that there may be

pub past_none : (found : Rule) (most : ℕ) (x : t.Name) (xs : List t.Name) → most ≡ 0 → rules.past found most (x ∷ xs) ≡ rules.broken found x.place
past_none found most x xs none = ap (λ (m : ℕ). rules.past found m (x ∷ xs)) none

pub past_some : (found : Rule) (most : ℕ) (x : t.Name) (xs : List t.Name) → 0 < most → rules.past found most (x ∷ xs) ≡ rules.past found (most - 1) xs
past_some found most x xs some = let e : most ≡ suc (most - 1) = omega arith in ap (λ (m : ℕ). rules.past found m (x ∷ xs)) e

pub ruleset joins = (joined_item, joined_nothing)

pub ruleset pasts = (past_none, past_some)

-- What a text that keeps the rules of names has: few threads.
use Rattle.std.proofs.Common.{◌≡◌, refl, ℕ, zero, suc, ◌≤◌, List, [], ◌∷◌, ◌++◌, length, flat_map, ap, arith}
use Rattle.std.proofs.lemmas.List.{length-map}
use Rattle.ido_base.specs.declared.limits.TheConstants.{MOST_THREADS}
use Rattle.c_tree.specs.declared.language.Language.{Language}
use Rattle.c_tree.specs.Flats as f
use Rattle.c_tree.specs.Flats.{flat_of}
use Rattle.c_tree.specs.Inlining.{flat_form, flat_thread}
use Rattle.c_tree.specs.Names as n
use Rattle.c_tree.specs.Programs as p
use Rattle.c_tree.specs.Trees as t
use Rattle.c_tree.specs.TypeRules.{most_mutexes, past, thread_names, type_faults, twice_from, too_many_bytes, too_many_mutexes, item_faults}
use Rattle.c_tree.specs.Elaboration.{program_from, typed_program}
use Rattle.c_tree.specs.declared.rule.Rule as r
use Rattle.c_tree.specs.declared.rule.Rule.TheVariants as rule
use Rattle.c_tree.specs.declared.flat.Flat.{Flat}
use Rattle.log_schemes.specs.declared.log.Log.{Log}
use Rattle.thread_code.specs.Plans.{language_of}
use Rattle.ido_compile.specs.LoggedTexts.{IsAcceptedAs}

pub no_prefix : {X : Type 0} (xs ys : List X) → xs ++ ys ≡ [] → xs ≡ []
no_prefix [] ys h = refl
no_prefix (x ∷ xs) ys h = absurd (cc h)

pub no_back : {X : Type 0} (xs ys : List X) → xs ++ ys ≡ [] → ys ≡ []
no_back [] ys h = h
no_back (x ∷ xs) ys h = absurd (cc h)

few : (found : r.Rule) (most : ℕ) (xs : List t.Name) → past found most xs ≡ [] → length xs ≤ most
few found most [] h = omega arith
few found zero (x ∷ xs) h = absurd (cc h)
few found (suc most) (x ∷ xs) h = let rest = few found most xs h in omega (arith, rest)

threads_in : (gs : List n.Global) (xs : List t.Item) → length (program_from gs xs).threads ≡ length (thread_names xs)
threads_in gs [] = refl
threads_in gs (t.MutexItem x count ∷ xs) = threads_in gs xs
threads_in gs (t.PersistentItem x ∷ xs) = threads_in gs xs
threads_in gs (t.FunctionItem x ∷ xs) = threads_in gs xs
threads_in gs (t.ThreadItem x ∷ xs) = ap suc (threads_in gs xs)

few_of : (l : Language) (xs : List t.Item) → type_faults l xs ≡ [] → length (typed_program xs).threads ≤ MOST_THREADS
unfolding type_faults typed_program
few_of l xs h =
    let twice = twice_from [] (n.globals_of xs) in
    let of_threads = past rule.Threads MOST_THREADS (thread_names xs) in
    let of_mutexes = too_many_mutexes (most_mutexes l) 0 xs in
    let a = no_prefix (twice ++ of_threads ++ of_mutexes ++ too_many_bytes 0 xs) (flat_map (item_faults l (n.globals_of xs)) xs) h in
    let b = no_prefix (twice ++ of_threads ++ of_mutexes) (too_many_bytes 0 xs) a in
    let threads = no_back twice of_threads (no_prefix (twice ++ of_threads) of_mutexes b) in
    let e = threads_in (n.globals_of xs) xs in
    let t = few rule.Threads MOST_THREADS (thread_names xs) threads in
    omega (arith, e, t)

flat_count : (x : p.Program) → length (flat_form x).threads ≡ length x.threads
unfolding flat_form
flat_count x = length-map x.threads (flat_thread x.functions)

pub few_accepted : (log : Log) (text : List ℕ) (flat : f.Flat) → IsAcceptedAs log text flat → length flat.threads ≤ 8
few_accepted log text flat is =
    let flattened = is.form in
    let it = flattened.ranged.typed in
    let a = few_of (language_of log) it.items it.faultless in
    let b = ap (λ (q : p.Program). length q.threads) it.typed in
    let c = flat_count flattened.program in
    let d = ap (λ (y : f.Flat). length y.threads) flattened.flattened in
    omega (arith, a, b, c, d)

pub few_threads : (log : Log) (text : List ℕ) (flat : Flat) → IsAcceptedAs log text (flat_of flat) → length flat.threads.items ≤ 8
few_threads log text flat is =
    let few = few_accepted log text (flat_of flat) is in
    omega (arith, few, length-map flat.threads.items f.thread_of)

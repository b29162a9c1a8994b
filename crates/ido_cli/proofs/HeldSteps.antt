-- Before each node of a thread its set of held mutexes is known.
use Rattle.std.proofs.Common.{◌≡◌, refl, ℕ, suc, ◌<◌, List, [], ◌∷◌, length, map, Some, ap, sym, subst, ◌∙◌, arith}
use Rattle.std.specs.Prelude.{slice_get}
use Rattle.std.proofs.lemmas.Option.{same_Some, slice_get_within}
use Rattle.c_tree.specs.Flats as f
use Rattle.c_tree.specs.LockNames.{Held}
use Rattle.lock_discipline.specs.HeldSetsByStep.{AreAllSetsOf, AreSetsOf}
use Rattle.machine_model.specs.declared.object.Object.{Object}
use Rattle.rv64_isa.specs.declared.object.Marks.{Marks}
use Rattle.flow_graph.specs.declared.cuts.Cuts.{Cuts}
use Rattle.flow_graph.specs.declared.graph.Part.{Part}
use Rattle.flow_graph.specs.Lowering.{lowered}
use Rattle.flow_graph.specs.Nodes.{Graph}
use Rattle.flow_graph.proofs.Public.{found_in, lowered_threads}
use Rattle.thread_code.specs.Plans.{Plan, IsPlan, Thread, IsThread, home_of_colour}
use Rattle.rv64_codegen.proofs.Public.{few_nodes, held_sets, held_there}
use Rattle.flat_compile.specs.TranslatedForms.{IsTranslatedAs, command_log}
use Rattle.ido_cli.specs.links.Regions.{HasSets, HaveSets}
use Rattle.ido_cli.proofs.NodeLines.{parts_many}

module _ (p : Plan) (plan : IsPlan p) (thread : ℕ) (part : Part) (at : slice_get p.graph.threads thread ≡ Some part) where
  below : thread < length p.graph.threads
  below = slice_get_within p.graph.threads thread part at

  as_many : length p.graph.threads ≡ length p.flat.threads
  as_many = ap length (ap (λ (g : Graph). g.threads) plan.lowered ∙ lowered_threads p.flat) ∙ parts_many p.flat.threads 0

  text : (t : f.Thread) × (slice_get p.flat.threads thread ≡ Some t)
  text = found_in p.flat.threads thread (omega (arith, below, as_many))

  colours : (own : List ℕ) × (slice_get p.colours thread ≡ Some own)
  colours = found_in p.colours thread (omega (arith, below, plan.registers.threads))

  abbrev own : Thread
  own = record { number = thread; part = part; kinds = text.0.locals; locals = map (home_of_colour p.log thread) colours.0 }

  is_own : IsThread p own
  is_own = record {
    nodes = at;
    text = text.0;
    of_text = text.1;
    kinds = refl;
    colours = colours.0;
    of_colours = colours.1;
    locals = refl;
  }

  sets_there : HasSets p.held thread part
  sets_there = record {
    there = held_there p plan own is_own;
    few_threads = omega (arith, below, as_many, plan.formed.shared.threads);
    sets = λ node from within. held_sets p plan own is_own node (record { from_first = from; below_end = within });
    few_steps = omega (arith, few_nodes p plan own is_own);
  }

-- ---- A form has one table of sets

one_list : (xs ys : List Held) → ((n : ℕ) (k : Held) → slice_get xs n ≡ Some k → slice_get ys n ≡ Some k) → length xs ≡ length ys → xs ≡ ys
one_list [] [] same long = refl
one_list [] (y ∷ ys) same long = absurd (omega (arith, long))
one_list (x ∷ xs) [] same long = absurd (omega (arith, long))
one_list (x ∷ xs) (y ∷ ys) same long =
    ap (λ (h : Held). h ∷ xs) (same_Some x y (sym (same 0 x refl)))
    ∙ ap (λ (hs : List Held). y ∷ hs) (one_list xs ys (λ n k there. same (suc n) k there) (omega (arith, long)))

one_table : (xs ys : List (List Held)) → ((n : ℕ) (one other : List Held) → slice_get xs n ≡ Some one → slice_get ys n ≡ Some other → one ≡ other) →
    length xs ≡ length ys → xs ≡ ys
one_table [] [] same long = refl
one_table [] (y ∷ ys) same long = absurd (omega (arith, long))
one_table (x ∷ xs) [] same long = absurd (omega (arith, long))
one_table (x ∷ xs) (y ∷ ys) same long =
    ap (λ (one : List Held). one ∷ xs) (same 0 x y refl refl)
    ∙ ap (λ (all : List (List Held)). y ∷ all) (one_table xs ys (λ n one other here there. same (suc n) one other here there) (omega (arith, long)))

one_of : (x : f.Flat) (t : f.Thread) (one other : List Held) → AreSetsOf x t one → AreSetsOf x t other → one ≡ other
one_of x t one other is are =
    one_list one other (λ n k there. (are.exactly n k).1 ((is.exactly n k).0 there)) (is.each_step ∙ sym are.each_step)

same_sets : (x : f.Flat) (one other : List (List Held)) → AreAllSetsOf x one → AreAllSetsOf x other → one ≡ other
same_sets x one other is are =
    one_table one other (λ n sets sets' here there.
    let t = found_in x.threads n (let l = slice_get_within one n sets here in omega (arith, l, is.each_thread)) in
    one_of x t.0 sets sets' (is.sets n t.0 sets t.1 here) (are.sets n t.0 sets' t.1 there))
    (is.each_thread ∙ sym are.each_thread)

-- a plan with other sets, which are those of its form too, is the same one
with_sets : (p : Plan) (held : List (List Held)) → IsPlan p → AreAllSetsOf p.flat held → IsPlan (record p { held = held })
with_sets p held plan are = subst (λ (sets : List (List Held)). IsPlan (record p { held = sets })) (same_sets p.flat p.held held plan.held are) plan

pub have_sets : (x : f.Flat) (object : Object) (marks : Marks) (cuts : Cuts) (held : List (List Held)) (parts : List Part) →
    IsTranslatedAs command_log x object marks cuts → AreAllSetsOf x held → parts ≡ (lowered x).threads → HaveSets held parts
have_sets x object marks cuts held parts t are parts_are thread part at =
    let p : Plan = t.system.plan in
    let sets : AreAllSetsOf p.flat held = subst (λ (y : f.Flat). AreAllSetsOf y held) (sym t.of_flat) are in
    let graph : p.graph ≡ lowered x = t.is.plan.lowered ∙ ap lowered t.of_flat in
    sets_there (record p { held = held }) (with_sets p held t.is.plan sets) thread part
    (ap (λ (g : Graph). slice_get g.threads thread) graph ∙ ap (λ (ps : List Part). slice_get ps thread) (sym parts_are) ∙ at)

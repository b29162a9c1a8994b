-- What is linked for a plan is within a machine's limits.
use Rattle.std.proofs.Common.{◌≡◌, refl, ℕ, zero, suc, ◌+◌, ◌-◌, ◌*◌, ◌/◌, ◌<◌, ◌≤◌, List, [], ◌∷◌, length, map, Some, ap, sym, subst, ◌∙◌, arith}
use Rattle.std.specs.Prelude.{slice_get, slice_index_or, Vec}
use Rattle.std.specs.Global.{Global}
use Rattle.std.proofs.lemmas.List.{length-map}
use Rattle.std.proofs.lemmas.Option.{none-some, same_Some}
use Rattle.ido_base.specs.declared.limits.TheConstants.{MOST_CODE_WORDS, MOST_VARIABLE_BYTES}
use Rattle.log_schemes.specs.declared.log.Log.{Log}
use Rattle.log_schemes.specs.declared.keeping.Keeping.{Keeping}
use Rattle.log_schemes.specs.declared.keeping.Keeping.TheVariants.{Masked, Listed}
use Rattle.ido_base.specs.Layout.{end_from}
use Rattle.c_tree.specs.Flats as f
use Rattle.c_tree.specs.WellFormed.{shape_of}
use Rattle.rv64_isa.specs.Programs.{code_base, slot_of}
use Rattle.machine_model.specs.Objects.{program_of}
use Rattle.hart_core.specs.Objects.{IsWithinLimits}
use Rattle.log_schemes.specs.Schemes.{keeping_of, most_kept, most_locks}
use Rattle.flow_graph.specs.declared.graph.Part.{Part}
use Rattle.flow_graph.specs.Nodes.{Graph}
use Rattle.flow_graph.specs.Lowering.{part, parts, statements_count, thread_count}
use Rattle.flow_graph.proofs.Public.{found_in, lowered_threads}
use Rattle.code_runs.specs.CodeTraces.{Program}
use Rattle.thread_code.specs.Plans.{Plan, IsPlan, IsNodeOf}
use Rattle.recovered_threads.specs.RecordDescriptions.{Code}
use Rattle.crash_simulation.specs.Systems as y
use Rattle.crash_simulation.specs.Systems.{System, IsSystem}
use Rattle.flat_compile.proofs.LinkedThreads.{few_words, linked_at, linked_count}
use Rattle.flat_compile.proofs.Systems.{LinkedCode, node_there, system, system_is}

-- ---- A thread has words: those of its first node

part_some : (ts : List f.Thread) (first number : ℕ) (own : Part) → slice_get (parts ts first) number ≡ Some own → own.first < own.end
part_some [] first number own g = absurd (none-some own g)
part_some (t ∷ ts) first zero own g =
    let some : first < first + suc (statements_count t.body) = omega arith in
    subst (λ (q : Part). q.first < q.end) (same_Some (part t first) own g) some
part_some (t ∷ ts) first (suc number) own g = part_some ts (first + thread_count t) number own g

module _ (s : System) (is : IsSystem s) (n : ℕ) (below : n < y.thread_count s) where
  abbrev code : Code s.plan
  code = is.codes.each n below

  some_nodes : code.thread.part.first < code.thread.part.end
  some_nodes =
      let flat = s.plan.flat in
      let threads : parts flat.threads 0 ≡ s.plan.graph.threads = sym (ap (λ (g : Graph). g.threads) is.plan.lowered ∙ lowered_threads flat) in
      part_some flat.threads 0 code.thread.number code.thread.part
      (ap (λ (qs : List Part). slice_get qs code.thread.number) threads ∙ code.of.nodes)

  some_words : 1 ≤ length (slice_index_or s.runs.program n [])
  some_words =
      let first = code.thread.part.first in
      let own : IsNodeOf code.thread first = record { from_first = omega arith; below_end = some_nodes } in
      let node = node_there s.plan is.plan code.thread code.of first own in
      let made = code.is.code first node.0 own node.1 in
      let core = made.within.core.is in
      let after = made.within.after_core.is in
      let all = made.words.to_is in
      let inside = made.words.inside in
      let mine : length code.is.places.program.code ≡ length (slice_index_or s.runs.program n []) =
      ap (λ (q : Program). length q.code) (code.is.of_program ∙ (is.own n below).program)
      ∙ ap (λ (k : ℕ). length (slice_index_or s.runs.program k [])) (is.codes.number n below) in
      omega (arith, core, after, all, inside, mine)

-- as many locks as the log has room for in a program
locks_few : (p : Plan) → IsPlan p → length p.flat.mutexes ≤ most_locks p.log
locks_few p plan = by (keeping_of p.log) refl
  where
    by : (k : Keeping) → keeping_of p.log ≡ k → length p.flat.mutexes ≤ most_kept k
    by Masked is = (plan.plain is).few
    by Listed is = plan.formed.shared.mutexes

-- ---- Objects

-- a slot for each word
as_many_slots : (codes : List (Vec ℕ Global)) (k : ℕ) (d : Vec ℕ Global) → k < length codes →
    length (slice_index_or (map (λ (code : Vec ℕ Global). map slot_of code.items) codes) k []) ≡ length (slice_index_or codes k d).items
as_many_slots [] k d below = absurd (omega (arith, below))
as_many_slots (code ∷ codes) zero d below = length-map code.items slot_of
as_many_slots (code ∷ codes) (suc k) d below = as_many_slots codes k d (omega (arith, below))

module _ {p : Plan} (plan : IsPlan p) (linked_code : LinkedCode p) where
  open linked_code use {threads, object, marks, coded, few, few_threads, linked, begins, mutexes, logs}

  -- as many as the items are of
  pub count : length object.code.items ≡ length threads
  count =
      sym (length-map object.code.items (λ (code : Vec ℕ Global). map slot_of code.items))
      ∙ linked_count code_base threads (program_of object) marks.threads.items linked

  some_at : (k : ℕ) (d : Vec ℕ Global) → k < length object.code.items → 1 ≤ length (slice_index_or object.code.items k d).items
  some_at k d below =
      let many = coded.count in
      let inside : k < length p.graph.threads = omega (arith, below, count, many) in
      let words : 1 ≤ length (slice_index_or (program_of object) k []) = some_words (system plan linked_code) (system_is plan linked_code) k inside in
      subst (λ (n : ℕ). 1 ≤ n) (as_many_slots object.code.items k d below) words

  few_at : (k : ℕ) (d : Vec ℕ Global) → k < length object.code.items → length (slice_index_or object.code.items k d).items ≤ MOST_CODE_WORDS
  few_at k d below =
      let items = found_in threads k (omega (arith, below, count)) in
      let there = linked_at code_base threads (program_of object) marks.threads.items linked few k items.0 items.1 in
      let words = few_words _ items.0 (slice_index_or (program_of object) k []) _ _ there.linked in
      let most : length (slice_index_or (program_of object) k []) ≤ MOST_CODE_WORDS = omega (arith, words, few k items.0 items.1) in
      subst (λ (n : ℕ). n ≤ MOST_CODE_WORDS) (as_many_slots object.code.items k d below) most

  pub within_limits : IsWithinLimits object
  within_limits =
      let locks : length p.flat.mutexes ≤ most_locks object.log =
      subst (λ (l : Log). length p.flat.mutexes ≤ most_locks l) logs (locks_few p plan) in
      let end = end_from 0 (map shape_of p.flat.variables) in
      let room : end ≤ MOST_VARIABLE_BYTES = plan.formed.shared.bytes in
      let size : length object.initial.items ≡ (end + 8 - 1) / 8 * 8 = begins.size in
      record {
        threads = omega (arith, count, few_threads);
        some_words = some_at;
        few_words = few_at;
        mutexes = subst (λ (n : ℕ). n ≤ most_locks object.log) (sym mutexes) locks;
        bytes = omega (arith, size, room);
        whole_words = omega (arith, size);
      }

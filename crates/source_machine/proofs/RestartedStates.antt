-- The state from which a life goes on after another.
use Rattle.std.proofs.Common.{◌≡◌, refl, ℕ, zero, suc, ◌+◌, ◌<◌, List, [], ◌∷◌, length, sym, ◌∙◌, ap, subst, Some, None, slice_set, arith, ⊎_elim, replicate}
use Rattle.std.specs.Prelude.{slice_get}
use Rattle.std.proofs.lemmas.Bool.{cases_eq}
use Rattle.std.proofs.lemmas.Option.{slice_get_within}
use Rattle.std.proofs.lemmas.List.{length-map, length-set, length-replicate}
use Rattle.c_tree.specs.Source as m
use Rattle.source_machine.specs.declared.thread.ThreadState.{ThreadState}
use Rattle.source_machine.specs.declared.state.SourceState.{SourceState}
use Rattle.source_machine.specs.Sections.{AreCounted}
use Rattle.source_machine.specs.links.Threads.{IsCodeOfThread, StartsAnew, ThreadCode, code_of}
use Rattle.source_machine.specs.links.States.{KeepsRun, Restarts}
use Rattle.source_machine.proofs.Emission.{set_same, set_other}
use Rattle.source_machine.proofs.StartStates.{map_found}

-- ---- Threads keep their code

-- as many threads, each with the code that it had
pub record KeepCode (before now : List ThreadState) : Type 0 where
  pub count : length now ≡ length before
  pub each : (k : ℕ) (was is : ThreadState) → slice_get before k ≡ Some was → slice_get now k ≡ Some is → code_of is ≡ code_of was

found_in : {X : Type 0} (xs : List X) (k : ℕ) → k < length xs → (x : X) × (slice_get xs k ≡ Some x)
found_in [] k h = absurd (omega arith)
found_in (x ∷ xs) zero h = (x, refl)
found_in (x ∷ xs) (suc k) h = found_in xs k (omega arith)

pub code_same : (threads : List ThreadState) → KeepCode threads threads
code_same threads = record {
  count = refl;
  each = λ k was is g h. let same : is ≡ was = cc in ap code_of same;
}

pub code_set : (before now now' : List ThreadState) (i : ℕ) (it it' : ThreadState) → slice_get now i ≡ Some it → now' ≡ slice_set now i it' →
    code_of it' ≡ code_of it → KeepCode before now → KeepCode before now'
code_set before now now' i it it' here set same k = record {
  count = ap length set ∙ (length-set now i it' ∙ k.count);
  each = λ j was is g h.
      let h' : slice_get (slice_set now i it') j ≡ Some is = ap (λ ts. slice_get ts j) (sym set) ∙ h in
      ⊎_elim
      (λ at.
      let there : slice_get (slice_set now i it') i ≡ Some it' = set_same now i it' (slice_get_within now i it here) in
      let h'' : slice_get (slice_set now i it') i ≡ Some is = ap (slice_get (slice_set now i it')) (sym at) ∙ h' in
      let is_it : it' ≡ is = cc in
      ap code_of (sym is_it) ∙ (same ∙ k.each i was it (ap (slice_get before) (sym at) ∙ g) here))
      (λ other. k.each j was is g (sym (set_other now i j it' other) ∙ h'))
      (cases_eq j i);
}

pub run_kept : (before after : SourceState) → KeepCode before.threads.items after.threads.items → length after.holders.items ≡ length before.holders.items →
    KeepsRun before after
run_kept before after k holders x r = record {
  holders = holders ∙ r.holders;
  count = k.count ∙ r.count;
  each = λ j thread source g h.
      let was = found_in before.threads.items j (omega (arith, k.count, slice_get_within after.threads.items j thread g)) in
      let P : ThreadCode → Type 0 = λ code. IsCodeOfThread code source in
      subst P (sym (k.each j was.0 thread was.1 g)) (r.each j was.0 source was.1 h);
}

-- ---- Threads go to their start

-- the first threads are at their start
pub record Restarted (now : List ThreadState) (done : ℕ) : Type 0 where
  pub each : (k : ℕ) (thread : ThreadState) → k < done → slice_get now k ≡ Some thread → StartsAnew (code_of thread) thread

pub none_restarted : (threads : List ThreadState) → Restarted threads 0
none_restarted threads = record { each = λ k thread low g. absurd (omega (arith, low)) }

pub one_restarted : (now now' : List ThreadState) (i : ℕ) (it it' : ThreadState) → slice_get now i ≡ Some it → now' ≡ slice_set now i it' →
    code_of it' ≡ code_of it → StartsAnew (code_of it) it' → Restarted now i → Restarted now' (i + 1)
one_restarted now now' i it it' here set same starts r = record {
  each = λ j thread low h.
      let h' : slice_get (slice_set now i it') j ≡ Some thread = ap (λ ts. slice_get ts j) (sym set) ∙ h in
      ⊎_elim
      (λ at.
      let there : slice_get (slice_set now i it') i ≡ Some it' = set_same now i it' (slice_get_within now i it here) in
      let h'' : slice_get (slice_set now i it') i ≡ Some thread = ap (slice_get (slice_set now i it')) (sym at) ∙ h' in
      let is_it : it' ≡ thread = cc in
      let P : ThreadState → Type 0 = λ t. StartsAnew (code_of t) t in
      let Q : ThreadCode → Type 0 = λ code. StartsAnew code it' in
      subst P is_it (subst Q (sym same) starts))
      (λ other. r.each j thread (omega (arith, low, other)) (sym (set_other now i j it' other) ∙ h'))
      (cases_eq j i);
}

pub all_restarted : (before after : SourceState) → after.variables ≡ before.variables →
    after.holders.items ≡ replicate (length before.holders.items) None → after.sections.items ≡ before.sections.items →
    KeepCode before.threads.items after.threads.items → Restarted after.threads.items (length after.threads.items) → Restarts before after
all_restarted before after variables holders sections k all x s ended r st =
    let run = run_kept before after k (ap length holders ∙ length-replicate (length before.holders.items) None) x r in
    let P : List ℕ → Type 0 = λ ns. AreCounted ns ended in
    record {
      variables = st.variables ∙ sym variables;
      holders = ap (λ n. replicate n None) (sym r.holders) ∙ sym holders;
      count = length-map x.threads m.thread_start ∙ sym run.count;
      each = λ j thread model g h.
          let a = map_found m.thread_start x.threads j model h in
          let i = all.each j thread (slice_get_within after.threads.items j thread g) g a.0 (run.each j thread a.0 g a.1) in
          record { left = i.left; code = i.code; is = sym a.2 ∙ sym i.is };
      sections = subst P (sym sections) st.sections;
    }

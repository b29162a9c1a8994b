-- The state at the start.
use Rattle.std.proofs.Common.{◌≡◌, refl, ℕ, zero, suc, ◌<◌, List, [], ◌∷◌, ◌++◌, length, map, get_or}
use Rattle.std.proofs.Common.{sym, ◌∙◌, ap, subst, Some, None, Option, arith, ⊎_elim, replicate}
use Rattle.std.specs.Prelude.{slice_get}
use Rattle.std.proofs.lemmas.Bool.{cases_lt}
use Rattle.std.proofs.lemmas.Option.{slice_get-get_or}
use Rattle.std.proofs.lemmas.List.{length-map, length-replicate, get_or-replicate}
use Rattle.c_tree.specs.Flats as f
use Rattle.c_tree.specs.Source as m
use Rattle.c_tree.specs.Programs.{Variable, mutex_of, variable_of}
use Rattle.c_tree.specs.declared.flat.Flat as flat
use Rattle.c_tree.specs.declared.flat.Thread as source
use Rattle.c_tree.specs.declared.program.Variable as variable
use Rattle.source_machine.specs.declared.thread.ThreadState.{ThreadState}
use Rattle.source_machine.specs.declared.state.SourceState.{SourceState}
use Rattle.source_machine.specs.Sections.{AreCounted}
use Rattle.source_machine.specs.links.Threads.{IsStarted, IsCodeOfThread, code_of}
use Rattle.source_machine.specs.links.States.{RepresentsState, IsRunOf}
use Rattle.source_machine.proofs.Emission.{get_same, get_only}

map_map : {X Y Z : Type 0} (g : Y → Z) (h : X → Y) (xs : List X) → map g (map h xs) ≡ map (λ x. g (h x)) xs
map_map g h [] = refl
map_map g h (x ∷ xs) = ap (λ ys. g (h x) ∷ ys) (map_map g h xs)

pub map_found : {X Y : Type 0} (g : X → Y) (xs : List X) (k : ℕ) (y : Y) → slice_get (map g xs) k ≡ Some y → (x : X) × (slice_get xs k ≡ Some x) × (g x ≡ y)
map_found g [] k y h = cc
map_found g (x ∷ xs) zero y h = (x, refl, cc)
map_found g (x ∷ xs) (suc k) y h = map_found g xs k y h

-- a thread is at its start, and its code is that of the source's
abbrev pub IsThreadOf : ThreadState → source.Thread → Type 0
IsThreadOf thread src = IsStarted thread (f.thread_of src) × IsCodeOfThread (code_of thread) (f.thread_of src)

-- each thread of the first ones is at its start
pub record AreStarted (threads : List ThreadState) (sources : List source.Thread) : Type 0 where
  pub each : (k : ℕ) (thread : ThreadState) (source : source.Thread) → slice_get threads k ≡ Some thread → slice_get sources k ≡ Some source →
      IsThreadOf thread source

pub one_started : (threads threads' : List ThreadState) (sources : List source.Thread) (i : ℕ) (x : ThreadState) (y : source.Thread) → length threads ≡ i →
    threads' ≡ threads ++ x ∷ [] → i < length sources → y ≡ get_or sources i y → IsThreadOf x y →
    AreStarted threads sources → AreStarted threads' sources
one_started threads threads' sources i x y size more within is started before = record {
  each = λ k thread src g h.
      let g' : slice_get (threads ++ x ∷ []) k ≡ Some thread = ap (λ (ts : List ThreadState). slice_get ts k) (sym more) ∙ g in
      ⊎_elim
      (λ low. before.each k thread src (sym (get_same threads (x ∷ []) k low) ∙ g') h)
      (λ high.
      let e = get_only threads x thread k high g' in
      let there : slice_get sources k ≡ Some y = ap (slice_get sources) (e.0 ∙ size) ∙ (slice_get-get_or sources i y within ∙ ap Some (sym is)) in
      let is_source : y ≡ src = cc in
      let P : ThreadState → Type 0 = λ t. IsThreadOf t src in
      let Q : source.Thread → Type 0 = λ s. IsThreadOf x s in
      subst P e.1 (subst Q is_source started))
      (cases_lt k (length threads));
}

pub starts : (state : SourceState) (x : flat.Flat) → state.variables ≡ map (λ (v : variable.Variable). (variable_of v).initial) x.variables.items →
    state.holders.items ≡ replicate (length x.mutexes.items) None →
    length state.threads.items ≡ length x.threads.items → state.sections.items ≡ replicate (length x.threads.items) 0 →
    AreStarted state.threads.items x.threads.items → RepresentsState state (m.start (f.flat_of x)) (λ _. 0)
starts state x variables holders count sections started =
    let zeros : AreCounted (replicate (length x.threads.items) 0) (λ _. 0) =
    λ k l. get_or-replicate (length x.threads.items) k 0 0 (omega (arith, length-replicate {A = ℕ} (length x.threads.items) 0)) in
    let P : List ℕ → Type 0 = λ ns. AreCounted ns (λ _. 0) in
    record {
      variables = map_map (λ (v : Variable). v.initial) variable_of x.variables.items ∙ sym variables;
      holders = ap (λ n. replicate n None) (length-map x.mutexes.items mutex_of) ∙ sym holders;
      count = length-map (map f.thread_of x.threads.items) m.thread_start ∙ (length-map x.threads.items f.thread_of ∙ sym count);
      each = λ k thread model g h.
          let a = map_found m.thread_start (map f.thread_of x.threads.items) k model h in
          let b = map_found f.thread_of x.threads.items k a.0 a.1 in
          let s = (started.each k thread b.0 g b.1).0 in
          record { left = s.left; code = s.code; is = sym a.2 ∙ (ap m.thread_start (sym b.2) ∙ sym s.is) };
      sections = subst P (sym sections) zeros;
    }

pub starts_run : (state : SourceState) (x : flat.Flat) → state.holders.items ≡ replicate (length x.mutexes.items) None →
    length state.threads.items ≡ length x.threads.items → AreStarted state.threads.items x.threads.items → IsRunOf state (f.flat_of x)
starts_run state x holders count started =
    let none : Option ℕ = None in
    record {
      holders = ap length holders ∙ (length-replicate (length x.mutexes.items) none ∙ sym (length-map x.mutexes.items mutex_of));
      count = count ∙ sym (length-map x.threads.items f.thread_of);
      each = λ k thread src g h.
          let b = map_found f.thread_of x.threads.items k src h in
          let P : f.Thread → Type 0 = λ y. IsCodeOfThread (code_of thread) y in
          subst P b.2 (started.each k thread b.0 g b.1).1;
    }

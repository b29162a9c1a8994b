use Rattle.std.proofs.Common.{◌≡◌, List, map, sym, ap, ap₂, ◌∙◌, subst}
use Rattle.std.proofs.lemmas.Option.{MatchOption-at_none, MatchOption-at_some}
use Rattle.c_tree.specs.Programs as p
use Rattle.c_tree.specs.Programs.{program_of, function_of, thread_of, mutex_of, variable_of}
use Rattle.c_tree.specs.Flats as f
use Rattle.c_tree.specs.Inlining as i
use Rattle.c_tree.specs.declared.program.Mutex as mutex
use Rattle.c_tree.specs.declared.program.Variable as variable
use Rattle.c_tree.specs.declared.program.Function.{Function}
use Rattle.c_tree.specs.declared.program.Thread.{Thread}
use Rattle.c_inline.specs.links.Calls.{lists_of, function_calls, LeadsBack, IsFirstBack}
use Rattle.c_inline.specs.links.KnownWeights.{IsClosed}
use Rattle.c_inline.specs.links.InlinedBodies.{AreSized}
use Rattle.c_inline.specs.Inline.{IsInlining}
use Rattle.c_inline.specs.links.Faults.{IsThreadFault, fault_among}
use Rattle.c_inline.proofs.InliningAnswers.{none_back, first_back_is, none_unknown, are_sized, flat_is}
use Rattle.c_inline.proofs.ThreadFaults.{fault_is, form_refused, told_error}
use Rattle.c_inline.proofs.inline.inline.Goals as goal

pub returns-in-Some : goal.returns-in-Some
returns-in-Some c =
    let F = c.as_slice-functions.result.now in
    let fs = map function_of F in
    let cs = c.deref-2.result.now in
    let lists : lists_of cs ≡ map function_calls fs = ap lists_of c.deref-2.ensures.value ∙ c.in_ok-calls.ensures in
    let first = MatchOption-at_some ((x : i.Call) → LeadsBack (lists_of cs) x → ⊥) (IsFirstBack (lists_of cs)) c.in-Some.place c.in-Some.is
    c.in_ok-place.ensures in
    subst (λ (xs : List Function). i.IsFirstBack (map function_of xs) c.in-Some.place) c.as_slice-functions.ensures.value
    (first_back_is cs fs lists c.in-Some.place first)

pub make_threads-requires-clause-sized : goal.make_threads-requires-clause-sized
make_threads-requires-clause-sized c =
    let F = c.as_slice-functions.result.now in
    let fs = map function_of F in
    let cs = c.deref-2.result.now in
    let lists : lists_of cs ≡ map function_calls fs = ap lists_of c.deref-2.ensures.value ∙ c.in_ok-calls.ensures in
    let ends : (x : i.Call) → i.LeadsBack fs x → ⊥ =
    none_back cs fs lists (MatchOption-at_none ((x : i.Call) → LeadsBack (lists_of cs) x → ⊥) (IsFirstBack (lists_of cs)) c.in_default.is
    c.in_ok-place.ensures) in
    subst (AreSized fs) (sym c.deref-8.ensures.value) (are_sized fs c.in_ok-sizes.sizes.items c.in_ok-sizes.ensures.closed ends c.in_ok-sizes.ensures.right)

pub make_threads-requires-clause-known : goal.make_threads-requires-clause-known
make_threads-requires-clause-known c =
    let F = c.as_slice-functions.result.now in
    let fs = map function_of F in
    let cs = c.deref-2.result.now in
    let lists : lists_of cs ≡ map function_calls fs = ap lists_of c.deref-2.ensures.value ∙ c.in_ok-calls.ensures in
    let ends : (x : i.Call) → i.LeadsBack fs x → ⊥ =
    none_back cs fs lists (MatchOption-at_none ((x : i.Call) → LeadsBack (lists_of cs) x → ⊥) (IsFirstBack (lists_of cs)) c.in_default.is
    c.in_ok-place.ensures) in
    none_unknown fs c.deref-10.result.now (subst (IsClosed fs) (sym c.deref-10.ensures.value) c.in_ok-prices.ensures.closed) ends

pub returns-in_err-threads : goal.returns-in_err-threads
returns-in_err-threads c =
    let F = c.as_slice-functions.result.now in
    let fs = map function_of F in
    let cs = c.deref-2.result.now in
    let lists : lists_of cs ≡ map function_calls fs = ap lists_of c.deref-2.ensures.value ∙ c.in_ok-calls.ensures in
    let ends : (x : i.Call) → i.LeadsBack fs x → ⊥ =
    none_back cs fs lists (MatchOption-at_none ((x : i.Call) → LeadsBack (lists_of cs) x → ⊥) (IsFirstBack (lists_of cs)) c.in_default.is
    c.in_ok-place.ensures) in
    let P = program_of c.args.program.now in
    let found = c.in_err-threads.field-0.0 in
    let M = c.deref-9.result.now in
    let T = c.deref-11.result.now in
    let a = subst (λ (xs : List Function). IsThreadFault c.args.language (map mutex_of M) (map function_of xs) (map thread_of T) found)
    c.as_slice-functions.ensures.value c.in_err-threads.ensures.dear in
    let b = subst (λ (xs : List Thread). IsThreadFault c.args.language (map mutex_of M) P.functions (map thread_of xs) found) c.deref-11.ensures.value a in
    let d = subst (λ (xs : List mutex.Mutex). IsThreadFault c.args.language (map mutex_of xs) P.functions P.threads found) c.deref-9.ensures.value b in
    told_error (IsInlining c.args.language P) found c.from_residual-in_err-threads.result c.from_residual-in_err-threads.ensures.1
    (form_refused c.args.language P found
    (subst (λ (xs : List Function). (x : i.Call) → i.LeadsBack (map function_of xs) x → ⊥) c.as_slice-functions.ensures.value ends) d)

pub returns : goal.returns
returns c =
    let F = c.as_slice-functions.result.now in
    let fs = map function_of F in
    let cs = c.deref-2.result.now in
    let lists : lists_of cs ≡ map function_calls fs = ap lists_of c.deref-2.ensures.value ∙ c.in_ok-calls.ensures in
    let ends : (x : i.Call) → i.LeadsBack fs x → ⊥ =
    none_back cs fs lists (MatchOption-at_none ((x : i.Call) → LeadsBack (lists_of cs) x → ⊥) (IsFirstBack (lists_of cs)) c.in_default.is
    c.in_ok-place.ensures) in
    let P = program_of c.args.program.now in
    let mutexes : map mutex_of c.in_ok-mutexes.mutexes.items ≡ P.mutexes =
    c.in_ok-mutexes.ensures ∙ ap (λ (xs : List mutex.Mutex). map mutex_of xs) c.deref-12.ensures.value in
    let variables : map variable_of c.in_ok-variables.variables.items ≡ P.variables =
    c.in_ok-variables.ensures ∙ ap (λ (xs : List variable.Variable). map variable_of xs) c.deref-13.ensures.value in
    let threads : map f.thread_of c.in_ok-threads.threads.items ≡ map (i.flat_thread P.functions) P.threads =
    c.in_ok-threads.ensures.made ∙ ap₂ (λ (xs : List Function) (ys : List Thread). map (i.flat_thread (map function_of xs)) (map thread_of ys))
    c.as_slice-functions.ensures.value c.deref-11.ensures.value in (
      subst (λ (xs : List Function). (x : i.Call) → i.LeadsBack (map function_of xs) x → ⊥) c.as_slice-functions.ensures.value ends,
      fault_is c.args.language P
          ∙ (ap (λ (xs : List mutex.Mutex). fault_among c.args.language (map mutex_of xs) P.functions P.threads) (sym c.deref-9.ensures.value)
          ∙ (ap₂ (λ (xs : List Function) (ys : List Thread).
          fault_among c.args.language (map mutex_of c.deref-9.result.now) (map function_of xs) (map thread_of ys))
          (sym c.as_slice-functions.ensures.value) (sym c.deref-11.ensures.value)
          ∙ c.in_ok-threads.ensures.cheap)),
      ap₂ (λ (ms : List p.Mutex) (vs : List p.Variable). let r : f.Flat =
          record { mutexes = ms; variables = vs; threads = map f.thread_of c.in_ok-threads.threads.items } in r) mutexes variables
          ∙ ap (λ (ts : List f.Thread). let r : f.Flat = record { mutexes = P.mutexes; variables = P.variables; threads = ts } in r) threads
          ∙ sym (flat_is P),
    )

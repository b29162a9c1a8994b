-- The names of a thread, as the code finds them.
use Rattle.std.proofs.Common.{◌≡◌, ℕ, List, [], map, ap, sym, ◌∙◌, Some}
use Rattle.std.specs.Prelude.{slice_get, slice_index_or}
use Rattle.std.specs.Option.{option_map}
use Rattle.std.proofs.lemmas.Option.{get_or_from_slice_get, slice_get-map}
use Rattle.c_tree.specs.Exprs.{LockName}
use Rattle.c_tree.specs.Flats as f
use Rattle.c_tree.specs.Flats.{flat_of, statements_of, thread_of}
use Rattle.c_tree.specs.LockNames.{lock_names, locks_in_all, names_from, once}
use Rattle.c_tree.specs.Programs.{mutex_of}
use Rattle.c_tree.specs.declared.flat.Flat.{Flat}
use Rattle.c_tree.specs.declared.flat.Statement.{Statement}
use Rattle.c_tree.specs.declared.flat.Thread.{Thread}
use Rattle.c_tree.specs.declared.program.Mutex.{Mutex}

pub names_there : (x : Flat) (number : ℕ) (t : Thread) (mutexes : List Mutex) (body : List Statement) (names : List LockName) →
    slice_get x.threads.items number ≡ Some t → mutexes ≡ x.mutexes.items → body ≡ t.body.items →
    names ≡ names_from 0 (map mutex_of mutexes) (once [] (locks_in_all (statements_of body))) →
    names ≡ slice_index_or (map (λ (u : f.Thread). lock_names (flat_of x) u) (flat_of x).threads) number []
names_there x number t mutexes body names at same_mutexes same_body are =
    let F : f.Thread → List LockName = λ u. lock_names (flat_of x) u in
    let found : slice_index_or (map F (map thread_of x.threads.items)) number [] ≡ F (thread_of t) =
    get_or_from_slice_get (map F (map thread_of x.threads.items)) number (F (thread_of t)) []
    (slice_get-map F (map thread_of x.threads.items) number
    ∙ ap (option_map F) (slice_get-map thread_of x.threads.items number ∙ ap (option_map thread_of) at)) in
    are
    ∙ (ap (λ (ms : List Mutex). names_from 0 (map mutex_of ms) (once [] (locks_in_all (statements_of body)))) same_mutexes
    ∙ (ap (λ (ss : List Statement). names_from 0 (map mutex_of x.mutexes.items) (once [] (locks_in_all (statements_of ss)))) same_body ∙ sym found))

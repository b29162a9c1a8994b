-- Where no mutex is in an array a mask can tell the locks that are held before each step.
use Rattle.std.proofs.Common.{◌≡◌, ℕ, zero, suc, ◌≤◌, List, [], ◌∷◌, length, map, get_or, refl, ap, sym, ◌∙◌, subst, arith, inl, inr, Option, Some, None}
use Rattle.std.specs.Prelude.{slice_get, slice_index_or, ℤ}
use Rattle.std.specs.List.{AllByRecursion}
use Rattle.std.proofs.lemmas.Bool.{cases_lt}
use Rattle.std.proofs.lemmas.List.{get_or_past}
use Rattle.std.proofs.lemmas.Option.{none-some, slice_get_within, slice_get-get_or, get_or_from_slice_get}
use Rattle.ido_base.proofs.Public.{no_locks}
use Rattle.c_tree.specs.Flats as f
use Rattle.c_tree.specs.Flats.{Flat}
use Rattle.c_tree.specs.Exprs.{LockName}
use Rattle.c_tree.specs.LockNames.{Held, held_names, lock_names, plain_names}
use Rattle.c_tree.specs.Values.{lock_number}
use Rattle.c_tree.specs.WellFormed.{IsSingle}
use Rattle.c_tree.proofs.Public.{length-plain_names, names_are_plain}
use Rattle.log_schemes.specs.Schemes.{AreOfMask}
use Rattle.lock_discipline.specs.HeldSetsByStep.{AreAllSetsOf, AreSetsOf}
use Rattle.lock_discipline.proofs.Public.{held_length}
use Rattle.flow_graph.proofs.Public.{found_in}
use Rattle.thread_code.specs.Plans.{locks_held}
use Rattle.thread_code.proofs.Public.{held_fits, held_read_back, names_at, plain_numbers}

of_none : AreOfMask []
of_none = record { fits = omega arith; read_back = no_locks }

none_held_there : (locals : List ℤ) (names : List LockName) → AreOfMask (map (lock_number locals) (held_names names []))
none_held_there locals [] = of_none
none_held_there locals (x ∷ names) = of_none

-- a thread that isn't there has no names
none_named : (x : Flat) (ts : List f.Thread) (thread : ℕ) → slice_get ts thread ≡ None →
    slice_index_or (map (λ (t : f.Thread). lock_names x t) ts) thread [] ≡ []
none_named x [] thread none = refl
none_named x (t ∷ ts) zero none = absurd (none-some t (sym none))
none_named x (t ∷ ts) (suc thread) none = none_named x ts thread none

module _ (x : Flat) (single : AllByRecursion IsSingle x.mutexes) (few : length x.mutexes ≤ 64) where
  of_row : (text : f.Thread) (row : List Held) → AreSetsOf x text row → (locals : List ℤ) (step : ℕ) →
      AreOfMask (map (lock_number locals) (held_names (lock_names x text) (slice_index_or row step [])))
  of_row text row of locals step = elim (cases_lt step (length row)) [
    | inl within ↦
        let set : Held = get_or row step [] in
        let names : lock_names x text ≡ plain_names (length x.mutexes) = names_are_plain x text single in
        let long : length set ≡ length x.mutexes =
        held_length x text step set ((of.exactly step set).0 (slice_get-get_or row step [] within))
        ∙ (ap (λ (ns : List LockName). length ns) names ∙ length-plain_names (length x.mutexes)) in
        let same : lock_names x text ≡ plain_names (length set) = names ∙ ap plain_names (sym long) in
        let numbers : map (lock_number locals) (held_names (lock_names x text) set) ≡ locks_held set =
        ap (λ (ns : List LockName). map (lock_number locals) (held_names ns set)) same ∙ plain_numbers locals set in
        let small : length set ≤ 64 = omega (arith, long, few) in
        subst AreOfMask (sym numbers) (record { fits = held_fits set small; read_back = held_read_back set small })
    | inr past ↦ subst (λ (set : Held). AreOfMask (map (lock_number locals) (held_names (lock_names x text) set))) (sym (get_or_past row step [] past))
        (none_held_there locals (lock_names x text))
  ]

  module _ (sets : List (List Held)) (all : AreAllSetsOf x sets) (locals : List ℤ) (thread step : ℕ) where
    abbrev set : Held
    set = slice_index_or (slice_index_or sets thread []) step []

    abbrev names : List LockName
    names = slice_index_or (map (λ (t : f.Thread). lock_names x t) x.threads) thread []

    abbrev OfNames : List LockName → Type 0
    OfNames ns = AreOfMask (map (lock_number locals) (held_names ns set))

    of_names : (o : Option f.Thread) → slice_get x.threads thread ≡ o → OfNames names
    of_names None none = subst OfNames (sym (none_named x x.threads thread none)) of_none
    of_names (Some text) there =
        let row = found_in sets thread (let l = slice_get_within x.threads thread text there in omega (arith, l, all.each_thread)) in
        subst OfNames (sym (names_at x x.threads thread text there))
        (subst (λ (r : List Held). AreOfMask (map (lock_number locals) (held_names (lock_names x text) (slice_index_or r step []))))
        (sym (get_or_from_slice_get sets thread row.0 [] row.1)) (of_row text row.0 (all.sets thread text row.0 there row.1) locals step))

    pub of_mask : AreOfMask (map (lock_number locals) (held_names names set))
    of_mask = of_names (slice_get x.threads thread) refl

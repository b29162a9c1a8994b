-- The set that a thread holds before a node has a mask, where no mutex is in an array; and the names of a set's numbers.
use Rattle.std.proofs.Common.{◌≡◌, ◌⊎◌, inl, inr, refl, ℕ, suc, ◌+◌, ◌-◌, ◌<◌, ◌≤◌, ap, arith, sym, ◌∙◌, subst, Bool, true, false, Option, Some, None}
use Rattle.std.proofs.Common.{List, [], ◌∷◌, ◌++◌, length, get_or, drop, drop-cons}
use Rattle.std.specs.Option.{option_to_list}
use Rattle.std.specs.Prelude.{slice_get, slice_index_or, ℤ}
use Rattle.std.proofs.lemmas.Bool.{cases_lt}
use Rattle.std.proofs.lemmas.List.{drop_all, get_or_past}
use Rattle.std.proofs.lemmas.Option.{slice_get_past, slice_get_within, slice_get-get_or, get_or_from_slice_get}
use Rattle.c_tree.specs.Exprs.{LockName}
use Rattle.c_tree.specs.LockNames.{Held, held_names}
use Rattle.c_tree.specs.WellFormed.{ArePlain}
use Rattle.c_tree.proofs.Public.{length-plain_names, names_are_plain}
use Rattle.flow_graph.specs.declared.graph.Part.{Part}
use Rattle.flow_graph.specs.Nodes.{Graph}
use Rattle.flow_graph.specs.Lowering.{parts}
use Rattle.flow_graph.proofs.Public.{found_in, lowered_threads}
use Rattle.lock_discipline.proofs.Public.{held_length}
use Rattle.log_schemes.specs.Schemes.{AreOfMask}
use Rattle.rv64_codegen.proofs.Public.{set_long}
use Rattle.thread_code.specs.Plans.{Plan, Thread, IsThread, IsPlan, IsNodeOf, locks_before, locks_held, locks_held_from, set_before}
use Rattle.thread_code.proofs.Public.{held_fits, held_read_back, names_are, plain_before}
use Rattle.image_checks.specs.Logs.{names_at}

module _ (p : Plan) (plan : IsPlan p) (t : Thread) (is : IsThread p t) where
  pub part_is : slice_get (parts p.flat.threads 0) t.number ≡ Some t.part
  part_is = ap (λ (ps : List Part). slice_get ps t.number) (sym (ap (λ (g : Graph). g.threads) plan.lowered ∙ lowered_threads p.flat)) ∙ is.nodes

  module _ (plain : ArePlain p.flat.mutexes) where
    pub few_set : (node : ℕ) → length (set_before p t node) ≤ 64
    few_set node =
        let table = found_in p.held t.number (let l = slice_get_within p.flat.threads t.number is.text is.of_text in omega (arith, l, plan.held.each_thread)) in
        let of = plan.held.sets t.number is.text table.0 is.of_text table.1 in
        let step = node - t.part.first in
        let most = plain.few in
        subst (λ (sets : List Held). length (slice_index_or sets step []) ≤ 64) (sym (get_or_from_slice_get p.held t.number table.0 [] table.1))
        (elim (cases_lt step (length table.0)) [
          | inl within ↦
              let long = held_length p.flat is.text step (get_or table.0 step [])
              ((of.exactly step (get_or table.0 step [])).0 (slice_get-get_or table.0 step [] within)) in
              let names = ap (λ (ns : List LockName). length ns) (names_are_plain p.flat is.text plain.single)
              ∙ length-plain_names (length p.flat.mutexes) in
              omega (arith, long, names, most)
          | inr past ↦ subst (λ (held : Held). length held ≤ 64) (sym (get_or_past table.0 step [] past)) (omega arith)
        ])

    -- its locks are those of a mask
    pub of_mask : (node : ℕ) → AreOfMask (locks_held (set_before p t node))
    of_mask node = record { fits = held_fits (set_before p t node) (few_set node); read_back = held_read_back (set_before p t node) (few_set node) }

    -- they are the locks held there, whatever numbers locals have
    pub held_are_plain : (locals : List ℤ) (node : ℕ) → IsNodeOf t node → locks_held (set_before p t node) ≡ locks_before p t locals node
    held_are_plain locals node own =
        plain_before p t is plain.single locals node
        (set_long p plan t is node own ∙ (ap (λ (ns : List LockName). length ns) (names_are p t is ∙ names_are_plain p.flat is.text plain.single)
        ∙ length-plain_names (length p.flat.mutexes)))

-- ---- The names of a set

nothing : (names : List LockName) → [] ≡ held_names names []
nothing [] = refl
nothing (x ∷ names) = refl

-- what is read beyond the last
abbrev no_name : LockName
no_name = record { mutex = 0; key = None }

-- the names with the numbers of a set, the first of which is the one of that number, are those that it holds
module _ (all : List LockName) (held : Held) where
  abbrev IsNamedFrom : (at : ℕ) → Type 0
  IsNamedFrom at = names_at all (locks_held_from at held) ≡ held_names (drop at all) held

held_more : (all : List LockName) (at : ℕ) (b : Bool) (held : Held) → IsNamedFrom all held (at + 1) → (at < length all) ⊎ (length all ≤ at) →
    IsNamedFrom all (b ∷ held) at
held_more all at b held more (inl below) =
    let next : suc at ≡ at + 1 = omega arith in
    let here : slice_get all at ≡ Some (get_or all at no_name) = slice_get-get_or all at no_name below in
    let left : drop at all ≡ get_or all at no_name ∷ drop (at + 1) all =
    drop-cons all at no_name below ∙ ap (λ (n : ℕ). get_or all at no_name ∷ drop n all) next in
    by b here left
  where
    by : (b : Bool) → slice_get all at ≡ Some (get_or all at no_name) → drop at all ≡ get_or all at no_name ∷ drop (at + 1) all →
        names_at all (locks_held_from at (b ∷ held)) ≡ held_names (drop at all) (b ∷ held)
    by true here left =
        ap (λ (o : Option LockName). option_to_list o ++ names_at all (locks_held_from (at + 1) held)) here
        ∙ (ap (λ (rest : List LockName). get_or all at no_name ∷ rest) more
        ∙ ap (λ (rest : List LockName). held_names rest (true ∷ held)) (sym left))
    by false here left = more ∙ ap (λ (rest : List LockName). held_names rest (false ∷ held)) (sym left)
held_more all at b held more (inr past) =
    let none : drop at all ≡ [] = drop_all at all past in
    let later : drop (at + 1) all ≡ [] = drop_all (at + 1) all (omega (arith, past)) in
    by b (slice_get_past all at past) none later
  where
    by : (b : Bool) → slice_get all at ≡ None → drop at all ≡ [] → drop (at + 1) all ≡ [] →
        names_at all (locks_held_from at (b ∷ held)) ≡ held_names (drop at all) (b ∷ held)
    by true here none later =
        ap (λ (o : Option LockName). option_to_list o ++ names_at all (locks_held_from (at + 1) held)) here
        ∙ (more ∙ (ap (λ (rest : List LockName). held_names rest held) later ∙ ap (λ (rest : List LockName). held_names rest (true ∷ held)) (sym none)))
    by false here none later =
        more ∙ (ap (λ (rest : List LockName). held_names rest held) later ∙ ap (λ (rest : List LockName). held_names rest (false ∷ held)) (sym none))

named_from : (all : List LockName) (held : Held) (at : ℕ) → IsNamedFrom all held at
named_from all [] at = nothing (drop at all)
named_from all (b ∷ held) at = held_more all at b held (named_from all held (at + 1)) (cases_lt at (length all))

-- the names with the numbers of a set are those that it holds
pub named_held : (all : List LockName) (held : Held) → names_at all (locks_held held) ≡ held_names all held
named_held all held = named_from all held 0

-- as many are held as names, where each has one
pub as_many_held : (at : ℕ) (names : List LockName) (held : Held) → length held ≡ length names →
    length (locks_held_from at held) ≡ length (held_names names held)
as_many_held at [] [] long = refl
as_many_held at [] (b ∷ held) long = absurd (omega (arith, long))
as_many_held at (x ∷ names) [] long = refl
as_many_held at (x ∷ names) (true ∷ held) long = let more = as_many_held (at + 1) names held (omega (arith, long)) in omega (arith, more)
as_many_held at (x ∷ names) (false ∷ held) long = as_many_held (at + 1) names held (omega (arith, long))

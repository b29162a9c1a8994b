-- What an image without a fault has after its source has the shape.
use Rattle.std.proofs.Common.{◌≡◌, ◌≢◌, refl, ℕ, zero, suc, ◌+◌, ◌-◌, ◌*◌, ◌%◌, ◌<◌, ◌≤◌, List, [], ◌∷◌, length, map, get_or, ap, ap₂, sym, ◌∙◌, subst, arith}
use Rattle.std.proofs.Common.{Option, Some, None, inl, inr, Bool, true, false, ◌&&◌}
use Rattle.std.specs.Prelude.{◌↔◌, slice_get, slice_index, slice_index_or, find, is_some, ◌==◌, Contains, ℤ, pos}
use Rattle.std.specs.List.{AllZip}
use Rattle.std.proofs.lemmas.Bool.{cases_Bool, cases_lt, cond-true, cond-false, eq-eqb, eqb-true, eqb-false, true≢false}
use Rattle.std.proofs.lemmas.List.{length-map}
use Rattle.std.proofs.lemmas.List.Elements.{Contains-get_or}
use Rattle.std.proofs.lemmas.Option.{none-some, same_Some, slice_get_within}
use Rattle.ido_base.specs.declared.limits.TheConstants.{MOST_ELEMENTS}
use Rattle.ido_base.specs.declared.location.Location.{Location}
use Rattle.log_schemes.specs.declared.log.Log.{Log}
use Rattle.log_schemes.specs.declared.keeping.Keeping.{Keeping}
use Rattle.log_schemes.specs.declared.keeping.Keeping.TheVariants.{Masked, Listed}
use Rattle.log_schemes.specs.declared.size.LogSize.{LogSize}
use Rattle.log_schemes.specs.declared.size.LogSize.TheVariants.{Lines16, Lines32}
use Rattle.log_schemes.specs.Schemes as schemes
use Rattle.log_schemes.specs.Schemes.{keeping_of, lines_of, locals_of, register_slot}
use Rattle.log_schemes.specs.declared.locals.Locals.{Locals}
use Rattle.log_schemes.specs.declared.locals.Locals.TheVariants.{Frame, Registers}
use Rattle.memory_layout.specs.declared.roles.TheConstants.{LOCALS}
use Rattle.ido_base.specs.Layout.{logs_base, variable_lines}
use Rattle.log_schemes.specs.Layout.{frame_at, log_words, word_count}
use Rattle.ido_base.specs.Locks.{has_lock}
use Rattle.ido_base.specs.Words.{Word, word_of}
use Rattle.ido_ints.specs.declared.kinds.Kind.{Kind}
use Rattle.ido_ints.specs.declared.kinds.Kind.TheVariants.{UnsignedLong}
use Rattle.ido_ints.specs.Kinds.{Holds, bytes_of}
use Rattle.ido_ints.specs.Reduction.{reduced, register_of}
use Rattle.ido_ints.specs.TypedNumbers.{typed}
use Rattle.ido_ints.proofs.Public.{Holds-reduced, reduced-register}
use Rattle.c_tree.specs.Exprs.{LockName, ToLocal}
use Rattle.c_tree.specs.Flats as f
use Rattle.c_tree.specs.Flats.{Flat}
use Rattle.c_tree.specs.LockNames.{Held, held_names, lock_names}
use Rattle.c_tree.specs.NullReferences.{is_among}
use Rattle.c_tree.specs.Ranges.{elements_of}
use Rattle.c_tree.specs.References.{IsFlatThreadReferring, IsLocalReferring, variable_refers}
use Rattle.c_tree.specs.Values.{lock_number}
use Rattle.c_ranges.specs.Laws.{IsNullOrReference}
use Rattle.c_ranges.proofs.Public.{zip_found}
use Rattle.log_schemes.specs.declared.point.Point.TheVariants.{Idle, At}
use Rattle.log_schemes.specs.Points.{point_of}
use Rattle.memory_layout.specs.Roles.{pending_address, pending_value}
use Rattle.machine_model.specs.Executables.{Executable}
use Rattle.rv64_isa.specs.Programs.{slot_of}
use Rattle.machine_model.specs.Machine.{durable_at, durable_point, bank_of, resume_of, recorded, record_of}
use Rattle.rv64_isa.specs.Rows.{read}
use Rattle.variable_words.proofs.Public.{well_formed_placed}
use Rattle.flow_graph.specs.HeldKeys as keys
use Rattle.flow_graph.specs.IdempotentCuts.{stores}
use Rattle.flow_graph.specs.Lowering.{threads_nodes}
use Rattle.flow_graph.specs.Nodes.{Action, Eval, Store, Test, Lock, Unlock, End, Graph, Node}
use Rattle.flow_graph.specs.Liveness.{NodeAt}
use Rattle.flow_graph.specs.Paths.{naming_of}
use Rattle.flow_graph.proofs.Public.{ShapedAs, all_at, node_shaped, nodes_at}
use Rattle.known_references.proofs.Public.{found_or}
use Rattle.log_states.specs.Logs.{HasLog, IsKeepable, IsWord, log_word}
use Rattle.log_states.specs.BanksRead.{HasKept, HasTold}
use Rattle.log_states.proofs.Public.{banks_read, contains_cases, contains_none}
use Rattle.rv64_codegen.proofs.Public.{numbers_plain}
use Rattle.thread_code.specs.Plans.{Plan, Thread, IsLogged, home_at, locks_before, locks_held, locks_held_from, set_before}
use Rattle.thread_code.specs.RegistersAtNodes.{frame_loads}
use Rattle.thread_code.specs.NodeCodeEffects.{bytes_written}
use Rattle.recovered_threads.specs.RecordDescriptions.{Code, ComesNext, CountsOn, NodePlace, ResumesAt, the_core, the_entry}
use Rattle.recovered_threads.specs.RecordDescriptions as telling
use Rattle.crash_simulation.specs.Systems.{System, IsSystem, flat_of}
use Rattle.flat_compile.specs.declared.resumes.LiveLocal.{LiveLocal}
use Rattle.flat_compile.specs.declared.resumes.Resume.{Resume}
use Rattle.flat_compile.specs.ResumePlaces.{Spot, IsAssignedAt, IsSpot, address_in, goes_on_at, place_at, place_in, IsLiveLocal, IsResumeOf, AreResumes}
use Rattle.flat_compile.specs.ResumePlaces.{knowns_before, refers_in, resumes_at}
use Rattle.flat_compile.proofs.Public.{coloured, few_colours, home_is, node_there}
use Rattle.flat_compile.specs.ResumePlaces as places
use Rattle.image_checks.specs.Logs.{AreOnce, HavePairs, HoldsLock, KeepsAs, Logs, home_in, home_word, register_in, local_by, locks_by, logged, logs_of}
use Rattle.image_checks.specs.Logs.{names_at, slot_in}
use Rattle.image_checks.specs.Checks.{IsElementOf, IsForm, IsLocalWord, IsReferenceWord, IsResumableLog, IsUnnull, IsUnshared}
use Rattle.image_checks.specs.Checks.{kinds_of_thread, names_of_thread, resume_at}
use Rattle.image_checks.specs.Checks as checks
use Rattle.image_checks.specs.ResumeSlots.{HaveKinds}
use Rattle.image_checks.specs.VariableReferences.{AreReferences}
use Rattle.image_checks.proofs.Public.{above_frame, found_local, local_at, locals_held, locks_are, locks_each, locks_there, named_held, point_is}
use Rattle.image_checks.proofs.Public.{StoresAs, bytes_of_element, recorded_there, stores_elements}
use Rattle.crash_images.specs.Contents.{log_of}
use Rattle.image_runs.specs.Shapes.{GoesOnAt, HasThreadShape}
use Rattle.image_runs.specs.Shapes as shapes
use Rattle.image_runs.specs.Laws.{AcceptedHaveShape}
use Rattle.image_checks.proofs.Public.{refers_are, zip_there}
use Rattle.image_checks.proofs.Public.{few_elements, reference_of_word, some_of_word}
use Rattle.image_runs.proofs.HeldAtNodes.{IsWrite, at_core, chosen_write, kind_of_assigned, no_store, of_element, of_local}
use Rattle.operator_code.specs.ComputingCode.{Carries}
use Rattle.image_runs.proofs.ResumedLocals.{address_keepable, colour_keepable, value_keepable}
use Rattle.image_runs.proofs.SpreadReferences.{spread_references}
use Rattle.image_runs.proofs.SpreadWords as spread
use Rattle.expr_code.specs.declared.home.Home.{Home}
use Rattle.expr_code.specs.EvaluationCode.{HomeCarries, home_of}

-- ---- What a point says

zero_of : (w : ℕ) → point_of w ≡ Idle → w ≡ 0
zero_of w h = elim (cases_Bool (w == 0)) [
  | inl zeroth ↦ eqb-true w 0 zeroth
  | inr other_than ↦ (let z : At (w - w % 2) (w % 2) ≡ Idle = sym (cond-false (w == 0) Idle (At (w - w % 2) (w % 2)) other_than) ∙ h in cc z)
]

record Names (w address bank : ℕ) : Type 0 where
  some : w ≢ 0
  address_is : address ≡ resume_of w
  bank_is : bank ≡ bank_of w

names : (w address bank : ℕ) → point_of w ≡ At address bank → Names w address bank
names w address bank h = elim (cases_Bool (w == 0)) [
  | inl zeroth ↦ (let z : Idle ≡ At address bank = sym (cond-true (w == 0) Idle (At (w - w % 2) (w % 2)) zeroth) ∙ h in cc z)
  | inr other_than ↦
      let z : At (w - w % 2) (w % 2) ≡ At address bank = sym (cond-false (w == 0) Idle (At (w - w % 2) (w % 2)) other_than) ∙ h in
      record { some = eqb-false w 0 other_than; address_is = cc z; bank_is = cc z }
]

-- ---- An entry of the table

found_at : (rs : List Resume) (address : ℕ) (r : Resume) → resume_at rs address ≡ Some r → (k : ℕ) × (slice_get rs k ≡ Some r) × (r.address ≡ address)
found_at [] address r h = absurd (none-some r h)
found_at (x ∷ rs) address r h = elim (cases_Bool (x.address == address)) [
  | inl zeroth ↦
      let is : x ≡ r = same_Some x r (sym (cond-true (x.address == address) (Some x) (resume_at rs address) zeroth) ∙ h) in
      (0, ap (λ (z : Resume). Some z) is, sym (ap (λ (z : Resume). z.address) is) ∙ eqb-true x.address address zeroth)
  | inr other_than ↦
      let more = found_at rs address r (sym (cond-false (x.address == address) (Some x) (resume_at rs address) other_than) ∙ h) in
      (suc more.0, more.1, more.2)
]

resumes_by : (p : Plan) (code : Code p) (spot : Spot) → IsSpot p code.thread spot →
    ResumesAt p code (goes_on_at spot) (place_in spot) (address_in code.is.places spot)
resumes_by p code _ (places.at_chosen node own chosen) = telling.at_chosen chosen
resumes_by p code _ (places.past_lock node lock next is own there locks) = telling.past_lock node lock is own there locks
resumes_by p code _ (places.past_unlock node lock next is own there unlocks holds) = telling.past_unlock node lock is own there unlocks holds

found_in_live : (live : List LiveLocal) (local : ℕ) (l : LiveLocal) → Contains live l → l.local ≡ local →
    (it : LiveLocal) × (find (λ (z : LiveLocal). z.local == local) live ≡ Some it)
found_in_live [] local l c is = absurd (contains_none l c)
found_in_live (z ∷ live) local l c is = elim (cases_Bool (z.local == local)) [
  | inl own ↦ (z, cond-true (z.local == local) (Some z) (find (λ (u : LiveLocal). u.local == local) live) own)
  | inr other ↦ elim (contains_cases z live l c) [
    | inl first ↦ absurd (true≢false (sym (eq-eqb z.local local (ap (λ (u : LiveLocal). u.local) (sym first) ∙ is)) ∙ other))
    | inr more ↦
        let rest = found_in_live live local l more is in
        (rest.0, cond-false (z.local == local) (Some z) (find (λ (u : LiveLocal). u.local == local) live) other ∙ rest.1)
  ]
]

-- ---- The numbers of a set

from_first : (at : ℕ) (held : Held) (i lock : ℕ) → slice_get (locks_held_from at held) i ≡ Some lock → at ≤ lock
from_first at [] i lock there = absurd (none-some lock there)
from_first at (true ∷ held) zero lock there = let same : at ≡ lock = same_Some at lock there in omega (arith, same)
from_first at (true ∷ held) (suc i) lock there = let more = from_first (at + 1) held i lock there in omega (arith, more)
from_first at (false ∷ held) i lock there = let more = from_first (at + 1) held i lock there in omega (arith, more)

once_from : (at : ℕ) (held : Held) → AreOnce (locks_held_from at held)
once_from at [] i j lock a b = absurd (none-some lock a)
once_from at (false ∷ held) i j lock a b = once_from (at + 1) held i j lock a b
once_from at (true ∷ held) zero zero lock a b = refl
once_from at (true ∷ held) zero (suc j) lock a b =
    let same : at ≡ lock = same_Some at lock a in let more = from_first (at + 1) held j lock b in absurd (let z : ⊥ = omega (arith, same, more) in z)
once_from at (true ∷ held) (suc i) zero lock a b =
    let same : at ≡ lock = same_Some at lock b in let more = from_first (at + 1) held i lock a in absurd (let z : ⊥ = omega (arith, same, more) in z)
once_from at (true ∷ held) (suc i) (suc j) lock a b = ap suc (once_from (at + 1) held i j lock a b)

held_once : (held : Held) → AreOnce (locks_held held)
held_once held = once_from 0 held

in_pairs : (slot : ℕ → ℕ) (pairs : List (ℕ × ℕ)) → HavePairs slot pairs → (one : ℕ × ℕ) → Contains pairs one → slot one.0 ≡ one.1
in_pairs slot [] have one c = absurd (contains_none one c)
in_pairs slot (pair ∷ pairs) have one c = elim (contains_cases pair pairs one c) [
  | inl same ↦ subst (λ (z : ℕ × ℕ). slot z.0 ≡ z.1) (sym same) have.0
  | inr more ↦ in_pairs slot pairs have.1 one more
]

-- ---- The words of the logs, where the machine has them

module _ (y : System) (words : List Word) (ws : List ℕ)
    (there : (address : ℕ) → logs_base ≤ address → durable_at words address ≡ logged ws address) where
  abbrev log : Log
  log = y.plan.log

  abbrev logs : Logs
  logs = logs_of log ws

  apart_by : (threads g h lock : ℕ) → ((l : ℕ) → IsUnshared logs threads l) → g < threads → h < threads → has_lock (record_of log words g) lock ≡ true →
      has_lock (record_of log words h) lock ≡ true → g ≡ h
  apart_by threads g h lock none gb hb gl hl =
      let own : HoldsLock logs g lock = ap (λ (ls : List ℕ). has_lock ls lock) (sym (locks_there log words ws there g)) ∙ gl in
      let other : HoldsLock logs h lock = ap (λ (ls : List ℕ). has_lock ls lock) (sym (locks_there log words ws there h)) ∙ hl in
      elim (cases_lt g h) [
        | inl less ↦ absurd (none lock g h less hb own other)
        | inr no_less ↦ elim (cases_lt h g) [
          | inl more ↦ absurd (none lock h g more gb other own)
          | inr no_more ↦ omega (arith, no_less, no_more)
        ]
      ]

  module _ (s : IsSystem y) (code : Code y.plan) where
    abbrev t : Thread
    t = code.thread

    abbrev n : ℕ
    n = code.thread.number

    abbrev x : f.Flat
    x = flat_of y

    abbrev own_names : List LockName
    own_names = lock_names x code.of.text

    kinds_are : kinds_of_thread x n ≡ t.kinds
    kinds_are = found_or (λ (u : f.Thread). u.locals) x.threads n [] code.of.text code.of.of_text ∙ sym code.of.kinds

    names_there : names_of_thread x n ≡ own_names
    names_there = found_or (λ (u : f.Thread). lock_names x u) x.threads n [] code.of.text code.of.of_text

    module _ (address bank : ℕ) (r : Resume) (w : Names (durable_point log words n) address bank) (of : IsResumeOf y.plan t code.is.places r)
        (at : r.address ≡ address) (right : checks.IsRight x logs n bank r) where
      abbrev slot : ℕ → ℕ
      slot = checks.bank_slot x logs n bank

      -- what stands in homes
      abbrev home : ℕ → ℕ
      home = checks.bank_home x logs n bank

      abbrev live : List LiveLocal
      live = r.live.items

      abbrev set : Held
      set = set_before y.plan t r.node

      slot_there : (at_slot : ℕ) → recorded log words n at_slot ≡ slot at_slot
      slot_there at_slot = recorded_there log words ws there n at_slot ∙ ap (λ (b : ℕ). slot_in logs n b at_slot) (sym w.bank_is)

      register_there : (register : ℕ) → IsKeepable log register → read (shapes.resumed y.plan code words) register ≡ register_in logs n bank register
      register_there register k = (banks_read log).registers words n register k ∙ slot_there (register_slot log register)

      abbrev place : NodePlace
      place = place_at r.at_core

      abbrev Counts : (local : ℕ) → Type 0
      Counts local = CountsOn y.plan t r.node place local

      abbrev IsLiveHere : LiveLocal → Type 0
      IsLiveHere l = IsLiveLocal y.plan t r.node place l

      -- ---- Locals

      abbrev numbers : List ℤ
      numbers = checks.bank_locals x logs n bank live

      have_kinds : HaveKinds (kinds_of_thread x n) live
      have_kinds k d within =
          let l : LiveLocal = get_or live k d in
          ap (λ (ks : List Kind). slice_get ks l.local) kinds_are ∙ ((of.found.live l).0 (Contains-get_or live k d within)).kind_is

      held : AllZip Holds t.kinds numbers
      held = subst (λ (ks : List Kind). AllZip Holds ks numbers) kinds_are (locals_held home live (kinds_of_thread x n) have_kinds)

      -- what the table tells of a live local, and the bank has of it
      record IsTold (local : ℕ) (k : Kind) (refers : Option ℕ) : Type 0 where
        it : LiveLocal
        is : IsLiveHere it
        local_is : it.local ≡ local
        kind_is : it.kind ≡ k
        refers_is : it.refers ≡ refers
        has : IsLocalWord x.variables it (home it.colour)
        number_is : slice_index_or numbers local (pos 0) ≡ reduced k (pos (home it.colour))

      told : (local : ℕ) (k : Kind) (refers : Option ℕ) → slice_get t.kinds local ≡ Some k → slice_get (refers_in y.plan t) local ≡ Some refers →
          Counts local → IsTold local k refers
      told local k refers kind refer counted =
          let colour = coloured y.plan s.plan t code.of local k kind in
          let knowns = knowns_before y.plan t r.node in
          let l : LiveLocal =
          record { colour = colour.0; local = local; kind = k; refers = refers; known = is_some refers && is_among knowns local } in
          let there : Contains live l =
          (of.found.live l).1 (record {
            kind_is = kind;
            refers_is = refer;
            known_is = refl;
            counted = counted;
            coloured = colour.1;
          }) in
          let found = found_in_live live local l there refl in
          let both = found_local (λ (z : LiveLocal). IsLiveHere z × IsLocalWord x.variables z (home z.colour)) live local found.0
          (λ i d within. (
            (of.found.live (get_or live i d)).0 (Contains-get_or live i d within),
            right.locals i d within,
          )) found.1 in
          let it : LiveLocal = found.0 in
          let is : IsLiveHere it = both.0.0 in
          let local_is : it.local ≡ local = both.1 in
          let kind_is : it.kind ≡ k = same_Some it.kind k (sym is.kind_is ∙ (ap (slice_get t.kinds) local_is ∙ kind)) in
          let inside : local < length (kinds_of_thread x n) =
          slice_get_within (kinds_of_thread x n) local k (ap (λ (ks : List Kind). slice_get ks local) kinds_are ∙ kind) in
          record {
            it = it;
            is = is;
            local_is = local_is;
            kind_is = kind_is;
            refers_is = same_Some it.refers refers (sym is.refers_is ∙ (ap (slice_get (refers_in y.plan t)) local_is ∙ refer));
            has = both.0.1;
            number_is =
                local_at home live (length (kinds_of_thread x n)) local inside
                ∙ (ap (local_by home) found.1 ∙ ap (λ (j : Kind). reduced j (pos (home it.colour))) kind_is);
          }

      form_locals : AllZip IsLocalReferring code.of.text.locals code.of.text.refers
      form_locals = (all_at (IsFlatThreadReferring x) x.threads n code.of.text s.plan.formed.referring.threads code.of.of_text).locals

      refers_there : (local : ℕ) (k : Kind) → slice_get t.kinds local ≡ Some k → (refers : Option ℕ) × (slice_get (refers_in y.plan t) local ≡ Some refers)
      refers_there local k kind =
          let own = zip_there IsLocalReferring code.of.text.locals code.of.text.refers local k form_locals
          (ap (λ (ks : List Kind). slice_get ks local) (sym code.of.kinds) ∙ kind) in
          (own.0, ap (λ (rs : List (Option ℕ)). slice_get rs local) (refers_are y.plan t code.of) ∙ own.1)

      kind_there : (local array : ℕ) → slice_get (refers_in y.plan t) local ≡ Some (Some array) → slice_get t.kinds local ≡ Some UnsignedLong
      kind_there local array refer =
          let own = zip_found IsLocalReferring code.of.text.locals code.of.text.refers local (Some array) form_locals
          (ap (λ (rs : List (Option ℕ)). slice_get rs local) (sym (refers_are y.plan t code.of)) ∙ refer) in
          ap (λ (ks : List Kind). slice_get ks local) code.of.kinds ∙ (own.found ∙ ap (λ (j : Kind). Some j) own.related)

      module _ (k : Kind) (word : ℕ) (form : IsForm k word) where
        back : word ≡ register_of k (reduced k (pos word))
        back =
            let same : reduced k (pos word) ≡ form.number = ap (λ (v : ℕ). reduced k (pos v)) form.is ∙ reduced-register k form.number form.held in
            form.is ∙ ap (register_of k) (sym same)

      abbrev loads : (address bytes : ℕ) → Option ℕ
      loads = frame_loads (shapes.resumed_view y.plan code words)

      -- in a home is the number to which its word is reduced
      carried_in : (ls : Locals) → locals_of log ≡ ls → (k : Kind) (colour : ℕ) → colour < 18 → IsForm k (home_word ls logs n bank colour) →
          HomeCarries loads (shapes.resumed y.plan code words) (home_at ls log n colour) (typed k (reduced k (pos (home_word ls logs n bank colour))))
      carried_in Registers is k colour few form =
          let register = slice_index LOCALS colour in
          let word : ℕ = register_in logs n bank register in
          record { held = Holds-reduced k (pos word); form = register_there register (colour_keepable log is colour few) ∙ back k word form }
      carried_in Frame is k colour few form =
          let word : ℕ = logged ws (frame_at log n colour) in
          record {
            held = Holds-reduced k (pos word);
            answer = ap (λ (v : ℕ). Some v) (there (frame_at log n colour) (above_frame log n colour) ∙ back k word form);
          }

      home_is_word : (colour : ℕ) → home colour ≡ home_word (locals_of log) logs n bank colour
      unfolding home_in
      home_is_word colour = refl

      local_there : (local : ℕ) (k : Kind) → slice_get t.kinds local ≡ Some k → Counts local →
          HomeCarries loads (shapes.resumed y.plan code words) (home_of t.locals local) (typed k (slice_index_or numbers local (pos 0)))
      local_there local k kind counted =
          let refer = refers_there local k kind in
          let l = told local k refer.0 kind refer.1 counted in
          let colour : ℕ = l.it.colour in
          let own : home_of t.locals local ≡ home_at (locals_of log) log n colour =
          ap (home_of t.locals) (sym l.local_is) ∙ home_is y.plan s.plan t code.of l.it.local colour l.is.coloured in
          let form : IsForm k (home_word (locals_of log) logs n bank colour) =
          subst (IsForm k) (home_is_word colour) (subst (λ (j : Kind). IsForm j (home colour)) l.kind_is l.has.form) in
          let number : slice_index_or numbers local (pos 0) ≡ reduced k (pos (home_word (locals_of log) logs n bank colour)) =
          l.number_is ∙ ap (λ (v : ℕ). reduced k (pos v)) (home_is_word colour) in
          let few : colour < 18 = few_colours y.plan s.plan t code.of l.it.local colour l.is.coloured in
          subst (λ (h : Home). HomeCarries loads (shapes.resumed y.plan code words) h (typed k (slice_index_or numbers local (pos 0)))) (sym own)
          (subst (λ (z : ℤ). HomeCarries loads (shapes.resumed y.plan code words) (home_at (locals_of log) log n colour) (typed k z)) (sym number)
          (carried_in (locals_of log) refl k colour few form))

      -- ---- References

      record IsReferenceTold (local array : ℕ) : Type 0 where
        own : IsTold local UnsignedLong (Some array)
        low : home own.it.colour ≤ elements_of x.variables array
        most : elements_of x.variables array ≤ MOST_ELEMENTS

      reference_told : (local array : ℕ) → slice_get (refers_in y.plan t) local ≡ Some (Some array) → Counts local →
          IsReferenceTold local array
      reference_told local array refer counted =
          let l = told local UnsignedLong (Some array) (kind_there local array refer) refer counted in
          record {
            own = l;
            low = subst (λ (o : Option ℕ). IsReferenceWord x.variables o (home l.it.colour)) l.refers_is l.has.reference;
            most = few_elements x.mutexes x.variables array s.plan.formed.shared.variables;
          }

      refer_there : (local array : ℕ) → slice_get (refers_in y.plan t) local ≡ Some (Some array) → Counts local →
          IsNullOrReference (elements_of x.variables array) (slice_index_or numbers local (pos 0))
      refer_there local array refer counted =
          let l = reference_told local array refer counted in
          subst (IsNullOrReference (elements_of x.variables array)) (sym l.own.number_is)
          (reference_of_word (elements_of x.variables array) (home l.own.it.colour) l.most l.low)

      unnull_there : (local array : ℕ) → slice_get (refers_in y.plan t) local ≡ Some (Some array) → Counts local →
          is_among (knowns_before y.plan t r.node) local ≡ true → slice_index_or numbers local (pos 0) ≢ pos 0
      unnull_there local array refer counted among =
          let l = reference_told local array refer counted in
          let knowns = knowns_before y.plan t r.node in
          let known : l.own.it.known ≡ true =
          l.own.is.known_is
          ∙ (ap (λ (o : Option ℕ). is_some o && is_among knowns l.own.it.local) l.own.refers_is ∙ (ap (is_among knowns) l.own.local_is ∙ among)) in
          let some : home l.own.it.colour ≢ 0 = subst (λ (b : Bool). IsUnnull b (home l.own.it.colour)) known l.own.has.unnull in
          let low = l.low in
          let most = l.most in
          λ zeroth. some_of_word (home l.own.it.colour) (omega (arith, low, most)) some (sym l.own.number_is ∙ zeroth)

      -- ---- Locks

      abbrev own_locks : List ℕ
      own_locks = locks_before y.plan t numbers r.node

      plain_there : keeping_of log ≡ Masked → r.held.items ≡ own_locks
      plain_there masks = of.found.held_is ∙ numbers_plain y.plan s.plan t code.of masks numbers r.node of.found.own

      locks_told : locks_by home (names_of_thread x n) (length (kinds_of_thread x n)) r ≡ own_locks
      locks_told =
          ap (λ (held : List ℕ). map (lock_number numbers) (names_at (names_of_thread x n) held)) of.found.held_is
          ∙ (ap (λ (ns : List LockName). map (lock_number numbers) ns) (named_held (names_of_thread x n) set)
          ∙ (ap (λ (ns : List LockName). map (lock_number numbers) (held_names ns set)) names_there ∙ sym (locks_are y.plan s.plan t code.of numbers r.node)))

      locks : HasKept log words n own_locks
      locks one c =
          slot_there one.0
          ∙ locks_each slot home (names_of_thread x n) (length (kinds_of_thread x n)) r own_locks log right.locks plain_there locks_told one c

      once_as : (way : Keeping) → keeping_of log ≡ way → KeepsAs way log slot home (names_of_thread x n) (length (kinds_of_thread x n)) r → AreOnce own_locks
      once_as Masked is keeps = subst AreOnce (sym of.found.held_is ∙ plain_there is) (held_once set)
      once_as Listed is keeps = subst AreOnce locks_told keeps.1

      -- ---- Where a store is pending

      module _ (is : Node) (location : Location) (at_node : NodeAt y.plan.graph r.node is) (writes : is.writes ≡ Some location) where
        pending_is : r.pending ≡ Some location
        pending_is = of.found.pending_is is at_node ∙ writes

        address_there : IsElementOf x.variables (naming_of x code.of.text numbers) location (read (shapes.resumed y.plan code words) pending_address)
        address_there =
            let has : IsElementOf x.variables (keys.names_in x.variables (names_of_thread x n) numbers) location (register_in logs n bank pending_address) =
            subst (λ (o : Option Location). checks.IsElementNext x logs n bank live o (register_in logs n bank pending_address)) pending_is
            right.write.address.element in
            subst (λ (word : ℕ). IsElementOf x.variables (naming_of x code.of.text numbers) location word)
            (sym (register_there pending_address (address_keepable log)))
            (subst (λ (ns : List LockName). IsElementOf x.variables (keys.names_in x.variables ns numbers) location (register_in logs n bank pending_address))
            names_there has)

        value_there : IsReferenceWord x.variables (variable_refers x.variables location.variable) (read (shapes.resumed y.plan code words) pending_value)
        value_there =
            let has : IsReferenceWord x.variables (variable_refers x.variables location.variable) (register_in logs n bank pending_value) =
            subst (λ (o : Option Location). checks.IsElementValue x logs n bank o (register_in logs n bank pending_value)) pending_is
            right.write.value.element in
            subst (IsReferenceWord x.variables (variable_refers x.variables location.variable))
            (sym (register_there pending_value (value_keepable log))) has

      -- ---- What is written next

      resumes_here : ResumesAt y.plan code r.node place (resume_of (durable_point log words n))
      resumes_here =
          subst (λ (a : ℕ). ResumesAt y.plan code r.node place a) (of.at ∙ (at ∙ w.address_is))
          (subst (λ (q : NodePlace). ResumesAt y.plan code r.node q (address_in code.is.places of.spot)) of.stands
          (subst (λ (m : ℕ). ResumesAt y.plan code m (place_in of.spot) (address_in code.is.places of.spot)) of.goes_on
          (resumes_by y.plan code of.spot of.is)))

      abbrev is_here : Node
      is_here = (node_there y.plan s.plan t code.of r.node of.found.own).0

      at_here : NodeAt y.plan.graph r.node is_here
      at_here = (node_there y.plan s.plan t code.of r.node of.found.own).1

      flat_here : slice_get (threads_nodes x x.threads 0) r.node ≡ Some is_here
      flat_here = nodes_at x r.node is_here (subst (λ (g : Graph). NodeAt g r.node is_here) s.plan.lowered at_here)

      shaped : (a : Action) → is_here.action ≡ a → ShapedAs (threads_nodes x x.threads 0) is_here a
      shaped a does = subst (λ (z : Action). ShapedAs (threads_nodes x x.threads 0) is_here z) does (node_shaped x r.node is_here flat_here)

      pending_here : r.pending ≡ is_here.writes
      pending_here = of.found.pending_is is_here at_here

      kind_assigned : (logged : IsLogged y.plan t r.node) → slice_get t.kinds logged.local ≡ Some logged.assigns.kind
      kind_assigned logged = kind_of_assigned y.plan s.plan t code.of r.node of.found.own logged.local logged.assigns

      -- the entry has the local of a logged assignment
      local_assigned : IsLogged y.plan t r.node → LiveLocal
      local_assigned logged = record {
        colour = (coloured y.plan s.plan t code.of logged.local logged.assigns.kind (kind_assigned logged)).0;
        local = logged.local;
        kind = logged.assigns.kind;
        refers = (refers_there logged.local logged.assigns.kind (kind_assigned logged)).0;
        known = false;
      }

      assigned_is : place ≡ the_core → (logged : IsLogged y.plan t r.node) → r.assigned ≡ Some (local_assigned logged)
      unfolding local_assigned
      assigned_is core logged =
          (subst (λ (z : NodePlace). (r.assigned ≡ Some (local_assigned logged)) ↔ IsAssignedAt y.plan t r.node z (local_assigned logged)) core
          (of.found.assigned_is (local_assigned logged))).1 (record {
            logged = logged;
            local_is = refl;
            kind_is = kind_assigned logged;
            refers_is = (refers_there logged.local logged.assigns.kind (kind_assigned logged)).1;
            known_is = refl;
            coloured = (coloured y.plan s.plan t code.of logged.local logged.assigns.kind (kind_assigned logged)).1;
          })

      stored : place ≡ the_core → (logged : IsLogged y.plan t r.node) → shapes.StoresAssigned y.plan code words logged.local
      unfolding local_assigned
      stored core logged =
          let l : LiveLocal = local_assigned logged in
          let word : ℕ = register_in logs n bank pending_value in
          let address : register_in logs n bank pending_address ≡ frame_at log n l.colour =
          subst (λ (o : Option LiveLocal). checks.IsWordNext x logs n bank o (register_in logs n bank pending_address)) (assigned_is core logged)
          right.write.address.word in
          let value : IsLocalWord x.variables l word =
          subst (λ (o : Option LiveLocal). checks.IsLocalValue x logs n bank o word) (assigned_is core logged) right.write.value.local in
          let colour = coloured y.plan s.plan t code.of logged.local logged.assigns.kind (kind_assigned logged) in
          let there = register_there pending_value (value_keepable log) in
          record {
            number = reduced logged.assigns.kind (pos word);
            word = frame_at log n l.colour;
            home =
                home_is y.plan s.plan t code.of logged.local colour.0 colour.1 ∙ ap (λ (ls : Locals). home_at ls log n colour.0) logged.frame;
            address = register_there pending_address (address_keepable log) ∙ address;
            value = λ k kind.
                let same : logged.assigns.kind ≡ k = same_Some logged.assigns.kind k (sym (kind_assigned logged) ∙ kind) in
                subst (λ (j : Kind). Carries (shapes.resumed y.plan code words) pending_value (typed j (reduced logged.assigns.kind (pos word)))) same
                (record { held = Holds-reduced logged.assigns.kind (pos word); form = there ∙ back logged.assigns.kind word value.form });
            refer = λ array refers.
                let own : l.refers ≡ Some array =
                same_Some l.refers (Some array) (sym (refers_there logged.local logged.assigns.kind (kind_assigned logged)).1 ∙ refers) in
                let long : logged.assigns.kind ≡ UnsignedLong =
                same_Some logged.assigns.kind UnsignedLong (sym (kind_assigned logged) ∙ kind_there logged.local array refers) in
                subst (λ (k : Kind). IsNullOrReference (elements_of x.variables array) (reduced k (pos word))) (sym long)
                (reference_of_word (elements_of x.variables array) word (few_elements x.mutexes x.variables array s.plan.formed.shared.variables)
                (subst (λ (o : Option ℕ). IsReferenceWord x.variables o word) own value.reference));
          }

      assigned_there : shapes.HasAssignment y.plan code words r.node place
      assigned_there = by place refl
        where
          by : (z : NodePlace) → place ≡ z → shapes.HasAssignment y.plan code words r.node z
          by the_entry e = tt
          by the_core e = λ logged. stored e logged

      -- ---- What the bank is told of it

      abbrev bytes : Option ℕ
      bytes = checks.bytes_next x.variables r.pending r.assigned

      none_next : is_here.writes ≡ None → r.assigned ≡ None → bytes ≡ None
      none_next none unassigned =
          ap₂ (λ (p : Option Location) (a : Option LiveLocal). checks.bytes_next x.variables p a) (pending_here ∙ none) unassigned

      stores_here : StoresAs x s.plan.formed.shared.variables is_here is_here.action
      stores_here = stores_elements x s.plan.formed.shared.variables r.node is_here s.plan.formed.threads flat_here

      module _ (written : Option ℕ) where
        -- at an entry nothing is written next
        at_entry : place ≡ the_entry → ResumesAt y.plan code r.node the_entry (resume_of (durable_point log words n)) → bytes ≡ None
        at_entry entry resumes = none_next (by is_here.action refl) (unassigned r.assigned refl)
          where
            by : (a : Action) → is_here.action ≡ a → is_here.writes ≡ None
            by (Eval target value next) does = (shaped (Eval target value next) does).1.writes
            by (Store variable kind next) does = absurd (no_store y.plan s.plan code r.node _ resumes (stores is_here variable kind next at_here does))
            by (Test condition to other) does = (shaped (Test condition to other) does).1.writes
            by (Lock lock next) does = (shaped (Lock lock next) does).1
            by (Unlock lock next) does = (shaped (Unlock lock next) does).1
            by End does = (shaped End does).1

            unassigned : (o : Option LiveLocal) → r.assigned ≡ o → r.assigned ≡ None
            unassigned None e = e
            unassigned (Some l) e = absurd (subst (λ (z : NodePlace). IsAssignedAt y.plan t r.node z l) entry ((of.found.assigned_is l).0 e))

        element_next : (location : Location) → is_here.writes ≡ Some location → bytes ≡ bytes_written is_here.action
        element_next location writes = by is_here.action refl stores_here
          where
            none : is_here.writes ≡ None → bytes ≡ bytes_written is_here.action
            none e = absurd (none-some location (sym e ∙ writes))

            by : (a : Action) → is_here.action ≡ a → StoresAs x s.plan.formed.shared.variables is_here a → bytes ≡ bytes_written is_here.action
            by (Eval target value next) does it = none (shaped (Eval target value next) does).1.writes
            by (Store variable kind next) does it =
                ap (λ (p : Option Location). checks.bytes_next x.variables p r.assigned) (pending_here ∙ it.writes)
                ∙ (ap (λ (b : ℕ). Some b) (ap (checks.element_bytes x.variables) it.variable_is
                ∙ (bytes_of_element x.variables variable it.it it.found ∙ ap bytes_of it.kind_is)) ∙ sym (ap bytes_written does))
            by (Test condition to other) does it = none (shaped (Test condition to other) does).1.writes
            by (Lock lock next) does it = none (shaped (Lock lock next) does).1
            by (Unlock lock next) does it = none (shaped (Unlock lock next) does).1
            by End does it = none (shaped End does).1

        local_next : place ≡ the_core → (logged : IsLogged y.plan t r.node) → bytes ≡ bytes_written is_here.action
        local_next core logged =
            let it = logged.assigns in
            let does : is_here.action ≡ Eval (ToLocal it.place logged.local it.kind) it.assigned it.next =
            ap (λ (z : Node). z.action) (same_Some is_here it.is (sym at_here ∙ it.at)) ∙ it.action in
            ap₂ (λ (p : Option Location) (a : Option LiveLocal). checks.bytes_next x.variables p a)
            (pending_here ∙ (shaped (Eval (ToLocal it.place logged.local it.kind) it.assigned it.next) does).1.writes) (assigned_is core logged)
            ∙ sym (ap bytes_written does)

        next_is : ComesNext y.plan r.node place written → bytes ≡ written
        next_is comes = by place refl resumes_here comes
          where
            by : (z : NodePlace) → place ≡ z → ResumesAt y.plan code r.node z (resume_of (durable_point log words n)) → ComesNext y.plan r.node z written →
                bytes ≡ written
            by the_entry e resumes none = at_entry e resumes ∙ sym none
            by the_core e resumes next = core (chosen_write y.plan s.plan code r.node of.found.own (at_core y.plan code r.node _ resumes).0)
              where
                core : IsWrite y.plan s.plan code r.node → bytes ≡ written
                core (of_element other location at writes) =
                    element_next location (ap (λ (z : Node). z.writes) (same_Some is_here other (sym at_here ∙ at)) ∙ writes) ∙ sym (next is_here at_here)
                core (of_local logged) = local_next e logged ∙ sym (next is_here at_here)

        told_there : ComesNext y.plan r.node place written → HasTold log words n written
        told_there comes one c =
            slot_there one.0
            ∙ in_pairs slot (schemes.told log written)
            (subst (λ (o : Option ℕ). HavePairs slot (schemes.told log o)) (next_is comes) right.write.address.told) one c

      goes_on : GoesOnAt y.plan code words r.node place
      goes_on = record {
        own = of.found.own;
        resumes = resumes_here;
        numbers = numbers;
        held = held;
        locals = local_there;
        refer = refer_there;
        unnull = unnull_there;
        locks = locks;
        once = once_as (keeping_of log) refl right.locks;
        pending = λ is location at_node writes. address_there is location at_node writes;
        value = λ is location at_node writes. value_there is location at_node writes;
        assigned = assigned_there;
        told = told_there;
      }

    thread_shape : (rs : List Resume) → AreResumes y.plan t code.program code.is rs → IsResumableLog x rs logs n →
        HasThreadShape y.plan code words
    thread_shape rs are (checks.idle none) = shapes.idle (zero_of (durable_point log words n) (sym (point_is log words ws there n) ∙ none))
    thread_shape rs are (checks.resumed address bank r point found right) =
        let w = names (durable_point log words n) address bank (sym (point_is log words ws there n) ∙ point) in
        let e = found_at rs address r found in
        shapes.resumes r.node (place_at r.at_core) w.some (goes_on address bank r w (are.each e.0 r e.1) e.2 right)

-- ---- All of it

words_as : (size : LogSize) (words logs threads : ℕ) → words ≡ 8192 + logs → logs ≡ 8 * lines_of size * threads →
    words ≡ 8 * (variable_lines + lines_of size * threads)
words_as Lines16 words logs threads all own = omega (arith, all, own)
words_as Lines32 words logs threads all own = omega (arith, all, own)

size_of : (log : Log) (words logs threads : ℕ) → words ≡ 8192 + logs → logs ≡ log_words log * threads → words ≡ word_count log threads
size_of log words logs threads all own = words_as (schemes.size_of log) words logs threads all own

within_as : (size : LogSize) (words threads n : ℕ) → words ≡ 8 * (variable_lines + lines_of size * threads) → n < threads →
    8 * (variable_lines + lines_of size * (n + 1)) ≤ words
within_as Lines16 words threads n all below = omega (arith, all, below)
within_as Lines32 words threads n all below = omega (arith, all, below)

log_within : (log : Log) (words threads n : ℕ) → words ≡ word_count log threads → n < threads → word_count log (n + 1) ≤ words
log_within log words threads n all below = within_as (schemes.size_of log) words threads n all below

pub accepted_have_shape : AcceptedHaveShape
accepted_have_shape version flat object marks cuts table state r is right wf =
    let y : System = r.translated.system in
    let s : IsSystem y = r.translated.is in
    let bytes = r.translated.limits.bytes in
    let own = is.variables in
    let few : length state.variables ≤ 8192 = omega (arith, bytes, own) in
    let program : length y.runs.program ≡ length object.code.items =
    ap (λ (x : Executable). length x.program) r.translated.runs ∙ length-map object.code.items (λ code. map slot_of code.items) in
    let first : y.plan.log ≡ log_of version = s.log ∙ (ap (λ (x : Executable). x.log) r.translated.runs ∙ r.translated.log) in
    let threads : length object.code.items ≡ length y.plan.graph.threads = sym program ∙ s.count in
    let ws = spread.words state.variables state.logs few in
    let words = map word_of ws in
    let mapped = length-map ws word_of in
    let there = spread.logged_there state.variables state.logs few in
    let all : length ws ≡ word_count (log_of version) (length y.plan.graph.threads) =
    size_of (log_of version) (length ws) (length state.logs) (length y.plan.graph.threads) (spread.size state.variables state.logs few)
    (is.logs ∙ ap (λ (n : ℕ). log_words (log_of version) * n) threads) in
    record {
      size = subst (λ (l : Log). length ws ≡ word_count l (length y.plan.graph.threads)) (sym first) all;
      logs = λ n below. subst (λ (l : Log). HasLog l n words) (sym first) (record {
        exists = subst (λ (k : ℕ). word_count (log_of version) (n + 1) ≤ k) (sym mapped)
            (log_within (log_of version) (length ws) (length y.plan.graph.threads) n all below);
        each = λ i inside. subst IsWord (sym (spread.word_there ws (log_word (log_of version) n i)))
            (spread.word_fits (slice_index ws (log_word (log_of version) n i))
            (spread.bits state.variables state.logs few is.variable_words is.log_words (log_word (log_of version) n i)));
      });
      references =
          spread_references state.variables state.logs few (flat_of y) (well_formed_placed (flat_of y) s.plan.formed).room
          (subst (λ (z : Flat). AreReferences z state.variables) (sym r.translated.of_flat) right);
      threads = λ n below.
          let code = s.codes.each n below in
          let number : n ≡ code.thread.number = sym (s.codes.number n below) in
          let within : n < length table = subst (λ (k : ℕ). n < k) (sym r.are.count) below in
          let log : IsResumableLog (flat_of y) (resumes_at table n) (logs_of (log_of version) state.logs) code.thread.number =
          subst (λ (k : ℕ). IsResumableLog (flat_of y) (resumes_at table n) (logs_of (log_of version) state.logs) k) number
          (subst (λ (z : Flat). IsResumableLog z (resumes_at table n) (logs_of (log_of version) state.logs) n) (sym r.translated.of_flat)
          (wf.logs n within)) in
          thread_shape y words state.logs there s code (resumes_at table n) (r.are.each n below)
          (subst (λ (l : Log). IsResumableLog (flat_of y) (resumes_at table n) (logs_of l state.logs) code.thread.number) (sym first) log);
      apart = λ g h lock gb hb gl hl.
          apart_by y words state.logs there (length table) g h lock
          (subst (λ (l : Log). (lock : ℕ) → IsUnshared (logs_of l state.logs) (length table) lock) (sym first) wf.mutexes)
          (subst (λ (k : ℕ). g < k) (sym r.are.count) gb) (subst (λ (k : ℕ). h < k) (sym r.are.count) hb) gl hl;
    }

-- The marks of a node's piece where it stands, where it may be resumed, and that its places lie within it.
use Rattle.std.proofs.Common.{inl, inr, ◌≡◌, ℕ, ◌+◌, ◌*◌, ◌<◌, ◌≤◌, List, [], ◌∷◌, ◌++◌, length, map, refl, ap, sym, ◌∙◌, arith, subst, Bool, true, false}
use Rattle.std.specs.Prelude.{Contains, if◌then◌else◌}
use Rattle.std.proofs.lemmas.Bool.{cases_eq}
use Rattle.c_tree.specs.Exprs as e
use Rattle.rv64_isa.specs.declared.object.CodeItem.{CodeItem}
use Rattle.rv64_link.specs.LabelledCode.{is_mark, is_resume, positions_from}
use Rattle.boundary_code.specs.Boundaries.{is_empty}
use Rattle.code_runs.specs.CodeTraces.{MarkedEnvironment, Meets}
use Rattle.flow_graph.specs.Nodes.{Action, Eval, Store, Test, Lock, Unlock, End}
use Rattle.flow_graph.specs.IdempotentCuts.{IsChosen}
use Rattle.node_code.specs.Sites.{Site}
use Rattle.node_code.proofs.Public.{Lies}
use Rattle.thread_code.specs.Plans.{Plan, Thread, locks_before}
use Rattle.thread_code.specs.NodeCodeEffects.{Places}
use Rattle.thread_code.specs.Programs.{mark_of, IsOn, IsCallWithin, IsWithin}
use Rattle.ido_base.specs.declared.place.Place.{Place}
use Rattle.ido_ints.specs.declared.kinds.Kind.{Kind}
use Rattle.rv64_codegen.specs.ThreadPieces.{Choices, GoesTo, IsAssigning, IsChoosing, turned, straight, IsDoing, IsSetting, in_register, in_section, outside}
use Rattle.rv64_codegen.proofs.JoinedAddresses.{Ascends}
use Rattle.rv64_codegen.proofs.Addresses.{on_here, on_then, on_up, lies_on, IsAmong, marked_among, boundary_grows}
use Rattle.rv64_codegen.proofs.PieceSites.{spot_site, AgreesAt, bare, bare_meets}
use Rattle.rv64_codegen.proofs.GuardParts as guards
use Rattle.rv64_codegen.proofs.PieceParts as parts
use Rattle.rv64_codegen.proofs.PieceParts.{PlacedNode, call_of, chosen_or_not, does_closed, spots_in}
use Rattle.rv64_codegen.proofs.PieceSplits.{addresses_split}
use Rattle.rv64_codegen.proofs.PiecePlaces.{part_lies, linked_lies}

-- where a node is resumed after what it does
abbrev pub resumes_after : Plan → Thread → Places → Action → (node : ℕ) → List ℕ
resumes_after p t places (Eval target value next) node = []
resumes_after p t places (Store variable kind next) node = []
resumes_after p t places (Test condition holds fails) node = []
resumes_after p t places (Lock lock next) node = places.after node ∷ []
resumes_after p t places (Unlock lock next) node = if is_empty (locks_before p t [] next) then [] else places.after node ∷ []
resumes_after p t places End node = []

-- where the node may be resumed: at its core after a chosen boundary, and after what it does
pub record ResumesAre (p : Plan) (t : Thread) (places : Places) (action : Action) (node : ℕ) (resumes : List ℕ) : Type 0 where
  pub first : List ℕ
  pub split : resumes ≡ first ++ resumes_after p t places action node
  pub chosen : IsChosen p.graph p.boundaries node → first ≡ places.core node ∷ []
  pub plain : ¬ (IsChosen p.graph p.boundaries node) → first ≡ []

-- one number among none
joins : (xs ys zs : List ℕ) (y : ℕ) → xs ≡ [] → ys ≡ y ∷ [] → zs ≡ [] → xs ++ (ys ++ zs) ≡ y ∷ []
joins xs ys zs y e f g =
    ap (λ (ns : List ℕ). ns ++ (ys ++ zs)) e ∙ ap (λ (ns : List ℕ). ns ++ zs) f ∙ ap (λ (ns : List ℕ). y ∷ ns) g

ends_in : (xs ys zs : List ℕ) → zs ≡ [] → xs ++ (ys ++ zs) ≡ xs ++ ys
ends_in xs ys zs e = ap (λ (ns : List ℕ). xs ++ ns) (ap (λ (ns : List ℕ). ys ++ ns) e ∙ nothing ys)
  where
    nothing : (ns : List ℕ) → ns ++ [] ≡ ns
    nothing [] = refl
    nothing (m ∷ ns) = ap (λ (k : List ℕ). m ∷ k) (nothing ns)

in_one : (xs : List ℕ) (y : ℕ) → xs ≡ y ∷ [] → Contains xs y
in_one xs y e = subst (λ (ns : List ℕ). Contains ns y) (sym e) (0, omega arith, refl)

module _ {p : Plan} {t : Thread} {c : Choices} (places : Places) (it : PlacedNode p t c places.entry) where
  open it use {program, items, n, node, is, at as found, before, does, goes, guarded, doing, sited}

  abbrev at : ℕ → ℕ
  at = n.linked.address_of

  -- where the parts begin, and the last one ends
  abbrev k : ℕ
  k = sited.position

  abbrev k₁ : ℕ
  k₁ = k + length before

  abbrev k₂ : ℕ
  k₂ = k₁ + length does

  abbrev s : MarkedEnvironment
  s = bare program

  abbrev meets : Meets program s
  meets = bare_meets program

  abbrev first_site : Site before
  first_site = spot_site n before (parts.before_spot it) s meets

  abbrev middle_site : Site does
  middle_site = spot_site n does (parts.does_spot it) s meets

  abbrev last_site : Site goes
  last_site = spot_site n goes (parts.goes_spot it) s meets

  abbrev marked_from : (position : ℕ) → List CodeItem → List ℕ
  marked_from position part = map at (positions_from position is_mark part)

  abbrev resumed_from : (position : ℕ) → List CodeItem → List ℕ
  resumed_from position part = map at (positions_from position is_resume part)

  -- ---- Marks

  first_marks : marked_from k before ≡ []
  first_marks = elim (chosen_or_not p.graph p.boundaries node is found) [
    | inl chosen ↦ guards.guard_marks p t c node is.action before (guarded.chosen chosen) n (parts.before_spot it)
    | inr not ↦ ap (λ (xs : List CodeItem). marked_from k xs) (guarded.plain not)
  ]

  goes_marks : (next : ℕ) → GoesTo p t c node next goes → marked_from k₂ goes ≡ []
  goes_marks next g = elim (cases_eq next (node + 1)) [
    | inl follows ↦ ap (λ (xs : List CodeItem). marked_from k₂ xs) (g.follows follows)
    | inr jumps ↦ ((g.jumps jumps).at last_site).marks
  ]

  goes_resumes : (next : ℕ) → GoesTo p t c node next goes → resumed_from k₂ goes ≡ []
  goes_resumes next g = elim (cases_eq next (node + 1)) [
    | inl follows ↦ ap (λ (xs : List CodeItem). resumed_from k₂ xs) (g.follows follows)
    | inr jumps ↦ ((g.jumps jumps).at last_site).resumes
  ]

  -- the last word of an unlock, and of an end, is its ECALL
  abbrev IsLast : Action → Type 0
  IsLast (Eval target value next) = Unit {0}
  IsLast (Store variable kind next) = Unit {0}
  IsLast (Test condition holds fails) = Unit {0}
  IsLast (Lock lock next) = Unit {0}
  IsLast (Unlock lock next) = at k₂ ≡ places.call node + 4
  IsLast End = at k₂ ≡ places.call node + 4

  -- what is said of the parts that do something, and go on
  record Says (action : Action) : Type 0 where
    marks : marked_from k₁ does ≡ mark_of places action node ∷ []
    no_marks : marked_from k₂ goes ≡ []
    resumes : resumed_from k₁ does ≡ resumes_after p t places action node
    no_resumes : resumed_from k₂ goes ≡ []
    last : IsLast action

  -- what an assignment does begins with its mark, and is resumed nowhere
  record Begins : Type 0 where
    marks : marked_from k₁ does ≡ at k₁ ∷ []
    resumes : resumed_from k₁ does ≡ []

  setting_begins : (place : Place) (local : ℕ) (kind : Kind) (value : e.Expr) → IsSetting p t c node place local kind value does → Begins
  setting_begins place local kind value (in_register register home d) =
      record { marks = (d.at middle_site).marks; resumes = (d.at middle_site).resumes }
  setting_begins place local kind value (in_section word home it_is d) =
      record { marks = (d.at middle_site).marks; resumes = (d.at middle_site).resumes }
  setting_begins place local kind value (outside word home none d) =
      record { marks = (d.at middle_site).marks; resumes = (d.at middle_site).resumes }

  assigning_begins : (target : e.Lvalue) (value : e.Expr) → IsAssigning p t c node target value does → Begins
  assigning_begins (e.ToLocal place local kind) value d = setting_begins place local kind value d
  assigning_begins (e.ToVariable place variable kind) value d =
      record { marks = (d.at middle_site).marks; resumes = (d.at middle_site).resumes }
  assigning_begins (e.ToElement place variable kind index) value d =
      record { marks = (d.at middle_site).marks; resumes = (d.at middle_site).resumes }

  module _ (g : AgreesAt places program c.live c.kept c.cleans node (spots_in it)) where
    at_core : marked_from k₁ does ≡ at k₁ ∷ [] → marked_from k₁ does ≡ places.core node ∷ []
    at_core m = m ∙ ap (λ (y : ℕ). y ∷ []) (sym g.core)

    choosing_says : (condition : e.Placed) (holds fails : ℕ) → IsChoosing p t c node condition holds fails does goes → Says (Test condition holds fails)
    choosing_says condition holds fails (turned follows test none) = record {
      marks = at_core (test.at middle_site).marks;
      no_marks = ap (λ (xs : List CodeItem). marked_from k₂ xs) none;
      resumes = (test.at middle_site).resumes;
      no_resumes = ap (λ (xs : List CodeItem). resumed_from k₂ xs) none;
      last = tt;
    }
    choosing_says condition holds fails (straight test goes_on) = record {
      marks = at_core (test.at middle_site).marks;
      no_marks = goes_marks fails goes_on;
      resumes = (test.at middle_site).resumes;
      no_resumes = goes_resumes fails goes_on;
      last = tt;
    }

    says : (action : Action) → (d : IsDoing p t c node action does goes) →
        places.call node ≡ call_of it action d → Says action
    says (Eval target value next) d call =
        let begins = assigning_begins target value.expr d.0 in
        record {
          marks = at_core begins.marks;
          no_marks = goes_marks next d.1;
          resumes = begins.resumes;
          no_resumes = goes_resumes next d.1;
          last = tt;
        }
    says (Store variable kind next) d call = record {
      marks = at_core (d.0.at middle_site).marks;
      no_marks = goes_marks next d.1;
      resumes = (d.0.at middle_site).resumes;
      no_resumes = goes_resumes next d.1;
      last = tt;
    }
    says (Test condition holds fails) d call = choosing_says condition holds fails d
    says (Lock lock next) d call = record {
      marks = ((d.0 []).at middle_site).marks ∙ ap (λ (y : ℕ). y ∷ []) (sym call);
      no_marks = goes_marks next d.1;
      resumes = ((d.0 []).at middle_site).resumes ∙ ap (λ (y : ℕ). y ∷ []) (sym g.after);
      no_resumes = goes_resumes next d.1;
      last = tt;
    }
    says (Unlock lock next) d call = record {
      marks = at_core ((d.0.1 []).at middle_site).marks;
      no_marks = goes_marks next d.1;
      resumes = ((d.0.1 []).at middle_site).resumes ∙ ap (λ (y : ℕ). if is_empty (locks_before p t [] next) then [] else y ∷ []) (sym g.after);
      no_resumes = goes_resumes next d.1;
      last = ((d.0.1 []).at middle_site).after ∙ ap (λ (y : ℕ). y + 4) (sym call);
    }
    says End d call = record {
      marks = at_core (d.0.at middle_site).marks;
      no_marks = ap (λ (xs : List CodeItem). marked_from k₂ xs) d.1;
      resumes = (d.0.at middle_site).resumes;
      no_resumes = ap (λ (xs : List CodeItem). resumed_from k₂ xs) d.1;
      last = (d.0.at middle_site).after ∙ ap (λ (y : ℕ). y + 4) (sym call);
    }

    it_says : Says is.action
    it_says = says is.action doing g.call

    -- the node's piece has one mark
    pub marks_are : marked_from k (before ++ (does ++ goes)) ≡ mark_of places is.action node ∷ []
    marks_are =
        addresses_split at is_mark k before does goes ∙
        joins (marked_from k before) (marked_from k₁ does) (marked_from k₂ goes) (mark_of places is.action node) first_marks it_says.marks
        it_says.no_marks

    pub resumes_are : ResumesAre p t places is.action node (resumed_from k (before ++ (does ++ goes)))
    resumes_are = record {
      first = resumed_from k before;
      split =
          addresses_split at is_resume k before does goes ∙
          ends_in (resumed_from k before) (resumed_from k₁ does) (resumed_from k₂ goes) it_says.no_resumes ∙
          ap (λ (ns : List ℕ). resumed_from k before ++ ns) it_says.resumes;
      chosen = λ chosen. guards.guard_resumes p t c node is.action before (guarded.chosen chosen) n (parts.before_spot it)
          ∙ ap (λ (y : ℕ). y ∷ []) (sym g.core);
      plain = λ not. ap (λ (xs : List CodeItem). resumed_from k xs) (guarded.plain not);
    }

    -- ---- Places

    whole : Lies at 0 items
    whole = linked_lies program items n

    first_on : IsOn (places.entry node) (places.core node)
    first_on =
        let lie : Lies at k before = part_lies at items whole k before first_site.is_part in
        subst (λ (a : ℕ). IsOn (places.entry node) a) (sym g.core)
        (subst (λ (a : ℕ). IsOn a (at k₁)) sited.begin (lies_on at k before lie))

    last_on : IsOn (at k₂) (places.entry (node + 1))
    last_on =
        let lie : Lies at k₂ goes = part_lies at items whole k₂ goes last_site.is_part in
        let end : at (k₂ + length goes) ≡ places.entry (node + 1) =
        parts.ends it in
        subst (λ (a : ℕ). IsOn (at k₂) a) end (lies_on at k₂ goes lie)

    mark_among : IsAmong (at k₁) (mark_of places is.action node) (at k₂)
    mark_among =
        let lie : Lies at k₁ does = part_lies at items whole k₁ does middle_site.is_part in
        marked_among at k₁ does false lie (does_closed p t c node is.action does goes doing).waits (mark_of places is.action node)
        (in_one (marked_from k₁ does) (mark_of places is.action node) it_says.marks)

    abbrev next : ℕ
    next = places.entry (node + 1)

    abbrev Among : Action → Type 0
    Among action = IsAmong (at k₁) (mark_of places action node) (at k₂)

    -- the node's places lie in it, in their order
    pub is_within : IsWithin places is.action node
    is_within = within_by is.action doing g.store it_says.last mark_among
      where
        at_core_alone : (action : Action) → mark_of places action node ≡ places.core node → Among action → IsCallWithin places action node →
            IsWithin places action node
        at_core_alone action m among call = record {
          core = first_on;
          after_core = on_then (places.core node + 4) (at k₂) next (subst (λ (a : ℕ). IsOn (a + 4) (at k₂)) m among.after) last_on;
          call = call;
        }

        -- the last word is the call
        call_on : at k₂ ≡ places.call node + 4 → IsOn (places.core node + 4) (at k₂) → IsOn (places.core node) (places.call node)
        call_on is_last f = let end : at k₂ ≡ places.core node + 4 + 4 * f.words = f.is in record { words = f.words; is = omega (arith, is_last, end) }

        -- the store of an assignment outside sections is its last word
        store_on : (from : ℕ) → at k₂ ≡ from + 4 → IsOn (at k₁ + 4) (at k₂) → IsOn (at k₁) from × IsOn (from + 4) next
        store_on from end after =
            let whole : at k₂ ≡ at k₁ + 4 + 4 * after.words = after.is in
            (record { words = after.words; is = omega (arith, end, whole) }, subst (λ (a : ℕ). IsOn a next) end last_on)

        -- else it is where the core begins
        core_on : IsOn (at k₁ + 4) (at k₂) → IsOn (at k₁) (at k₁) × IsOn (at k₁ + 4) next
        core_on after = (record { words = 0; is = omega arith }, on_then (at k₁ + 4) (at k₂) next after last_on)

        setting_on : (place : Place) (local : ℕ) (kind : Kind) (value : e.Expr) (d : IsSetting p t c node place local kind value does) →
            IsOn (at k₁ + 4) (at k₂) → IsOn (at k₁) (parts.setting_store it d) × IsOn (parts.setting_store it d + 4) next
        setting_on place local kind value (in_register register home d) after = core_on after
        setting_on place local kind value (in_section word home it_is d) after = core_on after
        setting_on place local kind value (outside word home none d) after = store_on (d.at middle_site).store (d.at middle_site).after after

        assigning_on : (target : e.Lvalue) (value : e.Expr) (d : IsAssigning p t c node target value does) → IsOn (at k₁ + 4) (at k₂) →
            IsOn (at k₁) (parts.assigning_store it target value d) × IsOn (parts.assigning_store it target value d + 4) next
        assigning_on (e.ToLocal place local kind) value d after = setting_on place local kind value d after
        assigning_on (e.ToVariable place variable kind) value d after = core_on after
        assigning_on (e.ToElement place variable kind index) value d after = core_on after

        within_by : (action : Action) (d : IsDoing p t c node action does goes) → places.store node ≡ parts.store_of it action d → IsLast action →
            Among action → IsWithin places action node
        within_by (Eval target value following) d store h among =
            let on = assigning_on target value.expr d.0 (subst (λ (a : ℕ). IsOn (a + 4) (at k₂)) g.core among.after) in
            at_core_alone (Eval target value following) refl among (
              subst (λ (a : ℕ). IsOn a (places.store node)) (sym g.core) (subst (λ (a : ℕ). IsOn (at k₁) a) (sym store) on.0),
              subst (λ (a : ℕ). IsOn (a + 4) next) (sym store) on.1,
            )
        within_by (Store variable kind following) d store h among = at_core_alone (Store variable kind following) refl among tt
        within_by (Test condition holds fails) d store h among = at_core_alone (Test condition holds fails) refl among tt
        within_by (Lock lock following) d store h among =
            let call : ℕ = places.call node in
            let before : IsOn (places.core node) call = subst (λ (a : ℕ). IsOn a call) (sym g.core) among.before in
            let over : call ≡ places.core node + 4 * before.words = before.is in
            let shifted : IsOn (places.core node + 4) (call + 4) = record { words = before.words; is = omega (arith, over) } in
            record {
              core = first_on;
              after_core = on_then (places.core node + 4) (call + 4) next shifted (on_then (call + 4) (at k₂) next among.after last_on);
              call = (
                before,
                subst (λ (a : ℕ). IsOn (call + 4) a) (sym g.after) among.after,
                subst (λ (a : ℕ). IsOn a next) (sym g.after) last_on,
              );
            }
        within_by (Unlock lock following) d store h among =
            at_core_alone (Unlock lock following) refl among (
              call_on h among.after,
              on_here (places.call node + 4) (places.after node) (sym h ∙ sym g.after),
              subst (λ (a : ℕ). IsOn a next) (sym g.after) last_on,
            )
        within_by End d store h among = at_core_alone End refl among (call_on h among.after, subst (λ (a : ℕ). IsOn a next) h last_on)

    -- ---- Order

    pub chosen_grows : IsChosen p.graph p.boundaries node → places.entry node < places.core node
    chosen_grows chosen =
        let lie : Lies at k before = part_lies at items whole k before first_site.is_part in
        let up : at k < at k₁ = boundary_grows before (guards.guard_fences p t c node is.action before (guarded.chosen chosen)) at k lie in
        let begin : at k ≡ places.entry node = sited.begin in
        let core : places.core node ≡ at k₁ = g.core in
        omega (arith, up, begin, core)

    -- what lies before the core lies before the next node
    past : (action : Action) → IsWithin places action node → (low : ℕ) → low ≤ places.core node → low ≤ next
    past action w low up = let core : places.core node + 4 ≤ next = on_up (places.core node + 4) next w.after_core in omega (arith, core, up)

    one_ascends : (call : IsOn (places.core node) (places.call node)) → IsOn (places.call node + 4) (places.after node) → IsOn (places.after node) next →
        (low : ℕ) → low ≤ places.core node → Ascends low next (places.after node ∷ [])
    one_ascends f g h low up =
        let call : places.core node ≤ places.call node = on_up (places.core node) (places.call node) f in
        let after : places.call node + 4 ≤ places.after node = on_up (places.call node + 4) (places.after node) g in
        (omega (arith, call, after, up), on_up (places.after node) next h)

    after_ascends : (action : Action) → IsWithin places action node → (low : ℕ) → low ≤ places.core node →
        Ascends low next (resumes_after p t places action node)
    after_ascends (Eval target value following) w low up = past (Eval target value following) w low up
    after_ascends (Store variable kind following) w low up = past (Store variable kind following) w low up
    after_ascends (Test condition holds fails) w low up = past (Test condition holds fails) w low up
    after_ascends (Lock lock following) w low up = one_ascends w.call.0 w.call.1 w.call.2 low up
    after_ascends (Unlock lock following) w low up = by (is_empty (locks_before p t [] following))
      where
        by : (none : Bool) → Ascends low next (if none then [] else places.after node ∷ [])
        by true = past (Unlock lock following) w low up
        by false = one_ascends w.call.0 w.call.1 w.call.2 low up
    after_ascends End w low up = past End w low up

    -- where it may be resumed ascends from above its entry to that of the next node
    pub resumes_ascend : Ascends (places.entry node) (places.entry (node + 1)) (resumed_from k (before ++ (does ++ goes)))
    resumes_ascend =
        let r : ResumesAre p t places is.action node (resumed_from k (before ++ (does ++ goes))) = resumes_are in
        let core : places.entry node ≤ places.core node = on_up (places.entry node) (places.core node) first_on in
        subst (λ (ns : List ℕ). Ascends (places.entry node) (places.entry (node + 1)) ns) (sym r.split)
        (elim (chosen_or_not p.graph p.boundaries node is found) [
          | inl chosen ↦
              subst (λ (ns : List ℕ). Ascends (places.entry node) (places.entry (node + 1)) (ns ++ resumes_after p t places is.action node))
              (sym (r.chosen chosen)) (chosen_grows chosen, after_ascends is.action is_within (places.core node) (omega arith))
          | inr not ↦
              subst (λ (ns : List ℕ). Ascends (places.entry node) (places.entry (node + 1)) (ns ++ resumes_after p t places is.action node))
              (sym (r.plain not)) (after_ascends is.action is_within (places.entry node) core)
        ])

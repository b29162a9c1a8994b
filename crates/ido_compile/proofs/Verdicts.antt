-- A text is accepted and has one flat form, or it is refused by one rule, at one place: check after check.
use Rattle.std.proofs.Common.{◌≡◌, refl, ℕ, ◌<◌, ◌≤◌, List, [], length, Option, Some, None, true, false, sym, ap, ap₂, ◌∙◌, subst, arith}
use Rattle.ido_base.specs.declared.place.Place.{Place}
use Rattle.c_tree.specs.declared.language.Language.{Language}
use Rattle.c_tree.specs.declared.language.Language.TheVariants.{Full, Plain}
use Rattle.c_tree.specs.AcceptedTexts.{HasNoBack, IsTyped, IsRanged}
use Rattle.c_tree.specs.Flats as f
use Rattle.c_tree.specs.Inlining.{IsFirstBack, flat_form}
use Rattle.c_tree.specs.LockDiscipline as l
use Rattle.c_tree.specs.LockDiscipline.{lock_fault}
use Rattle.c_tree.specs.Programs as p
use Rattle.c_tree.specs.NullReferences.{IsFirstOutside, IsOutside, by_index, by_null, program_nulls}
use Rattle.c_tree.specs.Ranges.{AllFit}
use Rattle.c_tree.specs.TextReadings.{IsRead, IsRefused}
use Rattle.c_tree.specs.LexicalScan.{Fault}
use Rattle.c_tree.specs.HoldPrices.{price_fault}
use Rattle.c_tree.specs.Temporaries.{temporaries_fault}
use Rattle.c_tree.specs.Trees.{Item}
use Rattle.c_tree.specs.TypeRules.{IsFirst, type_faults}
use Rattle.c_tree.specs.Elaboration.{typed_program}
use Rattle.c_tree.specs.declared.rule.Rule as r
use Rattle.c_tree.specs.declared.rule.Rule.TheVariants as rule
use Rattle.c_reader.specs.Laws as reader
use Rattle.c_typer.specs.Laws.{OneFirst}
use Rattle.flow_graph.specs.Liveness.{NodeAt, HasRoom, IsFirstCrowded}
use Rattle.flow_graph.specs.Lowering.{lowered}
use Rattle.flow_graph.specs.Nodes.{Node, Graph}
use Rattle.log_schemes.specs.declared.log.Log.{Log}
use Rattle.thread_code.specs.Plans.{language_of}
use Rattle.ido_compile.specs.LoggedTexts as logged
use Rattle.ido_compile.specs.Verdicts as laws
use Rattle.ido_compile.proofs.PlainTrees.{plain_is_full}

-- ---- Verdicts

data Verdict : Type 0 where
  Accepted : f.Flat → Verdict
  Refused : r.Rule → Place → Verdict

abbrev IsOne : (Verdict → Type 0) → Type 0
IsOne V = (v w : Verdict) → V v → V w → v ≡ w

-- a check stops with a verdict; or it passes, and what follows has one
data Check (Stops : Verdict → Type 0) (Passes : Type 0) (Follows : Verdict → Type 0) (v : Verdict) : Type 0 where
  stops : Stops v → Check Stops Passes Follows v
  passes : Passes → Follows v → Check Stops Passes Follows v

one_check : (Stops : Verdict → Type 0) (Passes : Type 0) (Follows : Verdict → Type 0) → IsOne Stops → ((v : Verdict) → Stops v → ¬ Passes) →
    IsOne Follows → IsOne (Check Stops Passes Follows)
one_check Stops Passes Follows once never next v w (stops s) (stops t) = once v w s t
one_check Stops Passes Follows once never next v w (stops s) (passes p b) = absurd (never v s p)
one_check Stops Passes Follows once never next v w (passes p a) (stops t) = absurd (never w t p)
one_check Stops Passes Follows once never next v w (passes p a) (passes q b) = next v w a b

one_some : {X : Type 0} (o : Option X) (x y : X) → o ≡ Some x → o ≡ Some y → x ≡ y
one_some o x y e h = let both : Some x ≡ Some y = sym e ∙ h in cc both

not_none : {X : Type 0} (o : Option X) (x : X) → o ≡ Some x → o ≡ None → ⊥
not_none o x e h = let both : Some x ≡ None = sym e ∙ h in cc both

-- ---- Temporaries

abbrev TemporariesStop : f.Flat → Verdict → Type 0
TemporariesStop flat v = (place : Place) × (temporaries_fault flat ≡ Some place) × (v ≡ Refused rule.Temporaries place)

abbrev ByTemporaries : f.Flat → Verdict → Type 0
ByTemporaries flat = Check (TemporariesStop flat) (temporaries_fault flat ≡ None) (λ v. v ≡ Accepted flat)

one_by_temporaries : (flat : f.Flat) → IsOne (ByTemporaries flat)
one_by_temporaries flat = one_check (TemporariesStop flat) (temporaries_fault flat ≡ None) (λ v. v ≡ Accepted flat)
    (λ v w s t. s.2 ∙ ap (Refused rule.Temporaries) (one_some (temporaries_fault flat) s.0 t.0 s.1 t.1) ∙ sym t.2)
    (λ v s e. not_none (temporaries_fault flat) s.0 s.1 e)
    (λ v w e h. e ∙ sym h)

-- ---- Registers

abbrev RoomStop : f.Flat → Verdict → Type 0
RoomStop flat v = (place : Place) × (wanted : ℕ) × IsFirstCrowded (lowered flat) place wanted × (v ≡ Refused rule.Locals place)

abbrev ByRoom : f.Flat → Verdict → Type 0
ByRoom flat = Check (RoomStop flat) (HasRoom (lowered flat)) (ByTemporaries flat)

one_node : (g : Graph) (n m : ℕ) (x y : Node) → n ≡ m → NodeAt g n x → NodeAt g m y → x ≡ y
one_node g n m x y e a b = let there : NodeAt g n y = subst (λ k. NodeAt g k y) (sym e) b in one_some _ x y a there

one_crowded : (g : Graph) (place other : Place) (wanted more : ℕ) → IsFirstCrowded g place wanted → IsFirstCrowded g other more → place ≡ other
one_crowded g place other wanted more x y =
    let sooner : ¬ (x.node < y.node) = λ h. (let few = y.first x.part x.node wanted h x.own x.spanning in absurd (omega (arith, few, x.crowded))) in
    let later : ¬ (y.node < x.node) = λ h. (let few = x.first y.part y.node more h y.own y.spanning in absurd (omega (arith, few, y.crowded))) in
    let same : x.node ≡ y.node = omega (arith, sooner, later) in
    x.there ∙ ap (λ (z : Node). z.place) (one_node g x.node y.node x.is y.is same x.at y.at) ∙ sym y.there

one_by_room : (flat : f.Flat) → IsOne (ByRoom flat)
one_by_room flat = one_check (RoomStop flat) (HasRoom (lowered flat)) (ByTemporaries flat)
    (λ v w s t. s.3 ∙ ap (Refused rule.Locals) (one_crowded (lowered flat) s.0 t.0 s.1 t.1 s.2 t.2) ∙ sym t.3)
    (λ v s room. let few = room s.2.part s.2.node s.1 s.2.own s.2.spanning in absurd (omega (arith, few, s.2.crowded)))
    (one_by_temporaries flat)

-- ---- The lock discipline

abbrev LockStop : Language → f.Flat → Verdict → Type 0
LockStop lang flat v = (x : l.Fault) × (lock_fault lang flat ≡ Some x) × (v ≡ Refused x.rule x.place)

abbrev ByLocks : Language → f.Flat → Verdict → Type 0
ByLocks lang flat = Check (LockStop lang flat) (lock_fault lang flat ≡ None) (ByRoom flat)

one_by_locks : (lang : Language) (flat : f.Flat) → IsOne (ByLocks lang flat)
one_by_locks lang flat = one_check (LockStop lang flat) (lock_fault lang flat ≡ None) (ByRoom flat)
    (λ v w s t. s.2 ∙ ap (λ (x : l.Fault). Refused x.rule x.place) (one_some (lock_fault lang flat) s.0 t.0 s.1 t.1) ∙ sym t.2)
    (λ v s e. not_none (lock_fault lang flat) s.0 s.1 e)
    (one_by_room flat)

-- ---- The price

abbrev PriceStop : Language → f.Flat → Verdict → Type 0
PriceStop lang flat v = (place : Place) × (price_fault lang flat ≡ Some place) × (v ≡ Refused rule.Code place)

abbrev ByPrice : Language → f.Flat → Verdict → Type 0
ByPrice lang flat = Check (PriceStop lang flat) (price_fault lang flat ≡ None) (ByLocks lang flat)

one_by_price : (lang : Language) (flat : f.Flat) → IsOne (ByPrice lang flat)
one_by_price lang flat = one_check (PriceStop lang flat) (price_fault lang flat ≡ None) (ByLocks lang flat)
    (λ v w s t. s.2 ∙ ap (Refused rule.Code) (one_some (price_fault lang flat) s.0 t.0 s.1 t.1) ∙ sym t.2)
    (λ v s e. not_none (price_fault lang flat) s.0 s.1 e)
    (one_by_locks lang flat)

-- ---- Calls

same_place : (x y : Place) → x.0 ≡ y.0 → x ≡ y
same_place x y e = let place : ℕ → Place = λ n. record { 0 = n } in ap place e

abbrev CallStop : p.Program → Verdict → Type 0
CallStop x v = (place : Place) × IsFirstBack x.functions place × (v ≡ Refused rule.Recursion place)

abbrev ByCalls : Language → p.Program → Verdict → Type 0
ByCalls lang x = Check (CallStop x) (HasNoBack x) (ByPrice lang (flat_form x))

one_back : (fs : List p.Function) (place other : Place) → IsFirstBack fs place → IsFirstBack fs other → place ≡ other
one_back fs place other x y =
    let sooner : place.0 ≤ y.call.place.0 = x.first y.call y.back in
    let later : other.0 ≤ x.call.place.0 = y.first x.call x.back in
    let here : x.call.place.0 ≡ place.0 = ap (λ (q : Place). q.0) x.stands in
    let there : y.call.place.0 ≡ other.0 = ap (λ (q : Place). q.0) y.stands in
    same_place place other (omega (arith, sooner, later, here, there))

one_by_calls : (lang : Language) (x : p.Program) → IsOne (ByCalls lang x)
one_by_calls lang x = one_check (CallStop x) (HasNoBack x) (ByPrice lang (flat_form x))
    (λ v w s t. s.2 ∙ ap (Refused rule.Recursion) (one_back x.functions s.0 t.0 s.1 t.1) ∙ sym t.2)
    (λ v s ends. ends s.1.call s.1.back)
    (one_by_price lang (flat_form x))

-- ---- Indexes and references

abbrev OutsideStop : p.Program → Verdict → Type 0
OutsideStop x v = (found : r.Rule) × (place : Place) × IsFirstOutside x found place × (v ≡ Refused found place)

abbrev IsInside : p.Program → Type 0
IsInside x = AllFit x × (program_nulls x ≡ [])

abbrev ByIndexes : Language → p.Program → Verdict → Type 0
ByIndexes lang x = Check (OutsideStop x) (IsInside x) (ByCalls lang x)

one_place : (x : p.Program) (found other : r.Rule) (place at : Place) → IsFirstOutside x found place → IsFirstOutside x other at → place ≡ at
one_place x found other place at h k = same_place place at (omega (arith, h.first other at k.outside, k.first found place h.outside))

-- of two at one place both are by indexes, or neither is
one_outside : (x : p.Program) (found other : r.Rule) (place : Place) → IsFirstOutside x found place → IsFirstOutside x other place →
    IsOutside x found place → IsOutside x other place → found ≡ other
one_outside x found other place h k (by_index i c u f e) o = f ∙ sym (k.index_first (by_index i c u refl e))
one_outside x found other place h k (by_null c f) (by_index i d u g e) = h.index_first (by_index i d u refl e) ∙ sym g
one_outside x found other place h k (by_null c f) (by_null d g) = f ∙ sym g

one_stop : (x : p.Program) (found other : r.Rule) (place at : Place) → IsFirstOutside x found place → IsFirstOutside x other at →
    Refused found place ≡ Refused other at
one_stop x found other place at h k =
    let same = one_place x found other place at h k in
    let here : IsFirstOutside x other place = subst (λ (q : Place). IsFirstOutside x other q) (sym same) k in
    ap₂ Refused (one_outside x found other place h here h.outside here.outside) same

none_inside : (x : p.Program) (found : r.Rule) (place : Place) → IsOutside x found place → IsInside x → ⊥
none_inside x found place (by_index i c u f e) inside = let both : true ≡ false = sym (inside.0 i c) ∙ u in cc both
none_inside x found place (by_null c f) inside = let within : c.0 < length (program_nulls x) = c.1 in omega (arith, within, ap length inside.1)

one_by_indexes : (lang : Language) (x : p.Program) → IsOne (ByIndexes lang x)
one_by_indexes lang x = one_check (OutsideStop x) (IsInside x) (ByCalls lang x)
    (λ v w s t. s.3 ∙ one_stop x s.0 t.0 s.1 t.1 s.2 t.2 ∙ sym t.3)
    (λ v s inside. none_inside x s.0 s.1 s.2.outside inside)
    (one_by_calls lang x)

-- ---- Names and kinds

abbrev TypeStop : Language → List Item → Verdict → Type 0
TypeStop lang xs v = (x : Fault) × IsFirst (type_faults lang xs) x × (v ≡ Refused x.rule x.place)

abbrev ByTypes : Language → List Item → Verdict → Type 0
ByTypes lang xs = Check (TypeStop lang xs) (type_faults lang xs ≡ []) (ByIndexes lang (typed_program xs))

no_first : (fs : List Fault) (x : Fault) → fs ≡ [] → IsFirst fs x → ⊥
no_first fs x e first = let within : first.found.0 < length fs = first.found.1 in absurd (omega (arith, within, ap length e))

-- ---- The text

abbrev ReadStop : (lang : Language) → (text : List ℕ) → Verdict → Type 0
ReadStop lang text v = (found : r.Rule) × (place : Place) × IsRefused lang text found place × (v ≡ Refused found place)

data ByReading (lang : Language) (text : List ℕ) (v : Verdict) : Type 0 where
  no_tree : ReadStop lang text v → ByReading lang text v
  tree : (xs : List Item) → IsRead lang text xs → ByTypes lang xs v → ByReading lang text v

module _ (lang : Language) (text : List ℕ) where
  typed_then : (x : p.Program) (v : Verdict) → IsTyped lang text x → ByIndexes lang x v → ByReading lang text v
  typed_then x v is by = tree is.items is.read (passes is.faultless (subst (λ y. ByIndexes lang y v) is.typed by))

  ranged_then : (x : p.Program) (v : Verdict) → IsRanged lang text x → ByCalls lang x v → ByReading lang text v
  ranged_then x v is by = typed_then x v is.typed (passes (is.fits, is.never_null) by)

-- ---- For a log, whose language says what locks and prices are

module _ (log : Log) (text : List ℕ) where
  logged_then : (flat : f.Flat) (v : Verdict) → logged.IsFlattenedAs log text flat → ByLocks (language_of log) flat v →
      ByReading (language_of log) text v
  logged_then flat v is by =
      ranged_then (language_of log) text is.program v is.ranged
      (passes is.ends (passes is.short (subst (λ y. ByLocks (language_of log) y v) is.flattened by)))

  logged_accepted : (flat : f.Flat) → logged.IsAcceptedAs log text flat → ByReading (language_of log) text (Accepted flat)
  logged_accepted flat is = logged_then flat (Accepted flat) is.form (passes is.disciplined (passes is.room (passes is.shallow refl)))

  logged_refused : (found : r.Rule) (place : Place) → logged.IsRefusedAs log text found place → ByReading (language_of log) text (Refused found place)
  logged_refused found place (logged.unread is) = no_tree (found, place, is, refl)
  logged_refused found place (logged.mistyped xs is first) = tree xs is (stops (record { rule = found; place = place }, first, refl))
  logged_refused found place (logged.outside x is first) =
      typed_then (language_of log) text x (Refused found place) is (stops (found, place, first, refl))
  logged_refused found place (logged.leads_back x is first e) =
      ranged_then (language_of log) text x (Refused found place) is (stops (place, first, ap (λ y. Refused y place) e))
  logged_refused found place (logged.too_long x is ends long e) =
      ranged_then (language_of log) text x (Refused found place) is (passes ends (stops (place, long, ap (λ y. Refused y place) e)))
  logged_refused found place (logged.undisciplined flat x is broken e at) =
      logged_then flat (Refused found place) is (stops (x, broken, ap₂ Refused e at))
  logged_refused found place (logged.crowded flat wanted is locks first e) =
      logged_then flat (Refused found place) is (passes locks (stops (place, wanted, first, ap (λ y. Refused y place) e)))
  logged_refused found place (logged.too_deep flat is locks room deep e) =
      logged_then flat (Refused found place) is (passes locks (passes room (stops (place, deep, ap (λ y. Refused y place) e))))

module _ (one_tree : reader.OneTree) (one_refusal : reader.OneRefusal) (not_both : reader.NotBoth) (one_first : OneFirst) where
  one_by_types : (lang : Language) (xs : List Item) → IsOne (ByTypes lang xs)
  one_by_types lang xs = one_check (TypeStop lang xs) (type_faults lang xs ≡ []) (ByIndexes lang (typed_program xs))
      (λ v w s t. s.2 ∙ ap (λ (x : Fault). Refused x.rule x.place) (one_first lang xs s.0 t.0 s.1 t.1) ∙ sym t.2)
      (λ v s e. no_first (type_faults lang xs) s.0 e s.1)
      (one_by_indexes lang (typed_program xs))

  one_by_reading : (lang : Language) (text : List ℕ) → IsOne (ByReading lang text)
  one_by_reading lang text v w (no_tree (found, place, is, e)) (no_tree (other, elsewhere, also, h)) =
      let both = one_refusal lang text found other place elsewhere is also in e ∙ ap₂ Refused both.0 both.1 ∙ sym h
  one_by_reading lang text v w (no_tree (found, place, is, e)) (tree xs spelled by) = absurd (not_both lang text xs found place spelled is)
  one_by_reading lang text v w (tree xs spelled by) (no_tree (found, place, is, e)) = absurd (not_both lang text xs found place spelled is)
  one_by_reading lang text v w (tree xs spelled by) (tree ys also as_well) =
      one_by_types lang ys v w (subst (λ zs. ByTypes lang zs v) (one_tree lang text xs ys spelled also) by) as_well

  -- where it has no faults it is read in one way in all languages
  one_items : (lang other : Language) (text : List ℕ) (xs ys : List Item) → IsRead lang text xs → IsRead other text ys →
      type_faults lang xs ≡ [] → type_faults other ys ≡ [] → xs ≡ ys
  one_items Plain Plain text xs ys read also faultless sound = one_tree Plain text xs ys read also
  one_items Plain Full text xs ys read also faultless sound = one_tree Full text xs ys (plain_is_full text xs ys read faultless also) also
  one_items Full Plain text xs ys read also faultless sound = one_tree Full text xs ys read (plain_is_full text ys xs also sound read)
  one_items Full Full text xs ys read also faultless sound = one_tree Full text xs ys read also

  pub one_flat : laws.OneFlat
  one_flat log other text x y is also =
      let a = is.form.ranged.typed in
      let b = also.form.ranged.typed in
      let same : a.items ≡ b.items = one_items (language_of log) (language_of other) text a.items b.items a.read b.read a.faultless b.faultless in
      is.form.flattened ∙ ap flat_form (a.typed ∙ (ap typed_program same ∙ sym b.typed)) ∙ sym also.form.flattened

  pub one_fault : laws.OneFault
  one_fault log text found other place elsewhere is also =
      let both : Refused found place ≡ Refused other elsewhere =
      one_by_reading (language_of log) text (Refused found place) (Refused other elsewhere) (logged_refused log text found place is)
      (logged_refused log text other elsewhere also) in
      (cc both, cc both)

  pub never_both : laws.NotBoth
  never_both log text x found place is also =
      let both : Accepted x ≡ Refused found place =
      one_by_reading (language_of log) text (Accepted x) (Refused found place) (logged_accepted log text x is)
      (logged_refused log text found place also) in
      cc both

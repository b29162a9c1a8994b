-- Where no hart enters recovery, a machine is settled exactly where no hart holds a lock; so evictions don't matter to that, and not to what it is settled
-- with.
use Rattle.std.proofs.Common.{◌≡◌, ◌≢◌, ◌⊎◌, inl, inr, refl, ℕ, zero, suc, ◌+◌, ◌/◌, ◌%◌, ◌<◌, ◌≤◌, List, [], ◌∷◌, ◌++◌, length, map, ap, sym, ◌∙◌, subst}
use Rattle.std.proofs.Common.{arith, Bool, true, false, Option, Some, None, ℤ}
use Rattle.std.specs.Prelude.{slice_get, ◌&&◌, ◌==◌}
use Rattle.std.proofs.lemmas.Bool.{and_parts, cases_Bool, cases_lt}
use Rattle.machine_events.specs.declared.event.Event.{Event}
use Rattle.machine_events.specs.declared.event.Event.TheVariants.{Step, Evict}
use Rattle.ido_base.specs.declared.location.Shape.{Shape}
use Rattle.ido_base.specs.Words.{Word, word_at, live_value}
use Rattle.ido_base.specs.Layout.{byte_number, variable_at}
use Rattle.ido_base.specs.Locks.{holds_none}
use Rattle.log_schemes.specs.Layout.{point_at}
use Rattle.c_tree.specs.Programs.{Variable}
use Rattle.c_tree.specs.WellFormed.{shape_of, elements_in}
use Rattle.machine_model.specs.Executables.{first_world}
use Rattle.machine_model.specs.Frames.{IsWellFormedWorld}
use Rattle.machine_model.specs.Machine.{Hart, World, after_events, are_settled, durable_point, is_settled, is_settled_hart, live_at}
use Rattle.log_schemes.specs.Schemes.{numbers_from}
use Rattle.machine_model.specs.Schedule.{released_along}
use Rattle.eviction_laws.specs.Evictions.{NoneEnters, DifferInEvictions, no_more, both_step, one_evicts, other_evicts, HaveInCommon}
use Rattle.eviction_laws.proofs.Public.{evictions_only_persist, stays_out}
use Rattle.recovery_semantics.specs.Elements.{number_in}
use Rattle.variable_words.specs.Variables.{live_variables, variables_from}
use Rattle.flow_graph.proofs.Public.{found_in}
use Rattle.crash_simulation.specs.Systems.{System, IsSystem}
use Rattle.crash_simulation.specs.AccountRelation.{MachinesResume}
use Rattle.compiler_correctness.specs.Translations.{Translation, GoOn, world, steps}
use Rattle.compiler_correctness.specs.Compilation.{AreSectionsKept, AreWhole, IsOutside, sections_kept, sections_released}
use Rattle.compiler_correctness.specs.Laws.{translation_of, MachinesAreWhole, SectionsAreKept}
use Rattle.crash_bounds.specs.SettledAlike.{AreSettledAlike, SettledIsDurable, EvictionsSettleAlike}
use Rattle.crash_bounds.proofs.RoundsOfHarts.{after_both}
use Rattle.crash_bounds.proofs.SectionsAlike.{StandsOutside, StandsInside, stands, released_both, sections_alike}

-- ---- Lists that differ in evictions alone

-- the other list, by the one
turned : (one other : List Event) → DifferInEvictions one other → DifferInEvictions other one
turned _ _ no_more = no_more
turned _ _ (both_step h one other rest) = both_step h other one (turned one other rest)
turned _ _ (one_evicts line mask one other rest) = other_evicts line mask other one (turned one other rest)
turned _ _ (other_evicts line mask one other rest) = one_evicts line mask other one (turned one other rest)

go_on : (one other : List Event) → DifferInEvictions one other → GoOn one
go_on _ _ no_more = tt
go_on _ _ (both_step h one other rest) = (tt, go_on one other rest)
go_on _ _ (one_evicts line mask one other rest) = (tt, go_on one other rest)
go_on _ _ (other_evicts line mask one other rest) = go_on one other rest

-- ---- Live variables are those of live words

module _ (ws us : List Word) (same : (word : ℕ) → live_value (word_at us word) ≡ live_value (word_at ws word)) where
  variables_alike : (shapes : List Shape) (number : ℕ) (vs : List Variable) →
      variables_from live_value us shapes number vs ≡ variables_from live_value ws shapes number vs
  variables_alike shapes number [] = refl
  variables_alike shapes number (v ∷ vs) = λ i.
      map (λ element. number_in v.kind (byte_number (variable_at shapes number element) % 8) (same (byte_number (variable_at shapes number element) / 8) i))
      (numbers_from 0 (elements_in v.length)) ∷ variables_alike shapes (number + 1) vs i

  live_alike : (vs : List Variable) → live_variables us vs ≡ live_variables ws vs
  unfolding live_variables
  live_alike vs = variables_alike (map shape_of vs) 0 vs

-- ---- Settled where nothing is held

abbrev pub all_free : List (Option ℕ) → (count : ℕ) → Bool
all_free holders zero = true
all_free holders (suc h) = all_free holders h && holds_none holders h

-- the points of a hart outside a section are 0
abbrev pub ArePointsNone : World → Type 0
ArePointsNone w = (h : ℕ) → StandsOutside w h → (durable_point w.log w.words h ≡ 0) × (live_at w.words (point_at w.log h) ≡ 0)

module _ (w : World) (out : NoneEnters w) (none : ArePointsNone w) where
  hart_settled : (h : ℕ) (hart : Hart) → slice_get w.harts h ≡ Some hart → is_settled_hart w h ≡ holds_none w.holders h
  hart_settled h hart there = elim (stands w h hart there (out h hart there)) [
    | inl outside ↦
        ap (λ (p : ℕ). holds_none w.holders h && ((p == 0) && (live_at w.words (point_at w.log h) == 0))) (none h outside).0
        ∙ (ap (λ (p : ℕ). holds_none w.holders h && (true && (p == 0))) (none h outside).1 ∙ and_true (holds_none w.holders h))
    | inr inside ↦
        ap (λ (b : Bool). b && ((durable_point w.log w.words h == 0) && (live_at w.words (point_at w.log h) == 0))) inside.some ∙ sym inside.some
  ]
    where
      and_true : (b : Bool) → (b && true) ≡ b
      and_true true = refl
      and_true false = refl

  settled_free : (count : ℕ) → count ≤ length w.harts → are_settled w count ≡ all_free w.holders count
  settled_free zero within = refl
  settled_free (suc h) within =
      let found = found_in w.harts h (omega (arith, within)) in
      ap (λ (b : Bool). b && is_settled_hart w h) (settled_free h (omega (arith, within)))
      ∙ ap (λ (b : Bool). all_free w.holders h && b) (hart_settled h found.0 found.1)

  pub is_free : is_settled w ≡ all_free w.holders (length w.harts)
  is_free = settled_free (length w.harts) (omega arith)

  free_each : (count h : ℕ) → all_free w.holders count ≡ true → h < count → holds_none w.holders h ≡ true
  free_each zero h all below = absurd (omega (arith, below))
  free_each (suc last) h all below =
      let parts = and_parts (all_free w.holders last) (holds_none w.holders last) all in
      elim (cases_lt h last) [
        | inl before ↦ free_each last h parts.0 before
        | inr at ↦ let same : last ≡ h = omega (arith, below, at) in subst (λ (k : ℕ). holds_none w.holders k ≡ true) same parts.1
      ]

  -- each hart of a settled machine stands outside
  pub each_outside : is_settled w ≡ true → (h : ℕ) → h < length w.harts → StandsOutside w h
  each_outside settled h below =
      let found = found_in w.harts h below in
      let holds = free_each (length w.harts) h (sym is_free ∙ settled) below in
      elim (stands w h found.0 found.1 (out h found.0 found.1)) [
        | inl outside ↦ outside
        | inr inside ↦ absurd (let never : true ≡ false = sym holds ∙ inside.some in cc)
      ]

-- ---- Both lists

pub evictions_settle_alike : MachinesResume → MachinesAreWhole → SectionsAreKept → SettledIsDurable → EvictionsSettleAlike
evictions_settle_alike machines whole kept durable y s before one other out differ = record {
  settled = settled;
  variables = λ is.
      durable y s (before ++ other) (settled ∙ is)
      ∙ (live_alike (world c (before ++ one)).words (world c (before ++ other)).words live_words c.flat.variables ∙ sym (durable y s (before ++ one) is));
  sections = λ is h below.
      sections_alike c (kept y s) (whole y s) sound h below before count one other (go_on one other differ) (go_on other one (turned one other differ)) out
      (released h)
      (each_outside (world c (before ++ one)) out_one (points (before ++ one)) is h (let size = count (before ++ one) in omega (arith, size, below)))
      (each_outside (world c (before ++ other)) out_other (points (before ++ other)) (settled ∙ is) h
      (let size = count (before ++ other) in omega (arith, size, below)));
}
  where
    c : Translation
    c = translation_of y

    w : World
    w = world c before

    by_one : world c (before ++ one) ≡ after_events c.runs.program w one
    by_one = after_both c.runs.program before one (first_world c.runs)

    by_other : world c (before ++ other) ≡ after_events c.runs.program w other
    by_other = after_both c.runs.program before other (first_world c.runs)

    common : HaveInCommon c.runs.marks c.runs.program w (steps c before) one other
    common = evictions_only_persist c.runs.marks c.runs.program w (steps c before) one other out differ

    out_one : NoneEnters (world c (before ++ one))
    out_one = subst NoneEnters (sym by_one) (stays_out c.runs.program one other differ w out)

    out_other : NoneEnters (world c (before ++ other))
    out_other = subst NoneEnters (sym by_other) (stays_out c.runs.program other one (turned one other differ) w out)

    points : (events : List Event) → ArePointsNone (world c events)
    points events h outside =
        let is = whole y s events h outside.hart outside.there in
        (is.no_durable_point outside.outside, is.no_live_point outside.outside)

    sound : (events : List Event) → IsWellFormedWorld (world c events)
    sound events = (machines y s events).is.stands.machine.sound

    count : (events : List Event) → length (world c events).harts ≡ length c.runs.program
    count events = (machines y s events).is.stands.machine.count ∙ sym s.count

    same_harts : length (world c (before ++ other)).harts ≡ length (world c (before ++ one)).harts
    same_harts = count (before ++ other) ∙ sym (count (before ++ one))

    same_holders : (world c (before ++ other)).holders ≡ (world c (before ++ one)).holders
    same_holders =
        ap (λ (x : World). x.holders) by_other
        ∙ (ap (λ (x : World). x.holders) common.worlds.all_but_words ∙ ap (λ (x : World). x.holders) (sym by_one))

    settled : is_settled (world c (before ++ other)) ≡ is_settled (world c (before ++ one))
    settled =
        is_free (world c (before ++ other)) out_other (points (before ++ other))
        ∙ (ap (λ (holders : List (Option ℕ)). all_free holders (length (world c (before ++ other)).harts)) same_holders
        ∙ (ap (all_free (world c (before ++ one)).holders) same_harts ∙ sym (is_free (world c (before ++ one)) out_one (points (before ++ one)))))

    live_words : (word : ℕ) → live_value (word_at (world c (before ++ other)).words word) ≡ live_value (word_at (world c (before ++ one)).words word)
    live_words word =
        ap (λ (x : World). live_value (word_at x.words word)) by_other
        ∙ (common.live word ∙ ap (λ (x : World). live_value (word_at x.words word)) (sym by_one))

    released : (h : ℕ) → sections_released c (before ++ other) h ≡ sections_released c (before ++ one) h
    released h =
        released_both c.runs.program before other (first_world c.runs) h 0
        ∙ (common.released h (sections_released c before h) ∙ sym (released_both c.runs.program before one (first_world c.runs) h 0))

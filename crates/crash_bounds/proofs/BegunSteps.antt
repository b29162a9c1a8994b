-- What the account of a life gains by events without a crash: begun steps come to the end, and each of them is pending or kept.
use Rattle.std.proofs.Common.{◌≡◌, ◌≢◌, refl, ℕ, zero, suc, ◌+◌, ◌≤◌, List, [], ◌∷◌, ◌++◌, length, ap, sym, ◌∙◌, arith}
use Rattle.std.proofs.Common.{append-nil, append_assoc, cond, Bool, true, None, ◌==◌, filter}
use Rattle.std.proofs.lemmas.Bool.{cond_both, ne_eqb}
use Rattle.std.proofs.lemmas.List.{length-map}
use Rattle.std.proofs.lemmas.List.Elements.{filter-append}
use Rattle.std.proofs.Math.ListN.{length-append}
use Rattle.log_schemes.specs.declared.log.Log.{Log}
use Rattle.machine_events.specs.declared.event.Event.{Event}
use Rattle.machine_events.specs.declared.event.Event.TheVariants.{Step, Evict, Crash, Start}
use Rattle.ido_base.specs.Words.{Word, last_position, word_at}
use Rattle.ido_base.specs.Layout.{word_number}
use Rattle.log_schemes.specs.Layout.{point_at}
use Rattle.rv64_isa.specs.declared.object.Slot.{Slot}
use Rattle.machine_model.specs.Machine.{World, after_event}
use Rattle.machine_model.specs.Schedule.{KeepsOn, PendingStep, Steps, harts_of, with_begun, then_stored, with_stored}
use Rattle.machine_model.specs.Schedule.{is_durable, with_kept, with_all_kept, with_step}
use Rattle.machine_model.specs.Schedule.{steps_after, steps_along, passes_mark, stores_point}
use Rattle.machine_model.proofs.Public.{length_parts}
use Rattle.compiler_correctness.specs.Translations.{GoOn}
use Rattle.compiler_correctness.specs.Delays.{begun_by}

-- ---- What is gained

pub record Gains (s t : Steps) : Type 0 where
  -- steps that have begun, and steps that are kept since
  pub new : List ℕ
  pub kept_since : List ℕ
  pub begun : t.begun ≡ s.begun ++ new
  pub kept : t.kept ≡ s.kept ++ kept_since
  pub earlier : t.earlier ≡ s.earlier
  pub none_lost : length new + length s.pending ≤ length kept_since + length t.pending

nothing : (s : Steps) → Gains s s
nothing s = record {
  new = [];
  kept_since = [];
  begun = sym (append-nil s.begun);
  kept = sym (append-nil s.kept);
  earlier = refl;
  none_lost = omega arith;
}

further : (s t u : Steps) → Gains s t → Gains t u → Gains s u
further s t u a b = record {
  new = a.new ++ b.new;
  kept_since = a.kept_since ++ b.kept_since;
  begun = b.begun ∙ (ap (λ (xs : List ℕ). xs ++ b.new) a.begun ∙ append_assoc s.begun a.new b.new);
  kept = b.kept ∙ (ap (λ (xs : List ℕ). xs ++ b.kept_since) a.kept ∙ append_assoc s.kept a.kept_since b.kept_since);
  earlier = b.earlier ∙ a.earlier;
  none_lost =
      let first = a.none_lost in
      let then_more = b.none_lost in
      let news = length-append a.new b.new in
      let keeps = length-append a.kept_since b.kept_since in
      omega (arith, first, then_more, news, keeps);
}

-- ---- By one event

begins : (h : ℕ) (s : Steps) → Gains s (with_begun h s)
begins h s = record {
  new = h ∷ [];
  kept_since = [];
  begun = refl;
  kept = sym (append-nil s.kept);
  earlier = refl;
  none_lost = let more = length-append s.pending (record { hart = h; stored = None } ∷ []) in omega (arith, more);
}

stores : (h position : ℕ) (s t : Steps) → Gains s t → Gains s (with_stored h position t)
stores h position s t a = record {
  new = a.new;
  kept_since = a.kept_since;
  begun = a.begun;
  kept = a.kept;
  earlier = a.earlier;
  none_lost = let same = length-map t.pending (then_stored h position) in let none = a.none_lost in omega (arith, same, none);
}

keeps : (log : Log) (words : List Word) (h : ℕ) (s : Steps) → Gains s (with_kept log words h s)
keeps log words h s = record {
  new = [];
  kept_since = harts_of (filter test s.pending);
  begun = sym (append-nil s.begun);
  kept = refl;
  earlier = refl;
  none_lost =
      let parts = length_parts test s.pending in
      let many = length-map (filter test s.pending) (λ (step : PendingStep). step.hart) in
      omega (arith, parts, many);
}
  where
    test : PendingStep → Bool
    test = is_durable h (word_at words (word_number (point_at log h))).durable

all_kept : (log : Log) (words : List Word) (count : ℕ) (s : Steps) → Gains s (with_all_kept log words count s)
all_kept log words zero s = nothing s
all_kept log words (suc h) s =
    further s (with_all_kept log words h s) (with_all_kept log words (suc h) s) (all_kept log words h s) (keeps log words h (with_all_kept log words h s))

module _ (marks : List (List ℕ)) (program : List (List Slot)) where
  steps_by : (w : World) (h : ℕ) (s : Steps) → Gains s (with_step marks program w h s)
  steps_by w h s =
      let position = last_position (word_at (after_event program w (Step h)).words (word_number (point_at w.log h))) in
      let started : Steps = cond (passes_mark marks program w h) (with_begun h s) s in
      let first : Gains s started =
      cond_both (passes_mark marks program w h) (with_begun h s) s (λ (t : Steps). Gains s t) (λ _. begins h s) (λ _. nothing s) in
      cond_both (stores_point program w (Step h) h) (with_stored h position started) started (λ (t : Steps). Gains s t)
      (λ _. stores h position s started first) (λ _. first)

  event_gains : (w : World) (event : Event) (s : Steps) → KeepsOn event → Gains s (steps_after marks program w event s)
  unfolding steps_after
  event_gains w (Step h) s on =
      let stepped = with_step marks program w h s in
      further s stepped (steps_after marks program w (Step h) s) (steps_by w h s)
      (all_kept w.log (after_event program w (Step h)).words (length program) stepped)
  event_gains w (Evict line mask) s on = all_kept w.log (after_event program w (Evict line mask)).words (length program) s
  event_gains w Crash s on = absurd on
  event_gains w Start s on = absurd on

  pub gains : (events : List Event) (w : World) (s : Steps) → GoOn events → Gains s (steps_along marks program w events s)
  gains [] w s on = nothing s
  gains (event ∷ events) w s on =
      let then_steps = steps_after marks program w event s in
      further s then_steps (steps_along marks program w (event ∷ events) s) (event_gains w event s on.0)
      (gains events (after_event program w event) then_steps on.1)

-- ---- Begun steps of one hart

abbrev pub counted_in : (h : ℕ) → List ℕ → ℕ
counted_in h xs = length (filter (λ g. g == h) xs)

pub gained_by : (s t : Steps) (a : Gains s t) (h : ℕ) → begun_by t h ≡ begun_by s h + counted_in h a.new
gained_by s t a h =
    ap (counted_in h) a.begun
    ∙ (ap (λ (xs : List ℕ). length xs) (filter-append (λ g. g == h) s.begun a.new)
    ∙ length-append (filter (λ g. g == h) s.begun) (filter (λ g. g == h) a.new))

pub counted_own : (h : ℕ) (xs : List ℕ) → counted_in h (h ∷ xs) ≡ suc (counted_in h xs)
counted_own h xs = let same : (h == h) ≡ true = grind arith in ap (λ (b : Bool). length (cond b (h ∷ filter (λ g. g == h) xs) (filter (λ g. g == h) xs))) same

pub counted_other : (x h : ℕ) (xs : List ℕ) → x ≢ h → counted_in h (x ∷ xs) ≡ counted_in h xs
counted_other x h xs other =
    ap (λ (b : Bool). length (cond b (x ∷ filter (λ g. g == h) xs) (filter (λ g. g == h) xs))) (ne_eqb x h other)

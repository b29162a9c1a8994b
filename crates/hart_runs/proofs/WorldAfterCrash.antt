-- What a crash leaves.
use Rattle.std.proofs.Common.{◌≡◌, ℕ, zero, suc, ◌+◌, ◌<◌, List, [], ◌∷◌, length, map, replicate, refl, ap, arith, sym, ◌∙◌, Option, Some, None, add-zero}
use Rattle.std.specs.Prelude.{slice_get}
use Rattle.std.proofs.lemmas.List.{length-replicate}
use Rattle.log_schemes.specs.declared.log.Log.{Log}
use Rattle.machine_events.specs.declared.event.Event.TheVariants.{Crash}
use Rattle.ido_base.specs.Words.{Word, word_of, word_at, durable_value}
use Rattle.ido_base.specs.Layout.{word_number}
use Rattle.log_schemes.specs.Layout.{point_at}
use Rattle.rv64_isa.specs.declared.object.Slot.{Slot}
use Rattle.machine_model.specs.Machine.{World, fresh_hart, phase_after_crash, durable_point, after_crash_of, happens, after_event}
use Rattle.log_schemes.specs.Schemes.{numbers_from}
use Rattle.hart_runs.specs.Laws.{IsCrashed}
use Rattle.hart_runs.proofs.Worlds.{none_some, some_same}

word_left : (ws : List Word) (j : ℕ) → word_at (map word_of (map durable_value ws)) j ≡ word_of (durable_value (word_at ws j))
word_left [] j = refl
word_left (w ∷ ws) zero = refl
word_left (w ∷ ws) (suc j) = word_left ws j

number_there : {A : Type 0} (f : ℕ → A) (at count i : ℕ) → i < count → slice_get (map f (numbers_from at count)) i ≡ Some (f (at + i))
number_there f at zero i l = absurd (let z : ⊥ = omega (arith, l) in z)
number_there f at (suc count) zero l = ap (λ (n : ℕ). Some (f n)) (sym (add-zero at))
number_there f at (suc count) (suc i) l =
    let e : at + 1 + i ≡ at + suc i = omega arith in
    number_there f (at + 1) count i (omega (arith, l)) ∙ ap (λ (n : ℕ). Some (f n)) e

all_free : (count lock : ℕ) (holder : Option ℕ) → slice_get (replicate count None) lock ≡ Some holder → holder ≡ None
all_free zero lock holder e = absurd (none_some holder e)
all_free (suc count) zero holder e = sym (some_same None holder e)
all_free (suc count) (suc lock) holder e = all_free count lock holder e

point_left : (log : Log) (ws : List Word) (h : ℕ) → durable_point log (map word_of (map durable_value ws)) h ≡ durable_point log ws h
point_left log ws h = ap durable_value (word_left ws (word_number (point_at log h)))

pub crashes_step : (program : List (List Slot)) (w : World) → IsCrashed program w (after_event program w Crash)
unfolding happens after_crash_of
crashes_step program w = record {
  words = word_left w.words;
  harts = λ h l.
      let kept : List Word = map word_of (map durable_value w.words) in
      let e : 0 + h ≡ h = omega arith in
      number_there (λ thread. fresh_hart program (phase_after_crash (durable_point w.log kept thread)) thread) 0 (length program) h l
      ∙ (ap (λ (n : ℕ). Some (fresh_hart program (phase_after_crash (durable_point w.log kept n)) n)) e
      ∙ ap (λ (p : ℕ). Some (fresh_hart program (phase_after_crash p) h)) (point_left w.log w.words h));
  locks = length-replicate (length w.holders) None;
  free = all_free (length w.holders);
  recovering = refl;
}

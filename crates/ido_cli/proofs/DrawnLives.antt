-- A life that known events are made on.
use Rattle.std.proofs.Common.{◌≡◌, ℕ, ◌-◌, ◌≤◌, List, ◌++◌, length, map, sym, ap, ◌∙◌, subst, arith}
use Rattle.std.proofs.lemmas.List.{length-map}
use Rattle.std.specs.Prelude.{All}
use Rattle.log_schemes.specs.declared.log.Log.{Log}
use Rattle.machine_events.specs.declared.event.Event.{Event}
use Rattle.machine_events.specs.Cores.{IsValid}
use Rattle.machine_model.specs.Machine.{IsEviction}
use Rattle.machine_model.specs.declared.object.Object.{Object}
use Rattle.rv64_isa.specs.declared.object.Marks.{Marks}
use Rattle.rv64_isa.specs.Programs.{slot_of}
use Rattle.run_tracker.specs.ObjectLives.{Course, new_life, opening_of}
use Rattle.ido_cli.specs.links.PlayedLives.{HasPlayed}

-- what is valid at so many harts
pub all_valid : (log own : Log) (harts many : ℕ) (es others : List Event) → own ≡ log → es ≡ others → many ≡ harts →
    All (IsValid many (IsEviction own many)) others → All (IsValid harts (IsEviction log harts)) es
all_valid log own harts many es others logs are same valid =
    subst (λ (l : Log). All (IsValid harts (IsEviction l harts)) es) logs (
    subst (λ (n : ℕ). All (IsValid n (IsEviction own n)) es) same (subst (λ (xs : List Event). All (IsValid many (IsEviction own many)) xs) (sym are) valid))

module _ (object : Object) (marks : Marks) (cap : ℕ) (old : Course) (is : old ≡ new_life object marks cap) where
  pub many_harts : length old.runs.program ≡ length object.code.items
  many_harts = ap (λ (x : Course). length x.runs.program) is ∙ length-map object.code.items (λ code. map slot_of code.items)

  pub room_for : (count : ℕ) → count ≤ cap → count ≤ old.cap - length old.journal
  room_for count fits =
      let enough : count ≤ cap - 0 = omega (arith, fits) in
      subst (λ (x : Course). count ≤ x.cap - length x.journal) (sym is) enough

  pub has_made : (life : Course) (es : List Event) → opening_of life ≡ opening_of old → life.journal ≡ old.journal ++ es → HasPlayed object marks life es
  has_made life es opening journal = record {
    begins = opening ∙ ap opening_of is;
    journal = journal ∙ ap (λ (x : Course). x.journal ++ es) is;
  }

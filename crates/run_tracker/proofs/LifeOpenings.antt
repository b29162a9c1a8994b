-- How lives begin.
use Rattle.std.proofs.Common.{Vec, Global, ◌≡◌, ℕ, ◌/◌, List, [], length, Some, ap, sym, subst, ◌∙◌}
use Rattle.std.proofs.lemmas.List.{length-map}
use Rattle.log_schemes.specs.declared.log.Log.{Log}
use Rattle.ido_base.specs.Words.{word_of}
use Rattle.ido_base.specs.Layout.{spread_words}
use Rattle.log_schemes.specs.Layout.{word_count}
use Rattle.machine_model.specs.declared.object.Object.{Object}
use Rattle.rv64_isa.specs.declared.object.Slot.{Slot}
use Rattle.machine_model.specs.Frames.{IsWellFormedWorld}
use Rattle.machine_model.proofs.Public.{crashes_simulate}
use Rattle.machine_model.specs.Objects.{program_of}
use Rattle.machine_model.specs.Machine.{after_crash_of, machine_from}
use Rattle.ido_machine.specs.declared.machine.Machine.{Machine}
use Rattle.ido_machine.specs.Machines.{RepresentsMachine, log_by, program_in}
use Rattle.run_tracker.specs.links.LifeRepresentation.{opening_by}

-- where a machine stands after a crash, there are as many words as its logs ask for
crash_sound : (machine : Machine) (log : Log) (program : List (List Slot)) (locks : ℕ) (words : List ℕ) → program_in machine ≡ program →
    RepresentsMachine machine (after_crash_of log program locks words) → IsWellFormedWorld (after_crash_of log program locks words)
unfolding after_crash_of
crash_sound machine log program locks words same stands =
    (crashes_simulate log program locks words (sym (length-map words word_of) ∙ stands.words.size
    ∙ ap (word_count (log_by machine)) (machine.logged ∙ ap length same) ∙ ap (λ (l : Log). word_count l (length program)) (sym stands.log))).0

module _ (machine : Machine) (object : Object) (words : List ℕ) (left : Vec ℕ Global) (copied : left.items ≡ words)
    (same : program_in machine ≡ program_of object) (stands : RepresentsMachine machine (machine_from object words [])) where
  -- the world that is kept as these words is that of the machine
  pub opening_is : opening_by object.log (program_of object) object.mutexes object.initial.items (Some left) ≡ machine_from object words []
  opening_is = ap (λ (ws : List ℕ). after_crash_of object.log (program_of object) object.mutexes (spread_words (length object.initial.items / 8) ws)) copied

  pub left_stands : RepresentsMachine machine (opening_by object.log (program_of object) object.mutexes object.initial.items (Some left))
  left_stands = subst (RepresentsMachine machine) (sym opening_is) stands

  pub left_sound : IsWellFormedWorld (opening_by object.log (program_of object) object.mutexes object.initial.items (Some left))
  left_sound =
      subst IsWellFormedWorld (sym opening_is)
      (crash_sound machine object.log (program_of object) object.mutexes (spread_words (length object.initial.items / 8) words) same stands)

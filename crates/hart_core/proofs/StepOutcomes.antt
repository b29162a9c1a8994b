-- Ends of steps, by what has changed.
use Rattle.std.proofs.Common.{◌≡◌, ℕ, zero, suc, List, [], ◌∷◌, slice_get, slice_set, Option, Some, refl, sym, ◌∙◌, ap}
use Rattle.std.proofs.lemmas.List.{length-set}
use Rattle.machine_events.specs.declared.event.Reply.{Reply}
use Rattle.ido_base.specs.Words.{Word, Entry}
use Rattle.line_memory.specs.declared.queue.Queue.{Queue}
use Rattle.line_memory.specs.links.Queues.{RepresentsQueue}
use Rattle.line_memory.specs.links.MemoryRepresentation.{Represents, Logs, logs_of}
use Rattle.machine_model.specs.Machine.{Hart as HartModel, World}
use Rattle.hart_core.specs.links.Harts.{RepresentsHart}
use Rattle.hart_core.specs.StepsOnParts.{Parts, PartsStand, PartsEnd}

-- what stands in a list, written again, changes nothing
pub set_found : {X : Type 0} (xs : List X) (n : ℕ) (x : X) → slice_get xs n ≡ Some x → slice_set xs n x ≡ xs
set_found [] n x e = refl
set_found (y ∷ ys) zero x e = cc
set_found (y ∷ ys) (suc n) x e = ap (λ (zs : List _). y ∷ zs) (set_found ys n x e)

-- what was written in place of something is found there
pub found_set : {X : Type 0} (xs : List X) (n : ℕ) (x y : X) → slice_get xs n ≡ Some x → slice_get (slice_set xs n y) n ≡ Some y
found_set [] n x y e = cc
found_set (z ∷ zs) zero x y e = refl
found_set (z ∷ zs) (suc n) x y e = found_set zs n x y e

-- nothing changes
pub same_end : (parts : Parts) (reply : Reply) (number : ℕ) (w : World) (model : HartModel) → PartsStand parts number w model →
    PartsEnd parts reply number w (w, reply)
same_end parts reply number w model s = record {
  replied = refl;
  model = model;
  stand = s;
  harts = sym (set_found w.harts number model s.found);
  recovering = refl;
  queues = λ any entries q. q;
}

-- the hart is another one from now on, the words and the holders are others
pub changed_end : (parts after : Parts) (reply : Reply) (number : ℕ) (w : World) (model next : HartModel) (words : List Word) (holders : List (Option ℕ)) →
    PartsStand parts number w model → Represents after.memory words → logs_of after.memory ≡ logs_of parts.memory → holders ≡ after.locks →
    next.phase ≡ after.phase → RepresentsHart after.hart next words →
    ((any : Queue) (entries : List Entry) → RepresentsQueue any entries w.words → RepresentsQueue any entries words) →
    PartsEnd after reply number w (
      record { words = words; harts = slice_set w.harts number next; holders = holders; recovering = w.recovering; log = w.log },
      reply,
    )
changed_end parts after reply number w model next words holders s stand logs locks phase hart queues = record {
  replied = refl;
  model = next;
  stand = record {
    words = stand;
    holders = locks;
    logs = ap (λ (n : ℕ). record { log = w.log; threads = n }) (length-set w.harts number next) ∙ s.logs ∙ sym logs;
    found = found_set w.harts number model next s.found;
    phase = phase;
    hart = hart;
  };
  harts = refl;
  recovering = refl;
  queues = queues;
}

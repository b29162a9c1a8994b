-- Steps of a queue.
use Rattle.std.proofs.Common.{◌≡◌, ℕ, suc, ◌+◌, ◌<◌, List, [], ◌∷◌, ◌++◌, sym, ◌∙◌, ap, subst, inl, inr, arith, add-one}
use Rattle.std.proofs.lemmas.Bool.{cases_eq}
use Rattle.std.proofs.lemmas.List.{get_or_push, get_or_append_left, length_push}
use Rattle.ido_base.specs.Words.{Word, Entry}
use Rattle.line_memory.specs.declared.queue.Queue.{Queue}
use Rattle.line_memory.specs.declared.queue.Snapshot.{Snapshot}
use Rattle.line_memory.specs.links.Queues.{queue_length, queued, no_entry, entry_at, RepresentsSnapshot, RepresentsQueue}

module _ (old new : Queue) (entry : Entry) (entries : List Entry) (words : List Word) where
  -- an entry more
  pub RepresentsQueue-push : (snapshot : Snapshot) → queue_length new ≡ queue_length old + 1 → queued new (queue_length old) ≡ snapshot →
      ((i : ℕ) → i < queue_length old → queued new i ≡ queued old i) → RepresentsQueue old entries words → RepresentsSnapshot snapshot entry words →
      RepresentsQueue new (entries ++ entry ∷ []) words
  RepresentsQueue-push snapshot longer last kept q s = record {
    size = length_push entries entry ∙ ap (λ (n : ℕ). n + 1) q.size ∙ sym longer;
    each = λ i below. elim (cases_eq i (queue_length old)) [
      | inl same ↦ subst (λ (j : ℕ). RepresentsSnapshot (queued new j) (entry_at (entries ++ entry ∷ []) j) words) (sym same)
          (rw (last, get_or_push entries entry no_entry (queue_length old) q.size) s)
      | inr other ↦
          let among : i < queue_length old = omega (arith, below, longer, other) in
          rw (kept i among, get_or_append_left entries (entry ∷ []) no_entry i (omega (arith, q.size, among))) (q.each i among)
    ];
  }

  -- the oldest leaves
  pub RepresentsQueue-pop : queue_length new + 1 ≡ queue_length old → ((i : ℕ) → i < queue_length new → queued new i ≡ queued old (i + 1)) →
      RepresentsQueue old (entry ∷ entries) words → RepresentsQueue new entries words
  RepresentsQueue-pop shorter rest q = record {
    size = omega (arith, q.size, shorter);
    each = λ i below.
        let e : i + 1 ≡ suc i = add-one i in
        let next : RepresentsSnapshot (queued old (i + 1)) (entry_at (entry ∷ entries) (suc i)) words =
        subst (λ (j : ℕ). RepresentsSnapshot (queued old (i + 1)) (entry_at (entry ∷ entries) j) words) e (q.each (i + 1) (omega (arith, shorter, below))) in
        rw (rest i below) next;
  }

pub oldest_stands : (queue : Queue) (snapshot : Snapshot) (entry : Entry) (entries : List Entry) (words : List Word) → snapshot ≡ queued queue 0 →
    RepresentsQueue queue (entry ∷ entries) words → RepresentsSnapshot snapshot entry words
oldest_stands queue snapshot entry entries words is_oldest q = rw is_oldest (q.each 0 (omega (arith, q.size)))

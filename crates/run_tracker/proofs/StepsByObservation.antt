-- What a step of a hart has done, by what was seen of the hart before it.
use Rattle.std.proofs.Common.{◌≡◌, ◌⊎◌, ℕ, ◌+◌, ◌<◌, List, length, slice_index_or, []}
use Rattle.std.proofs.Common.{Some, None, Bool, true, false, not, cond, ◌==◌, ◌||◌, refl, ap, sym, subst, ◌∙◌, arith, inl, inr}
use Rattle.std.proofs.lemmas.Bool.{cases_eq, cases_Bool}
use Rattle.log_schemes.specs.declared.log.Log.{Log}
use Rattle.machine_events.specs.declared.event.Event.TheVariants.{Step}
use Rattle.machine_events.specs.declared.event.Reply.{Reply}
use Rattle.ido_base.specs.Words.{word_at, last_position}
use Rattle.rv64_isa.specs.declared.object.Slot.{Slot}
use Rattle.rv64_isa.specs.Rows.{Effect}
use Rattle.rv64_isa.specs.Programs.{fetched, code_of, code_start}
use Rattle.machine_model.specs.Machine.{World, after_event, reply_to}
use Rattle.machine_model.specs.Schedule.{Steps, completes, completing, has_moved, is_fence, is_point_store, is_running}
use Rattle.machine_model.specs.Schedule.{passes_mark, stores_point, finishes_fence, steps_after, with_step, with_all_kept}
use Rattle.ido_machine.specs.declared.machine.Machine.{Machine}
use Rattle.run_tracker.specs.declared.counts.Counts.{Counts}
use Rattle.ido_machine.specs.declared.signs.Sign.{Sign}
use Rattle.run_tracker.specs.declared.stepping.Observation.{Observation}
use Rattle.run_tracker.specs.links.AccountRepresentation.{AreOpen, point_word}
use Rattle.ido_machine.specs.links.SignTables.{is_plain, IsTableOf}
use Rattle.run_tracker.specs.links.LifeParts.{is_drained, seen_step, HasStepped, HaveCounted}
use Rattle.run_tracker.proofs.EventCounts.{completes-other, counted-none}
use Rattle.run_tracker.proofs.DurableWordsStay.{undrained}
use Rattle.run_tracker.proofs.Events.{noted, noted_is}
use Rattle.run_tracker.proofs.PointPositions.{differs, grown}
use Rattle.run_tracker.proofs.StepsStayOpen.{all_kept_none, open-noted}
use Rattle.run_tracker.proofs.SignObservations.{completes_none, completes_one, fence_is, fence_tells, mark_tells, plain_tells, store_tells, stores_none}
use Rattle.run_tracker.proofs.SignObservations.{moved_fetched, none_moved, none_running, one_moved, passes_none, passes_one}

module _ (program : List (List Slot)) (marks : List (List ℕ)) (machine : Machine) (h : ℕ) (observation : Observation) (reply : Reply) (w : World)
    (stepped : HasStepped program marks machine (seen_step h observation reply) w) where
  abbrev pub next : World
  next = after_event program w (Step h)

  abbrev pub last_in : World → ℕ
  last_in v = last_position (word_at v.words (point_word w.log h))

  some_value : 0 < length (word_at w.words (point_word w.log h)).values
  some_value = omega (arith, stepped.seen.durable)

  running_is : (b : Bool) → observation.running ≡ b → is_running stepped.seen.hart.phase ≡ b
  running_is b e = sym stepped.seen.running ∙ e

  moved_is : (b : Bool) → has_moved reply ≡ b → has_moved (reply_to program w (Step h)) ≡ b
  moved_is b e = ap has_moved (sym stepped.replied) ∙ e

  -- ---- A hart that has completed no instruction

  pub idle : observation.running ≡ false → completing program w h ≡ None
  idle e = none_running program w h stepped.seen.hart stepped.seen.found (running_is false e)

  pub held_up : has_moved reply ≡ false → completing program w h ≡ None
  held_up e = none_moved program w h stepped.seen.hart stepped.seen.found (moved_is false e)

  pub counts_none : completing program w h ≡ None → (counts : Counts) → HaveCounted counts counts program w (Step h)
  counts_none none counts = record {
    points = counted-none counts.points.items (λ g. stores_point program w (Step h) g) (λ g. each g (is_point_store w.log g));
    fences = counted-none counts.fences.items (λ g. finishes_fence program w (Step h) g) (λ g. each g is_fence);
  }
    where
      each : (g : ℕ) (test : Effect → Bool) → completes test program w (Step h) g ≡ false
      each g test = by_place (cases_eq g h)
        where
          by_place : (g ≡ h) ⊎ (g ≡ h → ⊥) → completes test program w (Step h) g ≡ false
          by_place (inl same) = subst (λ (k : ℕ). completes test program w (Step h) k ≡ false) (sym same) (completes_none program w h test none)
          by_place (inr ne) = completes-other test program w h g ne

  pub steps_none : completing program w h ≡ None → (s : Steps) → with_step marks program w h s ≡ s
  steps_none none s =
      let position = last_in next in
      ap (λ (mark : Bool). noted mark (stores_point program w (Step h) h) h position s) (passes_none program w h marks none)
      ∙ ap (λ (point : Bool). noted false point h position s) (completes_none program w h (is_point_store w.log h) none)

  -- ---- Steps are kept where something was written back

  -- a point that was stored is durable at an earlier position
  above : is_drained reply ≡ false → stores_point program w (Step h) h ≡ true → (word_at next.words (point_word w.log h)).durable < last_in next
  above quiet stores = by_running (cases_Bool (is_running stepped.seen.hart.phase))
    where
      Above : Type 0
      Above = (word_at next.words (point_word w.log h)).durable < last_in next

      none_stores : completing program w h ≡ None → Above
      none_stores none = let no : stores_point program w (Step h) h ≡ false = completes_none program w h (is_point_store w.log h) none in
          absurd (subst (λ (b : Bool). cond b (Unit {0}) ⊥) (sym stores ∙ no) tt)

      by_moved : is_running stepped.seen.hart.phase ≡ true →
          (has_moved (reply_to program w (Step h)) ≡ true) ⊎ (has_moved (reply_to program w (Step h)) ≡ false) → Above
      by_moved running (inl moves) =
          let more = grown h w stepped.seen.point some_value program stepped.seen.hart stepped.seen.found running moves in
          let one : last_in next ≡ last_in w + 1 = more ∙ ap (λ (b : Bool). last_in w + cond b 1 0) stores in
          omega (arith, one, undrained program h w (ap is_drained (sym stepped.replied) ∙ quiet) (point_word w.log h), stepped.seen.durable)
      by_moved running (inr held) = none_stores (none_moved program w h stepped.seen.hart stepped.seen.found held)

      by_running : (is_running stepped.seen.hart.phase ≡ true) ⊎ (is_running stepped.seen.hart.phase ≡ false) → Above
      by_running (inl running) = by_moved running (cases_Bool (has_moved (reply_to program w (Step h))))
      by_running (inr none) = none_stores (none_running program w h stepped.seen.hart stepped.seen.found none)

  pub kept_none : is_drained reply ≡ false → (s : Steps) → AreOpen (length program) w.log w.words s →
      steps_after marks program w (Step h) s ≡ with_step marks program w h s
  unfolding steps_after
  kept_none quiet s is_open =
      all_kept_none (length program) w.log next.words (length program) (with_step marks program w h s) (omega arith)
      (open-noted (length program) w.log w.words next.words (passes_mark marks program w h) (stores_point program w (Step h) h) h (last_in next) s (above quiet)
      (undrained program h w (ap is_drained (sym stepped.replied) ∙ quiet)) is_open)

  pub kept_after : completing program w h ≡ None → (s : Steps) (n : ℕ) → n ≡ length program →
      with_all_kept w.log next.words n s ≡ steps_after marks program w (Step h) s
  unfolding steps_after
  kept_after none s n n_is =
      ap (λ (k : ℕ). with_all_kept w.log next.words k s) n_is ∙ ap (with_all_kept w.log next.words (length program)) (sym (steps_none none s))

  -- ---- A hart that has completed an instruction

  module _ (running : observation.running ≡ true) (moves : has_moved reply ≡ true) where
    one : completing program w h ≡ Some stepped.seen.hart
    one = one_moved program w h stepped.seen.hart stepped.seen.found (running_is true running) (moved_is true moves)

    some_slot : (slot : Slot) × (fetched program h stepped.seen.hart.pc ≡ Some slot)
    some_slot = moved_fetched program w h stepped.seen.hart stepped.seen.found (running_is true running) (moved_is true moves)

    table_is : IsTableOf stepped.seen.table (code_start program h) (code_of program h) (slice_index_or marks h [])
    table_is = stepped.tables_are.each h stepped.seen.table stepped.seen.owned

    pub mark_is : observation.sign.mark ≡ passes_mark marks program w h
    mark_is =
        ap (λ (x : Sign). x.mark) stepped.seen.sign
        ∙ mark_tells program h stepped.seen.hart.pc some_slot.0 some_slot.1 stepped.seen.table (slice_index_or marks h []) table_is
        ∙ sym (passes_one program w h marks stepped.seen.hart one)

    pub fence_done : observation.sign.fence ≡ finishes_fence program w (Step h) h
    fence_done =
        ap (λ (x : Sign). x.fence) stepped.seen.sign
        ∙ fence_tells program h stepped.seen.hart.pc some_slot.0 some_slot.1 stepped.seen.table (slice_index_or marks h []) table_is
        ∙ sym (completes_one program w h is_fence stepped.seen.hart (Some some_slot.0) one some_slot.1 ∙ fence_is stepped.seen.hart some_slot.0)

    -- no point is stored where nothing is
    pub no_point : observation.sign.store ≡ false → stores_point program w (Step h) h ≡ false
    no_point e =
        let tells = store_tells program h stepped.seen.hart.pc some_slot.0 some_slot.1 stepped.seen.table (slice_index_or marks h []) table_is in
        completes_one program w h (is_point_store w.log h) stepped.seen.hart (Some some_slot.0) one some_slot.1
        ∙ stores_none w.log h stepped.seen.hart some_slot.0 (sym (ap (λ (x : Sign). x.store) stepped.seen.sign ∙ tells) ∙ e)

    -- the newest value of the point stands there
    pub position_is : (position : ℕ) → position ≡ last_position (word_at next.words (point_word next.log h)) → position ≡ last_in next
    position_is position is = is ∙ ap (λ (l : Log). last_position (word_at next.words (point_word l h))) stepped.log

    -- a plain word changes nothing that is accounted for
    module _ (plain : observation.sign.plain ≡ true) where
      plain_is : observation.sign.plain ≡ is_plain observation.sign
      plain_is = subst (λ (x : Sign). x.plain ≡ is_plain x) (sym stepped.seen.sign)
          (plain_tells program h stepped.seen.hart.pc some_slot.0 some_slot.1 stepped.seen.table (slice_index_or marks h []) table_is)

      parts : (observation.sign.mark ≡ false) × (observation.sign.fence ≡ false) × (observation.sign.store ≡ false)
      parts = of_plain observation.sign.mark observation.sign.fence observation.sign.store (sym plain_is ∙ plain)
        where
          of_plain : (mark fence store : Bool) → not (mark || fence || store) ≡ true → (mark ≡ false) × (fence ≡ false) × (store ≡ false)
          of_plain false false false e = (refl, refl, refl)
          of_plain false false true e = cc
          of_plain false true store e = cc
          of_plain true fence store e = cc

      pub plain_steps : (s : Steps) → with_step marks program w h s ≡ s
      plain_steps s = sym (noted_is marks program w h s false false (last_in next) (sym parts.0 ∙ mark_is) (sym (no_point parts.2)) refl)

      pub plain_counts : (counts : Counts) → HaveCounted counts counts program w (Step h)
      plain_counts counts = record {
        points = counted-none counts.points.items (λ g. stores_point program w (Step h) g) (of_all (λ g. is_point_store w.log g) (no_point parts.2));
        fences = counted-none counts.fences.items (λ g. finishes_fence program w (Step h) g) (of_all (λ g. is_fence) (sym fence_done ∙ parts.1));
      }
        where
          of_all : (test : ℕ → Effect → Bool) → completes (test h) program w (Step h) h ≡ false →
              (g : ℕ) → completes (test g) program w (Step h) g ≡ false
          of_all test none g = by_place (cases_eq g h)
            where
              by_place : (g ≡ h) ⊎ (g ≡ h → ⊥) → completes (test g) program w (Step h) g ≡ false
              by_place (inl same) = subst (λ (k : ℕ). completes (test k) program w (Step h) k ≡ false) (sym same) none
              by_place (inr ne) = completes-other (test g) program w h g ne

    pub point_is : (position : ℕ) (store : Bool) → store ≡ observation.sign.store → (store ≡ true → position ≡ last_in next) →
        (store ≡ false → position ≡ 0) → not (position == observation.position) ≡ stores_point program w (Step h) h
    point_is position true is stored unstored =
        let more = grown h w stepped.seen.point some_value program stepped.seen.hart stepped.seen.found (running_is true running) (moved_is true moves) in
        differs observation.position position (stores_point program w (Step h) h)
        (stored refl ∙ more ∙ ap (λ (n : ℕ). n + cond (stores_point program w (Step h) h) 1 0) (sym (stepped.seen.position (sym is))))
    point_is position false is stored unstored =
        ap (λ (n : ℕ). not (n == observation.position)) (unstored refl) ∙ ap (λ (n : ℕ). not (0 == n)) (stepped.seen.unstored (sym is))
        ∙ sym (no_point (sym is))

    -- what was noted is what the step does
    pub steps_are : (s : Steps) (mark point : Bool) (position : ℕ) (store : Bool) → store ≡ observation.sign.store → mark ≡ passes_mark marks program w h →
        point ≡ stores_point program w (Step h) h → (store ≡ true → position ≡ last_in next) → noted mark point h position s ≡ with_step marks program w h s
    steps_are s mark point position true is mark_is point_is stored = noted_is marks program w h s mark point position mark_is point_is (stored refl)
    steps_are s mark point position false is mark_is point_is stored =
        let none : point ≡ false = point_is ∙ no_point (sym is) in
        ap (λ (b : Bool). noted mark b h position s) none ∙ ap (λ (b : Bool). noted mark b h (last_in next) s) (sym none)
        ∙ noted_is marks program w h s mark point (last_in next) mark_is point_is refl

-- A boundary's effects stay in its thread's log, so none of them is stuck.
use Rattle.std.proofs.Common.{◌≡◌, ◌⊎◌, inl, inr, ℕ, ◌+◌, ◌*◌, ◌%◌, ◌<◌, ◌≤◌, List, [], ◌∷◌, length, refl, ap, arith, sym, ◌∙◌, subst, true, Option, Some}
use Rattle.std.proofs.Common.{None, zero, suc}
use Rattle.std.specs.Prelude.{slice_get, nat_le, nat_lt, ◌&&◌}
use Rattle.std.specs.List.{Contains}
use Rattle.std.proofs.lemmas.Bool.{cond_both, cond-true, and_from, or_right, le-leb, eq-eqb}
use Rattle.log_schemes.specs.declared.log.Log.{Log}
use Rattle.machine_events.specs.declared.event.Reply.TheVariants.{Moved, Drained}
use Rattle.ido_base.specs.Words.{Entry}
use Rattle.ido_base.specs.Layout.{variables_base, logs_base, aligned}
use Rattle.log_schemes.specs.Layout.{frame_at, log_lines, log_words, in_range, log_of, point_at, slot_at}
use Rattle.log_schemes.specs.Schemes.{bank_lines}
use Rattle.rv64_isa.specs.Rows.{Effect, Stores, Cleans, Fences, next}
use Rattle.machine_model.specs.Machine.{Hart, World, Outcome, access, applied, fenced, drain_one, stepped, happens, bank_of, hart_step, phase_step}
use Rattle.log_states.specs.Logs.{Record, value_of, IsFrameWord, IsInBank}
use Rattle.log_schemes.specs.SchemeFacts.{frame_index, slot_index}
use Rattle.log_states.specs.Stages.{IsWriting, Stage, Writing, Written, Pointed, PointQueued, Over}
use Rattle.log_states.specs.Machines.{is_boundary_effect, IsLogEffect, StoresWord, CleansLine, PassesFence, BoundariesStayIn, LogEffectsGo}
use Rattle.log_schemes.proofs.Public.{contains_first}
use Rattle.log_schemes.proofs.Public.{scheme}
use Rattle.log_states.proofs.Heads.{head, not_done}
use Rattle.log_states.proofs.Numbers.{frame_inside, line_in_bank, rows_within, some_words}
use Rattle.log_states.proofs.UnstoredLogStays.{slot_in_bank, bank_below}
use Rattle.log_states.proofs.Machines.{executes_effect, runs_step}

-- ---- What a boundary does next

point_address : (log : Log) (thread : ℕ) → point_at log thread ≡ log_of log thread + 8 * 0
point_address log thread = omega arith

same_effect : (e f : Effect) (es fs : List Effect) → e ∷ es ≡ f ∷ fs → e ≡ f
same_effect e f es fs same = ap head same

Does : (log : Log) (thread : ℕ) (effect : Effect) → Type 0
Does log thread effect = IsLogEffect log thread effect × (is_boundary_effect effect ≡ true)

does : (log : Log) (thread : ℕ) (f effect : Effect) (es fs : List Effect) → f ∷ fs ≡ effect ∷ es → Does log thread f → Does log thread effect
does log thread f effect es fs same d = subst (Does log thread) (same_effect f effect fs es same) d

stores_slot : (log : Log) (thread : ℕ) (r : Record) (slot : ℕ) → IsInBank log slot →
    Does log thread (Stores (slot_at log thread (bank_of r.point) slot) 8 (value_of log r slot))
unfolding Does
stores_slot log thread r slot inside = (
  StoresWord (slot_index log (bank_of r.point) slot) (value_of log r slot) ((scheme log).stands.inside (bank_of r.point) slot (bank_below r.point) inside)
      (ap (λ (a : ℕ). Stores a 8 (value_of log r slot)) ((scheme log).stands.address thread (bank_of r.point) slot)),
  refl,
)

cleans_line : (log : Log) (thread : ℕ) (r : Record) (line : ℕ) → Contains (bank_lines log) line →
    Does log thread (Cleans (slot_at log thread (bank_of r.point) (8 * line)))
unfolding Does
cleans_line log thread r line c = (
  CleansLine (slot_index log (bank_of r.point) (8 * line))
      ((scheme log).stands.inside (bank_of r.point) (8 * line) (bank_below r.point) (line_in_bank log line c))
      (ap Cleans ((scheme log).stands.address thread (bank_of r.point) (8 * line))),
  refl,
)

cleans_frame : (log : Log) (thread line : ℕ) → IsFrameWord log (8 * line) → Does log thread (Cleans (frame_at log thread (8 * line)))
unfolding Does
cleans_frame log thread line is =
    (CleansLine (frame_index (8 * line)) (frame_inside log (8 * line) is) (ap Cleans ((scheme log).frame.address thread (8 * line))), refl)

pub boundaries_stay_in : BoundariesStayIn
unfolding Does
boundaries_stay_in log thread old new m effect later l rest = by l.stage
  where
    writes : (slots lines framing : List ℕ) → IsWriting log thread new slots lines framing m → Does log thread effect
    writes [] [] (line ∷ framing) w =
        does log thread _ effect later _ (sym w.rest ∙ rest) (cleans_frame log thread line (w.frame_lines_exist line (contains_first line framing)))
    writes [] [] [] w = does log thread Fences effect later _ (sym w.rest ∙ rest) (PassesFence refl, refl)
    writes [] (line ∷ lines) framing w =
        does log thread _ effect later _ (sym w.rest ∙ rest) (cleans_line log thread new line (w.exist line (contains_first line lines)))
    writes (slot ∷ slots) lines framing w =
        does log thread _ effect later _ (sym w.rest ∙ rest) (stores_slot log thread new slot
        (slot_in_bank log new slot l.follows.new_is (w.own slot (contains_first slot slots))))

    by : Stage log thread old new m → Does log thread effect
    by (Writing slots lines framing w h) = writes slots lines framing w
    by (Written e h bank frame) =
        does log thread (Stores (point_at log thread) 8 new.point) effect later _ (sym e ∙ rest)
        (StoresWord 0 new.point (some_words log) (ap (λ (a : ℕ). Stores a 8 new.point) (point_address log thread)), refl)
    by (Pointed e h) = does log thread (Cleans (point_at log thread)) effect later _ (sym e ∙ rest)
        (CleansLine 0 (some_words log) (ap Cleans (point_address log thread)), refl)
    by (PointQueued e h r) = does log thread Fences effect later _ (sym e ∙ rest) (PassesFence refl, refl)
    by (Over e h) = absurd (not_done _ _ (sym e ∙ rest))

-- ---- A hart in its boundary is never stuck

Goes : Outcome → Type 0
Goes o = (o.1 ≡ Moved) ⊎ (o.1 ≡ Drained)

pub there_below : {A : Type 0} (xs : List A) (i : ℕ) (x : A) → slice_get xs i ≡ Some x → i < length xs
there_below {A} [] i x e = absurd (subst (λ (o : Option A). is_none o) e tt)
  where
    is_none : {B : Type 0} → Option B → Type 0
    is_none None = Unit {0}
    is_none (Some y) = ⊥
there_below (y ∷ ys) zero x e = omega arith
there_below (y ∷ ys) (suc i) x e = let more = there_below ys i x e in omega (arith, more)

log_in_range : (log : Log) (threads thread i count : ℕ) → thread < threads → i < log_words log → count ≤ 8 →
    in_range log threads (log_of log thread + 8 * i) count ≡ true
log_in_range log threads thread i count below inside short =
    let first : ℕ = log_of log thread + 8 * i in
    let last : ℕ = logs_base + 64 * log_lines log * threads in
    let rows = rows_within (log_lines log) thread threads below in
    or_right (nat_le variables_base first && nat_le (first + count) (variables_base + 65536)) (nat_le logs_base first && nat_le (first + count) last)
    (and_from (nat_le logs_base first) (nat_le (first + count) last) (le-leb logs_base first (omega arith))
    (le-leb (first + count) last (omega (arith, rows, inside, short))))

made : (w : World) (address count : ℕ) (o : Outcome) → in_range w.log (length w.harts) address count ≡ true → aligned address count ≡ true → Goes o →
    Goes (access w address count o)
made w address count o inside whole goes =
    subst Goes (sym (cond-true (in_range w.log (length w.harts) address count) _ _ inside ∙ cond-true (aligned address count) _ _ whole)) goes

drains : (w : World) (h : ℕ) (hart : Hart) (queue : List Entry) → Goes (drain_one w h hart queue)
unfolding Goes
drains w h hart [] = inr refl
drains w h hart (e ∷ es) = inr refl

fences : (w : World) (h : ℕ) (hart : Hart) (queue : List Entry) → Goes (fenced w h hart queue)
unfolding Goes
fences w h hart [] = inl refl
fences w h hart (e ∷ es) = inr refl

effect_goes : (w : World) (h : ℕ) (hart : Hart) (effect : Effect) → slice_get w.harts h ≡ Some hart → IsLogEffect w.log h effect →
    Goes (applied w h hart effect)
unfolding Goes
effect_goes w h hart effect here (StoresWord i value below is) =
    subst (λ (e : Effect). Goes (applied w h hart e)) (sym is)
    (made w (log_of w.log h + 8 * i) 8 _ (log_in_range w.log (length w.harts) h i 8 (there_below w.harts h hart here) below (omega arith))
    (eq-eqb ((log_of w.log h + 8 * i) % 8) 0 (omega arith)) (inl refl))
effect_goes w h hart effect here (CleansLine i below is) =
    subst (λ (e : Effect). Goes (applied w h hart e)) (sym is)
    (made w (log_of w.log h + 8 * i) 1 _ (log_in_range w.log (length w.harts) h i 1 (there_below w.harts h hart here) below (omega arith))
    (eq-eqb ((log_of w.log h + 8 * i) % 1) 0 (omega arith))
    (cond_both (nat_lt (length hart.queue) 16) _ _ Goes (λ _. inl refl) (λ _. drains w h hart hart.queue)))
effect_goes w h hart effect here (PassesFence is) = subst (λ (e : Effect). Goes (applied w h hart e)) (sym is) (fences w h hart hart.queue)

pub log_effects_go : LogEffectsGo
unfolding happens Goes
log_effects_go program w h hart effect next is =
    let p : Goes (hart_step program w h hart) = executes_effect program h w hart effect Goes next.is (effect_goes w h hart effect next.here is) in
    let r : Goes (phase_step program w h hart hart.phase) = runs_step program h w hart effect Goes hart.phase next.runs p in
    subst (λ (x : Option Hart). Goes (stepped program w h x)) (sym next.here) r

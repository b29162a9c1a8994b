-- What a step of a hart does that stands on a run.
use Rattle.std.proofs.Common.{◌≡◌, ◌⊎◌, inl, inr, ℕ, suc, ◌/◌, ◌%◌, ◌≤◌, List, [], ◌∷◌, ◌++◌, length}
use Rattle.std.proofs.Common.{refl, ap, arith, sym, ◌∙◌, subst, set, Bool, true, Option, Some, None}
use Rattle.std.specs.Prelude.{slice_get, nat_lt, ◌==◌, if◌then◌else◌}
use Rattle.std.specs.Option.{option_map}
use Rattle.std.proofs.lemmas.Bool.{and_parts, cond_both, ltb-true, ltb-false}
use Rattle.std.proofs.Math.ListN.{length-set}
use Rattle.log_schemes.specs.declared.log.Log.{Log}
use Rattle.machine_events.specs.declared.event.Event.TheVariants.{Step}
use Rattle.machine_events.specs.declared.event.Reply.TheVariants.{Moved, Drained}
use Rattle.machine_events.specs.declared.event.Cause.TheVariants.{Outside, Unaligned}
use Rattle.ido_base.specs.Words.{Word, Entry, stored, entry_of, drained}
use Rattle.ido_base.specs.Layout.{aligned, byte_number}
use Rattle.log_schemes.specs.Layout.{in_range}
use Rattle.rv64_isa.specs.declared.object.Slot.{Slot}
use Rattle.rv64_isa.specs.Rows.{Effect, Continues, Loads, Stores, Cleans, Fences, Calls, row, next, written, load_result}
use Rattle.machine_model.specs.Machine.{Hart, World, Outcome, moved, stuck, with_hart, access, applied}
use Rattle.machine_model.specs.Machine.{fenced, cleaned, drain_one, gone_on, happens, after_event}
use Rattle.machine_model.proofs.Public.{get-set_same}
use Rattle.code_runs.specs.ComputingRuns.{LocalConfig, config}
use Rattle.code_runs.specs.CodeTraces.{MarkedEnvironment, Observation, Mark, Does, outside, marked, passed, IsTraceStep}
use Rattle.hart_runs.specs.HartsOnRuns.{is_access, is_width, LoadGives, Agrees, may_go, MayGo, IsOnTrace, OnRun}
use Rattle.hart_runs.specs.RunSteps.{Contents, Changes, IsHeldUp, GoesForward, Drains}
use Rattle.hart_runs.proofs.Worlds.{some_same, same_there, none_some, if_true, not_over, runs_as, effect_is}

-- ---- Accesses

access_is : (w : World) (address bytes : ℕ) (o : Outcome) → in_range w.log (length w.harts) address bytes ≡ true → aligned address bytes ≡ true →
    access w address bytes o ≡ o
access_is w address bytes o inside is_aligned =
    if_true (in_range w.log (length w.harts) address bytes) (if aligned address bytes then o else stuck w (Unaligned address))
    (stuck w (Outside address)) inside
    ∙ if_true (aligned address bytes) o (stuck w (Unaligned address)) is_aligned

access_parts : (log : Log) (threads address bytes : ℕ) → is_access log threads address bytes ≡ true →
    (in_range log threads address bytes ≡ true) × (aligned address bytes ≡ true)
access_parts log threads address bytes h = and_parts _ _ (and_parts (is_width bytes) _ h).1

pub may_access : (w : World) (address bytes : ℕ) (o : Outcome) → is_access w.log (length w.harts) address bytes ≡ true → access w address bytes o ≡ o
may_access w address bytes o h = let p = access_parts w.log (length w.harts) address bytes h in access_is w address bytes o p.0 p.1

one_aligned : (address : ℕ) → aligned address 1 ≡ true
one_aligned address = let e : address % 1 ≡ 0 = omega arith in ap (λ (n : ℕ). n == 0) e

-- ---- What goes to memory

pub may_left : (log : Log) (threads : ℕ) (first later : List Observation) → MayGo log threads (first ++ later) → MayGo log threads first
may_left log threads [] later h = tt
may_left log threads (Mark ∷ first) later h = may_left log threads first later h
may_left log threads (Does e ∷ first) later h = (h.0, may_left log threads first later h.1)

pub may_right : (log : Log) (threads : ℕ) (first later : List Observation) → MayGo log threads (first ++ later) → MayGo log threads later
may_right log threads [] later h = h
may_right log threads (Mark ∷ first) later h = may_right log threads first later h
may_right log threads (Does e ∷ first) later h = may_right log threads first later h.1

pub may_both : (log : Log) (threads : ℕ) (first later : List Observation) → MayGo log threads first → MayGo log threads later →
    MayGo log threads (first ++ later)
may_both log threads [] later h k = k
may_both log threads (Mark ∷ first) later h k = may_both log threads first later h k
may_both log threads (Does e ∷ first) later h k = (h.0, may_both log threads first later h.1 k)

seen_may : (log : Log) (threads : ℕ) (e : Effect) → MayGo log threads (outside e) → may_go log threads e ≡ true
seen_may log threads (Continues registers pc) h = refl
seen_may log threads (Loads address bytes signed register) h = refl
seen_may log threads (Stores address bytes value) h = h.0
seen_may log threads (Cleans address) h = h.0
seen_may log threads Fences h = refl
seen_may log threads Calls h = refl

-- ---- By the effect of the next instruction

record Completes (w : World) (h : ℕ) (hart : Hart) (by : LocalConfig) (effect : Effect) (o : Outcome) : Type 0 where
  contents : Contents
  changes : Changes (record { words = w.words; queue = hart.queue }) effect contents
  is : o ≡ (with_hart (record w { words = contents.words }) h (record hart { registers = by.registers; pc = by.pc; queue = contents.queue }), Moved)

record WritesBack (w : World) (h : ℕ) (hart : Hart) (effect : Effect) (o : Outcome) : Type 0 where
  held_up : IsHeldUp hart.queue effect
  entry : Entry
  rest : List Entry
  queue_is : hart.queue ≡ entry ∷ rest
  is : o ≡ (with_hart (record w { words = drained w.words entry }) h (record hart { queue = rest }), Drained)

module _ (program : List (List Slot)) (w : World) (h : ℕ) (s : MarkedEnvironment) (agrees : Agrees program w h s) (hart : Hart) (by : LocalConfig) where
  abbrev One : Effect → Outcome → Type 0
  One e o = Completes w h hart by e o ⊎ WritesBack w h hart e o

  -- nothing but the hart changes
  alone : (registers : List ℕ) (pc : ℕ) → config registers pc ≡ by →
      moved w h (record hart { registers = registers; pc = pc }) ≡
      (with_hart (record w { words = w.words }) h (record hart { registers = by.registers; pc = by.pc; queue = hart.queue }), Moved)
  alone registers pc e = ap (λ (m : LocalConfig). moved w h (record hart { registers = m.registers; pc = m.pc })) e

  loads_one : (address bytes register : ℕ) (signed : Bool) (o : Option ℕ) → s.around.loads address bytes ≡ o →
      option_map (λ (value : ℕ). config (written hart.registers register (load_result bytes signed value)) (next hart.pc)) o ≡ Some by →
      One (Loads address bytes signed register) (applied w h hart (Loads address bytes signed register))
  loads_one address bytes register signed None e p = absurd (none_some by p)
  loads_one address bytes register signed (Some value) e p =
      let g : LoadGives w address bytes value = agrees.loads address bytes value e in
      let to : config (written hart.registers register (load_result bytes signed value)) (next hart.pc) ≡ by = some_same _ by p in
      inl (record {
        contents = record { words = w.words; queue = hart.queue };
        changes = refl;
        is = may_access w address bytes _ g.may
            ∙ (ap (λ (v : ℕ). moved w h (record (gone_on hart) { registers = written hart.registers register (load_result bytes signed v) })) g.is
            ∙ alone (written hart.registers register (load_result bytes signed value)) (next hart.pc) to);
      })

  -- an entry is written back
  drains_one : (e : Effect) (queue : List Entry) → hart.queue ≡ queue → 1 ≤ length queue → IsHeldUp hart.queue e →
      WritesBack w h hart e (drain_one w h hart queue)
  drains_one e [] is l held = absurd (let z : ⊥ = omega (arith, l) in z)
  drains_one e (entry ∷ rest) is l held = record { held_up = held; entry = entry; rest = rest; queue_is = is; is = refl }

  fences_one : (queue : List Entry) → hart.queue ≡ queue → config hart.registers (next hart.pc) ≡ by → One Fences (fenced w h hart queue)
  fences_one [] is to = inl (record {
    contents = record { words = w.words; queue = hart.queue };
    changes = (is, refl);
    is = alone hart.registers (next hart.pc) to;
  })
  fences_one (entry ∷ rest) is to =
      let longer : 1 ≤ length hart.queue = subst (λ (q : List Entry). 1 ≤ length q) (sym is) (omega arith) in
      inr (drains_one Fences (entry ∷ rest) is (omega arith) longer)

  cleans_one : (address : ℕ) → config hart.registers (next hart.pc) ≡ by → One (Cleans address) (cleaned w h hart (byte_number address / 64))
  cleans_one address to =
      cond_both (nat_lt (length hart.queue) 16) _ _ (λ (o : Outcome). One (Cleans address) o)
      (λ e. inl (record {
        contents = record { words = w.words; queue = hart.queue ++ entry_of w.words (byte_number address / 64) ∷ [] };
        changes = (ltb-true _ _ e, refl);
        is = ap (λ (m : LocalConfig). moved w h (record hart {
          registers = m.registers;
          pc = m.pc;
          queue =
              hart.queue ++ entry_of w.words (byte_number address / 64) ∷ [];
        })) to;
      }))
      (λ e. let full : 16 ≤ length hart.queue = ltb-false _ _ e in inr (drains_one (Cleans address) hart.queue refl (omega (arith, full)) full))

  by_effect : (e : Effect) → passed s.around (config hart.registers hart.pc) e ≡ Some by → may_go w.log (length w.harts) e ≡ true → One e (applied w h hart e)
  by_effect (Continues registers pc) p may = inl (record {
    contents = record { words = w.words; queue = hart.queue };
    changes = refl;
    is = alone registers pc (some_same _ by p);
  })
  by_effect (Loads address bytes signed register) p may = loads_one address bytes register signed (s.around.loads address bytes) refl p
  by_effect (Stores address bytes value) p may =
      let to : config hart.registers (next hart.pc) ≡ by = some_same _ by p in
      inl (record {
        contents = record { words = stored w.words (byte_number address) bytes value; queue = hart.queue };
        changes = refl;
        is = may_access w address bytes _ may
            ∙ ap (λ (m : LocalConfig). moved (record w { words = stored w.words (byte_number address) bytes value }) h
            (record hart { registers = m.registers; pc = m.pc })) to;
      })
  by_effect (Cleans address) p may =
      subst (λ (o : Outcome). One (Cleans address) o) (sym (access_is w address 1 (cleaned w h hart (byte_number address / 64)) may (one_aligned address)))
      (cleans_one address (some_same _ by p))
  by_effect Fences p may = fences_one hart.queue refl (some_same _ by p)
  by_effect Calls p may = absurd (none_some by p)

-- ---- The step

module _ (program : List (List Slot)) (w : World) (h : ℕ) (run : OnRun w h) (agrees : Agrees program w h run.environment) where
  abbrev hart : Hart
  hart = run.on.hart

  -- the first instruction of the run
  passes : IsTraceStep run.environment (config hart.registers hart.pc) run.on.walks.1 run.on.walks.0
  passes = run.on.walks.3

  abbrev effect : Effect
  effect = row run.on.walks.3.instr hart.registers hart.pc

  seen_is : run.seen ≡ (marked run.environment.marks hart.pc ++ outside effect) ++ run.on.walks.2
  seen_is = run.on.walks.5 ∙ ap (λ (x : List Observation). x ++ run.on.walks.2) run.on.walks.3.sees

  may_all : MayGo w.log (length w.harts) ((marked run.environment.marks hart.pc ++ outside effect) ++ run.on.walks.2)
  may_all = subst (λ (x : List Observation). MayGo w.log (length w.harts) x) seen_is run.on.may

  -- the hart is there after the step
  there : (ws : List Word) (after : Hart) → slice_get (set w.harts h after) h ≡ Some after
  there ws after = get-set_same w.harts h after hart run.on.here

  -- which hart is there after a step
  hart_after : (o : Outcome) (after : Hart) → happens program w (Step h) ≡ o → slice_get o.0.harts h ≡ Some after →
      slice_get (after_event program w (Step h)).harts h ≡ Some after
  hart_after o after does e = ap (λ (x : Outcome). slice_get x.0.harts h) does ∙ e

  goes_forward : Completes w h hart run.on.walks.0 effect (applied w h hart effect) → GoesForward program w h run
  goes_forward c =
      let after : Hart = record hart { registers = run.on.walks.0.registers; pc = run.on.walks.0.pc; queue = c.contents.queue } in
      let v : World = with_hart (record w { words = c.contents.words }) h after in
      let none = not_over w (applied w h hart effect).0 h (ap (λ (o : Outcome). o.0.holders) c.is) in
      let does : happens program w (Step h) ≡ (v, Moved) =
      runs_as program w h hart run.on.here run.on.runs run.on.walks.3.instr (agrees.fetches hart.pc run.on.walks.3.instr run.on.walks.3.stands) none ∙ c.is in
      let stands : IsOnTrace v h run.environment run.steps run.on.walks.2 run.to = record {
        hart = after;
        here = there c.contents.words after;
        runs = run.on.runs;
        walks = run.on.walks.4;
        may = subst (λ (n : ℕ). MayGo w.log n run.on.walks.2) (sym (length-set w.harts h after))
            (may_right w.log (length w.harts) (marked run.environment.marks hart.pc ++ outside effect) run.on.walks.2 may_all);
      } in
      let moved_on : IsOnTrace (after_event program w (Step h)) h run.environment run.steps run.on.walks.2 run.to =
      subst (λ (o : Outcome). IsOnTrace o.0 h run.environment run.steps run.on.walks.2 run.to) (sym does) stands in
      record {
        effect = effect;
        effect_is = effect_is program w h hart run.on.here run.on.runs run.on.walks.3.instr (agrees.fetches hart.pc run.on.walks.3.instr run.on.walks.3.stands);
        later = run.on.walks.2;
        seen_is = seen_is;
        by = run.on.walks.0;
        leads = run.on.walks.3.does;
        contents = c.contents;
        changes = c.changes;
        world = ap (λ (o : Outcome). o.0) does;
        reply = ap (λ (o : Outcome). o.1) does;
        on = moved_on;
        same = same_there (slice_get (after_event program w (Step h)).harts h) moved_on.hart after moved_on.here
            (hart_after (v, Moved) after does (there c.contents.words after));
      }

  drains : WritesBack w h hart effect (applied w h hart effect) → Drains program w h run
  drains c =
      let after : Hart = record hart { queue = c.rest } in
      let v : World = with_hart (record w { words = drained w.words c.entry }) h after in
      let none = not_over w (applied w h hart effect).0 h (ap (λ (o : Outcome). o.0.holders) c.is) in
      let does : happens program w (Step h) ≡ (v, Drained) =
      runs_as program w h hart run.on.here run.on.runs run.on.walks.3.instr (agrees.fetches hart.pc run.on.walks.3.instr run.on.walks.3.stands) none ∙ c.is in
      let stands : IsOnTrace v h run.environment (suc run.steps) run.seen run.to = record {
        hart = after;
        here = there (drained w.words c.entry) after;
        runs = run.on.runs;
        walks = run.on.walks;
        may = subst (λ (n : ℕ). MayGo w.log n run.seen) (sym (length-set w.harts h after)) run.on.may;
      } in
      let stays_on : IsOnTrace (after_event program w (Step h)) h run.environment (suc run.steps) run.seen run.to =
      subst (λ (o : Outcome). IsOnTrace o.0 h run.environment (suc run.steps) run.seen run.to) (sym does) stands in
      record {
        effect = effect;
        effect_is = effect_is program w h hart run.on.here run.on.runs run.on.walks.3.instr (agrees.fetches hart.pc run.on.walks.3.instr run.on.walks.3.stands);
        held_up = c.held_up;
        entry = c.entry;
        rest = c.rest;
        queue_is = c.queue_is;
        world = ap (λ (o : Outcome). o.0) does;
        reply = ap (λ (o : Outcome). o.1) does;
        on = stays_on;
        same = same_there (slice_get (after_event program w (Step h)).harts h) stays_on.hart after stays_on.here
            (hart_after (v, Drained) after does (there (drained w.words c.entry) after));
      }

  one_step : GoesForward program w h run ⊎ Drains program w h run
  one_step = by (by_effect program w h run.environment agrees hart run.on.walks.0 effect run.on.walks.3.does
      (seen_may w.log (length w.harts) effect (may_right w.log (length w.harts) (marked run.environment.marks hart.pc) (outside effect)
      (may_left w.log (length w.harts) (marked run.environment.marks hart.pc ++ outside effect) run.on.walks.2 may_all))))
    where
      by : Completes w h hart run.on.walks.0 effect (applied w h hart effect) ⊎ WritesBack w h hart effect (applied w h hart effect) →
          GoesForward program w h run ⊎ Drains program w h run
      by (inl c) = inl (goes_forward c)
      by (inr c) = inr (drains c)

pub steps_go_on : (program : List (List Slot)) (w : World) (h : ℕ) (run : OnRun w h) → Agrees program w h run.environment →
    GoesForward program w h run ⊎ Drains program w h run
steps_go_on program w h run agrees = one_step program w h run agrees

-- what a step that goes forward does to memory, it may do
pub may_next : (program : List (List Slot)) (w : World) (h : ℕ) (run : OnRun w h) → (f : GoesForward program w h run) →
    may_go w.log (length w.harts) f.effect ≡ true
may_next program w h run f =
    let first : List Observation = marked run.environment.marks run.on.hart.pc in
    let all : MayGo w.log (length w.harts) ((first ++ outside f.effect) ++ f.later) =
    subst (λ (x : List Observation). MayGo w.log (length w.harts) x) f.seen_is run.on.may in
    seen_may w.log (length w.harts) f.effect
    (may_right w.log (length w.harts) first (outside f.effect) (may_left w.log (length w.harts) (first ++ outside f.effect) f.later all))

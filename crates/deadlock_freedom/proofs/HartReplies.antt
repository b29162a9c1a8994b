-- Which hart waits: one that executes instructions and is at a call for a lock that a hart holds. A step leaves its hart on, or holding nothing.
use Rattle.std.proofs.Common.{◌≡◌, ◌≢◌, ◌⊎◌, inl, inr, refl, ℕ, suc, ◌+◌, List, [], ◌∷◌, length, ap, sym, ◌∙◌, subst, cond, Bool, true, false}
use Rattle.std.proofs.Common.{Option, Some, None}
use Rattle.std.specs.Prelude.{slice_get, is_none, nat_lt, ◌==◌}
use Rattle.std.proofs.lemmas.Bool.{cond_both, eqb-true, and_parts}
use Rattle.machine_events.specs.declared.event.Event.TheVariants.{Step}
use Rattle.machine_events.specs.declared.event.Reply.{Reply}
use Rattle.machine_events.specs.declared.event.Reply.TheVariants.{Moved, Drained, Still}
use Rattle.ido_base.specs.Words.{Entry, drained, stored}
use Rattle.machine_events.specs.Cores.{is_idle}
use Rattle.ido_base.specs.Layout.{aligned, byte_number}
use Rattle.log_schemes.specs.Layout.{in_range}
use Rattle.ido_base.specs.Locks.{is_held_by, least_held, holds_none}
use Rattle.rv64_isa.specs.declared.instr.Instr.{Instr}
use Rattle.rv64_isa.specs.declared.instr.Instr.TheVariants as instr
use Rattle.rv64_isa.specs.declared.object.Slot.{Slot}
use Rattle.rv64_isa.specs.declared.object.Slot.TheVariants.{Row, NoRow}
use Rattle.machine_model.specs.declared.phase.Phase.{Phase}
use Rattle.machine_model.specs.declared.phase.Phase.TheVariants.{Take, Wait, Resume, Run, Done, Ended}
use Rattle.rv64_isa.specs.Rows.{Effect, Continues, Loads, Stores, Cleans, Fences, Calls, row, read}
use Rattle.rv64_isa.specs.Programs.{fetched}
use Rattle.machine_model.specs.Machine.{Hart, World, Outcome, with_hart, with_holder, gone_on, drain_one, access, cleaned, fenced, acquired, released}
use Rattle.machine_model.specs.Machine.{ended, called, applied, executed, hart_step, over_after, done_if_over, run_step, phase_step, stepped, happens}
use Rattle.machine_model.specs.Machine.{waited, taking_from, is_taking}
use Rattle.machine_model.proofs.Public.{get-set_same}

-- the hart goes on
pub record HasNotStopped (hart : Hart) : Type 0 where
  pub not_ended : hart.phase ≢ Ended
  pub not_done : hart.phase ≢ Done

pub has_not_stopped : (hart : Hart) (phase : Phase) → hart.phase ≡ phase → phase ≢ Ended → phase ≢ Done → HasNotStopped hart
has_not_stopped hart phase is a b = record { not_ended = λ e. a (sym is ∙ e); not_done = λ e. b (sym is ∙ e) }

pub run_goes_on : (hart : Hart) → hart.phase ≡ Run → HasNotStopped hart
run_goes_on hart is = has_not_stopped hart Run is (λ e. cc) (λ e. cc)

-- the hart is at a call for a lock, and a hart holds it
pub record IsKeptFrom (w : World) (hart : Hart) : Type 0 where
  pub asks : read hart.registers 17 ≡ 1
  pub holder : ℕ
  pub held : slice_get w.holders (read hart.registers 10) ≡ Some (Some holder)

-- what a step of the hart leads to: where it idles it waits for a lock, and that only at what makes it call; and it leaves the hart on, or holding nothing
pub record Leads (w : World) (h : ℕ) (hart : Hart) (calling : Type 0) (o : Outcome) : Type 0 where
  pub idles : is_idle o.1 ≡ true → calling × IsKeptFrom w hart
  pub after : Hart
  pub there : slice_get o.0.harts h ≡ Some after
  pub on : HasNotStopped after ⊎ (holds_none o.0.holders h ≡ true)

none_holds : (o : Option ℕ) → o ≡ None → is_none o ≡ true
none_holds o e = ap is_none e

module _ (w : World) (h : ℕ) (hart : Hart) (here : slice_get w.harts h ≡ Some hart) (runs : hart.phase ≡ Run) (C : Type 0) where
  -- one that neither moves nor waits
  stays : (r : Reply) → is_idle r ≡ false → Leads w h hart C (w, r)
  stays r busy = record { idles = λ e. absurd (let z : true ≡ false = sym e ∙ busy in cc); after = hart; there = here; on = inl (run_goes_on hart runs) }

  goes : (v : World) (after : Hart) (r : Reply) → v.harts ≡ w.harts → after.phase ≡ Run → is_idle r ≡ false → Leads w h hart C (with_hart v h after, r)
  goes v after r same is busy = record {
    idles = λ e. absurd (let z : true ≡ false = sym e ∙ busy in cc);
    after = after;
    there = get-set_same v.harts h after hart (ap (λ (hs : List Hart). slice_get hs h) same ∙ here);
    on = inl (run_goes_on after is);
  }

  drains : (queue : List Entry) → Leads w h hart C (drain_one w h hart queue)
  drains [] = stays Drained refl
  drains (e ∷ es) = goes (record w { words = drained w.words e }) (record hart { queue = es }) Drained refl runs refl

  fences : (queue : List Entry) → Leads w h hart C (fenced w h hart queue)
  fences [] = goes w (gone_on hart) Moved refl runs refl
  fences (e ∷ es) = drains (e ∷ es)

  accesses : (address bytes : ℕ) (o : Outcome) → Leads w h hart C o → Leads w h hart C (access w address bytes o)
  accesses address bytes o leads =
      cond_both (in_range w.log (length w.harts) address bytes) _ _ (λ (x : Outcome). Leads w h hart C x)
      (λ _. cond_both (aligned address bytes) _ _ (λ (x : Outcome). Leads w h hart C x) (λ _. leads) (λ _. stays _ refl))
      (λ _. stays _ refl)

  cleans : (line : ℕ) → Leads w h hart C (cleaned w h hart line)
  cleans line =
      cond_both (nat_lt _ _) _ _ (λ (x : Outcome). Leads w h hart C x) (λ _. goes w _ Moved refl runs refl) (λ _. drains hart.queue)

  -- ---- Calls

  module _ (at : C) where
    acquires : (number : ℕ) → read hart.registers 17 ≡ 1 → (holder : Option (Option ℕ)) → slice_get w.holders (read hart.registers 10) ≡ holder →
        Leads w h hart C (acquired w h hart (read hart.registers 10) holder)
    acquires number one None e = stays _ refl
    acquires number one (Some None) e = goes (with_holder w (read hart.registers 10) (Some h)) (gone_on hart) Moved refl runs refl
    acquires number one (Some (Some g)) e = record {
      idles = λ _. (at, record { asks = one; holder = g; held = e });
      after = hart;
      there = here;
      on = inl (run_goes_on hart runs);
    }

    releases : (lock : ℕ) (holder : Option (Option ℕ)) → Leads w h hart C (released w h hart lock holder)
    releases lock None = stays _ refl
    releases lock (Some holder) =
        cond_both (is_held_by h holder) _ _ (λ (x : Outcome). Leads w h hart C x) (λ _. goes (with_holder w lock None) (gone_on hart) Moved refl runs refl)
        (λ _. stays _ refl)

    ends : (held : Option ℕ) → least_held w.holders h ≡ held → Leads w h hart C (ended w h hart held)
    ends None e = record {
      idles = λ idle. absurd (let z : false ≡ true = idle in cc);
      after = record (gone_on hart) { phase = Ended };
      there = get-set_same w.harts h (record (gone_on hart) { phase = Ended }) hart here;
      on = inr (none_holds (least_held w.holders h) e);
    }
    ends (Some lock) e = stays _ refl

    calls : (number : ℕ) → read hart.registers 17 ≡ number → Leads w h hart C (called w h hart number (read hart.registers 10))
    calls number is =
        cond_both (number == 1) _ _ (λ (x : Outcome). Leads w h hart C x)
        (λ one. acquires number (is ∙ eqb-true number 1 one) (slice_get w.holders (read hart.registers 10)) refl)
        (λ _. cond_both (number == 2) _ _ (λ (x : Outcome). Leads w h hart C x)
        (λ _. releases (read hart.registers 10) (slice_get w.holders (read hart.registers 10)))
        (λ _. cond_both (number == 3) _ _ (λ (x : Outcome). Leads w h hart C x) (λ _. ends (least_held w.holders h) refl) (λ _. stays _ refl)))

module _ (w : World) (h : ℕ) (hart : Hart) (here : slice_get w.harts h ≡ Some hart) (runs : hart.phase ≡ Run) where
  applies : (effect : Effect) → Leads w h hart (effect ≡ Calls) (applied w h hart effect)
  applies (Continues registers pc) = goes w h hart here runs _ w (record hart { registers = registers; pc = pc }) Moved refl runs refl
  applies (Loads address bytes signed register) = accesses w h hart here runs _ address bytes _ (goes w h hart here runs _ w _ Moved refl runs refl)
  applies (Stores address bytes value) = accesses w h hart here runs _ address bytes _
      (goes w h hart here runs _ (record w { words = stored w.words (byte_number address) bytes value }) (gone_on hart) Moved refl runs refl)
  applies (Cleans address) = accesses w h hart here runs _ address 1 _ (cleans w h hart here runs _ _)
  applies Fences = fences w h hart here runs _ hart.queue
  applies Calls = calls w h hart here runs (Calls ≡ Calls) refl (read hart.registers 17) refl

  -- an ECALL is what calls
  row_calls : (x : Instr) → row x hart.registers hart.pc ≡ Calls → x ≡ instr.Ecall
  unfolding row
  row_calls (instr.Lui rd immediate) e = cc
  row_calls (instr.Auipc rd immediate) e = cc
  row_calls (instr.Jal rd offset) e = cc
  row_calls (instr.Jalr rd rs1 offset) e = cc
  row_calls (instr.Branch condition rs1 rs2 offset) e = cc
  row_calls (instr.Load kind rd rs1 offset) e = cc
  row_calls (instr.Store kind rs2 rs1 offset) e = cc
  row_calls (instr.OpImmediate operation rd rs1 immediate) e = cc
  row_calls (instr.ShiftImmediate operation rd rs1 count) e = cc
  row_calls (instr.ShiftImmediateWord operation rd rs1 count) e = cc
  row_calls (instr.Op operation rd rs1 rs2) e = cc
  row_calls (instr.CboClean rs1) e = cc
  row_calls instr.Fence e = cc
  row_calls instr.Ecall e = refl

  executes : (slot : Option Slot) → Leads w h hart (slot ≡ Some (Row instr.Ecall)) (executed w h hart slot)
  executes None = stays w h hart here runs _ _ refl
  executes (Some (NoRow word)) = stays w h hart here runs _ _ refl
  executes (Some (Row x)) =
      let a = applies (row x hart.registers hart.pc) in
      record {
        idles = λ e. let i = a.idles e in (ap (λ (y : Instr). Some (Row y)) (row_calls x i.0), i.1);
        after = a.after;
        there = a.there;
        on = a.on;
      }

  -- in recovery the last release makes it done, and then it holds nothing
  settles : (C : Type 0) (o : Outcome) → Leads w h hart C o → Leads w h hart C (done_if_over w h (slice_get o.0.harts h) o.0, o.1)
  settles C o leads =
      subst (λ (x : Option Hart). Leads w h hart C (done_if_over w h x o.0, o.1)) (sym leads.there)
      (cond_both (over_after w o.0 h) (with_hart o.0 h (record leads.after { phase = Done })) o.0 (λ (v : World). Leads w h hart C (v, o.1))
      (λ over. record {
        idles = leads.idles;
        after = record leads.after { phase = Done };
        there = get-set_same o.0.harts h (record leads.after { phase = Done }) leads.after leads.there;
        on = inr (and_parts _ _ (and_parts _ _ over).1).1;
      })
      (λ _. leads))

  pub run_leads : (program : List (List Slot)) → Leads w h hart (fetched program h hart.pc ≡ Some (Row instr.Ecall)) (run_step program w h hart)
  run_leads program = settles _ (hart_step program w h hart) (executes (fetched program h hart.pc))

-- ---- A step by the hart's phase

pub by_phase : (program : List (List Slot)) (w : World) (h : ℕ) (hart : Hart) → slice_get w.harts h ≡ Some hart → (phase : Phase) → hart.phase ≡ phase →
    happens program w (Step h) ≡ phase_step program w h hart phase
unfolding happens
by_phase program w h hart here phase is = ap (stepped program w h) here ∙ ap (phase_step program w h hart) is

pub none_there : (program : List (List Slot)) (w : World) (h : ℕ) → slice_get w.harts h ≡ None → happens program w (Step h) ≡ (w, Still)
unfolding happens
none_there program w h missing = ap (stepped program w h) missing

-- ---- The others wait at a barrier only while one takes locks

is_take : (p : Phase) → is_taking p ≡ true → p ≡ Take
is_take Take e = refl
is_take Wait e = absurd (let no : false ≡ true = e in cc)
is_take Resume e = absurd (let no : false ≡ true = e in cc)
is_take Run e = absurd (let no : false ≡ true = e in cc)
is_take Done e = absurd (let no : false ≡ true = e in cc)
is_take Ended e = absurd (let no : false ≡ true = e in cc)

pub record TakesThere (harts : List Hart) : Type 0 where
  pub number : ℕ
  pub hart : Hart
  pub there : slice_get harts number ≡ Some hart
  pub takes : hart.phase ≡ Take

taking_first : (at : ℕ) (x : Hart) (harts : List Hart) (g : ℕ) (b : Bool) → is_taking x.phase ≡ b → taking_from at (x ∷ harts) ≡ Some g →
    (taking_from (at + 1) harts ≡ Some g → TakesThere harts) → TakesThere (x ∷ harts)
taking_first at x harts g true is e others = record { number = 0; hart = x; there = refl; takes = is_take x.phase is }
taking_first at x harts g false is e others =
    let more = others (sym (ap (λ (b : Bool). cond b (Some at) (taking_from (at + 1) harts)) is) ∙ e) in
    record { number = suc more.number; hart = more.hart; there = more.there; takes = more.takes }

taking : (at : ℕ) (harts : List Hart) (g : ℕ) → taking_from at harts ≡ Some g → TakesThere harts
taking at [] g e = absurd (cc)
taking at (x ∷ harts) g e = taking_first at x harts g (is_taking x.phase) refl e (λ found. taking (at + 1) harts g found)

-- where a hart idles that has taken its locks, one still takes locks
pub waits_for_takers : (w : World) (h : ℕ) (hart : Hart) → is_idle (waited w h hart (taking_from 0 w.harts)).1 ≡ true → TakesThere w.harts
waits_for_takers w h hart e = by_found (taking_from 0 w.harts) refl
  where
    by_found : (o : Option ℕ) → taking_from 0 w.harts ≡ o → TakesThere w.harts
    by_found None is = absurd (let no : false ≡ true = sym (ap (λ (o : Option ℕ). is_idle (waited w h hart o).1) is) ∙ e in cc)
    by_found (Some g) is = taking 0 w.harts g is

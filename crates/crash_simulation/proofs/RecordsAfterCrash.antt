-- What a crash would leave describes the kept state.
use Rattle.crash_simulation.proofs.Common.{DescribesAs}
use Rattle.crash_simulation.proofs.Common.{◌≡◌, ℕ, List, sym, ◌∙◌, ap, subst, true, Option, ◌<◌, [], Bool, if◌then◌else◌, map, holds_none, State, World}
use Rattle.crash_simulation.proofs.Common.{durable_point, Memory, durable_number, between_is_kept, LogInv, Record, config_of, LogConfig, left_by_crash}
use Rattle.crash_simulation.proofs.Common.{log_facts, ends_committed, Code, AllDescribe, points_settle, AbstractRun, kept_of, SettledIsKept}
use Rattle.crash_simulation.proofs.Common.{Simulates, System, IsSystem, thread_count, flat_of, ThreadGhost, ThreadInv, HasCommittedLog, record_kept}
use Rattle.crash_simulation.proofs.StatesMatchSource.{free_holds_none, resumed, kept_matches, orderly}

module _ (y : System) (w : World) (b : AbstractRun y) (code : Code y.plan) (c : ThreadGhost) where
  -- of a thread with no boundary under way all that is committed is taken so where its last boundary is, and only there
  pub over_is_caught : (t : ThreadInv y w b code c) → c.rest ≡ [] → c.committed ≡ true → HasCommittedLog y w b code c t
  over_is_caught t over is = ends_committed w.log code.thread.number c.old c.new (config_of w t.log.hart c.rest) t.log.log over ∙ sym is

  pub caught_is_over : (t : ThreadInv y w b code c) → c.rest ≡ [] → HasCommittedLog y w b code c t → c.committed ≡ true
  caught_is_over t over caught = sym caught ∙ ends_committed w.log code.thread.number c.old c.new (config_of w t.log.hart c.rest) t.log.log over

module _ (y : System) (s : IsSystem y) (w : World) (stands : Simulates y s w) where
  -- the log as it is seen from memory alone
  abbrev seen : ThreadGhost → LogConfig
  seen c = record { words = w.words; queue = []; rest = c.rest }

  abbrev pub left : ℕ → Record
  left n = left_by_crash w.log n (stands.ghosts n).old (stands.ghosts n).new (seen (stands.ghosts n))

  pub log_of : (n : ℕ) → n < thread_count y → LogInv n (stands.ghosts n).old (stands.ghosts n).new w (stands.ghosts n).rest
  log_of n below =
      subst (λ (k : ℕ). LogInv k (stands.ghosts n).old (stands.ghosts n).new w (stands.ghosts n).rest) (s.codes.number n below)
      (stands.each n below).log

  -- the records that are kept
  pub left_kept : (n : ℕ) → n < thread_count y → left n ≡ record_kept (stands.ghosts n)
  left_kept n below =
      let c = stands.ghosts n in
      ap (λ (k : ℕ). left_by_crash w.log k c.old c.new (seen c)) (sym (s.codes.number n below))
      ∙ ap (λ (done : Bool). if done then c.new else c.old) (stands.caught_up n below (λ e. e))

  -- whether their threads are late
  abbrev pub lates : ℕ → Bool
  lates n = (stands.ghosts n).late

  pub left_describes : AllDescribe y.plan s.codes (kept_of y stands.abstract) lates left
  left_describes n below =
      subst (DescribesAs y.plan (s.codes.each n below) (kept_of y stands.abstract) (lates n)) (sym (left_kept n below)) (stands.each n below).records.describes

  pub left_point : (n : ℕ) → n < thread_count y → durable_point w.log w.words n ≡ (left n).point
  left_point n below =
      let c = stands.ghosts n in
      log_facts.record_follows_locks.point w.log n c.old c.new (record { words = w.words; queue = (log_of n below).hart.queue; rest = c.rest })
      (log_of n below).log

-- ---- Where all points are 0, durable memory has what is kept

-- all threads stand between sections in what is kept
pub between_there : (y : System) (s : IsSystem y) (w : World) (stands : Simulates y s w) →
    ((n : ℕ) → n < thread_count y → durable_point w.log w.words n ≡ 0) → (thread : ℕ) → holds_none stands.abstract.config.kept.holders thread ≡ true
between_there y s w stands zeros thread =
    let b = stands.abstract in
    let free = (points_settle w.log y.plan s.codes (kept_of y b) (lates y s w stands) (left y s w stands) w.words (orderly y s b) (left_describes y s w stands)
    (left_point y s w stands)).0 zeros in
    subst (λ (hs : List (Option ℕ)). holds_none hs thread ≡ true) (kept_matches y s b).holders (free_holds_none thread 0 (kept_of y b).holders free)

pub settled_is_kept : SettledIsKept
settled_is_kept y s w stands zeros =
    let r = resumed y s stands.abstract in
    let durable = between_is_kept (flat_of y) stands.abstract.config r.resumed.invariant (between_there y s w stands zeros) in
    record {
      runs = r.resumed.kept.runs;
      durable = ap (λ (m : Memory). map (map durable_number) m) stands.memory ∙ durable ∙ ap (λ (z : State). z.variables) (sym r.resumed.kept.is);
    }

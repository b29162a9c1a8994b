-- The source's start is where an execution may begin, and so is what another one has left; what is pending where one begins lies where it should.
use Rattle.std.proofs.Common.{◌≡◌, refl, ℕ, zero, suc, List, replicate, sym, ◌∙◌, ap, subst, Some, None, ℤ}
use Rattle.std.specs.Prelude.{All, slice_get}
use Rattle.std.specs.List.{AllZip}
use Rattle.c_tree.specs.Flats as f
use Rattle.c_tree.specs.Source as m
use Rattle.c_tree.specs.LockDiscipline.{IsDisciplined}
use Rattle.c_tree.specs.WellFormed.{IsWellFormed}
use Rattle.c_ranges.specs.RunInvariants.{AreElementsReferring, AreNumbersOf}
use Rattle.c_ranges.proofs.Public.{begins_so}
use Rattle.source_machine.proofs.Public.{start_keeps}
use Rattle.flow_graph.specs.Lowering.{lowered}
use Rattle.flow_graph.specs.Actions.{graph_start, graph_after}
use Rattle.flow_graph.specs.Lockstep.{Matches}
use Rattle.flow_graph.proofs.Public.{Good, at_nodes, begins_lockstep, good_after, good_start, nodes_at}
use Rattle.recovery_semantics.specs.ElementHistories.{AreStable}
use Rattle.recovery_semantics.proofs.Public.{between_is_stable, executions_resume}
use Rattle.region_attempts.specs.Origins.{Origin}
use Rattle.region_attempts.specs.Laws.{FreeAtBoundaries, HoldsNothing, LivesAreOrigins, SettledMayBegin, StartsAreOrigins}
use Rattle.region_attempts.proofs.GraphRuns.{matched_run}
use Rattle.region_attempts.proofs.KnownStarts.{start_known}
use Rattle.source_machine.specs.Lives.{restart}

-- no thread has a mutex that is free
pub all_free : (n k t : ℕ) → slice_get (replicate n None) k ≡ Some (Some t) → ⊥
all_free zero k t h = cc
all_free (suc n) zero t h = cc
all_free (suc n) (suc k) t h = all_free n k t h

pub begins_good : (x : f.Flat) (o : Origin x) → Good x o.flow
begins_good x o = record {
  own = o.own;
  source = o.source;
  matches = o.matches;
  formed = o.formed;
  owes = λ t text graph_thread p there its is.
      let stored = o.pending t text graph_thread p there its is in
      record { node = stored.node; here = nodes_at x graph_thread.at stored.node stored.is; lies = stored.lies };
}

abbrev pub start_origin : (x : f.Flat) → IsWellFormed x → All (IsDisciplined x) x.threads → Origin x
start_origin x w disciplined = record {
  flow = graph_start (lowered x) x;
  source = m.start x;
  matches = begins_lockstep x w;
  keeps = start_keeps x disciplined;
  formed = begins_so x w;
  holders = λ mutex t held. absurd (all_free _ mutex t held);
  own = (good_start x w).own;
  pending = λ t text graph_thread p there its is.
      let owed = (good_start x w).owes t text graph_thread p there its is in
      record { node = owed.node; is = at_nodes x graph_thread.at owed.node owed.here; lies = owed.lies };
  known = start_known x;
}

pub free_at_boundaries : FreeAtBoundaries
free_at_boundaries x b o free t mutex node held at = absurd (free mutex t held)

pub start_free : (x : f.Flat) (w : IsWellFormed x) (disciplined : All (IsDisciplined x) x.threads) → HoldsNothing x (start_origin x w disciplined)
start_free x w disciplined mutex t held = all_free _ mutex t held

pub starts_are_origins : StartsAreOrigins
starts_are_origins x w disciplined = (start_origin x w disciplined, record { flow = refl; source = refl; free = start_free x w disciplined })

-- ---- Another life

module _ (x : f.Flat) (o : Origin x) (schedule : List ℕ) (w : IsWellFormed x) (disciplined : All (IsDisciplined x) x.threads) where
  pub left : Matches x (graph_after (lowered x) o.flow schedule) (m.after_from o.source schedule)
  left = matched_run x w schedule o.flow o.source o.matches

  pub good : Good x (graph_after (lowered x) o.flow schedule)
  good = good_after x schedule w o.flow (begins_good x o)

  abbrev pub life_origin : Origin x
  life_origin =
      let flow = graph_start (lowered x) x in
      let matches = begins_lockstep x w in
      record {
        flow = record {
          variables = (graph_after (lowered x) o.flow schedule).variables;
          holders = flow.holders;
          graph_threads = flow.graph_threads;
        };
        source = restart x (m.after_from o.source schedule);
        matches = record { variables = left.variables; holders = matches.holders; count = matches.count; each = matches.each };
        keeps = record { locks = (start_keeps x disciplined).locks; each = (start_keeps x disciplined).each };
        formed = record {
          variables = subst (λ (ns : List (List ℤ)). AllZip AreNumbersOf x.variables ns) (sym good.matches.variables ∙ left.variables)
              good.formed.variables;
          holders = (begins_so x w).holders;
          threads = (begins_so x w).threads;
          references = record {
            variables = subst (λ (ns : List (List ℤ)). AllZip (AreElementsReferring x.variables) x.variables ns)
                (sym good.matches.variables ∙ left.variables) good.formed.references.variables;
            threads = (begins_so x w).references.threads;
          };
        };
        holders = λ mutex t held. absurd (all_free _ mutex t held);
        own = (good_start x w).own;
        pending = λ t text graph_thread p there its is.
            let owed = (good_start x w).owes t text graph_thread p there its is in
            record { node = owed.node; is = at_nodes x graph_thread.at owed.node owed.here; lies = owed.lies };
        known = start_known x;
      }

pub lives_are_origins : LivesAreOrigins
lives_are_origins x o schedule w disciplined =
    (life_origin x o schedule w disciplined, record { source = refl; free = λ mutex t held. all_free _ mutex t held })

pub settled_may_begin : SettledMayBegin
settled_may_begin x from old schedule keeps execution between =
    let r = executions_resume x from old schedule keeps execution in
    let stable = between_is_stable x old r.invariant (λ u. ap (λ (z : m.State). m.is_between z u) (sym r.kept.is) ∙ between u) in
    subst (λ (z : m.State). AreStable (restart x z) old.memory) (sym r.kept.is) (record { size = stable.size; each = stable.each })

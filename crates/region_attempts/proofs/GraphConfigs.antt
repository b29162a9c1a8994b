-- A config beside the graph's state that matches what is kept.
use Rattle.std.proofs.Common.{List, ℕ, subst}
use Rattle.c_tree.specs.Flats as f
use Rattle.c_tree.specs.Source as m
use Rattle.c_tree.specs.WellFormed.{IsWellFormed}
use Rattle.flow_graph.specs.Actions.{FlowState}
use Rattle.flow_graph.specs.Lockstep.{Matches}
use Rattle.flow_graph.proofs.Public.{Good, good_after}
use Rattle.recovery_semantics.specs.Configs.{Config, Invariant}
use Rattle.recovery_semantics.specs.Laws.{IsKeptBy}
use Rattle.region_attempts.specs.Origins.{Origin}
use Rattle.region_attempts.specs.GraphStates.{flow_kept}
use Rattle.region_attempts.proofs.Origins.{begins_good}
use Rattle.region_attempts.proofs.GraphRuns.{matched_run}

-- a config whose invariant holds, of a well formed form, and what is kept of it as a state of the graph
pub record GraphConfig (x : f.Flat) : Type 0 where
  pub formed : IsWellFormed x
  pub config : Config
  pub invariant : Invariant x config
  pub flow : FlowState
  pub matches : Matches x flow config.kept
  pub good : Good x flow

pub kept_matches : (x : f.Flat) (w : IsWellFormed x) (o : Origin x) (s : m.State) (schedule : List ℕ) → IsKeptBy o.source s schedule →
    Matches x (flow_kept x o schedule) s
kept_matches x w o s schedule h = subst (Matches x (flow_kept x o schedule)) h.is (matched_run x w schedule o.flow o.source o.matches)

pub kept_good : (x : f.Flat) (w : IsWellFormed x) (o : Origin x) (schedule : List ℕ) → Good x (flow_kept x o schedule)
kept_good x w o schedule = good_after x schedule w o.flow (begins_good x o)

-- what an execution's schedule has kept
abbrev pub graph_config : (x : f.Flat) → IsWellFormed x → (o : Origin x) (m : Config) (schedule : List ℕ) → Invariant x m →
    IsKeptBy o.source m.kept schedule → GraphConfig x
graph_config x w o m schedule i by = record {
  formed = w;
  config = m;
  invariant = i;
  flow = flow_kept x o schedule;
  matches = kept_matches x w o m.kept schedule by;
  good = kept_good x w o schedule;
}

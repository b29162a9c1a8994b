-- What the logs of a machine say of the kept state, at each moment.
use Rattle.std.specs.Prelude.{Bool, ℕ, ◌<◌, List, length}
use Rattle.rv64_isa.specs.Rows.{Effect}
use Rattle.machine_model.specs.Machine.{World}
use Rattle.flow_graph.specs.Actions.{FlowState}
use Rattle.log_states.specs.Logs.{Record}
use Rattle.log_states.specs.Stages.{left_by_crash}
use Rattle.log_states.specs.Machines.{config_of}
use Rattle.log_states.specs.LogInvariant.{LogInv}
use Rattle.thread_code.specs.Plans.{Plan}
use Rattle.recovered_threads.specs.RecordDescriptions.{Code, Codes, DescribesAs, AllDescribe}
use Rattle.recovered_threads.specs.RecoveryStates.{AreGathering}

-- the log of the thread is on its way from one record to another, and the one that a crash would leave describes the kept state
pub record LogDescribes (p : Plan) (code : Code p) (kept : FlowState) (w : World) : Type 0 where
  pub old : Record
  pub new : Record
  pub rest : List Effect
  pub log : LogInv code.thread.number old new w rest
  pub late : Bool
  pub describes : DescribesAs p code kept late (left_by_crash w.log code.thread.number old new (config_of w log.hart rest))

-- the logs of all threads describe the kept state
abbrev pub LogsDescribe : (p : Plan) → Codes p → FlowState → World → Type 0
LogsDescribe p codes kept w = (n : ℕ) (below : n < length p.graph.threads) → LogDescribes p (codes.each n below) kept w

-- harts gather the locks of records that describe the kept state
pub record RecoversTo (p : Plan) (codes : Codes p) (kept : FlowState) (w : World) : Type 0 where
  pub records : ℕ → Record
  pub gathering : AreGathering w records
  pub lates : ℕ → Bool
  pub describe : AllDescribe p codes kept lates records

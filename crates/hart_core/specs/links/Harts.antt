-- What a hart in the code represents.
use Rattle.std.specs.Prelude.{◌≡◌, List}
use Rattle.ido_base.specs.Words.{Word}
use Rattle.line_memory.specs.links.Queues.{RepresentsQueue}
use Rattle.machine_model.specs.Machine.{Hart as HartModel}
use Rattle.hart_core.specs.declared.hart.Hart.{Hart}

-- the hart has these registers, this pc and this queue
pub record RepresentsHart (hart : Hart) (model : HartModel) (words : List Word) : Type 0 where
  pub registers : model.registers ≡ hart.registers
  pub pc : model.pc ≡ hart.pc
  pub queue : RepresentsQueue hart.queue model.queue words

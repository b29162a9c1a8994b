use Rattle.ido_base.proofs.Growth.{evictions_raise, write_backs_raise, stores_change}
use Rattle.ido_base.proofs.laws.words_grow.Goals as goal

pub returns-clause-evictions : goal.returns-clause-evictions
returns-clause-evictions c = evictions_raise

pub returns-clause-write_backs : goal.returns-clause-write_backs
returns-clause-write_backs c = write_backs_raise

pub returns-clause-stores : goal.returns-clause-stores
returns-clause-stores c = stores_change

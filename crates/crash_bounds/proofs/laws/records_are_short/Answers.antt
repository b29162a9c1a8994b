use Rattle.crash_bounds.proofs.ShortRecords.{lists_keep, masks_keep}
use Rattle.crash_bounds.proofs.laws.records_are_short.Goals as goal

pub returns-clause-lists : goal.returns-clause-lists
returns-clause-lists c = lists_keep

pub returns-clause-masks : goal.returns-clause-masks
returns-clause-masks c = masks_keep

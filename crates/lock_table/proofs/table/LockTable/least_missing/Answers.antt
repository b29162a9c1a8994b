use Rattle.std.proofs.Common.{rules, ◌∙◌, sym}
use Rattle.lock_table.proofs.MissingLockSearch.{goes_on, found_there, none_there, least_along}
use Rattle.lock_table.proofs.table.LockTable.least_missing.Goals as goal

pub loop-lock-preserved : goal.loop-lock-preserved
loop-lock-preserved c = record {
  found =
      c.loop-lock.invariant.found ∙ goes_on c.args.self.now c.deref-holder-items.result.now c.loop-lock.rest c.args.hart c.loop-lock.lock
      (search rules) c.loop-lock-test.true (sym c.is_missing.ensures ∙ c.if-is_missing.false);
}

pub returns-then-is_missing-clause-value : goal.returns-then-is_missing-clause-value
returns-then-is_missing-clause-value c =
    sym (found_there c.args.self.now c.deref-holder-items.result.now c.loop-lock.rest c.args.hart c.loop-lock.lock (search rules) c.loop-lock-test.true
    (sym c.is_missing.ensures ∙ c.if-is_missing.true)) ∙ (sym c.loop-lock.invariant.found ∙ least_along c.args.self.now c.args.mask c.args.hart (search rules))

pub returns-clause-value : goal.returns-clause-value
returns-clause-value c =
    sym (none_there c.args.self.now c.deref-holder-items.result.now c.loop-lock.rest c.args.hart c.loop-lock.lock (search rules) c.loop-lock-test.false)
    ∙ (sym c.loop-lock.invariant.found ∙ least_along c.args.self.now c.args.mask c.args.hart (search rules))

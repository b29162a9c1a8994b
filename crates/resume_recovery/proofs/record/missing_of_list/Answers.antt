use Rattle.std.proofs.Common.{◌≡◌, ◌∙◌, ◌+◌, ◌-◌, ℕ, List, Option, Some, ap, map, if◌then◌else◌}
use Rattle.std.specs.Prelude.{min}
use Rattle.log_schemes.specs.declared.log.Log.{Log}
use Rattle.log_schemes.specs.Layout.{slot_at}
use Rattle.log_schemes.specs.Schemes.{lock_slot, numbers_from}
use Rattle.ido_base.specs.Locks.{is_missing, lesser, least_missing}
use Rattle.ido_base.specs.Words.{Word}
use Rattle.machine_model.specs.Machine.{durable_at}
use Rattle.resume_recovery.proofs.Lists.{least_of, begins, next, ends}
use Rattle.resume_recovery.proofs.record.missing_of_list.Goals as goal

-- the lock of an index in the list of the bank
abbrev lock_in : Log → (words : List Word) → (hart bank index : ℕ) → ℕ
lock_in log words hart bank index = durable_at words (slot_at log hart bank (lock_slot log index))

pub loop-index-init : goal.loop-index-init
loop-index-init c = record {
  least = λ words s.
      let log : Log = c.args.memory.now.log in
      begins (lock_in log words c.args.hart c.args.bank) c.args.locks.now c.args.hart c.durable_slot.result c.min-count.result
      (durable_at words (slot_at log c.args.hart c.args.bank 0)) (c.min-count.ensures ∙ ap (min c.durable_slot.result) c.from-2.ensures)
      (c.durable_slot.ensures words s ∙ ap (λ (n : ℕ). durable_at words (slot_at log c.args.hart c.args.bank n)) c.from.ensures);
  within = tt;
}

pub loop-index-preserved : goal.loop-index-preserved
loop-index-preserved c = record {
  least = λ words s.
      let log : Log = c.args.memory.now.log in
      let f : ℕ → ℕ = lock_in log words c.args.hart c.args.bank in
      let slot : c.from-in-loop-index.result ≡ lock_slot log c.loop-index.index =
      c.from-in-loop-index.ensures ∙ (c.lock_slot.ensures.is ∙ ap (λ (l : Log). lock_slot l c.loop-index.index) c.log-log.ensures) in
      let is : c.durable_slot-lock.result ≡ f c.loop-index.index =
      c.durable_slot-lock.ensures words s
      ∙ ap (λ (n : ℕ). durable_at words (slot_at log c.args.hart c.args.bank n)) slot in
      let rest : Option ℕ =
      least_missing c.args.locks.now (map f (numbers_from (c.loop-index.index + 1) (c.min-count.result - (c.loop-index.index + 1)))) c.args.hart in
      ap (λ (least : Option ℕ). least_of least rest) c.lesser_missing-least.ensures.value
      ∙ (ap (λ (lock : ℕ). least_of (if is_missing c.args.locks.now c.args.hart lock then Some (lesser lock c.loop-index.least) else c.loop-index.least) rest)
      is
      ∙ (next f c.args.locks.now c.args.hart c.min-count.result c.loop-index.index c.loop-index.least c.loop-index-test.true
      ∙ c.loop-index.invariant.least words s));
  within = c.lesser_missing-least.ensures.within;
}

pub returns-clause-value : goal.returns-clause-value
returns-clause-value c = λ words s.
    ends (lock_in c.args.memory.now.log words c.args.hart c.args.bank) c.args.locks.now c.args.hart c.min-count.result c.loop-index.index c.loop-index.least
    c.loop-index-test.false
    ∙ c.loop-index.invariant.least words s

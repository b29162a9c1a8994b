use Rattle.std.proofs.Common.{◌≡◌, ◌-◌, ◌∙◌, ℕ, List, ap, ap₂, map, sym, arith, true}
use Rattle.std.specs.Prelude.{◌==◌, min}
use Rattle.ido_base.specs.Locks.{has_lock}
use Rattle.log_schemes.specs.Schemes.{lock_slot, numbers_from}
use Rattle.image_checks.specs.Logs.{logs_of, slot_in}
use Rattle.image_checks.proofs.Masks.{found_next, none_left, not_next, taken}
use Rattle.image_checks.proofs.logs.is_listed.Goals as goal

pub loop-index-init : goal.loop-index-init
loop-index-init c =
    let f : ℕ → ℕ = λ index. slot_in (logs_of c.args.log c.args.logs.now) c.args.thread c.args.bank (lock_slot c.args.log index) in
    let all : c.min-count.result - 0 ≡ c.min-count.result = omega arith in
    ap (λ (n : ℕ). has_lock (map f (numbers_from 0 n)) c.args.lock) all
    ∙ sym (ap (λ (ls : List ℕ). has_lock ls c.args.lock)
    (taken f (slot_in (logs_of c.args.log c.args.logs.now) c.args.thread c.args.bank 0) c.min-count.result
    (c.min-count.ensures ∙ ap₂ (λ (n m : ℕ). min n m) c.slot_in.ensures c.from.ensures)))

pub returns-then-is_number : goal.returns-then-is_number
returns-then-is_number c =
    let f : ℕ → ℕ = λ index. slot_in (logs_of c.args.log c.args.logs.now) c.args.thread c.args.bank (lock_slot c.args.log index) in
    let i = c.loop-index.index in
    let is : (f i == c.args.lock) ≡ true =
    sym (ap (λ (word : ℕ). word == c.args.lock) c.listed_in.ensures) ∙ sym c.is_number.ensures ∙ c.if-is_number.true in
    sym (sym c.loop-index.invariant ∙ found_next f c.min-count.result i c.args.lock c.loop-index-test.true is)

pub loop-index-preserved : goal.loop-index-preserved
loop-index-preserved c =
    let f : ℕ → ℕ = λ index. slot_in (logs_of c.args.log c.args.logs.now) c.args.thread c.args.bank (lock_slot c.args.log index) in
    let i = c.loop-index.index in
    let is = sym (ap (λ (word : ℕ). word == c.args.lock) c.listed_in.ensures) ∙ sym c.is_number.ensures ∙ c.if-is_number.false in
    sym (not_next f c.min-count.result i c.args.lock c.loop-index-test.true is) ∙ c.loop-index.invariant

pub returns : goal.returns
returns c =
    let f : ℕ → ℕ = λ index. slot_in (logs_of c.args.log c.args.logs.now) c.args.thread c.args.bank (lock_slot c.args.log index) in
    sym (none_left f c.min-count.result c.loop-index.index c.args.lock c.loop-index-test.false) ∙ c.loop-index.invariant

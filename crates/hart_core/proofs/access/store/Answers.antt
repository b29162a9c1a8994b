use Rattle.std.proofs.Common.{◌≡◌, ℕ, List, Some, None, sym, ◌∙◌, subst}
use Rattle.ido_base.specs.Words.{Word, stored}
use Rattle.ido_base.specs.Layout.{byte_number}
use Rattle.rv64_isa.specs.Rows.{store_bytes}
use Rattle.hart_core.proofs.Accesses.{store_refused, store_step}
use Rattle.line_memory.specs.links.MemoryRepresentation.{Represents, logs_of}
use Rattle.hart_core.specs.links.Refusals.{refusal}
use Rattle.hart_core.proofs.access.store.Goals as goal

pub returns-in-Some-clause-step : goal.returns-in-Some-clause-step
returns-in-Some-clause-step c =
    λ number phase locks. store_refused number c.args.address (store_bytes c.args.kind) c.args.value c.in-Some.cause
    (record { phase = phase; hart = c.args.hart.now; memory = c.args.memory.now; locks = locks })
    (subst (λ (n : ℕ). refusal (logs_of c.args.memory.now) c.args.address n ≡ Some c.in-Some.cause) c.store_width-bytes.ensures
    (sym c.refused.ensures.cause ∙ c.in-Some.is))

pub returns-clause-step : goal.returns-clause-step
returns-clause-step c =
    λ number phase locks. rw c.go_on.ensures
    (store_step number c.args.address (store_bytes c.args.kind) c.args.value phase c.args.hart.now c.args.memory.now c.store.new.self locks
    (subst (λ (n : ℕ). refusal (logs_of c.args.memory.now) c.args.address n ≡ None) c.store_width-bytes.ensures
    (sym c.refused.ensures.cause ∙ c.in_default.is))
    (subst (λ (n : ℕ). (words : List Word) → Represents c.args.memory.now words →
    Represents c.store.new.self (stored words (byte_number c.args.address) n c.args.value)) c.store_width-bytes.ensures c.store.ensures.stands)
    c.store.ensures.logs)

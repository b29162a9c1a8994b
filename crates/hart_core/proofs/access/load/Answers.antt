use Rattle.std.proofs.Common.{◌≡◌, ℕ, List, Some, None, sym, ◌∙◌, subst}
use Rattle.ido_base.specs.Words.{Word, loaded}
use Rattle.ido_base.specs.Layout.{byte_number}
use Rattle.rv64_isa.specs.Rows.{load_bytes, load_signed}
use Rattle.hart_core.proofs.Accesses.{load_refused, load_step}
use Rattle.line_memory.specs.links.MemoryRepresentation.{Represents, logs_of}
use Rattle.hart_core.specs.links.Refusals.{refusal}
use Rattle.hart_core.proofs.access.load.Goals as goal

pub returns-in-Some : goal.returns-in-Some
returns-in-Some c =
    λ number phase locks. load_refused number c.args.address (load_bytes c.args.kind) c.args.register (load_signed c.args.kind) c.in-Some.cause
    (record { phase = phase; hart = c.args.hart.now; memory = c.args.memory.now; locks = locks })
    (subst (λ (n : ℕ). refusal (logs_of c.args.memory.now) c.args.address n ≡ Some c.in-Some.cause) c.load_width-bytes.ensures
    (sym c.refused.ensures.cause ∙ c.in-Some.is))

pub returns : goal.returns
returns c =
    λ number phase locks. rw (c.go_on.ensures, c.write.ensures, c.loaded-value.ensures)
    (load_step number c.args.address (load_bytes c.args.kind) c.args.register c.load.result (load_signed c.args.kind) phase c.args.hart.now c.args.memory.now
    locks (subst (λ (n : ℕ). refusal (logs_of c.args.memory.now) c.args.address n ≡ None) c.load_width-bytes.ensures
    (sym c.refused.ensures.cause ∙ c.in_default.is))
    (subst (λ (n : ℕ). (words : List Word) → Represents c.args.memory.now words → c.load.result ≡ loaded words (byte_number c.args.address) n)
    c.load_width-bytes.ensures c.load.ensures.value))

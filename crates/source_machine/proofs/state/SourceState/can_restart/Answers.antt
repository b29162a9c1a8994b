use Rattle.std.proofs.Common.{◌≡◌, ◌∙◌, sym, ap, List, Option, ℕ, length, arith}
use Rattle.source_machine.specs.links.Holders.{hold_none}
use Rattle.source_machine.proofs.FreeThreads.{between_is_none}
use Rattle.source_machine.proofs.state.SourceState.can_restart.Goals as goal

pub returns-clause-between : goal.returns-clause-between
returns-clause-between c = λ s ended st.
    let state = c.args.self.now in
    let count : c.len.result ≡ length s.threads = omega (arith, c.len.ensures, st.count, state.threads.ok.0) in
    c.hold_none.ensures ∙ ap (λ (hs : List (Option ℕ)). hold_none hs c.len.result) (c.deref.ensures.value ∙ sym st.holders)
    ∙ (ap (hold_none s.holders) count ∙ sym (between_is_none s (length s.threads)))

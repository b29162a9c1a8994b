use Rattle.std.proofs.Common.{ℕ, ◌+◌, ◌*◌, map, ap, ◌∙◌, List}
use Rattle.rv64_isa.specs.Programs.{code_base}
use Rattle.rv64_link.specs.LabelledCode.{is_mark, is_resume, positions_from}
use Rattle.rv64_link.specs.links.Layout.{number_at, slots}
use Rattle.rv64_link.proofs.Threads.{is_linked}
use Rattle.rv64_link.proofs.thread.link_thread.Goals as goal

pub returns-clause-linked : goal.returns-clause-linked
returns-clause-linked c =
    let all = c.args.items.now in
    is_linked all c.args.first c.in_ok-numbers.numbers.items c.in_ok-words.words.items c.in_ok-nodes.nodes.items c.in_ok-resumes.resumes.items c.requires.few
    c.requires.low c.in_ok-numbers.ensures
    (c.in_ok-words.ensures ∙ ap (λ (n : List ℕ). slots all n 0 all) c.deref.ensures.value)
    (c.in_ok-nodes.ensures ∙ ap (λ (n : List ℕ). map (λ p. code_base + 4 * number_at n p) (positions_from 0 is_mark all)) c.deref-2.ensures.value)
    (c.in_ok-resumes.ensures ∙ ap (λ (n : List ℕ). map (λ p. code_base + 4 * number_at n p) (positions_from 0 is_resume all)) c.deref-3.ensures.value)

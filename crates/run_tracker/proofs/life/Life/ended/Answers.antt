use Rattle.std.proofs.Common.{◌≡◌, ◌<◌, ℕ, List, length, get_or, ap, subst, sym, ◌∙◌, arith}
use Rattle.std.proofs.lemmas.List.{get_or_read}
use Rattle.run_tracker.specs.ObjectLives.{Course}
use Rattle.run_tracker.specs.declared.sections.HartSections.{HartSections}
use Rattle.run_tracker.specs.links.LifeRepresentation.{course_of}
use Rattle.run_tracker.specs.links.SectionRepresentation.{outside, section_at}
use Rattle.run_tracker.proofs.LifeAfterEvent.{few_sections}
use Rattle.run_tracker.proofs.life.Life.ended.Goals as goal

pub overflow_add-result : goal.overflow_add-result
overflow_add-result c =
    let life = c.self.inside in
    let stands = c.self.invariant in
    let h = c.args.hart in
    let below : h < length (course_of life).runs.program = subst (λ (x : Course). h < length x.runs.program) (sym c.self.view_is) c.requires in
    let within : h < length life.sections.harts.items = omega (arith, below, stands.sections.size) in
    let read : c.index.result.now ≡ section_at life.sections h =
    get_or_read life.sections.harts.items h c.index.result.now within c.index.ensures outside in
    let same : c.index.result.now.ended ≡ (section_at life.sections h).ended = ap (λ (x : HartSections). x.ended) read in
    let before : c.ended_at.result ≡ get_or life.ended_before.items h 0 =
    c.ended_at.ensures ∙ ap (λ (ns : List ℕ). get_or ns h 0) c.deref.ensures.value in
    omega (arith, before, stands.few_ended h, same, few_sections life stands h within)

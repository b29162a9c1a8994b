use Rattle.std.proofs.Common.{◌≡◌, ℕ, ◌+◌, List, Option, ap, sym, subst, refl, arith, length}
use Rattle.std.specs.Vec.{with_items}
use Rattle.std.proofs.lemmas.List.{with_items_is}
use Rattle.std.proofs.lemmas.Option.{slice_get_read}
use Rattle.source_machine.specs.Sections.{AreCounted}
use Rattle.source_machine.specs.links.SectionEnds.{ends}
use Rattle.source_machine.specs.links.Threads.{IsMade, hand}
use Rattle.source_machine.proofs.StateRuns.{after_step}
use Rattle.source_machine.proofs.state.SourceState.step.Goals as goal

pub returns-clause-after : goal.returns-clause-after
returns-clause-after c = λ s ended st.
    let before = c.args.self.now in
    let here = slice_get_read before.threads.items _ c.args.thread c.index_mut-it.result.now refl
    (omega (arith, c.requires.exists)) c.index_mut-it.ensures.value in
    let held = c.deref_mut.ensures.value in
    let counted = c.deref_mut-2.ensures.value in
    let held' : (with_items before.holders c.step.new.holders).items ≡ c.step.new.holders =
    with_items_is before.holders c.step.new.holders (omega (arith, c.step.auto.holders, ap length held, before.holders.ok.0)) in
    let counted' : (with_items before.sections c.step.new.sections).items ≡ c.step.new.sections =
    with_items_is before.sections c.step.new.sections (omega (arith, c.step.auto.sections, ap length counted, before.sections.ok.0)) in
    after_step before _ s ended c.args.thread c.step.result st (record {
      old = c.index_mut-it.result.now;
      new = c.step.new.self;
      here = here;
      set = refl;
      makes = λ left threads l.
          let made = c.step.ensures.made left threads l in
          let P : List (Option ℕ) → Type 0 =
          λ hs. IsMade c.args.thread (hand c.index_mut-it.result.now before.variables hs) (hand c.step.new.self c.step.new.variables c.step.new.holders)
          c.step.result threads left in
          let Q : List (Option ℕ) → Type 0 =
          λ hs. IsMade c.args.thread (hand c.index_mut-it.result.now before.variables before.holders.items) (hand c.step.new.self c.step.new.variables hs)
          c.step.result threads left in
          subst Q (sym held') (subst P held made);
      counts = λ e h.
          let A : List ℕ → Type 0 = λ ss. AreCounted ss e in
          let B : List ℕ → Type 0 = λ ss. AreCounted ss (λ k. e k + ends c.deref_mut.result.now c.step.new.holders k) in
          let C : List (Option ℕ) → Type 0 =
          λ hs. AreCounted (with_items before.sections c.step.new.sections).items (λ k. e k + ends hs c.step.new.holders k) in
          let D : List (Option ℕ) → Type 0 =
          λ hs. AreCounted (with_items before.sections c.step.new.sections).items (λ k. e k + ends before.holders.items hs k) in
          subst D (sym held') (subst C held (subst B (sym counted') (c.step.ensures.sections e (subst A (sym counted) h))));
    })

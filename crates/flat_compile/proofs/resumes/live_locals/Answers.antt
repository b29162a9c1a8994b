use Rattle.std.proofs.Common.{◌≡◌, List, ℕ, ◌+◌, ◌∙◌, [], ap, sym, subst, refl, arith, Vec}
use Rattle.std.specs.Prelude.{slice_get, slice_index_or}
use Rattle.std.specs.Global.{Global}
use Rattle.std.proofs.lemmas.Option.{slice_get_within}
use Rattle.c_tree.specs.Flats.{thread_of}
use Rattle.flat_compile.specs.declared.resumes.LiveLocal.{LiveLocal}
use Rattle.flat_compile.specs.links.KnownLists.{known_lists}
use Rattle.flat_compile.specs.links.ResumePlacesByNode.{AreLiveBelow, IsLiveIn}
use Rattle.flat_compile.proofs.LiveLocals.{live_more, live_same}
use Rattle.flat_compile.proofs.resumes.live_locals.Goals as goal
use Rattle.flat_compile.proofs.resumes.live_locals.Goals.{in-Some+in_ok-push, in_default}

pub loop-colour-preserved : goal.loop-colour-preserved
loop-colour-preserved c =
    let cs = c.args.colours.now in
    let text = thread_of c.args.text.now in
    let known = slice_index_or (known_lists c.args.knowns.now) c.args.step [] in
    let sets = c.args.live.now in
    let counted = c.args.counted in
    let k = c.loop-colour.colour in
    let Is : List LiveLocal → Type 0 = λ ls. AreLiveBelow cs text known sets counted (k + 1) ls in
    elim c.match-local_in.branch [
      | in-Some+in_ok-push w ↦
          let is : IsLiveIn cs sets counted k w.in-Some.local = w.in-Some.ensures.is in
          let l = w.live_local.result in
          subst Is (sym (ap (λ (v : Vec LiveLocal Global). v.items) w.found-is ∙ w.in_ok-push.ensures.items))
          (live_more cs text known sets counted k c.loop-colour.found.items l w.live_local.ensures.colour
          (subst (λ (n : ℕ). IsLiveIn cs sets counted k n) (sym w.live_local.ensures.local) is)
          (ap (slice_get text.locals) w.live_local.ensures.local ∙ w.live_local.ensures.kind)
          (ap (slice_get text.refers) w.live_local.ensures.local ∙ w.live_local.ensures.refers) w.live_local.ensures.known
          (c.requires.apart k) c.loop-colour.invariant)
      | in_default w ↦
          subst Is (sym (ap (λ (v : Vec LiveLocal Global). v.items) w.found-is))
          (live_same cs text known sets counted k c.loop-colour.found.items (w.in_default.ensures.none refl) c.loop-colour.invariant)
    ]

pub live_local-requires-clause-there : goal.live_local-requires-clause-there
live_local-requires-clause-there c =
    let is : IsLiveIn c.args.colours.now c.args.live.now c.args.counted c.loop-colour.colour c.in-Some.local = c.in-Some.ensures.is in
    omega (arith, slice_get_within c.args.colours.now c.in-Some.local c.loop-colour.colour is.coloured, c.requires.kinds)

pub live_local-requires-clause-refers : goal.live_local-requires-clause-refers
live_local-requires-clause-refers c =
    let is : IsLiveIn c.args.colours.now c.args.live.now c.args.counted c.loop-colour.colour c.in-Some.local = c.in-Some.ensures.is in
    omega (arith, slice_get_within c.args.colours.now c.in-Some.local c.loop-colour.colour is.coloured, c.requires.refers)

pub returns : goal.returns
returns c =
    let cs = c.args.colours.now in
    let text = thread_of c.args.text.now in
    let known = slice_index_or (known_lists c.args.knowns.now) c.args.step [] in
    let all : c.loop-colour.colour ≡ 18 = omega (arith, c.loop-colour-test.false, c.loop-colour.auto.colour-end) in
    subst (λ (n : ℕ). AreLiveBelow cs text known c.args.live.now c.args.counted n c.loop-colour.found.items) all c.loop-colour.invariant

use Rattle.std.proofs.Common.{◌≡◌, ◌∙◌, ℕ, ◌<◌, ◌+◌, List, [], length, Some, Vec, ap, sym, subst, arith}
use Rattle.std.specs.Prelude.{slice_get, slice_index_or}
use Rattle.std.specs.Global.{Global}
use Rattle.std.proofs.lemmas.List.{length-map}
use Rattle.rv64_isa.specs.declared.object.ThreadMarks.{ThreadMarks}
use Rattle.rv64_codegen.specs.Plans.{plan_of}
use Rattle.rv64_codegen.proofs.Public.{read_get}
use Rattle.machine_model.specs.Executables.{resume_marks}
use Rattle.flat_compile.specs.declared.resumes.Resume.{Resume}
use Rattle.flat_compile.specs.declared.resumes.Stand.{Stand}
use Rattle.flat_compile.specs.links.ResumePlacesByNode.{thread_in, IsOwn, AreTabled, AreFoundAt}
use Rattle.flat_compile.proofs.Tables.{own_thread, stands_own, many_coded, resumes_coded, tabled_more, as_many_threads, addresses_at}
use Rattle.flat_compile.proofs.resumes.resume_table.Goals as goal
use Rattle.flat_compile.proofs.resumes.resume_table.Goals.{After-part-1}

below : (c : After-part-1) → c.loop-number.number < length c.args.plan.now.graph.now.threads.items
below c = omega (arith, c.loop-number-test.true, c.len-number-end.ensures, c.args.plan.now.graph.now.threads.ok.0)

there : (c : After-part-1) → slice_get c.args.plan.now.graph.now.threads.items c.loop-number.number ≡ Some c.index-part.result.now
there c = read_get c.args.plan.now.graph.now.threads.items c.loop-number.number c.index-part.result.now (below c) c.index-part.ensures

own : (c : After-part-1) → IsOwn (plan_of c.args.plan.now) c.loop-number.number c.index-part.result.now
own c =
    let p = plan_of c.args.plan.now in
    own_thread p c.requires.plan c.loop-number.number c.index-part.result.now (there c) (omega (arith, below c, as_many_threads p c.requires.plan))

pub stands-requires : goal.stands-requires
stands-requires c = own c

pub thread_resumes-requires-clause-own : goal.thread_resumes-requires-clause-own
thread_resumes-requires-clause-own c = own (goal.at.thread_resumes-requires-clause-own c).After-part-1

pub thread_resumes-requires-clause-stands : goal.thread_resumes-requires-clause-stands
thread_resumes-requires-clause-stands c =
    let p = plan_of c.args.plan.now in
    let o = own (goal.at.thread_resumes-requires-clause-stands c).After-part-1 in
    λ k stand g. record {
      is = o;
      own = stands_own p o.plan (thread_in p c.loop-number.number c.index-part.result.now) o.thread c.in_ok-stands.stands.items _ c.in_ok-stands.ensures k stand
          (ap (λ (ns : List Stand). slice_get ns k) (sym c.deref.ensures.value) ∙ g);
    }

pub thread_resumes-requires-clause-count : goal.thread_resumes-requires-clause-count
thread_resumes-requires-clause-count c =
    let p = plan_of c.args.plan.now in
    let ms = c.args.marks.now.threads.items in
    let n = c.loop-number.number in
    let s = (goal.at.thread_resumes-requires-clause-count c).After-part-1 in
    let are = c.requires.marked.are in
    let few : n < length ms = omega (arith, below s, are.count, length-map ms (λ (x : ThreadMarks). x.resumes.items)) in
    ap (λ (ns : List Stand). length ns) c.deref.ensures.value
    ∙ many_coded c.requires.plan are n (below s) (there s) c.in_ok-stands.ensures
    ∙ ap (λ (ns : List ℕ). length ns) (addresses_at ms n c.index.result.now few c.index.ensures ∙ sym c.deref-in-loop-number.ensures.value)

pub loop-number-preserved : goal.loop-number-preserved
loop-number-preserved c =
    let p = plan_of c.args.plan.now in
    let ms = c.args.marks.now.threads.items in
    let n = c.loop-number.number in
    let s = (goal.at.loop-number-preserved c).After-part-1 in
    let part = c.index-part.result.now in
    let stands = c.in_ok-stands.stands.items in
    let few : n < length ms = omega (arith, below s, c.requires.marked.are.count, length-map ms (λ (x : ThreadMarks). x.resumes.items)) in
    let rs = c.in_ok-thread_resumes.field-0 in
    let addresses = c.deref-in-loop-number.ensures.value ∙ sym (addresses_at ms n c.index.result.now few c.index.ensures) in
    let found : AreFoundAt p (thread_in p n part) stands (slice_index_or (resume_marks ms) n []) rs.items =
    subst (λ (ads : List ℕ). AreFoundAt p (thread_in p n part) stands ads rs.items) addresses
    (subst (λ (ns : List Stand). AreFoundAt p (thread_in p n part) ns c.deref-in-loop-number.result.now rs.items) c.deref.ensures.value
    c.in_ok-thread_resumes.ensures) in
    subst (λ (t : List (Vec Resume Global)). AreTabled p (resume_marks ms) (n + 1) t) (sym c.in_ok-push.ensures.items)
    (tabled_more p (resume_marks ms) n c.loop-number.table.items rs c.loop-number.invariant
    (λ codes are b. resumes_coded c.requires.plan are n b (there s) c.in_ok-stands.ensures rs.items found))

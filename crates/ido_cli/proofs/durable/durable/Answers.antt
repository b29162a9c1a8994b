use Rattle.std.proofs.Common.{◌≡◌, ◌++◌, ◌∷◌, [], ◌∙◌, ap, sym, subst, ℕ, List, length, length-append, map, arith, rules}
use Rattle.std.specs.Iterator.Adapters.{zip_first, zip_second}
use Rattle.std.specs.Slice.Iter.{iter_rest}
use Rattle.std.proofs.lemmas.Slice.Zip.{zip_end, zip_turn}
use Rattle.variable_words.proofs.Public.{length-shapes}
use Rattle.run_tracker.specs.ObjectLives.{world_of}
use Rattle.run_scripts.specs.declared.report.Variable as found
use Rattle.run_scripts.specs.links.ReportViews as views
use Rattle.ido_cli.proofs.DurableNumbers.{IsSoFar, named_from, named_start, variable_fits, variables_more, variables_whole}
use Rattle.ido_cli.proofs.durable.durable.Goals as goal

pub loop-variable-init : goal.loop-variable-init
loop-variable-init c =
    ap (λ (us : List found.Variable). map views.variable_of us ++ named_from (world_of c.args.life.now).words c.args.declared.now 0) c.new-found.ensures.items
    ∙ named_start (world_of c.args.life.now).words c.args.declared.now

pub durable_variable-requires : goal.durable_variable-requires
durable_variable-requires c =
    let first : iter_rest (zip_first c.into_iter-variable-iterator.result) ≡ c.args.declared.now =
    search (rules, c.into_iter-variable-iterator.ensures.into_iter_gives, c.zip-variable-items.ensures.first, c.iter.ensures.rest) in
    let second : iter_rest (zip_second c.into_iter-variable-iterator.result) ≡ c.in_ok-addresses.addresses.items =
    search (rules, c.into_iter-variable-iterator.ensures.into_iter_gives, c.zip-variable-items.ensures.second) in
    let turn = zip_turn c.args.declared.now c.in_ok-addresses.addresses.items c.loop-variable.yielded
    c.into_iter-variable-iterator.result c.loop-variable.variable-iterator
    c.next.new.self c.next.result first second c.loop-variable.yielded_by (c.in-Some.variable, c.in-Some.address) c.in-Some.is c.next.ensures.steps in
    let x = c.in-Some.variable.now in
    let address = c.in-Some.address.now in
    variable_fits c.args.declared.now c.in_ok-addresses.addresses.items (length c.loop-variable.yielded) address x c.requires c.in_ok-addresses.ensures turn.0
    (turn.2 x) (turn.3 0)

pub loop-variable-preserved : goal.loop-variable-preserved
loop-variable-preserved c =
    let first : iter_rest (zip_first c.into_iter-variable-iterator.result) ≡ c.args.declared.now =
    search (rules, c.into_iter-variable-iterator.ensures.into_iter_gives, c.zip-variable-items.ensures.first, c.iter.ensures.rest) in
    let second : iter_rest (zip_second c.into_iter-variable-iterator.result) ≡ c.in_ok-addresses.addresses.items =
    search (rules, c.into_iter-variable-iterator.ensures.into_iter_gives, c.zip-variable-items.ensures.second) in
    let turn = zip_turn c.args.declared.now c.in_ok-addresses.addresses.items c.loop-variable.yielded
    c.into_iter-variable-iterator.result c.loop-variable.variable-iterator
    c.next.new.self c.next.result first second c.loop-variable.yielded_by (c.in-Some.variable, c.in-Some.address) c.in-Some.is c.next.ensures.steps in
    let x = c.in-Some.variable.now in
    let address = c.in-Some.address.now in
    let more = variables_more (world_of c.args.life.now).words c.args.declared.now c.in_ok-addresses.addresses.items (length c.loop-variable.yielded)
    address x c.in_ok-durable_variable.field-0 c.loop-variable.found.items c.push.new.self.items c.requires c.in_ok-addresses.ensures
    turn.0 (turn.2 x) (turn.3 0) c.in_ok-durable_variable.ensures c.in_ok-push.ensures.items c.loop-variable.invariant in
    subst (λ (n : ℕ). IsSoFar (world_of c.args.life.now).words c.args.declared.now n c.push.new.self.items)
    (sym (length-append c.loop-variable.yielded ((c.in-Some.variable, c.in-Some.address) ∷ []))) more

pub returns : goal.returns
returns c =
    let first : iter_rest (zip_first c.into_iter-variable-iterator.result) ≡ c.args.declared.now =
    search (rules, c.into_iter-variable-iterator.ensures.into_iter_gives, c.zip-variable-items.ensures.first, c.iter.ensures.rest) in
    let second : iter_rest (zip_second c.into_iter-variable-iterator.result) ≡ c.in_ok-addresses.addresses.items =
    search (rules, c.into_iter-variable-iterator.ensures.into_iter_gives, c.zip-variable-items.ensures.second) in
    let all = zip_end c.args.declared.now c.in_ok-addresses.addresses.items c.loop-variable.yielded
    c.into_iter-variable-iterator.result c.loop-variable.variable-iterator
    c.next.new.self c.next.result first second c.loop-variable.yielded_by c.in-None.is c.next.ensures.steps in
    variables_whole (world_of c.args.life.now).words c.args.declared.now (length c.loop-variable.yielded) c.loop-variable.found.items
    (omega (arith, all, c.in_ok-addresses.ensures.count, length-shapes c.args.declared.now)) c.loop-variable.invariant

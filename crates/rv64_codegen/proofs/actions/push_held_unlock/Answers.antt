use Rattle.std.proofs.Common.{List, ℕ, ◌∙◌, ap, refl, sym, subst, false, None}
use Rattle.std.specs.List.{list_all}
use Rattle.log_schemes.specs.Schemes.{may_keep}
use Rattle.boundary_code.specs.declared.written.Written.{Written}
use Rattle.std.specs.Prelude.{Vec}
use Rattle.std.specs.Global.{Global}
use Rattle.std.proofs.lemmas.Result.{on_ok_weaker}
use Rattle.rv64_isa.specs.declared.instr.Instr.{Instr}
use Rattle.boundary_code.specs.Boundaries.{lists_of}
use Rattle.rv64_codegen.specs.links.Threads.{AreNumbersOf, IsKeptFor, choices_of, plan_in}
use Rattle.rv64_codegen.proofs.NodePieces.{kept_live, kept_thread, live_keepable, none_written}
use Rattle.rv64_codegen.proofs.actions.push_held_unlock.Goals as goal

pub kept-kept-requires-clause-numbers : goal.kept-kept-requires-clause-numbers
kept-kept-requires-clause-numbers c =
    subst (λ (codes : List (Vec Instr Global)). AreNumbersOf c.args.thread.now c.args.next (lists_of codes)) (sym c.deref.ensures.value)
    c.in_ok-numbers.ensures

pub push_unlock-requires-clause-keeping : goal.push_unlock-requires-clause-keeping
push_unlock-requires-clause-keeping c = c.kept-kept.ensures.keeping

pub push_unlock-requires-clause-thread : goal.push_unlock-requires-clause-thread
push_unlock-requires-clause-thread c = kept_thread c.args.thread.now c.requires.own.open_is c.args.next _ _ c.kept-kept.result c.kept-kept.ensures

pub push_unlock-requires-clause-room : goal.push_unlock-requires-clause-room
push_unlock-requires-clause-room c = c.kept-kept.ensures.room

pub push_unlock-requires-clause-quiet : goal.push_unlock-requires-clause-quiet
push_unlock-requires-clause-quiet c = c.kept-kept.ensures.quiet

pub push_unlock-requires-clause-live : goal.push_unlock-requires-clause-live
push_unlock-requires-clause-live c =
    let x = c.args.thread.now in
    let o = c.requires.own.open_is in
    kept_live x o c.args.next _ _ c.kept-kept.result
    (ap (λ (rs : List ℕ). list_all (may_keep (plan_in x).log) rs) c.live_at.ensures ∙ live_keepable x o c.args.next c.requires.own.own) c.kept-kept.ensures

pub push_unlock-requires-clause-bytes : goal.push_unlock-requires-clause-bytes
push_unlock-requires-clause-bytes c =
    none_written c.args.thread.now c.requires.own.open_is c.kept-kept.result _ c.kept-kept.ensures.written_is refl

pub returns : goal.returns
returns c =
    let x = c.args.thread.now in
    let k = c.kept-kept.result in
    let is_kept = subst (λ (rs : List ℕ). IsKeptFor x c.args.next rs (record { bytes = None; opens = false }) k) c.live_at.ensures c.kept-kept.ensures in
    on_ok_weaker c.push_unlock.result (λ own. (k, is_kept, own)) c.push_unlock.ensures

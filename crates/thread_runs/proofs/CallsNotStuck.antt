-- Threads at calls that they may make are not stuck.
use Rattle.std.proofs.Common.{◌≡◌, ◌∙◌, ap, refl, ℕ, List, subst}
use Rattle.std.specs.Prelude.{slice_get}
use Rattle.rv64_isa.specs.Rows.{read}
use Rattle.flow_graph.specs.Nodes.{Action, Lock, Unlock, End}
use Rattle.hart_runs.specs.Calls.{lock_asked, at_acquire, at_release, at_end}
use Rattle.hart_runs.specs.Laws.{NoneIsStuck}
use Rattle.node_code.specs.Pieces.{takes, gives, ends}
use Rattle.thread_code.specs.Programs.{IsCalling}
use Rattle.thread_runs.specs.Laws.{LocksAreWell, UnlocksAreWell, EndsAreWell}
use Rattle.thread_runs.proofs.ThreadsAtCalls.{registers_are, call_there}

pub locks_are_well : NoneIsStuck → LocksAreWell
locks_are_well none p t program own code w h s node mutex next seen view effects holder fragment there cause =
    let lock = fragment.of_graph in
    let calling : IsCalling p t code.places (Lock lock.lock next) node =
    subst (λ (a : Action). IsCalling p t code.places a node) lock.locks (code.code node lock.is lock.own lock.at).calls in
    let is : lock_asked fragment.on.hart ≡ mutex =
    ap (λ (x : List ℕ). read x 10) (registers_are fragment node refl calling.0) ∙ fragment.has.lock in
    none program w h
    (at_acquire (call_there fragment node refl calling.0 takes fragment.has.call) holder (ap (λ (l : ℕ). slice_get w.holders l) is ∙ there)) cause

pub unlocks_are_well : NoneIsStuck → UnlocksAreWell
unlocks_are_well none p t program own code w h s from mutex next seen view effects fragment held cause =
    let unlock = fragment.of_graph in
    let calling : IsCalling p t code.places (Unlock unlock.lock next) from =
    subst (λ (a : Action). IsCalling p t code.places a from) unlock.unlocks (code.code from unlock.is unlock.own unlock.at).calls in
    let is : lock_asked fragment.on.hart ≡ mutex =
    ap (λ (x : List ℕ). read x 10) (registers_are fragment from refl calling.0) ∙ fragment.has.lock in
    none program w h (at_release (call_there fragment from refl calling.0 gives fragment.has.call) (ap (λ (l : ℕ). slice_get w.holders l) is ∙ held)) cause

pub ends_are_well : NoneIsStuck → EndsAreWell
ends_are_well none p t program own code w h s node seen view effects fragment held cause =
    let of_end = fragment.of_graph in
    let calling : IsCalling p t code.places End node =
    subst (λ (a : Action). IsCalling p t code.places a node) of_end.ends (code.code node of_end.is of_end.own of_end.at).calls in
    none program w h (at_end (call_there fragment node refl calling.0 ends fragment.has) held) cause

use denote.Hole.{as_row}
use denote.Struct.Declared.{row}
use denote.Param.Send.{IsSync, sendable}
use denote.Param.SendFields.{as_row_sync, declared_sync}
use Rattle.std.specs.contracts.alloc.Global as global
use Rattle.c_tree.specs.contracts.flat.Flat as flat
use Rattle.flat_compile.specs.contracts.compile.Translated as translated
use Rattle.run_scripts.specs.contracts.script.Script as script
use Rattle.ido_cli.specs.contracts.sweep.CrashPoints.{the_type}
use Rattle.ido_cli.proofs.sweep.are_shared.Goals as goal

-- each field may be shared, so all of it may
pub is_shared-requires-4-sync-P : goal.is_shared-requires-4-sync-P
is_shared-requires-4-sync-P c κs =
    let of_flat : IsSync (as_row flat.the_field) = record { shared = c.is_shared.ensures.shared } in
    let of_translated : IsSync (as_row translated.the_field) = record { shared = c.is_shared-2.ensures.shared } in
    let of_script : IsSync (as_row script.the_field) = record { shared = c.is_shared-3.ensures.shared } in
    let whole : IsSync (row the_type) =
    declared_sync the_type (as_row_sync global.the_field (search sendable), (of_flat, (of_translated, (of_script, tt)))) in
    record { shared = whole.shared }

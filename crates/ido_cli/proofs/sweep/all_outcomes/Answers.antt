use Rattle.ido_cli.proofs.sweep.all_outcomes.Goals as goal

pub sweep-requires-sync-P : goal.sweep-requires-sync-P
sweep-requires-sync-P g c κs within = record { shared = c.are_shared.ensures.shared }

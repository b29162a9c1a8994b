-- The summary of a run: that of the source's own run, where it is settled.
use Rattle.std.proofs.Common.{◌≡◌, ℕ, List, [], ap, ◌∙◌}
use Rattle.machine_events.specs.declared.event.Event.{Event}
use Rattle.machine_model.specs.Schedule.{schedules}
use Rattle.compiler_correctness.specs.Translations.{Translation, source, steps, world}
use Rattle.compiler_correctness.specs.Compilations.{IsCompilation}
use Rattle.run_scripts.specs.Reports as r
use Rattle.ido_cli.specs.Loads.{IsSummary, IsSummaryOf, settled_summary, summary_by}
use Rattle.ido_cli.specs.Reports.{machine_state, unsettled_harts}
use Rattle.ido_cli.proofs.SettledReports.{all_between, none_by_status, same_state, settled_by_none}

settled_is : (s : r.ReportedState) (output : List ℕ) → s.unsettled ≡ [] → output ≡ summary_by s.unsettled s → output ≡ settled_summary s
settled_is s output none is = is ∙ ap (λ (us : List ℕ). summary_by us s) none

module _ (c : Translation) (is : IsCompilation c) (events : List Event) (status : ℕ) (output : List ℕ) where
  no_harts : IsSummary (machine_state c.flat (world c events) (schedules (steps c events))) status output → status ≡ 0 → unsettled_harts (world c events) ≡ []
  unfolding machine_state
  no_harts told done = none_by_status (unsettled_harts (world c events)) status told.status_is done

  no_unsettled : unsettled_harts (world c events) ≡ [] → (machine_state c.flat (world c events) (schedules (steps c events))).unsettled ≡ []
  unfolding machine_state
  no_unsettled none = none

  pub summary_of : IsSummary (machine_state c.flat (world c events) (schedules (steps c events))) status output → IsSummaryOf c events status output
  summary_of told =
      let k = is.settled events in
      record {
        summed = told;
        runs = k.runs;
        between = λ done. k.between (settled_by_none (world c events) (no_harts told done));
        settled = λ done.
            let none = no_harts told done in
            let settled = settled_by_none (world c events) none in
            let same = same_state c.flat (world c events) (schedules (steps c events)) none
            (all_between (source c (schedules (steps c events))) (k.between settled)) (k.variables settled) in
            settled_is (machine_state c.flat (world c events) (schedules (steps c events))) output (no_unsettled none) told.output_is ∙ ap settled_summary same;
        sections = is.sections events;
      }

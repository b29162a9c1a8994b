-- Runs on threads: moments, evictions and sums at a few inputs.
use Rattle.std.specs.Prelude.{◌≡◌, refl, [], ◌∷◌, map, Some, None, codes, pos, neg_ℤ}
use Rattle.std.specs.Fmt.{digits}
use Rattle.log_schemes.specs.declared.log.Log.TheVariants.{V1}
use Rattle.machine_events.specs.declared.event.Event.TheVariants.{Step, Evict, Crash}
use Rattle.run_scripts.specs.Reports.{ReportedState, hart_text, reported, unsettled_line}
use Rattle.ido_cli.specs.Loads.{settled_summary, summary_by, sums_text, total}
use Rattle.ido_cli.specs.ThreadedRuns.{evictions_at, evictions_from, moment_after}

moment_of_no_events : moment_after [] None ≡ 3999000
moment_of_no_events = refl

moment_after_crash : moment_after (Step 0 ∷ Evict 3 255 ∷ Crash ∷ []) None ≡ 3999001
moment_after_crash = refl

moment_of_crash_word : moment_after (Step 0 ∷ Crash ∷ Step 0 ∷ []) (Some 5) ≡ 8
moment_of_crash_word = refl

moment_at_once : moment_after (Step 0 ∷ Step 1 ∷ []) (Some 0) ≡ 2
moment_at_once = refl

moment_of_great_word : moment_after (Crash ∷ Crash ∷ []) (Some 4000000) ≡ 3999002
moment_of_great_word = refl

no_evictions_without_threads : evictions_at V1 0 3 (Some 7) ≡ None
no_evictions_without_threads = refl

no_evictions_without_seed : evictions_at V1 2 3 None ≡ None
no_evictions_without_seed = refl

evictions_go_on : evictions_from (λ n. (n, 255)) 5 2 ≡ (7, 255)
evictions_go_on = refl

sum_with_signs : total (pos 3 ∷ neg_ℤ (pos 5) ∷ pos 1 ∷ []) ≡ neg_ℤ (pos 1)
sum_with_signs = refl

abbrev four_sections : ReportedState
four_sections = record {
  unsettled = [];
  variables =
      record { name = codes "x"; elements = Some (pos 10) ∷ None ∷ Some (pos 20) ∷ [] } ∷ record {
        name = codes "y";
        elements = Some (neg_ℤ (pos 7)) ∷ [];
      } ∷ [];
  ended = 3 ∷ 1 ∷ [];
  schedules = (0 ∷ 1 ∷ []) ∷ [];
}

sums_of_sections : settled_summary four_sections ≡ codes "ended 4\ntotal 23\n"
unfolding sums_text digits
sums_of_sections = refl

harts_unsettled : summary_by (1 ∷ 3 ∷ []) four_sections ≡ codes "unsettled 1 3\n"
unfolding unsettled_line hart_text digits
harts_unsettled = refl

-- ---- What is reported of numbers

numbers_reported : map (reported None) (pos 0 ∷ neg_ℤ (pos 5) ∷ []) ≡ Some (pos 0) ∷ Some (neg_ℤ (pos 5)) ∷ []
numbers_reported = refl

references_reported : map (reported (Some 4)) (pos 0 ∷ pos 1 ∷ pos 5 ∷ []) ≡ None ∷ Some (pos 0) ∷ Some (pos 4) ∷ []
references_reported = refl

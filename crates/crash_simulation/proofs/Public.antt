-- What crates above may use of this crate's proofs, passed on from one place. Declares nothing.
pub use Rattle.crash_simulation.proofs.AccountUpdates.{begun_by, counted_by, kept_same, pending_is}
pub use Rattle.crash_simulation.proofs.AccountsAfterEvents.{Accounts, AreOnTime, Continues, GoesOn, begun_in, event_goes_on, not_running, not_there, own_by}
pub use Rattle.crash_simulation.proofs.AccountsAfterEvents.{step_of}
pub use Rattle.crash_simulation.proofs.AccountsAfterEvents.{life_begins, life_carried, life_goes_on, none_begins, steps_join, worlds_join}
pub use Rattle.crash_simulation.proofs.AccountsBeforeCommit.{none_more, released_by, start_counted}
pub use Rattle.crash_simulation.proofs.BoundaryPassages.{ArePassed, FollowsBegun, chosen_here, chosen_none, going_ahead, passages_ahead, points_ahead, told_of}
pub use Rattle.crash_simulation.proofs.ChosenNodes.{WritesHere, assigns_there, chosen_writes, stored_here, stores_there}
pub use Rattle.crash_simulation.proofs.DisjointStores.{elsewhere, next_store}
pub use Rattle.crash_simulation.proofs.Elements.{element_ends, elements_apart, log_after, room, word_durable}
pub use Rattle.crash_simulation.proofs.FragmentSteps.{Made, bounds_first, cleans_first, held_up_stores_none, made_by, no_effect}
pub use Rattle.crash_simulation.proofs.FrameWords.{not_recorded}
pub use Rattle.crash_simulation.proofs.LifeAccounts.{begins_at, earlier_after, from_after, kept_after, lives_are, schedule_is}
pub use Rattle.crash_simulation.proofs.LifeBeginnings.{first_life, first_origin, life_stands, pending_free, row_of, start_simulates}
pub use Rattle.crash_simulation.proofs.LifeStarts.{HasBegun, has_begun}
pub use Rattle.crash_simulation.proofs.LastReleases.{and_none, at_most_one}
pub use Rattle.crash_simulation.proofs.LocalNodeSteps.{mark as quietly_mark}
pub use Rattle.crash_simulation.proofs.LocalStoreSteps.{at_store, fragment as storing_fragment}
pub use Rattle.crash_simulation.proofs.PastStoreSteps.{mark as past_mark, own_word as past_word, stores_it as past_stores}
pub use Rattle.crash_simulation.proofs.LoadFreeEnvironment.{placed}
pub use Rattle.crash_simulation.proofs.LockCallSteps.{fragment, lock}
pub use Rattle.crash_simulation.proofs.LocksAfterStep.{runs_held}
pub use Rattle.crash_simulation.proofs.LocksAtCalls.{locks_it}
pub use Rattle.crash_simulation.proofs.LoggedNodeSteps.{AssignsLogged, logged as is_logged, mark as logged_mark, own_word as logged_word}
pub use Rattle.crash_simulation.proofs.LoggedNodeSteps.{seen_is as logged_sees}
pub use Rattle.crash_simulation.proofs.LogWords.{point_settled, stored_for}
pub use Rattle.crash_simulation.proofs.LongestAttempts.{AreFurthest}
pub use Rattle.crash_simulation.proofs.MarksAtNodes.{IsPlainSet, IsUnlogged}
pub use Rattle.crash_simulation.proofs.NoStuckHarts.{takes_move}
pub use Rattle.crash_simulation.proofs.NodeCodeSteps.{by_node, found}
pub use Rattle.crash_simulation.proofs.NodeEffects.{is_quiet, owes_here}
pub use Rattle.crash_simulation.proofs.OwnHartSteps.{AtNode, same_number, view}
pub use Rattle.crash_simulation.proofs.PendingReleases.{IsAtBoundary, at_gives, at_keeps, at_took, giving_of, under_way}
pub use Rattle.crash_simulation.proofs.PointsInSections.{point_where}
pub use Rattle.crash_simulation.proofs.ReadyHarts.{runs_ready}
pub use Rattle.crash_simulation.proofs.RecordsAfterCrash.{between_there, lates, left, left_describes, left_kept, left_point, log_of, settled_is_kept}
pub use Rattle.crash_simulation.proofs.RunOrCall.{IsWhere, RunsOn, at_call, is_where, on_run}
pub use Rattle.crash_simulation.proofs.Sections.{gave_held, now_between, took_holds}
pub use Rattle.crash_simulation.proofs.StatesMatchSource.{as_source, kept_good, now_orderly, orderly, resumed}
pub use Rattle.crash_simulation.proofs.StoreNodeSteps.{MakesStore, follows, in_variables, kind_is, mark as making_mark, stored_element}
pub use Rattle.crash_simulation.proofs.ThreadCommits.{unlocked_last}
pub use Rattle.crash_simulation.proofs.ThreadsOfMachines.{mutexes_stay, phase_of}
pub use Rattle.crash_simulation.proofs.UnlockNodeSteps.{log_first, mark as unlocking_mark}

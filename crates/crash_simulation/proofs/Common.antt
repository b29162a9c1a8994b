-- What the proofs of this crate use of others' words and of its own definitions, passed on from one place. Declares nothing.
pub use Rattle.std.proofs.Common.{◌≡◌, ◌≢◌, ℕ, List, ◌∷◌, sym, ◌∙◌, ap, arith, subst, true, false, Option, Some, None, refl, suc, ◌+◌, ◌<◌, [], ◌++◌, length}
pub use Rattle.std.proofs.Common.{Bool, ◌⊎◌, inl, inr, zero, ◌==◌, replicate, slice_set, slice_get, ◌&&◌, if◌then◌else◌, not, nat_lt, nat_le, filter, eq-eqb}
pub use Rattle.std.proofs.Common.{true≢false, length-set, append-nil, ◌≤◌, ap₂, is_some, ◌-◌, ◌*◌, ◌%◌, ◌^◌, map, ℤ, sum_by, take, slice_index_or, pos, ⊎_elim}
pub use Rattle.std.proofs.Common.{append_assoc, ◌/◌, Contains, mod-lt, pow_pos, add-zero, cond}
pub use Rattle.std.specs.List.{list_any, AllZip, AllByRecursion}
pub use Rattle.std.specs.Option.{option_map}
pub use Rattle.std.specs.Prelude.{is_none, ◌||◌}
pub use Rattle.std.proofs.Math.Nat.{le-max_right}
pub use Rattle.std.proofs.Props.{props}
pub use Rattle.std.proofs.lemmas.Bool.{and_from, cases_Bool, and_parts, eqb-true, leb-true, cond_both, cond-true, cond-false, ltb-false, cases_lt, and_left}
pub use Rattle.std.proofs.lemmas.Bool.{and_right, false_from_ne_true, ne_eqb, or_cases, or_right, false≢true, cases_order, true_from_ne_false}
pub use Rattle.std.proofs.lemmas.Bool.Decides.{nat_tests}
pub use Rattle.std.proofs.lemmas.List.{get_or-set_same, get_or-set_other, set-get_or, length-replicate, length-append, length-map}
pub use Rattle.std.proofs.lemmas.List.Elements.{Contains-append_left, Contains-append_right}
pub use Rattle.std.proofs.lemmas.Option.{none-some, same_Some, slice_get_within, cond_some, slice_get-map}
pub use Rattle.ido_base.specs.Growth.{AreEntries, PersistsThrough, AreChanged}
pub use Rattle.ido_base.specs.Layout.{byte_number, word_number, variable_at, variables_base}
pub use Rattle.log_schemes.specs.Layout.{frame_at, point_at, log_words, log_of, word_count}
pub use Rattle.ido_base.specs.Locks.{holds_none, held_from}
pub use Rattle.ido_base.specs.Words.{Word, Entry, last_position, live_value, word_at, loaded, durable_value, word_of}
pub use Rattle.machine_events.specs.declared.event.Cause.{Cause}
pub use Rattle.machine_events.specs.declared.event.Event.{Event}
pub use Rattle.machine_events.specs.declared.event.Event.TheVariants.{Step, Evict, Crash}
pub use Rattle.machine_events.specs.declared.event.Reply.{Reply}
pub use Rattle.machine_events.specs.declared.event.Reply.TheVariants.{Moved, Still, Stuck, Waits, Barrier}
pub use Rattle.ido_base.specs.declared.limits.TheConstants.{MOST_VARIABLE_BYTES, VARIABLE_WORDS}
pub use Rattle.log_schemes.specs.declared.log.Log.{Log}
pub use Rattle.ido_base.specs.declared.place.Place.{Place}
pub use Rattle.ido_base.proofs.Public.{same_last, write_backs_raise, are_persisted_refl, changed_refl}
pub use Rattle.ido_ints.specs.Kinds.{bytes_of, Holds, bits_of, modulus_of}
pub use Rattle.ido_ints.specs.Reduction.{reduced, residue}
pub use Rattle.ido_ints.specs.TypedNumbers.{Typed, typed, register_form_of}
pub use Rattle.ido_ints.specs.declared.kinds.Kind.{Kind}
pub use Rattle.ido_ints.proofs.Public.{register_below, Same_sym, Holds-reduced, Same-reduced, residue-is, Holds-zero}
pub use Rattle.c_tree.specs.Exprs.{LockName}
pub use Rattle.c_tree.specs.Flats.{Flat, Statement}
pub use Rattle.c_tree.specs.LockNames.{Held, holds, none_held, lock_names, number_in}
pub use Rattle.c_tree.specs.Programs.{Variable}
pub use Rattle.c_tree.specs.Ranges.{elements_of}
pub use Rattle.c_tree.specs.Source.{State, after_from, runs_from, ended_from, start, Pending, source_step, ends_section, is_between}
pub use Rattle.c_tree.specs.Values.{value, element_at, lock_number, element_number}
pub use Rattle.c_tree.specs.WellFormed.{shape_of, elements_in, IsWellFormed, IsDeclared, IsExpr, Fits, IsTarget, TargetFits, IsFlatStatement, IsFlatPlaced}
pub use Rattle.source_machine.specs.Discipline.{Guards, KeepList, StateKeeps}
pub use Rattle.source_machine.specs.ElementLocks.{element_lock}
pub use Rattle.source_machine.specs.Mutexes.{unlocks, unlock_ahead, held_by, locks, first_lock, first_unlock}
pub use Rattle.source_machine.specs.StepExchanges.{without_first, without, steps_of, IsSameTo}
pub use Rattle.source_machine.proofs.Public.{goes_on, run_keeps, leaves_held, locks_same}
pub use Rattle.source_machine.proofs.Public.{locks_found, unlocks_found, Passed, apart, unlocks_held, mutex_passed, ends_by, unlocks_same}
pub use Rattle.c_ranges.specs.RunInvariants.{IsThreadOf, IsStoreInRange, AreNumbersOf, IsStatementLeft}
pub use Rattle.c_ranges.proofs.Public.{zip_found, fits_element, lock_below, Pair, all_held, elements_is, zip_at}
pub use Rattle.machine_model.specs.Executables.{first_world}
pub use Rattle.machine_model.specs.Frames.{IsWellFormedWorld}
pub use Rattle.machine_model.specs.Machine.{Hart, World, after_event, reply_to, stepped, after_events, durable_point, Outcome, with_holder, moved, gone_on}
pub use Rattle.machine_model.specs.Machine.{resume_of, fresh_hart}
pub use Rattle.log_schemes.specs.Schemes.{numbers_from}
unfoldable pub use Rattle.machine_model.specs.Machine.{happens, after_crash_of, start_of}
pub use Rattle.rv64_isa.specs.Programs.{code_start}
pub use Rattle.rv64_isa.specs.Rows.{read, Effect, Stores, Continues, Loads, Cleans, Fences, Calls}
unfoldable pub use Rattle.rv64_isa.specs.Rows.{row}
pub use Rattle.machine_model.specs.Schedule.{Steps, has_moved, is_running, completing, is_mark, passes_mark, stores_point, with_step, PendingStep, harts_of}
pub use Rattle.machine_model.specs.Schedule.{with_begun, then_stored, with_stored, is_up_to, is_durable, with_kept, with_all_kept, steps_along, releases_last}
pub use Rattle.machine_model.specs.Schedule.{released_count, LifeSchedules, only_life, first_steps, effect_at, is_point_store, is_fence, finishes_fence}
unfoldable pub use Rattle.machine_model.specs.Schedule.{steps_after}
pub use Rattle.crash_simulation.specs.Accesses.{first_access_after}
pub use Rattle.crash_simulation.specs.StorePositions.{last_store_after}
pub use Rattle.rv64_isa.specs.declared.instr.Instr.{Instr}
pub use Rattle.rv64_isa.specs.declared.instr.Instr.TheVariants.{Ecall}
pub use Rattle.rv64_isa.specs.declared.object.Slot.{Slot}
pub use Rattle.machine_model.specs.declared.phase.Phase.{Phase}
pub use Rattle.machine_model.specs.declared.phase.Phase.TheVariants.{Done, Take, Wait, Resume, Run, Ended}
pub use Rattle.machine_model.proofs.Public.{log_stays, evictions_touch, steps_touch, get-set_same}
pub use Rattle.machine_model.proofs.Public.{step_earlier, get-set_other, crashes_simulate, starts_simulate}
pub use Rattle.machine_model.proofs.Public.{queues_stand}
pub use Rattle.flow_graph.specs.Actions.{Seen, GraphThread, FlowState, seen_by, effect_of, graph_step, effect_step, graph_after, graph_thread_start}
pub use Rattle.flow_graph.specs.IdempotentCuts.{IsChosen, IsUnlock, AreCuts, at_boundary}
pub use Rattle.flow_graph.specs.Liveness.{NodeAt}
pub use Rattle.flow_graph.specs.Lockstep.{Matches, Standing, free, threads_standings, HasStandingAt}
pub use Rattle.flow_graph.specs.Lowering.{parts, threads_nodes, part, plain_node, statements_nodes, statements_count, thread_nodes}
unfoldable pub use Rattle.flow_graph.specs.Lowering.{lowered}
pub use Rattle.flow_graph.specs.Nodes.{Action, Store, Node, Graph, Eval, Test, Lock, End, successors, Unlock}
pub use Rattle.flow_graph.specs.Paths.{Element, expr_elements, target_elements, reads_of}
pub use Rattle.flow_graph.specs.declared.graph.Part.{Part}
pub use Rattle.flow_graph.proofs.Public.{below_or_past, Good, found_in, get_cases, set_same, graph_threads_after, set_other, ActionLeads, chooses, repeats}
pub use Rattle.flow_graph.proofs.Public.{no_more, Agree, Locks, Unlocks, agrees, node_at, graph_is, steps_lockstep, at_nodes}
pub use Rattle.flow_graph.proofs.Public.{matched, contains_none, nodes_at, node_shaped, begins_lockstep, good_after, length-statements_nodes}
pub use Rattle.flow_graph.proofs.Public.{length-thread_nodes}
pub use Rattle.rv64_link.specs.LinkedCode.{IsInstructionAt}
pub use Rattle.memory_layout.specs.Variables.{HaveRoom}
pub use Rattle.variable_words.specs.MemoryEffects.{MayMakeStore, IsWork, Queues, WritesBack, Makes}
pub use Rattle.variable_words.specs.Variables.{durable_variables}
pub use Rattle.variable_words.specs.VariablesInWords.{spots_of}
pub use Rattle.variable_words.proofs.Public.{steps_work, well_formed_placed, by_size, address_is, some_bytes, number_is, element_stands, element_whole}
pub use Rattle.variable_words.proofs.Public.{variables_apart, positions_meet, place, addresses_reach, crashes_hold, durable_are_memory, starts_hold}
pub use Rattle.variable_words.proofs.Public.{events_raise}
pub use Rattle.operator_code.specs.ComputingCode.{Carries}
pub use Rattle.operator_code.proofs.Public.{zero_form}
pub use Rattle.boundary_code.specs.Boundaries.{Boundary, boundary_effects, side_after, IsOnSide, is_empty}
pub use Rattle.boundary_code.proofs.Public.{fresh_on_side}
pub use Rattle.recovery_semantics.specs.Attempts.{Writes, no_attempt, Attempt, IsAttempted, attempt_at, store_ahead, solo, WritesAt, IsInnerStep, IsInner}
pub use Rattle.recovery_semantics.specs.Configs.{now, Config, attempt_of, Invariant}
pub use Rattle.recovery_semantics.specs.ElementHistories.{IsStable, history_at, number_at, Memory, ArePersisted, History, history_of, IsSince, IsStored}
pub use Rattle.recovery_semantics.specs.ElementHistories.{live_number, durable_number, crashed, AreStable, memory_of, IsOther}
pub use Rattle.recovery_semantics.specs.Events.{steps_begun, stores, IsSettled, IsGoing, begun, persists, ConfigStep, steps_locally, synchronises, commits}
pub use Rattle.recovery_semantics.specs.Events.{crashes, Synchronises, settled_by, IsAgain}
pub use Rattle.recovery_semantics.specs.Executions.{kept_steps, Execution, then, first_config}
pub use Rattle.recovery_semantics.specs.Laws.{HasUnlocked, LastUnlocks, IsKeptBy, HasLocked}
pub use Rattle.recovery_semantics.specs.VariableSpots.{Spot, memory_in, IsAtSpot}
pub use Rattle.recovery_semantics.proofs.Public.{equal_self, counted_own, counted_other, held_now, none_left, unequal_of, since_settles, goes_alone}
pub use Rattle.recovery_semantics.proofs.Public.{elements_past, variable_found, variable_past, memory_persisted, memory_stays, since_is_persisted, store_same}
pub use Rattle.recovery_semantics.proofs.Public.{store_inner, writes_more, after_more, more_empty, events_keep, writers_apart, since_stays, held_same}
pub use Rattle.recovery_semantics.proofs.Public.{left_is_free, held_before, memory_loaded, between_is_kept, solo_holders, last_first, prefix_runs, last_step}
pub use Rattle.recovery_semantics.proofs.Public.{same_other, crashed_are_stable, none_yet, fresh_are_stable, memory_stored, stored_is_since, inner_along}
pub use Rattle.recovery_semantics.proofs.Public.{writes_at_same, none_of_other, others_left, rest_after, path, last_after, last_alone, last_stays}
pub use Rattle.recovery_semantics.proofs.Public.{unlocked_is_last}
pub use Rattle.region_attempts.specs.AttemptsInRegion.{HasCome, IsBeforeBoundary, RespectsAll, RespectsBoundaries, Resumes, BeginsAtBoundaries, SettlesThere}
pub use Rattle.region_attempts.specs.GraphStates.{flow_solo, FollowsEvent, flow_kept, flow_now, node_after, node_of}
pub use Rattle.region_attempts.specs.Laws.{ReadsHere, StaysResumed, MatchesSource, GraphThreadsSettle}
pub use Rattle.region_attempts.specs.Origins.{Origin}
pub use Rattle.region_attempts.specs.PendingCleans.{line_of, CleansSince}
pub use Rattle.region_attempts.proofs.Public.{is_there, owes_at, own_step, attempts_are_whole, graph_stands, graph_follows, one_node, IsThere, StoresHere}
pub use Rattle.region_attempts.proofs.Public.{owing_at, locking_at, unlocking_at, rerun_reads_nothing_overwritten, readers_guard, stores_are_cleaned}
pub use Rattle.region_attempts.proofs.Public.{writing_stores, free_at_boundaries, start_free, start_origin, executions_stay, kept_good, step_lockstep}
pub use Rattle.region_attempts.proofs.Public.{matched_after, inner_runs, graph_settles, read_here, stored_before_read}
pub use Rattle.region_attempts.specs.Laws.{IsReadAt}
pub use Rattle.code_runs.specs.CodeTraces.{Program, MarkedEnvironment, Meets, Trace, seen_effects, Mark, marked}
pub use Rattle.code_runs.specs.ComputingRuns.{LocalConfig, config}
pub use Rattle.log_states.specs.Laws.{recorded_by, FrameIsComing, IsRecoverable}
pub use Rattle.log_states.specs.LogInvariant.{LogInv}
pub use Rattle.log_states.specs.Logs.{point_in, Record, log_word, IsUnstored, IsSideOf, nothing_recorded, side_of, AreNamed, IsFrameWord, IsRecord}
pub use Rattle.log_states.specs.Logs.{IsUnnamed, frame_in, frame_word, framed_of}
pub use Rattle.log_states.specs.Machines.{IsElsewhere, config_of, IsNext, MovesTo, IsLogEffect, StoresWord, CleansLine, PassesFence, is_boundary_effect}
pub use Rattle.log_states.specs.Stages.{is_store, LogConfig, is_committed, fences_ahead, Moves, Elsewhere, left_by_crash, LogIs}
pub use Rattle.log_states.proofs.Public.{some_words, word_beside, log_facts, committed_where_durable, address_of, variables_are_apart, logs_are_apart}
pub use Rattle.log_states.proofs.Public.{word_of_point, stores_nothing, one_effect, point_store_is_last, boundaries_stay_in, not_done, contains_cases}
pub use Rattle.log_states.proofs.Public.{contains_first, contains_later, own_steps_move, steps_move, word_of_log, beyond_variables, side_follows}
pub use Rattle.log_states.proofs.Public.{boundaries_fence, steps_keep, boundary_stores, ends_committed, begins_standing, begins_uncommitted, starts_standing}
pub use Rattle.log_states.proofs.Public.{evictions_move, evictions_keep, stores_to_variable, keeps, stays_committed}
pub use Rattle.node_code.specs.Pieces.{takes}
pub use Rattle.expr_code.specs.EvaluationCode.{HomeCarries, Source, IsLoaded, AreLoaded, home_of}
pub use Rattle.expr_code.specs.declared.home.Home.{Home}
pub use Rattle.expr_code.specs.declared.home.Home.TheVariants.{InRegister}
pub use Rattle.hart_runs.specs.Calls.{IsInPhase, has_all, takes_one, is_kept_from, all_have, one_takes, IsAtCall, phase_after, TakesLocks, AwaitsOthers}
pub use Rattle.hart_runs.specs.HartsOnRuns.{Agrees, instr_at, is_width, OnRun, environment_of, is_access, IsRunningAt}
pub use Rattle.hart_runs.specs.Laws.{IsApart, IsOfOthers, AreShort}
pub use Rattle.hart_runs.specs.RunSteps.{cleans_in, steps_left, Contents, Changes, is_clean}
pub use Rattle.hart_runs.proofs.Public.{takes_step, waits_step, resumes_step, stopped_stay, calls_count, persisted_agrees, beside_agrees, others_leave}
pub use Rattle.hart_runs.proofs.Public.{forward_reaches, drains_reach, cleans_reach_now, fences_settle, others_reach, effect_is, queues_stay_short}
pub use Rattle.hart_runs.proofs.Public.{starts_are_short, evictions_agree, crashes_step}
pub use Rattle.thread_code.specs.NodeCodeEffects.{Places, keeping, keeping_before, Entrance, kind_at, opens_section, view_after}
pub use Rattle.thread_code.specs.Plans.{Plan, IsLogged, IsNodeOf, IsKept, of_local, of_address, of_value, IsPlan, held_names_before, Thread, locks_held}
pub use Rattle.thread_code.specs.Plans.{IsThread}
pub use Rattle.thread_code.specs.Programs.{IsCalling, IsNodeCode, IsThreadCode, IsCallWithin, mark_of}
pub use Rattle.thread_code.specs.RegistersAtNodes.{IsPendingIn, HasPending, Enters, IsAnsweredIn, IsAnswered, source_of, IsFrameAnswered, IsReady, LogView}
pub use Rattle.thread_code.specs.RegistersAtNodes.{MayAssign, with_word, to_enter, to_assign}
pub use Rattle.thread_code.proofs.Public.{locals_are}
pub use Rattle.thread_runs.specs.CodeFragments.{IsLockOf, IsUnlockOf, ExitPoint, Arrives, Gives, Ends, IsOnFragment, IsEndOf, on_machine, Keeps, Asks, Took}
pub use Rattle.thread_runs.specs.CodeFragments.{Computes, Stage, effects_of, IsAtCore, IsOwnWord, ReadsOwn, IsPlaced, stage_after, MayDo, AreSeen, cleans_of}
pub use Rattle.thread_runs.specs.Laws.{AreMarksOf, FragmentsGoOn, GivesMutex, run_of, IsHeldUp, MarksPass, TakesMutex, stage_sees, run_at, IsAtSomeMark}
pub use Rattle.thread_runs.specs.Laws.{Performing, PassesMark, Stays, left_of, IsOnSomeFragment, GoesOnFrom}
pub use Rattle.thread_runs.proofs.Public.{unlocks_go_on, call_there, unlocks_give, ends_end, fragments_see_all, cores_see_all, others_keep_fragments}
pub use Rattle.thread_runs.proofs.Public.{others_keep_cores, plans_are_placed, cleans_on, locks_take, locks_wait, few_cleans, nodes_begin, next_by}
pub use Rattle.thread_runs.proofs.Public.{next_follows, marks_are_bounded, locks_are_well, unlocks_are_well, ends_are_well, arrivals_end, took_end, at_end}
pub use Rattle.thread_runs.proofs.Public.{threads_start, locks_go_on, any_at, stays_are_at_core, computes_end}
pub use Rattle.recovered_threads.specs.Laws.{AssignsAlike, AtBoundary, AreRecordsApart, IsBoundaryAt, after_lock, before_core, of_unlock}
pub use Rattle.recovered_threads.specs.RecordDescriptions.{Code, IsOrderly, ResumesAt, Describes, past_lock, at_chosen, AllDescribe, past_unlock, between}
pub use Rattle.recovered_threads.specs.RecordDescriptions.{DescribesAs, IsPastAssignment}
pub use Rattle.recovered_threads.specs.RecordDescriptions.{inside, IsCountedWord, IsNumberAssigned, NodePlace, the_core, the_entry, words_in}
pub use Rattle.recovered_threads.specs.RecoveryStates.{Gathers, HasGathered, AreGathered, AreGathering, Awaits, IsRecoveredHart, ResumesThread, HasRecord}
pub use Rattle.recovered_threads.proofs.Public.{same_there, same_or_other, holds_none_is, boundaries_recover, commits_describe, others_describe, gathered_on}
pub use Rattle.recovered_threads.proofs.Public.{ready_stays, takes_never_wait, points_settle, none_where, crashes_gather}
pub use Rattle.recovered_threads.proofs.Public.{waits_for_takers, gathered_go_on, records_are_apart, gathered_are_kept, harts_go_on, steps_orderly, gathers_on}
pub use Rattle.recovered_threads.proofs.Public.{unlocks_enter, assigned_is_apart, has_there, words_are_listed, words_exist}
pub use Rattle.crash_simulation.specs.AbstractRuns.{AbstractRun, kept_of, now_of, attempts_of}
pub use Rattle.crash_simulation.specs.AccountRelation.{IsCountedOf, IsAccountedOf, AreCounted, Beginning, AreStoredAt, stored_at, last_stored, SimulatesCounted}
pub use Rattle.crash_simulation.specs.AccountRelation.{MachinesResume, first_beginning}
pub use Rattle.crash_simulation.specs.BoundaryFences.{boundary_fences, fences_due, AreFencesCounted}
pub use Rattle.crash_simulation.specs.ThreadGhosts.{is_bound}
pub use Rattle.crash_simulation.specs.InstructionSteps.{is_leaving, SaysSame, begins, IsUnlocked, was_unlocked, Site, IsReadyToStep, calls, OwnStep}
pub use Rattle.crash_simulation.specs.InstructionSteps.{FragmentsStep, CoresStep, Nears, Releases, nothing_released, last_released, StepsOrStutters, with_ghost}
pub use Rattle.crash_simulation.specs.InstructionSteps.{gives, ends, stays, CallsStep, halts, is_nearer, MayStore, nothing, in_log, element, goes}
pub use Rattle.crash_simulation.specs.InstructionSteps.{OnFragmentNow, IsDoneBy, abstract_next, thread_of, begins_step, is_begun, asks, IsCounted, AtCoreNow}
pub use Rattle.crash_simulation.specs.InstructionSteps.{SimulatesReady, RunsReady, OwnStepsSimulate, begins_unlock, LocalStoresStep, stores_local}
pub use Rattle.crash_simulation.specs.Laws.{EventsStand, RunsSimulate, CommitStutters, NoneIsStuck, TakesMove, SettledIsKept, CrashSimulates, StartSimulates}
pub use Rattle.crash_simulation.specs.Laws.{TakesStand, WaitsStand, StoppedStand, ResumesStand, EvictionsSimulate}
pub use Rattle.crash_simulation.specs.PointSections.{SectionsEndAtPoints, loses_point}
pub use Rattle.crash_simulation.specs.RecoveredWords.{RecoveredAreCounted, IsRecoveredFrom, RecoveredWordsSimulate}
pub use Rattle.crash_simulation.specs.ReleasedSections.{sections_kept, one_if, IsReleasedOf, ended_in_machine, SectionsAreKept, in_step, cut_off}
pub use Rattle.crash_simulation.specs.SimulationRelation.{SimulatesBut, Simulates, anybody, IsGiving, AreHeld, AreLocked, gathering, gathered, nobody}
pub use Rattle.crash_simulation.specs.SimulationRelation.{records_of, IsMachineOf}
pub use Rattle.crash_simulation.specs.StepsToMark.{entry_ahead, most_ahead, IsSoon, beyond, weight, call_weight, core_ahead, weight_at}
pub use Rattle.crash_simulation.specs.Systems.{System, IsSystem, thread_count, flat_of, shapes_of, places_of, IsOwnCode}
pub use Rattle.crash_simulation.specs.ThreadGhosts.{Rests, ThreadGhost, on_fragment, at_core, InPhase, ThreadInv, IsRunningThread, GoesClean, IsBounded}
pub use Rattle.crash_simulation.specs.ThreadGhosts.{ExitInv, HasCommittedLog, committed, AnswersGuarded, IsGuarded, InFragment, is_reached, is_ahead, IsFlushed}
pub use Rattle.crash_simulation.specs.ThreadGhosts.{IsComing, HasStored, record_kept, IsInAttempt, HasRecords}
pub use Rattle.crash_simulation.specs.ThreadGhosts.{IsOnItsWay, durable_there, comes_with, recorded_in, in_frame, IsWordOf, IsReadable, of_element, of_frame}
pub use Rattle.crash_simulation.specs.ThreadGhosts.{ExitOwes, HasView, IsFrameComing, IsFrameFlushed, IsOwedAt, IsSectioned, frame_ahead, frame_reached}
pub use Rattle.crash_simulation.specs.ThreadGhosts.{AnswersLoaded, HasRead}

-- What the definitions compute.
use Rattle.std.specs.Prelude.{◌≡◌, ◌==◌, ℕ, suc, [], ◌∷◌, ◌++◌, List, Some, None, false, refl, codes, pos, negsuc}
use Rattle.std.specs.Fmt.{digits}
use Rattle.rand_core.specs.Steps.{first_words}
use Rattle.machine_events.specs.declared.event.Event.TheVariants as events
use Rattle.machine_events.specs.declared.event.Reply.TheVariants.{Moved}
use Rattle.log_schemes.specs.declared.log.Log.TheVariants.{V1, V2}
use Rattle.machine_events.specs.Cores.{Behaviour}
use Rattle.run_scripts.specs.Draws.{drawn_event, drawn_evictions, drawn_run, events_from}
use Rattle.run_scripts.specs.GeneratedSources.{generated_source, mutex_item, section_line, thread_head, thread_item, variable_item}
use Rattle.run_scripts.specs.Journals.{command_text, journal_text}
use Rattle.run_scripts.specs.Plays.{BadStart, PastFew, TooMany, fault_within, play_fault, script_events}
use Rattle.run_scripts.specs.Reports.{variable_line, element_text, count_line, count_lines, fence_lines, schedule_line, run_text, hart_text, unsettled_line}
use Rattle.run_scripts.specs.Scripts as s
use Rattle.run_scripts.specs.declared.script.Command.TheVariants.{Point, Evict, Start}
use Rattle.run_scripts.specs.declared.script.Command.TheVariants.{Steps as StepsOf}
use Rattle.run_scripts.specs.Schedules.{read, Lives, Refused, BadWord, BadNumber, TooMany}

-- ---- Reports

variable_by_line : variable_line (record { name = codes "x"; elements = Some (negsuc 9) ∷ [] }) ≡ codes "x = -10\n"
unfolding variable_line element_text digits
variable_by_line = refl

array_by_line : variable_line (record { name = codes "a_1"; elements = Some (pos 1) ∷ Some (pos 20) ∷ Some (pos 0) ∷ [] }) ≡ codes "a_1 = 1 20 0\n"
unfolding variable_line element_text digits
array_by_line = refl

references_by_line : variable_line (record { name = codes "h"; elements = None ∷ Some (pos 0) ∷ Some (pos 12) ∷ [] }) ≡ codes "h = null 0 12\n"
unfolding variable_line element_text digits
references_by_line = refl

ended_by_thread : count_lines (codes "ended") 0 (1 ∷ 20 ∷ []) ≡ codes "ended 0 1\nended 1 20\n"
unfolding count_line digits
ended_by_thread = refl

fences_by_thread : fence_lines (12 ∷ 0 ∷ []) ≡ codes "fences 0 12\nfences 1 0\n"
unfolding count_line digits
fences_by_thread = refl

runs_are_merged : schedule_line (0 ∷ 0 ∷ 1 ∷ 0 ∷ 1 ∷ 1 ∷ 1 ∷ []) ≡ codes "schedule 0*2 1*1 0*1 1*3\n"
unfolding schedule_line run_text digits
runs_are_merged = refl

empty_schedule : schedule_line [] ≡ codes "schedule\n"
unfolding schedule_line
empty_schedule = refl

unsettled_by_number : unsettled_line (0 ∷ 12 ∷ []) ≡ codes "unsettled 0 12\n"
unfolding unsettled_line hart_text digits
unsettled_by_number = refl

-- ---- Schedules

runs_are_read : read (codes "schedule 0*2 1*1\r\n02*003\n") ≡ Lives ((0 ∷ 0 ∷ 1 ∷ 2 ∷ 2 ∷ 2 ∷ []) ∷ [])
unfolding read
runs_are_read = refl

nothing_is_read : read (codes " \r\n ") ≡ Lives ([] ∷ [])
unfolding read
nothing_is_read = refl

no_steps : read (codes "1*1 0*0") ≡ Refused (BadWord 4)
unfolding read
no_steps = refl

later_schedule : read (codes "0*1 schedule 1*2") ≡ Lives ((0 ∷ []) ∷ (1 ∷ 1 ∷ []) ∷ [])
unfolding read
later_schedule = refl

empty_lives : read (codes "schedule schedule\nschedule") ≡ Lives ([] ∷ [] ∷ [] ∷ [])
unfolding read
empty_lives = refl

schedule_without_blank : read (codes "0*1 schedule0*1") ≡ Refused (BadWord 4)
unfolding read
schedule_without_blank = refl

tab_is_no_gap : read (codes "0*1\t1*1") ≡ Refused (BadWord 0)
unfolding read
tab_is_no_gap = refl

lone_return_is_no_gap : read (codes "0*1\r") ≡ Refused (BadWord 0)
unfolding read
lone_return_is_no_gap = refl

two_stars : read (codes "0*1*2") ≡ Refused (BadWord 0)
unfolding read
two_stars = refl

great_thread : read (codes "schedule 4294967296*1") ≡ Refused (BadNumber 9)
unfolding read
great_thread = refl

great_count : read (codes "7*4294967296") ≡ Refused (BadNumber 2)
unfolding read
great_count = refl

great_thread_without_steps : read (codes "5000000000*0") ≡ Refused (BadWord 0)
unfolding read
great_thread_without_steps = refl

too_many_steps : read (codes "0*1 1*4000000") ≡ Refused (TooMany 4)
unfolding read
too_many_steps = refl

-- ---- Scripts

lines_are_read : s.read V1 1 (codes "b 0\r\n\ne 1024 01\ns 0 100000") ≡ s.Lines (
    record { place = 0; command = Point 0 } ∷ record { place = 6; command = Evict 1024 1 } ∷ record { place = 16; command = StepsOf 0 100000 } ∷ []
    )
unfolding s.read
lines_are_read = refl

hart_before_word : s.read V1 1 (codes "s 9x 1") ≡ s.Refused (s.NoHart 2)
unfolding s.read
hart_before_word = refl

number_before_word : s.read V1 9 (codes "c\ns 4294967296x") ≡ s.Refused (s.BadNumber 4)
unfolding s.read
number_before_word = refl

great_mask : s.read V1 1 (codes "e 0 256") ≡ s.Refused (s.BadNumber 4)
unfolding s.read
great_mask = refl

no_line : s.read V1 1 (codes "e 1040 1") ≡ s.Refused (s.NoLine 2)
unfolding s.read
no_line = refl

line_of_lists : s.read V2 1 (codes "e 1055 1") ≡ s.Lines (record { place = 0; command = Evict 1055 1 } ∷ [])
unfolding s.read
line_of_lists = refl

no_line_of_lists : s.read V2 1 (codes "e 1056 1") ≡ s.Refused (s.NoLine 2)
unfolding s.read
no_line_of_lists = refl

too_short : s.read V1 1 (codes "s 0\r\nc") ≡ s.Refused (s.BadWord 3)
unfolding s.read
too_short = refl

return_at_the_end : s.read V1 1 (codes "c\r") ≡ s.Refused (s.BadWord 1)
unfolding s.read
return_at_the_end = refl

two_spaces : s.read V1 1 (codes "s  0 1") ≡ s.Refused (s.BadWord 2)
unfolding s.read
two_spaces = refl

start_is_read : s.read V1 1 (codes "r\r\nr") ≡ s.Lines (record { place = 0; command = Start } ∷ record { place = 3; command = Start } ∷ [])
unfolding s.read
start_is_read = refl

start_with_number : s.read V1 1 (codes "r 1") ≡ s.Refused (s.BadWord 1)
unfolding s.read
start_with_number = refl

-- ---- Plays

-- a core that counts its events, and in which another life may begin after two of them
abbrev counting : Behaviour ℕ
counting = record {
  next = λ n e. suc n;
  reply = λ n e. Moved;
  is_stopped = λ n h. false;
  can_start = λ n. n == 2;
  stores_point = λ n h e. false;
  finishes_fence = λ n h e. false;
}

-- so many steps, a start and one step more
abbrev steps_and_start : (count : ℕ) → List s.Line
steps_and_start count =
    record { place = 0; command = StepsOf 0 count } ∷ record { place = 6; command = Start } ∷ record { place = 8; command = StepsOf 0 1 } ∷ []

start_in_time : script_events counting 1 0 (steps_and_start 2) ≡ events.Step 0 ∷ events.Step 0 ∷ events.Start ∷ events.Step 0 ∷ []
start_in_time = refl

start_too_soon : script_events counting 1 0 (steps_and_start 1) ≡ events.Step 0 ∷ []
start_too_soon = refl

no_fault : play_fault counting 1 0 4 (steps_and_start 2) ≡ None
no_fault = refl

bad_start : play_fault counting 1 0 4 (steps_and_start 1) ≡ Some (BadStart 6)
bad_start = refl

too_many_at_bad_start : play_fault counting 1 0 1 (steps_and_start 1) ≡ Some (TooMany 6)
too_many_at_bad_start = refl

bad_start_past_few : fault_within counting 1 0 4 1 (steps_and_start 1) ≡ Some (BadStart 6)
bad_start_past_few = refl

start_past_few : fault_within counting 1 0 4 2 (steps_and_start 2) ≡ Some (PastFew 6)
start_past_few = refl

-- ---- Drawn runs

nothing_is_drawn : drawn_run 7 0 [] V1 1 1 ≡ []
unfolding drawn_run events_from first_words
nothing_is_drawn = refl

steps_and_evictions : drawn_run 0 4 [] V1 2 3 ≡ events.Evict 1046 168 ∷ events.Step 1 ∷ events.Evict 0 93 ∷ events.Step 1 ∷ []
unfolding drawn_run events_from first_words drawn_event
steps_and_evictions = refl

draws_of_more_lines : drawn_run 0 4 [] V2 2 3 ≡ events.Evict 1080 168 ∷ events.Step 1 ∷ events.Evict 1051 93 ∷ events.Step 1 ∷ []
unfolding drawn_run events_from first_words drawn_event
draws_of_more_lines = refl

crashes_among_draws : drawn_run 7 3 (0 ∷ 2 ∷ 3 ∷ 2 ∷ 4 ∷ []) V1 2 3
    ≡ events.Crash ∷ events.Step 1 ∷ events.Step 0 ∷ events.Crash ∷ events.Crash ∷ events.Step 0 ∷ events.Crash ∷ []
unfolding drawn_run events_from first_words drawn_event
crashes_among_draws = refl

nothing_without_threads : drawn_run 7 3 (0 ∷ []) V1 0 3 ≡ []
unfolding drawn_run
nothing_without_threads = refl

first_eviction : drawn_evictions 7 V1 1 1 0 ≡ (1029, 225)
unfolding drawn_evictions first_words
first_eviction = refl

first_of_more_lines : drawn_evictions 7 V2 1 1 0 ≡ (1051, 225)
unfolding drawn_evictions first_words
first_of_more_lines = refl

fourth_eviction : drawn_evictions 7 V1 1 1 3 ≡ (1035, 235)
unfolding drawn_evictions first_words
fourth_eviction = refl

evictions_of_many_lines : drawn_evictions 7 V1 8 1024 0 ≡ (397, 225)
unfolding drawn_evictions first_words
evictions_of_many_lines = refl

-- ---- Sources that are made

one_round : generated_source 1 0
    ≡ codes "mutex m0;\nmutex m1;\nmutex m2;\nmutex m3;\n"
    ++ codes "persistent(m0) long a0[16];\npersistent(m1) long a1[16];\npersistent(m2) long a2[16];\npersistent(m3) long a3[16];\n"
    ++ codes "thread t0 {\n  for (int i = 0; i < 1; i++) {\n    lock(m0); a0[i & 15] += 1; unlock(m0);\n    lock(m1); a1[i & 15] += 6; unlock(m1);\n"
    ++ codes "    lock(m2); a2[i & 15] += 2; unlock(m2);\n    lock(m3); a3[i & 15] += 7; unlock(m3);\n  }\n}\n"
    ++ codes "thread t1 {\n  for (int i = 0; i < 1; i++) {\n    lock(m1); a1[i & 15] += 4; unlock(m1);\n    lock(m2); a2[i & 15] += 9; unlock(m2);\n"
    ++ codes "    lock(m3); a3[i & 15] += 5; unlock(m3);\n    lock(m0); a0[i & 15] += 1; unlock(m0);\n  }\n}\n"
    ++ codes "thread t2 {\n  for (int i = 0; i < 1; i++) {\n    lock(m2); a2[i & 15] += 7; unlock(m2);\n    lock(m3); a3[i & 15] += 3; unlock(m3);\n"
    ++ codes "    lock(m0); a0[i & 15] += 8; unlock(m0);\n    lock(m1); a1[i & 15] += 4; unlock(m1);\n  }\n}\n"
    ++ codes "thread t3 {\n  for (int i = 0; i < 1; i++) {\n    lock(m3); a3[i & 15] += 1; unlock(m3);\n    lock(m0); a0[i & 15] += 6; unlock(m0);\n"
    ++ codes "    lock(m1); a1[i & 15] += 2; unlock(m1);\n    lock(m2); a2[i & 15] += 7; unlock(m2);\n  }\n}\n"
unfolding generated_source mutex_item variable_item thread_item thread_head section_line digits
one_round = refl

-- ---- Journals

events_by_line : journal_text (codes "mutex m;") (
    events.Step 0 ∷ events.Step 0 ∷ events.Step 10 ∷ events.Crash ∷ events.Crash ∷ events.Step 10 ∷ events.Evict 1024 255 ∷ events.Step 10 ∷ []
    ) ≡ codes "mutex m;\n%%\ns 0 2\ns 10 1\nc\nc\ns 10 1\ne 1024 255\ns 10 1\n"
unfolding journal_text command_text digits
events_by_line = refl

start_by_line : journal_text (codes "mutex m;") (events.Step 0 ∷ events.Start ∷ events.Step 0 ∷ []) ≡ codes "mutex m;\n%%\ns 0 1\nr\ns 0 1\n"
unfolding journal_text command_text digits
start_by_line = refl

source_that_ends_a_line : journal_text (codes "mutex m;\n") [] ≡ codes "mutex m;\n%%\n"
unfolding journal_text
source_that_ends_a_line = refl

source_without_text : journal_text [] [] ≡ codes "\n%%\n"
unfolding journal_text
source_without_text = refl

-- What a run of the top call comes to.
use Rattle.std.proofs.Common.{◌≡◌, ℕ, ◌+◌, ◌<◌, ◌⊎◌, List, [], ◌∷◌, length, replicate, Some, None, true, false}
use Rattle.std.proofs.Common.{refl, sym, subst, arith, IfSome, inl, inr, Bool, ap, ◌∙◌, Result, Ok, Err}
use Rattle.std.specs.declared.option.Option.{Option}
use Rattle.std.proofs.lemmas.List.{append-nil, length-replicate}
use Rattle.std.specs.Prelude.{codes, IfOk, IsErrOf, OnErr}
use Rattle.ido_outside.specs.Causes.{Rose}
use Rattle.ido_outside.specs.Sink.{Adds}
use Rattle.ido_cli.specs.declared.said.Said.{Said}
use Rattle.ido_cli.specs.declared.top.Unsaid.{Unsaid}
use Rattle.ido_cli.specs.declared.top.Unsaid.TheVariants.{Failed, Memory}
use Rattle.machine_events.specs.declared.event.Event.{Event}
use Rattle.ido_base.specs.declared.limits.TheConstants.{MOST_INPUT_BYTES}
use Rattle.log_schemes.specs.declared.log.Log.{Log}
use Rattle.c_tree.specs.Flats as f
use Rattle.machine_model.specs.Machine.{World}
use Rattle.compiler_correctness.specs.Translations.{Translation}
use Rattle.command_words.specs.declared.command.Command.{Command}
use Rattle.command_words.specs.declared.command.Command.TheVariants as command
use Rattle.command_words.specs.Commands.{command_of, is_unread, reads_input}
use Rattle.ido_cli.specs.Runs.{RunAnswer, ran, stopped, run_state, status_by}
use Rattle.ido_cli.specs.Images.{IsImageAfter}
use Rattle.ido_cli.specs.Inputs.{source_of}
use Rattle.ido_cli.specs.Plays.{IsFencedRun, IsRunBy, faulty, ran as ran_by}
use Rattle.ido_cli.specs.Answers.{CompileAnswer, uncompiled, compiled, RegionsAnswer, uncut, cut, ScriptedAnswer}
use Rattle.ido_cli.specs.Answers.{unplayed, no_script, of_script, SourceAnswer, unaccepted, no_schedule, of_schedules}
use Rattle.ido_cli.specs.Answers.{OrderAnswer, unlocked, unordered, ordered}
use Rattle.ido_cli.specs.Answers.{CommandAnswer, ListAnswer, no_object, of_object, RecoverAnswer, no_image, of_image, SeededAnswer, undrawn, drawn}
use Rattle.ido_cli.specs.Answers.{SweepAnswer, no_points, of_points, unswept}
use Rattle.ido_cli.specs.Answers.{UpgradeAnswer, not_older, of_older}
use Rattle.ido_cli.specs.Upgrades.{IsUpgradeSaid, renewed, too_long, unfinished}
use Rattle.ido_compile.specs.CompileAnswers.{translation_in}
use Rattle.ido_cli.specs.Sweeps.{status_of, swept, faulty as unswept_script}
use Rattle.ido_cli.specs.Answers.{LiveAnswer, unrun, ran as ran_on_threads, LoadAnswer}
use Rattle.ido_cli.specs.Answers.{IsPastLimits, AnswerToInput, past_limits, within_limits, Refuses, wrong_words, taken_words}
use Rattle.ido_cli.specs.Answers.{IsAnswer, IsAnswered, Outside, answered, no_memory, sink_failed, source_failed}
use Rattle.ido_cli.specs.Deliveries.{IsSaidToInput, IsSaidTo, IsTaken, to_wrong_words, to_command, IsDelivered, whole, broken}

-- ---- Inputs that the source may not tell

some_longer : (n : ℕ) → (input : List ℕ) × (n < length input)
some_longer n = (replicate (n + 1) 0, omega (arith, length-replicate {A = ℕ} (n + 1) 0))

long_is_past : (c : Command) (input : List ℕ) → reads_input c ≡ true → MOST_INPUT_BYTES < length input → IsPastLimits c input
long_is_past (command.Compile scheme) input reads long = omega (arith, long)
long_is_past (command.Regions least) input reads long = omega (arith, long)
long_is_past (command.Play fences scheme) input reads long = inl long
long_is_past command.Source input reads long = inl long
long_is_past command.List input reads long = long
long_is_past (command.Image scheme) input reads long = inl long
long_is_past command.Order input reads long = omega (arith, long)
long_is_past (command.Recover turns) input reads long = long
long_is_past (command.Upgrade turns) input reads long = long
long_is_past (command.Make rounds seed) input reads long = cc reads
long_is_past (command.Seeded seed turns crashes journal scheme) input reads long = omega (arith, long)
long_is_past (command.Live turns crashes evict journal scheme) input reads long = omega (arith, long)
long_is_past (command.Load rounds seed scheme) input reads long = cc reads
long_is_past (command.Sweep scheme) input reads long = inl long

pub said_to_long_input : (c : Command) (left : Option (List ℕ)) (said : Said) → IsTaken c left None → Refuses 6 said.status (codes "limit") said.output.items →
    IsSaidToInput c left said
said_to_long_input c (Some bytes) said (reads, long) refused =
    record { input = bytes; told = refl; answer = past_limits (long_is_past c bytes reads long) refused }
said_to_long_input c None said (reads, long) refused =
    let some : (input : List ℕ) × (MOST_INPUT_BYTES < length input) = some_longer MOST_INPUT_BYTES in
    record { input = some.0; told = tt; answer = past_limits (long_is_past c some.0 reads some.1) refused }

told_some : (left : Option (List ℕ)) → (input : List ℕ) × IfSome left (λ bytes. input ≡ bytes)
told_some (Some bytes) = (bytes, refl)
told_some None = ([], tt)

-- ---- Commands that read no input

any_input : (c : Command) (input other : List ℕ) (status : ℕ) (output : List ℕ) → reads_input c ≡ false → AnswerToInput c input status output →
    AnswerToInput c other status output
any_input (command.Compile scheme) input other status output unread answer = cc unread
any_input (command.Regions least) input other status output unread answer = cc unread
any_input (command.Play fences scheme) input other status output unread answer = cc unread
any_input command.Source input other status output unread answer = cc unread
any_input command.List input other status output unread answer = cc unread
any_input (command.Image scheme) input other status output unread answer = cc unread
any_input command.Order input other status output unread answer = cc unread
any_input (command.Recover turns) input other status output unread answer = cc unread
any_input (command.Upgrade turns) input other status output unread answer = cc unread
any_input (command.Make rounds seed) input other status output unread (past_limits past refused) = absurd past
any_input (command.Make rounds seed) input other status output unread (within_limits within answer) = within_limits (λ past. past) answer
any_input (command.Seeded seed turns crashes journal scheme) input other status output unread answer = cc unread
any_input (command.Live turns crashes evict journal scheme) input other status output unread answer = cc unread
any_input (command.Sweep scheme) input other status output unread answer = cc unread
any_input (command.Load rounds seed scheme) input other status output unread (past_limits past refused) = absurd past
any_input (command.Load rounds seed scheme) input other status output unread (within_limits within answer) = within_limits (λ past. past) answer

said_to_no_input : (c : Command) (left : Option (List ℕ)) (said : Said) → reads_input c ≡ false →
    AnswerToInput c [] said.status said.output.items → IsSaidToInput c left said
said_to_no_input c left said unread answer =
    let some : (input : List ℕ) × IfSome left (λ bytes. input ≡ bytes) = told_some left in
    record { input = some.0; told = some.1; answer = any_input c [] some.0 said.status said.output.items unread answer }

pub said_to_taken_input : (c : Command) (left : Option (List ℕ)) (bytes : List ℕ) (said : Said) → IsTaken c left (Some bytes) →
    AnswerToInput c bytes said.status said.output.items → IsSaidToInput c left said
said_to_taken_input c left bytes said (short, read, unread) answer = by (reads_input c) refl
  where
    by : (b : Bool) → reads_input c ≡ b → IsSaidToInput c left said
    by true e = record { input = bytes; told = read e; answer = answer }
    by false e = said_to_no_input c left said e (subst (λ (i : List ℕ). AnswerToInput c i said.status said.output.items) (unread e) answer)

-- ---- Words

answer_to_wrong_words : (words : List (List ℕ)) (left : Option (List ℕ)) (status : ℕ) (output : List ℕ) → command_of words ≡ None → status ≡ 2 →
    output ≡ codes "refused words\n" → IsAnswer words left status output
answer_to_wrong_words words left status output wrong status_is output_is =
    let some : (input : List ℕ) × IfSome left (λ bytes. input ≡ bytes) = told_some left in
    record { input = some.0; told = some.1; answer = wrong_words wrong (status_is, output_is) }

answer_to_taken_words : (words : List (List ℕ)) (c : Command) (left : Option (List ℕ)) (said : Said) → command_of words ≡ Some c →
    IsSaidToInput c left said → IsAnswer words left said.status said.output.items
answer_to_taken_words words c left said taken s = record { input = s.input; told = s.told; answer = taken_words c taken s.answer }

pub answer_to_said : (words : List (List ℕ)) (named : Option Command) (left : Option (List ℕ)) (said : Said) → command_of words ≡ named →
    IsSaidTo named left said → IsAnswer words left said.status said.output.items
answer_to_said words named left said names (to_wrong_words none (status, output)) =
    answer_to_wrong_words words left said.status said.output.items (names ∙ none) status output
answer_to_said words named left said names (to_command c some s) = answer_to_taken_words words c left said (names ∙ some) s

pub said_to_command : (c : Command) (left : Option (List ℕ)) (r : Result Said Unsaid) → IfOk r (λ said. IsSaidToInput c left said) →
    IfOk r (λ said. IsSaidTo (Some c) left said)
said_to_command c left (Ok said) s = to_command c refl s
said_to_command c left (Err why) s = tt

-- ---- Statuses of answers

not_four_or_seven : (status n : ℕ) → status ≡ n → (n < 4) ⊎ (n ≡ 6) → (status ≡ 4) ⊎ (status ≡ 7) → ⊥
not_four_or_seven status n e small h = omega arith

by_unsettled : (unsettled : List ℕ) (status : ℕ) → status ≡ status_by unsettled → (status ≡ 4) ⊎ (status ≡ 7) → ⊥
by_unsettled [] status e h = not_four_or_seven status 0 e (inl (omega arith)) h
by_unsettled (t ∷ ts) status e h = not_four_or_seven status 3 e (inl (omega arith)) h

of_run : (x : f.Flat) (lives : List (List ℕ)) (status : ℕ) (output : List ℕ) → RunAnswer x lives status output → (status ≡ 4) ⊎ (status ≡ 7) → ⊥
of_run x lives status output (ran runs reported) h = by_unsettled (run_state x lives).unsettled status reported.status_is h
of_run x lives status output (stopped stop is e out) h = not_four_or_seven status 6 e (inr refl) h

of_source : (input : List ℕ) (status : ℕ) (output : List ℕ) → SourceAnswer input status output → (status ≡ 4) ⊎ (status ≡ 7) → ⊥
of_source input status output (unaccepted found place is refused) h = not_four_or_seven status 1 refused.0 (inl (omega arith)) h
of_source input status output (no_schedule flat is x read refused) h = not_four_or_seven status 6 refused.0 (inr refl) h
of_source input status output (of_schedules flat is lives read answer) h = of_run flat lives status output answer h

of_compile : {log : Log} (source : List ℕ) (status : ℕ) (output : List ℕ) → CompileAnswer log source status output → (status ≡ 4) ⊎ (status ≡ 7) → ⊥
of_compile source status output (uncompiled found place is refused) h = not_four_or_seven status 1 refused.0 (inl (omega arith)) h
of_compile source status output (compiled flat is c made e told) h = not_four_or_seven status 0 e (inl (omega arith)) h

of_regions : (least : Bool) (source : List ℕ) (status : ℕ) (output : List ℕ) → RegionsAnswer least source status output → (status ≡ 4) ⊎ (status ≡ 7) → ⊥
of_regions least source status output (uncut found place is refused) h = not_four_or_seven status 1 refused.0 (inl (omega arith)) h
of_regions least source status output (cut flat is c made e told) h = not_four_or_seven status 0 e (inl (omega arith)) h

of_order : (source : List ℕ) (status : ℕ) (output : List ℕ) → OrderAnswer source status output → (status ≡ 4) ⊎ (status ≡ 7) → ⊥
of_order source status output (unlocked found place is refused) h = not_four_or_seven status 1 refused.0 (inl (omega arith)) h
of_order source status output (unordered flat is fault breaks e told) h = not_four_or_seven status 1 e (inl (omega arith)) h
of_order source status output (ordered flat is none e told) h = not_four_or_seven status 0 e (inl (omega arith)) h

of_scripted : {log : Log} (Says : Translation → List Event → ℕ → List ℕ → Type 0) →
    ((c : Translation) (events : List Event) (status : ℕ) (output : List ℕ) → Says c events status output → (status ≡ 4) ⊎ (status ≡ 7) → ⊥) →
    (input : List ℕ) (status : ℕ) (output : List ℕ) → ScriptedAnswer log Says input status output → (status ≡ 4) ⊎ (status ≡ 7) → ⊥
of_scripted Says others input status output (unplayed found place is refused) h = not_four_or_seven status 1 refused.0 (inl (omega arith)) h
of_scripted Says others input status output (no_script flat is x read refused) h = not_four_or_seven status 6 refused.0 (inr refl) h
of_scripted Says others input status output (of_script flat is lines read c made (faulty fault at refused)) h =
    not_four_or_seven status 6 refused.0 (inr refl) h
of_scripted Says others input status output (of_script flat is lines read c made (ran_by none fits said)) h = others c _ status output said h

by_settled : (settled : Bool) (status : ℕ) → status ≡ status_of settled → (status ≡ 4) ⊎ (status ≡ 7) → ⊥
by_settled true status e h = not_four_or_seven status 0 e (inl (omega arith)) h
by_settled false status e h = not_four_or_seven status 3 e (inl (omega arith)) h

of_sweep : {log : Log} (input : List ℕ) (status : ℕ) (output : List ℕ) → SweepAnswer log input status output → (status ≡ 4) ⊎ (status ≡ 7) → ⊥
of_sweep input status output (unswept found place is refused) h = not_four_or_seven status 1 refused.0 (inl (omega arith)) h
of_sweep input status output (no_points flat is x read refused) h = not_four_or_seven status 6 refused.0 (inr refl) h
of_sweep input status output (of_points flat is lines read c made (unswept_script fault at refused)) h = not_four_or_seven status 6 refused.0 (inr refl) h
of_sweep input status output (of_points flat is lines read c made (swept none few all)) h = by_settled _ status all.status_is h

of_recover : (turns : ℕ) (input : List ℕ) (status : ℕ) (output : List ℕ) → RecoverAnswer turns input status output → (status ≡ 4) ⊎ (status ≡ 7) → ⊥
of_recover turns input status output (no_image error is e told) h = not_four_or_seven status 6 e (inr refl) h
of_recover turns input status output (of_image image is on recovery) h = by_unsettled _ status recovery.reported.status_is h

of_upgraded : (source : List ℕ) (c : Translation) (w : World) (kept : List (List ℕ)) (status : ℕ) (output : List ℕ) →
    IsUpgradeSaid source c w kept status output → (status ≡ 4) ⊎ (status ≡ 7) → ⊥
of_upgraded source c w kept status output (unfinished goes_on told) h = by_unsettled _ status told.status_is h
of_upgraded source c w kept status output (too_long settled many e told) h = not_four_or_seven status 6 e (inr refl) h
of_upgraded source c w kept status output (renewed settled fits e told read) h = not_four_or_seven status 0 e (inl (omega arith)) h

of_upgrade : (turns : ℕ) (input : List ℕ) (status : ℕ) (output : List ℕ) → UpgradeAnswer turns input status output → (status ≡ 4) ⊎ (status ≡ 7) → ⊥
of_upgrade turns input status output (not_older error is e told) h = not_four_or_seven status 6 e (inr refl) h
of_upgrade turns input status output (of_older image source is on upgrade) h =
    of_upgraded source (translation_in image.compiled) _ _ status output upgrade.said h

of_seeded : {log : Log} (seed turns : ℕ) (crashes : List ℕ) (journal : Bool) (source : List ℕ) (status : ℕ) (output : List ℕ) →
    SeededAnswer log seed turns crashes journal source status output → (status ≡ 4) ⊎ (status ≡ 7) → ⊥
of_seeded seed turns crashes journal source status output (undrawn found place is refused) h = not_four_or_seven status 1 refused.0 (inl (omega arith)) h
of_seeded seed turns crashes false source status output (drawn flat is c made run) h = by_unsettled _ status run.reported.status_is h
of_seeded seed turns crashes true source status output (drawn flat is c made told) h = not_four_or_seven status 0 told.0 (inl (omega arith)) h

of_live : {log : Log} (turns : ℕ) (crashes : List ℕ) (evict : Option ℕ) (journal : Bool) (source : List ℕ) (status : ℕ) (output : List ℕ) →
    LiveAnswer log turns crashes evict journal source status output → (status ≡ 4) ⊎ (status ≡ 7) → ⊥
of_live turns crashes evict journal source status output (unrun found place is refused) h = not_four_or_seven status 1 refused.0 (inl (omega arith)) h
of_live turns crashes evict false source status output (ran_on_threads flat is c made events legs run) h = by_unsettled _ status run.reported.status_is h
of_live turns crashes evict true source status output (ran_on_threads flat is c made events legs told) h =
    not_four_or_seven status 0 told.0 (inl (omega arith)) h

of_load : {log : Log} (rounds seed status : ℕ) (output : List ℕ) → LoadAnswer log rounds seed status output → (status ≡ 4) ⊎ (status ≡ 7) → ⊥
of_load rounds seed status output answer h = by_unsettled _ status answer.summary.summed.status_is h

of_list : (input : List ℕ) (status : ℕ) (output : List ℕ) → ListAnswer input status output → (status ≡ 4) ⊎ (status ≡ 7) → ⊥
of_list input status output (no_object fault read e told) h = not_four_or_seven status 6 e (inr refl) h
of_list input status output (of_object object read e told) h = not_four_or_seven status 0 e (inl (omega arith)) h

of_command : (c : Command) (input : List ℕ) (status : ℕ) (output : List ℕ) → CommandAnswer c input status output → (status ≡ 4) ⊎ (status ≡ 7) → ⊥
of_command (command.Compile scheme) input status output answer h = of_compile input status output answer h
of_command (command.Regions least) input status output answer h = of_regions least input status output answer h
of_command (command.Play false scheme) input status output answer h =
    of_scripted IsRunBy (λ c events s o run. by_unsettled _ s run.reported.status_is) input status output answer h
of_command (command.Play true scheme) input status output answer h =
    of_scripted IsFencedRun (λ c events s o fenced. by_unsettled _ s fenced.run.reported.status_is) input status output answer h
of_command command.Source input status output answer h = of_source input status output answer h
of_command command.List input status output answer h = of_list input status output answer h
of_command (command.Image scheme) input status output answer h =
    of_scripted (IsImageAfter (source_of input)) (λ c events s o image. not_four_or_seven s 0 image.status_is (inl (omega arith))) input status output
    answer h
of_command command.Order input status output answer h = of_order input status output answer h
of_command (command.Recover turns) input status output answer h = of_recover turns input status output answer h
of_command (command.Upgrade turns) input status output answer h = of_upgrade turns input status output answer h
of_command (command.Make rounds seed) input status output answer h = not_four_or_seven status 0 answer.status_is (inl (omega arith)) h
of_command (command.Seeded seed turns crashes journal scheme) input status output answer h = of_seeded seed turns crashes journal input status output answer h
of_command (command.Live turns crashes evict journal scheme) input status output answer h = of_live turns crashes evict journal input status output answer h
of_command (command.Load rounds seed scheme) input status output answer h = of_load rounds seed status output answer h
of_command (command.Sweep scheme) input status output answer h = of_sweep input status output answer h

of_input : (c : Command) (input : List ℕ) (status : ℕ) (output : List ℕ) → AnswerToInput c input status output → (status ≡ 4) ⊎ (status ≡ 7) → ⊥
of_input c input status output (past_limits past refused) h = not_four_or_seven status 6 refused.0 (inr refl) h
of_input c input status output (within_limits within answer) h = of_command c input status output answer h

of_said : (named : Option Command) (left : Option (List ℕ)) (said : Said) → IsSaidTo named left said → (said.status ≡ 4) ⊎ (said.status ≡ 7) → ⊥
of_said named left said (to_wrong_words none refused) h = not_four_or_seven said.status 2 refused.0 (inl (omega arith)) h
of_said named left said (to_command c some s) h = of_input c s.input said.status said.output.items s.answer h

-- ---- What was delivered

answered_by_delivery : (words : List (List ℕ)) (o : Outside) (said : Said) (status : ℕ) → IsAnswer words o.left said.status said.output.items →
    IsDelivered said o.written_before o.written o.sink_faults_before o.sink_faults status → IsAnswered words o status
answered_by_delivery words o said status answer (whole e added) =
    answered said.output.items (subst (λ (s : ℕ). IsAnswer words o.left s said.output.items) (sym e) answer) added
answered_by_delivery words o said status answer (broken e rose added) = sink_failed said.output.items said.status e rose answer added

adds_nothing : (written : Option (List ℕ)) → Adds written written []
adds_nothing (Some bytes) = sym (append-nil bytes)
adds_nothing None = tt

nothing_added : (before after : Option (List ℕ)) → after ≡ before → Adds before after []
nothing_added before after same = subst (λ (w : Option (List ℕ)). Adds before w []) (sym same) (adds_nothing before)

-- what is said to words that name this command, or aren't taken, or why nothing is; and the status, with what was written
pub answered_by : (words : List (List ℕ)) (named : Option Command) (o : Outside) (r : Result Said Unsaid) (status : ℕ) → command_of words ≡ named →
    IfOk r (λ said. IsSaidTo named o.left said) → (IsErrOf r Failed → Rose o.source_faults_before o.source_faults) →
    (IsErrOf r Failed → is_unread named ≡ false) →
    IfOk r (λ said. IsDelivered said o.written_before o.written o.sink_faults_before o.sink_faults status) → (IsErrOf r Failed → status ≡ 4) →
    (IsErrOf r Memory → status ≡ 7) → OnErr r (o.written ≡ o.written_before) → IsAnswered words o status
answered_by words named o (Ok said) status names s failed read delivered four seven unwritten =
    answered_by_delivery words o said status (answer_to_said words named o.left said names s) delivered
answered_by words named o (Err Failed) status names s failed read delivered four seven unwritten =
    source_failed (ap is_unread names ∙ read refl) (four refl) (failed refl) (nothing_added o.written_before o.written unwritten)
answered_by words named o (Err Memory) status names s failed read delivered four seven unwritten =
    no_memory (seven refl) (nothing_added o.written_before o.written unwritten)

delivered_something : (named : Option Command) (left : Option (List ℕ)) (said : Said) (before after : Option (List ℕ))
    (faults_before faults status : ℕ) → IsSaidTo named left said → IsDelivered said before after faults_before faults status →
    (status ≡ 4) ⊎ (status ≡ 7) → ⊥
delivered_something named left said before after faults_before faults status answer (whole e added) h =
    of_said named left said answer (subst (λ (s : ℕ). (s ≡ 4) ⊎ (s ≡ 7)) e h)
delivered_something named left said before after faults_before faults status answer (broken e rose added) h = omega (arith, e, h)

module _ {K : Type 0} (written : K → Option (List ℕ)) where
  pub unwritten_by : (r : Result Said Unsaid) (before after : K) → OnErr r (after ≡ before) → OnErr r (written after ≡ written before)
  unwritten_by (Ok said) before after unwritten = tt
  unwritten_by (Err why) before after unwritten = ap written unwritten

  pub finished_unwritten : (faults : K → ℕ) (named : Option Command) (left : Option (List ℕ)) (r : Result Said Unsaid) (before after : K) (status : ℕ) →
      IfOk r (λ said. IsSaidTo named left said) → IfOk r (λ said. IsDelivered said (written before) (written after) (faults before) (faults after) status) →
      OnErr r (after ≡ before) → (status ≡ 4) ⊎ (status ≡ 7) → after ≡ before
  finished_unwritten faults named left (Ok said) before after status s delivered unwritten h =
      absurd (delivered_something named left said (written before) (written after) (faults before) (faults after) status s delivered h)
  finished_unwritten faults named left (Err why) before after status s delivered unwritten h = unwritten

-- What is said of runs on threads.
use Rattle.std.proofs.Common.{◌≡◌, refl, ℕ, ◌+◌, ◌<◌, ◌≤◌, ◌^◌, List, [], ◌∷◌, ◌++◌, length, sym, ap}
use Rattle.std.proofs.Common.{◌∙◌, subst, arith, length-append, Option, Some, None, Bool, true}
use Rattle.std.specs.Prelude.{◌-◌, Err, IfSome, codes, decimal, flat_map, nat_le}
use Rattle.std.proofs.lemmas.Bool.{leb-true}
use Rattle.std.proofs.lemmas.Fmt.{length-decimal-le}
use Rattle.log_schemes.specs.declared.log.Log.{Log}
use Rattle.ido_base.specs.Places.{line_feed}
use Rattle.machine_events.specs.declared.event.Event.{Event}
use Rattle.ido_base.specs.declared.limits.TheConstants.{MOST_SOURCE_BYTES}
use Rattle.c_tree.specs.Flats as f
use Rattle.machine_model.specs.declared.object.Object.{Object}
use Rattle.rv64_isa.specs.declared.object.Marks.{Marks}
use Rattle.machine_model.specs.Machine.{IsEviction, World}
use Rattle.machine_model.specs.Schedule.{Steps, schedules}
use Rattle.flow_graph.specs.declared.cuts.Cuts.{Cuts}
use Rattle.compiler_correctness.specs.Translations.{Translation, world, translation_to}
use Rattle.compiler_correctness.specs.Compilations.{IsCompilation}
use Rattle.hart_driver.specs.declared.stop.Stop.{Stop}
use Rattle.hart_driver.specs.Driven.{evictions_of as coming_of}
use Rattle.hart_driver.specs.Legs.{IsLeg}
use Rattle.ido_compile.specs.CompileAnswers.{IsCompileAnswerAs}
use Rattle.ido_compile.specs.declared.error.CompileError.{CompileError}
use Rattle.ido_compile.specs.declared.error.CompileError.TheVariants as error
use Rattle.run_scripts.specs.declared.evictor.Evictor.{Evictor}
use Rattle.run_scripts.specs.GeneratedSources.{addend_of, four, generated_source, mutex_item, mutex_of, section_line, thread_head, thread_item, variable_item}
use Rattle.run_scripts.specs.Reports.{line}
use Rattle.run_scripts.specs.links.Evictors.{evictions_of}
use Rattle.run_tracker.specs.ObjectLives.{Course, LifeConfig, new_life, opening_of, steps_in, world_of}
use Rattle.ido_cli.specs.declared.live.Run.{Run}
use Rattle.ido_cli.specs.Answers.{LiveAnswer, unrun}
use Rattle.ido_cli.specs.Loads.{IsSummary}
use Rattle.ido_cli.specs.Plays.{beginning}
use Rattle.ido_cli.specs.Reports.{machine_state}
use Rattle.ido_cli.specs.ThreadedRuns.{AreLegs, AreRounds, evictions_by, leg_after, load_turns, moment_after, most_leg_events}
use Rattle.ido_cli.specs.links.CompileRefusals.{TellsRefusal}
use Rattle.ido_cli.specs.links.LegRuns.{CanRun, HasRounds, HasRunLegs, IsLiveRun, IsLoad, IsSaidOf}
use Rattle.ido_cli.proofs.DrawnLives.{many_harts}
use Rattle.ido_cli.proofs.LegRuns.{IsLifeDriven, is_leg_after}
use Rattle.ido_cli.specs.links.PlayedLives.{HasPlayed}
use Rattle.ido_cli.proofs.PlayedRuns.{same_steps, same_world, told_by}
use Rattle.ido_cli.proofs.Summaries.{summary_of}

-- ---- A life that begins

-- what is said of what is there
some_is : {A : Type 0} (P : A → Type 0) (o : Option A) → IfSome o P → (x : A) → o ≡ Some x → P x
some_is P None h x is = absurd (cc is)
some_is P (Some y) h x is = let same : y ≡ x = cc in subst P same h

module _ (object : Object) (marks : Marks) (cap : ℕ) (life : Course) (is : life ≡ new_life object marks cap) where
  pub new_none : life.journal ≡ []
  new_none = ap (λ (x : Course). x.journal) is

  pub new_room : cap ≤ length life.journal + (life.cap - length life.journal)
  new_room = omega (arith, ap (λ (x : Course). x.cap) is, ap length new_none)

  pub new_can : (evict : Option Evictor) → length object.code.items ≤ 8 →
      IfSome evict (λ v. (n : ℕ) → IsEviction object.log (length object.code.items) (evictions_of v n).0 (evictions_of v n).1) →
      CanRun cap (record { life = life; evict = evict })
  new_can evict few valid =
      let harts = many_harts object marks cap life is in
      record {
        room = new_room;
        few = omega (arith, harts, few);
        valid = λ v there n.
            subst (λ (l : Log). IsEviction l (length life.runs.program) (evictions_of v n).0 (evictions_of v n).1)
            (sym (ap (λ (x : Course). x.runs.log) is))
            (subst (λ (k : ℕ). IsEviction object.log k (evictions_of v n).0 (evictions_of v n).1) (sym harts)
            (some_is (λ w. (k : ℕ) → IsEviction object.log (length object.code.items) (evictions_of w k).0 (evictions_of w k).1) evict valid v there n));
      }

-- ---- `live`

module _ (flat : f.Flat) (object : Object) (marks : Marks) (cuts : Cuts) (cap : ℕ) (begun : Run) (is : begun.life ≡ new_life object marks cap) where
  abbrev made : Translation
  made = translation_to flat object marks cuts

  begins : opening_of begun.life ≡ beginning made
  begins = ap opening_of is

  module _ (turns : ℕ) (crashes : List ℕ) (life : Course) (h : HasRunLegs turns crashes begun life) where
    pub live_played : HasPlayed object marks life life.journal
    live_played = record { begins = h.opens ∙ ap opening_of is; journal = refl }

    pub live_run : IsCompilation made → (evict : Option ℕ) → coming_of evictions_of begun.evict ≡ evictions_by made evict → (journal : Bool) (source : List ℕ)
        (status : ℕ) (output : List ℕ) → IsSaidOf journal source flat life status output → IsLiveRun made turns crashes evict journal source status output
    live_run compilation evict drawn journal source status output said = record {
      events = life.journal;
      legs =
          subst (λ (s : Option (ℕ → ℕ × ℕ)). AreLegs (beginning made) turns s crashes [] life.journal) drawn
          (subst (λ (m : LifeConfig). AreLegs m turns (coming_of evictions_of begun.evict) crashes [] life.journal) begins h.legs);
      told = told_by flat object marks cuts life life.journal live_played compilation journal source status output said;
    }

pub live_refused : (log : Log) (turns : ℕ) (crashes : List ℕ) (evict : Option ℕ) (journal : Bool) (source : List ℕ) (found : CompileError) →
    IsCompileAnswerAs log source (Err found) → (status : ℕ) (output : List ℕ) → TellsRefusal found source status output →
    LiveAnswer log turns crashes evict journal source status output
live_refused log turns crashes evict journal source (error.Refused x) refused status output told = unrun x.rule x.place refused told
live_refused log turns crashes evict journal source error.Memory refused status output none = absurd none

-- ---- `load`

module _ (flat : f.Flat) (object : Object) (marks : Marks) (cuts : Cuts) (begun : Course) (is : begun ≡ new_life object marks most_leg_events) where
  abbrev loaded_by : Translation
  loaded_by = translation_to flat object marks cuts

  pub none_yet : begun.journal ≡ []
  none_yet = ap (λ (x : Course). x.journal) is

  module _ (core : Course) (stops : List Stop) (evict : Option Evictor)
      (d : IsLifeDriven begun load_turns most_leg_events None core stops evict) (life : Course)
      (same : opening_of life ≡ opening_of core) (rounds : HasRounds (opening_of core) core.journal life.journal) where
    opens : opening_of core ≡ beginning loaded_by
    opens = d.plays.opens ∙ ap opening_of is

    leg_is : core.journal ≡ d.journal
    leg_is = d.plays.events_are ∙ ap (λ (es : List Event). es ++ d.journal) none_yet

    on_threads : IsLeg (leg_after (beginning loaded_by) load_turns None [] None) d.journal
    on_threads =
        subst (λ (es : List Event). IsLeg (leg_after (beginning loaded_by) load_turns None es None) d.journal) none_yet
        (is_leg_after load_turns None None most_leg_events begun None (ap opening_of is)
        (sym (ap (λ (es : List Event). moment_after es None) none_yet)) tt d.journal d.leg)

    in_rounds : AreRounds (beginning loaded_by) 0 d.journal rounds.made
    in_rounds =
        subst (λ (es : List Event). AreRounds (beginning loaded_by) 0 es rounds.made) leg_is
        (subst (λ (m : LifeConfig). AreRounds m 0 core.journal rounds.made) opens rounds.rounds)

    pub load_played : HasPlayed object marks life life.journal
    load_played = record { begins = same ∙ opens; journal = refl }

    pub is_load : IsCompilation loaded_by → (status : ℕ) (output : List ℕ) →
        IsSummary (machine_state flat (world_of life) (schedules (steps_in life))) status output → IsLoad loaded_by status output
    is_load compilation status output told = record {
      events = life.journal;
      run = record {
        leg = d.journal;
        rest = rounds.made;
        is = rounds.is ∙ ap (λ (es : List Event). es ++ rounds.made) leg_is;
        on_threads = on_threads;
        in_rounds = in_rounds;
      };
      summed =
          let world_is = same_world flat object marks cuts life life.journal load_played in
          let steps_are = same_steps flat object marks cuts life life.journal load_played in
          summary_of loaded_by compilation life.journal status output
          (subst (λ (s : Steps). IsSummary (machine_state flat (world loaded_by life.journal) (schedules s)) status output) steps_are
          (subst (λ (w : World). IsSummary (machine_state flat w (schedules (steps_in life))) status output) world_is told));
    }

-- ---- How long a generated source is

joined : (xs ys : List ℕ) (a b : ℕ) → length xs ≤ a → length ys ≤ b → length (xs ++ ys) ≤ a + b
joined xs ys a b h k = omega (arith, length-append xs ys, h, k)

digits : (n : ℕ) → n < 2 ^ 32 → length (decimal n) ≤ 10
digits n few = length-decimal-le 10 n (omega arith) (omega (arith, few)) (omega (arith, few))

-- a text and a number, and a text and more of it
numbered : (front : List ℕ) (n most : ℕ) → n < 2 ^ 32 → length front ≤ most → length (front ++ decimal n) ≤ most + 10
numbered front n most few h = joined front (decimal n) most 10 h (digits n few)

short : (xs : List ℕ) (most : ℕ) → nat_le (length xs) most ≡ true → length xs ≤ most
short xs most is = leb-true (length xs) most is

followed : (front back : List ℕ) (a b : ℕ) → length front ≤ a → nat_le (length back) b ≡ true → length (front ++ back) ≤ a + b
followed front back a b h is = joined front back a b h (short back b is)

lined : (xs : List ℕ) (a : ℕ) → length xs ≤ a → length (line xs) ≤ a + 1
lined xs a h = joined xs (line_feed ∷ []) a 1 h (omega arith)

-- the numbers of a generated source have few digits, so each of its parts is short
short_mutex : (n : ℕ) → n < 2 ^ 32 → length (mutex_item n) ≤ 41
unfolding mutex_item
short_mutex n few =
    let head = codes "mutex m" in
    let one = numbered head n 20 few (short head 20 refl) in
    lined (head ++ decimal n ++ codes ";") 40 (followed (head ++ decimal n) (codes ";") 30 10 one refl)

short_variable : (n : ℕ) → n < 2 ^ 32 → length (variable_item n) ≤ 81
unfolding variable_item
short_variable n few =
    let head = codes "persistent(m" in
    let one = numbered head n 20 few (short head 20 refl) in
    let two = followed (head ++ decimal n) (codes ") long a") 30 20 one refl in
    let three = numbered (head ++ decimal n ++ codes ") long a") n 50 few two in
    let four = followed (head ++ decimal n ++ codes ") long a" ++ decimal n) (codes "[16];") 60 20 three refl in
    lined (head ++ decimal n ++ codes ") long a" ++ decimal n ++ codes "[16];") 80 four

short_section : (mutex addend : ℕ) → mutex < 2 ^ 32 → addend < 2 ^ 32 → length (section_line mutex addend) ≤ 141
unfolding section_line
short_section mutex addend m a =
    let p1 = codes "    lock(m" in
    let p2 = p1 ++ decimal mutex in
    let p3 = p2 ++ codes "); a" in
    let p4 = p3 ++ decimal mutex in
    let p5 = p4 ++ codes "[i & 15] += " in
    let p6 = p5 ++ decimal addend in
    let p7 = p6 ++ codes "; unlock(m" in
    let p8 = p7 ++ decimal mutex in
    let h2 = numbered p1 mutex 20 m (short p1 20 refl) in
    let h3 = followed p2 (codes "); a") 30 20 h2 refl in
    let h4 = numbered p3 mutex 50 m h3 in
    let h5 = followed p4 (codes "[i & 15] += ") 60 20 h4 refl in
    let h6 = numbered p5 addend 80 a h5 in
    let h7 = followed p6 (codes "; unlock(m") 90 20 h6 refl in
    let h8 = numbered p7 mutex 110 m h7 in
    lined (p8 ++ codes ");") 140 (followed p8 (codes ");") 120 20 h8 refl)

short_head : (rounds thread : ℕ) → rounds < 2 ^ 32 → thread < 2 ^ 32 → length (thread_head rounds thread) ≤ 152
unfolding thread_head
short_head rounds thread r t =
    let first = codes "thread t" ++ decimal thread ++ codes " {" in
    let second = codes "  for (int i = 0; i < " ++ decimal rounds ++ codes "; i++) {" in
    let h = numbered (codes "thread t") thread 20 t (short (codes "thread t") 20 refl) in
    let k = numbered (codes "  for (int i = 0; i < ") rounds 40 r (short (codes "  for (int i = 0; i < ") 40 refl) in
    joined (line first) (line second) 51 101 (lined first 50 (followed (codes "thread t" ++ decimal thread) (codes " {") 30 20 h refl))
    (lined second 100 (followed (codes "  for (int i = 0; i < " ++ decimal rounds) (codes "; i++) {") 50 50 k refl))

all_four : (f : ℕ → List ℕ) (most : ℕ) → ((n : ℕ) → n < 4 → length (f n) ≤ most) → length (flat_map f four) ≤ most + (most + (most + (most + 0)))
all_four f most each =
    joined (f 0) _ most (most + (most + (most + 0))) (each 0 (omega arith))
    (joined (f 1) _ most (most + (most + 0)) (each 1 (omega arith))
    (joined (f 2) _ most (most + 0) (each 2 (omega arith)) (joined (f 3) [] most 0 (each 3 (omega arith)) (omega arith))))

short_thread : (rounds seed thread : ℕ) → rounds < 2 ^ 32 → thread < 4 → length (thread_item rounds seed thread) ≤ 736
unfolding thread_item
short_thread rounds seed thread r t =
    let section : ℕ → List ℕ = λ j. section_line (mutex_of seed thread j) (addend_of seed thread j) in
    let sections = all_four section 141 (λ j below. short_section (mutex_of seed thread j) (addend_of seed thread j) (omega arith) (omega arith)) in
    followed (thread_head rounds thread ++ flat_map section four) (codes "  }\n}\n") 716 20
    (joined (thread_head rounds thread) (flat_map section four) 152 564 (short_head rounds thread r (omega (arith, t))) sections) refl

pub short_source : (rounds seed : ℕ) → rounds < 2 ^ 32 → length (generated_source rounds seed) ≤ MOST_SOURCE_BYTES
unfolding generated_source
short_source rounds seed r =
    let mutexes = all_four mutex_item 41 (λ n below. short_mutex n (omega (arith, below))) in
    let variables = all_four variable_item 81 (λ n below. short_variable n (omega (arith, below))) in
    let threads = all_four (thread_item rounds seed) 736 (λ n below. short_thread rounds seed n r below) in
    let all =
    joined (flat_map mutex_item four ++ flat_map variable_item four) (flat_map (thread_item rounds seed) four) 488 2944
    (joined (flat_map mutex_item four) (flat_map variable_item four) 164 324 mutexes variables) threads in
    omega (arith, all)

-- What writing puts after what is there, and that it is read again.
use Rattle.std.proofs.Common.{◌≡◌, ℕ, zero, suc, ◌+◌, ◌*◌, ◌^◌, ◌<◌, ◌≤◌, List, [], ◌∷◌, ◌++◌, length, get_or, take}
use Rattle.std.proofs.Common.{Result, All, map, Ok, Err, refl, ap, sym, subst, ◌∙◌, append_assoc, arith}
use Rattle.std.specs.Prelude.{IfOk, sum_by}
use Rattle.std.specs.Global.{Vec}
use Rattle.std.proofs.lemmas.List.{append-nil, flat_map_more, length-map, length-append, map_more}
use Rattle.std.proofs.lemmas.List.Concat.{flat_map-cons}
use Rattle.std.proofs.lemmas.List.Sums.{sum_by-cons}
use Rattle.std.specs.List.{flat_map, AllByRecursion}
use Rattle.std.proofs.lemmas.List.Elements.{All-from_recursion}
use Rattle.ido_base.specs.declared.memory.OutOfMemory.{OutOfMemory}
use Rattle.ido_base.specs.declared.limits.TheConstants.{MOST_SOURCE_BYTES, VARIABLE_WORDS, MOST_STEPS}
use Rattle.log_schemes.specs.declared.log.Log.{Log}
use Rattle.log_schemes.specs.declared.size.LogSize.{LogSize}
use Rattle.log_schemes.specs.declared.size.LogSize.TheVariants.{Lines16, Lines32}
use Rattle.log_schemes.specs.Schemes.{lines_of, size_of}
use Rattle.file_fields.specs.Numbers.{number, word, IsNumber}
use Rattle.run_scripts.specs.Runs.{Run as SpelledRun, AreMerged, runs_of, schedule_of}
use Rattle.run_scripts.specs.declared.runs.Run.{Run}
use Rattle.run_scripts.specs.links.ReportViews.{steps_of}
use Rattle.run_scripts.specs.links.RunViews.{run_of}
use Rattle.run_scripts.proofs.Public.{IsRunWithin, each_step, few_runs, runs_merged, runs_tell}
use Rattle.crash_images.specs.Contents.{contents, IsState, IsLife, IsRun, Tells, most_logs, number_of, word_bytes, written_as}
use Rattle.crash_images.specs.ImageEncoder.{magic, count_text, lives_text, memory_text, run_text, runs_text, source_text, state_text, spelling}
use Rattle.crash_images.specs.ImageDecoder.{image_at, IsReadAs}
use Rattle.crash_images.specs.declared.version.ImageVersion.{ImageVersion}
use Rattle.crash_images.specs.declared.version.ImageVersion.TheVariants.{First, Second, Third, Fourth}
use Rattle.crash_images.specs.links.Views.{written_life}
use Rattle.crash_images.specs.links.WrittenLives.{AreWritten, written_contents}
use Rattle.crash_images.proofs.Images.{image_again}

grouped : (old a b c d : List ℕ) → (((old ++ a) ++ b) ++ c) ++ d ≡ old ++ (a ++ b ++ c ++ d)
grouped old a b c d = simp append_assoc

pub source_put : (version : ImageVersion) (old x y z new source : List ℕ) → x ≡ old ++ magic → y ≡ x ++ number (number_of version) →
    z ≡ y ++ number (length source) → new ≡ z ++ source → new ≡ old ++ source_text version source
source_put version old x y z new source e1 e2 e3 e4 =
    let n = number (number_of version) in
    let e2' : y ≡ (old ++ magic) ++ n = e2 ∙ ap (λ t. t ++ n) e1 in
    let e3' : z ≡ ((old ++ magic) ++ n) ++ number (length source) = e3 ∙ ap (λ t. t ++ number (length source)) e2' in
    e4 ∙ ap (λ t. t ++ source) e3' ∙ grouped old magic n (number (length source)) source

-- ---- What stands after the source

pub state_put : (version : ImageVersion) (old a b new variables logs : List ℕ) (lives : List (List SpelledRun)) → a ≡ old ++ memory_text variables logs →
    b ≡ a ++ count_text version (length lives) → new ≡ b ++ flat_map runs_text lives →
    new ≡ old ++ (memory_text variables logs ++ lives_text version lives)
state_put version old a b new variables logs lives e1 e2 e3 =
    let memory = memory_text variables logs in
    let count = count_text version (length lives) in
    let texts = flat_map runs_text lives in
    e3 ∙ ap (λ t. t ++ texts) (e2 ∙ ap (λ t. t ++ count) e1) ∙ regrouped old memory count texts
  where
    regrouped : (old a b c : List ℕ) → ((old ++ a) ++ b) ++ c ≡ old ++ (a ++ (b ++ c))
    regrouped old a b c = simp append_assoc

-- ---- Runs

pub all_below : (bound : ℕ) (xs : List ℕ) → ((i : ℕ) → get_or xs i 0 < bound) → AllByRecursion (λ n. n < bound) xs
all_below bound [] below = tt
all_below bound (x ∷ xs) below = (below 0, all_below bound xs (λ i. below (suc i)))

are_runs : (most : ℕ) (rs : List SpelledRun) → most < 2 ^ 32 → AllByRecursion (IsRunWithin most) rs → AllByRecursion IsRun rs
are_runs most [] few tell = tt
are_runs most (r ∷ rs) few tell = ((tell.0.0, omega (arith, few, tell.0.1)), are_runs most rs few tell.1)

pub runs_fit : (schedule : List ℕ) → ((i : ℕ) → get_or schedule i 0 < 2 ^ 32) → length schedule < 2 ^ 32 → AllByRecursion IsRun (runs_of schedule)
runs_fit schedule below few = are_runs (length schedule) (runs_of schedule) few (runs_tell schedule (all_below (2 ^ 32) schedule below))

pub runs_are_few : (schedule : List ℕ) → length schedule ≤ MOST_STEPS → length (runs_of schedule) < 2 ^ 32
runs_are_few schedule few = omega (arith, few_runs schedule, few)

pub runs_put : (schedule : List ℕ) (runs : List Run) → length schedule ≤ MOST_STEPS → map run_of runs ≡ runs_of schedule → length runs < 2 ^ 32
runs_put schedule runs few e = omega (arith, runs_are_few schedule few, ap length e, length-map runs run_of)

steps_fit : (runs : List Run) → AllByRecursion IsRun (map run_of runs) → AllByRecursion (λ (run : Run). IsNumber run.steps) runs
steps_fit [] fits = tt
steps_fit (run ∷ runs) fits = (fits.0.1, steps_fit runs fits.1)

pub steps_put : (schedule : List ℕ) (runs : List Run) → ((i : ℕ) → get_or schedule i 0 < 2 ^ 32) → length schedule ≤ MOST_STEPS →
    map run_of runs ≡ runs_of schedule → All (λ (run : Run). IsNumber run.steps) runs
steps_put schedule runs below few e =
    let fits : AllByRecursion IsRun (runs_of schedule) = runs_fit schedule below (omega (arith, few)) in
    All-from_recursion (λ (run : Run). IsNumber run.steps) runs (steps_fit runs (subst (AllByRecursion IsRun) (sym e) fits))

-- ---- Lives

pub life_fits : (schedule : List ℕ) → ((i : ℕ) → get_or schedule i 0 < 2 ^ 32) → length schedule ≤ MOST_STEPS → IsLife (runs_of schedule)
life_fits schedule below few = (runs_are_few schedule few, runs_fit schedule below (omega (arith, few)))

pub none_written : (old : List ℕ) → AreWritten old [] old
none_written old = record { text = sym (append-nil old); fits = tt }

all_more : (lives : List (List SpelledRun)) (runs : List SpelledRun) → AllByRecursion IsLife lives → IsLife runs → AllByRecursion IsLife (lives ++ runs ∷ [])
all_more [] runs all good = (good, tt)
all_more (first ∷ lives) runs all good = (all.0, all_more lives runs all.1 good)

pub one_written : (old now new : List ℕ) (schedules : List (Vec ℕ)) (i : ℕ) (v : Vec ℕ) (steps : List ℕ) → i < length schedules → v ≡ get_or schedules i v →
    steps ≡ v.items → AreWritten old (take i schedules) now → new ≡ now ++ runs_text (runs_of steps) → IsLife (runs_of steps) →
    AreWritten old (take (i + 1) schedules) new
one_written old now new schedules i v steps within is same so put good =
    let life : written_life (get_or schedules i v) ≡ runs_of steps = ap written_life (sym is) ∙ ap runs_of (sym same) in
    let before : List (List SpelledRun) = map written_life (take i schedules) in
    let more : map written_life (take (i + 1) schedules) ≡ before ++ runs_of steps ∷ [] =
    map_more written_life schedules i v within ∙ ap (λ (runs : List SpelledRun). before ++ runs ∷ []) life in
    record {
      text = put ∙ ap (λ t. t ++ runs_text (runs_of steps)) so.text ∙ flat_map_more runs_text old before (runs_of steps)
          ∙ ap (λ (lives : List (List SpelledRun)). old ++ flat_map runs_text lives) (sym more);
      fits = subst (AllByRecursion IsLife) (sym more) (all_more before (runs_of steps) so.fits good);
    }

-- each of them takes no more steps than all
pub none_longer : (schedules : List (Vec ℕ)) (i : ℕ) (v : Vec ℕ) → i < length schedules → v ≡ get_or schedules i v →
    length v.items ≤ sum_by length (map steps_of schedules)
none_longer [] i v within is = absurd (omega (arith, within))
none_longer (first ∷ schedules) zero v within is =
    omega (arith, ap (λ (s : Vec ℕ). length s.items) is, sum_by-cons length first.items (map steps_of schedules))
none_longer (first ∷ schedules) (suc i) v within is =
    omega (arith, none_longer schedules i v (omega (arith, within)) is, sum_by-cons length first.items (map steps_of schedules))

pub lives_written : (schedules : List (Vec ℕ)) → map written_life schedules ≡ map runs_of (map steps_of schedules)
lives_written [] = refl
lives_written (first ∷ schedules) = ap (λ (lives : List (List SpelledRun)). runs_of first.items ∷ lives) (lives_written schedules)

pub each_told : (schedules : List (List ℕ)) → map schedule_of (map runs_of schedules) ≡ schedules
each_told [] = refl
each_told (first ∷ schedules) = λ i. each_step first i ∷ each_told schedules i

all_merged : (schedules : List (List ℕ)) → AllByRecursion AreMerged (map runs_of schedules)
all_merged [] = tt
all_merged (first ∷ schedules) = (runs_merged first, all_merged schedules)

pub each_merged : (schedules : List (List ℕ)) → All AreMerged (map runs_of schedules)
each_merged schedules = All-from_recursion AreMerged (map runs_of schedules) (all_merged schedules)

-- ---- It is read again

pub spelled_as : (log : Log) (source variables logs : List ℕ) (schedules : List (Vec ℕ)) (x : Result (Vec ℕ) OutOfMemory)
    → IfOk x (λ image. image.items ≡ spelling (written_as log) (written_contents source variables logs schedules))
    → IfOk x (λ image. image.items ≡ spelling (written_as log) (contents source variables logs (map steps_of schedules)))
spelled_as log source variables logs schedules (Err e) spelled = tt
spelled_as log source variables logs schedules (Ok image) spelled =
    spelled ∙ ap (λ (lives : List (List SpelledRun)).
    spelling (written_as log) (record { source = source; state = record { variables = variables; logs = logs; lives = lives } })) (lives_written schedules)

pub written_again : (log : Log) (source variables logs : List ℕ) (schedules : List (Vec ℕ)) (x : Result (Vec ℕ) OutOfMemory)
    → length source ≤ MOST_SOURCE_BYTES → length variables ≤ VARIABLE_WORDS → Tells (written_as log) (length schedules)
    → ((i : ℕ) → get_or variables i 0 < 2 ^ 64) → ((i : ℕ) → get_or logs i 0 < 2 ^ 64)
    → IfOk x (λ image. image.items ≡ spelling (written_as log) (contents source variables logs (map steps_of schedules)))
    → IfOk x (λ image. AllByRecursion IsLife (map written_life schedules))
    → IfOk x (λ image. IsReadAs (written_as log) (contents source variables logs (map steps_of schedules)) image.items)
written_again log source variables logs schedules (Err e) s v told vf lf spelled fits = tt
written_again log source variables logs schedules (Ok image) s v told vf lf spelled fits = λ threads n.
    let o = contents source variables logs (map steps_of schedules) in
    let size = word_bytes * length variables in
    let count : length schedules ≡ length (map runs_of (map steps_of schedules)) =
    sym (length-map (map steps_of schedules) runs_of ∙ length-map schedules steps_of) in
    let good : IsState (written_as log) size threads o.state = record {
      variables = refl;
      logs = n;
      lives = subst (Tells (written_as log)) count told;
      variable_words = all_below (2 ^ 64) variables vf;
      log_words = all_below (2 ^ 64) logs lf;
      fields = subst (AllByRecursion IsLife) (lives_written schedules) fits;
    } in
    ap (image_at (written_as log) size threads) spelled ∙ image_again (written_as log) size threads o s (omega (arith, v)) good

-- ---- How long it is

texts_length : {A : Type 0} (text : A → List ℕ) (xs : List A) → ((x : A) → length (text x) ≡ 8) → length (flat_map text xs) ≡ 8 * length xs
texts_length text [] eight = refl
texts_length text (x ∷ xs) eight =
    omega (arith, ap length (flat_map-cons text x xs), length-append (text x) (flat_map text xs), eight x, texts_length text xs eight)

lives_length : (schedules : List (List ℕ)) →
    length (flat_map runs_text (map runs_of schedules)) ≤ 4 * length schedules + 8 * sum_by length schedules
lives_length [] = omega arith
lives_length (first ∷ schedules) =
    let runs = runs_of first in
    omega (
      arith,
      ap length (flat_map-cons runs_text runs (map runs_of schedules)),
      length-append (runs_text runs) (flat_map runs_text (map runs_of schedules)),
      length-append (number (length runs)) (flat_map run_text runs),
      texts_length run_text runs (λ r. refl),
      few_runs first,
      sum_by-cons length first schedules,
      lives_length schedules,
    )

count_length : (version : ImageVersion) (n : ℕ) → length (count_text version n) ≤ 4
count_length First n = omega arith
count_length Second n = omega arith
count_length Third n = omega arith
count_length Fourth n = omega arith

logs_fit : (log : Log) → most_logs log ≤ 2048
logs_fit log = by (size_of log)
  where
    by : (size : LogSize) → 8 * lines_of size * 8 ≤ 2048
    by Lines16 = omega arith
    by Lines32 = omega arith

pub spelling_length : (version : ImageVersion) (source variables logs : List ℕ) (schedules : List (List ℕ))
    → length (spelling version (contents source variables logs schedules))
    ≤ 24 + length source + 8 * length variables + 8 * length logs + 4 * length schedules + 8 * sum_by length schedules
spelling_length version source variables logs schedules =
    let lives = map runs_of schedules in
    omega (
      arith,
      length-append (source_text version source) (state_text version (contents source variables logs schedules).state),
      four_lengths magic (number (number_of version)) (number (length source)) source,
      length-append (memory_text variables logs) (lives_text version lives),
      three_lengths (number (word_bytes * length variables)) (flat_map word variables) (flat_map word logs),
      length-append (count_text version (length lives)) (flat_map runs_text lives),
      texts_length word variables (λ n. refl),
      texts_length word logs (λ n. refl),
      count_length version (length lives),
      lives_length schedules,
    )
  where
    four_lengths : (a b c d : List ℕ) → length (a ++ b ++ c ++ d) ≡ length a + length b + length c + length d
    four_lengths a b c d = grind (arith, length-append)

    three_lengths : (a b c : List ℕ) → length (a ++ b ++ c) ≡ length a + length b + length c
    three_lengths a b c = grind (arith, length-append)

pub written_short : (log : Log) (source variables logs : List ℕ) (schedules : List (Vec ℕ)) (x : Result (Vec ℕ) OutOfMemory)
    → length source ≤ MOST_SOURCE_BYTES → length variables ≤ VARIABLE_WORDS → length logs ≤ most_logs log → length schedules ≤ MOST_STEPS + 1
    → sum_by length (map steps_of schedules) ≤ MOST_STEPS
    → IfOk x (λ image. image.items ≡ spelling (written_as log) (contents source variables logs (map steps_of schedules)))
    → IfOk x (λ image. length image.items ≤ 67108864)
written_short log source variables logs schedules (Err e) s v l few n spelled = tt
written_short log source variables logs schedules (Ok image) s v l few n spelled =
    omega (
      arith,
      ap length spelled,
      spelling_length (written_as log) source variables logs (map steps_of schedules),
      length-map schedules steps_of,
      logs_fit log,
      s,
      v,
      l,
      few,
      n,
    )

-- What is read is spelled so, and what is spelled so is read.
use Rattle.std.proofs.Common.{◌≡◌, ℕ, ◌-◌, ◌*◌, ◌/◌, ◌%◌, ◌^◌, ◌<◌, ◌≤◌, List, []}
use Rattle.std.proofs.Common.{◌++◌, length, Result, Ok, Err, refl, sym, ap, subst, ◌∙◌, append_assoc, arith, inl, inr}
use Rattle.std.specs.Result.{IsOkAnd}
use Rattle.std.specs.Prelude.{IfOk, cond, ◌==◌}
use Rattle.std.specs.List.{AllByRecursion, flat_map}
use Rattle.std.proofs.lemmas.Bool.{cases_Bool, cond-false, eqb-true}
use Rattle.std.proofs.lemmas.List.{append-nil, nil_from_length}
use Rattle.ido_base.specs.declared.limits.TheConstants.{MOST_SOURCE_BYTES}
use Rattle.file_fields.specs.declared.error.ReadError.{ReadError}
use Rattle.file_fields.specs.declared.error.ReadError.TheVariants as e
use Rattle.file_fields.specs.Fields.{Fault, Rest, Version, Reads, ◌>>=◌, bytes_at, number_at, word_at, number_within, repeated, magic_at, version_at, ended}
use Rattle.file_fields.specs.Numbers.{number, word, IsNumber, IsWord}
use Rattle.file_fields.specs.links.ReaderResults.{ViewsFault, Gives}
use Rattle.file_fields.proofs.Public.{IsBytes, bind_ok, test_ok, ok_is, Takes, then, bytes_take, bytes_again, number_takes, number_again}
use Rattle.file_fields.proofs.Public.{word_takes, word_again, within_takes, within_again, magic_takes, magic_again, version_takes, version_again}
use Rattle.file_fields.proofs.Public.{repeated_take, repeated_again}
use Rattle.run_scripts.specs.Runs.{Run}
use Rattle.crash_images.specs.Contents.{Contents, State, AreCounted, AreVariables, IsState, IsLife, IsRun, Tells, number_of, word_bytes, words_of}
use Rattle.crash_images.specs.ImageEncoder.{magic, count_text, lives_text, logs_text, run_text, runs_text, source_text, state_text, spelling, variables_text}
use Rattle.crash_images.specs.ImageDecoder.{count_at, known, life_at, lives_at, logs_at, run_at, source_at}
use Rattle.crash_images.specs.ImageDecoder.{size_at, state_at, image_at, variables_at, version_in}
use Rattle.crash_images.specs.declared.version.TheConstants.{MOST_LIVES}
use Rattle.crash_images.specs.declared.version.ImageVersion.{ImageVersion}
use Rattle.crash_images.specs.declared.version.ImageVersion.TheVariants.{First, Second, Third, Fourth}
use Rattle.crash_images.specs.declared.state.State as code
use Rattle.crash_images.specs.links.Views.{state_of}

-- ---- The version

is_number : (version : ImageVersion) → IsNumber (number_of version)
is_number First = omega arith
is_number Second = omega arith
is_number Third = omega arith
is_number Fourth = omega arith

known_again : (newest version : ImageVersion) → number_of version ≤ number_of newest → known newest (number_of version) ≡ Ok version
known_again newest First le = refl
known_again First Second le = absurd (omega (arith, le))
known_again Second Second le = refl
known_again Third Second le = refl
known_again Fourth Second le = refl
known_again First Third le = absurd (omega (arith, le))
known_again Second Third le = absurd (omega (arith, le))
known_again Third Third le = refl
known_again Fourth Third le = refl
known_again First Fourth le = absurd (omega (arith, le))
known_again Second Fourth le = absurd (omega (arith, le))
known_again Third Fourth le = absurd (omega (arith, le))
known_again Fourth Fourth le = refl

pub version_is_again : (newest version : ImageVersion) (rest : List ℕ) → number_of version ≤ number_of newest →
    version_in newest (magic ++ number (number_of version) ++ rest) ≡ Ok version
unfolding version_in
version_is_again newest version rest le =
    let total = length (magic ++ number (number_of version) ++ rest) in
    rw (magic_again total magic (number (number_of version) ++ rest), number_again total (number_of version) rest (is_number version))
    (known_again newest version le)

-- bytes that begin with a source of the version have it
pub source_version : (newest version : ImageVersion) (bytes source rest : List ℕ) → number_of version ≤ number_of newest →
    source_at version bytes ≡ Ok (source, rest) → version_in newest bytes ≡ Ok version
unfolding source_at version_in version_at
source_version newest version bytes source rest le is =
    let total = length bytes in
    let to_end : List ℕ → Reads (List ℕ) = λ after.
    number_within total 0 MOST_SOURCE_BYTES after >>= λ size. bytes_at total size.0 size.1 in
    let a = bind_ok (magic_at total magic bytes) (λ after. version_at total (number_of version) after >>= to_end) (source, rest) is in
    let b = bind_ok (version_at total (number_of version) a.0) to_end (source, rest) a.2 in
    let n = bind_ok (number_at total a.0) (λ n. cond (n.0 == number_of version) (Ok n.1) (Err Version)) b.0 b.1 in
    let same : n.0.0 ≡ number_of version = told n.0.0 (number_of version) n.0.1 b.0 n.2 in
    ap (λ (r : Result (List ℕ) Fault). r >>= λ after. number_at total after >>= λ m. known newest m.0) a.1
    ∙ ap (λ (r : Reads ℕ). r >>= λ m. known newest m.0) n.1
    ∙ ap (known newest) same ∙ known_again newest version le
  where
    told : (n wanted : ℕ) (left rest : List ℕ) → cond (n == wanted) (Ok left) (Err Version) ≡ Ok rest → n ≡ wanted
    told n wanted left rest e = elim (cases_Bool (n == wanted)) [
      | inl same ↦ eqb-true n wanted same
      | inr other ↦ (
          let wrong : ◌≡◌ {A = Result (List ℕ) Fault} (Err Version) (Ok rest) = sym (cond-false (n == wanted) (Ok left) (Err Version) other) ∙ e in
          cc wrong)
    ]

pub version_read : (x : Result ImageVersion ReadError) (version : ImageVersion) →
    ViewsFault {Y = ImageVersion} (λ y. y) x (Ok version) → IsOkAnd x (λ y. y ≡ version)
version_read (Ok y) version told = sym (ok_is version y told)
version_read (Err e.Magic) version told = absurd cc
version_read (Err e.Version) version told = absurd cc
version_read (Err (e.Cut place)) version told = absurd cc
version_read (Err (e.Field place)) version told = absurd cc
version_read (Err (e.Rest place)) version told = absurd cc
version_read (Err e.Memory) version told = absurd told

-- ---- Up to the end of the source

source_takes : (version : ImageVersion) (bytes : List ℕ) (x : List ℕ × List ℕ) → IsBytes bytes → source_at version bytes ≡ Ok x →
    (length x.0 ≤ MOST_SOURCE_BYTES) × (bytes ≡ source_text version x.0 ++ x.1)
unfolding source_at
source_takes version bytes x fits e =
    let total = length bytes in
    let a = bind_ok (magic_at total magic bytes)
    (λ m. version_at total (number_of version) m >>= λ v. number_within total 0 MOST_SOURCE_BYTES v >>= λ n. bytes_at total n.0 n.1) x e in
    let b = bind_ok (version_at total (number_of version) a.0) (λ v. number_within total 0 MOST_SOURCE_BYTES v >>= λ n. bytes_at total n.0 n.1) x a.2 in
    let c = bind_ok (number_within total 0 MOST_SOURCE_BYTES b.0) (λ n. bytes_at total n.0 n.1) x b.2 in
    let t0 = magic_takes total magic bytes a.0 fits a.1 in
    let t1 = version_takes total (number_of version) a.0 b.0 t0.rest_fits b.1 in
    let t2 = within_takes total 0 MOST_SOURCE_BYTES b.0 c.0 t1.rest_fits c.1 in
    let t3 = bytes_take total c.0.0 c.0.1 x t2.0.rest_fits c.2 in
    let e23 = then b.0 (number c.0.0) c.0.1 x.0 x.1 t2.0 t3.0 in
    let e13 = then a.0 (number (number_of version)) b.0 (number c.0.0 ++ x.0) x.1 t1 e23 in
    let e03 = then bytes magic a.0 (number (number_of version) ++ (number c.0.0 ++ x.0)) x.1 t0 e13 in (
      rw t3.1 t2.2,
      e03.parts ∙ ap (λ n. (magic ++ (number (number_of version) ++ (number n ++ x.0))) ++ x.1) (sym t3.1) ∙ regrouped x.0 x.1,
    )
  where
    regrouped : (source rest : List ℕ) →
        (magic ++ (number (number_of version) ++ (number (length source) ++ source))) ++ rest ≡ source_text version source ++ rest
    regrouped source rest = simp append_assoc

pub source_again : (version : ImageVersion) (source rest : List ℕ) → length source ≤ MOST_SOURCE_BYTES →
    source_at version (source_text version source ++ rest) ≡ Ok (source, rest)
unfolding source_at
source_again version source rest few =
    let total = length (source_text version source ++ rest) in
    let regrouped : source_text version source ++ rest ≡ magic ++ (number (number_of version) ++ (number (length source) ++ (source ++ rest))) =
    simp append_assoc in
    ap (λ bytes. source_in total bytes) regrouped
    ∙ rw (
      magic_again total magic (number (number_of version) ++ (number (length source) ++ (source ++ rest))),
      version_again total (number_of version) (number (length source) ++ (source ++ rest)) (is_number version),
      within_again total 0 MOST_SOURCE_BYTES (length source) (source ++ rest) (omega arith) few (omega (arith, few)),
    ) (bytes_again total (length source) source rest refl)
  where
    source_in : ℕ → List ℕ → Reads (List ℕ)
    source_in total bytes =
        magic_at total magic bytes >>= λ m. version_at total (number_of version) m >>= λ v. number_within total 0 MOST_SOURCE_BYTES v >>= λ n.
        bytes_at total n.0 n.1

pub source_is_found : {X : Type 0} (view : X → List ℕ × List ℕ) (version : ImageVersion) (bytes : List ℕ) (x : Result X ReadError) → IsBytes bytes
    → ViewsFault view x (source_at version bytes)
    → IfOk x (λ y. (length (view y).0 ≤ MOST_SOURCE_BYTES) × (bytes ≡ source_text version (view y).0 ++ (view y).1))
source_is_found view version bytes (Ok y) fits told = source_takes version bytes (view y) fits told
source_is_found view version bytes (Err e) fits told = tt

pub read_as : {X : Type 0} (prefix suffix : X → List ℕ) (x : Result X ReadError) (source rest : List ℕ) →
    ViewsFault {Y = List ℕ × List ℕ} (λ y. (prefix y, suffix y)) x (Ok (source, rest))
    → IsOkAnd x (λ y. (prefix y ≡ source) × (suffix y ≡ rest))
read_as prefix suffix (Ok y) source rest told =
    let e : (source, rest) ≡ (prefix y, suffix y) = ok_is (source, rest) (prefix y, suffix y) told in
    (sym (ap (λ (p : List ℕ × List ℕ). p.0) e), sym (ap (λ (p : List ℕ × List ℕ). p.1) e))
read_as prefix suffix (Err e.Magic) source rest told = absurd cc
read_as prefix suffix (Err e.Version) source rest told = absurd cc
read_as prefix suffix (Err (e.Cut place)) source rest told = absurd cc
read_as prefix suffix (Err (e.Field place)) source rest told = absurd cc
read_as prefix suffix (Err (e.Rest place)) source rest told = absurd cc
read_as prefix suffix (Err e.Memory) source rest told = absurd told

-- ---- After the source

size_takes : (total size : ℕ) (bytes rest : List ℕ) → IsBytes bytes → size_at total size bytes ≡ Ok rest → Takes bytes (number size) rest
unfolding size_at
size_takes total size bytes rest fits e =
    let b = bind_ok (number_within total size size bytes) (λ found. Ok found.1) rest e in
    let t = within_takes total size size bytes b.0 fits b.1 in
    let same : b.0.0 ≡ size = omega (arith, t.1, t.2) in
    subst (λ n. Takes bytes (number n) rest) same (subst (λ y. Takes bytes (number b.0.0) y) (ok_is b.0.1 rest b.2) t.0)

size_again : (total size : ℕ) (rest : List ℕ) → size < 2 ^ 32 → size_at total size (number size ++ rest) ≡ Ok rest
unfolding size_at
size_again total size rest lt = rw (within_again total size size size rest (omega arith) (omega arith) lt) refl

-- ---- Runs

run_takes : (total : ℕ) (bytes : List ℕ) (x : Run × List ℕ) → IsBytes bytes → run_at total bytes ≡ Ok x → Takes bytes (run_text x.0) x.1 × IsRun x.0
unfolding run_at
run_takes total bytes x fits e =
    let a = bind_ok (number_at total bytes) (λ thread. number_at total thread.1 >>= λ steps. Ok (record { thread = thread.0; steps = steps.0 }, steps.1)) x e in
    let b = bind_ok (number_at total a.0.1) (λ steps. Ok (record { thread = a.0.0; steps = steps.0 }, steps.1)) x a.2 in
    let t = number_takes total bytes a.0 fits a.1 in
    let u = number_takes total a.0.1 b.0 t.0.rest_fits b.1 in
    let made : Run × List ℕ = (record { thread = a.0.0; steps = b.0.0 }, b.0.1) in
    subst (λ (y : Run × List ℕ). Takes bytes (run_text y.0) y.1 × IsRun y.0) (ok_is made x b.2)
    (then bytes (number a.0.0) a.0.1 (number b.0.0) b.0.1 t.0 u.0, (t.1, u.1))

run_again : (total : ℕ) (r : Run) (rest : List ℕ) → IsRun r → run_at total (run_text r ++ rest) ≡ Ok (r, rest)
unfolding run_at
run_again total r rest good =
    ap (run_at total) (append_assoc (number r.thread) (number r.steps) rest)
    ∙ rw (number_again total r.thread (number r.steps ++ rest) good.0, number_again total r.steps rest good.1) refl

-- ---- Lives

life_takes : (total : ℕ) (bytes : List ℕ) (x : List Run × List ℕ) → IsBytes bytes → life_at total bytes ≡ Ok x →
    Takes bytes (runs_text x.0) x.1 × IsLife x.0
unfolding life_at
life_takes total bytes x fits e =
    let a = bind_ok (number_at total bytes) (λ n. repeated (run_at total) n.0 n.1) x e in
    let t = number_takes total bytes a.0 fits a.1 in
    let u = repeated_take run_text IsRun (run_at total) (run_takes total) a.0.0 a.0.1 x t.0.rest_fits a.2 in
    let both = then bytes (number a.0.0) a.0.1 (flat_map run_text x.0) x.1 t.0 u.0 in
    (subst (λ n. Takes bytes (number n ++ flat_map run_text x.0) x.1) (sym u.1) both, (subst IsNumber (sym u.1) t.1, u.2))

life_again : (total : ℕ) (runs : List Run) (rest : List ℕ) → IsLife runs → life_at total (runs_text runs ++ rest) ≡ Ok (runs, rest)
unfolding life_at
life_again total runs rest good =
    ap (life_at total) (append_assoc (number (length runs)) (flat_map run_text runs) rest)
    ∙ rw (number_again total (length runs) (flat_map run_text runs ++ rest) good.0)
    (repeated_again run_text IsRun (run_at total) (run_again total) runs rest good.1)

counted : (total : ℕ) (bytes : List ℕ) (x : ℕ × List ℕ) → IsBytes bytes → number_within total 1 MOST_LIVES bytes ≡ Ok x →
    Takes bytes (number x.0) x.1 × AreCounted x.0
counted total bytes x fits e =
    let t = within_takes total 1 MOST_LIVES bytes x fits e in
    (t.0, (t.1, omega (arith, t.2)))

counted_again : (total n : ℕ) (rest : List ℕ) → AreCounted n → number_within total 1 MOST_LIVES (number n ++ rest) ≡ Ok (n, rest)
counted_again total n rest told = within_again total 1 MOST_LIVES n rest told.0 (omega (arith, told.1)) told.1

count_takes : (version : ImageVersion) (total : ℕ) (bytes : List ℕ) (x : ℕ × List ℕ) → IsBytes bytes → count_at version total bytes ≡ Ok x →
    Takes bytes (count_text version x.0) x.1 × Tells version x.0
count_takes First total bytes x fits e =
    subst (λ (y : ℕ × List ℕ). Takes bytes (count_text First y.0) y.1 × Tells First y.0) (ok_is (1, bytes) x e)
    (record { parts = refl; rest_fits = fits }, refl)
count_takes Second total bytes x fits e =
    subst (λ (y : ℕ × List ℕ). Takes bytes (count_text Second y.0) y.1 × Tells Second y.0) (ok_is (1, bytes) x e)
    (record { parts = refl; rest_fits = fits }, refl)
count_takes Third total bytes x fits e = counted total bytes x fits e
count_takes Fourth total bytes x fits e = counted total bytes x fits e

count_again : (version : ImageVersion) (total n : ℕ) (rest : List ℕ) → Tells version n → count_at version total (count_text version n ++ rest) ≡ Ok (n, rest)
count_again First total n rest told = ap (λ m. Ok (m, rest)) (sym told)
count_again Second total n rest told = ap (λ m. Ok (m, rest)) (sym told)
count_again Third total n rest told = counted_again total n rest told
count_again Fourth total n rest told = counted_again total n rest told

record AreLives (version : ImageVersion) (bytes : List ℕ) (lives : List (List Run)) : Type 0 where
  parts : bytes ≡ lives_text version lives
  told : Tells version (length lives)
  fields : AllByRecursion IsLife lives

lives_take : (version : ImageVersion) (total : ℕ) (bytes : List ℕ) (lives : List (List Run)) → IsBytes bytes → lives_at version total bytes ≡ Ok lives →
    AreLives version bytes lives
unfolding lives_at
lives_take version total bytes lives fits e =
    let a = bind_ok (count_at version total bytes) (λ n. repeated (life_at total) n.0 n.1 >>= λ ls. ended total ls.1 ls.0) lives e in
    let b = bind_ok (repeated (life_at total) a.0.0 a.0.1) (λ ls. ended total ls.1 ls.0) lives a.2 in
    let g = test_ok (length b.0.1 == 0) (Rest (total - length b.0.1)) b.0.0 lives b.2 in
    let t = count_takes version total bytes a.0 fits a.1 in
    let u = repeated_take runs_text IsLife (life_at total) (life_takes total) a.0.0 a.0.1 b.0 t.0.rest_fits b.1 in
    let both = then bytes (count_text version a.0.0) a.0.1 (flat_map runs_text b.0.0) b.0.1 t.0 u.0 in
    let nothing : b.0.1 ≡ [] = nil_from_length b.0.1 (eqb-true (length b.0.1) 0 g.0) in
    let text : ℕ → List ℕ = λ n. count_text version n ++ flat_map runs_text b.0.0 in
    subst (AreLives version bytes) {x = b.0.0} g.1 (
    record {
      parts = both.parts ∙ ap (λ after. text a.0.0 ++ after) nothing ∙ append-nil (text a.0.0) ∙ ap text (sym u.1);
      told = subst (Tells version) (sym u.1) t.1;
      fields = u.2;
    }
    )

lives_again : (version : ImageVersion) (total : ℕ) (lives : List (List Run)) → Tells version (length lives) → AllByRecursion IsLife lives →
    lives_at version total (lives_text version lives) ≡ Ok lives
unfolding lives_at
lives_again version total lives told good =
    let text = flat_map runs_text lives in
    let count : count_at version total (lives_text version lives) ≡ Ok (length lives, text) = count_again version total (length lives) text told in
    let all : repeated (life_at total) (length lives) text ≡ Ok (lives, []) =
    ap (repeated (life_at total) (length lives)) (sym (append-nil text))
    ∙ repeated_again runs_text IsLife (life_at total) (life_again total) lives [] good in
    rw (count, all) refl

-- ---- Variables

variables_take : (total size : ℕ) (bytes : List ℕ) (x : List ℕ × List ℕ) → IsBytes bytes → size % word_bytes ≡ 0 → variables_at total size bytes ≡ Ok x →
    Takes bytes (variables_text x.0) x.1 × AreVariables size x.0
unfolding variables_at
variables_take total size bytes x fits whole e =
    let a = bind_ok (size_at total size bytes) (λ after. repeated (word_at total) (size / word_bytes) after) x e in
    let t = size_takes total size bytes a.0 fits a.1 in
    let u = repeated_take word IsWord (word_at total) (word_takes total) (size / word_bytes) a.0 x t.rest_fits a.2 in
    let both = then bytes (number size) a.0 (flat_map word x.0) x.1 t u.0 in
    let sized : word_bytes * length x.0 ≡ size = omega (arith, u.1, whole) in
    (subst (λ n. Takes bytes (number n ++ flat_map word x.0) x.1) (sym sized) both, record { count = sized; words = u.2 })

pub variables_again : (total size : ℕ) (variables rest : List ℕ) → size < 2 ^ 32 → AreVariables size variables →
    variables_at total size (variables_text variables ++ rest) ≡ Ok (variables, rest)
unfolding variables_at
variables_again total size variables rest lt good =
    let after = flat_map word variables ++ rest in
    let regrouped : variables_text variables ++ rest ≡ number size ++ after =
    append_assoc (number (word_bytes * length variables)) (flat_map word variables) rest ∙ ap (λ n. number n ++ after) good.count in
    let words : size / word_bytes ≡ length variables = omega (arith, good.count) in
    let begins : size_at total size (variables_text variables ++ rest) ≡ Ok after = ap (size_at total size) regrouped ∙ size_again total size after lt in
    let all : repeated (word_at total) (size / word_bytes) after ≡ Ok (variables, rest) =
    rw words (repeated_again word IsWord (word_at total) (word_again total) variables rest good.words) in
    rw (begins, all) refl

pub variables_are_found : {X : Type 0} (view : X → List ℕ × List ℕ) (total size : ℕ) (bytes : List ℕ) (x : Result X ReadError) → IsBytes bytes
    → size % word_bytes ≡ 0 → Gives view x (variables_at total size bytes)
    → IfOk x (λ y. AreVariables size (view y).0 × (bytes ≡ variables_text (view y).0 ++ (view y).1))
variables_are_found view total size bytes (Ok y) fits whole given =
    let found = variables_take total size bytes (view y) fits whole given in (found.1, found.0.parts)
variables_are_found view total size bytes (Err e) fits whole given = tt

-- ---- What stands after them

-- with these words of variables
record IsAfter (version : ImageVersion) (threads : ℕ) (variables bytes : List ℕ) (s : State) : Type 0 where
  same : s.variables ≡ variables
  fits : (size : ℕ) → AreVariables size variables → IsState version size threads s
  text : bytes ≡ logs_text version s

logs_take : (version : ImageVersion) (total threads : ℕ) (variables bytes : List ℕ) (s : State) → IsBytes bytes →
    logs_at version total threads variables bytes ≡ Ok s → IsAfter version threads variables bytes s
unfolding logs_at
logs_take version total threads variables bytes s fits e =
    let a = bind_ok (repeated (word_at total) (words_of version * threads) bytes)
    (λ l. lives_at version total l.1 >>= λ ls. Ok (record { variables = variables; logs = l.0; lives = ls })) s e in
    let b = bind_ok (lives_at version total a.0.1) (λ ls. Ok (record { variables = variables; logs = a.0.0; lives = ls })) s a.2 in
    let made : State = record { variables = variables; logs = a.0.0; lives = b.0 } in
    let t = repeated_take word IsWord (word_at total) (word_takes total) (words_of version * threads) bytes a.0 fits a.1 in
    let u = lives_take version total a.0.1 b.0 t.0.rest_fits b.1 in
    subst (IsAfter version threads variables bytes) {x = made} (ok_is made s b.2) (
    record {
      same = refl;
      fits = λ size good. record {
        variables = good.count;
        logs = t.1;
        lives = u.told;
        variable_words = good.words;
        log_words = t.2;
        fields = u.fields;
      };
      text = t.0.parts ∙ ap (λ after. flat_map word a.0.0 ++ after) u.parts;
    }
    )

pub logs_again : (version : ImageVersion) (total size threads : ℕ) (s : State) → IsState version size threads s →
    logs_at version total threads s.variables (logs_text version s) ≡ Ok s
unfolding logs_at
logs_again version total size threads s good =
    let tail = lives_text version s.lives in
    let logs : repeated (word_at total) (words_of version * threads) (logs_text version s) ≡ Ok (s.logs, tail) =
    ap (λ n. repeated (word_at total) n (logs_text version s)) (sym good.logs)
    ∙ repeated_again word IsWord (word_at total) (word_again total) s.logs tail good.log_words in
    let lives : lives_at version total tail ≡ Ok s.lives = lives_again version total s.lives good.lives good.fields in
    rw (logs, lives) refl

pub logs_are_found : (version : ImageVersion) (total threads : ℕ) (variables bytes : List ℕ) (x : Result code.State ReadError) → IsBytes bytes →
    Gives state_of x (logs_at version total threads variables bytes)
    → IfOk x (λ state. (state.variables.items ≡ variables)
    × ((size : ℕ) → AreVariables size variables → IsState version size threads (state_of state)) × (bytes ≡ logs_text version (state_of state)))
logs_are_found version total threads variables bytes (Ok state) fits given =
    let found = logs_take version total threads variables bytes (state_of state) fits given in (found.same, found.fits, found.text)
logs_are_found version total threads variables bytes (Err e) fits given = tt

same_variables : (version : ImageVersion) (total threads : ℕ) (variables bytes : List ℕ) (s : State) →
    logs_at version total threads variables bytes ≡ Ok s → s.variables ≡ variables
unfolding logs_at
same_variables version total threads variables bytes s e =
    let a = bind_ok (repeated (word_at total) (words_of version * threads) bytes)
    (λ l. lives_at version total l.1 >>= λ ls. Ok (record { variables = variables; logs = l.0; lives = ls })) s e in
    let b = bind_ok (lives_at version total a.0.1) (λ ls. Ok (record { variables = variables; logs = a.0.0; lives = ls })) s a.2 in
    let made : State = record { variables = variables; logs = a.0.0; lives = b.0 } in
    sym (ap (λ (x : State). x.variables) (ok_is made s b.2))

-- ---- All that stands after the source

-- its variables are read, and then what stands after them
pub state_in_parts : (version : ImageVersion) (total size threads : ℕ) (bytes : List ℕ) (s : State) → state_at version total size threads bytes ≡ Ok s →
    (rest : List ℕ) × (variables_at total size bytes ≡ Ok (s.variables, rest)) × (logs_at version total threads s.variables rest ≡ Ok s)
unfolding state_at
state_in_parts version total size threads bytes s e =
    let a = bind_ok (variables_at total size bytes) (λ v. logs_at version total threads v.0 v.1) s e in
    let same : s.variables ≡ a.0.0 = same_variables version total threads a.0.0 a.0.1 s a.2 in (
      a.0.1,
      a.1 ∙ ap (λ (words : List ℕ). Ok (words, a.0.1)) (sym same),
      ap (λ (words : List ℕ). logs_at version total threads words a.0.1) same ∙ a.2,
    )

state_again : (version : ImageVersion) (total size threads : ℕ) (s : State) → size < 2 ^ 32 → IsState version size threads s →
    state_at version total size threads (state_text version s) ≡ Ok s
unfolding state_at
state_again version total size threads s lt good =
    let regrouped : state_text version s ≡ variables_text s.variables ++ logs_text version s = simp append_assoc in
    let sized : AreVariables size s.variables = record { count = good.variables; words = good.variable_words } in
    let variables : variables_at total size (state_text version s) ≡ Ok (s.variables, logs_text version s) =
    ap (variables_at total size) regrouped ∙ variables_again total size s.variables (logs_text version s) lt sized in
    rw variables (logs_again version total size threads s good)

-- ---- Whole images

pub image_again : (version : ImageVersion) (size threads : ℕ) (o : Contents) → length o.source ≤ MOST_SOURCE_BYTES → size < 2 ^ 32 →
    IsState version size threads o.state → image_at version size threads (spelling version o) ≡ Ok o
unfolding image_at
image_again version size threads o few lt good =
    rw (
      source_again version o.source (state_text version o.state) few,
      state_again version (length (spelling version o)) size threads o.state lt good,
    ) refl

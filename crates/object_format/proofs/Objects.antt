-- The two laws: what is read is spelled so, and what is spelled so is read.
use Rattle.std.proofs.Common.{◌≡◌, ℕ, ◌-◌, ◌%◌, ◌^◌, ◌<◌, ◌≤◌, List, [], ◌∷◌, ◌++◌, length}
use Rattle.std.proofs.Common.{All, map, Result, Ok, Err, refl, sym, ap, subst, ◌∙◌, append_assoc, arith}
use Rattle.std.specs.Prelude.{Bool, IfOk, cond, false, is_some, true, ◌==◌}
use Rattle.std.specs.Global.{Vec}
use Rattle.std.specs.List.{flat_map, AllByRecursion}
use Rattle.std.proofs.lemmas.Bool.{eqb-true}
use Rattle.std.proofs.lemmas.List.{append-nil, nil_from_length}
use Rattle.std.proofs.lemmas.List.Elements.{All-from_recursion}
use Rattle.ido_base.specs.declared.limits.TheConstants.{MOST_THREADS, MOST_VARIABLE_BYTES, MOST_CODE_WORDS}
use Rattle.log_schemes.specs.declared.log.Log.{Log}
use Rattle.log_schemes.specs.declared.log.Log.TheVariants.{V1, V2, Justdo}
use Rattle.rv64_isa.specs.Formats.{decoded}
use Rattle.machine_model.specs.declared.object.Object.{Object}
use Rattle.file_fields.specs.declared.error.ReadError.{ReadError}
use Rattle.file_fields.specs.Fields.{Fault, Rest, Version, ◌>>=◌, bytes_at, number_at, kept, number_within, repeated, magic_at, ended}
use Rattle.file_fields.specs.Numbers.{number}
use Rattle.file_fields.specs.links.ReaderResults.{Gives}
use Rattle.file_fields.proofs.Public.{IsBytes, bind_ok, test_ok, kept_ok, ok_is, Takes, then, bytes_take, bytes_again, number_takes, number_again}
use Rattle.file_fields.proofs.Public.{within_takes, within_again, magic_takes, magic_again, repeated_take, repeated_again}
use Rattle.object_format.specs.Contents.{Contents, contents_of, items_of, IsInstructionWord, IsThreadCode, IsWithinLimits, least_words}
use Rattle.log_schemes.specs.declared.keeping.Keeping.{Keeping}
use Rattle.log_schemes.specs.declared.keeping.Keeping.TheVariants.{Masked, Listed}
use Rattle.log_schemes.specs.Schemes.{keeping_of, most_kept, most_locks}
use Rattle.object_format.specs.Contents.{version_of, word_bytes}
use Rattle.object_format.specs.ObjectEncoder.{magic, thread_text, spelling}
use Rattle.object_format.specs.ObjectDecoder.{Head, initial_at, log_at, word_at, thread_at, head_at, read}

-- ---- The head

pub record IsInitial (bytes : List ℕ) : Type 0 where
  pub few : length bytes ≤ MOST_VARIABLE_BYTES
  pub whole : length bytes % word_bytes ≡ 0

initial_takes : (total : ℕ) (bytes : List ℕ) (x : List ℕ × List ℕ) → IsBytes bytes → initial_at total bytes ≡ Ok x →
    Takes bytes (number (length x.0) ++ x.0) x.1 × IsInitial x.0
unfolding initial_at
initial_takes total bytes x fits e =
    let a = bind_ok (number_within total 0 MOST_VARIABLE_BYTES bytes) (λ n. kept total (n.0 % word_bytes == 0) bytes n >>= λ m. bytes_at total m.0 m.1) x e in
    let b = bind_ok (kept total (a.0.0 % word_bytes == 0) bytes a.0) (λ m. bytes_at total m.0 m.1) x a.2 in
    let k = kept_ok total (a.0.0 % word_bytes == 0) bytes a.0 b.0 b.1 in
    let t = within_takes total 0 MOST_VARIABLE_BYTES bytes a.0 fits a.1 in
    let read : bytes_at total a.0.0 a.0.1 ≡ Ok x = subst (λ (m : ℕ × List ℕ). bytes_at total m.0 m.1 ≡ Ok x) (sym k.1) b.2 in
    let u = bytes_take total a.0.0 a.0.1 x t.0.rest_fits read in
    let whole : a.0.0 % word_bytes ≡ 0 = eqb-true _ _ k.0 in
    let text = then bytes (number a.0.0) a.0.1 x.0 x.1 t.0 u.0 in
    (subst (λ n. Takes bytes (number n ++ x.0) x.1) (sym u.1) text, record { few = rw u.1 t.2; whole = rw u.1 whole })

initial_again : (total : ℕ) (text rest : List ℕ) → IsInitial text → initial_at total (number (length text) ++ (text ++ rest)) ≡ Ok (text, rest)
unfolding initial_at
initial_again total text rest good =
    rw (within_again total 0 MOST_VARIABLE_BYTES (length text) (text ++ rest) (omega arith) good.few (omega (arith, good.few)), good.whole)
    (bytes_again total (length text) text rest refl)

-- ---- The version

abbrev chosen : (first second third : Bool) → (rest : List ℕ) → Result (Log × List ℕ) Fault
chosen first second third rest = cond first (Ok (V1, rest)) (cond second (Ok (V2, rest)) (cond third (Ok (Justdo, rest)) (Err Version)))

abbrev by_number : (read : ℕ × List ℕ) → Result (Log × List ℕ) Fault
by_number read = chosen (read.0 == 1) (read.0 == 2) (read.0 == 3) read.1

told_by : (log : Log) (bytes : List ℕ) (n : ℕ) (rest : List ℕ) (x : Log × List ℕ) → (n == version_of log) ≡ true →
    ◌≡◌ {A = Result (Log × List ℕ) Fault} (Ok (log, rest)) (Ok x) → Takes bytes (number n) rest → Takes bytes (number (version_of x.0)) x.1
told_by log bytes n rest x is e t =
    let made : Log × List ℕ = (log, rest) in
    subst (λ (y : Log × List ℕ). Takes bytes (number (version_of y.0)) y.1) (ok_is made x e)
    (subst (λ (m : ℕ). Takes bytes (number m) rest) (eqb-true n (version_of log) is) t)

told : (bytes : List ℕ) (n : ℕ) (rest : List ℕ) (x : Log × List ℕ) (first second third : Bool) → (n == 1) ≡ first → (n == 2) ≡ second → (n == 3) ≡ third →
    chosen first second third rest ≡ Ok x → Takes bytes (number n) rest → Takes bytes (number (version_of x.0)) x.1
told bytes n rest x true second third one two three e t = told_by V1 bytes n rest x one e t
told bytes n rest x false true third one two three e t = told_by V2 bytes n rest x two e t
told bytes n rest x false false true one two three e t = told_by Justdo bytes n rest x three e t
told bytes n rest x false false false one two three e t = absurd (cc e)

log_takes : (total : ℕ) (bytes : List ℕ) (x : Log × List ℕ) → IsBytes bytes → log_at total bytes ≡ Ok x → Takes bytes (number (version_of x.0)) x.1
unfolding log_at
log_takes total bytes x fits e =
    let a = bind_ok (number_at total bytes) (λ n. by_number n) x e in
    told bytes a.0.0 a.0.1 x (a.0.0 == 1) (a.0.0 == 2) (a.0.0 == 3) refl refl refl a.2 (number_takes total bytes a.0 fits a.1).0

version_fits : (log : Log) → version_of log < 2 ^ 32
version_fits V1 = omega arith
version_fits V2 = omega arith
version_fits Justdo = omega arith

version_told : (log : Log) (rest : List ℕ) → by_number (version_of log, rest) ≡ Ok (log, rest)
version_told V1 rest = refl
version_told V2 rest = refl
version_told Justdo rest = refl

log_again : (total : ℕ) (log : Log) (rest : List ℕ) → log_at total (number (version_of log) ++ rest) ≡ Ok (log, rest)
unfolding log_at
log_again total log rest =
    ap (λ (read : Result (ℕ × List ℕ) Fault). read >>= λ n. by_number n) (number_again total (version_of log) rest (version_fits log))
    ∙ version_told log rest

mutexes_fit : (log : Log) → most_locks log < 2 ^ 32
mutexes_fit log = by (keeping_of log)
  where
    by : (k : Keeping) → most_kept k < 2 ^ 32
    by Masked = omega arith
    by Listed = omega arith

-- ---- What stands before the code

pub record IsHead (h : Head) : Type 0 where
  pub threads : h.threads ≤ MOST_THREADS
  pub mutexes : h.mutexes ≤ most_locks h.log
  pub initial : IsInitial h.initial

abbrev head_text : Head → List ℕ
head_text h = magic ++ (number (version_of h.log) ++ (number h.threads ++ (number h.mutexes ++ (number (length h.initial) ++ h.initial))))

head_takes : (total : ℕ) (bytes : List ℕ) (x : Head × List ℕ) → IsBytes bytes → head_at total bytes ≡ Ok x → Takes bytes (head_text x.0) x.1 × IsHead x.0
unfolding head_at
head_takes total bytes x fits e =
    let a = bind_ok (magic_at total magic bytes)
    (λ m. log_at total m >>= λ log. number_within total 0 MOST_THREADS log.1 >>= λ threads. number_within total 0 (most_locks log.0) threads.1 >>= λ mutexes.
    initial_at total mutexes.1 >>= λ initial.
    Ok (record { log = log.0; threads = threads.0; mutexes = mutexes.0; initial = initial.0 }, initial.1)) x e in
    let b = bind_ok (log_at total a.0)
    (λ log. number_within total 0 MOST_THREADS log.1 >>= λ threads. number_within total 0 (most_locks log.0) threads.1 >>= λ mutexes.
    initial_at total mutexes.1 >>= λ initial.
    Ok (record { log = log.0; threads = threads.0; mutexes = mutexes.0; initial = initial.0 }, initial.1)) x a.2 in
    let c = bind_ok (number_within total 0 MOST_THREADS b.0.1)
    (λ threads. number_within total 0 (most_locks b.0.0) threads.1 >>= λ mutexes. initial_at total mutexes.1 >>= λ initial.
    Ok (record { log = b.0.0; threads = threads.0; mutexes = mutexes.0; initial = initial.0 }, initial.1)) x b.2 in
    let d = bind_ok (number_within total 0 (most_locks b.0.0) c.0.1)
    (λ mutexes. initial_at total mutexes.1 >>= λ initial.
    Ok (record { log = b.0.0; threads = c.0.0; mutexes = mutexes.0; initial = initial.0 }, initial.1)) x c.2 in
    let f = bind_ok (initial_at total d.0.1)
    (λ initial. Ok (record { log = b.0.0; threads = c.0.0; mutexes = d.0.0; initial = initial.0 }, initial.1)) x d.2 in
    let t0 = magic_takes total magic bytes a.0 fits a.1 in
    let t1 = log_takes total a.0 b.0 t0.rest_fits b.1 in
    let t2 = within_takes total 0 MOST_THREADS b.0.1 c.0 t1.rest_fits c.1 in
    let t3 = within_takes total 0 (most_locks b.0.0) c.0.1 d.0 t2.0.rest_fits d.1 in
    let t4 = initial_takes total d.0.1 f.0 t3.0.rest_fits f.1 in
    let e34 = then c.0.1 (number d.0.0) d.0.1 (number (length f.0.0) ++ f.0.0) f.0.1 t3.0 t4.0 in
    let e24 = then b.0.1 (number c.0.0) c.0.1 (number d.0.0 ++ (number (length f.0.0) ++ f.0.0)) f.0.1 t2.0 e34 in
    let e14 = then a.0 (number (version_of b.0.0)) b.0.1 (number c.0.0 ++ (number d.0.0 ++ (number (length f.0.0) ++ f.0.0))) f.0.1 t1 e24 in
    let e04 = then bytes magic a.0 (number (version_of b.0.0) ++ (number c.0.0 ++ (number d.0.0 ++ (number (length f.0.0) ++ f.0.0)))) f.0.1 t0 e14 in
    let made : Head × List ℕ = (record { log = b.0.0; threads = c.0.0; mutexes = d.0.0; initial = f.0.0 }, f.0.1) in
    subst (λ (y : Head × List ℕ). Takes bytes (head_text y.0) y.1 × IsHead y.0) (ok_is made x f.2)
    (e04, record { threads = t2.2; mutexes = t3.2; initial = t4.1 })

head_again : (total : ℕ) (h : Head) (rest : List ℕ) → IsHead h →
    head_at total (magic ++ (number (version_of h.log) ++ (number h.threads ++ (number h.mutexes ++ (number (length h.initial) ++ (h.initial ++ rest)))))) ≡
    Ok (h, rest)
unfolding head_at
head_again total h rest good =
    rw (
      magic_again total magic (number (version_of h.log) ++ (number h.threads ++ (number h.mutexes ++ (number (length h.initial) ++ (h.initial ++ rest))))),
      log_again total h.log (number h.threads ++ (number h.mutexes ++ (number (length h.initial) ++ (h.initial ++ rest)))),
      within_again total 0 MOST_THREADS h.threads (number h.mutexes ++ (number (length h.initial) ++ (h.initial ++ rest))) (omega arith) good.threads
          (omega (arith, good.threads)),
      within_again total 0 (most_locks h.log) h.mutexes (number (length h.initial) ++ (h.initial ++ rest)) (omega arith) good.mutexes
          (omega (arith, good.mutexes, mutexes_fit h.log)),
      initial_again total h.initial rest good.initial,
    ) refl

-- ---- Code

word_takes : (total : ℕ) (bytes : List ℕ) (x : ℕ × List ℕ) → IsBytes bytes → word_at total bytes ≡ Ok x → Takes bytes (number x.0) x.1 × IsInstructionWord x.0
unfolding word_at
word_takes total bytes x fits e =
    let b = bind_ok (number_at total bytes) (λ n. kept total (is_some (decoded n.0)) bytes n) x e in
    let t = number_takes total bytes b.0 fits b.1 in
    let k = kept_ok total (is_some (decoded b.0.0)) bytes b.0 x b.2 in
    subst (λ (y : ℕ × List ℕ). Takes bytes (number y.0) y.1 × IsInstructionWord y.0) k.1 (t.0, (t.1, k.0))

word_again : (total word : ℕ) (rest : List ℕ) → IsInstructionWord word → word_at total (number word ++ rest) ≡ Ok (word, rest)
unfolding word_at
word_again total word rest good = rw (number_again total word rest good.0, good.1) refl

thread_takes : (total : ℕ) (bytes : List ℕ) (x : List ℕ × List ℕ) → IsBytes bytes → thread_at total bytes ≡ Ok x →
    Takes bytes (thread_text x.0) x.1 × IsThreadCode x.0
unfolding thread_at
thread_takes total bytes x fits e =
    let b = bind_ok (number_within total least_words MOST_CODE_WORDS bytes) (λ n. repeated (word_at total) n.0 n.1) x e in
    let t = within_takes total least_words MOST_CODE_WORDS bytes b.0 fits b.1 in
    let u = repeated_take number IsInstructionWord (word_at total) (word_takes total) b.0.0 b.0.1 x t.0.rest_fits b.2 in
    let text = then bytes (number b.0.0) b.0.1 (flat_map number x.0) x.1 t.0 u.0 in
    (subst (λ n. Takes bytes (number n ++ flat_map number x.0) x.1) (sym u.1) text, record { some = rw u.1 t.1; few = rw u.1 t.2; instructions = u.2 })

thread_again : (total : ℕ) (words rest : List ℕ) → IsThreadCode words → thread_at total (thread_text words ++ rest) ≡ Ok (words, rest)
unfolding thread_at
thread_again total words rest good =
    let regrouped : thread_text words ++ rest ≡ number (length words) ++ (flat_map number words ++ rest) =
    append_assoc (number (length words)) (flat_map number words) rest in
    ap (λ t. number_within total least_words MOST_CODE_WORDS t >>= λ n. repeated (word_at total) n.0 n.1) regrouped
    ∙ rw (within_again total least_words MOST_CODE_WORDS (length words) (flat_map number words ++ rest) good.some good.few (omega (arith, good.few)))
    (repeated_again number IsInstructionWord (word_at total) (word_again total) words rest good.instructions)

-- ---- Objects

abbrev body_text : Contents → List ℕ
body_text o =
    magic ++ (number (version_of o.log) ++ (number (length o.code) ++ (number o.mutexes ++
    (number (length o.initial) ++ (o.initial ++ flat_map thread_text o.code)))))

object_takes : (bytes : List ℕ) (o : Contents) → IsBytes bytes → read bytes ≡ Ok o → IsWithinLimits o × (bytes ≡ spelling o)
unfolding read
object_takes bytes o fits e =
    let total = length bytes in
    let a = bind_ok (head_at total bytes)
    (λ head. repeated (thread_at total) head.0.threads head.1 >>= λ code.
    ended total code.1 (record { log = head.0.log; code = code.0; initial = head.0.initial; mutexes = head.0.mutexes })) o e in
    let b = bind_ok (repeated (thread_at total) a.0.0.threads a.0.1)
    (λ code. ended total code.1 (record { log = a.0.0.log; code = code.0; initial = a.0.0.initial; mutexes = a.0.0.mutexes })) o a.2 in
    let made : Contents = record { log = a.0.0.log; code = b.0.0; initial = a.0.0.initial; mutexes = a.0.0.mutexes } in
    let g = test_ok (length b.0.1 == 0) (Rest (total - length b.0.1)) made o b.2 in
    let t = head_takes total bytes a.0 fits a.1 in
    let u = repeated_take thread_text IsThreadCode (thread_at total) (thread_takes total) a.0.0.threads a.0.1 b.0 t.0.rest_fits b.1 in
    let nothing : b.0.1 ≡ [] = nil_from_length b.0.1 (eqb-true _ _ g.0) in
    let both = (then bytes (head_text a.0.0) a.0.1 (flat_map thread_text b.0.0) b.0.1 t.0 u.0).parts in
    let whole : bytes ≡ head_text a.0.0 ++ flat_map thread_text b.0.0 =
    both ∙ ap (λ rest. (head_text a.0.0 ++ flat_map thread_text b.0.0) ++ rest) nothing ∙ append-nil (head_text a.0.0 ++ flat_map thread_text b.0.0) in
    let counted : bytes ≡ head_text (record { log = a.0.0.log; threads = length b.0.0; mutexes = a.0.0.mutexes; initial = a.0.0.initial }) ++ flat_map
    thread_text b.0.0 =
    whole ∙ ap (λ n. head_text (record { log = a.0.0.log; threads = n; mutexes = a.0.0.mutexes; initial = a.0.0.initial }) ++ flat_map thread_text b.0.0)
    (sym u.1) in
    subst (λ v. IsWithinLimits v × (bytes ≡ spelling v)) g.1
    (record { threads = rw u.1 t.1.threads; mutexes = t.1.mutexes; initial = t.1.initial.few; whole = t.1.initial.whole; code = u.2 }, counted ∙ regrouped made)
  where
    regrouped : (v : Contents) → head_text (record { log = v.log; threads = length v.code; mutexes = v.mutexes; initial = v.initial })
        ++ flat_map thread_text v.code ≡ spelling v
    regrouped v = simp append_assoc

pub object_again : (o : Contents) → IsWithinLimits o → read (spelling o) ≡ Ok o
unfolding read
object_again o good =
    let total = length (spelling o) in
    let head : Head = record { log = o.log; threads = length o.code; mutexes = o.mutexes; initial = o.initial } in
    let is_head : IsHead head = record { threads = good.threads; mutexes = good.mutexes; initial = record { few = good.initial; whole = good.whole } } in
    let begins : head_at total (spelling o) ≡ Ok (head, flat_map thread_text o.code) = head_again total head (flat_map thread_text o.code) is_head in
    let code : repeated (thread_at total) (length o.code) (flat_map thread_text o.code) ≡ Ok (o.code, []) =
    ap (repeated (thread_at total) (length o.code)) (sym (append-nil (flat_map thread_text o.code)))
    ∙ repeated_again thread_text IsThreadCode (thread_at total) (thread_again total) o.code [] good.code in
    rw (begins, code) refl

pub is_found : (bytes : List ℕ) (x : Result Object ReadError) → IsBytes bytes → Gives contents_of x (read bytes) →
    IfOk x (λ object. IsWithinLimits (contents_of object) × (bytes ≡ spelling (contents_of object)))
is_found bytes (Ok object) fits given = object_takes bytes (contents_of object) fits given
is_found bytes (Err e) fits given = tt

-- ---- Lengths of code, of each thread at its place

lengths_fit : (code : List (Vec ℕ)) → AllByRecursion (λ words. length words < 2 ^ 32) (map items_of code) →
    AllByRecursion (λ words. length words.items < 2 ^ 32) code
lengths_fit [] fits = tt
lengths_fit (words ∷ code) fits = (fits.0, lengths_fit code fits.1)

pub all_lengths_fit : (code : List (Vec ℕ)) → AllByRecursion (λ words. length words < 2 ^ 32) (map items_of code) →
    All (λ words. length words.items < 2 ^ 32) code
all_lengths_fit code fits = All-from_recursion (λ words. length words.items < 2 ^ 32) code (lengths_fit code fits)

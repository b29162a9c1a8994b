-- Points of logs.
use Rattle.std.proofs.Common.{◌≡◌, inl, inr, ℕ, ◌+◌, ◌*◌, ◌<◌, ◌≤◌, List, [], ◌∷◌, length, Some, Result, Ok, Err, MatchResult, sym, ap, ◌∙◌, subst, arith}
use Rattle.std.proofs.Common.{zero, suc, get_or}
use Rattle.std.specs.Prelude.{All, ◌==◌, Vec}
use Rattle.std.specs.Global.{Global}
use Rattle.std.proofs.lemmas.Bool.{cond_both}
use Rattle.std.proofs.lemmas.List.{get_or-map}
use Rattle.c_tree.specs.Flats.{Flat}
use Rattle.log_schemes.specs.declared.point.Point.TheVariants.{At}
use Rattle.flat_compile.specs.declared.resumes.Resume.{Resume}
use Rattle.image_checks.specs.declared.error.ImageError.{ImageError}
use Rattle.flat_compile.specs.ResumePlaces.{resumes_at}
use Rattle.image_checks.specs.Logs.{Logs, point_in}
use Rattle.log_schemes.specs.Layout.{log_words}
use Rattle.log_schemes.specs.declared.log.Log.{Log}
use Rattle.log_schemes.specs.Schemes.{lines_of, size_of}
use Rattle.log_schemes.specs.declared.size.LogSize.{LogSize}
use Rattle.log_schemes.specs.declared.size.LogSize.TheVariants.{Lines16, Lines32}
use Rattle.image_checks.specs.ResumeSlots.{AllHaveRoom, TablesHaveRoom}
use Rattle.image_checks.specs.links.Errors.{IsFaultOrMemory}
use Rattle.image_checks.specs.Checks.{resume_at, IsRight, IsBankFault, IsResumableLog, IsLogFault, resumed, of_bank}

-- what holds of all places holds of the one that is found
pub found_has : (P : Resume → Type 0) (resumes : List Resume) (address : ℕ) (r : Resume) → All P resumes → resume_at resumes address ≡ Some r → P r
found_has P [] address r all found = cc
found_has P (x ∷ xs) address r all found =
    cond_both (x.address == address) (Some x) (resume_at xs address) (λ o. o ≡ Some r → P r)
    (λ _ is. let same : x ≡ r = cc in subst P same (all 0 x (omega arith)))
    (λ _ is. found_has P xs address r (λ k d l. all (suc k) d (omega (arith, l))) is)
    found

module _ (flat : Flat) (resumes : List Resume) (logs : Logs) (thread address bank : ℕ) (r : Resume) where
  pub bank_answer : (answer : Result (Unit {0}) ImageError) → point_in logs thread ≡ At address bank → resume_at resumes address ≡ Some r →
      MatchResult answer (λ _. IsRight flat logs thread bank r) (IsFaultOrMemory (IsBankFault flat logs thread bank r)) →
      MatchResult answer (λ _. IsResumableLog flat resumes logs thread) (IsFaultOrMemory (IsLogFault flat resumes logs thread))
  bank_answer (Ok _) point found right = resumed address bank r point found right
  bank_answer (Err error) point found (inl none) = inl none
  bank_answer (Err error) point found (inr fault) = inr (of_bank address bank r error point found fault)

-- the places of the thread of that number
pub table_at : (table : List (Vec Resume Global)) (thread : ℕ) (rs : Vec Resume Global) → thread < length table → rs ≡ get_or table thread rs →
    rs.items ≡ resumes_at table thread
table_at table thread rs within is =
    let items : Vec Resume Global → List Resume = λ v. v.items in
    ap items is ∙ sym (get_or-map items table thread rs [] within)

pub room_at : (log : Log) (table : List (Vec Resume Global)) (thread : ℕ) → thread < length table → TablesHaveRoom log table →
    AllHaveRoom log (resumes_at table thread)
room_at log (rs ∷ table) zero within all = all 0 rs (omega arith)
room_at log (rs ∷ table) (suc thread) within all = room_at log table thread (omega (arith, within)) (λ k d below. all (suc k) d (omega (arith, below)))
room_at log [] thread within all = absurd (omega (arith, within))

within_as : (size : LogSize) (thread threads words : ℕ) → thread < threads → 8 * lines_of size * threads ≤ words → 8 * lines_of size * (thread + 1) ≤ words
within_as Lines16 thread threads words below fits =
    let all : 128 * threads ≤ words = fits in
    let one : 128 * (thread + 1) ≤ words = omega (arith, below, all) in one
within_as Lines32 thread threads words below fits =
    let all : 256 * threads ≤ words = fits in
    let one : 256 * (thread + 1) ≤ words = omega (arith, below, all) in one

-- the log of a thread lies among those of all
pub log_within : (log : Log) (thread threads words : ℕ) → thread < threads → log_words log * threads ≤ words → log_words log * (thread + 1) ≤ words
log_within log thread threads words below fits = within_as (size_of log) thread threads words below fits

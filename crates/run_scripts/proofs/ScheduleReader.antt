-- What is read of schedules, word by word.
use Rattle.std.proofs.Common.{◌≡◌, refl, ℕ, ◌+◌, List, [], ◌∷◌, ◌++◌, length, drop, map, replicate, sym, ◌∙◌, ap, ap₂, arith, length-append}
use Rattle.std.specs.Prelude.{true, sum_by}
use Rattle.std.proofs.lemmas.List.{length-replicate}
use Rattle.std.proofs.lemmas.List.Sums.{sum_by_push}
use Rattle.run_scripts.specs.Pieces.{Piece, words_at}
use Rattle.run_scripts.specs.Schedules.{Read, is_schedule, lives_from}
use Rattle.run_scripts.specs.declared.schedule.Lives.{Lives}
use Rattle.run_scripts.specs.links.ReportViews.{steps_of}
use Rattle.run_scripts.specs.links.WordLengths.{AreSoMany, read_after}

schedule_word : (done : ℕ) (ended : List (List ℕ)) (steps : List ℕ) (w : Piece) (ws : List Piece) → is_schedule w.bytes ≡ true →
    lives_from done ended steps (w ∷ ws) ≡ lives_from done (ended ++ steps ∷ []) [] ws
schedule_word done ended steps w ws is = rw is refl

-- a word `schedule` ends a life
pub life_ends : (old new : Lives) (w : Piece) → is_schedule w.bytes ≡ true →
    map steps_of new.ended.items ≡ map steps_of old.ended.items ++ old.steps.items ∷ [] → new.steps.items ≡ [] → new.done ≡ old.done → (ws : List Piece) →
    read_after old (w ∷ ws) ≡ read_after new ws
life_ends old new w is ended steps done ws =
    schedule_word old.done (map steps_of old.ended.items) old.steps.items w ws is
    ∙ ap₂ (λ (ls : List (List ℕ)) (ts : List ℕ). lives_from old.done ls ts ws) (sym ended) (sym steps)
    ∙ ap (λ n. lives_from n (map steps_of new.ended.items) new.steps.items ws) (sym done)

pub still_many : (old new : Lives) → AreSoMany old →
    map steps_of new.ended.items ≡ map steps_of old.ended.items ++ old.steps.items ∷ [] → new.steps.items ≡ [] → new.done ≡ old.done → AreSoMany new
still_many old new many ended steps done =
    let all = ap (sum_by length) ended in
    let one = sum_by_push length (map steps_of old.ended.items) old.steps.items in
    let none = ap length steps in
    omega (arith, many, all, one, none, done)

-- a run is added
pub run_taken : (old new : Lives) (thread count : ℕ) (w : Piece) →
    ((ws : List Piece) → read_after old (w ∷ ws)
    ≡ lives_from (old.done + count) (map steps_of old.ended.items) (old.steps.items ++ replicate count thread) ws) →
    new.ended.items ≡ old.ended.items → new.steps.items ≡ old.steps.items ++ replicate count thread → new.done ≡ old.done + count → (ws : List Piece) →
    read_after old (w ∷ ws) ≡ read_after new ws
run_taken old new thread count w run ended steps done ws =
    run ws
    ∙ ap₂ (λ (ls : List (List ℕ)) (ts : List ℕ). lives_from (old.done + count) ls ts ws) (ap (map steps_of) (sym ended)) (sym steps)
    ∙ ap (λ n. lives_from n (map steps_of new.ended.items) new.steps.items ws) (sym done)

pub more_many : (old new : Lives) (thread count : ℕ) → AreSoMany old → new.ended.items ≡ old.ended.items →
    new.steps.items ≡ old.steps.items ++ replicate count thread → new.done ≡ old.done + count → AreSoMany new
more_many old new thread count many ended steps done =
    let same = ap (λ ls. sum_by length (map steps_of ls)) ended in
    let longer = ap length steps ∙ length-append old.steps.items (replicate count thread) in
    let so_many = length-replicate count thread in
    omega (arith, many, same, longer, so_many, done)

-- all lives have as many steps as is said
pub all_many : (lives : Lives) (all : List (List ℕ)) → AreSoMany lives → all ≡ map steps_of lives.ended.items ++ lives.steps.items ∷ [] →
    sum_by length all ≡ lives.done
all_many lives all many is =
    let sum = ap (sum_by length) is in
    let one = sum_by_push length (map steps_of lives.ended.items) lives.steps.items in
    omega (arith, many, sum, one)

-- the next word is taken
pub goes_on : (text : List ℕ) (old new : Lives) (whole : Read) (place middle next : ℕ) (w : Piece)
    → whole ≡ read_after old (words_at place (drop place text))
    → words_at place (drop place text) ≡ w ∷ words_at middle (drop middle text)
    → ((ws : List Piece) → read_after old (w ∷ ws) ≡ read_after new ws)
    → words_at middle (drop middle text) ≡ words_at next (drop next text)
    → whole ≡ read_after new (words_at next (drop next text))
goes_on text old new whole place middle next w reached word taken after =
    reached ∙ ap (read_after old) word ∙ taken (words_at middle (drop middle text)) ∙ ap (read_after new) after

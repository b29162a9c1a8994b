use Rattle.std.proofs.Common.{◌≡◌, ◌+◌, [], ℕ, List, length, drop, map, sym, ◌∙◌, ap, ap₂, arith}
use Rattle.std.proofs.lemmas.List.{drop_all}
use Rattle.std.specs.Prelude.{sum_by}
use Rattle.run_scripts.specs.Pieces.{words_at}
use Rattle.run_scripts.specs.Schedules.{Lives, lives_from, read}
use Rattle.run_scripts.specs.links.ReportViews.{steps_of}
use Rattle.run_scripts.proofs.ScheduleReader.{all_many, goes_on}
use Rattle.run_scripts.proofs.schedule.read_schedule.Goals as goal

pub loop-at-init : goal.loop-at-init
unfolding read
loop-at-init c =
    let words = words_at c.first_run-at.result (drop c.first_run-at.result c.args.text.now) in
    let none = ap (map steps_of) c.new-ended.ensures.items in
    let empty = c.new-steps.ensures.items in (
      c.first_run-at.ensures.runs ∙ sym (ap₂ (λ (ls : List (List ℕ)) (ts : List ℕ). lives_from 0 ls ts words) none empty),
      c.first_run-at.ensures.bound,
      c.first_run-at.ensures.word,
      omega arith,
      let sum = ap (sum_by length) none in let size = ap length empty in omega (arith, sum, size),
    )

pub loop-at-preserved : goal.loop-at-preserved
loop-at-preserved c =
    let text = c.args.text.now in
    let at = c.loop-at.at in
    let next = c.next_piece-at in (
      goes_on text c.loop-at.lives c.take_word.new.lives (read text) at (at + length c.piece_at-word.result.now) next.result
          (record { place = at; bytes = c.piece_at-word.result.now }) c.loop-at.invariant.0 c.piece_at-word.ensures.piece c.in_ok-take_word.ensures.taken
          next.ensures.pieces,
      next.ensures.bound,
      next.ensures.piece,
      c.in_ok-take_word.ensures.bound,
      c.in_ok-take_word.ensures.many,
    )

pub returns-clause-lives : goal.returns-clause-lives
returns-clause-lives c =
    let text = c.args.text.now in
    let lives = c.loop-at.lives in
    let ends : words_at c.loop-at.at (drop c.loop-at.at text) ≡ [] =
    ap (words_at c.loop-at.at) (drop_all c.loop-at.at text (omega (arith, c.loop-at-test.false))) in
    c.loop-at.invariant.0 ∙ ap (lives_from lives.done (map steps_of lives.ended.items) lives.steps.items) ends ∙ ap Lives (sym c.in_ok-all.ensures)

pub returns-clause-few : goal.returns-clause-few
returns-clause-few c =
    let many = all_many c.loop-at.lives (map steps_of c.in_ok-all.all.items) c.loop-at.invariant.4 c.in_ok-all.ensures in
    omega (arith, many, c.loop-at.invariant.3)

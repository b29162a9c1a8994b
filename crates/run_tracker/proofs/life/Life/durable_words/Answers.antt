use Rattle.std.proofs.Common.{◌≡◌, ℕ, ◌+◌, ◌*◌, ◌/◌, ◌++◌, List, length, ap, subst, ◌∙◌, arith, rules}
use Rattle.ido_base.specs.declared.limits.TheConstants.{VARIABLE_WORDS}
use Rattle.machine_model.specs.Machine.{World}
use Rattle.log_schemes.specs.Layout.{log_words, word_count}
use Rattle.ido_machine.specs.Machines.{program_in, log_by}
use Rattle.run_tracker.specs.ObjectLives.{Course, world_of, left_words, variable_words_in}
use Rattle.run_tracker.specs.links.LifeRepresentation.{course_of}
use Rattle.run_tracker.proofs.DurableWords.{durable_from, left_is}
use Rattle.run_tracker.proofs.life.Life.durable_words.Goals as goal

pub returns : goal.returns
returns c =
    let life = c.self.inside in
    let stands = c.self.invariant in
    let w : World = world_of (course_of life) in
    let variables = length life.initial.items / 8 in
    let logs = c.words.result * c.harts.result in
    let count : c.len.result ≡ length life.initial.items = search rules in
    let threads = length (program_in life.machine) in
    let size : length w.words ≡ word_count (log_by life.machine) threads =
    stands.machine.words.size ∙ ap (word_count (log_by life.machine)) life.machine.logged in
    let logs_are : logs ≡ log_words (log_by life.machine) * threads =
    ap (λ (n : ℕ). n * c.harts.result) (c.words.ensures.is ∙ ap log_words c.log.ensures)
    ∙ ap (λ (n : ℕ). log_words (log_by life.machine) * n) c.harts.ensures in
    let long : VARIABLE_WORDS + logs ≡ length w.words = omega (arith, size, logs_are) in
    let first : c.push_durable.new.words.items ≡ durable_from w.words 0 variables =
    c.push_durable.ensures.items w stands.machine ∙ ap (λ (xs : List ℕ). xs ++ durable_from w.words 0 (c.len.result / 8)) c.in_ok-words.ensures.items
    ∙ ap (λ (n : ℕ). durable_from w.words 0 (n / 8)) count in
    let all : c.push_durable-2.new.words.items ≡ durable_from w.words 0 variables ++ durable_from w.words VARIABLE_WORDS logs =
    c.push_durable-2.ensures.items w stands.machine ∙ ap (λ (xs : List ℕ). xs ++ durable_from w.words VARIABLE_WORDS logs) first in
    subst (λ (x : Course). c.push_durable-2.new.words.items ≡ left_words (variable_words_in x) (world_of x).words) c.self.view_is
    (all ∙ left_is w.words variables logs (omega (arith, stands.bytes, long)) long)

use Rattle.std.proofs.Common.{◌≡◌, ℕ, List, [], ◌+◌, ◌-◌, ◌∷◌, ◌++◌, length, drop, take, ap, sym, ◌∙◌, subst, arith, append_assoc, length-drop}
use Rattle.std.proofs.lemmas.List.{append-nil}
use Rattle.hart_driver.specs.declared.sweep.Outcome.{Outcome}
use Rattle.ido_cli.specs.Sweeps.{IsTable, no_more, reports_of, run_text}
use Rattle.ido_cli.proofs.SweptTables.{first_and_rest, nothing, run_before}
use Rattle.ido_cli.proofs.table.table.Goals as goal

pub loop-rest-preserved : goal.loop-rest-preserved
loop-rest-preserved c =
    let first = c.loop-rest.first in
    let rest = c.loop-rest.rest.now in
    let o = c.outcome-item.result in
    let more = c.run_length-more.result in
    let left = c.split_at.result.1.now in
    let inv = c.loop-rest.invariant in
    let after = take (length rest - 1) (drop 1 rest) in
    let parts : o ∷ after ≡ rest =
    sym (first_and_rest rest o (omega (arith, c.in-len1-up.len_at_least)) ∙ ap (λ (x : Outcome). x ∷ after) (sym c.outcome-item.is)) in
    let back : left ≡ drop more after = c.split_at.ensures.back in
    let next : first + (more + 1) ≡ first + more + 1 = omega arith in
    let run = run_text first (first + more) o.report in
    record {
      so_far = λ text h.
          let here = run_before first more o after left text c.run_length-more.ensures.front c.run_length-more.ensures.stops back
          (subst (λ (n : ℕ). IsTable n (reports_of left) text) next h) in
          let whole = inv.so_far (run ++ text) (subst (λ (os : List Outcome). IsTable first (reports_of os) (run ++ text)) parts here) in
          subst (λ (all : List ℕ). IsTable 0 (reports_of c.args.outcomes.now) all)
          (sym (append_assoc c.loop-rest.text.items run text) ∙ ap (λ (front : List ℕ). front ++ text) (sym c.in_ok-put_run.ensures)) whole;
      count =
          omega (
            arith,
            inv.count,
            ap length back,
            length-drop more after,
            ap length parts,
            c.run_length-more.ensures.within,
            c.in-len1-up.len_at_least,
          );
    }

pub returns : goal.returns
returns c =
    let inv = c.loop-rest.invariant in
    let none : c.loop-rest.rest.now ≡ [] = nothing c.loop-rest.rest.now (omega (arith, c.in_default.len_below)) in
    let all = inv.so_far [] (subst (λ (os : List Outcome). IsTable c.loop-rest.first (reports_of os) []) (sym none) (no_more c.loop-rest.first)) in
    subst (λ (text : List ℕ). IsTable 0 (reports_of c.args.outcomes.now) text) (append-nil c.loop-rest.text.items) all

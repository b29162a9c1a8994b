use Rattle.std.proofs.Common.{◌≡◌, ◌⊎◌, ◌+◌, inl, inr, List, Vec, Global, Bool, true, false, get_or, ap, sym, subst}
use Rattle.std.specs.Prelude.{IsTrue}
use Rattle.std.proofs.lemmas.Option.{slice_get-get_or}
use Rattle.region_cutter.specs.declared.covered.Read.{Read}
use Rattle.region_cutter.specs.links.GraphSearch.{IsSeen}
use Rattle.region_cutter.proofs.CoveredReads.{AreNotedBelow, noted_none, noted_more, noted_over, noted_all}
use Rattle.region_cutter.proofs.covered.note.Goals as goal
use Rattle.region_cutter.proofs.covered.note.Goals.{then-all, then-all-via-then-all, then-all-via-else-all+then-not-stands, else-all+else-not-stands}

pub loop-read-init : goal.loop-read-init
loop-read-init c = noted_none c.args.found.now c.args.ahead.now c.args.all c.args.covered.now.items

pub loop-read-preserved : goal.loop-read-preserved
loop-read-preserved c =
    let xs = c.args.found.now in
    let i = c.loop-read.read-index in
    let none : Read = record { node = 0; number = 0 } in
    let read = get_or xs i none in
    let at = slice_get-get_or xs i none c.loop-read-test.true in
    elim c.if-all.branch [
      | then-all w ↦ (
          let free : IsTrue c.args.all ⊎ ¬ (IsSeen c.args.ahead.now read.node) = elim w.then-all.branch [
            | then-all-via-then-all v ↦ inl v.if-all.true
            | then-all-via-else-all+then-not-stands v ↦ inr (λ s.
                let yes' : v.stands.result ≡ true = v.stands.ensures.1 s in
                let no' : v.stands.result ≡ false = v.if-not-stands.true in
                cc)
          ] in
          subst (λ (ys : List (Vec Bool Global)). AreNotedBelow xs c.args.ahead.now c.args.all (i + 1) c.args.covered.now.items ys)
          (sym (ap (λ (v : Vec (Vec Bool Global) Global). v.items) w.covered-is))
          (noted_more xs c.args.ahead.now c.args.all i c.args.covered.now.items c.loop-read.covered.items w.flag.new.covered.items read at c.loop-read.invariant
          free w.flag.ensures))
      | else-all+else-not-stands w ↦ (
          let seen : IsSeen c.args.ahead.now read.node = w.stands.ensures.0 w.if-not-stands.false in
          subst (λ (ys : List (Vec Bool Global)). AreNotedBelow xs c.args.ahead.now c.args.all (i + 1) c.args.covered.now.items ys)
          (sym (ap (λ (v : Vec (Vec Bool Global) Global). v.items) w.covered-is))
          (noted_over xs c.args.ahead.now c.args.all i c.args.covered.now.items c.loop-read.covered.items read at c.loop-read.invariant w.if-all.false seen))
    ]

pub returns : goal.returns
returns c = noted_all c.args.found.now c.args.ahead.now c.args.all c.loop-read.read-index c.args.covered.now.items c.loop-read.covered.items
    c.loop-read-test.false c.loop-read.invariant

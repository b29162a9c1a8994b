-- Rounds, made one after another.
use Rattle.std.proofs.Common.{◌≡◌, ℕ, ◌-◌, ◌<◌, min, List, [], ◌++◌, sym, ap, ◌∙◌, subst, append_assoc}
use Rattle.std.proofs.lemmas.List.{append-nil}
use Rattle.machine_events.specs.declared.event.Event.{Event}
use Rattle.machine_events.specs.Cores.{Behaviour, played}
use Rattle.machine_events.proofs.Public.{played-append}
use Rattle.run_scripts.specs.Rounds.{AreWholeRounds, HasRounds, IsOneGoing, round, round_of}

module _ {M : Type 0} (b : Behaviour M) (harts most : ℕ) (opening : M) (before : List Event) where
  -- rounds have come so far, and so many steps are left
  pub record LeadsTo (left : ℕ) (now : List Event) : Type 0 where
    pub made : List Event
    pub is : now ≡ before ++ made
    pub then : (rest : List Event) → AreWholeRounds b harts left (played b opening now) rest →
        AreWholeRounds b harts most (played b opening before) (made ++ rest)

  pub leads_none : LeadsTo most before
  leads_none = record { made = []; is = sym (append-nil before); then = λ rest h. h }

  pub leads_more : (left less : ℕ) (now new : List Event) → LeadsTo left now → 0 < left → IsOneGoing b harts (played b opening now) →
      new ≡ now ++ round_of (min left harts) → less ≡ left - min left harts → LeadsTo less new
  leads_more left less now new l some going more fewer = record {
    made = l.made ++ round_of (min left harts);
    is = more ∙ ap (λ (es : List Event). es ++ round_of (min left harts)) l.is ∙ append_assoc before l.made (round_of (min left harts));
    then = λ rest h.
        let at : played b opening new ≡ played b (played b opening now) (round_of (min left harts)) =
        ap (played b opening) more ∙ played-append b opening now (round_of (min left harts)) in
        let here = subst (λ (n : ℕ). AreWholeRounds b harts n (played b opening new) rest) fewer h in
        let there = subst (λ (m : M). AreWholeRounds b harts (left - min left harts) m rest) at here in
        subst (λ (es : List Event). AreWholeRounds b harts most (played b opening before) es) (sym (append_assoc l.made (round_of (min left harts)) rest))
        (l.then (round_of (min left harts) ++ rest) (round left (played b opening now) rest some going there));
  }

  pub has_rounds : (left : ℕ) (now : List Event) → LeadsTo left now → AreWholeRounds b harts left (played b opening now) [] →
      HasRounds b harts most opening before now
  has_rounds left now l ends = record {
    made = l.made;
    is = l.is;
    rounds = subst (λ (es : List Event). AreWholeRounds b harts most (played b opening before) es) (append-nil l.made) (l.then [] ends);
  }

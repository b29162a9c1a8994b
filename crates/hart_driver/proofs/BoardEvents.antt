-- The events of a journal of turns: where they are cut, and whose they are.
use Rattle.std.proofs.Common.{◌≡◌, ◌⊎◌, inl, inr, ⊎_elim, refl, ℕ, ◌+◌, ◌≤◌, List, [], ◌∷◌, ◌++◌, length, Bool, true, false, cond, sym, ap, ◌∙◌}
use Rattle.std.proofs.Common.{arith, length-append, eqb}
use Rattle.std.specs.Prelude.{All, count_by}
use Rattle.std.proofs.lemmas.List.Elements.{All-nil, All-cons, All-head, All-tail}
use Rattle.std.proofs.lemmas.List.Sums.{sum_by-append, sum_by-cons}
use mathlib.Core.List.{append_assoc}
use Rattle.machine_events.specs.declared.event.Event.{Event}
use Rattle.machine_events.specs.declared.event.Event.TheVariants.{Step, Evict, Crash, Start}
use Rattle.hart_board.specs.declared.journal.Entry.{Entry}
use Rattle.hart_board.specs.Journals.{Play, IsLegal, IsOwn, entries_by, events_of, made_by}
use Rattle.hart_driver.specs.Legs.{is_event_of}

-- where the events of all turns are cut before one, a turn is cut
pub record EventIn (journal : List Entry) (before : List Event) (event : Event) : Type 0 where
  pub turns : List Entry
  pub turn : Entry
  pub later : List Entry
  pub xs : List Event
  pub ys : List Event
  pub journal_is : journal ≡ turns ++ turn ∷ later
  pub events_are : turn.events ≡ xs ++ event ∷ ys
  pub before_is : before ≡ events_of turns ++ xs

-- where two lists one after the other are cut
pub cut_either : {A : Type 0} (xs ys before after : List A) (a : A) → xs ++ ys ≡ before ++ a ∷ after →
    ((rest : List A) × (xs ≡ before ++ a ∷ rest)) ⊎ ((mid : List A) × (before ≡ xs ++ mid) × (ys ≡ mid ++ a ∷ after))
cut_either [] ys before after a q = inr (before, refl, q)
cut_either (x ∷ xs) ys [] after a q = let same : x ≡ a = cc q in inl (xs, ap (λ (z : _). z ∷ xs) same)
cut_either (x ∷ xs) ys (b ∷ bs) after a q =
    let same : x ≡ b = cc q in let rest : xs ++ ys ≡ bs ++ a ∷ after = cc q in
    ⊎_elim (λ (t : (rest : List _) × (xs ≡ bs ++ a ∷ rest)). inl (t.0, cc (same, t.1)))
    (λ (t : (mid : List _) × (bs ≡ xs ++ mid) × (ys ≡ mid ++ a ∷ after)). inr (t.0, cc (same, t.1), t.2)) (cut_either xs ys bs after a rest)

pub event_in : (journal : List Entry) (before after : List Event) (event : Event) → events_of journal ≡ before ++ event ∷ after → EventIn journal before event
event_in [] before after event q = absurd (let n = ap length q in let m = length-append before (event ∷ after) in omega (arith, n, m))
event_in (e ∷ es) before after event q =
    ⊎_elim (λ (t : (rest : List Event) × (e.events ≡ before ++ event ∷ rest)).
    record { turns = []; turn = e; later = es; xs = before; ys = t.0; journal_is = refl; events_are = t.1; before_is = refl })
    (λ (t : (mid : List Event) × (before ≡ e.events ++ mid) × (events_of es ≡ mid ++ event ∷ after)).
    let r = event_in es t.0 after event t.2 in
    record {
      turns = e ∷ r.turns;
      turn = r.turn;
      later = r.later;
      xs = r.xs;
      ys = r.ys;
      journal_is = ap (λ (z : List Entry). e ∷ z) r.journal_is;
      events_are = r.events_are;
      before_is = t.1 ∙ (ap (λ (z : List Event). e.events ++ z) r.before_is ∙ sym (append_assoc e.events (events_of r.turns) r.xs));
    }) (cut_either e.events (events_of es) before after event q)

-- each turn of a legal journal has events of its seat alone
pub each_own : (p : Play) (turns ceiling : ℕ) (journal : List Entry) → IsLegal p turns ceiling journal → All (λ e. All (IsOwn p.harts e.seat) e.events) journal
each_own p turns ceiling journal legal = over [] journal refl
  where
    over : (before rest : List Entry) → journal ≡ before ++ rest → All (λ (e : Entry). All (IsOwn p.harts e.seat) e.events) rest
    over before [] q = All-nil _
    over before (e ∷ es) q =
        All-cons (λ (e : Entry). All (IsOwn p.harts e.seat) e.events) e es (legal before e es q).own
        (over (before ++ e ∷ []) es (q ∙ sym (append_assoc before (e ∷ []) es)))

module _ (harts : ℕ) where
  -- an event of a seat is that worker's event
  own_event : (seat w : ℕ) (event : Event) → seat ≤ harts → w ≤ harts → IsOwn harts seat event → is_event_of harts w event ≡ eqb seat w
  own_event seat w (Step hart) few low own = ap (λ (z : ℕ). eqb z w) own.0
  own_event seat w (Evict line mask) few low own = let same : harts ≡ seat = omega (arith, few, own) in ap (λ (z : ℕ). eqb z w) same
  own_event seat w Crash few low own = absurd own
  own_event seat w Start few low own = absurd own

  abbrev pub count_of : ℕ → List Event → ℕ
  count_of w events = count_by (is_event_of harts w) events

  count_same : (b : Bool) (w : ℕ) (events : List Event) → All (λ event. is_event_of harts w event ≡ b) events → count_of w events ≡ cond b (length events) 0
  count_same true w [] each = refl
  count_same false w [] each = refl
  count_same true w (x ∷ xs) each =
      let rest = count_same true w xs (All-tail (λ (event : Event). is_event_of harts w event ≡ true) x xs each) in
      let here = All-head (λ (event : Event). is_event_of harts w event ≡ true) x xs each in
      sum_by-cons (λ (z : Event). cond (is_event_of harts w z) 1 0) x xs ∙ (ap (λ (b : Bool). cond b 1 0 + count_of w xs) here ∙ omega (arith, rest))
  count_same false w (x ∷ xs) each =
      let rest = count_same false w xs (All-tail (λ (event : Event). is_event_of harts w event ≡ false) x xs each) in
      let here = All-head (λ (event : Event). is_event_of harts w event ≡ false) x xs each in
      sum_by-cons (λ (z : Event). cond (is_event_of harts w z) 1 0) x xs ∙ (ap (λ (b : Bool). cond b 1 0 + count_of w xs) here ∙ omega (arith, rest))

  all_own : (seat w : ℕ) (events : List Event) → seat ≤ harts → w ≤ harts → All (IsOwn harts seat) events →
      All (λ event. is_event_of harts w event ≡ eqb seat w) events
  all_own seat w [] few low each = All-nil _
  all_own seat w (x ∷ xs) few low each =
      All-cons (λ (event : Event). is_event_of harts w event ≡ eqb seat w) x xs (own_event seat w x few low (All-head (IsOwn harts seat) x xs each))
      (all_own seat w xs few low (All-tail (IsOwn harts seat) x xs each))

  -- of events of one seat that worker has all, and others none
  pub count_own : (seat w : ℕ) (events : List Event) → seat ≤ harts → w ≤ harts → All (IsOwn harts seat) events →
      count_of w events ≡ cond (eqb seat w) (length events) 0
  count_own seat w events few low each = count_same (eqb seat w) w events (all_own seat w events few low each)

  pub count_both : (w : ℕ) (xs ys : List Event) → count_of w (xs ++ ys) ≡ count_of w xs + count_of w ys
  count_both w xs ys = sum_by-append (λ (x : Event). cond (is_event_of harts w x) 1 0) xs ys

  -- the seats are those of so many harts and one more at most, and each turn has events of its seat alone
  abbrev pub AreOwn : List Entry → Type 0
  AreOwn journal = All (λ (e : Entry). (e.seat ≤ harts) × All (IsOwn harts e.seat) e.events) journal

  -- a worker's events are those of its seat's turns
  pub count_turns : (w : ℕ) (journal : List Entry) → w ≤ harts → AreOwn journal → count_of w (events_of journal) ≡ made_by w journal
  count_turns w [] low own = refl
  count_turns w (e ∷ es) low own =
      let here = All-head (λ (e : Entry). (e.seat ≤ harts) × All (IsOwn harts e.seat) e.events) e es own in
      let rest = count_turns w es low (All-tail (λ (e : Entry). (e.seat ≤ harts) × All (IsOwn harts e.seat) e.events) e es own) in
      let first = count_own e.seat w e.events here.0 low here.1 in
      let both = count_both w e.events (events_of es) in
      both ∙ by (eqb e.seat w) (count_of w e.events) (count_of w (events_of es)) first rest
    where
      by : (b : Bool) (n m : ℕ) → n ≡ cond b (length e.events) 0 → m ≡ made_by w es →
          n + m ≡ length (events_of (cond b (e ∷ entries_by w es) (entries_by w es)))
      by true n m p q = let l = length-append e.events (events_of (entries_by w es)) in omega (arith, p, q, l)
      by false n m p q = omega (arith, p, q)

-- what holds of each element of two lists one after the other
pub All-first : {A : Type 0} (P : A → Type 0) (xs ys : List A) → All P (xs ++ ys) → All P xs
All-first P [] ys each = All-nil _
All-first P (x ∷ xs) ys each = All-cons P x xs (All-head P x (xs ++ ys) each) (All-first P xs ys (All-tail P x (xs ++ ys) each))

pub All-at : {A : Type 0} (P : A → Type 0) (xs ys : List A) (a : A) → All P (xs ++ a ∷ ys) → P a
All-at P [] ys a each = All-head P a ys each
All-at P (x ∷ xs) ys a each = All-at P xs ys a (All-tail P x (xs ++ a ∷ ys) each)

pub All-both : {A : Type 0} (P Q : A → Type 0) (xs : List A) → All P xs → All Q xs → All (λ a. P a × Q a) xs
All-both P Q [] p q = All-nil _
All-both P Q (x ∷ xs) p q =
    All-cons (λ a. P a × Q a) x xs (All-head P x xs p, All-head Q x xs q) (All-both P Q xs (All-tail P x xs p) (All-tail Q x xs q))

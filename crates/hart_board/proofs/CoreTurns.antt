-- A turn at a core, as the journal has it.
use Rattle.std.proofs.Common.{◌≡◌, ◌⊎◌, ◌↔◌, ℕ, zero, suc, ◌+◌, ◌<◌, ◌≤◌, List, [], ◌∷◌, ◌++◌, length, drop, Some, None}
use Rattle.std.proofs.Common.{Option, sym, refl, ap, ◌∙◌, inl, inr, ⊎_elim, arith, length-append, replicate, eq-eqb}
use Rattle.std.specs.Prelude.{All}
use Rattle.std.proofs.lemmas.List.Elements.{All-nil, All-cons}
use Rattle.std.proofs.lemmas.List.{append-nil, length-replicate}
use Rattle.std.proofs.Math.Seq.{drop-append_seam}
use mathlib.Core.List.{append_assoc}
use Rattle.machine_events.specs.declared.event.Event.{Event}
use Rattle.machine_events.specs.declared.event.Reply.{Reply}
use Rattle.machine_events.specs.Cores.{Behaviour, played, is_idle}
use Rattle.hart_board.specs.declared.journal.Entry.{Entry}
use Rattle.hart_board.specs.declared.views.Terms.{Terms}
use Rattle.hart_board.specs.declared.views.Known.{Known}
use Rattle.hart_board.specs.Journals.{Play, events_of, entries_by, made_by, last_reply, IsOwn, IsOver, IsTurn, IsLegal}
use Rattle.hart_board.specs.declared.core_turn.Quota.{Quota}
use Rattle.hart_board.specs.declared.core_turn.Made.{Made}
use Rattle.hart_board.specs.BoardRule.{IsPlayOf, play_of, turn_of}
use Rattle.hart_board.specs.CoreTurns.{IsPlayed, reply_after, IsDone, Makes, TurnGives, events_made, last_made, made_entry}
use Rattle.hart_board.proofs.Journals.{entries-append}

pub events-append : (xs ys : List Entry) → events_of (xs ++ ys) ≡ events_of xs ++ events_of ys
events-append [] ys = refl
events-append (x ∷ xs) ys = ap (λ (z : List Event). x.events ++ z) (events-append xs ys) ∙ sym (append_assoc x.events (events_of xs) (events_of ys))

pub events_more : (xs : List Entry) (e : Entry) → events_of (xs ++ e ∷ []) ≡ events_of xs ++ e.events
events_more xs e = events-append xs (e ∷ []) ∙ ap (λ (z : List Event). events_of xs ++ z) (append-nil e.events)

pub made_more : (n : ℕ) (xs : List Entry) (e : Entry) → e.seat ≡ n → made_by n (xs ++ e ∷ []) ≡ made_by n xs + length e.events
made_more n xs e is =
    let one : entries_by n (e ∷ []) ≡ e ∷ [] = simp (eq-eqb e.seat n is) refl in
    ap (λ (z : List Entry). length (events_of z)) (entries-append n xs (e ∷ []) ∙ ap (λ (z : List Entry). entries_by n xs ++ z) one)
    ∙ (ap length (events_more (entries_by n xs) e) ∙ length-append (events_of (entries_by n xs)) e.events)

pub ends : {A : Type 0} (xs : List A) → (xs ≡ []) ⊎ ((ys : List A) × (e : A) × (xs ≡ ys ++ e ∷ []))
ends [] = inl refl
ends {A} (x ∷ xs) =
    ⊎_elim (λ (h : xs ≡ []). inr ([], x, ap (λ (z : List A). x ∷ z) h))
    (λ (h : (ys : List A) × (e : A) × (xs ≡ ys ++ e ∷ [])). inr (x ∷ h.0, h.1, ap (λ (z : List A). x ∷ z) h.2)) (ends xs)

-- a legal journal stays under the ceiling
pub legal_under : (c : Play) (most ceiling : ℕ) (journal : List Entry) → c.before ≤ ceiling → IsLegal c most ceiling journal →
    c.before + length (events_of journal) ≤ ceiling
legal_under c most ceiling journal le legal = ⊎_elim
    (λ (h : journal ≡ []). let n : length (events_of journal) ≡ 0 = ap (λ (z : List Entry). length (events_of z)) h in omega (arith, n, le))
    (λ (h : (ys : List Entry) × (e : Entry) × (journal ≡ ys ++ e ∷ [])).
    let t = (legal h.0 h.1 [] h.2).within_ceiling in
    let n = ap (λ (z : List Entry). length (events_of z)) h.2 in let m = ap length (events_more h.0 h.1) in let p = length-append (events_of h.0) h.1.events in
    omega (arith, t, n, m, p))
    (ends journal)

-- the last reply to events that end so
pub last_reply-more : (reply : List Event → Event → Reply) (before xs : List Event) (x : Event) →
    last_reply reply before (xs ++ x ∷ []) ≡ Some (reply (before ++ xs) x)
last_reply-more reply before [] x = ap (λ (z : List Event). Some (reply z x)) (sym (append-nil before))
last_reply-more reply before (y ∷ []) x = refl
last_reply-more reply before (y ∷ (z ∷ zs)) x =
    last_reply-more reply (before ++ y ∷ []) (z ∷ zs) x ∙ ap (λ (w : List Event). Some (reply w x)) (append_assoc before (y ∷ []) (z ∷ zs))

-- it depends only on what is replied after the first ones
last_reply-same : (reply reply' : List Event → Event → Reply) (before before' : List Event) →
    ((xs : List Event) (x : Event) → reply (before ++ xs) x ≡ reply' (before' ++ xs) x) → (xs : List Event) →
    last_reply reply before xs ≡ last_reply reply' before' xs
last_reply-same reply reply' before before' same xs = ⊎_elim
    (λ (h : xs ≡ []). ap (last_reply reply before) h ∙ sym (ap (last_reply reply' before') h))
    (λ (h : (ys : List Event) × (y : Event) × (xs ≡ ys ++ y ∷ [])).
    ap (last_reply reply before) h.2
    ∙ (last_reply-more reply before h.0 h.1
    ∙ (ap Some (same h.0 h.1) ∙ (sym (last_reply-more reply' before' h.0 h.1) ∙ sym (ap (last_reply reply' before') h.2)))))
    (ends xs)

all_replicate : {A : Type 0} (P : A → Type 0) (n : ℕ) (a : A) → P a → All P (replicate n a)
all_replicate P zero a h = All-nil _
all_replicate P (suc n) a h = All-cons P a (replicate n a) h (all_replicate P n a h)

pub no_cut : {A : Type 0} (xs : List A) (x : A) (ys : List A) → [] ≡ xs ++ x ∷ ys → ⊥
no_cut [] x ys e = cc e
no_cut (z ∷ zs) x ys e = cc e

some_first : {A : Type 0} (n : ℕ) (a : A) → 0 < n → (rest : List A) × (replicate n a ≡ a ∷ rest)
some_first zero a pos = absurd (omega arith)
some_first (suc n) a pos = (replicate n a, refl)

pub count_is : (event : Event) (result : Option Made) → length (events_made event result) ≡ Rattle.hart_board.specs.CoreTurns.count_made result
count_is event None = refl
count_is event (Some made) = length-replicate made.count event

module _ {C M : Type 0} (b : Behaviour M) (opening : C → M) (history : C → List Event) (hart_count space : C → ℕ) (evictable : C → ℕ → ℕ → Type 0) where
  abbrev pub Plays : Terms C → List Event → C → Type 0
  Plays = IsPlayOf opening history hart_count space evictable

  abbrev pub Cs : Terms C → Play
  Cs = play_of b opening history hart_count

  -- after the same events the core that has had the first ones is where the opening one is after all
  pub same_place : (terms : Terms C) (events xs : List Event) (core : C) → Plays terms events core →
      played b (opening core) (history core ++ xs) ≡ played b (opening terms.opening.value) (history terms.opening.value ++ (events ++ xs))
  same_place terms events xs core p =
      λ i. played b (p.opens i) ((ap (λ (z : List Event). z ++ xs) p.events_are ∙ append_assoc (history terms.opening.value) events xs) i)

  pub turn_is : (k : Known C) (n : ℕ) (event : Event) (core new : C) (result : Option Made) → Plays k.terms (events_of k.seen) core →
      IsPlayed opening history hart_count space evictable core (events_made event result) new
      → last_made result ≡ last_reply (reply_after b opening history core) [] (events_made event result)
      → turn_of Cs history k n new ≡ made_entry n event result
  turn_is k n event core new result p q replied =
      let o : C = k.terms.opening.value in let es : List Event = events_of k.seen in let made : List Event = events_made event result in
      let all : history new ≡ (history o ++ es) ++ made = q.events_are ∙ ap (λ (z : List Event). z ++ made) p.events_are in
      let len : length (history o ++ es) ≡ length (history o) + length es = length-append (history o) es in
      let events : drop (length (history o) + length es) (history new) ≡ made = (λ i. drop (sym len i) (all i)) ∙ drop-append_seam (history o ++ es) made in
      let last : last_reply (Cs k.terms).reply es (drop (length (history o) + length es) (history new)) ≡ last_made result =
      ap (last_reply (Cs k.terms).reply es) events
      ∙ (last_reply-same (Cs k.terms).reply (reply_after b opening history core) es []
      (λ xs x. ap (λ (m : M). b.reply m x) (sym (same_place k.terms es xs core p))) made ∙ sym replied) in
      λ i. record { seat = n; events = events i; last = last i }

  pub over_is : (k : Known C) (q : Quota) (xs : List Event) (core : C) → Plays k.terms (events_of k.seen) core → q.made ≡ made_by q.seat k.seen →
      q.turns ≡ k.terms.turns → q.ceiling ≡ k.terms.ceiling
      → IsDone b opening history hart_count core q xs ↔ IsOver (Cs k.terms) k.terms.turns k.terms.ceiling k.seen q.seat xs
  over_is k q xs core p is turns ceiling =
      let o : C = k.terms.opening.value in let es : List Event = events_of k.seen in
      let stopped : b.is_stopped (played b (opening core) (history core ++ xs)) q.seat ≡ b.is_stopped (played b (opening o) (history o ++ (es ++ xs))) q.seat =
      ap (λ (m : M). b.is_stopped m q.seat) (same_place k.terms es xs core p) in
      let harts = p.harts in
      let len : length (history core) ≡ length (history o) + length es = ap length p.events_are ∙ length-append (history o) es in (
        ⊎_elim (λ h. inl (let inside = h.0 in omega (arith, inside, harts), sym stopped ∙ h.1))
            (λ h. inr (⊎_elim (λ e. inl (omega (arith, e, is, turns))) (λ e. inr (omega (arith, e, len, ceiling))) h)),
        ⊎_elim (λ h. inl (let inside = h.0 in omega (arith, inside, harts), stopped ∙ h.1))
            (λ h. inr (⊎_elim (λ e. inl (omega (arith, e, is, turns))) (λ e. inr (omega (arith, e, len, ceiling))) h)),
      )

  pub is_turn : (k : Known C) (q : Quota) (event : Event) (most : ℕ) (core : C) (result : Option Made) → Plays k.terms (events_of k.seen) core →
      q.made ≡ made_by q.seat k.seen → q.turns ≡ k.terms.turns → q.ceiling ≡ k.terms.ceiling
      → q.made ≤ q.turns → length (history core) ≤ q.ceiling → IsOwn (hart_count k.terms.opening.value) q.seat event
      → TurnGives b opening history hart_count core q event most result
      → last_made result ≡ last_reply (Cs k.terms).reply (events_of k.seen) (events_made event result)
      → (length k.seen < k.terms.seats → q.seat ≡ length k.seen)
      → IsTurn (Cs k.terms) k.terms.turns k.terms.ceiling k.seen (made_entry q.seat event result)
  is_turn k q event most core None p is turns ceiling few under own done replied first =
      let len : length (history core) ≡ length (history k.terms.opening.value) + length (events_of k.seen) =
      ap length p.events_are ∙ length-append (history k.terms.opening.value) (events_of k.seen) in record {
        first = first;
        own = All-nil _;
        over = ((λ _. (over_is k q [] core p is turns ceiling).0 done), λ _. refl);
        each = λ xs ys x e. absurd (no_cut xs x ys e);
        moves = λ xs ys x y e. absurd (no_cut xs x (y ∷ ys) e);
        within_turns = omega (arith, is, few, turns);
        within_ceiling = omega (arith, under, len, ceiling);
        reply = replied;
      }
  is_turn k q event most core (Some made) p is turns ceiling few under own m replied first =
      let len : length (history core) ≡ length (history k.terms.opening.value) + length (events_of k.seen) =
      ap length p.events_are ∙ length-append (history k.terms.opening.value) (events_of k.seen) in
      let count = length-replicate made.count event in let wt = m.within_turns in let wc = m.within_ceiling in
      let not_over : (xs ys : List Event) (x : Event) → replicate made.count event ≡ xs ++ x ∷ ys →
      ¬ IsOver (Cs k.terms) k.terms.turns k.terms.ceiling k.seen q.seat xs =
      (λ xs ys x e o. m.each xs ys x e ((over_is k q xs core p is turns ceiling).1 o)) in
      let start = some_first made.count event m.some in record {
        first = first;
        own = all_replicate (IsOwn (hart_count k.terms.opening.value) q.seat) made.count event own;
        over = ((λ e. absurd (cc (sym start.1 ∙ e))), λ o. absurd (not_over [] start.0 event start.1 o));
        each = not_over;
        moves = λ xs ys x y e. ap (λ (w : M). is_idle (b.reply w x)) (sym (same_place k.terms (events_of k.seen) xs core p)) ∙ m.moves xs ys x y e;
        within_turns = omega (arith, is, turns, wt, count);
        within_ceiling = omega (arith, len, ceiling, wc, count);
        reply = replied;
      }

  pub last_is : (core : C) (q : Quota) (event : Event) (most : ℕ) (result : Option Made) → TurnGives b opening history hart_count core q event most result →
      last_made result ≡ last_reply (reply_after b opening history core) [] (events_made event result)
  last_is core q event most None h = refl
  last_is core q event most (Some made) h = h.last

  -- the core after the turn is the play of the journal with it
  pub goes_after : (k : Known C) (core new : C) (e : Entry) → Plays k.terms (events_of k.seen) core →
      IsPlayed opening history hart_count space evictable core e.events new → Plays k.terms (events_of (k.seen ++ e ∷ [])) new
  goes_after k core new e p q = record {
    opens = q.opens ∙ p.opens;
    events_are =
        q.events_are ∙ (ap (λ (z : List Event). z ++ e.events) p.events_are
        ∙ (append_assoc (history k.terms.opening.value) (events_of k.seen) e.events
        ∙ ap (λ (z : List Event). history k.terms.opening.value ++ z) (sym (events_more k.seen e))));
    harts = q.harts ∙ p.harts;
    room =
        (let a = q.room in let d = p.room in let n = ap length (events_more k.seen e) in let m = length-append (events_of k.seen) e.events in
        omega (arith, a, d, n, m));
    evicts = λ line mask. let x = q.evicts line mask in let y = p.evicts line mask in ((λ h. y.0 (x.0 h)), λ h. x.1 (y.1 h));
  }

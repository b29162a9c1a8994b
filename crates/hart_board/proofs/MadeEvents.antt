-- One event more in a turn.
use Rattle.std.proofs.Common.{◌≡◌, ◌≢◌, ℕ, ◌+◌, ◌<◌, ◌≤◌, List, [], ◌∷◌, ◌++◌, length, replicate, false, Option, Some, None}
use Rattle.std.proofs.Common.{sym, ap, ◌∙◌, subst, inl, inr, ⊎_elim, arith, length-append, zero, suc, refl}
use Rattle.std.proofs.lemmas.List.{append-nil, length-replicate, replicate-append-replicate}
use mathlib.Core.List.{append_assoc}
use Rattle.machine_events.specs.declared.event.Event.{Event}
use Rattle.machine_events.specs.declared.event.Event.TheVariants.{Step, Evict, Crash, Start}
use Rattle.machine_events.specs.declared.event.Reply.{Reply}
use Rattle.machine_events.specs.declared.event.Reply.TheVariants.{Moved}
use Rattle.machine_events.specs.Cores.{Behaviour, played, is_idle, EachMoves}
use Rattle.hart_board.specs.declared.core_turn.Quota.{Quota}
use Rattle.hart_board.specs.declared.core_turn.Made.{Made}
use Rattle.hart_board.specs.Journals.{last_reply, IsOwn}
use Rattle.hart_board.specs.CoreTurns.{IsPlayed, reply_after, IsDone, Makes, TurnGives}
use Rattle.hart_board.proofs.Journals.{cut_more}
use Rattle.hart_board.proofs.CoreTurns.{last_reply-more, no_cut}

pub one_more : {A : Type 0} (n : ℕ) (a : A) → replicate (n + 1) a ≡ replicate n a ++ a ∷ []
one_more n a = sym (replicate-append-replicate n 1 a)

-- what a turn comes to of so few events at most, one of more at most may come to
pub gives_more : {C M : Type 0} (b : Behaviour M) (opening : C → M) (history : C → List Event) (hart_count : C → ℕ) (core : C) (q : Quota) (event : Event)
    (few most : ℕ) (result : Option Made) → few ≤ most → TurnGives b opening history hart_count core q event few result →
    TurnGives b opening history hart_count core q event most result
gives_more b opening history hart_count core q event few most None fewer h = h
gives_more b opening history hart_count core q event few most (Some made) fewer h = record {
  some = h.some;
  few = (let f = h.few in omega (arith, f, fewer));
  within_turns = h.within_turns;
  within_ceiling = h.within_ceiling;
  each = h.each;
  moves = h.moves;
  last = h.last;
}

module _ {C M : Type 0} (b : Behaviour M) (opening : C → M) (history : C → List Event) (hart_count space : C → ℕ) (evictable : C → ℕ → ℕ → Type 0) where
  pub makes_first : (core : C) (q : Quota) (event : Event) (most : ℕ) (last : Reply) → 0 < most → ¬ IsDone b opening history hart_count core q [] →
      q.made ≤ q.turns → length (history core) ≤ q.ceiling
      → last ≡ b.reply (played b (opening core) (history core)) event → Makes b opening history hart_count core q event most record { count = 1; last = last }
  makes_first core q event most last some todo few under is =
      let not_made : q.made ≢ q.turns = (λ e. todo (inr (inl (omega (arith, e))))) in
      let not_full : length (history core) ≢ q.ceiling = (λ e. todo (inr (inr (omega (arith, e))))) in record {
        some = omega arith;
        few = omega (arith, some);
        within_turns = omega (arith, few, not_made);
        within_ceiling = omega (arith, under, not_full);
        each = λ xs ys x e. first_each xs ys x e;
        moves = λ xs ys x y e. absurd (alone xs ys x y e);
        last = ap Some (is ∙ ap (λ (z : List Event). b.reply (played b (opening core) z) event) (sym (append-nil (history core))));
      }
    where
      first_each : (xs ys : List Event) (x : Event) → replicate 1 event ≡ xs ++ x ∷ ys → ¬ IsDone b opening history hart_count core q xs
      first_each [] ys x e = todo
      first_each (z ∷ zs) ys x e = absurd (no_cut zs x ys (cc e))

      alone : (xs ys : List Event) (x y : Event) → replicate 1 event ≡ xs ++ x ∷ (y ∷ ys) → ⊥
      alone [] ys x y e = cc e
      alone (z ∷ zs) ys x y e = no_cut zs x (y ∷ ys) (cc e)

  pub makes_more : (core : C) (q : Quota) (event : Event) (most count : ℕ) (last next : Reply) →
      Makes b opening history hart_count core q event most record { count = count; last = last }
      → count < most → is_idle last ≡ false → ¬ IsDone b opening history hart_count core q (replicate count event) →
      next ≡ reply_after b opening history core (replicate count event) event
      → Makes b opening history hart_count core q event most record { count = count + 1; last = next }
  makes_more core q event most count last next m room moved todo is =
      let es : List Event = replicate count event in
      let len : length es ≡ count = length-replicate count event in
      let all : replicate (count + 1) event ≡ es ++ event ∷ [] = one_more count event in
      let not_made : q.made + count ≢ q.turns = (λ e. todo (inr (inl (omega (arith, e, len))))) in
      let not_full : length (history core) + count ≢ q.ceiling = (λ e. todo (inr (inr (omega (arith, e, len))))) in
      let wt = m.within_turns in let wc = m.within_ceiling in record {
        some = omega arith;
        few = omega (arith, room);
        within_turns = omega (arith, wt, not_made);
        within_ceiling = omega (arith, wc, not_full);
        each = λ xs ys x e. ⊎_elim (λ (t : (es ≡ xs) × (event ≡ x)). subst (λ (z : List Event). ¬ IsDone b opening history hart_count core q z) t.0 todo)
            (λ (t : (rest : List Event) × (es ≡ xs ++ x ∷ rest)). m.each xs t.0 x t.1) (cut_more es xs ys event x (sym all ∙ e));
        moves = λ xs ys x y e. ⊎_elim
            (λ (t : (es ≡ xs) × (event ≡ x)).
            absurd (let n = ap length (sym all ∙ e) in let a = length-append es (event ∷ []) in let d = length-append xs (x ∷ (y ∷ ys)) in
            let s = ap length t.0 in omega (arith, n, a, d, s)))
            (λ (t : (rest : List Event) × (es ≡ xs ++ x ∷ rest)). before_last xs x t.0 t.1)
            (cut_more es xs (y ∷ ys) event x (sym all ∙ e));
        last =
            ap Some is ∙ (sym (last_reply-more (reply_after b opening history core) [] es event)
            ∙ ap (last_reply (reply_after b opening history core) []) (sym all));
      }
    where
      before_last : (xs : List Event) (x : Event) (rest : List Event) → replicate count event ≡ xs ++ x ∷ rest →
          is_idle (reply_after b opening history core xs x) ≡ false
      before_last xs x [] e =
          let same : last ≡ reply_after b opening history core xs x =
          cc (m.last ∙ (ap (last_reply (reply_after b opening history core) []) e ∙ last_reply-more (reply_after b opening history core) [] xs x)) in
          ap is_idle (sym same) ∙ moved
      before_last xs x (z ∷ zs) e = m.moves xs zs x z e

  pub plays_first : (core new : C) (event : Event) → opening new ≡ opening core → history new ≡ history core ++ event ∷ [] → space new + 1 ≡ space core →
      hart_count new ≡ hart_count core
      → ((line mask : ℕ) → (evictable new line mask → evictable core line mask) × (evictable core line mask → evictable new line mask)) →
      IsPlayed opening history hart_count space evictable core (replicate 1 event) new
  plays_first core new event opens events room harts evicts = record { opens = opens; events_are = events; harts = harts; room = room; evicts = evicts }

  pub plays_more : (core mid new : C) (event : Event) (count : ℕ) → IsPlayed opening history hart_count space evictable core (replicate count event) mid →
      opening new ≡ opening mid → history new ≡ history mid ++ event ∷ []
      → space new + 1 ≡ space mid → hart_count new ≡ hart_count mid →
      ((line mask : ℕ) → (evictable new line mask → evictable mid line mask) × (evictable mid line mask → evictable new line mask))
      → IsPlayed opening history hart_count space evictable core (replicate (count + 1) event) new
  plays_more core mid new event count p opens events room harts evicts = record {
    opens = opens ∙ p.opens;
    events_are =
        events ∙ (ap (λ (z : List Event). z ++ event ∷ []) p.events_are
        ∙ (append_assoc (history core) (replicate count event) (event ∷ []) ∙ ap (λ (z : List Event). history core ++ z) (sym (one_more count event))));
    harts = harts ∙ p.harts;
    room = (let a = p.room in let n = length-replicate count event in let m = length-replicate (count + 1) event in omega (arith, a, n, m, room));
    evicts = λ line mask. let x = evicts line mask in let y = p.evicts line mask in ((λ h. y.0 (x.0 h)), λ h. x.1 (y.1 h));
  }

  -- a seat is done at the core that has had these events where it is after them
  pub done_after : (core mid : C) (q : Quota) (event : Event) (count : ℕ) → IsPlayed opening history hart_count space evictable core (replicate count event) mid
      → IsDone b opening history hart_count core q (replicate count event) →
      IsDone b opening history hart_count mid record { seat = q.seat; made = q.made + count; turns = q.turns; ceiling = q.ceiling } []
  done_after core mid q event count p d =
      let n = length-replicate count event in let l = ap length p.events_are ∙ length-append (history core) (replicate count event) in let harts = p.harts in
      let same : played b (opening core) (history core ++ replicate count event) ≡ played b (opening mid) (history mid ++ []) =
      (λ i. played b (sym p.opens i) ((sym p.events_are ∙ sym (append-nil (history mid))) i)) in
      ⊎_elim (λ h. inl (let i = h.0 in omega (arith, i, harts), ap (λ (z : M). b.is_stopped z q.seat) (sym same) ∙ h.1))
      (λ h. inr (⊎_elim (λ e. inl (omega (arith, e, n))) (λ e. inr (omega (arith, e, n, l))) h)) d

  -- there is room for an event of a seat that has something to do
  pub room_first : (core : C) (q : Quota) → ¬ IsDone b opening history hart_count core q [] → length (history core) ≤ q.ceiling →
      q.ceiling ≤ length (history core) + space core → 0 < space core
  room_first core q todo under reached = let not_full : length (history core) ≢ q.ceiling = (λ e. todo (inr (inr (omega (arith, e))))) in
      omega (arith, not_full, under, reached)

  pub room_more : (core mid : C) (q : Quota) (event : Event) (most count : ℕ) (last : Reply) →
      IsPlayed opening history hart_count space evictable core (replicate count event) mid
      → Makes b opening history hart_count core q event most record { count = count; last = last } →
      ¬ IsDone b opening history hart_count mid record { seat = q.seat; made = q.made + count; turns = q.turns; ceiling = q.ceiling } []
      → q.ceiling ≤ length (history core) + space core → 0 < space mid
  room_more core mid q event most count last p m todo reached =
      let n = length-replicate count event in let l = ap length p.events_are ∙ length-append (history core) (replicate count event) in
      let w = m.within_ceiling in let r = p.room in
      room_first mid record { seat = q.seat; made = q.made + count; turns = q.turns; ceiling = q.ceiling } todo (omega (arith, l, n, w))
      (omega (arith, l, n, r, reached))

  -- what is replied next
  pub reply_next : (core mid : C) (event : Event) (events : List Event) (reply : Reply) → IsPlayed opening history hart_count space evictable core events mid →
      reply ≡ b.reply (played b (opening mid) (history mid)) event
      → reply ≡ reply_after b opening history core events event
  reply_next core mid event events reply p is = is ∙ (λ i. b.reply (played b (p.opens i) (p.events_are i)) event)

-- a list of one element, again and again, is so before and after each place
pub replicate_cut : {A : Type 0} (n : ℕ) (a : A) (xs ys : List A) (x : A) → replicate n a ≡ xs ++ x ∷ ys →
    (length xs < n) × (xs ≡ replicate (length xs) a) × (x ≡ a)
replicate_cut zero a xs ys x e = absurd (no_cut xs x ys e)
replicate_cut (suc n) a [] ys x e = (omega arith, refl, cc e)
replicate_cut (suc n) a (z ∷ zs) ys x e = let h = replicate_cut n a zs ys x (cc e) in let few = h.0 in (omega (arith, few), cc (e, h.1), h.2)

module _ {C M : Type 0} (b : Behaviour M) (opening : C → M) (history : C → List Event) (hart_count : C → ℕ) where
  -- steps that are adopted are made
  pub adopts : (core : C) (q : Quota) (most count : ℕ) → 0 < count → count ≤ most → q.made + count ≤ q.turns → length (history core) + count ≤ q.ceiling →
      EachMoves b (opening core) (history core) q.seat count
      → Makes b opening history hart_count core q (Step q.seat) most record { count = count; last = Moved }
  adopts core q most count some few turns ceiling each = record {
    some = some;
    few = few;
    within_turns = turns;
    within_ceiling = ceiling;
    each = λ xs ys x e d. let h = replicate_cut count (Step q.seat) xs ys x e in let less = h.0 in
        ⊎_elim (λ (s : _ × _).
        cc (s.1, ap (λ (z : List Event). b.is_stopped (played b (opening core) (history core ++ z)) q.seat) h.1, (each (length xs) less).1))
        (λ s. ⊎_elim (λ (m : q.made + length xs ≡ q.turns). omega (arith, m, less, turns))
        (λ (m : length (history core) + length xs ≡ q.ceiling). omega (arith, m, less, ceiling)) s) d;
    moves = λ xs ys x y e. let h = replicate_cut count (Step q.seat) xs (y ∷ ys) x e in
        ap is_idle ((λ i. b.reply (played b (opening core) (history core ++ h.1 i)) (h.2 i)) ∙ (each (length xs) h.0).0);
    last = last_of count some each;
  }
    where
      last_of : (n : ℕ) → 0 < n → EachMoves b (opening core) (history core) q.seat n →
          Some Moved ≡ last_reply (reply_after b opening history core) [] (replicate n (Step q.seat))
      last_of zero pos each = absurd (omega arith)
      last_of (suc n) pos each =
          let more : replicate (suc n) (Step q.seat) ≡ replicate n (Step q.seat) ++ Step q.seat ∷ [] =
          (let one : suc n ≡ n + 1 = omega arith in ap (λ (m : ℕ). replicate m (Step q.seat)) one) ∙ one_more n (Step q.seat) in
          sym (ap (last_reply (reply_after b opening history core) []) more
          ∙ (last_reply-more (reply_after b opening history core) [] (replicate n (Step q.seat)) (Step q.seat) ∙ ap Some ((each n (omega arith)).0)))

-- the event of a seat with a hart is a step of it
pub own_step : (harts seat : ℕ) (event : Event) → IsOwn harts seat event → seat < harts → event ≡ Step seat
own_step harts seat (Step hart) own inside = ap Step own.0
own_step harts seat (Evict line mask) own inside = absurd (omega (arith, own, inside))
own_step harts seat Crash own inside = absurd own
own_step harts seat Start own inside = absurd own

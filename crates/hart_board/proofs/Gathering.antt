-- One place in which all seats have met.
use Rattle.std.proofs.Common.{◌≡◌, ℕ, ◌+◌, ◌<◌, ◌≤◌, List, [], ◌∷◌, ◌++◌, Option, length, map, sym, refl, ap, ◌∙◌, subst, inl, inr, arith, ne_eqb}
use Rattle.std.specs.Prelude.{All}
use Rattle.std.proofs.lemmas.List.Elements.{All-nil, All-cons, All-head, All-tail, All-map}
use mathlib.Core.Logic.{dite}
use native.Mathlib.Decide.{ℕ_discrete}
use mathlib.Core.List.{append_assoc}
use Rattle.machine_events.specs.declared.event.Event.{Event}
use Rattle.machine_events.specs.Cores.{Behaviour}
use Rattle.atomic_table.specs.declared.shared.Seat as at
use Rattle.atomic_table.specs.Seated.{TableId}
use Rattle.atomic_table.specs.Table.{Me}
use Rattle.hart_board.specs.declared.journal.Entry.{Entry}
use Rattle.hart_board.specs.declared.views.Terms.{Terms}
use Rattle.hart_board.specs.declared.views.Past.{Past}
use Rattle.hart_board.specs.declared.views.Known.{Known}
use Rattle.hart_board.specs.declared.views.View.{View}
use Rattle.hart_board.specs.declared.views.View.TheVariants.{Seated}
use Rattle.hart_board.specs.declared.board.Board.{Board}
use Rattle.hart_board.specs.declared.core_turn.Ahead.{Ahead}
use Rattle.hart_board.specs.declared.seat.Seat.{Seat}
use Rattle.hart_board.specs.Journals.{events_of, entries_by, made_by, IsLegal}
use Rattle.hart_board.specs.CoreTurns.{IsPlayed}
use Rattle.hart_board.specs.BoardRule.{times, Has, IsPast, play_of, IsPlayOf, met, now_of, Closed}
use Rattle.hart_board.specs.Seats.{Represents, IsSeatAt, IsSeatOf, IsWholeJournal, HasSeen, numbers_of}
use Rattle.hart_board.specs.Seats.{number, rules_of, opening_core, seats_of, seen_in, turns_of}
use Rattle.hart_board.specs.links.Gathered.{In, past_of, Knows, Gathers}
use Rattle.hart_board.proofs.Prefixes.{prefix_self}
use Rattle.hart_board.proofs.JoinsKeepInv.{times-append}
use Rattle.hart_board.proofs.TriedTurns.{has_own}

in_left : {A : Type 0} (a : A) (xs ys : List A) → In a xs → In a (xs ++ ys)
in_left a (x ∷ xs) ys (inl e) = inl e
in_left a (x ∷ xs) ys (inr h) = inr (in_left a xs ys h)
in_left a [] ys h = absurd h

all_in : {A : Type 0} (P : A → Type 0) (a : A) (xs : List A) → All P xs → In a xs → P a
all_in P a [] each h = absurd h
all_in P a (x ∷ xs) each (inl e) = subst P e (All-head P x xs each)
all_in P a (x ∷ xs) each (inr h) = all_in P a xs (All-tail P x xs each) h

pub all_at : {A : Type 0} (P : A → Type 0) (xs ys : List A) (a : A) → All P (xs ++ a ∷ ys) → P a
all_at P [] ys a each = All-head P a ys each
all_at P (x ∷ xs) ys a each = all_at P xs ys a (All-tail P x (xs ++ a ∷ ys) each)

pub one_less : {A : Type 0} (all xs ys rest : List A) (a : A) → all ≡ xs ++ rest → xs ≡ ys ++ a ∷ [] → all ≡ ys ++ a ∷ rest
one_less all xs ys rest a is more = is ∙ (ap (λ (z : List _). z ++ rest) more ∙ append_assoc ys (a ∷ []) rest)

pub none_left : {A : Type 0} (all xs rest : List A) → all ≡ xs ++ rest → length xs ≡ 0 → all ≡ rest
none_left all [] rest is none = is
none_left all (x ∷ xs) rest is none = absurd (omega (arith, none))

pub both : {A : Type 0} (P Q R : A → Type 0) → ((a : A) → P a → Q a → R a) → (xs : List A) → All P xs → All Q xs → All R xs
both P Q R go [] p q = All-nil _
both P Q R go (x ∷ xs) p q = All-cons R x xs (go x (All-head P x xs p) (All-head Q x xs q)) (both P Q R go xs (All-tail P x xs p) (All-tail Q x xs q))

map_same : {A : Type 0} (f g : A → ℕ) (xs : List A) → All (λ x. f x ≡ g x) xs → map f xs ≡ map g xs
map_same f g [] each = refl
map_same f g (x ∷ xs) each = (λ i. All-head (λ z. f z ≡ g z) x xs each i ∷ map_same f g xs (All-tail (λ z. f z ≡ g z) x xs each) i)

has_first : (n m : ℕ) (ms ns : List ℕ) → (n ≡ m → Has m ns) → (Has n ms → Has n ns) → Has n (m ∷ ms) → Has n ns
has_first n m ms ns first rest has = dite (ℕ_discrete m n) (λ e. subst (λ (z : ℕ). Has z ns) e (first (sym e)))
    (λ other. rest (let more : times n (m ∷ ms) ≡ 0 + times n ms = simp (ne_eqb m n other) refl in omega (arith, has, more)))

module _ {C L : Type 0} where
  pub has_all : (n : ℕ) (ns : List ℕ) (seats : List (Seat C L)) → All (λ s. Has s.number ns) seats → Has n (numbers_of seats) → Has n ns
  has_all n ns [] each has = absurd (omega (arith, has))
  has_all n ns (s ∷ ss) each has =
      has_first n s.number (numbers_of ss) ns (λ e. All-head (λ z. Has z.number ns) s ss each) (has_all n ns ss (All-tail (λ z. Has z.number ns) s ss each)) has

  now_is : (s : Seat C L) (k : Known C) → Represents s k → now_of k ≡ past_of s
  now_is s k r = λ i. record { numbers = r.numbers i; seen = ap (λ (m : Me C (View C)). seen_in m.0) (sym r.me) i }

  -- the first seat
  pub gathers_first : (id : TableId) (terms : Terms C) (s : Seat C L) (h : IsSeatAt id terms s) → Gathers terms (s ∷ []) s.place h.known
  gathers_first id terms s h = record {
    me = h.represents.me;
    out = h.represents.out;
    terms_are = h.terms_are;
    knows = All-cons (Knows h.known) s [] (has_own s.number h.known.numbers h.represents.numbers, inl (now_is s h.known h.represents)) (All-nil _);
  }

  -- one seat more
  pub gathers_more : (id : TableId) (terms : Terms C) (s : Seat C L) (h : IsSeatAt id terms s) (rest : List (Seat C L)) (place next : at.Seat C (View C))
      (k : Known C) → Gathers terms rest place k → next.me ≡ (Seated (met k h.known), place.me.1)
      → Gathers terms (s ∷ rest) next (met k h.known)
  gathers_more id terms s h rest place next k g me = let l = h.known in record {
    me = me ∙ ap (λ (cs : List (ℕ × C)). (Seated (met k l), cs)) (ap (λ (m : Me C (View C)). m.1) g.me);
    out = g.out;
    terms_are = g.terms_are;
    knows = All-cons (Knows (met k l)) s rest (
      (let t = times-append s.number k.numbers l.numbers in let o = has_own s.number l.numbers h.represents.numbers in omega (arith, t, o)),
      inr (inr (inl (now_is s l h.represents))),
    )
        (both (Knows k) (Knows k) (Knows (met k l))
        (λ o x _. ((let t = times-append o.number k.numbers l.numbers in let w = x.0 in omega (arith, t, w)), inr (wider (past_of o) k l x.1))) rest
        g.knows g.knows);
  }
    where
      wider : (o : Past) (k l : Known C) → In o (now_of k ∷ k.past) → In o (now_of k ∷ (now_of l ∷ (k.past ++ l.past)))
      wider o k l (inl e) = inl e
      wider o k l (inr i) = inr (inr (in_left o k.past l.past i))

module _ {C L M : Type 0} (b : Behaviour M) (opening : C → M) (history : C → List Event) (hart_count space : C → ℕ) (evictable : C → ℕ → ℕ → Type 0) where
  -- once all have met, the journal is whole
  pub whole : (runs : C → ℕ → Option (Ahead L) → Type 0) (board : Board C L) (seats : List (Seat C L)) (place : at.Seat C (View C)) (k : Known C) (core : C)
      (counts : List ℕ) → All (IsSeatOf history space runs board) seats → length seats ≡ seats_of board → Gathers board.table.shared.key seats place k
      → Closed (play_of b opening history hart_count) (IsPlayOf opening history hart_count space evictable) k core →
      counts ≡ map (λ (s : Seat C L). s.made) seats
      → IsWholeJournal (rules_of b opening history hart_count board) (IsPlayed opening history hart_count space evictable (opening_core board))
      seats core counts
  whole runs board seats place k core counts each once g closed are =
      let pasts : All (IsPast k.seen k.numbers) (now_of k ∷ k.past) =
      All-cons (IsPast k.seen k.numbers) (now_of k) k.past record { begins = prefix_self k.seen; own = λ n has. (has, refl) } closed.past in
      let seen_all : All (HasSeen k.seen) seats =
      both (Knows k) (Knows k) (HasSeen k.seen) (λ s x _. has_seen s (all_in (IsPast k.seen k.numbers) (past_of s) (now_of k ∷ k.past) pasts x.1)) seats g.knows
      g.knows in record {
        journal = k.seen;
        legal = subst (λ (z : Terms C). IsLegal (play_of b opening history hart_count z) z.turns z.ceiling k.seen) g.terms_are closed.legal;
        theirs = subst (λ (n : ℕ). All (λ e. e.seat < n) k.seen) (ap (λ (z : Terms C). z.seats) g.terms_are ∙ sym once) closed.seats;
        plays = subst (λ (z : Terms C). IsPlayOf opening history hart_count space evictable z (events_of k.seen) core) g.terms_are closed.plays;
        seen = seen_all;
        counts_are =
            are ∙ map_same (λ (s : Seat C L). s.made) (λ (s : Seat C L). made_by (number s) k.seen) seats
            (both (IsSeatOf history space runs board) (HasSeen k.seen) (λ s. s.made ≡ made_by (number s) k.seen) (λ s x y. made_is s x y) seats each seen_all);
        few =
            subst (All (λ n. n ≤ turns_of board)) (sym are)
            (All-map (λ n. n ≤ turns_of board) (λ (s : Seat C L). s.made) seats
            (both (IsSeatOf history space runs board) (IsSeatOf history space runs board) (λ s. s.made ≤ turns_of board)
            (λ s x _. let w = x.seat.represents.within in let t = x.seat.represents.turns_are in let e = ap (λ (z : Terms C). z.turns) x.seat.terms_are in
            omega (arith, w, t, e)) seats each each));
      }
    where
      has_seen : (s : Seat C L) → IsPast k.seen k.numbers (past_of s) → HasSeen k.seen s
      has_seen s p = record { begins = p.begins; own = (p.own s.number (has_own s.number (s.number ∷ []) refl)).1 }

      made_is : (s : Seat C L) → IsSeatOf history space runs board s → HasSeen k.seen s → s.made ≡ made_by s.number k.seen
      made_is s x y = let r = x.seat.represents in
          r.made_is ∙ ap (λ (z : List Entry). length (events_of z)) (ap (entries_by s.number) (ap (λ (m : Me C (View C)). seen_in m.0) (sym r.me)) ∙ sym y.own)

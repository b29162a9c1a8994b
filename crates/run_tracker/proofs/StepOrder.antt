-- The pending steps of a hart stay in order, and their order is that of the stores of an account.
use Rattle.std.proofs.Common.{◌≡◌, ℕ, zero, suc, ◌+◌, ◌<◌, ◌≤◌, List, [], ◌∷◌, ◌++◌, length, map, filter, replicate, Option, Some, None, Bool, true, false}
use Rattle.std.proofs.Common.{ap, sym, subst, ◌∙◌, arith, inl, inr, append_assoc, length-append}
use Rattle.std.specs.Prelude.{if◌then◌else◌}
use Rattle.log_schemes.specs.declared.log.Log.{Log}
use Rattle.ido_base.specs.Words.{Word, word_at, last_position}
use Rattle.ido_base.specs.Growth.{IsChanged, AreChanged}
use Rattle.machine_model.specs.Schedule.{PendingStep, Steps, then_stored, with_begun, with_stored, with_kept, with_all_kept}
use Rattle.run_tracker.specs.links.AccountRepresentation.{Bound, AllBindSome, AllFollow, AllFrom, AllUpTo, AreInOrder, AreOrdered, ComesBefore}
use Rattle.run_tracker.specs.links.AccountRepresentation.{IsAscending, IsUpTo, bound_steps, own_steps, point_word, step_at}
use Rattle.run_tracker.proofs.OwnSteps.{each_own, fill, filled, left, other_left, other_push, other_stored, own_left, own_push, own_stored}

-- ---- Steps of one hart

-- a step that isn't bound may come last
unbound_last : (stored : Option ℕ) → ComesBefore stored None
unbound_last (Some p) = tt
unbound_last None = tt

follow_push : (h : ℕ) (stored : Option ℕ) (xs : List PendingStep) → AllFollow stored xs → AllFollow stored (xs ++ step_at h None ∷ [])
follow_push h stored [] follow = (unbound_last stored, tt)
follow_push h stored (x ∷ xs) follow = (follow.0, follow_push h stored xs follow.1)

order_push : (h : ℕ) (xs : List PendingStep) → AreInOrder xs → AreInOrder (xs ++ step_at h None ∷ [])
order_push h [] order = (tt, tt)
order_push h (x ∷ xs) order = (follow_push h x.stored xs order.0, order_push h xs order.1)

up_to_push : (h p : ℕ) (xs : List PendingStep) → AllUpTo p xs → AllUpTo p (xs ++ step_at h None ∷ [])
up_to_push h p [] all = (tt, tt)
up_to_push h p (x ∷ xs) all = (all.0, up_to_push h p xs all.1)

-- where the unbound ones are bound to a store after those of all others
before_fill : (p : ℕ) (stored other : Option ℕ) → ComesBefore stored other → IsUpTo p stored → ComesBefore (fill p stored) (fill p other)
before_fill p (Some a) (Some b) before up = before
before_fill p (Some a) None before up = up
before_fill p None None before up = omega arith
before_fill p None (Some b) before up = absurd before

follow_fill : (p : ℕ) (stored : Option ℕ) (xs : List PendingStep) → AllFollow stored xs → IsUpTo p stored → AllFollow (fill p stored) (map (filled p) xs)
follow_fill p stored [] follow up = tt
follow_fill p stored (x ∷ xs) follow up = (before_fill p stored x.stored follow.0 up, follow_fill p stored xs follow.1 up)

order_fill : (p : ℕ) (xs : List PendingStep) → AreInOrder xs → AllUpTo p xs → AreInOrder (map (filled p) xs)
order_fill p [] order all = tt
order_fill p (x ∷ xs) order all = (follow_fill p x.stored xs order.0 all.0, order_fill p xs order.1 all.1)

is_up_to_fill : (p : ℕ) (stored : Option ℕ) → IsUpTo p stored → IsUpTo p (fill p stored)
is_up_to_fill p (Some a) up = up
is_up_to_fill p None up = omega arith

up_to_fill : (p : ℕ) (xs : List PendingStep) → AllUpTo p xs → AllUpTo p (map (filled p) xs)
up_to_fill p [] all = tt
up_to_fill p (x ∷ xs) all = (is_up_to_fill p x.stored all.0, up_to_fill p xs all.1)

-- where some are left out
module _ (test : PendingStep → Bool) where
  follow_left : (stored : Option ℕ) (xs : List PendingStep) → AllFollow stored xs → AllFollow stored (filter test xs)
  follow_left stored [] follow = tt
  follow_left stored (x ∷ xs) follow = by (test x) (follow_left stored xs follow.1)
    where
      by : (b : Bool) → AllFollow stored (filter test xs) → AllFollow stored (if b then x ∷ filter test xs else filter test xs)
      by true rest = (follow.0, rest)
      by false rest = rest

  order_left : (xs : List PendingStep) → AreInOrder xs → AreInOrder (filter test xs)
  order_left [] order = tt
  order_left (x ∷ xs) order = by (test x) (order_left xs order.1)
    where
      by : (b : Bool) → AreInOrder (filter test xs) → AreInOrder (if b then x ∷ filter test xs else filter test xs)
      by true rest = (follow_left x.stored xs order.0, rest)
      by false rest = rest

  up_to_left : (p : ℕ) (xs : List PendingStep) → AllUpTo p xs → AllUpTo p (filter test xs)
  up_to_left p [] all = tt
  up_to_left p (x ∷ xs) all = by (test x) (up_to_left p xs all.1)
    where
      by : (b : Bool) → AllUpTo p (filter test xs) → AllUpTo p (if b then x ∷ filter test xs else filter test xs)
      by true rest = (all.0, rest)
      by false rest = rest

is_up_to_more : (p q : ℕ) (stored : Option ℕ) → p ≤ q → IsUpTo p stored → IsUpTo q stored
is_up_to_more p q (Some a) le up = omega (arith, le, up)
is_up_to_more p q None le up = tt

up_to_more : (p q : ℕ) (xs : List PendingStep) → p ≤ q → AllUpTo p xs → AllUpTo q xs
up_to_more p q [] le all = tt
up_to_more p q (x ∷ xs) le all = (is_up_to_more p q x.stored le all.0, up_to_more p q xs le all.1)

-- ---- The order of stores

-- what follows a step follows each of some like it
module _ (h position : ℕ) (rest : List PendingStep) where
  abbrev one : PendingStep
  one = step_at h (Some position)

  past_many : (stored : Option ℕ) (n : ℕ) → AllFollow stored (replicate n one ++ rest) → AllFollow stored rest
  past_many stored zero follow = follow
  past_many stored (suc n) follow = past_many stored n follow.1

  first_follows : (stored : Option ℕ) (n : ℕ) → 0 < n → AllFollow stored (replicate n one ++ rest) → ComesBefore stored (Some position)
  first_follows stored zero some follow = absurd (omega (arith, some))
  first_follows stored (suc n) some follow = follow.0

  order_past : (n : ℕ) → AreInOrder (replicate n one ++ rest) → AreInOrder rest
  order_past zero order = order
  order_past (suc n) order = order_past n order.1

  all_past : (n : ℕ) → 0 < n → AreInOrder (replicate n one ++ rest) → AllFollow (Some position) rest
  all_past zero some order = absurd (omega (arith, some))
  all_past (suc n) some order = past_many (Some position) n order.0

abbrev bound_then : (h : ℕ) → List Bound → (more : List PendingStep) → List PendingStep
bound_then h bs more = bound_steps h bs ++ more

-- the first of them and the rest
apart : (h : ℕ) (b : Bound) (bs : List Bound) (more : List PendingStep) →
    bound_then h (b ∷ bs) more ≡ replicate b.steps (step_at h (Some b.position)) ++ bound_then h bs more
apart h b bs more = append_assoc (replicate b.steps (step_at h (Some b.position))) (bound_steps h bs) more

from_follow : (h p : ℕ) (bs : List Bound) (more : List PendingStep) → AllBindSome bs → AllFollow (Some p) (bound_then h bs more) → AllFrom p bs
from_follow h p [] more some follow = tt
from_follow h p (b ∷ bs) more some follow =
    let parts = subst (AllFollow (Some p)) (apart h b bs more) follow in (
      first_follows h b.position (bound_then h bs more) (Some p) b.steps some.0 parts,
      from_follow h p bs more some.1 (past_many h b.position (bound_then h bs more) (Some p) b.steps parts),
    )

pub ascending_order : (h : ℕ) (bs : List Bound) (more : List PendingStep) → AllBindSome bs → AreInOrder (bound_then h bs more) → IsAscending bs
ascending_order h [] more some order = tt
ascending_order h (b ∷ bs) more some order =
    let parts = subst AreInOrder (apart h b bs more) order in (
      from_follow h b.position bs more some.1 (all_past h b.position (bound_then h bs more) b.steps some.0 parts),
      ascending_order h bs more some.1 (order_past h b.position (bound_then h bs more) b.steps parts),
    )

-- ---- All harts

-- a word that changes has no lower last position
pub last_grows : (old new : Word) → IsChanged old new → last_position old ≤ last_position new
last_grows old new (inl raised) = rw raised.values (omega arith)
last_grows old new (inr pushed) =
    let grown : length new.values ≡ length old.values + 1 = ap (λ (w : Word). length w.values) pushed.1 ∙ length-append old.values (pushed.0 ∷ []) in
    omega (arith, grown)

module _ (log : Log) where
  abbrev last_in : List Word → (h : ℕ) → ℕ
  last_in words h = last_position (word_at words (point_word log h))

  pub ordered_later : (old new : List Word) (s : Steps) → AreChanged old new → AreOrdered log old s → AreOrdered log new s
  ordered_later old new s changed ordered = record {
    in_order = ordered.in_order;
    up_to = λ h. up_to_more (last_in old h) (last_in new h) (own_steps h s.pending) (last_grows _ _ (changed.each (point_word log h))) (ordered.up_to h);
  }

  pub ordered-begun : (words : List Word) (h : ℕ) (s : Steps) → AreOrdered log words s → AreOrdered log words (with_begun h s)
  ordered-begun words h s ordered =
      let ys : List PendingStep = s.pending ++ step_at h None ∷ [] in
      record {
        in_order = each_own (λ g xs. AreInOrder xs) h s.pending ys
            (subst AreInOrder (sym (own_push h None s.pending)) (order_push h (own_steps h s.pending) (ordered.in_order h)))
            (λ g other. other_push h g None s.pending other) ordered.in_order;
        up_to = each_own (λ g xs. AllUpTo (last_in words g) xs) h s.pending ys
            (subst (AllUpTo (last_in words h)) (sym (own_push h None s.pending)) (up_to_push h (last_in words h) (own_steps h s.pending) (ordered.up_to h)))
            (λ g other. other_push h g None s.pending other) ordered.up_to;
      }

  pub ordered-stored : (words : List Word) (h position : ℕ) (s : Steps) → position ≡ last_in words h → AreOrdered log words s →
      AreOrdered log words (with_stored h position s)
  ordered-stored words h position s e ordered =
      let own = own_steps h s.pending in
      let ys : List PendingStep = map (then_stored h position) s.pending in
      let all : AllUpTo position own = subst (λ (p : ℕ). AllUpTo p own) (sym e) (ordered.up_to h) in
      record {
        in_order = each_own (λ g xs. AreInOrder xs) h s.pending ys
            (subst AreInOrder (sym (own_stored h position s.pending)) (order_fill position own (ordered.in_order h) all))
            (λ g other. other_stored h g position s.pending other) ordered.in_order;
        up_to = each_own (λ g xs. AllUpTo (last_in words g) xs) h s.pending ys
            (subst (λ (p : ℕ). AllUpTo p (own_steps h ys)) e
            (subst (AllUpTo position) (sym (own_stored h position s.pending)) (up_to_fill position own all)))
            (λ g other. other_stored h g position s.pending other) ordered.up_to;
      }

  pub order-kept : (now : List Word) (h : ℕ) (s : Steps) → ((g : ℕ) → AreInOrder (own_steps g s.pending)) → (g : ℕ) →
      AreInOrder (own_steps g (with_kept log now h s).pending)
  order-kept now h s order =
      let durable = (word_at now (point_word log h)).durable in
      let ys : List PendingStep = filter (left h durable) s.pending in
      each_own (λ g xs. AreInOrder xs) h s.pending ys
      (subst AreInOrder (sym (own_left h durable s.pending)) (order_left (left h durable) (own_steps h s.pending) (order h)))
      (λ g other. other_left h g durable s.pending other) order

  pub ordered-kept : (words now : List Word) (h : ℕ) (s : Steps) → AreOrdered log words s → AreOrdered log words (with_kept log now h s)
  ordered-kept words now h s ordered =
      let durable = (word_at now (point_word log h)).durable in
      let ys : List PendingStep = filter (left h durable) s.pending in
      record {
        in_order = order-kept now h s ordered.in_order;
        up_to = each_own (λ g xs. AllUpTo (last_in words g) xs) h s.pending ys
            (subst (AllUpTo (last_in words h)) (sym (own_left h durable s.pending))
            (up_to_left (left h durable) (last_in words h) (own_steps h s.pending) (ordered.up_to h)))
            (λ g other. other_left h g durable s.pending other) ordered.up_to;
      }

  pub ordered-all_kept : (words now : List Word) (n : ℕ) (s : Steps) → AreOrdered log words s → AreOrdered log words (with_all_kept log now n s)
  ordered-all_kept words now zero s ordered = ordered
  ordered-all_kept words now (suc n) s ordered = ordered-kept words now n (with_all_kept log now n s) (ordered-all_kept words now n s ordered)

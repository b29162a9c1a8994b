-- Where lives end among all kept steps.
use Rattle.std.proofs.Common.{◌≡◌, refl, inl, inr, ℕ, zero, suc, ◌+◌, ◌-◌, ◌<◌, ◌≤◌, List, [], ◌∷◌, ◌++◌, length, take, drop, sym, ◌∙◌, ap, subst, arith}
use Rattle.std.proofs.Common.{append-nil, append_assoc, length-append, Bool, true, false, flat_map, Some}
use Rattle.std.proofs.Math.Seq.{take-append_seam}
use Rattle.std.specs.Prelude.{slice_get, slice_index, slice_index_or, if◌then◌else◌}
use Rattle.machine_events.specs.declared.event.Event.{Event}
use Rattle.machine_events.specs.declared.event.Event.TheVariants.{Step, Evict, Crash, Start}
use Rattle.rv64_isa.specs.declared.object.Slot.{Slot}
use Rattle.machine_model.specs.Machine.{World, IsValidAt, can_start}
use Rattle.machine_model.specs.Schedule.{Steps, next_life, schedules, steps_after}
use Rattle.machine_model.proofs.Public.{event_earlier}
use Rattle.run_tracker.specs.declared.account.Account.{Account}
use Rattle.run_tracker.specs.links.AccountRepresentation.{AccountInv, all_kept, ends_from, ends_then, life_place, without_open}
use Rattle.run_tracker.specs.links.LifeParts.{is_start}

-- ---- One life more

all_together : List (List ℕ) → List ℕ
all_together lives = flat_map (λ steps. steps) lives

pub together_more : (lives : List (List ℕ)) (last : List ℕ) →
    flat_map (λ (steps : List ℕ). steps) (lives ++ last ∷ []) ≡ flat_map (λ (steps : List ℕ). steps) lives ++ last
together_more [] last = append-nil last
together_more (life ∷ lives) last =
    ap (λ (xs : List ℕ). life ++ xs) (together_more lives last)
    ∙ sym (append_assoc life (flat_map (λ (steps : List ℕ). steps) lives) last)

-- all kept steps are those of the lives before, once the last one has ended
pub next_keeps : (s : Steps) → all_kept (next_life s) ≡ all_kept s
next_keeps s = append-nil (flat_map (λ (steps : List ℕ). steps) (s.earlier ++ s.kept ∷ [])) ∙ together_more s.earlier s.kept

pub ends_more : (at : ℕ) (lives : List (List ℕ)) (last : List ℕ) → ends_from at (lives ++ last ∷ [])
    ≡ ends_from at lives ++ (at + length (flat_map (λ (steps : List ℕ). steps) lives ++ last)) ∷ []
ends_more at [] last = refl
ends_more at (life ∷ lives) last =
    let size : at + length life + length (flat_map (λ (steps : List ℕ). steps) lives ++ last)
    ≡ at + length (flat_map (λ (steps : List ℕ). steps) (life ∷ lives) ++ last) =
    omega (
      arith,
      length-append life (flat_map (λ (steps : List ℕ). steps) lives),
      length-append (life ++ flat_map (λ (steps : List ℕ). steps) lives) last,
      length-append (flat_map (λ (steps : List ℕ). steps) lives) last,
    ) in
    ap (λ (ns : List ℕ). (at + length life) ∷ ns) (ends_more (at + length life) lives last
    ∙ ap (λ (n : ℕ). ends_from (at + length life) lives ++ n ∷ []) size)

pub one_end : (ends : Bool) (places : List ℕ) (kept : ℕ) → length (ends_then ends places kept) ≤ length places + 1
one_end false places kept = omega arith
one_end true places kept = omega (arith, length-append places (kept ∷ []))

module _ (marks : List (List ℕ)) (program : List (List Slot)) (w : World) where
  by_start : (may : Bool) → may ≡ true → (s : Steps) (kept : ℕ) → length (all_kept s) ≡ kept →
      ends_from 0 s.earlier ++ kept ∷ [] ≡ ends_from 0 (if may then next_life s else s).earlier
  by_start false may s kept is = cc
  by_start true may s kept is =
      let size : kept ≡ 0 + length (all_kept s) = omega (arith, is) in
      ap (λ (n : ℕ). ends_from 0 s.earlier ++ n ∷ []) size ∙ sym (ends_more 0 s.earlier s.kept)

  pub ends_grow : (event : Event) (s : Steps) (kept : ℕ) → length (all_kept s) ≡ kept → IsValidAt w event →
      ends_then (is_start event) (ends_from 0 s.earlier) kept ≡ ends_from 0 (steps_after marks program w event s).earlier
  unfolding steps_after
  ends_grow (Step h) s kept is valid = ap (ends_from 0) (sym (event_earlier marks program w (Step h) s refl))
  ends_grow (Evict line mask) s kept is valid = ap (ends_from 0) (sym (event_earlier marks program w (Evict line mask) s refl))
  ends_grow Crash s kept is valid = refl
  ends_grow Start s kept is valid = elim valid [
    | inl never ↦ absurd never
    | inr starts ↦ by_start (can_start w) starts.1 s kept is
  ]

-- ---- The account of another life

pub closed : (account : Account) (s : Steps) → AccountInv account (without_open s) → AccountInv account (next_life s)
closed account s a = record { kept = next_keeps s ∙ a.kept; each = a.each; some = a.some; within = a.within }

-- ---- A life among all kept steps

abbrev together : (earlier : List (List ℕ)) → (kept : List ℕ) → List ℕ
together earlier kept = flat_map (λ steps. steps) earlier ++ kept

drop_past : (xs ys : List ℕ) (k : ℕ) → drop (length xs + k) (xs ++ ys) ≡ drop k ys
drop_past [] ys k = let none : 0 + k ≡ k = omega arith in ap (λ (n : ℕ). drop n ys) none
drop_past (x ∷ xs) ys k =
    let one : length (x ∷ xs) + k ≡ suc (length xs + k) = omega arith in
    ap (λ (n : ℕ). drop n (x ∷ (xs ++ ys))) one ∙ drop_past xs ys k

take_front : (xs ys : List ℕ) → take (length xs) (xs ++ ys) ≡ xs
take_front xs ys = take-append_seam xs ys

-- the steps of the life of that number stand behind so many, from one place to another
record StandsIn (at : ℕ) (earlier : List (List ℕ)) (kept : List ℕ) (life from to : ℕ) : Type 0 where
  before : ℕ
  from_is : from ≡ at + before
  order : from ≤ to
  inside : to ≤ at + length (together earlier kept)
  is : slice_get (earlier ++ kept ∷ []) life ≡ Some (take (to - from) (drop before (together earlier kept)))

begins_next : (at : ℕ) (ends : List ℕ) (life : ℕ) → slice_index (at ∷ ends) life ≡ life_place at ends life
begins_next at ends zero = refl
begins_next at ends (suc life) = refl

stands_in : (at : ℕ) (earlier : List (List ℕ)) (kept : List ℕ) (life : ℕ) → life < length earlier + 1 →
    StandsIn at earlier kept life (life_place at (ends_from at earlier) life)
    (slice_index_or (ends_from at earlier) life (at + length (together earlier kept)))
stands_in at [] kept zero within =
    let all : at + length kept - at ≡ length kept = omega arith in
    record {
      before = 0;
      from_is = omega arith;
      order = omega arith;
      inside = omega arith;
      is = ap Some (sym (ap (λ (n : ℕ). take n kept) all ∙ (ap (λ (xs : List ℕ). take (length kept) xs) (sym (append-nil kept)) ∙ take_front kept [])));
    }
stands_in at [] kept (suc life) within = absurd (omega (arith, within))
stands_in at (one ∷ rest) kept zero within =
    let all : at + length one - at ≡ length one = omega arith in
    let split : together (one ∷ rest) kept ≡ one ++ together rest kept = append_assoc one (flat_map (λ steps. steps) rest) kept in
    record {
      before = 0;
      from_is = omega arith;
      order = omega arith;
      inside = omega (arith, ap length split, length-append one (together rest kept));
      is = ap Some (sym (ap (λ (n : ℕ). take n (together (one ∷ rest) kept)) all
          ∙ (ap (λ (xs : List ℕ). take (length one) xs) split ∙ take_front one (together rest kept))));
    }
stands_in at (one ∷ rest) kept (suc life) within =
    let next : ℕ = at + length one in
    let more = stands_in next rest kept life (omega (arith, within)) in
    let split : together (one ∷ rest) kept ≡ one ++ together rest kept = append_assoc one (flat_map (λ steps. steps) rest) kept in
    let size : next + length (together rest kept) ≡ at + length (together (one ∷ rest) kept) =
    omega (arith, ap length split, length-append one (together rest kept)) in
    let from : life_place next (ends_from next rest) life ≡ slice_index (next ∷ ends_from next rest) life = sym (begins_next next (ends_from next rest) life) in
    subst (λ (n : ℕ). StandsIn at (one ∷ rest) kept (suc life) n
    (slice_index_or (ends_from next rest) life (at + length (together (one ∷ rest) kept)))) from
    (subst (λ (n : ℕ). StandsIn at (one ∷ rest) kept (suc life) (life_place next (ends_from next rest) life)
    (slice_index_or (ends_from next rest) life n)) size (record {
      before = length one + more.before;
      from_is = omega (arith, more.from_is);
      order = more.order;
      inside = omega (arith, more.inside, size);
      is = more.is ∙ ap Some (ap (take _) (sym (ap (λ (xs : List ℕ). drop (length one + more.before) xs) split
          ∙ drop_past one (together rest kept) more.before)));
    }))

-- the schedule of that number is what stands between these places
pub life_there : (s : Steps) (kept : List ℕ) (ends : List ℕ) (life from to : ℕ) → all_kept s ≡ kept → ends ≡ ends_from 0 s.earlier →
    life < length (schedules s) → from ≡ life_place 0 ends life → to ≡ slice_index_or ends life (length kept) →
    (from ≤ to) × (to ≤ length kept) × (slice_get (schedules s) life ≡ Some (take (to - from) (drop from kept)))
life_there s kept ends life from to kept_is ends_are within from_is to_is =
    let i = stands_in 0 s.earlier s.kept life (omega (arith, within, length-append s.earlier (s.kept ∷ []))) in
    let size : 0 + length (all_kept s) ≡ length kept = omega (arith, ap length kept_is) in
    let begins : from ≡ life_place 0 (ends_from 0 s.earlier) life = from_is ∙ ap (λ (ns : List ℕ). life_place 0 ns life) ends_are in
    let finishes : to ≡ slice_index_or (ends_from 0 s.earlier) life (0 + length (all_kept s)) =
    to_is ∙ (ap (λ (ns : List ℕ). slice_index_or ns life (length kept)) ends_are
    ∙ ap (λ (n : ℕ). slice_index_or (ends_from 0 s.earlier) life n) (sym size)) in
    let here : i.before ≡ from = omega (arith, begins, i.from_is) in (
      omega (arith, begins, finishes, i.order),
      omega (arith, finishes, i.inside, size),
      i.is ∙ ap Some ((λ j. take ((sym finishes) j - (sym begins) j) (drop (here j) (kept_is j)))),
    )

pub as_many_ends : (at : ℕ) (lives : List (List ℕ)) → length (ends_from at lives) ≡ length lives
as_many_ends at [] = refl
as_many_ends at (one ∷ rest) = ap suc (as_many_ends (at + length one) rest)

pub lives_counted : (s : Steps) (ends : List ℕ) → ends ≡ ends_from 0 s.earlier → length ends + 1 ≡ length (schedules s)
lives_counted s ends is = omega (arith, ap length is, as_many_ends 0 s.earlier, length-append s.earlier (s.kept ∷ []))

pub last_there : (lives : List (List ℕ)) (last : List ℕ) → slice_get (lives ++ last ∷ []) (length lives) ≡ Some last
last_there [] last = refl
last_there (one ∷ rest) last = last_there rest last

pub same_some : (xs ys : List ℕ) → Some xs ≡ Some ys → xs ≡ ys
same_some xs ys e = cc

-- How a boundary begins, and what its record says.
use Rattle.std.specs.Prelude.{if◌then◌else◌}
use Rattle.std.proofs.Common.{◌≡◌, ◌≢◌, inl, inr, zero, suc, subst, cond, ◌/◌, ℕ, ◌+◌, ◌-◌, ◌*◌, ◌%◌, ◌^◌, ◌<◌, List, [], ◌∷◌, ◌++◌, map, refl, ap, arith}
use Rattle.std.proofs.Common.{sym, ◌∙◌, Bool, true, false, eqb}
use Rattle.std.specs.List.{Contains}
use Rattle.std.proofs.lemmas.Bool.{cond_both, cond-true, cond-false, ne_eqb}
use Rattle.log_schemes.specs.declared.log.Log.{Log}
use Rattle.log_schemes.specs.declared.locals.Locals.{Locals}
use Rattle.log_schemes.specs.declared.locals.Locals.TheVariants.{Registers, Frame}
use Rattle.log_schemes.specs.Layout.{slot_at}
use Rattle.ido_base.specs.Words.{Word, Entry, last_position, live_value, word_at}
use Rattle.ido_base.proofs.Public.{higher_all}
use Rattle.rv64_isa.specs.Rows.{Effect, Stores, read}
use Rattle.machine_model.specs.Machine.{bank_of}
use Rattle.boundary_code.specs.Boundaries.{Boundary, frame_lines, frame_lines_at, is_empty, pairs_kept, slots_kept}
use Rattle.log_schemes.specs.Schemes.{bank_lines, locals_of, numbers_from, register_slot}
use Rattle.boundary_code.specs.Boundaries.{lines_in_use, bank_effects, commit_effects, boundary_effects, other_side}
use Rattle.boundary_code.proofs.Public.{not_empty, some_there}
use Rattle.log_states.specs.Logs.{HasLog, IsFrameWord, IsWord, Record, frame_in, frame_word, framed_of, slots_of, value_of, IsRecord}
use Rattle.log_states.specs.Stages.{LogConfig, FrameQueued, FrameToClean, IsFlushing, stores_of, cleans_of, frame_cleans, ToStore, IsWriting, Writing}
use Rattle.log_states.specs.Laws.{FrameComes, FrameIsComing, IsCleaned, IsQueued, IsThere, WillBeDurable}
use Rattle.log_states.specs.Laws.{KeptAreKeepable, recorded_by, IsRecoverable, BoundaryBegins, SideFollows, PointSays}
use Rattle.log_states.proofs.Lists.{slots_in, slot_has_line, lines_of_bank, no_lines}
use Rattle.log_schemes.proofs.Public.{contains_cases, contains_first, contains_later, contains_none}
use Rattle.log_schemes.proofs.Public.{scheme}
use Rattle.log_states.proofs.KeptRecords.{pair_value, register_value}
use Rattle.log_states.proofs.UnstoredLogStays.{of_frame, slot_in_bank}

-- ---- Registers that are kept

pub kept_are_keepable : KeptAreKeepable
kept_are_keepable log register kept = (scheme log).apart.kept register kept

-- ---- The point

pub point_says : PointSays
point_says b framed frame side resume x r some =
    let e : (recorded_by b framed frame side resume x).point ≡ (resume + (1 - side)) % 2 ^ 64 =
    cond-false (is_empty b.locks) 0 ((resume + (1 - side)) % 2 ^ 64) (not_empty b.locks some) in (
      λ zeroth. omega (arith, e, zeroth, r.aligned, r.somewhere, r.below),
      omega (arith, e, r.aligned, r.below),
      omega (arith, e, r.aligned, r.below),
    )

-- a boundary that ends a section leaves no point
pub points_end : (b : Boundary) (framed : List ℕ) (frame : ℕ → ℕ) (side resume : ℕ) (x : List ℕ) → is_empty b.locks ≡ true →
    (recorded_by b framed frame side resume x).point ≡ 0
points_end b framed frame side resume x none = cond-true (is_empty b.locks) 0 ((resume + other_side side) % 2 ^ 64) none

-- a point that isn't 0 comes of locks
has_locks : (b : Boundary) (framed : List ℕ) (frame : ℕ → ℕ) (side resume : ℕ) (x : List ℕ) → (recorded_by b framed frame side resume x).point ≢ 0 →
    b.locks ≢ []
has_locks b framed frame side resume x some none = some (points_end b framed frame side resume x (ap is_empty none))

pub side_follows : SideFollows
side_follows b framed frame side resume x r some =
    let locked : b.locks ≢ [] = has_locks b framed frame side resume x some in
    (point_says b framed frame side resume x r locked).1 ∙ sym (cond-false (is_empty b.locks) side (other_side side) (not_empty b.locks locked))

-- ---- What a boundary does, as its record has it

effects_of : Log → (thread : ℕ) → Record → (framing : List ℕ) → List Effect
effects_of log thread r framing =
    stores_of log thread r (slots_of log r) ++ cleans_of log thread r (lines_in_use log (slots_of log r)) ++ frame_cleans log thread framing
    ++ commit_effects log thread r.point

-- the lines of the frame that a boundary cleans: none where it ends a section
framing_of : Boundary → List ℕ
framing_of b = if is_empty b.locks then [] else frame_lines b.log b.opens

-- the stores of a bank, and then these effects: each slot gets its value
module _ (at value own slot : ℕ → ℕ) (cleans framing commit : List Effect) where
  registers_stored : (live : List ℕ) → ((r : ℕ) → Contains live r → value (slot r) ≡ own r) →
      (map (λ r. Stores (at (slot r)) 8 (own r)) live ++ cleans ++ framing) ++ commit
      ≡ map (λ s. Stores (at s) 8 (value s)) (map slot live) ++ cleans ++ framing ++ commit
  registers_stored [] same = refl
  registers_stored (r ∷ rs) same =
      ap (λ (n : ℕ). Stores (at (slot r)) 8 n ∷ (map (λ r. Stores (at (slot r)) 8 (own r)) rs ++ cleans ++ framing) ++ commit)
      (sym (same r (contains_first r rs)))
      ∙ ap (λ (es : List Effect). Stores (at (slot r)) 8 (value (slot r)) ∷ es) (registers_stored rs (λ s c. same s (contains_later r rs s c)))

  pairs_stored : (live : List ℕ) (kept : List (ℕ × ℕ)) → ((r : ℕ) → Contains live r → value (slot r) ≡ own r) →
      ((one : ℕ × ℕ) → Contains kept one → value one.0 ≡ one.1) →
      (map (λ (one : ℕ × ℕ). Stores (at one.0) 8 one.1) kept ++ map (λ r. Stores (at (slot r)) 8 (own r)) live ++ cleans ++ framing) ++ commit
      ≡ map (λ s. Stores (at s) 8 (value s)) (slots_in kept ++ map slot live) ++ cleans ++ framing ++ commit
  pairs_stored live [] same has = registers_stored live same
  pairs_stored live (first ∷ kept) same has =
      ap (λ (n : ℕ). Stores (at first.0) 8 n ∷
      (map (λ (one : ℕ × ℕ). Stores (at one.0) 8 one.1) kept ++ map (λ r. Stores (at (slot r)) 8 (own r)) live ++ cleans ++ framing) ++ commit)
      (sym (has first (contains_first first kept)))
      ∙ ap (λ (es : List Effect). Stores (at first.0) 8 (value first.0) ∷ es) (pairs_stored live kept same (λ one c. has one (contains_later first kept one c)))

module _ (b : Boundary) (framed : List ℕ) (frame : ℕ → ℕ) (x : List ℕ) where
  with_point : ℕ → Record
  with_point point = record {
    point = point;
    locks = b.locks;
    live = b.live;
    registers = x;
    written = b.written;
    framed = framed;
    frame = frame;
  }

  -- with a bank of this number, where the point isn't 0
  banked : (resume bank point : ℕ) → IsRecoverable b resume x → point ≢ 0 → bank_of point ≡ bank →
      bank_effects b bank x ++ commit_effects b.log b.thread point ≡ effects_of b.log b.thread (with_point point) (frame_lines b.log b.opens)
  unfolding effects_of with_point
  banked resume bank point is some named =
      let r : Record = with_point point in
      let all : List ℕ = slots_kept b.log b.locks b.written b.live in
      let slots : slots_of b.log r ≡ all = cond-false (eqb point 0) [] all (ne_eqb point 0 some) in
      let cleans : List Effect = cleans_of b.log b.thread r (lines_in_use b.log all) in
      let framing : List Effect = frame_cleans b.log b.thread (frame_lines b.log b.opens) in
      ap (λ (k : ℕ). bank_effects b k x ++ commit_effects b.log b.thread point) (sym named)
      ∙ pairs_stored (slot_at b.log b.thread (bank_of point)) (value_of b.log r) (λ k. read x k) (register_slot b.log) cleans framing
      (commit_effects b.log b.thread point) b.live (pairs_kept b.log b.locks b.written)
      (λ k c. register_value b.log r is.locks is.live is.for_write k c)
      (λ one c. pair_value b.log r is.locks is.live is.for_write one c)
      ∙ ap (λ (ss : List ℕ). stores_of b.log b.thread r ss ++ cleans_of b.log b.thread r (lines_in_use b.log ss) ++ framing
      ++ commit_effects b.log b.thread point) (sym slots)

  -- with none
  unbanked : commit_effects b.log b.thread 0 ≡ effects_of b.log b.thread (with_point 0) []
  unfolding effects_of with_point
  unbanked = ap (λ (lines : List ℕ). cleans_of b.log b.thread (with_point 0) lines ++ frame_cleans b.log b.thread [] ++ commit_effects b.log b.thread 0)
      (sym (no_lines (bank_lines b.log)))

  boundary_does : (side resume : ℕ) → IsRecoverable b resume x →
      boundary_effects b side resume x ≡ effects_of b.log b.thread (recorded_by b framed frame side resume x) (framing_of b)
  unfolding with_point framing_of
  boundary_does side resume r = by (is_empty b.locks) refl
    where
      by : (t : Bool) → is_empty b.locks ≡ t →
          boundary_effects b side resume x ≡ effects_of b.log b.thread (recorded_by b framed frame side resume x) (framing_of b)
      by true e =
          cond-true (is_empty b.locks) (commit_effects b.log b.thread 0)
          (bank_effects b (1 - side) x ++ commit_effects b.log b.thread ((resume + (1 - side)) % 2 ^ 64)) e
          ∙ unbanked
          ∙ ap (λ (p : ℕ). effects_of b.log b.thread (with_point p) []) (sym (cond-true (is_empty b.locks) 0 ((resume + (1 - side)) % 2 ^ 64) e))
          ∙ ap (effects_of b.log b.thread (recorded_by b framed frame side resume x)) (sym (cond-true (is_empty b.locks) [] (frame_lines b.log b.opens) e))
      by false e =
          let point : ℕ = (resume + (1 - side)) % 2 ^ 64 in
          let same : (recorded_by b framed frame side resume x).point ≡ point = cond-false (is_empty b.locks) 0 point e in
          let says = point_says b framed frame side resume x r (some_there b.locks e) in
          cond-false (is_empty b.locks) (commit_effects b.log b.thread 0) (bank_effects b (1 - side) x ++ commit_effects b.log b.thread point) e
          ∙ banked resume (1 - side) point r (λ none. says.0 (same ∙ none)) (ap bank_of (sym same) ∙ says.1)
          ∙ ap (λ (p : ℕ). effects_of b.log b.thread (with_point p) (frame_lines b.log b.opens)) (sym same)
          ∙ ap (effects_of b.log b.thread (recorded_by b framed frame side resume x))
          (sym (cond-false (is_empty b.locks) [] (frame_lines b.log b.opens) e))

-- ---- The frame's lines

line_at : (locals : Locals) (opens : Bool) (line : ℕ) → Contains (frame_lines_at locals opens) line → (locals ≡ Frame) × (line < 3)
line_at Registers opens line c = absurd (contains_none line c)
line_at Frame false line c = absurd (contains_none line c)
line_at Frame true line c = elim (contains_cases 0 (1 ∷ 2 ∷ []) line c) [
  | inl is ↦ (refl, omega (arith, is))
  | inr more ↦ elim (contains_cases 1 (2 ∷ []) line more) [
    | inl is ↦ (refl, omega (arith, is))
    | inr last ↦ elim (contains_cases 2 [] line last) [
      | inl is ↦ (refl, omega (arith, is))
      | inr none ↦ absurd (contains_none line none)
    ]
  ]
]

frame_line_is_there : (b : Boundary) (line : ℕ) → Contains (framing_of b) line → IsFrameWord b.log (8 * line)
unfolding framing_of
frame_line_is_there b line = cond_both (is_empty b.locks) [] (frame_lines b.log b.opens) (λ lines. Contains lines line → IsFrameWord b.log (8 * line))
    (λ _ c. absurd (contains_none line c))
    (λ _ c.
    let is = line_at (locals_of b.log) b.opens line c in
    let below : line < 3 = is.1 in
    record { frame = is.0; exists = omega (arith, below) })

numbered : (line : ℕ) → line < 3 → Contains (numbers_from 0 3) line
numbered zero below = contains_first 0 (1 ∷ 2 ∷ [])
numbered (suc zero) below = contains_later 0 (1 ∷ 2 ∷ []) 1 (contains_first 1 (2 ∷ []))
numbered (suc (suc zero)) below = contains_later 0 (1 ∷ 2 ∷ []) 2 (contains_later 1 (2 ∷ []) 2 (contains_first 2 []))
numbered (suc (suc (suc line))) below = absurd (omega (arith, below))

all_lines : (b : Boundary) (word : ℕ) → b.locks ≢ [] → b.opens ≡ true → IsFrameWord b.log word → Contains (framing_of b) (word / 8)
unfolding framing_of
all_lines b word some opens is =
    let exists : word < 18 = is.exists in
    let there : Contains (numbers_from 0 3) (word / 8) = numbered (word / 8) (omega (arith, exists)) in
    subst (λ (lines : List ℕ). Contains lines (word / 8)) (sym (cond-false (is_empty b.locks) [] (frame_lines b.log b.opens) (not_empty b.locks some)))
    (subst (λ (locals : Locals). Contains (frame_lines_at locals b.opens) (word / 8)) (sym is.frame)
    (subst (λ (o : Bool). Contains (frame_lines_at Frame o) (word / 8)) (sym opens) there))

-- ---- The beginning

framed_point : (r : Record) (word : ℕ) → Contains (framed_of r) word → r.point ≢ 0
framed_point r word c is = contains_none word (subst (λ (n : ℕ). Contains (cond (eqb n 0) [] r.framed) word) is c)

framed_own : (r : Record) (word : ℕ) → Contains (framed_of r) word → Contains r.framed word
framed_own r word =
    cond_both (eqb r.point 0) [] r.framed (λ words. Contains words word → Contains r.framed word) (λ _ c. absurd (contains_none word c)) (λ _ c. c)

live_is : (b : Boundary) (words : List Word) (queue : List Entry) (word value : ℕ) → WillBeDurable b words queue word value →
    live_value (frame_in b.log words b.thread word) ≡ value
live_is b words queue word value (IsThere durable) = durable.live
live_is b words queue word value (IsQueued live reaches) = live
live_is b words queue word value (IsCleaned live opens) = live

module _ (b : Boundary) (framed : List ℕ) (frame : ℕ → ℕ) (side resume : ℕ) (x : List ℕ) (words : List Word) (queue : List Entry)
    (has : HasLog b.log b.thread words) (r : IsRecoverable b resume x) (comes : FrameIsComing b framed frame words queue) where
  abbrev new : Record
  new = recorded_by b framed frame side resume x

  abbrev m : LogConfig
  m = record { words = words; queue = queue; rest = boundary_effects b side resume x }

  -- a word that the record counts on
  coming : (word : ℕ) → Contains (framed_of new) word → FrameComes b words queue word (frame word)
  coming word c = comes (has_locks b framed frame side resume x (framed_point new word c)) word (framed_own new word c)

  is_record : IsRecord b.log new
  is_record = record {
    point = cond_both (is_empty b.locks) 0 ((resume + other_side side) % 2 ^ 64) (λ n. n < 2 ^ 64) (λ _. omega arith) (λ _. omega arith);
    locks = r.locks;
    live = r.live;
    registers = r.registers;
    told = r.told;
    for_write = r.for_write;
    framed = λ word c. (coming word c).in_frame;
    frame = λ word c.
        let w : Word = frame_in b.log words b.thread word in
        let is : IsWord w = of_frame b.log b.thread (λ j. IsWord (word_at words j)) has.each word (coming word c).in_frame in
        subst (λ (n : ℕ). n < 2 ^ 64) (live_is b words queue word (frame word) (coming word c).comes) (is.values (last_position w));
  }

  flushing : (word : ℕ) → Contains (framed_of new) word → WillBeDurable b words queue word (frame word) → IsFlushing b.log b.thread new (framing_of b) m word
  flushing word c (IsThere durable) = FrameQueued durable.live (omega (arith, durable.durable, (higher_all words queue).each (frame_word b.log b.thread word)))
  flushing word c (IsQueued live reaches) = FrameQueued live reaches
  flushing word c (IsCleaned live opens) =
      FrameToClean live (all_lines b word (has_locks b framed frame side resume x (framed_point new word c)) opens (coming word c).in_frame)

  writing_begins : IsWriting b.log b.thread new (slots_of b.log new) (lines_in_use b.log (slots_of b.log new)) (framing_of b) m
  unfolding effects_of
  writing_begins = record {
    rest = boundary_does b framed frame x side resume r;
    own = λ slot c. c;
    after = λ slot c. slot_has_line b.log (slots_of b.log new) slot c (slot_in_bank b.log new slot is_record c);
    exist = λ line c. lines_of_bank b.log (slots_of b.log new) line c;
    each = λ slot c. ToStore c;
    frame_lines_exist = λ line c. frame_line_is_there b line c;
    framed = λ word c. flushing word c (coming word c).comes;
  }

pub begins : BoundaryBegins
begins b framed frame old side resume x words queue has entries old_is recorded at r comes =
    let new : Record = recorded_by b framed frame side resume x in
    record {
      follows = record {
        old_is = old_is;
        new_is = is_record b framed frame side resume x words queue has r comes;
        apart = λ one other same.
            let says = point_says b framed frame side resume x r (has_locks b framed frame side resume x other) in
            omega (arith, same, at.is one, says.1, at.registers.exists);
      };
      log = has;
      queue = entries;
      stage = Writing (slots_of b.log new) (lines_in_use b.log (slots_of b.log new)) (framing_of b)
          (writing_begins b framed frame side resume x words queue has r comes) recorded;
    }

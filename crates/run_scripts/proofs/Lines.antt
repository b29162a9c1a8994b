-- A script, made line by line.
use Rattle.std.proofs.Common.{◌≡◌, ℕ, ◌+◌, ◌-◌, ◌<◌, ◌≤◌, List, [], ◌∷◌, ◌++◌, length, take, drop, map, get_or, Bool, true, false}
use Rattle.std.proofs.Common.{nat_le, nat_lt, if◌then◌else◌, Option, Some, None, refl, sym, ◌∙◌, ap, ap₂, arith, append_assoc, length-append}
use Rattle.std.specs.Prelude.{◌↔◌, ◌&&◌, not}
use Rattle.std.proofs.lemmas.Grind.{common_steps}
use Rattle.std.proofs.lemmas.List.{append-nil, at_drop_more}
use Rattle.std.proofs.lemmas.Bool.{le-ltb, leb-true, leb-false, lt-ltb, ltb-false, ltb-true}
use Rattle.machine_events.specs.declared.event.Event.{Event}
use Rattle.machine_events.specs.declared.machine.Core.{Ghosts}
use Rattle.machine_events.specs.Cores.{Behaviour, played}
use Rattle.machine_events.proofs.Public.{played-append}
use Rattle.run_scripts.specs.Scripts.{Line}
use Rattle.run_scripts.specs.declared.script.Line as declared
use Rattle.run_scripts.specs.links.ScriptViews.{line_of}
use Rattle.run_scripts.specs.declared.script.Command.{Command}
use Rattle.run_scripts.specs.declared.script.Command.TheVariants.{Steps, Point, Fence, Enabled, Evict, Crash, Start}
use Rattle.run_scripts.specs.Plays.{PlayFault, TooMany, BadStart, PastFew, fault_within, is_refused, line_events, script_events}
use Rattle.run_scripts.proofs.EventsWithinRoom.{take_all, cut, whole as whole_of}

-- after the last line there is none
nothing_left : (shown items : List declared.Line) (i : ℕ) → shown ≡ items → length shown ≤ i → map line_of (drop i items) ≡ []
nothing_left shown items i same past = ap (map line_of) (none items i (omega (arith, past, ap length same)))
  where
    none : (xs : List declared.Line) (k : ℕ) → length xs ≤ k → drop k xs ≡ []
    none xs k h = grind (arith, common_steps)

split : {A : Type 0} (es : List A) (n : ℕ) → take n es ++ drop n es ≡ es
split es n = grind (arith, common_steps)

length-take : {A : Type 0} (es : List A) (n : ℕ) → n ≤ length es → length (take n es) ≡ n
length-take es n h = grind (arith, common_steps)

none_taken : {A : Type 0} (es : List A) (n : ℕ) → n ≡ 0 → take n es ≡ []
none_taken es n h = grind (arith, common_steps)

-- ---- Starts by which no life may begin

module _ {M : Type 0} (b : Behaviour M) (m : M) where
  -- such a line makes one event
  refused_one : (harts : ℕ) (command : Command) → is_refused b m command ≡ true → length (line_events b harts m command) ≡ 1
  refused_one harts (Steps hart count) e = cc
  refused_one harts (Point hart) e = cc
  refused_one harts (Fence hart) e = cc
  refused_one harts (Enabled count) e = cc
  refused_one harts (Evict line mask) e = cc
  refused_one harts Crash e = cc
  refused_one harts Start e = refl

  pub may_start : (command : Command) → command ≡ Start → is_refused b m command ≡ false → b.can_start m ≡ true
  may_start command is goes = twice (b.can_start m) (sym (ap (is_refused b m) is) ∙ goes)
    where
      twice : (t : Bool) → not t ≡ false → t ≡ true
      twice true e = refl
      twice false e = cc

-- where the line isn't refused above a floor, and there is room above it, it isn't refused
pub may_go : (bad : Bool) (floor space : ℕ) → (bad && nat_lt floor space) ≡ false → floor < space → bad ≡ false
may_go true floor space e room = sym (lt-ltb floor space room) ∙ e
may_go false floor space e room = refl

-- where it is, both hold
pub is_bad : (bad : Bool) (floor space : ℕ) → (bad && nat_lt floor space) ≡ true → (bad ≡ true) × (floor < space)
is_bad true floor space e = (refl, ltb-true floor space e)
is_bad false floor space e = cc

-- ---- Line by line

-- a core plays a script from its lines up to this one on, with room for so many events of all its lines above the floor, and at most so few are wanted
pub record IsPlaying {C L : Type 0} (core : Ghosts C L) (old now : C) (items : List declared.Line) (i most few floor : ℕ) : Type 0 where
  pub opening : core.opening now ≡ core.opening old
  pub so_far : core.history old
      ++ script_events core.behaviour (core.hart_count old) (played core.behaviour (core.opening old) (core.history old)) (map line_of items)
      ≡ core.history now
      ++ script_events core.behaviour (core.hart_count old) (played core.behaviour (core.opening old) (core.history now)) (map line_of (drop i items))
  pub fault :
      fault_within core.behaviour (core.hart_count old) (played core.behaviour (core.opening old) (core.history old)) most few (map line_of items)
      ≡ fault_within core.behaviour (core.hart_count old) (played core.behaviour (core.opening old) (core.history now)) (core.space now - floor)
      ((core.space now - floor + few) - most) (map line_of (drop i items))
  pub wanted : most ≤ core.space now - floor + few
  pub longer : length (core.history old) ≤ length (core.history now)
  pub room : core.space now + length (core.history now) ≡ core.space old + length (core.history old)
  pub above : floor ≤ core.space now
  pub begins : floor + most ≡ core.space old
  pub harts : core.hart_count now ≡ core.hart_count old
  pub evictable : (line mask : ℕ) → core.evictable now line mask ↔ core.evictable old line mask

-- before the first line
pub playing : {C L : Type 0} (core : Ghosts C L) (old : C) (items : List declared.Line) (most few floor : ℕ) → floor + most ≡ core.space old →
    IsPlaying core old old items 0 most few floor
playing core old items most few floor begins =
    let b = core.behaviour in
    let m = played b (core.opening old) (core.history old) in
    let left : most ≡ core.space old - floor = omega (arith, begins) in
    let wanted : few ≡ (core.space old - floor + few) - most = omega (arith, begins) in
    record {
      opening = refl;
      so_far = refl;
      fault = ap₂ (λ (room wanted : ℕ). fault_within b (core.hart_count old) m room wanted (map line_of items)) left wanted;
      wanted = omega (arith, left);
      longer = omega arith;
      room = refl;
      above = omega (arith, begins);
      begins = begins;
      harts = refl;
      evictable = λ line mask. (λ h. h, λ h. h);
    }

-- the next line follows
module _ {C L : Type 0} (core : Ghosts C L) {old held : C} {items : List declared.Line} {i most few floor : ℕ}
    (inv : IsPlaying core old held items i most few floor)
    (shown : List declared.Line) (is : shown ≡ items) (d : declared.Line) (within : i < length shown) where
  abbrev b : Behaviour core.Meaning
  b = core.behaviour

  abbrev harts : ℕ
  harts = core.hart_count old

  abbrev opening : core.Meaning
  opening = core.opening old

  abbrev now : List Event
  now = core.history held

  abbrev left : ℕ
  left = core.space held - floor

  -- how many more are wanted at most
  abbrev wanted : ℕ
  wanted = (left + few) - most

  abbrev line : Line
  line = line_of (get_or shown i d)

  abbrev lines : List Line
  lines = map line_of (drop (i + 1) items)

  abbrev whole : List Event
  whole = script_events b harts (played b opening (core.history old)) (map line_of items)

  -- its events, and as the core makes them
  abbrev es : List Event
  es = line_events b harts (played b opening now) line.command

  abbrev there : List Event
  there = line_events b (core.hart_count held) (played b (core.opening held) now) line.command

  same : there ≡ es
  same = ap (λ (o : core.Meaning). line_events b (core.hart_count held) (played b o now) line.command) inv.opening
      ∙ ap (λ (n : ℕ). line_events b n (played b opening now) line.command) inv.harts

  -- whether it is a start by which no life may begin, and as the core finds that
  abbrev bad : Bool
  bad = is_refused b (played b opening now) line.command

  abbrev bad_there : Bool
  bad_there = is_refused b (played b (core.opening held) now) line.command

  found : bad ≡ bad_there
  found = ap (λ (o : core.Meaning). is_refused b (played b o now) line.command) (sym inv.opening)

  first : map line_of (drop i items) ≡ line ∷ lines
  first =
      ap (λ xs. map line_of (drop i xs)) (sym is) ∙ at_drop_more (map line_of) shown i d within
      ∙ ap (λ xs. line ∷ map line_of (drop (i + 1) xs)) is

  abbrev rest : List Event
  rest = script_events b harts (played b (played b opening now) es) lines

  -- what comes now, as the line is refused or isn't
  so_far : (refused : Bool) → bad ≡ refused → core.history old ++ whole ≡ now ++ (if refused then [] else es ++ rest)
  so_far refused e =
      inv.so_far ∙ ap (λ ls. now ++ script_events b harts (played b opening now) ls) first ∙ ap (λ t. now ++ (if t then [] else es ++ rest)) e

  ends_here : bad ≡ true → core.history old ++ whole ≡ now
  ends_here e = so_far true e ∙ append-nil now

  abbrev fault_by : (past refused over : Bool) → Option PlayFault
  fault_by past refused over =
      if past then Some (TooMany line.place) else if refused then Some (BadStart line.place) else if over then Some (PastFew line.place)
      else fault_within b harts (played b (played b opening now) es) (left - length es) (wanted - length es) lines

  fault_is : (past refused over : Bool) → nat_lt left (length es) ≡ past → bad ≡ refused → nat_lt wanted (length es) ≡ over →
      fault_within b harts (played b opening (core.history old)) most few (map line_of items) ≡ fault_by past refused over
  fault_is past refused over p r o =
      inv.fault ∙ ap (fault_within b harts (played b opening now) left wanted) first
      ∙ ap (λ t. fault_by t bad (nat_lt wanted (length es))) p ∙ ap (λ t. fault_by past t (nat_lt wanted (length es))) r ∙ ap (fault_by past refused) o

  -- no life may begin, and none of its events is made
  module _ (refused : bad_there ≡ true) (more : floor < core.space held) where
    pub bad_start : fault_within b harts (played b opening (core.history old)) most few (map line_of items) ≡ Some (BadStart line.place)
    bad_start =
        let one = refused_one b (played b opening now) harts line.command (found ∙ refused) in
        fault_is false true (nat_lt wanted (length es)) (le-ltb left (length es) (omega (arith, one, more))) (found ∙ refused) refl

    pub all_before : now ≡ core.history old ++ take most whole
    all_before =
        whole_of (core.history old) now whole most (ends_here (found ∙ refused)) (omega (arith, inv.room, inv.above, inv.begins))

    pub begun_before : now ≡ core.history old ++ take (core.space old - core.space held) whole
    begun_before =
        cut (core.history old) now whole [] (core.space old - core.space held) (ends_here (found ∙ refused) ∙ sym (append-nil now))
        (omega (arith, inv.room, inv.longer))

  module _ (new : List Event) (made : new ≡ now ++ take left there) where
    more : new ≡ now ++ take left es
    more = made ∙ ap (λ xs. now ++ take left xs) same

    -- where the line isn't refused, what is made and what is left are all
    parted : bad ≡ false → core.history old ++ whole ≡ new ++ (drop left es ++ rest)
    parted e =
        so_far false e ∙ ap (λ xs. now ++ (xs ++ rest)) (sym (split es left)) ∙ ap (λ xs. now ++ xs) (append_assoc (take left es) (drop left es) rest)
        ∙ sym (append_assoc now (take left es) (drop left es ++ rest)) ∙ ap (λ xs. xs ++ (drop left es ++ rest)) (sym more)

    -- all of it is made
    module _ (enough : nat_le (length there) left ≡ true) (goes : floor < core.space held → bad_there ≡ false) where
      all : nat_le (length es) left ≡ true
      all = ap (λ (xs : List Event). nat_le (length xs) left) (sym same) ∙ enough

      good : bad ≡ false
      good = by bad refl
        where
          by : (t : Bool) → bad ≡ t → t ≡ false
          by false e = refl
          by true e =
              let one = refused_one b (played b opening now) harts line.command e in
              let fits = leb-true (length es) left all in
              sym e ∙ found ∙ goes (omega (arith, one, fits))

      all_made : new ≡ now ++ es
      all_made = more ∙ ap (λ xs. now ++ xs) (take_all es left (leb-true _ _ all))

      meaning_after : played b (played b opening now) es ≡ played b opening new
      meaning_after = sym (played-append b opening now es) ∙ ap (played b opening) (sym all_made)

      line_made : core.history old ++ whole ≡ new ++ script_events b harts (played b opening new) lines
      line_made =
          so_far false good ∙ sym (append_assoc now es rest) ∙ ap (λ xs. xs ++ rest) (sym all_made)
          ∙ ap (λ m. new ++ script_events b harts m lines) meaning_after

      fits : nat_lt left (length es) ≡ false
      fits = le-ltb left (length es) (leb-true _ _ all)

      no_fault : (after : ℕ) → after + length es ≡ left → length es ≤ wanted →
          fault_within b harts (played b opening (core.history old)) most few (map line_of items)
          ≡ fault_within b harts (played b opening new) after ((after + few) - most) lines
      no_fault after room under =
          let e : left - length es ≡ after = omega (arith, room) in
          let w : wanted - length es ≡ (after + few) - most = omega (arith, room) in
          fault_is false false false fits good (le-ltb wanted (length es) under)
          ∙ ap₂ (λ (room wanted : ℕ). fault_within b harts (played b (played b opening now) es) room wanted lines) e w
          ∙ ap (λ m. fault_within b harts m after ((after + few) - most) lines) meaning_after

      pub goes_on : (next : C) → core.opening next ≡ core.opening held → core.history next ≡ new →
          core.space next + length (core.history next) ≡ core.space held + length now → floor ≤ core.space next →
          core.hart_count next ≡ core.hart_count held → ((line mask : ℕ) → core.evictable next line mask ↔ core.evictable held line mask) →
          most ≤ core.space next - floor + few → IsPlaying core old next items (i + 1) most few floor
      goes_on next opens is_new kept_room above kept_harts evicts under =
          let grown : length (core.history next) ≡ length now + length es = ap length (is_new ∙ all_made) ∙ length-append now es in
          let after : core.space next - floor + length es ≡ left = omega (arith, grown, kept_room, above, inv.above) in
          let within_few : length es ≤ wanted = omega (arith, after, under) in
          record {
            opening = opens ∙ inv.opening;
            so_far = line_made ∙ ap (λ xs. xs ++ script_events b harts (played b opening xs) lines) (sym is_new);
            fault = no_fault (core.space next - floor) after within_few
                ∙ ap (λ xs. fault_within b harts (played b opening xs) (core.space next - floor) ((core.space next - floor + few) - most) lines) (sym is_new);
            wanted = under;
            longer = omega (arith, grown, inv.longer);
            room = kept_room ∙ inv.room;
            above = above;
            begins = inv.begins;
            harts = kept_harts ∙ inv.harts;
            evictable = λ line mask. (
              (λ h. (inv.evictable line mask).0 ((evicts line mask).0 h)),
              (λ h. (evicts line mask).1 ((inv.evictable line mask).1 h)),
            );
          }

      -- but with its events there are more than are wanted
      pub past_few : (space : ℕ) → space + length new ≡ core.space held + length now → space - floor + few < most →
          fault_within b harts (played b opening (core.history old)) most few (map line_of items) ≡ Some (PastFew line.place)
      past_few space kept_room over =
          let grown : length new ≡ length now + length es = ap length all_made ∙ length-append now es in
          fault_is false false true fits good (lt-ltb wanted (length es) (omega (arith, grown, kept_room, over, inv.wanted)))

    -- there is no room for all of them
    module _ (few_left : nat_le (length there) left ≡ false) where
      below : left < length es
      below = leb-false _ _ (ap (λ (xs : List Event). nat_le (length xs) left) (sym same) ∙ few_left)

      pub past_room : fault_within b harts (played b opening (core.history old)) most few (map line_of items) ≡ Some (TooMany line.place)
      past_room = fault_is true bad (nat_lt wanted (length es)) (lt-ltb left (length es) below) refl refl

      pub excess_left : new ≡ core.history old ++ take most whole
      excess_left = by bad refl
        where
          size : length new ≡ length (core.history old) + most
          size =
              ap length more ∙ length-append now (take left es) ∙ ap (λ n. length now + n) (length-take es left (omega (arith, below)))
              ∙ omega (arith, inv.room, inv.above, inv.begins)

          by : (t : Bool) → bad ≡ t → new ≡ core.history old ++ take most whole
          by false e = cut (core.history old) new whole (drop left es ++ rest) most (parted e) size
          by true e =
              let one = refused_one b (played b opening now) harts line.command e in
              let none : left ≡ 0 = omega (arith, one, below) in
              let still : new ≡ now = more ∙ ap (λ xs. now ++ xs) (none_taken es left none) ∙ append-nil now in
              whole_of (core.history old) new whole most (ends_here e ∙ sym still) (omega (arith, size))

    -- only first ones of the script's events are made, wherever the line ended
    pub begun : (space : ℕ) → space + length new ≡ core.space held + length now → (floor < core.space held → bad_there ≡ false) →
        new ≡ core.history old ++ take (core.space old - space) whole
    begun space kept_room goes = by bad refl
      where
        grown : length now ≤ length new
        grown = let sum = ap length more ∙ length-append now (take left es) in omega (arith, sum)

        size : length new ≡ length (core.history old) + (core.space old - space)
        size = omega (arith, kept_room, inv.room, inv.longer, grown)

        no_room : bad ≡ true → (t : Bool) → nat_lt floor (core.space held) ≡ t → left ≡ 0
        no_room e true room = absurd (cc (sym e ∙ found ∙ goes (ltb-true floor (core.space held) room)))
        no_room e false room = let past = ltb-false floor (core.space held) room in omega (arith, past)

        by : (t : Bool) → bad ≡ t → new ≡ core.history old ++ take (core.space old - space) whole
        by false e = cut (core.history old) new whole (drop left es ++ rest) (core.space old - space) (parted e) size
        by true e =
            let none : left ≡ 0 = no_room e (nat_lt floor (core.space held)) refl in
            let still : new ≡ now = more ∙ ap (λ xs. now ++ xs) (none_taken es left none) ∙ append-nil now in
            cut (core.history old) new whole [] (core.space old - space) (ends_here e ∙ sym still ∙ sym (append-nil new)) size

-- no line is left
module _ {C L : Type 0} (core : Ghosts C L) {old held : C} {items : List declared.Line} {i most few floor : ℕ}
    (inv : IsPlaying core old held items i most few floor) (shown : List declared.Line) (is : shown ≡ items) (past : length shown ≤ i) where
  abbrev of_script : List Event
  of_script = script_events core.behaviour (core.hart_count old) (played core.behaviour (core.opening old) (core.history old)) (map line_of items)

  pub made_all : core.history held ≡ core.history old ++ of_script
  made_all =
      let now = core.history held in
      let m = played core.behaviour (core.opening old) now in
      sym (inv.so_far ∙ ap (λ ls. now ++ script_events core.behaviour (core.hart_count old) m ls) (nothing_left shown items i is past) ∙ append-nil now)

  pub plays_all : core.history held ≡ core.history old ++ take most of_script
  plays_all = whole_of (core.history old) (core.history held) of_script most (sym made_all) (omega (arith, inv.room, inv.above, inv.begins))

  pub few_made : length of_script ≤ few
  few_made =
      let sum = ap length made_all ∙ length-append (core.history old) of_script in
      omega (arith, sum, inv.room, inv.above, inv.begins, inv.wanted)

  pub none_found :
      fault_within core.behaviour (core.hart_count old) (played core.behaviour (core.opening old) (core.history old)) most few (map line_of items) ≡ None
  none_found =
      let m = played core.behaviour (core.opening old) (core.history held) in
      inv.fault
      ∙ ap (fault_within core.behaviour (core.hart_count old) m (core.space held - floor) ((core.space held - floor + few) - most))
      (nothing_left shown items i is past)

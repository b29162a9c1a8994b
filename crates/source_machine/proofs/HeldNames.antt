-- What a thread holds, by the names of its locks.
use Rattle.std.proofs.Common.{◌≡◌, ◌≢◌, refl, ℕ, zero, suc, ◌<◌, List, [], ◌∷◌, length, sym, ◌∙◌, ap, subst, arith, ⊎_elim}
use Rattle.std.proofs.Common.{Bool, true, false, Option, Some, None, slice_set, replicate, length-set, ext_get_or}
use Rattle.std.specs.Prelude.{slice_get, ℤ}
use Rattle.std.proofs.lemmas.Bool.{cases_eq}
use Rattle.std.proofs.lemmas.List.{get_or-set_same, get_or-set_other, length-map}
use Rattle.std.proofs.lemmas.Option.{slice_get_within, get_or_from_slice_get}
use Rattle.ido_base.specs.Locks.{is_held_by}
use Rattle.ido_ints.specs.Reduction.{reduced}
use Rattle.c_tree.specs.Exprs as e
use Rattle.c_tree.specs.Programs.{Variable, Guard, By, Each}
use Rattle.c_tree.specs.Values.{lock_number}
use Rattle.c_tree.specs.Flats as f
use Rattle.c_tree.specs.Source as m
use Rattle.c_tree.specs.LockNames.{Held, holds, none_held, number_in, plain_names}
use Rattle.c_tree.specs.LockDiscipline.{Use, IsFree, variable_guard, name_under, is_guarded, Keeps, KeepAll}
use Rattle.c_tree.specs.LockDiscipline as l
use Rattle.c_tree.proofs.Public.{number_found, same_number, same_index, index_element, held_number_stays, plain_at}
use Rattle.source_machine.specs.ElementLocks.{lock_under, element_lock}
use Rattle.source_machine.specs.Mutexes.{held_by}
use Rattle.source_machine.specs.Discipline.{KeepList, IsOfName, HoldsNames}
use Rattle.source_machine.proofs.Emission.{set_same, set_other}
use Rattle.source_machine.proofs.GuardedValues.{held_found, held_there}

-- ---- Sets speak of as many names all the way

module _ (vs : List Variable) (names : List e.LockName) where
  mutual
    keeps_length : {h after : Held} {s : f.Statement} → Keeps vs names h s after → length after ≡ length h
    keeps_length (l.assign place target value g free) = refl
    keeps_length (l.choose place arms otherwise p q) = keep_all_length q
    keeps_length (l.repeat place condition body g p) = refl
    keeps_length (l.again place body condition p g) = refl
    keeps_length (l.lock {h = h} place name free) = length-set h (number_in names name) true
    keeps_length (l.unlock {h = h} place name held) = length-set h (number_in names name) false

    keep_all_length : {h after : Held} {ss : f.Statements} → KeepAll vs names h ss after → length after ≡ length h
    keep_all_length l.no_more = refl
    keep_all_length (l.then x rest p q) = keep_all_length q ∙ keeps_length p

  pub keep_list_length : (left : List f.Statement) (h after : Held) → KeepList vs names h left after → length h ≡ length after
  keep_list_length [] h after k = ap length k
  keep_list_length (x ∷ rest) h after k = sym (keeps_length k.1) ∙ keep_list_length rest k.0 after k.2

-- ---- Names in a set

pub holds_within : (h : Held) (n : ℕ) → holds h n ≡ true → n < length h
holds_within [] n g = cc
holds_within (b ∷ h) zero g = omega arith
holds_within (b ∷ h) (suc n) g = let low = holds_within h n g in omega (arith, low)

none_holds : (n k : ℕ) → holds (none_held n) k ≡ false
none_holds zero k = refl
none_holds (suc n) zero = refl
none_holds (suc n) (suc k) = none_holds n k

free_holds : (n k t : ℕ) → slice_get (replicate n None) k ≡ Some (Some t) → ⊥
free_holds zero k t g = cc
free_holds (suc n) zero t g = cc
free_holds (suc n) (suc k) t g = free_holds n k t g

module _ (names : List e.LockName) (h : Held) (ls : List ℤ) (hs : List (Option ℕ)) (t : ℕ) (p : HoldsNames names h ls hs t) where
  -- the lock of a name that is in the set is the thread's
  pub name_held : (x : e.LockName) → length h ≡ length names → holds h (number_in names x) ≡ true → slice_get hs (lock_number ls x) ≡ Some (Some t)
  name_held x long g =
      let low : number_in names x < length names = omega (arith, holds_within h (number_in names x) g, long) in
      let r = number_found names x low in
      ap (slice_get hs) (same_number ls x r.name r.same) ∙ p.all (number_in names x) r.name r.there g

  -- where no held name's lock moves
  pub names_moved : (to : List ℤ) → ((k : ℕ) (x : e.LockName) → slice_get names k ≡ Some x → holds h k ≡ true → lock_number to x ≡ lock_number ls x) →
      HoldsNames names h to hs t
  names_moved to same = record {
    all = λ k x g y. ap (slice_get hs) (same k x g y) ∙ p.all k x g y;
    only = λ lock g.
        let r = p.only lock g in
        record { number = r.number; name = r.name; there = r.there; held = r.held; is = same r.number r.name r.there r.held ∙ r.is };
    apart = λ one other x y a b c d is. p.apart one other x y a b c d (sym (same one x a c) ∙ (is ∙ same other y b d));
  }

  -- where the thread holds the same locks
  pub holders_moved : (to : List (Option ℕ)) → held_by t to ≡ held_by t hs → HoldsNames names h ls to t
  holders_moved to same = record {
    all = λ k x g y.
        let lock = lock_number ls x in
        held_found t to lock (ap (λ (z : Held). holds z lock) same ∙ held_there t hs lock (p.all k x g y));
    only = λ lock g. p.only lock (held_found t hs lock (ap (λ (z : Held). holds z lock) (sym same) ∙ held_there t to lock g));
    apart = p.apart;
  }

  module _ (x : e.LockName) (long : length h ≡ length names) where
    abbrev n : ℕ
    n = number_in names x

    abbrev lock : ℕ
    lock = lock_number ls x

    -- what stands at the number of the name has its lock
    lock_is : n < length names → (y : e.LockName) → slice_get names n ≡ Some y → lock_number ls y ≡ lock
    lock_is low y g =
        let r = number_found names x low in
        let one : r.name ≡ y = (let both : Some r.name ≡ Some y = sym r.there ∙ g in cc) in
        sym (same_number ls x r.name r.same ∙ ap (lock_number ls) one)

    -- a free lock is taken by a name that isn't in the set
    pub names_taken : slice_get h n ≡ Some false → slice_get hs lock ≡ Some None → HoldsNames names (slice_set h n true) ls (slice_set hs lock (Some t)) t
    names_taken unheld free = record { all = all; only = only; apart = apart }
      where
        within : n < length h
        within = slice_get_within h n false unheld

        low : n < length names
        low = omega (arith, within, long)

        room : lock < length hs
        room = slice_get_within hs lock None free

        own : holds (slice_set h n true) n ≡ true
        own = get_or-set_same h n true false within

        before : (k : ℕ) → k ≢ n → holds (slice_set h n true) k ≡ true → holds h k ≡ true
        before k d g = sym (get_or-set_other h n k true false d) ∙ g

        other_lock : (k : ℕ) (y : e.LockName) → slice_get names k ≡ Some y → holds h k ≡ true → lock_number ls y ≢ lock
        other_lock k y g held is =
            let taken : slice_get hs lock ≡ Some (Some t) = ap (slice_get hs) (sym is) ∙ p.all k y g held in
            let no : Some None ≡ Some (Some t) = sym free ∙ taken in
            cc

        mine : (k : ℕ) (y : e.LockName) → slice_get names k ≡ Some y → k ≡ n → lock_number ls y ≡ lock
        mine k y g is = lock_is low y (ap (slice_get names) (sym is) ∙ g)

        all : (k : ℕ) (y : e.LockName) → slice_get names k ≡ Some y → holds (slice_set h n true) k ≡ true →
            slice_get (slice_set hs lock (Some t)) (lock_number ls y) ≡ Some (Some t)
        all k y g held = ⊎_elim
            (λ is. ap (slice_get (slice_set hs lock (Some t))) (mine k y g is) ∙ set_same hs lock (Some t) room)
            (λ d. set_other hs lock (lock_number ls y) (Some t) (other_lock k y g (before k d held)) ∙ p.all k y g (before k d held))
            (cases_eq k n)

        only : (m : ℕ) → slice_get (slice_set hs lock (Some t)) m ≡ Some (Some t) → IsOfName names (slice_set h n true) ls m
        only m g = ⊎_elim
            (λ is.
            let r = number_found names x low in
            record { number = n; name = r.name; there = r.there; held = own; is = lock_is low r.name r.there ∙ sym is })
            (λ d.
            let r = p.only m (sym (set_other hs lock m (Some t) d) ∙ g) in
            let apart_of : r.number ≢ n = λ is.
            let no : true ≡ false = sym r.held ∙ (ap (holds h) is ∙ get_or_from_slice_get h n false false unheld) in
            cc in
            record { number = r.number; name = r.name; there = r.there; held = get_or-set_other h n r.number true false apart_of ∙ r.held; is = r.is })
            (cases_eq m lock)

        apart : (one other : ℕ) (y z : e.LockName) → slice_get names one ≡ Some y → slice_get names other ≡ Some z → holds (slice_set h n true) one ≡ true →
            holds (slice_set h n true) other ≡ true → lock_number ls y ≡ lock_number ls z → one ≡ other
        apart one other y z a b c d is = ⊎_elim
            (λ i. ⊎_elim
            (λ j. i ∙ sym j)
            (λ k. absurd (other_lock other z b (before other k d) (sym is ∙ mine one y a i)))
            (cases_eq other n))
            (λ i. ⊎_elim
            (λ j. absurd (other_lock one y a (before one i c) (is ∙ mine other z b j)))
            (λ k. p.apart one other y z a b (before one i c) (before other k d) is)
            (cases_eq other n))
            (cases_eq one n)

    -- a lock is given back by a name in the set
    pub names_given : holds h n ≡ true → HoldsNames names (slice_set h n false) ls (slice_set hs lock None) t
    names_given held = record { all = all; only = only; apart = apart }
      where
        within : n < length h
        within = holds_within h n held

        low : n < length names
        low = omega (arith, within, long)

        room : lock < length hs
        room = slice_get_within hs lock (Some t) (name_held x long held)

        not_it : (k : ℕ) → holds (slice_set h n false) k ≡ true → k ≢ n
        not_it k g is =
            let no : true ≡ false = sym g ∙ (ap (holds (slice_set h n false)) is ∙ get_or-set_same h n false false within) in
            cc

        before : (k : ℕ) → holds (slice_set h n false) k ≡ true → holds h k ≡ true
        before k g = sym (get_or-set_other h n k false false (not_it k g)) ∙ g

        all : (k : ℕ) (y : e.LockName) → slice_get names k ≡ Some y → holds (slice_set h n false) k ≡ true →
            slice_get (slice_set hs lock None) (lock_number ls y) ≡ Some (Some t)
        all k y g kept =
            let r = number_found names x low in
            let d : lock_number ls y ≢ lock = λ is.
            not_it k kept (p.apart k n y r.name g r.there (before k kept) held (is ∙ same_number ls x r.name r.same)) in
            set_other hs lock (lock_number ls y) None d ∙ p.all k y g (before k kept)

        only : (m : ℕ) → slice_get (slice_set hs lock None) m ≡ Some (Some t) → IsOfName names (slice_set h n false) ls m
        only m g =
            let d : m ≢ lock = λ is.
            let none : slice_get (slice_set hs lock None) m ≡ Some None = ap (slice_get (slice_set hs lock None)) is ∙ set_same hs lock None room in
            let no : Some None ≡ Some (Some t) = sym none ∙ g in
            cc in
            let r = p.only m (sym (set_other hs lock m None d) ∙ g) in
            let apart_of : r.number ≢ n = λ is. d (sym r.is ∙ lock_is low r.name (ap (slice_get names) (sym is) ∙ r.there)) in
            record { number = r.number; name = r.name; there = r.there; held = get_or-set_other h n r.number false false apart_of ∙ r.held; is = r.is }

        apart : (one other : ℕ) (y z : e.LockName) → slice_get names one ≡ Some y → slice_get names other ≡ Some z → holds (slice_set h n false) one ≡ true →
            holds (slice_set h n false) other ≡ true → lock_number ls y ≡ lock_number ls z → one ≡ other
        apart one other y z a b c d is = p.apart one other y z a b (before one c) (before other d) is

  -- an assignment moves no lock that is held
  pub names_assigned : (s : m.State) (thread : m.Thread) (target : e.Lvalue) (value : e.Expr) → thread.locals ≡ ls → IsFree names h target →
      HoldsNames names h (m.evaluated s thread target value).locals hs t
  names_assigned s thread (e.ToLocal place local kind) value own free =
      let n = reduced kind (m.value_in s thread value).number in
      names_moved (slice_set thread.locals local n)
      (λ k x g y. ap (λ (from : List ℤ). lock_number (slice_set from local n) x) own ∙ held_number_stays names h ls local n k x free g y)
  names_assigned s thread (e.ToVariable place variable kind) value own free = subst (λ (from : List ℤ). HoldsNames names h from hs t) (sym own) p
  names_assigned s thread (e.ToElement place variable kind index) value own free = subst (λ (from : List ℤ). HoldsNames names h from hs t) (sym own) p

-- with nothing held, where all is free
pub names_none : (names : List e.LockName) (ls : List ℤ) (n t : ℕ) → HoldsNames names (none_held (length names)) ls (replicate n None) t
names_none names ls n t = record {
  all = λ k x g held. let no : true ≡ false = sym held ∙ none_holds (length names) k in cc;
  only = λ lock g. absurd (free_holds n lock t g);
  apart = λ one other x y a b c d is. let no : true ≡ false = sym c ∙ none_holds (length names) one in cc;
}

-- ---- Where no mutex is in an array

some_name : (a b : e.LockName) → Some a ≡ Some b → a ≡ b
some_name a b h = cc

-- a set of names is what the holders say
pub plain_holds_are : (count : ℕ) (h : Held) (ls : List ℤ) (hs : List (Option ℕ)) (t : ℕ) → length h ≡ count → length hs ≡ count →
    HoldsNames (plain_names count) h ls hs t → h ≡ held_by t hs
plain_holds_are count h ls hs t long room p = ext_get_or false h (held_by t hs) (long ∙ sym (length-map hs (is_held_by t) ∙ room)) each
  where
    holds_here : (b : Bool) (k : ℕ) → k < count → holds h k ≡ b → b ≡ holds (held_by t hs) k
    holds_here true k low e = sym (held_there t hs k (p.all k (record { mutex = k; key = None }) (plain_at count k low) e))
    holds_here false k low e = unheld (holds (held_by t hs) k) refl
      where
        unheld : (c : Bool) → holds (held_by t hs) k ≡ c → false ≡ c
        unheld false g = refl
        unheld true g =
            let r = p.only k (held_found t hs k g) in
            let there : r.number < count = omega (arith, holds_within h r.number r.held, long) in
            let name : r.name ≡ record { mutex = r.number; key = None } = some_name _ _ (sym r.there ∙ plain_at count r.number there) in
            let same : r.number ≡ k = sym (ap (lock_number ls) name) ∙ r.is in
            let no : true ≡ false = sym r.held ∙ (ap (holds h) same ∙ e) in
            cc

    each : (k : ℕ) → k < length h → holds h k ≡ holds (held_by t hs) k
    each k low = holds_here (holds h k) k (omega (arith, low, long)) refl

-- what the holders say is a set of names
pub plain_holds : (count : ℕ) (ls : List ℤ) (hs : List (Option ℕ)) (t : ℕ) → length hs ≡ count → HoldsNames (plain_names count) (held_by t hs) ls hs t
plain_holds count ls hs t room = record {
  all = λ k x g held.
      let low : k < count = omega (arith, holds_within (held_by t hs) k held, length-map hs (is_held_by t), room) in
      let name : x ≡ record { mutex = k; key = None } = some_name _ _ (sym g ∙ plain_at count k low) in
      ap (slice_get hs) (ap (lock_number ls) name) ∙ held_found t hs k held;
  only = λ lock g.
      let low : lock < count = omega (arith, slice_get_within hs lock (Some t) g, room) in
      record { number = lock; name = record { mutex = lock; key = None }; there = plain_at count lock low; held = held_there t hs lock g; is = refl };
  apart = λ one other x y a b c d is.
      let low : one < count = omega (arith, holds_within (held_by t hs) one c, length-map hs (is_held_by t), room) in
      let high : other < count = omega (arith, holds_within (held_by t hs) other d, length-map hs (is_held_by t), room) in
      let first : x ≡ record { mutex = one; key = None } = some_name _ _ (sym a ∙ plain_at count one low) in
      let second : y ≡ record { mutex = other; key = None } = some_name _ _ (sym b ∙ plain_at count other high) in
      sym (ap (lock_number ls) first) ∙ (is ∙ ap (lock_number ls) second);
}

-- ---- Guards

module _ (names : List e.LockName) (h : Held) (ls : List ℤ) (hs : List (Option ℕ)) (t : ℕ) (p : HoldsNames names h ls hs t) (long : length h ≡ length names)
    (numbers : List (List ℤ)) where
  under_guard : (guard : Guard) (index : Option e.Placed) → holds h (number_in names (name_under guard index)) ≡ true →
      slice_get hs (lock_under guard (index_element ls numbers index)) ≡ Some (Some t)
  under_guard (By mutex) index g = name_held names h ls hs t p (record { mutex = mutex; key = None }) long g
  under_guard (Each first) index g =
      let x : e.LockName = record { mutex = first; key = index } in
      let low : number_in names x < length names = omega (arith, holds_within h (number_in names x) g, long) in
      let r = number_found names x low in
      ap (slice_get hs) (same_index ls numbers first index r.name r.same) ∙ p.all (number_in names x) r.name r.there g

  -- a set that has the name of a use's guard has the lock of the element that is used, whatever numbers variables have: only here is it known which lock that
  -- is
  pub guards_each : (vs : List Variable) (u : Use) → is_guarded vs names h u ≡ true →
      slice_get hs (element_lock vs u.variable (index_element ls numbers u.index)) ≡ Some (Some t)
  unfolding element_lock
  guards_each vs u g = under_guard (variable_guard vs u.variable) u.index g

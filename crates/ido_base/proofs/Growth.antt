-- How words change between crashes, and what stays.
use Rattle.std.proofs.Common.{◌≡◌, ◌≢◌, ◌⊎◌, inl, inr, ℕ, zero, suc, ◌+◌, ◌-◌, ◌*◌, ◌/◌, ◌%◌, ◌<◌, ◌≤◌, max, List, [], ◌∷◌}
use Rattle.std.proofs.Common.{◌++◌, length, refl, ap, arith, sym, ◌∙◌, subst, take, drop, get_or, set, eqb, cond, add-zero}
use Rattle.std.proofs.lemmas.Bool.{cases_lt, cases_eq, cond_both}
use Rattle.std.proofs.lemmas.List.{get_or-set_same, get_or-set_other, get_or-map, get_or-take, get_or-drop, length-take-le, length-map, length-drop, set_past}
use Rattle.std.proofs.Math.ListN.{length-set, length-append}
use Rattle.ido_base.specs.Words.{Word, Entry, word_of, word_at, last_position, with_value, written_back, part}
use Rattle.ido_base.specs.Words.{with_part, live_value, stored, entry_of, persisted, drained, evicted_from, evicted}
use Rattle.ido_base.specs.Growth.{IsPersisted, ArePersisted, IsChanged, AreChanged, drained_all, PersistsThrough, IsEntry, AreEntries}
use Rattle.ido_base.specs.Growth.{EvictionsRaise, WriteBacksRaise, StoresChange, StableStays, EntriesStay, ReachStays, CleansReach}

-- ---- One word

pub persisted_refl : (w : Word) → IsPersisted w w
persisted_refl w = record { values = refl; no_lower = omega arith; no_higher = λ h. h }

pub same_last : (u v : Word) → IsPersisted u v → last_position v ≡ last_position u
same_last u v a = ap (λ (xs : List ℕ). length xs - 1) a.values

pub persisted_trans : (u v w : Word) → IsPersisted u v → IsPersisted v w → IsPersisted u w
persisted_trans u v w a b =
    let same : last_position v ≡ last_position u = same_last u v a in
    record {
      values = b.values ∙ a.values;
      no_lower = omega (arith, a.no_lower, b.no_lower);
      no_higher = λ h. omega (arith, same, b.no_higher (omega (arith, same, a.no_higher h)));
    }

pub written_back_persisted : (w : Word) (position : ℕ) → position ≤ last_position w → IsPersisted w (written_back w position)
written_back_persisted w position h = record { values = refl; no_lower = omega arith; no_higher = λ d. omega (arith, h, d) }

pub last_later : (u v : Word) → IsChanged u v → last_position u ≤ last_position v
last_later u v (inl r) = omega (arith, same_last u v r)
last_later u v (inr a) =
    let longer : length v.values ≡ length u.values + 1 = ap (λ (w : Word). length w.values) a.1 ∙ length-append u.values (a.0 ∷ []) in
    omega (arith, longer)

pub durable_later : (u v : Word) → IsChanged u v → u.durable ≤ v.durable
durable_later u v (inl r) = r.no_lower
durable_later u v (inr a) = let same : v.durable ≡ u.durable = ap (λ (w : Word). w.durable) a.1 in omega (arith, same)

pub stable_stays : StableStays
stable_stays old new byte count value r stable p from below =
    let longer : length new.values ≡ length old.values = ap (λ (xs : List ℕ). length xs) r.values in
    let same : part_at new p ≡ part_at old p = ap (λ (xs : List ℕ). get_or xs p 0) r.values in
    ap (λ (n : ℕ). part n byte count) same ∙ stable p (omega (arith, from, r.no_lower)) (omega (arith, below, longer))
  where
    part_at : Word → ℕ → ℕ
    part_at w p = get_or w.values p 0

-- ---- One word of many

pub word_same : (ws : List Word) (i : ℕ) (w : Word) → i < length ws → word_at (set ws i w) i ≡ w
word_same ws i w h = get_or-set_same ws i w (word_of 0) h

pub word_other : (ws : List Word) (i j : ℕ) (w : Word) → j ≢ i → word_at (set ws i w) j ≡ word_at ws j
word_other ws i j w h = get_or-set_other ws i j w (word_of 0) h

-- what holds of a word and what is set in its place, and of a word and itself, holds of each word
pub each_by_set : (P : Word → Word → Type 0) (ws : List Word) (i : ℕ) (w : Word) → ((u : Word) → P u u) → P (word_at ws i) w → (j : ℕ) →
    P (word_at ws j) (word_at (set ws i w) j)
each_by_set P ws i w same there j = elim (cases_eq j i) [
  | inl is ↦ elim (cases_lt i (length ws)) [
    | inl inside ↦ subst (λ (k : ℕ). P (word_at ws k) (word_at (set ws i w) k)) (sym is)
        (subst (λ (v : Word). P (word_at ws i) v) (sym (word_same ws i w inside)) there)
    | inr past ↦ subst (λ (vs : List Word). P (word_at ws j) (word_at vs j)) (sym (set_past ws i w past)) (same (word_at ws j))
  ]
  | inr other ↦ subst (λ (v : Word). P (word_at ws j) v) (sym (word_other ws i j w other)) (same (word_at ws j))
]

pub are_persisted_refl : (ws : List Word) → ArePersisted ws ws
are_persisted_refl ws = record { size = refl; each = λ j. persisted_refl (word_at ws j) }

pub are_persisted_trans : (us vs ws : List Word) → ArePersisted us vs → ArePersisted vs ws → ArePersisted us ws
are_persisted_trans us vs ws a b =
    record { size = b.size ∙ a.size; each = λ j. persisted_trans (word_at us j) (word_at vs j) (word_at ws j) (a.each j) (b.each j) }

pub changed_by_persisted : (us vs : List Word) → ArePersisted us vs → AreChanged us vs
changed_by_persisted us vs a = record { size = a.size; each = λ j. inl (a.each j) }

pub changed_refl : (ws : List Word) → AreChanged ws ws
changed_refl ws = changed_by_persisted ws ws (are_persisted_refl ws)

pub stores_change : StoresChange
stores_change words number count value =
    let i = number / 8 in
    let n = with_part (live_value (word_at words i)) (number % 8) count value in
    record {
      size = length-set words i (with_value (word_at words i) n);
      each = each_by_set IsChanged words i (with_value (word_at words i) n) (λ u. inl (persisted_refl u)) (inr (n, refl));
    }

-- ---- Evictions

one_persisted : (words : List Word) (at position : ℕ) → position ≤ last_position (word_at words at) →
    ArePersisted words (set words at (written_back (word_at words at) position))
one_persisted words at position h = record {
  size = length-set words at (written_back (word_at words at) position);
  each = each_by_set IsPersisted words at (written_back (word_at words at) position) persisted_refl (written_back_persisted (word_at words at) position h);
}

evicted_at : List Word → (at mask : ℕ) → List Word
evicted_at words at mask = cond (eqb (mask % 2) 1) (set words at (written_back (word_at words at) (last_position (word_at words at)))) words

evicted_at_persisted : (words : List Word) (at mask : ℕ) → ArePersisted words (evicted_at words at mask)
unfolding evicted_at
evicted_at_persisted words at mask =
    cond_both (eqb (mask % 2) 1) (set words at (written_back (word_at words at) (last_position (word_at words at)))) words
    (λ (ws : List Word). ArePersisted words ws)
    (λ _. one_persisted words at (last_position (word_at words at)) (omega arith)) (λ _. are_persisted_refl words)

evicted_from_persisted : (words : List Word) (at mask count : ℕ) → ArePersisted words (evicted_from words at mask count)
unfolding evicted_at
evicted_from_persisted words at mask zero = are_persisted_refl words
evicted_from_persisted words at mask (suc count) =
    are_persisted_trans words (evicted_at words at mask) _ (evicted_at_persisted words at mask)
    (evicted_from_persisted (evicted_at words at mask) (at + 1) (mask / 2) count)

pub evictions_raise : EvictionsRaise
evictions_raise words line mask = evicted_from_persisted words (8 * line) mask 8

-- ---- Write-backs

pub length-persisted : (ws : List Word) (at : ℕ) (ps : List ℕ) → length (persisted ws at ps) ≡ length ws
length-persisted ws at [] = refl
length-persisted ws at (p ∷ ps) = length-persisted (set ws at (written_back (word_at ws at) p)) (at + 1) ps ∙ length-set ws at (written_back (word_at ws at) p)

-- positions that the words from `at` on have
are_positions : List Word → (at : ℕ) → List ℕ → Type 0
are_positions words at ps = (k : ℕ) → k < length ps → get_or ps k 0 ≤ last_position (word_at words (at + k))

persisted_persisted : (ws : List Word) (at : ℕ) (ps : List ℕ) → are_positions ws at ps → ArePersisted ws (persisted ws at ps)
unfolding are_positions
persisted_persisted ws at [] within = are_persisted_refl ws
persisted_persisted ws at (p ∷ ps) within =
    let zeroth : p ≤ last_position (word_at ws (at + 0)) = within 0 (omega arith) in
    let first : p ≤ last_position (word_at ws at) = subst (λ (i : ℕ). p ≤ last_position (word_at ws i)) (add-zero at) zeroth in
    let one : ArePersisted ws (set ws at (written_back (word_at ws at) p)) = one_persisted ws at p first in
    are_persisted_trans ws (set ws at (written_back (word_at ws at) p)) (persisted ws at (p ∷ ps)) one
    (persisted_persisted (set ws at (written_back (word_at ws at) p)) (at + 1) ps (λ k below.
    let e : at + 1 + k ≡ at + suc k = omega arith in
    let same : last_position (word_at (set ws at (written_back (word_at ws at) p)) (at + 1 + k)) ≡ last_position (word_at ws (at + 1 + k)) =
    same_last _ _ (one.each (at + 1 + k)) in
    let later : get_or ps k 0 ≤ last_position (word_at ws (at + suc k)) = within (suc k) (omega (arith, below)) in
    let later' : get_or ps k 0 ≤ last_position (word_at ws (at + 1 + k)) = subst (λ (i : ℕ). get_or ps k 0 ≤ last_position (word_at ws i)) (sym e) later in
    omega (arith, later', same)))

pub write_backs_raise : WriteBacksRaise
unfolding are_positions
write_backs_raise words e i = persisted_persisted words (8 * e.line) e.positions (λ k below. i.within k (omega (arith, below, i.eight)))

-- ---- Entries

pub entry_stays : (old new : List Word) (e : Entry) → AreChanged old new → IsEntry old e → IsEntry new e
entry_stays old new e c i = record {
  eight = i.eight;
  line = omega (arith, i.line, c.size);
  within = λ k below. omega (arith, i.within k below, last_later (word_at old (8 * e.line + k)) (word_at new (8 * e.line + k)) (c.each (8 * e.line + k)));
}

pub entries_stay : EntriesStay
entries_stay old new [] c h = tt
entries_stay old new (e ∷ es) c h = (entry_stays old new e c h.0, entries_stay old new es c h.1)

pub entries_append : (words : List Word) (queue : List Entry) (e : Entry) → AreEntries words queue → IsEntry words e → AreEntries words (queue ++ e ∷ [])
entries_append words [] e h i = (i, tt)
entries_append words (f ∷ fs) e h i = (h.0, entries_append words fs e h.1 i)

-- ---- How far a queue reaches

-- as many words, and none of them durable as of an earlier position
pub record NoLower (old new : List Word) : Type 0 where
  pub size : length new ≡ length old
  pub each : (j : ℕ) → (word_at old j).durable ≤ (word_at new j).durable

no_lower_trans : (us vs ws : List Word) → NoLower us vs → NoLower vs ws → NoLower us ws
no_lower_trans us vs ws a b = record { size = b.size ∙ a.size; each = λ j. omega (arith, a.each j, b.each j) }

no_lower_persisted_at : (old new : List Word) (at p : ℕ) → NoLower old new →
    NoLower (set old at (written_back (word_at old at) p)) (set new at (written_back (word_at new at) p))
no_lower_persisted_at old new at p n = record {
  size = length-set new at (written_back (word_at new at) p) ∙ n.size ∙ sym (length-set old at (written_back (word_at old at) p));
  each = λ j. elim (cases_eq j at) [
    | inl is ↦ elim (cases_lt at (length old)) [
      | inl inside ↦
          let a : (word_at (set old at (written_back (word_at old at) p)) at).durable ≡ max (word_at old at).durable p =
          ap (λ (w : Word). w.durable) (word_same old at (written_back (word_at old at) p) inside) in
          let b : (word_at (set new at (written_back (word_at new at) p)) at).durable ≡ max (word_at new at).durable p =
          ap (λ (w : Word). w.durable) (word_same new at (written_back (word_at new at) p) (omega (arith, inside, n.size))) in
          let le : (word_at (set old at (written_back (word_at old at) p)) at).durable ≤ (word_at (set new at (written_back (word_at new at) p)) at).durable =
          omega (arith, a, b, n.each at) in
          subst (λ (k : ℕ). (word_at (set old at (written_back (word_at old at) p)) k).durable
          ≤ (word_at (set new at (written_back (word_at new at) p)) k).durable) (sym is) le
      | inr past ↦
          let a : set old at (written_back (word_at old at) p) ≡ old = set_past old at (written_back (word_at old at) p) past in
          let b : set new at (written_back (word_at new at) p) ≡ new = set_past new at (written_back (word_at new at) p) (omega (arith, past, n.size)) in
          let c : (word_at (set old at (written_back (word_at old at) p)) j).durable ≡ (word_at old j).durable =
          ap (λ (ws : List Word). (word_at ws j).durable) a in
          let d : (word_at (set new at (written_back (word_at new at) p)) j).durable ≡ (word_at new j).durable =
          ap (λ (ws : List Word). (word_at ws j).durable) b in
          omega (arith, c, d, n.each j)
    ]
    | inr other ↦
        let c : (word_at (set old at (written_back (word_at old at) p)) j).durable ≡ (word_at old j).durable =
        ap (λ (w : Word). w.durable) (word_other old at j (written_back (word_at old at) p) other) in
        let d : (word_at (set new at (written_back (word_at new at) p)) j).durable ≡ (word_at new j).durable =
        ap (λ (w : Word). w.durable) (word_other new at j (written_back (word_at new at) p) other) in
        omega (arith, c, d, n.each j)
  ];
}

no_lower_persisted : (old new : List Word) (at : ℕ) (ps : List ℕ) → NoLower old new → NoLower (persisted old at ps) (persisted new at ps)
no_lower_persisted old new at [] n = n
no_lower_persisted old new at (p ∷ ps) n =
    no_lower_persisted (set old at (written_back (word_at old at) p)) (set new at (written_back (word_at new at) p)) (at + 1) ps
    (no_lower_persisted_at old new at p n)

pub no_lower_drained : (old new : List Word) (queue : List Entry) → NoLower old new → NoLower (drained_all old queue) (drained_all new queue)
no_lower_drained old new [] n = n
no_lower_drained old new (e ∷ es) n = no_lower_drained (drained old e) (drained new e) es (no_lower_persisted old new (8 * e.line) e.positions n)

-- a write-back lowers nothing, whatever its positions
higher_at : (words : List Word) (at p : ℕ) → NoLower words (set words at (written_back (word_at words at) p))
higher_at words at p = record {
  size = length-set words at (written_back (word_at words at) p);
  each = each_by_set (λ u v. u.durable ≤ v.durable) words at (written_back (word_at words at) p) (λ u. omega arith) (omega arith);
}

higher : (words : List Word) (at : ℕ) (ps : List ℕ) → NoLower words (persisted words at ps)
higher words at [] = record { size = refl; each = λ j. omega arith }
higher words at (p ∷ ps) = no_lower_trans words _ _ (higher_at words at p) (higher (set words at (written_back (word_at words at) p)) (at + 1) ps)

pub higher_all : (words : List Word) (queue : List Entry) → NoLower words (drained_all words queue)
higher_all words [] = record { size = refl; each = λ j. omega arith }
higher_all words (e ∷ es) = no_lower_trans words _ _ (higher words (8 * e.line) e.positions) (higher_all (drained words e) es)

pub drained_append : (words : List Word) (queue more : List Entry) → drained_all words (queue ++ more) ≡ drained_all (drained_all words queue) more
drained_append words [] more = refl
drained_append words (e ∷ es) more = drained_append (drained words e) es more

pub reach_stays : ReachStays
reach_stays old new queue more j position c reached =
    let n : NoLower old new = record { size = c.size; each = λ i. durable_later (word_at old i) (word_at new i) (c.each i) } in
    let here = (no_lower_drained old new queue n).each j in
    let after = (higher_all (drained_all new queue) more).each j in
    let same : (word_at (drained_all new (queue ++ more)) j).durable ≡ (word_at (drained_all (drained_all new queue) more) j).durable =
    ap (λ (ws : List Word). (word_at ws j).durable) (drained_append new queue more) in
    omega (arith, reached, here, after, same)

-- ---- Cleans

pub position_of : (ws : List Word) (line k : ℕ) → 8 * line + 8 ≤ length ws → k < 8 →
    get_or (entry_of ws line).positions k 0 ≡ last_position (word_at ws (8 * line + k))
position_of ws line k h l =
    get_or-map last_position (take 8 (drop (8 * line) ws)) k (word_of 0) 0
    (omega (arith, length-take-le 8 (drop (8 * line) ws) (omega (arith, length-drop (8 * line) ws))))
    ∙ ap last_position (get_or-take 8 (drop (8 * line) ws) k (word_of 0) l ∙ get_or-drop (8 * line) ws k (word_of 0))

pub clean_entry : (ws : List Word) (line : ℕ) → 8 * line + 8 ≤ length ws → IsEntry ws (entry_of ws line)
clean_entry ws line h = record {
  eight = length-map (take 8 (drop (8 * line) ws)) last_position ∙ length-take-le 8 (drop (8 * line) ws) (omega (arith, length-drop (8 * line) ws));
  line = h;
  within = λ k l. omega (arith, position_of ws line k h l);
}

-- a write-back reaches its positions
persisted_reaches : (ws : List Word) (at : ℕ) (ps : List ℕ) (k : ℕ) → at + length ps ≤ length ws → k < length ps →
    get_or ps k 0 ≤ (word_at (persisted ws at ps) (at + k)).durable
persisted_reaches ws at [] k h u = absurd (let z : ⊥ = omega arith in z)
persisted_reaches ws at (p ∷ ps) zero h u =
    let first = set ws at (written_back (word_at ws at) p) in
    let is : (word_at first at).durable ≡ max (word_at ws at).durable p =
    ap (λ (w : Word). w.durable) (word_same ws at (written_back (word_at ws at) p) (omega arith)) in
    let up : (word_at first at).durable ≤ (word_at (persisted first (at + 1) ps) at).durable = (higher first (at + 1) ps).each at in
    let le : p ≤ (word_at (persisted first (at + 1) ps) at).durable = omega (arith, is, up) in
    subst (λ (i : ℕ). p ≤ (word_at (persisted first (at + 1) ps) i).durable) (sym (add-zero at)) le
persisted_reaches ws at (p ∷ ps) (suc k) h u =
    let first = set ws at (written_back (word_at ws at) p) in
    let e : at + 1 + k ≡ at + suc k = omega arith in
    let le : get_or ps k 0 ≤ (word_at (persisted first (at + 1) ps) (at + 1 + k)).durable =
    persisted_reaches first (at + 1) ps k (omega (arith, length-set ws at (written_back (word_at ws at) p))) (omega arith) in
    subst (λ (i : ℕ). get_or ps k 0 ≤ (word_at (persisted first (at + 1) ps) i).durable) e le

length-drained_all : (ws : List Word) (queue : List Entry) → length (drained_all ws queue) ≡ length ws
length-drained_all ws [] = refl
length-drained_all ws (e ∷ es) = length-drained_all (drained ws e) es ∙ length-persisted ws (8 * e.line) e.positions

pub cleans_reach : CleansReach
cleans_reach words queue line k exists below entries =
    let e = entry_of words line in
    let i : IsEntry words e = clean_entry words line exists in
    let queued = drained_all words queue in
    let same : (word_at (drained_all words (queue ++ e ∷ [])) (8 * line + k)).durable ≡ (word_at (drained queued e) (8 * line + k)).durable =
    ap (λ (ws : List Word). (word_at ws (8 * line + k)).durable) (drained_append words queue (e ∷ [])) in
    let reach : get_or e.positions k 0 ≤ (word_at (drained queued e) (8 * line + k)).durable =
    persisted_reaches queued (8 * line) e.positions k (omega (arith, i.eight, exists, length-drained_all words queue)) (omega (arith, i.eight, below)) in
    (i, omega (arith, same, reach, position_of words line k exists below))

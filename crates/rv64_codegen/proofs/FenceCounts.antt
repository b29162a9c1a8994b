-- The FENCEs of a node's piece: two for each of its boundaries.
use Rattle.std.proofs.Common.{◌≡◌, ◌⊎◌, inl, inr, ℕ, zero, suc, ◌+◌, ◌*◌, List, [], ◌∷◌, ◌++◌, refl, ap, arith, sym, ◌∙◌, Bool, true, false, Some}
use Rattle.std.specs.Prelude.{slice_get, slice_index_or}
use Rattle.std.proofs.lemmas.Bool.{true≢false}
use Rattle.std.proofs.lemmas.Option.{same_Some}
use Rattle.rv64_link.specs.LabelledCode.{one_if, fences_in}
use Rattle.flow_graph.specs.Nodes.{Action, Eval, Store, Test, Lock, Unlock, End, Node}
use Rattle.flow_graph.specs.IdempotentCuts as cutting
use Rattle.flow_graph.specs.IdempotentCuts.{IsChosen, locks, unlocks}
use Rattle.node_code.proofs.Public.{fences_append}
use Rattle.thread_code.specs.Plans.{Plan, Thread, IsPlan}
use Rattle.thread_code.specs.Programs.{boundary_count}
use Rattle.ido_base.specs.declared.place.Place.{Place}
use Rattle.ido_ints.specs.declared.kinds.Kind.{Kind}
use Rattle.c_tree.specs.Exprs as e
use Rattle.rv64_codegen.specs.ThreadPieces.{Choices, GoesTo, IsAssigning, IsChoosing, turned, straight, IsDoing, IsSetting, in_register, in_section, outside}
use Rattle.rv64_codegen.proofs.GuardParts.{guard_fences}
use Rattle.rv64_codegen.proofs.PieceParts.{PlacedNode, chosen_or_not, same_or_other}

-- ---- Flags

flag_on : (flags : List Bool) (k : ℕ) → slice_get flags k ≡ Some true → slice_index_or flags k false ≡ true
flag_on [] zero e = cc e
flag_on [] (suc k) e = cc e
flag_on (x ∷ xs) zero e = same_Some x true e
flag_on (x ∷ xs) (suc k) e = flag_on xs k e

flag_off : (flags : List Bool) (k : ℕ) → (slice_get flags k ≡ Some true → ⊥) → slice_index_or flags k false ≡ false
flag_off [] k never = refl
flag_off (true ∷ xs) zero never = absurd (never refl)
flag_off (false ∷ xs) zero never = refl
flag_off (x ∷ xs) (suc k) never = flag_off xs k never

-- ---- Actions

abbrev is_lock : Action → Bool
is_lock (Eval target value next) = false
is_lock (Store variable kind next) = false
is_lock (Test condition holds fails) = false
is_lock (Lock lock next) = true
is_lock (Unlock lock next) = false
is_lock End = false

abbrev is_unlock : Action → Bool
is_unlock (Eval target value next) = false
is_unlock (Store variable kind next) = false
is_unlock (Test condition holds fails) = false
is_unlock (Lock lock next) = false
is_unlock (Unlock lock next) = true
is_unlock End = false

module _ {p : Plan} {t : Thread} {c : Choices} {entry : ℕ → ℕ} (plan : IsPlan p) (it : PlacedNode p t c entry) where
  open it use {node, is, at, before, does, goes, guarded, doing}

  abbrev has_before : Bool
  has_before = slice_index_or p.boundaries.before node false

  abbrev has_after : Bool
  has_after = slice_index_or p.boundaries.after_lock node false

  no_lock : is_lock is.action ≡ false → cutting.IsLock p.graph node → ⊥
  no_lock off (locks x lock next there does_it) =
      let same : x ≡ is = same_Some x is (sym there ∙ at) in
      let on : is_lock is.action ≡ true = ap (λ (y : Node). is_lock y.action) (sym same) ∙ ap is_lock does_it in
      true≢false (sym on ∙ off)

  no_unlock : is_unlock is.action ≡ false → cutting.IsUnlock p.graph node → ⊥
  no_unlock off (unlocks x lock next there does_it) =
      let same : x ≡ is = same_Some x is (sym there ∙ at) in
      let on : is_unlock is.action ≡ true = ap (λ (y : Node). is_unlock y.action) (sym same) ∙ ap is_unlock does_it in
      true≢false (sym on ∙ off)

  -- before a node that gives no mutex back
  before_fences : is_unlock is.action ≡ false → fences_in before ≡ 2 * one_if has_before
  before_fences off = by (chosen_or_not p.graph p.boundaries node is at)
    where
      by : IsChosen p.graph p.boundaries node ⊎ (IsChosen p.graph p.boundaries node → ⊥) → fences_in before ≡ 2 * one_if has_before
      by (inl chosen) =
          let two : fences_in before ≡ 2 = guard_fences p t c node is.action before (guarded.chosen chosen) in
          let on : one_if has_before ≡ 1 = ap one_if (flag_on p.boundaries.before node chosen.stands) in
          omega (arith, two, on)
      by (inr plain) =
          let none : fences_in before ≡ 0 = ap fences_in (guarded.plain plain) in
          let off_there : one_if has_before ≡ 0 =
          ap one_if (flag_off p.boundaries.before node (λ stands. plain (record { stands = stands; free = no_unlock off }))) in
          omega (arith, none, off_there)

  after_none : is_lock is.action ≡ false → one_if has_after ≡ 0
  after_none off = ap one_if (flag_off p.boundaries.after_lock node (λ stands. no_lock off (plan.at_writes.after node stands)))

  goes_none : (next : ℕ) → GoesTo p t c node next goes → fences_in goes ≡ 0
  goes_none next g = by (same_or_other next (node + 1))
    where
      by : (next ≡ node + 1) ⊎ (next ≡ node + 1 → ⊥) → fences_in goes ≡ 0
      by (inl same) = ap fences_in (g.follows same)
      by (inr other) = (g.jumps other).fences

  -- all three parts
  total : (m n k : ℕ) → fences_in before ≡ m → fences_in does ≡ n → fences_in goes ≡ 0 → m + n ≡ k → fences_in (before ++ (does ++ goes)) ≡ k
  total m n k a b d sum =
      let first = fences_append before (does ++ goes) in
      let last = fences_append does goes in
      omega (arith, first, last, a, b, d, sum)

  -- where it is neither a lock nor an unlock
  plain_fences : is_lock is.action ≡ false → is_unlock is.action ≡ false → fences_in does ≡ 0 → fences_in goes ≡ 0 →
      fences_in (before ++ (does ++ goes)) ≡ 2 * boundary_count p.boundaries node
  plain_fences no_l no_u d g =
      let none = after_none no_l in
      total (2 * one_if has_before) 0 (2 * boundary_count p.boundaries node) (before_fences no_u) d g (omega (arith, none))

  setting_none : (place : Place) (local : ℕ) (kind : Kind) (value : e.Expr) → IsSetting p t c node place local kind value does → fences_in does ≡ 0
  setting_none place local kind value (in_register register home d) = d.fences
  setting_none place local kind value (in_section word home it_is d) = d.fences
  setting_none place local kind value (outside word home none d) = d.fences

  assigning_none : (target : e.Lvalue) (value : e.Expr) → IsAssigning p t c node target value does → fences_in does ≡ 0
  assigning_none (e.ToLocal place local kind) value d = setting_none place local kind value d
  assigning_none (e.ToVariable place variable kind) value d = d.fences
  assigning_none (e.ToElement place variable kind index) value d = d.fences

  fences_by : (a : Action) → is.action ≡ a → IsDoing p t c node a does goes → fences_in (before ++ (does ++ goes)) ≡ 2 * boundary_count p.boundaries node
  fences_by (Eval target value next) same d =
      plain_fences (ap is_lock same) (ap is_unlock same) (assigning_none target value.expr d.0) (goes_none next d.1)
  fences_by (Store variable kind next) same d = plain_fences (ap is_lock same) (ap is_unlock same) d.0.fences (goes_none next d.1)
  fences_by (Test condition holds fails) same d = by d
    where
      by : IsChoosing p t c node condition holds fails does goes → fences_in (before ++ (does ++ goes)) ≡ 2 * boundary_count p.boundaries node
      by (turned follows test none) = plain_fences (ap is_lock same) (ap is_unlock same) test.fences (ap fences_in none)
      by (straight test goes_to) = plain_fences (ap is_lock same) (ap is_unlock same) test.fences (goes_none fails goes_to)
  fences_by (Lock lock next) same d =
      let on : one_if has_after ≡ 1 =
      ap one_if (flag_on p.boundaries.after_lock node (plan.cuts.past_locks node (locks is lock next at same)).stands) in
      total (2 * one_if has_before) 2 (2 * boundary_count p.boundaries node) (before_fences (ap is_unlock same)) (d.0 []).fences (goes_none next d.1)
      (omega (arith, on))
  fences_by (Unlock lock next) same d =
      let none : fences_in before ≡ 0 = ap fences_in (guarded.plain (λ chosen. chosen.free (unlocks is lock next at same))) in
      let on : one_if has_before ≡ 1 = ap one_if (flag_on p.boundaries.before node (plan.cuts.before_unlocks node (unlocks is lock next at same))) in
      let off = after_none (ap is_lock same) in
      total 0 2 (2 * boundary_count p.boundaries node) none (d.0.1 []).fences (goes_none next d.1) (omega (arith, on, off))
  fences_by End same d = plain_fences (ap is_lock same) (ap is_unlock same) d.0.fences (ap fences_in d.1)

  pub piece_fences : fences_in (before ++ (does ++ goes)) ≡ 2 * boundary_count p.boundaries node
  piece_fences = fences_by is.action refl doing

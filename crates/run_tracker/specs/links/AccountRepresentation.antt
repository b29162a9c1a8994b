-- What the account of begun and kept steps represents.
use Rattle.std.specs.Prelude.{◌≡◌, ℕ, zero, suc, ◌+◌, ◌<◌, ◌≤◌, List, [], ◌∷◌, ◌++◌, length, slice_index, slice_index_or, drop, filter, replicate, sum_by}
use Rattle.std.specs.Prelude.{Option, Some, None, Bool, true, false, nat_le, ◌==◌, if◌then◌else◌}
use Rattle.log_schemes.specs.declared.log.Log.{Log}
use Rattle.ido_base.specs.Words.{Word, word_at, last_position}
use Rattle.ido_base.specs.Layout.{word_number}
use Rattle.log_schemes.specs.Layout.{point_at}
use Rattle.machine_model.specs.Schedule.{PendingStep, Steps, is_durable}
use Rattle.run_tracker.specs.declared.account.PointStore.{PointStore}
use Rattle.run_tracker.specs.declared.account.OpenSteps.{OpenSteps}
use Rattle.run_tracker.specs.declared.account.Account.{Account}
use Rattle.run_tracker.specs.links.EarlierLives.{steps_together}

-- the word of a hart's point
abbrev pub point_word : Log → (h : ℕ) → ℕ
point_word log h = word_number (point_at log h)

-- steps of a hart that are bound to a store of its point at this position
pub record Bound : Type 0 where
  pub position : ℕ
  pub steps : ℕ

-- the pending steps of a hart
pub record HartSteps : Type 0 where
  -- bound to stores of its point, the oldest first
  pub bound : List Bound
  -- begun since
  pub free : ℕ

abbrev pub bound_of : PointStore → Bound
bound_of store = record { position = store.position; steps = store.steps }

-- what is bound to the stores of hart h
abbrev pub bound_in : List PointStore → (h : ℕ) → List Bound
bound_in [] h = []
bound_in (store ∷ stores) h = if store.hart == h then bound_of store ∷ bound_in stores h else bound_in stores h

abbrev pub nothing_open : OpenSteps
nothing_open = record { free = 0; first = 0 }

abbrev pub open_at : Account → (h : ℕ) → OpenSteps
open_at account h = slice_index_or account.harts.items h nothing_open

-- what is bound to the stores of hart h and not kept
abbrev pub bound_at : Account → (h : ℕ) → List Bound
bound_at account h = bound_in (drop (open_at account h).first account.stores.items) h

abbrev pub steps_of : List PointStore → (h : ℕ) → OpenSteps → HartSteps
steps_of stores h left = record { bound = bound_in (drop left.first stores) h; free = left.free }

-- steps that are bound to positions up to the durable one
abbrev pub durable_steps : (durable : ℕ) → List Bound → ℕ
durable_steps durable bound = sum_by (λ b. if nat_le b.position durable then b.steps else 0) bound

-- to each store steps are bound
abbrev pub AllBindSome : List Bound → Type 0
AllBindSome [] = Unit {0}
AllBindSome (b ∷ bs) = (0 < b.steps) × AllBindSome bs

-- one by one
abbrev pub step_at : (h : ℕ) → (stored : Option ℕ) → PendingStep
step_at h stored = record { hart = h; stored = stored }

abbrev pub bound_steps : (h : ℕ) → List Bound → List PendingStep
bound_steps h [] = []
bound_steps h (b ∷ bs) = replicate b.steps (step_at h (Some b.position)) ++ bound_steps h bs

abbrev pub each_step : (h : ℕ) → HartSteps → List PendingStep
each_step h steps = bound_steps h steps.bound ++ replicate steps.free (step_at h None)

-- those of hart h among pending steps
abbrev pub own_steps : (h : ℕ) → List PendingStep → List PendingStep
own_steps h steps = filter (λ step. step.hart == h) steps

-- all steps that are kept, one life's after another's
abbrev pub all_kept : Steps → List ℕ
all_kept s = steps_together s.earlier ++ s.kept

-- where each of these lives ends among all kept steps, where the first of them begins there
abbrev pub ends_from : (at : ℕ) → List (List ℕ) → List ℕ
ends_from at [] = []
ends_from at (life ∷ lives) = (at + length life) ∷ ends_from (at + length life) lives

-- where lives end among them, with one more that ends behind so many, if so
abbrev pub ends_then : (ends : Bool) → List ℕ → (kept : ℕ) → List ℕ
ends_then false places kept = places
ends_then true places kept = places ++ kept ∷ []

-- where a life begins among all kept steps, by where lives end: at the place, or where the life before it ends
abbrev pub life_place : (at : ℕ) → (ends : List ℕ) → (life : ℕ) → ℕ
life_place at ends zero = at
life_place at ends (suc life) = slice_index ends life

-- the account has these steps: those that are kept, of all lives, and of each hart those that are pending
pub record AccountInv (account : Account) (s : Steps) : Type 0 where
  pub kept : all_kept s ≡ account.kept.items
  pub each : (h : ℕ) → h < length account.harts.items → own_steps h s.pending ≡ each_step h (steps_of account.stores.items h (open_at account h))
  pub some : (h : ℕ) → h < length account.harts.items → AllBindSome (bound_at account h)
  pub within : (h : ℕ) → h < length account.harts.items → (open_at account h).first ≤ length account.stores.items

-- the steps after a crash
abbrev pub without_open : Steps → Steps
without_open s = record s { pending = [] }

-- ---- How many steps there are

abbrev pub total : List Bound → ℕ
total bound = sum_by (λ b. b.steps) bound

-- steps that are kept or pending
abbrev pub weight : Steps → ℕ
weight s = length (all_kept s) + length s.pending

-- ---- The order of positions

abbrev pub AllFrom : (position : ℕ) → List Bound → Type 0
AllFrom position [] = Unit {0}
AllFrom position (b ∷ bs) = (position ≤ b.position) × AllFrom position bs

-- later ones are bound to later positions
abbrev pub IsAscending : List Bound → Type 0
IsAscending [] = Unit {0}
IsAscending (b ∷ bs) = AllFrom b.position bs × IsAscending bs

-- of a hart's steps one with the first of these stores may come before one with the other
abbrev pub ComesBefore : (first later : Option ℕ) → Type 0
ComesBefore (Some p) (Some q) = p ≤ q
ComesBefore (Some p) None = Unit {0}
ComesBefore None None = Unit {0}
ComesBefore None (Some q) = ⊥

abbrev pub AllFollow : (stored : Option ℕ) → List PendingStep → Type 0
AllFollow stored [] = Unit {0}
AllFollow stored (step ∷ steps) = ComesBefore stored step.stored × AllFollow stored steps

abbrev pub AreInOrder : List PendingStep → Type 0
AreInOrder [] = Unit {0}
AreInOrder (step ∷ steps) = AllFollow step.stored steps × AreInOrder steps

abbrev pub IsUpTo : (position : ℕ) → Option ℕ → Type 0
IsUpTo position None = Unit {0}
IsUpTo position (Some p) = p ≤ position

abbrev pub AllUpTo : (position : ℕ) → List PendingStep → Type 0
AllUpTo position [] = Unit {0}
AllUpTo position (step ∷ steps) = IsUpTo position step.stored × AllUpTo position steps

-- none of the steps is one of hart h whose store is durable
abbrev pub IsNoneDurable : (h durable : ℕ) → List PendingStep → Type 0
IsNoneDurable h durable [] = Unit {0}
IsNoneDurable h durable (step ∷ steps) = (is_durable h durable step ≡ false) × IsNoneDurable h durable steps

-- that is so of each of so many harts, as its point is durable
abbrev pub AreOpen : (harts : ℕ) → Log → List Word → Steps → Type 0
AreOpen harts log words s = (h : ℕ) → h < harts → IsNoneDurable h (word_at words (point_word log h)).durable s.pending

-- the pending steps of each hart are in order, up to the newest position of its point
pub record AreOrdered (log : Log) (words : List Word) (s : Steps) : Type 0 where
  pub in_order : (h : ℕ) → AreInOrder (own_steps h s.pending)
  pub up_to : (h : ℕ) → AllUpTo (last_position (word_at words (point_word log h))) (own_steps h s.pending)

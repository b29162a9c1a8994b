-- The stores of a hart, one after another.
use Rattle.std.proofs.Common.{◌≡◌, ℕ, ◌+◌, ◌<◌, ◌≤◌, List, ◌∷◌, drop, length, get_or, ap, sym, subst, ◌∙◌, arith}
use Rattle.std.proofs.lemmas.List.{drop_more}
use Rattle.run_tracker.specs.declared.account.PointStore.{PointStore}
use Rattle.run_tracker.specs.links.AccountRepresentation.{Bound, IsAscending, bound_in, bound_of, durable_steps, total}
use Rattle.run_tracker.proofs.BoundSteps.{later, later_yes, durable_yes, durable_no, none_durable, all_later, total_split}
use Rattle.run_tracker.proofs.AccountUpdates.{bound_yes}

abbrev pub no_store : PointStore
no_store = record { hart = 0; position = 0; steps = 0 }

module _ (stores : List PointStore) (h d at : ℕ) (within : at < length stores) (own : (get_or stores at no_store).hart ≡ h) where
  rest : List Bound
  rest = bound_in (drop (at + 1) stores) h

  pub here : bound_in (drop at stores) h ≡ bound_of (get_or stores at no_store) ∷ bound_in (drop (at + 1) stores) h
  here = ap (λ (xs : List PointStore). bound_in xs h) (drop_more stores at no_store within) ∙ bound_yes (get_or stores at no_store) (drop (at + 1) stores) h own

  -- none is durable from one on that isn't
  pub stops_steps : IsAscending (bound_in (drop at stores) h) → d < (get_or stores at no_store).position → durable_steps d (bound_in (drop at stores) h) ≡ 0
  stops_steps ascending above =
      let parts : IsAscending (bound_of (get_or stores at no_store) ∷ bound_in (drop (at + 1) stores) h) = subst IsAscending here ascending in
      ap (durable_steps d) here ∙ durable_no d (bound_of (get_or stores at no_store)) (bound_in (drop (at + 1) stores) h) above
      ∙ none_durable d (get_or stores at no_store).position (bound_in (drop (at + 1) stores) h) above parts.0

  pub stops_later : IsAscending (bound_in (drop at stores) h) → d < (get_or stores at no_store).position →
      later d (bound_in (drop at stores) h) ≡ bound_in (drop at stores) h
  stops_later ascending above =
      let parts : IsAscending (bound_of (get_or stores at no_store) ∷ bound_in (drop (at + 1) stores) h) = subst IsAscending here ascending in
      ap (later d) here ∙ later_yes d (bound_of (get_or stores at no_store)) (bound_in (drop (at + 1) stores) h) above
      ∙ ap (λ (bs : List Bound). bound_of (get_or stores at no_store) ∷ bs)
      (all_later d (get_or stores at no_store).position (bound_in (drop (at + 1) stores) h) above parts.0)
      ∙ sym here

  -- the steps of a durable one are among those that are durable
  pub counts : (get_or stores at no_store).position ≤ d → (get_or stores at no_store).steps ≤ durable_steps d (bound_in (drop at stores) h)
  counts below = let e = ap (durable_steps d) here ∙ durable_yes d (bound_of (get_or stores at no_store)) (bound_in (drop (at + 1) stores) h) below in
      omega (arith, e)

pub durable_few : (d : ℕ) (bs : List Bound) → durable_steps d bs ≤ total bs
durable_few d bs = omega (arith, total_split d bs)

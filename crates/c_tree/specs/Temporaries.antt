-- Expressions that need too many temporaries.
use Rattle.std.specs.Prelude.{List, [], ◌∷◌, ◌++◌, find, flat_map, Option, Some, None, nat_lt}
use Rattle.std.specs.Option.{option_map}
use Rattle.ido_base.specs.declared.place.Place.{Place}
use Rattle.ido_base.specs.declared.limits.TheConstants.{MOST_TEMPORARIES}
use Rattle.c_tree.specs.Exprs as e
use Rattle.c_tree.specs.Flats as f
use Rattle.c_tree.specs.Prices.{need_of}

-- the index before the value
abbrev pub assign_exprs : e.Lvalue → e.Placed → List e.Placed
assign_exprs (e.ToLocal place local kind) value = value ∷ []
assign_exprs (e.ToVariable place variable kind) value = value ∷ []
assign_exprs (e.ToElement place variable kind index) value = index ∷ value ∷ []

abbrev pub key_exprs : e.LockName → List e.Placed
key_exprs x = elim x.key [ None ↦ [] | Some key ↦ key ∷ [] ]

-- the expressions of the steps, in order
abbrev mutual
  pub statement_exprs : f.Statement → List e.Placed
  statement_exprs (f.Assign place target value) = assign_exprs target value
  statement_exprs (f.If place arms otherwise) = arms_exprs arms ++ statements_exprs otherwise
  statement_exprs (f.While place condition body) = condition ∷ statements_exprs body
  statement_exprs (f.Do place body condition) = statements_exprs body ++ condition ∷ []
  statement_exprs (f.Lock place lock) = key_exprs lock
  statement_exprs (f.Unlock place lock) = key_exprs lock

  pub statements_exprs : f.Statements → List e.Placed
  statements_exprs f.no_statement = []
  statements_exprs (f.statement_and x rest) = statement_exprs x ++ statements_exprs rest

  pub arms_exprs : f.Arms → List e.Placed
  arms_exprs f.no_arm = []
  arms_exprs (f.arm_and condition body rest) = (condition ∷ statements_exprs body) ++ arms_exprs rest

-- where the first one stands that needs too many
unfoldable pub temporaries_fault : f.Flat → Option Place
temporaries_fault x = option_map (λ (y : e.Placed). y.place)
    (find (λ (y : e.Placed). nat_lt MOST_TEMPORARIES (need_of y.expr)) (flat_map (λ (t : f.Thread). statements_exprs t.body) x.threads))

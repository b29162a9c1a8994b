-- The first of some expressions that needs too many temporaries.
use Rattle.std.specs.Prelude.{List, find, flat_map, Option, nat_lt}
use Rattle.std.specs.Option.{option_map}
use Rattle.ido_base.specs.declared.place.Place.{Place}
use Rattle.ido_base.specs.declared.limits.TheConstants.{MOST_TEMPORARIES}
use Rattle.c_tree.specs.Exprs as e
use Rattle.c_tree.specs.Flats as f
use Rattle.c_tree.specs.Prices.{need_of}
use Rattle.c_tree.specs.Temporaries.{statements_exprs}

-- the place of the first expression that needs too many temporaries
unfoldable pub first_deep : List e.Placed → Option Place
first_deep xs = option_map (λ (y : e.Placed). y.place) (find (λ (y : e.Placed). nat_lt MOST_TEMPORARIES (need_of y.expr)) xs)

abbrev pub threads_exprs : List f.Thread → List e.Placed
threads_exprs ts = flat_map (λ (t : f.Thread). statements_exprs t.body) ts

-- What is left to do at each node of a well formed thread is well formed.
use Rattle.std.proofs.Common.{◌≡◌, ℕ, List, [], ◌∷◌, ◌++◌, Some}
use Rattle.std.specs.Prelude.{slice_get}
use Rattle.std.specs.List.{AllByRecursion}
use Rattle.ido_base.specs.declared.place.Place.{Place}
use Rattle.ido_ints.specs.declared.kinds.Kind.{Kind}
use Rattle.c_tree.specs.Exprs as e
use Rattle.c_tree.specs.Flats as f
use Rattle.c_tree.specs.Source.{opened, opened_all}
use Rattle.c_tree.specs.WellFormed.{IsFlatStatement, AreFlatStatements, AreFlatArms}
use Rattle.c_ranges.specs.RunInvariants.{IsStatementLeft}
use Rattle.flow_graph.specs.Lockstep.{Standing, free, assign_standings, standings, all_standings, arms_standings, thread_standings}
use Rattle.flow_graph.proofs.Public.{all_at}

module _ (x : f.Flat) (ks : List Kind) where
  abbrev AreLeft : List f.Statement → Type 0
  AreLeft left = AllByRecursion (IsStatementLeft x ks) left

  abbrev IsLeftAt : Standing → Type 0
  IsLeftAt s = AreLeft s.left

  joined : (xs ys : List f.Statement) → AreLeft xs → AreLeft ys → AreLeft (xs ++ ys)
  joined [] ys h k = k
  joined (s ∷ xs) ys h k = (h.0, joined xs ys h.1 k)

  all_joined : (ss rs : List Standing) → AllByRecursion IsLeftAt ss → AllByRecursion IsLeftAt rs → AllByRecursion IsLeftAt (ss ++ rs)
  all_joined [] rs h k = k
  all_joined (s ∷ ss) rs h k = (h.0, all_joined ss rs h.1 k)

  -- ---- What is opened

  mutual
    opened_left : (y : f.Statement) → IsFlatStatement x ks y → AreLeft (opened y)
    opened_left (f.Assign place target value) w = ((tt, w), tt)
    opened_left (f.If place arms otherwise) w = ((tt, w), tt)
    opened_left (f.While place condition body) w = ((tt, w), tt)
    opened_left (f.Do place body condition) w =
        joined (opened_all body) (f.While place condition body ∷ []) (opened_all_left body w.0) ((tt, (w.1, w.0)), tt)
    opened_left (f.Lock place name) w = ((tt, w), tt)
    opened_left (f.Unlock place name) w = ((tt, w), tt)

    pub opened_all_left : (ys : f.Statements) → AreFlatStatements x ks ys → AreLeft (opened_all ys)
    opened_all_left f.no_statement w = tt
    opened_all_left (f.statement_and y rest) w = joined (opened y) (opened_all rest) (opened_left y w.0) (opened_all_left rest w.1)

  -- ---- What is left at nodes

  assign_left : (place : Place) (target : e.Lvalue) (value : e.Placed) (rest : List f.Statement) → IsFlatStatement x ks (f.Assign place target value) →
      AreLeft rest → AllByRecursion IsLeftAt (assign_standings place target value rest)
  assign_left place (e.ToLocal name local kind) value rest w k = (((tt, w), k), tt)
  assign_left place (e.ToVariable name variable kind) value rest w k = (((tt, w), k), (k, tt))
  assign_left place (e.ToElement name variable kind index) value rest w k = (((tt, w), k), (k, tt))

  mutual
    left_in : (y : f.Statement) (rest : List f.Statement) → IsFlatStatement x ks y → AreLeft rest → AllByRecursion IsLeftAt (standings y rest)
    left_in (f.Assign place target value) rest w k = assign_left place target value rest w k
    left_in (f.If place arms otherwise) rest w k =
        all_joined (arms_standings arms place otherwise rest) (all_standings otherwise rest)
        (left_in_arms arms place otherwise rest w.1 w.2 k) (left_in_all otherwise rest w.2 k)
    left_in (f.While place condition body) rest w k = (((tt, w), k), left_in_all body (f.While place condition body ∷ rest) w.1 ((tt, w), k))
    left_in (f.Do place body condition) rest w k =
        let again : AreLeft (f.While place condition body ∷ rest) = ((tt, (w.1, w.0)), k) in
        all_joined (all_standings body (f.While place condition body ∷ rest)) (free (f.While place condition body ∷ rest) ∷ [])
        (left_in_all body (f.While place condition body ∷ rest) w.0 again) (again, tt)
    left_in (f.Lock place name) rest w k = (((tt, w), k), tt)
    left_in (f.Unlock place name) rest w k = (((tt, w), k), tt)

    left_in_all : (ys : f.Statements) (rest : List f.Statement) → AreFlatStatements x ks ys → AreLeft rest → AllByRecursion IsLeftAt (all_standings ys rest)
    left_in_all f.no_statement rest w k = tt
    left_in_all (f.statement_and y more) rest w k =
        all_joined (standings y (opened_all more ++ rest)) (all_standings more rest)
        (left_in y (opened_all more ++ rest) w.0 (joined (opened_all more) rest (opened_all_left more w.1) k)) (left_in_all more rest w.1 k)

    left_in_arms : (arms : f.Arms) (place : Place) (otherwise : f.Statements) (rest : List f.Statement) → AreFlatArms x ks arms →
        AreFlatStatements x ks otherwise → AreLeft rest → AllByRecursion IsLeftAt (arms_standings arms place otherwise rest)
    left_in_arms f.no_arm place otherwise rest w o k = tt
    left_in_arms (f.arm_and condition body more) place otherwise rest w o k = (
      ((tt, (tt, w, o)), k),
      all_joined (all_standings body rest) (arms_standings more place otherwise rest) (left_in_all body rest w.1 k)
          (left_in_arms more place otherwise rest w.2 o k),
    )

-- what is left at a node of the thread
pub are_left : (x : f.Flat) (t : f.Thread) (step : ℕ) (s : Standing) → AreFlatStatements x t.locals t.body → slice_get (thread_standings t) step ≡ Some s →
    AllByRecursion (IsStatementLeft x t.locals) s.left
are_left x t step s w at =
    all_at (IsLeftAt x t.locals) (thread_standings t) step s
    (all_joined x t.locals (all_standings t.body []) (free [] ∷ []) (left_in_all x t.locals t.body [] w tt) (tt, tt)) at

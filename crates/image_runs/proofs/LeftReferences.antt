-- What is left to do at each node of a thread whose references are right refers right.
use Rattle.std.proofs.Common.{◌≡◌, ℕ, List, [], ◌∷◌, ◌++◌, Option, Some}
use Rattle.std.specs.Prelude.{slice_get}
use Rattle.std.specs.List.{AllByRecursion}
use Rattle.ido_base.specs.declared.place.Place.{Place}
use Rattle.c_tree.specs.Exprs as e
use Rattle.c_tree.specs.Flats as f
use Rattle.c_tree.specs.References.{IsFlatStatementReferring, AreFlatStatementsReferring, AreFlatArmsReferring}
use Rattle.c_tree.specs.Source.{opened_all}
use Rattle.c_ranges.proofs.Public.{right_opened_all}
use Rattle.flow_graph.specs.Lockstep.{Standing, free, assign_standings, standings, all_standings, arms_standings, thread_standings}
use Rattle.flow_graph.proofs.Public.{all_at}

module _ (x : f.Flat) (rs : List (Option ℕ)) where
  abbrev AreRight : List f.Statement → Type 0
  AreRight left = AllByRecursion (IsFlatStatementReferring x rs) left

  abbrev IsRightAt : Standing → Type 0
  IsRightAt s = AreRight s.left

  joined : (xs ys : List f.Statement) → AreRight xs → AreRight ys → AreRight (xs ++ ys)
  joined [] ys h k = k
  joined (s ∷ xs) ys h k = (h.0, joined xs ys h.1 k)

  all_joined : (ss others : List Standing) → AllByRecursion IsRightAt ss → AllByRecursion IsRightAt others → AllByRecursion IsRightAt (ss ++ others)
  all_joined [] others h k = k
  all_joined (s ∷ ss) others h k = (h.0, all_joined ss others h.1 k)

  assign_right : (place : Place) (target : e.Lvalue) (value : e.Placed) (rest : List f.Statement) →
      IsFlatStatementReferring x rs (f.Assign place target value) → AreRight rest → AllByRecursion IsRightAt (assign_standings place target value rest)
  assign_right place (e.ToLocal name local kind) value rest h k = ((h, k), tt)
  assign_right place (e.ToVariable name variable kind) value rest h k = ((h, k), (k, tt))
  assign_right place (e.ToElement name variable kind index) value rest h k = ((h, k), (k, tt))

  mutual
    right_in : (y : f.Statement) (rest : List f.Statement) → IsFlatStatementReferring x rs y → AreRight rest → AllByRecursion IsRightAt (standings y rest)
    right_in (f.Assign place target value) rest h k = assign_right place target value rest h k
    right_in (f.If place arms otherwise) rest h k =
        all_joined (arms_standings arms place otherwise rest) (all_standings otherwise rest)
        (right_in_arms arms place otherwise rest h.0 h.1 k) (right_in_all otherwise rest h.1 k)
    right_in (f.While place condition body) rest h k = ((h, k), right_in_all body (f.While place condition body ∷ rest) h.1 (h, k))
    right_in (f.Do place body condition) rest h k =
        let again : AreRight (f.While place condition body ∷ rest) = ((h.1, h.0), k) in
        all_joined (all_standings body (f.While place condition body ∷ rest)) (free (f.While place condition body ∷ rest) ∷ [])
        (right_in_all body (f.While place condition body ∷ rest) h.0 again) (again, tt)
    right_in (f.Lock place name) rest h k = ((h, k), tt)
    right_in (f.Unlock place name) rest h k = ((h, k), tt)

    right_in_all : (ys : f.Statements) (rest : List f.Statement) → AreFlatStatementsReferring x rs ys → AreRight rest →
        AllByRecursion IsRightAt (all_standings ys rest)
    right_in_all f.no_statement rest h k = tt
    right_in_all (f.statement_and y more) rest h k =
        all_joined (standings y (opened_all more ++ rest)) (all_standings more rest)
        (right_in y (opened_all more ++ rest) h.0 (joined (opened_all more) rest (right_opened_all x rs more h.1) k)) (right_in_all more rest h.1 k)

    right_in_arms : (arms : f.Arms) (place : Place) (otherwise : f.Statements) (rest : List f.Statement) → AreFlatArmsReferring x rs arms →
        AreFlatStatementsReferring x rs otherwise → AreRight rest → AllByRecursion IsRightAt (arms_standings arms place otherwise rest)
    right_in_arms f.no_arm place otherwise rest h o k = tt
    right_in_arms (f.arm_and condition body more) place otherwise rest h o k = (
      ((h, o), k),
      all_joined (all_standings body rest) (arms_standings more place otherwise rest) (right_in_all body rest h.1 k)
          (right_in_arms more place otherwise rest h.2 o k),
    )

-- what is left at a node of the thread refers right
pub are_right : (x : f.Flat) (t : f.Thread) (step : ℕ) (s : Standing) → AreFlatStatementsReferring x t.refers t.body →
    slice_get (thread_standings t) step ≡ Some s → AllByRecursion (IsFlatStatementReferring x t.refers) s.left
are_right x t step s h at =
    all_at (IsRightAt x t.refers) (thread_standings t) step s
    (all_joined x t.refers (all_standings t.body []) (free [] ∷ []) (right_in_all x t.refers t.body [] h tt) (tt, tt)) at

-- What is made of a name follows no reference, but in its index.
use Rattle.std.proofs.Common.{ℕ, List, Option}
use Rattle.ido_base.specs.declared.place.Place.{Place}
use Rattle.ido_ints.specs.declared.kinds.Kind.TheVariants.{Int}
use Rattle.c_tree.specs.Exprs as e
use Rattle.c_tree.specs.Names as n
use Rattle.c_tree.specs.Programs as p
use Rattle.c_tree.specs.Elaboration as made
use Rattle.c_tree.specs.References.{Follows, PlacedFollows, TargetFollows}

module _ (vs : List p.Variable) (rs : List (Option ℕ)) where
  pub named_follows : (place : Place) (m : n.Meaning) → Follows vs rs (elim m [
    | n.IsLocal l ↦ e.Local l.number l.kind
    | n.IsGlobal (n.Variable number type_name length each) ↦ e.Variable place number (n.kind_named type_name)
    | _ ↦ made.int 0
  ])
  named_follows place n.IsUnknown = tt
  named_follows place (n.IsLocal l) = tt
  named_follows place (n.IsGlobal (n.Mutex number count)) = tt
  named_follows place (n.IsGlobal (n.Variable number type_name length each)) = tt
  named_follows place (n.IsGlobal (n.Function number gives parameters)) = tt
  named_follows place (n.IsGlobal n.Thread) = tt

  pub element_follows : (place index_place : Place) (index : e.Expr) (m : n.Meaning) → Follows vs rs index → Follows vs rs (elim m [
    | n.IsGlobal (n.Variable number type_name length each) ↦ e.Element place number (n.kind_named type_name) index_place index
    | _ ↦ made.int 0
  ])
  element_follows place index_place index n.IsUnknown i = tt
  element_follows place index_place index (n.IsLocal l) i = tt
  element_follows place index_place index (n.IsGlobal (n.Mutex number count)) i = tt
  element_follows place index_place index (n.IsGlobal (n.Variable number type_name length each)) i = i
  element_follows place index_place index (n.IsGlobal (n.Function number gives parameters)) i = tt
  element_follows place index_place index (n.IsGlobal n.Thread) i = tt

  pub address_follows : (index_place : Place) (index : e.Expr) (m : n.Meaning) → Follows vs rs index → Follows vs rs (elim m [
    | n.IsGlobal (n.Variable number type_name length each) ↦ e.Address number index_place index
    | _ ↦ made.int 0
  ])
  address_follows index_place index n.IsUnknown i = tt
  address_follows index_place index (n.IsLocal l) i = tt
  address_follows index_place index (n.IsGlobal (n.Mutex number count)) i = tt
  address_follows index_place index (n.IsGlobal (n.Variable number type_name length each)) i = i
  address_follows index_place index (n.IsGlobal (n.Function number gives parameters)) i = tt
  address_follows index_place index (n.IsGlobal n.Thread) i = tt

  pub target_named_follows : (place : Place) (m : n.Meaning) → TargetFollows vs rs (elim m [
    | n.IsLocal l ↦ e.ToLocal place l.number l.kind
    | n.IsGlobal (n.Variable number type_name length each) ↦ e.ToVariable place number (n.kind_named type_name)
    | _ ↦ e.ToLocal place 0 Int
  ])
  target_named_follows place n.IsUnknown = tt
  target_named_follows place (n.IsLocal l) = tt
  target_named_follows place (n.IsGlobal (n.Mutex number count)) = tt
  target_named_follows place (n.IsGlobal (n.Variable number type_name length each)) = tt
  target_named_follows place (n.IsGlobal (n.Function number gives parameters)) = tt
  target_named_follows place (n.IsGlobal n.Thread) = tt

  pub target_element_follows : (place : Place) (index : e.Placed) (m : n.Meaning) → PlacedFollows vs rs index → TargetFollows vs rs (elim m [
    | n.IsGlobal (n.Variable number type_name length each) ↦ e.ToElement place number (n.kind_named type_name) index
    | _ ↦ e.ToLocal place 0 Int
  ])
  target_element_follows place index n.IsUnknown i = tt
  target_element_follows place index (n.IsLocal l) i = tt
  target_element_follows place index (n.IsGlobal (n.Mutex number count)) i = tt
  target_element_follows place index (n.IsGlobal (n.Variable number type_name length each)) i = i
  target_element_follows place index (n.IsGlobal (n.Function number gives parameters)) i = tt
  target_element_follows place index (n.IsGlobal n.Thread) i = tt

use Rattle.std.proofs.Common.{◌≡◌, ◌++◌, [], List, length, map, drop, All}
use Rattle.c_tree.specs.Programs.{variable_of}
use Rattle.c_tree.specs.Flats.{statements_of, arms_list_of}
use Rattle.c_tree.specs.LockNames.{Held}
use Rattle.c_tree.specs.links.KnownNames.{names_of}
use Rattle.c_tree.specs.LockDiscipline.{Walked, walk_all, walk_arms}
use Rattle.lock_discipline.specs.links.Flow.{sets_in_all, sets_in_arms}
use Rattle.lock_discipline.proofs.walk.+walk.Given as goal

abbrev pub invariant-walk_statements-loop-statement : goal.invariant-walk_statements-loop-statement
invariant-walk_statements-loop-statement l = record {
  long : length l.end ≡ length (names_of l.names);
  walk : walk_all l.language (map variable_of l.variables) (names_of l.names) l.fn.held (statements_of l.statements)
      ≡ walk_all l.language (map variable_of l.variables) (names_of l.names) l.end (statements_of (drop l.statement-index l.statements));
  sets : l.sets.items ++ sets_in_all (names_of l.names) l.end (statements_of (drop l.statement-index l.statements))
      ≡ l.initial.sets.items ++ sets_in_all (names_of l.names) l.fn.held (statements_of l.statements);
}

abbrev pub invariant-walk_arms-loop-arm : goal.invariant-walk_arms-loop-arm
invariant-walk_arms-loop-arm l = record {
  long : All (λ h. length h ≡ length (names_of l.names)) l.ends.items;
  walk : (after : List Held → Walked) → walk_arms l.language (map variable_of l.variables) (names_of l.names) l.held [] (arms_list_of l.arms) after
      ≡ walk_arms l.language (map variable_of l.variables) (names_of l.names) l.held l.ends.items (arms_list_of (drop l.arm-index l.arms)) after;
  sets : l.sets.items ++ sets_in_arms (names_of l.names) l.held (arms_list_of (drop l.arm-index l.arms))
      ≡ l.initial.sets.items ++ sets_in_arms (names_of l.names) l.held (arms_list_of l.arms);
}

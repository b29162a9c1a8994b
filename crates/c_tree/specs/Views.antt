-- The trees that the types of `tree` represent: the same, with lists for vectors and no boxes.
use Rattle.std.specs.Prelude.{List, [], ◌∷◌, map, Option, Some, None}
use Rattle.std.specs.Box.{box_value}
use Rattle.std.specs.Option.{option_map}
use Rattle.c_tree.specs.Trees as t
use Rattle.c_tree.specs.declared.tree.Name as n
use Rattle.c_tree.specs.declared.tree.Expression as e
use Rattle.c_tree.specs.declared.tree.TypeName.{TypeName}
use Rattle.c_tree.specs.declared.tree.TypeName.TheVariants as type_name
use Rattle.c_tree.specs.declared.tree.Lvalue.{Lvalue}
use Rattle.c_tree.specs.declared.tree.Lvalue.TheVariants as lvalue
use Rattle.c_tree.specs.declared.tree.Change.{Change}
use Rattle.c_tree.specs.declared.tree.Change.TheVariants as change
use Rattle.c_tree.specs.declared.tree.Assignment.{Assignment}
use Rattle.c_tree.specs.declared.tree.Call.{Call}
use Rattle.c_tree.specs.declared.tree.Initial.{Initial}
use Rattle.c_tree.specs.declared.tree.Initial.TheVariants as begins
use Rattle.c_tree.specs.declared.tree.Declaration.{Declaration}
use Rattle.c_tree.specs.declared.tree.First.{First}
use Rattle.c_tree.specs.declared.tree.First.TheVariants as first
use Rattle.c_tree.specs.declared.tree.Statement as s
use Rattle.c_tree.specs.declared.tree.Block.{Block}
use Rattle.c_tree.specs.declared.tree.Arm.{Arm}
use Rattle.c_tree.specs.declared.tree.Return.{Return}
use Rattle.c_tree.specs.declared.tree.Body.{Body}
use Rattle.c_tree.specs.declared.tree.Parameter.{Parameter}
use Rattle.c_tree.specs.declared.tree.Function.{Function}
use Rattle.c_tree.specs.declared.tree.Signed.{Signed}
use Rattle.c_tree.specs.declared.tree.Initialiser.{Initialiser}
use Rattle.c_tree.specs.declared.tree.Initialiser.TheVariants as initialiser
use Rattle.c_tree.specs.declared.tree.Length.{Length}
use Rattle.c_tree.specs.declared.tree.Guard.{Guard}
use Rattle.c_tree.specs.declared.tree.Persistent.{Persistent}
use Rattle.c_tree.specs.declared.tree.Thread.{Thread}
use Rattle.c_tree.specs.declared.tree.Item.{Item}
use Rattle.c_tree.specs.declared.tree.Item.TheVariants as item
use Rattle.c_tree.specs.declared.tree.Tree.{Tree}

abbrev pub name_of : n.Name → t.Name
name_of x = record { text = x.text.items; place = x.place }

abbrev pub type_name_of : TypeName → t.TypeName
type_name_of (type_name.Kind kind) = t.OfKind kind
type_name_of (type_name.Reference array) = t.RefTo (name_of array)

abbrev pub expression_of : e.Expression → t.Expression
expression_of (e.Number place value) = t.Number place value
expression_of (e.Named x) = t.Named (name_of x)
expression_of (e.Element' array _ index) = t.Element (name_of array) (expression_of index)
expression_of (e.Null place) = t.Null place
expression_of (e.Address' place array _ index) = t.Address place (name_of array) (expression_of index)
expression_of (e.Referent place reference) = t.Referent place (name_of reference)
expression_of (e.Parenthesised' place _ inner) = t.Parenthesised place (expression_of inner)
expression_of (e.Unary' place operator _ operand) = t.Unary place operator (expression_of operand)
expression_of (e.Cast' place kind _ operand) = t.Cast place kind (expression_of operand)
expression_of (e.Binary' operator _ left _ right) = t.Binary operator (expression_of left) (expression_of right)
expression_of (e.Conditional' _ condition _ then _ otherwise) = t.Conditional (expression_of condition) (expression_of then) (expression_of otherwise)

abbrev pub lvalue_of : Lvalue → t.Lvalue
lvalue_of (lvalue.Named x index) = t.Target (name_of x) (option_map expression_of index)
lvalue_of (lvalue.Followed place reference) = t.Followed place (name_of reference)

abbrev pub change_of : Change → t.Change
change_of (change.Set value) = t.Set (expression_of value)
change_of (change.Update operator value) = t.Update operator (expression_of value)
change_of change.Increment = t.Increment
change_of change.Decrement = t.Decrement

abbrev pub assignment_of : Assignment → t.Assignment
assignment_of x = record { place = x.place; target = lvalue_of x.target; change = change_of x.change }

abbrev pub call_of : Call → t.Call
call_of x = record { function = name_of x.function; arguments = map expression_of x.arguments.items }

abbrev pub initial_of : Initial → t.Initial
initial_of begins.Absent = t.Absent
initial_of (begins.Expression x) = t.Value (expression_of x)
initial_of (begins.Call x) = t.Result (call_of x)

abbrev pub declaration_of : Declaration → t.Declaration
declaration_of x = record { place = x.place; type_name = type_name_of x.type_name; name = name_of x.name; initial = initial_of x.initial }

abbrev pub first_of : First → t.First
first_of first.Absent = t.NoFirst
first_of (first.Declaration x) = t.Declared (declaration_of x)
first_of (first.Assignment x) = t.Assigned (assignment_of x)

abbrev mutual
  pub statement_of : s.Statement → t.Statement
  statement_of (s.Block' opening _ inside closing) = t.BlockOf (t.Braced opening (row_of inside) closing)
  statement_of (s.Empty place) = t.Empty place
  statement_of (s.Declaration x) = t.Declare (declaration_of (box_value x))
  statement_of (s.Assignment x) = t.Assign (assignment_of (box_value x))
  statement_of (s.CallAssignment x c) = t.AssignResult (lvalue_of (box_value x)) (call_of (box_value c))
  statement_of (s.Call c) = t.CallOnly (call_of (box_value c))
  statement_of (s.If' place _ arms s.None') = t.If place (arms_of arms) t.Nothing
  statement_of (s.If' place _ arms (s.Some' opening _ inside closing)) = t.If place (arms_of arms) (t.Else (t.Braced opening (row_of inside) closing))
  statement_of (s.While' place x opening _ inside closing) = t.While place (expression_of (box_value x)) (t.Braced opening (row_of inside) closing)
  statement_of (s.Do' place opening _ inside closing x) = t.Do place (t.Braced opening (row_of inside) closing) (expression_of (box_value x))
  statement_of (s.For' place x opening _ inside closing) =
      let head = box_value x in
      t.For place (first_of head.first) (option_map expression_of head.condition) (option_map assignment_of head.last)
      (t.Braced opening (row_of inside) closing)
  statement_of (s.Lock place mutex key) = t.Lock place (name_of mutex) (option_map (λ x. expression_of (box_value x)) key)
  statement_of (s.Unlock place mutex key) = t.Unlock place (name_of mutex) (option_map (λ x. expression_of (box_value x)) key)

  pub row_of : {m : _} → s.Row_of-Statement m → t.Statements
  row_of s.end_of-Statement = t.no_statement
  row_of (s.more_of-Statement x rest) = t.statement_and (statement_of x) (row_of rest)

  pub arms_of : {m : _} → s.Row_of-Arm m → t.Arms
  arms_of s.end_of-Arm = t.no_arm
  arms_of (s.more_of-Arm x opening _ inside closing rest) = t.arm_and (expression_of x) (t.Braced opening (row_of inside) closing) (arms_of rest)

abbrev pub statements_of : List s.Statement → t.Statements
statements_of [] = t.no_statement
statements_of (x ∷ xs) = t.statement_and (statement_of x) (statements_of xs)

abbrev pub block_of : Block → t.Block
block_of x = t.Braced x.opening (statements_of x.statements.items) x.closing

abbrev pub arms_list_of : List Arm → t.Arms
arms_list_of [] = t.no_arm
arms_list_of (x ∷ xs) = t.arm_and (expression_of x.condition) (block_of x.block) (arms_list_of xs)

abbrev pub otherwise_of : Option Block → t.Otherwise
otherwise_of None = t.Nothing
otherwise_of (Some x) = t.Else (block_of x)

abbrev pub return_of : Return → t.Return
return_of x = record { place = x.place; value = option_map expression_of x.value }

abbrev pub body_of : Body → t.Body
body_of x = record { opening = x.opening; statements = statements_of x.statements.items; returned = option_map return_of x.returned; closing = x.closing }

abbrev pub parameter_of : Parameter → t.Parameter
parameter_of x = record { type_name = type_name_of x.type_name; name = name_of x.name }

abbrev pub function_of : Function → t.Function
function_of x =
    record { type_name = option_map type_name_of x.type_name; name = name_of x.name; parameters = map parameter_of x.parameters.items; body = body_of x.body }

abbrev pub signed_of : Signed → t.Signed
signed_of x = record { place = x.place; negative = x.negative; value = x.value }

abbrev pub initialiser_of : Initialiser → t.Initialiser
initialiser_of (initialiser.Single x) = t.Single (signed_of x)
initialiser_of (initialiser.Braced place xs) = t.InBraces place (map signed_of xs.items)

abbrev pub length_of : Length → t.Length
length_of x = record { place = x.place; value = x.value }

abbrev pub guard_of : Guard → t.Guard
guard_of x = record { mutex = name_of x.mutex; each = x.each }

abbrev pub persistent_of : Persistent → t.Persistent
persistent_of x = record {
  guard = guard_of x.guard;
  type_name = type_name_of x.type_name;
  name = name_of x.name;
  length = option_map length_of x.length;
  initialiser = option_map initialiser_of x.initialiser;
}

abbrev pub thread_of : Thread → t.Thread
thread_of x = record { name = name_of x.name; block = block_of x.block }

abbrev pub item_of : Item → t.Item
item_of (item.Mutex x) = t.MutexItem (name_of x.name) (option_map length_of x.length)
item_of (item.Persistent x) = t.PersistentItem (persistent_of x)
item_of (item.Thread x) = t.ThreadItem (thread_of x)
item_of (item.Function x) = t.FunctionItem (function_of x)

-- the parts of a program
abbrev pub items_of : Tree → List t.Item
items_of x = map item_of x.items.items

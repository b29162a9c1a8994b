-- What an assignment changes of a thread.
use Rattle.std.specs.Prelude.{◌≡◌, ℕ, List, Option, Bool, ℤ}
use Rattle.std.specs.Option.{option_map}
use Rattle.c_tree.specs.Exprs.{Expr, Lvalue}
use Rattle.c_tree.specs.Flats as f
use Rattle.c_tree.specs.Source as m
use Rattle.source_machine.specs.declared.assignment.Pending.{Pending}

abbrev pub pending_of : Pending → m.Pending
pending_of p = record { variable = p.variable; element = p.element; number = p.number }

-- a thread's locals and its pending store
pub record Assigning : Type 0 where
  pub locals : List ℤ
  pub pending : Option m.Pending

abbrev pub assigning : List ℤ → Option Pending → Assigning
assigning locals pending = record { locals = locals; pending = option_map pending_of pending }

-- a thread with these
abbrev pub thread_with : Assigning → (left : List f.Statement) → (ended : Bool) → m.Thread
thread_with a left ended = record { left = left; locals = a.locals; pending = a.pending; ended = ended }

-- locals and pending store become those of a thread that has evaluated the value for the target
abbrev pub Evaluates : Lvalue → Expr → (variables : List (List ℤ)) → (before after : Assigning) → Type 0
Evaluates target value variables before after = (left : List f.Statement) (ended : Bool) (holders : List (Option ℕ)) (threads : List m.Thread) →
    thread_with after left ended ≡ m.evaluated (record { variables = variables; holders = holders; threads = threads })
    (thread_with before left ended) target value

-- Calls: which of them lead back, and the flat form, in which each call is its body with fresh locals.
use Rattle.std.specs.Prelude.{◌≡◌, ℕ, zero, suc, ◌+◌, ◌≤◌, List, [], ◌∷◌, ◌++◌, length, map, Contains, slice_get, slice_index_or, Option, Some, None}
use Rattle.std.specs.Option.{option_map}
use Rattle.ido_base.specs.declared.place.Place.{Place}
use Rattle.ido_ints.specs.declared.kinds.Kind.{Kind}
use Rattle.ido_ints.specs.declared.kinds.Kind.TheVariants.{Int}
use Rattle.c_tree.specs.Exprs as e
use Rattle.c_tree.specs.Programs as p
use Rattle.c_tree.specs.Flats as f

-- ---- Calls that lead back

-- a call: the function that is called, and where its name stands
pub record Call : Type 0 where
  pub place : Place
  pub function : ℕ

abbrev mutual
  pub statement_calls : p.Statement → List Call
  statement_calls (p.Assign place target value) = []
  statement_calls (p.Call place name function arguments result) = record { place = name; function = function } ∷ []
  statement_calls (p.If place arms otherwise) = arms_calls arms ++ statements_calls otherwise
  statement_calls (p.While place condition body) = statements_calls body
  statement_calls (p.Do place body condition) = statements_calls body
  statement_calls (p.Lock place lock) = []
  statement_calls (p.Unlock place lock) = []

  pub statements_calls : p.Statements → List Call
  statements_calls p.no_statement = []
  statements_calls (p.statement_and x rest) = statement_calls x ++ statements_calls rest

  pub arms_calls : p.Arms → List Call
  arms_calls p.no_arm = []
  arms_calls (p.arm_and condition body rest) = statements_calls body ++ arms_calls rest

-- the calls in a function
abbrev pub calls_in : List p.Function → (function : ℕ) → List Call
calls_in fs function = elim (slice_get fs function) [
  | Some x ↦ statements_calls x.body
  | None ↦ []
]

-- calls lead from the one function to the other, or they are one
pub data CallsReach (fs : List p.Function) (to : ℕ) : (from : ℕ) → Type 0 where
  there : CallsReach fs to to
  by_call : (from : ℕ) (c : Call) → Contains (calls_in fs from) c → CallsReach fs to c.function → CallsReach fs to from

-- a call in a function of one from which calls lead to it
pub record LeadsBack (fs : List p.Function) (c : Call) : Type 0 where
  pub caller : ℕ
  pub made : Contains (calls_in fs caller) c
  pub back : CallsReach fs caller c.function

pub record IsFirstBack (fs : List p.Function) (place : Place) : Type 0 where
  pub call : Call
  pub stands : call.place ≡ place
  pub back : LeadsBack fs call
  pub first : (c : Call) → LeadsBack fs c → place.0 ≤ c.place.0

-- ---- Locals renumbered: those of a function begin at a number

abbrev pub shifted : (by : ℕ) → e.Expr → e.Expr
shifted n (e.Constant value) = e.Constant value
shifted n (e.Local local kind) = e.Local (n + local) kind
shifted n (e.Variable place variable kind) = e.Variable place variable kind
shifted n (e.Element place variable kind index_place index) = e.Element place variable kind index_place (shifted n index)
shifted n (e.Address variable index_place index) = e.Address variable index_place (shifted n index)
shifted n (e.Referent place last local) = e.Referent place last (n + local)
shifted n (e.Unary operator operand) = e.Unary operator (shifted n operand)
shifted n (e.Cast kind operand) = e.Cast kind (shifted n operand)
shifted n (e.Converted kind operand) = e.Converted kind (shifted n operand)
shifted n (e.Binary operator left right) = e.Binary operator (shifted n left) (shifted n right)
shifted n (e.Conditional kind condition chosen otherwise) = e.Conditional kind (shifted n condition) (shifted n chosen) (shifted n otherwise)

abbrev pub shifted_placed : (by : ℕ) → e.Placed → e.Placed
shifted_placed n x = record x { expr = shifted n x.expr }

abbrev pub shifted_target : (by : ℕ) → e.Lvalue → e.Lvalue
shifted_target n (e.ToLocal place local kind) = e.ToLocal place (n + local) kind
shifted_target n (e.ToVariable place variable kind) = e.ToVariable place variable kind
shifted_target n (e.ToElement place variable kind index) = e.ToElement place variable kind (shifted_placed n index)

abbrev pub shifted_lock : (by : ℕ) → e.LockName → e.LockName
shifted_lock n x = record x { key = option_map (shifted_placed n) x.key }

-- ---- The flat form

abbrev pub statements_and : f.Statements → f.Statements → f.Statements
statements_and f.no_statement more = more
statements_and (f.statement_and x xs) more = f.statement_and x (statements_and xs more)

abbrev pub one : f.Statement → f.Statements
one x = f.statement_and x f.no_statement

-- the kinds of locals, and what each refers to
pub record Locals : Type 0 where
  pub kinds : List Kind
  pub refers : List (Option ℕ)

abbrev pub locals : List Kind → List (Option ℕ) → Locals
locals kinds refers = record { kinds = kinds; refers = refers }

-- the ones and then the others
abbrev pub joined : Locals → Locals → Locals
joined x y = locals (x.kinds ++ y.kinds) (x.refers ++ y.refers)

-- what is made of a part, and all locals of the thread after it
pub record Made (A : Type 0) : Type 0 where
  pub made : A
  pub locals : Locals

-- parameters take the arguments, as if by assignment (C11 6.5.2.2, paragraph 7): the locals from the first number on
abbrev pub passed : Place → (first : ℕ) → List Kind → List e.Placed → f.Statements
passed place n ks [] = f.no_statement
passed place n ks (x ∷ xs) = f.statement_and (f.Assign place (e.ToLocal place n (slice_index_or ks 0 Int)) x) (passed place (n + 1) (drop_first ks) xs)
  where
    drop_first : List Kind → List Kind
    drop_first [] = []
    drop_first (j ∷ js) = js

-- the result, converted to its function's kind (C11 6.8.6.4), is assigned
abbrev pub assigned : Place → (by : ℕ) → Option p.Returned → Option e.Lvalue → f.Statements
assigned place n (Some x) (Some target) = one (f.Assign place target (record { place = x.value.place; expr = e.Converted x.kind (shifted n x.value.expr) }))
assigned place n (Some x) None = f.no_statement
assigned place n None target = f.no_statement

-- a call of which nothing is left has no locals
abbrev pub locals_after : f.Statements → (before after : Locals) → Locals
locals_after f.no_statement before after = before
locals_after (f.statement_and x xs) before after = after

-- a call's function with its locals after those
abbrev pub Bodies : Type 0
Bodies = (function : ℕ) → Locals → Made f.Statements

module _ (fs : List p.Function) (bodies : Bodies) where
  -- the parameters, the body, the result
  abbrev pub called : Place → (by : ℕ) → Locals → p.Function → (body : Made f.Statements) → List e.Placed → Option e.Lvalue → Made f.Statements
  called place n ks x body arguments result =
      let made = statements_and (passed place (length ks.kinds) x.locals (map (shifted_placed n) arguments))
      (statements_and body.made (assigned place (length ks.kinds) x.result (option_map (shifted_target n) result))) in
      record { made = made; locals = locals_after made ks body.locals }

  abbrev mutual
    pub statement : (by : ℕ) → Locals → p.Statement → Made f.Statements
    statement n ks (p.Assign place target value) = record { made = one (f.Assign place (shifted_target n target) (shifted_placed n value)); locals = ks }
    statement n ks (p.Call place name function arguments result) = elim (slice_get fs function) [
      | Some x ↦ called place n ks x (bodies function ks) arguments result
      | None ↦ record { made = f.no_statement; locals = ks }
    ]
    statement n ks (p.If place arms otherwise) =
        let a = arms_of n ks arms in
        let o = statements n a.locals otherwise in
        record { made = one (f.If place a.made o.made); locals = o.locals }
    statement n ks (p.While place condition body) =
        let m = statements n ks body in record { made = one (f.While place (shifted_placed n condition) m.made); locals = m.locals }
    statement n ks (p.Do place body condition) =
        let m = statements n ks body in record { made = one (f.Do place m.made (shifted_placed n condition)); locals = m.locals }
    statement n ks (p.Lock place lock) = record { made = one (f.Lock place (shifted_lock n lock)); locals = ks }
    statement n ks (p.Unlock place lock) = record { made = one (f.Unlock place (shifted_lock n lock)); locals = ks }

    pub statements : (by : ℕ) → Locals → p.Statements → Made f.Statements
    statements n ks p.no_statement = record { made = f.no_statement; locals = ks }
    statements n ks (p.statement_and x rest) =
        let m = statement n ks x in
        let r = statements n m.locals rest in
        record { made = statements_and m.made r.made; locals = r.locals }

    pub arms_of : (by : ℕ) → Locals → p.Arms → Made f.Arms
    arms_of n ks p.no_arm = record { made = f.no_arm; locals = ks }
    arms_of n ks (p.arm_and condition body rest) =
        let m = statements n ks body in
        let r = arms_of n m.locals rest in
        record { made = f.arm_and (shifted_placed n condition) m.made r.made; locals = r.locals }

-- the bodies of functions, with calls at most so deep: where no call leads back, they are no deeper than there are functions
abbrev pub bodies_of : List p.Function → (deep : ℕ) → Bodies
bodies_of fs zero function ks = record { made = f.no_statement; locals = ks }
bodies_of fs (suc deep) function ks = elim (slice_get fs function) [
  | Some x ↦ statements fs (bodies_of fs deep) (length ks.kinds) (joined ks (locals x.locals x.refers)) x.body
  | None ↦ record { made = f.no_statement; locals = ks }
]

abbrev pub flat_thread : List p.Function → p.Thread → f.Thread
flat_thread fs x =
    let m = statements fs (bodies_of fs (length fs)) 0 (locals x.locals x.refers) x.body in
    record { name = x.name; locals = m.locals.kinds; refers = m.locals.refers; body = m.made; closing = x.closing }

unfoldable pub flat_form : p.Program → f.Flat
flat_form x = record { mutexes = x.mutexes; variables = x.variables; threads = map (flat_thread x.functions) x.threads }

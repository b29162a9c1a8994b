-- What is made of a tree assigns each of its locals before it reads it: a name means none but those that are declared, and each declaration assigns.
use Rattle.std.proofs.Common.{◌≡◌, ◌⊎◌, refl, ℕ, ◌+◌, ◌<◌, List, [], ◌∷◌, length}
use Rattle.std.proofs.Common.{Bool, true, false, Some, None, inl, inr, ⊎_elim, arith}
use Rattle.std.specs.List.{AllByRecursion}
use Rattle.std.specs.Option.{option_map}
use Rattle.std.proofs.lemmas.List.{length_push}
use Rattle.ido_base.specs.declared.place.Place.{Place}
use Rattle.c_tree.specs.Trees as t
use Rattle.c_tree.specs.Exprs as e
use Rattle.c_tree.specs.Names as n
use Rattle.c_tree.specs.Programs as p
use Rattle.c_tree.specs.Elaboration as made
use Rattle.c_tree.specs.Elaboration.{typed_program}
use Rattle.first_assignments.proofs.KnownReads.{Unknown, assignment_later, call_assigns, call_later, expr_none, given_none, key_none, last_later}
use Rattle.first_assignments.proofs.KnownReads.{maybe_none, target_none}
use Rattle.first_assignments.proofs.FirstReads.{GivenReadsNone}
use Rattle.first_assignments.proofs.FirstReads.{TypedAssigns, TypedAssign, TypedReadsLater, TypedReadLater, TypedArmsReadLater}
use Rattle.first_assignments.proofs.FirstReads.{typed_first, typed_second, typed_both}

module _ (gs : List n.Global) (told : ℕ → Bool) where
  -- ---- Declarations

  -- what is made of a part reads the local later; and it assigns it, or the local is none that is known after it
  pub record Follows (xs : p.Statements) (known : List n.Local) : Type 0 where
    pub later : TypedReadLater told xs
    pub after : TypedAssign told xs ⊎ Unknown told known

  declaration_follows : (place : Place) (s : n.Scope) (y : t.Declaration) → Unknown told s.known →
      Follows (made.one (made.declaration_at gs place s y)) (n.declared gs s y.name.text y.type_name).known
  declaration_follows place s y h = record { later = (later y.initial, inr tt); after = after (told (length s.kinds)) refl }
    where
      new : e.Lvalue
      new = e.ToLocal y.place (length s.kinds) (n.kind_named y.type_name)

      later : (o : t.Initial) → TypedReadsLater told (elim o [
        | t.Absent ↦ p.Assign place new (record { place = y.place; expr = made.int 0 })
        | t.Value value ↦ p.Assign place new (made.placed gs s value)
        | t.Result c ↦ made.call gs place s c (Some new)
      ])
      later t.Absent = (tt, tt)
      later (t.Value value) = (tt, expr_none gs told s h value)
      later (t.Result c) = call_later gs told s h place c (Some new) tt

      assigns : (o : t.Initial) → told (length s.kinds) ≡ true → TypedAssigns told (elim o [
        | t.Absent ↦ p.Assign place new (record { place = y.place; expr = made.int 0 })
        | t.Value value ↦ p.Assign place new (made.placed gs s value)
        | t.Result c ↦ made.call gs place s c (Some new)
      ])
      assigns t.Absent is = is
      assigns (t.Value value) is = is
      assigns (t.Result c) is = call_assigns gs told s h place c (Some new) is

      after : (b : Bool) → told (length s.kinds) ≡ b →
          TypedAssign told (made.one (made.declaration_at gs place s y)) ⊎ Unknown told (n.declared gs s y.name.text y.type_name).known
      after true is = inl (inl (assigns y.initial is))
      after false is = inr (is, h)

  first_follows : (place : Place) (s : n.Scope) (y : t.First) → Unknown told s.known →
      Follows (made.first_at gs place s y).made (made.first_at gs place s y).scope.known
  first_follows place s t.NoFirst h = record { later = tt; after = inr h }
  first_follows place s (t.Declared y) h = declaration_follows place s y h
  first_follows place s (t.Assigned y) h = record { later = (assignment_later gs told s h place y, inr tt); after = inr h }

  -- ---- Statements

  inside_unknown : (s : n.Scope) (y : t.Block) → Unknown told s.known → Unknown told (made.inside gs s y).scope.known
  inside_unknown s (t.Braced opening ys closing) h = h

  arms_unknown : (s : n.Scope) (ys : t.Arms) → Unknown told s.known → Unknown told (made.arms_of gs s ys).scope.known
  arms_unknown s t.no_arm h = h
  arms_unknown s (t.arm_and y body rest) h = arms_unknown (made.inside gs s body).scope rest (inside_unknown s body h)

  otherwise_unknown : (s : n.Scope) (y : t.Otherwise) → Unknown told s.known → Unknown told (made.otherwise_of gs s y).scope.known
  otherwise_unknown s t.Nothing h = h
  otherwise_unknown s (t.Else body) h = inside_unknown s body h

  mutual
    statement_follows : (s : n.Scope) (y : t.Statement) → Unknown told s.known →
        Follows (made.statement gs s y).made (made.statement gs s y).scope.known
    statement_follows s (t.BlockOf y) h = record { later = inside_later s y h; after = inr (inside_unknown s y h) }
    statement_follows s (t.Empty place) h = record { later = tt; after = inr h }
    statement_follows s (t.Declare y) h = declaration_follows y.place s y h
    statement_follows s (t.Assign y) h = record { later = (assignment_later gs told s h y.place y, inr tt); after = inr h }
    statement_follows s (t.AssignResult y c) h = record {
      later = (call_later gs told s h (made.target_place y) c (Some (made.target gs s y)) (target_none gs told s h y), inr tt);
      after = inr h;
    }
    statement_follows s (t.CallOnly c) h = record { later = (call_later gs told s h c.function.place c None tt, inr tt); after = inr h }
    statement_follows s (t.If place arms otherwise) h =
        let mid = (made.arms_of gs s arms).scope in
        let known = arms_unknown s arms h in record {
          later = ((arms_later s arms h, otherwise_later mid otherwise known), inr tt);
          after = inr (otherwise_unknown mid otherwise known);
        }
    statement_follows s (t.While place y body) h =
        record { later = ((expr_none gs told s h y, inside_later s body h), inr tt); after = inr (inside_unknown s body h) }
    statement_follows s (t.Do place body y) h =
        let known = inside_unknown s body h in
        record { later = ((inside_later s body h, expr_none gs told (made.inside gs s body).scope known y), inr tt); after = inr known }
    statement_follows s (t.For place start y last body) h =
        let m = made.first_at gs place (n.entered s) start in
        let first = first_follows place (n.entered s) start h in
        let inner = made.statements_and (made.inside gs m.scope body).made (made.last_at gs place m.scope last) in
        let while = made.one (p.While place (made.condition_at gs place m.scope y) inner) in record {
          later = typed_both told m.made while first.later (⊎_elim (λ a. inl a)
              (λ known. inr (
                (
                  maybe_none gs told m.scope known place y,
                  typed_both told (made.inside gs m.scope body).made (made.last_at gs place m.scope last) (inside_later m.scope body known)
                      (inr (last_later gs told m.scope known place last)),
                ),
                inr tt,
              )) first.after);
          after = inr h;
        }
    statement_follows s (t.Lock place mutex key) h = record { later = (key_none gs told s h key, inr tt); after = inr h }
    statement_follows s (t.Unlock place mutex key) h = record { later = (key_none gs told s h key, inr tt); after = inr h }

    inside_later : (s : n.Scope) (y : t.Block) → Unknown told s.known → TypedReadLater told (made.inside gs s y).made
    inside_later s (t.Braced opening ys closing) h = (statements_follow (n.entered s) ys h).later

    pub statements_follow : (s : n.Scope) (ys : t.Statements) → Unknown told s.known →
        Follows (made.statements gs s ys).made (made.statements gs s ys).scope.known
    statements_follow s t.no_statement h = record { later = tt; after = inr h }
    statements_follow s (t.statement_and y ys) h =
        let m = made.statement gs s y in
        let rest = made.statements gs m.scope ys in
        let one = statement_follows s y h in
        ⊎_elim
        (λ a.
        let is : Follows (made.statements_and m.made rest.made) rest.scope.known = record {
          later = typed_both told m.made rest.made one.later (inl a);
          after = inl (typed_first told m.made rest.made a);
        } in is)
        (λ known.
        let more = statements_follow m.scope ys known in
        let is : Follows (made.statements_and m.made rest.made) rest.scope.known = record {
          later = typed_both told m.made rest.made one.later (inr more.later);
          after = ⊎_elim (λ a. inl (typed_second told m.made rest.made a)) (λ k. inr k) more.after;
        } in is)
        one.after

    arms_later : (s : n.Scope) (ys : t.Arms) → Unknown told s.known → TypedArmsReadLater told (made.arms_of gs s ys).made
    arms_later s t.no_arm h = tt
    arms_later s (t.arm_and y body rest) h =
        (expr_none gs told s h y, inside_later s body h, arms_later (made.inside gs s body).scope rest (inside_unknown s body h))

    otherwise_later : (s : n.Scope) (y : t.Otherwise) → Unknown told s.known → TypedReadLater told (made.otherwise_of gs s y).made
    otherwise_later s t.Nothing h = tt
    otherwise_later s (t.Else body) h = inside_later s body h

  -- ---- Functions

  -- parameters have the first numbers
  parameters_unknown : (s : n.Scope) (ys : List t.Parameter) → ((k : ℕ) → k < length s.kinds + length ys → told k ≡ false) → Unknown told s.known →
      Unknown told (made.with_parameters gs s ys).known
  parameters_unknown s [] none h = h
  parameters_unknown s (y ∷ ys) none h =
      parameters_unknown (n.declared gs s y.name.text y.type_name) ys
      (λ k l. none k (omega (arith, length_push s.kinds (n.kind_named y.type_name), l)))
      (none (length s.kinds) (omega arith), h)

-- the body of a function reads the local later; and it assigns it, or the value that the function gives doesn't read it
pub record FunctionReadsLater (told : ℕ → Bool) (y : p.Function) : Type 0 where
  pub body : TypedReadLater told y.body
  pub given : TypedAssign told y.body ⊎ GivenReadsNone told y.result

-- each local that is no parameter
abbrev pub IsFunctionLater : p.Function → Type 0
IsFunctionLater y = (told : ℕ → Bool) → ((k : ℕ) → k < y.parameters → told k ≡ false) → FunctionReadsLater told y

abbrev pub IsThreadLater : p.Thread → Type 0
IsThreadLater y = (told : ℕ → Bool) → TypedReadLater told y.body

pub record ProgramReadsLater (x : p.Program) : Type 0 where
  pub functions : AllByRecursion IsFunctionLater x.functions
  pub threads : AllByRecursion IsThreadLater x.threads

module _ (gs : List n.Global) where
  function_later : (y : t.Function) → IsFunctionLater (made.function gs y)
  function_later y = λ told none.
      let s = made.with_parameters gs n.no_locals y.parameters in
      let known = parameters_unknown gs told n.no_locals y.parameters (λ k l. none k (omega (arith, l))) tt in
      let m = statements_follow gs told s y.body.statements known in
      let end = (made.statements gs s y.body.statements).scope in
      record {
        body = m.later;
        given = ⊎_elim (λ a. inl a) (λ k. inr (given_none gs told end k (option_map n.kind_named y.type_name) y.body.returned)) m.after;
      }

  thread_later : (y : t.Thread) → IsThreadLater (made.thread gs y)
  thread_later y = λ told. (statements_follow gs told n.no_locals (made.body_of y.block) tt).later

  program_later : (xs : List t.Item) → ProgramReadsLater (made.program_from gs xs)
  program_later [] = record { functions = tt; threads = tt }
  program_later (x ∷ xs) = add x (program_later xs)
    where
      add : (y : t.Item) → ProgramReadsLater (made.program_from gs xs) → ProgramReadsLater (made.with_item gs y (made.program_from gs xs))
      add (t.MutexItem y count) r = record { functions = r.functions; threads = r.threads }
      add (t.PersistentItem y) r = record { functions = r.functions; threads = r.threads }
      add (t.FunctionItem y) r = record { functions = (function_later y, r.functions); threads = r.threads }
      add (t.ThreadItem y) r = record { functions = r.functions; threads = (thread_later y, r.threads) }

pub typed_later : (xs : List t.Item) → ProgramReadsLater (typed_program xs)
unfolding typed_program
typed_later xs = program_later (n.globals_of xs) xs

-- A text without faults in the plain language that is read in the full one, too, has one tree: it has no name that the full language reserves.
use Rattle.std.proofs.Common.{◌≡◌, refl, sym, ◌∙◌, ap, subst, ℕ, ◌+◌, ◌≤◌, List, [], ◌∷◌, ◌++◌, length, find, flat_map, Option, Some, None}
use Rattle.std.proofs.Common.{Bool, true, false, not, ◌||◌, is_some, if◌then◌else◌}
use Rattle.std.specs.List.{AllByRecursion}
use Rattle.std.specs.Option.{option_map}
use Rattle.std.specs.Prelude.{◌==◌}
use Rattle.std.proofs.lemmas.Slice.Eq.{bytes_eq-Decides}
use Rattle.ido_base.specs.declared.place.Place.{Place}
use Rattle.ido_base.specs.declared.limits.TheConstants.{MOST_THREADS}
use Rattle.ido_ints.specs.declared.operators.Binary.TheVariants as binary
use Rattle.c_tree.specs.declared.language.Language.TheVariants.{Plain, Full}
use Rattle.c_tree.specs.declared.rule.Rule as r
use Rattle.c_tree.specs.declared.rule.Rule.TheVariants as rule
use Rattle.c_tree.specs.declared.token.Keyword as kw
use Rattle.c_tree.specs.declared.token.Keyword.TheVariants as k
use Rattle.c_tree.specs.declared.token.Punctuator as pn
use Rattle.c_tree.specs.declared.token.Punctuator.TheVariants as p
use Rattle.c_tree.specs.LexicalScan.{Fault, full_lexeme, full_mark, full_name, more_reserved, plain_scanned, same, scanned}
use Rattle.c_tree.specs.Tokens.{Token, Lexeme, Name, Keyword, Number, Punctuator}
use Rattle.c_tree.specs.TextReadings.{IsRead, Nesting, is_high, is_high_from, nests_high, outside, within_lexeme, within_mark}
use Rattle.c_tree.specs.Trees as t
use Rattle.c_tree.specs.Names as n
use Rattle.c_tree.specs.TypeRules as rules
use Rattle.c_tree.specs.TypeRules.{broken, broken_if, type_faults}
use Rattle.c_tree.specs.Elaboration as made
use Rattle.c_tree.specs.Languages.{◌⋅◌, word_at, mark}
use Rattle.c_tree.specs.Languages.{name, all_of, more_of, some_of, list_of, maybe}
use Rattle.c_tree.specs.Grammar as g
use Rattle.c_tree.specs.Grammar.{expression, expression_from, highest_precedence, precedence, type_name}
use Rattle.ido_compile.proofs.Checks.{no_prefix, no_back}
use Rattle.ido_compile.proofs.ReservedNames.{opened, program_closed}
use Rattle.ido_compile.proofs.LiftedTokens.{IsApart, IsFree, Lifted, find_both, first_apart, fuller, last_apart, lift_empty, lift_mark, lift_mark_at}
use Rattle.ido_compile.proofs.LiftedTokens.{lift_name, lift_never, lift_number, lift_number_at, lift_operator, lift_or, lift_provided, lift_seq}
use Rattle.ido_compile.proofs.LiftedTokens.{lift_starting, lift_type, lift_unary, lift_word, lift_word_at, name_after, type_opens, word_opens}

not_broken : (found : r.Rule) (place : Place) → broken found place ≡ [] → ⊥
not_broken found place h = cc

-- ---- Names and numbers that are spelled so in both languages

lift_bracketed : {P Q : List Token → Type 0} → Lifted P Q → Lifted (mark p.OpenBracket ⋅ P ⋅ mark p.CloseBracket) (mark p.OpenBracket ⋅ Q ⋅ mark p.CloseBracket)
lift_bracketed h = lift_seq (lift_mark p.OpenBracket refl) (lift_seq h (lift_mark p.CloseBracket refl))

lift_length : (x : t.Length) → Lifted (g.length_of x) (g.length_of x)
lift_length x = lift_bracketed (lift_number_at x.place x.value)

lift_lengths : (x : Option t.Length) → Lifted (maybe g.length_of x) (maybe g.length_of x)
lift_lengths None = lift_empty
lift_lengths (Some x) = lift_length x

lift_sign : (negative : Bool) → Lifted (g.sign negative) (g.sign negative)
lift_sign true = lift_mark (p.Binary binary.Sub) refl
lift_sign false = lift_empty

lift_signed : (x : t.Signed) → Lifted (g.signed x) (g.signed x)
lift_signed x = lift_starting x.place (lift_seq (lift_sign x.negative) (lift_number x.value))

lift_more_signed : (xs : List t.Signed) → Lifted (more_of g.signed xs) (more_of g.signed xs)
lift_more_signed [] = lift_empty
lift_more_signed (x ∷ xs) = lift_seq (lift_seq (lift_mark p.Comma refl) (lift_signed x)) (lift_more_signed xs)

lift_some_signed : (xs : List t.Signed) → Lifted (some_of g.signed xs) (some_of g.signed xs)
lift_some_signed [] = lift_never
lift_some_signed (x ∷ xs) = lift_seq (lift_signed x) (lift_more_signed xs)

lift_initialiser : (x : t.Initialiser) → Lifted (g.initialiser x) (g.initialiser x)
lift_initialiser (t.Single x) = lift_signed x
lift_initialiser (t.InBraces place xs) =
    lift_seq (lift_mark_at place p.OpenBrace refl) (lift_seq (lift_some_signed xs) (lift_seq (lift_or lift_empty (lift_mark p.Comma refl))
    (lift_mark p.CloseBrace refl)))

lift_assigned : (x : Option t.Initialiser) → Lifted (maybe g.assigned x) (maybe g.assigned x)
lift_assigned None = lift_empty
lift_assigned (Some x) = lift_seq (lift_mark p.Assign refl) (lift_initialiser x)

lift_brackets : (each : Bool) → Lifted (g.brackets Plain each) (g.brackets Full each)
lift_brackets false = lift_empty
lift_brackets true = lift_never

lift_mutex_length : (x : Option t.Length) → Lifted (g.mutex_length Plain x) (g.mutex_length Full x)
lift_mutex_length None = lift_empty
lift_mutex_length (Some x) = lift_never

lift_key : (x : Option t.Expression) → Lifted (g.key Plain x) (g.key Full x)
lift_key None = lift_empty
lift_key (Some x) = lift_never

-- the names that a scope knows are free
abbrev FreeScope : n.Scope → Type 0
FreeScope s = AllByRecursion (λ (l : n.Local). IsFree l.name) s.known

-- ---- Names of the whole text

module _ (gs : List n.Global) where
  -- a type that breaks no rule is a kind
  lift_type_name : (s : n.Scope) (x : t.TypeName) → rules.type_name_faults Plain gs s x ≡ [] → Lifted (type_name x) (type_name x)
  lift_type_name s (t.OfKind x) h = lift_type x
  lift_type_name s (t.RefTo array) h =
      absurd (not_broken rule.WrongSort array.place (no_prefix (broken rule.WrongSort array.place) (rules.array_faults Plain gs s array) h))

  type_name_opens : (s : n.Scope) (x : t.TypeName) → rules.type_name_faults Plain gs s x ≡ [] → (ts : List Token) → IsApart ts → type_name x ts →
      (o : Bool) → opened o (fuller ts) ≡ true
  type_name_opens s (t.OfKind x) h ts a d o = type_opens x ts a d o
  type_name_opens s (t.RefTo array) h ts a d o =
      absurd (not_broken rule.WrongSort array.place (no_prefix (broken rule.WrongSort array.place) (rules.array_faults Plain gs s array) h))

  -- a name that is declared is free
  declared_free : (s : n.Scope) (x : t.TypeName) (y : t.Name) (Q : List Token → Type 0) → rules.type_name_faults Plain gs s x ≡ [] → (ts : List Token) →
      IsApart ts → (type_name x ⋅ name y ⋅ Q) ts → IsFree y.text
  declared_free s x y Q h ts a d =
      name_after ts d.0 d.1 d.4.0 d.4.1 y d.2 d.4.2 d.4.3 (type_name_opens s x h d.0 (first_apart ts d.0 d.1 d.2 a) d.3) a

  lift_declared : (s : n.Scope) (x : t.TypeName) (y : t.Name) {P Q : List Token → Type 0} → rules.type_name_faults Plain gs s x ≡ [] → Lifted P Q →
      Lifted (type_name x ⋅ name y ⋅ P) (type_name x ⋅ name y ⋅ Q)
  lift_declared s x y {P = P} h rest = record {
    by = λ ts a d. (lift_seq (lift_type_name s x h) (lift_seq (lift_name y (declared_free s x y P h ts a d)) rest)).by ts a d;
  }

  parameter_free : (s : n.Scope) (x : t.Parameter) → rules.type_name_faults Plain gs s x.type_name ≡ [] → (ts : List Token) → IsApart ts →
      g.parameter x ts → IsFree x.name.text
  parameter_free s x h ts a d =
      name_after ts d.0 d.1 d.1 [] x.name d.2 (sym (nothing_more d.1)) d.4 (type_name_opens s x.type_name h d.0 (first_apart ts d.0 d.1 d.2 a) d.3) a
    where
      nothing_more : (us : List Token) → us ++ [] ≡ us
      nothing_more [] = refl
      nothing_more (u ∷ us) = ap (λ (vs : List Token). u ∷ vs) (nothing_more us)

  lift_parameter : (s : n.Scope) (x : t.Parameter) → rules.type_name_faults Plain gs s x.type_name ≡ [] → Lifted (g.parameter x) (g.parameter x)
  lift_parameter s x h = record {
    by = λ ts a d. (lift_seq (lift_type_name s x.type_name h) (lift_name x.name (parameter_free s x h ts a d))).by ts a d;
  }

  result_opens : (x : Option t.TypeName) → rules.result_faults Plain gs x ≡ [] → (ts : List Token) → IsApart ts → g.result x ts → (o : Bool) →
      opened o (fuller ts) ≡ true
  result_opens None h ts a d o = word_opens k.Void refl ts d o
  result_opens (Some x) h ts a d o = type_name_opens n.no_locals x h ts a d o

  lift_result : (x : Option t.TypeName) → rules.result_faults Plain gs x ≡ [] → Lifted (g.result x) (g.result x)
  lift_result None h = lift_word k.Void
  lift_result (Some x) h = lift_type_name n.no_locals x h

  -- ---- The names that items declare

  item_free : (c : n.Counts) (x : t.Item) → rules.item_faults Plain gs x ≡ [] → (ts : List Token) → IsApart ts → g.item Plain x ts →
      IsFree (n.global_of c x).name.text
  item_free c (t.MutexItem x length) h ts a d = name_after ts d.0 d.1 d.4.0 d.4.1 x d.2 d.4.2 d.4.3 (word_opens k.Mutex refl d.0 d.3) a
  item_free c (t.PersistentItem x) h ts a d =
      let before = ((rules.mutex_faults Plain gs n.no_locals x.guard.mutex x.guard.each ++ rules.each_faults Plain gs x) ++ rules.length_faults x.length)
      ++ rules.initialiser_faults x.type_name x.length x.initialiser in
      let a1 = last_apart ts d.0 d.1 d.2 a in
      let d1 = d.4 in
      let a2 = last_apart d.1 d1.0 d1.1 d1.2 a1 in
      let d2 = d1.4 in
      let a3 = last_apart d1.1 d2.0 d2.1 d2.2 a2 in
      let d3 = d2.4 in
      let a4 = last_apart d2.1 d3.0 d3.1 d3.2 a3 in
      let d4 = d3.4 in
      let a5 = last_apart d3.1 d4.0 d4.1 d4.2 a4 in
      declared_free n.no_locals x.type_name x.name _ (no_back before (rules.type_name_faults Plain gs n.no_locals x.type_name) h) d4.1 a5 d4.4
  item_free c (t.ThreadItem x) h ts a d = name_after ts d.0 d.1 d.4.0 d.4.1 x.name d.2 d.4.2 d.4.3 (word_opens k.Thread refl d.0 d.3) a
  item_free c (t.FunctionItem x) h ts a d =
      let s = made.with_parameters gs n.no_locals x.parameters in
      let p1 = rules.parameters_faults Plain gs n.no_locals x.parameters in
      let p2 = rules.statements_faults Plain gs s x.body.statements in
      let p3 = rules.returned_faults Plain gs (made.statements gs s x.body.statements).scope x x.body.returned in
      let p4 = rules.return_faults Plain gs x in
      let p5 = rules.result_faults Plain gs x.type_name in
      name_after ts d.0 d.1 d.4.0 d.4.1 x.name d.2 d.4.2 d.4.3
      (result_opens x.type_name (no_back (((p1 ++ p2) ++ p3) ++ p4) p5 h) d.0 (first_apart ts d.0 d.1 d.2 a) d.3) a

  items_free : (c : n.Counts) (xs : List t.Item) → flat_map (rules.item_faults Plain gs) xs ≡ [] → (ts : List Token) → IsApart ts →
      all_of (g.item Plain) xs ts → AllByRecursion (λ (y : n.Global). IsFree y.name.text) (n.globals_from c xs)
  items_free c [] h ts a d = tt
  items_free c (x ∷ xs) h ts a d = (
    item_free c x (no_prefix (rules.item_faults Plain gs x) (flat_map (rules.item_faults Plain gs) xs) h) d.0 (first_apart ts d.0 d.1 d.2 a) d.3,
    items_free (n.counted c x) xs (no_back (rules.item_faults Plain gs x) (flat_map (rules.item_faults Plain gs) xs) h) d.1 (last_apart ts d.0 d.1 d.2 a) d.4,
  )

-- ---- Where all names of the whole text are free

module _ (gs : List n.Global) (globals : AllByRecursion (λ (y : n.Global). IsFree y.name.text) gs) where
  -- a name that means something is free
  named_free : (s : n.Scope) (x : t.Name) → FreeScope s → (faults : n.Meaning → List Fault) → faults n.IsUnknown ≡ broken rule.Unknown x.place →
      faults (n.meaning gs s x.text) ≡ [] → IsFree x.text
  named_free s x free faults unknown h = local (find (λ (y : n.Local). n.same_name y.name x.text) s.known) refl h
    where
      global : (o : Option n.Global) → find (λ (y : n.Global). n.same_name y.name.text x.text) gs ≡ o →
          faults (elim (option_map (λ (y : n.Global). y.sort) o) [
            | Some sort ↦ n.IsGlobal sort
            | None ↦ n.IsUnknown
          ]) ≡ [] → IsFree x.text
      global None e q = absurd (not_broken rule.Unknown x.place (sym unknown ∙ q))
      global (Some y) e q =
          let it = find_both (λ (z : n.Global). IsFree z.name.text) (λ (z : n.Global). n.same_name z.name.text x.text) gs y globals e in
          subst IsFree ((bytes_eq-Decides y.name.text x.text).0 it.1) it.0

      local : (o : Option n.Local) → find (λ (y : n.Local). n.same_name y.name x.text) s.known ≡ o → faults (elim o [
        | Some y ↦ n.IsLocal y
        | None ↦ n.global_meaning gs x.text
      ]) ≡ [] → IsFree x.text
      local None e q = global (find (λ (y : n.Global). n.same_name y.name.text x.text) gs) refl q
      local (Some y) e q =
          let it = find_both (λ (z : n.Local). IsFree z.name) (λ (z : n.Local). n.same_name z.name x.text) s.known y free e in
          subst IsFree ((bytes_eq-Decides y.name x.text).0 it.1) it.0

  mutex_free : (s : n.Scope) (x : t.Name) → FreeScope s → (keyed : Bool) → rules.mutex_faults Plain gs s x keyed ≡ [] → IsFree x.text
  mutex_free s x free keyed h = named_free s x free (λ (m : n.Meaning). elim m as (λ _. List Fault) [
    | n.IsUnknown ↦ broken rule.Unknown x.place
    | n.IsGlobal (n.Mutex number count) ↦ broken_if (if is_some count then not keyed else keyed) rule.WrongSort x.place
    | _ ↦ broken rule.WrongSort x.place
  ]) refl h

  -- ---- Expressions, assignments, calls

  module _ (s : n.Scope) (free : FreeScope s) where
    use_free : (x : t.Name) (indexed : Bool) → rules.use_faults Plain gs s x indexed ≡ [] → IsFree x.text
    use_free x indexed h = named_free s x free (λ (m : n.Meaning). elim m as (λ _. List Fault) [
      | n.IsUnknown ↦ broken rule.Unknown x.place
      | n.IsLocal y ↦ broken_if indexed rule.WrongSort x.place
      | n.IsGlobal (n.Variable number type_name length each) ↦ broken_if (if is_some length then not indexed else indexed) rule.WrongSort x.place
      | _ ↦ broken rule.WrongSort x.place
    ]) refl h

    function_free : (x : t.Name) (assigned : Bool) (arguments : ℕ) → rules.function_faults Plain gs s x assigned arguments ≡ [] → IsFree x.text
    function_free x assigned arguments h = named_free s x free (λ (m : n.Meaning). elim m as (λ _. List Fault) [
      | n.IsUnknown ↦ broken rule.Unknown x.place
      | n.IsGlobal (n.Function number gives parameters) ↦
          broken_if (if is_some gives then not assigned else assigned) rule.WrongSort x.place
          ++ broken_if (not (arguments == length parameters)) rule.Count x.place
      | _ ↦ broken rule.WrongSort x.place
    ]) refl h

    lift_from : (x : t.Expression) (m : ℕ) → rules.expression_faults Plain gs s x ≡ [] → Lifted (expression_from x m) (expression_from x m)
    lift_from (t.Number place value) m h = lift_number_at place value
    lift_from (t.Named x) m h = lift_name x (use_free x false h)
    lift_from (t.Element array index) m h =
        let first = rules.use_faults Plain gs s array true in
        let second = rules.expression_faults Plain gs s index in
        let inner = no_prefix (first ++ second) (rules.number_faults Plain gs s index) h in
        lift_seq (lift_name array (use_free array true (no_prefix first second inner))) (lift_bracketed (lift_from index 0 (no_back first second inner)))
    lift_from (t.Null place) m h = absurd (not_broken rule.WrongSort place h)
    lift_from (t.Address place array index) m h =
        let first = broken rule.WrongSort place in
        let second = rules.array_faults Plain gs s array in
        let third = rules.expression_faults Plain gs s index in
        absurd (not_broken rule.WrongSort place
        (no_prefix first second (no_prefix (first ++ second) third (no_prefix ((first ++ second) ++ third) (rules.number_faults Plain gs s index) h))))
    lift_from (t.Referent place reference) m h =
        absurd (not_broken rule.WrongSort place (no_prefix (broken rule.WrongSort place) (rules.reference_faults Plain gs s reference) h))
    lift_from (t.Parenthesised place inner) m h =
        lift_seq (lift_mark_at place p.OpenParenthesis refl) (lift_seq (lift_from inner 0 h) (lift_mark p.CloseParenthesis refl))
    lift_from (t.Unary place x operand) m h =
        lift_seq (lift_unary place x)
        (lift_from operand highest_precedence (no_prefix (rules.expression_faults Plain gs s operand) (rules.number_faults Plain gs s operand) h))
    lift_from (t.Cast place x operand) m h =
        lift_seq (lift_mark_at place p.OpenParenthesis refl) (lift_seq (lift_type x) (lift_seq (lift_mark p.CloseParenthesis refl)
        (lift_from operand highest_precedence (no_prefix (rules.expression_faults Plain gs s operand) (rules.number_faults Plain gs s operand) h))))
    lift_from (t.Binary x left right) m h =
        let first = rules.expression_faults Plain gs s left in
        let second = rules.expression_faults Plain gs s right in
        let both = no_prefix (first ++ second) (rules.operand_faults Plain gs s x left right) h in
        lift_provided (m ≤ precedence x)
        (lift_seq (lift_from left (precedence x) (no_prefix first second both))
        (lift_seq (lift_operator x) (lift_from right (precedence x + 1) (no_back first second both))))
    lift_from (t.Conditional condition chosen otherwise) m h =
        let first = rules.expression_faults Plain gs s condition in
        let second = rules.expression_faults Plain gs s chosen in
        let third = rules.expression_faults Plain gs s otherwise in
        let all = (first ++ second) ++ third in
        let told = rules.number_faults Plain gs s condition in
        let more = rules.number_faults Plain gs s chosen in
        let each = no_prefix all told (no_prefix (all ++ told) more (no_prefix ((all ++ told) ++ more) (rules.number_faults Plain gs s otherwise) h)) in
        let both = no_prefix (first ++ second) third each in
        lift_provided (m ≡ 0) (lift_seq (lift_from condition 1 (no_prefix first second both)) (lift_seq (lift_mark p.Question refl)
        (lift_seq (lift_from chosen 0 (no_back first second both)) (lift_seq (lift_mark p.Colon refl)
        (lift_from otherwise 0 (no_back (first ++ second) third each))))))

    lift_value : (x : t.Expression) → rules.expression_faults Plain gs s x ≡ [] → Lifted (expression x) (expression x)
    lift_value x h = lift_from x 0 h

    lift_numeric : (x : t.Expression) → rules.numeric_faults Plain gs s x ≡ [] → Lifted (expression x) (expression x)
    lift_numeric x h = lift_from x 0 (no_prefix (rules.expression_faults Plain gs s x) (rules.number_faults Plain gs s x) h)

    lift_maybe : (x : Option t.Expression) → rules.maybe_faults Plain gs s x ≡ [] → Lifted (maybe expression x) (maybe expression x)
    lift_maybe None h = lift_empty
    lift_maybe (Some x) h = lift_numeric x h

    lift_condition : (x : t.Expression) → rules.numeric_faults Plain gs s x ≡ [] → Lifted (g.condition x) (g.condition x)
    lift_condition x h = lift_seq (lift_mark p.OpenParenthesis refl) (lift_seq (lift_numeric x h) (lift_mark p.CloseParenthesis refl))

    lift_target : (x : t.Lvalue) → rules.target_faults Plain gs s x ≡ [] → Lifted (g.target x) (g.target x)
    lift_target (t.Target x None) h = lift_seq (lift_name x (use_free x false (no_prefix (rules.use_faults Plain gs s x false) [] h))) lift_empty
    lift_target (t.Target x (Some index)) h =
        let named = rules.use_faults Plain gs s x true in
        let reads = rules.numeric_faults Plain gs s index in
        lift_seq (lift_name x (use_free x true (no_prefix named reads h))) (lift_bracketed (lift_numeric index (no_back named reads h)))
    lift_target (t.Followed place reference) h =
        absurd (not_broken rule.WrongSort place (no_prefix (broken rule.WrongSort place) (rules.reference_faults Plain gs s reference) h))

    lift_changed : (x : t.Lvalue) (c : t.Change) → rules.target_faults Plain gs s x ≡ [] → rules.change_faults Plain gs s x c ≡ [] →
        Lifted (g.changed x c) (g.changed x c)
    lift_changed x (t.Set value) h q =
        lift_seq (lift_target x h) (lift_seq (lift_mark p.Assign refl) (lift_value value (no_prefix (rules.expression_faults Plain gs s value)
        (rules.given_faults Plain gs s (rules.target_referring Plain gs s x) (rules.target_name x).place value) q)))
    lift_changed x (t.Update operator value) h q =
        lift_seq (lift_target x h) (lift_seq (lift_mark (p.Update operator) refl)
        (lift_numeric value (no_back (rules.numeric_target_faults Plain gs s x) (rules.numeric_faults Plain gs s value) q)))
    lift_changed x t.Increment h q =
        lift_or (lift_seq (lift_target x h) (lift_mark p.Increment refl)) (lift_seq (lift_mark p.Increment refl) (lift_target x h))
    lift_changed x t.Decrement h q =
        lift_or (lift_seq (lift_target x h) (lift_mark p.Decrement refl)) (lift_seq (lift_mark p.Decrement refl) (lift_target x h))

    lift_assignment : (x : t.Assignment) → rules.assignment_faults Plain gs s x ≡ [] → Lifted (g.assignment x) (g.assignment x)
    lift_assignment x h =
        let target = rules.target_faults Plain gs s x.target in
        let change = rules.change_faults Plain gs s x.target x.change in
        lift_starting x.place (lift_changed x.target x.change (no_prefix target change h) (no_back target change h))

    lift_last : (x : Option t.Assignment) → rules.last_faults Plain gs s x ≡ [] → Lifted (maybe g.assignment x) (maybe g.assignment x)
    lift_last None h = lift_empty
    lift_last (Some x) h = lift_assignment x h

    lift_more : (xs : List t.Expression) → flat_map (rules.expression_faults Plain gs s) xs ≡ [] → Lifted (more_of expression xs) (more_of expression xs)
    lift_more [] h = lift_empty
    lift_more (x ∷ xs) h =
        let first = rules.expression_faults Plain gs s x in
        let rest = flat_map (rules.expression_faults Plain gs s) xs in
        lift_seq (lift_seq (lift_mark p.Comma refl) (lift_value x (no_prefix first rest h))) (lift_more xs (no_back first rest h))

    lift_arguments : (xs : List t.Expression) → flat_map (rules.expression_faults Plain gs s) xs ≡ [] → Lifted (list_of expression xs) (list_of expression xs)
    lift_arguments [] h = lift_empty
    lift_arguments (x ∷ xs) h =
        let first = rules.expression_faults Plain gs s x in
        let rest = flat_map (rules.expression_faults Plain gs s) xs in
        lift_seq (lift_value x (no_prefix first rest h)) (lift_more xs (no_back first rest h))

    lift_call : (x : t.Call) (assigned : Bool) → rules.call_faults Plain gs s x assigned ≡ [] → Lifted (g.call x) (g.call x)
    lift_call x assigned h =
        let function = rules.function_faults Plain gs s x.function assigned (length x.arguments) in
        let each = flat_map (rules.expression_faults Plain gs s) x.arguments in
        let inner = no_prefix (function ++ each)
        (rules.arguments_faults Plain gs s x.function.place (rules.parameters_of Plain gs s x.function) x.arguments) h in
        lift_seq (lift_name x.function (function_free x.function assigned (length x.arguments) (no_prefix function each inner)))
        (lift_seq (lift_mark p.OpenParenthesis refl) (lift_seq (lift_arguments x.arguments (no_back function each inner)) (lift_mark p.CloseParenthesis refl)))

    lift_taken : (x : t.Call) (to : n.Referring) (place : Place) → rules.assigned_faults Plain gs s to place x ≡ [] → Lifted (g.call x) (g.call x)
    lift_taken x to place h =
        lift_call x true (no_prefix (rules.call_faults Plain gs s x true)
        (broken_if (not (rules.gives_so Plain gs to (rules.result_of Plain gs s x.function))) rule.WrongSort place) h)

    -- ---- Declarations of locals

    lift_initial : (x : t.Initial) (to : n.Referring) (place : Place) → rules.initial_faults Plain gs s to place x ≡ [] → Lifted (g.initial x) (g.initial x)
    lift_initial t.Absent to place h = lift_empty
    lift_initial (t.Value x) to place h =
        lift_seq (lift_mark p.Assign refl) (lift_value x (no_prefix (rules.expression_faults Plain gs s x) (rules.given_faults Plain gs s to place x) h))
    lift_initial (t.Result c) to place h = lift_seq (lift_mark p.Assign refl) (lift_taken c to place h)

    lift_initial_of_first : (x : t.Initial) (to : n.Referring) (place : Place) → rules.initial_faults Plain gs s to place x ≡ [] →
        Lifted (g.initial_of_first x) (g.initial_of_first x)
    lift_initial_of_first t.Absent to place h = lift_empty
    lift_initial_of_first (t.Value x) to place h =
        lift_seq (lift_mark p.Assign refl) (lift_value x (no_prefix (rules.expression_faults Plain gs s x) (rules.given_faults Plain gs s to place x) h))
    lift_initial_of_first (t.Result c) to place h = lift_never

    typed : (x : t.Declaration) → rules.declaration_faults Plain gs s x ≡ [] → rules.type_name_faults Plain gs s x.type_name ≡ []
    typed x h =
        no_back (rules.twice s.own x.name ++ rules.initial_faults Plain gs s (n.of_type gs x.type_name) x.name.place x.initial)
        (rules.type_name_faults Plain gs s x.type_name) h

    begun : (x : t.Declaration) → rules.declaration_faults Plain gs s x ≡ [] →
        rules.initial_faults Plain gs s (n.of_type gs x.type_name) x.name.place x.initial ≡ []
    begun x h =
        let twice = rules.twice s.own x.name in
        let initial = rules.initial_faults Plain gs s (n.of_type gs x.type_name) x.name.place x.initial in
        no_back twice initial (no_prefix (twice ++ initial) (rules.type_name_faults Plain gs s x.type_name) h)

    lift_declaration : (x : t.Declaration) → rules.declaration_faults Plain gs s x ≡ [] → Lifted (g.declaration x) (g.declaration x)
    lift_declaration x h =
        lift_starting x.place (lift_declared gs s x.type_name x.name (typed x h)
        (lift_initial x.initial (n.of_type gs x.type_name) x.name.place (begun x h)))

    lift_first : (x : t.First) → rules.first_faults Plain gs s x ≡ [] → Lifted (g.first x) (g.first x)
    lift_first t.NoFirst h = lift_empty
    lift_first (t.Declared x) h =
        lift_starting x.place (lift_declared gs s x.type_name x.name (typed x h)
        (lift_initial_of_first x.initial (n.of_type gs x.type_name) x.name.place (begun x h)))
    lift_first (t.Assigned x) h = lift_assignment x h

    first_free : (place : Place) (x : t.First) → rules.first_faults Plain gs s x ≡ [] → (ts : List Token) → IsApart ts → g.first x ts →
        FreeScope (made.first_at gs place s x).scope
    first_free place t.NoFirst h ts a d = free
    first_free place (t.Declared x) h ts a d = (declared_free gs s x.type_name x.name (g.initial_of_first x.initial) (typed x h) ts a d.1, free)
    first_free place (t.Assigned x) h ts a d = free

    lift_lock : (place : Place) (w : kw.Keyword) (mutex : t.Name) (key : Option t.Expression) → rules.lock_faults Plain gs s mutex key ≡ [] → Lifted
        (word_at place w ⋅ mark p.OpenParenthesis ⋅ name mutex ⋅ g.key Plain key ⋅ mark p.CloseParenthesis ⋅ mark p.Semicolon)
        (word_at place w ⋅ mark p.OpenParenthesis ⋅ name mutex ⋅ g.key Full key ⋅ mark p.CloseParenthesis ⋅ mark p.Semicolon)
    lift_lock place w mutex key h =
        let named = no_prefix (rules.mutex_faults Plain gs s mutex (is_some key)) (rules.key_faults Plain gs s key) h in
        lift_seq (lift_word_at place w) (lift_seq (lift_mark p.OpenParenthesis refl) (lift_seq (lift_name mutex (mutex_free s mutex free (is_some key) named))
        (lift_seq (lift_key key) (lift_seq (lift_mark p.CloseParenthesis refl) (lift_mark p.Semicolon refl)))))

  -- ---- Scopes

  inside_free : (s : n.Scope) (x : t.Block) → FreeScope s → FreeScope (made.inside gs s x).scope
  inside_free s (t.Braced opening xs closing) free = free

  arms_free : (s : n.Scope) (xs : t.Arms) → FreeScope s → FreeScope (made.arms_of gs s xs).scope
  arms_free s t.no_arm free = free
  arms_free s (t.arm_and x body rest) free = arms_free (made.inside gs s body).scope rest (inside_free s body free)

  otherwise_free : (s : n.Scope) (x : t.Otherwise) → FreeScope s → FreeScope (made.otherwise_of gs s x).scope
  otherwise_free s t.Nothing free = free
  otherwise_free s (t.Else body) free = inside_free s body free

  statement_free : (s : n.Scope) → FreeScope s → (x : t.Statement) → rules.statement_faults Plain gs s x ≡ [] → (ts : List Token) → IsApart ts →
      g.statement Plain x ts → FreeScope (made.statement gs s x).scope
  statement_free s free (t.BlockOf x) h ts a d = inside_free s x free
  statement_free s free (t.Empty place) h ts a d = free
  statement_free s free (t.Declare x) h ts a d =
      (declared_free gs s x.type_name x.name (g.initial x.initial) (typed s free x h) d.0 (first_apart ts d.0 d.1 d.2 a) d.3.1, free)
  statement_free s free (t.Assign x) h ts a d = free
  statement_free s free (t.AssignResult x c) h ts a d = free
  statement_free s free (t.CallOnly c) h ts a d = free
  statement_free s free (t.If place arms otherwise) h ts a d = otherwise_free (made.arms_of gs s arms).scope otherwise (arms_free s arms free)
  statement_free s free (t.While place x body) h ts a d = inside_free s body free
  statement_free s free (t.Do place body x) h ts a d = inside_free s body free
  statement_free s free (t.For place start x last body) h ts a d = free
  statement_free s free (t.Lock place mutex key) h ts a d = free
  statement_free s free (t.Unlock place mutex key) h ts a d = free

  statements_free : (s : n.Scope) → FreeScope s → (xs : t.Statements) → rules.statements_faults Plain gs s xs ≡ [] → (ts : List Token) → IsApart ts →
      g.statements Plain xs ts → FreeScope (made.statements gs s xs).scope
  statements_free s free t.no_statement h ts a d = free
  statements_free s free (t.statement_and x xs) h ts a d =
      let s' = (made.statement gs s x).scope in
      let first = no_prefix (rules.statement_faults Plain gs s x) (rules.statements_faults Plain gs s' xs) h in
      let second = no_back (rules.statement_faults Plain gs s x) (rules.statements_faults Plain gs s' xs) h in
      statements_free s' (statement_free s free x first d.0 (first_apart ts d.0 d.1 d.2 a) d.3) xs second d.1 (last_apart ts d.0 d.1 d.2 a) d.4

  -- ---- Statements

  mutual
    lift_statement : (s : n.Scope) → FreeScope s → (x : t.Statement) → rules.statement_faults Plain gs s x ≡ [] →
        Lifted (g.statement Plain x) (g.statement Full x)
    lift_statement s free (t.BlockOf x) h = lift_block s free x h
    lift_statement s free (t.Empty place) h = lift_mark_at place p.Semicolon refl
    lift_statement s free (t.Declare x) h = lift_seq (lift_declaration s free x h) (lift_mark p.Semicolon refl)
    lift_statement s free (t.Assign x) h = lift_seq (lift_assignment s free x h) (lift_mark p.Semicolon refl)
    lift_statement s free (t.AssignResult x c) h =
        let target = rules.target_faults Plain gs s x in
        let to = rules.target_referring Plain gs s x in
        let place = (rules.target_name x).place in
        let assigned = rules.assigned_faults Plain gs s to place c in
        lift_seq (lift_target s free x (no_prefix target assigned h)) (lift_seq (lift_mark p.Assign refl)
        (lift_seq (lift_taken s free c to place (no_back target assigned h)) (lift_mark p.Semicolon refl)))
    lift_statement s free (t.CallOnly c) h = lift_seq (lift_call s free c false h) (lift_mark p.Semicolon refl)
    lift_statement s free (t.If place arms otherwise) h =
        let s' = (made.arms_of gs s arms).scope in
        let first = no_prefix (rules.arms_faults Plain gs s arms) (rules.otherwise_faults Plain gs s' otherwise) h in
        let second = no_back (rules.arms_faults Plain gs s arms) (rules.otherwise_faults Plain gs s' otherwise) h in
        lift_seq (lift_starting place (lift_arms s free arms first)) (lift_otherwise s' (arms_free s arms free) otherwise second)
    lift_statement s free (t.While place x body) h =
        let first = no_prefix (rules.numeric_faults Plain gs s x) (rules.block_faults Plain gs s body) h in
        let second = no_back (rules.numeric_faults Plain gs s x) (rules.block_faults Plain gs s body) h in
        lift_seq (lift_word_at place k.While) (lift_seq (lift_condition s free x first) (lift_block s free body second))
    lift_statement s free (t.Do place body x) h =
        let s' = (made.inside gs s body).scope in
        let first = no_prefix (rules.block_faults Plain gs s body) (rules.numeric_faults Plain gs s' x) h in
        let second = no_back (rules.block_faults Plain gs s body) (rules.numeric_faults Plain gs s' x) h in
        lift_seq (lift_word_at place k.Do) (lift_seq (lift_block s free body first) (lift_seq (lift_word k.While)
        (lift_seq (lift_condition s' (inside_free s body free) x second) (lift_mark p.Semicolon refl))))
    lift_statement s free (t.For place start x last body) h =
        let s0 = n.entered s in
        let s1 = (made.first_at gs place s0 start).scope in
        let maybes = rules.maybe_faults Plain gs s1 x in
        let after = rules.last_faults Plain gs s1 last in
        let inner = rules.block_faults Plain gs s1 body in
        let h0 = no_prefix (rules.first_faults Plain gs s0 start) ((maybes ++ after) ++ inner) h in
        let h1 = no_back (rules.first_faults Plain gs s0 start) ((maybes ++ after) ++ inner) h in
        let h2 = no_prefix (maybes ++ after) inner h1 in
        record {
          by = λ ts a d.
              let a1 = last_apart ts d.0 d.1 d.2 a in
              let d1 = d.4 in
              let a2 = last_apart d.1 d1.0 d1.1 d1.2 a1 in
              let d2 = d1.4 in
              let free1 = first_free s0 free place start h0 d2.0 (first_apart d1.1 d2.0 d2.1 d2.2 a2) d2.3 in
              (lift_seq (lift_word_at place k.For) (lift_seq (lift_mark p.OpenParenthesis refl) (lift_seq (lift_first s0 free start h0)
              (lift_seq (lift_mark p.Semicolon refl) (lift_seq (lift_maybe s1 free1 x (no_prefix maybes after h2)) (lift_seq (lift_mark p.Semicolon refl)
              (lift_seq (lift_last s1 free1 last (no_back maybes after h2)) (lift_seq (lift_mark p.CloseParenthesis refl)
              (lift_block s1 free1 body (no_back (maybes ++ after) inner h1)))))))))).by ts a d;
        }
    lift_statement s free (t.Lock place mutex key) h = lift_lock s free place k.Lock mutex key h
    lift_statement s free (t.Unlock place mutex key) h = lift_lock s free place k.Unlock mutex key h

    lift_block : (s : n.Scope) → FreeScope s → (x : t.Block) → rules.block_faults Plain gs s x ≡ [] → Lifted (g.block Plain x) (g.block Full x)
    lift_block s free (t.Braced opening xs closing) h =
        lift_seq (lift_mark_at opening p.OpenBrace refl) (lift_seq (lift_statements (n.entered s) free xs h) (lift_mark_at closing p.CloseBrace refl))

    lift_statements : (s : n.Scope) → FreeScope s → (xs : t.Statements) → rules.statements_faults Plain gs s xs ≡ [] →
        Lifted (g.statements Plain xs) (g.statements Full xs)
    lift_statements s free t.no_statement h = lift_empty
    lift_statements s free (t.statement_and x xs) h =
        let s' = (made.statement gs s x).scope in
        let first = no_prefix (rules.statement_faults Plain gs s x) (rules.statements_faults Plain gs s' xs) h in
        let second = no_back (rules.statement_faults Plain gs s x) (rules.statements_faults Plain gs s' xs) h in
        record {
          by = λ ts a d.
              let after = statement_free s free x first d.0 (first_apart ts d.0 d.1 d.2 a) d.3 in
              (lift_seq (lift_statement s free x first) (lift_statements s' after xs second)).by ts a d;
        }

    lift_arms : (s : n.Scope) → FreeScope s → (xs : t.Arms) → rules.arms_faults Plain gs s xs ≡ [] → Lifted (g.arms_of Plain xs) (g.arms_of Full xs)
    lift_arms s free t.no_arm h = lift_never
    lift_arms s free (t.arm_and x body rest) h =
        let s' = (made.inside gs s body).scope in
        let condition = rules.numeric_faults Plain gs s x in
        let block = rules.block_faults Plain gs s body in
        let first = no_prefix (condition ++ block) (rules.arms_faults Plain gs s' rest) h in
        lift_seq (lift_word k.If) (lift_seq (lift_condition s free x (no_prefix condition block first)) (lift_seq
        (lift_block s free body (no_back condition block first))
        (lift_more_arms s' (inside_free s body free) rest (no_back (condition ++ block) (rules.arms_faults Plain gs s' rest) h))))

    lift_more_arms : (s : n.Scope) → FreeScope s → (xs : t.Arms) → rules.arms_faults Plain gs s xs ≡ [] →
        Lifted (g.more_arms_of Plain xs) (g.more_arms_of Full xs)
    lift_more_arms s free t.no_arm h = lift_empty
    lift_more_arms s free (t.arm_and x body rest) h =
        let s' = (made.inside gs s body).scope in
        let condition = rules.numeric_faults Plain gs s x in
        let block = rules.block_faults Plain gs s body in
        let first = no_prefix (condition ++ block) (rules.arms_faults Plain gs s' rest) h in
        lift_seq (lift_word k.Else) (lift_seq (lift_word k.If) (lift_seq (lift_condition s free x (no_prefix condition block first)) (lift_seq
        (lift_block s free body (no_back condition block first))
        (lift_more_arms s' (inside_free s body free) rest (no_back (condition ++ block) (rules.arms_faults Plain gs s' rest) h)))))

    lift_otherwise : (s : n.Scope) → FreeScope s → (x : t.Otherwise) → rules.otherwise_faults Plain gs s x ≡ [] →
        Lifted (g.otherwise_of Plain x) (g.otherwise_of Full x)
    lift_otherwise s free t.Nothing h = lift_empty
    lift_otherwise s free (t.Else body) h = lift_seq (lift_word k.Else) (lift_block s free body h)

  -- ---- Items

  lift_thread : (x : t.Block) → rules.statements_faults Plain gs n.no_locals (made.body_of x) ≡ [] → Lifted (g.block Plain x) (g.block Full x)
  lift_thread (t.Braced opening xs closing) h =
      lift_seq (lift_mark_at opening p.OpenBrace refl) (lift_seq (lift_statements n.no_locals tt xs h) (lift_mark_at closing p.CloseBrace refl))

  -- parameters stand in the scope of those before them
  parameters_free : (s : n.Scope) → FreeScope s → (xs : List t.Parameter) → rules.parameters_faults Plain gs s xs ≡ [] → (ts : List Token) → IsApart ts →
      more_of g.parameter xs ts → FreeScope (made.with_parameters gs s xs)
  parameters_free s free [] h ts a d = free
  parameters_free s free (x ∷ xs) h ts a d =
      let twice = rules.twice s.own x.name in
      let types = rules.type_name_faults Plain gs s x.type_name in
      let s' = n.declared gs s x.name.text x.type_name in
      let rest = rules.parameters_faults Plain gs s' xs in
      let a1 = first_apart ts d.0 d.1 d.2 a in
      let own = parameter_free gs s x (no_back twice types (no_prefix (twice ++ types) rest h)) d.3.1 (last_apart d.0 d.3.0 d.3.1 d.3.2 a1) d.3.4 in
      parameters_free s' (own, free) xs (no_back (twice ++ types) rest h) d.1 (last_apart ts d.0 d.1 d.2 a) d.4

  lift_more_parameters : (s : n.Scope) (xs : List t.Parameter) → rules.parameters_faults Plain gs s xs ≡ [] →
      Lifted (more_of g.parameter xs) (more_of g.parameter xs)
  lift_more_parameters s [] h = lift_empty
  lift_more_parameters s (x ∷ xs) h =
      let twice = rules.twice s.own x.name in
      let types = rules.type_name_faults Plain gs s x.type_name in
      let s' = n.declared gs s x.name.text x.type_name in
      let rest = rules.parameters_faults Plain gs s' xs in
      lift_seq (lift_seq (lift_mark p.Comma refl) (lift_parameter gs s x (no_back twice types (no_prefix (twice ++ types) rest h))))
      (lift_more_parameters s' xs (no_back (twice ++ types) rest h))

  all_parameters_free : (xs : List t.Parameter) → rules.parameters_faults Plain gs n.no_locals xs ≡ [] → (ts : List Token) → IsApart ts →
      g.parameters xs ts → FreeScope (made.with_parameters gs n.no_locals xs)
  all_parameters_free [] h ts a d = tt
  all_parameters_free (x ∷ xs) h ts a d =
      let twice = rules.twice n.no_locals.own x.name in
      let types = rules.type_name_faults Plain gs n.no_locals x.type_name in
      let s' = n.declared gs n.no_locals x.name.text x.type_name in
      let rest = rules.parameters_faults Plain gs s' xs in
      let own = parameter_free gs n.no_locals x (no_back twice types (no_prefix (twice ++ types) rest h)) d.0 (first_apart ts d.0 d.1 d.2 a) d.3 in
      parameters_free s' (own, tt) xs (no_back (twice ++ types) rest h) d.1 (last_apart ts d.0 d.1 d.2 a) d.4

  lift_parameters : (xs : List t.Parameter) → rules.parameters_faults Plain gs n.no_locals xs ≡ [] → Lifted (g.parameters xs) (g.parameters xs)
  lift_parameters [] h = lift_or lift_empty (lift_word k.Void)
  lift_parameters (x ∷ xs) h =
      let twice = rules.twice n.no_locals.own x.name in
      let types = rules.type_name_faults Plain gs n.no_locals x.type_name in
      let s' = n.declared gs n.no_locals x.name.text x.type_name in
      let rest = rules.parameters_faults Plain gs s' xs in
      lift_seq (lift_parameter gs n.no_locals x (no_back twice types (no_prefix (twice ++ types) rest h)))
      (lift_more_parameters s' xs (no_back (twice ++ types) rest h))

  lift_given : (s : n.Scope) → FreeScope s → (result : Option t.TypeName) (place : Place) (x : Option t.Expression) →
      rules.value_faults Plain gs s result place x ≡ [] → Lifted (maybe expression x) (maybe expression x)
  lift_given s free result place None h = lift_empty
  lift_given s free None place (Some x) h = lift_numeric s free x h
  lift_given s free (Some type_name) place (Some x) h =
      lift_value s free x (no_prefix (rules.expression_faults Plain gs s x) (rules.given_faults Plain gs s (n.of_type gs type_name) place x) h)

  lift_returned : (s : n.Scope) → FreeScope s → (f : t.Function) (x : Option t.Return) → rules.returned_faults Plain gs s f x ≡ [] →
      Lifted (maybe g.returned x) (maybe g.returned x)
  lift_returned s free f None h = lift_empty
  lift_returned s free f (Some x) h =
      lift_seq (lift_word_at x.place k.Return) (lift_seq (lift_given s free f.type_name f.name.place x.value h) (lift_mark p.Semicolon refl))

  lift_function : (x : t.Function) → rules.item_faults Plain gs (t.FunctionItem x) ≡ [] → Lifted (g.function Plain x) (g.function Full x)
  lift_function x h =
      let s = made.with_parameters gs n.no_locals x.parameters in
      let m = made.statements gs s x.body.statements in
      let p1 = rules.parameters_faults Plain gs n.no_locals x.parameters in
      let p2 = rules.statements_faults Plain gs s x.body.statements in
      let p3 = rules.returned_faults Plain gs m.scope x x.body.returned in
      let p4 = rules.return_faults Plain gs x in
      let p5 = rules.result_faults Plain gs x.type_name in
      let h4 = no_prefix (((p1 ++ p2) ++ p3) ++ p4) p5 h in
      let h3 = no_prefix ((p1 ++ p2) ++ p3) p4 h4 in
      let h2 = no_prefix (p1 ++ p2) p3 h3 in
      let h1 = no_prefix p1 p2 h2 in
      record {
        by = λ ts a d.
            let a1 = last_apart ts d.0 d.1 d.2 a in
            let d1 = d.4 in
            let a2 = last_apart d.1 d1.0 d1.1 d1.2 a1 in
            let d2 = d1.4 in
            let a3 = last_apart d1.1 d2.0 d2.1 d2.2 a2 in
            let d3 = d2.4 in
            let free = all_parameters_free x.parameters h1 d3.0 (first_apart d2.1 d3.0 d3.1 d3.2 a3) d3.3 in
            let a4 = last_apart d2.1 d3.0 d3.1 d3.2 a3 in
            let d4 = d3.4 in
            let a5 = last_apart d3.1 d4.0 d4.1 d4.2 a4 in
            let d5 = d4.4 in
            let a6 = last_apart d4.1 d5.0 d5.1 d5.2 a5 in
            let d6 = d5.4 in
            let ended = statements_free s free x.body.statements (no_back p1 p2 h2) d6.0 (first_apart d5.1 d6.0 d6.1 d6.2 a6) d6.3 in
            (lift_seq (lift_result gs x.type_name (no_back (((p1 ++ p2) ++ p3) ++ p4) p5 h))
            (lift_seq (lift_name x.name (item_free gs n.none_yet (t.FunctionItem x) h ts a d)) (lift_seq (lift_mark p.OpenParenthesis refl)
            (lift_seq (lift_parameters x.parameters h1) (lift_seq (lift_mark p.CloseParenthesis refl)
            (lift_seq (lift_mark_at x.body.opening p.OpenBrace refl) (lift_seq (lift_statements s free x.body.statements (no_back p1 p2 h2))
            (lift_seq (lift_returned m.scope ended x x.body.returned (no_back (p1 ++ p2) p3 h3)) (lift_mark_at x.body.closing p.CloseBrace refl))))))))).by
            ts a d;
      }

  lift_item : (x : t.Item) → rules.item_faults Plain gs x ≡ [] → Lifted (g.item Plain x) (g.item Full x)
  lift_item (t.MutexItem x length) h = record {
    by = λ ts a d.
        (lift_seq (lift_word k.Mutex) (lift_seq (lift_name x (item_free gs n.none_yet (t.MutexItem x length) h ts a d))
        (lift_seq (lift_mutex_length length) (lift_mark p.Semicolon refl)))).by ts a d;
  }
  lift_item (t.PersistentItem x) h =
      let guard = rules.mutex_faults Plain gs n.no_locals x.guard.mutex x.guard.each in
      let each = rules.each_faults Plain gs x in
      let lengths = rules.length_faults x.length in
      let initial = rules.initialiser_faults x.type_name x.length x.initialiser in
      let types = rules.type_name_faults Plain gs n.no_locals x.type_name in
      let h3 = no_prefix (((guard ++ each) ++ lengths) ++ initial) types h in
      let named = no_prefix guard each (no_prefix (guard ++ each) lengths (no_prefix ((guard ++ each) ++ lengths) initial h3)) in
      lift_seq (lift_word k.Persistent) (lift_seq (lift_mark p.OpenParenthesis refl)
      (lift_seq (lift_name x.guard.mutex (mutex_free n.no_locals x.guard.mutex tt x.guard.each named)) (lift_seq (lift_brackets x.guard.each)
      (lift_seq (lift_mark p.CloseParenthesis refl)
      (lift_declared gs n.no_locals x.type_name x.name (no_back (((guard ++ each) ++ lengths) ++ initial) types h)
      (lift_seq (lift_lengths x.length) (lift_seq (lift_assigned x.initialiser) (lift_mark p.Semicolon refl))))))))
  lift_item (t.ThreadItem x) h = record {
    by = λ ts a d.
        (lift_seq (lift_word k.Thread) (lift_seq (lift_name x.name (item_free gs n.none_yet (t.ThreadItem x) h ts a d)) (lift_thread x.block h))).by ts a d;
  }
  lift_item (t.FunctionItem x) h = lift_function x h

  lift_items : (xs : List t.Item) → flat_map (rules.item_faults Plain gs) xs ≡ [] → Lifted (all_of (g.item Plain) xs) (all_of (g.item Full) xs)
  lift_items [] h = lift_empty
  lift_items (x ∷ xs) h =
      let first = rules.item_faults Plain gs x in
      let rest = flat_map (rules.item_faults Plain gs) xs in
      lift_seq (lift_item x (no_prefix first rest h)) (lift_items xs (no_back first rest h))

-- ---- Nesting

same_mark : (x : pn.Punctuator) (m : Nesting) → within_mark (full_mark x) m ≡ within_mark x m
same_mark (p.Binary binary.Mul) m = refl
same_mark (p.Binary binary.And) m = refl
same_mark x m = refl

same_name : (text : List ℕ) (m : Nesting) → within_lexeme (full_name text) m ≡ m
same_name text m = by (find (λ (y : List ℕ × kw.Keyword). same y.0 text) more_reserved)
  where
    by : (o : Option (List ℕ × kw.Keyword)) → within_lexeme (elim o as (λ _. Lexeme) [
      | Some entry ↦ Keyword entry.1
      | None ↦ Name text
    ]) m ≡ m
    by None = refl
    by (Some entry) = refl

same_lexeme : (x : Lexeme) (m : Nesting) → within_lexeme (full_lexeme x) m ≡ within_lexeme x m
same_lexeme (Name text) m = same_name text m
same_lexeme (Keyword x) m = refl
same_lexeme (Number value) m = refl
same_lexeme (Punctuator x) m = same_mark x m

as_high : (m : Nesting) (ts : List Token) → is_high_from m (fuller ts) ≡ is_high_from m ts
as_high m [] = refl
as_high m (u ∷ us) =
    let same : within_lexeme (full_lexeme u.lexeme) m ≡ within_lexeme u.lexeme m = same_lexeme u.lexeme m in
    ap (λ (w : Nesting). is_high w || is_high_from w (fuller us)) same
    ∙ ap (λ (b : Bool). is_high (within_lexeme u.lexeme m) || b) (as_high (within_lexeme u.lexeme m) us)

-- ---- The text

lift_program : (xs : List t.Item) (ts : List Token) → IsApart ts → g.program Plain xs ts → flat_map (rules.item_faults Plain (n.globals_of xs)) xs ≡ [] →
    g.program Full xs (fuller ts)
lift_program [] ts a d h = absurd d
lift_program (x ∷ xs) ts a d h =
    let gs = n.globals_of (x ∷ xs) in
    (lift_items gs (items_free gs n.none_yet (x ∷ xs) h ts a d) (x ∷ xs) h).by ts a d

-- a text without faults that is read in both languages has, in the full one, the tree of the plain one
pub plain_is_full : (text : List ℕ) (xs ys : List t.Item) → IsRead Plain text xs → type_faults Plain xs ≡ [] → IsRead Full text ys → IsRead Full text xs
unfolding scanned nests_high type_faults
plain_is_full text xs ys plain h full =
    let ts = (plain_scanned text).tokens in
    let gs = n.globals_of xs in
    let before = ((rules.twice_from [] gs ++ rules.past rule.Threads MOST_THREADS (rules.thread_names xs))
    ++ rules.too_many_mutexes (rules.most_mutexes Plain) 0 xs)
    ++ rules.too_many_bytes 0 xs in
    let items = no_back before (flat_map (rules.item_faults Plain gs) xs) h in
    let apart : IsApart ts = (false, ((program_closed ys).by (fuller ts) full.spelled).0) in
    record {
      scanned_whole = plain.scanned_whole;
      low = as_high outside ts ∙ plain.low;
      spelled = lift_program xs ts apart plain.spelled items;
    }

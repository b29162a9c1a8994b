-- What is made of items without faults is a well formed program.
use Rattle.std.proofs.Common.{◌≡◌, ap, drop, refl, sym, ◌∙◌, subst, ℕ, zero, suc, ◌+◌, ◌*◌, ◌-◌, ◌<◌, ◌≤◌, List, [], ◌∷◌, ◌++◌, length, map, flat_map}
use Rattle.std.proofs.Common.{take, replicate, Bool, true, false, not, ◌==◌, ◌||◌, nat_lt, is_some, if◌then◌else◌, Option, Some, None, arith}
use Rattle.std.specs.Prelude.{ℤ, pos, slice_get}
use Rattle.std.specs.List.{AllByRecursion}
use Rattle.std.specs.Option.{option_map}
use Rattle.std.proofs.lemmas.Bool.Decides.{nat_tests}
use Rattle.std.proofs.lemmas.List.{drop-drop, length-map, length-append, length-take, length-replicate}
use Rattle.std.proofs.lemmas.Option.{none-some, same_Some}
use Rattle.ido_base.specs.Layout.{aligned_up, end_from}
use Rattle.ido_base.specs.declared.limits.TheConstants.{MOST_THREADS, MOST_MUTEXES, MOST_LOCKS, MOST_VARIABLE_BYTES, MOST_ELEMENTS}
use Rattle.ido_ints.specs.declared.kinds.Kind.{Kind}
use Rattle.ido_ints.specs.declared.kinds.Kind.TheVariants.{UnsignedLong}
use Rattle.ido_ints.specs.Kinds.{bytes_of, Holds}
use Rattle.ido_ints.specs.Reduction.{reduced}
use Rattle.ido_ints.proofs.Public.{Holds-zero, Holds-reduced}
use Rattle.c_tree.specs.declared.rule.Rule.TheVariants as rule
use Rattle.c_tree.specs.AcceptedTexts.{IsTyped}
use Rattle.c_tree.specs.declared.language.Language.{Language}
use Rattle.c_tree.specs.declared.language.Language.TheVariants.{Plain, Full}
use Rattle.c_tree.specs.Languages.{all_of}
use Rattle.c_tree.specs.Tokens.{Token}
use Rattle.ido_base.specs.declared.place.Place.{Place}
use Rattle.c_tree.specs.LexicalScan.{Fault}
use Rattle.c_tree.specs.Trees as t
use Rattle.c_tree.specs.Grammar as g
use Rattle.c_tree.specs.Names as n
use Rattle.c_tree.specs.Names.{element_count, length_number}
use Rattle.c_tree.specs.Programs as p
use Rattle.c_tree.specs.TypeRules as rules
use Rattle.c_tree.specs.TypeRules.{broken, type_faults}
use Rattle.c_tree.specs.Elaboration as made
use Rattle.c_tree.specs.Elaboration.{typed_program}
use Rattle.c_tree.specs.Ranges.{mutexes_of}
use Rattle.c_tree.specs.References.{HasNulls, IsFunctionReferring, IsResultGiven, IsThreadReferring, IsVariableReferring}
use Rattle.c_tree.specs.WellFormed.{elements_in, shape_of, IsSingle, IsSingleAt, IsArrayAt, IsVariable, IsGuard, AreStatements}
use Rattle.c_tree.specs.WellFormed.{ArePlain, IsExpr, IsReturned, IsFunction, IsProgram}
use Rattle.c_typer.proofs.EmptyFaults.{function_parts, nil_left, nil_right, not_broken, unbroken}
use Rattle.c_typer.proofs.LocalsGrow.{Begins, Into, Known, Within, begins_into, grow_statements, into_length, into_self, keeps_parameters, keeps_statements}
use Rattle.c_typer.proofs.LocalsGrow.{known_parameters, none_known, numbered, parameters_refer, types_refer}
use Rattle.c_typer.proofs.MeaningsInPrograms.{GivesIn, IsBounded, IsNamedMutex, MutexIn, SortIn, TypeIn, array_at, single_at, type_in}
use Rattle.c_typer.proofs.WellFormedStatements.{equal_counts, expr_formed, known_all, lock_formed, numeric_formed, statements_formed}
use Rattle.c_typer.proofs.ReferencesInExpressions.{AreReferring, referring_more, right_so}
use Rattle.c_typer.proofs.ReferencesInStatements.{GivesSo, returned_follows, returned_given, statements_referring}

-- ---- Counts

past_most : (found : _) (most : ℕ) (xs : List t.Name) → rules.past found most xs ≡ [] → length xs ≤ most
past_most found most [] h = omega arith
past_most found zero (x ∷ xs) h = absurd (not_broken found x.place h)
past_most found (suc most) (x ∷ xs) h = omega (arith, past_most found most xs h)

module _ (gs : List n.Global) where
  mutexes_count : (x : t.Name) (count : Option t.Length) (ms : List p.Mutex) → length (made.mutexes gs x count ++ ms) ≡ element_count count + length ms
  mutexes_count x count ms =
      let one : p.Mutex = record { name = x; length = option_map length_number count } in
      omega (arith, length-append (made.mutexes gs x count) ms, length-replicate (element_count count) one)

  -- there are no more than the rule of mutexes says
  mutexes_within : (most k : ℕ) (xs : List t.Item) → k ≤ most → rules.too_many_mutexes most k xs ≡ [] →
      k + length (made.program_from gs xs).mutexes ≤ most
  mutexes_within most k [] le h = omega arith
  mutexes_within most k (t.MutexItem x count ∷ xs) le h = go (nat_lt most (k + element_count count)) refl
      (λ fits q. mutexes_within most (k + element_count count) xs fits q) h
    where
      go : (c : Bool) → nat_lt most (k + element_count count) ≡ c →
          (k + element_count count ≤ most → rules.too_many_mutexes most (k + element_count count) xs ≡ [] →
          (k + element_count count) + length (made.program_from gs xs).mutexes ≤ most) →
          (if c then broken rule.Mutexes x.place else rules.too_many_mutexes most (k + element_count count) xs) ≡ [] →
          k + length (made.mutexes gs x count ++ (made.program_from gs xs).mutexes) ≤ most
      go true e more q = absurd (not_broken rule.Mutexes x.place q)
      go false e more q =
          let fits : k + element_count count ≤ most = grind (arith, nat_tests) in
          omega (arith, more fits q, mutexes_count x count (made.program_from gs xs).mutexes)
  mutexes_within most k (t.PersistentItem x ∷ xs) le h = mutexes_within most k xs le h
  mutexes_within most k (t.ThreadItem x ∷ xs) le h = mutexes_within most k xs le h
  mutexes_within most k (t.FunctionItem x ∷ xs) le h = mutexes_within most k xs le h

  threads_named : (xs : List t.Item) → length (made.program_from gs xs).threads ≡ length (rules.thread_names xs)
  threads_named [] = refl
  threads_named (t.MutexItem x count ∷ xs) = threads_named xs
  threads_named (t.PersistentItem x ∷ xs) = threads_named xs
  threads_named (t.ThreadItem x ∷ xs) = omega (arith, threads_named xs)
  threads_named (t.FunctionItem x ∷ xs) = threads_named xs

-- ---- Elements and bytes

size_is : (o : Option t.Length) → elements_in (option_map length_number o) ≡ element_count o
size_is None = refl
size_is (Some x) = refl

abbrev Ends : ℕ → List p.Variable → Type 0
Ends m vs = end_from m (map shape_of vs) ≤ MOST_VARIABLE_BYTES

module _ (gs : List n.Global) where
  -- the variables end where the rule of bytes says
  ends_within : (k : ℕ) (xs : List t.Item) → k ≤ MOST_VARIABLE_BYTES → rules.too_many_bytes k xs ≡ [] →
      end_from k (map shape_of (made.program_from gs xs).variables) ≤ MOST_VARIABLE_BYTES
  ends_within k [] le h = le
  ends_within k (t.MutexItem x count ∷ xs) le h = ends_within k xs le h
  ends_within k (t.ThreadItem x ∷ xs) le h = ends_within k xs le h
  ends_within k (t.FunctionItem x ∷ xs) le h = ends_within k xs le h
  ends_within k (t.PersistentItem x ∷ xs) le h = go (nat_lt MOST_VARIABLE_BYTES (rules.end_after k x)) refl
      (λ fits q. ends_within (rules.end_after k x) xs fits q) h
    where
      go : (c : Bool) → nat_lt MOST_VARIABLE_BYTES (rules.end_after k x) ≡ c →
          (rules.end_after k x ≤ MOST_VARIABLE_BYTES → rules.too_many_bytes (rules.end_after k x) xs ≡ [] →
          Ends (rules.end_after k x) (made.program_from gs xs).variables) →
          (if c then broken rule.Bytes x.name.place else rules.too_many_bytes (rules.end_after k x) xs) ≡ [] →
          end_from k (map shape_of (made.variable gs x ∷ (made.program_from gs xs).variables)) ≤ MOST_VARIABLE_BYTES
      go true e more q = absurd (not_broken rule.Bytes x.name.place q)
      go false e more q =
          let fits : rules.end_after k x ≤ MOST_VARIABLE_BYTES = grind (arith, nat_tests) in
          subst (λ (m : ℕ). end_from (aligned_up k (bytes_of (n.kind_named x.type_name)) + bytes_of (n.kind_named x.type_name) * m)
          (map shape_of (made.program_from gs xs).variables) ≤ MOST_VARIABLE_BYTES) (sym (size_is x.length)) (more fits q)

-- ---- A variable

all_taken : (k : Kind) (m : ℕ) (zs : List ℤ) → AllByRecursion (Holds k) (take m (map (reduced k) zs))
all_taken k zero zs = tt
all_taken k (suc m) [] = tt
all_taken k (suc m) (z ∷ zs) = (Holds-reduced k z, all_taken k m zs)

all_zeros : (k : Kind) (m : ℕ) → AllByRecursion (Holds k) (replicate m (pos 0))
all_zeros k zero = tt
all_zeros k (suc m) = (Holds-zero k, all_zeros k m)

all_both : {A : Type 0} (P : A → Type 0) (xs ys : List A) → AllByRecursion P xs → AllByRecursion P ys → AllByRecursion P (xs ++ ys)
all_both P [] ys h k = k
all_both P (x ∷ xs) ys h k = (h.0, all_both P xs ys h.1 k)

filled_length : (count : ℕ) (zs : List ℤ) → length (made.filled count zs) ≡ count
filled_length count zs = omega (
  arith,
  length-append (take count zs) (replicate (count - length zs) (pos 0)),
  length-take count zs,
  length-replicate
      (count - length zs) (pos 0),
)

record InBounds (count : ℕ) : Type 0 where
  not_empty : 0 < count
  not_too_long : count ≤ MOST_ELEMENTS

bounds : (o : Option t.Length) → rules.length_faults o ≡ [] → InBounds (element_count o)
bounds None h = record { not_empty = omega arith; not_too_long = omega arith }
bounds (Some x) h =
    let no = unbroken (length_number x == 0 || nat_lt MOST_ELEMENTS (length_number x)) rule.Length x.place h in
    record { not_empty = grind (arith, nat_tests); not_too_long = grind (arith, nat_tests) }

-- ---- Items, in a program in which their names stand

module _ (language : Language) (q : p.Program) (gs : List n.Global) (sorts : AllByRecursion (λ (y : n.Global). SortIn q gs y.sort) gs) where
  -- ---- What guards a variable

  -- the mutex of its guard, or the first of them, and how many these are
  abbrev guarding : t.Persistent → ℕ
  guarding x = made.mutex_number gs n.no_locals x.guard.mutex

  abbrev counting : t.Persistent → Option ℕ
  counting x = rules.mutexes_of language gs x.guard.mutex

  abbrev IsGuardBy : t.Persistent → Bool → Type 0
  IsGuardBy x each = elim (if each then p.Each (guarding x) else p.By (guarding x)) as (λ _. Type 0) [
    | p.By mutex ↦ IsSingleAt q.mutexes mutex
    | p.Each first ↦ IsArrayAt q.mutexes first × ((made.variable gs x).length ≡ Some (mutexes_of q.mutexes first))
  ]

  -- there are as many elements as mutexes
  as_many : (first : ℕ) (count : Option ℕ) (size : t.Length) → MutexIn q.mutexes first count → is_some count ≡ true →
      rules.count_faults language gs count size ≡ [] → Some (length_number size) ≡ Some (mutexes_of q.mutexes first)
  as_many first None size there many h = absurd (let wrong : false ≡ true = many in cc)
  as_many first (Some count) size there many h =
      let same : length_number size ≡ count =
      equal_counts (length_number size) count (unbroken (not (length_number size == count)) rule.Count size.place h) in
      ap (λ (m : ℕ). Some m) (same ∙ sym there.1)

  counted : (x : t.Persistent) (size : Option t.Length) → MutexIn q.mutexes (guarding x) (counting x) → is_some (counting x) ≡ true →
      ◌≡◌ {A = List Fault} (elim size [
        | None ↦ broken rule.WrongSort x.name.place
        | Some length ↦ rules.count_faults language gs (rules.mutexes_of language gs x.guard.mutex) length
      ]) [] → option_map length_number size ≡ Some (mutexes_of q.mutexes (guarding x))
  counted x None there many h = absurd (not_broken rule.WrongSort x.name.place h)
  counted x (Some size) there many h = as_many (guarding x) (counting x) size there many h

  -- where there are no brackets one mutex guards all of the variable; else each of an array one element
  guard_by : (x : t.Persistent) (each : Bool) → IsNamedMutex q.mutexes (guarding x) (counting x) each →
      ◌≡◌ {A = List Fault} (if not each then [] else elim x.length [
        | None ↦ broken rule.WrongSort x.name.place
        | Some length ↦ rules.count_faults language gs (rules.mutexes_of language gs x.guard.mutex) length
      ]) [] → IsGuardBy x each
  guard_by x false named h = single_at q.mutexes (guarding x) (counting x) named.there named.array
  guard_by x true named h =
      (array_at q.mutexes (guarding x) (counting x) named.there named.array, counted x x.length named.there named.array h)

  guard_formed : (x : t.Persistent) → rules.mutex_faults language gs n.no_locals x.guard.mutex x.guard.each ≡ [] → rules.each_faults language gs x ≡ [] →
      IsGuard q.mutexes (made.variable gs x)
  guard_formed x h k = guard_by x x.guard.each (lock_formed language q gs sorts [] [] n.no_locals (none_known gs [] []) x.guard.mutex x.guard.each h) k

  variable_formed : (x : t.Persistent) → rules.item_faults language gs (t.PersistentItem x) ≡ [] → IsVariable q.mutexes (made.variable gs x)
  variable_formed x h =
      let a = rules.mutex_faults language gs n.no_locals x.guard.mutex x.guard.each in
      let b = rules.each_faults language gs x in
      let old = ((a ++ b) ++ rules.length_faults x.length) ++ rules.initialiser_faults x.type_name x.length x.initialiser in
      let first = nil_left ((a ++ b) ++ rules.length_faults x.length) (rules.initialiser_faults x.type_name x.length x.initialiser)
      (nil_left old (rules.type_name_faults language gs n.no_locals x.type_name) h) in
      let kind = n.kind_named x.type_name in
      let both = nil_left (a ++ b) (rules.length_faults x.length) first in
      let size = bounds x.length (nil_right (a ++ b) (rules.length_faults x.length) first) in
      let count = element_count x.length in
      let zs = map (reduced kind) (made.numbers_of x.initialiser) in record {
        guarded = guard_formed x (nil_left a b both) (nil_right a b both);
        not_empty = subst (λ (m : ℕ). 0 < m) (sym (size_is x.length)) size.not_empty;
        not_too_long = subst (λ (m : ℕ). m ≤ MOST_ELEMENTS) (sym (size_is x.length)) size.not_too_long;
        count = filled_length count zs ∙ sym (size_is x.length);
        held = all_both (Holds kind) (take count zs) (replicate (count - length zs) (pos 0)) (all_taken kind count (made.numbers_of x.initialiser))
            (all_zeros kind (count - length zs));
      }

  block_formed : (ks : List Kind) (rs : List (Option ℕ)) (s : n.Scope) (x : t.Block) (ts : List Token) → g.block language x ts → Known gs ks rs s →
      Within (made.statements gs s (made.body_of x)).scope ks rs → rules.statements_faults language gs s (made.body_of x) ≡ [] →
      AreStatements q ks (made.statements gs s (made.body_of x)).made
  block_formed ks rs s (t.Braced opening xs closing) ts d known into h = statements_formed language q gs sorts ks rs s xs d.4.0 d.4.3 known into h

  thread_formed : (x : t.Thread) (ts : List Token) → g.block language x.block ts → rules.item_faults language gs (t.ThreadItem x) ≡ [] →
      AreStatements q (made.thread gs x).locals (made.thread gs x).body
  thread_formed x ts d h =
      let ks = (made.thread gs x).locals in
      let rs = (made.thread gs x).refers in
      block_formed ks rs n.no_locals x.block ts d (none_known gs ks rs) (into_self ks, into_self rs) h

  -- a value that is returned is an expression without faults, whatever the result's type
  value_formed : (ks : List Kind) (rs : List (Option ℕ)) (s : n.Scope) (type_name : Option t.TypeName) (place : Place) (v : t.Expression) → Known gs ks rs s →
      rules.value_faults language gs s type_name place (Some v) ≡ [] → IsExpr q.variables ks (made.expr gs s v)
  value_formed ks rs s None place v known h = numeric_formed language q gs sorts ks rs s known v h
  value_formed ks rs s (Some type_name) place v known h =
      expr_formed language q gs sorts ks rs s known v
      (nil_left (rules.expression_faults language gs s v) (rules.given_faults language gs s (n.of_type gs type_name) place v) h)

  returned_formed : (ks : List Kind) (rs : List (Option ℕ)) (s : n.Scope) (f : t.Function) (o : Option t.Return) → Known gs ks rs s →
      rules.returned_faults language gs s f o ≡ [] → IsReturned q ks (made.returned gs s (option_map n.kind_named f.type_name) o)
  returned_formed ks rs s f o known h = by f.type_name o h
    where
      go : (kind : Kind) (type_name : Option t.TypeName) (o : Option t.Expression) → rules.value_faults language gs s type_name f.name.place o ≡ [] →
          IsReturned q ks (option_map (λ v. record { kind = kind; value = made.placed gs s v }) o)
      go kind type_name None k = tt
      go kind type_name (Some v) k = value_formed ks rs s type_name f.name.place v known k

      by : (type_name : Option t.TypeName) (o : Option t.Return) → elim o as (λ o. List Fault) [
        | None ↦ []
        | Some r ↦ rules.value_faults language gs s type_name f.name.place r.value
      ] ≡ [] → IsReturned q ks (made.returned gs s (option_map n.kind_named type_name) o)
      by None o k = tt
      by (Some type_name) None k = tt
      by (Some type_name) (Some r) k = go (n.kind_named type_name) (Some type_name) r.value k

  -- what is known where its body begins, and where it ends
  begun_known : (x : t.Function) → Known gs (made.function gs x).locals (made.function gs x).refers (made.with_parameters gs n.no_locals x.parameters)
  begun_known x =
      let ks = (made.function gs x).locals in
      let rs = (made.function gs x).refers in
      known_parameters gs ks rs n.no_locals x.parameters (none_known gs ks rs)
      (grow_statements gs (made.with_parameters gs n.no_locals x.parameters) x.body.statements)

  ended_known : (x : t.Function) → Known gs (made.function gs x).locals (made.function gs x).refers
      (made.statements gs (made.with_parameters gs n.no_locals x.parameters) x.body.statements).scope
  ended_known x =
      let ks = (made.function gs x).locals in
      let rs = (made.function gs x).refers in
      known_all language q gs sorts ks rs (made.with_parameters gs n.no_locals x.parameters) x.body.statements (begun_known x) (into_self ks, into_self rs)

  function_formed : (x : t.Function) (ts : List Token) → g.function language x ts → rules.item_faults language gs (t.FunctionItem x) ≡ [] →
      IsFunction q (made.function gs x)
  function_formed x ts d h =
      let s = made.with_parameters gs n.no_locals x.parameters in
      let m = made.statements gs s x.body.statements in
      let ks = m.scope.kinds in
      let rs = m.scope.refers in
      let grown = grow_statements gs s x.body.statements in
      let parts = function_parts language gs x h in record {
        parameters = omega (arith, into_length s.kinds ks grown.0, parameters_count n.no_locals x.parameters);
        body = statements_formed language q gs sorts ks rs s x.body.statements d.4.4.4.4.4.4.0 d.4.4.4.4.4.4.3 (begun_known x) (into_self ks, into_self rs)
            parts.body;
        result = returned_formed ks rs m.scope x x.body.returned (ended_known x) parts.returned;
      }
    where
      parameters_count : (s : n.Scope) (ys : List t.Parameter) → length (made.with_parameters gs s ys).kinds ≡ length s.kinds + length ys
      parameters_count s [] = omega arith
      parameters_count s (y ∷ ys) = omega (
        arith,
        parameters_count (n.declared gs s y.name.text y.type_name) ys,
        length-append s.kinds (n.kind_named y.type_name ∷ []),
      )

  -- the parts of a program that are made of the items
  record Parts (made_of : p.Program) : Type 0 where
    variables : AllByRecursion (IsVariable q.mutexes) made_of.variables
    functions : AllByRecursion (IsFunction q) made_of.functions
    threads : AllByRecursion (λ (y : p.Thread). AreStatements q y.locals y.body) made_of.threads

  parts_formed : (xs : List t.Item) (ts : List Token) → all_of (g.item language) xs ts → flat_map (rules.item_faults language gs) xs ≡ [] →
      Parts (made.program_from gs xs)
  parts_formed [] ts d h = record { variables = tt; functions = tt; threads = tt }
  parts_formed (x ∷ xs) ts d h = add x d.0 d.3 (nil_left (rules.item_faults language gs x) (flat_map (rules.item_faults language gs) xs) h)
      (parts_formed xs d.1 d.4 (nil_right (rules.item_faults language gs x) (flat_map (rules.item_faults language gs) xs) h))
    where
      add : (y : t.Item) (us : List Token) → g.item language y us → rules.item_faults language gs y ≡ [] → Parts (made.program_from gs xs) →
          Parts (made.with_item gs y (made.program_from gs xs))
      add (t.MutexItem y count) us c k r = record { variables = r.variables; functions = r.functions; threads = r.threads }
      add (t.PersistentItem y) us c k r =
          record { variables = (variable_formed y k, r.variables); functions = r.functions; threads = r.threads }
      add (t.ThreadItem y) us c k r = record { variables = r.variables; functions = r.functions; threads = (thread_formed y c.4.1 c.4.4 k, r.threads) }
      add (t.FunctionItem y) us c k r = record { variables = r.variables; functions = (function_formed y us c k, r.functions); threads = r.threads }

-- ---- What names stand for

-- the part stands in the program, after so many of each sort
record After (q : p.Program) (c : n.Counts) (part : p.Program) : Type 0 where
  mutexes : drop c.mutexes q.mutexes ≡ part.mutexes
  variables : (k : ℕ) (v : p.Variable) → slice_get part.variables k ≡ Some v → slice_get q.variables (c.variables + k) ≡ Some v
  functions : (k : ℕ) (f : p.Function) → slice_get part.functions k ≡ Some f → slice_get q.functions (c.functions + k) ≡ Some f

-- ---- Where mutexes stand

-- what stands first in what is left of a list
get_dropped : (ms : List p.Mutex) (k : ℕ) (it : p.Mutex) (rest : List p.Mutex) → drop k ms ≡ it ∷ rest → slice_get ms k ≡ Some it
get_dropped ms zero it rest e = ap (λ (xs : List p.Mutex). slice_get xs 0) e
get_dropped [] (suc k) it rest e = absurd (none-some it (ap (λ (xs : List p.Mutex). slice_get xs 0) e))
get_dropped (m ∷ ms) (suc k) it rest e = get_dropped ms k it rest e

mutexes_there : (ms : List p.Mutex) (first : ℕ) (it : p.Mutex) (size : ℕ) → slice_get ms first ≡ Some it → it.length ≡ Some size → mutexes_of ms first ≡ size
mutexes_there ms first it size found sized =
    ap (λ (o : Option p.Mutex). elim o as (λ _. ℕ) [ Some m ↦ elim m.length as (λ _. ℕ) [ Some many ↦ many | None ↦ 0 ] | None ↦ 0 ]) found
    ∙ ap (λ (o : Option ℕ). elim o as (λ _. ℕ) [ Some many ↦ many | None ↦ 0 ]) sized

copies_taken : (size : ℕ) (it : p.Mutex) (rest : List p.Mutex) → take size (replicate size it ++ rest) ≡ replicate size it
copies_taken zero it rest = refl
copies_taken (suc size) it rest = ap (λ (ms : List p.Mutex). it ∷ ms) (copies_taken size it rest)

copies_dropped : (size : ℕ) (it : p.Mutex) (rest : List p.Mutex) → drop size (replicate size it ++ rest) ≡ rest
copies_dropped zero it rest = refl
copies_dropped (suc size) it rest = copies_dropped size it rest

first_copy : (size : ℕ) (it : p.Mutex) (rest : List p.Mutex) → 0 < size → (more : List p.Mutex) × (replicate size it ++ rest ≡ it ∷ more)
first_copy zero it rest some = absurd (omega (arith, some))
first_copy (suc size) it rest some = (replicate size it ++ rest, refl)

-- a mutex or an array of them, where it is what comes next
mutex_there : (ms : List p.Mutex) (number : ℕ) (name : t.Name) (count : Option t.Length) (rest : List p.Mutex) → 0 < element_count count →
    drop number ms ≡ replicate (element_count count) (record { name = name; length = option_map length_number count }) ++ rest →
    MutexIn ms number (option_map length_number count)
mutex_there ms number name None rest some e =
    let it : p.Mutex = record { name = name; length = None } in
    record { it = it; found = get_dropped ms number it rest e; single = refl }
mutex_there ms number name (Some count) rest some e =
    let size : ℕ = length_number count in
    let it : p.Mutex = record { name = name; length = Some size } in
    let first = first_copy size it rest some in
    let found : slice_get ms number ≡ Some it = get_dropped ms number it first.0 (e ∙ first.1) in
    let sized : mutexes_of ms number ≡ size = mutexes_there ms number it size found refl in
    let whole : take size (drop number ms) ≡ replicate size it = ap (λ (xs : List p.Mutex). take size xs) e ∙ copies_taken size it rest in (
      record {
        it = it;
        found = found;
        array = refl;
        whole = subst (λ (k : ℕ). take k (drop number ms) ≡ replicate k it) (sym sized) whole;
      },
      sized,
    )

-- ---- What stands after an item

module _ (q : p.Program) (c : n.Counts) (gs : List n.Global) where
  abbrev at : (A : Type 0) → List A → ℕ → A → Type 0
  at A xs i y = slice_get xs i ≡ Some y

  after_mutexes : (y : t.Name) (count : Option t.Length) (xs : List t.Item) → After q c (made.with_item gs (t.MutexItem y count) (made.program_from gs xs)) →
      After q (n.counted c (t.MutexItem y count)) (made.program_from gs xs)
  after_mutexes y count xs e =
      let it : p.Mutex = record { name = y; length = option_map length_number count } in
      let later = (made.program_from gs xs).mutexes in
      let size : ℕ = element_count count in
      record {
        mutexes = sym (drop-drop size c.mutexes q.mutexes) ∙ (ap (λ (ms : List p.Mutex). drop size ms) e.mutexes ∙ copies_dropped size it later);
        variables = e.variables;
        functions = e.functions;
      }

  variable_there : (y : t.Persistent) (xs : List t.Item) → After q c (made.with_item gs (t.PersistentItem y) (made.program_from gs xs)) →
      slice_get q.variables c.variables ≡ Some (made.variable gs y)
  variable_there y xs e =
      subst (λ (i : ℕ). at p.Variable q.variables i (made.variable gs y)) (omega arith) (e.variables 0 (made.variable gs y) refl)

  after_variable : (y : t.Persistent) (xs : List t.Item) → After q c (made.with_item gs (t.PersistentItem y) (made.program_from gs xs)) →
      After q (n.counted c (t.PersistentItem y)) (made.program_from gs xs)
  after_variable y xs e = record {
    mutexes = e.mutexes;
    variables = λ i v l. subst (λ (j : ℕ). at p.Variable q.variables j v) (omega arith) (e.variables (suc i) v l);
    functions = e.functions;
  }

  after_thread : (y : t.Thread) (xs : List t.Item) → After q c (made.with_item gs (t.ThreadItem y) (made.program_from gs xs)) →
      After q c (made.program_from gs xs)
  after_thread y xs e = record { mutexes = e.mutexes; variables = e.variables; functions = e.functions }

  function_there : (y : t.Function) (xs : List t.Item) → After q c (made.with_item gs (t.FunctionItem y) (made.program_from gs xs)) →
      slice_get q.functions c.functions ≡ Some (made.function gs y)
  function_there y xs e =
      subst (λ (i : ℕ). at p.Function q.functions i (made.function gs y)) (omega arith) (e.functions 0 (made.function gs y) refl)

  after_function : (y : t.Function) (xs : List t.Item) → After q c (made.with_item gs (t.FunctionItem y) (made.program_from gs xs)) →
      After q (n.counted c (t.FunctionItem y)) (made.program_from gs xs)
  after_function y xs e = record {
    mutexes = e.mutexes;
    variables = e.variables;
    functions = λ i f l. subst (λ (j : ℕ). at p.Function q.functions j f) (omega arith) (e.functions (suc i) f l);
  }

some_mapped : {A B : Type 0} (f : A → B) (o : Option A) → is_some (option_map f o) ≡ is_some o
some_mapped f None = refl
some_mapped f (Some x) = refl

bounded : (o : Option t.Length) → rules.length_faults o ≡ [] → IsBounded (option_map length_number o)
bounded None h = tt
bounded (Some x) h = let size = bounds (Some x) h in (size.not_empty, size.not_too_long)

-- types of parameters, each without faults where it stands
parameters_typed : (language : Language) (gs : List n.Global) (s : n.Scope) (ys : List t.Parameter) → rules.parameters_faults language gs s ys ≡ [] →
    AllByRecursion (TypeIn gs) (map (λ (y : t.Parameter). y.type_name) ys)
parameters_typed language gs s [] h = tt
parameters_typed language gs s (y ∷ ys) h =
    let twice = rules.twice s.own y.name in
    let types = rules.type_name_faults language gs s y.type_name in
    let s' = n.declared gs s y.name.text y.type_name in
    let rest = rules.parameters_faults language gs s' ys in (
      type_in language gs s y.type_name (nil_right twice types (nil_left (twice ++ types) rest h)),
      parameters_typed language gs s' ys (nil_right (twice ++ types) rest h),
    )

result_typed : (language : Language) (gs : List n.Global) (o : Option t.TypeName) → rules.result_faults language gs o ≡ [] → GivesIn gs o
result_typed language gs None h = tt
result_typed language gs (Some type_name) h = type_in language gs n.no_locals type_name h

-- the first locals of a function are its parameters
parameters_begin : (gs : List n.Global) (x : t.Function) →
    Begins (types_refer gs (map (λ (y : t.Parameter). y.type_name) x.parameters)) (made.function gs x).refers
parameters_begin gs x =
    let s = made.with_parameters gs n.no_locals x.parameters in
    let grown = grow_statements gs s x.body.statements in
    let types = types_refer gs (map (λ (y : t.Parameter). y.type_name) x.parameters) in
    begins_into types (made.function gs x).refers
    (subst (λ (rs : List (Option ℕ)). Into rs (made.function gs x).refers) (parameters_refer gs n.no_locals x.parameters) grown.1)

module _ (language : Language) (q : p.Program) (gs : List n.Global) where
  -- the result is there where one is declared
  gives_formed : (s : n.Scope) (x : t.Function) → rules.return_faults language gs x ≡ [] →
      is_some (made.returned gs s (option_map n.kind_named x.type_name) x.body.returned) ≡ is_some x.type_name
  gives_formed s x h = go (option_map n.kind_named x.type_name) x.body.returned (subst
      (λ (b : Bool). (if b then not (rules.returns_value language gs x.body.returned) else rules.returns_value language gs x.body.returned) ≡ false)
      (sym (some_mapped n.kind_named x.type_name)) (unbroken
      (if is_some x.type_name then not (rules.returns_value language gs x.body.returned) else rules.returns_value language gs x.body.returned) rule.Return
      x.name.place h)) ∙ some_mapped n.kind_named x.type_name
    where
      value : (kind : Kind) (o : Option t.Expression) → not (is_some o) ≡ false →
          is_some {T = p.Returned} (option_map (λ v. record { kind = kind; value = made.placed gs s v }) o) ≡ true
      value kind None k = absurd (cc)
      value kind (Some v) k = refl

      go : (kind : Option Kind) (o : Option t.Return) →
          (if is_some kind then not (rules.returns_value language gs o) else rules.returns_value language gs o) ≡ false →
          is_some (made.returned gs s kind o) ≡ is_some kind
      go None o k = refl
      go (Some kind) None k = absurd (cc)
      go (Some kind) (Some r) k = value kind r.value k

  sorts_formed : (c : n.Counts) (xs : List t.Item) → After q c (made.program_from gs xs) → flat_map (rules.item_faults language gs) xs ≡ [] →
      AllByRecursion (λ (y : n.Global). SortIn q gs y.sort) (n.globals_from c xs)
  sorts_formed c [] b h = tt
  sorts_formed c (x ∷ xs) b h = go x b (nil_left (rules.item_faults language gs x) (flat_map (rules.item_faults language gs) xs) h)
      (λ d e. sorts_formed d xs e (nil_right (rules.item_faults language gs x) (flat_map (rules.item_faults language gs) xs) h))
    where
      go : (y : t.Item) → After q c (made.with_item gs y (made.program_from gs xs)) → rules.item_faults language gs y ≡ [] →
          ((d : n.Counts) → After q d (made.program_from gs xs) → AllByRecursion (λ (z : n.Global). SortIn q gs z.sort) (n.globals_from d xs)) →
          AllByRecursion (λ (z : n.Global). SortIn q gs z.sort) (n.globals_from c (y ∷ xs))
      go (t.MutexItem y count) e k rest =
          let later = (made.program_from gs xs).mutexes in (
            mutex_there q.mutexes c.mutexes y count later (bounds count k).not_empty e.mutexes,
            rest (n.counted c (t.MutexItem y count)) (after_mutexes q c gs y count xs e),
          )
      go (t.PersistentItem y) e k rest =
          let number = made.mutex_number gs n.no_locals y.guard.mutex in
          let a = rules.mutex_faults language gs n.no_locals y.guard.mutex y.guard.each in
          let b = rules.each_faults language gs y in
          let lengths = rules.length_faults y.length in
          let initial = rules.initialiser_faults y.type_name y.length y.initialiser in
          let old = ((a ++ b) ++ lengths) ++ initial in
          let types = rules.type_name_faults language gs n.no_locals y.type_name in (
            record {
              it = made.variable gs y;
              found = variable_there q c gs y xs e;
              kind = refl;
              long = refl;
              bounded = bounded y.length (nil_right (a ++ b) lengths (nil_left ((a ++ b) ++ lengths) initial (nil_left old types k)));
              refers = refl;
              typed = type_in language gs n.no_locals y.type_name (nil_right old types k);
              guarded = λ one. record {
                mutex = number;
                is = ap (λ (each : Bool). if each then p.Each number else p.By number) one;
              };
            },
            rest (n.counted c (t.PersistentItem y)) (after_variable q c gs y xs e),
          )
      go (t.ThreadItem y) e k rest = (tt, rest c (after_thread q c gs y xs e))
      go (t.FunctionItem y) e k rest =
          let m = made.statements gs (made.with_parameters gs n.no_locals y.parameters) y.body.statements in
          let parts = function_parts language gs y k in (
            record {
              it = made.function gs y;
              found = function_there q c gs y xs e;
              count = length-map y.parameters (λ (z : t.Parameter). z.type_name);
              gives = gives_formed m.scope y parts.returns;
              refer = parameters_begin gs y;
              typed = parameters_typed language gs n.no_locals y.parameters parts.parameters;
              given_typed = result_typed language gs y.type_name parts.result;
            },
            rest (n.counted c (t.FunctionItem y)) (after_function q c gs y xs e),
          )

-- ---- References, where names stand in the program

zeros : (m : ℕ) → AllByRecursion (λ (z : ℤ). z ≡ pos 0) (replicate m (pos 0))
zeros zero = tt
zeros (suc m) = (refl, zeros m)

none_taken : (m : ℕ) → AllByRecursion (λ (z : ℤ). z ≡ pos 0) (take m [])
none_taken zero = tt
none_taken (suc m) = tt

null_by : (v : p.Variable) (o : Option n.Array) → v.kind ≡ UnsignedLong → AllByRecursion (λ (z : ℤ). z ≡ pos 0) v.initial → HasNulls (numbered o) v
null_by v None k h = tt
null_by v (Some a) k h = (k, h)

-- what refers begins as null
has_nulls : (gs : List n.Global) (v : p.Variable) (type_name : t.TypeName) (size : Option t.Length) (i : Option t.Initialiser) →
    v.kind ≡ n.kind_named type_name → v.initial ≡ made.filled (element_count size) (map (reduced (n.kind_named type_name)) (made.numbers_of i)) →
    rules.initialiser_faults type_name size i ≡ [] → HasNulls (numbered (n.referred gs type_name)) v
has_nulls gs v (t.OfKind kind) size i k e h = tt
has_nulls gs v (t.RefTo array) size None k e h =
    null_by v (n.referred gs (t.RefTo array)) k (subst (AllByRecursion (λ (z : ℤ). z ≡ pos 0)) (sym e)
    (all_both (λ (z : ℤ). z ≡ pos 0) (take (element_count size) []) (replicate (element_count size - 0) (pos 0)) (none_taken (element_count size))
    (zeros (element_count size - 0))))
has_nulls gs v (t.RefTo array) size (Some (t.Single x)) k e h = absurd (not_broken rule.WrongSort x.place h)
has_nulls gs v (t.RefTo array) size (Some (t.InBraces place xs)) k e h = absurd (not_broken rule.WrongSort place h)

module _ (language : Language) (q : p.Program) (gs : List n.Global) (sorts : AllByRecursion (λ (y : n.Global). SortIn q gs y.sort) gs) where
  -- locals of what is made begin with none
  abbrev Referring : List Kind → List (Option ℕ) → Type 0
  Referring ks rs = AreReferring q gs sorts ks rs

  function_referring : (x : t.Function) → Referring (made.function gs x).locals (made.function gs x).refers
  function_referring x =
      let s = made.with_parameters gs n.no_locals x.parameters in
      keeps_statements gs (AreReferring q gs sorts) (referring_more q gs sorts) s x.body.statements
      (keeps_parameters gs (AreReferring q gs sorts) (referring_more q gs sorts) n.no_locals x.parameters (tt, tt))

  thread_referring : (x : t.Thread) → Referring (made.thread gs x).locals (made.thread gs x).refers
  thread_referring x = keeps_statements gs (AreReferring q gs sorts) (referring_more q gs sorts) n.no_locals (made.body_of x.block) (tt, tt)

  -- ---- What functions give

  function_gives : (x : t.Function) → rules.item_faults language gs (t.FunctionItem x) ≡ [] → (number : ℕ) →
      slice_get q.functions number ≡ Some (made.function gs x) → (o : Option t.TypeName) → x.type_name ≡ o → (parameters : List t.TypeName) →
      GivesSo q gs (n.Function number o parameters)
  function_gives x h number here None e parameters = tt
  function_gives x h number here (Some type_name) e parameters = λ os g found.
      let m = made.statements gs (made.with_parameters gs n.no_locals x.parameters) x.body.statements in
      let ks = (made.function gs x).locals in
      let rs = (made.function gs x).refers in
      let parts = function_parts language gs x h in
      let typed : TypeIn gs type_name = subst (GivesIn gs) e (result_typed language gs x.type_name parts.result) in
      let given = returned_given language q gs sorts ks rs m.scope (ended_known language q gs sorts x) os type_name x.name.place x.body.returned typed
      (subst (λ (o : Option t.TypeName). (elim x.body.returned as (λ _. List Fault) [
        | None ↦ []
        | Some r ↦ rules.value_faults language gs m.scope o x.name.place r.value
      ]) ≡ []) e parts.returned) in
      let own : IsResultGiven q os rs (made.function gs x).result (numbered (n.referred gs type_name)) =
      subst (λ (o : Option t.TypeName).
      IsResultGiven q os rs (made.returned gs m.scope (option_map n.kind_named o) x.body.returned) (numbered (n.referred gs type_name))) (sym e) given in
      subst (λ (f : p.Function). IsResultGiven q os f.refers f.result (numbered (n.referred gs type_name)))
      (same_Some (made.function gs x) g (sym here ∙ found)) own

  results_right : (c : n.Counts) (xs : List t.Item) → After q c (made.program_from gs xs) → flat_map (rules.item_faults language gs) xs ≡ [] →
      AllByRecursion (λ (y : n.Global). GivesSo q gs y.sort) (n.globals_from c xs)
  results_right c [] b h = tt
  results_right c (x ∷ xs) b h = go x b (nil_left (rules.item_faults language gs x) (flat_map (rules.item_faults language gs) xs) h)
      (λ d e. results_right d xs e (nil_right (rules.item_faults language gs x) (flat_map (rules.item_faults language gs) xs) h))
    where
      go : (y : t.Item) → After q c (made.with_item gs y (made.program_from gs xs)) → rules.item_faults language gs y ≡ [] →
          ((d : n.Counts) → After q d (made.program_from gs xs) → AllByRecursion (λ (z : n.Global). GivesSo q gs z.sort) (n.globals_from d xs)) →
          AllByRecursion (λ (z : n.Global). GivesSo q gs z.sort) (n.globals_from c (y ∷ xs))
      go (t.MutexItem y count) e k rest = (tt, rest (n.counted c (t.MutexItem y count)) (after_mutexes q c gs y count xs e))
      go (t.PersistentItem y) e k rest = (tt, rest (n.counted c (t.PersistentItem y)) (after_variable q c gs y xs e))
      go (t.ThreadItem y) e k rest = (tt, rest c (after_thread q c gs y xs e))
      go (t.FunctionItem y) e k rest = (
        function_gives y k c.functions (function_there q c gs y xs e) y.type_name refl (map (λ (z : t.Parameter). z.type_name) y.parameters),
        rest (n.counted c (t.FunctionItem y)) (after_function q c gs y xs e),
      )

  -- ---- Items

  variable_referring : (x : t.Persistent) → rules.item_faults language gs (t.PersistentItem x) ≡ [] → IsVariableReferring q.variables (made.variable gs x)
  variable_referring x h =
      let a = rules.mutex_faults language gs n.no_locals x.guard.mutex x.guard.each in
      let b = rules.each_faults language gs x in
      let lengths = rules.length_faults x.length in
      let initial = rules.initialiser_faults x.type_name x.length x.initialiser in
      let types = rules.type_name_faults language gs n.no_locals x.type_name in
      let first = nil_left (((a ++ b) ++ lengths) ++ initial) types h in (
        right_so q gs sorts x.type_name (n.referred gs x.type_name) refl,
        has_nulls gs (made.variable gs x) x.type_name x.length x.initialiser refl refl (nil_right ((a ++ b) ++ lengths) initial first),
      )

  module _ (results : AllByRecursion (λ (y : n.Global). GivesSo q gs y.sort) gs) where
    thread_right : (x : t.Thread) → rules.item_faults language gs (t.ThreadItem x) ≡ [] → IsThreadReferring q (made.thread gs x)
    thread_right x h =
        let ks = (made.thread gs x).locals in
        let rs = (made.thread gs x).refers in
        let locals = thread_referring x in record {
          locals = locals.0;
          refer = locals.1;
          body = statements_referring language q gs sorts results ks rs n.no_locals (made.body_of x.block) (none_known gs ks rs) (into_self ks, into_self rs) h;
        }

    function_right : (x : t.Function) → rules.item_faults language gs (t.FunctionItem x) ≡ [] → IsFunctionReferring q (made.function gs x)
    function_right x h =
        let s = made.with_parameters gs n.no_locals x.parameters in
        let m = made.statements gs s x.body.statements in
        let ks = (made.function gs x).locals in
        let rs = (made.function gs x).refers in
        let parts = function_parts language gs x h in
        let locals = function_referring x in record {
          locals = locals.0;
          refer = locals.1;
          body = statements_referring language q gs sorts results ks rs s x.body.statements (begun_known language q gs sorts x) (into_self ks, into_self rs)
              parts.body;
          result = returned_follows language q gs sorts ks rs m.scope (ended_known language q gs sorts x) x.type_name x.name.place x.body.returned
              parts.returned;
        }

    -- the parts of a program that are made of the items
    record ReferringParts (part : p.Program) : Type 0 where
      variables : AllByRecursion (IsVariableReferring q.variables) part.variables
      functions : AllByRecursion (IsFunctionReferring q) part.functions
      threads : AllByRecursion (IsThreadReferring q) part.threads

    parts_referring : (xs : List t.Item) → flat_map (rules.item_faults language gs) xs ≡ [] → ReferringParts (made.program_from gs xs)
    parts_referring [] h = record { variables = tt; functions = tt; threads = tt }
    parts_referring (x ∷ xs) h =
        add x (nil_left (rules.item_faults language gs x) (flat_map (rules.item_faults language gs) xs) h)
        (parts_referring xs (nil_right (rules.item_faults language gs x) (flat_map (rules.item_faults language gs) xs) h))
      where
        add : (y : t.Item) → rules.item_faults language gs y ≡ [] → ReferringParts (made.program_from gs xs) →
            ReferringParts (made.with_item gs y (made.program_from gs xs))
        add (t.MutexItem y count) k r = record { variables = r.variables; functions = r.functions; threads = r.threads }
        add (t.PersistentItem y) k r = record { variables = (variable_referring y k, r.variables); functions = r.functions; threads = r.threads }
        add (t.ThreadItem y) k r = record { variables = r.variables; functions = r.functions; threads = (thread_right y k, r.threads) }
        add (t.FunctionItem y) k r = record { variables = r.variables; functions = (function_right y k, r.functions); threads = r.threads }

-- ---- Mutexes

-- an item makes no mutex that is in an array
single_more : (gs : List n.Global) (x : t.Item) (us : List Token) (q : p.Program) → g.item Plain x us → AllByRecursion IsSingle q.mutexes →
    AllByRecursion IsSingle (made.with_item gs x q).mutexes
single_more gs (t.MutexItem x None) us q d h = (refl, h)
single_more gs (t.MutexItem x (Some count)) us q d h = absurd d.4.4.3
single_more gs (t.PersistentItem x) us q d h = h
single_more gs (t.FunctionItem x) us q d h = h
single_more gs (t.ThreadItem x) us q d h = h

single_items : (gs : List n.Global) (xs : List t.Item) (ts : List Token) → all_of (g.item Plain) xs ts →
    AllByRecursion IsSingle (made.program_from gs xs).mutexes
single_items gs [] ts d = tt
single_items gs (x ∷ xs) ts d = single_more gs x d.0 (made.program_from gs xs) d.3 (single_items gs xs d.1 d.4)

-- ---- The whole text

-- no more mutexes are made than the rule of their number says
few_mutexes : (xs : List t.Item) → type_faults Plain xs ≡ [] → length (typed_program xs).mutexes ≤ MOST_MUTEXES
unfolding type_faults typed_program
few_mutexes xs h =
    let gs = n.globals_of xs in
    let a = rules.twice_from [] gs in
    let b = rules.past rule.Threads MOST_THREADS (rules.thread_names xs) in
    let m = rules.too_many_mutexes MOST_MUTEXES 0 xs in
    let e = rules.too_many_bytes 0 xs in
    let f = flat_map (rules.item_faults Plain gs) xs in
    let h3 = nil_left ((a ++ b) ++ m) e (nil_left (((a ++ b) ++ m) ++ e) f h) in
    let few : length (made.program_from gs xs).mutexes ≤ MOST_MUTEXES =
    omega (arith, mutexes_within gs MOST_MUTEXES 0 xs (omega arith) (nil_right (a ++ b) m h3)) in
    few

-- in the plain language no mutex is in an array
single_typed : (xs : List t.Item) (ts : List Token) → all_of (g.item Plain) xs ts → AllByRecursion IsSingle (typed_program xs).mutexes
unfolding typed_program
single_typed xs ts d = single_items (n.globals_of xs) xs ts d

most_few : (language : Language) → rules.most_mutexes language ≤ MOST_LOCKS
most_few Plain = omega arith
most_few Full = omega arith

formed : (language : Language) (xs : List t.Item) (ts : List Token) → all_of (g.item language) xs ts → type_faults language xs ≡ [] →
    IsProgram (typed_program xs)
unfolding type_faults typed_program
formed language xs ts d h =
    let gs = n.globals_of xs in
    let q = made.program_from gs xs in
    let most = rules.most_mutexes language in
    let a = rules.twice_from [] gs in
    let b = rules.past rule.Threads MOST_THREADS (rules.thread_names xs) in
    let m = rules.too_many_mutexes most 0 xs in
    let e = rules.too_many_bytes 0 xs in
    let f = flat_map (rules.item_faults language gs) xs in
    let h4 = nil_left (((a ++ b) ++ m) ++ e) f h in
    let h3 = nil_left ((a ++ b) ++ m) e h4 in
    let h2 = nil_left (a ++ b) m h3 in
    let items = nil_right (((a ++ b) ++ m) ++ e) f h in
    let whole : After q n.none_yet q = record {
      mutexes = refl;
      variables = λ k v l. subst (λ (i : ℕ). slice_get q.variables i ≡ Some v)
          (omega arith) l;
      functions = λ k v l. subst (λ (i : ℕ). slice_get q.functions i ≡ Some v) (omega arith) l;
    } in
    let sorts = sorts_formed language q gs n.none_yet xs whole items in
    let results = results_right language q gs sorts n.none_yet xs whole items in
    let parts = parts_formed language q gs sorts xs ts d items in
    let references = parts_referring language q gs sorts results xs items in record {
      shared = record {
        mutexes = omega (arith, mutexes_within gs most 0 xs (omega arith) (nil_right (a ++ b) m h3), most_few language);
        threads = omega (arith, threads_named gs xs, past_most rule.Threads MOST_THREADS (rules.thread_names xs) (nil_right a b h2));
        variables = parts.variables;
        bytes = ends_within gs 0 xs (omega arith) (nil_right ((a ++ b) ++ m) e h4);
      };
      functions = parts.functions;
      threads = parts.threads;
      referring = record { variables = references.variables; functions = references.functions; threads = references.threads };
    }

spelled_items : (language : Language) (xs : List t.Item) (ts : List Token) → g.program language xs ts → all_of (g.item language) xs ts
spelled_items language [] ts d = absurd d
spelled_items language (x ∷ xs) ts d = d

pub typed_formed : (language : Language) (text : List ℕ) (x : p.Program) → IsTyped language text x → IsProgram x
typed_formed language text x h =
    subst IsProgram (sym h.typed) (formed language h.items _ (spelled_items language h.items _ h.read.spelled) h.faultless)

pub typed_plain : (text : List ℕ) (x : p.Program) → IsTyped Plain text x → ArePlain x.mutexes
typed_plain text x h =
    subst (λ (y : p.Program). ArePlain y.mutexes) (sym h.typed) (record {
      single = single_typed h.items _ (spelled_items Plain h.items _ h.read.spelled);
      few = few_mutexes h.items h.faultless;
    })

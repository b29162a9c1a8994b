-- Which locals the statements that a call becomes name.
use Rattle.std.proofs.Common.{◌≡◌, ◌⊎◌, ℕ, zero, suc, ◌+◌, ◌<◌, ◌≤◌, List, [], ◌∷◌, length, map, Option, Some, None}
use Rattle.std.proofs.Common.{refl, sym, ap, ap₂, ◌∙◌, subst, arith, inl, inr, ⊎_elim, append_assoc, append-nil, length-append}
use Rattle.std.specs.Prelude.{Contains, slice_get}
use Rattle.std.specs.Option.{option_map}
use Rattle.std.proofs.lemmas.Option.{slice_get_within}
use Rattle.std.proofs.lemmas.List.Elements.{Contains-append_left, Contains-append_right}
use Rattle.ido_base.specs.declared.place.Place.{Place}
use Rattle.ido_ints.specs.declared.kinds.Kind.{Kind}
use Rattle.c_tree.specs.Exprs as e
use Rattle.c_tree.specs.Programs as p
use Rattle.c_tree.specs.Flats as f
use Rattle.c_tree.specs.Inlining as i
use Rattle.c_tree.specs.Inlining.{bodies_of}
use Rattle.c_tree.specs.AcceptedTexts.{HasNoBack}
use Rattle.c_inline.specs.CallLaws.{Use, read, assigned, ExprReads, Uses, ListUses, TargetUses, ResultUses, StatementsUse, ArmsUse, AreBelow, TakesArguments}
use Rattle.c_inline.specs.CallLaws.{KeyUses, IsKeyBelow, IsScoped, AreScoped, AreScopedArms}
use Rattle.c_inline.specs.CallLaws.{IsReturnedBelow, AreFunctionsScoped, Site, call_made, IsNew, IsPassed}
use Rattle.c_inline.specs.links.KnownWeights.{Low}
use Rattle.c_inline.proofs.CallCongruence.{alone}
use Rattle.c_inline.proofs.WeightsByDepth.{calls_of_some}
use Rattle.c_inline.proofs.CallDepth.{low_all}

-- ---- Renumbered locals

-- a number that was renumbered has one before
abbrev From : (by local : ℕ) → (ℕ → Type 0) → Type 0
From n l P = (k : ℕ) × (l ≡ n + k) × P k

from_more : (n l : ℕ) (P Q : ℕ → Type 0) → ((k : ℕ) → P k → Q k) → From n l P → From n l Q
from_more n l P Q h x = (x.0, x.1, h x.0 x.2)

shifted_reads : (n : ℕ) (x : e.Expr) (l : ℕ) → ExprReads (i.shifted n x) l → From n l (ExprReads x)
shifted_reads n (e.Constant value) l h = absurd h
shifted_reads n (e.Local local kind) l h = (local, h, refl)
shifted_reads n (e.Variable place variable kind) l h = absurd h
shifted_reads n (e.Element place variable kind index_place index) l h = shifted_reads n index l h
shifted_reads n (e.Address variable index_place index) l h = shifted_reads n index l h
shifted_reads n (e.Referent place last local) l h = (local, h, refl)
shifted_reads n (e.Unary operator operand) l h = shifted_reads n operand l h
shifted_reads n (e.Cast kind operand) l h = shifted_reads n operand l h
shifted_reads n (e.Converted kind operand) l h = shifted_reads n operand l h
shifted_reads n (e.Binary operator left right) l h =
    ⊎_elim (λ a. from_more n l (ExprReads left) (ExprReads (e.Binary operator left right)) (λ k. inl) (shifted_reads n left l a))
    (λ b. from_more n l (ExprReads right) (ExprReads (e.Binary operator left right)) (λ k. inr) (shifted_reads n right l b)) h
shifted_reads n (e.Conditional kind condition chosen otherwise) l h =
    let Q : ℕ → Type 0 = ExprReads (e.Conditional kind condition chosen otherwise) in
    ⊎_elim (λ a. from_more n l (ExprReads condition) Q (λ k. inl) (shifted_reads n condition l a))
    (λ b. ⊎_elim (λ c. from_more n l (ExprReads chosen) Q (λ k x. inr (inl x)) (shifted_reads n chosen l c))
    (λ d. from_more n l (ExprReads otherwise) Q (λ k x. inr (inr x)) (shifted_reads n otherwise l d)) b) h

uses_shifted : (u : Use) (n : ℕ) (x : e.Expr) (l : ℕ) → Uses u (i.shifted n x) l → From n l (Uses u x)
uses_shifted read n x l h = shifted_reads n x l h
uses_shifted assigned n x l h = absurd h

key_shifted : (u : Use) (n : ℕ) (key : Option e.Placed) (l : ℕ) → KeyUses u (option_map (i.shifted_placed n) key) l → From n l (KeyUses u key)
key_shifted u n None l h = absurd h
key_shifted u n (Some key) l h = uses_shifted u n key.expr l h

target_shifted : (u : Use) (n : ℕ) (x : e.Lvalue) (l : ℕ) → TargetUses u (i.shifted_target n x) l → From n l (TargetUses u x)
target_shifted u n (e.ToVariable place variable kind) l h = absurd h
target_shifted u n (e.ToElement place variable kind index) l h = uses_shifted u n index.expr l h
target_shifted read n (e.ToLocal place local kind) l h = absurd h
target_shifted assigned n (e.ToLocal place local kind) l h = (local, h, refl)

list_shifted : (u : Use) (n : ℕ) (xs : List e.Placed) (l : ℕ) → ListUses u (map (i.shifted_placed n) xs) l → From n l (ListUses u xs)
list_shifted u n [] l h = absurd h
list_shifted u n (x ∷ xs) l h =
    ⊎_elim (λ a. from_more n l (Uses u x.expr) (ListUses u (x ∷ xs)) (λ k. inl) (uses_shifted u n x.expr l a))
    (λ b. from_more n l (ListUses u xs) (ListUses u (x ∷ xs)) (λ k. inr) (list_shifted u n xs l b)) h

result_shifted : (u : Use) (n : ℕ) (x : Option e.Lvalue) (l : ℕ) → ResultUses u (option_map (i.shifted_target n) x) l → From n l (ResultUses u x)
result_shifted u n None l h = absurd h
result_shifted u n (Some x) l h = target_shifted u n x l h

-- ---- What a call is made of

and_uses : (u : Use) (a b : f.Statements) (l : ℕ) → StatementsUse u (i.statements_and a b) l → StatementsUse u a l ⊎ StatementsUse u b l
and_uses u f.no_statement b l h = inr h
and_uses u (f.statement_and x a) b l h = ⊎_elim (λ k. inl (inl k)) (λ k. ⊎_elim (λ m. inl (inr m)) inr (and_uses u a b l k)) h

to_local : (u : Use) (place : Place) (n : ℕ) (kind : Kind) (l : ℕ) → TargetUses u (e.ToLocal place n kind) l → l ≡ n
to_local read place n kind l h = absurd h
to_local assigned place n kind l h = h

passed_uses : (u : Use) (place : Place) (n : ℕ) (ks : List Kind) (xs : List e.Placed) (l : ℕ) → StatementsUse u (i.passed place n ks xs) l →
    ((n ≤ l) × (l < n + length xs)) ⊎ ListUses u xs l
passed_uses u place n ks [] l h = absurd h
passed_uses u place n ks (x ∷ xs) l h =
    ⊎_elim
    (λ a. ⊎_elim (λ t. let is = to_local u place n _ l t in inl (omega (arith, is), omega (arith, is))) (λ v. inr (inl v)) a)
    (λ b. ⊎_elim (λ k. let low = k.0 in let high = k.1 in inl (omega (arith, low), omega (arith, high))) (λ k. inr (inr k))
    (passed_uses u place (n + 1) _ xs l b))
    h

abbrev ReturnedUses : Use → Option p.Returned → (local : ℕ) → Type 0
ReturnedUses u None l = ⊥
ReturnedUses u (Some x) l = Uses u (e.Converted x.kind x.value.expr) l

assigned_uses : (u : Use) (place : Place) (by : ℕ) (x : Option p.Returned) (target : Option e.Lvalue) (l : ℕ) → StatementsUse u
    (i.assigned place by x target) l → From by l (ReturnedUses u x) ⊎ ResultUses u target l
assigned_uses u place by None target l h = absurd h
assigned_uses u place by (Some x) None l h = absurd h
assigned_uses u place by (Some x) (Some target) l h =
    ⊎_elim (λ a. ⊎_elim (λ t. inr t) (λ v. inl (uses_shifted u by (e.Converted x.kind x.value.expr) l v)) a) (λ b. absurd b) h

length-map : {A B : Type 0} (g : A → B) (xs : List A) → length (map g xs) ≡ length xs
length-map g [] = refl
length-map g (x ∷ xs) = ap suc (length-map g xs)

-- a local that a call names is a parameter, or the body or the result names it, or it was passed
module _ (fs : List p.Function) (F : i.Bodies) (by : ℕ) (ks : i.Locals) (x : Site) (g : p.Function) where
  abbrev made : i.Made f.Statements
  made = i.called fs F x.place by ks g (F x.function ks) x.arguments x.result

  abbrev IsOwn : Use → (local : ℕ) → Type 0
  IsOwn u l =
      ((length ks.kinds ≤ l) × (l < length ks.kinds + length x.arguments)) ⊎ StatementsUse u (F x.function ks).made l
      ⊎ From (length ks.kinds) l (ReturnedUses u g.result)

  called_uses : (u : Use) (l : ℕ) → StatementsUse u made.made l → IsOwn u l ⊎ IsPassed u by x l
  called_uses u l h =
      let arguments = map (i.shifted_placed by) x.arguments in
      let same = length-map (i.shifted_placed by) x.arguments in
      let target = option_map (i.shifted_target by) x.result in
      ⊎_elim
      (λ a. ⊎_elim (λ k. let low = k.0 in let high = k.1 in inl (inl (low, omega (arith, high, same)))) (λ k. inr (inl k))
      (passed_uses u x.place (length ks.kinds) g.locals arguments l a))
      (λ b. ⊎_elim (λ c. inl (inr (inl c)))
      (λ d. ⊎_elim (λ v. inl (inr (inr v))) (λ t. inr (inr t)) (assigned_uses u x.place (length ks.kinds) g.result target l d))
      (and_uses u (F x.function ks).made (i.assigned x.place (length ks.kinds) g.result target) l b))
      (and_uses u (i.passed x.place (length ks.kinds) g.locals arguments)
      (i.statements_and (F x.function ks).made (i.assigned x.place (length ks.kinds) g.result target)) l h)

  -- what is passed was there
  passed_from : (u : Use) (l : ℕ) → IsPassed u by x l → From by l (λ k. ListUses u x.arguments k ⊎ ResultUses u x.result k)
  passed_from u l h =
      let Q : ℕ → Type 0 = λ k. ListUses u x.arguments k ⊎ ResultUses u x.result k in
      ⊎_elim (λ a. from_more by l (ListUses u x.arguments) Q (λ k. inl) (list_shifted u by x.arguments l a))
      (λ b. from_more by l (ResultUses u x.result) Q (λ k. inr) (result_shifted u by x.result l b)) h

-- ---- Locals that there are after a call

abbrev pub Grown : i.Locals → i.Locals → Type 0
Grown ks js = (more : i.Locals) × (js ≡ i.joined ks more)

same_locals : (ks : i.Locals) → Grown ks ks
same_locals ks = (i.locals [] [], ap₂ i.locals (sym (append-nil ks.kinds)) (sym (append-nil ks.refers)))

grown_on : (ks js ls : i.Locals) → Grown ks js → Grown js ls → Grown ks ls
grown_on ks js ls a b = (
  i.joined a.0 b.0,
  b.1 ∙ ap (λ (x : i.Locals). i.joined x b.0) a.1
      ∙ ap₂ i.locals (append_assoc ks.kinds a.0.kinds b.0.kinds) (append_assoc ks.refers a.0.refers b.0.refers),
)

following_grown : (m : f.Statements) (ks js : i.Locals) → Grown ks js → Grown ks (i.locals_after m ks js)
following_grown f.no_statement ks js h = same_locals ks
following_grown (f.statement_and x m) ks js h = h

pub longer : (ks js : i.Locals) → Grown ks js → length ks.kinds ≤ length js.kinds
longer ks js h = let a = ap (λ (x : i.Locals). length x.kinds) h.1 in let b = length-append ks.kinds h.0.kinds in omega (arith, a, b)

-- the locals after a call of which something is left
used_locals : (u : Use) (m : f.Statements) (before after : i.Locals) (l : ℕ) → StatementsUse u m l → i.locals_after m before after ≡ after
used_locals u f.no_statement before after l h = absurd h
used_locals u (f.statement_and x m) before after l h = refl

module _ (fs : List p.Function) (F : i.Bodies) where
  abbrev called_by : (by : ℕ) → i.Locals → Site → Option p.Function → i.Made f.Statements
  called_by by ks x o = elim o [
    | Some g ↦ i.called fs F x.place by ks g (F x.function ks) x.arguments x.result
    | None ↦ record { made = f.no_statement; locals = ks }
  ]

  module _ (grow : (g : ℕ) (js : i.Locals) → Grown js (F g js).locals) where
    call_grown : (by : ℕ) (ks : i.Locals) (x : Site) (o : Option p.Function) → Grown ks (called_by by ks x o).locals
    call_grown by ks x None = same_locals ks
    call_grown by ks x (Some g) = following_grown (made fs F by ks x g).made ks (F x.function ks).locals (grow x.function ks)

    mutual
      pub grown_statement : (by : ℕ) (ks : i.Locals) (x : p.Statement) → Grown ks (i.statement fs F by ks x).locals
      grown_statement by ks (p.Assign place target value) = same_locals ks
      grown_statement by ks (p.Call place name function arguments result) =
          call_grown by ks (record { place = place; name = name; function = function; arguments = arguments; result = result }) (slice_get fs function)
      grown_statement by ks (p.If place arms otherwise) =
          grown_on ks (i.arms_of fs F by ks arms).locals _ (grown_arms by ks arms) (grown_statements by (i.arms_of fs F by ks arms).locals otherwise)
      grown_statement by ks (p.While place condition body) = grown_statements by ks body
      grown_statement by ks (p.Do place body condition) = grown_statements by ks body
      grown_statement by ks (p.Lock place name) = same_locals ks
      grown_statement by ks (p.Unlock place name) = same_locals ks

      pub grown_statements : (by : ℕ) (ks : i.Locals) (xs : p.Statements) → Grown ks (i.statements fs F by ks xs).locals
      grown_statements by ks p.no_statement = same_locals ks
      grown_statements by ks (p.statement_and x rest) =
          grown_on ks (i.statement fs F by ks x).locals _ (grown_statement by ks x) (grown_statements by (i.statement fs F by ks x).locals rest)

      pub grown_arms : (by : ℕ) (ks : i.Locals) (xs : p.Arms) → Grown ks (i.arms_of fs F by ks xs).locals
      grown_arms by ks p.no_arm = same_locals ks
      grown_arms by ks (p.arm_and condition body rest) =
          grown_on ks (i.statements fs F by ks body).locals _ (grown_statements by ks body) (grown_arms by (i.statements fs F by ks body).locals rest)

    -- ---- No lower than where they begin
    module _ (lower : (g : ℕ) (js : i.Locals) (u : Use) (l : ℕ) → StatementsUse u (F g js).made l → length js.kinds ≤ l) where
      from_least : (by m l : ℕ) (P : ℕ → Type 0) → m ≤ by → From by l P → m ≤ l
      from_least by m l P le h = let is = h.1 in omega (arith, le, is)

      call_least : (by : ℕ) (ks : i.Locals) (x : Site) (o : Option p.Function) (m : ℕ) → m ≤ by → m ≤ length ks.kinds → (u : Use) (l : ℕ) → StatementsUse u
          (called_by by ks x o).made l → m ≤ l
      call_least by ks x None m a b u l h = absurd h
      call_least by ks x (Some g) m a b u l h =
          ⊎_elim
          (λ own. ⊎_elim (λ k. let low = k.0 in omega (arith, low, b))
          (λ k. ⊎_elim (λ c. let low = lower x.function ks u l c in omega (arith, low, b))
          (λ r. from_least (length ks.kinds) m l (ReturnedUses u g.result) b r) k) own)
          (λ passed. from_least by m l _ a (passed_from fs F by ks x g u l passed))
          (called_uses fs F by ks x g u l h)

      mutual
        least_statement : (by : ℕ) (ks : i.Locals) (x : p.Statement) (m : ℕ) → m ≤ by → m ≤ length ks.kinds → (u : Use) (l : ℕ) → StatementsUse u
            (i.statement fs F by ks x).made l → m ≤ l
        least_statement by ks (p.Assign place target value) m a b u l h =
            ⊎_elim (λ k. ⊎_elim (λ t. from_least by m l (TargetUses u target) a (target_shifted u by target l t))
            (λ v. from_least by m l (Uses u value.expr) a (uses_shifted u by value.expr l v)) k) (λ k. absurd k) h
        least_statement by ks (p.Call place name function arguments result) m a b u l h =
            call_least by ks (record { place = place; name = name; function = function; arguments = arguments; result = result })
            (slice_get fs function) m a b u l h
        least_statement by ks (p.If place arms otherwise) m a b u l h =
            let more = longer ks (i.arms_of fs F by ks arms).locals (grown_arms by ks arms) in
            ⊎_elim (λ k. ⊎_elim (λ x. least_arms by ks arms m a b u l x)
            (λ y. least_statements by (i.arms_of fs F by ks arms).locals otherwise m a (omega (arith, b, more)) u l y) k) (λ k. absurd k) h
        least_statement by ks (p.While place condition body) m a b u l h =
            ⊎_elim (λ k. ⊎_elim (λ x. from_least by m l (Uses u condition.expr) a (uses_shifted u by condition.expr l x))
            (λ y. least_statements by ks body m a b u l y) k) (λ k. absurd k) h
        least_statement by ks (p.Do place body condition) m a b u l h =
            ⊎_elim (λ k. ⊎_elim (λ y. least_statements by ks body m a b u l y)
            (λ x. from_least by m l (Uses u condition.expr) a (uses_shifted u by condition.expr l x)) k) (λ k. absurd k) h
        least_statement by ks (p.Lock place name) m a b u l h =
            ⊎_elim (λ k. from_least by m l (KeyUses u name.key) a (key_shifted u by name.key l k)) (λ k. absurd k) h
        least_statement by ks (p.Unlock place name) m a b u l h =
            ⊎_elim (λ k. from_least by m l (KeyUses u name.key) a (key_shifted u by name.key l k)) (λ k. absurd k) h

        least_statements : (by : ℕ) (ks : i.Locals) (xs : p.Statements) (m : ℕ) → m ≤ by → m ≤ length ks.kinds → (u : Use) (l : ℕ) → StatementsUse u
            (i.statements fs F by ks xs).made l → m ≤ l
        least_statements by ks p.no_statement m a b u l h = absurd h
        least_statements by ks (p.statement_and x rest) m a b u l h =
            let first = i.statement fs F by ks x in
            let more = longer ks first.locals (grown_statement by ks x) in
            ⊎_elim (λ k. least_statement by ks x m a b u l k) (λ k. least_statements by first.locals rest m a (omega (arith, b, more)) u l k)
            (and_uses u first.made (i.statements fs F by first.locals rest).made l h)

        least_arms : (by : ℕ) (ks : i.Locals) (xs : p.Arms) (m : ℕ) → m ≤ by → m ≤ length ks.kinds → (u : Use) (l : ℕ) → ArmsUse u
            (i.arms_of fs F by ks xs).made l → m ≤ l
        least_arms by ks p.no_arm m a b u l h = absurd h
        least_arms by ks (p.arm_and condition body rest) m a b u l h =
            let first = i.statements fs F by ks body in
            let more = longer ks first.locals (grown_statements by ks body) in
            ⊎_elim (λ k. from_least by m l (Uses u condition.expr) a (uses_shifted u by condition.expr l k))
            (λ k. ⊎_elim (λ y. least_statements by ks body m a b u l y) (λ z. least_arms by first.locals rest m a (omega (arith, b, more)) u l z) k) h

-- the body of a function, where what it calls is made so
abbrev body_by : List p.Function → i.Bodies → i.Locals → Option p.Function → i.Made f.Statements
body_by fs F js o =
    elim o [
      | Some x ↦ i.statements fs F (length js.kinds) (i.joined js (i.locals x.locals x.refers)) x.body
      | None ↦ record { made = f.no_statement; locals = js }
    ]

module _ (fs : List p.Function) (F : i.Bodies) (grow : (g : ℕ) (js : i.Locals) → Grown js (F g js).locals) (js : i.Locals) where
  grown_body : (o : Option p.Function) → Grown js (body_by fs F js o).locals
  grown_body None = same_locals js
  grown_body (Some x) =
      grown_on js (i.joined js (i.locals x.locals x.refers)) _ (i.locals x.locals x.refers, refl)
      (grown_statements fs F grow (length js.kinds) (i.joined js (i.locals x.locals x.refers)) x.body)

  least_body : ((g : ℕ) (ks : i.Locals) (u : Use) (l : ℕ) → StatementsUse u (F g ks).made l → length ks.kinds ≤ l) → (o : Option p.Function) (u : Use)
      (l : ℕ) → StatementsUse u (body_by fs F js o).made l → length js.kinds ≤ l
  least_body lower None u l h = absurd h
  least_body lower (Some x) u l h =
      least_statements fs F grow lower (length js.kinds) (i.joined js (i.locals x.locals x.refers)) x.body (length js.kinds) (omega arith)
      (longer js (i.joined js (i.locals x.locals x.refers)) (i.locals x.locals x.refers, refl)) u l h

module _ (fs : List p.Function) where
  pub grown_bodies : (deep g : ℕ) (js : i.Locals) → Grown js (bodies_of fs deep g js).locals
  grown_bodies zero g js = same_locals js
  grown_bodies (suc deep) g js = grown_body fs (bodies_of fs deep) (grown_bodies deep) js (slice_get fs g)

  least_bodies : (deep g : ℕ) (js : i.Locals) (u : Use) (l : ℕ) → StatementsUse u (bodies_of fs deep g js).made l → length js.kinds ≤ l
  least_bodies zero g js u l h = absurd h
  least_bodies (suc deep) g js u l h = least_body fs (bodies_of fs deep) (grown_bodies deep) js (least_bodies deep) (slice_get fs g) u l h

pub locals_grow : (fs : List p.Function) (deep by : ℕ) (ks : i.Locals) (xs : p.Statements) → (more : i.Locals) ×
    ((i.statements fs (bodies_of fs deep) by ks xs).locals ≡ i.joined ks more)
locals_grow fs deep by ks xs = grown_statements fs (bodies_of fs deep) (grown_bodies fs deep) by ks xs

module _ (fs : List p.Function) (deep by : ℕ) (ks : i.Locals) (x : Site) (u : Use) (local : ℕ) where
  not_shared_by : (o : Option p.Function) → StatementsUse u (called_by fs (bodies_of fs deep) by ks x o).made local →
      (length ks.kinds ≤ local) ⊎ IsPassed u by x local
  not_shared_by None h = absurd h
  not_shared_by (Some g) h =
      ⊎_elim
      (λ own. inl (⊎_elim (λ k. k.0) (λ k. ⊎_elim (λ c. least_bodies fs deep x.function ks u local c) (λ r. let is = r.1 in omega (arith, is)) k) own))
      (λ passed. inr passed)
      (called_uses fs (bodies_of fs deep) by ks x g u local h)

  pub not_shared : StatementsUse u (call_made fs deep by ks x).made local → (length ks.kinds ≤ local) ⊎ IsPassed u by x local
  not_shared h = not_shared_by (slice_get fs x.function) h

-- ---- No higher than the locals after a call

-- where calls are known to end, their bodies stay below the locals after them
record IsRoomy (F : i.Bodies) (g : ℕ) (js : i.Locals) (x : p.Function) : Type 0 where
  room : length js.kinds + length x.locals ≤ length (F g js).locals.kinds
  below : (u : Use) (l : ℕ) → StatementsUse u (F g js).made l → l < length (F g js).locals.kinds

from_below : (by count m l : ℕ) (P : ℕ → Type 0) → by + count ≤ m → ((k : ℕ) → P k → k < count) → From by l P → l < m
from_below by count m l P le h x = let is = x.1 in let low = h x.0 x.2 in omega (arith, le, is, low)

uses_below : (count : ℕ) (x : e.Expr) → AreBelow count x → (u : Use) (k : ℕ) → Uses u x k → k < count
uses_below count x h read k y = h k y
uses_below count x h assigned k y = absurd y

key_below : (count : ℕ) (key : Option e.Placed) → IsKeyBelow count key → (u : Use) (k : ℕ) → KeyUses u key k → k < count
key_below count None h u k y = absurd y
key_below count (Some key) h u k y = uses_below count key.expr h u k y

list_below : (count : ℕ) (xs : List e.Placed) → ((l : ℕ) → ListUses read xs l → l < count) → (u : Use) (k : ℕ) → ListUses u xs k → k < count
list_below count [] h u k y = absurd y
list_below count (x ∷ xs) h u k y = ⊎_elim (λ a. uses_below count x.expr (λ l b. h l (inl b)) u k a) (λ b. list_below count xs (λ l c. h l (inr c)) u k b) y

returned_below : (count : ℕ) (x : Option p.Returned) → IsReturnedBelow count x → (u : Use) (k : ℕ) → ReturnedUses u x k → k < count
returned_below count None h u k y = absurd y
returned_below count (Some x) h u k y = uses_below count (e.Converted x.kind x.value.expr) h u k y

module _ (fs : List p.Function) (F : i.Bodies) (scoped : AreFunctionsScoped fs) (grow : (g : ℕ) (js : i.Locals) → Grown js (F g js).locals)
    (Good : ℕ → Type 0) (roomy : (g : ℕ) (js : i.Locals) (x : p.Function) → Good g → slice_get fs g ≡ Some x → IsRoomy F g js x) where
  -- what is the call's own is below the locals after it
  own_below : (by : ℕ) (ks : i.Locals) (x : Site) (g : p.Function) → slice_get fs x.function ≡ Some g → (length x.arguments ≤ length g.locals) →
      Good x.function →
      (u : Use) (l : ℕ) → IsOwn fs F by ks x g u l → l < length (F x.function ks).locals.kinds
  own_below by ks x g is few good u l own =
      let r = roomy x.function ks g good is in
      let room = r.room in
      ⊎_elim (λ k. let high = k.1 in omega (arith, high, few, room))
      (λ k. ⊎_elim (λ c. r.below u l c)
      (λ d. from_below (length ks.kinds) (length g.locals) _ l (ReturnedUses u g.result) room
      (returned_below (length g.locals) g.result (scoped x.function g is).result u) d) k) own

  module _ (count : ℕ) where
    call_below : (by : ℕ) (ks : i.Locals) (x : Site) (o : Option p.Function) → slice_get fs x.function ≡ o → IsScoped fs count
        (p.Call x.place x.name x.function x.arguments x.result) → (x.function < length fs → Good x.function) →
        (m : ℕ) → by + count ≤ m → length (called_by fs F by ks x o).locals.kinds ≤ m → (u : Use) (l : ℕ) →
        StatementsUse u (called_by fs F by ks x o).made l → l < m
    call_below by ks x None is s good m a b u l h = absurd h
    call_below by ks x (Some g) is s good m a b u l h =
        let last : length (F x.function ks).locals.kinds ≤ m = subst (λ (js : i.Locals). length js.kinds ≤ m)
        (used_locals u (made fs F by ks x g).made ks (F x.function ks).locals l h) b in
        ⊎_elim
        (λ own. let low = own_below by ks x g is (s.0 g is) (good (slice_get_within fs x.function g is)) u l own in omega (arith, low, last))
        (λ passed. from_below by count m l _ a
        (λ k y. ⊎_elim (λ c. list_below count x.arguments s.1 u k c) (λ d. s.2 u k d) y)
        (passed_from fs F by ks x g u l passed))
        (called_uses fs F by ks x g u l h)

    abbrev AllGood : List i.Call → Type 0
    AllGood cs = (c : i.Call) → Contains cs c → c.function < length fs → Good c.function

    mutual
      below_statement : (by : ℕ) (ks : i.Locals) (x : p.Statement) → IsScoped fs count x → AllGood (i.statement_calls x) →
          (m : ℕ) → by + count ≤ m → length (i.statement fs F by ks x).locals.kinds ≤ m → (u : Use) (l : ℕ) →
          StatementsUse u (i.statement fs F by ks x).made l → l < m
      below_statement by ks (p.Assign place target value) s good m a b u l h =
          ⊎_elim (λ k. ⊎_elim (λ t. from_below by count m l (TargetUses u target) a (s.0 u) (target_shifted u by target l t))
          (λ v. from_below by count m l (Uses u value.expr) a (uses_below count value.expr s.1 u) (uses_shifted u by value.expr l v)) k) (λ k. absurd k) h
      below_statement by ks (p.Call place name function arguments result) s good m a b u l h =
          call_below by ks (record { place = place; name = name; function = function; arguments = arguments; result = result })
          (slice_get fs function) refl s (good (record { place = name; function = function }) (alone _)) m a b u l h
      below_statement by ks (p.If place arms otherwise) s good m a b u l h =
          let first = i.arms_of fs F by ks arms in
          let more = longer first.locals (i.statements fs F by first.locals otherwise).locals (grown_statements fs F grow by first.locals otherwise) in
          ⊎_elim (λ k. ⊎_elim (λ x. below_arms by ks arms s.0 (λ c y. good c (Contains-append_left _ _ c y)) m a (omega (arith, b, more)) u l x)
          (λ y. below_statements by first.locals otherwise s.1 (λ c z. good c (Contains-append_right (i.arms_calls arms) _ c z)) m a b u l y) k)
          (λ k. absurd k) h
      below_statement by ks (p.While place condition body) s good m a b u l h =
          ⊎_elim (λ k. ⊎_elim (λ x. from_below by count m l (Uses u condition.expr) a (uses_below count condition.expr s.0 u)
          (uses_shifted u by condition.expr l x)) (λ y. below_statements by ks body s.1 good m a b u l y) k) (λ k. absurd k) h
      below_statement by ks (p.Do place body condition) s good m a b u l h =
          ⊎_elim (λ k. ⊎_elim (λ y. below_statements by ks body s.0 good m a b u l y)
          (λ x. from_below by count m l (Uses u condition.expr) a (uses_below count condition.expr s.1 u) (uses_shifted u by condition.expr l x)) k)
          (λ k. absurd k) h
      below_statement by ks (p.Lock place name) s good m a b u l h =
          ⊎_elim (λ k. from_below by count m l (KeyUses u name.key) a (key_below count name.key s u) (key_shifted u by name.key l k)) (λ k. absurd k) h
      below_statement by ks (p.Unlock place name) s good m a b u l h =
          ⊎_elim (λ k. from_below by count m l (KeyUses u name.key) a (key_below count name.key s u) (key_shifted u by name.key l k)) (λ k. absurd k) h

      below_statements : (by : ℕ) (ks : i.Locals) (xs : p.Statements) → AreScoped fs count xs → AllGood (i.statements_calls xs) →
          (m : ℕ) → by + count ≤ m → length (i.statements fs F by ks xs).locals.kinds ≤ m → (u : Use) (l : ℕ) → StatementsUse u
          (i.statements fs F by ks xs).made l → l < m
      below_statements by ks p.no_statement s good m a b u l h = absurd h
      below_statements by ks (p.statement_and x rest) s good m a b u l h =
          let first = i.statement fs F by ks x in
          let more = longer first.locals (i.statements fs F by first.locals rest).locals (grown_statements fs F grow by first.locals rest) in
          ⊎_elim (λ k. below_statement by ks x s.0 (λ c y. good c (Contains-append_left _ _ c y)) m a (omega (arith, b, more)) u l k)
          (λ k. below_statements by first.locals rest s.1 (λ c z. good c (Contains-append_right (i.statement_calls x) _ c z)) m a b u l k)
          (and_uses u first.made (i.statements fs F by first.locals rest).made l h)

      below_arms : (by : ℕ) (ks : i.Locals) (xs : p.Arms) → AreScopedArms fs count xs → AllGood (i.arms_calls xs) →
          (m : ℕ) → by + count ≤ m → length (i.arms_of fs F by ks xs).locals.kinds ≤ m → (u : Use) (l : ℕ) → ArmsUse u (i.arms_of fs F by ks xs).made l → l < m
      below_arms by ks p.no_arm s good m a b u l h = absurd h
      below_arms by ks (p.arm_and condition body rest) s good m a b u l h =
          let first = i.statements fs F by ks body in
          let more = longer first.locals (i.arms_of fs F by first.locals rest).locals (grown_arms fs F grow by first.locals rest) in
          ⊎_elim (λ k. from_below by count m l (Uses u condition.expr) a (uses_below count condition.expr s.0 u) (uses_shifted u by condition.expr l k))
          (λ k. ⊎_elim (λ y. below_statements by ks body s.1 (λ c z. good c (Contains-append_left _ _ c z)) m a (omega (arith, b, more)) u l y)
          (λ z. below_arms by first.locals rest s.2 (λ c y. good c (Contains-append_right (i.statements_calls body) _ c y)) m a b u l z) k) h

module _ (fs : List p.Function) (scoped : AreFunctionsScoped fs) where
  roomy_body : (F : i.Bodies) (js : i.Locals) (x : p.Function) (made : i.Made f.Statements) → made ≡ body_by fs F js (Some x) →
      Grown (i.joined js (i.locals x.locals x.refers))
      (body_by fs F js (Some x)).locals →
      ((u : Use) (l : ℕ) → StatementsUse u (body_by fs F js (Some x)).made l → l < length (body_by fs F js (Some x)).locals.kinds) → (g : ℕ) → IsRoomy
      (λ k ks. made) g js x
  roomy_body F js x made is grown below g =
      subst (λ (m : i.Made f.Statements). IsRoomy (λ k ks. m) g js x) (sym is)
      (record {
        room =
            (let a = longer (i.joined js (i.locals x.locals x.refers)) (body_by fs F js (Some x)).locals grown in let b = length-append js.kinds x.locals in
            omega
            (arith, a, b));
        below = below;
      })

  roomy_bodies : (deep g : ℕ) (js : i.Locals) (x : p.Function) → Low fs deep g → slice_get fs g ≡ Some x → IsRoomy (bodies_of fs deep) g js x
  roomy_bodies zero g js x low is = absurd low
  roomy_bodies (suc deep) g js x low is =
      let F = bodies_of fs deep in
      let grow = grown_bodies fs deep in
      let within = length-append js.kinds x.locals in
      let grown = grown_statements fs F grow (length js.kinds) (i.joined js (i.locals x.locals x.refers)) x.body in
      let long = longer (i.joined js (i.locals x.locals x.refers)) (body_by fs F js (Some x)).locals grown in
      let r = roomy_body F js x (bodies_of fs (suc deep) g js) (ap (body_by fs F js) is) grown
      (λ u l h. below_statements fs F scoped grow (Low fs deep) (roomy_bodies deep) (length x.locals) (length js.kinds)
      (i.joined js (i.locals x.locals x.refers)) x.body (scoped g x is).body
      (λ c k. low c (subst (λ cs. Contains cs c) (sym (calls_of_some fs g x is)) k)) _ (omega (arith, within, long)) (omega arith) u l h) g in
      record { room = r.room; below = r.below }

module _ (program : p.Program) (by : ℕ) (ks : i.Locals) (x : Site) (u : Use) (local : ℕ) (ends : HasNoBack program)
    (scoped : AreFunctionsScoped program.functions) (takes : TakesArguments program.functions x.function (length x.arguments)) where
  abbrev functions : List p.Function
  functions = program.functions

  abbrev bodies : i.Bodies
  bodies = bodies_of functions (length functions)

  new_by : (o : Option p.Function) → slice_get functions x.function ≡ o → StatementsUse u (called_by functions bodies by ks x o).made local → IsNew ks
      (called_by functions bodies by ks x o).locals local ⊎ IsPassed u by x local
  new_by None is h = absurd h
  new_by (Some g) is h =
      let low : Low functions (length functions) x.function = low_all functions ends x.function (slice_get_within functions x.function g is) in
      let same : length (called_by functions bodies by ks x (Some g)).locals.kinds ≡ length (bodies x.function ks).locals.kinds = ap
      (λ (z : i.Locals). length z.kinds) (used_locals u (made functions bodies by ks x g).made ks (bodies x.function ks).locals local h) in
      ⊎_elim
      (λ own. let high = own_below functions bodies scoped (grown_bodies functions (length functions)) (Low functions (length functions))
      (roomy_bodies functions scoped (length functions)) by ks x g is (takes g is) low u local own in
      inl (
        (⊎_elim (λ k. k.0)
            (λ k. ⊎_elim (λ c. least_bodies functions (length functions) x.function ks u local c)
            (λ r. let equal = r.1 in omega (arith, equal)) k) own),
        omega (arith, high, same),
      ))
      (λ passed. inr passed)
      (called_uses functions bodies by ks x g u local h)

  pub new_locals : StatementsUse u (call_made functions (length functions) by ks x).made local → IsNew ks
      (call_made functions (length functions) by ks x).locals local ⊎ IsPassed u by x local
  new_locals h = new_by (slice_get functions x.function) refl h

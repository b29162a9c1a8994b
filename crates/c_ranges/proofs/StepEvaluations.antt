-- What a step evaluates, and what stops a thread, in a state of a well formed flat form.
use Rattle.std.proofs.Common.{◌≡◌, refl, sym, ◌∙◌, subst, ◌⊎◌, inl, inr, ℕ, ◌<◌, List, [], ◌∷◌, ◌++◌, length, Bool, true, false, Option, Some, None, arith}
use Rattle.std.specs.Prelude.{ℤ, slice_get, if◌then◌else◌}
use Rattle.std.specs.List.{AllByRecursion, AllZip}
use Rattle.std.proofs.lemmas.Option.{none-some, slice_get-get_or, slice_get_within}
use Rattle.ido_base.specs.declared.place.Place.{Place}
use Rattle.ido_ints.specs.declared.kinds.Kind.{Kind}
use Rattle.ido_ints.specs.Kinds.{Holds}
use Rattle.c_tree.specs.Exprs as e
use Rattle.c_tree.specs.Programs.{Mutex, Variable}
use Rattle.c_tree.specs.Flats as f
use Rattle.c_tree.specs.Ranges.{elements_of, mutexes_of, expr_indexes, lock_indexes}
use Rattle.c_tree.specs.Temporaries.{key_exprs}
use Rattle.c_tree.specs.Source as m
use Rattle.c_tree.specs.Source.{source_step}
use Rattle.c_tree.specs.WellFormed.{IsExpr, Fits, IsFlatPlaced, IsFlatStatement, IsFlatLockName}
use Rattle.c_tree.specs.Values.{lock_number}
use Rattle.c_tree.proofs.Public.{array_within}
use Rattle.c_ranges.specs.Laws.{IsForeseen, AreFollowed}
use Rattle.c_ranges.specs.RunInvariants.{AreNumbersOf, IsStatementLeft, IsThreadOf, IsStateOf, IsElement}
use Rattle.c_ranges.specs.RunInvariants.{IsNext, IsOver, IsAtHeldLock, step_exprs, step_indexes}
use Rattle.c_ranges.proofs.ValuesInRanges.{foreseen, fits_element}
use Rattle.c_ranges.proofs.HeldNumberLists.{Pair, zip_found, all_append, all_held}
use Rattle.c_ranges.proofs.RunsKeepInvariants.{AreStepFollowed, step_is}
use Rattle.c_ranges.proofs.ReferenceValues.{key_followed}
use Rattle.c_ranges.proofs.ReferencesKept.{references_hold}

-- ---- Keys

-- an expression that is formed where there are no variables is formed where there are some, and has no indexes
pub key_expr : (vs : List Variable) (ks : List Kind) (z : e.Expr) → IsExpr [] ks z → IsExpr vs ks z
key_expr vs ks (e.Constant value) h = tt
key_expr vs ks (e.Local local kind) h = h
key_expr vs ks (e.Variable place variable kind) h = absurd (none-some h.it h.found)
key_expr vs ks (e.Element place variable kind index_place index) h = absurd (none-some h.0.it h.0.found)
key_expr vs ks (e.Address variable index_place index) h = absurd (none-some h.0.it h.0.found)
key_expr vs ks (e.Referent place last local) h = h
key_expr vs ks (e.Unary op operand) h = key_expr vs ks operand h
key_expr vs ks (e.Cast kind operand) h = key_expr vs ks operand h
key_expr vs ks (e.Converted kind operand) h = key_expr vs ks operand h
key_expr vs ks (e.Binary op left right) h = (key_expr vs ks left h.0, key_expr vs ks right h.1)
key_expr vs ks (e.Conditional kind condition chosen otherwise) h =
    (key_expr vs ks condition h.0, key_expr vs ks chosen h.1, key_expr vs ks otherwise h.2)

pub key_fits : (vs : List Variable) (ks : List Kind) (z : e.Expr) → IsExpr [] ks z → Fits vs z
key_fits vs ks (e.Constant value) h = tt
key_fits vs ks (e.Local local kind) h = tt
key_fits vs ks (e.Variable place variable kind) h = tt
key_fits vs ks (e.Element place variable kind index_place index) h = absurd (none-some h.0.it h.0.found)
key_fits vs ks (e.Address variable index_place index) h = absurd (none-some h.0.it h.0.found)
key_fits vs ks (e.Referent place last local) h = tt
key_fits vs ks (e.Unary op operand) h = key_fits vs ks operand h
key_fits vs ks (e.Cast kind operand) h = key_fits vs ks operand h
key_fits vs ks (e.Converted kind operand) h = key_fits vs ks operand h
key_fits vs ks (e.Binary op left right) h = (key_fits vs ks left h.0, key_fits vs ks right h.1)
key_fits vs ks (e.Conditional kind condition chosen otherwise) h =
    (key_fits vs ks condition h.0, key_fits vs ks chosen h.1, key_fits vs ks otherwise h.2)

below_by : (ms : List Mutex) (ks : List Kind) (ls : List ℤ) (mutex : ℕ) (key : Option e.Placed) → AllZip Holds ks ls →
    IsFlatLockName ms ks (record { mutex = mutex; key = key }) → lock_number ls (record { mutex = mutex; key = key }) < length ms
below_by ms ks ls mutex None locals h = slice_get_within ms mutex h.it h.found
below_by ms ks ls mutex (Some key) locals h =
    let named = fits_element (mutexes_of ms mutex) key.expr h.fits ls []
    (all_held [] ks ls [] locals tt key.expr h.reads (key_followed ls key.expr h.follows)) in
    omega (arith, named.below, array_within ms mutex h.array)

-- the lock of a name is there, whatever its key's locals hold
pub lock_below : (ms : List Mutex) (ks : List Kind) (ls : List ℤ) (name : e.LockName) → AllZip Holds ks ls → IsFlatLockName ms ks name →
    lock_number ls name < length ms
lock_below ms ks ls name locals h = below_by ms ks ls name.mutex name.key locals h

-- ---- What is evaluated

module _ (x : f.Flat) (ks : List Kind) (ls : List ℤ) (ns : List (List ℤ)) (locals : AllZip Holds ks ls) (variables : AllZip AreNumbersOf x.variables ns) where
  -- a name without a key evaluates nothing
  key_seen : (mutex : ℕ) (key : Option e.Placed) → IsFlatLockName x.mutexes ks (record { mutex = mutex; key = key }) →
      AllByRecursion (λ (z : e.Placed). IsForeseen ls ns z.expr) (key_exprs (record { mutex = mutex; key = key }))
  key_seen mutex None h = tt
  key_seen mutex (Some key) h =
      let held = all_held x.variables ks ls ns locals variables key.expr (key_expr x.variables ks key.expr h.reads) (key_followed ls key.expr h.follows) in
      (foreseen ls ns key.expr held, tt)

  seen : (z : e.Placed) → IsFlatPlaced x ks z → AreFollowed ls z.expr → IsForeseen ls ns z.expr
  seen z h g = foreseen ls ns z.expr (all_held x.variables ks ls ns locals variables z.expr h.0 g)

  all_seen : (y : f.Statement) → IsFlatStatement x ks y → AreStepFollowed ls y → AllByRecursion (λ (z : e.Placed). IsForeseen ls ns z.expr) (step_exprs y)
  all_seen (f.Assign place (e.ToLocal name local kind) value) h g = (seen value h.1 g.0, tt)
  all_seen (f.Assign place (e.ToVariable at variable kind) value) h g = (seen value h.1 g.0, tt)
  all_seen (f.Assign place (e.ToElement at variable kind index) value) h g = (seen index (h.0.0.1, h.0.1.1) g.0, (seen value h.1 g.1.0, tt))
  all_seen (f.If place f.no_arm otherwise) h g = tt
  all_seen (f.If place (f.arm_and condition body arms) otherwise) h g = (seen condition h.1.0 g.0, tt)
  all_seen (f.While place condition body) h g = (seen condition h.0 g.0, tt)
  all_seen (f.Do place body condition) h g = tt
  all_seen (f.Lock place name) h g = key_seen name.mutex name.key h
  all_seen (f.Unlock place name) h g = key_seen name.mutex name.key h

  elements : (z : e.Expr) → IsExpr x.variables ks z → Fits x.variables z → AreFollowed ls z →
      AllByRecursion (IsElement x.variables x.mutexes ls ns) (expr_indexes z)
  elements (e.Constant value) h g k = tt
  elements (e.Local local kind) h g k = tt
  elements (e.Variable place variable kind) h g k = tt
  elements (e.Element place variable kind index_place index) h g k = (
    fits_element (elements_of x.variables variable) index g.0 ls ns (all_held x.variables ks ls ns locals variables index h.1 k),
    elements index h.1 g.1 k,
  )
  elements (e.Address variable index_place index) h g k = (
    fits_element (elements_of x.variables variable) index g.0 ls ns (all_held x.variables ks ls ns locals variables index h.1 k),
    elements index h.1 g.1 k,
  )
  elements (e.Referent place last local) h g k = tt
  elements (e.Unary op operand) h g k = elements operand h g k
  elements (e.Cast kind operand) h g k = elements operand h g k
  elements (e.Converted kind operand) h g k = elements operand h g k
  elements (e.Binary op left right) h g k = all_append (IsElement x.variables x.mutexes ls ns) (expr_indexes left) (expr_indexes right)
      (elements left h.0 g.0 k.0) (elements right h.1 g.1 k.1)
  elements (e.Conditional kind condition chosen otherwise) h g k =
      all_append (IsElement x.variables x.mutexes ls ns) (expr_indexes condition ++ expr_indexes chosen) (expr_indexes otherwise)
      (all_append (IsElement x.variables x.mutexes ls ns) (expr_indexes condition) (expr_indexes chosen) (elements condition h.0 g.0 k.0)
      (elements chosen h.1 g.1 k.1))
      (elements otherwise h.2 g.2 k.2)

  -- a key is the number of a mutex of its array
  key_indexed : (mutex : ℕ) (key : Option e.Placed) → IsFlatLockName x.mutexes ks (record { mutex = mutex; key = key }) →
      AllByRecursion (IsElement x.variables x.mutexes ls ns) (lock_indexes (record { mutex = mutex; key = key }))
  key_indexed mutex None h = tt
  key_indexed mutex (Some key) h =
      let formed = key_expr x.variables ks key.expr h.reads in
      let follows = key_followed ls key.expr h.follows in (
        fits_element (mutexes_of x.mutexes mutex) key.expr h.fits ls ns (all_held x.variables ks ls ns locals variables key.expr formed follows),
        elements key.expr formed (key_fits x.variables ks key.expr h.reads) follows,
      )

  all_elements : (y : f.Statement) → IsFlatStatement x ks y → AreStepFollowed ls y → AllByRecursion (IsElement x.variables x.mutexes ls ns) (step_indexes y)
  all_elements (f.Assign place (e.ToLocal name local kind) value) h g = elements value.expr h.1.0 h.1.1 g.0
  all_elements (f.Assign place (e.ToVariable at variable kind) value) h g = elements value.expr h.1.0 h.1.1 g.0
  all_elements (f.Assign place (e.ToElement at variable kind index) value) h g = (
    fits_element (elements_of x.variables variable) index.expr h.0.1.0 ls ns
        (all_held x.variables ks ls ns locals variables index.expr h.0.0.1 g.0),
    all_append (IsElement x.variables x.mutexes ls ns) (expr_indexes index.expr) (expr_indexes value.expr) (elements index.expr h.0.0.1 h.0.1.1 g.0)
        (elements value.expr h.1.0 h.1.1 g.1.0),
  )
  all_elements (f.If place f.no_arm otherwise) h g = tt
  all_elements (f.If place (f.arm_and condition body arms) otherwise) h g = elements condition.expr h.1.0.0 h.1.0.1 g.0
  all_elements (f.While place condition body) h g = elements condition.expr h.0.0 h.0.1 g.0
  all_elements (f.Do place body condition) h g = tt
  all_elements (f.Lock place name) h g = key_indexed name.mutex name.key h
  all_elements (f.Unlock place name) h g = key_indexed name.mutex name.key h

module _ (x : f.Flat) (s : m.State) (t : ℕ) (it : m.Thread) (is : IsStateOf x s) where
  abbrev Own : Type 0
  Own = Pair (λ (u : f.Thread) (own : m.Thread). IsThreadOf x u.locals own) x.threads t it

  own_of : slice_get s.threads t ≡ Some it → Own
  own_of found = zip_found (λ (u : f.Thread) (own : m.Thread). IsThreadOf x u.locals own) x.threads s.threads t it is.threads found

  -- the next statement is well formed
  next_of : (y : f.Statement) (rest : List f.Statement) (own : Own) → it.left ≡ y ∷ rest → AllByRecursion (IsStatementLeft x own.it.locals) (y ∷ rest)
  next_of y rest own first = subst (AllByRecursion (IsStatementLeft x own.it.locals)) first own.related.left

  pub values_foreseen : (y : f.Statement) (rest : List f.Statement) → IsNext s t it y rest →
      AllByRecursion (λ (z : e.Placed). IsForeseen it.locals s.variables z.expr) (step_exprs y)
  values_foreseen y rest n =
      let own = own_of n.found in
      let kept = next_of y rest own n.first in
      all_seen x own.it.locals it.locals s.variables own.related.locals is.variables y kept.0.1 (references_hold x s t it y rest is n.found n.first)

  pub indexes_in_range : (y : f.Statement) (rest : List f.Statement) → IsNext s t it y rest →
      AllByRecursion (IsElement x.variables x.mutexes it.locals s.variables) (step_indexes y)
  indexes_in_range y rest n =
      let own = own_of n.found in
      let kept = next_of y rest own n.first in
      all_elements x own.it.locals it.locals s.variables own.related.locals is.variables y kept.0.1 (references_hold x s t it y rest is n.found n.first)

  pub references_right : (y : f.Statement) (rest : List f.Statement) → IsNext s t it y rest →
      AllByRecursion (λ (z : e.Placed). AreFollowed it.locals z.expr) (step_exprs y)
  references_right y rest n = references_hold x s t it y rest is n.found n.first

  -- ---- What stops the thread

  abbrev Stops : Type 0
  Stops = IsOver it ⊎ ((mutex : ℕ) × IsAtHeldLock s t it mutex)

  module _ (found : slice_get s.threads t ≡ Some it) (idle : it.pending ≡ None) where
    at_end : (b : Bool) → it.ended ≡ b → it.left ≡ [] →
        (let o : Option m.State = if b then None else Some (m.with_thread s t (record it { ended = true })) in o ≡ None) → Stops
    at_end true e done h = inl (record { idle = idle; done = done; ended = e })
    at_end false e done h = absurd (none-some _ (sym h))

    at_lock : (place : Place) (name : e.LockName) (rest : List f.Statement) (o : Option (Option ℕ)) → slice_get s.holders (lock_number it.locals name) ≡ o →
        it.left ≡ f.Lock place name ∷ rest → lock_number it.locals name < length x.mutexes → m.statement_step s t it (f.Lock place name) rest ≡ None → Stops
    at_lock place name rest None e first below h =
        let low : lock_number it.locals name < length s.holders = omega (arith, below, is.holders) in
        absurd (none-some _ (sym e ∙ slice_get-get_or s.holders (lock_number it.locals name) None low))
    at_lock place name rest (Some None) e first below h =
        let yes : m.statement_step s t it (f.Lock place name) rest ≡ Some
        (m.with_thread (m.with_holder s (lock_number it.locals name) (Some t)) t (record it { left = rest })) = rw (m.statement_step, e) refl in
        absurd (none-some _ (sym h ∙ yes))
    at_lock place name rest (Some (Some u)) e first below h = inr (
      lock_number it.locals name,
      record {
        place = place;
        name = name;
        rest = rest;
        next = record { found = found; idle = idle; first = first };
        number = refl;
        holder = u;
        held = e;
      },
    )

    at_statement : (own : Own) (y : f.Statement) (rest : List f.Statement) → it.left ≡ y ∷ rest → AllByRecursion (IsStatementLeft x own.it.locals) (y ∷ rest) →
        m.statement_step s t it y rest ≡ None → Stops
    at_statement own (f.Assign place target value) rest first k h = absurd (none-some _ (sym h))
    at_statement own (f.If place f.no_arm otherwise) rest first k h = absurd k.0.1.0
    at_statement own (f.If place (f.arm_and condition body arms) otherwise) rest first k h = absurd (none-some _ (sym h))
    at_statement own (f.While place condition body) rest first k h = absurd (none-some _ (sym h))
    at_statement own (f.Do place body condition) rest first k h = absurd k.0.0
    at_statement own (f.Lock place name) rest first k h =
        at_lock place name rest (slice_get s.holders (lock_number it.locals name)) refl first
        (lock_below x.mutexes own.it.locals it.locals name own.related.locals k.0.1) h
    at_statement own (f.Unlock place name) rest first k h = absurd (none-some _ (sym h))

    at_left : (own : Own) (left : List f.Statement) → it.left ≡ left → m.left_step s t it left ≡ None → Stops
    at_left own [] first h = at_end it.ended refl first h
    at_left own (y ∷ rest) first h = at_statement own y rest first (next_of y rest own first) h

  abbrev pending_by : Option m.Pending → Option m.State
  pending_by o = elim o [
    | Some q ↦ Some (m.with_thread (m.stored s q) t (record it { pending = None }))
    | None ↦ m.left_step s t it it.left
  ]

  at_pending : slice_get s.threads t ≡ Some it → (o : Option m.Pending) → it.pending ≡ o → pending_by o ≡ None → Stops
  at_pending found None e h = at_left found e (own_of found) it.left refl h
  at_pending found (Some q) e h = absurd (none-some _ (sym h))

  pub stops : slice_get s.threads t ≡ Some it → source_step s t ≡ None → Stops
  stops found h = at_pending found it.pending refl (sym (step_is s t (Some it) found) ∙ h)

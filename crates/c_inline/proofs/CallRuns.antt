-- What a thread that does statements before a rest does with its locals.
use Rattle.std.proofs.Common.{◌≡◌, ◌⊎◌, ℕ, zero, suc, ◌<◌, List, [], ◌∷◌, ◌++◌, length, map, Bool, true, false, Option, Some}
use Rattle.std.proofs.Common.{None, ℤ, pos, refl, sym, ap, ◌∙◌, subst, arith, inl, inr, ⊎_elim, append_assoc, slice_set}
use Rattle.std.specs.Prelude.{slice_get, slice_index_or, if◌then◌else◌}
use Rattle.std.specs.Option.{option_map}
use Rattle.std.proofs.lemmas.Bool.{cases_eq}
use Rattle.std.proofs.lemmas.Option.{slice_get_within}
use Rattle.ido_base.specs.declared.place.Place.{Place}
use Rattle.c_tree.specs.Exprs as e
use Rattle.c_tree.specs.Flats as f
use Rattle.c_tree.specs.Programs as p
use Rattle.c_tree.specs.Inlining as i
use Rattle.c_tree.specs.Source as m
use Rattle.c_tree.specs.Values.{lock_number}
use Rattle.c_tree.specs.Source.{source_step}
use Rattle.c_inline.specs.CallLaws.{Use, assigned, ListUses, ResultUses, StatementUses, StatementsUse}
use Rattle.c_inline.specs.CallLaws.{LeftUses, Site, call_made, left_of, local_of, IsBefore, IsKept}
use Rattle.c_inline.proofs.WeightUpdates.{get_set_same, get_set_other}
use Rattle.c_inline.proofs.CallLocals.{not_shared}

-- ---- Lists

pub index_other : (xs : List ℤ) (i k : ℕ) (y d : ℤ) → (k ≡ i → ⊥) → slice_index_or (slice_set xs i y) k d ≡ slice_index_or xs k d
index_other [] i k y d n = refl
index_other (x ∷ xs) zero zero y d n = absurd (n refl)
index_other (x ∷ xs) zero (suc k) y d n = refl
index_other (x ∷ xs) (suc i) zero y d n = refl
index_other (x ∷ xs) (suc i) (suc k) y d n = index_other xs i k y d (λ h. n (ap suc h))

some_is : {X : Type 0} (a b : X) → Some a ≡ Some b → a ≡ b
some_is a b h = cc

-- ---- What is left uses no more than the statements that it comes from

left_append : (u : Use) (xs ys : List f.Statement) (l : ℕ) → LeftUses u (xs ++ ys) l → LeftUses u xs l ⊎ LeftUses u ys l
left_append u [] ys l h = inr h
left_append u (x ∷ xs) ys l h = ⊎_elim (λ a. inl (inl a)) (λ b. ⊎_elim (λ c. inl (inr c)) inr (left_append u xs ys l b)) h

mutual
  opened_uses : (u : Use) (x : f.Statement) (l : ℕ) → LeftUses u (m.opened x) l → StatementUses u x l
  opened_uses u (f.Do place body condition) l h =
      ⊎_elim (λ a. inl (opened_all_uses u body l a))
      (λ b. ⊎_elim (λ w. ⊎_elim (λ c. inr c) (λ d. inl d) w) (λ n. absurd n) b)
      (left_append u (m.opened_all body) (f.While place condition body ∷ []) l h)
  opened_uses u (f.Assign place target value) l h = ⊎_elim (λ a. a) (λ n. absurd n) h
  opened_uses u (f.If place arms otherwise) l h = ⊎_elim (λ a. a) (λ n. absurd n) h
  opened_uses u (f.While place condition body) l h = ⊎_elim (λ a. a) (λ n. absurd n) h
  opened_uses u (f.Lock place name) l h = ⊎_elim (λ a. a) (λ n. absurd n) h
  opened_uses u (f.Unlock place name) l h = ⊎_elim (λ a. a) (λ n. absurd n) h

  pub opened_all_uses : (u : Use) (xs : f.Statements) (l : ℕ) → LeftUses u (m.opened_all xs) l → StatementsUse u xs l
  opened_all_uses u f.no_statement l h = absurd h
  opened_all_uses u (f.statement_and x rest) l h =
      ⊎_elim (λ a. inl (opened_uses u x l a)) (λ b. inr (opened_all_uses u rest l b)) (left_append u (m.opened x) (m.opened_all rest) l h)

-- ---- A step of the thread

-- where the thread has statements and then the rest left, it still does, and what they don't assign is kept
abbrev Keeps : (before after : m.Thread) → Type 0
Keeps x y = (local : ℕ) (first rest : List f.Statement) → x.left ≡ first ++ rest → (x.left ≡ rest → ⊥) → (LeftUses assigned first local → ⊥) →
    (more : List f.Statement) × (y.left ≡ more ++ rest) × (LeftUses assigned more local → ⊥) ×
    (slice_index_or y.locals local (pos 0) ≡ slice_index_or x.locals local (pos 0))

first_is : (x : f.Statement) (following : List f.Statement) (first rest : List f.Statement) → x ∷ following ≡ first ++ rest → (x ∷ following ≡ rest → ⊥) →
    (more : List f.Statement) × (first ≡ x ∷ more) × (following ≡ more ++ rest)
first_is x following [] rest h n = absurd (n h)
first_is x following (y ∷ more) rest h n = let same : x ≡ y = cc in let same_following : following ≡ more ++ rest = cc in
    (more, ap (λ z. z ∷ more) (sym same), same_following)

keeps_by : (before after : m.Thread) (x : f.Statement) (following news : List f.Statement) → before.left ≡ x ∷ following → after.left ≡ news ++ following →
    ((l : ℕ) → LeftUses assigned news l → StatementUses assigned x l) →
    ((l : ℕ) → (StatementUses assigned x l → ⊥) → slice_index_or after.locals l (pos 0) ≡ slice_index_or before.locals l (pos 0)) → Keeps before after
keeps_by before after x following news is goes uses same local first rest h n unused =
    let prefix = first_is x following first rest (sym is ∙ h) (λ z. n (is ∙ z)) in
    let more = prefix.0 in
    let unused_prefix : LeftUses assigned (x ∷ more) local → ⊥ = subst (λ (ys : List f.Statement). LeftUses assigned ys local → ⊥) prefix.1 unused in (
      news ++ more,
      goes ∙ ap (λ ys. news ++ ys) prefix.2 ∙ sym (append_assoc news more rest),
      (λ y. ⊎_elim (λ a. unused_prefix (inl (uses local a))) (λ b. unused_prefix (inr b)) (left_append assigned news more local y)),
      same local (λ y. unused_prefix (inl y)),
    )

-- the thread of that number steps, and keeps
record Goes (s next : m.State) (t : ℕ) : Type 0 where
  before : m.Thread
  after : m.Thread
  found : slice_get s.threads t ≡ Some before
  is : next.threads ≡ slice_set s.threads t after
  keeps : Keeps before after

module _ (s next : m.State) (t : ℕ) (thread : m.Thread) (found : slice_get s.threads t ≡ Some thread) where
  by_some : (middle : m.State) (x : m.Thread) → middle.threads ≡ s.threads → Keeps thread x → Some (m.with_thread middle t x) ≡ Some next → Goes s next t
  by_some middle x same keeps h =
      record {
        before = thread;
        after = x;
        found = found;
        is = sym (ap (λ (z : m.State). z.threads) (some_is (m.with_thread middle t x) next h)) ∙ ap (λ ts. slice_set ts t x) same;
        keeps = keeps;
      }

  evaluated_keeps : (place : Place) (target : e.Lvalue) (x : e.Placed) (l : ℕ) → (StatementUses assigned (f.Assign place target x) l → ⊥) →
      slice_index_or (m.evaluated s thread target x.expr).locals l (pos 0) ≡ slice_index_or thread.locals l (pos 0)
  evaluated_keeps place (e.ToLocal name local kind) x l n = index_other thread.locals local l _ (pos 0) (λ h. n (inl h))
  evaluated_keeps place (e.ToVariable place' variable kind) x l n = refl
  evaluated_keeps place (e.ToElement place' variable kind index) x l n = refl

  tested_uses : (place : Place) (condition : e.Placed) (body : f.Statements) (arms : f.Arms) (otherwise : f.Statements) (holds : Bool) (l : ℕ) →
      LeftUses assigned (m.tested holds (m.opened_all body) (f.If place arms otherwise ∷ []) (m.opened_all otherwise) arms) l → StatementUses assigned
      (f.If place (f.arm_and condition body arms) otherwise) l
  tested_uses place condition body arms otherwise true l h = inl (inr (inl (opened_all_uses assigned body l h)))
  tested_uses place condition body f.no_arm otherwise false l h = inr (opened_all_uses assigned otherwise l h)
  tested_uses place condition body (f.arm_and c b more) otherwise false l h =
      ⊎_elim (λ a. ⊎_elim (λ x. inl (inr (inr x))) (λ y. inr y) a) (λ n. absurd n) h

  abbrev while_left : Place → e.Placed → f.Statements → List f.Statement → Bool → List f.Statement
  while_left place condition body following holds = if holds then m.opened_all body ++ (f.While place condition body ∷ following) else following

  while_keeps : (place : Place) (condition : e.Placed) (body : f.Statements) (following : List f.Statement) →
      thread.left ≡ f.While place condition body ∷ following → (holds : Bool) →
      Keeps thread (record thread { left = while_left place condition body following holds })
  while_keeps place condition body following is true =
      keeps_by thread (record thread { left = while_left place condition body following true }) (f.While place condition body) following
      (m.opened_all body ++ (f.While place condition body ∷ [])) is
      (sym (append_assoc (m.opened_all body) (f.While place condition body ∷ []) following))
      (λ l h. ⊎_elim (λ a. inr (opened_all_uses assigned body l a)) (λ b. ⊎_elim (λ c. c) (λ n. absurd n) b)
      (left_append assigned (m.opened_all body) (f.While place condition body ∷ []) l h))
      (λ l n. refl)
  while_keeps place condition body following is false = keeps_by thread (record thread { left = following }) (f.While place condition body) following [] is refl
      (λ l h. absurd h) (λ l n. refl)

  abbrev lock_by : (mutex : ℕ) (rest : List f.Statement) → Option (Option ℕ) → Option m.State
  lock_by mutex rest None = None
  lock_by mutex rest (Some None) = Some (m.with_thread (m.with_holder s mutex (Some t)) t (record thread { left = rest }))
  lock_by mutex rest (Some (Some u)) = None

  lock_is : (place : Place) (name : e.LockName) (rest : List f.Statement) (o : Option (Option ℕ)) → slice_get s.holders (lock_number thread.locals name) ≡ o →
      m.statement_step s t thread
      (f.Lock place name) rest ≡ lock_by (lock_number thread.locals name) rest o
  lock_is place name rest None h = rw (m.statement_step, h) refl
  lock_is place name rest (Some None) h = rw (m.statement_step, h) refl
  lock_is place name rest (Some (Some u)) h = rw (m.statement_step, h) refl

  by_lock : (place : Place) (name : e.LockName) (rest : List f.Statement) → thread.left ≡ f.Lock place name ∷ rest → (o : Option (Option ℕ)) →
      lock_by (lock_number thread.locals name) rest o ≡ Some next → Goes s next t
  by_lock place name rest is None h = cc
  by_lock place name rest is (Some None) h =
      by_some (m.with_holder s (lock_number thread.locals name) (Some t)) (record thread { left = rest }) refl
      (keeps_by thread (record thread { left = rest }) (f.Lock place name) rest [] is refl (λ l k. absurd k) (λ l n. refl)) h
  by_lock place name rest is (Some (Some u)) h = cc

  by_statement : (x : f.Statement) (rest : List f.Statement) → thread.left ≡ x ∷ rest → m.statement_step s t thread x rest ≡ Some next → Goes s next t
  by_statement (f.Assign place target x) rest is h =
      let after : m.Thread = record (m.evaluated s thread target x.expr) { left = rest } in
      by_some s after refl (keeps_by thread after (f.Assign place target x) rest [] is refl (λ l k. absurd k) (evaluated_keeps place target x)) h
  by_statement (f.If place f.no_arm otherwise) rest is h = cc
  by_statement (f.If place (f.arm_and condition body arms) otherwise) rest is h =
      let news = m.tested (m.is_true s thread condition) (m.opened_all body) (f.If place arms otherwise ∷ []) (m.opened_all otherwise) arms in
      let after : m.Thread = record thread { left = news ++ rest } in
      by_some s after refl (keeps_by thread after (f.If place (f.arm_and condition body arms) otherwise) rest news is refl
      (tested_uses place condition body arms otherwise (m.is_true s thread condition)) (λ l n. refl)) h
  by_statement (f.While place condition body) rest is h = by_some s
      (record thread { left = while_left place condition body rest (m.is_true s thread condition) }) refl
      (while_keeps place condition body rest is (m.is_true s thread condition)) h
  by_statement (f.Do place body condition) rest is h = cc
  by_statement (f.Lock place name) rest is h = by_lock place name rest is (slice_get s.holders (lock_number thread.locals name))
      (sym (lock_is place name rest (slice_get s.holders (lock_number thread.locals name)) refl) ∙ h)
  by_statement (f.Unlock place name) rest is h =
      by_some (m.with_holder s (lock_number thread.locals name) None) (record thread { left = rest }) refl
      (keeps_by thread (record thread { left = rest }) (f.Unlock place name) rest [] is refl (λ l k. absurd k) (λ l n. refl)) h

  same_keeps : (x : m.Thread) → x.left ≡ thread.left → x.locals ≡ thread.locals → Keeps thread x
  same_keeps x left locals local first rest h n unused = (first, left ∙ h, unused, ap (λ ls. slice_index_or ls local (pos 0)) locals)

  by_end : (ended : Bool) →
      (let o : Option m.State = if ended then None else Some (m.with_thread s t (record thread { ended = true })) in o ≡ Some next) → Goes s next t
  by_end true h = cc
  by_end false h = by_some s (record thread { ended = true }) refl (same_keeps (record thread { ended = true }) refl refl) h

  by_left : (left : List f.Statement) → thread.left ≡ left → m.left_step s t thread left ≡ Some next → Goes s next t
  by_left [] is h = by_end thread.ended h
  by_left (x ∷ rest) is h = by_statement x rest is h

  abbrev pending_by : Option m.Pending → Option m.State
  pending_by o = elim o [
    | Some p ↦ Some (m.with_thread (m.stored s p) t (record thread { pending = None }))
    | None ↦ m.left_step s t thread thread.left
  ]

  by_pending : (o : Option m.Pending) → pending_by o ≡ Some next → Goes s next t
  by_pending None h = by_left thread.left refl h
  by_pending (Some p) h = by_some (m.stored s p) (record thread { pending = None }) refl (same_keeps (record thread { pending = None }) refl refl) h

  by_thread : m.thread_step s t thread ≡ Some next → Goes s next t
  by_thread h = by_pending thread.pending h

abbrev pub step_by : m.State → ℕ → Option m.Thread → Option m.State
step_by s t o = elim o [
  | Some thread ↦ m.thread_step s t thread
  | None ↦ None
]

pub step_is : (s : m.State) (t : ℕ) (o : Option m.Thread) → slice_get s.threads t ≡ o → source_step s t ≡ step_by s t o
unfolding source_step
step_is s t o h = ap (step_by s t) h

goes_by : (s next : m.State) (t : ℕ) (o : Option m.Thread) → slice_get s.threads t ≡ o → step_by s t o ≡ Some next → Goes s next t
goes_by s next t None found h = cc
goes_by s next t (Some thread) found h = by_thread s next t thread found h

goes : (s next : m.State) (t : ℕ) → source_step s t ≡ Some next → Goes s next t
goes s next t h = goes_by s next t (slice_get s.threads t) refl (sym (step_is s t (slice_get s.threads t) refl) ∙ h)

-- ---- A step of the state

abbrev left_by : Option m.Thread → List f.Statement
left_by o = elim o [ Some x ↦ x.left | None ↦ [] ]

abbrev pub local_by : (local : ℕ) → Option m.Thread → ℤ
local_by local o = elim o [ Some x ↦ slice_index_or x.locals local (pos 0) | None ↦ pos 0 ]

-- the thread has statements left before the rest, and they don't assign the local
record HasRestAhead (s : m.State) (thread local : ℕ) (rest : List f.Statement) : Type 0 where
  first : List f.Statement
  left : left_of s thread ≡ first ++ rest
  unused : LeftUses assigned first local → ⊥

-- what has been done so far, from the one state to the other
record Kept (s next : m.State) (thread local : ℕ) (rest : List f.Statement) : Type 0 where
  ahead : HasRestAhead next thread local rest
  kept : local_of next thread local ≡ local_of s thread local

module _ (s next : m.State) (u t local : ℕ) (rest : List f.Statement) (a : HasRestAhead s t local rest) (n : left_of s t ≡ rest → ⊥) where
  kept_own : Goes s next u → t ≡ u → Kept s next t local rest
  kept_own g same =
      let before : slice_get s.threads t ≡ Some g.before = ap (slice_get s.threads) same ∙ g.found in
      let after : slice_get next.threads t ≡ Some g.after = ap (slice_get next.threads) same ∙ ap (λ ts. slice_get ts u) g.is
      ∙ get_set_same s.threads u g.after (slice_get_within s.threads u g.before g.found) in
      let left : g.before.left ≡ left_of s t = sym (ap left_by before) in
      let k = g.keeps local a.first rest (left ∙ a.left) (λ z. n (sym left ∙ z)) a.unused in
      record {
        ahead = record { first = k.0; left = ap left_by after ∙ k.1; unused = k.2 };
        kept = ap (local_by local) after ∙ (k.3 ∙ sym (ap (local_by local) before));
      }

  kept_other : Goes s next u → (t ≡ u → ⊥) → Kept s next t local rest
  kept_other g other =
      let same : slice_get next.threads t ≡ slice_get s.threads t = ap (λ ts. slice_get ts t) g.is ∙ get_set_other s.threads u t g.after other in
      record { ahead = record { first = a.first; left = ap left_by same ∙ a.left; unused = a.unused }; kept = ap (local_by local) same }

  kept_step : source_step s u ≡ Some next → Kept s next t local rest
  kept_step made = let g = goes s next u made in ⊎_elim (kept_own g) (kept_other g) (cases_eq t u)

-- ---- Runs

abbrev pub after_by : List ℕ → m.State → Option m.State → m.State
after_by ts s o = elim o [
  | None ↦ s
  | Some next ↦ m.after_from next ts
]

module _ (t local : ℕ) (rest : List f.Statement) where
  abbrev RunKeeps : m.State → List ℕ → Type 0
  RunKeeps s ts = HasRestAhead s t local rest → IsBefore s ts t rest → IsKept s (m.after_from s ts) t local rest

  kept_by : (s : m.State) (u : ℕ) (ts : List ℕ) (o : Option m.State) → source_step s u ≡ o → ((next : m.State) → RunKeeps next ts) →
      HasRestAhead s t local rest → IsBefore s (u ∷ ts) t rest → IsKept s (after_by ts s o) t local rest
  kept_by s u ts None made more a before = record { first = a.first; left = a.left; kept = refl }
  kept_by s u ts (Some next) made more a before =
      let k = kept_step s next u t local rest a (before [] ts u refl) made in
      let r = more next k.ahead
      (λ earlier later v is. subst (λ (o : Option m.State). left_of (after_by earlier s o) t ≡ rest → ⊥) made
      (before (u ∷ earlier) later v (ap (λ us. u ∷ us) is))) in
      record { first = r.first; left = r.left; kept = r.kept ∙ k.kept }

  run_keeps : (s : m.State) (ts : List ℕ) → RunKeeps s ts
  run_keeps s [] a before = record { first = a.first; left = a.left; kept = refl }
  run_keeps s (u ∷ ts) a before = kept_by s u ts (source_step s u) refl (λ next. run_keeps next ts) a before

pub unassigned_kept : (s : m.State) (schedule : List ℕ) (thread local : ℕ) (first rest : List f.Statement) → left_of s thread ≡ first ++ rest →
    IsBefore s schedule thread rest → ¬ (LeftUses assigned first local) → IsKept s (m.after_from s schedule) thread local rest
unassigned_kept s schedule thread local first rest h before unused =
    run_keeps thread local rest s schedule (record { first = first; left = h; unused = unused }) before

none_assigned : (xs : List e.Placed) (l : ℕ) → ListUses assigned xs l → ⊥
none_assigned [] l h = h
none_assigned (x ∷ xs) l h = ⊎_elim (λ a. a) (λ b. none_assigned xs l b) h

pub callers_kept : (fs : List p.Function) (deep by : ℕ) (ks : i.Locals) (x : Site) (s : m.State) (schedule : List ℕ) (thread local : ℕ)
    (rest : List f.Statement) →
    left_of s thread ≡ m.opened_all (call_made fs deep by ks x).made ++ rest → IsBefore s schedule thread rest →
    local < length ks.kinds → ¬ (ResultUses assigned (option_map (i.shifted_target by) x.result) local) → IsKept s (m.after_from s schedule) thread local rest
callers_kept fs deep by ks x s schedule thread local rest h before below apart =
    unassigned_kept s schedule thread local (m.opened_all (call_made fs deep by ks x).made) rest h before
    (λ uses. ⊎_elim (λ above. omega (arith, above, below)) (λ passed. ⊎_elim (λ a. none_assigned (map (i.shifted_placed by) x.arguments) local a) apart passed)
    (not_shared fs deep by ks x assigned local (opened_all_uses assigned (call_made fs deep by ks x).made local uses)))

-- A plan's thread is placed.
use Rattle.std.proofs.Common.{◌≡◌, inl, inr, ℕ, zero, suc, ◌<◌, ◌≤◌, List, [], ◌∷◌, map, refl, arith, sym, subst, true, Some, ap, ◌∙◌}
use Rattle.std.specs.Prelude.{slice_get, slice_index, Contains, nat_lt}
use Rattle.std.specs.List.{list_all}
use Rattle.std.proofs.lemmas.Bool.{and_parts, ltb-true}
use Rattle.memory_layout.specs.declared.roles.TheConstants.{LOCALS}
use Rattle.ido_base.specs.declared.place.Place.{Place}
use Rattle.ido_ints.specs.declared.kinds.Kind.{Kind}
use Rattle.c_tree.specs.Exprs as e
use Rattle.c_tree.specs.Exprs.{LockName, ToLocal}
use Rattle.log_schemes.specs.declared.locals.Locals.{Locals}
use Rattle.log_schemes.specs.declared.locals.Locals.TheVariants.{Registers, Frame}
use Rattle.log_schemes.specs.declared.log.Log.{Log}
use Rattle.log_schemes.specs.Layout.{frame_at}
use Rattle.log_schemes.specs.Schemes.{locals_of}
use Rattle.log_schemes.proofs.Public.{contains_first, contains_later}
use Rattle.hart_runs.proofs.Public.{same_there}
use Rattle.flow_graph.specs.Nodes.{Action, Eval, Graph, Node, Unlock, successors}
use Rattle.flow_graph.specs.IdempotentCuts.{IsChosen, IsUnlock, unlocks}
use Rattle.flow_graph.specs.Liveness.{NodeAt}
use Rattle.flow_graph.specs.Lowering.{lowered}
use Rattle.thread_code.specs.Plans.{Plan, Thread, IsThread, IsNodeOf, IsKept, IsKeptBefore, IsLogged, of_local, of_address, of_value, of_entry, of_number}
use Rattle.thread_code.specs.Plans.{of_word, IsPlan, home_at}
use Rattle.thread_runs.specs.CodeFragments.{IsOwnWord}
use Rattle.thread_runs.specs.Laws.{PlansArePlaced}
use Rattle.flow_graph.proofs.Public.{contained, closed_from}
use Rattle.expr_code.specs.declared.home.Home.{Home}
use Rattle.expr_code.specs.declared.home.Home.TheVariants.{InRegister, InFrame}
use Rattle.expr_code.specs.EvaluationCode.{home_of}
use Rattle.expr_code.proofs.Public.{same_register}

-- ---- Registers

small_at : (xs : List ℕ) (i : ℕ) → list_all (λ r. nat_lt r 32) xs ≡ true → slice_index xs i < 32
small_at [] i h = omega arith
small_at (x ∷ xs) zero h = ltb-true _ _ (and_parts (nat_lt x 32) _ h).0
small_at (x ∷ xs) (suc i) h = small_at xs i (and_parts (nat_lt x 32) _ h).1

locals_small : list_all (λ r. nat_lt r 32) LOCALS ≡ true
locals_small = refl

-- no register is a word of the frame
register_word : (register address : ℕ) → InRegister register ≡ InFrame address → ⊥
register_word register address e = cc

same_word : (one other : ℕ) → InFrame one ≡ InFrame other → one ≡ other
same_word one other e = cc

coloured_small : (k : Locals) (log : Log) (thread : ℕ) (colours : List ℕ) (i register : ℕ) →
    home_of (map (home_at k log thread) colours) i ≡ InRegister register → register < 32
coloured_small k log thread [] i register at = let none : 0 ≡ register = same_register 0 register at in omega arith
coloured_small Registers log thread (colour ∷ colours) zero register at =
    subst (λ (r : ℕ). r < 32) (same_register (slice_index LOCALS colour) register at) (small_at LOCALS colour locals_small)
coloured_small Frame log thread (colour ∷ colours) zero register at = absurd (register_word register (frame_at log thread colour) (sym at))
coloured_small k log thread (colour ∷ colours) (suc i) register at = coloured_small k log thread colours i register at

kept_small : (p : Plan) (t : Thread) → IsThread p t → (node register : ℕ) → IsKept p t node register → register < 32
kept_small p t is node register (of_local local k own found live at) =
    coloured_small (locals_of p.log) p.log t.number is.colours local own (sym (ap (λ (hs : List Home). home_of hs local) is.locals) ∙ at)
kept_small p t is node register (of_address at_store) = omega arith
kept_small p t is node register (of_value at_store) = omega arith

kept_before_small : (p : Plan) (t : Thread) → IsThread p t → (node register : ℕ) → IsKeptBefore p t node register → register < 32
kept_before_small p t is node register (of_entry own kept) = kept_small p t is node own kept
kept_before_small p t is node register (of_word logged) = omega arith
kept_before_small p t is node register (of_number logged) = omega arith

-- ---- Words of the frame

-- a home in the frame is the word of one of the colours
record IsWordOf (k : Locals) (log : Log) (thread : ℕ) (colours : List ℕ) (address : ℕ) : Type 0 where
  framed : k ≡ Frame
  colour : ℕ
  own : Contains colours colour
  is : address ≡ frame_at log thread colour

coloured_word : (k : Locals) (log : Log) (thread : ℕ) (colours : List ℕ) (i address : ℕ) → home_of (map (home_at k log thread) colours) i ≡ InFrame address →
    IsWordOf k log thread colours address
coloured_word k log thread [] i address at = absurd (register_word 0 address at)
coloured_word Registers log thread (colour ∷ colours) zero address at = absurd (register_word (slice_index LOCALS colour) address at)
coloured_word Frame log thread (colour ∷ colours) zero address at =
    record { framed = refl; colour = colour; own = contains_first colour colours; is = sym (same_word (frame_at log thread colour) address at) }
coloured_word k log thread (colour ∷ colours) (suc i) address at =
    let more = coloured_word k log thread colours i address at in
    record { framed = more.framed; colour = more.colour; own = contains_later colour colours more.colour more.own; is = more.is }

words : (p : Plan) (t : Thread) → IsPlan p → IsThread p t → (local address : ℕ) → home_of t.locals local ≡ InFrame address → IsOwnWord p.log t.number address
words p t plan is local address at =
    let there = coloured_word (locals_of p.log) p.log t.number is.colours local address (sym (ap (λ (hs : List Home). home_of hs local) is.locals) ∙ at) in
    record {
      framed = there.framed;
      word = there.colour;
      exists = plan.registers.exist t.number there.colour is.colours is.of_colours there.own;
      is = there.is;
    }

-- ---- Boundaries before logged assignments

not_both : (action : Action) (lock : LockName) (after : ℕ) (place : Place) (local : ℕ) (kind : Kind) (assigned : e.Placed) (next : ℕ) →
    action ≡ Unlock lock after → action ≡ Eval (ToLocal place local kind) assigned next → ⊥
not_both action lock after place local kind assigned next gives_back sets = cc

no_unlock : (p : Plan) (t : Thread) (node : ℕ) → IsLogged p t node → IsUnlock p.graph node → ⊥
no_unlock p t node logged (unlocks x lock next at is) =
    let own = logged.assigns in
    let same : x ≡ own.is = same_there (slice_get p.graph.nodes node) x own.is at own.at in
    not_both x.action lock next own.place logged.local own.kind own.assigned own.next is (ap (λ (n : Node). n.action) same ∙ own.action)

recorded : (p : Plan) (t : Thread) → IsPlan p → IsThread p t → (node : ℕ) → IsNodeOf t node → IsLogged p t node → IsChosen p.graph p.boundaries node
recorded p t plan is node own logged =
    record { stands = plan.at_writes.assignments node (record { thread = t; of = is; own = own; logged = logged }); free = no_unlock p t node logged }

-- ---- Nodes

closed : (p : Plan) (t : Thread) → IsPlan p → IsThread p t → (node next : ℕ) (is : Node) → IsNodeOf t node → NodeAt p.graph node is →
    Contains (successors is.action) next → IsNodeOf t next
unfolding lowered
closed p t plan thread node next is own found goes =
    let nodes : slice_get (lowered p.flat).nodes node ≡ Some is = subst (λ (g : Graph). slice_get g.nodes node ≡ Some is) plan.lowered found in
    let part : slice_get (lowered p.flat).threads t.number ≡ Some t.part =
    subst (λ (g : Graph). slice_get g.threads t.number ≡ Some t.part) plan.lowered thread.nodes in
    let from : t.part.first ≤ node = own.from_first in
    let below : node < t.part.end = own.below_end in
    let all = closed_from p.flat p.flat.threads 0 t.number t.part part node is nodes (omega (arith, from)) (omega (arith, below)) in
    let there = contained t.part.first t.part.end (successors is.action) next all goes in
    record { from_first = there.0; below_end = there.1 }

pub plans_are_placed : PlansArePlaced
plans_are_placed p t c log threads plan thread live kept logs number room = record {
  log = logs;
  number = number;
  room = room;
  closed = closed p t plan thread;
  locks = λ locals node own. plan.room t locals node;
  words = λ local address at. subst (λ (l : Log). IsOwnWord l t.number address) logs (words p t plan thread local address at);
  recorded = recorded p t plan thread;
  slots = λ node register own has. elim has [
    | inl at_entry ↦ kept_small p t thread node register ((live node own register).0 at_entry)
    | inr at_core ↦ kept_before_small p t thread node register ((kept node own register).0 at_core)
  ];
}

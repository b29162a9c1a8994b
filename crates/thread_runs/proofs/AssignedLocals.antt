-- Where a thread may assign a local, whatever number that has before.
use Rattle.std.proofs.Common.{◌≡◌, ◌≢◌, ℕ, zero, suc, List, [], ◌∷◌, length, refl, ap, sym, subst, ◌∙◌}
use Rattle.std.specs.Prelude.{ℤ, pos, slice_index_or, slice_set}
use Rattle.ido_ints.specs.TypedNumbers.{typed}
use Rattle.flow_graph.specs.Actions.{Seen}
use Rattle.expr_code.specs.EvaluationCode.{IsFramed}
use Rattle.thread_code.specs.Plans.{Plan, Thread}
use Rattle.thread_code.specs.RegistersAtNodes.{LogView, MayAssign, frame_loads}

-- other locals keep their numbers
pub other_local : (ls : List ℤ) (local : ℕ) (number : ℤ) (other : ℕ) → other ≢ local →
    slice_index_or (slice_set ls local number) other (pos 0) ≡ slice_index_or ls other (pos 0)
other_local [] local number other differs = refl
other_local (x ∷ ls) zero number zero differs = absurd (differs refl)
other_local (x ∷ ls) zero number (suc other) differs = refl
other_local (x ∷ ls) (suc local) number zero differs = refl
other_local (x ∷ ls) (suc local) number (suc other) differs = other_local ls local number other (λ same. differs (ap (λ (n : ℕ). suc n) same))

-- it depends on the numbers of other locals alone
pub may_assign_again : (p : Plan) (t : Thread) (node local : ℕ) (number : ℤ) (seen later : Seen) (view : LogView) (x : List ℕ) →
    length later.locals ≡ length seen.locals →
    ((other : ℕ) → other ≢ local → slice_index_or later.locals other (pos 0) ≡ slice_index_or seen.locals other (pos 0)) →
    MayAssign p t node local number seen view x → MayAssign p t node local number later view x
may_assign_again p t node local number seen later view x count same h = record {
  at_side = h.at_side;
  count = count ∙ h.count;
  locals = λ other word k g beside is. subst (λ (n : ℤ). IsFramed (frame_loads view) word (typed k n)) (sym (same other beside.other))
      (h.locals other word k g beside is);
  assigned = h.assigned;
}

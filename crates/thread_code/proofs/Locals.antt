-- How many locals a thread has.
use Rattle.std.proofs.Common.{◌≡◌, ℕ, zero, suc, ◌+◌, List, [], ◌∷◌, length, refl, ap, sym, ◌∙◌, Some}
use Rattle.std.specs.Prelude.{slice_get}
use Rattle.std.proofs.lemmas.Option.{none-some, same_Some}
use Rattle.c_tree.specs.Flats as f
use Rattle.flow_graph.specs.declared.graph.Part.{Part}
use Rattle.flow_graph.specs.Nodes.{Graph}
use Rattle.flow_graph.specs.Lowering.{lowered, part, parts, thread_count}
use Rattle.thread_code.specs.Plans.{Plan, Thread, IsThread, IsPlan}

part_locals : (ts : List f.Thread) (first k : ℕ) (own : Part) (text : f.Thread) → slice_get (parts ts first) k ≡ Some own → slice_get ts k ≡ Some text →
    own.locals ≡ length text.locals
part_locals [] first k own text g h = absurd (none-some text h)
part_locals (t ∷ ts) first zero own text g h =
    ap (λ (x : Part). x.locals) (sym (same_Some (part t first) own g)) ∙ ap (λ (x : f.Thread). length x.locals) (same_Some t text h)
part_locals (t ∷ ts) first (suc k) own text g h = part_locals ts (first + thread_count t) k own text g h

threads_of : (x : f.Flat) → (lowered x).threads ≡ parts x.threads 0
unfolding lowered
threads_of x = refl

-- how many locals a thread has, its part says
pub locals_are : (p : Plan) (t : Thread) → IsPlan p → IsThread p t → t.part.locals ≡ length t.kinds
locals_are p t plan of =
    let there : slice_get (parts p.flat.threads 0) t.number ≡ Some t.part =
    ap (λ (ps : List Part). slice_get ps t.number) (sym (ap (λ (g : Graph). g.threads) plan.lowered ∙ threads_of p.flat)) ∙ of.nodes in
    part_locals p.flat.threads 0 t.number t.part of.text there of.of_text ∙ ap length (sym of.kinds)

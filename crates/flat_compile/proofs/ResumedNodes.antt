-- Nodes of a thread whose resumes are found.
use Rattle.std.proofs.Common.{Vec, List, map, sym, ◌≡◌, ℕ, ◌<◌, length, get_or, ◌∙◌, ap, refl, false, arith, Bor}
use Rattle.c_tree.specs.declared.expr.LockName.{LockName}
use Rattle.std.specs.Option.{option_map}
use Rattle.std.proofs.lemmas.List.{length-map}
use Rattle.std.specs.Global.{Global}
use Rattle.std.proofs.lemmas.Option.{slice_get-map, slice_get_within, same_Some}
use Rattle.c_tree.specs.Flats.{thread_of}
use Rattle.c_tree.specs.declared.flat.Thread as flat
use Rattle.thread_code.specs.Plans.{IsThread}
use Rattle.flow_graph.specs.declared.graph.Node as node
use Rattle.flow_graph.specs.declared.graph.Action as raw
use Rattle.flow_graph.specs.declared.graph.Action.TheVariants as raws
use Rattle.flow_graph.specs.declared.graph.Part.{Part}
use Rattle.flow_graph.specs.Nodes.{graph_of, node_of, action_of}
use Rattle.flow_graph.specs.Liveness.{NodeAt}
use Rattle.rv64_codegen.specs.declared.plan.Plan as plan
use Rattle.rv64_codegen.specs.Plans.{plan_of}
use Rattle.rv64_codegen.proofs.Public.{read_get, end_within}
use Rattle.flat_compile.specs.links.ResumePlacesByNode.{thread_in, IsOwn, IsOwnNode}
use Rattle.flat_compile.proofs.ResumeAddresses.{calls}

pub passing : (a : raw.Action) → ((l : Bor LockName) (n : ℕ) → a ≡ raws.Lock l n → ⊥) → ((l : Bor LockName) (n : ℕ) → a ≡ raws.Unlock l n → ⊥) →
    calls (action_of a) ≡ false
passing (raws.Eval target value next) l u = refl
passing (raws.Store variable kind next) l u = refl
passing (raws.Test condition holds fails) l u = refl
passing (raws.Lock lock next) l u = absurd (l lock next refl)
passing (raws.Unlock lock next) l u = absurd (u lock next refl)
passing raws.End l u = refl

module _ (q : plan.Plan) (number : ℕ) (part : Part) (own : IsOwn (plan_of q) number part) where
  pub text_below : number < length q.flat.now.threads.items
  text_below =
      omega (
        arith,
        slice_get_within (map thread_of q.flat.now.threads.items) number own.thread.text own.thread.of_text,
        length-map q.flat.now.threads.items thread_of,
      )

  pub text_there : (x : flat.Thread) → x ≡ get_or q.flat.now.threads.items number x → thread_of x ≡ own.thread.text
  text_there x e =
      same_Some (thread_of x) own.thread.text
      (sym (slice_get-map thread_of q.flat.now.threads.items number ∙ ap (option_map thread_of) (read_get q.flat.now.threads.items number x text_below e))
      ∙ own.thread.of_text)

module _ (q : plan.Plan) (number : ℕ) (part : Part) (n : ℕ) (own : IsOwnNode (plan_of q) number part n) where
  pub exists : n < length q.graph.now.nodes.items
  exists =
      let p = plan_of q in
      omega (arith, own.own.below_end, end_within p own.is.plan (thread_in p number part) own.is.thread, length-map q.graph.now.nodes.items node_of)

  pub at_node : (x : node.Node) → x ≡ get_or q.graph.now.nodes.items n x → NodeAt (graph_of q.graph.now) n (node_of x)
  at_node x e =
      slice_get-map node_of q.graph.now.nodes.items n ∙ ap (option_map node_of) (read_get q.graph.now.nodes.items n x exists e)

  abbrev th : IsThread (plan_of q) (thread_in (plan_of q) number part)
  th = own.is.thread

  pub colours_are : (cs : Vec ℕ Global) → cs ≡ get_or q.colours.now.threads.items number cs → cs.items ≡ th.colours
  colours_are cs e =
      let all = q.colours.now.threads.items in
      let f : Vec ℕ Global → List ℕ = λ v. v.items in
      let below : number < length all = omega (arith, slice_get_within (map f all) number th.colours th.of_colours, length-map all f) in
      same_Some cs.items th.colours (sym (slice_get-map f all number ∙ ap (option_map f) (read_get all number cs below e)) ∙ th.of_colours)

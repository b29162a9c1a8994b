-- The number that an assignment gives a local is one that the local may have, whatever the run.
use Rattle.std.proofs.Common.{◌≡◌, ℕ, ◌<◌, List, [], ◌∷◌, length, ap, arith, sym, ◌∙◌, subst, Option, Some, None, ℤ}
use Rattle.std.specs.Prelude.{pos, slice_get, slice_index_or, slice_set}
use Rattle.std.proofs.lemmas.List.{get_or-set_same}
use Rattle.std.proofs.lemmas.Option.{same_Some, slice_get_within}
use Rattle.c_tree.specs.Flats as f
use Rattle.c_tree.specs.Source as m
use Rattle.c_tree.specs.WellFormed.{IsWellFormed}
use Rattle.c_ranges.specs.RunInvariants.{IsReferringThread, RefersSo}
use Rattle.c_ranges.proofs.Public.{zip_at}
use Rattle.flow_graph.specs.Actions as a
use Rattle.flow_graph.specs.Actions.{FlowState, GraphThread, Sets, effect_of, effect_step, graph_step, seen_by, with_graph_thread}
use Rattle.flow_graph.specs.Liveness.{NodeAt}
use Rattle.flow_graph.specs.Lockstep.{GraphThreadMatches}
use Rattle.flow_graph.specs.Lowering.{lowered}
use Rattle.flow_graph.specs.Nodes.{Node}
use Rattle.flow_graph.proofs.Public.{Good, found_in, good_after, graph_is, set_same}
use Rattle.image_checks.proofs.ThreadTexts.{zip_there}

-- a thread of a run at a node that sets the local
module _ (x : f.Flat) (w : IsWellFormed x) (s : FlowState) (good : Good x s) (t : ℕ) (text : f.Thread) (of_text : slice_get x.threads t ≡ Some text)
    (own : GraphThread) (there : slice_get s.graph_threads t ≡ Some own) (is : Node) (at : NodeAt (lowered x) own.at is) (local next : ℕ) (number : ℤ)
    (does : effect_of is.action (seen_by s own) ≡ Some (Sets local number next)) (below : local < length own.locals) where
  abbrev then_thread : GraphThread
  then_thread = record own { at = next; locals = slice_set own.locals local number }

  abbrev then_state : FlowState
  then_state = with_graph_thread s t then_thread

  step : graph_step (lowered x) s t ≡ Some then_state
  step =
      graph_is (lowered x) s t (Some own) there
      ∙ (ap (a.node_step s t own) at ∙ ap (effect_step s t own) does)

  good_then : Good x then_state
  good_then =
      subst (Good x) (ap (λ (o : Option FlowState). after o) step) (good_after x (t ∷ []) w s good)
    where
      after : Option FlowState → FlowState
      after None = s
      after (Some to) = to

  source : (thread : m.Thread) × (slice_get good_then.source.threads t ≡ Some thread)
  source =
      found_in good_then.source.threads t
      (let l = slice_get_within then_state.graph_threads t then_thread moved in let count = good_then.matches.count in omega (arith, l, count))
    where
      moved : slice_get then_state.graph_threads t ≡ Some then_thread
      moved = set_same s.graph_threads t then_thread own there

  match : GraphThreadMatches x then_thread source.0
  match = good_then.matches.each t then_thread source.0 (set_same s.graph_threads t then_thread own there) source.1

  referring : IsReferringThread x text source.0
  referring =
      let all = zip_there (IsReferringThread x) x.threads good_then.source.threads t text good_then.formed.references.threads of_text in
      subst (IsReferringThread x text) (same_Some all.0 source.0 (sym all.1 ∙ source.1)) all.2

  pub assigned_refers : (refers : Option ℕ) → slice_get text.refers local ≡ Some refers → RefersSo x.variables refers number
  assigned_refers refers found =
      subst (RefersSo x.variables refers)
      (ap (λ (ls : List ℤ). slice_index_or ls local (pos 0)) (sym match.locals) ∙ get_or-set_same own.locals local number (pos 0) below)
      (zip_at (RefersSo x.variables) text.refers source.0.locals local refers (pos 0) referring.locals found)

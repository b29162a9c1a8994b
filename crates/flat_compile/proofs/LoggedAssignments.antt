-- The logged assignment that a thread makes next where it is resumed, and the locals on which it counts there.
use Rattle.std.proofs.Common.{◌≡◌, ◌≢◌, ◌↔◌, ℕ, zero, suc, ◌<◌, List, [], ◌∷◌, length, ◌∙◌, ap, ap₂, sym, subst, arith, Option, Some, None, refl}
use Rattle.std.specs.Prelude.{slice_get, Contains, IfSome}
use Rattle.std.proofs.lemmas.Option.{same_Some, slice_get_within}
use Rattle.log_schemes.specs.declared.locals.Locals.TheVariants.{Registers, Frame}
use Rattle.log_schemes.specs.Schemes.{locals_of}
use Rattle.ido_ints.specs.declared.kinds.Kind.{Kind}
use Rattle.c_tree.specs.Exprs as e
use Rattle.flow_graph.specs.Nodes.{Action, Eval, Store, Test, Lock, Unlock, End, Node, successors}
use Rattle.flow_graph.specs.IdempotentCuts.{IsEdge}
use Rattle.flow_graph.specs.Liveness.{IsLive, NodeAt}
use Rattle.thread_code.specs.Plans.{Assigns, Plan, IsPlan, Thread, IsThread, IsNodeOf, IsLogged, held_names_before}
use Rattle.thread_code.specs.RegistersAtNodes.{by_assignment, by_entry, IsCountedOn}
use Rattle.recovered_threads.specs.RecordDescriptions.{CountsOn, NodePlace, the_core, the_entry}
use Rattle.rv64_codegen.proofs.Public.{colours_long, sound_node}
use Rattle.flat_compile.specs.declared.resumes.Assignment.{Assignment}
use Rattle.flat_compile.specs.declared.resumes.LiveLocal.{LiveLocal}
use Rattle.flat_compile.specs.ResumePlaces.{IsAssignedAt}
use Rattle.flat_compile.specs.links.ResumePlacesByNode.{assignment_in, counted_by, AreAssignedIn, IsNext, Logs}
use Rattle.flat_compile.proofs.LiveLocals.{colours_are, refers_are, same_local}
use Rattle.flat_compile.proofs.ResumeAddresses.{formed_as}

abbrev made : (local next : ℕ) → Assignment
made local next = record { local = local; next = next }

contains_one : (x y : ℕ) → Contains (x ∷ []) y → x ≡ y
contains_one x y (zero, below, is) = is
contains_one x y (suc k, below, is) = absurd (omega (arith, below))

module _ (p : Plan) (t : Thread) (node : ℕ) where
  -- ---- Where there is none

  pub none_at_entry : IsNext p t node the_entry None
  none_at_entry a = (λ e. cc, λ no. absurd no)

  none_by : (IsLogged p t node → ⊥) → IsNext p t node the_core None
  none_by never a = (λ e. cc, λ w. absurd (never w.logged))

  pub none_in_registers : locals_of p.log ≡ Registers → IsNext p t node the_core None
  none_in_registers registers = none_by (λ logged. (let both : Registers ≡ Frame = sym registers ∙ logged.frame in let no : ⊥ = cc in no))

  pub none_outside : held_names_before p t node ≡ [] → IsNext p t node the_core None
  none_outside free = none_by (λ logged. logged.holds free)

  module _ (is : Node) (at : NodeAt p.graph node is) where
    -- ---- Where there is one

    assigns_here : (local : ℕ) (w : Assigns p node local) → is.action ≡ Eval (e.ToLocal w.place local w.kind) w.assigned w.next
    assigns_here local w = ap (λ (n : Node). n.action) (same_Some is w.is (sym at ∙ w.at)) ∙ w.action

    made_here : (logged : IsLogged p t node) → assignment_in is.action ≡ Some (made logged.local logged.assigns.next)
    made_here logged = ap assignment_in (assigns_here logged.local logged.assigns)

    -- it is the same, however it was found
    one : (a : Assignment) (it : Logs p t node a) (logged : IsLogged p t node) → made logged.local logged.assigns.next ≡ a
    one a it logged =
        same_Some (made logged.local logged.assigns.next) a
        (sym (made_here logged) ∙ made_here it.logged ∙ ap₂ (λ (l n : ℕ). Some (made l n)) it.local_is it.next_is)

    module _ (frame : locals_of p.log ≡ Frame) (some : held_names_before p t node ≢ []) where
      found : (a : Assignment) (action : Action) → is.action ≡ action → assignment_in action ≡ Some a → Logs p t node a
      found a (Eval (e.ToLocal place local kind) value next) does same =
          let both : made local next ≡ a = same_Some (made local next) a same in
          record {
            logged = record {
              local = local;
              assigns = record { is = is; at = at; place = place; kind = kind; assigned = value; next = next; action = does };
              frame = frame;
              holds = some;
            };
            local_is = ap (λ (z : Assignment). z.local) both;
            next_is = ap (λ (z : Assignment). z.next) both;
          }
      found a (Eval (e.ToVariable place variable kind) value next) does same = cc
      found a (Eval (e.ToElement place variable kind index) value next) does same = cc
      found a (Store variable kind next) does same = cc
      found a (Test condition holds fails) does same = cc
      found a (Lock lock next) does same = cc
      found a (Unlock lock next) does same = cc
      found a End does same = cc

      pub next_here : IsNext p t node the_core (assignment_in is.action)
      next_here a = (λ same. found a is.action refl same, λ it. made_here it.logged ∙ ap₂ (λ (l n : ℕ). Some (made l n)) it.local_is it.next_is)

    -- ---- The locals on which the thread counts

    -- the node leads to the one after the assignment, and to no other
    leads : (a : Assignment) (it : Logs p t node a) → IsEdge p.graph node a.next
    leads a it = record {
      is = is;
      at = at;
      goes = subst (λ (n : ℕ). Contains (successors is.action) n) it.next_is
          (subst (λ (d : Action). Contains (successors d) it.logged.assigns.next) (sym (assigns_here it.logged.local it.logged.assigns))
          (0, omega arith, refl));
    }

    leads_there : (a : Assignment) (it : Logs p t node a) (to : ℕ) → IsEdge p.graph node to → a.next ≡ to
    leads_there a it to edge =
        let does : edge.is.action ≡ Eval (e.ToLocal it.logged.assigns.place it.logged.local it.logged.assigns.kind) it.logged.assigns.assigned
        it.logged.assigns.next =
        ap (λ (n : Node). n.action) (same_Some edge.is is (sym edge.at ∙ at)) ∙ assigns_here it.logged.local it.logged.assigns in
        sym it.next_is ∙ contains_one it.logged.assigns.next to (subst (λ (d : Action). Contains (successors d) to) does edge.goes)

    pub counted_is : (place : NodePlace) (o : Option Assignment) → IsNext p t node place o → (local : ℕ) →
        (IsLive p.graph local (counted_by node o).node × ((counted_by node o).without ≢ Some local)) ↔ CountsOn p t node place local
    counted_is the_entry None n local = (λ w. w.0, λ live. (live, λ same. cc))
    counted_is the_entry (Some a) n local = absurd ((n a).0 refl)
    counted_is the_core None n local = (λ w. by_entry local never w.0, back)
      where
        never : IsLogged p t node → ⊥
        never logged = let no : None ≡ Some (made logged.local logged.assigns.next) =
            (n (made logged.local logged.assigns.next)).1 (record { logged = logged; local_is = refl; next_is = refl }) in cc

        back : IsCountedOn p t node local → IsLive p.graph local node × (None ≢ Some local)
        back (by_entry other none live) = (live, λ same. cc)
        back (by_assignment other logged beside) = absurd (never logged)
    counted_is the_core (Some a) n local = (there, back)
      where
        it : Logs p t node a
        it = (n a).0 refl

        there : IsLive p.graph local a.next × (Some a.local ≢ Some local) → IsCountedOn p t node local
        there w =
            by_assignment local it.logged
            (record { next = a.next; goes = leads a it; live = w.0; other = λ same. w.1 (ap (λ (l : ℕ). Some l) (sym (same ∙ it.local_is))) })

        back : IsCountedOn p t node local → IsLive p.graph local a.next × (Some a.local ≢ Some local)
        back (by_entry other none live) = absurd (none it.logged)
        back (by_assignment other logged beside) = (
          subst (λ (m : ℕ). IsLive p.graph local m) (sym (leads_there a it beside.next beside.goes)) beside.live,
          λ same. beside.other (sym (same_Some a.local local same) ∙ sym (ap (λ (z : Assignment). z.local) (one a it logged))),
        )

    -- ---- The local that is assigned

    module _ (plan : IsPlan p) (th : IsThread p t) (own : IsNodeOf t node) where
      -- they are live at a node of the thread
      pub counted_own : (place : NodePlace) (o : Option Assignment) → IsNext p t node place o → IsNodeOf t (counted_by node o).node
      counted_own place None n = own
      counted_own the_entry (Some a) n = absurd ((n a).0 refl)
      counted_own the_core (Some a) n =
          let it : Logs p t node a = (n a).0 refl in
          let w = it.logged.assigns in
          let form = formed_as p t plan th is.action (Eval (e.ToLocal w.place it.logged.local w.kind) w.assigned w.next)
          (assigns_here it.logged.local w) (sound_node p plan t th node is own at).formed in
          subst (λ (m : ℕ). IsNodeOf t m) it.next_is (record { from_first = form.1.1.0; below_end = form.1.1.1 })

      local_below : (a : Assignment) → Logs p t node a → a.local < length th.colours
      local_below a it =
          let w = it.logged.assigns in
          let form = formed_as p t plan th is.action (Eval (e.ToLocal w.place it.logged.local w.kind) w.assigned w.next)
          (assigns_here it.logged.local w) (sound_node p plan t th node is own at).formed in
          let low : it.logged.local < length th.text.locals = slice_get_within th.text.locals it.logged.local w.kind form.0.0 in
          omega (arith, low, it.local_is, colours_long p plan t th)

      pub assigned_below : (place : NodePlace) (o : Option Assignment) → IsNext p t node place o → IfSome o (λ (a : Assignment). a.local < length th.colours)
      assigned_below place None n = tt
      assigned_below the_entry (Some a) n = absurd ((n a).0 refl)
      assigned_below the_core (Some a) n = local_below a ((n a).0 refl)

      -- what is found of it is what it is
      pub assigned_is : (place : NodePlace) (o : Option Assignment) (r : Option LiveLocal) → IsNext p t node place o →
          AreAssignedIn th.colours th.text o r → (l : LiveLocal) → (r ≡ Some l) ↔ IsAssignedAt p t node place l
      assigned_is the_entry None None n h l = (λ same. cc, λ no. absurd no)
      assigned_is the_entry None (Some found) n h l = absurd h
      assigned_is the_entry (Some a) r n h l = absurd ((n a).0 refl)
      assigned_is the_core None None n h l = (
        λ same. cc,
        λ w. (let no : None ≡ Some (made w.logged.local w.logged.assigns.next) =
            (n (made w.logged.local w.logged.assigns.next)).1 (record { logged = w.logged; local_is = refl; next_is = refl }) in cc),
      )
      assigned_is the_core None (Some found) n h l = absurd h
      assigned_is the_core (Some a) None n h l = absurd h
      assigned_is the_core (Some a) (Some found) n h l = (
        λ same. subst (λ (z : LiveLocal). IsAssignedAt p t node the_core z) (same_Some found l same) (record {
          logged = it.logged;
          local_is = h.local_is ∙ sym it.local_is;
          kind_is = ap (λ (ks : List Kind). slice_get ks found.local) th.kinds ∙ ap (slice_get th.text.locals) h.local_is ∙ h.kind_is;
          refers_is = ap (λ (rs : List (Option ℕ)). slice_get rs found.local) (refers_are p plan t th) ∙ ap (slice_get th.text.refers) h.local_is
              ∙ h.refers_is;
          known_is = h.known_is;
          coloured = ap (λ (cs : List ℕ). slice_get cs found.local) (colours_are p plan t th) ∙ ap (slice_get th.colours) h.local_is ∙ h.coloured;
        }),
        λ w.
            let local : l.local ≡ a.local = w.local_is ∙ ap (λ (z : Assignment). z.local) (one a it w.logged) in
            ap (λ (z : LiveLocal). Some z) (same_local found l
            (same_Some found.colour l.colour (sym h.coloured ∙ ap (slice_get th.colours) (sym local)
            ∙ sym (ap (λ (cs : List ℕ). slice_get cs l.local) (colours_are p plan t th)) ∙ w.coloured))
            (h.local_is ∙ sym local)
            (same_Some found.kind l.kind (sym h.kind_is ∙ ap (slice_get th.text.locals) (sym local)
            ∙ sym (ap (λ (ks : List Kind). slice_get ks l.local) th.kinds) ∙ w.kind_is))
            (same_Some found.refers l.refers (sym h.refers_is ∙ ap (slice_get th.text.refers) (sym local)
            ∙ sym (ap (λ (rs : List (Option ℕ)). slice_get rs l.local) (refers_are p plan t th)) ∙ w.refers_is))
            (h.known_is ∙ sym w.known_is)),
      )
        where
          it : Logs p t node a
          it = (n a).0 refl

-- Passes lead to the live locals: what they add is live, and where none is added all that are live are there.
use Rattle.std.proofs.Common.{◌≡◌, ◌⊎◌, ◌↔◌, inl, inr, ℕ, ◌+◌, ◌<◌, ◌≤◌, Bool, true, false, List, [], ◌∷◌, ◌++◌, length, get_or}
use Rattle.std.proofs.Common.{set, take, drop, map, Some, None, refl, ap, sym, subst, ◌∙◌, arith, length-set, get_or-set_same, get_or-set_other}
use Rattle.std.specs.Prelude.{Contains, slice_get}
use Rattle.std.specs.Option.{option_map}
use Rattle.std.proofs.lemmas.Option.{slice_get-map, slice_get_cases, slice_get_within}
use Rattle.std.proofs.Math.Seq.{take-append_seam}
use Rattle.std.proofs.lemmas.List.{set-get_or}
use Rattle.std.proofs.lemmas.List.Sums.{sum_by-set}
use Rattle.flow_graph.specs.declared.graph.Node as code
use Rattle.flow_graph.specs.Nodes.{Node, Graph, node_of}
use Rattle.flow_graph.specs.Liveness.{NodeAt, IsLive, is_read, is_read_later}
use Rattle.flow_graph.specs.LocalSets.{Has, HasAt}
use Rattle.flow_graph.specs.links.SetCapacity.{room}
use Rattle.flow_graph.proofs.Public.{same_or_other}
use Rattle.flow_live.specs.links.Passes.{AreLong, rooms, UsesLocal, AreRead, IsLiveFromSuccessor, Adds, AreSound, AreClosed, IsLivenessPass}

-- ---- Nodes

-- a node that contracts see is one of the code's
pub record IsOf (nodes : List code.Node) (n : ℕ) (x : Node) : Type 0 where
  pub is : code.Node
  pub at : slice_get nodes n ≡ Some is
  pub same : node_of is ≡ x

is_of : (nodes : List code.Node) (n : ℕ) (x : Node) → slice_get (map node_of nodes) n ≡ Some x → IsOf nodes n x
is_of nodes n x at =
    let all = slice_get-map node_of nodes n in
    elim (slice_get_cases nodes n).1 [
      | inl found ↦ (
          let y = found.0 in
          let here : slice_get nodes n ≡ Some y = found.2 in
          let both : Some (node_of y) ≡ Some x = sym (ap (option_map node_of) here) ∙ sym all ∙ at in
          record { is = y; at = here; same = cc })
      | inr past ↦ (
          let none : slice_get nodes n ≡ None = past.1 in
          let both : None ≡ Some x = sym (ap (option_map node_of) none) ∙ sym all ∙ at in
          absurd (cc))
    ]

pub node_at : (g : Graph) (nodes : List code.Node) (n : ℕ) (x : code.Node) → g.nodes ≡ map node_of nodes → slice_get nodes n ≡ Some x → NodeAt g n (node_of x)
node_at g nodes n x e at = ap (λ (xs : List Node). slice_get xs n) e ∙ slice_get-map node_of nodes n ∙ ap (option_map node_of) at

-- ---- All that are live are there

pub complete : (g : Graph) (nodes : List code.Node) (sets : List (List ℕ)) (local : ℕ) → g.nodes ≡ map node_of nodes →
    ((n : ℕ) → UsesLocal nodes n local → HasAt sets n local) → AreClosed nodes 0 sets → (n : ℕ) → IsLive g local n → HasAt sets n local
complete g nodes sets local e reads closed n (is_read x at uses) =
    let k = is_of nodes n x (ap (λ (xs : List Node). slice_get xs n) (sym e) ∙ at) in
    reads n (record { is = k.is; at = k.at; reads = subst (λ (y : Node). Contains y.uses local) (sym k.same) uses })
complete g nodes sets local e reads closed n (is_read_later {m = m} x at keeps goes later) =
    let k = is_of nodes n x (ap (λ (xs : List Node). slice_get xs n) (sym e) ∙ at) in
    let comes : IsLiveFromSuccessor x sets local =
    record { keeps = keeps; successor = m; goes = goes; has = complete g nodes sets local e reads closed m later } in
    closed n local k.is (omega arith) k.at (subst (λ (y : Node). IsLiveFromSuccessor y sets local) (sym k.same) comes)

-- ---- What is there is live

pub sound_read : (g : Graph) (nodes : List code.Node) (sets : List (List ℕ)) → g.nodes ≡ map node_of nodes → AreRead nodes sets → AreSound g sets
sound_read g nodes sets e read n local h =
    let r = (read.has n local).0 h in
    is_read (node_of r.is) (node_at g nodes n r.is e r.at) r.reads

sound_coming : (g : Graph) (nodes : List code.Node) (sets : List (List ℕ)) (n local : ℕ) (x : code.Node) → g.nodes ≡ map node_of nodes → AreSound g sets →
    slice_get nodes n ≡ Some x → IsLiveFromSuccessor (node_of x) sets local → IsLive g local n
sound_coming g nodes sets n local x e sound at c =
    is_read_later {m = c.successor} (node_of x) (node_at g nodes n x e at) c.keeps c.goes (sound c.successor local c.has)

-- ---- A pass

past : (nodes : List code.Node) (n : ℕ) (x : code.Node) → length nodes ≤ n → slice_get nodes n ≡ Some x → ⊥
past nodes n x le at = omega (arith, slice_get_within nodes n x at)

pub some_same : (nodes : List code.Node) (n number : ℕ) (x y : code.Node) → n ≡ number → slice_get nodes number ≡ Some x → slice_get nodes n ≡ Some y → x ≡ y
some_same nodes n number x y e at at' = let both : Some x ≡ Some y = sym at ∙ ap (λ k. slice_get nodes k) (sym e) ∙ at' in cc

at_most_added : (x : Node) (number : ℕ) (before after : List (List ℕ)) (grows : Bool) → Adds x number before after grows → rooms after ≤ rooms before
at_most_added x number before after true a = omega (arith, a.fewer refl)
at_most_added x number before after false a = omega (arith, ap rooms (a.same refl))

at_most_passed : (nodes : List code.Node) (from : ℕ) (before after : List (List ℕ)) (grows : Bool) → IsLivenessPass nodes from before after grows →
    rooms after ≤ rooms before
at_most_passed nodes from before after true p = omega (arith, p.fewer refl)
at_most_passed nodes from before after false p = omega (arith, ap rooms (p.same refl))

pub pass_more : (nodes : List code.Node) (number : ℕ) (x : code.Node) (before now after : List (List ℕ)) (grows step grown : Bool) →
    slice_get nodes number ≡ Some x → IsLivenessPass nodes (number + 1) before now grows → Adds (node_of x) number now after step →
    (grown ≡ false → (grows ≡ false) × (step ≡ false)) → (grown ≡ true → (grows ≡ true) ⊎ (step ≡ true)) → IsLivenessPass nodes number before after grown
pass_more nodes number x before now after grows step grown at p a neither either = record {
  long = λ w h. a.long w (p.long w h);
  keeps = λ n local h. (a.has n local).1 (inl (p.keeps n local h));
  sound = λ g e h n local now_has. elim ((a.has n local).0 now_has) [
    | inl old ↦ p.sound g e h n local old
    | inr new ↦ subst (λ (k : ℕ). IsLive g local k) (sym new.0) (sound_coming g nodes now number local x e (p.sound g e h) at new.1)
  ];
  same = λ no. a.same (neither no).1 ∙ p.same (neither no).0;
  closed = λ no n local y from' at' comes.
      let still : after ≡ now = a.same (neither no).1 in
      let comes_now : IsLiveFromSuccessor (node_of y) now local = subst (λ (s : List (List ℕ)). IsLiveFromSuccessor (node_of y) s local) still comes in
      elim (same_or_other n number) [
        | inl e ↦ (
            let is : x ≡ y = some_same nodes n number x y e at at' in
            (a.has n local).1 (inr (e, subst (λ (z : code.Node). IsLiveFromSuccessor (node_of z) now local) (sym is) comes_now)))
        | inr other ↦ (a.has n local).1 (inl (p.closed (neither no).0 n local y (omega arith) at' comes_now))
      ];
  fewer = λ t. elim (either t) [
    | inl g ↦ omega (arith, p.fewer g, at_most_added (node_of x) number now after step a)
    | inr s ↦ omega (arith, a.fewer s, at_most_passed nodes (number + 1) before now grows p)
  ];
}

pub pass_grown : (nodes : List code.Node) (number : ℕ) (x : code.Node) (before now after : List (List ℕ)) (grows step : Bool) →
    slice_get nodes number ≡ Some x → IsLivenessPass nodes (number + 1) before now grows → Adds (node_of x) number now after step → step ≡ true →
    IsLivenessPass nodes number before after true
pass_grown nodes number x before now after grows step at p a is = pass_more nodes number x before now after grows step true at p a (λ no. cc) (λ _. inr is)

pub pass_kept : (nodes : List code.Node) (number : ℕ) (x : code.Node) (before now after : List (List ℕ)) (grows step : Bool) →
    slice_get nodes number ≡ Some x → IsLivenessPass nodes (number + 1) before now grows → Adds (node_of x) number now after step → step ≡ false →
    IsLivenessPass nodes number before after grows
pass_kept nodes number x before now after grows step at p a is = pass_more nodes number x before now after grows step grows at p a (λ no. (no, is)) (λ t. inl t)

-- a node once more
pass_again : (nodes : List code.Node) (from number : ℕ) (x : code.Node) (before now after : List (List ℕ)) (grows step grown : Bool) →
    slice_get nodes number ≡ Some x → IsLivenessPass nodes from before now grows → Adds (node_of x) number now after step →
    (grown ≡ false → (grows ≡ false) × (step ≡ false)) → (grown ≡ true → (grows ≡ true) ⊎ (step ≡ true)) → IsLivenessPass nodes from before after grown
pass_again nodes from number x before now after grows step grown at p a neither either = record {
  long = λ w h. a.long w (p.long w h);
  keeps = λ n local h. (a.has n local).1 (inl (p.keeps n local h));
  sound = λ g e h n local now_has. elim ((a.has n local).0 now_has) [
    | inl old ↦ p.sound g e h n local old
    | inr new ↦ subst (λ (k : ℕ). IsLive g local k) (sym new.0) (sound_coming g nodes now number local x e (p.sound g e h) at new.1)
  ];
  same = λ off. a.same (neither off).1 ∙ p.same (neither off).0;
  closed = λ off. subst (λ (ss : List (List ℕ)). AreClosed nodes from ss) (sym (a.same (neither off).1)) (p.closed (neither off).0);
  fewer = λ t. elim (either t) [
    | inl g ↦ omega (arith, p.fewer g, at_most_added (node_of x) number now after step a)
    | inr s ↦ omega (arith, a.fewer s, at_most_passed nodes from before now grows p)
  ];
}

pub again_grown : (nodes : List code.Node) (from number : ℕ) (x : code.Node) (before now after : List (List ℕ)) (grows step : Bool) →
    slice_get nodes number ≡ Some x → IsLivenessPass nodes from before now grows → Adds (node_of x) number now after step → step ≡ true →
    IsLivenessPass nodes from before after true
again_grown nodes from number x before now after grows step at p a is =
    pass_again nodes from number x before now after grows step true at p a (λ off. cc) (λ _. inr is)

pub again_kept : (nodes : List code.Node) (from number : ℕ) (x : code.Node) (before now after : List (List ℕ)) (grows step : Bool) →
    slice_get nodes number ≡ Some x → IsLivenessPass nodes from before now grows → Adds (node_of x) number now after step → step ≡ false →
    IsLivenessPass nodes from before after grows
again_kept nodes from number x before now after grows step at p a is =
    pass_again nodes from number x before now after grows step grows at p a (λ off. (off, is)) (λ t. inl t)

-- two passes
pass_both : (nodes : List code.Node) (from more : ℕ) (before now after : List (List ℕ)) (first second grown : Bool) →
    IsLivenessPass nodes from before now first →
    IsLivenessPass nodes more now after second →
    (grown ≡ false → (first ≡ false) × (second ≡ false)) → (grown ≡ true → (first ≡ true) ⊎ (second ≡ true)) → IsLivenessPass nodes from before after grown
pass_both nodes from more before now after first' second' grown p q neither either = record {
  long = λ w h. q.long w (p.long w h);
  keeps = λ n local h. q.keeps n local (p.keeps n local h);
  sound = λ g e h. q.sound g e (p.sound g e h);
  same = λ off. q.same (neither off).1 ∙ p.same (neither off).0;
  closed = λ off. subst (λ (ss : List (List ℕ)). AreClosed nodes from ss) (sym (q.same (neither off).1)) (p.closed (neither off).0);
  fewer = λ t. elim (either t) [
    | inl g ↦ omega (arith, p.fewer g, at_most_passed nodes more now after second' q)
    | inr s ↦ omega (arith, q.fewer s, at_most_passed nodes from before now first' p)
  ];
}

-- the second of two passes says whether any is new, where the first has added none
pub pass_second : (nodes : List code.Node) (from more : ℕ) (before now after : List (List ℕ)) (first second : Bool) → first ≡ false →
    IsLivenessPass nodes from before now first → IsLivenessPass nodes more now after second →
    IsLivenessPass nodes from before after second
pass_second nodes from more before now after f s is p q = pass_both nodes from more before now after f s s p q (λ off. (is, off)) (λ t. inr t)

-- ---- What comes to a node

first : (m : ℕ) (rest : List ℕ) → Contains (m ∷ rest) m
first m rest = (0, omega arith, refl)

second : (l m : ℕ) → Contains (l ∷ m ∷ []) m
second l m = (1, omega arith, refl)

-- ---- One set

-- a set of the list is replaced by one with what comes to its node
pub record SetGrows (x : Node) (number : ℕ) (sets : List (List ℕ)) (to : List ℕ) (grows : Bool) : Type 0 where
  pub within : number < length sets
  pub long : length to ≡ length (get_or sets number [])
  pub has : (local : ℕ) → Has to local ↔ (HasAt sets number local ⊎ IsLiveFromSuccessor x sets local)
  pub same : grows ≡ false → to ≡ get_or sets number []
  pub fewer : grows ≡ true → room to < room (get_or sets number [])

pub adds : (x : Node) (number : ℕ) (sets : List (List ℕ)) (to : List ℕ) (grows : Bool) → SetGrows x number sets to grows →
    Adds x number sets (set sets number to) grows
adds x number sets to grows g = record {
  long = λ w h. record {
    each = λ n lt. elim (same_or_other n number) [
      | inl e ↦ ap (λ (k : ℕ). length (get_or (set sets number to) k [])) e ∙ ap length (get_or-set_same sets number to [] g.within) ∙ g.long
          ∙ h.each number g.within
      | inr other ↦ ap length (get_or-set_other sets number n to [] other) ∙ h.each n (omega (arith, length-set sets number to))
    ];
  };
  has = λ n local. elim (same_or_other n number) [
    | inl e ↦ (
        let here : get_or (set sets number to) n [] ≡ to = ap (λ (k : ℕ). get_or (set sets number to) k []) e ∙ get_or-set_same sets number to [] g.within in (
          λ h. elim ((g.has local).0 (subst (λ (s : List ℕ). Has s local) here h)) [
            | inl old ↦ inl (subst (λ (k : ℕ). HasAt sets k local) (sym e) old)
            | inr comes ↦ inr (e, comes)
          ],
          λ d. subst (λ (s : List ℕ). Has s local) (sym here) ((g.has local).1 (elim d [
            | inl old ↦ inl (subst (λ (k : ℕ). HasAt sets k local) e old)
            | inr comes ↦ inr comes.1
          ])),
        ))
    | inr other ↦ (
        let there : get_or (set sets number to) n [] ≡ get_or sets n [] = get_or-set_other sets number n to [] other in (
          λ h. inl (subst (λ (s : List ℕ). Has s local) there h),
          λ d. elim d [
            | inl old ↦ subst (λ (s : List ℕ). Has s local) (sym there) old
            | inr comes ↦ absurd (other comes.0)
          ],
        ))
  ];
  same = λ no. ap (λ (s : List ℕ). set sets number s) (g.same no) ∙ set-get_or sets number [];
  fewer = λ t. omega (arith, g.fewer t, sum_by-set room sets number to [] g.within);
}

-- ---- Passes, one after another

-- the sets between two passes
pub record Reached (g : Graph) (nodes : List code.Node) (sets : List (List ℕ)) (words : ℕ) : Type 0 where
  pub count : length sets ≡ length nodes
  pub long : AreLong sets words
  pub sound : AreSound g sets
  pub reads : (n local : ℕ) → UsesLocal nodes n local → HasAt sets n local

pub reached_first : (g : Graph) (nodes : List code.Node) (sets : List (List ℕ)) (words : ℕ) → g.nodes ≡ map node_of nodes → AreRead nodes sets →
    AreLong sets words → Reached g nodes sets words
reached_first g nodes sets words e r long =
    record { count = r.count; long = long; sound = sound_read g nodes sets e r; reads = λ n local h. (r.has n local).1 h }

-- a pass that adds none has the live ones
pub reached_all : (g : Graph) (nodes : List code.Node) (before after : List (List ℕ)) (words : ℕ) (grows : Bool) → g.nodes ≡ map node_of nodes → grows ≡ false →
    Reached g nodes before words → IsLivenessPass nodes 0 before after grows → (n local : ℕ) → HasAt after n local ↔ IsLive g local n
reached_all g nodes before after words grows e off r p n local = (
  p.sound g e r.sound n local,
  complete g nodes after local e (λ k h. p.keeps k local (r.reads k local h)) (p.closed off) n,
)

-- a list of as many elements, written over another
pub written : (count : ℕ) (xs ys : List (List ℕ)) → length xs ≡ count → take count (xs ++ drop (length xs) ys) ≡ xs
written count xs ys e = ap (λ (n : ℕ). take n (xs ++ drop (length xs) ys)) (sym e) ∙ take-append_seam xs (drop (length xs) ys)

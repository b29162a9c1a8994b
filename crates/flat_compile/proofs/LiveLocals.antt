-- The locals on which a thread counts, in the order of their colours.
use Rattle.std.proofs.Common.{◌≡◌, ◌≢◌, ◌↔◌, inl, ⊎_elim, ℕ, zero, suc, ◌+◌, ◌<◌, ◌≤◌, List, [], ◌∷◌, ◌++◌, length, map, ◌∙◌, ap, ap₂, sym, subst, arith, Some}
use Rattle.std.proofs.Common.{Bool, ◌&&◌, Option, refl}
use Rattle.std.specs.Prelude.{slice_get, slice_index, slice_index_or, Contains, is_some}
use Rattle.std.specs.List.Sorted.{IsStrictlyIncreasing}
use Rattle.std.proofs.lemmas.Bool.{cases_lt}
use Rattle.std.proofs.lemmas.Option.{same_Some, slice_get_within, get_or_from_slice_get}
use Rattle.std.proofs.lemmas.List.Elements.{Contains-append_left, Contains-append_right, Contains-push_cases}
use Rattle.std.specs.List.{AllZip}
use Rattle.ido_ints.specs.declared.kinds.Kind.{Kind}
use Rattle.c_tree.specs.Flats as f
use Rattle.c_tree.specs.NullReferences.{is_among}
use Rattle.c_tree.specs.References.{IsLocalReferring, IsFlatThreadReferring}
use Rattle.c_ranges.specs.KnownAtSteps.{thread_knowns}
use Rattle.ido_base.specs.declared.limits.TheConstants.{LOCAL_REGISTERS}
use Rattle.flow_graph.specs.Liveness.{IsLive, Spans, Touches}
use Rattle.thread_code.specs.Plans.{Plan, IsPlan, Thread, IsThread, IsNodeOf, home_of_colour}
use Rattle.recovered_threads.specs.RecordDescriptions.{CountsOn, NodePlace}
use Rattle.flat_compile.specs.declared.resumes.LiveLocal.{LiveLocal}
use Rattle.flat_compile.specs.declared.resumes.Counted.{Counted}
use Rattle.flat_compile.specs.ResumePlaces.{colours_in, refers_in, knowns_before, is_known, IsLiveLocal}
use Rattle.flat_compile.specs.links.ResumePlacesByNode.{Ascends, IsLiveIn, AreLiveBelow}
use Rattle.flow_graph.proofs.Public.{all_at, found_in}
use Rattle.rv64_codegen.proofs.Public.{colours_long}
use Rattle.flat_compile.proofs.ResumeAddresses.{head, tail}
use Rattle.expr_code.specs.declared.home.Home.{Home}
use Rattle.expr_code.specs.declared.home.Home.TheVariants.{InRegister}
use Rattle.expr_code.specs.EvaluationCode.{home_of}
use Rattle.std.proofs.lemmas.List.{get_or-map}

-- ---- Numbers that ascend

from_low : (low : ℕ) (xs : List ℕ) (b : ℕ) → Ascends low xs → b < length xs → low ≤ slice_index xs b
from_low low [] b h l = absurd (omega (arith, l))
from_low low (x ∷ xs) zero h l = h.0
from_low low (x ∷ xs) (suc b) h l = let r = from_low (suc x) xs b h.1 (omega (arith, l)) in omega (arith, r, h.0)

pub rise : (low : ℕ) (xs : List ℕ) → Ascends low xs → (a b : ℕ) → a < b → b < length xs → slice_index xs a < slice_index xs b
rise low [] h a b up l = absurd (omega (arith, l))
rise low (x ∷ xs) h a zero up l = absurd (omega (arith, up))
rise low (x ∷ xs) h zero (suc b) up l = let r = from_low (suc x) xs b h.1 (omega (arith, l)) in omega (arith, r)
rise low (x ∷ xs) h (suc a) (suc b) up l = rise (suc x) xs h.1 a b (omega (arith, up)) (omega (arith, l))

pub strictly : (low : ℕ) (xs : List ℕ) → Ascends low xs → IsStrictlyIncreasing xs
strictly low xs h k l = rise low xs h k (k + 1) (omega arith) l

pub climbs : {X : Type 0} (f : X → ℕ) (low : ℕ) (xs : List X) (x : X) → Ascends low (map f xs) → ((z : X) → Contains xs z → f z < f x) → low ≤ f x →
    Ascends low (map f (xs ++ x ∷ []))
climbs f low [] x h below l = (l, tt)
climbs f low (z ∷ xs) x h below l =
    let up = below z (head z xs) in
    (h.0, climbs f (suc (f z)) xs x h.1 (λ w k. below w (tail z xs w k)) (omega (arith, up)))

-- ---- One colour more

abbrev made : (colour local : ℕ) → Kind → Option ℕ → Bool → LiveLocal
made colour local kind refers known = record { colour = colour; local = local; kind = kind; refers = refers; known = known }

pub same_local : (a b : LiveLocal) → a.colour ≡ b.colour → a.local ≡ b.local → a.kind ≡ b.kind → a.refers ≡ b.refers → a.known ≡ b.known → a ≡ b
same_local a b c l k e n =
    ap (λ (x : ℕ). made x a.local a.kind a.refers a.known) c ∙ ap (λ (x : ℕ). made b.colour x a.kind a.refers a.known) l
    ∙ ap (λ (x : Kind). made b.colour b.local x a.refers a.known) k ∙ ap (λ (x : Option ℕ). made b.colour b.local b.kind x a.known) e
    ∙ ap (λ (x : Bool). made b.colour b.local b.kind b.refers x) n

module _ (colours : List ℕ) (text : f.Thread) (known : List ℕ) (sets : List (List ℕ)) (counted : Counted) where
  abbrev Is : (count : ℕ) → List LiveLocal → Type 0
  Is count found = AreLiveBelow colours text known sets counted count found

  abbrev One : (count : ℕ) → LiveLocal → Type 0
  One count l = (l.colour < count) × IsLiveIn colours sets counted l.colour l.local × (slice_get text.locals l.local ≡ Some l.kind)
      × (slice_get text.refers l.local ≡ Some l.refers) × (l.known ≡ is_known known l)

  wider : (count : ℕ) (l : LiveLocal) → One count l → One (count + 1) l
  wider count l w = (omega (arith, w.0), w.1, w.2, w.3, w.4)

  pub live_same : (count : ℕ) (found : List LiveLocal) → ((local : ℕ) → IsLiveIn colours sets counted count local → ⊥) → Is count found →
      Is (count + 1) found
  live_same count found none h = record {
    each = λ l. (
      λ k. wider count l ((h.each l).0 k),
      λ w. ⊎_elim (λ less. (h.each l).1 (less, w.1, w.2, w.3, w.4))
          (λ g.
          let same : l.colour ≡ count = omega (arith, g, w.0) in
          absurd (none l.local (subst (λ (n : ℕ). IsLiveIn colours sets counted n l.local) same w.1)))
          (cases_lt l.colour count),
    );
    ascend = h.ascend;
  }

  pub live_more : (count : ℕ) (found : List LiveLocal) (l : LiveLocal) → l.colour ≡ count → IsLiveIn colours sets counted count l.local →
      slice_get text.locals l.local ≡ Some l.kind → slice_get text.refers l.local ≡ Some l.refers → l.known ≡ is_known known l →
      ((a b : ℕ) → IsLiveIn colours sets counted count a → IsLiveIn colours sets counted count b → a ≡ b) → Is count found → Is (count + 1) (found ++ l ∷ [])
  live_more count found l colour live kind refers knows apart h = record {
    each = λ z. (
      λ k. ⊎_elim (λ old. wider count z ((h.each z).0 old)) (λ e. subst (λ (y : LiveLocal). One (count + 1) y) e here) (Contains-push_cases found l z k),
      λ w. ⊎_elim (λ less. Contains-append_left found (l ∷ []) z ((h.each z).1 (less, w.1, w.2, w.3, w.4)))
          (λ g. Contains-append_right found (l ∷ []) z (subst (λ (y : LiveLocal). Contains (l ∷ []) y) (only z w (omega (arith, g, w.0))) (head l [])))
          (cases_lt z.colour count),
    );
    ascend = climbs (λ (y : LiveLocal). y.colour) 0 found l h.ascend (λ z k. let w = (h.each z).0 k in omega (arith, w.0, colour)) (omega arith);
  }
    where
      here : One (count + 1) l
      here = (omega (arith, colour), subst (λ (n : ℕ). IsLiveIn colours sets counted n l.local) (sym colour) live, kind, refers, knows)

      only : (z : LiveLocal) (w : One (count + 1) z) → z.colour ≡ count → l ≡ z
      only z w same =
          let there : l.local ≡ z.local = apart l.local z.local live (subst (λ (n : ℕ). IsLiveIn colours sets counted n z.local) same w.1) in
          let array : l.refers ≡ z.refers = same_Some l.refers z.refers (sym refers ∙ ap (slice_get text.refers) there ∙ w.3) in
          same_local l z (colour ∙ sym same) there (same_Some l.kind z.kind (sym kind ∙ ap (slice_get text.locals) there ∙ w.2)) array
          (knows ∙ ap₂ (λ (r : Option ℕ) (n : ℕ). is_some r && is_among known n) array there ∙ sym w.4)

-- ---- They are those on which the thread counts

index_of : (xs : List ℕ) (k x : ℕ) → slice_get xs k ≡ Some x → slice_index xs k ≡ x
index_of [] k x g = cc
index_of (y ∷ xs) zero x g = cc
index_of (y ∷ xs) (suc k) x g = index_of xs k x g

refers_at : (ts : List f.Thread) (n : ℕ) (text : f.Thread) → slice_get ts n ≡ Some text →
    slice_index_or (map (λ (t : f.Thread). t.refers) ts) n [] ≡ text.refers
refers_at [] n text g = cc
refers_at (t ∷ ts) zero text g = let same : t ≡ text = cc in ap (λ (x : f.Thread). x.refers) same
refers_at (t ∷ ts) (suc n) text g = refers_at ts n text g

pub knowns_at : (ts : List f.Thread) (n : ℕ) (text : f.Thread) → slice_get ts n ≡ Some text →
    slice_index_or (map thread_knowns ts) n [] ≡ thread_knowns text
knowns_at [] n text g = cc
knowns_at (t ∷ ts) zero text g = let same : t ≡ text = cc in ap (λ (x : f.Thread). thread_knowns x) same
knowns_at (t ∷ ts) (suc n) text g = knowns_at ts n text g

as_many : (ks : List Kind) (rs : List (Option ℕ)) → AllZip IsLocalReferring ks rs → length rs ≡ length ks
as_many [] [] h = refl
as_many [] (r ∷ rs) h = absurd h
as_many (k ∷ ks) [] h = absurd h
as_many (k ∷ ks) (r ∷ rs) h = ap suc (as_many ks rs h.1)

-- a local of a thread's text is told what it refers to
pub refers_long : (p : Plan) (plan : IsPlan p) (t : Thread) (th : IsThread p t) → length th.text.refers ≡ length th.text.locals
refers_long p plan t th =
    let form : IsFlatThreadReferring p.flat th.text =
    all_at (IsFlatThreadReferring p.flat) p.flat.threads t.number th.text plan.formed.referring.threads th.of_text in
    as_many th.text.locals th.text.refers form.locals

module _ (p : Plan) (plan : IsPlan p) (t : Thread) (th : IsThread p t) where
  pub refers_are : refers_in p t ≡ th.text.refers
  refers_are = refers_at p.flat.threads t.number th.text th.of_text

  pub colours_are : colours_in p t ≡ th.colours
  colours_are = get_or_from_slice_get p.colours t.number th.colours [] th.of_colours

  -- a local's home is the one that its colour numbers
  pub home_is : (local colour : ℕ) → slice_get (colours_in p t) local ≡ Some colour → home_of t.locals local ≡ home_of_colour p.log t.number colour
  home_is local colour c =
      let g : slice_get th.colours local ≡ Some colour = ap (λ (cs : List ℕ). slice_get cs local) (sym colours_are) ∙ c in
      ap (λ (hs : List Home). home_of hs local) th.locals
      ∙ get_or-map (home_of_colour p.log t.number) th.colours local 0 (InRegister 0) (slice_get_within th.colours local colour g)
      ∙ ap (home_of_colour p.log t.number) (index_of th.colours local colour g)

  -- a local of the text has a colour, of which there are few
  pub coloured : (local : ℕ) (kind : Kind) → slice_get t.kinds local ≡ Some kind → (colour : ℕ) × (slice_get (colours_in p t) local ≡ Some colour)
  coloured local kind g =
      let short = slice_get_within t.kinds local kind g in
      let there = found_in th.colours local (omega (arith, short, ap (λ (ks : List Kind). length ks) th.kinds, colours_long p plan t th)) in
      (there.0, ap (λ (cs : List ℕ). slice_get cs local) colours_are ∙ there.1)

  pub few_colours : (local colour : ℕ) → slice_get (colours_in p t) local ≡ Some colour → colour < LOCAL_REGISTERS
  few_colours local colour c =
      plan.registers.exist t.number colour th.colours th.of_colours
      (contained th.colours local colour (ap (λ (cs : List ℕ). slice_get cs local) (sym colours_are) ∙ c))
    where
      contained : (xs : List ℕ) (k x : ℕ) → slice_get xs k ≡ Some x → Contains xs x
      contained [] k x g = cc
      contained (y ∷ xs) zero x g = let same : y ≡ x = cc in subst (λ (z : ℕ). Contains (y ∷ xs) z) same (head y xs)
      contained (y ∷ xs) (suc k) x g = tail y xs x (contained xs k x g)

  -- ---- No two that are live at a node have one colour

  module _ (counted : Counted) (own : IsNodeOf t counted.node) where
    spans : (local : ℕ) → IsLive p.graph local counted.node → Spans p.graph t.part local counted.node
    spans local live =
        let touches : Touches p.graph t.part local counted.node =
        record { from_first = own.from_first; below_end = own.below_end; is = inl live } in
        record { low = counted.node; high = counted.node; from_low = omega arith; to_high = omega arith; at_low = touches; at_high = touches }

    clash : (colour a b : ℕ) → a < b → IsLiveIn th.colours p.live counted colour a → IsLiveIn th.colours p.live counted colour b → ⊥
    clash colour a b less x y = plan.apart counted.node a b (record {
      thread = t.number;
      part = t.part;
      own = th.nodes;
      registers = th.colours;
      register = colour;
      of_thread = th.of_colours;
      of_first = x.coloured;
      of_second = y.coloured;
      different = less;
      first = spans a ((plan.live.each counted.node a).0 x.counts.live);
      second = spans b ((plan.live.each counted.node b).0 y.counts.live);
    })

    pub one_each : (colour a b : ℕ) → IsLiveIn th.colours p.live counted colour a → IsLiveIn th.colours p.live counted colour b → a ≡ b
    one_each colour a b x y = ⊎_elim (λ l. absurd (clash colour a b l x y))
        (λ g. ⊎_elim (λ l. absurd (clash colour b a l y x)) (λ h. let e : a ≡ b = omega (arith, g, h) in e) (cases_lt b a))
        (cases_lt a b)

  -- ---- All of them

  module _ (node : ℕ) (place : NodePlace) (counted : Counted)
      (are : (local : ℕ) → (IsLive p.graph local counted.node × (counted.without ≢ Some local)) ↔ CountsOn p t node place local) where
    pub all_live : (found : List LiveLocal) → AreLiveBelow th.colours th.text (knowns_before p t node) p.live counted 18 found → (l : LiveLocal) →
        Contains found l ↔ IsLiveLocal p t node place l
    all_live found h l = (
      λ k.
          let w = (h.each l).0 k in
          record {
            kind_is = ap (λ (ks : List Kind). slice_get ks l.local) th.kinds ∙ w.2;
            refers_is = ap (λ (rs : List (Option ℕ)). slice_get rs l.local) refers_are ∙ w.3;
            known_is = w.4;
            counted = (are l.local).0 ((plan.live.each counted.node l.local).0 w.1.counts.live, w.1.counts.other);
            coloured = ap (λ (cs : List ℕ). slice_get cs l.local) colours_are ∙ w.1.coloured;
          },
      λ is.
          let on = (are l.local).1 is.counted in
          (h.each l).1 (
            few_colours l.local l.colour is.coloured,
            record {
              coloured = ap (λ (cs : List ℕ). slice_get cs l.local) (sym colours_are) ∙ is.coloured;
              counts = record { live = (plan.live.each counted.node l.local).1 on.0; other = on.1 };
            },
            ap (λ (ks : List Kind). slice_get ks l.local) (sym th.kinds) ∙ is.kind_is,
            ap (λ (rs : List (Option ℕ)). slice_get rs l.local) (sym refers_are) ∙ is.refers_is,
            is.known_is,
          ),
    )

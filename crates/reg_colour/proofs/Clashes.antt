-- Clashes of a thread, and of all.
use Rattle.std.proofs.Common.{◌≡◌, ◌∙◌, ◌⊎◌, ℕ, ◌+◌, ◌<◌, ◌≤◌, List, length, get_or, map, slice_get}
use Rattle.std.proofs.Common.{Option, Some, None, Vec, Global, inl, inr, refl, sym, ap, subst, arith}
use Rattle.std.proofs.lemmas.Bool.{cases_eq}
use Rattle.std.specs.Option.{option_map}
use Rattle.std.proofs.lemmas.List.{length-map}
use Rattle.std.proofs.lemmas.Option.{slice_get_within, slice_get-map, slice_get_read, slice_get_past}
use Rattle.flow_graph.specs.declared.graph.Part.{Part}
use Rattle.flow_graph.specs.Nodes.{Graph}
use Rattle.flow_graph.specs.Liveness.{Spans, Colouring, Clash, HasNoClash, IsFirstClash}
use Rattle.reg_colour.specs.declared.checking.Found.{Found}
use Rattle.reg_colour.specs.declared.intervals.Interval.{Interval}
use Rattle.reg_colour.specs.links.Intervals.{Intervals, AreIntervals, Holds}
use Rattle.reg_colour.specs.links.LeastClash.{IsUpTo, IsLesser, IsLeast, IsLeastOf, AreDisjoint, IsFirstShared, ClashAt, ClashOf, ClashBoth, ClashIn, locals_of}
use Rattle.reg_colour.proofs.IntervalCorrectness.{held_from, spans_from}
use Rattle.reg_colour.proofs.IntervalCounts.{held_in, in_held}
use Rattle.reg_colour.proofs.LeastOfTwo.{lesser}

-- the least of those that are found stays so where what is looked for is said in equal words
pub reworded : (P R : ℕ → ℕ → ℕ → Type 0) (found : Option Found) → ((node a b : ℕ) → P node a b → R node a b) → ((node a b : ℕ) → R node a b → P node a b) →
    IsLeastOf P found → IsLeastOf R found
reworded P R None to from p = λ node a b r. p node a b (from node a b r)
reworded P R (Some x) to from p = record { is_one = to x.node x.a x.b p.is_one; least = λ node a b r. p.least node a b (from node a b r) }

-- ---- Two locals

pub disjoint : (xs : Intervals) (given : List ℕ) (a b : ℕ) (i j : Option Interval) → slice_get xs a ≡ Some i → slice_get xs b ≡ Some j → AreDisjoint i j →
    (node x y : ℕ) → ClashBoth (locals_of xs given) a b node x y → ⊥
disjoint xs given a b i j at_a at_b h node x y c =
    h node (held_in xs a node i at_a (subst (λ (n : ℕ). Holds xs node n) c.first c.clash.first))
    (held_in xs b node j at_b (subst (λ (n : ℕ). Holds xs node n) c.second c.clash.second))

pub shared_first : (xs : Intervals) (given : List ℕ) (a b p q node : ℕ) (i j : Option Interval) → a < b → slice_get given a ≡ Some p →
    slice_get given b ≡ Some q → p ≡ q →
    slice_get xs a ≡ Some i → slice_get xs b ≡ Some j → IsFirstShared i j node →
    IsLeast (ClashBoth (locals_of xs given) a b) (record { node = node; a = a; b = b })
shared_first xs given a b p q node i j lt of_a of_b same at_a at_b s = record {
  is_one = record {
    first = refl;
    second = refl;
    clash = record {
      register = p;
      of_first = of_a;
      of_second = of_b ∙ ap (λ (x : ℕ). Some x) (sym same);
      different = lt;
      first = in_held xs a node i at_a s.in_one;
      second = in_held xs b node j at_b s.in_other;
    };
  };
  least = λ later x y c.
      (let le : node ≤ later = s.first later (held_in xs a later i at_a (subst (λ (n : ℕ). Holds xs later n) c.first c.clash.first))
      (held_in xs b later j at_b (subst (λ (n : ℕ). Holds xs later n) c.second c.clash.second)) in
      elim (cases_eq node later) [
        | inl e ↦ inr (e, inr (sym c.first, omega (arith, c.second)))
        | inr ne ↦ inl (omega (arith, le, ne))
      ]);
}

-- ---- A local and greater ones

-- the second one is less than that
pub record ClashOfBelow (xs : Intervals) (given : List ℕ) (local below node a b : ℕ) : Type 0 where
  pub is : ClashOf (locals_of xs given) local node a b
  pub less : b < below

pub one_below : (xs : Intervals) (given : List ℕ) (local b : ℕ) (found other z : Option Found) → IsLeastOf (ClashOfBelow xs given local b) found →
    IsLeastOf (ClashBoth (locals_of xs given) local b) other →
    IsLesser found other z → IsLeastOf (ClashOfBelow xs given local (b + 1)) z
one_below xs given local b found other z p q e =
    lesser (ClashOfBelow xs given local b) (ClashBoth (locals_of xs given) local b) (ClashOfBelow xs given local (b + 1))
    (λ node x y c. record { is = c.is; less = omega (arith, c.less) })
    (λ node x y c. record { is = record { own = c.first; clash = c.clash }; less = omega (arith, c.second) })
    (λ node x y c. elim (cases_eq y b) [
      | inl k ↦ inr (record { first = c.is.own; second = k; clash = c.is.clash })
      | inr ne ↦ inl (record { is = c.is; less = omega (arith, c.less, ne) })
    ])
    found other z p q e

pub all_below : (xs : Intervals) (given : List ℕ) (local b : ℕ) (found : Option Found) → length given ≤ b → IsLeastOf (ClashOfBelow xs given local b) found →
    IsLeastOf (ClashOf (locals_of xs given) local) found
all_below xs given local b found le = reworded (ClashOfBelow xs given local b) (ClashOf (locals_of xs given) local) found (λ node x y c. c.is)
    (λ node x y c. record {
      is = c;
      less = (let lt : y < length given = slice_get_within given y c.clash.register c.clash.of_second in omega (arith, lt, le));
    })

-- ---- All locals of a thread

-- the first one is less than that
pub record ClashUpTo (xs : Intervals) (given : List ℕ) (below node a b : ℕ) : Type 0 where
  pub is : ClashAt (locals_of xs given) node a b
  pub less : a < below

pub one_first : (xs : Intervals) (given : List ℕ) (local : ℕ) (found other z : Option Found) → IsLeastOf (ClashUpTo xs given local) found →
    IsLeastOf (ClashOf (locals_of xs given) local) other → IsLesser found other z →
    IsLeastOf (ClashUpTo xs given (local + 1)) z
one_first xs given local found other z p q e =
    lesser (ClashUpTo xs given local) (ClashOf (locals_of xs given) local) (ClashUpTo xs given (local + 1))
    (λ node x y c. record { is = c.is; less = omega (arith, c.less) })
    (λ node x y c. record { is = c.clash; less = omega (arith, c.own) })
    (λ node x y c. elim (cases_eq x local) [
      | inl k ↦ inr (record { own = k; clash = c.is })
      | inr ne ↦ inl (record { is = c.is; less = omega (arith, c.less, ne) })
    ])
    found other z p q e

pub all_first : (xs : Intervals) (given : List ℕ) (local : ℕ) (found : Option Found) → length given ≤ local → IsLeastOf (ClashUpTo xs given local) found →
    IsLeastOf (ClashAt (locals_of xs given)) found
all_first xs given local found le = reworded (ClashUpTo xs given local) (ClashAt (locals_of xs given)) found (λ node x y c. c.is)
    (λ node x y c. record {
      is = c;
      less = (let lt : x < length given = slice_get_within given x c.register c.of_first in omega (arith, lt, le));
    })

-- ---- All threads

-- a clash of one of the first threads
pub record ClashBelow (g : Graph) (colours : Colouring) (threads node a b : ℕ) : Type 0 where
  pub thread : ℕ
  pub below : thread < threads
  pub is : ClashIn g colours thread node a b

of_thread : (g : Graph) (colours : Colouring) (t : ℕ) (part : Part) (own : List ℕ) (xs : Intervals) → slice_get g.threads t ≡ Some part →
    slice_get colours t ≡ Some own → AreIntervals g part xs →
    (node a b : ℕ) → ClashAt (locals_of xs own) node a b → ClashIn g colours t node a b
of_thread g colours t part own xs at has is node a b c = record {
  part = part;
  given = own;
  register = c.register;
  own = at;
  of_thread = has;
  of_first = c.of_first;
  of_second = c.of_second;
  different = c.different;
  first = spans_from g part xs is node a c.first;
  second = spans_from g part xs is node b c.second;
}

to_thread : (g : Graph) (colours : Colouring) (t : ℕ) (part : Part) (own : List ℕ) (xs : Intervals) → slice_get g.threads t ≡ Some part →
    slice_get colours t ≡ Some own → AreIntervals g part xs →
    length xs ≡ length own → (node a b : ℕ) → ClashIn g colours t node a b → ClashAt (locals_of xs own) node a b
to_thread g colours t part own xs at has is long node a b c =
    let its : slice_get g.threads t ≡ Some c.part = c.own in
    let theirs : slice_get colours t ≡ Some c.given = c.of_thread in
    let one : c.part ≡ part = cc in
    let same : c.given ≡ own = cc in
    let p : slice_get own a ≡ Some c.register = subst (λ (l : List ℕ). slice_get l a ≡ Some c.register) same c.of_first in
    let q : slice_get own b ≡ Some c.register = subst (λ (l : List ℕ). slice_get l b ≡ Some c.register) same c.of_second in
    let la : a < length own = slice_get_within own a c.register p in
    let lb : b < length own = slice_get_within own b c.register q in
    record {
      register = c.register;
      of_first = p;
      of_second = q;
      different = c.different;
      first = held_from g part xs is node a (omega (arith, la, long)) (subst (λ (x : Part). Spans g x a node) one c.first);
      second = held_from g part xs is node b (omega (arith, lb, long)) (subst (λ (x : Part). Spans g x b node) one c.second);
    }

pub one_in : (g : Graph) (colours : Colouring) (t : ℕ) (part : Part) (own : List ℕ) (xs : Intervals) (found other z : Option Found) →
    slice_get g.threads t ≡ Some part → slice_get colours t ≡ Some own →
    AreIntervals g part xs → length xs ≡ length own → IsLeastOf (ClashBelow g colours t) found →
    IsLeastOf (ClashAt (locals_of xs own)) other → IsLesser found other z → IsLeastOf (ClashBelow g colours (t + 1)) z
one_in g colours t part own xs found other z at has is long p q e =
    lesser (ClashBelow g colours t) (ClashAt (locals_of xs own)) (ClashBelow g colours (t + 1))
    (λ node x y c. record { thread = c.thread; below = omega (arith, c.below); is = c.is })
    (λ node x y c. record { thread = t; below = omega arith; is = of_thread g colours t part own xs at has is node x y c })
    (λ node x y c. elim (cases_eq c.thread t) [
      | inl k ↦ inr (to_thread g colours t part own xs at has is long node x y (subst (λ (n : ℕ). ClashIn g colours n node x y) k c.is))
      | inr ne ↦ inl (record { thread = c.thread; below = omega (arith, c.below, ne); is = c.is })
    ])
    found other z p q e

-- a thread without registers has no clash
pub none_more : (g : Graph) (colours : Colouring) (t : ℕ) (found : Option Found) → slice_get colours t ≡ None → IsLeastOf (ClashBelow g colours t) found →
    IsLeastOf (ClashBelow g colours (t + 1)) found
none_more g colours t found none = reworded (ClashBelow g colours t) (ClashBelow g colours (t + 1)) found
    (λ node x y c. record { thread = c.thread; below = omega (arith, c.below); is = c.is })
    (λ node x y c. elim (cases_eq c.thread t) [
      | inl k ↦ absurd (let has : slice_get colours t ≡ Some c.is.given = subst (λ (n : ℕ). slice_get colours n ≡ Some c.is.given) k c.is.of_thread in cc)
      | inr ne ↦ record { thread = c.thread; below = omega (arith, c.below, ne); is = c.is }
    ])

among_all : (g : Graph) (colours : Colouring) (t node a b : ℕ) → length g.threads ≡ t → Clash g colours node a b → ClashBelow g colours t node a b
among_all g colours t node a b all c = record {
  thread = c.thread;
  below = (let lt : c.thread < length g.threads = slice_get_within g.threads c.thread c.part c.own in omega (arith, lt, all));
  is = record {
    part = c.part;
    given = c.registers;
    register = c.register;
    own = c.own;
    of_thread = c.of_thread;
    of_first = c.of_first;
    of_second = c.of_second;
    different = c.different;
    first = c.first;
    second = c.second;
  };
}

pub no_clash_at_all : (g : Graph) (colours : Colouring) (t : ℕ) → length g.threads ≡ t → IsLeastOf (ClashBelow g colours t) None → HasNoClash g colours
no_clash_at_all g colours t all none node a b c = none node a b (among_all g colours t node a b all c)

first_node : (x : Found) (node a b : ℕ) → IsUpTo x node a b → x.node ≤ node
first_node x node a b (inl p) = omega (arith, p)
first_node x node a b (inr p) = omega (arith, p.0)

first_local : (x : Found) (a b : ℕ) → ((x.a < a) ⊎ ((x.a ≡ a) × (x.b ≤ b))) → x.a ≤ a
first_local x a b (inl p) = omega (arith, p)
first_local x a b (inr p) = omega (arith, p.0)

least_local : (x : Found) (a b : ℕ) → IsUpTo x x.node a b → x.a ≤ a
least_local x a b (inl p) = absurd (omega (arith, p))
least_local x a b (inr p) = first_local x a b p.1

greater_local : (x : Found) (b : ℕ) → ((x.a < x.a) ⊎ ((x.a ≡ x.a) × (x.b ≤ b))) → x.b ≤ b
greater_local x b (inl p) = absurd (omega (arith, p))
greater_local x b (inr p) = p.1

second_local : (x : Found) (b : ℕ) → IsUpTo x x.node x.a b → x.b ≤ b
second_local x b (inl p) = absurd (omega (arith, p))
second_local x b (inr p) = greater_local x b p.1

pub first_clash : (g : Graph) (colours : Colouring) (t : ℕ) (x : Found) → length g.threads ≡ t → IsLeast (ClashBelow g colours t) x →
    IsFirstClash g colours x.node x.a x.b
first_clash g colours t x all l = record {
  is = (let c = l.is_one.is in record {
    thread = l.is_one.thread;
    part = c.part;
    own = c.own;
    registers = c.given;
    register = c.register;
    of_thread = c.of_thread;
    of_first = c.of_first;
    of_second = c.of_second;
    different = c.different;
    first = c.first;
    second = c.second;
  });
  first = λ other c d k. first_node x other c d (l.least other c d (among_all g colours t other c d all k));
  least = λ c d k. least_local x c d (l.least x.node c d (among_all g colours t x.node c d all k));
  second = λ d k. second_local x d (l.least x.node x.a d (among_all g colours t x.node x.a d all k));
}

-- ---- Registers as the code has them

pub registers_at : (vs : List (Vec ℕ Global)) (t : ℕ) (v : Vec ℕ Global) → t < length vs → v ≡ get_or vs t v →
    slice_get (map (λ (x : Vec ℕ Global). x.items) vs) t ≡ Some v.items
registers_at vs t v lt e =
    slice_get-map (λ (x : Vec ℕ Global). x.items) vs t ∙ ap (option_map (λ (x : Vec ℕ Global). x.items)) (slice_get_read vs (length vs) t v refl lt e)

pub no_registers : (vs : List (Vec ℕ Global)) (t : ℕ) → length vs ≤ t → slice_get (map (λ (x : Vec ℕ Global). x.items) vs) t ≡ None
no_registers vs t le =
    slice_get_past (map (λ (x : Vec ℕ Global). x.items) vs) t (omega (arith, le, length-map vs (λ (x : Vec ℕ Global). x.items)))

-- Of a well formed flat form whose price isn't too high, the sets that are held are a table of its graph.
use Rattle.std.proofs.Common.{◌≡◌, ℕ, zero, suc, ◌+◌, ◌*◌, ◌≤◌, Bool, false, List, [], ◌∷◌, length, Option, Some, None, refl, ap, subst}
use Rattle.std.proofs.Common.{arith, length-append}
use Rattle.std.specs.Prelude.{slice_get, nat_lt, find}
use Rattle.std.specs.Option.{option_map}
use Rattle.std.proofs.lemmas.Option.{slice_get_within}
use Rattle.ido_base.specs.declared.limits.TheConstants.{MOST_PRICE}
use Rattle.c_tree.specs.Exprs as e
use Rattle.c_tree.specs.Flats as f
use Rattle.c_tree.specs.Prices.{assign_price, statement_price, statements_price, arms_price, thread_price}
use Rattle.c_tree.specs.HoldPrices.{full_price, price_fault}
use Rattle.c_tree.specs.declared.language.Language.{Language}
use Rattle.c_tree.specs.declared.language.Language.TheVariants.{Plain, Full}
use Rattle.flow_graph.specs.declared.graph.Part.{Part}
use Rattle.flow_graph.specs.Nodes.{Node}
use Rattle.flow_graph.specs.Lowering.{lowered, table_of, assign_count, count, statements_count, arms_count, thread_count, thread_nodes, threads_nodes}
use Rattle.flow_graph.specs.Lowering.{part, parts}
use Rattle.flow_graph.proofs.Public.{found_in, length-thread_nodes, lowered_nodes, lowered_threads}
use Rattle.region_cutter.specs.EachWrite.{HeldSetsAreOfThreads}
use Rattle.region_cutter.proofs.LocksAtStores.{none_either, sets_long}

-- ---- Prices: a node costs 96 words at least

many_assign : (target : e.Lvalue) (value : ℕ) → 96 * assign_count target ≤ assign_price target value
many_assign (e.ToLocal place local kind) value = omega arith
many_assign (e.ToVariable place variable kind) value = omega arith
many_assign (e.ToElement place variable kind index) value = omega arith

mutual
  many : (y : f.Statement) → 96 * count y ≤ statement_price y
  many (f.Assign place target value) = many_assign target _
  many (f.If place arms otherwise) = omega (arith, many_arms arms, many_all otherwise)
  many (f.While place condition body) = omega (arith, many_all body)
  many (f.Do place body condition) = omega (arith, many_all body)
  many (f.Lock place name) = omega arith
  many (f.Unlock place name) = omega arith

  many_all : (ys : f.Statements) → 96 * statements_count ys ≤ statements_price ys
  many_all f.no_statement = omega arith
  many_all (f.statement_and y rest) = omega (arith, many y, many_all rest)

  many_arms : (arms : f.Arms) → 96 * arms_count arms ≤ arms_price arms
  many_arms f.no_arm = omega arith
  many_arms (f.arm_and condition body rest) = omega (arith, many_all body, many_arms rest)

many_nodes : (t : f.Thread) → 96 * thread_count t ≤ thread_price t
many_nodes t = omega (arith, many_all t.body)

no_less : (l : Language) (x : f.Flat) (t : f.Thread) → thread_price t ≤ full_price l x t
no_less Plain x t = omega arith
no_less Full x t = omega arith

none_mapped : {X Y : Type 0} (g : X → Y) (o : Option X) → option_map g o ≡ None → o ≡ None
none_mapped g None h = refl
none_mapped g (Some x) h = absurd (cc)

none_found : {X : Type 0} (test : X → Bool) (xs : List X) (k : ℕ) (x : X) → find test xs ≡ None → slice_get xs k ≡ Some x → test x ≡ false
none_found test [] k x none at = absurd (cc)
none_found test (y ∷ xs) zero x none at =
    let same : y ≡ x = cc in subst (λ z. test z ≡ false) same (none_either (test y) y (find test xs) none).0
none_found test (y ∷ xs) (suc k) x none at = none_found test xs k x (none_either (test y) y (find test xs) none).1 at

not_above : (n m : ℕ) → nat_lt n m ≡ false → m ≤ n
not_above n m h = grind arith

cheap : (l : Language) (x : f.Flat) (k : ℕ) (t : f.Thread) → price_fault l x ≡ None → slice_get x.threads k ≡ Some t → full_price l x t ≤ MOST_PRICE
unfolding price_fault
cheap l x k t none at =
    not_above MOST_PRICE (full_price l x t)
    (none_found (λ (u : f.Thread). nat_lt MOST_PRICE (full_price l x u)) x.threads k t
    (none_mapped (λ (u : f.Thread). u.name.place) (find (λ (u : f.Thread). nat_lt MOST_PRICE (full_price l x u)) x.threads) none) at)

-- ---- Parts of the graph

module _ (x : f.Flat) where
  record IsPartOf (ts : List f.Thread) (first n : ℕ) (p : Part) : Type 0 where
    pub t : f.Thread
    pub is : slice_get ts n ≡ Some t
    pub end : p.end ≡ p.first + thread_count t
    pub within : p.end ≤ first + length (threads_nodes x ts first)

  part_of : (ts : List f.Thread) (first n : ℕ) (p : Part) → slice_get (parts ts first) n ≡ Some p → IsPartOf ts first n p
  part_of [] first n p at = absurd (cc)
  part_of (t ∷ ts) first zero p at =
      let same : part t first ≡ p = cc in
      let begin = ap (λ (q : Part). q.first) same in
      let past = ap (λ (q : Part). q.end) same in
      let both = length-append (thread_nodes (table_of x t) t first) (threads_nodes x ts (first + thread_count t)) in
      record {
        t = t;
        is = refl;
        end = omega (arith, begin, past);
        within = omega (arith, past, both, length-thread_nodes (table_of x t) t first);
      }
  part_of (t ∷ ts) first (suc n) p at =
      let k = part_of ts (first + thread_count t) n p at in
      let both = length-append (thread_nodes (table_of x t) t first) (threads_nodes x ts (first + thread_count t)) in
      record {
        t = k.t;
        is = k.is;
        end = k.end;
        within = omega (arith, k.within, both, length-thread_nodes (table_of x t) t first);
      }

  parts_long : (ts : List f.Thread) (first : ℕ) → length (parts ts first) ≡ length ts
  parts_long [] first = refl
  parts_long (t ∷ ts) first = ap suc (parts_long ts (first + thread_count t))

-- ---- Of the whole graph

pub sets_of_threads : HeldSetsAreOfThreads
sets_of_threads l x table formed priced are =
    let its = λ (n : ℕ) (p : Part) (own : slice_get (lowered x).threads n ≡ Some p).
    part_of x x.threads 0 n p (subst (λ (ps : List Part). slice_get ps n ≡ Some p) (lowered_threads x) own) in
    record {
      sets = λ n p own.
          let k = its n p own in
          let row = found_in table n (omega (arith, slice_get_within x.threads n k.t k.is, are.each_thread)) in
          let long = sets_long x k.t row.0 (are.sets n k.t row.0 k.is row.1) in
          let low = cheap l x n k.t priced k.is in
          record {
            sets = row.0;
            row = row.1;
            each = omega (arith, k.end, long);
            few = omega (arith, long, low, no_less l x k.t, many_nodes k.t);
          };
      within = λ n p own. let k = its n p own in omega (arith, k.within, ap (λ (ns : List Node). length ns) (lowered_nodes x));
      few = omega (arith, formed.shared.threads, parts_long x x.threads 0, ap (λ (ps : List Part). length ps) (lowered_threads x));
    }

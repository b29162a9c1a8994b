-- A thread's resumes are those of its code.
use Rattle.std.proofs.Common.{◌≡◌, refl, ℕ, zero, suc, ◌+◌, ◌*◌, ◌<◌, List, [], ◌∷◌, ◌++◌, length, map, take, ◌∙◌, ap, sym, subst, arith, Some, Vec}
use Rattle.std.specs.Prelude.{slice_get, slice_index_or, Contains}
use Rattle.std.specs.Option.{option_map}
use Rattle.std.proofs.lemmas.List.{length-map}
use Rattle.std.proofs.lemmas.Option.{same_Some, slice_get_within, slice_get-map}
use Rattle.ido_ints.specs.declared.kinds.Kind.{Kind}
use Rattle.c_tree.specs.Flats as f
use Rattle.flow_graph.specs.declared.graph.Part.{Part}
use Rattle.flow_graph.proofs.Public.{found_in}
use Rattle.flow_graph.specs.Lowering.{parts, thread_count}
use Rattle.std.proofs.Common.{◌⊎◌, inl, inr, ⊎_elim, get_or}
use Rattle.std.specs.Global.{Global}
use Rattle.std.proofs.lemmas.Bool.{cases_lt}
use Rattle.std.proofs.lemmas.List.{take_more, length-append}
use Rattle.rv64_isa.specs.declared.object.ThreadMarks.{ThreadMarks}
use Rattle.recovered_threads.specs.RecordDescriptions.{Codes}
use Rattle.rv64_codegen.proofs.Public.{threads_are, read_get}
use Rattle.flat_compile.specs.ResumePlaces.{AreMarksOf, resumes_at}
use Rattle.flat_compile.specs.links.ResumePlacesByNode.{AreTabled}
use Rattle.code_runs.specs.CodeTraces.{Program}
use Rattle.thread_code.specs.Plans.{Plan, IsPlan, Thread, IsThread, IsNodeOf, home_of_colour}
use Rattle.thread_code.specs.Programs.{IsThreadCode}
use Rattle.flat_compile.specs.declared.resumes.Resume.{Resume}
use Rattle.flat_compile.specs.declared.resumes.Stand.{Stand}
use Rattle.flow_graph.specs.IdempotentCuts.{IsChosen}
use Rattle.flat_compile.specs.ResumePlaces.{Spot, Before, After, goes_on_at, place_at, place_in, address_in, IsFound, AreResumes}
use Rattle.flat_compile.specs.links.ResumePlacesByNode.{thread_in, stand_in, stand_of, IsOwn, AreStandsBelow, AreFoundAt}
use Rattle.flat_compile.proofs.ResumeAddresses.{order, goes_on_own, head, tail}
use Rattle.flat_compile.proofs.SpotsApart.{spots_apart}
use Rattle.expr_code.specs.declared.home.Home.{Home}

contained : {X : Type 0} (xs : List X) (k : ℕ) (x : X) → slice_get xs k ≡ Some x → Contains xs x
contained [] k x g = cc
contained (y ∷ xs) zero x g = let same : y ≡ x = cc in subst (λ z. Contains (y ∷ xs) z) same (head y xs)
contained (y ∷ xs) (suc k) x g = tail y xs x (contained xs k x g)

-- two lists that are mapped to one, at a number
both_at : {X Y Z : Type 0} (f : X → Z) (g : Y → Z) (xs : List X) (ys : List Y) → map f xs ≡ map g ys → (k : ℕ) (x : X) (y : Y) →
    slice_get xs k ≡ Some x → slice_get ys k ≡ Some y → f x ≡ g y
both_at f g xs ys same k x y a b =
    same_Some (f x) (g y) (sym (slice_get-map f xs k ∙ ap (option_map f) a) ∙ ap (λ zs. slice_get zs k) same
    ∙ slice_get-map g ys k ∙ ap (option_map g) b)

-- ---- The thread of a number

locals_of : f.Thread → List Kind
locals_of t = t.locals

kinds_at : (ts : List f.Thread) (n : ℕ) (text : f.Thread) → slice_get ts n ≡ Some text →
    slice_index_or (map (λ (t : f.Thread). t.locals) ts) n [] ≡ text.locals
kinds_at [] n text g = cc
kinds_at (t ∷ ts) zero text g = let same : t ≡ text = cc in ap (λ (x : f.Thread). x.locals) same
kinds_at (t ∷ ts) (suc n) text g = kinds_at ts n text g

list_at : (xs : List (List ℕ)) (n : ℕ) (x : List ℕ) → slice_get xs n ≡ Some x → slice_index_or xs n [] ≡ x
list_at [] n x g = cc
list_at (y ∷ xs) zero x g = let same : y ≡ x = cc in same
list_at (y ∷ xs) (suc n) x g = list_at xs n x g

pub own_thread : (p : Plan) → IsPlan p → (n : ℕ) (part : Part) → slice_get p.graph.threads n ≡ Some part → n < length p.flat.threads → IsOwn p n part
own_thread p plan n part g below =
    let text = found_in p.flat.threads n below in
    let short = slice_get_within p.graph.threads n part g in
    let colours = found_in p.colours n (omega (arith, short, plan.registers.threads)) in
    record {
      plan = plan;
      thread = record {
        nodes = g;
        text = text.0;
        of_text = text.1;
        kinds = kinds_at p.flat.threads n text.0 text.1;
        colours = colours.0;
        of_colours = colours.1;
        locals = ap (λ (cs : List ℕ). map (home_of_colour p.log n) cs) (list_at p.colours n colours.0 colours.1);
      };
    }

abbrev made : (number : ℕ) → Part → List Kind → List Home → Thread
made number part kinds locals = record { number = number; part = part; kinds = kinds; locals = locals }

pub same_thread : (p : Plan) (t : Thread) → IsThread p t → (part : Part) → slice_get p.graph.threads t.number ≡ Some part → thread_in p t.number part ≡ t
same_thread p t th part g =
    let k : slice_index_or (map (λ (x : f.Thread). x.locals) p.flat.threads) t.number [] ≡ t.kinds =
    kinds_at p.flat.threads t.number th.text th.of_text ∙ sym th.kinds in
    let h : map (home_of_colour p.log t.number) (slice_index_or p.colours t.number []) ≡ t.locals =
    ap (λ (cs : List ℕ). map (home_of_colour p.log t.number) cs) (list_at p.colours t.number th.colours th.of_colours) ∙ sym th.locals in
    let q : part ≡ t.part = same_Some part t.part (sym g ∙ th.nodes) in
    ap (λ (x : Part). made t.number x (slice_index_or (map (λ (x : f.Thread). x.locals) p.flat.threads) t.number [])
    (map (home_of_colour p.log t.number) (slice_index_or p.colours t.number []))) q
    ∙ ap (λ (x : List Kind). made t.number t.part x (map (home_of_colour p.log t.number) (slice_index_or p.colours t.number []))) k
    ∙ ap (λ (x : List Home). made t.number t.part t.kinds x) h

-- ---- Its resumes

stand_node : (s : Spot) → (stand_in s).node ≡ goes_on_at s
stand_node (Before node) = refl
stand_node (After node next) = refl

stand_place : (s : Spot) → place_at (stand_in s).at_core ≡ place_in s
stand_place (Before node) = refl
stand_place (After node next) = refl

module _ (p : Plan) (plan : IsPlan p) (t : Thread) (th : IsThread p t) where
  pub stands_own : (stands : List Stand) (bound : ℕ) → AreStandsBelow p t bound stands → (k : ℕ) (stand : Stand) → slice_get stands k ≡ Some stand →
      IsNodeOf t stand.node
  stands_own stands bound h k stand g =
      let mapped : slice_get (map stand_in h.spots) k ≡ Some stand = ap (λ (ns : List Stand). slice_get ns k) h.goes_on ∙ g in
      let below = slice_get_within (map stand_in h.spots) k stand mapped in
      let s = found_in h.spots k (omega (arith, below, length-map h.spots stand_in)) in
      let same = same_Some (stand_in s.0) stand (sym (slice_get-map stand_in h.spots k ∙ ap (option_map stand_in) s.1) ∙ mapped) in
      subst (λ (n : ℕ). IsNodeOf t n) (sym (stand_node s.0) ∙ ap (λ (z : Stand). z.node) same)
      (goes_on_own p t plan th s.0 (h.are.each s.0 (contained h.spots k s.0 s.1)).0)

  module _ (program : Program) (code : IsThreadCode p t program)
      (spaced : (node : ℕ) → IsNodeOf t node → IsChosen p.graph p.boundaries node → code.places.entry node < code.places.core node)
      (stands : List Stand) (h : AreStandsBelow p t (2 * t.part.end) stands) where
    pub as_many : length stands ≡ length program.resumes
    as_many =
        ap (λ (ns : List Stand). length ns) (sym h.goes_on) ∙ length-map h.spots stand_in ∙ sym (length-map h.spots (address_in code.places))
        ∙ ap (λ (ns : List ℕ). length ns) (order p plan t th program code spaced h.spots h.are)

    pub resumes_are : (rs : List Resume) → AreFoundAt p t stands program.resumes rs → AreResumes p t program code rs
    resumes_are rs found = record {
      addresses = found.addresses_are;
      apart = spots_apart p t plan th program code spaced;
      each = λ k r g.
          let short = slice_get_within rs k r g in
          let many = ap (λ (ns : List Stand). length ns) (h.goes_on ∙ sym found.stands_are) in
          let s = found_in h.spots k (omega (arith, short, many, length-map h.spots stand_in, length-map rs stand_of)) in
          let stand : stand_in s.0 ≡ stand_of r = both_at stand_in stand_of h.spots rs (h.goes_on ∙ sym found.stands_are) k s.0 r s.1 g in
          record {
            spot = s.0;
            is = (h.are.each s.0 (contained h.spots k s.0 s.1)).0;
            at = both_at (address_in code.places) (λ (x : Resume). x.address) h.spots rs
                (order p plan t th program code spaced h.spots h.are ∙ sym found.addresses_are) k s.0 r s.1 g;
            goes_on = sym (stand_node s.0) ∙ ap (λ (z : Stand). z.node) stand;
            stands = sym (stand_place s.0) ∙ ap (λ (z : Stand). place_at z.at_core) stand;
            found = found.each k r g;
          };
    }

  -- by the thread of its number
  module _ (part : Part) (g : slice_get p.graph.threads t.number ≡ Some part) (program : Program) (code : IsThreadCode p t program)
      (spaced : (node : ℕ) → IsNodeOf t node → IsChosen p.graph p.boundaries node → code.places.entry node < code.places.core node)
      (stands : List Stand) (h : AreStandsBelow p (thread_in p t.number part) (2 * part.end) stands) where
    below_end : AreStandsBelow p t (2 * t.part.end) stands
    below_end =
        let end : part.end ≡ t.part.end = ap (λ (x : Part). x.end) (same_Some part t.part (sym g ∙ th.nodes)) in
        subst (λ (n : ℕ). AreStandsBelow p t (2 * n) stands) end
        (subst (λ (x : Thread). AreStandsBelow p x (2 * part.end) stands) (same_thread p t th part g) h)

    pub resumes_in : (rs : List Resume) → AreFoundAt p (thread_in p t.number part) stands program.resumes rs → AreResumes p t program code rs
    resumes_in rs found =
        resumes_are program code spaced stands below_end rs
        (subst (λ (x : Thread). AreFoundAt p x stands program.resumes rs) (same_thread p t th part g) found)

    pub many_in : length stands ≡ length program.resumes
    many_in = as_many program code spaced stands below_end

-- ---- One more

map_push : {X Y : Type 0} (f : X → Y) (xs : List X) (x : X) → map f (xs ++ x ∷ []) ≡ map f xs ++ f x ∷ []
map_push f [] x = refl
map_push f (y ∷ xs) x = ap (λ ns. f y ∷ ns) (map_push f xs x)

push_cases : {X : Type 0} (xs : List X) (y : X) (k : ℕ) (z : X) → slice_get (xs ++ y ∷ []) k ≡ Some z → (slice_get xs k ≡ Some z) ⊎ (y ≡ z)
push_cases [] y zero z g = inr (let same : y ≡ z = cc in same)
push_cases [] y (suc k) z g = cc
push_cases (x ∷ xs) y zero z g = inl g
push_cases (x ∷ xs) y (suc k) z g = push_cases xs y k z g

pub found_more : (p : Plan) (t : Thread) (stands : List Stand) (addresses : List ℕ) (k : ℕ) (d : Stand) (e : ℕ) (rs : List Resume) (r : Resume) →
    k < length stands → k < length addresses → stand_of r ≡ get_or stands k d → r.address ≡ get_or addresses k e → IsFound p t r →
    AreFoundAt p t (take k stands) (take k addresses) rs → AreFoundAt p t (take (k + 1) stands) (take (k + 1) addresses) (rs ++ r ∷ [])
found_more p t stands addresses k d e rs r short few stand address found h = record {
  stands_are = map_push stand_of rs r ∙ ap (λ (ns : List Stand). ns ++ stand_of r ∷ []) h.stands_are
      ∙ ap (λ (n : Stand). take k stands ++ n ∷ []) stand ∙ sym (take_more stands k d short);
  addresses_are = map_push (λ (x : Resume). x.address) rs r ∙ ap (λ (ns : List ℕ). ns ++ r.address ∷ []) h.addresses_are
      ∙ ap (λ (n : ℕ). take k addresses ++ n ∷ []) address ∙ sym (take_more addresses k e few);
  each = λ j z g. ⊎_elim (λ l. h.each j z l) (λ same. subst (λ (x : Resume). IsFound p t x) same found) (push_cases rs r j z g);
}

pub marks_at : (ms : List ThreadMarks) (n : ℕ) (m : ThreadMarks) → slice_get ms n ≡ Some m →
    slice_index_or (map (λ (x : ThreadMarks). x.resumes.items) ms) n [] ≡ m.resumes.items
marks_at [] n m g = cc
marks_at (x ∷ ms) zero m g = let same : x ≡ m = cc in ap (λ (y : ThreadMarks). y.resumes.items) same
marks_at (x ∷ ms) (suc n) m g = marks_at ms n m g

parts_count : (ts : List f.Thread) (first : ℕ) → length (parts ts first) ≡ length ts
parts_count [] first = refl
parts_count (t ∷ ts) first = ap suc (parts_count ts (first + thread_count t))

pub as_many_threads : (p : Plan) → IsPlan p → length p.graph.threads ≡ length p.flat.threads
as_many_threads p plan = ap (λ (ps : List Part). length ps) (threads_are p plan) ∙ parts_count p.flat.threads 0

before_push : (table : List (Vec Resume Global)) (rs : Vec Resume Global) (n : ℕ) → n < length table → resumes_at (table ++ rs ∷ []) n ≡ resumes_at table n
before_push [] rs n l = absurd (omega (arith, l))
before_push (x ∷ table) rs zero l = refl
before_push (x ∷ table) rs (suc n) l = before_push table rs n (omega (arith, l))

at_push : (table : List (Vec Resume Global)) (rs : Vec Resume Global) → resumes_at (table ++ rs ∷ []) (length table) ≡ rs.items
at_push [] rs = refl
at_push (x ∷ table) rs = at_push table rs

pub tabled_more : (p : Plan) (marks : List (List ℕ)) (count : ℕ) (table : List (Vec Resume Global)) (rs : Vec Resume Global) → AreTabled p marks count table →
    ((codes : Codes p) → AreMarksOf p codes marks → (below : count < length p.graph.threads) →
    AreResumes p (codes.each count below).thread (codes.each count below).program (codes.each count below).is rs.items) →
    AreTabled p marks (count + 1) (table ++ rs ∷ [])
tabled_more p marks count table rs h last = record {
  long = length-append table (rs ∷ []) ∙ ap (λ (n : ℕ). n + 1) h.long;
  each = λ codes are n below l. ⊎_elim
      (λ less. subst (λ (xs : List Resume). AreResumes p (codes.each n below).thread (codes.each n below).program (codes.each n below).is xs)
      (sym (before_push table rs n (omega (arith, less, h.long)))) (h.each codes are n below less))
      (λ g.
      let same : count ≡ n = omega (arith, g, l) in
      let here : rs.items ≡ resumes_at (table ++ rs ∷ []) count = sym (ap (resumes_at (table ++ rs ∷ [])) (sym h.long) ∙ at_push table rs) in
      last_at codes n same below (λ b.
      subst (λ (xs : List Resume). AreResumes p (codes.each count b).thread (codes.each count b).program (codes.each count b).is xs)
      here (last codes are b)))
      (cases_lt n count);
}
  where
    last_at : (codes : Codes p) (n : ℕ) → count ≡ n → (below : n < length p.graph.threads) → ((b : count < length p.graph.threads) →
        AreResumes p (codes.each count b).thread (codes.each count b).program (codes.each count b).is (resumes_at (table ++ rs ∷ []) count)) →
        AreResumes p (codes.each n below).thread (codes.each n below).program (codes.each n below).is (resumes_at (table ++ rs ∷ []) n)
    last_at codes n same below h = subst (λ (m : ℕ). (b : m < length p.graph.threads) →
        AreResumes p (codes.each m b).thread (codes.each m b).program (codes.each m b).is (resumes_at (table ++ rs ∷ []) m)) same h below

-- ---- By the code of the threads

pub addresses_at : (ms : List ThreadMarks) (n : ℕ) (m : ThreadMarks) → n < length ms → m ≡ get_or ms n m →
    slice_index_or (map (λ (x : ThreadMarks). x.resumes.items) ms) n [] ≡ m.resumes.items
addresses_at ms n m below e = marks_at ms n m (read_get ms n m below e)

module _ {p : Plan} (plan : IsPlan p) {codes : Codes p} {marks : List (List ℕ)} (are : AreMarksOf p codes marks) (n : ℕ) (below : n < length p.graph.threads)
    {part : Part} (g : slice_get p.graph.threads n ≡ Some part) {stands : List Stand} (h : AreStandsBelow p (thread_in p n part) (2 * part.end) stands) where
  number : n ≡ (codes.each n below).thread.number
  number = sym (codes.number n below)

  part_there : slice_get p.graph.threads (codes.each n below).thread.number ≡ Some part
  part_there = subst (λ (m : ℕ). slice_get p.graph.threads m ≡ Some part) number g

  stands_there : AreStandsBelow p (thread_in p (codes.each n below).thread.number part) (2 * part.end) stands
  stands_there = subst (λ (m : ℕ). AreStandsBelow p (thread_in p m part) (2 * part.end) stands) number h

  pub many_coded : length stands ≡ length (slice_index_or marks n [])
  many_coded =
      let code = codes.each n below in
      many_in p plan code.thread code.of part part_there code.program code.is (are.spaced n below) stands stands_there
      ∙ ap (λ (ns : List ℕ). length ns) (are.each n below)

  pub resumes_coded : (rs : List Resume) → AreFoundAt p (thread_in p n part) stands (slice_index_or marks n []) rs →
      AreResumes p (codes.each n below).thread (codes.each n below).program (codes.each n below).is rs
  resumes_coded rs found =
      let code = codes.each n below in
      resumes_in p plan code.thread code.of part part_there code.program code.is (are.spaced n below) stands stands_there rs
      (subst (λ (ads : List ℕ). AreFoundAt p (thread_in p code.thread.number part) stands ads rs) (sym (are.each n below))
      (subst (λ (m : ℕ). AreFoundAt p (thread_in p m part) stands (slice_index_or marks n []) rs) number found))

-- Where a thread's locals and the variables are.
use Rattle.std.proofs.Common.{◌≡◌, ◌⊎◌, inl, inr, ⊎_elim, refl, ℕ, zero, suc, ◌<◌, List, [], ◌∷◌, ◌++◌, length, ◌∙◌, ap, ap₂, sym, arith, Option, Some, Bool}
use Rattle.std.proofs.Common.{true, false, ◌&&◌}
use Rattle.std.specs.Prelude.{slice_get, slice_index, slice_index_or, map, Contains}
use Rattle.std.specs.List.{list_all}
use Rattle.std.proofs.lemmas.Bool.{cases_lt}
use Rattle.std.proofs.lemmas.List.{length-map, length-append}
use Rattle.ido_base.specs.Layout.{variable_at}
use Rattle.ido_ints.specs.declared.kinds.Kind.{Kind}
use Rattle.c_tree.specs.Flats as f
use Rattle.c_tree.specs.LockDiscipline.{numbers_below}
use Rattle.c_tree.specs.Programs as p
use Rattle.c_tree.specs.WellFormed.{shape_of}
use Rattle.memory_layout.specs.declared.roles.TheConstants.{LOCALS}
use Rattle.memory_layout.specs.Roles.{is_local}
use Rattle.flow_graph.specs.declared.graph.Part.{Part}
use Rattle.memory_layout.specs.Variables.{AreAddresses}
use Rattle.thread_code.specs.Plans.{Plan, Thread, IsPlan, IsThread, homes, home_of_colour}
use Rattle.rv64_codegen.specs.Locals.{HasHomes}
use Rattle.rv64_codegen.specs.links.Threads.{thread_at, kinds_in}
use Rattle.log_schemes.specs.declared.log.Log.{Log}
use Rattle.log_schemes.specs.Schemes.{locals_of}
use Rattle.rv64_codegen.proofs.LocalRegisters.{home_stands}
use Rattle.rv64_codegen.proofs.PlannedNodes.{locals_are, thread_below}
use Rattle.expr_code.specs.declared.home.Home.{Home}
use Rattle.expr_code.specs.EvaluationCode.{home_of, is_home}

-- ---- Lists

pub all_index : (test : ℕ → Bool) (xs : List ℕ) (k : ℕ) → list_all test xs ≡ true → k < length xs → test (slice_index xs k) ≡ true
all_index test [] k h l = absurd (omega (arith, l))
all_index test (x ∷ xs) zero h l = (both (test x) (list_all test xs) h).0
  where
    both : (a b : Bool) → (a && b) ≡ true → (a ≡ true) × (b ≡ true)
    both true true h = (refl, refl)
    both true false h = cc
    both false b h = cc
all_index test (x ∷ xs) (suc k) h l = all_index test xs k (second (test x) (list_all test xs) h) (omega (arith, l))
  where
    second : (a b : Bool) → (a && b) ≡ true → b ≡ true
    second true b h = h
    second false b h = cc

pub length-numbers : (n : ℕ) → length (numbers_below n) ≡ n
length-numbers zero = refl
length-numbers (suc n) = omega (arith, length-append (numbers_below n) (n ∷ []), length-numbers n)

same_or_less : (k n : ℕ) → k < suc n → (k ≡ n) ⊎ (k < n)
same_or_less k n h = ⊎_elim (λ l. inr l) (λ l. inl (omega (arith, h, l))) (cases_lt k n)

get_last : (xs : List ℕ) (x : ℕ) → slice_index (xs ++ x ∷ []) (length xs) ≡ x
get_last [] x = refl
get_last (y ∷ xs) x = get_last xs x

get_before : (xs ys : List ℕ) (k : ℕ) → k < length xs → slice_index (xs ++ ys) k ≡ slice_index xs k
get_before [] ys k h = absurd (omega (arith, h))
get_before (y ∷ xs) ys zero h = refl
get_before (y ∷ xs) ys (suc k) h = get_before xs ys k (omega (arith, h))

map_last : (g : ℕ → ℕ) (xs : List ℕ) (x : ℕ) → map g (xs ++ x ∷ []) ≡ map g xs ++ g x ∷ []
map_last g [] x = refl
map_last g (y ∷ xs) x = ap (λ (zs : List ℕ). g y ∷ zs) (map_last g xs x)

numbers_long : (g : ℕ → ℕ) (n : ℕ) → length (map g (numbers_below n)) ≡ n
numbers_long g n = length-map (numbers_below n) g ∙ length-numbers n

-- a list of so many, each by its number
map_numbers : (g : ℕ → ℕ) (n k : ℕ) → k < n → slice_index (map g (numbers_below n)) k ≡ g k
map_numbers g zero k h = absurd (omega (arith, h))
map_numbers g (suc n) k h = ap (λ (zs : List ℕ). slice_index zs k) (map_last g (numbers_below n) n) ∙ ⊎_elim
    (λ e. ap (slice_index (map g (numbers_below n) ++ g n ∷ [])) (e ∙ sym (numbers_long g n)) ∙ get_last (map g (numbers_below n)) (g n) ∙ ap g (sym e))
    (λ l. get_before (map g (numbers_below n)) (g n ∷ []) k (omega (arith, l, numbers_long g n)) ∙ map_numbers g n k l)
    (same_or_less k n h)

same_lists : (xs ys : List ℕ) → length xs ≡ length ys → ((k : ℕ) → k < length xs → slice_index xs k ≡ slice_index ys k) → xs ≡ ys
same_lists [] [] e h = refl
same_lists [] (y ∷ ys) e h = absurd (omega (arith, e))
same_lists (x ∷ xs) [] e h = absurd (omega (arith, e))
same_lists (x ∷ xs) (y ∷ ys) e h =
    ap₂ (λ (z : ℕ) (zs : List ℕ). z ∷ zs) (h 0 (omega arith)) (same_lists xs ys (omega (arith, e)) (λ k l. h (suc k) (omega (arith, l))))

-- ---- Addresses

pub addresses_are : (vs : List p.Variable) (addresses : List ℕ) → AreAddresses (map shape_of vs) addresses →
    addresses ≡ map (λ (v : ℕ). variable_at (map shape_of vs) v 0) (numbers_below (length vs))
addresses_are vs addresses are =
    let g : ℕ → ℕ = λ v. variable_at (map shape_of vs) v 0 in
    let long : length (map g (numbers_below (length vs))) ≡ length vs = length-map (numbers_below (length vs)) g ∙ length-numbers (length vs) in
    let count : length addresses ≡ length vs = are.count ∙ length-map vs shape_of in
    same_lists addresses (map g (numbers_below (length vs))) (count ∙ sym long)
    (λ k l. are.each k (omega (arith, l, are.count)) ∙ sym (map_numbers g (length vs) k (omega (arith, l, count))))

-- ---- Homes of locals

pub local_number : (colour : ℕ) → colour < 18 → is_local (slice_index LOCALS colour) ≡ true
local_number colour h = all_index is_local LOCALS colour refl h

locals_stand : (log : Log) (thread : ℕ) → thread < 8 → (colours : List ℕ) (local : ℕ) → ((colour : ℕ) → Contains colours colour → colour < 18) →
    local < length colours → is_home (home_of (map (home_of_colour log thread) colours) local) ≡ true
locals_stand log thread few [] local each h = absurd (omega (arith, h))
locals_stand log thread few (c ∷ cs) zero each h = home_stands (locals_of log) log thread c (each c (0, omega arith, refl)) few
locals_stand log thread few (c ∷ cs) (suc local) each h =
    locals_stand log thread few cs local (λ colour among. each colour (suc among.0, omega (arith, among.1), among.2)) (omega (arith, h))

module _ (p : Plan) (plan : IsPlan p) (t : Thread) (th : IsThread p t) where
  pub colours_long : length th.colours ≡ length th.text.locals
  colours_long = plan.registers.locals t.number t.part th.colours th.nodes th.of_colours ∙ locals_are p plan t th

  pub homes_long : length t.locals ≡ length th.text.locals
  homes_long = ap (λ (hs : List Home). length hs) th.locals ∙ length-map th.colours (home_of_colour p.log t.number) ∙ colours_long

  pub has_homes : HasHomes p.flat.variables th.text.locals (homes p t)
  has_homes = record {
    variables = length-map (numbers_below (length p.flat.variables)) (λ (v : ℕ). variable_at (map shape_of p.flat.variables) v 0)
        ∙ length-numbers (length p.flat.variables);
    locals = homes_long;
    home = λ local h. ap (λ (hs : List Home). is_home (home_of hs local)) th.locals
        ∙ locals_stand p.log t.number (thread_below p plan t th) th.colours local (λ colour among. plan.registers.exist t.number colour th.colours
        th.of_colours among)
        (omega (arith, h, colours_long));
  }

-- ---- One thread of a number

pub same_some : {X : Type 0} (o : Option X) (x y : X) → o ≡ Some x → o ≡ Some y → x ≡ y
same_some o x y a b = let both : Some x ≡ Some y = sym a ∙ b in cc

pub kinds_there : (ts : List f.Thread) (k : ℕ) (text : f.Thread) → slice_get ts k ≡ Some text →
    slice_index_or (map (λ (t : f.Thread). t.locals) ts) k [] ≡ text.locals
kinds_there [] k text g = cc
kinds_there (u ∷ us) zero text g = let same : u ≡ text = cc in ap (λ (t : f.Thread). t.locals) same
kinds_there (u ∷ us) (suc k) text g = kinds_there us k text g

abbrev made : ℕ → Part → List Kind → List Home → Thread
made number part kinds locals = record { number = number; part = part; kinds = kinds; locals = locals }

-- a thread is as its number, its part and the homes of its locals say
pub thread_is : (p : Plan) (t : Thread) → IsThread p t → t ≡ thread_at p t.number t.part t.locals
thread_is p t th =
    let kinds : t.kinds ≡ kinds_in p t.number = th.kinds ∙ sym (kinds_there p.flat.threads t.number th.text th.of_text) in
    ap (λ (ks : List Kind). made t.number t.part ks t.locals) kinds

pub one_thread : (p : Plan) (t u : Thread) → IsThread p t → IsThread p u → t.number ≡ u.number → t ≡ u
one_thread p t u th uh e =
    let parts : t.part ≡ u.part = same_some _ _ _ th.nodes (ap (slice_get p.graph.threads) e ∙ uh.nodes) in
    let colours : th.colours ≡ uh.colours = same_some _ _ _ th.of_colours (ap (slice_get p.colours) e ∙ uh.of_colours) in
    let locals : t.locals ≡ u.locals = th.locals ∙ ap (λ (cs : List ℕ). map (home_of_colour p.log t.number) cs) colours
    ∙ ap (λ (n : ℕ). map (home_of_colour p.log n) uh.colours) e ∙ sym uh.locals in
    thread_is p t th ∙ ap (λ (n : ℕ). thread_at p n t.part t.locals) e ∙ ap (λ (q : Part). thread_at p u.number q t.locals) parts
    ∙ ap (λ (hs : List Home). thread_at p u.number u.part hs) locals ∙ sym (thread_is p u uh)

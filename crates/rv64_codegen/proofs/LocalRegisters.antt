-- Each local of a thread has a home, and two that are live at once have different ones.
use Rattle.std.proofs.Common.{◌≡◌, ◌≢◌, ◌⊎◌, inl, inr, ℕ, zero, suc, ◌<◌, ◌≤◌, List, [], ◌∷◌, length, get_or, refl, ap, arith, sym, ◌∙◌, Bool, true, Some}
use Rattle.std.proofs.Common.{◌==◌, eqb-true}
use Rattle.std.specs.Prelude.{slice_get, slice_index, nat_lt, ◌+◌, ◌*◌, ◌^◌, ◌&&◌, if◌then◌else◌}
use Rattle.std.specs.List.{list_all}
use Rattle.std.proofs.lemmas.Bool.{and_parts}
use Rattle.std.proofs.lemmas.List.{get_or-map}
use Rattle.std.proofs.lemmas.List.Elements.{Contains-get_or}
use Rattle.std.proofs.lemmas.Option.{slice_get-get_or}
use Rattle.memory_layout.specs.declared.roles.TheConstants.{LOCALS}
use Rattle.memory_layout.specs.Roles.{is_local}
use Rattle.flow_graph.specs.Liveness.{Spans}
use Rattle.log_schemes.specs.declared.log.Log.{Log}
use Rattle.log_schemes.specs.declared.size.LogSize.{LogSize}
use Rattle.log_schemes.specs.declared.size.LogSize.TheVariants.{Lines16, Lines32}
use Rattle.log_schemes.specs.declared.locals.Locals.{Locals}
use Rattle.log_schemes.specs.declared.locals.Locals.TheVariants.{Registers, Frame}
use Rattle.log_schemes.specs.Schemes.{lines_of, locals_of, size_of}
use Rattle.log_schemes.specs.Layout.{frame_at}
use Rattle.thread_code.specs.Plans.{Plan, Thread, IsThread, IsPlan, home_at, home_of_colour}
use Rattle.thread_code.proofs.Public.{locals_are}
use Rattle.expr_code.specs.declared.home.Home.{Home}
use Rattle.expr_code.specs.declared.home.Home.TheVariants.{InRegister, InFrame}
use Rattle.expr_code.specs.EvaluationCode.{home_of, is_home}
use Rattle.expr_code.proofs.Public.{same_register}
use Rattle.rv64_codegen.proofs.PlannedNodes.{thread_below}

one_local : (xs : List ℕ) (at : ℕ) → list_all is_local xs ≡ true → at < length xs → is_local (slice_index xs at) ≡ true
one_local [] at h below = absurd (let z : ⊥ = omega (arith, below) in z)
one_local (x ∷ xs) zero h below = (and_parts (is_local x) (list_all is_local xs) h).0
one_local (x ∷ xs) (suc at) h below = one_local xs at (and_parts (is_local x) (list_all is_local xs) h).1 (omega (arith, below))

-- ---- Registers of locals differ

-- where a register stands in a list
abbrev place_in : ℕ → List ℕ → ℕ
place_in r [] = 0
place_in r (x ∷ xs) = if x == r then 0 else suc (place_in r xs)

abbrev all_below : ℕ → (ℕ → Bool) → Bool
all_below zero test = true
all_below (suc n) test = test n && all_below n test

one_below : (n : ℕ) (test : ℕ → Bool) (i : ℕ) → all_below n test ≡ true → i < n → test i ≡ true
one_below zero test i h l = absurd (omega (arith, l))
one_below (suc n) test i h l = by (same_or_other i n) (λ less. one_below n test i (and_parts (test n) (all_below n test) h).1 less)
  where
    same_or_other : (a b : ℕ) → (a ≡ b) ⊎ (a ≢ b)
    same_or_other a b = grind arith

    by : (i ≡ n) ⊎ (i ≢ n) → (i < n → test i ≡ true) → test i ≡ true
    by (inl same) earlier = ap test same ∙ (and_parts (test n) (all_below n test) h).0
    by (inr other) earlier = earlier (omega (arith, l))

stands_back : all_below 18 (λ i. place_in (slice_index LOCALS i) LOCALS == i) ≡ true
stands_back = refl

same_place : (i j : ℕ) → i < 18 → j < 18 → slice_index LOCALS i ≡ slice_index LOCALS j → i ≡ j
same_place i j l m same =
    let back : (k : ℕ) → k < 18 → place_in (slice_index LOCALS k) LOCALS ≡ k =
    λ k below. eqb-true (place_in (slice_index LOCALS k) LOCALS) k (one_below 18 (λ n. place_in (slice_index LOCALS n) LOCALS == n) k stands_back below) in
    sym (back i l) ∙ ap (λ (r : ℕ). place_in r LOCALS) same ∙ back j m

-- ---- Homes of a thread's locals

-- ---- Homes by colours

pub same_word : (a b : ℕ) → InFrame a ≡ InFrame b → a ≡ b
same_word a b same = cc

same_colour : (l : Locals) (log : Log) (thread i j : ℕ) → i < 18 → j < 18 → home_at l log thread i ≡ home_at l log thread j → i ≡ j
same_colour Registers log thread i j low high same = same_place i j low high (same_register _ _ same)
same_colour Frame log thread i j low high same = let words = same_word _ _ same in omega (arith, words)

low_by : (size : LogSize) (thread colour : ℕ) → thread < 8 → colour < 18 → 0x2000_0000 + 64 * lines_of size * thread + 512 + 8 * colour < 2 ^ 30
low_by Lines16 thread colour t c = omega (arith, t, c)
low_by Lines32 thread colour t c = omega (arith, t, c)

true_less : (a b : ℕ) → nat_lt a b ≡ true → a < b
true_less a b l = grind arith

-- words of the frame lie low
pub word_low : (log : Log) (thread colour : ℕ) → thread < 8 → colour < 18 → frame_at log thread colour < 2 ^ 30
word_low log thread colour t c = low_by (size_of log) thread colour t c

less_true : (a b : ℕ) → a < b → nat_lt a b ≡ true
less_true a b l = grind arith

pub home_stands : (l : Locals) (log : Log) (thread colour : ℕ) → colour < 18 → thread < 8 → is_home (home_at l log thread colour) ≡ true
home_stands Registers log thread colour c t = one_local LOCALS colour refl c
home_stands Frame log thread colour c t = less_true (frame_at log thread colour) (2 ^ 30) (low_by (size_of log) thread colour t c)

frame_by : (l : Locals) (log : Log) (thread colour word : ℕ) → home_at l log thread colour ≡ InFrame word → l ≡ Frame
frame_by Registers log thread colour word is = absurd (let z : ⊥ = cc in z)
frame_by Frame log thread colour word is = refl

module _ (p : Plan) (t : Thread) (plan : IsPlan p) (of : IsThread p t) where
  abbrev colour : ℕ → ℕ
  colour local = get_or of.colours local 0

  has_colour : (local : ℕ) → local < length t.kinds → local < length of.colours
  has_colour local below =
      let count : length of.colours ≡ t.part.locals = plan.registers.locals t.number t.part of.colours of.nodes of.of_colours in
      omega (arith, below, count, locals_are p t plan of)

  colour_exists : (local : ℕ) → local < length t.kinds → colour local < 18
  colour_exists local below =
      plan.registers.exist t.number (colour local) of.colours of.of_colours (Contains-get_or of.colours local 0 (has_colour local below))

  pub home_is : (local : ℕ) → local < length t.kinds → home_of t.locals local ≡ home_of_colour p.log t.number (colour local)
  home_is local below =
      ap (λ (hs : List Home). home_of hs local) of.locals
      ∙ get_or-map (home_of_colour p.log t.number) of.colours local 0 (InRegister 0) (has_colour local below)

  pub home_local : (local : ℕ) → local < length t.kinds → is_home (home_of t.locals local) ≡ true
  home_local local below =
      ap is_home (home_is local below)
      ∙ home_stands (locals_of p.log) p.log t.number (colour local) (colour_exists local below) (thread_below p plan t of)

  -- where locals stand in the frame each of them has its word
  pub framed : locals_of p.log ≡ Frame → (local : ℕ) → local < length t.kinds → home_of t.locals local ≡ InFrame (frame_at p.log t.number (colour local))
  framed frame local below = home_is local below ∙ ap (λ (l : Locals). home_at l p.log t.number (colour local)) frame

  -- the address of that word
  abbrev pub word_of : (local : ℕ) → ℕ
  word_of local = frame_at p.log t.number (colour local)

  pub word_below : (local word : ℕ) → local < length t.kinds → home_of t.locals local ≡ InFrame word → word < 2 ^ 64
  word_below local word below is =
      let stands : nat_lt word (2 ^ 30) ≡ true = sym (ap is_home is) ∙ home_local local below in
      let small = true_less word (2 ^ 30) stands in
      omega (arith, small)

  -- a local that has a word of the frame is one of a log in which locals stand there
  pub of_frame : (local word : ℕ) → local < length t.kinds → home_of t.locals local ≡ InFrame word → locals_of p.log ≡ Frame
  of_frame local word below is = frame_by (locals_of p.log) p.log t.number (colour local) word (sym (home_is local below) ∙ is)

  coloured : (local : ℕ) → local < length t.kinds → slice_get of.colours local ≡ Some (colour local)
  coloured local below = slice_get-get_or of.colours local 0 (has_colour local below)

  pub homes_differ : (a b node : ℕ) → a < length t.kinds → b < length t.kinds → a ≢ b → Spans p.graph t.part a node → Spans p.graph t.part b node →
      home_of t.locals a ≢ home_of t.locals b
  homes_differ a b node below_a below_b other spans_a spans_b same =
      let colours : colour a ≡ colour b =
      same_colour (locals_of p.log) p.log t.number (colour a) (colour b) (colour_exists a below_a) (colour_exists b below_b)
      (sym (home_is a below_a) ∙ same ∙ home_is b below_b) in
      by colours (less_or_more a b)
    where
      less_or_more : (m n : ℕ) → (m < n) ⊎ (n ≤ m)
      less_or_more m n = grind arith

      by : colour a ≡ colour b → (a < b) ⊎ (b ≤ a) → ⊥
      by colours (inl less) = plan.apart node a b (record {
        thread = t.number;
        part = t.part;
        own = of.nodes;
        registers = of.colours;
        register = colour a;
        of_thread = of.of_colours;
        of_first = coloured a below_a;
        of_second = coloured b below_b ∙ ap Some (sym colours);
        different = less;
        first = spans_a;
        second = spans_b;
      })
      by colours (inr more) =
          let less : b < a = omega arith in
          plan.apart node b a (record {
            thread = t.number;
            part = t.part;
            own = of.nodes;
            registers = of.colours;
            register = colour b;
            of_thread = of.of_colours;
            of_first = coloured b below_b;
            of_second = coloured a below_a ∙ ap Some colours;
            different = less;
            first = spans_b;
            second = spans_a;
          })

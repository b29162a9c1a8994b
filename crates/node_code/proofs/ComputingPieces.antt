-- Code that only computes.
use Rattle.std.proofs.Common.{◌≡◌, ℕ, zero, suc, ◌+◌, ◌-◌, ◌*◌, ◌/◌, ◌^◌, ◌<◌, ◌≤◌, List, [], ◌∷◌, ◌++◌, length, map}
use Rattle.std.proofs.Common.{refl, ap, sym, ◌∙◌, arith, subst, Bool, true, false}
use Rattle.std.specs.Prelude.{sum_by, if◌then◌else◌}
use Rattle.std.proofs.lemmas.List.{length-append}
use Rattle.std.proofs.lemmas.List.Sums.{sum_by-append}
use Rattle.rv64_isa.specs.declared.instr.Instr.{Instr}
use Rattle.rv64_isa.specs.declared.object.CodeItem.{CodeItem}
use Rattle.rv64_isa.specs.declared.object.CodeItem.TheVariants.{BranchTo, MarkNext}
use Rattle.rv64_isa.specs.declared.object.Label.{Label}
use Rattle.rv64_isa.specs.Rows.{row}
use Rattle.rv64_link.specs.LabelledCode.{most_words_of, is_mark, is_resume}
use Rattle.operator_code.specs.declared.branches.Test.{Test}
use Rattle.operator_code.specs.ComputingCode.{passes}
use Rattle.operator_code.proofs.Public as s
use Rattle.code_runs.specs.ComputingRuns as r
use Rattle.code_runs.specs.CodeTraces.{Mark, GoesThrough}
use Rattle.node_code.specs.Sites.{Site, Linking, IsPart, mark_waits, begin_of, end_of, label_of}
use Rattle.node_code.specs.Pieces.{IsClosed, marks_in, resumes_in, Computed, IsComputing, IsChoice, PieceLeads, words_in}
use Rattle.node_code.specs.links.ItemLists.{plain, nothing, some_code, computing_items, choice_items}
use Rattle.node_code.proofs.Fences.{computing_fences, choice_fences}
use Rattle.node_code.proofs.PieceCleans.{computing_cleans, choice_cleans}
use Rattle.node_code.proofs.ItemAddresses.{length_map, part_left, part_right, waits_right, waits_append, waits_plain, labels_append, labels_plain}
use Rattle.node_code.proofs.ItemAddresses.{positions_append, no_marks_in, no_resumes_in, stand}
use Rattle.node_code.proofs.Words.{exact_plain, exact_end, exact_words}
use Rattle.node_code.proofs.LinkedPartRuns.{stays_at, up_to, has_room, code_end, computing_part, branch_part}
use Rattle.node_code.proofs.LegComposition.{fragment, end_is, weaker, more_room, two_legs, moved, marked_leg, mark_part, mark_waits_there, words_of_plain}

-- ---- Nothing

nothing_runs : (x : List ℕ) (pc : ℕ) → s.RunsFrom (nothing ∷ []) x pc [] x
unfolding row
nothing_runs x pc = s.go nothing [] x x pc [] x refl (s.stop x (pc + 4))

-- a run without code stays where it is
no_run : (s : r.Environment) (address steps : ℕ) (x y : List ℕ) → r.LeadsIn s steps (r.config x address) (r.config y (address + 4 * 0)) → x ≡ y
no_run s address zero x y h = ap (λ (m : r.LocalConfig). m.registers) h
no_run s address (suc steps) x y h = absurd (let up : address < h.0.pc = h.1.forward in
    let low : h.0.pc ≤ address + 4 * 0 = goes_up s steps h.0 (r.config y (address + 4 * 0)) h.2 in omega arith)
  where
    goes_up : (s : r.Environment) (steps : ℕ) (a b : r.LocalConfig) → r.LeadsIn s steps a b → a.pc ≤ b.pc
    goes_up s zero a b h = let e : a.pc ≡ b.pc = ap (λ (m : r.LocalConfig). m.pc) h in omega arith
    goes_up s (suc steps) a b h = let f : a.pc < h.0.pc = h.1.forward in let later : h.0.pc ≤ b.pc = goes_up s steps h.0 b h.2 in omega arith

some_words : (code : List Instr) → length (some_code code) ≤ length code + 1
some_words [] = omega arith
some_words (i ∷ is) = omega arith

module _ (all : List CodeItem) (n : Linking all) where
  abbrev at : ℕ → ℕ
  at = n.linked.address_of

  -- the mark, and then some code
  pub computing_leg : (k : ℕ) (i : Instr) (is : List Instr) (p : IsPart all k (MarkNext ∷ plain (i ∷ is))) (x y : List ℕ) →
      Computed n.environment.around (i ∷ is) (at k) x y →
      GoesThrough n.environment (fragment x (at k) (at (k + length (MarkNext ∷ plain (i ∷ is)))) (length (i ∷ is))) (Mark ∷ []) (λ z. z ≡ y)
  computing_leg k i is p x y c =
      let q : IsPart all (k + 1) (plain (i ∷ is)) = mark_part all n k (plain (i ∷ is)) p in
      let here : at (k + 1) ≡ at k = stays_at all n k MarkNext (plain (i ∷ is)) p refl in
      let e : k + 1 + length (i ∷ is) ≡ k + length (MarkNext ∷ plain (i ∷ is)) = by k (i ∷ is) in
      let run : r.LeadsIn n.environment.around c.run.steps (r.config x (at (k + 1))) (r.config y (at (k + 1) + 4 * length (i ∷ is))) =
      subst (λ (a : ℕ). r.LeadsIn n.environment.around c.run.steps (r.config x a) (r.config y (a + 4 * length (i ∷ is)))) (sym here) c.run.leads in
      moved n.environment x (at (k + 1)) (at k) (at (k + 1 + length (i ∷ is))) (at (k + length (MarkNext ∷ plain (i ∷ is)))) (length (i ∷ is)) (Mark ∷ [])
      (λ z. z ≡ y) here (ap at e)
      (walked c.run.steps c.short run q (mark_waits_there all n k (plain (i ∷ is)) p))
    where
      by : (k : ℕ) (code : List Instr) → k + 1 + length code ≡ k + length (MarkNext ∷ plain code)
      by k code = let e : length (plain code) ≡ length code = length_map all n code in omega (arith, e)

      walked : (steps : ℕ) → steps ≤ length (i ∷ is) → r.LeadsIn n.environment.around steps (r.config x (at (k + 1)))
          (r.config y (at (k + 1) + 4 * length (i ∷ is))) →
          (q : IsPart all (k + 1) (plain (i ∷ is))) → mark_waits false q.before ≡ true →
          GoesThrough n.environment (fragment x (at (k + 1)) (at (k + 1 + length (i ∷ is))) (length (i ∷ is))) (Mark ∷ []) (λ z. z ≡ y)
      walked zero short run q waits = absurd (let e : at (k + 1) ≡ at (k + 1) + 4 * length (i ∷ is) = ap (λ (m : r.LocalConfig). m.pc) run in omega arith)
      walked (suc steps) short run q waits = record {
        registers = y;
        steps = suc steps;
        walks = computing_part all n (k + 1) (i ∷ is) q x y steps true waits run;
        short = short;
        are = refl;
      }

-- ---- Code at least

computes : (code : List Instr) (site : Site (computing_items code)) (x y : List ℕ) →
    Computed site.linking.environment.around code (begin_of (computing_items code) site) x y →
    PieceLeads site x (begin_of (computing_items code) site) (end_of (computing_items code) site) (Mark ∷ []) (λ z. z ≡ y)
computes [] site x y c =
    let same : x ≡ y = no_run site.linking.environment.around (begin_of (computing_items []) site) c.run.steps x y c.run.leads in
    more_room site.linking.environment x (begin_of (computing_items []) site) (end_of (computing_items []) site) 1
    (words_in (computing_items []) site) (Mark ∷ [])
    (λ z. z ≡ y) (let w : words_in (computing_items []) site ≡ 1 = exact_words (computing_items []) site (refl, (refl, tt)) in omega (arith, w))
    (weaker site.linking.environment (fragment x (begin_of (computing_items []) site) (end_of (computing_items []) site) 1) (Mark ∷ [])
    (λ z. z ≡ x) (λ z. z ≡ y)
    (λ z e. e ∙ same)
    (marked_leg site.items site.linking site.position nothing [] site.is_part x x [] (nothing_runs x (begin_of (computing_items []) site)) tt))
computes (i ∷ is) site x y c =
    let few : length (i ∷ is) ≤ words_in (computing_items (i ∷ is)) site =
    let e : sum_by most_words_of (plain (i ∷ is)) ≡ length (i ∷ is) = words_of_plain (i ∷ is) in
    let f : sum_by most_words_of (computing_items (i ∷ is)) ≡ 0 + sum_by most_words_of (plain (i ∷ is)) = sum_by-append most_words_of (MarkNext ∷ [])
    (plain (i ∷ is)) in
    let w : words_in (computing_items (i ∷ is)) site ≡ sum_by most_words_of (computing_items (i ∷ is)) =
    exact_words (computing_items (i ∷ is)) site (refl, exact_plain (i ∷ is)) in omega (arith, e, f, w) in
    more_room site.linking.environment x (begin_of (computing_items (i ∷ is)) site) (end_of (computing_items (i ∷ is)) site) (length (i ∷ is))
    (words_in (computing_items (i ∷ is)) site) (Mark ∷ []) (λ z. z ≡ y) few
    (computing_leg site.items site.linking site.position i is site.is_part x y c)

-- the code stands, after its mark, and there is room for it
module _ (all : List CodeItem) (n : Linking all) (k : ℕ) (code : List Instr) (p : IsPart all k (MarkNext ∷ plain code)) where
  abbrev from : ℕ
  from = n.linked.address_of k

  here : n.linked.address_of (k + 1) ≡ from
  here = stays_at all n k MarkNext (plain code) p refl

  own : IsPart all (k + 1) (plain code)
  own = mark_part all n k (plain code) p

  pub stands_marked : r.HasCodeAt n.environment.around from code
  stands_marked = subst (λ (a : ℕ). r.HasCodeAt n.environment.around a code) here (stand all (k + 1) code n own)

  pub room_marked : from + 4 * length code < 2 ^ 64
  room_marked =
      let e : n.linked.address_of (k + 1 + length code) ≡ n.linked.address_of (k + 1) + 4 * length code = code_end all n (k + 1) code own in
      let f : n.linked.address_of (k + 1 + length code) ≡ n.linked.address_of (k + 1 + length (plain code)) = end_is all n (k + 1) code in
      let room : n.linked.address_of (k + 1 + length (plain code)) < 2 ^ 64 = has_room all n (k + 1) (plain code) own in
      omega (arith, e, f, room, here)

no_room : (part : List CodeItem) (site : Site part) → begin_of part site + 4 * 0 < 2 ^ 64
no_room part site =
    let up : begin_of part site ≤ end_of part site = up_to site.items site.linking site.position part site.is_part in
    let room : end_of part site < 2 ^ 64 = has_room site.items site.linking site.position part site.is_part in
    omega arith

pub is_computing : (code : List Instr) → IsComputing code (computing_items code)
is_computing [] = record {
  closed = record { waits = refl; labels = λ label. refl };
  few = omega arith;
  fences = refl;
  cleans = refl;
  at = λ site. record {
    stands = tt;
    room = no_room (computing_items []) site;
    computes = computes [] site;
    marks = refl;
    resumes = refl;
  };
}
is_computing (i ∷ is) = record {
  closed = record { waits = waits_plain true i is; labels = λ label. labels_plain label (i ∷ is) };
  few =
      let e : sum_by most_words_of (plain (i ∷ is)) ≡ length (i ∷ is) = words_of_plain (i ∷ is) in
      let f : sum_by most_words_of (computing_items (i ∷ is)) ≡ 0 + sum_by most_words_of (plain (i ∷ is)) = sum_by-append most_words_of (MarkNext ∷ [])
      (plain (i ∷ is)) in omega (arith, e, f);
  fences = computing_fences i is;
  cleans = computing_cleans i is;
  at = λ site. record {
    stands = stands_marked site.items site.linking site.position (i ∷ is) site.is_part;
    room = room_marked site.items site.linking site.position (i ∷ is) site.is_part;
    computes = computes (i ∷ is) site;
    marks = ap (λ (ns : List ℕ). map site.linking.linked.address_of (site.position ∷ ns)) (no_marks_in (i ∷ is) (site.position + 1));
    resumes = ap (λ (ns : List ℕ). map site.linking.linked.address_of ns) (no_resumes_in (i ∷ is) (site.position + 1));
  };
}

-- ---- Code, and a branch

module _ (test : Test) (to : Label) where
  abbrev branch : CodeItem
  branch = BranchTo test.condition test.rs1 test.rs2 to

  abbrev where_to : (part : List CodeItem) → Site part → (y : List ℕ) → ℕ
  where_to part site y = if passes test y then label_of part site to.0 else end_of part site

  chooses_none : (site : Site (choice_items [] test to)) (x y : List ℕ) → x ≡ y →
      PieceLeads site x (begin_of (choice_items [] test to) site) (where_to (choice_items [] test to) site y) (Mark ∷ []) (λ z. z ≡ y)
  chooses_none site x y same =
      let part : List CodeItem = choice_items [] test to in
      let k : ℕ = site.position in
      let at : ℕ → ℕ = site.linking.linked.address_of in
      let q : IsPart site.items (k + 1) (branch ∷ []) = mark_part site.items site.linking k (branch ∷ []) site.is_part in
      let here : at (k + 1) ≡ at k = stays_at site.items site.linking k MarkNext (branch ∷ []) site.is_part refl in
      let e : k + 1 + 1 ≡ k + 2 = omega arith in
      let leg : GoesThrough site.linking.environment (fragment x (at (k + 1)) (if passes test x then label_of part site to.0 else at (k + 1 + 1))
      ((at (k + 1 + 1) - at (k + 1)) / 4)) (Mark ∷ []) (λ z. z ≡ x) =
      branch_part site.items site.linking (k + 1) test.condition test.rs1 test.rs2 to q x true
      (mark_waits_there site.items site.linking k (branch ∷ []) site.is_part) in
      let few : (at (k + 1 + 1) - at (k + 1)) / 4 ≤ words_in part site = let f : at (k + 1 + 1) ≡ end_of part site = ap at e in omega (arith, f, here) in
      subst (λ (v : List ℕ). GoesThrough site.linking.environment (fragment x (at k) (where_to part site v) (words_in part site)) (Mark ∷ []) (λ z. z ≡ v)) same
      (more_room site.linking.environment x (at k) (where_to part site x) ((at (k + 1 + 1) - at (k + 1)) / 4) (words_in part site) (Mark ∷ []) (λ z. z ≡ x) few
      (moved site.linking.environment x (at (k + 1)) (at k) (if passes test x then label_of part site to.0 else at (k + 1 + 1)) (where_to part site x)
      ((at (k + 1 + 1) - at (k + 1)) / 4) (Mark ∷ []) (λ z. z ≡ x) here
      (ap (λ (m : ℕ). if passes test x then label_of part site to.0 else at m) e) leg))

  choice_words : (code : List Instr) → sum_by most_words_of (choice_items code test to) ≡ length code + 2
  choice_words code =
      let e : sum_by most_words_of (plain code) ≡ length code = words_of_plain code in
      let f : sum_by most_words_of (MarkNext ∷ plain code) ≡ 0 + sum_by most_words_of (plain code) = sum_by-append most_words_of (MarkNext ∷ []) (plain code) in
      let g : sum_by most_words_of (choice_items code test to) ≡ sum_by most_words_of (MarkNext ∷ plain code) + 2 = sum_by-append most_words_of
      (MarkNext ∷ plain code) (branch ∷ []) in
      omega (arith, e, f, g)

  chooses_some : (i : Instr) (is : List Instr) (site : Site (choice_items (i ∷ is) test to)) (x y : List ℕ) →
      Computed site.linking.environment.around (i ∷ is) (begin_of (choice_items (i ∷ is) test to) site) x y →
      PieceLeads site x (begin_of (choice_items (i ∷ is) test to) site) (where_to (choice_items (i ∷ is) test to) site y)
      (Mark ∷ []) (λ z. z ≡ y)
  chooses_some i is site x y c =
      let part : List CodeItem = choice_items (i ∷ is) test to in
      let first : List CodeItem = MarkNext ∷ plain (i ∷ is) in
      let k : ℕ = site.position in
      let at : ℕ → ℕ = site.linking.linked.address_of in
      let p : IsPart site.items k (MarkNext ∷ plain (i ∷ is)) = part_left site.items k (MarkNext ∷ plain (i ∷ is)) (branch ∷ []) site.is_part in
      let q : IsPart site.items (k + length (MarkNext ∷ plain (i ∷ is))) (branch ∷ []) = part_right site.items k (MarkNext ∷ plain (i ∷ is)) (branch ∷ [])
      site.is_part in
      let closed : mark_waits false (part_right site.items k (MarkNext ∷ plain (i ∷ is)) (branch ∷ []) site.is_part).before ≡ false =
      waits_right site.items k (MarkNext ∷ plain (i ∷ is)) (branch ∷ []) site.is_part ∙
      ap (λ (w : Bool). mark_waits w (MarkNext ∷ plain (i ∷ is))) site.closed ∙ waits_plain true i is in
      let e : k + length (MarkNext ∷ plain (i ∷ is)) + 1 ≡ k + length (choice_items (i ∷ is) test to) = omega
      (arith, length-append (MarkNext ∷ plain (i ∷ is)) (branch ∷ [])) in
      let last : ℕ = (at (k + length (MarkNext ∷ plain (i ∷ is)) + 1) - at (k + length (MarkNext ∷ plain (i ∷ is)))) / 4 in
      let after : (z : List ℕ) → z ≡ y → GoesThrough site.linking.environment (fragment z (at (k + length (MarkNext ∷ plain (i ∷ is))))
      (where_to (choice_items (i ∷ is) test to) site y) last) [] (λ v. v ≡ y) =
      λ z f. subst (λ (v : List ℕ). GoesThrough site.linking.environment (fragment v (at (k + length (MarkNext ∷ plain (i ∷ is))))
      (where_to (choice_items (i ∷ is) test to) site y) last) [] (λ v. v ≡ y)) (sym f)
      (moved site.linking.environment y (at (k + length (MarkNext ∷ plain (i ∷ is)))) (at (k + length (MarkNext ∷ plain (i ∷ is))))
      (if passes test y then label_of (choice_items (i ∷ is) test to) site to.0 else at (k + length (MarkNext ∷ plain (i ∷ is)) + 1))
      (where_to (choice_items (i ∷ is) test to) site y) last [] (λ v. v ≡ y) refl
      (ap (λ (m : ℕ). if passes test y then label_of (choice_items (i ∷ is) test to) site to.0 else at m) e)
      (branch_part site.items site.linking (k + length (MarkNext ∷ plain (i ∷ is))) test.condition test.rs1 test.rs2 to
      (part_right site.items k (MarkNext ∷ plain (i ∷ is)) (branch ∷ []) site.is_part) y false closed)) in
      let few : length (i ∷ is) + last ≤ words_in (choice_items (i ∷ is) test to) site =
      let g : sum_by most_words_of (plain (i ∷ is)) ≡ length (i ∷ is) = words_of_plain (i ∷ is) in
      let m : sum_by most_words_of (MarkNext ∷ plain (i ∷ is)) ≡ 0 + sum_by most_words_of (plain (i ∷ is)) = sum_by-append most_words_of (MarkNext ∷ [])
      (plain (i ∷ is)) in
      let first_end : at (k + length (MarkNext ∷ plain (i ∷ is))) ≡ at k + 4 * sum_by most_words_of (MarkNext ∷ plain (i ∷ is)) =
      exact_end site.items site.linking k (MarkNext ∷ plain (i ∷ is)) p (refl, exact_plain (i ∷ is)) in
      let up : at (k + length (MarkNext ∷ plain (i ∷ is))) ≤ at (k + length (MarkNext ∷ plain (i ∷ is)) + 1) =
      up_to site.items site.linking (k + length (MarkNext ∷ plain (i ∷ is))) (branch ∷ []) q in
      let whole : at (k + length (MarkNext ∷ plain (i ∷ is)) + 1) ≡ end_of (choice_items (i ∷ is) test to) site = ap at e in
      omega (arith, g, m, first_end, up, whole) in
      more_room site.linking.environment x (at k) (where_to (choice_items (i ∷ is) test to) site y) (length (i ∷ is) + last)
      (words_in (choice_items (i ∷ is) test to) site) (Mark ∷ []) (λ z. z ≡ y) few
      (two_legs site.linking.environment x (at k) (at (k + length (MarkNext ∷ plain (i ∷ is)))) (where_to (choice_items (i ∷ is) test to) site y)
      (length (i ∷ is)) last (Mark ∷ []) [] (λ z. z ≡ y) (λ z. z ≡ y)
      (computing_leg site.items site.linking k i is p x y c) after)

  choice_closed : (code : List Instr) → IsClosed (choice_items code test to)
  choice_closed code = record {
    waits = waits_append false (MarkNext ∷ plain code) (branch ∷ []);
    labels = λ label. labels_append label (MarkNext ∷ plain code) (branch ∷ []) (labels_plain label code) refl;
  }

  choice_marks : (code : List Instr) (site : Site (choice_items code test to)) → marks_in (choice_items code test to) site ≡ begin_of
      (choice_items code test to) site ∷ []
  choice_marks code site = ap (λ (ns : List ℕ). map site.linking.linked.address_of ns)
      (positions_append site.position is_mark (MarkNext ∷ plain code) (branch ∷ []) ∙
      ap (λ (ns : List ℕ). (site.position ∷ ns) ++ []) (no_marks_in code (site.position + 1)))

  choice_resumes : (code : List Instr) (site : Site (choice_items code test to)) → resumes_in (choice_items code test to) site ≡ []
  choice_resumes code site = ap (λ (ns : List ℕ). map site.linking.linked.address_of ns)
      (positions_append site.position is_resume (MarkNext ∷ plain code) (branch ∷ []) ∙ ap (λ (ns : List ℕ). ns ++ []) (no_resumes_in code (site.position + 1)))

  chooses : (code : List Instr) (site : Site (choice_items code test to)) (x y : List ℕ) →
      Computed site.linking.environment.around code (begin_of (choice_items code test to) site) x y →
      PieceLeads site x (begin_of (choice_items code test to) site) (where_to (choice_items code test to) site y) (Mark ∷ [])
      (λ z. z ≡ y)
  chooses [] site x y c = chooses_none site x y (no_run site.linking.environment.around (begin_of (choice_items [] test to) site) c.run.steps x y c.run.leads)
  chooses (i ∷ is) site x y c = chooses_some i is site x y c

  pub is_choice : (code : List Instr) → IsChoice code test to.0 (choice_items code test to)
  is_choice code = record {
    closed = choice_closed code;
    few = let e : sum_by most_words_of (choice_items code test to) ≡ length code + 2 = choice_words code in omega arith;
    fences = choice_fences code test to;
    cleans = choice_cleans code test to;
    at = λ site. record {
      stands = stands_marked site.items site.linking site.position code (part_left site.items site.position (MarkNext ∷ plain code) (branch ∷ []) site.is_part);
      room = room_marked site.items site.linking site.position code (part_left site.items site.position (MarkNext ∷ plain code) (branch ∷ []) site.is_part);
      chooses = chooses code site;
      marks = choice_marks code site;
      resumes = choice_resumes code site;
    };
  }

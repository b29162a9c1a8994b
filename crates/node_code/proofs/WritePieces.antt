-- Code that computes without a mark, and code that computes before a store that is no mark.
use Rattle.std.proofs.Common.{◌≡◌, ℕ, ◌+◌, ◌*◌, ◌^◌, ◌<◌, ◌≤◌, List, [], ◌∷◌, ◌++◌, length, map, refl, ap, sym, ◌∙◌, arith, subst, Bool, true, false}
use Rattle.std.specs.Prelude.{sum_by}
use Rattle.std.proofs.lemmas.List.{length-append}
use Rattle.std.proofs.lemmas.List.Sums.{sum_by-append}
use Rattle.rv64_isa.specs.declared.instr.Instr.{Instr}
use Rattle.rv64_isa.specs.declared.instr.Instr.TheVariants.{Store}
use Rattle.rv64_isa.specs.declared.instr.StoreKind.TheVariants.{Sd}
use Rattle.rv64_isa.specs.Rows.{Stores, read}
use Rattle.rv64_isa.specs.declared.object.CodeItem.{CodeItem}
use Rattle.rv64_isa.specs.declared.object.CodeItem.TheVariants.{Instruction}
use Rattle.rv64_link.specs.LabelledCode.{most_words_of, is_mark, is_resume, positions_from, fences_in}
use Rattle.code_runs.specs.CodeTraces as walks
use Rattle.code_runs.specs.CodeTraces.{Does, Mark, Observation}
use Rattle.node_code.specs.Cleans.{cleans_in}
use Rattle.node_code.specs.Sites.{Site, IsPart, mark_waits, begin_of, end_of}
use Rattle.node_code.specs.Pieces.{Computed, ComputesOn, ComputesThenStores, IsComputing, IsPlainWrite, IsUnmarked, PieceLeads, marks_in, resumes_in, words_in}
use Rattle.node_code.specs.links.ItemLists.{plain, computing_items, write_items}
use Rattle.node_code.proofs.Fences.{fences_append}
use Rattle.node_code.proofs.PieceCleans.{cleans_append}
use Rattle.node_code.proofs.ItemAddresses.{part_left, part_right, waits_left, waits_right, waits_append, waits_plain_on, labels_append, labels_plain}
use Rattle.node_code.proofs.ItemAddresses.{positions_append, map_append, no_marks_in, no_resumes_in, stand}
use Rattle.node_code.proofs.Words.{exact_plain, exact_words, words_are}
use Rattle.node_code.proofs.LinkedPartRuns.{waiting, marked_code, has_room, code_end, stands_part}
use Rattle.node_code.proofs.LegComposition.{end_is, more_room, moved, straight_leg_on, words_of_plain}
use Rattle.node_code.proofs.StorePieces.{store_row, store_runs}
use Rattle.node_code.proofs.ListLegs.{run_leg}
use Rattle.node_code.proofs.ComputingPieces.{is_computing}

-- ---- Without a mark

pub is_unmarked : (code : List Instr) → IsUnmarked code (plain code)
is_unmarked code = record {
  closed = record { waits = waits_plain_on code; labels = λ label. labels_plain label code };
  few = let e : sum_by most_words_of (plain code) ≡ length code = words_of_plain code in omega (arith, e);
  fences = refl;
  cleans = refl;
  at = λ site.
      let k : ℕ = site.position in
      let to : ℕ → ℕ = site.linking.linked.address_of in
      record {
        stands = stand site.items k code site.linking site.is_part;
        room =
            let e : to (k + length code) ≡ to k + 4 * length code = code_end site.items site.linking k code site.is_part in
            let f : to (k + length code) ≡ to (k + length (plain code)) = end_is site.items site.linking k code in
            let room : to (k + length (plain code)) < 2 ^ 64 = has_room site.items site.linking k (plain code) site.is_part in
            omega (arith, e, f, room);
        computes = λ x y c.
            more_room site.linking.environment x (to k) (end_of (plain code) site) (length code) (words_in (plain code) site) [] (λ z. z ≡ y)
            (let w : words_in (plain code) site ≡ sum_by most_words_of (plain code) = exact_words (plain code) site (exact_plain code) in
            let e : sum_by most_words_of (plain code) ≡ length code = words_of_plain code in omega (arith, w, e))
            (run_leg site.items site.linking k code site.is_part site.closed x y c.run c.short);
        marks = ap (λ (ns : List ℕ). map to ns) (no_marks_in code k);
        resumes = ap (λ (ns : List ℕ). map to ns) (no_resumes_in code k);
      };
}

-- ---- Before a store

abbrev store : Instr
store = Store Sd 29 28 0

abbrev last : List CodeItem
last = Instruction store ∷ []

module _ (code : List Instr) (site : Site (write_items code)) where
  abbrev k : ℕ
  k = site.position

  abbrev to : ℕ → ℕ
  to = site.linking.linked.address_of

  abbrev first : List CodeItem
  first = computing_items code

  abbrev k2 : ℕ
  k2 = k + length first

  abbrev begins : Site first
  begins = record {
    items = site.items;
    position = k;
    linking = site.linking;
    is_part = part_left site.items k first last site.is_part;
    closed = waits_left site.items k first last site.is_part ∙ site.closed;
  }

  abbrev second : IsPart site.items k2 last
  second = part_right site.items k first last site.is_part

  second_closed : mark_waits false second.before ≡ false
  second_closed = waits_right site.items k first last site.is_part
      ∙ (ap (λ (w : Bool). mark_waits w first) site.closed ∙ (is_computing code).closed.waits)

  store_ends : end_of (write_items code) site ≡ to k2 + 4
  store_ends =
      let e : to (k2 + 1) ≡ to k2 + 4 * 1 = code_end site.items site.linking k2 (store ∷ []) second in
      let count : k2 + 1 ≡ k + length (write_items code) = omega (arith, length-append first last) in
      sym (ap to count) ∙ (e ∙ omega arith)

  fewer : words_in first begins ≤ words_in (write_items code) site
  fewer =
      let one : end_of first begins ≡ begin_of first begins + 4 * words_in first begins = words_are first begins in
      let all : end_of (write_items code) site ≡ begin_of (write_items code) site + 4 * words_in (write_items code) site = words_are (write_items code) site in
      omega (arith, one, all, store_ends)

  stores_it : (x : List ℕ) → read x 28 < 2 ^ 64 →
      PieceLeads site x (to k2) (end_of (write_items code) site) (Does (Stores (read x 28) 8 (read x 29)) ∷ []) (λ y. y ≡ x)
  stores_it x small =
      let env = site.linking.environment in
      let count : k2 + 1 ≡ k + length (write_items code) = omega (arith, length-append first last) in
      let seen : List Observation = Does (Stores (read x 28) 8 (read x 29)) ∷ [] in
      let one : begin_of first begins + 4 * words_in first begins ≡ end_of first begins = sym (words_are first begins) in
      let all : end_of (write_items code) site ≡ begin_of (write_items code) site + 4 * words_in (write_items code) site = words_are (write_items code) site in
      more_room env x (to k2) (end_of (write_items code) site) 1 (words_in (write_items code) site) seen (λ y. y ≡ x) (omega (arith, one, all, store_ends))
      (moved env x (to k2) (to k2) (to (k2 + 1)) (end_of (write_items code) site) 1 seen (λ y. y ≡ x) refl (ap to count)
      (straight_leg_on site.items site.linking k2 (store ∷ []) second x x (Stores (read x 28) 8 (read x 29) ∷ []) second_closed
      (store_runs Sd false x (to k2) small) (refl, tt)))

  writes : ComputesThenStores code (write_items code) site
  writes =
      let own = (is_computing code).at begins in
      record {
        store = to k2;
        has_code = own.stands;
        room = own.room;
        computes = λ x y c.
            more_room site.linking.environment x (to k) (to k2) (words_in first begins) (words_in (write_items code) site) (Mark ∷ []) (λ z. z ≡ y) fewer
            (own.computes x y c);
        stands = stands_part site.items site.linking k2 store second;
        does = λ x small. store_row Sd x (to k2) small;
        stores = stores_it;
        after = store_ends;
        plain = subst (λ (ms : List ℕ). walks.marked ms (to k2) ≡ []) site.linking.meets.marks
            (marked_code site.items site.linking k2 store [] second ∙ ap (λ (w : Bool). waiting w) second_closed);
        marks = ap (λ (ns : List ℕ). map to ns) (positions_append k is_mark first last)
            ∙ (map_append to (positions_from k is_mark first) [] ∙ ap (λ (ns : List ℕ). ns ++ []) own.marks);
        resumes = ap (λ (ns : List ℕ). map to ns) (positions_append k is_resume first last)
            ∙ (map_append to (positions_from k is_resume first) [] ∙ ap (λ (ns : List ℕ). ns ++ []) own.resumes);
      }

pub is_plain_write : (code : List Instr) → IsPlainWrite code (write_items code)
is_plain_write code =
    let own = is_computing code in
    record {
      closed = record {
        waits = waits_append false (computing_items code) last;
        labels = λ label. labels_append label (computing_items code) last (own.closed.labels label) refl;
      };
      few = let e : sum_by most_words_of (write_items code) ≡ sum_by most_words_of (computing_items code) + 1 =
          sum_by-append most_words_of (computing_items code) last in
          let few = own.few in omega (arith, e, few);
      fences = let e : fences_in (write_items code) ≡ fences_in (computing_items code) + 0 = fences_append (computing_items code) last in
          let same = own.fences in omega (arith, e, same);
      cleans = let e : cleans_in (write_items code) ≡ cleans_in (computing_items code) + 0 = cleans_append (computing_items code) last in
          let same = own.cleans in omega (arith, e, same);
      at = writes code;
    }

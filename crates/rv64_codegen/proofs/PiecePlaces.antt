-- Where the pieces of a thread stand in its linked code: nothing of an environment is in it.
use Rattle.std.proofs.Common.{◌≡◌, ℕ, suc, ◌+◌, ◌-◌, ◌*◌, ◌<◌, ◌≤◌, List, [], ◌∷◌, ◌++◌, length, map, refl, ap, sym, ◌∙◌, arith, subst, Bool, Some}
use Rattle.std.specs.Prelude.{slice_get}
use Rattle.std.specs.List.{concat}
use Rattle.std.proofs.lemmas.List.{append-nil}
use Rattle.rv64_isa.specs.declared.object.CodeItem.{CodeItem}
use Rattle.rv64_link.specs.LabelledCode.{label_position, is_mark, is_resume, positions_from}
use Rattle.rv64_link.specs.LinkedCode.{IsRoom}
use Rattle.code_runs.specs.CodeTraces.{Program}
use Rattle.node_code.specs.Sites.{IsPart, mark_waits}
use Rattle.node_code.specs.JoinedPieces.{joined, AreClosed}
use Rattle.node_code.proofs.Public.{Lies, lies_from, lies_left, lies_right, item_at, part_right, waits_right, here, place, place_first, place_next, place_end}
use Rattle.node_code.proofs.Public.{Found, find, label_at, lists, lists_count, lists_at, lists_are}
use Rattle.thread_code.specs.Plans.{Thread}
use Rattle.rv64_codegen.proofs.PieceSites.{IsLinkedIn, IsSited}

-- a part's items lie one after another
pub part_lies : (at : ℕ → ℕ) (all : List CodeItem) → Lies at 0 all → (k : ℕ) (part : List CodeItem) → IsPart all k part → Lies at k part
part_lies at all lie k part p =
    let whole : Lies at 0 (p.before ++ (part ++ p.after)) = subst (λ (is : List CodeItem). Lies at 0 is) p.split lie in
    let same : 0 + length p.before ≡ k = let e : k ≡ length p.before = p.at in omega (arith, e) in
    lies_left at k part p.after
    (subst (λ (m : ℕ). Lies at m (part ++ p.after)) same (lies_right at 0 p.before (part ++ p.after) whole))

pub linked_lies : (program : Program) (items : List CodeItem) (n : IsLinkedIn program items) → Lies n.linked.address_of 0 items
linked_lies program items n =
    let at : ℕ → ℕ = n.linked.address_of in
    lies_from at 0 items (λ p item e.
    let same : p ≡ 0 + p = omega arith in
    let Q : ℕ → Type 0 = λ k. IsRoom item (at k) (at (k + 1)) in
    subst Q same (n.linked.room p item e))

module _ (t : Thread) (program : Program) (pieces : List (List CodeItem)) (closed : AreClosed pieces) (n : IsLinkedIn program (joined 0 pieces)) where
  abbrev all : List CodeItem
  all = joined 0 pieces

  abbrev at : ℕ → ℕ
  at = n.linked.address_of

  -- where a node's label stands
  abbrev pub entry : ℕ → ℕ
  entry node = at (place 0 pieces (node - t.part.first))

  pub entry_first : entry t.part.first ≡ program.start
  entry_first =
      let none : t.part.first - t.part.first ≡ 0 = omega arith in
      ap (λ (i : ℕ). at (place 0 pieces i)) none ∙ ap at (place_first 0 pieces) ∙ n.linked.begins

  pub entry_end : length pieces ≡ t.part.end - t.part.first → entry t.part.end ≡ program.start + 4 * length program.code
  entry_end count =
      let same : 0 + length all ≡ length all = omega arith in
      ap (λ (i : ℕ). at (place 0 pieces i)) (sym count) ∙ ap at (place_end 0 0 pieces ∙ same) ∙ n.linked.ends

  whole : IsPart all 0 (joined 0 pieces)
  whole = record { before = []; after = []; split = sym (append-nil (joined 0 pieces)); at = refl }

  found : (i : ℕ) (piece : List CodeItem) → slice_get pieces i ≡ Some piece → Found all (place 0 pieces i) (0 + i) piece
  unfolding whole
  found i piece e = find all 0 0 pieces closed whole refl i piece e

  -- a label takes no room
  stays : (k label : ℕ) (piece : List CodeItem) → IsPart all k (here label ∷ piece) → at (k + 1) ≡ at k
  stays k label piece p =
      let z : k + 0 ≡ k = omega arith in
      let there : slice_get all k ≡ Some (here label) =
      ap (λ (m : ℕ). slice_get all m) (sym z) ∙ item_at all k (here label ∷ piece) p 0 (here label) refl in
      let room : IsRoom (here label) (at k) (at (k + 1)) = n.linked.room k (here label) there in
      let e : at (k + 1) ≡ at k + 4 * room.words = room.to_is in
      let none : room.words ≤ 0 = room.most in
      omega (arith, e, none)

  -- a piece where it stands, after its label
  pub record Stood (i : ℕ) (piece : List CodeItem) : Type 0 where
    pub sited : IsSited t program all n entry (t.part.first + i) piece
    pub position : sited.position ≡ place 0 pieces i + 1

  pub stood : length pieces ≡ t.part.end - t.part.first → (i : ℕ) (piece : List CodeItem) → slice_get pieces i ≡ Some piece → Stood i piece
  stood count i piece e =
      let k : ℕ = place 0 pieces i in
      let f : Found all k (0 + i) piece = found i piece e in
      let back : t.part.first + i - t.part.first ≡ i = omega arith in
      record {
        sited = record {
          position = k + 1;
          is_part = part_right all k (here (0 + i) ∷ []) piece f.part;
          closed = waits_right all k (here (0 + i) ∷ []) piece f.part ∙ ap (λ (w : Bool). mark_waits w (here (0 + i) ∷ [])) f.closed;
          begin = stays k (0 + i) piece f.part ∙ ap (λ (j : ℕ). at (place 0 pieces j)) (sym back);
          end =
              let next : place 0 pieces (suc i) ≡ k + suc (length piece) = place_next 0 pieces i piece e in
              let last : t.part.first + i + 1 - t.part.first ≡ suc i = omega arith in
              let same : k + 1 + length piece ≡ place 0 pieces (t.part.first + i + 1 - t.part.first) =
              (let z : k + 1 + length piece ≡ k + suc (length piece) = omega arith in z) ∙ sym next ∙ ap (λ (j : ℕ). place 0 pieces j) (sym last) in
              ap at same;
          labels = λ j own.
              let from : t.part.first ≤ j = own.from_first in
              let below : j < t.part.end = own.below_end in
              let inside : j - t.part.first < length pieces = omega (arith, from, below, count) in
              let same : j - t.part.first ≡ 0 + (j - t.part.first) = omega arith in
              ap at (ap (λ (m : ℕ). label_position m all) same ∙ label_at 0 pieces closed (j - t.part.first) inside);
        };
        position = refl;
      }

  -- ---- Marks

  -- of each piece the addresses of its items that pass a test
  abbrev pub addresses : (CodeItem → Bool) → (k : ℕ) → List CodeItem → List ℕ
  addresses test k piece = map at (positions_from k test piece)

  pub marks : List (List ℕ)
  marks = lists at is_mark 0 pieces

  pub resumes : List (List ℕ)
  resumes = lists at is_resume 0 pieces

  pub marks_count : length marks ≡ length pieces
  unfolding marks
  marks_count = lists_count at is_mark 0 pieces

  pub resumes_count : length resumes ≡ length pieces
  unfolding resumes
  resumes_count = lists_count at is_resume 0 pieces

  pub nodes_are : program.nodes ≡ concat marks
  unfolding marks
  nodes_are = n.linked.nodes_are ∙ lists_are at is_mark (λ label. refl) 0 0 pieces

  pub resumes_are : program.resumes ≡ concat resumes
  unfolding resumes
  resumes_are = n.linked.resumes_are ∙ lists_are at is_resume (λ label. refl) 0 0 pieces

  pub marks_at : (i : ℕ) (piece : List CodeItem) (s : Stood i piece) → slice_get pieces i ≡ Some piece →
      slice_get marks i ≡ Some (addresses is_mark s.sited.position piece)
  unfolding marks
  marks_at i piece s e = lists_at at is_mark 0 pieces i piece e ∙ ap (λ (k : ℕ). Some (addresses is_mark k piece)) (sym s.position)

  pub resumes_at : (i : ℕ) (piece : List CodeItem) (s : Stood i piece) → slice_get pieces i ≡ Some piece →
      slice_get resumes i ≡ Some (addresses is_resume s.sited.position piece)
  unfolding resumes
  resumes_at i piece s e = lists_at at is_resume 0 pieces i piece e ∙ ap (λ (k : ℕ). Some (addresses is_resume k piece)) (sym s.position)

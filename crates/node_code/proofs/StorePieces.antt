-- Stores.
use Rattle.std.proofs.Common.{◌≡◌, ℕ, ◌+◌, ◌^◌, ◌<◌, ◌≤◌, List, [], ◌∷◌, length, refl, ap, ◌∙◌, arith, subst, Bool, true, false, lit<}
use Rattle.std.specs.Prelude.{if◌then◌else◌}
use Rattle.ido_ints.specs.declared.kinds.Kind.{Kind}
use Rattle.ido_ints.specs.Kinds.{bytes_of}
use Rattle.rv64_isa.specs.declared.instr.Instr.TheVariants.{Store, CboClean}
use Rattle.rv64_isa.specs.declared.instr.StoreKind.{StoreKind}
use Rattle.rv64_isa.specs.Rows.{Effect, Stores, Cleans, row, read, store_bytes, displaced}
use Rattle.rv64_isa.specs.declared.object.CodeItem.TheVariants.{Instruction, MarkNext}
use Rattle.rv64_link.specs.LinkedCode.{IsInstructionAt}
use Rattle.operator_code.specs.ComputingCode.{AreRegisters}
use Rattle.operator_code.proofs.Public as s
use Rattle.operator_code.proofs.Public.{displaced_small}
use Rattle.code_runs.specs.CodeTraces.{Mark, GoesThrough, AreMemory, seen_effects}
use Rattle.node_code.specs.Sites.{Site, IsPart, begin_of, end_of}
use Rattle.node_code.specs.Pieces.{IsStorePiece, PieceLeads, words_in}
use Rattle.node_code.specs.links.ItemLists.{plain, store_code, store_items}
use Rattle.node_code.proofs.ItemAddresses.{part_left}
use Rattle.node_code.proofs.Words.{exact_words}
use Rattle.node_code.proofs.LinkedPartRuns.{stays_at, stands_part}
use Rattle.node_code.proofs.LegComposition.{fragment, more_room, marked_leg, mark_part}

pub store_row : (kind : StoreKind) (x : List ℕ) (pc : ℕ) → read x 28 < 2 ^ 64 →
    row (Store kind 29 28 0) x pc ≡ Stores (read x 28) (store_bytes kind) (read x 29)
unfolding row
store_row kind x pc h = let e : displaced (read x 28) 12 0 ≡ read x 28 = displaced_small (read x 28) 0 (lit< tt) (omega (arith, h)) ∙ omega arith in
    ap (λ (a : ℕ). Stores a (store_bytes kind) (read x 29)) e

clean_row : (x : List ℕ) (pc : ℕ) → row (CboClean 28) x pc ≡ Cleans (read x 28)
unfolding row
clean_row x pc = refl

abbrev store_effects : (address bytes value : ℕ) → Bool → List Effect
store_effects address bytes value cleans = Stores address bytes value ∷ (if cleans then Cleans address ∷ [] else [])

abbrev AreMemoryOf : Bool → Type 0
AreMemoryOf cleans = (address bytes value : ℕ) → AreMemory (store_effects address bytes value cleans)

pub store_runs : (kind : StoreKind) (cleans : Bool) (x : List ℕ) (pc : ℕ) → read x 28 < 2 ^ 64 →
    s.RunsFrom (store_code kind cleans) x pc (store_effects (read x 28) (store_bytes kind) (read x 29) cleans) x
store_runs kind true x pc h = s.store (Store kind 29 28 0) (CboClean 28 ∷ []) x pc (read x 28) (store_bytes kind) (read x 29) (Cleans (read x 28) ∷ []) x
    (store_row kind x pc h)
    (s.clean (CboClean 28) [] x (pc + 4) (read x 28) [] x (clean_row x (pc + 4)) (s.stop x (pc + 4 + 4)))
store_runs kind false x pc h = s.store (Store kind 29 28 0) [] x pc (read x 28) (store_bytes kind) (read x 29) [] x (store_row kind x pc h) (s.stop x (pc + 4))

makes : (kind : StoreKind) (k : Kind) (cleans : Bool) → store_bytes kind ≡ bytes_of k → AreMemoryOf cleans → (at : Site (store_items kind cleans)) →
    length (store_code kind cleans) ≤ words_in (store_items kind cleans) at →
    (x : List ℕ) → AreRegisters x → read x 28 < 2 ^ 64 →
    PieceLeads at x (begin_of (store_items kind cleans) at) (end_of (store_items kind cleans) at)
    (Mark ∷ seen_effects (store_effects (read x 28) (bytes_of k) (read x 29) cleans)) (λ y. y ≡ x)
makes kind k cleans e memory at few x are small =
    let leg : GoesThrough at.linking.environment
    (fragment x (begin_of (store_items kind cleans) at) (end_of (store_items kind cleans) at) (length (store_code kind cleans)))
    (Mark ∷ seen_effects (store_effects (read x 28) (store_bytes kind) (read x 29) cleans)) (λ y. y ≡ x) =
    marked_leg at.items at.linking at.position (Store kind 29 28 0) (if cleans then CboClean 28 ∷ [] else []) at.is_part x x
    (store_effects (read x 28) (store_bytes kind) (read x 29) cleans)
    (store_runs kind cleans x (begin_of (store_items kind cleans) at) small) (memory (read x 28) (store_bytes kind) (read x 29)) in
    more_room at.linking.environment x (begin_of (store_items kind cleans) at) (end_of (store_items kind cleans) at) (length (store_code kind cleans))
    (words_in (store_items kind cleans) at)
    (Mark ∷ seen_effects (store_effects (read x 28) (bytes_of k) (read x 29) cleans)) (λ y. y ≡ x) few
    (subst (λ (b : ℕ). GoesThrough at.linking.environment (fragment x (begin_of (store_items kind cleans) at) (end_of (store_items kind cleans) at)
    (length (store_code kind cleans)))
    (Mark ∷ seen_effects (store_effects (read x 28) b (read x 29) cleans)) (λ y. y ≡ x)) e leg)

-- the store stands at the begin
store_stands : (kind : StoreKind) (cleans : Bool) (at : Site (store_items kind cleans)) →
    IsInstructionAt at.linking.program.start at.linking.program.code (begin_of (store_items kind cleans) at) (Store kind 29 28 0)
store_stands kind cleans at =
    let q : IsPart at.items (at.position + 1) (plain (store_code kind cleans)) =
    mark_part at.items at.linking at.position (plain (store_code kind cleans)) at.is_part in
    subst (λ (a : ℕ). IsInstructionAt at.linking.program.start at.linking.program.code a (Store kind 29 28 0))
    (stays_at at.items at.linking at.position MarkNext (plain (store_code kind cleans)) at.is_part refl)
    (stands_part at.items at.linking (at.position + 1) (Store kind 29 28 0)
    (part_left at.items (at.position + 1) (Instruction (Store kind 29 28 0) ∷ []) (plain (if cleans then CboClean 28 ∷ [] else [])) q))

pub is_store : (kind : StoreKind) (k : Kind) (cleans : Bool) → store_bytes kind ≡ bytes_of k → IsStorePiece k cleans (store_items kind cleans)
is_store kind k true e = record {
  closed = record { waits = refl; labels = λ label. refl };
  few = omega arith;
  fences = refl;
  code = record { width = kind; width_is = e; items_are = refl };
  at = λ at. record {
    makes = makes kind k true e (λ a b v. (refl, (refl, tt))) at
        (let w : words_in (store_items kind true) at ≡ 2 = exact_words (store_items kind true) at (refl, (refl, (refl, tt))) in omega (arith, w));
    instr = Store kind 29 28 0;
    stands = store_stands kind true at;
    first = λ x small. store_row kind x (begin_of (store_items kind true) at) small ∙ ap (λ (b : ℕ). Stores (read x 28) b (read x 29)) e;
    marks = refl;
    resumes = refl;
  };
}
is_store kind k false e = record {
  closed = record { waits = refl; labels = λ label. refl };
  few = omega arith;
  fences = refl;
  code = record { width = kind; width_is = e; items_are = refl };
  at = λ at. record {
    makes = makes kind k false e (λ a b v. (refl, tt)) at
        (let w : words_in (store_items kind false) at ≡ 1 = exact_words (store_items kind false) at (refl, (refl, tt)) in omega (arith, w));
    instr = Store kind 29 28 0;
    stands = store_stands kind false at;
    first = λ x small. store_row kind x (begin_of (store_items kind false) at) small ∙ ap (λ (b : ℕ). Stores (read x 28) b (read x 29)) e;
    marks = refl;
    resumes = refl;
  };
}

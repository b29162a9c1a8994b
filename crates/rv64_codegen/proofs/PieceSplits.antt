-- A node's piece where it stands, as its three parts.
use Rattle.std.proofs.Common.{◌≡◌, ℕ, ◌+◌, List, ◌++◌, length, map, ap, sym, ◌∙◌, Bool}
use Rattle.rv64_isa.specs.declared.object.CodeItem.{CodeItem}
use Rattle.rv64_link.specs.LabelledCode.{positions_from}
use Rattle.code_runs.specs.CodeTraces.{Program}
use Rattle.node_code.proofs.Public.{positions_append, map_append}
use Rattle.thread_code.specs.Plans.{Thread}
use Rattle.rv64_codegen.proofs.PieceSites.{IsLinkedIn, IsSited}

-- items written otherwise stand at the same place
abbrev pub sited_as : (t : Thread) → (program : Program) → (items : List CodeItem) → (n : IsLinkedIn program items) → (entry : ℕ → ℕ) → (node : ℕ) →
    (piece same : List CodeItem) → piece ≡ same → IsSited t program items n entry node piece → IsSited t program items n entry node same
sited_as t program items n entry node piece same e sited = record {
  position = sited.position;
  is_part = record {
    before = sited.is_part.before;
    after = sited.is_part.after;
    split = sited.is_part.split ∙ ap (λ (xs : List CodeItem). sited.is_part.before ++ (xs ++ sited.is_part.after)) e;
    at = sited.is_part.at;
  };
  closed = sited.closed;
  begin = sited.begin;
  end = ap (λ (xs : List CodeItem). n.linked.address_of (sited.position + length xs)) (sym e) ∙ sited.end;
  labels = sited.labels;
}

-- the addresses of items that pass a test are those of each part
pub addresses_split : (at : ℕ → ℕ) (test : CodeItem → Bool) (k : ℕ) (before does goes : List CodeItem) →
    map at (positions_from k test (before ++ (does ++ goes))) ≡
    map at (positions_from k test before) ++
    (map at (positions_from (k + length before) test does) ++ map at (positions_from (k + length before + length does) test goes))
addresses_split at test k before does goes =
    ap (λ (ns : List ℕ). map at ns) (positions_append k test before (does ++ goes)) ∙
    map_append at (positions_from k test before) (positions_from (k + length before) test (does ++ goes)) ∙
    ap (λ (ns : List ℕ). map at (positions_from k test before) ++ map at ns) (positions_append (k + length before) test does goes) ∙
    ap (λ (ns : List ℕ). map at (positions_from k test before) ++ ns)
    (map_append at (positions_from (k + length before) test does) (positions_from (k + length before + length does) test goes))

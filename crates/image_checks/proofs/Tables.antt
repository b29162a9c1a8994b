-- Each live local of a table of places has a home and its kind, and banks have room for its locks.
use Rattle.std.proofs.Common.{◌≡◌, refl, inl, inr, ℕ, zero, suc, ◌<◌, ◌≤◌, List, [], ◌∷◌, length, map, get_or, sym, ap, ◌∙◌, subst, arith, Some}
use Rattle.std.specs.Prelude.{slice_get, slice_index_or, Vec}
use Rattle.std.specs.Global.{Global}
use Rattle.std.proofs.lemmas.Bool.{cases_lt}
use Rattle.std.proofs.lemmas.List.{get_or_default, get_or_past, length-map}
use Rattle.std.proofs.lemmas.List.Elements.{Contains-get_or}
use Rattle.std.proofs.lemmas.Option.{none-some, same_Some, slice_get-get_or}
use Rattle.log_schemes.specs.declared.keeping.Keeping.{Keeping}
use Rattle.log_schemes.specs.declared.keeping.Keeping.TheVariants.{Masked, Listed}
use Rattle.ido_ints.specs.declared.kinds.Kind.{Kind}
use Rattle.log_schemes.specs.Schemes as schemes
use Rattle.log_schemes.specs.Schemes.{HaveRoom, keeping_of}
use Rattle.log_schemes.specs.declared.log.TheConstants.{MOST_LISTED}
use Rattle.c_tree.specs.Flats as f
use Rattle.c_tree.specs.Values.{lock_number}
use Rattle.thread_code.specs.Plans.{Plan, Thread, IsPlan, IsThread, IsNodeOf, held_names_before, locks_before, locks_held, names_in, set_before}
use Rattle.thread_code.specs.Programs.{IsThreadCode}
use Rattle.code_runs.specs.CodeTraces.{Program}
use Rattle.recovered_threads.specs.RecordDescriptions.{Codes}
use Rattle.rv64_codegen.proofs.Public.{set_long}
use Rattle.flat_compile.specs.declared.resumes.LiveLocal.{LiveLocal}
use Rattle.flat_compile.specs.declared.resumes.Resume.{Resume}
use Rattle.flat_compile.specs.ResumePlaces.{IsFound, AreResumes, IsResumeTable, resumes_at}
use Rattle.flat_compile.proofs.Public.{few_colours}
use Rattle.image_checks.specs.Checks.{kinds_of_thread}
use Rattle.image_checks.specs.ResumeSlots.{HaveSlots, AllHaveSlots, TablesHaveSlots, HasRoom, AllHaveRoom, TablesHaveRoom}
use Rattle.image_checks.specs.ResumeSlots.{HaveKinds, AllHaveKinds, TablesHaveKinds}
use Rattle.image_checks.proofs.HeldSets.{as_many_held, of_mask}
use Rattle.image_checks.proofs.Points.{table_at}

live_slots : (p : Plan) (t : Thread) (r : Resume) → IsPlan p → IsThread p t → IsFound p t r → HaveSlots r.live.items
live_slots p t r plan is found k d within =
    let l : LiveLocal = get_or r.live.items k d in
    let live = (found.live l).0 (Contains-get_or r.live.items k d within) in
    few_colours p plan t is l.local l.colour live.coloured

resumes_slots : (p : Plan) (t : Thread) (program : Program) (code : IsThreadCode p t program) (rs : List Resume) →
    IsPlan p → IsThread p t → AreResumes p t program code rs → AllHaveSlots rs
resumes_slots p t program code rs plan is are k d within =
    live_slots p t (get_or rs k d) plan is (are.each k (get_or rs k d) (slice_get-get_or rs k d within)).found

pub table_slots : (p : Plan) → IsPlan p → (codes : Codes p) (table : List (Vec Resume Global)) → IsResumeTable p codes table → TablesHaveSlots table
table_slots p plan codes table is k d within =
    let below : k < length p.graph.threads = subst (λ (n : ℕ). k < n) is.count within in
    let code = codes.each k below in
    let rs : Vec Resume Global = get_or table k d in
    let same : resumes_at table k ≡ rs.items = sym (table_at table k rs within (get_or_default table k d rs within)) in
    subst AllHaveSlots same (resumes_slots p code.thread code.program code.is (resumes_at table k) plan code.of (is.each k below))

-- ---- Room for locks

module _ (p : Plan) (plan : IsPlan p) (t : Thread) (is : IsThread p t) (node : ℕ) (own : IsNodeOf t node) where
  few_held : schemes.HasRoom Listed (locks_before p t [] node) → length (locks_held (set_before p t node)) ≤ MOST_LISTED
  few_held few =
      omega (
        arith,
        few,
        length-map (held_names_before p t node) (lock_number []),
        as_many_held 0 (names_in p t) (set_before p t node) (set_long p plan t is node own),
      )

  set_room : (k : Keeping) → keeping_of p.log ≡ k → schemes.HasRoom k (locks_before p t [] node) → schemes.HasRoom k (locks_held (set_before p t node))
  set_room Masked masked room = of_mask p plan t is (plan.plain masked) node
  set_room Listed listed room = few_held room

place_room : (p : Plan) (plan : IsPlan p) → (t : Thread) (r : Resume) → IsThread p t → IsFound p t r → HasRoom p.log r
place_room p plan t r is found =
    subst (HaveRoom p.log) (sym found.held_is) (set_room p plan t is r.node found.own (keeping_of p.log) refl (plan.room t [] r.node))

places_room : (p : Plan) (plan : IsPlan p) → (t : Thread) (program : Program) (code : IsThreadCode p t program) (rs : List Resume) → IsThread p t →
    AreResumes p t program code rs → AllHaveRoom p.log rs
places_room p plan t program code rs is are k d within =
    place_room p plan t (get_or rs k d) is (are.each k (get_or rs k d) (slice_get-get_or rs k d within)).found

pub table_room : (p : Plan) (plan : IsPlan p) → (codes : Codes p) (table : List (Vec Resume Global)) → IsResumeTable p codes table →
    TablesHaveRoom p.log table
table_room p plan codes table is k d within =
    let below : k < length p.graph.threads = subst (λ (n : ℕ). k < n) is.count within in
    let code = codes.each k below in
    let rs : Vec Resume Global = get_or table k d in
    let same : resumes_at table k ≡ rs.items = sym (table_at table k rs within (get_or_default table k d rs within)) in
    subst (AllHaveRoom p.log) same (places_room p plan code.thread code.program code.is (resumes_at table k) code.of (is.each k below))

-- ---- Kinds of live locals

-- a thread's kinds are those of the form's
kinds_at : (ts : List f.Thread) (n : ℕ) (text : f.Thread) → slice_get ts n ≡ Some text →
    slice_index_or (map (λ (u : f.Thread). u.locals) ts) n [] ≡ text.locals
kinds_at [] n text there = absurd (none-some text there)
kinds_at (u ∷ ts) zero text there = ap (λ (z : f.Thread). z.locals) (same_Some u text there)
kinds_at (u ∷ ts) (suc n) text there = kinds_at ts n text there

pub kinds_are : (p : Plan) (t : Thread) (of : IsThread p t) → kinds_of_thread p.flat t.number ≡ t.kinds
kinds_are p t of = kinds_at p.flat.threads t.number of.text of.of_text ∙ sym of.kinds

place_kinds : (p : Plan) (t : Thread) (r : Resume) → IsFound p t r → HaveKinds t.kinds r.live.items
place_kinds p t r found k d within = ((found.live (get_or r.live.items k d)).0 (Contains-get_or r.live.items k d within)).kind_is

places_kinds : (p : Plan) (t : Thread) (program : Program) (code : IsThreadCode p t program) (rs : List Resume) → AreResumes p t program code rs →
    AllHaveKinds t.kinds rs
places_kinds p t program code rs are k d within = place_kinds p t (get_or rs k d) (are.each k (get_or rs k d) (slice_get-get_or rs k d within)).found

no_places : (rs : List Resume) (kinds : List Kind) → rs ≡ [] → AllHaveKinds kinds rs
no_places [] kinds none k d within = absurd (omega (arith, within))
no_places (r ∷ rs) kinds none k d within = absurd (cc)

pub table_kinds : (p : Plan) (codes : Codes p) (table : List (Vec Resume Global)) → IsResumeTable p codes table → TablesHaveKinds p.flat table
table_kinds p codes table is n = elim (cases_lt n (length p.graph.threads)) [
  | inl below ↦
      let code = codes.each n below in
      let kinds : kinds_of_thread p.flat n ≡ code.thread.kinds =
      ap (kinds_of_thread p.flat) (sym (codes.number n below)) ∙ kinds_are p code.thread code.of in
      subst (λ (ks : List Kind). AllHaveKinds ks (resumes_at table n)) (sym kinds)
      (places_kinds p code.thread code.program code.is (resumes_at table n) (is.each n below))
  | inr past ↦
      no_places (resumes_at table n) (kinds_of_thread p.flat n)
      (get_or_past (map (λ (rs : Vec Resume Global). rs.items) table) n []
      (omega (arith, past, is.count, length-map table (λ (rs : Vec Resume Global). rs.items))))
]

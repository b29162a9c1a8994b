use Rattle.std.proofs.Common.{◌≡◌, ℕ, [], ◌∷◌, ◌<◌, List, length, length-append, map, get_or, slice_get, Some, ap, sym, subst, ◌∙◌, arith, inl, inr}
use Rattle.rv64_isa.specs.declared.object.ThreadMarks.{ThreadMarks}
use Rattle.rv64_isa.specs.declared.object.Slot.{Slot}
use Rattle.rv64_isa.specs.Programs.{code_of, code_start, slot_of}
use Rattle.machine_model.specs.Objects.{program_of}
use Rattle.ido_machine.proofs.Lists.{get_is, get_map, get_push}
use Rattle.ido_machine.specs.declared.signs.SignTable.{SignTable}
use Rattle.ido_machine.specs.links.SignTables.{IsTableOf}
use Rattle.ido_machine.proofs.signs.tables_of.Goals as goal

pub loop-thread-preserved : goal.loop-thread-preserved
loop-thread-preserved c =
    let object = c.args.object.now in
    let threads = c.args.marks.now.threads.items in
    let t = c.loop-thread.thread in
    let tables = c.loop-thread.tables.items in
    let inv = c.loop-thread.invariant in
    let it : SignTable = c.in_ok-of.field-0 in
    let code = c.index-words.result.now in
    let marks : ThreadMarks = c.index.result.now in
    let in_code : t < length object.code.items = omega (arith, c.loop-thread-test.true, c.len-thread-end.ensures, object.code.ok.0) in
    let in_marks : t < length threads = omega (arith, in_code, c.requires.threads) in
    let code_is : code_of (program_of object) t ≡ map slot_of code.items =
    get_map (λ x. map slot_of x.items) object.code.items t code [] (get_is object.code.items t code in_code ∙ ap Some (sym c.index-words.ensures)) in
    let marks_is : get_or (map (λ (x : ThreadMarks). x.nodes.items) threads) t [] ≡ marks.nodes.items =
    get_map (λ (x : ThreadMarks). x.nodes.items) threads t marks [] (get_is threads t marks in_marks ∙ ap Some (sym c.index.ensures)) in
    let start_is : c.start_of-start.result ≡ code_start (program_of object) t =
    c.start_of-start.ensures ∙ ap (λ (p : List (List Slot)). code_start p t) c.requires.program in
    let words_is : map slot_of c.deref.result.now ≡ code_of (program_of object) t = ap (map slot_of) c.deref.ensures.value ∙ sym code_is in
    let here : IsTableOf it (code_start (program_of object) t) (code_of (program_of object) t)
    (get_or (map (λ (x : ThreadMarks). x.nodes.items) threads) t []) =
    subst (λ (a : List ℕ). IsTableOf it (code_start (program_of object) t) (code_of (program_of object) t) a)
    (c.deref-in-loop-thread.ensures.value ∙ sym marks_is)
    (subst (λ (n : List Slot). IsTableOf it (code_start (program_of object) t) n c.deref-in-loop-thread.result.now) words_is
    (subst (λ (s : ℕ). IsTableOf it s (map slot_of c.deref.result.now) c.deref-in-loop-thread.result.now) start_is c.in_ok-of.ensures)) in
    record {
      count = omega (arith, ap length c.in_ok-push.ensures.items, length-append tables (it ∷ []), inv.count);
      each = λ thread table e.
          elim (get_push tables thread it table (subst (λ (xs : List SignTable). slice_get xs thread ≡ Some table) c.in_ok-push.ensures.items e)) [
            | inl was ↦ inv.each thread table was
            | inr p ↦
                let at : t ≡ thread = sym (p.0 ∙ inv.count) in
                subst (λ (n : ℕ). IsTableOf table (code_start (program_of object) n) (code_of (program_of object) n)
                (get_or (map (λ (x : ThreadMarks). x.nodes.items) threads) n [])) at
                (subst (λ (x : SignTable). IsTableOf x (code_start (program_of object) t) (code_of (program_of object) t)
                (get_or (map (λ (x : ThreadMarks). x.nodes.items) threads) t [])) p.1 here)
          ];
    }

-- What is known of a source that is compiled.
use Rattle.std.proofs.Common.{◌≡◌, ℕ, List, length, map, sym, ap, ◌∙◌, subst}
use Rattle.std.proofs.lemmas.List.{length-map}
use Rattle.log_schemes.specs.declared.log.Log.{Log}
use Rattle.c_tree.specs.Flats.{Flat, flat_of}
use Rattle.rv64_isa.specs.Programs.{slot_of}
use Rattle.machine_model.specs.Executables.{Executable}
use Rattle.hart_core.specs.Objects.{IsWithinLimits}
use Rattle.c_tree.specs.WellFormed.{IsWellFormed, shape_of}
use Rattle.memory_layout.specs.Variables.{HaveRoom}
use Rattle.variable_words.proofs.Public.{well_formed_placed}
use Rattle.ido_compile.specs.declared.compiler.Compiled.{Compiled}
use Rattle.ido_compile.specs.CompileAnswers.{IsCompiledAs}
use Rattle.flat_compile.specs.TranslatedForms.{IsTranslatedAs}
use Rattle.image_checks.specs.ResumeSlots.{TablesHaveKinds, TablesHaveRoom, TablesHaveSlots}
use Rattle.image_checks.proofs.Public.{table_kinds, table_room, table_slots}

-- what is compiled is so for the log that its object names
pub by_object : (log : Log) (text : List ℕ) (c : Compiled) → IsCompiledAs log text c → IsCompiledAs c.translated.object.log text c
by_object log text c is = subst (λ (l : Log). IsCompiledAs l text c) (sym is.translated.log) is

pub translated_by_object : (log : Log) (text : List ℕ) (c : Compiled) → IsCompiledAs log text c → let made = c.translated in
    IsTranslatedAs made.object.log (flat_of c.flat) made.object made.marks made.cuts
translated_by_object log text c is = (by_object log text c is).translated

pub record IsReady (log : Log) (c : Compiled) : Type 0 where
  pub formed : IsWellFormed (flat_of c.flat)
  pub room : HaveRoom (map shape_of (flat_of c.flat).variables)
  pub kinds : TablesHaveKinds (flat_of c.flat) c.translated.resumes.items
  pub slots : TablesHaveSlots c.translated.resumes.items
  pub locks : TablesHaveRoom log c.translated.resumes.items
  pub count : length c.translated.resumes.items ≡ length c.translated.object.code.items
  pub limits : IsWithinLimits c.translated.object

pub ready : (log : Log) (text : List ℕ) (c : Compiled) → IsCompiledAs log text c → IsReady log c
ready log text c is =
    let t = is.resumable.translated in
    let y = t.system in
    record {
      formed = subst IsWellFormed t.of_flat t.is.plan.formed;
      room = subst (λ (x : Flat). HaveRoom (map shape_of x.variables)) t.of_flat (well_formed_placed y.plan.flat t.is.plan.formed).room;
      kinds = subst (λ (x : Flat). TablesHaveKinds x c.translated.resumes.items) t.of_flat
          (table_kinds y.plan t.is.codes c.translated.resumes.items is.resumable.are);
      slots = table_slots y.plan t.is.plan t.is.codes c.translated.resumes.items is.resumable.are;
      locks = subst (λ (l : Log). TablesHaveRoom l c.translated.resumes.items)
          (t.is.log ∙ (ap (λ (x : Executable). x.log) t.runs ∙ t.log))
          (table_room y.plan t.is.plan t.is.codes c.translated.resumes.items is.resumable.are);
      count =
          is.resumable.are.count ∙ sym t.is.count ∙ ap (λ (x : Executable). length x.program) t.runs
          ∙ length-map c.translated.object.code.items (λ code. map slot_of code.items);
      limits = t.limits;
    }

-- A source that two numbers give is compiled, and its threads take locks in their order.
use Rattle.std.proofs.Common.{◌≡◌, ℕ, ◌^◌, ◌<◌, List, None, subst}
use Rattle.std.specs.Prelude.{Err}
use Rattle.command_words.specs.declared.scheme.SchemeName.{SchemeName}
use Rattle.command_words.specs.declared.scheme.SchemeName.TheVariants.{Ido, Justdo}
use Rattle.c_tree.specs.Flats.{Flat, flat_of}
use Rattle.generated_programs.specs.Laws.{GeneratedAreOrdered, IsOrderedProgram}
use Rattle.ido_compile.specs.CompileAnswers.{IsCompileAnswerAs, IsCompiledAs}
use Rattle.ido_compile.specs.LoggedTexts.{IsAcceptedAs}
use Rattle.ido_compile.specs.Verdicts.{NotBoth, OneFlat}
use Rattle.ido_compile.specs.declared.compiler.Compiled.{Compiled}
use Rattle.ido_compile.specs.declared.error.CompileError.{CompileError}
use Rattle.ido_compile.specs.declared.error.CompileError.TheVariants as error
use Rattle.c_tree.specs.declared.refusal.Refusal.{Refusal}
use Rattle.lock_order.specs.LockOrder.{order_fault}
use Rattle.run_scripts.specs.GeneratedSources.{generated_source}
use Rattle.ido_cli.specs.Schemes.{log_by}

is_accepted : (scheme : SchemeName) (text : List ℕ) (flat : Flat) → IsOrderedProgram text flat → IsAcceptedAs (log_by scheme) text flat
is_accepted Ido text flat is = record { form = is.form; disciplined = is.disciplined; room = is.room; shallow = is.shallow }
is_accepted Justdo text flat is = record { form = is.form; disciplined = is.disciplined; room = is.room; shallow = is.shallow }

module _ (scheme : SchemeName) (ordered : GeneratedAreOrdered) (rounds seed : ℕ) (small : rounds < 2 ^ 32) where
  pub never_refused : NotBoth → (text : List ℕ) → text ≡ generated_source rounds seed → (x : CompileError) (found : Refusal) → x ≡ error.Refused found →
      IsCompileAnswerAs (log_by scheme) text (Err x) → ⊥
  never_refused not_both text is x found refused answer =
      let it = ordered rounds seed small in
      not_both (log_by scheme) (generated_source rounds seed) it.0 found.rule found.place (is_accepted scheme (generated_source rounds seed) it.0 it.1)
      (subst (λ (s : List ℕ). IsCompileAnswerAs (log_by scheme) s (Err (error.Refused found))) is
      (subst (λ (y : CompileError). IsCompileAnswerAs (log_by scheme) text (Err y)) refused answer))

  pub compiled_in_order : OneFlat → (c : Compiled) → IsCompiledAs (log_by scheme) (generated_source rounds seed) c → order_fault (flat_of c.flat) ≡ None
  compiled_in_order one_flat c is =
      let it = ordered rounds seed small in
      let same = one_flat (log_by scheme) (log_by scheme) (generated_source rounds seed) it.0 (flat_of c.flat)
      (is_accepted scheme (generated_source rounds seed) it.0 it.1) is.accepted in
      subst (λ (x : Flat). order_fault x ≡ None) same it.1.in_order

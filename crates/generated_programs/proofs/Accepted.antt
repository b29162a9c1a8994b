-- Generated sources are accepted.
use Rattle.std.proofs.Common.{◌≡◌, ℕ, ◌%◌, ◌^◌, ◌<◌, List, [], ◌∷◌, refl, ap, sym, subst, ◌∙◌, arith}
use Rattle.std.specs.Prelude.{Contains}
use Rattle.c_tree.specs.declared.language.Language.TheVariants.{Full}
use Rattle.c_tree.specs.AcceptedTexts.{HasNoBack, IsTyped, IsRanged, IsFlattened}
use Rattle.c_tree.specs.Inlining.{calls_in, flat_form}
use Rattle.c_tree.specs.Programs as p
use Rattle.c_tree.specs.LexicalScan.{Scanned, scanned}
use Rattle.c_tree.specs.Grammar.{program}
use Rattle.c_tree.specs.Ranges.{program_indexes, index_fits}
use Rattle.c_tree.specs.TextReadings.{IsRead, nests_high}
use Rattle.flow_graph.specs.Lowering.{lowered}
use Rattle.run_scripts.specs.GeneratedSources.{generated_source}
use Rattle.generated_programs.specs.Laws.{IsOrderedProgram, GeneratedAreOrdered}
use Rattle.generated_programs.proofs.Scans.{scanned_whole, whole}
use Rattle.generated_programs.proofs.Trees.{Reading, items, source_tokens}
use Rattle.generated_programs.proofs.Derivations.{source_spelled}
use Rattle.generated_programs.proofs.Rooms.{each_passes, has_room}
use Rattle.generated_programs.proofs.Sources.{reading_of, source_scans}
use Rattle.generated_programs.proofs.RuleChecks.{program_of, faultless, all_fit, never_null, no_functions, short, low, disciplined, shallow, roomy, in_order}

-- where there is no function no call leads back
no_calls : (x : p.Program) → x.functions ≡ [] → HasNoBack x
no_calls x none c back = by x.functions none back.made
  where
    by : (fs : List p.Function) → fs ≡ [] → Contains (calls_in fs back.caller) c → ⊥
    by [] e (k, h, q) = omega (arith, h)
    by (f ∷ fs) e made = absurd (cc)

module _ (rounds seed : ℕ) (small : rounds < 2 ^ 32) where
  abbrev text_is : List ℕ
  text_is = generated_source rounds seed

  abbrev first_is : ℕ
  first_is = seed % 4

  first_below : first_is < 4
  first_below = omega arith

  abbrev reading_is : Reading
  reading_is = reading_of rounds seed

  abbrev program_is : p.Program
  program_is = program_of reading_is first_is

  scanned_is : scanned Full text_is ≡ whole (source_tokens first_is reading_is)
  scanned_is = scanned_whole text_is (source_tokens first_is reading_is) (source_scans rounds seed small)

  is_read : IsRead Full text_is (items first_is reading_is)
  is_read = record {
    scanned_whole = ap (λ (s : Scanned). s.fault) scanned_is;
    low = ap (λ (s : Scanned). nests_high s.tokens) scanned_is ∙ low reading_is first_is;
    spelled = subst (λ (s : Scanned). program Full (items first_is reading_is) s.tokens) (sym scanned_is) (source_spelled first_is reading_is);
  }

  is_typed : IsTyped Full text_is program_is
  is_typed = record { items = items first_is reading_is; read = is_read; faultless = faultless reading_is first_is first_below; typed = refl }

  is_ranged : IsRanged Full text_is program_is
  is_ranged = record {
    typed = is_typed;
    fits = λ i made. each_passes (index_fits program_is.variables program_is.mutexes) (program_indexes program_is) i
        (all_fit reading_is first_is first_below) made;
    never_null = never_null reading_is first_is first_below;
  }

  is_flattened : IsFlattened Full text_is (flat_form program_is)
  is_flattened = record {
    program = program_is;
    ranged = is_ranged;
    ends = no_calls program_is (no_functions reading_is first_is);
    short = short reading_is first_is first_below;
    flattened = refl;
  }

  is_ordered_program : IsOrderedProgram text_is (flat_form program_is)
  is_ordered_program = record {
    form = is_flattened;
    disciplined = disciplined reading_is first_is first_below;
    room = has_room (lowered (flat_form program_is)) (roomy reading_is first_is first_below);
    shallow = shallow reading_is first_is first_below;
    in_order = in_order reading_is first_is first_below;
  }

pub generated_are_ordered : GeneratedAreOrdered
generated_are_ordered rounds seed small = (flat_form (program_is rounds seed small), is_ordered_program rounds seed small)

-- What `type_tree` answers: the program where no rule of names and kinds is broken, else the first place where one is.
use Rattle.std.specs.Prelude.{◌≡◌, List, [], Result, Ok, Err}
use Rattle.c_tree.specs.declared.language.Language.{Language}
use Rattle.c_tree.specs.Trees as t
use Rattle.c_tree.specs.Programs.{program_of}
use Rattle.c_tree.specs.TypeRules.{IsFirst, type_faults}
use Rattle.c_tree.specs.Elaboration.{typed_program}
use Rattle.c_tree.specs.declared.program.Program.{Program}
use Rattle.c_tree.specs.declared.refusal.SourceError.{SourceError}
use Rattle.c_tree.specs.declared.refusal.SourceError.TheVariants as error
use Rattle.c_tree.specs.Refusals.{fault_of}

abbrev pub Answers : Language → List t.Item → Result Program SourceError → Type 0
Answers l xs (Ok x) = (type_faults l xs ≡ []) × (program_of x ≡ typed_program xs)
Answers l xs (Err (error.Refused x)) = IsFirst (type_faults l xs) (fault_of x)
Answers l xs (Err error.Memory) = Unit {0}

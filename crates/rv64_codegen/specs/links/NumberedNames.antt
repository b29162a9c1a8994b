-- The codes of the numbers of held names, one after another.
use Rattle.std.specs.Prelude.{◌≡◌, List, [], ◌∷◌, ◌++◌, Bool, true, false}
use Rattle.c_tree.specs.Exprs as e
use Rattle.rv64_isa.specs.declared.instr.Instr.{Instr}
use Rattle.expr_code.specs.EvaluationCode.{Homes}
use Rattle.rv64_codegen.specs.links.Numbers.{IsNumberCode}

-- where the name is held its code comes after the codes
abbrev pub IsNumberedMore : Homes → (address : List Instr) → e.LockName → (is_held : Bool) → (old new : List (List Instr)) → Type 0
IsNumberedMore h address x true old new = (code : List Instr) × IsNumberCode h address x code × (new ≡ old ++ code ∷ [])
IsNumberedMore h address x false old new = new ≡ old

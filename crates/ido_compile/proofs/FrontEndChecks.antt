-- What a check's error is handed on as.
use Rattle.std.proofs.Common.{◌≡◌, sym, subst, IsErrAnd}
use Rattle.std.specs.Prelude.{Result, Ok, Err}
use Rattle.ido_compile.specs.declared.error.CompileError.{CompileError}

pub by_error : {X : Type 0} (Meets : Result X CompileError → Type 0) (x : CompileError) (r : Result X CompileError) →
    IsErrAnd r (λ e. e ≡ x) → Meets (Err x) → Meets r
by_error Meets x (Ok y) h a = absurd h
by_error Meets x (Err e) h a = subst (λ (z : CompileError). Meets (Err z)) (sym h) a

-- What a machine can run, and where a program's threads begin.
use Rattle.std.specs.Prelude.{◌≡◌, ℕ, ◌%◌, ◌≤◌, length, All}
use Rattle.ido_base.specs.declared.limits.TheConstants.{MOST_THREADS, MOST_CODE_WORDS, MOST_VARIABLE_BYTES}
use Rattle.log_schemes.specs.Schemes.{most_locks}
use Rattle.machine_model.specs.declared.object.Object.{Object}

-- at most 8 threads of 1 to 65,536 words, 64 mutexes or 1,024 by the log, and 65,536 initial bytes, a multiple of 8
pub record IsWithinLimits (object : Object) : Type 0 where
  pub threads : length object.code.items ≤ MOST_THREADS
  pub some_words : All (λ code. 1 ≤ length code.items) object.code.items
  pub few_words : All (λ code. length code.items ≤ MOST_CODE_WORDS) object.code.items
  pub mutexes : object.mutexes ≤ most_locks object.log
  pub bytes : length object.initial.items ≤ MOST_VARIABLE_BYTES
  pub whole_words : length object.initial.items % 8 ≡ 0

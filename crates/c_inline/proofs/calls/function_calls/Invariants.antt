use Rattle.std.proofs.Common.{◌≡◌, map, take}
use Rattle.c_tree.specs.Programs.{function_of}
use Rattle.c_inline.specs.links.Calls.{function_calls, lists_of}
use Rattle.c_inline.proofs.calls.function_calls.Given as goal

abbrev pub invariant-loop-function : goal.invariant-loop-function
invariant-loop-function l = lists_of l.all.items ≡ map function_calls (map function_of (take l.function-index l.functions))

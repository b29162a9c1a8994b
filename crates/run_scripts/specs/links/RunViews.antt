-- What a run of the code stands for.
use Rattle.run_scripts.specs.Runs as r
use Rattle.run_scripts.specs.declared.runs.Run.{Run}

abbrev pub run_of : Run → r.Run
run_of x = record { thread = x.thread; steps = x.steps }

-- What stands before the code, as the code holds it.
use Rattle.object_format.specs.ObjectDecoder as r
use Rattle.object_format.specs.declared.reading.Head.{Head}

abbrev pub head_of : Head → r.Head
head_of x = record { log = x.log; threads = x.threads; mutexes = x.mutexes; initial = x.initial.now }

use Rattle.std.proofs.Common.{◌≡◌, map, drop, take}
use Rattle.c_tree.specs.Programs.{function_of, mutex_of, thread_of}
use Rattle.c_tree.specs.Flats as f
use Rattle.c_tree.specs.Inlining.{flat_thread}
use Rattle.c_inline.specs.links.Faults.{fault_among}
use Rattle.c_inline.proofs.inline.make_threads.Given as goal

abbrev pub invariant-loop-thread : goal.invariant-loop-thread
invariant-loop-thread l =
    let fs = map function_of l.bodies.functions.now in
    let ms = map mutex_of l.mutexes in
    record {
      made : map f.thread_of l.made.items ≡ map (flat_thread fs) (map thread_of (take l.thread-index l.threads));
      left : fault_among l.language ms fs (map thread_of (drop l.thread-index l.threads)) ≡ fault_among l.language ms fs (map thread_of l.threads);
    }

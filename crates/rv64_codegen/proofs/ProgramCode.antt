-- The code of all threads, made of the pieces of their nodes.
use Rattle.std.proofs.Common.{List}
use Rattle.rv64_isa.specs.declared.object.CodeItem.{CodeItem}
use Rattle.thread_code.specs.Plans.{Plan, IsPlan}
use Rattle.rv64_codegen.specs.ThreadPieces.{IsCode}
use Rattle.rv64_codegen.specs.links.Emission.{AreEmitted}
use Rattle.rv64_codegen.proofs.EmittedThreads.{emitted_is_code}

pub are_code : (p : Plan) (threads : List (List CodeItem)) → IsPlan p → AreEmitted p threads → IsCode p threads
are_code p threads plan are = record { count = are.count; each = λ t items th at. emitted_is_code p plan t items th (are.each t items th at) }

-- Steps that reach memory.
use Rattle.std.proofs.Common.{◌≡◌, ℕ, ◌/◌, ◌<◌, ◌≤◌, List, [], ◌∷◌, ◌++◌, length, Option, Some, None, Bool}
use Rattle.std.proofs.Common.{true, false, ◌==◌, nat_lt, refl, sym, ◌∙◌, ap, subst, arith, if◌then◌else◌}
use Rattle.std.proofs.lemmas.Bool.Decides.{nat_tests}
use Rattle.machine_events.specs.declared.event.Reply.TheVariants.{Moved, Drained, Stuck}
use Rattle.machine_events.specs.declared.event.Cause.{Cause}
use Rattle.machine_events.specs.declared.event.Cause.TheVariants.{Outside, Unaligned}
use Rattle.ido_base.specs.Layout.{aligned, byte_number, line_bytes}
use Rattle.log_schemes.specs.Layout.{in_range}
use Rattle.ido_base.specs.Words.{Word, Entry, loaded, stored, drained, entry_of}
use Rattle.line_memory.specs.declared.memory.LineMemory.{LineMemory}
use Rattle.line_memory.specs.declared.queue.Queue.{Queue}
use Rattle.line_memory.specs.links.Queues.{RepresentsQueue, queue_length}
use Rattle.line_memory.specs.links.MemoryRepresentation.{Represents, Logs, logs_of}
use Rattle.line_memory.proofs.Public.{RepresentsQueue-stored, RepresentsQueue-drained}
use Rattle.machine_model.specs.declared.phase.Phase.{Phase}
use Rattle.rv64_isa.specs.Rows.{Loads, Stores, Cleans, Fences, next, written, load_result}
use Rattle.machine_model.specs.Machine.{Hart as HartModel, World, Outcome, applied, access, stuck, moved, gone_on, drain_one, fenced, cleaned}
use Rattle.hart_core.specs.declared.hart.Hart.{Hart}
use Rattle.hart_core.specs.StepsOnParts.{Parts, PartsStand, PartsEnd, IsStep, logs_in}
use Rattle.hart_core.specs.links.Refusals.{refusal}
use Rattle.hart_core.proofs.StepOutcomes.{same_end, changed_end}

-- what an access comes to, by whether it is in range and aligned
refused_by : (r a : Bool) (w : World) (address : ℕ) (cause : Cause) (outcome : Outcome) →
    (if r then (if a then None else Some (Unaligned address)) else Some (Outside address)) ≡ Some cause →
    (if r then (if a then outcome else stuck w (Unaligned address)) else stuck w (Outside address)) ≡ stuck w cause
refused_by true true w address cause outcome e = cc
refused_by true false w address cause outcome e = cc
refused_by false a w address cause outcome e = cc

made_by : (r a : Bool) (w : World) (address : ℕ) (outcome : Outcome) →
    (if r then (if a then None else Some (Unaligned address)) else Some (Outside address)) ≡ None →
    (if r then (if a then outcome else stuck w (Unaligned address)) else stuck w (Outside address)) ≡ outcome
made_by true true w address outcome e = refl
made_by true false w address outcome e = cc
made_by false a w address outcome e = cc

access-refused : (w : World) (logs : Logs) (address bytes : ℕ) (cause : Cause) (outcome : Outcome) → logs_in w ≡ logs →
    refusal logs address bytes ≡ Some cause → access w address bytes outcome ≡ stuck w cause
access-refused w logs address bytes cause outcome same e =
    refused_by (in_range w.log (length w.harts) address bytes) (aligned address bytes) w address cause outcome
    (subst (λ (l : Logs). refusal l address bytes ≡ Some cause) (sym same) e)

access-made : (w : World) (logs : Logs) (address bytes : ℕ) (outcome : Outcome) → logs_in w ≡ logs → refusal logs address bytes ≡ None →
    access w address bytes outcome ≡ outcome
access-made w logs address bytes outcome same e =
    made_by (in_range w.log (length w.harts) address bytes) (aligned address bytes) w address outcome
    (subst (λ (l : Logs). refusal l address bytes ≡ None) (sym same) e)

-- an access that is refused changes nothing
refused_step : (number address bytes : ℕ) (cause : Cause) (parts : Parts) (outcome : World → HartModel → Outcome) →
    refusal (logs_of parts.memory) address bytes ≡ Some cause → IsStep (λ w model. access w address bytes (outcome w model)) number parts parts (Stuck cause)
refused_step number address bytes cause parts outcome refused = record {
  each =
      λ w model s. subst (λ (o : Outcome). PartsEnd parts (Stuck cause) number w o)
      (sym (access-refused w (logs_of parts.memory) address bytes cause (outcome w model) s.logs refused)) (same_end parts (Stuck cause) number w model s);
}

-- a load that is made
pub load_step : (number address bytes register found : ℕ) (signed : Bool) (phase : Phase) (hart : Hart) (memory : LineMemory) (locks : List (Option ℕ)) →
    refusal (logs_of memory) address bytes ≡ None → ((words : List Word) → Represents memory words → found ≡ loaded words (byte_number address) bytes) →
    IsStep (λ w model. applied w number model (Loads address bytes signed register)) number
    (record { phase = phase; hart = hart; memory = memory; locks = locks })
    (record {
      phase = phase;
      hart = record hart { registers = written hart.registers register (load_result bytes signed found); pc = next hart.pc };
      memory = memory;
      locks = locks;
    }) Moved
load_step number address bytes register found signed phase hart memory locks made value = record {
  each = λ w model s.
      let before : Parts = record { phase = phase; hart = hart; memory = memory; locks = locks } in
      let after : Parts = record before {
        hart = record hart { registers = written hart.registers register (load_result bytes signed found); pc = next hart.pc };
      } in
      let there : HartModel = record model {
        registers = written model.registers register (load_result bytes signed (loaded w.words (byte_number address) bytes));
        pc = next model.pc;
      } in
      let read : found ≡ loaded w.words (byte_number address) bytes = value w.words s.words in
      subst (λ (o : Outcome). PartsEnd after Moved number w o) (sym (access-made w (logs_of memory) address bytes (moved w number there) s.logs made))
      (changed_end before after Moved number w model there w.words w.holders s s.words refl s.holders s.phase (record {
        registers =
            ap (λ (n : ℕ). written model.registers register (load_result bytes signed n)) (sym read)
            ∙ ap (λ (x : List ℕ). written x register (load_result bytes signed found)) s.hart.registers;
        pc = ap next s.hart.pc;
        queue = s.hart.queue;
      }) (λ any entries q. q));
}

-- a store that is made
pub store_step : (number address bytes value : ℕ) (phase : Phase) (hart : Hart) (memory memory' : LineMemory) (locks : List (Option ℕ)) →
    refusal (logs_of memory) address bytes ≡ None →
    ((words : List Word) → Represents memory words → Represents memory' (stored words (byte_number address) bytes value)) →
    logs_of memory' ≡ logs_of memory →
    IsStep (λ w model. applied w number model (Stores address bytes value)) number (record { phase = phase; hart = hart; memory = memory; locks = locks })
    (record { phase = phase; hart = record hart { pc = next hart.pc }; memory = memory'; locks = locks }) Moved
store_step number address bytes value phase hart memory memory' locks made stands threads = record {
  each = λ w model s.
      let before : Parts = record { phase = phase; hart = hart; memory = memory; locks = locks } in
      let after : Parts = record { phase = phase; hart = record hart { pc = next hart.pc }; memory = memory'; locks = locks } in
      let words : List Word = stored w.words (byte_number address) bytes value in
      subst (λ (o : Outcome). PartsEnd after Moved number w o)
      (sym (access-made w (logs_of memory) address bytes (moved (record w { words = words }) number (gone_on model)) s.logs made))
      (changed_end before after Moved number w model (gone_on model) words w.holders s (stands w.words s.words) threads s.holders s.phase (record {
        registers = s.hart.registers;
        pc = ap next s.hart.pc;
        queue = RepresentsQueue-stored hart.queue model.queue w.words (byte_number address) bytes value s.hart.queue;
      }) (λ any entries q. RepresentsQueue-stored any entries w.words (byte_number address) bytes value q));
}

-- a queue that isn't full has room
has_room : (n m : ℕ) → n ≡ m → m ≤ 16 → (m == 16) ≡ false → nat_lt n 16 ≡ true
has_room n m e within other = grind (arith, nat_tests)

no_room : (n m : ℕ) → n ≡ m → (m == 16) ≡ true → nat_lt n 16 ≡ false
no_room n m e other = grind (arith, nat_tests)

-- the oldest entry of a queue is written back
drained_end : (number : ℕ) (phase : Phase) (hart : Hart) (memory memory' : LineMemory) (queue' : Queue) (locks : List (Option ℕ)) (w : World)
    (model : HartModel) (entries : List Entry) → model.queue ≡ entries → 0 < length entries →
    ((words : List Word) (e : Entry) (es : List Entry) → Represents memory words → RepresentsQueue hart.queue (e ∷ es) words →
    Represents memory' (drained words e) × RepresentsQueue queue' es (drained words e)) → logs_of memory' ≡ logs_of memory →
    PartsStand (record { phase = phase; hart = hart; memory = memory; locks = locks }) number w model →
    PartsEnd (record { phase = phase; hart = record hart { queue = queue' }; memory = memory'; locks = locks }) Drained number w
    (drain_one w number model entries)
drained_end number phase hart memory memory' queue' locks w model [] same some stands threads s = absurd (omega arith)
drained_end number phase hart memory memory' queue' locks w model (e ∷ es) same some stands threads s =
    let before : Parts = record { phase = phase; hart = hart; memory = memory; locks = locks } in
    let after : Parts = record { phase = phase; hart = record hart { queue = queue' }; memory = memory'; locks = locks } in
    let both : Represents memory' (drained w.words e) × RepresentsQueue queue' es (drained w.words e) =
    stands w.words e es s.words (subst (λ (q : List Entry). RepresentsQueue hart.queue q w.words) same s.hart.queue) in
    changed_end before after Drained number w model (record model { queue = es }) (drained w.words e) w.holders s both.0 threads s.holders s.phase
    (record { registers = s.hart.registers; pc = s.hart.pc; queue = both.1 }) (λ any entries q. RepresentsQueue-drained any entries w.words e q)

-- a clean that meets a full queue
pub full_step : (number address : ℕ) (phase : Phase) (hart : Hart) (memory memory' : LineMemory) (queue' : Queue) (locks : List (Option ℕ)) →
    refusal (logs_of memory) address 1 ≡ None → (queue_length hart.queue == 16) ≡ true →
    ((words : List Word) (e : Entry) (es : List Entry) → Represents memory words → RepresentsQueue hart.queue (e ∷ es) words →
    Represents memory' (drained words e) × RepresentsQueue queue' es (drained words e)) → logs_of memory' ≡ logs_of memory →
    IsStep (λ w model. applied w number model (Cleans address)) number (record { phase = phase; hart = hart; memory = memory; locks = locks })
    (record { phase = phase; hart = record hart { queue = queue' }; memory = memory'; locks = locks }) Drained
full_step number address phase hart memory memory' queue' locks made full stands threads = record {
  each = λ w model s.
      let after : Parts = record { phase = phase; hart = record hart { queue = queue' }; memory = memory'; locks = locks } in
      let no : nat_lt (length model.queue) 16 ≡ false = no_room (length model.queue) (queue_length hart.queue) s.hart.queue.size full in
      let some : 0 < length model.queue = full_some (length model.queue) (queue_length hart.queue) s.hart.queue.size full in
      subst (λ (o : Outcome). PartsEnd after Drained number w o)
      (sym (access-made w (logs_of memory) address 1 (cleaned w number model (byte_number address / line_bytes)) s.logs made))
      (subst (λ (b : Bool). PartsEnd after Drained number w
      (if b then moved w number (record (gone_on model) { queue = model.queue ++ entry_of w.words (byte_number address / line_bytes) ∷ [] })
      else drain_one w number model model.queue)) (sym no)
      (drained_end number phase hart memory memory' queue' locks w model model.queue refl some stands threads s));
}
  where
    full_some : (n m : ℕ) → n ≡ m → (m == 16) ≡ true → 0 < n
    full_some n m e other = grind (arith, nat_tests)

-- a clean that is queued
pub clean_step : (number address line : ℕ) (phase : Phase) (hart : Hart) (memory : LineMemory) (queue' : Queue) (locks : List (Option ℕ)) →
    refusal (logs_of memory) address 1 ≡ None → queue_length hart.queue ≤ 16 → (queue_length hart.queue == 16) ≡ false →
    line ≡ byte_number address / line_bytes →
    ((words : List Word) (entries : List Entry) → Represents memory words → RepresentsQueue hart.queue entries words →
    RepresentsQueue queue' (entries ++ entry_of words line ∷ []) words) →
    IsStep (λ w model. applied w number model (Cleans address)) number (record { phase = phase; hart = hart; memory = memory; locks = locks })
    (record { phase = phase; hart = record hart { pc = next hart.pc; queue = queue' }; memory = memory; locks = locks }) Moved
clean_step number address line phase hart memory queue' locks made within room same stands = record {
  each = λ w model s.
      let before : Parts = record { phase = phase; hart = hart; memory = memory; locks = locks } in
      let after : Parts = record before { hart = record hart { pc = next hart.pc; queue = queue' } } in
      let yes : nat_lt (length model.queue) 16 ≡ true = has_room (length model.queue) (queue_length hart.queue) s.hart.queue.size within room in
      let there : HartModel = record (gone_on model) { queue = model.queue ++ entry_of w.words (byte_number address / line_bytes) ∷ [] } in
      subst (λ (o : Outcome). PartsEnd after Moved number w o)
      (sym (access-made w (logs_of memory) address 1 (cleaned w number model (byte_number address / line_bytes)) s.logs made))
      (subst (λ (b : Bool). PartsEnd after Moved number w (if b then moved w number there else drain_one w number model model.queue)) (sym yes)
      (changed_end before after Moved number w model there w.words w.holders s s.words refl s.holders s.phase (record {
        registers = s.hart.registers;
        pc = ap next s.hart.pc;
        queue =
            subst (λ (n : ℕ). RepresentsQueue queue' (model.queue ++ entry_of w.words n ∷ []) w.words) same (stands w.words model.queue s.words s.hart.queue);
      }) (λ any entries q. q)));
}

-- a fence that still writes back
pub draining_step : (number : ℕ) (phase : Phase) (hart : Hart) (memory memory' : LineMemory) (queue' : Queue) (locks : List (Option ℕ)) →
    (queue_length hart.queue == 0) ≡ false →
    ((words : List Word) (e : Entry) (es : List Entry) → Represents memory words → RepresentsQueue hart.queue (e ∷ es) words →
    Represents memory' (drained words e) × RepresentsQueue queue' es (drained words e)) → logs_of memory' ≡ logs_of memory →
    IsStep (λ w model. applied w number model Fences) number (record { phase = phase; hart = hart; memory = memory; locks = locks })
    (record { phase = phase; hart = record hart { queue = queue' }; memory = memory'; locks = locks }) Drained
draining_step number phase hart memory memory' queue' locks other stands threads = record {
  each = λ w model s.
      let some : 0 < length model.queue = not_empty (length model.queue) (queue_length hart.queue) s.hart.queue.size other in
      subst (λ (o : Outcome). PartsEnd (record { phase = phase; hart = record hart { queue = queue' }; memory = memory'; locks = locks }) Drained number w o)
      (sym (fenced-some w number model model.queue some))
      (drained_end number phase hart memory memory' queue' locks w model model.queue refl some stands threads s);
}
  where
    not_empty : (n m : ℕ) → n ≡ m → (m == 0) ≡ false → 0 < n
    not_empty n m e other = grind (arith, nat_tests)

    fenced-some : (w : World) (number : ℕ) (model : HartModel) (entries : List Entry) → 0 < length entries →
        fenced w number model entries ≡ drain_one w number model entries
    fenced-some w number model [] some = absurd (omega arith)
    fenced-some w number model (e ∷ es) some = refl

pub load_refused : (number address bytes register : ℕ) (signed : Bool) (cause : Cause) (parts : Parts) →
    refusal (logs_of parts.memory) address bytes ≡ Some cause →
    IsStep (λ w model. applied w number model (Loads address bytes signed register)) number parts parts (Stuck cause)
load_refused number address bytes register signed cause parts refused =
    refused_step number address bytes cause parts
    (λ w model. moved w number (record (gone_on model) {
      registers = written model.registers register (load_result bytes signed (loaded w.words (byte_number address) bytes));
    })) refused

pub store_refused : (number address bytes value : ℕ) (cause : Cause) (parts : Parts) → refusal (logs_of parts.memory) address bytes ≡ Some cause →
    IsStep (λ w model. applied w number model (Stores address bytes value)) number parts parts (Stuck cause)
store_refused number address bytes value cause parts refused =
    refused_step number address bytes cause parts
    (λ w model. moved (record w { words = stored w.words (byte_number address) bytes value }) number (gone_on model)) refused

pub clean_refused : (number address : ℕ) (cause : Cause) (parts : Parts) → refusal (logs_of parts.memory) address 1 ≡ Some cause →
    IsStep (λ w model. applied w number model (Cleans address)) number parts parts (Stuck cause)
clean_refused number address cause parts refused =
    refused_step number address 1 cause parts (λ w model. cleaned w number model (byte_number address / line_bytes)) refused

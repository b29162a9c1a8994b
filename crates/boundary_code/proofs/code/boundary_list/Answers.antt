use Rattle.std.proofs.Common.{◌≡◌, ◌≤◌, ◌+◌, length, ℕ, List, ◌++◌, ap, subst, sym, ◌∙◌, rules, arith}
use Rattle.std.specs.Prelude.{Vec}
use Rattle.std.specs.Global.{Global}
use Rattle.std.specs.Int.{cast_signed, cast_unsigned, w32}
use Rattle.std.proofs.lemmas.Int.{to_z-of_z}
use Rattle.std.proofs.lemmas.List.{length-map}
use Rattle.std.proofs.lemmas.Result.{IfOk-weaker}
use Rattle.log_schemes.specs.declared.log.Log.{Log}
use Rattle.log_schemes.specs.Layout.{log_of}
use Rattle.log_schemes.specs.Schemes.{keeping_of, told}
use Rattle.log_schemes.specs.declared.keeping.Keeping.{Keeping}
use Rattle.log_schemes.specs.declared.keeping.Keeping.TheVariants.{Listed}
use Rattle.rv64_isa.specs.declared.instr.Instr.{Instr}
use Rattle.rv64_isa.specs.Signed.{twos_complement}
use Rattle.operator_code.specs.StraightLineCode.{IsConstant}
use Rattle.boundary_code.specs.Boundaries.{Boundary, first_kept, fixed_words, frame_lines, keep_locks, keep_told, listed_locks, lists_of, number_words}
use Rattle.boundary_code.specs.links.InstructionLists.{Beside, bank_list, last_list}
use Rattle.boundary_code.proofs.EmptyLists.{none_long, some_long}
use Rattle.boundary_code.proofs.MadeBoundaries.{Parts, bank_made, last_made, slots_are}
use Rattle.boundary_code.proofs.Lengths.{boundary_short, last_short, locks_length}
use Rattle.boundary_code.proofs.code.boundary_list.Goals as goal

is_log : (log : Log) (value thread : ℕ) (code : List Instr) → value ≡ log_of log thread → IsConstant 31 value code → IsConstant 31 (log_of log thread) code
is_log log value thread code e c = subst (λ (n : ℕ). IsConstant 31 n code) e c

lists_length : (locks : List (Vec Instr Global)) → length (lists_of locks) ≡ length locks
lists_length locks = length-map locks (λ (code : Vec Instr Global). code.items)

short_as : (code list : List Instr) (n : ℕ) → code ≡ list → length list ≤ n → length code ≤ n
short_as code list n e h = subst (λ (is : List Instr). length is ≤ n) (sym e) h

-- each has a slot of its own
all_listed : (log : Log) (numbers : List ℕ) → keeping_of log ≡ Listed → length numbers ≡ length (listed_locks (keeping_of log) numbers)
all_listed log numbers lists = ap (λ (k : Keeping). length (listed_locks k numbers)) (sym lists)

is_count : (log : Log) (numbers : List ℕ) (count : ℕ) (code : List Instr) → keeping_of log ≡ Listed → length numbers ≡ count → IsConstant 7 count code →
    IsConstant 7 (first_kept (keeping_of log) numbers) code
is_count log numbers count code lists many c =
    subst (λ (k : Keeping). IsConstant 7 (first_kept k numbers) code) (sym lists) (subst (λ (n : ℕ). IsConstant 7 n code) (sym many) c)

pub returns-then-is_empty-clause-code : goal.returns-then-is_empty-clause-code
returns-then-is_empty-clause-code c =
    IfOk-weaker c.emit_last_boundary.result _ _
    (λ code k numbers many.
    let b : Boundary = record {
      log = c.args.log;
      thread = c.args.thread;
      locks = numbers;
      live = c.args.live.now;
      resume = c.args.resume;
      written = c.args.written.bytes;
      opens = c.args.written.opens;
    } in
    let codes : List (List Instr) = lists_of c.args.locks.now in
    let long : length codes ≡ length c.args.locks.now = lists_length c.args.locks.now in
    let parts : Parts b codes c.in_ok-address.address.items = record {
      is_log = is_log c.args.log c.log_of.result c.args.thread c.in_ok-address.address.items c.log_of.ensures c.in_ok-address.ensures.code;
      many = long ∙ sym many ∙ all_listed c.args.log numbers c.requires.keeping;
      few = omega (arith, long, c.requires.locks);
      thread_is = c.requires.thread;
      live_are = c.requires.live;
      bytes = c.requires.bytes;
      low = c.requires.low;
      high = c.requires.high;
    } in
    last_made b codes c.in_ok-address.address.items c.deref.result.now code.items parts (none_long numbers (many ∙ search rules)) c.deref.ensures.value k)
    c.emit_last_boundary.ensures

pub returns-clause-code : goal.returns-clause-code
returns-clause-code c =
    IfOk-weaker c.emit_boundary.result _ _
    (λ code k numbers many.
    let b : Boundary = record {
      log = c.args.log;
      thread = c.args.thread;
      locks = numbers;
      live = c.args.live.now;
      resume = c.args.resume;
      written = c.args.written.bytes;
      opens = c.args.written.opens;
    } in
    let codes : List (List Instr) = lists_of c.args.locks.now in
    let long : length codes ≡ length c.args.locks.now = lists_length c.args.locks.now in
    let all = all_listed c.args.log numbers c.requires.keeping in
    let beside : List ℕ → Beside =
    λ slots. record {
      telling = keep_told (told c.args.log c.args.written.bytes);
      slots = slots;
      live = c.args.live.now;
      frame = frame_lines c.args.log c.args.written.opens;
    } in
    let parts : Parts b codes c.in_ok-address.address.items = record {
      is_log = is_log c.args.log c.log_of.result c.args.thread c.in_ok-address.address.items c.log_of.ensures c.in_ok-address.ensures.code;
      many = long ∙ sym many ∙ all;
      few = omega (arith, long, c.requires.locks);
      thread_is = c.requires.thread;
      live_are = c.requires.live;
      bytes = c.requires.bytes;
      low = c.requires.low;
      high = c.requires.high;
    } in
    bank_made b codes c.in_ok-address.address.items c.in_ok-first.first.items c.deref-2.result.now c.deref-3.result.now c.deref-4.result.now
    (beside c.deref-5.result.now) (cast_signed w32 (cast_unsigned w32 c.args.resume)) code.items parts (some_long numbers (λ none. absurd (search rules)))
    (is_count c.args.log numbers (length c.args.locks.now) c.in_ok-first.first.items c.requires.keeping many
    (subst (λ (n : ℕ). IsConstant 7 n c.in_ok-first.first.items) c.from.ensures c.in_ok-first.ensures.code)) c.deref-2.ensures.value c.deref-3.ensures.value
    (c.deref-4.ensures.value ∙ c.in_ok-emit_locks.ensures
    ∙ ap (λ (is : List Instr). is ++ keep_locks c.args.log 0 codes) c.new-others.ensures.items)
    (ap beside (c.deref-5.ensures.value ∙ c.in_ok-slots.ensures
    ∙ slots_are c.args.log numbers c.args.written.bytes c.args.live.now (length c.args.locks.now) (sym many ∙ all)))
    (to_z-of_z w32 c.args.resume c.ranges.resume) k)
    c.emit_boundary.ensures

pub returns-then-is_empty-clause-short : goal.returns-then-is_empty-clause-short
returns-then-is_empty-clause-short c =
    IfOk-weaker c.emit_last_boundary.result _ _
    (λ code k.
    let few = last_short c.deref.result.now c.args.live.now
    (subst (λ (is : List Instr). length is ≤ 8) (sym c.deref.ensures.value) c.in_ok-address.ensures.short) in
    short_as code.items (last_list c.deref.result.now) (length c.args.live.now + fixed_words c.args.log + number_words (lists_of c.args.locks.now)) k
    (omega (arith, few)))
    c.emit_last_boundary.ensures

pub returns-clause-short : goal.returns-clause-short
returns-clause-short c =
    IfOk-weaker c.emit_boundary.result _ _
    (λ code k.
    let resume = twos_complement 32 (cast_signed w32 (cast_unsigned w32 c.args.resume)) in
    let few = boundary_short c.args.log c.deref-2.result.now c.deref-3.result.now c.deref-4.result.now c.args.written.bytes c.args.written.opens
    c.deref-5.result.now c.args.live.now resume
    (subst (λ (is : List Instr). length is ≤ 8) (sym c.deref-2.ensures.value) c.in_ok-address.ensures.short)
    (subst (λ (is : List Instr). length is ≤ 8) (sym c.deref-3.ensures.value) c.in_ok-first.ensures.short) in
    let others : length c.deref-4.result.now ≡ length (keep_locks c.args.log 0 (lists_of c.args.locks.now)) =
    ap (λ (is : List Instr). length is)
    (c.deref-4.ensures.value ∙ c.in_ok-emit_locks.ensures
    ∙ ap (λ (is : List Instr). is ++ keep_locks c.args.log 0 (lists_of c.args.locks.now)) c.new-others.ensures.items) in
    let locks = locks_length c.args.log 0 (lists_of c.args.locks.now) in
    short_as code.items (bank_list c.args.log c.deref-2.result.now c.deref-3.result.now c.deref-4.result.now (record {
      telling = keep_told (told c.args.log c.args.written.bytes);
      slots = c.deref-5.result.now;
      live = c.args.live.now;
      frame = frame_lines c.args.log c.args.written.opens;
    }) resume)
    (length c.args.live.now + fixed_words c.args.log + number_words (lists_of c.args.locks.now)) k (omega (arith, few, others, locks)))
    c.emit_boundary.ensures

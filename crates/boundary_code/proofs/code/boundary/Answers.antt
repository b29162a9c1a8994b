use Rattle.std.proofs.Common.{◌≡◌, ◌≢◌, ◌≤◌, ◌<◌, ◌+◌, ◌^◌, length, ℕ, List, [], true, false, ap, refl, subst, sym, ◌∙◌, eq-eqb, rules, arith}
use Rattle.std.specs.Int.{cast_signed, cast_unsigned, w32}
use Rattle.std.proofs.lemmas.Int.{to_z-of_z}
use Rattle.std.proofs.lemmas.Bool.{ne_eqb}
use Rattle.std.proofs.lemmas.Result.{IfOk-weaker}
use Rattle.log_schemes.specs.declared.log.Log.{Log}
use Rattle.log_schemes.specs.Layout.{log_of}
use Rattle.log_schemes.specs.Schemes.{keeping_of, told}
use Rattle.log_schemes.specs.declared.keeping.Keeping.{Keeping}
use Rattle.log_schemes.specs.declared.keeping.Keeping.TheVariants.{Masked}
use Rattle.ido_base.specs.Locks.{locks_in}
use Rattle.ido_base.proofs.Public.{mask_of_locks}
use Rattle.rv64_isa.specs.declared.instr.Instr.{Instr}
use Rattle.rv64_isa.specs.Signed.{twos_complement}
use Rattle.operator_code.specs.StraightLineCode.{IsConstant}
use Rattle.boundary_code.specs.Boundaries.{Boundary, first_kept, fixed_words, frame_lines, is_empty, keep_told, listed_locks}
use Rattle.boundary_code.specs.links.InstructionLists.{Beside, bank_list, last_list}
use Rattle.boundary_code.proofs.MadeBoundaries.{Parts, bank_made, last_made, slots_are}
use Rattle.boundary_code.proofs.EmptyLists.{empty_where}
use Rattle.boundary_code.proofs.Lengths.{boundary_short, last_short}
use Rattle.boundary_code.proofs.code.boundary.Goals as goal

is_log : (log : Log) (value thread : ℕ) (code : List Instr) → value ≡ log_of log thread → IsConstant 31 value code → IsConstant 31 (log_of log thread) code
is_log log value thread code e c = subst (λ (n : ℕ). IsConstant 31 n code) e c

no_mask : (mask : ℕ) → mask < 2 ^ 64 → mask ≡ 0 → is_empty (locks_in mask) ≡ true
no_mask mask small e = empty_where mask small ∙ eq-eqb mask 0 e

some_mask : (mask : ℕ) → mask < 2 ^ 64 → mask ≢ 0 → is_empty (locks_in mask) ≡ false
some_mask mask small n = empty_where mask small ∙ ne_eqb mask 0 n

is_mask : (log : Log) (mask : ℕ) (code : List Instr) → keeping_of log ≡ Masked → mask < 2 ^ 64 → IsConstant 7 mask code →
    IsConstant 7 (first_kept (keeping_of log) (locks_in mask)) code
is_mask log mask code masked small c =
    subst (λ (k : Keeping). IsConstant 7 (first_kept k (locks_in mask)) code) (sym masked)
    (subst (λ (n : ℕ). IsConstant 7 n code) (sym (mask_of_locks mask small)) c)

-- no lock has a slot of its own
none_listed : (log : Log) (locks : List ℕ) → keeping_of log ≡ Masked → 0 ≡ length (listed_locks (keeping_of log) locks)
none_listed log locks masked = ap (λ (k : Keeping). length (listed_locks k locks)) (sym masked)

short_as : (code list : List Instr) (n : ℕ) → code ≡ list → length list ≤ n → length code ≤ n
short_as code list n e h = subst (λ (is : List Instr). length is ≤ n) (sym e) h

pub returns-then-mask-eq0-clause-code : goal.returns-then-mask-eq0-clause-code
returns-then-mask-eq0-clause-code c =
    let b : Boundary = record {
      log = c.args.log;
      thread = c.args.thread;
      locks = locks_in c.args.mask;
      live = c.args.live.now;
      resume = c.args.resume;
      written = c.args.written.bytes;
      opens = c.args.written.opens;
    } in
    let none = none_listed c.args.log (locks_in c.args.mask) c.requires.keeping in
    let parts : Parts b [] c.in_ok-address.address.items = record {
      is_log = is_log c.args.log c.log_of.result c.args.thread c.in_ok-address.address.items c.log_of.ensures c.in_ok-address.ensures.code;
      many = none;
      few = omega (arith);
      thread_is = c.requires.thread;
      live_are = c.requires.live;
      bytes = c.requires.bytes;
      low = c.requires.low;
      high = c.requires.high;
    } in
    IfOk-weaker c.emit_last_boundary.result _ _
    (λ code k. last_made b [] c.in_ok-address.address.items c.deref.result.now code.items parts
    (no_mask c.args.mask (search rules) c.if-mask-eq0.true) c.deref.ensures.value k)
    c.emit_last_boundary.ensures

pub returns-clause-code : goal.returns-clause-code
returns-clause-code c =
    let b : Boundary = record {
      log = c.args.log;
      thread = c.args.thread;
      locks = locks_in c.args.mask;
      live = c.args.live.now;
      resume = c.args.resume;
      written = c.args.written.bytes;
      opens = c.args.written.opens;
    } in
    let none = none_listed c.args.log (locks_in c.args.mask) c.requires.keeping in
    let parts : Parts b [] c.in_ok-address.address.items = record {
      is_log = is_log c.args.log c.log_of.result c.args.thread c.in_ok-address.address.items c.log_of.ensures c.in_ok-address.ensures.code;
      many = none;
      few = omega (arith);
      thread_is = c.requires.thread;
      live_are = c.requires.live;
      bytes = c.requires.bytes;
      low = c.requires.low;
      high = c.requires.high;
    } in
    let beside : List ℕ → Beside =
    λ slots. record {
      telling = keep_told (told c.args.log c.args.written.bytes);
      slots = slots;
      live = c.args.live.now;
      frame = frame_lines c.args.log c.args.written.opens;
    } in
    IfOk-weaker c.emit_boundary.result _ _
    (λ code k. bank_made b [] c.in_ok-address.address.items c.in_ok-first.first.items c.deref-2.result.now c.deref-3.result.now [] (beside c.deref-4.result.now)
    (cast_signed w32 (cast_unsigned w32 c.args.resume)) code.items parts (some_mask c.args.mask (search rules) c.if-mask-eq0.false)
    (is_mask c.args.log c.args.mask c.in_ok-first.first.items c.requires.keeping (search rules) c.in_ok-first.ensures.code) c.deref-2.ensures.value
    c.deref-3.ensures.value refl
    (ap beside (c.deref-4.ensures.value ∙ c.in_ok-slots.ensures ∙ slots_are c.args.log (locks_in c.args.mask) c.args.written.bytes c.args.live.now 0 none))
    (to_z-of_z w32 c.args.resume c.ranges.resume) k)
    c.emit_boundary.ensures

pub returns-then-mask-eq0-clause-short : goal.returns-then-mask-eq0-clause-short
returns-then-mask-eq0-clause-short c =
    IfOk-weaker c.emit_last_boundary.result _ _
    (λ code k.
    let few = last_short c.deref.result.now c.args.live.now
    (subst (λ (is : List Instr). length is ≤ 8) (sym c.deref.ensures.value) c.in_ok-address.ensures.short) in
    short_as code.items (last_list c.deref.result.now) (length c.args.live.now + fixed_words c.args.log) k (omega (arith, few)))
    c.emit_last_boundary.ensures

pub returns-clause-short : goal.returns-clause-short
returns-clause-short c =
    IfOk-weaker c.emit_boundary.result _ _
    (λ code k.
    let most = boundary_short c.args.log c.deref-2.result.now c.deref-3.result.now [] c.args.written.bytes c.args.written.opens c.deref-4.result.now
    c.args.live.now (twos_complement 32 (cast_signed w32 (cast_unsigned w32 c.args.resume)))
    (subst (λ (is : List Instr). length is ≤ 8) (sym c.deref-2.ensures.value) c.in_ok-address.ensures.short)
    (subst (λ (is : List Instr). length is ≤ 8) (sym c.deref-3.ensures.value) c.in_ok-first.ensures.short) in
    short_as code.items
    (bank_list c.args.log c.deref-2.result.now c.deref-3.result.now [] (record {
      telling = keep_told (told c.args.log c.args.written.bytes);
      slots = c.deref-4.result.now;
      live = c.args.live.now;
      frame = frame_lines c.args.log c.args.written.opens;
    })
    (twos_complement 32 (cast_signed w32 (cast_unsigned w32 c.args.resume))))
    (length c.args.live.now + fixed_words c.args.log) k (omega (arith, most)))
    c.emit_boundary.ensures

-- Code that leaves the number of a lock with a key, in a boundary whose bank lists the locks.
use Rattle.std.proofs.Common.{◌≡◌, ℕ, ◌+◌, ◌*◌, ◌^◌, ◌<◌, List, [], ◌∷◌, ◌++◌, length, refl, ap, sym, ◌∙◌, arith, lit<}
use Rattle.std.proofs.Common.{Bool, true, false, Option, ◌==◌, ◌||◌}
use Rattle.std.specs.Prelude.{pos, slice_set}
use Rattle.std.proofs.lemmas.Bool.{eqb-true, true≢false}
use Rattle.log_schemes.specs.Layout.{bank_bytes, log_of}
use Rattle.log_schemes.specs.declared.log.Log.{Log}
use Rattle.c_tree.specs.Exprs as e
use Rattle.c_tree.specs.Values.{value}
use Rattle.c_tree.specs.WellFormed.{IsExpr, Fits}
use Rattle.rv64_isa.specs.declared.instr.Instr.{Instr}
use Rattle.rv64_isa.specs.declared.instr.Instr.TheVariants.{Op, OpImmediate}
use Rattle.rv64_isa.specs.declared.instr.ImmediateOperation.TheVariants.{Addi}
use Rattle.rv64_isa.specs.declared.instr.Operation.TheVariants.{Add}
use Rattle.rv64_isa.specs.Arithmetic.{result_of, sign_extended}
use Rattle.rv64_isa.specs.Rows.{Continues, next, read, row}
use Rattle.memory_layout.specs.Roles.{is_temporary}
use Rattle.operator_code.specs.ComputingCode.{Carries, Computes}
use Rattle.operator_code.specs.StraightLineCode.{IsConstant}
use Rattle.operator_code.proofs.Public.{RunsFrom, add_small, go, small_immediate, stop}
use Rattle.boundary_code.specs.Boundaries.{IsUnderWay}
use Rattle.code_runs.specs.ComputingRuns.{Environment, LocalConfig, config}
use Rattle.expr_code.specs.EvaluationCode.{AreLoaded, EvaluationEnds, HasCodeThere, HoldsLocals, Homes, IsValueCode, Source, Suits}
use Rattle.expr_code.proofs.Public.{at_left, computed, index_of, locals_kept, room_right, stands_right, then_ends, wider}
use Rattle.node_code.specs.Numbers.{LeavesNumber, NumberLeft}
use Rattle.rv64_codegen.specs.links.Numbers.{key_code}
use Rattle.rv64_codegen.proofs.NodeCorrectness.{local_other, local_plain}

-- ---- Single instructions

first_row : (y : List ℕ) (first element pc : ℕ) → read y 5 ≡ element → element + first < 2048 →
    row (OpImmediate Addi 5 5 first) y pc ≡ Continues (slice_set y 5 (element + first)) (next pc)
unfolding row
first_row y first element pc is small =
    ap (λ (n : ℕ). Continues (slice_set y 5 (result_of Add n (sign_extended 12 64 first))) (next pc)) is
    ∙ (ap (λ (n : ℕ). Continues (slice_set y 5 (result_of Add element n)) (next pc)) (small_immediate first (omega (arith, small)))
    ∙ ap (λ (n : ℕ). Continues (slice_set y 5 n) (next pc)) (add_small element first (omega (arith, small))))

first_computes : (y : List ℕ) (first element : ℕ) → read y 5 ≡ element → element + first < 2048 →
    Computes (OpImmediate Addi 5 5 first ∷ []) y 5 (element + first)
first_computes y first element is small =
    let z : List ℕ = slice_set y 5 (element + first) in
    let runs : (pc : ℕ) → RunsFrom (OpImmediate Addi 5 5 first ∷ []) y pc [] z =
    λ pc. go (OpImmediate Addi 5 5 first) [] y z pc [] z (first_row y first element pc is small) (stop z (pc + 4)) in
    record { unseen = λ pc. (runs pc).sees; changes = λ pc. (runs pc).leaves }

base_row : (y : List ℕ) (log offset pc : ℕ) → read y 31 ≡ log → read y 3 ≡ offset → log + offset < 2 ^ 64 →
    row (Op Add 30 31 3) y pc ≡ Continues (slice_set y 30 (log + offset)) (next pc)
unfolding row
base_row y log offset pc a b small =
    ap (λ (n : ℕ). Continues (slice_set y 30 (result_of Add n (read y 3))) (next pc)) a
    ∙ (ap (λ (n : ℕ). Continues (slice_set y 30 (result_of Add log n)) (next pc)) b
    ∙ ap (λ (n : ℕ). Continues (slice_set y 30 n) (next pc)) (add_small log offset small))

base_computes : (y : List ℕ) (log offset : ℕ) → read y 31 ≡ log → read y 3 ≡ offset → log + offset < 2 ^ 64 →
    Computes (Op Add 30 31 3 ∷ []) y 30 (log + offset)
base_computes y log offset a b small =
    let z : List ℕ = slice_set y 30 (log + offset) in
    let runs : (pc : ℕ) → RunsFrom (Op Add 30 31 3 ∷ []) y pc [] z =
    λ pc. go (Op Add 30 31 3) [] y z pc [] z (base_row y log offset pc a b small) (stop z (pc + 4)) in
    record { unseen = λ pc. (runs pc).sees; changes = λ pc. (runs pc).leaves }

-- ---- What may be written

-- all of them write temporaries alone
pub within : (rd : ℕ) → is_temporary rd ≡ true → (n : ℕ) → is_temporary n ≡ false → (n == rd || is_temporary n) ≡ false
within rd temporary n h = by (n == rd) refl
  where
    by : (b : Bool) → (n == rd) ≡ b → (b || is_temporary n) ≡ false
    by true is =
        let one : is_temporary n ≡ true = ap (λ (k : ℕ). is_temporary k) (eqb-true n rd is) ∙ temporary in
        absurd (true≢false (sym one ∙ h))
    by false is = h

-- ---- The whole

module _ (h : Homes) (s : Source) (key : e.Expr) (code address : List Instr) (log : Log) (thread first element : ℕ)
    (value_code : IsValueCode h key 5 code) (is_log : IsConstant 31 (log_of log thread) address) (suits : Suits h s) (formed : IsExpr s.variables s.kinds key)
    (fits : Fits s.variables key) (unloaded : (loads : ℕ → ℕ → Option ℕ) → AreLoaded s loads key)
    (names : (value s.locals s.numbers key).number ≡ pos element) (small : element + first < 2048)
    (reach : (bank : ℕ) → bank < 2 → log_of log thread + bank_bytes log * bank < 2 ^ 32) where
  abbrev first_code : List Instr
  first_code = OpImmediate Addi 5 5 first ∷ []

  abbrev base_code : List Instr
  base_code = Op Add 30 31 3 ∷ []

  module _ (around : Environment) (bank : ℕ) (x y : List ℕ) (at : ℕ) (below : bank < 2) (locals : HoldsLocals h s around.loads x key)
      (under : IsUnderWay log thread bank x y) (there : HasCodeThere around (key_code code first address) (config y at)) where
    abbrev offset : ℕ
    offset = bank_bytes log * bank

    abbrev begin : LocalConfig
    begin = config y at

    there_3 : HasCodeThere around ((code ++ first_code) ++ address) begin
    there_3 = at_left around ((code ++ first_code) ++ address) base_code begin there

    there_2 : HasCodeThere around (code ++ first_code) begin
    there_2 = at_left around (code ++ first_code) address begin there_3

    there_1 : HasCodeThere around code begin
    there_1 = at_left around code first_code begin there_2

    -- the locals are where they were as the boundary began
    locals_there : HoldsLocals h s around.loads y key
    locals_there =
        locals_kept h s around.loads x y key suits formed (λ n l. under.others n (local_plain n l) (local_other n 3 refl l)) locals

    valued : EvaluationEnds around code is_temporary (λ z. read z 5 ≡ element) begin
    valued =
        let ends = value_code.ends s around begin (record { suits = suits; formed = formed; fits = fits; loaded = unloaded around.loads })
        (record { at = there_1; locals = locals_there }) in
        let in_x5 : (z : List ℕ) → Carries z 5 (value s.locals s.numbers key) → read z 5 ≡ element =
        λ z carries. index_of (value s.locals s.numbers key) z 5 element carries names (omega (arith, small)) in
        let whole = wider around code (λ n. n == 5 || is_temporary n) is_temporary (λ z. Carries z 5 (value s.locals s.numbers key)) begin (within 5 refl)
        ends in
        record {
          registers = whole.registers;
          leads = whole.leads;
          short = whole.short;
          are = whole.are;
          unchanged = whole.unchanged;
          has = in_x5 whole.registers whole.has;
        }

    -- by one instruction more x5 has the lock's number
    numbered : EvaluationEnds around (code ++ first_code) is_temporary (λ z. read z 5 ≡ element + first) begin
    numbered =
        then_ends around code first_code is_temporary (λ z. read z 5 ≡ element) (λ z. read z 5 ≡ element + first) begin valued
        (λ z are same is.
        let here : HasCodeThere around first_code (config z (at + 4 * length code)) = record {
          registers = are;
          stands = stands_right around at code first_code there_2.stands;
          room = room_right around code first_code begin there_2;
        } in
        wider around first_code (λ n. n == 5 || is_temporary n) is_temporary (λ v. read v 5 ≡ element + first) (config z (at + 4 * length code))
        (within 5 refl)
        (computed around first_code is_temporary 5 (element + first) (λ v. read v 5 ≡ element + first) (config z (at + 4 * length code)) (lit< tt) (lit< tt)
        are (first_computes z first element is small) here.stands here.room (λ v _ now _. now)))

    abbrev HasLog : List ℕ → Type 0
    HasLog z = (read z 5 ≡ element + first) × (read z 31 ≡ log_of log thread)

    logged : EvaluationEnds around ((code ++ first_code) ++ address) is_temporary HasLog begin
    logged =
        then_ends around (code ++ first_code) address is_temporary (λ z. read z 5 ≡ element + first) HasLog begin numbered
        (λ z are same is.
        let here : HasCodeThere around address (config z (at + 4 * length (code ++ first_code))) = record {
          registers = are;
          stands = stands_right around at (code ++ first_code) address there_3.stands;
          room = room_right around (code ++ first_code) address begin there_3;
        } in
        wider around address (λ n. n == 31 || is_temporary n) is_temporary HasLog (config z (at + 4 * length (code ++ first_code))) (within 31 refl)
        (computed around address is_temporary 31 (log_of log thread) HasLog (config z (at + 4 * length (code ++ first_code))) (lit< tt) (lit< tt) are
        (record {
          unseen = λ pc. is_log.unseen z pc are.count are.zero_is;
          changes = λ pc. is_log.changes z pc are.count are.zero_is;
        })
        here.stands here.room (λ v _ now others. (others 5 refl ∙ is, now))))

    abbrev HasBase : List ℕ → Type 0
    HasBase z = (read z 5 ≡ element + first) × (read z 31 ≡ log_of log thread) × (read z 30 ≡ log_of log thread + offset)

    based : EvaluationEnds around (key_code code first address) is_temporary HasBase begin
    based =
        let before : List Instr = (code ++ first_code) ++ address in
        then_ends around before base_code is_temporary HasLog HasBase begin logged
        (λ z are same is.
        let here : HasCodeThere around base_code (config z (at + 4 * length before)) = record {
          registers = are;
          stands = stands_right around at before base_code there.stands;
          room = room_right around before base_code begin there;
        } in
        let bank_is : read z 3 ≡ offset = same 3 refl ∙ under.offset in
        let fits_64 : log_of log thread + offset < 2 ^ 64 = (let r = reach bank below in omega (arith, r)) in
        wider around base_code (λ n. n == 30 || is_temporary n) is_temporary HasBase (config z (at + 4 * length before)) (within 30 refl)
        (computed around base_code is_temporary 30 (log_of log thread + offset) HasBase (config z (at + 4 * length before)) (lit< tt) (lit< tt) are
        (base_computes z (log_of log thread) offset is.1 bank_is fits_64) here.stands here.room
        (λ v _ now others. (others 5 refl ∙ is.0, others 31 refl ∙ is.1, now))))

    left : NumberLeft around (key_code code first address) log thread bank x y at (element + first)
    left = record {
      registers = based.registers;
      run = based.leads;
      short = based.short;
      number_is = based.has.0;
      under_way = record {
        count = based.are.count;
        zero_is = based.are.zero_is;
        offset = based.unchanged 3 refl ∙ under.offset;
        logged = based.has.1;
        base = based.has.2;
        others = λ r plain other. based.unchanged r plain ∙ under.others r plain other;
      };
    }

  -- from registers in which the key's locals stand
  pub key_leaves : (around : Environment) (x : List ℕ) → HoldsLocals h s around.loads x key →
      LeavesNumber around log thread x (element + first) (key_code code first address)
  key_leaves around x locals = record {
    leaves = λ bank y at below under stands room.
        left around bank x y at below locals under
        (record { registers = record { count = under.count; zero_is = under.zero_is }; stands = stands; room = room });
  }

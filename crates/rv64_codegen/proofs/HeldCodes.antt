-- The codes of the numbers of what a thread holds at a node: how they are made, and what they are good for.
use Rattle.std.proofs.Common.{◌≡◌, ℕ, zero, suc, ◌+◌, ◌*◌, ◌^◌, ◌<◌, ◌≤◌, List, [], ◌∷◌, ◌++◌, append_assoc, length, refl, ap}
use Rattle.std.proofs.Common.{sym, ◌∙◌, arith, subst, Bool, true, false, Option, Some, None, if◌then◌else◌}
use Rattle.std.specs.Prelude.{Vec, slice_get, ℤ}
use Rattle.std.specs.Global.{Global}
use Rattle.std.specs.List.{AllByRecursion, AllZip}
use Rattle.std.proofs.lemmas.List.{length-append, length-map}
use Rattle.std.proofs.lemmas.Option.{none-some, same_Some}
use Rattle.log_schemes.specs.Layout.{bank_bytes, log_of}
use Rattle.log_schemes.specs.declared.keeping.Keeping.{Keeping}
use Rattle.log_schemes.specs.declared.keeping.Keeping.TheVariants.{Masked, Listed}
use Rattle.log_schemes.proofs.Public.{size_holds}
use Rattle.boundary_code.proofs.Public.{base_small}
use Rattle.c_tree.specs.Exprs as e
use Rattle.c_tree.specs.HoldPrices.{hold_price, hold_prices}
use Rattle.c_tree.specs.Prices.{key_nodes, nodes_of}
use Rattle.c_tree.specs.Values.{lock_number}
use Rattle.c_tree.specs.WellFormed.{IsFlatLockName}
use Rattle.rv64_isa.specs.declared.instr.Instr.{Instr}
use Rattle.rv64_isa.specs.declared.instr.Instr.TheVariants.{Op, OpImmediate}
use Rattle.rv64_isa.specs.declared.instr.ImmediateOperation.TheVariants.{Addi}
use Rattle.rv64_isa.specs.declared.instr.Operation.TheVariants.{Add}
use Rattle.operator_code.specs.StraightLineCode.{IsConstant}
use Rattle.log_schemes.specs.declared.locals.Locals.{Locals}
use Rattle.log_schemes.specs.declared.locals.Locals.TheVariants.{Registers, Frame}
use Rattle.code_runs.specs.ComputingRuns.{Environment}
use Rattle.boundary_code.specs.Boundaries.{fixed_words, frame_words, listed_locks, lists_of, number_words, words_beside, words_for}
use Rattle.log_schemes.specs.Schemes.{HasRoom, HaveRoom, keeping_of, locals_of, size_of}
use Rattle.expr_code.specs.EvaluationCode.{Homes, impure_among}
use Rattle.expr_code.proofs.Public.{among_append, constant_none}
use Rattle.node_code.specs.BoundaryCode.{IsQuiet}
use Rattle.node_code.specs.Numbers.{LeaveLocks, LeaveNumbers}
use Rattle.thread_code.specs.Plans.{Plan, IsPlan, Thread, IsThread, IsNodeOf, held_names_before, homes, locks_before, names_in, words_held}
use Rattle.rv64_codegen.specs.ThreadPieces.{MayEnter, boundary_words}
use Rattle.rv64_codegen.specs.links.NumberedNames.{IsNumberedMore}
use Rattle.rv64_codegen.specs.links.Numbers.{AreCodesAs, AreNumberCodes, IsCallBy, IsNumberBy, IsNumberCode}
use Rattle.rv64_codegen.proofs.NameNumbers.{held_leave}
use Rattle.rv64_codegen.proofs.Pieces.{no_cleans, no_fences}
use Rattle.rv64_codegen.proofs.PlannedNodes.{thread_below}

-- ---- One after another

-- one name more
pub numbered_more : (h : Homes) (address : List Instr) (x : e.LockName) (b : Bool) (old new : List (List Instr)) (rest whole : List e.LockName) →
    ((later : List (List Instr)) → AllZip (IsNumberCode h address) (if b then x ∷ rest else rest) later →
    AllZip (IsNumberCode h address) whole (old ++ later)) →
    IsNumberedMore h address x b old new → (later : List (List Instr)) → AllZip (IsNumberCode h address) rest later →
    AllZip (IsNumberCode h address) whole (new ++ later)
numbered_more h address x true old new rest whole all made later are =
    subst (λ (cs : List (List Instr)). AllZip (IsNumberCode h address) whole (cs ++ later)) (sym made.2)
    (subst (λ (cs : List (List Instr)). AllZip (IsNumberCode h address) whole cs) (sym (append_assoc old (made.0 ∷ []) later))
    (all (made.0 ∷ later) (made.1, are)))
numbered_more h address x false old new rest whole all made later are =
    subst (λ (cs : List (List Instr)). AllZip (IsNumberCode h address) whole (cs ++ later)) (sym made) (all later are)

-- the last of a list of codes
pub lists_more : (codes : List (Vec Instr Global)) (code : Vec Instr Global) → lists_of (codes ++ code ∷ []) ≡ lists_of codes ++ code.items ∷ []
lists_more [] code = refl
lists_more (first ∷ codes) code = ap (λ (cs : List (List Instr)). first.items ∷ cs) (lists_more codes code)

-- ---- Codes of names

module _ (h : Homes) (address : List Instr) where
  as_many : (names : List e.LockName) (codes : List (List Instr)) → AllZip (IsNumberCode h address) names codes → length codes ≡ length names
  as_many [] [] are = refl
  as_many [] (code ∷ codes) are = absurd are
  as_many (x ∷ names) [] are = absurd are
  as_many (x ∷ names) (code ∷ codes) are = let more = as_many names codes are.1 in omega (arith, more)

  module _ (log : ℕ) (is_log : IsConstant 31 log address) where
    quiet_by : (mutex : ℕ) (key : Option e.Placed) (code : List Instr) → IsNumberBy h address mutex key code → IsQuiet code
    quiet_by mutex None code is = subst IsQuiet (sym is) (record { fences = refl; cleans = refl })
    quiet_by mutex (Some key) code is =
        let v : List Instr = is.of_value in
        let first : List Instr = OpImmediate Addi 5 5 mutex ∷ [] in
        let base : List Instr = Op Add 30 31 3 ∷ [] in
        let a : impure_among code ≡ impure_among (((v ++ first) ++ address) ++ base) = ap impure_among is.is in
        let b : impure_among (((v ++ first) ++ address) ++ base) ≡ impure_among ((v ++ first) ++ address) + 0 =
        among_append ((v ++ first) ++ address) base in
        let c = among_append (v ++ first) address in
        let d : impure_among (v ++ first) ≡ impure_among v + 0 = among_append v first in
        let pure = is.value.pure in
        let constant = constant_none 31 log address is_log in
        let none : impure_among code ≡ 0 = omega (arith, a, b, c, d, pure, constant) in
        record { fences = no_fences code none; cleans = no_cleans code none }

    quiet_all : (names : List e.LockName) (codes : List (List Instr)) → AllZip (IsNumberCode h address) names codes → AllByRecursion IsQuiet codes
    quiet_all [] [] are = tt
    quiet_all [] (code ∷ codes) are = absurd are
    quiet_all (x ∷ names) [] are = absurd are
    quiet_all (x ∷ names) (code ∷ codes) are = (quiet_by x.mutex x.key code are.0, quiet_all names codes are.1)

  -- a code with its store is within what the name costs
  module _ (short : length address ≤ 2) where
    within_price : (mutex : ℕ) (key : Option e.Placed) (code : List Instr) → IsNumberBy h address mutex key code →
        length code + 1 ≤ hold_price (record { mutex = mutex; key = key })
    within_price mutex None code is = let one : length code ≡ 1 = ap (λ (is : List Instr). length is) is in omega (arith, one)
    within_price mutex (Some key) code is =
        let v : List Instr = is.of_value in
        let first : List Instr = OpImmediate Addi 5 5 mutex ∷ [] in
        let base : List Instr = Op Add 30 31 3 ∷ [] in
        let a : length code ≡ length (((v ++ first) ++ address) ++ base) = ap (λ (is : List Instr). length is) is.is in
        let b : length (((v ++ first) ++ address) ++ base) ≡ length ((v ++ first) ++ address) + 1 = length-append ((v ++ first) ++ address) base in
        let c : length ((v ++ first) ++ address) ≡ length (v ++ first) + length address = length-append (v ++ first) address in
        let d : length (v ++ first) ≡ length v + 1 = length-append v first in
        let few : length v ≤ 16 * nodes_of key.expr = is.value.short in
        omega (arith, a, b, c, d, few, short)

    within_prices : (names : List e.LockName) (codes : List (List Instr)) → AllZip (IsNumberCode h address) names codes →
        number_words codes ≤ hold_prices names
    within_prices [] [] are = omega arith
    within_prices [] (code ∷ codes) are = absurd are
    within_prices (x ∷ names) [] are = absurd are
    within_prices (x ∷ names) (code ∷ codes) are =
        let more = within_prices names codes are.1 in
        let one : length code + 1 ≤ hold_price x = within_price x.mutex x.key code are.0 in
        omega (arith, more, one)

-- code of a number for a call
pub call_quiet_by : (h : Homes) (mutex : ℕ) (key : Option e.Placed) (code : List Instr) → IsCallBy h mutex key code → IsQuiet code
call_quiet_by h mutex None code is = subst IsQuiet (sym is) (record { fences = refl; cleans = refl })
call_quiet_by h mutex (Some key) code is =
    let v : List Instr = is.of_value in
    let last : List Instr = OpImmediate Addi 10 5 mutex ∷ [] in
    let a : impure_among code ≡ impure_among (v ++ last) = ap impure_among is.is in
    let b : impure_among (v ++ last) ≡ impure_among v + 0 = among_append v last in
    let pure = is.value.pure in
    let none : impure_among code ≡ 0 = omega (arith, a, b, pure) in
    record { fences = no_fences code none; cleans = no_cleans code none }

pub call_words_by : (h : Homes) (mutex : ℕ) (key : Option e.Placed) (code : List Instr) → IsCallBy h mutex key code →
    (1 ≤ length code) × (length code ≤ 16 * key_nodes (record { mutex = mutex; key = key }) + 1)
call_words_by h mutex None code is = let one : length code ≡ 1 = ap (λ (is : List Instr). length is) is in (omega (arith, one), omega (arith, one))
call_words_by h mutex (Some key) code is =
    let last : List Instr = OpImmediate Addi 10 5 mutex ∷ [] in
    let same : length code ≡ length (is.of_value ++ last) = ap (λ (is : List Instr). length is) is.is in
    let sum : length (is.of_value ++ last) ≡ length is.of_value + 1 = length-append is.of_value last in
    let short = is.value.short in
    (omega (arith, same, sum), omega (arith, same, sum, short))

all_get : (P : e.LockName → Type 0) (names : List e.LockName) → AllByRecursion P names → (k : ℕ) (y : e.LockName) → slice_get names k ≡ Some y → P y
all_get P [] h k y g = absurd (none-some y g)
all_get P (x ∷ names) h zero y g = subst P (same_Some x y g) h.0
all_get P (x ∷ names) h (suc k) y g = all_get P names h.1 k y g

-- ---- At a node

module _ (p : Plan) (t : Thread) (plan : IsPlan p) (th : IsThread p t) (formed : AllByRecursion (IsFlatLockName p.flat.mutexes t.kinds) (names_in p t))
    (node : ℕ) (own : IsNodeOf t node) (codes : List (List Instr)) where
  abbrev h : Homes
  h = homes p t

  abbrev held : List e.LockName
  held = held_names_before p t node

  numbers_many : (locals : List ℤ) → length (locks_before p t locals node) ≡ length held
  numbers_many locals = length-map held (lock_number locals)

  -- a log that keeps a mask needs none
  pub masked_none : keeping_of p.log ≡ Masked → AreNumberCodes p.log h t.number held codes → codes ≡ []
  masked_none masks are = subst (λ (k : Keeping). AreCodesAs k p.log h t.number held codes) masks are

  -- there is one for each lock that is listed
  pub listed_many : keeping_of p.log ≡ Listed → AreNumberCodes p.log h t.number held codes → (locals : List ℤ) →
      length (locks_before p t locals node) ≡ length codes
  listed_many lists are locals =
      let by : AreCodesAs Listed p.log h t.number held codes = subst (λ (k : Keeping). AreCodesAs k p.log h t.number held codes) lists are in
      numbers_many locals ∙ sym (as_many h by.0 held codes by.3)

  leave_as : (k : Keeping) → AreCodesAs k p.log h t.number held codes → (locals : List ℤ) (around : Environment) (x : List ℕ) →
      MayEnter p t locals node around x → LeaveNumbers around p.log t.number x (listed_locks k (locks_before p t locals node)) codes
  leave_as Masked are locals around x may = subst (λ (cs : List (List Instr)). LeaveNumbers around p.log t.number x [] cs) (sym are) tt
  leave_as Listed are locals around x may =
      let low = thread_below p plan t th in
      let reach : (bank : ℕ) → bank < 2 → log_of p.log t.number + bank_bytes p.log * bank < 2 ^ 32 = λ bank below. base_small p.log t.number bank low below in
      let few : length p.flat.mutexes ≤ 1024 = (let m = plan.formed.shared.mutexes in omega (arith, m)) in
      let left : LeaveNumbers around p.log t.number x (locks_before p t may.seen.locals node) codes =
      held_leave p t plan th may.seen around x few reach are.0 are.1 node may.view codes own may.enters may.frame
      (λ k y there holds_it. all_get (IsFlatLockName p.flat.mutexes t.kinds) (names_in p t) formed k y there) are.3 in
      subst (λ (ls : List ℤ). LeaveNumbers around p.log t.number x (locks_before p t ls node) codes) may.locals_are left

  pub leave_them : AreNumberCodes p.log h t.number held codes → (locals : List ℤ) (around : Environment) (x : List ℕ) →
      MayEnter p t locals node around x → LeaveLocks p.log t.number (locks_before p t locals node) codes around x
  leave_them are locals around x may = leave_as (keeping_of p.log) are locals around x may

  few_as : (k : Keeping) → AreCodesAs k p.log h t.number held codes → HasRoom k (locks_before p t [] node) → length codes ≤ 16
  few_as Masked are room = let none : length codes ≡ 0 = ap (λ (cs : List (List Instr)). length cs) are in omega (arith, none)
  few_as Listed are room = let many = as_many h are.0 held codes are.3 in let same = numbers_many [] in omega (arith, many, same, room)

  pub few_codes : AreNumberCodes p.log h t.number held codes → HaveRoom p.log (locks_before p t [] node) → length codes ≤ 16
  few_codes are room = few_as (keeping_of p.log) are room

  few_frame : (l : Locals) → frame_words l ≤ 12
  few_frame Registers = omega arith
  few_frame Frame = omega arith

  words_as : (k : Keeping) → AreCodesAs k p.log h t.number held codes → fixed_words p.log + words_for k codes ≤ 72 + words_held k held
  words_as Masked are = let few = (size_holds (size_of p.log)).few_in_bank in omega (arith, few, few_frame (locals_of p.log))
  words_as Listed are =
      let few = (size_holds (size_of p.log)).few_in_bank in
      let words = within_prices h are.0 are.2 held codes are.3 in omega (arith, words, few, few_frame (locals_of p.log))

  pub few_words : AreNumberCodes p.log h t.number held codes → words_beside p.log codes ≤ boundary_words p.log held
  few_words are = words_as (keeping_of p.log) are

  quiet_as : (k : Keeping) → AreCodesAs k p.log h t.number held codes → AllByRecursion IsQuiet codes
  quiet_as Masked are = subst (λ (cs : List (List Instr)). AllByRecursion IsQuiet cs) (sym are) tt
  quiet_as Listed are = quiet_all h are.0 (log_of p.log t.number) are.1 held codes are.3

  pub quiet_codes : AreNumberCodes p.log h t.number held codes → AllByRecursion IsQuiet codes
  quiet_codes are = quiet_as (keeping_of p.log) are

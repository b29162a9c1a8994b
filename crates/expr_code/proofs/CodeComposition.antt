-- Code put together from code that leads to its end.
use Rattle.std.proofs.Common.{◌≡◌, ℕ, ◌+◌, ◌*◌, ◌^◌, ◌<◌, ◌≤◌, List, [], ◌++◌, length, refl, ap, sym, ◌∙◌, arith, subst, Bool, true, false, ◌==◌, length-append}
use Rattle.std.specs.Prelude.{slice_set, ◌||◌, ℤ, Option}
use Rattle.ido_ints.specs.declared.kinds.Kind.{Kind}
use Rattle.ido_ints.specs.Kinds.{Holds}
use Rattle.ido_ints.specs.TypedNumbers.{Typed, typed, register_form_of}
use Rattle.c_tree.specs.Exprs as e
use Rattle.c_tree.specs.Values.{value}
use Rattle.c_tree.specs.Elaboration.{kind_of}
use Rattle.rv64_isa.specs.declared.instr.Instr.{Instr}
use Rattle.rv64_isa.specs.Rows.{read}
use Rattle.operator_code.specs.ComputingCode.{AreRegisters, Carries, Computes}
use Rattle.operator_code.proofs.Public.{read_other, read_same}
use Rattle.memory_layout.specs.Roles.{is_local}
use Rattle.code_runs.specs.ComputingRuns.{Environment, LocalConfig, config, HasCodeAt}
use Rattle.expr_code.specs.EvaluationCode.{Homes, Source, HoldsLocals, IsLegal, HasCodeThere, IsEvaluationStart, EvaluationEnds, EvaluatesTo}
use Rattle.expr_code.specs.links.ForwardJumps.{LeadsBy}
use Rattle.expr_code.proofs.RunComposition.{leads_then, arrive, within, stay, stands_left, stands_right, computes}
use Rattle.expr_code.proofs.ValueKinds.{kind_is}
use Rattle.expr_code.proofs.PreservedRegisters.{or_left, or_right, locals_kept, registers_after_write}

pub wider : (r : Environment) (a : List Instr) (w w' : ℕ → Bool) (P : List ℕ → Type 0) (m : LocalConfig) → ((n : ℕ) → w' n ≡ false → w n ≡ false) →
    EvaluationEnds r a w P m → EvaluationEnds r a w' P m
wider r a w w' P m sub e = record {
  registers = e.registers;
  leads = e.leads;
  short = e.short;
  are = e.are;
  unchanged = λ n h. e.unchanged n (sub n h);
  has = e.has;
}

pub having : (r : Environment) (a : List Instr) (w : ℕ → Bool) (P Q : List ℕ → Type 0) (m : LocalConfig) → ((y : List ℕ) → P y → Q y) →
    EvaluationEnds r a w P m → EvaluationEnds r a w Q m
having r a w P Q m f e = record { registers = e.registers; leads = e.leads; short = e.short; are = e.are; unchanged = e.unchanged; has = f e.registers e.has }

pub leads_of : (r : Environment) (a : List Instr) (w : ℕ → Bool) (P : List ℕ → Type 0) (m : LocalConfig) → (e : EvaluationEnds r a w P m) →
    LeadsBy r m (config e.registers (m.pc + 4 * length a)) (length a)
leads_of r a w P m e = record { leads = e.leads; short = e.short }

-- code after code
pub then_ends : (r : Environment) (a b : List Instr) (w : ℕ → Bool) (P Q : List ℕ → Type 0) (m : LocalConfig) → EvaluationEnds r a w P m →
    ((y : List ℕ) → AreRegisters y → ((n : ℕ) → w n ≡ false → read y n ≡ read m.registers n) → P y → EvaluationEnds r b w Q (config y (m.pc + 4 * length a))) →
    EvaluationEnds r (a ++ b) w Q m
then_ends r a b w P Q m first second =
    let y = first.registers in
    let n = config y (m.pc + 4 * length a) in
    let more = second y first.are first.unchanged first.has in
    let e : m.pc + 4 * length a + 4 * length b ≡ m.pc + 4 * length (a ++ b) = omega (arith, length-append a b) in
    let few : length a + length b ≤ length (a ++ b) = omega (arith, length-append a b) in
    let end = config more.registers (m.pc + 4 * length a + 4 * length b) in
    let whole = arrive r m more.registers (m.pc + 4 * length a + 4 * length b) (m.pc + 4 * length (a ++ b)) (length (a ++ b)) e
    (within r m end (length a + length b) (length (a ++ b)) few
    (leads_then r m n end (length a) (length b) (leads_of r a w P m first) (leads_of r b w Q n more))) in
    record {
      registers = more.registers;
      leads = whole.leads;
      short = whole.short;
      are = more.are;
      unchanged = λ k h. more.unchanged k h ∙ first.unchanged k h;
      has = more.has;
    }

-- nothing
pub nothing_ends : (r : Environment) (w : ℕ → Bool) (P : List ℕ → Type 0) (m : LocalConfig) → AreRegisters m.registers → P m.registers →
    EvaluationEnds r [] w P m
nothing_ends r w P m a p =
    let e : m.pc ≡ m.pc + 4 * 0 = omega arith in
    let whole = arrive r m m.registers m.pc (m.pc + 4 * 0) 0 e (stay r m) in
    record {
      registers = m.registers;
      leads = whole.leads;
      short = whole.short;
      are = a;
      unchanged = λ n h. refl;
      has = p;
    }

-- straight-line code that computes
pub computed : (r : Environment) (code : List Instr) (w : ℕ → Bool) (rd v : ℕ) (P : List ℕ → Type 0) (m : LocalConfig) → 0 < rd → rd < 32 →
    AreRegisters m.registers → Computes code m.registers rd v → HasCodeAt r m.pc code → m.pc + 4 * length code < 2 ^ 64 →
    ((y : List ℕ) → AreRegisters y → read y rd ≡ v → ((n : ℕ) → (n == rd) ≡ false → read y n ≡ read m.registers n) → P y) →
    EvaluationEnds r code (λ n. n == rd || w n) P m
computed r code w rd v P m some small a c s l p =
    let x = m.registers in
    let y = slice_set x rd v in
    let are : AreRegisters y = registers_after_write x rd v some a in
    let same : (n : ℕ) → (n == rd) ≡ false → read y n ≡ read x n = λ n h. read_other x rd n v h in
    let whole = computes r code x m.pc rd v c s l in
    record {
      registers = y;
      leads = whole.leads;
      short = whole.short;
      are = are;
      unchanged = λ n h. same n (or_left (n == rd) (w n) h);
      has = p y are (read_same x rd v a.count small) same;
    }

pub at_left : (r : Environment) (a b : List Instr) (m : LocalConfig) → HasCodeThere r (a ++ b) m → HasCodeThere r a m
at_left r a b m g =
    let l = g.room in
    record { registers = g.registers; stands = stands_left r m.pc a b g.stands; room = omega (arith, length-append a b) }

pub room_right : (r : Environment) (a b : List Instr) (m : LocalConfig) → HasCodeThere r (a ++ b) m → m.pc + 4 * length a + 4 * length b < 2 ^ 64
room_right r a b m g = let l = g.room in omega (arith, length-append a b)

pub begins_left : (h : Homes) (s : Source) (r : Environment) (x : e.Expr) (a b : List Instr) (m : LocalConfig) → IsEvaluationStart h s r x (a ++ b) m →
    IsEvaluationStart h s r x a m
begins_left h s r x a b m g = record { at = at_left r a b m g.at; locals = g.locals }

pub begins_right : (h : Homes) (s : Source) (r : Environment) (x : e.Expr) (a b : List Instr) (w : ℕ → Bool) (m : LocalConfig) (y : List ℕ) → IsLegal h s r x →
    IsEvaluationStart h s r x (a ++ b) m → AreRegisters y → ((n : ℕ) → w n ≡ false → read y n ≡ read m.registers n) →
    ((n : ℕ) → is_local n ≡ true → w n ≡ false) → IsEvaluationStart h s r x b (config y (m.pc + 4 * length a))
begins_right h s r x a b w m y legal g are same spares = record {
  at = record { registers = are; stands = stands_right r m.pc a b g.at.stands; room = room_right r a b m g.at };
  locals = locals_kept h s r.loads m.registers y x legal.suits legal.formed (λ n l. same n (spares n l)) g.locals;
}

-- code of one expression begins as code of another does whose locals are held
pub begins_as : (h : Homes) (s : Source) (r : Environment) (z x : e.Expr) (a : List Instr) (m : LocalConfig) → HoldsLocals h s r.loads m.registers x →
    IsEvaluationStart h s r z a m → IsEvaluationStart h s r x a m
begins_as h s r z x a m l g = record { at = g.at; locals = l }

-- ---- What is made of a value

pub typed_is : (v : Typed) (k : Kind) → v.kind ≡ k → v ≡ typed k v.number
typed_is v k e = ap (λ (j : Kind). typed j v.number) e

-- z's value is made of that of x, by straight-line code
pub made : (h : Homes) (x z : e.Expr) (a b : List Instr) (w : ℕ → Bool) (rs rd : ℕ) (k : Kind) (f : Typed → Typed) → 0 < rd → rd < 32 → kind_of x ≡ k →
    ((s : Source) (r : Environment) → IsLegal h s r z → IsLegal h s r x) →
    ((s : Source) (l : (address bytes : ℕ) → Option ℕ) (y : List ℕ) → HoldsLocals h s l y z → HoldsLocals h s l y x) →
    ((s : Source) → value s.locals s.numbers z ≡ f (value s.locals s.numbers x)) →
    ((n : ℤ) → Holds k n → Holds (f (typed k n)).kind (f (typed k n)).number) →
    ((n : ℤ) (y : List ℕ) → AreRegisters y → Carries y rs (typed k n) → Computes b y rd (register_form_of (f (typed k n)))) →
    EvaluatesTo h x a w (λ v y. Carries y rs v) → EvaluatesTo h z (a ++ b) (λ n. n == rd || w n) (λ v y. Carries y rd v)
made h x z a b w rs rd k f some small kind legal locals is held code g = record { ends = ends }
  where
    ends : (s : Source) (r : Environment) (m : LocalConfig) → IsLegal h s r z → IsEvaluationStart h s r z (a ++ b) m →
        EvaluationEnds r (a ++ b) (λ n. n == rd || w n) (λ y. Carries y rd (value s.locals s.numbers z)) m
    ends s r m l begins =
        let v = value s.locals s.numbers x in
        let t : v ≡ typed k v.number = typed_is v k (kind_is s.locals s.numbers x ∙ kind) in
        let back : f (typed k v.number) ≡ value s.locals s.numbers z = ap f (sym t) ∙ sym (is s) in
        then_ends r a b (λ n. n == rd || w n) (λ y. Carries y rs v) (λ y. Carries y rd (value s.locals s.numbers z)) m
        (wider r a w (λ n. n == rd || w n) (λ y. Carries y rs v) m (λ n q. or_right (n == rd) (w n) q) (g.ends s r m (legal s r l)
        (begins_as h s r z x a m (locals s r.loads m.registers begins.locals) (begins_left h s r z a b m begins))))
        (λ y are same has. let c : Carries y rs (typed k v.number) = subst (λ (u : Typed). Carries y rs u) t has in
        computed r b w rd (register_form_of (f (typed k v.number))) (λ q. Carries q rd (value s.locals s.numbers z))
        (config y (m.pc + 4 * length a)) some small are
        (code v.number y are c) (stands_right r m.pc a b begins.at.stands) (room_right r a b m begins.at)
        (λ q are_q at others. subst (λ (u : Typed). Carries q rd u) back (record { held = held v.number c.held; form = at })))

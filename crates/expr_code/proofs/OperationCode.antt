-- Operators and conversions after the code of their operands.
use Rattle.std.proofs.Common.{◌≡◌, ℕ, suc, ◌+◌, ◌-◌, ◌*◌, ◌^◌, ◌<◌, ◌≤◌, List, [], ◌∷◌, ◌++◌, length, refl, ap, sym, ◌∙◌, arith, subst, Bool, true, false}
use Rattle.std.proofs.Common.{add-one, ◌==◌}
use Rattle.std.proofs.lemmas.Nat.{pow-add}
use Rattle.std.specs.Prelude.{not, ◌||◌, ℤ, pos, slice_index_or, int_lt, int_le}
use Rattle.std.specs.Ordering.{int_eq}
use Rattle.ido_base.specs.declared.place.Place.{Place}
use Rattle.ido_ints.specs.declared.kinds.Kind.{Kind}
use Rattle.ido_ints.specs.declared.kinds.Kind.TheVariants.{Int, UnsignedLong}
use Rattle.ido_ints.specs.declared.operators.Unary.{Unary}
use Rattle.ido_ints.specs.declared.operators.Unary.TheVariants.{Not}
use Rattle.ido_ints.specs.declared.operators.Binary.{Binary}
use Rattle.ido_ints.specs.declared.operators.Binary.TheVariants.{Mul, Div, Rem, Add, Sub, ShiftLeft, ShiftRight, Less, Greater, LessEqual, GreaterEqual}
use Rattle.ido_ints.specs.declared.operators.Binary.TheVariants.{Equal, NotEqual, And, Xor, Or, LogicalAnd, LogicalOr}
use Rattle.ido_ints.specs.Kinds.{Holds, common_of, bits_of, bytes_of, modulus_of}
use Rattle.ido_ints.proofs.Public.{register_below, Same, Same-factor, Holds-reduced, Same-reduced, reduced-same, Holds-truth, Holds-unary_number}
use Rattle.ido_ints.proofs.Public.{Holds-binary_number, reduced_held}
use Rattle.ido_ints.specs.Operators.{truth, is_zero, unary_of, binary_of}
use Rattle.ido_ints.specs.Reduction as reduction
use Rattle.ido_ints.specs.Reduction.{reduced}
use Rattle.ido_ints.specs.TypedNumbers.{Typed, typed, converted, register_form_of}
use Rattle.c_tree.specs.Exprs as e
use Rattle.c_tree.specs.Values.{value, reference_to, referent}
use Rattle.c_tree.specs.Elaboration.{kind_of}
use Rattle.rv64_isa.specs.declared.instr.Instr.{Instr}
use Rattle.rv64_isa.specs.Rows.{read}
use Rattle.memory_layout.specs.Roles.{is_local}
use Rattle.operator_code.specs.declared.operation.BinaryOperation.{BinaryOperation}
use Rattle.operator_code.specs.declared.immediates.ImmediateForm.{ImmediateForm}
use Rattle.operator_code.specs.declared.branches.Test.{Test}
use Rattle.operator_code.specs.Constants.{instruction_in}
use Rattle.operator_code.specs.StraightLineCode.{IsConstant}
use Rattle.operator_code.specs.ComputingCode.{Carries, Computes, IsCopy, IsConversion, IsUnary, IsBinary, IsComparison, IsNonzero, IsOpposite, IsTruth}
use Rattle.operator_code.specs.ComputingCode.{is_comparison, KeepsForm, AreOperands, left_kind, right_kind, given_by, passes}
use Rattle.expr_code.specs.declared.operand.Pair as pair
use Rattle.code_runs.specs.ComputingRuns.{Environment, LocalConfig, config}
use Rattle.expr_code.specs.EvaluationCode.{Homes, Source, IsLegal, IsEvaluationStart, EvaluationEnds, home_of, HomeCarries}
use Rattle.expr_code.specs.links.OperandCode.{temporary, is_free, IsEvaluation, IsOperand, IsPair, IsTest, IsMade, IsConstantForm, one, truth_of}
use Rattle.expr_code.proofs.RunComposition.{stands_right}
use Rattle.expr_code.proofs.PreservedRegisters.{or_right, kept_later, local_kept, own_kept, with_own}
use Rattle.expr_code.proofs.ValueKinds.{kind_is}
use Rattle.expr_code.proofs.CodeComposition.{wider, having, then_ends, nothing_ends, computed, begins_left, begins_right, begins_as, room_right, typed_is, made}
use Rattle.expr_code.specs.declared.home.Home.{Home}
use Rattle.expr_code.specs.declared.home.Home.TheVariants.{InRegister}

-- ---- One operand

pub unary_code : (operator : Unary) (k : Kind) (rd rs : ℕ) (a b : List Instr) → 0 < rd → rd < 32 → IsUnary operator k rd rs b →
    (h : Homes) (x : e.Expr) (held : ℕ) → kind_of x ≡ k → IsOperand h x held rs a → IsEvaluation h (e.Unary operator x) held rd (a ++ b)
unary_code operator k rd rs a b some small u h x held kind operand =
    made h x (e.Unary operator x) a b (is_free held) rs rd k (unary_of operator) some small kind
    (λ s r l. record { suits = l.suits; formed = l.formed; fits = l.fits; loaded = l.loaded })
    (λ s l y q. q) (λ s. refl) (λ n q. Holds-unary_number operator k n) (λ n y are c. u.computes y are n c) operand.gives

pub conversion_code : (from to : Kind) (rd rs : ℕ) (a b : List Instr) → 0 < rd → rd < 32 → IsConversion from to rd rs b →
    (h : Homes) (x : e.Expr) (held : ℕ) → kind_of x ≡ from → IsOperand h x held rs a → IsEvaluation h (e.Converted to x) held rd (a ++ b)
conversion_code from to rd rs a b some small u h x held kind operand =
    made h x (e.Converted to x) a b (is_free held) rs rd from (λ v. converted v to) some small kind
    (λ s r l. record { suits = l.suits; formed = l.formed; fits = l.fits; loaded = l.loaded })
    (λ s l y q. q) (λ s. refl) (λ n q. Holds-reduced to n) (λ n y are c. u.computes y are n c) operand.gives

pub copy_code : (rd rs : ℕ) (a b : List Instr) → 0 < rd → rd < 32 → IsCopy rd rs b →
    (h : Homes) (x : e.Expr) (held : ℕ) → IsOperand h x held rs a → IsEvaluation h x held rd (a ++ b)
copy_code rd rs a b some small u h x held operand =
    made h x x a b (is_free held) rs rd (kind_of x) (λ v. v) some small refl (λ s r l. l) (λ s l y q. q) (λ s. refl) (λ n q. q)
    (λ n y are c. let below : read y rs < 2 ^ 64 = rw c.form (register_below (kind_of x) n) in
    subst (λ (v : ℕ). Computes b y rd v) c.form (u.computes y are below)) operand.gives

kept_form : (from to : Kind) (rs : ℕ) (y : List ℕ) (v : Typed) → KeepsForm from to → v.kind ≡ from → Carries y rs v → Carries y rs (converted v to)
kept_form from to rs y v keeps k c =
    let d = subst (λ (u : Typed). Carries y rs u) (typed_is v from k) c in
    record { held = Holds-reduced to v.number; form = d.form ∙ sym (keeps v.number d.held) }

-- a conversion that keeps the form needs nothing
pub kept_code : (from to : Kind) (rs : ℕ) (a : List Instr) → KeepsForm from to →
    (h : Homes) (x : e.Expr) (held : ℕ) → kind_of x ≡ from → IsOperand h x held rs a → IsOperand h (e.Converted to x) held rs a
kept_code from to rs a keeps h x held kind operand = record { gives = record { ends = ends }; kept = operand.kept }
  where
    ends : (s : Source) (r : Environment) (m : LocalConfig) → IsLegal h s r (e.Converted to x) → IsEvaluationStart h s r (e.Converted to x) a m →
        EvaluationEnds r a (is_free held) (λ y. Carries y rs (converted (value s.locals s.numbers x) to)) m
    ends s r m l b =
        let v = value s.locals s.numbers x in
        having r a (is_free held) (λ y. Carries y rs v) (λ y. Carries y rs (converted v to)) m
        (λ y c. kept_form from to rs y v keeps (kind_is s.locals s.numbers x ∙ kind) c)
        (operand.gives.ends s r m (record { suits = l.suits; formed = l.formed; fits = l.fits; loaded = l.loaded })
        (begins_as h s r (e.Converted to x) x a m b.locals b))

-- an evaluation into the next temporary is an operand
pub own_operand : (h : Homes) (x : e.Expr) (held : ℕ) (a : List Instr) → held < 4 → IsEvaluation h x held (temporary held) a →
    IsOperand h x held (temporary held) a
own_operand h x held a l g = record { gives = record { ends = ends }; kept = own_kept held l }
  where
    ends : (s : Source) (r : Environment) (m : LocalConfig) → IsLegal h s r x → IsEvaluationStart h s r x a m →
        EvaluationEnds r a (is_free held) (λ y. Carries y (temporary held) (value s.locals s.numbers x)) m
    ends s r m legal b =
        wider r a (λ n. n == temporary held || is_free held n) (is_free held) (λ y. Carries y (temporary held) (value s.locals s.numbers x)) m
        (λ n q. with_own held n l q) (g.ends s r m legal b)

-- a local is an operand where it stands
pub local_operand : (h : Homes) (local : ℕ) (k : Kind) (held register : ℕ) → home_of h.locals local ≡ InRegister register → is_local register ≡ true →
    IsOperand h (e.Local local k) held register []
local_operand h local k held register is l = record { gives = record { ends = ends }; kept = local_kept (suc held) register l }
  where
    ends : (s : Source) (r : Environment) (m : LocalConfig) → IsLegal h s r (e.Local local k) → IsEvaluationStart h s r (e.Local local k) [] m →
        EvaluationEnds r [] (is_free held) (λ y. Carries y register (typed k (slice_index_or s.locals local (pos 0)))) m
    ends s r m legal b =
        let v = typed k (slice_index_or s.locals local (pos 0)) in
        nothing_ends r (is_free held) (λ y. Carries y register v) m b.at.registers
        (subst (λ (home : Home). HomeCarries r.loads m.registers home v) is b.locals)

pub constant_value : (v : Typed) (rd : ℕ) (code : List Instr) → 0 < rd → rd < 32 → Holds v.kind v.number → IsConstant rd (register_form_of v) code →
    (h : Homes) (held : ℕ) → IsEvaluation h (e.Constant v) held rd code
constant_value v rd code some small holds c h held = record { ends = ends }
  where
    ends : (s : Source) (r : Environment) (m : LocalConfig) → IsLegal h s r (e.Constant v) → IsEvaluationStart h s r (e.Constant v) code m →
        EvaluationEnds r code (λ n. n == rd || is_free held n) (λ y. Carries y rd v) m
    ends s r m legal b =
        computed r code (is_free held) rd (register_form_of v) (λ y. Carries y rd v) m some small b.at.registers
        (record {
          unseen = λ pc. c.unseen m.registers pc b.at.registers.count b.at.registers.zero_is;
          changes =
              λ pc. c.changes m.registers pc b.at.registers.count b.at.registers.zero_is;
        })
        b.at.stands b.at.room (λ y are at others. record { held = holds; form = at })

-- ---- Two operands

pub left_pair : (h : Homes) (x y : e.Expr) (held : ℕ) (p : pair.Pair) (a b : List Instr) → p.code.items ≡ a ++ b →
    IsOperand h x held p.left a → IsOperand h y (held + 1) p.right b → IsPair h x y held p
left_pair h x y held p a b is first second = record { ends = ends }
  where
    ends : (s : Source) (r : Environment) (m : LocalConfig) → IsLegal h s r x → IsLegal h s r y →
        IsEvaluationStart h s r x p.code.items m → IsEvaluationStart h s r y p.code.items m →
        EvaluationEnds r p.code.items (is_free held) (λ z. Carries z p.left (value s.locals s.numbers x) × Carries z p.right (value s.locals s.numbers y)) m
    ends s r m lx ly bx by =
        let later = subst (λ (n : ℕ). IsOperand h y n p.right b) (add-one held) second in
        let gx = subst (λ (c : List Instr). IsEvaluationStart h s r x c m) is bx in
        let gy = subst (λ (c : List Instr). IsEvaluationStart h s r y c m) is by in
        let vx = value s.locals s.numbers x in
        let vy = value s.locals s.numbers y in
        subst (λ (c : List Instr). EvaluationEnds r c (is_free held) (λ z. Carries z p.left vx × Carries z p.right vy) m) (sym is)
        (then_ends r a b (is_free held) (λ z. Carries z p.left vx) (λ z. Carries z p.left vx × Carries z p.right vy) m
        (first.gives.ends s r m lx (begins_left h s r x a b m gx))
        (λ z are same has.
        let more = later.gives.ends s r (config z (m.pc + 4 * length a)) ly
        (begins_right h s r y a b (is_free held) m z ly gy are same (λ n l. local_kept held n l)) in
        record {
          registers = more.registers;
          leads = more.leads;
          short = more.short;
          are = more.are;
          unchanged = λ n q. more.unchanged n (kept_later held n q);
          has = (record { held = has.held; form = more.unchanged p.left first.kept ∙ has.form }, more.has);
        }))

pub right_pair : (h : Homes) (x y : e.Expr) (held : ℕ) (p : pair.Pair) (a b : List Instr) → p.code.items ≡ b ++ a →
    IsOperand h x (held + 1) p.left a → IsOperand h y held p.right b → IsPair h x y held p
right_pair h x y held p a b is second first = record { ends = ends }
  where
    ends : (s : Source) (r : Environment) (m : LocalConfig) → IsLegal h s r x → IsLegal h s r y →
        IsEvaluationStart h s r x p.code.items m → IsEvaluationStart h s r y p.code.items m →
        EvaluationEnds r p.code.items (is_free held) (λ z. Carries z p.left (value s.locals s.numbers x) × Carries z p.right (value s.locals s.numbers y)) m
    ends s r m lx ly bx by =
        let later = subst (λ (n : ℕ). IsOperand h x n p.left a) (add-one held) second in
        let gx = subst (λ (c : List Instr). IsEvaluationStart h s r x c m) is bx in
        let gy = subst (λ (c : List Instr). IsEvaluationStart h s r y c m) is by in
        let vx = value s.locals s.numbers x in
        let vy = value s.locals s.numbers y in
        subst (λ (c : List Instr). EvaluationEnds r c (is_free held) (λ z. Carries z p.left vx × Carries z p.right vy) m) (sym is)
        (then_ends r b a (is_free held) (λ z. Carries z p.right vy) (λ z. Carries z p.left vx × Carries z p.right vy) m
        (first.gives.ends s r m ly (begins_left h s r y b a m gy))
        (λ z are same has.
        let more = later.gives.ends s r (config z (m.pc + 4 * length b)) lx
        (begins_right h s r x b a (is_free held) m z lx gx are same (λ n l. local_kept held n l)) in
        record {
          registers = more.registers;
          leads = more.leads;
          short = more.short;
          are = more.are;
          unchanged = λ n q. more.unchanged n (kept_later held n q);
          has = (more.has, record { held = has.held; form = more.unchanged p.right first.kept ∙ has.form });
        }))

left_legal : (h : Homes) (s : Source) (r : Environment) (operator : Binary) (k : Kind) (x y : e.Expr) → IsLegal h s r (e.Binary operator x y) →
    IsLegal h s r (e.Converted k x)
left_legal h s r operator k x y l = record { suits = l.suits; formed = l.formed.0; fits = l.fits.0; loaded = l.loaded.0 }

right_legal : (h : Homes) (s : Source) (r : Environment) (operator : Binary) (k : Kind) (x y : e.Expr) → IsLegal h s r (e.Binary operator x y) →
    IsLegal h s r (e.Converted k y)
right_legal h s r operator k x y l = record { suits = l.suits; formed = l.formed.1; fits = l.fits.1; loaded = l.loaded.1 }

operands_are : (o : BinaryOperation) (p : pair.Pair) (z : List ℕ) (v u : Typed) →
    Carries z p.left (converted v (left_kind o)) × Carries z p.right (converted u (right_kind o)) →
    AreOperands o v.number u.number (read z p.left) (read z p.right)
operands_are o p z v u c = record { left = c.0.form; right = c.1.form }

given_is : (o : BinaryOperation) (v u : Typed) → v.kind ≡ o.left → u.kind ≡ o.right → given_by o v.number u.number ≡ binary_of o.operator v u
given_is o v u j k =
    ap (λ (t : Typed). binary_of o.operator t (typed o.right u.number)) (sym (typed_is v o.left j)) ∙
    ap (λ (t : Typed). binary_of o.operator v t) (sym (typed_is u o.right k))

pub binary_code : (o : BinaryOperation) (rd : ℕ) (p : pair.Pair) (b : List Instr) → 0 < rd → rd < 32 → IsBinary o rd p.left p.right b →
    (h : Homes) (x y : e.Expr) (held : ℕ) → kind_of x ≡ o.left → kind_of y ≡ o.right →
    IsPair h (e.Converted (left_kind o) x) (e.Converted (right_kind o) y) held p → IsEvaluation h (e.Binary o.operator x y) held rd (p.code.items ++ b)
binary_code o rd p b some small u h x y held kx ky both = record { ends = ends }
  where
    ends : (s : Source) (r : Environment) (m : LocalConfig) → IsLegal h s r (e.Binary o.operator x y) →
        IsEvaluationStart h s r (e.Binary o.operator x y) (p.code.items ++ b) m →
        EvaluationEnds r (p.code.items ++ b) (λ n. n == rd || is_free held n)
        (λ z. Carries z rd (binary_of o.operator (value s.locals s.numbers x) (value s.locals s.numbers y))) m
    ends s r m l begins =
        let a = p.code.items in
        let vx = value s.locals s.numbers x in
        let vy = value s.locals s.numbers y in
        let cx = converted vx (left_kind o) in
        let cy = converted vy (right_kind o) in
        let w : ℕ → Bool = λ n. n == rd || is_free held n in
        let is : given_by o vx.number vy.number ≡ binary_of o.operator vx vy =
        given_is o vx vy (kind_is s.locals s.numbers x ∙ kx) (kind_is s.locals s.numbers y ∙ ky) in
        then_ends r a b w (λ z. Carries z p.left cx × Carries z p.right cy) (λ z. Carries z rd (binary_of o.operator vx vy)) m
        (wider r a (is_free held) w (λ z. Carries z p.left cx × Carries z p.right cy) m (λ n q. or_right (n == rd) (is_free held n) q)
        (both.ends s r m (left_legal h s r o.operator (left_kind o) x y l) (right_legal h s r o.operator (right_kind o) x y l)
        (begins_as h s r (e.Binary o.operator x y) (e.Converted (left_kind o) x) p.code.items m begins.locals.0
        (begins_left h s r (e.Binary o.operator x y) p.code.items b m begins))
        (begins_as h s r (e.Binary o.operator x y) (e.Converted (right_kind o) y) p.code.items m begins.locals.1
        (begins_left h s r (e.Binary o.operator x y) p.code.items b m begins))))
        (λ z are same has. computed r b (is_free held) rd (register_form_of (given_by o vx.number vy.number)) (λ q. Carries q rd (binary_of o.operator vx vy))
        (config z (m.pc + 4 * length a)) some small are
        (u.computes z are vx.number vy.number (operands_are o p z vx vy has)) (stands_right r m.pc a b begins.at.stands) (room_right r a b m begins.at)
        (λ q are_q at others. record {
          held = Holds-binary_number o.operator vx.kind vx.number vy.kind vy.number;
          form = at ∙ ap register_form_of is;
        }))

pub immediate_code : (form : ImmediateForm) (rd rs : ℕ) (a : List Instr) → 0 < rd → rd < 32 →
    (o : BinaryOperation) (h : Homes) (x y : e.Expr) (held : ℕ) → kind_of x ≡ o.left → kind_of y ≡ o.right → IsConstantForm o y form →
    IsOperand h (e.Converted (left_kind o) x) held rs a → IsEvaluation h (e.Binary o.operator x y) held rd (a ++ instruction_in form rd rs ∷ [])
immediate_code form rd rs a some small o h x y held kx ky f operand = record { ends = ends }
  where
    ends : (s : Source) (r : Environment) (m : LocalConfig) → IsLegal h s r (e.Binary o.operator x y) →
        IsEvaluationStart h s r (e.Binary o.operator x y) (a ++ instruction_in form rd rs ∷ []) m →
        EvaluationEnds r (a ++ instruction_in form rd rs ∷ []) (λ n. n == rd || is_free held n)
        (λ z. Carries z rd (binary_of o.operator (value s.locals s.numbers x) (value s.locals s.numbers y))) m
    ends s r m l begins =
        let b = instruction_in form rd rs ∷ [] in
        let vx = value s.locals s.numbers x in
        let vy = value s.locals s.numbers y in
        let cx = converted vx (left_kind o) in
        let w : ℕ → Bool = λ n. n == rd || is_free held n in
        let constant : vy ≡ f.number = ap (λ (t : e.Expr). value s.locals s.numbers t) f.is in
        let right : register_form_of (converted f.number (right_kind o)) ≡ register_form_of (converted vy (right_kind o)) =
        ap (λ (v : Typed). register_form_of (converted v (right_kind o))) (sym constant) in
        let is : given_by o vx.number vy.number ≡ binary_of o.operator vx vy =
        given_is o vx vy (kind_is s.locals s.numbers x ∙ kx) (kind_is s.locals s.numbers y ∙ ky) in
        let whole = begins_left h s r (e.Binary o.operator x y) a b m begins in
        then_ends r a b w (λ z. Carries z rs cx) (λ z. Carries z rd (binary_of o.operator vx vy)) m
        (wider r a (is_free held) w (λ z. Carries z rs cx) m (λ n q. or_right (n == rd) (is_free held n) q)
        (operand.gives.ends s r m (left_legal h s r o.operator (left_kind o) x y l)
        (begins_as h s r (e.Binary o.operator x y) (e.Converted (left_kind o) x) a m begins.locals.0 whole)))
        (λ z are same has. computed r b (is_free held) rd (register_form_of (given_by o vx.number vy.number)) (λ q. Carries q rd (binary_of o.operator vx vy))
        (config z (m.pc + 4 * length a)) some small are
        (f.gives.computes z rd rs some are vx.number vy.number (record { left = has.form; right = right }))
        (stands_right r m.pc a b begins.at.stands) (room_right r a b m begins.at)
        (λ q are_q at others. record {
          held = Holds-binary_number o.operator vx.kind vx.number vy.kind vy.number;
          form = at ∙ ap register_form_of is;
        }))

-- ---- References

-- 1 has its own register form
pub one_form : register_form_of (converted (typed UnsignedLong (pos 1)) UnsignedLong) ≡ 1
unfolding reduction.residue reduction.from_least_on
one_form = refl

-- an operand that is an `unsigned long` is the same when it is converted to one
pub again_operand : (h : Homes) (x : e.Expr) (held rs : ℕ) (a : List Instr) → kind_of x ≡ UnsignedLong → IsOperand h x held rs a →
    IsOperand h (e.Converted UnsignedLong x) held rs a
again_operand h x held rs a kind operand =
    kept_code UnsignedLong UnsignedLong rs a (λ z holds. ap (λ (n : ℤ). register_form_of (typed UnsignedLong n)) (reduced_held UnsignedLong z holds))
    h x held kind operand

-- a reference is its element's number and 1
pub address_code : (h : Homes) (variable : ℕ) (index_place : Place) (x : e.Expr) (held rd : ℕ) (a : List Instr) →
    IsEvaluation h (e.Binary Add (e.Converted UnsignedLong x) one) held rd a → IsEvaluation h (e.Address variable index_place x) held rd a
address_code h variable index_place x held rd a sum = record { ends = ends }
  where
    ends : (s : Source) (r : Environment) (m : LocalConfig) → IsLegal h s r (e.Address variable index_place x) →
        IsEvaluationStart h s r (e.Address variable index_place x) a m →
        EvaluationEnds r a (λ n. n == rd || is_free held n) (λ y. Carries y rd (reference_to (value s.locals s.numbers x))) m
    ends s r m l b =
        sum.ends s r m (record { suits = l.suits; formed = (l.formed.1, tt); fits = (l.fits.1, tt); loaded = (l.loaded, tt) })
        (begins_as h s r (e.Address variable index_place x) (e.Binary Add (e.Converted UnsignedLong x) one) a m (b.locals, tt) b)

-- the element's number is a reference without 1
pub referent_code : (h : Homes) (place : Place) (last local held rd : ℕ) (a : List Instr) →
    IsEvaluation h (e.Binary Sub (e.Local local UnsignedLong) one) held rd a → IsEvaluation h (e.Referent place last local) held rd a
referent_code h place last local held rd a difference = record { ends = ends }
  where
    ends : (s : Source) (r : Environment) (m : LocalConfig) → IsLegal h s r (e.Referent place last local) →
        IsEvaluationStart h s r (e.Referent place last local) a m →
        EvaluationEnds r a (λ n. n == rd || is_free held n) (λ y. Carries y rd (referent (slice_index_or s.locals local (pos 0)))) m
    ends s r m l b =
        difference.ends s r m (record { suits = l.suits; formed = (l.formed, tt); fits = (tt, tt); loaded = (tt, tt) })
        (begins_as h s r (e.Referent place last local) (e.Binary Sub (e.Local local UnsignedLong) one) a m (b.locals, tt) b)

-- ---- Tests

pub comparison_test : (o : BinaryOperation) (p : pair.Pair) (t : Test) → IsComparison o p.left p.right t →
    (h : Homes) (x y : e.Expr) (held : ℕ) → kind_of x ≡ o.left → kind_of y ≡ o.right →
    IsPair h (e.Converted (left_kind o) x) (e.Converted (right_kind o) y) held p → IsTest h (e.Binary o.operator x y) held t p.code.items
comparison_test o p t u h x y held kx ky both = record { ends = ends }
  where
    ends : (s : Source) (r : Environment) (m : LocalConfig) → IsLegal h s r (e.Binary o.operator x y) →
        IsEvaluationStart h s r (e.Binary o.operator x y) p.code.items m →
        EvaluationEnds r p.code.items (is_free held)
        (λ z. passes t z ≡ not (is_zero (binary_of o.operator (value s.locals s.numbers x) (value s.locals s.numbers y)).number)) m
    ends s r m l begins =
        let vx = value s.locals s.numbers x in
        let vy = value s.locals s.numbers y in
        let is : given_by o vx.number vy.number ≡ binary_of o.operator vx vy =
        given_is o vx vy (kind_is s.locals s.numbers x ∙ kx) (kind_is s.locals s.numbers y ∙ ky) in
        having r p.code.items (is_free held) (λ z. Carries z p.left (converted vx (left_kind o)) × Carries z p.right (converted vy (right_kind o)))
        (λ z. passes t z ≡ not (is_zero (binary_of o.operator vx vy).number)) m
        (λ z has. u.taken z vx.number vy.number (operands_are o p z vx vy has) ∙ ap (λ (v : Typed). not (is_zero v.number)) is)
        (both.ends s r m (left_legal h s r o.operator (left_kind o) x y l) (right_legal h s r o.operator (right_kind o) x y l)
        (begins_as h s r (e.Binary o.operator x y) (e.Converted (left_kind o) x) p.code.items m begins.locals.0 begins)
        (begins_as h s r (e.Binary o.operator x y) (e.Converted (right_kind o) y) p.code.items m begins.locals.1 begins))

not_truth : (b : Bool) → not (not b) ≡ not (is_zero (truth b))
not_truth true = refl
not_truth false = refl

pub not_test : (t other : Test) (a : List Instr) → IsOpposite t other →
    (h : Homes) (x : e.Expr) (held : ℕ) → IsTest h x held t a → IsTest h (e.Unary Not x) held other a
not_test t other a u h x held g = record { ends = ends }
  where
    ends : (s : Source) (r : Environment) (m : LocalConfig) → IsLegal h s r (e.Unary Not x) → IsEvaluationStart h s r (e.Unary Not x) a m →
        EvaluationEnds r a (is_free held) (λ y. passes other y ≡ not (is_zero (truth (is_zero (value s.locals s.numbers x).number)))) m
    ends s r m l b =
        let z = is_zero (value s.locals s.numbers x).number in
        having r a (is_free held) (λ y. passes t y ≡ not z) (λ y. passes other y ≡ not (is_zero (truth z))) m
        (λ y has. u.taken y ∙ ap not has ∙ not_truth z)
        (g.ends s r m (record { suits = l.suits; formed = l.formed; fits = l.fits; loaded = l.loaded }) (begins_as h s r (e.Unary Not x) x a m b.locals b))

pub nonzero_test : (t : Test) (k : Kind) (rs : ℕ) (a : List Instr) → IsNonzero k rs t →
    (h : Homes) (x : e.Expr) (held : ℕ) → kind_of x ≡ k → IsOperand h x held rs a → IsTest h x held t a
nonzero_test t k rs a u h x held kind operand = record { ends = ends }
  where
    ends : (s : Source) (r : Environment) (m : LocalConfig) → IsLegal h s r x → IsEvaluationStart h s r x a m →
        EvaluationEnds r a (is_free held) (λ y. passes t y ≡ not (is_zero (value s.locals s.numbers x).number)) m
    ends s r m l b =
        let v = value s.locals s.numbers x in
        let is : v ≡ typed k v.number = typed_is v k (kind_is s.locals s.numbers x ∙ kind) in
        let e = operand.gives.ends s r m l b in
        record {
          registers = e.registers;
          leads = e.leads;
          short = e.short;
          are = e.are;
          unchanged = e.unchanged;
          has = u.taken e.registers e.are v.number (subst (λ (q : Typed). Carries e.registers rs q) is e.has);
        }

pub truth_code : (k : Kind) (rd rs : ℕ) (a b : List Instr) → 0 < rd → rd < 32 → IsTruth k rd rs b →
    (h : Homes) (x : e.Expr) (held : ℕ) → kind_of x ≡ k → IsOperand h x held rs a → IsMade h x truth_of held rd (a ++ b)
truth_code k rd rs a b some small u h x held kind operand =
    let g = made h x (e.Unary Not (e.Unary Not x)) a b (is_free held) rs rd k truth_of some small kind
    (λ s r l. record { suits = l.suits; formed = l.formed; fits = l.fits; loaded = l.loaded })
    (λ s l y q. q) (λ s. ap (λ (t : Bool). typed Int (truth t)) (zero_truth (is_zero (value s.locals s.numbers x).number)))
    (λ n q. Holds-truth (not (is_zero n))) (λ n y are c. u.computes y are n c) operand.gives in
    record {
      ends = λ s r m l c.
          let f = g.ends s r m (record { suits = l.suits; formed = l.formed; fits = l.fits; loaded = l.loaded })
          (begins_as h s r x (e.Unary Not (e.Unary Not x)) (a ++ b) m c.locals c) in
          having r (a ++ b) (λ n. n == rd || is_free held n)
          (λ y. Carries y rd (typed Int (truth (is_zero (truth (is_zero (value s.locals s.numbers x).number))))))
          (λ y. Carries y rd (truth_of (value s.locals s.numbers x))) m
          (λ y has. subst (λ (t : Bool). Carries y rd (typed Int (truth t))) (zero_truth (is_zero (value s.locals s.numbers x).number)) has) f;
    }
  where
    zero_truth : (t : Bool) → is_zero (truth t) ≡ not t
    zero_truth true = refl
    zero_truth false = refl

self_truth : (b : Bool) → typed Int (truth b) ≡ truth_of (typed Int (truth b))
self_truth true = refl
self_truth false = refl

comparison_truth : (operator : Binary) (v u : Typed) → is_comparison operator ≡ true → binary_of operator v u ≡ truth_of (binary_of operator v u)
comparison_truth Less v u e = self_truth (int_lt (reduced (common_of v.kind u.kind) v.number) (reduced (common_of v.kind u.kind) u.number))
comparison_truth Greater v u e = self_truth (int_lt (reduced (common_of v.kind u.kind) u.number) (reduced (common_of v.kind u.kind) v.number))
comparison_truth LessEqual v u e = self_truth (int_le (reduced (common_of v.kind u.kind) v.number) (reduced (common_of v.kind u.kind) u.number))
comparison_truth GreaterEqual v u e = self_truth (int_le (reduced (common_of v.kind u.kind) u.number) (reduced (common_of v.kind u.kind) v.number))
comparison_truth Equal v u e = self_truth (int_eq (reduced (common_of v.kind u.kind) v.number) (reduced (common_of v.kind u.kind) u.number))
comparison_truth NotEqual v u e = self_truth (not (int_eq (reduced (common_of v.kind u.kind) v.number) (reduced (common_of v.kind u.kind) u.number)))
comparison_truth Mul v u e = cc
comparison_truth Div v u e = cc
comparison_truth Rem v u e = cc
comparison_truth Add v u e = cc
comparison_truth Sub v u e = cc
comparison_truth ShiftLeft v u e = cc
comparison_truth ShiftRight v u e = cc
comparison_truth And v u e = cc
comparison_truth Xor v u e = cc
comparison_truth Or v u e = cc
comparison_truth LogicalAnd v u e = cc
comparison_truth LogicalOr v u e = cc

-- a comparison's value is its truth
pub comparison_made : (h : Homes) (operator : Binary) (x y : e.Expr) (held rd : ℕ) (a : List Instr) → is_comparison operator ≡ true →
    IsEvaluation h (e.Binary operator x y) held rd a → IsMade h (e.Binary operator x y) truth_of held rd a
comparison_made h operator x y held rd a c g = record {
  ends = λ s r m l b.
      let v = binary_of operator (value s.locals s.numbers x) (value s.locals s.numbers y) in
      having r a (λ n. n == rd || is_free held n) (λ z. Carries z rd v) (λ z. Carries z rd (truth_of v)) m
      (λ z has. subst (λ (t : Typed). Carries z rd t) (comparison_truth operator (value s.locals s.numbers x) (value s.locals s.numbers y) c) has)
      (g.ends s r m l b);
}

-- ---- A conversion on the way to a kind that isn't wider

-- the moduli of kinds divide one another
times : (n m : ℕ) → m ≤ n → 2 ^ (8 * n) ≡ 2 ^ (8 * n - 8 * m) * 2 ^ (8 * m)
times n m l = ap (λ (k : ℕ). 2 ^ k) (let e : 8 * n ≡ 8 * n - 8 * m + 8 * m = omega arith in e) ∙ pow-add 2 (8 * n - 8 * m) (8 * m)

narrowed : (j k : Kind) (z : ℤ) → bits_of k ≤ bits_of j → reduced k (reduced j z) ≡ reduced k z
narrowed j k z l =
    let p : modulus_of j ≡ 2 ^ (bits_of j - bits_of k) * modulus_of k = times (bytes_of j) (bytes_of k) (omega arith) in
    reduced-same k (reduced j z) z (Same-factor (modulus_of k) (2 ^ (bits_of j - bits_of k)) (reduced j z) z
    (subst (λ (n : ℕ). Same n (reduced j z) z) p (Same-reduced j z)))

pub skipped_code : (h : Homes) (j k : Kind) (x : e.Expr) (held rd : ℕ) (a : List Instr) → bits_of k ≤ bits_of j →
    IsEvaluation h (e.Converted k x) held rd a → IsEvaluation h (e.Converted k (e.Converted j x)) held rd a
skipped_code h j k x held rd a narrow g = record { ends = ends }
  where
    ends : (s : Source) (r : Environment) (m : LocalConfig) → IsLegal h s r (e.Converted k (e.Converted j x)) →
        IsEvaluationStart h s r (e.Converted k (e.Converted j x)) a m →
        EvaluationEnds r a (λ n. n == rd || is_free held n) (λ y. Carries y rd (converted (converted (value s.locals s.numbers x) j) k)) m
    ends s r m l b =
        let v = value s.locals s.numbers x in
        having r a (λ n. n == rd || is_free held n) (λ y. Carries y rd (converted v k)) (λ y. Carries y rd (converted (converted v j) k)) m
        (λ y has. subst (λ (z : ℤ). Carries y rd (typed k z)) (sym (narrowed j k v.number narrow)) has)
        (g.ends s r m (record { suits = l.suits; formed = l.formed; fits = l.fits; loaded = l.loaded })
        (begins_as h s r (e.Converted k (e.Converted j x)) (e.Converted k x) a m b.locals b))

-- a conversion that keeps the form needs nothing
pub kept_value : (from to : Kind) (rd : ℕ) (a : List Instr) → KeepsForm from to →
    (h : Homes) (x : e.Expr) (held : ℕ) → kind_of x ≡ from → IsEvaluation h x held rd a → IsEvaluation h (e.Converted to x) held rd a
kept_value from to rd a keeps h x held kind g = record { ends = ends }
  where
    ends : (s : Source) (r : Environment) (m : LocalConfig) → IsLegal h s r (e.Converted to x) → IsEvaluationStart h s r (e.Converted to x) a m →
        EvaluationEnds r a (λ n. n == rd || is_free held n) (λ y. Carries y rd (converted (value s.locals s.numbers x) to)) m
    ends s r m l b =
        let v = value s.locals s.numbers x in
        having r a (λ n. n == rd || is_free held n) (λ y. Carries y rd v) (λ y. Carries y rd (converted v to)) m
        (λ y c. kept_form from to rd y v keeps (kind_is s.locals s.numbers x ∙ kind) c)
        (g.ends s r m (record { suits = l.suits; formed = l.formed; fits = l.fits; loaded = l.loaded }) (begins_as h s r (e.Converted to x) x a m b.locals b))

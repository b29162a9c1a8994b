-- Code that loads elements or computes their addresses.
use Rattle.std.proofs.Common.{◌≡◌, ℕ, zero, suc, ◌+◌, ◌*◌, ◌/◌, ◌%◌, ◌^◌, ◌<◌, ◌≤◌, List, [], ◌∷◌, ◌++◌, length, refl, ap, sym, ◌∙◌, arith, subst, Bool}
use Rattle.std.proofs.Common.{true, false, ◌==◌, lit<}
use Rattle.std.specs.Prelude.{◌||◌, ◌&&◌, Option, ℤ, pos, negsuc, ◌≤ℤ◌, unsigned_abs, slice_index, slice_index_or, slice_set, Some}
use Rattle.std.proofs.lemmas.Int.{ints}
use Rattle.ido_base.specs.declared.place.Place.{Place}
use Rattle.ido_ints.specs.declared.kinds.Kind.{Kind}
use Rattle.ido_ints.specs.declared.kinds.Kind.TheVariants.{Char, UnsignedChar, SignedChar, Short, UnsignedShort, Int, UnsignedInt, Long, UnsignedLong}
use Rattle.ido_ints.specs.Kinds.{Holds, bytes_of, bits_of}
use Rattle.ido_ints.specs.Reduction.{residue, register_of}
use Rattle.ido_ints.specs.TypedNumbers.{Typed, typed, register_form_of}
use Rattle.ido_ints.proofs.Public.{register_below}
use Rattle.c_tree.specs.Exprs as e
use Rattle.c_tree.specs.Ranges.{elements_of}
use Rattle.c_tree.specs.Values.{value, element_number, element_at}
use Rattle.c_tree.specs.WellFormed.{IsExpr, IsDeclared, IndexFits}
use Rattle.c_ranges.specs.Laws.{AllHeld}
use Rattle.c_ranges.proofs.Public.{fits_element}
use Rattle.rv64_isa.specs.declared.instr.Instr.{Instr}
use Rattle.rv64_isa.specs.declared.instr.Instr.TheVariants.{Lui, Load, OpImmediate, ShiftImmediate, Op}
use Rattle.rv64_isa.specs.declared.instr.Operation.TheVariants.{Add, Sll}
use Rattle.rv64_isa.specs.declared.instr.ImmediateOperation.TheVariants.{Addi}
use Rattle.rv64_isa.specs.declared.instr.ShiftOperation.TheVariants.{Slli}
use Rattle.rv64_isa.specs.Rows.{Loads, row, read, written, displaced, load_bytes, load_signed, load_result}
use Rattle.rv64_isa.specs.Arithmetic.{sign_extended, result_of}
use Rattle.operator_code.specs.ComputingCode.{AreRegisters, Carries, Computes}
use Rattle.operator_code.proofs.Public.{residue_pos, equal_by, add_small, read_same, read_other, written_is, lui_row, op_sets, immediate_sets, shift_sets, one}
use Rattle.memory_layout.specs.Roles.{is_temporary}
use Rattle.memory_layout.proofs.Public.{product_small}
use Rattle.code_runs.specs.ComputingRuns.{Environment, LocalConfig, config, HasCodeAt}
use Rattle.expr_code.specs.EvaluationCode.{Homes, Source, Suits, HoldsLocals, HomeCarries, AreLoaded, IsFramed, IsLegal, HasCodeThere, home_of}
use Rattle.expr_code.specs.declared.home.Home.{Home}
use Rattle.expr_code.specs.declared.home.Home.TheVariants.{InFrame}
use Rattle.expr_code.specs.EvaluationCode.{IsEvaluationStart, EvaluationEnds, EvaluatesTo, place_of, IsElementAddressCode}
use Rattle.expr_code.specs.EvaluationCode.{IsVariableAddressCode}
use Rattle.expr_code.specs.links.OperandCode.{temporary, is_free, IsEvaluation, IsOperand}
use Rattle.expr_code.specs.links.ForwardJumps.{LeadsBy}
use Rattle.expr_code.specs.links.ElementLoads.{loaded_by, places_of, upper_part, HasUpper}
use Rattle.expr_code.proofs.RunComposition.{loads, arrive, stands_right}
use Rattle.expr_code.proofs.PreservedRegisters.{or_left, or_right, own_is_free, spare_is_free, temporary_some, held_there}
use Rattle.expr_code.proofs.PreservedRegisters.{temporary_small, registers_after_write, is_member}
use Rattle.expr_code.proofs.CodeComposition.{having, wider, then_ends, computed, at_left, begins_left, begins_as, room_right}
use Rattle.expr_code.proofs.Addresses.{load_width, loaded_form, index_form, upper_is, parts_meet, IsNear, near_declared, near_some, bytes_small}

-- ---- One more instruction

pub then_sets : (h : Homes) (x : e.Expr) (a : List Instr) (i : Instr) (w : ℕ → Bool) (rd : ℕ) (P Q : Typed → List ℕ → Type 0) (u : Typed → List ℕ → ℕ) →
    0 < rd → rd < 32 → w rd ≡ true → ((v : Typed) (y : List ℕ) → AreRegisters y → P v y → Computes (i ∷ []) y rd (u v y)) →
    ((v : Typed) (y z : List ℕ) → P v y → read z rd ≡ u v y → ((n : ℕ) → (n == rd) ≡ false → read z n ≡ read y n) → Q v z) →
    EvaluatesTo h x a w P → EvaluatesTo h x (a ++ i ∷ []) w Q
then_sets h x a i w rd P Q u some small free sets after g = record { ends = ends }
  where
    ends : (s : Source) (r : Environment) (m : LocalConfig) → IsLegal h s r x → IsEvaluationStart h s r x (a ++ i ∷ []) m →
        EvaluationEnds r (a ++ i ∷ []) w (Q (value s.locals s.numbers x)) m
    ends s r m l b =
        let v = value s.locals s.numbers x in
        then_ends r a (i ∷ []) w (P v) (Q v) m (g.ends s r m l (begins_left h s r x a (i ∷ []) m b))
        (λ y are same has. wider r (i ∷ []) (λ n. n == rd || w n) w (Q v) (config y (m.pc + 4 * length a)) (λ n f. is_member w rd n free f)
        (computed r (i ∷ []) w rd (u v y) (Q v) (config y (m.pc + 4 * length a)) some small are (sets v y are has)
        (stands_right r m.pc a (i ∷ []) b.at.stands) (room_right r a (i ∷ []) m b.at)
        (λ z are_z at others. after v y z has at others)))

-- ---- The upper part

lui_computes : (address : ℕ) (y : List ℕ) → address + 2048 < 2 ^ 31 → AreRegisters y →
    Computes (Lui 31 ((address + 2048) % 2 ^ 32 / 4096) ∷ []) y 31 (upper_part address)
lui_computes address y l are =
    let c = lui_row 31 ((address + 2048) % 2 ^ 32 / 4096) (lit< tt) in
    record {
      unseen = λ pc. c.unseen y pc are.count are.zero_is;
      changes = λ pc. c.changes y pc are.count are.zero_is ∙ ap (λ (n : ℕ). slice_set y 31 n) (upper_is address l);
    }

shifted : (k : Kind) (n : ℕ) → n < 2 ^ 31 → result_of Sll n (places_of k) ≡ bytes_of k * n
unfolding result_of
shifted Char n h = omega arith
shifted UnsignedChar n h = omega arith
shifted SignedChar n h = omega arith
shifted Short n h = omega arith
shifted UnsignedShort n h = omega arith
shifted Int n h = omega arith
shifted UnsignedInt n h = omega arith
shifted Long n h = omega arith
shifted UnsignedLong n h = omega arith

not_spare : (held rs : ℕ) → is_free (suc held) rs ≡ false → (rs == 31) ≡ false
not_spare held rs kept = by (rs == 31) refl
  where
    by : (b : Bool) → (rs == 31) ≡ b → (rs == 31) ≡ false
    by false t = t
    by true t =
        let same : is_free (suc held) rs ≡ is_free (suc held) 31 = ap (is_free (suc held)) (equal_by rs 31 t) in
        absurd (let z : ⊥ = cc (same, kept, spare_is_free (suc held)) in z)

own_not_spare : (held : ℕ) → (31 == temporary held) ≡ false
own_not_spare zero = refl
own_not_spare (suc zero) = refl
own_not_spare (suc (suc zero)) = refl
own_not_spare (suc (suc (suc held))) = refl

with_lui : (h : Homes) (x : e.Expr) (held rs address : ℕ) (a : List Instr) → address + 2048 < 2 ^ 31 → IsOperand h x held rs a →
    EvaluatesTo h x (a ++ Lui 31 ((address + 2048) % 2 ^ 32 / 4096) ∷ []) (is_free held) (λ v y. Carries y rs v × (read y 31 ≡ upper_part address))
with_lui h x held rs address a l operand =
    then_sets h x a (Lui 31 ((address + 2048) % 2 ^ 32 / 4096)) (is_free held) 31 (λ v y. Carries y rs v)
    (λ v y. Carries y rs v × (read y 31 ≡ upper_part address))
    (λ v y. upper_part address) (lit< tt) (lit< tt) (spare_is_free held) (λ v y are has. lui_computes address y l are)
    (λ v y z has at others. (record { held = has.held; form = others rs (not_spare held rs operand.kept) ∙ has.form }, at)) operand.gives

pub index_of : (v : Typed) (y : List ℕ) (rs n : ℕ) → Carries y rs v → v.number ≡ pos n → n < 2 ^ 31 → read y rs ≡ n
index_of v y rs n c e l = c.form ∙ ap (register_of v.kind) e ∙ index_form v.kind n l

with_add : (h : Homes) (x : e.Expr) (held t address : ℕ) (k : Kind) (a : List Instr) → address + 2048 < 2 ^ 31 →
    EvaluatesTo h x a (is_free held) (λ v y. ((n : ℕ) → v.number ≡ pos n → n < 2 ^ 31 → read y t ≡ bytes_of k * n) × (read y 31 ≡ upper_part address)) →
    EvaluatesTo h x (a ++ Op Add 31 31 t ∷ []) (is_free held) (HasUpper address (bytes_of k))
with_add h x held t address k a l g =
    then_sets h x a (Op Add 31 31 t) (is_free held) 31
    (λ v y. ((n : ℕ) → v.number ≡ pos n → n < 2 ^ 31 → read y t ≡ bytes_of k * n) × (read y 31 ≡ upper_part address)) (HasUpper address (bytes_of k))
    (λ v y. result_of Add (read y 31) (read y t)) (lit< tt) (lit< tt) (spare_is_free held)
    (λ v y are has. one (Op Add 31 31 t) y 31 (result_of Add (read y 31) (read y t)) (op_sets Add y 31 31 t (lit< tt)))
    (λ v y z has at others. λ n e b.
    let first : read y t ≡ bytes_of k * n = has.0 n e b in
    let second : read y 31 ≡ upper_part address = has.1 in
    let small : bytes_of k * n < 2 ^ 36 = product_small (bytes_of k) n (bytes_small k) (omega arith) in
    let fits : upper_part address + bytes_of k * n < 2 ^ 64 = omega arith in
    at ∙ ap (λ (i : ℕ). result_of Add i (read y t)) second ∙ ap (λ (i : ℕ). result_of Add (upper_part address) i) first ∙
    add_small (upper_part address) (bytes_of k * n) fits)
    g

pub scaled_upper : (k : Kind) (held rs address : ℕ) (a : List Instr) → held < 4 → (h : Homes) (x : e.Expr) → address + 2048 < 2 ^ 31 → IsOperand h x held rs a →
    EvaluatesTo h x (((a ++ Lui 31 ((address + 2048) % 2 ^ 32 / 4096) ∷ []) ++ ShiftImmediate Slli (temporary held) rs (places_of k) ∷ []) ++
    Op Add 31 31 (temporary held) ∷ [])
    (is_free held) (HasUpper address (bytes_of k))
scaled_upper k held rs address a small h x l operand =
    let first = a ++ Lui 31 ((address + 2048) % 2 ^ 32 / 4096) ∷ [] in
    let i = ShiftImmediate Slli (temporary held) rs (places_of k) in
    with_add h x held (temporary held) address k (first ++ i ∷ []) l
    (then_sets h x first i (is_free held) (temporary held) (λ v y. Carries y rs v × (read y 31 ≡ upper_part address))
    (λ v y. ((n : ℕ) → v.number ≡ pos n → n < 2 ^ 31 → read y (temporary held) ≡ bytes_of k * n) × (read y 31 ≡ upper_part address))
    (λ v y. result_of Sll (read y rs) (places_of k)) (temporary_some held) (temporary_small held) (own_is_free held small)
    (λ v y are has. one i y (temporary held) (result_of Sll (read y rs) (places_of k))
    (shift_sets Slli y (temporary held) rs (places_of k) (temporary_some held)))
    (λ v y z has at others. (
      λ n e b. at ∙ ap (λ (q : ℕ). result_of Sll q (places_of k)) (index_of v y rs n has.0 e b) ∙ shifted k n b,
      others 31 (own_not_spare held) ∙ has.1,
    ))
    (with_lui h x held rs address a l operand))

pub plain_upper : (k : Kind) (held rs address : ℕ) (a : List Instr) → places_of k ≡ 0 → (h : Homes) (x : e.Expr) → address + 2048 < 2 ^ 31 →
    IsOperand h x held rs a →
    EvaluatesTo h x ((a ++ Lui 31 ((address + 2048) % 2 ^ 32 / 4096) ∷ []) ++ Op Add 31 31 rs ∷ []) (is_free held) (HasUpper address (bytes_of k))
plain_upper k held rs address a none h x l operand =
    let first = a ++ Lui 31 ((address + 2048) % 2 ^ 32 / 4096) ∷ [] in
    let g = with_lui h x held rs address a l operand in
    with_add h x held rs address k first l (record {
      ends = λ s r m legal b.
          let f = g.ends s r m legal b in
          let v = value s.locals s.numbers x in
          record {
            registers = f.registers;
            leads = f.leads;
            short = f.short;
            are = f.are;
            unchanged = f.unchanged;
            has = (λ n e q. index_of v f.registers rs n f.has.0 e q ∙ single k n none, f.has.1);
          };
    })
  where
    single : (j : Kind) (n : ℕ) → places_of j ≡ 0 → n ≡ bytes_of j * n
    single Char n e = omega arith
    single UnsignedChar n e = omega arith
    single SignedChar n e = omega arith
    single Short n e = cc
    single UnsignedShort n e = cc
    single Int n e = cc
    single UnsignedInt n e = cc
    single Long n e = cc
    single UnsignedLong n e = cc

-- ---- Indexes

pub all_held : (h : Homes) (s : Source) (l : (address bytes : ℕ) → Option ℕ) (x : List ℕ) (t : e.Expr) → HoldsLocals h s l x t →
    IsExpr s.variables s.kinds t → AreLoaded s l t →
    AllHeld s.locals s.numbers t
all_held h s l x (e.Constant v) locals f a = tt
all_held h s l x (e.Local local k) locals f a = held_there l x (home_of h.locals local) _ locals
all_held h s l x (e.Variable place variable k) locals f a = a.held
all_held h s l x (e.Element place variable k index_place index) locals f a = (a.0.held, all_held h s l x index locals f.1 a.1)
all_held h s l x (e.Address variable index_place index) locals f a = all_held h s l x index locals f.1 a
all_held h s l x (e.Referent place last local) locals f a = a
all_held h s l x (e.Unary op t) locals f a = all_held h s l x t locals f a
all_held h s l x (e.Cast k t) locals f a = all_held h s l x t locals f a
all_held h s l x (e.Converted k t) locals f a = all_held h s l x t locals f a
all_held h s l x (e.Binary op t u) locals f a = (all_held h s l x t locals.0 f.0 a.0, all_held h s l x u locals.1 f.1 a.1)
all_held h s l x (e.Conditional k t u v) locals f a =
    (all_held h s l x t locals.0 f.0 a.0, all_held h s l x u locals.1 f.1 a.1, all_held h s l x v locals.2 f.2 a.2)

pub absolute : (z : ℤ) → pos 0 ≤ℤ z → z ≡ pos (unsigned_abs z)
absolute (pos n) h = refl
absolute (negsuc n) h = absurd (omega (arith, ints))

-- an index that fits is the number of an element
record IsIndex (s : Source) (variable : ℕ) (v : Typed) : Type 0 where
  number : v.number ≡ pos (element_at v)
  small : element_at v < 2 ^ 31

is_index : (h : Homes) (s : Source) (r : Environment) (m : LocalConfig) (variable : ℕ) (place : Place) (x : e.Expr) → IsLegal h s r x →
    HoldsLocals h s r.loads m.registers x →
    IndexFits s.variables variable place x → IsIndex s variable (value s.locals s.numbers x)
is_index h s r m variable place x l locals fits =
    let held = all_held h s r.loads m.registers x locals l.formed l.loaded in
    let f = fits_element (elements_of s.variables variable) x fits s.locals s.numbers held in
    let short : elements_of s.variables variable ≤ 4096 = l.suits.lengths variable in
    let below = f.below in
    record { number = absolute (value s.locals s.numbers x).number f.from_zero; small = omega arith }

-- ---- Loads

load_ends : (r : Environment) (w : ℕ → Bool) (k : Kind) (rd low at : ℕ) (z : ℤ) (m : LocalConfig) → 0 < rd → rd < 32 → AreRegisters m.registers →
    HasCodeAt r m.pc (Load (loaded_by k) rd 31 low ∷ []) → m.pc + 4 * 1 < 2 ^ 64 → displaced (read m.registers 31) 12 low ≡ at →
    r.loads at (bytes_of k) ≡ Some (residue (bits_of k) z) → Holds k z →
    EvaluationEnds r (Load (loaded_by k) rd 31 low ∷ []) (λ n. n == rd || w n) (λ y. Carries y rd (typed k z)) m
unfolding row
load_ends r w k rd low at z m some small are stands room address answer held =
    let x = m.registers in
    let b = load_bytes (loaded_by k) in
    let v = load_result b (load_signed (loaded_by k)) (residue (bits_of k) z) in
    let y = slice_set x rd v in
    let does : row (Load (loaded_by k) rd 31 low) x m.pc ≡ Loads at b (load_signed (loaded_by k)) rd =
    ap (λ (n : ℕ). Loads n b (load_signed (loaded_by k)) rd) address in
    let gives : r.loads at b ≡ Some (residue (bits_of k) z) = ap (r.loads at) (load_width k) ∙ answer in
    let one_step : LeadsBy r m (config (written x rd v) (m.pc + 4)) 1 =
    loads r (Load (loaded_by k) rd 31 low) x m.pc at b rd (residue (bits_of k) z) (load_signed (loaded_by k)) stands.0 does gives (omega arith) in
    let e : m.pc + 4 ≡ m.pc + 4 * 1 = omega arith in
    let whole = subst (λ (q : List ℕ). LeadsBy r m (config q (m.pc + 4 * 1)) 1) (written_is x rd v some)
    (arrive r m (written x rd v) (m.pc + 4) (m.pc + 4 * 1) 1 e one_step) in
    record {
      registers = y;
      leads = whole.leads;
      short = whole.short;
      are = registers_after_write x rd v some are;
      unchanged = λ n f. read_other x rd n v (or_left (n == rd) (w n) f);
      has = record { held = held; form = read_same x rd v are.count small ∙ loaded_form k z held };
    }

-- after the upper part, the rest of an element's address
record IsPlaced (s : Source) (variable : ℕ) (k : Kind) (address n : ℕ) (y : List ℕ) : Type 0 where
  at : displaced (read y 31) 12 (address % 4096) ≡ place_of s variable n

is_placed : (s : Source) (variable : ℕ) (k : Kind) (address n : ℕ) (y : List ℕ) → IsNear s variable k → address ≡ place_of s variable 0 → n < 2 ^ 31 →
    read y 31 ≡ upper_part address + bytes_of k * n → IsPlaced s variable k address n y
is_placed s variable k address n y near first small has =
    let close = near.near in
    let low : address + 2048 < 2 ^ 31 = omega arith in
    let bytes : bytes_of k * n < 2 ^ 36 = product_small (bytes_of k) n (bytes_small k) (omega arith) in
    record {
      at = ap (λ (q : ℕ). displaced q 12 (address % 4096)) has ∙ parts_meet address (bytes_of k * n) low bytes ∙
          ap (λ (q : ℕ). q + bytes_of k * n) first ∙ sym (near.element n);
    }

low_enough : (s : Source) (variable : ℕ) (k : Kind) (address : ℕ) → IsNear s variable k → address ≡ place_of s variable 0 → address + 2048 < 2 ^ 31
low_enough s variable k address near first = let close = near.near in omega arith

pub element_value : (k : Kind) (held rd address : ℕ) (a : List Instr) → 0 < rd → rd < 32 →
    (h : Homes) (place : Place) (variable : ℕ) (index_place : Place) (x : e.Expr) →
    slice_index h.addresses variable ≡ address → (address + 2048 < 2 ^ 31 → EvaluatesTo h x a (is_free held) (HasUpper address (bytes_of k))) →
    IsEvaluation h (e.Element place variable k index_place x) held rd (a ++ Load (loaded_by k) rd 31 (address % 4096) ∷ [])
element_value k held rd address a some small h place variable index_place x is g = record { ends = ends }
  where
    ends : (s : Source) (r : Environment) (m : LocalConfig) → IsLegal h s r (e.Element place variable k index_place x) →
        IsEvaluationStart h s r (e.Element place variable k index_place x) (a ++ Load (loaded_by k) rd 31 (address % 4096) ∷ []) m →
        EvaluationEnds r (a ++ Load (loaded_by k) rd 31 (address % 4096) ∷ []) (λ n. n == rd || is_free held n)
        (λ y. Carries y rd (typed k (element_number s.numbers variable (element_at (value s.locals s.numbers x))))) m
    ends s r m l b =
        let i = Load (loaded_by k) rd 31 (address % 4096) in
        let w : ℕ → Bool = λ n. n == rd || is_free held n in
        let v = value s.locals s.numbers x in
        let inner : IsLegal h s r x = record { suits = l.suits; formed = l.formed.1; fits = l.fits.1; loaded = l.loaded.1 } in
        let near = near_declared s variable k true l.suits.bytes l.formed.0 in
        let first_at : address ≡ place_of s variable 0 = sym is ∙ l.suits.address variable near.some in
        let index = is_index h s r m variable index_place x inner b.locals l.fits.0 in
        let n = element_at v in
        then_ends r a (i ∷ []) w (HasUpper address (bytes_of k) v) (λ y. Carries y rd (typed k (element_number s.numbers variable n))) m
        (wider r a (is_free held) w (HasUpper address (bytes_of k) v) m (λ q f. or_right (q == rd) (is_free held q) f)
        ((g (low_enough s variable k address near first_at)).ends s r m inner
        (begins_as h s r (e.Element place variable k index_place x) x a m b.locals
        (begins_left h s r (e.Element place variable k index_place x) a (i ∷ []) m b))))
        (λ y are same has. load_ends r (is_free held) k rd (address % 4096) (place_of s variable n) (element_number s.numbers variable n)
        (config y (m.pc + 4 * length a)) some small are (stands_right r m.pc a (i ∷ []) b.at.stands) (room_right r a (i ∷ []) m b.at)
        (is_placed s variable k address n y near first_at index.small (has n index.number index.small)).at l.loaded.0.answer l.loaded.0.held)

-- x31 gets the upper part
with_upper : (r : Environment) (address : ℕ) (i : Instr) (w : ℕ → Bool) (Q : List ℕ → Type 0) (m : LocalConfig) → address + 2048 < 2 ^ 31 →
    w 31 ≡ true → HasCodeThere r (Lui 31 ((address + 2048) % 2 ^ 32 / 4096) ∷ i ∷ []) m →
    ((y : List ℕ) → AreRegisters y → read y 31 ≡ upper_part address → EvaluationEnds r (i ∷ []) w Q (config y (m.pc + 4 * 1))) →
    EvaluationEnds r (Lui 31 ((address + 2048) % 2 ^ 32 / 4096) ∷ i ∷ []) w Q m
with_upper r address i w Q m low free b rest =
    let u = Lui 31 ((address + 2048) % 2 ^ 32 / 4096) in
    let g : HasCodeThere r ((u ∷ []) ++ i ∷ []) m = b in
    let f = at_left r (u ∷ []) (i ∷ []) m g in
    then_ends r (u ∷ []) (i ∷ []) w (λ y. read y 31 ≡ upper_part address) Q m
    (wider r (u ∷ []) (λ n. n == 31 || w n) w (λ y. read y 31 ≡ upper_part address) m (λ n q. is_member w 31 n free q)
    (computed r (u ∷ []) w 31 (upper_part address) (λ y. read y 31 ≡ upper_part address) m (lit< tt) (lit< tt) b.registers
    (lui_computes address m.registers low b.registers) f.stands f.room (λ y are at others. at)))
    (λ y are same has. rest y are has)

member_or : (w : ℕ → Bool) (rd n : ℕ) → w n ≡ true → (n == rd || w n) ≡ true
member_or w rd n h = by (n == rd)
  where
    by : (b : Bool) → (b || w n) ≡ true
    by true = refl
    by false = h

pub variable_value : (k : Kind) (rd address : ℕ) → 0 < rd → rd < 32 → (h : Homes) (place : Place) (variable held : ℕ) → slice_index h.addresses variable ≡
    address →
    IsEvaluation h (e.Variable place variable k) held rd (Lui 31 ((address + 2048) % 2 ^ 32 / 4096) ∷ Load (loaded_by k) rd 31 (address % 4096) ∷ [])
variable_value k rd address some small h place variable held is = record { ends = ends }
  where
    ends : (s : Source) (r : Environment) (m : LocalConfig) → IsLegal h s r (e.Variable place variable k) →
        IsEvaluationStart h s r (e.Variable place variable k) (Lui 31 ((address + 2048) % 2 ^ 32 / 4096) ∷ Load (loaded_by k) rd 31 (address % 4096) ∷ []) m →
        EvaluationEnds r (Lui 31 ((address + 2048) % 2 ^ 32 / 4096) ∷ Load (loaded_by k) rd 31 (address % 4096) ∷ []) (λ n. n == rd || is_free held n)
        (λ y. Carries y rd (typed k (element_number s.numbers variable 0))) m
    ends s r m l b =
        let u = Lui 31 ((address + 2048) % 2 ^ 32 / 4096) in
        let i = Load (loaded_by k) rd 31 (address % 4096) in
        let w : ℕ → Bool = λ n. n == rd || is_free held n in
        let near = near_declared s variable k false l.suits.bytes l.formed in
        let first_at : address ≡ place_of s variable 0 = sym is ∙ l.suits.address variable near.some in
        let none : upper_part address ≡ upper_part address + bytes_of k * 0 = omega arith in
        with_upper r address i w (λ y. Carries y rd (typed k (element_number s.numbers variable 0))) m (low_enough s variable k address near first_at)
        (member_or (is_free held) rd 31 (spare_is_free held)) b.at
        (λ y are has. load_ends r (is_free held) k rd (address % 4096) (place_of s variable 0) (element_number s.numbers variable 0)
        (config y (m.pc + 4 * 1)) some small are (stands_right r m.pc (u ∷ []) (i ∷ []) b.at.stands) (room_right r (u ∷ []) (i ∷ []) m b.at)
        (is_placed s variable k address 0 y near first_at (lit< tt) (has ∙ none)).at l.loaded.answer l.loaded.held)

-- ---- Locals of the frame

-- the word at an address into a register
pub framed_value : (rd address : ℕ) → 0 < rd → rd < 32 → (h : Homes) (local : ℕ) (k : Kind) (held : ℕ) → home_of h.locals local ≡ InFrame address →
    address < 2 ^ 30 →
    IsEvaluation h (e.Local local k) held rd
    (Lui 31 ((address + 2048) % 2 ^ 32 / 4096) ∷ Load (loaded_by UnsignedLong) rd 31 (address % 4096) ∷ [])
framed_value rd address some small h local k held is near = record { ends = ends }
  where
    ends : (s : Source) (r : Environment) (m : LocalConfig) → IsLegal h s r (e.Local local k) →
        IsEvaluationStart h s r (e.Local local k) (Lui 31 ((address + 2048) % 2 ^ 32 / 4096) ∷ Load (loaded_by UnsignedLong) rd 31 (address % 4096) ∷ []) m →
        EvaluationEnds r (Lui 31 ((address + 2048) % 2 ^ 32 / 4096) ∷ Load (loaded_by UnsignedLong) rd 31 (address % 4096) ∷ [])
        (λ n. n == rd || is_free held n) (λ y. Carries y rd (typed k (slice_index_or s.locals local (pos 0)))) m
    ends s r m l b =
        let u = Lui 31 ((address + 2048) % 2 ^ 32 / 4096) in
        let i = Load (loaded_by UnsignedLong) rd 31 (address % 4096) in
        let w : ℕ → Bool = λ n. n == rd || is_free held n in
        let v : Typed = typed k (slice_index_or s.locals local (pos 0)) in
        let there : IsFramed r.loads address v = subst (λ (home : Home). HomeCarries r.loads m.registers home v) is b.locals in
        let below : register_form_of v < 2 ^ 64 = register_below k (slice_index_or s.locals local (pos 0)) in
        let word : Holds UnsignedLong (pos (register_form_of v)) = (let e : Holds UnsignedLong (pos (register_form_of v)) = record { from_least = omega (arith, ints); to_greatest = omega (arith, below, ints) } in e) in
        let answer : r.loads address 8 ≡ Some (residue (bits_of UnsignedLong) (pos (register_form_of v))) =
        there.answer ∙ ap (λ (n : ℕ). Some n) (sym (residue_pos 64 (register_form_of v) below)) in
        let none : upper_part address ≡ upper_part address + 0 = omega arith in
        having r (u ∷ i ∷ []) w (λ y. Carries y rd (typed UnsignedLong (pos (register_form_of v)))) (λ y. Carries y rd v) m
        (λ y c. record { held = there.held; form = c.form ∙ residue_pos 64 (register_form_of v) below })
        (with_upper r address i w (λ y. Carries y rd (typed UnsignedLong (pos (register_form_of v)))) m (omega (arith, near))
        (member_or (is_free held) rd 31 (spare_is_free held)) b.at
        (λ y are has. load_ends r (is_free held) UnsignedLong rd (address % 4096) address (pos (register_form_of v))
        (config y (m.pc + 4 * 1)) some small are (stands_right r m.pc (u ∷ []) (i ∷ []) b.at.stands) (room_right r (u ∷ []) (i ∷ []) m b.at)
        (ap (λ (q : ℕ). displaced q 12 (address % 4096)) (has ∙ none) ∙ parts_meet address 0 (omega (arith, near)) (omega arith) ∙ (let e : address + 0 ≡ address = omega arith in e))
        answer word))

-- ---- Addresses

addi_computes : (rd low at : ℕ) (y : List ℕ) → 0 < rd → displaced (read y 31) 12 low ≡ at → Computes (OpImmediate Addi rd 31 low ∷ []) y rd at
unfolding result_of
addi_computes rd low at y some e =
    let c = one (OpImmediate Addi rd 31 low) y rd (result_of Add (read y 31) (sign_extended 12 64 low)) (immediate_sets Addi y rd 31 low some) in
    record { unseen = c.unseen; changes = λ pc. c.changes pc ∙ ap (λ (n : ℕ). slice_set y rd n) e }

pub free_first : (n : ℕ) → is_free 0 n ≡ is_temporary n
free_first n = by (is_temporary n)
  where
    by : (t : Bool) → (t && true) ≡ t
    by true = refl
    by false = refl

pub as_temporary : (rd n : ℕ) → (n == rd || is_temporary n) ≡ false → (n == rd || is_free 0 n) ≡ false
as_temporary rd n h = rw (free_first n) h

pub element_address_code : (k : Kind) (rd address : ℕ) (a : List Instr) → 0 < rd → rd < 32 → (h : Homes) (variable : ℕ) (x : e.Placed) →
    slice_index h.addresses variable ≡ address → (address + 2048 < 2 ^ 31 → EvaluatesTo h x.expr a (is_free 0) (HasUpper address (bytes_of k))) →
    IsElementAddressCode h variable k x rd (a ++ OpImmediate Addi rd 31 (address % 4096) ∷ [])
element_address_code k rd address a some small h variable x is g = record { ends = ends }
  where
    ends : (s : Source) (r : Environment) (m : LocalConfig) → IsDeclared s.variables variable k true → IndexFits s.variables variable x.place x.expr →
        IsLegal h s r x.expr → IsEvaluationStart h s r x.expr (a ++ OpImmediate Addi rd 31 (address % 4096) ∷ []) m →
        EvaluationEnds r (a ++ OpImmediate Addi rd 31 (address % 4096) ∷ []) (λ n. n == rd || is_temporary n)
        (λ y. read y rd ≡ place_of s variable (element_at (value s.locals s.numbers x.expr))) m
    ends s r m d fits l b =
        let i = OpImmediate Addi rd 31 (address % 4096) in
        let w : ℕ → Bool = λ n. n == rd || is_free 0 n in
        let v = value s.locals s.numbers x.expr in
        let near = near_declared s variable k true l.suits.bytes d in
        let first_at : address ≡ place_of s variable 0 = sym is ∙ l.suits.address variable near.some in
        let index = is_index h s r m variable x.place x.expr l b.locals fits in
        let n = element_at v in
        wider r (a ++ i ∷ []) w (λ q. q == rd || is_temporary q) (λ y. read y rd ≡ place_of s variable n) m (λ q f. as_temporary rd q f)
        (then_ends r a (i ∷ []) w (HasUpper address (bytes_of k) v) (λ y. read y rd ≡ place_of s variable n) m
        (wider r a (is_free 0) w (HasUpper address (bytes_of k) v) m (λ q f. or_right (q == rd) (is_free 0 q) f)
        ((g (low_enough s variable k address near first_at)).ends s r m l (begins_left h s r x.expr a (i ∷ []) m b)))
        (λ y are same has. computed r (i ∷ []) (is_free 0) rd (place_of s variable n) (λ z. read z rd ≡ place_of s variable n)
        (config y (m.pc + 4 * length a)) some small are
        (addi_computes rd (address % 4096) (place_of s variable n) y some
        (is_placed s variable k address n y near first_at index.small (has n index.number index.small)).at)
        (stands_right r m.pc a (i ∷ []) b.at.stands) (room_right r a (i ∷ []) m b.at) (λ z are_z at others. at)))

pub variable_address_code : (rd address : ℕ) → 0 < rd → rd < 32 → (h : Homes) (variable : ℕ) → slice_index h.addresses variable ≡ address →
    IsVariableAddressCode h variable rd (Lui 31 ((address + 2048) % 2 ^ 32 / 4096) ∷ OpImmediate Addi rd 31 (address % 4096) ∷ [])
variable_address_code rd address some small h variable is = record { ends = ends }
  where
    ends : (s : Source) (r : Environment) (m : LocalConfig) → Suits h s → variable < length s.variables →
        HasCodeThere r (Lui 31 ((address + 2048) % 2 ^ 32 / 4096) ∷ OpImmediate Addi rd 31 (address % 4096) ∷ []) m →
        EvaluationEnds r (Lui 31 ((address + 2048) % 2 ^ 32 / 4096) ∷ OpImmediate Addi rd 31 (address % 4096) ∷ []) (λ n. n == rd || is_temporary n)
        (λ y. read y rd ≡ place_of s variable 0) m
    ends s r m suits l b =
        let u = Lui 31 ((address + 2048) % 2 ^ 32 / 4096) in
        let i = OpImmediate Addi rd 31 (address % 4096) in
        let w : ℕ → Bool = λ n. n == rd || is_temporary n in
        let it = near_some s variable suits.bytes l in
        let k = it.0 in
        let near = it.1 in
        let first_at : address ≡ place_of s variable 0 = sym is ∙ suits.address variable near.some in
        let none : upper_part address ≡ upper_part address + bytes_of k * 0 = omega arith in
        with_upper r address i w (λ y. read y rd ≡ place_of s variable 0) m (low_enough s variable k address near first_at)
        (member_or is_temporary rd 31 refl) b
        (λ y are has. computed r (i ∷ []) is_temporary rd (place_of s variable 0) (λ z. read z rd ≡ place_of s variable 0)
        (config y (m.pc + 4 * 1)) some small are
        (addi_computes rd (address % 4096) (place_of s variable 0) y some (is_placed s variable k address 0 y near first_at (lit< tt) (has ∙ none)).at)
        (stands_right r m.pc (u ∷ []) (i ∷ []) b.stands) (room_right r (u ∷ []) (i ∷ []) m b) (λ z are_z at others. at))

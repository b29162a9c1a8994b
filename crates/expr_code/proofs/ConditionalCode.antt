-- Conditionals, `&&` and `||` as choices.
use Rattle.std.proofs.Common.{◌≡◌, ℕ, ◌^◌, ◌<◌, List, refl, arith, Bool, true, false, ◌==◌}
use Rattle.std.specs.Prelude.{not, ◌||◌, ◌&&◌, pos, if◌then◌else◌}
use Rattle.ido_ints.specs.declared.kinds.Kind.{Kind}
use Rattle.ido_ints.specs.declared.kinds.Kind.TheVariants.{Int}
use Rattle.ido_ints.specs.declared.operators.Binary.TheVariants.{LogicalAnd, LogicalOr}
use Rattle.ido_ints.specs.Operators.{truth, is_zero}
use Rattle.ido_ints.specs.TypedNumbers.{Typed, typed, converted, register_form_of}
use Rattle.c_tree.specs.Exprs as e
use Rattle.c_tree.specs.Values.{value}
use Rattle.rv64_isa.specs.declared.instr.Instr.{Instr}
use Rattle.operator_code.specs.ComputingCode.{Carries}
use Rattle.code_runs.specs.ComputingRuns.{Environment, LocalConfig}
use Rattle.expr_code.specs.EvaluationCode.{Homes, Source, IsLegal, IsEvaluationStart, EvaluationEnds}
use Rattle.expr_code.specs.links.OperandCode.{is_free, IsEvaluation, IsMade, IsChoice, Choice, truth_of}
use Rattle.expr_code.proofs.Addresses.{index_form}
use Rattle.expr_code.proofs.CodeComposition.{having}

abbrev pub conditional : Kind → (c x y : e.Expr) → Choice
conditional k c x y = record { condition = c; chosen = x; from_chosen = λ v. converted v k; otherwise = y; from_otherwise = λ v. converted v k }

abbrev pub number : ℕ → e.Expr
number n = e.Constant (typed Int (pos n))

abbrev pub conjunction : (x y : e.Expr) → Choice
conjunction x y = record { condition = x; chosen = y; from_chosen = truth_of; otherwise = number 0; from_otherwise = λ v. v }

abbrev pub disjunction : (x y : e.Expr) → Choice
disjunction x y = record { condition = x; chosen = number 1; from_chosen = λ v. v; otherwise = y; from_otherwise = truth_of }

pub small_form : (n : ℕ) → n < 2 ^ 11 → register_form_of (typed Int (pos n)) < 2 ^ 11
small_form n l = rw (index_form Int n (omega arith)) l

pub as_made : (h : Homes) (k : Kind) (x : e.Expr) (held rd : ℕ) (a : List Instr) → IsEvaluation h (e.Converted k x) held rd a →
    IsMade h x (λ v. converted v k) held rd a
as_made h k x held rd a g = record {
  ends = λ s r m l b. g.ends s r m (record { suits = l.suits; formed = l.formed; fits = l.fits; loaded = l.loaded })
      (record { at = b.at; locals = b.locals });
}

constant_legal : (h : Homes) (s : Source) (r : Environment) (x : e.Expr) (v : Typed) → IsLegal h s r x → IsLegal h s r (e.Constant v)
constant_legal h s r x v l = record { suits = l.suits; formed = tt; fits = tt; loaded = tt }

chosen_is : (z : Bool) (k : Kind) (x y : Typed) → (if z then converted y k else converted x k) ≡ converted (if z then y else x) k
chosen_is true k x y = refl
chosen_is false k x y = refl

both_is : (z : Bool) (j k : Kind) (v : Typed) → (if z then typed Int (pos 0) else truth_of v) ≡ typed Int (truth (not z && not (is_zero v.number)))
both_is true j k v = refl
both_is false j k v = refl

either_is : (z : Bool) (j k : Kind) (v : Typed) → (if z then truth_of v else typed Int (pos 1)) ≡ typed Int (truth (not z || not (is_zero v.number)))
either_is true j k v = refl
either_is false j k v = refl

pub conditional_code : (h : Homes) (k : Kind) (c x y : e.Expr) (held rd : ℕ) (a : List Instr) → IsChoice h (conditional k c x y) held rd a →
    IsEvaluation h (e.Conditional k c x y) held rd a
conditional_code h k c x y held rd a g = record { ends = ends }
  where
    ends : (s : Source) (r : Environment) (m : LocalConfig) → IsLegal h s r (e.Conditional k c x y) → IsEvaluationStart h s r (e.Conditional k c x y) a m →
        EvaluationEnds r a (λ n. n == rd || is_free held n) (λ q. Carries q rd (value s.locals s.numbers (e.Conditional k c x y))) m
    ends s r m l b =
        let z = is_zero (value s.locals s.numbers c).number in
        let vx = value s.locals s.numbers x in
        let vy = value s.locals s.numbers y in
        having r a (λ n. n == rd || is_free held n) (λ q. Carries q rd (if z then converted vy k else converted vx k))
        (λ q. Carries q rd (converted (if z then vy else vx) k)) m (λ q has. rw (← chosen_is z k vx vy) has)
        (g.ends s r m (record { suits = l.suits; formed = l.formed.0; fits = l.fits.0; loaded = l.loaded.0 })
        (record { suits = l.suits; formed = l.formed.1; fits = l.fits.1; loaded = l.loaded.1 })
        (record { suits = l.suits; formed = l.formed.2; fits = l.fits.2; loaded = l.loaded.2 })
        (record { at = b.at; locals = b.locals.0 }) (record { at = b.at; locals = b.locals.1 }) (record { at = b.at; locals = b.locals.2 }))

pub conjunction_code : (h : Homes) (x y : e.Expr) (held rd : ℕ) (a : List Instr) → IsChoice h (conjunction x y) held rd a →
    IsEvaluation h (e.Binary LogicalAnd x y) held rd a
conjunction_code h x y held rd a g = record { ends = ends }
  where
    ends : (s : Source) (r : Environment) (m : LocalConfig) → IsLegal h s r (e.Binary LogicalAnd x y) → IsEvaluationStart h s r (e.Binary LogicalAnd x y) a m →
        EvaluationEnds r a (λ n. n == rd || is_free held n) (λ q. Carries q rd (value s.locals s.numbers (e.Binary LogicalAnd x y))) m
    ends s r m l b =
        let vx = value s.locals s.numbers x in
        let vy = value s.locals s.numbers y in
        let z = is_zero vx.number in
        having r a (λ n. n == rd || is_free held n) (λ q. Carries q rd (if z then typed Int (pos 0) else truth_of vy))
        (λ q. Carries q rd (typed Int (truth (not z && not (is_zero vy.number))))) m (λ q has. rw (← both_is z Int Int vy) has)
        (g.ends s r m (record { suits = l.suits; formed = l.formed.0; fits = l.fits.0; loaded = l.loaded.0 })
        (record { suits = l.suits; formed = l.formed.1; fits = l.fits.1; loaded = l.loaded.1 })
        (constant_legal h s r (e.Binary LogicalAnd x y) (typed Int (pos 0)) l)
        (record { at = b.at; locals = b.locals.0 }) (record { at = b.at; locals = b.locals.1 }) (record { at = b.at; locals = tt }))

pub disjunction_code : (h : Homes) (x y : e.Expr) (held rd : ℕ) (a : List Instr) → IsChoice h (disjunction x y) held rd a →
    IsEvaluation h (e.Binary LogicalOr x y) held rd a
disjunction_code h x y held rd a g = record { ends = ends }
  where
    ends : (s : Source) (r : Environment) (m : LocalConfig) → IsLegal h s r (e.Binary LogicalOr x y) → IsEvaluationStart h s r (e.Binary LogicalOr x y) a m →
        EvaluationEnds r a (λ n. n == rd || is_free held n) (λ q. Carries q rd (value s.locals s.numbers (e.Binary LogicalOr x y))) m
    ends s r m l b =
        let vx = value s.locals s.numbers x in
        let vy = value s.locals s.numbers y in
        let z = is_zero vx.number in
        having r a (λ n. n == rd || is_free held n) (λ q. Carries q rd (if z then truth_of vy else typed Int (pos 1)))
        (λ q. Carries q rd (typed Int (truth (not z || not (is_zero vy.number))))) m (λ q has. rw (← either_is z Int Int vy) has)
        (g.ends s r m (record { suits = l.suits; formed = l.formed.0; fits = l.fits.0; loaded = l.loaded.0 })
        (constant_legal h s r (e.Binary LogicalOr x y) (typed Int (pos 1)) l)
        (record { suits = l.suits; formed = l.formed.1; fits = l.fits.1; loaded = l.loaded.1 })
        (record { at = b.at; locals = b.locals.0 }) (record { at = b.at; locals = tt }) (record { at = b.at; locals = b.locals.1 }))

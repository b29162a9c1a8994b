-- The end of a comment, byte after byte.
use Rattle.std.proofs.Common.{◌≡◌, ℕ, ◌+◌, Bool, true, false, ◌&&◌, cond, Option, Some}
use Rattle.std.proofs.Common.{None, List, [], ◌∷◌, refl, ap, sym, ◌∙◌, arith}
use Rattle.std.specs.Prelude.{◌==◌, if◌then◌else◌}
use Rattle.std.specs.Option.{option_map}
use Rattle.c_tree.specs.LexicalScan.{through_comment}

-- where a comment ends, looked for from the byte of this number on, after a byte that may be `*`
abbrev pub through_at : (i : ℕ) → (star : Bool) → List ℕ → Option ℕ
through_at i star [] = None
through_at i star (c ∷ cs) = if star && c == 47 then Some (i + 1) else through_at (i + 1) (c == 42) cs

shift_more : (i : ℕ) (x : Option ℕ) → option_map (λ n. n + i) (option_map (λ n. n + 1) x) ≡ option_map (λ n. n + (i + 1)) x
shift_more i (Some n) = let e : n + 1 + i ≡ n + (i + 1) = omega arith in ap Some e
shift_more i None = refl

shift_none : (x : Option ℕ) → option_map (λ n. n + 0) x ≡ x
shift_none (Some n) = let e : n + 0 ≡ n = omega arith in ap Some e
shift_none None = refl

by_end : (b : Bool) (i : ℕ) (x y : Option ℕ) → option_map (λ n. n + (i + 1)) x ≡ y
    → option_map (λ n. n + i) (cond b (Some 2) (option_map (λ n. n + 1) x)) ≡ cond b (Some (i + 1 + 1)) y
by_end true i x y e = let e : 2 + i ≡ i + 1 + 1 = omega arith in ap Some e
by_end false i x y e = shift_more i x ∙ e

through_from : (i : ℕ) (text : List ℕ) → option_map (λ n. n + i) (through_comment text) ≡ through_at i false text
through_from i [] = refl
through_from i (c ∷ []) = refl
through_from i (c ∷ d ∷ ds) =
    by_end (c == 42 && d == 47) i (through_comment (d ∷ ds)) (through_at (i + 1) false (d ∷ ds)) (through_from (i + 1) (d ∷ ds))

pub through_start : (text : List ℕ) → through_at 0 false text ≡ through_comment text
through_start text = sym (through_from 0 text) ∙ shift_none (through_comment text)

-- A boundary has two fences.
use Rattle.std.proofs.Common.{◌≡◌, ℕ, ◌+◌, ◌*◌, ◌%◌, ◌^◌, map, List, [], ◌∷◌, ◌++◌, refl, arith, ◌∙◌}
use Rattle.std.proofs.lemmas.Bool.{cond_both}
use Rattle.boundary_code.specs.Boundaries.{Boundary, frame_lines, pairs_kept, slots_kept, lines_in_use, bank_effects, commit_effects, is_empty, other_side}
use Rattle.log_schemes.specs.Layout.{frame_at, slot_at}
use Rattle.log_schemes.specs.Schemes.{register_slot}
use Rattle.rv64_isa.specs.Rows.{Effect, Stores, Cleans, read}
use Rattle.log_states.specs.Stages.{fences_ahead}
use Rattle.log_states.specs.Laws.{BoundariesFence}

fences_append : (one more : List Effect) → fences_ahead (one ++ more) ≡ fences_ahead one + fences_ahead more
fences_append [] more = omega arith
fences_append (e ∷ es) more = let rest = fences_append es more in omega (arith, rest)

no_fences : {A : Type 0} (f : A → Effect) → ((a : A) → fences_ahead (f a ∷ []) ≡ 0) → (xs : List A) → fences_ahead (map f xs) ≡ 0
no_fences f none [] = refl
no_fences f none (x ∷ xs) = let rest = no_fences f none xs in omega (arith, rest, none x)

bank_fences : (b : Boundary) (bank : ℕ) (x : List ℕ) → fences_ahead (bank_effects b bank x) ≡ 0
bank_fences b bank x =
    let lines : List ℕ = lines_in_use b.log (slots_kept b.log b.locks b.written b.live) in
    let pairs : List Effect = map (λ (kept : ℕ × ℕ). Stores (slot_at b.log b.thread bank kept.0) 8 kept.1) (pairs_kept b.log b.locks b.written) in
    let stores : List Effect = map (λ r. Stores (slot_at b.log b.thread bank (register_slot b.log r)) 8 (read x r)) b.live in
    let cleans : List Effect = map (λ line. Cleans (slot_at b.log b.thread bank (8 * line))) lines in
    let framing : List Effect = map (λ line. Cleans (frame_at b.log b.thread (8 * line))) (frame_lines b.log b.opens) in
    let l : fences_ahead pairs ≡ 0 =
    no_fences (λ (kept : ℕ × ℕ). Stores (slot_at b.log b.thread bank kept.0) 8 kept.1) (λ kept. refl) (pairs_kept b.log b.locks b.written) in
    let s : fences_ahead stores ≡ 0 = no_fences (λ r. Stores (slot_at b.log b.thread bank (register_slot b.log r)) 8 (read x r)) (λ r. refl) b.live in
    let c : fences_ahead cleans ≡ 0 = no_fences (λ line. Cleans (slot_at b.log b.thread bank (8 * line))) (λ line. refl) lines in
    let f : fences_ahead framing ≡ 0 = no_fences (λ line. Cleans (frame_at b.log b.thread (8 * line))) (λ line. refl) (frame_lines b.log b.opens) in
    fences_append (pairs ++ stores ++ cleans) framing ∙ omega (arith, fences_append (pairs ++ stores) cleans, fences_append pairs stores, l, s, c, f)

pub boundaries_fence : BoundariesFence
boundaries_fence b side resume x =
    let bank : ℕ = other_side side in
    cond_both (is_empty b.locks) (commit_effects b.log b.thread 0) (bank_effects b bank x ++ commit_effects b.log b.thread ((resume + bank) % 2 ^ 64))
    (λ es. fences_ahead es ≡ 2) (λ _. refl)
    (λ _.
    let prefix = bank_fences b bank x in
    let commit : fences_ahead (commit_effects b.log b.thread ((resume + bank) % 2 ^ 64)) ≡ 2 = refl in
    omega (arith, fences_append (bank_effects b bank x) (commit_effects b.log b.thread ((resume + bank) % 2 ^ 64)), prefix, commit))

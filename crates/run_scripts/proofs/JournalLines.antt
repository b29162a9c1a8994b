-- The lines of a journal: the first of them, and those after it.
use Rattle.std.proofs.Common.{◌≡◌, ℕ, ◌+◌, ◌-◌, List, [], ◌∷◌, ◌++◌, drop, take, length, flat_map, Bool, true, false, ◌==◌, refl, ap, sym, ◌∙◌, arith}
use Rattle.std.proofs.Common.{append_assoc}
use Rattle.std.proofs.lemmas.Grind.{common_steps}
use Rattle.std.proofs.lemmas.List.Concat.{flat_map-cons}
use Rattle.std.proofs.lemmas.Bool.{eqb-true, eq-eqb}
use Rattle.std.proofs.Math.Numerals.{add-one, one-add}
use Rattle.std.specs.List.{prefix_len}
use Rattle.machine_events.specs.declared.event.Event.{Event}
use Rattle.machine_events.specs.declared.event.Event.TheVariants.{Step, Evict, Crash, Start}
use Rattle.run_scripts.specs.declared.script.Command.{Command}
use Rattle.run_scripts.specs.declared.script.Command.TheVariants.{Steps}
use Rattle.run_scripts.specs.Journals.{command_text, commands_of, with_step}
use Rattle.run_scripts.specs.links.JournalSteps.{is_step_of}

-- a step before events makes one line with the steps of its hart at the front
first_steps : (hart : ℕ) (es : List Event) → with_step hart (commands_of es)
    ≡ Steps hart (prefix_len (is_step_of hart) es + 1) ∷ commands_of (drop (prefix_len (is_step_of hart) es) es)
first_steps hart [] = refl
first_steps hart (Evict line mask ∷ es) = refl
first_steps hart (Crash ∷ es) = refl
first_steps hart (Start ∷ es) = refl
first_steps hart (Step other ∷ es) = by_test (other == hart) refl (first_steps hart es) (first_steps other es)
  where
    goes_on : (n : ℕ) (rest : List Command) → with_step hart (Steps hart n ∷ rest) ≡ Steps hart (n + 1) ∷ rest
    goes_on n rest = rw (eq-eqb hart hart refl) refl

    begins : (other == hart) ≡ false → (n : ℕ) (rest : List Command) → with_step hart (Steps other n ∷ rest) ≡ Steps hart 1 ∷ Steps other n ∷ rest
    begins e n rest = rw e refl

    by_test : (b : Bool) → (other == hart) ≡ b
        → with_step hart (commands_of es) ≡ Steps hart (prefix_len (is_step_of hart) es + 1) ∷ commands_of (drop (prefix_len (is_step_of hart) es) es)
        → with_step other (commands_of es) ≡ Steps other (prefix_len (is_step_of other) es + 1) ∷ commands_of (drop (prefix_len (is_step_of other) es) es)
        → with_step hart (with_step other (commands_of es))
        ≡ Steps hart (prefix_len (is_step_of hart) (Step other ∷ es) + 1) ∷
        commands_of (drop (prefix_len (is_step_of hart) (Step other ∷ es)) (Step other ∷ es))
    by_test true e same different =
        let n = prefix_len (is_step_of hart) es in
        let equal : other ≡ hart = eqb-true other hart e in
        let long : with_step hart (with_step other (commands_of es)) ≡ Steps hart (n + 1 + 1) ∷ commands_of (drop n es) =
        ap (λ h. with_step hart (with_step h (commands_of es))) equal ∙ ap (with_step hart) same ∙ goes_on (n + 1) (commands_of (drop n es)) in
        rw e (simp (one-add, add-one) (simp add-one at long))
    by_test false e same different =
        let m = prefix_len (is_step_of other) es + 1 in
        let rest = commands_of (drop (prefix_len (is_step_of other) es) es) in
        let long : with_step hart (with_step other (commands_of es)) ≡ Steps hart 1 ∷ with_step other (commands_of es) =
        ap (with_step hart) different ∙ begins e m rest ∙ ap (λ cs. Steps hart 1 ∷ cs) (sym different) in
        rw e long

-- what stands after n elements, up to the end
up_to_end : {A : Type 0} (xs : List A) (n : ℕ) → take (length xs - n) (drop n xs) ≡ drop n xs
up_to_end xs n = grind (arith, common_steps)

pub steps_put : (text new : List ℕ) (event : Event) (after : List Event) (hart n : ℕ) → event ≡ Step hart → n ≡ prefix_len (is_step_of hart) after →
    new ≡ text ++ command_text (Steps hart (n + 1)) → new ++ flat_map command_text (commands_of (take (length after - n) (drop n after)))
    ≡ text ++ flat_map command_text (commands_of (event ∷ after))
steps_put text new event after hart n is count made =
    let rest = commands_of (drop n after) in
    let lines : commands_of (event ∷ after) ≡ Steps hart (n + 1) ∷ rest =
    ap (λ (e : Event). commands_of (e ∷ after)) is ∙ first_steps hart after
    ∙ ap (λ m. Steps hart (m + 1) ∷ commands_of (drop m after)) (sym count) in
    ap (λ es. new ++ flat_map command_text (commands_of es)) (up_to_end after n) ∙ ap (λ xs. xs ++ flat_map command_text rest) made
    ∙ append_assoc text (command_text (Steps hart (n + 1))) (flat_map command_text rest)
    ∙ ap (λ xs. text ++ xs) (sym (flat_map-cons command_text (Steps hart (n + 1)) rest)) ∙ ap (λ cs. text ++ flat_map command_text cs) (sym lines)

use Rattle.std.proofs.Common.{◌≡◌, List, [], ◌∷◌, ◌++◌, refl, ap, sym, ◌∙◌, append_assoc}
use Rattle.std.proofs.Common.{ℕ, ℤ}
use Rattle.std.proofs.lemmas.Int.{to_z-of_z}
use Rattle.rv64_isa.specs.declared.instr.Instr.{Instr}
use Rattle.rv64_isa.specs.declared.instr.Instr.TheVariants.{Store, OpImmediate, Op, Fence}
use Rattle.rv64_isa.specs.declared.instr.Operation.TheVariants.{Add}
use Rattle.rv64_isa.specs.declared.instr.ImmediateOperation.TheVariants.{Xori}
use Rattle.rv64_isa.specs.declared.instr.StoreKind.TheVariants.{Sd}
use Rattle.std.specs.Int.{w32}
use Rattle.rv64_isa.specs.Signed.{twos_complement}
use Rattle.log_schemes.specs.Layout.{bank_bytes}
use Rattle.log_schemes.specs.Schemes.{told}
use Rattle.boundary_code.specs.Boundaries.{clean_frame, clean_lines, commit, frame_lines, keep_slots, keep_told, lines_in_use, point}
use Rattle.boundary_code.proofs.code.emit_boundary.Goals as goal

-- the parts one after another, where those of a bank come at once
module _ (flip add store fence : Instr) (address first others telling kept cleaned framed point commit : List Instr) where
  abbrev all : List Instr
  all = flip ∷ address ++ add ∷ first ++ store ∷ others ++ telling ++ kept ++ cleaned ++ framed ++ fence ∷ point ++ commit

  one_after_another : {x0 x1 x2 x3 x4 x5 x6 x7 x8 : List Instr} → x0 ≡ flip ∷ [] → x1 ≡ x0 ++ address → x2 ≡ x1 ++ add ∷ [] → x3 ≡ x2 ++ first → x4 ≡ x3 ++ store ∷ [] →
      x5 ≡ x4 ++ others ++ telling ++ kept ++ cleaned ++ framed → x6 ≡ x5 ++ fence ∷ [] → x7 ≡ x6 ++ point → x8 ≡ x7 ++ commit → x8 ≡ all
  one_after_another {x3 = x3} {x4 = x4} {x5 = x5} {x7 = x7} e0 e1 e2 e3 e4 e5 e6 e7 e8 =
      let begins : x3 ≡ flip ∷ address ++ add ∷ first =
      e3 ∙ ap (λ (is : List Instr). is ++ first) (e2 ∙ ap (λ (is : List Instr). is ++ add ∷ []) (e1 ∙ ap (λ (is : List Instr). is ++ address) e0))
      ∙ append_assoc (flip ∷ address) (add ∷ []) first in
      let stored : x4 ++ others ≡ flip ∷ address ++ add ∷ first ++ store ∷ others =
      ap (λ (is : List Instr). is ++ others) (e4 ∙ ap (λ (is : List Instr). is ++ store ∷ []) begins)
      ∙ append_assoc (flip ∷ address ++ add ∷ first) (store ∷ []) others in
      let banked : x5 ≡ flip ∷ address ++ add ∷ first ++ store ∷ others ++ telling ++ kept ++ cleaned ++ framed =
      e5 ∙ ap (λ (is : List Instr). is ++ telling ++ kept ++ cleaned ++ framed) stored in
      let fenced : x7 ≡ flip ∷ address ++ add ∷ first ++ store ∷ others ++ telling ++ kept ++ cleaned ++ framed ++ fence ∷ point =
      e7 ∙ ap (λ (is : List Instr). is ++ point) (e6 ∙ ap (λ (is : List Instr). is ++ fence ∷ []) banked)
      ∙ append_assoc (flip ∷ address ++ add ∷ first ++ store ∷ others ++ telling ++ kept ++ cleaned ++ framed) (fence ∷ []) point in
      e8 ∙ ap (λ (is : List Instr). is ++ commit) fenced

pub returns : goal.returns
returns c =
    one_after_another (OpImmediate Xori 3 3 (bank_bytes c.args.log)) (Op Add 30 31 3) (Store Sd 7 30 64) Fence c.args.address.now c.args.first.now
    c.args.others.now (keep_told (told c.args.log c.args.written.bytes)) (keep_slots c.args.log c.args.live.now)
    (clean_lines (lines_in_use c.args.log c.args.slots.now)) (clean_frame (frame_lines c.args.log c.args.written.opens))
    (point c.args.log (twos_complement 32 c.args.resume)) (commit 30)
    (c.in_ok-code.ensures.items ∙ ap (λ (i : Instr). i ∷ []) (c.immediate-flip.ensures ∙ ap (λ (n : ℕ). OpImmediate Xori 3 3 n) c.bank_bytes.ensures.is))
    c.in_ok-extend_from_slice.ensures.items
    (c.in_ok-push.ensures.items ∙ ap (λ (i : Instr). c.extend_from_slice.new.self.items ++ i ∷ []) c.add.ensures)
    c.in_ok-extend_from_slice-2.ensures.items
    (c.in_ok-push-2.ensures.items ∙ ap (λ (i : Instr). c.extend_from_slice-2.new.self.items ++ i ∷ []) c.sd.ensures)
    c.in_ok-emit_bank.ensures c.in_ok-push-3.ensures.items
    (c.in_ok-extend_from_slice-3.ensures.items ∙ ap (λ (is : List Instr). c.push-3.new.self.items ++ is)
    (c.point.ensures ∙ ap (λ (z : ℤ). point c.args.log (twos_complement 32 z)) (to_z-of_z w32 c.args.resume c.ranges.resume)))
    (c.in_ok-extend_from_slice-4.ensures.items ∙ ap (λ (is : List Instr). c.extend_from_slice-3.new.self.items ++ is) c.commit.ensures)

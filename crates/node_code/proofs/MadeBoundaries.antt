-- Whether no lock is kept; and pieces from fewer registers and of more words.
use Rattle.std.proofs.Common.{◌≡◌, ℕ, ◌^◌, ◌<◌, ◌≤◌, ◌==◌, List, [], ◌∷◌, length, ap, sym, ◌∙◌, arith}
use Rattle.std.proofs.lemmas.Bool.{ne_eqb, eq-eqb}
use Rattle.ido_base.specs.Locks.{locks_in}
use Rattle.rv64_isa.specs.declared.object.CodeItem.{CodeItem}
use Rattle.boundary_code.specs.Boundaries.{Boundary, is_empty}
use Rattle.boundary_code.proofs.Public.{empty_where}
use Rattle.code_runs.specs.ComputingRuns.{Environment}
use Rattle.node_code.specs.Pieces.{IsBoundaryPiece, IsLockPiece, IsUnlockPiece}

-- ---- No lock

pub empty_by : (locks : List ℕ) (n : ℕ) → length locks ≡ n → is_empty locks ≡ (n == 0)
empty_by [] n many = sym (eq-eqb n 0 (sym many))
empty_by (lock ∷ locks) n many = sym (ne_eqb n 0 (λ none. let z : ⊥ = omega (arith, many, none) in z))

pub none_in : (mask : ℕ) (locks : List ℕ) → mask < 2 ^ 64 → locks ≡ locks_in mask → is_empty locks ≡ (mask == 0)
none_in mask locks small are = ap is_empty are ∙ empty_where mask small

-- ---- Fewer registers, and more words

pub boundary_from : (b : Boundary) (P Q : Environment → List ℕ → Type 0) (least most : ℕ) (piece : List CodeItem) → ((around : Environment) (x : List ℕ) →
    Q around x → P around x) → least ≤ most →
    IsBoundaryPiece b P least piece → IsBoundaryPiece b Q most piece
boundary_from b P Q least most piece fewer le is = record {
  closed = is.closed;
  few = let few = is.few in omega (arith, few, le);
  fences = is.fences;
  cleans = is.cleans;
  at = λ at.
      let own = is.at at in
      record { keeps = λ x side from on. own.keeps x side (fewer at.linking.environment.around x from) on; marks = own.marks; resumes = own.resumes };
}

-- A and B ask for the call, P and Q are with the boundary
module _ (b : Boundary) (A B P Q : Environment → List ℕ → Type 0) (least most lock : ℕ) (piece : List CodeItem) (le : least ≤ most) where
  pub lock_from : ((around : Environment) (x : List ℕ) → B around x → A around x) → ((around : Environment) (x : List ℕ) → Q around x → P around x) →
      IsLockPiece b A P least lock piece → IsLockPiece b B Q most lock piece
  lock_from asking keeping is = record {
    closed = is.closed;
    few = let few = is.few in omega (arith, few, le);
    fences = is.fences;
    cleans = is.cleans;
    at = λ at.
        let own = is.at at in
        record {
          call = own.call;
          calling = own.calling;
          asks = λ x from are. own.asks x (asking at.linking.environment.around x from) are;
          stands = own.stands;
          keeps = λ x side from on. own.keeps x side (keeping at.linking.environment.around x from) on;
          marks = own.marks;
          resumes = own.resumes;
        };
  }

  pub unlock_from : ((around : Environment) (x : List ℕ) → B around x → A around x) → ((around : Environment) (x : List ℕ) → Q around x → P around x) →
      IsUnlockPiece b A P least lock piece → IsUnlockPiece b B Q most lock piece
  unlock_from asking keeping is = record {
    closed = is.closed;
    few = let few = is.few in omega (arith, few, le);
    fences = is.fences;
    cleans = is.cleans;
    at = λ at.
        let own = is.at at in
        record {
          call = own.call;
          calling = own.calling;
          asks = λ x side from kept on. own.asks x side (asking at.linking.environment.around x from) (keeping at.linking.environment.around x kept) on;
          stands = own.stands;
          after = own.after;
          plain = own.plain;
          marks = own.marks;
          resumes = own.resumes;
        };
  }

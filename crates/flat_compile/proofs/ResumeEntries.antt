-- The entry that a table of places has at an address is of the node at which the thread goes on there.
use Rattle.std.proofs.Common.{◌≡◌, inl, inr, refl, ℕ, zero, suc, List, [], ◌∷◌, map, ◌∙◌, ap, sym, subst, arith, Some, false}
use Rattle.std.specs.Prelude.{slice_get, Contains, find, ◌==◌}
use Rattle.std.proofs.lemmas.Bool.{cases_Bool, cond-true, cond-false, eqb-true, eqb-false}
use Rattle.code_runs.specs.CodeTraces.{Program}
use Rattle.thread_code.specs.Plans.{Plan, Thread}
use Rattle.thread_code.specs.Programs.{IsThreadCode}
use Rattle.flat_compile.specs.declared.resumes.Resume.{Resume}
use Rattle.flat_compile.specs.ResumePlaces.{Spot, address_in, goes_on_at, place_at, place_in, IsSpot, IsFound, AreResumes}
use Rattle.flat_compile.proofs.ResumeAddresses.{resumed}

-- ---- The first entry at an address

record IsFirst (rs : List Resume) (address : ℕ) : Type 0 where
  entry : Resume
  place : ℕ
  there : slice_get rs place ≡ Some entry
  first : find (λ (r : Resume). r.address == address) rs ≡ Some entry
  at : entry.address ≡ address

first_in : (rs : List Resume) (address : ℕ) → Contains (map (λ (r : Resume). r.address) rs) address → IsFirst rs address
first_in [] address c = absurd (omega (arith, c.1))
first_in (x ∷ xs) address c = elim (cases_Bool (x.address == address)) [
  | inl is ↦ record {
    entry = x;
    place = 0;
    there = refl;
    first = cond-true (x.address == address) (Some x) (find (λ (r : Resume). r.address == address) xs) is;
    at = eqb-true x.address address is;
  }
  | inr isnt ↦
      let rest = first_in xs address (later c isnt) in
      record {
        entry = rest.entry;
        place = suc rest.place;
        there = rest.there;
        first = cond-false (x.address == address) (Some x) (find (λ (r : Resume). r.address == address) xs) isnt ∙ rest.first;
        at = rest.at;
      }
]
  where
    later : Contains (map (λ (r : Resume). r.address) (x ∷ xs)) address → (x.address == address) ≡ false →
        Contains (map (λ (r : Resume). r.address) xs) address
    later (zero, below, is) isnt = absurd (eqb-false x.address address isnt is)
    later (suc k, below, is) isnt = (k, omega (arith, below), is)

-- ---- The place at an address

-- where the thread may be resumed, the first entry with that address is of the node that it goes on at, and of where it stands there
pub record HasEntry (p : Plan) (t : Thread) (program : Program) (code : IsThreadCode p t program) (rs : List Resume) (spot : Spot) : Type 0 where
  pub entry : Resume
  pub first : find (λ (r : Resume). r.address == address_in code.places spot) rs ≡ Some entry
  pub node_is : entry.node ≡ goes_on_at spot
  pub stands : place_at entry.at_core ≡ place_in spot
  pub found : IsFound p t entry

pub entry_at : (p : Plan) (t : Thread) (program : Program) (code : IsThreadCode p t program) (rs : List Resume) → AreResumes p t program code rs →
    (spot : Spot) → IsSpot p t spot → HasEntry p t program code rs spot
entry_at p t program code rs are spot is =
    let address = address_in code.places spot in
    let listed : Contains program.resumes address = (code.resumes address).1 (resumed p t code.places spot is) in
    let f = first_in rs address (subst (λ (addresses : List ℕ). Contains addresses address) (sym are.addresses) listed) in
    let e = are.each f.place f.entry f.there in
    let same : e.spot ≡ spot = are.apart e.spot spot e.is is (e.at ∙ f.at) in
    record {
      entry = f.entry;
      first = f.first;
      node_is = sym e.goes_on ∙ ap goes_on_at same;
      stands = sym e.stands ∙ ap place_in same;
      found = e.found;
    }

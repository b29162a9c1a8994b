-- What stands after a source has one fault at most, and none where it is well formed.
use Rattle.std.proofs.Common.{◌≡◌, ◌⊎◌, inl, inr, ⊎_elim, ℕ, ◌<◌, List, ◌∷◌, length, get_or, Some, None, refl, sym, ap, subst, ◌∙◌, arith}
use Rattle.std.specs.Prelude.{Vec}
use Rattle.std.specs.Global.{Global}
use Rattle.std.proofs.lemmas.Bool.{cases_order}
use Rattle.std.proofs.lemmas.List.{get_or_append_left, length-append}
use Rattle.std.proofs.Math.Seq.{get_or-append_seam}
use Rattle.c_tree.specs.Flats.{Flat}
use Rattle.log_schemes.specs.declared.point.Point.TheVariants.{Idle, At}
use Rattle.flat_compile.specs.declared.resumes.LiveLocal.{LiveLocal}
use Rattle.flat_compile.specs.declared.resumes.Resume.{Resume}
use Rattle.image_checks.specs.declared.error.ImageError.{ImageError}
use Rattle.image_checks.specs.declared.error.ImageError.TheVariants as e
use Rattle.flat_compile.specs.ResumePlaces.{resumes_at}
use Rattle.c_tree.specs.Source.{start}
use Rattle.image_checks.specs.Logs.{Logs, logs_of, point_in}
use Rattle.log_schemes.specs.Schemes.{keeping_of, locals_of}
use Rattle.image_checks.specs.Checks.{AreLocalsFirst, AreLocksFirst, HasLocal, HasLocals, HasLocks, HasWrite, IsFirstWrong, home_number}
use Rattle.image_checks.specs.Checks.{IsRight, IsRightBefore, IsRightBeside, IsBankFault, IsFaultBeside}
use Rattle.image_checks.specs.Checks.{other_locks, beside, other_number, other_address, other_value}
use Rattle.image_checks.specs.Checks.{resume_at, IsResumableLog, idle, resumed, IsLogFault, nowhere, of_bank, AreSound, IsThreadFault}
use Rattle.image_checks.specs.Checks.{AreFirstTwo, IsUnshared, IsMutexFault, shared, of_thread, of_mutexes, of_schedules}
use Rattle.image_checks.proofs.LivesLaws.{none_in_lives, one_in_lives}
use Rattle.image_checks.specs.Laws.{OneFault, NoneIfSound}

-- ---- Banks

module _ (flat : Flat) (logs : Logs) (thread bank : ℕ) (live : List LiveLocal) where
  at_wrong : (register : ℕ) (f : IsFirstWrong flat logs thread bank live register) → get_or live (length f.before) f.local ≡ f.local
  at_wrong register f = ap (λ (ls : List LiveLocal). get_or ls (length f.before) f.local) f.parts ∙ get_or-append_seam f.before f.local f.after f.local

  wrong_within : (register : ℕ) (f : IsFirstWrong flat logs thread bank live register) → length f.before < length live
  wrong_within register f = omega (arith, ap length f.parts, length-append f.before (f.local ∷ f.after))

  none_wrong : (register : ℕ) → HasLocals flat logs thread bank live → ¬ (IsFirstWrong flat logs thread bank live register)
  none_wrong register all f =
      f.wrong (subst (HasLocal flat logs thread bank) (at_wrong register f) (all (length f.before) f.local (wrong_within register f)))

  not_before : (one other : ℕ) (f : IsFirstWrong flat logs thread bank live one) (g : IsFirstWrong flat logs thread bank live other) →
      ¬ (length f.before < length g.before)
  not_before one other f g less =
      let prefix : get_or live (length f.before) f.local ≡ get_or g.before (length f.before) f.local =
      ap (λ (ls : List LiveLocal). get_or ls (length f.before) f.local) g.parts
      ∙ get_or_append_left g.before (g.local ∷ g.after) f.local (length f.before) less in
      f.wrong (subst (HasLocal flat logs thread bank) (sym prefix ∙ at_wrong one f) (g.right (length f.before) f.local less))

  one_register : (one other : ℕ) → IsFirstWrong flat logs thread bank live one → IsFirstWrong flat logs thread bank live other → one ≡ other
  one_register one other f g =
      ⊎_elim
      (λ same.
      let d = f.local in
      let at : get_or live (length g.before) d ≡ g.local =
      ap (λ (ls : List LiveLocal). get_or ls (length g.before) d) g.parts ∙ get_or-append_seam g.before g.local g.after d in
      let equal : f.local ≡ g.local = sym (at_wrong one f) ∙ ap (λ (k : ℕ). get_or live k d) same ∙ at in
      f.register_is ∙ ap (λ (l : LiveLocal). home_number (locals_of logs.log) l.colour) equal ∙ sym g.register_is)
      (⊎_elim (λ less. absurd (not_before one other f g less)) (λ more. absurd (not_before other one g f more)))
      (cases_order (length f.before) (length g.before))

module _ (flat : Flat) (logs : Logs) (thread bank : ℕ) (r : Resume) where
  right_beside : (x : ImageError) → IsRightBeside flat logs thread bank r → ¬ (IsFaultBeside flat logs thread bank r x)
  right_beside x h (other_number register before f) = none_wrong flat logs thread bank r.live.items register h.locals f
  right_beside x h (other_address locals wrong) = wrong h.write.address
  right_beside x h (other_value locals stands wrong) = wrong h.write.value

  right_bank : (x : ImageError) → IsRight flat logs thread bank r → ¬ (IsBankFault flat logs thread bank r x)
  right_bank x h (other_locks before wrong) = wrong h.locks
  right_bank x h (beside y locks f) = right_beside y (record { locals = h.locals; write = h.write }) f

  abbrev LocalsFirst : Type 0
  LocalsFirst = AreLocalsFirst (locals_of logs.log) → HasLocals flat logs thread bank r.live.items

  -- where a local is wrong and something that is written next too, one of both is looked at first
  not_both : (register : ℕ) → IsRightBefore flat logs thread bank r → IsFirstWrong flat logs thread bank r.live.items register → LocalsFirst →
      ¬ (HasWrite flat logs thread bank r) → ⊥
  not_both register (inl first) f locals wrong = none_wrong flat logs thread bank r.live.items register (locals first) f
  not_both register (inr write) f locals wrong = wrong write

  one_beside : (x y : ImageError) → IsFaultBeside flat logs thread bank r x → IsFaultBeside flat logs thread bank r y → x ≡ y
  one_beside x y (other_number register before f) (other_number other before' g) =
      ap (e.Slot thread) (one_register flat logs thread bank r.live.items register other f g)
  one_beside x y (other_number register before f) (other_address locals wrong) = absurd (not_both register before f locals (λ h. wrong h.address))
  one_beside x y (other_number register before f) (other_value locals stands wrong) = absurd (not_both register before f locals (λ h. wrong h.value))
  one_beside x y (other_address locals wrong) (other_number register before f) = absurd (not_both register before f locals (λ h. wrong h.address))
  one_beside x y (other_address locals wrong) (other_address locals' wrong') = refl
  one_beside x y (other_address locals wrong) (other_value locals' stands wrong') = absurd (wrong stands)
  one_beside x y (other_value locals stands wrong) (other_number register before f) = absurd (not_both register before f locals (λ h. wrong h.value))
  one_beside x y (other_value locals stands wrong) (other_address locals' wrong') = absurd (wrong' stands)
  one_beside x y (other_value locals stands wrong) (other_value locals' stands' wrong') = refl

  abbrev Before : Type 0
  Before = AreLocksFirst (keeping_of logs.log) ⊎ IsRightBeside flat logs thread bank r

  abbrev LocksFirst : Type 0
  LocksFirst = AreLocksFirst (keeping_of logs.log) → HasLocks flat logs thread bank r

  -- nothing else is wrong where locks are looked at, and no locks are where it is
  all_right : Before → ¬ (HasLocks flat logs thread bank r) → LocksFirst → IsRightBeside flat logs thread bank r
  all_right (inl first) wrong locks = absurd (wrong (locks first))
  all_right (inr rest) wrong locks = rest

  one_in_bank : (x y : ImageError) → IsBankFault flat logs thread bank r x → IsBankFault flat logs thread bank r y → x ≡ y
  one_in_bank x y (other_locks before wrong) (other_locks before' wrong') = refl
  one_in_bank x y (other_locks before wrong) (beside z locks f) = absurd (right_beside z (all_right before wrong locks) f)
  one_in_bank x y (beside z locks f) (other_locks before wrong) = absurd (right_beside z (all_right before wrong locks) f)
  one_in_bank x y (beside a locks f) (beside b locks' g) = one_beside a b f g

-- ---- Logs

module _ (flat : Flat) (resumes : List Resume) (logs : Logs) (thread : ℕ) where
  -- the bank and the place that a point names
  record IsNamed (address bank : ℕ) (r : Resume) (address' bank' : ℕ) (r' : Resume) : Type 0 where
    bank_is : bank ≡ bank'
    place_is : r ≡ r'

  one_name : (address bank address' bank' : ℕ) (r r' : Resume) → point_in logs thread ≡ At address bank → resume_at resumes address ≡ Some r →
      point_in logs thread ≡ At address' bank' → resume_at resumes address' ≡ Some r' → IsNamed address bank r address' bank' r'
  one_name address bank address' bank' r r' p f p' f' =
      let point : At address bank ≡ At address' bank' = sym p ∙ p' in
      let same : address ≡ address' = cc in
      let place : Some r ≡ Some r' = sym f ∙ ap (resume_at resumes) same ∙ f' in
      record { bank_is = cc; place_is = cc }

  none_named : (address bank address' bank' : ℕ) (r : Resume) → point_in logs thread ≡ At address bank → resume_at resumes address ≡ Some r →
      point_in logs thread ≡ At address' bank' → ¬ (resume_at resumes address' ≡ None)
  none_named address bank address' bank' r p f p' n =
      let point : At address bank ≡ At address' bank' = sym p ∙ p' in
      let same : address ≡ address' = cc in
      let wrong : Some r ≡ None = sym f ∙ ap (resume_at resumes) same ∙ n in
      cc wrong

  sound_log : (x : ImageError) → IsResumableLog flat resumes logs thread → ¬ (IsLogFault flat resumes logs thread x)
  sound_log x (idle p) (nowhere address bank p' n) = let wrong : Idle ≡ At address bank = sym p ∙ p' in cc wrong
  sound_log x (idle p) (of_bank address bank r y p' f h) = let wrong : Idle ≡ At address bank = sym p ∙ p' in cc wrong
  sound_log x (resumed address bank r p f h) (nowhere address' bank' p' n) = none_named address bank address' bank' r p f p' n
  sound_log x (resumed address bank r p f h) (of_bank address' bank' r' y p' f' h') =
      let n = one_name address bank address' bank' r r' p f p' f' in
      right_bank flat logs thread bank' r' y
      (subst (IsRight flat logs thread bank') n.place_is (subst (λ (b : ℕ). IsRight flat logs thread b r) n.bank_is h)) h'

  one_in_log : (x y : ImageError) → IsLogFault flat resumes logs thread x → IsLogFault flat resumes logs thread y → x ≡ y
  one_in_log x y (nowhere address bank p n) (nowhere address' bank' p' n') = refl
  one_in_log x y (nowhere address bank p n) (of_bank address' bank' r z p' f h) = absurd (none_named address' bank' address bank r p' f p n)
  one_in_log x y (of_bank address bank r z p f h) (nowhere address' bank' p' n) = absurd (none_named address bank address' bank' r p f p' n)
  one_in_log x y (of_bank address bank r z p f h) (of_bank address' bank' r' z' p' f' h') =
      let n = one_name address bank address' bank' r r' p f p' f' in
      one_in_bank flat logs thread bank' r' z z'
      (subst (λ (q : Resume). IsBankFault flat logs thread bank' q z) n.place_is
      (subst (λ (b : ℕ). IsBankFault flat logs thread b r z) n.bank_is h)) h'

-- ---- Threads

module _ (flat : Flat) (table : List (Vec Resume Global)) (logs : Logs) where
  sound_threads : (x : ImageError) → AreSound flat table logs → ¬ (IsThreadFault flat table logs x)
  sound_threads x all f = sound_log flat (resumes_at table f.thread) logs f.thread x (all f.thread f.within) f.fault

  one_in_threads : (x y : ImageError) → IsThreadFault flat table logs x → IsThreadFault flat table logs y → x ≡ y
  one_in_threads x y f g =
      ⊎_elim
      (λ same. one_in_log flat (resumes_at table g.thread) logs g.thread x y
      (subst (λ (t : ℕ). IsLogFault flat (resumes_at table t) logs t x) same f.fault) g.fault)
      (⊎_elim
      (λ less. absurd (sound_log flat (resumes_at table f.thread) logs f.thread x (g.before f.thread less) f.fault))
      (λ more. absurd (sound_log flat (resumes_at table g.thread) logs g.thread y (f.before g.thread more) g.fault)))
      (cases_order f.thread g.thread)

-- ---- Mutexes

module _ (logs : Logs) (threads : ℕ) where
  two_shared : (lock first second : ℕ) → AreFirstTwo logs threads lock first second → ¬ (IsUnshared logs threads lock)
  two_shared lock first second two none = none first second two.apart two.within two.first_holds two.second_holds

  pub unshared : (x : ImageError) → ((lock : ℕ) → IsUnshared logs threads lock) → ¬ (IsMutexFault logs threads x)
  unshared x none (shared lock first second two least) = two_shared lock first second two (none lock)

  not_later : (lock a b c d : ℕ) → AreFirstTwo logs threads lock a b → AreFirstTwo logs threads lock c d → ¬ (b < d)
  not_later lock a b c d f g less =
      let one : a ≡ c = g.others a (omega (arith, f.apart, less)) f.first_holds in
      let both : b ≡ c = g.others b less f.second_holds in
      omega (arith, f.apart, one, both)

  same_second : (lock a b c d : ℕ) → AreFirstTwo logs threads lock a b → AreFirstTwo logs threads lock c d → b ≡ d
  same_second lock a b c d f g =
      ⊎_elim (λ same. same) (⊎_elim (λ less. absurd (not_later lock a b c d f g less)) (λ more. absurd (not_later lock c d a b g f more))) (cases_order b d)

  same_first : (lock a b c d : ℕ) → AreFirstTwo logs threads lock a b → AreFirstTwo logs threads lock c d → a ≡ c
  same_first lock a b c d f g = g.others a (omega (arith, f.apart, same_second lock a b c d f g)) f.first_holds

  one_in_mutexes : (x y : ImageError) → IsMutexFault logs threads x → IsMutexFault logs threads y → x ≡ y
  one_in_mutexes x y (shared lock a b f least) (shared lock' c d g least') =
      ⊎_elim
      (λ same.
      let h = subst (λ (l : ℕ). AreFirstTwo logs threads l a b) same f in
      λ i. e.Shared (same i) (same_first lock' a b c d h g i) (same_second lock' a b c d h g i))
      (⊎_elim (λ less. absurd (two_shared lock a b f (least' lock less))) (λ more. absurd (two_shared lock' c d g (least lock' more))))
      (cases_order lock lock')

-- ---- All

pub none_if_sound : NoneIfSound
none_if_sound log flat table s x h (of_thread y f) = sound_threads flat table (logs_of log s.logs) y h.logs f
none_if_sound log flat table s x h (of_mutexes y all f) = unshared (logs_of log s.logs) (length table) y h.mutexes f
none_if_sound log flat table s x h (of_schedules y all none f) = none_in_lives flat 1 (start flat) 0 s.lives y h.schedules f

pub one_fault : OneFault
one_fault log flat table s x y (of_thread a f) (of_thread b g) = one_in_threads flat table (logs_of log s.logs) a b f g
one_fault log flat table s x y (of_thread a f) (of_mutexes b all g) = absurd (sound_threads flat table (logs_of log s.logs) a all f)
one_fault log flat table s x y (of_thread a f) (of_schedules b all none g) = absurd (sound_threads flat table (logs_of log s.logs) a all f)
one_fault log flat table s x y (of_mutexes a all f) (of_thread b g) = absurd (sound_threads flat table (logs_of log s.logs) b all g)
one_fault log flat table s x y (of_mutexes a all f) (of_mutexes b all' g) = one_in_mutexes (logs_of log s.logs) (length table) a b f g
one_fault log flat table s x y (of_mutexes a all f) (of_schedules b all' none g) = absurd (unshared (logs_of log s.logs) (length table) a none f)
one_fault log flat table s x y (of_schedules a all none f) (of_thread b g) = absurd (sound_threads flat table (logs_of log s.logs) b all g)
one_fault log flat table s x y (of_schedules a all none f) (of_mutexes b all' g) = absurd (unshared (logs_of log s.logs) (length table) b none g)
one_fault log flat table s x y (of_schedules a all none f) (of_schedules b all' none' g) = one_in_lives flat 1 (start flat) 0 s.lives a b f g

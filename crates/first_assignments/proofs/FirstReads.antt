-- Whether a local is assigned before it is read, in programs with calls and in flat forms. A test of numbers tells the local.
use Rattle.std.proofs.Common.{◌≡◌, ◌⊎◌, ℕ, ◌+◌, List, [], ◌∷◌, map, Bool, true, false, Option, Some, None, inl, inr, ⊎_elim}
use Rattle.std.specs.Option.{option_map}
use Rattle.c_tree.specs.Exprs as e
use Rattle.c_tree.specs.Programs as p
use Rattle.c_tree.specs.Flats as f
use Rattle.c_tree.specs.Elaboration as made
use Rattle.c_tree.specs.Inlining as i

module _ (told : ℕ → Bool) where
  -- ---- Parts that don't read it

  abbrev pub ReadsNone : e.Expr → Type 0
  ReadsNone (e.Constant value) = Unit {0}
  ReadsNone (e.Local local kind) = told local ≡ false
  ReadsNone (e.Variable place variable kind) = Unit {0}
  ReadsNone (e.Element place variable kind index_place index) = ReadsNone index
  ReadsNone (e.Address variable index_place index) = ReadsNone index
  ReadsNone (e.Referent place last local) = told local ≡ false
  ReadsNone (e.Unary operator operand) = ReadsNone operand
  ReadsNone (e.Cast kind operand) = ReadsNone operand
  ReadsNone (e.Converted kind operand) = ReadsNone operand
  ReadsNone (e.Binary operator left right) = ReadsNone left × ReadsNone right
  ReadsNone (e.Conditional kind condition chosen otherwise) = ReadsNone condition × ReadsNone chosen × ReadsNone otherwise

  abbrev pub AllReadNone : List e.Placed → Type 0
  AllReadNone [] = Unit {0}
  AllReadNone (x ∷ xs) = ReadsNone x.expr × AllReadNone xs

  -- its index
  abbrev pub TargetReadsNone : e.Lvalue → Type 0
  TargetReadsNone (e.ToLocal place local kind) = Unit {0}
  TargetReadsNone (e.ToVariable place variable kind) = Unit {0}
  TargetReadsNone (e.ToElement place variable kind index) = ReadsNone index.expr

  abbrev pub ResultReadsNone : Option e.Lvalue → Type 0
  ResultReadsNone None = Unit {0}
  ResultReadsNone (Some target) = TargetReadsNone target

  abbrev pub KeyReadsNone : Option e.Placed → Type 0
  KeyReadsNone None = Unit {0}
  KeyReadsNone (Some key) = ReadsNone key.expr

  -- the value that a function gives
  abbrev pub GivenReadsNone : Option p.Returned → Type 0
  GivenReadsNone None = Unit {0}
  GivenReadsNone (Some x) = ReadsNone x.value.expr

  -- ---- Parts that assign it, whatever happens

  abbrev pub Takes : e.Lvalue → Type 0
  Takes (e.ToLocal place local kind) = told local ≡ true
  Takes (e.ToVariable place variable kind) = ⊥
  Takes (e.ToElement place variable kind index) = ⊥

  abbrev pub ResultTakes : Option e.Lvalue → Type 0
  ResultTakes None = ⊥
  ResultTakes (Some target) = Takes target

  abbrev pub TypedAssigns : p.Statement → Type 0
  TypedAssigns (p.Assign place target value) = Takes target
  TypedAssigns (p.Call place name function arguments result) = ResultTakes result
  TypedAssigns (p.If place arms otherwise) = ⊥
  TypedAssigns (p.While place condition body) = ⊥
  TypedAssigns (p.Do place body condition) = ⊥
  TypedAssigns (p.Lock place lock) = ⊥
  TypedAssigns (p.Unlock place lock) = ⊥

  abbrev pub TypedAssign : p.Statements → Type 0
  TypedAssign p.no_statement = ⊥
  TypedAssign (p.statement_and x rest) = TypedAssigns x ⊎ TypedAssign rest

  abbrev pub FlatAssigns : f.Statement → Type 0
  FlatAssigns (f.Assign place target value) = Takes target
  FlatAssigns (f.If place arms otherwise) = ⊥
  FlatAssigns (f.While place condition body) = ⊥
  FlatAssigns (f.Do place body condition) = ⊥
  FlatAssigns (f.Lock place lock) = ⊥
  FlatAssigns (f.Unlock place lock) = ⊥

  abbrev pub FlatAssign : f.Statements → Type 0
  FlatAssign f.no_statement = ⊥
  FlatAssign (f.statement_and x rest) = FlatAssigns x ⊎ FlatAssign rest

  -- ---- Parts that don't read it before they have assigned it

  abbrev mutual
    pub TypedReadsLater : p.Statement → Type 0
    TypedReadsLater (p.Assign place target value) = TargetReadsNone target × ReadsNone value.expr
    TypedReadsLater (p.Call place name function arguments result) = AllReadNone arguments × ResultReadsNone result
    TypedReadsLater (p.If place arms otherwise) = TypedArmsReadLater arms × TypedReadLater otherwise
    TypedReadsLater (p.While place condition body) = ReadsNone condition.expr × TypedReadLater body
    TypedReadsLater (p.Do place body condition) = TypedReadLater body × ReadsNone condition.expr
    TypedReadsLater (p.Lock place lock) = KeyReadsNone lock.key
    TypedReadsLater (p.Unlock place lock) = KeyReadsNone lock.key

    pub TypedReadLater : p.Statements → Type 0
    TypedReadLater p.no_statement = Unit {0}
    TypedReadLater (p.statement_and x rest) = TypedReadsLater x × (TypedAssigns x ⊎ TypedReadLater rest)

    pub TypedArmsReadLater : p.Arms → Type 0
    TypedArmsReadLater p.no_arm = Unit {0}
    TypedArmsReadLater (p.arm_and condition body rest) = ReadsNone condition.expr × TypedReadLater body × TypedArmsReadLater rest

  abbrev mutual
    pub FlatReadsLater : f.Statement → Type 0
    FlatReadsLater (f.Assign place target value) = TargetReadsNone target × ReadsNone value.expr
    FlatReadsLater (f.If place arms otherwise) = FlatArmsReadLater arms × FlatReadLater otherwise
    FlatReadsLater (f.While place condition body) = ReadsNone condition.expr × FlatReadLater body
    FlatReadsLater (f.Do place body condition) = FlatReadLater body × ReadsNone condition.expr
    FlatReadsLater (f.Lock place lock) = KeyReadsNone lock.key
    FlatReadsLater (f.Unlock place lock) = KeyReadsNone lock.key

    pub FlatReadLater : f.Statements → Type 0
    FlatReadLater f.no_statement = Unit {0}
    FlatReadLater (f.statement_and x rest) = FlatReadsLater x × (FlatAssigns x ⊎ FlatReadLater rest)

    pub FlatArmsReadLater : f.Arms → Type 0
    FlatArmsReadLater f.no_arm = Unit {0}
    FlatArmsReadLater (f.arm_and condition body rest) = ReadsNone condition.expr × FlatReadLater body × FlatArmsReadLater rest

  -- what a thread has left to do
  abbrev pub LeftReadsLater : List f.Statement → Type 0
  LeftReadsLater [] = Unit {0}
  LeftReadsLater (x ∷ rest) = FlatReadsLater x × (FlatAssigns x ⊎ LeftReadsLater rest)

  -- ---- One part after another

  pub typed_first : (xs ys : p.Statements) → TypedAssign xs → TypedAssign (made.statements_and xs ys)
  typed_first p.no_statement ys h = absurd h
  typed_first (p.statement_and x xs) ys h = ⊎_elim (λ a. inl a) (λ k. inr (typed_first xs ys k)) h

  pub typed_second : (xs ys : p.Statements) → TypedAssign ys → TypedAssign (made.statements_and xs ys)
  typed_second p.no_statement ys h = h
  typed_second (p.statement_and x xs) ys h = inr (typed_second xs ys h)

  pub typed_both : (xs ys : p.Statements) → TypedReadLater xs → TypedAssign xs ⊎ TypedReadLater ys → TypedReadLater (made.statements_and xs ys)
  typed_both p.no_statement ys h k = ⊎_elim (λ a. absurd a) (λ r. r) k
  typed_both (p.statement_and x xs) ys h k =
      (h.0, ⊎_elim (λ a. inl a) (λ r. ⊎_elim (λ a. inl a) (λ m. inr (typed_both xs ys r m)) (next k)) h.1)
    where
      next : (TypedAssigns x ⊎ TypedAssign xs) ⊎ TypedReadLater ys → TypedAssigns x ⊎ (TypedAssign xs ⊎ TypedReadLater ys)
      next (inl (inl a)) = inl a
      next (inl (inr a)) = inr (inl a)
      next (inr r) = inr (inr r)

  pub flat_first : (xs ys : f.Statements) → FlatAssign xs → FlatAssign (i.statements_and xs ys)
  flat_first f.no_statement ys h = absurd h
  flat_first (f.statement_and x xs) ys h = ⊎_elim (λ a. inl a) (λ k. inr (flat_first xs ys k)) h

  pub flat_second : (xs ys : f.Statements) → FlatAssign ys → FlatAssign (i.statements_and xs ys)
  flat_second f.no_statement ys h = h
  flat_second (f.statement_and x xs) ys h = inr (flat_second xs ys h)

  pub flat_both : (xs ys : f.Statements) → FlatReadLater xs → FlatAssign xs ⊎ FlatReadLater ys → FlatReadLater (i.statements_and xs ys)
  flat_both f.no_statement ys h k = ⊎_elim (λ a. absurd a) (λ r. r) k
  flat_both (f.statement_and x xs) ys h k =
      (h.0, ⊎_elim (λ a. inl a) (λ r. ⊎_elim (λ a. inl a) (λ m. inr (flat_both xs ys r m)) (next k)) h.1)
    where
      next : (FlatAssigns x ⊎ FlatAssign xs) ⊎ FlatReadLater ys → FlatAssigns x ⊎ (FlatAssign xs ⊎ FlatReadLater ys)
      next (inl (inl a)) = inl a
      next (inl (inr a)) = inr (inl a)
      next (inr r) = inr (inr r)

-- ---- Locals renumbered

-- the local, by its number in a function or thread whose locals begin at that number
abbrev pub own : (ℕ → Bool) → (by : ℕ) → (local : ℕ) → Bool
own told n local = told (n + local)

module _ (told : ℕ → Bool) (n : ℕ) where
  pub shifted_none : (x : e.Expr) → ReadsNone (own told n) x → ReadsNone told (i.shifted n x)
  shifted_none (e.Constant value) h = tt
  shifted_none (e.Local local kind) h = h
  shifted_none (e.Variable place variable kind) h = tt
  shifted_none (e.Element place variable kind index_place index) h = shifted_none index h
  shifted_none (e.Address variable index_place index) h = shifted_none index h
  shifted_none (e.Referent place last local) h = h
  shifted_none (e.Unary operator operand) h = shifted_none operand h
  shifted_none (e.Cast kind operand) h = shifted_none operand h
  shifted_none (e.Converted kind operand) h = shifted_none operand h
  shifted_none (e.Binary operator left right) h = (shifted_none left h.0, shifted_none right h.1)
  shifted_none (e.Conditional kind condition chosen otherwise) h = (shifted_none condition h.0, shifted_none chosen h.1, shifted_none otherwise h.2)

  pub shifted_all : (xs : List e.Placed) → AllReadNone (own told n) xs → AllReadNone told (map (i.shifted_placed n) xs)
  shifted_all [] h = tt
  shifted_all (x ∷ xs) h = (shifted_none x.expr h.0, shifted_all xs h.1)

  pub shifted_target : (x : e.Lvalue) → TargetReadsNone (own told n) x → TargetReadsNone told (i.shifted_target n x)
  shifted_target (e.ToLocal place local kind) h = tt
  shifted_target (e.ToVariable place variable kind) h = tt
  shifted_target (e.ToElement place variable kind index) h = shifted_none index.expr h

  pub shifted_result : (x : Option e.Lvalue) → ResultReadsNone (own told n) x → ResultReadsNone told (option_map (i.shifted_target n) x)
  shifted_result None h = tt
  shifted_result (Some target) h = shifted_target target h

  pub shifted_key : (x : Option e.Placed) → KeyReadsNone (own told n) x → KeyReadsNone told (option_map (i.shifted_placed n) x)
  shifted_key None h = tt
  shifted_key (Some key) h = shifted_none key.expr h

  pub shifted_takes : (x : e.Lvalue) → Takes (own told n) x → Takes told (i.shifted_target n x)
  shifted_takes (e.ToLocal place local kind) h = h
  shifted_takes (e.ToVariable place variable kind) h = h
  shifted_takes (e.ToElement place variable kind index) h = h

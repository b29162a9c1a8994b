-- Locals only grow along statements: their kinds, and what they refer to.
use Rattle.std.proofs.Common.{◌≡◌, refl, sym, ◌∙◌, subst, ℕ, zero, suc, ◌<◌, ◌≤◌, List, [], ◌∷◌, ◌++◌, length, map, Option, Some, arith, ⊎_elim}
use Rattle.std.specs.Prelude.{slice_get}
use Rattle.std.specs.List.{AllByRecursion}
use Rattle.std.specs.Option.{option_map}
use Rattle.std.proofs.lemmas.Bool.{cases_lt}
use Rattle.std.proofs.lemmas.List.{append_assoc, append-nil, length-append}
use Rattle.std.proofs.lemmas.Option.{none-some, same_Some, slice_get_within, slice_get-get_or}
use Rattle.ido_base.specs.declared.place.Place.{Place}
use Rattle.ido_ints.specs.declared.kinds.Kind.{Kind}
use Rattle.ido_ints.specs.declared.kinds.Kind.TheVariants.{Int}
use Rattle.c_tree.specs.Trees as t
use Rattle.c_tree.specs.Names as n
use Rattle.c_tree.specs.Elaboration as made

get_left : {A : Type 0} (xs ys : List A) (k : ℕ) (x : A) → slice_get xs k ≡ Some x → slice_get (xs ++ ys) k ≡ Some x
get_left [] ys k x h = absurd (none-some x h)
get_left (z ∷ xs) ys zero x h = h
get_left (z ∷ xs) ys (suc k) x h = get_left xs ys k x h

get_seam : {A : Type 0} (xs : List A) (x : A) → slice_get (xs ++ x ∷ []) (length xs) ≡ Some x
get_seam [] x = refl
get_seam (z ∷ xs) x = get_seam xs x

-- each of the one list is in the other, with its number
abbrev pub Into : {A : Type 0} → List A → List A → Type 0
Into {A} js ks = (i : ℕ) (k : A) → slice_get js i ≡ Some k → slice_get ks i ≡ Some k

pub into_self : {A : Type 0} (ks : List A) → Into ks ks
into_self ks = λ i k h. h

pub into_both : {A : Type 0} (is js ks : List A) → Into is js → Into js ks → Into is ks
into_both is js ks h g = λ i k e. g i k (h i k e)

into_more : {A : Type 0} (ks more : List A) → Into ks (ks ++ more)
into_more ks more = λ i k h. get_left ks more i k h

pub into_length : (js ks : List Kind) → Into js ks → length js ≤ length ks
into_length js ks h = ⊎_elim (λ short. absurd (past short)) (λ fits. omega (arith, fits)) (cases_lt (length ks) (length js))
  where
    past : length ks < length js → ⊥
    past short = let within = slice_get_within ks (length ks) _ (h (length ks) _ (slice_get-get_or js (length ks) Int short)) in omega (arith, within)

-- ---- What the locals of a scope refer to

-- the number of the array
abbrev pub numbered : Option n.Array → Option ℕ
numbered o = option_map (λ (a : n.Array). a.number) o

-- what values of the types refer to
abbrev pub types_refer : List n.Global → List t.TypeName → List (Option ℕ)
types_refer gs [] = []
types_refer gs (x ∷ xs) = numbered (n.referred gs x) ∷ types_refer gs xs

-- ---- What is true of the locals of a scope, and stays so with one more, is true along statements

abbrev pub KeepsMore : List n.Global → (List Kind → List (Option ℕ) → Type 0) → Type 0
KeepsMore gs Holds = (ks : List Kind) (rs : List (Option ℕ)) (x : t.TypeName) → Holds ks rs →
    Holds (ks ++ n.kind_named x ∷ []) (rs ++ numbered (n.referred gs x) ∷ [])

module _ (gs : List n.Global) (Holds : List Kind → List (Option ℕ) → Type 0) (more : KeepsMore gs Holds) where
  abbrev pub HoldsOf : n.Scope → Type 0
  HoldsOf s = Holds s.kinds s.refers

  pub keeps_first : (place : Place) (s : n.Scope) (y : t.First) → HoldsOf s → HoldsOf (made.first_at gs place s y).scope
  keeps_first place s t.NoFirst h = h
  keeps_first place s (t.Declared y) h = more s.kinds s.refers y.type_name h
  keeps_first place s (t.Assigned y) h = h

  mutual
    pub keeps_statement : (s : n.Scope) (y : t.Statement) → HoldsOf s → HoldsOf (made.statement gs s y).scope
    keeps_statement s (t.BlockOf y) h = keeps_inside s y h
    keeps_statement s (t.Empty place) h = h
    keeps_statement s (t.Declare y) h = more s.kinds s.refers y.type_name h
    keeps_statement s (t.Assign y) h = h
    keeps_statement s (t.AssignResult y c) h = h
    keeps_statement s (t.CallOnly c) h = h
    keeps_statement s (t.If place arms otherwise) h = keeps_otherwise (made.arms_of gs s arms).scope otherwise (keeps_arms s arms h)
    keeps_statement s (t.While place y body) h = keeps_inside s body h
    keeps_statement s (t.Do place body y) h = keeps_inside s body h
    keeps_statement s (t.For place start y last body) h =
        keeps_inside (made.first_at gs place (n.entered s) start).scope body (keeps_first place (n.entered s) start h)
    keeps_statement s (t.Lock place mutex key) h = h
    keeps_statement s (t.Unlock place mutex key) h = h

    pub keeps_inside : (s : n.Scope) (y : t.Block) → HoldsOf s → HoldsOf (made.inside gs s y).scope
    keeps_inside s (t.Braced opening ys closing) h = keeps_statements (n.entered s) ys h

    pub keeps_statements : (s : n.Scope) (ys : t.Statements) → HoldsOf s → HoldsOf (made.statements gs s ys).scope
    keeps_statements s t.no_statement h = h
    keeps_statements s (t.statement_and y ys) h = keeps_statements (made.statement gs s y).scope ys (keeps_statement s y h)

    pub keeps_arms : (s : n.Scope) (ys : t.Arms) → HoldsOf s → HoldsOf (made.arms_of gs s ys).scope
    keeps_arms s t.no_arm h = h
    keeps_arms s (t.arm_and y body rest) h = keeps_arms (made.inside gs s body).scope rest (keeps_inside s body h)

    pub keeps_otherwise : (s : n.Scope) (y : t.Otherwise) → HoldsOf s → HoldsOf (made.otherwise_of gs s y).scope
    keeps_otherwise s t.Nothing h = h
    keeps_otherwise s (t.Else body) h = keeps_inside s body h

  pub keeps_parameters : (s : n.Scope) (ys : List t.Parameter) → HoldsOf s → HoldsOf (made.with_parameters gs s ys)
  keeps_parameters s [] h = h
  keeps_parameters s (y ∷ ys) h = keeps_parameters (n.declared gs s y.name.text y.type_name) ys (more s.kinds s.refers y.type_name h)

-- ---- Locals grow

-- each local of a scope has its place among these
abbrev pub Within : n.Scope → List Kind → List (Option ℕ) → Type 0
Within s ks rs = Into s.kinds ks × Into s.refers rs

-- beside each kind stands what the local refers to
abbrev pub AreBeside : List Kind → List (Option ℕ) → Type 0
AreBeside ks rs = length rs ≡ length ks

-- they are among these, which stand beside each other as they do
abbrev Grown : n.Scope → List Kind → List (Option ℕ) → Type 0
Grown s ks rs = Into s.kinds ks × Into s.refers rs × (AreBeside s.kinds s.refers → AreBeside ks rs)

pub within_both : (s s' : n.Scope) (ks : List Kind) (rs : List (Option ℕ)) → Within s s'.kinds s'.refers → Within s' ks rs → Within s ks rs
within_both s s' ks rs h g = (into_both s.kinds s'.kinds ks h.0 g.0, into_both s.refers s'.refers rs h.1 g.1)

beside_more : (ks : List Kind) (rs : List (Option ℕ)) (k : Kind) (r : Option ℕ) → AreBeside ks rs → AreBeside (ks ++ k ∷ []) (rs ++ r ∷ [])
beside_more ks rs k r h =
    let same : length rs ≡ length ks = h in
    let longer : length (rs ++ r ∷ []) ≡ length (ks ++ k ∷ []) =
    omega (arith, same, length-append rs (r ∷ []), length-append ks (k ∷ [])) in
    longer

module _ (gs : List n.Global) where
  grown_self : (s : n.Scope) → Grown s s.kinds s.refers
  grown_self s = (into_self s.kinds, into_self s.refers, λ h. h)

  grown_more : (s : n.Scope) (ks : List Kind) (rs : List (Option ℕ)) (x : t.TypeName) → Grown s ks rs →
      Grown s (ks ++ n.kind_named x ∷ []) (rs ++ numbered (n.referred gs x) ∷ [])
  grown_more s ks rs x h =
      let k = n.kind_named x in
      let r = numbered (n.referred gs x) in (
        into_both s.kinds ks (ks ++ k ∷ []) h.0 (into_more ks (k ∷ [])),
        into_both s.refers rs (rs ++ r ∷ []) h.1 (into_more rs (r ∷ [])),
        λ even. beside_more ks rs k r (h.2 even),
      )

  pub grow_first : (place : Place) (s : n.Scope) (y : t.First) →
      Within s (made.first_at gs place s y).scope.kinds (made.first_at gs place s y).scope.refers
  grow_first place s y = let g = keeps_first gs (Grown s) (grown_more s) place s y (grown_self s) in (g.0, g.1)

  pub grow_statement : (s : n.Scope) (y : t.Statement) → Within s (made.statement gs s y).scope.kinds (made.statement gs s y).scope.refers
  grow_statement s y = let g = keeps_statement gs (Grown s) (grown_more s) s y (grown_self s) in (g.0, g.1)

  pub grow_inside : (s : n.Scope) (y : t.Block) → Within s (made.inside gs s y).scope.kinds (made.inside gs s y).scope.refers
  grow_inside s y = let g = keeps_inside gs (Grown s) (grown_more s) s y (grown_self s) in (g.0, g.1)

  pub grow_statements : (s : n.Scope) (ys : t.Statements) → Within s (made.statements gs s ys).scope.kinds (made.statements gs s ys).scope.refers
  grow_statements s ys = let g = keeps_statements gs (Grown s) (grown_more s) s ys (grown_self s) in (g.0, g.1)

  pub grow_arms : (s : n.Scope) (ys : t.Arms) → Within s (made.arms_of gs s ys).scope.kinds (made.arms_of gs s ys).scope.refers
  grow_arms s ys = let g = keeps_arms gs (Grown s) (grown_more s) s ys (grown_self s) in (g.0, g.1)

  pub grow_otherwise : (s : n.Scope) (y : t.Otherwise) → Within s (made.otherwise_of gs s y).scope.kinds (made.otherwise_of gs s y).scope.refers
  grow_otherwise s y = let g = keeps_otherwise gs (Grown s) (grown_more s) s y (grown_self s) in (g.0, g.1)

  pub grow_parameters : (s : n.Scope) (ys : List t.Parameter) → Within s (made.with_parameters gs s ys).kinds (made.with_parameters gs s ys).refers
  grow_parameters s ys = let g = keeps_parameters gs (Grown s) (grown_more s) s ys (grown_self s) in (g.0, g.1)

  -- ---- Kinds and what is referred to go on side by side

  pub beside_inside : (s : n.Scope) (y : t.Block) → AreBeside s.kinds s.refers → AreBeside (made.inside gs s y).scope.kinds (made.inside gs s y).scope.refers
  beside_inside s y h = (keeps_inside gs (Grown s) (grown_more s) s y (grown_self s)).2 h

  pub beside_statement : (s : n.Scope) (y : t.Statement) → AreBeside s.kinds s.refers →
      AreBeside (made.statement gs s y).scope.kinds (made.statement gs s y).scope.refers
  beside_statement s y h = (keeps_statement gs (Grown s) (grown_more s) s y (grown_self s)).2 h

-- ---- Locals that are known

-- a local is there, and its type says its kind and what it refers to
pub record IsKnown (gs : List n.Global) (ks : List Kind) (rs : List (Option ℕ)) (l : n.Local) : Type 0 where
  pub kind : slice_get ks l.number ≡ Some l.kind
  pub refers : slice_get rs l.number ≡ Some (numbered l.refers)
  pub type_name : t.TypeName
  pub kind_is : l.kind ≡ n.kind_named type_name
  pub refers_is : l.refers ≡ n.referred gs type_name

-- the locals that a scope knows are
abbrev pub Known : List n.Global → List Kind → List (Option ℕ) → n.Scope → Type 0
Known gs ks rs s = AllByRecursion (IsKnown gs ks rs) s.known × AreBeside s.kinds s.refers

-- where there are none yet
pub none_known : (gs : List n.Global) (ks : List Kind) (rs : List (Option ℕ)) → Known gs ks rs n.no_locals
none_known gs ks rs = (tt, refl)

-- one that is declared
pub kind_declared : (gs : List n.Global) (ks : List Kind) (rs : List (Option ℕ)) (s : n.Scope) (name : List ℕ) (x : t.TypeName) →
    Within (n.declared gs s name x) ks rs → slice_get ks (length s.kinds) ≡ Some (n.kind_named x)
kind_declared gs ks rs s name x into = into.0 (length s.kinds) (n.kind_named x) (get_seam s.kinds (n.kind_named x))

pub refers_declared : (gs : List n.Global) (ks : List Kind) (rs : List (Option ℕ)) (s : n.Scope) (name : List ℕ) (x : t.TypeName) →
    AreBeside s.kinds s.refers → Within (n.declared gs s name x) ks rs → slice_get rs (length s.kinds) ≡ Some (numbered (n.referred gs x))
refers_declared gs ks rs s name x even into =
    subst (λ (k : ℕ). slice_get rs k ≡ Some (numbered (n.referred gs x))) even
    (into.1 (length s.refers) (numbered (n.referred gs x)) (get_seam s.refers (numbered (n.referred gs x))))

pub known_declared : (gs : List n.Global) (ks : List Kind) (rs : List (Option ℕ)) (s : n.Scope) (name : List ℕ) (x : t.TypeName) → Known gs ks rs s →
    Within (n.declared gs s name x) ks rs → Known gs ks rs (n.declared gs s name x)
known_declared gs ks rs s name x known into = (
  (
    record {
      kind = kind_declared gs ks rs s name x into;
      refers = refers_declared gs ks rs s name x known.1 into;
      type_name = x;
      kind_is = refl;
      refers_is = refl;
    },
    known.0,
  ),
  beside_more s.kinds s.refers (n.kind_named x) (numbered (n.referred gs x)) known.1,
)

-- ---- Parameters

module _ (gs : List n.Global) where
  pub known_parameters : (ks : List Kind) (rs : List (Option ℕ)) (s : n.Scope) (ys : List t.Parameter) → Known gs ks rs s →
      Within (made.with_parameters gs s ys) ks rs → Known gs ks rs (made.with_parameters gs s ys)
  known_parameters ks rs s [] known into = known
  known_parameters ks rs s (y ∷ ys) known into =
      let s' = n.declared gs s y.name.text y.type_name in
      let within = within_both s' (made.with_parameters gs s' ys) ks rs (grow_parameters gs s' ys) into in
      known_parameters ks rs s' ys (known_declared gs ks rs s y.name.text y.type_name known within) into

  -- parameters refer as their types do, after what was there
  pub parameters_refer : (s : n.Scope) (ys : List t.Parameter) →
      (made.with_parameters gs s ys).refers ≡ s.refers ++ types_refer gs (map (λ (y : t.Parameter). y.type_name) ys)
  parameters_refer s [] = sym (append-nil s.refers)
  parameters_refer s (y ∷ ys) =
      parameters_refer (n.declared gs s y.name.text y.type_name) ys
      ∙ append_assoc s.refers (numbered (n.referred gs y.type_name) ∷ []) (types_refer gs (map (λ (z : t.Parameter). z.type_name) ys))

-- ---- Lists that begin with others

abbrev pub Begins : List (Option ℕ) → List (Option ℕ) → Type 0
Begins [] rs = Unit {0}
Begins (a ∷ firsts) [] = ⊥
Begins (a ∷ firsts) (r ∷ rs) = (r ≡ a) × Begins firsts rs

pub begins_into : (firsts rs : List (Option ℕ)) → Into firsts rs → Begins firsts rs
begins_into [] rs h = tt
begins_into (a ∷ firsts) [] h = absurd (none-some a (h 0 a refl))
begins_into (a ∷ firsts) (r ∷ rs) h = (same_Some r a (h 0 a refl), begins_into firsts rs (λ i k e. h (suc i) k e))

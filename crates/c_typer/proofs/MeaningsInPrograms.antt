-- What the names of a text mean in the program that is made of it.
use Rattle.std.proofs.Common.{◌≡◌, refl, sym, ◌∙◌, ap, subst, ℕ, zero, suc, ◌-◌, ◌<◌, ◌≤◌, List, [], ◌∷◌, length, find, arith}
use Rattle.std.proofs.Common.{Bool, true, false, not, is_some, if◌then◌else◌, cond, Option, Some, None}
use Rattle.std.specs.Prelude.{slice_get, slice_index_or}
use Rattle.std.specs.List.{AllByRecursion}
use Rattle.std.specs.Option.{option_map}
use Rattle.std.proofs.lemmas.Bool.{le-ltb, true≢false}
use Rattle.std.proofs.lemmas.Option.{none-some, same_Some}
use Rattle.ido_base.specs.declared.limits.TheConstants.{MOST_ELEMENTS}
use Rattle.ido_ints.specs.declared.kinds.Kind.{Kind}
use Rattle.ido_ints.specs.declared.kinds.Kind.TheVariants.{UnsignedLong}
use Rattle.c_tree.specs.declared.language.Language.{Language}
use Rattle.c_tree.specs.declared.rule.Rule.TheVariants as rule
use Rattle.c_tree.specs.LexicalScan.{Fault}
use Rattle.c_tree.specs.Trees as t
use Rattle.c_tree.specs.Names as n
use Rattle.c_tree.specs.Programs as p
use Rattle.c_tree.specs.TypeRules as rules
use Rattle.c_tree.specs.TypeRules.{broken, broken_if}
use Rattle.c_tree.specs.Elaboration as made
use Rattle.c_tree.specs.Ranges.{elements_of, mutexes_of}
use Rattle.c_tree.specs.References.{IsReferred, variable_refers}
use Rattle.c_tree.specs.WellFormed.{IsArrayAt, IsDeclared, IsSingleAt}
use Rattle.c_typer.proofs.EmptyFaults.{nil_right, not_broken, unbroken}
use Rattle.c_typer.proofs.LocalsGrow.{Begins, IsKnown, Known, numbered, types_refer}

-- ---- Mutexes

-- a mutex that is in no array, or an array of so many
abbrev pub MutexIn : List p.Mutex → (number : ℕ) → (count : Option ℕ) → Type 0
MutexIn ms number None = IsSingleAt ms number
MutexIn ms number (Some count) = IsArrayAt ms number × (mutexes_of ms number ≡ count)

pub single_at : (ms : List p.Mutex) (number : ℕ) (count : Option ℕ) → MutexIn ms number count → is_some count ≡ false → IsSingleAt ms number
single_at ms number None there one = there
single_at ms number (Some count) there one = absurd (let wrong : true ≡ false = one in cc)

pub array_at : (ms : List p.Mutex) (number : ℕ) (count : Option ℕ) → MutexIn ms number count → is_some count ≡ true → IsArrayAt ms number
array_at ms number None there many = absurd (let wrong : false ≡ true = many in cc)
array_at ms number (Some count) there many = there.0

-- how many mutexes an array has, where that is what the name means
abbrev pub count_in : n.Meaning → Option ℕ
count_in m = elim m [
  | n.IsGlobal (n.Mutex number count) ↦ count
  | _ ↦ None
]

-- what a name of a lock names, which has a key or hasn't: the mutex is there, or all of the array
pub record IsNamedMutex (ms : List p.Mutex) (number : ℕ) (count : Option ℕ) (keyed : Bool) : Type 0 where
  pub there : MutexIn ms number count
  pub array : is_some count ≡ keyed

-- ---- What types refer to

-- a kind, or references to elements of an array that one mutex guards
abbrev pub TypeIn : List n.Global → t.TypeName → Type 0
TypeIn gs (t.OfKind kind) = Unit {0}
TypeIn gs (t.RefTo array) = is_some (n.array_of gs (n.global_named gs array.text)) ≡ true

-- values are such, where what has them refers so
abbrev pub RefersAs : n.Referring → (refers : Option ℕ) → Type 0
RefersAs n.Number r = r ≡ None
RefersAs n.Null r = ⊥
RefersAs (n.To array) r = r ≡ Some array
RefersAs n.Anything r = ⊥

pub type_refers : (gs : List n.Global) (x : t.TypeName) → TypeIn gs x → RefersAs (n.of_type gs x) (numbered (n.referred gs x))
type_refers gs (t.OfKind kind) h = refl
type_refers gs (t.RefTo array) h = by (n.global_named gs array.text) h
  where
    by : (o : Option n.Sort) → is_some (n.array_of gs o) ≡ true → RefersAs (n.referred_by o) (numbered (n.array_of gs o))
    by None k = absurd (true≢false (sym k))
    by (Some (n.Mutex number count)) k = absurd (true≢false (sym k))
    by (Some (n.Variable number type_name None each)) k = absurd (true≢false (sym k))
    by (Some (n.Variable number type_name (Some size) true)) k = absurd (true≢false (sym k))
    by (Some (n.Variable number type_name (Some size) false)) k = refl
    by (Some (n.Function number gives parameters)) k = absurd (true≢false (sym k))
    by (Some n.Thread) k = absurd (true≢false (sym k))

-- what refers is an `unsigned long`
pub type_kind : (gs : List n.Global) (x : t.TypeName) → is_some (numbered (n.referred gs x)) ≡ true → n.kind_named x ≡ UnsignedLong
type_kind gs (t.OfKind kind) h = absurd (true≢false (sym h))
type_kind gs (t.RefTo array) h = refl

pub not_not : (c : Bool) → not c ≡ false → c ≡ true
not_not true h = refl
not_not false h = absurd (true≢false h)

-- no rule is broken by the name of the array to which a type refers
abbrev IsReferrable : List n.Global → t.Name → n.Meaning → Type 0
IsReferrable gs array m = ◌≡◌ {A = List Fault} (elim m [
  | n.IsUnknown ↦ broken rule.Unknown array.place
  | n.IsGlobal sort ↦ broken_if (not (is_some (n.array_of gs (Some sort)))) rule.WrongSort array.place
  | n.IsLocal y ↦ broken rule.WrongSort array.place
]) []

-- a type without faults, wherever it stands
pub type_in : (language : Language) (gs : List n.Global) (s : n.Scope) (x : t.TypeName) → rules.type_name_faults language gs s x ≡ [] → TypeIn gs x
type_in language gs s (t.OfKind kind) h = tt
type_in language gs s (t.RefTo array) h =
    local (find (λ (y : n.Local). n.same_name y.name array.text) s.known)
    (nil_right (rules.only_full language array.place) (rules.array_faults language gs s array) h)
  where
    global : (o : Option n.Sort) → IsReferrable gs array (elim o [
      | Some sort ↦ n.IsGlobal sort
      | None ↦ n.IsUnknown
    ]) → is_some (n.array_of gs o) ≡ true
    global None k = absurd (not_broken rule.Unknown array.place k)
    global (Some sort) k =
        not_not (is_some (n.array_of gs (Some sort))) (unbroken (not (is_some (n.array_of gs (Some sort)))) rule.WrongSort array.place k)

    local : (o : Option n.Local) → IsReferrable gs array (elim o [
      | Some y ↦ n.IsLocal y
      | None ↦ n.global_meaning gs array.text
    ]) → is_some (n.array_of gs (n.global_named gs array.text)) ≡ true
    local None k = global (n.global_named gs array.text) k
    local (Some y) k = absurd (not_broken rule.WrongSort array.place k)

-- ---- Variables and functions

-- one mutex guards all of it
pub record OneGuard (v : p.Variable) : Type 0 where
  pub mutex : ℕ
  pub is : v.guard ≡ p.By mutex

-- no length, or one that breaks no rule
abbrev pub IsBounded : (size : Option ℕ) → Type 0
IsBounded None = Unit {0}
IsBounded (Some size) = (0 < size) × (size ≤ MOST_ELEMENTS)

-- the variable of that number is as it is declared
pub record VariableIn (x : p.Program) (gs : List n.Global) (number : ℕ) (type_name : t.TypeName) (size : Option ℕ) (each : Bool) : Type 0 where
  pub it : p.Variable
  pub found : slice_get x.variables number ≡ Some it
  pub kind : it.kind ≡ n.kind_named type_name
  pub long : it.length ≡ size
  pub bounded : IsBounded size
  pub refers : it.refers ≡ numbered (n.referred gs type_name)
  pub typed : TypeIn gs type_name
  pub guarded : each ≡ false → OneGuard it

abbrev pub GivesIn : List n.Global → (gives : Option t.TypeName) → Type 0
GivesIn gs None = Unit {0}
GivesIn gs (Some type_name) = TypeIn gs type_name

-- the function of that number is as it is declared; its first locals are the parameters
pub record FunctionIn (x : p.Program) (gs : List n.Global) (number : ℕ) (given : Option t.TypeName) (parameters : List t.TypeName) : Type 0 where
  pub it : p.Function
  pub found : slice_get x.functions number ≡ Some it
  pub count : length parameters ≡ it.parameters
  pub gives : is_some it.result ≡ is_some given
  pub refer : Begins (types_refer gs parameters) it.refers
  pub typed : AllByRecursion (TypeIn gs) parameters
  pub given_typed : GivesIn gs given

-- what stands for it is there
abbrev pub SortIn : p.Program → List n.Global → n.Sort → Type 0
SortIn x gs (n.Mutex number count) = MutexIn x.mutexes number count
SortIn x gs (n.Variable number type_name size each) = VariableIn x gs number type_name size each
SortIn x gs (n.Function number gives parameters) = FunctionIn x gs number gives parameters
SortIn x gs n.Thread = Unit {0}

pub declared_in : (x : p.Program) (gs : List n.Global) (number : ℕ) (type_name : t.TypeName) (size : Option ℕ) (each : Bool) →
    VariableIn x gs number type_name size each → IsDeclared x.variables number (n.kind_named type_name) (is_some size)
declared_in x gs number type_name size each k =
    record { it = k.it; found = k.found; kind = k.kind; array = ap (λ (o : Option ℕ). is_some o) k.long }

pub refers_of : (vs : List p.Variable) (number : ℕ) (it : p.Variable) → slice_get vs number ≡ Some it → variable_refers vs number ≡ it.refers
refers_of vs number it found = ap (λ (o : Option p.Variable). elim o as (λ _. Option ℕ) [ Some v ↦ v.refers | None ↦ None ]) found

pub index_of : (rs : List (Option ℕ)) (local : ℕ) (r : Option ℕ) → slice_get rs local ≡ Some r → slice_index_or rs local None ≡ r
index_of [] local r e = absurd (none-some r e)
index_of (s ∷ rs) zero r e = same_Some s r e
index_of (s ∷ rs) (suc local) r e = index_of rs local r e

-- ---- Arrays to whose elements there may be references

-- the array is there, and its last element has that number
pub record ArrayIn (x : p.Program) (a : n.Array) : Type 0 where
  pub it : p.Variable
  pub found : slice_get x.variables a.number ≡ Some it
  pub kind : it.kind ≡ a.kind
  pub array : is_some it.length ≡ true
  pub guard : OneGuard it
  pub elements : RefersAs a.elements it.refers
  pub last : elements_of x.variables a.number ≡ suc a.last

pub referred_in : (x : p.Program) (a : n.Array) → ArrayIn x a → IsReferred x.variables a.number
referred_in x a h = record { it = h.it; found = h.found; array = h.array; mutex = h.guard.mutex; guard = h.guard.is }

pub array_declared : (x : p.Program) (a : n.Array) → ArrayIn x a → IsDeclared x.variables a.number a.kind true
array_declared x a h = record { it = h.it; found = h.found; kind = h.kind; array = h.array }

elements_there : (vs : List p.Variable) (number : ℕ) (it : p.Variable) (size : ℕ) → slice_get vs number ≡ Some it → it.length ≡ Some size →
    elements_of vs number ≡ size
elements_there vs number it size found sized =
    ap (λ (o : Option p.Variable). elim o as (λ _. ℕ) [ Some v ↦ elim v.length as (λ _. ℕ) [ Some many ↦ many | None ↦ 0 ] | None ↦ 0 ]) found
    ∙ ap (λ (o : Option ℕ). elim o as (λ _. ℕ) [ Some many ↦ many | None ↦ 0 ]) sized

last_sound : (size : ℕ) → 0 < size → size ≤ MOST_ELEMENTS → suc (n.last_of size) ≡ size
last_sound size some few =
    let whole : suc (size - 1) ≡ size = omega (arith, some) in
    ap (λ (b : Bool). suc (if b then 0 else size - 1)) (le-ltb MOST_ELEMENTS size few) ∙ whole

pub found_in : {A : Type 0} (P : A → Type 0) (test : A → Bool) (xs : List A) (x : A) → AllByRecursion P xs → find test xs ≡ Some x → P x
found_in P test [] x h e = absurd (none-some x e)
found_in P test (y ∷ ys) x h e = go (test y) (λ k. found_in P test ys x h.1 k) e
  where
    go : (c : Bool) → (find test ys ≡ Some x → P x) → cond c (Some y) (find test ys) ≡ Some x → P x
    go true more k = subst P (same_Some y x k) h.0
    go false more k = more k

module _ (x : p.Program) (gs : List n.Global) (sorts : AllByRecursion (λ (y : n.Global). SortIn x gs y.sort) gs) where
  abbrev MaybeIn : Option n.Sort → Type 0
  MaybeIn None = Unit {0}
  MaybeIn (Some sort) = SortIn x gs sort

  sort_in : (name : List ℕ) → MaybeIn (n.global_named gs name)
  sort_in name = go (find (λ (y : n.Global). n.same_name y.name.text name) gs) refl
    where
      go : (o : Option n.Global) → find (λ (y : n.Global). n.same_name y.name.text name) gs ≡ o → MaybeIn (option_map (λ (y : n.Global). y.sort) o)
      go None e = tt
      go (Some y) e = found_in (λ (z : n.Global). SortIn x gs z.sort) (λ (z : n.Global). n.same_name z.name.text name) gs y sorts e

  array_in : (o : Option n.Sort) → MaybeIn o → (a : n.Array) → n.array_of gs o ≡ Some a → ArrayIn x a
  array_in None k a e = absurd (none-some a e)
  array_in (Some (n.Mutex number count)) k a e = absurd (none-some a e)
  array_in (Some (n.Variable number type_name None each)) k a e = absurd (none-some a e)
  array_in (Some (n.Variable number type_name (Some size) true)) k a e = absurd (none-some a e)
  array_in (Some (n.Variable number type_name (Some size) false)) k a e =
      let own : n.Array =
      record { number = number; kind = n.kind_named type_name; elements = n.of_type gs type_name; last = n.last_of size } in
      let here : ArrayIn x own = record {
        it = k.it;
        found = k.found;
        kind = k.kind;
        array = ap (λ (o : Option ℕ). is_some o) k.long;
        guard = k.guarded refl;
        elements = subst (RefersAs (n.of_type gs type_name)) (sym k.refers) (type_refers gs type_name k.typed);
        last = elements_there x.variables number k.it size k.found k.long ∙ sym (last_sound size k.bounded.0 k.bounded.1);
      } in
      subst (ArrayIn x) (same_Some own a e) here
  array_in (Some (n.Function number gives parameters)) k a e = absurd (none-some a e)
  array_in (Some n.Thread) k a e = absurd (none-some a e)

  -- the array of a type that refers
  pub referred_array : (type_name : t.TypeName) (a : n.Array) → n.referred gs type_name ≡ Some a → ArrayIn x a
  referred_array (t.OfKind kind) a e = absurd (none-some a e)
  referred_array (t.RefTo array) a e = array_in (n.global_named gs array.text) (sort_in array.text) a e

  -- an array that is named where one is wanted
  pub named_array : (number : ℕ) (type_name : t.TypeName) (size : ℕ) → VariableIn x gs number type_name (Some size) false → IsReferred x.variables number
  named_array number type_name size k =
      let own : n.Array =
      record { number = number; kind = n.kind_named type_name; elements = n.of_type gs type_name; last = n.last_of size } in
      referred_in x own (array_in (Some (n.Variable number type_name (Some size) false)) k own refl)

-- ---- Meanings

abbrev pub MeaningIn : p.Program → List n.Global → List Kind → List (Option ℕ) → n.Meaning → Type 0
MeaningIn x gs ks rs (n.IsLocal l) = IsKnown gs ks rs l
MeaningIn x gs ks rs (n.IsGlobal sort) = SortIn x gs sort
MeaningIn x gs ks rs n.IsUnknown = Unit {0}

-- a local that is a reference, to elements of an array
pub record ReferenceAt (x : p.Program) (ks : List Kind) (rs : List (Option ℕ)) (o : Option n.Reference) : Type 0 where
  pub it : n.Reference
  pub is : o ≡ Some it
  pub array : ArrayIn x it.array
  pub kind : slice_get ks it.local ≡ Some UnsignedLong
  pub refers : slice_get rs it.local ≡ Some (Some it.array.number)

-- the whole text's names stand in the program, and locals are of these kinds, and refer so
module _ (language : Language) (x : p.Program) (gs : List n.Global) (sorts : AllByRecursion (λ (y : n.Global). SortIn x gs y.sort) gs)
    (ks : List Kind) (rs : List (Option ℕ)) where
  pub meaning_in : (s : n.Scope) (name : List ℕ) → Known gs ks rs s → MeaningIn x gs ks rs (n.meaning gs s name)
  meaning_in s name known = local (find (λ (y : n.Local). n.same_name y.name name) s.known) refl
    where
      global : (o : Option n.Global) → find (λ (y : n.Global). n.same_name y.name.text name) gs ≡ o →
          MeaningIn x gs ks rs (elim (option_map (λ (y : n.Global). y.sort) o) [
            | Some sort ↦ n.IsGlobal sort
            | None ↦ n.IsUnknown
          ])
      global None q = tt
      global (Some y) q = found_in (λ (z : n.Global). SortIn x gs z.sort) (λ (z : n.Global). n.same_name z.name.text name) gs y sorts q

      local : (o : Option n.Local) → find (λ (y : n.Local). n.same_name y.name name) s.known ≡ o → MeaningIn x gs ks rs (elim o [
        | Some y ↦ n.IsLocal y
        | None ↦ n.global_meaning gs name
      ])
      local None q = global (find (λ (y : n.Global). n.same_name y.name.text name) gs) refl
      local (Some y) q = found_in (IsKnown gs ks rs) (λ (z : n.Local). n.same_name z.name name) s.known y known.0 q

  -- a local that refers to the array
  local_reference : (l : n.Local) → IsKnown gs ks rs l → (o : Option n.Array) → l.refers ≡ o → not (is_some o) ≡ false →
      ReferenceAt x ks rs (option_map (λ (a : n.Array). record { local = l.number; array = a }) o)
  local_reference l k None e q = absurd (true≢false q)
  local_reference l k (Some a) e q =
      let typed : n.referred gs k.type_name ≡ Some a = sym k.refers_is ∙ e in
      let long : n.kind_named k.type_name ≡ UnsignedLong =
      type_kind gs k.type_name (ap (λ (r : Option n.Array). is_some (numbered r)) typed) in
      record {
        it = record { local = l.number; array = a };
        is = refl;
        array = referred_array x gs sorts k.type_name a typed;
        kind = k.kind ∙ ap (λ (j : Kind). Some j) (k.kind_is ∙ long);
        refers = k.refers ∙ ap (λ (r : Option n.Array). Some (numbered r)) e;
      }

  -- what is followed is a reference
  pub reference_at : (s : n.Scope) → Known gs ks rs s → (y : t.Name) → rules.reference_faults language gs s y ≡ [] →
      ReferenceAt x ks rs (made.reference gs s y)
  reference_at s known y h = go (n.meaning gs s y.text) (meaning_in s y.text known) h
    where
      go : (m : n.Meaning) → MeaningIn x gs ks rs m → ◌≡◌ {A = List Fault} (elim m [
        | n.IsUnknown ↦ broken rule.Unknown y.place
        | n.IsLocal l ↦ broken_if (not (is_some l.refers)) rule.WrongSort y.place
        | _ ↦ broken rule.WrongSort y.place
      ]) [] → ReferenceAt x ks rs (elim m [
        | n.IsLocal l ↦ option_map (λ (a : n.Array). record { local = l.number; array = a }) l.refers
        | _ ↦ None
      ])
      go n.IsUnknown k q = absurd (not_broken rule.Unknown y.place q)
      go (n.IsLocal l) k q = local_reference l k l.refers refl (unbroken (not (is_some l.refers)) rule.WrongSort y.place q)
      go (n.IsGlobal (n.Mutex number count)) k q = absurd (not_broken rule.WrongSort y.place q)
      go (n.IsGlobal (n.Variable number type_name size each)) k q = absurd (not_broken rule.WrongSort y.place q)
      go (n.IsGlobal (n.Function number gives parameters)) k q = absurd (not_broken rule.WrongSort y.place q)
      go (n.IsGlobal n.Thread) k q = absurd (not_broken rule.WrongSort y.place q)

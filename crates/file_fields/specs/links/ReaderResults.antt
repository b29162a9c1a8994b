-- What a reader of the code returned is what reading gives.
use Rattle.std.specs.Prelude.{◌≡◌, Result, Ok, Err}
use Rattle.file_fields.specs.Fields.{Fault, Magic, Version, Cut, Field, Rest}
use Rattle.file_fields.specs.declared.error.ReadError.{ReadError}
use Rattle.file_fields.specs.declared.error.ReadError.TheVariants as e

-- the error tells the fault
abbrev pub IsFault : {Y : Type 0} → ReadError → Result Y Fault → Type 0
IsFault e.Magic read = read ≡ Err Magic
IsFault e.Version read = read ≡ Err Version
IsFault (e.Cut place) read = read ≡ Err (Cut place.0)
IsFault (e.Field place) read = read ≡ Err (Field place.0)
IsFault (e.Rest place) read = read ≡ Err (Rest place.0)
IsFault e.Memory read = ⊥

-- seen by view
abbrev pub ViewsFault : {X Y : Type 0} → (X → Y) → Result X ReadError → Result Y Fault → Type 0
ViewsFault view (Ok x) read = read ≡ Ok (view x)
ViewsFault view (Err e) read = IsFault e read

-- want of memory tells nothing
abbrev pub Fails : {Y : Type 0} → ReadError → Result Y Fault → Type 0
Fails e.Magic read = read ≡ Err Magic
Fails e.Version read = read ≡ Err Version
Fails (e.Cut place) read = read ≡ Err (Cut place.0)
Fails (e.Field place) read = read ≡ Err (Field place.0)
Fails (e.Rest place) read = read ≡ Err (Rest place.0)
Fails e.Memory read = Unit {0}

-- seen by view, unless memory ran out
abbrev pub Gives : {X Y : Type 0} → (X → Y) → Result X ReadError → Result Y Fault → Type 0
Gives view (Ok x) read = read ≡ Ok (view x)
Gives view (Err e) read = Fails e read

-- What a table of places is of: each live local is of its thread and has a home, and a bank has room for the locks.
use Rattle.std.specs.Prelude.{◌≡◌, ◌<◌, ℕ, List, All, Some, Vec, slice_get}
use Rattle.std.specs.Global.{Global}
use Rattle.log_schemes.specs.Schemes.{HaveRoom}
use Rattle.log_schemes.specs.declared.log.Log.{Log}
use Rattle.ido_ints.specs.declared.kinds.Kind.{Kind}
use Rattle.c_tree.specs.Flats.{Flat}
use Rattle.ido_base.specs.declared.limits.TheConstants.{LOCAL_REGISTERS}
use Rattle.flat_compile.specs.declared.resumes.LiveLocal.{LiveLocal}
use Rattle.flat_compile.specs.declared.resumes.Resume.{Resume}
use Rattle.flat_compile.specs.ResumePlaces.{resumes_at}
use Rattle.image_checks.specs.Checks.{kinds_of_thread}

abbrev pub HaveSlots : List LiveLocal → Type 0
HaveSlots live = All (λ (l : LiveLocal). l.colour < LOCAL_REGISTERS) live

abbrev pub AllHaveSlots : List Resume → Type 0
AllHaveSlots resumes = All (λ (r : Resume). HaveSlots r.live.items) resumes

abbrev pub TablesHaveSlots : List (Vec Resume Global) → Type 0
TablesHaveSlots table = All (λ (rs : Vec Resume Global). AllHaveSlots rs.items) table

-- the numbers of the held names: where a mask tells them, they are those of mutexes
abbrev pub HasRoom : Log → Resume → Type 0
HasRoom log r = HaveRoom log r.held.items

abbrev pub AllHaveRoom : Log → List Resume → Type 0
AllHaveRoom log resumes = All (λ (r : Resume). HasRoom log r) resumes

abbrev pub TablesHaveRoom : Log → List (Vec Resume Global) → Type 0
TablesHaveRoom log table = All (λ (rs : Vec Resume Global). AllHaveRoom log rs.items) table

-- each live local is one of these kinds
abbrev pub HaveKinds : List Kind → List LiveLocal → Type 0
HaveKinds kinds live = All (λ (l : LiveLocal). slice_get kinds l.local ≡ Some l.kind) live

abbrev pub AllHaveKinds : List Kind → List Resume → Type 0
AllHaveKinds kinds resumes = All (λ (r : Resume). HaveKinds kinds r.live.items) resumes

abbrev pub TablesHaveKinds : Flat → List (Vec Resume Global) → Type 0
TablesHaveKinds flat table = (thread : ℕ) → AllHaveKinds (kinds_of_thread flat thread) (resumes_at table thread)

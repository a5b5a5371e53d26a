-- A whole visibility change under a list of backend answers, written from document 01, "The request under way", its two bullets.
use Rattle.std.specs.Prelude.{Bool, true, false, cond, List, [], ◌∷◌, ◌++◌, ℕ, ◌+◌, ltb, length, get_or, take, drop, Option, Some, None}
use Rattle.bitmap.specs.Pages.{written}
use Rattle.permissions.specs.declared.GuestVtl.{GuestVtl}
use Rattle.permissions.specs.declared.GuestVtl.TheVariants.{Vtl0, Vtl1}
use Rattle.permissions.specs.declared.IsolationType.{IsolationType}
use Rattle.permissions.specs.declared.IsolationType.TheVariants.{Snp, Tdx, Cca}
use Rattle.permissions.specs.declared.HvMapGpaFlags.{HvMapGpaFlags}
use Rattle.permissions.specs.Flags.{no_flags}
use Rattle.mapping.specs.Maps.{Maps, Permissions, perms, permitted}
use Rattle.page_list.specs.declared.PageRun.{PageRun}
use Rattle.page_list.specs.Pages.{among}
use Rattle.page_list.specs.Runs.{runs_of}
use Rattle.visibility_steps.specs.declared.Settings.{Settings}

-- an operation that a call asks for: Modify names its pages, in order
pub data Operation : Type 0 where
  Wait : Operation
  FlushAll : Operation
  Protect : GuestVtl → HvMapGpaFlags → PageRun → Operation
  Invalidate : PageRun → Operation
  Release : PageRun → Operation
  Modify : Bool → List ℕ → Operation
  Accept : PageRun → Operation
  Zero : PageRun → Operation
  Flush : GuestVtl → Operation
  TlbWait : GuestVtl → Operation

-- an answer of the backend: done, or failed with a code and the number of pages processed
pub data BackendAnswer : Type 0 where
  Succeeds : BackendAnswer
  Fails : ℕ → ℕ → BackendAnswer

-- how a call stands once the answers are used up: it was refused by a number, waits for an answer, is Ok, or ended with 15, 16 or 20
pub data Status : Type 0 where
  Denied : ℕ → Status
  Waits : Status
  Ok : Status
  StoppedAt : ℕ → Status
  FailedAt : ℕ → ℕ → Status
  Halts : Status

-- the operations that it asked for, in order, the maps that it leaves, and how it stands; its count is the number of operations
pub record Whole : Type 0 where
  pub asked : List Operation
  pub maps : Maps
  pub status : Status

abbrev pub stands : Maps → Status → Whole
stands maps status = record { asked = []; maps = maps; status = status }

abbrev pub asking : Operation → Whole → Whole
asking operation call = record { asked = operation ∷ call.asked; maps = call.maps; status = call.status }

-- "From the state" 21: Wait, TlbWait and a flush cannot fail
abbrev pub fails : Operation → Bool
fails Wait = false
fails FlushAll = false
fails (Protect vtl flags run) = true
fails (Invalidate run) = true
fails (Release run) = true
fails (Modify share pages) = true
fails (Accept run) = true
fails (Zero run) = true
fails (Flush vtl) = false
fails (TlbWait vtl) = false

-- one operation: it waits for its answer, and goes on by it; a failure that isn't taken leaves it as it is
unfoldable pub one : Operation → Maps → List BackendAnswer → (List BackendAnswer → Whole) → (ℕ → ℕ → List BackendAnswer → Whole) → Whole
one operation maps [] next failed = asking operation (stands maps Waits)
one operation maps (Succeeds ∷ answers) next failed = asking operation (next answers)
one operation maps (Fails code processed ∷ answers) next failed = cond (fails operation) (asking operation (failed code processed answers)) (one operation maps answers next failed)

-- operations in turn, each after what is written before it (20: a failure halts)
unfoldable pub in_turn : (Operation → Maps → Maps) → List Operation → Maps → List BackendAnswer → (Maps → List BackendAnswer → Whole) → Whole
in_turn before [] maps answers next = next maps answers
in_turn before (operation ∷ operations) maps answers next =
    one operation (before operation maps) answers (λ answers. in_turn before operations (before operation maps) answers next) (λ code processed answers. stands (before operation maps) Halts)

-- ---- the operations

unfoldable pub per_run : (PageRun → List Operation) → List PageRun → List Operation
per_run operations [] = []
per_run operations (run ∷ runs) = operations run ++ per_run operations runs

abbrev pub flushes : IsolationType → List Operation
flushes Snp = FlushAll ∷ []
flushes Tdx = []
flushes Cca = []

-- what a run is asked before it is shared
abbrev pub unaccepts : IsolationType → Bool → PageRun → List Operation
unaccepts Snp release run = Protect Vtl0 no_flags run ∷ Protect Vtl1 no_flags run ∷ Invalidate run ∷ []
unaccepts Tdx release run = cond release (Release run ∷ []) []
unaccepts Cca release run = []

-- what it is asked once it is private
abbrev pub accepts : IsolationType → PageRun → List Operation
accepts Snp run = Accept run ∷ Zero run ∷ []
accepts Tdx run = Accept run ∷ []
accepts Cca run = []

abbrev pub defaults : HvMapGpaFlags → Option HvMapGpaFlags → PageRun → List Operation
defaults vtl0 (Some vtl1) run = Protect Vtl0 vtl0 run ∷ Protect Vtl1 vtl1 run ∷ []
defaults vtl0 None run = Protect Vtl0 vtl0 run ∷ []

abbrev pub share_operations : Settings → List ℕ → List Operation
share_operations settings pages =
    Wait ∷ flushes settings.isolation ++ (per_run (unaccepts settings.isolation settings.release) (runs_of pages) ++ (Modify true pages ∷ []))

-- ---- the maps

abbrev pub marked : List ℕ → Bool → List ℕ → List ℕ
marked pages state map = written 8 (among pages) state map

abbrev pub with_private : List ℕ → Bool → Maps → Maps
with_private pages state maps = record { private = marked pages state maps.private; shared = maps.shared; permissions = maps.permissions }

abbrev pub with_shared : List ℕ → Bool → Maps → Maps
with_shared pages state maps = record { private = maps.private; shared = marked pages state maps.shared; permissions = maps.permissions }

abbrev pub with_permissions : Permissions → Maps → Maps
with_permissions permissions maps = record { private = maps.private; shared = maps.shared; permissions = permissions }

abbrev pub forbidden : List ℕ → Permissions → Permissions
forbidden pages permissions = perms (marked pages false permissions.read) (marked pages false permissions.write) (marked pages false permissions.kernel) (marked pages false permissions.user)

-- what a Protect of VTL0 writes before it is asked for, where permissions are tracked; no other operation writes so
abbrev pub protecting : Bool → Operation → Maps → Maps
protecting tracked Wait maps = maps
protecting tracked FlushAll maps = maps
protecting tracked (Protect Vtl0 flags run) maps = cond tracked (with_permissions (permitted run.first (run.first + run.count) flags maps.permissions) maps) maps
protecting tracked (Protect Vtl1 flags run) maps = maps
protecting tracked (Invalidate run) maps = maps
protecting tracked (Release run) maps = maps
protecting tracked (Modify share pages) maps = maps
protecting tracked (Accept run) maps = maps
protecting tracked (Zero run) maps = maps
protecting tracked (Flush vtl) maps = maps
protecting tracked (TlbWait vtl) maps = maps

-- the two Protects of a share, and what comes before a return's, write none
abbrev pub writing_none : Operation → Maps → Maps
writing_none operation maps = maps

-- ---- To shared: `pages` are the pages asked for, and `end` is how the call ends once they are shared: Ok, or 15 where its list stopped

abbrev pub cleared_by : Bool → GuestVtl → Maps → List ℕ → Maps
cleared_by tracked Vtl0 maps pages = with_private pages false (with_permissions (cond tracked (forbidden pages maps.permissions) maps.permissions) maps)
cleared_by tracked Vtl1 maps pages = with_private pages false maps

unfoldable pub whole_share : Settings → GuestVtl → List ℕ → Status → Maps → List BackendAnswer → Whole
whole_share settings vtl pages end maps answers =
    in_turn writing_none (share_operations settings pages) (cleared_by settings.tracked vtl maps pages) answers
    (λ maps answers. stands (with_shared pages true maps) end)

-- ---- To private: `pages` are the pages asked for, at these places of the list

-- once Modify took them
unfoldable pub returned : Settings → List ℕ → Maps → List BackendAnswer → Status → Whole
returned settings pages maps answers end =
    in_turn writing_none (per_run (accepts settings.isolation) (runs_of pages)) maps answers
    (λ maps answers. in_turn (protecting settings.tracked) (per_run (defaults settings.defaults.vtl0 settings.defaults.vtl1) (runs_of pages)) (with_private pages true maps) answers
    (λ maps answers. stands maps end))

-- Modify: what it didn't process is marked shared again, and the call ends with 16 at the place of the first such page
unfoldable pub modified : Settings → List ℕ → List ℕ → Maps → List BackendAnswer → Whole
modified settings pages places maps answers =
    one (Modify false pages) maps answers (λ answers. returned settings pages maps answers Ok)
    (λ code processed answers. cond (ltb processed (length pages)) (returned settings (take processed pages) (with_shared (drop processed pages) true maps) answers (FailedAt code (get_or places processed 0)))
    (stands maps Halts))

unfoldable pub whole_return : Settings → List ℕ → List ℕ → Maps → List BackendAnswer → Whole
whole_return settings pages places maps answers =
    in_turn writing_none (Wait ∷ flushes settings.isolation) (with_shared pages false maps) answers (λ maps answers. modified settings pages places maps answers)

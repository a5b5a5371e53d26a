-- What a step writes (01, "The request under way"): marks and permissions of pages, and an overlay entry.
use Rattle.std.specs.Prelude.{Bool, cond, ◌&&◌, List, ◌++◌, ℕ, ◌+◌, ◌*◌, leb, drop, take}
use Rattle.abi.specs.Lengths.{overlays_len}
use Rattle.permissions.specs.declared.GuestVtl.{GuestVtl}
use Rattle.permissions.specs.declared.HvMapGpaFlags.{HvMapGpaFlags}
use Rattle.permissions.specs.Flags.{vtl_number}
use Rattle.mapping.specs.Maps.{Permissions, Maps, permitted}
use Rattle.page_list.specs.declared.PageRun.{PageRun}
use Rattle.overlay_table.specs.Overlays.{is_overlay, place_of, entry, add_words, remove_words}
use Rattle.request_pages.specs.Request.{put, put_flags}
use Rattle.visibility_steps.specs.declared.Places.{Places}
use Rattle.visibility_steps.specs.declared.Writes.{Writes}
use Rattle.change_steps.specs.declared.Entry.{Entry}
use Rattle.change_steps.specs.declared.Entry.TheVariants.{Keep, Add, Remove}
use Rattle.change_steps.specs.declared.Change.{Change}
use Rattle.call_refusals.specs.Buffers.{overlays_of}

-- ---- what a step of a visibility change writes: the marks and the permissions of places of the table

abbrev pub put_places : List ℕ → Places → Bool → List ℕ → List ℕ
put_places pages places state map = put pages places.from places.to state map

abbrev pub put_permissions : List ℕ → Places → HvMapGpaFlags → Permissions → Permissions
put_permissions pages places flags permissions = put_flags pages places.from places.to flags permissions

unfoldable pub applied : List ℕ → Writes → Maps → Maps
applied pages writes maps =
    record {
      private = put_places pages writes.private writes.state maps.private;
      shared = put_places pages writes.shared writes.state maps.shared;
      permissions = put_permissions pages writes.permissions writes.flags maps.permissions;
    }

abbrev pub is_empty : Places → Bool
is_empty places = leb places.to places.from

-- a step that writes nothing
abbrev pub is_nothing : Writes → Bool
is_nothing writes = is_empty writes.private && (is_empty writes.shared && is_empty writes.permissions)

-- ---- what a step of another change writes: the permissions of a run of pages, and an overlay entry

abbrev pub permitted_run : PageRun → HvMapGpaFlags → Permissions → Permissions
permitted_run run flags permissions = permitted run.first (run.first + run.count) flags permissions

-- the tables with other overlays of a VTL
abbrev pub with_overlays : List ℕ → GuestVtl → List ℕ → List ℕ
with_overlays tables vtl overlays = take (overlays_len * vtl_number vtl) tables ++ (overlays ++ drop (overlays_len * vtl_number vtl + overlays_len) tables)

-- the overlays of a VTL without a page's first
abbrev pub without_page : List ℕ → ℕ → List ℕ
without_page overlays gpn = cond (is_overlay overlays gpn) (remove_words overlays (place_of overlays gpn)) overlays

unfoldable pub entered : Entry → Change → List ℕ → List ℕ
entered Keep change tables = tables
entered Add change tables = with_overlays tables change.vtl (add_words (overlays_of tables change.vtl) (entry change.at change.previous change.flags 1 change.source))
entered Remove change tables = with_overlays tables change.vtl (without_page (overlays_of tables change.vtl) change.at)

-- How the numbers hang together: what lengths are made of, and what stands behind what. Assumes nothing.
use mathlib.Core.Path.{◌≡◌, refl}
use Prim.Native.Nat.{◌+◌, ◌*◌}
use Rattle.abi.specs.Flags.{flags_end, all_flags, no_flags}
use Rattle.abi.specs.Lengths.{state_len, registrar_len, pages_len, places_start, tables_len, overlays_len, locks_len, locks_start, ram_entry_words, ram_len, page_size, ram_alignment}
use Rattle.abi.specs.Limits as limit
use Rattle.abi.specs.Overlay as overlay
use Rattle.abi.specs.Phases as phase
use Rattle.abi.specs.Places as place
use Rattle.abi.specs.RegistrarPlaces as registrar
use Rattle.abi.specs.Stages as stage

pub record Sums : Type 0 where
  -- a table has its count, and room for all that it may hold; overlays and locks of both VTLs fill the tables
  pub overlays : overlays_len ≡ 1 + overlay.words * limit.overlays
  pub locks : locks_len ≡ 1 + limit.locked_lists + limit.locked_pages
  pub start : locks_start ≡ 2 * overlays_len
  pub tables : tables_len ≡ locks_start + 2 * locks_len
  -- the request's pages, and as many places; a list has eight bytes a page
  pub pages : pages_len ≡ 2 * limit.listed_pages
  pub places : places_start ≡ limit.listed_pages
  pub bytes : limit.list_bytes ≡ 8 * limit.listed_pages
  -- the longest layout fills either state block; a byte of a map is for eight pages
  pub ram : ram_len ≡ ram_entry_words * limit.ram_entries
  pub state : state_len ≡ place.ram + ram_len
  pub block : registrar_len ≡ registrar.ram + ram_len
  pub alignment : ram_alignment ≡ 8 * page_size
  -- the stages' numbers stand behind the phases', the words of a request and of another change end behind their last
  pub stages : stage.protect_pages ≡ phase.protect_default1 + 1
  pub end : stage.end ≡ stage.tlb_wait + 1
  pub request : place.after_request ≡ place.count + 1
  pub change : place.after_change ≡ place.source + 1
  pub registration : registrar.after_request ≡ registrar.ignore + 1
  pub settings : registrar.offset ≡ registrar.after_request
  pub defaults : place.default1 ≡ place.default0 + 1
  -- flags that aren't given have the first number that is no flags
  pub flags : flags_end ≡ all_flags + 1
  pub none : no_flags ≡ flags_end

pub adds_up : Sums
adds_up =
    record {
      overlays = refl;
      locks = refl;
      start = refl;
      tables = refl;
      pages = refl;
      places = refl;
      bytes = refl;
      ram = refl;
      state = refl;
      block = refl;
      alignment = refl;
      stages = refl;
      end = refl;
      request = refl;
      change = refl;
      registration = refl;
      settings = refl;
      defaults = refl;
      flags = refl;
      none = refl;
    }

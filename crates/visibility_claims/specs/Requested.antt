-- Which pages of its list a visibility change is for, and which of them refuse it: document 01, "The request under way", "Overlays and locks", "From the
-- state" 10, 11 and 15. Written from the list as sent; proofs/Requested proves that the protector's own definitions give the same.
use Rattle.std.specs.Prelude.{Bool, true, false, cond, not, ◌&&◌, List, [], ◌∷◌, ◌++◌, ◌≡◌, ℕ, suc, ◌<◌, length, get_or, take, drop}
use Rattle.abi.specs.Lengths.{places_start}
use Rattle.abi.specs.Refusals as refusal
use Rattle.bitmap.specs.Pages.{bit_at}
use Rattle.layout.specs.Layout.{is_ram}
use Rattle.permissions.specs.declared.GuestVtl.{GuestVtl}
use Rattle.permissions.specs.declared.GuestVtl.TheVariants.{Vtl0, Vtl1}
use Rattle.page_list.specs.Pages.{pages_of, strict}
use Rattle.overlay_table.specs.Overlays.{is_overlay}
use Rattle.lock_table.specs.Locks.{held_in}
use Rattle.request_pages.specs.Request.{over}
use Rattle.protector_state.specs.State.{settings_of, entries_in}
use Rattle.call_refusals.specs.Buffers.{Buffers, overlays_of, locks_of}
use Rattle.visibility_claims.specs.Whole.{Status, Ok, StoppedAt}

-- ---- before anything is changed each page is looked at, in list order: 7 where it is no RAM, 10 where it is locked, 11 where an overlay is to be shared. Overlays
-- and locks are those of the calling VTL

abbrev pub is_overlay_page : Buffers → GuestVtl → ℕ → Bool
is_overlay_page buffers vtl gpn = is_overlay (overlays_of buffers.tables vtl) gpn

-- an overlay frees a page from its locks
abbrev pub is_locked_page : Buffers → GuestVtl → ℕ → Bool
is_locked_page buffers vtl gpn = cond (is_overlay_page buffers vtl gpn) false (held_in (locks_of buffers.tables vtl) gpn)

-- the number that the first refused page has, or 0
unfoldable pub denial : Buffers → GuestVtl → Bool → List ℕ → ℕ
denial buffers vtl share [] = 0
denial buffers vtl share (gpn ∷ rest) =
    cond (not (is_ram (entries_in buffers.state) gpn)) refusal.not_ram
    (cond (is_locked_page buffers vtl gpn) refusal.locked
    (cond (share && is_overlay_page buffers vtl gpn) refusal.overlay
    (denial buffers vtl share rest)))

-- ---- then the list is gone through from its first page on

-- 15: VTL0 shares, protections are enabled, and the page isn't both readable and writable
abbrev pub access_denied : Buffers → GuestVtl → Bool → ℕ → Bool
access_denied buffers Vtl0 true gpn =
    (settings_of buffers.state).enabled && not (bit_at 8 buffers.maps.permissions.read gpn && bit_at 8 buffers.maps.permissions.write gpn)
access_denied buffers Vtl0 false gpn = false
access_denied buffers Vtl1 share gpn = false

-- marked already as it is asked for: the shared mark tells it both ways
abbrev pub is_so_marked : Buffers → Bool → ℕ → Bool
is_so_marked buffers true gpn = bit_at 8 buffers.maps.shared gpn
is_so_marked buffers false gpn = not (bit_at 8 buffers.maps.shared gpn)

-- a page asked for, with its place in the list as sent
pub record Listed : Type 0 where
  pub page : ℕ
  pub place : ℕ

-- the pages asked for, in list order, and how the call ends once they are done: Ok, or 15 at the place where the list stopped
pub record Requested : Type 0 where
  pub listed : List Listed
  pub end : Status

abbrev pub no_more : Status → Requested
no_more end = record { listed = []; end = end }

abbrev pub with_page : ℕ → ℕ → Requested → Requested
with_page gpn i rest = record { listed = record { page = gpn; place = i } ∷ rest.listed; end = rest.end }

-- from place i on: a page stops the list, or drops out, or is asked for
unfoldable pub requested_from : Buffers → GuestVtl → Bool → ℕ → List ℕ → Requested
requested_from buffers vtl share i [] = no_more Ok
requested_from buffers vtl share i (gpn ∷ rest) =
    cond (access_denied buffers vtl share gpn) (no_more (StoppedAt i))
    (cond (is_so_marked buffers share gpn) (requested_from buffers vtl share (suc i) rest)
    (with_page gpn i (requested_from buffers vtl share (suc i) rest)))

abbrev pub requested_of : Buffers → GuestVtl → Bool → List ℕ → Requested
requested_of buffers vtl share list = requested_from buffers vtl share 0 (pages_of list)

unfoldable pub pages_in : List Listed → List ℕ
pages_in [] = []
pages_in (first ∷ rest) = first.page ∷ pages_in rest

unfoldable pub places_in : List Listed → List ℕ
places_in [] = []
places_in (first ∷ rest) = first.place ∷ places_in rest

-- the lent run `pages` while the call is under way: the pages asked for from word 0 on, their places from word 512 on, every other word as it was
abbrev pub stored_in : List Listed → List ℕ → List ℕ
stored_in listed pages = over (pages_in listed) (take places_start pages) ++ over (places_in listed) (drop places_start pages)

-- ---- THE CLAIM on places: each holds its page in the list as sent, and they ascend

pub record Placed (pages : List ℕ) (listed : List Listed) : Type 0 where
  pub inside : (j : ℕ) → j < length listed → get_or (places_in listed) j 0 < length pages
  pub holds : (j : ℕ) → j < length listed → get_or pages (get_or (places_in listed) j 0) 0 ≡ get_or (pages_in listed) j 0
  pub ascend : strict true (places_in listed) ≡ true

abbrev pub PlacesHold : Type 0
PlacesHold = (buffers : Buffers) (vtl : GuestVtl) (share : Bool) (list : List ℕ) → Placed (pages_of list) (requested_of buffers vtl share list).listed

-- The overlay entries of the target VTL after a default change (01, "Defaults"): those of private RAM pages have the new previous permissions,
-- and all else is kept.
use Rattle.std.specs.Prelude.{cond, List, [], ◌∷◌, ℕ, zero, suc, ◌+◌, get_or}
use Rattle.abi.specs.Overlay as overlay
use Rattle.layout.specs.declared.MemoryRangeWithNode.{MemoryRangeWithNode}
use Rattle.overlay_table.specs.declared.OverlayPage.{OverlayPage}
use Rattle.overlay_table.specs.Overlays.{with_previous, used, previous_words}
use Rattle.default_change.specs.Pieces.{private_ram}

-- ---- entries

unfoldable pub renewed_entries : List ℕ → List MemoryRangeWithNode → ℕ → List OverlayPage → List OverlayPage
renewed_entries private es bits [] = []
renewed_entries private es bits (e ∷ os) = cond (private_ram private es e.gpn) (with_previous bits e) e ∷ renewed_entries private es bits os

-- ---- any words: the entry at place o
abbrev pub renewed_at : List ℕ → List MemoryRangeWithNode → ℕ → List ℕ → ℕ → List ℕ
renewed_at private es bits t o = cond (private_ram private es (get_or t o 0)) (previous_words t o bits) t

-- k entries from place o on
unfoldable pub renewed_from : List ℕ → List MemoryRangeWithNode → ℕ → List ℕ → ℕ → ℕ → List ℕ
renewed_from private es bits t zero o = t
renewed_from private es bits t (suc k) o = renewed_from private es bits (renewed_at private es bits t o) k (o + overlay.words)

abbrev pub renewed : List ℕ → List MemoryRangeWithNode → ℕ → List ℕ → List ℕ
renewed private es bits t = renewed_from private es bits t (used t) 1

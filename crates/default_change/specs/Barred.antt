-- Whether a locked page bars a default change (01, "Defaults", and refusal 10): looked up from the locked pages.
use Rattle.std.specs.Prelude.{Bool, false, ◌&&◌, ◌||◌, List, [], ◌∷◌, ℕ}
use Rattle.layout.specs.declared.MemoryRangeWithNode.{MemoryRangeWithNode}
use Rattle.lock_table.specs.Locks.{locked_pages}
use Rattle.default_change.specs.Pieces.{private_ram, free}

-- a private RAM page without an overlay: locked where a list holds it
abbrev pub barring : List ℕ → List ℕ → List MemoryRangeWithNode → ℕ → Bool
barring private overlays es p = private_ram private es p && free overlays p

-- whether P holds of a page of a list
unfoldable pub any_of : (ℕ → Bool) → List ℕ → Bool
any_of P [] = false
any_of P (p ∷ ps) = P p || any_of P ps

abbrev pub barred : List ℕ → List ℕ → List ℕ → List MemoryRangeWithNode → Bool
barred private overlays locks es = any_of (barring private overlays es) (locked_pages locks)

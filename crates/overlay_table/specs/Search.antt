-- The first of a list of overlay entries that a key is of, and the entries that are loaded from a table's words.
-- What tells entries apart is said in `is_of` and `key_at` alone.
-- Assumes nothing.
use Rattle.std.specs.Prelude.{ℕ, zero, suc, ◌+◌, ◌*◌, List, [], ◌∷◌, Bool, cond, Option, Some, None, eqb, ltb, get_or}
use Rattle.abi.specs.Overlay as overlay
use Rattle.overlay_table.specs.declared.OverlayKey.{OverlayKey}

-- whether an entry is the one that is looked for
abbrev pub is_of : OverlayKey → OverlayKey → Bool
is_of entry key = eqb key.gpn entry.gpn

-- the search in what is left of the list, whose first element stands at i
unfoldable pub find_from : List OverlayKey → OverlayKey → ℕ → Option ℕ
find_from [] key i = None
find_from (e ∷ es) key i = cond (is_of e key) (Some i) (find_from es key (i + 1))

-- the key of a page
abbrev pub key_of : ℕ → OverlayKey
key_of page = record { gpn = page }

-- that of an entry that stands past the end
abbrev pub none : OverlayKey
none = key_of 0

-- ---- entries loaded from words

-- the key of the entry at a place
abbrev pub key_at : List ℕ → ℕ → OverlayKey
key_at t o = key_of (get_or t o 0)

-- k entries from place o on
unfoldable pub keys_from : List ℕ → ℕ → ℕ → List OverlayKey
keys_from t zero o = []
keys_from t (suc k) o = key_at t o ∷ keys_from t k (o + overlay.words)

-- one of the few that are loaded
abbrev pub key_in : List ℕ → ℕ → ℕ → ℕ → OverlayKey
key_in t o few i = cond (ltb i few) (key_at t (o + overlay.words * i)) none

abbrev pub loaded : List ℕ → ℕ → ℕ → List OverlayKey
loaded t o few = key_in t o few 0 ∷ key_in t o few 1 ∷ key_in t o few 2 ∷ key_in t o few 3 ∷ []

-- of k entries from place o on, where the first of a key stands: 0 where none does
unfoldable pub place_for : List ℕ → ℕ → ℕ → OverlayKey → ℕ
place_for t zero o key = 0
place_for t (suc k) o key = cond (is_of (key_at t o) key) o (place_for t k (o + overlay.words) key)

-- The overlay entries of one VTL (01, "Overlays and locks"), in a run of 641 words.
use Rattle.std.specs.Prelude.{Bool, false, cond, not, ◌||◌, List, [], ◌∷◌, ◌++◌, Option, MatchOption, ℕ, zero, suc, ◌+◌, ◌-◌, ◌*◌, ◌<◌, ◌≡◌, min, eqb, ltb, length, get_or, set}
use Rattle.std.proofs.lemmas.List.Edits.{sets}
use Rattle.abi.specs.Limits as limit
use Rattle.abi.specs.Overlay as overlay
use Rattle.abi.specs.Refusals as refusal
use Rattle.abi.specs.Lengths.{overlays_len}
use Rattle.words.specs.Words.{padded, closed_to}
use Rattle.overlay_table.specs.declared.OverlayPage.{OverlayPage}

-- ---- entries, in order of registration

unfoldable pub knows : List OverlayPage → ℕ → Bool
knows [] gpn = false
knows (e ∷ es) gpn = eqb gpn e.gpn || knows es gpn

abbrev pub entry : ℕ → ℕ → ℕ → ℕ → ℕ → OverlayPage
entry gpn previous own n source = record { gpn = gpn; previous_permissions = previous; overlay_permissions = own; ref_count = n; gpn_source = source }

-- the first entry of a page: zeros where there is none
unfoldable pub entry_of : List OverlayPage → ℕ → OverlayPage
entry_of [] gpn = entry 0 0 0 0 0
entry_of (e ∷ es) gpn = cond (eqb gpn e.gpn) e (entry_of es gpn)

-- it is changed, or gone
unfoldable pub changed : (OverlayPage → OverlayPage) → List OverlayPage → ℕ → List OverlayPage
changed f [] gpn = []
changed f (e ∷ es) gpn = cond (eqb gpn e.gpn) (f e ∷ es) (e ∷ changed f es gpn)

unfoldable pub drop_first : List OverlayPage → ℕ → List OverlayPage
drop_first [] gpn = []
drop_first (e ∷ es) gpn = cond (eqb gpn e.gpn) es (e ∷ drop_first es gpn)

abbrev pub with_previous : ℕ → OverlayPage → OverlayPage
with_previous v e = entry e.gpn v e.overlay_permissions e.ref_count e.gpn_source

abbrev pub with_count : ℕ → OverlayPage → OverlayPage
with_count n e = entry e.gpn e.previous_permissions e.overlay_permissions n e.gpn_source

-- ---- their words: how many, then five for each

abbrev pub words_of : OverlayPage → List ℕ
words_of e = e.gpn ∷ e.previous_permissions ∷ e.overlay_permissions ∷ e.ref_count ∷ e.gpn_source ∷ []

unfoldable pub flat : List OverlayPage → List ℕ
flat [] = []
flat (e ∷ es) = words_of e ++ flat es

unfoldable pub table_of : List OverlayPage → List ℕ
table_of es = padded overlays_len (length es ∷ flat es)

-- ---- any words: at most 128 entries are read

abbrev pub used : List ℕ → ℕ
used t = min limit.overlays (get_or t 0 0)

-- of k entries from place o on, where the first of a page stands: 0 where none does
unfoldable pub place_from : List ℕ → ℕ → ℕ → ℕ → ℕ
place_from table zero place gpn = 0
place_from table (suc k) place gpn = cond (eqb gpn (get_or table place 0)) place (place_from table k (place + overlay.words) gpn)

abbrev pub place_of : List ℕ → ℕ → ℕ
place_of table gpn = place_from table (used table) 1 gpn

-- that place, or none, as a search gives it
abbrev pub IsPlace : List ℕ → ℕ → Option ℕ → Type 0
IsPlace table gpn place = MatchOption place (place_of table gpn ≡ 0) (λ at. (at ≡ place_of table gpn) × (0 < at))

abbrev pub is_overlay : List ℕ → ℕ → Bool
is_overlay table gpn = not (eqb (place_of table gpn) 0)

abbrev pub entry_at : List ℕ → ℕ → OverlayPage
entry_at table place = entry (get_or table place 0) (get_or table (place + overlay.previous) 0) (get_or table (place + overlay.own) 0) (get_or table (place + overlay.count) 0) (get_or table (place + overlay.source) 0)

-- 17 where 128 are there
abbrev pub add_code : List ℕ → ℕ
add_code table = cond (ltb (used table) limit.overlays) 0 refusal.full

abbrev pub add_words : List ℕ → OverlayPage → List ℕ
add_words table e = cond (ltb (used table) limit.overlays) (set (sets table (1 + overlay.words * used table) (words_of e)) 0 (used table + 1)) table

abbrev pub previous_words : List ℕ → ℕ → ℕ → List ℕ
previous_words table place v = set table (place + overlay.previous) v

abbrev pub count_words : List ℕ → ℕ → ℕ → List ℕ
count_words table place n = set table (place + overlay.count) n

-- the entries after it close the gap
abbrev pub remove_words : List ℕ → ℕ → List ℕ
remove_words table place = set (closed_to table place overlay.words (1 + overlay.words * used table)) 0 (used table - 1)

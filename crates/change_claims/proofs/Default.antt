-- A default change through its calls is the whole call. Assumes nothing.
use native.Mathlib.Omega.{arith}
use mathlib.Core.Path.{◌≡◌, refl, sym, ap, fun_ext, ◌∙◌, subst}
use mathlib.Core.Bool.{Bool, true, false}
use mathlib.Core.List.{List, [], ◌∷◌}
use Prim.Native.Nat.{ℕ, zero, suc, ◌+◌, ◌^◌, ◌≤◌, ◌<◌}
use lib.ListN.{length, drop, set, length-set}
use lib.Seq.{get_or-set_other}
use borrow.Author.Tests.{eq-eqb}
use Rattle.call_refusals.proofs.Laws.{is_ready, fits_tables}
use Rattle.layout.specs.declared.MemoryRangeWithNode.{MemoryRangeWithNode}
use Rattle.layout.specs.Layout.{ordered}
use Rattle.layout.proofs.Laws.{ordered_cons}
use Rattle.permissions.specs.declared.GuestVtl.{GuestVtl}
use Rattle.permissions.specs.declared.GuestVtl.TheVariants.{Vtl0, Vtl1}
use Rattle.permissions.specs.Flags.{vtl_of, vtl_number, flags_of}
use Rattle.page_list.specs.declared.PageRun.{PageRun}
use Rattle.overlay_table.specs.Overlays.{used, is_overlay}
use Rattle.default_change.specs.Pieces.{wanted, next_piece}
use Rattle.default_change.specs.Visit.{pieces}
use Rattle.default_change.specs.Renewed.{renewed}
use Rattle.default_change.proofs.Table.{overlay_renewed}
use Rattle.visibility_steps.specs.declared.Settings.{Settings}
use Rattle.change_steps.specs.Changes as changes
use Rattle.protector_state.specs.State.{state_len, settings_of, entries_in}
use Rattle.call_refusals.specs.Buffers.{Buffers, tables_len, overlays_of, fits}
use Rattle.protection_entries.specs.Calls.{default_refusal, stored, barred, renewed_in, default_started, default_taken, default_of}
use Rattle.protection_entries.proofs.Tables.{renewed_own}
use Rattle.visibility_claims.specs.Whole.{BackendAnswer}
use Rattle.visibility_claims.specs.Runs.{after, whole}
use Rattle.visibility_claims.specs.Calls.{follow}
use Rattle.visibility_claims.specs.Ends.{page_end}
use Rattle.change_claims.specs.Whole.{Change, ram_runs, whole_runs, whole_ram}
use Rattle.change_claims.specs.Calls.{tracked_in, renewed_for, overlay_in, default_whole, Agrees}
use Rattle.change_claims.specs.Claims.{WholeCalls}
use Rattle.change_claims.proofs.Steps as at
use Rattle.change_claims.proofs.Changes as laws
use Rattle.change_claims.proofs.Ram.{pieces_runs}
use Rattle.change_claims.proofs.Tables.{with_long, renewed_long}
use Rattle.change_claims.proofs.Counts.{few_asked, few_pieces, as_whole}
use Rattle.change_claims.proofs.Calls.{entries_kept, fits_kept, tail_long, from_call, protection_is_whole, register_is_whole, unregister_is_whole}

-- ---- the default stored: layout and lengths stand

drop_past : (s : List ℕ) (i k x : ℕ) → k < i → drop i (set s k x) ≡ drop i s
drop_past s zero k x h = absurd (omega arith)
drop_past [] (suc i) k x h = refl
drop_past (a ∷ s) (suc i) zero x h = refl
drop_past (a ∷ s) (suc i) (suc k) x h = drop_past s i k x (omega arith)

stored_fits : (w : Buffers) (v : GuestVtl) (flags : ℕ) → fits (stored w v flags) ≡ fits w
stored_fits w Vtl0 flags = rw (get_or-set_other w.state 20 17 flags 0 (λ e. omega arith), get_or-set_other w.state 20 31 flags 0 (λ e. omega arith), drop_past w.state 32 20 flags (omega arith))
stored_fits w Vtl1 flags = rw (get_or-set_other w.state 21 17 flags 0 (λ e. omega arith), get_or-set_other w.state 21 31 flags 0 (λ e. omega arith), drop_past w.state 32 21 flags (omega arith))

pub entries_stored : (w : Buffers) (v : GuestVtl) (flags : ℕ) → entries_in (stored w v flags).state ≡ entries_in w.state
entries_stored w Vtl0 flags = rw (get_or-set_other w.state 20 31 flags 0 (λ e. omega arith), drop_past w.state 32 20 flags (omega arith))
entries_stored w Vtl1 flags = rw (get_or-set_other w.state 21 31 flags 0 (λ e. omega arith), drop_past w.state 32 21 flags (omega arith))

pub tracked_stored : (w : Buffers) (v : GuestVtl) (flags : ℕ) → tracked_in (stored w v flags) ≡ tracked_in w
tracked_stored w Vtl0 flags = rw (get_or-set_other w.state 20 17 flags 0 (λ e. omega arith))
tracked_stored w Vtl1 flags = rw (get_or-set_other w.state 21 17 flags 0 (λ e. omega arith))

pub default_passed : (w : Buffers) (vtl flags : ℕ) → default_refusal w.state (fits w) vtl flags ≡ 0 → (length w.state ≡ state_len) × (fits w ≡ true)
unfolding default_refusal
default_passed w vtl flags z = let a = is_ready w.state (fits w) _ z in (a.long, a.fits)

-- ---- RAM ends by page 2^52 in a layout in order

ordered_end : (es : List MemoryRangeWithNode) (from : ℕ) → ordered from es ≡ true → page_end es ≤ 2 ^ 52
unfolding page_end
ordered_end [] from h = omega arith
ordered_end (e ∷ es) from h = let a = ordered_cons from e es h in omega (arith, a.0.low, ordered_end es e.end a.1)

-- ---- renewing changes previous permissions, not which pages are overlays

pub renewed_overlays : (w : Buffers) (v : GuestVtl) (flags : ℕ) → length w.tables ≡ tables_len → (p : ℕ) → overlay_in (renewed_for w v flags) v p ≡ overlay_in w.tables v p
renewed_overlays w v flags long p =
    ap (λ (o : List ℕ). is_overlay o p) (renewed_own w.maps.private w.state w.tables flags long v)
    ∙ overlay_renewed w.maps.private (entries_in w.state) flags (overlays_of w.tables v) p

-- ---- a change that starts

module _ (w : Buffers) (v : GuestVtl) (flags : ℕ) (long : length w.state ≡ 128) (fit : fits w ≡ true) (o : ordered 0 (entries_in w.state) ≡ true) (gs : List BackendAnswer) where
  abbrev tail : List ℕ
  tail = drop 14 w.state

  abbrev T : List ℕ
  T = renewed_for w v flags

  abbrev es : List MemoryRangeWithNode
  es = entries_in w.state

  renewed_fits : length T ≡ tables_len
  renewed_fits = with_long w.tables (fits_tables w fit) v (renewed w.maps.private es flags (overlays_of w.tables v)) (renewed_long w.maps.private es flags (used (overlays_of w.tables v)) (overlays_of w.tables v) 1)

  -- the pieces that are asked for, with the overlays as renewed
  abbrev asked : List PageRun
  asked = pieces (page_end es) w.maps.private (overlays_of T v) es

  pieces_whole : asked ≡ ram_runs es (overlay_in w.tables v) w.maps
  pieces_whole = pieces_runs es o (overlays_of T v) w.maps ∙ ap (λ (P : ℕ → Bool). ram_runs es P w.maps) (fun_ext (renewed_overlays w v flags (fits_tables w fit)))

  default_started_lem : Agrees tail w.pages (settings_of w.state).isolation (after 0 (default_whole w v flags gs).whole) (default_whole w v flags gs).tables (follow (default_started (renewed_in w v flags) v flags) gs)
  unfolding default_started whole_runs
  default_started_lem =
      let w' : Buffers = renewed_in w v flags in
      let s : Settings = at.settings tail w.pages in
      from_call w' w.pages T (λ s. changes.start_ram s.tracked v flags (next_piece w.maps.private (overlays_of T v) es 0))
      (λ s. whole_ram s.tracked v (flags_of flags) es (overlay_in w.tables v) w.maps gs) gs
      (subst (λ (rs : List PageRun). at.Same tail w.pages 0 (whole_runs s.tracked v (flags_of flags) rs w.maps gs) T
      (follow (at.left tail w.pages w.maps T (changes.start_ram s.tracked v flags (next_piece w.maps.private (overlays_of T v) es 0))) gs)) pieces_whole
      (subst (λ (es : List MemoryRangeWithNode). at.Same tail w.pages 0 (whole_runs s.tracked v (flags_of flags) (pieces (page_end es) w.maps.private (overlays_of T v) es) w.maps gs) T
      (follow (at.left tail w.pages w.maps T (changes.start_ram s.tracked v flags (next_piece w.maps.private (overlays_of T v) es 0))) gs)) (entries_kept w.state w.pages)
      (laws.ram_law tail w.pages (tail_long w.state long) v flags 0 (omega arith) T w.maps.private (page_end (at.entries tail w.pages)) 0 0 0 0 w.maps refl
      (fits_kept w w.pages T refl (renewed_fits ∙ sym (fits_tables w fit)) ∙ fit) refl (omega arith) gs)))

  -- no more of them than pages
  few_runs : length (ram_runs es (overlay_in w.tables v) w.maps) ≤ page_end es
  few_runs = subst (λ (rs : List PageRun). length rs ≤ page_end es) pieces_whole (few_pieces (wanted w.maps.private (overlays_of T v)) es (page_end es) 0)

module _ (w : Buffers) (vtl flags : ℕ) (gs : List BackendAnswer) where
  -- the default is stored first
  abbrev w₁ : Buffers
  w₁ = stored w (vtl_of vtl) flags

  abbrev changing : Change
  changing = default_whole w₁ (vtl_of vtl) flags gs

  module _ (z : default_refusal w.state (fits w) vtl flags ≡ 0) (free : barred w.maps.private w₁.state w.tables (vtl_of vtl) ≡ false) (o : ordered 0 (entries_in w.state) ≡ true) where
    long₁ : length w₁.state ≡ 128
    long₁ = length-set w.state (20 + vtl_number (vtl_of vtl)) flags ∙ (default_passed w vtl flags z).0

    fit₁ : fits w₁ ≡ true
    fit₁ = stored_fits w (vtl_of vtl) flags ∙ (default_passed w vtl flags z).1

    in_order : ordered 0 (entries_in w₁.state) ≡ true
    in_order = ap (ordered 0) (entries_stored w (vtl_of vtl) flags) ∙ o

    -- THE CLAIM: a default change that is taken, and its answers in turn
    pub default_is_whole : Agrees (drop 14 w₁.state) w.pages (settings_of w₁.state).isolation (whole changing.whole) changing.tables (follow (default_of w vtl flags) gs)
    unfolding default_of default_taken
    default_is_whole =
        let v : GuestVtl = vtl_of vtl in
        let es : List MemoryRangeWithNode = entries_in w₁.state in
        rw (eq-eqb (default_refusal w.state (fits w) vtl flags) 0 z, free)
        (as_whole (drop 14 w₁.state) w.pages (settings_of w₁.state).isolation changing.whole changing.tables (follow (default_started (renewed_in w₁ v flags) v flags) gs)
        (omega (
          arith,
          ordered_end es 0 in_order,
          few_asked (tracked_in w₁) v (flags_of flags) (ram_runs es (overlay_in w.tables v) w.maps) w.maps gs,
          few_runs w₁ v flags long₁ fit₁ in_order gs,
        )) (default_started_lem w₁ v flags long₁ fit₁ in_order gs))

-- THE CLAIMS: each call that is taken is its whole call
pub whole_calls : WholeCalls
whole_calls =
    record {
      protection = λ w vtl flags l gs z. protection_is_whole w vtl flags l z gs;
      default = λ w vtl flags gs z o. default_is_whole w vtl flags gs z.0 z.1 o;
      register = λ w vtl p source checked new gs z. register_is_whole w vtl p source checked new z gs;
      unregister = λ w vtl p gs z. unregister_is_whole w vtl p z gs;
    }

-- Past the maps: above the last page of a fit layout, where no page is RAM and none is set. Assumes nothing.
use mathlib.Core.Bool.{Bool, true, false}
use mathlib.Core.List.{List}
use mathlib.Core.Path.{◌≡◌, refl}
use Prim.Native.Nat.{ℕ, ◌-◌, ◌/◌, ◌≤◌}
use native.Mathlib.Omega.{arith}
use borrow.Author.Tests.{ltb-true, ltb-false, lt-ltb, eqb-true}
use lib.Dec.{eqb, ltb}
use lib.ListN.{length}
use Rattle.abi.specs.Lengths.{page_size}
use Rattle.laws.specs.Bools.{same, and_left, and_right, both_true}
use Rattle.bitmap.specs.Pages.{bit_at}
use Rattle.bitmap.proofs.Map.{page_past}
use Rattle.layout.specs.declared.MemoryRangeWithNode.{MemoryRangeWithNode}
use Rattle.layout.specs.Layout.{entries_of, is_ram, last_end, map_len}
use Rattle.layout.proofs.Laws.{Fit, entry_on_bytes, page_in_map}
use Rattle.permissions.specs.Flags.{no_flags}
use Rattle.mapping.specs.Maps.{Maps, maps_fit, marks_fit, permission_len, lengths_of, in_maps, flags_at}

module _ (ws : List ℕ) (p : ℕ) (fit : Fit ws) where
  pub maps_end : in_maps (entries_of ws) p ≡ ltb p (last_end (entries_of ws) / page_size)
  maps_end =
      let es = entries_of ws in
      let on = (entry_on_bytes es (length es - 1) fit.on_edges (omega (arith, fit.some))).1 in
      same (in_maps es p) (ltb p (last_end es / page_size))
      (λ e. lt-ltb p (last_end es / page_size) (omega (arith, ltb-true (p / 8) (map_len es) e, on)))
      (λ e. lt-ltb (p / 8) (map_len es) (omega (arith, ltb-true p (last_end es / page_size) e, on)))

  pub past_not_ram : in_maps (entries_of ws) p ≡ false → is_ram (entries_of ws) p ≡ false
  past_not_ram past = go (is_ram (entries_of ws) p) refl
    where
      go : (b : Bool) → is_ram (entries_of ws) p ≡ b → b ≡ false
      go true e = absurd (omega (arith, page_in_map ws p fit e, ltb-false (p / 8) (map_len (entries_of ws)) past))
      go false e = refl

module _ (es : List MemoryRangeWithNode) (m : Maps) (tracked : Bool) (p : ℕ) (fits : maps_fit (map_len es) tracked (lengths_of m) ≡ true) (past : in_maps es p ≡ false) where
  marks_fit_lem : marks_fit (map_len es) (lengths_of m) ≡ true
  marks_fit_lem = and_left (marks_fit (map_len es) (lengths_of m)) _ fits

  not_set : (map : List ℕ) (n : ℕ) → length map ≡ n → n ≤ map_len es → bit_at 8 map p ≡ false
  not_set map n e h = page_past 8 map p (omega (arith, e, h, ltb-false (p / 8) (map_len es) past))

  short : (b : Bool) → permission_len (map_len es) b ≤ map_len es
  short true = omega arith
  short false = omega arith

  pub past_not_private : bit_at 8 m.private p ≡ false
  past_not_private = not_set m.private _ (eqb-true _ _ (and_left (eqb (length m.private) (map_len es)) _ marks_fit_lem)) (omega arith)

  pub past_not_shared : bit_at 8 m.shared p ≡ false
  past_not_shared = not_set m.shared _ (eqb-true _ _ (and_right (eqb (length m.private) (map_len es)) _ marks_fit_lem)) (omega arith)

  pub past_no_flags : flags_at m.permissions p ≡ no_flags
  past_no_flags =
      let a = both_true _ _ (and_right (marks_fit (map_len es) (lengths_of m)) _ fits) in
      let b = both_true _ _ a.1 in
      let c = both_true _ _ b.1 in
      rw (
        not_set m.permissions.read _ (eqb-true _ _ a.0) (short tracked),
        not_set m.permissions.write _ (eqb-true _ _ b.0) (short tracked),
        not_set m.permissions.kernel _ (eqb-true _ _ c.0) (short tracked),
        not_set m.permissions.user _ (eqb-true _ _ c.1) (short tracked),
      )

-- What the renewal is: on the table of entries that fit, the table of the renewed entries; on any words, every page keeps its entry, so that the
-- pieces are the same before and after. Assumes nothing.
use mathlib.Core.Bool.{Bool, true, false, cond, not, ◌&&◌}
use mathlib.Core.List.{List, [], ◌∷◌, ◌++◌, append_assoc}
use mathlib.Core.Path.{◌≡◌, refl, sym, ap, ap₂, fun_ext, ◌∙◌}
use Prim.Native.Nat.{ℕ, zero, suc, ◌+◌, ◌*◌, ◌≤◌, min}
use native.Mathlib.Omega.{arith}
use lib.Dec.{eqb}
use lib.ListN.{length, get_or, length-append}
use lib.Seq.{get_or-set_other}
use Rattle.bitmap.specs.Pages.{bit_at}
use Rattle.layout.specs.declared.MemoryRangeWithNode.{MemoryRangeWithNode}
use Rattle.overlay_table.specs.declared.OverlayPage.{OverlayPage}
use Rattle.overlay_table.specs.Overlays.{with_previous, table_of, used, place_from, is_overlay, previous_words}
use Rattle.overlay_table.proofs.Lists.{table_used, entry_here, previous_here}
use Rattle.default_change.specs.Pieces.{private_ram, next_piece, next_of}
use Rattle.default_change.specs.Renewed.{renewed_entries, renewed_at, renewed_from, renewed}

module _ (m : List ℕ) (es : List MemoryRangeWithNode) (bits : ℕ) where
  abbrev one : OverlayPage → OverlayPage
  one e = cond (private_ram m es e.gpn) (with_previous bits e) e

  at_entry : (pre : List OverlayPage) (e : OverlayPage) (post : List OverlayPage) → length (pre ++ (e ∷ post)) ≤ 128
      → renewed_at m es bits (table_of (pre ++ (e ∷ post))) (1 + 5 * length pre) ≡ table_of (pre ++ (one e ∷ post))
  at_entry pre e post fits =
      let t : List ℕ = table_of (pre ++ (e ∷ post)) in
      let o : ℕ = 1 + 5 * length pre in
      let p : get_or t o 0 ≡ e.gpn = ap (λ (x : OverlayPage). x.gpn) (entry_here pre e post fits) in
      ap (λ (q : ℕ). cond (private_ram m es q) (previous_words t o bits) t) p ∙ go (private_ram m es e.gpn)
    where
      go : (b : Bool) → cond b (previous_words (table_of (pre ++ (e ∷ post))) (1 + 5 * length pre) bits) (table_of (pre ++ (e ∷ post))) ≡ table_of (pre ++ (cond b (with_previous bits e) e ∷ post))
      go true = previous_here pre e post fits bits
      go false = refl

  from_entry : (pre post : List OverlayPage) → length (pre ++ post) ≤ 128
      → renewed_from m es bits (table_of (pre ++ post)) (length post) (1 + 5 * length pre) ≡ table_of (pre ++ renewed_entries m es bits post)
  unfolding renewed_from renewed_entries
  from_entry pre [] fits = refl
  from_entry pre (e ∷ post) fits =
      let mid : List OverlayPage = one e ∷ [] in
      let o : 1 + 5 * length pre + 5 ≡ 1 + 5 * length (pre ++ mid) = omega (arith, length-append pre mid) in
      let room : length ((pre ++ mid) ++ post) ≤ 128 = omega (arith, fits, length-append pre (e ∷ post), length-append (pre ++ mid) post, length-append pre mid) in
      ap₂ (λ (t : List ℕ) (k : ℕ). renewed_from m es bits t (length post) k) (at_entry pre e post fits ∙ ap table_of (sym (append_assoc pre mid post))) o
      ∙ from_entry (pre ++ mid) post room ∙ ap table_of (append_assoc pre mid (renewed_entries m es bits post))

  pub table_renewed : (os : List OverlayPage) → length os ≤ 128 → renewed m es bits (table_of os) ≡ table_of (renewed_entries m es bits os)
  table_renewed os fits = ap (λ (k : ℕ). renewed_from m es bits (table_of os) k 1) (table_used os fits) ∙ from_entry [] os fits

  -- ---- any words

  kept_at : (t : List ℕ) (o j : ℕ) → (o + 1 ≡ j → ⊥) → get_or (renewed_at m es bits t o) j 0 ≡ get_or t j 0
  kept_at t o j h = go (private_ram m es (get_or t o 0))
    where
      go : (b : Bool) → get_or (cond b (previous_words t o bits) t) j 0 ≡ get_or t j 0
      go true = get_or-set_other t (o + 1) j bits 0 (λ e. h (sym e))
      go false = refl

  -- a word in whose place no previous permissions stand
  kept_from : (k i : ℕ) (t : List ℕ) (j : ℕ) → ((x : ℕ) → 1 + 5 * x + 1 ≡ j → ⊥) → get_or (renewed_from m es bits t k (1 + 5 * i)) j 0 ≡ get_or t j 0
  unfolding renewed_from
  kept_from zero i t j h = refl
  kept_from (suc k) i t j h =
      let o : 1 + 5 * i + 5 ≡ 1 + 5 * suc i = omega arith in
      ap (λ (n : ℕ). get_or (renewed_from m es bits (renewed_at m es bits t (1 + 5 * i)) k n) j 0) o
      ∙ kept_from k (suc i) (renewed_at m es bits t (1 + 5 * i)) j h ∙ kept_at t (1 + 5 * i) j (h i)

  pub used_kept : (t : List ℕ) → used (renewed m es bits t) ≡ used t
  used_kept t = ap (λ (n : ℕ). min 128 n) (kept_from (used t) 0 t 0 (λ x e. omega (arith, e)))

  pub page_kept : (t : List ℕ) (x : ℕ) → get_or (renewed m es bits t) (1 + 5 * x) 0 ≡ get_or t (1 + 5 * x) 0
  page_kept t x = kept_from (used t) 0 t (1 + 5 * x) (λ y e. omega (arith, e))

place_same : (t u : List ℕ) (p : ℕ) → ((x : ℕ) → get_or u (1 + 5 * x) 0 ≡ get_or t (1 + 5 * x) 0) → (k i : ℕ) → place_from u k (1 + 5 * i) p ≡ place_from t k (1 + 5 * i) p
unfolding place_from
place_same t u p h zero i = refl
place_same t u p h (suc k) i =
    let o : 1 + 5 * i + 5 ≡ 1 + 5 * suc i = omega arith in
    let next : place_from u k (1 + 5 * i + 5) p ≡ place_from t k (1 + 5 * i + 5) p = ap (λ (n : ℕ). place_from u k n p) o ∙ place_same t u p h k (suc i) ∙ sym (ap (λ (n : ℕ). place_from t k n p) o) in
    ap₂ (λ (q n : ℕ). cond (eqb p q) (1 + 5 * i) n) (h i) next

module _ (m : List ℕ) (es : List MemoryRangeWithNode) (bits : ℕ) (t : List ℕ) where
  pub overlay_renewed : (p : ℕ) → is_overlay (renewed m es bits t) p ≡ is_overlay t p
  overlay_renewed p =
      ap (λ (n : ℕ). not (eqb n 0))
      (ap (λ (k : ℕ). place_from (renewed m es bits t) k 1 p) (used_kept m es bits t) ∙ place_same t (renewed m es bits t) p (page_kept m es bits t) (used t) 0)

  pub piece_renewed : (private : List ℕ) (at : ℕ) → next_piece private (renewed m es bits t) es at ≡ next_piece private t es at
  piece_renewed private at = ap (λ (P : ℕ → Bool). next_of P es at) (fun_ext (λ p. ap (λ (b : Bool). bit_at 8 private p && not b) (overlay_renewed p)))

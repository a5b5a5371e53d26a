-- Overlay entries stay entries that fit, in words that are their table: one more, a count changed, one less, previous permissions renewed. Assumes nothing.
use native.Mathlib.Omega.{arith}
use mathlib.Core.Path.{◌≡◌, refl, sym, ap, ap₂, ◌∙◌, subst}
use mathlib.Core.Bool.{Bool, true, false, cond, ◌||◌}
use mathlib.Core.List.{List, [], ◌∷◌, ◌++◌}
use Prim.Native.Nat.{ℕ, ◌≤◌, ◌<◌}
use lib.Dec.{eqb}
use lib.ListN.{length, length-append}
use borrow.Author.Tests.{eqb-true, eq-eqb, ne_eqb, lt-ltb}
use Rattle.laws.specs.Bools.{false≢true, or_false}
use Rattle.layout.specs.declared.MemoryRangeWithNode.{MemoryRangeWithNode}
use Rattle.overlay_table.specs.declared.OverlayPage.{OverlayPage}
use Rattle.overlay_table.specs.Overlays.{knows, entry_of, changed, drop_first, with_previous, with_count, table_of, used, place_of, is_overlay, entry_at, add_words, count_words, remove_words}
use Rattle.overlay_table.proofs.Lists.{first, changed_length, drop-length, table_length, table_used, table_overlay, table_entry, table_count, table_remove, table_add}
use Rattle.default_change.specs.Pieces.{private_ram}
use Rattle.default_change.specs.Renewed.{renewed_entries, renewed}
use Rattle.default_change.proofs.Table.{table_renewed}
use Rattle.protector.specs.Writes.{without_page}
use Rattle.history.specs.Tables.{EntryFits, EachFits, Overlays}

-- ---- which pages have an entry

knows_more : (os : List OverlayPage) (e : OverlayPage) (p : ℕ) → knows os p ≡ false → eqb p e.gpn ≡ false → knows (os ++ (e ∷ [])) p ≡ false
unfolding knows
knows_more [] e p k h = rw h refl
knows_more (x ∷ os) e p k h = let d = or_false (eqb p x.gpn) (knows os p) k in rw d.0 (knows_more os e p d.1 h)

knows_changed : (f : OverlayPage → OverlayPage) → ((e : OverlayPage) → (f e).gpn ≡ e.gpn) → (os : List OverlayPage) (q p : ℕ) → knows os p ≡ false → knows (changed f os q) p ≡ false
unfolding knows changed
knows_changed f s [] q p k = refl
knows_changed f s (e ∷ os) q p k = let d = or_false (eqb p e.gpn) (knows os p) k in go (eqb q e.gpn) d (knows_changed f s os q p d.1)
  where
    go : (b : Bool) → (eqb p e.gpn ≡ false) × (knows os p ≡ false) → knows (changed f os q) p ≡ false → knows (cond b (f e ∷ os) (e ∷ changed f os q)) p ≡ false
    go true d m = rw (s e, d.0) d.1
    go false d m = rw d.0 m

knows_drop : (os : List OverlayPage) (q p : ℕ) → knows os p ≡ false → knows (drop_first os q) p ≡ false
unfolding knows drop_first
knows_drop [] q p k = refl
knows_drop (e ∷ os) q p k = let d = or_false (eqb p e.gpn) (knows os p) k in go (eqb q e.gpn) d (knows_drop os q p d.1)
  where
    go : (b : Bool) → (eqb p e.gpn ≡ false) × (knows os p ≡ false) → knows (drop_first os q) p ≡ false → knows (cond b os (e ∷ drop_first os q)) p ≡ false
    go true d m = d.1
    go false d m = rw d.0 m

-- ---- entries that fit

module _ (es : List MemoryRangeWithNode) where
  fits_more : (os : List OverlayPage) (e : OverlayPage) → EachFits es os → EntryFits es e → knows os e.gpn ≡ false → EachFits es (os ++ (e ∷ []))
  unfolding EachFits knows
  fits_more [] e k h n = (h, refl, tt)
  fits_more (x ∷ os) e k h n =
      let d = or_false (eqb e.gpn x.gpn) (knows os e.gpn) n in
      (k.0, knows_more os e x.gpn k.1 (turned x.gpn e.gpn d.0), fits_more os e k.2 h d.1)
    where
      turned : (a b : ℕ) → eqb b a ≡ false → eqb a b ≡ false
      turned a b h = ne_eqb a b (λ q. false≢true (sym h ∙ eq-eqb b a (sym q)))

  fits_changed : (f : OverlayPage → OverlayPage) → ((e : OverlayPage) → (f e).gpn ≡ e.gpn) → ((e : OverlayPage) → EntryFits es e → EntryFits es (f e)) → (os : List OverlayPage) (p : ℕ)
      → EachFits es os → EachFits es (changed f os p)
  unfolding EachFits changed
  fits_changed f s g [] p k = tt
  fits_changed f s g (e ∷ os) p k = go (eqb p e.gpn) (fits_changed f s g os p k.2)
    where
      go : (b : Bool) → EachFits es (changed f os p) → EachFits es (cond b (f e ∷ os) (e ∷ changed f os p))
      go true m = (g e k.0, ap (knows os) (s e) ∙ k.1, k.2)
      go false m = (k.0, knows_changed f s os p e.gpn k.1, m)

  fits_dropped : (os : List OverlayPage) (p : ℕ) → EachFits es os → EachFits es (drop_first os p)
  unfolding EachFits drop_first
  fits_dropped [] p k = tt
  fits_dropped (e ∷ os) p k = go (eqb p e.gpn) (fits_dropped os p k.2)
    where
      go : (b : Bool) → EachFits es (drop_first os p) → EachFits es (cond b os (e ∷ drop_first os p))
      go true m = k.2
      go false m = (k.0, knows_drop os p e.gpn k.1, m)

  -- the first entry of a page that has one fits
  fits_first : (os : List OverlayPage) (p : ℕ) → EachFits es os → knows os p ≡ true → EntryFits es (entry_of os p)
  unfolding EachFits knows entry_of
  fits_first [] p k h = false≢true h
  fits_first (e ∷ os) p k h = go (eqb p e.gpn) h (fits_first os p k.2)
    where
      go : (b : Bool) → (b || knows os p) ≡ true → (knows os p ≡ true → EntryFits es (entry_of os p)) → EntryFits es (cond b e (entry_of os p))
      go true h m = k.0
      go false h m = m h

  first_page_lem : (os : List OverlayPage) (p : ℕ) → knows os p ≡ true → (entry_of os p).gpn ≡ p
  unfolding knows entry_of
  first_page_lem [] p h = false≢true h
  first_page_lem (e ∷ os) p h = go (eqb p e.gpn) refl h (first_page_lem os p)
    where
      go : (b : Bool) → eqb p e.gpn ≡ b → (b || knows os p) ≡ true → (knows os p ≡ true → (entry_of os p).gpn ≡ p) → (cond b e (entry_of os p)).gpn ≡ p
      go true d h m = sym (eqb-true p e.gpn d)
      go false d h m = m h

  with_count_lem : (n : ℕ) → 1 ≤ n → n ≤ 65535 → (e : OverlayPage) → EntryFits es e → EntryFits es (with_count n e)
  with_count_lem n a b e k = record { counted = a; most = b; previous = k.previous; own = k.own; source = k.source; page = k.page }

  with_previous_lem : (bits : ℕ) → bits < 16 → (e : OverlayPage) → EntryFits es e → EntryFits es (with_previous bits e)
  with_previous_lem bits h e k = record { counted = k.counted; most = k.most; previous = h; own = k.own; source = k.source; page = k.page }

  module _ (m : List ℕ) (ram : List MemoryRangeWithNode) (bits : ℕ) (h : bits < 16) where
    abbrev one : OverlayPage → OverlayPage
    one e = cond (private_ram m ram e.gpn) (with_previous bits e) e

    one_page : (e : OverlayPage) → (one e).gpn ≡ e.gpn
    one_page e = go (private_ram m ram e.gpn)
      where
        go : (b : Bool) → (cond b (with_previous bits e) e).gpn ≡ e.gpn
        go true = refl
        go false = refl

    one_fits : (e : OverlayPage) → EntryFits es e → EntryFits es (one e)
    one_fits e k = go (private_ram m ram e.gpn)
      where
        go : (b : Bool) → EntryFits es (cond b (with_previous bits e) e)
        go true = with_previous_lem bits h e k
        go false = k

    knows_renewed : (os : List OverlayPage) (p : ℕ) → knows (renewed_entries m ram bits os) p ≡ knows os p
    unfolding knows renewed_entries
    knows_renewed [] p = refl
    knows_renewed (e ∷ os) p = ap₂ (λ (g : ℕ) (b : Bool). eqb p g || b) (one_page e) (knows_renewed os p)

    long_renewed : (os : List OverlayPage) → length (renewed_entries m ram bits os) ≡ length os
    unfolding renewed_entries
    long_renewed [] = refl
    long_renewed (e ∷ os) = omega (arith, long_renewed os)

    fits_renewed : (os : List OverlayPage) → EachFits es os → EachFits es (renewed_entries m ram bits os)
    unfolding EachFits renewed_entries
    fits_renewed [] k = tt
    fits_renewed (e ∷ os) k = (one_fits e k.0, knows_renewed os (one e).gpn ∙ ap (knows os) (one_page e) ∙ k.1, fits_renewed os k.2)

    pub overlays_renewed : (o : List ℕ) → Overlays es o → Overlays es (renewed m ram bits o)
    overlays_renewed o k =
        record {
          entries = renewed_entries m ram bits k.entries;
          few = omega (arith, long_renewed k.entries, k.few);
          fit = fits_renewed k.entries k.fit;
          words = ap (renewed m ram bits) k.words ∙ table_renewed m ram bits k.entries k.few;
        }

  -- ---- words that are the table of entries that fit

  module _ (o : List ℕ) (k : Overlays es o) where
    pub overlays_long : length o ≡ 641
    overlays_long = ap (length {A = ℕ}) k.words ∙ table_length k.entries k.few

    pub overlays_used : used o ≡ length k.entries
    overlays_used = ap used k.words ∙ table_used k.entries k.few

    pub overlays_know : (p : ℕ) → is_overlay o p ≡ knows k.entries p
    overlays_know p = ap (λ (t : List ℕ). is_overlay t p) k.words ∙ table_overlay k.entries k.few p

    module _ (p : ℕ) (h : is_overlay o p ≡ true) where
      known : knows k.entries p ≡ true
      known = sym (overlays_know p) ∙ h

      entry_is : entry_at o (place_of o p) ≡ entry_of k.entries p
      entry_is = ap (λ (t : List ℕ). entry_at t (place_of t p)) k.words ∙ table_entry k.entries k.few p (first k.entries p known)

      pub overlays_entry : EntryFits es (entry_at o (place_of o p))
      overlays_entry = subst (λ (e : OverlayPage). EntryFits es e) (sym entry_is) (fits_first k.entries p k.fit known)

      -- it is the page's own
      pub overlays_own : (entry_at o (place_of o p)).gpn ≡ p
      overlays_own = ap (λ (e : OverlayPage). e.gpn) entry_is ∙ first_page_lem k.entries p known

      pub overlays_counted : (n : ℕ) → 1 ≤ n → n ≤ 65535 → Overlays es (count_words o (place_of o p) n)
      overlays_counted n a b =
          record {
            entries = changed (with_count n) k.entries p;
            few = omega (arith, changed_length (with_count n) p k.entries, k.few);
            fit = fits_changed (with_count n) (λ e. refl) (with_count_lem n a b) k.entries p k.fit;
            words = ap (λ (t : List ℕ). count_words t (place_of t p) n) k.words ∙ table_count k.entries k.few p (first k.entries p known) n;
          }

      pub overlays_less : Overlays es (without_page o p)
      overlays_less =
          record {
            entries = drop_first k.entries p;
            few = omega (arith, drop-length k.entries p, k.few);
            fit = fits_dropped k.entries p k.fit;
            words = ap (λ (b : Bool). cond b (remove_words o (place_of o p)) o) h ∙ ap (λ (t : List ℕ). remove_words t (place_of t p)) k.words
                ∙ table_remove k.entries k.few p (first k.entries p known);
          }

    pub overlays_more : (e : OverlayPage) → EntryFits es e → is_overlay o e.gpn ≡ false → used o < 128 → Overlays es (add_words o e)
    overlays_more e h n r =
        let few : length k.entries < 128 = omega (arith, overlays_used, r) in
        record {
          entries = k.entries ++ (e ∷ []);
          few = omega (arith, length-append k.entries (e ∷ []), few);
          fit = fits_more k.entries e k.fit h (sym (overlays_know e.gpn) ∙ n);
          words = ap (λ (t : List ℕ). add_words t e) k.words ∙ table_add k.entries k.few e
              ∙ ap (λ (b : Bool). cond b (table_of (k.entries ++ (e ∷ []))) (table_of k.entries)) (lt-ltb (length k.entries) 128 few);
        }

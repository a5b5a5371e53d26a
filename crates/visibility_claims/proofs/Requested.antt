-- The pages that a visibility change is for, as document 01 has them, are those of the protector's own definitions. Assumes nothing.
use native.Mathlib.Omega.{arith}
use mathlib.Core.Path.{◌≡◌, refl, sym, ap, ap₂, ◌∙◌, subst}
use mathlib.Core.Bool.{Bool, true, false, cond, not, ◌&&◌}
use mathlib.Core.List.{List, [], ◌∷◌, ◌++◌, append_assoc}
use Prim.Native.Nat.{ℕ, zero, suc, ◌+◌, ◌<◌}
use lib.Dec.{ltb}
use lib.ListN.{length, get_or, take, length-append}
use lib.Seq.{get_or-append-add}
use borrow.Author.Tests.{ltb-true, lt-ltb}
use Rattle.laws.specs.Bools.{same, and_true}
use Rattle.laws.specs.Refusal.{unless, when, first}
use Rattle.bitmap.specs.Pages.{bit_at}
use Rattle.layout.specs.Layout.{is_ram}
use Rattle.permissions.specs.declared.GuestVtl.{GuestVtl}
use Rattle.permissions.specs.declared.GuestVtl.TheVariants.{Vtl0, Vtl1}
use Rattle.page_list.specs.Pages.{pages_of, steps_from, strict}
use Rattle.lock_table.specs.Locks.{held_in}
use Rattle.request_pages.specs.Request.{pick, pick_places, table_of, stop_at, is_readable_and_writable, wanted}
use Rattle.protector_state.specs.State.{settings_of, entries_in}
use Rattle.call_refusals.specs.Buffers.{Buffers, overlays_of, locks_of}
use Rattle.call_refusals.specs.Refusals.{page_refusal, first_refusal}
use Rattle.protector.specs.Calls.{checks_permissions, stop_of, asked_for, table_for}
use Rattle.visibility_claims.specs.Whole.{Ok, StoppedAt}
use Rattle.visibility_claims.specs.Requested.{is_overlay_page, denial, access_denied, is_so_marked, Listed, Requested, no_more, with_page, requested_from, requested_of, pages_in, places_in, stored_in, PlacesHold}

-- ---- the checks of all pages

-- the number of one page, by what it is
abbrev number : Bool → Bool → Bool → Bool → ℕ
number ram o h share = unless ram 7 (when (h && not o) 10 (when (share && o) 11 0))

pub same_denial : (w : Buffers) (v : GuestVtl) (share : Bool) (ps : List ℕ)
    → denial w v share ps ≡ first_refusal (page_refusal (entries_in w.state) (overlays_of w.tables v) (locks_of w.tables v) share) ps
unfolding denial first_refusal
same_denial w v share [] = refl
same_denial w v share (p ∷ ps) =
    go (is_ram (entries_in w.state) p) (is_overlay_page w v p) (held_in (locks_of w.tables v) p) share (denial w v share ps) _ (same_denial w v share ps)
  where
    go : (ram o h share : Bool) (d f : ℕ) → d ≡ f
        → cond (not ram) 7 (cond (cond o false h) 10 (cond (share && o) 11 d)) ≡ first (number ram o h share) f
    go false o h share d f e = refl
    go true true true true d f e = refl
    go true true true false d f e = e
    go true true false true d f e = refl
    go true true false false d f e = e
    go true false true share d f e = refl
    go true false false true d f e = e
    go true false false false d f e = e

-- ---- where the list stops, and which pages are asked for

ltb_suc : (a b : ℕ) → ltb (suc a) (suc b) ≡ ltb a b
ltb_suc a b = same (ltb (suc a) (suc b)) (ltb a b) (λ e. lt-ltb a b (omega (arith, ltb-true (suc a) (suc b) e))) (λ e. lt-ltb (suc a) (suc b) (omega (arith, ltb-true a b e)))

module _ (w : Buffers) (v : GuestVtl) (share : Bool) (O P : ℕ → Bool) (f : (p : ℕ) → O p ≡ not (access_denied w v share p)) (g : (p : ℕ) → P p ≡ not (is_so_marked w share p)) where
  pages_from_lem : (i : ℕ) (ps : List ℕ) → pages_in (requested_from w v share i ps).listed ≡ pick P (take (stop_at O ps) ps)
  unfolding requested_from pages_in pick stop_at
  pages_from_lem i [] = refl
  pages_from_lem i (p ∷ ps) = go (access_denied w v share p) (is_so_marked w share p) (f p) (g p) (requested_from w v share (suc i) ps) (pages_from_lem (suc i) ps)
    where
      go : (a b : Bool) → O p ≡ not a → P p ≡ not b → (x : Requested) → pages_in x.listed ≡ pick P (take (stop_at O ps) ps)
          → pages_in (cond a (no_more (StoppedAt i)) (cond b x (with_page p i x))).listed ≡ pick P (take (cond (O p) (suc (stop_at O ps)) 0) (p ∷ ps))
      go true b e d x h = rw e
      go false true e d x h = rw (e, d) h
      go false false e d x h = rw (e, d) (ap (λ (l : List ℕ). p ∷ l) h)

  places_from : (i : ℕ) (ps : List ℕ) → places_in (requested_from w v share i ps).listed ≡ pick_places P i (take (stop_at O ps) ps)
  unfolding requested_from places_in pick_places stop_at
  places_from i [] = refl
  places_from i (p ∷ ps) = go (access_denied w v share p) (is_so_marked w share p) (f p) (g p) (requested_from w v share (suc i) ps) (places_from (suc i) ps)
    where
      go : (a b : Bool) → O p ≡ not a → P p ≡ not b → (x : Requested) → places_in x.listed ≡ pick_places P (suc i) (take (stop_at O ps) ps)
          → places_in (cond a (no_more (StoppedAt i)) (cond b x (with_page p i x))).listed ≡ pick_places P i (take (cond (O p) (suc (stop_at O ps)) 0) (p ∷ ps))
      go true b e d x h = rw e
      go false true e d x h = rw (e, d) h
      go false false e d x h = rw (e, d) (ap (λ (l : List ℕ). i ∷ l) h)

  end_from_lem : (i : ℕ) (ps : List ℕ) → (requested_from w v share i ps).end ≡ cond (ltb (stop_at O ps) (length ps)) (StoppedAt (i + stop_at O ps)) Ok
  unfolding requested_from stop_at
  end_from_lem i [] = refl
  end_from_lem i (p ∷ ps) = go (access_denied w v share p) (is_so_marked w share p) (f p) (requested_from w v share (suc i) ps) (end_from_lem (suc i) ps)
    where
      go : (a b : Bool) → O p ≡ not a → (x : Requested) → x.end ≡ cond (ltb (stop_at O ps) (length ps)) (StoppedAt (suc i + stop_at O ps)) Ok
          → (cond a (no_more (StoppedAt i)) (cond b x (with_page p i x))).end
          ≡ cond (ltb (cond (O p) (suc (stop_at O ps)) 0) (suc (length ps))) (StoppedAt (i + cond (O p) (suc (stop_at O ps)) 0)) Ok
      go true b e x h = let z : i ≡ i + 0 = omega arith in rw e (ap₂ (λ (y : Bool) (k : ℕ). cond y (StoppedAt k) Ok) (sym (lt-ltb 0 (suc (length ps)) (omega arith))) z)
      go false b e x h =
          let z : suc i + stop_at O ps ≡ i + suc (stop_at O ps) = omega arith in
          rw e (last b ∙ h ∙ ap₂ (λ (y : Bool) (k : ℕ). cond y (StoppedAt k) Ok) (sym (ltb_suc (stop_at O ps) (length ps))) z)
        where
          last : (b : Bool) → (cond b x (with_page p i x)).end ≡ x.end
          last true = refl
          last false = refl

module _ (w : Buffers) (v : GuestVtl) (share : Bool) where
  abbrev O : ℕ → Bool
  O = is_readable_and_writable w.maps.permissions.read w.maps.permissions.write (checks_permissions (settings_of w.state) v share)

  abbrev P : ℕ → Bool
  P = wanted w.maps.shared share

  -- open where it isn't denied: 15 asks for VTL0, a share and protections enabled
  open_undenied : (p : ℕ) → O p ≡ not (access_denied w v share p)
  open_undenied p = go v share
    where
      either : (e b : Bool) → cond e b true ≡ not (e && not b)
      either true true = refl
      either true false = refl
      either false b = refl

      go : (v : GuestVtl) (share : Bool) → is_readable_and_writable w.maps.permissions.read w.maps.permissions.write (checks_permissions (settings_of w.state) v share) p ≡ not (access_denied w v share p)
      go Vtl0 true = either (settings_of w.state).enabled (bit_at 8 w.maps.permissions.read p && bit_at 8 w.maps.permissions.write p)
      go Vtl0 false = refl
      go Vtl1 true = refl
      go Vtl1 false = refl

  -- wanted where it isn't so marked already
  wanted_unmarked : (p : ℕ) → P p ≡ not (is_so_marked w share p)
  wanted_unmarked p = go share (bit_at 8 w.maps.shared p) refl
    where
      go : (share b : Bool) → bit_at 8 w.maps.shared p ≡ b → wanted w.maps.shared share p ≡ not (is_so_marked w share p)
      go true true e = rw e
      go true false e = rw e
      go false true e = rw e
      go false false e = rw e

  module _ (l : List ℕ) where
    pub same_pages : pages_in (requested_of w v share l).listed ≡ asked_for w v share l
    same_pages = pages_from_lem w v share O P open_undenied wanted_unmarked 0 (pages_of l)

    pub same_places : places_in (requested_of w v share l).listed ≡ pick_places P 0 (take (stop_of w v share l) (pages_of l))
    same_places = places_from w v share O P open_undenied wanted_unmarked 0 (pages_of l)

    pub same_end : (requested_of w v share l).end ≡ cond (ltb (stop_of w v share l) (length (pages_of l))) (StoppedAt (stop_of w v share l)) Ok
    same_end =
        let z : 0 + stop_of w v share l ≡ stop_of w v share l = omega arith in
        end_from_lem w v share O P open_undenied wanted_unmarked 0 (pages_of l) ∙ ap (λ (k : ℕ). cond (ltb (stop_of w v share l) (length (pages_of l))) (StoppedAt k) Ok) z

    pub same_table : stored_in (requested_of w v share l).listed w.pages ≡ table_for w v share l
    unfolding table_of
    same_table = rw (same_pages, same_places)

-- ---- THE CLAIM: the place of each page asked for holds that page in the list as sent, and places ascend

module _ (w : Buffers) (v : GuestVtl) (share : Bool) where
  -- of the pages from place i on, those before being `pre`
  record Held (all : List ℕ) (xs : List Listed) : Type 0 where
    inside : (j : ℕ) → j < length xs → get_or (places_in xs) j 0 < length all
    holds : (j : ℕ) → j < length xs → get_or all (get_or (places_in xs) j 0) 0 ≡ get_or (pages_in xs) j 0

  one_more_lem : (all : List ℕ) (p i : ℕ) (x : Requested) → i < length all → get_or all i 0 ≡ p → Held all x.listed → Held all (with_page p i x).listed
  unfolding pages_in places_in
  one_more_lem all p i x h e k = record { inside = inside; holds = holds }
    where
      inside : (j : ℕ) → j < suc (length x.listed) → get_or (i ∷ places_in x.listed) j 0 < length all
      inside zero o = h
      inside (suc j) o = k.inside j (omega arith)

      holds : (j : ℕ) → j < suc (length x.listed) → get_or all (get_or (i ∷ places_in x.listed) j 0) 0 ≡ get_or (p ∷ pages_in x.listed) j 0
      holds zero o = e
      holds (suc j) o = k.holds j (omega arith)

  held_from : (pre : List ℕ) (i : ℕ) (ps : List ℕ) → length pre ≡ i → Held (pre ++ ps) (requested_from w v share i ps).listed
  unfolding requested_from
  held_from pre i [] e = record { inside = λ j h. absurd (omega arith); holds = λ j h. absurd (omega arith) }
  held_from pre i (p ∷ ps) e =
      go (access_denied w v share p) (is_so_marked w share p)
      (subst (λ (l : List ℕ). Held l (requested_from w v share (suc i) ps).listed) (append_assoc pre (p ∷ []) ps)
      (held_from (pre ++ (p ∷ [])) (suc i) ps (length-append pre (p ∷ []) ∙ omega (arith, e))))
    where
      all : List ℕ
      all = pre ++ (p ∷ ps)

      rest : Requested
      rest = requested_from w v share (suc i) ps

      here : get_or (pre ++ (p ∷ ps)) i 0 ≡ p
      here = let z : i ≡ length pre + 0 = omega (arith, e) in ap (λ (j : ℕ). get_or (pre ++ (p ∷ ps)) j 0) z ∙ get_or-append-add pre (p ∷ ps) 0 0

      go : (a b : Bool) → Held all rest.listed → Held all (cond a (no_more (StoppedAt i)) (cond b rest (with_page p i rest))).listed
      go true b next = record { inside = λ j h. absurd (omega arith); holds = λ j h. absurd (omega arith) }
      go false true next = next
      go false false next = one_more_lem all p i rest (omega (arith, e, length-append pre (p ∷ ps))) here next

  -- above any place before
  above : (i q : ℕ) (ps : List ℕ) → q < i → steps_from true q (places_in (requested_from w v share i ps).listed) ≡ true
  unfolding requested_from places_in steps_from
  above i q [] h = refl
  above i q (p ∷ ps) h = go (access_denied w v share p) (is_so_marked w share p) (requested_from w v share (suc i) ps) (above (suc i) q ps (omega arith)) (above (suc i) i ps (omega arith))
    where
      go : (a b : Bool) (x : Requested) → steps_from true q (places_in x.listed) ≡ true → steps_from true i (places_in x.listed) ≡ true
          → steps_from true q (places_in (cond a (no_more (StoppedAt i)) (cond b x (with_page p i x))).listed) ≡ true
      go true b x k j = refl
      go false true x k j = k
      go false false x k j = and_true _ _ (lt-ltb q i h) j

  ascend_from : (i : ℕ) (ps : List ℕ) → strict true (places_in (requested_from w v share i ps).listed) ≡ true
  unfolding requested_from places_in strict
  ascend_from i [] = refl
  ascend_from i (p ∷ ps) = go (access_denied w v share p) (is_so_marked w share p) (requested_from w v share (suc i) ps) (ascend_from (suc i) ps) (above (suc i) i ps (omega arith))
    where
      go : (a b : Bool) (x : Requested) → strict true (places_in x.listed) ≡ true → steps_from true i (places_in x.listed) ≡ true
          → strict true (places_in (cond a (no_more (StoppedAt i)) (cond b x (with_page p i x))).listed) ≡ true
      go true b x k j = refl
      go false true x k j = k
      go false false x k j = j

pub places_hold : PlacesHold
places_hold w v share l =
    let k = held_from w v share [] 0 (pages_of l) refl in
    record { inside = k.inside; holds = k.holds; ascend = ascend_from w v share 0 (pages_of l) }

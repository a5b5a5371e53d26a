-- The permission maps page by page as calls leave them. Assumes nothing.
use mathlib.Core.Path.{◌≡◌, refl, sym, ap, ◌∙◌, subst}
use mathlib.Core.Bool.{Bool, true, false, cond, ◌&&◌, ◌||◌}
use mathlib.Core.Logic.{⊎_elim}
use mathlib.Core.List.{List, [], ◌∷◌}
use Prim.Native.Nat.{ℕ, zero, suc, ◌/◌, ◌<◌}
use lib.Dec.{eqb, ltb}
use lib.ListN.{length, take}
use borrow.Author.Tests.{eqb-true, eqb-false, lt-ltb}
use Rattle.laws.specs.Bools.{false≢true, both_true, and_left, or_true, or_left, or_right}
use Rattle.laws.specs.Refusal.{passed, when_passed, first_passed}
use Rattle.bitmap.specs.Pages.{bit_at}
use Rattle.layout.specs.declared.MemoryRangeWithNode.{MemoryRangeWithNode}
use Rattle.layout.specs.Layout.{is_ram, map_len}
use Rattle.layout.proofs.Laws.{fit, page_in_map}
use Rattle.permissions.specs.declared.GuestVtl.{GuestVtl}
use Rattle.permissions.specs.declared.GuestVtl.TheVariants.{Vtl0, Vtl1}
use Rattle.permissions.specs.declared.HvMapGpaFlags.{HvMapGpaFlags}
use Rattle.permissions.specs.Flags.{vtl_of, bool_of, flags_of, no_flags, fit_vtl, fit_bool, fit_flags}
use Rattle.mapping.specs.Maps.{Permissions, Maps, marks_fit, permission_len, lengths_of}
use Rattle.page_list.specs.Pages.{among, repeats, pages_of, is_long, is_ragged}
use Rattle.request_pages.specs.Request.{pick, wanted}
use Rattle.visibility_steps.specs.declared.Settings.{Settings}
use Rattle.protector_state.specs.State.{settings_of, ram_of, entries_in}
use Rattle.call_refusals.specs.Buffers.{Buffers, overlays_of, locks_of, fits, lengths_in}
use Rattle.call_refusals.proofs.Laws.{is_ready, maps_fit_lem}
use Rattle.call_refusals.specs.Refusals.{page_refusal, first_refusal, visibility_refusal}
use Rattle.protector.specs.Calls.{stop_of}
use Rattle.protection_entries.specs.Calls.{protection_refusal, each_refusal}
use Rattle.visibility_claims.specs.Whole.{BackendAnswer, Denied, Whole, stands}
use Rattle.visibility_claims.specs.Requested.{denial, requested_of}
use Rattle.visibility_claims.specs.Calls.{whole_on, whole_of}
use Rattle.visibility_claims.proofs.Requested.{same_pages}
use Rattle.visibility_claims.proofs.Calls.{taken_input, taken_pages, visibility_is_whole}
use Rattle.protection_entries.proofs.Laws.{protection_passed}
use Rattle.change_claims.specs.Whole.{is_protected}
use Rattle.change_claims.specs.Calls.{tracked_in, overlay_in, default_whole}
use Rattle.change_claims.specs.Pages.{Sets, all, within, PermitsFor, Leaves}
use Rattle.change_claims.specs.Claims.{TakesProtection, stored_in, TakesVisibility, visibility_call, requested_pages, requested_places, FitLayout, taken_ram, PermissionsLeft}
use Rattle.change_claims.proofs.Calls.{protection_is_whole}
use Rattle.change_claims.proofs.Default.{tracked_stored, entries_stored, default_passed, default_is_whole}
use Rattle.change_claims.proofs.Left.{permission_maps}

-- ---- pages that every map has

-- the four permission maps, where tracked, have n bytes
record Long (n : ℕ) (m : Permissions) : Type 0 where
  read : length m.read ≡ n
  write : length m.write ≡ n
  kernel : length m.kernel ≡ n
  user : length m.user ≡ n

module _ (w : Buffers) (fit : fits w ≡ true) where
  maps_long : tracked_in w ≡ true → Long (map_len (entries_in w.state)) w.maps.permissions
  maps_long t =
      let n : ℕ = map_len (entries_in w.state) in
      let m : Permissions = w.maps.permissions in
      let a = both_true (marks_fit n (lengths_of w.maps)) _ (maps_fit_lem n (tracked_in w) (lengths_in w) fit) in
      let d : permission_len n (tracked_in w) ≡ n = ap (permission_len n) t in
      let r = both_true (eqb (length m.read) (permission_len n (tracked_in w))) _ a.1 in
      let x = both_true (eqb (length m.write) (permission_len n (tracked_in w))) _ r.1 in
      let k = both_true (eqb (length m.kernel) (permission_len n (tracked_in w))) (eqb (length m.user) (permission_len n (tracked_in w))) x.1 in
      record { read = eqb-true _ _ r.0 ∙ d; write = eqb-true _ _ x.0 ∙ d; kernel = eqb-true _ _ k.0 ∙ d; user = eqb-true _ _ k.1 ∙ d }

-- so the bound of the maps says nothing
sets_all : (P : ℕ → Bool) (s : Bool) (n : ℕ) (old new : List ℕ) → length old ≡ n → ((p : ℕ) → P p ≡ true → p / 8 < n) → Sets (within P old) s old new → Sets (all P old) s old new
sets_all P s n old new e h k p = k p ∙ ap (λ (b : Bool). cond b s (bit_at 8 old p)) (go (P p) refl)
  where
    go : (b : Bool) → P p ≡ b → (b && ltb (p / 8) (length old)) ≡ b
    go true d = ap (ltb (p / 8)) e ∙ lt-ltb (p / 8) n (h p d)
    go false d = refl

for_all : (tracked : Bool) (v : GuestVtl) (P : ℕ → Bool) (f : HvMapGpaFlags) (n : ℕ) (old new : Permissions) → (tracked ≡ true → Long n old) → ((p : ℕ) → P p ≡ true → p / 8 < n)
    → PermitsFor tracked v (within P) f old new → PermitsFor tracked v (all P) f old new
for_all true Vtl0 P f n old new l h k =
    let a = l refl in
    record {
      read = sets_all P f.readable n old.read new.read a.read h k.read;
      write = sets_all P f.writable n old.write new.write a.write h k.write;
      kernel = sets_all P f.kernel_executable n old.kernel new.kernel a.kernel h k.kernel;
      user = sets_all P f.user_executable n old.user new.user a.user h k.user;
    }
for_all false Vtl0 P f n old new l h k = k
for_all tracked Vtl1 P f n old new l h k = k

leaves_all : (tracked : Bool) (v : GuestVtl) (P : ℕ → Bool) (f : HvMapGpaFlags) (n : ℕ) (old new : Maps) → (tracked ≡ true → Long n old.permissions) → ((p : ℕ) → P p ≡ true → p / 8 < n)
    → Leaves tracked v (within P) f old new → Leaves tracked v (all P) f old new
leaves_all tracked v P f n old new l h k =
    record { private = k.private; shared = k.shared; permissions = for_all tracked v P f n old.permissions new.permissions l h k.permissions }

-- ---- each page of a list that is taken is RAM

each_ram : (es : List MemoryRangeWithNode) (overlays locks : List ℕ) (share : Bool) (ps : List ℕ) (q : ℕ) → first_refusal (page_refusal es overlays locks share) ps ≡ 0 → among ps q ≡ true → is_ram es q ≡ true
unfolding first_refusal among
each_ram es overlays locks share [] q z h = false≢true h
each_ram es overlays locks share (p ∷ ps) q z h = go (eqb (page_refusal es overlays locks share p) 0) refl z (eqb q p) refl h (each_ram es overlays locks share ps q)
  where
    go : (b : Bool) → eqb (page_refusal es overlays locks share p) 0 ≡ b → cond b (first_refusal (page_refusal es overlays locks share) ps) (page_refusal es overlays locks share p) ≡ 0
        → (c : Bool) → eqb q p ≡ c → (c || among ps q) ≡ true → (first_refusal (page_refusal es overlays locks share) ps ≡ 0 → among ps q ≡ true → is_ram es q ≡ true) → is_ram es q ≡ true
    go true e z true f h more = ap (is_ram es) (eqb-true q p f) ∙ (passed (is_ram es p) 6 _ (eqb-true (page_refusal es overlays locks share p) 0 e)).0
    go true e z false f h more = more z h
    go false e z c f h more = absurd (eqb-false (page_refusal es overlays locks share p) 0 e z)

listed_ram : (w : Buffers) (vtl flags : ℕ) (l : List ℕ) → TakesProtection w vtl flags l → (p : ℕ) → among (pages_of l) p ≡ true → is_ram (entries_in w.state) p ≡ true
unfolding protection_refusal
listed_ram w vtl flags l z p h =
    let b = is_ready w.state (fits w) _ z in
    let c = when_passed (is_long l) 4 _ b.goes in
    let d = passed (fit_vtl vtl) 7 _ c.1 in
    let e = passed (fit_flags flags) 7 _ d.1 in
    let f = when_passed (is_ragged l) 7 _ e.1 in
    each_ram (entries_in w.state) (overlays_of w.tables (vtl_of vtl)) (locks_of w.tables (vtl_of vtl)) true (pages_of l) p (first_passed (each_refusal w.state w.tables (vtl_of vtl) l) _ f.1).0 h

shown_ram : (w : Buffers) (vtl visibility : ℕ) (l : List ℕ) → TakesVisibility w vtl visibility l → (fits w ≡ true) × ((p : ℕ) → among (pages_of l) p ≡ true → is_ram (entries_in w.state) p ≡ true)
unfolding visibility_refusal
shown_ram w vtl visibility l z =
    let b = is_ready w.state (fits w) _ z in
    let c = when_passed (is_long l) 4 _ b.goes in
    let d = when_passed (repeats (pages_of l)) 5 _ c.1 in
    let e = passed (fit_vtl vtl) 7 _ d.1 in
    let f = passed (fit_bool visibility) 7 _ e.1 in
    let g = when_passed (is_ragged l) 7 _ f.1 in
    (b.fits, λ p h. each_ram (entries_in w.state) (overlays_of w.tables (vtl_of vtl)) (locks_of w.tables (vtl_of vtl)) (bool_of visibility) (pages_of l) p g.1 h)

-- ---- visibility changes: the pages asked for are of the list

one_more_lem : (p q : ℕ) (ps qs : List ℕ) → (among ps p ≡ true → among qs p ≡ true) → (eqb p q || among ps p) ≡ true → (eqb p q || among qs p) ≡ true
one_more_lem p q ps qs f h = ⊎_elim (λ (e : eqb p q ≡ true). or_left (eqb p q) (among qs p) e) (λ (e : among ps p ≡ true). or_right (eqb p q) (among qs p) (f e)) (or_true (eqb p q) (among ps p) h)

pub among_take : (n : ℕ) (ps : List ℕ) (p : ℕ) → among (take n ps) p ≡ true → among ps p ≡ true
unfolding among
among_take zero ps p h = false≢true h
among_take (suc n) [] p h = h
among_take (suc n) (q ∷ ps) p h = one_more_lem p q (take n ps) ps (among_take n ps p) h

pub among_pick : (P : ℕ → Bool) (ps : List ℕ) (p : ℕ) → among (pick P ps) p ≡ true → among ps p ≡ true
unfolding among pick
among_pick P [] p h = h
among_pick P (q ∷ ps) p h = go (P q) h (among_pick P ps p)
  where
    go : (b : Bool) → among (cond b (q ∷ pick P ps) (pick P ps)) p ≡ true → (among (pick P ps) p ≡ true → among ps p ≡ true) → (eqb p q || among ps p) ≡ true
    go true h f = one_more_lem p q (pick P ps) ps f h
    go false h f = or_right (eqb p q) (among ps p) (f h)

module _ (w : Buffers) (vtl visibility : ℕ) (l : List ℕ) (gs : List BackendAnswer) (z : TakesVisibility w vtl visibility l) (h : FitLayout w) where
  as_whole : (b : Bool) → bool_of visibility ≡ b → (whole_of w (vtl_of vtl) b l gs).maps.permissions ≡ (visibility_call w vtl visibility l gs).last.buffers.maps.permissions
  as_whole b e = sym (ap (λ (m : Maps). m.permissions) (visibility_is_whole w vtl visibility l gs (taken_input w vtl visibility l z)).same_maps ∙ ap (λ (b : Bool). (whole_of w (vtl_of vtl) b l gs).maps.permissions) e)

  -- none of its pages refuses it
  undenied : (b : Bool) → bool_of visibility ≡ b → whole_of w (vtl_of vtl) b l gs ≡ whole_on w (vtl_of vtl) b (requested_of w (vtl_of vtl) b l) gs
  undenied b e =
      ap (λ (n : ℕ). cond (eqb n 0) (whole_on w (vtl_of vtl) b (requested_of w (vtl_of vtl) b l) gs) (stands w.maps (Denied n)))
      (subst (λ (b : Bool). denial w (vtl_of vtl) b (pages_of l) ≡ 0) e (taken_pages w vtl visibility l z))

  -- of some of the pages asked for
  part_left : (share : Bool) → bool_of visibility ≡ share → (v : GuestVtl) (ps : List ℕ) (f : HvMapGpaFlags) → ((p : ℕ) → among ps p ≡ true → among (requested_pages w (vtl_of vtl) share l) p ≡ true)
      → PermitsFor (tracked_in w) v (within (among ps)) f w.maps.permissions (whole_on w (vtl_of vtl) share (requested_of w (vtl_of vtl) share l) gs).maps.permissions
      → PermitsFor (tracked_in w) v (all (among ps)) f w.maps.permissions (visibility_call w vtl visibility l gs).last.buffers.maps.permissions
  part_left share e v ps f part k =
      let r = shown_ram w vtl visibility l z in
      let n : ℕ = stop_of w (vtl_of vtl) share l in
      let listed : (p : ℕ) → among (requested_pages w (vtl_of vtl) share l) p ≡ true → among (pages_of l) p ≡ true
      = λ p d. among_take n (pages_of l) p (among_pick (wanted w.maps.shared share) (take n (pages_of l)) p (subst (λ (qs : List ℕ). among qs p ≡ true) (same_pages w (vtl_of vtl) share l) d)) in
      subst (PermitsFor (tracked_in w) v (all (among ps)) f w.maps.permissions) (as_whole share e)
      (for_all (tracked_in w) v (among ps) f (map_len (entries_in w.state)) w.maps.permissions _ (maps_long w r.0)
      (λ p d. page_in_map (ram_of w.state) p (fit (ram_of w.state) h) (r.1 p (listed p (part p d))))
      (subst (λ (x : Whole). PermitsFor (tracked_in w) v (within (among ps)) f w.maps.permissions x.maps.permissions) (sym (undenied share e)) k))

-- THE CLAIMS
pub permissions_left : PermissionsLeft
permissions_left =
    record {
      protection = λ w vtl flags l gs z h e.
          subst (Leaves (tracked_in w) (vtl_of vtl) (all (among (pages_of l))) (flags_of flags) w.maps) (sym (protection_is_whole w vtl flags l z gs).same_maps)
          (leaves_all (tracked_in w) (vtl_of vtl) (among (pages_of l)) (flags_of flags) (map_len (entries_in w.state)) w.maps _ (maps_long w (protection_passed w vtl flags l _ refl z).1)
          (λ p k. page_in_map (ram_of w.state) p (fit (ram_of w.state) h) (listed_ram w vtl flags l z p k)) (permission_maps.protection (tracked_in w) (vtl_of vtl) (flags_of flags) (pages_of l) w.maps gs e));
      default = λ w vtl flags gs z h e.
          let v : GuestVtl = vtl_of vtl in
          let x : Buffers = stored_in w vtl flags in
          let P : List MemoryRangeWithNode → ℕ → Bool = λ es. taken_ram es w.maps.private (overlay_in w.tables v) in
          let es : List MemoryRangeWithNode = entries_in w.state in
          let new : Maps = (default_whole x v flags gs).whole.maps in
          subst (Leaves (tracked_in w) v (all (P es)) (flags_of flags) w.maps) (sym (default_is_whole w vtl flags gs z.0 z.1 (fit (ram_of w.state) h).in_order).same_maps)
          (leaves_all (tracked_in w) v (P es) (flags_of flags) (map_len es) w.maps new (maps_long w (default_passed w vtl flags z.0).1)
          (λ p k. page_in_map (ram_of w.state) p (fit (ram_of w.state) h) (and_left (is_ram es p) (is_protected w.maps.private (overlay_in w.tables v) p) k))
          (subst (λ (b : Bool). Leaves b v (within (P es)) (flags_of flags) w.maps new) (tracked_stored w v flags)
          (subst (λ (es : List MemoryRangeWithNode). Leaves (tracked_in x) v (within (P es)) (flags_of flags) w.maps new) (entries_stored w v flags)
          (permission_maps.default (tracked_in x) v (flags_of flags) (entries_in x.state) (overlay_in w.tables v) w.maps gs e))));
      return_ok = λ w vtl visibility l gs z h b e.
          let s : Settings = settings_of w.state in
          let ps : List ℕ = requested_pages w (vtl_of vtl) false l in
          part_left w vtl visibility l gs z h false b Vtl0 ps s.defaults.vtl0 (λ p d. d) (permission_maps.return_ok s ps (requested_places w (vtl_of vtl) false l) w.maps gs (sym (ap (λ (x : Whole). x.status) (undenied w vtl visibility l gs z h false b)) ∙ e));
      return_16 = λ w vtl visibility l gs code i z h b e.
          let s : Settings = settings_of w.state in
          let ps : List ℕ = requested_pages w (vtl_of vtl) false l in
          let k = permission_maps.return_16 s ps (requested_places w (vtl_of vtl) false l) w.maps gs code i (sym (ap (λ (x : Whole). x.status) (undenied w vtl visibility l gs z h false b)) ∙ e) in
          record {
            count = k.count;
            below = k.below;
            place = k.place;
            done = part_left w vtl visibility l gs z h false b Vtl0 (take k.count ps) s.defaults.vtl0 (λ p d. among_take k.count ps p d) k.done;
          };
      share = λ w vtl visibility l gs z h b.
          let ps : List ℕ = requested_pages w (vtl_of vtl) true l in
          part_left w vtl visibility l gs z h true b (vtl_of vtl) ps no_flags (λ p d. d) (permission_maps.share (settings_of w.state) (vtl_of vtl) ps _ w.maps gs);
    }

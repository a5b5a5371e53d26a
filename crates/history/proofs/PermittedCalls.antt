-- Every call keeps the permission maps inside RAM, and so does every list of calls. Assumes nothing.
use native.Mathlib.Omega.{arith}
use mathlib.Core.Path.{◌≡◌, refl, sym, ap, ◌∙◌, subst}
use mathlib.Core.Bool.{Bool, true, false, cond}
use mathlib.Core.List.{List}
use Prim.Native.Nat.{ℕ, ◌+◌, ◌-◌, ◌≤◌, ◌<◌, min}
use lib.Dec.{eqb, ltb}
use lib.ListN.{length, get_or, take, set}
use lib.Seq.{get_or-take, get_or-set_other}
use borrow.Author.Tests.{eqb-true, ltb-true, ltb-false}
use Rattle.abi.specs.Refusals as refusal
use Rattle.laws.specs.Bools.{and_left}
use Rattle.laws.specs.Refusal.{passed, when_passed, first_passed}
use Rattle.call_refusals.proofs.Laws.{is_ready}
use Rattle.laws.specs.Ranges.{between, between_from, between_to}
use Rattle.bitmap.specs.Pages.{bit_at}
use Rattle.layout.specs.declared.MemoryRangeWithNode.{MemoryRangeWithNode}
use Rattle.layout.specs.Layout.{is_ram}
use Rattle.permissions.specs.declared.GuestVtl.{GuestVtl}
use Rattle.permissions.specs.declared.GuestVtl.TheVariants.{Vtl0, Vtl1}
use Rattle.permissions.specs.declared.HvMapGpaFlags.{HvMapGpaFlags}
use Rattle.permissions.specs.Flags.{fit_vtl, vtl_of, fit_flags, flags_of, bits_of, bool_of}
use Rattle.page_list.specs.declared.PageRun.{PageRun}
use Rattle.page_list.specs.Pages.{pages_of, among, is_long, is_ragged}
use Rattle.page_list.specs.Runs.{part}
use Rattle.page_list.proofs.Laws.{among_at}
use Rattle.request_pages.specs.Request.{put}
use Rattle.request_pages.proofs.Table.{in_use, length_table, pages_few, pick_each}
use Rattle.overlay_table.specs.declared.OverlayPage.{OverlayPage}
use Rattle.overlay_table.specs.Overlays.{is_overlay}
use Rattle.default_change.specs.Pieces.{wanted, free, next_piece}
use Rattle.visibility_steps.specs.declared.Step.{Step}
use Rattle.change_steps.specs.declared.Stage.{Stage}
use Rattle.change_steps.specs.declared.Stage.TheVariants as stage
use Rattle.change_steps.specs.declared.Change.{Change}
use Rattle.change_steps.specs.declared.ChangeStep.{ChangeStep}
use Rattle.change_steps.specs.Changes.{change_of, start_new}
use Rattle.protector_state.specs.State.{state_len, first_phases, phase_of, phase_in, request_of, settings_of, entries_in}
use Rattle.protector_state.specs.Changing.{stage_of, stage_in, is_changing, change_in, with_change}
use Rattle.call_refusals.specs.Buffers.{Buffers, buffers, overlays_of, locks_of, fits, status_of, status_in, takes, takes_at, takes_in}
use Rattle.protector.specs.Writes.{applied}
use Rattle.protector.specs.Calls.{refused_by, carried_out, carried_change, stop_of, asked_for, table_for, visibility_taken, visibility_of, piece_after, next_in, after_done, after_failed, visibility_done, visibility_failed, change_done, change_failed, answer_done, answer_failed}
use Rattle.call_refusals.specs.Refusals.{visibility_refusal, answer_refusal}
use Rattle.protection_entries.specs.Calls.{each_refusal, protection_refusal, all_listed, protection_taken, protection_of, default_refusal, stored, barred, renewed_in, first_piece, default_started, default_taken, default_of}
use Rattle.overlay_refusals.specs.Refusals.{unregister_refusal, register_refusal}
use Rattle.overlay_refusals.specs.Refusals as tests
use Rattle.overlay_refusals.proofs.Laws.{call_passed, flags_passed}
use Rattle.overlay_entries.specs.Calls.{entry_in, counting, unregister_taken, unregister_of, current_in, register_taken, register_of}
use Rattle.visibility_claims.specs.Whole.{BackendAnswer, Succeeds, Fails}
use Rattle.visibility_claims.specs.Calls.{answer_of}
use Rattle.history.specs.Observed.{Observed}
use Rattle.history.specs.Marks.{Has}
use Rattle.history.specs.Call.{Writer, Visibility, Protection, Default, Register, Unregister, Lock, Unlock, Enable, Call, Write, Read, Answer, gives_writer, gives}
use Rattle.history.specs.Tables.{TablesFit}
use Rattle.history.specs.Permitted.{Inside, OnRam, is_pages, is_listing, Permitted}
use Rattle.call_refusals.proofs.Laws.{fits_pages}
use Rattle.history.proofs.Start.{first_all, ram_page}
use Rattle.history.proofs.Calls.{taken, in_ram}
use Rattle.history.proofs.Passed.{passed_in, fitting}
use Rattle.history.proofs.OtherLengths.{answer_fitting}
use Rattle.history.proofs.Deciding.{decides, either}
use Rattle.history.proofs.Entries.{overlays_entry, overlays_own}
use Rattle.history.proofs.Tabled.{fresh_page}
use Rattle.history.proofs.Buffers.{Stands, phase_waits}
use Rattle.history.proofs.Frame.{Framed, frame}
use Rattle.history.proofs.Histories.{Both, InBuffers, KeepsWith}
use Rattle.history.proofs.PermittedSteps.{written_ram, places_ram, piece_all, Narrow, done_narrow, failed_narrow, start_narrow, Safe, safe_pages, safe_ram, safe_done, safe_failed, safe_new, safe_old}

-- ---- which pages are listed, read from the state block

listing_change : (g : Stage) (q : Change) (s : List ℕ) → is_listing (with_change g q s) ≡ true → is_pages g ≡ true
unfolding stage_of phase_of first_phases
listing_change stage.Idle q s e = e
listing_change stage.Halted q s e = e
listing_change stage.ProtectPages q s e = e
listing_change stage.ProtectRam q s e = e
listing_change stage.ProtectNew q s e = e
listing_change stage.ProtectOld q s e = e
listing_change stage.Wait q s e = e
listing_change stage.Flush q s e = e
listing_change stage.TlbWait q s e = e

pub not_listing : (s : List ℕ) → status_in s ≡ 0 → is_listing s ≡ true → ⊥
not_listing s z e = go (is_changing s) (is_pages (stage_in s)) (status_of (phase_in s)) z e
  where
    go : (c a : Bool) (n : ℕ) → cond c refusal.busy n ≡ 0 → cond c a (eqb n refusal.busy) ≡ true → ⊥
    go true a n z e = omega (arith, z)
    go false a n z e = omega (arith, z, eqb-true n 19 e)

module _ (es : List MemoryRangeWithNode) where
  fewer : (n m : ℕ) (t : List ℕ) → m ≤ n → OnRam es n t → OnRam es m t
  fewer n m t h k j a b = k j (omega (arith, a, h)) b

  -- ---- steps carried out

  pub change_permits : (w : Buffers) (t : List ℕ) (x : ChangeStep) → Inside es w.maps.permissions → Safe es t x → Permitted es (carried_change w t x).buffers
  unfolding carried_change
  change_permits w t x k f =
      let R : ℕ → Bool = between x.written.first (x.written.first + x.written.count) in
      let g : HvMapGpaFlags = flags_of x.change.flags in
      record {
        inside = record {
          read = written_ram (is_ram es) R g.readable w.maps.permissions.read (λ _. f.written) k.read;
          write = written_ram (is_ram es) R g.writable w.maps.permissions.write (λ _. f.written) k.write;
          kernel = written_ram (is_ram es) R g.kernel_executable w.maps.permissions.kernel (λ _. f.written) k.kernel;
          user = written_ram (is_ram es) R g.user_executable w.maps.permissions.user (λ _. f.written) k.user;
        };
        listed = λ e. fewer x.change.n (min x.change.n 512) t (omega arith) (f.listed (listing_change x.stage x.change w.state e));
      }

  pub step_permits : (w : Buffers) (t : List ℕ) (n : ℕ) (x : Step) → Inside es w.maps.permissions → Narrow n x → OnRam es n t → Permitted es (carried_out w t x).buffers
  unfolding carried_out applied put
  step_permits w t n x k f h =
      let a : ℕ = x.writes.permissions.from in
      let b : ℕ = x.writes.permissions.to in
      let R : ℕ → Bool = among (part t b a) in
      let g : HvMapGpaFlags = x.writes.flags in
      let r : (z : ℕ) → among (part t b a) z ≡ true → is_ram es z ≡ true = places_ram es t n a b h f.places in
      record {
        inside = record {
          read = written_ram (is_ram es) R g.readable w.maps.permissions.read (λ _. r) k.read;
          write = written_ram (is_ram es) R g.writable w.maps.permissions.write (λ _. r) k.write;
          kernel = written_ram (is_ram es) R g.kernel_executable w.maps.permissions.kernel (λ _. r) k.kernel;
          user = written_ram (is_ram es) R g.user_executable w.maps.permissions.user (λ _. r) k.user;
        };
        listed = λ _. fewer n (min x.request.n 512) t (omega (arith, f.few)) h;
      }

  -- the same maps, pages and words: tables may differ
  tables_permit : (w : Buffers) (u : List ℕ) → Permitted es w → Permitted es (buffers w.maps w.state w.pages u)
  tables_permit w u k = record { inside = k.inside; listed = k.listed }

  set_permits : (w : Buffers) (i x : ℕ) → 13 < i → Permitted es w → Permitted es (buffers w.maps (set w.state i x) w.pages w.tables)
  set_permits w i x h k = record { inside = k.inside; listed = rw (word 0 (omega arith), word 3 (omega arith)) k.listed }
    where
      word : (j : ℕ) → j < 14 → get_or (set w.state i x) j 0 ≡ get_or w.state j 0
      word j d = get_or-set_other w.state i j x 0 (λ e. omega (arith, h, d, e))

  stored_permits : (w : Buffers) (v : GuestVtl) (flags : ℕ) → Permitted es w → Permitted es (stored w v flags)
  stored_permits w Vtl0 flags k = set_permits w 20 flags (omega arith) k
  stored_permits w Vtl1 flags k = set_permits w 21 flags (omega arith) k

  permits_framed : Framed (InBuffers (Permitted es))
  permits_framed = record { tables = λ w o t _ k. tables_permit w t k; setting = λ w o k. set_permits w 19 1 (omega arith) k }

  -- a piece of a default change is private, and so RAM
  piece_ram : (private overlays : List ℕ) (ram : List MemoryRangeWithNode) (a : ℕ) → ((z : ℕ) → Has private z → is_ram es z ≡ true) → (z : ℕ)
      → between (next_piece private overlays ram a).first ((next_piece private overlays ram a).first + (next_piece private overlays ram a).count) z ≡ true → is_ram es z ≡ true
  piece_ram private overlays ram a f z e =
      let r : PageRun = next_piece private overlays ram a in
      f z (and_left (bit_at 8 private z) (free overlays z) (piece_all (wanted private overlays) ram a z (between_from r.first (r.first + r.count) z e) (between_to r.first (r.first + r.count) z e)))

  after_ram : (g : Stage) (private overlays : List ℕ) (ram : List MemoryRangeWithNode) (a : ℕ) → ((z : ℕ) → Has private z → is_ram es z ≡ true) → (z : ℕ)
      → between (piece_after g private overlays ram a).first ((piece_after g private overlays ram a).first + (piece_after g private overlays ram a).count) z ≡ true → is_ram es z ≡ true
  after_ram stage.Idle private overlays ram a f z e = absurd (omega (arith, between_to 0 0 z e))
  after_ram stage.Halted private overlays ram a f z e = absurd (omega (arith, between_to 0 0 z e))
  after_ram stage.ProtectPages private overlays ram a f z e = absurd (omega (arith, between_to 0 0 z e))
  after_ram stage.ProtectRam private overlays ram a f z e = piece_ram private overlays ram a f z e
  after_ram stage.ProtectNew private overlays ram a f z e = absurd (omega (arith, between_to 0 0 z e))
  after_ram stage.ProtectOld private overlays ram a f z e = absurd (omega (arith, between_to 0 0 z e))
  after_ram stage.Wait private overlays ram a f z e = absurd (omega (arith, between_to 0 0 z e))
  after_ram stage.Flush private overlays ram a f z e = absurd (omega (arith, between_to 0 0 z e))
  after_ram stage.TlbWait private overlays ram a f z e = absurd (omega (arith, between_to 0 0 z e))

  default_permits : (w : Buffers) → ((z : ℕ) → Has w.maps.private z → is_ram es z ≡ true) → Permitted es w → (v : GuestVtl) (flags : ℕ) → Permitted es (default_taken w v flags).buffers
  unfolding default_taken default_started
  default_permits w f k v flags =
      let r : Buffers = renewed_in w v flags in
      either (Permitted es) (barred w.maps.private w.state w.tables v) (refused_by w 10) (default_started r v flags) k
      (change_permits r w.pages _ k.inside
      (safe_ram es w.pages (settings_of w.state).tracked (change_of v flags 0) (first_piece w.maps.private w.state r.tables v) (piece_ram w.maps.private (overlays_of r.tables v) (entries_in w.state) 0 f)))

  -- the pages that a protection change lists, once it is taken
  module _ (w : Buffers) (layout : entries_in w.state ≡ es) (vtl flags : ℕ) (l : List ℕ) (z : protection_refusal w.state (fits w) w.maps.shared w.tables vtl flags l ≡ 0) where
    listed_each : (length l ≤ 4096) × (each_refusal w.state w.tables (vtl_of vtl) l ≡ 0)
    unfolding protection_refusal
    listed_each =
        let d = when_passed (is_long l) 4 _ (is_ready w.state (fits w) _ z).goes in
        let e = passed (fit_vtl vtl) 7 _ d.1 in
        let f = passed (fit_flags flags) 7 _ e.1 in
        let g = when_passed (is_ragged l) 7 _ f.1 in
        (ltb-false 4096 (length l) d.0, (first_passed (each_refusal w.state w.tables (vtl_of vtl) l) _ g.1).0)

    listed_ram : OnRam es (length (pages_of l)) (all_listed l w.pages)
    listed_ram j h d =
        let t : List ℕ = all_listed l w.pages in
        let ps : List ℕ = pages_of l in
        let first : take (length ps) t ≡ ps = subst (λ (x : List ℕ). take (length x) t ≡ x) (pick_each ps) (in_use (λ p. true) ps w.pages) in
        let own : get_or t j 0 ≡ get_or ps j 0 = sym (get_or-take (length ps) t j 0 h) ∙ ap (λ (m : List ℕ). get_or m j 0) first in
        ap (λ (y : List MemoryRangeWithNode). is_ram y (get_or t j 0)) (sym layout)
        ∙ ram_page (entries_in w.state) (overlays_of w.tables (vtl_of vtl)) (locks_of w.tables (vtl_of vtl)) true (get_or t j 0)
        (first_all _ ps (get_or t j 0) listed_each.1 (ap (among ps) own ∙ among_at ps j h))

  -- ---- the calls

  module _ (w : Buffers) (o : Observed) (k : Both (Stands es) (InBuffers (TablesFit es)) w o) (p : Permitted es w) where
    visibility_permits : (vtl share : ℕ) (l : List ℕ) → Permitted es (visibility_of w vtl share l).buffers
    unfolding visibility_of visibility_taken
    visibility_permits vtl share l =
        decides (Permitted es) w (visibility_refusal w.state (fits w) w.tables vtl share l) _ p
        (λ z. let v : GuestVtl = vtl_of vtl in
        let b : Bool = bool_of share in
        let n : ℕ = length (asked_for w v b l) in
        step_permits w (table_for w v b l) n _ p.inside (start_narrow (settings_of w.state) (table_for w v b l) v b n (stop_of w v b l) (ltb (stop_of w v b l) (length (pages_of l))))
        (λ j h _. in_ram es w o k.first v b l (taken w vtl share l z) j h))

    -- an answer that is taken
    module _ (failed : Bool) (z : answer_refusal w.state (fits w) failed ≡ 0) where
      takes_it : takes_in w.state failed ≡ true
      unfolding answer_refusal
      takes_it =
          let a = passed (eqb (length w.state) state_len) 3 _ z in
          let b = when_passed (eqb (status_in w.state) refusal.halted) 19 _ a.1 in
          let c = passed (fits w) 3 _ b.1 in
          (passed (takes_in w.state failed) 20 _ c.1).0

      takes_change : (c : Bool) → is_changing w.state ≡ c → cond c (takes_at (stage_in w.state) failed) (takes (phase_in w.state) failed) ≡ true
      takes_change c e = ap (λ (b : Bool). cond b (takes_at (stage_in w.state) failed) (takes (phase_in w.state) failed)) (sym e) ∙ takes_it

      long : (request_of w.state).n ≤ length w.pages
      long = omega (arith, fits_pages w (answer_fitting w failed z).fit)

      visible : is_changing w.state ≡ false → OnRam es (request_of w.state).n w.pages
      visible e = p.listed (ap (λ (b : Bool). cond b (is_pages (stage_in w.state)) (eqb (status_of (phase_in w.state)) refusal.busy)) e ∙ phase_waits (phase_in w.state) failed (takes_change false e))

      paged : is_changing w.state ≡ true → is_pages (stage_in w.state) ≡ true → OnRam es (request_of w.state).n w.pages
      paged e d = p.listed (ap (λ (b : Bool). cond b (is_pages (stage_in w.state)) (eqb (status_of (phase_in w.state)) refusal.busy)) e ∙ d)

    answer_permits : (g : BackendAnswer) → Permitted es (answer_of g w).buffers
    unfolding answer_done answer_failed after_done after_failed
    answer_permits Succeeds = decides (Permitted es) w (answer_refusal w.state (fits w) false) _ p (λ z. go z (is_changing w.state) refl)
      where
        go : answer_refusal w.state (fits w) false ≡ 0 → (c : Bool) → is_changing w.state ≡ c → Permitted es (cond c (change_done w) (visibility_done w)).buffers
        go z true e =
            change_permits w w.pages _ p.inside
            (safe_done es w.pages (settings_of w.state).tracked (stage_in w.state) (change_in w.state) (next_in w.maps.private w.state w.tables) (long false z) (paged false z e)
            (after_ram (stage_in w.state) w.maps.private (overlays_of w.tables (change_in w.state).vtl) (entries_in w.state) (change_in w.state).at k.first.right.private_ram_lem) (takes_change false z true e))
        go z false e = step_permits w w.pages (request_of w.state).n _ p.inside (done_narrow (settings_of w.state) w.pages (phase_in w.state) (request_of w.state)) (visible false z e)
    answer_permits (Fails code n) = decides (Permitted es) w (answer_refusal w.state (fits w) true) _ p (λ z. go z (is_changing w.state) refl)
      where
        go : answer_refusal w.state (fits w) true ≡ 0 → (c : Bool) → is_changing w.state ≡ c → Permitted es (cond c (change_failed w) (visibility_failed w code n)).buffers
        go z true e = change_permits w w.pages _ p.inside (safe_failed es w.pages (stage_in w.state) (change_in w.state) (takes_change true z true e))
        go z false e = step_permits w w.pages (request_of w.state).n _ p.inside (failed_narrow (settings_of w.state) w.pages (phase_in w.state) (request_of w.state) code n) (visible true z e)

    protection_permits : (vtl flags : ℕ) (l : List ℕ) → Permitted es (protection_of w vtl flags l).buffers
    unfolding protection_of protection_taken
    protection_permits vtl flags l =
        decides (Permitted es) w (protection_refusal w.state (fits w) w.maps.shared w.tables vtl flags l) _ p
        (λ z. let few : length (pages_of l) ≤ 512 = pages_few l (listed_each w k.first.layout vtl flags l z).0 in
        let q : length w.pages ≡ 1024 = fits_pages w (fitting w (passed_in (Protection vtl flags l) w z)).fit in
        let long : length (all_listed l w.pages) ≡ 1024 = length_table (λ p. true) (pages_of l) w.pages q few in
        change_permits w (all_listed l w.pages) _ p.inside
        (safe_pages es (all_listed l w.pages) (settings_of w.state).tracked (change_of (vtl_of vtl) flags (length (pages_of l))) 0 (omega (arith, few, long)) (listed_ram w k.first.layout vtl flags l z)))

    counted : (v : GuestVtl) (page n : ℕ) → Permitted es (counting w v page n).buffers
    counted v page n = tables_permit w _ p

    unregister_permits : (vtl page : ℕ) → Permitted es (unregister_of w vtl page).buffers
    unfolding unregister_of unregister_taken unregister_refusal
    unregister_permits vtl page =
        decides (Permitted es) w (unregister_refusal w.state (fits w) w.tables vtl page) (unregister_taken w v page) p
        (λ z. let c = call_passed w.state (fits w) vtl _ z in go (passed (is_overlay (overlays_of w.tables v) page) 13 _ c.4).0)
      where
        v : GuestVtl
        v = vtl_of vtl

        e : OverlayPage
        e = entry_in w.tables v page

        go : is_overlay (overlays_of w.tables v) page ≡ true → Permitted es (unregister_taken w v page).buffers
        go h =
            let own = overlays_own es (overlays_of w.tables v) (k.second.tables.overlays v) page h in
            let fit = overlays_entry es (overlays_of w.tables v) (k.second.tables.overlays v) page h in
            either (Permitted es) (ltb 1 e.ref_count) (counting w v page (e.ref_count - 1)) _ (counted v page _)
            (change_permits w w.pages _ p.inside (safe_old es w.pages (settings_of w.state).tracked v page e.previous_permissions e.gpn_source (ap (is_ram es) (sym own) ∙ fit.page)))

    register_permits : (vtl page source checked new : ℕ) → Permitted es (register_of w vtl page source checked new).buffers
    unfolding register_of register_taken register_refusal
    register_permits vtl page source checked new =
        decides (Permitted es) w (register_refusal w.state (fits w) w.maps.shared w.tables (current_in w v page source) vtl page source checked new) (register_taken w v page source new) p
        (λ z. let c = call_passed w.state (fits w) vtl _ z in
        let f = flags_passed source checked new _ c.4 in
        go (ltb-true source 2 f.0) f.3 (is_overlay o' page) refl)
      where
        v : GuestVtl
        v = vtl_of vtl

        o' : List ℕ
        o' = overlays_of w.tables v

        x : ChangeStep
        x = start_new (settings_of w.state).tracked v page source (bits_of (current_in w v page source)) new

        go : source < 2 → tests.page_refusal (entries_in w.state) w.maps.shared o' (locks_of w.tables v) page source (current_in w v page source) checked new ≡ 0
            → (b : Bool) → is_overlay o' page ≡ b → Permitted es (cond b (counting w v page ((entry_in w.tables v page).ref_count + 1)) (carried_change w w.pages x)).buffers
        go two z true h = counted v page _
        go two z false h =
            let c = fresh_page (entries_in w.state) w.maps.shared o' (locks_of w.tables v) page source (current_in w v page source) checked new two h z in
            change_permits w w.pages x p.inside
            (safe_new es w.pages (settings_of w.state).tracked v page source (bits_of (current_in w v page source)) new (ap (λ (y : List MemoryRangeWithNode). is_ram y page) (sym k.first.layout) ∙ c.page))

    permits_writer : (a : Writer) → Permitted es (gives_writer a w).buffers
    unfolding default_of
    permits_writer (Visibility vtl share list) = visibility_permits vtl share list
    permits_writer (Protection vtl flags list) = protection_permits vtl flags list
    permits_writer (Default vtl flags) =
        decides (Permitted es) w (default_refusal w.state (fits w) vtl flags) _ p
        (λ _. default_permits (stored w (vtl_of vtl) flags) k.first.right.private_ram_lem (stored_permits w (vtl_of vtl) flags p) (vtl_of vtl) flags)
    permits_writer (Register vtl page source checked new) = register_permits vtl page source checked new
    permits_writer (Unregister vtl page) = unregister_permits vtl page
    permits_writer (Lock vtl list) = frame permits_framed (Write (Lock vtl list)) refl w o p
    permits_writer (Unlock vtl list) = frame permits_framed (Write (Unlock vtl list)) refl w o p
    permits_writer Enable = frame permits_framed (Write Enable) refl w o p

    permits_step : (c : Call) → Permitted es (gives c w).buffers
    permits_step (Write a) = permits_writer a
    permits_step (Read q) = frame permits_framed (Read q) refl w o p
    permits_step (Answer g) = answer_permits g

pub permissions_kept : (es : List MemoryRangeWithNode) → KeepsWith (Both (Stands es) (InBuffers (TablesFit es))) (InBuffers (Permitted es))
permissions_kept es c w o k p = permits_step es w o k p c

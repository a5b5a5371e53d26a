-- Laws of a protection change and a default change: what a call that isn't refused knows, and one law for each way out. Assumes nothing.
use mathlib.Core.Path.{◌≡◌, refl, sym, ap, ap₂, ◌∙◌}
use mathlib.Core.Bool.{Bool, true, false, not, cond, ◌||◌}
use mathlib.Core.List.{List}
use Prim.Native.Nat.{ℕ, ◌+◌, ◌≤◌, ◌<◌}
use lib.Dec.{eqb, ltb}
use native.Mathlib.Numerals.{add-one}
use lib.ListN.{length, get_or, drop, length-set, drop_of_length-le}
use lib.Seq.{drop-cons}
use borrow.Author.Tests.{ltb-true}
use Rattle.abi.specs.Flags.{flags_end}
use Rattle.laws.specs.Refusal.{passed, when_passed}
use Rattle.permissions.specs.declared.GuestVtl.{GuestVtl}
use Rattle.permissions.specs.Flags.{fit_vtl, vtl_of, vtl_number, fit_flags, flags_of}
use Rattle.permissions.specs.HvError.{code_of}
use Rattle.page_list.specs.declared.PageRun.{PageRun}
use Rattle.page_list.specs.Pages.{pages_of, is_long}
use Rattle.page_list.proofs.Laws.{long_le}
use Rattle.page_list.specs.Runs.{run_at}
use Rattle.mapping.specs.Maps.{Permissions}
use Rattle.default_change.specs.Barred as barring
use Rattle.change_steps.specs.declared.ChangeStep.{ChangeStep}
use Rattle.change_steps.specs.declared.Stage.TheVariants as at
use Rattle.change_steps.specs.declared.Entry.{Entry}
use Rattle.change_steps.specs.declared.Entry.TheVariants.{Keep}
use Rattle.change_steps.specs.Changes.{change_of, protect, ask, wait, protect_ram, start_ram, protect_pages, start_pages}
use Rattle.protector_state.specs.declared.Reply.{Reply}
use Rattle.protector_state.specs.State.{state_len, settings_of}
use Rattle.protector_state.specs.Reply.{finished, flat_of}
use Rattle.protector_state.specs.Changing.{with_change}
use Rattle.call_refusals.proofs.Laws.{is_ready, fits_pages}
use Rattle.call_refusals.specs.declared.Lengths.{Lengths}
use Rattle.call_refusals.specs.Buffers.{Buffers, Outcome, buffers, outcome, pages_len, fits_in, lengths_in, fits}
use Rattle.protector.specs.Writes.{permitted_run, entered}
use Rattle.protector.proofs.Laws.{call_refused, call_taken}
use Rattle.protector.specs.Calls.{refused_by, with_permissions, carried_change}
use Rattle.protection_entries.specs.Calls.{default_refusal, stored_default, stored, barred, renewed_tables, renewed_in, first_piece, default_step, default_started, default_taken, default_of, protection_refusal, all_listed, protection_step, protection_taken, protection_of}

-- ---- a default change that isn't refused: its lengths

pub default_passed : (s : List ℕ) (fit : Bool) (vtl flags : ℕ) → default_refusal s fit vtl flags ≡ 0 → (length s ≡ state_len) × ((fit ≡ true) × (flags < flags_end))
unfolding default_refusal
default_passed s fit vtl flags z =
    let a = is_ready s fit _ z in
    let b = passed (fit_vtl vtl) 7 _ a.goes in
    (a.long, (a.fits, ltb-true flags flags_end (passed (fit_flags flags) 7 _ b.1).0))

pub stored_length : (s t : List ℕ) (v : GuestVtl) (flags : ℕ) → t ≡ stored_default s v flags → length t ≡ length s
stored_length s t v flags q = ap length q ∙ length-set s (20 + vtl_number v) flags

-- ---- a call by the lengths that it took

module _ (w : Buffers) (l : Lengths) (k : l ≡ lengths_in w) (vtl flags n : ℕ) where
  module _ (e : n ≡ default_refusal w.state (fits_in w.state l) vtl flags) where
    default_refused_by : n ≡ default_refusal w.state (fits w) vtl flags
    default_refused_by = e ∙ ap (λ (x : Lengths). default_refusal w.state (fits_in w.state x) vtl flags) k

    pub default_refused : (r : Reply) → (n ≡ 0 → ⊥) → r ≡ finished n (code_of n) 0 0 → outcome w.maps w.state w.pages w.tables r ≡ default_of w vtl flags
    unfolding default_of
    default_refused r h q = call_refused w n _ default_refused_by (default_taken (stored w (vtl_of vtl) flags) (vtl_of vtl) flags) r h q

    pub default_goes : (o : Outcome) → n ≡ 0 → o ≡ default_taken (stored w (vtl_of vtl) flags) (vtl_of vtl) flags → o ≡ default_of w vtl flags
    unfolding default_of
    default_goes o z q = call_taken w n _ default_refused_by (default_taken (stored w (vtl_of vtl) flags) (vtl_of vtl) flags) o z q

  module _ (list : List ℕ) (e : n ≡ protection_refusal w.state (fits_in w.state l) w.maps.shared w.tables vtl flags list) where
    protection_refused_by : n ≡ protection_refusal w.state (fits w) w.maps.shared w.tables vtl flags list
    protection_refused_by = e ∙ ap (λ (x : Lengths). protection_refusal w.state (fits_in w.state x) w.maps.shared w.tables vtl flags list) k

    pub protection_refused : (r : Reply) → (n ≡ 0 → ⊥) → r ≡ finished n (code_of n) 0 0 → outcome w.maps w.state w.pages w.tables r ≡ protection_of w vtl flags list
    unfolding protection_of
    protection_refused r h q = call_refused w n _ protection_refused_by (protection_taken w (vtl_of vtl) flags list) r h q

    pub protection_goes : (o : Outcome) → n ≡ 0 → o ≡ protection_taken w (vtl_of vtl) flags list → o ≡ protection_of w vtl flags list
    unfolding protection_of
    protection_goes o z q = call_taken w n _ protection_refused_by (protection_taken w (vtl_of vtl) flags list) o z q

-- ---- a step that enters no overlay carried out

pub carried_change_lem : (w : Buffers) (table : List ℕ) (x y : ChangeStep) (p : Permissions) (s : List ℕ) (r : Reply) → x ≡ y → y.entry ≡ Keep
    → p ≡ permitted_run x.written (flags_of x.change.flags) w.maps.permissions → s ≡ with_change x.stage x.change w.state
    → r ≡ flat_of (settings_of w.state).isolation x.answer
    → outcome (record { private = w.maps.private; shared = w.maps.shared; permissions = p }) s table w.tables r ≡ carried_change w table y
unfolding carried_change entered
carried_change_lem w table x y p s r e k a b c =
    rw (a, b, c) (ap (λ (z : ChangeStep). outcome (with_permissions w.maps z.written (flags_of z.change.flags)) (with_change z.stage z.change w.state) table w.tables (flat_of (settings_of w.state).isolation z.answer)) e
    ∙ ap (λ (n : Entry). outcome (with_permissions w.maps y.written (flags_of y.change.flags)) (with_change y.stage y.change w.state) table (entered n y.change w.tables) (flat_of (settings_of w.state).isolation y.answer)) (sym k))

pub ram_keeps : (tracked : Bool) (v : GuestVtl) (flags : ℕ) (r : PageRun) → (start_ram tracked v flags r).entry ≡ Keep
unfolding protect_ram protect wait ask
ram_keeps tracked v flags r = go (eqb r.count 0)
  where
    go : (b : Bool) → (cond b (wait (change_of v flags 0) Keep) (protect tracked at.ProtectRam (change_of v flags 0) (r.first + r.count) r)).entry ≡ Keep
    go true = refl
    go false = refl

-- ---- a default change, each way out, once the default is stored

module _ (w : Buffers) (v : GuestVtl) (flags : ℕ) where
  pub default_started_lem : (t : List ℕ) (x : ChangeStep) (p : Permissions) (s : List ℕ) (r : Reply) → t ≡ renewed_tables w.maps.private w.state w.tables v flags
      → x ≡ default_step w.maps.private w.state t v flags → p ≡ permitted_run x.written (flags_of x.change.flags) w.maps.permissions
      → s ≡ with_change x.stage x.change w.state → r ≡ flat_of (settings_of w.state).isolation x.answer
      → outcome (record { private = w.maps.private; shared = w.maps.shared; permissions = p }) s w.pages t r ≡ default_started (renewed_in w v flags) v flags
  unfolding default_started
  default_started_lem t x p s r d e a b c =
      carried_change_lem (buffers w.maps w.state w.pages t) w.pages x (default_step w.maps.private w.state t v flags) p s r e
      (ram_keeps (settings_of w.state).tracked v flags (first_piece w.maps.private w.state t v)) a b c
      ∙ ap (λ (u : List ℕ). carried_change (buffers w.maps w.state w.pages u) w.pages (default_step w.maps.private w.state u v flags)) d

  module _ (b : Bool) (e : b ≡ barred w.maps.private w.state w.tables v) where
    pub default_barred : (r : Reply) → b ≡ true → r ≡ finished 10 (code_of 10) 0 0 → outcome w.maps w.state w.pages w.tables r ≡ default_taken w v flags
    unfolding default_taken
    default_barred r h q =
        ap (outcome w.maps w.state w.pages w.tables) q
        ∙ ap (λ (d : Bool). cond d (refused_by w 10) (default_started (renewed_in w v flags) v flags)) (sym h ∙ e)

    pub default_free : (o : Outcome) → b ≡ false → o ≡ default_started (renewed_in w v flags) v flags → o ≡ default_taken w v flags
    unfolding default_taken
    default_free o h q = q ∙ ap (λ (d : Bool). cond d (refused_by w 10) (default_started (renewed_in w v flags) v flags)) (sym h ∙ e)

pub default_stored : (w : Buffers) (v x : GuestVtl) (flags : ℕ) (s : List ℕ) (o : Outcome) → v ≡ x → s ≡ stored_default w.state v flags
    → o ≡ default_taken (buffers w.maps s w.pages w.tables) v flags → o ≡ default_taken (stored w x flags) x flags
default_stored w v x flags s o d e q =
    q ∙ ap (λ (u : List ℕ). default_taken (buffers w.maps u w.pages w.tables) v flags) e ∙ ap (λ (y : GuestVtl). default_taken (stored w y flags) y flags) d

-- ---- whether a page of a list is shared

module _ (P : ℕ → Bool) (ps : List ℕ) (i p : ℕ) (h : i < length ps) (e : p ≡ get_or ps i 0) (b : Bool) (g : b ≡ P p) where
  any_step : barring.any_of P (drop i ps) ≡ (b || barring.any_of P (drop (i + 1) ps))
  unfolding barring.any_of
  any_step = ap (barring.any_of P) (drop-cons ps i 0 h) ∙ rw (← e, ← g, add-one i)

  pub any_hit : b ≡ true → barring.any_of P (drop i ps) ≡ true
  any_hit d = any_step ∙ ap (λ (k : Bool). k || barring.any_of P (drop (i + 1) ps)) d

  pub any_miss : b ≡ false → barring.any_of P (drop i ps) ≡ barring.any_of P (drop (i + 1) ps)
  any_miss d = any_step ∙ ap (λ (k : Bool). k || barring.any_of P (drop (i + 1) ps)) d

pub any_end : (P : ℕ → Bool) (ps : List ℕ) (i : ℕ) → length ps ≤ i → barring.any_of P (drop i ps) ≡ false
unfolding barring.any_of
any_end P ps i h = ap (barring.any_of P) (drop_of_length-le ps {i = i} h)

-- ---- the first step of a protection change enters no overlay

pub pages_keep : (tracked : Bool) (v : GuestVtl) (flags n : ℕ) (t : List ℕ) → (start_pages tracked v flags n t).entry ≡ Keep
unfolding protect_pages protect wait ask
pages_keep tracked v flags n t = go (ltb 0 n)
  where
    go : (b : Bool) → (cond b (protect tracked at.ProtectPages (change_of v flags n) 0 (run_at t n 0)) (wait (change_of v flags n) Keep)).entry ≡ Keep
    go true = refl
    go false = refl

-- ---- a protection change that isn't refused

pub listed_passed : (s : List ℕ) (fit : Bool) (shared t : List ℕ) (vtl flags : ℕ) (l : List ℕ) → protection_refusal s fit shared t vtl flags l ≡ 0
    → (length s ≡ state_len) × ((fit ≡ true) × (length l ≤ 4096))
unfolding protection_refusal
listed_passed s fit shared t vtl flags l z =
    let a = is_ready s fit _ z in
    (a.long, (a.fits, long_le l (ap not (when_passed (is_long l) 4 _ a.goes).0)))

module _ (w : Buffers) (vtl flags : ℕ) (l : List ℕ) (n : ℕ) (e : n ≡ protection_refusal w.state (fits w) w.maps.shared w.tables vtl flags l) (z : n ≡ 0) where
  pub protection_passed : (length w.state ≡ state_len) × (fits w ≡ true) × (length l ≤ 4096)
  protection_passed = let a = listed_passed w.state (fits w) w.maps.shared w.tables vtl flags l (sym e ∙ z) in (a.0, a.1.0, a.1.1)

  pub table_fits : length w.pages ≡ pages_len
  table_fits = fits_pages w protection_passed.1

pub protection_made : (w : Buffers) (v x : GuestVtl) (flags : ℕ) (l : List ℕ) (count : ℕ) (table : List ℕ) (y : ChangeStep) (p : Permissions) (s : List ℕ) (r : Reply)
    → v ≡ x → count ≡ length (pages_of l) → table ≡ all_listed l w.pages → y ≡ protection_step w.state table v flags count
    → p ≡ permitted_run y.written (flags_of y.change.flags) w.maps.permissions → s ≡ with_change y.stage y.change w.state
    → r ≡ flat_of (settings_of w.state).isolation y.answer
    → outcome (record { private = w.maps.private; shared = w.maps.shared; permissions = p }) s table w.tables r ≡ protection_taken w x flags l
unfolding protection_taken
protection_made w v x flags l count table y p s r d n t e a b c =
    carried_change_lem w table y (protection_step w.state table v flags count) p s r e (pages_keep (settings_of w.state).tracked v flags count table) a b c
    ∙ ap₂ (λ (u : List ℕ) (j : ℕ). carried_change w u (protection_step w.state u v flags j)) t n
    ∙ ap (λ (q : GuestVtl). carried_change w (all_listed l w.pages) (protection_step w.state (all_listed l w.pages) q flags (length (pages_of l)))) d

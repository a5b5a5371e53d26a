-- A build that is taken leaves buffers at rest; so THE CLAIM holds of every list of calls from it, wherever it stops. Assumes nothing.
use Prim.Native.Nat.{ℕ, ◌-◌, ◌*◌, ◌/◌, ◌<◌, ◌≤◌}
use mathlib.Core.Path.{◌≡◌, refl, sym, ap, ◌∙◌, subst, fun_ext}
use mathlib.Core.List.{List, []}
use mathlib.Core.Bool.{Bool, true, false, cond, ◌&&◌}
use native.Mathlib.Omega.{arith}
use lib.ListN.{length, replicate, length-replicate, length-append}
use lib.Seq.{take_at}
use lib.Dec.{eqb, ltb}
use borrow.Author.Tests.{eqb-true, eqb-false, lt-ltb}
use Rattle.laws.specs.Bools.{and_left, and_right, and_true}
use Rattle.laws.specs.Refusal.{passed, first_passed}
use Rattle.bitmap.specs.Pages.{bit_at}
use Rattle.bitmap.proofs.Map.{length_written}
use Rattle.layout.specs.declared.MemoryRangeWithNode.{MemoryRangeWithNode}
use Rattle.layout.specs.Layout.{entries_of, refusal_of, is_ram, map_len}
use Rattle.layout.proofs.Laws.{Fit, fit, entries_count, page_in_map}
use Rattle.permissions.specs.declared.GuestVtl.{GuestVtl}
use Rattle.permissions.specs.declared.GuestVtl.TheVariants.{Vtl0, Vtl1}
use Rattle.permissions.specs.Flags.{fit_isolation, fit_bool, bool_of}
use Rattle.mapping.specs.Maps.{Permissions, fresh, marks_fit, lengths_of}
use Rattle.mapping.proofs.Marks.{fresh_page}
use Rattle.overlay_table.specs.Overlays as overlays
use Rattle.overlay_table.specs.Overlays.{flat}
use Rattle.lock_entries.proofs.Limits.{none_locked}
use Rattle.protector_state.specs.declared.Reply.{Reply}
use Rattle.protector_state.specs.State.{state_len, first_phases, phase_of, built_state, settings_of, ram_of, entries_in}
use Rattle.call_refusals.specs.Buffers.{Buffers, Outcome, tables_len, overlays_of, locks_of, lengths_fit, lengths_in}
use Rattle.protector.specs.Calls.{refused_by, build_taken, build_of}
use Rattle.call_refusals.specs.Refusals.{build_fits, build_refusal, tested_of}
use Rattle.call_refusals.proofs.Laws.{maps_fit_lem}
use Rattle.history.specs.Observed.{Observed, Took, took_as, unseen}
use Rattle.history.specs.Marks.{Has, read_off, Settled}
use Rattle.history.specs.Tables.{EachFits, Overlays, EachShort, Locked, Tables}
use Rattle.history.specs.Settings.{first_settings, SettingsFit}
use Rattle.history.specs.Permitted.{Inside}
use Rattle.history.specs.Resting.{Rests}
use Rattle.history.specs.Made.{Built}
use Rattle.history.specs.History.{History}
use Rattle.history.proofs.Bits.{clash}
use Rattle.call_refusals.proofs.Laws.{fits_tables}
use Rattle.history.specs.Answered.{given}
use Rattle.history.specs.Claim.{ClaimFrom, Claim}
use Rattle.history.proofs.Is.{build_is}
use Rattle.history.proofs.Passed.{Fitting}
use Rattle.history.proofs.Histories.{Lent}
use Rattle.history.proofs.Restart.{settled_hold, settled_lent}

ram_built : (ram : List ℕ) (i t r : ℕ) → Fit ram → ram_of (built_state ram i t r) ≡ ram
ram_built ram i t r k =
    let n : length ram ≡ 3 * length (entries_of ram) = omega (arith, k.divided, entries_count ram) in
    take_at ram (replicate (96 - length ram) 0) (3 * length (entries_of ram)) n

entries_built : (ram : List ℕ) (i t r : ℕ) → Fit ram → entries_in (built_state ram i t r) ≡ entries_of ram
entries_built ram i t r k = ap entries_of (ram_built ram i t r k)

-- a map as a build leaves it
length_fresh : (es : List MemoryRangeWithNode) (s : Bool) (n : ℕ) → length (fresh es s n) ≡ n
length_fresh es s n = length_written 8 (is_ram es) s (replicate n 0) ∙ length-replicate {A = ℕ} n 0

fresh_has : (es : List MemoryRangeWithNode) (n z : ℕ) → is_ram es z ≡ true → z / 8 < n → Has (fresh es true n) z
fresh_has es n z r h = fresh_page es true n z ∙ ap (λ (b : Bool). cond b true false) (and_true (is_ram es z) (ltb (z / 8) n) r (lt-ltb _ _ h))

fresh_ram : (es : List MemoryRangeWithNode) (n z : ℕ) → Has (fresh es true n) z → is_ram es z ≡ true
fresh_ram es n z h = go (is_ram es z) (ltb (z / 8) n) (sym (fresh_page es true n z) ∙ h)
  where
    go : (a b : Bool) → cond (a && b) true false ≡ true → a ≡ true
    go true b e = refl
    go false b e = e

fresh_bare : (es : List MemoryRangeWithNode) (n z : ℕ) → bit_at 8 (fresh es false n) z ≡ false
fresh_bare es n z = fresh_page es false n z ∙ go (is_ram es z && ltb (z / 8) n)
  where
    go : (b : Bool) → cond b false false ≡ false
    go true = refl
    go false = refl

fresh_none : (es : List MemoryRangeWithNode) (n z : ℕ) → Has (fresh es false n) z → ⊥
fresh_none es n z h = clash _ h (fresh_bare es n z)

module _ (u : Buffers) (ram : List ℕ) (i t r : ℕ) (z : build_refusal ram i t r (build_fits (map_len (entries_of ram)) t (length u.state) (lengths_in u)) ≡ 0) where
  abbrev es : List MemoryRangeWithNode
  es = entries_of ram

  ram_taken : refusal_of ram ≡ 0
  unfolding build_refusal
  ram_taken = (first_passed (refusal_of ram) _ z).0

  well : Fit ram
  well = fit ram ram_taken

  lengths : build_fits (map_len es) t (length u.state) (lengths_in u) ≡ true
  unfolding build_refusal
  lengths =
      let b = passed (fit_isolation i) 2 _ (first_passed (refusal_of ram) _ z).1 in
      (passed (build_fits (map_len es) t (length u.state) (lengths_in u)) 3 _ b.1).0

  short_ram : length ram ≤ 96
  short_ram = omega (arith, well.divided, well.few, entries_count ram)

  tracked_fit : fit_bool t ≡ true
  unfolding build_refusal
  tracked_fit =
      let b = passed (fit_isolation i) 2 _ (first_passed (refusal_of ram) _ z).1 in
      let c = passed (build_fits (map_len es) t (length u.state) (lengths_in u)) 3 _ b.1 in
      (passed (fit_bool t) 7 _ c.1).0

  all_fit : lengths_fit (map_len es) (bool_of t) (lengths_in u) ≡ true
  all_fit = subst (λ (b : Bool). lengths_fit (map_len es) (bool_of t) (cond b (lengths_in u) (tested_of 2 (lengths_in u))) ≡ true) tracked_fit (and_right (eqb (length u.state) state_len) _ lengths)

  long_private : length u.maps.private ≡ map_len es
  long_private = eqb-true _ _ (and_left _ _ (and_left (marks_fit (map_len es) (lengths_of u.maps)) _ (maps_fit_lem (map_len es) (bool_of t) (lengths_in u) all_fit)))

  built_long : length (built_state ram i t r) ≡ state_len
  built_long = omega (arith, length-append ram (replicate (96 - length ram) 0), length-replicate {A = ℕ} (96 - length ram) 0, short_ram)

  same_long : (s : Bool) (m : List ℕ) → length (fresh es s (length m)) ≡ length m
  same_long s m = length_fresh es s (length m)

  built_fitting : Fitting (build_taken u ram i t r).buffers
  unfolding build_taken
  built_fitting =
      record {
        long = built_long;
        fit =
            let p : Permissions = u.maps.permissions in
            rw (entries_built ram i t r well, same_long true u.maps.private, same_long false u.maps.shared, same_long true p.read, same_long true p.write, same_long true p.kernel, same_long true p.user, length-replicate {A = ℕ} (length u.pages) 0, length-replicate {A = ℕ} (length u.tables) 0)
            all_fit;
      }

  -- nothing is under way, and each RAM page is marked private
  taken_settled : Settled (build_taken u ram i t r).buffers
  unfolding build_taken phase_of first_phases
  taken_settled =
      let same : entries_in (built_state ram i t r) ≡ es = entries_built ram i t r well in
      record {
        layout = ap refusal_of (ram_built ram i t r well) ∙ ram_taken;
        idle = refl;
        long = built_fitting.long;
        lent = built_fitting.fit;
        private_ram_lem = λ z h. ap (λ (es : List MemoryRangeWithNode). is_ram es z) same ∙ fresh_ram es (length u.maps.private) z h;
        shared_ram = λ z h. absurd (fresh_none es (length u.maps.shared) z h);
        never_both = λ z _ h. fresh_none es (length u.maps.shared) z h;
        either = λ z r _. let q : is_ram es z ≡ true = sym (ap (λ (es : List MemoryRangeWithNode). is_ram es z) same) ∙ r in fresh_has es (length u.maps.private) z q (omega (arith, long_private, page_in_map ram z well q));
      }

  taken_entries : entries_in (build_taken u ram i t r).buffers.state ≡ es
  unfolding build_taken
  taken_entries = entries_built ram i t r well

  taken_unseen : read_off (build_taken u ram i t r).buffers.maps ≡ unseen
  unfolding build_taken
  taken_unseen = ap (λ (f : ℕ → Took). record { op = unseen.op; table = unseen.table; halted = false; listed = unseen.listed; last = f; age = unseen.age }) (fun_ext (λ z. ap took_as (fresh_bare es (length u.maps.shared) z)))

-- a build whose reply has no number of a refusal was taken
build_taken_lem : (u w : Buffers) (ram : List ℕ) (i t r : ℕ) (reply : Reply) → given w reply ≡ build_of u ram i t r → reply.number ≡ 0
    → (build_refusal ram i t r (build_fits (map_len (entries_of ram)) t (length u.state) (lengths_in u)) ≡ 0) × ((build_taken u ram i t r).buffers ≡ w)
unfolding build_of
build_taken_lem u w ram i t r reply e d = go (eqb n 0) refl e
  where
    n : ℕ
    n = build_refusal ram i t r (build_fits (map_len (entries_of ram)) t (length u.state) (lengths_in u))

    go : (b : Bool) → eqb n 0 ≡ b → given w reply ≡ cond b (build_taken u ram i t r) (refused_by u n) → (n ≡ 0) × ((build_taken u ram i t r).buffers ≡ w)
    go true h e = (eqb-true n 0 h, ap (λ (X : Outcome). X.buffers) (sym e))
    go false h e = absurd (eqb-false n 0 h (sym (ap (λ (X : Outcome). X.reply.number) e) ∙ d))

-- ---- its tables: nothing is entered, nothing is locked

none_entered : (es : List MemoryRangeWithNode) (v : GuestVtl) → Overlays es (overlays_of (replicate tables_len 0) v)
unfolding overlays.table_of flat EachFits
none_entered es Vtl0 = record { entries = []; few = omega arith; fit = tt; words = refl }
none_entered es Vtl1 = record { entries = []; few = omega arith; fit = tt; words = refl }

none_kept : (v : GuestVtl) → Locked (locks_of (replicate tables_len 0) v)
unfolding EachShort
none_kept Vtl0 = record { lists = []; fit = none_locked.fit Vtl0; short = tt; words = none_locked.words Vtl0 }
none_kept Vtl1 = record { lists = []; fit = none_locked.fit Vtl1; short = tt; words = none_locked.words Vtl1 }

pub empty_tables : (es : List MemoryRangeWithNode) → Tables es (replicate tables_len 0)
empty_tables es = record { long = none_locked.long; overlays = none_entered es; locks = none_kept }

-- ---- a build that was taken

module _ {ram : List ℕ} {i t r : ℕ} {u w : Buffers} {reply : Reply} (b : Built ram i t r u w reply) (d : reply.number ≡ 0) where
  was : (build_refusal ram i t r (build_fits (map_len (entries_of ram)) t (length u.state) (lengths_in u)) ≡ 0) × ((build_taken u ram i t r).buffers ≡ w)
  was = build_taken_lem u w ram i t r reply (build_is b) d

  -- the buffers that it leaves are settled, and what is read off its marks is what is seen at a build: one start among those that Restart is about
  pub built_settled : Settled w
  built_settled = subst (λ (w : Buffers). Settled w) was.1 (taken_settled u ram i t r was.0)

  pub built_unseen : read_off w.maps ≡ unseen
  built_unseen = subst (λ (w : Buffers). read_off w.maps ≡ unseen) was.1 (taken_unseen u ram i t r was.0)

  same_entries : entries_in w.state ≡ entries_of ram
  same_entries = subst (λ (w : Buffers). entries_in w.state ≡ entries_of ram) was.1 (taken_entries u ram i t r was.0)

  first_settings_lem : settings_of (build_taken u ram i t r).buffers.state ≡ first_settings i t r
  unfolding build_taken
  first_settings_lem = refl

  zeros : w.tables ≡ replicate (length u.tables) 0
  unfolding build_taken
  zeros = ap (λ (w : Buffers). w.tables) (sym was.1)

  no_words : w.tables ≡ replicate tables_len 0
  no_words =
      zeros ∙ ap (λ (n : ℕ). replicate n 0) (sym (length-replicate {A = ℕ} (length u.tables) 0) ∙ ap (length {A = ℕ}) (sym zeros) ∙ fits_tables w built_settled.lent)

  fresh_settings : SettingsFit i t r (build_taken u ram i t r).buffers.state
  unfolding build_taken build_refusal
  fresh_settings =
      let a = first_passed (refusal_of ram) _ was.0 in
      let c = passed (fit_isolation i) 2 _ a.1 in
      let e = passed (build_fits (map_len (entries_of ram)) t (length u.state) (lengths_in u)) 3 _ c.1 in
      let f = passed (fit_bool t) 7 _ e.1 in
      record {
        same_isolation = refl;
        same_tracked = refl;
        same_release = refl;
        fit_isolation_lem = c.0;
        fit_tracked = f.0;
        fit_release = (passed (fit_bool r) 7 _ f.1).0;
        enabled = omega arith;
        only_tracked = λ e. absurd (omega (arith, e));
        default0 = omega arith;
        default1 = omega arith;
      }

  fresh_inside : Inside (entries_of ram) (build_taken u ram i t r).buffers.maps.permissions
  unfolding build_taken
  fresh_inside =
      let es : List MemoryRangeWithNode = entries_of ram in
      let m : Permissions = u.maps.permissions in
      record { read = fresh_ram es (length m.read); write = fresh_ram es (length m.write); kernel = fresh_ram es (length m.kernel); user = fresh_ram es (length m.user) }

  -- all else is as it should be
  pub built_starts : Rests i t r w
  built_starts =
      record {
        settled = built_settled;
        tables = subst (λ (x : List ℕ). Tables (entries_in w.state) x) (sym no_words) (empty_tables (entries_in w.state));
        settings = subst (λ (w : Buffers). SettingsFit i t r w.state) was.1 fresh_settings;
        inside = subst (λ (es : List MemoryRangeWithNode). Inside es w.maps.permissions) (sym same_entries) (subst (λ (w : Buffers). Inside (entries_of ram) w.maps.permissions) was.1 fresh_inside);
      }

-- THE CLAIM, of every list of calls of the protector's entries from a build that was taken, refused calls and refused builds among them, wherever it stops
module _ {ram : List ℕ} {i t r : ℕ} {u w v : Buffers} {reply : Reply} {o : Observed} (b : Built ram i t r u w reply) (d : reply.number ≡ 0) (h : History w unseen v o) where
  pub calls_hold : Claim ram i t r u reply h
  calls_hold =
      record {
        built = build_is b;
        first = subst (λ (w : Buffers). settings_of w.state ≡ first_settings i t r) (was b d).1 (first_settings_lem b d);
        calls =
            subst (λ (a : Observed). (h : History w a v o) → ClaimFrom (entries_of ram) i t r h) (built_unseen b d)
            (subst (λ (es : List MemoryRangeWithNode). (h : History w (read_off w.maps) v o) → ClaimFrom es i t r h) (same_entries b d) (λ h. settled_hold w (built_starts b d) h))
            h;
      }

  -- the invariant stands, and what was last left has its lengths
  pub lent_holds : Lent (entries_of ram) v o
  lent_holds =
      subst (λ (a : Observed). History w a v o → Lent (entries_of ram) v o) (built_unseen b d)
      (λ h. subst (λ (es : List MemoryRangeWithNode). Lent es v o) (same_entries b d) (settled_lent w (built_settled b d) h)) h

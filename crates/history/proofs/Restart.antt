-- A list of calls may begin at any buffers at rest: THE CLAIM holds of it, what was last taken there being read off the marks. Assumes nothing.
use native.Mathlib.Omega.{arith}
use Prim.Native.Nat.{ℕ, ◌/◌, ◌<◌}
use mathlib.Core.Path.{◌≡◌, refl, sym, ap, ◌∙◌}
use mathlib.Core.List.{List, []}
use mathlib.Core.Bool.{Bool, true, false, cond}
use lib.Dec.{eqb}
use Rattle.abi.specs.Refusals as refusal
use Rattle.bitmap.specs.Pages.{bit_at}
use Rattle.layout.specs.declared.MemoryRangeWithNode.{MemoryRangeWithNode}
use Rattle.layout.specs.Layout.{ordered, is_ram, map_len}
use Rattle.layout.proofs.Laws.{fit, page_in_map}
use Rattle.page_list.specs.Pages.{among}
use Rattle.permissions.specs.Flags.{isolation_of}
use Rattle.visibility_steps.specs.declared.Phase.{Phase}
use Rattle.visibility_steps.specs.declared.Phase.TheVariants as at
use Rattle.visibility_steps.specs.Steps.{is_snp}
use Rattle.protector_state.specs.Changing.{is_changing}
use Rattle.protector_state.specs.State.{phase_in, request_of, settings_of, ram_of, entries_in}
use Rattle.call_refusals.specs.Buffers.{Buffers, status_of}
use Rattle.history.specs.Observed.{Observed, is_waiting}
use Rattle.history.specs.Marks.{Has, Exact, Marked, read_off, Settled}
use Rattle.history.specs.Resting.{Rests}
use Rattle.history.specs.Claim.{ClaimFrom}
use Rattle.history.specs.History.{History}
use Rattle.history.proofs.Bits.{clash}
use Rattle.history.proofs.Right.{Right, Names, opened}
use Rattle.history.proofs.Took.{is_shared, shared_in, shared_as, is_private, is_shared_lem}
use Rattle.history.proofs.Buffers.{Stands, right_same}
use Rattle.history.proofs.Ages.{Aged}
use Rattle.history.proofs.Aging.{Snp}
use Rattle.history.proofs.Answered.{answered, composed}
use Rattle.history.proofs.Follows.{asked_from}
use Rattle.history.proofs.Fits.{private_long, shared_long}
use Rattle.history.proofs.Histories.{Unlisted, Lent, lent_kept, history_keeps}
use Rattle.history.proofs.Tables.{pending_idle}
use Rattle.history.proofs.PermittedCalls.{not_listing}
use Rattle.history.proofs.Invariant.{Invariant, invariant_kept}
use Rattle.history.proofs.Unasked.{unasked}

-- ---- what the invariant says of the marks

stands_exact : (es : List MemoryRangeWithNode) (w : Buffers) (o : Observed) → Stands es w o → (z : ℕ) → is_ram es z ≡ true → among o.listed z ≡ false → Exact w.maps o z
stands_exact es w o k z r off =
    let g = k.right in
    let f = g.full z r (λ j a b d y. clash (among o.listed z) (ap (among o.listed) (sym y) ∙ g.named a j b d) off) (λ _. off) in
    record {
      private = λ e. f.0 (ap is_shared e);
      private_only = λ h. is_private (o.last z) (g.only_private z h);
      shared = λ e. f.1 (ap is_shared e);
      shared_only = λ h. is_shared_lem (o.last z) (g.only_shared z h);
    }

stands_marked : (es : List MemoryRangeWithNode) (w : Buffers) (o : Observed) → Stands es w o → Unlisted w o → Marked es w.maps o
unfolding among
stands_marked es w o k n =
    let g = k.right in
    record {
      exact = stands_exact es w o k;
      at_rest = λ f h z r. stands_exact es w o k z r (ap (λ (l : List ℕ). among l z) (n f h));
      private_right = λ z h. is_private (o.last z) (g.only_private z h);
      shared_right = λ z h. is_shared_lem (o.last z) (g.only_shared z h);
      never_both = λ z a b. clash (shared_in o z) (g.only_shared z b) (g.only_private z a);
      private_ram_lem = g.private_ram_lem;
      shared_ram = g.shared_ram;
    }

-- of every list of calls from any buffers that meet the invariant, whatever was seen before
claim_from : (es : List MemoryRangeWithNode) (l : List ℕ) (i t r : ℕ) {w : Buffers} {a : Observed} {v : Buffers} {o : Observed} → Invariant es l i t r w a → ordered 0 es ≡ true → is_waiting a ≡ false
    → (h : History w a v o) → ClaimFrom es i t r h
claim_from es l i t r {w} {a} {v} {o} k order free h =
    let x : Invariant es l i t r v o = invariant_kept es l i t r h k in
    record {
      unasked = unasked;
      answered = answered h;
      composed = composed h;
      asked = asked_from es k.stands order free h;
      long = x.fitting.long;
      lent = x.fitting.fit;
      layout = x.stands.layout;
      holds = record { marks = stands_marked es v o x.stands x.unlisted; settled = λ e. (x.ages e).ages.settled };
      tables = x.tables;
      settings = x.settings;
      permitted = x.permitted;
    }

-- ---- where nothing is under way

no_status : (n : ℕ) → eqb n 0 ≡ false → n ≡ 0 → ⊥
no_status n e z = clash (eqb n 0) (ap (λ n. eqb n 0) z) e

by_idle : (C : Phase → Type 0) (p : Phase) → status_of p ≡ 0 → C at.Idle → C p
by_idle C at.Idle e c = c
by_idle C at.Halted e c = absurd (no_status (status_of at.Halted) refl e)
by_idle C at.Wait e c = absurd (no_status (status_of at.Wait) refl e)
by_idle C at.FlushAll e c = absurd (no_status (status_of at.FlushAll) refl e)
by_idle C at.ProtectNone0 e c = absurd (no_status (status_of at.ProtectNone0) refl e)
by_idle C at.ProtectNone1 e c = absurd (no_status (status_of at.ProtectNone1) refl e)
by_idle C at.Invalidate e c = absurd (no_status (status_of at.Invalidate) refl e)
by_idle C at.Release e c = absurd (no_status (status_of at.Release) refl e)
by_idle C at.Modify e c = absurd (no_status (status_of at.Modify) refl e)
by_idle C at.Accept e c = absurd (no_status (status_of at.Accept) refl e)
by_idle C at.Zero e c = absurd (no_status (status_of at.Zero) refl e)
by_idle C at.ProtectDefault0 e c = absurd (no_status (status_of at.ProtectDefault0) refl e)
by_idle C at.ProtectDefault1 e c = absurd (no_status (status_of at.ProtectDefault1) refl e)

resting : (b : Bool) (p : Phase) → cond b refusal.busy (status_of p) ≡ 0 → status_of p ≡ 0
resting true p e = absurd (no_status refusal.busy refl e)
resting false p e = e

module _ (w : Buffers) (k : Settled w) where
  abbrev es : List MemoryRangeWithNode
  es = entries_in w.state

  room : (z : ℕ) → is_ram es z ≡ true → z / 8 < map_len es
  room z r = page_in_map (ram_of w.state) z (fit (ram_of w.state) k.layout) r

  abbrev p : Phase
  p = phase_in w.state

  rests : status_of p ≡ 0
  rests = resting (is_changing w.state) p k.idle

  unshared : (z : ℕ) → Has w.maps.private z → bit_at 8 w.maps.shared z ≡ false
  unshared z h = go (bit_at 8 w.maps.shared z) refl
    where
      go : (b : Bool) → bit_at 8 w.maps.shared z ≡ b → bit_at 8 w.maps.shared z ≡ false
      go false e = e
      go true e = absurd (k.never_both z h e)

  right : Right (is_ram es) w.maps.private w.maps.shared at.Idle (request_of w.state) w.pages false [] (λ z. bit_at 8 w.maps.shared z)
  right =
      record {
        room_private = λ z r. omega (arith, private_long w k.lent, room z r);
        room_shared = λ z r. omega (arith, shared_long w k.lent, room z r);
        private_ram_lem = k.private_ram_lem;
        shared_ram = k.shared_ram;
        only_private = unshared;
        only_shared = λ z h. h;
        full = λ z r a off. (k.either z r, λ e. e);
        bare = λ e. clash false e refl;
        once = λ e. clash false e refl;
        toward = λ e. clash false e refl;
        within = λ e. clash false e refl;
        named = λ e. clash false e refl;
      }

  pub settled_stands : Stands es w (read_off w.maps)
  settled_stands =
      record {
        layout = refl;
        right = right_same (shared_in (read_off w.maps)) false (λ z. shared_as (bit_at 8 w.maps.shared z))
            (by_idle (λ (p : Phase). Right (is_ram es) w.maps.private w.maps.shared p (request_of w.state) w.pages false [] (λ z. bit_at 8 w.maps.shared z)) p rests right);
        halts = sym (ap (λ (n : ℕ). eqb n refusal.halted) k.idle);
        waits = sym (ap (λ (n : ℕ). eqb n refusal.busy) k.idle);
        names = by_idle (λ (p : Phase). Names p (request_of w.state) w.pages (read_off w.maps).op) p rests refl;
        table = by_idle (λ (p : Phase). opened p ≡ true → [] ≡ w.pages) p rests (λ e. clash false e refl);
      }

  settled_aged : is_snp (settings_of w.state).isolation ≡ true → Snp w (read_off w.maps)
  settled_aged e =
      record {
        snp = e;
        ages = by_idle (λ (p : Phase). Aged w.maps.private p (request_of w.state) w.pages (read_off w.maps).age) p rests
            (record { settled = λ z h. refl; long = λ o. clash false o refl; came = λ o. clash false o refl; past = λ o. clash false o refl; valid = λ o. clash false o refl });
      }

  -- the invariant stands, and what was last left has its lengths
  pub settled_lent : {v : Buffers} {o : Observed} → History w (read_off w.maps) v o → Lent es v o
  settled_lent h = history_keeps (Lent es) (lent_kept es) h (record { first = settled_stands; second = record { long = k.long; fit = k.lent } })

-- ---- and all else is as it should be

module _ {i t r : ℕ} (w : Buffers) (k : Rests i t r w) where
  rests_invariant : Invariant (entries_in w.state) (ram_of w.state) i t r w (read_off w.maps)
  rests_invariant =
      record {
        stands = settled_stands w k.settled;
        tables = record { tables = k.tables; pending = pending_idle (entries_in w.state) w.state w.tables k.settled.idle };
        permitted = record { inside = k.inside; listed = λ e. absurd (not_listing w.state k.settled.idle e) };
        ages = λ e. settled_aged w k.settled (ap (λ (n : ℕ). is_snp (isolation_of n)) k.settings.same_isolation ∙ e);
        fitting = record { long = k.settled.long; fit = k.settled.lent };
        unlisted = λ _ _. refl;
        settings = k.settings;
        ram = refl;
      }

  -- THE CLAIM
  pub settled_hold : {v : Buffers} {o : Observed} (h : History w (read_off w.maps) v o) → ClaimFrom (entries_in w.state) i t r h
  settled_hold h = claim_from (entries_in w.state) (ram_of w.state) i t r rests_invariant (fit (ram_of w.state) k.settled.layout).in_order refl h

  pub settled_invariant : {v : Buffers} {o : Observed} → History w (read_off w.maps) v o → Invariant (entries_in w.state) (ram_of w.state) i t r v o
  settled_invariant h = invariant_kept (entries_in w.state) (ram_of w.state) i t r h rests_invariant

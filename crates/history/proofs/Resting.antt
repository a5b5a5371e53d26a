-- Wherever a list of calls stops with nothing under way, all is as it was where it began: a list may begin there too, as from a build. Assumes nothing.
use mathlib.Core.Path.{◌≡◌, refl, sym, ap, ◌∙◌, subst}
use mathlib.Core.Bool.{Bool, true, false}
use mathlib.Core.List.{List}
use Prim.Native.Nat.{ℕ}
use lib.Dec.{eqb}
use Rattle.abi.specs.Refusals as refusal
use Rattle.bitmap.specs.Pages.{bit_at}
use Rattle.layout.specs.declared.MemoryRangeWithNode.{MemoryRangeWithNode}
use Rattle.layout.specs.Layout.{refusal_of, is_ram}
use Rattle.protector_state.specs.declared.Reply.{Reply}
use Rattle.protector_state.specs.State.{phase_in, ram_of, entries_in}
use Rattle.protector_state.specs.Changing.{is_changing}
use Rattle.call_refusals.specs.Buffers.{Buffers, status_in}
use Rattle.history.specs.Observed.{Observed, unseen}
use Rattle.history.specs.Marks.{Has, read_off, Settled}
use Rattle.history.specs.Made.{Built}
use Rattle.history.specs.History.{History}
use Rattle.history.specs.Tables.{Tables}
use Rattle.history.specs.Permitted.{Inside}
use Rattle.history.specs.Resting.{Rests}
use Rattle.history.proofs.Bits.{clash}
use Rattle.history.proofs.Took.{shared_in}
use Rattle.history.proofs.Right.{opened}
use Rattle.history.proofs.Buffers.{idle_shut}
use Rattle.history.proofs.Invariant.{Invariant}
use Rattle.history.proofs.Restart.{settled_invariant}
use Rattle.history.proofs.Claim.{built_starts, built_unseen}

-- ---- nothing under way

module _ (es : List MemoryRangeWithNode) (v : Buffers) (o : Observed) {l : List ℕ} {i t r : ℕ} (k : Invariant es l i t r v o) (layout : refusal_of (ram_of v.state) ≡ 0) (idle : status_in v.state ≡ 0) where
  in_ram : (z : ℕ) → is_ram es z ≡ true → is_ram (entries_in v.state) z ≡ true
  in_ram z h = ap (λ (y : List MemoryRangeWithNode). is_ram y z) k.stands.layout ∙ h

  shut : opened (phase_in v.state) ≡ false
  shut = idle_shut (is_changing v.state) (phase_in v.state) idle

  free : o.halted ≡ false
  free = k.stands.halts ∙ ap (λ (n : ℕ). eqb n refusal.halted) idle

  marked : (z : ℕ) → is_ram (entries_in v.state) z ≡ true → bit_at 8 v.maps.shared z ≡ false → Has v.maps.private z
  marked z r e = go (shared_in o z) refl
    where
      full : (shared_in o z ≡ false → Has v.maps.private z) × (shared_in o z ≡ true → Has v.maps.shared z)
      full = k.stands.right.full z (ap (λ (y : List MemoryRangeWithNode). is_ram y z) (sym k.stands.layout) ∙ r) (λ j d. clash _ d shut) (λ d. clash o.halted d free)

      go : (b : Bool) → shared_in o z ≡ b → Has v.maps.private z
      go false d = full.0 d
      go true d = clash (bit_at 8 v.maps.shared z) (full.1 d) e

  rest_settled : Settled v
  rest_settled =
      record {
        layout = layout;
        idle = idle;
        long = k.fitting.long;
        lent = k.fitting.fit;
        private_ram_lem = λ z h. in_ram z (k.stands.right.private_ram_lem z h);
        shared_ram = λ z h. in_ram z (k.stands.right.shared_ram z h);
        never_both = λ z a b. clash (shared_in o z) (k.stands.right.only_shared z b) (k.stands.right.only_private z a);
        either = marked;
      }

-- ---- from one such stop to the next, and from a build on

pub rests_again : (i t r : ℕ) (w : Buffers) → Rests i t r w → {v : Buffers} {o : Observed} → History w (read_off w.maps) v o → status_in v.state ≡ 0 → Rests i t r v
rests_again i t r w k {v} {o} h idle =
    let x : Invariant (entries_in w.state) (ram_of w.state) i t r v o = settled_invariant w k h in
    let same : entries_in w.state ≡ entries_in v.state = sym x.stands.layout in
    record {
      settled = rest_settled (entries_in w.state) v o x (ap refusal_of x.ram ∙ k.settled.layout) idle;
      tables = subst (λ (es : List MemoryRangeWithNode). Tables es v.tables) same x.tables.tables;
      settings = x.settings;
      inside = subst (λ (es : List MemoryRangeWithNode). Inside es v.maps.permissions) same x.permitted.inside;
    }

pub built_rests : {ram : List ℕ} {i t r : ℕ} {u w : Buffers} {reply : Reply} → Built ram i t r u w reply → reply.number ≡ 0 → {v : Buffers} {o : Observed} → History w unseen v o → status_in v.state ≡ 0 → Rests i t r v
built_rests {i = i} {t = t} {r = r} {w = w} b d {v} {o} h idle = rests_again i t r w (built_starts b d) (subst (λ (a : Observed). History w a v o) (sym (built_unseen b d)) h) idle

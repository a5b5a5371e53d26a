-- The frame: the calls on locks write the tables alone, the setter one word of the settings, those that only read nothing, and nothing is seen of any of them. What other
-- tables of their length and that word leave as it was, these calls leave so. Assumes nothing.
use Prim.Native.Nat.{ℕ}
use mathlib.Core.Path.{◌≡◌, refl}
use mathlib.Core.Bool.{Bool, true, false, cond}
use mathlib.Core.List.{List}
use lib.Dec.{eqb}
use lib.ListN.{length, set}
use borrow.Author.Tests.{eqb-true}
use Rattle.laws.specs.Refusal.{passed}
use Rattle.call_refusals.proofs.Laws.{is_ready}
use Rattle.permissions.specs.HvError.{code_of}
use Rattle.protector_state.specs.Reply.{finished}
use Rattle.protector_state.specs.State.{state_len, settings_of}
use Rattle.call_refusals.specs.Buffers.{Buffers, buffers}
use Rattle.setting_entries.specs.Calls.{enable_refusal, enabled, enable_of}
use Rattle.history.specs.Observed.{Observed}
use Rattle.history.specs.Call.{Visibility, Protection, Default, Register, Unregister, Lock, Unlock, Enable, Call, Write, Read, Answer, gives, sees}
use Rattle.history.proofs.Bits.{clash}
use Rattle.history.proofs.Fittings.{lock_tables_long, unlock_tables_long}

-- what the setter does to the state block: nothing where it is refused
pub setter_frame : (K : List ℕ → Type 0) (s : List ℕ) → K s → ((settings_of s).tracked ≡ true → length s ≡ state_len → K (set s 19 1)) → K (enable_of s).state
unfolding enable_of enable_refusal
setter_frame K s k f = go (eqb (enable_refusal s) 0) refl
  where
    go : (b : Bool) → eqb (enable_refusal s) 0 ≡ b → K (cond b (enabled (set s 19 1) (finished 0 0 0 0)) (enabled s (finished (enable_refusal s) (code_of (enable_refusal s)) 0 0))).state
    go true e =
        let a = is_ready s true _ (eqb-true (enable_refusal s) 0 e) in
        f (passed (settings_of s).tracked 23 _ a.goes).0 a.long
    go false e = k

pub record Framed (K : Buffers → Observed → Type 0) : Type 0 where
  pub tables : (w : Buffers) (o : Observed) (t : List ℕ) → length t ≡ length w.tables → K w o → K (buffers w.maps w.state w.pages t) o
  pub setting : (w : Buffers) (o : Observed) → K w o → K (buffers w.maps (set w.state 19 1) w.pages w.tables) o

-- the calls that touch neither marks nor request: on locks, the setter, and those that only read
abbrev pub is_apart : Call → Bool
is_apart (Write (Visibility vtl share list)) = false
is_apart (Write (Protection vtl flags list)) = false
is_apart (Write (Default vtl flags)) = false
is_apart (Write (Register vtl page source checked new)) = false
is_apart (Write (Unregister vtl page)) = false
is_apart (Write (Lock vtl list)) = true
is_apart (Write (Unlock vtl list)) = true
is_apart (Write Enable) = true
is_apart (Read q) = true
is_apart (Answer g) = false

-- K of what a call leaves and of what is seen then
abbrev pub After : (Buffers → Observed → Type 0) → Call → Buffers → Observed → Type 0
After K c w o = K (gives c w).buffers (sees c (gives c w).answer (gives c w).buffers.pages o)

-- THE FRAME LAW
pub frame : {K : Buffers → Observed → Type 0} → Framed K → (c : Call) → is_apart c ≡ true → (w : Buffers) (o : Observed) → K w o → After K c w o
frame f (Write (Visibility vtl share list)) e w o k = clash _ e refl
frame f (Write (Protection vtl flags list)) e w o k = clash _ e refl
frame f (Write (Default vtl flags)) e w o k = clash _ e refl
frame f (Write (Register vtl page source checked new)) e w o k = clash _ e refl
frame f (Write (Unregister vtl page)) e w o k = clash _ e refl
frame f (Write (Lock vtl list)) e w o k = f.tables w o _ (lock_tables_long w.state w.tables vtl list) k
frame f (Write (Unlock vtl list)) e w o k = f.tables w o _ (unlock_tables_long w.state w.tables vtl list) k
frame {K} f (Write Enable) e w o k = setter_frame (λ (s : List ℕ). K (buffers w.maps s w.pages w.tables) o) w.state k (λ _ _. f.setting w o k)
frame f (Read q) e w o k = k
frame f (Answer g) e w o k = clash _ e refl

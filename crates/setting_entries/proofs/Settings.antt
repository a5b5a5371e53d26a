-- What the setter does to the settings, and what the getters give then. Assumes nothing.
use native.Mathlib.Omega.{arith}
use mathlib.Core.Path.{◌≡◌, refl, ap, ◌∙◌}
use mathlib.Core.List.{List}
use Prim.Native.Nat.{ℕ}
use lib.ListN.{get_or, set, length-set}
use lib.Seq.{get_or-set_same, get_or-set_other}
use borrow.Author.Tests.{eq-eqb}
use Rattle.protector_state.specs.State.{settings_of}
use Rattle.protector_state.specs.Reply.{finished, value}
use Rattle.call_refusals.specs.Refusals.{ready}
use Rattle.setting_entries.specs.Calls.{state_refusal, enable_refusal, Enabled, enabled, enable_of, enabling, enabled_in, default_in}
use Rattle.setting_entries.proofs.Laws.{enable_state, enable_length}

-- ---- a setter that is taken

other_word : (s : List ℕ) (j : ℕ) → (j ≡ 19 → ⊥) → get_or (set s 19 1) j 0 ≡ get_or s j 0
other_word s j h = get_or-set_other s 19 j 1 0 h

module _ (s : List ℕ) (z : enable_refusal s ≡ 0) where
  pub enable_made : enable_of s ≡ enabled (set s 19 1) (finished 0 0 0 0)
  unfolding enable_of
  enable_made = rw (eq-eqb (enable_refusal s) 0 z) refl

  word_19 : get_or (set s 19 1) 19 0 ≡ 1
  word_19 = get_or-set_same s 19 1 0 (omega (arith, enable_length s (enable_refusal s) refl z))

  pub enable_others : (j : ℕ) → (j ≡ 19 → ⊥) → get_or (enable_of s).state j 0 ≡ get_or s j 0
  enable_others j h = ap (λ (k : Enabled). get_or k.state j 0) enable_made ∙ other_word s j h

  -- the settings are the same, but enabled
  pub enable_settings : settings_of (enable_of s).state ≡ enabling (settings_of s)
  enable_settings =
      ap (λ (k : Enabled). settings_of k.state) enable_made
      ∙ rw (other_word s 16 (λ e. omega arith), other_word s 17 (λ e. omega arith), other_word s 18 (λ e. omega arith), word_19, other_word s 20 (λ e. omega arith), other_word s 21 (λ e. omega arith)) refl

  same_refusal : state_refusal (set s 19 1) ≡ state_refusal s
  unfolding ready
  same_refusal = rw (length-set s 19 1, other_word s 0 (λ e. omega arith)) refl

  not_refused_lem : state_refusal (set s 19 1) ≡ 0
  not_refused_lem = same_refusal ∙ enable_state s (enable_refusal s) refl z

  pub then_enabled : enabled_in (enable_of s).state ≡ value 0 1
  unfolding enabled_in
  then_enabled = ap (λ (k : Enabled). enabled_in k.state) enable_made ∙ rw (not_refused_lem, word_19) refl

  pub then_default : default_in (enable_of s).state ≡ default_in s
  unfolding default_in
  then_default = ap (λ (k : Enabled). default_in k.state) enable_made ∙ rw (same_refusal, other_word s 20 (λ e. omega arith)) refl

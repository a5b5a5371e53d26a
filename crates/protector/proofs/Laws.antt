-- Laws of the tests of a call. Assumes nothing.
use native.Mathlib.Omega.{arith}
use mathlib.Core.Path.{◌≡◌, refl, sym, ap, ap₂, ◌∙◌}
use mathlib.Core.Bool.{Bool, true, false, cond, ◌&&◌}
use mathlib.Core.List.{List}
use Prim.Native.Nat.{ℕ, ◌≤◌}
use borrow.Author.Tests.{leb-true}
use Rattle.laws.specs.Bools.{and_left, and_right}
use Rattle.laws.specs.Refusal.{refused, answered}
use Rattle.mapping.specs.Maps.{Permissions, Maps}
use Rattle.permissions.specs.declared.HvMapGpaFlags.{HvMapGpaFlags}
use Rattle.permissions.specs.Flags.{no_flags}
use Rattle.permissions.specs.HvError.{code_of}
use Rattle.request_pages.specs.Request.{run_end, put}
use Rattle.visibility_steps.specs.declared.Settings.{Settings}
use Rattle.visibility_steps.specs.declared.Phase.{Phase}
use Rattle.visibility_steps.specs.declared.Places.{Places}
use Rattle.visibility_steps.specs.Steps.{places}
use Rattle.visibility_steps.specs.Next.{is_default0, permitted_at, flags_at}
use Rattle.visibility_steps.specs.declared.Writes.{Writes}
use Rattle.protector_state.specs.declared.Reply.{Reply}
use Rattle.protector_state.specs.Reply.{finished}
use Rattle.request_pages.proofs.Runs.{put_none, end_none}
use Rattle.call_refusals.specs.Buffers.{Buffers, Outcome, outcome}
use Rattle.protector.specs.Writes.{put_permissions, applied, is_empty, is_nothing}
use Rattle.protector.specs.Calls.{decided, refused_by}

-- ---- a call refused, and one that isn't

module _ (w : Buffers) (n x : ℕ) (e : n ≡ x) (taken : Outcome) where
  pub call_refused : (r : Reply) → (n ≡ 0 → ⊥) → r ≡ finished n (code_of n) 0 0 → outcome w.maps w.state w.pages w.tables r ≡ decided w x taken
  call_refused r h q = ap (outcome w.maps w.state w.pages w.tables) q ∙ refused n x e taken (refused_by w) h

  pub call_taken : (o : Outcome) → n ≡ 0 → o ≡ taken → o ≡ decided w x taken
  call_taken o h q = answered n x e taken o (refused_by w) h q

-- what a call gives, in maps that hold what those hold that it wrote
pub held : (m n : Maps) (s g t : List ℕ) (r : Reply) (o : Outcome) → outcome m s g t r ≡ o → m ≡ n → outcome n s g t r ≡ o
held m n s g t r o e d = ap (λ (x : Maps). outcome x s g t r) (sym d) ∙ e

-- ---- what a step writes

pub nothing_applied : (t : List ℕ) (w : Writes) (m : Maps) (b : Bool) → b ≡ is_nothing w → b ≡ true → m ≡ applied t w m
unfolding applied
nothing_applied t w m b e h =
    let all = sym e ∙ h in
    let p = leb-true w.private.to w.private.from (and_left (is_empty w.private) (is_empty w.shared && is_empty w.permissions) all) in
    let rest = and_right (is_empty w.private) (is_empty w.shared && is_empty w.permissions) all in
    let s = leb-true w.shared.to w.shared.from (and_left (is_empty w.shared) (is_empty w.permissions) rest) in
    let x = leb-true w.permissions.to w.permissions.from (and_right (is_empty w.shared) (is_empty w.permissions) rest) in
    let no : (b : Bool) (k : List ℕ) → put t w.permissions.from w.permissions.to b k ≡ k = λ b k. put_none t w.permissions.to w.permissions.from b k x in
    rw (
      put_none t w.private.to w.private.from w.state m.private p,
      put_none t w.shared.to w.shared.from w.state m.shared s,
      no w.flags.readable m.permissions.read,
      no w.flags.writable m.permissions.write,
      no w.flags.kernel_executable m.permissions.kernel,
      no w.flags.user_executable m.permissions.user,
    ) refl

-- ---- what an answer of done writes

-- places of no page
nothing_put : (t : List ℕ) (a : Places) (f : HvMapGpaFlags) (m : Permissions) → a.to ≤ a.from → m ≡ put_permissions t a f m
nothing_put t a f m h =
    rw (put_none t a.to a.from f.readable m.read h, put_none t a.to a.from f.writable m.write h, put_none t a.to a.from f.kernel_executable m.kernel h, put_none t a.to a.from f.user_executable m.user h) refl

module _ (s : Settings) (p : Phase) (t : List ℕ) (n a : ℕ) (m : Permissions) where
  abbrev permitted : Permissions
  permitted = put_permissions t (permitted_at s p t n a) (flags_at s p) m

  -- by the two tests of a phase and the settings
  abbrev by : Bool → Bool → Permissions
  by d k = put_permissions t (cond d (places a (cond k (run_end t n a) a)) (places 0 0)) (cond d s.defaults.vtl0 no_flags) m

  pub permit_other : is_default0 p ≡ false → m ≡ permitted
  permit_other h = nothing_put t (places 0 0) no_flags m (omega arith) ∙ ap (λ (d : Bool). by d s.tracked) (sym h)

  module _ (h : is_default0 p ≡ true) where
    pub permit_untracked : s.tracked ≡ false → m ≡ permitted
    permit_untracked k = nothing_put t (places a a) s.defaults.vtl0 m (omega arith) ∙ ap₂ by (sym h) (sym k)

    module _ (k : s.tracked ≡ true) where
      pub permit_past : n ≤ a → m ≡ permitted
      permit_past g = nothing_put t (places a (run_end t n a)) s.defaults.vtl0 m (omega (arith, end_none t n a g)) ∙ ap₂ by (sym h) (sym k)

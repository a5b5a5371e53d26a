-- Laws of buffers lent and of calls run to their end: what a step leaves is what was to be done before it. Assumes nothing.
use Rattle.std.proofs.Common.{◌≡◌, ℕ, suc, ◌+◌, ◌-◌, ◌<◌, ◌≤◌, cond, eqb, refl, ap, arith, eq-eqb, ne_eqb}
use Rattle.laws.specs.Bools.{took, took_not}
use Rattle.playback.specs.declared.buffers.Buffers.{Buffers}
use Rattle.playback.specs.declared.buffers.Call.{Call}
use Rattle.playback.specs.declared.registry.Registry.{Registry}
use Rattle.playback.specs.Answers.{answered, finished_from}
use Rattle.playback.specs.Registry as registry

-- ---- a choice by a number

module _ {A : Type 0} (k n : ℕ) (x y r : A) where
  pub is : k ≡ n → r ≡ x → r ≡ cond (eqb k n) x y
  is h p = took (eqb k n) x y r (eq-eqb k n h) p

  pub is_not : (k ≡ n → ⊥) → r ≡ y → r ≡ cond (eqb k n) x y
  is_not h p = took_not (eqb k n) x y r (ne_eqb k n h) p

-- ---- run to its end, in at most m answers

module _ (m at : ℕ) (w : Buffers) (c : Call) where
  pub finished_end : m ≤ at → w ≡ finished_from (m - at) at w c
  unfolding finished_from
  finished_end h = let d : m - at ≡ 0 = omega arith in rw d

  pub finished_stop : at < m → w.reply.operation ≡ 0 → w ≡ finished_from (m - at) at w c
  unfolding finished_from
  finished_stop h k = let d : m - at ≡ suc (m - (at + 1)) = omega arith in rw d (is w.reply.operation 0 _ _ w k refl)

  pub finished_next : (v : Buffers) → at < m → (w.reply.operation ≡ 0 → ⊥) → v ≡ answered w c (at + 1) → finished_from (m - (at + 1)) (at + 1) v c ≡ finished_from (m - at) at w c
  unfolding finished_from
  finished_next v h k p =
      let d : m - at ≡ suc (m - (at + 1)) = omega arith in
      rw d (is_not w.reply.operation 0 _ _ (finished_from (m - (at + 1)) (at + 1) v c) k (ap (λ (x : Buffers). finished_from (m - (at + 1)) (at + 1) x c) p))

-- ---- the same of a registry

module _ (m at : ℕ) (w : Registry) (c : Call) where
  pub registry_end : m ≤ at → w ≡ registry.finished_from (m - at) at w c
  unfolding registry.finished_from
  registry_end h = let d : m - at ≡ 0 = omega arith in rw d

  pub registry_stop : at < m → w.reply.asked ≡ 0 → w ≡ registry.finished_from (m - at) at w c
  unfolding registry.finished_from
  registry_stop h k = let d : m - at ≡ suc (m - (at + 1)) = omega arith in rw d (is w.reply.asked 0 _ _ w k refl)

  pub registry_next : (v : Registry) → at < m → (w.reply.asked ≡ 0 → ⊥) → v ≡ registry.answered w c (at + 1) → registry.finished_from (m - (at + 1)) (at + 1) v c ≡ registry.finished_from (m - at) at w c
  unfolding registry.finished_from
  registry_next v h k p =
      let d : m - at ≡ suc (m - (at + 1)) = omega arith in
      rw d (is_not w.reply.asked 0 _ _ (registry.finished_from (m - (at + 1)) (at + 1) v c) k (ap (λ (x : Registry). registry.finished_from (m - (at + 1)) (at + 1) x c) p))

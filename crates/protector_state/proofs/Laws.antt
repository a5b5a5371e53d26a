-- Laws of the state block, one for each way that the code goes. Assumes nothing.
use native.Mathlib.Omega.{arith}
use native.Mathlib.Decide.{dec_lt}
use mathlib.Core.Path.{◌≡◌, sym, ap, ap₂, ◌∙◌}
use mathlib.Core.List.{List, ◌∷◌, ◌++◌}
use Prim.Native.Nat.{ℕ, suc, ◌+◌, ◌-◌, ◌*◌, ◌<◌, min}
use lib.ListN.{length, get_or, drop, take, set, replicate, length-drop}
use lib.Seq.{take_all, take-length}
use Rattle.words.proofs.Laws.{filled_next}
use Rattle.layout.specs.Layout.{entries_of}
use Rattle.abi.specs.Flags.{flags_end}
use Rattle.permissions.specs.declared.GuestVtl.{GuestVtl}
use Rattle.permissions.specs.declared.GuestVtl.TheVariants.{Vtl0, Vtl1}
use Rattle.permissions.specs.declared.DefaultVtlPermissions.{DefaultVtlPermissions}
use Rattle.permissions.specs.Flags.{flags_of}
use Rattle.permissions.specs.Defaults.{with_default}
use Rattle.permissions.proofs.Laws.{bits_flags}
use Rattle.protector_state.specs.State.{default_word, ram_of, built_state}

-- ---- the word of a default that is set

pub word_set : (d : DefaultVtlPermissions) (v : GuestVtl) (n : ℕ) → n < flags_end → default_word (with_default d v (flags_of n)) v ≡ n
word_set d Vtl0 n h = bits_flags n h
word_set d Vtl1 n h = bits_flags n h

-- ---- the layout's words

pub ram_is : (s : List ℕ) (n : ℕ) → length s ≡ 128 → n ≡ min (get_or s 31 0) 32 → take (32 + 3 * n - 32) (drop 32 s) ≡ ram_of s
ram_is s n h e = elim (dec_lt (get_or s 31 0) 32) [
  | yes d ↦ let q : 32 + 3 * n - 32 ≡ 3 * get_or s 31 0 = omega arith in ap (λ (k : ℕ). take k (drop 32 s)) q
  | no d ↦
      take_all (32 + 3 * n - 32) (drop 32 s) (omega (arith, length-drop 32 s))
      ∙ sym (take_all (3 * get_or s 31 0) (drop 32 s) (omega (arith, length-drop 32 s)))
]

-- ---- a build: the block while it is filled

abbrev pub filled_to : List ℕ → ℕ → ℕ → ℕ → ℕ → List ℕ
filled_to ram iso tracked release i =
    0 ∷ 0 ∷ 0 ∷ 0 ∷ 0 ∷ 0 ∷ 0 ∷ 0 ∷ 0 ∷ 0 ∷ 0 ∷ 0 ∷ 0 ∷ 0 ∷ 0 ∷ 0 ∷ iso ∷ tracked ∷ release ∷ 0 ∷ 15 ∷ 16 ∷ 0 ∷ 0 ∷ 0 ∷ 0 ∷ 0 ∷ 0 ∷ 0 ∷ 0 ∷ 0 ∷ length (entries_of ram) ∷ (take i ram ++ replicate (96 - i) 0)

pub filled_none : (s t ram : List ℕ) (iso tracked release a b n : ℕ) → length s ≡ 128 → t ≡ replicate (length s) 0 → a ≡ 15 → b ≡ 16 → n ≡ length (entries_of ram)
    → set (set (set (set (set (set t 16 iso) 17 tracked) 18 release) 20 a) 21 b) 31 n ≡ filled_to ram iso tracked release 0
filled_none s t ram iso tracked release a b n h f d0 d1 e =
    rw (d0, d1) (ap₂ (λ (l : List ℕ) (m : ℕ). set (set (set (set (set (set l 16 iso) 17 tracked) 18 release) 20 15) 21 16) 31 m) (f ∙ ap (λ (k : ℕ). replicate k 0) h) e)

module _ (ram : List ℕ) (iso tracked release i : ℕ) where
  pub filled_more : i < length ram → i < 96 → set (filled_to ram iso tracked release i) (32 + i) (get_or ram i 0) ≡ filled_to ram iso tracked release (i + 1)
  filled_more h k =
      let d : 32 + i ≡ suc (suc (suc (suc (suc (suc (suc (suc (suc (suc (suc (suc (suc (suc (suc (suc (suc (suc (suc (suc (suc (suc (suc (suc (suc (suc (suc (suc (suc (suc (suc (suc i))))))))))))))))))))))))))))))) = omega arith in
      ap (λ (m : ℕ). set (filled_to ram iso tracked release i) m (get_or ram i 0)) d
      ∙ ap (λ (l : List ℕ). 0 ∷ 0 ∷ 0 ∷ 0 ∷ 0 ∷ 0 ∷ 0 ∷ 0 ∷ 0 ∷ 0 ∷ 0 ∷ 0 ∷ 0 ∷ 0 ∷ 0 ∷ 0 ∷ iso ∷ tracked ∷ release ∷ 0 ∷ 15 ∷ 16 ∷ 0 ∷ 0 ∷ 0 ∷ 0 ∷ 0 ∷ 0 ∷ 0 ∷ 0 ∷ 0 ∷ length (entries_of ram) ∷ l) (filled_next 96 ram i h k)

pub filled_all : (ram : List ℕ) (iso tracked release : ℕ) → filled_to ram iso tracked release (length ram) ≡ built_state ram iso tracked release
filled_all ram iso tracked release =
    ap (λ (l : List ℕ). 0 ∷ 0 ∷ 0 ∷ 0 ∷ 0 ∷ 0 ∷ 0 ∷ 0 ∷ 0 ∷ 0 ∷ 0 ∷ 0 ∷ 0 ∷ 0 ∷ 0 ∷ 0 ∷ iso ∷ tracked ∷ release ∷ 0 ∷ 15 ∷ 16 ∷ 0 ∷ 0 ∷ 0 ∷ 0 ∷ 0 ∷ 0 ∷ 0 ∷ 0 ∷ 0 ∷ length (entries_of ram) ∷ (l ++ replicate (96 - length ram) 0)) (take-length ram)

-- ---- what crosses at the end of a visibility change

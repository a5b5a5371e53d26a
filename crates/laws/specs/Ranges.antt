-- Ranges of numbers: pages, chunks, bytes. Assumes nothing.
use Rattle.std.specs.Prelude.{Bool, true, false, ◌&&◌, ◌||◌, ◌≡◌, ℕ, ◌≤◌, ◌<◌, leb, ltb}
use Rattle.std.proofs.Common.{⊎_elim, arith, leb-true, ltb-true, le-leb, lt-ltb}
use Rattle.laws.specs.Bools.{same, false≢true, and_left, and_right, and_true, or_true, or_left, or_right, lt_or_le}

-- those from a to before b
abbrev pub between : ℕ → ℕ → ℕ → Bool
between a b q = leb a q && ltb q b

-- `between` as facts
pub between_from : (a b q : ℕ) → between a b q ≡ true → a ≤ q
between_from a b q e = leb-true a q (and_left (leb a q) (ltb q b) e)

pub between_to : (a b q : ℕ) → between a b q ≡ true → q < b
between_to a b q e = ltb-true q b (and_right (leb a q) (ltb q b) e)

pub between_true : (a b q : ℕ) → a ≤ q → q < b → between a b q ≡ true
between_true a b q l h = and_true (leb a q) (ltb q b) (le-leb a q l) (lt-ltb q b h)

pub between_same : (a b q c d r : ℕ) → (a ≤ q → q < b → (c ≤ r) × (r < d)) → (c ≤ r → r < d → (a ≤ q) × (q < b)) → between a b q ≡ between c d r
between_same a b q c d r f g =
    same (between a b q) (between c d r)
    (λ e. let h = f (between_from a b q e) (between_to a b q e) in between_true c d r h.0 h.1)
    (λ e. let h = g (between_from c d r e) (between_to c d r e) in between_true a b q h.0 h.1)

pub between_false : (a b q : ℕ) → (a ≤ q → q < b → ⊥) → between a b q ≡ false
between_false a b q h = same (between a b q) false (λ e. absurd (h (between_from a b q e) (between_to a b q e))) (λ e. false≢true e)

-- two runs that meet
pub between_join : (a b c q : ℕ) → a ≤ b → b ≤ c → between a c q ≡ (between b c q || between a b q)
between_join a b c q l h =
    same (between a c q) (between b c q || between a b q)
    (λ e. let f = between_from a c q e in let t = between_to a c q e in
    ⊎_elim (λ (d : q < b). or_right (between b c q) (between a b q) (between_true a b q f d))
    (λ (d : b ≤ q). or_left (between b c q) (between a b q) (between_true b c q d t)) (lt_or_le q b))
    (λ e. ⊎_elim (λ d. let f = between_from b c q d in let t = between_to b c q d in between_true a c q (omega arith) t)
    (λ d. let f = between_from a b q d in let t = between_to a b q d in between_true a c q f (omega arith)) (or_true (between b c q) (between a b q) e))

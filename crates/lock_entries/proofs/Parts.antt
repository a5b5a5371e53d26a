-- The tables with other locks of a VTL: every other part is as it was. Assumes nothing.
use native.Mathlib.Omega.{arith}
use mathlib.Core.Path.{◌≡◌, sym, ap, ap₂, ◌∙◌}
use mathlib.Core.List.{List, ◌++◌, append_assoc}
use Prim.Native.Nat.{ℕ, ◌+◌, ◌*◌, ◌≤◌}
use lib.ListN.{length, take, drop, length-append, length-drop, take-append-drop}
use lib.Seq.{drop-drop, take_at, drop_at, take-append-le, drop-append-le, length-take-le}
use Rattle.permissions.specs.declared.GuestVtl.{GuestVtl}
use Rattle.permissions.specs.declared.GuestVtl.TheVariants.{Vtl0, Vtl1}
use Rattle.permissions.specs.Flags.{vtl_number}
use Rattle.call_refusals.specs.Buffers.{tables_len, overlays_of, locks_of}
use Rattle.lock_entries.specs.Calls.{with_locks}

abbrev start : GuestVtl → ℕ
start v = 1282 + 1089 * vtl_number v

-- n words from place a on, all before place b, where what follows place b is another
module _ (a n b : ℕ) (t : List ℕ) (h : a + n ≤ b) (k : b ≤ length t) where
  in_front : (q : List ℕ) → take n (drop a (take b t ++ q)) ≡ take n (drop a (take b t))
  in_front q =
      let f = length-take-le b t k in
      ap (take n) (drop-append-le a (take b t) q (omega (arith, f)))
      ∙ take-append-le n (drop a (take b t)) q (omega (arith, f, length-drop a (take b t)))

  before : (q : List ℕ) → take n (drop a (take b t ++ q)) ≡ take n (drop a t)
  before q = in_front q ∙ sym (in_front (drop b t)) ∙ ap (λ (r : List ℕ). take n (drop a r)) (take-append-drop b t)

pub same_locks : (t : List ℕ) (v : GuestVtl) → with_locks t v (locks_of t v) ≡ t
same_locks t v =
    ap (λ (r : List ℕ). take (start v) t ++ (locks_of t v ++ r)) (sym (drop-drop 1089 (start v) t))
    ∙ ap (λ (r : List ℕ). take (start v) t ++ r) (take-append-drop 1089 (drop (start v) t)) ∙ take-append-drop (start v) t

module _ (t x : List ℕ) (e : length t ≡ tables_len) (f : length x ≡ 1089) where
  fits : (v : GuestVtl) → start v + 1089 ≤ length t
  fits Vtl0 = omega (arith, e)
  fits Vtl1 = omega (arith, e)

  pub length_with : (v : GuestVtl) → length (with_locks t v x) ≡ tables_len
  length_with v =
      let a = length-append (take (start v) t) (x ++ drop (start v + 1089) t) in
      let b = length-append x (drop (start v + 1089) t) in
      let c = length-take-le (start v) t (omega (arith, fits v)) in
      omega (arith, a, b, c, length-drop (start v + 1089) t, fits v, e, f)

  pub locks_with : (v : GuestVtl) → locks_of (with_locks t v x) v ≡ x
  locks_with v =
      ap (take 1089) (drop_at (take (start v) t) (x ++ drop (start v + 1089) t) (start v) (length-take-le (start v) t (omega (arith, fits v))))
      ∙ take_at x (drop (start v + 1089) t) 1089 f

  pub other_locks0 : locks_of (with_locks t Vtl1 x) Vtl0 ≡ locks_of t Vtl0
  other_locks0 = before 1282 1089 2371 t (omega arith) (omega (arith, e)) (x ++ drop 3460 t)

  pub other_locks1 : locks_of (with_locks t Vtl0 x) Vtl1 ≡ locks_of t Vtl1
  other_locks1 =
      ap (λ (r : List ℕ). take 1089 (drop 2371 r)) (sym (append_assoc (take 1282 t) x (drop 2371 t)))
      ∙ ap (take 1089) (drop_at (take 1282 t ++ x) (drop 2371 t) 2371 (length-append (take 1282 t) x ∙ omega (arith, length-take-le 1282 t (omega (arith, e)), f)))

  pub overlays_with : (v w : GuestVtl) → overlays_of (with_locks t v x) w ≡ overlays_of t w
  overlays_with v Vtl0 = before 0 641 (start v) t (omega arith) (omega (arith, fits v)) (x ++ drop (start v + 1089) t)
  overlays_with v Vtl1 = before 641 641 (start v) t (omega arith) (omega (arith, fits v)) (x ++ drop (start v + 1089) t)

  -- written over
  pub with_twice : (y : List ℕ) (v : GuestVtl) → with_locks (with_locks t v x) v y ≡ with_locks t v y
  with_twice y v =
      let head = length-take-le (start v) t (omega (arith, fits v)) in
      let rest : List ℕ = drop (start v + 1089) t in
      ap₂ (λ (a b : List ℕ). a ++ (y ++ b)) (take_at (take (start v) t) (x ++ rest) (start v) head)
      (ap (drop (start v + 1089)) (sym (append_assoc (take (start v) t) x rest)) ∙ drop_at (take (start v) t ++ x) rest (start v + 1089) (length-append (take (start v) t) x ∙ omega (arith, head, f)))

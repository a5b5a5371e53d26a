-- Laws of words that zeros follow: written, added, taken out, changing places. Assumes nothing.
use mathlib.Core.List.{List, ◌++◌, append_assoc}
use mathlib.Core.Path.{◌≡◌, sym, ap, ap₂, ◌∙◌}
use Prim.Native.Nat.{ℕ, zero, suc, ◌+◌, ◌-◌, ◌≤◌, ◌<◌}
use native.Mathlib.Omega.{arith}
use lib.ListN.{length, set, take, drop, length-append, length-take, length-drop, length-replicate, length-set, replicate-append-replicate}
use lib.Seq.{set-append_left, sets, sets-eq, take_at, drop_at, drop-append-add}
use Rattle.words.specs.Words.{zeros, padded, closed, closed_to, swapped}
use Rattle.words.proofs.Laws.{closed_parts, swapped_parts}

drop_zeros : (n k : ℕ) → drop n (zeros k) ≡ zeros (k - n)
drop_zeros zero k = let d : k ≡ k - 0 = omega arith in ap zeros d
drop_zeros (suc n) zero = let d : 0 ≡ 0 - suc n = omega arith in ap zeros d
drop_zeros (suc n) (suc k) = let d : k - n ≡ suc k - suc n = omega arith in drop_zeros n k ∙ ap zeros d

module _ (m : ℕ) where
  pub length_padded : (ws : List ℕ) → length ws ≤ m → length (padded m ws) ≡ m
  length_padded ws h = let d = length-append ws (zeros (m - length ws)) in omega (arith, length-replicate {A = ℕ} (m - length ws) 0)

  pub set_padded : (ws : List ℕ) (i v : ℕ) → i < length ws → set (padded m ws) i v ≡ padded m (set ws i v)
  set_padded ws i v h = set-append_left ws (zeros (m - length ws)) i v h ∙ ap (λ (k : ℕ). set ws i v ++ zeros (m - k)) (sym (length-set ws i v))

  pub sets_padded : (ws vs : List ℕ) (o : ℕ) → length ws ≡ o → o + length vs ≤ m → sets (padded m ws) o vs ≡ padded m (ws ++ vs)
  sets_padded ws vs o e h =
      let t : List ℕ = padded m ws in
      let len : length t ≡ m = length_padded ws (omega arith) in
      let d : o + length vs ≡ length ws + length vs = omega arith in
      let k : m - length ws - length vs ≡ m - length (ws ++ vs) = omega (arith, length-append ws vs) in
      let back : drop (o + length vs) t ≡ zeros (m - length (ws ++ vs)) =
      ap (λ (n : ℕ). drop n t) d ∙ drop-append-add ws (zeros (m - length ws)) (length vs) ∙ drop_zeros (length vs) (m - length ws) ∙ ap zeros k in
      sets-eq vs t o (omega arith) ∙ ap₂ (λ (x y : List ℕ). (x ++ vs) ++ y) (take_at ws (zeros (m - length ws)) o e) back

  -- behind the words that zeros follow
  pub closed_padded : (a x z : List ℕ) (o n e : ℕ) → length a ≡ o → length x ≡ n → length (a ++ (x ++ z)) ≡ e → e ≤ m → closed_to (padded m (a ++ (x ++ z))) o n e ≡ padded m (a ++ z)
  unfolding closed_to
  closed_padded a x z o n e f g l h =
      let ws : List ℕ = a ++ (x ++ z) in
      let u : List ℕ = a ++ z in
      let w : List ℕ = zeros (m - length ws) in
      let lx : length ws ≡ length a + (length x + length z) = length-append a (x ++ z) ∙ ap (λ (i : ℕ). length a + i) (length-append x z) in
      let lz : length u ≡ length a + length z = length-append a z in
      let k : length ws - length u + (m - length ws) ≡ m - length u = omega arith in
      ap₂ (λ (p q : List ℕ). closed p o n ++ q) (take_at ws w e l) (drop_at ws w e l)
      ∙ ap (λ (r : List ℕ). r ++ w) (closed_parts a x z o n f g) ∙ append_assoc u (zeros (length ws - length u)) w
      ∙ ap (λ (r : List ℕ). u ++ r) (replicate-append-replicate (length ws - length u) (m - length ws) 0 ∙ ap zeros k)

  pub swapped_padded : (a b c : List ℕ) (o i j : ℕ) → length a ≡ o → length b ≡ i → length c ≡ j → swapped (padded m (a ++ (b ++ c))) o i j ≡ padded m (a ++ (c ++ b))
  swapped_padded a b c o i j e f g =
      let w : List ℕ = zeros (m - length (a ++ (b ++ c))) in
      let lb : length (a ++ (b ++ c)) ≡ length a + (length b + length c) = length-append a (b ++ c) ∙ ap (λ (k : ℕ). length a + k) (length-append b c) in
      let lc : length (a ++ (c ++ b)) ≡ length a + (length c + length b) = length-append a (c ++ b) ∙ ap (λ (k : ℕ). length a + k) (length-append c b) in
      let d : m - length (a ++ (b ++ c)) ≡ m - length (a ++ (c ++ b)) = ap (λ (k : ℕ). m - k) (lb ∙ omega arith ∙ sym lc) in
      ap (λ (r : List ℕ). swapped r o i j) (append_assoc a (b ++ c) w ∙ ap (λ (r : List ℕ). a ++ r) (append_assoc b c w))
      ∙ swapped_parts a b c w o i j e f g
      ∙ ap (λ (r : List ℕ). a ++ r) (sym (append_assoc c b w)) ∙ sym (append_assoc a (c ++ b) w) ∙ ap (λ (k : ℕ). (a ++ (c ++ b)) ++ zeros k) d

closed_long : (t : List ℕ) (a n : ℕ) → length (closed t a n) ≡ length t
unfolding closed
closed_long t a n =
    length_padded (length t) (take a t ++ drop n (drop a t))
    (omega (arith, length-append (take a t) (drop n (drop a t)), length-take a t, length-drop n (drop a t), length-drop a t))

pub length_closed : (t : List ℕ) (a n e : ℕ) → length (closed_to t a n e) ≡ length t
unfolding closed_to
length_closed t a n e =
    omega (arith, length-append (closed (take e t) a n) (drop e t), closed_long (take e t) a n, length-take e t, length-drop e t)

-- Laws of words in a run: read and written at a place past the end, a gap closed, neighbouring parts that change places. Assumes nothing.
use mathlib.Core.List.{List, [], ◌∷◌, ◌++◌, append-nil, append_assoc, reverse, reverse-append, reverse-reverse}
use Rattle.std.proofs.lemmas.Slice.{between_is}
use mathlib.Core.Logic.{⊎_elim}
use mathlib.Core.Path.{◌≡◌, refl, sym, ap, ap₂, ◌∙◌}
use Prim.Native.Nat.{ℕ, suc, ◌+◌, ◌-◌, ◌≤◌, ◌<◌, min}
use native.Mathlib.Omega.{arith}
use native.Mathlib.Numerals.{add-one}
use lib.ListN.{length, get_or, set, take, drop, length-append, length-take, length-drop, take-append-drop, drop_of_length-le, get_or-eq_default, length-reverse}
use lib.Seq.{paste, length-paste, take-paste, drop-drop, length-take-le, take_at, drop_at, set_at, set_out, take_all, take-suc, take-append-add, drop-append-add}
use Rattle.laws.specs.Bools.{lt_or_le}
use Rattle.words.specs.Words.{zeros, padded, closed, closed_to, swapped, turned}

-- ---- past the end

pub get_d_after : (t : List ℕ) (i : ℕ) → get_or t (min (length t) i) 0 ≡ get_or t i 0
get_d_after t i =
    ⊎_elim (λ (h : i < length t). let d : min (length t) i ≡ i = omega arith in ap (λ (k : ℕ). get_or t k 0) d)
    (λ (h : length t ≤ i). get_or-eq_default t 0 (omega arith) ∙ sym (get_or-eq_default t 0 h)) (lt_or_le i (length t))

pub set_after : (t : List ℕ) (i v : ℕ) → set t (min (length t) i) v ≡ set t i v
set_after t i v =
    ⊎_elim (λ (h : i < length t). let d : min (length t) i ≡ i = omega arith in ap (λ (k : ℕ). set t k v) d)
    (λ (h : length t ≤ i). set_out t _ v (omega arith) ∙ sym (set_out t i v h)) (lt_or_le i (length t))

-- ---- filled with the words of another, one after the other

pub filled_next : (n : ℕ) (ws : List ℕ) (i : ℕ) → i < length ws → i < n → set (take i ws ++ zeros (n - i)) i (get_or ws i 0) ≡ take (i + 1) ws ++ zeros (n - (i + 1))
filled_next n ws i h k =
    let d : n - i ≡ suc (n - (i + 1)) = omega arith in
    let rest = zeros (n - (i + 1)) in
    ap (λ (m : ℕ). set (take i ws ++ zeros m) i (get_or ws i 0)) d
    ∙ set_at (take i ws) 0 rest (get_or ws i 0) i (length-take-le i ws (omega arith))
    ∙ sym (ap (λ (l : List ℕ). l ++ rest) (ap (λ (m : ℕ). take m ws) (add-one i) ∙ take-suc ws i 0 h) ∙ append_assoc (take i ws) (get_or ws i 0 ∷ []) rest)

-- ---- a gap closed

closed_at : (a z : List ℕ) (o n : ℕ) → length a ≡ o → closed (a ++ z) o n ≡ padded (length (a ++ z)) (a ++ drop n z)
unfolding closed
closed_at a z o n e = ap₂ (λ (p q : List ℕ). padded (length (a ++ z)) (p ++ drop n q)) (take_at a z o e) (drop_at a z o e)

pub closed_parts : (a x z : List ℕ) (o n : ℕ) → length a ≡ o → length x ≡ n → closed (a ++ (x ++ z)) o n ≡ padded (length (a ++ (x ++ z))) (a ++ z)
closed_parts a x z o n e f = closed_at a (x ++ z) o n e ∙ ap (λ (r : List ℕ). padded (length (a ++ (x ++ z))) (a ++ r)) (drop_at x z n f)

parted : (t : List ℕ) (e : ℕ) → (take (min (length t) e) t ≡ take e t) × (drop (min (length t) e) t ≡ drop e t)
parted t e =
    ⊎_elim (λ (h : e < length t). let d : min (length t) e ≡ e = omega arith in (ap (λ (k : ℕ). take k t) d, ap (λ (k : ℕ). drop k t) d))
    (λ (h : length t ≤ e).
    let d : length t ≤ min (length t) e = omega arith in
    (take_all (min (length t) e) t d ∙ sym (take_all e t h), drop_of_length-le t d ∙ sym (drop_of_length-le t h))) (lt_or_le e (length t))

pub gap_closed : (t : List ℕ) (a n gap rest freed : ℕ) (t' zs : List ℕ) → gap ≡ min (length t) (a + 0) → rest ≡ min (length t) (a + n) → t' ≡ paste t gap (drop rest t) (length t - rest)
    → freed ≡ length t' - (rest - gap) → zs ≡ zeros (length (take (length t' - freed) (drop freed t'))) → take freed t' ++ (zs ++ drop (length t' - freed) (drop freed t')) ≡ closed t a n
unfolding closed
gap_closed t a n gap rest freed t' zs e f g d h =
    let p : List ℕ = take a t in
    let s : List ℕ = drop n (drop a t) in
    let at : gap ≡ min (length t) a = omega arith in
    let len : length t' ≡ length t = ap (length {A = ℕ}) g ∙ length-paste t gap (drop rest t) (length t - rest) (omega arith) (omega (arith, length-drop rest t)) in
    let end : freed ≡ gap + (length t - rest) = omega arith in
    let front : take gap t ≡ p = ap (λ (k : ℕ). take k t) at ∙ (parted t a).0 in
    let back : drop rest t ≡ s = ap (λ (k : ℕ). drop k t) f ∙ (parted t (a + n)).1 ∙ sym (drop-drop n a t) in
    let whole : take (length t - rest) (drop rest t) ≡ drop rest t = take_all (length t - rest) (drop rest t) (omega (arith, length-drop rest t)) in
    let kept : take freed t' ≡ p ++ s =
    ap₂ (λ (k : ℕ) (r : List ℕ). take k r) end g
    ∙ take-paste t gap (drop rest t) (length t - rest) (omega arith) (omega (arith, length-drop rest t))
    ∙ ap₂ (λ (x y : List ℕ). x ++ y) front (whole ∙ back) in
    let none : drop (length t' - freed) (drop freed t') ≡ [] = drop_of_length-le (drop freed t') {i = length t' - freed} (omega (arith, length-drop freed t')) in
    let count : length (take (length t' - freed) (drop freed t')) ≡ length t - length (p ++ s) =
    omega (arith, length-take (length t' - freed) (drop freed t'), length-drop freed t', length-append p s, length-take a t, length-drop n (drop a t), length-drop a t) in
    ap₂ (λ (x y : List ℕ). x ++ (zs ++ y)) kept none
    ∙ ap (λ (r : List ℕ). (p ++ s) ++ r) (append-nil zs ∙ h ∙ ap zeros count)

-- the words before a place, lent as a part
pub part_closed : (t : List ℕ) (a n e k : ℕ) (t' : List ℕ) → k ≡ min (length t) (e + 0) → t' ≡ closed (take k t) a n → t' ++ drop k t ≡ closed_to t a n e
unfolding closed_to
part_closed t a n e k t' f g =
    let d : k ≡ min (length t) e = omega arith in
    ap (λ (r : List ℕ). r ++ drop k t) g ∙ ap (λ (i : ℕ). closed (take i t) a n ++ drop i t) d ∙ ap₂ (λ (x y : List ℕ). closed x a n ++ y) (parted t e).0 (parted t e).1

-- ---- words turned

turned_parts : (a x z : List ℕ) (i j : ℕ) → length a ≡ i → i + length x ≡ j → turned (a ++ (x ++ z)) i j ≡ a ++ (reverse x ++ z)
unfolding turned
turned_parts a x z i j e f =
    let d : j ≡ length a + length x = omega arith in
    let front : take j (a ++ (x ++ z)) ≡ a ++ x =
    ap (λ (k : ℕ). take k (a ++ (x ++ z))) d ∙ take-append-add a (x ++ z) (length x) ∙ ap (λ (r : List ℕ). a ++ r) (take_at x z (length x) refl) in
    let back : drop j (a ++ (x ++ z)) ≡ z = ap (λ (k : ℕ). drop k (a ++ (x ++ z))) d ∙ drop-append-add a (x ++ z) (length x) ∙ drop_at x z (length x) refl in
    ap₂ (λ (p q : List ℕ). p ++ (reverse q ++ drop j (a ++ (x ++ z)))) (take_at a (x ++ z) i e) (ap (drop i) front ∙ drop_at a x i e)
    ∙ ap (λ (r : List ℕ). a ++ (reverse x ++ r)) back

-- a part, lent and turned as a whole
pub part_turned : (t : List ℕ) (i j : ℕ) (ys : List ℕ) → i ≤ j → ys ≡ reverse (take (j - i) (drop i t)) → take i t ++ (ys ++ drop (j - i) (drop i t)) ≡ turned t i j
unfolding turned
part_turned t i j ys h e =
    let d : i + (j - i) ≡ j = omega arith in
    ap₂ (λ (p q : List ℕ). take i t ++ (p ++ q)) (e ∙ ap reverse (between_is t i j)) (drop-drop (j - i) i t ∙ ap (λ (k : ℕ). drop k t) d)

-- ---- neighbouring parts change places

pub swapped_parts : (a b c z : List ℕ) (o n m : ℕ) → length a ≡ o → length b ≡ n → length c ≡ m → swapped (a ++ (b ++ (c ++ z))) o n m ≡ a ++ (c ++ (b ++ z))
unfolding swapped
swapped_parts a b c z o n m e f g =
    let rest = drop_at a (b ++ (c ++ z)) o e in
    ap₂ (λ (p s : List ℕ). p ++ (take m (drop n s) ++ (take n s ++ drop m (drop n s)))) (take_at a (b ++ (c ++ z)) o e) rest
    ∙ ap₂ (λ (x r : List ℕ). a ++ (take m r ++ (x ++ drop m r))) (take_at b (c ++ z) n f) (drop_at b (c ++ z) n f)
    ∙ ap₂ (λ (x r : List ℕ). a ++ (x ++ (b ++ r))) (take_at c z m g) (drop_at c z m g)

-- no words before them
pub swapped_none : (t : List ℕ) (a m : ℕ) → swapped t a 0 m ≡ t
unfolding swapped
swapped_none t a m = ap (λ (r : List ℕ). take a t ++ r) (take-append-drop m (drop a t)) ∙ take-append-drop a t

-- each turned, then both as one
turned_thrice : (a b c z : List ℕ) (i j k : ℕ) → length a ≡ i → i + length b ≡ j → j + length c ≡ k → turned (turned (turned (a ++ (b ++ (c ++ z))) i j) j k) i k ≡ a ++ (c ++ (b ++ z))
turned_thrice a b c z i j k e f g =
    let lb = length-reverse b in
    let lc = length-reverse c in
    let both : List ℕ = reverse b ++ reverse c in
    let len : length (a ++ reverse b) ≡ j = length-append a (reverse b) ∙ omega arith in
    let lboth : i + length both ≡ k = ap (λ (n : ℕ). i + n) (length-append (reverse b) (reverse c)) ∙ omega arith in
    ap (λ (r : List ℕ). turned (turned r j k) i k) (turned_parts a b (c ++ z) i j e f ∙ sym (append_assoc a (reverse b) (c ++ z)))
    ∙ ap (λ (r : List ℕ). turned r i k)
    (turned_parts (a ++ reverse b) c z j k len g ∙ append_assoc a (reverse b) (reverse c ++ z) ∙ ap (λ (r : List ℕ). a ++ r) (sym (append_assoc (reverse b) (reverse c) z)))
    ∙ turned_parts a both z i k e lboth
    ∙ ap (λ (r : List ℕ). a ++ (r ++ z)) (reverse-append (reverse b) (reverse c) ∙ ap₂ (λ (x y : List ℕ). x ++ y) (reverse-reverse c) (reverse-reverse b))
    ∙ ap (λ (r : List ℕ). a ++ r) (append_assoc c b z)

pub runs_swapped : (t : List ℕ) (place n m from middle to : ℕ) (t1 t2 t3 : List ℕ) → from ≡ min (length t) (place + 0) → middle ≡ min (length t) (from + n) → to ≡ min (length t) (middle + m)
    → t1 ≡ turned t from middle → t2 ≡ turned t1 middle to → t3 ≡ turned t2 from to → t3 ≡ swapped t place n m
unfolding swapped
runs_swapped t place n m from middle to t1 t2 t3 e f g x y z =
    let a : List ℕ = take place t in
    let s : List ℕ = drop place t in
    let b : List ℕ = take n s in
    let r : List ℕ = drop n s in
    let c : List ℕ = take m r in
    let ls : length s ≡ length t - place = length-drop place t in
    let lr : length r ≡ length s - n = length-drop n s in
    let is : t ≡ a ++ (b ++ (c ++ drop m r)) =
    sym (ap (λ (q : List ℕ). a ++ q) (ap (λ (q : List ℕ). b ++ q) (take-append-drop m r) ∙ take-append-drop n s) ∙ take-append-drop place t) in
    z ∙ ap (λ (q : List ℕ). turned q from to) (y ∙ ap (λ (q : List ℕ). turned q middle to) (x ∙ ap (λ (q : List ℕ). turned q from middle) is))
    ∙ turned_thrice a b c (drop m r) from middle to
    (length-take place t ∙ omega arith)
    (ap (λ (q : ℕ). from + q) (length-take n s) ∙ omega arith)
    (ap (λ (q : ℕ). middle + q) (length-take m r) ∙ omega arith)

-- What the words mean where they are the table of lists that fit. Assumes nothing.
use mathlib.Core.Bool.{Bool, true, false, cond, ◌&&◌, ◌||◌}
use mathlib.Core.List.{List, [], ◌∷◌, ◌++◌, append-nil, append_assoc}
use mathlib.Core.Path.{◌≡◌, refl, sym, ap, ap₂, ◌∙◌}
use Prim.Native.Nat.{ℕ, suc, ◌+◌, ◌-◌, ◌≤◌}
use native.Mathlib.Numerals.{add-one}
use native.Mathlib.Omega.{arith}
use lib.Dec.{ltb, leb}
use lib.ListN.{length, get_or, set, take, drop, length-append}
use lib.Seq.{take_at, drop_at, take-append-add, set-append_left, sets}
use borrow.Author.Tests.{ltb-true, leb-true}
use Rattle.laws.specs.Bools.{and_left, and_right}
use Rattle.words.specs.Words.{zeros, padded}
use Rattle.page_list.specs.Pages.{among}
use Rattle.page_list.specs.Runs.{part}
use Rattle.page_list.proofs.Laws.{among_append}
use Rattle.words.proofs.Padded.{length_padded, sets_padded}
use Rattle.lock_table.specs.Locks.{held, total, Fit, room_for, ends, joined, table_of, used, end_of, list_at, lists_from, lists_of, locked_pages, held_in, has_room, one_more, lock_code, lock_words}

-- ---- totals, ends and pages of lists one behind the other

pub total_append : (xs ys : List (List ℕ)) → total (xs ++ ys) ≡ total xs + total ys
unfolding total
total_append [] ys = omega arith
total_append (x ∷ xs) ys = omega (arith, total_append xs ys)

pub total_next : (xs : List (List ℕ)) (x : List ℕ) → total (xs ++ (x ∷ [])) ≡ total xs + length x
unfolding total
total_next xs x = total_append xs (x ∷ []) ∙ omega arith

pub length_next : (xs : List (List ℕ)) (x : List ℕ) → length (xs ++ (x ∷ [])) ≡ suc (length xs)
length_next xs x = length-append xs (x ∷ []) ∙ add-one (length xs)

pub length_ends : (n : ℕ) (ls : List (List ℕ)) → length (ends n ls) ≡ length ls
unfolding ends
length_ends n [] = refl
length_ends n (l ∷ ls) = ap suc (length_ends (n + length l) ls)

pub ends_append : (n : ℕ) (xs ys : List (List ℕ)) → ends n (xs ++ ys) ≡ ends n xs ++ ends (n + total xs) ys
unfolding ends total
ends_append n [] ys = let d : n ≡ n + 0 = omega arith in ap (λ (k : ℕ). ends k ys) d
ends_append n (x ∷ xs) ys =
    let d : n + length x + total xs ≡ n + (length x + total xs) = omega arith in
    ap (λ (r : List ℕ). (n + length x) ∷ r) (ends_append (n + length x) xs ys ∙ ap (λ (k : ℕ). ends (n + length x) xs ++ ends k ys) d)

ends_read : (n : ℕ) (x : List ℕ) (pre rest : List (List ℕ)) (z : List ℕ) → get_or (ends n (x ∷ (pre ++ rest)) ++ z) (length pre) 0 ≡ n + total (x ∷ pre)
unfolding ends total
ends_read n x [] rest z = omega arith
ends_read n x (y ∷ pre) rest z = ends_read (n + length x) y pre rest z ∙ omega arith

pub joined_append : (xs ys : List (List ℕ)) → joined (xs ++ ys) ≡ joined xs ++ joined ys
unfolding joined
joined_append [] ys = refl
joined_append (x ∷ xs) ys = ap (λ (r : List ℕ). x ++ r) (joined_append xs ys) ∙ sym (append_assoc x (joined xs) (joined ys))

pub length_joined : (ls : List (List ℕ)) → length (joined ls) ≡ total ls
unfolding joined total
length_joined [] = refl
length_joined (l ∷ ls) = omega (arith, length-append l (joined ls), length_joined ls)

among_joined : (ls : List (List ℕ)) (p : ℕ) → among (joined ls) p ≡ held ls p
unfolding among joined held
among_joined [] p = refl
among_joined (l ∷ ls) p = among_append l (joined ls) p ∙ ap (λ (b : Bool). among l p || b) (among_joined ls p)

-- ---- a table from its parts: the words before the pages, and the pages

abbrev pub head : List (List ℕ) → List ℕ
head ls = length ls ∷ padded 64 (ends 0 ls)

pub form : (ls : List (List ℕ)) (n : ℕ) (es ps : List ℕ) → n ≡ length ls → es ≡ ends 0 ls → ps ≡ joined ls → n ∷ (padded 64 es ++ padded 1024 ps) ≡ table_of ls
unfolding table_of
form ls n es ps e f g = ap₂ (λ (x y : List ℕ). n ∷ (padded 64 x ++ padded 1024 y)) f g ∙ ap (λ (k : ℕ). k ∷ (padded 64 (ends 0 ls) ++ padded 1024 (joined ls))) e

pub as_one : (h ps : List ℕ) → length h ≡ 65 → h ++ padded 1024 ps ≡ padded 1089 (h ++ ps)
as_one h ps e =
    let d : 1024 - length ps ≡ 1089 - length (h ++ ps) = omega (arith, length-append h ps) in
    sym (append_assoc h ps (zeros (1024 - length ps))) ∙ ap (λ (k : ℕ). (h ++ ps) ++ zeros k) d

part_at : (a x z : List ℕ) (o n : ℕ) → length a ≡ o → o + length x ≡ n → part (a ++ (x ++ z)) n o ≡ x
part_at a x z o n e f =
    let d : n ≡ length a + length x = omega arith in
    ap (drop o) (ap (λ (k : ℕ). take k (a ++ (x ++ z))) d ∙ take-append-add a (x ++ z) (length x) ∙ ap (λ (r : List ℕ). a ++ r) (take_at x z (length x) refl)) ∙ drop_at a x o e

module _ (ls : List (List ℕ)) (fit : Fit ls) where
  pub head_length : length (head ls) ≡ 65
  head_length = ap suc (length_padded 64 (ends 0 ls) (omega (arith, length_ends 0 ls, fit.0)))

  pub table_length : length (table_of ls) ≡ 1089
  unfolding table_of
  table_length =
      length-append (head ls) (padded 1024 (joined ls))
      ∙ omega (arith, head_length, length_padded 1024 (joined ls) (omega (arith, length_joined ls, fit.1)))

  pub table_used : used (table_of ls) ≡ length ls
  unfolding table_of
  table_used = omega (arith, fit.0)

  pub front_length : (pre rest : List (List ℕ)) → ls ≡ pre ++ rest → length (head ls ++ joined pre) ≡ 65 + total pre
  front_length pre rest e = length-append (head ls) (joined pre) ∙ ap₂ (λ (x y : ℕ). x + y) head_length (length_joined pre)

  -- cut before one of its lists
  cut : (pre rest : List (List ℕ)) → ls ≡ pre ++ rest → table_of ls ≡ (head ls ++ joined pre) ++ (joined rest ++ zeros (1024 - length (joined ls)))
  unfolding table_of
  cut pre rest e =
      let z : List ℕ = zeros (1024 - length (joined ls)) in
      ap (λ (r : List ℕ). head ls ++ (r ++ z)) (ap joined e ∙ joined_append pre rest) ∙ ap (λ (r : List ℕ). head ls ++ r) (append_assoc (joined pre) (joined rest) z)
      ∙ sym (append_assoc (head ls) (joined pre) (joined rest ++ z))

  pub end_here : (pre rest : List (List ℕ)) → ls ≡ pre ++ rest → end_of (table_of ls) (length pre) ≡ total pre
  unfolding total table_of
  end_here [] rest e = refl
  end_here (x ∷ pre) rest e =
      let q : List ℕ = padded 1024 (joined ls) in
      let z : List ℕ = zeros (64 - length (ends 0 ls)) in
      let read : get_or (padded 64 (ends 0 ls) ++ q) (length pre) 0 ≡ 0 + (length x + total pre) =
      ap (λ (r : List ℕ). get_or r (length pre) 0) (append_assoc (ends 0 ls) z q) ∙ ap (λ (r : List (List ℕ)). get_or (ends 0 r ++ (z ++ q)) (length pre) 0) e ∙ ends_read 0 x pre rest (z ++ q) in
      omega (arith, read, fit.1, ap total e, total_append (x ∷ pre) rest)

  pub end_next : (pre : List (List ℕ)) (x : List ℕ) (post : List (List ℕ)) → ls ≡ pre ++ (x ∷ post) → end_of (table_of ls) (suc (length pre)) ≡ total pre + length x
  end_next pre x post e =
      ap (end_of (table_of ls)) (sym (length_next pre x)) ∙ end_here (pre ++ (x ∷ [])) post (e ∙ sym (append_assoc pre (x ∷ []) post)) ∙ total_next pre x

  pub list_here : (pre : List (List ℕ)) (x : List ℕ) (post : List (List ℕ)) → ls ≡ pre ++ (x ∷ post) → list_at (table_of ls) (length pre) ≡ x
  unfolding joined
  list_here pre x post e =
      let t : List ℕ = table_of ls in
      let z : List ℕ = zeros (1024 - length (joined ls)) in
      ap₂ (λ (i j : ℕ). part t (65 + i) (65 + j)) (end_next pre x post e) (end_here pre (x ∷ post) e)
      ∙ ap (λ (r : List ℕ). part r (65 + (total pre + length x)) (65 + total pre)) (cut pre (x ∷ post) e ∙ ap (λ (r : List ℕ). (head ls ++ joined pre) ++ r) (append_assoc x (joined post) z))
      ∙ part_at (head ls ++ joined pre) x (joined post ++ z) (65 + total pre) (65 + (total pre + length x)) (front_length pre (x ∷ post) e) (omega arith)

  lists_from_lem : (rest pre : List (List ℕ)) → ls ≡ pre ++ rest → lists_from (table_of ls) (length rest) (length pre) ≡ rest
  unfolding lists_from
  lists_from_lem [] pre e = refl
  lists_from_lem (x ∷ rest) pre e =
      ap₂ (λ (y : List ℕ) (ys : List (List ℕ)). y ∷ ys) (list_here pre x rest e)
      (ap (lists_from (table_of ls) (length rest)) (sym (length_next pre x)) ∙ lists_from_lem rest (pre ++ (x ∷ [])) (e ∙ sym (append_assoc pre (x ∷ []) rest)))

  pub table_lists : lists_of (table_of ls) ≡ ls
  table_lists = ap (λ (k : ℕ). lists_from (table_of ls) k 0) table_used ∙ lists_from_lem ls [] refl

  table_end : end_of (table_of ls) (used (table_of ls)) ≡ total ls
  table_end = ap (end_of (table_of ls)) table_used ∙ end_here ls [] (sym (append-nil ls))

  table_pages : locked_pages (table_of ls) ≡ joined ls
  unfolding table_of
  table_pages =
      ap (λ (k : ℕ). part (table_of ls) (65 + k) 65) table_end
      ∙ part_at (head ls) (joined ls) (zeros (1024 - length (joined ls))) 65 (65 + total ls) head_length (ap (λ (k : ℕ). 65 + k) (length_joined ls))

  -- a page is held
  pub table_held : (p : ℕ) → held_in (table_of ls) p ≡ held ls p
  table_held p = ap (λ (ps : List ℕ). among ps p) table_pages ∙ among_joined ls p

  -- ---- lock
  module _ (l : List ℕ) where
    table_room : has_room (table_of ls) (length l) ≡ room_for ls (length l)
    table_room = ap₂ (λ (c e : ℕ). ltb c 64 && leb (e + length l) 1024) table_used table_end

    pub table_lock_code : lock_code (table_of ls) l ≡ cond (room_for ls (length l)) 0 17
    table_lock_code = ap (λ (b : Bool). cond b 0 17) table_room

    pages_stored : total ls + length l ≤ 1024 → sets (table_of ls) (65 + total ls) l ≡ head ls ++ padded 1024 (joined ls ++ l)
    unfolding table_of
    pages_stored room =
        ap (λ (r : List ℕ). sets r (65 + total ls) l) (as_one (head ls) (joined ls) head_length)
        ∙ sets_padded 1089 (head ls ++ joined ls) l (65 + total ls) (front_length ls [] (sym (append-nil ls))) (omega arith)
        ∙ ap (padded 1089) (append_assoc (head ls) (joined ls) l) ∙ sym (as_one (head ls) (joined ls ++ l) head_length)

    -- where there is room
    stored : room_for ls (length l) ≡ true → one_more (table_of ls) l ≡ table_of (ls ++ (l ∷ []))
    unfolding ends joined
    stored r =
        let few = ltb-true (length ls) 64 (and_left (ltb (length ls) 64) (leb (total ls + length l) 1024) r) in
        let room = leb-true (total ls + length l) 1024 (and_right (ltb (length ls) 64) (leb (total ls + length l) 1024) r) in
        let es : List ℕ = ends 0 ls in
        let v : ℕ = total ls + length l in
        let q : List ℕ = padded 1024 (joined ls ++ l) in
        let long : length (padded 64 es) ≡ 64 = length_padded 64 es (omega (arith, length_ends 0 ls)) in
        ap₂ (λ (c e : ℕ). set (set (sets (table_of ls) (65 + e) l) (c + 1) (e + length l)) 0 (c + 1)) table_used table_end
        ∙ ap₂ (λ (t : List ℕ) (k : ℕ). set (set t k v) 0 (length ls + 1)) (pages_stored room) (add-one (length ls))
        ∙ ap (λ (t : List ℕ). (length ls + 1) ∷ t) (set-append_left (padded 64 es) q (length ls) v (omega arith)
        ∙ ap (λ (t : List ℕ). t ++ q) (sets_padded 64 es (v ∷ []) (length ls) (length_ends 0 ls) (omega arith)))
        ∙ form (ls ++ (l ∷ [])) (length ls + 1) (es ++ (v ∷ [])) (joined ls ++ l) (sym (length-append ls (l ∷ [])))
        (sym (ends_append 0 ls (l ∷ []) ∙ ap (λ (k : ℕ). es ++ ((k + length l) ∷ [])) (plus (total ls)))) (sym (joined_append ls (l ∷ []) ∙ ap (λ (x : List ℕ). joined ls ++ x) (append-nil l)))
      where
        plus : (n : ℕ) → 0 + n ≡ n
        plus n = omega arith

    pub table_lock : lock_words (table_of ls) l ≡ cond (room_for ls (length l)) (table_of (ls ++ (l ∷ []))) (table_of ls)
    table_lock = ap (λ (b : Bool). cond b (one_more (table_of ls) l) (table_of ls)) table_room ∙ go (room_for ls (length l)) refl
      where
        go : (b : Bool) → room_for ls (length l) ≡ b → cond b (one_more (table_of ls) l) (table_of ls) ≡ cond b (table_of (ls ++ (l ∷ []))) (table_of ls)
        go true e = stored e
        go false e = refl

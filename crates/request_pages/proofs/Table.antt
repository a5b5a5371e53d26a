-- Laws of the table: where a list stops, which pages are picked, one page stored after the other, and what a reader finds. Assumes nothing.
use mathlib.Core.Bool.{Bool, true, false, cond, ◌&&◌}
use mathlib.Core.List.{List, [], ◌∷◌, ◌++◌, append-nil, append_assoc}
use mathlib.Core.Logic.{⊎_elim}
use mathlib.Core.Path.{◌≡◌, refl, sym, ap, ap₂, ◌∙◌}
use Prim.Native.Nat.{ℕ, suc, ◌+◌, ◌/◌, ◌≤◌, ◌<◌, min}
use native.Mathlib.Numerals.{add-one}
use native.Mathlib.Omega.{arith}
use lib.ListN.{length, get_or, set, take, drop, length-append, length-take, length-drop, take-append-drop, drop_of_length-le, get_or-append}
use lib.Seq.{drop-cons, take-suc, take_all, take-append_seam, set-append_left, set-append_seam, get_or-append-add}
use Rattle.laws.specs.Bools.{lt_or_le, took}
use Rattle.laws.specs.Lists.{set_append_add}
use Rattle.bitmap.specs.Pages.{bit_at}
use Rattle.page_list.specs.Pages.{pages_of}
use Rattle.page_list.specs.Runs.{part}
use Rattle.page_list.proofs.Laws.{count_numbers}
use Rattle.request_pages.specs.Request.{pick, pick_places, over, table_of, stop_at, is_readable_and_writable}

-- ---- where a list stops
stop_all : (P : ℕ → Bool) (ps : List ℕ) → ((p : ℕ) → P p ≡ true) → stop_at P ps ≡ length ps
unfolding stop_at
stop_all P [] h = refl
stop_all P (p ∷ ps) h = rw (h p) (ap suc (stop_all P ps h))

-- the loop over pages: there is none left, it ends here, it goes on
module _ (P : ℕ → Bool) (ps : List ℕ) where
  pub stop_end : (i : ℕ) → length ps ≤ i → stop_at P (drop i ps) ≡ 0
  unfolding stop_at
  stop_end i h = rw (drop_of_length-le ps h)

  module _ (i p : ℕ) (b : Bool) (h : i < length ps) (e : p ≡ get_or ps i 0) (d : b ≡ P p) where
    stop_turn : stop_at P (drop i ps) ≡ cond b (suc (stop_at P (drop (i + 1) ps))) 0
    unfolding stop_at
    stop_turn = ap (stop_at P) (drop-cons ps i 0 h) ∙ rw (← e, ← d, add-one i)

    pub stop_hit : b ≡ false → stop_at P (drop i ps) ≡ 0
    stop_hit f = rw f at stop_turn

    pub stop_miss : b ≡ true → stop_at P (drop i ps) ≡ suc (stop_at P (drop (i + 1) ps))
    stop_miss f = rw f at stop_turn

module _ (read write : List ℕ) (asked : Bool) where
  pub stop_unasked : (ps : List ℕ) → asked ≡ false → stop_at (is_readable_and_writable read write asked) ps ≡ length ps
  stop_unasked ps e = stop_all (is_readable_and_writable read write asked) ps (λ p. rw e)

  pub open_asked : asked ≡ true → (p : ℕ) (b : Bool) → b ≡ (bit_at 8 read p && bit_at 8 write p) → b ≡ is_readable_and_writable read write asked p
  open_asked a p b d = took asked _ _ b a d

-- ---- the pages that are picked, and their places
module _ (P : ℕ → Bool) where
  pick_more : (ps : List ℕ) (p : ℕ) → pick P (ps ++ (p ∷ [])) ≡ pick P ps ++ cond (P p) (p ∷ []) []
  unfolding pick
  pick_more [] p = refl
  pick_more (q ∷ ps) p = go (P q) (pick_more ps p)
    where
      go : (b : Bool) → pick P (ps ++ (p ∷ [])) ≡ pick P ps ++ cond (P p) (p ∷ []) []
          → cond b (q ∷ pick P (ps ++ (p ∷ []))) (pick P (ps ++ (p ∷ []))) ≡ cond b (q ∷ pick P ps) (pick P ps) ++ cond (P p) (p ∷ []) []
      go true e = ap (λ (l : List ℕ). q ∷ l) e
      go false e = e

  places_more : (i : ℕ) (ps : List ℕ) (p : ℕ) → pick_places P i (ps ++ (p ∷ [])) ≡ pick_places P i ps ++ cond (P p) ((i + length ps) ∷ []) []
  unfolding pick_places
  places_more i [] p = let e : i ≡ i + 0 = omega arith in ap (λ (n : ℕ). cond (P p) (n ∷ []) []) e
  places_more i (q ∷ ps) p =
      let e : suc i + length ps ≡ i + suc (length ps) = omega arith in
      go (P q) (places_more (suc i) ps p ∙ ap (λ (n : ℕ). pick_places P (suc i) ps ++ cond (P p) (n ∷ []) []) e)
    where
      go : (b : Bool) → pick_places P (suc i) (ps ++ (p ∷ [])) ≡ pick_places P (suc i) ps ++ cond (P p) ((i + suc (length ps)) ∷ []) []
          → cond b (i ∷ pick_places P (suc i) (ps ++ (p ∷ []))) (pick_places P (suc i) (ps ++ (p ∷ [])))
          ≡ cond b (i ∷ pick_places P (suc i) ps) (pick_places P (suc i) ps) ++ cond (P p) ((i + suc (length ps)) ∷ []) []
      go true e = ap (λ (l : List ℕ). i ∷ l) e
      go false e = e

  pub length_places : (i : ℕ) (ps : List ℕ) → length (pick_places P i ps) ≡ length (pick P ps)
  unfolding pick pick_places
  length_places i [] = refl
  length_places i (p ∷ ps) = go (P p) (length_places (suc i) ps)
    where
      go : (b : Bool) → length (pick_places P (suc i) ps) ≡ length (pick P ps)
          → length (cond b (i ∷ pick_places P (suc i) ps) (pick_places P (suc i) ps)) ≡ length (cond b (p ∷ pick P ps) (pick P ps))
      go true e = ap suc e
      go false e = e

  pub length_pick : (ps : List ℕ) → length (pick P ps) ≤ length ps
  unfolding pick
  length_pick [] = omega arith
  length_pick (p ∷ ps) = go (P p) (length_pick ps)
    where
      go : (b : Bool) → length (pick P ps) ≤ length ps → length (cond b (p ∷ pick P ps) (pick P ps)) ≤ suc (length ps)
      go true h = omega arith
      go false h = omega arith

-- ---- words laid over the start of a run
length_over : (xs t : List ℕ) → length xs ≤ length t → length (over xs t) ≡ length t
length_over xs t h = simp (length-append, length-drop) (omega arith)

over_more : (xs t : List ℕ) (v : ℕ) → length xs < length t → set (over xs t) (length xs) v ≡ over (xs ++ (v ∷ [])) t
over_more xs t v h =
    let e : suc (length xs) ≡ length (xs ++ (v ∷ [])) = simp length-append (omega arith) in
    ap (λ (l : List ℕ). set (xs ++ l) (length xs) v) (drop-cons t (length xs) 0 h)
    ∙ set-append_seam xs (get_or t (length xs) 0) (drop (suc (length xs)) t) v
    ∙ ap (λ (n : ℕ). xs ++ v ∷ drop n t) e
    ∙ sym (append_assoc xs (v ∷ []) (drop (length (xs ++ (v ∷ []))) t))

-- ---- the table
pub table_none : (P : ℕ → Bool) (t : List ℕ) → t ≡ table_of P [] t
unfolding table_of pick pick_places
table_none P t = sym (take-append-drop 512 t)

module _ (P : ℕ → Bool) (ps t : List ℕ) where
  -- the pages in use are those that were picked
  pub in_use : part (table_of P ps t) (length (pick P ps)) 0 ≡ pick P ps
  unfolding table_of
  in_use =
      let xs : List ℕ = pick P ps in
      ap (take (length xs)) (append_assoc xs (drop (length xs) (take 512 t)) (over (pick_places P 0 ps) (drop 512 t)))
      ∙ take-append_seam xs (drop (length xs) (take 512 t) ++ over (pick_places P 0 ps) (drop 512 t))

  module _ (n : length t ≡ 1024) (h : length ps ≤ 512) where
    length_pages : length (over (pick P ps) (take 512 t)) ≡ 512
    length_pages =
        length_over (pick P ps) (take 512 t) (omega (arith, length-take 512 t, length_pick P ps)) ∙ simp length-take (omega arith)

    length_their : length (over (pick_places P 0 ps) (drop 512 t)) ≡ 512
    length_their =
        length_over (pick_places P 0 ps) (drop 512 t) (omega (arith, length-drop 512 t, length_places P 0 ps, length_pick P ps))
        ∙ simp length-drop (omega arith)

    pub length_table : length (table_of P ps t) ≡ 1024
    unfolding table_of
    length_table =
        length-append (over (pick P ps) (take 512 t)) (over (pick_places P 0 ps) (drop 512 t)) ∙ omega (arith, length_pages, length_their)

    -- and their places stand 512 words further
    pub place_of : (j : ℕ) → j < length (pick P ps) → get_or (table_of P ps t) (512 + j) 0 ≡ get_or (pick_places P 0 ps) j 0
    unfolding table_of
    place_of j d =
        let xs : List ℕ = over (pick P ps) (take 512 t) in
        let ys : List ℕ = over (pick_places P 0 ps) (drop 512 t) in
        let e : 512 + j ≡ length xs + j = omega (arith, length_pages) in
        ap (λ (i : ℕ). get_or (xs ++ ys) i 0) e ∙ get_or-append-add xs ys j 0
        ∙ get_or-append (pick_places P 0 ps) _ 0 j (omega (arith, length_places P 0 ps))

-- ---- a list of up to 4,096 bytes
pub pages_few : (l : List ℕ) → length l ≤ 4096 → length (pages_of l) ≤ 512
pages_few l h = omega (arith, count_numbers l 0 (length l / 8))

-- ---- one page more
module _ (P : ℕ → Bool) (ps t : List ℕ) (p : ℕ) where
  skipped : P p ≡ false → table_of P ps t ≡ table_of P (ps ++ (p ∷ [])) t
  unfolding table_of
  skipped e =
      let f : pick P (ps ++ (p ∷ [])) ≡ pick P ps = pick_more P ps p ∙ rw e (append-nil (pick P ps)) in
      let g : pick_places P 0 (ps ++ (p ∷ [])) ≡ pick_places P 0 ps = places_more P 0 ps p ∙ rw e (append-nil (pick_places P 0 ps)) in
      ap₂ (λ (xs ys : List ℕ). over xs (take 512 t) ++ over ys (drop 512 t)) (sym f) (sym g)

  stored : length t ≡ 1024 → length ps < 512 → P p ≡ true
      → set (set (table_of P ps t) (length (pick P ps)) p) (512 + length (pick P ps)) (length ps) ≡ table_of P (ps ++ (p ∷ [])) t
  unfolding table_of
  stored n h e =
      let k : ℕ = length (pick P ps) in
      let a : List ℕ = take 512 t in
      let b : List ℕ = drop 512 t in
      let xs : List ℕ = pick P ps ++ (p ∷ []) in
      let ys : List ℕ = pick_places P 0 ps in
      let la : length a ≡ 512 = length-take 512 t ∙ omega arith in
      let lb : length b ≡ 512 = length-drop 512 t ∙ omega arith in
      let lk = length_pick P ps in
      let ly = length_places P 0 ps in
      let lx : length (over xs a) ≡ 512 = length_over xs a (simp length-append (omega arith)) ∙ la in
      let more : pick P (ps ++ (p ∷ [])) ≡ xs = pick_more P ps p ∙ rw e in
      let z : 0 + length ps ≡ length ps = omega arith in
      let theirs : pick_places P 0 (ps ++ (p ∷ [])) ≡ ys ++ (length ps ∷ []) = places_more P 0 ps p ∙ rw e (ap (λ (i : ℕ). ys ++ (i ∷ [])) z) in
      let f : 512 + k ≡ length (over xs a) + length ys = omega arith in
      ap (λ (l : List ℕ). set l (512 + k) (length ps))
      (set-append_left (over (pick P ps) a) (over ys b) k p (omega (arith, length_pages P ps t n (omega arith)))
      ∙ ap (λ (l : List ℕ). l ++ over ys b) (over_more (pick P ps) a p (omega arith)))
      ∙ ap (λ (j : ℕ). set (over xs a ++ over ys b) j (length ps)) f
      ∙ set_append_add (over xs a) (over ys b) (length ys) (length ps)
      ∙ ap (λ (l : List ℕ). over xs a ++ l) (over_more ys b (length ps) (omega arith))
      ∙ ap₂ (λ (xs ys : List ℕ). over xs a ++ over ys b) (sym more) (sym theirs)

-- ---- a turn of the loop that stores, as the code names what it reads
pub take_stop : (i stop : ℕ) (ps : List ℕ) → min stop (length ps) ≤ i → i ≤ min stop (length ps) → take i ps ≡ take stop ps
take_stop i stop ps h g =
    ⊎_elim (λ (d : stop < length ps). let e : i ≡ stop = omega arith in ap (λ (n : ℕ). take n ps) e)
    (λ (d : length ps ≤ stop). take_all i ps (omega arith) ∙ sym (take_all stop ps d)) (lt_or_le stop (length ps))

module _ (P : ℕ → Bool) (ps : List ℕ) (i k p : ℕ) (b : Bool) (h : i < length ps) (e : p ≡ get_or ps i 0) (d : b ≡ P p) (f : k ≡ length (pick P (take i ps))) where
  next_page : take (i + 1) ps ≡ take i ps ++ (p ∷ [])
  next_page = rw (add-one) (take-suc ps i 0 h ∙ ap (λ (q : ℕ). take i ps ++ (q ∷ [])) (sym e))

  pub count_more : (k' : ℕ) → k' ≡ cond b (k + 1) k → k' ≡ length (pick P (take (i + 1) ps))
  count_more k' g = g ∙ go b d ∙ ap (λ (l : List ℕ). length (pick P l)) (sym next_page)
    where
      go : (b : Bool) → b ≡ P p → cond b (k + 1) k ≡ length (pick P (take i ps ++ (p ∷ [])))
      go true d = rw (pick_more P (take i ps) p, ← d) (simp length-append (omega arith))
      go false d = rw (pick_more P (take i ps) p, ← d) (simp length-append (omega arith))

  pub table_more : (t t₀ t' : List ℕ) → length t₀ ≡ 1024 → i < 512 → t ≡ table_of P (take i ps) t₀ → t' ≡ cond b (set (set t k p) (512 + k) i) t
      → t' ≡ table_of P (take (i + 1) ps) t₀
  table_more t t₀ t' n s u g = g ∙ go b d ∙ ap (λ (l : List ℕ). table_of P l t₀) (sym next_page)
    where
      was : length (take i ps) ≡ i
      was = length-take i ps ∙ omega arith

      go : (b : Bool) → b ≡ P p → cond b (set (set t k p) (512 + k) i) t ≡ table_of P (take i ps ++ (p ∷ [])) t₀
      go true d =
          rw (u, f) (ap (set (set (table_of P (take i ps) t₀) (length (pick P (take i ps))) p) (512 + length (pick P (take i ps)))) (sym was)
          ∙ stored P (take i ps) t₀ p n (omega (arith, was)) (sym d))
      go false d = u ∙ skipped P (take i ps) t₀ p (sym d)

-- ---- all pages of a list
pub pick_each : (ps : List ℕ) → pick (λ p. true) ps ≡ ps
unfolding pick
pick_each [] = refl
pick_each (p ∷ ps) = ap (λ (qs : List ℕ). p ∷ qs) (pick_each ps)

pub all_more : (ps : List ℕ) (i p : ℕ) (t t₀ t' : List ℕ) → i < length ps → p ≡ get_or ps i 0 → length t₀ ≡ 1024 → i < 512 → t ≡ table_of (λ p. true) (take i ps) t₀
    → t' ≡ set (set t i p) (512 + i) i → t' ≡ table_of (λ p. true) (take (i + 1) ps) t₀
all_more ps i p t t₀ t' h e n s u g =
    let k : i ≡ length (pick (λ p. true) (take i ps)) = sym (ap (length {A = ℕ}) (pick_each (take i ps)) ∙ length-take i ps ∙ omega arith) in
    table_more (λ p. true) ps i i p true h e refl k t t₀ t' n s u g

pub all_long : (ps t : List ℕ) (i : ℕ) → length t ≡ 1024 → length ps ≤ 512 → length (table_of (λ p. true) (take i ps) t) ≡ 1024
all_long ps t i n h = length_table (λ p. true) (take i ps) t n (omega (arith, length-take i ps))

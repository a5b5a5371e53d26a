-- What the words mean where they are the table of entries that fit. Assumes nothing.
use mathlib.Core.Bool.{Bool, true, false, cond, not, ◌||◌}
use mathlib.Core.List.{List, [], ◌∷◌, ◌++◌, append_assoc}
use mathlib.Core.Path.{◌≡◌, refl, sym, ap, ap₂, ◌∙◌}
use Prim.Native.Nat.{ℕ, suc, ◌+◌, ◌-◌, ◌*◌, ◌≤◌, ◌<◌}
use native.Mathlib.Omega.{arith}
use lib.Dec.{eqb, ltb}
use lib.ListN.{length, get_or, set, length-append}
use lib.Seq.{get_or_at, get_or-append-add, sets}
use borrow.Author.Tests.{eq-eqb, ne_eqb, eqb-true, ltb-true}
use Rattle.laws.specs.Bools.{false≢true, or_false}
use Rattle.words.specs.Words.{zeros, padded, closed_to}
use Rattle.laws.specs.Lists.{set_append_add}
use Rattle.words.proofs.Padded.{length_padded, set_padded, sets_padded, closed_padded}
use Rattle.overlay_table.specs.declared.OverlayPage.{OverlayPage}
use Rattle.overlay_table.specs.Overlays.{knows, entry_of, changed, drop_first, with_previous, with_count, words_of, flat, table_of, used, place_from, place_of, is_overlay, entry_at, add_code, add_words, previous_words, count_words, remove_words}

pub length_flat : (es : List OverlayPage) → length (flat es) ≡ 5 * length es
unfolding flat
length_flat [] = refl
length_flat (e ∷ es) = omega (arith, length_flat es)

flat_append : (xs ys : List OverlayPage) → flat (xs ++ ys) ≡ flat xs ++ flat ys
unfolding flat
flat_append [] ys = refl
flat_append (x ∷ xs) ys = ap (λ (r : List ℕ). words_of x ++ r) (flat_append xs ys)

-- words behind the last entry
abbrev left : List OverlayPage → ℕ
left es = 641 - suc (length (flat es))

-- from its parts
form : (es : List OverlayPage) (n : ℕ) (s : List ℕ) → n ≡ length es → s ≡ flat es → padded 641 (n ∷ s) ≡ table_of es
unfolding table_of
form es n s e f = ap₂ (λ (k : ℕ) (r : List ℕ). padded 641 (k ∷ r)) e f

pub table_length : (es : List OverlayPage) → length es ≤ 128 → length (table_of es) ≡ 641
unfolding table_of
table_length es h = length_padded 641 (length es ∷ flat es) (omega (arith, length_flat es))

pub table_used : (es : List OverlayPage) → length es ≤ 128 → used (table_of es) ≡ length es
unfolding table_of
table_used es h = omega arith

-- ---- the first entry of a page

pub record First (es : List OverlayPage) (p : ℕ) : Type 0 where
  pub pre : List OverlayPage
  pub entry : OverlayPage
  pub post : List OverlayPage
  pub here : es ≡ pre ++ (entry ∷ post)
  pub none : knows pre p ≡ false
  pub page : p ≡ entry.gpn

pub first : (es : List OverlayPage) (p : ℕ) → knows es p ≡ true → First es p
unfolding knows
first [] p k = false≢true k
first (e ∷ es) p k = go (eqb p e.gpn) refl k (first es p)
  where
    go : (b : Bool) → eqb p e.gpn ≡ b → (b || knows es p) ≡ true → (knows es p ≡ true → First es p) → First (e ∷ es) p
    go true d m more = record { pre = []; entry = e; post = es; here = refl; none = refl; page = eqb-true p e.gpn d }
    go false d m more =
        let f = more m in
        record {
          pre = e ∷ f.pre;
          entry = f.entry;
          post = f.post;
          here = ap (λ (r : List OverlayPage). e ∷ r) f.here;
          none = rw d f.none;
          page = f.page;
        }

module _ (t a z : List ℕ) (e : OverlayPage) (es : List OverlayPage) (o : ℕ) (is : t ≡ a ++ (flat (e ∷ es) ++ z)) (f : length a ≡ o) where
  apart : t ≡ a ++ (words_of e ++ (flat es ++ z))
  unfolding flat
  apart = is

  step : (k p : ℕ) → place_from t (suc k) o p ≡ cond (eqb p e.gpn) o (place_from t k (o + 5) p)
  unfolding place_from
  step k p = ap (λ (q : ℕ). cond (eqb p q) o (place_from t k (o + 5) p)) (ap (λ (r : List ℕ). get_or r o 0) apart ∙ get_or_at a _ _ 0 o f)

  past : t ≡ (a ++ words_of e) ++ (flat es ++ z)
  past = apart ∙ sym (append_assoc a (words_of e) (flat es ++ z))

  past_length : length (a ++ words_of e) ≡ o + 5
  past_length = length-append a (words_of e) ∙ omega (arith, f)

  step_on : (k p : ℕ) → eqb p e.gpn ≡ false → place_from t (suc k) o p ≡ place_from t k (o + 5) p
  step_on k p d = step k p ∙ ap (λ (b : Bool). cond b o (place_from t k (o + 5) p)) d

knows_not : (e : OverlayPage) (es : List OverlayPage) (p : ℕ) → knows (e ∷ es) p ≡ false → (eqb p e.gpn ≡ false) × (knows es p ≡ false)
unfolding knows
knows_not e es p k = or_false (eqb p e.gpn) (knows es p) k

place_none : (es : List OverlayPage) (t a z : List ℕ) (o p : ℕ) → t ≡ a ++ (flat es ++ z) → length a ≡ o → knows es p ≡ false → place_from t (length es) o p ≡ 0
unfolding place_from
place_none [] t a z o p is f k = refl
place_none (e ∷ es) t a z o p is f k =
    let d = knows_not e es p k in
    step_on t a z e es o is f (length es) p d.0 ∙ place_none es t (a ++ words_of e) z (o + 5) p (past t a z e es o is f) (past_length t a z e es o is f) d.1

place_at : (pre : List OverlayPage) (e : OverlayPage) (post : List OverlayPage) (t a z : List ℕ) (o p : ℕ) → t ≡ a ++ (flat (pre ++ (e ∷ post)) ++ z) → length a ≡ o → knows pre p ≡ false → p ≡ e.gpn
    → place_from t (length (pre ++ (e ∷ post))) o p ≡ o + 5 * length pre
place_at [] e post t a z o p is f k q =
    let d : o ≡ o + 5 * 0 = omega arith in
    step t a z e post o is f (length post) p ∙ ap (λ (b : Bool). cond b o (place_from t (length post) (o + 5) p)) (eq-eqb p e.gpn q) ∙ d
place_at (x ∷ pre) e post t a z o p is f k q =
    let d = knows_not x pre p k in
    let es : List OverlayPage = pre ++ (e ∷ post) in
    let w : o + 5 + 5 * length pre ≡ o + 5 * suc (length pre) = omega arith in
    step_on t a z x es o is f (length es) p d.0 ∙ place_at pre e post t (a ++ words_of x) z (o + 5) p (past t a z x es o is f) (past_length t a z x es o is f) d.1 q ∙ w

-- ---- a table of entries that fit
module _ (es : List OverlayPage) (fits : length es ≤ 128) (p : ℕ) where
  whole : table_of es ≡ (length es ∷ []) ++ (flat es ++ zeros (left es))
  unfolding table_of
  whole = refl

  pub no_place : knows es p ≡ false → place_of (table_of es) p ≡ 0
  no_place k = ap (λ (n : ℕ). place_from (table_of es) n 1 p) (table_used es fits) ∙ place_none es (table_of es) (length es ∷ []) (zeros (left es)) 1 p whole refl k

  pub first_place : (f : First es p) → place_of (table_of es) p ≡ 1 + 5 * length f.pre
  first_place f =
      ap (λ (n : ℕ). place_from (table_of es) n 1 p) (table_used es fits ∙ ap (length {A = OverlayPage}) f.here)
      ∙ place_at f.pre f.entry f.post (table_of es) (length es ∷ []) (zeros (left es)) 1 p (whole ∙ ap (λ (r : List OverlayPage). (length es ∷ []) ++ (flat r ++ zeros (left es))) f.here) refl f.none f.page

  pub table_overlay : is_overlay (table_of es) p ≡ knows es p
  table_overlay = go (knows es p) refl
    where
      go : (b : Bool) → knows es p ≡ b → is_overlay (table_of es) p ≡ b
      go false k = ap not (eq-eqb (place_of (table_of es) p) 0 (no_place k))
      go true k = let d = first_place (first es p k) in ap not (ne_eqb (place_of (table_of es) p) 0 (λ e. omega (arith, d, e)))

-- ---- an entry at its place, read, changed and taken out
module _ (pre : List OverlayPage) (e : OverlayPage) (post : List OverlayPage) (fits : length (pre ++ (e ∷ post)) ≤ 128) where
  abbrev all : List OverlayPage
  all = pre ++ (e ∷ post)

  abbrev head : List ℕ
  head = length all ∷ flat pre

  abbrev at : ℕ
  at = 1 + 5 * length pre

  head_length : length head ≡ at
  head_length = omega (arith, length_flat pre)

  at_entry : table_of all ≡ padded 641 (head ++ (words_of e ++ flat post))
  unfolding table_of flat
  at_entry = ap (λ (s : List ℕ). padded 641 (length all ∷ s)) (flat_append pre (e ∷ post))

  read : (k : ℕ) → get_or (table_of all) (at + k) 0 ≡ get_or (words_of e ++ (flat post ++ zeros (641 - length (head ++ (words_of e ++ flat post))))) k 0
  read k =
      let z : List ℕ = zeros (641 - length (head ++ (words_of e ++ flat post))) in
      ap₂ (λ (r : List ℕ) (n : ℕ). get_or r (n + k) 0) (at_entry ∙ append_assoc head (words_of e ++ flat post) z) (sym head_length) ∙ get_or-append-add head (words_of e ++ (flat post ++ z)) k 0

  pub entry_here : entry_at (table_of all) at ≡ e
  entry_here = let d : at ≡ at + 0 = omega arith in rw (ap (λ (k : ℕ). get_or (table_of all) k 0) d ∙ read 0, read 1, read 2, read 3, read 4) refl

  same_count : (x : OverlayPage) → length all ≡ length (pre ++ (x ∷ post))
  same_count x = length-append pre (e ∷ post) ∙ sym (length-append pre (x ∷ post))

  -- one word of it written
  written : (k v : ℕ) (x : OverlayPage) → k < 5 → set (words_of e ++ flat post) k v ≡ words_of x ++ flat post → set (table_of all) (at + k) v ≡ table_of (pre ++ (x ∷ post))
  unfolding flat
  written k v x h w =
      let s : List ℕ = words_of e ++ flat post in
      let inside : at + k < length (head ++ s) = omega (arith, length-append head s, head_length) in
      ap (λ (r : List ℕ). set r (at + k) v) at_entry ∙ set_padded 641 (head ++ s) (at + k) v inside
      ∙ ap (padded 641) (ap (λ (n : ℕ). set (head ++ s) (n + k) v) (sym head_length) ∙ set_append_add head s k v ∙ ap (λ (r : List ℕ). head ++ r) w)
      ∙ form (pre ++ (x ∷ post)) (length all) (flat pre ++ (words_of x ++ flat post)) (same_count x) (sym (flat_append pre (x ∷ post)))

  pub previous_here : (v : ℕ) → previous_words (table_of all) at v ≡ table_of (pre ++ (with_previous v e ∷ post))
  previous_here v = written 1 v (with_previous v e) (omega arith) refl

  pub count_here : (n : ℕ) → count_words (table_of all) at n ≡ table_of (pre ++ (with_count n e ∷ post))
  count_here n = written 3 n (with_count n e) (omega arith) refl

  pub remove_here : remove_words (table_of all) at ≡ table_of (pre ++ post)
  remove_here =
      let s : List ℕ = words_of e ++ flat post in
      let long : length (head ++ s) ≡ 1 + 5 * used (table_of all) = omega (arith, length-append head s, head_length, length_flat post, length-append pre (e ∷ post), table_used all fits) in
      let count : used (table_of all) - 1 ≡ length (pre ++ post) = omega (arith, table_used all fits, length-append pre (e ∷ post), length-append pre post) in
      ap (λ (r : List ℕ). set (closed_to r at 5 (1 + 5 * used (table_of all))) 0 (used (table_of all) - 1)) at_entry
      ∙ ap (λ (r : List ℕ). set r 0 (used (table_of all) - 1)) (closed_padded 641 head (words_of e) (flat post) at 5 (1 + 5 * used (table_of all)) head_length refl long (omega arith))
      ∙ form (pre ++ post) (used (table_of all) - 1) (flat pre ++ flat post) count (sym (flat_append pre post))

-- ---- the first entry of a page, read, changed or gone

module _ (g : OverlayPage → OverlayPage) (p : ℕ) where
  first_is : (pre : List OverlayPage) (e : OverlayPage) (post : List OverlayPage) → knows pre p ≡ false → p ≡ e.gpn
      → (entry_of (pre ++ (e ∷ post)) p ≡ e) × (changed g (pre ++ (e ∷ post)) p ≡ pre ++ (g e ∷ post)) × (drop_first (pre ++ (e ∷ post)) p ≡ pre ++ post)
  unfolding entry_of changed drop_first
  first_is [] e post k q = let b = eq-eqb p e.gpn q in (rw b refl, rw b refl, rw b refl)
  first_is (x ∷ pre) e post k q =
      let d = knows_not x pre p k in
      let m = first_is pre e post d.1 q in
      let more : List OverlayPage → List OverlayPage = λ (r : List OverlayPage). x ∷ r in
      (rw d.0 m.0, rw d.0 (ap more m.1), rw d.0 (ap more m.2))

  pub changed_length : (es : List OverlayPage) → length (changed g es p) ≡ length es
  unfolding changed
  changed_length [] = refl
  changed_length (e ∷ es) = go (eqb p e.gpn) (changed_length es)
    where
      go : (b : Bool) → length (changed g es p) ≡ length es → length (cond b (g e ∷ es) (e ∷ changed g es p)) ≡ suc (length es)
      go true m = refl
      go false m = ap suc m

pub drop-length : (es : List OverlayPage) (p : ℕ) → length (drop_first es p) ≤ length es
unfolding drop_first
drop-length [] p = omega arith
drop-length (e ∷ es) p = go (eqb p e.gpn) (drop-length es p)
  where
    go : (b : Bool) → length (drop_first es p) ≤ length es → length (cond b es (e ∷ drop_first es p)) ≤ suc (length es)
    go true m = omega arith
    go false m = omega arith

module _ (es : List OverlayPage) (fits : length es ≤ 128) (p : ℕ) (f : First es p) where
  abbrev parts : List OverlayPage
  parts = f.pre ++ (f.entry ∷ f.post)

  room : length parts ≤ 128
  room = omega (arith, ap (length {A = OverlayPage}) f.here)

  -- a table read or written at a page's first entry is read or written at its place
  at_first : {X : Type 0} (g : List ℕ → ℕ → X) → g (table_of es) (place_of (table_of es) p) ≡ g (table_of parts) (1 + 5 * length f.pre)
  at_first g = ap₂ g (ap table_of f.here) (first_place es fits p f)

  is : (g : OverlayPage → OverlayPage) → (entry_of es p ≡ f.entry) × (changed g es p ≡ f.pre ++ (g f.entry ∷ f.post)) × (drop_first es p ≡ f.pre ++ f.post)
  is g =
      let m = first_is g p f.pre f.entry f.post f.none f.page in
      (ap (λ (r : List OverlayPage). entry_of r p) f.here ∙ m.0, ap (λ (r : List OverlayPage). changed g r p) f.here ∙ m.1, ap (λ (r : List OverlayPage). drop_first r p) f.here ∙ m.2)

  pub table_entry : entry_at (table_of es) (place_of (table_of es) p) ≡ entry_of es p
  table_entry = at_first entry_at ∙ entry_here f.pre f.entry f.post room ∙ sym (is (λ e. e)).0

  pub table_count : (n : ℕ) → count_words (table_of es) (place_of (table_of es) p) n ≡ table_of (changed (with_count n) es p)
  table_count n = at_first (λ t o. count_words t o n) ∙ count_here f.pre f.entry f.post room n ∙ ap table_of (sym (is (with_count n)).1)

  pub table_remove : remove_words (table_of es) (place_of (table_of es) p) ≡ table_of (drop_first es p)
  table_remove = at_first remove_words ∙ remove_here f.pre f.entry f.post room ∙ ap table_of (sym (is (λ e. e)).2)

-- ---- one entry more
module _ (es : List OverlayPage) (fits : length es ≤ 128) where
  pub table_add_code : add_code (table_of es) ≡ cond (ltb (length es) 128) 0 17
  table_add_code = ap (λ (n : ℕ). cond (ltb n 128) 0 17) (table_used es fits)

  added : (e : OverlayPage) → length es < 128 → set (sets (table_of es) (1 + 5 * length es) (words_of e)) 0 (length es + 1) ≡ table_of (es ++ (e ∷ []))
  unfolding table_of flat
  added e h =
      let len : length (length es ∷ flat es) ≡ 1 + 5 * length es = omega (arith, length_flat es) in
      let count : length es + 1 ≡ length (es ++ (e ∷ [])) = sym (length-append es (e ∷ [])) in
      ap (λ (r : List ℕ). set r 0 (length es + 1)) (sets_padded 641 (length es ∷ flat es) (words_of e) (1 + 5 * length es) len (omega arith))
      ∙ form (es ++ (e ∷ [])) (length es + 1) (flat es ++ words_of e) count (sym (flat_append es (e ∷ [])))

  pub table_add : (e : OverlayPage) → add_words (table_of es) e ≡ cond (ltb (length es) 128) (table_of (es ++ (e ∷ []))) (table_of es)
  table_add e =
      ap (λ (n : ℕ). cond (ltb n 128) (set (sets (table_of es) (1 + 5 * n) (words_of e)) 0 (n + 1)) (table_of es)) (table_used es fits) ∙ go (ltb (length es) 128) refl
    where
      go : (b : Bool) → ltb (length es) 128 ≡ b → cond b (set (sets (table_of es) (1 + 5 * length es) (words_of e)) 0 (length es + 1)) (table_of es) ≡ cond b (table_of (es ++ (e ∷ []))) (table_of es)
      go true b = added e (ltb-true (length es) 128 b)
      go false b = refl

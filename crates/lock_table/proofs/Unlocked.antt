-- Unlock, of the table of lists that fit. Assumes nothing.
use mathlib.Core.Bool.{Bool, true, false, cond, ◌||◌}
use mathlib.Core.List.{List, [], ◌∷◌, ◌++◌, append-nil, append_assoc}
use mathlib.Core.Path.{◌≡◌, refl, sym, ap, ap₂, ◌∙◌}
use Prim.Native.Nat.{ℕ, suc, ◌+◌, ◌-◌, ◌≤◌, min, max}
use native.Mathlib.Numerals.{add-one}
use native.Mathlib.Omega.{arith}
use lib.ListN.{length, set, length-append}
use lib.Seq.{get_or_at, set_at}
use Rattle.laws.specs.Bools.{false≢true, or_false}
use Rattle.words.specs.Words.{zeros, padded, closed_to, swapped}
use Rattle.words.proofs.Padded.{closed_padded, swapped_padded}
use Rattle.lock_table.specs.Locks.{total, Fit, same, kept, last_of, all_but_last, last_first, unlocked, ends, joined, table_of, used, end_of, equal_from, moved, without, unlock_code, unlock_words}
use Rattle.lock_table.proofs.Laws.{list_removed}
use Rattle.lock_table.proofs.Lists.{total_append, total_next, length_next, length_ends, ends_append, joined_append, length_joined, head, form, as_one, head_length, front_length, table_used, end_here, end_next, list_here, table_lists}

-- ---- ends moved, by b pages less and d more

unfoldable shifted : ℕ → ℕ → List ℕ → List ℕ
shifted b d [] = []
shifted b d (e ∷ es) = (min 1024 e - b + d) ∷ shifted b d es

length_shifted : (b d : ℕ) (es : List ℕ) → length (shifted b d es) ≡ length es
unfolding shifted
length_shifted b d [] = refl
length_shifted b d (e ∷ es) = ap suc (length_shifted b d es)

moved_all : (es a z : List ℕ) (k b d : ℕ) → length a ≡ k → moved (a ++ (es ++ z)) (length es) k b d ≡ a ++ (shifted b d es ++ z)
unfolding moved shifted
moved_all [] a z k b d f = refl
moved_all (e ∷ es) a z k b d f =
    let v : ℕ = min 1024 e - b + d in
    ap (λ (w : ℕ). moved (set (a ++ (e ∷ (es ++ z))) k (min 1024 w - b + d)) (length es) (suc k) b d) (get_or_at a e (es ++ z) 0 k f)
    ∙ ap (λ (r : List ℕ). moved r (length es) (suc k) b d) (set_at a e (es ++ z) v k f ∙ sym (append_assoc a (v ∷ []) (es ++ z)))
    ∙ moved_all es (a ++ (v ∷ [])) z (suc k) b d (length-append a (v ∷ []) ∙ omega arith) ∙ append_assoc a (v ∷ []) (shifted b d es ++ z)

shifted_ends : (b d e f : ℕ) (ls : List (List ℕ)) → b ≤ e → e + total ls ≤ 1024 → e - b + d ≡ f → shifted b d (ends e ls) ≡ ends f ls
unfolding shifted ends total
shifted_ends b d e f [] h g k = refl
shifted_ends b d e f (l ∷ ls) h g k =
    let here : min 1024 (e + length l) - b + d ≡ f + length l = omega arith in
    ap₂ (λ (x : ℕ) (xs : List ℕ). x ∷ xs) here (shifted_ends b d (e + length l) (f + length l) ls (omega arith) (omega arith) (omega arith))

-- the ends behind those of i lists moved, the last one gone
ends_gone : (es ms ps : List ℕ) (v c i b d : ℕ) → length es ≡ i → i + length ms + 1 ≡ c → c ≤ 64
    → set (set (moved (c ∷ (padded 64 (es ++ (ms ++ (v ∷ []))) ++ ps)) (length ms) (suc i) b d) c 0) 0 (c - 1) ≡ (c - 1) ∷ (padded 64 (es ++ shifted b d ms) ++ ps)
ends_gone es ms ps v c i b d e f g =
    let all : List ℕ = es ++ (ms ++ (v ∷ [])) in
    let sh : List ℕ = shifted b d ms in
    let n : ℕ = 64 - length all in
    let zs : List ℕ = zeros n in
    let long = length-append es (ms ++ (v ∷ [])) in
    let more = length-append ms (v ∷ []) in
    let less = length-append es sh in
    let as_many = length_shifted b d ms in
    let is : c ∷ ((all ++ zs) ++ ps) ≡ (c ∷ es) ++ (ms ++ (v ∷ (zs ++ ps))) =
    ap (λ (r : List ℕ). c ∷ r) (append_assoc all zs ps ∙ append_assoc es (ms ++ (v ∷ [])) (zs ++ ps) ∙ ap (λ (r : List ℕ). es ++ r) (append_assoc ms (v ∷ []) (zs ++ ps))) in
    let at : length ((c ∷ es) ++ sh) ≡ c = length-append (c ∷ es) sh ∙ omega arith in
    let one : suc n ≡ 64 - length (es ++ sh) = omega arith in
    ap (λ (r : List ℕ). set (set (moved r (length ms) (suc i) b d) c 0) 0 (c - 1)) is
    ∙ ap (λ (r : List ℕ). set (set r c 0) 0 (c - 1)) (moved_all ms (c ∷ es) (v ∷ (zs ++ ps)) (suc i) b d (ap suc e) ∙ sym (append_assoc (c ∷ es) sh (v ∷ (zs ++ ps))))
    ∙ ap (λ (r : List ℕ). set r 0 (c - 1)) (set_at ((c ∷ es) ++ sh) v (zs ++ ps) 0 c at)
    ∙ ap (λ (r : List ℕ). (c - 1) ∷ r) (sym (append_assoc (es ++ sh) (0 ∷ zs) ps) ∙ ap (λ (k : ℕ). ((es ++ sh) ++ zeros k) ++ ps) one)

-- ---- a list is gone, and the last, where there is one behind it, stands in its place
module _ (ls pre mid last : List (List ℕ)) (x : List ℕ) (fit : Fit ls) (here : ls ≡ pre ++ (x ∷ (mid ++ last))) where
  abbrev front : List ℕ
  front = head ls ++ joined pre

  abbrev end : ℕ
  end = total pre + length x

  abbrev left : List (List ℕ)
  left = pre ++ (last ++ mid)

  sizes : (total ls ≡ end + total mid + total last) × (length ls ≡ suc (length left)) × (total left + length x ≡ total ls)
  unfolding total
  sizes =
      let a = ap (length {A = List ℕ}) here ∙ length-append pre (x ∷ (mid ++ last)) in
      let b = length-append mid last in
      let c = length-append pre (last ++ mid) ∙ ap (λ (k : ℕ). length pre + k) (length-append last mid) in
      let d = ap total here ∙ total_append pre (x ∷ (mid ++ last)) in
      let e = total_append mid last in
      let f = total_append pre (last ++ mid) ∙ ap (λ (k : ℕ). total pre + k) (total_append last mid) in
      (omega arith, omega arith, omega arith)

  table_words : table_of ls ≡ padded 1089 ((front ++ x) ++ (joined mid ++ joined last))
  unfolding table_of joined
  table_words =
      as_one (head ls) (joined ls) (head_length ls fit)
      ∙ ap (λ (r : List ℕ). padded 1089 (head ls ++ r)) (ap joined here ∙ joined_append pre (x ∷ (mid ++ last)) ∙ ap (λ (r : List ℕ). joined pre ++ (x ++ r)) (joined_append mid last))
      ∙ ap (padded 1089) (sym (append_assoc (head ls) (joined pre) (x ++ (joined mid ++ joined last))) ∙ sym (append_assoc front x (joined mid ++ joined last)))

  -- by what the table reads: how far it is to the last list, and how long that is
  pages_gone_lem : (m z g : ℕ) → m ≡ 65 + end + total mid → z ≡ m + total last → g ≡ length x
      → closed_to (swapped (table_of ls) (65 + end) (m - (65 + end)) (z - m)) (65 + total pre) g z ≡ head ls ++ padded 1024 (joined left)
  pages_gone_lem m z g e f k =
      let rest : List ℕ = joined last ++ joined mid in
      let lm : length (joined mid) ≡ m - (65 + end) = length_joined mid ∙ omega arith in
      let lz : length (joined last) ≡ z - m = length_joined last ∙ omega arith in
      let lf : length front ≡ 65 + total pre = front_length ls fit pre (x ∷ (mid ++ last)) here in
      let lx : length (front ++ x) ≡ 65 + end = length-append front x ∙ omega arith in
      let lr : length rest ≡ total last + total mid = length-append (joined last) (joined mid) ∙ ap₂ (λ (i j : ℕ). i + j) (length_joined last) (length_joined mid) in
      let long : length (front ++ (x ++ rest)) ≡ z = length-append front (x ++ rest) ∙ ap (λ (i : ℕ). length front + i) (length-append x rest) ∙ omega arith in
      let short : z ≤ 1089 = omega (arith, sizes.0, fit.1) in
      ap (λ (r : List ℕ). closed_to (swapped r (65 + end) (m - (65 + end)) (z - m)) (65 + total pre) g z) table_words
      ∙ ap (λ (r : List ℕ). closed_to r (65 + total pre) g z)
      (swapped_padded 1089 (front ++ x) (joined mid) (joined last) (65 + end) (m - (65 + end)) (z - m) lx lm lz ∙ ap (padded 1089) (append_assoc front x rest))
      ∙ closed_padded 1089 front x rest (65 + total pre) g z lf (sym k) long short
      ∙ ap (padded 1089) (append_assoc (head ls) (joined pre) rest ∙ ap (λ (r : List ℕ). head ls ++ r) (sym (joined_append pre (last ++ mid) ∙ ap (λ (r : List ℕ). joined pre ++ r) (joined_append last mid))))
      ∙ sym (as_one (head ls) (joined left) (head_length ls fit))

  -- y pages stand before the last list; ms are the ends of the lists behind pre but the last, v is its end
  gone_here : (y : ℕ) (ms : List ℕ) (v : ℕ) → end_of (table_of ls) (length ls - 1) ≡ y → max (65 + end) (65 + y) ≡ 65 + end + total mid → ends 0 ls ≡ ends 0 pre ++ (ms ++ (v ∷ []))
      → shifted end (total pre + (total ls - y)) ms ≡ ends (total pre) (last ++ mid) → without (table_of ls) (length ls) (length pre) ≡ table_of left
  gone_here y ms v ey top es sh =
      let t : List ℕ = table_of ls in
      let c : ℕ = length ls in
      let i : ℕ = length pre in
      let z : ℕ = total ls in
      let d : ℕ = total pre + (z - y) in
      let eb : end ≡ end_of t (i + 1) = sym (ap (end_of t) (add-one i) ∙ end_next ls fit pre x (mid ++ last) here) in
      let ea : total pre ≡ end_of t i = sym (end_here ls fit pre (x ∷ (mid ++ last)) here) in
      let ez : z ≡ end_of t c = sym (end_here ls fit ls [] (sym (append-nil ls))) in
      let many : i + length ms + 1 ≡ c =
      sym (sym (length_ends 0 ls) ∙ ap (length {A = ℕ}) es ∙ length-append (ends 0 pre) (ms ++ (v ∷ [])) ∙ omega (arith, length-append ms (v ∷ []), length_ends 0 pre)) in
      let n : c - (i + 1) ≡ length ms = omega arith in
      let less : c - 1 ≡ length left = omega (arith, sizes.1) in
      let width : end - total pre ≡ length x = omega arith in
      let q : List ℕ = padded 1024 (joined left) in
      sym (list_removed t c i (total pre) end y z (end - total pre) (z - y) ea eb (sym ey) ez refl refl _ _ _ _ _ refl refl refl refl refl)
      ∙ ap (λ (r : List ℕ). set (set (moved r (c - (i + 1)) (i + 1) end d) c 0) 0 (c - 1)) (pages_gone_lem (max (65 + end) (65 + y)) (65 + z) (end - total pre) top (ends_at (max (65 + end) (65 + y)) sizes.0 top) width)
      ∙ ap₂ (λ (k j : ℕ). set (set (moved (c ∷ (padded 64 (ends 0 ls) ++ q)) k j end d) c 0) 0 (c - 1)) n (add-one i)
      ∙ ap (λ (r : List ℕ). set (set (moved (c ∷ (padded 64 r ++ q)) (length ms) (suc i) end d) c 0) 0 (c - 1)) es
      ∙ ends_gone (ends 0 pre) ms q v c i end d (length_ends 0 pre) many fit.0
      ∙ form left (c - 1) (ends 0 pre ++ shifted end d ms) (joined left) less (ap (λ (r : List ℕ). ends 0 pre ++ r) sh ∙ sym (ends_append 0 pre (last ++ mid) ∙ from_none)) refl
    where
      ends_at : (m : ℕ) → total ls ≡ end + total mid + total last → m ≡ 65 + end + total mid → 65 + total ls ≡ m + total last
      ends_at m e f = omega arith

      from_none : ends 0 pre ++ ends (0 + total pre) (last ++ mid) ≡ ends 0 pre ++ ends (total pre) (last ++ mid)
      from_none = let e : 0 + total pre ≡ total pre = omega arith in ap (λ (k : ℕ). ends 0 pre ++ ends k (last ++ mid)) e

-- the ends of all lists, those from list x on apart
ends_from : (ls pre post : List (List ℕ)) (x : List ℕ) → ls ≡ pre ++ (x ∷ post) → ends 0 ls ≡ ends 0 pre ++ ((total pre + length x) ∷ ends (total pre + length x) post)
unfolding ends
ends_from ls pre post x e =
    let d : 0 + total pre ≡ total pre = omega arith in
    ap (ends 0) e ∙ ends_append 0 pre (x ∷ post) ∙ ap (λ (k : ℕ). ends 0 pre ++ ((k + length x) ∷ ends (k + length x) post)) d

-- where the last begins
last_here : (ls before : List (List ℕ)) (y : List ℕ) → Fit ls → ls ≡ before ++ (y ∷ []) → end_of (table_of ls) (length ls - 1) ≡ total before
last_here ls before y fit e =
    let n : length ls - 1 ≡ length before = omega (arith, ap (length {A = List ℕ}) e, length_next before y) in
    ap (end_of (table_of ls)) n ∙ end_here ls fit before (y ∷ []) e

-- the last is gone
without_last : (ls pre : List (List ℕ)) (x : List ℕ) → Fit ls → ls ≡ pre ++ (x ∷ []) → without (table_of ls) (length ls) (length pre) ≡ table_of pre
unfolding shifted ends total
without_last ls pre x fit e =
    let end : ℕ = total pre + length x in
    gone_here ls pre [] [] x fit e (total pre) [] end (last_here ls pre x fit e) (omega arith) (ends_from ls pre [] x e) refl ∙ ap table_of (append-nil pre)

-- another is gone
without_other : (ls pre mid : List (List ℕ)) (x y : List ℕ) → Fit ls → ls ≡ pre ++ (x ∷ (mid ++ (y ∷ []))) → without (table_of ls) (length ls) (length pre) ≡ table_of (pre ++ (y ∷ mid))
unfolding shifted ends total
without_other ls pre mid x y fit e =
    let end : ℕ = total pre + length x in
    let before : List (List ℕ) = pre ++ (x ∷ mid) in
    let cuts : ls ≡ before ++ (y ∷ []) = e ∙ sym (append_assoc pre (x ∷ mid) (y ∷ [])) in
    let fore : total before ≡ end + total mid = total_append pre (x ∷ mid) ∙ omega arith in
    let all : total ls ≡ end + total mid + length y = ap total cuts ∙ total_next before y ∙ ap (λ (k : ℕ). k + length y) fore in
    let d : ℕ = total pre + (total ls - total before) in
    let first : min 1024 end - end + d ≡ total pre + length y = omega (arith, fit.1) in
    let same_ends : ends 0 ls ≡ ends 0 pre ++ ((end ∷ ends end mid) ++ ((end + total mid + length y) ∷ [])) =
    ends_from ls pre (mid ++ (y ∷ [])) x e ∙ ap (λ (r : List ℕ). ends 0 pre ++ (end ∷ r)) (ends_append end mid (y ∷ [])) in
    gone_here ls pre mid (y ∷ []) x fit e (total before) (end ∷ ends end mid) (end + total mid + length y) (last_here ls before y fit cuts) (omega arith) same_ends
    (ap₂ (λ (k : ℕ) (r : List ℕ). k ∷ r) first (shifted_ends end d end (total pre + length y) mid (omega arith) (omega (arith, fit.1)) (omega arith)))

-- ---- where the first list that is equal stands

pub record First (ls : List (List ℕ)) (l : List ℕ) : Type 0 where
  pub pre : List (List ℕ)
  pub list : List ℕ
  pub post : List (List ℕ)
  pub here : ls ≡ pre ++ (list ∷ post)
  pub none : kept pre l ≡ false
  pub equal : same list l ≡ true

pub first : (ls : List (List ℕ)) (l : List ℕ) → kept ls l ≡ true → First ls l
unfolding kept
first [] l k = false≢true k
first (x ∷ xs) l k = go (same x l) refl k (first xs l)
  where
    go : (b : Bool) → same x l ≡ b → (b || kept xs l) ≡ true → (kept xs l ≡ true → First xs l) → First (x ∷ xs) l
    go true d m more = record { pre = []; list = x; post = xs; here = refl; none = refl; equal = d }
    go false d m more =
        let f = more m in
        record {
          pre = x ∷ f.pre;
          list = f.list;
          post = f.post;
          here = ap (λ (r : List (List ℕ)). x ∷ r) f.here;
          none = rw d f.none;
          equal = f.equal;
        }

kept_not : (x : List ℕ) (xs : List (List ℕ)) (l : List ℕ) → kept (x ∷ xs) l ≡ false → (same x l ≡ false) × (kept xs l ≡ false)
unfolding kept
kept_not x xs l k = or_false (same x l) (kept xs l) k

equal_at : (pre : List (List ℕ)) (x : List ℕ) (post ls before : List (List ℕ)) (l : List ℕ) → Fit ls → ls ≡ before ++ (pre ++ (x ∷ post)) → kept pre l ≡ false → same x l ≡ true
    → equal_from (table_of ls) (length (pre ++ (x ∷ post))) (length before) l ≡ length before + length pre
unfolding equal_from
equal_at [] x post ls before l fit e k s =
    let d : length before ≡ length before + 0 = omega arith in
    ap (λ (b : Bool). cond b (length before) (equal_from (table_of ls) (length post) (suc (length before)) l)) (ap (λ (y : List ℕ). same y l) (list_here ls fit before x post e) ∙ s) ∙ d
equal_at (y ∷ pre) x post ls before l fit e k s =
    let rest : List (List ℕ) = pre ++ (x ∷ post) in
    let f = kept_not y pre l k in
    let d : suc (length before) + length pre ≡ length before + suc (length pre) = omega arith in
    ap (λ (b : Bool). cond b (length before) (equal_from (table_of ls) (length rest) (suc (length before)) l)) (ap (λ (q : List ℕ). same q l) (list_here ls fit before y rest e) ∙ f.0)
    ∙ ap (λ (i : ℕ). equal_from (table_of ls) (length rest) i l) (sym (length_next before y))
    ∙ equal_at pre x post ls (before ++ (y ∷ [])) l fit (e ∙ sym (append_assoc before (y ∷ []) rest)) f.1 s ∙ ap (λ (i : ℕ). i + length pre) (length_next before y) ∙ d

-- ---- what the lists become

pub none_unlocked : (ls : List (List ℕ)) (l : List ℕ) → kept ls l ≡ false → unlocked ls l ≡ ls
unfolding unlocked
none_unlocked [] l k = refl
none_unlocked (x ∷ xs) l k = let d = kept_not x xs l k in rw d.0 (ap (λ (r : List (List ℕ)). x ∷ r) (none_unlocked xs l d.1))

pub first_unlocked : (pre : List (List ℕ)) (x : List ℕ) (post : List (List ℕ)) (l : List ℕ) → kept pre l ≡ false → same x l ≡ true → unlocked (pre ++ (x ∷ post)) l ≡ pre ++ last_first post
unfolding unlocked
first_unlocked [] x post l k s = rw s refl
first_unlocked (y ∷ pre) x post l k s = let d = kept_not y pre l k in rw d.0 (ap (λ (r : List (List ℕ)). y ∷ r) (first_unlocked pre x post l d.1 s))

ends_with : (x : List ℕ) (xs : List (List ℕ)) → x ∷ xs ≡ all_but_last x xs ++ (last_of x xs ∷ [])
unfolding all_but_last last_of
ends_with x [] = refl
ends_with x (y ∷ ys) = ap (λ (r : List (List ℕ)). x ∷ r) (ends_with y ys)

without_at : (ls pre : List (List ℕ)) (x : List ℕ) (post : List (List ℕ)) → Fit ls → ls ≡ pre ++ (x ∷ post) → without (table_of ls) (length ls) (length pre) ≡ table_of (pre ++ last_first post)
unfolding last_first
without_at ls pre x [] fit e = without_last ls pre x fit e ∙ ap table_of (sym (append-nil pre))
without_at ls pre x (y ∷ ys) fit e = without_other ls pre (all_but_last y ys) x (last_of y ys) fit (e ∙ ap (λ (r : List (List ℕ)). pre ++ (x ∷ r)) (ends_with y ys))

module _ (ls : List (List ℕ)) (fit : Fit ls) (l : List ℕ) where
  abbrev gone : List ℕ
  gone = without (table_of ls) (used (table_of ls)) (equal_from (table_of ls) (used (table_of ls)) 0 l)

  first_gone : (f : First ls l) → gone ≡ without (table_of ls) (length ls) (length f.pre)
  first_gone f =
      let d : 0 + length f.pre ≡ length f.pre = omega arith in
      ap (λ (n : ℕ). without (table_of ls) n (equal_from (table_of ls) n 0 l)) (table_used ls fit)
      ∙ ap (without (table_of ls) (length ls)) (ap (λ (n : ℕ). equal_from (table_of ls) n 0 l) (ap (length {A = List ℕ}) f.here)
      ∙ equal_at f.pre f.list f.post ls [] l fit f.here f.none f.equal ∙ d)

  pub table_unlock_code : unlock_code (table_of ls) l ≡ cond (kept ls l) 0 18
  table_unlock_code = ap (λ (xs : List (List ℕ)). cond (kept xs l) 0 18) (table_lists ls fit)

  pub table_unlock : unlock_words (table_of ls) l ≡ table_of (unlocked ls l)
  table_unlock = ap (λ (xs : List (List ℕ)). cond (kept xs l) gone (table_of ls)) (table_lists ls fit) ∙ go (kept ls l) refl
    where
      go : (b : Bool) → kept ls l ≡ b → cond b gone (table_of ls) ≡ table_of (unlocked ls l)
      go true k =
          let f = first ls l k in
          first_gone f ∙ without_at ls f.pre f.list f.post fit f.here
          ∙ ap table_of (sym (ap (λ (r : List (List ℕ)). unlocked r l) f.here ∙ first_unlocked f.pre f.list f.post l f.none f.equal))
      go false k = ap table_of (sym (none_unlocked ls l k))

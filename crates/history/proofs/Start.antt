-- A visibility change that is taken: the pages that it asks for are listed, RAM, apart from each other, and bear neither mark once it has cleared theirs.
-- Assumes nothing.
use Prim.Native.Nat.{ℕ, zero, suc, ◌<◌}
use mathlib.Core.Path.{◌≡◌, refl, sym, ap, ◌∙◌}
use mathlib.Core.List.{List, [], ◌∷◌}
use mathlib.Core.Bool.{Bool, true, false, cond, ◌||◌}
use native.Mathlib.Omega.{arith}
use lib.ListN.{length, get_or, take}
use lib.Dec.{eqb}
use borrow.Author.Tests.{eqb-true}
use Rattle.laws.specs.Bools.{or_false}
use Rattle.laws.specs.Refusal.{passed}
use Rattle.bitmap.proofs.Map.{length_written}
use Rattle.layout.specs.declared.MemoryRangeWithNode.{MemoryRangeWithNode}
use Rattle.layout.specs.Layout.{is_ram}
use Rattle.permissions.specs.declared.GuestVtl.{GuestVtl}
use Rattle.page_list.specs.Pages.{among, repeats}
use Rattle.page_list.specs.Runs.{part}
use Rattle.page_list.proofs.Laws.{among_at}
use Rattle.request_pages.specs.Request.{pick, wanted, put}
use Rattle.visibility_steps.specs.declared.Phase.{Phase}
use Rattle.visibility_steps.specs.declared.Phase.TheVariants as at
use Rattle.visibility_steps.specs.declared.Request.{Request}
use Rattle.visibility_steps.specs.Steps.{asked, cleared}
use Rattle.protector.specs.Writes.{put_places}
use Rattle.call_refusals.specs.Refusals.{page_refusal, first_refusal}
use Rattle.change_claims.proofs.Made.{among_take, among_pick}
use Rattle.history.specs.Marks.{Has}
use Rattle.history.proofs.Bits.{clash, in_part, clear_kept, clear_gone, clear_same, not_among, none_among, was_private, was_shared}
use Rattle.history.proofs.Right.{opened, Right}

-- ---- a part of a list, and what is picked of it

pub repeats_take : (k : ℕ) (ps : List ℕ) → repeats ps ≡ false → repeats (take k ps) ≡ false
unfolding repeats
repeats_take zero ps e = refl
repeats_take (suc k) [] e = refl
repeats_take (suc k) (p ∷ ps) e =
    let z = or_false (among ps p) (repeats ps) e in
    go (among (take k ps) p) (λ d. clash _ (among_take k ps p d) z.0) (repeats_take k ps z.1)
  where
    go : (b : Bool) → (b ≡ true → ⊥) → repeats (take k ps) ≡ false → (b || repeats (take k ps)) ≡ false
    go true f r = absurd (f refl)
    go false f r = r

pub repeats_pick : (P : ℕ → Bool) (ps : List ℕ) → repeats ps ≡ false → repeats (pick P ps) ≡ false
unfolding repeats pick
repeats_pick P [] e = refl
repeats_pick P (p ∷ ps) e =
    let z = or_false (among ps p) (repeats ps) e in
    go (P p) (among (pick P ps) p) (λ d. clash _ (among_pick P ps p d) z.0) (repeats_pick P ps z.1)
  where
    both : (b : Bool) → (b ≡ true → ⊥) → repeats (pick P ps) ≡ false → (b || repeats (pick P ps)) ≡ false
    both true f r = absurd (f refl)
    both false f r = r

    go : (c b : Bool) → (among (pick P ps) p ≡ true → ⊥) → repeats (pick P ps) ≡ false → repeats (cond c (p ∷ pick P ps) (pick P ps)) ≡ false
    go true b f r = both (among (pick P ps) p) f r
    go false b f r = r

-- what is picked holds, and no two places have one page
pub holds : (P : ℕ → Bool) (ps : List ℕ) (j : ℕ) → j < length (pick P ps) → P (get_or (pick P ps) j 0) ≡ true
unfolding pick
holds P [] j h = absurd (omega arith)
holds P (p ∷ ps) j h = go (P p) refl j h (holds P ps)
  where
    go : (c : Bool) → P p ≡ c → (j : ℕ) → j < length (cond c (p ∷ pick P ps) (pick P ps)) → ((j : ℕ) → j < length (pick P ps) → P (get_or (pick P ps) j 0) ≡ true)
        → P (get_or (cond c (p ∷ pick P ps) (pick P ps)) j 0) ≡ true
    go false e j h r = r j h
    go true e zero h r = e
    go true e (suc j) h r = r j (omega arith)

pub places_apart : (l : List ℕ) → repeats l ≡ false → (i j : ℕ) → i < length l → j < length l → get_or l i 0 ≡ get_or l j 0 → i ≡ j
unfolding repeats
places_apart [] e i j a b d = absurd (omega arith)
places_apart (p ∷ l) e zero zero a b d = refl
places_apart (p ∷ l) e zero (suc j) a b d =
    let z = or_false (among l p) (repeats l) e in clash (among l p) (ap (among l) d ∙ among_at l j (omega arith)) z.0
places_apart (p ∷ l) e (suc i) zero a b d =
    let z = or_false (among l p) (repeats l) e in clash (among l p) (ap (among l) (sym d) ∙ among_at l i (omega arith)) z.0
places_apart (p ∷ l) e (suc i) (suc j) a b d =
    let z = or_false (among l p) (repeats l) e in ap suc (places_apart l z.1 i j (omega arith) (omega arith) d)

-- ---- every listed page passed

pub first_all : (f : ℕ → ℕ) (ps : List ℕ) (q : ℕ) → first_refusal f ps ≡ 0 → among ps q ≡ true → f q ≡ 0
unfolding among first_refusal
first_all f [] q h e = clash false e refl
first_all f (p ∷ ps) q h e = go (eqb (f p) 0) refl (eqb q p) refl h e (first_all f ps q)
  where
    go : (b : Bool) → eqb (f p) 0 ≡ b → (c : Bool) → eqb q p ≡ c → cond b (first_refusal f ps) (f p) ≡ 0 → (c || among ps q) ≡ true → (first_refusal f ps ≡ 0 → among ps q ≡ true → f q ≡ 0) → f q ≡ 0
    go true x true y h e r = ap f (eqb-true q p y) ∙ eqb-true _ _ x
    go true x false y h e r = r h e
    go false x c y h e r = clash (eqb (f p) 0) (ap (λ (k : ℕ). eqb k 0) h) x

pub ram_page : (es : List MemoryRangeWithNode) (overlays locks : List ℕ) (share : Bool) (p : ℕ) → page_refusal es overlays locks share p ≡ 0 → is_ram es p ≡ true
ram_page es overlays locks share p h = (passed (is_ram es p) 6 _ h).0

-- ---- the start

module _ (ram : ℕ → Bool) (P S : List ℕ) (p : Phase) (q : Request) (t₀ listed₀ : List ℕ) (last : ℕ → Bool) (g : Right ram P S p q t₀ false listed₀ last) (shut : opened p ≡ false)
    (t listed : List ℕ) (n stop : ℕ) (stopped tracked : Bool) (v : GuestVtl) (once : (i j : ℕ) → i < n → j < n → get_or t i 0 ≡ get_or t j 0 → i ≡ j)
    (within : (j : ℕ) → j < n → ram (get_or t j 0) ≡ true) (named : (j : ℕ) → j < n → among listed (get_or t j 0) ≡ true) where
  exact : (z : ℕ) → ram z ≡ true → (last z ≡ false → Has P z) × (last z ≡ true → Has S z)
  exact z r = g.full z r (λ j o. clash (opened p) o shut) (λ e. clash false e refl)

  abbrev Starts : Bool → Type 0
  Starts b =
      Right ram (put_places t (cleared tracked v b n).private (cleared tracked v b n).state P) (put_places t (cleared tracked v b n).shared (cleared tracked v b n).state S) at.Wait (asked v b n stop stopped) t false listed
      last

  start_share : ((j : ℕ) → j < n → wanted S true (get_or t j 0) ≡ true) → Starts true
  unfolding cleared put
  start_share wants =
      record {
        room_private = λ z r. omega (arith, length_written 8 (among (part t n 0)) false P, g.room_private z r);
        room_shared = λ z r. omega (arith, length_written 8 (among (part t 0 0)) false S, g.room_shared z r);
        private_ram_lem = λ z h. g.private_ram_lem z (clear_kept _ P z h);
        shared_ram = λ z h. g.shared_ram z (clear_kept _ S z h);
        only_private = λ z h. g.only_private z (clear_kept _ P z h);
        only_shared = λ z h. g.only_shared z (clear_kept _ S z h);
        full = λ z r a off.
            (λ l. clear_same (among (part t n 0)) P z (not_among n t z (λ j x d y. a j refl x d y)) ((exact z r).0 l), λ l. clear_same (among (part t 0 0)) S z (none_among t z) ((exact z r).1 l));
        bare = λ _ j h d. (
          λ k. clear_gone (among (part t n 0)) P (get_or t j 0) (in_part n t j h d) k,
          λ k. fresh_page (get_or t j 0) (wants j h) (clear_kept (among (part t 0 0)) S (get_or t j 0) k),
        );
        once = λ _ i j h k _ _ e. once i j h k e;
        toward = λ _ j h d. was_private (last (get_or t j 0)) S (get_or t j 0) (wants j h) (λ e. (exact (get_or t j 0) (within j h)).1 e);
        within = λ _ j h d. within j h;
        named = λ _ j h d. named j h;
      }
    where
      fresh_page : (z : ℕ) → wanted S true z ≡ true → Has S z → ⊥
      fresh_page z h k = clash false (sym (ap (λ (b : Bool). cond b false true) k) ∙ h) refl

  start_return : ((j : ℕ) → j < n → wanted S false (get_or t j 0) ≡ true) → Starts false
  unfolding cleared put
  start_return wants =
      record {
        room_private = λ z r. omega (arith, length_written 8 (among (part t 0 0)) false P, g.room_private z r);
        room_shared = λ z r. omega (arith, length_written 8 (among (part t n 0)) false S, g.room_shared z r);
        private_ram_lem = λ z h. g.private_ram_lem z (clear_kept _ P z h);
        shared_ram = λ z h. g.shared_ram z (clear_kept _ S z h);
        only_private = λ z h. g.only_private z (clear_kept _ P z h);
        only_shared = λ z h. g.only_shared z (clear_kept _ S z h);
        full = λ z r a off.
            (λ l. clear_same (among (part t 0 0)) P z (none_among t z) ((exact z r).0 l), λ l. clear_same (among (part t n 0)) S z (not_among n t z (λ j x d y. a j refl x d y)) ((exact z r).1 l));
        bare = λ _ j h d. (
          λ k. clash (last (get_or t j 0)) (g.only_shared (get_or t j 0) (was_shared S (get_or t j 0) (wants j h))) (g.only_private (get_or t j 0) (clear_kept (among (part t 0 0)) P (get_or t j 0) k)),
          λ k. clear_gone (among (part t n 0)) S (get_or t j 0) (in_part n t j h d) k,
        );
        once = λ _ i j h k _ _ e. once i j h k e;
        toward = λ _ j h d. g.only_shared (get_or t j 0) (was_shared S (get_or t j 0) (wants j h));
        within = λ _ j h d. within j h;
        named = λ _ j h d. named j h;
      }

  pub start_right : (b : Bool) → ((j : ℕ) → j < n → wanted S b (get_or t j 0) ≡ true) → Starts b
  start_right true = start_share
  start_right false = start_return

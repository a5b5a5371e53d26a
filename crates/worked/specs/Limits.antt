-- The limits of the tables, on tables that calls make: document 01, "Overlays and locks", "From the state" 17. Each call begins from the table that the call before
-- it left.
use Rattle.std.specs.Prelude.{List, [], ◌∷◌, ◌≡◌, ℕ, zero, suc, ◌+◌, replicate}
use Rattle.call_refusals.specs.Buffers.{Buffers}
use Rattle.overlay_entries.specs.Calls.{register_of}
use Rattle.lock_entries.specs.Calls.{kept, lock_of, unlock_of}
use Rattle.visibility_claims.specs.Table.{page, fresh}
use Rattle.worked.specs.Crossing.{ok, refused, keeps, waits, after, first, settings, tables, lock_table, one_locked, no_tables, rest, forgotten}

-- ---- n overlays of VTL0: Dma pages from 40 on, without flags

unfoldable pub dma_from : ℕ → ℕ → List ℕ
dma_from p zero = []
dma_from p (suc k) = p ∷ 0 ∷ 0 ∷ 1 ∷ 1 ∷ dma_from (suc p) k

-- 128 of them, and page 5 locked
abbrev pub full_locked : Buffers
full_locked = rest first (settings 2 1 0 0 15 16) (tables (128 ∷ dma_from 40 128) [] (one_locked 5) [])

abbrev pub holding : ℕ → Buffers
holding n = rest first (settings 2 1 0 0 15 16) (tables (n ∷ dma_from 40 n) [] [] [])

-- k register calls from n overlays on, each with its three operations done; and what they leave
unfoldable pub registered : ℕ → ℕ → List Buffers
registered n zero = []
registered n (suc k) = forgotten (after 3 (register_of (holding n) 0 (40 + n) 1 0 16)) ∷ registered (suc n) k

unfoldable pub holdings : ℕ → ℕ → List Buffers
holdings n zero = []
holdings n (suc k) = holding n ∷ holdings (suc n) k

pub record OverlayLimit : Type 0 where
  pub none : holding 0 ≡ fresh
  pub full : register_of (holding 128) 0 168 1 0 16 ≡ keeps (holding 128) (refused 17 0)
  pub full_guest : register_of (holding 128) 0 5 0 15 4 ≡ keeps (holding 128) (refused 17 0)
  -- a locked page is told first
  pub full_held : register_of full_locked 0 5 0 15 4 ≡ keeps full_locked (refused 10 8)
  -- neither a known page is barred, nor the other VTL
  pub full_known : (register_of (holding 128) 0 40 1 0 16).reply ≡ ok 0
  pub full_other : (register_of (holding 128) 1 168 1 0 16).reply ≡ waits

pub record FirstOverlays : Type 0 where
  pub made : registered 0 64 ≡ holdings 1 64

pub record LastOverlays : Type 0 where
  pub made : registered 64 64 ≡ holdings 65 64

-- ---- n lists of VTL0, of one page each; and n of page 0, 64 times each

-- k numbers from p on, each greater than the one before it by s
unfoldable pub steps_from : ℕ → ℕ → ℕ → List ℕ
steps_from s p zero = []
steps_from s p (suc k) = p ∷ steps_from s (p + s) k

abbrev pub singles : ℕ → List ℕ
singles n = tables [] [] (lock_table n (steps_from 1 1 n) (steps_from 1 0 n)) []

abbrev pub blocked : ℕ → List ℕ
blocked n = tables [] [] (lock_table n (steps_from 64 64 n) []) []

unfoldable pub lock_singles : ℕ → ℕ → List (List ℕ)
lock_singles n zero = []
lock_singles n (suc k) = (lock_of fresh.state (singles n) 0 (page n [])).tables ∷ lock_singles (suc n) k

unfoldable pub lock_blocks : ℕ → ℕ → List (List ℕ)
lock_blocks n zero = []
lock_blocks n (suc k) = (lock_of fresh.state (blocked n) 0 (replicate 512 0)).tables ∷ lock_blocks (suc n) k

unfoldable pub tables_from : (ℕ → List ℕ) → ℕ → ℕ → List (List ℕ)
tables_from f n zero = []
tables_from f n (suc k) = f n ∷ tables_from f (suc n) k

pub record LockLimits : Type 0 where
  pub none : singles 0 ≡ no_tables
  pub lists_64 : lock_singles 0 64 ≡ tables_from singles 1 64
  pub list_65 : lock_of fresh.state (singles 64) 0 [] ≡ kept (singles 64) (refused 17 0)
  pub list_65_other : (lock_of fresh.state (singles 64) 1 []).reply ≡ ok 0
  -- a freed place is used again
  pub freed : (lock_of fresh.state (unlock_of fresh.state (singles 64) 0 (page 9 [])).tables 0 []).reply ≡ ok 0

pub record PageLimits : Type 0 where
  pub pages_1024 : lock_blocks 0 16 ≡ tables_from blocked 1 16
  pub page_1025 : lock_of fresh.state (blocked 16) 0 (page 0 []) ≡ kept (blocked 16) (refused 17 0)
  pub no_page_more : (lock_of fresh.state (blocked 16) 0 []).reply ≡ ok 0

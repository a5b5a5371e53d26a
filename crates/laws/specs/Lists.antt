-- Lists of words. Assumes nothing.
use Rattle.std.specs.Prelude.{List, [], ◌∷◌, ◌++◌, ◌≡◌, ℕ, ◌+◌, length, set}
use Rattle.std.proofs.Common.{ap, ◌∙◌, zero-add, suc-add}

-- a word written past a first part
pub set_append_add : (a s : List ℕ) (k v : ℕ) → set (a ++ s) (length a + k) v ≡ a ++ set s k v
set_append_add [] s k v = ap (λ (i : ℕ). set s i v) (zero-add k)
set_append_add (x ∷ a) s k v = ap (λ (i : ℕ). set (x ∷ (a ++ s)) i v) (suc-add (length a) k) ∙ ap (λ (r : List ℕ). x ∷ r) (set_append_add a s k v)
